use Rattle.std.proofs.Common.{◌≡◌, rules, tests}
use Rattle.std.specs.Ordering.{is_lt}
use Rattle.std.proofs.lemmas.Cmp.{nat_list_cmp_total}
use Rattle.std.proofs.lemmas.Fn.{always_returns_same}
use Rattle.std.proofs.lemmas.List.Sorted.{ranks_by}
use Rattle.sx_key.specs.Texts.{byte_order}
use Rattle.sx_key.specs.declared.fields.Field.{Field}
use Rattle.sx_key.proofs.Grouping.{stable_values}
use Rattle.sx_key.proofs.fields.sort_by_name.Goals as goal

pub returns : goal.returns
returns c =
    let ranks = ranks_by nat_list_cmp_total (λ (f : Field). f.name) in
    let always = always_returns_same _ (λ a r. is_lt r ≡ is_lt (byte_order a.0.now.name a.1.0.now.name)) _ (λ a r q k. search (rules, tests)) in
    let done = c.in_ok-sort_by.ensures in
    record {
      same = done.permutation;
      ordered = done.sorted (λ x y. is_lt (byte_order x.name y.name)) ranks always;
      stable = λ name. stable_values c.args.fields.now.items c.sort_by.new.self.items name (done.stable (λ x y. is_lt (byte_order x.name y.name)) ranks always);
    }
