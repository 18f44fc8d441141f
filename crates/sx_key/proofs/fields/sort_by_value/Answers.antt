use Rattle.std.proofs.Common.{◌≡◌, rules, tests}
use Rattle.std.specs.Ordering.{is_lt}
use Rattle.std.proofs.lemmas.Cmp.{nat_list_cmp_total}
use Rattle.std.proofs.lemmas.Fn.{always_returns_same}
use Rattle.std.proofs.lemmas.List.Sorted.{ranks_by}
use Rattle.sx_key.specs.Texts.{byte_order}
use Rattle.sx_key.specs.declared.fields.Field.{Field}
use Rattle.sx_key.proofs.fields.sort_by_value.Goals as goal

pub returns-clause-ordered : goal.returns-clause-ordered
returns-clause-ordered c =
    c.sort_unstable_by.ensures.sorted (λ x y. is_lt (byte_order x.value y.value)) (ranks_by nat_list_cmp_total (λ (f : Field). f.value))
    (always_returns_same _ (λ a r. is_lt r ≡ is_lt (byte_order a.0.now.value a.1.0.now.value)) _ (λ a r q k. search (rules, tests)))
