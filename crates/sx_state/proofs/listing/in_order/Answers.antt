use Rattle.std.proofs.Common.{Bor, ◌≡◌, ◌∙◌, ap, map, reverse, rules, tests}
use Rattle.std.specs.Ordering.{is_lt}
use Rattle.std.proofs.lemmas.Cmp.{nat_list_cmp_total}
use Rattle.std.proofs.lemmas.Fn.{always_returns_same}
use Rattle.std.proofs.lemmas.List.Sorted.{ranks_by}
use Rattle.sx_tree.specs.declared.share.Share.{Share}
use Rattle.sx_spec.specs.Pages.{name_before}
use Rattle.sx_state.proofs.ByName.{sorted_is, in_order-map}
use Rattle.sx_state.proofs.listing.in_order.Goals as goal

pub returns : goal.returns
returns c =
    let lent : Bor Share → Share = λ (s : Bor Share). s.now in
    let before = λ (a b : Bor Share). name_before a.now b.now in
    let ranks = ranks_by nat_list_cmp_total (λ (s : Bor Share). s.now.name) in
    let always = always_returns_same _ (λ a r. is_lt r ≡ name_before a.0.now.now a.1.0.now.now) _ (λ a r q k. search (rules, tests)) in
    let done = c.in_ok-sort_by.ensures in
    let xs = c.args.shares.items in
    ap (map lent) (sorted_is before ranks xs c.sort_by.new.self.items (done.sorted before ranks always) (done.stable before ranks always))
    ∙ in_order-map lent name_before (reverse xs)
