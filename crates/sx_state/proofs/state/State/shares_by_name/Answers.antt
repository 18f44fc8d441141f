use Rattle.std.proofs.Common.{Bor, ◌≡◌, ◌∙◌, ℕ, IfOk, List, ap, map, reverse, subst, sym}
use Rattle.std.proofs.lemmas.List.{reverse-reverse}
use Rattle.sx_tree.specs.declared.share.Share.{Share}
use Rattle.sx_spec.specs.Account.{Store}
use Rattle.sx_spec.specs.Pages.{by_name}
use Rattle.sx_state.specs.Named.{in_order}
use Rattle.sx_state.proofs.Named.{by_name-is}
use Rattle.sx_state.proofs.state.State.shares_by_name.Goals as goal

pub returns : goal.returns
returns c =
    let lent : Bor Share → Share = λ (s : Bor Share). s.now in
    let turned : in_order (map lent (reverse c.reverse.new.self.items)) ≡ in_order (map (λ (x : ℕ × Share). x.1) c.self.inside.shares.entries) =
    ap (λ (xs : List (Bor Share)). in_order (map lent (reverse xs))) c.reverse.ensures.items
    ∙ ap (λ (xs : List (Bor Share)). in_order (map lent xs)) (reverse-reverse c.in_ok-listed.listed.items)
    ∙ ap in_order c.in_ok-listed.ensures in
    let whole : in_order (map lent (reverse c.reverse.new.self.items)) ≡ by_name c.args.self.now.shares =
    turned ∙ ap (λ (s : Store). in_order (map (λ (x : ℕ × Share). x.1) s.shares)) c.self.view_is ∙ sym (by_name-is c.args.self.now.shares) in
    subst (λ (xs : List Share). IfOk c.in_order.result (λ v. map lent v.items ≡ xs)) whole c.in_order.ensures
