use Rattle.std.proofs.Common.{◌≡◌, ap, sym, ◌∙◌, subst}
use Rattle.sx_turn.specs.Places.{places}
use Rattle.sx_book.specs.Passes.{caller_of, GrowsByOthers, HoldsIn}
use Rattle.sx_book.proofs.Lives.{held_among}
use Rattle.sx_book.proofs.Others.{others_between}
use Rattle.sx_book.proofs.office.Office.meet.Goals as goal

-- what the pass has newly seen are entries of others
pub returns-clause-held : goal.returns-clause-held
returns-clause-held c s h =
    let old = c.into.inside.seat in let new = c.join.new.into in
    let number : new.number ≡ old.number = ap (λ s. s.number) c.join.ensures.met in
    let mine : new.mine ≡ old.mine = ap (λ s. s.mine) c.join.ensures.met in
    let found : old.mine ≡ places caller_of old.number new.seen = sym mine ∙ c.join.ensures.exact.2.0 ∙ ap (λ n. places caller_of n new.seen) number in
    let grows = others_between old.number old.mine old.seen new.seen c.join.ensures.seen.0 found c.join.ensures.exact.0.0 in
    subst (λ n. HoldsIn n new.seen s) (sym (number ∙ ap (λ q. q.number) c.into.view_is))
    (held_among c.args.into.now.number s c.args.into.now.seen new.seen (subst (λ q. GrowsByOthers q.number q.seen new.seen) c.into.view_is grows) h)
