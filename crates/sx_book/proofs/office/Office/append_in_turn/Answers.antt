use Rattle.std.proofs.Common.{ap, sym, ◌∙◌, subst, ◌+◌, ◌≤◌, length}
use Rattle.sx_spec.specs.History.{IsHistory}
use Rattle.sx_spec.specs.Step.{replay}
use Rattle.sx_spec.specs.Whole.{IsWhole}
use Rattle.sx_turn.specs.Seats.{HasPlacesIn, after_take}
use Rattle.sx_book.specs.Passes.{caller_of, GrowsByOthers}
use Rattle.sx_book.proofs.Appended.{others_found, stands_found, appended_ok, appended_none}
use Rattle.sx_book.proofs.office.Office.append_in_turn.Goals as goal

pub append_call-result-requires-clause-session : goal.append_call-result-requires-clause-session
append_call-result-requires-clause-session g c =
    let book = c.take-held.result in
    let grows = others_found c.pass.inside.seat book.entries c.take-held.ensures.seen c.take-held.ensures.exact.0 c.take-held.ensures.exact.1 in
    let legal = subst (λ h. IsHistory h.limit h.entries) c.value.ensures c.keeps.ensures.history in
    stands_found c.args.pass.now c.pass.inside.seat book.entries c.value_mut.result.now.entries book.limit c.number-who.result c.args.session c.args.call
    c.pass.view_is grows legal (ap (λ h. h.entries) c.value_mut.ensures.value) c.number-who.ensures c.requires.session

pub returns-clause-ok : goal.returns-clause-ok
returns-clause-ok g c =
    let s = c.pass.inside.seat in
    let same = sym c.value_mut.ensures.value in
    let grows = others_found s c.take-held.result.entries c.take-held.ensures.seen c.take-held.ensures.exact.0 c.take-held.ensures.exact.1 in
    appended_ok c.args.pass.now s c.take-held.new.seat c.give.new.seat c.value_mut.result.now c.append_call-result.new.book c.number-who.result c.args.session c.args.now c.args.fresh c.args.call c.append_call-result.result
    c.pass.view_is (c.take-held.ensures.taken ∙ ap (λ h. after_take h.entries s) same) (subst (λ h. GrowsByOthers s.number s.seen h.entries) same grows) (sym (ap (λ h. h.limit) same) ∙ c.take-held.ensures.lasting) (subst (λ h. IsHistory h.limit h.entries) (c.value.ensures ∙ same) c.keeps.ensures.history) (subst (λ h. IsWhole (replay h.entries)) (c.value.ensures ∙ same) c.keeps.ensures.whole) c.number-who.ensures
    c.append_call-result.ensures.entries c.append_call-result.ensures.receipt c.append_call-result.ensures.room c.give.ensures.given
    (subst (λ h. HasPlacesIn caller_of h.entries s) same c.take-held.ensures.exact.0) c.append_call-result.ensures.legal

pub returns-clause-stop : goal.returns-clause-stop
returns-clause-stop g c =
    let s = c.pass.inside.seat in
    let same = sym c.value_mut.ensures.value in
    let grows = others_found s c.take-held.result.entries c.take-held.ensures.seen c.take-held.ensures.exact.0 c.take-held.ensures.exact.1 in
    appended_none c.args.pass.now s c.take-held.new.seat c.give.new.seat c.value_mut.result.now c.append_call-result.new.book c.number-who.result c.args.session c.args.now c.args.fresh c.args.call c.append_call-result.result
    c.pass.view_is (c.take-held.ensures.taken ∙ ap (λ h. after_take h.entries s) same) (subst (λ h. GrowsByOthers s.number s.seen h.entries) same grows) (sym (ap (λ h. h.limit) same) ∙ c.take-held.ensures.lasting) (subst (λ h. IsHistory h.limit h.entries) (c.value.ensures ∙ same) c.keeps.ensures.history)
    (subst (λ h. length h.entries + length (replay h.entries).store.sessions ≤ h.limit) (c.value.ensures ∙ same) c.keeps.ensures.room)
    c.append_call-result.ensures.full c.append_call-result.ensures.err c.give.ensures.given
    (subst (λ h. HasPlacesIn caller_of h.entries s) same c.take-held.ensures.exact.0)
