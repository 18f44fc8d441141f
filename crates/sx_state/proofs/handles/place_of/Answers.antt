use Rattle.std.proofs.Common.{◌≡◌, ◌∙◌, ◌<◌, ◌≤◌, Some, ap, true, false, not, get_or, length, subst, sym, rules}
use Rattle.std.specs.List.{prefix_len}
use Rattle.sx_guard.specs.Handle.{handle_before}
use Rattle.sx_call.specs.declared.opens.Open.{Open}
use Rattle.sx_spec.specs.Account.{has_handle}
use Rattle.sx_state.proofs.OpenRuns.{handle_there, handle_nowhere, handle_past, off_of, on_of}
use Rattle.sx_state.proofs.handles.place_of.Goals as goal

pub returns-then-opens-place : goal.returns-then-opens-place
returns-then-opens-place c =
    let h = c.args.handle in
    let os = c.args.opens.now in
    let past : length os ≤ prefix_len (λ (o : Open). handle_before o.handle h) os = search rules in
    sym (handle_past h os c.requires past)

pub returns-then-ne : goal.returns-then-ne
returns-then-ne c =
    let h = c.args.handle in
    let os = c.args.opens.now in
    let d = c.index-opens-place.result in
    let ne : not (has_handle h (get_or os c.place_at-place.result d)) ≡ true = sym c.ne.ensures ∙ c.if-ne.true in
    let off = off_of _ (subst (λ k. not (has_handle h (get_or os k d)) ≡ true) c.place_at-place.ensures.place ne) in
    sym (handle_nowhere h os d c.requires (λ lt. off))

pub returns : goal.returns
returns c =
    let h = c.args.handle in
    let os = c.args.opens.now in
    let d = c.index-opens-place.result in
    let at = c.place_at-place.ensures.place in
    let lt : prefix_len (λ (o : Open). handle_before o.handle h) os < length os = subst (λ k. k < length os) at c.if-opens-place.false in
    let eq : not (has_handle h (get_or os c.place_at-place.result d)) ≡ false = sym c.ne.ensures ∙ c.if-ne.false in
    let on = on_of _ (subst (λ k. not (has_handle h (get_or os k d)) ≡ false) at eq) in
    ap Some at ∙ sym (handle_there h os d c.requires lt on)
