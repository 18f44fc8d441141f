use Rattle.std.proofs.Common.{◌≡◌, ◌∙◌, Some, None, ap, position, refl, sym}
use Rattle.sx_spec.specs.Checks.{same_lock}
use Rattle.sx_state.proofs.LockRuns.{lock_ends, lock_there, lock_absent, run_beside}
use Rattle.sx_state.proofs.locked.place_of.Goals as goal

pub part_of-requires-clause-order : goal.part_of-requires-clause-order
part_of-requires-clause-order c = rw (c.place_at-first.ensures, c.place_behind-past.ensures.place) (lock_ends c.args.old.now c.args.locks.now)

pub returns-in-Some : goal.returns-in-Some
returns-in-Some c =
    let x = c.args.old.now in
    let ls = c.args.locks.now in
    let run : c.part_of.result.now ≡ run_beside x ls = c.part_of.ensures ∙ rw (c.place_at-first.ensures, c.place_behind-past.ensures.place) refl in
    let at : position (same_lock x) (run_beside x ls) ≡ Some c.in-Some.place =
    ap (position (same_lock x)) (sym run) ∙ sym c.place_among.ensures.place ∙ c.in-Some.is in
    rw c.place_at-first.ensures (sym (lock_there x ls c.in-Some.place c.requires at))

pub returns-in-None : goal.returns-in-None
returns-in-None c =
    let x = c.args.old.now in
    let ls = c.args.locks.now in
    let run : c.part_of.result.now ≡ run_beside x ls = c.part_of.ensures ∙ rw (c.place_at-first.ensures, c.place_behind-past.ensures.place) refl in
    let at : position (same_lock x) (run_beside x ls) ≡ None =
    ap (position (same_lock x)) (sym run) ∙ sym c.place_among.ensures.place ∙ c.in-None.is in
    sym (lock_absent x ls c.requires at)
