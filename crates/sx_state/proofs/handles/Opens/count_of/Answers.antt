use Rattle.std.proofs.Common.{◌≡◌, ◌≤◌, ◌∙◌, ap, arith, filter, length}
use Rattle.std.proofs.lemmas.List.Sums.{length-filter, count_by-le-length}
use Rattle.sx_spec.specs.Account.{is_held_by}
use Rattle.sx_state.proofs.handles.Opens.count_of.Goals as goal

pub returns-clause-few : goal.returns-clause-few
returns-clause-few c =
    let keep = is_held_by c.args.session in
    let os = c.args.self.now in
    let run : length c.held_by.result.now ≡ length (filter keep os) = ap length (c.held_by.ensures ∙ ap (filter keep) (c.deref.ensures.value ∙ c.self.view_is)) in
    let few : length (filter keep os) ≤ length os = rw (length-filter keep os) (count_by-le-length keep os) in
    omega (arith, run, few)
