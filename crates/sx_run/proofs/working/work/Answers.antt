use Rattle.std.proofs.Common.{length, sym, ap, ◌∙◌}
use Rattle.sx_run.proofs.Crews.{two_back}
use Rattle.sx_run.proofs.working.work.Goals as goal

pub returns : goal.returns
returns g c = record {
  ran = two_back _ c.args.workers.now.items c.as_mut_slice.result.now c.work_each.new.workers c.args.workers.now.len c.as_mut_slice.ensures.value c.work_each.ensures.many
      (sym c.as_mut_slice.ensures.len ∙ ap length c.as_mut_slice.ensures.value) c.work_each.ensures.ran;
}
