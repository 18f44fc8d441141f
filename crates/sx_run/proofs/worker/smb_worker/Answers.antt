use Rattle.std.proofs.Common.{refl, append-nil, [], arith}
use Rattle.sx_run.proofs.Visiting.{working_none, pass_more, pass_ends, so_far, ends_by, count_within, prefix_both}
use Rattle.sx_run.proofs.worker.smb_worker.Goals as goal

pub loop-init : goal.loop-init
loop-init g c = (working_none _ c.args.pass.now.number c.args.pass.now.limit c.args.conns c.args.pass.now.seen _ _ refl refl refl, ([], append-nil c.args.pass.now.seen), c.requires.places, refl)

pub loop-preserved : goal.loop-preserved
loop-preserved g c =
    let inv = c.loop.invariant in
    let served = c.serve_session-report.ensures in
    let given = c.in-Ok.ensures.given in (
      pass_more _ c.args.pass.now c.args.conns _ c.loop.pass c.serve_session-report.new.pass _ _ _ c.in-Ok.link c.serve_session-report.new.link c.serve_session-report.result c.loop.work c.add_link.new.work inv.3 served.pass
          c.ranges.conns.fits given.1 inv.0 given.0 served.history.0 (served.conversation, served.calls) c.finish.ensures.links (omega (arith, c.in-Ok.ensures.later, c.finish.ensures.later)) c.add_link.ensures,
      prefix_both c.args.pass.now.seen c.loop.pass.seen c.serve_session-report.new.pass.seen inv.1 served.history.0,
      served.places,
      so_far c.args.pass.now c.loop.pass c.serve_session-report.new.pass inv.3 served.pass,
    )

pub returns-in-Err-clause-works : goal.returns-in-Err-clause-works
returns-in-Err-clause-works g c =
    let end = c.in-Err.ensures.end in
    pass_ends _ c.args.pass.now c.args.conns _ c.loop.pass _ _ c.loop.work _ c.loop.invariant.3 c.loop.invariant.0 end.1 refl c.in-Err.ensures.later refl
    (λ n count within. ends_by _ c.args.conns c.in-Err.end c.loop.work.served n c.ranges.conns.fits (end.0 (count_within c.args.conns c.loop.work.served n count within)) count within) end.2
