use Rattle.std.proofs.Common.{inr}
use Rattle.sharebox.proofs.Connected.{conn_own}
use Rattle.sharebox.proofs.conn.conn.Goals as goal

pub returns-in-Ok-open : goal.returns-in-Ok-open
returns-in-Ok-open g c = inr (conn_own c.close.result _ (λ f. f.out) g.C.Clock.ticks g.R.Random.draws c.args.account.now (g.K.Sink.wrote c.args.out.now) (g.K.Sink.wrote c.serve_streams-report.new.out) c.in-Ok.office
    c.args.clock.now c.serve_streams-report.new.clock c.args.random.now c.serve_streams-report.new.random _ _ c.open.new.main c.in-Ok-open.pass c.serve_streams-report.new.pass c.meet.new.into c.serve_streams-report.result c.status_after_close.result
    c.in-Ok-open.ensures.ok c.serve_streams-report.ensures.conversation c.serve_streams-report.ensures.history c.serve_streams-report.ensures.pass c.meet.ensures.met c.close.ensures.book c.close.ensures.all c.close.ensures.out (λ f h. h.0) c.status_after_close.ensures)
