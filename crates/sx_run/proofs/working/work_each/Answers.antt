use Rattle.std.proofs.Common.{subst}
use Rattle.sx_run.specs.declared.crew.Worker.{Worker}
use Rattle.sx_run.specs.Crews.{RunsAt}
use Rattle.sx_run.specs.Doors.{rest_talks, smb_talks}
use Rattle.sx_run.proofs.working.work_each.Goals as goal

pub returns : goal.returns
returns g c = record {
  ran = λ i d below.
      let ch = (c.for_each_mut.ensures i d below).1 in
      subst (λ (x : Worker g.row.L.Denot g.row.C.Denot g.row.W.Denot × Worker g.row.L.Denot g.row.C.Denot g.row.W.Denot). RunsAt (rest_talks g.C.Clock.ticks g.W.Random.draws (record {
        wrote = g.L.Link.Sink.wrote;
        peer = g.L.Link.Link.peer_of;
        left = g.L.Link.Source.left;
        reads = g.L.Link.Source.read_count;
        writes = g.L.Link.Sink.write_count;
        calls = g.L.Link.Link.calls;
      }) c.args.account.now) (smb_talks g.C.Clock.ticks (record {
        wrote = g.L.Link.Sink.wrote;
        peer = g.L.Link.Link.peer_of;
        left = g.L.Link.Source.left;
        reads = g.L.Link.Source.read_count;
        writes = g.L.Link.Sink.write_count;
        calls = g.L.Link.Link.calls;
      })) c.args.conns (λ w. record { links = g.L.Listener.links w.listener; faults = g.L.Listener.listen_count w.listener; door = record { clock = w.clock; random = w.random } })
      (λ w. record { links = g.L.Listener.links w.listener; faults = g.L.Listener.listen_count w.listener; door = w.clock }) x.0 x.1)
      (λ j. (ch.argument_is j, ch.left j)) ch.call;
  many = c.for_each_mut.auto.s;
}
