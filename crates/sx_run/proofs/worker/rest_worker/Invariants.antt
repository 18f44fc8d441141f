use Rattle.std.proofs.Common.{◌≡◌, length}
use mathlib.Core.List.{IsPrefix}
use Rattle.sx_book.specs.Passes.{HasOwnPlaces}
use Rattle.sx_run.specs.Doors.{rest_talks}
use Rattle.sx_run.proofs.Visiting.{Working}
use Rattle.sx_run.proofs.worker.rest_worker.Given as goal

-- the links that were served so far, by the pass that was handed in
abbrev pub invariant-loop : goal.invariant-loop
invariant-loop g l =
    Working (rest_talks g.C.Clock.ticks g.W.Random.draws (record {
      wrote = g.L.Link.Sink.wrote;
      peer = g.L.Link.Link.peer_of;
      left = g.L.Link.Source.left;
      reads = g.L.Link.Source.read_count;
      writes = g.L.Link.Sink.write_count;
      calls = g.L.Link.Link.calls;
    }) l.fn.account) l.fn.pass.number l.fn.pass.limit (length l.fn.pass.seen) l.pass.seen l.fn.conns
    (record { links = g.L.Listener.links l.fn.listener; faults = g.L.Listener.listen_count l.fn.listener; door = record { clock = l.fn.clock; random = l.fn.random } })
    (record { links = g.L.Listener.links l.listener; faults = g.L.Listener.listen_count l.listener; door = record { clock = l.clock; random = l.random } }) l.work
    × IsPrefix l.fn.pass.seen l.pass.seen × HasOwnPlaces l.pass
    × (l.pass ≡ record l.fn.pass { seen = l.pass.seen; mine = l.pass.mine })
