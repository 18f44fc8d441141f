use Rattle.std.proofs.Common.{◌-◌, ◌≤◌, ◌≡◌}
use Rattle.sx_book.specs.Passes.{HoldsSession, KeepsSessions}
use Rattle.sx_smb_door.specs.Asking.{caller_in}
use Rattle.sx_book.specs.Reports.{HasText}
use Rattle.sx_smb_door.specs.Conversation.{line_answers}
use Rattle.sx_smb_door.specs.Lines.{line_stream}
use Rattle.sx_smb_door.proofs.Turns.{Going}
use Rattle.sx_smb_door.proofs.session.serve_lines.Given as goal

-- the lines so far, with what was written for them; the pass still holds the session
abbrev pub invariant-loop-line : goal.invariant-loop-line
invariant-loop-line g l = record {
  run : (going : Going g.C.Clock.ticks (caller_in l.fn.pass l.session)
      (line_stream l.fn.reader (g.L.Source.left l.fn.link)) (line_stream l.reader (g.L.Source.left l.link))
      (record { pass = l.fn.pass; clock = l.fn.clock; tally = l.fn.tally }) (record { pass = l.pass; clock = l.clock; tally = l.tally }) l.reader.taken)
      × HasText (g.L.Sink.wrote l.fn.link) (g.L.Sink.wrote l.link) (line_answers (caller_in l.fn.pass l.session) going.turns);
  held : HoldsSession l.pass l.session;
  keeps : KeepsSessions l.fn.pass l.pass;
  own : l.pass.office ≡ l.office;
  pass : l.pass ≡ record l.fn.pass { seen = l.pass.seen; mine = l.pass.mine };
  budget : l.reader.budget ≡ l.fn.reader.budget;
  asked : l.tally.asked ≤ l.reader.taken;
  reads : g.L.Source.read_count l.link ≡ g.L.Source.read_count l.fn.link;
  writes : g.L.Sink.write_count l.link ≡ g.L.Sink.write_count l.fn.link;
  calls : g.L.Link.calls l.fn.link l.link;
}

abbrev pub decreases-loop-line : goal.decreases-loop-line
decreases-loop-line g l = l.reader.budget - l.reader.taken
