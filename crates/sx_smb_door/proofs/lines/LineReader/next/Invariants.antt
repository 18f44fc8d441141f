use Rattle.std.proofs.Common.{◌≡◌, ◌+◌, ◌-◌, length}
use Rattle.sx_lines.specs.declared.line.TheConstants.{LINE_LIMIT}
use Rattle.sx_smb_door.specs.Lines.{BeginsUnended, KeepsStream}
use Rattle.sx_smb_door.proofs.Answering.{ReadsWhereWanted}
use Rattle.sx_smb_door.proofs.lines.LineReader.next.Given as goal

-- nothing was given since the call's begin, and the bytes that were searched hold no line's end
abbrev pub invariant-loop-next : goal.invariant-loop-next
invariant-loop-next g l = record {
  stays : KeepsStream l.fn.self l.self (g.S.Source.left l.fn.source) (g.S.Source.left l.source);
  searched : BeginsUnended l.searched l.self.held;
  counted : g.S.Source.read_count l.source ≡ g.S.Source.read_count l.fn.source;
  step : g.S.Source.reads l.fn.source l.source;
  unread : ReadsWhereWanted l.fn.source l.source l.fn.self l.self;
}

abbrev pub decreases-loop-next : goal.decreases-loop-next
decreases-loop-next g l = LINE_LIMIT + 1 - length l.self.held
