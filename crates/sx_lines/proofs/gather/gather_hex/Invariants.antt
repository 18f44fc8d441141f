use Rattle.std.proofs.Common.{◌++◌, drop}
use Rattle.hex.specs.Hex.{encode_lower}
use Rattle.sx_base.specs.Printer.{PrintsFront}
use Rattle.sx_base.specs.declared.fault.Failed.{Failed}
use Rattle.sx_lines.proofs.gather.gather_hex.Given as goal

abbrev pub invariant-loop-byte : goal.invariant-loop-byte
invariant-loop-byte g l = PrintsFront Failed g.K.Sink.wrote g.K.Sink.write_count g.K.Sink.puts l.fn.sink l.sink
    (l.fn.gathered.items ++ encode_lower l.bytes) (l.gathered.items ++ encode_lower (drop l.byte-index l.bytes))
