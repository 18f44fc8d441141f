use Rattle.std.proofs.Common.{◌++◌, drop}
use Rattle.std.specs.List.{flat_map}
use Rattle.sx_base.specs.Printer.{text_of, PrintsFront}
use Rattle.sx_base.specs.declared.fault.Failed.{Failed}
use Rattle.sx_base.proofs.printer.print.Given as goal

abbrev pub invariant-loop-fragment : goal.invariant-loop-fragment
invariant-loop-fragment g l = PrintsFront Failed g.K.Sink.wrote g.K.Sink.write_count g.K.Sink.puts l.fn.sink l.sink
    (flat_map text_of l.fragments) (l.gathered.items ++ flat_map text_of (drop l.fragment-index l.fragments))
