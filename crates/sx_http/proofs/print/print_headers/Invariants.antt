use Rattle.std.proofs.Common.{drop}
use Rattle.sx_base.specs.Printer.{PrintsFront}
use Rattle.sx_base.specs.declared.fault.Failed.{Failed}
use Rattle.sx_http.specs.Print.{headers_text}
use Rattle.sx_http.proofs.print.print_headers.Given as goal

-- the lines so far are written, and the others are left
abbrev pub invariant-loop-header : goal.invariant-loop-header
invariant-loop-header g l = PrintsFront Failed g.K.Sink.wrote g.K.Sink.write_count g.K.Sink.puts l.fn.sink l.sink (headers_text l.headers) (headers_text (drop l.header-index l.headers))
