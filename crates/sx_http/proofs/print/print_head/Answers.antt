use Rattle.std.proofs.Common.{List, subst}
use Rattle.sx_base.specs.Sink.{Prints}
use Rattle.sx_base.specs.declared.fault.Failed.{Failed}
use Rattle.sx_base.proofs.Writing.{prints_more, prints_front}
use Rattle.sx_http.specs.Print.{start_line, headers_text}
use Rattle.sx_http.specs.declared.heads.Header.{Header}
use Rattle.sx_http.proofs.print.print_head.Goals as goal

pub returns-in-Err : goal.returns-in-Err
returns-in-Err g c =
    prints_front g.K.Sink.wrote g.K.Sink.write_count g.K.Sink.puts c.args.sink.now c.print_start.new.sink (start_line c.args.head.now) (headers_text c.args.head.now.headers) c.in-Err.failed c.in-Err.ensures

pub returns : goal.returns
returns g c =
    let P : List Header → Type 0 = λ hs. Prints g.K.Sink.wrote g.K.Sink.write_count g.K.Sink.puts c.print_start.new.sink c.print_headers.new.sink (headers_text hs) c.print_headers.result in
    prints_more {E = Failed} g.K.Sink.wrote g.K.Sink.write_count g.K.Sink.puts g.met.K.Sink.puts_more c.args.sink.now c.print_start.new.sink c.print_headers.new.sink (start_line c.args.head.now) (headers_text c.args.head.now.headers) tt c.print_headers.result c.in-Ok.ensures (subst P c.as_slice.ensures c.print_headers.ensures)
