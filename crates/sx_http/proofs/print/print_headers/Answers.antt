use Rattle.std.proofs.Common.{ℕ, ◌+◌, drop, List, refl, arith, subst}
use Rattle.sx_base.specs.Printer.{PrintsFront}
use Rattle.sx_base.specs.declared.fault.Failed.{Failed}
use Rattle.sx_base.proofs.Printing.{front_none, front_more, front_stops, front_last}
use Rattle.sx_http.specs.Print.{line_end, header_line, headers_text}
use Rattle.sx_http.proofs.HeadTexts.{headers_rest, headers_past}
use Rattle.sx_http.proofs.print.print_headers.Goals as goal

pub loop-header-init : goal.loop-header-init
loop-header-init g c = front_none Failed g.K.Sink.wrote g.K.Sink.write_count g.K.Sink.puts g.met.K.Sink.puts_none c.args.sink.now (headers_text c.args.headers.now)

pub returns-in-Err : goal.returns-in-Err
returns-in-Err g c =
    let i = c.loop-header.header-index in
    let h = c.header-item.result in
    let text = headers_text c.args.headers.now in
    let P : List ℕ → Type 0 = λ rest. PrintsFront Failed g.K.Sink.wrote g.K.Sink.write_count g.K.Sink.puts c.args.sink.now c.loop-header.sink text rest in
    let w = subst P (headers_rest c.args.headers.now i h c.loop-header-test.true c.header-item.is) c.loop-header.invariant in
    front_stops Failed g.K.Sink.wrote g.K.Sink.write_count g.K.Sink.puts g.met.K.Sink.puts_more c.args.sink.now c.loop-header.sink c.print_header.new.sink text (header_line h) (headers_text (drop (i + 1) c.args.headers.now)) c.in-Err.failed w c.in-Err.ensures

pub loop-header-preserved : goal.loop-header-preserved
loop-header-preserved g c =
    let i = c.loop-header.header-index in
    let h = c.header-item.result in
    let text = headers_text c.args.headers.now in
    let P : List ℕ → Type 0 = λ rest. PrintsFront Failed g.K.Sink.wrote g.K.Sink.write_count g.K.Sink.puts c.args.sink.now c.loop-header.sink text rest in
    let w = subst P (headers_rest c.args.headers.now i h c.loop-header-test.true c.header-item.is) c.loop-header.invariant in
    front_more Failed g.K.Sink.wrote g.K.Sink.write_count g.K.Sink.puts g.met.K.Sink.puts_more c.args.sink.now c.loop-header.sink c.print_header.new.sink text (header_line h) (headers_text (drop (i + 1) c.args.headers.now)) w c.in-Ok.ensures

pub returns : goal.returns
returns g c =
    let text = headers_text c.args.headers.now in
    let P : List ℕ → Type 0 = λ rest. PrintsFront Failed g.K.Sink.wrote g.K.Sink.write_count g.K.Sink.puts c.args.sink.now c.loop-header.sink text rest in
    let w = subst P (headers_past c.args.headers.now c.loop-header.header-index (omega (arith, c.loop-header-test.false))) c.loop-header.invariant in
    front_last Failed g.K.Sink.wrote g.K.Sink.write_count g.K.Sink.puts g.met.K.Sink.puts_more c.args.sink.now c.loop-header.sink c.print_end.new.sink text line_end c.print_end.result w c.print_end.ensures
