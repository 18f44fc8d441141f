use Rattle.std.proofs.Common.{List, ℕ, ◌++◌, Ok, Err, subst}
use Rattle.std.proofs.lemmas.List.{append-nil}
use Rattle.std.specs.List.{flat_map}
use Rattle.sx_base.specs.Sink.{Prints}
use Rattle.sx_base.specs.declared.fault.Failed.{Failed}
use Rattle.sx_base.proofs.Writing.{prints_more, prints_front}
use Rattle.sx_reply.specs.Fields.{field_text}
use Rattle.sx_reply.specs.Pages.{front_text, end_text}
use Rattle.sx_reply.proofs.pages.print_with_view.Goals as goal

pub returns-in-Ok : goal.returns-in-Ok
returns-in-Ok g c =
    let f = c.args.frame.now in
    let head : List ℕ = front_text f.status f.place f.at ++ flat_map field_text c.args.headers.now ++ end_text f.length f.close in
    prints_more {E = Failed} g.K.Sink.wrote g.K.Sink.write_count g.K.Sink.puts g.met.K.Sink.puts_more
    c.args.sink.now c.print_page.new.sink c.print_view.new.sink head c.args.view.now tt c.print_view.result
    (subst (λ (t : List ℕ). Prints {T = Unit {0}} {E = Failed} g.K.Sink.wrote g.K.Sink.write_count g.K.Sink.puts c.args.sink.now c.print_page.new.sink t (Ok tt))
    (append-nil head) c.in-Ok.ensures)
    c.print_view.ensures

pub returns-in-Err : goal.returns-in-Err
returns-in-Err g c =
    let f = c.args.frame.now in
    let head : List ℕ = front_text f.status f.place f.at ++ flat_map field_text c.args.headers.now ++ end_text f.length f.close in
    prints_front g.K.Sink.wrote g.K.Sink.write_count g.K.Sink.puts c.args.sink.now c.print_page.new.sink head c.args.view.now c.in-Err.failed
    (subst (λ (t : List ℕ). Prints {T = Unit {0}} {E = Failed} g.K.Sink.wrote g.K.Sink.write_count g.K.Sink.puts c.args.sink.now c.print_page.new.sink t (Err c.in-Err.failed))
    (append-nil head) c.in-Err.ensures)
