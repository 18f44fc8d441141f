use Rattle.std.proofs.Common.{◌≡◌, ◌+◌, ◌≤◌, List, [], ℕ, length, drop, sym, subst, rules}
use Rattle.std.proofs.lemmas.List.{drop_all}
use Rattle.sx_base.specs.Printer.{PrintsFront}
use Rattle.sx_base.specs.declared.fault.Failed.{Failed}
use Rattle.sx_base.proofs.Printing.{front_all, front_more, front_stops}
use Rattle.sx_extent.specs.View.{part}
use Rattle.sx_reply.proofs.Pieces.{part_front}
use Rattle.sx_reply.proofs.view.print_by.Goals as goal

pub returns-in-Err : goal.returns-in-Err
returns-in-Err g c =
    let l = c.loop-at in
    let view = c.args.view.now in
    let count = c.count_at-count.result in
    front_stops Failed g.K.Sink.wrote g.K.Sink.write_count g.K.Sink.puts g.met.K.Sink.puts_more
    c.args.sink.now l.sink c.print_part.new.sink view (part view l.at count) (drop (l.at + count) view) c.in-Err.failed
    (subst (PrintsFront Failed g.K.Sink.wrote g.K.Sink.write_count g.K.Sink.puts c.args.sink.now l.sink view) (sym (part_front view l.at count)) l.invariant.0)
    c.in-Err.ensures.printed

pub loop-at-preserved : goal.loop-at-preserved
loop-at-preserved g c =
    let l = c.loop-at in
    let view = c.args.view.now in
    let count = c.count_at-count.result in
    let within : l.at + count ≤ length view = c.count_at-count.ensures.within in (
      front_more Failed g.K.Sink.wrote g.K.Sink.write_count g.K.Sink.puts g.met.K.Sink.puts_more
          c.args.sink.now l.sink c.print_part.new.sink view (part view l.at count) (drop (l.at + count) view)
          (subst (PrintsFront Failed g.K.Sink.wrote g.K.Sink.write_count g.K.Sink.puts c.args.sink.now l.sink view) (sym (part_front view l.at count)) l.invariant.0)
          c.in-Ok.ensures.printed,
      within,
      search rules,
    )

pub returns : goal.returns
returns g c =
    let l = c.loop-at in
    let past : length c.args.view.now ≤ l.at = search rules in
    front_all Failed g.K.Sink.wrote g.K.Sink.write_count g.K.Sink.puts
    c.args.sink.now l.sink c.args.view.now (drop l.at c.args.view.now) (drop_all l.at c.args.view.now past) l.invariant.0
