use Rattle.std.proofs.Common.{◌+◌, ◌≤◌, ◌++◌, ◌∙◌, List, ℕ, length, drop, ap, subst, rules}
use Rattle.std.proofs.lemmas.List.{append-nil}
use Rattle.hex.specs.Hex.{encode_lower}
use Rattle.sx_base.specs.Printer.{PrintsFront}
use Rattle.sx_base.specs.declared.fault.Failed.{Failed}
use Rattle.sx_base.proofs.Printing.{front_gathered, gathered_stops, encode_past}
use Rattle.sx_extent.specs.View.{part}
use Rattle.sx_lines.proofs.HexDigits.{digits_front}
use Rattle.sx_lines.proofs.view.gather_by.Goals as goal

pub returns-in-Err : goal.returns-in-Err
returns-in-Err g c =
    let l = c.loop-at in
    let view = c.args.view.now in
    let count = c.count_at-count.result in
    let whole = c.args.gathered.now.items ++ encode_lower view in
    let P : List ℕ → Type 0 = λ rest. PrintsFront Failed g.K.Sink.wrote g.K.Sink.write_count g.K.Sink.puts c.args.sink.now l.sink whole (l.gathered.items ++ rest) in
    gathered_stops Failed g.K.Sink.wrote g.K.Sink.write_count g.K.Sink.puts g.met.K.Sink.puts_more
    c.args.sink.now l.sink c.gather_part.new.sink whole l.gathered.items (encode_lower (part view l.at count)) (encode_lower (drop (l.at + count) view)) c.in-Err.failed
    (subst P (digits_front view l.at count) l.invariant.0) c.in-Err.ensures.gathered

pub loop-at-preserved : goal.loop-at-preserved
loop-at-preserved g c =
    let l = c.loop-at in
    let view = c.args.view.now in
    let count = c.count_at-count.result in
    let whole = c.args.gathered.now.items ++ encode_lower view in
    let P : List ℕ → Type 0 = λ rest. PrintsFront Failed g.K.Sink.wrote g.K.Sink.write_count g.K.Sink.puts c.args.sink.now l.sink whole (l.gathered.items ++ rest) in
    let within : l.at + count ≤ length view = c.count_at-count.ensures.within in (
      front_gathered Failed g.K.Sink.wrote g.K.Sink.write_count g.K.Sink.puts g.met.K.Sink.puts_more
          c.args.sink.now l.sink c.gather_part.new.sink whole l.gathered.items c.gather_part.new.gathered.items
          (encode_lower (part view l.at count)) (encode_lower (drop (l.at + count) view))
          (subst P (digits_front view l.at count) l.invariant.0) c.in-Ok.ensures.gathered,
      within,
      search rules,
    )

pub returns : goal.returns
returns g c =
    let l = c.loop-at in
    let whole = c.args.gathered.now.items ++ encode_lower c.args.view.now in
    let past : length c.args.view.now ≤ l.at = search rules in
    let P : List ℕ → Type 0 = λ rest. PrintsFront Failed g.K.Sink.wrote g.K.Sink.write_count g.K.Sink.puts c.args.sink.now l.sink whole rest in
    subst P (ap (λ (r : List ℕ). l.gathered.items ++ r) (encode_past c.args.view.now l.at past) ∙ append-nil l.gathered.items) l.invariant.0
