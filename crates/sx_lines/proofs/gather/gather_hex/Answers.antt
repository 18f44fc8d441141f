use Rattle.std.proofs.Common.{ℕ, [], ◌∷◌, ◌++◌, ◌+◌, ◌∙◌, drop, List, get_or, ap, subst}
use Rattle.std.proofs.lemmas.List.{append-nil}
use Rattle.hex.specs.Hex.{encode_lower}
use Rattle.sx_base.specs.Printer.{PrintsFront}
use Rattle.sx_base.specs.declared.fault.Failed.{Failed}
use Rattle.sx_base.proofs.Printing.{front_gathered, gathered_stops, encode_rest, encode_past}
use Rattle.sx_lines.proofs.gather.gather_hex.Goals as goal

pub returns-in-Err : goal.returns-in-Err
returns-in-Err g c =
    let l = c.loop-byte in
    let i = l.byte-index in
    let whole = c.args.gathered.now.items ++ encode_lower c.args.bytes.now in
    let b = get_or c.args.bytes.now i 0 in
    let P : List ℕ → Type 0 = λ rest. PrintsFront Failed g.K.Sink.wrote g.K.Sink.write_count g.K.Sink.puts c.args.sink.now l.sink whole (l.gathered.items ++ rest) in
    let w = subst P (encode_rest c.args.bytes.now i 0 c.loop-byte-test.true) l.invariant in
    gathered_stops Failed g.K.Sink.wrote g.K.Sink.write_count g.K.Sink.puts g.met.K.Sink.puts_more
    c.args.sink.now l.sink c.gather_bytes.new.sink whole l.gathered.items (encode_lower (b ∷ [])) (encode_lower (drop (i + 1) c.args.bytes.now)) c.in-Err.failed
    w (rw c.digits_of-digits.ensures at c.in-Err.ensures)

pub loop-byte-preserved : goal.loop-byte-preserved
loop-byte-preserved g c =
    let l = c.loop-byte in
    let i = l.byte-index in
    let whole = c.args.gathered.now.items ++ encode_lower c.args.bytes.now in
    let b = get_or c.args.bytes.now i 0 in
    let P : List ℕ → Type 0 = λ rest. PrintsFront Failed g.K.Sink.wrote g.K.Sink.write_count g.K.Sink.puts c.args.sink.now l.sink whole (l.gathered.items ++ rest) in
    let w = subst P (encode_rest c.args.bytes.now i 0 c.loop-byte-test.true) l.invariant in
    front_gathered Failed g.K.Sink.wrote g.K.Sink.write_count g.K.Sink.puts g.met.K.Sink.puts_more
    c.args.sink.now l.sink c.gather_bytes.new.sink whole l.gathered.items c.gather_bytes.new.gathered.items (encode_lower (b ∷ [])) (encode_lower (drop (i + 1) c.args.bytes.now))
    w (rw c.digits_of-digits.ensures at c.in-Ok.ensures)

pub returns : goal.returns
returns g c =
    let l = c.loop-byte in
    let whole = c.args.gathered.now.items ++ encode_lower c.args.bytes.now in
    let P : List ℕ → Type 0 = λ rest. PrintsFront Failed g.K.Sink.wrote g.K.Sink.write_count g.K.Sink.puts c.args.sink.now l.sink whole rest in
    subst P (ap (λ (r : List ℕ). l.gathered.items ++ r) (encode_past c.args.bytes.now l.byte-index c.loop-byte-test.false) ∙ append-nil l.gathered.items) l.invariant
