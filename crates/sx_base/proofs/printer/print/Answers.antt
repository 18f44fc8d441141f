use Rattle.std.proofs.Common.{ℕ, [], ◌++◌, ◌+◌, ◌∙◌, drop, List, get_or, ap, subst}
use Rattle.std.proofs.lemmas.List.{append-nil, drop_all}
use Rattle.std.specs.List.{flat_map}
use Rattle.sx_base.specs.Printer.{text_of, PrintsFront}
use Rattle.sx_base.specs.declared.fault.Failed.{Failed}
use Rattle.sx_base.specs.declared.printer.Fragment.{Fragment}
use Rattle.sx_base.specs.declared.printer.Fragment.TheVariants.{Text}
use Rattle.sx_base.proofs.Printing.{front_gathered, front_last, gathered_stops, flat_map_rest}
use Rattle.sx_base.proofs.printer.print.Goals as goal

none : Fragment
none = Text (record { ref_ptr = (0, 0); now = [] })

pub returns-in-Err : goal.returns-in-Err
unfolding none
returns-in-Err g c =
    let l = c.loop-fragment in
    let i = l.fragment-index in
    let xs = c.args.fragments.now in
    let whole = flat_map text_of xs in
    let P : List ℕ → Type 0 = λ rest. PrintsFront Failed g.K.Sink.wrote g.K.Sink.write_count g.K.Sink.puts c.args.sink.now l.sink whole (l.gathered.items ++ rest) in
    let w = subst P (flat_map_rest text_of xs i none c.loop-fragment-test.true) l.invariant in
    gathered_stops Failed g.K.Sink.wrote g.K.Sink.write_count g.K.Sink.puts g.met.K.Sink.puts_more
    c.args.sink.now l.sink c.gather_fragment.new.sink whole l.gathered.items (text_of (get_or xs i none)) (flat_map text_of (drop (i + 1) xs)) c.in-Err.failed
    w c.in-Err.ensures

pub loop-fragment-preserved : goal.loop-fragment-preserved
unfolding none
loop-fragment-preserved g c =
    let l = c.loop-fragment in
    let i = l.fragment-index in
    let xs = c.args.fragments.now in
    let whole = flat_map text_of xs in
    let P : List ℕ → Type 0 = λ rest. PrintsFront Failed g.K.Sink.wrote g.K.Sink.write_count g.K.Sink.puts c.args.sink.now l.sink whole (l.gathered.items ++ rest) in
    let w = subst P (flat_map_rest text_of xs i none c.loop-fragment-test.true) l.invariant in
    front_gathered Failed g.K.Sink.wrote g.K.Sink.write_count g.K.Sink.puts g.met.K.Sink.puts_more
    c.args.sink.now l.sink c.gather_fragment.new.sink whole l.gathered.items c.gather_fragment.new.gathered.items (text_of (get_or xs i none)) (flat_map text_of (drop (i + 1) xs))
    w c.in-Ok.ensures

pub returns : goal.returns
returns g c =
    let l = c.loop-fragment in
    let xs = c.args.fragments.now in
    let whole = flat_map text_of xs in
    let P : List ℕ → Type 0 = λ rest. PrintsFront Failed g.K.Sink.wrote g.K.Sink.write_count g.K.Sink.puts c.args.sink.now l.sink whole rest in
    let past = ap (flat_map text_of) (drop_all l.fragment-index xs c.loop-fragment-test.false) in
    let w = subst P (ap (λ (r : List ℕ). l.gathered.items ++ r) past ∙ append-nil l.gathered.items) l.invariant in
    front_last Failed g.K.Sink.wrote g.K.Sink.write_count g.K.Sink.puts g.met.K.Sink.puts_more
    c.args.sink.now l.sink c.put_gathered.new.sink whole l.gathered.items c.put_gathered.result w c.put_gathered.ensures.printed
