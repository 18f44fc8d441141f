use Rattle.std.proofs.Common.{ℕ, ◌+◌, ◌<◌, ◌≤◌, ◌≡◌, ◌∙◌, length, take, drop, ap, sym, subst, arith}
use Rattle.std.specs.Io.KnownBytes.{Consumes}
use Rattle.std.proofs.lemmas.List.{length-drop}
use Rattle.sx_http.proofs.BodyReads.{front_stays, reads_more}
use Rattle.sx_http.proofs.body.fill_behind.Goals as goal

pub returns-in-Ok-eq0-clause-filled : goal.returns-in-Ok-eq0-clause-filled
returns-in-Ok-eq0-clause-filled g c =
    let now = c.read_behind.new.bytes in
    let l = g.S.Source.left c.args.source.now in
    let m = g.S.Source.left c.loop-count.source in
    let n = g.S.Source.left c.read_behind.new.source in
    let at = c.loop-count in
    let inv = c.loop-count.invariant in
    let e = c.in-Ok-eq0.ensures in
    let took = reads_more c.args.from at.count c.in-Ok-eq0.field-0 now at.into l m n inv.more inv.fits e.front inv.bytes e.bytes.0 in
    let none : at.count + c.in-Ok-eq0.field-0 ≡ at.count = omega (arith, c.in-Ok-eq0.field-0-test) in
    let size : length now ≡ length c.args.into.now = c.read_behind.auto.bytes ∙ c.loop-count.auto.into in
    let less : at.count < length now = omega (arith, c.read_behind.auto.bytes, c.loop-count-test.true) in
    record {
      front = front_stays c.args.from at.count now at.into inv.more e.front ∙ inv.front;
      bytes = subst (λ (k : ℕ). Consumes l n (drop c.args.from (take k now))) none took;
      more = inv.more;
      fits = omega (arith, less);
      size = size;
      cause = (less, e.bytes.1 c.in-Ok-eq0.field-0-test (omega (arith, less, length-drop at.count now)), e.cause.kept ∙ inv.count);
    }

pub loop-count-preserved : goal.loop-count-preserved
loop-count-preserved g c =
    let now = c.read_behind.new.bytes in
    let l = g.S.Source.left c.args.source.now in
    let m = g.S.Source.left c.loop-count.source in
    let n = g.S.Source.left c.read_behind.new.source in
    let at = c.loop-count in
    let inv = c.loop-count.invariant in
    let e = c.in-Ok.ensures in
    record {
      front = front_stays c.args.from at.count now at.into inv.more e.front ∙ inv.front;
      bytes = reads_more c.args.from at.count c.in-Ok.more now at.into l m n inv.more inv.fits e.front inv.bytes e.bytes.0;
      more = omega (arith, inv.more);
      fits = omega (arith, e.bound.0, length-drop at.count now, c.read_behind.auto.bytes, c.loop-count-test.true);
      count = e.cause.kept ∙ inv.count;
      step = g.met.S.Source.reads_more c.args.source.now at.source c.read_behind.new.source inv.step e.step;
    }
