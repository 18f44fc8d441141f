use Rattle.std.proofs.Common.{ℕ, ◌≡◌, ◌+◌, ◌-◌, ◌<◌, ◌≤◌, ◌++◌, ◌∙◌, List, length, take, drop, ap, sym, subst, arith}
use Rattle.std.proofs.lemmas.List.{length-take, length-drop}
use Rattle.std.specs.Io.KnownBytes.{Consumes}
use Rattle.sx_base.proofs.Streams.{keeps_none}
use Rattle.sx_base.proofs.Buffers.{held_more}
use Rattle.sx_base.proofs.buffer.Buffer.refill.Goals as goal

pub returns-in-Err-clause-refilled : goal.returns-in-Err-clause-refilled
returns-in-Err-clause-refilled g c =
    (ap (drop c.in-Ok.start) c.in-Err.ensures.front ∙ c.in-Ok.ensures.ok ∙ c.self.view_is, c.in-Err.ensures.bytes, c.in-Err.ensures.cause.failed)

pub returns-in-Ok-eq0-clause-refilled : goal.returns-in-Ok-eq0-clause-refilled
returns-in-Ok-eq0-clause-refilled g c =
    let e = c.in-Ok.end in
    let past = e + c.min.result in
    let now : List ℕ = c.read_between.new.bytes.items in
    let part : List ℕ = take (past - e) (drop e now) in
    let f = c.in-Ok-eq0.ensures in
    let none : c.in-Ok-eq0.field-0 ≡ 0 = c.in-Ok-eq0.field-0-test in
    let room : 0 < length part = omega (arith, length-take (past - e) (drop e now), length-drop e now, f.length, c.in-Ok.ensures.room.1, c.len.ensures, c.min.ensures, c.requires) in
    let left = g.S.Source.left in (
      ap (drop c.in-Ok.start) f.front ∙ c.in-Ok.ensures.ok ∙ c.self.view_is,
      keeps_none (left c.args.source.now) (left c.read_between.new.source)
          (subst (λ (n : ℕ). Consumes (left c.args.source.now) (left c.read_between.new.source) (take n part)) none f.bytes.0),
      f.bytes.1 none room,
      f.cause.kept,
    )

pub returns-in-Ok-read_between-clause-refilled : goal.returns-in-Ok-read_between-clause-refilled
returns-in-Ok-read_between-clause-refilled g c =
    let s = c.in-Ok.start in
    let e = c.in-Ok.end in
    let n = c.in-Ok-read_between.count in
    let now : List ℕ = c.read_between.new.bytes.items in
    let f = c.in-Ok-read_between.ensures in
    let past = e + c.min.result in
    let came : List ℕ = take n (take (past - e) (drop e now)) in
    let long : length came ≡ n = sym f.bound.1 in
    let few : n ≤ c.min.result = omega (arith, f.bound.0, length-take (past - e) (drop e now)) in (
      came,
      held_more c.make_room.new.bytes.items now s e past n c.in-Ok.ensures.room.0 (omega (arith, c.in-Ok.ensures.room.1, f.length)) (omega (arith, few)) f.front
          ∙ ap (λ (xs : List ℕ). xs ++ came) (c.in-Ok.ensures.ok ∙ c.self.view_is),
      omega (arith, long, c.in-Ok-read_between.count-test),
      omega (arith, long, few, c.min.ensures),
      f.bytes.0,
      f.cause.kept,
    )
