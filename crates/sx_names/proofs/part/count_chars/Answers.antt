use Rattle.std.proofs.Common.{arith, ap, length}
use Rattle.std.proofs.lemmas.Iterator.{YieldsList-from_chars}
use Rattle.std.proofs.lemmas.Iterator.Consumers.{YieldsList-end}
use Rattle.std.specs.Str.Iter.{chars_rest}
use Rattle.sx_names.proofs.part.count_chars.Goals as goal

pub returns : goal.returns
returns c =
    let t = YieldsList-end (YieldsList-from_chars c.args.text.now c.utf8.text cc) c.loop-character.yielded _ c.loop-character.yielded_by _ _ c.in-None.is c.next.ensures.steps in
    let begun = ap (λ it. length (chars_rest it)) c.into_iter-character-iterator.ensures.into_iter_gives in
    omega (arith, t.1, begun, c.chars-character-items.ensures.len)
