use Rattle.std.proofs.Common.{◌≡◌, ◌-◌, ◌∙◌, take, drop, List, sym, rules}
use Rattle.std.proofs.lemmas.Slice.{overwrites}
use Rattle.sx_base.proofs.Buffers.{part_is}
use Rattle.sx_base.proofs.buffer.move_to_front.Goals as goal

pub returns-clause-moved : goal.returns-clause-moved
returns-clause-moved c =
    let moved : take (c.args.end - c.args.start) c.copy_within.new.self.items ≡ take (c.args.end - c.args.start) (drop c.args.start c.args.bytes.now.items) = search (rules, overwrites) in
    moved ∙ sym (part_is c.args.bytes.now.items c.args.start c.args.end c.requires.order)
