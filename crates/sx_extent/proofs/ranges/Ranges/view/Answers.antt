use Rattle.std.proofs.Common.{◌≡◌, ◌∙◌, sym, ap, arith, length}
use Rattle.sx_extent.specs.Ranges.{cut}
use Rattle.sx_extent.proofs.FileLemmas.{self_length, cut_is}
use Rattle.sx_extent.proofs.ViewLemmas.{sized_copy, bytes_copy}
use Rattle.sx_extent.proofs.ranges.Ranges.view.Goals as goal

pub new-requires-clause-limit : goal.new-requires-clause-limit
new-requires-clause-limit c =
    let n : length c.args.self.now.bytes ≡ c.self.inside.length = self_length _ _ _ c.self.view_is in
    omega arith

pub new-requires-clause-sized : goal.new-requires-clause-sized
new-requires-clause-sized c = sized_copy c.self.inside.granules.entries c.in_ok-granules.granules.entries _ _ c.self.invariant.sized c.in_ok-granules.ensures

pub returns : goal.returns
returns c =
    let n : length c.args.self.now.bytes ≡ c.self.inside.length = self_length _ _ _ c.self.view_is in
    c.new.ensures
    ∙ bytes_copy c.self.inside.granules.entries c.in_ok-granules.granules.entries c.args.from c.args.end c.past_of-past.result c.requires.order c.past_of-past.ensures c.in_ok-granules.ensures
    ∙ sym (cut_is c.self.inside.length c.self.inside.granules.entries c.args.from c.args.end c.requires.order (omega arith))
    ∙ ap (λ f. cut f c.args.from c.args.end) c.self.view_is
