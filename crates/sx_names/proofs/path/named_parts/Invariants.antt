use Rattle.std.proofs.Common.{◌≡◌, take}
use Rattle.sx_names.proofs.path.named_parts.Given as goal

abbrev pub invariant-loop-text : goal.invariant-loop-text
invariant-loop-text l = l.parts ≡ take l.text-index l.fn.texts
