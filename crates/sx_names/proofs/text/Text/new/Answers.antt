use Rattle.sx_names.proofs.Appended.{empty_utf8}
use Rattle.sx_names.proofs.text.Text.new.Goals as goal

pub invariant_of-result : goal.invariant_of-result
invariant_of-result c = rw c.new.ensures empty_utf8
