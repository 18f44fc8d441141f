use Rattle.std.proofs.Common.{IsUtf8, sym, subst}
use Rattle.sx_names.proofs.Appended.{appended_utf8}
use Rattle.sx_names.proofs.text.Text.append.Goals as goal

pub invariant_of-self : goal.invariant_of-self
invariant_of-self c =
    appended_utf8 c.self.inside.bytes c.as_bytes.result.now c.append.new.self c.append.result c.self.invariant
    (subst IsUtf8 (sym c.as_bytes.ensures.value) c.utf8.text) c.append.ensures.ok c.append.ensures.err
