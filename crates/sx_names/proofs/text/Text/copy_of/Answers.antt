use Rattle.std.proofs.Common.{◌≡◌, true, sym, subst, ◌∙◌}
use Rattle.std.specs.Str.{is_utf8}
use Rattle.std.proofs.lemmas.Str.{is_utf8-from_IsUtf8}
use Rattle.sx_names.proofs.text.Text.copy_of.Goals as goal

pub invariant_of-result : goal.invariant_of-result
invariant_of-result c =
    subst (λ bs. is_utf8 bs ≡ true) (sym (c.in_ok-bytes.ensures ∙ c.as_bytes.ensures.value)) (is_utf8-from_IsUtf8 c.args.text.now c.utf8.text)
