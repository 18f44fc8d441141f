use Rattle.std.proofs.Common.{◌≡◌, ◌∙◌, ap, sym, subst, true}
use Rattle.std.specs.Str.{is_utf8}
use Rattle.std.proofs.lemmas.Str.{is_utf8-from_IsUtf8, IsUtf8-string_bytes}
use Rattle.sx_names.specs.Names.{fold}
use Rattle.sx_names.proofs.text.folded_text.Goals as goal

pub returns : goal.returns
unfolding fold
returns c =
    let bytes = c.of.ensures ∙ ap (λ v. v.items) c.into_bytes.ensures.value in (
      bytes ∙ c.in_ok-folded.ensures,
      subst (λ bs. is_utf8 bs ≡ true) (sym bytes) (is_utf8-from_IsUtf8 _ (IsUtf8-string_bytes c.in_ok-folded.folded)),
    )
