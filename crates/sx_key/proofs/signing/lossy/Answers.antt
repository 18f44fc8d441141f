use Rattle.std.proofs.Common.{◌≡◌, ◌∙◌}
use Rattle.std.proofs.lemmas.Str.{is_utf8-from_IsUtf8}
use Rattle.sx_key.proofs.signing.lossy.Goals as goal

pub text_of-requires : goal.text_of-requires
text_of-requires c =
    let same : c.as_bytes.result.now ≡ c.as_str.result.now = cc in
    rw (c.in_ok-bytes.ensures.items ∙ same) (is_utf8-from_IsUtf8 c.as_str.result.now c.as_str.utf8)
