use Rattle.std.proofs.Common.{◌∙◌, ap, List, ℕ}
use Rattle.uuid.specs.Text.{lower, hyphenated_text}
use Rattle.sx_reply.specs.Values.{uuid_text}
use Rattle.sx_reply.proofs.values.uuid_digits.Goals as goal

pub returns : goal.returns
unfolding uuid_text
returns c =
    c.as_bytes.ensures.value ∙ c.encode_lower.ensures.text
    ∙ ap (λ (bytes : List ℕ). hyphenated_text lower bytes) (c.hyphenated.ensures ∙ c.from_u128.ensures)
