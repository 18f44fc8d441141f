use Rattle.std.proofs.Common.{ap, ◌∙◌}
use Rattle.uuid.specs.Text.{lower, hyphenated_text}
use Rattle.sx_heads.specs.Values.{id_text}
use Rattle.sx_heads.proofs.values.id_digits.Goals as goal

pub returns : goal.returns
unfolding id_text
returns c = c.as_bytes.ensures.value ∙ c.encode_lower.ensures.text ∙ ap (hyphenated_text lower) (c.hyphenated.ensures ∙ c.from_u128.ensures)
