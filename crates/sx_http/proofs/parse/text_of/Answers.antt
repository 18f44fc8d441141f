use Rattle.std.proofs.Common.{sym, ◌∙◌}
use Rattle.std.specs.Str.{is_utf8}
use Rattle.std.proofs.lemmas.Str.{is_utf8-from_IsUtf8}
use Rattle.sx_http.proofs.HeadLemmas.{is_text}
use Rattle.sx_http.proofs.parse.text_of.Goals as goal

pub unreachable-requires : goal.unreachable-requires
unreachable-requires c = is_text (is_utf8 c.args.bytes) c.args.bytes (is_utf8-from_IsUtf8 c.args.bytes c.requires) (sym c.in-None.is ∙ c.of.ensures)
