use Rattle.std.proofs.lemmas.Str.{IsUtf8-from_is_utf8}
use Rattle.sx_heads.proofs.ReadValues.{meta_name_utf8}
use Rattle.sx_heads.proofs.fields.meta_name.Goals as goal

pub unreachable-requires : goal.unreachable-requires
unreachable-requires c = c.in-Err.ensures.cases.0 (IsUtf8-from_is_utf8 c.args.name.now (meta_name_utf8 c.args.name.now c.requires))
