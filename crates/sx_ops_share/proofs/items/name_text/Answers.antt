use Rattle.std.proofs.Common.{◌∙◌}
use Rattle.sx_ops_share.proofs.Names.{share_name_is_text}
use Rattle.sx_ops_share.proofs.items.name_text.Goals as goal

pub unreachable-requires : goal.unreachable-requires
unreachable-requires c = share_name_is_text c.args.name.now c.in_ok-copy_of.field-0 c.of.result c.bytes.ensures.name (c.in_ok-copy_of.ensures ∙ c.bytes.ensures.value) c.of.ensures c.in-None.is
