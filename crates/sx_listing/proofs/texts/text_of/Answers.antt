use Rattle.sx_text.proofs.Utf8.{whole_utf8}
use Rattle.sx_listing.proofs.texts.text_of.Goals as goal

pub unreachable-requires : goal.unreachable-requires
unreachable-requires c =
    let utf8 = whole_utf8 c.args.bytes.items c.requires in
    let e = rw (c.of.ensures, utf8) at c.in-None.ensures in cc
