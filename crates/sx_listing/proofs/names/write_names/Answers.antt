use Rattle.std.proofs.Common.{append_assoc}
use Rattle.sx_listing.specs.Names.{names_text}
use Rattle.sx_listing.proofs.names.write_names.Goals as goal

pub returns : goal.returns
unfolding names_text
returns c =
    rw (
      c.in_ok-append-3.ensures.ok,
      c.in_ok-append_percent.ensures,
      c.in_ok-append-2.ensures.ok,
      c.in_ok-append_names.ensures,
      c.as_slice.ensures,
      c.in_ok-append.ensures.ok,
      c.in_ok-append_asked.ensures,
      c.in_ok-text.ensures,
    ) (simp append_assoc)
