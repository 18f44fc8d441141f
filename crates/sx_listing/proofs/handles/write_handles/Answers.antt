use Rattle.std.proofs.Common.{append_assoc}
use Rattle.sx_listing.specs.Handles.{handles_text}
use Rattle.sx_listing.proofs.handles.write_handles.Goals as goal

pub returns : goal.returns
unfolding handles_text
returns c =
    rw (
      c.in_ok-append-2.ensures.ok,
      c.in_ok-append_next.ensures,
      c.in_ok-append.ensures.ok,
      c.in_ok-append_handles.ensures,
      c.as_slice.ensures,
      c.in_ok-text.ensures,
    ) (simp append_assoc)
