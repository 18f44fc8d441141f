use Rattle.std.proofs.Common.{append_assoc}
use Rattle.sx_listing.specs.Handles.{opener_text}
use Rattle.sx_listing.proofs.handles.append_opener.Goals as goal

pub returns : goal.returns
unfolding opener_text
returns c =
    rw (
      c.in_ok-append-4.ensures.ok,
      c.in_ok-append_moment.ensures,
      c.in_ok-append-3.ensures.ok,
      c.in_ok-append_dotted.ensures,
      c.in_ok-append-2.ensures.ok,
      c.in_ok-append_decimal.ensures.ok,
      c.in_ok-append.ensures.ok,
    ) (simp append_assoc)
