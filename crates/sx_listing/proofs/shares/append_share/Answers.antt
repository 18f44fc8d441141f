use Rattle.std.proofs.Common.{append_assoc}
use Rattle.sx_listing.specs.Shares.{share_text}
use Rattle.sx_listing.proofs.shares.append_share.Goals as goal

pub returns : goal.returns
unfolding share_text
returns c =
    rw (
      c.in_ok-append-3.ensures.ok,
      c.in_ok-append_properties.ensures,
      c.in_ok-append_snapshot.ensures,
      c.in_ok-append-2.ensures.ok,
      c.in_ok-append_escaped.ensures,
      c.in_ok-append.ensures.ok,
    ) (simp append_assoc)
