use Rattle.std.proofs.Common.{append_assoc}
use Rattle.sx_listing.specs.Shares.{shares_text}
use Rattle.sx_listing.proofs.shares.write_shares.Goals as goal

pub returns : goal.returns
unfolding shares_text
returns c =
    rw (
      c.in_ok-append-3.ensures.ok,
      c.in_ok-append_escaped.ensures,
      c.in_ok-append-2.ensures.ok,
      c.in_ok-append_shares.ensures,
      c.as_slice.ensures,
      c.in_ok-append.ensures.ok,
      c.in_ok-append_asked.ensures,
      c.in_ok-text.ensures,
    ) (simp append_assoc)
