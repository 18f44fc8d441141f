use Rattle.std.proofs.Common.{append_assoc}
use Rattle.sx_listing.specs.Shares.{shares_asked_text}
use Rattle.sx_listing.proofs.shares.append_asked.Goals as goal

pub returns : goal.returns
unfolding shares_asked_text
returns c =
    rw (
      c.in_ok-append-4.ensures.ok,
      c.in_ok-append_decimal.ensures.ok,
      c.results.ensures.value,
      c.in_ok-append-3.ensures.ok,
      c.in_ok-append_escaped-2.ensures,
      c.in_ok-append-2.ensures.ok,
      c.in_ok-append_escaped.ensures,
      c.in_ok-append.ensures.ok,
    )
    (simp append_assoc)
