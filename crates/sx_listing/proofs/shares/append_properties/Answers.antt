use Rattle.std.proofs.Common.{append_assoc}
use Rattle.sx_listing.specs.Shares.{properties_text}
use Rattle.sx_listing.proofs.shares.append_properties.Goals as goal

pub returns : goal.returns
unfolding properties_text
returns c =
    rw (
      c.in_ok-append-4.ensures.ok,
      c.in_ok-append_decimal.ensures.ok,
      c.gib.ensures.value,
      c.in_ok-append-3.ensures.ok,
      c.in_ok-append_etag.ensures,
      c.in_ok-append-2.ensures.ok,
      c.in_ok-append_date.ensures,
      c.in_ok-append.ensures.ok,
    ) (simp append_assoc)
