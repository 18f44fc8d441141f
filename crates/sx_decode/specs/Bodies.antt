-- The body of a request.
use Rattle.std.specs.Prelude.{ℕ, ◌==◌, ◌-◌, Bool, true, List, length, bytes_eq, codes, if◌then◌else◌, Option, Some}
use Rattle.std.specs.Prelude.{None, Ok, Err}
use Rattle.md5.specs.Md5.{md5}
use Rattle.sx_extent.specs.Ranges.{Interval}
use Rattle.sx_call.specs.Updates.{PieceFrom}
use Rattle.sx_call.specs.declared.refusals.Syntax.TheVariants.{Header as BadHeader, Md5}
use Rattle.sx_decode.specs.Reading.{Reading, with_next}

-- a request that has no body
unfoldable pub no_body : List ℕ → Reading Bool
no_body body = if length body == 0 then Ok true else Err (BadHeader (codes "content-length"))

-- the body of an update, as long as its interval
unfoldable pub piece_of : Interval → List ℕ → Reading PieceFrom
piece_of i body =
    if length body == i.end - i.from then Ok (record { from = i.from; piece = body })
    else Err (BadHeader (codes "content-length"))

-- the body has the digest that is stated, where one is
abbrev pub has_digest : Option (List ℕ) → List ℕ → Bool
has_digest None body = true
has_digest (Some digest) body = bytes_eq (md5 body) digest

-- an update whose body has the stated digest
unfoldable pub with_digest : Option (List ℕ) → PieceFrom → Reading PieceFrom
with_digest digest update = if has_digest digest update.piece then Ok update else Err Md5

-- the update that a body writes into an interval
unfoldable pub update_of : Interval → Option (List ℕ) → List ℕ → Reading PieceFrom
update_of i digest body = with_next (piece_of i body) (with_digest digest)
