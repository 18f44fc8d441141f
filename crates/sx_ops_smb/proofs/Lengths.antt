-- The length of a file behind a write.
use Rattle.std.proofs.Common.{◌≡◌, ◌≤◌, ◌+◌, ℕ, List, length, true, max}
use Rattle.std.specs.Prelude.{nat_le}
use Rattle.sx_extent.specs.Ranges.{SparseFile, most_bytes}
use Rattle.sx_extent.proofs.FileLaws.{length_write}
use Rattle.sx_spec.proofs.Lists.{nat_leq_true}
use Rattle.sx_tree.specs.Body.{write_within}

-- a write that ends at the greatest length or before it makes the file as long as it reaches, and never shorter
pub length_written : (f : SparseFile) (at : ℕ) (piece : List ℕ) → at + length piece ≤ most_bytes
    → length (write_within at piece f).bytes ≡ max (length f.bytes) (at + length piece)
unfolding write_within
length_written f at piece ends =
    let within : nat_le (at + length piece) most_bytes ≡ true = nat_leq_true (at + length piece) most_bytes ends in
    rw within (length_write f at piece)
