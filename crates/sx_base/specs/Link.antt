-- What each direction of a link leaves of the other.
use Rattle.std.specs.Prelude.{ℕ, ◌≡◌, ◌↔◌, List}
use Rattle.std.specs.declared.option.Option.{Option}
use Rattle.std.proofs.Common.{subst, sym}

-- what was written, the count of failed puts and the peer are as they were
pub record ReadKeeps {L : Type 0} (wrote : L → List ℕ → Type 0) (write_count peer_of : L → ℕ) (a b : L) : Type 0 where
  pub written : (bytes : List ℕ) → wrote a bytes ↔ wrote b bytes
  pub faults : write_count b ≡ write_count a
  pub peer : peer_of b ≡ peer_of a

-- what is left, the count of failed reads and the peer are as they were
pub record PutKeeps {L : Type 0} (left : L → Option (List ℕ)) (read_count peer_of : L → ℕ) (a b : L) : Type 0 where
  pub rest : left b ≡ left a
  pub faults : read_count b ≡ read_count a
  pub peer : peer_of b ≡ peer_of a

-- equal values tell the same
pub same_written : {K : Type 0} (wrote : K → List ℕ → Type 0) (a b : K) → b ≡ a → (bytes : List ℕ)
    → wrote a bytes ↔ wrote b bytes
same_written {K} wrote a b e bytes = (subst (λ (k : K). wrote k bytes) (sym e), subst (λ (k : K). wrote k bytes) e)
