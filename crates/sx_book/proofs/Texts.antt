-- Texts written one behind another; and a call leaves the count of calls.
use Rattle.std.specs.Prelude.{ℕ, ◌≡◌, List, [], ◌++◌}
use Rattle.std.proofs.Common.{refl, sym, subst, append-nil, append_assoc}
use Rattle.sx_book.specs.OneHistory.{Came, appended, history_full, no_memory}
use Rattle.sx_book.specs.Reports.{HasBegun, HasPrefix, HasText, tally_with}
use Rattle.sx_book.specs.declared.report.Tally.{Tally}

-- nothing
pub text_none : (wrote : List ℕ → Type 0) → HasText wrote wrote []
text_none wrote m h = subst wrote (sym (append-nil m)) h

-- one text behind another
pub text_more : (first second third : List ℕ → Type 0) (x y : List ℕ) → HasText first second x → HasText second third y → HasText first third (x ++ y)
text_more first second third x y h k m w = subst third (append_assoc m x y) (k (m ++ x) (h m w))

-- a prefix of a text behind another
pub text_begun : (first second third : List ℕ → Type 0) (x y : List ℕ) → HasText first second x → HasPrefix second third y → HasBegun first third x y
text_begun first second third x y h k m w = k (m ++ x) (h m w)

-- what is told does not change where what was written does not
pub text_kept : (first second third : List ℕ → Type 0) (x : List ℕ) → HasText first second x → ((m : List ℕ) → second m → third m) → HasText first third x
text_kept first second third x h keep m w = keep (m ++ x) (h m w)

-- a call that was asked leaves the count of calls
pub came_after : (limit : ℕ) (t : Tally) (c : Came) → (tally_with limit t c).asked ≡ t.asked
came_after limit t (appended place reply) = refl
came_after limit t (history_full n s) = refl
came_after limit t no_memory = refl
