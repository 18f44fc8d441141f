-- The law of signing, that what is signed passes the check while its date is in the window; and the laws of texts in
-- order.
use Rattle.std.specs.Prelude.{ℕ, ◌≡◌, ◌≤◌, ◌+◌, ◌↔◌, List, [], ◌∷◌, ◌++◌, codes, Ok}
use Rattle.std.specs.List.{Contains}
use Rattle.std.specs.List.Sorted.{IsPermutation, IsSorted, IsStrictlySortedBy}
use Rattle.sx_http.specs.declared.heads.Head.{Head}
use Rattle.sx_http.specs.declared.heads.Header.{Header}
use Rattle.sx_key.specs.declared.account.Account.{Account}
use Rattle.sx_key.specs.Checking.{auth, request_date, check_date}
use Rattle.sx_key.specs.declared.checking.TheConstants.{DATE_WINDOW}
use Rattle.sx_http.specs.Lookup.{header_values}
use Rattle.sx_key.specs.Signature.{authorization}
use Rattle.sx_key.specs.Texts.{byte_order, sorted_texts, distinct_texts}

-- the Authorization header that signs a head
abbrev pub authorization_header : Head → Account → Header
authorization_header head account = record { name = codes "authorization"; value = authorization head account }

-- the head with its Authorization header between these
abbrev pub signed_head : Head → Account → List Header → List Header → Head
signed_head head account front back = record head { headers = front ++ authorization_header head account ∷ back }

-- a head without an Authorization header whose date is read, given that header at any place, has no fault but its
-- date's
abbrev pub SignedPasses : Type 0
SignedPasses =
    (head : Head) (account : Account) (front back : List Header) (date now : ℕ)
    → head.headers ≡ front ++ back → header_values (codes "authorization") head.headers ≡ []
    → request_date head.headers ≡ Ok date
    → auth (signed_head head account front back) account now ≡ check_date date now

-- which is none exactly within the window
abbrev pub TimelyWithin : Type 0
TimelyWithin = (date now : ℕ) → (check_date date now ≡ Ok tt) ↔
    ((now ≤ date + DATE_WINDOW) × (date ≤ now + DATE_WINDOW))

-- texts put in order are their one ordered permutation
pub record IsOrdering (texts ordered : List (List ℕ)) : Type 0 where
  pub same : IsPermutation texts ordered
  pub rises : IsSorted byte_order ordered
  pub one : (others : List (List ℕ)) → IsPermutation texts others → IsSorted byte_order others → others ≡ ordered

-- distinct texts rise strictly, and are those that there are
pub record IsDistinctOrdering (texts ordered : List (List ℕ)) : Type 0 where
  pub rises : IsStrictlySortedBy byte_order ordered
  pub all : (text : List ℕ) → Contains texts text → Contains ordered text
  pub only : (text : List ℕ) → Contains ordered text → Contains texts text

-- sorting gives the one ordered permutation
abbrev pub TextsAreSorted : Type 0
TextsAreSorted = (texts : List (List ℕ)) → IsOrdering texts (sorted_texts texts)

-- and each text once, strictly rising, with the same members
abbrev pub TextsAreDistinct : Type 0
TextsAreDistinct = (texts : List (List ℕ)) → IsDistinctOrdering texts (distinct_texts texts)
