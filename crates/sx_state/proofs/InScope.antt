-- The opens of a scope, and pages of them.
use Rattle.std.proofs.Common.{◌≡◌, ◌≤◌, ℕ, Bool, List, map, take, drop, length, Option, refl, arith}
use Rattle.std.specs.List.{filter}
use Rattle.std.proofs.lemmas.List.Sums.{length-filter, count_by-le-length}
use Rattle.sx_guard.specs.Handle.{Handle}
use Rattle.sx_call.specs.declared.opens.Open.{Open}
use Rattle.sx_call.specs.declared.pages.HandleItem.{HandleItem}
use Rattle.sx_call.specs.declared.pages.HandlesPage.{HandlesPage}
use Rattle.sx_tree.specs.Tree.{Nodes}
use Rattle.sx_spec.specs.Account.{Store}
use Rattle.sx_spec.specs.Pages.{handle_item, handles_page, is_from_handle, next_handle, scope}

-- a filter keeps at most what it is given
kept_few : {A : Type 0} (p : A → Bool) (xs : List A) → length (filter p xs) ≤ length xs
kept_few p xs = rw (length-filter p xs) (count_by-le-length p xs)

-- and so do two
pub kept_twice : {A : Type 0} (p q : A → Bool) (xs : List A) → length (filter p (filter q xs)) ≤ length xs
kept_twice p q xs =
    let one = kept_few q xs in
    let two = kept_few p (filter q xs) in
    omega arith

-- a page is its parts
pub page_is : (s : Store) (t : Nodes) (id : ℕ) (marker : Option Handle) (max : ℕ) (recursive : Bool) (opens : List Open) (items : List HandleItem) (next : Option Handle)
    → opens ≡ filter (is_from_handle marker) (scope s t id recursive)
    → items ≡ map (handle_item s t) (take max opens)
    → next ≡ next_handle (drop max opens)
    → ◌≡◌ {A = HandlesPage} (record { items = items; next = next }) (handles_page s t id marker max recursive)
unfolding handles_page
page_is s t id marker max recursive opens items next o i n = rw (i, n, o) refl
