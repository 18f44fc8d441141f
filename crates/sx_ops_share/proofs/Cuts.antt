-- The items of a page of shares: cut lists of those that are listed.
use Rattle.std.proofs.Common.{◌≡◌, ◌∙◌, ℕ, zero, suc, ◌+◌, ◌<◌, Bool, List, [], ◌∷◌, ◌++◌, map, take, drop, get_or, length, Option, refl, ap, sym, append_assoc, arith}
use Rattle.std.specs.List.{filter, flat_map}
use Rattle.std.proofs.lemmas.List.{at_drop_more}
use Rattle.std.proofs.lemmas.List.Elements.{filter-append}
use Rattle.sx_call.specs.declared.pages.ShareItem.{ShareItem}
use Rattle.sx_call.specs.declared.listings.SharesMarker.{SharesMarker}
use Rattle.sx_call.specs.declared.pages.SharesPage.{SharesPage}
use Rattle.sx_spec.specs.Account.{Store}
use Rattle.sx_spec.specs.Pages.{marker_text, next_share, share_items, shares_page}

-- what is cut before more is put behind it is cut the same
take_twice : {A : Type 0} (n : ℕ) (xs ys : List A) → take n (take n xs ++ ys) ≡ take n (xs ++ ys)
take_twice zero xs ys = refl
take_twice (suc n) [] ys = refl
take_twice {A} (suc n) (x ∷ xs) ys = ap (λ (zs : List A). x ∷ zs) (take_twice n xs ys)

-- some items, cut, and more behind them
cut_more : {A : Type 0} (n : ℕ) (old now more rest : List A) → now ≡ take n (old ++ more) → take n (now ++ rest) ≡ take n (old ++ (more ++ rest))
cut_more {A} n old now more rest is =
    ap (λ (zs : List A). take n (zs ++ rest)) is ∙ take_twice n (old ++ more) rest ∙ ap (take n) (append_assoc old more rest)

-- a page's items among one more of them
cut_of_more : {A : Type 0} (n : ℕ) (xs : List A) → take n (take (suc n) xs) ≡ take n xs
cut_of_more zero xs = refl
cut_of_more (suc n) [] = refl
cut_of_more {A} (suc n) (x ∷ xs) = ap (λ (zs : List A). x ∷ zs) (cut_of_more n xs)

-- where the next page starts, from one more item
next_of_more : (n : ℕ) (xs : List ShareItem) → next_share (drop n (take (suc n) xs)) ≡ next_share (drop n xs)
next_of_more zero [] = refl
next_of_more zero (x ∷ xs) = refl
next_of_more (suc n) [] = refl
next_of_more (suc n) (x ∷ xs) = next_of_more n xs

one_over : (n : ℕ) → n + 1 ≡ suc n
one_over n = omega arith

-- the items of a page, from one more of them
pub page_items : (n : ℕ) (items all : List ShareItem) → items ≡ take (n + 1) all → take n items ≡ take n all
page_items n items all are =
    ap (take n) are ∙ ap (λ (k : ℕ). take n (take k all)) (one_over n) ∙ cut_of_more n all

-- where the next page starts, from one more item
pub page_next : (n : ℕ) (items all : List ShareItem) → items ≡ take (n + 1) all
    → next_share (drop n items) ≡ next_share (drop n all)
page_next n items all are =
    ap (λ (xs : List ShareItem). next_share (drop n xs)) are
    ∙ ap (λ (k : ℕ). next_share (drop n (take k all))) (one_over n)
    ∙ next_of_more n all

-- a page is its parts
pub page_is : (s : Store) (prefix : List ℕ) (marker : Option SharesMarker) (max : ℕ) (snapshots : Bool) (asked from next : List ℕ) (items : List ShareItem)
    → asked ≡ prefix → from ≡ marker_text marker
    → items ≡ take max (share_items s prefix marker snapshots)
    → next ≡ next_share (drop max (share_items s prefix marker snapshots))
    → ◌≡◌ {A = SharesPage} (record { prefix = asked; marker = from; max = max; items = items; next = next }) (shares_page s prefix marker max snapshots)
unfolding shares_page
page_is s prefix marker max snapshots asked from next items a f i n = rw (a, f, i, n) refl

-- one more of what is gone over, of which each lists one item
pub one_item : {A : Type 0} (p : ShareItem → Bool) (f : A → ShareItem) (n : ℕ) (old now : List ShareItem) (xs : List A) (k : ℕ) (x : A) → k < length xs
    → now ≡ take n (old ++ filter p (f (get_or xs k x) ∷ []))
    → take n (now ++ filter p (map f (drop (k + 1) xs))) ≡ take n (old ++ filter p (map f (drop k xs)))
one_item {A} p f n old now xs k x lt is =
    let rest = map f (drop (k + 1) xs) in
    cut_more n old now (filter p (f (get_or xs k x) ∷ [])) (filter p rest) is
    ∙ ap (λ (zs : List ShareItem). take n (old ++ zs)) (sym (filter-append p (f (get_or xs k x) ∷ []) rest))
    ∙ sym (at_drop_more (λ (ys : List A). take n (old ++ filter p (map f ys))) xs k x lt)

-- one more of what is gone over, of which each lists several items
pub one_share : {A B : Type 0} (p : ShareItem → Bool) (f : B → List ShareItem) (g : A → B) (n : ℕ) (old now : List ShareItem) (xs : List A) (k : ℕ) (x : A) → k < length xs
    → now ≡ take n (old ++ filter p (f (g (get_or xs k x))))
    → take n (now ++ filter p (flat_map f (map g (drop (k + 1) xs)))) ≡ take n (old ++ filter p (flat_map f (map g (drop k xs))))
one_share {A} {B} p f g n old now xs k x lt is =
    let rest = flat_map f (map g (drop (k + 1) xs)) in
    cut_more n old now (filter p (f (g (get_or xs k x)))) (filter p rest) is
    ∙ ap (λ (zs : List ShareItem). take n (old ++ zs)) (sym (filter-append p (f (g (get_or xs k x))) rest))
    ∙ sym (at_drop_more (λ (ys : List A). take n (old ++ filter p (flat_map f (map g ys)))) xs k x lt)
