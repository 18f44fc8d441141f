-- A page, item by item.
use Rattle.std.proofs.Common.{◌≡◌, ◌≢◌, ◌≤◌, ◌+◌, zero, suc, ℕ, List, [], ◌∷◌, ◌++◌, true, refl, Bool, ap, sym, ◌∙◌, arith, map, length, take, drop, append_assoc, append-nil, length-append}
use Rattle.std.specs.List.{filter}
use Rattle.std.proofs.Math.Seq.{take-append_seam, drop-append_seam}
use Rattle.std.proofs.lemmas.List.{map-append, length-map}

-- the items are those of some first elements that pass, and the others are among those left
abbrev pub IsPageSoFar : {A B : Type 0} (f : A → Bool) (g : A → B) (max : ℕ) (all : List A) (items : List B) (left : List A) → Type 0
IsPageSoFar {A} f g max all items left = (done : List A) × (items ≡ map g done) × (all ≡ done ++ filter f left) × (length done ≤ max)

pass : {A : Type 0} (f : A → Bool) (x : A) (xs : List A) → f x ≡ true → filter f (x ∷ xs) ≡ x ∷ filter f xs
pass f x xs e = rw e refl

pub page_more : {A B : Type 0} (f : A → Bool) (g : A → B) (max : ℕ) (all : List A) (items : List B) (left : List A) (x : A) (rest : List A)
    → IsPageSoFar f g max all items left → left ≡ x ∷ rest → f x ≡ true → length items ≢ max → IsPageSoFar f g max all (items ++ g x ∷ []) rest
page_more {A} f g max all items left x rest (done, is, whole, fits) more passes room =
    let n : length items ≡ length done = ap length is ∙ length-map done g in
    let l : length (done ++ x ∷ []) ≡ length done + 1 = length-append done (x ∷ []) in (
      done ++ x ∷ [],
      ap (λ (ys : List _). ys ++ g x ∷ []) is ∙ sym (map-append g done (x ∷ [])),
      whole ∙ ap (λ (ys : List A). done ++ filter f ys) more ∙ ap (λ (ys : List A). done ++ ys) (pass f x rest passes) ∙ sym (append_assoc done (x ∷ []) (filter f rest)),
      omega (arith, n, l, fits, room),
    )

pub page_full : {A B : Type 0} (f : A → Bool) (g : A → B) (max : ℕ) (all : List A) (items : List B) (left : List A) (x : A) (rest : List A)
    → IsPageSoFar f g max all items left → left ≡ x ∷ rest → f x ≡ true → length items ≡ max
    → (items ≡ map g (take max all)) × (drop max all ≡ x ∷ filter f rest)
page_full {A} f g max all items left x rest (done, is, whole, fits) more passes full =
    let n : length done ≡ max = sym (length-map done g) ∙ sym (ap length is) ∙ full in
    let w : all ≡ done ++ (x ∷ filter f rest) = whole ∙ ap (λ (ys : List A). done ++ filter f ys) more ∙ ap (λ (ys : List A). done ++ ys) (pass f x rest passes) in (
      is ∙ ap (map g) (sym (take-append_seam done (x ∷ filter f rest)) ∙ ap (λ (k : ℕ). take k (done ++ (x ∷ filter f rest))) n ∙ ap (take max) (sym w)),
      ap (drop max) w ∙ ap (λ (k : ℕ). drop k (done ++ (x ∷ filter f rest))) (sym n) ∙ drop-append_seam done (x ∷ filter f rest),
    )

take-fits : {A : Type 0} (n : ℕ) (xs : List A) → length xs ≤ n → take n xs ≡ xs
take-fits zero [] h = refl
take-fits (suc n) [] h = refl
take-fits zero (x ∷ xs) h = absurd (omega (arith, h))
take-fits {A} (suc n) (x ∷ xs) h = ap (λ (ys : List A). x ∷ ys) (take-fits n xs (omega (arith, h)))

drop-fits : {A : Type 0} (n : ℕ) (xs : List A) → length xs ≤ n → drop n xs ≡ []
drop-fits zero [] h = refl
drop-fits (suc n) [] h = refl
drop-fits zero (x ∷ xs) h = absurd (omega (arith, h))
drop-fits (suc n) (x ∷ xs) h = drop-fits n xs (omega (arith, h))

pub page_end : {A B : Type 0} (f : A → Bool) (g : A → B) (max : ℕ) (all : List A) (items : List B) (left : List A)
    → IsPageSoFar f g max all items left → left ≡ [] → (items ≡ map g (take max all)) × (drop max all ≡ [])
page_end {A} f g max all items left (done, is, whole, fits) none =
    let w : all ≡ done = whole ∙ ap (λ (ys : List A). done ++ filter f ys) none ∙ append-nil done in
    (is ∙ ap (map g) (sym (take-fits max done fits) ∙ ap (take max) (sym w)), ap (drop max) w ∙ drop-fits max done fits)
