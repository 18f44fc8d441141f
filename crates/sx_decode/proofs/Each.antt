-- Items read in order, with their numbers.
use Rattle.std.proofs.Common.{◌≡◌, ℕ, ◌+◌, List, [], ◌∷◌, ◌++◌, Ok, Err, refl, sym, ap, append_assoc, ◌<◌, length}
use Rattle.std.proofs.Common.{drop, get_or, drop-cons, add-one, map, ◌∙◌, Bor}
use Rattle.sx_call.specs.declared.refusals.Syntax.{Syntax}
use Rattle.sx_decode.specs.declared.unread.Unread.{Unread}
use Rattle.sx_decode.specs.declared.unread.Unread.TheVariants.{Syntax as Refused, NoMemory}
use Rattle.sx_decode.specs.Reading.{Reading, Reads, with_next, each_read, next_number, after_these}

more_of : {B : Type 0} (done : List B) (y : B) (d : Reading (List B)) → after_these done (with_next d (λ ys. Ok (y ∷ ys))) ≡ after_these (done ++ y ∷ []) d
more_of done y (Ok ys) = ap Ok (sym (append_assoc done (y ∷ []) ys))
more_of done y (Err s) = refl

each_more : {A B : Type 0} (f : ℕ → A → Reading B) (k : ℕ) (done : List B) (x : A) (xs : List A) (y : B) → f k x ≡ Ok y → after_these done (each_read f k (x ∷ xs)) ≡ after_these (done ++ y ∷ []) (each_read f (next_number k) xs)
each_more f k done x xs y e = rw e (more_of done y (each_read f (next_number k) xs))

each_stop : {A B : Type 0} (f : ℕ → A → Reading B) (k : ℕ) (done : List B) (x : A) (xs : List A) (s : Syntax) → f k x ≡ Err s → after_these done (each_read f k (x ∷ xs)) ≡ Err s
each_stop f k done x xs s e = rw e refl

-- a refusal goes on
pub reads_err : {A B : Type 0} (e : Unread) (d : Reading A) (d' : Reading B) → Reads (Err e) d → ((s : Syntax) → d ≡ Err s → d' ≡ Err s) → Reads (Err e) d'
reads_err (Refused s) d d' h k = k s h
reads_err NoMemory d d' h k = tt

drop_more : {A : Type 0} (xs : List A) (i : ℕ) (d : A) → i < length xs → drop i xs ≡ get_or xs i d ∷ drop (i + 1) xs
drop_more xs i d lt = rw (add-one i) (drop-cons xs i d lt)

-- a lent item where there is none
abbrev pub no_item : Bor (List ℕ)
no_item = record { ref_ptr = (0, 0); now = [] }

-- a turn of a loop over lent items
pub each_step : {B : Type 0} (f : ℕ → List ℕ → Reading B) (whole : Reading (List B)) (done : List B) (k i : ℕ) (xs : List (Bor (List ℕ))) (y : B) → i < length xs
    → whole ≡ after_these done (each_read f k (map (λ s. s.now) (drop i xs)))
    → f k (get_or xs i no_item).now ≡ Ok y
    → whole ≡ after_these (done ++ y ∷ []) (each_read f (next_number k) (map (λ s. s.now) (drop (i + 1) xs)))
each_step f whole done k i xs y lt inv e =
    inv ∙ ap (λ (ys : List (Bor (List ℕ))). after_these done (each_read f k (map (λ s. s.now) ys))) (drop_more xs i no_item lt)
    ∙ each_more f k done (get_or xs i no_item).now (map (λ (s : Bor (List ℕ)). s.now) (drop (i + 1) xs)) y e

-- the loop ends with a refusal
pub each_refused : {B : Type 0} (f : ℕ → List ℕ → Reading B) (whole : Reading (List B)) (done : List B) (k i : ℕ) (xs : List (Bor (List ℕ))) (s : Syntax) → i < length xs
    → whole ≡ after_these done (each_read f k (map (λ s. s.now) (drop i xs)))
    → f k (get_or xs i no_item).now ≡ Err s
    → whole ≡ Err s
each_refused f whole done k i xs s lt inv e =
    inv ∙ ap (λ (ys : List (Bor (List ℕ))). after_these done (each_read f k (map (λ s. s.now) ys))) (drop_more xs i no_item lt)
    ∙ each_stop f k done (get_or xs i no_item).now (map (λ (s : Bor (List ℕ)). s.now) (drop (i + 1) xs)) s e
