-- The body that lists ranges is read exactly.
use Rattle.std.proofs.Common.{◌≡◌, ℕ, ◌-◌, ◌≤◌, codes, List, [], ◌∷◌, ◌++◌, refl, ap, subst, ◌∙◌, arith, append_assoc}
use Rattle.std.proofs.lemmas.Bool.{cases_eq}
use Rattle.sx_extent.specs.Ranges.{Interval}
use Rattle.sx_text.specs.Readers.{pair_at, all_values_at, values_text}
use Rattle.sx_text.specs.Numbers.{number_text, number_after, IsFrom}
use Rattle.sx_text.proofs.Laws.{Reads, pair-reading, made-reading}
use Rattle.sx_text.proofs.Literals.{after-reading, closed-reading}
use Rattle.sx_text.proofs.Numbers.{number_after-reading}
use Rattle.sx_text.proofs.Values.{values-reading}
use Rattle.sx_listing.proofs.Bodies.{moved}
use Rattle.sx_listing.specs.declared.ranges.TheConstants.{MAX_OFFSET}
use Rattle.sx_listing.specs.Ranges.{range_text, ranges_text, IsRange, AreRanges, range_of, last_at, range_at, items_at, ranges_at}

abbrev first_rest : ℕ → List ℕ
first_rest from = codes "Range><Start>" ++ number_text 60 from

abbrev last_rest : ℕ → List ℕ
last_rest last = (codes "/Start><End>" ++ number_text 60 last) ++ codes "/End></Range><"

-- a range as it is read: without the `<` at its front, and with the next one
abbrev range_rest : Interval → List ℕ
range_rest s = first_rest s.from ++ last_rest (s.end - 1)

last-reading : (from : ℕ) → from ≤ MAX_OFFSET → Reads cases_eq last_rest (IsFrom from MAX_OFFSET) (last_at from)
unfolding last_at
last-reading from le =
    closed-reading (λ n. codes "/Start><End>" ++ number_text 60 n) (IsFrom from MAX_OFFSET)
    (number_after (codes "/Start><End>") 60 from MAX_OFFSET) (codes "/End></Range><")
    (number_after-reading (codes "/Start><End>") 60 from MAX_OFFSET refl le (omega arith))

range-reading : Reads cases_eq range_rest IsRange range_at
unfolding range_at
range-reading k =
    made-reading cases_eq k (λ (x : ℕ × ℕ). first_rest x.0 ++ last_rest x.1) (λ x. IsFrom 0 MAX_OFFSET x.0 × IsFrom x.0 MAX_OFFSET x.1)
    (pair_at (number_after (codes "Range><Start>") 60 0 MAX_OFFSET) last_at)
    range_of (λ s. (s.from, s.end - 1)) range_rest IsRange
    (λ x h. ((omega (arith, h.1.0), omega (arith, h.1.1)), ap (λ last. first_rest x.0 ++ last_rest last) (omega arith)))
    (λ s h. (((omega arith, omega (arith, h.0, h.1)), (omega (arith, h.0), omega (arith, h.0, h.1))), ap (λ end. record { from = s.from; end = end }) (omega (arith, h.0))))
    (pair-reading cases_eq k first_rest (IsFrom 0 MAX_OFFSET) (number_after (codes "Range><Start>") 60 0 MAX_OFFSET)
    (λ from last. last_rest last) (λ from last. IsFrom from MAX_OFFSET last) last_at
    (number_after-reading (codes "Range><Start>") 60 0 MAX_OFFSET refl (omega arith) (omega arith))
    (λ from h. (from, (omega arith, h.1)))
    (λ from j h le. last-reading from h.1 j))

abbrev items_rest : List Interval → List ℕ
items_rest ss = codes "<?xml version=\"1.0\" encoding=\"utf-8\"?><Ranges><" ++ values_text range_rest 47 ss

items-reading : Reads cases_eq items_rest AreRanges items_at
unfolding items_at
items-reading k =
    after-reading k (codes "<?xml version=\"1.0\" encoding=\"utf-8\"?><Ranges><") (values_text range_rest 47) AreRanges
    (all_values_at 47 range_at) ([], tt)
    (values-reading 47 range_rest IsRange range_at (λ s h. (82, _, refl, λ q. omega (arith, q))) range-reading k)

body-reading : Reads cases_eq (λ ss. items_rest ss ++ codes "Ranges>") AreRanges ranges_at
unfolding ranges_at
body-reading = closed-reading items_rest AreRanges items_at (codes "Ranges>") items-reading

-- the text as it is read is the text as it is written
range_moves : (s : Interval) → 60 ∷ range_rest s ≡ range_text s ++ 60 ∷ []
unfolding range_text
range_moves s = simp append_assoc

body_is : (ss : List Interval) → items_rest ss ++ codes "Ranges>" ≡ ranges_text ss
unfolding ranges_text
body_is ss =
    ap (λ more. (codes "<?xml version=\"1.0\" encoding=\"utf-8\"?><Ranges>" ++ more) ++ codes "Ranges>") (moved range_text range_rest range_moves ss)
    ∙ simp append_assoc

pub ranges-reading : Reads cases_eq ranges_text AreRanges ranges_at
ranges-reading = subst (λ (text : List Interval → List ℕ). Reads cases_eq text AreRanges ranges_at) (λ i ss. body_is ss i) body-reading
