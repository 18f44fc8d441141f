-- A name is what breaks no rule.
use Rattle.std.proofs.Common.{encode_utf8_all, ◌≡◌, ℕ, suc, ◌+◌, ◌-◌, ◌==◌, Bool, true, false, cond, not, ◌&&◌, ◌||◌, List, [], ◌∷◌, length, chars, refl, sym, ap, ◌∙◌, arith, nat_lt, nat_le, Option, Some, None, is_none, is_some, min, slice_index}
use Rattle.std.specs.Option.{option_or, option_map}
use Rattle.std.specs.List.{list_all, list_any, position, position_or_len, find, range_with_len}
use Rattle.std.specs.Str.{is_utf8}
use Rattle.std.proofs.lemmas.Str.{encodes-chars, chars-nil, IsUtf8-from_is_utf8}
use Rattle.std.proofs.lemmas.Bool.Decides.{nat_tests}
use Rattle.sx_names.specs.declared.fault.NameRule.TheVariants as rule
use Rattle.sx_names.specs.declared.fault.NameFault.{NameFault}
use Rattle.sx_names.specs.Names.{is_part, is_share_name, is_path, is_name_char, is_share_byte, is_dots, has_bad_tail, is_hyphens_at, is_lower_or_digit, path_length}
use Rattle.sx_names.specs.Fault.{part_fault, share_fault, parts_fault, path_fault, whole_fault, broken_or, at_if, char_place, utf8_front, is_other_char, is_other_byte}

module _ {X : Type 0} (p : X → Bool) where
  first_fails : (b : Bool) (n m : ℕ) → is_none (cond (nat_lt (cond (not (not b)) (1 + n) 0) (suc m)) (Some (cond (not (not b)) (1 + n) 0)) None) ≡ (b && is_none (cond (nat_lt n m) (Some n) None))
  first_fails true n m =
      let same : nat_lt (1 + n) (suc m) ≡ nat_lt n m = grind (arith, nat_tests) in
      rw same (by (nat_lt n m))
    where
      by : (c : Bool) → is_none (cond c (Some (1 + n)) None) ≡ is_none (cond c (Some n) None)
      by true = refl
      by false = refl
  first_fails false n m =
      let starts : nat_lt 0 (suc m) ≡ true = grind (arith, nat_tests) in
      rw starts refl

  -- all pass exactly where no place has one that fails
  pub all_pass : (xs : List X) → list_all p xs ≡ is_none (position (λ x. not (p x)) xs)
  all_pass [] = refl
  all_pass (x ∷ xs) = ap (λ b. p x && b) (all_pass xs) ∙ sym (first_fails (p x) (position_or_len (λ y. not (p y)) xs) (length xs))

  -- some pass exactly where one is found
  pub any_found : (xs : List X) → list_any p xs ≡ is_some (find p xs)
  any_found [] = refl
  any_found (x ∷ xs) = by (p x) (any_found xs)
    where
      by : (b : Bool) → list_any p xs ≡ is_some (find p xs) → (b || list_any p xs) ≡ is_some (cond b (Some x) (find p xs))
      by true more = refl
      by false more = more

mapped : (f : ℕ → ℕ) (o : Option ℕ) → is_none (option_map f o) ≡ is_none o
mapped f None = refl
mapped f (Some x) = refl

empty_chars : (bs : List ℕ) → is_utf8 bs ≡ true → nat_le 1 (length (chars bs)) ≡ not (length bs == 0)
empty_chars [] e = rw chars-nil refl
empty_chars (b ∷ bs) e =
    let full : not (length (b ∷ bs) == 0) ≡ true = grind (arith, nat_tests) in
    by (chars (b ∷ bs)) (encodes-chars (b ∷ bs) (IsUtf8-from_is_utf8 (b ∷ bs) e)) ∙ sym full
  where
    by : (cs : List ℕ) → encode_utf8_all cs ≡ b ∷ bs → nat_le 1 (length cs) ≡ true
    by [] h = cc
    by (c ∷ cs) h = grind (arith, nat_tests)

at_most : (n m : ℕ) → nat_le n m ≡ not (nat_lt m n)
at_most n m = grind (arith, nat_tests)

part_tells : (k a b c : ℕ) (utf8 empty : Bool) (other : Option ℕ) (dots tail long : Bool) →
    (utf8 && (not empty && not long && is_none other && not dots && not tail))
    ≡ is_none (broken_or rule.Utf8 k (at_if (not utf8) a) (broken_or rule.Empty k (at_if empty 0) (broken_or rule.Char k other
    (broken_or rule.Dot k (at_if dots 0) (broken_or rule.Tail k (at_if tail b) (broken_or rule.Long k (at_if long c) None))))))
part_tells k a b c false empty other dots tail long = refl
part_tells k a b c true true other dots tail long = refl
part_tells k a b c true false (Some at) dots tail true = refl
part_tells k a b c true false (Some at) dots tail false = refl
part_tells k a b c true false None true tail true = refl
part_tells k a b c true false None true tail false = refl
part_tells k a b c true false None false true true = refl
part_tells k a b c true false None false true false = refl
part_tells k a b c true false None false false true = refl
part_tells k a b c true false None false false false = refl

share_tells : (a : ℕ) (short long : Bool) (other : Option ℕ) (first last : Bool) (pair : Option ℕ) →
    (not short && not long && is_none other && first && last && is_none pair)
    ≡ is_none (broken_or rule.Short 0 (at_if short 0) (broken_or rule.Long 0 (at_if long 63) (broken_or rule.Char 0 other
    (broken_or rule.Edge 0 (at_if (not first) 0) (broken_or rule.Edge 0 (at_if (not last) a) (broken_or rule.Hyphens 0 (option_map (λ k. k + 1) pair) None))))))
share_tells a true long other first last pair = refl
share_tells a false true other first last pair = refl
share_tells a false false (Some at) first last pair = refl
share_tells a false false None false last pair = refl
share_tells a false false None true false pair = refl
share_tells a false false None true true (Some at) = refl
share_tells a false false None true true None = refl

path_tells : (part : Option NameFault) (deep long : Bool) → (is_none part && not deep && not long)
    ≡ is_none (option_or part (broken_or rule.Deep 0 (at_if deep 0) (broken_or rule.PathLong 0 (at_if long 0) None)))
path_tells (Some fault) deep long = refl
path_tells None true long = refl
path_tells None false true = refl
path_tells None false false = refl

or_none : (one other : Option NameFault) → is_none (option_or one other) ≡ (is_none one && is_none other)
or_none None other = refl
or_none (Some fault) other = refl

part_by : (k : ℕ) (bs : List ℕ) (utf8 : Bool) → is_utf8 bs ≡ utf8 → is_part bs ≡ is_none (part_fault k bs)
unfolding part_fault
part_by k bs false e = rw e refl
part_by k bs true e =
    rw (e, empty_chars bs e, at_most (length (chars bs)) 255, all_pass is_name_char (chars bs), ← mapped (char_place bs) (position is_other_char (chars bs)))
    (part_tells k (utf8_front bs (length bs)) (length bs - 1) (char_place bs 255) true (length bs == 0) (option_map (char_place bs) (position is_other_char (chars bs)))
    (is_dots bs) (has_bad_tail bs) (nat_lt 255 (length (chars bs))))

-- a part is what breaks no rule of parts
pub part_law : (k : ℕ) (bs : List ℕ) → is_part bs ≡ is_none (part_fault k bs)
part_law k bs = part_by k bs (is_utf8 bs) refl

found_none : (o : Option ℕ) → not (is_some o) ≡ is_none o
found_none o = refl

-- a share's name is what breaks no rule of them
pub share_law : (bs : List ℕ) → is_share_name bs ≡ is_none (share_fault bs)
unfolding share_fault
share_law bs =
    rw (at_most 3 (length bs), at_most (length bs) 63, all_pass is_share_byte bs, any_found (is_hyphens_at bs) (range_with_len 0 (length bs)))
    (share_tells (length bs - 1) (nat_lt (length bs) 3) (nat_lt 63 (length bs)) (position is_other_byte bs) (is_lower_or_digit (slice_index bs 0))
    (is_lower_or_digit (slice_index bs (length bs - 1))) (find (is_hyphens_at bs) (range_with_len 0 (length bs))))

-- all are parts exactly where none breaks a rule
pub parts_law : (k : ℕ) (parts : List (List ℕ)) → list_all is_part parts ≡ is_none (parts_fault k parts)
parts_law k [] = refl
parts_law k (p ∷ ps) =
    rw (part_law k p, parts_law (min (k + 1) 4294967295) ps) (sym (or_none (part_fault k p) (parts_fault (min (k + 1) 4294967295) ps)))

-- a path is what breaks no rule of its parts, and none of a whole path
pub path_law : (parts : List (List ℕ)) → is_path parts ≡ is_none (path_fault parts)
unfolding path_fault
path_law parts =
    rw (parts_law 1 parts, at_most (length parts) 250, at_most (path_length parts) 2048)
    (path_tells (parts_fault 1 parts) (nat_lt 250 (length parts)) (nat_lt 2048 (path_length parts)))

-- parts that are names are a path where they break no rule of a whole path
pub whole_law : (parts : List (List ℕ)) → list_all is_part parts ≡ true → is_path parts ≡ is_none (whole_fault parts)
unfolding whole_fault
whole_law parts named =
    rw (named, at_most (length parts) 250, at_most (path_length parts) 2048)
    (path_tells None (nat_lt 250 (length parts)) (nat_lt 2048 (path_length parts)))
