-- The path that is spelled names its place.
use Rattle.std.proofs.Common.{◌≡◌, ◌<◌, ℕ, suc, ◌+◌, ◌-◌, ◌==◌, Bool, true, false, List, [], ◌∷◌, ◌++◌, length, map, slice_index}
use Rattle.std.proofs.Common.{Option, Some, None, Ok, arith, refl, sym, ap, ◌∙◌, append-nil, length-append}
use Rattle.std.specs.Prelude.{All, is_none}
use Rattle.std.specs.List.{slice_split, flat_map, list_all, before_first, after_first, position_or_len}
use Rattle.std.specs.Str.{is_utf8}
use Rattle.std.proofs.lemmas.Bool.{false≢true, and_parts}
use Rattle.std.proofs.lemmas.Bool.Decides.{nat_tests}
use Rattle.std.proofs.lemmas.Str.{chars-nil}
use Rattle.std.proofs.lemmas.List.Elements.{All-nil, All-cons, All-append, All-head, All-tail}
use Rattle.std.proofs.lemmas.List.Splits.{slice_split_none, slice_split_at}
use Rattle.std.proofs.lemmas.List.{take_all, drop_all}
use Rattle.std.proofs.Math.Seq.{take-append_seam, drop-append-add}
use Rattle.percent_encoding.proofs.PercentLemmas.{IsByte, percent_encode_nonempty}
use Rattle.sx_names.specs.Names.{is_share_name, is_share_byte, is_part, is_path, names_part}
use Rattle.sx_names.specs.Fault.{part_fault, share_fault, whole_fault}
use Rattle.sx_names.specs.declared.fault.NameFault.{NameFault}
use Rattle.sx_names.proofs.FirstBroken.{part_law, share_law, whole_law}
use Rattle.sx_call.specs.declared.targets.Target.{Target}
use Rattle.sx_call.specs.FieldLimits.{IsTarget}
use Rattle.sx_decode.specs.declared.targets.Place.{Place}
use Rattle.sx_decode.specs.declared.targets.Place.TheVariants.{Account, Inside}
use Rattle.sx_decode.specs.Reading.{each_read, next_number}
use Rattle.sx_decode.specs.Targets.{segment_of, unless_broken, share_of, part_of, path_of, place_of_segments, is_slash, without_slash, place_behind_slash, place_of}
use Rattle.sx_heads.specs.declared.escapes.TheConstants.{PLAIN}
use Rattle.sx_heads.specs.Values.{escaped}
use Rattle.sx_heads.specs.Targets.{slashed, path_text}
use Rattle.sx_heads.proofs.EncodedTexts.{AreBytes, no_bad, decoded_back, utf8_bytes, lacks_slash, lacks_question}

-- the place has a share's name and a path
abbrev pub IsPlace : Place → Type 0
IsPlace Account = Unit {0}
IsPlace (Inside at) = IsTarget at

segment_back : (part : ℕ) (name : List ℕ) → AreBytes name → segment_of part (escaped name) ≡ Ok name
segment_back part name small = rw (no_bad name small, decoded_back name small) refl

unbroken : {N : Type 0} (fault : Option NameFault) (name : N) → is_none fault ≡ true → unless_broken fault name ≡ Ok name
unbroken None name e = refl
unbroken (Some fault) name e = absurd (false≢true e)

part_utf8 : (name : List ℕ) → is_part name ≡ true → is_utf8 name ≡ true
part_utf8 name e = (and_parts (is_utf8 name) _ e).0

part_back : (part : ℕ) (name : List ℕ) → is_part name ≡ true → part_of part (escaped name) ≡ Ok name
part_back part name e =
    rw (segment_back part name (utf8_bytes name (part_utf8 name e))) (unbroken (part_fault part name) name (sym (part_law part name) ∙ e))

parts_back : (k : ℕ) (parts : List (List ℕ)) → list_all is_part parts ≡ true → each_read part_of k (map escaped parts) ≡ Ok parts
parts_back k [] e = refl
parts_back k (p ∷ ps) e =
    let both = and_parts (is_part p) (list_all is_part ps) e in
    rw (part_back k p both.0, parts_back (next_number k) ps both.1) refl

path_parts : (parts : List (List ℕ)) → is_path parts ≡ true → list_all is_part parts ≡ true
path_parts parts e = (and_parts (list_all is_part parts) _ (and_parts _ _ e).0).0

path_back : (parts : List (List ℕ)) → is_path parts ≡ true → path_of (map escaped parts) ≡ Ok parts
unfolding path_of
path_back parts e =
    let named = path_parts parts e in
    rw (parts_back 1 parts named) (unbroken (whole_fault parts) parts (sym (whole_law parts named) ∙ e))

byte_low : (b : ℕ) → is_share_byte b ≡ true → b < 256
byte_low b e = grind (arith, nat_tests, e)

share_bytes : (name : List ℕ) → list_all is_share_byte name ≡ true → AreBytes name
share_bytes [] e = All-nil IsByte
share_bytes (b ∷ bs) e =
    let both = and_parts (is_share_byte b) (list_all is_share_byte bs) e in
    All-cons IsByte b bs (byte_low b both.0) (share_bytes bs both.1)

pub share_name_all : (name : List ℕ) → is_share_name name ≡ true → list_all is_share_byte name ≡ true
share_name_all name e = (and_parts _ (list_all is_share_byte name) (and_parts _ _ (and_parts _ _ (and_parts _ _ e).0).0).0).1

share_name_bytes : (name : List ℕ) → is_share_name name ≡ true → AreBytes name
share_name_bytes name e = share_bytes name (share_name_all name e)

share_back : (name : List ℕ) → is_share_name name ≡ true → share_of (escaped name) ≡ Ok name
unfolding share_of
share_back name e =
    rw (segment_back 0 name (share_name_bytes name e)) (unbroken (share_fault name) name (sym (share_law name) ∙ e))

-- what stands behind the first slash of a path
abbrev behind : List ℕ → List (List ℕ) → List ℕ
behind part parts = escaped part ++ flat_map slashed parts

split_back : (part : List ℕ) (parts : List (List ℕ)) → slice_split is_slash (behind part parts) ≡ map escaped (part ∷ parts)
split_back part [] = rw (append-nil (escaped part)) (slice_split_none is_slash (escaped part) (lacks_slash part))
split_back part (q ∷ qs) = slice_split_at is_slash (escaped part) 47 (behind q qs) (lacks_slash part) refl ∙ ap (λ (xs : List (List ℕ)). escaped part ∷ xs) (split_back q qs)

-- the last byte isn't a slash
abbrev EndsWell : List ℕ → Type 0
EndsWell text = (0 < length text) × ((slice_index text (length text - 1) == 47) ≡ false)

last_behind : (xs ys : List ℕ) (k : ℕ) → slice_index (xs ++ ys) (length xs + k) ≡ slice_index ys k
last_behind [] ys k = ap (slice_index ys) (omega arith)
last_behind (x ∷ xs) ys k =
    let e : length (x ∷ xs) + k ≡ suc (length xs + k) = omega arith in
    rw e (last_behind xs ys k)

ends_behind : (xs ys : List ℕ) → EndsWell ys → EndsWell (xs ++ ys)
ends_behind xs ys e =
    let e0 : 0 < length ys = e.0 in
    let n : length (xs ++ ys) ≡ length xs + length ys = length-append xs ys in
    let m : length (xs ++ ys) - 1 ≡ length xs + (length ys - 1) = omega (arith, n, e0) in
    (omega (arith, n, e0), ap (λ k. slice_index (xs ++ ys) k == 47) m ∙ ap (λ b. b == 47) (last_behind xs ys (length ys - 1)) ∙ e.1)

ends_escaped : (part : List ℕ) → 0 < length part → EndsWell (escaped part)
ends_escaped part some =
    let some_text = percent_encode_nonempty PLAIN part some in
    (some_text, lacks_slash part (length (escaped part) - 1) 0 (omega (arith, some_text)))

part_some : (name : List ℕ) → is_part name ≡ true → 0 < length name
part_some [] h = absurd (false≢true (rw chars-nil at (and_parts (is_utf8 []) (names_part []) h).1))
part_some (b ∷ bs) h = omega arith

ends_path : (part : List ℕ) (parts : List (List ℕ)) → 0 < length part → list_all is_part parts ≡ true → EndsWell (behind part parts)
ends_path part [] some e = rw (append-nil (escaped part)) (ends_escaped part some)
ends_path part (q ∷ qs) some e =
    let both = and_parts (is_part q) (list_all is_part qs) e in
    ends_behind (escaped part) (47 ∷ behind q qs) (ends_behind (47 ∷ []) (behind q qs) (ends_path q qs (part_some q both.0) both.1))

behind_slash : (text : List ℕ) → EndsWell text → place_behind_slash (without_slash text) ≡ place_of_segments (slice_split is_slash text)
unfolding place_behind_slash
behind_slash text e =
    let some : 0 < length text = e.0 in
    let full : (length text == 0) ≡ false = grind (arith, some) in
    rw (e.1, full) refl

share_some : (name : List ℕ) → is_share_name name ≡ true → 0 < length name
share_some [] e = absurd (false≢true e)
share_some (b ∷ bs) e = omega arith

inside_back : (at : Target) → IsTarget at → place_of (path_text (Inside at)) ≡ Ok (Inside at)
unfolding place_of path_text place_of_segments
inside_back at h =
    let ends = ends_path at.share at.path (share_some at.share h.0) (path_parts at.path h.1) in
    behind_slash (behind at.share at.path) ends ∙ rw (split_back at.share at.path, share_back at.share h.0, path_back at.path h.1) refl

account_back : place_of (path_text Account) ≡ Ok Account
unfolding place_of path_text place_behind_slash
account_back = refl

-- a path that is spelled names its place
pub place_back : (at : Place) → IsPlace at → place_of (path_text at) ≡ Ok at
place_back Account h = account_back
place_back (Inside at) h = inside_back at h

-- no byte is a `?`
abbrev pub LacksQuestion : List ℕ → Type 0
LacksQuestion text = All (λ b. (b == 63) ≡ false) text

slashed_lacks : (part : List ℕ) → LacksQuestion (slashed part)
slashed_lacks part = All-cons (λ b. (b == 63) ≡ false) 47 (escaped part) (refl {A = Bool}) (lacks_question part)

parts_lack : (parts : List (List ℕ)) → All (λ b. (b == 63) ≡ false) (flat_map slashed parts)
parts_lack [] = All-nil (λ b. (b == 63) ≡ false)
parts_lack (p ∷ ps) = All-append (λ b. (b == 63) ≡ false) (slashed p) (flat_map slashed ps) (slashed_lacks p) (parts_lack ps)

-- no `?` stands in a path
pub path_lacks : (at : Place) → All (λ b. (b == 63) ≡ false) (path_text at)
unfolding path_text
path_lacks Account = All-cons (λ b. (b == 63) ≡ false) 47 [] (refl {A = Bool}) (All-nil (λ b. (b == 63) ≡ false))
path_lacks (Inside at) = All-append (λ b. (b == 63) ≡ false) (slashed at.share) (flat_map slashed at.path) (slashed_lacks at.share) (parts_lack at.path)

-- where a text ends and the byte stands
place_at : (p : ℕ → Bool) (xs ys : List ℕ) (y : ℕ) → All (λ b. p b ≡ false) xs → p y ≡ true → position_or_len p (xs ++ y ∷ ys) ≡ length xs
place_at p [] ys y h e = rw e refl
place_at p (x ∷ xs) ys y h e =
    let px : p x ≡ false = All-head (λ b. p b ≡ false) x xs h in
    let rest = place_at p xs ys y (All-tail (λ b. p b ≡ false) x xs h) e in
    rw (px, rest) (omega arith)

pub cut_at : (p : ℕ → Bool) (xs ys : List ℕ) (y : ℕ) → All (λ b. p b ≡ false) xs → p y ≡ true → (before_first p (xs ++ y ∷ ys) ≡ xs) × (after_first p (xs ++ y ∷ ys) ≡ ys)
cut_at p xs ys y h e = let at = place_at p xs ys y h e in (rw at (take-append_seam xs (y ∷ ys)), rw at (drop-append-add xs (y ∷ ys) 1))

place_none : (p : ℕ → Bool) (xs : List ℕ) → All (λ b. p b ≡ false) xs → position_or_len p xs ≡ length xs
place_none p [] h = refl
place_none p (x ∷ xs) h =
    let px : p x ≡ false = All-head (λ b. p b ≡ false) x xs h in
    let rest = place_none p xs (All-tail (λ b. p b ≡ false) x xs h) in
    rw (px, rest) (omega arith)

pub cut_none : (p : ℕ → Bool) (xs : List ℕ) → All (λ b. p b ≡ false) xs → (before_first p xs ≡ xs) × (after_first p xs ≡ [])
cut_none p xs h = let at = place_none p xs h in (rw at (take_all (length xs) xs (omega arith)), rw at (drop_all (length xs + 1) xs (omega arith)))
