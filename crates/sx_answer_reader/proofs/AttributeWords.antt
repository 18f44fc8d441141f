-- Attributes as a word, and read back.
use Rattle.std.proofs.Common.{◌≡◌, ℕ, ◌<◌, Bool, true, false, cond, ◌&&◌, List, [], ◌∷◌, length, Some, None, bytes_eq}
use Rattle.std.proofs.Common.{refl, sym, ap, ◌∙◌, arith}
use Rattle.std.specs.List.{list_all}
use Rattle.std.proofs.lemmas.Bool.{and_parts}
use Rattle.sx_names.specs.declared.attributes.Attributes.{Attributes}
use Rattle.sx_lines.specs.Printed.{attributes_text}
use Rattle.sx_lines.proofs.SpelledWords.{is_visible, IsWord}
use Rattle.sx_answer_reader.specs.Attributes.{named, attributes_of}
use Rattle.sx_answer_reader.proofs.WrittenFields.{same_text, kept_if}
use Rattle.sx_answer_reader.proofs.MessageBack.{same_word}

-- these attributes
abbrev set : Bool → Bool → Bool → Bool → Bool → Bool → Bool → Bool → Bool → Attributes
set a b c d e f g h i =
    record {
      read_only = a;
      hidden = b;
      system = c;
      archive = d;
      temporary = e;
      offline = f;
      not_content_indexed = g;
      no_scrub_data = h;
      directory = i;
    }

-- a test passes for both
abbrev both : (Bool → Bool) → Bool
both p = p true && p false

both_at : (p : Bool → Bool) (b : Bool) → both p ≡ true → p b ≡ true
both_at p true e = (and_parts (p true) (p false) e).0
both_at p false e = (and_parts (p true) (p false) e).1

abbrev same : Bool → Bool → Bool
same true b = b
same false true = false
same false false = true

same_is : (a b : Bool) → same a b ≡ true → a ≡ b
same_is true true e = refl
same_is true false e = cc
same_is false true e = cc
same_is false false e = refl

abbrev alike : Attributes → Attributes → Bool
alike x y =
    same x.read_only y.read_only && (same x.hidden y.hidden && (same x.system y.system && (same x.archive y.archive
    && (same x.temporary y.temporary && (same x.offline y.offline && (same x.not_content_indexed y.not_content_indexed
    && (same x.no_scrub_data y.no_scrub_data && same x.directory y.directory)))))))

alike_is : (x y : Attributes) → alike x y ≡ true → x ≡ y
alike_is x y e =
    let a = and_parts _ _ e in
    let b = and_parts _ _ a.1 in
    let c = and_parts _ _ b.1 in
    let d = and_parts _ _ c.1 in
    let f = and_parts _ _ d.1 in
    let g = and_parts _ _ f.1 in
    let h = and_parts _ _ g.1 in
    let i = and_parts _ _ h.1 in
    let a0 = same_is x.read_only y.read_only a.0 in
    let b0 = same_is x.hidden y.hidden b.0 in
    let c0 = same_is x.system y.system c.0 in
    let d0 = same_is x.archive y.archive d.0 in
    let f0 = same_is x.temporary y.temporary f.0 in
    let g0 = same_is x.offline y.offline g.0 in
    let h0 = same_is x.not_content_indexed y.not_content_indexed h.0 in
    let i0 = same_is x.no_scrub_data y.no_scrub_data i.0 in
    let j0 = same_is x.directory y.directory i.1 in
    ap (λ v. set v x.hidden x.system x.archive x.temporary x.offline x.not_content_indexed x.no_scrub_data x.directory) a0
    ∙ ap (λ v. set y.read_only v x.system x.archive x.temporary x.offline x.not_content_indexed x.no_scrub_data x.directory) b0
    ∙ ap (λ v. set y.read_only y.hidden v x.archive x.temporary x.offline x.not_content_indexed x.no_scrub_data x.directory) c0
    ∙ ap (λ v. set y.read_only y.hidden y.system v x.temporary x.offline x.not_content_indexed x.no_scrub_data x.directory) d0
    ∙ ap (λ v. set y.read_only y.hidden y.system y.archive v x.offline x.not_content_indexed x.no_scrub_data x.directory) f0
    ∙ ap (λ v. set y.read_only y.hidden y.system y.archive y.temporary v x.not_content_indexed x.no_scrub_data x.directory) g0
    ∙ ap (λ v. set y.read_only y.hidden y.system y.archive y.temporary y.offline v x.no_scrub_data x.directory) h0
    ∙ ap (λ v. set y.read_only y.hidden y.system y.archive y.temporary y.offline y.not_content_indexed v x.directory) i0
    ∙ ap (λ v. set y.read_only y.hidden y.system y.archive y.temporary y.offline y.not_content_indexed y.no_scrub_data v) j0

abbrev not_empty : List ℕ → Bool
not_empty [] = false
not_empty (b ∷ text) = true

not_empty_some : (text : List ℕ) → not_empty text ≡ true → 0 < length text
not_empty_some [] e = cc
not_empty_some (b ∷ text) e = omega arith

-- the text of attributes is a word that isn't empty, and names them
unfoldable is_told : Attributes → Bool
is_told a = list_all is_visible (attributes_text a) && (not_empty (attributes_text a) && alike (named (attributes_text a)) a)

abbrev every : (Attributes → Bool) → Bool
every p = both (λ a. both (λ b. both (λ c. both (λ d. both (λ e. both (λ f. both (λ g. both (λ h. both (λ i. p (set a b c d e f g h i))))))))))

all_told : every is_told ≡ true
unfolding is_told attributes_text
all_told = refl

told : (x : Attributes) → is_told x ≡ true
told x =
    let p : Attributes → Bool = is_told in
    both_at (λ i. p (set x.read_only x.hidden x.system x.archive x.temporary x.offline x.not_content_indexed x.no_scrub_data i)) x.directory (
    both_at (λ h. both (λ i. p (set x.read_only x.hidden x.system x.archive x.temporary x.offline x.not_content_indexed h i))) x.no_scrub_data (
    both_at (λ g. both (λ h. both (λ i. p (set x.read_only x.hidden x.system x.archive x.temporary x.offline g h i)))) x.not_content_indexed (
    both_at (λ f. both (λ g. both (λ h. both (λ i. p (set x.read_only x.hidden x.system x.archive x.temporary f g h i))))) x.offline (
    both_at (λ e. both (λ f. both (λ g. both (λ h. both (λ i. p (set x.read_only x.hidden x.system x.archive e f g h i)))))) x.temporary (
    both_at (λ d. both (λ e. both (λ f. both (λ g. both (λ h. both (λ i. p (set x.read_only x.hidden x.system d e f g h i))))))) x.archive (
    both_at (λ c. both (λ d. both (λ e. both (λ f. both (λ g. both (λ h. both (λ i. p (set x.read_only x.hidden c d e f g h i)))))))) x.system (
    both_at (λ b. both (λ c. both (λ d. both (λ e. both (λ f. both (λ g. both (λ h. both (λ i. p (set x.read_only b c d e f g h i))))))))) x.hidden (
    both_at (λ a. both (λ b. both (λ c. both (λ d. both (λ e. both (λ f. both (λ g. both (λ h. both (λ i. p (set a b c d e f g h i)))))))))) x.read_only all_told))))))))

pub attributes_visible : (a : Attributes) → IsWord (attributes_text a)
unfolding is_told
attributes_visible a = (and_parts _ _ (told a)).0

attributes_some : (a : Attributes) → 0 < length (attributes_text a)
unfolding is_told
attributes_some a = not_empty_some (attributes_text a) (and_parts _ _ (and_parts _ _ (told a)).1).0

named_back : (a : Attributes) → named (attributes_text a) ≡ a
unfolding is_told
named_back a = alike_is (named (attributes_text a)) a (and_parts _ _ (and_parts _ _ (told a)).1).1

by_names : (n a : Attributes) → n ≡ a → cond (bytes_eq (attributes_text n) (attributes_text a)) (Some n) None ≡ Some a
by_names n a e = rw (e, same_word (attributes_text a)) refl

pub attributes_back : (a : Attributes) → attributes_of (attributes_text a) ≡ Some a
unfolding attributes_of
attributes_back a = by_names (named (attributes_text a)) a (named_back a)

pub attributes_is : (w : List ℕ) (a : Attributes) → attributes_of w ≡ Some a → (w ≡ attributes_text a) × (0 < length (attributes_text a))
unfolding attributes_of
attributes_is w a e =
    let t = kept_if (bytes_eq (attributes_text (named w)) w) (named w) a e in
    (sym (same_text (attributes_text (named w)) w t.0) ∙ ap attributes_text t.1, attributes_some a)
