-- A line's words, one behind another.
use Rattle.std.proofs.Common.{◌≡◌, ℕ, suc, ◌+◌, ◌<◌, Bool, true, false, cond, not, ◌==◌, List, [], ◌∷◌, ◌++◌, length, drop, Option, Some, None}
use Rattle.std.proofs.Common.{refl, sym, ap, subst, ◌∙◌, arith, append-nil, take-append-drop}
use Rattle.std.specs.List.{join_with_byte, position_or_len}
use Rattle.std.proofs.lemmas.Bool.{eqb-true, ne_eqb}
use Rattle.sx_lines.specs.Reading.{when_some}
use Rattle.sx_lines.specs.Words.{is_space, first_word, behind_first, next_word, behind_next}
use Rattle.sx_lines.proofs.SpelledWords.{IsBehind}
use Rattle.sx_answer_reader.specs.Words.{end_of}

-- words with a space before each
abbrev pub behind : List (List ℕ) → List ℕ
behind [] = []
behind (w ∷ ws) = 32 ∷ (w ++ behind ws)

pub joined : (w : List ℕ) (ws : List (List ℕ)) → join_with_byte 32 (w ∷ ws) ≡ w ++ behind ws
joined w [] = sym (append-nil w)
joined w (v ∷ ws) = ap (λ (x : List ℕ). w ++ (32 ∷ x)) (joined v ws)

pub behind_shaped : (ws : List (List ℕ)) → IsBehind (behind ws)
behind_shaped [] = tt
behind_shaped (w ∷ ws) = refl

-- what stands behind a first word is nothing, or a space and what follows it
pub first_shaped : (text : List ℕ) → IsBehind (behind_first text)
first_shaped [] = tt
first_shaped (b ∷ text) =
    elim (b == 32) as (λ (c : Bool). (b == 32) ≡ c → IsBehind (drop (cond (not c) (1 + position_or_len is_space text) 0) (b ∷ text))) [
      | true ↦ λ e. eqb-true b 32 e
      | false ↦ λ e.
          let more : 1 + position_or_len is_space text ≡ suc (position_or_len is_space text) = omega arith in
          subst (λ (n : ℕ). IsBehind (drop n (b ∷ text))) (sym more) (first_shaped text)
    ] refl

pub next_shaped : (k : List ℕ) → IsBehind (behind_next k)
unfolding behind_next
next_shaped k = first_shaped (drop 1 k)

pub whole : (text : List ℕ) → first_word text ++ behind_first text ≡ text
whole text = take-append-drop (position_or_len is_space text) text

-- a word that isn't empty stands behind a space, and what is left behind it
pub stands : (k w : List ℕ) (ws : List (List ℕ)) → IsBehind k → next_word k ≡ w → 0 < length w → behind ws ≡ behind_next k → behind (w ∷ ws) ≡ k
unfolding next_word behind_next
stands [] w ws h e l r = absurd (omega (arith, l, ap length e))
stands (b ∷ text) w ws h e l r =
    ap (λ (x : List ℕ). 32 ∷ (x ++ behind ws)) (sym e)
    ∙ ap (λ (x : List ℕ). 32 ∷ (first_word text ++ x)) r
    ∙ ap (λ (x : List ℕ). 32 ∷ x) (whole text)
    ∙ ap (λ (c : ℕ). c ∷ text) (sym h)

-- nothing is left
pub nothing : (k : List ℕ) (u : Unit {0}) → end_of k ≡ Some u → behind [] ≡ k
unfolding end_of
nothing [] u e = refl
nothing (b ∷ k) u e =
    let some = ne_eqb (length (b ∷ k)) 0 (λ q. omega (arith, q)) in
    let none : ◌≡◌ {A = Option (Unit {0})} None (Some u) = ap (λ (c : Bool). cond c (Some tt) None) (sym some) ∙ e in
    cc

-- a value that is made of another: what that was
pub chosen : {A B : Type 0} (o : Option A) (f : A → Option B) (b : B) → when_some o f ≡ Some b → (a : A) × (o ≡ Some a) × (f a ≡ Some b)
chosen None f b e = cc
chosen (Some a) f b e = (a, refl, e)
