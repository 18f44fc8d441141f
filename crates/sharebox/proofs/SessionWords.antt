-- The words of a command.
use Rattle.std.proofs.Common.{Global, codes, ℕ, Bool, true, false, not, List, [], ◌∷◌, length, map, ◌≡◌, refl, sym, ap, ◌∙◌, subst}
use Rattle.std.proofs.Math.ListN.{get_or}
use Rattle.std.specs.Prelude.{Result, Ok, Err, IfOk, IsErrOf}
use Rattle.std.specs.Str.{bytes_eq}
use Rattle.std.specs.Prelude.{String}
use Rattle.std.specs.String.{string_bytes}
use Rattle.std.specs.Bool.{Decides}
use Rattle.std.proofs.lemmas.Slice.Eq.{bytes_eq-Decides}
use Rattle.sx_names.specs.Names.{is_share_name}
use Rattle.sharebox.specs.declared.command.WordsFault.{WordsFault}
use Rattle.sharebox.specs.declared.command.WordsFault.TheVariants.{Unknown, NoMemory}
use Rattle.sharebox.specs.Command.{IsSession}

-- two words, by what indexing gives
pub two_words : (ws : List (String Global)) (a b : String Global) → length ws ≡ 2 → a ≡ get_or ws 0 a → b ≡ get_or ws 1 b → map string_bytes ws ≡ string_bytes a ∷ string_bytes b ∷ []
two_words [] a b len h k = cc
two_words (x ∷ []) a b len h k = cc
two_words (x ∷ y ∷ []) a b len h k =
    ap (λ (t : String Global). string_bytes t ∷ string_bytes y ∷ []) (sym h) ∙ ap (λ (t : String Global). string_bytes a ∷ string_bytes t ∷ []) (sym k)
two_words (x ∷ y ∷ z ∷ ws) a b len h k = cc

-- what is decided not to differ holds
same_if : (xs ys : List ℕ) (b : Bool) → Decides b (xs ≡ ys) → not b ≡ false → xs ≡ ys
same_if xs ys true d e = d.0 refl
same_if xs ys false d e = cc

-- bytes that don't differ are equal
pub same_bytes : (xs ys : List ℕ) (differ : Bool) → differ ≡ false → differ ≡ not (bytes_eq xs ys) → xs ≡ ys
same_bytes xs ys differ e h = same_if xs ys (bytes_eq xs ys) (bytes_eq-Decides xs ys) (sym h ∙ e)

apart : {N : Type 0} (r : Result N WordsFault) → r ≡ Err Unknown → r ≡ Err NoMemory → ⊥
apart r a b = cc

-- bytes that are read unless memory runs out are a name
pub named_by : {N : Type 0} (r : Result N WordsFault) (b : Bool) → (b ≡ false → IsErrOf r Unknown) → IsErrOf r NoMemory → b ≡ true
named_by r true h e = refl
named_by r false h e = absurd (apart r (h refl) e)

-- the name that was read is the second word
pub read_name : (r : Result (List ℕ) WordsFault) (words : List (List ℕ)) (bytes : List ℕ) → words ≡ codes "session" ∷ bytes ∷ [] → IfOk r (λ n. (n ≡ bytes) × (is_share_name bytes ≡ true)) → IfOk r (λ share. IsSession words share)
read_name (Ok n) words bytes e h = (e ∙ ap (λ (w : List ℕ). codes "session" ∷ w ∷ []) (sym h.0), subst (λ (w : List ℕ). is_share_name w ≡ true) (sym h.0) h.1)
read_name (Err x) words bytes e h = tt
