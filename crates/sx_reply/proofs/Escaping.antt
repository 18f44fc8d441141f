-- Texts with their escapes, byte by byte and word by word.
use Rattle.std.proofs.Common.{◌≡◌, List, [], ◌∷◌, ◌++◌, ℕ, refl, sym, ap, ◌∙◌, append_assoc}
use Rattle.std.specs.List.{flat_map}
use Rattle.sx_text.specs.Escapes.{escape, escaped}
use Rattle.sx_reply.specs.Words.{word_text, escaped_word}
use Rattle.sx_reply.specs.declared.gather.Word.{Word}

-- byte by byte
pub escaped_flat : (bytes : List ℕ) → flat_map escape bytes ≡ escaped bytes
escaped_flat [] = refl
escaped_flat (b ∷ bytes) = ap (λ (t : List ℕ). escape b ++ t) (escaped_flat bytes)

-- one text behind another
pub escaped_append : (x y : List ℕ) → escaped (x ++ y) ≡ escaped x ++ escaped y
escaped_append [] y = refl
escaped_append (b ∷ x) y =
    ap (λ (t : List ℕ). escape b ++ t) (escaped_append x y) ∙ sym (append_assoc (escape b) (escaped x) (escaped y))

-- word by word
pub escaped_words : (words : List Word) → flat_map escaped_word words ≡ escaped (flat_map word_text words)
escaped_words [] = refl
escaped_words (w ∷ words) =
    ap (λ (t : List ℕ). t ++ flat_map escaped_word words) (escaped_flat (word_text w))
    ∙ ap (λ (t : List ℕ). escaped (word_text w) ++ t) (escaped_words words)
    ∙ sym (escaped_append (word_text w) (flat_map word_text words))
