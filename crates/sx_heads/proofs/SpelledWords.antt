-- Words added one by one are the words that are said.
use Rattle.std.proofs.Common.{◌≡◌, ◌<◌, ℕ, ◌==◌, Bool, true, false, List, [], ◌∷◌, ◌++◌, length, codes, refl, sym, ap, ◌∙◌, arith, append-nil, append_assoc, length-append}
use Rattle.std.specs.List.{flat_map}
use Rattle.std.proofs.lemmas.Grind.{flat_map-append}
use Rattle.sx_names.specs.declared.attributes.Attributes.{Attributes}
use Rattle.sx_heads.specs.Values.{words_said, attribute_flags, words_text, attributes_text}
use Rattle.sx_heads.specs.Words.{barred, with_word, with_former, with_latter, or_none}

-- words with bars between them
abbrev bars : List (List ℕ) → List ℕ
bars [] = []
bars (w ∷ ws) = w ++ flat_map (λ v. 124 ∷ v) ws

-- each word has a byte
abbrev AreSome : List (List ℕ) → Type 0
AreSome [] = Unit {0}
AreSome (w ∷ ws) = (0 < length w) × AreSome ws

abbrev AreSomeFlags : List (Bool × List ℕ) → Type 0
AreSomeFlags [] = Unit {0}
AreSomeFlags (w ∷ ws) = (0 < length w.1) × AreSomeFlags ws

full : (w : List ℕ) (ws : List (List ℕ)) → 0 < length w → (length (bars (w ∷ ws)) == 0) ≡ false
full w ws lt = let n = length-append w (flat_map (λ v. 124 ∷ v) ws) in grind (arith, n, lt)

add_word : (done : List (List ℕ)) (word : List ℕ) → AreSome done → bars done ++ barred (bars done) word ≡ bars (done ++ word ∷ [])
add_word [] word h = sym (append-nil word)
add_word (w ∷ ws) word h =
    rw (full w ws h.0)
    (append_assoc w (flat_map (λ (v : List ℕ). 124 ∷ v) ws) (124 ∷ word)
    ∙ ap (λ (xs : List ℕ). w ++ (flat_map (λ (v : List ℕ). 124 ∷ v) ws ++ 124 ∷ xs)) (sym (append-nil word))
    ∙ ap (λ (xs : List ℕ). w ++ xs) (sym (flat_map-append (λ (v : List ℕ). 124 ∷ v) ws (word ∷ []))))

some_more : (done : List (List ℕ)) (word : List ℕ) → AreSome done → 0 < length word → AreSome (done ++ word ∷ [])
some_more [] word h lt = (lt, tt)
some_more (w ∷ ws) word h lt = (h.0, some_more ws word h.1 lt)

-- words added in order
abbrev with_words : List ℕ → List (Bool × List ℕ) → List ℕ
with_words text [] = text
with_words text (w ∷ ws) = with_words (with_word text w.0 w.1) ws

words_added : (done : List (List ℕ)) (flags : List (Bool × List ℕ)) → AreSome done → AreSomeFlags flags → with_words (bars done) flags ≡ bars (done ++ words_said flags)
words_added done [] h k = ap bars (sym (append-nil done))
words_added done ((true, w) ∷ flags) h k =
    ap (λ (t : List ℕ). with_words t flags) (add_word done w h) ∙ words_added (done ++ w ∷ []) flags (some_more done w h k.0) k.1
    ∙ ap bars (append_assoc done (w ∷ []) (words_said flags))
words_added done ((false, w) ∷ flags) h k = words_added done flags h k.1

or_none_is : (ws : List (List ℕ)) → AreSome ws → or_none (bars ws) ≡ words_text ws
or_none_is [] h = refl
or_none_is (w ∷ ws) h = rw (full w ws h.0) refl

said_some : (flags : List (Bool × List ℕ)) → AreSomeFlags flags → AreSome (words_said flags)
said_some [] h = tt
said_some ((true, w) ∷ flags) h = (h.0, said_some flags h.1)
said_some ((false, w) ∷ flags) h = said_some flags h.1

some_flags : (a : Attributes) → AreSomeFlags (attribute_flags a)
some_flags a = (omega arith, (omega arith, (omega arith, (omega arith, (omega arith, (omega arith, (omega arith, (omega arith, (omega arith, tt)))))))))

pub words_are : (a : Attributes) → or_none (with_word (with_latter (with_former [] a) a) a.directory (codes "Directory")) ≡ attributes_text a
unfolding attributes_text
words_are a =
    ap or_none (words_added [] (attribute_flags a) tt (some_flags a)) ∙ or_none_is (words_said (attribute_flags a)) (said_some (attribute_flags a) (some_flags a))
