-- Nine words, by what indexing gives.
use Rattle.std.proofs.Common.{Global, ℕ, List, [], ◌∷◌, length, map, ◌≡◌}
use Rattle.std.proofs.Math.ListN.{get_or}
use Rattle.std.specs.Prelude.{String}
use Rattle.std.specs.String.{string_bytes}

-- the bytes of nine words
pub nine_words : (ws : List (String Global)) (a b c d e f g h i : String Global) → length ws ≡ 9 → a ≡ get_or ws 0 a → b ≡ get_or ws 1 b → c ≡ get_or ws 2 c → d ≡ get_or ws 3 d → e ≡ get_or ws 4 e → f ≡ get_or ws 5 f
    → g ≡ get_or ws 6 g → h ≡ get_or ws 7 h → i ≡ get_or ws 8 i
    → (A B C D E F G H I : List ℕ) → string_bytes a ≡ A → string_bytes b ≡ B → string_bytes c ≡ C → string_bytes d ≡ D → string_bytes e ≡ E → string_bytes f ≡ F → string_bytes g ≡ G → string_bytes h ≡ H → string_bytes i ≡ I
    → map string_bytes ws ≡ A ∷ B ∷ C ∷ D ∷ E ∷ F ∷ G ∷ H ∷ I ∷ []
nine_words (p ∷ q ∷ r ∷ s ∷ t ∷ u ∷ v ∷ w ∷ x ∷ []) a b c d e f g h i len k0 k1 k2 k3 k4 k5 k6 k7 k8 A B C D E F G H I e0 e1 e2 e3 e4 e5 e6 e7 e8 = cc
nine_words [] a b c d e f g h i len k0 k1 k2 k3 k4 k5 k6 k7 k8 A B C D E F G H I e0 e1 e2 e3 e4 e5 e6 e7 e8 = cc
nine_words (p ∷ []) a b c d e f g h i len k0 k1 k2 k3 k4 k5 k6 k7 k8 A B C D E F G H I e0 e1 e2 e3 e4 e5 e6 e7 e8 = cc
nine_words (p ∷ q ∷ []) a b c d e f g h i len k0 k1 k2 k3 k4 k5 k6 k7 k8 A B C D E F G H I e0 e1 e2 e3 e4 e5 e6 e7 e8 = cc
nine_words (p ∷ q ∷ r ∷ []) a b c d e f g h i len k0 k1 k2 k3 k4 k5 k6 k7 k8 A B C D E F G H I e0 e1 e2 e3 e4 e5 e6 e7 e8 = cc
nine_words (p ∷ q ∷ r ∷ s ∷ []) a b c d e f g h i len k0 k1 k2 k3 k4 k5 k6 k7 k8 A B C D E F G H I e0 e1 e2 e3 e4 e5 e6 e7 e8 = cc
nine_words (p ∷ q ∷ r ∷ s ∷ t ∷ []) a b c d e f g h i len k0 k1 k2 k3 k4 k5 k6 k7 k8 A B C D E F G H I e0 e1 e2 e3 e4 e5 e6 e7 e8 = cc
nine_words (p ∷ q ∷ r ∷ s ∷ t ∷ u ∷ []) a b c d e f g h i len k0 k1 k2 k3 k4 k5 k6 k7 k8 A B C D E F G H I e0 e1 e2 e3 e4 e5 e6 e7 e8 = cc
nine_words (p ∷ q ∷ r ∷ s ∷ t ∷ u ∷ v ∷ []) a b c d e f g h i len k0 k1 k2 k3 k4 k5 k6 k7 k8 A B C D E F G H I e0 e1 e2 e3 e4 e5 e6 e7 e8 = cc
nine_words (p ∷ q ∷ r ∷ s ∷ t ∷ u ∷ v ∷ w ∷ []) a b c d e f g h i len k0 k1 k2 k3 k4 k5 k6 k7 k8 A B C D E F G H I e0 e1 e2 e3 e4 e5 e6 e7 e8 = cc
nine_words (p ∷ q ∷ r ∷ s ∷ t ∷ u ∷ v ∷ w ∷ x ∷ y ∷ more) a b c d e f g h i len k0 k1 k2 k3 k4 k5 k6 k7 k8 A B C D E F G H I e0 e1 e2 e3 e4 e5 e6 e7 e8 = cc
