-- A path's text, part by part.
use Rattle.std.proofs.Common.{◌≡◌, ℕ, List, [], ◌∷◌, ◌++◌, sym, ap, ◌∙◌, append-nil}
use Rattle.std.specs.List.{flat_map}
use Rattle.sx_listing.specs.Percent.{percent_text}
use Rattle.sx_lines.specs.Printed.{slashed, path_text}

-- the first part, and each of the others with a slash before it
pub first_slashed : (part : List ℕ) (parts : List (List ℕ)) → percent_text part ++ flat_map slashed parts ≡ path_text (part ∷ parts)
first_slashed part [] = append-nil (percent_text part)
first_slashed part (next ∷ parts) =
    ap (λ (x : List ℕ). percent_text part ++ (47 ∷ x))
    (ap (λ (y : List ℕ). y ++ flat_map slashed parts) (append-nil (percent_text next)) ∙ first_slashed next parts)
