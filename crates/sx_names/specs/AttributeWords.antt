-- The words of attributes ("File system attributes" of Azure Files).
use Rattle.std.specs.Prelude.{ℕ, Bool, List, [], ◌∷◌, codes}
use Rattle.sx_names.specs.declared.attributes.Attributes.{Attributes}

-- the words of attributes with their flags, in the order of the File service
abbrev pub attribute_flags : Attributes → List (Bool × List ℕ)
attribute_flags a =
    (a.read_only, codes "ReadOnly") ∷ (a.hidden, codes "Hidden") ∷ (a.system, codes "System")
    ∷ (a.archive, codes "Archive") ∷ (a.temporary, codes "Temporary") ∷ (a.offline, codes "Offline")
    ∷ (a.not_content_indexed, codes "NotContentIndexed") ∷ (a.no_scrub_data, codes "NoScrubData")
    ∷ (a.directory, codes "Directory") ∷ []
