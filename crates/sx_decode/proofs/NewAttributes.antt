-- The attributes of a new file or directory, where their header is there.
use Rattle.std.proofs.Common.{◌≡◌, ℕ, Bool, List, Bor, Option, Some, Ok, refl}
use Rattle.std.specs.Option.{option_map}
use Rattle.sx_decode.specs.Reading.{Reading, with_next}
use Rattle.sx_decode.specs.Facts.{attributes_or_new, attributes_read}

pub given_attributes : (directory : Bool) (d : Reading (Option (List ℕ))) (o : Option (Bor (List ℕ))) (t : Bor (List ℕ)) → d ≡ Ok (option_map (λ b. b.now) o) → o ≡ Some t → with_next d (attributes_or_new directory) ≡ attributes_read directory t.now
given_attributes directory d o t e is = rw (e, is) refl
