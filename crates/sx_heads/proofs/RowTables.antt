-- Methods, and paths below the root.
use Rattle.std.proofs.Common.{◌≡◌, ◌==◌, true, false, is_some, length, codes, Option, Some, None, Ok, refl, arith}
use Rattle.std.specs.Option.{option_map}
use Rattle.std.proofs.lemmas.Bool.Decides.{nat_tests}
use Rattle.sx_call.specs.Targets.{is_below_root}
use Rattle.sx_call.specs.declared.targets.Target.{Target}
use Rattle.sx_decode.specs.declared.forms.Verb.TheVariants as verb
use Rattle.sx_decode.specs.Spelling.{verb_of}

pub verb_is_get : verb_of (codes "GET") ≡ Ok verb.Get
unfolding verb_of
verb_is_get = refl

pub verb_is_head : verb_of (codes "HEAD") ≡ Ok verb.Head
unfolding verb_of
verb_is_head = refl

pub verb_is_put : verb_of (codes "PUT") ≡ Ok verb.Put
unfolding verb_of
verb_is_put = refl

pub verb_is_delete : verb_of (codes "DELETE") ≡ Ok verb.Delete
unfolding verb_of
verb_is_delete = refl

-- a target below the root has a part
pub has_parts : (at : Target) → is_below_root at ≡ true → (length at.path == 0) ≡ false
has_parts at e = grind (arith, nat_tests, e)

pub is_some_map : {A B : Type 0} (f : A → B) (o : Option A) → is_some (option_map f o) ≡ is_some o
is_some_map f None = refl
is_some_map f (Some a) = refl
