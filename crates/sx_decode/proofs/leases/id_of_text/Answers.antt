use Rattle.std.proofs.Common.{◌≡◌, ℕ, List, Option, Some, None, refl, sym, ap}
use Rattle.std.proofs.lemmas.Bool.{false≢true}
use Rattle.std.specs.Option.{option_map}
use Rattle.uuid.specs.Text.{parsed}
use Rattle.sx_decode.specs.Leases.{id_of_bytes}
use Rattle.sx_decode.proofs.leases.id_of_text.Goals as goal

none_from : (o : Option (List ℕ)) → ((u : List ℕ) → o ≡ Some u → ⊥) → o ≡ None
none_from None h = refl
none_from (Some u) h = absurd (h u refl)

pub returns-in-Err : goal.returns-in-Err
returns-in-Err c = sym (ap (option_map id_of_bytes) (none_from (parsed c.args.text.now) (λ u e. false≢true (c.in-Err.ensures.ok.1 (u, e)))))
