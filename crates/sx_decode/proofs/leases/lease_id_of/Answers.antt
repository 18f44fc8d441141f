use Rattle.std.proofs.Common.{◌≡◌, ℕ, Bool, true, false, List, refl, ap, ◌∙◌}
use Rattle.std.specs.Option.{option_map}
use Rattle.std.specs.Str.{is_utf8}
use Rattle.std.proofs.lemmas.Str.{IsUtf8-from_is_utf8, is_utf8-from_IsUtf8}
use Rattle.uuid.specs.Text.{parsed}
use Rattle.sx_decode.specs.Leases.{id_of_bytes}
use Rattle.sx_decode.proofs.leases.lease_id_of.Goals as goal

not_true : (b : Bool) → (b ≡ true → ⊥) → b ≡ false
not_true true h = absurd (h refl)
not_true false h = refl

pub returns-in-Ok : goal.returns-in-Ok
returns-in-Ok c =
    rw (is_utf8-from_IsUtf8 c.args.text.now c.in-Ok.ensures.cases.1)
    (c.id_of_text.ensures ∙ ap (λ (bytes : List ℕ). option_map id_of_bytes (parsed bytes)) c.in-Ok.ensures.cases.0)

pub returns-in-Err : goal.returns-in-Err
returns-in-Err c =
    rw (not_true (is_utf8 c.args.text.now) (λ e. c.in-Err.ensures.cases.0 (IsUtf8-from_is_utf8 c.args.text.now e))) refl
