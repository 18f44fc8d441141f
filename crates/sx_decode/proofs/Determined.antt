-- A request is one call, or is refused for one reason.
use Rattle.std.proofs.Common.{◌≡◌, Bool, true, false, Ok, Err, refl, sym, ap, ◌∙◌, inl, inr}
use Rattle.std.proofs.lemmas.Bool.{false≢true}
use Rattle.std.specs.Prelude.{◌⊎◌}
use Rattle.sx_http.specs.declared.heads.Request.{Request}
use Rattle.sx_call.specs.declared.calls.Call.{Call}
use Rattle.sx_call.specs.declared.refusals.Syntax.{Syntax}
use Rattle.sx_decode.specs.Reading.{Reading}
use Rattle.sx_decode.specs.Spelling.{reading}
use Rattle.sx_decode.specs.Laws.{SpellsOne, HasOneRefusal, RequestsAreDetermined}

-- the call that is read, or another one
abbrev read_or : Call → Reading Call → Call
read_or other (Ok call) = call
read_or other (Err refusal) = other

same_call : (a b : Call) (r : Reading Call) → r ≡ Ok a → r ≡ Ok b → b ≡ a
same_call a b r e f = sym (ap (read_or a) (sym e ∙ f))

-- the refusal, or another one
abbrev refusal_or : Syntax → Reading Call → Syntax
refusal_or other (Ok call) = other
refusal_or other (Err refusal) = refusal

same_refusal : (a b : Syntax) (r : Reading Call) → r ≡ Err a → r ≡ Err b → b ≡ a
same_refusal a b r e f = sym (ap (refusal_or a) (sym e ∙ f))

-- a call is read
abbrev is_read : Reading Call → Bool
is_read (Ok call) = true
is_read (Err refusal) = false

apart : (a : Call) (s : Syntax) (r : Reading Call) → r ≡ Ok a → r ≡ Err s → ⊥
apart a s r e f = false≢true (sym (ap is_read (sym e ∙ f)))

one_of : (r : Request) (d : Reading Call) → reading r ≡ d → SpellsOne r ⊎ HasOneRefusal r
one_of r (Ok call) e =
    inl (call, e, (λ other f. same_call call other (reading r) e f), (λ refusal f. apart call refusal (reading r) e f))
one_of r (Err refusal) e =
    inr (refusal, e, (λ other f. same_refusal refusal other (reading r) e f), (λ call f. apart call refusal (reading r) f e))

pub determined : RequestsAreDetermined
determined r = one_of r (reading r) refl
