-- A call whose place is found or refused by what is printed, and whose checks and own reply at the place are printed, is
-- answered by what is printed.
use Rattle.std.specs.Prelude.{◌≡◌, Bool, true, Option, Some, None, Result, Ok, Err}
use Rattle.sx_call.specs.declared.refusals.Refusal.{Refusal}
use Rattle.sx_call.specs.declared.replies.Reply.{Reply}
use Rattle.sx_call.specs.declared.replies.Reply.TheVariants.{Refused}
use Rattle.sx_spec.specs.Account.{Store}
use Rattle.sx_spec.specs.Places.{◌>>=◌}
use Rattle.sx_spec.specs.Checks.{first_check}
use Rattle.sx_spec.specs.Changes.{Act}
use Rattle.sx_spec.specs.Step.{at_place, unless_refused, outcome}
use Rattle.sx_answers.proofs.Places.{IsFound}
use Rattle.sx_answers.proofs.Checks.{IsTold}

-- an act's first check is told, and its own reply is printed
abbrev pub IsAnswered : (Reply → Bool) → Store → Act → Type 0
IsAnswered prints s act = IsTold prints (first_check s act.checks) × (prints act.reply ≡ true)

-- a call is refused at its place by what is printed, or is an act that is answered so
abbrev pub Answers : (Reply → Bool) → Store → Result Act Refusal → Type 0
Answers prints s (Ok act) = IsAnswered prints s act
Answers prints s (Err r) = prints (Refused r) ≡ true

module _ (prints : Reply → Bool) (s : Store) where
  pub answers_at : {P : Type 0} (r : Result P Refusal) (f : P → Act) → IsFound prints r
      → ((p : P) → IsAnswered prints s (f p)) → Answers prints s (at_place r f)
  answers_at (Ok p) f found answered = answered p
  answers_at (Err q) f found answered = found

  pub answers_then : {P : Type 0} (r : Result P Refusal) (f : P → Result Act Refusal) → IsFound prints r
      → ((p : P) → Answers prints s (f p)) → Answers prints s (r >>= f)
  answers_then (Ok p) f found rest = rest p
  answers_then (Err q) f found rest = found

  unless_told : (act : Act) (o : Option Refusal) → IsTold prints o → prints act.reply ≡ true
      → prints (unless_refused s act o).1 ≡ true
  unless_told act None told printed = printed
  unless_told act (Some r) told printed = told

  -- what such a call comes to is printed
  pub outcome_printed : (x : Result Act Refusal) → Answers prints s x → prints (outcome s x).1 ≡ true
  outcome_printed (Ok act) k = unless_told act (first_check s act.checks) k.0 k.1
  outcome_printed (Err r) k = k
