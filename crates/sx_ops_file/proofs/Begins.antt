-- A range that is not refused begins in the file.
use Rattle.std.proofs.Common.{◌≡◌, refl, ℕ, Bool, true, false, [], ◌∷◌, Option, Some, None, option_map}
use Rattle.sx_call.specs.declared.calls.Call.TheVariants as call
use Rattle.sx_call.specs.declared.file_calls.GetFile.{GetFile}
use Rattle.sx_call.specs.declared.file_calls.ListRanges.{ListRanges}
use Rattle.sx_call.specs.declared.refusals.Refusal.{Refusal}
use Rattle.sx_call.specs.declared.refusals.Refusal.TheVariants as refusal
use Rattle.sx_spec.specs.Account.{Store}
use Rattle.sx_spec.specs.Checks.{asks_refusal, file_checks, first_check, first_of, limit_refusal, refuse_if}
use Rattle.sx_spec.specs.Facts.{length_of}
use Rattle.sx_spec.specs.Needs.{starts_past}
use Rattle.sx_spec.specs.Places.{FilePlace}
use Rattle.sx_spec.specs.declared.checks.Checks.{Checks}
use Rattle.sx_spec.specs.declared.checks.Limit.{Limit}
use Rattle.sx_spec.specs.declared.checks.Overuse.{Overuse}

-- the check of the range is one of those that refuse nothing
range_by : (empty read_only : Option ℕ) (asks : Option Refusal) (range : Option ℕ) (quota : Option Overuse) (limits : Option Limit)
    → first_of (option_map refusal.NotEmpty empty ∷ option_map refusal.ReadOnly read_only ∷ asks ∷ option_map refusal.OutOfFile range ∷ option_map (λ q. refusal.QuotaMet q.used q.more q.limit) quota ∷ option_map limit_refusal limits ∷ []) ≡ None
    → range ≡ None
range_by (Some id) read_only asks range quota limits e = cc
range_by None (Some id) asks range quota limits e = cc
range_by None None (Some r) range quota limits e = cc
range_by None None None (Some size) quota limits e = cc
range_by None None None None quota limits e = refl

range_passes : (s : Store) (c : Checks) → first_check s c ≡ None → c.range ≡ None
unfolding first_check
range_passes s c e = range_by c.empty c.read_only (asks_refusal s c.asks) c.range c.quota c.limits e

unrefused : (b : Bool) (size : ℕ) → refuse_if b size ≡ None → b ≡ false
unrefused true size e = cc
unrefused false size e = refl

-- the range of a Get File that is not refused begins in the file
pub get_begins : (s : Store) (p : FilePlace) (c : GetFile) → first_check s (file_checks (call.GetFile c) p) ≡ None
    → starts_past (length_of p.body) c.span ≡ false
unfolding file_checks
get_begins s p c e =
    unrefused (starts_past (length_of p.body) c.span) (length_of p.body)
    (range_passes s (file_checks (call.GetFile c) p) e)

-- the range of a List Ranges that is not refused begins in the file
pub list_begins : (s : Store) (p : FilePlace) (c : ListRanges)
    → first_check s (file_checks (call.ListRanges c) p) ≡ None → starts_past (length_of p.body) c.span ≡ false
unfolding file_checks
list_begins s p c e =
    unrefused (starts_past (length_of p.body) c.span) (length_of p.body)
    (range_passes s (file_checks (call.ListRanges c) p) e)
