-- Which check a conflict comes from: neither a place nor a check other than lease, sharing and lock refuses for one.
use Rattle.std.specs.Prelude.{◌≡◌, ℕ, Bool, true, false, [], ◌∷◌, Option, Some, None, option_map}
use Rattle.std.proofs.Common.{refl, sym, ap, ◌∙◌, true≢false}
use Rattle.sx_call.specs.declared.refusals.Refusal.{Refusal}
use Rattle.sx_call.specs.declared.refusals.Refusal.TheVariants as refusal
use Rattle.sx_spec.specs.declared.checks.Checks.{Checks}
use Rattle.sx_spec.specs.declared.checks.Limit.{Limit}
use Rattle.sx_spec.specs.declared.checks.Limit.TheVariants.{TooManySnapshots, StandingSnapshots, TooManyOpens}
use Rattle.sx_spec.specs.declared.checks.Overuse.{Overuse}
use Rattle.sx_spec.specs.Account.{Store}
use Rattle.sx_spec.specs.Checks.{first_of, asks_refusal, limit_refusal, first_check}
use Rattle.sx_spec.specs.Conflicts.{is_conflict}

-- whether a check refuses for a conflict
abbrev pub refuses_for_conflict : Option Refusal → Bool
refuses_for_conflict None = false
refuses_for_conflict (Some r) = is_conflict r

-- a check that refuses for no conflict isn't the one that did
pub not_this : {A : Type 0} (o : Option Refusal) (r : Refusal) → refuses_for_conflict o ≡ false → is_conflict r ≡ true
    → o ≡ Some r → A
not_this o r apart conflict is = absurd (true≢false (sym conflict ∙ (sym (ap refuses_for_conflict is) ∙ apart)))

limit_apart : (limit : Limit) → is_conflict (limit_refusal limit) ≡ false
limit_apart (TooManySnapshots n) = refl
limit_apart (StandingSnapshots n) = refl
limit_apart (TooManyOpens n) = refl

abbrev in_order : Option ℕ → Option ℕ → Option Refusal → Option ℕ → Option Overuse → Option Limit → Option Refusal
in_order empty read_only asks range quota limits = first_of (
    option_map refusal.NotEmpty empty
    ∷ option_map refusal.ReadOnly read_only
    ∷ asks
    ∷ option_map refusal.OutOfFile range
    ∷ option_map (λ q. refusal.QuotaMet q.used q.more q.limit) quota
    ∷ option_map limit_refusal limits
    ∷ [])

asks_by : (empty read_only : Option ℕ) (asks : Option Refusal) (range : Option ℕ) (quota : Option Overuse) (limits : Option Limit) (r : Refusal)
    → is_conflict r ≡ true → in_order empty read_only asks range quota limits ≡ Some r
    → (empty ≡ None) × (read_only ≡ None) × (asks ≡ Some r)
asks_by (Some id) read_only asks range quota limits r conflict is =
    not_this (Some (refusal.NotEmpty id)) r refl conflict is
asks_by None (Some id) asks range quota limits r conflict is = not_this (Some (refusal.ReadOnly id)) r refl conflict is
asks_by None None (Some q) range quota limits r conflict is = (refl, refl, is)
asks_by None None None (Some size) quota limits r conflict is =
    not_this (Some (refusal.OutOfFile size)) r refl conflict is
asks_by None None None None (Some q) limits r conflict is =
    not_this (Some (refusal.QuotaMet q.used q.more q.limit)) r refl conflict is
asks_by None None None None None (Some limit) r conflict is =
    not_this (Some (limit_refusal limit)) r (limit_apart limit) conflict is
asks_by None None None None None None r conflict is = not_this None r refl conflict is

-- where the first check is one for a conflict, what is asked of others refuses, and nothing before it
pub asks_first : (s : Store) (c : Checks) (r : Refusal) → is_conflict r ≡ true → first_check s c ≡ Some r
    → (c.empty ≡ None) × (c.read_only ≡ None) × (asks_refusal s c.asks ≡ Some r)
unfolding first_check
asks_first s c r conflict is =
    asks_by c.empty c.read_only (asks_refusal s c.asks) c.range c.quota c.limits r conflict is

first_by : (empty read_only : Option ℕ) (asks : Option Refusal) (range : Option ℕ) (quota : Option Overuse) (limits : Option Limit) (r : Refusal)
    → empty ≡ None → read_only ≡ None → asks ≡ Some r → in_order empty read_only asks range quota limits ≡ Some r
first_by empty read_only asks range quota limits r none writable is = rw (none, writable, is) refl

-- where what is asked of others refuses, and nothing before it, that is the first check
pub first_asks : (s : Store) (c : Checks) (r : Refusal) → c.empty ≡ None → c.read_only ≡ None
    → asks_refusal s c.asks ≡ Some r → first_check s c ≡ Some r
unfolding first_check
first_asks s c r none writable is =
    first_by c.empty c.read_only (asks_refusal s c.asks) c.range c.quota c.limits r none writable is
