-- Which calls of an object in memory fail.
use Rattle.std.specs.Prelude.{ℕ, zero, suc, ◌≡◌, ◌+◌, ◌-◌, ◌^◌, ◌≤◌, ◌&&◌, nat_eq, nat_lt, List, Bool, cond}
use Rattle.std.specs.List.{list_any}
use Rattle.std.proofs.Common.{refl, sym, ap, subst, ◌∙◌}
use Rattle.std.proofs.Math.Nat.{add-zero, add-suc, add_assoc, add-le-add, le-add_right, le_trans}

-- the calls of an object: which are to fail, how many were made, and how many failed
pub record CallCounts : Type 0 where
  pub failing : List ℕ
  pub made : ℕ
  pub faults : ℕ

-- where the count of calls stops
abbrev pub most_calls : ℕ
most_calls = 2 ^ 64 - 1

-- whether the call of a number is listed
abbrev pub lists : List ℕ → ℕ → Bool
lists failing call = list_any (λ k. nat_eq k call) failing

-- whether the next call is to fail: its number is listed, and calls are still counted
abbrev pub is_next_listed : CallCounts → Bool
is_next_listed calls = nat_lt calls.made most_calls && lists calls.failing calls.made

-- how many of so many calls from a number on are listed
unfoldable pub listed : List ℕ → ℕ → ℕ → ℕ
listed failing from zero = 0
listed failing from (suc n) = listed failing from n + cond (lists failing (from + n)) 1 0

-- some calls between the two: exactly those failed that are listed
pub record FailsAsListed (a b : CallCounts) : Type 0 where
  pub calls : ℕ
  pub failing : b.failing ≡ a.failing
  pub made : b.made ≡ a.made + calls
  pub faults : b.faults ≡ a.faults + listed a.failing a.made calls

-- some calls between the two: those failed that are listed, and maybe others
pub record FailsWhereListed (a b : CallCounts) : Type 0 where
  pub calls : ℕ
  pub failing : b.failing ≡ a.failing
  pub made : b.made ≡ a.made + calls
  pub faults : a.faults + listed a.failing a.made calls ≤ b.faults

-- some calls, and then some more
pub listed_append : (failing : List ℕ) (from n m : ℕ)
    → listed failing from (n + m) ≡ listed failing from n + listed failing (from + n) m
unfolding listed
listed_append failing from n zero = ap (listed failing from) (add-zero n) ∙ sym (add-zero (listed failing from n))
listed_append failing from n (suc m) =
    ap (listed failing from) (add-suc n m)
    ∙ ap (λ x. x + cond (lists failing (from + (n + m))) 1 0) (listed_append failing from n m)
    ∙ add_assoc (listed failing from n) (listed failing (from + n) m) (cond (lists failing (from + (n + m))) 1 0)
    ∙ ap (λ k. listed failing from n + (listed failing (from + n) m + cond (lists failing k) 1 0))
    (sym (add_assoc from n m))

-- the calls behind others, counted from where those began
after_others : (a b : CallCounts) (n m : ℕ) → b.failing ≡ a.failing → b.made ≡ a.made + n
    → listed a.failing a.made (n + m) ≡ listed a.failing a.made n + listed b.failing b.made m
after_others a b n m f e =
    listed_append a.failing a.made n m
    ∙ ap (λ k. listed a.failing a.made n + listed a.failing k m) (sym e)
    ∙ ap (λ xs. listed a.failing a.made n + listed xs b.made m) (sym f)

-- no call
pub as_listed_none : (a : CallCounts) → FailsAsListed a a
unfolding listed
as_listed_none a = record { calls = 0; failing = refl; made = sym (add-zero a.made); faults = sym (add-zero a.faults) }

-- some calls, and then some more
pub as_listed_more : (a b c : CallCounts) → FailsAsListed a b → FailsAsListed b c → FailsAsListed a c
as_listed_more a b c h k = record {
  calls = h.calls + k.calls;
  failing = k.failing ∙ h.failing;
  made = k.made ∙ ap (λ x. x + k.calls) h.made ∙ add_assoc a.made h.calls k.calls;
  faults = k.faults ∙ ap (λ x. x + listed b.failing b.made k.calls) h.faults
      ∙ add_assoc a.faults (listed a.failing a.made h.calls) (listed b.failing b.made k.calls)
      ∙ ap (λ x. a.faults + x) (sym (after_others a b h.calls k.calls h.failing h.made));
}

-- no call, and the same count
pub as_listed_same : (a b : CallCounts) → b ≡ a → FailsAsListed a b
as_listed_same a b e = subst (FailsAsListed a) (sym e) (as_listed_none a)

-- no call
pub where_listed_none : (a : CallCounts) → FailsWhereListed a a
unfolding listed
where_listed_none a = record {
  calls = 0;
  failing = refl;
  made = sym (add-zero a.made);
  faults = subst (λ x. x ≤ a.faults) (sym (add-zero a.faults))
      (subst (λ x. a.faults ≤ x) (add-zero a.faults) (le-add_right a.faults 0));
}

-- some calls, and then some more
pub where_listed_more : (a b c : CallCounts) → FailsWhereListed a b → FailsWhereListed b c → FailsWhereListed a c
where_listed_more a b c h k = record {
  calls = h.calls + k.calls;
  failing = k.failing ∙ h.failing;
  made = k.made ∙ ap (λ x. x + k.calls) h.made ∙ add_assoc a.made h.calls k.calls;
  faults =
      let l = listed b.failing b.made k.calls in
      let whole = add_assoc a.faults (listed a.failing a.made h.calls) l
      ∙ ap (λ x. a.faults + x) (sym (after_others a b h.calls k.calls h.failing h.made)) in
      subst (λ x. x ≤ c.faults) whole
      (le_trans (add-le-add h.faults (subst (λ x. l ≤ x) (add-zero l) (le-add_right l 0))) k.faults);
}

-- no call, and the same count
pub where_listed_same : (a b : CallCounts) → b ≡ a → FailsWhereListed a b
where_listed_same a b e = subst (FailsWhereListed a) (sym e) (where_listed_none a)
