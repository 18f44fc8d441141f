-- Texts that are read item by item: what each item does is a step.
use Rattle.std.specs.Prelude.{◌≡◌, suc, List, [], ◌∷◌, length, Ok, Err}
use Rattle.sx_text.specs.Texts.{Reader}

-- What an item does in a state: it ends the text with a value, goes on to a state, or can't stand there.
pub data Step (S V : Type 0) : Type 0 where
  Ends : V → Step S V
  Goes : S → Step S V
  Fails : Step S V

-- one of three values, by a step
abbrev pub by_step : {S V X : Type 0} → Step S V → (V → X) → (S → X) → X → X
by_step (Ends v) ends goes fails = ends v
by_step (Goes s) ends goes fails = goes s
by_step Fails ends goes fails = fails

-- reading on from a state
abbrev pub run_from : {S V E : Type 0} → (S → E → Step S V) → S → Reader E V
run_from step s [] = Err 0
run_from step s (x ∷ xs) = by_step (step s x) (λ v. Ok (v, xs)) (λ t. run_from step t xs) (Err (suc (length xs)))

-- one of two facts, by a step that does not fail
abbrev pub By : {S V : Type 0} → Step S V → (V → Type 0) → (S → Type 0) → Type 0
By (Ends v) ends goes = ends v
By (Goes s) ends goes = goes s
By Fails ends goes = ⊥

-- the items lead from the state to the end, with this value
abbrev pub Leads : {S V E : Type 0} → (S → E → Step S V) → S → List E → V → Type 0
Leads step s [] v = ⊥
Leads step s (x ∷ xs) v = By (step s x) (λ u. (xs ≡ []) × (u ≡ v)) (λ t. Leads step t xs v)

-- from each live state some items lead to the end, and a step from it leads to one that is live
pub record IsLive {S V E : Type 0} (step : S → E → Step S V) (Live : S → Type 0) : Type 0 where
  pub some : (s : S) → Live s → (w : List E) × (v : V) × Leads step s w v
  pub kept : (s t : S) (x : E) → Live s → step s x ≡ Goes t → Live t
