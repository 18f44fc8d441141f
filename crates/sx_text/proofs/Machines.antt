-- A machine reads exactly the texts that lead to its end, if each state that it comes to has one.
use Rattle.std.proofs.Common.{◌≡◌, ℕ, suc, ◌+◌, ◌≤◌, List, [], ◌∷◌, ◌++◌, length, Ok, Err, refl, sym, ap, subst, ◌∙◌, arith, inl, inr}
use Rattle.sx_text.specs.Machines.{Step, Ends, Goes, Fails, by_step, By, run_from, Leads, IsLive}
use Rattle.sx_text.proofs.Shared.{Decides, shared, shared-same, shared-other, shared-right}
use Rattle.sx_text.proofs.Laws.{Reads, fine, fail_is_fine, failed_is, ok_is}

record Halts {S V E : Type 0} (decide : Decides E) (step : S → E → Step S V) (s : S) (bytes : List E) (left : ℕ) : Type 0 where
  best : (w : List E) × (v : V) × Leads step s w v × (length bytes ≤ shared decide w bytes + left)
  most : (w : List E) (v : V) → Leads step s w v → shared decide w bytes + left ≤ length bytes

module _ {E : Type 0} (decide : Decides E) where
  run-takes : {S V : Type 0} (step : S → E → Step S V) (s : S) (bytes : List E) (v : V) (rest : List E) → run_from step s bytes ≡ Ok (v, rest) → (w : List E) × Leads step s w v × (bytes ≡ w ++ rest)
  run-takes step s [] v rest e = absurd cc
  run-takes {S = S} {V = V} step s (b ∷ bs) v rest e = go (λ t f. run-takes step t bs v rest f) (step s b) refl e
    where
      go : ((t : S) → run_from step t bs ≡ Ok (v, rest) → (w : List E) × Leads step t w v × (bs ≡ w ++ rest)) → (x : Step S V) → step s b ≡ x → by_step x (λ v. fine (v, bs)) (λ t. run_from step t bs) (Err (suc (length bs))) ≡ Ok (v, rest) → (w : List E) × Leads step s w v × (b ∷ bs ≡ w ++ rest)
      go ih (Ends u) is e =
          let q = ok_is (u, bs) (v, rest) e in
          (b ∷ [], rw is (refl, ap (λ (p : V × List E). p.0) q), ap (λ (p : V × List E). b ∷ p.1) q)
      go ih (Goes t) is e =
          let h = ih t e in
          (b ∷ h.0, rw is h.1, ap (λ (y : List E). b ∷ y) h.2)
      go ih Fails is e = absurd (fail_is_fine (suc (length bs)) (v, rest) e)

  run-again : {S V : Type 0} (step : S → E → Step S V) (s : S) (w : List E) (v : V) (rest : List E) → Leads step s w v → run_from step s (w ++ rest) ≡ Ok (v, rest)
  run-again step s [] v rest h = absurd h
  run-again {S = S} {V = V} step s (b ∷ w) v rest h = go (λ t l. run-again step t w v rest l) (step s b) refl h
    where
      go : ((t : S) → Leads step t w v → run_from step t (w ++ rest) ≡ Ok (v, rest)) → (x : Step S V) → step s b ≡ x → By x (λ u. (w ≡ []) × (u ≡ v)) (λ t. Leads step t w v) → run_from step s ((b ∷ w) ++ rest) ≡ Ok (v, rest)
      go ih (Ends u) is h = rw (is, h.0, h.1) refl
      go ih (Goes t) is h = rw is (ih t h)
      go ih Fails is h = absurd h

  run-fault : {S V : Type 0} (step : S → E → Step S V) (Live : S → Type 0) → IsLive step Live → (s : S) (bytes : List E) (left : ℕ) → Live s → run_from step s bytes ≡ Err left → Halts decide step s bytes left
  run-fault step Live ok s [] left live e =
      let z : left ≡ 0 = cc in
      let h = ok.some s live in
      record { best = (h.0, h.1, h.2, omega arith); most = λ w v l. omega (arith, z, shared-right decide w []) }
  run-fault {S = S} {V = V} step Live ok s (b ∷ bs) left live e = go (λ t l f. run-fault step Live ok t bs left l f) (step s b) refl e
    where
      go : ((t : S) → Live t → run_from step t bs ≡ Err left → Halts decide step t bs left) → (x : Step S V) → step s b ≡ x → by_step x (λ v. fine (v, bs)) (λ t. run_from step t bs) (Err (suc (length bs))) ≡ Err left → Halts decide step s (b ∷ bs) left
      go ih (Ends u) is e = absurd (fail_is_fine left (u, bs) (sym e))
      go ih (Goes t) is e =
          let h = ih t (ok.kept s t b live is) e in
          record {
            best = (b ∷ h.best.0, h.best.1, rw is h.best.2, omega (arith, h.best.3, shared-same decide b b h.best.0 bs refl));
            most = most h;
          }
        where
          most : Halts decide step t bs left → (w : List E) (v : V) → Leads step s w v → shared decide w (b ∷ bs) + left ≤ length (b ∷ bs)
          most h [] v l = absurd l
          most h (c ∷ w) v l =
              elim (decide c b) [
                | inl same ↦
                    let l' : Leads step t w v = rw is at (subst (λ (d : E). Leads step s (d ∷ w) v) same l) in
                    omega (arith, h.most w v l', shared-same decide c b w bs same)
                | inr other ↦ omega (arith, shared-other decide c b w bs other, h.most h.best.0 h.best.1 h.best.2)
              ]
      go ih Fails is e =
          let z : suc (length bs) ≡ left = failed_is {A = V × List E} (suc (length bs)) left e in
          let h = ok.some s live in
          record { best = (h.0, h.1, h.2, omega (arith, z)); most = most z }
        where
          most : suc (length bs) ≡ left → (w : List E) (v : V) → Leads step s w v → shared decide w (b ∷ bs) + left ≤ length (b ∷ bs)
          most z [] v l = absurd l
          most z (c ∷ w) v l =
              elim (decide c b) [
                | inl same ↦ absurd (rw is at (subst (λ (d : E). Leads step s (d ∷ w) v) same l))
                | inr other ↦ omega (arith, shared-other decide c b w bs other, z)
              ]

  -- the law of `run_from`, for a form of which the texts are those that lead to the end
  pub machine-reading : {S V : Type 0} (step : S → E → Step S V) (Live : S → Type 0) (s : S) (text : V → List E) (Fits : V → Type 0)
      → IsLive step Live → Live s
      → ((w : List E) (v : V) → Leads step s w v → Fits v × (text v ≡ w))
      → ((v : V) → Fits v → Leads step s (text v) v)
      → Reads decide text Fits (run_from step s)
  machine-reading {V = V} step Live s text Fits ok live sound complete k = record {
    takes = λ bytes v rest le e.
        let h = run-takes step s bytes v rest e in
        let q = sound h.0 v h.1 in
        (q.0, h.2 ∙ ap (λ (y : List E). y ++ rest) (sym q.1));
    again = λ v rest le fits. run-again step s (text v) v rest (complete v fits);
    fault = λ bytes left le e.
        let h = run-fault step Live ok s bytes left live e in
        let q = sound h.best.0 h.best.1 h.best.2 in
        record {
          best = (h.best.1, q.0, rw q.1 h.best.3);
          most = λ v fits. h.most (text v) v (complete v fits);
        };
  }
