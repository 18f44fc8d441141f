use Rattle.std.proofs.Common.{◌≡◌, ◌∙◌, ℕ, ◌+◌, ◌-◌, sym, ap, subst, arith, List, ◌∷◌, [], ◌++◌, eqb, true, set, length}
use Rattle.std.proofs.lemmas.Bool.{eq-eqb, ne_eqb}
use Rattle.sx_extent.specs.Ranges.{Interval}
use Rattle.sx_extent.proofs.GranuleSteps.{on_ok}
use Rattle.sx_extent.proofs.SpanLemmas.{joined-push, joined_after, after_apart, after_meeting, after_none}
use Rattle.sx_extent.proofs.spans.Spans.join.Goals as goal
use Rattle.sx_extent.proofs.spans.Spans.join.Goals.{then-count-gt0+else-last-span, else-count-gt0}

pub returns-then-last-span-clause-ok : goal.returns-then-last-span-clause-ok
returns-then-last-span-clause-ok c = λ spans is.
    let xs : List Interval = c.self.inside.items.items in
    let s : Interval = c.args.span in
    let t : Interval = c.index-last.result.now in
    let n : ℕ = c.len-count.result - 1 in
    let l : n + 1 ≡ length xs = omega (arith, c.self.inside.items.ok.0) in
    let meets : eqb t.end s.from ≡ true = eq-eqb t.end s.from (ap (λ (i : Interval). i.end) (sym c.last.view_is) ∙ c.if-last-span.true ∙ ap (λ (i : Interval). i.from) c.span.view_is) in
    let longer : ◌≡◌ {A = Interval} (record { from = c.last.inside.from; end = c.span.inside.end }) (record { from = t.from; end = s.end }) =
    λ i. record { from = (ap (λ (v : Interval). v.from) c.last.view_is) i; end = (ap (λ (v : Interval). v.end) c.span.view_is) i } in
    ap (set xs n) longer ∙ sym (after_meeting xs n s t l c.index-last.ensures meets) ∙ ap (λ v. joined_after v s) (c.self.view_is ∙ is) ∙ sym (joined-push spans s)

pub returns-clause-ok : goal.returns-clause-ok
returns-clause-ok c =
    let xs : List Interval = c.self.inside.items.items in
    let s : Interval = c.args.span in
    let P : List Interval → Type 0 = λ v. joined_after v s ≡ v ++ s ∷ [] in
    let apart : P xs = elim c.if-count-gt0.branch [
      | then-count-gt0+else-last-span w ↦
          let t : Interval = w.index-last.result.now in
          let n : ℕ = c.len-count.result - 1 in
          let l : n + 1 ≡ length xs = omega (arith, c.self.inside.items.ok.0) in
          after_apart xs n s t l w.index-last.ensures (ne_eqb t.end s.from (λ e. w.if-last-span.false (ap (λ (i : Interval). i.end) w.last.view_is ∙ e ∙ ap (λ (i : Interval). i.from) (sym c.span.view_is))))
      | else-count-gt0 w ↦ after_none xs s (omega (arith, c.self.inside.items.ok.0))
    ] in
    on_ok c.push.result (λ pushed spans is. pushed ∙ sym (subst P c.self.view_is apart) ∙ ap (λ v. joined_after v s) is ∙ sym (joined-push spans s)) c.push.ensures.ok
