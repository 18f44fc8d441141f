use Rattle.std.proofs.Common.{◌≡◌, ◌<◌, ℕ, ◌/◌, ◌∙◌, sym, ap, subst, true, List, [], ◌∷◌, ◌++◌, map}
use Rattle.std.specs.Map.{keys_of}
use Rattle.std.specs.Ordering.{nat_cmp}
use Rattle.std.specs.BTreeMap.Range.{entries_between, IsEntryInRange}
use Rattle.std.specs.declared.ops.Bound.TheVariants.{Included, Excluded}
use Rattle.std.proofs.lemmas.List.{append_assoc}
use Rattle.std.proofs.lemmas.List.Elements.{All-weaker, All-head, All-rest, All-same}
use Rattle.sx_extent.specs.Ranges.{joined, part_of_granule, touches}
use Rattle.sx_extent.specs.Granules.{Entries}
use Rattle.sx_extent.proofs.GranuleLemmas.{from_range}
use Rattle.sx_extent.proofs.GranuleSteps.{touches_between}
use Rattle.sx_extent.proofs.SpanLemmas.{parts-push}
use Rattle.sx_extent.proofs.granules.runs.Goals as goal

pub loop-g-init : goal.loop-g-init
loop-g-init c =
    let from : ℕ = c.args.from in
    let end : ℕ = c.args.end in
    let past : ℕ = c.past_of.result in
    let es : Entries = c.args.granules.now.entries in
    let Q : ℕ × List ℕ → Type 0 = λ e. touches from end e.0 ≡ true in (
      ([], ap (λ p. entries_between nat_cmp (Included (from / 512)) (Excluded p) es) (sym c.past_of.ensures) ∙ sym (c.range-g-items.ensures.between tt) ∙ sym c.into_iter-g-iterator.ensures.into_iter_gives, c.new-spans.ensures),
      All-same Q c.into_iter-g-iterator.result c.range-g-items.result c.into_iter-g-iterator.ensures.into_iter_gives
          (All-weaker (IsEntryInRange nat_cmp (Included (from / 512)) (Excluded past) c.args.granules.now) Q (λ e h.
          let f = from_range (from / 512) past e.0 h.0 in
          let L : ℕ → Type 0 = λ n. e.0 < n in
          touches_between from end e.0 f.0 (subst L c.past_of.ensures f.1)) c.range-g-items.result ((c.range-g-items.ensures.in_range tt).0)),
    )

pub part_of-requires-clause-touched : goal.part_of-requires-clause-touched
part_of-requires-clause-touched c =
    let Q : ℕ × List ℕ → Type 0 = λ e. touches c.args.from c.args.end e.0 ≡ true in
    All-head Q (c.in-Some.g.now, c.in-Some.field-0-1.now) c.next.new.self (rw c.in-Some.ensures.steps at c.loop-g.invariant.1)

pub loop-g-preserved : goal.loop-g-preserved
loop-g-preserved c =
    let from : ℕ = c.args.from in
    let end : ℕ = c.args.end in
    let Q : ℕ × List ℕ → Type 0 = λ e. touches from end e.0 ≡ true in
    let told : Entries = c.loop-g.invariant.0.0 in
    let g : ℕ = c.in-Some.g.now in
    let v : List ℕ = c.in-Some.field-0-1.now in
    let parts = map (part_of_granule from end) (keys_of told) in (
      (
        told ++ (g, v) ∷ [],
        c.loop-g.invariant.0.1 ∙ ap (λ xs. told ++ xs) c.in-Some.ensures.steps ∙ sym (append_assoc told ((g, v) ∷ []) c.next.new.self),
        c.in_ok-join.ensures.ok parts c.loop-g.invariant.0.2 ∙ ap (λ s. joined (parts ++ s ∷ [])) c.part_of.ensures ∙ ap joined (sym (parts-push (part_of_granule from end) told g v)),
      ),
      All-rest Q (g, v) c.next.new.self c.loop-g.g-iterator c.in-Some.ensures.steps c.loop-g.invariant.1,
    )
