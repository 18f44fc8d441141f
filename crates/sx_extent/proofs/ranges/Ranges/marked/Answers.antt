use Rattle.std.proofs.Common.{◌≡◌, ◌≤◌, ◌∙◌, List, refl, sym, ap, subst, arith, length}
use Rattle.std.specs.Result.{IfOk}
use Rattle.sx_extent.specs.Ranges.{Interval, listed, AreRuns}
use Rattle.sx_extent.proofs.FileLemmas.{self_length}
use Rattle.sx_extent.proofs.SpanLemmas.{listed_is, if_ok}
use Rattle.sx_extent.proofs.RunLaws.{listed_runs}
use Rattle.sx_extent.proofs.ranges.Ranges.marked.Goals as goal

pub runs-requires-clause-limit : goal.runs-requires-clause-limit
runs-requires-clause-limit c =
    let n : length c.args.self.now.bytes ≡ c.self.inside.length = self_length _ _ _ c.self.view_is in
    omega arith

-- the spans are what the definition lists
listed_spans : (c : goal.After-runs) → IfOk c.runs.result (λ spans. spans ≡ listed c.args.self.now c.args.from c.args.end)
listed_spans c =
    let n : length c.args.self.now.bytes ≡ c.self.inside.length = self_length _ _ _ c.self.view_is in
    let fits : c.args.end ≤ c.self.inside.length = omega arith in
    if_ok c.runs.result (λ spans is. is ∙ listed_is c.self.inside.length c.self.inside.granules.entries c.args.from c.args.end _ c.self.invariant c.runs.ensures.ordered fits refl ∙ ap (λ f. listed f c.args.from c.args.end) c.self.view_is) c.runs.ensures.ok

pub returns-clause-listed : goal.returns-clause-listed
returns-clause-listed c = listed_spans c

pub returns-clause-runs : goal.returns-clause-runs
returns-clause-runs c =
    let f = c.args.self.now in
    let P : List Interval → Type 0 = AreRuns f c.args.from c.args.end in
    if_ok c.runs.result (λ spans is. subst P (sym is) (listed_runs f c.args.from c.args.end)) (listed_spans c)
