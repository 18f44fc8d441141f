use Rattle.std.proofs.Common.{ℕ, ◌≡◌, ◌+◌, ◌-◌, ◌++◌, ◌∙◌, List, length, take, drop, ap, subst, arith}
use Rattle.std.proofs.lemmas.List.{take_rest}
use Rattle.sx_key.specs.Fields.{IsRun, run_line}
use Rattle.sx_key.specs.declared.fields.Field.{Field}
use Rattle.sx_key.proofs.Grouping.{ascends_names, group_turn}
use Rattle.sx_key.proofs.fields.put_lines.Goals as goal

pub loop-start-preserved : goal.loop-start-preserved
loop-start-preserved c =
    let fields = c.args.fields.now in
    let i = c.loop-start.start in
    let n = c.run_length.result in
    let before = c.args.before.now in
    let after = c.args.after.now in
    let run = subst (IsRun n) (take_rest fields i) c.run_length.ensures.run in
    let end : i + n - i ≡ n = omega arith in
    let line : c.put_run.new.out.items ≡ c.loop-start.out.items ++ run_line before after (take n (drop i fields)) =
    c.in_ok-put_run.ensures ∙ ap (λ (k : ℕ). c.loop-start.out.items ++ run_line before after (take k (drop i fields))) end in
    group_turn before after c.loop-start.out.items c.put_run.new.out.items _ fields i n c.loop-start-test.true (ascends_names fields c.requires) run line c.loop-start.invariant
