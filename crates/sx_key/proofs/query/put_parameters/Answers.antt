use Rattle.std.proofs.Common.{ℕ, ◌≡◌, [], ◌∷◌, ◌++◌, ◌∙◌, List, ap, subst, codes}
use Rattle.std.specs.Prelude.{OnOk}
use Rattle.std.proofs.lemmas.List.{append-nil}
use Rattle.std.proofs.lemmas.List.Sorted.{IsPermutation-trans}
use Rattle.sx_key.specs.Texts.{joined_text}
use Rattle.sx_key.specs.Fields.{field_values, group_line, group_lines}
use Rattle.sx_key.specs.Signature.{parameter_line, parameter_lines}
use Rattle.sx_key.specs.declared.fields.Field.{Field}
use Rattle.sx_key.proofs.Grouping.{lines_grouped, values_sorted}
use Rattle.sx_key.proofs.Sorting.{sorted_is}
use Rattle.sx_key.proofs.query.put_parameters.Goals as goal

pub returns : goal.returns
returns c =
    let xs : List Field = c.args.parameters.items in
    let vs : List Field = c.sort_by_value.new.fields.items in
    let ys : List Field = c.sort_by_name.new.fields.items in
    let first = c.sort_by_value.ensures in
    let then' = c.in_ok-sort_by_name.ensures in
    let names = sorted_is (λ (f : Field). f.name) xs ys (IsPermutation-trans xs vs ys first.same then'.same) then'.ordered in
    let lines : (n : List ℕ) → group_line (10 ∷ []) [] ys n ≡ parameter_line xs n = λ n.
    append-nil (codes "\n" ++ n ++ codes ":" ++ joined_text (field_values n ys))
    ∙ ap (λ (ts : List (List ℕ)). codes "\n" ++ n ++ codes ":" ++ joined_text ts) (then'.stable n ∙ values_sorted xs vs n first.same first.ordered) in
    let whole : group_lines (10 ∷ []) [] c.deref.result.now ≡ parameter_lines xs =
    ap (group_lines (10 ∷ []) []) c.deref.ensures.value ∙ lines_grouped (10 ∷ []) [] xs ys (parameter_line xs) names lines in
    subst (λ (t : List ℕ). OnOk c.put_lines.result (c.put_lines.new.out.items ≡ c.args.out.now.items ++ t)) whole c.put_lines.ensures
