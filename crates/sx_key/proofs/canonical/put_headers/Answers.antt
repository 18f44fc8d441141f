use Rattle.std.proofs.Common.{ℕ, ◌≡◌, [], ◌∷◌, ◌++◌, ◌∙◌, List, ap, subst, codes}
use Rattle.std.specs.Prelude.{OnOk}
use Rattle.std.specs.List.{flat_map}
use Rattle.sx_key.specs.Texts.{joined_text}
use Rattle.sx_key.specs.Fields.{field_names, group_line, group_lines}
use Rattle.sx_key.specs.Signature.{canonical_line, canonical_headers}
use Rattle.sx_key.specs.declared.fields.Field.{Field}
use Rattle.sx_key.proofs.Grouping.{lines_grouped}
use Rattle.sx_key.proofs.Sorting.{sorted_is}
use Rattle.sx_key.proofs.canonical.put_headers.Goals as goal

pub returns : goal.returns
returns c =
    let xs : List Field = c.in_ok-fields.fields.items in
    let ys : List Field = c.sort_by_name.new.fields.items in
    let grouped = c.in_ok-sort_by_name.ensures in
    let names = sorted_is (λ (f : Field). f.name) xs ys grouped.same grouped.ordered in
    let lines : (n : List ℕ) → group_line [] (10 ∷ []) ys n ≡ canonical_line xs n = λ n. ap (λ (ts : List (List ℕ)). (n ++ codes ":" ++ joined_text ts) ++ 10 ∷ []) (grouped.stable n) in
    let whole : group_lines [] (10 ∷ []) c.deref.result.now ≡ canonical_headers c.args.headers.now =
    ap (group_lines [] (10 ∷ [])) c.deref.ensures.value ∙ lines_grouped [] (10 ∷ []) xs ys (canonical_line xs) names lines
    ∙ ap (λ (fs : List Field). flat_map (canonical_line fs) (field_names fs)) c.in_ok-fields.ensures in
    subst (λ (t : List ℕ). OnOk c.put_lines.result (c.put_lines.new.out.items ≡ c.args.out.now.items ++ t)) whole c.put_lines.ensures
