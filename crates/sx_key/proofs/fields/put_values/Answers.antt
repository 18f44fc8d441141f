use Rattle.std.proofs.Common.{ℕ, ◌≡◌, ◌∷◌, ◌++◌, ◌∙◌, List, length, drop, get_or, ap, sym, subst, append_assoc}
use Rattle.std.specs.Prelude.{OnOk}
use Rattle.std.specs.List.{flat_map}
use Rattle.std.proofs.lemmas.List.{take_rest}
use Rattle.sx_key.specs.declared.fields.Field.{Field}
use Rattle.sx_key.proofs.Grouping.{values_joined}
use Rattle.sx_key.proofs.fields.put_values.Goals as goal

pub returns : goal.returns
returns c =
    let run = c.args.run.now in
    let d = c.index-run-0.result in
    let out : List ℕ = c.args.out.now.items in
    let F : Field → List ℕ = λ f. 44 ∷ f.value in
    let value : c.as_slice.result.now ≡ (get_or run 0 d).value = c.as_slice.ensures in
    let first : c.extend_from_slice.new.self.items ≡ out ++ (get_or run 0 d).value = c.in_ok-extend_from_slice.ensures.items ∙ ap (λ (bs : List ℕ). out ++ bs) value in
    let P : List ℕ → Type 0 = λ t. OnOk c.put_behind.result (c.put_behind.new.out.items ≡ t) in
    subst P ((λ i. first i ++ flat_map F (take_rest run 1 i)) ∙ append_assoc out (get_or run 0 d).value (flat_map F (drop 1 run)) ∙ ap (λ (t : List ℕ). out ++ t) (sym (values_joined run d c.requires)))
    c.put_behind.ensures
