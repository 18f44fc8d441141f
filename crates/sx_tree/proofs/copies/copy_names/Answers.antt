use Rattle.std.proofs.Common.{rules, ◌≡◌, ◌∷◌, ◌++◌, ◌∙◌, ℕ, List, ap, sym}
use Rattle.std.specs.Ordering.{nat_cmp}
use Rattle.std.specs.BTreeMap.{insert_entry}
use Rattle.std.specs.Cmp.{nat_cmp_total}
use Rattle.std.specs.Cmp.Lexicographic.{slice_cmp, lists_total}
use Rattle.sx_tree.proofs.Appended.{copied_more}
use Rattle.sx_tree.proofs.copies.copy_names.Goals as goal

pub loop-name-preserved : goal.loop-name-preserved
loop-name-preserved c =
    let next : c.loop-name.name-iterator ≡ (c.in-Some.name.now, c.in-Some.id.now) ∷ c.next.new.self = search rules in
    let is = ap (λ (zs : List (List ℕ × ℕ)). c.loop-name.copy.entries ++ zs) (sym next) ∙ c.loop-name.invariant in
    let order = c.iter-name-items.ensures.ordered in
    let put = c.in_ok-insert.ensures.entries in
    let name : c.in_ok-name.name ≡ c.in-Some.name.now = c.in_ok-name.ensures in
    ap (λ (zs : List (List ℕ × ℕ)). zs ++ c.next.new.self) put
    ∙ ap (λ (k : List ℕ). insert_entry (slice_cmp nat_cmp) c.loop-name.copy.entries k c.in-Some.id.now ++ c.next.new.self) name
    ∙ copied_more (slice_cmp nat_cmp) (lists_total nat_cmp_total) c.loop-name.copy.entries c.args.below.now.entries c.in-Some.name.now c.in-Some.id.now c.next.new.self is order
