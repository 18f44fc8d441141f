use Rattle.std.proofs.Common.{rules, ◌≡◌, ◌∷◌, ◌++◌, ◌∙◌, ℕ, List, ap, sym, subst}
use Rattle.std.specs.Ordering.{nat_cmp}
use Rattle.std.specs.List.Sorted.{IsStrictlySortedBy}
use Rattle.std.specs.Map.{keys_of}
use Rattle.std.specs.BTreeMap.{insert_entry}
use Rattle.std.specs.Cmp.{nat_cmp_total}
use Rattle.sx_tree.specs.Tree.{Slot}
use Rattle.sx_tree.specs.Copies.{copied_slot, copied_slots}
use Rattle.sx_tree.proofs.Appended.{copied_more, keys_kept}
use Rattle.sx_tree.proofs.copies.copy_slots.Goals as goal

pub loop-id-preserved : goal.loop-id-preserved
loop-id-preserved c =
    let next : c.loop-id.id-iterator ≡ (c.in-Some.id.now, c.in-Some.slot.now) ∷ c.next.new.self = search rules in
    let is = ap (λ (zs : List (ℕ × Slot)). c.loop-id.copy.entries ++ copied_slots c.args.rest zs) (sym next) ∙ c.loop-id.invariant in
    let es = c.args.nodes.now.entries in
    let order : IsStrictlySortedBy nat_cmp (keys_of (copied_slots c.args.rest es)) = subst (λ (ks : List ℕ). IsStrictlySortedBy nat_cmp ks) (sym (keys_kept (copied_slot c.args.rest) es)) c.iter-id-items.ensures.ordered in
    let put = c.in_ok-put_slot.ensures in
    let slot : c.in_ok-slot.slot ≡ copied_slot c.args.rest c.in-Some.slot.now = c.in_ok-slot.ensures in
    let rest = copied_slots c.args.rest c.next.new.self in
    ap (λ (zs : List (ℕ × Slot)). zs ++ rest) put
    ∙ ap (λ (x : Slot). insert_entry nat_cmp c.loop-id.copy.entries c.in-Some.id.now x ++ rest) slot
    ∙ copied_more nat_cmp nat_cmp_total c.loop-id.copy.entries (copied_slots c.args.rest es) c.in-Some.id.now (copied_slot c.args.rest c.in-Some.slot.now) rest is order
