use Rattle.std.proofs.Common.{◌≡◌, ◌∙◌, sym, ap, ℕ, None}
use Rattle.std.specs.Prelude.{Result, Ok}
use Rattle.sx_call.specs.declared.leases.LeaseAction.{LeaseAction}
use Rattle.sx_call.specs.declared.refusals.Refusal.{Refusal}
use Rattle.sx_call.specs.declared.replies.Reply.{Reply}
use Rattle.sx_call.specs.declared.shown.Stamp.{Stamp}
use Rattle.sx_lease.specs.declared.lease.LeaseSay.{LeaseSay}
use Rattle.sx_lease.specs.declared.lease.LeaseState.{LeaseState}
use Rattle.sx_spec.specs.Account.{Store}
use Rattle.sx_spec.specs.Changes.{Act, put_facts}
use Rattle.sx_spec.specs.Checks.{first_check}
use Rattle.sx_spec.specs.Facts.{stamp_of, with_lease}
use Rattle.sx_spec.specs.FileCalls.{lease_file}
use Rattle.sx_spec.specs.Places.{FilePlace, file_place}
use Rattle.sx_spec.specs.ShareCalls.{lease_after, lease_reply}
use Rattle.sx_spec.specs.Step.{at_place, outcome, unless_refused}
use Rattle.sx_tree.specs.declared.node.Node.{Node}
use Rattle.sx_ops_file.proofs.leases.lease_file.Goals as goal

-- what a call comes to at a place that was found, where no check refuses
comes_to : (s : Store) (at : Result FilePlace Refusal) (p : FilePlace) (act : FilePlace → Act) (left : Store)
    (told : Reply) → at ≡ Ok p → first_check s (act p).checks ≡ None → left ≡ (act p).store → told ≡ (act p).reply
    → (left, told) ≡ outcome s (at_place at act)
comes_to s at p act left told found passed kept said =
    let passes : outcome s (at_place (Ok p) act) ≡ ((act p).store, (act p).reply) =
    ap (unless_refused s (act p)) passed in
    ap (λ (t : Store). (t, told)) kept
    ∙ ap (λ (r : Reply). ((act p).store, r)) said
    ∙ sym (ap (λ (r : Result FilePlace Refusal). outcome s (at_place r act)) found ∙ passes)

-- equal states of a lease are put alike
put_alike : (s : Store) (n m i j : ℕ) (d e : LeaseState × LeaseSay) → n ≡ m → i ≡ j → d ≡ e
    → put_facts n i (with_lease d.0) s ≡ put_facts m j (with_lease e.0) s
put_alike s n m i j d e a b same =
    ap (λ (k : ℕ). put_facts k i (with_lease d.0) s) a
    ∙ ap (λ (k : ℕ). put_facts m k (with_lease d.0) s) b
    ∙ ap (λ (w : LeaseState × LeaseSay). put_facts m j (with_lease w.0) s) same

-- equal states of a lease are told alike
told_alike : (action : LeaseAction) (stamp : Stamp) (n m : Node) (d e : LeaseState × LeaseSay) → stamp ≡ stamp_of n
    → n ≡ m → d ≡ e → lease_reply action stamp d.0 ≡ lease_reply action (stamp_of m) e.0
told_alike action stamp n m d e is node same =
    ap (λ (t : Stamp). lease_reply action t d.0) is
    ∙ ap (λ (k : Node). lease_reply action (stamp_of k) d.0) node
    ∙ ap (λ (w : LeaseState × LeaseSay). lease_reply action (stamp_of m) w.0) same

pub returns : goal.returns
returns c =
    let s = c.args.state.now in
    let p = c.in-Ok.place in
    let action = c.args.call.now.action in
    let fresh = c.args.entry.now.fresh in
    let act = lease_file s action fresh in
    let after = c.lease_after-done.result in
    let done = lease_after action fresh p.node.facts.lease in
    let node : c.place.inside.node.now ≡ p.node = cc in
    let same : after ≡ done =
    c.lease_after-done.ensures ∙ ap (λ (n : Node). lease_after action fresh n.facts.lease) node in
    let found : file_place s c.args.call.now.at None ≡ Ok p = cc in
    let passed : first_check s (act p).checks ≡ None = cc in
    let number : c.number-number.result ≡ p.volume.number = c.number-number.ensures in
    let id : c.id-id.result ≡ p.node.id = c.id-id.ensures in
    let stamp : c.stamp_of-stamp.result ≡ stamp_of c.place.inside.node.now = c.stamp_of-stamp.ensures in
    let kept : c.put_facts.new.self ≡ (act p).store =
    c.put_facts.ensures
    ∙ put_alike s c.number-number.result p.volume.number c.id-id.result p.node.id after done number id same in
    let told : c.lease_reply.result ≡ (act p).reply =
    c.lease_reply.ensures
    ∙ told_alike action c.stamp_of-stamp.result c.place.inside.node.now p.node after done stamp node same in
    comes_to s (file_place s c.args.call.now.at None) p act c.put_facts.new.self c.lease_reply.result
    found passed kept told
