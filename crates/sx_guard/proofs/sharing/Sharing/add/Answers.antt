use Rattle.sx_guard.specs.declared.sharing.Opened.{Opened}
use Rattle.sx_guard.specs.Ordered.{insert_by}
use Rattle.sx_guard.specs.Sharing.{AreOpens, open_before}
use Rattle.sx_guard.proofs.Kept.{AreOpens-insert, kept_by}
use Rattle.sx_guard.proofs.sharing.Sharing.add.Goals as goal

pub invariant_of-self : goal.invariant_of-self
invariant_of-self c =
    let opens = c.self.inside.opens.items in
    let o : Opened = record { handle = c.args.handle; access = c.args.access; mode = c.args.mode } in
    kept_by AreOpens c.insert_ordered.result _ (insert_by open_before o opens) opens c.insert_ordered.ensures.ok c.insert_ordered.ensures.err
    (AreOpens-insert o opens (rw c.self.view_is c.requires) c.self.invariant) c.self.invariant
