use Rattle.std.proofs.Common.{◌∙◌}
use Rattle.sx_tree.proofs.CopyLemmas.{slots_unchanged}
use Rattle.sx_tree.proofs.tree.Tree.copy_shared.Goals as goal

pub returns : goal.returns
returns c = (λ i. record { root = c.self.inside.root; slots = (c.in_ok-nodes.ensures ∙ slots_unchanged c.self.inside.nodes.entries) i }) ∙ c.self.view_is
