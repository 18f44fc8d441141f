use Rattle.std.proofs.Common.{◌∙◌, sym, ap, length}
use Rattle.sx_extent.proofs.GranuleLemmas.{length-bytes_from}
use Rattle.sx_extent.proofs.view.View.length.Goals as goal

pub returns-clause-bytes : goal.returns-clause-bytes
returns-clause-bytes c = sym (length-bytes_from c.self.inside.granules.entries c.self.inside.from c.self.inside.length) ∙ ap length c.self.view_is
