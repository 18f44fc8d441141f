use Rattle.sx_extent.proofs.UseLaws.{used_blank, used_update, used_write, used_clear, used_resize, used_grown, fresh_grown, used_most}
use Rattle.sx_extent.proofs.laws.use_is_known.Goals as goal

pub returns-clause-blank : goal.returns-clause-blank
returns-clause-blank c = used_blank

pub returns-clause-update : goal.returns-clause-update
returns-clause-update c = used_update

pub returns-clause-write : goal.returns-clause-write
returns-clause-write c = used_write

pub returns-clause-clear : goal.returns-clause-clear
returns-clause-clear c = used_clear

pub returns-clause-resize : goal.returns-clause-resize
returns-clause-resize c = used_resize

pub returns-clause-growth : goal.returns-clause-growth
returns-clause-growth c = used_grown

pub returns-clause-grown : goal.returns-clause-grown
returns-clause-grown c = fresh_grown

pub returns-clause-most : goal.returns-clause-most
returns-clause-most c = used_most
