use Rattle.sx_extent.proofs.FileLaws.{whole_blank, whole_update, whole_write, whole_clear, whole_resize}
use Rattle.sx_extent.proofs.laws.files_stay_well_formed.Goals as goal

pub returns-clause-blank : goal.returns-clause-blank
returns-clause-blank c = whole_blank

pub returns-clause-update : goal.returns-clause-update
returns-clause-update c = whole_update

pub returns-clause-write : goal.returns-clause-write
returns-clause-write c = whole_write

pub returns-clause-clear : goal.returns-clause-clear
returns-clause-clear c = whole_clear

pub returns-clause-resize : goal.returns-clause-resize
returns-clause-resize c = whole_resize
