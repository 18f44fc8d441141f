use Rattle.sx_extent.proofs.FileLaws.{length_blank, length_update, length_write, length_clear, length_resize, length_extend, length_cut}
use Rattle.sx_extent.proofs.laws.lengths_are_known.Goals as goal

pub returns-clause-blank : goal.returns-clause-blank
returns-clause-blank c = length_blank

pub returns-clause-update : goal.returns-clause-update
returns-clause-update c = length_update

pub returns-clause-write : goal.returns-clause-write
returns-clause-write c = length_write

pub returns-clause-clear : goal.returns-clause-clear
returns-clause-clear c = length_clear

pub returns-clause-resize : goal.returns-clause-resize
returns-clause-resize c = length_resize

pub returns-clause-extend : goal.returns-clause-extend
returns-clause-extend c = length_extend

pub returns-clause-cut : goal.returns-clause-cut
returns-clause-cut c = length_cut
