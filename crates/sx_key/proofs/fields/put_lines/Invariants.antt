use Rattle.std.proofs.Common.{◌≡◌, ◌++◌, ◌≤◌, ◌-◌, length, drop}
use Rattle.sx_key.specs.Fields.{group_lines}
use Rattle.sx_key.proofs.fields.put_lines.Given as goal

-- the lines so far are there, and those of the other fields are left
abbrev pub invariant-loop-start : goal.invariant-loop-start
invariant-loop-start l = l.out.items ++ group_lines l.before l.after (drop l.start l.fields) ≡ l.initial.out.items ++ group_lines l.before l.after l.fields

abbrev pub decreases-loop-start : goal.decreases-loop-start
decreases-loop-start l = length l.fields - l.start
