-- Rights: those that an open asks for, and those that it leaves to others.
use Rattle.std.specs.Prelude.{Bool, not, ◌&&◌, ◌||◌}
use Rattle.sx_guard.specs.declared.access.Access.{Access}
use Rattle.sx_guard.specs.declared.access.Mode.{Mode}

-- whether an access asks for no right
abbrev pub has_no_right : Access → Bool
has_no_right access = not access.read && not access.write && not access.delete

-- whether an access has a right that a share mode leaves to nobody else
abbrev pub exceeds : Access → Mode → Bool
exceeds access mode = (access.read && not mode.read) || (access.write && not mode.write)
    || (access.delete && not mode.delete)

-- whether an access lets its file be changed: it has write or delete
abbrev pub may_change : Access → Bool
may_change access = access.write || access.delete
