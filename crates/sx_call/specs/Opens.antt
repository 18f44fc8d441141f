-- What an open asks for.
use Rattle.std.specs.Prelude.{Bool, not, ◌||◌}
use Rattle.sx_guard.specs.declared.access.Access.{Access}

-- the rights that an open asks for, and whether it is marked for delete on close
pub record OpenRights : Type 0 where
  pub access : Access
  pub on_close : Bool

-- the mark for delete on close only with delete access
abbrev pub is_open_rights : OpenRights → Bool
is_open_rights r = not r.on_close || r.access.delete
