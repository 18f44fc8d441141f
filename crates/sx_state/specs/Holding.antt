-- The handles of a session, closed one after another.
use Rattle.std.specs.Prelude.{Option, Some, None}
use Rattle.sx_call.specs.declared.opens.Open.{Open}
use Rattle.sx_spec.specs.Account.{Store}
use Rattle.sx_spec.specs.Changes.{close}

-- the open that was found is closed, if one was
abbrev pub close_found : Option Open → Store → Store
close_found None s = s
close_found (Some o) s = close o s
