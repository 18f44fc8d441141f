-- When an open forbids a new one, by their accesses and share modes.
use Rattle.std.specs.Prelude.{◌≡◌, Bool, true, false, not, ◌&&◌, ◌||◌, List, All, AllPairs, Any, Option, find}
use Rattle.std.specs.Prelude.{option_map}
use Rattle.sx_guard.specs.declared.access.Access.{Access}
use Rattle.sx_guard.specs.declared.access.Mode.{Mode}
use Rattle.sx_guard.specs.declared.sharing.Opened.{Opened}
use Rattle.sx_guard.specs.Handle.{Handle, same_handle, handle_before}
use Rattle.sx_guard.specs.Access.{has_no_right, exceeds, may_change}

-- whether two opens, each an access and a share mode, can't stand together
abbrev pub conflict : Access → Mode → Access → Mode → Bool
conflict access mode other_access other_mode =
    not (has_no_right access) && not (has_no_right other_access)
    && (exceeds access other_mode || exceeds other_access mode)

-- whether an open forbids a new access and share mode
abbrev pub forbids : Access → Mode → Opened → Bool
forbids access mode o = conflict access mode o.access o.mode

-- whether an open may change its file
abbrev pub is_changing : Opened → Bool
is_changing o = may_change o.access

-- whether an open is that of a handle
abbrev pub is_open_of : Handle → Opened → Bool
is_open_of handle o = same_handle handle o.handle

-- whether an open comes before another, by their handles
abbrev pub open_before : Opened → Opened → Bool
open_before o p = handle_before o.handle p.handle

-- the opens stand in order of handle, and each handle stands there once
abbrev pub AreOpens : List Opened → Type 0
AreOpens opens = AllPairs (λ o p. open_before o p ≡ true) opens

-- the handle of the first open that passes a test
abbrev pub first_handle : (Opened → Bool) → List Opened → Option Handle
first_handle test opens = option_map (λ o. o.handle) (find test opens)

-- a handle is that of an open that passes a test, and no open that passes has a lesser one
pub record IsLeastHandle (test : Opened → Bool) (opens : List Opened) (handle : Handle) : Type 0 where
  pub listed : Any (λ o. (o.handle ≡ handle) × (test o ≡ true)) opens
  pub least : All (λ o. test o ≡ true → handle_before o.handle handle ≡ false) opens
