-- The identity and the order of open handles.
use Rattle.std.specs.Prelude.{ℕ, Bool, ◌==◌, ◌&&◌, ◌||◌, nat_lt}

-- the session that opened a handle, and the handle's index there
pub record Handle : Type 0 where
  pub session : ℕ
  pub index : ℕ

-- whether two handles are one
abbrev pub same_handle : Handle → Handle → Bool
same_handle a b = a.session == b.session && a.index == b.index

-- whether a handle comes before another: by session, then by index
abbrev pub handle_before : Handle → Handle → Bool
handle_before a b = nat_lt a.session b.session || (a.session == b.session && nat_lt a.index b.index)
