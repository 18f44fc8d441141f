-- What a kept state stands for.
use Rattle.sx_spec.specs.Account.{Store}
use Rattle.sx_state.specs.declared.state.State.TheInside.{Inside}

-- the store of the definitions: the sessions as a list, the opens and the locks in their orders, and the shares by
-- their numbers
abbrev pub store_of : Inside → Store
store_of s = record {
  started = s.started;
  sessions = s.sessions.items;
  next_id = s.next_id;
  made = s.made;
  shares = s.shares.entries;
  opens = s.opens;
  locks = s.locks;
}
