-- What a book keeps.
use Rattle.std.specs.Prelude.{◌≡◌, ◌+◌, ◌≤◌, length, vec_len, vec_capacity}
use Rattle.sx_spec.specs.History.{IsHistory}
use Rattle.sx_spec.specs.Step.{replay}
use Rattle.sx_spec.specs.Whole.{IsWhole}
use Rattle.sx_book.specs.declared.book.Book.TheInside.{Inside}

-- what a book keeps: the state is what the entries leave, the history is legal and the account whole, and each live
-- session has a place and memory left for its end
pub record IsBook (b : Inside) : Type 0 where
  pub state : b.state ≡ (replay b.entries.items).store
  pub room : length b.entries.items + length b.state.sessions ≤ b.limit
  pub kept : vec_len b.entries + length b.state.sessions ≤ vec_capacity b.entries
  pub legal : IsHistory b.limit b.entries.items
  pub whole : IsWhole (replay b.entries.items)
