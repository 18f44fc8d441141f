-- How the program makes its share and takes a pass for its session.
use Rattle.std.specs.Prelude.{ℕ, ◌+◌, ◌≡◌, List, []}
use Rattle.sx_call.specs.declared.entries.Entry.{Entry}
use Rattle.sx_call.specs.declared.entries.Noted.{Noted}
use Rattle.sx_turn.specs.Seats.{TableId}
use Rattle.sx_book.specs.Passes.{PassView, GrowsByOthers, entry_behind, after_entry, first_pass, new_pass}
use Rattle.sx_book.specs.Passes.{pass_after_look}
use Rattle.sharebox.specs.Command.{making, creation, first_history}
use Rattle.sharebox.specs.Limits.{history_limit, session_caller}

-- the program's Create Share behind what it found
abbrev pub creation_behind : List Noted → List ℕ → ℕ → Entry
creation_behind found share moment = entry_behind found 0 0 moment 0 (making share)

-- the first pass has made the share, behind entries of others
pub record HasMade (office : TableId) (share : List ℕ) (moment : ℕ) (main : PassView) : Type 0 where
  pub found : List Noted
  pub others : GrowsByOthers 0 [] found
  pub main_is : main ≡ after_entry found (creation_behind found share moment) (first_pass office history_limit)

-- the share was made, and the session has a pass, of number 1; the Create Share is all that was seen
pub record HasOpened (office : TableId) (share : List ℕ) (moment : ℕ) (main pass : PassView) : Type 0 where
  pub main_is : main ≡ pass_after_look (first_history share moment) (session_caller + 1)
      (after_entry [] (creation share moment) (first_pass office history_limit))
  pub pass_is : pass ≡ new_pass main session_caller (first_history share moment)
