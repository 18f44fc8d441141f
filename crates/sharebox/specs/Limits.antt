-- The limits of what the program serves, and the statuses that it ends with.
use Rattle.std.specs.Prelude.{ℕ, Bool, true, false, Option, Some, None, Result, Ok, Err}
use Rattle.sx_book.specs.declared.report.Full.{Full}
use Rattle.sx_book.specs.declared.report.ConnEnd.{ConnEnd}
use Rattle.sx_book.specs.declared.report.ConnEnd.TheVariants as finish
use Rattle.sx_book.specs.declared.report.ConnReport.{ConnReport}
use Rattle.sharebox.specs.declared.run.TheConstants.{HISTORY_LIMIT, SESSION_CALLER, INPUT_BUDGET}

-- how many places the program's history has
abbrev pub history_limit : ℕ
history_limit = HISTORY_LIMIT

-- the caller of the session or connection
abbrev pub session_caller : ℕ
session_caller = SESSION_CALLER

-- how many bytes of input a session or connection may take
abbrev pub input_budget : ℕ
input_budget = INPUT_BUDGET

-- the status of a session or connection whose streams did not fail: out of memory comes first, then a full history
abbrev pub status_by_counts : Bool → Option Full → ℕ → ℕ
status_by_counts true full status = 5
status_by_counts false (Some numbers) status = 7
status_by_counts false None status = status

-- the status by how it ended, whether memory ran out, and whether the history was full
abbrev pub status_by : ConnEnd → Bool → Option Full → ℕ
status_by finish.ReadFault starved full = 3
status_by finish.WriteFault starved full = 4
status_by finish.NoMemory starved full = 5
status_by (finish.Full numbers) starved full = status_by_counts starved full 7
status_by (finish.Cut left) starved full = status_by_counts starved full 2
status_by finish.Spent starved full = status_by_counts starved full 2
status_by (finish.Closed (Some at)) starved full = status_by_counts starved full 2
status_by (finish.Closed None) starved full = status_by_counts starved full 0
status_by finish.Ended starved full = status_by_counts starved full 0

-- the status of a report
abbrev pub status_of : ConnReport → ℕ
status_of report = status_by report.end report.starved report.full

-- the status where the office was closed, or could not be, which counts as out of memory
abbrev pub status_after_close : {A B : Type 0} → Result A B → ConnReport → ℕ
status_after_close (Ok book) report = status_of report
status_after_close (Err fault) report = status_of (record report { starved = true })
