-- What is written for a connection or session, and what is reported of it.
use Rattle.std.specs.Prelude.{ℕ, ◌+◌, ◌≡◌, false, true, List, ◌++◌, Some, None}
use mathlib.Core.List.{IsPrefix}
use Rattle.sx_base.specs.Sides.{Sides}
use Rattle.sx_call.specs.declared.refusals.Stop.{Stop}
use Rattle.sx_call.specs.declared.refusals.Stop.TheVariants.{HistoryFull, NoMemory}
use Rattle.sx_book.specs.OneHistory.{Came, appended, history_full, no_memory}
use Rattle.sx_book.specs.declared.report.ConnEnd.{ConnEnd}
use Rattle.sx_book.specs.declared.report.ConnEnd.TheVariants as finish
use Rattle.sx_book.specs.declared.report.ConnReport.{ConnReport}
use Rattle.sx_book.specs.declared.report.Tally.{Tally}

-- the text was written behind what was written before
abbrev pub HasText : (List ℕ → Type 0) → (List ℕ → Type 0) → List ℕ → Type 0
HasText wrote wrote' text = (before : List ℕ) → wrote before → wrote' (before ++ text)

-- a prefix of the text was written behind what was written before
abbrev pub HasPrefix : (List ℕ → Type 0) → (List ℕ → Type 0) → List ℕ → Type 0
HasPrefix wrote wrote' text =
    (before : List ℕ) → wrote before → (front : List ℕ) × IsPrefix front text × wrote' (before ++ front)

-- the text was written, and behind it a prefix of the last one
abbrev pub HasBegun : (List ℕ → Type 0) → (List ℕ → Type 0) → List ℕ → List ℕ → Type 0
HasBegun wrote wrote' text last =
    (before : List ℕ) → wrote before → (front : List ℕ) × IsPrefix front last × wrote' ((before ++ text) ++ front)

-- the counts of failed reads and puts are as they were, but for that of the failure by which it ended
abbrev pub KeepsCounts : ConnEnd → Sides → Sides → Type 0
KeepsCounts finish.ReadFault old new = new.writes ≡ old.writes
KeepsCounts finish.WriteFault old new = new.reads ≡ old.reads
KeepsCounts end old new = (new.reads ≡ old.reads) × (new.writes ≡ old.writes)

-- nothing was asked yet
abbrev pub no_tally : Tally
no_tally = record { asked = 0; full = None; no_memory = false }

-- what a report counts, after a call: the last time that the history was full, and whether memory ran out
abbrev pub tally_with : ℕ → Tally → Came → Tally
tally_with limit t (appended place reply) = t
tally_with limit t (history_full entries sessions) = record t {
  full = Some (record { entries = entries; sessions = sessions; limit = limit });
}
tally_with limit t no_memory = record t { no_memory = true }

-- what a report counts, after a call that was not appended
abbrev pub tally_with_stop : Tally → Stop → Tally
tally_with_stop t NoMemory = record t { no_memory = true }
tally_with_stop t (HistoryFull entries sessions limit) = record t {
  full = Some (record { entries = entries; sessions = sessions; limit = limit });
}

-- the bytes that are reported as taken: those of its requests or lines, with those of one that was cut, and the
-- budget where it is spent
abbrev pub taken_at : ConnEnd → ℕ → ℕ → ℕ
taken_at (finish.Cut left) given budget = given + left
taken_at finish.Spent given budget = budget
taken_at end given budget = given

-- the report of a connection or session that ended so
abbrev pub report_of : ConnEnd → ℕ → ℕ → Tally → ConnReport
report_of end given budget tally = record {
  end = end;
  taken = taken_at end given budget;
  asked = tally.asked;
  full = tally.full;
  starved = tally.no_memory;
}
