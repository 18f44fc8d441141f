-- What stands between the answers of a reader: one read, the reads until a line ends, and those of a body.
use Rattle.std.specs.Prelude.{ℕ, ◌+◌, ◌-◌, ◌<◌, ◌≤◌, ◌≡◌, ◌==◌, ◌++◌, Bool, true, false, List, length, take, drop}
use Rattle.std.specs.List.{list_any}
use Rattle.std.specs.declared.option.Option.{Option}
use Rattle.std.specs.Io.KnownBytes.{Keeps, Consumes, IsAtEnd}
use Rattle.httparse.specs.Grammar.{RequestHead, print_request, ReadsRequest}
use Rattle.sx_base.specs.Causes.{Rose}
use Rattle.sx_http.specs.declared.limits.TheConstants.{HEAD_LIMIT}
use Rattle.sx_http.specs.Heads.{head_of}
use Rattle.sx_http.specs.Framing.{framing_of}
use Rattle.sx_http.specs.Readers.{Requests}
use Rattle.sx_http.specs.RequestStream.{stream, Because, Counts}
use Rattle.sx_http.specs.declared.framing.Framing.TheVariants.{Body}
use Rattle.sx_base.specs.declared.buffer.Refill.{Refill}
use Rattle.sx_base.specs.declared.buffer.Refill.TheVariants as refill
use Rattle.sx_http.specs.declared.body.Stop.{Stop}
use Rattle.sx_http.specs.declared.body.Stop.TheVariants as stop
use Rattle.sx_http.specs.declared.body.Taken.{Taken}
use Rattle.sx_http.specs.declared.next.Next.{Next}
use Rattle.sx_http.specs.declared.next.Next.TheVariants.{Cut, Spent, ReadFault}
use Rattle.sx_http.specs.declared.judging.WholeHead.{WholeHead}

-- nothing was given: the stream is as it was, and nothing is told otherwise but what is held
pub record Stays (old new : Requests) (left left' : Option (List ℕ)) : Type 0 where
  pub bytes : Keeps (stream old left) (stream new left')
  pub rest : new ≡ record {
    held = new.held;
    given = old.given;
    taken = old.taken;
    budget = old.budget;
    ended = old.ended;
  }

-- these bytes stand behind what was held
abbrev pub HoldsMore : Requests → Requests → List ℕ → Type 0
HoldsMore old new bytes = new.held ≡ old.held ++ bytes

-- the byte is a line feed
abbrev pub is_line_feed : ℕ → Bool
is_line_feed b = b == 10

-- one read of a reader
abbrev pub Fills : Refill → Requests → Requests → Option (List ℕ) → Option (List ℕ) → ℕ → ℕ → Type 0
Fills refill.More old new left left' before now = Stays old new left left'
    × ((bytes : List ℕ) × HoldsMore old new bytes × (0 < length bytes)) × (now ≡ before)
Fills refill.End old new left left' before now = Stays old new left left' × IsAtEnd left' × (new ≡ old) × (now ≡ before)
Fills refill.ReadFault old new left left' before now = Stays old new left left' × (new ≡ old) × Rose before now
Fills refill.NoMemory old new left left' before now = Stays old new left left' × (new ≡ old) × (now ≡ before)

-- no line feed came
abbrev pub StaysInLine : Requests → Requests → Type 0
StaysInLine old new = (bytes : List ℕ) × HoldsMore old new bytes × (list_any is_line_feed bytes ≡ false)

-- the reads until a line feed has come, or as many bytes as a head or the budget may have
abbrev pub Awaits : Refill → Requests → Requests → Option (List ℕ) → Option (List ℕ) → ℕ → ℕ → Type 0
Awaits refill.More old new left left' before now = Stays old new left left' × (length old.held < length new.held)
    × (now ≡ before)
Awaits refill.End old new left left' before now = Stays old new left left' × (length old.held ≤ length new.held)
    × IsAtEnd left' × (now ≡ before)
Awaits refill.ReadFault old new left left' before now = Stays old new left left' × StaysInLine old new × Rose before now
Awaits refill.NoMemory old new left left' before now = Stays old new left left' × (now ≡ before)

-- the answer of a reader whose source has or hasn't ended: it can be told with nothing more read
abbrev pub Settles : Next → Bool → Requests → Type 0
Settles next ended reader =
    ((left : Option (List ℕ)) → (ended ≡ true → IsAtEnd left)
    → Because next reader.given (reader.budget - reader.given) reader.held (stream reader left))
    × ((count : ℕ) → Counts next count count)

-- no request was given, for that reason
pub record Stops (next : Next) (old new : Requests) (left left' : Option (List ℕ)) (before now : ℕ) : Type 0 where
  pub stays : Stays old new left left'
  pub because : Because next old.given (old.budget - old.given) new.held (stream old left)
  pub count : Counts next before now

-- the bytes begin with a whole head that was judged: of so many bytes, and with a body of so many behind it
pub record HoldsHead (bytes : List ℕ) (found : WholeHead) : Type 0 where
  pub tree : RequestHead
  pub rest : List ℕ
  pub reads : ReadsRequest bytes tree rest
  pub long : found.size ≡ length (print_request tree)
  pub short : found.size ≤ HEAD_LIMIT
  pub is : found.head ≡ head_of tree
  pub framed : framing_of found.head ≡ Body found.body

-- how the reads of a body ended: it is full, the source is at its end, or a read failed
abbrev pub StopsFor : Stop → ℕ → ℕ → Option (List ℕ) → ℕ → ℕ → Type 0
StopsFor stop.Full count size left' before now = (count ≡ size) × (now ≡ before)
StopsFor stop.End count size left' before now = (count < size) × IsAtEnd left' × (now ≡ before)
StopsFor stop.ReadFault count size left' before now = (count < size) × Rose before now

-- a slice whose first bytes were there was filled further from the source
pub record FillsBehind (taken : Taken) (from : ℕ) (old new : List ℕ) (left left' : Option (List ℕ))
    (before now : ℕ) : Type 0 where
  pub front : take from new ≡ take from old
  pub bytes : Consumes left left' (drop from (take taken.count new))
  pub more : from ≤ taken.count
  pub fits : taken.count ≤ length new
  pub size : length new ≡ length old
  pub cause : StopsFor taken.stop taken.count (length new) left' before now

-- the answer where a body isn't whole, by why no more of it was read
abbrev pub body_stop : Stop → ℕ → Next
body_stop stop.Full left = Spent
body_stop stop.End left = Cut left
body_stop stop.ReadFault left = ReadFault

-- the reader after an answer that gives no request: it has ended
abbrev pub finished_reader : Next → Requests → Requests
finished_reader (Cut left) reader = record {
  held = reader.held;
  given = reader.given;
  taken = reader.given + length reader.held;
  budget = reader.budget;
  ended = true;
}
finished_reader Spent reader = record {
  held = reader.held;
  given = reader.given;
  taken = reader.budget;
  budget = reader.budget;
  ended = true;
}
finished_reader next reader = record {
  held = reader.held;
  given = reader.given;
  taken = reader.given;
  budget = reader.budget;
  ended = true;
}
