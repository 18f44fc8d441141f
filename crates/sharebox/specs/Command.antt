-- What the program does by its words.
use Rattle.std.specs.Prelude.{ℕ, codes, ◌≡◌, ◌≤◌, ◌⊎◌, true, List, [], ◌∷◌, drop}
use Rattle.std.specs.Prelude.{Result, Ok, Err}
use Rattle.std.specs.List.{AllByRecursion}
use mathlib.Core.List.{IsPrefix}
use Rattle.sx_base.specs.Causes.{Rose}
use Rattle.sx_base.specs.Sides.{Sides}
use Rattle.sx_call.specs.declared.calls.Call.{Call}
use Rattle.sx_call.specs.declared.calls.Call.TheVariants.{CreateShare}
use Rattle.sx_call.specs.declared.entries.Entry.{Entry}
use Rattle.sx_call.specs.declared.entries.Noted.{Noted}
use Rattle.sx_names.specs.Names.{is_share_name}
use Rattle.sx_spec.specs.History.{IsHistory}
use Rattle.sx_book.specs.History.{History}
use Rattle.sx_book.specs.Passes.{with_noted}
use Rattle.sx_book.specs.declared.report.ConnReport.{ConnReport}
use Rattle.sx_rest_door.specs.Conversation.{RestLinkState}
use Rattle.sx_run.specs.Crews.{Told}
use Rattle.sx_run.specs.Doors.{Telling}
use Rattle.sx_run.specs.Words.{IsServe, IsNoServe}
use Rattle.sx_book.specs.Reports.{HasPrefix, HasText}
use Rattle.sx_smb_door.specs.Conversation.{SessionConversation, SessionLinkState, SessionVisit}
use Rattle.sx_tool.specs.Tools.{Streams, Signs, Checks}
use Rattle.sx_tool.specs.Typed.{IsSign, IsCheck, IsUnknown}
use Rattle.sharebox.specs.declared.command.Command.{Command}
use Rattle.sharebox.specs.declared.command.Command.TheVariants as command
use Rattle.sharebox.specs.declared.run.TheConstants.{SHARE_QUOTA, LOOPBACK}
use Rattle.sharebox.specs.Conn.{IsConn, IsNoConn, IsConnRun}
use Rattle.sharebox.specs.Limits.{history_limit, session_caller, input_budget, status_after_close}
use Rattle.sharebox.specs.Serve.{IsServeRun, ports_of}

-- the words are `session SHARE`
abbrev pub IsSession : List (List ℕ) → List ℕ → Type 0
IsSession words share = (words ≡ codes "session" ∷ share ∷ []) × (is_share_name share ≡ true)

-- the words are `session SHARE` for no share
abbrev pub IsNoSession : List (List ℕ) → Type 0
IsNoSession words = (share : List ℕ) → IsSession words share → ⊥

-- the words are this command
abbrev pub IsCommand : Command → List (List ℕ) → Type 0
IsCommand (command.Session share) words = IsSession words share
IsCommand (command.Conn account) words = IsConn words account
IsCommand (command.Serve serve) words = IsServe words serve
IsCommand (command.Sign account) words = IsSign words account
IsCommand (command.Check account now) words = IsCheck words account now

-- the words are no command
pub record IsNoCommand (words : List (List ℕ)) : Type 0 where
  pub no_session : IsNoSession words
  pub no_conn : IsNoConn words
  pub no_serve : IsNoServe words
  pub no_tool : IsUnknown words

-- what is written where the words are no command
abbrev pub refusal_line : List ℕ
refusal_line = codes "words refused\n"

-- the GiB of the session's share
abbrev pub share_quota : ℕ
share_quota = SHARE_QUOTA

-- 127.0.0.1
abbrev pub loopback : ℕ
loopback = LOOPBACK

-- the call that makes the session's share, without metadata
abbrev pub making : List ℕ → Call
making share = CreateShare (record { share = share; quota = share_quota; meta = [] })

-- the program's own Create Share
abbrev pub creation : List ℕ → ℕ → Entry
creation share moment = record { who = 0; session = 0; at = moment; fresh = 0; call = making share }

-- the program's input and output, its clock, its random source and the listeners of both doors, before or after a run
pub record Outside (K C R L : Type 0) : Type 0 where
  pub sides : Sides
  pub out : K
  pub clock : C
  pub random : R
  pub rest : L
  pub smb : L

-- both listeners are as they were
abbrev pub KeepsListeners : {K C R L : Type 0} → Outside K C R L → Outside K C R L → Type 0
KeepsListeners old new = (new.rest ≡ old.rest) × (new.smb ≡ old.smb)

-- the streams of a command over a head
abbrev pub streams_of : {K C R L : Type 0} → Outside K C R L → Streams K
streams_of o = record { sides = o.sides; out = o.out }

-- the link of a session, with its clock
abbrev pub link_of : {K C R L : Type 0} → Outside K C R L → SessionLinkState C
link_of o = record { sides = o.sides; clock = o.clock }

-- the link of a connection, with its clock and random source
abbrev pub conn_link_of : {K C R L : Type 0} → Outside K C R L → RestLinkState C R
conn_link_of o = record { sides = o.sides; clock = o.clock; random = o.random }

-- the words are no command: the refusal was written, or a prefix of it where the write failed; nothing was read
pub record RefusesWords {K C R L : Type 0} (wrote : K → List ℕ → Type 0) (words : List (List ℕ))
    (old new : Outside K C R L) (status : ℕ) : Type 0 where
  pub unknown : IsNoCommand words
  pub status_is : status ≡ 1
  pub kept : new ≡ record old { sides = record old.sides { writes = new.sides.writes }; out = new.out }
  pub written : HasText (wrote old.out) (wrote new.out) refusal_line
      ⊎ (HasPrefix (wrote old.out) (wrote new.out) refusal_line × Rose old.sides.writes new.sides.writes)

-- no memory was left to read the words: nothing was read or written
pub record LacksMemory {K C R L : Type 0} (old new : Outside K C R L) (status : ℕ) : Type 0 where
  pub status_is : status ≡ 5
  pub same : new ≡ old

-- no memory was left before the session, or the office gave no pass for it: nothing was read or written
pub record IsNotServed {C : Type 0} (wrote wrote' : List ℕ → Type 0) (old new : SessionLinkState C) (status : ℕ)
    : Type 0 where
  pub status_is : status ≡ 5
  pub unread : new.sides ≡ old.sides
  pub written : HasText wrote wrote' []

-- the history with its share made, and nothing else
abbrev pub first_history : List ℕ → ℕ → List Noted
first_history share moment = with_noted [] (creation share moment)

-- the program's history of these entries: it begins with the program's own Create Share, and is legal
pub record IsProgramHistory (share : List ℕ) (moment : ℕ) (entries : List Noted) : Type 0 where
  pub opening : IsPrefix (first_history share moment) entries
  pub legal : IsHistory history_limit entries

-- the program's session in the history of these entries, of which it had seen the first
abbrev pub session_visit : List Noted → SessionVisit
session_visit entries = record {
  who = session_caller;
  peer = loopback;
  budget = input_budget;
  history = record { entries = entries; limit = history_limit };
  from = 1;
}

-- how the office was closed: its book is the history of these entries, of which all behind the first are those of the
-- session's caller; or it could not be closed, since so many passes were out
abbrev pub Closes : Result History ℕ → List Noted → Type 0
Closes (Ok book) entries =
    (book ≡ record { entries = entries; limit = history_limit })
    × AllByRecursion (λ n. n.entry.who ≡ session_caller) (drop 1 entries)
Closes (Err out) entries = 1 ≤ out

-- the share was made at a moment, the session was served behind that, and the office closed, all in one history
pub record IsServed {C : Type 0} (ticks : C → ℕ → C → Type 0) (share : List ℕ) (wrote wrote' : List ℕ → Type 0)
    (old new : SessionLinkState C) (status : ℕ) : Type 0 where
  pub moment : ℕ
  pub began : C
  pub made : ticks old.clock moment began
  pub entries : List Noted
  pub history : IsProgramHistory share moment entries
  pub report : ConnReport
  pub conversation : SessionConversation ticks wrote wrote' (session_visit entries) (record old { clock = began }) new
      report
  pub closed : Result History ℕ
  pub closing : Closes closed entries
  pub status_is : status ≡ status_after_close closed report

-- what a session on a share does, with the share made before it
abbrev pub IsSessionRun : {C : Type 0} → (C → ℕ → C → Type 0) → List ℕ → (List ℕ → Type 0) → (List ℕ → Type 0)
    → SessionLinkState C → SessionLinkState C → ℕ → Type 0
IsSessionRun ticks share wrote wrote' old new status =
    IsNotServed wrote wrote' old new status ⊎ IsServed ticks share wrote wrote' old new status

-- what a command does; all but the service leave the listeners, a session leaves the random source, and one over a head
-- leaves the clock, too
abbrev pub IsRunOf : {K C R L Q : Type 0} → Command → (K → List ℕ → Type 0) → (C → ℕ → C → Type 0)
    → (R → ℕ → R → Type 0) → (L → Told Q) → Telling Q → Outside K C R L → Outside K C R L → ℕ → Type 0
IsRunOf (command.Session share) wrote ticks draws told tells old new status =
    KeepsListeners old new × (new.random ≡ old.random)
    × IsSessionRun ticks share (wrote old.out) (wrote new.out) (link_of old) (link_of new) status
IsRunOf (command.Conn account) wrote ticks draws told tells old new status =
    KeepsListeners old new
    × IsConnRun wrote ticks draws account old.out new.out (conn_link_of old) (conn_link_of new) status
IsRunOf (command.Serve serve) wrote ticks draws told tells old new status =
    (new.sides ≡ record old.sides { writes = new.sides.writes })
    × IsServeRun ticks draws tells serve (wrote old.out) (wrote new.out)
    (ports_of told old.rest old.smb old.sides.writes) (ports_of told new.rest new.smb new.sides.writes) status
IsRunOf (command.Sign account) wrote ticks draws told tells old new status =
    KeepsListeners old new × (new.random ≡ old.random) × (new.clock ≡ old.clock)
    × Signs wrote account (streams_of old) (streams_of new) status
IsRunOf (command.Check account now) wrote ticks draws told tells old new status =
    KeepsListeners old new × (new.random ≡ old.random) × (new.clock ≡ old.clock)
    × Checks wrote account now (streams_of old) (streams_of new) status

-- what the program does by its words
abbrev pub Runs : {K C R L Q : Type 0} → (K → List ℕ → Type 0) → (C → ℕ → C → Type 0) → (R → ℕ → R → Type 0)
    → (L → Told Q) → Telling Q → List (List ℕ) → Outside K C R L → Outside K C R L → ℕ → Type 0
Runs wrote ticks draws told tells words old new status =
    RefusesWords wrote words old new status ⊎ LacksMemory old new status
    ⊎ (command : Command) × IsCommand command words × IsRunOf command wrote ticks draws told tells old new status
