-- What each door says over a link.
use Rattle.std.specs.Prelude.{ℕ, List, Option}
use Rattle.sx_base.specs.Sides.{Sides}
use Rattle.sx_key.specs.declared.account.Account.{Account}
use Rattle.sx_rest_door.specs.Conversation as rest
use Rattle.sx_smb_door.specs.Conversation as smb
use Rattle.sx_run.specs.Visits.{Talks}
use Rattle.sx_run.specs.declared.worker.TheConstants.{LINK_BUDGET}

-- how many bytes of one link may be taken
abbrev pub link_budget : ℕ
link_budget = LINK_BUDGET

-- what links of a type tell: what was written, the peer, the bytes left, the counts of failed reads and writes, and
-- what calls of read and put alone may make of one
pub record Telling (K : Type 0) : Type 1 where
  pub wrote : K → List ℕ → Type 0
  pub peer : K → ℕ
  pub left : K → Option (List ℕ)
  pub reads : K → ℕ
  pub writes : K → ℕ
  pub calls : K → K → Type 0

-- both sides of a link
abbrev pub sides_of : {K : Type 0} → Telling K → K → Sides
sides_of tells link = record { left = tells.left link; reads = tells.reads link; writes = tells.writes link }

-- the session door: the conversation of its peer's session, at moments of its clock
abbrev pub smb_talks : {K C : Type 0} → (C → ℕ → C → Type 0) → Telling K → Talks K C
smb_talks ticks tells s old new report =
    smb.SessionConversation ticks (tells.wrote old.link) (tells.wrote new.link)
    (record { who = s.who; peer = tells.peer old.link; budget = link_budget; history = s.history; from = s.from })
    (record { sides = sides_of tells old.link; clock = old.door })
    (record { sides = sides_of tells new.link; clock = new.door }) report × tells.calls old.link new.link

-- what a worker of the REST door has of its own
pub record Tools (C W : Type 0) : Type 0 where
  pub clock : C
  pub random : W

-- the REST door: the conversation of signed requests, at moments of its clock and with random words
abbrev pub rest_talks : {K C W : Type 0} → (C → ℕ → C → Type 0) → (W → ℕ → W → Type 0) → Telling K → Account
    → Talks K (Tools C W)
rest_talks ticks draws tells account s old new report =
    rest.RestConversation ticks draws (tells.wrote old.link) (tells.wrote new.link)
    (record { who = s.who; account = account; budget = link_budget; history = s.history; from = s.from })
    (record { sides = sides_of tells old.link; clock = old.door.clock; random = old.door.random })
    (record { sides = sides_of tells new.link; clock = new.door.clock; random = new.door.random }) report
    × tells.calls old.link new.link
