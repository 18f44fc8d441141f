-- What `serve ..` does: it serves the links of two listeners, requests at one and sessions at the other.
use Rattle.std.specs.Prelude.{ℕ, List}
use Rattle.sx_run.specs.Crews.{Told}
use Rattle.sx_run.specs.Doors.{Telling, rest_talks, smb_talks}
use Rattle.sx_run.specs.Serving.{Ports, Serves}
use Rattle.sx_run.specs.declared.words.ServeWords.{ServeWords}

-- what two listeners tell, beside the output's count of failed writes
abbrev pub ports_of : {L Q : Type 0} → (L → Told Q) → L → L → ℕ → Ports Q
ports_of told rest smb writes = record { rest = told rest; smb = told smb; writes = writes }

-- what the service of these words does: the requests at one port are signed for its account
abbrev pub IsServeRun : {C R Q : Type 0} → (C → ℕ → C → Type 0) → (R → ℕ → R → Type 0) → Telling Q → ServeWords
    → (List ℕ → Type 0) → (List ℕ → Type 0) → Ports Q → Ports Q → ℕ → Type 0
IsServeRun ticks draws tells serve wrote wrote' old new status =
    Serves (rest_talks ticks draws tells serve.account) (smb_talks ticks tells) serve wrote wrote' old new status
