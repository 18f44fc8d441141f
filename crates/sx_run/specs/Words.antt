-- The words of the command `serve`.
use Rattle.std.specs.Prelude.{ℕ, ◌≡◌, ◌≤◌, ◌<◌, ◌^◌, List, [], ◌∷◌, codes, decimal}
use Rattle.sx_tool.specs.Typed.{IsAccount}
use Rattle.sx_run.specs.declared.words.TheConstants.{MOST_WORKERS}
use Rattle.sx_run.specs.declared.words.ServeWords.{ServeWords}

-- the most workers of a door
abbrev pub most_workers : ℕ
most_workers = MOST_WORKERS

-- a door's workers are this many
abbrev pub IsCrewSize : ℕ → Type 0
IsCrewSize workers = (1 ≤ workers) × (workers ≤ most_workers)

-- the words are `serve RESTPORT SMBPORT RESTWORKERS SMBWORKERS CONNS LIMIT ACCOUNT KEY`, with numbers in decimal digits
-- without leading zeros and within their limits
pub record IsServe (words : List (List ℕ)) (serve : ServeWords) : Type 0 where
  pub name : List ℕ
  pub key : List ℕ
  pub are : words
      ≡ codes "serve" ∷ decimal serve.rest_port ∷ decimal serve.smb_port ∷ decimal serve.rest_workers
      ∷ decimal serve.smb_workers ∷ decimal serve.conns ∷ decimal serve.limit ∷ name ∷ key ∷ []
  pub rest : IsCrewSize serve.rest_workers
  pub smb : IsCrewSize serve.smb_workers
  pub ports : (serve.rest_port < 2 ^ 16) × (serve.smb_port < 2 ^ 16)
  pub conns : serve.conns < 2 ^ 32
  pub limit : (1 ≤ serve.limit) × (serve.limit < 2 ^ 32)
  pub account : IsAccount name key serve.account

-- the words are no `serve`
abbrev pub IsNoServe : List (List ℕ) → Type 0
IsNoServe words = (serve : ServeWords) → ¬ (IsServe words serve)
