-- The target of a request: its path, and its query.
use Rattle.std.specs.Prelude.{ℕ, ◌==◌, ◌++◌, if◌then◌else◌, List, [], ◌∷◌, length, codes, Option, Some, None}
use Rattle.std.specs.List.{flat_map}
use Rattle.sx_decode.specs.declared.targets.Place.{Place}
use Rattle.sx_decode.specs.declared.targets.Place.TheVariants.{Account, Inside}
use Rattle.sx_heads.specs.Values.{escaped}

-- a part of a path, behind its slash
abbrev pub slashed : List ℕ → List ℕ
slashed part = 47 ∷ escaped part

-- `/` for the account, else the share and the parts, each percent-encoded behind a slash
unfoldable pub path_text : Place → List ℕ
path_text Account = codes "/"
path_text (Inside at) = slashed at.share ++ flat_map slashed at.path

-- what is asked in a query, in the order in which it is written
pub record Query : Type 0 where
  pub restype : Option (List ℕ)
  pub comp : Option (List ℕ)
  pub snapshot : Option (List ℕ)
  pub prefix : Option (List ℕ)
  pub marker : Option (List ℕ)
  pub max : Option (List ℕ)
  pub include : Option (List ℕ)

-- `?` before the first parameter, `&` before each other one
abbrev pub separator : List ℕ → ℕ
separator query = if length query == 0 then 63 else 38

-- a query with one more parameter, `NAME=VALUE` with the value percent-encoded, where a value is given
abbrev pub with_parameter : List ℕ → List ℕ → Option (List ℕ) → List ℕ
with_parameter query name None = query
with_parameter query name (Some value) = query ++ separator query ∷ name ++ 61 ∷ escaped value

-- the query from its `?` on
unfoldable pub query_text : Query → List ℕ
query_text q =
    with_parameter (with_parameter (with_parameter (with_parameter (with_parameter (with_parameter (with_parameter []
    (codes "restype") q.restype) (codes "comp") q.comp) (codes "sharesnapshot") q.snapshot) (codes "prefix") q.prefix)
    (codes "marker") q.marker) (codes "maxresults") q.max) (codes "include") q.include

-- a query with restype, comp and a snapshot, where they are given
abbrev pub asks : Option (List ℕ) → Option (List ℕ) → Option (List ℕ) → Query
asks restype comp snapshot = record {
  restype = restype;
  comp = comp;
  snapshot = snapshot;
  prefix = None;
  marker = None;
  max = None;
  include = None;
}

-- a query for a page of a list
abbrev pub with_page : Query → Option (List ℕ) → Option (List ℕ) → List ℕ → Option (List ℕ) → Query
with_page q prefix marker max include = record q {
  prefix = prefix;
  marker = marker;
  max = Some max;
  include = include;
}
