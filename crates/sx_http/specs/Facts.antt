-- What the answer to a refused request needs to know of its head.
use Rattle.std.specs.Prelude.{ℕ, Bool, false, List, nat_eq, bytes_eq, codes, if◌then◌else◌, Option, Some, None}
use Rattle.std.specs.List.{find, count_by}
use Rattle.sx_http.specs.Lookup.{is_named}
use Rattle.sx_http.specs.declared.heads.Header.{Header}
use Rattle.sx_http.specs.declared.heads.Head.{Head}
use Rattle.sx_http.specs.declared.facts.Version.{Version}
use Rattle.sx_http.specs.declared.facts.Version.TheVariants.{V20201002, V20210410}
use Rattle.sx_http.specs.declared.facts.HeadFacts.{HeadFacts}

-- a version of the service that is known
abbrev pub known_version : List ℕ → Option Version
known_version v =
    if bytes_eq v (codes "2020-10-02") then Some V20201002
    else if bytes_eq v (codes "2021-04-10") then Some V20210410
    else None

-- the version that a header names, where there is one
abbrev pub version_by : Option Header → Option Version
version_by None = None
version_by (Some h) = known_version h.value

-- the version that a head asks for, where it asks once and the version is known
abbrev pub version_of : List Header → Option Version
version_of headers =
    if nat_eq (count_by (is_named (codes "x-ms-version")) headers) 1
    then version_by (find (is_named (codes "x-ms-version")) headers)
    else None

-- what the answer to a refusal needs of a whole head
abbrev pub facts_of : Head → HeadFacts
facts_of head = record { head_only = bytes_eq head.method (codes "HEAD"); version = version_of head.headers }

-- and where no head is whole
abbrev pub no_facts : HeadFacts
no_facts = record { head_only = false; version = None }
