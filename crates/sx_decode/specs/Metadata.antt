-- Metadata in headers.
use Rattle.std.specs.Prelude.{ℕ, ◌++◌, nat_eq, Bool, List, [], ◌∷◌, map, drop, codes, if◌then◌else◌, Ok, Err}
use Rattle.std.specs.Borrow.{Bor}
use Rattle.std.specs.List.{filter, flat_map, starts_with}
use Rattle.std.specs.Ordering.{nat_cmp, match_ordering}
use Rattle.std.specs.Cmp.Lexicographic.{slice_cmp}
use Rattle.std.specs.BTreeSet.{insert_key}
use Rattle.sx_http.specs.Lookup.{header_values}
use Rattle.sx_http.specs.declared.heads.Header.{Header}
use Rattle.sx_names.specs.Header.{is_header_text}
use Rattle.sx_names.specs.Meta.{is_meta}
use Rattle.sx_names.specs.MetaPair.{is_meta_name}
use Rattle.sx_names.specs.declared.meta_pair.MetaPair.{MetaPair}
use Rattle.sx_call.specs.declared.refusals.Syntax.TheVariants.{Header as BadHeader}
use Rattle.sx_decode.specs.Reading.{Reading, with_next}

-- the header's name begins with `x-ms-meta-`
abbrev pub is_meta_header : Header → Bool
is_meta_header h = starts_with nat_eq h.name (codes "x-ms-meta-")

-- names put among others, each once and in the order of their bytes
abbrev pub put_in_order : List (List ℕ) → List (List ℕ) → List (List ℕ)
put_in_order names [] = names
put_in_order names (name ∷ more) = put_in_order (insert_key (slice_cmp nat_cmp) names name) more

-- the names of headers, each once and in order
abbrev pub header_names : List Header → List (List ℕ)
header_names headers = put_in_order [] (map (λ (h : Header). h.name) headers)

-- the names of the headers of metadata, each once and in order
abbrev pub meta_header_names : List Header → List (List ℕ)
meta_header_names headers = header_names (filter is_meta_header headers)

-- values in a row, each but the first behind a comma
abbrev pub joined : List (List ℕ) → List ℕ
joined [] = []
joined (value ∷ values) = value ++ flat_map (λ v. 44 ∷ v) values

-- names, each with the values of its headers in the order received, joined by commas
abbrev pub named_values : List Header → List (List ℕ) → List (List ℕ × List ℕ)
named_values headers names = map (λ name. (name, joined (header_values name headers))) names

-- names in order with their values, and one more value: behind a comma where its name is there
abbrev pub put_value : List (List ℕ × List ℕ) → List ℕ → List ℕ → List (List ℕ × List ℕ)
put_value [] name value = (name, value) ∷ []
put_value (e ∷ es) name value =
    match_ordering (slice_cmp nat_cmp name e.0)
    ((name, value) ∷ e ∷ es)
    ((e.0, e.1 ++ 44 ∷ value) ∷ es)
    (e ∷ put_value es name value)

-- the names and values of a map whose names are lent
abbrev pub lent_values : List (Bor (List ℕ) × List ℕ) → List (List ℕ × List ℕ)
lent_values es = map (λ e. (e.0.now, e.1)) es

-- a name with its value, whose header is refused where a header can't carry that
abbrev pub value_read : List ℕ → List ℕ → List ℕ → Reading MetaPair
value_read header name value =
    if is_header_text value then Ok (record { name = name; value = value }) else Err (BadHeader header)

-- what a header `x-ms-meta-NAME` with this value says: NAME with the value, and the header is refused where NAME isn't
-- one of metadata, or the value none of a header
abbrev pub pair_read : List ℕ → List ℕ → Reading MetaPair
pair_read header value =
    if is_meta_name (drop 10 header) then value_read header (drop 10 header) value else Err (BadHeader header)

-- the pairs with the next one, whose header is refused where they are too many or too long then
abbrev pub with_pair : List ℕ → List MetaPair → MetaPair → Reading (List MetaPair)
with_pair name pairs pair = if is_meta (pairs ++ pair ∷ []) then Ok (pairs ++ pair ∷ []) else Err (BadHeader name)

-- the pairs with what the headers of a name say, whose values joined are this one
abbrev pub with_value : List MetaPair → List ℕ → List ℕ → Reading (List MetaPair)
with_value pairs name value = with_next (pair_read name value) (with_pair name pairs)

-- the pairs of names with their values, behind pairs that were read
abbrev pub pairs_of : List MetaPair → List (List ℕ × List ℕ) → Reading (List MetaPair)
pairs_of pairs [] = Ok pairs
pairs_of pairs (e ∷ es) = with_next (with_value pairs e.0 e.1) (λ more. pairs_of more es)

-- the metadata that headers give, in order of name
unfoldable pub meta_of : List Header → Reading (List MetaPair)
meta_of headers = pairs_of [] (named_values headers (meta_header_names headers))
