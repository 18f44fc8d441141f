-- A request that is spelled is read part by part.
use Rattle.std.proofs.Common.{◌≡◌, ℕ, true, false, List, [], ◌++◌, codes, is_some, Option, Some, None, Ok, refl}
use Rattle.std.specs.Prelude.{IfSome}
use Rattle.std.specs.Option.{option_map}
use Rattle.std.specs.Str.{is_utf8}
use Rattle.sx_http.specs.Lookup.{has_header, header_values}
use Rattle.sx_names.specs.Meta.{is_meta}
use Rattle.sx_names.specs.declared.meta_pair.MetaPair.{MetaPair}
use Rattle.sx_base.specs.Moment.{moment_text, IsWritten}
use Rattle.sx_call.specs.declared.calls.Call.{Call}
use Rattle.sx_decode.specs.declared.asked.Asked.{Asked}
use Rattle.sx_decode.specs.declared.forms.Row.{Row}
use Rattle.sx_decode.specs.declared.forms.Verb.{Verb}
use Rattle.sx_decode.specs.declared.targets.Place.{Place}
use Rattle.sx_decode.specs.Reading.{Reading, with_next}
use Rattle.sx_decode.specs.Lookup.{one_header}
use Rattle.sx_decode.specs.Metadata.{meta_of}
use Rattle.sx_decode.specs.Words.{is_word, is_word_in_blanks}
use Rattle.sx_decode.specs.Asked.{snapshot_named, snapshot_asked, or_empty, query_text, prefix_asked, page_size, page_asked, includes_snapshots, snapshots_asked, asked_of}
use Rattle.sx_decode.specs.Spelling.{verb_of, version_of, key_of, row_for, call_by_row, reading}
use Rattle.sx_heads.specs.Fields.{Field}
use Rattle.sx_heads.specs.Targets.{Query, path_text, asks}
use Rattle.sx_heads.specs.Spellings.{Spelling, ending, target_text, headers_spelled, request_of}
use Rattle.sx_heads.proofs.Lookups.{IsPlain, value_in, is_single, listed, one_is, has_is, values_are}
use Rattle.sx_heads.proofs.MetaFields.{are_others, metas_in, meta_back}
use Rattle.sx_heads.proofs.Paths.{IsPlace, place_back, path_lacks}
use Rattle.sx_heads.proofs.PlainTexts.{ascii_utf8, moment_ascii}
use Rattle.sx_heads.proofs.Queries.{params_of, cut_back, parameters_back, parameter_back}
use Rattle.sx_heads.proofs.ReadValues.{snapshot_back}

-- a header that is spelled is the field of its name
pub field_is : (n : List ℕ) (fields : List Field) (body : List ℕ) → IsPlain n → is_single n (fields ++ ending body) ≡ true → one_header n (headers_spelled fields body) ≡ Ok (value_in n (fields ++ ending body))
unfolding headers_spelled
field_is n fields body plain single = one_is n (fields ++ ending body) plain single

-- whether it is there, and its values
pub has_field : (n : List ℕ) (fields : List Field) (body : List ℕ) → IsPlain n → is_single n (fields ++ ending body) ≡ true → has_header n (headers_spelled fields body) ≡ is_some (value_in n (fields ++ ending body))
unfolding headers_spelled
has_field n fields body plain single = has_is n (fields ++ ending body) plain single

pub values_of_field : (n : List ℕ) (fields : List Field) (body : List ℕ) → IsPlain n → is_single n (fields ++ ending body) ≡ true → header_values n (headers_spelled fields body) ≡ listed (value_in n (fields ++ ending body))
unfolding headers_spelled
values_of_field n fields body plain single = values_are n (fields ++ ending body) plain single

-- metadata that is spelled is read
pub meta_is : (fields : List Field) (body : List ℕ) (ms : List MetaPair) → are_others (fields ++ ending body) ≡ true → metas_in (fields ++ ending body) ≡ ms → is_meta ms ≡ true → meta_of (headers_spelled fields body) ≡ Ok ms
unfolding headers_spelled
meta_is fields body ms e is m = meta_back (fields ++ ending body) ms e is m

-- the version stands once among the fields
abbrev pub HasVersion : List Field → List ℕ → Type 0
HasVersion fields body =
    (is_single (codes "x-ms-version") (fields ++ ending body) ≡ true)
    × (value_in (codes "x-ms-version") (fields ++ ending body) ≡ Some (codes "2020-10-02"))

version_back : (fields : List Field) (body : List ℕ) → HasVersion fields body → version_of (headers_spelled fields body) ≡ Ok true
unfolding version_of
version_back fields body h = rw (field_is (codes "x-ms-version") fields body (λ m. refl) h.0, h.1) refl

-- each given value of a query is a text
pub record AreTexts (q : Query) : Type 0 where
  pub restype : IfSome q.restype (λ v. is_utf8 v ≡ true)
  pub comp : IfSome q.comp (λ v. is_utf8 v ≡ true)
  pub snapshot : IfSome q.snapshot (λ v. is_utf8 v ≡ true)
  pub prefix : IfSome q.prefix (λ v. is_utf8 v ≡ true)
  pub marker : IfSome q.marker (λ v. is_utf8 v ≡ true)
  pub max : IfSome q.max (λ v. is_utf8 v ≡ true)
  pub include : IfSome q.include (λ v. is_utf8 v ≡ true)

-- what is asked by a query
abbrev pub asked_by : Query → Reading Asked
asked_by q =
    with_next (snapshot_named q.snapshot) (λ snapshot.
    with_next (query_text (codes "prefix") (or_empty q.prefix)) (λ prefix.
    with_next (page_size q.max) (λ max.
    Ok (record {
      restype = q.restype;
      comp = q.comp;
      snapshot = snapshot;
      prefix = prefix;
      marker = or_empty q.marker;
      max = max;
      snapshots = includes_snapshots (or_empty q.include);
    }))))

asked_back : (q : Query) → AreTexts q → asked_of (params_of q) ≡ asked_by q
unfolding asked_of snapshot_asked prefix_asked page_asked snapshots_asked
asked_back q h = rw (
  parameter_back (codes "restype") q refl refl h.restype,
  parameter_back (codes "comp") q refl refl h.comp,
  parameter_back (codes "sharesnapshot") q refl refl h.snapshot,
  parameter_back (codes "prefix") q refl refl h.prefix,
  parameter_back (codes "marker") q refl refl h.marker,
  parameter_back (codes "maxresults") q refl refl h.max,
  parameter_back (codes "include") q refl refl h.include,
) refl

-- a request is read as a call where its parts are
pub reads_as : (s : Spelling) (a : Asked) (verb : Verb) (named : Row) (call : Call)
    → verb_of s.method ≡ Ok verb → IsPlace s.at → AreTexts s.query → asked_by s.query ≡ Ok a → HasVersion s.fields s.body
    → row_for (key_of verb s.at a (headers_spelled s.fields s.body)) ≡ Ok named
    → call_by_row named s.at a (headers_spelled s.fields s.body) s.body ≡ Ok call
    → reading (request_of s) ≡ Ok call
unfolding reading request_of target_text
reads_as s a verb named call v p t q h r c = rw (
  v,
  version_back s.fields s.body h,
  cut_back (path_text s.at) s.query (path_lacks s.at),
  place_back s.at p,
  parameters_back (path_text s.at) s.query (path_lacks s.at),
  asked_back s.query t,
  q,
  r,
) c

-- what a query without a page asks
abbrev pub plain_asked : Option (List ℕ) → Option (List ℕ) → Option ℕ → Asked
plain_asked restype comp snap = record {
  restype = restype;
  comp = comp;
  snapshot = snap;
  prefix = [];
  marker = [];
  max = 5000;
  snapshots = false;
}

pub empty_text : is_utf8 [] ≡ true
empty_text = ascii_utf8 [] tt

pub no_words : includes_snapshots [] ≡ false
unfolding includes_snapshots is_word_in_blanks is_word
no_words = refl

pub moment_if : (snap : Option ℕ) → IfSome (option_map moment_text snap) (λ v. is_utf8 v ≡ true)
moment_if None = tt
moment_if (Some at) = ascii_utf8 (moment_text at) (moment_ascii at)

plain_texts : (restype comp : Option (List ℕ)) (snap : Option ℕ) → IfSome restype (λ v. is_utf8 v ≡ true) → IfSome comp (λ v. is_utf8 v ≡ true) → AreTexts (asks restype comp (option_map moment_text snap))
plain_texts restype comp snap r c = record { restype = r; comp = c; snapshot = moment_if snap; prefix = tt; marker = tt; max = tt; include = tt }

plain_back : (restype comp : Option (List ℕ)) (snap : Option ℕ) → IfSome snap IsWritten → asked_by (asks restype comp (option_map moment_text snap)) ≡ Ok (plain_asked restype comp snap)
unfolding query_text
plain_back restype comp snap h = rw (snapshot_back snap h, empty_text, no_words) refl

-- the same for a request whose query asks for no page
pub reads_plain : (method : List ℕ) (at : Place) (restype comp : Option (List ℕ)) (snap : Option ℕ) (fields : List Field) (body : List ℕ) (verb : Verb) (named : Row) (call : Call)
    → verb_of method ≡ Ok verb → IsPlace at → IfSome restype (λ v. is_utf8 v ≡ true) → IfSome comp (λ v. is_utf8 v ≡ true) → IfSome snap IsWritten → HasVersion fields body
    → row_for (key_of verb at (plain_asked restype comp snap) (headers_spelled fields body)) ≡ Ok named
    → call_by_row named at (plain_asked restype comp snap) (headers_spelled fields body) body ≡ Ok call
    → reading (request_of (record { method = method; at = at; query = asks restype comp (option_map moment_text snap); fields = fields; body = body })) ≡ Ok call
reads_plain method at restype comp snap fields body verb named call v p t u s h r c =
    reads_as (record { method = method; at = at; query = asks restype comp (option_map moment_text snap); fields = fields; body = body })
    (plain_asked restype comp snap) verb named call v p (plain_texts restype comp snap t u) (plain_back restype comp snap s) h r c
