-- What the query of a request asks for.
use Rattle.std.specs.Prelude.{ℕ, ◌==◌, Bool, true, List, [], codes, min, nat_eq}
use Rattle.std.specs.Prelude.{if◌then◌else◌, Option, Some, None, Ok, Err}
use Rattle.std.specs.List.{slice_split, list_any}
use Rattle.sx_names.specs.declared.page.TheConstants.{MAX_RESULTS}
use Rattle.sx_call.specs.Listings.{is_query_text}
use Rattle.sx_call.specs.declared.refusals.Syntax.TheVariants.{Query, Range}
use Rattle.sx_decode.specs.declared.asked.Asked.{Asked}
use Rattle.sx_decode.specs.declared.parameters.Parameter.{Parameter}
use Rattle.sx_decode.specs.Reading.{Reading, with_next}
use Rattle.sx_decode.specs.Numbers.{number_of}
use Rattle.sx_decode.specs.Words.{is_word_in_blanks}
use Rattle.sx_decode.specs.Moments.{moment_of}
use Rattle.sx_decode.specs.Parameters.{one_parameter}

-- the moment that a text of sharesnapshot names
abbrev pub snapshot_moment : Option ℕ → Reading (Option ℕ)
snapshot_moment None = Err (Query (codes "sharesnapshot"))
snapshot_moment (Some moment) = Ok (Some moment)

-- the moment of a snapshot, where one is named
abbrev pub snapshot_named : Option (List ℕ) → Reading (Option ℕ)
snapshot_named None = Ok None
snapshot_named (Some text) = snapshot_moment (moment_of text)

-- sharesnapshot: a moment's text
unfoldable pub snapshot_asked : List Parameter → Reading (Option ℕ)
snapshot_asked ps = with_next (one_parameter (codes "sharesnapshot") ps) snapshot_named

-- a text, or the empty one where none is given
abbrev pub or_empty : Option (List ℕ) → List ℕ
or_empty None = []
or_empty (Some text) = text

-- a text of at most 4,096 bytes
unfoldable pub query_text : List ℕ → List ℕ → Reading (List ℕ)
query_text name text = if is_query_text text then Ok text else Err (Query name)

-- prefix: a text of at most 4,096 bytes, empty where it is absent
unfoldable pub prefix_asked : List Parameter → Reading (List ℕ)
prefix_asked ps = with_next (one_parameter (codes "prefix") ps) (λ text. query_text (codes "prefix") (or_empty text))

-- so many results, but no more than a page has
unfoldable pub limited_page : Option ℕ → Reading ℕ
limited_page None = Err (Query (codes "maxresults"))
limited_page (Some n) = if nat_eq n 0 then Err (Range (codes "maxresults")) else Ok (min n MAX_RESULTS)

-- the results of a page: as many as it has where none are asked for
abbrev pub page_size : Option (List ℕ) → Reading ℕ
page_size None = Ok MAX_RESULTS
page_size (Some text) = limited_page (number_of text)

-- maxresults
unfoldable pub page_asked : List Parameter → Reading ℕ
page_asked ps = with_next (one_parameter (codes "maxresults") ps) page_size

-- `,`
abbrev pub is_comma : ℕ → Bool
is_comma b = b == 44

-- a word of include that asks for snapshots, with blanks round it
abbrev pub asks_snapshots : List ℕ → Bool
asks_snapshots word = is_word_in_blanks true (codes "snapshots") word

-- the words of include, parted by commas; those but `snapshots` are passed over
unfoldable pub includes_snapshots : List ℕ → Bool
includes_snapshots text = list_any asks_snapshots (slice_split is_comma text)

-- include
unfoldable pub snapshots_asked : List Parameter → Reading Bool
snapshots_asked ps = with_next (one_parameter (codes "include") ps) (λ text. Ok (includes_snapshots (or_empty text)))

-- the known names, each read in this order
unfoldable pub asked_of : List Parameter → Reading Asked
asked_of ps =
    with_next (one_parameter (codes "restype") ps) (λ restype.
    with_next (one_parameter (codes "comp") ps) (λ comp.
    with_next (snapshot_asked ps) (λ snapshot.
    with_next (prefix_asked ps) (λ prefix.
    with_next (one_parameter (codes "marker") ps) (λ marker.
    with_next (page_asked ps) (λ max.
    with_next (snapshots_asked ps) (λ snapshots.
    Ok (record {
      restype = restype;
      comp = comp;
      snapshot = snapshot;
      prefix = prefix;
      marker = or_empty marker;
      max = max;
      snapshots = snapshots;
    }))))))))
