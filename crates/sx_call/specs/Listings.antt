-- The limit of what the calls that list ask for.
use Rattle.std.specs.Prelude.{ℕ, ◌&&◌, Bool, nat_le, List, length}
use Rattle.std.specs.Str.{is_utf8}
use Rattle.sx_call.specs.declared.listings.TheConstants.{QUERY_TEXT_LIMIT}

-- a prefix or a marker of a request
abbrev pub is_query_text : List ℕ → Bool
is_query_text text = is_utf8 text && nat_le (length text) QUERY_TEXT_LIMIT
