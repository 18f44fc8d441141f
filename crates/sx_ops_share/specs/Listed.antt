-- Which items List Shares lists.
use Rattle.std.specs.Prelude.{◌==◌, ◌&&◌, Bool, List, ℕ, Option}
use Rattle.std.specs.List.{starts_with}
use Rattle.sx_call.specs.declared.listings.SharesMarker.{SharesMarker}
use Rattle.sx_call.specs.declared.pages.ShareItem.{ShareItem}
use Rattle.sx_spec.specs.Pages.{is_from}

-- an item whose name begins with a prefix, and which isn't below a marker
abbrev pub is_listed : List ℕ → Option SharesMarker → ShareItem → Bool
is_listed prefix marker x = starts_with ◌==◌ x.name prefix && is_from marker x
