-- Pages of the listings of shares and of handles.
use Rattle.std.specs.Prelude.{ℕ, ◌==◌, ◌&&◌, ◌||◌, Bool, true, false, not, nat_lt, if◌then◌else◌, List}
use Rattle.std.specs.Prelude.{[], ◌∷◌, ◌++◌, filter, map, flat_map, take, drop, bytes_eq, codes, Option, Some, None}
use Rattle.std.specs.Prelude.{option_map, unwrap_or}
use Rattle.std.specs.List.{starts_with}
use Rattle.std.specs.Ordering.{nat_cmp, is_lt}
use Rattle.std.specs.Cmp.Lexicographic.{slice_cmp}
use Rattle.sx_base.specs.Moment.{moment_text}
use Rattle.sx_guard.specs.Handle.{handle_before}
use Rattle.sx_guard.specs.Ordered.{insert_by}
use Rattle.sx_guard.specs.Handle.{Handle}
use Rattle.sx_call.specs.declared.listings.SharesMarker.{SharesMarker}
use Rattle.sx_call.specs.declared.opens.Open.{Open}
use Rattle.sx_moment.specs.Moments.{second_of}
use Rattle.sx_call.specs.declared.pages.HandleItem.{HandleItem}
use Rattle.sx_call.specs.declared.pages.HandlesPage.{HandlesPage}
use Rattle.sx_call.specs.declared.pages.ShareItem.{ShareItem}
use Rattle.sx_call.specs.declared.pages.SharesPage.{SharesPage}
use Rattle.sx_tree.specs.Tree.{Nodes, node_at}
use Rattle.sx_tree.specs.Climbs.{path_of, is_under}
use Rattle.sx_tree.specs.declared.share.Share.{Share}
use Rattle.sx_tree.specs.declared.share.Snapshot.{Snapshot}
use Rattle.sx_spec.specs.Account.{Store, peer_of}

-- Shares, in order of name, each before its snapshots, which are in order of moment.

-- whether a text comes before another, byte by byte
abbrev pub text_before : List ℕ → List ℕ → Bool
text_before a b = is_lt (slice_cmp nat_cmp a b)

-- whether a share's name comes before another's
abbrev pub name_before : Share → Share → Bool
name_before a b = text_before a.name b.name

-- the shares in order of name
abbrev pub by_name : List (ℕ × Share) → List Share
by_name [] = []
by_name (x ∷ xs) = insert_by name_before x.1 (by_name xs)

-- a share in the listing
abbrev pub share_item : Share → ShareItem
share_item x = record { name = x.name; snapshot = None; changed = second_of x.changed; etag = x.etag; quota = x.quota }

-- a snapshot of a share of a name in the listing
abbrev pub snapshot_item : List ℕ → Snapshot → ShareItem
snapshot_item name x =
    record { name = name; snapshot = Some x.moment; changed = second_of x.changed; etag = x.etag; quota = x.quota }

-- a share, and its snapshots where they are asked for
abbrev pub items_of : Bool → Share → List ShareItem
items_of snapshots x = share_item x ∷ (if snapshots then map (snapshot_item x.name) x.snapshots else [])

-- whether a share as it stands, or its snapshot of a moment, comes before another of the same name
abbrev pub moment_before : Option ℕ → Option ℕ → Bool
moment_before at None = false
moment_before None (Some moment) = true
moment_before (Some at) (Some moment) = nat_lt at moment

-- whether an item isn't below a marker: by name, then by moment
abbrev pub is_from : Option SharesMarker → ShareItem → Bool
is_from None x = true
is_from (Some m) x =
    text_before m.share x.name || (bytes_eq m.share x.name && not (moment_before x.snapshot m.snapshot))

-- the marker that names a share of a name, or its snapshot of a moment
abbrev pub marker_at : List ℕ → Option ℕ → List ℕ
marker_at name None = name
marker_at name (Some moment) = name ++ codes "@" ++ moment_text moment

-- the text of a marker, empty where there is none
abbrev pub marker_text : Option SharesMarker → List ℕ
marker_text None = []
marker_text (Some m) = marker_at m.share m.snapshot

-- the marker of the next page's first item, empty where there is none
abbrev pub next_share : List ShareItem → List ℕ
next_share [] = []
next_share (x ∷ xs) = marker_at x.name x.snapshot

-- the items from a marker on whose names begin with a prefix
abbrev pub share_items : Store → List ℕ → Option SharesMarker → Bool → List ShareItem
share_items s prefix marker snapshots =
    filter (λ x. starts_with ◌==◌ x.name prefix && is_from marker x) (flat_map (items_of snapshots) (by_name s.shares))

-- the first so many of them, with the marker of what follows
unfoldable pub shares_page : Store → List ℕ → Option SharesMarker → ℕ → Bool → SharesPage
shares_page s prefix marker max snapshots =
    let items = share_items s prefix marker snapshots in
    record {
      prefix =
          prefix;
      marker = marker_text marker;
      max = max;
      items = take max items;
      next = next_share (drop max items);
    }

-- Handles, in order.

-- whether an open is on a node, or below it where the call is recursive
abbrev pub is_in_scope : Nodes → ℕ → Bool → Open → Bool
is_in_scope t id recursive o = o.node == id || (recursive && is_under t id o.node)

-- the opens in a call's scope
abbrev pub scope : Store → Nodes → ℕ → Bool → List Open
scope s t id recursive = filter (is_in_scope t id recursive) s.opens

-- whether an open isn't below a marker
abbrev pub is_from_handle : Option Handle → Open → Bool
is_from_handle None o = true
is_from_handle (Some marker) o = not (handle_before o.handle marker)

-- an open in the listing
abbrev pub handle_item : Store → Nodes → Open → HandleItem
handle_item s t o = record {
  handle = o.handle;
  path = path_of t o.node;
  id = o.node;
  parent = unwrap_or (option_map (λ n. n.parent) (node_at t o.node)) 0;
  session = o.handle.session;
  peer = peer_of s o.handle.session;
  at = o.at;
}

-- the handle of the next page's first item
abbrev pub next_handle : List Open → Option Handle
next_handle [] = None
next_handle (o ∷ os) = Some o.handle

-- the first so many opens from a marker on, with the handle of what follows
unfoldable pub handles_page : Store → Nodes → ℕ → Option Handle → ℕ → Bool → HandlesPage
handles_page s t id marker max recursive =
    let opens = filter (is_from_handle marker) (scope s t id recursive) in
    record { items = map (handle_item s t) (take max opens); next = next_handle (drop max opens) }
