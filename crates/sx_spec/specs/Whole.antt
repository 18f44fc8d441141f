-- What holds of every account that a legal history leaves, part by part.
use Rattle.std.specs.Prelude.{◌≡◌, ◌≢◌, ◌⊎◌, ℕ, ◌+◌, ◌<◌, ◌≤◌, true, false, List, [], length, Option, Some, None}
use Rattle.std.specs.Prelude.{IfSome, All, AllPairs, Any, find}
use Rattle.std.specs.List.{list_any}
use Rattle.std.specs.List.Sorted.{IsStrictlySortedBy}
use Rattle.std.specs.Ordering.{nat_cmp}
use Rattle.std.specs.Cmp.Lexicographic.{slice_cmp}
use Rattle.std.specs.Map.{lookup, keys_of}
use Rattle.sx_base.specs.Entries.{value_at}
use Rattle.sx_base.specs.Clock.{greatest_moment}
use Rattle.sx_base.specs.Moment.{greatest_written}
use Rattle.sx_guard.specs.Handle.{handle_before}
use Rattle.sx_guard.specs.Locks.{forbids_lock}
use Rattle.sx_lease.specs.declared.lease.LeaseState.TheVariants.{Available}
use Rattle.sx_names.specs.Limits.{IsQuota}
use Rattle.sx_names.specs.Names.{fold, is_part, is_share_name}
use Rattle.sx_call.specs.declared.opens.Live.{Live}
use Rattle.sx_call.specs.declared.opens.Lock.{Lock}
use Rattle.sx_call.specs.declared.opens.Open.{Open}
use Rattle.sx_extent.specs.Ranges.{IsWellFormed}
use Rattle.sx_tree.specs.declared.node.Facts.{Facts}
use Rattle.sx_tree.specs.declared.node.Kind.{Kind}
use Rattle.sx_tree.specs.declared.node.Kind.TheVariants.{Directory, File}
use Rattle.sx_tree.specs.Node.{is_directory}
use Rattle.sx_tree.specs.Tree.{Nodes, Slot, slot_at, by_name, tree_use}
use Rattle.sx_tree.specs.Climbs.{climbs}
use Rattle.sx_tree.specs.declared.share.Share.{Share}
use Rattle.sx_tree.specs.declared.share.Snapshot.{Snapshot}
use Rattle.sx_spec.specs.Account.{Account, is_session, is_on, has_handle}
use Rattle.sx_spec.specs.Changes.{comes_before}

-- Sessions.

-- a session has the number of one that was started, and was granted at most as many opens as entries came
pub record IsLive (most came : ℕ) (l : Live) : Type 0 where
  pub first : 1 ≤ l.session
  pub started : l.session ≤ most
  pub granted : l.granted ≤ came

-- the live sessions, in order of their numbers
pub record AreSessions (came started : ℕ) (sessions : List Live) : Type 0 where
  pub count : started ≤ came
  pub each : All (IsLive started came) sessions
  pub different : AllPairs (λ a b. a.session < b.session) sessions

-- Trees.

-- a node other than the root has a name, stands under it in a directory of the tree, and its climb by parents reaches
-- the root
pub record IsChild (t : Nodes) (id : ℕ) (x : Slot) : Type 0 where
  pub name : List ℕ
  pub named : x.name ≡ Some name
  pub part : is_part name ≡ true
  pub parent : Slot
  pub there : slot_at t x.node.parent ≡ Some parent
  pub directory : is_directory parent.node.kind ≡ true
  pub listed : lookup (by_name (fold name)) parent.below ≡ Some id
  pub steps : ℕ
  pub rooted : climbs t steps t.root id ≡ true

-- what a directory lists under a folded name is a node whose directory it is, and whose kept name folds to that one
pub record IsListed (t : Nodes) (id : ℕ) (name : List ℕ) (child : ℕ) : Type 0 where
  pub slot : Slot
  pub there : slot_at t child ≡ Some slot
  pub parent : slot.node.parent ≡ id
  pub kept : List ℕ
  pub named : slot.name ≡ Some kept
  pub folded : fold kept ≡ name

-- the root is a directory without a name, and never pending
pub record IsRoot (x : Slot) : Type 0 where
  pub directory : is_directory x.node.kind ≡ true
  pub unnamed : x.name ≡ None
  pub standing : x.node.facts.pending ≡ false
  pub parent : x.node.parent ≡ 0

-- a file's body is a sparse file
abbrev pub IsFormed : Kind → Type 0
IsFormed Directory = Unit {0}
IsFormed (File body) = IsWellFormed body.ranges

-- the three moments of a node have a text
pub record AreMoments (f : Facts) : Type 0 where
  pub created : f.created ≤ greatest_written
  pub written : f.written ≤ greatest_written
  pub changed : f.changed ≤ greatest_written

-- the granules of the greatest quota, 5,120 GiB
abbrev pub most_granules : ℕ
most_granules = 10737418240

-- The tree of a share or snapshot, where all file ids are below the next one: each node but the root is a child of its
-- parent, and
-- each name leads to a child; files and pending nodes have nothing below them; its marked granules are at most the
-- greatest quota.
pub record IsTree (next : ℕ) (t : Nodes) : Type 0 where
  pub sorted : IsStrictlySortedBy nat_cmp (keys_of t.slots)
  pub root : (x : Slot) × (slot_at t t.root ≡ Some x) × IsRoot x
  pub ids : (q : ℕ) (x : Slot) → slot_at t q ≡ Some x → (x.node.id ≡ q) × (q < next)
  pub children : (q : ℕ) (x : Slot) → slot_at t q ≡ Some x → q ≢ t.root → IsChild t q x
  pub files : (q : ℕ) (x : Slot) → slot_at t q ≡ Some x → is_directory x.node.kind ≡ false → x.below ≡ []
  pub names : (q : ℕ) (x : Slot) → slot_at t q ≡ Some x → IsStrictlySortedBy (slice_cmp nat_cmp) (keys_of x.below)
  pub below : (q : ℕ) (x : Slot) (name : List ℕ) (child : ℕ) → slot_at t q ≡ Some x
      → lookup (by_name name) x.below ≡ Some child → IsListed t q name child
  pub moments : (q : ℕ) (x : Slot) → slot_at t q ≡ Some x → AreMoments x.node.facts
  pub bare : (q : ℕ) (x : Slot) → slot_at t q ≡ Some x → x.node.facts.pending ≡ true → x.below ≡ []
  pub formed : (q : ℕ) (x : Slot) → slot_at t q ≡ Some x → IsFormed x.node.kind
  pub used : tree_use t ≤ most_granules

-- Shares and snapshots.

-- every lease is available and no node is pending
abbrev pub IsAtRest : Nodes → Type 0
IsAtRest t =
    (q : ℕ) (x : Slot) → slot_at t q ≡ Some x → (x.node.facts.lease ≡ Available) × (x.node.facts.pending ≡ false)

-- a snapshot's moment isn't past the moment last given in its share
pub record IsSnapshot (next : ℕ) (given : Option ℕ) (x : Snapshot) : Type 0 where
  pub moment : IfSome given (λ last. x.moment ≤ last)
  pub quota : IsQuota x.quota
  pub changed : x.changed ≤ greatest_written
  pub tree : IsTree next x.tree
  pub rest : IsAtRest x.tree

-- a share; its snapshots have rising moments
pub record IsShare (next came : ℕ) (x : Share) : Type 0 where
  pub name : is_share_name x.name ≡ true
  pub quota : IsQuota x.quota
  pub changed : x.changed ≤ greatest_written
  pub tree : IsTree next x.tree
  pub given : IfSome x.given (λ last. last ≤ greatest_moment + came)
  pub snapshots : All (IsSnapshot next x.given) x.snapshots
  pub some : x.snapshots ≢ [] → x.given ≢ None
  pub rising : AllPairs (λ a b. a.moment < b.moment) x.snapshots

-- a node of a file id stands in a share, or in a snapshot of it
abbrev pub HasId : Share → ℕ → Type 0
HasId x q =
    ((slot : Slot) × (slot_at x.tree q ≡ Some slot))
    ⊎ Any (λ k. (slot : Slot) × (slot_at k.tree q ≡ Some slot)) x.snapshots

-- the shares have numbers that were given, different names, and no file id in common
pub record AreShares (came next made : ℕ) (shares : List (ℕ × Share)) : Type 0 where
  pub first : 1 ≤ next
  pub ids : next ≤ came + 1
  pub count : made ≤ came
  pub sorted : IsStrictlySortedBy nat_cmp (keys_of shares)
  pub numbers : (n : ℕ) (x : Share) → value_at shares n ≡ Some x → (1 ≤ n) × (n ≤ made)
  pub each : (n : ℕ) (x : Share) → value_at shares n ≡ Some x → IsShare next came x
  pub names : (n m : ℕ) (x y : Share) → value_at shares n ≡ Some x → value_at shares m ≡ Some y → x.name ≡ y.name
      → n ≡ m
  pub apart : (n m : ℕ) (x y : Share) (q : ℕ) → value_at shares n ≡ Some x → value_at shares m ≡ Some y → HasId x q
      → HasId y q → n ≡ m

-- Opens and locks.

-- an open was granted by a live session, and stands on a node that is there and is no root
pub record IsOpen (sessions : List Live) (shares : List (ℕ × Share)) (o : Open) : Type 0 where
  pub live : Live
  pub session : find (is_session o.handle.session) sessions ≡ Some live
  pub first : 1 ≤ o.handle.index
  pub granted : o.handle.index ≤ live.granted
  pub share : Share
  pub there : value_at shares o.share ≡ Some share
  pub slot : Slot
  pub stands : slot_at share.tree o.node ≡ Some slot
  pub named : slot.name ≢ None
  pub moment : o.at ≤ greatest_moment

-- the opens stand in order of handle, each handle once, and every pending node has one
pub record AreOpens (came : ℕ) (sessions : List Live) (shares : List (ℕ × Share)) (opens : List Open) : Type 0 where
  pub count : length opens ≤ came
  pub order : AllPairs (λ o q. handle_before o.handle q.handle ≡ true) opens
  pub each : All (IsOpen sessions shares) opens
  pub pending : (n : ℕ) (x : Share) (q : ℕ) (slot : Slot) → value_at shares n ≡ Some x → slot_at x.tree q ≡ Some slot
      → slot.node.facts.pending ≡ true → list_any (is_on q) opens ≡ true

-- a lock has a byte, and its handle is open on its node
pub record IsLock (opens : List Open) (l : Lock) : Type 0 where
  pub filled : l.held.from < l.held.end
  pub holder : Open
  pub there : find (has_handle l.held.handle) opens ≡ Some holder
  pub on : holder.node ≡ l.node

-- the locks stand in order of node, then handle, start and end, and on one node no exclusive one shares a byte with
-- another
pub record AreLocks (opens : List Open) (locks : List Lock) : Type 0 where
  pub order : AllPairs (λ a b. comes_before b a ≡ false) locks
  pub apart : AllPairs (λ a b. a.node ≡ b.node
      → forbids_lock b.held.exclusive b.held.from b.held.end a.held ≡ false) locks
  pub each : All (IsLock opens) locks

-- A WHOLE ACCOUNT
pub record IsWhole (a : Account) : Type 0 where
  pub sessions : AreSessions a.came a.store.started a.store.sessions
  pub shares : AreShares a.came a.store.next_id a.store.made a.store.shares
  pub opens : AreOpens a.came a.store.sessions a.store.shares a.store.opens
  pub locks : AreLocks a.store.opens a.store.locks
