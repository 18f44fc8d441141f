-- The law of snapshots: a call that reads a snapshot is answered as the share stood when the snapshot was made.
use Rattle.std.specs.Prelude.{◌≡◌, ℕ, ◌==◌, ◌&&◌, Bool, true, false, List, [], ◌∷◌, ◌++◌, map, bytes_eq, Option, Some}
use Rattle.std.specs.Prelude.{None, All, Result, Ok, Err}
use Rattle.sx_base.specs.Entries.{change}
use Rattle.sx_lease.specs.declared.lease.LeaseState.TheVariants.{Available}
use Rattle.sx_names.specs.declared.meta_pair.MetaPair.{MetaPair}
use Rattle.sx_call.specs.CallLimits.{IsWithinLimits}
use Rattle.sx_call.specs.Leases.{ReadScope}
use Rattle.sx_call.specs.declared.calls.Call.{Call}
use Rattle.sx_call.specs.declared.calls.Call.TheVariants.{GetShareProperties, GetShareMetadata, GetDirectoryProperties}
use Rattle.sx_call.specs.declared.calls.Call.TheVariants.{GetDirectoryMetadata, ListDirectory, GetFile}
use Rattle.sx_call.specs.declared.calls.Call.TheVariants.{GetFileProperties, GetFileMetadata, ListRanges, DeleteShare}
use Rattle.sx_call.specs.declared.calls.Call.TheVariants.{DeleteSnapshot, SnapshotShare}
use Rattle.sx_call.specs.declared.entries.Entry.{Entry}
use Rattle.sx_call.specs.declared.entries.Noted.{Noted}
use Rattle.sx_call.specs.declared.refusals.Refusal.{Refusal}
use Rattle.sx_call.specs.declared.replies.Reply.{Reply}
use Rattle.sx_call.specs.declared.replies.Reply.TheVariants.{Snapped}
use Rattle.sx_call.specs.declared.shown.Stamp.{Stamp}
use Rattle.sx_tree.specs.declared.share.Share.{Share}
use Rattle.sx_spec.specs.Trees.{tree_at_rest}
use Rattle.sx_spec.specs.Shares.{meta_or}
use Rattle.sx_spec.specs.Account.{Account, has_name}
use Rattle.sx_spec.specs.Checks.{unchecked}
use Rattle.sx_spec.specs.Changes.{Act}
use Rattle.sx_spec.specs.Step.{act_in, outcome, step, replay}
use Rattle.sx_spec.specs.History.{IsHistory, MayCome, last_moment}

-- Calls that read a snapshot.

-- whether a snapshot is the one of a moment
abbrev pub is_moment : ℕ → Option ℕ → Bool
is_moment moment None = false
is_moment moment (Some m) = m == moment

-- whether a share and a snapshot are those of a name and a moment
abbrev pub is_snapshot_of : List ℕ → ℕ → List ℕ → Option ℕ → Bool
is_snapshot_of name moment share snap = bytes_eq share name && is_moment moment snap

-- whether a call reads the snapshot of a moment in the share of a name
abbrev pub reads_snapshot : List ℕ → ℕ → Call → Bool
reads_snapshot name moment (GetShareProperties c) = is_snapshot_of name moment c.share c.scope.snap
reads_snapshot name moment (GetShareMetadata c) = is_snapshot_of name moment c.share c.scope.snap
reads_snapshot name moment (GetDirectoryProperties c) = is_snapshot_of name moment c.at.share c.snap
reads_snapshot name moment (GetDirectoryMetadata c) = is_snapshot_of name moment c.at.share c.snap
reads_snapshot name moment (ListDirectory c) = is_snapshot_of name moment c.at.share c.snap
reads_snapshot name moment (GetFile c) = is_snapshot_of name moment c.at.share c.scope.snap
reads_snapshot name moment (GetFileProperties c) = is_snapshot_of name moment c.at.share c.scope.snap
reads_snapshot name moment (GetFileMetadata c) = is_snapshot_of name moment c.at.share c.scope.snap
reads_snapshot name moment (ListRanges c) = is_snapshot_of name moment c.at.share c.scope.snap
reads_snapshot name moment call = false

-- the share as it stands, without a lease id
abbrev pub as_it_stands : ReadScope
as_it_stands = record { snap = None; lease = None }

-- the same call of the share as it stands, without a lease id
abbrev pub without_snapshot : Call → Call
without_snapshot (GetShareProperties c) = GetShareProperties (record c { scope = as_it_stands })
without_snapshot (GetShareMetadata c) = GetShareMetadata (record c { scope = as_it_stands })
without_snapshot (GetDirectoryProperties c) = GetDirectoryProperties (record c { snap = None })
without_snapshot (GetDirectoryMetadata c) = GetDirectoryMetadata (record c { snap = None })
without_snapshot (ListDirectory c) = ListDirectory (record c { snap = None })
without_snapshot (GetFile c) = GetFile (record c { scope = as_it_stands })
without_snapshot (GetFileProperties c) = GetFileProperties (record c { scope = as_it_stands })
without_snapshot (GetFileMetadata c) = GetFileMetadata (record c { scope = as_it_stands })
without_snapshot (ListRanges c) = ListRanges (record c { scope = as_it_stands })
without_snapshot call = call

-- Plain reading.

-- a share at rest: every lease available, no node pending
abbrev pub share_at_rest : Share → Share
share_at_rest x = record x { lease = Available; tree = tree_at_rest x.tree }

-- an account whose shares are at rest
abbrev pub account_at_rest : Account → Account
account_at_rest a = record a { store = record a.store { shares = map (λ x. (x.0, share_at_rest x.1)) a.store.shares } }

-- of an act's checks the one of its range alone
abbrev pub only_range : Result Act Refusal → Result Act Refusal
only_range (Err r) = Err r
only_range (Ok act) = Ok (record act { checks = record unchecked { range = act.checks.range } })

-- PLAIN READING: the reply to the same call of the share as it stands in the account at rest, where only share, parent,
-- node, kind and range are checked
abbrev pub plain_reply : Account → Entry → Reply
plain_reply a e =
    let rest = account_at_rest a in
    (outcome rest.store (only_range (act_in rest (record e { call = without_snapshot e.call })))).1

-- The law.

-- the account in which a share has the metadata that its snapshot was given, if any
abbrev pub with_given_meta : List ℕ → List MetaPair → Account → Account
with_given_meta name meta a = record a {
  store = record a.store {
    shares = change (has_name name) (λ x. (x.0, record x.1 { meta = meta_or meta x.1.meta })) a.store.shares;
  };
}

-- whether a call deletes the snapshot of a moment, or its share
abbrev pub deletes_snapshot : List ℕ → ℕ → Call → Bool
deletes_snapshot name moment (DeleteShare c) = bytes_eq c.share name
deletes_snapshot name moment (DeleteSnapshot c) = bytes_eq c.share name && c.moment == moment
deletes_snapshot name moment call = false

-- A legal history, its calls within their limits, in which `made` is an unrefused Snapshot Share that gave a moment,
-- which nothing deleted since, and an entry that may come behind it and reads that snapshot.
pub record ReadsMadeSnapshot
    (limit : ℕ) (before : List Noted) (made : Noted) (since : List Noted) (e : Entry)
    (name : List ℕ) (meta : List MetaPair) (moment : ℕ) (stamp : Stamp) : Type 0 where
  pub legal : IsHistory limit (before ++ made ∷ since)
  pub limits : All (λ n. IsWithinLimits n.entry.call) (before ++ made ∷ since)
  pub call : made.entry.call ≡ SnapshotShare (record { share = name; meta = meta })
  pub gave : (step (replay before) made.entry).1 ≡ Snapped moment stamp
  pub kept : All (λ n. n.refused ≡ false → deletes_snapshot name moment n.entry.call ≡ false) since
  pub comes : MayCome (replay (before ++ made ∷ since)) (last_moment (before ++ made ∷ since)) e
  pub reads : reads_snapshot name moment e.call ≡ true

-- THE LAW OF SNAPSHOTS
abbrev pub SnapshotLaw : Type 0
SnapshotLaw = (limit : ℕ) (before : List Noted) (made : Noted) (since : List Noted) (e : Entry)
    (name : List ℕ) (meta : List MetaPair) (moment : ℕ) (stamp : Stamp)
    → ReadsMadeSnapshot limit before made since e name meta moment stamp
    → (step (replay (before ++ made ∷ since)) e).1
    ≡ plain_reply (with_given_meta name meta (replay (before ++ made ∷ []))) e
