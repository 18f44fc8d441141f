-- The calls on shares, each at its place: what it is checked for, the store that it leaves and its reply.
use Rattle.std.specs.Prelude.{ℕ, ◌&&◌, Bool, not, nat_le, nat_lt, List, []}
use Rattle.std.specs.Prelude.{length, Option, None, unwrap_or}
use Rattle.sx_lease.specs.Lease.{random_lease_id, acquire_lease, change_lease, release_lease, break_lease, lease_holder}
use Rattle.sx_lease.specs.declared.lease.LeaseId.{LeaseId}
use Rattle.sx_lease.specs.declared.lease.LeaseSay.{LeaseSay}
use Rattle.sx_lease.specs.declared.lease.LeaseState.{LeaseState}
use Rattle.sx_lease.specs.declared.lease.LeaseState.TheVariants as lease
use Rattle.sx_names.specs.declared.meta_pair.MetaPair.{MetaPair}
use Rattle.sx_call.specs.declared.calls.Call.{Call}
use Rattle.sx_call.specs.declared.listings.SharesMarker.{SharesMarker}
use Rattle.sx_call.specs.declared.leases.LeaseAction.{LeaseAction}
use Rattle.sx_call.specs.declared.leases.LeaseAction.TheVariants.{Acquire, Change, Release, Break}
use Rattle.sx_call.specs.declared.leases.LeaseShown.{LeaseShown}
use Rattle.sx_call.specs.declared.leases.LeaseShown.TheVariants as shown
use Rattle.sx_call.specs.declared.replies.Reply.{Reply}
use Rattle.sx_call.specs.declared.replies.Reply.TheVariants.{Stamped, Gone, Snapped, ShareFacts, Metas, Listed}
use Rattle.sx_call.specs.declared.replies.Reply.TheVariants.{LeaseDone}
use Rattle.sx_call.specs.declared.shown.Stamp.{Stamp}
use Rattle.sx_listing.specs.Shares.{shares_text}
use Rattle.sx_tree.specs.Tree.{new_nodes}
use Rattle.sx_tree.specs.declared.share.Share.{Share}
use Rattle.sx_spec.specs.Shares.{share_stamp, share_with_stamp, next_moment, with_snapshot, without_snapshot}
use Rattle.sx_spec.specs.declared.checks.Checks.{Checks}
use Rattle.sx_spec.specs.declared.checks.Limit.TheVariants.{TooManySnapshots, StandingSnapshots}
use Rattle.sx_spec.specs.declared.checks.LeaseAsk.TheVariants.{Acts}
use Rattle.sx_spec.specs.declared.checks.OpenAsk.TheVariants.{NoneIn}
use Rattle.sx_spec.specs.Account.{Store}
use Rattle.sx_spec.specs.Places.{Volume, live_volume}
use Rattle.sx_spec.specs.Checks.{asks_nothing, unchecked, refuse_if, share_asks}
use Rattle.sx_spec.specs.Changes.{Act, change_share, add_share, drop_share}
use Rattle.sx_spec.specs.Pages.{shares_page}

-- a call that changes nothing
abbrev pub reading : Store → Checks → Reply → Act
reading s checks reply = record { checks = checks; store = s; reply = reply }

-- Leases, of shares and files.

-- the lease id made from a number drawn at random: a UUID (RFC 9562) of version 4
abbrev pub drawn_id : ℕ → LeaseId
drawn_id fresh = record { 0 = random_lease_id fresh }

-- the state that an action leaves, and its answer; acquire takes the proposed id, or one that is drawn
abbrev pub lease_after : LeaseAction → ℕ → LeaseState → LeaseState × LeaseSay
lease_after (Acquire proposed) fresh state = acquire_lease state (unwrap_or proposed (drawn_id fresh))
lease_after (Change id to) fresh state = change_lease state id to
lease_after (Release id) fresh state = release_lease state id
lease_after Break fresh state = break_lease state

-- the reply to an action that left a state
abbrev pub lease_reply : LeaseAction → Stamp → LeaseState → Reply
lease_reply (Acquire proposed) stamp state = LeaseDone 201 stamp (lease_holder state)
lease_reply (Change id to) stamp state = LeaseDone 200 stamp (lease_holder state)
lease_reply (Release id) stamp state = LeaseDone 200 stamp None
lease_reply Break stamp state = LeaseDone 202 stamp None

-- what a reply shows of a lease
abbrev pub lease_shown : LeaseState → LeaseShown
lease_shown lease.Available = shown.Available
lease_shown (lease.Leased id) = shown.Leased
lease_shown lease.Broken = shown.Broken

-- List Shares
abbrev pub list_shares : Store → List ℕ → Option SharesMarker → ℕ → Bool → Act
list_shares s prefix marker max snapshots =
    reading s unchecked (Listed (shares_text (shares_page s prefix marker max snapshots)))

-- a new share, with a root of an id
abbrev pub new_share : Stamp → ℕ → List ℕ → ℕ → List MetaPair → Share
new_share now root name quota meta = record {
  name = name;
  quota = quota;
  meta = meta;
  etag = now.etag;
  changed = now.changed;
  lease = lease.Available;
  tree = new_nodes root now.changed now.etag;
  snapshots = [];
  given = None;
}

-- Create Share
abbrev pub create_share : Store → Stamp → List ℕ → ℕ → List MetaPair → Act
create_share s now name quota meta = record {
  checks = unchecked;
  store = add_share (new_share now s.next_id name quota meta) s;
  reply = Stamped 201 now;
}

-- Get Share Properties
abbrev pub get_share_properties : Store → Call → Volume → Act
get_share_properties s call p =
    reading s (record unchecked { asks = share_asks call p }) (ShareFacts p.stamp p.quota (lease_shown p.lease) p.meta)

-- Get Share Metadata
abbrev pub get_share_metadata : Store → Call → Volume → Act
get_share_metadata s call p = reading s (record unchecked { asks = share_asks call p }) (Metas p.stamp p.meta)

-- Set Share Properties
abbrev pub set_share_properties : Store → Stamp → Call → ℕ → Volume → Act
set_share_properties s now call quota p = record {
  checks = record unchecked { asks = share_asks call p };
  store = change_share p.number (λ x. record (share_with_stamp now x) { quota = quota }) s;
  reply = Stamped 200 now;
}

-- Set Share Metadata
abbrev pub set_share_metadata : Store → Stamp → Call → List MetaPair → Volume → Act
set_share_metadata s now call meta p = record {
  checks = record unchecked { asks = share_asks call p };
  store = change_share p.number (λ x. record (share_with_stamp now x) { meta = meta }) s;
  reply = Stamped 200 now;
}

-- Delete Share: nothing may be open in it, and snapshots go with it only where the call includes them
abbrev pub delete_share : Store → Call → Bool → ℕ × Share → Act
delete_share s call include p = record {
  checks = record unchecked {
    asks = record (share_asks call (live_volume p.0 p.1)) { opens = NoneIn p.0 };
    limits = refuse_if (nat_lt 0 (length p.1.snapshots) && not include) (StandingSnapshots (length p.1.snapshots));
  };
  store = drop_share p.0 s;
  reply = Gone;
}

-- Delete Share of a snapshot
abbrev pub delete_snapshot : Store → ℕ → Volume → Act
delete_snapshot s moment p = record {
  checks = unchecked;
  store = change_share p.number (without_snapshot moment) s;
  reply = Gone;
}

-- the most snapshots of a share
abbrev pub most_snapshots : ℕ
most_snapshots = 200

-- Snapshot Share: the reply shows the stamp that the share has, which the snapshot keeps
abbrev pub snapshot_share : Store → Stamp → List MetaPair → ℕ × Share → Act
snapshot_share s now meta p = record {
  checks = record unchecked {
    limits = refuse_if (nat_le most_snapshots (length p.1.snapshots)) (TooManySnapshots (length p.1.snapshots));
  };
  store = change_share p.0 (with_snapshot (next_moment now.changed p.1.given) meta) s;
  reply = Snapped (next_moment now.changed p.1.given) (share_stamp p.1);
}

-- Lease Share
abbrev pub lease_share : Store → LeaseAction → ℕ → Volume → Act
lease_share s action fresh p =
    let done = lease_after action fresh p.lease in
    record {
      checks = record unchecked { asks = record asks_nothing { lease = Acts done } };
      store = change_share p.number (λ x. record x { lease = done.0 }) s;
      reply = lease_reply action p.stamp done.0;
    }
