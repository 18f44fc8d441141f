-- What calls make of a share, and its snapshots.
use Rattle.std.specs.Prelude.{ℕ, ◌+◌, ◌==◌, Bool, not, max, List, [], ◌∷◌, ◌++◌, filter, Option, Some, None}
use Rattle.sx_names.specs.declared.meta_pair.MetaPair.{MetaPair}
use Rattle.sx_call.specs.declared.shown.Stamp.{Stamp}
use Rattle.sx_tree.specs.declared.share.Share.{Share}
use Rattle.sx_tree.specs.declared.share.Snapshot.{Snapshot}
use Rattle.sx_spec.specs.Trees.{tree_at_rest}

-- when a share was changed last, and by the entry at which place
abbrev pub share_stamp : Share → Stamp
share_stamp s = record { changed = s.changed; etag = s.etag }

-- a share with a stamp
abbrev pub share_with_stamp : Stamp → Share → Share
share_with_stamp now s = record s { etag = now.etag; changed = now.changed }

-- the moment of a new snapshot: the entry's, or one tick after the one last given in the share where that is later
abbrev pub next_moment : ℕ → Option ℕ → ℕ
next_moment at None = at
next_moment at (Some given) = max at (given + 1)

-- the metadata that a request gives, or the share's where it gives none
abbrev pub meta_or : List MetaPair → List MetaPair → List MetaPair
meta_or [] kept = kept
meta_or (pair ∷ pairs) kept = pair ∷ pairs

-- what a snapshot keeps of a share: full copies of quota, metadata, stamp and tree, the tree at rest
abbrev pub snapshot_of : ℕ → List MetaPair → Share → Snapshot
snapshot_of moment meta s = record {
  moment = moment;
  quota = s.quota;
  meta = meta_or meta s.meta;
  etag = s.etag;
  changed = s.changed;
  tree = tree_at_rest s.tree;
}

-- a share with one more snapshot
abbrev pub with_snapshot : ℕ → List MetaPair → Share → Share
with_snapshot moment meta s =
    record s { snapshots = s.snapshots ++ snapshot_of moment meta s ∷ []; given = Some moment }

-- whether a snapshot is the one of a moment
abbrev pub is_of_moment : ℕ → Snapshot → Bool
is_of_moment moment snapshot = snapshot.moment == moment

-- a share without the snapshot of a moment
abbrev pub without_snapshot : ℕ → Share → Share
without_snapshot moment s = record s { snapshots = filter (λ x. not (is_of_moment moment x)) s.snapshots }
