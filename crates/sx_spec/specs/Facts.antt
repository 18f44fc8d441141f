-- The facts of a node: what replies show of them, and what calls make of them.
use Rattle.std.specs.Prelude.{ℕ, true, false, List, Option, unwrap_or, length}
use Rattle.sx_extent.specs.Ranges.{blank}
use Rattle.sx_lease.specs.declared.lease.LeaseState.{LeaseState}
use Rattle.sx_lease.specs.declared.lease.LeaseState.TheVariants.{Available}
use Rattle.sx_names.specs.declared.attributes.Attributes.{Attributes}
use Rattle.sx_names.specs.declared.content.Content.{Content}
use Rattle.sx_names.specs.declared.meta_pair.MetaPair.{MetaPair}
use Rattle.sx_call.specs.declared.shown.Shown.{Shown}
use Rattle.sx_call.specs.declared.shown.Stamp.{Stamp}
use Rattle.sx_tree.specs.declared.node.Facts.{Facts}
use Rattle.sx_tree.specs.declared.node.FileBody.{FileBody}
use Rattle.sx_tree.specs.declared.node.Node.{Node}

-- when a node was changed last, and by the entry at which place
abbrev pub stamp_of : Node → Stamp
stamp_of n = record { changed = n.facts.changed; etag = n.facts.etag }

-- what else replies show of it
abbrev pub shown_of : Node → Shown
shown_of n = record {
  attributes = n.facts.attributes;
  created = n.facts.created;
  written = n.facts.written;
  changed = n.facts.changed;
  id = n.id;
  parent = n.parent;
}

-- the length of a file
abbrev pub length_of : FileBody → ℕ
length_of body = length body.ranges.bytes

-- a new file of so many bytes: zeros with no mark
abbrev pub new_file : ℕ → Content → FileBody
new_file bytes content = record { ranges = blank bytes; content = content }

-- facts with a stamp
abbrev pub with_stamp : Stamp → Facts → Facts
with_stamp now f = record f { etag = now.etag; changed = now.changed }

-- facts with a stamp, and written at its moment
abbrev pub with_write : Stamp → Facts → Facts
with_write now f = record f { etag = now.etag; changed = now.changed; written = now.changed }

-- facts with a stamp and other metadata
abbrev pub with_metadata : Stamp → List MetaPair → Facts → Facts
with_metadata now meta f = record f { etag = now.etag; changed = now.changed; meta = meta }

-- facts with another state of the lease
abbrev pub with_lease : LeaseState → Facts → Facts
with_lease state f = record f { lease = state }

-- facts of a node that is delete-pending
abbrev pub as_pending : Facts → Facts
as_pending f = record f { pending = true }

-- facts at rest: the lease is available, and the node isn't pending
abbrev pub at_rest : Facts → Facts
at_rest f = record f { lease = Available; pending = false }

-- the facts of a node that is made; its times are those that are given, or the entry's moment
abbrev pub new_facts : Stamp → Attributes → Option ℕ → Option ℕ → List MetaPair → Facts
new_facts now attributes created written meta = record {
  etag = now.etag;
  created = unwrap_or created now.changed;
  written = unwrap_or written now.changed;
  changed = now.changed;
  attributes = attributes;
  meta = meta;
  pending = false;
  lease = Available;
}

-- the facts of a file over which another is created: new ones, but for the lease and whether it is pending
abbrev pub facts_over : Stamp → Attributes → Option ℕ → Option ℕ → List MetaPair → Facts → Facts
facts_over now attributes created written meta f =
    record (new_facts now attributes created written meta) { pending = f.pending; lease = f.lease }
