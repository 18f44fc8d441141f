-- What stands at an id of a tree: a directory or a file, with its facts.
use Rattle.std.specs.Prelude.{ℕ, Bool, true, false, length, [], Option, Some, None}
use Rattle.sx_extent.specs.Ranges.{used}
use Rattle.sx_lease.specs.declared.lease.LeaseState.TheVariants.{Available}
use Rattle.sx_names.specs.declared.attributes.Attributes.{Attributes}
use Rattle.sx_tree.specs.declared.node.Facts.{Facts}
use Rattle.sx_tree.specs.declared.node.FileBody.{FileBody}
use Rattle.sx_tree.specs.declared.node.Kind.{Kind}
use Rattle.sx_tree.specs.declared.node.Kind.TheVariants.{Directory, File}

-- a node is a directory
abbrev pub is_directory : Kind → Bool
is_directory Directory = true
is_directory (File body) = false

-- the body of a file; a directory has none
abbrev pub body_of : Kind → Option FileBody
body_of Directory = None
body_of (File body) = Some body

-- the length of a file in bytes; a directory's is 0
abbrev pub kind_length : Kind → ℕ
kind_length Directory = 0
kind_length (File body) = length body.ranges.bytes

-- how many granules of a file are marked; a directory has none
abbrev pub kind_use : Kind → ℕ
kind_use Directory = 0
kind_use (File body) = used body.ranges

-- the attributes of a directory that has no others
abbrev pub directory_attributes : Attributes
directory_attributes = record {
  read_only = false;
  hidden = false;
  system = false;
  archive = false;
  temporary = false;
  offline = false;
  not_content_indexed = false;
  no_scrub_data = false;
  directory = true;
}

-- the facts of the root of a share that was made at a moment by the entry at a place of the history
abbrev pub root_facts : ℕ → ℕ → Facts
root_facts at place = record {
  etag = place;
  created = at;
  written = at;
  changed = at;
  attributes = directory_attributes;
  meta = [];
  pending = false;
  lease = Available;
}
