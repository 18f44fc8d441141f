-- The REST calls on directories, files and handles, each at its place: what it is checked for, the store that it leaves
-- and its
-- reply.
use Rattle.std.specs.Prelude.{ℕ, ◌==◌, Bool, true, false, not, if◌then◌else◌, List, length, filter, Option}
use Rattle.std.specs.Prelude.{Some, None, unwrap_or, is_none, Result, Ok}
use Rattle.sx_extent.specs.Ranges.{SparseFile, cut, listed}
use Rattle.sx_guard.specs.Handle.{same_handle}
use Rattle.sx_guard.specs.Handle.{Handle}
use Rattle.sx_names.specs.declared.attributes.Attributes.{Attributes}
use Rattle.sx_names.specs.declared.content.Content.{Content}
use Rattle.sx_names.specs.declared.meta_pair.MetaPair.{MetaPair}
use Rattle.sx_call.specs.declared.calls.Call.{Call}
use Rattle.sx_call.specs.Ranges.{BytesFrom}
use Rattle.sx_call.specs.Shown.{BytesOfFile}
use Rattle.sx_call.specs.declared.leases.LeaseAction.{LeaseAction}
use Rattle.sx_call.specs.declared.leases.LeaseAction.TheVariants.{Acquire}
use Rattle.sx_call.specs.declared.targets.Target.{Target}
use Rattle.sx_call.specs.declared.times.Time.{Time}
use Rattle.sx_call.specs.declared.times.Time.TheVariants as time
use Rattle.sx_call.specs.declared.opens.Open.{Open}
use Rattle.sx_call.specs.declared.refusals.Refusal.{Refusal}
use Rattle.sx_call.specs.declared.replies.Reply.TheVariants.{Stamped, Made, Gone, Metas, DirFacts, FileFacts, FileBytes}
use Rattle.sx_call.specs.declared.replies.Reply.TheVariants.{Listed, RangesListed, HandlesClosed}
use Rattle.sx_call.specs.declared.shown.Stamp.{Stamp}
use Rattle.sx_tree.specs.declared.node.Node.{Node}
use Rattle.sx_tree.specs.declared.node.Kind.{Kind}
use Rattle.sx_tree.specs.declared.node.FileBody.{FileBody}
use Rattle.sx_tree.specs.declared.node.Facts.{Facts}
use Rattle.sx_tree.specs.declared.node.Kind.TheVariants.{Directory, File}
use Rattle.sx_spec.specs.Facts.{stamp_of, shown_of, with_stamp, with_write, with_metadata, with_lease, new_facts}
use Rattle.sx_spec.specs.Facts.{facts_over}
use Rattle.sx_spec.specs.Trees.{with_facts}
use Rattle.sx_tree.specs.Tree.{is_empty}
use Rattle.sx_spec.specs.Facts.{length_of}
use Rattle.sx_tree.specs.Body.{with_ranges, update_within, clear_within, resized_by}
use Rattle.sx_tree.specs.Pages.{names_page}
use Rattle.sx_listing.specs.Handles.{handles_text}
use Rattle.sx_listing.specs.Names.{names_text}
use Rattle.sx_listing.specs.Ranges.{ranges_text}
use Rattle.sx_spec.specs.declared.checks.OpenAsk.{OpenAsk}
use Rattle.sx_spec.specs.declared.checks.OpenAsk.TheVariants.{AnyOpens, Beside, NoneChanging}
use Rattle.sx_spec.specs.declared.checks.LeaseAsk.TheVariants.{Acts}
use Rattle.sx_spec.specs.Account.{Store}
use Rattle.sx_spec.specs.Needs.{access_needed, all_shared, first_of_span, end_of_span}
use Rattle.sx_spec.specs.Places.{◌>>=◌, Volume, NodePlace, FilePlace, Spot, Taken, Free, making_place, file_at, free_in}
use Rattle.sx_spec.specs.Checks.{asks_nothing, unchecked, refuse_if, file_checks}
use Rattle.sx_spec.specs.Changes.{Act, delete_at, make_node, put_facts, put_file, close_all}
use Rattle.sx_spec.specs.Pages.{scope, handles_page}
use Rattle.sx_spec.specs.ShareCalls.{reading, lease_after, lease_reply, lease_shown}

-- Making.

-- a node of the next file id in the directory of an id
abbrev pub new_node : Store → ℕ → Facts → Kind → Node
new_node s parent facts kind = record { id = s.next_id; parent = parent; facts = facts; kind = kind }

-- Create Directory, and Create File where the name is free
abbrev pub make : Store → Volume → List ℕ → Node → Act
make s volume name node = record {
  checks = unchecked;
  store = make_node volume.number name node s;
  reply = Made 201 (stamp_of node) (shown_of node);
}

-- Create Directory: its name is to be free
abbrev pub create_directory : Store → Stamp → Target → Attributes → Option ℕ → Option ℕ → List MetaPair
    → Result Act Refusal
create_directory s now at attributes created written meta = do
  place ← making_place s at
  free ← free_in place.1
  Ok (make s place.0 free.1
      (new_node s free.0 (new_facts now attributes created written meta) Directory))

-- Create File over a file: it replaces length, bytes, marks, content headers, attributes, times and metadata, and keeps
-- id,
-- spelling, lease, opens and locks
abbrev pub create_file_over : Store → Stamp → Call → (Facts → Facts) → FileBody → FilePlace → Act
create_file_over s now call facts body p = record {
  checks = file_checks call p;
  store = put_file p.volume.number p.node.id (λ old. body) facts s;
  reply = Made 201 now (shown_of (with_facts facts p.node));
}

-- Create File in a spot
abbrev pub create_file_in : Store → Stamp → Call → FileBody → Attributes → Option ℕ → Option ℕ → List MetaPair
    → Volume × Spot → Result Act Refusal
create_file_in s now call body attributes created written meta (volume, Free parent name) =
    Ok (make s volume name (new_node s parent (new_facts now attributes created written meta) (File body)))
create_file_in s now call body attributes created written meta (volume, Taken node) = do
  p ← file_at None (record { volume = volume; node = node })
  Ok (create_file_over s now call (facts_over now attributes created written meta) body p)

-- Create File
abbrev pub create_file : Store → Stamp → Call → Target → FileBody → Attributes → Option ℕ → Option ℕ → List MetaPair
    → Result Act Refusal
create_file s now call at body attributes created written meta = do
  place ← making_place s at
  create_file_in s now call body attributes created written meta place

-- Directories.

-- Get Directory Properties
abbrev pub get_directory_properties : Store → NodePlace → Act
get_directory_properties s p = reading s unchecked (DirFacts (stamp_of p.node) (shown_of p.node) p.node.facts.meta)

-- Get Directory Metadata
abbrev pub get_directory_metadata : Store → NodePlace → Act
get_directory_metadata s p = reading s unchecked (Metas (stamp_of p.node) p.node.facts.meta)

-- Set Directory Metadata
abbrev pub set_directory_metadata : Store → Stamp → List MetaPair → NodePlace → Act
set_directory_metadata s now meta p = record {
  checks = unchecked;
  store = put_facts p.volume.number p.node.id (with_metadata now meta) s;
  reply = Stamped 200 now;
}

-- Delete Directory: it is to be empty
abbrev pub delete_directory : Store → Call → NodePlace → Act
delete_directory s call p = record {
  checks = record unchecked {
    empty = refuse_if (not (is_empty p.volume.tree p.node.id)) p.node.id;
    asks = record asks_nothing { opens = Beside p.node.id (access_needed call) all_shared };
  };
  store = delete_at p.volume.number p.node.id s;
  reply = Gone;
}

-- List Directories and Files
abbrev pub list_directory : Store → List ℕ → List ℕ → ℕ → NodePlace → Act
list_directory s prefix marker max p =
    reading s unchecked (Listed (names_text (names_page p.volume.tree p.node.id prefix marker max)))

-- Reading files.

-- the bytes for which a range asks, all of the file where there is none
abbrev pub bytes_of_file : Option BytesFrom → FileBody → BytesOfFile
bytes_of_file span body =
    let size = length_of body in
    record {
      from = first_of_span span;
      length = size;
      whole = is_none span;
      view = cut body.ranges (first_of_span span) (end_of_span size span);
    }

-- Get File
abbrev pub get_file : Store → Call → Option BytesFrom → FilePlace → Act
get_file s call span p = reading s (file_checks call p)
    (FileBytes (stamp_of p.node) (bytes_of_file span p.body) p.body.content (shown_of p.node)
    (lease_shown p.node.facts.lease) p.node.facts.meta)

-- Get File Properties
abbrev pub get_file_properties : Store → Call → FilePlace → Act
get_file_properties s call p = reading s (file_checks call p)
    (FileFacts (stamp_of p.node) (length_of p.body) p.body.content (shown_of p.node) (lease_shown p.node.facts.lease)
    p.node.facts.meta)

-- Get File Metadata
abbrev pub get_file_metadata : Store → Call → FilePlace → Act
get_file_metadata s call p = reading s (file_checks call p) (Metas (stamp_of p.node) p.node.facts.meta)

-- List Ranges
abbrev pub list_ranges : Store → Call → Option BytesFrom → FilePlace → Act
list_ranges s call span p =
    let size = length_of p.body in
    reading s (file_checks call p)
    (RangesListed (stamp_of p.node) size
    (ranges_text (listed p.body.ranges (first_of_span span) (end_of_span size span))))

-- Changing files.

-- a time that a call gives, or the one that is kept
abbrev pub time_given : ℕ → ℕ → Time → ℕ
time_given now kept time.Keep = kept
time_given now kept time.Now = now
time_given now kept (time.At at) = at

-- whether a length is given that isn't the file's
abbrev pub changes_length : ℕ → Option ℕ → Bool
changes_length size None = false
changes_length size (Some bytes) = not (bytes == size)

-- a changed length sets the last write time, unless the call gives one
abbrev pub with_properties : Stamp → Bool → Option Attributes → Time → Time → Facts → Facts
with_properties now resized attributes created written f = record (with_stamp now f) {
  attributes = unwrap_or attributes f.attributes;
  created = time_given now.changed f.created created;
  written = time_given now.changed (if resized then now.changed else f.written) written;
}

-- Set File Properties: it replaces the six content headers, and what it gives of length, attributes and times
abbrev pub set_file_properties : Store → Stamp → Call → Option ℕ → Content → Option Attributes → Time → Time
    → FilePlace → Act
set_file_properties s now call bytes content attributes created written p =
    let facts = with_properties now (changes_length (length_of p.body) bytes) attributes created written in
    record {
      checks = file_checks call p;
      store =
          put_file p.volume.number p.node.id
          (λ old. record { ranges = resized_by bytes old.ranges; content = content }) facts s;
      reply = Made 200 now (shown_of (with_facts facts p.node));
    }

-- Set File Metadata
abbrev pub set_file_metadata : Store → Stamp → Call → List MetaPair → FilePlace → Act
set_file_metadata s now call meta p = record {
  checks = file_checks call p;
  store = put_facts p.volume.number p.node.id (with_metadata now meta) s;
  reply = Stamped 200 now;
}

-- Put Range, by what it makes of the file
abbrev pub put_range : Store → Stamp → Call → (SparseFile → SparseFile) → FilePlace → Act
put_range s now call change p = record {
  checks = file_checks call p;
  store = put_file p.volume.number p.node.id (with_ranges change) (with_write now) s;
  reply = Stamped 201 now;
}

-- Put Range, update
abbrev pub update_range : Store → Stamp → Call → ℕ → List ℕ → FilePlace → Act
update_range s now call from piece = put_range s now call (update_within from piece)

-- Put Range, clear
abbrev pub clear_range : Store → Stamp → Call → ℕ → ℕ → FilePlace → Act
clear_range s now call from end = put_range s now call (clear_within from end)

-- Delete File
abbrev pub delete_file : Store → Call → FilePlace → Act
delete_file s call p = record {
  checks = file_checks call p;
  store = delete_at p.volume.number p.node.id s;
  reply = Gone;
}

-- an open with write or delete refuses acquiring a file's lease
abbrev pub opens_against : ℕ → LeaseAction → OpenAsk
opens_against id (Acquire proposed) = NoneChanging id
opens_against id action = AnyOpens

-- Lease File
abbrev pub lease_file : Store → LeaseAction → ℕ → FilePlace → Act
lease_file s action fresh p =
    let done = lease_after action fresh p.node.facts.lease in
    record {
      checks =
          record unchecked { asks = record asks_nothing { lease = Acts done; opens = opens_against p.node.id action } };
      store = put_facts p.volume.number p.node.id (with_lease done.0) s;
      reply = lease_reply action (stamp_of p.node) done.0;
    }

-- Handles.

-- List Handles
abbrev pub list_handles : Store → Option Handle → ℕ → Bool → NodePlace → Act
list_handles s marker max recursive p =
    reading s unchecked (Listed (handles_text (handles_page s p.volume.tree p.node.id marker max recursive)))

-- whether an open is the one that is named, or all are
abbrev pub is_matched : Option Handle → Open → Bool
is_matched None o = true
is_matched (Some handle) o = same_handle handle o.handle

-- Force Close Handles: those of its scope that match are closed in order of handle
abbrev pub force_close_handles : Store → Option Handle → Bool → NodePlace → Act
force_close_handles s handle recursive p =
    let opens = filter (is_matched handle) (scope s p.volume.tree p.node.id recursive) in
    record { checks = unchecked; store = close_all opens s; reply = HandlesClosed (length opens) }
