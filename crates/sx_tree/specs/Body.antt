-- What a call does to the body of a file.
use Rattle.std.specs.Prelude.{ℕ, ◌+◌, ◌&&◌, if◌then◌else◌, nat_le, List, length, Option, Some, None}
use Rattle.sx_extent.specs.Ranges.{SparseFile, update, write, clear, resize, most_bytes}
use Rattle.sx_tree.specs.declared.body.BodyChange.{BodyChange}
use Rattle.sx_tree.specs.declared.body.BodyChange.TheVariants as change
use Rattle.sx_tree.specs.declared.node.FileBody.{FileBody}

-- a file with a piece written that lies in it; where it doesn't, the file
unfoldable pub update_within : ℕ → List ℕ → SparseFile → SparseFile
update_within at piece f = if nat_le (at + length piece) (length f.bytes) then update f at piece else f

-- a file with a piece written that may make it longer; where it would end past 4 TiB, the file
unfoldable pub write_within : ℕ → List ℕ → SparseFile → SparseFile
write_within at piece f = if nat_le (at + length piece) most_bytes then write f at piece else f

-- a file with an interval cleared that lies in it; where it doesn't, the file
unfoldable pub clear_within : ℕ → ℕ → SparseFile → SparseFile
clear_within from end f = if nat_le from end && nat_le end (length f.bytes) then clear f from end else f

-- a file of a length up to 4 TiB; of a greater one, the file
unfoldable pub resize_within : ℕ → SparseFile → SparseFile
resize_within bytes f = if nat_le bytes most_bytes then resize f bytes else f

-- a file of the length that is given, if one is
abbrev pub resized_by : Option ℕ → SparseFile → SparseFile
resized_by None f = f
resized_by (Some bytes) f = resize_within bytes f

-- a body with its bytes and marks changed
abbrev pub with_ranges : (SparseFile → SparseFile) → FileBody → FileBody
with_ranges g body = record body { ranges = g body.ranges }

-- the body that a change leaves
abbrev pub body_after : BodyChange → FileBody → FileBody
body_after (change.Update at piece) body = with_ranges (update_within at piece) body
body_after (change.Write at piece) body = with_ranges (write_within at piece) body
body_after (change.Clear from end) body = with_ranges (clear_within from end) body
body_after (change.Resize bytes) body = with_ranges (resize_within bytes) body
body_after (change.Content content) body = record body { content = content }
body_after (change.Reshape bytes content) body = record { ranges = resized_by bytes body.ranges; content = content }
body_after (change.Replace new) body = new
