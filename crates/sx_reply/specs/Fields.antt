-- The parts of an answer that the code hands on to be printed, and their texts.
use Rattle.std.specs.Prelude.{codes, ℕ, List, [], ◌∷◌}
use Rattle.std.specs.List.{concat, flat_map}
use Rattle.std.specs.Fmt.{decimal}
use Rattle.sx_text.specs.Escapes.{escaped}
use Rattle.sx_reply.specs.declared.field.Field.{Field}
use Rattle.sx_reply.specs.declared.field.Field.TheVariants.{Text, Number, Snapshot, Stamped, Attributes, Facts, Lease}
use Rattle.sx_reply.specs.declared.field.Field.TheVariants.{LeaseHeld, Metas, Kind, Content, Digest, Range, Escaped}
use Rattle.sx_reply.specs.declared.field.Field.TheVariants.{Message}
use Rattle.sx_base.specs.Moment.{moment_text}
use Rattle.sx_reply.specs.Headers.{line, line_if, stamp_text, facts_text, lease_text, meta_text, kind_text, md5_text}
use Rattle.sx_reply.specs.Headers.{lease_id_text}
use Rattle.sx_reply.specs.Pages.{range_text}
use Rattle.sx_reply.specs.Values.{attributes_line}
use Rattle.sx_reply.specs.Words.{word_text}

-- the text of a part of an answer
abbrev pub field_text : Field → List ℕ
field_text (Text bytes) = bytes.now
field_text (Number name value) = line name.now (decimal value)
field_text (Snapshot moment) = line (codes "x-ms-snapshot: ") (moment_text moment.now)
field_text (Stamped stamp) = stamp_text stamp.now
field_text (Attributes set) = attributes_line set.now
field_text (Facts node) = facts_text node.now
field_text (Lease lease) = lease_text lease.now
field_text (LeaseHeld id) = lease_id_text id.now
field_text (Metas pairs) = meta_text pairs.now
field_text (Kind kind) = kind_text kind.now
field_text (Content name value) = line_if name.now value.now
field_text (Digest name md5) = md5_text name.now md5.now
field_text (Range part) = range_text part.now
field_text (Escaped text) = escaped text.now
field_text (Message words) = escaped (flat_map word_text words.now)
