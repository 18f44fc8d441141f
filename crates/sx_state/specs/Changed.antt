-- What changes that the code keeps as data make of facts and of shares.
use Rattle.sx_tree.specs.declared.node.Facts.{Facts}
use Rattle.sx_tree.specs.declared.share.Share.{Share}
use Rattle.sx_spec.specs.Facts.{with_stamp, with_write, with_metadata, with_lease, as_pending, facts_over}
use Rattle.sx_spec.specs.FileCalls.{with_properties}
use Rattle.sx_spec.specs.Shares.{share_with_stamp}
use Rattle.sx_state.specs.declared.facts.FactsChange.{FactsChange}
use Rattle.sx_state.specs.declared.facts.FactsChange.TheVariants as facts
use Rattle.sx_state.specs.declared.shares.ShareChange.{ShareChange}
use Rattle.sx_state.specs.declared.shares.ShareChange.TheVariants as share

-- the facts that a change leaves
abbrev pub facts_after : FactsChange → Facts → Facts
facts_after (facts.Stamped now) f = with_stamp now f
facts_after (facts.Written now) f = with_write now f
facts_after (facts.Metadata now meta) f = with_metadata now meta f
facts_after (facts.Lease state) f = with_lease state f
facts_after facts.Pending f = as_pending f
facts_after (facts.Over now attributes created written meta) f = facts_over now attributes created written meta f
facts_after (facts.Properties now resized attributes created written) f =
    with_properties now resized attributes created written f

-- the share that a change leaves
abbrev pub share_after : ShareChange → Share → Share
share_after (share.Quota now quota) x = record (share_with_stamp now x) { quota = quota }
share_after (share.Metadata now meta) x = record (share_with_stamp now x) { meta = meta }
share_after (share.Lease state) x = record x { lease = state }
