use Rattle.sx_spec.proofs.Snapshots.{snapshots_read}
use Rattle.sx_spec.proofs.laws.snapshots_read_as_the_share_stood.Goals as goal

pub returns : goal.returns
returns c = snapshots_read
