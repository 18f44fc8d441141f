use Rattle.std.proofs.Common.{ap, ◌∙◌}
use Rattle.std.specs.Int.{w128, from_be_bytes}
use Rattle.uuid.specs.Parts.{with_variant, with_version}
use Rattle.uuid.specs.declared.Variant.TheVariants.{RFC4122}
use Rattle.uuid.specs.declared.Version.TheVariants.{Random}
use Rattle.sx_lease.proofs.lease.LeaseId.from_random.Goals as goal

pub returns : goal.returns
returns c =
    c.as_u128.ensures
    ∙ ap (from_be_bytes w128) (c.into_uuid-uuid.ensures ∙ (c.from_random_bytes.ensures.value
    ∙ ap (λ bytes. with_version (with_variant bytes RFC4122) Random) c.to_be_bytes.ensures))
