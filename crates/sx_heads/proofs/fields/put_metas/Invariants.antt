use Rattle.std.proofs.Common.{◌≡◌, ◌++◌, drop, map}
use Rattle.sx_heads.specs.Fields.{meta_header}
use Rattle.sx_heads.proofs.fields.put_metas.Given as goal

abbrev pub invariant-loop-pair : goal.invariant-loop-pair
invariant-loop-pair l = l.headers ++ map meta_header (drop l.pair-index l.pairs) ≡ l.initial.headers ++ map meta_header l.pairs
