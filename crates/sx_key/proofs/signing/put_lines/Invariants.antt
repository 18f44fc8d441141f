use Rattle.std.proofs.Common.{◌≡◌, ◌++◌, map, take}
use Rattle.sx_key.specs.Signature.{header_lines}
use Rattle.sx_key.proofs.signing.put_lines.Given as goal

abbrev pub invariant-loop-name : goal.invariant-loop-name
invariant-loop-name l = l.out.items ≡ l.initial.out.items ++ header_lines (map (λ t. t.now) (take l.name-index l.names)) l.headers
