use Rattle.std.proofs.Common.{◌≡◌, map, take}
use Rattle.sx_http.specs.Heads.{header_at}
use Rattle.sx_http.proofs.parse.headers_of.Given as goal

-- the headers of the spans so far
abbrev pub invariant-loop-span : goal.invariant-loop-span
invariant-loop-span l = l.headers ≡ map (header_at l.bytes) (take l.span-index l.spans)
