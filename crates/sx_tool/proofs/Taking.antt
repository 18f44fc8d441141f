-- Taking an input piece by piece.
use Rattle.std.proofs.Common.{ℕ, ◌+◌, ◌<◌, ◌≤◌, ◌≡◌, List, ◌++◌, length, sym, ap, ◌∙◌, subst, arith, length-append}
use Rattle.std.specs.declared.option.Option.{Option}
use Rattle.std.specs.declared.option.Option.TheVariants.{None, Some}
use Rattle.std.specs.Io.KnownBytes.{Keeps, Consumes, IsAtEnd}
use Rattle.sx_base.proofs.Streams.{consumes_more}
use Rattle.sx_http.specs.declared.limits.TheConstants.{HEAD_LIMIT}
use Rattle.sx_tool.specs.declared.gathered.TheConstants.{PIECE_LIMIT}
use Rattle.sx_tool.specs.Inputs.{Takes, TakesAll, TakesSome}

pub consumes_then_kept : (a b c : Option (List ℕ)) (bytes : List ℕ) → Consumes a b bytes → Keeps b c → Consumes a c bytes
consumes_then_kept None b c bytes h k = tt
consumes_then_kept (Some xs) None c bytes h k = absurd h
consumes_then_kept (Some xs) (Some ys) None bytes h k = absurd k
consumes_then_kept (Some xs) (Some ys) (Some zs) bytes h k = h ∙ ap (λ (t : List ℕ). bytes ++ t) (sym k)

-- a piece was taken behind what was taken
pub taken_more : (a b c : Option (List ℕ)) (old new bytes : List ℕ) → Takes a b old → length old ≤ HEAD_LIMIT → new ≡ old ++ bytes → length bytes ≤ PIECE_LIMIT → Consumes b c bytes → Takes a c new
taken_more a b c old new bytes h short e few k = record {
  taken = subst (Consumes a c) (sym e) (consumes_more a b c old bytes h.taken k);
  few = omega (arith, short, few, ap length e, length-append old bytes);
}

-- nothing more was taken
pub taken_kept : (a b c : Option (List ℕ)) (bytes : List ℕ) → Takes a b bytes → Keeps b c → Takes a c bytes
taken_kept a b c bytes h k = record { taken = consumes_then_kept a b c bytes h.taken k; few = h.few }
