use Rattle.std.proofs.Common.{ℕ, ◌≡◌, ◌≤◌, ◌+◌, ◌-◌, Bool, true, false, length}
use Rattle.std.specs.Io.KnownBytes.{IsAtEnd}
use Rattle.sx_http.specs.declared.limits.TheConstants.{HEAD_LIMIT}
use Rattle.sx_http.specs.RequestStream.{NeedsMore}
use Rattle.sx_http.specs.Filling.{Stays}
use Rattle.sx_http.proofs.reader.Reader.find_head.Given as goal

-- nothing was given since the call's begin, no read has failed, and nothing was read where an answer could be told at once
abbrev pub invariant-loop-head : goal.invariant-loop-head
invariant-loop-head g l = record {
  stays : Stays l.fn.self l.self (g.S.Source.left l.fn.source) (g.S.Source.left l.source);
  count : g.S.Source.read_count l.source ≡ g.S.Source.read_count l.fn.source;
  unread : ¬ (NeedsMore l.fn.self) → (l.source ≡ l.fn.source) × (l.self ≡ l.fn.self);
  end : l.ended ≡ true → IsAtEnd (g.S.Source.left l.source);
  open' : l.self.ended ≡ false;
  step : g.S.Source.reads l.fn.source l.source;
}

-- an end may still come
abbrev pub more_ends : Bool → ℕ
more_ends true = 0
more_ends false = 1

abbrev pub decreases-loop-head : goal.decreases-loop-head
decreases-loop-head g l = HEAD_LIMIT + 1 - length l.self.held + more_ends l.ended
