-- The refusals of a whole head, and of one that is too long.
use Rattle.std.specs.Prelude.{ℕ, zero, suc, ◌≤◌, ◌≡◌, List, length}
use Rattle.httparse.specs.Grammar.{RequestHead, print_request, ReadsRequest}
use Rattle.sx_http.specs.declared.limits.TheConstants.{HEAD_LIMIT}
use Rattle.sx_http.specs.Heads.{head_of}
use Rattle.sx_http.specs.Facts.{no_facts}
use Rattle.sx_http.specs.RequestStream.{Reason, OnReadFault}
use Rattle.sx_http.specs.declared.heads.Head.{Head}
use Rattle.sx_http.specs.declared.next.Long.TheVariants.{Head as OfHead}
use Rattle.sx_http.specs.declared.next.Next.{Next}
use Rattle.sx_http.specs.declared.next.Next.TheVariants.{End, Cut, TooLong}

-- the answer is right of all bytes that begin with that head
pub record Refuses (head : Head) (at : ℕ) (next : Next) : Type 0 where
  pub reason : (bytes rest : List ℕ) (tree : RequestHead) (room : ℕ) → ReadsRequest bytes tree rest
      → length (print_request tree) ≤ HEAD_LIMIT → head ≡ head_of tree → Reason next at room bytes
  pub fault : OnReadFault next ⊥

-- the answer where no head stands within its limit
abbrev pub long_head : ℕ → Next
long_head at = TooLong at OfHead HEAD_LIMIT no_facts

-- the answer at the end of the source, by how many bytes are held
abbrev pub ended_with : ℕ → Next
ended_with zero = End
ended_with (suc n) = Cut (suc n)
