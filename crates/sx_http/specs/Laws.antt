-- Laws of requests on a stream: its bytes determine its requests, its heads and the reasons for which nothing is given.
use Rattle.std.specs.Prelude.{ℕ, ◌++◌, ◌≤◌, ◌≡◌, ◌⊎◌, List, length, take}
use Rattle.httparse.specs.Grammar.{NeverHasRequest, EndsInTarget}
use Rattle.sx_http.specs.Heads.{IsHead, head_window}
use Rattle.sx_http.specs.RequestStream.{IsRequest, Reason}
use Rattle.sx_http.specs.declared.heads.Head.{Head}
use Rattle.sx_http.specs.declared.heads.Request.{Request}
use Rattle.sx_http.specs.declared.next.Next.{Next}
use Rattle.sx_http.specs.declared.next.Next.TheVariants.{ReadFault, NoMemory}

-- bytes begin with at most one request
abbrev pub RequestsAreDetermined : Type 0
RequestsAreDetermined =
    (a b : Request) (text other rest more : List ℕ) → IsRequest text a → IsRequest other b → text ++ rest ≡ other
    ++ more
    → (text ≡ other) × (a ≡ b)

-- bytes begin with at most one head
abbrev pub HeadsAreDetermined : Type 0
HeadsAreDetermined =
    (a b : Head) (text other rest more : List ℕ) → IsHead text a → IsHead other b → text ++ rest ≡ other ++ more
    → (text ≡ other) × (a ≡ b)

-- the answer is told of bytes: it is neither a failed read nor out of memory
abbrev pub IsOfBytes : Next → Type 0
IsOfBytes ReadFault = ⊥
IsOfBytes NoMemory = ⊥
IsOfBytes next = Unit {0}

-- the bytes of a head end in a target, and no continuation of them is a head: the target isn't UTF-8
abbrev pub EndsInBadTarget : List ℕ → Type 0
EndsInBadTarget front = NeverHasRequest (head_window front) × EndsInTarget (head_window front)

-- bytes have at most one reason, but for those that end in a bad target: there a bad head, or that one may yet come,
-- can be told
abbrev pub ReasonsAreDetermined : Type 0
ReasonsAreDetermined =
    (a b : Next) (at room : ℕ) (front : List ℕ) → IsOfBytes a → IsOfBytes b → Reason a at room front
    → Reason b at room front
    → (a ≡ b) ⊎ EndsInBadTarget front

-- bytes that begin with a request within the budget have no reason
abbrev pub RequestsHaveNoReason : Type 0
RequestsHaveNoReason =
    (request : Request) (next : Next) (at room : ℕ) (text rest : List ℕ) → IsRequest text request → length text ≤ room
    → IsOfBytes next → ¬ (Reason next at room (take room (text ++ rest)))
