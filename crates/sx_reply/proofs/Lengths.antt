-- The length that a head states.
use Rattle.std.proofs.Common.{◌≡◌, ℕ, Bool, List, [], ◌∷◌, ◌++◌, length, refl, sym, ap, ◌∙◌, append_assoc}
use Rattle.std.specs.Prelude.{codes}
use Rattle.std.specs.Fmt.{decimal}
use Rattle.sx_reply.specs.Values.{text_if}
use Rattle.sx_reply.specs.Headers.{line}
use Rattle.sx_reply.specs.Pages.{end_text}
use Rattle.sx_reply.specs.Laws.{HasLine}

-- the end of a head begins with the line on the length
pub end_states : (n : ℕ) (close : Bool)
    → end_text n close ≡ line (codes "Content-Length: ") (decimal n) ++ (text_if close (codes "Connection: close\r\n") ++ (codes "\r\n" ++ []))
unfolding end_text
end_states n close =
    ap (λ (t : List ℕ). codes "Content-Length: " ++ t)
    (sym (append_assoc (decimal n) (codes "\r\n" ++ []) (text_if close (codes "Connection: close\r\n") ++ (codes "\r\n" ++ []))))

-- so a head has it
pub head_states : (front : List ℕ) (n : ℕ) (close : Bool) → HasLine (front ++ end_text n close) (line (codes "Content-Length: ") (decimal n))
head_states front n close = record {
  before = front;
  behind = text_if close (codes "Connection: close\r\n") ++ (codes "\r\n" ++ []);
  whole = ap (λ (t : List ℕ). front ++ t) (end_states n close)
      ∙ sym (append_assoc front (line (codes "Content-Length: ") (decimal n)) (text_if close (codes "Connection: close\r\n") ++ (codes "\r\n" ++ [])));
}
