-- A head has far fewer headers than bytes.
use Rattle.std.proofs.Common.{ℕ, zero, suc, ◌+◌, ◌*◌, ◌<◌, ◌≤◌, ◌≡◌, List, [], ◌∷◌, ◌++◌, length, ap, ◌∙◌, arith, length-append, suc-le-suc, zero-le}
use Rattle.std.specs.Prelude.{All}
use Rattle.std.specs.List.{flat_map}
use Rattle.httparse.specs.Grammar.{LineEnd, crlf, lf, print_end, Field, IsField, print_field, RequestHead, print_request}
use Rattle.httparse.specs.Spans.{RequestExceeds}

end_some : (e : LineEnd) → 1 ≤ length (print_end e)
end_some crlf = omega arith
end_some lf = omega arith

-- a name of a byte or more, a colon and a line end
field_three : (f : Field) → IsField f → 3 ≤ length (print_field f)
field_three f ok =
    let e = end_some f.end in
    let n = ok.name.0 in
    simp length-append (omega (arith, e, n))

fields_three : (fs : List Field) → All IsField fs → 3 * length fs ≤ length (flat_map print_field fs)
fields_three [] ok = omega arith
fields_three (f ∷ fs) ok =
    let whole : length (flat_map print_field (f ∷ fs)) ≡ length (print_field f) + length (flat_map print_field fs) = length-append (print_field f) _ in
    let first = field_three f (ok zero f (suc-le-suc zero-le)) in
    let rest = fields_three fs (λ k d lt. ok (suc k) d (suc-le-suc lt)) in
    omega (arith, whole, first, rest)

pub head_three : (h : RequestHead) → All IsField h.fields → 3 * length h.fields + 1 ≤ length (print_request h)
unfolding print_request
head_three h ok =
    let fields = fields_three h.fields ok in
    let last = end_some h.last in
    simp length-append (omega (arith, fields, last))

-- bytes with a head that has more headers than there is room for
pub room_exceeded : (room : ℕ) (bytes : List ℕ) → RequestExceeds room bytes → 3 * room < length bytes
room_exceeded room bytes (front, rest, is, h, reads, more) =
    let least = head_three h reads.0.fields in
    let text : length (front ++ print_end lf) ≡ length (print_request h ++ []) = ap length reads.1 in
    let ended : length (front ++ print_end lf) ≡ length front + 1 = length-append front (print_end lf) in
    let head : length (print_request h ++ []) ≡ length (print_request h) + 0 = length-append (print_request h) [] in
    let all : length bytes ≡ length front + length rest = ap length is ∙ length-append front rest in
    omega (arith, least, text, ended, head, all, more)
