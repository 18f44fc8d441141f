use Rattle.std.proofs.Common.{ℕ, ◌≡◌, ◌∙◌, List, length, take, min, ap, subst, arith}
use Rattle.sx_http.specs.declared.limits.TheConstants.{HEAD_LIMIT}
use Rattle.sx_http.specs.Heads.{IsParsed}
use Rattle.sx_http.proofs.Windows.{front_of}
use Rattle.sx_http.proofs.parse.parse_front.Goals as goal

pub returns : goal.returns
returns c =
    let bytes = c.args.bytes.now in
    let e : c.min.result ≡ min (length bytes) HEAD_LIMIT = omega (arith, c.min.ensures) in
    let P : List ℕ → Type 0 = λ bs. IsParsed bs c.parse_head.result in
    subst P (ap (λ (k : ℕ). take k bytes) e ∙ front_of HEAD_LIMIT bytes) c.parse_head.ensures
