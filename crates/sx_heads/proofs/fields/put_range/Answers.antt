use Rattle.std.proofs.Common.{◌≡◌, ℕ, List, ◌++◌, Some, codes, OnOk, subst}
use Rattle.sx_heads.specs.Fields.{headers_of, one}
use Rattle.sx_heads.proofs.fields.put_range.Goals as goal

pub returns : goal.returns
returns c =
    subst (λ (x : List ℕ). OnOk c.put_text.result (c.put_text.new.headers ≡ c.args.headers.now ++ headers_of (one (codes "x-ms-range") (Some x))))
    c.in_ok-value.ensures c.put_text.ensures
