use Rattle.std.proofs.Common.{◌≡◌, ℕ, List, ◌++◌, Some, codes, OnOk, subst}
use Rattle.sx_heads.specs.Fields.{headers_of, one}
use Rattle.sx_heads.proofs.directory_heads.put_recursive.Goals as goal

pub returns : goal.returns
returns c =
    subst (λ (x : List ℕ). OnOk c.put.result (c.put.new.headers ≡ c.args.headers.now ++ headers_of (one (codes "x-ms-recursive") (Some x))))
    c.bool_text.ensures c.put.ensures
