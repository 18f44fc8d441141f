use Rattle.std.proofs.Common.{◌≡◌, List, ◌++◌, Some, codes, OnOk, subst}
use Rattle.sx_http.specs.declared.heads.Header.{Header}
use Rattle.sx_heads.specs.Fields.{headers_of, one}
use Rattle.sx_heads.specs.Values.{bool_text}
use Rattle.sx_heads.proofs.directory_heads.put_close.Goals as goal

pub returns : goal.returns
returns c =
    subst (λ (hs : List Header). OnOk c.put_recursive.result (c.put_recursive.new.headers ≡ hs ++ headers_of (one (codes "x-ms-recursive") (Some (bool_text c.args.call.now.recursive)))))
    c.in_ok-put_handle.ensures c.put_recursive.ensures
