use Rattle.std.proofs.Common.{ℕ, List, Option, None, subst, inl}
use Rattle.sx_http.specs.Heads.{HeadFor}
use Rattle.sx_http.specs.declared.heads.Head.{Head}
use Rattle.sx_tool.proofs.found.find_head.Goals as goal

pub returns-in-Ok-None-clause-found : goal.returns-in-Ok-None-clause-found
returns-in-Ok-None-clause-found g c =
    let none : HeadFor c.as_slice.result.now None = subst (λ (o : Option Head). HeadFor c.as_slice.result.now o) c.in-Ok-None.field-0-is c.in-Ok-None.ensures in (
      inl (record {
        bytes = c.in-Whole.bytes;
        taken = c.in-Whole.ensures.gathered.0;
        is_none = subst (λ (b : List ℕ). HeadFor b None) c.as_slice.ensures none;
      }),
      c.in-Whole.ensures.gathered.1,
    )
