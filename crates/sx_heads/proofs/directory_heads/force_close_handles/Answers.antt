use Rattle.std.proofs.Common.{ℕ, List, codes, Some, None, ap, ◌∙◌}
use Rattle.sx_http.specs.declared.heads.Header.{Header}
use Rattle.sx_decode.specs.declared.targets.Place.TheVariants.{Inside}
use Rattle.sx_heads.specs.DirectorySpellings.{of_path, close_fields}
use Rattle.sx_heads.specs.Fields.{with_fields}
use Rattle.sx_heads.specs.Spellings.{target_text}
use Rattle.sx_heads.proofs.CloseRequests.{close_request}
use Rattle.sx_heads.proofs.directory_heads.force_close_handles.Goals as goal

pub returns : goal.returns
returns c =
    close_request c.args.call.now c.request_with.result c.in_ok-target.target c.new.result c.put_close.new.headers
    (c.in_ok-target.ensures ∙ ap (λ (path : List (List ℕ)). target_text (Inside (record { share = c.args.call.now.at.share; path = path })) (of_path (Some (codes "forceclosehandles")) None)) c.parts.ensures.value)
    (c.in_ok-put_close.ensures ∙ ap (λ (hs : List Header). with_fields hs (close_fields c.args.call.now)) c.new-headers.ensures)
    c.new.ensures c.request_with.ensures
