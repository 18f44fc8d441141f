-- The request of Force Close Handles, from its parts.
use Rattle.std.proofs.Common.{◌≡◌, ℕ, List, [], codes, true, Some, None, IfOk, Result}
use Rattle.sx_http.specs.declared.heads.Header.{Header}
use Rattle.sx_http.specs.declared.heads.Request.{Request}
use Rattle.sx_call.specs.declared.directory_calls.ForceCloseHandles.{ForceCloseHandles}
use Rattle.sx_decode.specs.declared.targets.Place.TheVariants.{Inside}
use Rattle.sx_heads.specs.DirectorySpellings.{of_path, close_fields, force_close_handles}
use Rattle.sx_heads.specs.Fields.{with_fields}
use Rattle.sx_heads.specs.Spellings.{ending, target_text, headers_spelled, request_of}

pub close_request : {E : Type 0} (c : ForceCloseHandles) (r : Result Request E) (target body : List ℕ) (headers : List Header)
    → target ≡ target_text (Inside c.at) (of_path (Some (codes "forceclosehandles")) None) → headers ≡ with_fields [] (close_fields c) → body ≡ []
    → IfOk r (λ x. x ≡ record { head = record { method = codes "PUT"; target = target; v11 = true; headers = with_fields headers (ending body) }; body = body })
    → IfOk r (λ x. x ≡ request_of (force_close_handles c))
unfolding request_of headers_spelled force_close_handles
close_request c r target body headers t h b k = rw (t, h, b) at k
