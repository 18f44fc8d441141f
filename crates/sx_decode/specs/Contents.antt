-- The content headers, and the digest of a body.
use Rattle.std.specs.Prelude.{ℕ, List, codes, if◌then◌else◌, Option, Some, None, Ok, Err}
use Rattle.sx_http.specs.declared.heads.Header.{Header}
use Rattle.sx_names.specs.Header.{is_content_text}
use Rattle.sx_names.specs.Content.{md5_of}
use Rattle.sx_names.specs.declared.content.Content.{Content}
use Rattle.sx_call.specs.declared.refusals.Syntax.TheVariants.{Header as BadHeader}
use Rattle.sx_decode.specs.Reading.{Reading, with_next}
use Rattle.sx_decode.specs.Lookup.{one_header}

-- a text of at most 1,024 bytes that a header can carry, where it is given
abbrev pub text_read : List ℕ → Option (List ℕ) → Reading (Option (List ℕ))
text_read name None = Ok None
text_read name (Some text) = if is_content_text text then Ok (Some text) else Err (BadHeader name)

-- a content header
unfoldable pub content_text : List ℕ → List Header → Reading (Option (List ℕ))
content_text name headers = with_next (one_header name headers) (text_read name)

-- the digest that is spelled
abbrev pub digest_read : List ℕ → Option (List ℕ) → Reading (Option (List ℕ))
digest_read name None = Err (BadHeader name)
digest_read name (Some digest) = Ok (Some digest)

-- the digest that is spelled, where one is given
abbrev pub digest_if_given : List ℕ → Option (List ℕ) → Reading (Option (List ℕ))
digest_if_given name None = Ok None
digest_if_given name (Some text) = digest_read name (md5_of text)

-- a header with the strict base64 of 16 bytes
unfoldable pub digest_of : List ℕ → List Header → Reading (Option (List ℕ))
digest_of name headers = with_next (one_header name headers) (digest_if_given name)

-- the content headers
unfoldable pub content_of : List Header → Reading Content
content_of headers =
    with_next (content_text (codes "x-ms-content-type") headers) (λ kind.
    with_next (content_text (codes "x-ms-content-encoding") headers) (λ encoding.
    with_next (content_text (codes "x-ms-content-language") headers) (λ language.
    with_next (content_text (codes "x-ms-cache-control") headers) (λ cache_control.
    with_next (content_text (codes "x-ms-content-disposition") headers) (λ disposition.
    with_next (digest_of (codes "x-ms-content-md5") headers) (λ md5.
    Ok (record {
      kind = kind;
      encoding = encoding;
      language = language;
      cache_control = cache_control;
      disposition = disposition;
      md5 = md5;
    })))))))
