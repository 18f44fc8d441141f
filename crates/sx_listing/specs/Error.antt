-- The body of an error: its text, and reading it.
use Rattle.std.specs.Prelude.{codes, ◌≡◌, ℕ, true, List, [], ◌∷◌}
use Rattle.std.specs.List.{concat}
use Rattle.std.specs.Str.{is_utf8}
use Rattle.sx_text.specs.Texts.{Reader}
use Rattle.sx_text.specs.Readers.{pair_at, closed_at, made_at}
use Rattle.sx_text.specs.Escapes.{escaped, escaped_after}
use Rattle.sx_listing.specs.declared.error.ErrorBody.{ErrorBody}

-- a code and a message
unfoldable pub error_text : ErrorBody → List ℕ
error_text error =
    concat (
    codes "<?xml version=\"1.0\" encoding=\"utf-8\"?><Error><Code>" ∷ escaped error.code
    ∷ codes "</Code><Message>" ∷ escaped error.message
    ∷ codes "</Message></Error>" ∷ [])

-- both are texts
abbrev pub IsError : ErrorBody → Type 0
IsError error = (is_utf8 error.code ≡ true) × (is_utf8 error.message ≡ true)

-- the error of this code and message
abbrev pub error_of : List ℕ × List ℕ → ErrorBody
error_of x = record { code = x.0; message = x.1 }

-- the message, from behind the code to the end
unfoldable pub message_at : Reader ℕ (List ℕ)
message_at bytes = closed_at (escaped_after (codes "/Code><Message>")) (codes "/Message></Error>") bytes

-- the code, from the beginning on
unfoldable pub code_at : Reader ℕ (List ℕ)
code_at bytes = escaped_after (codes "<?xml version=\"1.0\" encoding=\"utf-8\"?><Error><Code>") bytes

-- the error of a whole body
unfoldable pub error_at : Reader ℕ ErrorBody
error_at bytes = made_at error_of (pair_at code_at (λ code. message_at)) bytes
