-- The body of an error is read exactly.
use Rattle.std.proofs.Common.{codes, ◌≡◌, ℕ, List, [], ◌++◌, refl, sym, append_assoc}
use Rattle.std.proofs.lemmas.Bool.{cases_eq}
use Rattle.sx_text.specs.Readers.{pair_at}
use Rattle.sx_text.specs.Escapes.{IsWhole, escaped_text, escaped_after}
use Rattle.sx_text.proofs.Laws.{Reads, pair-reading, made-reading}
use Rattle.sx_text.proofs.Literals.{closed-reading}
use Rattle.sx_text.proofs.EscapedTexts.{escaped_after-reading}
use Rattle.sx_text.proofs.Utf8.{whole_utf8, utf8_whole, nothing_whole}
use Rattle.sx_listing.specs.declared.error.ErrorBody.{ErrorBody}
use Rattle.sx_listing.specs.Error.{error_text, IsError, error_of, code_at, message_at, error_at}

abbrev front : List ℕ
front = codes "<?xml version=\"1.0\" encoding=\"utf-8\"?><Error><Code>"

abbrev code_rest : List ℕ → List ℕ
code_rest code = front ++ escaped_text code

abbrev message_rest : List ℕ → List ℕ
message_rest message = (codes "/Code><Message>" ++ escaped_text message) ++ codes "/Message></Error>"

error_is : (e : ErrorBody) → code_rest e.code ++ message_rest e.message ≡ error_text e
unfolding error_text
error_is e = simp append_assoc

pub error-reading : Reads cases_eq error_text IsError error_at
unfolding error_at message_at code_at
error-reading k =
    made-reading cases_eq k (λ (x : List ℕ × List ℕ). code_rest x.0 ++ message_rest x.1) (λ x. IsWhole x.0 × IsWhole x.1)
    (pair_at code_at (λ code. message_at)) error_of (λ e. (e.code, e.message)) error_text IsError
    (λ x h. ((whole_utf8 x.0 h.0, whole_utf8 x.1 h.1), sym (error_is (error_of x))))
    (λ e h. ((utf8_whole e.code h.0, utf8_whole e.message h.1), refl))
    (pair-reading cases_eq k code_rest IsWhole code_at (λ code message. message_rest message) (λ code message. IsWhole message)
    (λ code. message_at) (escaped_after-reading front) (λ code h. ([], nothing_whole))
    (λ code j h le. closed-reading (λ m. codes "/Code><Message>" ++ escaped_text m) IsWhole (escaped_after (codes "/Code><Message>"))
    (codes "/Message></Error>") (escaped_after-reading (codes "/Code><Message>")) j))
