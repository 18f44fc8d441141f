-- The moment that a text names is the one that is read.
use Rattle.std.proofs.Common.{◌≡◌, ℕ, ◌++◌, List, [], ◌∷◌, length, refl, sym, ◌∙◌, arith, Option, Some, None}
use Rattle.std.proofs.Common.{Result, Ok, Err}
use Rattle.std.proofs.lemmas.Bool.{cases_eq}
use Rattle.std.proofs.lemmas.List.{append-nil}
use Rattle.sx_text.proofs.Laws.{is_whole}
use Rattle.sx_base.specs.Moment.{moment_text, IsWritten}
use Rattle.sx_base.specs.MomentReader.{moment_at, ReadsMoment}
use Rattle.sx_base.specs.declared.moment_reader.BadMoment.{BadMoment}
use Rattle.sx_base.proofs.MomentFields.{moment-reading}
use Rattle.sx_decode.specs.Moments.{whole_moment, moment_of}

-- the text of a moment names it
shown_is : (text : List ℕ) (at : ℕ) → IsWritten at → text ≡ moment_text at → moment_of text ≡ Some at
unfolding moment_of
shown_is text at le is =
    let back = (moment-reading (length (moment_text at ++ []))).again at [] (omega arith) le in
    rw (is ∙ sym (append-nil (moment_text at)), back) refl

-- a text that is no moment's names none
none_is : (text : List ℕ) (r : Result (ℕ × List ℕ) ℕ) → moment_at text ≡ r → ((at : ℕ) → IsWritten at → text ≡ moment_text at → ⊥) → whole_moment r ≡ None
none_is text (Ok (at, [])) e none =
    let w = is_whole cases_eq moment_text IsWritten moment_at text at [] moment-reading e (omega arith) in
    absurd (none at w.0 w.1)
none_is text (Ok (at, b ∷ bs)) e none = refl
none_is text (Err left) e none = refl

-- what is read of a text, if it is a moment's
abbrev pub if_read : Result ℕ BadMoment → Option ℕ
if_read (Ok at) = Some at
if_read (Err bad) = None

pub moment_is : (text : List ℕ) (r : Result ℕ BadMoment) → ReadsMoment text r → moment_of text ≡ if_read r
unfolding moment_of
moment_is text (Ok at) q = shown_is text at q.0 q.1
moment_is text (Err bad) q = none_is text (moment_at text) refl q.none
