-- A text with a text behind it.
use Rattle.std.proofs.Common.{◌≡◌, ℕ, List, [], ◌++◌, true, Result, Ok, Err, IsUtf8, refl, sym, subst}
use Rattle.std.specs.Prelude.{OnOk, OnErr}
use Rattle.std.specs.Str.{is_utf8}
use Rattle.std.proofs.lemmas.Str.{is_utf8-from_IsUtf8, IsUtf8-from_is_utf8, IsUtf8-append}

-- what stands after an attempt to append a text is a text
pub appended_utf8 : {E : Type 0} (text more new : List ℕ) (result : Result (Unit {0}) E) → is_utf8 text ≡ true → IsUtf8 more →
    OnOk result (new ≡ text ++ more) → OnErr result (new ≡ text) → is_utf8 new ≡ true
appended_utf8 text more new (Ok done) utf8 also ok err =
    subst (λ bs. is_utf8 bs ≡ true) (sym ok) (is_utf8-from_IsUtf8 (text ++ more) (IsUtf8-append text more (IsUtf8-from_is_utf8 text utf8) also))
appended_utf8 text more new (Err e) utf8 also ok err = subst (λ bs. is_utf8 bs ≡ true) (sym err) utf8

-- the empty text is a text
pub empty_utf8 : is_utf8 [] ≡ true
empty_utf8 = is_utf8-from_IsUtf8 [] ([], (refl, refl))
