-- Bodies that list items: the text as it is written, and as it is read.
use Rattle.std.proofs.Common.{◌≡◌, ℕ, ◌≤◌, List, [], ◌∷◌, ◌++◌, length, refl, sym, ap, subst, ◌∙◌, append_assoc, append-nil, Result, Ok, Err}
use Rattle.std.specs.List.{flat_map}
use Rattle.std.proofs.lemmas.Bool.{cases_eq}
use Rattle.sx_text.specs.Texts.{Reader}
use Rattle.sx_text.specs.Readers.{values_text}
use Rattle.sx_text.proofs.Laws.{Reading, Reads, one_text}
use Rattle.sx_listing.specs.Body.{ReadsBody, IsReadAs}
use Rattle.sx_listing.specs.declared.body.BodyFault.{BodyFault}
use Rattle.sx_listing.specs.declared.body.BodyFault.TheVariants.{Bad, NoMemory}

module _ {A : Type 0} (text rest : A → List ℕ) (moves : (a : A) → 60 ∷ rest a ≡ text a ++ 60 ∷ []) where
  -- items that are read without the `<` at their front and with the next one's are those that are written
  pub moved : (xs : List A) → 60 ∷ values_text rest 47 xs ≡ flat_map text xs ++ 60 ∷ 47 ∷ []
  moved [] = refl
  moved (x ∷ xs) =
      ap (λ front. front ++ values_text rest 47 xs) (moves x)
      ∙ append_assoc (text x) (60 ∷ []) (values_text rest 47 xs)
      ∙ ap (λ more. text x ++ more) (moved xs)
      ∙ sym (append_assoc (text x) (flat_map text xs) (60 ∷ 47 ∷ []))

-- what was written is read as it was
pub read_back : {A : Type 0} (text : A → List ℕ) (Fits : A → Type 0) (reader : Reader ℕ A) → Reads cases_eq text Fits reader
    → (value : A) (read : Result A BodyFault) → Fits value → ReadsBody text Fits (text value) read → IsReadAs value read
read_back text Fits reader ok value (Ok found) fits is =
    (one_text cases_eq text Fits reader ok found value [] [] is.0 fits (append-nil (text found) ∙ sym is.1 ∙ sym (append-nil (text value)))).0
read_back text Fits reader ok value (Err (Bad at)) fits is = is.none value fits refl
read_back text Fits reader ok value (Err NoMemory) fits is = tt

-- texts that are the same where the value fits
pub retext : {A : Type 0} (k : ℕ) (text text' : A → List ℕ) (Fits : A → Type 0) (read : Reader ℕ A) → ((a : A) → Fits a → text' a ≡ text a)
    → Reading cases_eq k text Fits read → Reading cases_eq k text' Fits read
retext k text text' Fits read same ok = record {
  takes = λ bytes a rest le e. let t = ok.takes bytes a rest le e in (t.0, t.1 ∙ ap (λ (x : List ℕ). x ++ rest) (sym (same a t.0)));
  again = λ a rest le fits.
      let e = ap (λ (x : List ℕ). x ++ rest) (same a fits) in
      ap read e ∙ ok.again a rest (subst (λ (y : List ℕ). length y ≤ k) e le) fits;
  fault = λ bytes left le e.
      let f = ok.fault bytes left le e in
      record { best = (f.best.0, f.best.1, rw (same f.best.0 f.best.1) f.best.2); most = λ a fits. rw (same a fits) (f.most a fits) };
}
