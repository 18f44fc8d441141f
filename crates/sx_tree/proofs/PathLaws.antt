-- What is found of a path is what the map of paths says of it.
use Rattle.std.proofs.Common.{◌≡◌, ℕ, ◌+◌, ◌-◌, ◌<◌, ◌==◌, Bool, true, false, cond, suc, List, [], ◌∷◌, ◌++◌, length, take, drop, min, take-take, Option, Some, None, refl, sym, ap, ◌∙◌, subst, inl, inr, arith, rules, append_assoc, append-nil, length-append}
use Rattle.std.proofs.Math.Seq.{take-append_seam}
use Rattle.std.proofs.lemmas.List.{take-append-drop, length-drop, length-take}
use Rattle.std.proofs.lemmas.Bool.{cases_lt, eqb-true, false≢true}
use Rattle.std.proofs.lemmas.Option.{same_Some}
use Rattle.sx_names.specs.Names.{fold}
use Rattle.sx_tree.specs.declared.node.Found.TheVariants as found
use Rattle.sx_tree.specs.Node.{is_directory}
use Rattle.sx_tree.specs.Tree.{Nodes, Slot, slot_at, child_of}
use Rattle.sx_tree.specs.Find.{goes_on, walk, found_in, id_under, named_in, id_from, id_of, holds_directory, has_directory, is_directory_at, Denotes, IsMissing}
use Rattle.sx_tree.specs.declared.node.Found.{Found}

-- a path behind another leads on from where that one leads
id_behind : (t : Nodes) (o : Option ℕ) (xs ys : List (List ℕ)) → id_from t o (xs ++ ys) ≡ id_from t (id_from t o xs) ys
id_behind t None xs ys = refl
id_behind t (Some id) [] ys = refl
id_behind t (Some id) (x ∷ xs) ys = id_behind t (named_in (slot_at t id) x) xs ys

id_here : (t : Nodes) (o : Option ℕ) → id_from t o [] ≡ o
id_here t None = refl
id_here t (Some id) = refl

-- where one more name leads
id_longer : (t : Nodes) (done : List (List ℕ)) (p : List ℕ) (id : ℕ) (o : Option (Option ℕ)) → id_of t done ≡ Some id → child_of (slot_at t id) (fold p) ≡ o → id_of t (done ++ p ∷ []) ≡ id_under o
id_longer t done p id o at e =
    id_behind t (Some t.root) done (p ∷ [])
    ∙ ap (λ (x : Option ℕ). id_from t x (p ∷ [])) at
    ∙ ap (λ (x : Option (Option ℕ)). id_from t (id_under x) []) e
    ∙ id_here t (id_under o)

none_some : {A : Type 0} {P : Type 0} (x : A) → ◌≡◌ {A = Option A} None (Some x) → P
none_some x e = search rules

dir_by : (b : Bool) (x : Option ℕ) (c : Option ℕ) → ◌≡◌ {A = Option (Option ℕ)} (cond b (Some x) None) (Some c) → b ≡ true
dir_by true x c e = refl
dir_by false x c e = none_some c e

-- a slot with names to look up is a directory's
is_dir : (s : Option Slot) (name : List ℕ) (c : Option ℕ) → child_of s name ≡ Some c → holds_directory s ≡ true
is_dir None name c e = none_some c e
is_dir (Some s) name c e = dir_by (is_directory s.node.kind) _ c e

no_dir_by : (b : Bool) (x : Option ℕ) → ◌≡◌ {A = Option (Option ℕ)} (cond b (Some x) None) None → b ≡ false
no_dir_by true x e = none_some x (sym e)
no_dir_by false x e = refl

no_dir : (s : Option Slot) (name : List ℕ) → child_of s name ≡ None → holds_directory s ≡ false
no_dir None name e = refl
no_dir (Some s) name e = no_dir_by (is_directory s.node.kind) _ e

nothing : {A : Type 0} (xs : List A) → length xs ≡ 0 → xs ≡ []
nothing [] e = refl
nothing (x ∷ xs) e = absurd (omega arith)

-- a part of a path up to where it was walked, with what is known of it
module _ (t : Nodes) (path done : List (List ℕ)) (p : List ℕ) (rest : List (List ℕ)) (id : ℕ) (is : path ≡ done ++ p ∷ rest) (at : id_of t done ≡ Some id) (dirs : (n : ℕ) → n < length done → is_directory_at t (take n path) ≡ true) where
  front : take (length done) path ≡ done
  front = ap (take (length done)) is ∙ take-append_seam done (p ∷ rest)

  count : length path ≡ length done + suc (length rest)
  count = ap length is ∙ length-append done (p ∷ rest)

  longer : take (length done + 1) path ≡ done ++ p ∷ []
  longer =
      let l : length done + 1 ≡ length (done ++ p ∷ []) = sym (length-append done (p ∷ [])) in
      ap (λ (k : ℕ). take k path) l ∙ ap (take (length (done ++ p ∷ []))) (is ∙ sym (append_assoc done (p ∷ []) rest)) ∙ take-append_seam (done ++ p ∷ []) rest

  here : is_directory_at t (take (length done) path) ≡ holds_directory (slot_at t id)
  here = ap (is_directory_at t) front ∙ ap (has_directory t) at

  dirs_longer : (c : Option ℕ) → child_of (slot_at t id) (fold p) ≡ Some c → (n : ℕ) → n < length done + 1 → is_directory_at t (take n path) ≡ true
  dirs_longer c e n l = elim (cases_lt n (length done)) [
    | inl b ↦ dirs n b
    | inr b ↦ let k : n ≡ length done = omega arith in ap (λ (j : ℕ). is_directory_at t (take j path)) k ∙ here ∙ is_dir (slot_at t id) (fold p) c e
  ]

  -- the name isn't there: it is the last, or a prefix has no directory
  absent : (b : Bool) → (length rest == 0) ≡ b → child_of (slot_at t id) (fold p) ≡ Some None → Denotes t path (cond b (found.Missing id) (found.NoParent (length done + 1)))
  absent true last e =
      let z : length rest ≡ 0 = eqb-true (length rest) 0 last in
      let whole : path ≡ done ++ p ∷ [] = is ∙ ap (λ (ys : List (List ℕ)). done ++ p ∷ ys) (nothing rest z) in
      let n : length path ≡ length done + suc (length rest) = count in
      let k : length path - 1 ≡ length done = omega arith in
      record {
        none = ap (id_of t) whole ∙ id_longer t done p id (Some None) at e;
        above = ap (λ (j : ℕ). id_of t (take j path)) k ∙ ap (id_of t) front ∙ at;
        directory = is_dir (slot_at t id) (fold p) None e;
      }
  absent false more e =
      let n : length path ≡ length done + suc (length rest) = count in
      let z : length rest ≡ 0 → ⊥ = λ z. false≢true (sym more ∙ ap (λ (j : ℕ). j == 0) z) in
      record {
        proper = elim (cases_lt 0 (length rest)) [ inl l ↦ omega arith | inr l ↦ absurd (z (omega arith)) ];
        wrong = ap (is_directory_at t) longer ∙ ap (has_directory t) (id_longer t done p id (Some None) at e);
        least = dirs_longer None e;
      }

  -- a step of the walk
  step : (o : Option (Option ℕ)) → child_of (slot_at t id) (fold p) ≡ o → ((child : ℕ) → o ≡ Some (Some child) → Denotes t path (walk t child (length done + 1) rest)) → Denotes t path (goes_on id (length done) (length rest == 0) o (λ child. walk t child (length done + 1) rest))
  step None e next =
      let n : length path ≡ length done + suc (length rest) = count in
      record {
        proper = omega arith;
        wrong = here ∙ no_dir (slot_at t id) (fold p) e;
        least = dirs;
      }
  step (Some None) e next = absent (length rest == 0) refl e
  step (Some (Some child)) e next = next child refl

denotes : (t : Nodes) (path done ps : List (List ℕ)) (id : ℕ) → path ≡ done ++ ps → id_of t done ≡ Some id → ((n : ℕ) → n < length done → is_directory_at t (take n path) ≡ true) → Denotes t path (walk t id (length done) ps)
denotes t path done [] id is at dirs = ap (id_of t) (is ∙ append-nil done) ∙ at
denotes t path done (p ∷ ps) id is at dirs =
    step t path done p ps id is at dirs (child_of (slot_at t id) (fold p)) refl (λ child e.
    let l : length (done ++ p ∷ []) ≡ length done + 1 = length-append done (p ∷ []) in
    subst (λ (k : ℕ). Denotes t path (walk t child k ps)) l
    (denotes t path (done ++ p ∷ []) ps child (is ∙ sym (append_assoc done (p ∷ []) ps)) (id_longer t done p id (Some (Some child)) at e) (λ n b. dirs_longer t path done p ps id is at dirs (Some child) e n (rw l at b))))

pub found_denotes : (t : Nodes) (path : List (List ℕ)) → Denotes t path (found_in t path)
found_denotes t path = denotes t path [] path t.root refl refl (λ n l. absurd (omega arith))

-- ---- no other answer fits

clash : {P : Type 0} (b : Bool) → b ≡ true → b ≡ false → P
clash b t f = absurd (false≢true (sym f ∙ t))

leads_on : (t : Nodes) (o : Option ℕ) (y : List ℕ) (ys : List (List ℕ)) (c : ℕ) → id_from t o (y ∷ ys) ≡ Some c → has_directory t o ≡ true
leads_on t None y ys c e = none_some c e
leads_on t (Some id) y ys c e = by (child_of (slot_at t id) (fold y)) refl e
  where
    by : (q : Option (Option ℕ)) → child_of (slot_at t id) (fold y) ≡ q → id_from t (id_under q) ys ≡ Some c → holds_directory (slot_at t id) ≡ true
    by None q h = none_some c h
    by (Some x) q h = is_dir (slot_at t id) (fold y) x q

begins : (t : Nodes) (xs rest : List (List ℕ)) (c : ℕ) → 0 < length rest → id_of t (xs ++ rest) ≡ Some c → is_directory_at t xs ≡ true
begins t xs [] c l e = absurd (omega arith)
begins t xs (y ∷ ys) c l e = leads_on t (id_of t xs) y ys c (sym (id_behind t (Some t.root) xs (y ∷ ys)) ∙ e)

-- each proper prefix of a path that a node has is a directory's
front_dir : (t : Nodes) (path : List (List ℕ)) (n c : ℕ) → n < length path → id_of t path ≡ Some c → is_directory_at t (take n path) ≡ true
front_dir t path n c l e =
    let d : length (drop n path) ≡ length path - n = length-drop n path in
    begins t (take n path) (drop n path) c (omega arith) (ap (id_of t) (take-append-drop n path) ∙ e)

-- where a path is missing, each proper prefix of it is a directory's
missing_dir : (t : Nodes) (path : List (List ℕ)) (d n : ℕ) → IsMissing t path d → n < length path → is_directory_at t (take n path) ≡ true
missing_dir t path d n m l =
    let k : ℕ = length path - 1 in
    let lk : length (take k path) ≡ min k (length path) = length-take k path in
    elim (cases_lt n k) [
      | inl b ↦ ap (is_directory_at t) (sym (take-take n k path (omega arith))) ∙ front_dir t (take k path) n d (omega arith) m.above
      | inr b ↦ let e : n ≡ k = omega arith in ap (λ (j : ℕ). is_directory_at t (take j path)) e ∙ ap (has_directory t) m.above ∙ m.directory
    ]

agree : (t : Nodes) (path : List (List ℕ)) (f g : Found) → Denotes t path f → Denotes t path g → f ≡ g
agree t path (found.Node a) (found.Node b) p q = ap found.Node (same_Some a b (sym p ∙ q))
agree t path (found.Node a) (found.Missing d) p q = none_some a (sym q.none ∙ p)
agree t path (found.Node a) (found.NoParent n) p q = clash (is_directory_at t (take n path)) (front_dir t path n a q.proper p) q.wrong
agree t path (found.Missing d) (found.Node b) p q = none_some b (sym p.none ∙ q)
agree t path (found.Missing d) (found.Missing e) p q = ap found.Missing (same_Some d e (sym p.above ∙ q.above))
agree t path (found.Missing d) (found.NoParent n) p q = clash (is_directory_at t (take n path)) (missing_dir t path d n p q.proper) q.wrong
agree t path (found.NoParent n) (found.Node b) p q = clash (is_directory_at t (take n path)) (front_dir t path n b p.proper q) p.wrong
agree t path (found.NoParent n) (found.Missing d) p q = clash (is_directory_at t (take n path)) (missing_dir t path d n q p.proper) p.wrong
agree t path (found.NoParent n) (found.NoParent m) p q = elim (cases_lt n m) [
  | inl l ↦ clash (is_directory_at t (take n path)) (q.least n l) p.wrong
  | inr l ↦ elim (cases_lt m n) [
    | inl k ↦ clash (is_directory_at t (take m path)) (p.least m k) q.wrong
    | inr k ↦ let e : n ≡ m = omega arith in ap found.NoParent e
  ]
]

pub found_only : (t : Nodes) (path : List (List ℕ)) (f : Found) → Denotes t path f → f ≡ found_in t path
found_only t path f fits = agree t path f (found_in t path) fits (found_denotes t path)
