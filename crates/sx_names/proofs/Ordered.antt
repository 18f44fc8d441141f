-- Metadata with one pair more.
use Rattle.std.proofs.Common.{◌≡◌, length-append, suc, ◌+◌, ◌-◌, Bool, true, false, ◌&&◌, List, [], ◌∷◌, ◌++◌, length, refl, sym, ap, ◌∙◌, arith, nat_le, ◌≤◌, Option, Some, None}
use Rattle.std.specs.Prelude.{slice_get}
use Rattle.std.specs.List.{list_all}
use Rattle.std.proofs.lemmas.List.Folds.{list_all-append}
use Rattle.std.proofs.lemmas.Option.{slice_get-get_or}
use Rattle.std.proofs.lemmas.Bool.{leb-true}
use Rattle.sx_names.specs.declared.meta_pair.MetaPair.{MetaPair}
use Rattle.sx_names.specs.Meta.{is_meta, is_meta_pair, meta_length, pair_length, follows, in_order, has_room}
use Rattle.sx_names.specs.declared.meta.TheConstants.{MAX_META_NAMES, MAX_META_BYTES}

-- the last pair, or else the one before all
abbrev last_or : Option MetaPair → List MetaPair → Option MetaPair
last_or before [] = before
last_or before (p ∷ ps) = last_or (Some p) ps

last_is : (p : MetaPair) (ps : List MetaPair) → last_or (Some p) ps ≡ slice_get (p ∷ ps) (length ps)
last_is p [] = sym (slice_get-get_or (p ∷ []) 0 p (omega arith))
last_is p (q ∷ ps) =
    last_is q ps ∙ slice_get-get_or (q ∷ ps) (length ps) p (omega arith) ∙ sym (slice_get-get_or (p ∷ q ∷ ps) (suc (length ps)) p (omega arith))

last_of : (ps : List MetaPair) → last_or None ps ≡ slice_get ps (length ps - 1)
last_of [] = refl
last_of (p ∷ ps) = last_is p ps ∙ ap (λ k. slice_get (p ∷ ps) k) (omega arith)

and_assoc : (a b c : Bool) → (a && (b && c)) ≡ (a && b && c)
and_assoc true b c = refl
and_assoc false b c = refl

and_true : (a : Bool) → (a && true) ≡ a
and_true true = refl
and_true false = refl

in_order_more : (before : Option MetaPair) (ps : List MetaPair) (p : MetaPair) → in_order before (ps ++ p ∷ []) ≡ (in_order before ps && follows (last_or before ps) p)
in_order_more before [] p = and_true (follows before p)
in_order_more before (q ∷ ps) p =
    ap (λ b. follows before q && b) (in_order_more (Some q) ps p) ∙ and_assoc (follows before q) (in_order (Some q) ps) (follows (last_or (Some q) ps) p)

pub meta_length_more : (ps : List MetaPair) (p : MetaPair) → meta_length (ps ++ p ∷ []) ≡ meta_length ps + pair_length p
meta_length_more [] p = omega arith
meta_length_more (q ∷ ps) p = omega (arith, meta_length_more ps p)

length_more : (ps : List MetaPair) (p : MetaPair) → length (ps ++ p ∷ []) ≡ suc (length ps)
length_more ps p = omega (arith, length-append ps (p ∷ []))

-- of five facts: where those on what stands hold, and the pair is one, what is left are the facts on the longer list
both : (all order few short pair follow place room : Bool) → (all && order && few && short) ≡ true → pair ≡ true →
    (all && (pair && true) && (order && follow) && place && room) ≡ (follow && (place && room))
both true true few short true true place room h k = refl
both true true few short true false place room h k = refl
both true true few short false follow place room h k = cc
both true false few short pair follow place room h k = cc
both false order few short pair follow place room h k = cc

-- a pair may follow metadata where its name follows the last, and there is room for it
pub meta_more : (ps : List MetaPair) (p : MetaPair) → is_meta ps ≡ true → is_meta_pair p ≡ true →
    is_meta (ps ++ p ∷ []) ≡ (follows (slice_get ps (length ps - 1)) p && has_room ps p)
unfolding is_meta
meta_more ps p meta pair =
    rw (list_all-append is_meta_pair ps (p ∷ []), in_order_more None ps p, last_of ps, length_more ps p, meta_length_more ps p)
    (both (list_all is_meta_pair ps) (in_order None ps) (nat_le (length ps) MAX_META_NAMES)
    (nat_le (meta_length ps) MAX_META_BYTES) (is_meta_pair p) (follows (slice_get ps (length ps - 1)) p)
    (nat_le (suc (length ps)) MAX_META_NAMES) (nat_le (meta_length ps + pair_length p) MAX_META_BYTES) meta pair)

parts_true : (all order few short : Bool) → (all && order && few && short) ≡ true → (few ≡ true) × (short ≡ true)
parts_true true true true true h = (refl, refl)
parts_true true true true false h = cc
parts_true true true false short h = cc
parts_true true false few short h = cc
parts_true false order few short h = cc

-- metadata has at most 64 names, and at most 8,192 bytes
pub meta_limits : (ps : List MetaPair) → is_meta ps ≡ true → (length ps ≤ MAX_META_NAMES) × (meta_length ps ≤ MAX_META_BYTES)
unfolding is_meta
meta_limits ps meta =
    let parts = parts_true (list_all is_meta_pair ps) (in_order None ps) (nat_le (length ps) MAX_META_NAMES)
    (nat_le (meta_length ps) MAX_META_BYTES) meta in
    (leb-true (length ps) MAX_META_NAMES parts.0, leb-true (meta_length ps) MAX_META_BYTES parts.1)

-- the same, from what was computed
pub takes_by : (ps : List MetaPair) (p : MetaPair) (room after : Bool) → is_meta ps ≡ true → is_meta_pair p ≡ true →
    room ≡ has_room ps p → follows (slice_get ps (length ps - 1)) p ≡ after → (after && room) ≡ is_meta (ps ++ p ∷ [])
takes_by ps p room after meta pair e f = rw (meta_more ps p meta pair, e, f) refl
