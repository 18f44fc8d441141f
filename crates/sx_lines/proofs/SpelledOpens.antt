-- The line that spells an open says it, and so each line that spells a call.
use Rattle.std.proofs.Common.{codes, ◌≡◌, ℕ, ◌+◌, ◌-◌, ◌^◌, ◌≤◌, ◌<◌, Bool, true, false, not, ◌&&◌, ◌||◌, nat_lt, nat_le, List, [], ◌∷◌, ◌++◌, length, map, bytes_eq, Option, Some, None, Ok}
use Rattle.std.proofs.Common.{refl, sym, ap, subst, ◌∙◌, arith, append_assoc}
use Rattle.std.specs.Fmt.{decimal}
use Rattle.std.specs.Str.{is_utf8}
use Rattle.std.specs.List.{list_all}
use Rattle.std.proofs.lemmas.Bool.{and_parts, leb-true, ltb-true, ne_eqb}
use Rattle.std.proofs.lemmas.Bool.Decides.{nat_tests}
use Rattle.sx_guard.specs.declared.access.Access.{Access}
use Rattle.sx_guard.specs.declared.access.Mode.{Mode}
use Rattle.sx_names.specs.Names.{is_share_name, is_share_byte, is_path}
use Rattle.sx_call.specs.Opens.{OpenRights, is_open_rights}
use Rattle.sx_call.specs.Calls.{door_of}
use Rattle.sx_call.specs.CallLimits.{IsWithinLimits}
use Rattle.sx_call.specs.FieldLimits.{IsNamedPath}
use Rattle.sx_call.specs.declared.doors.Door.{Door}
use Rattle.sx_call.specs.declared.doors.Door.TheVariants.{InSession}
use Rattle.sx_call.specs.declared.opens.How.{How}
use Rattle.sx_call.specs.declared.opens.How.TheVariants.{Existing, Create, Either}
use Rattle.sx_call.specs.declared.session_calls.SmbOpen.{SmbOpen as OpenCall}
use Rattle.sx_call.specs.declared.calls.Call.{Call}
use Rattle.sx_call.specs.declared.calls.Call.TheVariants.{SmbOpen, SmbClose, SmbRead, SmbWrite, SmbResize, SmbLock, SmbUnlock, SmbStat, SmbList, SmbDispose}
use Rattle.sx_lines.specs.declared.verb.Verb.TheVariants.{Open}
use Rattle.sx_lines.specs.Words.{next_word, behind_next, end_of}
use Rattle.sx_lines.specs.Fields.{share_of, path_of, rights, rights_of, mode_of, how_of, choice_of}
use Rattle.sx_lines.specs.Opens.{rights_in, open_call}
use Rattle.sx_lines.specs.Lines.{call_said, verb_of}
use Rattle.sx_lines.specs.Printed.{path_text}
use Rattle.sx_lines.specs.Spelled.{letters_text, how_word, lock_word, opened_word, mark_word, open_text, call_text, HasBytes}
use Rattle.sx_reply.specs.Values.{text_if}
use Rattle.sx_lines.proofs.SpelledWords.{is_visible, is_printed, IsWord, IsBehind, both_pass, all_weaker, word_printed, first_is, behind_is, next_is, rest_is}
use Rattle.sx_lines.proofs.SpelledPaths.{path_word, path_is}
use Rattle.sx_lines.proofs.SpelledCalls.{IsTail, no_tail, more_tail, Says, said, close_says, read_says, write_says, resize_says, lock_says, unlock_says, stat_says, list_says, dispose_says}

share_visible : (b : ℕ) → is_share_byte b ≡ true → is_visible b ≡ true
share_visible b h = grind (arith, nat_tests)

share_word : (share : List ℕ) → is_share_name share ≡ true → IsWord share
share_word share h =
    let a = (and_parts _ _ h).0 in
    let b = (and_parts _ _ a).0 in
    let c = (and_parts _ _ b).0 in
    all_weaker is_share_byte is_visible share_visible share (and_parts _ (list_all is_share_byte share) c).1

share_is : (share : List ℕ) → is_share_name share ≡ true → share_of share ≡ Some share
share_is share h = rw h refl

rights_are : (read write delete : Bool) → (rights_of (letters_text read write delete) ≡ Some (rights read write delete)) × IsWord (letters_text read write delete)
unfolding rights_of
rights_are true true true = (refl, refl)
rights_are true true false = (refl, refl)
rights_are true false true = (refl, refl)
rights_are true false false = (refl, refl)
rights_are false true true = (refl, refl)
rights_are false true false = (refl, refl)
rights_are false false true = (refl, refl)
rights_are false false false = (refl, refl)

-- a mode's letters are those of rights
mode_is : (m : Mode) → mode_of (letters_text m.read m.write m.delete) ≡ Some m
unfolding mode_of
mode_is m = rw (rights_are m.read m.write m.delete).0 refl

-- the mark for delete on close, as the last word

abbrev doc_tail : Bool → List ℕ
doc_tail on_close = text_if on_close (codes " doc") ++ []

doc_at : (a : Access) (on : Bool) → is_open_rights (record { access = a; on_close = on }) ≡ true
    → (rights_in a (doc_tail on) ≡ Ok (record { access = a; on_close = on })) × (behind_next (doc_tail on) ≡ []) × IsTail (doc_tail on)
unfolding rights_in next_word behind_next
doc_at a true h = (rw h refl, refl, (refl, refl))
doc_at a false h = (refl, refl, (tt, refl))

doc_is : (r : OpenRights) → is_open_rights r ≡ true
    → (rights_in r.access (doc_tail r.on_close) ≡ Ok r) × (behind_next (doc_tail r.on_close) ≡ []) × IsTail (doc_tail r.on_close)
doc_is r h = doc_at r.access r.on_close h

how_is : (how : How) → (how_of (how_word how) ≡ Some how) × IsWord (how_word how)
unfolding how_of
how_is Existing = (refl, refl)
how_is Create = (refl, refl)
how_is Either = (refl, refl)

opened_is : (dir : Bool) → (choice_of (codes "dir") (codes "file") (opened_word dir) ≡ Some dir) × IsWord (opened_word dir)
opened_is true = (refl, refl)
opened_is false = (refl, refl)

lock_is : (exclusive : Bool) → (choice_of (codes "exclusive") (codes "shared") (lock_word exclusive) ≡ Some exclusive) × IsWord (lock_word exclusive)
lock_is true = (refl, refl)
lock_is false = (refl, refl)

mark_is : (on : Bool) → (choice_of (codes "on") (codes "off") (mark_word on) ≡ Some on) × IsWord (mark_word on)
mark_is true = (refl, refl)
mark_is false = (refl, refl)

-- the words of an open, behind its verb

abbrev pub open_tail : List ℕ → List ℕ → List ℕ → List ℕ → List ℕ → List ℕ → List ℕ → List ℕ
open_tail s p a m h k doc = 32 ∷ (s ++ 32 ∷ (p ++ 32 ∷ (a ++ 32 ∷ (m ++ 32 ∷ (h ++ 32 ∷ (k ++ doc))))))

open_tail_is : (s p a m h k doc : List ℕ) → IsWord s → IsWord p → IsWord a → IsWord m → IsWord h → IsWord k → IsTail doc → IsTail (open_tail s p a m h k doc)
open_tail_is s p a m h k doc ws wp wa wm wh wk wd =
    let k6 = 32 ∷ (k ++ doc) in
    let k5 = 32 ∷ (h ++ k6) in
    let k4 = 32 ∷ (m ++ k5) in
    let k3 = 32 ∷ (a ++ k4) in
    let k2 = 32 ∷ (p ++ k3) in
    more_tail s k2 ws (more_tail p k3 wp (more_tail a k4 wa (more_tail m k5 wm (more_tail h k6 wh (more_tail k doc wk wd)))))

open_said : (s p a m h k doc : List ℕ) (share : List ℕ) (path : List (List ℕ)) (access : Access) (mode : Mode) (how : How) (dir : Bool) (r : OpenRights)
    → IsWord s → IsWord p → IsWord a → IsWord m → IsWord h → IsWord k → IsBehind doc
    → share_of s ≡ Some share → path_of p ≡ Some path → rights_of a ≡ Some access → mode_of m ≡ Some mode → how_of h ≡ Some how
    → choice_of (codes "dir") (codes "file") k ≡ Some dir → rights_in access doc ≡ Ok r → behind_next doc ≡ []
    → open_call (open_tail s p a m h k doc) ≡ Ok (SmbOpen (record { share = share; path = path; access = r; mode = mode; how = how; dir = dir }))
unfolding open_call end_of
open_said s p a m h k doc share path access mode how dir r ws wp wa wm wh wk wd es ep ea em eh ek er ed =
    let k6 = 32 ∷ (k ++ doc) in
    let k5 = 32 ∷ (h ++ k6) in
    let k4 = 32 ∷ (m ++ k5) in
    let k3 = 32 ∷ (a ++ k4) in
    let k2 = 32 ∷ (p ++ k3) in
    rw (
      rest_is s k2 ws refl,
      rest_is p k3 wp refl,
      rest_is a k4 wa refl,
      rest_is m k5 wm refl,
      rest_is h k6 wh refl,
      rest_is k doc wk wd,
      next_is s k2 ws refl,
      next_is p k3 wp refl,
      next_is a k4 wa refl,
      next_is m k5 wm refl,
      next_is h k6 wh refl,
      next_is k doc wk wd,
      es,
      ep,
      ea,
      em,
      eh,
      ek,
      er,
      ed,
    ) refl

open_shape : (c : OpenCall) → open_text c ≡ codes "open"
    ++ open_tail c.share (path_text c.path) (letters_text c.access.access.read c.access.access.write c.access.access.delete) (letters_text c.mode.read c.mode.write c.mode.delete)
    (how_word c.how) (opened_word c.dir) (doc_tail c.access.on_close)
unfolding open_text
open_shape c =
    let path = path_text c.path in
    let rest = 32 ∷ (letters_text c.access.access.read c.access.access.write c.access.access.delete ++ 32 ∷ (letters_text c.mode.read c.mode.write c.mode.delete
    ++ 32 ∷ (how_word c.how ++ 32 ∷ (opened_word c.dir ++ doc_tail c.access.on_close)))) in
    ap (λ (x : List ℕ). codes "open " ++ x) (ap (λ (y : List ℕ). y ++ rest) (append_assoc c.share (32 ∷ []) path) ∙ append_assoc c.share (32 ∷ path) rest)

open_says : (c : OpenCall) → IsWithinLimits (SmbOpen c) → Says (open_text c) (SmbOpen c)
unfolding call_said verb_of
open_says c l =
    let access = c.access.access in
    let a = rights_are access.read access.write access.delete in
    let m = rights_are c.mode.read c.mode.write c.mode.delete in
    let h = how_is c.how in
    let k = opened_is c.dir in
    let d = doc_is c.access l.2 in
    let ws = share_word c.share l.0 in
    let wp = path_word c.path l.1.0 in
    let s = share_is c.share l.0 in
    let p = path_is c.path l.1.0 l.1.1 in
    let at = letters_text access.read access.write access.delete in
    let mt = letters_text c.mode.read c.mode.write c.mode.delete in
    let tail = open_tail c.share (path_text c.path) at mt (how_word c.how) (opened_word c.dir) (doc_tail c.access.on_close) in
    let is : open_call tail ≡ Ok (SmbOpen c) =
    open_said c.share (path_text c.path) at mt (how_word c.how) (opened_word c.dir) (doc_tail c.access.on_close)
    c.share c.path access c.mode c.how c.dir c.access ws wp a.1 m.1 h.1 k.1 d.2.0 s p a.0 (mode_is c.mode) h.0 k.0 d.0 d.1 in
    subst (λ (line : List ℕ). Says line (SmbOpen c)) (sym (open_shape c))
    (said (codes "open") tail Open (SmbOpen c) refl refl refl
    (open_tail_is c.share (path_text c.path) at mt (how_word c.how) (opened_word c.dir) (doc_tail c.access.on_close) ws wp a.1 m.1 h.1 k.1 d.2) is)

pub spelled : (call : Call) → IsWithinLimits call → HasBytes call → door_of call ≡ InSession → Says (call_text call) call
unfolding call_text
spelled (SmbOpen c) l b d = open_says c l
spelled (SmbClose c) l b d = close_says c.index l
spelled (SmbRead c) l b d = read_says c.index c.range l.0 l.1
spelled (SmbWrite c) l b d = write_says c.index c.write l.0 l.1 b
spelled (SmbResize c) l b d = resize_says c.index c.length l.0 l.1
spelled (SmbLock c) l b d = let k = lock_is c.exclusive in lock_says c.index c.range c.exclusive (lock_word c.exclusive) l.0 l.1 k.1 k.0
spelled (SmbUnlock c) l b d = let k = lock_is c.exclusive in unlock_says c.index c.range c.exclusive (lock_word c.exclusive) l.0 l.1 k.1 k.0
spelled (SmbStat c) l b d = stat_says c.index l
spelled (SmbList c) l b d = list_says c.index c.marker c.max l.0 l.1 l.2
spelled (SmbDispose c) l b d = let m = mark_is c.on in dispose_says c.index c.on (mark_word c.on) l m.1 m.0
spelled call l b d = cc
