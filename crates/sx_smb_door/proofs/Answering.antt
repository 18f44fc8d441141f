-- What a reader's answer says of its stream.
use Rattle.std.proofs.Common.{ℕ, ◌+◌, ◌-◌, ◌≤◌, ◌≡◌, ◌⊎◌, ⊎_elim, inl, inr, List, ◌++◌, length, take, drop, refl, sym, ap, ◌∙◌, subst, position, arith, length-append, length-take, IfSome}
use Rattle.std.specs.declared.option.Option.{Option}
use Rattle.std.specs.declared.option.Option.TheVariants.{None, Some}
use Rattle.std.specs.Io.KnownBytes.{Keeps, IsAtEnd, prepend_known}
use Rattle.std.proofs.Math.Seq.{take-append-le}
use Rattle.std.proofs.lemmas.List.{append-nil}
use Rattle.std.proofs.lemmas.List.Quantifiers.{position-Some}
use Rattle.sx_base.proofs.Streams.{keeps_same, keeps_more, consumes_held, consumes_kept, end_kept}
use Rattle.sx_lines.specs.declared.line.TheConstants.{LINE_LIMIT}
use Rattle.sx_smb_door.specs.LineReaderView.{LineReaderView}
use Rattle.sx_smb_door.specs.Lines.{is_line_end, IsOneLine, BeginsUnended, IsCutLine, with_line_feed, line_stream, GivesLine, KeepsStream, IsReason, IsNextLine, HasReadCause, WantsMore}
use Rattle.sx_smb_door.specs.declared.lines.NextLine.{NextLine}
use Rattle.sx_smb_door.specs.declared.lines.NextLine.TheVariants.{Line, End, Cut, Long, Spent, ReadFault, NoMemory}
use Rattle.sx_smb_door.proofs.Splits.{one_front, first_line}

-- a reader that did nothing
pub stays_same : (reader : LineReaderView) (left : Option (List ℕ)) → KeepsStream reader reader left left
stays_same reader left = record { bytes = keeps_same (line_stream reader left); taken = refl; budget = refl }

-- one step after another
pub stays_more : (a b c : LineReaderView) (l m n : Option (List ℕ)) → KeepsStream a b l m → KeepsStream b c m n → KeepsStream a c l n
stays_more a b c l m n h k = record {
  bytes = keeps_more (line_stream a l) (line_stream b m) (line_stream c n) h.bytes k.bytes;
  taken = k.taken ∙ h.taken;
  budget = k.budget ∙ h.budget;
}

-- what holds of kept bytes held before
pub told_kept : (P : List ℕ → Type 0) (a b : Option (List ℕ)) → Keeps a b → IfSome b P → IfSome a P
told_kept P None b h k = tt
told_kept P (Some xs) None h k = absurd h
told_kept P (Some xs) (Some ys) h k = subst P h k

-- what is held at the end is all that is left
pub told_end : (a b : Option (List ℕ)) (held : List ℕ) → Keeps a (prepend_known held b) → IsAtEnd b → IfSome a (λ bytes. bytes ≡ held)
told_end None b held h k = tt
told_end (Some xs) None held h k = absurd h
told_end (Some xs) (Some ys) held h k = sym h ∙ ap (λ zs. held ++ zs) k ∙ append-nil held

-- what is held begins the stream
pub told_front : (a b : Option (List ℕ)) (held : List ℕ) (n : ℕ) → Keeps a (prepend_known held b) → BeginsUnended n held → IfSome a (BeginsUnended n)
told_front None b held n h k = tt
told_front (Some xs) None held n h k = absurd h
told_front (Some xs) (Some ys) held n h k =
    let P : List ℕ → Type 0 = λ zs. IsOneLine zs in
    let front : take n (held ++ ys) ≡ take n held = take-append-le n held ys k.0 in
    let Q : List ℕ → Type 0 = λ zs. BeginsUnended n zs in
    subst Q h (omega (arith, k.0, length-append held ys), subst P (sym front) k.1)

-- that a line is over its limit
pub long_answered : (reader : LineReaderView) (left : Option (List ℕ)) (n : ℕ) → BeginsUnended (LINE_LIMIT + 1) reader.held → IsNextLine (Long reader.taken) reader reader left left n n
long_answered reader left n h = (stays_same reader left, (told_front (line_stream reader left) left reader.held (LINE_LIMIT + 1) (keeps_same (line_stream reader left)) h, h, refl))

-- that a line is given
pub line_given : (old new : LineReaderView) (line : List ℕ) (i : ℕ) (left : Option (List ℕ)) → position is_line_end old.held ≡ Some i → i ≤ LINE_LIMIT → line ≡ take i old.held
    → new ≡ record { held = drop (i + 1) old.held; taken = old.taken + i + 1; budget = old.budget } → new.taken + length new.held ≤ new.budget → GivesLine line old new left left
line_given old new line i left e short is now within =
    let at = position-Some is_line_end old.held i 0 e in
    let front = one_front old.held i i e (omega arith) in
    let count : length line ≡ i = ap length is ∙ omega (arith, front.0, length-take i old.held) in
    let rest : new.held ≡ drop (i + 1) old.held = ap (λ (r : LineReaderView). r.held) now in
    let whole : old.held ≡ with_line_feed line ++ new.held = rw (is, rest) (first_line old.held i e) in
    let P : List ℕ → Type 0 = λ zs. IsOneLine zs in
    record {
      bytes = consumes_held old.held new.held (with_line_feed line) left whole;
      one = subst P (sym is) front.1;
      short = omega (arith, count, short);
      taken = ap (λ (r : LineReaderView). r.taken) now ∙ omega (arith, count);
      within = omega (arith, within);
      budget = ap (λ (r : LineReaderView). r.budget) now;
    }

-- a reason, as an answer
pub reason_answered : (next : NextLine) (old new : LineReaderView) (left left' : Option (List ℕ)) (before now : ℕ) → KeepsStream old new left left' → IsReason next new (line_stream old left) before now → IsNextLine next old new left left' before now
reason_answered (Line line) old new left left' before now h k = absurd k
reason_answered End old new left left' before now h k = (h, k)
reason_answered (Cut n) old new left left' before now h k = (h, k)
reason_answered (Long at) old new left left' before now h k = (h, k)
reason_answered Spent old new left left' before now h k = (h, k)
reason_answered ReadFault old new left left' before now h k = (h, k)
reason_answered NoMemory old new left left' before now h k = (h, k)

-- a reason stands for the stream as it was before
pub reason_kept : (next : NextLine) (reader : LineReaderView) (a b : Option (List ℕ)) (before mid now : ℕ) → Keeps a b → before ≤ mid → IsReason next reader b mid now → IsReason next reader a before now
reason_kept (Line line) reader a b before mid now h le k = k
reason_kept End reader a b before mid now h le k = (end_kept a b h k.0, k.1, k.2)
reason_kept (Cut n) reader a b before mid now h le k = (told_kept (IsCutLine n) a b h k.0, k.1, k.2, k.3, k.4)
reason_kept (Long at) reader a b before mid now h le k = (told_kept (BeginsUnended (LINE_LIMIT + 1)) a b h k.0, k.1, k.2)
reason_kept Spent reader a b before mid now h le k = (told_kept (BeginsUnended (reader.budget - reader.taken)) a b h k.0, k.1, k.2, k.3)
reason_kept ReadFault reader a b before mid now h le k = (omega (arith, le, k.0), k.1)
reason_kept NoMemory reader a b before mid now h le k = k

-- an answer after a step that gave nothing
pub answered_more : (next : NextLine) (a b c : LineReaderView) (l m n : Option (List ℕ)) (before mid now : ℕ) → KeepsStream a b l m → before ≤ mid → IsNextLine next b c m n mid now → IsNextLine next a c l n before now
answered_more (Line line) a b c l m n before mid now h le k = record {
  bytes = consumes_kept (line_stream a l) (line_stream b m) (line_stream c n) (with_line_feed line) h.bytes k.bytes;
  one = k.one;
  short = k.short;
  taken = k.taken ∙ ap (λ (t : ℕ). t + length line + 1) h.taken;
  within = k.within;
  budget = k.budget ∙ h.budget;
}
answered_more End a b c l m n before mid now h le k = (stays_more a b c l m n h k.0, reason_kept End c (line_stream a l) (line_stream b m) before mid now h.bytes le k.1)
answered_more (Cut i) a b c l m n before mid now h le k = (stays_more a b c l m n h k.0, reason_kept (Cut i) c (line_stream a l) (line_stream b m) before mid now h.bytes le k.1)
answered_more (Long at) a b c l m n before mid now h le k = (stays_more a b c l m n h k.0, reason_kept (Long at) c (line_stream a l) (line_stream b m) before mid now h.bytes le k.1)
answered_more Spent a b c l m n before mid now h le k = (stays_more a b c l m n h k.0, reason_kept Spent c (line_stream a l) (line_stream b m) before mid now h.bytes le k.1)
answered_more ReadFault a b c l m n before mid now h le k = (stays_more a b c l m n h k.0, reason_kept ReadFault c (line_stream a l) (line_stream b m) before mid now h.bytes le k.1)
answered_more NoMemory a b c l m n before mid now h le k = (stays_more a b c l m n h k.0, k.1)

-- the count of failed reads, after a step that left it
pub cause_more : (next : NextLine) (before mid now : ℕ) → mid ≡ before → HasReadCause next mid now → HasReadCause next before now
cause_more next before mid now e h = subst (λ (n : ℕ). HasReadCause next n now) e h

-- and before a step that left it
pub cause_then : (next : NextLine) (before mid now : ℕ) → now ≡ mid → HasReadCause next before mid → HasReadCause next before now
cause_then next before mid now e h = subst (λ (n : ℕ). HasReadCause next before n) (sym e) h

-- as the call began nothing was read, or a read was wanted
abbrev pub ReadsWhereWanted : {S : Type 0} → S → S → LineReaderView → LineReaderView → Type 0
ReadsWhereWanted source now reader reader' = ((now ≡ source) × (reader' ≡ reader)) ⊎ WantsMore reader

-- where more is wanted, it was wanted as the call began
pub wanted_first : {S : Type 0} (source now : S) (reader reader' : LineReaderView) → ReadsWhereWanted source now reader reader' → WantsMore reader' → WantsMore reader
wanted_first source now reader reader' h more = ⊎_elim (λ (same : (now ≡ source) × (reader' ≡ reader)). subst WantsMore same.1 more) (λ (first : WantsMore reader). first) h

-- an answer that needed no read
pub unread_first : {S : Type 0} (source now : S) (reader reader' : LineReaderView) → ReadsWhereWanted source now reader reader' → (now ≡ source) ⊎ WantsMore reader
unread_first source now reader reader' h = ⊎_elim (λ (same : (now ≡ source) × (reader' ≡ reader)). inl same.0) (λ (first : WantsMore reader). inr first) h
