-- The line that spells a call on a handle says this call.
use Rattle.std.proofs.Common.{codes, ◌≡◌, ℕ, ◌+◌, ◌-◌, ◌^◌, ◌≤◌, ◌<◌, Bool, true, false, ◌&&◌, nat_lt, nat_le, List, [], ◌∷◌, ◌++◌, length, bytes_eq, Option, Some, None, Ok}
use Rattle.std.proofs.Common.{refl, sym, ap, subst, ◌∙◌, arith}
use Rattle.std.specs.Fmt.{decimal}
use Rattle.std.specs.Str.{is_utf8}
use Rattle.std.specs.List.{list_all}
use Rattle.std.proofs.lemmas.Bool.{and_parts, leb-true, ltb-true}
use Rattle.hex.specs.Hex.{encode_lower, IsBytes}
use Rattle.sx_extent.specs.Ranges.{Interval}
use Rattle.sx_call.specs.FieldLimits.{IsHandleIndex}
use Rattle.sx_call.specs.Lengths.{is_file_length}
use Rattle.sx_call.specs.Ranges.{BytesAt, is_byte_range, is_read_range}
use Rattle.sx_call.specs.Updates.{PieceAt, is_handle_write}
use Rattle.sx_names.specs.Limits.{IsPageSize}
use Rattle.sx_call.specs.declared.calls.Call.{Call}
use Rattle.sx_call.specs.declared.calls.Call.TheVariants.{SmbClose, SmbRead, SmbWrite, SmbResize, SmbLock, SmbUnlock, SmbStat, SmbList, SmbDispose}
use Rattle.sx_lines.specs.declared.line.Line.{Line}
use Rattle.sx_lines.specs.declared.line.Line.TheVariants.{Ask}
use Rattle.sx_lines.specs.declared.verb.Verb.{Verb}
use Rattle.sx_lines.specs.declared.verb.Verb.TheVariants.{Close, Read, Write, Resize, Lock, Unlock, Stat, List as Lists, Dispose}
use Rattle.sx_lines.specs.Words.{next_word, behind_next, end_of}
use Rattle.sx_lines.specs.Fields.{index_of, offset_of, length_of, page_size_of, read_range_of, byte_range_of, write_of, marker_of, choice_of}
use Rattle.sx_lines.specs.Lines.{close_call, read_call, write_call, resize_call, lock_in, lock_call, unlock_call, stat_call, list_call, dispose_call, call_said, verb_of, line_read, line_of}
use Rattle.sx_lines.specs.Answers.{next_text}
use Rattle.sx_lines.proofs.SpelledWords.{is_visible, is_printed, IsWord, IsBehind, both_pass, word_printed, first_is, behind_is, next_is, rest_is, without_return_same, printed_utf8}
use Rattle.sx_lines.proofs.SpelledNumbers.{decimal_word, number_is}
use Rattle.sx_lines.proofs.SpelledBytes.{hex_word, hex_is}
use Rattle.sx_lines.proofs.SpelledPaths.{marker_word, marker_is}

-- nothing, or words of visible characters with a space before each
abbrev pub IsTail : List ℕ → Type 0
IsTail rest = IsBehind rest × (list_all is_printed rest ≡ true)

pub no_tail : IsTail []
no_tail = (tt, refl)

pub more_tail : (w rest : List ℕ) → IsWord w → IsTail rest → IsTail (32 ∷ (w ++ rest))
more_tail w rest h t = (refl, both_pass is_printed w rest (word_printed w h) t.1)

-- the line is a text that says the call
abbrev pub Says : List ℕ → Call → Type 0
Says line call = (line_of line ≡ Ok (Ask call)) × (is_utf8 line ≡ true)

pub said : (verb rest : List ℕ) (v : Verb) (call : Call) → IsWord verb → bytes_eq verb (codes "quit") ≡ false → verb_of verb ≡ Some v
    → IsTail rest → call_said v rest ≡ Ok call → Says (verb ++ rest) call
unfolding line_of line_read
said verb rest v call w other is t e =
    let printed = both_pass is_printed verb rest (word_printed verb w) t.1 in
    (rw (without_return_same (verb ++ rest) printed, first_is verb rest w t.0, other, is, behind_is verb rest w t.0, e) refl, printed_utf8 (verb ++ rest) printed)

-- the fields

pub index_is : (index : ℕ) → IsHandleIndex index → index_of (decimal index) ≡ Some index
unfolding index_of
index_is index h = number_is 1 4294967295 index h.0 (omega (arith, h.1)) (omega (arith, h.1))

pub index_word : (index : ℕ) → IsHandleIndex index → IsWord (decimal index)
index_word index h = decimal_word index (omega (arith, h.1))

offset_is : (at : ℕ) → at < 2 ^ 64 → offset_of (decimal at) ≡ Some at
unfolding offset_of
offset_is at h = number_is 0 18446744073709551615 at (omega arith) (omega (arith, h)) h

length_small : (bytes : ℕ) → is_file_length bytes ≡ true → bytes < 2 ^ 64
length_small bytes h = let l = leb-true bytes 4398046511104 h in omega (arith, l)

length_is : (bytes : ℕ) → is_file_length bytes ≡ true → length_of (decimal bytes) ≡ Some bytes
unfolding length_of
length_is bytes h = rw (offset_is bytes (length_small bytes h), h) refl

size_is : (size : ℕ) → IsPageSize size → page_size_of (decimal size) ≡ Some size
unfolding page_size_of
size_is size h = number_is 1 5000 size h.least h.most (omega (arith, h.most))

read_small : (r : BytesAt) → is_read_range r ≡ true → (1 ≤ r.count) × (r.count ≤ 1048576) × (r.at < 2 ^ 64)
read_small r h =
    let p = and_parts _ _ h in
    let q = and_parts (nat_lt 0 r.count) (nat_le r.count 1048576) p.0 in
    let some = ltb-true 0 r.count q.0 in
    let most = leb-true r.count 1048576 q.1 in
    let end = leb-true (r.at + r.count) 9223372036854775808 p.1 in
    (omega (arith, some), most, omega (arith, end))

range_is : (r : BytesAt) → is_read_range r ≡ true → read_range_of r.at (decimal r.count) ≡ Some r
unfolding read_range_of
range_is r h = let s = read_small r h in rw (number_is 1 1048576 r.count s.0 s.1 (omega (arith, s.1)), h) refl

lock_small : (i : Interval) → is_byte_range i ≡ true → (i.from < 2 ^ 64) × (i.end - i.from < 2 ^ 64) × (i.from + (i.end - i.from) ≡ i.end)
lock_small i h =
    let p = and_parts (nat_lt i.from i.end) (nat_le i.end 9223372036854775808) h in
    let some = ltb-true i.from i.end p.0 in
    let most = leb-true i.end 9223372036854775808 p.1 in
    (omega (arith, some, most), omega (arith, most), omega (arith, some))

locked_is : (i : Interval) → is_byte_range i ≡ true → byte_range_of i.from (decimal (i.end - i.from)) ≡ Some i
unfolding byte_range_of
locked_is i h = let s = lock_small i h in rw (offset_is (i.end - i.from) s.1, s.2, h) refl

write_small : (w : PieceAt) → is_handle_write w ≡ true → w.at < 2 ^ 64
write_small w h = let p = leb-true (w.at + length w.piece) 4398046511104 (and_parts (nat_lt 0 (length w.piece) && nat_le (length w.piece) 1048576) _ h).1 in omega (arith, p)

written_is : (w : PieceAt) → is_handle_write w ≡ true → IsBytes w.piece → write_of w.at (encode_lower w.piece) ≡ Some w
unfolding write_of
written_is w h b = rw (hex_is w.piece b, h) refl

-- the calls

close_said : (index : ℕ) → IsHandleIndex index → close_call (32 ∷ (decimal index ++ [])) ≡ Ok (SmbClose (record { index = index }))
unfolding close_call end_of
close_said index h =
    let w = index_word index h in
    rw (next_is (decimal index) [] w tt, rest_is (decimal index) [] w tt, index_is index h) refl

pub close_says : (index : ℕ) → IsHandleIndex index → Says (codes "close" ++ (32 ∷ (decimal index ++ []))) (SmbClose (record { index = index }))
unfolding call_said verb_of
close_says index h =
    said (codes "close") (32 ∷ (decimal index ++ [])) Close (SmbClose (record { index = index })) refl refl refl
    (more_tail (decimal index) [] (index_word index h) no_tail) (close_said index h)

stat_said : (index : ℕ) → IsHandleIndex index → stat_call (32 ∷ (decimal index ++ [])) ≡ Ok (SmbStat (record { index = index }))
unfolding stat_call end_of
stat_said index h =
    let w = index_word index h in
    rw (next_is (decimal index) [] w tt, rest_is (decimal index) [] w tt, index_is index h) refl

pub stat_says : (index : ℕ) → IsHandleIndex index → Says (codes "stat" ++ (32 ∷ (decimal index ++ []))) (SmbStat (record { index = index }))
unfolding call_said verb_of
stat_says index h =
    said (codes "stat") (32 ∷ (decimal index ++ [])) Stat (SmbStat (record { index = index })) refl refl refl
    (more_tail (decimal index) [] (index_word index h) no_tail) (stat_said index h)

-- two words behind the verb, the second of which is of any kind

two_said : (w v : List ℕ) → IsWord w → IsWord v
    → (next_word (32 ∷ (w ++ 32 ∷ (v ++ []))) ≡ w) × (behind_next (32 ∷ (w ++ 32 ∷ (v ++ []))) ≡ 32 ∷ (v ++ []))
    × (next_word (32 ∷ (v ++ [])) ≡ v) × (behind_next (32 ∷ (v ++ [])) ≡ []) × IsTail (32 ∷ (w ++ 32 ∷ (v ++ [])))
two_said w v a b = (
  next_is w (32 ∷ (v ++ [])) a refl,
  rest_is w (32 ∷ (v ++ [])) a refl,
  next_is v [] b tt,
  rest_is v [] b tt,
  more_tail w (32 ∷ (v ++ [])) a (more_tail v [] b no_tail),
)

resize_said : (index bytes : ℕ) → IsHandleIndex index → is_file_length bytes ≡ true
    → resize_call (32 ∷ (decimal index ++ 32 ∷ (decimal bytes ++ []))) ≡ Ok (SmbResize (record { index = index; length = bytes }))
unfolding resize_call end_of
resize_said index bytes h k =
    let s = two_said (decimal index) (decimal bytes) (index_word index h) (decimal_word bytes (length_small bytes k)) in
    rw (s.1, s.0, s.3, s.2, index_is index h, length_is bytes k) refl

pub resize_says : (index bytes : ℕ) → IsHandleIndex index → is_file_length bytes ≡ true
    → Says (codes "resize" ++ (32 ∷ (decimal index ++ 32 ∷ (decimal bytes ++ [])))) (SmbResize (record { index = index; length = bytes }))
unfolding call_said verb_of
resize_says index bytes h k =
    let s = two_said (decimal index) (decimal bytes) (index_word index h) (decimal_word bytes (length_small bytes k)) in
    said (codes "resize") (32 ∷ (decimal index ++ 32 ∷ (decimal bytes ++ []))) Resize (SmbResize (record { index = index; length = bytes })) refl refl refl
    s.4 (resize_said index bytes h k)

dispose_said : (index : ℕ) (on : Bool) (v : List ℕ) → IsHandleIndex index → IsWord v → choice_of (codes "on") (codes "off") v ≡ Some on
    → dispose_call (32 ∷ (decimal index ++ 32 ∷ (v ++ []))) ≡ Ok (SmbDispose (record { index = index; on = on }))
unfolding dispose_call end_of
dispose_said index on v h b e =
    let s = two_said (decimal index) v (index_word index h) b in
    rw (s.1, s.0, s.3, s.2, index_is index h, e) refl

pub dispose_says : (index : ℕ) (on : Bool) (v : List ℕ) → IsHandleIndex index → IsWord v → choice_of (codes "on") (codes "off") v ≡ Some on
    → Says (codes "dispose" ++ (32 ∷ (decimal index ++ 32 ∷ (v ++ [])))) (SmbDispose (record { index = index; on = on }))
unfolding call_said verb_of
dispose_says index on v h b e =
    said (codes "dispose") (32 ∷ (decimal index ++ 32 ∷ (v ++ []))) Dispose (SmbDispose (record { index = index; on = on })) refl refl refl
    (two_said (decimal index) v (index_word index h) b).4 (dispose_said index on v h b e)

-- three words behind the verb

three_said : (w v u : List ℕ) → IsWord w → IsWord v → IsWord u
    → (next_word (32 ∷ (w ++ 32 ∷ (v ++ 32 ∷ (u ++ [])))) ≡ w) × (behind_next (32 ∷ (w ++ 32 ∷ (v ++ 32 ∷ (u ++ [])))) ≡ 32 ∷ (v ++ 32 ∷ (u ++ [])))
    × (next_word (32 ∷ (v ++ 32 ∷ (u ++ []))) ≡ v) × (behind_next (32 ∷ (v ++ 32 ∷ (u ++ []))) ≡ 32 ∷ (u ++ []))
    × (next_word (32 ∷ (u ++ [])) ≡ u) × (behind_next (32 ∷ (u ++ [])) ≡ []) × IsTail (32 ∷ (w ++ 32 ∷ (v ++ 32 ∷ (u ++ []))))
three_said w v u a b d = (
  next_is w (32 ∷ (v ++ 32 ∷ (u ++ []))) a refl,
  rest_is w (32 ∷ (v ++ 32 ∷ (u ++ []))) a refl,
  next_is v (32 ∷ (u ++ [])) b refl,
  rest_is v (32 ∷ (u ++ [])) b refl,
  next_is u [] d tt,
  rest_is u [] d tt,
  more_tail w (32 ∷ (v ++ 32 ∷ (u ++ []))) a (more_tail v (32 ∷ (u ++ [])) b (more_tail u [] d no_tail)),
)

read_said : (index : ℕ) (r : BytesAt) → IsHandleIndex index → is_read_range r ≡ true
    → read_call (32 ∷ (decimal index ++ 32 ∷ (decimal r.at ++ 32 ∷ (decimal r.count ++ [])))) ≡ Ok (SmbRead (record { index = index; range = r }))
unfolding read_call end_of
read_said index r h k =
    let small = read_small r k in
    let s = three_said (decimal index) (decimal r.at) (decimal r.count) (index_word index h) (decimal_word r.at small.2) (decimal_word r.count (omega (arith, small.1))) in
    rw (s.1, s.0, s.3, s.2, s.5, s.4, index_is index h, offset_is r.at small.2, range_is r k) refl

pub read_says : (index : ℕ) (r : BytesAt) → IsHandleIndex index → is_read_range r ≡ true
    → Says (codes "read" ++ (32 ∷ (decimal index ++ 32 ∷ (decimal r.at ++ 32 ∷ (decimal r.count ++ []))))) (SmbRead (record { index = index; range = r }))
unfolding call_said verb_of
read_says index r h k =
    let small = read_small r k in
    let s = three_said (decimal index) (decimal r.at) (decimal r.count) (index_word index h) (decimal_word r.at small.2) (decimal_word r.count (omega (arith, small.1))) in
    said (codes "read") (32 ∷ (decimal index ++ 32 ∷ (decimal r.at ++ 32 ∷ (decimal r.count ++ [])))) Read (SmbRead (record { index = index; range = r })) refl refl refl
    s.6 (read_said index r h k)

write_said : (index : ℕ) (w : PieceAt) → IsHandleIndex index → is_handle_write w ≡ true → IsBytes w.piece
    → write_call (32 ∷ (decimal index ++ 32 ∷ (decimal w.at ++ 32 ∷ (encode_lower w.piece ++ [])))) ≡ Ok (SmbWrite (record { index = index; write = w }))
unfolding write_call end_of
write_said index w h k b =
    let small = write_small w k in
    let s = three_said (decimal index) (decimal w.at) (encode_lower w.piece) (index_word index h) (decimal_word w.at small) (hex_word w.piece b) in
    rw (s.1, s.0, s.3, s.2, s.5, s.4, index_is index h, offset_is w.at small, written_is w k b) refl

pub write_says : (index : ℕ) (w : PieceAt) → IsHandleIndex index → is_handle_write w ≡ true → IsBytes w.piece
    → Says (codes "write" ++ (32 ∷ (decimal index ++ 32 ∷ (decimal w.at ++ 32 ∷ (encode_lower w.piece ++ []))))) (SmbWrite (record { index = index; write = w }))
unfolding call_said verb_of
write_says index w h k b =
    let small = write_small w k in
    let s = three_said (decimal index) (decimal w.at) (encode_lower w.piece) (index_word index h) (decimal_word w.at small) (hex_word w.piece b) in
    said (codes "write") (32 ∷ (decimal index ++ 32 ∷ (decimal w.at ++ 32 ∷ (encode_lower w.piece ++ [])))) Write (SmbWrite (record { index = index; write = w })) refl refl refl
    s.6 (write_said index w h k b)

list_said : (index : ℕ) (marker : List ℕ) (size : ℕ) → IsHandleIndex index → is_utf8 marker ≡ true → IsPageSize size
    → list_call (32 ∷ (decimal index ++ 32 ∷ (next_text marker ++ 32 ∷ (decimal size ++ [])))) ≡ Ok (SmbList (record { index = index; marker = marker; max = size }))
unfolding list_call end_of
list_said index marker size h u p =
    let s = three_said (decimal index) (next_text marker) (decimal size) (index_word index h) (marker_word marker u) (decimal_word size (omega (arith, p.most))) in
    rw (s.1, s.0, s.3, s.2, s.5, s.4, index_is index h, marker_is marker u, size_is size p) refl

pub list_says : (index : ℕ) (marker : List ℕ) (size : ℕ) → IsHandleIndex index → is_utf8 marker ≡ true → IsPageSize size
    → Says (codes "list" ++ (32 ∷ (decimal index ++ 32 ∷ (next_text marker ++ 32 ∷ (decimal size ++ []))))) (SmbList (record { index = index; marker = marker; max = size }))
unfolding call_said verb_of
list_says index marker size h u p =
    let s = three_said (decimal index) (next_text marker) (decimal size) (index_word index h) (marker_word marker u) (decimal_word size (omega (arith, p.most))) in
    said (codes "list") (32 ∷ (decimal index ++ 32 ∷ (next_text marker ++ 32 ∷ (decimal size ++ [])))) Lists (SmbList (record { index = index; marker = marker; max = size })) refl refl refl
    s.6 (list_said index marker size h u p)

-- four words behind the verb

abbrev pub lock_tail : ℕ → Interval → List ℕ → List ℕ
lock_tail index i kind = 32 ∷ (decimal index ++ 32 ∷ (decimal i.from ++ 32 ∷ (decimal (i.end - i.from) ++ 32 ∷ (kind ++ []))))

lock_tail_is : (index : ℕ) (i : Interval) (kind : List ℕ) → IsHandleIndex index → is_byte_range i ≡ true → IsWord kind → IsTail (lock_tail index i kind)
lock_tail_is index i kind h k w =
    let small = lock_small i k in
    let s = three_said (decimal i.from) (decimal (i.end - i.from)) kind (decimal_word i.from small.0) (decimal_word (i.end - i.from) small.1) w in
    more_tail (decimal index) (32 ∷ (decimal i.from ++ 32 ∷ (decimal (i.end - i.from) ++ 32 ∷ (kind ++ [])))) (index_word index h) s.6

lock_said : (index : ℕ) (i : Interval) (exclusive : Bool) (kind : List ℕ) → IsHandleIndex index → is_byte_range i ≡ true → IsWord kind
    → choice_of (codes "exclusive") (codes "shared") kind ≡ Some exclusive
    → lock_in (lock_tail index i kind) ≡ Ok (record { index = index; range = i; exclusive = exclusive })
unfolding lock_in end_of
lock_said index i exclusive kind h k w e =
    let small = lock_small i k in
    let n = index_word index h in
    let s = three_said (decimal i.from) (decimal (i.end - i.from)) kind (decimal_word i.from small.0) (decimal_word (i.end - i.from) small.1) w in
    rw (
      rest_is (decimal index) (32 ∷ (decimal i.from ++ 32 ∷ (decimal (i.end - i.from) ++ 32 ∷ (kind ++ [])))) n refl,
      next_is (decimal index) (32 ∷ (decimal i.from ++ 32 ∷ (decimal (i.end - i.from) ++ 32 ∷ (kind ++ [])))) n refl,
      s.1,
      s.0,
      s.3,
      s.2,
      s.5,
      s.4,
      index_is index h,
      offset_is i.from small.0,
      locked_is i k,
      e,
    ) refl

pub lock_says : (index : ℕ) (i : Interval) (exclusive : Bool) (kind : List ℕ) → IsHandleIndex index → is_byte_range i ≡ true → IsWord kind
    → choice_of (codes "exclusive") (codes "shared") kind ≡ Some exclusive
    → Says (codes "lock" ++ lock_tail index i kind) (SmbLock (record { index = index; range = i; exclusive = exclusive }))
unfolding call_said verb_of lock_call
lock_says index i exclusive kind h k w e =
    said (codes "lock") (lock_tail index i kind) Lock (SmbLock (record { index = index; range = i; exclusive = exclusive })) refl refl refl
    (lock_tail_is index i kind h k w) (rw (lock_said index i exclusive kind h k w e) refl)

pub unlock_says : (index : ℕ) (i : Interval) (exclusive : Bool) (kind : List ℕ) → IsHandleIndex index → is_byte_range i ≡ true → IsWord kind
    → choice_of (codes "exclusive") (codes "shared") kind ≡ Some exclusive
    → Says (codes "unlock" ++ lock_tail index i kind) (SmbUnlock (record { index = index; range = i; exclusive = exclusive }))
unfolding call_said verb_of unlock_call
unlock_says index i exclusive kind h k w e =
    said (codes "unlock") (lock_tail index i kind) Unlock (SmbUnlock (record { index = index; range = i; exclusive = exclusive })) refl refl refl
    (lock_tail_is index i kind h k w) (rw (lock_said index i exclusive kind h k w e) refl)
