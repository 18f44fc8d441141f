-- The values of fields and parameters that are spelled are read back.
use Rattle.std.proofs.Common.{◌≡◌, ◌<◌, ◌≤◌, ℕ, ◌+◌, ◌-◌, ◌^◌, ◌==◌, nat_le, nat_lt, nat_eq, min, Bool, true, false, ◌||◌, List, [], ◌∷◌, ◌++◌, length, codes, bytes_eq}
use Rattle.std.proofs.Common.{Option, Some, None, Ok, arith, refl, ◌∙◌, decimal, append-nil, append_assoc, length-append, IfSome}
use Rattle.std.specs.Prelude.{All}
use Rattle.std.specs.List.{list_all, list_any}
use Rattle.std.specs.Option.{option_map}
use Rattle.std.specs.Str.{is_utf8}
use Rattle.std.proofs.lemmas.Bool.{false≢true, and_parts}
use Rattle.std.proofs.lemmas.Bool.Decides.{nat_tests}
use Rattle.std.proofs.lemmas.List.Elements.{All-nil, All-cons, All-head, All-tail}
use Rattle.std.proofs.lemmas.Fmt.{decimal_nonempty}
use Rattle.sx_base.specs.Moment.{moment_text, IsWritten}
use Rattle.sx_extent.specs.Ranges.{Interval, most_bytes}
use Rattle.sx_guard.specs.Handle.{Handle}
use Rattle.sx_lease.specs.declared.lease.LeaseId.{LeaseId}
use Rattle.sx_names.specs.Limits.{IsQuota, IsPageSize}
use Rattle.sx_names.specs.Names.{is_share_name, is_share_byte}
use Rattle.sx_names.specs.MetaPair.{is_meta_name, is_meta_byte}
use Rattle.sx_call.specs.FieldLimits.{IsLeaseId, IsHandleId, IsSharesMarker, IsTime, IsContentText}
use Rattle.sx_call.specs.Leases.{ReadScope, is_read_scope}
use Rattle.sx_call.specs.Lengths.{is_file_length}
use Rattle.sx_call.specs.Listings.{is_query_text}
use Rattle.sx_call.specs.Ranges.{BytesFrom, is_first, is_last, is_byte_range}
use Rattle.sx_call.specs.declared.ranges.TheConstants.{OFFSET_LIMIT}
use Rattle.sx_call.specs.declared.listings.SharesMarker.{SharesMarker}
use Rattle.sx_call.specs.declared.times.Time.{Time}
use Rattle.sx_call.specs.declared.times.Time.TheVariants.{Keep, Now, At}
use Rattle.sx_decode.specs.Numbers.{number_of, limited}
use Rattle.sx_decode.specs.Words.{is_word}
use Rattle.sx_decode.specs.Leases.{id_if_given, id_read, lease_id_of, scope_with}
use Rattle.sx_decode.specs.Asked.{page_size, limited_page, snapshot_named, query_text, or_empty}
use Rattle.sx_decode.specs.Contents.{text_read, digest_if_given}
use Rattle.sx_decode.specs.Facts.{time_or_now, time_or_kept}
use Rattle.sx_decode.specs.Handles.{handle_numbers, handle_named, handle_within, marker_read, recursive_read, is_dot, is_handle_number}
use Rattle.sx_decode.specs.Ranges.{is_dash, bytes_of, bounds_of, from_first, to_last, first_if_given, is_closed_in_order, interval_read}
use Rattle.sx_decode.specs.Markers.{is_at, shares_marker, shares_read, share_in_marker, moment_in_marker, names_marker, handles_marker}
use Rattle.sx_decode.specs.ShareRows.{quota_read}
use Rattle.sx_decode.specs.FileRows.{length_read, length_if_given}
use Rattle.sx_heads.specs.Digests.{IsReadDigest}
use Rattle.sx_heads.specs.Values.{escaped, id_text, bytes_text, last_text, interval_text, handle_text, handle_or_all, bool_text, time_text, at_moment, shares_marker_text, digest_text}
use Rattle.sx_heads.proofs.EncodedTexts.{text_back}
use Rattle.sx_heads.proofs.Paths.{cut_at, cut_none, share_name_all}
use Rattle.sx_heads.proofs.PlainTexts.{number_back, decimal_digits, digits_lack, decimal_first, moment_back, moment_no_now, moment_no_preserve, id_back, AreAscii, ascii_utf8, ascii_both, decimal_ascii, moment_ascii}

-- ---- numbers

limited_back : (name : List ℕ) (least most n : ℕ) → least ≤ n → n ≤ most → n < 2 ^ 64 → limited name least most (number_of (decimal n)) ≡ Ok n
unfolding limited
limited_back name least most n low high lt =
    let a : nat_le least n ≡ true = grind (arith, low) in
    let b : nat_le n most ≡ true = grind (arith, high) in
    rw (number_back n lt, a, b) refl

pub quota_back : (q : ℕ) → IsQuota q → quota_read (decimal q) ≡ Ok q
unfolding quota_read
quota_back q h = let low = h.least in let high = h.most in limited_back (codes "x-ms-share-quota") 1 5120 q low high (omega (arith, high))

within_length : (n : ℕ) → is_file_length n ≡ true → n ≤ most_bytes
within_length n e = grind (arith, nat_tests, e)

pub length_back : (n : ℕ) → is_file_length n ≡ true → length_read (decimal n) ≡ Ok n
unfolding length_read
length_back n e = let le = within_length n e in limited_back (codes "x-ms-content-length") 0 most_bytes n (omega arith) le (omega (arith, le))

pub length_if_back : (o : Option ℕ) → IfSome o (λ n. is_file_length n ≡ true) → length_if_given (option_map decimal o) ≡ Ok o
length_if_back None h = refl
length_if_back (Some n) h = rw (length_back n h) refl

pub page_back : (n : ℕ) → IsPageSize n → page_size (Some (decimal n)) ≡ Ok n
unfolding limited_page
page_back n h =
    let low = h.least in
    let high = h.most in
    let a : nat_eq n 0 ≡ false = grind (arith, low) in
    let b : min n 5000 ≡ n = grind (arith, high) in
    rw (number_back n (omega (arith, high)), a, b) refl

-- ---- lease ids

pub id_given_back : (name : List ℕ) (o : Option LeaseId) → IfSome o IsLeaseId → id_if_given name (option_map id_text o) ≡ Ok o
id_given_back name None h = refl
id_given_back name (Some id) h = rw (id_back id h) refl

pub id_read_back : (name : List ℕ) (id : LeaseId) → IsLeaseId id → id_read name (lease_id_of (id_text id)) ≡ Ok id
id_read_back name id h = rw (id_back id h) refl

pub scope_back : (scope : ReadScope) → is_read_scope scope ≡ true → scope_with scope.snap scope.lease ≡ Ok scope
unfolding scope_with
scope_back scope e = rw e refl

-- ---- moments

pub snapshot_back : (o : Option ℕ) → IfSome o IsWritten → snapshot_named (option_map moment_text o) ≡ Ok o
snapshot_back None h = refl
snapshot_back (Some at) h = rw (moment_back at h) refl

pub time_now_back : (name : List ℕ) (o : Option ℕ) → IfSome o IsWritten → time_or_now name (option_map moment_text o) ≡ Ok o
time_now_back name None h = refl
time_now_back name (Some at) h = rw (moment_no_now at, moment_back at h) refl

at_back : (name : List ℕ) (at : ℕ) → IsWritten at → time_or_kept name (Some (moment_text at)) ≡ Ok (At at)
at_back name at h = rw (moment_no_preserve at, moment_no_now at, moment_back at h) refl

pub time_kept_back : (name : List ℕ) (time : Time) → IsTime time → time_or_kept name (Some (time_text time)) ≡ Ok time
unfolding is_word
time_kept_back name Keep h = refl
time_kept_back name Now h = refl
time_kept_back name (At at) h = at_back name at h

-- ---- ranges

digits_any : (c : ℕ) (ds more : List ℕ) (p : ℕ → Bool) → p c ≡ true → list_any p (ds ++ c ∷ more) ≡ true
digits_any c [] more p e = rw e refl
digits_any c (d ∷ ds) more p e = either (p d) (digits_any c ds more p e)
  where
    either : (b : Bool) {rest : Bool} → rest ≡ true → (b || rest) ≡ true
    either true r = refl
    either false r = r

bounds_back : (from : ℕ) (last : List ℕ) → from < 2 ^ 64 → bounds_of (decimal from ++ codes "-" ++ last) ≡ from_first (Some from) last
bounds_back from last lt =
    let join : decimal from ++ codes "-" ++ last ≡ decimal from ++ 45 ∷ last = append_assoc (decimal from) (codes "-") last in
    let c = cut_at is_dash (decimal from) last 45 (digits_lack 45 (decimal from) refl (decimal_digits from lt)) refl in
    rw (join, digits_any 45 (decimal from) last is_dash refl, c.0, c.1, number_back from lt) refl

last_digits : (from : ℕ) (ds : List ℕ) → 0 < length ds → from_first (Some from) ds ≡ to_last from (number_of ds)
last_digits from [] some = absurd (omega (arith, some))
last_digits from (d ∷ ds) some = refl

decimal_some : (n : ℕ) → n < 2 ^ 64 → 0 < length (decimal n)
decimal_some n lt = let z = decimal_nonempty n lt in omega (arith, z)

last_back : (from : ℕ) (last : Option ℕ) → IfSome last (λ n. n < 2 ^ 64) → from_first (Some from) (last_text last) ≡ Some (record { from = from; last = last })
last_back from None h = refl
last_back from (Some n) h = last_digits from (decimal n) (decimal_some n h) ∙ rw (number_back n h) refl

pub bytes_back : (b : BytesFrom) → b.from < 2 ^ 64 → IfSome b.last (λ n. n < 2 ^ 64) → bytes_of (bytes_text b) ≡ Some b
unfolding bytes_of bytes_text
bytes_back b lt h = bounds_back b.from (last_text b.last) lt ∙ last_back b.from b.last h

offset_fits : (n : ℕ) → nat_lt n OFFSET_LIMIT ≡ true → n < 2 ^ 64
offset_fits n e = grind (arith, nat_tests, e)

last_fits : (from : ℕ) (last : Option ℕ) → is_last from last ≡ true → IfSome last (λ n. n < 2 ^ 64)
last_fits from None e = tt
last_fits from (Some n) e = offset_fits n (and_parts (nat_le from n) (nat_lt n OFFSET_LIMIT) e).1

closed_last : (from : ℕ) (last : Option ℕ) → is_last from last ≡ true → is_closed_in_order from last ≡ true
closed_last from None e = refl
closed_last from (Some n) e = (and_parts (nat_le from n) (nat_lt n OFFSET_LIMIT) e).0

-- the bytes that a reading call names
pub first_back : (name : List ℕ) (o : Option BytesFrom) → IfSome o (λ b. is_first b ≡ true) → first_if_given name (option_map bytes_text o) ≡ Ok o
first_back name None h = refl
first_back name (Some b) h =
    let parts = and_parts (nat_lt b.from OFFSET_LIMIT) (is_last b.from b.last) h in
    rw (bytes_back b (offset_fits b.from parts.0) (last_fits b.from b.last parts.1), closed_last b.from b.last parts.1, h) refl

interval_parts : (name : List ℕ) (most from end : ℕ) → from < end → end ≤ OFFSET_LIMIT → end - from ≤ most
    → interval_read name most (bytes_of (interval_text (record { from = from; end = end }))) ≡ Ok (record { from = from; end = end })
interval_parts name most from end lt high le =
    let back : end - 1 + 1 ≡ end = omega (arith, lt) in
    let a : nat_le from (end - 1) ≡ true = grind (arith, lt) in
    let b : nat_lt (end - 1) OFFSET_LIMIT ≡ true = grind (arith, lt, high) in
    let c : nat_lt (end - 1 - from) most ≡ true = grind (arith, lt, le) in
    rw (bytes_back (record { from = from; last = Some (end - 1) }) (omega (arith, lt, high)) (omega (arith, lt, high)), a, b, c, back) refl

-- the interval that a writing call names
pub interval_back : (name : List ℕ) (most : ℕ) (i : Interval) → is_byte_range i ≡ true → i.end - i.from ≤ most → interval_read name most (bytes_of (interval_text i)) ≡ Ok i
interval_back name most i e le =
    let parts = and_parts (nat_lt i.from i.end) (nat_le i.end OFFSET_LIMIT) e in
    interval_parts name most i.from i.end (less i.from i.end parts.0) (at_most i.end parts.1) le
  where
    less : (a b : ℕ) → nat_lt a b ≡ true → a < b
    less a b h = grind (arith, nat_tests, h)

    at_most : (a : ℕ) → nat_le a OFFSET_LIMIT ≡ true → a ≤ OFFSET_LIMIT
    at_most a h = grind (arith, nat_tests, h)

-- ---- handles

handle_fits : (n : ℕ) → n < 2 ^ 32 → n < 2 ^ 64
handle_fits n lt = omega (arith, lt)

pub numbers_back : (h : Handle) → IsHandleId h → handle_numbers (handle_text h) ≡ Some (h.session, h.index)
unfolding handle_numbers handle_text
numbers_back h k =
    let s = handle_fits h.session k.1 in
    let join : decimal h.session ++ codes "." ++ decimal h.index ≡ decimal h.session ++ 46 ∷ decimal h.index = append_assoc (decimal h.session) (codes ".") (decimal h.index) in
    let c = cut_at is_dot (decimal h.session) (decimal h.index) 46 (digits_lack 46 (decimal h.session) refl (decimal_digits h.session s)) refl in
    rw (join, c.0, c.1, number_back h.session s, number_back h.index (handle_fits h.index k.3)) refl

number_within : (n : ℕ) → 1 ≤ n → n < 2 ^ 32 → is_handle_number n ≡ true
number_within n low high = grind (arith, nat_tests, low, high)

within_back : (h : Handle) → IsHandleId h → handle_within h.session h.index ≡ Some h
within_back h k = rw (number_within h.session k.0 k.1, number_within h.index k.2 k.3) refl

no_star : (h : Handle) → IsHandleId h → bytes_eq (handle_text h) (codes "*") ≡ false
unfolding handle_text
no_star h k =
    let join : decimal h.session ++ codes "." ++ decimal h.index ≡ decimal h.session ++ (codes "." ++ decimal h.index) = append_assoc (decimal h.session) (codes ".") (decimal h.index) in
    rw join (decimal_first h.session (codes "." ++ decimal h.index) 42 [] (handle_fits h.session k.1) refl)

pub handle_back : (o : Option Handle) → IfSome o IsHandleId → handle_named (handle_or_all o) ≡ Ok o
unfolding handle_named
handle_back None k = refl
handle_back (Some h) k = rw (no_star h k, numbers_back h k, within_back h k) refl

pub recursive_back : (b : Bool) → recursive_read (Some (bool_text b)) ≡ Ok b
unfolding is_word
recursive_back true = refl
recursive_back false = refl

handle_text_some : (h : Handle) → IsHandleId h → (length (handle_text h) == 0) ≡ false
unfolding handle_text
handle_text_some h k =
    let n = length-append (decimal h.session ++ codes ".") (decimal h.index) in
    let m = length-append (decimal h.session) (codes ".") in
    grind (arith, n, m)

pub handles_marker_back : (o : Option Handle) → IfSome o IsHandleId → handles_marker (or_empty (option_map handle_text o)) ≡ Ok o
unfolding handles_marker marker_read
handles_marker_back None k = refl
handles_marker_back (Some h) k = rw (handle_text_some h k, numbers_back h k, within_back h k) refl

pub handle_ascii : (h : Handle) → IsHandleId h → AreAscii (handle_text h)
unfolding handle_text
handle_ascii h k =
    ascii_both (decimal h.session ++ codes ".") (decimal h.index) (ascii_both (decimal h.session) (codes ".") (decimal_ascii h.session (handle_fits h.session k.1)) (omega arith, tt))
    (decimal_ascii h.index (handle_fits h.index k.3))

-- ---- content headers

pub text_given_back : (name : List ℕ) (o : Option (List ℕ)) → IsContentText o → text_read name o ≡ Ok o
text_given_back name None h = refl
text_given_back name (Some text) h = rw h refl

pub digest_given_back : (name : List ℕ) (o : Option (List ℕ)) → IsReadDigest o → digest_if_given name (option_map digest_text o) ≡ Ok o
digest_given_back name None h = refl
digest_given_back name (Some bytes) h = rw h refl

-- ---- markers and prefixes

pub query_text_back : (name text : List ℕ) → is_query_text text ≡ true → query_text name text ≡ Ok text
unfolding query_text
query_text_back name text e = rw e refl

pub names_marker_back : (marker : List ℕ) → is_query_text marker ≡ true → names_marker (escaped marker) ≡ Ok marker
unfolding names_marker
names_marker_back marker e = rw (text_back marker (and_parts (is_utf8 marker) _ e).0) (query_text_back (codes "marker") marker e)

share_byte_other : (b : ℕ) → is_share_byte b ≡ true → (b == 64) ≡ false
share_byte_other b e = grind (arith, nat_tests, e)

share_byte_low : (b : ℕ) → is_share_byte b ≡ true → b < 128
share_byte_low b e = grind (arith, nat_tests, e)

share_lacks : (name : List ℕ) → list_all is_share_byte name ≡ true → All (λ b. (b == 64) ≡ false) name
share_lacks [] e = All-nil (λ b. (b == 64) ≡ false)
share_lacks (b ∷ bs) e =
    let both = and_parts (is_share_byte b) (list_all is_share_byte bs) e in
    All-cons (λ b. (b == 64) ≡ false) b bs (share_byte_other b both.0) (share_lacks bs both.1)

share_low : (name : List ℕ) → list_all is_share_byte name ≡ true → AreAscii name
share_low [] e = tt
share_low (b ∷ bs) e =
    let both = and_parts (is_share_byte b) (list_all is_share_byte bs) e in
    (share_byte_low b both.0, share_low bs both.1)

-- a share's name is a text
pub share_utf8 : (name : List ℕ) → is_share_name name ≡ true → is_utf8 name ≡ true
share_utf8 name e = ascii_utf8 name (share_low name (share_name_all name e))

none_at : (name : List ℕ) → All (λ b. (b == 64) ≡ false) name → list_any is_at name ≡ false
none_at [] h = refl
none_at (b ∷ bs) h = rw (All-head (λ b. (b == 64) ≡ false) b bs h) (none_at bs (All-tail (λ b. (b == 64) ≡ false) b bs h))

marker_text_back : (name : List ℕ) (snap : Option ℕ) → is_share_name name ≡ true → IfSome snap IsWritten → shares_read (name ++ at_moment snap) ≡ Ok (Some (record { share = name; snapshot = snap }))
unfolding shares_read share_in_marker moment_in_marker
marker_text_back name None e h =
    let lacks = share_lacks name (share_name_all name e) in
    let c = cut_none is_at name lacks in
    rw (append-nil name, c.0, e, none_at name lacks) refl
marker_text_back name (Some at) e h =
    let c = cut_at is_at name (moment_text at) 64 (share_lacks name (share_name_all name e)) refl in
    rw (c.0, e, digits_any 64 name (moment_text at) is_at refl, c.1, moment_back at h) refl

share_marker_some : (name more : List ℕ) → is_share_name name ≡ true → (length (name ++ more) == 0) ≡ false
share_marker_some [] more e = absurd (false≢true e)
share_marker_some (b ∷ bs) more e = grind arith

pub shares_marker_back : (o : Option SharesMarker) → IfSome o IsSharesMarker → shares_marker (or_empty (option_map shares_marker_text o)) ≡ Ok o
unfolding shares_marker shares_marker_text
shares_marker_back None h = refl
shares_marker_back (Some m) h = rw (share_marker_some m.share (at_moment m.snapshot) h.0) (marker_text_back m.share m.snapshot h.0 h.1)

at_ascii : (o : Option ℕ) → AreAscii (at_moment o)
at_ascii None = tt
at_ascii (Some at) = (omega arith, moment_ascii at)

pub shares_marker_ascii : (m : SharesMarker) → IsSharesMarker m → AreAscii (shares_marker_text m)
unfolding shares_marker_text
shares_marker_ascii m h = ascii_both m.share (at_moment m.snapshot) (share_low m.share (share_name_all m.share h.0)) (at_ascii m.snapshot)

meta_byte_low : (b : ℕ) → is_meta_byte b ≡ true → b < 128
meta_byte_low b e = grind (arith, nat_tests, e)

meta_low : (name : List ℕ) → list_all is_meta_byte name ≡ true → AreAscii name
meta_low [] e = tt
meta_low (b ∷ bs) e =
    let both = and_parts (is_meta_byte b) (list_all is_meta_byte bs) e in
    (meta_byte_low b both.0, meta_low bs both.1)

-- a name of metadata is a text
pub meta_name_utf8 : (name : List ℕ) → is_meta_name name ≡ true → is_utf8 name ≡ true
unfolding is_meta_name
meta_name_utf8 name e = ascii_utf8 name (meta_low name (and_parts _ (list_all is_meta_byte name) (and_parts _ _ e).0).1)
