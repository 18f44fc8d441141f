-- The body that lists handles is read exactly.
use Rattle.std.proofs.Common.{codes, ◌≡◌, ℕ, ◌+◌, ◌*◌, ◌/◌, ◌%◌, ◌^◌, ◌≤◌, ◌<◌, List, [], ◌∷◌, ◌++◌, ◌⊎◌, Option, Some, None, Ok, refl, sym, ap, ◌∙◌, arith, append_assoc, inl, inr}
use Rattle.std.proofs.lemmas.Bool.{cases_eq}
use Rattle.std.proofs.lemmas.Fmt.{decimal_by_steps}
use Rattle.std.specs.Fmt.{decimal}
use Rattle.std.specs.List.{AllByRecursion, flat_map}
use Rattle.sx_guard.specs.Handle.{Handle}
use Rattle.sx_call.specs.declared.pages.HandleItem.{HandleItem}
use Rattle.sx_call.specs.declared.pages.HandlesPage.{HandlesPage}
use Rattle.sx_text.specs.Readers.{pair_at, after, all_values_at, values_text}
use Rattle.sx_text.specs.Numbers.{number_text, number_at, number_after, IsFrom}
use Rattle.sx_text.specs.Escapes.{IsWhole, escaped_text, escaped_after}
use Rattle.sx_text.proofs.Laws.{Reads, pair-reading, made-reading, end-reading, refits}
use Rattle.sx_text.proofs.Literals.{after-reading, closed-reading}
use Rattle.sx_text.proofs.Numbers.{number-reading, number_after-reading}
use Rattle.sx_text.proofs.Values.{values-reading}
use Rattle.sx_text.proofs.Choices.{either-reading}
use Rattle.sx_text.proofs.EscapedTexts.{escaped_after-reading}
use Rattle.sx_text.proofs.Utf8.{whole_utf8, utf8_whole, nothing_whole}
use Rattle.sx_base.specs.Moment.{moment_text, IsWritten}
use Rattle.sx_base.specs.MomentReader.{moment_at}
use Rattle.sx_base.proofs.MomentFields.{moment-reading}
use Rattle.sx_listing.specs.Handles.{opened_text, opener_text, handle_item_text, next_text, handles_text}
use Rattle.sx_listing.specs.Body.{greatest_32, greatest_64}
use Rattle.sx_listing.specs.HandlesReader.{IsHandle, IsOpened, IsNext, AreHandles, handle_of, address_of, Opened, Opener, item_of, page_of, handle_at, ids_at, path_at, opened_at, low_at, bytes_at, address_at, time_at, opener_at, item_at, items_at, none_at, some_at, choice_at, next_at, handles_at}
use Rattle.sx_listing.proofs.Bodies.{moved, retext}

-- what is open

abbrev handle_rest : List ℕ → ℕ × ℕ → List ℕ
handle_rest literal x = (literal ++ number_text 46 x.0) ++ number_text 60 x.1

abbrev IsNumbers : ℕ × ℕ → Type 0
IsNumbers x = IsFrom 1 greatest_32 x.0 × IsFrom 1 greatest_32 x.1

handle-reading : (literal : List ℕ) → Reads cases_eq (handle_rest literal) IsNumbers (handle_at literal)
unfolding handle_at
handle-reading literal k =
    pair-reading cases_eq k (λ n. literal ++ number_text 46 n) (IsFrom 1 greatest_32) (number_after literal 46 1 greatest_32)
    (λ s n. number_text 60 n) (λ s n. IsFrom 1 greatest_32 n) (λ s. number_at 60 1 greatest_32)
    (number_after-reading literal 46 1 greatest_32 refl (omega arith) (omega arith)) (λ s h. (1, (omega arith, omega arith)))
    (λ s j h le. number-reading 60 1 greatest_32 refl (omega arith) (omega arith) j)

abbrev ids_rest : ℕ × ℕ → List ℕ
ids_rest x = (codes "/Path><FileId>" ++ number_text 60 x.0) ++ (codes "/FileId><ParentId>" ++ number_text 60 x.1)

abbrev AreIds : ℕ × ℕ → Type 0
AreIds x = IsFrom 0 greatest_64 x.0 × IsFrom 0 greatest_64 x.1

ids-reading : Reads cases_eq ids_rest AreIds ids_at
unfolding ids_at
ids-reading k =
    pair-reading cases_eq k (λ n. codes "/Path><FileId>" ++ number_text 60 n) (IsFrom 0 greatest_64) (number_after (codes "/Path><FileId>") 60 0 greatest_64)
    (λ s n. codes "/FileId><ParentId>" ++ number_text 60 n) (λ s n. IsFrom 0 greatest_64 n) (λ s. number_after (codes "/FileId><ParentId>") 60 0 greatest_64)
    (number_after-reading (codes "/Path><FileId>") 60 0 greatest_64 refl (omega arith) (omega arith)) (λ s h. (0, (omega arith, omega arith)))
    (λ s j h le. number_after-reading (codes "/FileId><ParentId>") 60 0 greatest_64 refl (omega arith) (omega arith) j)

abbrev path_rest : List ℕ × (ℕ × ℕ) → List ℕ
path_rest x = (codes "/HandleId><Path>" ++ escaped_text x.0) ++ ids_rest x.1

abbrev IsPath : List ℕ × (ℕ × ℕ) → Type 0
IsPath x = IsWhole x.0 × AreIds x.1

path-reading : Reads cases_eq path_rest IsPath path_at
unfolding path_at
path-reading k =
    pair-reading cases_eq k (λ path. codes "/HandleId><Path>" ++ escaped_text path) IsWhole (escaped_after (codes "/HandleId><Path>"))
    (λ path x. ids_rest x) (λ path x. AreIds x) (λ path. ids_at)
    (escaped_after-reading (codes "/HandleId><Path>")) (λ path h. ((0, 0), ((omega arith, omega arith), (omega arith, omega arith))))
    (λ path j h le. ids-reading j)

abbrev opened_rest : Opened → List ℕ
opened_rest x = handle_rest (codes "Handle><HandleId>") x.0 ++ path_rest x.1

abbrev AreOpened : Opened → Type 0
AreOpened x = IsNumbers x.0 × IsPath x.1

opened-reading : Reads cases_eq opened_rest AreOpened opened_at
unfolding opened_at
opened-reading k =
    pair-reading cases_eq k (handle_rest (codes "Handle><HandleId>")) IsNumbers (handle_at (codes "Handle><HandleId>"))
    (λ h x. path_rest x) (λ h x. IsPath x) (λ h. path_at)
    (handle-reading (codes "Handle><HandleId>"))
    (λ x h. (([], (0, 0)), (nothing_whole, ((omega arith, omega arith), (omega arith, omega arith)))))
    (λ x j h le. path-reading j)

-- an address

abbrev IsByte : ℕ → Type 0
IsByte n = IsFrom 0 255 n

abbrev low_rest : ℕ × ℕ → List ℕ
low_rest x = number_text 46 x.0 ++ number_text 60 x.1

low-reading : Reads cases_eq low_rest (λ x. IsByte x.0 × IsByte x.1) low_at
unfolding low_at
low-reading k =
    pair-reading cases_eq k (number_text 46) IsByte (number_at 46 0 255) (λ s n. number_text 60 n) (λ s n. IsByte n) (λ s. number_at 60 0 255)
    (number-reading 46 0 255 refl (omega arith) (omega arith)) (λ s h. (0, (omega arith, omega arith)))
    (λ s j h le. number-reading 60 0 255 refl (omega arith) (omega arith) j)

abbrev Address : Type 0
Address = ℕ × (ℕ × (ℕ × ℕ))

abbrev bytes_rest : Address → List ℕ
bytes_rest x = (codes "/SessionId><ClientIp>" ++ number_text 46 x.0) ++ (number_text 46 x.1.0 ++ low_rest x.1.1)

abbrev AreBytes : Address → Type 0
AreBytes x = IsByte x.0 × (IsByte x.1.0 × (IsByte x.1.1.0 × IsByte x.1.1.1))

bytes-reading : Reads cases_eq bytes_rest AreBytes bytes_at
unfolding bytes_at
bytes-reading k =
    pair-reading cases_eq k (λ n. codes "/SessionId><ClientIp>" ++ number_text 46 n) IsByte (number_after (codes "/SessionId><ClientIp>") 46 0 255)
    (λ a (x : ℕ × (ℕ × ℕ)). number_text 46 x.0 ++ low_rest x.1) (λ a x. IsByte x.0 × (IsByte x.1.0 × IsByte x.1.1))
    (λ a. pair_at (number_at 46 0 255) (λ b. low_at))
    (number_after-reading (codes "/SessionId><ClientIp>") 46 0 255 refl (omega arith) (omega arith))
    (λ a h. ((0, (0, 0)), ((omega arith, omega arith), ((omega arith, omega arith), (omega arith, omega arith)))))
    (λ a j h le. pair-reading cases_eq j (number_text 46) IsByte (number_at 46 0 255) (λ b x. low_rest x) (λ b x. IsByte x.0 × IsByte x.1) (λ b. low_at)
    (number-reading 46 0 255 refl (omega arith) (omega arith)) (λ b h. ((0, 0), ((omega arith, omega arith), (omega arith, omega arith))))
    (λ b i h le. low-reading i))

abbrev bytes_of : ℕ → Address
bytes_of peer = (peer / 16777216, (peer / 65536 % 256, (peer / 256 % 256, peer % 256)))

same_bytes : (a b c d a' b' c' d' : ℕ) → a ≡ a' → b ≡ b' → c ≡ c' → d ≡ d' → ◌≡◌ {A = Address} (a, (b, (c, d))) (a', (b', (c', d')))
same_bytes a b c d a' b' c' d' p q r s = λ i. (p i, (q i, (r i, s i)))

bytes_back : (a b c d : ℕ) → a ≤ 255 → b ≤ 255 → c ≤ 255 → d ≤ 255 → ◌≡◌ {A = Address} (bytes_of (address_of (a, (b, (c, d))))) (a, (b, (c, d)))
bytes_back a b c d p q r s =
    let n = a * 16777216 + b * 65536 + c * 256 + d in
    same_bytes (n / 16777216) (n / 65536 % 256) (n / 256 % 256) (n % 256) a b c d
    (omega (arith, p, q, r, s)) (omega (arith, p, q, r, s)) (omega (arith, p, q, r, s)) (omega (arith, p, q, r, s))

abbrev address_rest : ℕ → List ℕ
address_rest peer =
    (codes "/SessionId><ClientIp>" ++ number_text 46 (peer / 16777216))
    ++ (number_text 46 (peer / 65536 % 256) ++ (number_text 46 (peer / 256 % 256) ++ number_text 60 (peer % 256)))

address-reading : Reads cases_eq address_rest (IsFrom 0 greatest_32) address_at
unfolding address_at
address-reading k =
    made-reading cases_eq k bytes_rest AreBytes bytes_at address_of bytes_of address_rest (IsFrom 0 greatest_32)
    (λ x h. ((omega arith, omega (arith, h.0.1, h.1.0.1, h.1.1.0.1, h.1.1.1.1)), ap bytes_rest (bytes_back x.0 x.1.0 x.1.1.0 x.1.1.1 h.0.1 h.1.0.1 h.1.1.0.1 h.1.1.1.1)))
    (λ peer h. (((omega arith, omega (arith, h.1)), ((omega arith, omega arith), ((omega arith, omega arith), (omega arith, omega arith)))), omega arith))
    (bytes-reading k)

-- by whom and when

abbrev time_rest : ℕ → List ℕ
time_rest at = (codes "/ClientIp><OpenTime>" ++ moment_text at) ++ codes "</OpenTime></Handle><"

time-reading : Reads cases_eq time_rest IsWritten time_at
unfolding time_at
time-reading =
    closed-reading (λ at. codes "/ClientIp><OpenTime>" ++ moment_text at) IsWritten (after (codes "/ClientIp><OpenTime>") moment_at) (codes "</OpenTime></Handle><")
    (λ k. after-reading k (codes "/ClientIp><OpenTime>") moment_text IsWritten moment_at (0, omega arith) (moment-reading k))

abbrev opener_rest : Opener → List ℕ
opener_rest x = (codes "/ParentId><SessionId>" ++ number_text 60 x.0) ++ (address_rest x.1.0 ++ time_rest x.1.1)

abbrev IsOpener : Opener → Type 0
IsOpener x = IsFrom 0 greatest_32 x.0 × (IsFrom 0 greatest_32 x.1.0 × IsWritten x.1.1)

opener-reading : Reads cases_eq opener_rest IsOpener opener_at
unfolding opener_at
opener-reading k =
    pair-reading cases_eq k (λ n. codes "/ParentId><SessionId>" ++ number_text 60 n) (IsFrom 0 greatest_32) (number_after (codes "/ParentId><SessionId>") 60 0 greatest_32)
    (λ s (x : ℕ × ℕ). address_rest x.0 ++ time_rest x.1) (λ s x. IsFrom 0 greatest_32 x.0 × IsWritten x.1) (λ s. pair_at address_at (λ peer. time_at))
    (number_after-reading (codes "/ParentId><SessionId>") 60 0 greatest_32 refl (omega arith) (omega arith))
    (λ s h. ((0, 0), ((omega arith, omega arith), omega arith)))
    (λ s j h le. pair-reading cases_eq j address_rest (IsFrom 0 greatest_32) address_at (λ peer at. time_rest at) (λ peer at. IsWritten at) (λ peer. time_at)
    address-reading (λ peer h. (0, omega arith)) (λ peer i h le. time-reading i))

-- an item as it is read: without the `<` at its front, and with the next one

abbrev parts_of : HandleItem → Opened × Opener
parts_of item = (((item.handle.session, item.handle.index), (item.path, (item.id, item.parent))), (item.session, (item.peer, item.at)))

abbrev parts_rest : Opened × Opener → List ℕ
parts_rest x = opened_rest x.0 ++ opener_rest x.1

abbrev item_rest : HandleItem → List ℕ
item_rest item =
    opened_rest ((item.handle.session, item.handle.index), (item.path, (item.id, item.parent))) ++ opener_rest (item.session, (item.peer, item.at))

item-reading : Reads cases_eq item_rest IsOpened item_at
unfolding item_at
item-reading k =
    made-reading cases_eq k parts_rest (λ x. AreOpened x.0 × IsOpener x.1) (pair_at opened_at (λ opened. opener_at)) item_of parts_of item_rest IsOpened
    (λ x h. (record { handle = h.0.0; path = whole_utf8 x.0.1.0 h.0.1.0; id = h.0.1.1.0; parent = h.0.1.1.1; session = h.1.0; peer = h.1.1.0; moment = h.1.1.1 }, refl))
    (λ item h. (((h.handle, (utf8_whole item.path h.path, (h.id, h.parent))), (h.session, (h.peer, h.moment))), refl))
    (pair-reading cases_eq k opened_rest AreOpened opened_at (λ opened x. opener_rest x) (λ opened x. IsOpener x) (λ opened. opener_at)
    opened-reading (λ opened h. ((0, (0, 0)), ((omega arith, omega arith), ((omega arith, omega arith), omega arith)))) (λ opened j h le. opener-reading j))

abbrev items_rest : List HandleItem → List ℕ
items_rest items = codes "<?xml version=\"1.0\" encoding=\"utf-8\"?><EnumerationResults><Entries><" ++ values_text item_rest 47 items

abbrev AllOpened : List HandleItem → Type 0
AllOpened items = AllByRecursion IsOpened items

items-reading : Reads cases_eq items_rest AllOpened items_at
unfolding items_at
items-reading k =
    after-reading k (codes "<?xml version=\"1.0\" encoding=\"utf-8\"?><EnumerationResults><Entries><") (values_text item_rest 47) AllOpened (all_values_at 47 item_at) ([], tt)
    (values-reading 47 item_rest IsOpened item_at (λ item h. (72, _, refl, λ q. omega (arith, q))) item-reading k)

-- the next marker

abbrev choice_rest : Option Handle → List ℕ
choice_rest None = 60 ∷ []
choice_rest (Some h) = handle_rest [] (h.session, h.index)

abbrev IsNoHandle : Option Handle → Type 0
IsNoHandle None = Unit {0}
IsNoHandle (Some h) = ⊥

abbrev IsSomeHandle : Option Handle → Type 0
IsSomeHandle None = ⊥
IsSomeHandle (Some h) = IsHandle h

none_text : (o : Option Handle) → IsNoHandle o → choice_rest o ≡ codes "<" ++ []
none_text None h = refl
none_text (Some x) h = absurd h

only_none : (o : Option Handle) → IsNoHandle o → o ≡ None
only_none None h = refl
only_none (Some x) h = absurd h

none-reading : Reads cases_eq choice_rest IsNoHandle none_at
unfolding none_at
none-reading k =
    retext k (λ o. codes "<" ++ []) choice_rest IsNoHandle (after (codes "<") (λ rest. Ok (None, rest))) none_text
    (after-reading k (codes "<") (λ o. []) IsNoHandle (λ rest. Ok (None, rest)) (None, tt) (end-reading cases_eq k None IsNoHandle tt only_none))

numbers_of : Option Handle → ℕ × ℕ
numbers_of None = (1, 1)
numbers_of (Some h) = (h.session, h.index)

some_back : (o : Option Handle) → IsSomeHandle o → IsNumbers (numbers_of o) × (Some (handle_of (numbers_of o)) ≡ o)
unfolding numbers_of
some_back None h = absurd h
some_back (Some x) h = (h, refl)

some-reading : Reads cases_eq choice_rest IsSomeHandle some_at
unfolding some_at
some-reading k =
    made-reading cases_eq k (handle_rest []) IsNumbers (handle_at []) (λ x. Some (handle_of x)) numbers_of choice_rest IsSomeHandle
    (λ x h. (h, refl)) some_back (handle-reading [] k)

abbrev BeginsWithDigit : ℕ → List ℕ → Type 0
BeginsWithDigit n ds = (c : ℕ) × (more : List ℕ) × (ds ≡ c ∷ more) × (c < 58)

decimal_begins : (n : ℕ) → n < 2 ^ 64 → BeginsWithDigit n (decimal n)
decimal_begins = decimal_by_steps BeginsWithDigit (λ n lt. (48 + n, [], refl, omega (arith, lt)))
    (λ n ds le h. (h.0, h.1 ++ (48 + n % 10) ∷ [], ap (λ (x : List ℕ). x ++ (48 + n % 10) ∷ []) h.2, h.3))

none_starts : (o : Option Handle) → IsNoHandle o → (more : List ℕ) × (choice_rest o ≡ 60 ∷ more)
none_starts None h = ([], refl)
none_starts (Some x) h = absurd h

some_starts : (o : Option Handle) → IsSomeHandle o → (b : ℕ) × (more : List ℕ) × (choice_rest o ≡ b ∷ more) × (b ≡ 60 → ⊥)
some_starts None h = absurd h
some_starts (Some x) h =
    let d = decimal_begins x.session (omega (arith, h.0.1)) in
    (d.0, (d.1 ++ 46 ∷ []) ++ number_text 60 x.index, ap (λ (y : List ℕ). (y ++ 46 ∷ []) ++ number_text 60 x.index) d.2, λ q. omega (arith, q, d.3))

next_from : (o : Option Handle) → IsNoHandle o ⊎ IsSomeHandle o → IsNext o
next_from None (inl h) = tt
next_from None (inr h) = absurd h
next_from (Some x) (inl h) = absurd h
next_from (Some x) (inr h) = h

next_to : (o : Option Handle) → IsNext o → IsNoHandle o ⊎ IsSomeHandle o
next_to None h = inl tt
next_to (Some x) h = inr h

choice-reading : Reads cases_eq choice_rest IsNext choice_at
unfolding choice_at
choice-reading k =
    refits cases_eq k choice_rest (λ o. IsNoHandle o ⊎ IsSomeHandle o) IsNext choice_at next_from next_to
    (either-reading k 60 choice_rest IsNoHandle IsSomeHandle none_at some_at (None, tt) none_starts some_starts (none-reading k) (some-reading k))

abbrev next_rest : Option Handle → List ℕ
next_rest o = (codes "Entries><NextMarker>" ++ choice_rest o) ++ codes "/NextMarker></EnumerationResults>"

next-reading : Reads cases_eq next_rest IsNext next_at
unfolding next_at
next-reading =
    closed-reading (λ o. codes "Entries><NextMarker>" ++ choice_rest o) IsNext (after (codes "Entries><NextMarker>") choice_at)
    (codes "/NextMarker></EnumerationResults>")
    (λ k. after-reading k (codes "Entries><NextMarker>") choice_rest IsNext choice_at (None, tt) (choice-reading k))

-- the text as it is read is the text as it is written

opened_moves : (item : HandleItem) (more : List ℕ)
    → 60 ∷ (opened_rest ((item.handle.session, item.handle.index), (item.path, (item.id, item.parent))) ++ (codes "/ParentId>" ++ more))
    ≡ codes "<Handle>" ++ (opened_text item ++ more)
unfolding opened_text
opened_moves item more = simp append_assoc

opener_moves : (item : HandleItem) → opener_rest (item.session, (item.peer, item.at)) ≡ codes "/ParentId>" ++ (opener_text item ++ codes "</Handle><")
unfolding opener_text
opener_moves item = simp append_assoc

item_moves : (item : HandleItem) → 60 ∷ item_rest item ≡ handle_item_text item ++ 60 ∷ []
unfolding handle_item_text
item_moves item =
    ap (λ more. 60 ∷ (opened_rest ((item.handle.session, item.handle.index), (item.path, (item.id, item.parent))) ++ more)) (opener_moves item)
    ∙ opened_moves item (opener_text item ++ codes "</Handle><")
    ∙ simp append_assoc

next_is : (o : Option Handle) → choice_rest o ≡ next_text o ++ 60 ∷ []
next_is None = refl
next_is (Some h) = simp append_assoc

items_are : (items : List HandleItem)
    → items_rest items ≡ codes "<?xml version=\"1.0\" encoding=\"utf-8\"?><EnumerationResults><Entries>" ++ (flat_map handle_item_text items ++ 60 ∷ 47 ∷ [])
items_are items =
    ap (λ more. codes "<?xml version=\"1.0\" encoding=\"utf-8\"?><EnumerationResults><Entries>" ++ more) (moved handle_item_text item_rest item_moves items)

handles_are : (page : HandlesPage) → items_rest page.items ++ next_rest page.next ≡ handles_text page
unfolding handles_text
handles_are page =
    ap (λ more. more ++ next_rest page.next) (items_are page.items)
    ∙ ap (λ more. (codes "<?xml version=\"1.0\" encoding=\"utf-8\"?><EnumerationResults><Entries>" ++ (flat_map handle_item_text page.items ++ 60 ∷ 47 ∷ []))
    ++ ((codes "Entries><NextMarker>" ++ more) ++ codes "/NextMarker></EnumerationResults>")) (next_is page.next)
    ∙ simp append_assoc

-- the law of `handles_at`
pub handles-reading : Reads cases_eq handles_text AreHandles handles_at
unfolding handles_at
handles-reading k =
    made-reading cases_eq k (λ (x : List HandleItem × Option Handle). items_rest x.0 ++ next_rest x.1) (λ x. AllOpened x.0 × IsNext x.1)
    (pair_at items_at (λ items. next_at)) page_of (λ page. (page.items, page.next)) handles_text AreHandles
    (λ x h. (h, sym (handles_are (page_of x))))
    (λ page h. (h, refl))
    (pair-reading cases_eq k items_rest AllOpened items_at (λ items next. next_rest next) (λ items next. IsNext next) (λ items. next_at)
    items-reading (λ items h. (None, tt)) (λ items j h le. next-reading j))
