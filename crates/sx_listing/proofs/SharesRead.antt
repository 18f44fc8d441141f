-- The body that lists shares is read exactly.
use Rattle.std.proofs.Common.{codes, ◌≡◌, ℕ, ◌^◌, ◌<◌, List, [], ◌∷◌, ◌++◌, ◌⊎◌, Option, Some, None, Ok, refl, sym, ap, ◌∙◌, arith, append_assoc, inl, inr}
use Rattle.std.proofs.lemmas.Bool.{cases_eq}
use Rattle.std.specs.List.{AllByRecursion, flat_map}
use Rattle.sx_call.specs.declared.pages.ShareItem.{ShareItem}
use Rattle.sx_call.specs.declared.pages.SharesPage.{SharesPage}
use Rattle.sx_text.specs.Readers.{pair_at, closed_at, after, all_values_at, values_text}
use Rattle.sx_text.specs.Numbers.{number_text, number_after, IsFrom}
use Rattle.sx_text.specs.Hex.{hex_text, hex_after}
use Rattle.sx_text.specs.Escapes.{IsWhole, escaped_text, escaped_after}
use Rattle.sx_text.proofs.Laws.{Reads, pair-reading, made-reading, end-reading, refits}
use Rattle.sx_text.proofs.Literals.{after-reading, closed-reading}
use Rattle.sx_text.proofs.Numbers.{number_after-reading}
use Rattle.sx_text.proofs.HexDigits.{hex_after-reading}
use Rattle.sx_text.proofs.Values.{values-reading}
use Rattle.sx_text.proofs.Choices.{either-reading}
use Rattle.sx_text.proofs.EscapedTexts.{escaped_after-reading}
use Rattle.sx_text.proofs.Utf8.{whole_utf8, utf8_whole, nothing_whole}
use Rattle.sx_base.specs.Moment.{moment_text, IsWritten}
use Rattle.sx_base.specs.MomentReader.{moment_at}
use Rattle.sx_base.specs.Date.{date_text, IsDated}
use Rattle.sx_base.specs.DateReader.{date_at}
use Rattle.sx_base.proofs.MomentFields.{moment-reading}
use Rattle.sx_base.proofs.DateReading.{date-reading}
use Rattle.sx_listing.specs.Shares.{snapshot_text, properties_text, share_text, shares_asked_text, shares_text}
use Rattle.sx_listing.specs.Body.{greatest_64}
use Rattle.sx_listing.specs.SharesReader.{IsSnapshot, IsShare, AreShares, Named, Properties, Asked, share_of, page_of, snapshot_at, standing_at, choice_at, named_at, changed_at, quota_at, properties_at, share_at, marked_at, asked_at, items_at, next_at, answered_at, shares_at}
use Rattle.sx_listing.proofs.Bodies.{moved, retext}

-- a snapshot or none, and the tag of the properties

abbrev choice_rest : Option ℕ → List ℕ
choice_rest None = codes "Properties>"
choice_rest (Some moment) = (codes "Snapshot>" ++ moment_text moment) ++ codes "</Snapshot><Properties>"

abbrev IsTaken : Option ℕ → Type 0
IsTaken None = ⊥
IsTaken (Some moment) = IsWritten moment

abbrev IsStanding : Option ℕ → Type 0
IsStanding None = Unit {0}
IsStanding (Some moment) = ⊥

moment_in : Option ℕ → ℕ
moment_in None = 0
moment_in (Some moment) = moment

taken_back : (o : Option ℕ) → IsTaken o → IsWritten (moment_in o) × (Some (moment_in o) ≡ o)
unfolding moment_in
taken_back None h = absurd h
taken_back (Some moment) h = (h, refl)

snapshot-reading : Reads cases_eq choice_rest IsTaken snapshot_at
unfolding snapshot_at
snapshot-reading k =
    made-reading cases_eq k (λ at. (codes "Snapshot>" ++ moment_text at) ++ codes "</Snapshot><Properties>") IsWritten
    (closed_at (after (codes "Snapshot>") moment_at) (codes "</Snapshot><Properties>")) (λ at. Some at) moment_in choice_rest IsTaken
    (λ at h. (h, refl)) taken_back
    (closed-reading (λ at. codes "Snapshot>" ++ moment_text at) IsWritten (after (codes "Snapshot>") moment_at) (codes "</Snapshot><Properties>")
    (λ j. after-reading j (codes "Snapshot>") moment_text IsWritten moment_at (0, omega arith) (moment-reading j)) k)

standing_text : (o : Option ℕ) → IsStanding o → choice_rest o ≡ codes "Properties>" ++ []
standing_text None h = refl
standing_text (Some moment) h = absurd h

only_standing : (o : Option ℕ) → IsStanding o → o ≡ None
only_standing None h = refl
only_standing (Some moment) h = absurd h

standing-reading : Reads cases_eq choice_rest IsStanding standing_at
unfolding standing_at
standing-reading k =
    retext k (λ o. codes "Properties>" ++ []) choice_rest IsStanding (after (codes "Properties>") (λ rest. Ok (None, rest))) standing_text
    (after-reading k (codes "Properties>") (λ o. []) IsStanding (λ rest. Ok (None, rest)) (None, tt)
    (end-reading cases_eq k None IsStanding tt only_standing))

taken_starts : (o : Option ℕ) → IsTaken o → (more : List ℕ) × (choice_rest o ≡ 83 ∷ more)
taken_starts None h = absurd h
taken_starts (Some moment) h = (_, refl)

standing_starts : (o : Option ℕ) → IsStanding o → (b : ℕ) × (more : List ℕ) × (choice_rest o ≡ b ∷ more) × (b ≡ 83 → ⊥)
standing_starts None h = (80, _, refl, λ q. omega (arith, q))
standing_starts (Some moment) h = absurd h

snapshot_from : (o : Option ℕ) → IsTaken o ⊎ IsStanding o → IsSnapshot o
snapshot_from None h = tt
snapshot_from (Some moment) (inl h) = h
snapshot_from (Some moment) (inr h) = absurd h

snapshot_to : (o : Option ℕ) → IsSnapshot o → IsTaken o ⊎ IsStanding o
snapshot_to None h = inr tt
snapshot_to (Some moment) h = inl h

choice-reading : Reads cases_eq choice_rest IsSnapshot choice_at
unfolding choice_at
choice-reading k =
    refits cases_eq k choice_rest (λ o. IsTaken o ⊎ IsStanding o) IsSnapshot choice_at snapshot_from snapshot_to
    (either-reading k 83 choice_rest IsTaken IsStanding snapshot_at standing_at (Some 0, omega arith) taken_starts standing_starts
    (snapshot-reading k) (standing-reading k))

-- the name

abbrev named_rest : Named → List ℕ
named_rest x = (codes "Share><Name>" ++ escaped_text x.0) ++ (codes "/Name><" ++ choice_rest x.1)

abbrev IsNamed : Named → Type 0
IsNamed x = IsWhole x.0 × IsSnapshot x.1

named-reading : Reads cases_eq named_rest IsNamed named_at
unfolding named_at
named-reading k =
    pair-reading cases_eq k (λ name. codes "Share><Name>" ++ escaped_text name) IsWhole (escaped_after (codes "Share><Name>"))
    (λ name o. codes "/Name><" ++ choice_rest o) (λ name o. IsSnapshot o) (λ name. after (codes "/Name><") choice_at)
    (escaped_after-reading (codes "Share><Name>")) (λ name h. (None, tt))
    (λ name j h le. after-reading j (codes "/Name><") choice_rest IsSnapshot choice_at (None, tt) (choice-reading j))

-- the properties

abbrev changed_rest : ℕ → List ℕ
changed_rest at = codes "<Last-Modified>" ++ date_text at

pub changed-reading : Reads cases_eq changed_rest IsDated changed_at
unfolding changed_at
changed-reading k = after-reading k (codes "<Last-Modified>") date_text IsDated date_at (0, (omega arith, refl)) (date-reading k)

abbrev etag_rest : ℕ → List ℕ
etag_rest etag = codes "</Last-Modified><Etag>\"0x" ++ hex_text 16 etag

abbrev IsEtag : ℕ → Type 0
IsEtag etag = IsFrom 0 greatest_64 etag

etag-reading : Reads cases_eq etag_rest IsEtag (hex_after (codes "</Last-Modified><Etag>\"0x") 15)
etag-reading k =
    refits cases_eq k etag_rest (λ n. n < 16 ^ 16) IsEtag (hex_after (codes "</Last-Modified><Etag>\"0x") 15)
    (λ n h. (omega arith, omega (arith, h))) (λ n h. omega (arith, h.1))
    (hex_after-reading (codes "</Last-Modified><Etag>\"0x") 15 k)

abbrev quota_rest : ℕ → List ℕ
quota_rest quota = (codes "\"</Etag><Quota>" ++ number_text 60 quota) ++ codes "/Quota></Properties></Share><"

quota-reading : Reads cases_eq quota_rest (IsFrom 1 5120) quota_at
unfolding quota_at
quota-reading =
    closed-reading (λ n. codes "\"</Etag><Quota>" ++ number_text 60 n) (IsFrom 1 5120) (number_after (codes "\"</Etag><Quota>") 60 1 5120)
    (codes "/Quota></Properties></Share><") (number_after-reading (codes "\"</Etag><Quota>") 60 1 5120 refl (omega arith) (omega arith))

abbrev properties_rest : Properties → List ℕ
properties_rest x = changed_rest x.0 ++ (etag_rest x.1.0 ++ quota_rest x.1.1)

abbrev AreProperties : Properties → Type 0
AreProperties x = IsDated x.0 × (IsEtag x.1.0 × IsFrom 1 5120 x.1.1)

properties-reading : Reads cases_eq properties_rest AreProperties properties_at
unfolding properties_at
properties-reading k =
    pair-reading cases_eq k changed_rest IsDated changed_at
    (λ at (x : ℕ × ℕ). etag_rest x.0 ++ quota_rest x.1) (λ at x. IsEtag x.0 × IsFrom 1 5120 x.1)
    (λ at. pair_at (hex_after (codes "</Last-Modified><Etag>\"0x") 15) (λ etag. quota_at))
    changed-reading (λ at h. ((0, 1), ((omega arith, omega arith), (omega arith, omega arith))))
    (λ at j h le. pair-reading cases_eq j etag_rest IsEtag (hex_after (codes "</Last-Modified><Etag>\"0x") 15)
    (λ etag quota. quota_rest quota) (λ etag quota. IsFrom 1 5120 quota) (λ etag. quota_at)
    etag-reading (λ etag h. (1, (omega arith, omega arith))) (λ etag i h le. quota-reading i))

-- an item as it is read: without the `<` at its front, and with the next one

abbrev parts_rest : Named × Properties → List ℕ
parts_rest x = named_rest x.0 ++ properties_rest x.1

abbrev share_rest : ShareItem → List ℕ
share_rest item = named_rest (item.name, item.snapshot) ++ properties_rest (item.changed, (item.etag, item.quota))

share-reading : Reads cases_eq share_rest IsShare share_at
unfolding share_at
share-reading k =
    made-reading cases_eq k parts_rest (λ x. IsNamed x.0 × AreProperties x.1) (pair_at named_at (λ named. properties_at)) share_of
    (λ item. ((item.name, item.snapshot), (item.changed, (item.etag, item.quota)))) share_rest IsShare
    (λ x h. (record { name = whole_utf8 x.0.0 h.0.0; snapshot = h.0.1; changed = h.1.0; etag = h.1.1.0; quota = record { least = h.1.1.1.0; most = h.1.1.1.1 } }, refl))
    (λ item h. (((utf8_whole item.name h.name, h.snapshot), (h.changed, (h.etag, (h.quota.least, h.quota.most)))), refl))
    (pair-reading cases_eq k named_rest IsNamed named_at (λ named x. properties_rest x) (λ named x. AreProperties x) (λ named. properties_at)
    named-reading (λ named h. ((0, (0, 1)), ((omega arith, refl), ((omega arith, omega arith), (omega arith, omega arith)))))
    (λ named j h le. properties-reading j))

abbrev items_rest : List ShareItem → List ℕ
items_rest items = codes "/MaxResults><Shares><" ++ values_text share_rest 47 items

abbrev AllShares : List ShareItem → Type 0
AllShares items = AllByRecursion IsShare items

items-reading : Reads cases_eq items_rest AllShares items_at
unfolding items_at
items-reading k =
    after-reading k (codes "/MaxResults><Shares><") (values_text share_rest 47) AllShares (all_values_at 47 share_at) ([], tt)
    (values-reading 47 share_rest IsShare share_at (λ item h. (83, _, refl, λ q. omega (arith, q))) share-reading k)

-- what was asked for, and the next marker

abbrev marked_rest : List ℕ × ℕ → List ℕ
marked_rest x = (codes "/Prefix><Marker>" ++ escaped_text x.0) ++ (codes "/Marker><MaxResults>" ++ number_text 60 x.1)

abbrev IsMarked : List ℕ × ℕ → Type 0
IsMarked x = IsWhole x.0 × IsFrom 1 5000 x.1

marked-reading : Reads cases_eq marked_rest IsMarked marked_at
unfolding marked_at
marked-reading k =
    pair-reading cases_eq k (λ marker. codes "/Prefix><Marker>" ++ escaped_text marker) IsWhole (escaped_after (codes "/Prefix><Marker>"))
    (λ marker max. codes "/Marker><MaxResults>" ++ number_text 60 max) (λ marker max. IsFrom 1 5000 max)
    (λ marker. number_after (codes "/Marker><MaxResults>") 60 1 5000) (escaped_after-reading (codes "/Prefix><Marker>"))
    (λ marker h. (1, (omega arith, omega arith)))
    (λ marker j h le. number_after-reading (codes "/Marker><MaxResults>") 60 1 5000 refl (omega arith) (omega arith) j)

abbrev asked_rest : Asked → List ℕ
asked_rest x = (codes "<?xml version=\"1.0\" encoding=\"utf-8\"?><EnumerationResults><Prefix>" ++ escaped_text x.0) ++ marked_rest x.1

abbrev IsAsked : Asked → Type 0
IsAsked x = IsWhole x.0 × IsMarked x.1

asked-reading : Reads cases_eq asked_rest IsAsked asked_at
unfolding asked_at
asked-reading k =
    pair-reading cases_eq k (λ prefix. codes "<?xml version=\"1.0\" encoding=\"utf-8\"?><EnumerationResults><Prefix>" ++ escaped_text prefix) IsWhole
    (escaped_after (codes "<?xml version=\"1.0\" encoding=\"utf-8\"?><EnumerationResults><Prefix>"))
    (λ prefix x. marked_rest x) (λ prefix x. IsMarked x) (λ prefix. marked_at)
    (escaped_after-reading (codes "<?xml version=\"1.0\" encoding=\"utf-8\"?><EnumerationResults><Prefix>"))
    (λ prefix h. (([], 1), (nothing_whole, (omega arith, omega arith)))) (λ prefix j h le. marked-reading j)

abbrev next_rest : List ℕ → List ℕ
next_rest next = (codes "Shares><NextMarker>" ++ escaped_text next) ++ codes "/NextMarker></EnumerationResults>"

next-reading : Reads cases_eq next_rest IsWhole next_at
unfolding next_at
next-reading =
    closed-reading (λ next. codes "Shares><NextMarker>" ++ escaped_text next) IsWhole (escaped_after (codes "Shares><NextMarker>"))
    (codes "/NextMarker></EnumerationResults>") (escaped_after-reading (codes "Shares><NextMarker>"))

abbrev answered_rest : List ShareItem × List ℕ → List ℕ
answered_rest x = items_rest x.0 ++ next_rest x.1

abbrev AreAnswered : List ShareItem × List ℕ → Type 0
AreAnswered x = AllShares x.0 × IsWhole x.1

answered-reading : Reads cases_eq answered_rest AreAnswered answered_at
unfolding answered_at
answered-reading k =
    pair-reading cases_eq k items_rest AllShares items_at (λ items next. next_rest next) (λ items next. IsWhole next) (λ items. next_at)
    items-reading (λ items h. ([], nothing_whole)) (λ items j h le. next-reading j)

-- the text as it is read is the text as it is written

choice_is : (o : Option ℕ) → 60 ∷ choice_rest o ≡ snapshot_text o ++ codes "<Properties>"
choice_is None = refl
choice_is (Some moment) = simp append_assoc

properties_are : (item : ShareItem)
    → codes "<Properties>" ++ properties_rest (item.changed, (item.etag, item.quota)) ≡ properties_text item ++ codes "</Share><"
unfolding properties_text
properties_are item = simp append_assoc

share_moves : (item : ShareItem) → 60 ∷ share_rest item ≡ share_text item ++ 60 ∷ []
unfolding share_text
share_moves item =
    let front = codes "<Share><Name>" ++ (escaped_text item.name ++ codes "/Name>") in
    let behind = properties_rest (item.changed, (item.etag, item.quota)) in
    let begins : 60 ∷ share_rest item ≡ front ++ ((60 ∷ choice_rest item.snapshot) ++ behind) = simp append_assoc in
    let turns : (snapshot_text item.snapshot ++ codes "<Properties>") ++ behind ≡ snapshot_text item.snapshot ++ (codes "<Properties>" ++ behind) =
    append_assoc (snapshot_text item.snapshot) (codes "<Properties>") behind in
    begins
    ∙ ap (λ (x : List ℕ). front ++ (x ++ behind)) (choice_is item.snapshot)
    ∙ ap (λ (x : List ℕ). front ++ x) turns
    ∙ ap (λ (x : List ℕ). front ++ (snapshot_text item.snapshot ++ x)) (properties_are item)
    ∙ simp append_assoc

items_are : (items : List ShareItem) → items_rest items ≡ codes "/MaxResults><Shares>" ++ (flat_map share_text items ++ 60 ∷ 47 ∷ [])
items_are items = ap (λ more. codes "/MaxResults><Shares>" ++ more) (moved share_text share_rest share_moves items)

shares_are : (page : SharesPage) → asked_rest (page.prefix, (page.marker, page.max)) ++ answered_rest (page.items, page.next) ≡ shares_text page
unfolding shares_text shares_asked_text
shares_are page =
    ap (λ more. asked_rest (page.prefix, (page.marker, page.max)) ++ (more ++ next_rest page.next)) (items_are page.items)
    ∙ simp append_assoc

-- the law of `shares_at`
pub shares-reading : Reads cases_eq shares_text AreShares shares_at
unfolding shares_at
shares-reading k =
    made-reading cases_eq k (λ (x : Asked × (List ShareItem × List ℕ)). asked_rest x.0 ++ answered_rest x.1) (λ x. IsAsked x.0 × AreAnswered x.1)
    (pair_at asked_at (λ asked. answered_at)) page_of (λ page. ((page.prefix, (page.marker, page.max)), (page.items, page.next))) shares_text AreShares
    (λ x h. (
      record { prefix = whole_utf8 x.0.0 h.0.0; marker = whole_utf8 x.0.1.0 h.0.1.0; max = record { least = h.0.1.1.0; most = h.0.1.1.1 }; items = h.1.0; next = whole_utf8 x.1.1 h.1.1 },
      sym (shares_are (page_of x)),
    ))
    (λ page h. (((utf8_whole page.prefix h.prefix, (utf8_whole page.marker h.marker, (h.max.least, h.max.most))), (h.items, utf8_whole page.next h.next)), refl))
    (pair-reading cases_eq k asked_rest IsAsked asked_at (λ asked x. answered_rest x) (λ asked x. AreAnswered x) (λ asked. answered_at)
    asked-reading (λ asked h. (([], []), (tt, nothing_whole))) (λ asked j h le. answered-reading j))
