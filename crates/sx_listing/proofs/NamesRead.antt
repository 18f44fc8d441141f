-- The body that lists a directory is read exactly.
use Rattle.std.proofs.Common.{codes, ◌≡◌, ℕ, Bool, true, false, cond, List, [], ◌∷◌, ◌++◌, refl, sym, ap, ◌∙◌, arith, append_assoc, inl, inr}
use Rattle.std.proofs.lemmas.Bool.{cases_eq}
use Rattle.std.specs.List.{AllByRecursion, flat_map}
use Rattle.sx_names.specs.declared.page.NameItem.{NameItem}
use Rattle.sx_names.specs.declared.page.NamesPage.{NamesPage}
use Rattle.sx_text.specs.Readers.{pair_at, closed_at, all_values_at, values_text}
use Rattle.sx_text.specs.Numbers.{number_text, number_after, IsFrom}
use Rattle.sx_text.specs.Escapes.{IsWhole, escaped_text, escaped_after}
use Rattle.sx_text.proofs.Laws.{Reads, pair-reading, made-reading}
use Rattle.sx_text.proofs.Literals.{after-reading, closed-reading}
use Rattle.sx_text.proofs.Numbers.{number_after-reading}
use Rattle.sx_text.proofs.Values.{values-reading}
use Rattle.sx_text.proofs.Choices.{either-reading}
use Rattle.sx_text.proofs.EscapedTexts.{escaped_after-reading}
use Rattle.sx_text.proofs.Utf8.{whole_utf8, utf8_whole, nothing_whole}
use Rattle.sx_listing.specs.Names.{file_text, directory_text, name_text, asked_text, names_text}
use Rattle.sx_listing.specs.PercentReader.{percent_ended, percent_after}
use Rattle.sx_listing.specs.Body.{greatest_64}
use Rattle.sx_listing.specs.NamesReader.{IsFile, IsDirectory, IsName, IsNames, file_of, directory_of, page_of, name_and_id_at, length_at, file_at, directory_at, name_at, asked_at, entries_at, next_at, answered_at, names_at}
use Rattle.sx_listing.proofs.Bodies.{moved}
use Rattle.sx_listing.proofs.PercentTexts.{percent_after-reading}

-- the pieces as they are read

abbrev id_rest : ℕ → List ℕ
id_rest id = codes "/Name><FileId>" ++ number_text 60 id

abbrev named_rest : List ℕ → List ℕ × ℕ → List ℕ
named_rest tag x = (tag ++ escaped_text x.0) ++ id_rest x.1

abbrev IsNamed : List ℕ × ℕ → Type 0
IsNamed x = IsWhole x.0 × IsFrom 0 greatest_64 x.1

abbrev length_rest : ℕ → List ℕ
length_rest length = (codes "/FileId><Properties><Content-Length>" ++ number_text 60 length) ++ codes "/Content-Length></Properties></File><"

abbrev file_rest : NameItem → List ℕ
file_rest item = named_rest (codes "File><Name>") (item.name, item.id) ++ length_rest item.length

abbrev directory_rest : NameItem → List ℕ
directory_rest item = named_rest (codes "Directory><Name>") (item.name, item.id) ++ codes "/FileId><Properties></Properties></Directory><"

-- a name as it is read: without the `<` at its front, and with the next one
abbrev name_rest : NameItem → List ℕ
name_rest item = cond item.dir (directory_rest item) (file_rest item)

named-reading : (tag : List ℕ) → Reads cases_eq (named_rest tag) IsNamed (name_and_id_at tag)
unfolding name_and_id_at
named-reading tag k =
    pair-reading cases_eq k (λ name. tag ++ escaped_text name) IsWhole (escaped_after tag) (λ name id. id_rest id) (λ name id. IsFrom 0 greatest_64 id)
    (λ name. number_after (codes "/Name><FileId>") 60 0 greatest_64) (escaped_after-reading tag) (λ name h. (0, (omega arith, omega arith)))
    (λ name j h le. number_after-reading (codes "/Name><FileId>") 60 0 greatest_64 refl (omega arith) (omega arith) j)

length-reading : Reads cases_eq length_rest (IsFrom 0 greatest_64) length_at
unfolding length_at
length-reading =
    closed-reading (λ n. codes "/FileId><Properties><Content-Length>" ++ number_text 60 n) (IsFrom 0 greatest_64)
    (number_after (codes "/FileId><Properties><Content-Length>") 60 0 greatest_64) (codes "/Content-Length></Properties></File><")
    (number_after-reading (codes "/FileId><Properties><Content-Length>") 60 0 greatest_64 refl (omega arith) (omega arith))

file-reading : Reads cases_eq name_rest IsFile file_at
unfolding file_at
file-reading k =
    made-reading cases_eq k (λ (x : (List ℕ × ℕ) × ℕ). named_rest (codes "File><Name>") x.0 ++ length_rest x.1) (λ x. IsNamed x.0 × IsFrom 0 greatest_64 x.1)
    (pair_at (name_and_id_at (codes "File><Name>")) (λ named. length_at)) file_of (λ item. ((item.name, item.id), item.length)) name_rest IsFile
    (λ x h. ((refl, whole_utf8 x.0.0 h.0.0, h.0.1, h.1), refl))
    (λ item h. (((utf8_whole item.name h.1, h.2), h.3), ap (λ (d : Bool). record { name = item.name; dir = d; id = item.id; length = item.length }) (sym h.0)))
    (pair-reading cases_eq k (named_rest (codes "File><Name>")) IsNamed (name_and_id_at (codes "File><Name>"))
    (λ named length. length_rest length) (λ named length. IsFrom 0 greatest_64 length) (λ named. length_at)
    (named-reading (codes "File><Name>")) (λ named h. (0, (omega arith, omega arith))) (λ named j h le. length-reading j))

directory-reading : Reads cases_eq name_rest IsDirectory directory_at
unfolding directory_at
directory-reading k =
    made-reading cases_eq k (λ (x : List ℕ × ℕ). named_rest (codes "Directory><Name>") x ++ codes "/FileId><Properties></Properties></Directory><") IsNamed
    (closed_at (name_and_id_at (codes "Directory><Name>")) (codes "/FileId><Properties></Properties></Directory><")) directory_of (λ item. (item.name, item.id)) name_rest IsDirectory
    (λ x h. ((refl, whole_utf8 x.0 h.0, h.1, refl), refl))
    (λ item h. (
      (utf8_whole item.name h.1, h.2),
      ap (λ (d : Bool). record { name = item.name; dir = d; id = item.id; length = 0 }) (sym h.0)
          ∙ ap (λ (n : ℕ). record { name = item.name; dir = item.dir; id = item.id; length = n }) (sym h.3),
    ))
    (closed-reading (named_rest (codes "Directory><Name>")) IsNamed (name_and_id_at (codes "Directory><Name>"))
    (codes "/FileId><Properties></Properties></Directory><") (named-reading (codes "Directory><Name>")) k)

file_front : (item : NameItem) → IsFile item → name_rest item ≡ file_rest item
file_front item h = ap (λ (d : Bool). cond d (directory_rest item) (file_rest item)) h.0

directory_front : (item : NameItem) → IsDirectory item → name_rest item ≡ directory_rest item
directory_front item h = ap (λ (d : Bool). cond d (directory_rest item) (file_rest item)) h.0

name-reading : Reads cases_eq name_rest IsName name_at
unfolding name_at
name-reading k =
    either-reading k 70 name_rest IsFile IsDirectory file_at directory_at
    (file_of (([], 0), 0), (refl, whole_utf8 [] nothing_whole, (omega arith, omega arith), (omega arith, omega arith)))
    (λ item h. (_, file_front item h)) (λ item h. (68, _, directory_front item h, λ q. omega (arith, q)))
    (file-reading k) (directory-reading k)

abbrev asked_rest : List ℕ × (List ℕ × ℕ) → List ℕ
asked_rest x =
    (codes "<?xml version=\"1.0\" encoding=\"utf-8\"?><EnumerationResults><Prefix>" ++ escaped_text x.0)
    ++ ((codes "/Prefix><Marker>" ++ percent_ended x.1.0) ++ (codes "/Marker><MaxResults>" ++ number_text 60 x.1.1))

abbrev IsAsked : List ℕ × (List ℕ × ℕ) → Type 0
IsAsked x = IsWhole x.0 × (IsWhole x.1.0 × IsFrom 1 5000 x.1.1)

asked-reading : Reads cases_eq asked_rest IsAsked asked_at
unfolding asked_at
asked-reading k =
    pair-reading cases_eq k (λ prefix. codes "<?xml version=\"1.0\" encoding=\"utf-8\"?><EnumerationResults><Prefix>" ++ escaped_text prefix) IsWhole
    (escaped_after (codes "<?xml version=\"1.0\" encoding=\"utf-8\"?><EnumerationResults><Prefix>"))
    (λ prefix (x : List ℕ × ℕ). (codes "/Prefix><Marker>" ++ percent_ended x.0) ++ (codes "/Marker><MaxResults>" ++ number_text 60 x.1))
    (λ prefix x. IsWhole x.0 × IsFrom 1 5000 x.1)
    (λ prefix. pair_at (percent_after (codes "/Prefix><Marker>")) (λ marker. number_after (codes "/Marker><MaxResults>") 60 1 5000))
    (escaped_after-reading (codes "<?xml version=\"1.0\" encoding=\"utf-8\"?><EnumerationResults><Prefix>"))
    (λ prefix h. (([], 1), (nothing_whole, (omega arith, omega arith))))
    (λ prefix j h le.
    pair-reading cases_eq j (λ marker. codes "/Prefix><Marker>" ++ percent_ended marker) IsWhole (percent_after (codes "/Prefix><Marker>"))
    (λ marker max. codes "/Marker><MaxResults>" ++ number_text 60 max) (λ marker max. IsFrom 1 5000 max)
    (λ marker. number_after (codes "/Marker><MaxResults>") 60 1 5000) (percent_after-reading (codes "/Prefix><Marker>"))
    (λ marker h. (1, (omega arith, omega arith)))
    (λ marker i h le. number_after-reading (codes "/Marker><MaxResults>") 60 1 5000 refl (omega arith) (omega arith) i))

abbrev entries_rest : List NameItem → List ℕ
entries_rest items = codes "/MaxResults><Entries><" ++ values_text name_rest 47 items

abbrev AreNames : List NameItem → Type 0
AreNames items = AllByRecursion IsName items

starts : (item : NameItem) → IsName item → (b : ℕ) × (more : List ℕ) × (name_rest item ≡ b ∷ more) × (b ≡ 47 → ⊥)
starts item (inl h) = (70, _, file_front item h, λ q. omega (arith, q))
starts item (inr h) = (68, _, directory_front item h, λ q. omega (arith, q))

entries-reading : Reads cases_eq entries_rest AreNames entries_at
unfolding entries_at
entries-reading k =
    after-reading k (codes "/MaxResults><Entries><") (values_text name_rest 47) AreNames (all_values_at 47 name_at) ([], tt)
    (values-reading 47 name_rest IsName name_at starts name-reading k)

abbrev next_rest : List ℕ → List ℕ
next_rest next = (codes "Entries><NextMarker>" ++ percent_ended next) ++ codes "/NextMarker></EnumerationResults>"

next-reading : Reads cases_eq next_rest IsWhole next_at
unfolding next_at
next-reading =
    closed-reading (λ next. codes "Entries><NextMarker>" ++ percent_ended next) IsWhole (percent_after (codes "Entries><NextMarker>"))
    (codes "/NextMarker></EnumerationResults>") (percent_after-reading (codes "Entries><NextMarker>"))

abbrev answered_rest : List NameItem × List ℕ → List ℕ
answered_rest x = entries_rest x.0 ++ next_rest x.1

abbrev AreAnswered : List NameItem × List ℕ → Type 0
AreAnswered x = AreNames x.0 × IsWhole x.1

answered-reading : Reads cases_eq answered_rest AreAnswered answered_at
unfolding answered_at
answered-reading k =
    pair-reading cases_eq k entries_rest AreNames entries_at (λ items next. next_rest next) (λ items next. IsWhole next) (λ items. next_at)
    entries-reading (λ items h. ([], nothing_whole)) (λ items j h le. next-reading j)

-- the text as it is read is the text as it is written

file_moves : (item : NameItem) → 60 ∷ file_rest item ≡ file_text item ++ 60 ∷ []
unfolding file_text
file_moves item = simp append_assoc

directory_moves : (item : NameItem) → 60 ∷ directory_rest item ≡ directory_text item ++ 60 ∷ []
unfolding directory_text
directory_moves item = simp append_assoc

moves_by : (d : Bool) (item : NameItem) → 60 ∷ cond d (directory_rest item) (file_rest item) ≡ cond d (directory_text item) (file_text item) ++ 60 ∷ []
moves_by true item = directory_moves item
moves_by false item = file_moves item

entries_are : (items : List NameItem) → entries_rest items ≡ codes "/MaxResults><Entries>" ++ (flat_map name_text items ++ 60 ∷ 47 ∷ [])
entries_are items = ap (λ more. codes "/MaxResults><Entries>" ++ more) (moved name_text name_rest (λ item. moves_by item.dir item) items)

names_are : (page : NamesPage) → asked_rest (page.prefix, (page.marker, page.max)) ++ answered_rest (page.items, page.next) ≡ names_text page
unfolding names_text asked_text
names_are page =
    ap (λ more. asked_rest (page.prefix, (page.marker, page.max)) ++ (more ++ next_rest page.next)) (entries_are page.items)
    ∙ simp append_assoc

-- the law of `names_at`
pub names-reading : Reads cases_eq names_text IsNames names_at
unfolding names_at
names-reading k =
    made-reading cases_eq k (λ (x : (List ℕ × (List ℕ × ℕ)) × (List NameItem × List ℕ)). asked_rest x.0 ++ answered_rest x.1) (λ x. IsAsked x.0 × AreAnswered x.1)
    (pair_at asked_at (λ asked. answered_at)) page_of (λ page. ((page.prefix, (page.marker, page.max)), (page.items, page.next))) names_text IsNames
    (λ x h. ((whole_utf8 x.0.0 h.0.0, whole_utf8 x.0.1.0 h.0.1.0, record { least = h.0.1.1.0; most = h.0.1.1.1 }, h.1.0, whole_utf8 x.1.1 h.1.1), sym (names_are (page_of x))))
    (λ page h. (((utf8_whole page.prefix h.0, (utf8_whole page.marker h.1, (h.2.least, h.2.most))), (h.3, utf8_whole page.next h.4)), refl))
    (pair-reading cases_eq k asked_rest IsAsked asked_at (λ asked x. answered_rest x) (λ asked x. AreAnswered x) (λ asked. answered_at)
    asked-reading (λ asked h. (([], []), (tt, nothing_whole))) (λ asked j h le. answered-reading j))
