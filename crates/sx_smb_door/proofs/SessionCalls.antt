-- Which calls a session's lines spell.
use Rattle.std.proofs.Common.{ℕ, ◌≡◌, Bool, true, false, cond, List, bytes_eq, codes, refl, subst, Option, Some, None, Result, Ok, Err}
use Rattle.sx_call.specs.Calls.{door_of}
use Rattle.sx_call.specs.declared.calls.Call.{Call}
use Rattle.sx_call.specs.declared.doors.Door.TheVariants.{InSession}
use Rattle.sx_lines.specs.Fields.{read_range_of, byte_range_of, write_of, length_of, page_size_of, choice_of, marker_of, share_of, path_of, rights_of, mode_of, how_of}
use Rattle.sx_lines.specs.Lines.{index_in, offset_in, close_call, read_call, write_call, resize_call, lock_in, lock_call, unlock_call, stat_call, list_call, dispose_call, quit_line, call_said, call_by, verb_of, line_read, placed, line_of}
use Rattle.sx_lines.specs.Opens.{open_call, rights_in}
use Rattle.sx_lines.specs.Reading.{Reading, with_next}
use Rattle.sx_lines.specs.Words.{next_word, behind_next, judged, end_of, without_return, first_word, behind_first}
use Rattle.sx_lines.specs.declared.line.Line.{Line}
use Rattle.sx_lines.specs.declared.line.Line.TheVariants.{Ask, Quit}

-- a call that is read, if one is, stands in a session
abbrev pub StandsInSession : Reading Call → Type 0
StandsInSession (Ok call) = door_of call ≡ InSession
StandsInSession (Err left) = Unit {0}

behind : {A : Type 0} (r : Reading A) (f : A → Reading Call) → ((a : A) → StandsInSession (f a)) → StandsInSession (with_next r f)
behind (Ok a) f h = h a
behind (Err left) f h = tt

closes : (k : List ℕ) → StandsInSession (close_call k)
unfolding close_call
closes k = behind (index_in k) _ (λ index. behind (end_of (behind_next k)) _ (λ u. refl))

reads : (k : List ℕ) → StandsInSession (read_call k)
unfolding read_call
reads k =
    let at = behind_next k in
    let count = behind_next at in
    behind (index_in k) _ (λ index. behind (offset_in at) _ (λ from. behind (judged count (read_range_of from (next_word count))) _ (λ range. behind (end_of (behind_next count)) _ (λ u. refl))))

writes : (k : List ℕ) → StandsInSession (write_call k)
unfolding write_call
writes k =
    let at = behind_next k in
    let hex = behind_next at in
    behind (index_in k) _ (λ index. behind (offset_in at) _ (λ from. behind (judged hex (write_of from (next_word hex))) _ (λ write. behind (end_of (behind_next hex)) _ (λ u. refl))))

resizes : (k : List ℕ) → StandsInSession (resize_call k)
unfolding resize_call
resizes k =
    let length = behind_next k in
    behind (index_in k) _ (λ index. behind (judged length (length_of (next_word length))) _ (λ bytes. behind (end_of (behind_next length)) _ (λ u. refl)))

locks : (k : List ℕ) → StandsInSession (lock_call k)
unfolding lock_call
locks k = behind (lock_in k) _ (λ lock. refl)

unlocks : (k : List ℕ) → StandsInSession (unlock_call k)
unfolding unlock_call
unlocks k = behind (lock_in k) _ (λ lock. refl)

stats : (k : List ℕ) → StandsInSession (stat_call k)
unfolding stat_call
stats k = behind (index_in k) _ (λ index. behind (end_of (behind_next k)) _ (λ u. refl))

lists : (k : List ℕ) → StandsInSession (list_call k)
unfolding list_call
lists k =
    let marker = behind_next k in
    let max = behind_next marker in
    behind (index_in k) _ (λ index. behind (judged marker (marker_of (next_word marker))) _ (λ name. behind (judged max (page_size_of (next_word max))) _ (λ size. behind (end_of (behind_next max)) _ (λ u. refl))))

disposes : (k : List ℕ) → StandsInSession (dispose_call k)
unfolding dispose_call
disposes k =
    let mark = behind_next k in
    behind (index_in k) _ (λ index. behind (judged mark (choice_of (codes "on") (codes "off") (next_word mark))) _ (λ on. behind (end_of (behind_next mark)) _ (λ u. refl)))

opens : (share : List ℕ) → StandsInSession (open_call share)
unfolding open_call
opens share =
    let path = behind_next share in
    let access = behind_next path in
    let mode = behind_next access in
    let how = behind_next mode in
    let kind = behind_next how in
    let doc = behind_next kind in
    behind (judged share (share_of (next_word share))) _ (λ s. behind (judged path (path_of (next_word path))) _ (λ p. behind (judged access (rights_of (next_word access))) _ (λ a. behind (judged mode (mode_of (next_word mode))) _ (λ m. behind (judged how (how_of (next_word how))) _ (λ h. behind (judged kind (choice_of (codes "dir") (codes "file") (next_word kind))) _ (λ d. behind (rights_in a doc) _ (λ r. behind (end_of (behind_next doc)) _ (λ u. refl))))))))

-- whatever is chosen
pick : {A : Type 0} (P : A → Type 0) (b : Bool) (x y : A) → P x → P y → P (cond b x y)
pick P true x y h k = h
pick P false x y h k = k

says_by : (text word : List ℕ) → StandsInSession (call_by text (verb_of word))
unfolding verb_of call_said
says_by text word =
    let rest = behind_first text in
    pick (λ v. StandsInSession (call_by text v)) (bytes_eq word (codes "open")) _ _ (opens rest)
    (pick (λ v. StandsInSession (call_by text v)) (bytes_eq word (codes "close")) _ _ (closes rest)
    (pick (λ v. StandsInSession (call_by text v)) (bytes_eq word (codes "read")) _ _ (reads rest)
    (pick (λ v. StandsInSession (call_by text v)) (bytes_eq word (codes "write")) _ _ (writes rest)
    (pick (λ v. StandsInSession (call_by text v)) (bytes_eq word (codes "resize")) _ _ (resizes rest)
    (pick (λ v. StandsInSession (call_by text v)) (bytes_eq word (codes "lock")) _ _ (locks rest)
    (pick (λ v. StandsInSession (call_by text v)) (bytes_eq word (codes "unlock")) _ _ (unlocks rest)
    (pick (λ v. StandsInSession (call_by text v)) (bytes_eq word (codes "stat")) _ _ (stats rest)
    (pick (λ v. StandsInSession (call_by text v)) (bytes_eq word (codes "list")) _ _ (lists rest)
    (pick (λ v. StandsInSession (call_by text v)) (bytes_eq word (codes "dispose")) _ _ (disposes rest) tt)))))))))

-- a line's call, if it asks for one, stands in a session
abbrev AsksInSession : Result Line ℕ → Type 0
AsksInSession (Ok (Ask call)) = door_of call ≡ InSession
AsksInSession (Ok Quit) = Unit {0}
AsksInSession (Err at) = Unit {0}

asks : (r : Reading Call) → StandsInSession r → AsksInSession (with_next r (λ call. Ok (Ask call)))
asks (Ok call) h = h
asks (Err left) h = tt

quits : (r : Reading (Unit {0})) → AsksInSession (with_next r (λ u. Ok Quit))
quits (Ok u) = tt
quits (Err left) = tt

quit_says : (rest : List ℕ) → AsksInSession (quit_line rest)
unfolding quit_line
quit_says rest = quits (end_of rest)

either : (b : Bool) (x y : Reading Line) → AsksInSession x → AsksInSession y → AsksInSession (cond b x y)
either true x y h k = h
either false x y h k = k

text_asks : (text : List ℕ) → AsksInSession (line_read text)
unfolding line_read
text_asks text =
    either (bytes_eq (first_word text) (codes "quit")) (quit_line (behind_first text)) (with_next (call_by text (verb_of (first_word text))) (λ call. Ok (Ask call)))
    (quit_says (behind_first text)) (asks (call_by text (verb_of (first_word text))) (says_by text (first_word text)))

stays : (text : List ℕ) (r : Reading Line) → AsksInSession r → AsksInSession (placed text r)
stays text (Ok (Ask call)) h = h
stays text (Ok Quit) h = tt
stays text (Err left) h = tt

line_asks : (line : List ℕ) → AsksInSession (line_of line)
unfolding line_of
line_asks line = stays (without_return line) (line_read (without_return line)) (text_asks (without_return line))

-- a line spells no Start, no End and no REST call
pub spells_session_call : (line : List ℕ) (call : Call) → line_of line ≡ Ok (Ask call) → door_of call ≡ InSession
spells_session_call line call e = subst AsksInSession e (line_asks line)
