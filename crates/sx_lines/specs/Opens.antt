-- The line that opens a file or directory: `open SHARE PATH ACCESS MODE existing|create|either file|dir`, and `doc`
-- behind it where ACCESS has `d`.
use Rattle.std.specs.Prelude.{ℕ, ◌==◌, true, false, bytes_eq, codes, List, length, if◌then◌else◌, Option, None}
use Rattle.std.specs.Prelude.{Ok}
use Rattle.sx_guard.specs.declared.access.Access.{Access}
use Rattle.sx_call.specs.Limits.{if_within}
use Rattle.sx_call.specs.Opens.{OpenRights, is_open_rights}
use Rattle.sx_call.specs.declared.calls.Call.{Call}
use Rattle.sx_call.specs.declared.calls.Call.TheVariants.{SmbOpen}
use Rattle.sx_lines.specs.Reading.{Reading, with_next}
use Rattle.sx_lines.specs.Words.{next_word, behind_next, judged, end_of}
use Rattle.sx_lines.specs.Fields.{share_of, path_of, rights_of, mode_of, how_of, choice_of}

-- these rights, without the mark for delete on close
abbrev pub unmarked : Access → OpenRights
unmarked access = record { access = access; on_close = false }

-- these rights with the mark for delete on close, which asks for delete access
abbrev pub marked : Access → Option OpenRights
marked access = if_within is_open_rights (record { access = access; on_close = true })

-- the word `doc`
abbrev pub doc_of : Access → List ℕ → Option OpenRights
doc_of access word = if bytes_eq word (codes "doc") then marked access else None

-- the mark for delete on close, if a word stands there
unfoldable pub rights_in : Access → List ℕ → Reading OpenRights
rights_in access doc = if length doc == 0 then Ok (unmarked access) else judged doc (doc_of access (next_word doc))

-- each name is what is left of the line from that word on, behind the word before it
unfoldable pub open_call : List ℕ → Reading Call
open_call share =
    let path = behind_next share in
    let access = behind_next path in
    let mode = behind_next access in
    let how = behind_next mode in
    let kind = behind_next how in
    let doc = behind_next kind in
    with_next (judged share (share_of (next_word share))) (λ s.
    with_next (judged path (path_of (next_word path))) (λ p.
    with_next (judged access (rights_of (next_word access))) (λ a.
    with_next (judged mode (mode_of (next_word mode))) (λ m.
    with_next (judged how (how_of (next_word how))) (λ h.
    with_next (judged kind (choice_of (codes "dir") (codes "file") (next_word kind))) (λ d.
    with_next (rights_in a doc) (λ r.
    with_next (end_of (behind_next doc)) (λ _.
    Ok (SmbOpen (record { share = s; path = p; access = r; mode = m; how = h; dir = d }))))))))))
