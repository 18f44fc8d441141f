-- Laws on histories: one entry more, beginnings, and what is at a place.
use Rattle.std.specs.Prelude.{◌≡◌, ◌≤◌, ℕ, ◌+◌, ◌-◌, List, [], ◌∷◌, ◌++◌, length, take, slice_get, Some, option_map}
use Rattle.std.proofs.Common.{refl, ap, arith}
use Rattle.sx_base.specs.Clock.{greatest_moment}
use Rattle.sx_call.specs.declared.entries.Entry.{Entry}
use Rattle.sx_call.specs.declared.entries.Noted.{Noted}
use Rattle.sx_spec.specs.Account.{Account, empty}
use Rattle.sx_spec.specs.History.{MayCome, IsHistory, IsHistoryFrom, is_refused, noted_at, wants, moment_after}
use Rattle.sx_spec.specs.History.{last_moment}
use Rattle.sx_spec.specs.Step.{step, after, replay, reply_at}
use Rattle.sx_spec.proofs.Live.{step_room}

-- the account after one entry more
after_more : (a : Account) (ns : List Noted) (n : Noted) → after a (ns ++ n ∷ []) ≡ (step (after a ns) n.entry).0
after_more a [] n = refl
after_more a (m ∷ ns) n = after_more (step a m.entry).0 ns n

-- a history leaves the account that one entry more finds
pub replay_more : (ns : List Noted) (n : Noted) → replay (ns ++ n ∷ []) ≡ (step (replay ns) n.entry).0
replay_more ns n = after_more empty ns n

moment_more : (last : ℕ) (ns : List Noted) (n : Noted) → moment_after last (ns ++ n ∷ []) ≡ n.entry.at
moment_more last [] n = refl
moment_more last (m ∷ ns) n = moment_more m.entry.at ns n

-- the moment of one entry more is the last one then
pub last_more : (ns : List Noted) (n : Noted) → last_moment (ns ++ n ∷ []) ≡ n.entry.at
last_more ns n = moment_more 0 ns n

came_after : (a : Account) (ns : List Noted) → (after a ns).came ≡ a.came + length ns
came_after a [] = omega arith
came_after a (n ∷ ns) = omega (arith, came_after (step a n.entry).0 ns)

-- each entry counts
pub came_is : (ns : List Noted) → (replay ns).came ≡ length ns
came_is ns = omega (arith, came_after empty ns)

history_more : (a : Account) (last limit : ℕ) (ns : List Noted) (n : Noted) → IsHistoryFrom a last limit ns
    → MayCome (after a ns) (moment_after last ns) n.entry
    → n.refused ≡ is_refused (step (after a ns) n.entry).1
    → (step (after a ns) n.entry).0.came + length (step (after a ns) n.entry).0.store.sessions ≤ limit
    → IsHistoryFrom a last limit (ns ++ n ∷ [])
history_more a last limit [] n h may marked room = (may, marked, room, tt)
history_more a last limit (m ∷ ns) n h may marked room =
    (h.0, h.1, h.2, history_more (step a m.entry).0 m.entry.at limit ns n h.3 may marked room)

-- a legal history with one entry more that may come, as it is kept, for which the limit leaves its places
pub legal_more : (limit : ℕ) (ns : List Noted) (e : Entry) → IsHistory limit ns
    → MayCome (replay ns) (last_moment ns) e → length ns + wants (replay ns) e.call ≤ limit
    → IsHistory limit (ns ++ noted_at (replay ns) e ∷ [])
legal_more limit ns e legal may room =
    history_more empty 0 limit ns (noted_at (replay ns) e) legal may refl (omega (arith, came_is ns, step_room (replay ns) (last_moment ns) e may))

begins : (a : Account) (last limit : ℕ) (ns more : List Noted) → IsHistoryFrom a last limit (ns ++ more)
    → IsHistoryFrom a last limit ns
begins a last limit [] more h = tt
begins a last limit (n ∷ ns) more h = (h.0, h.1, h.2, begins (step a n.entry).0 n.entry.at limit ns more h.3)

-- a beginning of a legal history is legal
pub legal_beginning : (limit : ℕ) (ns more : List Noted) → IsHistory limit (ns ++ more) → IsHistory limit ns
legal_beginning limit ns more legal = begins empty 0 limit ns more legal

room_after : (a : Account) (last limit : ℕ) (ns : List Noted) → a.came + length a.store.sessions ≤ limit
    → IsHistoryFrom a last limit ns → (after a ns).came + length (after a ns).store.sessions ≤ limit
room_after a last limit [] room h = room
room_after a last limit (n ∷ ns) room h = room_after (step a n.entry).0 n.entry.at limit ns h.2 h.3

-- a legal history and the ends of its live sessions fit the limit
pub legal_fits : (limit : ℕ) (ns : List Noted) → IsHistory limit ns
    → length ns + length (replay ns).store.sessions ≤ limit
legal_fits limit ns legal = omega (arith, came_is ns, room_after empty 0 limit ns (omega arith) legal)

clock_after : (a : Account) (last limit : ℕ) (ns : List Noted) → last ≤ greatest_moment
    → IsHistoryFrom a last limit ns → moment_after last ns ≤ greatest_moment
clock_after a last limit [] le h = le
clock_after a last limit (n ∷ ns) le h = clock_after (step a n.entry).0 n.entry.at limit ns h.0.clock h.3

-- no moment of a legal history passes a clock's greatest
pub legal_clock : (limit : ℕ) (ns : List Noted) → IsHistory limit ns → last_moment ns ≤ greatest_moment
legal_clock limit ns legal = clock_after empty 0 limit ns (omega arith) legal

take_all : (ns : List Noted) (n : Noted) → take (length ns) (ns ++ n ∷ []) ≡ ns
take_all [] n = refl
take_all (m ∷ ns) n = ap (λ (xs : List Noted). m ∷ xs) (take_all ns n)

get_last : (ns : List Noted) (n : Noted) → slice_get (ns ++ n ∷ []) (length ns) ≡ Some n
get_last [] n = refl
get_last (m ∷ ns) n = get_last ns n

reply_by : (ns : List Noted) (n : Noted) (k : ℕ) → k ≡ length ns
    → option_map (λ (m : Noted). (step (replay (take k (ns ++ n ∷ []))) m.entry).1) (slice_get (ns ++ n ∷ []) k) ≡ Some (step (replay ns) n.entry).1
reply_by ns n k is = rw (is, take_all ns n, get_last ns n) refl

-- the reply to the last entry is that of the step on what the entries before it leave
pub reply_last : (ns : List Noted) (n : Noted)
    → reply_at (ns ++ n ∷ []) (length ns + 1) ≡ Some (step (replay ns) n.entry).1
reply_last ns n = reply_by ns n (length ns + 1 - 1) (omega arith)
