-- What the office's calls leave of the sessions that a pass holds.
use Rattle.std.proofs.Common.{ℕ, ◌+◌, ◌<◌, ◌≤◌, ◌≡◌, ◌≢◌, true, List, length, Option, Some, None, refl, ap, sym, ◌∙◌, subst, arith}
use Rattle.std.specs.Prelude.{Result, Ok, Err, IfOk, IfErr}
use Rattle.sx_call.specs.declared.calls.Call.{Call}
use Rattle.sx_call.specs.Calls.{door_of}
use Rattle.sx_call.specs.declared.calls.Call.TheVariants.{End}
use Rattle.sx_call.specs.declared.doors.Door.{Door}
use Rattle.sx_call.specs.declared.doors.Door.TheVariants.{Rest, Starts, Ends, InSession}
use Rattle.sx_call.specs.declared.replies.Reply.TheVariants.{Smb}
use Rattle.sx_call.specs.declared.replies.SmbReply.TheVariants.{Started}
use Rattle.sx_call.specs.declared.refusals.Stop.{Stop}
use Rattle.sx_call.specs.declared.refusals.Stop.TheVariants.{HistoryFull}
use Rattle.sx_call.specs.declared.entries.Noted.{Noted}
use Rattle.sx_spec.specs.History.{IsHistory, is_of_caller, places_wanted, wants}
use Rattle.sx_spec.specs.Step.{replay}
use Rattle.sx_spec.specs.Whole.{IsWhole}
use Rattle.sx_book.specs.declared.pass.Receipt.{Receipt}
use Rattle.sx_book.specs.Passes.{PassView, HoldsSession, HoldsIn, StandsBy, StandsIn, MayAskBy, MayAsk, Appends, AppendsNone, IsFull, SawMore, KeepsSessions, session_or_0, with_noted, entry_behind, later, next_number, start_of}
use Rattle.sx_book.proofs.Lives.{held_among, held_behind, held_live, started_held, start_answers}
use Rattle.sx_book.proofs.Wholes.{session_started}

-- a call that is no End of a session leaves it held
pub took_keeps : (p q : PassView) (session now fresh : ℕ) (call : Call) (r : Receipt) (s : ℕ) → (call ≡ End → session ≢ s) → Appends p session now fresh call r q → HoldsSession p s → HoldsSession q s
took_keeps p q session now fresh call r s other t h =
    subst (λ (x : PassView). HoldsSession x s) (sym t.pass) (held_behind p.number s t.log (entry_behind t.log p.number session now fresh call) (λ ends own. other ends) (held_among p.number s p.seen t.log t.others h))

-- a pass that saw more entries of others holds what it held
pub saw_keeps : (p q : PassView) → SawMore p q → KeepsSessions p q
saw_keeps p q m s h = subst (λ (x : PassView). HoldsSession x s) (sym m.1) (held_among p.number s p.seen q.seen m.0 h)

-- a call leaves the sessions held that it does not end, whether it took a place or not
pub call_keeps : (p q : PassView) (session now fresh : ℕ) (call : Call) (r : Result Receipt Stop) (s : ℕ) → (call ≡ End → session ≢ s) → IfOk r (λ r. Appends p session now fresh call r q) → IfErr r (λ e. AppendsNone p call e q) → HoldsSession p s → HoldsSession q s
call_keeps p q session now fresh call (Ok r) s other took none h = took_keeps p q session now fresh call r s other took h
call_keeps p q session now fresh call (Err e) s other took none h = saw_keeps p q none.others s h

may_by : (p : PassView) (o : Option ℕ) (n : ℕ) (door : Door) → n ≡ session_or_0 o → MayAskBy p o door → StandsBy p n door
may_by p None n Rest e h = e
may_by p (Some s) n Rest e h = absurd (cc h)
may_by p o n Starts e h = absurd h
may_by p o n Ends e h = absurd h
may_by p None n InSession e h = absurd h
may_by p (Some s) n InSession e h = subst (HoldsSession p) (sym e) h

-- a call that may be asked stands in its session
pub may_stand : (p : PassView) (o : Option ℕ) (n : ℕ) (call : Call) → n ≡ session_or_0 o → MayAsk p o call → StandsIn p n call
may_stand p o n call e h = may_by p o n (door_of call) e h

-- nor is it an End
pub asks_no_end : (p : PassView) (o : Option ℕ) (call : Call) → MayAsk p o call → call ≡ End → ⊥
asks_no_end p o call h e = subst (λ (c : Call). MayAsk p o c) e h

full_by : (p : PassView) (o : Option ℕ) (door : Door) (live entries sessions limit most : ℕ) → MayAskBy p o door → most < entries + places_wanted live door → sessions ≡ live → entries + sessions ≤ limit → limit ≡ most → entries + sessions ≡ limit
full_by p o Rest live n m l most h full is within same = omega (arith, full, is, within, same)
full_by p o Starts live n m l most h full is within same = absurd h
full_by p o Ends live n m l most h full is within same = absurd h
full_by p o InSession live n m l most h full is within same = omega (arith, full, is, within, same)

-- where a call finds the history full, entries and live sessions are as many as the limit
full_numbers : (p q : PassView) (o : Option ℕ) (call : Call) (entries sessions limit : ℕ) → MayAsk p o call → IsFull q call entries sessions limit → entries + sessions ≡ limit
full_numbers p q o call n m l h f =
    let full : q.limit < n + wants (replay q.seen) call = omega (arith, f.full, f.entries_is) in
    full_by p o (door_of call) (length (replay q.seen).store.sessions) n m l q.limit h full f.sessions_is f.within f.limit_is

pub asked_full : (p q : PassView) (o : Option ℕ) (call : Call) (r : Result Receipt Stop) (entries sessions limit : ℕ) → MayAsk p o call → IfErr r (λ e. AppendsNone p call e q) → r ≡ Err (HistoryFull entries sessions limit) → entries + sessions ≡ limit
asked_full p q o call (Ok r) n m l h none e = absurd (cc e)
asked_full p q o call (Err stop) n m l h none e = full_numbers p q o call n m l h (none.cause n m l (cc e))

same_started : (n m : ℕ) → Smb (Started n) ≡ Smb (Started m) → n ≡ m
same_started n m e = cc e

-- a start is answered its session's number
pub start_reply : (p q : PassView) (now peer : ℕ) (r : Receipt) → (t : Appends p 0 now 0 (start_of peer) r q) → r.reply ≡ Smb (Started (next_number t.log))
start_reply p q now peer r t = ap (λ (x : Receipt). x.reply) t.receipt ∙ start_answers (replay t.log) p.number 0 (later t.log now) 0 peer

-- the session that was started is held
pub start_held : (p q : PassView) (now peer n : ℕ) (r : Receipt) → Appends p 0 now 0 (start_of peer) r q → r.reply ≡ Smb (Started n) → HoldsSession q n
start_held p q now peer n r t e =
    let is : next_number t.log ≡ n = same_started (next_number t.log) n (sym (start_reply p q now peer r t) ∙ e) in
    subst (λ (x : PassView). HoldsSession x n) (sym t.pass) (subst (HoldsIn p.number (with_noted t.log (entry_behind t.log p.number 0 now 0 (start_of peer)))) is (started_held p.number peer 0 (later t.log now) 0 t.log t.whole))

-- a session that a caller holds has the number of one that was started
held_started : (who q limit : ℕ) (log : List Noted) → IsHistory limit log → IsWhole (replay log) → HoldsIn who log q → q ≤ (replay log).store.started
held_started who q limit log h w holds = (session_started (replay log) who q w (held_live who q limit log h holds)).1

-- the session that was started is none that was held
pub start_other : (p q : PassView) (now peer n : ℕ) (r : Receipt) (s : ℕ) → Appends p 0 now 0 (start_of peer) r q → r.reply ≡ Smb (Started n) → HoldsSession p s → s ≢ n
start_other p q now peer n r s t e h same =
    let is : (replay t.log).store.started + 1 ≡ n = same_started (next_number t.log) n (sym (start_reply p q now peer r t) ∙ e) in
    let le = held_started p.number s p.limit t.log t.legal t.whole (held_among p.number s p.seen t.log t.others h) in
    let no : ⊥ = omega (arith, is, le, same) in no
