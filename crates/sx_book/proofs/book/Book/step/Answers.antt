use Rattle.std.proofs.Common.{◌≡◌, ℕ, ◌+◌, ◌≤◌, ◌++◌, ◌∷◌, [], List, length, ap, arith, sym, ◌∙◌, subst}
use Rattle.sx_call.specs.declared.entries.Noted.{Noted}
use Rattle.sx_call.specs.declared.replies.Reply.{Reply}
use Rattle.sx_spec.specs.Account.{Store, Account}
use Rattle.sx_call.specs.Calls.{door_of}
use Rattle.sx_spec.specs.History.{MayCome, places_wanted, wants, last_moment}
use Rattle.sx_spec.specs.Step.{replay, step}
use Rattle.sx_book.specs.History.{History}
use Rattle.sx_book.proofs.Books.{account_kept, done_by, left_by, book_more}
use Rattle.sx_book.proofs.book.Book.step.Goals as goal

pub invariant_of-self-2 : goal.invariant_of-self-2
invariant_of-self-2 c =
    let b = c.self.inside in
    let ns : List Noted = b.entries.items in
    let n : Noted = record { entry = c.args.entry; refused = c.is_refusal-refused.result } in
    let items : c.push.new.self.items ≡ ns ++ n ∷ [] = (rw c.unwrap.ensures at c.push.ensures.items) ∙ ap (λ (xs : List Noted). xs ++ n ∷ []) c.reserve.ensures.items in
    let may : MayCome (replay ns) (last_moment ns) n.entry = subst (λ (h : History). MayCome (replay h.entries) (last_moment h.entries) c.args.entry) (sym c.self.view_is) c.requires in
    let count : c.count-entries.result ≡ length ns = c.count-entries.ensures ∙ ap length c.deref.ensures.value in
    let done = done_by b.limit ns n.entry c.count-entries.result b.state c.apply.new.state c.in-Ok-apply.reply count c.self.invariant.state c.in-Ok-apply.ensures.done in
    let live : c.live-sessions.result ≡ length (replay ns).store.sessions = c.live-sessions.ensures ∙ ap (λ (s : Store). length s.sessions) c.self.invariant.state in
    let wanted : c.wanted-wanted.result ≡ wants (replay ns) n.entry.call = c.wanted-wanted.ensures.wants ∙ ap (λ (k : ℕ). places_wanted k (door_of n.entry.call)) live in
    let room : length ns + wants (replay ns) n.entry.call ≤ b.limit = omega (arith, count, wanted, c.from-limit.ensures, c.if-limit-entries.false) in
    let more = book_more b.limit ns n.entry c.count-entries.result c.apply.new.state c.in-Ok-apply.reply n.refused c.self.invariant.legal c.self.invariant.whole may done c.is_refusal-refused.ensures c.keeps_limits.ensures room in
    let left = left_by b.limit ns n.entry c.count-entries.result c.apply.new.state c.in-Ok-apply.reply n.refused c.self.invariant.legal c.self.invariant.whole may done c.is_refusal-refused.ensures in
    record {
      state = rw items more.state;
      room = rw items more.room;
      kept = omega (arith, rw c.unwrap.ensures at c.push.ensures.len, c.push.ensures.capacity, c.in-Ok.ensures.ok, c.reserve.ensures.len, left, wanted);
      legal = rw items more.legal;
      whole = rw items more.whole;
    }

pub apply-requires-clause-whole : goal.apply-requires-clause-whole
apply-requires-clause-whole c =
    let b = c.self.inside in
    let count : c.count-entries.result ≡ length b.entries.items = c.count-entries.ensures ∙ ap length c.deref.ensures.value in
    account_kept b.entries.items c.count-entries.result b.state count c.self.invariant.state c.self.invariant.whole

pub returns-clause-reply : goal.returns-clause-reply
returns-clause-reply c =
    let b = c.self.inside in
    let ns : List Noted = b.entries.items in
    let count : c.count-entries.result ≡ length ns = c.count-entries.ensures ∙ ap length c.deref.ensures.value in
    let done = done_by b.limit ns c.args.entry c.count-entries.result b.state c.apply.new.state c.in-Ok-apply.reply count c.self.invariant.state c.in-Ok-apply.ensures.done in
    ap (λ (p : Account × Reply). p.1) done ∙ ap (λ (h : History). (step (replay h.entries) c.args.entry).1) c.self.view_is
