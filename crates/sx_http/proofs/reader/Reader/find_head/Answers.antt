use Rattle.std.proofs.Common.{◌≡◌, ◌<◌, ◌≤◌, ◌∙◌, true, false, length, ap, sym, subst, refl}
use Rattle.sx_base.specs.Causes.{Rose}
use Rattle.sx_http.specs.Readers.{Requests}
use Rattle.sx_http.specs.Heads.{head_window, BeginsHead, MayHaveHead}
use Rattle.sx_http.specs.RequestStream.{NeedsMore}
use Rattle.sx_http.specs.Filling.{Stays}
use Rattle.httparse.specs.Grammar.{NeverHasRequest}
use Rattle.sx_http.proofs.Answering.{stays_same, stays_more}
use Rattle.sx_http.proofs.Reasons.{bad_head, read_fault, judged, settles_stops}
use Rattle.sx_http.proofs.Windows.{window_short}
use Rattle.sx_http.proofs.reader.Reader.find_head.Goals as goal

differ : true ≡ false → ⊥
differ e = cc

-- more was read only where it was wanted
wanted : (old mid : Requests) → NeedsMore mid → (¬ (NeedsMore old) → mid ≡ old) → ¬ (NeedsMore old) → ⊥
wanted old mid needs same none = none (subst NeedsMore (same none) needs)

pub loop-head-init : goal.loop-head-init
loop-head-init g c = record {
  stays = stays_same c.args.self.now (g.S.Source.left c.args.source.now);
  count = refl;
  unread = λ idle. (refl, refl);
  end = λ e. absurd (differ (sym e));
  open' = c.requires;
  step = g.met.S.Source.reads_none c.args.source.now;
}

pub returns-in-Whole-clause-found : goal.returns-in-Whole-clause-found
returns-in-Whole-clause-found g c =
    let l = g.S.Source.left c.args.source.now in
    let m = g.S.Source.left c.loop-head.source in
    let stays = subst (λ (r : Requests). Stays c.args.self.now r l m) (sym c.parse.ensures.same) c.loop-head.invariant.stays in
    let begins = subst (λ (r : Requests). BeginsHead (head_window r.held) c.in-Whole.size c.in-Whole.head) (sym c.parse.ensures.same) c.in-Whole.ensures.parsed in
    let at : c.self.inside.given ≡ c.args.self.now.given = ap (λ (r : Requests). r.given) c.self.view_is ∙ ap (λ (r : Requests). r.given) stays.rest in
    judged c.judge.result c.in-Whole.head c.in-Whole.size c.self.inside.given c.args.self.now c.parse.new.self l m (g.S.Source.read_count c.args.source.now) (g.S.Source.read_count c.loop-head.source) c.loop-head.invariant.count stays c.parse.ensures.within at begins c.judge.ensures

pub returns-in-Never-clause-found : goal.returns-in-Never-clause-found
returns-in-Never-clause-found g c =
    let l = g.S.Source.left c.args.source.now in
    let m = g.S.Source.left c.loop-head.source in
    let stays = subst (λ (r : Requests). Stays c.args.self.now r l m) (sym c.parse.ensures.same) c.loop-head.invariant.stays in
    let never = subst (λ (r : Requests). NeverHasRequest (head_window r.held)) (sym c.parse.ensures.same) c.in-Never.ensures.parsed in
    let at : c.self.inside.given ≡ c.args.self.now.given = ap (λ (r : Requests). r.given) c.self.view_is ∙ ap (λ (r : Requests). r.given) stays.rest in
    bad_head c.args.self.now c.parse.new.self l m (g.S.Source.read_count c.args.source.now) (g.S.Source.read_count c.loop-head.source) c.self.inside.given c.loop-head.invariant.count stays c.parse.ensures.within at never

pub settle-requires-clause-head : goal.settle-requires-clause-head
settle-requires-clause-head g c = subst (λ (r : Requests). MayHaveHead (head_window r.held)) (sym c.parse.ensures.same) c.in-More.ensures.parsed

pub returns-in-Some-clause-found : goal.returns-in-Some-clause-found
returns-in-Some-clause-found g c =
    let l = g.S.Source.left c.args.source.now in
    let m = g.S.Source.left c.loop-head.source in
    let stays = subst (λ (r : Requests). Stays c.args.self.now r l m) (sym c.parse.ensures.same) c.loop-head.invariant.stays in
    settles_stops c.in-Some.next c.loop-head.ended c.args.self.now c.parse.new.self l m (g.S.Source.read_count c.args.source.now) (g.S.Source.read_count c.loop-head.source) c.loop-head.invariant.count stays c.loop-head.invariant.end c.in-Some.ensures

pub loop-head-preserved-in-More-await_line : goal.loop-head-preserved-in-More-await_line
loop-head-preserved-in-More-await_line g c =
    let l = g.S.Source.left c.args.source.now in
    let m = g.S.Source.left c.loop-head.source in
    let n = g.S.Source.left c.await_line.new.source in
    let stays = subst (λ (r : Requests). Stays c.args.self.now r l m) (sym c.parse.ensures.same) c.loop-head.invariant.stays in
    let awaited = c.in-More-await_line.ensures.awaited in
    record {
      stays = stays_more c.args.self.now c.parse.new.self c.await_line.new.self l m n stays awaited.0;
      count = awaited.2 ∙ c.loop-head.invariant.count;
      unread = λ idle. absurd (wanted c.args.self.now c.parse.new.self c.in_default.ensures.1 (λ none. c.parse.ensures.same ∙ (c.loop-head.invariant.unread none).1) idle);
      end = λ e. absurd (differ (sym e ∙ c.in_default.ensures.0));
      open' = c.in-More-await_line.ensures.open;
      step = g.met.S.Source.reads_more c.args.source.now c.loop-head.source c.await_line.new.source c.loop-head.invariant.step c.in-More-await_line.ensures.step;
    }

pub loop-head-preserved : goal.loop-head-preserved
loop-head-preserved g c =
    let l = g.S.Source.left c.args.source.now in
    let m = g.S.Source.left c.loop-head.source in
    let n = g.S.Source.left c.await_line.new.source in
    let stays = subst (λ (r : Requests). Stays c.args.self.now r l m) (sym c.parse.ensures.same) c.loop-head.invariant.stays in
    let awaited = c.in-End.ensures.awaited in
    record {
      stays = stays_more c.args.self.now c.parse.new.self c.await_line.new.self l m n stays awaited.0;
      count = awaited.3 ∙ c.loop-head.invariant.count;
      unread = λ idle. absurd (wanted c.args.self.now c.parse.new.self c.in_default.ensures.1 (λ none. c.parse.ensures.same ∙ (c.loop-head.invariant.unread none).1) idle);
      end = λ e. awaited.2;
      open' = c.in-End.ensures.open;
      step = g.met.S.Source.reads_more c.args.source.now c.loop-head.source c.await_line.new.source c.loop-head.invariant.step c.in-End.ensures.step;
    }

pub returns-in-ReadFault-clause-found : goal.returns-in-ReadFault-clause-found
returns-in-ReadFault-clause-found g c =
    let l = g.S.Source.left c.args.source.now in
    let m = g.S.Source.left c.loop-head.source in
    let n = g.S.Source.left c.await_line.new.source in
    let stays = subst (λ (r : Requests). Stays c.args.self.now r l m) (sym c.parse.ensures.same) c.loop-head.invariant.stays in
    let awaited = c.in-ReadFault.ensures.awaited in
    let may = subst (λ (r : Requests). MayHaveHead (head_window r.held)) (sym c.parse.ensures.same) c.in-More.ensures.parsed in
    let all = subst MayHaveHead (window_short c.parse.new.self.held c.in_default.ensures.2) may in
    let rose = read_fault c.args.self.now c.parse.new.self c.await_line.new.self l n (g.S.Source.read_count c.loop-head.source) (g.S.Source.read_count c.await_line.new.source)
    (stays_more c.args.self.now c.parse.new.self c.await_line.new.self l m n stays awaited.0) all awaited.1 awaited.2 in
    record { stays = rose.stays; because = rose.because; count = subst (λ k. Rose k (g.S.Source.read_count c.await_line.new.source)) c.loop-head.invariant.count rose.count }

pub returns-in-ReadFault-clause-unread : goal.returns-in-ReadFault-clause-unread
returns-in-ReadFault-clause-unread g c none =
    absurd (wanted c.args.self.now c.parse.new.self c.in_default.ensures.1 (λ none. c.parse.ensures.same ∙ (c.loop-head.invariant.unread none).1) none)

pub returns-in-NoMemory-await_line-clause-unread : goal.returns-in-NoMemory-await_line-clause-unread
returns-in-NoMemory-await_line-clause-unread g c none =
    absurd (wanted c.args.self.now c.parse.new.self c.in_default.ensures.1 (λ none. c.parse.ensures.same ∙ (c.loop-head.invariant.unread none).1) none)
