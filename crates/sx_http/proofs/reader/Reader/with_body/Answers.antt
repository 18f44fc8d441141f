use Rattle.std.proofs.Common.{◌≡◌, ◌<◌, ◌≤◌, ◌+◌, ◌-◌, true, false, length, ap, refl, sym, arith}
use Rattle.sx_http.specs.declared.next.Next.TheVariants.{Spent}
use Rattle.sx_http.proofs.Answering.{stays_same, stops_answer}
use Rattle.sx_http.proofs.Reasons.{body_lacks, settles_spent, settles_stops}
use Rattle.sx_http.proofs.reader.Reader.with_body.Goals as goal

differ : true ≡ false → ⊥
differ e = cc

pub returns-then-room-held-clause-answered : goal.returns-then-room-held-clause-answered
returns-then-room-held-clause-answered g c =
    let old = c.args.self.now in
    let l = g.S.Source.left c.args.source.now in
    let n = g.S.Source.read_count c.args.source.now in
    let size : length c.held.result.now ≡ length old.held = ap length c.held.ensures.value in
    let again : length c.held-2.result.now ≡ length old.held = ap length c.held-2.ensures.value in
    let lt : length old.held < c.args.found.size + c.args.found.body = omega (arith, size, c.if-whole-held.false) in
    let few : old.budget - old.given ≤ length old.held = omega (arith, again, c.room.ensures.value, c.if-room-held.true) in
    let settled = settles_spent old false c.held.ensures.within few (body_lacks old.held c.args.found c.requires.head lt) in
    let stops = settles_stops Spent false old old l l n n refl (stays_same old l) (λ e. absurd (differ (sym e))) settled in
    stops_answer Spent old old c.finish.new.self l l n n stops c.finish.ensures.ended

pub returns-clause-unread : goal.returns-clause-unread
returns-clause-unread g c idle =
    let old = c.args.self.now in
    let size : length c.held.result.now ≡ length old.held = ap length c.held.ensures.value in
    let again : length c.held-2.result.now ≡ length old.held = ap length c.held-2.ensures.value in
    let lt : length old.held < c.args.found.size + c.args.found.body = omega (arith, size, c.if-whole-held.false) in
    let more : old.given + length old.held < old.budget = omega (arith, again, c.room.ensures.value, c.room.ensures.within, c.if-room-held.false) in
    absurd (idle (body_lacks old.held c.args.found c.requires.head lt, more))
