use Rattle.std.proofs.Common.{◌≡◌, ◌<◌, ◌≤◌, ◌+◌, ◌-◌, ◌∙◌, length, ap, sym, arith, subst}
use Rattle.sx_http.specs.declared.limits.TheConstants.{HEAD_LIMIT}
use Rattle.sx_http.specs.Readers.{Requests}
use Rattle.sx_http.specs.Filling.{Settles}
use Rattle.sx_http.specs.Judging.{long_head}
use Rattle.sx_http.specs.declared.next.Next.{Next}
use Rattle.sx_http.proofs.Reasons.{settles_long, settles_spent, settles_end, head_lacks}
use Rattle.sx_http.proofs.reader.Reader.settle.Goals as goal

pub returns-then-held-ge-HEAD_LIMIT : goal.returns-then-held-ge-HEAD_LIMIT
returns-then-held-ge-HEAD_LIMIT c =
    let given : c.self.inside.given ≡ c.args.self.now.given = ap (λ (r : Requests). r.given) c.self.view_is in
    let size : length c.held-held.result.now ≡ length c.args.self.now.held = ap length c.held-held.ensures.value in
    let long : HEAD_LIMIT ≤ length c.args.self.now.held = omega (arith, size, c.if-held-ge-HEAD_LIMIT.true) in
    subst (λ (next : Next). Settles next c.args.ended c.args.self.now) (sym (c.long_head.ensures ∙ ap long_head given))
    (settles_long c.args.self.now c.args.ended c.requires.within long c.requires.head)

pub returns-then-room-held : goal.returns-then-room-held
returns-then-room-held c =
    let size : length c.held-held.result.now ≡ length c.args.self.now.held = ap length c.held-held.ensures.value in
    let short : length c.args.self.now.held < HEAD_LIMIT = omega (arith, size, c.if-held-ge-HEAD_LIMIT.false) in
    let few : c.args.self.now.budget - c.args.self.now.given ≤ length c.args.self.now.held = omega (arith, size, c.room.ensures.value, c.if-room-held.true) in
    settles_spent c.args.self.now c.args.ended c.requires.within few (head_lacks c.args.self.now.held short c.requires.head)

pub returns-then-ended : goal.returns-then-ended
returns-then-ended c =
    let size : length c.args.self.now.held ≡ length c.held-held.result.now = sym (ap length c.held-held.ensures.value) in
    let short : length c.args.self.now.held < HEAD_LIMIT = omega (arith, size, c.if-held-ge-HEAD_LIMIT.false) in
    let less : length c.held-held.result.now < c.args.self.now.budget - c.args.self.now.given = omega (arith, c.room.ensures.value, c.if-room-held.false) in
    subst (λ (next : Next). Settles next c.args.ended c.args.self.now) (sym c.at_end.ensures)
    (settles_end (length c.held-held.result.now) c.args.self.now c.args.ended c.if-ended.true size less (head_lacks c.args.self.now.held short c.requires.head))

pub returns : goal.returns
returns c =
    let size : length c.args.self.now.held ≡ length c.held-held.result.now = sym (ap length c.held-held.ensures.value) in
    let short : length c.args.self.now.held < HEAD_LIMIT = omega (arith, size, c.if-held-ge-HEAD_LIMIT.false) in
    let more : c.args.self.now.given + length c.args.self.now.held < c.args.self.now.budget = omega (arith, size, c.room.ensures.value, c.room.ensures.within, c.if-room-held.false) in
    (c.if-ended.false, (head_lacks c.args.self.now.held short c.requires.head, more), short)
