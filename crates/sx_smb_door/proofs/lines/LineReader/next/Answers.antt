use Rattle.std.proofs.Common.{arith, rules, ◌≡◌, ◌<◌, ◌+◌, ◌-◌, ◌∙◌, length, ap, subst, inr}
use Rattle.sx_lines.specs.declared.line.TheConstants.{LINE_LIMIT}
use Rattle.sx_smb_door.specs.LineReaderView.{LineReaderView}
use Rattle.sx_smb_door.specs.Lines.{line_stream, KeepsStream, WantsMore}
use Rattle.sx_smb_door.proofs.Answering.{answered_more, reason_answered, stays_more, told_end, cause_more, cause_then, wanted_first, unread_first}
use Rattle.sx_smb_door.proofs.lines.LineReader.next.Goals as goal

pub returns-in-Some-clause-answered : goal.returns-in-Some-clause-answered
returns-in-Some-clause-answered g c =
    let before = g.S.Source.left c.args.source.now in
    let mid = g.S.Source.left c.loop-next.source in
    let count = g.S.Source.read_count c.loop-next.source in
    answered_more c.in-Some.next c.args.self.now c.loop-next.self c.ready.new.self before mid mid (g.S.Source.read_count c.args.source.now) count count c.loop-next.invariant.stays (omega (arith, c.loop-next.invariant.counted)) (c.in-Some.ensures.answered mid count).0

pub loop-next-smaller : goal.loop-next-smaller
loop-next-smaller g c =
    let same : length c.ready.new.self.held ≡ length c.loop-next.self.held = ap (λ (r : LineReaderView). length r.held) c.in_default.ensures.answered.0 in
    let less : LINE_LIMIT + 1 - length c.fill.new.self.held < LINE_LIMIT + 1 - length c.loop-next.self.held = omega (arith, same, c.in_default.ensures.answered.1.short, c.in-More.ensures.filled.2) in
    less

pub returns-in-End-clause-answered : goal.returns-in-End-clause-answered
returns-in-End-clause-answered g c =
    let first = g.S.Source.left c.args.source.now in
    let mid = g.S.Source.left c.loop-next.source in
    let last = g.S.Source.left c.fill.new.source in
    let P : LineReaderView → Type 0 = λ r. KeepsStream r c.fill.new.self mid last in
    let read = subst P c.in_default.ensures.answered.0 c.in-End.ensures.filled.0 in
    let stays = stays_more c.args.self.now c.loop-next.self c.fill.new.self first mid last c.loop-next.invariant.stays read in
    let told = told_end (line_stream c.args.self.now first) last c.fill.new.self.held stays.bytes c.in-End.ensures.filled.1 in
    let before = g.S.Source.read_count c.args.source.now in
    let now = g.S.Source.read_count c.fill.new.source in
    reason_answered c.at_end.result c.args.self.now c.fill.new.self first last before now stays (c.at_end.ensures.answered (line_stream c.args.self.now first) before now told)

pub returns-in-Some-clause-cause : goal.returns-in-Some-clause-cause
returns-in-Some-clause-cause g c =
    let count = g.S.Source.read_count c.loop-next.source in
    cause_more c.in-Some.next (g.S.Source.read_count c.args.source.now) count count c.loop-next.invariant.counted (c.in-Some.ensures.answered (g.S.Source.left c.loop-next.source) count).1

pub returns-in-Some-clause-unread : goal.returns-in-Some-clause-unread
returns-in-Some-clause-unread g c = unread_first c.args.source.now c.loop-next.source c.args.self.now c.loop-next.self c.loop-next.invariant.unread

pub returns-in-End-clause-cause : goal.returns-in-End-clause-cause
returns-in-End-clause-cause g c =
    let before = g.S.Source.read_count c.args.source.now in
    cause_then c.at_end.result before before (g.S.Source.read_count c.fill.new.source) (c.in-End.ensures.filled.3 ∙ c.loop-next.invariant.counted) (c.at_end.ensures.cause before)

pub returns-in-End-clause-unread : goal.returns-in-End-clause-unread
returns-in-End-clause-unread g c = inr (wanted_first c.args.source.now c.loop-next.source c.args.self.now c.loop-next.self c.loop-next.invariant.unread (subst WantsMore c.in_default.ensures.answered.0 c.in_default.ensures.answered.1))

pub returns-in-ReadFault-clause-unread : goal.returns-in-ReadFault-clause-unread
returns-in-ReadFault-clause-unread g c = inr (wanted_first c.args.source.now c.loop-next.source c.args.self.now c.loop-next.self c.loop-next.invariant.unread (subst WantsMore c.in_default.ensures.answered.0 c.in_default.ensures.answered.1))

pub returns-in-NoMemory-clause-unread : goal.returns-in-NoMemory-clause-unread
returns-in-NoMemory-clause-unread g c = inr (wanted_first c.args.source.now c.loop-next.source c.args.self.now c.loop-next.self c.loop-next.invariant.unread (subst WantsMore c.in_default.ensures.answered.0 c.in_default.ensures.answered.1))

pub loop-next-preserved : goal.loop-next-preserved
loop-next-preserved g c = record {
  stays = search rules;
  searched = search rules;
  counted = c.in-More.ensures.filled.3 ∙ c.loop-next.invariant.counted;
  step = search rules;
  unread = inr (wanted_first c.args.source.now c.loop-next.source c.args.self.now c.loop-next.self c.loop-next.invariant.unread (subst WantsMore c.in_default.ensures.answered.0 c.in_default.ensures.answered.1));
}

pub returns-in-ReadFault-clause-later : goal.returns-in-ReadFault-clause-later
returns-in-ReadFault-clause-later g c = omega (arith, c.fill.ensures.later, c.loop-next.invariant.counted)
