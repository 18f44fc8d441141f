use Rattle.std.specs.Option.{option_copied}
use Rattle.sx_book.proofs.Held.{may_stand, asks_no_end, asked_full, call_keeps}
use Rattle.sx_book.proofs.office.Office.ask.Goals as goal

pub append_in_turn-requires-clause-session : goal.append_in_turn-requires-clause-session
append_in_turn-requires-clause-session g c = may_stand c.args.pass.now (option_copied c.args.session) c.number_of-number.result c.args.call c.number_of-number.ensures c.requires.call

pub returns-clause-full : goal.returns-clause-full
returns-clause-full g c entries sessions limit e = asked_full c.args.pass.now c.append_in_turn.new.pass (option_copied c.args.session) c.args.call c.append_in_turn.result entries sessions limit c.requires.call c.append_in_turn.ensures.stop e

pub returns-clause-held : goal.returns-clause-held
returns-clause-held g c s h = call_keeps c.args.pass.now c.append_in_turn.new.pass c.number_of-number.result c.args.now c.args.fresh c.args.call c.append_in_turn.result s (λ e. absurd (asks_no_end c.args.pass.now (option_copied c.args.session) c.args.call c.requires.call e)) c.append_in_turn.ensures.ok c.append_in_turn.ensures.stop h
