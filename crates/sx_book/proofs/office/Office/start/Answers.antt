use Rattle.sx_book.specs.Passes.{start_of}
use Rattle.sx_book.proofs.Held.{took_keeps, saw_keeps, start_held, start_other, start_reply}
use Rattle.sx_book.proofs.office.Office.start.Goals as goal

pub started_number-number-requires : goal.started_number-number-requires
started_number-number-requires g c = (_, start_reply c.args.pass.now c.append_in_turn.new.pass c.args.now c.args.peer c.in-Ok.receipt c.in-Ok.ensures.ok)

pub returns-in-Err-clause-held : goal.returns-in-Err-clause-held
returns-in-Err-clause-held g c = saw_keeps c.args.pass.now c.append_in_turn.new.pass c.in-Err.ensures.stop.others

pub returns-clause-session : goal.returns-clause-session
returns-clause-session g c = (start_held c.args.pass.now c.append_in_turn.new.pass c.args.now c.args.peer c.started_number-number.result c.in-Ok.receipt c.in-Ok.ensures.ok c.started_number-number.ensures, c.started_number-number.ensures)

pub returns-clause-held : goal.returns-clause-held
returns-clause-held g c s h = took_keeps c.args.pass.now c.append_in_turn.new.pass 0 c.args.now 0 (start_of c.args.peer) c.in-Ok.receipt s (λ e. absurd (cc e)) c.in-Ok.ensures.ok h

pub returns-clause-other : goal.returns-clause-other
returns-clause-other g c s h = start_other c.args.pass.now c.append_in_turn.new.pass c.args.now c.args.peer c.started_number-number.result c.in-Ok.receipt s c.in-Ok.ensures.ok c.started_number-number.ensures h
