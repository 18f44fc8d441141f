use Rattle.sx_http.proofs.Answering.{answer_more, stops_answer}
use Rattle.sx_http.proofs.reader.Reader.advance.Goals as goal

pub returns-in-Err-clause-answered : goal.returns-in-Err-clause-answered
returns-in-Err-clause-answered g c =
    stops_answer c.in-Err.next c.args.self.now c.find_head.new.self c.finish.new.self (g.S.Source.left c.args.source.now) (g.S.Source.left c.find_head.new.source) (g.S.Source.read_count c.args.source.now) (g.S.Source.read_count c.find_head.new.source) c.in-Err.ensures.found c.finish.ensures.ended

pub returns-in-Ok-clause-answered : goal.returns-in-Ok-clause-answered
returns-in-Ok-clause-answered g c =
    answer_more c.with_body.result c.args.self.now c.find_head.new.self c.with_body.new.self (g.S.Source.left c.args.source.now) (g.S.Source.left c.find_head.new.source) (g.S.Source.left c.with_body.new.source) c.in-Ok.ensures.found.0 c.with_body.ensures.answered
