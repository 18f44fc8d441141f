use Rattle.sx_turn.proofs.Words.{in_words}
use Rattle.sx_turn.proofs.plain.rule_in_words.Goals as goal

pub returns : goal.returns
returns g c fixed s k = in_words g.B.Booked.stands g.B.Booked.lasting fixed g.B.Booked.who s k
