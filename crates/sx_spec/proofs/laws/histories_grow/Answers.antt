use Rattle.sx_spec.proofs.Histories.{legal_more, replay_more, last_more, reply_last, came_is}
use Rattle.sx_spec.proofs.laws.histories_grow.Goals as goal

pub returns : goal.returns
returns c = record { legal = legal_more; account = replay_more; moment = last_more; reply = reply_last; came = came_is }
