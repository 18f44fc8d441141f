use Rattle.sx_reply.proofs.printing.print_auth.Goals as goal

pub returns : goal.returns
returns g c = rw c.auth_message-message.ensures at c.print_fault.ensures
