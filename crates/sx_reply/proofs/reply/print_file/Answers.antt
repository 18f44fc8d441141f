use Rattle.sx_reply.proofs.reply.print_file.Goals as goal

pub returns-in-FileFacts : goal.returns-in-FileFacts
returns-in-FileFacts g c = rw c.in-FileFacts.is c.print_file_facts.ensures

pub returns-in-FileBytes : goal.returns-in-FileBytes
returns-in-FileBytes g c = rw c.in-FileBytes.is c.print_file_bytes.ensures
