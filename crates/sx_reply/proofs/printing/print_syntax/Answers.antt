use Rattle.sx_reply.specs.Faults.{syntax_fault}
use Rattle.sx_reply.proofs.printing.print_syntax.Goals as goal

pub returns-in-Verb : goal.returns-in-Verb
unfolding syntax_fault
returns-in-Verb g c = rw c.in-Verb.is c.print_words_fault.ensures

pub returns-in-Query : goal.returns-in-Query
unfolding syntax_fault
returns-in-Query g c = rw c.in-Query.is c.print_named_fault-in-Query.ensures

pub returns-in-NoCall : goal.returns-in-NoCall
unfolding syntax_fault
returns-in-NoCall g c = rw c.in-NoCall.is c.print_words_fault-in-NoCall.ensures

pub returns-in-Missing : goal.returns-in-Missing
unfolding syntax_fault
returns-in-Missing g c = rw c.in-Missing.is c.print_named_fault-in-Missing.ensures

pub returns-in-Range : goal.returns-in-Range
unfolding syntax_fault
returns-in-Range g c = rw c.in-Range.is c.print_named_fault-in-Range.ensures

pub returns-in-Md5 : goal.returns-in-Md5
unfolding syntax_fault
returns-in-Md5 g c = rw c.in-Md5.is c.print_words_fault-in-Md5.ensures
