-- What is read of a line is the one answer that has it, or no answer has it.
use Rattle.std.proofs.Common.{◌≡◌, ℕ, List, Some, None, Result, Ok, Err, sym, ap, ◌∙◌}
use Rattle.sx_answer_reader.specs.declared.answer.Answer.{Answer}
use Rattle.sx_answer_reader.specs.declared.answer.Unread.{Unread}
use Rattle.sx_answer_reader.specs.declared.answer.Unread.TheVariants.{NoAnswer, NoMemory}
use Rattle.sx_answer_reader.specs.Reading.{Reads, IsRead}
use Rattle.sx_answer_reader.specs.Grammar.{answer_of}
use Rattle.sx_answer_reader.proofs.WrittenFields.{some_is}
use Rattle.sx_answer_reader.proofs.OnlyPrinted.{answer_is}
use Rattle.sx_answer_reader.proofs.ReadBack.{answer_back}

pub read_is : (result : Result Answer Unread) (line : List ℕ) → Reads result (answer_of line) → IsRead result line
read_is (Ok a) line e =
    let i = answer_is line a e in
    record {
      told = i.0;
      fits = i.1;
      alone = λ other fits told. some_is other a (sym (answer_back other fits) ∙ ap answer_of told ∙ e);
    }
read_is (Err NoAnswer) line e = λ other fits told.
    let is : None ≡ Some other = sym e ∙ ap answer_of (sym told) ∙ answer_back other fits in cc
read_is (Err NoMemory) line e = tt
