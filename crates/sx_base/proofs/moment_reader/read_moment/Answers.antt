use Rattle.std.proofs.lemmas.Bool.{cases_eq}
use Rattle.sx_text.proofs.Laws.{rest_within, left_within, is_whole, has_more, is_left}
use Rattle.sx_base.specs.Moment.{moment_text, IsWritten}
use Rattle.sx_base.specs.MomentReader.{moment_at}
use Rattle.sx_base.proofs.MomentFields.{moment-reading}
use Rattle.sx_base.proofs.moment_reader.read_moment.Goals as goal

pub overflow_sub-result : goal.overflow_sub-result
overflow_sub-result c = rest_within cases_eq moment_text IsWritten moment_at c.args.text.now c.in-Ok.field-0-0 c.in-Ok.rest.now moment-reading c.in-Ok.ensures.reading

pub overflow_sub-result-in-Err : goal.overflow_sub-result-in-Err
overflow_sub-result-in-Err c = left_within cases_eq moment_text IsWritten moment_at c.args.text.now c.in-Err.unread.left moment-reading c.in-Err.ensures.reading

pub returns-in-Ok-default-empty : goal.returns-in-Ok-default-empty
returns-in-Ok-default-empty c =
    is_whole cases_eq moment_text IsWritten moment_at c.args.text.now c.in-Ok-default-empty.at c.in-Ok-default-empty.field-0-1.now moment-reading c.in-Ok-default-empty.ensures.reading c.in-Ok-default-empty.len_below

pub returns-in-Ok : goal.returns-in-Ok
returns-in-Ok c = has_more cases_eq moment_text IsWritten moment_at c.args.text.now c.in-Ok.field-0-0 c.in-Ok.rest.now moment-reading c.in-Ok.ensures.reading c.in-Ok.len_at_least

pub returns-in-Err : goal.returns-in-Err
returns-in-Err c = is_left cases_eq moment_text IsWritten moment_at c.args.text.now c.in-Err.unread.left moment-reading c.in-Err.ensures.reading
