use Rattle.std.proofs.Common.{◌∙◌, ap, sym, Ok, length, take, length-take-le, arith}
use Rattle.sx_names.proofs.Base64.{md5_some, md5_other, md5_error, md5_none}
use Rattle.sx_names.proofs.content.ContentMd5.read.Goals as goal

pub returns-then-text-ne24 : goal.returns-then-text-ne24
returns-then-text-ne24 c = md5_none c.args.text.now (λ i. let f = c.type_inv.text i in omega arith) c.if-text-ne24.true

pub returns-in-Ok-eq16 : goal.returns-in-Ok-eq16
returns-in-Ok-eq16 c =
    let read = c.in-Ok-eq16.ensures.ok.0 in
    let new = c.decode_slice_unchecked.new.output in
    let all = read ∙ ap (λ n. Ok (take n new)) c.in-Ok-eq16.field-0-test ∙ sym (ap Ok c.first_16.ensures) in
    md5_some c.args.text.now c.first_16.result all
    (ap length c.first_16.ensures ∙ length-take-le 16 new (omega (arith, c.decode_slice_unchecked.auto.output)))

pub returns-in-Ok : goal.returns-in-Ok
returns-in-Ok c =
    let read = c.in-Ok.ensures.ok in
    let new = c.decode_slice_unchecked.new.output in
    let count = length-take-le c.in-Ok.field-0 new (omega (arith, c.decode_slice_unchecked.auto.output, read.2)) in
    md5_other c.args.text.now (take c.in-Ok.field-0 new) read.0 (λ same. c.in-Ok.field-0-test.1 (sym count ∙ same))

pub returns-in-Err : goal.returns-in-Err
returns-in-Err c = md5_error c.args.text.now c.in-Err.field-0 c.in-Err.ensures.err
