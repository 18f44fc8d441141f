use Rattle.std.proofs.Common.{codes, refl}
use Rattle.std.proofs.lemmas.Result.{err_from_is_err_and}
use Rattle.sx_decode.specs.Contents.{digest_of}
use Rattle.sx_decode.specs.FileRows.{update_at}
use Rattle.sx_decode.proofs.Each.{reads_err}
use Rattle.sx_decode.proofs.range_rows.update_at.Goals as goal

pub returns-in_err-digest : goal.returns-in_err-digest
unfolding update_at
returns-in_err-digest c =
    let p = err_from_is_err_and c.from_residual-in_err-digest.result c.from_residual-in_err-digest.ensures.1 in
    rw (p.1, p.2) (reads_err c.in_err-digest.field-0.0 (digest_of (codes "content-md5") c.args.headers.now) (update_at c.args.at c.args.headers.now c.args.body) c.in_err-digest.ensures
    (λ s e. rw (c.in_ok-interval.ensures.read, e) refl))

pub returns : goal.returns
unfolding update_at
returns c = rw (c.in_ok-interval.ensures.read, c.in_ok-digest.ensures) c.update_with.ensures
