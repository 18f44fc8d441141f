use Rattle.std.proofs.Common.{codes, refl}
use Rattle.std.proofs.lemmas.Result.{err_from_is_err_and}
use Rattle.sx_decode.specs.Facts.{new_time}
use Rattle.sx_decode.specs.Metadata.{meta_of}
use Rattle.sx_decode.specs.DirectoryRows.{create_directory}
use Rattle.sx_decode.proofs.Each.{reads_err}
use Rattle.sx_decode.proofs.directory_rows.create_directory.Goals as goal

pub returns-in_err-created : goal.returns-in_err-created
unfolding create_directory
returns-in_err-created c =
    let p = err_from_is_err_and c.from_residual-in_err-created.result c.from_residual-in_err-created.ensures.1 in
    rw (p.1, p.2) (reads_err c.in_err-created.field-0.0 (new_time (codes "x-ms-file-creation-time") c.args.headers.now) (create_directory c.args.target c.args.headers.now) c.in_err-created.ensures
    (λ s e. rw (c.in_ok-at.ensures, c.in_ok-attributes.ensures, e) refl))

pub returns-in_err-written : goal.returns-in_err-written
unfolding create_directory
returns-in_err-written c =
    let p = err_from_is_err_and c.from_residual-in_err-written.result c.from_residual-in_err-written.ensures.1 in
    rw (p.1, p.2) (reads_err c.in_err-written.field-0.0 (new_time (codes "x-ms-file-last-write-time") c.args.headers.now) (create_directory c.args.target c.args.headers.now) c.in_err-written.ensures
    (λ s e. rw (c.in_ok-at.ensures, c.in_ok-attributes.ensures, c.in_ok-created.ensures, e) refl))

pub returns-in_err-meta : goal.returns-in_err-meta
unfolding create_directory
returns-in_err-meta c =
    let p = err_from_is_err_and c.from_residual-in_err-meta.result c.from_residual-in_err-meta.ensures.1 in
    rw (p.1, p.2) (reads_err c.in_err-meta.field-0.0 (meta_of c.args.headers.now) (create_directory c.args.target c.args.headers.now) c.in_err-meta.ensures
    (λ s e. rw (c.in_ok-at.ensures, c.in_ok-attributes.ensures, c.in_ok-created.ensures, c.in_ok-written.ensures, e) refl))

pub returns : goal.returns
unfolding create_directory
returns c =
    rw (c.in_ok-at.ensures, c.in_ok-attributes.ensures, c.in_ok-created.ensures, c.in_ok-written.ensures, c.in_ok-meta.ensures)
    refl
