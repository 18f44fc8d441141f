use Rattle.std.proofs.Common.{codes, refl}
use Rattle.std.proofs.lemmas.Result.{err_from_is_err_and}
use Rattle.sx_decode.specs.Facts.{new_time}
use Rattle.sx_decode.specs.Metadata.{meta_of}
use Rattle.sx_decode.specs.Leases.{lease_of}
use Rattle.sx_decode.specs.FileRows.{new_facts}
use Rattle.sx_decode.proofs.Each.{reads_err}
use Rattle.sx_decode.proofs.file_facts.new_facts.Goals as goal

pub returns-in_err-created : goal.returns-in_err-created
unfolding new_facts
returns-in_err-created c =
    let p = err_from_is_err_and c.from_residual-in_err-created.result c.from_residual-in_err-created.ensures.1 in
    rw (p.1, p.2) (reads_err c.in_err-created.field-0.0 (new_time (codes "x-ms-file-creation-time") c.args.headers.now) (new_facts c.args.headers.now) c.in_err-created.ensures
    (λ s e. rw (c.in_ok-attributes.ensures, e) refl))

pub returns-in_err-written : goal.returns-in_err-written
unfolding new_facts
returns-in_err-written c =
    let p = err_from_is_err_and c.from_residual-in_err-written.result c.from_residual-in_err-written.ensures.1 in
    rw (p.1, p.2) (reads_err c.in_err-written.field-0.0 (new_time (codes "x-ms-file-last-write-time") c.args.headers.now) (new_facts c.args.headers.now) c.in_err-written.ensures
    (λ s e. rw (c.in_ok-attributes.ensures, c.in_ok-created.ensures, e) refl))

pub returns-in_err-meta : goal.returns-in_err-meta
unfolding new_facts
returns-in_err-meta c =
    let p = err_from_is_err_and c.from_residual-in_err-meta.result c.from_residual-in_err-meta.ensures.1 in
    rw (p.1, p.2) (reads_err c.in_err-meta.field-0.0 (meta_of c.args.headers.now) (new_facts c.args.headers.now) c.in_err-meta.ensures
    (λ s e. rw (c.in_ok-attributes.ensures, c.in_ok-created.ensures, c.in_ok-written.ensures, e) refl))

pub returns-in_err-lease : goal.returns-in_err-lease
unfolding new_facts
returns-in_err-lease c =
    let p = err_from_is_err_and c.from_residual-in_err-lease.result c.from_residual-in_err-lease.ensures.1 in
    rw (p.1, p.2) (reads_err c.in_err-lease.field-0.0 (lease_of c.args.headers.now) (new_facts c.args.headers.now) c.in_err-lease.ensures
    (λ s e. rw (c.in_ok-attributes.ensures, c.in_ok-created.ensures, c.in_ok-written.ensures, c.in_ok-meta.ensures, e) refl))

pub returns : goal.returns
unfolding new_facts
returns c =
    rw (c.in_ok-attributes.ensures, c.in_ok-created.ensures, c.in_ok-written.ensures, c.in_ok-meta.ensures, c.in_ok-lease.ensures)
    refl
