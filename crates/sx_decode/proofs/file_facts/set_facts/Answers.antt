use Rattle.std.proofs.Common.{codes, refl}
use Rattle.std.proofs.lemmas.Result.{err_from_is_err_and}
use Rattle.sx_decode.specs.Facts.{set_time}
use Rattle.sx_decode.specs.Leases.{lease_of}
use Rattle.sx_decode.specs.FileRows.{set_facts}
use Rattle.sx_decode.proofs.Each.{reads_err}
use Rattle.sx_decode.proofs.file_facts.set_facts.Goals as goal

pub returns-in_err-created : goal.returns-in_err-created
unfolding set_facts
returns-in_err-created c =
    let p = err_from_is_err_and c.from_residual-in_err-created.result c.from_residual-in_err-created.ensures.1 in
    rw (p.1, p.2) (reads_err c.in_err-created.field-0.0 (set_time (codes "x-ms-file-creation-time") c.args.headers.now) (set_facts c.args.headers.now) c.in_err-created.ensures
    (λ s e. rw (c.in_ok-attributes.ensures, e) refl))

pub returns-in_err-written : goal.returns-in_err-written
unfolding set_facts
returns-in_err-written c =
    let p = err_from_is_err_and c.from_residual-in_err-written.result c.from_residual-in_err-written.ensures.1 in
    rw (p.1, p.2) (reads_err c.in_err-written.field-0.0 (set_time (codes "x-ms-file-last-write-time") c.args.headers.now) (set_facts c.args.headers.now) c.in_err-written.ensures
    (λ s e. rw (c.in_ok-attributes.ensures, c.in_ok-created.ensures, e) refl))

pub returns-in_err-lease : goal.returns-in_err-lease
unfolding set_facts
returns-in_err-lease c =
    let p = err_from_is_err_and c.from_residual-in_err-lease.result c.from_residual-in_err-lease.ensures.1 in
    rw (p.1, p.2) (reads_err c.in_err-lease.field-0.0 (lease_of c.args.headers.now) (set_facts c.args.headers.now) c.in_err-lease.ensures
    (λ s e. rw (c.in_ok-attributes.ensures, c.in_ok-created.ensures, c.in_ok-written.ensures, e) refl))

pub returns : goal.returns
unfolding set_facts
returns c =
    rw (c.in_ok-attributes.ensures, c.in_ok-created.ensures, c.in_ok-written.ensures, c.in_ok-lease.ensures)
    refl
