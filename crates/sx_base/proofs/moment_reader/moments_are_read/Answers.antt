use Rattle.std.proofs.Common.{◌≡◌, ℕ, List, [], ◌++◌, Result, Ok, Err, sym, ap, ◌∙◌}
use Rattle.std.proofs.lemmas.Bool.{cases_eq}
use Rattle.sx_text.proofs.Laws.{one_text, is_reading}
use Rattle.sx_base.specs.Moment.{moment_text, IsWritten}
use Rattle.sx_base.specs.MomentReader.{moment_at, ReadsMoment}
use Rattle.sx_base.specs.declared.moment_reader.BadMoment.{BadMoment}
use Rattle.sx_base.proofs.MomentFields.{moment-reading, one_text_only}
use Rattle.sx_base.proofs.moment_reader.moments_are_read.Goals as goal

back : (text : List ℕ) (at : ℕ) (read : Result ℕ BadMoment) → IsWritten at → text ≡ moment_text at → ReadsMoment text read → read ≡ Ok at
back text at (Ok r) le h q =
    let same = one_text cases_eq moment_text IsWritten moment_at moment-reading r at [] [] q.0 le (ap (λ (x : List ℕ). x ++ []) (sym q.1 ∙ h)) in
    ap (λ (n : ℕ). Ok n) same.0
back text at (Err bad) le h q = absurd (q.none at le h)

pub returns-clause-reading : goal.returns-clause-reading
returns-clause-reading c = is_reading cases_eq moment_text IsWritten moment_at moment-reading

pub returns-clause-back : goal.returns-clause-back
returns-clause-back c = λ text at read le shown reads. back text at read le (one_text_only text at shown) reads
