use Rattle.std.proofs.Common.{List, ℕ, Ok, Err, Result, length, arith}
use Rattle.std.specs.Prelude.{IfOk}
use Rattle.sx_text.specs.declared.fault.Unread.{Unread}
use Rattle.sx_text.specs.Given.{Reads}
use Rattle.sx_base.specs.Date.{IsDated}
use Rattle.sx_base.specs.DateReader.{date_at}
use Rattle.sx_base.proofs.DateReading.{date-reading}
use Rattle.sx_listing.proofs.shares_reader.changed.Goals as goal

dated : {X : Type 0} (view : X → ℕ × List ℕ) (bytes : List ℕ) (r : Result X Unread) → Reads view r (date_at bytes) → IfOk r (λ x. IsDated (view x).0)
dated view bytes (Ok x) e = ((date-reading (length bytes)).takes bytes (view x).0 (view x).1 (omega arith) e).0
dated view bytes (Err f) e = tt

pub returns-clause-value : goal.returns-clause-value
returns-clause-value c = dated (λ x. (x.0, x.1.now)) c.in_ok-rest.rest.now c.take_date.result c.take_date.ensures.reading
