use Rattle.std.proofs.Common.{List, ℕ, Ok, Err, Result, length, arith}
use Rattle.std.specs.Prelude.{IfOk}
use Rattle.sx_text.specs.declared.fault.Fault.{Fault}
use Rattle.sx_text.specs.Given.{Gives}
use Rattle.sx_text.specs.Escapes.{IsWhole}
use Rattle.sx_listing.specs.PercentReader.{percent_at}
use Rattle.sx_listing.proofs.PercentTexts.{percent-reading}
use Rattle.sx_listing.proofs.percent_reader.percent_text.Goals as goal

whole : {X : Type 0} (view : X → List ℕ × List ℕ) (bytes : List ℕ) (r : Result X Fault) → Gives view r (percent_at bytes) → IfOk r (λ x. IsWhole (view x).0)
whole view bytes (Ok x) e = ((percent-reading (length bytes)).takes bytes (view x).0 (view x).1 (omega arith) e).0
whole view bytes (Err f) e = tt

pub returns-clause-whole : goal.returns-clause-whole
returns-clause-whole c = whole (λ x. (x.0.items, x.1.now)) c.args.bytes.now c.marks.result c.marks.ensures
