use Rattle.std.proofs.Common.{◌≡◌, ◌≤◌, ◌<◌, ◌^◌, Bor, List, ℕ, Ok, Err, Result, false, length, arith}
use Rattle.std.specs.Prelude.{IfOk}
use Rattle.sx_text.specs.declared.fault.Unread.{Unread}
use Rattle.sx_text.specs.Given.{Reads}
use Rattle.sx_text.specs.Numbers.{IsFrom, is_digit, number_at}
use Rattle.sx_text.proofs.Numbers.{number-reading}
use Rattle.sx_text.proofs.number_reader.number.Goals as goal

value : (stop low high : ℕ) (bytes : List ℕ) (r : Result (ℕ × Bor (List ℕ)) Unread) → is_digit stop ≡ false → low ≤ high → high < 2 ^ 64 → Reads (λ x. (x.0, x.1.now)) r (number_at stop low high bytes) → IfOk r (λ x. IsFrom low high x.0)
value stop low high bytes (Ok x) plain le wide e = ((number-reading stop low high plain le wide (length bytes)).takes bytes x.0 x.1.now (omega arith) e).0
value stop low high bytes (Err f) plain le wide e = tt

pub returns-clause-value : goal.returns-clause-value
returns-clause-value c = value c.args.stop c.args.low c.args.high c.args.bytes.now c.number_by_digits.result c.requires.stop c.requires.order c.ranges.high.fits c.number_by_digits.ensures
