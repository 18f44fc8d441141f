use Rattle.std.proofs.Common.{◌≤◌, ◌<◌, ◌^◌, suc, Bor, List, ℕ, Ok, Err, Result, length, arith}
use Rattle.std.specs.Prelude.{IfOk}
use Rattle.sx_text.specs.declared.fault.Unread.{Unread}
use Rattle.sx_text.specs.Given.{Reads}
use Rattle.sx_text.specs.Numbers.{IsFrom}
use Rattle.sx_text.specs.Digits.{digits_at}
use Rattle.sx_text.proofs.FixedDigits.{digits-reading, few_digits}
use Rattle.sx_text.proofs.digits_reader.digits.Goals as goal

value : (more low high : ℕ) (bytes : List ℕ) (r : Result (ℕ × Bor (List ℕ)) Unread) → low ≤ high → high < 10 ^ suc more → Reads (λ x. (x.0, x.1.now)) r (digits_at more low high bytes) → IfOk r (λ x. IsFrom low high x.0)
value more low high bytes (Ok x) le short e = ((digits-reading more low high le short (length bytes)).takes bytes x.0 x.1.now (omega arith) e).0
value more low high bytes (Err f) le short e = tt

pub returns-clause-value : goal.returns-clause-value
returns-clause-value c = value c.args.more c.args.low c.args.high c.args.bytes.now c.digits_one_by_one.result c.requires.order c.requires.short c.digits_one_by_one.ensures

pub digits_one_by_one-requires-clause-short : goal.digits_one_by_one-requires-clause-short
digits_one_by_one-requires-clause-short c = few_digits c.args.more c.args.high c.requires.few c.requires.short
