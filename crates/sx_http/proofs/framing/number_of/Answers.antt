use Rattle.std.proofs.Common.{◌≡◌, true}
use Rattle.std.specs.List.{list_all}
use Rattle.std.specs.Char.{is_ascii_digit}
use Rattle.sx_http.proofs.Digits.{digits_text}
use Rattle.sx_http.proofs.framing.number_of.Goals as goal

pub returns-in-Err : goal.returns-in-Err
returns-in-Err c =
    let digits : list_all is_ascii_digit c.args.value.now ≡ true = cc in
    absurd (c.in-Err.ensures.cases.0 (digits_text c.args.value.now digits))
