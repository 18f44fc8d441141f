use Rattle.std.proofs.Common.{◌∙◌, ap, Err, length, arith}
use Rattle.sx_http.proofs.RoomLemmas.{room_exceeded}
use Rattle.sx_http.proofs.parse.parse_head.Goals as goal

pub returns-in-Err : goal.returns-in-Err
returns-in-Err c =
    c.in-Err.ensures.invalid
    (λ many.
    let over = c.parse_request.ensures.too_many (c.in-Err.is ∙ ap Err many) in
    let long = room_exceeded (length c.args.slots.now) c.args.bytes.now over in
    omega (arith, long, c.requires.short, c.requires.wide))
