use Rattle.std.proofs.Common.{ℕ, ◌≡◌, ◌<◌, ◌≤◌, ◌+◌, ◌-◌, ◌∙◌, ◌++◌, true, List, length, take, drop, ap, sym, subst, arith, length-take}
use Rattle.std.specs.Io.KnownBytes.{Consumes}
use Rattle.std.proofs.lemmas.List.{take_all, take-take}
use Rattle.sx_http.specs.Readers.{Requests}
use Rattle.sx_http.specs.RequestStream.{IsAnswer}
use Rattle.sx_http.specs.Filling.{FillsBehind, StopsFor, Stops, body_stop, finished_reader}
use Rattle.sx_http.specs.declared.next.Next.{Next}
use Rattle.sx_http.proofs.Answering.{finished_same, stops_answer}
use Rattle.sx_http.proofs.Bodies.{given_read, broken, size_fits}
use Rattle.sx_http.proofs.reader.Reader.read_body.Goals as goal

pub returns-then-taken-found-clause-answered : goal.returns-then-taken-found-clause-answered
returns-then-taken-found-clause-answered g c =
    let old = c.args.self.now in
    let found = c.args.found in
    let l = g.S.Source.left c.args.source.now in
    let n = g.S.Source.left c.fill_body-taken.new.source in
    let body : List ℕ = c.fill_body-taken.new.body.items in
    let taken = c.fill_body-taken.result in
    let held : length c.held.result.now ≡ length old.held = ap length c.held.ensures.value in
    let from : ℕ = length old.held - found.size in
    let at : length c.held.result.now - found.size ≡ from = ap (λ (k : ℕ). k - found.size) held in
    let filled = subst (λ (k : ℕ). FillsBehind taken k c.in-Ok.body.items body l n (g.S.Source.read_count c.args.source.now) (g.S.Source.read_count c.fill_body-taken.new.source)) at c.fill_body-taken.ensures.filled in
    let count : taken.count ≡ found.body = c.if-taken-found.true in
    let size : length body ≡ found.body = omega (arith, count, filled.fits, filled.size, c.in-Ok.ensures.0, c.min-room.ensures) in
    let whole : take taken.count body ≡ body = take_all taken.count body (omega (arith, size, count)) in
    let took = subst (λ (bs : List ℕ). Consumes l n (drop from bs)) whole filled.bytes in
    subst (λ (next : Next). IsAnswer next old c.give_read.new.self l n) (sym c.give_read.ensures.given)
    (given_read old found body l n c.requires.head (filled.front ∙ c.in-Ok.ensures.1) c.give_read.new.self size (omega (arith, filled.more, filled.fits)) took c.give_read.ensures.new)

pub returns-clause-answered : goal.returns-clause-answered
returns-clause-answered g c =
    let old = c.args.self.now in
    let found = c.args.found in
    let l = g.S.Source.left c.args.source.now in
    let n = g.S.Source.left c.fill_body-taken.new.source in
    let before = g.S.Source.read_count c.args.source.now in
    let now = g.S.Source.read_count c.fill_body-taken.new.source in
    let whole : List ℕ = c.fill_body-taken.new.body.items in
    let taken = c.fill_body-taken.result in
    let body : List ℕ = take taken.count whole in
    let held : length c.held.result.now ≡ length old.held = ap length c.held.ensures.value in
    let from : ℕ = length old.held - found.size in
    let at : length c.held.result.now - found.size ≡ from = ap (λ (k : ℕ). k - found.size) held in
    let filled = subst (λ (k : ℕ). FillsBehind taken k c.in-Ok.body.items whole l n before now) at c.fill_body-taken.ensures.filled in
    let count : length body ≡ taken.count = omega (arith, length-take taken.count whole, filled.fits) in
    let few : length whole ≤ old.budget - old.given - found.size = omega (arith, filled.size, c.in-Ok.ensures.0, c.min-room.ensures, c.room.ensures.value) in
    let all : length whole < found.body → length whole ≡ old.budget - old.given - found.size = λ less. omega (arith, less, filled.size, c.in-Ok.ensures.0, c.min-room.ensures, c.room.ensures.value) in
    let most : length whole ≤ found.body = omega (arith, filled.size, c.in-Ok.ensures.0, c.min-room.ensures) in
    let less : taken.count < found.body = omega (arith, most, filled.fits, c.if-taken-found.false) in
    let lt : length body < found.body = omega (arith, count, less) in
    let fits : found.size ≤ old.budget - old.given = omega (arith, size_fits old.held found c.requires.head, c.requires.room) in
    let begun : take from body ≡ drop found.size old.held = take-take from taken.count whole filled.more ∙ filled.front ∙ c.in-Ok.ensures.1 in
    let cause = subst (λ (k : ℕ). StopsFor taken.stop k (length whole) n before now) (sym count) filled.cause in
    let stops = broken old found body l n c.requires.head begun taken.stop (length whole) before now lt (omega (arith, count, filled.more)) filled.bytes few all most fits cause in
    let read : c.drop_front.new.bytes.items ≡ drop from body = c.drop_front.ensures ∙ ap (drop (length c.held.result.now - found.size)) c.truncate.ensures.items ∙ ap (λ (k : ℕ). drop k body) at in
    let next : body_stop taken.stop (found.size + length body) ≡ c.body_stop-next.result = ap (λ (k : ℕ). body_stop taken.stop (found.size + k)) count ∙ sym c.body_stop-next.ensures in
    let mid : Requests = record { held = old.held ++ drop from body; given = old.given; taken = old.taken; budget = old.budget; ended = old.ended } in
    let ended : c.break_off.new.self ≡ finished_reader c.body_stop-next.result mid =
    c.break_off.ensures.ended
    ∙ ap (λ (bs : List ℕ). finished_reader c.body_stop-next.result (record { held = old.held ++ bs; given = old.given; taken = old.taken; budget = old.budget; ended = true })) read
    ∙ finished_same c.body_stop-next.result (old.held ++ drop from body) old.given old.taken old.budget old.ended in
    stops_answer c.body_stop-next.result old mid c.break_off.new.self l n before now (subst (λ (x : Next). Stops x old mid l n before now) next stops) ended
