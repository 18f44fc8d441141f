use Rattle.std.proofs.Common.{[], ◌∷◌, ◌++◌, List, ◌≡◌, refl, ap, ◌∙◌, arith}
use Rattle.sx_run.specs.declared.crew.Worker.{Worker}
use Rattle.sx_run.specs.Crews.{Told}
use Rattle.sx_run.proofs.Crews.{hired_more, new_by}
use Rattle.sx_run.proofs.crew.hire.Goals as goal

pub returns-clause-hired : goal.returns-clause-hired
returns-clause-hired g c given before h =
    let worker : Worker g.row.L.Denot g.row.C.Denot g.row.W.Denot = record { door = c.args.door; pass = c.in-Ok-split.pass; listener = c.replace.result; clock = c.fork-2.result; random = c.fork-3.result; report = c.no_work.result } in
    let pushed : c.push-pushed.new.self.items ≡ c.reserve.new.self.items ++ worker ∷ [] = c.in-Ok-pushed.ensures.items in
    let items : c.push-pushed.new.self.items ≡ c.args.workers.now.items ++ worker ∷ [] = pushed ∙ ap (λ (ws : List (Worker g.row.L.Denot g.row.C.Denot g.row.W.Denot)). ws ++ worker ∷ []) c.reserve.ensures.items in
    let tell : g.row.L.Denot → Told g.row.L-Link.Denot = λ l. record { links = g.L.Listener.links l; faults = g.L.Listener.listen_count l } in
    let taken : c.replace.result ≡ c.fork.new.self = c.replace.ensures.value in
    hired_more tell c.args.office.now c.args.main.now.limit c.args.door given (tell c.args.listener.now) (tell c.replace.new.dest) before c.args.workers.now.items c.push-pushed.new.self.items worker items h
    (new_by c.args.office.now c.args.main.now.limit c.args.main.now c.in-Ok-split.pass c.requires.own refl c.in-Ok-split.ensures.new c.in-Ok-split.ensures.number.3, refl)
    (ap g.L.Listener.links taken ∙ c.fork.ensures.links) (omega (arith, c.in-Ok-fork.ensures.cause.later, ap g.L.Listener.listen_count taken)) (ap g.L.Listener.links c.replace.ensures.after ∙ c.in-Ok-fork.ensures.fork)
