use Rattle.std.proofs.Common.{[], length, sym, ap, ◌∙◌, arith, subst, List, ◌≡◌}
use Rattle.sx_run.specs.declared.crew.Door.TheVariants.{Rest, Smb}
use Rattle.sx_run.specs.declared.crew.Worker.{Worker}
use Rattle.sx_run.specs.Crews.{AreHired, Told}
use Rattle.sx_run.proofs.Crews.{hired_on}
use Rattle.sx_run.proofs.Serving.{engaged_rest, engaged_both, failed_rest, failed_smb, hired_none}
use Rattle.sx_run.proofs.service.engage.Goals as goal

pub returns-in-Err-clause-engaged : goal.returns-in-Err-clause-engaged
returns-in-Err-clause-engaged g c =
    let tell : g.row.L.Denot → Told g.row.L-Link.Denot = λ l. record { links = g.L.Listener.links l; faults = g.L.Listener.listen_count l } in
    let none : length c.args.workers.now.items ≡ 0 = ap length c.requires.none in
    engaged_rest tell c.args.office.now c.args.main.now.limit c.args.words.now.rest_workers (tell c.args.rest.now) (tell c.hire_all.new.listener) (tell c.args.smb.now) c.hire_all.new.workers.items
    (c.hire_all.ensures.hired (tell c.args.rest.now) [] (subst (λ (ws : List (Worker g.row.L.Denot g.row.C.Denot g.row.W.Denot)). AreHired tell c.args.office.now c.args.main.now.limit Rest (tell c.args.rest.now) (tell c.args.rest.now) [] ws) (sym c.requires.none)
    (hired_none tell c.args.office.now c.args.main.now.limit Rest (tell c.args.rest.now) [])))
    (omega (arith, c.hire_all.ensures.few, c.args.workers.now.ok.0, c.hire_all.new.workers.ok.0, none))

pub returns-clause-engaged : goal.returns-clause-engaged
returns-clause-engaged g c =
    let tell : g.row.L.Denot → Told g.row.L-Link.Denot = λ l. record { links = g.L.Listener.links l; faults = g.L.Listener.listen_count l } in
    let none : length c.args.workers.now.items ≡ 0 = ap length c.requires.none in
    engaged_both tell c.args.office.now c.args.main.now.limit c.args.words.now.rest_workers (tell c.args.rest.now) (tell c.hire_all.new.listener) (tell c.args.smb.now) (tell c.hire_all-2.new.listener) c.hire_all.new.workers.items c.hire_all-2.new.workers.items
    (c.hire_all.ensures.hired (tell c.args.rest.now) [] (subst (λ (ws : List (Worker g.row.L.Denot g.row.C.Denot g.row.W.Denot)). AreHired tell c.args.office.now c.args.main.now.limit Rest (tell c.args.rest.now) (tell c.args.rest.now) [] ws) (sym c.requires.none)
    (hired_none tell c.args.office.now c.args.main.now.limit Rest (tell c.args.rest.now) [])))
    (omega (arith, c.in-Ok.ensures.more, c.args.workers.now.ok.0, c.hire_all.new.workers.ok.0, none))
    (λ h. hired_on tell c.args.office.now c.args.main.now c.hire_all.new.main Smb (tell c.args.smb.now) (tell c.args.smb.now) (tell c.hire_all-2.new.listener) c.hire_all.new.workers.items c.hire_all.new.workers.items c.hire_all-2.new.workers.items c.hire_all.ensures.main
    (c.hire_all-2.ensures.hired (tell c.args.smb.now) c.hire_all.new.workers.items) h)

pub returns-in-Err-clause-fault : goal.returns-in-Err-clause-fault
returns-in-Err-clause-fault g c is =
    let tell : g.row.L.Denot → Told g.row.L-Link.Denot = λ l. record { links = g.L.Listener.links l; faults = g.L.Listener.listen_count l } in
    let none : length c.args.workers.now.items ≡ 0 = ap length c.requires.none in
    failed_rest tell c.args.words.now.rest_workers (tell c.args.rest.now) (tell c.hire_all.new.listener) (tell c.args.smb.now) (tell c.args.smb.now) c.hire_all.new.workers.items
    (c.hire_all.ensures.fault (c.in-Err.is ∙ is) (tell c.args.rest.now) [] (subst (λ (ws : List (Worker g.row.L.Denot g.row.C.Denot g.row.W.Denot)). AreHired tell c.args.office.now c.args.main.now.limit Rest (tell c.args.rest.now) (tell c.args.rest.now) [] ws) (sym c.requires.none)
    (hired_none tell c.args.office.now c.args.main.now.limit Rest (tell c.args.rest.now) [])))
    (omega (arith, c.hire_all.ensures.few, c.args.workers.now.ok.0, c.hire_all.new.workers.ok.0, none))

pub returns-clause-fault : goal.returns-clause-fault
returns-clause-fault g c is =
    let tell : g.row.L.Denot → Told g.row.L-Link.Denot = λ l. record { links = g.L.Listener.links l; faults = g.L.Listener.listen_count l } in
    let none : length c.args.workers.now.items ≡ 0 = ap length c.requires.none in
    failed_smb tell c.args.words.now.rest_workers (tell c.args.rest.now) (tell c.hire_all.new.listener) (tell c.args.smb.now) (tell c.hire_all-2.new.listener) c.hire_all.new.workers.items c.hire_all-2.new.workers.items
    (c.hire_all-2.ensures.fault is (tell c.args.smb.now) c.hire_all.new.workers.items (hired_none tell c.args.office.now c.hire_all.new.main.limit Smb (tell c.args.smb.now) c.hire_all.new.workers.items))
    (omega (arith, c.in-Ok.ensures.more, c.args.workers.now.ok.0, c.hire_all.new.workers.ok.0, none))
