use Rattle.std.proofs.Common.{◌≡◌, ℕ, [], refl, sym, ap, ◌∙◌, subst}
use Rattle.sx_book.specs.Passes.{PassView}
use Rattle.sx_run.specs.Crews.{AreEngaged, IsNewPass, Told}
use Rattle.sx_run.proofs.Ending.{IsIdle, all_of, all_worked, engaged_new, new_places, ran_offices, rest_links_same, smb_links_same, unserved_by}
use Rattle.sx_turn.proofs.Lists.{each_map}
use Rattle.sx_book.specs.Passes.{HasOwnPlaces}
use Rattle.sx_run.proofs.service.serve_office.Goals as goal

pub work-requires-clause-own : goal.work-requires-clause-own
work-requires-clause-own g c κs within =
    let new = engaged_new _ c.args.office.now c.args.main.now.limit c.args.words.now.rest_workers _ _ _ _ c.prepare.new.workers.items c.prepare.ensures.engaged in
    all_of _ c.prepare.new.workers.items (each_map (λ w. IsNewPass c.args.office.now c.args.main.now.limit w.pass) (λ w. (w.pass.office ≡ c.args.office.now) × HasOwnPlaces w.pass) (λ w n. (n.office_is, new_places c.args.office.now c.args.main.now.limit w.pass n)) c.prepare.new.workers.items new)

pub dismiss_all-requires-clause-own : goal.dismiss_all-requires-clause-own
dismiss_all-requires-clause-own g c κs within =
    let new = engaged_new _ c.args.office.now c.args.main.now.limit c.args.words.now.rest_workers _ _ _ _ c.prepare.new.workers.items c.prepare.ensures.engaged in
    ran_offices _ _ c.args.words.now.conns _ _ c.args.office.now c.args.main.now.limit c.prepare.new.workers.items c.work.new.workers.items new c.work.ensures.ran

pub dismiss_all-reports-requires-clause-own : goal.dismiss_all-reports-requires-clause-own
dismiss_all-reports-requires-clause-own g c κs within =
    let new = engaged_new _ c.args.office.now c.args.main.now.limit c.args.words.now.rest_workers _ _ _ _ c.prepare.new.workers.items c.prepare.ensures.engaged in
    each_map (λ w. IsNewPass c.args.office.now c.args.main.now.limit w.pass) (λ w. w.pass.office ≡ c.args.office.now) (λ w n. n.office_is) c.prepare.new.workers.items new

pub returns-in-Ok-clause-worked : goal.returns-in-Ok-clause-worked
returns-in-Ok-clause-worked g c met =
    let tell : g.row.L.Denot → Told g.row.L-Link.Denot = λ l. record { links = g.L.Listener.links l; faults = g.L.Listener.listen_count l } in
    let limit : c.args.main.now.limit ≡ c.args.words.now.limit = ap (λ (p : PassView). p.limit) c.requires.main in
    let begun = c.prepare.ensures.main in
    let idle : IsIdle c.prepare.new.main [] = record {
      number = ap (λ (p : PassView). p.number) begun ∙ ap (λ (p : PassView). p.number) c.requires.main;
      mine = ap (λ (p : PassView). p.mine) begun ∙ ap (λ (p : PassView). p.mine) c.requires.main;
      ended_is = ap (λ (p : PassView). p.ended) begun ∙ ap (λ (p : PassView). p.ended) c.requires.main;
    } in
    all_worked _ _ tell _ _ (λ w. refl) (λ w. refl) (λ w. refl) (λ w. refl) c.args.words.now c.args.office.now (tell c.args.rest.now) (tell c.prepare.new.rest) (tell c.dismiss_all.new.rest) (tell c.args.smb.now) (tell c.prepare.new.smb) (tell c.dismiss_all.new.smb)
    (g.K.Sink.write_count c.args.out.now) (g.K.Sink.write_count c.prepare.new.out) c.prepare.new.main c.dismiss_all.new.main c.prepare.new.workers.items c.work.new.workers.items c.dismiss_all.result.0 c.dismiss_all.result.1 c.requires.rest.0 c.requires.smb.0 idle
    (subst (λ (n : ℕ). AreEngaged tell c.args.office.now n c.args.words.now.rest_workers (tell c.args.rest.now) (tell c.prepare.new.rest) (tell c.args.smb.now) (tell c.prepare.new.smb) c.prepare.new.workers.items) limit c.prepare.ensures.engaged)
    (sym c.prepare.new.workers.ok.0 ∙ c.in-Ok.ensures.many) c.work.ensures.ran c.dismiss_all.ensures met

pub returns-in-Err-clause-unserved : goal.returns-in-Err-clause-unserved
returns-in-Err-clause-unserved g c = (
  rest_links_same _ g.K.Sink.wrote g.K.Sink.write_count c.args.out.now c.prepare.new.out c.args.office.now c.args.main.now.limit c.args.words.now.rest_workers _ _ _ _ _ _ _ _ c.prepare.new.workers.items _ _ c.prepare.ensures.engaged c.dismiss_all-reports.ensures,
  smb_links_same _ g.K.Sink.wrote g.K.Sink.write_count c.args.out.now c.prepare.new.out c.args.office.now c.args.main.now.limit c.args.words.now.rest_workers _ _ _ _ _ _ _ _ c.prepare.new.workers.items _ _ c.prepare.ensures.engaged c.dismiss_all-reports.ensures,
  unserved_by _ g.K.Sink.wrote g.K.Sink.write_count c.args.out.now c.prepare.new.out c.args.office.now c.args.main.now.limit c.args.words.now.rest_workers _ _ _ _ _ _ _ _ c.prepare.new.workers.items _ _ c.prepare.ensures.engaged c.dismiss_all-reports.ensures c.in-Err.unserved c.in-Err.ensures.cause,
)
