use Rattle.std.proofs.Common.{refl}
use Rattle.sx_run.specs.Crews.{Told}
use Rattle.sx_run.proofs.Ending.{begun_same, served_by, unclosed_by}
use Rattle.sx_run.proofs.service.serve.Goals as goal

pub returns-in-Ok-close : goal.returns-in-Ok-close
returns-in-Ok-close g c =
    let tell : g.row.L.Denot → Told g.row.L-Link.Denot = λ l. record { links = g.L.Listener.links l; faults = g.L.Listener.listen_count l } in
    let same = begun_same (tell c.args.rest.now) (tell c.bind.new.self) (tell c.args.smb.now) (tell c.bind-2.new.self) (g.K.Sink.write_count c.args.out.now) c.in-Ok.ensures.links c.in-Ok.ensures.cause.kept c.in-Ok-bind.ensures.links c.in-Ok-bind.ensures.cause.kept in
    let lines = c.in-Ok-serve_office.ensures.lines in
    let all = c.in-Ok-close.ensures.all in
    served_by _ _ c.args.words.now _ _ _ _ _ c.in-Ok.rest_port c.in-Ok-bind.smb_port _ same lines.0 lines.1 c.serve_office.new.main c.in-Ok-close.book c.in-Ok-serve_office.rest_report c.in-Ok-serve_office.smb_report
    c.in-Ok-close.ensures.book c.serve_office.ensures.limit c.status_of_book.ensures.legal c.in-Ok-serve_office.ensures.worked (all.0, all.1, all.2) c.status_of_book.ensures.status

pub returns-in-Err-close : goal.returns-in-Err-close
returns-in-Err-close g c =
    let tell : g.row.L.Denot → Told g.row.L-Link.Denot = λ l. record { links = g.L.Listener.links l; faults = g.L.Listener.listen_count l } in
    let same = begun_same (tell c.args.rest.now) (tell c.bind.new.self) (tell c.args.smb.now) (tell c.bind-2.new.self) (g.K.Sink.write_count c.args.out.now) c.in-Ok.ensures.links c.in-Ok.ensures.cause.kept c.in-Ok-bind.ensures.links c.in-Ok-bind.ensures.cause.kept in
    let lines = c.in-Ok-serve_office.ensures.lines in
    unclosed_by _ _ c.args.words.now _ _ _ _ _ c.in-Ok.rest_port c.in-Ok-bind.smb_port _ same lines.0 lines.1 refl
