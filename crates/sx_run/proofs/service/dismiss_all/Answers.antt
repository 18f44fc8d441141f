use Rattle.std.proofs.Common.{ℕ, sym, ap, ◌∙◌, min}
use Rattle.sx_run.proofs.Serving.{dismissed_all}
use Rattle.sx_run.proofs.service.dismiss_all.Goals as goal

pub returns : goal.returns
returns g c = dismissed_all _ c.args.main.now c.dismiss-smb_report.new.main c.dismiss-rest_report.new.main c.args.rest_workers _ _ _ _ c.args.workers.items c.dismiss-smb_report.new.workers.items c.dismiss-rest_report.new.workers.items c.dismiss-rest_report.result c.dismiss-smb_report.result
    c.dismiss-smb_report.ensures.dismissed c.dismiss-rest_report.ensures.dismissed (sym c.dismiss-rest_report.new.workers.ok.0 ∙ c.dismiss-rest_report.ensures.kept)
    (sym c.dismiss-smb_report.new.workers.ok.0 ∙ (c.dismiss-smb_report.ensures.kept ∙ (c.min-keep.ensures ∙ ap (λ (n : ℕ). min n c.args.rest_workers) (c.len.ensures ∙ c.args.workers.ok.0))))
