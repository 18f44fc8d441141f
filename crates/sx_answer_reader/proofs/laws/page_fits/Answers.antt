use Rattle.sx_answer_reader.proofs.EntryLists.{told_entries}
use Rattle.sx_answer_reader.proofs.laws.page_fits.Goals as goal

pub returns : goal.returns
returns c =
    let t = told_entries c.args.page.now.items c.as_slice.result.now c.as_slice.ensures c.entries_fit.ensures.entries c.entries_fit.ensures.count in
    (t.0, t.1, c.bytes-next.ensures.utf8)
