use Rattle.std.proofs.lemmas.Bool.{cases_eq}
use Rattle.sx_text.proofs.Laws.{rest_within, left_within, is_whole, has_more, is_left}
use Rattle.sx_listing.specs.Shares.{shares_text}
use Rattle.sx_listing.specs.SharesReader.{AreShares, shares_at}
use Rattle.sx_listing.proofs.SharesRead.{shares-reading}
use Rattle.sx_listing.proofs.shares_reader.read_shares.Goals as goal

pub overflow_sub-result : goal.overflow_sub-result
overflow_sub-result c = rest_within cases_eq shares_text AreShares shares_at c.args.bytes.now c.in-Ok.field-0-0 c.in-Ok.rest.now shares-reading c.in-Ok.ensures

pub overflow_sub-result-in-Err-Unread : goal.overflow_sub-result-in-Err-Unread
overflow_sub-result-in-Err-Unread c = left_within cases_eq shares_text AreShares shares_at c.args.bytes.now c.in-Err-Unread.left shares-reading (rw c.in-Err-Unread.field-0-is at c.in-Err-Unread.ensures)

pub returns-in-Ok-default-empty : goal.returns-in-Ok-default-empty
returns-in-Ok-default-empty c = is_whole cases_eq shares_text AreShares shares_at c.args.bytes.now c.in-Ok-default-empty.page c.in-Ok-default-empty.field-0-1.now shares-reading c.in-Ok-default-empty.ensures c.in-Ok-default-empty.len_below

pub returns-in-Ok : goal.returns-in-Ok
returns-in-Ok c = has_more cases_eq shares_text AreShares shares_at c.args.bytes.now c.in-Ok.field-0-0 c.in-Ok.rest.now shares-reading c.in-Ok.ensures c.in-Ok.len_at_least

pub returns-in-Err-Unread : goal.returns-in-Err-Unread
returns-in-Err-Unread c = is_left cases_eq shares_text AreShares shares_at c.args.bytes.now c.in-Err-Unread.left shares-reading (rw c.in-Err-Unread.field-0-is at c.in-Err-Unread.ensures)
