use Rattle.sx_key.proofs.Joining.{joined_first}
use Rattle.sx_key.proofs.texts.put_joined.Goals as goal

pub returns-in_ok-extend_from_slice-in-len1-up : goal.returns-in_ok-extend_from_slice-in-len1-up
returns-in_ok-extend_from_slice-in-len1-up c =
    rw (joined_first c.args.between c.args.out.now.items c.args.texts.now c.in-len1-up.len_at_least) at
    (rw c.in_ok-extend_from_slice-in-len1-up.ensures.items at c.put_behind.ensures)
