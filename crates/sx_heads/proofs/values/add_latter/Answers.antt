use Rattle.sx_heads.proofs.values.add_latter.Goals as goal

pub returns : goal.returns
returns c = rw (c.in_ok-add_word-3.ensures, c.in_ok-add_word-2.ensures, c.in_ok-add_word.ensures) at c.add_word-4.ensures
