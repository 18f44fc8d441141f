use Rattle.std.proofs.Common.{ℕ, ◌≡◌, List, drop, position, Some, None, sym, ap, ◌∙◌}
use Rattle.std.proofs.lemmas.List.{take_rest}
use Rattle.sx_smb_door.specs.Lines.{is_line_end}
use Rattle.sx_smb_door.proofs.Splits.{searched_some, searched_none}
use Rattle.sx_smb_door.proofs.lines.line_end.Goals as goal

pub returns-in-Some : goal.returns-in-Some
returns-in-Some c =
    let e : position is_line_end (drop c.args.searched c.args.bytes.now) ≡ Some c.in-Some.place =
    ap (λ (xs : List ℕ). position is_line_end xs) (sym (take_rest c.args.bytes.now c.args.searched)) ∙ sym c.first_line_end.ensures ∙ c.in-Some.is in
    sym (searched_some c.args.bytes.now c.args.searched c.in-Some.place c.requires e)

pub returns-in-None : goal.returns-in-None
returns-in-None c =
    let e : position is_line_end (drop c.args.searched c.args.bytes.now) ≡ None =
    ap (λ (xs : List ℕ). position is_line_end xs) (sym (take_rest c.args.bytes.now c.args.searched)) ∙ sym c.first_line_end.ensures ∙ c.in-None.is in
    sym (searched_none c.args.bytes.now c.args.searched c.requires e)
