use Rattle.std.proofs.Common.{◌+◌, ◌≤◌, ◌≡◌, List, ℕ, length, arith, ap, refl}
use Rattle.std.proofs.lemmas.List.Elements.{All-take}
use Rattle.sx_lines.specs.declared.line.TheConstants.{LINE_LIMIT}
use Rattle.sx_smb_door.specs.Lines.{is_line_end}
use Rattle.std.proofs.Common.{false}
use Rattle.sx_smb_door.proofs.Answering.{long_answered}
use Rattle.sx_smb_door.proofs.lines.LineReader.refused.Goals as goal

pub returns-then-length-gt-LINE_LIMIT : goal.returns-then-length-gt-LINE_LIMIT
returns-then-length-gt-LINE_LIMIT c left n =
    let long : LINE_LIMIT + 1 ≤ length c.args.self.now.held = omega (arith, ap (λ (bs : List ℕ). length bs) c.held.ensures.value, c.if-length-gt-LINE_LIMIT.true) in
    (rw c.taken.ensures.value (long_answered c.args.self.now left n (long, All-take (λ b. is_line_end b ≡ false) (LINE_LIMIT + 1) c.args.self.now.held c.requires)), refl)
