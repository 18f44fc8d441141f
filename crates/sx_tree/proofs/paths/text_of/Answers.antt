use Rattle.std.proofs.Common.{List, ℕ, sym, subst}
use Rattle.std.specs.Str.{IsUtf8, is_utf8}
use Rattle.std.proofs.lemmas.Bool.{and_parts}
use Rattle.std.proofs.lemmas.Str.{IsUtf8-from_is_utf8}
use Rattle.sx_names.specs.Names.{names_part}
use Rattle.sx_tree.proofs.paths.text_of.Goals as goal

pub unreachable-requires : goal.unreachable-requires
unreachable-requires c =
    let name = c.args.name.now in
    let text : IsUtf8 name = IsUtf8-from_is_utf8 name (and_parts (is_utf8 name) (names_part name) c.kept.ensures.name).0 in
    c.in-Err.ensures.cases.0 (subst (λ (bs : List ℕ). IsUtf8 bs) (sym c.kept.ensures.value) text)
