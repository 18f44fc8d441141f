use Rattle.std.proofs.Common.{ℕ, List, [], ◌∷◌, ◌++◌, ◌≡◌, ◌∙◌, ap, subst, append-nil, Err}
use Rattle.std.specs.List.{flat_map}
use Rattle.sx_base.specs.Sink.{Prints}
use Rattle.sx_base.specs.Printer.{Gathers}
use Rattle.sx_base.specs.declared.fault.Failed.{Failed}
use Rattle.sx_listing.specs.Percent.{percent_text}
use Rattle.sx_lines.specs.Printed.{slashed, path_text}
use Rattle.sx_lines.proofs.PathTexts.{first_slashed}
use Rattle.sx_reply.proofs.Gathering.{gathers_more, gathers_stop}
use Rattle.sx_lines.proofs.middle.gather_named.Goals as goal

-- the first part as it was gathered, and the others
whole : (kept first : List ℕ) (rest : List (List ℕ)) → kept ≡ first → (percent_text kept ++ []) ++ flat_map slashed rest ≡ path_text (first ∷ rest)
whole kept first rest e =
    ap (λ (y : List ℕ). y ++ flat_map slashed rest) (append-nil (percent_text kept))
    ∙ ap (λ (n : List ℕ). percent_text n ++ flat_map slashed rest) e ∙ first_slashed first rest

pub returns-in-Ok : goal.returns-in-Ok
returns-in-Ok g c =
    subst (λ (t : List ℕ). Gathers {E = Failed} g.K.Sink.wrote g.K.Sink.write_count g.K.Sink.puts c.args.sink.now c.gather_slashed.new.sink
    c.args.gathered.now.items c.gather_slashed.new.gathered.items t c.gather_slashed.result)
    (whole c.kept.result.now c.args.first.now c.args.rest.now c.kept.ensures.value)
    (gathers_more {E = Failed} g.K.Sink.wrote g.K.Sink.write_count g.K.Sink.puts g.met.K.Sink.puts_more
    c.args.sink.now c.gather.new.sink c.gather_slashed.new.sink c.args.gathered.now.items c.gather.new.gathered.items c.gather_slashed.new.gathered.items
    (percent_text c.kept.result.now ++ []) (flat_map slashed c.args.rest.now) c.gather_slashed.result c.in-Ok.ensures c.gather_slashed.ensures)

pub returns-in-Err : goal.returns-in-Err
returns-in-Err g c =
    subst (λ (t : List ℕ). Prints {T = Unit {0}} g.K.Sink.wrote g.K.Sink.write_count g.K.Sink.puts c.args.sink.now c.gather.new.sink
    (c.args.gathered.now.items ++ t) (Err c.in-Err.failed))
    (whole c.kept.result.now c.args.first.now c.args.rest.now c.kept.ensures.value)
    (gathers_stop {E = Failed} g.K.Sink.wrote g.K.Sink.write_count g.K.Sink.puts
    c.args.sink.now c.gather.new.sink c.args.gathered.now.items c.gather.new.gathered.items c.gather.new.gathered.items
    (percent_text c.kept.result.now ++ []) (flat_map slashed c.args.rest.now) c.in-Err.failed c.in-Err.ensures)
