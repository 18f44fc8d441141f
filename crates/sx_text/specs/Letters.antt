-- What a letter of the code does, as a step.
use Rattle.std.specs.Prelude.{ℕ, List, [], ◌∷◌, ◌++◌}
use Rattle.sx_text.specs.declared.escaped_reader.Letter.{Letter}
use Rattle.sx_text.specs.declared.escaped_reader.Letter.TheVariants.{Done, Kept, Passed, Wrong}
use Rattle.sx_text.specs.Machines.{Step, Ends, Goes, Fails}
use Rattle.sx_text.specs.Escapes.{Place}

-- the step that a letter shows, behind the bytes kept so far
abbrev pub shown_letter : List ℕ → Letter → Step Place (List ℕ)
shown_letter kept Done = Ends kept
shown_letter kept (Kept b s) = Goes (kept ++ b ∷ [], s)
shown_letter kept (Passed s) = Goes (kept, s)
shown_letter kept Wrong = Fails
