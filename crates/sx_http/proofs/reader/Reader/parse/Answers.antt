use Rattle.std.proofs.Common.{◌≡◌, ◌∙◌, ◌++◌, [], ap, sym, List, ℕ, subst}
use Rattle.std.proofs.lemmas.List.{append-nil}
use Rattle.sx_http.specs.Heads.{head_window, IsParsed}
use Rattle.sx_http.specs.Readers.{Requests}
use Rattle.sx_http.proofs.reader.Reader.parse.Goals as goal

pub returns-clause-parsed : goal.returns-clause-parsed
returns-clause-parsed c =
    let none : c.self.inside.broken.items ≡ [] = c.self.invariant.1 (ap (λ (r : Requests). r.ended) c.self.view_is ∙ c.requires) in
    let front : List ℕ = c.self.inside.buffer in
    let held : front ≡ c.args.self.now.held =
    sym (append-nil front) ∙ ap (λ (bs : List ℕ). front ++ bs) (sym none) ∙ ap (λ (r : Requests). r.held) c.self.view_is in
    subst (λ (bs : List ℕ). IsParsed (head_window bs) c.parse_front.result) (c.held.ensures ∙ held) c.parse_front.ensures
