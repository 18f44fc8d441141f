use Rattle.std.proofs.Common.{ℕ, List, [], ◌∷◌, ◌≡◌, map, codes, ap, ◌∙◌, sym}
use Rattle.std.specs.String.{string_bytes}
use Rattle.sx_names.specs.Names.{is_share_name}
use Rattle.sharebox.proofs.SessionWords.{two_words, same_bytes, named_by, read_name}
use Rattle.sharebox.proofs.command.session_share.Goals as goal

pub returns-clause-share : goal.returns-clause-share
returns-clause-share c =
    let command = same_bytes c.as_str.result.now (codes "session") c.ne.result c.if-ne.false c.ne.ensures in
    let both = two_words c.args.words.now c.index-words-0.result c.index-words-1.result c.if-words-ne2.false c.index-words-0.is c.index-words-1.is in
    let words : map string_bytes c.args.words.now ≡ codes "session" ∷ c.as_bytes.result.now ∷ [] =
    both ∙ ap (λ (w : List ℕ). w ∷ string_bytes c.index-words-1.result ∷ []) (sym c.as_str.ensures.value ∙ command) ∙ ap (λ (w : List ℕ). codes "session" ∷ w ∷ []) (sym c.as_bytes.ensures.value) in
    read_name c.read_share.result (map string_bytes c.args.words.now) c.as_bytes.result.now words c.read_share.ensures.name

pub returns-clause-memory : goal.returns-clause-memory
returns-clause-memory c e =
    let command = same_bytes c.as_str.result.now (codes "session") c.ne.result c.if-ne.false c.ne.ensures in
    let both = two_words c.args.words.now c.index-words-0.result c.index-words-1.result c.if-words-ne2.false c.index-words-0.is c.index-words-1.is in
    let words : map string_bytes c.args.words.now ≡ codes "session" ∷ c.as_bytes.result.now ∷ [] =
    both ∙ ap (λ (w : List ℕ). w ∷ string_bytes c.index-words-1.result ∷ []) (sym c.as_str.ensures.value ∙ command) ∙ ap (λ (w : List ℕ). codes "session" ∷ w ∷ []) (sym c.as_bytes.ensures.value) in
    (c.as_bytes.result.now, (words, named_by c.read_share.result (is_share_name c.as_bytes.result.now) c.read_share.ensures.fault.1 e))
