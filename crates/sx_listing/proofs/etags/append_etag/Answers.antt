use Rattle.std.proofs.Common.{IsUtf8, ◌≡◌, ◌++◌, List, ℕ, OnOk, sym, subst, ◌∙◌}
use Rattle.std.proofs.lemmas.Str.{IsUtf8-from_is_utf8}
use Rattle.sx_text.specs.Hex.{hex_text}
use Rattle.sx_listing.proofs.AsciiTexts.{hex_utf8}
use Rattle.sx_listing.proofs.etags.append_etag.Goals as goal

pub unreachable-requires : goal.unreachable-requires
unreachable-requires c =
    c.in-Err.ensures.cases.0
    (subst IsUtf8 (sym c.etag_digits-bytes.ensures) (IsUtf8-from_is_utf8 (hex_text 16 c.args.etag) (hex_utf8 16 c.args.etag)))

pub returns : goal.returns
returns c =
    let shown : c.in-Ok.shown.now ≡ hex_text 16 c.args.etag = c.in-Ok.ensures.cases.0 ∙ c.etag_digits-bytes.ensures in
    subst (λ (x : List ℕ). OnOk c.append.result (c.append.new.self ≡ c.args.text.now ++ x)) shown c.append.ensures.ok
