use Rattle.sx_lines.specs.Printed.{attributes_text}
use Rattle.sx_answer_reader.proofs.attributes.attributes_text.Goals as goal

pub returns : goal.returns
unfolding attributes_text
returns c =
    let e0 = rw (c.bar.ensures, c.text_if.ensures, c.bar-2.ensures) at c.joined.ensures in
    let e1 = rw (c.text_if-2.ensures, c.bar-3.ensures, c.text_if-3.ensures) at e0 in
    let e2 = rw (c.bar-4.ensures, c.text_if-4.ensures, c.bar-5.ensures) at e1 in
    let e3 = rw (c.text_if-5.ensures, c.bar-6.ensures, c.text_if-6.ensures) at e2 in
    let e4 = rw (c.bar-7.ensures, c.text_if-7.ensures, c.bar-8.ensures) at e3 in
    let e5 = rw (c.text_if-8.ensures, c.bar-9.ensures, c.text_if-9.ensures) at e4 in
    let e6 = rw (c.none_if_none.ensures, c.either-any.ensures, c.either-not_scrubbed.ensures) at e5 in
    let e7 = rw (c.either-not_indexed.ensures, c.either-offline.ensures, c.either-temporary.ensures) at e6 in
    rw (c.either-archive.ensures, c.either-system.ensures, c.either-hidden.ensures) at e7
