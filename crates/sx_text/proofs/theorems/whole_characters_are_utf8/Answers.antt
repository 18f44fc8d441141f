use Rattle.sx_text.proofs.Utf8.{whole_utf8, utf8_whole, escaped_utf8}
use Rattle.sx_text.proofs.theorems.whole_characters_are_utf8.Goals as goal

pub returns-clause-whole : goal.returns-clause-whole
returns-clause-whole c = whole_utf8

pub returns-clause-utf8 : goal.returns-clause-utf8
returns-clause-utf8 c = utf8_whole

pub returns-clause-escaped : goal.returns-clause-escaped
returns-clause-escaped c = escaped_utf8
