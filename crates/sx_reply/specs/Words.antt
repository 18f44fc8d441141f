-- The words of a text that is printed.
use Rattle.std.specs.Prelude.{ℕ, List}
use Rattle.std.specs.List.{flat_map}
use Rattle.std.specs.Fmt.{decimal}
use Rattle.sx_text.specs.Escapes.{escape}
use Rattle.sx_reply.specs.declared.gather.Word.{Word}
use Rattle.sx_reply.specs.declared.gather.Word.TheVariants.{Text, Number}

-- bytes as they stand, or a number in decimal digits
abbrev pub word_text : Word → List ℕ
word_text (Text bytes) = bytes.now
word_text (Number n) = decimal n

-- the text of a word with its escapes
abbrev pub escaped_word : Word → List ℕ
escaped_word word = flat_map escape (word_text word)
