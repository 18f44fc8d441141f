use Rattle.std.proofs.Common.{true, subst, sym}
use Rattle.sx_names.specs.declared.attributes.Attributes.{Attributes}
use Rattle.sx_decode.specs.Reading.{Reading, Reads}
use Rattle.sx_decode.specs.Facts.{new_attributes}
use Rattle.sx_decode.proofs.NewAttributes.{given_attributes}
use Rattle.sx_decode.proofs.facts.new_directory_attributes.Goals as goal

pub returns-in-Some : goal.returns-in-Some
unfolding new_attributes
returns-in-Some c =
    subst (λ (d : Reading Attributes). Reads c.directory_attributes_read.result d)
    (sym (given_attributes true _ c.in_ok-one_header.field-0 c.in-Some.text c.in_ok-one_header.ensures c.in-Some.is))
    c.directory_attributes_read.ensures
