use Rattle.std.proofs.Common.{◌∙◌, ap, arith, refl}
use Rattle.sx_names.specs.Content.{md5_of}
use Rattle.sx_names.proofs.Base64.{md5_read, encoded_whole}
use Rattle.sx_names.proofs.content.base64_of.Goals as goal

pub returns-clause-read : goal.returns-clause-read
returns-clause-read c =
    let bytes = c.args.bytes.now in
    let whole = encoded_whole bytes _ c.encode_slice.new.output c.requires refl c.in-Ok.ensures.written in
    ap md5_of whole ∙ md5_read bytes (λ i. let f = c.type_inv.bytes i in omega arith) c.requires
