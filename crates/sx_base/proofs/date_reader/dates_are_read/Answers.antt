use Rattle.std.proofs.lemmas.Bool.{cases_eq}
use Rattle.sx_text.proofs.Laws.{is_reading}
use Rattle.sx_base.specs.Date.{IsDated, date_text}
use Rattle.sx_base.specs.DateReader.{date_at}
use Rattle.sx_base.proofs.DateReading.{date-reading}
use Rattle.sx_base.proofs.date_reader.dates_are_read.Goals as goal

pub returns : goal.returns
returns c = is_reading cases_eq date_text IsDated date_at date-reading
