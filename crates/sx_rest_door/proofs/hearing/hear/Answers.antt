use Rattle.std.proofs.Common.{◌≡◌, sym, refl, subst}
use Rattle.sx_http.specs.declared.next.Next.TheVariants as next
use Rattle.sx_reply.specs.declared.answer.WireText.{WireText}
use Rattle.sx_rest_door.specs.Asking.{IsHeard}
use Rattle.sx_rest_door.specs.declared.hearing.Heard.TheVariants.{Refuses}
use Rattle.sx_rest_door.specs.declared.hearing.Heard.{Heard}
use Rattle.sx_rest_door.proofs.hearing.hear.Goals as goal

pub returns-in-NoLength-clause-heard : goal.returns-in-NoLength-clause-heard
returns-in-NoLength-clause-heard g c =
    let P : Heard → Type 0 = λ x. IsHeard x c.args.reader.now c.next.new.self (g.S.Source.left c.args.source.now) (g.S.Source.left c.next.new.source) (g.S.Source.read_count c.args.source.now) (g.S.Source.read_count c.next.new.source) in
    subst P (sym c.refusal-in-NoLength.ensures) (record {
      answer = next.NoLength c.in-NoLength.at c.in-NoLength.facts;
      told = refl;
      none = record { gives = c.in-NoLength.ensures.answered c.requires; count = c.in-NoLength.ensures.cause };
    })

pub returns-in-BadLength-clause-heard : goal.returns-in-BadLength-clause-heard
returns-in-BadLength-clause-heard g c =
    let P : Heard → Type 0 = λ x. IsHeard x c.args.reader.now c.next.new.self (g.S.Source.left c.args.source.now) (g.S.Source.left c.next.new.source) (g.S.Source.read_count c.args.source.now) (g.S.Source.read_count c.next.new.source) in
    subst P (sym c.refusal-in-BadLength.ensures) (record {
      answer = next.BadLength c.in-BadLength.at c.in-BadLength.facts;
      told = refl;
      none = record { gives = c.in-BadLength.ensures.answered c.requires; count = c.in-BadLength.ensures.cause };
    })

pub returns-in-TooLong-clause-heard : goal.returns-in-TooLong-clause-heard
returns-in-TooLong-clause-heard g c =
    let P : Heard → Type 0 = λ x. IsHeard x c.args.reader.now c.next.new.self (g.S.Source.left c.args.source.now) (g.S.Source.left c.next.new.source) (g.S.Source.read_count c.args.source.now) (g.S.Source.read_count c.next.new.source) in
    let Q : WireText → Type 0 = λ text. P (Refuses (record { at = c.in-TooLong.at; text = text; head_only = c.in-TooLong.facts.head_only })) in
    subst P (sym c.refusal-in-TooLong.ensures) (subst Q (sym c.long_text.ensures) (record {
      answer = next.TooLong c.in-TooLong.at c.in-TooLong.what c.in-TooLong.n c.in-TooLong.facts;
      told = refl;
      none = record { gives = c.in-TooLong.ensures.answered c.requires; count = c.in-TooLong.ensures.cause };
    }))

pub returns-in-Cut-clause-heard : goal.returns-in-Cut-clause-heard
returns-in-Cut-clause-heard g c = record { gives = c.in-Cut.ensures.answered c.requires; count = c.in-Cut.ensures.cause }

pub returns-in-Spent-clause-heard : goal.returns-in-Spent-clause-heard
returns-in-Spent-clause-heard g c = record { gives = c.in-Spent.ensures.answered c.requires; count = c.in-Spent.ensures.cause }

pub returns-in-ReadFault-clause-heard : goal.returns-in-ReadFault-clause-heard
returns-in-ReadFault-clause-heard g c = (c.in-ReadFault.ensures.answered c.requires, c.in-ReadFault.ensures.cause)
