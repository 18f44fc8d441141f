use Rattle.std.proofs.Common.{◌≡◌, ℕ, List, [], ◌∙◌, sym, ap, subst, true, Ok}
use Rattle.std.specs.Str.{is_utf8}
use Rattle.std.proofs.lemmas.Result.{IfOk-weaker}
use Rattle.sx_call.specs.declared.calls.Call.{Call}
use Rattle.sx_lines.specs.declared.line.Line.{Line}
use Rattle.sx_lines.specs.declared.line.Line.TheVariants.{Ask}
use Rattle.sx_lines.specs.Lines.{line_of}
use Rattle.sx_lines.specs.Spelled.{call_text}
use Rattle.sx_lines.proofs.spelled.line_of_call.Goals as goal

pub text_of-requires : goal.text_of-requires
text_of-requires c =
    let text : c.bytes.result.now ≡ call_text c.args.call.now = sym c.bytes.ensures ∙ c.in-Ok.ensures.ok.behind [] c.new-sink.ensures.wrote in
    subst (λ (t : List ℕ). is_utf8 t ≡ true) (sym text) c.says.ensures.text

pub returns-in-Ok-clause-line : goal.returns-in-Ok-clause-line
returns-in-Ok-clause-line c =
    let text : c.bytes.result.now ≡ call_text c.args.call.now = sym c.bytes.ensures ∙ c.in-Ok.ensures.ok.behind [] c.new-sink.ensures.wrote in
    IfOk-weaker c.text_of.result (λ line. line ≡ c.bytes.result.now) (λ line. line ≡ call_text c.args.call.now) (λ line e. e ∙ text) c.text_of.ensures

pub returns-in-Ok-clause-says : goal.returns-in-Ok-clause-says
returns-in-Ok-clause-says c =
    let text : c.bytes.result.now ≡ call_text c.args.call.now = sym c.bytes.ensures ∙ c.in-Ok.ensures.ok.behind [] c.new-sink.ensures.wrote in
    IfOk-weaker c.text_of.result (λ line. line ≡ c.bytes.result.now) (λ line. line_of line ≡ Ok (Ask c.args.call.now))
    (λ line e. ap line_of (e ∙ text) ∙ c.says.ensures.says) c.text_of.ensures
