use Rattle.std.proofs.Common.{◌≡◌, Bool, true, false, List, ℕ, ◌++◌, length, refl, cond, subst, sym}
use Rattle.sx_reply.specs.declared.answer.Answer.{Answer}
use Rattle.sx_reply.specs.declared.answer.Shape.{Shape}
use Rattle.sx_reply.specs.Pages.{front_text}
use Rattle.sx_reply.specs.Laws.{StatesLength}
use Rattle.sx_reply.specs.PrintedReply.{Page, page_of, head_text, sent_body}
use Rattle.sx_reply.proofs.Lengths.{head_states}
use Rattle.sx_reply.proofs.laws.heads_state_lengths.Goals as goal

stated : (place at : ℕ) (page : Page) (head_only close : Bool) → head_only ≡ false
    → StatesLength (head_text place at page (record { head_only = head_only; close = close })) (sent_body page head_only)
stated place at page true close e = absurd (cc)
stated place at page false close e = head_states (front_text page.status place at ++ page.headers) (length page.body) close

pub returns : goal.returns
returns c = record {
  parts = λ answer shape. refl;
  stated = λ answer shape e. stated answer.place answer.at (page_of answer.said) shape.head_only shape.close e;
  none = λ answer shape e. rw e refl;
}
