-- Why a request has no call.
use Rattle.std.proofs.Common.{ℕ, ◌≡◌, Result, Ok, Err, refl, subst}
use Rattle.sx_http.specs.declared.heads.Request.{Request}
use Rattle.sx_key.specs.Answers.{Checked, Answers}
use Rattle.sx_key.specs.Checking.{auth}
use Rattle.sx_key.specs.declared.account.Account.{Account}
use Rattle.sx_key.specs.declared.fault.AuthFault.{AuthFault}
use Rattle.sx_reply.specs.declared.answer.AuthText.{AuthText}
use Rattle.sx_reply.specs.declared.answer.AuthText.TheVariants as auth_text
use Rattle.sx_rest_door.specs.Asking.{IsJudged, TellsFault}
use Rattle.sx_rest_door.specs.Conversation.{fault_of}
use Rattle.sx_rest_door.specs.declared.judging.Uncalled.{Uncalled}
use Rattle.sx_rest_door.specs.declared.judging.Uncalled.TheVariants.{NotSigned, NoCall, NotRead}

-- a fault that is told is the fault that was found
fault_found : (text : AuthText) (d : Checked (Unit {0})) → Answers (Err (fault_of text)) d → d ≡ Err (fault_of text)
fault_found auth_text.NoHeader d h = h
fault_found auth_text.BadHeader d h = h
fault_found auth_text.OtherAccount d h = h
fault_found auth_text.NoDate d h = h
fault_found auth_text.BadDate d h = h
fault_found (auth_text.TooOld dated now) d h = h
fault_found (auth_text.TooNew dated now) d h = h
fault_found auth_text.Differs d h = h

-- a request whose signature isn't accepted
pub not_signed_so : (account : Account) (r : Request) (moment : ℕ) (found : AuthFault) (why : Uncalled) → Answers {A = Unit {0}} (Err found) (auth r.head account moment) → TellsFault found why → IsJudged account r moment (Err why)
not_signed_so account r moment found (NotSigned text) h told =
    fault_found text (auth r.head account moment) (subst (λ (f : AuthFault). Answers {A = Unit {0}} (Err f) (auth r.head account moment)) told h)
not_signed_so account r moment found (NoCall syntax) h told = absurd told
not_signed_so account r moment found NotRead h told = tt

-- a request without a fault is signed
pub checked_so : (r d : Checked (Unit {0})) → Answers r d → ((f : AuthFault) → r ≡ Err f → ⊥) → d ≡ Ok tt
checked_so (Ok u) d h none = h
checked_so (Err f) d h none = absurd (none f refl)
