-- How all that isn't a reply is told: requests that are no call, failed signatures, requests that can't be read, and
-- calls that were not appended to the history.
use Rattle.std.specs.Prelude.{codes, ℕ, List, ◌∷◌, []}
use Rattle.std.specs.List.{concat}
use Rattle.std.specs.Fmt.{decimal}
use Rattle.sx_names.specs.declared.fault.NameRule.{NameRule}
use Rattle.sx_names.specs.declared.fault.NameRule.TheVariants as rule
use Rattle.sx_call.specs.declared.refusals.Refusal.{Refusal}
use Rattle.sx_call.specs.declared.refusals.Syntax.{Syntax}
use Rattle.sx_call.specs.declared.refusals.Syntax.TheVariants.{Verb, Header, Uri, Query, NoCall, Missing, Range, Md5}
use Rattle.sx_call.specs.declared.refusals.Stop.{Stop}
use Rattle.sx_call.specs.declared.refusals.Stop.TheVariants.{NoMemory, HistoryFull}
use Rattle.sx_reply.specs.declared.answer.AuthText.{AuthText}
use Rattle.sx_reply.specs.declared.answer.AuthText.TheVariants as auth
use Rattle.sx_reply.specs.declared.answer.WireText.{WireText}
use Rattle.sx_reply.specs.declared.answer.WireText.TheVariants as wire
use Rattle.sx_reply.specs.Refusals.{row_of, message_of, words, numbered}

-- what the answer to a request that failed tells
pub record Fault : Type 0 where
  pub status : ℕ
  pub code : List ℕ
  pub message : List ℕ

-- these three
abbrev pub fault : ℕ → List ℕ → List ℕ → Fault
fault status code message = record { status = status; code = code; message = message }

-- a refusal of the account
abbrev pub refusal_fault : Refusal → Fault
refusal_fault refusal = fault (row_of refusal).status (row_of refusal).code (message_of refusal)

-- the name of a rule of names
unfoldable pub rule_name : NameRule → List ℕ
rule_name rule.Utf8 = codes "utf8"
rule_name rule.Empty = codes "empty"
rule_name rule.Char = codes "char"
rule_name rule.Dot = codes "dot"
rule_name rule.Tail = codes "tail"
rule_name rule.Long = codes "long"
rule_name rule.Short = codes "short"
rule_name rule.Edge = codes "edge"
rule_name rule.Hyphens = codes "hyphens"
rule_name rule.Deep = codes "deep"
rule_name rule.PathLong = codes "pathlong"

-- a word, and the name that it speaks of
abbrev pub named : List ℕ → List ℕ → List ℕ
named text name = concat (text ∷ name ∷ [])

-- the name of the rule that a target's path breaks, the part, and the place in it
abbrev pub uri_message : List ℕ → ℕ → ℕ → List ℕ
uri_message name part at =
    concat (
    codes "uri " ∷ name ∷ codes " part " ∷ decimal part ∷ codes " at " ∷ decimal at ∷ [])

-- a request that is no call
unfoldable pub syntax_fault : Syntax → Fault
syntax_fault Verb = fault 405 (codes "UnsupportedHttpVerb") (words (codes "verb"))
syntax_fault (Header name) = fault 400 (codes "InvalidHeaderValue") (named (codes "header ") name)
syntax_fault (Uri rule part at) = fault 400 (codes "InvalidUri") (uri_message (rule_name rule) part at)
syntax_fault (Query name) = fault 400 (codes "InvalidQueryParameterValue") (named (codes "query ") name)
syntax_fault NoCall = fault 400 (codes "InvalidQueryParameterValue") (words (codes "no call"))
syntax_fault (Missing name) = fault 400 (codes "MissingRequiredHeader") (named (codes "missing ") name)
syntax_fault (Range name) = fault 400 (codes "OutOfRangeInput") (named (codes "out of range ") name)
syntax_fault Md5 = fault 400 (codes "Md5Mismatch") (words (codes "md5"))

-- a date outside the window, and now, both in ticks
abbrev pub window_message : List ℕ → ℕ → ℕ → List ℕ
window_message text dated now = concat (text ∷ decimal dated ∷ codes " " ∷ decimal now ∷ [])

-- the message of a failed signature
unfoldable pub auth_message : AuthText → List ℕ
auth_message auth.NoHeader = words (codes "auth no-header")
auth_message auth.BadHeader = words (codes "auth bad-header")
auth_message auth.OtherAccount = words (codes "auth other-account")
auth_message auth.NoDate = words (codes "auth no-date")
auth_message auth.BadDate = words (codes "auth bad-date")
auth_message (auth.TooOld dated now) = window_message (codes "auth too-old ") dated now
auth_message (auth.TooNew dated now) = window_message (codes "auth too-new ") dated now
auth_message auth.Differs = words (codes "auth differs")

-- a failed signature
abbrev pub auth_fault : AuthText → Fault
auth_fault text = fault 403 (codes "AuthenticationFailed") (auth_message text)

-- a request that can't be read
unfoldable pub wire_fault : WireText → Fault
wire_fault (wire.Head at) = fault 400 (codes "InvalidHeaderValue") (numbered (codes "head at ") at)
wire_fault wire.BadLength = fault 400 (codes "InvalidHeaderValue") (words (codes "header content-length"))
wire_fault wire.NoLength = fault 411 (codes "MissingContentLengthHeader") (words (codes "length"))
wire_fault (wire.Body n) = fault 413 (codes "RequestBodyTooLarge") (numbered (codes "body ") n)
wire_fault wire.HeadLong = fault 400 (codes "InvalidHeaderValue") (words (codes "head too long"))

-- how many entries and live sessions the history has, and its limit
abbrev pub full_message : ℕ → ℕ → ℕ → List ℕ
full_message entries sessions limit =
    concat (codes "history " ∷ decimal entries ∷ codes " " ∷ decimal sessions ∷ codes " " ∷ decimal limit ∷ [])

-- a call that was not appended
unfoldable pub stop_fault : Stop → Fault
stop_fault NoMemory = fault 503 (codes "OutOfMemory") (words (codes "memory"))
stop_fault (HistoryFull entries sessions limit) =
    fault 503 (codes "HistoryFull") (full_message entries sessions limit)
