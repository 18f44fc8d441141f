-- Which calls come through the session's door, and which replies a session's answer can print.
use Rattle.std.specs.Prelude.{Bool, true, false, nat_lt, length}
use Rattle.sx_call.specs.declared.doors.Door.{Door}
use Rattle.sx_call.specs.declared.doors.Door.TheVariants.{Rest, Starts, Ends, InSession}
use Rattle.sx_call.specs.declared.refusals.Refusal.{Refusal}
use Rattle.sx_call.specs.declared.replies.Reply.{Reply}
use Rattle.sx_call.specs.declared.replies.Reply.TheVariants.{Refused, Smb}
use Rattle.sx_reply.specs.Refusals.{row_of}

-- whether a call comes through the session's door: it starts or ends a session, or stands in one
abbrev pub is_session_door : Door → Bool
is_session_door Rest = false
is_session_door Starts = true
is_session_door Ends = true
is_session_door InSession = true

-- whether sessions are refused so: the refusal's row has a word
abbrev pub has_word : Refusal → Bool
has_word refusal = nat_lt 0 (length (row_of refusal).word)

-- whether a session's answer can print a reply: that of a session's call, or a refusal that has a word
abbrev pub is_session_reply : Reply → Bool
is_session_reply (Refused refusal) = has_word refusal
is_session_reply (Smb answer) = true
is_session_reply other = false
