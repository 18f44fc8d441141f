-- The bytes that answer a request (HTTP/1.1, RFC 9112; headers and codes of Azure Files): a head and a body.
use Rattle.std.specs.Prelude.{codes, ℕ, ◌==◌, Bool, true, false, if◌then◌else◌, List, [], ◌∷◌, ◌++◌, length}
use Rattle.std.specs.Prelude.{Option}
use Rattle.std.specs.List.{concat}
use Rattle.std.specs.Fmt.{decimal}
use Rattle.sx_listing.specs.Error.{error_text}
use Rattle.sx_lease.specs.declared.lease.LeaseId.{LeaseId}
use Rattle.sx_call.specs.declared.shown.Stamp.{Stamp}
use Rattle.sx_call.specs.declared.replies.Reply.{Reply}
use Rattle.sx_call.specs.declared.replies.Reply.TheVariants as reply
use Rattle.sx_reply.specs.declared.answer.Answer.{Answer}
use Rattle.sx_reply.specs.declared.answer.Shape.{Shape}
use Rattle.sx_reply.specs.declared.answer.Said.{Said}
use Rattle.sx_reply.specs.declared.answer.Said.TheVariants as said
use Rattle.sx_base.specs.Moment.{moment_text}
use Rattle.sx_reply.specs.Values.{text_if, attributes_line}
use Rattle.sx_reply.specs.Headers.{line, stamp_text, facts_text, lease_text, meta_text, lease_id_text}
use Rattle.sx_reply.specs.Pages.{range_text, md5_name, file_headers, front_text, end_text}
use Rattle.sx_reply.specs.Refusals.{has_code}
use Rattle.sx_reply.specs.Faults.{Fault, refusal_fault, syntax_fault, auth_fault, wire_fault, stop_fault}

-- what an answer has of its own: its status, the headers of its kind, its body, and the length that is stated to a
-- request for the head alone
pub record Page : Type 0 where
  pub status : ℕ
  pub headers : List ℕ
  pub body : List ℕ
  pub head_length : ℕ

-- a page with a body
abbrev pub page : ℕ → List ℕ → List ℕ → Page
page status headers body = record { status = status; headers = headers; body = body; head_length = 0 }

-- the body of a fault
abbrev pub fault_body : Fault → List ℕ
fault_body fault = error_text (record { code = fault.code; message = fault.message })

-- a fault: its code in a header, and code and message in the body
abbrev pub fault_page : Fault → Page
fault_page fault =
    page fault.status
    (concat (codes "x-ms-error-code: " ∷ fault.code ∷ codes "\r\nContent-Type: application/xml\r\n" ∷ []))
    (fault_body fault)

-- what is told of a lease action: the stamp, the id under which the lease is held, and the time until it is broken
abbrev pub lease_headers : Stamp → Option LeaseId → List ℕ → List ℕ
lease_headers stamp id time = concat (stamp_text stamp ∷ lease_id_text id ∷ time ∷ [])

-- a reply as a page; a session's has no page
abbrev pub reply_page : Reply → Page
reply_page (reply.Refused refusal) = fault_page (refusal_fault refusal)
reply_page (reply.Stamped status stamp) = page status (concat (stamp_text stamp ∷ [])) []
reply_page (reply.Made status stamp facts) =
    page status (concat (stamp_text stamp ∷ attributes_line facts.attributes ∷ facts_text facts ∷ [])) []
reply_page reply.Gone = page 202 [] []
reply_page (reply.Snapped moment stamp) =
    page 201 (concat (line (codes "x-ms-snapshot: ") (moment_text moment) ∷ stamp_text stamp ∷ [])) []
reply_page (reply.ShareFacts stamp quota lease meta) =
    page 200 (concat (
    stamp_text stamp ∷ line (codes "x-ms-share-quota: ") (decimal quota) ∷ lease_text lease ∷ meta_text meta ∷ [])) []
reply_page (reply.Metas stamp meta) = page 200 (concat (stamp_text stamp ∷ meta_text meta ∷ [])) []
reply_page (reply.DirFacts stamp facts meta) =
    page 200 (concat (stamp_text stamp ∷ attributes_line facts.attributes ∷ facts_text facts ∷ meta_text meta ∷ [])) []
reply_page (reply.FileFacts stamp length content facts lease meta) = record {
  status = 200;
  headers = file_headers stamp content (md5_name true) [] facts lease meta;
  body = [];
  head_length = length;
}
reply_page (reply.FileBytes stamp part content facts lease meta) =
    page (if part.whole then 200 else 206)
    (file_headers stamp content (md5_name part.whole) (range_text part) facts lease meta) part.view
reply_page (reply.Listed body) = page 200 (concat (codes "Content-Type: application/xml\r\n" ∷ [])) body
reply_page (reply.RangesListed stamp length body) =
    page 200 (concat (
    stamp_text stamp ∷ line (codes "x-ms-content-length: ") (decimal length)
    ∷ codes "Content-Type: application/xml\r\n" ∷ [])) body
reply_page (reply.LeaseDone status stamp id) =
    page status (lease_headers stamp id (text_if (status == 202) (codes "x-ms-lease-time: 0\r\n"))) []
reply_page (reply.HandlesClosed n) =
    page 200 (concat (
    line (codes "x-ms-number-of-handles-closed: ") (decimal n)
    ∷ codes "x-ms-number-of-handles-failed: 0\r\n" ∷ [])) []
reply_page (reply.Smb answer) = page 0 [] []

-- what was said, as a page
abbrev pub page_of : Said → Page
page_of (said.Core reply) = reply_page reply
page_of (said.Syntax syntax) = fault_page (syntax_fault syntax)
page_of (said.Auth text) = fault_page (auth_fault text)
page_of (said.Wire text) = fault_page (wire_fault text)
page_of (said.Stop stop) = fault_page (stop_fault stop)

-- whether a reply is printed here: a session's isn't, nor a refusal that no REST call has
abbrev pub is_reply_printed : Reply → Bool
is_reply_printed (reply.Refused refusal) = has_code refusal
is_reply_printed (reply.Smb answer) = false
is_reply_printed other = true

-- whether a reply tells of a file
abbrev pub is_of_file : Reply → Bool
is_of_file (reply.FileFacts _ _ _ _ _ _) = true
is_of_file (reply.FileBytes _ _ _ _ _ _) = true
is_of_file other = false

-- whether what was said is
abbrev pub is_printed : Said → Bool
is_printed (said.Core reply) = is_reply_printed reply
is_printed other = true

-- the body that is sent: none to a request for the head alone
abbrev pub sent_body : Page → Bool → List ℕ
sent_body page head_only = if head_only then [] else page.body

-- the length that is stated
abbrev pub stated_length : Page → Bool → ℕ
stated_length page head_only = if head_only then page.head_length else length page.body

-- the head of a page
abbrev pub head_text : ℕ → ℕ → Page → Shape → List ℕ
head_text place at page shape =
    front_text page.status place at ++ page.headers ++ end_text (stated_length page shape.head_only) shape.close

-- a page as it is printed
abbrev pub page_text : ℕ → ℕ → Page → Shape → List ℕ
page_text place at page shape = head_text place at page shape ++ sent_body page shape.head_only

-- the head of an answer
abbrev pub answer_head : Answer → Shape → List ℕ
answer_head answer shape = head_text answer.place answer.at (page_of answer.said) shape

-- the body that is sent with it
abbrev pub answer_body : Answer → Shape → List ℕ
answer_body answer shape = sent_body (page_of answer.said) shape.head_only

-- the bytes of an answer
abbrev pub printed : Answer → Shape → List ℕ
printed answer shape = answer_head answer shape ++ answer_body answer shape
