-- The reply to a request.
use Rattle.std.specs.Prelude.{◌≡◌, ℕ, ◌⊎◌, ◌↔◌, List, ◌++◌, codes, decimal, Contains}
use Rattle.std.specs.Prelude.{Option, Some, None}
use Rattle.std.specs.Fmt.{signed_decimal}
use Rattle.sig_rekor.specs.declared.inclusion_proof.InclusionProof.{InclusionProof}
use Rattle.sig_program.specs.declared.command.Command.{Command}
use Rattle.sig_program.specs.declared.command.Command.TheVariants.{Log, Verify, Consistency, Audit, Witness, Gate}
use Rattle.sig_program.specs.declared.command.Command.TheVariants.{LogQuestions}
use Rattle.sig_program.specs.declared.command.Command.TheVariants.{VerifyQuestions, ConsistencyQuestions}
use Rattle.sig_program.specs.declared.command.Command.TheVariants.{AuditQuestions, WitnessQuestions, GateQuestions}
use Rattle.sig_audit_command.specs.Questions.{IsAuditQuestionsReply}
use Rattle.sig_audit_command.specs.Reply.{IsAuditReply}
use Rattle.sig_gate_command.specs.Questions.{IsGateQuestionsReply}
use Rattle.sig_gate_command.specs.Reply.{IsGateReply}
use Rattle.sig_witness_command.specs.Questions.{IsWitnessQuestionsReply}
use Rattle.sig_witness_command.specs.Reply.{IsWitnessReply}
use Rattle.sig_questions.specs.Asked.{IsAskedBy}
use Rattle.sig_questions.specs.Few.{AreFewQuestions}
use Rattle.sig_questions.specs.Questions.{AreQuestions}
use Rattle.sig_verify.specs.Link.{link_name}
use Rattle.sig_verify.specs.LinkLaws.{IsKept}
use Rattle.sig_verify.specs.Links.{OfPassed}
use Rattle.sig_verify.specs.declared.link.Link.{Link}
use Rattle.sig_verify.specs.declared.link.Link.TheVariants.{Request, Checkpoint}
use Rattle.sig_verify.specs.declared.logged_entry.LoggedEntry.{LoggedEntry}
use Rattle.sig_rekor.specs.declared.checkpoint.SignedCheckpoint.{SignedCheckpoint}
use Rattle.sig_request.specs.declared.head_members.ClaimedHead.{ClaimedHead}
use Rattle.sig_request.specs.declared.request.LogRequest.{LogRequest}
use Rattle.sig_reply.specs.Reply.{IsListingOf, listed, refusal}
use Rattle.sig_reply.specs.declared.reply.Reply.{Reply}
use Rattle.sig_request.specs.Request.{log_request}
use Rattle.sig_program.specs.SecondLine.{IsFrontLine, IsSecondLine}
use Rattle.sig_request.specs.ConsistencyRequest.{consistency_request}
use Rattle.sig_request.specs.declared.consistency_request.ConsistencyRequest.{ConsistencyRequest}
use Rattle.sig_program.specs.VerifyLink.{inputs}
use Rattle.sig_request.specs.VerifyRequest.{verify_request}
use Rattle.sig_request.specs.declared.verify_request.VerifyRequest.{VerifyRequest}
use Rattle.sig_program.specs.Link.{EveryLinkHolds, IsFirstFailing}
use Rattle.sig_base.specs.declared.checker.AcceptedRow.{AcceptedRow}
use Rattle.sig_program.specs.HeadQuestions.{AreHeadQuestions, IsCheckpointOf, head_rows}
use Rattle.sig_reply.specs.RowsText.{IsReadBack, rows_text}
use Rattle.sig_request.specs.ReadFrom.{IsRequestOf}

-- status 2 for the link `request`, 1 for every other
abbrev pub status_of : Link → ℕ
status_of Request = 2
status_of other = 1

-- the reply where this link is the first that fails
abbrev pub refusal_reply : Link → Reply
refusal_reply link = refusal (status_of link) (link_name link)

-- the reply where every link holds: the index and the size of the inclusion proof, and the second line
abbrev pub success : List ℕ → InclusionProof → List ℕ → Reply
success word proof second = record {
  status = 0;
  text =
      word ++ (signed_decimal proof.log_index ++
      (codes " " ++ (decimal proof.tree_size ++ (codes "\n" ++ second))));
}

abbrev pub logged : InclusionProof → List ℕ → Reply
logged = success (codes "logged ")

abbrev pub verified : InclusionProof → List ℕ → Reply
verified = success (codes "verified ")

-- the proof of a request of `log`, and what the log's entries say of its entry
abbrev pub IsLoggedReply : LogRequest → Reply → Type 0
IsLoggedReply request reply =
    (second : List ℕ) × IsSecondLine request.entries request.entry request.proof second
    × (reply ≡ logged request.proof second)

-- the log entry of the request's bundle: its body, with the proof that its members are
abbrev pub IsEntryIn : VerifyRequest → LoggedEntry → Type 0
IsEntryIn request offline = OfPassed (inputs request) (λ c. IsKept c.entry offline)

-- the proof of the log entry of the bundle of a request of `verify`, and what the log's entries say of the logged body
abbrev pub IsVerifiedReply : VerifyRequest → LoggedEntry → Reply → Type 0
IsVerifiedReply request offline reply =
    (second : List ℕ) × IsSecondLine request.entries offline.body offline.proof second
    × (reply ≡ verified offline.proof second)

-- the reply of `consistency` where every link holds: the old and the new size, and the second line
abbrev pub consistent : ConsistencyRequest → List ℕ → Reply
consistent request second = record {
  status = 0;
  text =
      codes "consistent " ++ (decimal request.old_size ++
      (codes " " ++ (decimal request.tree_size ++ (codes "\n" ++ second))));
}

-- the two sizes of a request of `consistency`, and what the log's entries say of its old root
abbrev pub IsConsistentReply : ConsistencyRequest → Reply → Type 0
IsConsistentReply request reply =
    (second : List ℕ) × IsFrontLine request.entries request second × (reply ≡ consistent request second)

-- the reply lists the signatures that the links on a tree head ask for, and is read back as them
abbrev pub IsHeadQuestionsReply : ClaimedHead → Reply → Type 0
IsHeadQuestionsReply head reply =
    (rows : List AcceptedRow) × AreHeadQuestions head rows × IsReadBack rows × (reply ≡ listed (rows_text rows))

-- for private clauses: the reply to a request of this text with this tree head: its checkpoint has no reading, or its
-- signatures are listed
abbrev pub IsHeadListing : List ℕ → ClaimedHead → Reply → Type 0
IsHeadListing text head reply =
    (IsCheckpointOf head None × (reply ≡ refusal_reply Checkpoint))
    ⊎ ((checkpoint : SignedCheckpoint) × IsCheckpointOf head (Some checkpoint)
    × IsListingOf text (head_rows head checkpoint) reply)

-- the reply lists the signatures that the links of a request of `verify` ask for, each of them and no other, in the
-- order of the links, few of them about certificates, and is read back as them
abbrev pub IsVerifyQuestionsReply : VerifyRequest → Reply → Type 0
IsVerifyQuestionsReply request reply =
    (rows : List AcceptedRow) × AreQuestions (inputs request) rows
    × ((row : AcceptedRow) → Contains rows row ↔ IsAskedBy (inputs request) row)
    × AreFewQuestions (inputs request) rows × IsReadBack rows × (reply ≡ listed (rows_text rows))

-- the reply of a command to a text for which every link holds: `log` shows the proof of the one request that the text
-- is, `verify` that of the log entry of its bundle, and `consistency` the two sizes of its request; after these, where
-- the request gives the log's entries, comes the second line; `questions` lists the signatures that the command asks
-- for
abbrev pub Succeeds : Command → List ℕ → Reply → Type 0
Succeeds Log text reply =
    (request : LogRequest) → IsRequestOf log_request text request → IsLoggedReply request reply
Succeeds Verify text reply =
    (request : VerifyRequest) → IsRequestOf verify_request text request
    → (offline : LoggedEntry) × IsEntryIn request offline × IsVerifiedReply request offline reply
Succeeds Consistency text reply =
    (request : ConsistencyRequest) → IsRequestOf consistency_request text request → IsConsistentReply request reply
Succeeds Audit text reply = IsAuditReply text reply
Succeeds Witness text reply = IsWitnessReply text reply
Succeeds Gate text reply = IsGateReply text reply
Succeeds LogQuestions text reply =
    (request : LogRequest) → IsRequestOf log_request text request → IsHeadQuestionsReply request.head reply
Succeeds VerifyQuestions text reply =
    (request : VerifyRequest) → IsRequestOf verify_request text request → IsVerifyQuestionsReply request reply
Succeeds ConsistencyQuestions text reply =
    (request : ConsistencyRequest) → IsRequestOf consistency_request text request
    → IsHeadQuestionsReply request.head reply
Succeeds AuditQuestions text reply = IsAuditQuestionsReply text reply
Succeeds WitnessQuestions text reply = IsWitnessQuestionsReply text reply
Succeeds GateQuestions text reply = IsGateQuestionsReply text reply

-- the reply to a request's text of a command whose links have no index: the success line if and only if every link of
-- the command holds, else the first link that fails
pub record IsReplyByLinks (command : Command) (text : List ℕ) (reply : Reply) : Type 0 where
  pub decided : EveryLinkHolds command text ⊎ ((link : Link) × IsFirstFailing command text link)
  pub succeeds : (reply.status ≡ 0) ↔ EveryLinkHolds command text
  pub vouched : EveryLinkHolds command text → Succeeds command text reply
  pub refused : (link : Link) → IsFirstFailing command text link → reply ≡ refusal_reply link

-- The reply to a request's text. That of `audit` has the same form: the success line if and only if every link holds,
-- else the first link that fails, with the index of its head or watched entry. That of `witness` has a line for each
-- update, and the state after them; that of `gate` is the report of the verdicts.
abbrev pub IsReply : Command → List ℕ → Reply → Type 0
IsReply Audit text reply = IsAuditReply text reply
IsReply AuditQuestions text reply = IsAuditQuestionsReply text reply
IsReply Witness text reply = IsWitnessReply text reply
IsReply WitnessQuestions text reply = IsWitnessQuestionsReply text reply
IsReply Gate text reply = IsGateReply text reply
IsReply GateQuestions text reply = IsGateQuestionsReply text reply
IsReply other text reply = IsReplyByLinks other text reply
