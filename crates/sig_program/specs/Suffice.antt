-- Nothing else matters: of a request's accepted signatures, only those decide its reply that its checkpoint or its
-- bundle asks for, also where no list was written.
use Rattle.std.specs.Prelude.{◌↔◌, ℕ, List, Contains}
use Rattle.sig_base.specs.declared.checker.AcceptedRow.{AcceptedRow}
use Rattle.sig_questions.specs.Asked.{IsAskedBy}
use Rattle.sig_program.specs.HeadQuestions.{AreHeadQuestions}
use Rattle.sig_program.specs.Reply.{IsReply}
use Rattle.sig_request.specs.ConsistencyRequest.{consistency_request}
use Rattle.sig_request.specs.Request.{log_request}
use Rattle.sig_program.specs.VerifyLink.{inputs}
use Rattle.sig_request.specs.VerifyRequest.{verify_request}
use Rattle.sig_program.specs.declared.command.Command.TheVariants.{Log, Verify, Consistency}
use Rattle.sig_reply.specs.declared.reply.Reply.{Reply}
use Rattle.sig_request.specs.declared.consistency_request.ConsistencyRequest.{ConsistencyRequest}
use Rattle.sig_request.specs.declared.head_members.ClaimedHead.{ClaimedHead}
use Rattle.sig_request.specs.declared.request.LogRequest.{LogRequest}
use Rattle.sig_request.specs.declared.verify_request.VerifyRequest.{VerifyRequest}
use Rattle.sig_request.specs.ReadFrom.{IsRequestOf}

-- the tree head with these accepted signatures in place of its own
abbrev pub head_with_accepted : ClaimedHead → List AcceptedRow → ClaimedHead
head_with_accepted head rows = record {
  checkpoint = head.checkpoint;
  scheme = head.scheme;
  key = head.key;
  accepted = rows;
}

-- the request with these accepted signatures in place of its own
abbrev pub log_with_accepted : LogRequest → List AcceptedRow → LogRequest
log_with_accepted request rows = record {
  entry = request.entry;
  proof = request.proof;
  head = head_with_accepted request.head rows;
  entries = request.entries;
}

abbrev pub consistency_with_accepted : ConsistencyRequest → List AcceptedRow → ConsistencyRequest
consistency_with_accepted request rows = record {
  old_size = request.old_size;
  old_root = request.old_root;
  tree_size = request.tree_size;
  root_hash = request.root_hash;
  hashes = request.hashes;
  head = head_with_accepted request.head rows;
  entries = request.entries;
}

-- two lists of accepted signatures agree on these
abbrev pub AgreeOn : List AcceptedRow → List AcceptedRow → List AcceptedRow → Type 0
AgreeOn rows one other = (row : AcceptedRow) → Contains rows row → Contains one row ↔ Contains other row

-- the tree head's accepted signatures and these agree on those that its links ask for
abbrev pub AgreeOnHead : ClaimedHead → List AcceptedRow → Type 0
AgreeOnHead head rows = (asked : List AcceptedRow) → AreHeadQuestions head asked → AgreeOn asked head.accepted rows

-- Two requests of `log` that differ in nothing but their accepted signatures, and in these in none that the checkpoint
-- asks for, have the same reply, also where no list was written.
abbrev pub LogQuestionsSuffice : Type 0
LogQuestionsSuffice =
    (text other : List ℕ) (request : LogRequest) (rows : List AcceptedRow)
    → IsRequestOf log_request text request → IsRequestOf log_request other (log_with_accepted request rows)
    → AgreeOnHead request.head rows
    → (reply : Reply) → IsReply Log text reply ↔ IsReply Log other reply

-- Two requests of `consistency` that differ in nothing but their accepted signatures, and in these in none that the
-- checkpoint asks for, have the same reply, also where no list was written.
abbrev pub ConsistencyQuestionsSuffice : Type 0
ConsistencyQuestionsSuffice =
    (text other : List ℕ) (request : ConsistencyRequest) (rows : List AcceptedRow)
    → IsRequestOf consistency_request text request
    → IsRequestOf consistency_request other (consistency_with_accepted request rows)
    → AgreeOnHead request.head rows
    → (reply : Reply) → IsReply Consistency text reply ↔ IsReply Consistency other reply

abbrev pub verify_with_accepted : VerifyRequest → List AcceptedRow → VerifyRequest
verify_with_accepted request rows = record {
  trusted_root = request.trusted_root;
  bundle = request.bundle;
  now = request.now;
  digest = request.digest;
  policy = request.policy;
  accepted = rows;
  entries = request.entries;
}

-- the request's accepted signatures and these agree on those that a link asks for, also where no list was written
abbrev pub AgreeOnAsked : VerifyRequest → List AcceptedRow → Type 0
AgreeOnAsked request rows =
    (row : AcceptedRow) → IsAskedBy (inputs request) row → Contains request.accepted row ↔ Contains rows row

-- Two requests of `verify` that differ in nothing but their accepted signatures, and in these in none that a link asks
-- for, have the same reply, also where no list was written.
abbrev pub VerifyQuestionsSuffice : Type 0
VerifyQuestionsSuffice =
    (text other : List ℕ) (request : VerifyRequest) (rows : List AcceptedRow)
    → IsRequestOf verify_request text request → IsRequestOf verify_request other (verify_with_accepted request rows)
    → AgreeOnAsked request rows
    → (reply : Reply) → IsReply Verify text reply ↔ IsReply Verify other reply
