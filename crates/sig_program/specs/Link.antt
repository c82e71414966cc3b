-- The links of each command, in their order.
use Rattle.std.specs.Prelude.{ℕ, List, [], ◌∷◌, Option}
use Rattle.std.specs.List.{AllByRecursion}
use Rattle.sig_base.specs.Rules.{FailsFirst}
use Rattle.sig_program.specs.declared.command.Command.{Command}
use Rattle.sig_program.specs.declared.command.Command.TheVariants.{Log, Verify, Consistency, Audit, Witness, Gate}
use Rattle.sig_program.specs.declared.command.Command.TheVariants.{LogQuestions}
use Rattle.sig_program.specs.declared.command.Command.TheVariants.{VerifyQuestions, ConsistencyQuestions}
use Rattle.sig_program.specs.declared.command.Command.TheVariants.{AuditQuestions, WitnessQuestions, GateQuestions}
use Rattle.sig_verify.specs.declared.link.Link.{Link}
use Rattle.sig_verify.specs.declared.link.Link.TheVariants.{Request, Checkpoint, NoteKey, NoteMatch, Inclusion}
use Rattle.sig_request.specs.declared.request.LogRequest.{LogRequest}
use Rattle.sig_program.specs.Head.{HoldsOfHead}
use Rattle.sig_program.specs.ProofOf.{IsProofOf}
use Rattle.sig_request.specs.Request.{log_request}
use Rattle.sig_program.specs.VerifyLink.{HoldsVerify, verify_links}
use Rattle.sig_program.specs.ConsistencyLink.{HoldsConsistency, consistency_links}
use Rattle.sig_program.specs.HeadQuestions.{HoldsHeadQuestions, head_question_links}
use Rattle.sig_request.specs.ConsistencyRequest.{consistency_request}
use Rattle.sig_request.specs.declared.consistency_request.ConsistencyRequest.{ConsistencyRequest}
use Rattle.sig_program.specs.VerifyQuestions.{HoldsVerifyQuestions, verify_question_links}
use Rattle.sig_request.specs.AuditRequest.{audit_request}
use Rattle.sig_request.specs.declared.audit_request.AuditRequest.{AuditRequest}
use Rattle.sig_request.specs.ReadFrom.{IsRequestOf}
use Rattle.sig_program.specs.Verdict.{IsLinkVerdict}
use Rattle.sig_gate_command.specs.Reply.{HasManifest}
use Rattle.sig_witness_command.specs.Request.{witness_request}
use Rattle.sig_witness_command.specs.Start.{IsStart, Logs}
use Rattle.sig_witness_command.specs.declared.request.WitnessRequest.{WitnessRequest}

abbrev pub log_links : List Link
log_links = Request ∷ Checkpoint ∷ NoteKey ∷ NoteMatch ∷ Inclusion ∷ []

-- for `audit` the one link that is about no head and no watched entry: the others are sig_audit_command's; for
-- `witness` and for `gate` the only link
abbrev pub links : Command → List Link
links Log = log_links
links Verify = verify_links
links Consistency = consistency_links
links Audit = Request ∷ []
links Witness = Request ∷ []
links Gate = Request ∷ []
links LogQuestions = head_question_links
links VerifyQuestions = verify_question_links
links ConsistencyQuestions = head_question_links
links AuditQuestions = Request ∷ []
links WitnessQuestions = Request ∷ []
links GateQuestions = Request ∷ []

-- the proof is one of the entry
abbrev pub IsLogged : LogRequest → Type 0
IsLogged request = IsProofOf request.entry request.proof

-- what a link requires of the tree head of a request of `log`, which is that of the proof's tree
abbrev pub HoldsOfLogHead : LogRequest → Link → Type 0
HoldsOfLogHead request = HoldsOfHead request.head request.proof.tree_size request.proof.root_hash

-- what a link requires of a request of `log`, if all links before it hold
abbrev pub HoldsOfLog : LogRequest → Link → Type 0
HoldsOfLog request Checkpoint = HoldsOfLogHead request Checkpoint
HoldsOfLog request NoteKey = HoldsOfLogHead request NoteKey
HoldsOfLog request NoteMatch = HoldsOfLogHead request NoteMatch
HoldsOfLog request Inclusion = IsLogged request
HoldsOfLog request other = Unit {0}

-- a text is a request of `witness`, which starts from some logs
abbrev pub IsWitnessRequest : List ℕ → Type 0
IsWitnessRequest text =
    (request : WitnessRequest) × IsRequestOf witness_request text request × ((start : Logs) × IsStart request start)

-- a link holds of a text: the text is a request of the command, and the link holds of it
abbrev pub Holds : Command → List ℕ → Link → Type 0
Holds Log text link = (request : LogRequest) × IsRequestOf log_request text request × HoldsOfLog request link
Holds Verify text link = HoldsVerify text link
Holds Consistency text link = HoldsConsistency text link
Holds Audit text link = (request : AuditRequest) × IsRequestOf audit_request text request
Holds Witness text link = IsWitnessRequest text
Holds Gate text link = HasManifest text
Holds LogQuestions text link = HoldsHeadQuestions log_request (λ (r : LogRequest). r.head) text link
Holds VerifyQuestions text link = HoldsVerifyQuestions text link
Holds ConsistencyQuestions text link =
    HoldsHeadQuestions consistency_request (λ (r : ConsistencyRequest). r.head) text link
Holds AuditQuestions text link = (request : AuditRequest) × IsRequestOf audit_request text request
Holds WitnessQuestions text link = IsWitnessRequest text
Holds GateQuestions text link = HasManifest text

-- every link of the command holds of a text
abbrev pub EveryLinkHolds : Command → List ℕ → Type 0
EveryLinkHolds command text = AllByRecursion (Holds command text) (links command)

-- the first of the command's links that does not hold of a text
abbrev pub IsFirstFailing : Command → List ℕ → Link → Type 0
IsFirstFailing command text link = FailsFirst (Holds command text) (links command) link

-- the first failing link of a request, or `None`
abbrev pub IsLogVerdict : LogRequest → Option Link → Type 0
IsLogVerdict request = IsLinkVerdict (HoldsOfLog request) log_links
