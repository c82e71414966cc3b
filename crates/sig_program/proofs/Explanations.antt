-- The reply of `explain`, from the command's reply and its explanation.
use Rattle.std.proofs.Common.{◌≡◌, ◌≤◌, ◌<◌, ◌∙◌, ℕ, inl, inr, List, length, Option, Some, None, Result, Ok, Err, IfOk}
use Rattle.std.proofs.Common.{nat_lt, arith, refl, sym, subst, ap}
use Rattle.std.proofs.lemmas.Bool.{lt-ltb}
use Rattle.sig_base.specs.declared.memory.OutOfMemory.{OutOfMemory}
use Rattle.sig_explain_log.specs.Request.{request_tree}
use Rattle.sig_json.specs.Data.{Data}
use Rattle.sig_program.specs.ExplainWords.{explained_command}
use Rattle.sig_program.specs.ExplainedReply.{IsExplained, explained_by}
use Rattle.sig_program.specs.Explanation.{IsExplanation, IsFaultTree}
use Rattle.sig_program.specs.Reply.{IsReply, refusal_reply}
use Rattle.sig_program.specs.declared.explained.Explained.{Explained}
use Rattle.sig_reply.specs.declared.reply.Reply.{Reply}
use Rattle.sig_request.specs.Limit.{most_bytes}
use Rattle.sig_request_fault.specs.RequestFault.{IsRequest, request_fault_in}
use Rattle.sig_request_fault.specs.declared.fault.RequestFault.{RequestFault}
use Rattle.sig_request_fault.specs.declared.fault.RequestFault.TheVariants.{TooLong}
use Rattle.sig_table.specs.Table.{Table}
use Rattle.sig_verify.specs.declared.link.Link.TheVariants.{Request}

-- a reply that is made of both
pub explained-replied : (what : Explained) (text : List ℕ) (plain : Reply) (tree : Data) (r : Result Reply OutOfMemory)
    → IsReply (explained_command what) text plain → IsExplanation what text tree
    → IfOk r (λ reply. reply ≡ explained_by plain tree) → IfOk r (IsExplained what text)
explained-replied what text plain tree (Ok reply) replies explains are =
    record { plain = plain; replies = replies; tree = tree; explains = explains; are = are }
explained-replied what text plain tree (Err memory) replies explains are = tt

-- what is wrong with a text that is not a request of a table
pub its-fault : (table : Table) (text : List ℕ) (found : Option RequestFault) (fault : RequestFault)
    → found ≡ request_fault_in table text → found ≡ Some fault → IsFaultTree table text (request_tree fault)
its-fault table text found fault is some = (fault, sym is ∙ some, refl)

-- a text that is too long
pub long-fault : (table : Table) (text : List ℕ) → 16777217 ≤ length text
    → IsFaultTree table text (request_tree TooLong)
unfolding request_fault_in
long-fault table text long = (TooLong, rw (lt-ltb most_bytes (length text) (omega (arith, long))) refl, refl)
