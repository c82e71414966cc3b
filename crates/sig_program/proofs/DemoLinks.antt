-- Every link of `log` holds of the demonstration's request.
use Rattle.std.proofs.Common.{◌≡◌, ℕ, ◌/◌, ◌<◌, ◌≤◌, pos, List, [], ◌∷◌, ◌++◌, length, Some, Result, Ok, Err, IfOk, refl}
use Rattle.std.proofs.Common.{sym, ap, subst, ◌∙◌, arith, lit<, codes, append_assoc}
use Rattle.std.specs.Fmt.{decimal}
use Rattle.std.specs.List.{AllByRecursion}
use Rattle.std.specs.Prelude.{slice_get}
use Rattle.sig_base.specs.declared.memory.OutOfMemory.{OutOfMemory}
use Rattle.sig_demo.specs.declared.log.DemoLog.{DemoLog}
use Rattle.sig_json.specs.Document.{document_of}
use Rattle.sig_merkle.proofs.AuditPathLaws.{audit_path-accepted}
use Rattle.sig_merkle.proofs.InclusionLaws.{inclusion_answers}
use Rattle.sig_merkle.specs.AuditPath.{audit_path}
use Rattle.sig_merkle.specs.Inclusion.{IsIncluded}
use Rattle.sig_merkle.specs.Root.{leaf_of, root}
use Rattle.sig_rekor.specs.CheckpointText.{IsCheckpoint, checkpoint_text}
use Rattle.sig_request.specs.Limit.{most_bytes}
use Rattle.sig_request.specs.ReadFrom.{IsRequestOf}
use Rattle.sig_request.specs.Request.{log_request}
use Rattle.sig_demo.proofs.Logs.{entry-at, length-entries}
use Rattle.sig_demo.specs.Log.{demo_checkpoint, demo_entries, demo_entry, demo_index, demo_log, demo_signature}
use Rattle.sig_demo.specs.Request.{request_of, request_tree}
use Rattle.sig_program.proofs.Replies.{every-of_text}
use Rattle.sig_program.specs.Demo.{IsDemoLogged}
use Rattle.sig_program.specs.Link.{EveryLinkHolds, HoldsOfLog, log_links}
use Rattle.sig_program.specs.Reply.{IsReply}
use Rattle.sig_program.specs.declared.command.Command.TheVariants.{Log}
use Rattle.sig_reply.specs.declared.reply.Reply.{Reply}

included : (count index : ℕ) → index < count
    → IsIncluded index (leaf_of (demo_entry index)) count (audit_path index (demo_entries count))
    (root (demo_entries count))
included count index below =
    let size : length (demo_entries count) ≡ count = length-entries count in
    let accepted = audit_path-accepted index (demo_entries count) (demo_entry index) (entry-at count index below) in
    let P : ℕ → Type 0 = λ n. IsIncluded index (leaf_of (demo_entry index)) n
    (audit_path index (demo_entries count)) (root (demo_entries count)) in
    subst P size ((inclusion_answers index (length (demo_entries count)) (leaf_of (demo_entry index))
    (root (demo_entries count)) (audit_path index (demo_entries count)) (Ok tt)).0 accepted)

pub every_link : (count : ℕ) → 1 ≤ count
    → IsCheckpoint (checkpoint_text (demo_checkpoint (demo_log count))) (demo_checkpoint (demo_log count))
    → AllByRecursion (HoldsOfLog (request_of (demo_log count))) log_links
unfolding request_of demo_log
every_link count some checkpoint = (
  tt,
  (
    (demo_checkpoint (demo_log count), checkpoint, tt),
    (
      (demo_checkpoint (demo_log count), checkpoint, (0, demo_signature, lit< tt, refl, (0, lit< tt, refl))),
      (
        (demo_checkpoint (demo_log count), checkpoint, (refl, refl)),
        (
          record {
            index = demo_index count;
            place = refl;
            included = included count (demo_index count) (omega arith);
          },
          tt,
        ),
      ),
    ),
  ),
)

-- the text of the request is one of which every link holds
pub every_holds : (count : ℕ) (text : List ℕ) → length text ≤ most_bytes
    → document_of text ≡ Ok (request_tree (demo_log count))
    → log_request (request_tree (demo_log count)) ≡ Some (request_of (demo_log count))
    → AllByRecursion (HoldsOfLog (request_of (demo_log count))) log_links → EveryLinkHolds Log text
every_holds count text short document members links =
    every-of_text (IsRequestOf log_request text) HoldsOfLog (request_of (demo_log count)) log_links
    (record { tree = request_tree (demo_log count); short = short; document = document; members = members }) links

-- what `log` replies to it
pub logged_first : (count : ℕ) (text : List ℕ) (reply : Reply) → length text ≤ most_bytes
    → document_of text ≡ Ok (request_tree (demo_log count))
    → log_request (request_tree (demo_log count)) ≡ Some (request_of (demo_log count))
    → AllByRecursion (HoldsOfLog (request_of (demo_log count))) log_links → IsReply Log text reply
    → IsDemoLogged count reply
unfolding request_of demo_log
logged_first count text reply short document members links meant =
    let every = every_holds count text short document members links in
    let made = meant.vouched every (request_of (demo_log count))
    (record { tree = request_tree (demo_log count); short = short; document = document; members = members }) in
    let I : List ℕ = decimal (count / 2) in
    let N : List ℕ = decimal count in (
      meant.succeeds.1 every,
      (
        made.0,
        ap (λ (r : Reply). r.text) made.2
            ∙ sym (ap (λ t. codes "logged " ++ t) (append_assoc I (codes " " ++ N) (codes "\n" ++ made.0))),
      ),
    )

-- ---- what the calls return

pub few_entries : (log : DemoLog) (count : ℕ) → log ≡ demo_log count → count ≤ 4096 → log.count ≤ 4096
unfolding demo_log
few_entries log count same few = let size : log.count ≡ count = ap (λ (l : DemoLog). l.count) same in
    omega (arith, size, few)

pub root_of_log : (log : DemoLog) (count : ℕ) → log ≡ demo_log count → log.root ≡ root (demo_entries count)
unfolding demo_log
root_of_log log count same = ap (λ (l : DemoLog). l.root) same

abbrev IsItsCheckpoint : DemoLog → Type 0
IsItsCheckpoint log = IsCheckpoint (checkpoint_text (demo_checkpoint log)) (demo_checkpoint log)

abbrev IsItsDocument : DemoLog → List ℕ → Type 0
IsItsDocument log text = document_of text ≡ Ok (request_tree log)

abbrev IsItsMeaning : DemoLog → Type 0
IsItsMeaning log = log_request (request_tree log) ≡ Some (request_of log)

pub document_made : (log : DemoLog) (count : ℕ) (r : Result (List ℕ) OutOfMemory) → log ≡ demo_log count
    → IfOk r (λ text. document_of text ≡ Ok (request_tree log))
    → IfOk r (λ text. document_of text ≡ Ok (request_tree (demo_log count)))
document_made log count (Ok text) same made = subst (λ l. IsItsDocument l text) same made
document_made log count (Err memory) same made = tt

pub members_made : (log : DemoLog) (count : ℕ) (r : Result (List ℕ) OutOfMemory) → log ≡ demo_log count
    → IfOk r (λ _. log_request (request_tree log) ≡ Some (request_of log))
    → IfOk r (λ _. log_request (request_tree (demo_log count)) ≡ Some (request_of (demo_log count)))
members_made log count (Ok text) same made = subst IsItsMeaning same made
members_made log count (Err memory) same made = tt

pub links_made : (log : DemoLog) (count : ℕ) (r : Result (List ℕ) OutOfMemory) → log ≡ demo_log count → 1 ≤ count
    → IfOk r (λ _. IsCheckpoint (checkpoint_text (demo_checkpoint log)) (demo_checkpoint log))
    → IfOk r (λ _. AllByRecursion (HoldsOfLog (request_of (demo_log count))) log_links)
links_made log count (Ok text) same some made = every_link count some (subst IsItsCheckpoint same made)
links_made log count (Err memory) same some made = tt

pub holds_made : (log : DemoLog) (count : ℕ) (r : Result (List ℕ) OutOfMemory) → log ≡ demo_log count → 1 ≤ count
    → IfOk r (λ text. (n : ℕ) → log ≡ demo_log n → length text ≤ most_bytes)
    → IfOk r (λ text. document_of text ≡ Ok (request_tree log))
    → IfOk r (λ _. log_request (request_tree log) ≡ Some (request_of log))
    → IfOk r (λ _. IsCheckpoint (checkpoint_text (demo_checkpoint log)) (demo_checkpoint log))
    → IfOk r (EveryLinkHolds Log)
holds_made log count (Ok text) same some short document members checkpoint =
    every_holds count text (short count same) (subst (λ l. IsItsDocument l text) same document)
    (subst IsItsMeaning same members) (every_link count some (subst IsItsCheckpoint same checkpoint))
holds_made log count (Err memory) same some short document members checkpoint = tt

pub logged_made : (log : DemoLog) (count : ℕ) (text shown : List ℕ) (r : Result Reply OutOfMemory)
    → log ≡ demo_log count → 1 ≤ count → shown ≡ text → ((n : ℕ) → log ≡ demo_log n → length text ≤ most_bytes)
    → document_of text ≡ Ok (request_tree log) → log_request (request_tree log) ≡ Some (request_of log)
    → IsCheckpoint (checkpoint_text (demo_checkpoint log)) (demo_checkpoint log) → IfOk r (IsReply Log shown)
    → IfOk r (IsDemoLogged count)
logged_made log count text shown (Ok reply) same some is short document members checkpoint meant =
    logged_first count text reply (short count same) (subst (λ l. IsItsDocument l text) same document)
    (subst IsItsMeaning same members) (every_link count some (subst IsItsCheckpoint same checkpoint))
    (subst (λ t. IsReply Log t reply) is meant)
logged_made log count text shown (Err memory) same some is short document members checkpoint meant = tt
