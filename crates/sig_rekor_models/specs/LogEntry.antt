-- *Log entry*: an entry as Rekor's API returns it, object by object: each member with its name and its kind. Numbers
-- are JSON numbers, and not texts of digits.
use Rattle.std.specs.Prelude.{ℕ, ℤ, List, [], ◌∷◌, codes, Option, Some, None, Result, if◌then◌else◌}
use Rattle.std.specs.Option.{ok_or}
use Rattle.std.specs.Result.{result_ok}
use Rattle.sig_base.specs.OptionSteps.{◌>>=◌}
use Rattle.sig_base.specs.declared.error.SigstoreError.{SigstoreError}
use Rattle.sig_base.specs.declared.error.SigstoreError.TheVariants.{SerdeJsonError}
use Rattle.sig_json.specs.Closed.{has_only}
use Rattle.sig_json.specs.Data.{Data}
use Rattle.sig_json.specs.Kinds.{text_of}
use Rattle.sig_json.specs.Member.{optional, required, required_list, required_text}
use Rattle.sig_json.specs.NumberKinds.{i64_number_of, u64_number_of}
use Rattle.sig_json.specs.Record.{record_in}
use Rattle.sig_rekor.specs.declared.rekor_proof.RekorInclusionProof.{RekorInclusionProof}
use Rattle.sig_rekor_models.specs.Body.{Body, coded_body_of, seen_body}
use Rattle.sig_rekor_models.specs.declared.log_entry.Attestation.{Attestation}
use Rattle.sig_rekor_models.specs.declared.log_entry.LogEntry.{LogEntry as HeldEntry}
use Rattle.sig_rekor_models.specs.declared.log_entry.Verification.{Verification}
use Rattle.sig_rekor_models.specs.declared.read_entry.Beside.{Beside}
use Rattle.sig_rekor_models.specs.declared.read_entry.Logged.{Logged}
use Rattle.sig_rekor_models.specs.declared.read_entry.Placed.{Placed}

pub record LogEntry : Type 0 where
  pub uuid : Option (List ℕ)
  pub attestation : Option Attestation
  pub body : Body
  pub integrated_time : ℤ
  pub log_i_d : List ℕ
  pub log_index : ℤ
  pub verification : Verification

-- the entry that a value of the code is
abbrev pub seen_entry : HeldEntry → LogEntry
seen_entry entry = record {
  uuid = entry.uuid;
  attestation = entry.attestation;
  body = seen_body entry.body;
  integrated_time = entry.integrated_time;
  log_i_d = entry.log_i_d;
  log_index = entry.log_index;
  verification = entry.verification;
}

-- ---- the members; other members are ignored, except that the entry itself may not have any

unfoldable pub attestation_of : Data → Option Attestation
attestation_of d = optional text_of (codes "dummy") d >>= λ dummy. Some (record { dummy = dummy })

unfoldable pub rekor_proof_of : Data → Option RekorInclusionProof
rekor_proof_of d = do
  hashes ← required_list text_of (codes "hashes") d
  log_index ← required i64_number_of (codes "logIndex") d
  root_hash ← required_text (codes "rootHash") d
  tree_size ← required u64_number_of (codes "treeSize") d
  checkpoint ← required_text (codes "checkpoint") d
  Some (record {
    hashes = hashes;
    log_index = log_index;
    root_hash = root_hash;
    tree_size = tree_size;
    checkpoint = checkpoint;
  })

unfoldable pub verification_of : Data → Option Verification
verification_of d = do
  inclusion_proof ← optional rekor_proof_of (codes "inclusionProof") d
  signed_entry_timestamp ← required_text (codes "signedEntryTimestamp") d
  Some (record { inclusion_proof = inclusion_proof; signed_entry_timestamp = signed_entry_timestamp })

abbrev pub entry_names : List (List ℕ)
entry_names =
    codes "uuid" ∷ codes "attestation" ∷ codes "body" ∷ codes "integratedTime" ∷ codes "logID" ∷ codes "logIndex"
    ∷ codes "verification" ∷ []

-- when an entry was logged, and by which log
unfoldable pub logged_of : Data → Option Logged
logged_of d = do
  integrated_time ← required i64_number_of (codes "integratedTime") d
  log_i_d ← required_text (codes "logID") d
  Some (record { integrated_time = integrated_time; log_i_d = log_i_d })

-- where an entry is in the log, and what the log proves and promises of it
unfoldable pub placed_of : Data → Option Placed
placed_of d = do
  log_index ← required i64_number_of (codes "logIndex") d
  verification ← required verification_of (codes "verification") d
  Some (record { log_index = log_index; verification = verification })

-- what Rekor returns for an entry beside the log
unfoldable pub beside_of : Data → Option Beside
beside_of d = do
  uuid ← optional text_of (codes "uuid") d
  attestation ← optional attestation_of (codes "attestation") d
  Some (record { uuid = uuid; attestation = attestation })

unfoldable pub entry_members_of : Data → Option LogEntry
entry_members_of d = do
  logged ← logged_of d
  placed ← placed_of d
  beside ← beside_of d
  body ← required coded_body_of (codes "body") d
  Some (record {
    uuid = beside.uuid;
    attestation = beside.attestation;
    body = body;
    integrated_time = logged.integrated_time;
    log_i_d = logged.log_i_d;
    log_index = placed.log_index;
    verification = placed.verification;
  })

unfoldable pub log_entry_of : Data → Option LogEntry
log_entry_of d = if has_only entry_names d then entry_members_of d else None

-- the entry of a text, `None` if it is not a document without floats or a member is not as it has to be
unfoldable pub entry_in : List ℕ → Option LogEntry
entry_in text = result_ok (record_in log_entry_of text)

abbrev pub entry_or_error : List ℕ → Result LogEntry SigstoreError
entry_or_error text = ok_or (entry_in text) SerdeJsonError
