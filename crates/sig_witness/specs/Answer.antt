-- The result of an update in one equation, for private clauses.
use Rattle.std.specs.Prelude.{ℕ, Bool, nat_eq, nat_lt, if◌then◌else◌, List, length, Option, Some, None, Result, Ok, Err}
use Rattle.sig_base.specs.ByText.{text_lookup}
use Rattle.sig_base.specs.declared.merkle_error.MerkleProofError.{MerkleProofError}
use Rattle.sig_base.specs.declared.scheme.VerifyScheme.{VerifyScheme}
use Rattle.sig_key.specs.Key.{key_accepts}
use Rattle.sig_merkle.specs.ConsistencyAnswer.{consistency_answer}
use Rattle.sig_rekor.specs.Verify.{has_accepted_signature}
use Rattle.sig_audit.specs.declared.chain.ChainHead.{ChainHead}
use Rattle.sig_witness.specs.declared.error.WitnessError.{WitnessError}
use Rattle.sig_witness.specs.declared.error.WitnessError.TheVariants.{UnknownOrigin, NoteKey, OldSize, Consistency, Full}
use Rattle.sig_witness.specs.declared.kept_log.KeptLog.{KeptLog}
use Rattle.sig_witness.specs.KeptLogs.{last_of}
use Rattle.sig_witness.specs.Updates.{Update, origin_of, most_heads}

-- whether there is room after this number of heads, once the proof was accepted
abbrev pub room_answer : ℕ → Result (Unit {0}) MerkleProofError → Result (Unit {0}) WitnessError
room_answer heads (Ok _) = if nat_lt heads most_heads then Ok tt else Err Full
room_answer heads (Err cause) = Err (Consistency cause)

-- the result by the kept head; no chain is empty
abbrev pub head_answer : ℕ → Update → Option ChainHead → Result (Unit {0}) WitnessError
head_answer heads update None = Ok tt
head_answer heads update (Some last) =
    if nat_eq last.size update.old_size
    then room_answer heads
    (consistency_answer last.size update.checkpoint.note.size update.hashes last.hash update.checkpoint.note.hash)
    else Err (OldSize last.size)

abbrev pub chain_answer : List ChainHead → Update → Result (Unit {0}) WitnessError
chain_answer chain update = head_answer (length chain) update (last_of chain)

-- the result by the log that is kept at the origin
unfoldable pub log_answer : (List ℕ → List ℕ → Bool) → KeptLog → Update → Result (Unit {0}) WitnessError
log_answer accepts log update =
    if has_accepted_signature accepts update.checkpoint then chain_answer log.chain update else Err NoteKey

abbrev pub found_answer : (VerifyScheme → List ℕ → List ℕ → List ℕ → Bool) → Update → Option KeptLog
    → Result (Unit {0}) WitnessError
found_answer accepts update None = Err UnknownOrigin
found_answer accepts update (Some log) = log_answer (key_accepts accepts log.key) log update

-- the result of an update
abbrev pub update_answer : (VerifyScheme → List ℕ → List ℕ → List ℕ → Bool) → List (List ℕ × KeptLog) → Update
    → Result (Unit {0}) WitnessError
update_answer accepts logs update = found_answer accepts update (text_lookup (origin_of update) logs)
