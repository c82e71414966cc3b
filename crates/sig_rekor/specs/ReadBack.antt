-- Which checkpoints are read back from the text that is written of them.
use Rattle.std.specs.Prelude.{◌≡◌, ◌≢◌, ℕ, ◌<◌, ◌^◌, false, List, ◌∷◌, length}
use Rattle.std.specs.List.{AllByRecursion}
use Rattle.base64.specs.GeneralPurpose.{IsBytes}
use Rattle.sig_rekor.specs.declared.checkpoint.SignedCheckpoint.{SignedCheckpoint}
use Rattle.sig_rekor.specs.declared.checkpoint.Checkpoint.{Checkpoint}
use Rattle.sig_rekor.specs.declared.checkpoint.CheckpointSignature.{CheckpointSignature}
use Rattle.sig_rekor.specs.declared.checkpoint.OtherContent.{OtherContent}
use Rattle.sig_rekor.specs.TextCuts.{Lacks}
use Rattle.sig_rekor.specs.NoteText.{newline, hash_len, is_blank, other_content_of, content_text}
use Rattle.sig_rekor.specs.SignatureText.{space, fingerprint_len, fingerprint_and_raw}
use Rattle.sig_rekor.specs.CheckpointText.{quotation_mark}

-- one line that is not empty and means this content: neither a value nor a key has `: `
pub record IsContentLine (content : OtherContent) : Type 0 where
  pub line : Lacks newline (content_text content)
  pub written : 0 < length (content_text content)
  pub same : other_content_of (content_text content) ≡ content

-- the name has no space and no newline
pub record IsSignerName (name : List ℕ) : Type 0 where
  pub word : Lacks space name
  pub line : Lacks newline name

-- *Reads back*: an origin of one line that is more than white space and starts with no quotation mark, contents that
-- are lines, and names
pub record ReadsBack (checkpoint : SignedCheckpoint) : Type 0 where
  pub origin : is_blank checkpoint.note.origin ≡ false
  pub line : Lacks newline checkpoint.note.origin
  pub unquoted : (rest : List ℕ) → checkpoint.note.origin ≢ quotation_mark ∷ rest
  pub contents : AllByRecursion IsContentLine checkpoint.note.other_content
  pub names : AllByRecursion (λ (s : CheckpointSignature). IsSignerName s.name) checkpoint.signatures

-- what the types guarantee for a signature and for a note: numbers below 2^64, arrays of their length, bytes below 256
pub record IsSignatureValue (signature : CheckpointSignature) : Type 0 where
  pub fingerprint : length signature.key_fingerprint ≡ fingerprint_len
  pub bytes : IsBytes (fingerprint_and_raw signature)

pub record IsNoteValue (note : Checkpoint) : Type 0 where
  pub size : note.size < 2 ^ 64
  pub hash : length note.hash ≡ hash_len
  pub bytes : IsBytes note.hash
