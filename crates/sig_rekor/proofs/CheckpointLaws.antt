-- What is read as a signed checkpoint stands for it, and what stands for a checkpoint is read as it.
use Rattle.std.proofs.Common.{◌≡◌, ℕ, List, Option, Some, None, Ok, refl, subst, arith, filter}
use Rattle.sig_base.proofs.ResultSteps.{bind_ok}
use Rattle.sig_rekor.specs.declared.checkpoint.SignedCheckpoint.{SignedCheckpoint}
use Rattle.sig_rekor.specs.TextCuts.{cut_at, parts_between, trimmed}
use Rattle.sig_rekor.specs.NoteText.{note_of}
use Rattle.sig_rekor.specs.SignatureText.{IsSignature, signature_of}
use Rattle.sig_rekor.specs.CheckpointText.{quotation_mark, empty_line, is_written, IsCheckpoint, signatures_by}
use Rattle.sig_rekor.specs.CheckpointText.{checkpoint_by, checkpoint_of}
use Rattle.sig_rekor.proofs.CutLaws.{cut_at-some, cut_at-cut, parts_between-found, parts_between-only, trimmed-found}
use Rattle.sig_rekor.proofs.CutLaws.{trimmed-only}
use Rattle.sig_rekor.proofs.Steps.{read_each-found, read_each-only}
use Rattle.sig_rekor.proofs.NoteLaws.{note-found, note-only}
use Rattle.sig_rekor.proofs.SignatureLaws.{signature-found, signature-only}

cut-found : (text : List ℕ) (checkpoint : SignedCheckpoint) (o : Option (List ℕ × List ℕ))
    → cut_at empty_line (trimmed quotation_mark text) ≡ o → checkpoint_by o ≡ Ok checkpoint
    → IsCheckpoint text checkpoint
unfolding signatures_by
cut-found text checkpoint None cut e = cc
cut-found text checkpoint (Some split) cut e =
    let a = bind_ok (signatures_by (parts_between empty_line split.1)) _ checkpoint e in
    let b = bind_ok (note_of split.0) _ checkpoint a.2 in
    let made : SignedCheckpoint = record { note = b.0; signatures = a.0 } in
    let same : made ≡ checkpoint = (let f = b.2 in cc) in
    subst (IsCheckpoint text) same (record {
      body = trimmed quotation_mark text;
      note_part = split.0;
      rest = split.1;
      pieces = parts_between empty_line split.1;
      quotes = trimmed-found quotation_mark text;
      split = cut_at-some empty_line (trimmed quotation_mark text) split.0 split.1 cut;
      between = parts_between-found empty_line split.1 (omega arith);
      signatures =
          read_each-found signature_of IsSignature signature-found
          (filter is_written (parts_between empty_line split.1)) a.0 a.1;
      note = note-found split.0 b.0 b.1;
    })

pub checkpoint-found : (text : List ℕ) (checkpoint : SignedCheckpoint) → checkpoint_of text ≡ Ok checkpoint
    → IsCheckpoint text checkpoint
unfolding checkpoint_of
checkpoint-found text checkpoint e = cut-found text checkpoint (cut_at empty_line (trimmed quotation_mark text)) refl e

pub checkpoint-only : (text : List ℕ) (checkpoint : SignedCheckpoint) → IsCheckpoint text checkpoint
    → checkpoint_of text ≡ Ok checkpoint
unfolding checkpoint_of signatures_by
checkpoint-only text checkpoint is =
    rw (
      trimmed-only quotation_mark text is.body is.quotes,
      cut_at-cut empty_line is.body is.note_part is.rest (omega arith) is.split,
      parts_between-only empty_line is.rest is.pieces (omega arith) is.between,
      read_each-only signature_of IsSignature signature-only
          (filter is_written is.pieces) checkpoint.signatures is.signatures,
      note-only is.note_part checkpoint.note is.note,
    ) refl
