-- The fault of a checkpoint: its cut, its signatures from the left, its note.
use Rattle.std.proofs.Common.{◌≡◌, ℕ, List, [], ◌∷◌, Option, Some, None, Result, Ok, Err, refl, sym, ◌∙◌, ap, inl, inr}
use Rattle.std.proofs.Common.{arith, ◌↔◌, filter, ◌⊎◌}
use Rattle.std.specs.List.{AllByRecursion}
use Rattle.sig_base.specs.declared.fault.CheckpointFault.{CheckpointFault}
use Rattle.sig_rekor.specs.declared.checkpoint.Checkpoint.{Checkpoint}
use Rattle.sig_rekor.specs.declared.checkpoint.CheckpointSignature.{CheckpointSignature}
use Rattle.sig_rekor.specs.TextCuts.{cut_at, parts_between, trimmed}
use Rattle.sig_rekor.specs.Reading.{read_each}
use Rattle.sig_rekor.specs.NoteText.{note_of}
use Rattle.sig_rekor.specs.SignatureText.{signature_of}
use Rattle.sig_rekor.specs.CheckpointText.{quotation_mark, empty_line, is_written, signatures_by, checkpoint_of}
use Rattle.sig_rekor.specs.Faults.{IsPieceFault, StandsForSignature, HasPieces, IsNoteFault, IsCheckpointFault}
use Rattle.sig_rekor.proofs.CutLaws.{cut_at-some, cut_at-none, cut_at-cut, cut_at-lacks, parts_between-found}
use Rattle.sig_rekor.proofs.CutLaws.{parts_between-only}
use Rattle.sig_rekor.proofs.CutLaws.{trimmed-found, trimmed-only}
use Rattle.sig_rekor.proofs.NoteFaults.{note-fails, note-only_fails}
use Rattle.sig_rekor.proofs.SignatureLaws.{signature-found, signature-only}
use Rattle.sig_rekor.proofs.SignatureFaults.{signature-fails, signature-only_fails}

-- the signatures, from the left
pieces-fail : (pieces : List (List ℕ)) (fault : CheckpointFault) → read_each signature_of pieces ≡ Err fault
    → IsPieceFault pieces fault
pieces-fail [] fault e = cc
pieces-fail (piece ∷ pieces) fault e = first (signature_of piece) refl (pieces-fail pieces fault) where
  first : (r : Result CheckpointSignature CheckpointFault) → signature_of piece ≡ r
      → (read_each signature_of pieces ≡ Err fault → IsPieceFault pieces fault) → IsPieceFault (piece ∷ pieces) fault
  first (Err other) is deeper =
      let f = rw is at e in
      let same : other ≡ fault = cc in
      inl (signature-fails piece fault (is ∙ ap Err same))
  first (Ok s) is deeper = inr ((s, signature-found piece s is), others (read_each signature_of pieces) refl) where
    others : (r : Result (List CheckpointSignature) CheckpointFault) → read_each signature_of pieces ≡ r
        → IsPieceFault pieces fault
    others (Ok ss) these = let f = rw (is, these) at e in cc
    others (Err other) these =
        let f = rw (is, these) at e in
        let same : other ≡ fault = cc in
        deeper (these ∙ ap Err same)

pieces-only_fail : (pieces : List (List ℕ)) (fault : CheckpointFault) → IsPieceFault pieces fault
    → read_each signature_of pieces ≡ Err fault
pieces-only_fail [] fault fails = absurd fails
pieces-only_fail (piece ∷ pieces) fault (inl here) = rw (signature-only_fails piece fault here) refl
pieces-only_fail (piece ∷ pieces) fault (inr later) =
    rw (signature-only piece later.0.0 later.0.1, pieces-only_fail pieces fault later.1) refl

pieces-stand : (pieces : List (List ℕ)) (ss : List CheckpointSignature) → read_each signature_of pieces ≡ Ok ss
    → AllByRecursion StandsForSignature pieces
pieces-stand [] ss e = tt
pieces-stand (piece ∷ pieces) ss e = first (signature_of piece) refl (pieces-stand pieces) where
  first : (r : Result CheckpointSignature CheckpointFault) → signature_of piece ≡ r
      → ((zs : List CheckpointSignature) → read_each signature_of pieces ≡ Ok zs
      → AllByRecursion StandsForSignature pieces)
      → AllByRecursion StandsForSignature (piece ∷ pieces)
  first (Err other) is deeper = let f = rw is at e in cc
  first (Ok s) is deeper = ((s, signature-found piece s is), others (read_each signature_of pieces) refl) where
    others : (r : Result (List CheckpointSignature) CheckpointFault) → read_each signature_of pieces ≡ r
        → AllByRecursion StandsForSignature pieces
    others (Ok zs) these = deeper zs these
    others (Err other) these = let f = rw (is, these) at e in cc

pieces-read : (pieces : List (List ℕ)) → AllByRecursion StandsForSignature pieces
    → (ss : List CheckpointSignature) × (read_each signature_of pieces ≡ Ok ss)
pieces-read [] all = ([], refl)
pieces-read (piece ∷ pieces) all =
    let others = pieces-read pieces all.1 in
    (all.0.0 ∷ others.0, rw (signature-only piece all.0.0 all.0.1, others.1) refl)

-- the whole
pub checkpoint-fails : (text : List ℕ) (fault : CheckpointFault) → checkpoint_of text ≡ Err fault
    → IsCheckpointFault text fault
unfolding checkpoint_of signatures_by
checkpoint-fails text fault e = by_cut (cut_at empty_line (trimmed quotation_mark text)) refl where
  by_cut : (o : Option (List ℕ × List ℕ)) → cut_at empty_line (trimmed quotation_mark text) ≡ o
      → IsCheckpointFault text fault
  by_cut None is =
      let f = rw is at e in
      inl (
        (
          trimmed quotation_mark text,
          trimmed-found quotation_mark text,
          cut_at-none empty_line
              (trimmed quotation_mark text) (omega arith) is,
        ),
        cc,
      )
  by_cut (Some cut) is = inr (cut.0, written, has, read (read_each signature_of written) refl) where
    written : List (List ℕ)
    written = filter is_written (parts_between empty_line cut.1)

    has : HasPieces text cut.0 written
    has = record {
      body = trimmed quotation_mark text;
      rest = cut.1;
      pieces = parts_between empty_line cut.1;
      quotes = trimmed-found quotation_mark text;
      split = cut_at-some empty_line (trimmed quotation_mark text) cut.0 cut.1 is;
      between = parts_between-found empty_line cut.1 (omega arith);
      kept = refl;
    }

    read : (r : Result (List CheckpointSignature) CheckpointFault) → read_each signature_of written ≡ r
        → IsPieceFault written fault ⊎ (AllByRecursion StandsForSignature written × IsNoteFault cut.0 fault)
    read (Err other) these =
        let f = rw (is, these) at e in
        let same : other ≡ fault = cc in
        inl (pieces-fail written fault (these ∙ ap Err same))
    read (Ok ss) these = inr (pieces-stand written ss these, noted (note_of cut.0) refl) where
      noted : (r : Result Checkpoint CheckpointFault) → note_of cut.0 ≡ r → IsNoteFault cut.0 fault
      noted (Ok note) that = let f = rw (is, these, that) at e in cc
      noted (Err other) that =
          let f = rw (is, these, that) at e in
          let same : other ≡ fault = cc in
          note-fails cut.0 fault (that ∙ ap Err same)

pub checkpoint-only_fails : (text : List ℕ) (fault : CheckpointFault) → IsCheckpointFault text fault
    → checkpoint_of text ≡ Err fault
unfolding checkpoint_of signatures_by
checkpoint-only_fails text fault (inl (lacks, is)) =
    rw (trimmed-only quotation_mark text lacks.0 lacks.1, cut_at-lacks empty_line lacks.0 lacks.2) (ap Err (sym is))
checkpoint-only_fails text fault (inr (note_part, written, has, inl pieces)) =
    rw (
      trimmed-only quotation_mark text has.body has.quotes,
      cut_at-cut empty_line has.body note_part has.rest (omega arith) has.split,
      parts_between-only empty_line has.rest has.pieces (omega arith) has.between,
      ← has.kept,
      pieces-only_fail written fault pieces,
    ) refl
checkpoint-only_fails text fault (inr (note_part, written, has, inr (all, noted))) =
    let read = pieces-read written all in
    rw (
      trimmed-only quotation_mark text has.body has.quotes,
      cut_at-cut empty_line has.body note_part has.rest (omega arith) has.split,
      parts_between-only empty_line has.rest has.pieces (omega arith) has.between,
      ← has.kept,
      read.1,
      note-only_fails note_part fault noted,
    ) refl

pub checkpoint-faults : (text : List ℕ) (fault : CheckpointFault)
    → (checkpoint_of text ≡ Err fault) ↔ IsCheckpointFault text fault
checkpoint-faults text fault = (checkpoint-fails text fault, checkpoint-only_fails text fault)
