-- The rows of a note, by the signatures of its checkpoint.
use Rattle.std.proofs.Common.{◌≡◌, ◌<◌, ℕ, List, length, get_or, ap, sym, ◌∙◌, arith}
use Rattle.std.proofs.lemmas.List.{get_or-map, length-map}
use Rattle.sig_base.specs.declared.checker.AcceptedRow.{AcceptedRow}
use Rattle.sig_rekor.specs.declared.checkpoint.CheckpointSignature.{CheckpointSignature}
use Rattle.sig_rekor.specs.declared.checkpoint.SignedCheckpoint.{SignedCheckpoint}
use Rattle.sig_program.specs.Head.{head_row}
use Rattle.sig_program.specs.HeadQuestions.{head_rows}
use Rattle.sig_request.specs.declared.head_members.ClaimedHead.{ClaimedHead}

-- there is a row for each signature
pub rows-length : (head : ClaimedHead) (checkpoint : SignedCheckpoint) (items : List CheckpointSignature)
    → items ≡ checkpoint.signatures → length (head_rows head checkpoint) ≡ length items
rows-length head checkpoint items are =
    length-map checkpoint.signatures (head_row head checkpoint) ∙ sym (ap length are)

-- the row of a signature stands at its index
pub row-at : (head : ClaimedHead) (checkpoint : SignedCheckpoint) (items : List CheckpointSignature) (i : ℕ)
    (signature : CheckpointSignature) (row : AcceptedRow)
    → items ≡ checkpoint.signatures → i < length items → signature ≡ get_or items i signature
    → row ≡ head_row head checkpoint signature
    → (i < length (head_rows head checkpoint)) × (row ≡ get_or (head_rows head checkpoint) i row)
row-at head checkpoint items i signature row are below is made =
    let in_range : i < length checkpoint.signatures = omega (arith, below, ap length are) in (
      omega (arith, below, rows-length head checkpoint items are),
      made ∙ ap (head_row head checkpoint) (is ∙ ap (λ s. get_or s i signature) are)
          ∙ sym (get_or-map (head_row head checkpoint) checkpoint.signatures i signature row in_range),
    )
