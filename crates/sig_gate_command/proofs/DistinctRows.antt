-- Rows, each once: which they are.
use Rattle.std.proofs.Common.{◌≡◌, ◌∙◌, ◌↔◌, List, [], ◌∷◌, ◌++◌, inl, inr}
use Rattle.std.specs.Prelude.{Contains}
use Rattle.sig_base.specs.declared.checker.AcceptedRow.{AcceptedRow}
use Rattle.sig_gate_command.specs.Questions.{each_once}
use Rattle.sig_questions.proofs.RowLaws.{empty_has}
use Rattle.sig_witness_command.proofs.DistinctRows.{absent-after, once-different, once-has, once-only, once-parts, there-same}
use Rattle.sig_witness_command.specs.Suffice.{AreDifferent}

-- each of them is there, and no other
pub once-same : (rows : List AcceptedRow) (row : AcceptedRow) → Contains (each_once rows) row ↔ Contains rows row
once-same rows row = (
  λ there. elim (once-only [] rows row there) [
    | inl none ↦ absurd (empty_has row none)
    | inr is ↦ is
  ],
  once-has [] rows row,
)

-- none is there twice
pub all-different : (rows : List AcceptedRow) → AreDifferent (each_once rows)
all-different rows = once-different [] rows tt

-- one more that is there, and one that is not
pub once-again : (rows : List AcceptedRow) (row : AcceptedRow) → Contains rows row
    → each_once (rows ++ row ∷ []) ≡ each_once rows
once-again rows row there =
    once-parts [] rows (row ∷ []) ∙ there-same (each_once rows) row ((once-same rows row).1 there)

pub once-new : (rows : List AcceptedRow) (row : AcceptedRow) → ¬ Contains rows row
    → each_once (rows ++ row ∷ []) ≡ each_once rows ++ row ∷ []
once-new rows row absent =
    once-parts [] rows (row ∷ [])
    ∙ absent-after (each_once rows) row (λ there. absent ((once-same rows row).0 there))
