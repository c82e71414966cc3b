-- An answer that is exact of the trees that two views show, the one without floats, is what the test of `==` says of
-- them.
use Rattle.std.proofs.Common.{◌≡◌, ◌↔◌, Bool, false, IsTrue}
use Rattle.std.proofs.lemmas.Bool.Decides.{same_from_decides}
use Rattle.serde_json.specs.Data.{Data}
use Rattle.serde_json.specs.Written.{has_float}
use Rattle.sig_json.specs.SameTreeProofs.{same_tree_exact}
use Rattle.sig_json.specs.SameTree.{same_tree}

pub answer_is_same : (answer : Bool) (one other shown beside : Data) → shown ≡ one → beside ≡ other
    → has_float shown ≡ false → IsTrue answer ↔ (shown ≡ beside) → answer ≡ same_tree one other
answer_is_same answer one other shown beside is also whole exact =
    rw (← is, ← also) (same_from_decides answer (same_tree shown beside) exact (same_tree_exact shown beside whole))
