-- A request of `witness` has one tree: of why it starts from no logs, or of its updates in turn.
use Rattle.std.proofs.Common.{◌≡◌, ◌∙◌, ℕ, List, [], ◌∷◌, Result, inl, inr, ap, subst, sym}
use Rattle.sig_base.proofs.ResultSteps.{ok_is}
use Rattle.sig_base.specs.declared.checker.AcceptedRow.{AcceptedRow}
use Rattle.sig_json.specs.Writing.{list_tree}
use Rattle.sig_explain_witness.proofs.OneAnswer.{one_answer, one_step}
use Rattle.sig_explain_witness.proofs.OneStart.{no_reason, one_reason}
use Rattle.sig_explain_witness.specs.WitnessExplanation.{IsRequestTree, IsUpdatesTree, updates_tree}
use Rattle.sig_explain_witness.specs.UpdateTrees.{left_by, most_unsigned, update_tree}
use Rattle.sig_explain_witness.specs.Start.{no_start_tree}
use Rattle.sig_explain_witness.specs.Walk.{IsReadUpdate, IsShownUpdate, IsShownWalk, Standing}
use Rattle.sig_explain_witness.specs.declared.start.NoStart.{NoStart}
use Rattle.sig_json.specs.Data.{Data}
use Rattle.sig_rekor.proofs.CheckpointLaws.{checkpoint-only}
use Rattle.sig_rekor.specs.declared.checkpoint.SignedCheckpoint.{SignedCheckpoint}
use Rattle.sig_witness.specs.Updates.{Update, update_of}
use Rattle.sig_witness.specs.declared.error.WitnessError.{WitnessError}
use Rattle.sig_witness_command.proofs.Starts.{one_start}
use Rattle.sig_witness_command.specs.Outcome.{IsUpdate}
use Rattle.sig_witness_command.specs.Start.{Logs}
use Rattle.sig_witness_command.specs.Walk.{takes}
use Rattle.sig_witness_command.specs.declared.request.UpdateText.{UpdateText}
use Rattle.sig_witness_command.specs.declared.request.WitnessRequest.{WitnessRequest}

-- a text is one update
one_update : (text : UpdateText) (a b : Update) → IsUpdate text a → IsUpdate text b → a ≡ b
one_update text a b is was =
    let same : a.checkpoint ≡ b.checkpoint =
    ok_is a.checkpoint b.checkpoint (sym (checkpoint-only text.checkpoint a.checkpoint is.read)
    ∙ checkpoint-only text.checkpoint b.checkpoint was.read) in
    ap (λ (c : SignedCheckpoint). update_of c a.old_size a.hashes) same
    ∙ ap (λ (n : ℕ). update_of b.checkpoint n a.hashes) (is.old_size ∙ sym was.old_size)
    ∙ ap (λ (hs : List (List ℕ)). update_of b.checkpoint b.old_size hs) (is.hashes ∙ sym was.hashes)

-- two things of one update
pub record AreSame (a b : Data) (x y : Standing) : Type 0 where
  pub tree : a ≡ b
  pub standing : x ≡ y

module _ (rows : List AcceptedRow) where
  one_read : (standing : Standing) (text : UpdateText) (update : Update) (a b : Data) (x y : Standing)
      → IsReadUpdate rows standing text update a x → IsReadUpdate rows standing text update b y → AreSame a b x y
  one_read standing text update a b x y is was =
      let answer = one_answer (takes rows) standing.0 update is.answer was.answer is.is was.is in
      let logs = one_step (takes rows) standing.0 update x.0 y.0 is.step was.step in
      let left : x.1 ≡ y.1 =
      is.left ∙ ap (λ (r : Result (Unit {0}) WitnessError). left_by r standing.1) answer ∙ sym was.left in
      record {
        tree =
            is.shown
            ∙ ap (λ (r : Result (Unit {0}) WitnessError).
            update_tree rows standing.0 standing.1 text update.checkpoint r) answer
            ∙ sym was.shown;
        standing = ap (λ (l : Logs). (l, x.1)) logs ∙ ap (λ (n : ℕ). (y.0, n)) left;
      }

  one_shown : (standing : Standing) (text : UpdateText) (a b : Data) (x y : Standing)
      → IsShownUpdate rows standing text a x → IsShownUpdate rows standing text b y → AreSame a b x y
  one_shown standing text a b x y (inl (none, shown, stays)) (inl (never, told, stayed)) =
      record { tree = shown ∙ sym told; standing = stays ∙ sym stayed }
  one_shown standing text a b x y (inl (none, shown, stays)) (inr (update, is, read)) =
      absurd (none (update.checkpoint, is.read))
  one_shown standing text a b x y (inr (update, is, read)) (inl (none, shown, stays)) =
      absurd (none (update.checkpoint, is.read))
  one_shown standing text a b x y (inr (update, is, read)) (inr (other, was, told)) =
      one_read standing text other a b x y
      (subst (λ (u : Update). IsReadUpdate rows standing text u a x) (one_update text update other is was) read) told

  one_walk : (standing : Standing) (texts : List UpdateText) (xs ys : List Data) (after last : Standing)
      → IsShownWalk rows standing texts xs after → IsShownWalk rows standing texts ys last → xs ≡ ys
  one_walk standing [] xs ys after last (none, stays) (too, stayed) = none ∙ sym too
  one_walk standing (text ∷ later) xs ys after last (a, next, others, split, step, rest)
      (b, second, more, cut, stepped, walked) =
      let same = one_shown standing text a b next second step stepped in
      let moved = subst (λ (s : Standing). IsShownWalk rows s later others after) same.standing rest in
      split
      ∙ ap (λ (d : Data). d ∷ others) same.tree
      ∙ ap (λ (ds : List Data). b ∷ ds) (one_walk second later others more after last moved walked)
      ∙ sym cut

module _ (request : WitnessRequest) where
  of_start : (start : Logs) (a b : Data) → IsUpdatesTree request start a → IsUpdatesTree request start b → a ≡ b
  of_start start a b is was =
      is.made
      ∙ ap (λ (ds : List Data). updates_tree request.updates (list_tree (λ shown. shown) ds))
      (one_walk request.accepted (start, most_unsigned) request.updates is.trees was.trees is.after was.after is.walk
      was.walk)
      ∙ sym was.made

  pub one_tree : (a b : Data) → IsRequestTree request a → IsRequestTree request b → a ≡ b
  one_tree a b (inl (why, is, made)) (inl (other, was, said)) =
      made ∙ ap (λ (reason : NoStart). no_start_tree reason) (one_reason request why other is was) ∙ sym said
  one_tree a b (inl (why, is, made)) (inr (start, starts, shown)) = absurd (no_reason request start why starts is)
  one_tree a b (inr (start, starts, shown)) (inl (why, is, made)) = absurd (no_reason request start why starts is)
  one_tree a b (inr (start, starts, shown)) (inr (other, begins, told)) =
      of_start other a b
      (subst (λ (l : Logs). IsUpdatesTree request l a) (one_start request start other starts begins) shown) told
