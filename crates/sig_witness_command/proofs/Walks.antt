-- The updates so far, and *Witness run* of them.
use Rattle.std.proofs.Common.{◌≡◌, ◌<◌, ◌≤◌, ◌+◌, ◌∙◌, ℕ, Bool, List, [], ◌∷◌, ◌++◌, length, take, get_or, inl, inr, ap, refl, subst, sym}
use Rattle.std.proofs.lemmas.List.{take_all, take_more}
use Rattle.sig_base.specs.declared.scheme.VerifyScheme.{VerifyScheme}
use Rattle.sig_witness.specs.Updates.{IsRun, Update}
use Rattle.sig_witness_command.specs.Start.{Logs}
use Rattle.sig_witness_command.specs.Walk.{AreUpdates, IsUpdated, IsWalk}
use Rattle.sig_witness_command.specs.declared.outcome.Outcome.{Outcome}
use Rattle.sig_witness_command.specs.declared.request.UpdateText.{UpdateText}

module _ (accepts : VerifyScheme → List ℕ → List ℕ → List ℕ → Bool) where
  walk-push : (logs mid after : Logs) (texts : List UpdateText) (text : UpdateText) (outcomes : List Outcome)
      (outcome : Outcome) → IsWalk accepts logs texts outcomes mid → IsUpdated accepts mid text outcome after
      → IsWalk accepts logs (texts ++ text ∷ []) (outcomes ++ outcome ∷ []) after
  walk-push logs mid after [] text outcomes outcome (none, same) is =
      let here : IsUpdated accepts logs text outcome after =
      subst (λ (l : Logs). IsUpdated accepts l text outcome after) same is in
      (outcome, after, [], ap (λ os. os ++ outcome ∷ []) none, here, (refl, refl))
  walk-push logs mid after (one ∷ later) text outcomes outcome (first, next, others, split, step, rest) is = (
    first,
    next,
    others ++ outcome ∷ [],
    ap (λ os. os ++ outcome ∷ []) split,
    step,
    walk-push next mid after later text others outcome rest is,
  )

  pub walk-none : (logs : Logs) (texts : List UpdateText) → IsWalk accepts logs (take 0 texts) [] logs
  walk-none logs texts = (refl, refl)

  pub walk-more : (logs mid after : Logs) (texts : List UpdateText) (place : ℕ) (text : UpdateText)
      (outcomes : List Outcome) (outcome : Outcome) → place < length texts → text ≡ get_or texts place text
      → IsWalk accepts logs (take place texts) outcomes mid → IsUpdated accepts mid text outcome after
      → IsWalk accepts logs (take (place + 1) texts) (outcomes ++ outcome ∷ []) after
  walk-more logs mid after texts place text outcomes outcome below is so_far step =
      let more : take (place + 1) texts ≡ take place texts ++ text ∷ [] =
      take_more texts place text below ∙ ap (λ t. take place texts ++ t ∷ []) (sym is) in
      rw more (walk-push logs mid after (take place texts) text outcomes outcome so_far step)

  pub walk-done : (logs after : Logs) (texts : List UpdateText) (place : ℕ) (outcomes : List Outcome)
      → length texts ≤ place → IsWalk accepts logs (take place texts) outcomes after
      → IsWalk accepts logs texts outcomes after
  walk-done logs after texts place outcomes all so_far = rw (take_all place texts all) at so_far

  -- the logs after the walk are those after *Witness run*
  pub walk-run : (logs after : Logs) (texts : List UpdateText) (outcomes : List Outcome)
      → IsWalk accepts logs texts outcomes after
      → (updates : List Update) × AreUpdates texts updates × IsRun accepts logs updates after
  walk-run logs after [] outcomes (none, same) = ([], refl, same)
  walk-run logs after (text ∷ later) outcomes (outcome, next, others, split, (is, inl (unread, same)), rest) =
      let (updates, are, run) = walk-run next after later others rest in
      (updates, inl (unread, are), subst (λ (l : Logs). IsRun accepts l updates after) same run)
  walk-run logs after (text ∷ later) outcomes (outcome, next, others, split, (is, inr (update, read, step)), rest) =
      let (updates, are, run) = walk-run next after later others rest in
      (update ∷ updates, inr (update, read, (updates, refl, are)), (next, step, run))

  pub ruleset walking = (walk-none, walk-more, walk-done)
