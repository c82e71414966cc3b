-- The updates so far, and what is shown of them.
use Rattle.std.proofs.Common.{◌≡◌, ◌<◌, ◌≤◌, ◌+◌, ◌∙◌, ℕ, List, [], ◌∷◌, ◌++◌, length, take, get_or, ap, refl, subst, sym}
use Rattle.std.proofs.lemmas.List.{take_all, take_more}
use Rattle.sig_base.specs.declared.checker.AcceptedRow.{AcceptedRow}
use Rattle.sig_json.proofs.WrittenLists.{list_tree-append}
use Rattle.sig_json.specs.Writing.{list_tree}
use Rattle.sig_explain_witness.specs.Walk.{IsShownList, IsShownUpdate, IsShownWalk, Standing}
use Rattle.sig_json.specs.Builders.{with_last}
use Rattle.sig_json.specs.Data.{Data}
use Rattle.sig_witness_command.specs.declared.request.UpdateText.{UpdateText}

module _ (rows : List AcceptedRow) where
  walk-push : (standing mid after : Standing) (texts : List UpdateText) (text : UpdateText) (trees : List Data)
      (tree : Data) → IsShownWalk rows standing texts trees mid → IsShownUpdate rows mid text tree after
      → IsShownWalk rows standing (texts ++ text ∷ []) (trees ++ tree ∷ []) after
  walk-push standing mid after [] text trees tree (none, same) is =
      let here : IsShownUpdate rows standing text tree after =
      subst (λ (s : Standing). IsShownUpdate rows s text tree after) same is in
      (tree, after, [], ap (λ ts. ts ++ tree ∷ []) none, here, (refl, refl))
  walk-push standing mid after (one ∷ later) text trees tree (first, next, others, split, step, rest) is = (
    first,
    next,
    others ++ tree ∷ [],
    ap (λ ts. ts ++ tree ∷ []) split,
    step,
    walk-push next mid after later text others tree rest is,
  )

  pub list-none : (standing : Standing) (texts : List UpdateText) (list : Data) → list ≡ list_tree (λ tree. tree) []
      → IsShownList rows standing (take 0 texts) list standing
  list-none standing texts list none = ([], (refl, refl), none)

  pub list-more : (standing mid after : Standing) (texts : List UpdateText) (place : ℕ) (text : UpdateText)
      (before tree list : Data) → place < length texts → text ≡ get_or texts place text
      → IsShownList rows standing (take place texts) before mid → IsShownUpdate rows mid text tree after
      → list ≡ with_last tree before → IsShownList rows standing (take (place + 1) texts) list after
  list-more standing mid after texts place text before tree list below is (trees, so_far, listed) step pushed =
      let more : take (place + 1) texts ≡ take place texts ++ text ∷ [] =
      take_more texts place text below ∙ ap (λ t. take place texts ++ t ∷ []) (sym is) in (
        trees ++ tree ∷ [],
        rw more (walk-push standing mid after (take place texts) text trees tree so_far step),
        pushed ∙ ap (λ d. with_last tree d) listed ∙ list_tree-append (λ (t : Data). t) trees tree,
      )

  pub list-done : (standing after : Standing) (texts : List UpdateText) (place : ℕ) (list : Data)
      → length texts ≤ place → IsShownList rows standing (take place texts) list after
      → IsShownList rows standing texts list after
  list-done standing after texts place list all so_far = rw (take_all place texts all) at so_far

  pub ruleset walking = (list-none, list-done)
