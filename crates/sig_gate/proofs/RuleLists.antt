-- Rules of a list that are asked one after another.
use Rattle.std.proofs.Common.{◌≡◌, ℕ, ◌+◌, ◌<◌, List, length, drop, get_or, Bool, true, false, refl, sym, ap, ◌∙◌}
use Rattle.std.proofs.Math.Seq.{drop-length}
use Rattle.std.proofs.lemmas.List.{at_drop_more}
use Rattle.sig_gate.specs.VerifiedBundles.{each_holds, holds, one_holds}
use Rattle.sig_gate.specs.declared.verdict.BundleVerdict.{BundleVerdict}
use Rattle.sig_manifest.specs.Formula.{formula, formulas_of, no_formula, rule_view, rules_of}
use Rattle.sig_manifest.specs.declared.rule.Rule.{Rule}

-- the rule at an index, and those after it
next_rule : (rules : List Rule) (i : ℕ) (rule : Rule) → i < length rules → rule ≡ get_or rules i rule
    → formulas_of (rules_of (drop i rules)) ≡ formula (rule_view rule) (formulas_of (rules_of (drop (i + 1) rules)))
next_rule rules i rule below is =
    at_drop_more (λ l. formulas_of (rules_of l)) rules i rule below
    ∙ ap (λ r. formula (rule_view r) (formulas_of (rules_of (drop (i + 1) rules)))) (sym is)

none_left : (rules : List Rule) (i : ℕ) → i ≡ length rules → formulas_of (rules_of (drop i rules)) ≡ no_formula
none_left rules i end = rw (end, drop-length rules) refl

module _ (all : Bool) (bundles : List BundleVerdict) (different largest : ℕ) (rules : List Rule) (i : ℕ) where
  pub each-more : (rule : Rule) → i < length rules → rule ≡ get_or rules i rule
      → holds bundles different largest (rule_view rule) ≡ true
      → all ≡ each_holds bundles different largest (formulas_of (rules_of (drop i rules)))
      → all ≡ each_holds bundles different largest (formulas_of (rules_of (drop (i + 1) rules)))
  each-more rule below is here so_far = so_far ∙ rw (next_rule rules i rule below is, here) refl

  pub each-stop : (rule : Rule) → i < length rules → rule ≡ get_or rules i rule
      → holds bundles different largest (rule_view rule) ≡ false
      → all ≡ each_holds bundles different largest (formulas_of (rules_of (drop i rules))) → all ≡ false
  each-stop rule below is here so_far = so_far ∙ rw (next_rule rules i rule below is, here) refl

  pub each-end : i ≡ length rules → all ≡ each_holds bundles different largest (formulas_of (rules_of (drop i rules)))
      → all ≡ true
  each-end end so_far = so_far ∙ rw (none_left rules i end) refl

  pub one-more : (rule : Rule) → i < length rules → rule ≡ get_or rules i rule
      → holds bundles different largest (rule_view rule) ≡ false
      → all ≡ one_holds bundles different largest (formulas_of (rules_of (drop i rules)))
      → all ≡ one_holds bundles different largest (formulas_of (rules_of (drop (i + 1) rules)))
  one-more rule below is here so_far = so_far ∙ rw (next_rule rules i rule below is, here) refl

  pub one-stop : (rule : Rule) → i < length rules → rule ≡ get_or rules i rule
      → holds bundles different largest (rule_view rule) ≡ true
      → all ≡ one_holds bundles different largest (formulas_of (rules_of (drop i rules))) → all ≡ true
  one-stop rule below is here so_far = so_far ∙ rw (next_rule rules i rule below is, here) refl

  pub one-end : i ≡ length rules → all ≡ one_holds bundles different largest (formulas_of (rules_of (drop i rules)))
      → all ≡ false
  one-end end so_far = so_far ∙ rw (none_left rules i end) refl

pub ruleset rule_lists = (each-more, each-stop, each-end, one-more, one-stop, one-end)
