-- A rule as contracts see it: what the bundles of an artifact that verify have to show.
use Rattle.std.specs.Prelude.{ℕ, ◌+◌, List, [], ◌∷◌, map, Vec}
use Rattle.std.specs.declared.alloc.Global.{Global}
use Rattle.sig_manifest.specs.declared.rule.Rule.{Rule, fold-Rule}
use Rattle.sig_manifest.specs.declared.rule.Rule.TheOpen.{Rule-F}

mutual
  pub data Formula : Type 0 where
    -- at least this many different log bodies
    at_least : ℕ → Formula
    -- a checkpoint of a log of this origin
    with_origin : List ℕ → Formula
    -- a tree of at least this size
    with_size : ℕ → Formula
    all_of : Formulas → Formula
    any_of : Formulas → Formula
    not_so : Formula → Formula

  pub data Formulas : Type 0 where
    no_formula : Formulas
    formula : Formula → Formulas → Formulas

abbrev pub formulas_of : List Formula → Formulas
formulas_of [] = no_formula
formulas_of (f ∷ fs) = formula f (formulas_of fs)

abbrev pub formulas_list : Formulas → List Formula
formulas_list no_formula = []
formulas_list (formula f fs) = f ∷ formulas_list fs

-- a formula and those in it
abbrev mutual
  pub nodes : Formula → ℕ
  nodes (at_least n) = 1
  nodes (with_origin text) = 1
  nodes (with_size n) = 1
  nodes (all_of fs) = 1 + nodes_of_all fs
  nodes (any_of fs) = 1 + nodes_of_all fs
  nodes (not_so f) = 1 + nodes f

  pub nodes_of_all : Formulas → ℕ
  nodes_of_all no_formula = 0
  nodes_of_all (formula f fs) = nodes f + nodes_of_all fs

-- one level of a rule, where the rules in it are seen already
abbrev pub level : Rule-F Formula → Formula
level (Rule-F.Least n) = at_least n
level (Rule-F.Origin text) = with_origin text
level (Rule-F.Size n) = with_size n
level (Rule-F.All rules) = all_of (formulas_of rules.items)
level (Rule-F.Any rules) = any_of (formulas_of rules.items)
level (Rule-F.Not rule) = not_so rule.value

abbrev pub rule_view : Rule → Formula
rule_view = fold-Rule Formula level

abbrev pub rules_of : List Rule → List Formula
rules_of rules = map rule_view rules

abbrev pub rules_view : Vec Rule Global → List Formula
rules_view rules = rules_of rules.items
