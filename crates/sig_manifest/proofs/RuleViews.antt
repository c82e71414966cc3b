-- Rules beside their formulas, level by level.
use Rattle.std.proofs.Common.{◌≡◌, ℕ, List, Vec, Global, rules}
use Rattle.sig_manifest.specs.Formula.{at_least, with_origin, with_size, all_of, any_of, not_so, formulas_of}
use Rattle.sig_manifest.specs.Formula.{rule_view, rules_view}
use Rattle.sig_manifest.specs.declared.rule.Rule.{Rule, Least, Origin, Size, All, Any, the_lemmas}

pub view-Least : (n : ℕ) → rule_view (Least n) ≡ at_least n
view-Least n = search (rules, the_lemmas)

pub view-Origin : (text : List ℕ) → rule_view (Origin text) ≡ with_origin text
view-Origin text = search (rules, the_lemmas)

pub view-Size : (n : ℕ) → rule_view (Size n) ≡ with_size n
view-Size n = search (rules, the_lemmas)

pub view-All : (inner : Vec Rule Global) → rule_view (All inner) ≡ all_of (formulas_of (rules_view inner))
view-All inner = search (rules, the_lemmas)

pub view-Any : (inner : Vec Rule Global) → rule_view (Any inner) ≡ any_of (formulas_of (rules_view inner))
view-Any inner = search (rules, the_lemmas)

pub ruleset views = (view-Least, view-Origin, view-Size, view-All, view-Any, the_lemmas)
