use Rattle.std.proofs.Common.{◌≡◌, drop}
use Rattle.sig_gate.specs.VerifiedBundles.{each_holds, one_holds}
use Rattle.sig_manifest.specs.Formula.{formulas_of, rules_of, rules_view}
use Rattle.sig_gate.proofs.holding.+holding.Given as goal

-- the rules that are left decide
abbrev pub invariant-each_holds-rules : goal.invariant-each_holds-rules
invariant-each_holds-rules l =
    each_holds l.shown.bundles.now l.shown.different l.shown.largest (formulas_of (rules_view l.rules))
    ≡ each_holds l.shown.bundles.now l.shown.different l.shown.largest (formulas_of (rules_of (drop l.rule-index l.list)))

abbrev pub invariant-one_holds-rules : goal.invariant-one_holds-rules
invariant-one_holds-rules l =
    one_holds l.shown.bundles.now l.shown.different l.shown.largest (formulas_of (rules_view l.rules))
    ≡ one_holds l.shown.bundles.now l.shown.different l.shown.largest (formulas_of (rules_of (drop l.rule-index l.list)))
