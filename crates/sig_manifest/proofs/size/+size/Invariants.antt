use Rattle.std.proofs.Common.{◌≡◌, ◌≤◌, drop}
use Rattle.sig_manifest.specs.Formula.{formulas_of, nodes_of_all, rules_of, rules_view}
use Rattle.sig_manifest.specs.Size.{left_of}
use Rattle.sig_manifest.proofs.size.+size.Given as goal

-- what is left after the rules so far decides
abbrev pub invariant-left_after-rules : goal.invariant-left_after-rules
invariant-left_after-rules l =
    left_of l.fn.most (nodes_of_all (formulas_of (rules_view l.rules)))
    ≡ left_of l.rest (nodes_of_all (formulas_of (rules_of (drop l.rule-index l.list))))
