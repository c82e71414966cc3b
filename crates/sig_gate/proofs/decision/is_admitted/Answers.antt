-- No bundle is verified; or at least one is, and the rule decides.
use Rattle.std.proofs.Common.{◌≡◌, true, false, sym, ◌∙◌}
use Rattle.std.specs.List.{list_any}
use Rattle.sig_gate.proofs.Meanings.{none-admitted, some-admitted}
use Rattle.sig_gate.specs.Report.{is_verified}
use Rattle.sig_manifest.specs.Formula.{rule_view}
use Rattle.sig_gate.proofs.decision.is_admitted.Goals as goal

pub returns-then-not-has_verified : goal.returns-then-not-has_verified
returns-then-not-has_verified c =
    let none : list_any is_verified c.args.bundles.now ≡ false =
    sym c.has_verified.ensures ∙ c.if-not-has_verified.true in
    none-admitted (rule_view c.args.rule.now) c.args.bundles.now none

pub returns : goal.returns
returns c =
    let some : list_any is_verified c.args.bundles.now ≡ true =
    sym c.has_verified.ensures ∙ c.if-not-has_verified.false in
    some-admitted (rule_view c.args.rule.now) c.args.bundles.now c.in_ok-different.different
    c.largest_size-largest.result c.holds.result some c.in_ok-different.ensures c.largest_size-largest.ensures
    c.holds.ensures
