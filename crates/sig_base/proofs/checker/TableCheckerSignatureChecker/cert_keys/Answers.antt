-- The keys of the rows of the signature are those under which the table accepts it.
use Rattle.std.proofs.Common.{[], ◌∙◌, sym, subst, List, ℕ}
use Rattle.sig_base.specs.Checker.{AreKeysOf, accepted}
use Rattle.sig_base.specs.RowOrder.{IsOrderOf}
use Rattle.sig_base.specs.declared.checker.AcceptedRow.{AcceptedRow}
use Rattle.sig_base.specs.declared.checker.Operation.TheVariants.{Certificate}
use Rattle.sig_base.proofs.CertKeys.{keys_of_group}
use Rattle.sig_base.proofs.checker.TableCheckerSignatureChecker.cert_keys.Goals as goal

pub returns : goal.returns
returns c =
    let rows : List AcceptedRow = c.as_slice-rows.result.now in
    let order : IsOrderOf rows c.as_slice.result.now =
    subst (λ (indices : List ℕ). IsOrderOf rows indices) (sym c.as_slice.ensures.value)
    (subst (λ (all : List AcceptedRow). IsOrderOf all c.self.inside.order.items) (sym c.as_slice-rows.ensures)
    c.self.invariant.0) in
    let keys = keys_of_group rows c.as_slice.result.now c.group_of.result.now c.args.algorithm.now c.args.tbs.now
    c.args.signature.now [] order c.group_of.ensures in
    subst (λ (all : List AcceptedRow). AreKeysOf (λ spki. accepted all Certificate c.args.algorithm.now spki
    c.args.tbs.now c.args.signature.now) c.new.result) (c.as_slice-rows.ensures ∙ c.self.view_is)
    (subst (AreKeysOf (λ spki. accepted rows Certificate c.args.algorithm.now spki c.args.tbs.now c.args.signature.now))
    (sym c.new.ensures) keys)
