use Rattle.std.proofs.Common.{◌≡◌, ℕ, List, [], true, false, refl, rules, subst, sym}
use Rattle.sig_base.specs.Checker.{accepted}
use Rattle.sig_base.specs.declared.checker.AcceptedRow.{AcceptedRow}
use Rattle.sig_base.specs.declared.checker.Operation.TheVariants.{Certificate}
use Rattle.sig_policy.specs.Refusals.{not_found}
use Rattle.sig_verify.specs.Links.{Outside}
use Rattle.sig_verify.specs.OfflineErrors.{link_of, of_verification}
use Rattle.sig_questions.proofs.Fronts.{front_told, never_all}
use Rattle.sig_questions.specs.Front.{IsFrontTold, front_result}
use Rattle.sig_questions.specs.Matters.{table_with}
use Rattle.sig_questions.proofs.front.check_front.Goals as goal

abbrev its : List AcceptedRow → Outside
its rows = table_with rows (record { holds = λ c. true; refusal = λ c. not_found })

-- a table without a row accepts no certificate
denied : (rows : List AcceptedRow) → rows ≡ [] → (issuer algorithm tbs signature : List ℕ)
    → (its rows).checker.cert issuer algorithm tbs signature ≡ false
denied rows none issuer algorithm tbs signature =
    subst (λ (rs : List AcceptedRow). accepted rs Certificate algorithm issuer tbs signature ≡ false) (sym none) refl

pub unreachable-requires : goal.unreachable-requires
unreachable-requires c =
    never_all (its c.new-nothing.result) c.args.verifier.now c.args.digest.now c.args.bundle.now
    (denied c.new-nothing.result c.new-nothing.ensures) c.in-Ok.field-0 c.in-Ok.ensures.links

pub returns : goal.returns
returns c =
    let is : c.front_result.result ≡ front_result (link_of (of_verification c.in-Err.error)) = search rules in
    subst (IsFrontTold c.args.verifier.now c.args.digest.now c.args.bundle.now) (sym is)
    (front_told (its c.new-nothing.result) c.args.verifier.now c.args.digest.now c.args.bundle.now
    (denied c.new-nothing.result c.new-nothing.ensures) c.in-Err.error c.in-Err.ensures.links)
