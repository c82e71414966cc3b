use Rattle.std.proofs.Common.{◌≡◌, Err, rules, sym}
use Rattle.sig_checked_bundle.proofs.CheckedLaws.{all_checked, content_failed, entry_failed, no_memory}
use Rattle.sig_checked_bundle.proofs.CheckedLaws.{profile_failed}
use Rattle.sig_checked_bundle.specs.SeenValues.{seen_content}
use Rattle.sig_checked_bundle.specs.declared.bundle_error.BundleErrorKind.TheVariants.{OutOfMemory}
use Rattle.sig_checked_bundle.proofs.checked_bundle.check_bundle.Goals as goal

pub returns-in_err-content : goal.returns-in_err-content
returns-in_err-content c =
    let is : c.from_residual-in_err-content.result ≡ Err c.in_err-content.field-0.0 =
    search (rules, c.from_residual-in_err-content) in
    rw is (content_failed c.args.input.now c.in-Some.material c.in-Some.is c.in_ok-chain.chain c.in_ok-chain.ensures
    c.in_err-content.field-0.0 c.in_err-content.ensures)

pub returns-in_err-entry : goal.returns-in_err-entry
returns-in_err-entry c =
    let is : c.from_residual-in_err-entry.result ≡ Err c.in_err-entry.field-0.0 =
    search (rules, c.from_residual-in_err-entry) in
    rw is (entry_failed c.args.input.now c.in-Some.material c.in-Some.is c.in_ok-chain.chain c.in_ok-chain.ensures
    (seen_content c.in_ok-content.content) c.in_ok-content.ensures c.in_err-entry.field-0.0
    (sym c.in_err-entry.ensures))

pub returns-in_err-check_profile : goal.returns-in_err-check_profile
returns-in_err-check_profile c =
    let is : c.from_residual-in_err-check_profile.result ≡ Err c.in_err-check_profile.field-0.0 =
    search (rules, c.from_residual-in_err-check_profile) in
    rw is (profile_failed c.args.input.now c.in-Some.material c.in-Some.is c.in_ok-chain.chain c.in_ok-chain.ensures
    (seen_content c.in_ok-content.content) c.in_ok-content.ensures c.in_ok-entry.entry.now (sym c.in_ok-entry.ensures)
    c.in_err-check_profile.field-0.0 c.in_err-check_profile.ensures)

pub returns-in_err-entry-2 : goal.returns-in_err-entry-2
returns-in_err-entry-2 c =
    let is : c.from_residual-in_err-entry-2.result ≡ Err OutOfMemory =
    search (rules, c.from_residual-in_err-entry-2) in
    rw is (no_memory c.args.input.now c.in-Some.material c.in-Some.is c.in_ok-chain.chain c.in_ok-chain.ensures
    (seen_content c.in_ok-content.content) c.in_ok-content.ensures c.in_ok-entry.entry.now (sym c.in_ok-entry.ensures))

pub returns : goal.returns
returns c =
    all_checked c.args.input.now c.in-Some.material c.in-Some.is c.in_ok-chain.chain c.in_ok-chain.ensures
    (seen_content c.in_ok-content.content) c.in_ok-content.ensures c.in_ok-entry.entry.now (sym c.in_ok-entry.ensures)
    c.in_ok-check_profile.ensures c.in_ok-entry-2.entry c.in_ok-entry-2.ensures
