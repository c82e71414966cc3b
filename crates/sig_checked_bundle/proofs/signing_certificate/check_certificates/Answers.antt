use Rattle.std.proofs.Common.{◌≡◌, Err, Ok, rules, true, false}
use Rattle.std.specs.List.{list_any}
use Rattle.sig_checked_bundle.proofs.SigningCertificateLaws.{few_told, first_answers, judged_answers, later_answers}
use Rattle.sig_checked_bundle.proofs.SigningCertificateLaws.{missing_answers, rooted}
use Rattle.sig_checked_bundle.proofs.SigningCertificateLaws.{rootless, unfit}
use Rattle.sig_checked_bundle.specs.SigningCertificate.{is_root}
use Rattle.sig_checked_bundle.specs.declared.bundle_error.BundleErrorKind.TheVariants.{CertificatesMissing, NoLeaf}
use Rattle.sig_checked_bundle.specs.declared.bundle_error.BundleErrorKind.TheVariants.{RootInChain}
use Rattle.sig_checked_bundle.proofs.signing_certificate.check_certificates.Goals as goal

pub returns-in_default-split_first : goal.returns-in_default-split_first
returns-in_default-split_first c =
    few_told c.args.content.now c.in-Some.ders.now c.in-Some.ensures (Err CertificatesMissing)
    c.if-ders-gt-MOST_CERTIFICATES.false
    (missing_answers c.certificates.ensures c.in-Some.ders.now c.in_default-split_first.ensures.cases)

pub returns-in_err-certificate : goal.returns-in_err-certificate
returns-in_err-certificate c =
    let is : c.from_residual.result ≡ Err c.in_err-certificate.field-0.0 = search rules in
    few_told c.args.content.now c.in-Some.ders.now c.in-Some.ensures c.from_residual.result
    c.if-ders-gt-MOST_CERTIFICATES.false
    (first_answers c.certificates.ensures c.in-Some.ders.now c.in-Some-split_first.first.now
    c.in-Some-split_first.others.now c.in-Some-split_first.ensures.cases.0 c.as_slice.result.now c.as_slice.ensures
    c.in_err-certificate.field-0.0 c.from_residual.result is c.in_err-certificate.ensures.refused)

pub returns-in_err-further : goal.returns-in_err-further
returns-in_err-further c =
    let is : c.from_residual-in_err-further.result ≡ Err c.in_err-further.field-0.0 = search rules in
    few_told c.args.content.now c.in-Some.ders.now c.in-Some.ensures c.from_residual-in_err-further.result
    c.if-ders-gt-MOST_CERTIFICATES.false
    (later_answers c.certificates.ensures c.in-Some.ders.now c.in-Some-split_first.first.now
    c.in-Some-split_first.others.now c.in-Some-split_first.ensures.cases.0 c.as_slice.result.now c.as_slice.ensures
    c.in_err-further.field-0.0 c.from_residual-in_err-further.result is c.in_ok-certificate.certificate
    c.in_ok-certificate.ensures.found c.in_err-further.ensures.refused)

pub returns-in-Err : goal.returns-in-Err
returns-in-Err c =
    few_told c.args.content.now c.in-Some.ders.now c.in-Some.ensures (Err (NoLeaf c.in-Err.refusal))
    c.if-ders-gt-MOST_CERTIFICATES.false
    (judged_answers c.certificates.ensures c.in-Some.ders.now c.in-Some-split_first.first.now
    c.in-Some-split_first.others.now c.in-Some-split_first.ensures.cases.0 c.as_slice.result.now c.as_slice.ensures
    c.in_ok-certificate.certificate c.in_ok-further.further (Err (NoLeaf c.in-Err.refusal))
    c.in_ok-certificate.ensures.found c.in_ok-further.ensures.found
    (unfit c.in_ok-certificate.certificate c.in_ok-further.further c.in-Err.refusal c.in-Err.ensures.exact))

pub returns-then-has_root : goal.returns-then-has_root
returns-then-has_root c =
    let found : list_any is_root c.in_ok-further.further ≡ true = search rules in
    few_told c.args.content.now c.in-Some.ders.now c.in-Some.ensures (Err RootInChain)
    c.if-ders-gt-MOST_CERTIFICATES.false
    (judged_answers c.certificates.ensures c.in-Some.ders.now c.in-Some-split_first.first.now
    c.in-Some-split_first.others.now c.in-Some-split_first.ensures.cases.0 c.as_slice.result.now c.as_slice.ensures
    c.in_ok-certificate.certificate c.in_ok-further.further (Err RootInChain)
    c.in_ok-certificate.ensures.found c.in_ok-further.ensures.found
    (rooted c.in_ok-certificate.certificate c.in_ok-further.further c.in_default-is_leaf.ensures.exact found))

pub returns : goal.returns
returns c =
    let none : list_any is_root c.in_ok-further.further ≡ false = search rules in
    few_told c.args.content.now c.in-Some.ders.now c.in-Some.ensures _
    c.if-ders-gt-MOST_CERTIFICATES.false
    (judged_answers c.certificates.ensures c.in-Some.ders.now c.in-Some-split_first.first.now
    c.in-Some-split_first.others.now c.in-Some-split_first.ensures.cases.0 c.as_slice.result.now c.as_slice.ensures
    c.in_ok-certificate.certificate c.in_ok-further.further
    (Ok (record { certificate = c.in_ok-certificate.certificate; further = c.in_ok-further.further }))
    c.in_ok-certificate.ensures.found c.in_ok-further.ensures.found
    (rootless c.in_ok-certificate.certificate c.in_ok-further.further c.in_default-is_leaf.ensures.exact none))
