-- The errors of the layers below, as this crate's. Out of memory stays out of memory.
use Rattle.sig_base.specs.declared.fault.PoolError.{PoolError}
use Rattle.sig_base.specs.declared.fault.PoolError.TheVariants as pool
use Rattle.sig_checked_bundle.specs.declared.bundle_error.BundleErrorKind.{BundleErrorKind}
use Rattle.sig_checked_bundle.specs.declared.bundle_error.BundleErrorKind.TheVariants as bundle
use Rattle.sig_policy.specs.declared.failure.PolicyError.{PolicyError}
use Rattle.sig_policy.specs.declared.failure.PolicyError.TheVariants as policy
use Rattle.sig_timestamp.specs.declared.sct_error.SCTError.{SCTError}
use Rattle.sig_timestamp.specs.declared.sct_error.SCTError.TheVariants as sct
use Rattle.sig_verify.specs.declared.error.CertificateErrorKind.TheVariants.{Malformed, Sct, VerificationFailed}
use Rattle.sig_verify.specs.declared.error.VerificationError.{VerificationError}
use Rattle.sig_verify.specs.declared.error.VerificationError.TheVariants.{Bundle, Certificate, Policy, OutOfMemory}

abbrev pub of_bundle : BundleErrorKind → VerificationError
of_bundle bundle.OutOfMemory = OutOfMemory
of_bundle kind = Bundle kind

-- each certificate of a pool that was made is a trust anchor
abbrev pub of_pool : PoolError → VerificationError
of_pool pool.Malformed = Certificate Malformed
of_pool pool.VerificationFailed = Certificate VerificationFailed
of_pool (pool.TooMany count) = Certificate VerificationFailed
of_pool (pool.Anchor place) = Certificate VerificationFailed
of_pool pool.OutOfMemory = OutOfMemory

abbrev pub of_sct : SCTError → VerificationError
of_sct sct.OutOfMemory = OutOfMemory
of_sct error = Certificate (Sct error)

abbrev pub of_policy : PolicyError → VerificationError
of_policy policy.OutOfMemory = OutOfMemory
of_policy error = Policy error
