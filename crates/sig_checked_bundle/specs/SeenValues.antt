-- For private clauses: what is seen of values of the code.
use Rattle.std.specs.Prelude.{◌≡◌, ℕ, ◌+◌, List, Result, Ok, Err}
use Rattle.std.specs.Borrow.{Bor}
use Rattle.sig_base.specs.Answers.{OrMemory}
use Rattle.sig_checked_bundle.specs.Content.{ContentWithSignature}
use Rattle.sig_checked_bundle.specs.SigningCertificate.{IsFirstMalformed, IsNoCertificate}
use Rattle.sig_checked_bundle.specs.declared.bundle_error.BundleErrorKind.{BundleErrorKind}
use Rattle.sig_checked_bundle.specs.declared.bundle_error.BundleErrorKind.TheVariants.{CertificateMalformed}
use Rattle.sig_checked_bundle.specs.declared.bundle_error.BundleErrorKind.TheVariants.{OutOfMemory}
use Rattle.sig_checked_bundle.specs.declared.content_check.ContentWithSignature.{ContentWithSignature as Held}

-- what is borrowed, or why it is not
abbrev pub borrowed_now : {A E : Type 0} → Result (Bor A) E → Result A E
borrowed_now (Ok borrowed) = Ok borrowed.now
borrowed_now (Err e) = Err e

-- the signature and what it is over
abbrev pub seen_content : Held → ContentWithSignature
seen_content s = record { signature = s.signature; content = s.content }

-- why bytes are not read as the certificate at this index
abbrev pub IsUnreadAt : ℕ → List ℕ → BundleErrorKind → Type 0
IsUnreadAt index der e = OrMemory OutOfMemory e ((e ≡ CertificateMalformed index) × IsNoCertificate der)

-- why the encodings after the first are not read
abbrev pub AreUnreadAfter : List (List ℕ) → BundleErrorKind → Type 0
AreUnreadAfter ders e =
    OrMemory OutOfMemory e ((index : ℕ) × (e ≡ CertificateMalformed (index + 1)) × IsFirstMalformed ders index)
