-- What was read at places is the certificate, and what was not read is none.
use Rattle.std.proofs.Common.{◌≡◌, ℕ, ◌≤◌, ℤ, List, Some, None, Result, Ok, Err, refl, sym, ap, ◌∙◌, arith}
use Rattle.std.specs.List.{All}
use Rattle.sig_base.proofs.OptionSteps.{some_is}
use Rattle.sig_base.proofs.ResultSteps.{ok_is}
use Rattle.sig_base.specs.Answers.{ComesWhere}
use Rattle.sig_der.specs.FrontReaders.{many_at}
use Rattle.sig_certificate.specs.declared.span.Span.{Span}
use Rattle.sig_certificate.specs.declared.error.X509ReadError.{X509ReadError}
use Rattle.sig_certificate.specs.declared.error.X509ReadError.TheVariants.{Der, OutOfMemory}
use Rattle.sig_certificate.specs.declared.extensions.ExtensionPlaces.{ExtensionPlaces}
use Rattle.sig_certificate.specs.Certificate.{Extension, Cert, IsCertificate}
use Rattle.sig_certificate.specs.Cutting.{Parts, extension_at, certificate_from_parts, HasCertificateParts}
use Rattle.sig_certificate.specs.Places.{IsSpan, AreSpans}
use Rattle.sig_certificate.proofs.CertificateLaws.{certificate_again}

-- an answer of the reader
abbrev pub read : Cert → Result Cert X509ReadError
read c = Ok c

abbrev pub not_read : X509ReadError → Result Cert X509ReadError
not_read e = Err e

pub read_same : (c d : Cert) → read d ≡ read c → d ≡ c
read_same c d same = ok_is d c same

-- `Der` says that the text is not a certificate
pub der_only : (text : List ℕ) (e : X509ReadError) → e ≡ Der
    → ComesWhere OutOfMemory (not_read e) (not_read Der) ((c : Cert) → ¬ IsCertificate text c)
    → (c : Cert) → ¬ IsCertificate text c
der_only text e is comes = comes.0 (ap not_read is)

-- a text that is cut into no parts is not a certificate
pub no_parts : (text : List ℕ) → ((p : Parts) (a b : ℤ) → HasCertificateParts text p a b → ⊥) → (c : Cert)
    → IsCertificate text c → ⊥
no_parts text none c is = let r = certificate_again text c is in none r.parts c.not_before c.not_after r.cut

-- the text is cut into these parts and these times alone
abbrev pub IsCutAs : List ℕ → Parts → ℤ → ℤ → Type 0
IsCutAs text p a b = (q : Parts) (x y : ℤ) → HasCertificateParts text q x y → (p ≡ q) × (a ≡ x) × (b ≡ y)

same_certificate : (text : List ℕ) (p q : Parts) (a b x y : ℤ) (es fs : List Extension) → p ≡ q → a ≡ x → b ≡ y
    → es ≡ fs
    → certificate_from_parts text q x y fs ≡ certificate_from_parts text p a b es
same_certificate text p q a b x y es fs e f g h = rw (e, f, g, h) refl

pub read_is : (text : List ℕ) (p : Parts) (a b : ℤ) (es : List Extension) → IsCutAs text p a b
    → many_at extension_at p.list ≡ Some es
    → (c : Cert) → IsCertificate text c → c ≡ certificate_from_parts text p a b es
read_is text p a b es cut read c is =
    let r = certificate_again text c is in
    let same = cut r.parts c.not_before c.not_after r.cut in
    let list = some_is es c.extensions (sym read ∙ ap (λ (w : Parts). many_at extension_at w.list) same.0 ∙ r.list) in
    sym r.is ∙ same_certificate text p r.parts a b c.not_before c.not_after es c.extensions same.0 same.1 same.2 list

-- a text whose list is none of extensions is not a certificate
pub no_list : (text : List ℕ) (p : Parts) (a b : ℤ) → IsCutAs text p a b → many_at extension_at p.list ≡ None
    → (c : Cert) → IsCertificate text c → ⊥
no_list text p a b cut none c is =
    let r = certificate_again text c is in
    let same = cut r.parts c.not_before c.not_after r.cut in
    let no = sym none ∙ ap (λ (w : Parts). many_at extension_at w.list) same.0 ∙ r.list in
    cc

-- spans below a number lie below a greater one
wider : (m n : ℕ) (s : Span) → m ≤ n → IsSpan m s → IsSpan n s
wider m n s le is = record { ordered = is.ordered; below = omega (arith, is.below) }

pub all_wider : (m n : ℕ) (es : List ExtensionPlaces) → m ≤ n → All (AreSpans m) es → All (AreSpans n) es
all_wider m n es le all = λ k d lt. let is = all k d lt in
    record { oid = wider m n _ le is.oid; value = wider m n _ le is.value; whole = wider m n _ le is.whole }
