-- A text is at most one certificate.
use Rattle.std.proofs.Common.{◌≡◌, ℕ, ℤ, List, sym, ap, subst, ◌∙◌, arith, inl, inr}
use Rattle.sig_base.proofs.OptionSteps.{some_is}
use Rattle.sig_der.specs.Moment.{IsSecondOf, second_of}
use Rattle.sig_der.specs.DerTime.{IsUtcTime, IsGeneralizedTime, IsTimeOf}
use Rattle.sig_der.proofs.TimeTexts.{utc_at_again, generalized_at_again}
use Rattle.sig_certificate.specs.Certificate.{Cert, IsCertificate}
use Rattle.sig_certificate.specs.Cutting.{Parts, HasCertificateParts}
use Rattle.sig_certificate.proofs.CertificateLaws.{certificate_again}
use Rattle.sig_certificate.proofs.Readings.{IsCutAs, read_is}

utc_one : (text : List ℕ) (s t : ℤ) → IsSecondOf (IsUtcTime text) s → IsSecondOf (IsUtcTime text) t → s ≡ t
utc_one text s t a b =
    let same =
    some_is a.moment b.moment (sym (utc_at_again text a.moment a.time) ∙ utc_at_again text b.moment b.time) in
    a.value ∙ ap (λ m. second_of m) same ∙ sym b.value

generalized_one : (text : List ℕ) (s t : ℤ) → IsSecondOf (IsGeneralizedTime text) s
    → IsSecondOf (IsGeneralizedTime text) t → s ≡ t
generalized_one text s t a b =
    let same =
    some_is a.moment b.moment
    (sym (generalized_at_again text a.moment a.time) ∙ generalized_at_again text b.moment b.time) in
    a.value ∙ ap (λ m. second_of m) same ∙ sym b.value

time_one : (tag : ℕ) (content : List ℕ) (s t : ℤ) → IsTimeOf tag content s → IsTimeOf tag content t → s ≡ t
time_one tag content s t (inl a) (inl b) = utc_one content s t a.1 b.1
time_one tag content s t (inr a) (inr b) = generalized_one content s t a.1 b.1
time_one tag content s t (inl a) (inr b) = absurd (omega (arith, a.0, b.0))
time_one tag content s t (inr a) (inl b) = absurd (omega (arith, a.0, b.0))

cut_one : (text : List ℕ) (p : Parts) (a b : ℤ) → HasCertificateParts text p a b → IsCutAs text p a b
cut_one text p a b is q x y other =
    let same = some_is p q (sym is.cut ∙ other.cut) in
    let begins =
    subst (λ (w : Parts). IsTimeOf w.binding.first.tag w.binding.first.content x) (sym same) other.begins in
    let ends =
    subst (λ (w : Parts). IsTimeOf w.binding.second.tag w.binding.second.content y) (sym same) other.ends in (
      same,
      time_one p.binding.first.tag p.binding.first.content a x is.begins begins,
      time_one p.binding.second.tag p.binding.second.content b y is.ends ends,
    )

pub certificate_one : (text : List ℕ) (c d : Cert) → IsCertificate text c → IsCertificate text d → c ≡ d
certificate_one text c d is other =
    let r = certificate_again text c is in
    let cut = cut_one text r.parts c.not_before c.not_after r.cut in
    sym r.is ∙ sym (read_is text r.parts c.not_before c.not_after c.extensions cut r.list d other)
