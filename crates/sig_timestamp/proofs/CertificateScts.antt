-- The reader of SCTs says what a certificate has whose text is bytes.
use Rattle.std.proofs.Common.{◌≡◌, ℕ, Bool, true, false, List, [], ◌∷◌, Result, Ok, Err, inl, inr, refl, arith}
use Rattle.std.specs.List.{filter}
use Rattle.std.specs.Str.{bytes_eq}
use Rattle.sig_certificate.proofs.CertificateBytes.{AreValues, values_fit}
use Rattle.sig_certificate.specs.Certificate.{Cert, Extension, IsCertificate}
use Rattle.sig_der.proofs.Bytes.{IsBytes}
use Rattle.sig_der.specs.ObjectIdentifiers.{sct_list}
use Rattle.sig_timestamp.proofs.EmbeddedLaws.{value_said}
use Rattle.sig_timestamp.specs.Embedded.{IsSaidOf, IsSaidOfValue}
use Rattle.sig_timestamp.specs.SctList.{Sct}
use Rattle.sig_timestamp.specs.Timestamps.{sct_extensions, sct_of, sct_of_list, sct_of_value}
use Rattle.sig_timestamp.specs.declared.sct_error.CertificateErrorKind.{CertificateErrorKind}
use Rattle.sig_timestamp.specs.declared.sct_error.CertificateErrorKind.TheVariants.{LeafSCTMissing, LeafSCTMalformed}
use Rattle.sig_timestamp.specs.declared.sct_error.CertificateErrorKind.TheVariants.{IssuerMissing}

-- ---- the values of the extensions with an object identifier

one_of_those : (keep : Extension → Bool) (e : Extension) (es : List Extension) (b : Bool) → keep e ≡ b
    → IsBytes e.value → AreValues (filter keep es) → AreValues (filter keep (e ∷ es))
one_of_those keep e es true is first rest = rw is (first, rest)
one_of_those keep e es false is first rest = rw is rest

of_those : (keep : Extension → Bool) (es : List Extension) → AreValues es → AreValues (filter keep es)
of_those keep [] all = tt
of_those keep (e ∷ es) all = one_of_those keep e es (keep e) refl all.0 (of_those keep es all.1)

-- ---- a certificate

module _ (text : List ℕ) (c : Cert) (is : IsCertificate text c) (fits : IsBytes text) where
  sct_values_fit : AreValues (sct_extensions c)
  sct_values_fit =
      of_those (λ e. bytes_eq e.oid sct_list) c.extensions (values_fit text c is fits)

  -- what is said of the value is said of the certificate
  said_of : (e : Extension) → sct_extensions c ≡ e ∷ [] → (r : Result Sct CertificateErrorKind)
      → IsSaidOfValue e.value r → IsSaidOf c r
  said_of e one (Ok s) said =
      record { extension = e; text = said.0; one = one; lists = said.1.0; is = said.1.1 }
  said_of e one (Err LeafSCTMissing) said =
      inr (record { extension = e; texts = said.0; one = one; lists = said.1.0; others = said.1.1 })
  said_of e one (Err LeafSCTMalformed) said = record { extension = e; one = one; bad = said }
  said_of e one (Err IssuerMissing) said = said

  said_of_list : (es : List Extension) → sct_extensions c ≡ es → AreValues es → IsSaidOf c (sct_of_list es)
  said_of_list [] are fit = inl (rw are (λ n. omega arith))
  said_of_list (e ∷ []) are fit = said_of e are (sct_of_value e.value) (value_said e.value fit.0)
  said_of_list (e ∷ f ∷ es) are fit = inl (rw are (λ n. omega arith))

  pub said : IsSaidOf c (sct_of c)
  unfolding sct_of
  said = said_of_list (sct_extensions c) refl sct_values_fit
