-- The parts of a certificate whose text is bytes are bytes.
use Rattle.std.proofs.Common.{ℕ, Bool, true, false, List, [], ◌∷◌, ◌++◌, sym, subst}
use Rattle.std.specs.List.{AllByRecursion}
use Rattle.sig_certificate.specs.Certificate.{AreExtensions, Cert, Extension, IsCertificate, IsExtension}
use Rattle.sig_der.proofs.Bytes.{IsBytes, IsBytes-left, IsBytes-right}
use Rattle.sig_der.proofs.KeyInfos.{content_fits}
use Rattle.sig_der.specs.Joined.{joined}
use Rattle.sig_der.specs.Tag.{EXTENSIONS, OCTET_STRING, SEQUENCE}

-- ---- the values of the extensions

abbrev pub AreValues : List Extension → Type 0
AreValues es = AllByRecursion (λ e. IsBytes e.value) es

joined_values : (es : List Extension) → AllByRecursion IsExtension es → IsBytes (joined (λ e. e.whole) es)
    → AreValues es
joined_values [] each fits = tt
joined_values (e ∷ es) each fits =
    let is = each.0 in
    let content = content_fits e.whole SEQUENCE (is.oid_text ++ (is.flag_text ++ is.value_text)) is.whole
    (IsBytes-left e.whole (joined (λ x. x.whole) es) fits) in
    let value = IsBytes-right is.flag_text is.value_text
    (IsBytes-right is.oid_text (is.flag_text ++ is.value_text) content) in (
      content_fits is.value_text OCTET_STRING e.value is.value value,
      joined_values es each.1 (IsBytes-right e.whole (joined (λ x. x.whole) es) fits),
    )

listed_values : (text : List ℕ) (listed : Bool) (es : List Extension) → AreExtensions text listed es → IsBytes text
    → AreValues es
listed_values text true es is fits =
    joined_values es is.joined.each
    (subst (λ (t : List ℕ). IsBytes t) is.joined.parts
    (content_fits is.sequence SEQUENCE is.inner is.list (content_fits text EXTENSIONS is.sequence is.outer fits)))
listed_values text false es is fits = subst (λ (l : List Extension). AreValues l) (sym is.1) tt

-- ---- a certificate

module _ (text : List ℕ) (c : Cert) (is : IsCertificate text c) (fits : IsBytes text) where
  tbs_fits : IsBytes (c.front ++ is.tbs.extensions_text)
  tbs_fits =
      content_fits c.tbs SEQUENCE (c.front ++ is.tbs.extensions_text) is.tbs.tbs
      (IsBytes-left c.tbs (c.algorithm ++ is.signature_text)
      (content_fits text SEQUENCE (c.tbs ++ (c.algorithm ++ is.signature_text)) is.whole fits))

  pub key_fits : IsBytes c.spki
  key_fits =
      let t = is.tbs in
      let after_key = t.issuer_id_text ++ t.subject_id_text in
      let after_subject = c.spki ++ after_key in
      let after_validity = c.subject ++ after_subject in
      let after_issuer = t.validity_text ++ after_validity in
      let after_algorithm = c.issuer ++ after_issuer in
      let after_serial = c.inner_algorithm ++ after_algorithm in
      let after_version = t.serial_text ++ after_serial in
      let front = subst (λ (f : List ℕ). IsBytes f) t.front (IsBytes-left c.front t.extensions_text tbs_fits) in
      IsBytes-left c.spki after_key (IsBytes-right c.subject after_subject
      (IsBytes-right t.validity_text after_validity (IsBytes-right c.issuer after_issuer
      (IsBytes-right c.inner_algorithm after_algorithm (IsBytes-right t.serial_text after_serial
      (IsBytes-right t.version_text after_version front))))))

  pub values_fit : AreValues c.extensions
  values_fit =
      listed_values is.tbs.extensions_text c.listed c.extensions is.tbs.extensions
      (IsBytes-right c.front is.tbs.extensions_text tbs_fits)
