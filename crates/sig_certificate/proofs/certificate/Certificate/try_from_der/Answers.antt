use Rattle.std.proofs.Common.{rules, ◌≡◌, ◌⊎◌, inl, inr, List, ℕ, ℤ, map, length, Option, Some, None, Ok, Err}
use Rattle.std.proofs.Common.{refl, sym, ap, subst, arith}
use Rattle.sig_base.proofs.OptionSteps.{some}
use Rattle.sig_der.proofs.Bytes.{IsBytes}
use Rattle.sig_certificate.specs.declared.error.X509ReadError.{X509ReadError}
use Rattle.sig_certificate.specs.declared.error.X509ReadError.TheVariants.{Der, OutOfMemory}
use Rattle.sig_certificate.specs.Answers.{or_der}
use Rattle.sig_base.proofs.ResultSteps.{ok_is}
use Rattle.sig_certificate.specs.Certificate.{Extension, Cert, IsCertificate}
use Rattle.sig_certificate.specs.declared.parts.Places.{Places}
use Rattle.sig_certificate.specs.declared.extensions.ExtensionPlaces.{ExtensionPlaces}
use Rattle.std.specs.List.{All}
use Rattle.sig_der.specs.FrontReaders.{many_at}
use Rattle.sig_certificate.specs.Places.{parts_of, extension_of, placed_certificate, ArePlaces, AreSpans}
use Rattle.sig_certificate.specs.declared.listed.Listed.{Listed}
use Rattle.sig_certificate.specs.HeldCertificate.{HoldsCertificate, IsRecorded}
use Rattle.sig_certificate.specs.Cutting.{Parts, extension_at, HasCertificateParts}
use Rattle.sig_certificate.proofs.CertificateLaws.{certificate_takes}
use Rattle.sig_certificate.proofs.Readings.{no_parts, no_list, read, not_read, read_is, all_wider, IsCutAs}
use Rattle.sig_certificate.proofs.certificate.Certificate.try_from_der.Goals as goal

pub returns-in_default-clause-only : goal.returns-in_default-clause-only
returns-in_default-clause-only c = λ d is. absurd (no_parts c.args.der.now c.in_default.ensures.only d is)

pub returns-in_default-clause-refused : goal.returns-in_default-clause-refused
returns-in_default-clause-refused c = (λ e. no_parts c.args.der.now c.in_default.ensures.only, λ none. inr refl)

-- what an error says of the bytes: memory ran out, or they are not a certificate
abbrev Says : List ℕ → X509ReadError → Type 0
Says text e = (e ≡ OutOfMemory) ⊎ ((c : Cert) → IsCertificate text c → ⊥)

none_read : (o : Option (List Extension)) (e : X509ReadError) → or_der o ≡ Err e → o ≡ None
none_read (Some es) e is = absurd cc
none_read None e is = refl

refused : (text : List ℕ) (p : Parts) (a b : ℤ) → IsCutAs text p a b → (e : X509ReadError)
    → (e ≡ OutOfMemory) ⊎ (or_der (many_at extension_at p.list) ≡ Err e) → Says text e
refused text p a b cut e h =
    elim h [
      | inl memory ↦ inl memory
      | inr der ↦ inr (no_list text p a b cut (none_read _ e der))
    ]

only_so : (text : List ℕ) (e : X509ReadError) → Says text e → (c : Cert) → IsCertificate text c
    → (e ≡ OutOfMemory) ⊎ (read c ≡ Err e)
only_so text e h c is =
    elim h [
      | inl memory ↦ inl memory
      | inr none ↦ absurd (none c is)
    ]

der_so : (text : List ℕ) (e : X509ReadError) → Says text e → not_read e ≡ not_read Der → (c : Cert)
    → IsCertificate text c → ⊥
der_so text e h is =
    elim h [
      | inl memory ↦ absurd cc
      | inr none ↦ none
    ]

either_error : (e : X509ReadError) → (not_read e ≡ not_read OutOfMemory) ⊎ (not_read e ≡ not_read Der)
either_error Der = inr refl
either_error OutOfMemory = inl refl

pub returns-in-Err-clause-refused : goal.returns-in-Err-clause-refused
returns-in-Err-clause-refused c =
    let d = c.in-Some.dated in (
      der_so c.args.der.now c.in-Err.e
          (refused c.args.der.now (parts_of c.args.der.now d.places) d.not_before d.not_after c.in-Some.ensures.only
          c.in-Err.e
          c.in-Err.ensures.exact),
      λ none. either_error c.in-Err.e,
    )

pub returns-in-Err-clause-only : goal.returns-in-Err-clause-only
returns-in-Err-clause-only c =
    let d = c.in-Some.dated in
    only_so c.args.der.now c.in-Err.e
    (refused c.args.der.now (parts_of c.args.der.now d.places) d.not_before d.not_after c.in-Some.ensures.only
    c.in-Err.e
    c.in-Err.ensures.exact)

-- what is read is some list
read_some : (o : Option (List Extension)) (es : List Extension) → or_der o ≡ Ok es → o ≡ Some es
read_some (Some fs) es e = ap (λ (w : List Extension). some w) (ok_is fs es e)
read_some None es e = absurd cc

-- the certificate that is answered
is_read : (text : List ℕ) (p : Places) (a b x y : ℤ) (es : List ExtensionPlaces) (items : List ℕ) → IsBytes text
    → items ≡ text → x ≡ a → y ≡ b
    → HasCertificateParts text (parts_of text p) a b
    → many_at extension_at (parts_of text p).list ≡ Some (map (extension_of text) es)
    → IsCertificate text (placed_certificate items p x y es)
is_read text p a b x y es items fits e f g cut read =
    rw (e, f, g) (certificate_takes text (parts_of text p) a b (map (extension_of text) es) fits cut read)

read_only : (text : List ℕ) (p : Places) (a b x y : ℤ) (es : List ExtensionPlaces) (items : List ℕ) → items ≡ text
    → x ≡ a → y ≡ b
    → IsCutAs text (parts_of text p) a b
    → many_at extension_at (parts_of text p).list ≡ Some (map (extension_of text) es)
    → (c : Cert) → IsCertificate text c → c ≡ placed_certificate items p x y es
read_only text p a b x y es items e f g cut read c is =
    rw (e, f, g) (read_is text (parts_of text p) a b (map (extension_of text) es) cut read c is)

holds : (text : List ℕ) (p : Places) (a b : ℤ) (l : Listed) (items : List ℕ) → items ≡ text
    → ArePlaces (length text) p → All (AreSpans p.list.end) l.places.items
    → IsCertificate text (placed_certificate items p a b l.places.items)
    → IsRecorded text l → HoldsCertificate items p a b l
holds text p a b l items e within each is recorded =
    record {
      within = subst (λ (w : List ℕ). ArePlaces (length w) p) (sym e) within;
      each_within = all_wider p.list.end (length items) l.places.items (rw e within.list.below) each;
      is = subst (λ (w : List ℕ). IsCertificate w (placed_certificate items p a b l.places.items)) (sym e) is;
      recorded = subst (λ (w : List ℕ). IsRecorded w l) (sym e) recorded;
    }

pub returns-in_ok-from_slice-in-Ok-clause-found : goal.returns-in_ok-from_slice-in-Ok-clause-found
returns-in_ok-from_slice-in-Ok-clause-found c =
    let d = c.in-Some.dated in
    is_read c.args.der.now d.places d.not_before d.not_after _ _ c.in-Ok.extensions.places.items
    c.in_ok-from_slice-in-Ok.field-0.items
    (λ i. omega (arith, c.type_inv.der i)) c.in_ok-from_slice-in-Ok.ensures.items (search rules)
    (search rules) c.in-Some.ensures.found (read_some _ _ c.in-Ok.ensures.exact)

pub invariant_of-result : goal.invariant_of-result
invariant_of-result c =
    let d = c.in-Some.dated in
    holds c.args.der.now d.places _ _ c.in-Ok.extensions c.in_ok-from_slice-in-Ok.field-0.items
    c.in_ok-from_slice-in-Ok.ensures.items
    c.in-Some.ensures.within c.in-Ok.ensures.within
    (is_read c.args.der.now d.places d.not_before d.not_after _ _ c.in-Ok.extensions.places.items
    c.in_ok-from_slice-in-Ok.field-0.items
    (λ i. omega (arith, c.type_inv.der i)) c.in_ok-from_slice-in-Ok.ensures.items (search rules)
    (search rules) c.in-Some.ensures.found (read_some _ _ c.in-Ok.ensures.exact))
    c.in-Ok.ensures.recorded

pub returns-in_ok-from_slice-in-Ok-clause-only : goal.returns-in_ok-from_slice-in-Ok-clause-only
returns-in_ok-from_slice-in-Ok-clause-only c = λ r is.
    let d = c.in-Some.dated in
    ap read
    (read_only c.args.der.now d.places d.not_before d.not_after _ _ c.in-Ok.extensions.places.items
    c.in_ok-from_slice-in-Ok.field-0.items
    c.in_ok-from_slice-in-Ok.ensures.items (search rules)
    (search rules) c.in-Some.ensures.only (read_some _ _ c.in-Ok.ensures.exact) r is)

pub returns-in_ok-from_slice-in-Ok-clause-refused : goal.returns-in_ok-from_slice-in-Ok-clause-refused
returns-in_ok-from_slice-in-Ok-clause-refused c =
    (λ e. absurd cc, λ none. absurd (none _ (returns-in_ok-from_slice-in-Ok-clause-found c)))
