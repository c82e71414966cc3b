-- The rows of the SCT under each issuer of a path.
use Rattle.std.proofs.Common.{◌≡◌, ◌↔◌, ℕ, ◌<◌, ◌-◌, ◌^◌, Bool, true, false, cond, nat_lt, List, []}
use Rattle.std.proofs.Common.{length, Option, Some, None, Result, Ok, Err, inl, inr, refl, sym, subst, arith, ◌∙◌}
use Rattle.std.specs.Prelude.{Contains}
use Rattle.std.proofs.lemmas.Bool.{ltb-false, le-ltb}
use Rattle.sig_base.proofs.OptionSteps.{some_is}
use Rattle.sig_base.proofs.ResultSteps.{ok_is}
use Rattle.sig_base.specs.Answers.{Answers}
use Rattle.sig_base.specs.declared.checker.AcceptedRow.{AcceptedRow}
use Rattle.sig_certificate.specs.Certificate.{Cert}
use Rattle.sig_base.specs.Sha256.{sha256}
use Rattle.sig_timestamp.proofs.EmbeddedLaws.{embedded}
use Rattle.sig_timestamp.specs.Embedded.{IsSaidOf, ready}
use Rattle.sig_timestamp.specs.Precert.{precertificate}
use Rattle.sig_timestamp.specs.SctBytes.{signed_bytes, signed_of}
use Rattle.sig_timestamp.specs.SctList.{Sct as SctType}
use Rattle.sig_timestamp.specs.Timestamps.{HasSct, sct_of}
use Rattle.sig_timestamp.specs.Vectors.{IsLong, IsShort}
use Rattle.sig_timestamp.specs.declared.sct_error.CertificateErrorKind.{CertificateErrorKind}
use Rattle.sig_timestamp.specs.declared.sct_error.SCTError.TheVariants.{OutOfMemory, Parsing}
use Rattle.sig_timestamp.specs.declared.signed.DigitallySigned.{DigitallySigned}
use Rattle.sig_verify.proofs.IssuerVerdicts.{itself}
use Rattle.sig_verify.specs.CertificateLinks.{OfSct, Trust}
use Rattle.sig_x509.proofs.Elements.{at_contained, contains_at}
use Rattle.sig_x509.proofs.PossibleLaws.{IsSigner, first_given, path_given}
use Rattle.sig_x509.specs.Possible.{may_sign}
use Rattle.sig_checked_bundle.specs.Checked.{Checked}
use Rattle.sig_questions.proofs.PathRows.{if_rows, issuer_step, pair_law, same_of, side_fits, side_there, step_issuer}
use Rattle.sig_questions.proofs.RowLaws.{OfSome, has_each, empty_has, has_one}
use Rattle.sig_questions.specs.Asked.{IsPointRow, IsPointRowUnder, OfPath, issuer_in}
use Rattle.sig_questions.specs.Lists.{Side, embedded_questions, pointed_questions, sct_questions, side_questions}
use Rattle.sig_questions.specs.Lists.{signed_side, signed_questions, signer_as, signers}
use Rattle.sig_questions.specs.Order.{IsStepOf}
use Rattle.sig_questions.specs.Rows.{point_row}

-- ---- its SCT

module _ (points : List ℕ → Option (List ℕ)) (c : Cert) (said : IsSaidOf c (sct_of c)) (x : Cert)
    (row : AcceptedRow) where
  -- what the row is of an SCT
  abbrev IsOf : SctType → Type 0
  IsOf s = IsLong (precertificate c) × IsShort s.extensions × (point : List ℕ) × (points s.log_id ≡ Some point)
      × (row ≡ point_row point (signed_bytes (signed_of c x.spki s)) s.signature)

  -- the same of what it signs
  abbrev IsOfSigned : DigitallySigned → Type 0
  IsOfSigned d = IsLong d.tbs_certificate × IsShort d.extensions × (point : List ℕ) × (points d.log_id ≡ Some point)
      × (row ≡ point_row point (signed_bytes d) d.signature)

  of_point : (d : DigitallySigned) → IsLong d.tbs_certificate → IsShort d.extensions → (o : Option (List ℕ))
      → points d.log_id ≡ o → Contains (pointed_questions o d) row ↔ IsOfSigned d
  of_point d long short None at = (
    (λ has. absurd (empty_has row has)),
    (λ of. absurd (let wrong : ◌≡◌ {A = Option (List ℕ)} (Some of.2) None = sym of.3 ∙ at in cc)),
  )
  of_point d long short (Some point) at = (
    (λ has. (long, short, point, at, (has_one (point_row point (signed_bytes d) d.signature) row).0 has)),
    (λ of. (has_one (point_row point (signed_bytes d) d.signature) row).1
        (subst (λ (p : List ℕ). row ≡ point_row p (signed_bytes d) d.signature)
        (some_is of.2 point (sym of.3 ∙ at)) of.4)),
  )

  of_lengths : (d : DigitallySigned) (a b : Bool) → nat_lt (2 ^ 24 - 1) (length d.tbs_certificate) ≡ a
      → nat_lt (2 ^ 16 - 1) (length d.extensions) ≡ b
      → Contains (cond a [] (cond b [] (pointed_questions (points d.log_id) d))) row ↔ IsOfSigned d
  of_lengths d true b body extensions = (
    (λ has. absurd (empty_has row has)),
    (λ of. absurd (let long : length d.tbs_certificate < 2 ^ 24 = of.0 in
        let fits : nat_lt (2 ^ 24 - 1) (length d.tbs_certificate) ≡ false =
        le-ltb (2 ^ 24 - 1) (length d.tbs_certificate) (omega (arith, long)) in
        let wrong : true ≡ false = sym body ∙ fits in cc)),
  )
  of_lengths d false true body extensions = (
    (λ has. absurd (empty_has row has)),
    (λ of. absurd (let short : length d.extensions < 2 ^ 16 = of.1 in
        let fits : nat_lt (2 ^ 16 - 1) (length d.extensions) ≡ false =
        le-ltb (2 ^ 16 - 1) (length d.extensions) (omega (arith, short)) in
        let wrong : true ≡ false = sym extensions ∙ fits in cc)),
  )
  of_lengths d false false body extensions =
      let long = ltb-false (2 ^ 24 - 1) (length d.tbs_certificate) body in
      let short = ltb-false (2 ^ 16 - 1) (length d.extensions) extensions in
      of_point d (omega (arith, long)) (omega (arith, short)) (points d.log_id) refl

  of_signed : (d : DigitallySigned) → Contains (signed_questions points d) row ↔ IsOfSigned d
  of_signed d =
      of_lengths d (nat_lt (2 ^ 24 - 1) (length d.tbs_certificate)) (nat_lt (2 ^ 16 - 1) (length d.extensions)) refl
      refl

  -- each SCT of the certificate is the one that was read
  read_of : (t : SctType) → HasSct c t
      → Answers OutOfMemory (λ (d : DigitallySigned). d) (ready c x.spki (sct_of c)) (Ok (signed_of c x.spki t))
  read_of t has = (embedded c (sha256 x.spki) (ready c x.spki (sct_of c)) (itself (ready c x.spki (sct_of c))) said).has t has

  of_read : (r : Result SctType CertificateErrorKind) → sct_of c ≡ r → IsSaidOf c r
      → Contains (embedded_questions points (ready c x.spki r)) row ↔ OfSct c IsOf
  of_read (Ok s) is has = (
    (λ in_rows. (s, has, (of_signed (signed_of c x.spki s)).0 in_rows)),
    (λ of.
        let told : Answers OutOfMemory (λ (d : DigitallySigned). d) (Ok (signed_of c x.spki s))
        (Ok (signed_of c x.spki of.0)) =
        subst (λ r. Answers OutOfMemory (λ (d : DigitallySigned). d) (ready c x.spki r)
        (Ok (signed_of c x.spki of.0))) is (read_of of.0 of.1) in
        let same : signed_of c x.spki of.0 ≡ signed_of c x.spki s =
        ok_is (signed_of c x.spki of.0) (signed_of c x.spki s) told in
        (of_signed (signed_of c x.spki s)).1 (subst IsOfSigned same of.2)),
  )
  of_read (Err kind) is bad = (
    (λ in_none. absurd (empty_has row in_none)),
    (λ of. absurd (none (subst (λ r. Answers OutOfMemory (λ (d : DigitallySigned). d) (ready c x.spki r)
        (Ok (signed_of c x.spki of.0))) is (read_of of.0 of.1)))),
  )
    where
      none : {d : DigitallySigned} → Answers OutOfMemory (λ (y : DigitallySigned). y) (Err (Parsing kind)) (Ok d) → ⊥
      none (inl memory) = cc
      none (inr other) = cc

  pub has_embedded : Contains (embedded_questions points (ready c x.spki (sct_of c))) row
      ↔ IsPointRowUnder points c x row
  has_embedded = of_read (sct_of c) refl said

module _ (trust : Trust) (c : Checked) (said : IsSaidOf c.certificate (sct_of c.certificate)) where
  -- under a side that may have issued it
  pub has_side : (trusted : Bool) (x : Cert) → IsSigner trust.anchors c.further c.certificate c.certificate.not_before
      trusted x → (row : AcceptedRow) → Contains (side_questions trust c (trusted, x)) row
      ↔ (OfPath trust c (IsStepOf (None, (trusted, x))) × IsPointRowUnder trust.points c.certificate x row)
  has_side trusted x signs row =
      let rows : List AcceptedRow =
      embedded_questions trust.points (ready c.certificate (signer_as trust c trusted x).certificate.spki
      (sct_of c.certificate)) in
      let there = if_rows (may_sign (signed_side c None) (signer_as trust c trusted x)) rows row in
      let law = pair_law trust c None trusted x signs in
      let under = has_embedded trust.points c.certificate said (signer_as trust c trusted x).certificate row in
      let same = signer_same trusted x in (
        (λ has.
            let both = there.0 has in (
              law.0 both.0,
              subst (λ (y : Cert). IsPointRowUnder trust.points c.certificate y row) same
                  (under.0 both.1),
            )),
        (λ both. there.1 (
          law.1 both.0,
          under.1
              (subst (λ (y : Cert). IsPointRowUnder trust.points c.certificate y row) (sym same) both.1),
        )),
      )
    where
      signer_same : (b : Bool) (y : Cert) → (signer_as trust c b y).certificate ≡ y
      signer_same true y = refl
      signer_same false y = refl

  pub has_point : (row : AcceptedRow) → Contains (sct_questions trust c) row ↔ IsPointRow trust c row
  has_point row = (to, back)
    where
      each : Contains (sct_questions trust c) row
          ↔ OfSome (signers trust c) (λ s r. Contains (side_questions trust c s) r) row
      each = has_each (side_questions trust c) (λ s r. Contains (side_questions trust c s) r) (signers trust c) row
          (λ s. same_of)

      to : Contains (sct_questions trust c) row → IsPointRow trust c row
      to has =
          let of = each.0 has in
          let s : Side = of.1 in
          let fits = side_fits trust c s.0 s.1 (contains_at (signers trust c) of.0 s of.2) in
          let both = (has_side s.0 s.1 fits row).0 of.3 in
          let path = both.0 in (
            path.0,
            path.1,
            path.2,
            subst (λ (y : Cert). IsPointRowUnder trust.points c.certificate y row)
                (step_issuer path.0 path.1 s.0 s.1 path.3) both.1,
          )

      back : IsPointRow trust c row → Contains (sct_questions trust c) row
      back (path, anchor, is, under) =
          let step = issuer_step path anchor in
          let x : Cert = issuer_in path anchor in
          let fits = first_given trust.anchors c.further c.certificate c.certificate.not_before path anchor
          (path_given trust.anchors c.further c.certificate c.certificate.not_before path anchor is) is.trusted step.0 x
          step.1 in
          let there = side_there trust c step.0 x fits in
          each.1 (
            there.0,
            (step.0, x),
            at_contained (signers trust c) (step.0, x) there,
            (has_side step.0 x fits row).1 ((path, anchor, is, step.1), under),
          )
