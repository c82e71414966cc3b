-- Each result of a keyring and of an SCT, and when it comes.
use Rattle.std.proofs.Common.{◌≡◌, ℕ, ◌+◌, ◌-◌, ◌^◌, ◌<◌, Bool, true, false, cond, ltb, List, length, Option}
use Rattle.std.proofs.Common.{Some, None, Result, Ok, Err}
use Rattle.std.proofs.Common.{refl, sym, ap, ◌∙◌, arith, inl, inr}
use Rattle.std.specs.Prelude.{◌↔◌}
use Rattle.std.proofs.lemmas.Bool.{cases_Bool, cond-true, cond-false, le-ltb, ltb-false}
use Rattle.sig_base.specs.Answers.{Answers, ComesWhere}
use Rattle.sig_timestamp.specs.declared.keyring_error.KeyringError.{KeyringError}
use Rattle.sig_timestamp.specs.declared.keyring_error.KeyringError.TheVariants.{KeyNotFound, VerificationFailed}
use Rattle.sig_timestamp.specs.declared.sct_error.SCTError.{SCTError}
use Rattle.sig_timestamp.specs.declared.sct_error.SCTError.TheVariants.{Serialization, Verification, OutOfMemory}
use Rattle.sig_timestamp.specs.declared.signed.DigitallySigned.{DigitallySigned}
use Rattle.sig_timestamp.specs.RingKey.{point_at}
use Rattle.sig_timestamp.specs.Keyring.{vouch}
use Rattle.sig_timestamp.specs.SctBytes.{signed_bytes, as_sct_result, judged}
use Rattle.sig_timestamp.specs.Vouched.{AcceptsPoint, Ring, IsSignedUnder, HasBytes, IsSignedByLog, IsOfUnknownLog}
use Rattle.sig_base.proofs.ResultRuleLaws.{comes_where}

abbrev Vouch : Type 0
Vouch = Result (Unit {0}) KeyringError

-- ---- a message under the key of an id

abbrev as_result : Bool → Vouch
as_result b = cond b (Ok tt) (Err VerificationFailed)

as_result_one : (a b : Bool) → as_result a ≡ as_result b → a ≡ b
as_result_one true true e = refl
as_result_one true false e = absurd cc
as_result_one false true e = absurd cc
as_result_one false false e = refl

module _ (accepts : AcceptsPoint) (ring : Ring) (id message signature : List ℕ) where
  abbrev Meant : Vouch
  Meant = vouch accepts (point_at ring id) message signature

  known : (p : List ℕ) → point_at ring id ≡ Some p → Meant ≡ as_result (accepts p message signature)
  known p e = ap (λ (o : Option (List ℕ)). vouch accepts o message signature) e

  pub vouch_unknown : (Meant ≡ Err KeyNotFound) ↔ (point_at ring id ≡ None)
  vouch_unknown =
      (to (point_at ring id) refl, (λ e. ap (λ (o : Option (List ℕ)). vouch accepts o message signature) e))
    where
      not_unknown : (b : Bool) → as_result b ≡ Err KeyNotFound → ⊥
      not_unknown true e = cc
      not_unknown false e = cc

      to : (o : Option (List ℕ)) → point_at ring id ≡ o → Meant ≡ Err KeyNotFound → point_at ring id ≡ None
      to None e f = e
      to (Some p) e f = absurd (not_unknown (accepts p message signature) (sym (known p e) ∙ f))

  pub vouch_signed : (b : Bool) → (Meant ≡ as_result b) ↔ IsSignedUnder accepts ring id message signature b
  vouch_signed b =
      (to (point_at ring id) refl, (λ is. known is.point is.has ∙ ap (λ (x : Bool). as_result x) is.said))
    where
      unknown_not : (b : Bool) → Err KeyNotFound ≡ as_result b → ⊥
      unknown_not true e = cc
      unknown_not false e = cc

      to : (o : Option (List ℕ)) → point_at ring id ≡ o → Meant ≡ as_result b
          → IsSignedUnder accepts ring id message signature b
      to None e f = absurd (unknown_not b (sym (vouch_unknown.1 e) ∙ f))
      to (Some p) e f =
          record { point = p; has = e; said = as_result_one (accepts p message signature) b (sym (known p e) ∙ f) }

-- ---- an SCT

abbrev Judged : Type 0
Judged = Result (Unit {0}) SCTError

above : (a n : ℕ) → ltb a n ≡ true → n < a + 1 → ⊥
above a n e lt = let no = le-ltb a n (omega (arith, lt)) in let wrong = sym no ∙ e in cc

module _ (accepts : AcceptsPoint) (d : DigitallySigned) (ring : Ring) where
  abbrev Vouched : Vouch
  Vouched = vouch accepts (point_at ring d.log_id) (signed_bytes d) d.signature

  abbrev Meaning : Judged
  Meaning = judged accepts d ring

  has_bytes : HasBytes d → Meaning ≡ as_sct_result Vouched
  has_bytes h =
      cond-false (ltb (2 ^ 24 - 1) (length d.tbs_certificate)) _ _ (le-ltb _ _ (omega (arith, h.body)))
      ∙ cond-false (ltb (2 ^ 16 - 1) (length d.extensions)) _ _ (le-ltb _ _ (omega (arith, h.extensions)))

  data Cases : Type 0 where
    long : ¬ HasBytes d → Meaning ≡ Err Serialization → Cases
    unknown : IsOfUnknownLog d ring → Meaning ≡ Err (Verification KeyNotFound) → Cases
    genuine : IsSignedByLog accepts d ring true → Meaning ≡ Ok tt → Cases
    forged : IsSignedByLog accepts d ring false → Meaning ≡ Err (Verification VerificationFailed) → Cases

  by_point : HasBytes d → (o : Option (List ℕ)) → point_at ring d.log_id ≡ o → Cases
  by_point h None e =
      unknown (record { bytes = h; unknown = e })
      (has_bytes h ∙ ap as_sct_result ((vouch_unknown accepts ring d.log_id (signed_bytes d) d.signature).1 e))
  by_point h (Some p) e = by_said (accepts p (signed_bytes d) d.signature) refl
    where
      by_said : (b : Bool) → accepts p (signed_bytes d) d.signature ≡ b → Cases
      by_said true said =
          genuine (record { bytes = h; signed = record { point = p; has = e; said = said } })
          (has_bytes h
          ∙ ap as_sct_result
          ((vouch_signed accepts ring d.log_id (signed_bytes d) d.signature true).1
          (record { point = p; has = e; said = said })))
      by_said false said =
          forged (record { bytes = h; signed = record { point = p; has = e; said = said } })
          (has_bytes h
          ∙ ap as_sct_result
          ((vouch_signed accepts ring d.log_id (signed_bytes d) d.signature false).1
          (record { point = p; has = e; said = said })))

  cases : Cases
  cases =
      elim (cases_Bool (ltb (2 ^ 24 - 1) (length d.tbs_certificate))) [
        | inl body ↦ long (λ h. above _ _ body h.body) (cond-true _ _ _ body)
        | inr body ↦
            elim (cases_Bool (ltb (2 ^ 16 - 1) (length d.extensions))) [
              | inl extensions ↦
                  long (λ h. above _ _ extensions h.extensions) (cond-false _ _ _ body ∙ cond-true _ _ _ extensions)
              | inr extensions ↦
                  let short = ltb-false _ _ body in
                  let few = ltb-false _ _ extensions in
                  by_point (record { body = omega (arith, short); extensions = omega (arith, few) })
                  (point_at ring d.log_id) refl
            ]
      ]

  from_long : Cases → ¬ HasBytes d → Meaning ≡ Err Serialization
  from_long (long n e) not_so = e
  from_long (unknown x e) not_so = absurd (not_so x.bytes)
  from_long (genuine x e) not_so = absurd (not_so x.bytes)
  from_long (forged x e) not_so = absurd (not_so x.bytes)

  to_long : Cases → Meaning ≡ Err Serialization → ¬ HasBytes d
  to_long (long n e) f = n
  to_long (unknown x e) f = let no = sym e ∙ f in absurd cc
  to_long (genuine x e) f = let no = sym e ∙ f in absurd cc
  to_long (forged x e) f = let no = sym e ∙ f in absurd cc

  to_unknown : Cases → Meaning ≡ Err (Verification KeyNotFound) → IsOfUnknownLog d ring
  to_unknown (long n e) f = let no = sym e ∙ f in absurd cc
  to_unknown (unknown x e) f = x
  to_unknown (genuine x e) f = let no = sym e ∙ f in absurd cc
  to_unknown (forged x e) f = let no = sym e ∙ f in absurd cc

  to_genuine : Cases → Meaning ≡ Ok tt → IsSignedByLog accepts d ring true
  to_genuine (long n e) f = let no = sym e ∙ f in absurd cc
  to_genuine (unknown x e) f = let no = sym e ∙ f in absurd cc
  to_genuine (genuine x e) f = x
  to_genuine (forged x e) f = let no = sym e ∙ f in absurd cc

  to_forged : Cases → Meaning ≡ Err (Verification VerificationFailed) → IsSignedByLog accepts d ring false
  to_forged (long n e) f = let no = sym e ∙ f in absurd cc
  to_forged (unknown x e) f = let no = sym e ∙ f in absurd cc
  to_forged (genuine x e) f = let no = sym e ∙ f in absurd cc
  to_forged (forged x e) f = x

  from_signed : (b : Bool) → IsSignedByLog accepts d ring b → Meaning ≡ as_sct_result (as_result b)
  from_signed b x =
      has_bytes x.bytes ∙ ap as_sct_result ((vouch_signed accepts ring d.log_id (signed_bytes d) d.signature b).1
      x.signed)

  from_unknown : IsOfUnknownLog d ring → Meaning ≡ Err (Verification KeyNotFound)
  from_unknown x =
      has_bytes x.bytes ∙ ap as_sct_result ((vouch_unknown accepts ring d.log_id (signed_bytes d) d.signature).1
      x.unknown)

  module _ (r : Judged) (is : Answers OutOfMemory (λ (x : Unit {0}). x) r Meaning) where
    pub comes_long : ComesWhere OutOfMemory r (Err Serialization) (¬ HasBytes d)
    comes_long = comes_where OutOfMemory r Meaning _ _ is (λ e. cc) (to_long cases) (from_long cases)

    pub comes_unknown : ComesWhere OutOfMemory r (Err (Verification KeyNotFound)) (IsOfUnknownLog d ring)
    comes_unknown = comes_where OutOfMemory r Meaning _ _ is (λ e. cc) (to_unknown cases) from_unknown

    pub comes_genuine : ComesWhere OutOfMemory r (Ok tt) (IsSignedByLog accepts d ring true)
    comes_genuine = comes_where OutOfMemory r Meaning _ _ is (λ e. cc) (to_genuine cases) (from_signed true)

    pub comes_forged : ComesWhere OutOfMemory r (Err (Verification VerificationFailed))
        (IsSignedByLog accepts d ring false)
    comes_forged = comes_where OutOfMemory r Meaning _ _ is (λ e. cc) (to_forged cases) (from_signed false)
