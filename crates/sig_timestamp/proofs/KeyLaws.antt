-- Keys of a ring: what is read is a key of a ring, and what is one is read.
use Rattle.std.proofs.Common.{◌≡◌, ◌≢◌, ℕ, Bool, true, false, cond, ◌&&◌, List, Option, Some, None, Result, Ok, Err}
use Rattle.std.proofs.Common.{refl, sym, ap, ◌∙◌, inl, inr}
use Rattle.std.specs.Prelude.{bytes_eq, IfOk}
use Rattle.sig_base.specs.Answers.{Answers}
use Rattle.sig_base.proofs.ResultSteps.{when_ok}
use Rattle.std.proofs.lemmas.Bool.{and_parts, cases_Bool, eqb-true, cond-true, cond-false}
use Rattle.std.proofs.lemmas.Slice.Eq.{bytes_eq-Decides}
use Rattle.sig_der.specs.Reading.{Piece}
use Rattle.sig_der.specs.KeyInfo.{KeyInfo, IsKeyInfo, whole_key_info}
use Rattle.sig_der.specs.ObjectIdentifiers.{ec_public_key, p256, rsa}
use Rattle.sig_der.proofs.Bytes.{IsBytes}
use Rattle.sig_der.proofs.KeyInfos.{whole_key_info_takes, whole_key_info_again}
use Rattle.sig_timestamp.specs.declared.keyring_error.KeyringError.{KeyringError}
use Rattle.sig_timestamp.specs.declared.keyring_error.KeyringError.TheVariants.{KeyMalformed, AlgoUnsupported}
use Rattle.sig_timestamp.specs.declared.keyring_error.KeyringError.TheVariants.{OutOfMemory}
use Rattle.sig_timestamp.specs.RingKey.{RingKey}
use Rattle.sig_timestamp.specs.Keyring.{IsRingKey, is_identifier, is_null, point_under, point_in, point_of_info}
use Rattle.sig_timestamp.specs.Keyring.{point_of}

-- ---- the point

-- the parameters are the identifier of the curve
record IsPoint (bits oid : List ℕ) (p : Piece) (point : List ℕ) : Type 0 where
  elliptic : oid ≡ ec_public_key
  identifier : p.tag ≡ 6
  curve : p.content ≡ p256
  point_is : bits ≡ point

point_under_takes : (bits oid : List ℕ) (p : Piece) (point : List ℕ) → point_under bits oid (Some p) ≡ Ok point
    → IsPoint bits oid p point
point_under_takes bits oid p point e =
    elim (cases_Bool (is_identifier p)) [
      | inl named ↦
          let h = when_ok (bytes_eq oid ec_public_key && bytes_eq p.content p256) AlgoUnsupported (Ok bits) point
          (sym (cond-true (is_identifier p) _ _ named) ∙ e) in
          let t = and_parts _ _ h.0 in
          record {
            elliptic = (bytes_eq-Decides oid ec_public_key).0 t.0;
            identifier = eqb-true p.tag 6 (and_parts _ _ named).0;
            curve = (bytes_eq-Decides p.content p256).0 t.1;
            point_is = let is = h.1 in cc;
          }
      | inr other ↦
          absurd (no_other (is_null p && bytes_eq oid rsa) (sym (cond-false (is_identifier p) _ _ other) ∙ e))
    ]
  where
    no_other : (b : Bool) → cond b (Err AlgoUnsupported) (Err KeyMalformed) ≡ Ok point → ⊥
    no_other true is = cc
    no_other false is = cc

pub point_of_takes : (spki : List ℕ) → IsBytes spki → (point : List ℕ) → point_of spki ≡ Ok point
    → IsRingKey spki point
unfolding point_of
point_of_takes spki fits point e = of_info (whole_key_info spki) (λ k is. whole_key_info_takes spki fits k is) e
  where
    of_key : (k : KeyInfo) → IsKeyInfo k → k.whole ≡ spki → (o : Option Piece) → k.algorithm.parameters ≡ o
        → point_under k.bits k.algorithm.oid o ≡ Ok point → IsRingKey spki point
    of_key k is text None has e = absurd cc
    of_key k is text (Some p) has e =
        let h = point_under_takes k.bits k.algorithm.oid p point e in
        record {
          info = k;
          is = is;
          text = text;
          parameters = p;
          has = has;
          elliptic = h.elliptic;
          identifier = h.identifier;
          curve = h.curve;
          bits = h.point_is;
        }

    of_info : (o : Option KeyInfo) → ((k : KeyInfo) → o ≡ Some k → IsKeyInfo k × (k.whole ≡ spki))
        → point_of_info o ≡ Ok point → IsRingKey spki point
    of_info None h e = absurd cc
    of_info (Some k) h e = let t = h k refl in of_key k t.0 t.1 k.algorithm.parameters refl e

pub point_of_known : (spki : List ℕ) (k : KeyInfo) → IsKeyInfo k → k.whole ≡ spki → point_of spki ≡ point_in k
unfolding point_of
point_of_known spki k is text = ap (λ (o : Option KeyInfo). point_of_info o) (whole_key_info_again spki k is text)

pub point_of_none : (spki : List ℕ) → IsBytes spki → ((k : KeyInfo) → IsKeyInfo k → k.whole ≢ spki)
    → point_of spki ≡ Err KeyMalformed
unfolding point_of
point_of_none spki fits none = of_info (whole_key_info spki) (λ k is. whole_key_info_takes spki fits k is)
  where
    of_info : (o : Option KeyInfo) → ((k : KeyInfo) → o ≡ Some k → IsKeyInfo k × (k.whole ≡ spki))
        → point_of_info o ≡ Err KeyMalformed
    of_info None h = refl
    of_info (Some k) h = let t = h k refl in absurd (none k t.0 t.1)

pub found_key : (spki : List ℕ) → IsBytes spki → (r : Result RingKey KeyringError)
    → Answers OutOfMemory (λ (k : RingKey). k.point) r (point_of spki)
    → IfOk r (λ k. IsRingKey spki k.point)
found_key spki fits (Ok k) e = point_of_takes spki fits k.point e
found_key spki fits (Err d) e = tt
