-- Why a text is not a key of a ring: each fault, and when it comes.
use Rattle.std.proofs.Common.{◌≡◌, ◌≢◌, ◌⊎◌, ℕ, Bool, true, false, not, eqb, cond, ◌&&◌, List, Option, Some, None}
use Rattle.std.proofs.Common.{Result, Ok, Err, refl, sym, ap, ◌∙◌, inl, inr}
use Rattle.std.specs.Prelude.{bytes_eq}
use Rattle.std.proofs.lemmas.Bool.{cond-true, cond-false, and_parts, and_from}
use Rattle.std.proofs.lemmas.Slice.Eq.{bytes_eq-Decides}
use Rattle.sig_base.specs.Answers.{Answers, ComesWhere}
use Rattle.sig_der.specs.Reading.{Piece}
use Rattle.sig_der.specs.KeyInfo.{KeyInfo, IsKeyInfo, is_empty, whole_key_info}
use Rattle.sig_der.specs.Tag.{OBJECT_IDENTIFIER}
use Rattle.sig_der.specs.ObjectIdentifiers.{ec_public_key, p256, rsa}
use Rattle.sig_der.proofs.Bytes.{IsBytes}
use Rattle.sig_der.proofs.KeyInfos.{whole_key_info_takes, whole_key_info_again}
use Rattle.sig_timestamp.specs.declared.keyring_error.KeyringError.{KeyringError}
use Rattle.sig_timestamp.specs.declared.keyring_error.KeyringError.TheVariants.{KeyMalformed, AlgoUnsupported}
use Rattle.sig_timestamp.specs.declared.keyring_error.KeyringError.TheVariants.{OutOfMemory}
use Rattle.sig_timestamp.specs.RingKey.{RingKey}
use Rattle.sig_timestamp.specs.Keyring.{IsRingKey, AreKnown, IsMalformedKey, IsOtherKey, is_identifier, is_null}
use Rattle.sig_timestamp.specs.Keyring.{point_under, point_of}
use Rattle.sig_timestamp.proofs.KeyLaws.{point_of_takes, point_of_known, point_of_none}
use Rattle.sig_base.proofs.ResultRuleLaws.{error_where}

abbrev Point : Type 0
Point = Result (List ℕ) KeyringError

-- ---- the algorithm and its parameters

module _ (bits oid : List ℕ) (p : Piece) where
  abbrev Curve : Point
  Curve = cond (bytes_eq oid ec_public_key && bytes_eq p.content p256) (Ok bits) (Err AlgoUnsupported)

  abbrev Null : Point
  Null = cond (is_null p && bytes_eq oid rsa) (Err AlgoUnsupported) (Err KeyMalformed)

  named : is_identifier p ≡ true → point_under bits oid (Some p) ≡ Curve
  named e = cond-true (is_identifier p) _ _ e

  unnamed : is_identifier p ≡ false → point_under bits oid (Some p) ≡ Null
  unnamed e = cond-false (is_identifier p) _ _ e

  null_of_rsa : (is_null p ≡ true) × (oid ≡ rsa) → (is_null p && bytes_eq oid rsa) ≡ true
  null_of_rsa h = and_from (is_null p) (bytes_eq oid rsa) h.0 ((bytes_eq-Decides oid rsa).1 h.1)

  -- known parameters: the point, or another kind of key
  known_some : AreKnown oid (Some p)
      → (point_under bits oid (Some p) ≡ Ok bits) ⊎ (point_under bits oid (Some p) ≡ Err AlgoUnsupported)
  known_some known = by_name (is_identifier p) refl known
    where
      by_curve : (b : Bool)
          → (cond b (Ok bits) (Err AlgoUnsupported) ≡ Ok bits)
          ⊎ (cond b (Ok bits) (Err AlgoUnsupported) ≡ Err AlgoUnsupported)
      by_curve true = inl refl
      by_curve false = inr refl

      by_name : (b : Bool) → is_identifier p ≡ b → AreKnown oid (Some p)
          → (point_under bits oid (Some p) ≡ Ok bits) ⊎ (point_under bits oid (Some p) ≡ Err AlgoUnsupported)
      by_name true e h =
          elim (by_curve (bytes_eq oid ec_public_key && bytes_eq p.content p256)) [
            | inl x ↦ inl (named e ∙ x)
            | inr x ↦ inr (named e ∙ x)
          ]
      by_name false e (inl h) = let wrong = sym h ∙ e in absurd cc
      by_name false e (inr h) = inr (unnamed e ∙ cond-true (is_null p && bytes_eq oid rsa) _ _ (null_of_rsa h))

  unknown_some : ¬ AreKnown oid (Some p) → point_under bits oid (Some p) ≡ Err KeyMalformed
  unknown_some unknown = by_name (is_identifier p) refl
    where
      by_null : (b : Bool) → (is_null p && bytes_eq oid rsa) ≡ b → Null ≡ Err KeyMalformed
      by_null true e =
          let parts = and_parts (is_null p) (bytes_eq oid rsa) e in
          absurd (unknown (inr (parts.0, (bytes_eq-Decides oid rsa).0 parts.1)))
      by_null false e = cond-false (is_null p && bytes_eq oid rsa) _ _ e

      by_name : (b : Bool) → is_identifier p ≡ b → point_under bits oid (Some p) ≡ Err KeyMalformed
      by_name true e = absurd (unknown (inl e))
      by_name false e = unnamed e ∙ by_null (is_null p && bytes_eq oid rsa) refl

  known_or_not : AreKnown oid (Some p) ⊎ ¬ AreKnown oid (Some p)
  known_or_not = by_name (is_identifier p) refl
    where
      by_null : (b : Bool) → is_identifier p ≡ false → (is_null p && bytes_eq oid rsa) ≡ b
          → AreKnown oid (Some p) ⊎ ¬ AreKnown oid (Some p)
      by_null true f e =
          let parts = and_parts (is_null p) (bytes_eq oid rsa) e in
          inl (inr (parts.0, (bytes_eq-Decides oid rsa).0 parts.1))
      by_null false f e = inr (λ known. neither f e known)
        where
          neither : is_identifier p ≡ false → (is_null p && bytes_eq oid rsa) ≡ false → AreKnown oid (Some p) → ⊥
          neither f e (inl h) = let wrong = sym h ∙ f in cc
          neither f e (inr h) = let wrong = sym (null_of_rsa h) ∙ e in cc

      by_name : (b : Bool) → is_identifier p ≡ b → AreKnown oid (Some p) ⊎ ¬ AreKnown oid (Some p)
      by_name true e = inl (inl e)
      by_name false e = by_null (is_null p && bytes_eq oid rsa) e refl

pub known_point : (bits oid : List ℕ) (o : Option Piece) → AreKnown oid o
    → (point_under bits oid o ≡ Ok bits) ⊎ (point_under bits oid o ≡ Err AlgoUnsupported)
known_point bits oid None known = inr refl
known_point bits oid (Some p) known = known_some bits oid p known

pub unknown_point : (bits oid : List ℕ) (o : Option Piece) → ¬ AreKnown oid o
    → point_under bits oid o ≡ Err KeyMalformed
unknown_point bits oid None unknown = absurd (unknown tt)
unknown_point bits oid (Some p) unknown = unknown_some bits oid p unknown

pub cases_known : (bits oid : List ℕ) (o : Option Piece) → AreKnown oid o ⊎ ¬ AreKnown oid o
cases_known bits oid None = inl tt
cases_known bits oid (Some p) = known_or_not bits oid p

-- ---- a text

ring_again : (spki x : List ℕ) → IsRingKey spki x → point_of spki ≡ Ok x
ring_again spki x ring =
    let k = ring.info in
    let p = ring.parameters in
    let tag = ap (λ (n : ℕ). eqb n OBJECT_IDENTIFIER) ring.identifier in
    let content = ap (λ (w : List ℕ). not (is_empty w)) ring.curve in
    let elliptic = (bytes_eq-Decides k.algorithm.oid ec_public_key).1 ring.elliptic in
    let curve = (bytes_eq-Decides p.content p256).1 ring.curve in
    point_of_known spki k ring.is ring.text ∙ ap (λ (o : Option Piece). point_under k.bits k.algorithm.oid o) ring.has
    ∙ named k.bits k.algorithm.oid p (and_from _ _ tag content) ∙ cond-true _ _ _ (and_from _ _ elliptic curve)
    ∙ ap (λ (w : List ℕ). Ok w) ring.bits

module _ (spki : List ℕ) (fits : IsBytes spki) where
  malformed_to : point_of spki ≡ Err KeyMalformed → IsMalformedKey spki
  malformed_to e k is text known =
      elim (known_point k.bits k.algorithm.oid k.algorithm.parameters known) [
        | inl x ↦ let wrong = sym e ∙ point_of_known spki k is text ∙ x in cc
        | inr x ↦ let wrong = sym e ∙ point_of_known spki k is text ∙ x in cc
      ]

  by_info : (o : Option KeyInfo) → whole_key_info spki ≡ o
      → ((k : KeyInfo) → IsKeyInfo k → k.whole ≢ spki) ⊎ ((k : KeyInfo) × (IsKeyInfo k × (k.whole ≡ spki)))
  by_info None e = inl (λ k is text. let some = sym (whole_key_info_again spki k is text) ∙ e in cc)
  by_info (Some k) e = let t = whole_key_info_takes spki fits k e in inr (k, (t.0, t.1))

  malformed_from : IsMalformedKey spki → point_of spki ≡ Err KeyMalformed
  malformed_from bad =
      elim (by_info (whole_key_info spki) refl) [
        | inl none ↦ point_of_none spki fits none
        | inr x ↦
            point_of_known spki x.0 x.1.0 x.1.1
            ∙ unknown_point x.0.bits x.0.algorithm.oid x.0.algorithm.parameters (bad x.0 x.1.0 x.1.1)
      ]

  other_to : point_of spki ≡ Err AlgoUnsupported → IsOtherKey spki
  other_to e = of_info (by_info (whole_key_info spki) refl)
    where
      of_known : (k : KeyInfo) → IsKeyInfo k → k.whole ≡ spki
          → AreKnown k.algorithm.oid k.algorithm.parameters ⊎ ¬ AreKnown k.algorithm.oid k.algorithm.parameters
          → IsOtherKey spki
      of_known k is text (inl known) =
          record {
            info = k;
            is = is;
            text = text;
            known = known;
            other = λ x ring. let wrong = sym (ring_again spki x ring) ∙ e in cc;
          }
      of_known k is text (inr unknown) =
          let wrong = sym e ∙ point_of_known spki k is text
          ∙ unknown_point k.bits k.algorithm.oid k.algorithm.parameters unknown in absurd cc

      of_info : ((k : KeyInfo) → IsKeyInfo k → k.whole ≢ spki) ⊎ ((k : KeyInfo) × (IsKeyInfo k × (k.whole ≡ spki)))
          → IsOtherKey spki
      of_info (inl none) = let wrong = sym e ∙ point_of_none spki fits none in absurd cc
      of_info (inr x) = of_known x.0 x.1.0 x.1.1 (cases_known x.0.bits x.0.algorithm.oid x.0.algorithm.parameters)

  other_from : IsOtherKey spki → point_of spki ≡ Err AlgoUnsupported
  other_from o =
      elim (known_point o.info.bits o.info.algorithm.oid o.info.algorithm.parameters o.known) [
        | inl x ↦
            let found = point_of_known spki o.info o.is o.text ∙ x in
            absurd (o.other o.info.bits (point_of_takes spki fits o.info.bits found))
        | inr x ↦ point_of_known spki o.info o.is o.text ∙ x
      ]

  module _ (r : Result RingKey KeyringError) (is : Answers OutOfMemory (λ (k : RingKey). k.point) r (point_of spki))
    where
      pub malformed_key : ComesWhere OutOfMemory r (Err KeyMalformed) (IsMalformedKey spki)
      malformed_key = error_where OutOfMemory (λ (k : RingKey). k.point) r (point_of spki) KeyMalformed _ is (λ e. cc)
          malformed_to malformed_from

      pub other_key : ComesWhere OutOfMemory r (Err AlgoUnsupported) (IsOtherKey spki)
      other_key = error_where OutOfMemory (λ (k : RingKey). k.point) r (point_of spki) AlgoUnsupported _ is (λ e. cc)
          other_to other_from
