-- Key usage by its bits, and the INTEGER of a path length: what is read is what the standards say, and what they say
-- is read.
use Rattle.std.proofs.Common.{◌≡◌, ◌≢◌, ℕ, ◌+◌, ◌*◌, ◌/◌, ◌%◌, ◌^◌, ◌<◌, ◌≤◌, Bool, true, false, true≢false, not, ◌&&◌}
use Rattle.std.proofs.Common.{ltb, eqb, List, [], ◌∷◌, Some, None, refl, sym, ap, subst, ◌∙◌, arith, inl, inr}
use Rattle.std.proofs.lemmas.Bool.{cases_Bool, cases_lt, lt-ltb, le-ltb, ltb-true, eqb-true, eqb-false, ne_eqb}
use Rattle.std.proofs.lemmas.Bool.{cond-true, cond-false, and_left, and_right, and_from, not-true}
use Rattle.std.proofs.lemmas.Nat.{pow_pos}
use Rattle.std.proofs.lemmas.Nat.Bits.{and_pow, bit_at-lt}
use Rattle.std.specs.Bool.{one_answer}
use Rattle.std.specs.Prelude.{bit_and}
use Rattle.sig_base.proofs.OptionSteps.{when_is, unless_is, some, some_is}
use Rattle.sig_certificate.specs.declared.values.KeyUsage.{KeyUsage}
use Rattle.sig_certificate.specs.Values.{has_bit, usage_of, natural_of}
use Rattle.sig_certificate.specs.ExtensionValues.{bit, IsKeyUsage, IsNatural}

-- ---- one bit of an octet

has_bit_is : (byte k : ℕ) → has_bit byte (2 ^ k) ≡ true → byte / 2 ^ k % 2 ≡ 1
has_bit_is byte k e =
    let some_left : bit_and byte (2 ^ k) ≢ 0 =
    eqb-false (bit_and byte (2 ^ k)) 0 (not-true (eqb (bit_and byte (2 ^ k)) 0) e) in
    let small = bit_at-lt byte k in
    elim (cases_lt (byte / 2 ^ k % 2) 1) [
      | inl lt ↦
          let none : byte / 2 ^ k % 2 ≡ 0 = omega (arith, lt) in
          let nothing : 0 * 2 ^ k ≡ 0 = omega arith in
          absurd (some_left (and_pow byte k ∙ ap (λ (w : ℕ). w * 2 ^ k) none ∙ nothing))
      | inr ge ↦ omega (arith, small, ge)
    ]

has_bit_again : (byte k : ℕ) → byte / 2 ^ k % 2 ≡ 1 → has_bit byte (2 ^ k) ≡ true
has_bit_again byte k e =
    let one : bit_and byte (2 ^ k) ≡ 1 * 2 ^ k = and_pow byte k ∙ ap (λ (w : ℕ). w * 2 ^ k) e in
    let positive = pow_pos k in
    let some_left : bit_and byte (2 ^ k) ≢ 0 = omega (arith, one, positive) in
    ap (λ (b : Bool). not b) (ne_eqb (bit_and byte (2 ^ k)) 0 some_left)

-- ---- key usage

abbrev usage_with : Bool → Bool → KeyUsage
usage_with digital_signature key_cert_sign =
    record { digital_signature = digital_signature; key_cert_sign = key_cert_sign }

pub usage_takes : (content : List ℕ) (k : KeyUsage) → usage_of content ≡ Some k → IsKeyUsage content k
unfolding usage_of
usage_takes [] k e = absurd cc
usage_takes (u ∷ []) k e =
    let w = when_is (eqb u 0) (some (usage_with false false)) k e in
    let none = eqb-true u 0 w.0 in
    subst (λ (x : KeyUsage). IsKeyUsage (u ∷ []) x) (some_is _ k w.1) (record {
      octets = [];
      is = record { unused = u; few = omega (arith, none); none = λ empty. none; spelled = refl };
      digital_signature = (λ h. absurd (true≢false (sym h)), λ h. absurd cc);
      key_cert_sign = (λ h. absurd (true≢false (sym h)), λ h. absurd cc);
    })
usage_takes (u ∷ first ∷ rest) k e =
    let w = when_is (ltb u 8) (some (usage_with (has_bit first 128) (has_bit first 4))) k e in
    subst (λ (x : KeyUsage). IsKeyUsage (u ∷ first ∷ rest) x) (some_is _ k w.1) (record {
      octets = first ∷ rest;
      is = record { unused = u; few = ltb-true u 8 w.0; none = λ empty. absurd cc; spelled = refl };
      digital_signature = (has_bit_is first 7, has_bit_again first 7);
      key_cert_sign = (has_bit_is first 2, has_bit_again first 2);
    })

same_usage : (k : KeyUsage) (d s : Bool) → k.digital_signature ≡ d → k.key_cert_sign ≡ s → usage_with d s ≡ k
same_usage k d s a b =
    ap (λ (w : Bool). usage_with w s) (sym a) ∙ ap (λ (w : Bool). usage_with k.digital_signature w) (sym b)

octets_again : (u : ℕ) (octets : List ℕ) (k : KeyUsage) → IsKeyUsage (u ∷ octets) k → u < 8 → (octets ≡ [] → u ≡ 0)
    → ((k.digital_signature ≡ true → bit octets 0 ≡ 1) × (bit octets 0 ≡ 1 → k.digital_signature ≡ true))
    → ((k.key_cert_sign ≡ true → bit octets 5 ≡ 1) × (bit octets 5 ≡ 1 → k.key_cert_sign ≡ true))
    → usage_of (u ∷ octets) ≡ Some k
unfolding usage_of
octets_again u [] k is few none d s =
    let zero_left : u ≡ 0 = none refl in
    let no_d : k.digital_signature ≡ false =
    one_answer k.digital_signature false d (λ h. absurd (true≢false (sym h)), λ h. absurd cc) in
    let no_s : k.key_cert_sign ≡ false =
    one_answer k.key_cert_sign false s (λ h. absurd (true≢false (sym h)), λ h. absurd cc) in
    cond-true (eqb u 0) (some (usage_with false false)) None (rw zero_left refl)
    ∙ ap (λ (w : KeyUsage). some w) (same_usage k false false no_d no_s)
octets_again u (first ∷ rest) k is few none d s =
    let same_d : k.digital_signature ≡ has_bit first 128 =
    one_answer k.digital_signature (has_bit first 128) d (has_bit_is first 7, has_bit_again first 7) in
    let same_s : k.key_cert_sign ≡ has_bit first 4 =
    one_answer k.key_cert_sign (has_bit first 4) s (has_bit_is first 2, has_bit_again first 2) in
    cond-true (ltb u 8) (some (usage_with (has_bit first 128) (has_bit first 4))) None (lt-ltb u 8 few)
    ∙ ap (λ (w : KeyUsage). some w) (same_usage k (has_bit first 128) (has_bit first 4) same_d same_s)

pub usage_again : (content : List ℕ) (k : KeyUsage) → IsKeyUsage content k → usage_of content ≡ Some k
usage_again content k is =
    ap (λ (w : List ℕ). usage_of w) is.is.spelled
    ∙ octets_again is.is.unused is.octets k
    (subst (λ (w : List ℕ). IsKeyUsage w k) is.is.spelled is) is.is.few is.is.none is.digital_signature
    is.key_cert_sign

-- ---- a natural number

not_padded : (a b : ℕ) → (eqb a 0 && ltb b 128) ≡ false → a ≡ 0 → 128 ≤ b
not_padded a b e zero_first =
    elim (cases_lt b 128) [
      | inl lt ↦
          let both_hold = and_from (eqb a 0) (ltb b 128) (rw zero_first refl) (lt-ltb b 128 lt) in
          absurd (true≢false (sym both_hold ∙ e))
      | inr le ↦ le
    ]

padded_not : (a b : ℕ) → (a ≡ 0 → 128 ≤ b) → (eqb a 0 && ltb b 128) ≡ false
padded_not a b h =
    elim (cases_Bool (eqb a 0)) [
      | inl is ↦ and_right (eqb a 0) (ltb b 128) (le-ltb b 128 (h (eqb-true a 0 is)))
      | inr not_so ↦ and_left (eqb a 0) (ltb b 128) not_so
    ]

pub number_takes : (content : List ℕ) (n : ℕ) → natural_of content ≡ Some n → IsNatural content n
unfolding natural_of
number_takes [] n e = absurd cc
number_takes (a ∷ []) n e =
    let w = when_is (ltb a 128) (some a) n e in
    let same = some_is a n w.1 in
    let value : a * 1 + 0 ≡ n = omega (arith, same) in
    record {
      some = omega arith;
      most = omega arith;
      not_negative = ltb-true a 128 w.0;
      shortest = λ long. absurd (omega (arith, long));
      value = value;
    }
number_takes (a ∷ b ∷ []) n e =
    let g = unless_is (eqb a 0 && ltb b 128) _ n e in
    let w = when_is (ltb a 128) (some (a * 256 + b)) n g.1 in
    let same = some_is (a * 256 + b) n w.1 in
    let value : a * 256 + (b * 1 + 0) ≡ n = omega (arith, same) in
    record {
      some = omega arith;
      most = omega arith;
      not_negative = ltb-true a 128 w.0;
      shortest = λ long. not_padded a b g.0;
      value = value;
    }
number_takes (a ∷ b ∷ c ∷ []) n e =
    let g = unless_is (eqb a 0 && ltb b 128) _ n e in
    let w = when_is (ltb a 128) (some (a * 65536 + b * 256 + c)) n g.1 in
    let same = some_is (a * 65536 + b * 256 + c) n w.1 in
    let value : a * 65536 + (b * 256 + (c * 1 + 0)) ≡ n = omega (arith, same) in
    record {
      some = omega arith;
      most = omega arith;
      not_negative = ltb-true a 128 w.0;
      shortest = λ long. not_padded a b g.0;
      value = value;
    }
number_takes (a ∷ b ∷ c ∷ d ∷ []) n e =
    let g = unless_is (eqb a 0 && ltb b 128) _ n e in
    let w = when_is (ltb a 128) (some (a * 16777216 + b * 65536 + c * 256 + d)) n g.1 in
    let same = some_is (a * 16777216 + b * 65536 + c * 256 + d) n w.1 in
    let value : a * 16777216 + (b * 65536 + (c * 256 + (d * 1 + 0))) ≡ n = omega (arith, same) in
    record {
      some = omega arith;
      most = omega arith;
      not_negative = ltb-true a 128 w.0;
      shortest = λ long. not_padded a b g.0;
      value = value;
    }
number_takes (a ∷ b ∷ c ∷ d ∷ x ∷ rest) n e = absurd cc

pub number_again : (content : List ℕ) (n : ℕ) → IsNatural content n → natural_of content ≡ Some n
unfolding natural_of
number_again [] n is = absurd (let low = is.some in omega (arith, low))
number_again (a ∷ []) n is =
    let value : a * 1 + 0 ≡ n = is.value in
    let same : a ≡ n = omega (arith, value) in
    cond-true (ltb a 128) (some a) None (lt-ltb a 128 is.not_negative) ∙ ap (λ (w : ℕ). some w) same
number_again (a ∷ b ∷ []) n is =
    let value : a * 256 + (b * 1 + 0) ≡ n = is.value in
    let same : a * 256 + b ≡ n = omega (arith, value) in
    cond-false (eqb a 0 && ltb b 128) None _ (padded_not a b (is.shortest (omega arith)))
    ∙ cond-true (ltb a 128) (some (a * 256 + b)) None (lt-ltb a 128 is.not_negative) ∙ ap (λ (w : ℕ). some w) same
number_again (a ∷ b ∷ c ∷ []) n is =
    let value : a * 65536 + (b * 256 + (c * 1 + 0)) ≡ n = is.value in
    let same : a * 65536 + b * 256 + c ≡ n = omega (arith, value) in
    cond-false (eqb a 0 && ltb b 128) None _ (padded_not a b (is.shortest (omega arith)))
    ∙ cond-true (ltb a 128) (some (a * 65536 + b * 256 + c)) None (lt-ltb a 128 is.not_negative)
    ∙ ap (λ (w : ℕ). some w) same
number_again (a ∷ b ∷ c ∷ d ∷ []) n is =
    let value : a * 16777216 + (b * 65536 + (c * 256 + (d * 1 + 0))) ≡ n = is.value in
    let same : a * 16777216 + b * 65536 + c * 256 + d ≡ n = omega (arith, value) in
    cond-false (eqb a 0 && ltb b 128) None _ (padded_not a b (is.shortest (omega arith)))
    ∙ cond-true (ltb a 128) (some (a * 16777216 + b * 65536 + c * 256 + d)) None (lt-ltb a 128 is.not_negative)
    ∙ ap (λ (w : ℕ). some w) same
number_again (a ∷ b ∷ c ∷ d ∷ x ∷ rest) n is = absurd (let most = is.most in omega (arith, most))
