-- What is spelled of a length is the definite form with the fewest octets, and nothing else is.
use Rattle.std.proofs.Common.{◌≡◌, ℕ, suc, ◌+◌, ◌-◌, ◌*◌, ◌/◌, ◌%◌, ◌^◌, ◌<◌, ◌≤◌, List, [], ◌∷◌, length, sym, ap}
use Rattle.std.proofs.Common.{subst, ◌∙◌, arith, inl, inr}
use Rattle.std.specs.List.{AllByRecursion}
use Rattle.std.proofs.lemmas.Bool.{cases_lt}
use Rattle.std.proofs.Math.Nat.{pow-suc, one-le-pow}
use Rattle.sig_der.specs.Element.{spelled_length}
use Rattle.sig_der.specs.Length.{octets_number, IsLongForm, IsLength}
use Rattle.sig_der.proofs.Lengths.{spelled_short, spelled_one, spelled_two, spelled_three, spelled_four}

-- ---- what is spelled is such a form

long_one : (n : ℕ) → 128 ≤ n → n < 256 → IsLongForm n (spelled_length n)
long_one n low high =
    let same : n * 1 + 0 ≡ n = omega arith in
    let few : 1 ≤ n = omega arith in
    record {
      octets = n ∷ [];
      each = (high, tt);
      number = same;
      long = low;
      fewest = few;
      spelled = spelled_one n low high;
    }

long_two : (n : ℕ) → 256 ≤ n → n < 65536 → IsLongForm n (spelled_length n)
long_two n low high =
    let a : n / 256 < 256 = omega arith in
    let b : n % 256 < 256 = omega arith in
    let same : n / 256 * 256 + (n % 256 * 1 + 0) ≡ n = omega arith in
    record {
      octets = (n / 256) ∷ (n % 256) ∷ [];
      each = (a, (b, tt));
      number = same;
      long = omega arith;
      fewest = low;
      spelled = spelled_two n low high;
    }

long_three : (n : ℕ) → 65536 ≤ n → n < 16777216 → IsLongForm n (spelled_length n)
long_three n low high =
    let a : n / 65536 < 256 = omega arith in
    let b : n / 256 % 256 < 256 = omega arith in
    let c : n % 256 < 256 = omega arith in
    let same : n / 65536 * 65536 + (n / 256 % 256 * 256 + (n % 256 * 1 + 0)) ≡ n = omega arith in
    record {
      octets = (n / 65536) ∷ (n / 256 % 256) ∷ (n % 256) ∷ [];
      each = (a, (b, (c, tt)));
      number = same;
      long = omega arith;
      fewest = low;
      spelled = spelled_three n low high;
    }

long_four : (n : ℕ) → 16777216 ≤ n → n < 2 ^ 32 → IsLongForm n (spelled_length n)
long_four n low high =
    let a : n / 16777216 < 256 = omega arith in
    let b : n / 65536 % 256 < 256 = omega arith in
    let c : n / 256 % 256 < 256 = omega arith in
    let d : n % 256 < 256 = omega arith in
    let same : n / 16777216 * 16777216 + (n / 65536 % 256 * 65536 + (n / 256 % 256 * 256 + (n % 256 * 1 + 0))) ≡ n =
    omega arith in
    record {
      octets = (n / 16777216) ∷ (n / 65536 % 256) ∷ (n / 256 % 256) ∷ (n % 256) ∷ [];
      each = (a, (b, (c, (d, tt))));
      number = same;
      long = omega arith;
      fewest = low;
      spelled = spelled_four n low;
    }

pub spelled_is : (n : ℕ) → n < 2 ^ 32 → IsLength n (spelled_length n)
spelled_is n short =
    elim (cases_lt n 128) [
      | inl high ↦ inl (record { bits = high; spelled = spelled_short n high })
      | inr from128 ↦ inr (elim (cases_lt n 256) [
        | inl high ↦ long_one n from128 high
        | inr from256 ↦ elim (cases_lt n 65536) [
          | inl high ↦ long_two n from256 high
          | inr from65536 ↦ elim (cases_lt n 16777216) [
            | inl high ↦ long_three n from65536 high
            | inr from16777216 ↦ long_four n from16777216 short
          ]
        ]
      ])
    ]

-- ---- such a form is what is spelled

-- more than four octets are more than the number needs
past_four : (k : ℕ) → 2 ^ 32 ≤ 256 ^ suc (suc (suc (suc k)))
past_four k =
    let some : 1 ≤ 256 ^ k = one-le-pow k 256 (omega arith) in
    let one = pow-suc 256 k in
    let two = pow-suc 256 (suc k) in
    let three = pow-suc 256 (suc (suc k)) in
    let four = pow-suc 256 (suc (suc (suc k))) in
    omega (arith, some, one, two, three, four)

long_is : (n : ℕ) (octets : List ℕ) → AllByRecursion (λ octet. octet < 256) octets → octets_number octets ≡ n → 128 ≤ n
    → 256 ^ (length octets - 1) ≤ n → n < 2 ^ 32 → (128 + length octets) ∷ octets ≡ spelled_length n
long_is n [] each number long fewest short = absurd (omega (arith, number))
long_is n (a ∷ []) each number long fewest short =
    let sum : a * 1 + 0 ≡ n = number in
    let high : a < 256 = each.0 in
    let is : a ≡ n = omega arith in
    ap (λ (m : ℕ). 129 ∷ m ∷ []) is ∙ sym (spelled_one n long (omega arith))
long_is n (a ∷ b ∷ []) each number long fewest short =
    let sum : a * 256 + (b * 1 + 0) ≡ n = number in
    let few : 256 ≤ n = fewest in
    let below : (a < 256) × (b < 256) = (each.0, each.1.0) in
    let x : a ≡ n / 256 = omega (arith, below.0, below.1) in
    let y : b ≡ n % 256 = omega (arith, below.0, below.1) in
    ap (λ (m : ℕ). 130 ∷ m ∷ b ∷ []) x ∙ ap (λ (m : ℕ). 130 ∷ (n / 256) ∷ m ∷ []) y
    ∙ sym (spelled_two n few (omega (arith, below.0, below.1)))
long_is n (a ∷ b ∷ c ∷ []) each number long fewest short =
    let sum : a * 65536 + (b * 256 + (c * 1 + 0)) ≡ n = number in
    let few : 65536 ≤ n = fewest in
    let at : a < 256 = each.0 in
    let bt : b < 256 = each.1.0 in
    let ct : c < 256 = each.1.1.0 in
    let x : a ≡ n / 65536 = omega arith in
    let y : b ≡ n / 256 % 256 = omega arith in
    let z : c ≡ n % 256 = omega arith in
    ap (λ (m : ℕ). 131 ∷ m ∷ b ∷ c ∷ []) x ∙ ap (λ (m : ℕ). 131 ∷ (n / 65536) ∷ m ∷ c ∷ []) y
    ∙ ap (λ (m : ℕ). 131 ∷ (n / 65536) ∷ (n / 256 % 256) ∷ m ∷ []) z
    ∙ sym (spelled_three n few (omega arith))
long_is n (a ∷ b ∷ c ∷ d ∷ []) each number long fewest short =
    let sum : a * 16777216 + (b * 65536 + (c * 256 + (d * 1 + 0))) ≡ n = number in
    let few : 16777216 ≤ n = fewest in
    let at : a < 256 = each.0 in
    let bt : b < 256 = each.1.0 in
    let ct : c < 256 = each.1.1.0 in
    let dt : d < 256 = each.1.1.1.0 in
    let x : a ≡ n / 16777216 = omega arith in
    let y : b ≡ n / 65536 % 256 = omega arith in
    let z : c ≡ n / 256 % 256 = omega arith in
    let w : d ≡ n % 256 = omega arith in
    ap (λ (m : ℕ). 132 ∷ m ∷ b ∷ c ∷ d ∷ []) x ∙ ap (λ (m : ℕ). 132 ∷ (n / 16777216) ∷ m ∷ c ∷ d ∷ []) y
    ∙ ap (λ (m : ℕ). 132 ∷ (n / 16777216) ∷ (n / 65536 % 256) ∷ m ∷ d ∷ []) z
    ∙ ap (λ (m : ℕ). 132 ∷ (n / 16777216) ∷ (n / 65536 % 256) ∷ (n / 256 % 256) ∷ m ∷ []) w
    ∙ sym (spelled_four n few)
long_is n (a ∷ b ∷ c ∷ d ∷ e ∷ rest) each number long fewest short =
    let less : suc (suc (suc (suc (suc (length rest))))) - 1 ≡ suc (suc (suc (suc (length rest)))) = omega arith in
    let few = subst (λ (k : ℕ). 256 ^ k ≤ n) less fewest in
    absurd (omega (arith, past_four (length rest), few))

pub is_spelled : (n : ℕ) (text : List ℕ) → n < 2 ^ 32 → IsLength n text → text ≡ spelled_length n
is_spelled n text short (inl form) = form.spelled ∙ sym (spelled_short n form.bits)
is_spelled n text short (inr form) =
    form.spelled ∙ long_is n form.octets form.each form.number form.long form.fewest short
