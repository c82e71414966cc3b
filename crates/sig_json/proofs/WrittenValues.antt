-- Values that are read back: integers, bytes, lists.
use Rattle.std.proofs.Common.{◌≡◌, ℕ, suc, ◌<◌, ◌^◌, ℤ, pos, negsuc, FitsSigned, w64, inl, inr, List, [], ◌∷◌, length}
use Rattle.std.proofs.Common.{Some, refl, arith}
use Rattle.std.proofs.lemmas.Bool.{lt-ltb, ne_eqb, cases_eq}
use Rattle.std.proofs.lemmas.Fmt.{digits_decimal, digits_value-decimal, decimal_nonempty}
use Rattle.std.specs.Fmt.{decimal}
use Rattle.sig_base.specs.Base64.{base64_bytes, base64_text}
use Rattle.sig_json.proofs.Numerals.{digits_model}
use Rattle.sig_json.specs.Writing.{IsReadAs, bytes_tree, integer_tree}
use Rattle.sig_json.specs.Integer.{natural_text, integer_text}
use Rattle.sig_json.specs.Kinds.{bytes_of, i64_of}

-- ---- integers

natural_text-decimal : (n : ℕ) → n < 2 ^ 64 → natural_text (decimal n) ≡ Some n
unfolding natural_text
natural_text-decimal n h =
    rw (
      digits_decimal digits_model n h,
      lt-ltb 0 (length (decimal n)) (decimal_nonempty n h),
      digits_value-decimal digits_model n h,
    )
    refl

integer_text-natural : (text : List ℕ) (n : ℕ) → natural_text text ≡ Some n → integer_text text ≡ Some (pos n)
unfolding integer_text natural_text
integer_text-natural [] n e = absurd cc
integer_text-natural (c ∷ cs) n e =
    elim (cases_eq c 45) [
      | inl minus ↦ absurd (let none = rw minus at e in cc)
      | inr other ↦ rw (ne_eqb c 45 other, e) refl
    ]

integer_text-minus : (n : ℕ) → natural_text (decimal (suc n)) ≡ Some (suc n)
    → integer_text (45 ∷ decimal (suc n)) ≡ Some (negsuc n)
unfolding integer_text
integer_text-minus n e = rw e refl

pub integer_back : (z : ℤ) → FitsSigned w64 z → IsReadAs i64_of (integer_tree z) z
unfolding integer_tree i64_of
integer_back (pos n) fits =
    let small : n < 2 ^ 63 = fits.sfits in (
      rw (integer_text-natural (decimal n) n (natural_text-decimal n (omega arith)), lt-ltb n (2 ^ 63) small)
          refl,
      refl,
    )
integer_back (negsuc n) fits =
    let small : n < 2 ^ 63 = fits.sfits in
    (rw (integer_text-minus n (natural_text-decimal (suc n) (omega arith)), lt-ltb n (2 ^ 63) small) refl, refl)

-- ---- bytes

pub bytes_back : (bytes text : List ℕ) → text ≡ base64_text bytes → base64_bytes text ≡ Some bytes
    → IsReadAs bytes_of (bytes_tree bytes) bytes
unfolding bytes_tree bytes_of
bytes_back bytes text e back = (rw (← e, back) refl, refl)

pub ruleset values = (integer_back, bytes_back)
