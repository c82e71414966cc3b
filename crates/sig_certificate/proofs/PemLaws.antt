-- One line more.
use Rattle.std.proofs.Common.{◌≡◌, ◌≢◌, ℕ, zero, suc, ◌≤◌, min, List, [], ◌∷◌, ◌++◌, length, take, drop, refl, sym, ap}
use Rattle.std.proofs.Common.{◌∙◌, append_assoc, arith, inl, inr}
use Rattle.std.proofs.lemmas.Bool.{cases_lt}
use Rattle.std.proofs.lemmas.List.{append-nil, length-drop, take_all, drop_all}
use Rattle.base64.specs.Engines.{standard}
use Rattle.base64.specs.GeneralPurpose.{encode_of}
use Rattle.sig_certificate.specs.Pem.{lines_within, lines_of}

enough : (m n : ℕ) (bytes : List ℕ) → length bytes ≤ m → length bytes ≤ n → lines_within m bytes ≡ lines_within n bytes
unfolding lines_within
enough m n [] a b = refl
enough zero n (x ∷ bytes) a b = absurd (omega arith)
enough (suc m) zero (x ∷ bytes) a b = absurd (omega arith)
enough (suc m) (suc n) (x ∷ bytes) a b =
    let len = length-drop 48 (x ∷ bytes) in
    ap (λ (w : List ℕ). encode_of standard (take 48 (x ∷ bytes)) ++ 10 ∷ [] ++ w)
    (enough m n (drop 48 (x ∷ bytes)) (omega arith) (omega arith))

pub lines_more : (bytes : List ℕ) → bytes ≢ []
    → lines_of bytes ≡ encode_of standard (take 48 bytes) ++ 10 ∷ [] ++ lines_of (drop 48 bytes)
unfolding lines_of lines_within
lines_more [] some = absurd (some refl)
lines_more (b ∷ bytes) some =
    let len = length-drop 48 (b ∷ bytes) in
    ap (λ (w : List ℕ). encode_of standard (take 48 (b ∷ bytes)) ++ 10 ∷ [] ++ w)
    (enough (length bytes) (length (drop 48 (b ∷ bytes))) (drop 48 (b ∷ bytes)) (omega arith) (omega arith))

pub lines_none : lines_of [] ≡ []
unfolding lines_of lines_within
lines_none = refl

-- One turn of the loop: what was written is line, what was there is before, front was encoded and back is left.
pub turn : (before line front back rest all : List ℕ) → rest ≢ []
    → line ≡ before ++ encode_of standard front ++ 10 ∷ [] → front ≡ take 48 rest → back ≡ drop 48 rest
    → before ++ lines_of rest ≡ all → line ++ lines_of back ≡ all
turn before line front back rest all some e f g so_far =
    rw (e, f, g)
    (append_assoc (before ++ encode_of standard (take 48 rest)) (10 ∷ []) (lines_of (drop 48 rest))
    ∙ append_assoc before (encode_of standard (take 48 rest)) (10 ∷ [] ++ lines_of (drop 48 rest))
    ∙ ap (λ (w : List ℕ). before ++ w)
    (sym (append_assoc (encode_of standard (take 48 rest)) (10 ∷ []) (lines_of (drop 48 rest))))
    ∙ ap (λ (w : List ℕ). before ++ w) (sym (lines_more rest some)) ∙ so_far)

pub ends : (before rest all : List ℕ) → rest ≡ [] → before ++ lines_of rest ≡ all → before ≡ all
ends before rest all none so_far =
    sym (append-nil before) ∙ ap (λ (w : List ℕ). before ++ w) (sym lines_none)
    ∙ ap (λ (w : List ℕ). before ++ lines_of w) (sym none) ∙ so_far

pub take_min : (n : ℕ) (xs : List ℕ) (m : ℕ) → m ≡ min (length xs) n → take m xs ≡ take n xs
take_min n xs m is =
    elim (cases_lt (length xs) n) [
      | inl lt ↦ take_all m xs (omega (arith, is)) ∙ sym (take_all n xs (omega arith))
      | inr le ↦ let same : m ≡ n = omega (arith, is) in ap (λ (k : ℕ). take k xs) same
    ]

pub drop_min : (n : ℕ) (xs : List ℕ) (m : ℕ) → m ≡ min (length xs) n → drop m xs ≡ drop n xs
drop_min n xs m is =
    elim (cases_lt (length xs) n) [
      | inl lt ↦ drop_all m xs (omega (arith, is)) ∙ sym (drop_all n xs (omega arith))
      | inr le ↦ let same : m ≡ n = omega (arith, is) in ap (λ (k : ℕ). drop k xs) same
    ]
