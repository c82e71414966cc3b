-- What holds of each symbol of the alphabet and of the padding holds of each letter of a base64 text (RFC 4648
-- section 4).
use Rattle.std.proofs.Common.{◌≡◌, ℕ, zero, suc, ◌+◌, ◌*◌, ◌/◌, ◌%◌, ◌<◌, Bool, true, List, [], ◌∷◌, ◌++◌, length}
use Rattle.std.proofs.Common.{replicate, get_or, slice_index, refl, ◌∙◌, arith}
use Rattle.std.proofs.lemmas.Bool.{and_parts, and_from}
use Rattle.std.proofs.lemmas.List.Folds.{list_all-append}
use Rattle.std.specs.List.{list_all}
use Rattle.base64.specs.GeneralPurpose.{engine_symbols}
use Rattle.base64.specs.Engines.{standard}
use Rattle.base64.specs.Rfc4648.{encode_symbols, encode_group, padding_len}
use Rattle.sig_base.specs.Base64.{base64_text}
use Rattle.sig_base.specs.ByteLists.{AreBytes}

abbrev alphabet : List ℕ
alphabet = engine_symbols standard

pub all_at : (test : ℕ → Bool) (xs : List ℕ) (i : ℕ) → list_all test xs ≡ true → i < length xs
    → test (get_or xs i 0) ≡ true
all_at test [] i all in_range = absurd (omega arith)
all_at test (x ∷ xs) zero all in_range = (and_parts (test x) (list_all test xs) all).0
all_at test (x ∷ xs) (suc i) all in_range =
    all_at test xs i (and_parts (test x) (list_all test xs) all).1 (omega arith)

all-append : (test : ℕ → Bool) (a b : List ℕ) → list_all test a ≡ true → list_all test b ≡ true
    → list_all test (a ++ b) ≡ true
all-append test a b first second = list_all-append test a b ∙ and_from _ _ first second

symbols : (test : ℕ → Bool) → list_all test alphabet ≡ true → (m : List ℕ) → AreBytes m
    → list_all test (encode_symbols alphabet m) ≡ true
unfolding encode_symbols
symbols test each [] all = refl
symbols test each (a ∷ []) all =
    let symbol : (i : ℕ) → i < 64 → test (slice_index alphabet i) ≡ true = λ i. all_at test alphabet i each in
    and_from _ _ (symbol (a / 4) (omega arith)) (and_from _ _ (symbol (a % 4 * 16) (omega arith)) refl)
symbols test each (a ∷ b ∷ []) all =
    let symbol : (i : ℕ) → i < 64 → test (slice_index alphabet i) ≡ true = λ i. all_at test alphabet i each in
    and_from _ _ (symbol (a / 4) (omega arith))
    (and_from _ _ (symbol (a % 4 * 16 + b / 16) (omega arith))
    (and_from _ _ (symbol (b % 16 * 4) (omega arith)) refl))
symbols test each (a ∷ b ∷ c ∷ rest) all =
    let symbol : (i : ℕ) → i < 64 → test (slice_index alphabet i) ≡ true = λ i. all_at test alphabet i each in
    all-append test (encode_group alphabet a b c) (encode_symbols alphabet rest)
    (and_from _ _ (symbol (a / 4) (omega arith))
    (and_from _ _ (symbol (a % 4 * 16 + b / 16) (omega arith))
    (and_from _ _ (symbol (b % 16 * 4 + c / 64) (omega arith))
    (and_from _ _ (symbol (c % 64) (omega arith)) refl))))
    (symbols test each rest all.1.1.1)

pads : (test : ℕ → Bool) → test 61 ≡ true → (n : ℕ) → list_all test (replicate n 61) ≡ true
pads test pad zero = refl
pads test pad (suc n) = and_from (test 61) (list_all test (replicate n 61)) pad (pads test pad n)

pub all_base64 : (test : ℕ → Bool) → list_all test (engine_symbols standard) ≡ true → test 61 ≡ true → (m : List ℕ)
    → AreBytes m → list_all test (base64_text m) ≡ true
unfolding base64_text
all_base64 test each pad m all =
    all-append test (encode_symbols alphabet m) (replicate (padding_len (length m)) 61) (symbols test each m all)
    (pads test pad (padding_len (length m)))
