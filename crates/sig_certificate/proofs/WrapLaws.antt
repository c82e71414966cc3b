-- The lines joined are the base64 of the whole.
use Rattle.std.proofs.Common.{◌≡◌, ℕ, zero, suc, ◌+◌, ◌<◌, ◌≤◌, List, [], ◌∷◌, ◌++◌, length, take, drop, replicate}
use Rattle.std.proofs.Common.{refl, sym, ap, ◌∙◌, append_assoc, arith, inl, inr}
use Rattle.std.proofs.lemmas.Bool.{cases_lt}
use Rattle.std.proofs.lemmas.List.{append-nil, length-drop, length-take-le, length-append, length-replicate, take_all}
use Rattle.std.proofs.lemmas.List.{drop_all}
use Rattle.base64.specs.Engines.{standard}
use Rattle.base64.specs.GeneralPurpose.{encode_of}
use Rattle.base64.specs.Rfc4648.{encode_symbols, padding_len, unpadded_len}
use Rattle.base64.proofs.RoundTrip.{length-encode_symbols, encode_split}
use Rattle.sig_certificate.specs.Pem.{lines_within, lines_of, IsWrapped, IsWrappedBase64}

symbols : List ℕ → List ℕ
symbols bytes = encode_symbols standard.encode_table bytes

padding : List ℕ → List ℕ
padding bytes = replicate (padding_len (length bytes)) 61

encoded : (bytes : List ℕ) → encode_of standard bytes ≡ symbols bytes ++ padding bytes
unfolding symbols padding
encoded bytes = refl

-- how many characters the base64 of bytes has
pub encoded_length : (bytes : List ℕ)
    → length (encode_of standard bytes) ≡ unpadded_len (length bytes) + padding_len (length bytes)
unfolding symbols padding
encoded_length bytes =
    let a = length-append (symbols bytes) (padding bytes) in
    let b = length-encode_symbols standard.encode_table bytes in
    let d = length-replicate {A = ℕ} (padding_len (length bytes)) 61 in
    ap (λ (w : List ℕ). length w) (encoded bytes) ∙ omega (arith, a, b, d)

-- 48 bytes are 64 characters without padding, and what follows them is encoded as if it stood alone
pub encode_front : (bytes : List ℕ) → 48 ≤ length bytes
    → encode_of standard bytes ≡ encode_of standard (take 48 bytes) ++ encode_of standard (drop 48 bytes)
unfolding symbols padding
encode_front bytes long =
    let front : length (take 48 bytes) ≡ 48 = length-take-le 48 bytes long in
    let back = length-drop 48 bytes in
    let split = encode_split standard.encode_table bytes 48 refl long in
    let none : padding (take 48 bytes) ≡ [] = ap (λ (n : ℕ). replicate (padding_len n) 61) front in
    let same : padding_len (length bytes) ≡ padding_len (length (drop 48 bytes)) = omega (arith, back) in
    encoded bytes
    ∙ ap (λ (w : List ℕ). w ++ padding bytes) split
    ∙ append_assoc (symbols (take 48 bytes)) (symbols (drop 48 bytes)) (padding bytes)
    ∙ ap (λ (n : ℕ). symbols (take 48 bytes) ++ (symbols (drop 48 bytes) ++ replicate n 61)) same
    ∙ ap (λ (w : List ℕ). w ++ (symbols (drop 48 bytes) ++ padding (drop 48 bytes)))
    (sym (append-nil (symbols (take 48 bytes))))
    ∙ ap (λ (w : List ℕ). (symbols (take 48 bytes) ++ w) ++ (symbols (drop 48 bytes) ++ padding (drop 48 bytes)))
    (sym none)

wrapped_more : (line : List ℕ) (lines : List (List ℕ)) → length line ≡ 64 → IsWrapped lines → IsWrapped (line ∷ lines)
wrapped_more line [] full is = (omega (arith, full), omega (arith, full))
wrapped_more line (next ∷ lines) full is = (full, is)

lines_are : (n : ℕ) (bytes : List ℕ) → length bytes ≤ n → IsWrappedBase64 bytes (lines_within n bytes)
unfolding lines_within encode_symbols
lines_are n [] few = record { lines = []; wrapped = tt; whole = refl; spelled = refl }
lines_are zero (b ∷ bytes) few = absurd (omega arith)
lines_are (suc n) (b ∷ bytes) few =
    elim (cases_lt 48 (length (b ∷ bytes))) [
      | inl long ↦
          let len = length-drop 48 (b ∷ bytes) in
          let front : length (take 48 (b ∷ bytes)) ≡ 48 = length-take-le 48 (b ∷ bytes) (omega arith) in
          let full : length (encode_of standard (take 48 (b ∷ bytes))) ≡ 64 =
          encoded_length (take 48 (b ∷ bytes)) ∙ ap (λ (k : ℕ). unpadded_len k + padding_len k) front in
          let others = lines_are n (drop 48 (b ∷ bytes)) (omega (arith, len)) in
          record {
            lines = encode_of standard (take 48 (b ∷ bytes)) ∷ others.lines;
            wrapped = wrapped_more _ others.lines full others.wrapped;
            whole = ap (λ (w : List ℕ). encode_of standard (take 48 (b ∷ bytes)) ++ w) others.whole
                ∙ sym (encode_front (b ∷ bytes) (omega arith));
            spelled = ap (λ (w : List ℕ). encode_of standard (take 48 (b ∷ bytes)) ++ 10 ∷ [] ++ w) others.spelled;
          }
      | inr short ↦
          let all : take 48 (b ∷ bytes) ≡ b ∷ bytes = take_all 48 (b ∷ bytes) short in
          let none : drop 48 (b ∷ bytes) ≡ [] = drop_all 48 (b ∷ bytes) short in
          let size = encoded_length (b ∷ bytes) in
          let at_most : length (encode_of standard (b ∷ bytes)) ≤ 64 = omega (arith, size, short) in
          let some : 0 < length (encode_of standard (b ∷ bytes)) = omega (arith, size) in
          record {
            lines = encode_of standard (b ∷ bytes) ∷ [];
            wrapped = (some, at_most);
            whole = append-nil (encode_of standard (b ∷ bytes));
            spelled = ap (λ (w : List ℕ). encode_of standard w ++ 10 ∷ [] ++ lines_within n (drop 48 (b ∷ bytes))) all
                ∙ ap (λ (w : List ℕ). encode_of standard (b ∷ bytes) ++ 10 ∷ [] ++ lines_within n w) none
                ∙ last n;
          }
    ]
  where
    last : (m : ℕ) → encode_of standard (b ∷ bytes) ++ 10 ∷ [] ++ lines_within m []
        ≡ encode_of standard (b ∷ bytes) ++ 10 ∷ [] ++ []
    last m = refl

pub lines_wrapped : (bytes : List ℕ) → IsWrappedBase64 bytes (lines_of bytes)
unfolding lines_of
lines_wrapped bytes = lines_are (length bytes) bytes (omega arith)
