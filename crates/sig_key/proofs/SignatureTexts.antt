-- *Signature text*: what is computed of a text are the bytes of which it is base64, maybe in lines.
use Rattle.std.proofs.Common.{◌≡◌, ℕ, zero, suc, ◌+◌, ◌*◌, ◌/◌, ◌%◌, ◌<◌, Bool, true, false, not, ◌||◌, ◌==◌, cond, List, [], ◌∷◌, ◌++◌}
use Rattle.std.proofs.Common.{length, replicate, slice_index, Option, Some, None, refl, sym, ap, subst, ◌∙◌, inl, inr}
use Rattle.std.proofs.Common.{Result, Ok, Err}
use Rattle.std.specs.Option.{ok_or}
use Rattle.std.specs.List.{list_all}
use Rattle.std.proofs.lemmas.Bool.{cases_lt, or_cases, not-false, eqb-true, and_parts, and_from, cond-true, cond-false}
use Rattle.std.proofs.lemmas.List.{get_or_past}
use Rattle.std.proofs.lemmas.List.Folds.{list_all-append}
use Rattle.base64.proofs.EngineFacts.{decode_of_strict}
use Rattle.base64.specs.Engines.{standard}
use Rattle.base64.specs.GeneralPurpose.{engine_symbols, decode_of}
use Rattle.base64.specs.Rfc4648.{encode_symbols, padding_len}
use Rattle.sig_base.proofs.Base64Texts.{all_at}
use Rattle.sig_base.proofs.ByteLists.{byte_at}
use Rattle.sig_base.proofs.ResultRuleLaws.{comes_where}
use Rattle.sig_base.proofs.OptionSteps.{some_is}
use Rattle.sig_base.proofs.ResultSteps.{ok_from}
use Rattle.sig_base.specs.Answers.{Answers, ComesWhere}
use Rattle.sig_base.specs.Base64.{base64_bytes, base64_text}
use Rattle.sig_base.specs.ByteLists.{AreBytes}
use Rattle.sig_base.specs.OptionSteps.{or_else}
use Rattle.sig_base.specs.declared.error.SigstoreError.{SigstoreError}
use Rattle.sig_base.specs.declared.error.SigstoreError.TheVariants.{Base64DecodeError, OutOfMemory}
use Rattle.sig_key.specs.Signature.{IsLineEnd, IsInLines, IsTextOf, HasBytes, IsOfBytes, is_no_line_end}
use Rattle.sig_key.specs.Signature.{without_line_ends, text_bytes, signature_bytes}
use Rattle.sig_key.specs.declared.signature.Signature.{Signature}
use Rattle.sig_key.specs.declared.signature.Signature.TheVariants.{Raw, Base64Encoded}

-- ---- line ends, and the letters between them

line_end : (byte : ℕ) → is_no_line_end byte ≡ false → IsLineEnd byte
line_end byte e =
    elim (or_cases (byte == 10) (byte == 13) (not-false (byte == 10 || byte == 13) e)) [
      | inl feed ↦ inl (eqb-true byte 10 feed)
      | inr return ↦ inr (eqb-true byte 13 return)
    ]

is_end : (byte : ℕ) → IsLineEnd byte → is_no_line_end byte ≡ false
is_end byte (inl feed) = rw feed refl
is_end byte (inr return) = rw return refl

in_lines : (text : List ℕ) → IsInLines (without_line_ends text) text
in_lines [] = refl
in_lines (byte ∷ text) = by_test (in_lines text) (is_no_line_end byte) refl
  where
    by_test : IsInLines (without_line_ends text) text → (t : Bool) → is_no_line_end byte ≡ t
        → IsInLines (cond t (byte ∷ without_line_ends text) (without_line_ends text)) (byte ∷ text)
    by_test rest true e = inr (without_line_ends text, (refl, rest))
    by_test rest false e = inl (line_end byte e, rest)

one_line : (text : List ℕ) → IsInLines text text
one_line [] = refl
one_line (byte ∷ text) = inr (text, (refl, one_line text))

abbrev AreLetters : List ℕ → Type 0
AreLetters text = list_all is_no_line_end text ≡ true

joined : (text letters : List ℕ) → IsInLines letters text → AreLetters letters → without_line_ends text ≡ letters
joined [] letters is all = sym is
joined (byte ∷ text) letters (inl ends) all =
    cond-false (is_no_line_end byte) _ _ (is_end byte ends.0) ∙ joined text letters ends.1 all
joined (byte ∷ text) letters (inr next) all =
    let both =
    and_parts (is_no_line_end byte) (list_all is_no_line_end next.0)
    (subst (λ (w : List ℕ). AreLetters w) next.1.0 all) in
    cond-true (is_no_line_end byte) _ _ both.0
    ∙ ap (λ (w : List ℕ). byte ∷ w) (joined text next.0 next.1.1 both.1)
    ∙ sym next.1.0

letters_are_bytes : (text letters : List ℕ) → IsInLines letters text → AreBytes text → AreBytes letters
letters_are_bytes [] letters is are = subst (λ (w : List ℕ). AreBytes w) (sym is) tt
letters_are_bytes (byte ∷ text) letters (inl ends) are = letters_are_bytes text letters ends.1 are.1
letters_are_bytes (byte ∷ text) letters (inr next) are =
    subst (λ (w : List ℕ). AreBytes w) (sym next.1.0) (are.0, letters_are_bytes text next.0 next.1.1 are.1)

-- ---- no line end is a letter of base64

abbrev alphabet : List ℕ
alphabet = engine_symbols standard

letter_at : (i : ℕ) → is_no_line_end (slice_index alphabet i) ≡ true
letter_at i =
    elim (cases_lt i 64) [
      | inl within ↦ all_at is_no_line_end alphabet i refl within
      | inr past ↦ rw (get_or_past alphabet i 0 past) refl
    ]

symbols : (m : List ℕ) → AreLetters (encode_symbols alphabet m)
unfolding encode_symbols
symbols [] = refl
symbols (a ∷ []) = and_from _ _ (letter_at (a / 4)) (and_from _ _ (letter_at (a % 4 * 16)) refl)
symbols (a ∷ b ∷ []) =
    and_from _ _ (letter_at (a / 4))
    (and_from _ _ (letter_at (a % 4 * 16 + b / 16)) (and_from _ _ (letter_at (b % 16 * 4)) refl))
symbols (a ∷ b ∷ c ∷ rest) =
    and_from _ _ (letter_at (a / 4))
    (and_from _ _ (letter_at (a % 4 * 16 + b / 16))
    (and_from _ _ (letter_at (b % 16 * 4 + c / 64)) (and_from _ _ (letter_at (c % 64)) (symbols rest))))

pads : (n : ℕ) → AreLetters (replicate n 61)
pads zero = refl
pads (suc n) = pads n

encoding : (m : List ℕ) → AreLetters (base64_text m)
unfolding base64_text
encoding m =
    list_all-append is_no_line_end (encode_symbols alphabet m) (replicate (padding_len (length m)) 61)
    ∙ and_from _ _ (symbols m) (pads (padding_len (length m)))

base64_letters : (letters bytes : List ℕ) → AreBytes letters → base64_bytes letters ≡ Some bytes → AreLetters letters
unfolding base64_bytes base64_text
base64_letters letters bytes are e =
    let is : letters ≡ base64_text bytes =
    decode_of_strict standard letters bytes (refl, refl) (byte_at letters are)
    (ok_from (decode_of standard letters) bytes e) in
    subst (λ (w : List ℕ). AreLetters w) (sym is) (encoding bytes)

-- ---- the bytes of a text

text_takes : (text bytes : List ℕ) → text_bytes text ≡ Some bytes → IsTextOf text bytes
unfolding text_bytes
text_takes text bytes = by_first (base64_bytes text) refl
  where
    by_first : (first : Option (List ℕ)) → base64_bytes text ≡ first
        → or_else first (base64_bytes (without_line_ends text)) ≡ Some bytes → IsTextOf text bytes
    by_first None none e = (without_line_ends text, (in_lines text, e))
    by_first (Some found) is e = (text, (one_line text, is ∙ e))

text_again : (text bytes : List ℕ) → AreBytes text → IsTextOf text bytes → text_bytes text ≡ Some bytes
unfolding text_bytes
text_again text bytes are h = by_first (base64_bytes text) refl
  where
    whole : without_line_ends text ≡ h.0
    whole = joined text h.0 h.1.0 (base64_letters h.0 bytes (letters_are_bytes text h.0 h.1.0 are) h.1.1)

    by_first : (first : Option (List ℕ)) → base64_bytes text ≡ first
        → or_else first (base64_bytes (without_line_ends text)) ≡ Some bytes
    by_first None none = ap (λ (w : List ℕ). base64_bytes w) whole ∙ h.1.1
    by_first (Some found) is =
        let same : text ≡ h.0 =
        sym (joined text text (one_line text) (base64_letters text found are is)) ∙ whole in
        sym is ∙ ap (λ (w : List ℕ). base64_bytes w) same ∙ h.1.1

-- ---- the bytes of a signature

signature_takes : (s : Signature) (bytes : List ℕ) → signature_bytes s ≡ Some bytes → HasBytes s bytes
signature_takes (Raw raw) bytes e = some_is raw.now bytes e
signature_takes (Base64Encoded text) bytes e = text_takes text.now bytes e

signature_again : (s : Signature) (bytes : List ℕ) → IsOfBytes s → HasBytes s bytes → signature_bytes s ≡ Some bytes
signature_again (Raw raw) bytes are has = ap (λ (w : List ℕ). Some w) has
signature_again (Base64Encoded text) bytes are has = text_again text.now bytes are has

ok_takes : (o : Option (List ℕ)) (bytes : List ℕ) → ok_or o Base64DecodeError ≡ Ok bytes → o ≡ Some bytes
ok_takes None bytes e = absurd cc
ok_takes (Some found) bytes e = let same : found ≡ bytes = cc in ap (λ (w : List ℕ). Some w) same

err_takes : (o : Option (List ℕ)) → ok_or o Base64DecodeError ≡ Err Base64DecodeError → o ≡ None
err_takes None e = refl
err_takes (Some found) e = absurd cc

err_again : (o : Option (List ℕ)) → ((bytes : List ℕ) → o ≡ Some bytes → ⊥)
    → ok_or o Base64DecodeError ≡ Err Base64DecodeError
err_again None none = refl
err_again (Some found) none = absurd (none found refl)

module _ (s : Signature) (are : IsOfBytes s) (r : Result (List ℕ) SigstoreError)
    (answer : Answers OutOfMemory (λ (b : List ℕ). b) r (ok_or (signature_bytes s) Base64DecodeError))
  where
    pub clause-found : (bytes : List ℕ) → ComesWhere OutOfMemory r (Ok bytes) (HasBytes s bytes)
    clause-found bytes =
        comes_where OutOfMemory r (ok_or (signature_bytes s) Base64DecodeError) (Ok bytes) (HasBytes s bytes) answer
        (λ e. cc)
        (λ e. signature_takes s bytes (ok_takes (signature_bytes s) bytes e))
        (λ has. ap (λ (o : Option (List ℕ)). ok_or o Base64DecodeError) (signature_again s bytes are has))

    pub clause-undecodable : ComesWhere OutOfMemory r (Err Base64DecodeError)
        ((bytes : List ℕ) → ¬ HasBytes s bytes)
    clause-undecodable =
        comes_where OutOfMemory r (ok_or (signature_bytes s) Base64DecodeError) (Err Base64DecodeError) _ answer
        (λ e. cc)
        (λ e bytes has. let some = sym (err_takes (signature_bytes s) e) ∙ signature_again s bytes are has in cc)
        (λ none. err_again (signature_bytes s) (λ bytes e. none bytes (signature_takes s bytes e)))
