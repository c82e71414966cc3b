-- The texts of hashes, and the proofs of Rekor's API: what is computed of them is what they are, or the fault of the
-- first that is none.
use Rattle.std.proofs.Common.{◌≡◌, ◌↔◌, inl, inr, ℕ, suc, ◌+◌, ◌/◌, ◌%◌, ◌==◌, ◌&&◌, ◌||◌, nat_le, Bool, true, false}
use Rattle.std.proofs.Common.{cond, List, [], ◌∷◌, ◌++◌, length, Some, None, Result, Ok, Err, refl, sym, ap}
use Rattle.std.proofs.Common.{subst, ◌∙◌, arith}
use Rattle.std.proofs.lemmas.Bool.{eq-eqb, eqb-true, and_from, and_parts, false_from_ne_true}
use Rattle.std.proofs.lemmas.List.Sums.{AllPass-from_list_all, list_all-from_AllPass}
use Rattle.std.specs.Char.{is_ascii_hexdigit}
use Rattle.std.specs.List.{AllZip, list_all}
use Rattle.std.specs.Option.{is_some, ok_or}
use Rattle.std.specs.Result.{result_ok}
use Rattle.hex.proofs.HexLemmas.{IsOk-decode_sized, decode_of-digits, decode_sized-other, decode_sized-twice}
use Rattle.hex.specs.Hex.{decode_sized, is_hex_digit}
use Rattle.hex.specs.declared.error.FromHexError.{FromHexError}
use Rattle.sig_base.proofs.ResultSteps.{bind_err, bind_ok, err_is, ok_is, when_ok}
use Rattle.sig_base.specs.declared.error.SigstoreError.{SigstoreError}
use Rattle.sig_base.specs.declared.error.SigstoreError.TheVariants.{HexDecodeError, UnexpectedError}
use Rattle.sig_base.specs.declared.unexpected.UnexpectedKind.{UnexpectedKind}
use Rattle.sig_base.specs.declared.unexpected.UnexpectedKind.TheVariants.{HashLength}
use Rattle.sig_rekor.specs.HashFaults.{IsOfBytes, IsHashText, IsHashOf, IsHashFault, AreHashTexts, IsHashesFault}
use Rattle.sig_rekor.specs.HashText.{is_hex, hash_in, hash_at, hashes_from}

-- ---- digits

any_digit : (upper lower number : Bool) (a b c : ℕ)
    → is_some (cond upper (Some a) (cond lower (Some b) (cond number (Some c) None))) ≡ ((number || upper) || lower)
any_digit true lower true a b c = refl
any_digit true lower false a b c = refl
any_digit false true true a b c = refl
any_digit false true false a b c = refl
any_digit false false true a b c = refl
any_digit false false false a b c = refl

same_and : (a b c d : Bool) → a ≡ b → c ≡ d → (a && c) ≡ (b && d)
same_and a b c d e f = rw (e, f) refl

same_digits : (text : List ℕ) → list_all is_hex_digit text ≡ list_all is_ascii_hexdigit text
same_digits [] = refl
same_digits (letter ∷ text) =
    same_and (is_hex_digit letter) (is_ascii_hexdigit letter) _ _
    (any_digit (nat_le 65 letter && nat_le letter 70) (nat_le 97 letter && nat_le letter 102)
    (nat_le 48 letter && nat_le letter 57) _ _ _) (same_digits text)

-- the test of whole bytes
is_hex-found : (text : List ℕ) → is_hex text ≡ true → IsOfBytes text
is_hex-found text is =
    let parts = and_parts (length text % 2 == 0) (list_all is_ascii_hexdigit text) is in
    let even = eqb-true (length text % 2) 0 parts.0 in
    (length text / 2, omega arith, AllPass-from_list_all is_hex_digit text (same_digits text ∙ parts.1))

is_hex-only : (text : List ℕ) → IsOfBytes text → is_hex text ≡ true
is_hex-only text is =
    let twice = is.1 in
    let even : length text % 2 ≡ 0 = omega arith in
    and_from (length text % 2 == 0) (list_all is_ascii_hexdigit text) (eq-eqb (length text % 2) 0 even)
    (sym (same_digits text) ∙ list_all-from_AllPass is_hex_digit text is.2)

-- ---- one hash

pub hash-found : (other_length : UnexpectedKind) (text hash : List ℕ) → hash_in other_length text ≡ Ok hash
    → IsHashOf text hash
unfolding hash_in
hash-found other_length text hash e =
    read (decode_sized text 32) refl
    (when_ok (is_hex text) HexDecodeError (ok_or (result_ok (decode_sized text 32)) (UnexpectedError other_length)) hash
    e).1 where
      read : (r : Result (List ℕ) FromHexError) → decode_sized text 32 ≡ r
          → ok_or (result_ok r) (UnexpectedError other_length) ≡ Ok hash → IsHashOf text hash
      read (Ok bytes) is f =
          let digits = (IsOk-decode_sized text 32).0 (rw is refl) in
          (digits, sym (decode_sized-twice text 32 digits.0) ∙ is ∙ ap Ok (ok_is bytes hash f))
      read (Err d) is f = absurd cc

pub hash-only : (other_length : UnexpectedKind) (text hash : List ℕ) → IsHashOf text hash
    → hash_in other_length text ≡ Ok hash
unfolding hash_in
hash-only other_length text hash is =
    rw (is_hex-only text (32, is.0.0, is.0.1), decode_sized-twice text 32 is.0.0, is.1) refl

-- the hash of a text that is one
pub hash_of : (text : List ℕ) → IsHashText text → (hash : List ℕ) × IsHashOf text hash
hash_of text is =
    let twice = is.0 in
    let read = decode_of-digits text (omega arith) is.1 in
    (read.0, (is, read.1))

pub hash-fails : (other_length : UnexpectedKind) (text : List ℕ) (e : SigstoreError) → hash_in other_length text ≡ Err e
    → IsHashFault other_length text e
unfolding hash_in
hash-fails other_length text e fails = test (is_hex text) refl fails where
  read : IsOfBytes text → (r : Result (List ℕ) FromHexError) → decode_sized text 32 ≡ r
      → ok_or (result_ok r) (UnexpectedError other_length) ≡ Err e → IsHashFault other_length text e
  read of (Ok bytes) is f = absurd cc
  read of (Err d) is f = inr (
    of,
    λ sized. (let g = rw is at ((IsOk-decode_sized text 32).1 (sized, of.2)) in cc),
    sym (err_is (UnexpectedError other_length) e f),
  )

  test : (b : Bool) → is_hex text ≡ b
      → cond b (ok_or (result_ok (decode_sized text 32)) (UnexpectedError other_length)) (Err HexDecodeError) ≡ Err e
      → IsHashFault other_length text e
  test true is f = read (is_hex-found text is) (decode_sized text 32) refl f
  test false is f = inl (λ of. (let g = is_hex-only text of in cc), sym (err_is HexDecodeError e f))

pub hash-only_fails : (other_length : UnexpectedKind) (text : List ℕ) (e : SigstoreError)
    → IsHashFault other_length text e → hash_in other_length text ≡ Err e
unfolding hash_in
hash-only_fails other_length text e (inl none) =
    rw (false_from_ne_true (is_hex text) (λ is. none.0 (is_hex-found text is)), none.1) refl
hash-only_fails other_length text e (inr other) =
    let twice = other.0.1 in
    let even : length text % 2 ≡ 0 = omega arith in
    rw (
      is_hex-only text other.0,
      decode_sized-other text 32 even (λ half. other.1 (omega arith)),
      other.2,
    ) refl

-- ---- hashes

pub hashes-found : (place : ℕ) (texts hashes : List (List ℕ)) → hashes_from place texts ≡ Ok hashes
    → AllZip IsHashOf texts hashes
hashes-found place [] [] e = tt
hashes-found place [] (hash ∷ hashes) e = absurd cc
hashes-found place (text ∷ texts) hashes e =
    let a = bind_ok (hash_at place text) _ hashes e in
    let b = bind_ok (hashes_from (place + 1) texts) _ hashes a.2 in
    subst (AllZip IsHashOf (text ∷ texts)) (ok_is (a.0 ∷ b.0) hashes b.2)
    (hash-found (HashLength place) text a.0 a.1, hashes-found (place + 1) texts b.0 b.1)

pub hashes-only : (place : ℕ) (texts hashes : List (List ℕ)) → AllZip IsHashOf texts hashes
    → hashes_from place texts ≡ Ok hashes
hashes-only place [] [] are = refl
hashes-only place [] (hash ∷ hashes) are = absurd are
hashes-only place (text ∷ texts) [] are = absurd are
hashes-only place (text ∷ texts) (hash ∷ hashes) are =
    rw (hash-only (HashLength place) text hash are.0, hashes-only (place + 1) texts hashes are.1) refl

-- texts of hashes have them, and what has them are such texts
pub hashes_of : (texts : List (List ℕ)) → AreHashTexts texts → (hashes : List (List ℕ)) × AllZip IsHashOf texts hashes
hashes_of [] are = ([], tt)
hashes_of (text ∷ texts) are =
    let first = hash_of text are.0 in
    let others = hashes_of texts are.1 in
    (first.0 ∷ others.0, (first.1, others.1))

pub all_texts : (texts hashes : List (List ℕ)) → AllZip IsHashOf texts hashes → AreHashTexts texts
all_texts [] [] are = tt
all_texts [] (hash ∷ hashes) are = absurd are
all_texts (text ∷ texts) [] are = absurd are
all_texts (text ∷ texts) (hash ∷ hashes) are = (are.0.0, all_texts texts hashes are.1)

-- the first text that is not a hash, in a list that goes on from this place
record Fails (place : ℕ) (texts : List (List ℕ)) (e : SigstoreError) : Type 0 where
  before : List (List ℕ)
  text : List ℕ
  after : List (List ℕ)
  split : texts ≡ before ++ text ∷ after
  sound : AreHashTexts before
  fault : IsHashFault (HashLength (place + length before)) text e

under : (a b : ℕ) (text : List ℕ) (e : SigstoreError) → a ≡ b → IsHashFault (HashLength a) text e
    → IsHashFault (HashLength b) text e
under a b text e same = subst (λ n. IsHashFault (HashLength n) text e) same

fail : (place : ℕ) (texts : List (List ℕ)) (e : SigstoreError) → hashes_from place texts ≡ Err e → Fails place texts e
fail place [] e is = absurd cc
fail place (text ∷ texts) e is =
    elim (bind_err (hash_at place text) _ e is) [
      | inl wrong ↦ record {
        before = [];
        text = text;
        after = texts;
        split = refl;
        sound = tt;
        fault = under place (place + 0) text e (omega arith) (hash-fails (HashLength place) text e wrong);
      }
      | inr good ↦
          elim (bind_err (hashes_from (place + 1) texts) _ e good.2) [
            | inl later ↦
                let r = fail (place + 1) texts e later in
                record {
                  before = text ∷ r.before;
                  text = r.text;
                  after = r.after;
                  split = ap (λ xs. text ∷ xs) r.split;
                  sound = ((hash-found (HashLength place) text good.0 good.1).0, r.sound);
                  fault = under (place + 1 + length r.before) (place + suc (length r.before)) r.text e (omega arith)
                      r.fault;
                }
            | inr none ↦ absurd (let f = none.2 in cc)
          ]
    ]

pub hashes-fail : (texts : List (List ℕ)) (e : SigstoreError) → hashes_from 0 texts ≡ Err e → IsHashesFault texts e
hashes-fail texts e is =
    let f = fail 0 texts e is in
    record {
      before = f.before;
      text = f.text;
      after = f.after;
      split = f.split;
      sound = f.sound;
      fault = under (0 + length f.before) (length f.before) f.text e (omega arith) f.fault;
    }

fails_after : (place : ℕ) (before : List (List ℕ)) (text : List ℕ) (after : List (List ℕ)) (e : SigstoreError)
    → AreHashTexts before → IsHashFault (HashLength (place + length before)) text e
    → hashes_from place (before ++ text ∷ after) ≡ Err e
fails_after place [] text after e sound fault =
    rw (hash-only_fails (HashLength place) text e (under (place + 0) place text e (omega arith) fault)) refl
fails_after place (first ∷ before) text after e sound fault =
    let hash = hash_of first sound.0 in
    let there = under (place + suc (length before)) (place + 1 + length before) text e (omega arith) fault in
    rw (
      hash-only (HashLength place) first hash.0 hash.1,
      fails_after (place + 1) before text after e sound.1
          there,
    ) refl

pub hashes-only_fail : (texts : List (List ℕ)) (e : SigstoreError) → IsHashesFault texts e
    → hashes_from 0 texts ≡ Err e
hashes-only_fail texts e is =
    let here = under (length is.before) (0 + length is.before) is.text e (omega arith) is.fault in
    rw is.split (fails_after 0 is.before is.text is.after e is.sound here)

-- ---- each in one

pub hash-is : (other_length : UnexpectedKind) (text hash : List ℕ)
    → (hash_in other_length text ≡ Ok hash) ↔ IsHashOf text hash
hash-is other_length text hash = (hash-found other_length text hash, hash-only other_length text hash)

pub hash-faults : (other_length : UnexpectedKind) (text : List ℕ) (e : SigstoreError)
    → (hash_in other_length text ≡ Err e) ↔ IsHashFault other_length text e
hash-faults other_length text e = (hash-fails other_length text e, hash-only_fails other_length text e)

pub hashes-are : (texts hashes : List (List ℕ)) → (hashes_from 0 texts ≡ Ok hashes) ↔ AllZip IsHashOf texts hashes
hashes-are texts hashes = (hashes-found 0 texts hashes, hashes-only 0 texts hashes)

pub hashes-faults : (texts : List (List ℕ)) (e : SigstoreError)
    → (hashes_from 0 texts ≡ Err e) ↔ IsHashesFault texts e
hashes-faults texts e = (hashes-fail texts e, hashes-only_fail texts e)
