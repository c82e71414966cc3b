-- The key of an instance under its log id: what is computed, and what it means.
use Rattle.std.proofs.Common.{◌≡◌, ℕ, ◌<◌, ◌/◌, ◌%◌, ℤ, List, [], ◌∷◌, Option, Some, None, slice_index, refl, sym, ap, subst}
use Rattle.std.proofs.Common.{◌∙◌, arith}
use Rattle.std.proofs.lemmas.Option.{get_or_from_slice_get, slice_get-get_or}
use Rattle.hex.specs.Hex.{encode_lower, encode_with, lower_digits}
use Rattle.sig_base.proofs.OptionSteps.{bind_is, bind_of_some, some_is, when_is}
use Rattle.sig_base.specs.ByteLists.{AreBytes}
use Rattle.sig_root.specs.OfBytes.{HasIdOfBytes}
use Rattle.sig_root.specs.Picked.{holds, key_at, key_bytes_at}
use Rattle.sig_root.specs.PickedLaws.{IsKeyAt, IsLowerDigit, IsLowerHex}
use Rattle.sig_root.specs.declared.record.PublicKey.{PublicKey}
use Rattle.sig_root.specs.declared.record.TransparencyLogInstance.{TransparencyLogInstance as Instance}

-- ---- lower-case hexadecimal

lower_digit : (half : ℕ) → half < 16 → IsLowerDigit (slice_index lower_digits half) half
lower_digit half lt = slice_get-get_or lower_digits half 0 lt

lower_hex : (bytes : List ℕ) → AreBytes bytes → IsLowerHex (encode_lower bytes) bytes
unfolding encode_with
lower_hex [] are = refl
lower_hex (b ∷ bs) are =
    let fits : b < 256 = are.0 in (
      slice_index lower_digits (b / 16),
      slice_index lower_digits (b % 16),
      encode_lower bs,
      refl,
      lower_digit (b / 16) (omega arith),
      lower_digit (b % 16) (omega arith),
      lower_hex bs are.1,
    )

hex_is : (text bytes : List ℕ) → IsLowerHex text bytes → encode_lower bytes ≡ text
unfolding encode_with
hex_is text [] is = sym is
hex_is text (b ∷ bs) is =
    let high : slice_index lower_digits (b / 16) ≡ is.0 = get_or_from_slice_get lower_digits (b / 16) is.0 0 is.4 in
    let low : slice_index lower_digits (b % 16) ≡ is.1 = get_or_from_slice_get lower_digits (b % 16) is.1 0 is.5 in
    rw (high, low, hex_is is.2 bs is.6) (sym is.3)

-- ---- the key

abbrev Named : Type 0
Named = List ℕ × List ℕ

first : (one other : Named) → one ≡ other → one.0 ≡ other.0
first one other same = ap (λ (n : Named). n.0) same

second : (one other : Named) → one ≡ other → one.1 ≡ other.1
second one other same = ap (λ (n : Named). n.1) same

pub key_means : (now : ℤ) (i : Instance) (id key : List ℕ) → HasIdOfBytes i → key_at now i ≡ Some (id, key)
    → IsKeyAt now i id key
unfolding key_at
key_means now i id key bytes e =
    let held = bind_is i.public_key _ (id, key) e in
    let read = bind_is (key_bytes_at now held.0) _ (id, key) held.2 in
    let named = bind_is i.log_id _ (id, key) read.2 in
    let same = some_is (encode_lower named.0, read.0) (id, key) named.2 in
    let lasts = when_is (holds now held.0.valid_for) held.0.raw_bytes read.0 read.1 in
    record {
      public_key = held.0;
      held = held.1;
      bytes = lasts.1 ∙ ap (λ (b : List ℕ). Some b) (second (encode_lower named.0, read.0) (id, key) same);
      lasting = lasts.0;
      log_id = named.0;
      named = named.1;
      written =
          subst (λ (t : List ℕ). IsLowerHex t named.0) (first (encode_lower named.0, read.0) (id, key) same)
          (lower_hex named.0 (bytes named.0 named.1));
    }

pub key_meant : (now : ℤ) (i : Instance) (id key : List ℕ) → IsKeyAt now i id key → key_at now i ≡ Some (id, key)
unfolding key_at
key_meant now i id key is =
    let read : key_bytes_at now is.public_key ≡ Some key = rw is.lasting is.bytes in
    rw (is.held, read, is.named) (ap (λ (t : List ℕ). Some (t, key)) (hex_is id is.log_id is.written))
