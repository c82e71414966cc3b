-- The bytes that an SCT signs are the struct of its fields, and no others are.
use Rattle.std.proofs.Common.{◌≡◌, ◌↔◌, ℕ, zero, suc, ◌+◌, ◌*◌, ◌/◌, ◌%◌, ◌^◌, ◌<◌, List, [], ◌∷◌, ◌++◌, length}
use Rattle.std.proofs.Common.{refl, sym, ap, ◌∙◌, append_assoc, arith, pow-suc, mul_comm}
use Rattle.std.proofs.Math.Nat.{pow-le-pow_right}
use Rattle.std.proofs.Math.Arith.{mod-mul}
use Rattle.std.specs.Int.{byte_at, bytes_high_first}
use Rattle.std.specs.List.{AllByRecursion}
use Rattle.std.specs.Prelude.{Result, Ok, Err, IfOk}
use Rattle.sig_timestamp.specs.Numbers.{v1, certificate_timestamp, precert_entry}
use Rattle.sig_timestamp.specs.Vectors.{uint16_bytes, uint24_bytes, vector, long_vector}
use Rattle.sig_timestamp.specs.SctList.{eight_bytes}
use Rattle.sig_timestamp.specs.SctBytes.{signed_bytes}
use Rattle.sig_timestamp.specs.SignedStruct.{number_after, IsUint, IsOpaque, IsSignedStruct}
use Rattle.sig_timestamp.specs.Vouched.{HasBytes}
use Rattle.sig_timestamp.specs.declared.signed.DigitallySigned.{DigitallySigned}

-- ---- octets mean one number, and a number has one text of so many octets

abbrev AreOctets : List ℕ → Type 0
AreOctets bytes = AllByRecursion (λ b. b < 256) bytes

same_octets : (xs ys : List ℕ) → length xs ≡ length ys → AreOctets xs → AreOctets ys → (m n : ℕ)
    → number_after m xs ≡ number_after n ys → (m ≡ n) × (xs ≡ ys)
same_octets [] [] len fx fy m n is = (is, refl)
same_octets [] (y ∷ ys) len fx fy m n is = absurd (omega (arith, len))
same_octets (x ∷ xs) [] len fx fy m n is = absurd (omega (arith, len))
same_octets (x ∷ xs) (y ∷ ys) len fx fy m n is =
    let rest = same_octets xs ys (omega (arith, len)) fx.1 fy.1 (m * 256 + x) (n * 256 + y) is in
    let first : x ≡ y = omega (arith, rest.0, fx.0, fy.0) in
    (omega (arith, rest.0, fx.0, fy.0), ap (λ (b : ℕ). b ∷ xs) first ∙ ap (λ (w : List ℕ). y ∷ w) rest.1)

same_uint : (octets : ℕ) (a b : List ℕ) (n : ℕ) → IsUint octets a n → IsUint octets b n → a ≡ b
same_uint octets a b n x y = (same_octets a b (x.len ∙ sym y.len) x.each y.each 0 0 (x.means ∙ sym y.means)).1

same_opaque : (octets : ℕ) (a b content : List ℕ) → IsOpaque octets a content → IsOpaque octets b content → a ≡ b
same_opaque octets a b content x y =
    x.parts
    ∙ ap (λ (w : List ℕ). w ++ content) (same_uint octets x.len y.len (length content) x.counted y.counted)
    ∙ sym y.parts

-- ---- how numbers are written

is_uint8 : (n : ℕ) → n < 256 → IsUint 1 (n ∷ []) n
is_uint8 n low = record { len = refl; each = (low, tt); means = omega arith }

is_uint16 : (n : ℕ) → n < 2 ^ 16 → IsUint 2 (uint16_bytes n) n
is_uint16 n low = record { len = refl; each = (omega arith, (omega arith, tt)); means = omega arith }

is_uint24 : (n : ℕ) → n < 2 ^ 24 → IsUint 3 (uint24_bytes n) n
is_uint24 n low = record { len = refl; each = (omega arith, (omega arith, (omega arith, tt))); means = omega arith }

byte_fits : (k n : ℕ) → byte_at k n < 256
byte_fits zero n = omega arith
byte_fits (suc k) n = let at = n / 256 ^ suc k in omega arith

bytes_fit : (k n : ℕ) → AreOctets (bytes_high_first k n)
bytes_fit zero n = tt
bytes_fit (suc k) n = (byte_fits k n, bytes_fit k n)

-- one more octet in front of the low k
byte_on : (k n high : ℕ) → (high * 256 + byte_at k n) * 256 ^ k + n % 256 ^ k ≡ high * 256 ^ suc k + n % 256 ^ suc k
byte_on zero n high = omega arith
byte_on (suc k) n high =
    let unit = 256 ^ suc k in
    let wider : 256 ^ suc (suc k) ≡ 256 * unit = pow-suc 256 (suc k) ∙ mul_comm unit 256 in
    let some : 0 < unit = pow-le-pow_right {n = 256} (omega arith) {i = 0} {j = suc k} (omega arith) in
    rw (wider, mod-mul n {m = 256} {c = unit} (omega arith) some) (omega arith)

bytes_mean : (k n high : ℕ) → number_after high (bytes_high_first k n) ≡ high * 256 ^ k + n % 256 ^ k
bytes_mean zero n high = omega arith
bytes_mean (suc k) n high = bytes_mean k n (high * 256 + byte_at k n) ∙ byte_on k n high

is_uint64 : (n : ℕ) → n < 2 ^ 64 → IsUint 8 (eight_bytes n) n
is_uint64 n low = record { len = refl; each = bytes_fit 8 n; means = bytes_mean 8 n 0 ∙ omega arith }

-- ---- the struct

pub is_struct : (d : DigitallySigned) → HasBytes d → d.timestamp < 2 ^ 64 → length d.issuer_key_hash ≡ 32
    → IsSignedStruct d (signed_bytes d)
is_struct d has timed hashed =
    let rest = long_vector d.tbs_certificate ++ vector d.extensions in
    record {
      sct_version = v1 ∷ [];
      signature_type = certificate_timestamp ∷ [];
      timestamp = eight_bytes d.timestamp;
      entry_type = uint16_bytes precert_entry;
      tbs_certificate = long_vector d.tbs_certificate;
      ct_extensions = vector d.extensions;
      parts = ap (λ (w : List ℕ). (v1 ∷ certificate_timestamp ∷ eight_bytes d.timestamp) ++ w)
          (append_assoc (uint16_bytes precert_entry) d.issuer_key_hash rest);
      version = is_uint8 v1 (omega arith);
      type = is_uint8 certificate_timestamp (omega arith);
      time = is_uint64 d.timestamp timed;
      entry = is_uint16 precert_entry (omega arith);
      hash = hashed;
      tbs = record {
        len = uint24_bytes (length d.tbs_certificate);
        counted = is_uint24 (length d.tbs_certificate) has.body;
        parts = refl;
      };
      extensions = record {
        len = uint16_bytes (length d.extensions);
        counted = is_uint16 (length d.extensions) has.extensions;
        parts = refl;
      };
    }

-- two structs of one value are the same bytes
same_struct : (d : DigitallySigned) (a b : List ℕ) → IsSignedStruct d a → IsSignedStruct d b → a ≡ b
same_struct d a b x y =
    let version = same_uint 1 x.sct_version y.sct_version v1 x.version y.version in
    let type = same_uint 1 x.signature_type y.signature_type certificate_timestamp x.type y.type in
    let time = same_uint 8 x.timestamp y.timestamp d.timestamp x.time y.time in
    let entry = same_uint 2 x.entry_type y.entry_type precert_entry x.entry y.entry in
    let tbs = same_opaque 3 x.tbs_certificate y.tbs_certificate d.tbs_certificate x.tbs y.tbs in
    let extensions = same_opaque 2 x.ct_extensions y.ct_extensions d.extensions x.extensions y.extensions in
    x.parts ∙ rw (version, type, time, entry, tbs, extensions) refl ∙ sym y.parts

pub struct_is : (d : DigitallySigned) → HasBytes d → d.timestamp < 2 ^ 64 → length d.issuer_key_hash ≡ 32
    → (bytes : List ℕ) → IsSignedStruct d bytes → bytes ≡ signed_bytes d
struct_is d has timed hashed bytes is =
    same_struct d bytes (signed_bytes d) is (is_struct d has timed hashed)

-- ---- of what is returned

-- which bytes are the struct
abbrev pub AreSigned : DigitallySigned → Type 0
AreSigned d = (bytes : List ℕ) → IsSignedStruct d bytes ↔ (bytes ≡ signed_bytes d)

pub struct_of_result : {V E : Type 0} (items : V → List ℕ) (d : DigitallySigned) → AreSigned d → (r : Result V E)
    → IfOk r (λ v. items v ≡ signed_bytes d) → IfOk r (λ v. IsSignedStruct d (items v))
struct_of_result items d are (Ok v) e = (are (items v)).1 e
struct_of_result items d are (Err x) e = tt

pub only_struct_of_result : {V E : Type 0} (items : V → List ℕ) (d : DigitallySigned) → AreSigned d → (r : Result V E)
    → IfOk r (λ v. items v ≡ signed_bytes d)
    → (bytes : List ℕ) → IsSignedStruct d bytes → IfOk r (λ v. items v ≡ bytes)
only_struct_of_result items d are (Ok v) e bytes is = e ∙ sym ((are bytes).0 is)
only_struct_of_result items d are (Err x) e bytes is = tt
