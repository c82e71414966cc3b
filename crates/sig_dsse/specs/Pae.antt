-- The pre-authentication encoding of the DSSE protocol ("Signature Definition"): what a signature of an envelope is
-- over.
use Rattle.std.specs.Prelude.{◌≡◌, ℕ, ◌<◌, ◌^◌, List, ◌++◌, length, codes, decimal}

-- *PAE*: PAE(type, body) = "DSSEv1" + SP + LEN(type) + SP + type + SP + LEN(body) + SP + body, lengths in bytes and in
-- decimal
unfoldable pub pae : List ℕ → List ℕ → List ℕ
pae payload_type payload =
    codes "DSSEv1 " ++ (decimal (length payload_type) ++
    (codes " " ++ (payload_type ++ (codes " " ++ (decimal (length payload) ++ (codes " " ++ payload))))))

-- what a text or a list of bytes can hold
abbrev pub IsHeld : List ℕ → Type 0
IsHeld bytes = length bytes < 2 ^ 64

-- no two pairs of type and payload have the same encoding
abbrev pub PaeIsInjective : Type 0
PaeIsInjective =
    (type_1 payload_1 type_2 payload_2 : List ℕ) → IsHeld type_1 → IsHeld payload_1 → IsHeld type_2 → IsHeld payload_2
    → pae type_1 payload_1 ≡ pae type_2 payload_2 → (type_1 ≡ type_2) × (payload_1 ≡ payload_2)
