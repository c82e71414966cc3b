-- *Promise*: what a log signs to promise that it includes an entry (Rekor's signed entry timestamp).
use Rattle.std.specs.Prelude.{◌<◌, ◌^◌, ◌++◌, ℕ, ℤ, List, [], ◌∷◌, codes, Some, unwrap_or, unsigned_abs}
use Rattle.std.specs.Fmt.{signed_decimal}
use Rattle.hex.specs.Hex.{encode_lower}
use Rattle.sig_base.specs.Base64.{base64_text}
use Rattle.sig_json.specs.Data.{Data, string, number}
use Rattle.sig_json.specs.Find.{of_integer}
use Rattle.sig_json.specs.Writing.{object_of}
use Rattle.sig_bundle.specs.declared.material.TransparencyLogEntry.{TransparencyLogEntry}

-- the object whose canonical text it is: the body in base64 (RFC 4648 section 4), the id of the log in lower-case
-- hexadecimal
unfoldable pub promise_tree_of : TransparencyLogEntry → Data
promise_tree_of entry =
    object_of (
    (codes "body", Some (string (base64_text entry.canonicalized_body)))
    ∷ (codes "integratedTime", Some (number (of_integer entry.integrated_time)))
    ∷ (codes "logID", Some (string (encode_lower (unwrap_or entry.log_id []))))
    ∷ (codes "logIndex", Some (number (of_integer entry.log_index)))
    ∷ []
    )

-- ---- *Promise law*: the canonical text of that object, letter by letter

-- within plus or minus 2^53 - 1
abbrev pub IsExact : ℤ → Type 0
IsExact z = unsigned_abs z < 2 ^ 53

abbrev pub promise_of_parts : List ℕ → ℤ → List ℕ → ℤ → List ℕ
promise_of_parts body time id index =
    codes "{\"body\":\"" ++ (base64_text body ++ (codes "\",\"integratedTime\":" ++ (signed_decimal time
    ++ (codes ",\"logID\":\"" ++ (encode_lower id ++ (codes "\",\"logIndex\":" ++ (signed_decimal index
    ++ codes "}")))))))

abbrev pub promise_of_entry : TransparencyLogEntry → List ℕ
promise_of_entry e =
    promise_of_parts e.canonicalized_body e.integrated_time (unwrap_or e.log_id []) e.log_index

abbrev pub IsExactEntry : TransparencyLogEntry → Type 0
IsExactEntry e = IsExact e.integrated_time × IsExact e.log_index
