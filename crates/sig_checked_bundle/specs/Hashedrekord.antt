-- *Log body* of a signature over an artifact: Rekor's entry of kind `hashedrekord`, version 0.0.1, as a tree, object by
-- object.
use Rattle.std.specs.Prelude.{ℕ, List, [], ◌∷◌, codes, Some}
use Rattle.hex.specs.Hex.{encode_lower}
use Rattle.sig_json.specs.Data.{Data, string}
use Rattle.sig_json.specs.Writing.{bytes_tree, object_of}

-- the SHA-256 digest of the artifact, in lower-case hexadecimal
unfoldable pub hash_tree : List ℕ → Data
hash_tree digest =
    object_of (
    (codes "algorithm", Some (string (codes "sha256")))
    ∷ (codes "value", Some (string (encode_lower digest)))
    ∷ []
    )

unfoldable pub data_tree : List ℕ → Data
data_tree digest = object_of ((codes "hash", Some (hash_tree digest)) ∷ [])

-- the text (PEM) of the certificate
unfoldable pub public_key_tree : List ℕ → Data
public_key_tree pem = object_of ((codes "content", Some (bytes_tree pem)) ∷ [])

unfoldable pub signature_tree : List ℕ → List ℕ → Data
signature_tree signature pem =
    object_of (
    (codes "content", Some (bytes_tree signature))
    ∷ (codes "publicKey", Some (public_key_tree pem))
    ∷ []
    )

unfoldable pub spec_tree : List ℕ → List ℕ → List ℕ → Data
spec_tree digest signature pem =
    object_of (
    (codes "data", Some (data_tree digest))
    ∷ (codes "signature", Some (signature_tree signature pem))
    ∷ []
    )

-- about an artifact of this digest, with this signature, which the certificate of this PEM verifies
unfoldable pub hashedrekord_tree : List ℕ → List ℕ → List ℕ → Data
hashedrekord_tree digest signature pem =
    object_of (
    (codes "apiVersion", Some (string (codes "0.0.1")))
    ∷ (codes "kind", Some (string (codes "hashedrekord")))
    ∷ (codes "spec", Some (spec_tree digest signature pem))
    ∷ []
    )
