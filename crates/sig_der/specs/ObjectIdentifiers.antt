-- The object identifiers of the standards, by their dotted numbers.
use Rattle.std.specs.Prelude.{ℕ, List, [], ◌∷◌}
use Rattle.sig_der.specs.ObjectIdentifier.{object_identifier}

-- ---- extensions of certificates: RFC 5280 section 4.2.1

abbrev pub key_usage : List ℕ
key_usage = object_identifier (2 ∷ 5 ∷ 29 ∷ 15 ∷ [])

abbrev pub subject_alternative_name : List ℕ
subject_alternative_name = object_identifier (2 ∷ 5 ∷ 29 ∷ 17 ∷ [])

abbrev pub basic_constraints : List ℕ
basic_constraints = object_identifier (2 ∷ 5 ∷ 29 ∷ 19 ∷ [])

abbrev pub name_constraints : List ℕ
name_constraints = object_identifier (2 ∷ 5 ∷ 29 ∷ 30 ∷ [])

abbrev pub extended_key_usage : List ℕ
extended_key_usage = object_identifier (2 ∷ 5 ∷ 29 ∷ 37 ∷ [])

-- id-kp-codeSigning (RFC 5280 section 4.2.1.12)
abbrev pub code_signing_purpose : List ℕ
code_signing_purpose = object_identifier (1 ∷ 3 ∷ 6 ∷ 1 ∷ 5 ∷ 5 ∷ 7 ∷ 3 ∷ 3 ∷ [])

-- ---- Certificate Transparency: RFC 6962

-- the purpose of signing precertificates (section 3.1)
abbrev pub precertificate_signing : List ℕ
precertificate_signing = object_identifier (1 ∷ 3 ∷ 6 ∷ 1 ∷ 4 ∷ 1 ∷ 11129 ∷ 2 ∷ 4 ∷ 4 ∷ [])

-- the list of SCTs in a certificate (section 3.3)
abbrev pub sct_list : List ℕ
sct_list = object_identifier (1 ∷ 3 ∷ 6 ∷ 1 ∷ 4 ∷ 1 ∷ 11129 ∷ 2 ∷ 4 ∷ 2 ∷ [])

-- ---- Fulcio

-- Fulcio's object identifier of this number: 1 the issuer, 2 the GitHub workflow's trigger, 3 its SHA, 4 its name, 5
-- its repository, 6 its ref, 7 the other name in a subject alternative name
abbrev pub fulcio : ℕ → List ℕ
fulcio n = object_identifier (1 ∷ 3 ∷ 6 ∷ 1 ∷ 4 ∷ 1 ∷ 57264 ∷ 1 ∷ n ∷ [])

-- ---- algorithms of public keys

-- id-ecPublicKey (RFC 5480 section 2.1.1)
abbrev pub ec_public_key : List ℕ
ec_public_key = object_identifier (1 ∷ 2 ∷ 840 ∷ 10045 ∷ 2 ∷ 1 ∷ [])

-- secp256r1 (RFC 5480 section 2.1.1.1)
abbrev pub p256 : List ℕ
p256 = object_identifier (1 ∷ 2 ∷ 840 ∷ 10045 ∷ 3 ∷ 1 ∷ 7 ∷ [])

-- secp384r1
abbrev pub p384 : List ℕ
p384 = object_identifier (1 ∷ 3 ∷ 132 ∷ 0 ∷ 34 ∷ [])

-- secp521r1
abbrev pub p521 : List ℕ
p521 = object_identifier (1 ∷ 3 ∷ 132 ∷ 0 ∷ 35 ∷ [])

-- rsaEncryption (RFC 3279 section 2.3.1)
abbrev pub rsa : List ℕ
rsa = object_identifier (1 ∷ 2 ∷ 840 ∷ 113549 ∷ 1 ∷ 1 ∷ 1 ∷ [])

-- id-Ed25519 (RFC 8410 section 3)
abbrev pub ed25519 : List ℕ
ed25519 = object_identifier (1 ∷ 3 ∷ 101 ∷ 112 ∷ [])
