-- A question to a checker as a row of a table of accepted signatures.
use Rattle.std.specs.Prelude.{◌≡◌, ◌+◌, ℕ, List, [], length, sum_by}
use Rattle.sig_base.specs.Scheme.{name_of}
use Rattle.sig_base.specs.declared.checker.AcceptedRow.{AcceptedRow}
use Rattle.sig_base.specs.declared.checker.Operation.{Operation}
use Rattle.sig_base.specs.declared.checker.Operation.TheVariants.{Message, Prehash, Point, Certificate}
use Rattle.sig_base.specs.declared.scheme.VerifyScheme.{VerifyScheme}

-- a signature over a message, under a scheme and a SubjectPublicKeyInfo
abbrev pub message_row : VerifyScheme → List ℕ → List ℕ → List ℕ → AcceptedRow
message_row scheme spki message signature = record {
  operation = Message;
  scheme = name_of scheme;
  key = spki;
  message = message;
  signature = signature;
}

-- a signature over the message of a digest
abbrev pub prehash_row : VerifyScheme → List ℕ → List ℕ → List ℕ → AcceptedRow
prehash_row scheme spki digest signature = record {
  operation = Prehash;
  scheme = name_of scheme;
  key = spki;
  message = digest;
  signature = signature;
}

-- a signature over a message, under a point of P-256
abbrev pub point_row : List ℕ → List ℕ → List ℕ → AcceptedRow
point_row point message signature = record {
  operation = Point;
  scheme = [];
  key = point;
  message = message;
  signature = signature;
}

-- a signature over a TBSCertificate, under an issuer's SubjectPublicKeyInfo and an algorithm
abbrev pub certificate_row : List ℕ → List ℕ → List ℕ → List ℕ → AcceptedRow
certificate_row issuer algorithm tbs signature = record {
  operation = Certificate;
  scheme = algorithm;
  key = issuer;
  message = tbs;
  signature = signature;
}

-- a scheme of a row of this operation: a scheme's name for a message and a digest, nothing for a point, any bytes for a
-- certificate
abbrev pub IsSchemeUnder : Operation → List ℕ → Type 0
IsSchemeUnder Message scheme = (named : VerifyScheme) × (scheme ≡ name_of named)
IsSchemeUnder Prehash scheme = (named : VerifyScheme) × (scheme ≡ name_of named)
IsSchemeUnder Point scheme = scheme ≡ []
IsSchemeUnder Certificate scheme = Unit {0}

abbrev pub HasScheme : AcceptedRow → Type 0
HasScheme row = IsSchemeUnder row.operation row.scheme

-- how many bytes a row has
abbrev pub row_bytes : AcceptedRow → ℕ
row_bytes row = length row.scheme + (length row.key + (length row.message + length row.signature))

-- how many bytes rows have
abbrev pub bytes_of_rows : List AcceptedRow → ℕ
bytes_of_rows rows = sum_by row_bytes rows
