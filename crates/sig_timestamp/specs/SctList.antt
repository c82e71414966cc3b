-- *SCT list* and *SCT*: RFC 6962 sections 3.3 and 3.2. The relations build the bytes from what they hold; the plain
-- readers cut them. That they read exactly these bytes is in proofs/SctLaws.
use Rattle.std.specs.Prelude.{◌≡◌, ℕ, ◌^◌, ◌<◌, ◌==◌, List, [], ◌∷◌, ◌++◌, length, Option, Some, None, if◌then◌else◌}
use Rattle.std.specs.Int.{w64, to_be_bytes, from_be_bytes}
use Rattle.sig_base.specs.OptionSteps.{◌>>=◌}
use Rattle.sig_der.specs.Element.{IsElement}
use Rattle.sig_der.specs.Joined.{AreJoined}
use Rattle.sig_der.specs.Tag.{OCTET_STRING}
use Rattle.sig_der.specs.FrontReaders.{take_whole, many_at}
use Rattle.sig_timestamp.specs.Numbers.{v1, hash_length}
use Rattle.sig_timestamp.specs.Vectors.{vector, IsShort, bytes_at, vector_at, whole_vector}

-- ---- what they are

-- A signed certificate timestamp: the SHA-256 of the log's key, milliseconds since 1970, extensions, and the bytes of
-- the signature.
pub record Sct : Type 0 where
  pub log_id : List ℕ
  pub timestamp : ℕ
  pub extensions : List ℕ
  pub signature : List ℕ

-- uint64, RFC 5246 section 4.4
abbrev pub eight_bytes : ℕ → List ℕ
eight_bytes n = to_be_bytes w64 n

-- *SCT*: version v1, the log's id, the time, extensions, the two bytes of the signature's algorithm (RFC 5246 section
-- 4.7), which are not compared, and the signature
pub record IsSct (bytes : List ℕ) (s : Sct) : Type 0 where
  pub algorithm : List ℕ
  pub named : length s.log_id ≡ hash_length
  pub timed : s.timestamp < 2 ^ 64
  pub extended : IsShort s.extensions
  pub two : length algorithm ≡ 2
  pub signed : IsShort s.signature
  pub spelled : bytes ≡ v1 ∷ (s.log_id ++ (eight_bytes s.timestamp ++ (vector s.extensions
      ++ (algorithm ++ vector s.signature))))

-- *SCT list*: an OCTET STRING of a vector of vectors
pub record IsSctList (value : List ℕ) (scts : List (List ℕ)) : Type 0 where
  pub list : List ℕ
  pub is : IsElement value OCTET_STRING (vector list)
  pub short : IsShort list
  pub joined : AreJoined IsShort vector list scts

-- ---- how they are read

-- extensions and signature, which are all of the bytes
unfoldable pub signed_at : List ℕ → Option (List ℕ × List ℕ)
signed_at bytes = do
  e ← vector_at bytes
  a ← bytes_at 2 e.1
  s ← whole_vector a.1
  Some (e.0, s)

-- what follows version v1
unfoldable pub after_version : List ℕ → Option (List ℕ)
after_version [] = None
after_version (version ∷ rest) = if version == v1 then Some rest else None

unfoldable pub sct_at : List ℕ → Option Sct
sct_at bytes = do
  r ← after_version bytes
  i ← bytes_at hash_length r
  t ← bytes_at 8 i.1
  s ← signed_at t.1
  Some (record { log_id = i.0; timestamp = from_be_bytes w64 t.0; extensions = s.0; signature = s.1 })

-- the bytes of the list, without its lengths
unfoldable pub list_in : List ℕ → Option (List ℕ)
list_in value = take_whole OCTET_STRING value >>= λ o. whole_vector o.content

unfoldable pub sct_list_at : List ℕ → Option (List (List ℕ))
sct_list_at value = list_in value >>= λ l. many_at vector_at l
