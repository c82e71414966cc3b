-- Reading a certificate by computation: the plain program that the reader is equal to, in the same steps. That it reads
-- exactly the texts of *Certificate* is in proofs/Certificates. A relation defines the times, as sig_der does.
use Rattle.std.specs.Prelude.{◌≡◌, ℕ, ◌+◌, ◌-◌, ℤ, List, [], ◌∷◌, length, take, Bool, true, false, Option, Some, None}
use Rattle.std.specs.Prelude.{nat_lt, ◌==◌, if◌then◌else◌}
use Rattle.sig_base.specs.OptionSteps.{◌>>=◌}
use Rattle.sig_der.specs.Reading.{Piece}
use Rattle.sig_der.specs.FrontReaders.{take_any, take_tag, take_whole, take_optional}
use Rattle.sig_der.specs.KeyInfo.{is_empty, algorithm_at, bits_of, key_info_at}
use Rattle.sig_certificate.specs.Certificate.{Extension, Cert}
use Rattle.sig_der.specs.DerTime.{IsTimeOf}
use Rattle.sig_der.specs.Tag.{BOOLEAN, EXTENSIONS, INTEGER, ISSUER_UNIQUE_ID, OBJECT_IDENTIFIER, OCTET_STRING}
use Rattle.sig_der.specs.Tag.{SEQUENCE, SUBJECT_UNIQUE_ID, VERSION}

-- ---- extensions

-- the content of a BOOLEAN
unfoldable pub boolean_of : List ℕ → Option Bool
boolean_of [] = None
boolean_of (b ∷ []) = if b == 0 then Some false else if b == 255 then Some true else None
boolean_of (b ∷ c ∷ bytes) = None

abbrev pub flag_of : Option Piece → Option Bool
flag_of None = Some false
flag_of (Some p) = boolean_of p.content

-- a BOOLEAN DEFAULT FALSE, and what follows it
unfoldable pub flag_at : List ℕ → Option (Bool × List ℕ)
flag_at bytes = do
  f ← take_optional BOOLEAN bytes
  b ← flag_of f.0
  Some (b, f.1)

unfoldable pub extension_at : List ℕ → Option (Extension × List ℕ)
extension_at bytes = do
  x ← take_tag SEQUENCE bytes
  o ← take_tag OBJECT_IDENTIFIER x.0.content
  f ← flag_at o.1
  v ← take_whole OCTET_STRING f.1
  if is_empty o.0.content then None
      else Some (record { oid = o.0.content; critical = f.0; value = v.content; whole = x.0.whole }, x.1)

-- ---- TBSCertificate

-- The fields of the TBSCertificate up to the issuer.
pub record Preamble : Type 0 where
  pub version : ℕ
  pub algorithm : List ℕ
  pub issuer : List ℕ

-- the content of the version's INTEGER
unfoldable pub version_number : List ℕ → Option ℕ
version_number [] = None
version_number (n ∷ []) = if nat_lt n 3 then Some (n + 1) else None
version_number (n ∷ m ∷ bytes) = None

unfoldable pub explicit_version : List ℕ → Option ℕ
explicit_version bytes = take_whole INTEGER bytes >>= λ n. version_number n.content

abbrev pub certificate_version_of : Option Piece → Option ℕ
certificate_version_of None = Some 1
certificate_version_of (Some p) = explicit_version p.content

unfoldable pub version_at : List ℕ → Option (ℕ × List ℕ)
version_at bytes = do
  v ← take_optional VERSION bytes
  n ← certificate_version_of v.0
  Some (n, v.1)

unfoldable pub preamble_at : List ℕ → Option (Preamble × List ℕ)
preamble_at bytes = do
  v ← version_at bytes
  n ← take_tag INTEGER v.1
  a ← algorithm_at n.1
  i ← take_tag SEQUENCE a.1
  if is_empty n.0.content then None
      else Some (record { version = v.0; algorithm = a.0.whole; issuer = i.0.whole }, i.1)

-- What the TBSCertificate binds: the subject and the key, for a validity, whose two times are not read yet.
pub record Binding : Type 0 where
  pub first : Piece
  pub second : Piece
  pub subject : List ℕ
  pub spki : List ℕ

-- the two elements of a validity, and what follows it
unfoldable pub validity_at : List ℕ → Option ((Piece × Piece) × List ℕ)
validity_at bytes = do
  x ← take_tag SEQUENCE bytes
  b ← take_any x.0.content
  a ← take_any b.1
  if is_empty a.1 then Some ((b.0, a.0), x.1) else None

unfoldable pub binding_at : List ℕ → Option (Binding × List ℕ)
binding_at bytes = do
  v ← validity_at bytes
  s ← take_tag SEQUENCE v.1
  k ← key_info_at s.1
  Some (record { first = v.0.0; second = v.0.1; subject = s.0.whole; spki = k.0.whole }, k.1)

-- what follows the two unique identifiers
unfoldable pub after_ids : List ℕ → Option (List ℕ)
after_ids bytes = do
  a ← take_optional ISSUER_UNIQUE_ID bytes
  b ← take_optional SUBJECT_UNIQUE_ID a.1
  Some b.1

-- all of the text as the extensions: whether they are there, and the content of their SEQUENCE
abbrev pub extension_list_of : Option Piece → Option (Bool × List ℕ)
extension_list_of None = Some (false, [])
extension_list_of (Some p) = take_whole SEQUENCE p.content >>= λ s. Some (true, s.content)

unfoldable pub list_at : List ℕ → Option (Bool × List ℕ)
list_at bytes = do
  x ← take_optional EXTENSIONS bytes
  if is_empty x.1 then extension_list_of x.0 else None

-- ---- the whole

-- The three parts of a certificate.
pub record Outer : Type 0 where
  pub tbs : Piece
  pub algorithm : List ℕ
  pub signature : List ℕ

unfoldable pub outer_at : List ℕ → Option Outer
outer_at bytes = do
  x ← take_whole SEQUENCE bytes
  t ← take_tag SEQUENCE x.content
  a ← algorithm_at t.1
  s ← bits_of a.1
  Some (record { tbs = t.0; algorithm = a.0.whole; signature = s })

-- A certificate whose extensions are not read yet: `list` is the content of their SEQUENCE.
pub record Parts : Type 0 where
  pub outer : Outer
  pub front : List ℕ
  pub preamble : Preamble
  pub binding : Binding
  pub listed : Bool
  pub list : List ℕ

-- the bytes before the rest
abbrev pub before : List ℕ → List ℕ → List ℕ
before text end = take (length text - length end) text

unfoldable pub parts_at : List ℕ → Option Parts
parts_at bytes = do
  o ← outer_at bytes
  h ← preamble_at o.tbs.content
  b ← binding_at h.1
  r ← after_ids b.1
  l ← list_at r
  Some (record { outer = o; front = before o.tbs.content r; preamble = h.0; binding = b.0; listed = l.0; list = l.1 })

-- the parts, the times of their validity, and the extensions that their list reads as
abbrev pub certificate_from_parts : List ℕ → Parts → ℤ → ℤ → List Extension → Cert
certificate_from_parts text p not_before not_after extensions =
    record {
      whole = text;
      tbs = p.outer.tbs.whole;
      front = p.front;
      version = p.preamble.version;
      inner_algorithm = p.preamble.algorithm;
      issuer = p.preamble.issuer;
      not_before = not_before;
      not_after = not_after;
      subject = p.binding.subject;
      spki = p.binding.spki;
      listed = p.listed;
      extensions = extensions;
      algorithm = p.outer.algorithm;
      signature = p.outer.signature;
    }

-- The text is cut into these parts, and the elements of their validity are these times.
pub record HasCertificateParts (text : List ℕ) (p : Parts) (not_before not_after : ℤ) : Type 0 where
  pub cut : parts_at text ≡ Some p
  pub begins : IsTimeOf p.binding.first.tag p.binding.first.content not_before
  pub ends : IsTimeOf p.binding.second.tag p.binding.second.content not_after
