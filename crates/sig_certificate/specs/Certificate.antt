-- *Certificate*: RFC 5280 section 4.1, in the profile that this crate reads. The relation builds the text from the
-- record's parts; the reader cuts it.
use Rattle.std.specs.Prelude.{◌≡◌, ℕ, ◌+◌, ◌<◌, ℤ, List, [], ◌∷◌, ◌++◌, length, Bool, true, false, ◌⊎◌, if◌then◌else◌}
use Rattle.sig_der.specs.Element.{IsElement}
use Rattle.sig_der.specs.Joined.{AreJoined}
use Rattle.sig_der.specs.KeyInfo.{Algorithm, IsAlgorithm, KeyInfo, IsKeyInfo}
use Rattle.sig_der.specs.DerTime.{IsTimeOf}
use Rattle.sig_der.specs.Tag.{BIT_STRING, BOOLEAN, EXTENSIONS, INTEGER, ISSUER_UNIQUE_ID, OBJECT_IDENTIFIER}
use Rattle.sig_der.specs.Tag.{OCTET_STRING, SEQUENCE, SUBJECT_UNIQUE_ID, VERSION}

-- ---- the records

-- An extension: its object identifier, whether it is critical, its value (the content of its OCTET STRING), its whole
-- text.
pub record Extension : Type 0 where
  pub oid : List ℕ
  pub critical : Bool
  pub value : List ℕ
  pub whole : List ℕ

-- A certificate. Every part that is neither a number nor a truth value is a part of its text; the times are seconds since
-- 1970.
pub record Cert : Type 0 where
  pub whole : List ℕ
  -- the TBSCertificate, which is what is signed
  pub tbs : List ℕ
  -- the elements of the TBSCertificate before its extensions
  pub front : List ℕ
  -- 1 to 3
  pub version : ℕ
  pub inner_algorithm : List ℕ
  pub issuer : List ℕ
  pub not_before : ℤ
  pub not_after : ℤ
  pub subject : List ℕ
  pub spki : List ℕ
  -- whether the element of the extensions is there, and what it lists
  pub listed : Bool
  pub extensions : List Extension
  -- the outer algorithm
  pub algorithm : List ℕ
  -- the bits of the signature, without the count of unused bits
  pub signature : List ℕ

-- ---- small parts

-- BOOLEAN DEFAULT FALSE: absent, or one octet that is 00 or FF
abbrev pub IsFlag : List ℕ → Bool → Type 0
IsFlag text flag = ((text ≡ []) × (flag ≡ false)) ⊎ IsElement text BOOLEAN ((if flag then 255 else 0) ∷ [])

-- an element of this tag, or nothing
abbrev pub IsOptionalElement : ℕ → List ℕ → Type 0
IsOptionalElement tag text = (text ≡ []) ⊎ ((content : List ℕ) × IsElement text tag content)

abbrev pub IsSequence : List ℕ → Type 0
IsSequence text = (content : List ℕ) × IsElement text SEQUENCE content

abbrev pub IsAlgorithmText : List ℕ → Type 0
IsAlgorithmText text = (a : Algorithm) × (IsAlgorithm a × (text ≡ a.whole))

abbrev pub IsKeyInfoText : List ℕ → Type 0
IsKeyInfoText text = (k : KeyInfo) × (IsKeyInfo k × (text ≡ k.whole))

-- an element that is a time
pub record IsTimeText (text : List ℕ) (second : ℤ) : Type 0 where
  pub tag : ℕ
  pub content : List ℕ
  pub is : IsElement text tag content
  pub time : IsTimeOf tag content second

-- ---- the fields of the TBSCertificate

-- Version, section 4.1.2.1: an explicit INTEGER 0, 1 or 2 is the version 1, 2 or 3
pub record IsExplicitVersion (text : List ℕ) (version : ℕ) : Type 0 where
  pub number : ℕ
  pub inner : List ℕ
  pub outer : IsElement text VERSION inner
  pub integer : IsElement inner INTEGER (number ∷ [])
  pub known : number < 3
  pub is : version ≡ number + 1

-- and where the field is absent, the version is 1
abbrev pub IsVersion : List ℕ → ℕ → Type 0
IsVersion text version = ((text ≡ []) × (version ≡ 1)) ⊎ IsExplicitVersion text version

-- CertificateSerialNumber, section 4.1.2.2: an INTEGER that is not empty
pub record IsSerial (text : List ℕ) : Type 0 where
  pub content : List ℕ
  pub is : IsElement text INTEGER content
  pub some : 0 < length content

-- Validity, section 4.1.2.5: a SEQUENCE of two times
pub record IsValidity (text : List ℕ) (not_before not_after : ℤ) : Type 0 where
  pub first : List ℕ
  pub second : List ℕ
  pub is : IsElement text SEQUENCE (first ++ second)
  pub begins : IsTimeText first not_before
  pub ends : IsTimeText second not_after

-- Extension, section 4.1: a SEQUENCE of an object identifier that is not empty, a BOOLEAN DEFAULT FALSE, an OCTET
-- STRING
pub record IsExtension (e : Extension) : Type 0 where
  pub oid_text : List ℕ
  pub flag_text : List ℕ
  pub value_text : List ℕ
  pub whole : IsElement e.whole SEQUENCE (oid_text ++ (flag_text ++ value_text))
  pub oid : IsElement oid_text OBJECT_IDENTIFIER e.oid
  pub named : 0 < length e.oid
  pub flag : IsFlag flag_text e.critical
  pub value : IsElement value_text OCTET_STRING e.value

-- Extensions, section 4.1.2.9: an explicit SEQUENCE of extensions
pub record IsList (text : List ℕ) (extensions : List Extension) : Type 0 where
  pub sequence : List ℕ
  pub inner : List ℕ
  pub outer : IsElement text EXTENSIONS sequence
  pub list : IsElement sequence SEQUENCE inner
  pub joined : AreJoined IsExtension (λ e. e.whole) inner extensions

-- or nothing
abbrev pub AreExtensions : List ℕ → Bool → List Extension → Type 0
AreExtensions text true extensions = IsList text extensions
AreExtensions text false extensions = (text ≡ []) × (extensions ≡ [])

-- ---- the whole

-- TBSCertificate, section 4.1.2
pub record IsTbsCertificate (c : Cert) : Type 0 where
  pub version_text : List ℕ
  pub serial_text : List ℕ
  pub validity_text : List ℕ
  pub issuer_id_text : List ℕ
  pub subject_id_text : List ℕ
  pub extensions_text : List ℕ
  pub tbs : IsElement c.tbs SEQUENCE (c.front ++ extensions_text)
  pub front : c.front
      ≡ version_text ++ (serial_text
      ++ (c.inner_algorithm ++ (c.issuer
      ++ (validity_text ++ (c.subject ++ (c.spki ++ (issuer_id_text ++ subject_id_text)))))))
  pub version : IsVersion version_text c.version
  pub serial : IsSerial serial_text
  pub algorithm : IsAlgorithmText c.inner_algorithm
  pub issuer : IsSequence c.issuer
  pub validity : IsValidity validity_text c.not_before c.not_after
  pub subject : IsSequence c.subject
  pub key : IsKeyInfoText c.spki
  pub issuer_id : IsOptionalElement ISSUER_UNIQUE_ID issuer_id_text
  pub subject_id : IsOptionalElement SUBJECT_UNIQUE_ID subject_id_text
  pub extensions : AreExtensions extensions_text c.listed c.extensions

-- *Certificate*: one SEQUENCE of the TBSCertificate, an algorithm, and the BIT STRING of the signature
pub record IsCertificate (text : List ℕ) (c : Cert) : Type 0 where
  pub signature_text : List ℕ
  pub same : c.whole ≡ text
  pub whole : IsElement text SEQUENCE (c.tbs ++ (c.algorithm ++ signature_text))
  pub tbs : IsTbsCertificate c
  pub algorithm : IsAlgorithmText c.algorithm
  pub signature : IsElement signature_text BIT_STRING (0 ∷ c.signature)
