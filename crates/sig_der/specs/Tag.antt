-- The identifier octet of an element: X.690 section 8.1.2, and the tags of this project's formats by class, form and
-- number.
use Rattle.std.specs.Prelude.{ℕ, ◌+◌, ◌*◌, Bool, true, false, if◌then◌else◌}

-- The four classes of tags: X.690 section 8.1.2.2, table 1.
pub data Class : Type 0 where
  universal : Class
  application : Class
  context_specific : Class
  private_use : Class

-- bits 8 and 7
abbrev pub class_bits : Class → ℕ
class_bits universal = 0
class_bits application = 1
class_bits context_specific = 2
class_bits private_use = 3

-- The identifier octet of a tag whose number is below 31: bits 8 and 7 are the class, bit 6 is 1 where the encoding is
-- constructed, bits 5 to 1 are the number.
abbrev pub identifier : Class → Bool → ℕ → ℕ
identifier class constructed number = class_bits class * 64 + (if constructed then 32 else 0) + number

-- ---- universal tags: X.680 section 8.4, table 1

abbrev pub BOOLEAN : ℕ
BOOLEAN = identifier universal false 1

abbrev pub INTEGER : ℕ
INTEGER = identifier universal false 2

abbrev pub BIT_STRING : ℕ
BIT_STRING = identifier universal false 3

abbrev pub OCTET_STRING : ℕ
OCTET_STRING = identifier universal false 4

abbrev pub NULL : ℕ
NULL = identifier universal false 5

abbrev pub OBJECT_IDENTIFIER : ℕ
OBJECT_IDENTIFIER = identifier universal false 6

abbrev pub UTF8_STRING : ℕ
UTF8_STRING = identifier universal false 12

abbrev pub UTC_TIME : ℕ
UTC_TIME = identifier universal false 23

abbrev pub GENERALIZED_TIME : ℕ
GENERALIZED_TIME = identifier universal false 24

abbrev pub SEQUENCE : ℕ
SEQUENCE = identifier universal true 16

abbrev pub SET : ℕ
SET = identifier universal true 17

-- ---- context-specific tags: RFC 5280

-- the tag [n] of a type whose encoding is primitive
abbrev pub context : ℕ → ℕ
context n = identifier context_specific false n

-- the tag [n] of a type whose encoding is constructed, as it is wherever [n] is EXPLICIT
abbrev pub constructed_context : ℕ → ℕ
constructed_context n = identifier context_specific true n

-- TBSCertificate (section 4.1): version [0] EXPLICIT, issuerUniqueID [1], subjectUniqueID [2], extensions [3] EXPLICIT
abbrev pub VERSION : ℕ
VERSION = constructed_context 0

abbrev pub ISSUER_UNIQUE_ID : ℕ
ISSUER_UNIQUE_ID = context 1

abbrev pub SUBJECT_UNIQUE_ID : ℕ
SUBJECT_UNIQUE_ID = context 2

abbrev pub EXTENSIONS : ℕ
EXTENSIONS = constructed_context 3

-- GeneralName (section 4.2.1.6): otherName [0] with its value [0] EXPLICIT, rfc822Name [1], uniformResourceIdentifier
-- [6]
abbrev pub OTHER_NAME : ℕ
OTHER_NAME = constructed_context 0

abbrev pub OTHER_NAME_VALUE : ℕ
OTHER_NAME_VALUE = constructed_context 0

abbrev pub RFC822_NAME : ℕ
RFC822_NAME = context 1

abbrev pub UNIFORM_RESOURCE_IDENTIFIER : ℕ
UNIFORM_RESOURCE_IDENTIFIER = context 6
