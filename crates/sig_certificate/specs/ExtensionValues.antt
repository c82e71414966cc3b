-- *Extension values*: key usage, extended key usage and basic constraints as relations that build the text, in the
-- words of X.690 and RFC 5280. That the readers of Values read exactly these are laws of the crate.
use Rattle.std.specs.Prelude.{◌≡◌, ℕ, ◌-◌, ◌/◌, ◌%◌, ◌^◌, ◌<◌, ◌≤◌, List, [], ◌∷◌, ◌++◌, length, true, Option, Some}
use Rattle.std.specs.Prelude.{None, get_or}
use Rattle.sig_der.specs.Element.{element, IsElement}
use Rattle.sig_der.specs.Joined.{AreJoined}
use Rattle.sig_der.specs.Length.{octets_number}
use Rattle.sig_der.specs.Tag.{BIT_STRING, INTEGER, OBJECT_IDENTIFIER, SEQUENCE}
use Rattle.sig_certificate.specs.declared.values.KeyUsage.{KeyUsage}
use Rattle.sig_certificate.specs.declared.values.BasicConstraints.{BasicConstraints}
use Rattle.sig_certificate.specs.Certificate.{IsFlag}

-- ---- BIT STRING: X.690 section 8.6

-- Bit n of the bits that the octets hold: bit 0 is the top bit of the first octet, bit 8 the top bit of the second. A
-- bit past the last octet is 0 (RFC 5280 section 4.2.1.3, with X.680 section 22.7: a named bit list is as if 0 bits
-- followed).
abbrev pub bit : List ℕ → ℕ → ℕ
bit octets n = get_or octets (n / 8) 0 / 2 ^ (7 - n % 8) % 2

-- The contents octets of a BIT STRING: the count of unused bits, from 0 to 7, which is 0 where no octet follows it,
-- and the octets.
pub record IsBitString (content octets : List ℕ) : Type 0 where
  pub unused : ℕ
  pub few : unused < 8
  pub none : (octets ≡ []) → unused ≡ 0
  pub spelled : content ≡ unused ∷ octets

-- ---- key usage: RFC 5280 section 4.2.1.3

-- KeyUsage ::= BIT STRING { digitalSignature (0), .., keyCertSign (5), .. }
abbrev pub digital_signature_bit : ℕ
digital_signature_bit = 0

abbrev pub key_cert_sign_bit : ℕ
key_cert_sign_bit = 5

pub record IsKeyUsage (content : List ℕ) (usage : KeyUsage) : Type 0 where
  pub octets : List ℕ
  pub is : IsBitString content octets
  pub digital_signature : (usage.digital_signature ≡ true → bit octets digital_signature_bit ≡ 1)
      × (bit octets digital_signature_bit ≡ 1 → usage.digital_signature ≡ true)
  pub key_cert_sign : (usage.key_cert_sign ≡ true → bit octets key_cert_sign_bit ≡ 1)
      × (bit octets key_cert_sign_bit ≡ 1 → usage.key_cert_sign ≡ true)

pub record IsKeyUsageValue (value : List ℕ) (usage : KeyUsage) : Type 0 where
  pub content : List ℕ
  pub is : IsElement value BIT_STRING content
  pub says : IsKeyUsage content usage

-- ---- extended key usage: RFC 5280 section 4.2.1.12

abbrev pub purpose_text : List ℕ → List ℕ
purpose_text purpose = element OBJECT_IDENTIFIER purpose

-- KeyPurposeId ::= OBJECT IDENTIFIER, which is not empty
pub record IsPurpose (purpose : List ℕ) : Type 0 where
  pub is : IsElement (purpose_text purpose) OBJECT_IDENTIFIER purpose
  pub named : 0 < length purpose

-- ExtKeyUsageSyntax ::= SEQUENCE OF KeyPurposeId, which may be empty here
pub record ArePurposes (value : List ℕ) (purposes : List (List ℕ)) : Type 0 where
  pub inner : List ℕ
  pub is : IsElement value SEQUENCE inner
  pub joined : AreJoined IsPurpose purpose_text inner purposes

-- ---- INTEGER: X.690 section 8.3

-- The contents octets of an INTEGER that is not negative and has at most four: the shortest two's complement. Not
-- negative: bit 8 of the first octet is 0 (section 8.3.3). Shortest: where there are several, the first nine bits are
-- not all 0 (section 8.3.2).
pub record IsNatural (content : List ℕ) (n : ℕ) : Type 0 where
  pub some : 1 ≤ length content
  pub most : length content ≤ 4
  pub not_negative : get_or content 0 0 < 128
  pub shortest : 2 ≤ length content → (get_or content 0 0 ≡ 0) → 128 ≤ get_or content 1 0
  pub value : octets_number content ≡ n

-- ---- basic constraints: RFC 5280 section 4.2.1.9

abbrev pub IsPathLen : List ℕ → Option ℕ → Type 0
IsPathLen text None = text ≡ []
IsPathLen text (Some n) = (content : List ℕ) × (IsElement text INTEGER content × IsNatural content n)

-- BasicConstraints ::= SEQUENCE { cA BOOLEAN DEFAULT FALSE, pathLenConstraint INTEGER (0..MAX) OPTIONAL }
pub record AreBasicConstraints (value : List ℕ) (constraints : BasicConstraints) : Type 0 where
  pub ca_text : List ℕ
  pub path_len_text : List ℕ
  pub is : IsElement value SEQUENCE (ca_text ++ path_len_text)
  pub ca : IsFlag ca_text constraints.ca
  pub path_len : IsPathLen path_len_text constraints.path_len
