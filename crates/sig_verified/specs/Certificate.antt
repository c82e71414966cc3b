-- A certificate as it is shown (RFC 5280 section 4.1; Fulcio's extensions).
use Rattle.std.specs.Prelude.{◌≡◌, ℕ, List, [], ◌∷◌, ◌++◌, codes, take, Option, Some, None, option_map, unwrap_or}
use Rattle.hex.specs.Hex.{encode_lower}
use Rattle.sig_base.specs.OptionSteps.{◌>>=◌}
use Rattle.sig_json.specs.Writing.{TreeMember, list_tree, object_of}
use Rattle.sig_certificate.specs.Certificate.{Cert, Extension, IsVersion}
use Rattle.sig_certificate.specs.Lookups.{with_oid}
use Rattle.sig_certificate.specs.Names.{Name, Email, Uri, Other, Unread, general_names_of}
use Rattle.sig_der.specs.Element.{IsElement}
use Rattle.sig_der.specs.ObjectIdentifiers.{fulcio, subject_alternative_name}
use Rattle.sig_der.specs.Reading.{Piece}
use Rattle.sig_der.specs.Tag.{INTEGER, VERSION}
use Rattle.sig_der.specs.FrontReaders.{take_tag}
use Rattle.sig_evidence.specs.Checks.{validity_rows}
use Rattle.sig_json.specs.Data.{Data, string}
use Rattle.sig_policy.specs.Single.{extension_text}
use Rattle.sig_policy.specs.Texts.{utf8_text}
use Rattle.sig_shown.specs.ShownValues.{sha256_tree, some_rows, text_row}

-- ---- names

abbrev pub name_rows : Name → List TreeMember
name_rows (Email text) = some_rows (codes "email") (codes "emailLength") (utf8_text text)
name_rows (Uri text) = some_rows (codes "uri") (codes "uriLength") (utf8_text text)
name_rows (Other kind value) =
    text_row (codes "otherName") (encode_lower kind)
    ∷ some_rows (codes "value") (codes "valueLength") (utf8_text value)
name_rows Unread = []

-- a name; nothing is shown of one that is not read
unfoldable pub name_tree : Name → Data
name_tree name = object_of (name_rows name)

abbrev pub names_in : List Extension → List Name
names_in [] = []
names_in (e ∷ []) = unwrap_or (general_names_of e.value) []
names_in (e ∷ f ∷ es) = []

-- the names that the one subject alternative name gives
abbrev pub names_of : Cert → List Name
names_of c = names_in (with_oid subject_alternative_name c.extensions)

-- how many names are shown at most
abbrev pub most_names : ℕ
most_names = 64

abbrev pub names_tree : List Name → Data
names_tree names = list_tree name_tree (take most_names names)

-- ---- the serial number

-- what follows the version, if there is one
abbrev pub after_version : List ℕ → Option (Piece × List ℕ) → List ℕ
after_version front None = front
after_version front (Some version) = version.1

-- the content of the integer after it
unfoldable pub serial_in : List ℕ → Option (List ℕ)
serial_in front =
    take_tag INTEGER (after_version front (take_tag VERSION front)) >>= λ serial. Some serial.0.content

-- ---- the whole

-- what Fulcio's extensions say, each if there is one of it and it is UTF-8
abbrev pub said_rows : Cert → List TreeMember
said_rows c =
    some_rows (codes "issuer") (codes "issuerLength") (extension_text (fulcio 1) c)
    ++ (some_rows (codes "trigger") (codes "triggerLength") (extension_text (fulcio 2) c)
    ++ (some_rows (codes "sha") (codes "shaLength") (extension_text (fulcio 3) c)
    ++ (some_rows (codes "name") (codes "nameLength") (extension_text (fulcio 4) c)
    ++ (some_rows (codes "repository") (codes "repositoryLength") (extension_text (fulcio 5) c)
    ++ some_rows (codes "ref") (codes "refLength") (extension_text (fulcio 6) c)))))

abbrev pub certificate_rows : Cert → List TreeMember
certificate_rows c =
    (codes "names", Some (names_tree (names_of c)))
    ∷ (codes "serialNumber", option_map (λ serial. string (encode_lower serial)) (serial_in c.front))
    ∷ (codes "sha256", Some (sha256_tree c.whole))
    ∷ validity_rows c

unfoldable pub certificate_tree : Cert → Data
certificate_tree c = object_of (certificate_rows c ++ said_rows c)

-- ---- what the serial number is

-- the content of the INTEGER after the version (RFC 5280 section 4.1.2.2)
pub record IsSerialNumber (c : Cert) (content : List ℕ) : Type 0 where
  pub version : List ℕ
  pub serial : List ℕ
  pub after : List ℕ
  pub front : c.front ≡ version ++ (serial ++ after)
  pub versioned : IsVersion version c.version
  pub is : IsElement serial INTEGER content

-- a certificate has one, and it is the one that is shown
abbrev pub ShowsSerial : Cert → Type 0
ShowsSerial c = (content : List ℕ) × (IsSerialNumber c content × (serial_in c.front ≡ Some content))
