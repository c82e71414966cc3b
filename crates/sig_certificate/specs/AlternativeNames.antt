-- *Extension values*, the subject alternative name, as a relation that builds the text: RFC 5280 section 4.2.1.6, in
-- the profile that this crate reads. That `names_of` reads exactly these is a law of the crate.
use Rattle.std.specs.Prelude.{◌≡◌, ◌≢◌, ◌⊎◌, ℕ, ◌<◌, List, [], ◌∷◌, ◌++◌, length}
use Rattle.std.specs.Str.{IsAscii}
use Rattle.sig_der.specs.Element.{IsElement}
use Rattle.sig_certificate.specs.Names.{Name, Email, Uri, Other, Unread}
use Rattle.sig_der.specs.Tag.{OBJECT_IDENTIFIER, OTHER_NAME, OTHER_NAME_VALUE, RFC822_NAME, SEQUENCE}
use Rattle.sig_der.specs.Tag.{UNIFORM_RESOURCE_IDENTIFIER, context, constructed_context}

-- otherName has an object identifier that is not empty, and an explicit element of any tag
pub record IsOtherName (content kind value : List ℕ) : Type 0 where
  pub kind_text : List ℕ
  pub explicit_text : List ℕ
  pub value_text : List ℕ
  pub tag : ℕ
  pub parts : content ≡ kind_text ++ explicit_text
  pub identifies : IsElement kind_text OBJECT_IDENTIFIER kind
  pub named : 0 < length kind
  pub explicit : IsElement explicit_text OTHER_NAME_VALUE value_text
  pub says : IsElement value_text tag value

-- one of the tags [0] to [8], in either form
pub record IsContext (tag : ℕ) : Type 0 where
  pub number : ℕ
  pub known : number < 9
  pub is : (tag ≡ context number) ⊎ (tag ≡ constructed_context number)

-- What the name of a tag and a content says: rfc822Name, uniformResourceIdentifier, otherName; and for the other forms
-- nothing.
abbrev pub IsName : ℕ → List ℕ → Name → Type 0
IsName tag content (Email text) = (tag ≡ RFC822_NAME) × (text ≡ content) × IsAscii content
IsName tag content (Uri text) = (tag ≡ UNIFORM_RESOURCE_IDENTIFIER) × (text ≡ content) × IsAscii content
IsName tag content (Other kind value) = (tag ≡ OTHER_NAME) × IsOtherName content kind value
IsName tag content Unread =
    (tag ≢ RFC822_NAME) × (tag ≢ UNIFORM_RESOURCE_IDENTIFIER) × (tag ≢ OTHER_NAME) × IsContext tag

-- GeneralName
pub record IsGeneralName (whole : List ℕ) (name : Name) : Type 0 where
  pub tag : ℕ
  pub content : List ℕ
  pub is : IsElement whole tag content
  pub says : IsName tag content name

-- the texts of the names, one after another
abbrev pub AreJoinedNames : List ℕ → List Name → Type 0
AreJoinedNames bytes [] = bytes ≡ []
AreJoinedNames bytes (n ∷ ns) =
    (whole : List ℕ) × ((rest : List ℕ) × (IsGeneralName whole n × ((bytes ≡ whole ++ rest) × AreJoinedNames rest ns)))

-- SubjectAltName: a SEQUENCE of names, which may be empty here
pub record AreNames (value : List ℕ) (names : List Name) : Type 0 where
  pub inner : List ℕ
  pub is : IsElement value SEQUENCE inner
  pub joined : AreJoinedNames inner names
