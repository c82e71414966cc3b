-- *Precertificate TBS*: RFC 6962 section 3.2. The TBSCertificate without its lists of SCTs.
use Rattle.std.specs.Prelude.{ℕ, ◌^◌, ◌<◌, not, List, [], ◌++◌, length, filter, if◌then◌else◌}
use Rattle.std.specs.Str.{bytes_eq}
use Rattle.sig_der.specs.Element.{element}
use Rattle.sig_der.specs.Joined.{joined}
use Rattle.sig_der.specs.Tag.{SEQUENCE, EXTENSIONS}
use Rattle.sig_der.specs.ObjectIdentifiers.{sct_list}
use Rattle.sig_certificate.specs.Certificate.{Extension, Cert, IsTbsCertificate}

-- the extensions with another object identifier, in order
abbrev pub without_oid : List ℕ → List Extension → List Extension
without_oid oid es = filter (λ e. not (bytes_eq e.oid oid)) es

abbrev pub kept_extensions : Cert → List Extension
kept_extensions c = without_oid sct_list c.extensions

-- the DER of extensions, one after another
abbrev pub ders_of : List Extension → List ℕ
ders_of es = joined (λ (e : Extension). e.whole) es

-- the DER of an extension that is kept
abbrev pub kept_of : Extension → List ℕ
kept_of e = if bytes_eq e.oid sct_list then [] else e.whole

-- extensions [3] EXPLICIT SEQUENCE OF Extension, RFC 5280 section 4.1
abbrev pub extensions_element : List Extension → List ℕ
extensions_element es = element EXTENSIONS (element SEQUENCE (ders_of es))

-- the TBSCertificate with these extensions: each element before them as it is
abbrev pub tbs_with : Cert → List Extension → List ℕ
tbs_with c es = element SEQUENCE (c.front ++ extensions_element es)

-- *Precertificate TBS*: the elements of the TBSCertificate, each as it is, except for its extensions, which are made
-- anew without those that list SCTs. A TBSCertificate without extensions is kept as it is.
abbrev pub precertificate : Cert → List ℕ
precertificate c = if c.listed then tbs_with c (kept_extensions c) else c.tbs

-- the lengths of what is written anew have a spelling
pub record HaveSpelling (c : Cert) : Type 0 where
  pub kept : length (ders_of (kept_extensions c)) < 2 ^ 32
  pub list : length (element SEQUENCE (ders_of (kept_extensions c))) < 2 ^ 32
  pub body : length (c.front ++ extensions_element (kept_extensions c)) < 2 ^ 32

-- The bytes are the TBSCertificate of a certificate that has every part of this one, but no list of SCTs.
abbrev pub IsWithoutScts : Cert → List ℕ → Type 0
IsWithoutScts c tbs = IsTbsCertificate (record c { tbs = tbs; extensions = kept_extensions c })
