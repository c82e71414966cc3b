-- *Shown signer*: the text that a signer is shown as, line by line.
use Rattle.std.specs.Prelude.{ℕ, List, ◌++◌, codes, Option, Some, None}
use Rattle.sig_signer.specs.Signer.{Signer}
use Rattle.sig_signer.specs.declared.subject.CertificateSubject.{CertificateSubject}
use Rattle.sig_signer.specs.declared.subject.CertificateSubject.TheVariants.{Email, Uri}

-- the text in quotation marks, unescaped, after the name of its kind
abbrev pub named_text : List ℕ → List ℕ → List ℕ
named_text kind text = kind ++ (codes "(\"" ++ (text ++ codes "\")"))

abbrev pub subject_text : CertificateSubject → List ℕ
subject_text (Email text) = named_text (codes "Email") text
subject_text (Uri text) = named_text (codes "Uri") text

abbrev pub claim_text : Option (List ℕ) → List ℕ
claim_text None = codes "None"
claim_text (Some text) = named_text (codes "Some") text

abbrev pub line_text : List ℕ → List ℕ → List ℕ
line_text label value = codes "- " ++ (label ++ (codes ": " ++ (value ++ codes "\n")))

-- the named subject and issuer
abbrev pub person_text : Signer → List ℕ
person_text s =
    line_text (codes "issuer") (claim_text s.issuer) ++ line_text (codes "subject") (subject_text s.subject)

abbrev pub trigger_text : Signer → List ℕ
trigger_text s =
    line_text (codes "GitHub Workflow trigger") (claim_text s.trigger)
    ++ line_text (codes "GitHub Workflow SHA") (claim_text s.sha)

abbrev pub source_text : Signer → List ℕ
source_text s =
    line_text (codes "GitHub Workflow name") (claim_text s.name)
    ++ (line_text (codes "GitHub Workflow repository") (claim_text s.repository)
    ++ line_text (codes "GitHub Workflow ref") (claim_text s.reference))

abbrev pub signer_text : Signer → List ℕ
signer_text s =
    codes "CertificateSignature\n" ++ (person_text s ++ (trigger_text s ++ (source_text s ++ codes "---")))
