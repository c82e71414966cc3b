-- What is shown of a refusal beside the error, link by link: what the link compares in the inputs. Nothing is shown of
-- a part that cannot be read.
use Rattle.std.specs.Prelude.{◌≡◌, ℕ, ℤ, List, [], ◌∷◌, ◌++◌, codes, Option, Some, None}
use Rattle.sig_base.specs.OptionSteps.{◌>>=◌}
use Rattle.sig_base.specs.declared.scheme.VerifyScheme.{VerifyScheme}
use Rattle.sig_json.specs.Writing.{TreeMember}
use Rattle.sig_bundle.specs.declared.material.TransparencyLogEntry.{TransparencyLogEntry}
use Rattle.sig_certificate.specs.Certificate.{Cert, IsCertificate}
use Rattle.sig_checked_bundle.specs.Checked.{Checked}
use Rattle.sig_checked_bundle.specs.declared.content_check.CheckedContent.{CheckedContent}
use Rattle.sig_checked_bundle.specs.declared.content_check.CheckedContent.TheVariants.{Dsse, MessageSignature}
use Rattle.sig_document_fault.specs.BundleTable.{bundle_table}
use Rattle.sig_dsse.specs.declared.artifact_digest.ArtifactDigest.{ArtifactDigest}
use Rattle.sig_dsse.specs.declared.artifact_digest.ArtifactDigest.TheVariants.{Sha256, Sha512}
use Rattle.sig_rekor.specs.NoteText.{note_text}
use Rattle.sig_root.specs.declared.record.TrustedRoot.{TrustedRoot}
use Rattle.sig_shown.specs.ShownValues.{time_row}
use Rattle.sig_table.specs.DocumentFault.{fault_in}
use Rattle.sig_timestamp.specs.Timestamps.{sct_of}
use Rattle.sig_verify.specs.declared.link.Link.{Link}
use Rattle.sig_verify.specs.declared.link.Link.TheVariants as link
use Rattle.sig_evidence.specs.Accepted.{asked_note_rows, asked_rows}
use Rattle.sig_evidence.specs.Authorities.{authorities_rows}
use Rattle.sig_evidence.specs.Body.{body_rows}
use Rattle.sig_evidence.specs.Checks.{subject_rows, times_rows}
use Rattle.sig_evidence.specs.Fault.{fault_rows}
use Rattle.sig_evidence.specs.Issuer.{issuer_rows}
use Rattle.sig_evidence.specs.Logs.{log_id_rows, logs_tree, named_sct, sct_rows}
use Rattle.sig_explanation.specs.Rules.{policy_tree}
use Rattle.sig_evidence.specs.Trees.{trees_rows}
use Rattle.sig_explain_verify.specs.Inputs.{Inputs}
use Rattle.sig_explain_verify.specs.Parts.{AreAuthorities, IsCheckedIn, certificate_key, checkpoint_of, entry_in}
use Rattle.sig_explain_verify.specs.Parts.{log_key_of, promise_text_of, proof_of, root_in}
use Rattle.sig_explain_verify.specs.ShownRoot.{root_fault_in}

-- the rows of a value, if there is one
abbrev pub if_there : {A : Type 0} → (A → List TreeMember) → Option A → List TreeMember
if_there rows None = []
if_there rows (Some value) = rows value

-- ---- the texts

abbrev pub root_json_rows : Inputs → List TreeMember
root_json_rows i = if_there fault_rows (root_fault_in i.root)

abbrev pub bundle_json_rows : Inputs → List TreeMember
bundle_json_rows i = if_there fault_rows (fault_in bundle_table i.bundle)

-- ---- the trusted root

-- the time at which the ranges of its authorities and logs are looked at
abbrev pub now_row : ℤ → TreeMember
now_row now = time_row (codes "now") now

abbrev pub fulcio_of : ℤ → TrustedRoot → List TreeMember
fulcio_of now root = now_row now ∷ authorities_rows now root.certificate_authorities

abbrev pub ctlogs_of : ℤ → TrustedRoot → List TreeMember
ctlogs_of now root = now_row now ∷ (codes "ctlogs", Some (logs_tree now root.ctlogs)) ∷ []

abbrev pub tlogs_of : ℤ → TrustedRoot → List TreeMember
tlogs_of now root = now_row now ∷ (codes "tlogs", Some (logs_tree now root.tlogs)) ∷ []

-- the certificate authorities
abbrev pub fulcio_rows : Inputs → List TreeMember
fulcio_rows i = if_there (fulcio_of i.now) (root_in i.root)

-- the Certificate Transparency logs
abbrev pub ctlogs_rows : Inputs → List TreeMember
ctlogs_rows i = if_there (ctlogs_of i.now) (root_in i.root)

-- the logs of signatures
abbrev pub tlogs_rows : Inputs → List TreeMember
tlogs_rows i = if_there (tlogs_of i.now) (root_in i.root)

-- ---- the signature over the content

-- the bytes that it has to be over: the encoding of the envelope, or the SHA-256 digest of the artifact
abbrev pub signed_bytes : ArtifactDigest → CheckedContent → Option (List ℕ)
signed_bytes digest (Dsse pae digests envelope payload) = Some pae
signed_bytes (Sha256 bytes) MessageSignature = Some bytes
signed_bytes (Sha512 bytes) MessageSignature = None

-- it was asked about under this scheme and key
abbrev pub signed_rows : Inputs → Checked → VerifyScheme × List ℕ → List TreeMember
signed_rows i c key = if_there (λ message. asked_rows i.accepted key.0 key.1 message c.signature)
    (signed_bytes i.digest c.content)

-- ---- what a link compares of a bundle that passed its own checks, and of the certificates of authorities

abbrev pub checked_rows : Inputs → Option (List Cert) → Link → Checked → List TreeMember
checked_rows i authorities link.Issuer c = if_there (issuer_rows c.certificate) authorities
checked_rows i authorities link.Sct c = sct_rows (named_sct (sct_of c.certificate)) ++ ctlogs_rows i
checked_rows i authorities link.Policy c = (codes "policy", Some (policy_tree c.certificate i.policy)) ∷ []
checked_rows i authorities link.Signature c = if_there (signed_rows i c) (certificate_key c.certificate)
checked_rows i authorities link.Subject c = subject_rows c i.digest
checked_rows i authorities link.Body c = body_rows c i.digest
checked_rows i authorities link.Time c = times_rows c
checked_rows i authorities other c = []

abbrev pub IsOfChecked : Inputs → Link → List TreeMember → Type 0
IsOfChecked i named rows = (authorities : Option (List Cert)) × AreAuthorities IsCertificate (root_in i.root) i.now authorities
    × (found : Option Checked) × IsCheckedIn i.bundle found × (rows ≡ if_there (checked_rows i authorities named) found)

-- ---- what a link compares of the log entry of a bundle

-- the scheme and the key of its log
abbrev pub log_key_in : Inputs → TransparencyLogEntry → Option (VerifyScheme × List ℕ)
log_key_in i entry = root_in i.root >>= log_key_of i.now entry.log_id

-- the promise was asked about under this scheme and key
abbrev pub promised_rows : Inputs → TransparencyLogEntry → VerifyScheme × List ℕ → List TreeMember
promised_rows i entry key =
    if_there (λ promise. if_there (λ text. asked_rows i.accepted key.0 key.1 text promise) (promise_text_of entry))
    entry.inclusion_promise

-- each of the note's signatures was asked about under this scheme and key
abbrev pub noted_rows : Inputs → TransparencyLogEntry → VerifyScheme × List ℕ → List TreeMember
noted_rows i entry key =
    if_there (λ n. asked_note_rows i.accepted key.0 key.1 (note_text n.note) n.signatures) (checkpoint_of entry)

abbrev pub entry_rows : Inputs → Link → TransparencyLogEntry → List TreeMember
entry_rows i link.LogKey entry = log_id_rows entry.log_id ++ tlogs_rows i
entry_rows i link.Promise entry = if_there (promised_rows i entry) (log_key_in i entry)
entry_rows i link.NoteKey entry = if_there (noted_rows i entry) (log_key_in i entry)
entry_rows i link.NoteMatch entry = if_there trees_rows (proof_of entry)
entry_rows i link.Inclusion entry = if_there trees_rows (proof_of entry)
entry_rows i other entry = []

abbrev pub of_entry : Inputs → Link → List TreeMember
of_entry i named = if_there (entry_rows i named) (entry_in i.bundle)

-- ---- link by link

abbrev pub IsEvidence : Inputs → Option Link → List TreeMember → Type 0
IsEvidence i (Some link.RootJson) rows = rows ≡ root_json_rows i
IsEvidence i (Some link.BundleJson) rows = rows ≡ bundle_json_rows i
IsEvidence i (Some link.Fulcio) rows = rows ≡ fulcio_rows i
IsEvidence i (Some link.Ctfe) rows = rows ≡ ctlogs_rows i
IsEvidence i (Some link.Issuer) rows = IsOfChecked i link.Issuer rows
IsEvidence i (Some link.Sct) rows = IsOfChecked i link.Sct rows
IsEvidence i (Some link.Policy) rows = IsOfChecked i link.Policy rows
IsEvidence i (Some link.Signature) rows = IsOfChecked i link.Signature rows
IsEvidence i (Some link.Subject) rows = IsOfChecked i link.Subject rows
IsEvidence i (Some link.Body) rows = IsOfChecked i link.Body rows
IsEvidence i (Some link.Time) rows = IsOfChecked i link.Time rows
IsEvidence i (Some link.LogKey) rows = rows ≡ of_entry i link.LogKey
IsEvidence i (Some link.Promise) rows = rows ≡ of_entry i link.Promise
IsEvidence i (Some link.NoteKey) rows = rows ≡ of_entry i link.NoteKey
IsEvidence i (Some link.NoteMatch) rows = rows ≡ of_entry i link.NoteMatch
IsEvidence i (Some link.Inclusion) rows = rows ≡ of_entry i link.Inclusion
IsEvidence i other rows = rows ≡ []
