-- *Log body*: what a log's entry about a signature says, and that it is about this one. A certificate is its PEM (RFC
-- 7468 section 5.1).
use Rattle.std.specs.Prelude.{◌≡◌, ◌⊎◌, ℕ, List, Bool, Ok, IsTrue, IsSome}
use Rattle.sig_certificate.specs.Pem.{pem_of}
use Rattle.sig_json.specs.Document.{document_of}
use Rattle.sig_json.specs.Record.{record_in}
use Rattle.sig_checked_bundle.specs.Checked.{Checked}
use Rattle.sig_checked_bundle.specs.DsseBody.{body_about, dsse_body_of}
use Rattle.sig_checked_bundle.specs.Hashedrekord.{hashedrekord_tree}
use Rattle.sig_checked_bundle.specs.declared.content_check.CheckedContent.{CheckedContent}
use Rattle.sig_checked_bundle.specs.declared.content_check.CheckedContent.TheVariants.{MessageSignature, Dsse}
use Rattle.sig_bundle.specs.declared.material.TransparencyLogEntry.{TransparencyLogEntry}

-- The body says this of the content, for an artifact of this SHA-256 digest: for a signature over the artifact it is
-- the whole tree, and of an envelope it has these members.
abbrev pub IsBodyAbout : CheckedContent → List ℕ → List ℕ → List ℕ → List ℕ → Type 0
IsBodyAbout MessageSignature digest signature certificate body =
    document_of body ≡ Ok (hashedrekord_tree digest signature (pem_of certificate))
IsBodyAbout (Dsse pae digests envelope payload) digest signature certificate body =
    record_in dsse_body_of body ≡ Ok (body_about envelope payload signature (pem_of certificate))

-- the log entry of a checked bundle is about what the bundle holds, and about an artifact of this digest
abbrev pub IsLogBody : Checked → List ℕ → Type 0
IsLogBody c digest = IsBodyAbout c.content digest c.signature c.certificate.whole c.entry.canonicalized_body

-- without a network, or with a proof: nothing has to be fetched
abbrev pub NeedsNoFetch : Bool → TransparencyLogEntry → Type 0
NeedsNoFetch offline entry = IsTrue offline ⊎ IsSome entry.inclusion_proof
