-- What was verified, as an object.
use Rattle.std.specs.Prelude.{List, [], ◌∷◌, ◌++◌, codes, Some}
use Rattle.sig_json.specs.Writing.{TreeMember, integer_tree, object_of}
use Rattle.sig_bundle.specs.declared.material.TransparencyLogEntry.{TransparencyLogEntry}
use Rattle.sig_certificate.specs.Certificate.{Cert}
use Rattle.sig_evidence.specs.Logs.{log_id_rows, named_sct, sct_rows}
use Rattle.sig_explanation.specs.Rules.{policy_tree}
use Rattle.sig_evidence.specs.Trees.{proof_tree}
use Rattle.sig_json.specs.Data.{Data}
use Rattle.sig_rekor.specs.declared.inclusion_proof.InclusionProof.{InclusionProof}
use Rattle.sig_shown.specs.ShownValues.{count_row, digest_tree, time_row}
use Rattle.sig_timestamp.specs.Timestamps.{sct_of}
use Rattle.sig_x509.specs.declared.issuer.Issuer.{Issuer}
use Rattle.sig_x509.specs.declared.issuer.Issuer.TheVariants.{Anchor, Intermediate}
use Rattle.sig_verified.specs.Certificate.{certificate_tree}
use Rattle.sig_verified.specs.Statement.{envelope_in}
use Rattle.sig_verified.specs.declared.run.VerifiedRun.{VerifiedRun}

-- the issuer of the certificate: the trust anchor, or the further certificate of the bundle, at this index
unfoldable pub issuer_tree : Issuer → Data
issuer_tree (Anchor place) = object_of (count_row (codes "anchor") place ∷ [])
issuer_tree (Intermediate place) = object_of (count_row (codes "further") place ∷ [])

unfoldable pub sct_tree : Cert → Data
sct_tree c = object_of (sct_rows (named_sct (sct_of c)))

unfoldable pub entry_tree : TransparencyLogEntry → InclusionProof → Data
entry_tree entry proof =
    object_of
    (log_id_rows entry.log_id
    ++ ((codes "logIndex", Some (integer_tree entry.log_index))
    ∷ time_row (codes "integratedTime") entry.integrated_time
    ∷ (codes "inclusionProof", Some (proof_tree proof))
    ∷ []))

abbrev pub verified_rows : VerifiedRun → List TreeMember
verified_rows v =
    (codes "certificate", Some (certificate_tree v.checked.now.certificate))
    ∷ (codes "issuedBy", Some (issuer_tree v.issuer))
    ∷ (codes "sct", Some (sct_tree v.checked.now.certificate))
    ∷ (codes "tlogEntry", Some (entry_tree v.checked.now.entry v.proof.now))
    ∷ (codes "digest", Some (digest_tree v.digest.now))
    ∷ (codes "envelope", envelope_in v.bundle.now.content)
    ∷ (codes "policy", Some (policy_tree v.checked.now.certificate v.policy.now))
    ∷ []
