-- What a bundle has of the links `time` and `subject`.
use Rattle.std.specs.Prelude.{ℕ, List, [], ◌∷◌, codes, length, take, Some}
use Rattle.sig_json.specs.Writing.{TreeMember, list_tree}
use Rattle.sig_certificate.specs.Certificate.{Cert}
use Rattle.sig_checked_bundle.specs.Checked.{Checked}
use Rattle.sig_checked_bundle.specs.declared.content_check.CheckedContent.{CheckedContent}
use Rattle.sig_checked_bundle.specs.declared.content_check.CheckedContent.TheVariants.{Dsse, MessageSignature}
use Rattle.sig_dsse.specs.declared.artifact_digest.ArtifactDigest.{ArtifactDigest}
use Rattle.sig_shown.specs.ShownValues.{count_row, digest_tree, time_row}

-- the first and the last second at which a certificate is valid
abbrev pub validity_rows : Cert → List TreeMember
validity_rows c = time_row (codes "notBefore") c.not_before ∷ time_row (codes "notAfter") c.not_after ∷ []

-- when the log took the entry, and the validity of the certificate
abbrev pub times_rows : Checked → List TreeMember
times_rows b = time_row (codes "integratedTime") b.entry.integrated_time ∷ validity_rows b.certificate

-- the greatest number of digests of a statement that are shown
abbrev pub most_digests : ℕ
most_digests = 256

abbrev pub digests_rows : List ArtifactDigest → List TreeMember
digests_rows digests =
    (codes "subjectDigests", Some (list_tree digest_tree (take most_digests digests)))
    ∷ count_row (codes "subjectDigestCount") (length digests)
    ∷ []

-- the digests that a statement's subjects have
abbrev pub content_rows : CheckedContent → List TreeMember
content_rows MessageSignature = []
content_rows (Dsse pae digests text payload) = digests_rows digests

-- the digest in hand, and those of the statement
abbrev pub subject_rows : Checked → ArtifactDigest → List TreeMember
subject_rows b digest = (codes "digest", Some (digest_tree digest)) ∷ content_rows b.content
