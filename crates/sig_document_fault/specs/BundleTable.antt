-- *Tables* of a bundle (Sigstore bundle format), object by object: the rows in the order in which its record reads
-- them.
use Rattle.std.specs.Prelude.{[], ◌∷◌, codes}
use Rattle.sig_document_fault.specs.CommonTable.{certificate_table, chain_table, log_id_table}
use Rattle.sig_table.specs.Kinds.{bytes_table, i64_table, object_table, text_table}
use Rattle.sig_table.specs.Table.{Table, elements, oneof_row, optional_row, record_table}

-- ---- an entry of a log

unfoldable pub promise_table : Table
promise_table = record_table (optional_row (codes "signedEntryTimestamp") bytes_table ∷ [])

unfoldable pub checkpoint_table : Table
checkpoint_table = record_table (optional_row (codes "envelope") text_table ∷ [])

unfoldable pub kind_version_table : Table
kind_version_table =
    record_table (optional_row (codes "kind") text_table ∷ optional_row (codes "version") text_table ∷ [])

unfoldable pub proof_table : Table
proof_table =
    record_table (
    optional_row (codes "logIndex") i64_table
    ∷ optional_row (codes "rootHash") bytes_table
    ∷ optional_row (codes "treeSize") i64_table
    ∷ optional_row (codes "hashes") (elements bytes_table)
    ∷ optional_row (codes "checkpoint") checkpoint_table
    ∷ []
    )

unfoldable pub entry_table : Table
entry_table =
    record_table (
    optional_row (codes "logIndex") i64_table
    ∷ optional_row (codes "logId") log_id_table
    ∷ optional_row (codes "kindVersion") kind_version_table
    ∷ optional_row (codes "integratedTime") i64_table
    ∷ optional_row (codes "inclusionPromise") promise_table
    ∷ optional_row (codes "inclusionProof") proof_table
    ∷ optional_row (codes "canonicalizedBody") bytes_table
    ∷ []
    )

-- at most one of the three that say what the signer is
unfoldable pub material_table : Table
material_table =
    record_table (
    optional_row (codes "certificate") certificate_table
    ∷ optional_row (codes "x509CertificateChain") chain_table
    ∷ optional_row (codes "publicKey") object_table
    ∷ oneof_row (codes "certificate" ∷ codes "x509CertificateChain" ∷ codes "publicKey" ∷ [])
    ∷ optional_row (codes "tlogEntries") (elements entry_table)
    ∷ []
    )

-- ---- the content

unfoldable pub digest_table : Table
digest_table = record_table (optional_row (codes "digest") bytes_table ∷ [])

unfoldable pub message_signature_table : Table
message_signature_table =
    record_table (optional_row (codes "signature") bytes_table ∷ optional_row (codes "messageDigest") digest_table ∷ [])

unfoldable pub dsse_signature_table : Table
dsse_signature_table =
    record_table (optional_row (codes "sig") bytes_table ∷ optional_row (codes "keyid") text_table ∷ [])

unfoldable pub envelope_table : Table
envelope_table =
    record_table (
    optional_row (codes "payload") bytes_table
    ∷ optional_row (codes "payloadType") text_table
    ∷ optional_row (codes "signatures") (elements dsse_signature_table)
    ∷ []
    )

-- ---- the bundle: it has at most one content

unfoldable pub bundle_table : Table
bundle_table =
    record_table (
    optional_row (codes "mediaType") text_table
    ∷ optional_row (codes "verificationMaterial") material_table
    ∷ optional_row (codes "messageSignature") message_signature_table
    ∷ optional_row (codes "dsseEnvelope") envelope_table
    ∷ oneof_row (codes "messageSignature" ∷ codes "dsseEnvelope" ∷ [])
    ∷ []
    )
