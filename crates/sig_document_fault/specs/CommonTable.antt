-- *Tables* of the records that a bundle and a trusted root both have (sigstore.common.v1), row by row as in the records.
use Rattle.std.specs.Prelude.{[], ◌∷◌, codes}
use Rattle.sig_table.specs.Kinds.{bytes_table}
use Rattle.sig_table.specs.Table.{Table, elements, optional_row, record_table}

-- a certificate (X509Certificate)
unfoldable pub certificate_table : Table
certificate_table = record_table (optional_row (codes "rawBytes") bytes_table ∷ [])

-- a chain of certificates (X509CertificateChain)
unfoldable pub chain_table : Table
chain_table = record_table (optional_row (codes "certificates") (elements certificate_table) ∷ [])

unfoldable pub log_id_table : Table
log_id_table = record_table (optional_row (codes "keyId") bytes_table ∷ [])
