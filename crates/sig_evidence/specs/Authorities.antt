-- The certificate authorities of a trusted root.
use Rattle.std.specs.Prelude.{ℕ, ℤ, List, [], ◌∷◌, codes, length, take, unwrap_or, Some}
use Rattle.sig_json.specs.Writing.{TreeMember, list_tree, object_of}
use Rattle.sig_json.specs.Data.{Data}
use Rattle.sig_root.specs.declared.record.CertificateAuthority.{CertificateAuthority}
use Rattle.sig_shown.specs.ShownValues.{count_row, text_row}
use Rattle.sig_evidence.specs.Logs.{range_rows, state_name}

-- how many certificates an authority has, and its range, at a time
abbrev pub authority_rows : ℤ → CertificateAuthority → List TreeMember
authority_rows now authority =
    count_row (codes "certificateCount") (length (unwrap_or authority.cert_chain []))
    ∷ text_row (codes "state") (state_name now authority.valid_for)
    ∷ range_rows authority.valid_for

unfoldable pub authority_tree : ℤ → CertificateAuthority → Data
authority_tree now authority = object_of (authority_rows now authority)

-- how many authorities are shown at most
abbrev pub most_authorities : ℕ
most_authorities = 256

-- the first of them, and how many there are
abbrev pub authorities_rows : ℤ → List CertificateAuthority → List TreeMember
authorities_rows now authorities =
    (codes "certificateAuthorities", Some (list_tree (authority_tree now) (take most_authorities authorities)))
    ∷ count_row (codes "certificateAuthorityCount") (length authorities)
    ∷ []
