-- The rows that inputs ask for are those of their parts.
use Rattle.std.proofs.Common.{◌↔◌, ◌⊎◌, inl, inr}
use Rattle.sig_base.specs.declared.checker.AcceptedRow.{AcceptedRow}
use Rattle.sig_checked_bundle.proofs.Certificates.{OneCertificate}
use Rattle.sig_verify.specs.Links.{Inputs}
use Rattle.sig_verify.proofs.Parts.{AnchoredParts, Parts, checked_from, checked_to, log_keys_of, logged_from}
use Rattle.sig_verify.proofs.Parts.{logged_to, trust_with}
use Rattle.sig_questions.specs.Asked.{IsAskedBy, IsCertificateRow, IsContentRow, IsNoteRow, IsPointRow, IsPromiseRow}

pub certificate_asked : {i : Inputs} (p : AnchoredParts i) (row : AcceptedRow)
    → IsCertificateRow (trust_with p) p.parts.checked row → IsAskedBy i row
certificate_asked p row is = inl (checked_to p (λ trust c. IsCertificateRow trust c row) is)

pub point_asked : {i : Inputs} (p : AnchoredParts i) (row : AcceptedRow)
    → IsPointRow (trust_with p) p.parts.checked row → IsAskedBy i row
point_asked p row is = inr (inl (checked_to p (λ trust c. IsPointRow trust c row) is))

pub content_asked : {i : Inputs} (p : AnchoredParts i) (row : AcceptedRow)
    → IsContentRow i.digest p.parts.checked row → IsAskedBy i row
content_asked {i} p row is = inr (inr (inl (checked_to p (λ trust c. IsContentRow i.digest c row) is)))

pub promise_asked : {i : Inputs} (p : Parts i) (row : AcceptedRow)
    → IsPromiseRow (log_keys_of p) p.checked.entry row → IsAskedBy i row
promise_asked p row is = inr (inr (inr (inl (logged_to p (λ keys e. IsPromiseRow keys e row) is))))

pub note_asked : {i : Inputs} (p : Parts i) (row : AcceptedRow)
    → IsNoteRow (log_keys_of p) p.checked.entry row → IsAskedBy i row
note_asked p row is = inr (inr (inr (inr (logged_to p (λ keys e. IsNoteRow keys e row) is))))

-- one of the rows of these parts
abbrev pub IsAskedOf : {i : Inputs} → AnchoredParts i → AcceptedRow → Type 0
IsAskedOf {i} p row =
    IsCertificateRow (trust_with p) p.parts.checked row
    ⊎ (IsPointRow (trust_with p) p.parts.checked row
    ⊎ (IsContentRow i.digest p.parts.checked row
    ⊎ (IsPromiseRow (log_keys_of p.parts) p.parts.checked.entry row
    ⊎ IsNoteRow (log_keys_of p.parts) p.parts.checked.entry row)))

pub asked_as : OneCertificate → {i : Inputs} (p : AnchoredParts i) (row : AcceptedRow)
    → IsAskedOf p row ↔ IsAskedBy i row
asked_as one {i} p row = (to, back)
  where
    to : IsAskedOf p row → IsAskedBy i row
    to (inl certificate) = certificate_asked p row certificate
    to (inr (inl point)) = point_asked p row point
    to (inr (inr (inl content))) = content_asked p row content
    to (inr (inr (inr (inl promise)))) = promise_asked p.parts row promise
    to (inr (inr (inr (inr note)))) = note_asked p.parts row note

    back : IsAskedBy i row → IsAskedOf p row
    back (inl certificate) = inl (checked_from one p (λ trust c. IsCertificateRow trust c row) certificate)
    back (inr (inl point)) = inr (inl (checked_from one p (λ trust c. IsPointRow trust c row) point))
    back (inr (inr (inl content))) =
        inr (inr (inl (checked_from one p (λ trust c. IsContentRow i.digest c row) content)))
    back (inr (inr (inr (inl promise)))) =
        inr (inr (inr (inl (logged_from one p.parts (λ keys e. IsPromiseRow keys e row) promise))))
    back (inr (inr (inr (inr note)))) =
        inr (inr (inr (inr (logged_from one p.parts (λ keys e. IsNoteRow keys e row) note))))
