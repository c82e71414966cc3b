-- *Order of the questions*: by the links that ask for them, and for one link by the certificates that were signed and
-- by those that signed, or by the signatures of the note.
use Rattle.std.specs.Prelude.{◌≡◌, ◌⊎◌, ◌↔◌, ℕ, ◌<◌, List, ◌∷◌, ◌++◌, map, Contains, Option, Some, None, slice_get}
use Rattle.sig_base.specs.declared.checker.AcceptedRow.{AcceptedRow}
use Rattle.sig_bundle.specs.declared.material.TransparencyLogEntry.{TransparencyLogEntry}
use Rattle.sig_certificate.specs.Certificate.{Cert}
use Rattle.sig_checked_bundle.specs.Checked.{Checked}
use Rattle.sig_rekor.specs.NoteText.{note_text}
use Rattle.sig_rekor.specs.declared.checkpoint.CheckpointSignature.{CheckpointSignature}
use Rattle.sig_verify.specs.CertificateLinks.{Trust}
use Rattle.sig_verify.specs.EntryLinks.{LogKeys, OfCheckpoint, OfLogKey}
use Rattle.sig_verify.specs.Links.{Inputs, OfChecked, OfLogged, chain_links}
use Rattle.sig_verify.specs.declared.link.Link.{Link}
use Rattle.sig_verify.specs.declared.link.Link.TheVariants.{Issuer, Sct, Signature, Promise, NoteKey}
use Rattle.sig_x509.specs.Possible.{IsFirstStep, IsLaterStep}
use Rattle.sig_questions.specs.Asked.{IsContentRow, IsPointRowUnder, IsPromiseRow, OfPath, signature_row}
use Rattle.sig_questions.specs.Lists.{Pair, Side, pairs, signers}
use Rattle.sig_questions.specs.Rows.{message_row}

-- ---- which link asks for a signature

-- the signature is of a path, and of this kind
abbrev pub IsStepOf : Pair → List Cert → Cert → Type 0
IsStepOf (None, side) path anchor = IsFirstStep path anchor side.0 side.1
IsStepOf (Some y, side) path anchor = IsLaterStep path anchor side.0 y side.1

abbrev pub signed_in : Checked → Option Cert → Cert
signed_in c None = c.certificate
signed_in c (Some y) = y

-- the signature at this place among those of the certificate and of the further ones, each under the keys of the trust
-- anchors and of the further ones
abbrev pub IsCertificateRowAt : ℕ → Trust → Checked → AcceptedRow → Type 0
IsCertificateRowAt place trust c row = (pair : Pair) × (slice_get (pairs trust c) place ≡ Some pair)
    × (OfPath trust c (IsStepOf pair) × (row ≡ signature_row (signed_in c pair.0) pair.1.1))

-- the SCT under the key at this place among those of the trust anchors and of the further certificates
abbrev pub IsPointRowAt : ℕ → Trust → Checked → AcceptedRow → Type 0
IsPointRowAt place trust c row = (side : Side) × (slice_get (signers trust c) place ≡ Some side)
    × (OfPath trust c (IsStepOf (None, side)) × IsPointRowUnder trust.points c.certificate side.1 row)

-- the signature of the checkpoint at this place, over its note
abbrev pub IsNoteRowAt : ℕ → LogKeys → TransparencyLogEntry → AcceptedRow → Type 0
IsNoteRowAt place keys e row = OfLogKey keys e (λ key. OfCheckpoint e (λ p n. (s : CheckpointSignature)
    × (slice_get n.signatures place ≡ Some s) × (row ≡ message_row key.0 key.1 (note_text n.note) s.raw)))

-- the link asks for it: `issuer` for the signature of the certificates at this place, `sct` for the issuer at this
-- place, `note-key` for the signature of the note at this place, and `signature` and `promise` for one signature, whose
-- place is 0
abbrev pub IsAskedAt : Inputs → Link → ℕ → AcceptedRow → Type 0
IsAskedAt i link place row =
    ((link ≡ Issuer) × OfChecked i (λ trust c. IsCertificateRowAt place trust c row))
    ⊎ (((link ≡ Sct) × OfChecked i (λ trust c. IsPointRowAt place trust c row))
    ⊎ (((link ≡ Signature) × (place ≡ 0) × OfChecked i (λ trust c. IsContentRow i.digest c row))
    ⊎ (((link ≡ Promise) × (place ≡ 0) × OfLogged i (λ keys e. IsPromiseRow keys e row))
    ⊎ ((link ≡ NoteKey) × OfLogged i (λ keys e. IsNoteRowAt place keys e row)))))

-- ---- the order

-- a row, and which link asks for it, at which place
pub record Asking : Type 0 where
  pub link : Link
  pub place : ℕ
  pub row : AcceptedRow

-- one link comes before the other in the chain of trust
pub record IsEarlier (one other : Link) : Type 0 where
  pub before : List Link
  pub between : List Link
  pub after : List Link
  pub split : chain_links ≡ before ++ one ∷ (between ++ other ∷ after)

-- it is of an earlier link, or of the same link and an earlier place
abbrev pub IsBefore : Asking → Asking → Type 0
IsBefore one other = IsEarlier one.link other.link ⊎ ((one.link ≡ other.link) × (one.place < other.place))

-- The rows with the link that asks for each: the smaller of two positions in the list is that of an earlier link, or of
-- the same link and an earlier place; and all that is asked for is there, and nothing else. So there is one such list.
pub record AreInOrder (Asks : Link → ℕ → AcceptedRow → Type 0) (rows : List AcceptedRow) : Type 0 where
  pub askings : List Asking
  pub listed : map (λ asking. asking.row) askings ≡ rows
  pub ordered : (m n : ℕ) (one other : Asking) → m < n → slice_get askings m ≡ Some one
      → slice_get askings n ≡ Some other → IsBefore one other
  pub asked : (asking : Asking) → Contains askings asking ↔ Asks asking.link asking.place asking.row
