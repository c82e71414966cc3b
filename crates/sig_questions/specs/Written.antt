-- What a step that adds rows does: all of its rows are added, or there was no room for them, or memory ran out.
use Rattle.std.specs.Prelude.{◌≡◌, ℕ, ◌+◌, ◌<◌, List, [], ◌∷◌, ◌++◌, flat_map, Option, Result, Ok, Err}
use Rattle.std.specs.Borrow.{Bor}
use Rattle.sig_base.specs.declared.checker.AcceptedRow.{AcceptedRow}
use Rattle.sig_certificate.specs.Certificate.{Cert}
use Rattle.sig_checked_bundle.specs.Checked.{Checked}
use Rattle.sig_dsse.specs.declared.artifact_digest.ArtifactDigest.{ArtifactDigest}
use Rattle.sig_timestamp.specs.Embedded.{ready}
use Rattle.sig_timestamp.specs.RingKey.{point_at}
use Rattle.sig_timestamp.specs.Timestamps.{sct_of}
use Rattle.sig_x509.specs.declared.possible.PossiblePaths.{PossiblePaths}
use Rattle.sig_x509.specs.declared.possible.PossibleSigners.{PossibleSigners}
use Rattle.sig_questions.specs.Asked.{signature_row}
use Rattle.sig_questions.specs.Lists.{content_questions, embedded_questions, entry_questions}
use Rattle.sig_questions.specs.Rows.{bytes_of_rows}
use Rattle.sig_questions.specs.declared.listing.NoQuestions.{NoQuestions}
use Rattle.sig_questions.specs.declared.listing.NoQuestions.TheVariants.{Link, TooLong, OutOfMemory}
use Rattle.sig_questions.specs.declared.rows.RowParts.{RowParts}
use Rattle.sig_questions.specs.declared.trust.TrustParts.{TrustParts}
use Rattle.sig_questions.specs.declared.rows.Rows.{Rows}

abbrev pub AddsRows : Rows → List AcceptedRow → Result (Unit {0}) NoQuestions → Rows → Type 0
AddsRows old rows (Ok done) new = (new.rows ≡ old.rows ++ rows) × (new.room + bytes_of_rows rows ≡ old.room)
AddsRows old rows (Err TooLong) new = old.room < bytes_of_rows rows
AddsRows old rows (Err OutOfMemory) new = Unit {0}
AddsRows old rows (Err (Link link)) new = ⊥

-- this is the room that is left after this number of bytes
abbrev pub IsSpent : ℕ → ℕ → Result ℕ NoQuestions → Type 0
IsSpent room count (Ok left) = left + count ≡ room
IsSpent room count (Err TooLong) = room < count
IsSpent room count (Err OutOfMemory) = ⊥
IsSpent room count (Err (Link link)) = ⊥

abbrev pub row_of_parts : RowParts → AcceptedRow
row_of_parts parts = record {
  operation = parts.operation;
  scheme = parts.scheme.now;
  key = parts.key.now;
  message = parts.message.now;
  signature = parts.signature.now;
}

-- ---- the rows of signatures of certificates

abbrev pub row_under : PossibleSigners → Bor Cert → List AcceptedRow
row_under y x = signature_row y.certificate.now x.now ∷ []

-- under the keys of all that may have signed
abbrev pub rows_of_signed : PossibleSigners → List AcceptedRow
rows_of_signed y = flat_map (row_under y) y.signers.items

-- the row of the SCT of a certificate, as issued under the key of x
abbrev pub point_questions : (List ℕ → Option (List ℕ)) → Cert → Cert → List AcceptedRow
point_questions points c x = embedded_questions points (ready c x.spki (sct_of c))

abbrev pub point_under : (List ℕ → Option (List ℕ)) → PossibleSigners → Bor Cert → List AcceptedRow
point_under points y x = point_questions points y.certificate.now x.now

abbrev pub rows_of_points : (List ℕ → Option (List ℕ)) → PossibleSigners → List AcceptedRow
rows_of_points points y = flat_map (point_under points y) y.signers.items

-- ---- all rows of these paths

abbrev pub rows_of_paths : PossiblePaths → List AcceptedRow
rows_of_paths paths = rows_of_signed paths.leaf ++ flat_map rows_of_signed paths.further.items

-- the rows after those of the paths
abbrev pub rows_after : PossiblePaths → TrustParts → ArtifactDigest → Checked → List AcceptedRow
rows_after paths trust d c = rows_of_points (point_at trust.keyring) paths.leaf
    ++ (content_questions d c ++ entry_questions trust.log_keys c.entry)
