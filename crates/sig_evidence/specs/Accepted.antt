-- What the accepted signatures share with one that was asked about.
use Rattle.std.specs.Prelude.{ℕ, List, [], ◌∷◌, ◌++◌, Bool, codes, length, nat_le, take, Some, if◌then◌else◌}
use Rattle.std.specs.List.{list_any}
use Rattle.sig_base.specs.PartOrder.{has_part}
use Rattle.sig_base.specs.Scheme.{name_of}
use Rattle.sig_base.specs.declared.checker.AcceptedRow.{AcceptedRow}
use Rattle.sig_base.specs.declared.part_order.RowPart.TheVariants.{Key, Message, Signature}
use Rattle.sig_base.specs.declared.scheme.VerifyScheme.{VerifyScheme}
use Rattle.sig_json.specs.Writing.{TreeMember}
use Rattle.sig_rekor.specs.declared.checkpoint.CheckpointSignature.{CheckpointSignature}
use Rattle.sig_shown.specs.ShownValues.{count_row, sha256_tree, text_row, texts_row}

-- the greatest length of a key whose SHA-256 is shown
abbrev pub most_key_bytes : ℕ
most_key_bytes = 65536

-- the SHA-256 of a key, or the length of a long one
abbrev pub key_row : List ℕ → TreeMember
key_row key =
    if nat_le (length key) most_key_bytes then (codes "keySha256", Some (sha256_tree key))
    else count_row (codes "keyLength") (length key)

abbrev pub named_if : Bool → List ℕ → List (List ℕ)
named_if b name = if b then name ∷ [] else []

-- which of the three some row has
abbrev pub found_names : Bool → Bool → Bool → List (List ℕ)
found_names key message signature =
    named_if key (codes "key") ++ (named_if message (codes "message") ++ named_if signature (codes "signature"))

-- what was asked about, and which parts of it some row has
abbrev pub asked_about : List AcceptedRow → VerifyScheme → List ℕ → List ℕ → Bool → List TreeMember
asked_about rows scheme key message signed =
    text_row (codes "scheme") (name_of scheme)
    ∷ key_row key
    ∷ (codes "messageSha256", Some (sha256_tree message))
    ∷ texts_row (codes "accepted") (found_names (has_part Key rows key) (has_part Message rows message) signed)
    ∷ []

abbrev pub asked_rows : List AcceptedRow → VerifyScheme → List ℕ → List ℕ → List ℕ → List TreeMember
asked_rows rows scheme key message signature = asked_about rows scheme key message (has_part Signature rows signature)

-- ---- a note with several signatures

-- how many of them are looked for at most
abbrev pub most_signatures : ℕ
most_signatures = 16

abbrev pub has_one_of : List AcceptedRow → List CheckpointSignature → Bool
has_one_of rows signatures = list_any (λ s. has_part Signature rows s.raw) signatures

abbrev pub asked_note_rows : List AcceptedRow → VerifyScheme → List ℕ → List ℕ → List CheckpointSignature → List TreeMember
asked_note_rows rows scheme key note signatures =
    asked_about rows scheme key note (has_one_of rows (take most_signatures signatures))
