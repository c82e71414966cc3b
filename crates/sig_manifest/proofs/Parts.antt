-- A text is read by its members and its rows.
use Rattle.std.proofs.Common.{◌≡◌, ℕ, List, [], ◌∷◌, codes, refl}
use Rattle.sig_base.specs.declared.checker.AcceptedRow.{AcceptedRow}
use Rattle.sig_json.proofs.NamedMembers.{member_of-only}
use Rattle.sig_json.specs.Data.{Data}
use Rattle.sig_json.specs.Member.{optional_or, required}
use Rattle.sig_json.specs.Only.{only}
use Rattle.sig_json.specs.Record.{members_and_list, record_in}
use Rattle.sig_manifest.specs.Manifest.{manifest_members, with_accepted}
use Rattle.sig_request.proofs.RequestTexts.{meant, parts-meant}
use Rattle.sig_request.specs.Accepted.{AsksOnly, with_rows}
use Rattle.sig_request.specs.Row.{row_of}

abbrev pub names : List (List ℕ)
names = codes "now" ∷ codes "roots" ∷ codes "policies" ∷ codes "artifacts" ∷ []

-- members of other names are not asked for
asks : AsksOnly names with_accepted
unfolding manifest_members required optional_or
asks accepted tree = simp member_of-only refl

pub parts-read : (text : List ℕ) → record_in (with_rows with_accepted) text
    ≡ meant with_accepted names (record_in (members_and_list names (codes "accepted") row_of) text)
parts-read text = parts-meant with_accepted names asks text
