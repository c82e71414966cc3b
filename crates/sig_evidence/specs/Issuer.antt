-- The issuer that a certificate names, and the trust anchors of that name.
use Rattle.std.specs.Prelude.{ℕ, ◌+◌, List, [], ◌∷◌, ◌++◌, codes, length, take, Some, if◌then◌else◌}
use Rattle.std.specs.Str.{bytes_eq}
use Rattle.hex.specs.Hex.{encode_lower}
use Rattle.sig_json.specs.Writing.{TreeMember, list_tree}
use Rattle.sig_certificate.specs.Certificate.{Cert}
use Rattle.sig_name.specs.NameText.{name_text}
use Rattle.sig_shown.specs.ShownValues.{count_row, count_tree, shown_rows, some_rows}

abbrev pub place_if : ℕ → List ℕ → Cert → List ℕ
place_if place name anchor = if bytes_eq anchor.subject name then place ∷ [] else []

-- the indices of those whose subject has this name, counted from this index on
unfoldable pub places_from : ℕ → List ℕ → List Cert → List ℕ
places_from place name [] = []
places_from place name (anchor ∷ anchors) = place_if place name anchor ++ places_from (place + 1) name anchors

-- how many indices are shown at most
abbrev pub most_anchors : ℕ
most_anchors = 64

abbrev pub places_rows : List ℕ → List TreeMember
places_rows places =
    (codes "anchors", Some (list_tree count_tree (take most_anchors places)))
    ∷ count_row (codes "anchorCount") (length places)
    ∷ []

abbrev pub issuer_rows : Cert → List Cert → List TreeMember
issuer_rows c anchors =
    shown_rows (codes "issuerName") (codes "issuerNameLength") (encode_lower c.issuer)
    ++ (some_rows (codes "issuerText") (codes "issuerTextLength") (name_text c.issuer)
    ++ places_rows (places_from 0 c.issuer anchors))
