-- *Named anchors*: the trust anchors that have a subject, and an index by which they are found.
use Rattle.std.specs.Prelude.{◌≡◌, ℕ, zero, suc, List, [], ◌∷◌, ◌++◌, slice_get, Bool, Option, Some, None, Vec}
use Rattle.std.specs.Prelude.{if◌then◌else◌, flat_map}
use Rattle.std.specs.declared.alloc.Global.{Global}
use Rattle.std.specs.List.{filter}
use Rattle.std.specs.BTreeMap.{BTreeMap, get_by}
use Rattle.std.specs.Cmp.Lexicographic.{slice_cmp}
use Rattle.std.specs.Ordering.{nat_cmp}
use Rattle.std.specs.Str.{bytes_eq}
use Rattle.sig_certificate.specs.Certificate.{Cert}
use Rattle.sig_x509.specs.PathSearch.{of_read}

-- the certificate has this subject
abbrev pub has_name : List ℕ → Cert → Bool
has_name name x = bytes_eq name x.subject

-- those that have it, in order
abbrev pub named : List ℕ → List Cert → List Cert
named name anchors = filter (has_name name) anchors

-- the indices, ascending, of those of the first `count` that have it
abbrev pub places_named : List Cert → ℕ → List ℕ → List ℕ
places_named anchors zero name = []
places_named anchors (suc count) name =
    if of_read (has_name name) (slice_get anchors count) then places_named anchors count name ++ count ∷ []
    else places_named anchors count name

abbrev pub one : Option Cert → List Cert
one None = []
one (Some x) = x ∷ []

-- the trust anchors at these indices
abbrev pub at_places : List Cert → List ℕ → List Cert
at_places anchors places = flat_map (λ k. one (slice_get anchors k)) places

-- ---- the index

abbrev pub Index : Type 0
Index = BTreeMap (Vec ℕ Global) (Vec ℕ Global)

abbrev pub listed : Option (Vec ℕ Global) → List ℕ
listed None = []
listed (Some places) = places.items

-- the indices that it has for a subject
abbrev pub places_in : Index → List ℕ → List ℕ
places_in index name = listed (get_by (λ k. slice_cmp nat_cmp name k.items) index)

-- for each subject it has the indices of those of the first `count` trust anchors that have it
abbrev pub IsNameIndex : List Cert → ℕ → Index → Type 0
IsNameIndex anchors count index = (name : List ℕ) → places_in index name ≡ places_named anchors count name

-- one more index for a subject
abbrev pub AddsPlace : List ℕ → ℕ → Index → Index → Type 0
AddsPlace subject place old new = (name : List ℕ) → places_in new name
    ≡ (if bytes_eq subject name then places_in old name ++ place ∷ [] else places_in old name)
