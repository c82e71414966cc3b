-- *Key order*: the trust anchors that a checker is asked about, in the order of the SPKI's rank, SPKI and subject, and the
-- first that has a subject and one of some keys.
use Rattle.std.specs.Prelude.{◌≡◌, ◌<◌, ◌≤◌, ℕ, List, [], Bool, ◌&&◌, Option, Some, None, length, map, slice_get, nat_le}
use Rattle.std.specs.Prelude.{IsPermutation, slice_range, if◌then◌else◌}
use Rattle.std.specs.List.{AllByRecursion, list_any}
use Rattle.std.specs.Option.{option_cmp, option_map}
use Rattle.std.specs.Ordering.{nat_cmp, is_lt, on, then_cmp}
use Rattle.std.specs.Cmp.Lexicographic.{slice_cmp}
use Rattle.std.specs.List.Sorted.{IsSortedBy}
use Rattle.std.specs.Str.{bytes_eq}
use Rattle.std.specs.declared.cmp.Ordering.{Ordering}
use Rattle.std.specs.declared.cmp.Ordering.TheVariants.{Less, Greater}
use Rattle.sig_base.specs.Rank.{rank_from}
use Rattle.sig_certificate.specs.Certificate.{Cert}
use Rattle.sig_x509.specs.AskedAnchors.{AreAsked}
use Rattle.sig_x509.specs.declared.key_order.KeyOrder.{KeyOrder}
use Rattle.sig_x509.specs.declared.key_order.KeyPlace.{KeyPlace}
use Rattle.sig_x509.specs.declared.key_order.Wanted.{Wanted}

-- ---- the order

abbrev pub Signer : Type 0
Signer = List ℕ × List ℕ

-- the subject and the SPKI
abbrev pub signer_of : Cert → Signer
signer_of x = (x.subject, x.spki)

-- by SPKI, then subject
unfoldable pub key_order : Signer → Signer → Ordering
key_order = then_cmp (on (λ s. s.1) (slice_cmp nat_cmp)) (on (λ s. s.0) (slice_cmp nat_cmp))

-- by the rank of the SPKI from a byte on, and then so
unfoldable pub signer_order : ℕ → Signer → Signer → Ordering
signer_order from = then_cmp (on (λ s. rank_from from s.1) nat_cmp) key_order

-- those of the trust anchor at an index
abbrev pub signer_at : List Cert → ℕ → Option Signer
signer_at anchors index = option_map signer_of (slice_get anchors index)

-- indices in the order of their trust anchors
abbrev pub Ascends : ℕ → List Cert → List ℕ → Type 0
Ascends from anchors order =
    IsSortedBy (λ one other. is_lt (option_cmp (signer_order from) (signer_at anchors one) (signer_at anchors other)))
    order

-- the indices of the asked anchors, in that order
pub record IsKeyOrder (from : ℕ) (anchors : List Cert) (order : List ℕ) : Type 0 where
  pub asked : List ℕ
  pub are_asked : AreAsked anchors asked
  pub moved : IsPermutation asked order
  pub ascends : Ascends from anchors order

-- ---- copies of the SPKIs

-- the subject and the SPKI of a trust anchor, empty if there is no such anchor
abbrev pub subject_in : Option Cert → List ℕ
subject_in None = []
subject_in (Some x) = x.subject

abbrev pub spki_in : Option Cert → List ℕ
spki_in None = []
spki_in (Some x) = x.spki

-- The buffer has at the place a copy of the SPKI of the trust anchor at its index, and the place has the SPKI's rank.
pub record IsCopy (from : ℕ) (anchors : List Cert) (buffer : List ℕ) (place : KeyPlace) : Type 0 where
  pub ordered : place.start ≤ place.end
  pub within : place.end ≤ length buffer
  pub same : slice_range buffer place.start place.end ≡ spki_in (slice_get anchors place.index)
  pub ranked : place.rank ≡ rank_from from (spki_in (slice_get anchors place.index))

abbrev pub AreCopies : ℕ → List Cert → List ℕ → List KeyPlace → Type 0
AreCopies from anchors buffer places = AllByRecursion (IsCopy from anchors buffer) places

-- the indices of its places
abbrev pub indices_of : KeyOrder → List ℕ
indices_of keys = map (λ place. place.index) keys.places.items

-- the indices of the asked anchors, in that order, with copies and ranks of the SPKIs
pub record HoldsKeys (anchors : List Cert) (keys : KeyOrder) : Type 0 where
  pub order : IsKeyOrder keys.from anchors (indices_of keys)
  pub copies : AreCopies keys.from anchors keys.buffer.items keys.places.items

-- ---- a search

-- the subject and the SPKI that are looked for
abbrev pub wanted_signer : Wanted → Signer
wanted_signer wanted = (wanted.subject.now, wanted.spki.now)

-- They come with the SPKI's rank.
abbrev pub IsWanted : ℕ → Wanted → Type 0
IsWanted from wanted = wanted.rank ≡ rank_from from wanted.spki.now

-- how the trust anchor at an index compares with a subject and an SPKI
abbrev pub compared_at : ℕ → List Cert → Signer → ℕ → Ordering
compared_at from anchors signer index = option_cmp (signer_order from) (signer_at anchors index) (Some signer)

-- those at the places before this one come before the signer
abbrev pub AreLessBefore : ℕ → List Cert → List ℕ → Signer → ℕ → Type 0
AreLessBefore from anchors order signer place =
    (place ≤ length order) × ((k index : ℕ) → k < place → slice_get order k ≡ Some index
    → compared_at from anchors signer index ≡ Less)

-- those at the places from this one on come after the signer
abbrev pub AreGreaterFrom : ℕ → List Cert → List ℕ → Signer → ℕ → Type 0
AreGreaterFrom from anchors order signer place =
    (k index : ℕ) → place ≤ k → slice_get order k ≡ Some index → compared_at from anchors signer index ≡ Greater

-- the signer has no place but from the start to the end
pub record IsPart (from : ℕ) (anchors : List Cert) (order : List ℕ) (signer : Signer) (start end : ℕ) : Type 0 where
  pub before : AreLessBefore from anchors order signer start
  pub after : AreGreaterFrom from anchors order signer end
  pub ordered : start ≤ end
  pub within : end ≤ length order

-- ---- the anchors that have a key

-- the trust anchor has the subject and the SPKI
abbrev pub has_key : List ℕ → List ℕ → Cert → Bool
has_key subject spki x = bytes_eq subject x.subject && bytes_eq spki x.spki

-- the subject, and one of the SPKIs
abbrev pub has_some_key : List ℕ → List (List ℕ) → Cert → Bool
has_some_key subject keys x = bytes_eq subject x.subject && list_any (λ key. bytes_eq key x.spki) keys

-- the lesser of two indices, if there is one
abbrev pub lesser : Option ℕ → Option ℕ → Option ℕ
lesser None other = other
lesser (Some one) None = Some one
lesser (Some one) (Some other) = if nat_le one other then Some one else Some other
