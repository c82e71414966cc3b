-- Heads and watches beside the list of all entries.
use Rattle.std.proofs.Common.{◌≡◌, ◌≢◌, ◌↔◌, ℕ, ◌+◌, ◌<◌, List, [], ◌∷◌, length, take, get_or, slice_get, Option, Some}
use Rattle.std.proofs.Common.{zero, suc, IsNone, sym, ◌∙◌, arith}
use Rattle.std.proofs.lemmas.List.{length-take-le}
use Rattle.std.specs.List.{AllByRecursion}
use Rattle.sig_base.specs.declared.collision.Collision.{Collision}
use Rattle.sig_merkle.proofs.AuditPathLaws.{slice_get-take}
use Rattle.sig_merkle.specs.Inclusion.{IsIncluded}
use Rattle.sig_merkle.specs.Root.{leaf_of, root}
use Rattle.sig_audit.proofs.Chains.{all-at}
use Rattle.sig_audit.specs.declared.chain.ChainHead.{ChainHead}
use Rattle.sig_audit.specs.declared.heads.Watch.{Watch}
use Rattle.sig_audit.specs.Audited.{AreListed, IsIncludedIn, IsListed, IsWatched}
use Rattle.sig_audit.specs.Fronts.{IsOfFront}

-- the heads are not all of fronts
pub listing-heads : (entries : List (List ℕ)) (heads : List ChainHead) (watched : List Watch) (c : Collision)
    → (IsNone (Some c) ↔ AllByRecursion (IsOfFront entries) heads) → IsNone (Some c) ↔ AreListed entries heads watched
listing-heads entries heads watched c none = (λ is_none. absurd (let f = is_none in cc), λ all. none.1 all.0)

-- or they are, and the watches decide
pub listing-watches : (entries : List (List ℕ)) (heads : List ChainHead) (watched : List Watch) (found : Option Collision)
    → AllByRecursion (IsOfFront entries) heads → (IsNone found ↔ AllByRecursion (IsListed entries) watched)
    → IsNone found ↔ AreListed entries heads watched
listing-watches entries heads watched found fronts none = (λ is_none. (fronts, none.0 is_none), λ all. none.1 all.1)

-- ---- the watches in turn

pub take-more : {X : Type 0} (P : X → Type 0) (xs : List X) (place : ℕ) (x : X) → AllByRecursion P (take place xs)
    → place < length xs → x ≡ get_or xs place x → P x → AllByRecursion P (take (place + 1) xs)
take-more P [] place x all below is here = absurd (omega arith)
take-more P (y ∷ ys) zero x all below is here = (rw is at here, tt)
take-more P (y ∷ ys) (suc place) x all below is here =
    let next : suc place + 1 ≡ suc (place + 1) = omega arith in
    rw next (all.0, take-more P ys place x all.1 (omega arith) is here)

-- one is not the list's
pub unlisted-at : (entries : List (List ℕ)) (watched : List Watch) (place : ℕ) (watch : Watch) (c : Collision)
    → place < length watched → watch ≡ get_or watched place watch
    → (IsNone (Some c) ↔ IsListed entries watch)
    → IsNone (Some c) ↔ AllByRecursion (IsListed entries) watched
unlisted-at entries watched place watch c below is none =
    (λ is_none. absurd (let f = is_none in cc), λ all. none.1 (all-at (IsListed entries) watched place watch all below is))

pub all-of : (P : Watch → Type 0) (watched : List Watch) (place : ℕ) (watch : Watch) → AllByRecursion P watched
    → place < length watched → watch ≡ get_or watched place watch → P watch
all-of P watched place watch all below is = all-at P watched place watch all below is

-- ---- a watch

all-get : {X : Type 0} (P : X → Type 0) (xs : List X) (place : ℕ) (x : X) → AllByRecursion P xs
    → slice_get xs place ≡ Some x → P x
all-get P [] place x all is = absurd cc
all-get P (y ∷ ys) zero x all is = (let same : y ≡ x = cc in rw same at all.0)
all-get P (y ∷ ys) (suc place) x all is = all-get P ys place x all.1 is

-- the head of a watch, where it is there
pub watch-head : (entries : List (List ℕ)) (heads : List ChainHead) (watch : Watch) (head : ChainHead)
    → AllByRecursion (IsOfFront entries) heads → IsWatched heads watch → slice_get heads watch.head ≡ Some head
    → IsOfFront entries head × IsIncludedIn head watch
watch-head entries heads watch head fronts (other, is_other, included) is =
    let both : Some other ≡ Some head = sym is_other ∙ is in
    let same : other ≡ head = cc in
    (all-get (IsOfFront entries) heads watch.head head fronts is, rw same at included)

pub watch-included : (entries : List (List ℕ)) (watch : Watch) (head : ChainHead) → IsOfFront entries head
    → IsIncludedIn head watch
    → IsIncluded watch.index (leaf_of watch.entry) (length (take head.size entries)) watch.hashes
    (root (take head.size entries))
watch-included entries watch head of_front included =
    rw (length-take-le head.size entries of_front.0, ← of_front.1) included

pub watch-other : (entries : List (List ℕ)) (watch : Watch) (head : ChainHead) → IsOfFront entries head
    → IsIncludedIn head watch → ¬ IsListed entries watch
    → slice_get (take head.size entries) watch.index ≢ Some watch.entry
watch-other entries watch head of_front included other is =
    other (sym (slice_get-take head.size watch.index entries included.0 of_front.0) ∙ is)

pub ruleset finds_log = (listing-heads, listing-watches)
