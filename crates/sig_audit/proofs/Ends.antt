-- Whether a list is the last head's.
use Rattle.std.proofs.Common.{◌≡◌, ◌≢◌, ◌↔◌, ℕ, ◌-◌, List, length, take, get_or, Option}
use Rattle.std.proofs.Common.{Some, None, IsNone, IfSome, refl, sym, ◌∙◌, ap, arith}
use Rattle.std.proofs.lemmas.List.{take_all}
use Rattle.std.proofs.lemmas.Option.{slice_get-get_or, get_or_from_slice_get}
use Rattle.std.specs.List.{AllByRecursion}
use Rattle.sig_base.specs.Collision.{IsCollision}
use Rattle.sig_base.specs.declared.collision.Collision.{Collision}
use Rattle.sig_merkle.specs.HashedText.{AreHashedTexts}
use Rattle.sig_merkle.specs.Root.{root}
use Rattle.sig_audit.proofs.ChainLaws.{chain-sizes}
use Rattle.sig_audit.proofs.Chains.{chained-some, root-at}
use Rattle.sig_audit.specs.Chained.{AreChained}
use Rattle.sig_audit.specs.Fronts.{IsLast, IsWithin, EndsInList, fronts_of}
use Rattle.sig_audit.specs.Audited.{AreListed}
use Rattle.sig_audit.specs.Listing.{IsListing}
use Rattle.sig_audit.specs.declared.chain.ChainHead.{ChainHead}
use Rattle.sig_audit.specs.declared.heads.Watch.{Watch}
use Rattle.sig_audit.specs.declared.listing.Listing.TheVariants.{Listed, Collided}

pub last-at : (heads : List ChainHead) (last : ChainHead) → AreChained heads
    → last ≡ get_or heads (length heads - 1) last → IsLast heads last
last-at heads last chained is =
    let some = chained-some heads chained in
    slice_get-get_or heads (length heads - 1) last (omega arith) ∙ ap Some (sym is)

same-last : (heads : List ChainHead) (last other : ChainHead) → IsLast heads last → IsLast heads other → other ≡ last
same-last heads last other is is_other =
    let both : Some other ≡ Some last = sym is_other ∙ is in
    cc

pub other-size : (entries : List (List ℕ)) (heads : List ChainHead) (last : ChainHead) → IsLast heads last
    → last.size ≢ length entries → ¬ EndsInList entries heads
other-size entries heads last is apart (other, is_other, (size, hash)) =
    apart (rw (same-last heads last other is is_other) at size)

pub all-within : (entries : List (List ℕ)) (heads : List ChainHead) (last : ChainHead) → AreChained heads
    → IsLast heads last → last.size ≡ length entries → AllByRecursion (IsWithin (length entries)) heads
all-within entries heads last chained is size = rw size at (chain-sizes heads last chained is)

pub last-root : (entries : List (List ℕ)) (heads : List ChainHead) (roots : List (List ℕ)) (last : ChainHead) (d : List ℕ)
    → AreChained heads → IsLast heads last → last.size ≡ length entries → roots ≡ fronts_of entries heads
    → get_or roots (length heads - 1) d ≡ root entries
last-root entries heads roots last d chained is size roots_is =
    let some = chained-some heads chained in
    let at : last ≡ get_or heads (length heads - 1) last =
    sym (get_or_from_slice_get heads (length heads - 1) last last is) in
    let all : take last.size entries ≡ entries = take_all last.size entries (omega arith) in
    root-at entries heads roots (length heads - 1) last d roots_is (omega arith) at ∙ ap root all

pub other-root : (entries : List (List ℕ)) (heads : List ChainHead) (roots : List (List ℕ)) (last : ChainHead) (d : List ℕ)
    → AreChained heads → IsLast heads last → last.size ≡ length entries → roots ≡ fronts_of entries heads
    → get_or roots (length heads - 1) d ≢ last.hash → ¬ EndsInList entries heads
other-root entries heads roots last d chained is size roots_is apart (other, is_other, (_, hash)) =
    apart (last-root entries heads roots last d chained is size roots_is
    ∙ sym (rw (same-last heads last other is is_other) at hash))

pub ends-in : (entries : List (List ℕ)) (heads : List ChainHead) (roots : List (List ℕ)) (last : ChainHead) (d : List ℕ)
    → AreChained heads → IsLast heads last → last.size ≡ length entries → roots ≡ fronts_of entries heads
    → get_or roots (length heads - 1) d ≡ last.hash → EndsInList entries heads
ends-in entries heads roots last d chained is size roots_is same =
    (last, is, (size, sym same ∙ last-root entries heads roots last d chained is size roots_is))

-- not all of the others are the list's
pub listing-found : (entries : List (List ℕ)) (heads : List ChainHead) (watched : List Watch) (m : Option Collision)
    (c : Collision) → EndsInList entries heads → m ≡ Some c → (IsNone m ↔ AreListed entries heads watched)
    → IfSome m (λ c. IsCollision c.left c.right) → IfSome m (λ c. AreHashedTexts c.left c.right)
    → IsListing entries heads watched (Collided c)
listing-found entries heads watched None c ends is none some texts = absurd cc
listing-found entries heads watched (Some d) c ends is none some texts =
    let same : d ≡ c = cc in
    (ends, λ listed. (let f = none.1 listed in cc), rw same at some, rw same at texts)

pub listing-none : (entries : List (List ℕ)) (heads : List ChainHead) (watched : List Watch) (m : Option Collision)
    → EndsInList entries heads → m ≡ None → (IsNone m ↔ AreListed entries heads watched)
    → IsListing entries heads watched Listed
listing-none entries heads watched m ends is none = (ends, none.0 (rw is refl))

pub ruleset finds_size = (chained-some, last-at, other-size, all-within)

pub ruleset finds_place = (chained-some, root-at)
