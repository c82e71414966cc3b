-- *Audited log*: signed heads of one log over time, and entries that are watched in it. `accepts` is what the checker
-- accepts under the log's key: messages and signatures.
use Rattle.std.specs.Prelude.{◌≡◌, ℕ, Bool, List, [], ◌∷◌, map, slice_get, Some}
use Rattle.std.specs.List.{AllByRecursion}
use Rattle.sig_merkle.specs.Inclusion.{IsIncluded}
use Rattle.sig_merkle.specs.Root.{leaf_of}
use Rattle.sig_rekor.specs.Refusals.{IsSigned}
use Rattle.sig_audit.specs.declared.chain.ChainHead.{ChainHead}
use Rattle.sig_audit.specs.declared.heads.AuditHead.{AuditHead}
use Rattle.sig_audit.specs.declared.heads.Watch.{Watch}
use Rattle.sig_audit.specs.Chained.{AreChained}
use Rattle.sig_audit.specs.Fronts.{IsOfFront}

-- what a signed head says of its tree
abbrev pub chain_head : AuditHead → ChainHead
chain_head head =
    record { size = head.checkpoint.note.size; hash = head.checkpoint.note.hash; hashes = head.hashes }

abbrev pub chain_of : List AuditHead → List ChainHead
chain_of heads = map chain_head heads

-- one of the head's signatures is accepted over its note
abbrev pub IsHeadSigned : (List ℕ → List ℕ → Bool) → AuditHead → Type 0
IsHeadSigned accepts head = IsSigned accepts head.checkpoint

-- the head has the origin of the first one
abbrev pub HasOriginOf : AuditHead → AuditHead → Type 0
HasOriginOf first head = head.checkpoint.note.origin ≡ first.checkpoint.note.origin

-- each of these has the origin of the first
abbrev pub HaveOneOrigin : List AuditHead → Type 0
HaveOneOrigin [] = Unit {0}
HaveOneOrigin (first ∷ later) = AllByRecursion (HasOriginOf first) later

-- the heads are signed, of one origin, and chained
pub record AreAudited (accepts : List ℕ → List ℕ → Bool) (heads : List AuditHead) : Type 0 where
  pub signed : AllByRecursion (IsHeadSigned accepts) heads
  pub origins : HaveOneOrigin heads
  pub chained : AreChained (chain_of heads)

-- the hashes of a watch lead from its entry to the root of this head
abbrev pub IsIncludedIn : ChainHead → Watch → Type 0
IsIncludedIn head watch = IsIncluded watch.index (leaf_of watch.entry) head.size watch.hashes head.hash

-- the head of a watch is one of these, and its hashes lead from its entry to that head's root
abbrev pub IsWatched : List ChainHead → Watch → Type 0
IsWatched heads watch = (head : ChainHead) × (slice_get heads watch.head ≡ Some head) × IsIncludedIn head watch

-- *Audited log*
abbrev pub IsAudited : (List ℕ → List ℕ → Bool) → List AuditHead → List Watch → Type 0
IsAudited accepts heads watched = AreAudited accepts heads × AllByRecursion (IsWatched (chain_of heads)) watched

-- the watched entry is the list's at the index
abbrev pub IsListed : List (List ℕ) → Watch → Type 0
IsListed entries watch = slice_get entries watch.index ≡ Some watch.entry

-- each head has the size and the root of the list's first entries, and each watched entry is the list's at its index
abbrev pub AreListed : List (List ℕ) → List ChainHead → List Watch → Type 0
AreListed entries heads watched =
    AllByRecursion (IsOfFront entries) heads × AllByRecursion (IsListed entries) watched
