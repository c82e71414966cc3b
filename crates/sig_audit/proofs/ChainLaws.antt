-- The laws of chained heads.
use Rattle.std.proofs.Common.{◌≡◌, ◌⊎◌, ℕ, ◌+◌, inl, inr, List, [], ◌∷◌, ◌++◌, length, take}
use Rattle.std.proofs.Common.{slice_get, Some, refl, sym, arith}
use Rattle.std.proofs.lemmas.List.{length-take-le, take_all}
use Rattle.std.proofs.lemmas.Option.{slice_get_within, get_or_from_slice_get}
use Rattle.std.specs.List.{AllByRecursion}
use Rattle.sig_merkle.proofs.Exhibits.{front-or-broken}
use Rattle.sig_merkle.proofs.AcceptedSubproofs.{take-take}
use Rattle.sig_merkle.specs.ConsistencyAnswer.{IsConsistent}
use Rattle.sig_merkle.specs.HashedText.{AreHashes, IsBroken}
use Rattle.sig_merkle.specs.Root.{root}
use Rattle.sig_audit.proofs.Chains.{last-later, grown_sizes, grown-at, sizes-grown}
use Rattle.sig_audit.specs.Chained.{HasGrownFrom, HaveGrownFrom, AreChained}
use Rattle.sig_audit.specs.Fronts.{IsLast, IsOfFront, IsWithin, EndsInList}
use Rattle.sig_audit.specs.Sized.{AreSizedHeads}
use Rattle.sig_audit.specs.declared.chain.ChainHead.{ChainHead}

pub chain-one : (head : ChainHead) → AreChained (head ∷ [])
chain-one head = (λ empty. cc, tt)

grown-push : (first last head : ChainHead) (later : List ChainHead) → HaveGrownFrom first later
    → IsLast (first ∷ later) last → HasGrownFrom last head → HaveGrownFrom first (later ++ head ∷ [])
grown-push first last head [] grown is next = (let same : first ≡ last = cc in (rw same next, tt))
grown-push first last head (second ∷ later) grown is next =
    (grown.0, grown-push second last head later grown.1 (last-later first second last later is) next)

pub chain-push : (heads : List ChainHead) (last head : ChainHead) → AreChained heads → IsLast heads last
    → HasGrownFrom last head → AreChained (heads ++ head ∷ [])
chain-push [] last head chained is next = absurd (chained.0 refl)
chain-push (first ∷ later) last head chained is next =
    (λ empty. cc, grown-push first last head later chained.1 is next)

pub chain-each : (heads : List ChainHead) (place : ℕ) (older head : ChainHead) → AreChained heads
    → slice_get heads place ≡ Some older → slice_get heads (place + 1) ≡ Some head → HasGrownFrom older head
chain-each heads place older head chained is next =
    grown-at heads place older head chained.1 (slice_get_within heads (place + 1) head next)
    (sym (get_or_from_slice_get heads place older older is)) (sym (get_or_from_slice_get heads (place + 1) head head next))

pub chain-sizes : (heads : List ChainHead) (last : ChainHead) → AreChained heads → IsLast heads last
    → AllByRecursion (IsWithin last.size) heads
chain-sizes [] last chained is = tt
chain-sizes (first ∷ later) last chained is = sizes-grown last.size first last later chained.1 is (omega arith)

-- ---- beside a list

both-sized : (old new : ChainHead) → AreHashes (old.hash ∷ old.hashes) → AreHashes (new.hash ∷ new.hashes)
    → AreHashes (old.hash ∷ new.hashes)
unfolding AreHashes
both-sized old new old_sized new_sized = (old_sized.0, new_sized.1)

fronts-grown : (entries : List (List ℕ)) (first : ChainHead) (later : List ChainHead) → AreSizedHeads (first ∷ later)
    → HaveGrownFrom first later → EndsInList entries (first ∷ later)
    → AllByRecursion (IsOfFront entries) (first ∷ later) ⊎ IsBroken
fronts-grown entries first [] sized grown (last, is, (size, hash)) =
    let same : first ≡ last = cc in
    let all : take last.size entries ≡ entries = take_all last.size entries (omega arith) in
    let of_front : IsOfFront entries last = (omega arith, rw all hash) in
    inl (rw same of_front, tt)
fronts-grown entries first (next ∷ later) sized grown (last, is, of_list) =
    elim (fronts-grown entries next later sized.1 grown.1 (last, last-later first next last later is, of_list)) [
      | inl all ↦ (let of_front = all.0 in
          let below = grown_sizes first next grown.0 in
          let fits = of_front.0 in
          let consistent : IsConsistent first.size (length (take next.size entries)) next.hashes first.hash
          (root (take next.size entries)) =
          rw (length-take-le next.size entries of_front.0, ← of_front.1) grown.0 in
          elim (front-or-broken first.size first.hash next.hashes (take next.size entries)
          (both-sized first next sized.0 sized.1.0) consistent) [
            | inl same ↦ (let taken : take first.size (take next.size entries) ≡ take first.size entries =
                take-take first.size next.size entries below of_front.0 in
                inl ((omega arith, rw taken at same), all))
            | inr broken ↦ inr broken
          ])
      | inr broken ↦ inr broken
    ]

pub chain-fronts : (heads : List ChainHead) (entries : List (List ℕ)) → AreSizedHeads heads → AreChained heads
    → EndsInList entries heads → AllByRecursion (IsOfFront entries) heads ⊎ IsBroken
chain-fronts [] entries sized chained ends = inl tt
chain-fronts (first ∷ later) entries sized chained ends = fronts-grown entries first later sized chained.1 ends
