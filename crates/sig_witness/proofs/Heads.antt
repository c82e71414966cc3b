-- The heads that are kept of a log, and one more.
use Rattle.std.proofs.Common.{◌≡◌, ℕ, ◌-◌, ◌<◌, inl, inr, List, [], ◌∷◌, ◌++◌, length, get_or, Some}
use Rattle.std.proofs.Common.{refl, sym, ◌∙◌, arith, length-append, suc, zero, slice_get}
use Rattle.std.proofs.lemmas.Option.{slice_get-get_or}
use Rattle.std.specs.List.{AllByRecursion}
use Rattle.sig_rekor.proofs.Steps.{all_push}
use Rattle.sig_audit.proofs.ChainLaws.{chain-one, chain-push}
use Rattle.sig_audit.specs.Chained.{AreChained, HasGrownFrom}
use Rattle.sig_audit.specs.Fronts.{IsLast}
use Rattle.sig_audit.specs.declared.chain.ChainHead.{ChainHead}
use Rattle.sig_witness.specs.KeptLogs.{IsHead, IsKeptChain, first_head, last_of}
use Rattle.sig_witness.specs.Updates.{most_heads}

-- a chain has a last head
pub chain-last : (chain : List ChainHead) → AreChained chain → (last : ChainHead) × (last_of chain ≡ Some last)
chain-last [] chained = absurd (chained.0 refl)
chain-last (first ∷ later) chained = (
  get_or (first ∷ later) (length (first ∷ later) - 1) first,
  slice_get-get_or (first ∷ later) (length (first ∷ later) - 1) first (omega arith),
)

pub get-all : {X : Type 0} (P : X → Type 0) (xs : List X) (place : ℕ) (x : X) → AllByRecursion P xs
    → slice_get xs place ≡ Some x → P x
get-all P [] place x all is = absurd cc
get-all P (y ∷ ys) zero x all is = (let same : y ≡ x = cc in rw same at all.0)
get-all P (y ∷ ys) (suc place) x all is = get-all P ys place x all.1 is

-- a tree that grew from one of no leaves and no entries is such a tree
head-grown : (last head : ChainHead) → IsHead last → HasGrownFrom last head → IsHead head
head-grown last head is (inl ((sizes, _), roots)) = λ empty. sym roots ∙ is (sizes ∙ empty)
head-grown last head is (inr (inl ((_, some, _), _))) = λ empty. absurd (omega arith)
head-grown last head is (inr (inr ((some, more), _))) = λ empty. absurd (omega arith)

pub chain-grown : (chain : List ChainHead) (last head : ChainHead) → IsKeptChain chain → IsLast chain last
    → HasGrownFrom last head → length chain < most_heads → IsKeptChain (chain ++ head ∷ [])
chain-grown chain last head kept is grown room =
    record {
      chained = chain-push chain last head kept.chained is grown;
      heads =
          all_push IsHead chain head kept.heads
          (head-grown last head (get-all IsHead chain (length chain - 1) last kept.heads is) grown);
      room = omega (arith, length-append chain (head ∷ []));
    }

-- the heads of an origin that was just added
pub chain-first : IsKeptChain (first_head ∷ [])
chain-first = record { chained = chain-one first_head; heads = (λ empty. refl, tt); room = omega arith }
