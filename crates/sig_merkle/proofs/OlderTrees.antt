-- The law `older_trees`.
use Rattle.std.proofs.Common.{◌≡◌, ◌⊎◌, ◌↔◌, ℕ, ◌<◌, ◌≤◌, inl, inr, List, [], ◌∷◌, length, take, refl, sym, ◌∙◌, ap, arith}
use Rattle.std.proofs.lemmas.List.{length-take-le}
use Rattle.sig_merkle.specs.ConsistencyAnswer.{IsConsistent}
use Rattle.sig_merkle.specs.HashedText.{IsBroken, AreHashes}
use Rattle.sig_merkle.specs.Root.{root}
use Rattle.sig_merkle.proofs.Exhibits.{front-or-broken}
use Rattle.sig_merkle.proofs.GrowthMeetings.{consistent_sizes}
use Rattle.sig_merkle.proofs.RootLaws.{root-none}
use Rattle.sig_merkle.proofs.AcceptedSubproofs.{take-take}

abbrev HaveFront : ℕ → ℕ → List ℕ → List ℕ → Type 0
HaveFront older newer older_root newer_root =
    (front : List (List ℕ)) × (length front ≡ newer) × (newer_root ≡ root front) × (older_root ≡ root (take older front))

pub fronts-or-broken : (older newer : ℕ) (older_root newer_root : List ℕ)
    (older_hashes newer_hashes entries : List (List ℕ)) → older ≤ newer → AreHashes (older_root ∷ older_hashes)
    → AreHashes (newer_root ∷ newer_hashes)
    → IsConsistent older (length entries) older_hashes older_root (root entries)
    → IsConsistent newer (length entries) newer_hashes newer_root (root entries)
    → HaveFront older newer older_root newer_root ⊎ IsBroken
fronts-or-broken older newer older_root newer_root older_hashes newer_hashes entries fewer older_sized newer_sized
    older_accepted newer_accepted =
    let fits = consistent_sizes newer (length entries) newer_hashes newer_root (root entries) newer_accepted in
    elim (front-or-broken older older_root older_hashes entries older_sized older_accepted) [
      | inl first ↦ elim (front-or-broken newer newer_root newer_hashes entries newer_sized newer_accepted) [
        | inl second ↦ inl (
          take newer entries,
          length-take-le newer entries fits,
          second,
          first ∙ ap root (sym (take-take older newer entries fewer fits)),
        )
        | inr broken ↦ inr broken
      ]
      | inr broken ↦ inr broken
    ]

pub same_size : (size : ℕ) (hashes : List (List ℕ)) (old new : List ℕ)
    → IsConsistent size size hashes old new ↔ ((hashes ≡ []) × (old ≡ new))
same_size size hashes old new = (there, λ both. inl ((refl, both.0), both.1))
  where
    there : IsConsistent size size hashes old new → (hashes ≡ []) × (old ≡ new)
    there (inl ((_, none), is)) = (none, is)
    there (inr (inl ((empty, some, _), _))) = absurd (omega arith)
    there (inr (inr (grown, _))) = absurd (omega (arith, grown.1))

pub from_empty : (size : ℕ) (hashes : List (List ℕ)) (old new : List ℕ) → 0 < size
    → IsConsistent 0 size hashes old new ↔ ((hashes ≡ []) × (old ≡ root []))
from_empty size hashes old new some = (there, λ both. inr (inl ((refl, some, both.0), both.1 ∙ root-none)))
  where
    there : IsConsistent 0 size hashes old new → (hashes ≡ []) × (old ≡ root [])
    there (inl ((same, _), _)) = absurd (omega arith)
    there (inr (inl ((_, _, none), is))) = (none, is ∙ sym root-none)
    there (inr (inr (grown, _))) = absurd (omega (arith, grown.0))
