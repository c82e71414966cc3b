-- How a consistency proof and a list of entries meet: from the children to their node.
use Rattle.std.proofs.Common.{◌≡◌, ◌≢◌, ℕ, ◌-◌, ◌<◌, ◌≤◌, Bool, true, false, inl, inr, Some, List, [], ◌∷◌, ◌++◌}
use Rattle.std.proofs.Common.{length, take, refl, sym, ◌∙◌, ap, arith, length-append}
use Rattle.std.proofs.lemmas.List.{take_all}
use Rattle.sig_merkle.specs.declared.meeting.Meeting.{Meeting}
use Rattle.sig_merkle.specs.declared.meeting.Meeting.TheVariants.{Hashed, Collided}
use Rattle.sig_merkle.specs.AuditPath.{AreHalves}
use Rattle.sig_merkle.specs.Consistency.{roots_len}
use Rattle.sig_merkle.specs.ConsistencyAnswer.{IsConsistent, LeadsTo}
use Rattle.sig_merkle.specs.Meeting.{NodesMeet, GrowthMeets}
use Rattle.sig_merkle.specs.Split.{IsSplit}
use Rattle.sig_merkle.specs.Root.{node_of, root}
use Rattle.sig_merkle.proofs.HalfSteps.{root-halves, halves-length}
use Rattle.sig_merkle.proofs.RootLaws.{root-none}
use Rattle.sig_merkle.proofs.ConsistencyLens.{roots_len-left, roots_len-right, roots_of-some}
use Rattle.sig_merkle.proofs.ConsistencySteps.{fold_whole, fold_known, fold_last, fold_left, fold_right}
use Rattle.sig_merkle.proofs.AcceptedSubproofs.{take-take, root-older}

-- where the old tree is the whole, its root is that of all entries
whole_root : (old_size : ℕ) (entries : List (List ℕ)) → length entries ≤ old_size
    → root entries ≡ root (take old_size entries)
whole_root old_size entries all = ap root (sym (take_all old_size entries all))

-- the proof has no hash left: the old root is known
pub growth-known : (old_size : ℕ) (known : Bool) (old listed : List ℕ) (hashes entries : List (List ℕ)) → 0 < old_size
    → old_size ≤ length entries → length hashes ≡ roots_len old_size (length entries) known → length hashes ≡ 0
    → listed ≡ root entries → GrowthMeets old_size known old hashes entries (Hashed old listed)
growth-known old_size known old listed hashes entries some within fits none is =
    let same = fold_whole old_size (length entries) known hashes some within fits none in (
      old,
      fold_known old_size (length entries) known old hashes some within fits none,
      sym is,
      λ equal. equal ∙ is ∙ whole_root old_size entries (omega arith),
    )

-- or it is the only one
pub growth-last : (old_size : ℕ) (known : Bool) (old last listed : List ℕ) (hashes rest entries : List (List ℕ))
    → old_size ≡ length entries → length hashes ≡ roots_len old_size (length entries) known
    → hashes ≡ rest ++ last ∷ [] → listed ≡ root entries
    → GrowthMeets old_size known old hashes entries (Hashed last listed)
growth-last old_size known old last listed hashes rest entries same fits ends is = (
  last,
  fold_last old_size (length entries) known old last hashes rest same fits ends,
  sym is,
  λ equal. equal ∙ is ∙ whole_root old_size entries (omega arith),
)

-- from the left half to the whole
pub growth-left : (old_size : ℕ) (known : Bool) (old one other last : List ℕ)
    (hashes rest entries left right : List (List ℕ)) (m : Meeting) → AreHalves entries left right
    → old_size ≤ length left → hashes ≡ rest ++ last ∷ []
    → GrowthMeets old_size known old rest left (Hashed one other) → NodesMeet one last other (root right) m
    → GrowthMeets old_size known old hashes entries m
growth-left old_size known old one other last hashes rest entries left right (Hashed a b) h within ends below met =
    let cut = h.split.below in
    let front : take old_size left ≡ take old_size entries =
    ap (take old_size) h.front ∙ take-take old_size (length left) entries within (omega arith) in (
      below.0,
      fold_left old_size (length entries) (length left) known old below.0 one a last hashes rest h.split within ends
          below.1 (sym met.0),
      root-halves entries left right h ∙ rw (below.2) met.1,
      λ equal. below.3 (met.2 equal).0 ∙ ap root front,
    )
growth-left old_size known old one other last hashes rest entries left right (Collided found) h within ends below met =
    met

-- from the right half to the whole
pub growth-right : (old_size : ℕ) (known : Bool) (old one other last : List ℕ)
    (hashes rest entries left right : List (List ℕ)) (m : Meeting) → AreHalves entries left right
    → length left < old_size → old_size < length entries → hashes ≡ rest ++ last ∷ []
    → GrowthMeets (old_size - length left) false old rest right (Hashed one other)
    → NodesMeet last one (root left) other m → GrowthMeets old_size known old hashes entries m
growth-right old_size known old one other last hashes rest entries left right (Hashed a b) h past older ends below met =
    let lengths = halves-length entries left right h in
    let count : length right ≡ length entries - length left = omega arith in
    let front : root (take old_size entries) ≡ node_of (root left) (root (take (old_size - length left) right)) =
    rw (← h.front, ← h.back) at (root-older old_size (length left) entries h.split past (omega arith)) in (
      node_of last below.0,
      fold_right old_size (length entries) (length left) known old below.0 one (node_of last below.0) a last hashes rest
          h.split past older ends (rw count at below.1) refl (sym met.0),
      root-halves entries left right h ∙ rw (below.2) met.1,
      λ equal. rw (met.2 equal).0 (ap (node_of (root left)) (below.3 (met.2 equal).1)) ∙ sym front,
    )
growth-right old_size known old one other last hashes rest entries left right (Collided found) h past older ends below met =
    met

-- the hashes but the last are as many as the proof within the half has
pub growth_rest-left : (old_size size k : ℕ) (known : Bool) (last : List ℕ) (hashes rest : List (List ℕ))
    → IsSplit size k → old_size ≤ k → hashes ≡ rest ++ last ∷ [] → length hashes ≡ roots_len old_size size known
    → length rest ≡ roots_len old_size k known
growth_rest-left old_size size k known last hashes rest s left ends fits =
    omega (arith, ap length ends, length-append rest (last ∷ []), roots_len-left old_size size k known s left)

pub growth_rest-right : (old_size size k : ℕ) (known : Bool) (last : List ℕ) (hashes rest : List (List ℕ))
    → IsSplit size k → k < old_size → old_size < size → hashes ≡ rest ++ last ∷ []
    → length hashes ≡ roots_len old_size size known → length rest ≡ roots_len (old_size - k) (size - k) false
growth_rest-right old_size size k known last hashes rest s right older ends fits =
    omega (arith, ap length ends, length-append rest (last ∷ []), roots_len-right old_size size k known s right older)

-- the old tree is no larger than the new
pub consistent_sizes : (old_size new_size : ℕ) (hashes : List (List ℕ)) (old new : List ℕ)
    → IsConsistent old_size new_size hashes old new → old_size ≤ new_size
consistent_sizes old_size new_size hashes old new (inl ((same, _), _)) = omega arith
consistent_sizes old_size new_size hashes old new (inr (inl ((none, _, _), _))) = omega arith
consistent_sizes old_size new_size hashes old new (inr (inr (grown, _))) = omega (arith, grown.1)

-- where the old root is another, the tree grew from one that is not empty
pub growth_of : (old_size : ℕ) (hashes entries : List (List ℕ)) (old : List ℕ)
    → IsConsistent old_size (length entries) hashes old (root entries) → root (take old_size entries) ≢ old
    → LeadsTo old_size (length entries) old hashes old (root entries)
growth_of old_size hashes entries old (inl ((same, _), is)) apart =
    absurd (apart (sym (whole_root old_size entries (omega arith)) ∙ sym is))
growth_of old_size hashes entries old (inr (inl ((none, _, _), is))) apart =
    absurd (apart (rw none root-none ∙ sym is))
growth_of old_size hashes entries old (inr (inr led)) apart = led

pub growth_some : (old_size : ℕ) (hashes entries : List (List ℕ)) (old : List ℕ)
    → IsConsistent old_size (length entries) hashes old (root entries) → root (take old_size entries) ≢ old
    → 0 < old_size
growth_some old_size hashes entries old accepted apart = (growth_of old_size hashes entries old accepted apart).0.0

pub growth_count : (old_size : ℕ) (hashes entries : List (List ℕ)) (old : List ℕ)
    → IsConsistent old_size (length entries) hashes old (root entries) → root (take old_size entries) ≢ old
    → length hashes ≡ roots_len old_size (length entries) true
growth_count old_size hashes entries old accepted apart =
    (roots_of-some old_size (length entries) true old hashes).0
    (rw (growth_of old_size hashes entries old accepted apart).1 refl)

same_led : (led given : List ℕ × List ℕ) → Some led ≡ Some given → (led.0 ≡ given.0) × (led.1 ≡ given.1)
same_led led given same =
    let both : led ≡ given = cc in
    (ap (λ (roots : List ℕ × List ℕ). roots.0) both, ap (λ (roots : List ℕ × List ℕ). roots.1) both)

-- at the top: the new roots are the same, so the old ones are
pub same_front : (old_size : ℕ) (hashes entries : List (List ℕ)) (old a b : List ℕ)
    → IsConsistent old_size (length entries) hashes old (root entries) → root (take old_size entries) ≢ old
    → GrowthMeets old_size true old hashes entries (Hashed a b) → ⊥
same_front old_size hashes entries old a b accepted apart met =
    let led = (growth_of old_size hashes entries old accepted apart).1 in
    let both = same_led (met.0, a) (old, root entries) (sym met.1 ∙ led) in
    apart (sym (met.3 (both.1 ∙ met.2)) ∙ both.0)

pub ruleset finds_growth = (consistent_sizes, growth_some, growth_count, same_front)
