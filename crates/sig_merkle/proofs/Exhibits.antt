-- An accepted consistency proof shows the front of the list whose size and root it is accepted for, or SHA-256 is broken:
-- by the steps of the extractor, and an induction over the cuts of the tree.
use Rattle.std.proofs.Common.{◌≡◌, ◌≢◌, ◌⊎◌, ℕ, ◌-◌, ◌*◌, ◌^◌, ◌<◌, ◌≤◌, Bool, true, false, inl, inr}
use Rattle.std.proofs.Common.{List, [], ◌∷◌, ◌++◌, length, take, drop, refl, sym, ◌∙◌, ap, arith}
use Rattle.std.proofs.Common.{length-drop}
use Rattle.std.proofs.lemmas.Bool.{cases_lt, cases_eq}
use Rattle.std.proofs.lemmas.List.{length-take-le}
use Rattle.sha2.proofs.Facts256.{length-sha256}
use Rattle.sig_base.specs.Sha256.{sha256}
use Rattle.sig_merkle.specs.declared.meeting.Meeting.{Meeting}
use Rattle.sig_merkle.specs.declared.meeting.Meeting.TheVariants.{Hashed, Collided}
use Rattle.sig_merkle.specs.AuditPath.{AreHalves}
use Rattle.sig_merkle.specs.Consistency.{roots_len}
use Rattle.sig_merkle.specs.ConsistencyAnswer.{IsConsistent}
use Rattle.sig_merkle.specs.HashedText.{AreHashedTexts, IsBroken, AreHashes}
use Rattle.sig_merkle.specs.Meeting.{TextsMeet, NodesMeet, GrowthMeets}
use Rattle.sig_merkle.specs.Split.{IsSplit}
use Rattle.sig_merkle.specs.Root.{root}
use Rattle.sig_merkle.proofs.ConsistencyLens.{roots_len-grown}
use Rattle.sig_merkle.proofs.GrowthMeetings.{growth-known, growth-last, growth-left, growth-right, growth_rest-left}
use Rattle.sig_merkle.proofs.GrowthMeetings.{growth_rest-right, growth_of, growth_count, same_front}
use Rattle.sig_merkle.proofs.Levels.{by_power, split_of}
use Rattle.sig_merkle.proofs.Meetings.{are_nodes, nodes_meet}
use Rattle.sig_merkle.proofs.RootLaws.{root-none, root-one, root-more}

pub same_or_apart : (one other : List ℕ) → (one ≡ other) ⊎ (one ≢ other)
same_or_apart [] [] = inl refl
same_or_apart [] (y ∷ ys) = inr (λ same. absurd cc)
same_or_apart (x ∷ xs) [] = inr (λ same. absurd cc)
same_or_apart (x ∷ xs) (y ∷ ys) =
    elim (cases_eq x y) [
      | inl heads ↦ elim (same_or_apart xs ys) [
        | inl tails ↦ inl (rw (heads, tails) refl)
        | inr apart ↦ inr (λ same. (let tails : xs ≡ ys = cc in absurd (apart tails)))
      ]
      | inr apart ↦ inr (λ same. (let heads : x ≡ y = cc in absurd (apart heads)))
    ]

-- what two texts come to
pub texts-meet : (one other : List ℕ) → AreHashedTexts one other → (m : Meeting) × TextsMeet one other m
texts-meet one other texts =
    elim (same_or_apart one other) [
      | inl same ↦ (Hashed (sha256 one) (sha256 other), (refl, refl, λ equal. same))
      | inr apart ↦ elim (same_or_apart (sha256 one) (sha256 other)) [
        | inl equal ↦ (
          Collided (record { left = one; right = other }),
          (
            record { differ = apart; same_hash = equal },
            texts,
          ),
        )
        | inr hashes ↦ (Hashed (sha256 one) (sha256 other), (refl, refl, λ equal. absurd (hashes equal)))
      ]
    ]

-- what two nodes come to
pub children-meet : (left right other_left other_right : List ℕ) → length left ≡ 32 → length right ≡ 32
    → length other_left ≡ 32 → length other_right ≡ 32 → (m : Meeting) × NodesMeet left right other_left other_right m
children-meet left right other_left other_right l r ol or =
    let texts =
    are_nodes left right other_left other_right (1 ∷ left ++ right) (1 ∷ other_left ++ other_right) l r ol or refl refl
    in
    let (m, met) = texts-meet (1 ∷ left ++ right) (1 ∷ other_left ++ other_right) texts in (
      m,
      nodes_meet left right other_left other_right (1 ∷ left ++ right) (1 ∷ other_left ++ other_right) m (l ∙ sym ol)
          refl refl met,
    )

-- a root is of 32 bytes
pub root-length : (entries : List (List ℕ)) → length (root entries) ≡ 32
root-length [] = rw root-none (length-sha256 [])
root-length (entry ∷ []) = rw (root-one entry) (length-sha256 (0 ∷ entry))
root-length (entry ∷ next ∷ rest) =
    let (k, s) = split_of (length (entry ∷ next ∷ rest)) (omega arith) in
    rw (root-more k (entry ∷ next ∷ rest) s)
    (length-sha256 (1 ∷ root (take k (entry ∷ next ∷ rest)) ++ root (drop k (entry ∷ next ∷ rest))))

-- the last hash, and those before it
pub last_of : (hashes : List (List ℕ)) → 0 < length hashes
    → (rest : List (List ℕ)) × (last : List ℕ) × (hashes ≡ rest ++ last ∷ [])
last_of [] some = absurd (omega arith)
last_of (hash ∷ []) some = ([], hash, refl)
last_of (hash ∷ next ∷ more) some =
    let (rest, last, is) = last_of (next ∷ more) (omega arith) in
    (hash ∷ rest, last, ap (λ tail. hash ∷ tail) is)

pub hashes-split : (rest : List (List ℕ)) (last : List ℕ) → AreHashes (rest ++ last ∷ [])
    → AreHashes rest × (length last ≡ 32)
unfolding AreHashes
hashes-split [] last (fits, _) = (tt, fits)
hashes-split (hash ∷ rest) last (fits, more) =
    let (before, last_fits) = hashes-split rest last more in
    ((fits, before), last_fits)

-- what a proof and a list come to

abbrev IsSized : Meeting → Type 0
IsSized (Hashed a b) = length a ≡ 32
IsSized (Collided found) = Unit {0}

node-sized : (left right other_left other_right : List ℕ) (m : Meeting)
    → NodesMeet left right other_left other_right m → IsSized m
node-sized left right other_left other_right (Hashed a b) met =
    ap length (sym met.0) ∙ length-sha256 (1 ∷ left ++ right)
node-sized left right other_left other_right (Collided found) met = tt

abbrev Shown : ℕ → Bool → List ℕ → List (List ℕ) → List (List ℕ) → Type 0
Shown old_size known old hashes entries =
    (m : Meeting) × GrowthMeets old_size known old hashes entries m × IsSized m

shown-whole : (old_size : ℕ) (known : Bool) (old : List ℕ) (hashes entries : List (List ℕ)) → 0 < old_size
    → old_size ≡ length entries → length hashes ≡ roots_len old_size (length entries) known → length old ≡ 32
    → AreHashes hashes → Shown old_size known old hashes entries
shown-whole old_size known old hashes entries some same fits old_sized sized =
    elim (cases_lt 0 (length hashes)) [
      | inl more ↦ (let (rest, last, is) = last_of hashes more in (
        Hashed last (root entries),
        growth-last old_size known old last (root entries) hashes rest entries same fits is refl,
        (hashes-split rest last (rw is at sized)).1,
      ))
      | inr none ↦ (
        Hashed old (root entries),
        growth-known old_size known old (root entries) hashes entries some (omega arith) fits (omega arith) refl,
        old_sized,
      )
    ]

shown-left : (old_size : ℕ) (known : Bool) (old last : List ℕ) (hashes rest entries left right : List (List ℕ))
    (m : Meeting) → AreHalves entries left right → old_size ≤ length left → hashes ≡ rest ++ last ∷ []
    → length last ≡ 32 → GrowthMeets old_size known old rest left m → IsSized m
    → Shown old_size known old hashes entries
shown-left old_size known old last hashes rest entries left right (Hashed one other) h within ends last_sized below
    sized =
    let other_sized : length other ≡ 32 = ap length (sym below.2) ∙ root-length left in
    let (m, met) = children-meet one last other (root right) sized last_sized other_sized (root-length right) in (
      m,
      growth-left old_size known old one other last hashes rest entries left right m h within ends below met,
      node-sized one last other (root right) m met,
    )
shown-left old_size known old last hashes rest entries left right (Collided found) h within ends last_sized below
    sized =
    (Collided found, below, tt)

shown-right : (old_size : ℕ) (known : Bool) (old last : List ℕ) (hashes rest entries left right : List (List ℕ))
    (m : Meeting) → AreHalves entries left right → length left < old_size → old_size < length entries
    → hashes ≡ rest ++ last ∷ [] → length last ≡ 32 → GrowthMeets (old_size - length left) false old rest right m
    → IsSized m → Shown old_size known old hashes entries
shown-right old_size known old last hashes rest entries left right (Hashed one other) h past older ends last_sized below
    sized =
    let other_sized : length other ≡ 32 = ap length (sym below.2) ∙ root-length right in
    let (m, met) = children-meet last one (root left) other last_sized sized (root-length left) other_sized in (
      m,
      growth-right old_size known old one other last hashes rest entries left right m h past older ends below met,
      node-sized last one (root left) other m met,
    )
shown-right old_size known old last hashes rest entries left right (Collided found) h past older ends last_sized below
    sized =
    (Collided found, below, tt)

abbrev Shows : ℕ → Type 0
Shows size =
    (old_size : ℕ) (known : Bool) (old : List ℕ) (hashes entries : List (List ℕ)) → length entries ≡ size
    → 0 < old_size → old_size ≤ size → length hashes ≡ roots_len old_size size known → length old ≡ 32
    → AreHashes hashes → Shown old_size known old hashes entries

pub halves-at : (size k : ℕ) (entries : List (List ℕ)) → length entries ≡ size → IsSplit size k
    → AreHalves entries (take k entries) (drop k entries)
halves-at size k entries count s =
    let below = s.below in
    let taken : length (take k entries) ≡ k = length-take-le k entries (omega arith) in
    record { split = rw (count, taken) s; front = rw taken refl; back = rw taken refl }

shows-halves : (old_size : ℕ) (known : Bool) (old last : List ℕ) (hashes rest entries left right : List (List ℕ))
    → AreHalves entries left right → Shows (length left) → Shows (length right)
    → length right ≡ length entries - length left → 0 < old_size → old_size < length entries
    → hashes ≡ rest ++ last ∷ [] → length hashes ≡ roots_len old_size (length entries) known → length old ≡ 32
    → AreHashes rest → length last ≡ 32 → Shown old_size known old hashes entries
shows-halves old_size known old last hashes rest entries left right h left_shows right_shows count some older ends fits
    old_sized rest_sized last_sized =
    elim (cases_lt (length left) old_size) [
      | inl past ↦ (let (m, met, m_sized) =
          right_shows (old_size - length left) false old rest right refl (omega arith) (omega arith)
          (rw count (growth_rest-right old_size (length entries) (length left) known last hashes rest h.split past older
          ends fits)) old_sized rest_sized in
          shown-right old_size known old last hashes rest entries left right m h past older ends last_sized met m_sized)
      | inr within ↦ (let (m, met, m_sized) =
          left_shows old_size known old rest left refl some within
          (growth_rest-left old_size (length entries) (length left) known last hashes rest h.split within ends fits)
          old_sized rest_sized in
          shown-left old_size known old last hashes rest entries left right m h within ends last_sized met m_sized)
    ]

shows-cut : (size k : ℕ) → IsSplit size k → Shows k → Shows (size - k) → (old_size : ℕ) (known : Bool) (old : List ℕ)
    (hashes entries : List (List ℕ)) → length entries ≡ size → 0 < old_size → old_size < size
    → length hashes ≡ roots_len old_size size known → length old ≡ 32 → AreHashes hashes
    → Shown old_size known old hashes entries
shows-cut size k s left_shows right_shows old_size known old hashes entries count some older fits old_sized sized =
    let below = s.below in
    let taken : length (take k entries) ≡ k = length-take-le k entries (omega arith) in
    let dropped : length (drop k entries) ≡ size - k = length-drop k entries ∙ rw count refl in
    let (rest, last, is) = last_of hashes (omega (arith, roots_len-grown old_size size known some older)) in
    let (rest_sized, last_sized) = hashes-split rest last (rw is at sized) in
    shows-halves old_size known old last hashes rest entries (take k entries) (drop k entries)
    (halves-at size k entries count s) (rw taken left_shows) (rw dropped right_shows) (rw (dropped, count, taken) refl)
    some (omega arith) is (rw count fits) old_sized rest_sized last_sized

shows : (size : ℕ) → Shows size
shows = by_power Shows none one cut
  where
    none : Shows 0
    none old_size known old hashes entries count some within fits old_sized sized = absurd (omega arith)

    one : Shows 1
    one old_size known old hashes entries count some within fits old_sized sized =
        shown-whole old_size known old hashes entries some (omega arith) (rw count fits) old_sized sized

    cut : (n e : ℕ) → 2 ^ e < n → n ≤ 2 * 2 ^ e → Shows (2 ^ e) → Shows (n - 2 ^ e) → Shows n
    cut n e below largest left_shows right_shows old_size known old hashes entries count some within fits old_sized sized =
        elim (cases_lt old_size n) [
          | inl older ↦ shows-cut n (2 ^ e) (record { exponent = e; power = refl; below = below; largest = largest })
              left_shows right_shows old_size known old hashes entries count some older fits old_sized sized
          | inr whole ↦ shown-whole old_size known old hashes entries some (omega arith) (rw count fits) old_sized sized
        ]

-- the law `older_trees`

broken : (old_size : ℕ) (old : List ℕ) (hashes entries : List (List ℕ)) (m : Meeting)
    → IsConsistent old_size (length entries) hashes old (root entries) → root (take old_size entries) ≢ old
    → GrowthMeets old_size true old hashes entries m → IsBroken
broken old_size old hashes entries (Hashed a b) accepted apart met =
    absurd (same_front old_size hashes entries old a b accepted apart met)
broken old_size old hashes entries (Collided found) accepted apart met =
    record { one = found.left; other = found.right; collide = met.0; texts = met.1 }

pub front-or-broken : (old_size : ℕ) (old : List ℕ) (hashes entries : List (List ℕ)) → AreHashes (old ∷ hashes)
    → IsConsistent old_size (length entries) hashes old (root entries)
    → (old ≡ root (take old_size entries)) ⊎ IsBroken
unfolding AreHashes
front-or-broken old_size old hashes entries (old_sized, sized) accepted =
    elim (same_or_apart (root (take old_size entries)) old) [
      | inl same ↦ inl (sym same)
      | inr apart ↦ (let led = growth_of old_size hashes entries old accepted apart in
          let grown = led.0 in
          let (m, met, _) =
          shows (length entries) old_size true old hashes entries refl grown.0 (omega (arith, grown.1))
          (growth_count old_size hashes entries old accepted apart) old_sized sized in
          inr (broken old_size old hashes entries m accepted apart met))
    ]
