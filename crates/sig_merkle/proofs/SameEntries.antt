-- Two entries that are accepted at one index of a tree are equal, and one that is accepted for the size and root of a list
-- is the list's, or SHA-256 is broken: by the steps of the extractors, and an induction over the cuts of the tree.
use Rattle.std.proofs.Common.{◌≡◌, ◌⊎◌, ℕ, ◌-◌, ◌*◌, ◌^◌, ◌<◌, ◌≤◌, inl, inr, Some, List, [], ◌∷◌, ◌++◌, length}
use Rattle.std.proofs.Common.{take, drop, refl, sym, ◌∙◌, ap, arith, slice_get, length-drop}
use Rattle.std.proofs.lemmas.Bool.{cases_lt}
use Rattle.std.proofs.lemmas.List.{length-take-le}
use Rattle.sha2.proofs.Facts256.{length-sha256}
use Rattle.sig_merkle.specs.declared.meeting.Meeting.{Meeting}
use Rattle.sig_merkle.specs.declared.meeting.Meeting.TheVariants.{Hashed, Collided}
use Rattle.sig_merkle.specs.AuditPath.{AreHalves}
use Rattle.sig_merkle.specs.HashedText.{IsBroken, AreHashes}
use Rattle.sig_merkle.specs.Inclusion.{IsIncluded, AreIncluded}
use Rattle.sig_merkle.specs.Meeting.{LeavesMeet, NodesMeet, PathsMeet, EntryMeets}
use Rattle.sig_merkle.specs.Path.{path_len}
use Rattle.sig_merkle.specs.Split.{IsSplit}
use Rattle.sig_merkle.specs.Root.{leaf_of, root}
use Rattle.sig_merkle.proofs.EntryMeetings.{count_of, meets-leaf, meets-left, meets-right, rest-left, rest-right}
use Rattle.sig_merkle.proofs.EntryMeetings.{same_entry}
use Rattle.sig_merkle.proofs.Exhibits.{texts-meet, children-meet, root-length, last_of, hashes-split, halves-at}
use Rattle.sig_merkle.proofs.Levels.{by_power}
use Rattle.sig_merkle.proofs.Meetings.{are_leaves, leaves_meet}
use Rattle.sig_merkle.proofs.PathMeetings.{paths-leaf, paths-left, paths-right, same_entries}
use Rattle.sig_merkle.proofs.PathSteps.{path_len-leaf, path_len-several}

-- both hashes are of 32 bytes
abbrev AreSized : Meeting → Type 0
AreSized (Hashed a b) = (length a ≡ 32) × (length b ≡ 32)
AreSized (Collided found) = Unit {0}

leaves-sized : (one other : List ℕ) (m : Meeting) → LeavesMeet one other m → AreSized m
leaves-sized one other (Hashed a b) met =
    (ap length (sym met.0) ∙ length-sha256 (0 ∷ one), ap length (sym met.1) ∙ length-sha256 (0 ∷ other))
leaves-sized one other (Collided found) met = tt

nodes-sized : (left right other_left other_right : List ℕ) (m : Meeting)
    → NodesMeet left right other_left other_right m → AreSized m
nodes-sized left right other_left other_right (Hashed a b) met = (
  ap length (sym met.0) ∙ length-sha256 (1 ∷ left ++ right),
  ap length (sym met.1) ∙ length-sha256 (1 ∷ other_left ++ other_right),
)
nodes-sized left right other_left other_right (Collided found) met = tt

-- what two leaves come to
both-leaves : (one other : List ℕ) → (m : Meeting) × LeavesMeet one other m
both-leaves one other =
    let (m, met) = texts-meet (0 ∷ one ++ []) (0 ∷ other ++ []) (are_leaves one other _ _ refl refl) in
    (m, leaves_meet one other (0 ∷ one ++ []) (0 ∷ other ++ []) m refl refl met)

-- what two entries with their paths come to

abbrev PathShown : ℕ → ℕ → List ℕ → List (List ℕ) → List ℕ → List (List ℕ) → Type 0
PathShown index size left left_hashes right right_hashes =
    (m : Meeting) × PathsMeet index size left left_hashes right right_hashes m × AreSized m

path-left : (index size k : ℕ) (left right left_last right_last : List ℕ)
    (left_hashes left_rest right_hashes right_rest : List (List ℕ)) (m : Meeting) → IsSplit size k → index < k
    → left_hashes ≡ left_rest ++ left_last ∷ [] → right_hashes ≡ right_rest ++ right_last ∷ []
    → length left_last ≡ 32 → length right_last ≡ 32 → PathsMeet index k left left_rest right right_rest m → AreSized m
    → PathShown index size left left_hashes right right_hashes
path-left index size k left right left_last right_last left_hashes left_rest right_hashes right_rest
    (Hashed one other) s within left_ends right_ends left_sized right_sized below sized =
    let (m, met) = children-meet one left_last other right_last sized.0 left_sized sized.1 right_sized in (
      m,
      paths-left index size k left right one other left_last right_last left_hashes left_rest right_hashes right_rest m
          s within left_ends right_ends below met,
      nodes-sized one left_last other right_last m met,
    )
path-left index size k left right left_last right_last left_hashes left_rest right_hashes right_rest (Collided found) s
    within left_ends right_ends left_sized right_sized below sized =
    (Collided found, below, tt)

path-right : (index size k : ℕ) (left right left_last right_last : List ℕ)
    (left_hashes left_rest right_hashes right_rest : List (List ℕ)) (m : Meeting) → IsSplit size k → k ≤ index
    → left_hashes ≡ left_rest ++ left_last ∷ [] → right_hashes ≡ right_rest ++ right_last ∷ []
    → length left_last ≡ 32 → length right_last ≡ 32
    → PathsMeet (index - k) (size - k) left left_rest right right_rest m → AreSized m
    → PathShown index size left left_hashes right right_hashes
path-right index size k left right left_last right_last left_hashes left_rest right_hashes right_rest
    (Hashed one other) s past left_ends right_ends left_sized right_sized below sized =
    let (m, met) = children-meet left_last one right_last other left_sized sized.0 right_sized sized.1 in (
      m,
      paths-right index size k left right one other left_last right_last left_hashes left_rest right_hashes right_rest m
          s past left_ends right_ends below met,
      nodes-sized left_last one right_last other m met,
    )
path-right index size k left right left_last right_last left_hashes left_rest right_hashes right_rest (Collided found) s
    past left_ends right_ends left_sized right_sized below sized =
    (Collided found, below, tt)

abbrev PathShows : ℕ → Type 0
PathShows size =
    (index : ℕ) (left right : List ℕ) (left_hashes right_hashes : List (List ℕ)) → index < size
    → length left_hashes ≡ path_len index size → length right_hashes ≡ path_len index size → AreHashes left_hashes
    → AreHashes right_hashes → PathShown index size left left_hashes right right_hashes

path-shows : (size : ℕ) → PathShows size
path-shows = by_power PathShows none one cut
  where
    none : PathShows 0
    none index left right left_hashes right_hashes within fits right_fits sized right_sized = absurd (omega arith)

    one : PathShows 1
    one index left right left_hashes right_hashes within fits right_fits sized right_sized =
        let (m, met) = both-leaves left right in
        let empty = path_len-leaf index 1 (omega arith) in (
          m,
          paths-leaf index 1 left right left_hashes right_hashes m fits right_fits (omega arith) met,
          leaves-sized left right m met,
        )

    cut : (n e : ℕ) → 2 ^ e < n → n ≤ 2 * 2 ^ e → PathShows (2 ^ e) → PathShows (n - 2 ^ e) → PathShows n
    cut n e below largest left_shows right_shows index left right left_hashes right_hashes within fits right_fits sized
        right_sized =
        let s : IsSplit n (2 ^ e) = record { exponent = e; power = refl; below = below; largest = largest } in
        let some : 0 < path_len index n = path_len-several index n (omega arith) in
        let (left_rest, left_last, left_is) = last_of left_hashes (omega arith) in
        let (right_rest, right_last, right_is) = last_of right_hashes (omega arith) in
        let (left_below, left_ok) = hashes-split left_rest left_last (rw left_is at sized) in
        let (right_below, right_ok) = hashes-split right_rest right_last (rw right_is at right_sized) in
        elim (cases_lt index (2 ^ e)) [
          | inl in_left ↦ (let (m, met, m_sized) =
              left_shows index left right left_rest right_rest in_left
              (rest-left index n (2 ^ e) left_last left_hashes left_rest s in_left left_is fits)
              (rest-left index n (2 ^ e) right_last right_hashes right_rest s in_left right_is right_fits) left_below
              right_below in
              path-left index n (2 ^ e) left right left_last right_last left_hashes left_rest right_hashes right_rest m s
              in_left left_is right_is left_ok right_ok met m_sized)
          | inr past ↦ (let (m, met, m_sized) =
              right_shows (index - 2 ^ e) left right left_rest right_rest (omega arith)
              (rest-right index n (2 ^ e) left_last left_hashes left_rest s past left_is fits)
              (rest-right index n (2 ^ e) right_last right_hashes right_rest s past right_is right_fits) left_below
              right_below in
              path-right index n (2 ^ e) left right left_last right_last left_hashes left_rest right_hashes right_rest m s
              past left_is right_is left_ok right_ok met m_sized)
        ]

paths-broken : (index size : ℕ) (left right : List ℕ) (left_hashes right_hashes : List (List ℕ)) (m : Meeting)
    → AreIncluded index size left left_hashes right right_hashes
    → PathsMeet index size left left_hashes right right_hashes m → (left ≡ right) ⊎ IsBroken
paths-broken index size left right left_hashes right_hashes (Hashed a b) accepted met =
    inl (same_entries index size left right a b left_hashes right_hashes accepted met)
paths-broken index size left right left_hashes right_hashes (Collided found) accepted met =
    inr (record { one = found.left; other = found.right; collide = met.0; texts = met.1 })

pub twins-or-broken : (index size : ℕ) (left right : List ℕ) (left_hashes right_hashes : List (List ℕ))
    → AreHashes left_hashes → AreHashes right_hashes → AreIncluded index size left left_hashes right right_hashes
    → (left ≡ right) ⊎ IsBroken
twins-or-broken index size left right left_hashes right_hashes left_sized right_sized (top, (within, led), (also, right_led)) =
    let (m, met, _) =
    path-shows size index left right left_hashes right_hashes within (count_of index size (leaf_of left) top left_hashes led)
    (count_of index size (leaf_of right) top right_hashes right_led) left_sized right_sized in
    paths-broken index size left right left_hashes right_hashes m (top, (within, led), (also, right_led)) met

-- what an entry with its path and a list come to

abbrev EntryShown : ℕ → List ℕ → List (List ℕ) → List (List ℕ) → Type 0
EntryShown index entry hashes entries = (m : Meeting) × EntryMeets index entry hashes entries m × AreSized m

entry-left : (index : ℕ) (entry last : List ℕ) (hashes rest entries left right : List (List ℕ)) (m : Meeting)
    → AreHalves entries left right → index < length left → hashes ≡ rest ++ last ∷ [] → length last ≡ 32
    → EntryMeets index entry rest left m → AreSized m → EntryShown index entry hashes entries
entry-left index entry last hashes rest entries left right (Hashed one other) h within ends last_sized below sized =
    let (m, met) = children-meet one last other (root right) sized.0 last_sized sized.1 (root-length right) in (
      m,
      meets-left index entry one other last hashes rest entries left right m h within ends below met,
      nodes-sized one last other (root right) m met,
    )
entry-left index entry last hashes rest entries left right (Collided found) h within ends last_sized below sized =
    (Collided found, below, tt)

entry-right : (index : ℕ) (entry last : List ℕ) (hashes rest entries left right : List (List ℕ)) (m : Meeting)
    → AreHalves entries left right → length left ≤ index → index < length entries → hashes ≡ rest ++ last ∷ []
    → length last ≡ 32 → EntryMeets (index - length left) entry rest right m → AreSized m
    → EntryShown index entry hashes entries
entry-right index entry last hashes rest entries left right (Hashed one other) h past within ends last_sized below sized =
    let (m, met) = children-meet last one (root left) other last_sized sized.0 (root-length left) sized.1 in (
      m,
      meets-right index entry one other last hashes rest entries left right m h past within ends below met,
      nodes-sized last one (root left) other m met,
    )
entry-right index entry last hashes rest entries left right (Collided found) h past within ends last_sized below sized =
    (Collided found, below, tt)

abbrev EntryShows : ℕ → Type 0
EntryShows size =
    (index : ℕ) (entry : List ℕ) (hashes entries : List (List ℕ)) → length entries ≡ size → index < size
    → length hashes ≡ path_len index size → AreHashes hashes → EntryShown index entry hashes entries

entry-halves : (index : ℕ) (entry last : List ℕ) (hashes rest entries left right : List (List ℕ))
    → AreHalves entries left right → EntryShows (length left) → EntryShows (length right)
    → length right ≡ length entries - length left → index < length entries → hashes ≡ rest ++ last ∷ []
    → length hashes ≡ path_len index (length entries) → AreHashes rest → length last ≡ 32
    → EntryShown index entry hashes entries
entry-halves index entry last hashes rest entries left right h left_shows right_shows count within ends fits rest_sized
    last_sized =
    elim (cases_lt index (length left)) [
      | inl in_left ↦ (let (m, met, m_sized) =
          left_shows index entry rest left refl in_left
          (rest-left index (length entries) (length left) last hashes rest h.split in_left ends fits) rest_sized in
          entry-left index entry last hashes rest entries left right m h in_left ends last_sized met m_sized)
      | inr past ↦ (let (m, met, m_sized) =
          right_shows (index - length left) entry rest right refl (omega arith)
          (rw count (rest-right index (length entries) (length left) last hashes rest h.split past ends fits)) rest_sized
          in
          entry-right index entry last hashes rest entries left right m h past within ends last_sized met m_sized)
    ]

entry-one : (index : ℕ) (entry : List ℕ) (hashes entries : List (List ℕ)) → length entries ≡ 1 → index < 1
    → length hashes ≡ path_len index (length entries) → EntryShown index entry hashes entries
entry-one index entry hashes [] count within fits = absurd (omega arith)
entry-one index entry hashes (listed ∷ []) count within fits =
    let (m, met) = both-leaves entry listed in
    let first : index ≡ 0 = omega arith in
    let empty = path_len-leaf index 1 (omega arith) in (
      m,
      meets-leaf index entry listed hashes (listed ∷ []) m fits (omega arith) (omega arith) (rw first refl) met,
      leaves-sized entry listed m met,
    )
entry-one index entry hashes (listed ∷ next ∷ more) count within fits = absurd (omega arith)

entry-shows : (size : ℕ) → EntryShows size
entry-shows = by_power EntryShows none one cut
  where
    none : EntryShows 0
    none index entry hashes entries count within fits sized = absurd (omega arith)

    one : EntryShows 1
    one index entry hashes entries count within fits sized = entry-one index entry hashes entries count within (rw count fits)

    cut : (n e : ℕ) → 2 ^ e < n → n ≤ 2 * 2 ^ e → EntryShows (2 ^ e) → EntryShows (n - 2 ^ e) → EntryShows n
    cut n e below largest left_shows right_shows index entry hashes entries count within fits sized =
        let s : IsSplit n (2 ^ e) = record { exponent = e; power = refl; below = below; largest = largest } in
        let taken : length (take (2 ^ e) entries) ≡ 2 ^ e = length-take-le (2 ^ e) entries (omega arith) in
        let dropped : length (drop (2 ^ e) entries) ≡ n - 2 ^ e = length-drop (2 ^ e) entries ∙ rw count refl in
        let some : 0 < path_len index n = path_len-several index n (omega arith) in
        let (rest, last, is) = last_of hashes (omega arith) in
        let (rest_sized, last_sized) = hashes-split rest last (rw is at sized) in
        entry-halves index entry last hashes rest entries (take (2 ^ e) entries) (drop (2 ^ e) entries)
        (halves-at n (2 ^ e) entries count s) (rw taken left_shows) (rw dropped right_shows)
        (rw (dropped, count, taken) refl) (omega arith) is (rw count fits) rest_sized last_sized

entry-broken : (index : ℕ) (entry : List ℕ) (hashes entries : List (List ℕ)) (m : Meeting)
    → IsIncluded index (leaf_of entry) (length entries) hashes (root entries) → EntryMeets index entry hashes entries m
    → (slice_get entries index ≡ Some entry) ⊎ IsBroken
entry-broken index entry hashes entries (Hashed a b) accepted met =
    inl (same_entry index entry a b (root entries) hashes entries accepted.1 refl met)
entry-broken index entry hashes entries (Collided found) accepted met =
    inr (record { one = found.left; other = found.right; collide = met.0; texts = met.1 })

pub entry-or-broken : (index : ℕ) (entry : List ℕ) (hashes entries : List (List ℕ)) → AreHashes hashes
    → IsIncluded index (leaf_of entry) (length entries) hashes (root entries)
    → (slice_get entries index ≡ Some entry) ⊎ IsBroken
entry-or-broken index entry hashes entries sized accepted =
    let (m, met, _) =
    entry-shows (length entries) index entry hashes entries refl accepted.0
    (count_of index (length entries) (leaf_of entry) (root entries) hashes accepted.1) sized in
    entry-broken index entry hashes entries m accepted met
