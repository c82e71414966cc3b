-- The roots of a list's first entries at several sizes, from the halves to the whole.
use Rattle.std.proofs.Common.{◌≡◌, ℕ, zero, suc, ◌+◌, ◌-◌, ◌*◌, ◌^◌, ◌<◌, ◌≤◌, Bool, true, false, inl, inr}
use Rattle.std.proofs.Common.{List, [], ◌∷◌, ◌++◌, length, map, take, drop, replicate, get_or, refl, sym, ◌∙◌, ap, arith}
use Rattle.std.proofs.Common.{nat_le, set, zero-add}
use Rattle.std.proofs.Math.Nat.{sub-zero}
use Rattle.sig_base.specs.Sha256.{sha256}
use Rattle.sig_merkle.proofs.RootLaws.{root-none}
use Rattle.std.proofs.Math.Nat.{pow-suc, pow-le-pow_right, mul-suc, add-mul, mul-le-mul}
use Rattle.std.proofs.lemmas.Bool.{cases_lt, le-leb, lt-leb}
use Rattle.std.proofs.lemmas.List.{drop_more, drop_all, map-append, map_more, take_all, take_more_set, drop-set-lt}
use Rattle.std.proofs.lemmas.List.{take-append-drop}
use Rattle.std.specs.List.{AllByRecursion}
use Rattle.sig_merkle.specs.AuditPath.{AreHalves}
use Rattle.sig_merkle.specs.Fronts.{Ascend, front_root, root_after, within_len}
use Rattle.sig_merkle.specs.Root.{node_of, root}
use Rattle.sig_merkle.specs.Split.{IsSplit}
use Rattle.sig_merkle.proofs.HalfSteps.{halves-length}
use Rattle.sig_merkle.proofs.Levels.{exponent_le}
use Rattle.sig_merkle.proofs.AcceptedSubproofs.{root-older, take-take}

-- ---- how many counts are at most a number

within-some : (most count : ℕ) (later : List ℕ) → count ≤ most
    → within_len most (count ∷ later) ≡ suc (within_len most later)
unfolding within_len
within-some most count later fits = rw (le-leb count most fits) refl

within-none : (most count : ℕ) (later : List ℕ) → most < count → within_len most (count ∷ later) ≡ 0
unfolding within_len
within-none most count later past = rw (lt-leb count most past) refl

within-empty : (most : ℕ) → within_len most [] ≡ 0
unfolding within_len
within-empty most = refl

here-left : (counts : List ℕ) (place : ℕ) → place < length counts
    → drop place counts ≡ get_or counts place 0 ∷ drop (place + 1) counts
here-left counts place below = drop_more counts place 0 below

-- so far all were
pub within-more : (most : ℕ) (counts : List ℕ) (place whole : ℕ)
    → whole ≡ place + within_len most (drop place counts) → place < length counts → get_or counts place 0 ≤ most
    → whole ≡ place + 1 + within_len most (drop (place + 1) counts)
within-more most counts place whole so_far below fits =
    let rest = within-some most (get_or counts place 0) (drop (place + 1) counts) fits in
    omega (arith, so_far, ap (within_len most) (here-left counts place below), rest)

pub within-past : (most : ℕ) (counts : List ℕ) (place whole : ℕ)
    → whole ≡ place + within_len most (drop place counts) → place < length counts → most < get_or counts place 0
    → place ≡ whole
within-past most counts place whole so_far below past =
    let rest = within-none most (get_or counts place 0) (drop (place + 1) counts) past in
    omega (arith, so_far, ap (within_len most) (here-left counts place below), rest)

pub within-done : (most : ℕ) (counts : List ℕ) (place whole : ℕ)
    → whole ≡ place + within_len most (drop place counts) → length counts ≤ place → whole ≡ place
within-done most counts place whole so_far end =
    omega (arith, so_far, ap (within_len most) (drop_all place counts end), within-empty most)

pub ruleset counts_within = (within-more, within-past, within-done)

pub within_len-le : (most : ℕ) (counts : List ℕ) → within_len most counts ≤ length counts
within_len-le most [] = rw (within-empty most) (omega arith)
within_len-le most (count ∷ later) =
    elim (cases_lt most count) [
      | inl past ↦ rw (within-none most count later past) (omega arith)
      | inr fits ↦ rw (within-some most count later fits) (let rest = within_len-le most later in omega arith)
    ]

-- those are at most this number, and ascend
low-within : (most : ℕ) (counts : List ℕ) → AllByRecursion (λ c. c ≤ most) (take (within_len most counts) counts)
low-within most [] = rw (within-empty most) tt
low-within most (count ∷ later) =
    elim (cases_lt most count) [
      | inl past ↦ rw (within-none most count later past) tt
      | inr fits ↦ rw (within-some most count later fits) (fits, low-within most later)
    ]

low-ascend : (most least : ℕ) (counts : List ℕ) → Ascend least counts → Ascend least (take (within_len most counts) counts)
low-ascend most least [] ascend = rw (within-empty most) tt
low-ascend most least (count ∷ later) ascend =
    elim (cases_lt most count) [
      | inl past ↦ rw (within-none most count later past) tt
      | inr fits ↦ rw (within-some most count later fits) (ascend.0, low-ascend most count later ascend.1)
    ]

-- the others are above it, and ascend
pub high-ascend : (most least : ℕ) (counts : List ℕ) → Ascend least counts
    → Ascend (most + 1) (drop (within_len most counts) counts)
high-ascend most least [] ascend = rw (within-empty most) tt
high-ascend most least (count ∷ later) ascend =
    elim (cases_lt most count) [
      | inl past ↦ rw (within-none most count later past) (omega arith, ascend.1)
      | inr fits ↦ rw (within-some most count later fits) (high-ascend most count later ascend.1)
    ]

pub all-drop : (P : ℕ → Type 0) (n : ℕ) (counts : List ℕ) → AllByRecursion P counts → AllByRecursion P (drop n counts)
all-drop P zero counts all = all
all-drop P (suc n) [] all = tt
all-drop P (suc n) (count ∷ later) all = all-drop P n later all.1

-- ---- the roots

low-roots : (start : ℕ) (entries left right : List (List ℕ)) → AreHalves entries left right → (low : List ℕ)
    → AllByRecursion (λ c. c ≤ start + length left) low → map (root_after start left) low ≡ map (root_after start entries) low
low-roots start entries left right h [] within = refl
low-roots start entries left right h (count ∷ later) within =
    let lengths = halves-length entries left right h in
    let below = lengths.below in
    let fits = within.0 in
    let same : take (count - start) left ≡ take (count - start) entries =
    ap (take (count - start)) h.front ∙ take-take (count - start) (length left) entries (omega arith) (omega arith) in
    rw (same, low-roots start entries left right h later within.1) refl

high-roots : (start middle : ℕ) (entries left right : List (List ℕ)) → AreHalves entries left right
    → middle ≡ start + length left → (least : ℕ) (high : List ℕ) → middle < least → Ascend least high
    → AllByRecursion (λ c. c ≤ start + length entries) high
    → map (node_of (root left)) (map (root_after middle right) high) ≡ map (root_after start entries) high
high-roots start middle entries left right h is least [] past ascend within = refl
high-roots start middle entries left right h is least (count ∷ later) past ascend within =
    let fits = within.0 in
    let above = ascend.0 in
    let older = root-older (count - start) (length left) entries h.split (omega arith) (omega arith) in
    let rest : count - start - length left ≡ count - middle = omega arith in
    let here : root (take (count - start) entries) ≡ node_of (root left) (root (take (count - middle) right)) =
    rw (← h.front, ← h.back, rest) at older in
    rw (here, high-roots start middle entries left right h is count later (omega arith) ascend.1 within.1) refl

-- ---- the loops that write each root

-- each of the first so many is f of what it was, and the others are as they were
pub record IsPut (f : List ℕ → List ℕ) (before roots : List (List ℕ)) (place : ℕ) : Type 0 where
  pub done : take place roots ≡ map f (take place before)
  pub left : drop place roots ≡ drop place before

pub put-none : (f : List ℕ → List ℕ) (before : List (List ℕ)) → IsPut f before before 0
put-none f before = record { done = refl; left = refl }

here_and_later : (x y : List ℕ) (xs ys : List (List ℕ)) → x ∷ xs ≡ y ∷ ys → (x ≡ y) × (xs ≡ ys)
here_and_later x y xs ys same = (cc, cc)

pub put-more : (f : List ℕ → List ℕ) (before roots : List (List ℕ)) (place : ℕ) (d after : List ℕ)
    → IsPut f before roots place → place < length before → length roots ≡ length before
    → after ≡ f (get_or roots place d) → IsPut f before (set roots place after) (place + 1)
put-more f before roots place d after put below as_many is =
    let within : place < length roots = omega arith in
    let (same, later) =
    here_and_later (get_or roots place d) (get_or before place d) (drop (place + 1) roots) (drop (place + 1) before)
    (sym (drop_more roots place d within) ∙ put.left ∙ drop_more before place d below) in
    let hashed : after ≡ f (get_or before place d) = is ∙ ap f same in
    record {
      done = take_more_set roots place after within ∙ rw (put.done, hashed) (sym (map_more f before place d below));
      left = drop-set-lt (place + 1) roots place after (omega arith) ∙ later;
    }

pub put-done : (f : List ℕ → List ℕ) (before roots : List (List ℕ)) (place : ℕ) → IsPut f before roots place
    → length before ≤ place → length roots ≡ length before → roots ≡ map f before
put-done f before roots place put end as_many =
    sym (take_all place roots (omega arith)) ∙ put.done ∙ ap (map f) (take_all place before end)

pub ruleset put_roots = (put-none, put-more, put-done)

-- ---- the roots of one entry

pub entries-some : (start size : ℕ) (counts : List ℕ) → 0 < length counts → Ascend (start + 1) counts
    → AllByRecursion (λ c. c ≤ start + size) counts → 0 < size
entries-some start size [] some ascend within = absurd (omega arith)
entries-some start size (count ∷ later) some ascend within =
    let least = ascend.0 in
    let most = within.0 in
    omega arith

leaf-each : (start least : ℕ) (leaf : List ℕ) (entries : List (List ℕ)) → length entries ≡ 1 → leaf ≡ root entries
    → start < least → (counts : List ℕ) (roots : List (List ℕ)) → Ascend least counts → length roots ≡ length counts
    → map (λ _. leaf) roots ≡ map (root_after start entries) counts
leaf-each start least leaf entries single is past [] [] ascend as_many = refl
leaf-each start least leaf entries single is past [] (root ∷ roots) ascend as_many = absurd (omega arith)
leaf-each start least leaf entries single is past (count ∷ later) [] ascend as_many = absurd (omega arith)
leaf-each start least leaf entries single is past (count ∷ later) (root ∷ roots) ascend as_many =
    let above = ascend.0 in
    let all : take (count - start) entries ≡ entries = take_all (count - start) entries (omega arith) in
    rw (all, ← is, leaf-each start count leaf entries single is (omega arith) later roots ascend.1 (omega arith)) refl

pub leaf-roots : (start : ℕ) (leaf : List ℕ) (entries : List (List ℕ)) (counts : List ℕ) (before after : List (List ℕ))
    → length entries ≡ 1 → leaf ≡ root entries → Ascend (start + 1) counts → length before ≡ length counts
    → after ≡ map (λ _. leaf) before → after ≡ map (root_after start entries) counts
leaf-roots start leaf entries counts before after single is ascend as_many put =
    put ∙ leaf-each start (start + 1) leaf entries single is (omega arith) counts before ascend as_many

-- ---- the roots of both halves

all-take : (P : ℕ → Type 0) (n : ℕ) (counts : List ℕ) → AllByRecursion P counts → AllByRecursion P (take n counts)
all-take P zero counts all = tt
all-take P (suc n) [] all = tt
all-take P (suc n) (count ∷ later) all = (all.0, all-take P n later all.1)

pub all-roots : (start middle within : ℕ) (one : List ℕ) (entries left right : List (List ℕ)) (counts : List ℕ)
    (low_roots high_roots put : List (List ℕ)) → AreHalves entries left right → middle ≡ start + length left
    → within ≡ within_len middle counts → Ascend (start + 1) counts
    → AllByRecursion (λ c. c ≤ start + length entries) counts → one ≡ root left
    → low_roots ≡ map (root_after start left) (take within counts)
    → high_roots ≡ map (root_after middle right) (drop within counts) → put ≡ map (node_of one) high_roots
    → low_roots ++ put ≡ map (root_after start entries) counts
all-roots start middle within one entries left right counts low_roots high_roots put h is within_is ascend fits one_is
    low_is high_is put_is =
    let low : AllByRecursion (λ c. c ≤ start + length left) (take within counts) =
    rw (within_is, ← is) (low-within middle counts) in
    let high : Ascend (middle + 1) (drop within counts) = rw within_is (high-ascend middle (start + 1) counts ascend) in
    let front : low_roots ≡ map (root_after start entries) (take within counts) =
    low_is ∙ low-roots start entries left right h (take within counts) low in
    let back : put ≡ map (root_after start entries) (drop within counts) =
    put_is ∙ rw (one_is, high_is) (high-roots start middle entries left right h is (middle + 1) (drop within counts)
    (omega arith) high (all-drop (λ c. c ≤ start + length entries) within counts fits)) in
    rw (front, back) (sym (map-append (root_after start entries) (take within counts) (drop within counts))
    ∙ ap (map (root_after start entries)) (take-append-drop within counts))

-- ---- what the halves are asked for

pub low-counts : (start middle within : ℕ) (left : List (List ℕ)) (counts : List ℕ) → middle ≡ start + length left
    → within ≡ within_len middle counts → Ascend (start + 1) counts
    → Ascend (start + 1) (take within counts) × AllByRecursion (λ c. c ≤ start + length left) (take within counts)
low-counts start middle within left counts is within_is ascend =
    (rw within_is (low-ascend middle (start + 1) counts ascend), rw (within_is, ← is) (low-within middle counts))

pub high-counts : (start middle within : ℕ) (entries left right : List (List ℕ)) (counts : List ℕ)
    → AreHalves entries left right → middle ≡ start + length left → within ≡ within_len middle counts
    → Ascend (start + 1) counts → AllByRecursion (λ c. c ≤ start + length entries) counts
    → Ascend (middle + 1) (drop within counts) × AllByRecursion (λ c. c ≤ middle + length right) (drop within counts)
high-counts start middle within entries left right counts h is within_is ascend fits =
    let lengths = halves-length entries left right h in
    let whole = lengths.whole in
    let most : start + length entries ≡ middle + length right = omega arith in (
      rw within_is (high-ascend middle (start + 1) counts ascend),
      rw most at (all-drop (λ c. c ≤ start + length entries) within counts fits),
    )

-- ---- how many nodes are hashed

half-levels : (n k level : ℕ) → IsSplit n k → n ≤ 2 ^ suc level → (k ≤ 2 ^ level) × (n - k ≤ 2 ^ level)
half-levels n k level s fits =
    let below = s.below in
    let largest = s.largest in
    let power = s.power in
    let exponent : s.exponent ≤ level =
    exponent_le n s.exponent level (rw (← power) below) (omega (arith, pow-suc 2 level)) in
    let grown : 2 ^ s.exponent ≤ 2 ^ level = pow-le-pow_right (omega arith) exponent in
    (omega arith, omega arith)

add-steps : (before first rest put after left right whole low high count low_more high_more more : ℕ)
    → first ≤ before + (left - 1) + low_more → rest ≤ first + (right - 1) + high_more → put ≡ rest + high
    → after ≡ put + 1 → 0 < left → 0 < right → left + right ≡ whole → low + high ≡ count
    → more ≡ low_more + high_more + count → after ≤ before + (whole - 1) + more
add-steps before first rest put after left right whole low high count low_more high_more more first_is rest_is put_is
    after_is some some_right both all is =
    omega arith

pub fronts_steps : (before first rest put after low high count : ℕ) (entries left right : List (List ℕ))
    → AreHalves entries left right
    → ((level : ℕ) → length left ≤ 2 ^ level → first ≤ before + (length left - 1) + low * level)
    → ((level : ℕ) → length right ≤ 2 ^ level → rest ≤ first + (length right - 1) + high * level)
    → put ≡ rest + high → after ≡ put + 1 → low + high ≡ count → (level : ℕ) → length entries ≤ 2 ^ level
    → after ≤ before + (length entries - 1) + count * level
fronts_steps before first rest put after low high count entries left right h first_is rest_is put_is after_is all zero fits =
    absurd (let lengths = halves-length entries left right h in
    let some = lengths.some in
    let below = lengths.below in
    omega arith)
fronts_steps before first rest put after low high count entries left right h first_is rest_is put_is after_is all
    (suc level) fits =
    let lengths = halves-length entries left right h in
    let some = lengths.some in
    let below = lengths.below in
    let whole = lengths.whole in
    let both = half-levels (length entries) (length left) level h.split fits in
    let right_fits : length right ≤ 2 ^ level = let back = both.1 in omega arith in
    let shared : (low + high) * level ≡ low * level + high * level = add-mul low high level in
    let more : count * suc level ≡ low * level + high * level + count =
    mul-suc count level ∙ rw (← all) (ap (λ n. n + (low + high)) shared) in
    add-steps before first rest put after (length left) (length right) (length entries) low high count (low * level)
    (high * level) (count * suc level) (first_is level both.0) (rest_is level right_fits) put_is after_is some
    (omega arith) whole all more

-- ---- counts of no entry, which come first

empty-fronts : (entries : List (List ℕ)) (counts : List ℕ)
    → take (within_len 0 counts) (replicate (length counts) (sha256 []))
    ≡ map (front_root entries) (take (within_len 0 counts) counts)
empty-fronts entries [] = rw (within-empty 0) refl
empty-fronts entries (count ∷ later) =
    elim (cases_lt 0 count) [
      | inl past ↦ rw (within-none 0 count later past) refl
      | inr fits ↦ (let none : count ≡ 0 = omega arith in
          let first : sha256 [] ≡ front_root entries count = rw none (sym root-none) in
          rw (within-some 0 count later fits) (ap (λ roots. sha256 [] ∷ roots) (empty-fronts entries later)
          ∙ ap (λ root. root ∷ map (front_root entries) (take (within_len 0 later) later)) first))
    ]

after-none : (entries : List (List ℕ)) (counts : List ℕ)
    → map (root_after 0 entries) counts ≡ map (front_root entries) counts
after-none entries [] = refl
after-none entries (count ∷ later) = rw (sub-zero count, after-none entries later) refl

pub all-fronts : (none : ℕ) (entries : List (List ℕ)) (counts : List ℕ) (before first written : List (List ℕ))
    → none ≡ within_len 0 counts → before ≡ replicate (length counts) (sha256 []) → first ≡ take none before
    → written ≡ map (root_after 0 entries) (drop none counts) → first ++ written ≡ map (front_root entries) counts
all-fronts none entries counts before first written is empty first_is written_is =
    let front : first ≡ map (front_root entries) (take none counts) =
    first_is ∙ rw (empty, is) (empty-fronts entries counts) in
    rw (front, written_is, after-none entries (drop none counts))
    (sym (map-append (front_root entries) (take none counts) (drop none counts))
    ∙ ap (map (front_root entries)) (take-append-drop none counts))

pub none-counts : (none : ℕ) (entries : List (List ℕ)) (counts : List ℕ) → none ≡ within_len 0 counts → Ascend 0 counts
    → AllByRecursion (λ c. c ≤ length entries) counts
    → Ascend 1 (drop none counts) × AllByRecursion (λ c. c ≤ 0 + length entries) (drop none counts)
none-counts none entries counts is ascend within = (
  rw is (high-ascend 0 0 counts ascend),
  rw (zero-add (length entries)) (all-drop (λ c. c ≤ length entries) none counts within),
)

-- the steps for these are those for all or fewer
pub fewer-steps : (before after whole some all : ℕ) → some ≤ all
    → ((level : ℕ) → whole ≤ 2 ^ level → after ≤ before + (whole - 1) + some * level)
    → (level : ℕ) → whole ≤ 2 ^ level → after ≤ before + (whole - 1) + all * level
fewer-steps before after whole some all fewer counted level fits =
    let most : some * level ≤ all * level = mul-le-mul fewer (omega arith) in
    let steps = counted level fits in
    omega arith
