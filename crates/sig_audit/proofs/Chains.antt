-- Chained heads: their sizes, and what is known at an index.
use Rattle.std.proofs.Common.{◌≡◌, ◌↔◌, ℕ, zero, suc, ◌+◌, ◌-◌, ◌<◌, ◌≤◌, List, [], ◌∷◌, length, map, take, drop}
use Rattle.std.proofs.Common.{get_or, Some, None, Option, IsNone, refl, ◌∙◌, ap, arith}
use Rattle.std.proofs.lemmas.List.{drop_more, drop_all, length-take-le, take_all}
use Rattle.std.proofs.lemmas.Option.{get_or_from_slice_get}
use Rattle.std.specs.List.{AllByRecursion}
use Rattle.sig_base.specs.declared.collision.Collision.{Collision}
use Rattle.sig_merkle.proofs.GrowthMeetings.{consistent_sizes}
use Rattle.sig_merkle.proofs.AcceptedSubproofs.{take-take}
use Rattle.sig_merkle.specs.ConsistencyAnswer.{IsConsistent}
use Rattle.sig_merkle.specs.Fronts.{Ascend, front_root}
use Rattle.sig_merkle.specs.Root.{root}
use Rattle.sig_audit.specs.declared.chain.ChainHead.{ChainHead}
use Rattle.sig_audit.specs.Chained.{HasGrownFrom, HaveGrownFrom, HaveGrown, AreChained}
use Rattle.sig_audit.specs.Fronts.{IsOfFront, IsLast, EndsInList, IsWithin, fronts_of, sizes_in}

-- ---- the last of a list

pub last-later : {X : Type 0} (x y last : X) (later : List X) → IsLast (x ∷ y ∷ later) last → IsLast (y ∷ later) last
last-later x y last later is =
    let one : suc (suc (length later)) - 1 ≡ suc (length later) = omega arith in
    let next : suc (length later) - 1 ≡ length later = omega arith in
    rw next (rw one at is)

-- ---- sizes

pub grown_sizes : (older head : ChainHead) → HasGrownFrom older head → older.size ≤ head.size
grown_sizes older head grown = consistent_sizes older.size head.size head.hashes older.hash head.hash grown

pub sizes-grown : (size : ℕ) (first last : ChainHead) (later : List ChainHead) → HaveGrownFrom first later
    → IsLast (first ∷ later) last → last.size ≤ size → (first.size ≤ size) × AllByRecursion (IsWithin size) later
sizes-grown size first last [] grown is fits = (let same : first ≡ last = cc in rw same fits, tt)
sizes-grown size first last (next ∷ later) grown is fits =
    let rest = sizes-grown size next last later grown.1 (last-later first next last later is) fits in
    let below = grown_sizes first next grown.0 in
    let most = rest.0 in
    (omega arith, rest)

-- no head is larger than the last one
pub sizes_within : (entries : List (List ℕ)) (heads : List ChainHead) → AreChained heads → EndsInList entries heads
    → AllByRecursion (IsWithin (length entries)) heads
sizes_within entries [] chained latest = tt
sizes_within entries (first ∷ later) chained latest =
    let (last, is, (size, _)) = latest in
    sizes-grown (length entries) first last later chained.1 is (omega arith)

ascend-grown : (least : ℕ) (first : ChainHead) (later : List ChainHead) → HaveGrownFrom first later → least ≤ first.size
    → Ascend least (sizes_in (first ∷ later))
ascend-grown least first [] grown below = (below, tt)
ascend-grown least first (next ∷ later) grown below =
    (below, ascend-grown first.size next later grown.1 (grown_sizes first next grown.0))

-- the sizes ascend, as the roots of fronts are asked for
pub ascend-sizes : (heads : List ChainHead) (sizes : List ℕ) → AreChained heads → sizes ≡ sizes_in heads → Ascend 0 sizes
ascend-sizes [] sizes chained is = rw is tt
ascend-sizes (first ∷ later) sizes chained is = rw is (ascend-grown 0 first later chained.1 (omega arith))

within-mapped : (size : ℕ) (heads : List ChainHead) → AllByRecursion (IsWithin size) heads
    → AllByRecursion (λ n. n ≤ size) (sizes_in heads)
within-mapped size [] within = tt
within-mapped size (head ∷ later) within = (within.0, within-mapped size later within.1)

pub within-sizes : (size : ℕ) (heads : List ChainHead) (sizes : List ℕ)
    → AllByRecursion (IsWithin size) heads → sizes ≡ sizes_in heads → AllByRecursion (λ n. n ≤ size) sizes
within-sizes size heads sizes within is = rw is (within-mapped size heads within)

fronts-mapped : (entries : List (List ℕ)) (heads : List ChainHead)
    → map (front_root entries) (sizes_in heads) ≡ fronts_of entries heads
fronts-mapped entries [] = refl
fronts-mapped entries (head ∷ later) = ap (λ roots. root (take head.size entries) ∷ roots) (fronts-mapped entries later)

pub fronts-sizes : (entries : List (List ℕ)) (heads : List ChainHead) (sizes : List ℕ) (roots : List (List ℕ))
    → sizes ≡ sizes_in heads → roots ≡ map (front_root entries) sizes → roots ≡ fronts_of entries heads
fronts-sizes entries heads sizes roots is made = made ∙ rw is (fronts-mapped entries heads)

pub ruleset sizes_ascend = (ascend-sizes, within-sizes, fronts-sizes)

-- ---- heads at an index

-- the head after one grew from it
pub grown-at : (heads : List ChainHead) (place : ℕ) (older head : ChainHead) → HaveGrown heads
    → place + 1 < length heads → older ≡ get_or heads place older → head ≡ get_or heads (place + 1) head
    → HasGrownFrom older head
grown-at [] place older head grown below is next = absurd (omega arith)
grown-at (one ∷ []) place older head grown below is next = absurd (omega arith)
grown-at (one ∷ two ∷ later) zero older head grown below is next = rw (is, next) grown.0
grown-at (one ∷ two ∷ later) (suc place) older head grown below is next =
    let after : suc place + 1 ≡ suc (place + 1) = omega arith in
    grown-at (two ∷ later) place older head grown.1 (omega arith) is (rw after at next)

pub all-at : {X : Type 0} (P : X → Type 0) (xs : List X) (place : ℕ) (x : X) → AllByRecursion P xs → place < length xs
    → x ≡ get_or xs place x → P x
all-at P [] place x all below is = absurd (omega arith)
all-at P (y ∷ ys) zero x all below is = rw is all.0
all-at P (y ∷ ys) (suc place) x all below is = all-at P ys place x all.1 (omega arith) is

-- ---- from the last head backward

some-heads : (heads : List ChainHead) → AreChained heads → 0 < length heads
some-heads [] chained = absurd (chained.0 refl)
some-heads (first ∷ later) chained = omega arith

pub chained-some : (heads : List ChainHead) → AreChained heads → 1 ≤ length heads
chained-some heads chained = let some = some-heads heads chained in omega arith

-- the last head is of the list, so of its front
pub last-front : (entries : List (List ℕ)) (heads : List ChainHead) (place : ℕ) → AreChained heads
    → EndsInList entries heads → place ≡ length heads - 1 → AllByRecursion (IsOfFront entries) (drop place heads)
last-front entries heads place chained latest is =
    let (last, is_last, (size, hash)) = latest in
    let some = some-heads heads chained in
    let here : get_or heads place last ≡ last = get_or_from_slice_get heads place last last (rw (← is) at is_last) in
    let all : take last.size entries ≡ entries = take_all last.size entries (omega arith) in
    let of_front : IsOfFront entries last = (omega arith, rw all hash) in
    rw (drop_more heads place last (omega arith), here, drop_all (place + 1) heads (omega arith)) (of_front, tt)

-- a head is, and so are those after it
pub older-front : (entries : List (List ℕ)) (heads : List ChainHead) (place : ℕ) (older : ChainHead) → 0 < place
    → place < length heads → AllByRecursion (IsOfFront entries) (drop place heads)
    → older ≡ get_or heads (place - 1) older → IsOfFront entries older
    → AllByRecursion (IsOfFront entries) (drop (place - 1) heads)
older-front entries heads place older some below later is of_front =
    let back : place - 1 + 1 ≡ place = omega arith in
    rw (drop_more heads (place - 1) older (omega arith), ← is, back) (of_front, later)

pub head-front : (entries : List (List ℕ)) (heads : List ChainHead) (place : ℕ) (head : ChainHead) → place < length heads
    → AllByRecursion (IsOfFront entries) (drop place heads) → head ≡ get_or heads place head → IsOfFront entries head
head-front entries heads place head below later is =
    (rw (drop_more heads place head below, ← is) at later).0

front-at : (entries : List (List ℕ)) (heads : List ChainHead) (place : ℕ) (head : ChainHead) (d : List ℕ)
    → place < length heads → head ≡ get_or heads place head
    → get_or (fronts_of entries heads) place d ≡ root (take head.size entries)
front-at entries [] place head d below here = absurd (omega arith)
front-at entries (one ∷ later) zero head d below here = rw here refl
front-at entries (one ∷ later) (suc place) head d below here = front-at entries later place head d (omega arith) here

pub root-at : (entries : List (List ℕ)) (heads : List ChainHead) (roots : List (List ℕ)) (place : ℕ) (head : ChainHead)
    (d : List ℕ) → roots ≡ fronts_of entries heads → place < length heads → head ≡ get_or heads place head
    → get_or roots place d ≡ root (take head.size entries)
root-at entries heads roots place head d is below here = rw is (front-at entries heads place head d below here)

-- the head before one
pub grown-before : (heads : List ChainHead) (place : ℕ) (older head : ChainHead) → HaveGrown heads → 0 < place
    → place < length heads → older ≡ get_or heads (place - 1) older → head ≡ get_or heads place head
    → HasGrownFrom older head
grown-before heads place older head grown some below is next =
    let back : place - 1 + 1 ≡ place = omega arith in
    grown-at heads (place - 1) older head grown (omega arith) is (rw back next)

-- ---- a head and the one before it

pub grown-consistent : (entries : List (List ℕ)) (older head : ChainHead) (hashes : List (List ℕ))
    → HasGrownFrom older head → IsOfFront entries head → hashes ≡ head.hashes
    → IsConsistent older.size (length (take head.size entries)) hashes older.hash (root (take head.size entries))
grown-consistent entries older head hashes grown of_front is =
    rw (is, length-take-le head.size entries of_front.0, ← of_front.1) grown

pub older-known : (entries : List (List ℕ)) (older head : ChainHead) → HasGrownFrom older head → IsOfFront entries head
    → older.hash ≡ root (take older.size entries) → IsOfFront entries older
older-known entries older head grown of_front is =
    let sizes = grown_sizes older head grown in
    let fits = of_front.0 in
    (omega arith, is)

pub older-decided : (entries : List (List ℕ)) (older head : ChainHead) (found : Option Collision)
    → HasGrownFrom older head → IsOfFront entries head
    → (IsNone found ↔ (older.hash ≡ root (take older.size (take head.size entries))))
    → IsNone found ↔ IsOfFront entries older
older-decided entries older head found grown of_front none =
    let sizes = grown_sizes older head grown in
    let same : take older.size (take head.size entries) ≡ take older.size entries =
    take-take older.size head.size entries sizes of_front.0 in (
      λ is_none. older-known entries older head grown of_front (rw same at (none.0 is_none)),
      λ of_older. none.1 (rw same of_older.1),
    )

-- one head is not of the list's front
pub unfronted-at : (entries : List (List ℕ)) (heads : List ChainHead) (place : ℕ) (older : ChainHead) (c : Collision)
    → place - 1 < length heads → older ≡ get_or heads (place - 1) older → (IsNone (Some c) ↔ IsOfFront entries older)
    → IsNone (Some c) ↔ AllByRecursion (IsOfFront entries) heads
unfronted-at entries heads place older c below is none =
    (λ is_none. absurd (let f = is_none in cc), λ all. none.1 (all-at (IsOfFront entries) heads (place - 1) older all below is))

pub none-front : (entries : List (List ℕ)) (older : ChainHead) (found : Option Collision)
    → (IsNone found ↔ IsOfFront entries older) → found ≡ None → IsOfFront entries older
none-front entries older found none is = none.0 (rw is refl)
