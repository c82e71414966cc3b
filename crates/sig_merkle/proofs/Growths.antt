-- The law `consistency_walks`: the walk leads to the roots to which the recursion of RFC 6962 does.
use Rattle.std.proofs.Common.{◌≡◌, ℕ, suc, ◌+◌, ◌-◌, ◌*◌, ◌^◌, ◌<◌, ◌≤◌, Bool, true, false, Some, List, [], ◌∷◌}
use Rattle.std.proofs.Common.{◌++◌, length, take, drop, refl, sym, ◌∙◌, ap, inl, inr, arith}
use Rattle.std.specs.Prelude.{replicate, is_some}
use Rattle.std.proofs.lemmas.Bool.{cases_lt, cases_eq, eq-eqb, ne_eqb}
use Rattle.std.proofs.lemmas.List.{length-drop, length-replicate, length-take-le, take_all, drop_all}
use Rattle.std.proofs.lemmas.List.{take-append-le, drop-append-le}
use Rattle.sig_merkle.specs.Consistency.{roots_of, roots_len}
use Rattle.sig_merkle.specs.Walk.{inner_len, border_len, node_by_bit, inner_fold, border_fold}
use Rattle.sig_merkle.specs.GrowthWalk.{shift_of, mask_of, kept_by_bit, right_fold, seed_len, seed_of, growth_inner_len}
use Rattle.sig_merkle.specs.GrowthWalk.{climb_old, climb_new, walk_roots}
use Rattle.sig_merkle.proofs.Levels.{by_power}
use Rattle.sig_merkle.proofs.ConsistencyLaws.{roots_of-right}
use Rattle.sig_merkle.proofs.ConsistencyLens.{roots_of-some}
use Rattle.sig_merkle.proofs.WalkBits.{inner_len-left, border_len-left, inner_len-right, border_len-right}
use Rattle.sig_merkle.proofs.WalkBits.{inner_len-low}
use Rattle.sig_merkle.proofs.BitFolds.{bit_fold-above}
use Rattle.sig_merkle.proofs.WalkFolds.{border_fold-last}
use Rattle.sig_merkle.proofs.Walks.{split_at, narrow}
use Rattle.sig_merkle.proofs.GrowthBits.{shift-within, shift-above, mask-above}
use Rattle.sig_merkle.proofs.GrowthStarts.{IsStart}
use Rattle.sig_merkle.proofs.FullTreeGrowths.{Climbs, last-left, last-right, climbs-ends, climbs-left, climbs-full}

-- any tree: its left half is full, and in its right half the last hash is one of the border

growth_inner_len-left : (m n e : ℕ) → n < 2 ^ 64 → 2 ^ e < n → n ≤ 2 * 2 ^ e → 0 < m → m ≤ 2 ^ e
    → growth_inner_len m n ≡ suc e - shift_of m
unfolding growth_inner_len
growth_inner_len-left m n e fits below largest some left =
    rw (inner_len-left (m - 1) n e fits below largest (omega arith)) refl

growth_inner_len-right : (m n e : ℕ) → n < 2 ^ 64 → n ≤ 2 * 2 ^ e → 2 ^ e < m → m < n
    → growth_inner_len m n ≡ growth_inner_len (m - 2 ^ e) (n - 2 ^ e)
unfolding growth_inner_len
growth_inner_len-right m n e fits largest right older =
    let last : m - 1 - 2 ^ e ≡ m - 2 ^ e - 1 = omega arith in
    rw (
      inner_len-right (m - 1) n e (omega arith) largest (omega arith),
      last,
      shift-above m e right (omega arith) (omega arith),
    ) refl

last_border_len-right : (m n e : ℕ) → e < 64 → n ≤ 2 * 2 ^ e → 2 ^ e < m → m < n
    → border_len (m - 1) n ≡ border_len (m - 2 ^ e - 1) (n - 2 ^ e) + 1
last_border_len-right m n e few largest right older =
    let last : m - 1 - 2 ^ e ≡ m - 2 ^ e - 1 = omega arith in
    border_len-right (m - 1) n e few (omega arith) largest (omega arith)
    ∙ ap (λ i. border_len i (n - 2 ^ e) + 1) last

growth_inner_len-low : (m n e : ℕ) → n ≤ 2 ^ e → e < 64 → 0 < m → m < n → growth_inner_len m n ≤ e - shift_of m
unfolding growth_inner_len
growth_inner_len-low m n e fits few some older =
    omega (arith, inner_len-low (m - 1) n e fits few (omega arith))

-- what the walk leads to, from its start
abbrev WalksTo : ℕ → ℕ → Bool → List ℕ → List (List ℕ) → List ℕ → List (List ℕ) → Type 0
WalksTo m n known old hashes seed rest =
    roots_of m n known old hashes ≡ Some (
      climb_old (growth_inner_len m n) seed (mask_of m) rest,
      climb_new (growth_inner_len m n) seed (mask_of m) rest,
    )

abbrev GrowsTo : ℕ → Type 0
GrowsTo n =
    (m : ℕ) (known : Bool) (old : List ℕ) (hashes : List (List ℕ)) (seed : List ℕ) (rest : List (List ℕ))
    → n < 2 ^ 64 → 0 < m → m < n → length rest ≡ growth_inner_len m n + border_len (m - 1) n
    → IsStart known m old hashes seed rest → WalksTo m n known old hashes seed rest

walks-all : (m n inner : ℕ) (known : Bool) (old : List ℕ) (hashes : List (List ℕ)) (seed : List ℕ)
    (rest : List (List ℕ)) → growth_inner_len m n ≡ inner → length rest ≡ inner
    → Climbs m n known old hashes seed rest → WalksTo m n known old hashes seed rest
unfolding border_fold
walks-all m n inner known old hashes seed rest is count climbs =
    climbs ∙ rw (is, take_all inner rest (omega arith), drop_all inner rest (omega arith)) refl

grows-left : (m n e : ℕ) (known : Bool) (old : List ℕ) (hashes : List (List ℕ)) (seed : List ℕ)
    (rest : List (List ℕ)) → n < 2 ^ 64 → 2 ^ e < n → n ≤ 2 * 2 ^ e → 0 < m → m ≤ 2 ^ e
    → length rest ≡ growth_inner_len m n + border_len (m - 1) n → IsStart known m old hashes seed rest
    → WalksTo m n known old hashes seed rest
grows-left m n e known old hashes seed rest fits below largest some left count start =
    let inner = growth_inner_len-left m n e fits below largest some left in
    let border = border_len-left (m - 1) n e fits below largest (omega arith) in
    let shift = shift-within m e some (omega arith) left in
    let few = narrow n e fits below in
    let whole : length rest ≡ suc e - shift_of m = omega arith in
    let (front, lower, last, cut, ends, short, started) = last-left m (e - shift_of m) known old hashes seed rest
    (omega arith) start in
    walks-all m n (suc e - shift_of m) known old hashes seed rest inner whole
    (climbs-ends m n known old hashes front seed rest lower last cut ends
    (climbs-left m n e known old front seed lower last (omega arith) some below largest left short
    (climbs-full e m known old few (omega arith) some left front seed lower short started)))

-- from the right half, the last hash is the left child beside both
walks-right : (m n e : ℕ) (known : Bool) (old : List ℕ) (front : List (List ℕ)) (seed : List ℕ)
    (lower : List (List ℕ)) (last : List ℕ) → n < 2 ^ 64 → 2 ^ e < m → m < n → n ≤ 2 * 2 ^ e
    → length lower ≡ growth_inner_len (m - 2 ^ e) (n - 2 ^ e) + border_len (m - 2 ^ e - 1) (n - 2 ^ e)
    → WalksTo (m - 2 ^ e) (n - 2 ^ e) false old front seed lower
    → WalksTo m n known old (front ++ last ∷ []) seed (lower ++ last ∷ [])
walks-right m n e known old front seed lower last fits right older largest count led =
    let few = narrow n e fits (omega arith) in
    let inner = growth_inner_len (m - 2 ^ e) (n - 2 ^ e) in
    let inside : inner ≤ length lower = omega arith in
    let low = growth_inner_len-low (m - 2 ^ e) (n - 2 ^ e) e (omega arith) few (omega arith) (omega arith) in
    let same = shift-above m e right (omega arith) (omega arith) in
    let mask = mask-above m e right (omega arith) (omega arith) in
    let rest_mask : mask_of m - 2 ^ (e - shift_of m) ≡ mask_of (m - 2 ^ e) = omega arith in
    let taken : length (take inner lower) ≤ e - shift_of m = omega (arith, length-take-le inner lower inside) in
    let above : 2 ^ (e - shift_of m) ≤ mask_of m = omega arith in
    roots_of-right m n (2 ^ e) known old last front (split_at n e (omega arith) largest) right older
    ∙ rw (
      led,
      growth_inner_len-right m n e fits largest right older,
      take-append-le inner lower (last ∷ []) inside,
      drop-append-le inner lower (last ∷ []) inside,
      bit_fold-above kept_by_bit (e - shift_of m) seed (take inner lower) (mask_of m) taken above,
      bit_fold-above node_by_bit (e - shift_of m) seed (take inner lower) (mask_of m) taken above,
      rest_mask,
      border_fold-last (right_fold seed (take inner lower) (mask_of (m - 2 ^ e))) (drop inner lower) last,
      border_fold-last (inner_fold seed (take inner lower) (mask_of (m - 2 ^ e))) (drop inner lower) last,
    ) refl

walks-ends : (m n : ℕ) (known : Bool) (old : List ℕ) (hashes front : List (List ℕ)) (seed : List ℕ)
    (rest lower : List (List ℕ)) (last : List ℕ) → hashes ≡ front ++ last ∷ [] → rest ≡ lower ++ last ∷ []
    → WalksTo m n known old (front ++ last ∷ []) seed (lower ++ last ∷ [])
    → WalksTo m n known old hashes seed rest
walks-ends m n known old hashes front seed rest lower last cut ends walks = rw (cut, ends) walks

grows-right : (m n e : ℕ) (known : Bool) (old : List ℕ) (hashes : List (List ℕ)) (seed : List ℕ)
    (rest : List (List ℕ)) → n < 2 ^ 64 → 2 ^ e < m → m < n → n ≤ 2 * 2 ^ e
    → length rest ≡ growth_inner_len m n + border_len (m - 1) n → IsStart known m old hashes seed rest
    → GrowsTo (n - 2 ^ e) → WalksTo m n known old hashes seed rest
grows-right m n e known old hashes seed rest fits right older largest count start grows =
    let few = narrow n e fits (omega arith) in
    let inner = growth_inner_len-right m n e fits largest right older in
    let border = last_border_len-right m n e few largest right older in
    let left_over = growth_inner_len (m - 2 ^ e) (n - 2 ^ e) + border_len (m - 2 ^ e - 1) (n - 2 ^ e) in
    let (front, lower, last, cut, ends, short, started) = last-right m e left_over known old hashes seed rest right
    (omega arith) (omega arith) (omega arith) start in
    walks-ends m n known old hashes front seed rest lower last cut ends
    (walks-right m n e known old front seed lower last fits right older largest short
    (grows (m - 2 ^ e) false old front seed lower (omega arith) (omega arith) (omega arith) short started))

grows-more : (n e : ℕ) → 2 ^ e < n → n ≤ 2 * 2 ^ e → GrowsTo (n - 2 ^ e) → GrowsTo n
grows-more n e below largest grows m known old hashes seed rest fits some older count start =
    elim (cases_lt (2 ^ e) m) [
      | inl right ↦ grows-right m n e known old hashes seed rest fits right older largest count start grows
      | inr left ↦ grows-left m n e known old hashes seed rest fits below largest some left count start
    ]

grows : (n : ℕ) → GrowsTo n
grows n =
    by_power GrowsTo (λ m k o h s r _ _ older. absurd (omega arith)) (λ m k o h s r _ some older. absurd (omega arith))
    (λ n e below largest _ rest. grows-more n e below largest rest) n

-- there are as many inner hashes as the shift takes away
abbrev HasShift : ℕ → Type 0
HasShift n = (m : ℕ) → n < 2 ^ 64 → 0 < m → m < n → shift_of m ≤ inner_len (m - 1) n

shift-more : (n e : ℕ) → 2 ^ e < n → n ≤ 2 * 2 ^ e → HasShift (n - 2 ^ e) → HasShift n
shift-more n e below largest rest m fits some older =
    elim (cases_lt (2 ^ e) m) [
      | inl right ↦ (let last : m - 1 - 2 ^ e ≡ m - 2 ^ e - 1 = omega arith in
          omega (
            arith,
            inner_len-right (m - 1) n e (omega arith) largest (omega arith),
            ap (λ i. inner_len i (n - 2 ^ e)) last,
            shift-above m e right (omega arith) (omega arith),
            rest (m - 2 ^ e) (omega arith) (omega arith) (omega arith),
          ))
      | inr left ↦ omega (
        arith,
        inner_len-left (m - 1) n e fits below largest (omega arith),
        shift-within m e some (omega arith) left,
      )
    ]

pub shift-inner : (m n : ℕ) → n < 2 ^ 64 → 0 < m → m < n → shift_of m ≤ inner_len (m - 1) n
shift-inner m n fits some older =
    by_power HasShift (λ m _ _ older. absurd (omega arith)) (λ m _ some older. absurd (omega arith))
    (λ n e below largest _ rest. shift-more n e below largest rest) n m fits some older

-- the start of a proof that is checked: its flag is true

start-of : (m : ℕ) (old : List ℕ) (hashes : List (List ℕ)) → seed_len m ≤ length hashes
    → IsStart true m old hashes (seed_of m old hashes) (drop (seed_len m) hashes)
unfolding seed_len seed_of
start-of m old [] enough = elim (cases_eq m (2 ^ shift_of m)) [
  | inl power ↦ rw (eq-eqb m (2 ^ shift_of m) power) (inl (refl, power, refl, refl))
  | inr apart ↦ absurd (omega (arith, rw (ne_eqb m (2 ^ shift_of m) apart) at enough))
]
start-of m old (hash ∷ rest) enough = elim (cases_eq m (2 ^ shift_of m)) [
  | inl power ↦ rw (eq-eqb m (2 ^ shift_of m) power) (inl (refl, power, refl, refl))
  | inr apart ↦ rw (ne_eqb m (2 ^ shift_of m) apart) (inr (λ same power. apart power, refl))
]

-- the walk leads to the roots, wherever the number of hashes is what it takes
walks-lead : (m n : ℕ) (old : List ℕ) (hashes : List (List ℕ)) → n < 2 ^ 64 → 0 < m → m < n
    → length hashes ≡ seed_len m + (growth_inner_len m n + border_len (m - 1) n)
    → roots_of m n true old hashes ≡ Some (walk_roots m n old hashes)
unfolding walk_roots
walks-lead m n old hashes fits some older count =
    grows n m true old hashes (seed_of m old hashes) (drop (seed_len m) hashes) fits some older
    (omega (arith, length-drop (seed_len m) hashes)) (start-of m old hashes (omega arith))

-- and that is the number of hashes of a proof
pub growth_lens : (m n : ℕ) → n < 2 ^ 64 → 0 < m → m < n
    → seed_len m + (growth_inner_len m n + border_len (m - 1) n) ≡ roots_len m n true
growth_lens m n fits some older =
    let count = seed_len m + (growth_inner_len m n + border_len (m - 1) n) in
    let made = length-replicate count [] in
    let led = walks-lead m n [] (replicate count []) fits some older made in
    sym made ∙ (roots_of-some m n true [] (replicate count [])).0 (ap is_some led)

pub growth_leads : (m n : ℕ) (old : List ℕ) (hashes : List (List ℕ)) → n < 2 ^ 64 → 0 < m → m < n
    → length hashes ≡ roots_len m n true → roots_of m n true old hashes ≡ Some (walk_roots m n old hashes)
growth_leads m n old hashes fits some older count =
    walks-lead m n old hashes fits some older (count ∙ sym (growth_lens m n fits some older))
