-- How long lists are of which no two elements are the same, and what is in them.
use Rattle.std.proofs.Common.{◌≡◌, ◌≢◌, ◌↔◌, ℕ, zero, suc, ◌≤◌, ◌⊎◌, inl, inr, List, [], ◌∷◌, length, take, Bool}
use Rattle.std.proofs.Common.{true, false, refl, sym, ◌∙◌, arith}
use Rattle.std.proofs.lemmas.List.{length-take-le}
use Rattle.std.proofs.lemmas.Map.Views.{Contains-from_any, list_any-from_Contains}
use Rattle.std.specs.Cmp.Lexicographic.{bytes_decides, nat_list_eq_equiv}
use Rattle.std.specs.List.{AllByRecursion, list_any}
use Rattle.std.specs.Prelude.{bytes_eq, Contains, if◌then◌else◌}
use Rattle.sig_gate.specs.RuleHolds.{AreDifferent}

abbrev Texts : Type 0
Texts = List (List ℕ)

-- ---- the first element, and those after it

pub among-first : {X : Type 0} (y : X) (ys : List X) (x : X) → Contains (y ∷ ys) x → (y ≡ x) ⊎ Contains ys x
among-first y ys x (zero, below, is) = inl is
among-first y ys x (suc k, below, is) = inr (k, omega (arith, below), is)

pub first-among : {X : Type 0} (y : X) (ys : List X) (x : X) → y ≡ x → Contains (y ∷ ys) x
first-among y ys x is = (zero, omega arith, is)

pub later-among : {X : Type 0} (y : X) (ys : List X) (x : X) → Contains ys x → Contains (y ∷ ys) x
later-among y ys x (k, below, is) = (suc k, omega (arith, below), is)

pub none-among : {X : Type 0} (x : X) → Contains [] x → ⊥
none-among x (k, below, is) = absurd (omega (arith, below))

-- ---- without one of them

abbrev without : List ℕ → Texts → Texts
without b [] = []
without b (d ∷ ds) = if bytes_eq b d then ds else d ∷ without b ds

shorter : (b : List ℕ) (ds : Texts) → Contains ds b → length ds ≡ suc (length (without b ds))
shorter b [] among = absurd (none-among b among)
shorter b (d ∷ ds) among = by (shorter b ds) (bytes_eq b d) refl where
  by : (Contains ds b → length ds ≡ suc (length (without b ds))) → (t : Bool) → bytes_eq b d ≡ t
      → length (d ∷ ds) ≡ suc (length (if t then ds else d ∷ without b ds))
  by after true is = omega arith
  by after false is = elim (among-first d ds b among) [
    | inl e ↦ let same : bytes_eq b d ≡ true = (bytes_decides b d).1 (sym e) in absurd cc
    | inr rest ↦ let one = after rest in omega (arith, one)
  ]

still : (b c : List ℕ) (ds : Texts) → Contains ds c → c ≢ b → Contains (without b ds) c
still b c [] among apart = among
still b c (d ∷ ds) among apart = by (λ rest. still b c ds rest apart) (bytes_eq b d) refl where
  by : (Contains ds c → Contains (without b ds) c) → (t : Bool) → bytes_eq b d ≡ t
      → Contains (if t then ds else d ∷ without b ds) c
  by after true is = elim (among-first d ds c among) [
    | inl e ↦ absurd (apart (sym e ∙ sym ((bytes_decides b d).0 is)))
    | inr rest ↦ rest
  ]
  by after false is = elim (among-first d ds c among) [
    | inl e ↦ first-among d (without b ds) c e
    | inr rest ↦ later-among d (without b ds) c (after rest)
  ]

each_still : (b : List ℕ) (ds bs : Texts) → AllByRecursion (Contains ds) bs → ¬ Contains bs b
    → AllByRecursion (Contains (without b ds)) bs
each_still b ds [] each out = tt
each_still b ds (c ∷ bs) each out = (
  still b c ds each.0 (λ e. out (first-among c bs b e)),
  each_still b ds bs each.1 (λ among. out (later-among c bs b among)),
)

-- ---- how many there are

-- different elements of a list are at most as many as it has
pub few : (bs ds : Texts) → AreDifferent bs → AllByRecursion (Contains ds) bs → length bs ≤ length ds
few [] ds apart each = omega arith
few (b ∷ bs) ds apart each =
    let one : length ds ≡ suc (length (without b ds)) = shorter b ds each.0 in
    let rest : length bs ≤ length (without b ds) =
    few bs (without b ds) apart.1 (each_still b ds bs each.1 apart.0) in
    omega (arith, one, rest)

taken : (n : ℕ) (ds : Texts) (x : List ℕ) → Contains (take n ds) x → Contains ds x
taken zero ds x among = absurd (none-among x among)
taken (suc n) [] x among = among
taken (suc n) (d ∷ ds) x among = elim (among-first d (take n ds) x among) [
  | inl e ↦ first-among d ds x e
  | inr rest ↦ later-among d ds x (taken n ds x rest)
]

different-take : (n : ℕ) (ds : Texts) → AreDifferent ds → AreDifferent (take n ds)
different-take zero ds apart = tt
different-take (suc n) [] apart = tt
different-take (suc n) (d ∷ ds) apart =
    ((λ among. apart.0 (taken n ds d among)), different-take n ds apart.1)

each_in : (all bs : Texts) → ((x : List ℕ) → Contains bs x → Contains all x) → AllByRecursion (Contains all) bs
each_in all [] there = tt
each_in all (b ∷ bs) there =
    (there b (first-among b bs b refl), each_in all bs (λ x among. there x (later-among b bs x among)))

each_moved : (all ds bs : Texts) → ((x : List ℕ) → Contains all x → Contains ds x)
    → AllByRecursion (Contains all) bs → AllByRecursion (Contains ds) bs
each_moved all ds [] moved each = tt
each_moved all ds (b ∷ bs) moved each = (moved b each.0, each_moved all ds bs moved each.1)

-- lists that pass the same tests have the same elements
pub same-elements : (xs ys : Texts) → ((test : List ℕ → Bool) → list_any test xs ≡ list_any test ys)
    → (x : List ℕ) → Contains xs x → Contains ys x
same-elements xs ys same x among =
    Contains-from_any (λ a b. (bytes_decides a b).0) x ys
    (sym (same (bytes_eq x)) ∙ list_any-from_Contains nat_list_eq_equiv x xs among)

-- so many different elements of a list
pub record HasSome (all : Texts) (count : ℕ) : Type 0 where
  pub some : Texts
  pub as_many : length some ≡ count
  pub among : AllByRecursion (Contains all) some
  pub apart : AreDifferent some

-- the elements of a list, each once, are as many as there are different ones
pub counted : (all ds : Texts) → AreDifferent ds → ((test : List ℕ → Bool) → list_any test ds ≡ list_any test all)
    → (asked : ℕ) → (asked ≤ length ds) ↔ HasSome all asked
counted all ds apart same asked = (
  (λ le. record {
    some = take asked ds;
    as_many = length-take-le asked ds le;
    among = each_in all (take asked ds) (λ x among. same-elements ds all same x (taken asked ds x among));
    apart = different-take asked ds apart;
  }),
  (λ has.
      let le : length has.some ≤ length ds = few has.some ds has.apart
      (each_moved all ds has.some (same-elements all ds (λ test. sym (same test))) has.among) in
      omega (arith, le, has.as_many)),
)
