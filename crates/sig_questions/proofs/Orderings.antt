-- Lists of rows in the order of those who ask for them, put together of others.
use Rattle.std.proofs.Common.{◌≡◌, ◌↔◌, ◌⊎◌, ℕ, zero, suc, ◌+◌, ◌<◌, List, [], ◌∷◌, ◌++◌, Some, inl, inr, refl, sym, ap}
use Rattle.std.proofs.Common.{subst, arith, ◌∙◌}
use Rattle.std.specs.List.{AllByRecursion, flat_map}
use Rattle.std.specs.Prelude.{map, Contains, slice_get}
use Rattle.std.proofs.lemmas.List.{map-append}
use Rattle.std.proofs.lemmas.List.Elements.{Contains-append_right}
use Rattle.sig_base.proofs.OptionSteps.{some_is}
use Rattle.sig_base.specs.declared.checker.AcceptedRow.{AcceptedRow}
use Rattle.sig_verify.specs.declared.link.Link.{Link}
use Rattle.sig_questions.proofs.RowLaws.{empty_has, has_either, has_one}
use Rattle.sig_questions.specs.Order.{AreInOrder, Asking, IsBefore}

-- ---- askings that ascend

-- each is before all that follow it
abbrev pub Ascend : List Asking → Type 0
Ascend [] = Unit {0}
Ascend (one ∷ later) = AllByRecursion (IsBefore one) later × Ascend later

joined : (P : Asking → Type 0) (xs ys : List Asking) → AllByRecursion P xs → AllByRecursion P ys
    → AllByRecursion P (xs ++ ys)
joined P [] ys front after = after
joined P (x ∷ xs) ys front after = (front.0, joined P xs ys front.1 after)

after_one : (x a : Asking) (xs : List Asking) → Contains xs a → Contains (x ∷ xs) a
after_one x a xs has = Contains-append_right (x ∷ []) xs a has

at_front : (x : Asking) (xs : List Asking) → Contains (x ∷ xs) x
at_front x xs = (0, omega arith, refl)

each : (P : Asking → Type 0) (xs : List Asking) → ((x : Asking) → Contains xs x → P x) → AllByRecursion P xs
each P [] holds = tt
each P (x ∷ xs) holds = (holds x (at_front x xs), each P xs (λ y has. holds y (after_one x y xs has)))

ascend_joined : (xs ys : List Asking) → Ascend xs → Ascend ys
    → ((x y : Asking) → Contains xs x → Contains ys y → IsBefore x y) → Ascend (xs ++ ys)
ascend_joined [] ys front after before = after
ascend_joined (x ∷ xs) ys front after before = (
  joined (IsBefore x) xs ys front.0 (each (IsBefore x) ys (λ y has. before x y (at_front x xs) has)),
  ascend_joined xs ys front.1 after (λ a y has_a has_y. before a y (after_one x a xs has_a) has_y),
)

-- what all have, the one at a place has
at_place : (P : Asking → Type 0) (xs : List Asking) (n : ℕ) (x : Asking) → AllByRecursion P xs
    → slice_get xs n ≡ Some x → P x
at_place P [] n x all there = absurd cc
at_place P (y ∷ xs) zero x all there = subst P (some_is y x there) all.0
at_place P (y ∷ xs) (suc n) x all there = at_place P xs n x all.1 there

by_positions : (xs : List Asking) → Ascend xs → (m n : ℕ) (one other : Asking) → m < n → slice_get xs m ≡ Some one
    → slice_get xs n ≡ Some other → IsBefore one other
by_positions [] ascend m n one other less first second = absurd cc
by_positions (x ∷ xs) ascend m zero one other less first second = absurd (omega (arith, less))
by_positions (x ∷ xs) ascend zero (suc n) one other less first second =
    subst (λ (a : Asking). IsBefore a other) (some_is x one first)
    (at_place (IsBefore x) xs n other ascend.0 second)
by_positions (x ∷ xs) ascend (suc m) (suc n) one other less first second =
    by_positions xs ascend.1 m n one other (omega (arith, less)) first second

-- ---- rows with who asks for them

pub record ArePlaced (Asks : Link → ℕ → AcceptedRow → Type 0) (rows : List AcceptedRow) : Type 0 where
  pub askings : List Asking
  pub listed : map (λ asking. asking.row) askings ≡ rows
  pub ascend : Ascend askings
  pub asked : (asking : Asking) → Contains askings asking ↔ Asks asking.link asking.place asking.row

pub in_order : (Asks : Link → ℕ → AcceptedRow → Type 0) (rows : List AcceptedRow) → ArePlaced Asks rows
    → AreInOrder Asks rows
in_order Asks rows placed = record {
  askings = placed.askings;
  listed = placed.listed;
  ordered = by_positions placed.askings placed.ascend;
  asked = placed.asked;
}

pub none_placed : (Asks : Link → ℕ → AcceptedRow → Type 0)
    → ((link : Link) (place : ℕ) (row : AcceptedRow) → ¬ Asks link place row) → ArePlaced Asks []
none_placed Asks none = record {
  askings = [];
  listed = refl;
  ascend = tt;
  asked = λ a. ((λ has. absurd (empty_has a has)), (λ asks. absurd (none a.link a.place a.row asks)));
}

pub placed_as : (Asks Asks' : Link → ℕ → AcceptedRow → Type 0) (rows : List AcceptedRow)
    → ((link : Link) (place : ℕ) (row : AcceptedRow) → Asks link place row ↔ Asks' link place row)
    → ArePlaced Asks rows → ArePlaced Asks' rows
placed_as Asks Asks' rows alike placed = record {
  askings = placed.askings;
  listed = placed.listed;
  ascend = placed.ascend;
  asked = λ a. (
    (λ has. (alike a.link a.place a.row).0 ((placed.asked a).0 has)),
    (λ asks. (placed.asked a).1 ((alike a.link a.place a.row).1 asks)),
  );
}

pub both_placed : (One Other : Link → ℕ → AcceptedRow → Type 0) (xs ys : List AcceptedRow)
    → ((a b : Asking) → One a.link a.place a.row → Other b.link b.place b.row → IsBefore a b) → ArePlaced One xs
    → ArePlaced Other ys → ArePlaced (λ link place row. One link place row ⊎ Other link place row) (xs ++ ys)
both_placed One Other xs ys before one other = record {
  askings = one.askings ++ other.askings;
  listed =
      map-append (λ (asking : Asking). asking.row) one.askings other.askings
      ∙ ap (λ (rows : List AcceptedRow). rows ++ map (λ (asking : Asking). asking.row) other.askings) one.listed
      ∙ ap (λ (rows : List AcceptedRow). xs ++ rows) other.listed;
  ascend = ascend_joined one.askings other.askings one.ascend other.ascend
      (λ a b has_a has_b. before a b ((one.asked a).0 has_a) ((other.asked b).0 has_b));
  asked = λ a. has_either one.askings other.askings a (one.asked a) (other.asked a);
}

-- ---- at most one row

abbrev pub IsSingle : List AcceptedRow → Type 0
IsSingle [] = Unit {0}
IsSingle (row ∷ []) = Unit {0}
IsSingle (row ∷ other ∷ rows) = ⊥

asking_is : (a : Asking) (link : Link) (place : ℕ) (row : AcceptedRow) → a.link ≡ link → a.place ≡ place → a.row ≡ row
    → a ≡ record { link = link; place = place; row = row }
asking_is a link place row of at is =
    ap (λ (l : Link). record { link = l; place = a.place; row = a.row }) of
    ∙ ap (λ (p : ℕ). record { link = link; place = p; row = a.row }) at
    ∙ ap (λ (r : AcceptedRow). record { link = link; place = place; row = r }) is

-- asked for by this link at this place
pub single_placed : (link : Link) (place : ℕ) (rows : List AcceptedRow) → IsSingle rows
    → ArePlaced (λ l p r. (l ≡ link) × (p ≡ place) × Contains rows r) rows
single_placed link place [] single =
    none_placed (λ l p r. (l ≡ link) × (p ≡ place) × Contains [] r) (λ l p r asks. empty_has r asks.2)
single_placed link place (row ∷ []) single = record {
  askings = record { link = link; place = place; row = row } ∷ [];
  listed = refl;
  ascend = (tt, tt);
  asked = λ a.
      (let one = has_one (record { link = link; place = place; row = row }) a in
      let of = has_one row a.row in (
        (λ has.
            let is = one.0 has in (
              ap (λ (b : Asking). b.link) is,
              ap (λ (b : Asking). b.place) is,
              of.1 (ap (λ (b : Asking). b.row) is),
            )),
        (λ asks. one.1 (asking_is a link place row asks.0 asks.1 (of.0 asks.2))),
      ));
}
single_placed link place (row ∷ other ∷ rows) single = absurd single

-- ---- the rows of each element of a list

-- of the element at this place this holds
abbrev pub OfElement : {X : Type 0} → List X → ℕ → (X → Type 0) → Type 0
OfElement {X} xs place P = (x : X) × (slice_get xs place ≡ Some x) × P x

pub element_as : {X : Type 0} (xs : List X) (place : ℕ) (P Q : X → Type 0) → ((x : X) → P x ↔ Q x)
    → OfElement xs place P ↔ OfElement xs place Q
element_as xs place P Q alike = (
  (λ of. (of.0, of.1, (alike of.0).0 of.2)),
  (λ of. (of.0, of.1, (alike of.0).1 of.2)),
)

module _ {X : Type 0} (link : Link) (f : X → List AcceptedRow) (single : (x : X) → IsSingle (f x)) where
  -- counted from a place on
  abbrev AsksFrom : ℕ → List X → Link → ℕ → AcceptedRow → Type 0
  AsksFrom start xs l p r = (l ≡ link) × (index : ℕ) × (p ≡ start + index) × OfElement xs index (λ x. Contains (f x) r)

  placed_from : (start : ℕ) (xs : List X) → ArePlaced (AsksFrom start xs) (flat_map f xs)
  placed_from start [] = none_placed (AsksFrom start []) (λ l p r asks. let wrong = asks.3.1 in cc)
  placed_from start (x ∷ xs) =
      placed_as (λ l p r. First l p r ⊎ AsksFrom (suc start) xs l p r) (AsksFrom start (x ∷ xs))
      (flat_map f (x ∷ xs)) (λ l p r. (to l p r, back l p r))
      (both_placed First (AsksFrom (suc start) xs) (f x) (flat_map f xs) before
      (single_placed link start (f x) (single x)) (placed_from (suc start) xs))
    where
      First : Link → ℕ → AcceptedRow → Type 0
      First l p r = (l ≡ link) × (p ≡ start) × Contains (f x) r

      before : (a b : Asking) → First a.link a.place a.row → AsksFrom (suc start) xs b.link b.place b.row → IsBefore a b
      before a b one other = inr (one.0 ∙ sym other.0, omega (arith, one.1, other.2))

      to : (l : Link) (p : ℕ) (r : AcceptedRow) → First l p r ⊎ AsksFrom (suc start) xs l p r
          → AsksFrom start (x ∷ xs) l p r
      to l p r (inl one) = (one.0, 0, omega (arith, one.1), (x, refl, one.2))
      to l p r (inr later) =
          (later.0, suc later.1, omega (arith, later.2), (later.3.0, later.3.1, later.3.2))

      back : (l : Link) (p : ℕ) (r : AcceptedRow) → AsksFrom start (x ∷ xs) l p r
          → First l p r ⊎ AsksFrom (suc start) xs l p r
      back l p r (is, zero, at, of) =
          inl (is, omega (arith, at), subst (λ (y : X). Contains (f y) r) (sym (some_is x of.0 of.1)) of.2)
      back l p r (is, suc index, at, of) = inr (is, index, omega (arith, at), of)

  pub elements_placed : (xs : List X)
      → ArePlaced (λ l p r. (l ≡ link) × OfElement xs p (λ x. Contains (f x) r)) (flat_map f xs)
  elements_placed xs =
      placed_as (AsksFrom 0 xs) (λ l p r. (l ≡ link) × OfElement xs p (λ x. Contains (f x) r)) (flat_map f xs)
      (λ l p r. (
        (λ asks. (
          asks.0,
          subst (λ (n : ℕ). OfElement xs n (λ x. Contains (f x) r))
              (let at : p ≡ asks.1 = omega (arith, asks.2) in sym at) asks.3,
        )),
        (λ of. (of.0, p, omega arith, of.1)),
      )) (placed_from 0 xs)
