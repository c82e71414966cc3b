-- The places of signers and of pairs.
use Rattle.std.proofs.Common.{◌≡◌, ℕ, zero, suc, ◌+◌, ◌*◌, ◌-◌, ◌<◌, Bool, true, false, List, [], ◌∷◌, ◌++◌, length}
use Rattle.std.proofs.Common.{map, flat_map, Option, Some, None, slice_get, refl, sym, ap, subst, ◌∙◌, arith, inl, inr}
use Rattle.std.proofs.Math.Nat.{suc-mul}
use Rattle.std.proofs.lemmas.Bool.{cases_lt}
use Rattle.std.proofs.lemmas.List.{length-append}
use Rattle.std.proofs.lemmas.Option.{slice_get_within}
use Rattle.std.specs.Prelude.{◌↔◌}
use Rattle.sig_base.proofs.OptionSteps.{some_is}
use Rattle.sig_certificate.specs.Certificate.{Cert}
use Rattle.sig_checked_bundle.specs.Checked.{Checked}
use Rattle.sig_verify.specs.CertificateLinks.{Trust}
use Rattle.sig_x509.specs.Pool.{present}
use Rattle.sig_questions.specs.Lists.{Side, signers}
use Rattle.sig_questions.specs.Places.{IsSignedAt, IsSignerAt, PairsAreInOrder, SignersAreInOrder}

-- ---- an element of a list that is two, or whose elements were made

left_at : {A : Type 0} → (xs ys : List A) (n : ℕ) → n < length xs → slice_get (xs ++ ys) n ≡ slice_get xs n
left_at [] ys n below = absurd (omega (arith, below))
left_at (x ∷ xs) ys zero below = refl
left_at (x ∷ xs) ys (suc n) below = left_at xs ys n (omega (arith, below))

right_at : {A : Type 0} → (xs ys : List A) (n : ℕ) → slice_get (xs ++ ys) (length xs + n) ≡ slice_get ys n
right_at [] ys n = ap (λ (k : ℕ). slice_get ys k) (omega arith)
right_at (x ∷ xs) ys n =
    let more : length (x ∷ xs) + n ≡ suc (length xs + n) = omega arith in
    ap (λ (k : ℕ). slice_get (x ∷ xs ++ ys) k) more ∙ right_at xs ys n

made_at : {A B : Type 0} → (f : A → B) (xs : List A) (n : ℕ) (y : B) → slice_get (map f xs) n ≡ Some y
    → (x : A) × (slice_get xs n ≡ Some x) × (f x ≡ y)
made_at f [] n y e = absurd cc
made_at f (x ∷ xs) zero y e = (x, refl, some_is (f x) y e)
made_at f (x ∷ xs) (suc n) y e = made_at f xs n y e

at_made : {A B : Type 0} → (f : A → B) (xs : List A) (n : ℕ) (x : A) → slice_get xs n ≡ Some x
    → slice_get (map f xs) n ≡ Some (f x)
at_made f [] n x e = absurd cc
at_made f (x ∷ xs) zero y e = ap (λ v. Some (f v)) (some_is x y e)
at_made f (x ∷ xs) (suc n) y e = at_made f xs n y e

length_made : {A B : Type 0} → (f : A → B) (xs : List A) → length (map f xs) ≡ length xs
length_made f [] = refl
length_made f (x ∷ xs) = ap suc (length_made f xs)

-- ---- the signers

abbrev as_anchor : Cert → Side
as_anchor x = (true, x)

abbrev as_further : Cert → Side
as_further x = (false, x)

abbrev sides : List Cert → List Cert → List Side
sides anchors fs = map as_anchor anchors ++ map as_further fs

abbrev IsSideAt : List Cert → List Cert → ℕ → Bool → Cert → Type 0
IsSideAt anchors fs n true x = slice_get anchors n ≡ Some x
IsSideAt anchors fs n false x = (index : ℕ) × (n ≡ length anchors + index) × (slice_get fs index ≡ Some x)

one_further : (a : Cert) (anchors fs : List Cert) (n : ℕ) (b : Bool) (x : Cert) → IsSideAt anchors fs n b x
    → IsSideAt (a ∷ anchors) fs (suc n) b x
one_further a anchors fs n true x is = is
one_further a anchors fs n false x is = let same : n ≡ length anchors + is.0 = is.1 in (is.0, omega (arith, same), is.2)

side_at : (anchors fs : List Cert) (n : ℕ) (side : Side) → slice_get (sides anchors fs) n ≡ Some side
    → IsSideAt anchors fs n side.0 side.1
side_at [] fs n side e =
    let made = made_at as_further fs n side e in
    subst (λ (s : Side). IsSideAt [] fs n s.0 s.1) made.2 (n, omega arith, made.1)
side_at (a ∷ anchors) fs zero side e =
    subst (λ (s : Side). IsSideAt (a ∷ anchors) fs zero s.0 s.1) (some_is (true, a) side e) refl
side_at (a ∷ anchors) fs (suc n) side e = one_further a anchors fs n side.0 side.1 (side_at anchors fs n side e)

at_side : (anchors fs : List Cert) (n : ℕ) (b : Bool) (x : Cert) → IsSideAt anchors fs n b x
    → slice_get (sides anchors fs) n ≡ Some (b, x)
at_side anchors fs n true x is =
    let made : length (map as_anchor anchors) ≡ length anchors = length_made as_anchor anchors in
    let below : n < length anchors = slice_get_within anchors n x is in
    left_at (map as_anchor anchors) (map as_further fs) n (omega (arith, made, below))
    ∙ at_made as_anchor anchors n x is
at_side anchors fs n false x is =
    let made : length (map as_anchor anchors) ≡ length anchors = length_made as_anchor anchors in
    ap (λ (k : ℕ). slice_get (sides anchors fs) k) (is.1 ∙ ap (λ (k : ℕ). k + is.0) (sym made))
    ∙ right_at (map as_anchor anchors) (map as_further fs) is.0
    ∙ at_made as_further fs is.0 x is.2

same_side : (trust : Trust) (c : Checked) (n : ℕ) (b : Bool) (x : Cert)
    → IsSideAt trust.anchors c.further n b x ↔ IsSignerAt n trust c b x
same_side trust c n true x = (λ is. is, λ is. is)
same_side trust c n false x = (λ is. is, λ is. is)

pub signer_places : SignersAreInOrder
signer_places trust c n side = (
  λ e. (same_side trust c n side.0 side.1).0 (side_at trust.anchors c.further n side e),
  λ is. at_side trust.anchors c.further n side.0 side.1 ((same_side trust c n side.0 side.1).1 is),
)

-- ---- the pairs

module _ {Y S : Type 0} where
  abbrev row : List S → Y → List (Y × S)
  row ss y = map (λ s. (y, s)) ss

  abbrev grid : List Y → List S → List (Y × S)
  grid ys ss = flat_map (row ss) ys

  abbrev IsCellAt : List Y → List S → ℕ → Y × S → Type 0
  IsCellAt ys ss n cell =
      (i j : ℕ) × (n ≡ i * length ss + j) × (slice_get ys i ≡ Some cell.0) × (slice_get ss j ≡ Some cell.1)

  cell_at : (ys : List Y) (ss : List S) (n : ℕ) (cell : Y × S) → slice_get (grid ys ss) n ≡ Some cell
      → IsCellAt ys ss n cell
  cell_at [] ss n cell e = absurd cc
  cell_at (y ∷ ys) ss n cell e =
      let made : length (row ss y) ≡ length ss = length_made (λ s. (y, s)) ss in
      elim (cases_lt n (length (row ss y))) [
        | inl below ↦
            let here = made_at (λ s. (y, s)) ss n cell (sym (left_at (row ss y) (grid ys ss) n below) ∙ e) in
            subst (λ (p : Y × S). IsCellAt (y ∷ ys) ss n p) here.2 (0, n, omega arith, refl, here.1)
        | inr past ↦
            let k : ℕ = n - length (row ss y) in
            let split : n ≡ length (row ss y) + k = omega (arith, past) in
            let rest = cell_at ys ss k cell
            (sym (right_at (row ss y) (grid ys ss) k)
            ∙ sym (ap (λ (m : ℕ). slice_get (grid (y ∷ ys) ss) m) split) ∙ e) in
            let times : suc rest.0 * length ss ≡ rest.0 * length ss + length ss = suc-mul rest.0 (length ss) in
            let inner : k ≡ rest.0 * length ss + rest.1 = rest.2 in
            (suc rest.0, rest.1, omega (arith, times, inner, split, made), rest.3, rest.4)
      ]

  at_cell : (ys : List Y) (ss : List S) (i j n : ℕ) (cell : Y × S) → n ≡ i * length ss + j
      → slice_get ys i ≡ Some cell.0 → slice_get ss j ≡ Some cell.1 → slice_get (grid ys ss) n ≡ Some cell
  at_cell [] ss i j n cell is signed signer = absurd cc
  at_cell (y ∷ ys) ss zero j n cell is signed signer =
      let made : length (row ss y) ≡ length ss = length_made (λ s. (y, s)) ss in
      let within : j < length ss = slice_get_within ss j cell.1 signer in
      let same : n ≡ j = omega (arith, is) in
      let first : y ≡ cell.0 = some_is y cell.0 signed in
      ap (λ (m : ℕ). slice_get (grid (y ∷ ys) ss) m) same
      ∙ left_at (row ss y) (grid ys ss) j (omega (arith, within, made))
      ∙ at_made (λ s. (y, s)) ss j cell.1 signer
      ∙ ap (λ (z : Y). Some (z, cell.1)) first
  at_cell (y ∷ ys) ss (suc i) j n cell is signed signer =
      let made : length (row ss y) ≡ length ss = length_made (λ s. (y, s)) ss in
      let times : suc i * length ss ≡ i * length ss + length ss = suc-mul i (length ss) in
      let split : n ≡ length (row ss y) + (i * length ss + j) = omega (arith, times, is, made) in
      ap (λ (m : ℕ). slice_get (grid (y ∷ ys) ss) m) split
      ∙ right_at (row ss y) (grid ys ss) (i * length ss + j)
      ∙ at_cell ys ss i j (i * length ss + j) cell refl signed signer

-- the certificate itself, and then the further ones
signed_at : (c : Checked) (i : ℕ) (y : Option Cert) → slice_get (None ∷ present c.further) i ≡ Some y → IsSignedAt i c y
signed_at c zero y e = subst (λ (o : Option Cert). IsSignedAt zero c o) (some_is None y e) refl
signed_at c (suc i) y e =
    let made = made_at (λ (x : Cert). Some x) c.further i y e in
    subst (λ (o : Option Cert). IsSignedAt (suc i) c o) made.2 (i, omega arith, made.1)

at_signed : (c : Checked) (i : ℕ) (y : Option Cert) → IsSignedAt i c y → slice_get (None ∷ present c.further) i ≡ Some y
at_signed c i None is = ap (λ (k : ℕ). slice_get (None ∷ present c.further) k) is
at_signed c i (Some y) is =
    let next : i ≡ suc is.0 = omega (arith, is.1) in
    ap (λ (k : ℕ). slice_get (None ∷ present c.further) k) next ∙ at_made (λ (x : Cert). Some x) c.further is.0 y is.2

count : (trust : Trust) (c : Checked) → length (signers trust c) ≡ length trust.anchors + length c.further
count trust c =
    length-append (map as_anchor trust.anchors) (map as_further c.further)
    ∙ ap (λ (n : ℕ). n + length (map as_further c.further)) (length_made as_anchor trust.anchors)
    ∙ ap (λ (n : ℕ). length trust.anchors + n) (length_made as_further c.further)

pub pair_places : PairsAreInOrder
pair_places trust c n pair = (
  λ e.
      let cell = cell_at (None ∷ present c.further) (signers trust c) n pair e in (
        cell.0,
        cell.1,
        cell.2 ∙ ap (λ (m : ℕ). cell.0 * m + cell.1) (count trust c),
        signed_at c cell.0 pair.0 cell.3,
        (signer_places trust c cell.1 pair.1).0 cell.4,
      ),
  λ is. at_cell (None ∷ present c.further) (signers trust c) is.0 is.1 n pair
      (is.2 ∙ sym (ap (λ (m : ℕ). is.0 * m + is.1) (count trust c)))
      (at_signed c is.0 pair.0 is.3) ((signer_places trust c is.1 pair.1).1 is.4),
)
