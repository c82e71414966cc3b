-- A text that is shown: whole, or cut before the last character that has no room.
use Rattle.std.proofs.Common.{◌≡◌, ℕ, zero, suc, ◌<◌, ◌≤◌, List, length, take, get_or, refl, sym, subst, inl, inr, true, false, arith}
use Rattle.std.proofs.lemmas.Bool.{cases_lt, le-leb, lt-leb, lt-ltb, le-ltb}
use Rattle.std.specs.Fmt.{is_char_start}
use Rattle.std.specs.Fmt.Cut.{floor_char_boundary}
use Rattle.std.specs.Prelude.{IsCharBoundary}
use Rattle.sig_shown.specs.ShownValues.{most_shown, shown}

-- the last boundary of characters up to an index
pub record IsLastBoundary (text : List ℕ) (most kept : ℕ) : Type 0 where
  pub bound : kept ≤ most
  pub boundary : IsCharBoundary text kept
  pub nearest : (i : ℕ) → kept < i → i ≤ most → ¬ (IsCharBoundary text i)

starts : (b : ℕ) → (128 ≤ b → 192 ≤ b) → is_char_start b ≡ true
starts b h = elim (cases_lt b 128) [
  | inl low ↦ rw (lt-ltb b 128 low) refl
  | inr high ↦ rw (le-ltb b 128 high, le-leb 192 b (h high)) refl
]

continues : (b : ℕ) → ¬ (128 ≤ b → 192 ≤ b) → is_char_start b ≡ false
continues b h = elim (cases_lt b 128) [
  | inl low ↦ absurd (h (λ high. absurd (omega arith)))
  | inr high ↦ elim (cases_lt b 192) [
    | inl mid ↦ rw (le-ltb b 128 high, lt-leb 192 b mid) refl
    | inr top ↦ absurd (h (λ _. top))
  ]
]

boundary_is : (text : List ℕ) (most kept : ℕ) → most < length text → IsLastBoundary text most kept
    → floor_char_boundary text most ≡ kept
unfolding floor_char_boundary
boundary_is text zero kept within last = omega (arith, last.bound)
boundary_is text (suc most) kept within last =
    elim (cases_lt kept (suc most)) [
      | inl below ↦ rw (continues (get_or text (suc most) 0) (λ h. last.nearest (suc most) below (omega arith) (omega arith, λ _. h)))
          (boundary_is text most kept (omega arith)
          (record { bound = omega arith; boundary = last.boundary; nearest = λ i above most_i. last.nearest i above (omega arith) }))
      | inr above ↦
          let same : kept ≡ suc most = omega (arith, last.bound) in
          rw (starts (get_or text (suc most) 0) ((subst (IsCharBoundary text) same last.boundary).1 within)) (sym same)
    ]

pub shown-whole : (text : List ℕ) → length text ≤ most_shown → shown text ≡ text
unfolding shown
shown-whole text fits = rw (le-leb (length text) most_shown fits) refl

pub shown-cut : (text part : List ℕ) (kept : ℕ) → most_shown < length text → IsLastBoundary text most_shown kept
    → part ≡ take kept text → part ≡ shown text
unfolding shown
shown-cut text part kept long last e =
    rw (lt-leb (length text) most_shown long, boundary_is text most_shown kept long last) e
