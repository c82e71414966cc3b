-- Cutting a text, as the checkpoint format does it: marks trimmed at its ends, and the parts between separators.
-- Each cut is a relation that puts the text together again, beside a function on bytes that finds it.
use Rattle.std.specs.Prelude.{◌≡◌, ◌≢◌, ℕ, zero, suc, ◌≤◌, ◌==◌, if◌then◌else◌, List, [], ◌∷◌, ◌++◌, length, reverse}
use Rattle.std.specs.Prelude.{replicate, Option, Some, None, option_map}

-- the text is the body between marks, with all of them: the body neither begins nor ends with a mark
pub record IsTrimmed (mark : ℕ) (text body : List ℕ) : Type 0 where
  pub before : ℕ
  pub after : ℕ
  pub whole : text ≡ replicate before mark ++ (body ++ replicate after mark)
  pub front : (rest : List ℕ) → body ≢ mark ∷ rest
  pub back : (rest : List ℕ) → body ≢ rest ++ mark ∷ []

-- the separator is nowhere in the text
abbrev pub Lacks : List ℕ → List ℕ → Type 0
Lacks separator text = (before after : List ℕ) → text ≢ before ++ (separator ++ after)

-- the text is what is before the first separator, the separator, and what is after it
pub record IsCut (separator text before after : List ℕ) : Type 0 where
  pub whole : text ≡ before ++ (separator ++ after)
  pub first : (front back : List ℕ) → text ≡ front ++ (separator ++ back) → length before ≤ length front

-- the text is these parts with a separator between each two, cut from the left
abbrev pub IsParts : List ℕ → List ℕ → List (List ℕ) → Type 0
IsParts separator text [] = ⊥
IsParts separator text (part ∷ []) = (text ≡ part) × Lacks separator text
IsParts separator text (part ∷ next ∷ parts_between) =
    (rest : List ℕ) × IsCut separator text part rest × IsParts separator rest (next ∷ parts_between)

-- the text without the marks at its front, and at both its ends
abbrev pub without_front : ℕ → List ℕ → List ℕ
without_front mark [] = []
without_front mark (b ∷ bs) = if b == mark then without_front mark bs else b ∷ bs

unfoldable pub without_back : ℕ → List ℕ → List ℕ
without_back mark text = reverse (without_front mark (reverse text))

unfoldable pub trimmed : ℕ → List ℕ → List ℕ
trimmed mark text = without_back mark (without_front mark text)

-- what is after the separator, where the text begins with it
abbrev pub after_separator : List ℕ → List ℕ → Option (List ℕ)
after_separator [] text = Some text
after_separator (s ∷ separator) [] = None
after_separator (s ∷ separator) (b ∷ bs) = if s == b then after_separator separator bs else None

-- the cut here, or else the one further on after the byte
abbrev pub cut_here : ℕ → Option (List ℕ) → Option (List ℕ × List ℕ) → Option (List ℕ × List ℕ)
cut_here b (Some after) later = Some ([], after)
cut_here b None later = option_map (λ (cut : List ℕ × List ℕ). (b ∷ cut.0, cut.1)) later

-- what is before and after the first separator, where there is one
unfoldable pub cut_at : List ℕ → List ℕ → Option (List ℕ × List ℕ)
cut_at separator [] = None
cut_at separator (b ∷ bs) = cut_here b (after_separator separator (b ∷ bs)) (cut_at separator bs)

-- the part before the cut, and then those of what is after it
abbrev pub parts_of_cut : List ℕ → (List ℕ → List (List ℕ)) → Option (List ℕ × List ℕ) → List (List ℕ)
parts_of_cut text more None = text ∷ []
parts_of_cut text more (Some cut) = cut.0 ∷ more cut.1

-- the parts between separators, of which at most this number count
unfoldable pub parts_within : ℕ → List ℕ → List ℕ → List (List ℕ)
parts_within zero separator text = text ∷ []
parts_within (suc most) separator text = parts_of_cut text (parts_within most separator) (cut_at separator text)

-- the parts between the separators. No text has more separators than bytes
unfoldable pub parts_between : List ℕ → List ℕ → List (List ℕ)
parts_between separator text = parts_within (length text) separator text
