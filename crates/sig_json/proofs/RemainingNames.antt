-- A name that is looked for among others from the first on.
use Rattle.std.proofs.Common.{◌≡◌, ◌||◌, ℕ, ◌+◌, ◌<◌, List, length, drop, get_or, Bool, Bor, true, false}
use Rattle.std.proofs.Common.{refl, sym, ap, ◌∙◌}
use Rattle.std.proofs.lemmas.List.{at_drop_more}
use Rattle.std.proofs.lemmas.Slice.Eq.{bytes_eq-Decides}
use Rattle.std.specs.Str.{bytes_eq}
use Rattle.sig_json.proofs.Lists.{none_left}
use Rattle.sig_json.specs.Only.{is_among, names_of}

name_next : (listed : List (Bor (List ℕ))) (name : List ℕ) (i : ℕ) (one : Bor (List ℕ)) → i < length listed
    → one ≡ get_or listed i one → is_among (names_of (drop i listed)) name
    ≡ (bytes_eq one.now name || is_among (names_of (drop (i + 1) listed)) name)
name_next listed name i one h is =
    at_drop_more (λ left. is_among (names_of left) name) listed i one h
    ∙ ap (λ other. bytes_eq other.now name || is_among (names_of (drop (i + 1) listed)) name) (sym is)

pub name_here : (found : Bool) (listed : List (Bor (List ℕ))) (name : List ℕ) (i : ℕ) (one : Bor (List ℕ))
    → i < length listed → one ≡ get_or listed i one → true ≡ bytes_eq one.now name
    → found ≡ is_among (names_of (drop i listed)) name → true ≡ found
name_here found listed name i one h is same so_far =
    sym (so_far ∙ rw (name_next listed name i one h is, ← same) refl)

pub name_later : (found : Bool) (listed : List (Bor (List ℕ))) (name : List ℕ) (i : ℕ) (one : Bor (List ℕ))
    → i < length listed → one ≡ get_or listed i one → false ≡ bytes_eq one.now name
    → found ≡ is_among (names_of (drop i listed)) name → found ≡ is_among (names_of (drop (i + 1) listed)) name
name_later found listed name i one h is differ so_far =
    so_far ∙ rw (name_next listed name i one h is, ← differ) refl

pub name_nowhere : (found : Bool) (listed : List (Bor (List ℕ))) (name : List ℕ) (i : ℕ) → i ≡ length listed
    → found ≡ is_among (names_of (drop i listed)) name → false ≡ found
name_nowhere found listed name i end so_far = sym (so_far ∙ rw (none_left listed i end) refl)

pub ruleset names = (name_here, name_later, name_nowhere)

-- ---- two names

apart : (b : Bool) → (b ≡ true → ⊥) → false ≡ b
apart true never = absurd (never refl)
apart false never = refl

pub other_length : (name other : List ℕ) → (length name ≡ length other → ⊥) → false ≡ bytes_eq name other
other_length name other differ =
    apart (bytes_eq name other) (λ same. differ (ap length ((bytes_eq-Decides name other).0 same)))

pub other_first : (name other : List ℕ) → (get_or name 0 0 ≡ get_or other 0 0 → ⊥) → false ≡ bytes_eq name other
other_first name other differ =
    apart (bytes_eq name other) (λ same. differ (ap (λ s. get_or s 0 0) ((bytes_eq-Decides name other).0 same)))

pub ruleset two_names = (other_length, other_first)
