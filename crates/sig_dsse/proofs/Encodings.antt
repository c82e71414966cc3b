-- An encoding is read back: its parts are told by the lengths and the spaces.
use Rattle.std.proofs.Common.{◌≡◌, ◌≢◌, ℕ, ◌<◌, ◌^◌, List, [], ◌∷◌, ◌++◌, length, refl, subst, arith}
use Rattle.std.proofs.lemmas.Fmt.{decimal_injective, decimal_is_IsNumeral}
use Rattle.std.proofs.lemmas.List.{append_cancel_left}
use Rattle.std.specs.Char.{digit_value}
use Rattle.std.specs.Fmt.{decimal}
use Rattle.std.specs.List.{AllByRecursion}
use Rattle.std.specs.Prelude.{codes}
use Rattle.std.specs.Str.Parse.{AllDigits}
use Rattle.sig_dsse.specs.Pae.{pae, PaeIsInjective}

-- without a space
abbrev HasNoSpace : List ℕ → Type 0
HasNoSpace t = AllByRecursion (λ b. b ≢ 32) t

digits-spaceless : (ds : List ℕ) → AllDigits 10 ds → HasNoSpace ds
digits-spaceless [] all = tt
digits-spaceless (d ∷ ds) all = (apart d all.0, digits-spaceless ds all.1) where
  apart : (d : ℕ) → digit_value d < 10 → d ≢ 32
  apart d small same = let f = subst (λ x. digit_value x < 10) same small in omega arith

decimal-spaceless : (n : ℕ) → n < 2 ^ 64 → HasNoSpace (decimal n)
decimal-spaceless n small = digits-spaceless (decimal n) (decimal_is_IsNumeral n small).0.1

-- what stands before the first space, and after it
at_space : (a b rest other : List ℕ) → HasNoSpace a → HasNoSpace b → a ++ 32 ∷ rest ≡ b ++ 32 ∷ other
    → (a ≡ b) × (rest ≡ other)
at_space [] [] rest other free free_too same = (refl, cc)
at_space [] (y ∷ b) rest other free free_too same = absurd (free_too.0 (let f : y ≡ 32 = cc in f))
at_space (x ∷ a) [] rest other free free_too same = absurd (free.0 (let f : x ≡ 32 = cc in f))
at_space (x ∷ a) (y ∷ b) rest other free free_too same =
    let tails : a ++ 32 ∷ rest ≡ b ++ 32 ∷ other = cc in
    let first : x ≡ y = cc in
    let both = at_space a b rest other free.1 free_too.1 tails in
    (rw (first, both.0) refl, both.1)

-- fronts of one length
at_length : (a b rest other : List ℕ) → length a ≡ length b → a ++ rest ≡ b ++ other → (a ≡ b) × (rest ≡ other)
at_length [] [] rest other lengths same = (refl, same)
at_length [] (y ∷ b) rest other lengths same = absurd (omega arith)
at_length (x ∷ a) [] rest other lengths same = absurd (omega arith)
at_length (x ∷ a) (y ∷ b) rest other lengths same =
    let tails : a ++ rest ≡ b ++ other = cc in
    let first : x ≡ y = cc in
    let both = at_length a b rest other (omega arith) tails in
    (rw (first, both.0) refl, both.1)

pub pae-injective : PaeIsInjective
unfolding pae
pae-injective type_1 payload_1 type_2 payload_2 t1 p1 t2 p2 same =
    let numbered = append_cancel_left (codes "DSSEv1 ") _ _ same in
    let typed = at_space (decimal (length type_1)) (decimal (length type_2)) _ _ (decimal-spaceless (length type_1) t1)
    (decimal-spaceless (length type_2) t2) numbered in
    let types = at_length type_1 type_2 _ _ (decimal_injective (length type_1) (length type_2) t1 t2 typed.0)
    typed.1 in
    let paid = append_cancel_left (codes " ") _ _ types.1 in
    let payloads = at_space (decimal (length payload_1)) (decimal (length payload_2)) _ _
    (decimal-spaceless (length payload_1) p1) (decimal-spaceless (length payload_2) p2) paid in
    (types.0, payloads.1)
