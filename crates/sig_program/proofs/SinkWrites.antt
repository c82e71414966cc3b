-- What a sink takes over several writes.
use Rattle.std.proofs.Common.{◌≡◌, ℕ, ◌+◌, List, [], ◌∷◌, ◌++◌, Option, None, Some, ◌∙◌, ap, append_assoc, sym, subst}
use Rattle.std.proofs.Common.{take, drop, take-append-drop}
use Rattle.std.proofs.lemmas.List.{append-nil}
use Rattle.std.proofs.Math.Seq.{take-add}
use Rattle.std.specs.Io.KnownBytes.{Appends, Keeps}
use Rattle.std.specs.List.{AllByRecursion}
use Rattle.sig_base.specs.Stream.{Hands}
use Rattle.sig_program.specs.Run.{IsRestOf, HandsRests}

-- nothing is written at first
pub Appends-none : (taken : Option (List ℕ)) → Appends taken taken []
Appends-none None = tt
Appends-none (Some xs) = sym (append-nil xs)

-- two writes add the bytes of both
pub Appends-more : (a b c : Option (List ℕ)) (xs ys : List ℕ) → Appends a b xs → Appends b c ys
    → Appends a c (xs ++ ys)
Appends-more None b c xs ys p q = tt
Appends-more (Some first) None c xs ys p q = elim p [ ]
Appends-more (Some first) (Some second) None xs ys p q = elim q [ ]
Appends-more (Some first) (Some second) (Some third) xs ys p q =
    q ∙ ap (λ t. t ++ ys) p ∙ append_assoc first xs ys

-- so two fronts make one
pub Appends-take : (a b c : Option (List ℕ)) (n m : ℕ) (xs : List ℕ)
    → Appends a b (take n xs) → Appends b c (take m (drop n xs)) → Appends a c (take (n + m) xs)
Appends-take a b c n m xs p q =
    subst (Appends a c) (sym (take-add n m xs)) (Appends-more a b c (take n xs) (take m (drop n xs)) p q)

-- a write that fails adds nothing
pub Appends-kept : (a b c : Option (List ℕ)) (xs : List ℕ) → Appends a b xs → Keeps b c → Appends a c xs
Appends-kept None b c xs p q = tt
Appends-kept (Some first) None c xs p q = elim p [ ]
Appends-kept (Some first) (Some second) None xs p q = elim q [ ]
Appends-kept (Some first) (Some second) (Some third) xs p q = q ∙ p

-- nothing is handed over at first, and then a rest of the bytes
pub HandsRests-none : (handed : Option (List (List ℕ))) (bytes : List ℕ) → HandsRests handed handed bytes
HandsRests-none None bytes = tt
HandsRests-none (Some before) bytes = ([], ap Some (sym (append-nil before)), tt)

rests-more : (bytes : List ℕ) (pieces : List (List ℕ)) (n : ℕ) → AllByRecursion (IsRestOf bytes) pieces
    → AllByRecursion (IsRestOf bytes) (pieces ++ drop n bytes ∷ [])
rests-more bytes [] n all = ((take n bytes, sym (take-append-drop n bytes)), tt)
rests-more bytes (piece ∷ pieces) n all = (all.0, rests-more bytes pieces n all.1)

pub HandsRests-more : (a b c : Option (List (List ℕ))) (bytes : List ℕ) (n : ℕ) → HandsRests a b bytes
    → Hands b c (drop n bytes) → HandsRests a c bytes
HandsRests-more None b c bytes n before now = tt
HandsRests-more (Some first) None c bytes n before now = let f = before.1 in cc
HandsRests-more (Some first) (Some second) c bytes n before now =
    let same : second ≡ first ++ before.0 = (let f = before.1 in cc) in (
      before.0 ++ drop n bytes ∷ [],
      now ∙ ap (λ t. Some (t ++ drop n bytes ∷ [])) same
          ∙ ap Some (append_assoc first before.0 (drop n bytes ∷ [])),
      rests-more bytes before.0 n before.2,
    )

pub ruleset turns = (Appends-none, Appends-take, Appends-kept, HandsRests-none, HandsRests-more)
