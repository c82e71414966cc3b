-- What a source gives over several reads.
use Rattle.std.proofs.Common.{ℕ, ◌≤◌, ◌+◌, List, [], ◌++◌, length, take, Option, None, Some, ◌∙◌, refl, ap}
use Rattle.std.proofs.Common.{append_assoc, length-append, length-take, arith, sym}
use Rattle.std.specs.Io.KnownBytes.{Consumes, Keeps}
use Rattle.sig_base.specs.Stream.{TookAtMost}

-- no byte is taken at first
pub Consumes-none : (left : Option (List ℕ)) → Consumes left left []
Consumes-none None = tt
Consumes-none (Some xs) = refl

-- two reads take the bytes of both
pub Consumes-more : (a b c : Option (List ℕ)) (xs ys : List ℕ) → Consumes a b xs → Consumes b c ys
    → Consumes a c (xs ++ ys)
Consumes-more None b c xs ys p q = tt
Consumes-more (Some first) None c xs ys p q = elim p [ ]
Consumes-more (Some first) (Some second) None xs ys p q = elim q [ ]
Consumes-more (Some first) (Some second) (Some third) xs ys p q =
    p ∙ ap (λ t. xs ++ t) q ∙ sym (append_assoc xs ys third)

-- a read that failed takes nothing
pub Consumes-kept : (a b c : Option (List ℕ)) (xs : List ℕ) → Consumes a b xs → Keeps b c → Consumes a c xs
Consumes-kept None b c xs p kept = tt
Consumes-kept (Some first) None c xs p kept = elim p [ ]
Consumes-kept (Some first) (Some second) None xs p kept = elim kept [ ]
Consumes-kept (Some first) (Some second) (Some third) xs p kept = p ∙ ap (λ t. xs ++ t) (sym kept)

-- the bytes that were taken before and those that a read gave are so many at most
pub TookAtMost-more : (n : ℕ) (a b c : Option (List ℕ)) (xs ys : List ℕ) (count : ℕ) → Consumes a b xs
    → Consumes b c (take count ys)
    → length xs + count ≤ n → TookAtMost n a c
TookAtMost-more n a b c xs ys count before now few = (
  xs ++ take count ys,
  Consumes-more a b c xs (take count ys) before now,
  omega
      (arith, few, length-append xs (take count ys), length-take count ys),
)

pub ruleset turns = (Consumes-none, Consumes-more, Consumes-kept)
