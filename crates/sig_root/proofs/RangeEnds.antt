-- How a range counts, by the order of its ends and the second.
use Rattle.std.proofs.Common.{◌≡◌, ℤ, ◌<ℤ◌, ◌≤ℤ◌, int_le, Bool, true, false, Option, Some, None, refl, arith}
use Rattle.std.proofs.lemmas.Bool.{false_from_ne_true}
use Rattle.std.proofs.lemmas.Int.{ints}
use Rattle.sig_base.proofs.IntOrders.{le_from, le_is}
use Rattle.sig_root.specs.Ranges.{Counts}

not_le : (a b : ℤ) → b <ℤ a → int_le a b ≡ false
not_le a b lt = false_from_ne_true (int_le a b) (λ e. let le = le_from a b e in omega (arith, ints))

pub startless : (now : ℤ) (end : Option ℤ) → Counts now None end true true
startless now end = record { beginning = refl; holding = refl }

pub early : (now start : ℤ) (end : Option ℤ) → now <ℤ start → Counts now (Some start) end false false
early now start end lt = let no = not_le start now lt in record { beginning = no; holding = rw no refl }

pub endless : (now start : ℤ) → start ≤ℤ now → Counts now (Some start) None true true
endless now start le = let yes = le_is start now le in record { beginning = yes; holding = rw yes refl }

pub within : (now start end : ℤ) → start ≤ℤ now → now ≤ℤ end → Counts now (Some start) (Some end) true true
within now start end le more =
    let yes = le_is start now le in
    let lasts = le_is now end more in
    record { beginning = yes; holding = rw (yes, lasts) refl }

pub ended : (now start end : ℤ) → start ≤ℤ now → end <ℤ now → Counts now (Some start) (Some end) true false
ended now start end le over =
    let yes = le_is start now le in
    let past = not_le now end over in
    record { beginning = yes; holding = rw (yes, past) refl }
