-- The steps of a comparison by several parts.
use Rattle.std.proofs.Common.{◌≡◌, ◌≢◌, refl}
use Rattle.std.specs.declared.cmp.Ordering.{Ordering}
use Rattle.std.specs.declared.cmp.Ordering.TheVariants.{Less, Equal, Greater}
use Rattle.std.specs.Ordering.{ordering_then}

-- a part that differs decides
pub unequal_decides : (o p : Ordering) → o ≢ Equal → ordering_then o p ≡ o
unequal_decides Less p n = refl
unequal_decides Equal p n = absurd (n refl)
unequal_decides Greater p n = refl

-- a part that ties leaves it to the next
pub equal_passes : (o p : Ordering) → o ≡ Equal → ordering_then o p ≡ p
equal_passes Less p e = absurd cc
equal_passes Equal p e = refl
equal_passes Greater p e = absurd cc

pub ruleset steps = (unequal_decides, equal_passes)

-- two parts tie where both tie
pub both_tie : (o p : Ordering) → ordering_then o p ≡ Equal → (o ≡ Equal) × (p ≡ Equal)
both_tie Less p e = absurd cc
both_tie Equal p e = (refl, e)
both_tie Greater p e = absurd cc
