-- Numbers are bytes one by one if and only if the number at each index is one.
use Rattle.std.proofs.Common.{ℕ, zero, suc, ◌<◌, List, [], ◌∷◌, get_or, slice_index, arith}
use Rattle.sig_base.specs.ByteLists.{AreBytes}

pub each_byte : (bytes : List ℕ) → ((i : ℕ) → slice_index bytes i < 256) → AreBytes bytes
each_byte [] all = tt
each_byte (b ∷ bytes) all = (all 0, each_byte bytes (λ i. all (suc i)))

pub byte_at : (bytes : List ℕ) → AreBytes bytes → (i : ℕ) → get_or bytes i 0 < 256
byte_at [] are i = omega arith
byte_at (b ∷ bytes) are zero = are.0
byte_at (b ∷ bytes) are (suc i) = byte_at bytes are.1 i
