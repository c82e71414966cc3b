-- Two different byte strings of one SHA-256.
use Rattle.std.specs.Prelude.{◌≡◌, ◌≢◌, ℕ, List}
use Rattle.sig_base.specs.Sha256.{sha256}

pub record IsCollision (left right : List ℕ) : Type 0 where
  pub differ : left ≢ right
  pub same_hash : sha256 left ≡ sha256 right
