-- Keys of Certificate Transparency logs, as contracts see them.
use Rattle.std.specs.Prelude.{ℕ, List, [], ◌∷◌, Option, Some, None, bytes_eq, if◌then◌else◌}

-- A key: its id, which is the SHA-256 of its SPKI (RFC 6962 section 3.2), and its point.
pub record RingKey : Type 0 where
  pub id : List ℕ
  pub point : List ℕ

-- the point that a ring has for an id, by its entries
abbrev pub point_at : List (List ℕ × RingKey) → List ℕ → Option (List ℕ)
point_at [] id = None
point_at (e ∷ entries) id = if bytes_eq id e.0 then Some e.1.point else point_at entries id
