-- The audit path of an entry of a list, PATH of RFC 6962 section 2.1.1: the hashes of the halves
-- that the entry is not in, the smallest one first.
--
-- As `root`, this goes down by levels. The law `audit_paths` states the standard's own recursion.
use Rattle.std.specs.Prelude.{◌≡◌, ℕ, zero, suc, ◌-◌, ◌^◌, List, [], ◌∷◌, ◌++◌, length, take, drop, nat_lt}
use Rattle.std.specs.Prelude.{if◌then◌else◌}
use Rattle.sig_merkle.specs.Root.{root}
use Rattle.sig_merkle.specs.Split.{IsSplit}

-- the path of the entry at the index, of at most 2 ^ level entries
unfoldable pub audit_path_at : ℕ → ℕ → List (List ℕ) → List (List ℕ)
audit_path_at zero index entries = []
audit_path_at (suc level) index entries =
    if nat_lt (2 ^ level) (length entries)
    then (if nat_lt index (2 ^ level)
    then audit_path_at level index (take (2 ^ level) entries) ++ root (drop (2 ^ level) entries) ∷ []
    else audit_path_at level (index - 2 ^ level) (drop (2 ^ level) entries) ++ root (take (2 ^ level) entries) ∷ [])
    else audit_path_at level index entries

-- the path of the entry at the index
unfoldable pub audit_path : ℕ → List (List ℕ) → List (List ℕ)
audit_path index entries = audit_path_at (length entries) index entries

-- the halves of the entries, where the tree of them is cut in two
pub record AreHalves (entries left right : List (List ℕ)) : Type 0 where
  pub split : IsSplit (length entries) (length left)
  pub front : left ≡ take (length left) entries
  pub back : right ≡ drop (length left) entries
