-- The intermediates that may have signed a certificate of a path, and how they are found by their names.
use Rattle.std.specs.Prelude.{◌≡◌, ℕ, zero, suc, ◌<◌, ℤ, List, length, map, slice_get, Contains, get_or, Bool, true}
use Rattle.std.specs.Prelude.{false, ◌&&◌}
use Rattle.std.specs.Prelude.{Option, Some, None, if◌then◌else◌}
use Rattle.std.specs.Borrow.{Bor}
use Rattle.std.specs.BTreeMap.{BTreeMap, get_by}
use Rattle.std.specs.Cmp.Lexicographic.{slice_cmp}
use Rattle.std.specs.Ordering.{nat_cmp}
use Rattle.std.specs.Str.{bytes_eq}
use Rattle.sig_certificate.specs.Certificate.{Cert}
use Rattle.sig_x509.specs.Issuance.{Accepts, is_signed_by}
use Rattle.sig_x509.specs.PathSearch.{may_issue, of_read}
use Rattle.sig_x509.specs.Pool.{Pool, intermediate_in}

-- ---- the candidates

-- the certificate, if it may issue at the time t
abbrev pub if_may_issue : ℤ → Option Cert → Option Cert
if_may_issue t None = None
if_may_issue t (Some x) = if may_issue t x then Some x else None

-- what was borrowed
abbrev pub seen : Option (Bor Cert) → Option Cert
seen None = None
seen (Some x) = Some x.now

abbrev pub all_seen : List (Option (Bor Cert)) → List (Option Cert)
all_seen listed = map seen listed

-- each intermediate at its index, absent if it may not issue
abbrev pub candidates_of : Pool → ℤ → List (Option Cert)
candidates_of pool t = map (if_may_issue t) pool.intermediates

-- ---- an index over their subjects

abbrev pub has_subject : List ℕ → Option (Option Cert) → Bool
has_subject name o = of_read (λ x. bytes_eq x.subject name) (intermediate_in o)

-- the last of the first `count` of them that has the name
abbrev pub last_named : List (Option Cert) → ℕ → List ℕ → Option ℕ
last_named listed zero name = None
last_named listed (suc count) name =
    if has_subject name (slice_get listed count) then Some count else last_named listed count name

abbrev pub named_in : BTreeMap (Bor (List ℕ)) ℕ → List ℕ → Option ℕ
named_in last name = get_by (λ k. slice_cmp nat_cmp name k.now) last

-- `last` has the last one of each name, and `earlier` has at each index the one before it of the same name
pub record IsIndexOf (listed : List (Option Cert)) (count : ℕ) (last : BTreeMap (Bor (List ℕ)) ℕ)
    (earlier : List (Option ℕ)) : Type 0 where
  pub names : (name : List ℕ) → named_in last name ≡ last_named listed count name
  pub size : length earlier ≡ count
  pub before : (k : ℕ) (x : Cert) → k < count → slice_get listed k ≡ Some (Some x)
      → slice_get earlier k ≡ Some (last_named listed k x.subject)

-- ---- the signers

-- the candidate at the index signed c
abbrev pub is_signer : Accepts → Cert → List (Option Cert) → ℕ → Bool
is_signer accepts c listed k = of_read (is_signed_by accepts c) (intermediate_in (slice_get listed k))

-- the indices of those that signed c
pub record AreSigners (accepts : Accepts) (c : Cert) (listed : List (Option Cert)) (signers : List ℕ) : Type 0 where
  pub each : (k : ℕ) → Contains signers k → is_signer accepts c listed k ≡ true
  pub all : (k : ℕ) → is_signer accepts c listed k ≡ true → Contains signers k

-- ---- the first that leads

-- the first index below the count that passes
abbrev pub IsFirstPlace : (ℕ → Bool) → ℕ → Option ℕ → Type 0
IsFirstPlace passes count None = (k : ℕ) → k < count → passes k ≡ false
IsFirstPlace passes count (Some i) = (i < count) × (passes i ≡ true) × ((k : ℕ) → k < i → passes k ≡ false)

-- the intermediate at the index signed c, and leads to a trust anchor
abbrev pub is_leading : Accepts → Cert → List (Option Cert) → List Bool → ℕ → Bool
is_leading accepts c intermediates row k = get_or row k false && is_signer accepts c intermediates k
