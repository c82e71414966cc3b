-- The search for a certification path: a table over the place in a path and the intermediate.
use Rattle.std.specs.Prelude.{ℕ, zero, suc, ◌+◌, ◌*◌, ℤ, length, position, nat_le, Bool, true, false, ◌&&◌}
use Rattle.std.specs.Prelude.{◌||◌, Option, Some, None, option_map, Result, Ok, Err, is_none, if◌then◌else◌}
use Rattle.std.specs.List.{list_any}
use Rattle.sig_base.specs.OptionSteps.{or_else}
use Rattle.sig_base.specs.declared.fault.PoolError.{PoolError}
use Rattle.sig_base.specs.declared.fault.PoolError.TheVariants.{Malformed, VerificationFailed}
use Rattle.sig_certificate.specs.declared.values.BasicConstraints.{BasicConstraints as Constraints}
use Rattle.sig_certificate.specs.Certificate.{Cert}
use Rattle.sig_certificate.specs.Profile.{Held, constraints, code_signing, ca_refusal}
use Rattle.sig_x509.specs.Issuance.{Accepts, is_fit, is_issued, is_profiled, is_signed_by, is_within}
use Rattle.sig_x509.specs.Path.{longest_path}
use Rattle.sig_x509.specs.Pool.{Pool}
use Rattle.sig_x509.specs.declared.issuer.Issuer.{Issuer}
use Rattle.sig_x509.specs.declared.issuer.Issuer.TheVariants.{Anchor, Intermediate}

-- ---- the conditions of one intermediate

-- no extended key usage, or one that has code signing
abbrev pub may_issue_code : Held Bool → Bool
may_issue_code (Err e) = false
may_issue_code (Ok None) = true
may_issue_code (Ok (Some is)) = is

abbrev pub may_issue : ℤ → Cert → Bool
may_issue t x = is_fit x && (is_none (ca_refusal x) && (is_within x t && may_issue_code (code_signing x)))

-- the path length, if there is one
abbrev pub most_between : Held (Bool × Constraints) → Option ℕ
most_between (Err e) = None
most_between (Ok None) = None
most_between (Ok (Some b)) = b.1.path_len

abbrev pub allows : Option ℕ → ℕ → Bool
allows None others = true
allows (Some most) others = nat_le others most

-- x can be in a path, at the place with `others` before it
abbrev pub can_stand : ℤ → ℕ → Cert → Bool
can_stand t others x = may_issue t x && allows (most_between (constraints x)) others

-- ---- the table

-- there is a certificate, which passes
abbrev pub of_read : (Cert → Bool) → Option Cert → Bool
of_read passes None = false
of_read passes (Some x) = passes x

abbrev pub is_rooted : Accepts → Pool → Cert → Bool
is_rooted accepts pool x = list_any (is_signed_by accepts x) pool.anchors

-- x can be at the place with this number of others before it, in a path with at most `left` places from there on
unfoldable pub leads : Accepts → Pool → ℤ → ℕ → ℕ → Cert → Bool
leads accepts pool t zero others x = false
leads accepts pool t (suc left) others x = can_stand t others x
    && (is_rooted accepts pool x
    || list_any (of_read (λ y. is_signed_by accepts x y && leads accepts pool t left (suc others) y)) pool.intermediates)

-- ---- the result

abbrev pub anchor_of : Accepts → Pool → Cert → ℤ → Option Issuer
anchor_of accepts pool c t = option_map (λ i. Anchor i) (position (is_issued accepts c t) pool.anchors)

abbrev pub leads_from : Accepts → Pool → Cert → ℤ → Option Cert → Bool
leads_from accepts pool c t = of_read (λ x. is_issued accepts c t x && leads accepts pool t longest_path zero x)

abbrev pub intermediate_of : Accepts → Pool → Cert → ℤ → Option Issuer
intermediate_of accepts pool c t =
    option_map (λ i. Intermediate i) (position (leads_from accepts pool c t) pool.intermediates)

-- the first trust anchor that issued c, or else the first intermediate that did and has a path above it
abbrev pub first_issuer : Accepts → Pool → Cert → ℤ → Option Issuer
first_issuer accepts pool c t = or_else (anchor_of accepts pool c t) (intermediate_of accepts pool c t)

abbrev pub found_issuer : Option Issuer → Result Issuer PoolError
found_issuer None = Err VerificationFailed
found_issuer (Some issuer) = Ok issuer

abbrev pub path_issuer : Accepts → Pool → Cert → ℤ → Result Issuer PoolError
path_issuer accepts pool c t =
    if is_profiled c then found_issuer (first_issuer accepts pool c t) else Err Malformed

-- ---- the questions

-- for n intermediates and a trust anchors
abbrev pub most_questions : Pool → ℕ
most_questions pool = (length pool.intermediates + 1) * (length pool.intermediates + length pool.anchors)
