use Rattle.std.proofs.Common.{◌≡◌, length}
use Rattle.std.specs.Prelude.{option_map}
use Rattle.std.specs.Str.{bytes_eq}
use Rattle.sig_der.specs.FrontReaders.{many_at}
use Rattle.sig_certificate.specs.Values.{oid_at, has_purpose}
use Rattle.sig_certificate.proofs.WalkLaws.{any_more}
use Rattle.sig_certificate.proofs.walks.purpose_among.Given as goal

abbrev pub invariant-loop-purpose : goal.invariant-loop-purpose
invariant-loop-purpose l =
    any_more (λ p. bytes_eq p l.purpose) l.found (many_at oid_at l.rest)
    ≡ option_map (has_purpose l.purpose) (many_at oid_at l.bytes)

abbrev pub decreases-loop-purpose : goal.decreases-loop-purpose
decreases-loop-purpose l = length l.rest
