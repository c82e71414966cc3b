-- What stands in a part of a text before a later place.
use Rattle.std.proofs.Common.{◌≡◌, ℕ, ◌-◌, ◌≤◌, List, length, take, drop, ap, ◌∙◌, arith}
use Rattle.std.specs.Prelude.{slice_range}
use Rattle.std.proofs.lemmas.List.{take-take}
use Rattle.sig_der.proofs.Ranges.{length-part}
use Rattle.sig_certificate.specs.Cutting.{before}

pub front_is : (bytes : List ℕ) (at next end : ℕ) → at ≤ next → next ≤ end → end ≤ length bytes
    → before (slice_range bytes at end) (slice_range bytes next end) ≡ slice_range bytes at next
front_is bytes at next end a b c =
    let long = length-part bytes at end (omega arith) c in
    let short = length-part bytes next end b c in
    let len : length (slice_range bytes at end) - length (slice_range bytes next end) ≡ next - at = omega arith in
    ap (λ (n : ℕ). take n (slice_range bytes at end)) len
    ∙ take-take (next - at) (end - at) (drop at bytes) (omega arith)
