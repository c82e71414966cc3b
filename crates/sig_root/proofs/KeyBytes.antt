-- The keys of the instances of logs are bytes, one more of them at a time.
use Rattle.std.proofs.Common.{◌≡◌, ℕ, suc, ◌+◌, ◌<◌, List, ◌∷◌, drop, get_or, length, sym, ap, subst, arith, ◌∙◌}
use Rattle.std.specs.List.{AllByRecursion}
use Rattle.std.proofs.Math.Seq.{drop-cons}
use Rattle.sig_root.specs.OfBytes.{HasRawBytes}
use Rattle.sig_root.specs.declared.record.TransparencyLogInstance.{TransparencyLogInstance}

abbrev Instance : Type 0
Instance = TransparencyLogInstance

pub further : (is : List Instance) (n : ℕ) (i : Instance) → n < length is → i ≡ get_or is n i → HasRawBytes i
    → AllByRecursion HasRawBytes (drop (n + 1) is) → AllByRecursion HasRawBytes (drop n is)
further is n i within found has rest =
    let next : n + 1 ≡ suc n = omega arith in
    subst (λ (l : List Instance). AllByRecursion HasRawBytes l)
    (sym (drop-cons is n i within ∙ ap (λ (h : Instance). h ∷ drop (suc n) is) (sym found)))
    (has, subst (λ (k : ℕ). AllByRecursion HasRawBytes (drop k is)) next rest)
