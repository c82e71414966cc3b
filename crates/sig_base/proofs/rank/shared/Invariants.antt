-- What the texts that are left leave of it.
use Rattle.std.proofs.Common.{◌≡◌, drop, map}
use Rattle.sig_base.specs.Rank.{alike_with, shared}
use Rattle.sig_base.proofs.rank.shared.Given as goal

abbrev pub invariant-texts : goal.invariant-texts
invariant-texts l =
    alike_with l.first.now l.most (map (λ text. text.now) (drop l.text-index l.text-items))
    ≡ shared (map (λ text. text.now) l.texts)
