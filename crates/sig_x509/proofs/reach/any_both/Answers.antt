use Rattle.std.proofs.Common.{◌&&◌, length, sym, arith, ◌∙◌}
use Rattle.std.proofs.lemmas.Bool.{and_from}
use Rattle.sig_x509.proofs.Bits.{below_is}
use Rattle.sig_x509.specs.Possible.{bit}
use Rattle.sig_x509.proofs.reach.any_both.Goals as goal

pub returns-then-bit-2 : goal.returns-then-bit-2
returns-then-bit-2 c =
    sym (below_is (length c.args.one.now) (λ k. bit c.args.one.now k && bit c.args.other.now k) c.places.place
    (omega arith)
    (and_from _ _ (sym c.bit.ensures ∙ c.if-bit.true) (sym c.bit-then-bit.ensures ∙ c.if-bit-2.true)))
