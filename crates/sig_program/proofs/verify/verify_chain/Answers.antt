-- The links and the steps of `verify_offline`, of the texts and the time that the request holds.
use Rattle.std.proofs.Common.{arith, rules, sym, w64, FitsSigned, ◌∙◌}
use Rattle.std.proofs.lemmas.Int.{ints, to_z-of_z}
use Rattle.sig_program.proofs.verify.verify_chain.Goals as goal

pub returns-clause-links : goal.returns-clause-links
returns-clause-links c =
    let fits : FitsSigned w64 c.now-now.result = first_of
    (omega (arith, ints, c.now-now.type_inv), search rules) in
    let now = to_z-of_z w64 c.now-now.result fits ∙ c.now-now.ensures in
    rw (sym c.trusted_root.ensures, sym c.bundle.ensures, sym now) c.verify_offline.ensures.links

pub returns-clause-steps : goal.returns-clause-steps
returns-clause-steps c =
    let fits : FitsSigned w64 c.now-now.result = first_of
    (omega (arith, ints, c.now-now.type_inv), search rules) in
    let now = to_z-of_z w64 c.now-now.result fits ∙ c.now-now.ensures in
    rw (sym c.trusted_root.ensures, sym c.bundle.ensures, sym now) c.verify_offline.ensures.steps
