-- What `questions` lists, of the texts and the time that the request holds.
use Rattle.std.proofs.Common.{arith, rules, sym, w64, FitsSigned, ◌∙◌}
use Rattle.std.proofs.lemmas.Int.{ints, to_z-of_z}
use Rattle.sig_program.proofs.verify_questions.questions_of.Goals as goal

pub returns-clause-asked : goal.returns-clause-asked
returns-clause-asked c =
    let fits : FitsSigned w64 c.now-now.result = first_of
    (omega (arith, ints, c.now-now.type_inv), search rules) in
    let now = to_z-of_z w64 c.now-now.result fits ∙ c.now-now.ensures in
    rw (sym c.trusted_root.ensures, sym c.bundle.ensures, sym now) c.questions.ensures.asked
