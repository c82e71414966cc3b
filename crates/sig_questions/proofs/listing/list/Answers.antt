use Rattle.std.proofs.Common.{w64, FitsSigned, arith, rules, ◌∙◌}
use Rattle.std.proofs.lemmas.Int.{ints, to_z-of_z}
use Rattle.sig_questions.proofs.SeenRows.{listed_all}
use Rattle.sig_questions.proofs.listing.list.Goals as goal

pub returns-clause-listed : goal.returns-clause-listed
returns-clause-listed c =
    let fits : FitsSigned w64 c.not_before-time.result = first_of
    (omega (arith, ints, c.not_before-time.type_inv), search rules) in
    listed_all c.args.trust.now c.args.digest.now c.args.bundle.now c.in_ok-paths.paths c.certificate-leaf.result.now
    c.further.result.now _ c.args.most c.list_paths.result
    c.certificate-leaf.ensures c.further.ensures
    (to_z-of_z w64 c.not_before-time.result fits ∙ c.not_before-time.ensures)
    c.in_ok-paths.ensures.leaf c.in_ok-paths.ensures.further c.list_paths.ensures.listed
