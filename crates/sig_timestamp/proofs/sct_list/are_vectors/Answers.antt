-- One turn of the loop reads one vector.
use Rattle.std.proofs.Common.{sym, ◌∙◌}
use Rattle.sig_timestamp.proofs.VectorLaws.{vectors_go_on, vectors_end, vectors_stop, vector_at_shrinks}
use Rattle.sig_timestamp.proofs.sct_list.are_vectors.Goals as goal

pub returns-in-None : goal.returns-in-None
returns-in-None c =
    sym (vectors_stop c.loop-rest.rest.now c.loop-rest-test.ensures c.in-None.ensures) ∙ c.loop-rest.invariant

pub loop-rest-smaller : goal.loop-rest-smaller
loop-rest-smaller c = vector_at_shrinks c.loop-rest.rest.now _ c.in-Some.ensures

pub loop-rest-preserved : goal.loop-rest-preserved
loop-rest-preserved c = vectors_go_on c.loop-rest.rest.now _ c.in-Some.ensures ∙ c.loop-rest.invariant

pub returns : goal.returns
returns c = sym (vectors_end c.loop-rest.rest.now c.loop-rest-test.ensures) ∙ c.loop-rest.invariant
