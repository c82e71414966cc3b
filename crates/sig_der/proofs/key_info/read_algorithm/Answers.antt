use Rattle.std.proofs.Common.{ℕ, List, sym, subst, ◌∙◌}
use Rattle.sig_der.specs.KeyInfo.{IsFirstAlgorithm}
use Rattle.sig_der.specs.KeyInfoPlaces.{algorithm_read}
use Rattle.sig_der.specs.Readers.{left}
use Rattle.sig_der.proofs.Bytes.{IsBytes}
use Rattle.sig_der.proofs.KeyInfos.{algorithm_at_again, found_algorithm, none_first}
use Rattle.sig_der.proofs.key_info.read_algorithm.Goals as goal

-- what is left is bytes
fits : (c : goal.After-cut_algorithm) → IsBytes (left c.args.reader)
fits c = subst (λ (w : List ℕ). IsBytes w) c.rest.ensures c.are_bytes.ensures

pub returns-clause-found : goal.returns-clause-found
returns-clause-found c =
    let r = c.args.reader in
    found_algorithm r.bytes.now (left r) (fits c) c.cut_algorithm.result
    c.cut_algorithm.ensures.cut

pub returns-clause-only : goal.returns-clause-only
returns-clause-only c = λ a rest first.
    sym c.cut_algorithm.ensures.cut ∙ algorithm_at_again a rest (left c.args.reader) first.is first.parts

pub returns-clause-none : goal.returns-clause-none
returns-clause-none c =
    none_first (algorithm_read c.args.reader.bytes.now) (λ a rest. IsFirstAlgorithm a rest (left c.args.reader))
    c.cut_algorithm.result (returns-clause-found c) (returns-clause-only c)
