use Rattle.std.proofs.Common.{ℕ, List, sym, subst, ◌∙◌}
use Rattle.sig_der.specs.KeyInfo.{IsFirstKeyInfo}
use Rattle.sig_der.specs.KeyInfoPlaces.{key_info_read}
use Rattle.sig_der.specs.Readers.{left}
use Rattle.sig_der.proofs.Bytes.{IsBytes}
use Rattle.sig_der.proofs.KeyInfos.{key_info_at_again, found_key_info, none_first}
use Rattle.sig_der.proofs.key_info.read_key_info.Goals as goal

-- what is left is bytes
fits : (c : goal.After-cut_key_info) → IsBytes (left c.args.reader)
fits c = subst (λ (w : List ℕ). IsBytes w) c.rest.ensures c.are_bytes.ensures

pub returns-clause-found : goal.returns-clause-found
returns-clause-found c =
    let r = c.args.reader in
    found_key_info r.bytes.now (left r) (fits c) c.cut_key_info.result
    c.cut_key_info.ensures.cut

pub returns-clause-only : goal.returns-clause-only
returns-clause-only c = λ k rest first.
    sym c.cut_key_info.ensures.cut ∙ key_info_at_again k rest (left c.args.reader) first.is first.parts

pub returns-clause-none : goal.returns-clause-none
returns-clause-none c =
    none_first (key_info_read c.args.reader.bytes.now) (λ k rest. IsFirstKeyInfo k rest (left c.args.reader))
    c.cut_key_info.result (returns-clause-found c) (returns-clause-only c)
