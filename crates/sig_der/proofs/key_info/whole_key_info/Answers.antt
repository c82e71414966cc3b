use Rattle.std.proofs.Common.{sym, ◌∙◌, arith}
use Rattle.sig_der.specs.KeyInfo.{IsWholeKeyInfo}
use Rattle.sig_der.specs.KeyInfoPlaces.{key_info_of}
use Rattle.sig_der.proofs.KeyInfos.{whole_key_info_again, found_whole, none_whole}
use Rattle.sig_der.proofs.key_info.whole_key_info.Goals as goal

pub returns-clause-found : goal.returns-clause-found
returns-clause-found c =
    found_whole c.args.bytes.now (λ i. omega (arith, c.type_inv.bytes i)) c.cut_whole_key_info.result
    c.cut_whole_key_info.ensures.cut

pub returns-clause-only : goal.returns-clause-only
returns-clause-only c = λ k whole.
    sym c.cut_whole_key_info.ensures.cut ∙ whole_key_info_again c.args.bytes.now k whole.is whole.whole

pub returns-clause-none : goal.returns-clause-none
returns-clause-none c =
    none_whole (key_info_of c.args.bytes.now) (λ k. IsWholeKeyInfo k c.args.bytes.now) c.cut_whole_key_info.result
    (returns-clause-found c) (returns-clause-only c)
