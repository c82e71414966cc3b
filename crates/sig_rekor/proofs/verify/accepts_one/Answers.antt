use Rattle.std.proofs.Common.{Bool, ap, ◌∙◌}
use Rattle.std.specs.List.{list_any}
use Rattle.sig_key.specs.Key.{key_accepts}
use Rattle.sig_rekor.proofs.DedupedLists.{Raw}
use Rattle.sig_rekor.proofs.verify.accepts_one.Goals as goal

-- the different signatures pass the checker's test where all do
pub returns : goal.returns
returns g c =
    let accepts = key_accepts (g.C.SignatureChecker.spki_accepts c.args.checker.now) c.args.key.now in
    let passes : Raw → Bool = λ raw. accepts c.args.message.now raw.now in
    c.accepts_one_of.ensures
    ∙ ap (list_any passes) c.as_slice.ensures.value
    ∙ c.in_ok-raws.ensures (accepts c.args.message.now)
