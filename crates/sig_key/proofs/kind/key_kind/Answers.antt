use Rattle.std.proofs.Common.{sym, subst, ◌∙◌, arith}
use Rattle.sig_key.specs.Kind.{IsKind}
use Rattle.sig_key.proofs.KeyKinds.{key_kind_is, key_kind_only}
use Rattle.sig_key.proofs.kind.key_kind.Goals as goal

pub returns-clause-is : goal.returns-clause-is
returns-clause-is c =
    subst (λ k. IsKind c.args.spki.now k) (sym c.kind_of.ensures)
    (key_kind_is c.args.spki.now (λ i. omega (arith, c.type_inv.spki i)))

pub returns-clause-only : goal.returns-clause-only
returns-clause-only c = λ kind is.
    key_kind_only c.args.spki.now (λ i. omega (arith, c.type_inv.spki i)) kind is ∙ sym c.kind_of.ensures
