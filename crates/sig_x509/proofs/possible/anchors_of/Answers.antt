use Rattle.std.proofs.Common.{◌≡◌, Bool, List, [], IfOk, map, true, sym, ap, subst, ◌∙◌, ℕ}
use Rattle.sig_certificate.specs.Certificate.{Cert}
use Rattle.sig_x509.proofs.SignerLists.{reached_named, unreached_none}
use Rattle.sig_x509.specs.NamedAnchors.{named}
use Rattle.sig_x509.specs.Possible.{any_below, meets_at, seen_signed}
use Rattle.sig_x509.proofs.possible.anchors_of.Goals as goal

pub returns-then-meets : goal.returns-then-meets
returns-then-meets c =
    subst (λ (xs : List Cert). IfOk c.named.result (λ v. map (λ x. x.now) v.items ≡ xs))
    (ap (λ (name : List ℕ). named name c.args.anchors.now) c.issuer.ensures
    ∙ reached_named (seen_signed c.args.signed.now)
    (sym (ap (λ (row : List Bool). any_below 7 (meets_at row true [])) c.as_slice.ensures) ∙ sym c.meets.ensures
    ∙ c.if-meets.true) c.args.anchors.now)
    c.named.ensures

pub returns-else-meets : goal.returns-else-meets
returns-else-meets c =
    ap (map (λ x. x.now)) c.new.ensures.items
    ∙ unreached_none (seen_signed c.args.signed.now)
    (sym (ap (λ (row : List Bool). any_below 7 (meets_at row true [])) c.as_slice.ensures) ∙ sym c.meets.ensures
    ∙ c.if-meets.false) c.args.anchors.now
