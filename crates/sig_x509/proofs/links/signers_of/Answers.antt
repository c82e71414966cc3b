-- The walk begins at the last candidate of the name, and goes on to the one before it.
use Rattle.std.proofs.Common.{◌≡◌, ℕ, ◌<◌, length, Option, refl, sym, ap, subst, ◌∙◌, arith}
use Rattle.sig_x509.specs.Candidates.{all_seen, last_named, named_in}
use Rattle.sig_x509.proofs.SeenCandidates.{seen_count}
use Rattle.sig_x509.proofs.Walks.{IsWalking, none_walked, there, walk_ends, walk_left, walk_passes, walk_starts}
use Rattle.sig_x509.proofs.Walks.{walk_takes, walk_within}
use Rattle.sig_x509.proofs.links.signers_of.Goals as goal
use Rattle.sig_x509.proofs.links.signers_of.Goals.{then-has_signed+in_ok-push, else-has_signed}

pub named-init : goal.named-init
named-init g c =
    walk_starts (g.C.SignatureChecker.cert_accepts c.args.checker.now) c.args.certificate.now
    (all_seen c.args.listed.now) c.last_of-next.result c.new-signers.result.items c.args.steps.now
    (c.last_of-next.ensures ∙ ap (named_in c.args.index.now.last) c.issuer.ensures
    ∙ c.requires.index.names c.args.certificate.now.issuer
    ∙ ap (λ (n : ℕ). last_named (all_seen c.args.listed.now) n c.args.certificate.now.issuer)
    (sym (seen_count c.args.listed.now)))
    c.new-signers.ensures.items

pub named-smaller : goal.named-smaller
named-smaller g c =
    let accepts = g.C.SignatureChecker.cert_accepts c.args.checker.now in
    let w =
    subst (λ (o : Option ℕ). IsWalking accepts c.args.certificate.now (all_seen c.args.listed.now) o
    c.named.signers.items c.args.steps.now c.named.steps) c.in-Some.is c.named.invariant in
    let at =
    there accepts c.args.certificate.now (all_seen c.args.listed.now) c.in-Some.place c.named.signers.items
    c.args.steps.now c.named.steps w in
    let lt : c.in-Some.place < length c.args.listed.now =
    subst (λ (n : ℕ). c.in-Some.place < n) (seen_count c.args.listed.now)
    (walk_within accepts c.args.certificate.now (all_seen c.args.listed.now) c.in-Some.place c.named.signers.items
    c.args.steps.now c.named.steps w) in
    walk_left (all_seen c.args.listed.now) c.in-Some.place at.0.subject c.before-next.result c.named.next
    (c.before-next.ensures (last_named (all_seen c.args.listed.now) c.in-Some.place at.0.subject)
    (c.requires.index.before c.in-Some.place at.0 lt at.1))
    c.in-Some.is

pub named-preserved : goal.named-preserved
named-preserved g c =
    let accepts = g.C.SignatureChecker.cert_accepts c.args.checker.now in
    let w =
    subst (λ (o : Option ℕ). IsWalking accepts c.args.certificate.now (all_seen c.args.listed.now) o
    c.named.signers.items c.args.steps.now c.named.steps) c.in-Some.is c.named.invariant in
    let at =
    there accepts c.args.certificate.now (all_seen c.args.listed.now) c.in-Some.place c.named.signers.items
    c.args.steps.now c.named.steps w in
    let lt : c.in-Some.place < length c.args.listed.now =
    subst (λ (n : ℕ). c.in-Some.place < n) (seen_count c.args.listed.now)
    (walk_within accepts c.args.certificate.now (all_seen c.args.listed.now) c.in-Some.place c.named.signers.items
    c.args.steps.now c.named.steps w) in
    let next : c.before-next.result
    ≡ last_named (all_seen c.args.listed.now) c.in-Some.place c.args.certificate.now.issuer =
    c.before-next.ensures (last_named (all_seen c.args.listed.now) c.in-Some.place at.0.subject)
    (c.requires.index.before c.in-Some.place at.0 lt at.1)
    ∙ ap (last_named (all_seen c.args.listed.now) c.in-Some.place) at.2 in
    elim c.if-has_signed.branch [
      | then-has_signed+in_ok-push v ↦
          walk_takes accepts c.args.certificate.now (all_seen c.args.listed.now) c.in-Some.place
          c.named.signers.items c.args.steps.now c.named.steps w c.before-next.result c.if-has_signed.signers.items
          c.has_signed.new.steps next (rw v.signers-is v.in_ok-push.ensures.items)
          (sym c.has_signed.ensures.signed ∙ v.if-has_signed.true) c.has_signed.ensures.steps
      | else-has_signed v ↦
          rw v.signers-is
          (walk_passes accepts c.args.certificate.now (all_seen c.args.listed.now) c.in-Some.place
          c.named.signers.items c.args.steps.now c.named.steps w c.before-next.result
          c.has_signed.new.steps next
          (sym c.has_signed.ensures.signed ∙ v.if-has_signed.false) c.has_signed.ensures.steps)
    ]

pub returns-then-not-may_be_signed-clause-signers : goal.returns-then-not-may_be_signed-clause-signers
returns-then-not-may_be_signed-clause-signers g c =
    rw c.new-signers.ensures.items
    (none_walked (g.C.SignatureChecker.cert_accepts c.args.checker.now) c.args.certificate.now
    (all_seen c.args.listed.now) (c.if-not-may_be_signed.ensures refl))

pub returns : goal.returns
returns g c =
    let done =
    walk_ends (g.C.SignatureChecker.cert_accepts c.args.checker.now) c.args.certificate.now
    (all_seen c.args.listed.now) c.named.next c.named.signers.items c.args.steps.now c.named.steps
    c.in_default.is c.named.invariant in
    record { signers = done.0; steps = omega (arith, done.1, seen_count c.args.listed.now) }
