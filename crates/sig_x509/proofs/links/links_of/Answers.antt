-- One link more.
use Rattle.std.proofs.Common.{List, Option, length, refl, sym, subst, ◌+◌, arith}
use Rattle.std.proofs.lemmas.List.{take_all}
use Rattle.std.specs.Borrow.{Bor}
use Rattle.std.specs.List.{AllZip}
use Rattle.sig_base.proofs.PairedLists.{zip_more}
use Rattle.sig_certificate.specs.Certificate.{Cert}
use Rattle.sig_x509.specs.Candidates.{all_seen, seen}
use Rattle.sig_x509.specs.Rows.{AreRooted, IsLinkOf}
use Rattle.sig_x509.specs.declared.links.Link.{Link}
use Rattle.sig_x509.proofs.Counts.{one_more_row, within_rows}
use Rattle.sig_x509.proofs.RootedLaws.{rooted_so_far}
use Rattle.sig_x509.proofs.SeenCandidates.{zip_seen}
use Rattle.sig_x509.proofs.links.links_of.Goals as goal
use Rattle.sig_x509.proofs.links.links_of.Goals.{in-Some+in_ok-before-in-Some+in_ok-signers_of-in-Some, in-None}

pub is_rooted-rooted-requires : goal.is_rooted-rooted-requires
is_rooted-rooted-requires g c = record {
  known = subst (λ (links : List Link). AreRooted (g.C.SignatureChecker.cert_accepts c.args.checker.now) c.args.pool.now
      (all_seen c.args.listed.now) links) (sym c.deref.ensures.value)
      (rooted_so_far (g.C.SignatureChecker.cert_accepts c.args.checker.now) c.args.pool.now (all_seen c.args.listed.now)
      c.candidates.place c.args.listed.now c.candidates.links.items c.candidates.invariant.0);
}

pub returns-in_err-signers_of-in-Some-clause-steps : goal.returns-in_err-signers_of-in-Some-clause-steps
returns-in_err-signers_of-in-Some-clause-steps g c =
    within_rows c.args.steps.now c.candidates.steps c.signers_of.new.steps c.candidates.place
    (length c.args.listed.now) (length c.args.listed.now + length c.args.pool.now.anchors) c.candidates.invariant.1
    (omega (arith, c.is_rooted-rooted.ensures.steps, c.signers_of.ensures.steps)) c.candidates-test.true

pub returns-in_err-push-clause-steps : goal.returns-in_err-push-clause-steps
returns-in_err-push-clause-steps g c =
    within_rows c.args.steps.now c.candidates.steps c.match-candidate.steps c.candidates.place
    (length c.args.listed.now) (length c.args.listed.now + length c.args.pool.now.anchors) c.candidates.invariant.1
    (elim c.match-candidate.branch [
      | in-Some+in_ok-before-in-Some+in_ok-signers_of-in-Some w ↦
          omega (arith, w.steps-is, w.is_rooted-rooted.ensures.steps, w.signers_of.ensures.steps)
      | in-None w ↦ omega (arith, w.steps-is)
    ]) c.candidates-test.true

pub candidates-preserved : goal.candidates-preserved
candidates-preserved g c = (
  zip_more (λ o link. IsLinkOf (g.C.SignatureChecker.cert_accepts c.args.checker.now) c.args.pool.now
      (all_seen c.args.listed.now) (seen o) link) _ _ c.candidates.place c.index-listed-place.result
      c.index-listed-place.result c.match-candidate.link c.candidates.links.items c.push.new.self.items refl
      c.candidates-test.true c.index-listed-place.is refl
      (elim c.match-candidate.branch [
        | in-Some+in_ok-before-in-Some+in_ok-signers_of-in-Some w ↦
            rw (w.in-Some.is, w.link-is) (
              w.most_between.ensures,
              w.is_rooted-rooted.ensures.rooted,
              w.in_ok-signers_of-in-Some.ensures.signers,
            )
        | in-None w ↦ rw (w.in-None.is, w.link-is) (refl, w.new.ensures.items)
      ]) c.in_ok-push.ensures.items c.candidates.invariant.0,
  one_more_row c.args.steps.now c.candidates.steps c.match-candidate.steps c.candidates.place
      (length c.args.listed.now + length c.args.pool.now.anchors) c.candidates.invariant.1
      (elim c.match-candidate.branch [
        | in-Some+in_ok-before-in-Some+in_ok-signers_of-in-Some w ↦
            omega (arith, w.steps-is, w.is_rooted-rooted.ensures.steps, w.signers_of.ensures.steps)
        | in-None w ↦ omega (arith, w.steps-is)
      ]),
)

pub returns-clause-links : goal.returns-clause-links
returns-clause-links g c =
    zip_seen (IsLinkOf (g.C.SignatureChecker.cert_accepts c.args.checker.now) c.args.pool.now (all_seen c.args.listed.now))
    c.args.listed.now c.candidates.links.items
    (subst (λ (os : List (Option (Bor Cert))). AllZip (λ o link. IsLinkOf
    (g.C.SignatureChecker.cert_accepts c.args.checker.now) c.args.pool.now (all_seen c.args.listed.now) (seen o) link) os
    c.candidates.links.items) (take_all c.candidates.place c.args.listed.now c.candidates-test.false)
    c.candidates.invariant.0)
