-- The index over one candidate more.
use Rattle.std.proofs.Common.{◌≡◌, Some, None, slice_get, refl, ap, ◌∙◌}
use Rattle.std.proofs.lemmas.Option.{slice_get_read}
use Rattle.sig_x509.specs.Candidates.{all_seen}
use Rattle.sig_x509.proofs.IndexLaws.{index_named, index_absent}
use Rattle.sig_x509.proofs.SeenCandidates.{seen_at}
use Rattle.sig_x509.proofs.subjects.index_subjects.Goals as goal
use Rattle.sig_x509.proofs.subjects.index_subjects.Goals.{in-Some+in_ok-before-in-Some, in-None}

pub candidates-preserved : goal.candidates-preserved
candidates-preserved c =
    let there : slice_get c.args.listed.now c.candidates.place ≡ Some c.index-listed-place.result =
    slice_get_read c.args.listed.now _ c.candidates.place c.index-listed-place.result refl c.candidates-test.true
    c.index-listed-place.is in
    elim c.match-candidate.branch [
      | in-Some+in_ok-before-in-Some w ↦
          rw w.last-is
          (index_named (all_seen c.args.listed.now) c.candidates.place c.candidates.last c.candidates.earlier.items
          c.candidates.invariant c.push.new.self.items c.match-candidate.before c.in_ok-push.ensures.items
          w.in-Some.certificate.now
          (seen_at c.args.listed.now c.candidates.place (Some (Some w.in-Some.certificate))
          (there ∙ ap (λ (o : _). Some o) w.in-Some.is))
          w.subject.result.now w.subject.ensures w.insert.new.self w.in_ok-before-in-Some.ensures.updates
          (w.before-is ∙ w.in_ok-before-in-Some.ensures.old))
      | in-None w ↦
          rw w.last-is
          (index_absent (all_seen c.args.listed.now) c.candidates.place c.candidates.last c.candidates.earlier.items
          c.candidates.invariant c.push.new.self.items c.match-candidate.before c.in_ok-push.ensures.items
          (seen_at c.args.listed.now c.candidates.place (Some None) (there ∙ ap (λ (o : _). Some o) w.in-None.is)))
    ]
