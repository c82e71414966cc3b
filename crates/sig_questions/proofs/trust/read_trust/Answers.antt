use Rattle.std.proofs.Common.{ℤ, [], subst, sym}
use Rattle.std.specs.Prelude.{◌≢◌}
use Rattle.std.specs.List.{AllByRecursion}
use Rattle.std.proofs.Math.Facts.{to_z-of_z}
use Rattle.sig_verify.specs.RootLinks.{IsSomeAnchor, authorities, ct_keys}
use Rattle.sig_questions.specs.Listed.{GivesTrust}
use Rattle.sig_questions.specs.declared.trust.TrustParts.{TrustParts}
use Rattle.sig_questions.proofs.trust.read_trust.Goals as goal

pub anchors_of-requires-clause-some : goal.anchors_of-requires-clause-some
anchors_of-requires-clause-some c =
    subst (λ (t : ℤ). authorities c.args.root.now t ≢ []) (sym (to_z-of_z c.ranges.now)) c.requires.some

pub anchors_of-requires-clause-anchors : goal.anchors_of-requires-clause-anchors
anchors_of-requires-clause-anchors c =
    subst (λ (t : ℤ). AllByRecursion IsSomeAnchor (authorities c.args.root.now t)) (sym (to_z-of_z c.ranges.now))
    c.requires.anchors

pub ring_of-requires : goal.ring_of-requires
ring_of-requires c = subst (λ (t : ℤ). ct_keys c.args.root.now t ≢ []) (sym (to_z-of_z c.ranges.now)) c.requires.keys

pub returns : goal.returns
returns c =
    let parts : TrustParts = record {
      anchors = c.in_ok-anchors_of.field-0;
      keyring = c.in_ok-ring_of.field-0;
      log_keys = c.in_ok-log_keys_of.field-0;
    } in
    subst (λ (t : ℤ). GivesTrust c.args.root.now t parts) (to_z-of_z c.ranges.now) (record {
      anchors = c.in_ok-anchors_of.ensures;
      ring = c.in_ok-ring_of.ensures;
      keys = c.in_ok-log_keys_of.ensures;
    })
