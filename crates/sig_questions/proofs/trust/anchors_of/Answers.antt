use Rattle.std.proofs.Common.{IfOk, List, ℕ}
use Rattle.std.specs.List.{AllByRecursion}
use Rattle.std.proofs.Math.Facts.{to_z-of_z}
use Rattle.sig_certificate.specs.Certificates.{AreCertificates}
use Rattle.sig_verify.specs.RootLinks.{IsSomeAnchor}
use Rattle.sig_questions.proofs.Trusts.{anchors_given, anchors_refused, anchors_taken}
use Rattle.sig_questions.proofs.trust.anchors_of.Goals as goal

pub read_anchors-requires : goal.read_anchors-requires
read_anchors-requires c =
    anchors_given c.args.root.now c.args.now _ c.in-Ok.certificates (AllByRecursion IsSomeAnchor)
    (to_z-of_z c.ranges.now) c.in-Ok.ensures c.requires.anchors

pub returns-in-Ok : goal.returns-in-Ok
returns-in-Ok c =
    anchors_taken c.args.root.now c.args.now _ c.in-Ok.certificates
    (λ (ders : List (List ℕ)). IfOk c.read_anchors.result (AreCertificates ders)) (to_z-of_z c.ranges.now) c.in-Ok.ensures
    c.read_anchors.ensures

pub memory_of-requires : goal.memory_of-requires
memory_of-requires c =
    anchors_refused c.args.root.now c.args.now _ c.in-Err.error (to_z-of_z c.ranges.now) c.requires.some c.in-Err.ensures
