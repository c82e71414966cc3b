-- The intermediates of the pool, and those that come with the leaf.
use Rattle.std.proofs.Common.{ℤ, List, ◌≡◌, ◌++◌, map, Option, Some, ap, subst, ◌∙◌}
use Rattle.std.proofs.Math.Facts.{to_z-of_z}
use Rattle.sig_certificate.specs.Certificate.{Cert}
use Rattle.sig_x509.specs.Candidates.{all_seen, candidates_of, if_may_issue}
use Rattle.sig_x509.specs.Pool.{Pool, with_further}
use Rattle.sig_x509.proofs.FirstIntermediates.{listing_is}
use Rattle.sig_x509.proofs.pool.CertificatePool.candidates.Goals as goal

pub returns : goal.returns
returns c =
    subst (λ (p : Pool). all_seen c.push_further.new.listed.items ≡ candidates_of (with_further p c.args.further.now) c.args.time)
    c.self.view_is
    (listing_is c.self.inside.intermediates c.args.further.now c.args.time c.new-listed.result.items
    c.push_intermediates.new.listed.items c.push_further.new.listed.items c.new-listed.ensures.items
    (c.in_ok-push_intermediates.ensures
    ∙ ap (λ (s : ℤ). all_seen c.new-listed.result.items ++ map (if_may_issue s) c.as_slice.result.now)
    (to_z-of_z c.ranges.time)
    ∙ ap (λ (os : List (Option Cert)). all_seen c.new-listed.result.items ++ map (if_may_issue c.args.time) os)
    c.as_slice.ensures)
    (c.in_ok-push_further.ensures
    ∙ ap (λ (s : ℤ). all_seen c.push_intermediates.new.listed.items
    ++ map (λ (x : Cert). if_may_issue s (Some x)) c.args.further.now) (to_z-of_z c.ranges.time)))
