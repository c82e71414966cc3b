use Rattle.std.proofs.Common.{sym}
use Rattle.sig_audit.proofs.Ends.{other-root, ends-in, listing-found, listing-none}
use Rattle.sig_audit.proofs.listing.compare_roots.Goals as goal

pub log_collision-requires-clause-latest : goal.log_collision-requires-clause-latest
log_collision-requires-clause-latest c =
    ends-in _ _ _ _ _ c.requires.chained c.requires.last c.requires.size c.requires.roots
    (sym (c.has_hash.ensures.0 c.if-has_hash.true))

pub returns-in-Some : goal.returns-in-Some
returns-in-Some c =
    listing-found _ _ _ _ _
    (ends-in _ _ _ _ _ c.requires.chained c.requires.last c.requires.size c.requires.roots
    (sym (c.has_hash.ensures.0 c.if-has_hash.true)))
    c.in-Some.is c.in_ok-found.ensures.none c.in_ok-found.ensures.some c.in_ok-found.ensures.texts

pub returns-in-None : goal.returns-in-None
returns-in-None c =
    listing-none _ _ _ _
    (ends-in _ _ _ _ _ c.requires.chained c.requires.last c.requires.size c.requires.roots
    (sym (c.has_hash.ensures.0 c.if-has_hash.true)))
    c.in-None.is c.in_ok-found.ensures.none

pub returns-else-has_hash : goal.returns-else-has_hash
returns-else-has_hash c =
    other-root _ _ _ _ _ c.requires.chained c.requires.last c.requires.size c.requires.roots
    (λ same. (let t = c.has_hash.ensures.1 (sym same) in let f = c.if-has_hash.false in cc))
