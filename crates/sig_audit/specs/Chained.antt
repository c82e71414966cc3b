-- *Chained heads*: tree heads, the oldest first, each of which shows that its tree has that of the head before it as
-- its first leaves (RFC 6962 section 2.1.2).
use Rattle.std.specs.Prelude.{◌≢◌, List, [], ◌∷◌}
use Rattle.sig_merkle.specs.ConsistencyAnswer.{IsConsistent}
use Rattle.sig_audit.specs.declared.chain.ChainHead.{ChainHead}

-- the hashes of a head show that its tree grew from that of the head before it
abbrev pub HasGrownFrom : ChainHead → ChainHead → Type 0
HasGrownFrom before head = IsConsistent before.size head.size head.hashes before.hash head.hash

-- each of these heads grew from the one before it, the first of them from `before`
abbrev pub HaveGrownFrom : ChainHead → List ChainHead → Type 0
HaveGrownFrom before [] = Unit {0}
HaveGrownFrom before (head ∷ later) = HasGrownFrom before head × HaveGrownFrom head later

-- each of these heads except the first grew from the one before it; the hashes of the first are not checked
abbrev pub HaveGrown : List ChainHead → Type 0
HaveGrown [] = Unit {0}
HaveGrown (first ∷ later) = HaveGrownFrom first later

-- *Chained heads*
abbrev pub AreChained : List ChainHead → Type 0
AreChained heads = (heads ≢ []) × HaveGrown heads
