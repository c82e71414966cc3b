-- The first failing link of a request of `consistency`, from that of its tree head.
use Rattle.std.proofs.Common.{Option, Some, None}
use Rattle.sig_verify.specs.declared.link.Link.{Link}
use Rattle.sig_verify.specs.declared.link.Link.TheVariants.{Consistency}
use Rattle.sig_program.proofs.Verdicts.{head-fails, last-fails, all-hold}
use Rattle.sig_program.specs.ConsistencyLink.{HoldsOfConsistency, IsConsistencyVerdict, IsGrown}
use Rattle.sig_program.specs.Head.{IsHeadVerdict}
use Rattle.sig_request.specs.declared.consistency_request.ConsistencyRequest.{ConsistencyRequest}

-- the verdict on the tree head of the tree of now
abbrev pub ConsistencyHeadVerdict : ConsistencyRequest → Option Link → Type 0
ConsistencyHeadVerdict request = IsHeadVerdict request.head request.tree_size request.root_hash

pub consistency-head-fails : (request : ConsistencyRequest) (link : Link) → ConsistencyHeadVerdict request (Some link)
    → IsConsistencyVerdict request (Some link)
consistency-head-fails request = head-fails (HoldsOfConsistency request) tt Consistency

pub not-grown : (request : ConsistencyRequest) → ConsistencyHeadVerdict request None → ¬ IsGrown request
    → IsConsistencyVerdict request (Some Consistency)
not-grown request = last-fails (HoldsOfConsistency request) tt Consistency

pub consistency-holds : (request : ConsistencyRequest) → ConsistencyHeadVerdict request None → IsGrown request
    → IsConsistencyVerdict request None
consistency-holds request = all-hold (HoldsOfConsistency request) tt Consistency

pub ruleset verdicts = (consistency-head-fails, not-grown, consistency-holds)
