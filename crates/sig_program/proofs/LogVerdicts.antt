-- The first failing link of a request of `log`, from that of its tree head.
use Rattle.std.proofs.Common.{Option, Some, None}
use Rattle.sig_verify.specs.declared.link.Link.{Link}
use Rattle.sig_verify.specs.declared.link.Link.TheVariants.{Inclusion}
use Rattle.sig_program.proofs.Verdicts.{head-fails, last-fails, all-hold}
use Rattle.sig_program.specs.Head.{IsHeadVerdict}
use Rattle.sig_program.specs.Link.{HoldsOfLog, IsLogged, IsLogVerdict}
use Rattle.sig_request.specs.declared.request.LogRequest.{LogRequest}

-- the verdict on the tree head of the proof's tree
abbrev pub LogHeadVerdict : LogRequest → Option Link → Type 0
LogHeadVerdict request = IsHeadVerdict request.head request.proof.tree_size request.proof.root_hash

pub log-head-fails : (request : LogRequest) (link : Link) → LogHeadVerdict request (Some link)
    → IsLogVerdict request (Some link)
log-head-fails request = head-fails (HoldsOfLog request) tt Inclusion

pub not-logged : (request : LogRequest) → LogHeadVerdict request None → ¬ IsLogged request
    → IsLogVerdict request (Some Inclusion)
not-logged request = last-fails (HoldsOfLog request) tt Inclusion

pub log-holds : (request : LogRequest) → LogHeadVerdict request None → IsLogged request → IsLogVerdict request None
log-holds request = all-hold (HoldsOfLog request) tt Inclusion

pub ruleset verdicts = (log-head-fails, not-logged, log-holds)
