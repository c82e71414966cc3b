-- What the links of `verify` ask of its request: the chain of trust of its bundle, where a signature is genuine if and
-- only if the request has a row of it.
use Rattle.std.specs.Prelude.{ℕ, List, [], ◌∷◌}
use Rattle.sig_base.specs.Checker.{accepted}
use Rattle.sig_base.specs.Scheme.{name_of}
use Rattle.sig_base.specs.declared.checker.Operation.TheVariants.{Message, Prehash, Point, Certificate}
use Rattle.sig_policy.specs.Refusals.{any_of}
use Rattle.sig_policy.specs.Requests.{request_holds}
use Rattle.sig_verify.specs.OfflineVerdict.{IsOffline, Outcome}
use Rattle.sig_verify.specs.Links.{HoldsOf as HoldsOfInputs, Inputs, Outside, chain_links}
use Rattle.sig_verify.specs.TrustChain.{IsValid, TrustChain}
use Rattle.sig_verify.specs.Verdict.{Checker, PolicyOf}
use Rattle.sig_verify.specs.declared.link.Link.{Link}
use Rattle.sig_verify.specs.declared.link.Link.TheVariants.{Request}
use Rattle.sig_request.specs.VerifyRequest.{verify_request}
use Rattle.sig_request.specs.declared.verify_request.VerifyRequest.{VerifyRequest}
use Rattle.sig_request.specs.ReadFrom.{IsRequestOf}

abbrev pub inputs : VerifyRequest → Inputs
inputs request = record {
  root = request.trusted_root;
  now = request.now;
  digest = request.digest;
  bundle = request.bundle;
}

-- a signature is genuine if and only if the request has a row of it
abbrev pub checker : VerifyRequest → Checker
checker request = record {
  spki = λ scheme spki message signature. accepted request.accepted Message (name_of scheme) spki message signature;
  prehash = λ scheme spki digest signature. accepted request.accepted Prehash (name_of scheme) spki digest signature;
  point = λ point message signature. accepted request.accepted Point [] point message signature;
  cert = λ issuer algorithm tbs signature. accepted request.accepted Certificate algorithm issuer tbs signature;
}

-- as a list of one policy, of which one has to hold; no link is about the refusal
abbrev pub policy : VerifyRequest → PolicyOf
policy request = record { holds = request_holds request.policy; refusal = λ c. any_of 1 }

abbrev pub outside : VerifyRequest → Outside
outside request = record { checker = checker request; policy = policy request }

-- what a link requires of a request of `verify`, if all links before it hold
abbrev pub HoldsOfVerify : VerifyRequest → Link → Type 0
HoldsOfVerify request = HoldsOfInputs (outside request) (inputs request)

-- the result of offline verification of a request's inputs, with the error that is refused
abbrev pub IsOfflineOutcome : VerifyRequest → Outcome → Type 0
IsOfflineOutcome request outcome =
    IsOffline (checker request) (policy request) request.trusted_root request.now request.digest request.bundle outcome

-- the links of `verify`: its request, and the chain of trust of its bundle
abbrev pub verify_links : List Link
verify_links = Request ∷ chain_links

-- a link holds of a text: the text is a request of `verify`, and the link holds of it
abbrev pub HoldsVerify : List ℕ → Link → Type 0
HoldsVerify text link = (request : VerifyRequest) × IsRequestOf verify_request text request × HoldsOfVerify request link

-- the text is a request whose inputs are valid, and the chain of trust of its bundle holds
pub record IsTrusted (text : List ℕ) : Type 0 where
  pub request : VerifyRequest
  pub meant : IsRequestOf verify_request text request
  pub valid : IsValid (outside request) (inputs request)
  pub chain : TrustChain (outside request) (inputs request)
