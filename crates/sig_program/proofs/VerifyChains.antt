-- All links of `verify` are the request and the trust chain.
use Rattle.std.proofs.Common.{◌↔◌, ℕ, List, [], ◌∷◌, subst}
use Rattle.std.specs.List.{AllByRecursion}
use Rattle.sig_verify.proofs.ChainLaws.{all_links_are_the_trust_chain}
use Rattle.sig_verify.specs.Links.{chain_links}
use Rattle.sig_verify.specs.declared.link.Link.{Link}
use Rattle.sig_program.proofs.Replies.{every-of_text}
use Rattle.sig_request.proofs.RequestTexts.{one_request}
use Rattle.sig_program.specs.VerifyLink.{HoldsOfVerify, HoldsVerify, IsTrusted, inputs, outside, verify_links}
use Rattle.sig_request.specs.VerifyRequest.{verify_request}
use Rattle.sig_request.specs.declared.verify_request.VerifyRequest.{VerifyRequest}
use Rattle.sig_request.specs.ReadFrom.{IsRequestOf}

-- what holds of a text holds of the one request that it is
every-of_request : (text : List ℕ) (request : VerifyRequest) (ls : List Link) → IsRequestOf verify_request text request
    → AllByRecursion (HoldsVerify text) ls → AllByRecursion (HoldsOfVerify request) ls
every-of_request text request [] is every = tt
every-of_request text request (link ∷ ls) is every =
    let here = every.0 in (
      subst (λ (r : VerifyRequest). HoldsOfVerify r link)
          (one_request verify_request text here.0 request here.1 is) here.2,
      every-of_request text request ls is every.1,
    )

trusted-from : (text : List ℕ) → AllByRecursion (HoldsVerify text) verify_links → IsTrusted text
trusted-from text every =
    let request = every.0.0 in
    let both = (all_links_are_the_trust_chain (outside request) (inputs request)).0
    (every-of_request text request chain_links every.0.1 every.1) in
    record { request = request; meant = every.0.1; valid = both.0; chain = both.1 }

trusted-to : (text : List ℕ) → IsTrusted text → AllByRecursion (HoldsVerify text) verify_links
trusted-to text is =
    every-of_text (IsRequestOf verify_request text) HoldsOfVerify is.request verify_links is.meant
    (tt, (all_links_are_the_trust_chain (outside is.request) (inputs is.request)).1 (is.valid, is.chain))

-- every link of `verify` holds of a text if and only if it is a request with valid inputs and a chain of trust
pub all_verify_links_are_the_trust_chain : (text : List ℕ)
    → AllByRecursion (HoldsVerify text) verify_links ↔ IsTrusted text
all_verify_links_are_the_trust_chain text = (trusted-from text, trusted-to text)
