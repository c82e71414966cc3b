-- Every link holds if and only if the inputs are valid and the chain of trust holds.
use Rattle.sig_verify.specs.Links.{EveryChainLinkHolds, Inputs, Outside}
use Rattle.sig_verify.specs.TrustChain.{AllLinksAreTheTrustChain, IsValid, TrustChain}

-- the links in their order, group by group
parts_from : (o : Outside) (i : Inputs) → EveryChainLinkHolds o i → IsValid o i × TrustChain o i
parts_from o i (
  root_json,
  (
    bundle_json,
    (
      fulcio,
      (
        anchor,
        (
          ctfe,
          (
            material,
            (
              certificate,
              (
                leaf,
                (
                  chain,
                  (
                    content,
                    (
                      envelope,
                      (
                        entry,
                        (
                          profile,
                          (
                            issuance,
                            (
                              issuer,
                              (
                                sct,
                                (
                                  policy,
                                  (
                                    key,
                                    (
                                      signature,
                                      (
                                        subject,
                                        (
                                          body,
                                          (
                                            time,
                                            (
                                              log_key,
                                              (
                                                promise,
                                                (
                                                  proof,
                                                  (checkpoint, (note_key, (note_match, (inclusion, end)))),
                                                ),
                                              ),
                                            ),
                                          ),
                                        ),
                                      ),
                                    ),
                                  ),
                                ),
                              ),
                            ),
                          ),
                        ),
                      ),
                    ),
                  ),
                ),
              ),
            ),
          ),
        ),
      ),
    ),
  ),
) = (
  record {
    root_json = root_json;
    bundle_json = bundle_json;
    fulcio = fulcio;
    anchor = anchor;
    ctfe = ctfe;
    material = material;
    certificate = certificate;
    leaf = leaf;
    root_in_chain = chain;
    content = content;
    envelope = envelope;
    entry = entry;
    profile = profile;
    issuance = issuance;
    sct = sct.0;
    key = key;
    log_key = log_key;
    promise = promise.0;
    proof = proof;
    checkpoint = checkpoint;
    inclusion = inclusion.0;
  },
  record {
    issuer = issuer;
    sct = sct.1;
    policy = policy;
    signature = (signature, subject);
    body = body;
    time = time;
    promise = promise.1;
    note_key = note_key;
    note_match = note_match;
    inclusion = inclusion.1;
  },
)

all_from : (o : Outside) (i : Inputs) → IsValid o i → TrustChain o i → EveryChainLinkHolds o i
all_from o i valid chain = (
  valid.root_json,
  (
    valid.bundle_json,
    (
      valid.fulcio,
      (
        valid.anchor,
        (
          valid.ctfe,
          (
            valid.material,
            (
              valid.certificate,
              (
                valid.leaf,
                (
                  valid.root_in_chain,
                  (
                    valid.content,
                    (
                      valid.envelope,
                      (
                        valid.entry,
                        (
                          valid.profile,
                          (
                            valid.issuance,
                            (
                              chain.issuer,
                              (
                                (valid.sct, chain.sct),
                                (
                                  chain.policy,
                                  (
                                    valid.key,
                                    (
                                      chain.signature.0,
                                      (
                                        chain.signature.1,
                                        (
                                          chain.body,
                                          (
                                            chain.time,
                                            (
                                              valid.log_key,
                                              (
                                                (valid.promise, chain.promise),
                                                (
                                                  valid.proof,
                                                  (
                                                    valid.checkpoint,
                                                    (
                                                      chain.note_key,
                                                      (
                                                        chain.note_match,
                                                        ((valid.inclusion, chain.inclusion), tt),
                                                      ),
                                                    ),
                                                  ),
                                                ),
                                              ),
                                            ),
                                          ),
                                        ),
                                      ),
                                    ),
                                  ),
                                ),
                              ),
                            ),
                          ),
                        ),
                      ),
                    ),
                  ),
                ),
              ),
            ),
          ),
        ),
      ),
    ),
  ),
)

pub all_links_are_the_trust_chain : AllLinksAreTheTrustChain
all_links_are_the_trust_chain o i = (parts_from o i, (λ both. all_from o i both.0 both.1))
