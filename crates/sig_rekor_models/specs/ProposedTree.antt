-- *Proposed entry*: an entry that Rekor is asked to log, by its kind, and its JSON (Rekor's API, ProposedEntry).
use Rattle.sig_json.specs.Data.{Data}
use Rattle.sig_json.specs.Tree.{document_tree}
use Rattle.sig_rekor_models.specs.Body.{Body, body_tree}
use Rattle.sig_rekor_models.specs.HashedrekordTree.{spec_json}
use Rattle.sig_rekor_models.specs.declared.entry_kind.EntryKind.TheVariants as kinds
use Rattle.sig_rekor_models.specs.declared.proposed_entry.ProposedEntry.{ProposedEntry}
use Rattle.sig_rekor_models.specs.declared.proposed_entry.ProposedEntry.TheVariants.{Alpine, Hashedrekord, Helm}
use Rattle.sig_rekor_models.specs.declared.proposed_entry.ProposedEntry.TheVariants.{Intoto, Jar, Rekord, Rfc3161}
use Rattle.sig_rekor_models.specs.declared.proposed_entry.ProposedEntry.TheVariants.{Rpm, Tuf}

-- the kind, the version, and what is said as a tree
abbrev pub seen_proposed : ProposedEntry → Body
seen_proposed (Alpine version spec) =
    record { kind = kinds.Alpine; api_version = version; spec = document_tree spec }
seen_proposed (Hashedrekord version spec) =
    record { kind = kinds.Hashedrekord; api_version = version; spec = spec_json spec }
seen_proposed (Helm version spec) =
    record { kind = kinds.Helm; api_version = version; spec = document_tree spec }
seen_proposed (Intoto version spec) =
    record { kind = kinds.Intoto; api_version = version; spec = document_tree spec }
seen_proposed (Jar version spec) =
    record { kind = kinds.Jar; api_version = version; spec = document_tree spec }
seen_proposed (Rekord version spec) =
    record { kind = kinds.Rekord; api_version = version; spec = document_tree spec }
seen_proposed (Rfc3161 version spec) =
    record { kind = kinds.Rfc3161; api_version = version; spec = document_tree spec }
seen_proposed (Rpm version spec) =
    record { kind = kinds.Rpm; api_version = version; spec = document_tree spec }
seen_proposed (Tuf version spec) =
    record { kind = kinds.Tuf; api_version = version; spec = document_tree spec }

abbrev pub proposed_tree : ProposedEntry → Data
proposed_tree entry = body_tree (seen_proposed entry)
