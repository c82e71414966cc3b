-- What the links of `consistency` ask of its request.
use Rattle.std.specs.Prelude.{ℕ, List, [], ◌∷◌, Option}
use Rattle.sig_merkle.specs.ConsistencyAnswer.{IsConsistent}
use Rattle.sig_verify.specs.declared.link.Link.{Link}
use Rattle.sig_verify.specs.declared.link.Link.TheVariants.{Request, Checkpoint, NoteKey, NoteMatch, Consistency}
use Rattle.sig_request.specs.ConsistencyRequest.{consistency_request}
use Rattle.sig_program.specs.Head.{HoldsOfHead}
use Rattle.sig_request.specs.declared.consistency_request.ConsistencyRequest.{ConsistencyRequest}
use Rattle.sig_request.specs.ReadFrom.{IsRequestOf}
use Rattle.sig_program.specs.Verdict.{IsLinkVerdict}

abbrev pub consistency_links : List Link
consistency_links = Request ∷ Checkpoint ∷ NoteKey ∷ NoteMatch ∷ Consistency ∷ []

-- the hashes show that the new tree has the tree of the old size and root as its first leaves
abbrev pub IsGrown : ConsistencyRequest → Type 0
IsGrown request =
    IsConsistent request.old_size request.tree_size request.hashes request.old_root request.root_hash

-- what a link requires of the tree head of a request of `consistency`, which is that of the new tree
abbrev pub HoldsOfGrownHead : ConsistencyRequest → Link → Type 0
HoldsOfGrownHead request = HoldsOfHead request.head request.tree_size request.root_hash

-- what a link requires of a request of `consistency`, if all links before it hold
abbrev pub HoldsOfConsistency : ConsistencyRequest → Link → Type 0
HoldsOfConsistency request Checkpoint = HoldsOfGrownHead request Checkpoint
HoldsOfConsistency request NoteKey = HoldsOfGrownHead request NoteKey
HoldsOfConsistency request NoteMatch = HoldsOfGrownHead request NoteMatch
HoldsOfConsistency request Consistency = IsGrown request
HoldsOfConsistency request other = Unit {0}

-- a link holds of a text: the text is a request of `consistency`, and the link holds of it
abbrev pub HoldsConsistency : List ℕ → Link → Type 0
HoldsConsistency text link =
    (request : ConsistencyRequest) × IsRequestOf consistency_request text request × HoldsOfConsistency request link

-- the first failing link of a request, or `None`
abbrev pub IsConsistencyVerdict : ConsistencyRequest → Option Link → Type 0
IsConsistencyVerdict request = IsLinkVerdict (HoldsOfConsistency request) consistency_links
