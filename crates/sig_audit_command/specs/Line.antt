-- The lines of a reply of `audit` of status 0.
use Rattle.std.specs.Prelude.{◌≡◌, ◌⊎◌, ℕ, List, [], ◌++◌, codes, decimal, length, Option, Some, None}
use Rattle.sig_audit.specs.Audited.{AreListed, chain_of}
use Rattle.sig_audit.specs.Faults.{IsLatestSize}
use Rattle.sig_audit.specs.Fronts.{EndsInList}
use Rattle.sig_audit.specs.declared.heads.AuditHead.{AuditHead}
use Rattle.sig_audit.specs.declared.heads.Watch.{Watch}
use Rattle.sig_reply.specs.SecondLine.{ShowsCollision, other_line}
use Rattle.sig_reply.specs.declared.reply.Reply.{Reply}
use Rattle.sig_request.specs.declared.audit_request.AuditRequest.{AuditRequest}

-- the number of heads, that of watched entries, and the last size; then the second line
abbrev pub audited : ℕ → ℕ → ℕ → List ℕ → Reply
audited heads watched size second = record {
  status = 0;
  text =
      codes "audited " ++ (decimal heads ++ (codes " " ++ (decimal watched ++
      (codes " " ++ (decimal size ++ (codes "\n" ++ second))))));
}

-- the line for this number of heads
abbrev pub prefixes_line : ℕ → List ℕ
prefixes_line count = codes "prefixes " ++ (decimal count ++ codes "\n")

-- The line of a list beside the heads: it is not that of the last head; or it is, each head has the size and the root
-- of the list's first entries, and each watched entry is the list's at its index; or it is, not all of these are, and
-- two different byte strings of equal SHA-256 are shown.
abbrev pub IsListLineOf : List (List ℕ) → List AuditHead → List Watch → List ℕ → Type 0
IsListLineOf entries heads watched line =
    (¬ EndsInList entries (chain_of heads) × (line ≡ other_line))
    ⊎ (EndsInList entries (chain_of heads) × AreListed entries (chain_of heads) watched
    × (line ≡ prefixes_line (length heads)))
    ⊎ (EndsInList entries (chain_of heads) × ¬ AreListed entries (chain_of heads) watched × ShowsCollision line)

-- the second line: no line without entries
abbrev pub IsListLine : Option (List (List ℕ)) → List AuditHead → List Watch → List ℕ → Type 0
IsListLine None heads watched line = line ≡ []
IsListLine (Some entries) heads watched line = IsListLineOf entries heads watched line

-- the reply where every link holds of a request with these heads
abbrev pub IsAuditedReply : AuditRequest → List AuditHead → Reply → Type 0
IsAuditedReply request heads reply =
    (size : ℕ) × IsLatestSize heads size
    × ((second : List ℕ) × IsListLine request.entries heads request.watched second
    × (reply ≡ audited (length heads) (length request.watched) size second))
