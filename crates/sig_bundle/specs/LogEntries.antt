-- Lists of log entries: what the entries are for which no memory is held.
use Rattle.std.specs.Prelude.{ℕ, List, [], ◌∷◌, Option, Some, None, pos}
use Rattle.sig_bundle.specs.declared.log_entries.Held.{Held}
use Rattle.sig_bundle.specs.declared.log_entries.Held.TheVariants.{WithoutMembers, EmptyId, Whole}
use Rattle.sig_bundle.specs.declared.material.TransparencyLogEntry.{TransparencyLogEntry}

-- the entry of this log id whose every other member is absent
abbrev pub of_id : Option (List ℕ) → TransparencyLogEntry
of_id log_id = record {
  log_index = pos 0;
  log_id = log_id;
  kind_version = None;
  integrated_time = pos 0;
  inclusion_promise = None;
  inclusion_proof = None;
  canonicalized_body = [];
}

-- the entry whose every member is absent
abbrev pub no_members : TransparencyLogEntry
no_members = of_id None

-- the entry with an empty log id whose every other member is absent
abbrev pub empty_id : TransparencyLogEntry
empty_id = of_id (Some [])

-- the entry for which this is held
abbrev pub whole : Held → TransparencyLogEntry
whole WithoutMembers = no_members
whole EmptyId = empty_id
whole (Whole entry) = entry

-- the entry of a list of one
abbrev pub only_entry : List TransparencyLogEntry → Option TransparencyLogEntry
only_entry [] = None
only_entry (entry ∷ []) = Some entry
only_entry (entry ∷ other ∷ others) = None
