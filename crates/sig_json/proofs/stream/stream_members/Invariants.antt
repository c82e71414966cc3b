use Rattle.std.proofs.Common.{length, map, option_map}
use Rattle.sig_json.proofs.StreamedLists.{PartsSoFar}
use Rattle.sig_json.specs.Only.{names_of}
use Rattle.sig_json.proofs.stream.stream_members.Given as goal

abbrev pub invariant-members : goal.invariant-members
invariant-members g l =
    PartsSoFar g.E.ElementReader.meaning (names_of l.names) l.list l.depth l.initial.reader l.reader l.found.items
    l.notes (option_map (map g.E.ElementReader.seen_as.item) l.elements)

abbrev pub decreases-members : goal.decreases-members
decreases-members g l = length l.reader
