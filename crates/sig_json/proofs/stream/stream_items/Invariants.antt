use Rattle.std.proofs.Common.{length, map, option_map}
use Rattle.sig_json.proofs.StreamedLists.{ItemsSoFar}
use Rattle.sig_json.proofs.stream.stream_items.Given as goal

abbrev pub invariant-elements : goal.invariant-elements
invariant-elements g l =
    ItemsSoFar g.E.ElementReader.meaning l.float l.depth l.initial.reader l.reader
    (option_map (map g.E.ElementReader.seen_as.item) l.found)

abbrev pub decreases-elements : goal.decreases-elements
decreases-elements g l = length l.reader
