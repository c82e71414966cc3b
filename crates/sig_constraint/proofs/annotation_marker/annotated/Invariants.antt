use Rattle.std.proofs.Common.{◌≡◌}
use Rattle.std.specs.Prelude.{IsSome, option_map}
use Rattle.sig_json.specs.Find.{as_object}
use Rattle.sig_json.specs.Tree.{document_tree}
use Rattle.sig_payload.specs.Signing.{seen_optional}
use Rattle.sig_constraint.specs.Marked.{annotations_of, with_texts}
use Rattle.sig_constraint.proofs.annotation_marker.annotated.Given as goal

-- the object so far, with the texts that are left, is what is meant
abbrev pub invariant-annotations : goal.invariant-annotations
invariant-annotations l =
    (with_texts l.name-iterator (document_tree l.extra)
    ≡ with_texts l.fn.annotations (annotations_of (option_map seen_optional l.optional)))
    × IsSome (as_object (document_tree l.extra))
