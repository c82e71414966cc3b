use Rattle.std.proofs.Common.{◌≡◌}
use Rattle.std.specs.List.{list_all}
use Rattle.sig_json.specs.Tree.{tree}
use Rattle.sig_payload.specs.Annotations.{is_annotated}
use Rattle.sig_payload.proofs.annotations.are_annotated.Given as goal

-- all are there if those that are left are
abbrev pub invariant-annotations : goal.invariant-annotations
invariant-annotations l =
    list_all (is_annotated (tree l.extra)) l.name-iterator ≡ list_all (is_annotated (tree l.extra)) l.fn.annotations
