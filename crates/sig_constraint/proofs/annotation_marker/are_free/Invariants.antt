use Rattle.std.proofs.Common.{◌≡◌}
use Rattle.std.specs.Prelude.{option_map}
use Rattle.std.specs.List.{list_all}
use Rattle.sig_payload.specs.Signing.{seen_optional}
use Rattle.sig_constraint.specs.Marked.{is_free}
use Rattle.sig_constraint.proofs.annotation_marker.are_free.Given as goal

-- all are free if those that are left are
abbrev pub invariant-annotations : goal.invariant-annotations
invariant-annotations l =
    list_all (is_free (option_map seen_optional l.optional)) l.name-iterator
    ≡ list_all (is_free (option_map seen_optional l.optional)) l.fn.annotations
