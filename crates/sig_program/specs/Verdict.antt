-- The verdict on links, in their order.
use Rattle.std.specs.Prelude.{List, Option, Some, None}
use Rattle.std.specs.List.{AllByRecursion}
use Rattle.sig_base.specs.Rules.{FailsFirst}
use Rattle.sig_verify.specs.declared.link.Link.{Link}

-- the first of the links that fails, or `None`
abbrev pub IsLinkVerdict : (Link → Type 0) → List Link → Option Link → Type 0
IsLinkVerdict Holds links None = AllByRecursion Holds links
IsLinkVerdict Holds links (Some link) = FailsFirst Holds links link
