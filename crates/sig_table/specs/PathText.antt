-- *Path text*: how the path of a member is written: `verificationMaterial.tlogEntries[0].inclusionProof`.
use Rattle.std.specs.Prelude.{ℕ, List, [], ◌∷◌, ◌++◌, codes}
use Rattle.std.specs.Fmt.{decimal}
use Rattle.std.specs.List.{flat_map}
use Rattle.sig_table.specs.declared.path.Step.{Step}
use Rattle.sig_table.specs.declared.path.Step.TheVariants.{Name, Index}

-- a step after others: a point and the name, or the index in brackets
abbrev pub step_text : Step → List ℕ
step_text (Name name) = codes "." ++ name
step_text (Index index) = codes "[" ++ (decimal index ++ codes "]")

-- the first step: its name needs no point
abbrev pub first_text : Step → List ℕ
first_text (Name name) = name
first_text (Index index) = step_text (Index index)

-- the document itself is a point
abbrev pub path_text : List Step → List ℕ
path_text [] = codes "."
path_text (first ∷ steps) = first_text first ++ flat_map step_text steps
