-- What `questions gate` writes: every signature that the reply of `gate` can depend on.
use Rattle.std.specs.Prelude.{◌≡◌, ◌⊎◌, ◌↔◌, ℕ, ◌^◌, ◌≤◌, List, [], ◌∷◌, ◌++◌, map, length, Contains}
use Rattle.std.specs.Prelude.{Option, Some, None}
use Rattle.std.specs.List.{AllByRecursion}
use Rattle.sig_base.specs.ByText.{text_lookup}
use Rattle.sig_base.specs.Rules.{FailsFirst}
use Rattle.sig_base.specs.declared.checker.AcceptedRow.{AcceptedRow}
use Rattle.sig_gate.specs.BundleVerdict.{inputs}
use Rattle.sig_gate_command.specs.Request.{IsGateText, IsUnread}
use Rattle.sig_manifest.specs.Artifact.{Asked}
use Rattle.sig_manifest.specs.Manifest.{Gate}
use Rattle.sig_manifest.specs.Read.{Parts}
use Rattle.sig_questions.specs.Asked.{IsAskedBy}
use Rattle.sig_questions.specs.Questions.{AreQuestions, HoldsUnasked, question_links}
use Rattle.sig_questions.specs.Rows.{bytes_of_rows}
use Rattle.sig_reply.specs.Reply.{listed, no_request}
use Rattle.sig_reply.specs.RowsText.{FitsBeside, IsDocumentOf, IsReadBack, rows_text}
use Rattle.sig_reply.specs.declared.reply.Reply.{Reply}
use Rattle.sig_verify.specs.Links.{Inputs}
use Rattle.sig_verify.specs.declared.link.Link.{Link}
use Rattle.sig_witness_command.specs.Questions.{each_once_after}

-- ---- what the chain of trust of each bundle is about

-- the inputs of these bundles of an artifact, under a trusted root's text
abbrev pub inputs_in : Gate → Asked → List ℕ → List (List ℕ) → List Inputs
inputs_in gate x root bundles = map (inputs gate x root) bundles

-- the inputs under the trusted root that the artifact names, if it is there
abbrev pub inputs_under : Gate → Asked → Option (List ℕ) → List Inputs
inputs_under gate x None = []
inputs_under gate x (Some root) = inputs_in gate x root x.bundles

abbrev pub artifact_inputs : Gate → Asked → List Inputs
artifact_inputs gate x = inputs_under gate x (text_lookup x.root gate.roots)

abbrev pub inputs_of_all : Gate → List Asked → List Inputs
inputs_of_all gate [] = []
inputs_of_all gate (x ∷ xs) = artifact_inputs gate x ++ inputs_of_all gate xs

-- of all bundles of all artifacts, in order
abbrev pub gate_inputs : Gate → List Inputs
gate_inputs gate = inputs_of_all gate gate.artifacts

-- ---- what they ask for

-- a bundle asks for a signature: no link up to `issuer` fails whatever is accepted, and a link asks for it
abbrev pub AsksFor : Inputs → AcceptedRow → Type 0
AsksFor i row = AllByRecursion (HoldsUnasked i) question_links × IsAskedBy i row

-- these are the signatures that a bundle asks for, in the order of the questions
pub record AreItsRows (i : Inputs) (rows : List AcceptedRow) : Type 0 where
  pub links : AllByRecursion (HoldsUnasked i) question_links
  pub are : AreQuestions i rows
  pub asked : (row : AcceptedRow) → Contains rows row ↔ IsAskedBy i row

-- it does not ask for any, since a link up to `issuer` fails whatever is accepted
pub record HasNone (i : Inputs) (rows : List AcceptedRow) : Type 0 where
  pub link : Link
  pub fails : FailsFirst (HoldsUnasked i) question_links link
  pub none : rows ≡ []

abbrev pub AreRowsOf : Inputs → List AcceptedRow → Type 0
AreRowsOf i rows = AreItsRows i rows ⊎ HasNone i rows

-- those of all bundles, one after the other
abbrev pub AreRows : List Inputs → List AcceptedRow → Type 0
AreRows [] rows = rows ≡ []
AreRows (i ∷ is) rows =
    (first : List AcceptedRow) × (later : List AcceptedRow) × (rows ≡ first ++ later) × AreRowsOf i first × AreRows is later

abbrev pub AreGateRows : Gate → List AcceptedRow → Type 0
AreGateRows gate rows = AreRows (gate_inputs gate) rows

-- each row once, in the order in which they come first
abbrev pub each_once : List AcceptedRow → List AcceptedRow
each_once rows = each_once_after [] rows

-- ---- the reply

-- the greatest number of bytes of the signatures, each counted as often as a bundle asks for it
abbrev pub most_asked : ℕ
most_asked = 2 ^ 26

-- they are not more, and their list, with each once, fits beside the text
pub record Fit (text : List ℕ) (rows : List AcceptedRow) : Type 0 where
  pub few : bytes_of_rows rows ≤ most_asked
  pub beside : FitsBeside text (each_once rows)

-- the text is this manifest, whose bundles ask for these signatures
pub record IsAskedOf (text : List ℕ) (parts : Parts) (rows : List AcceptedRow) : Type 0 where
  pub is : IsGateText text parts
  pub are : AreGateRows parts.0 rows

-- the text is a manifest, and the signatures that its bundles ask for fit
pub record HasQuestions (text : List ℕ) : Type 0 where
  pub parts : Parts
  pub rows : List AcceptedRow
  pub of : IsAskedOf text parts rows
  pub fit : Fit text rows

-- it is a manifest, and they do not
pub record HasNoRoom (text : List ℕ) : Type 0 where
  pub parts : Parts
  pub is : IsGateText text parts
  pub past : (rows : List AcceptedRow) → AreGateRows parts.0 rows → ¬ Fit text rows

-- the text is not a manifest, or the signatures do not fit
abbrev pub IsUnasked : List ℕ → Type 0
IsUnasked text = IsUnread text ⊎ HasNoRoom text

-- The reply of `questions gate`: the list of the signatures, each once, which is read back as them, with status 0 if
-- and only if the text is a manifest and they fit; else `refused request`.
pub record IsGateQuestionsReply (text : List ℕ) (reply : Reply) : Type 0 where
  pub decided : HasQuestions text ⊎ IsUnasked text
  pub succeeds : (reply.status ≡ 0) ↔ HasQuestions text
  pub lists : (parts : Parts) (rows : List AcceptedRow) → IsAskedOf text parts rows → HasQuestions text
      → IsReadBack (each_once rows) × (reply ≡ listed (rows_text (each_once rows)))
  pub refused : IsUnasked text → reply ≡ no_request

-- ---- for private clauses

-- the signatures are few, and their list, with each once, has at most this many bytes
pub record AreWithin (most : ℕ) (rows : List AcceptedRow) : Type 0 where
  pub few : bytes_of_rows rows ≤ most_asked
  pub short : length (rows_text (each_once rows)) ≤ most

-- the document of the signatures that the bundles ask for; `None` if they are not within
abbrev pub IsQuestionsDocument : ℕ → Gate → Option (List ℕ) → Type 0
IsQuestionsDocument most gate None = (rows : List AcceptedRow) → AreGateRows gate rows → ¬ AreWithin most rows
IsQuestionsDocument most gate (Some text) =
    (rows : List AcceptedRow) × AreGateRows gate rows × (bytes_of_rows rows ≤ most_asked)
    × IsDocumentOf most (each_once rows) (Some text)
