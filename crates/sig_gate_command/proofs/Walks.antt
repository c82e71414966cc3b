-- What the bundles ask for is added bundle by bundle and artifact by artifact.
use Rattle.std.proofs.Common.{◌≡◌, ◌<◌, ◌≤◌, ◌+◌, ◌∙◌, ℕ, ℤ, Bool, true, false, List, [], ◌∷◌, ◌++◌, length, take, drop, get_or, inl, inr}
use Rattle.std.proofs.Common.{Option, Some, None, Result, Ok, Err, IfOk, ap, arith, refl, subst, sym}
use Rattle.std.proofs.lemmas.List.{append-nil, append_assoc, take-append-drop, take_all, take_more}
use Rattle.std.proofs.lemmas.List.Elements.{All-contains_itself, All-weaker}
use Rattle.std.proofs.lemmas.Result.{IfOk-weaker}
use Rattle.sig_base.proofs.RuleLaws.{none_fails}
use Rattle.sig_base.specs.ByText.{text_lookup}
use Rattle.sig_base.specs.declared.checker.AcceptedRow.{AcceptedRow}
use Rattle.sig_base.specs.declared.memory.OutOfMemory.{OutOfMemory}
use Rattle.sig_dsse.specs.declared.artifact_digest.ArtifactDigest.{ArtifactDigest}
use Rattle.sig_gate_command.proofs.AskedRows.{all-rows-one, bytes-joined, one-rows, rows-cut, rows-joined, rows-single, within-front}
use Rattle.sig_gate_command.specs.AskedRoots.{inputs_at}
use Rattle.sig_gate_command.specs.Questions.{AreRows, AreWithin, IsQuestionsDocument, artifact_inputs, each_once}
use Rattle.sig_gate_command.specs.Questions.{inputs_in, inputs_of_all, inputs_under}
use Rattle.sig_gate_command.specs.RowList.{HasAdded, HasAddedOf, HasAddedRows, HasRoom, IsListSoFar, IsSomeList}
use Rattle.sig_gate_command.specs.declared.row_list.RowList.{RowList}
use Rattle.sig_json.specs.Data.{Data, depth}
use Rattle.sig_json.specs.Document.{document_of}
use Rattle.sig_json.specs.Read.{max_depth}
use Rattle.sig_json.specs.Tree.{document_tree}
use Rattle.sig_json.specs.Written.{compact_text}
use Rattle.sig_manifest.specs.Artifact.{Asked, artifact_view}
use Rattle.sig_manifest.specs.Manifest.{Gate, artifacts_view, manifest_view}
use Rattle.sig_manifest.specs.declared.artifact.Artifact.{Artifact}
use Rattle.sig_manifest.specs.declared.manifest.Manifest.{Manifest}
use Rattle.sig_questions.proofs.AskedRoots.{root_refused}
use Rattle.sig_questions.specs.Asked.{IsAskedBy}
use Rattle.sig_questions.specs.AskedRoot.{IsAskedRootIn}
use Rattle.sig_questions.specs.Questions.{AreQuestions, HoldsUnasked, IsDecided, QuestionsAreOneList, QuestionsHaveSchemes, question_links}
use Rattle.sig_questions.specs.Rows.{HasScheme, bytes_of_rows}
use Rattle.sig_questions.specs.declared.listing.NoQuestions.TheVariants.{Link as Refused, TooLong}
use Rattle.sig_reply.proofs.RowsTexts.{list_of-whole, no-brackets}
use Rattle.sig_reply.specs.RowsText.{IsDocumentOf, rows_text}
use Rattle.sig_verify.specs.Links.{Inputs}
use Rattle.sig_verify.specs.Outcome.{inputs_of}
use Rattle.sig_verify.specs.declared.link.Link.{Link}
use Rattle.sig_verify.specs.declared.link.Link.TheVariants.{RootJson}
use Rattle.std.specs.Prelude.{All, Contains, ◌↔◌}

-- ---- a bundle

module _ (one : QuestionsAreOneList) (i : Inputs) (before : List AcceptedRow) where
  -- its signatures are listed, and were added or have no room
  pub bundle-listed : (asked : List AcceptedRow) (most : ℕ) (rows : RowList) (added : Bool) → IsDecided i most (Ok asked)
      → ((row : AcceptedRow) → Contains asked row ↔ IsAskedBy i row) → HasAddedRows (before ++ asked) rows added
      → HasAdded i before rows added
  bundle-listed asked most rows true decided its listed =
      (asked, inl (record { links = decided.0; are = decided.1; asked = its }), listed)
  bundle-listed asked most rows false decided its long = λ other are within.
      let same : other ≡ asked =
      one-rows one i other asked are (inl (record { links = decided.0; are = decided.1; asked = its })) in
      let short : length (rows_text (each_once (before ++ asked))) ≤ rows.most =
      subst (λ (all : List AcceptedRow). length (rows_text (each_once (before ++ all))) ≤ rows.most) same within.short in
      omega (arith, long, short)

  -- they have more bytes than are left
  pub bundle-long : (rows : RowList) → IsDecided i rows.left (Err TooLong) → IsListSoFar before rows
      → HasAdded i before rows false
  bundle-long rows (links, (asked, are, long)) so_far other (inl its) within =
      let same = ap bytes_of_rows (one i other asked its.are are) in
      omega (arith, within.few, bytes-joined before other, same, long, so_far.spent)
  bundle-long rows (links, (asked, are, long)) so_far other (inr none) within =
      absurd (none_fails (HoldsUnasked i) question_links none.link links none.fails)

module _ (i : Inputs) (before : List AcceptedRow) where
  -- a link fails whatever is accepted
  pub bundle-refused : (most : ℕ) (link : Link) (rows : RowList) → IsDecided i most (Err (Refused link))
      → IsListSoFar before rows → HasAdded i before rows true
  bundle-refused most link rows fails so_far = (
    [],
    inr (record { link = link; fails = fails; none = refl }),
    subst (λ (all : List AcceptedRow). IsListSoFar all rows) (sym (append-nil before)) so_far,
  )

  -- the text of the trusted root is not one
  pub bundle-unrooted : (rows : RowList) → IsAskedRootIn i.root i.now (Err (Refused RootJson)) → IsListSoFar before rows
      → HasAdded i before rows true
  bundle-unrooted rows unread so_far =
      bundle-refused 0 RootJson rows (root_refused i.root i.bundle i.now i.digest 0 (Refused RootJson) unread) so_far

-- ---- several

pub single : (i : Inputs) (before : List AcceptedRow) (rows : RowList) (added : Bool) → QuestionsAreOneList
    → HasAdded i before rows added → HasAddedOf (i ∷ []) before rows added
single i before rows true one (its, are, listed) = (its, rows-single i its are, listed)
single i before rows false one past = λ its all within.
    let (first, rest, split, is, none) = all in
    past first is (subst (λ (list : List AcceptedRow). AreWithin rows.most (before ++ list))
    (split ∙ ap (λ back. first ++ back) none ∙ append-nil first) within)

pub none-yet : (before : List AcceptedRow) (rows : RowList) → IsListSoFar before rows → HasAddedOf [] before rows true
none-yet before rows so_far =
    ([], refl, subst (λ (all : List AcceptedRow). IsListSoFar all rows) (sym (append-nil before)) so_far)

-- what more ask for is added
pub joined : (xs ys : List Inputs) (before : List AcceptedRow) (old new : RowList)
    → HasAddedOf xs before old true
    → ((so_far : List AcceptedRow) → IsListSoFar so_far old → HasAddedOf ys so_far new true)
    → HasAddedOf (xs ++ ys) before new true
joined xs ys before old new (its, are, listed) more =
    let (others, after, all) = more (before ++ its) listed in (
      its ++ others,
      rows-joined xs ys its others are after,
      subst (λ (rows : List AcceptedRow). IsListSoFar rows new) (append_assoc before its others) all,
    )

-- and has no room
pub past : QuestionsAreOneList → (xs ys zs : List Inputs) (before : List AcceptedRow) (old new : RowList)
    → HasAddedOf xs before old true
    → ((so_far : List AcceptedRow) → IsListSoFar so_far old → HasAddedOf ys so_far new false)
    → HasAddedOf (xs ++ (ys ++ zs)) before new false
past one xs ys zs before old new (its, are, listed) none rows all within =
    let cut = rows-cut xs (ys ++ zs) rows all in
    let after = rows-cut ys zs cut.back cut.others in
    let same : cut.front ≡ its = all-rows-one one xs cut.front its cut.first are in
    let whole : before ++ rows ≡ ((before ++ its) ++ after.front) ++ after.back =
    ap (λ front. before ++ front) (cut.whole ∙ ap (λ front. front ++ cut.back) same
    ∙ ap (λ back. its ++ back) after.whole)
    ∙ sym (append_assoc before its (after.front ++ after.back))
    ∙ sym (append_assoc (before ++ its) after.front after.back) in
    none (before ++ its) listed after.front after.first
    (within-front new.most ((before ++ its) ++ after.front) after.back
    (subst (AreWithin new.most) whole within))

-- the list is of some signatures afterwards
pub some-list : (xs : List Inputs) (before : List AcceptedRow) (rows : RowList) → HasAddedOf xs before rows true
    → IsSomeList rows
some-list xs before rows (its, _, listed) = (before ++ its, listed)

-- ---- the bundles of an artifact, under a trusted root at a time

module _ (root : List ℕ) (now : ℤ) (d : ArtifactDigest) where
  inputs-joined : (a b : List (List ℕ)) → inputs_at root now d (a ++ b) ≡ inputs_at root now d a ++ inputs_at root now d b
  inputs-joined [] b = refl
  inputs-joined (bundle ∷ a) b = ap (λ rest. inputs_of root now d bundle ∷ rest) (inputs-joined a b)

  module _ (bundles : List (List ℕ)) (place : ℕ) (bundle : List ℕ) (below : place < length bundles)
      (is : bundle ≡ get_or bundles place bundle) where
    pub inputs-more : inputs_at root now d (take (place + 1) bundles)
        ≡ inputs_at root now d (take place bundles) ++ inputs_of root now d bundle ∷ []
    inputs-more =
        ap (inputs_at root now d) (take_more bundles place bundle below ∙ ap (λ b. take place bundles ++ b ∷ []) (sym is))
        ∙ inputs-joined (take place bundles) (bundle ∷ [])

    pub inputs-split : inputs_at root now d bundles
        ≡ inputs_at root now d (take place bundles) ++ (inputs_of root now d bundle ∷ []
        ++ inputs_at root now d (drop (place + 1) bundles))
    inputs-split =
        ap (inputs_at root now d) (sym (take-append-drop (place + 1) bundles))
        ∙ inputs-joined (take (place + 1) bundles) (drop (place + 1) bundles)
        ∙ ap (λ front. front ++ inputs_at root now d (drop (place + 1) bundles)) inputs-more
        ∙ append_assoc (inputs_at root now d (take place bundles)) (inputs_of root now d bundle ∷ [])
        (inputs_at root now d (drop (place + 1) bundles))

    pub bundle-more : QuestionsAreOneList → (before : List AcceptedRow) (old new : RowList)
        → HasAddedOf (inputs_at root now d (take place bundles)) before old true
        → ((so_far : List AcceptedRow) → IsListSoFar so_far old → HasAdded (inputs_of root now d bundle) so_far new true)
        → HasAddedOf (inputs_at root now d (take (place + 1) bundles)) before new true
    bundle-more one before old new was more =
        subst (λ (is : List Inputs). HasAddedOf is before new true) (sym inputs-more)
        (joined (inputs_at root now d (take place bundles)) (inputs_of root now d bundle ∷ []) before old new was
        (λ so_far listed. single (inputs_of root now d bundle) so_far new true one (more so_far listed)))

    pub bundle-past : QuestionsAreOneList → (before : List AcceptedRow) (old new : RowList)
        → HasAddedOf (inputs_at root now d (take place bundles)) before old true
        → ((so_far : List AcceptedRow) → IsListSoFar so_far old → HasAdded (inputs_of root now d bundle) so_far new false)
        → HasAddedOf (inputs_at root now d bundles) before new false
    bundle-past one before old new was none =
        subst (λ (is : List Inputs). HasAddedOf is before new false) (sym inputs-split)
        (past one (inputs_at root now d (take place bundles)) (inputs_of root now d bundle ∷ [])
        (inputs_at root now d (drop (place + 1) bundles)) before old new was
        (λ so_far listed. single (inputs_of root now d bundle) so_far new false one (none so_far listed)))

  pub bundles-whole : (bundles : List (List ℕ)) (place : ℕ) (before : List AcceptedRow) (rows : RowList)
      → length bundles ≤ place → HasAddedOf (inputs_at root now d (take place bundles)) before rows true
      → HasAddedOf (inputs_at root now d bundles) before rows true
  bundles-whole bundles place before rows all is =
      subst (λ (bs : List (List ℕ)). HasAddedOf (inputs_at root now d bs) before rows true) (take_all place bundles all) is

-- under the trusted root that is named
pub under-root : (gate : Gate) (x : Asked) (before : List AcceptedRow) (rows : RowList) (added : Bool) (root : List ℕ)
    → text_lookup x.root gate.roots ≡ Some root
    → HasAddedOf (inputs_at root gate.now x.digest x.bundles) before rows added
    → HasAddedOf (artifact_inputs gate x) before rows added
under-root gate x before rows added root named is =
    subst (λ (is : List Inputs). HasAddedOf is before rows added) (sym (ap (inputs_under gate x) named)) is

-- an artifact without bundles asks for nothing
pub no-bundles : (gate : Gate) (x : Asked) (before : List AcceptedRow) (rows : RowList) → x.bundles ≡ []
    → IsListSoFar before rows → HasAddedOf (artifact_inputs gate x) before rows true
no-bundles gate x before rows empty so_far =
    subst (λ (is : List Inputs). HasAddedOf is before rows true) (sym (none (text_lookup x.root gate.roots)))
    (none-yet before rows so_far)
  where
    none : (found : Option (List ℕ)) → inputs_under gate x found ≡ []
    none None = refl
    none (Some root) = ap (inputs_in gate x root) empty

-- ---- the artifacts

module _ (gate : Gate) where
  all-joined : (a b : List Asked) → inputs_of_all gate (a ++ b) ≡ inputs_of_all gate a ++ inputs_of_all gate b
  all-joined [] b = refl
  all-joined (x ∷ a) b =
      ap (λ rest. artifact_inputs gate x ++ rest) (all-joined a b)
      ∙ sym (append_assoc (artifact_inputs gate x) (inputs_of_all gate a) (inputs_of_all gate b))

  views-joined : (a b : List Artifact) → artifacts_view (a ++ b) ≡ artifacts_view a ++ artifacts_view b
  views-joined [] b = refl
  views-joined (x ∷ a) b = ap (λ rest. artifact_view x ∷ rest) (views-joined a b)

  -- of the first artifacts
  abbrev pub inputs_before : List Artifact → ℕ → List Inputs
  inputs_before artifacts place = inputs_of_all gate (artifacts_view (take place artifacts))

  module _ (artifacts : List Artifact) (place : ℕ) (x : Artifact) (below : place < length artifacts)
      (is : x ≡ get_or artifacts place x) where
    before-more : inputs_before artifacts (place + 1)
        ≡ inputs_before artifacts place ++ artifact_inputs gate (artifact_view x)
    before-more =
        ap (λ xs. inputs_of_all gate (artifacts_view xs))
        (take_more artifacts place x below ∙ ap (λ y. take place artifacts ++ y ∷ []) (sym is))
        ∙ ap (inputs_of_all gate) (views-joined (take place artifacts) (x ∷ []))
        ∙ all-joined (artifacts_view (take place artifacts)) (artifact_view x ∷ [])
        ∙ ap (λ back. inputs_before artifacts place ++ back) (append-nil (artifact_inputs gate (artifact_view x)))

    all-split : inputs_of_all gate (artifacts_view artifacts)
        ≡ inputs_before artifacts place ++ (artifact_inputs gate (artifact_view x)
        ++ inputs_of_all gate (artifacts_view (drop (place + 1) artifacts)))
    all-split =
        ap (λ xs. inputs_of_all gate (artifacts_view xs)) (sym (take-append-drop (place + 1) artifacts))
        ∙ ap (inputs_of_all gate) (views-joined (take (place + 1) artifacts) (drop (place + 1) artifacts))
        ∙ all-joined (artifacts_view (take (place + 1) artifacts)) (artifacts_view (drop (place + 1) artifacts))
        ∙ ap (λ front. front ++ inputs_of_all gate (artifacts_view (drop (place + 1) artifacts))) before-more
        ∙ append_assoc (inputs_before artifacts place) (artifact_inputs gate (artifact_view x))
        (inputs_of_all gate (artifacts_view (drop (place + 1) artifacts)))

    pub artifact-more : (old new : RowList) → HasAddedOf (inputs_before artifacts place) [] old true
        → ((so_far : List AcceptedRow) → IsListSoFar so_far old
        → HasAddedOf (artifact_inputs gate (artifact_view x)) so_far new true)
        → HasAddedOf (inputs_before artifacts (place + 1)) [] new true
    artifact-more old new was more =
        subst (λ (is : List Inputs). HasAddedOf is [] new true) (sym before-more)
        (joined (inputs_before artifacts place) (artifact_inputs gate (artifact_view x)) [] old new was more)

    pub artifact-past : QuestionsAreOneList → (old new : RowList) → HasAddedOf (inputs_before artifacts place) [] old true
        → ((so_far : List AcceptedRow) → IsListSoFar so_far old
        → HasAddedOf (artifact_inputs gate (artifact_view x)) so_far new false)
        → HasAddedOf (inputs_of_all gate (artifacts_view artifacts)) [] new false
    artifact-past one old new was none =
        subst (λ (is : List Inputs). HasAddedOf is [] new false) (sym all-split)
        (past one (inputs_before artifacts place) (artifact_inputs gate (artifact_view x))
        (inputs_of_all gate (artifacts_view (drop (place + 1) artifacts))) [] old new was none)

-- ---- the document

module _ (manifest : Manifest) (most : ℕ) where
  pub document-past : (rows : RowList) → rows.most ≡ most
      → HasAddedOf (inputs_of_all (manifest_view manifest) (artifacts_view manifest.artifacts)) [] rows false
      → IsQuestionsDocument most (manifest_view manifest) None
  document-past rows same none all are within =
      none all are (subst (λ (n : ℕ). AreWithin n all) (sym same) within)

  -- two brackets have no room
  pub document-none : most < 2 → IsQuestionsDocument most (manifest_view manifest) None
  document-none small all are within =
      let least : most < length (rows_text (each_once all)) = no-brackets most (each_once all) small in
      omega (arith, within.short, least)

  pub document-whole : (place : ℕ) (rows : RowList) (shown : Data) (text : List ℕ)
      → length manifest.artifacts ≤ place → rows.most ≡ most
      → HasAddedOf (inputs_before (manifest_view manifest) manifest.artifacts place) [] rows true
      → shown ≡ document_tree rows.list → text ≡ compact_text shown
      → (depth shown ≤ max_depth → document_of text ≡ Ok shown)
      → IsQuestionsDocument most (manifest_view manifest) (Some text)
  document-whole place rows shown text all same (its, are, listed) tree written reads =
      let whole = list_of-whole rows.most (each_once its) (document_tree rows.list) shown rows.size text listed.listed tree
      written reads in (
        its,
        subst (λ (xs : List Artifact). AreRows (inputs_of_all (manifest_view manifest) (artifacts_view xs)) its)
            (take_all place manifest.artifacts all) are,
        omega (arith, listed.spent),
        subst (λ (n : ℕ). IsDocumentOf n (each_once its) (Some text)) same whole,
      )

-- ---- what a bundle asks for, as it is added

pub bundle-added : QuestionsAreOneList → (i : Inputs) (before asked shown : List AcceptedRow) (most : ℕ) (new : RowList)
    (r : Result Bool OutOfMemory) → shown ≡ asked → IsDecided i most (Ok asked)
    → ((row : AcceptedRow) → Contains asked row ↔ IsAskedBy i row) → IfOk r (HasAddedRows (before ++ shown) new)
    → IfOk r (HasAdded i before new)
bundle-added one i before asked shown most new r same decided its =
    IfOk-weaker r (HasAddedRows (before ++ shown) new) (HasAdded i before new) (λ added is.
    bundle-listed one i before asked most new added decided its
    (subst (λ (all : List AcceptedRow). HasAddedRows (before ++ all) new added) same is))

pub all-schemes : QuestionsHaveSchemes → (i : Inputs) (rows shown : List AcceptedRow) → shown ≡ rows → AreQuestions i rows
    → All HasScheme shown
all-schemes have i rows shown same are =
    subst (All HasScheme) (sym same)
    (All-weaker (Contains rows) HasScheme (have i rows are) rows (All-contains_itself rows))

-- they have at most as many bytes as are left
pub all-left : (i : Inputs) (rows shown : List AcceptedRow) (most : ℕ) → shown ≡ rows → IsDecided i most (Ok rows)
    → bytes_of_rows shown ≤ most
all-left i rows shown most same decided =
    subst (λ (all : List AcceptedRow). bytes_of_rows all ≤ most) (sym same) decided.2

pub has-room : (rows : RowList) → IsSomeList rows → HasRoom rows
has-room rows (before, is) = record {
  list = rw is.listed.tree refl;
  room = is.listed.room;
  least = omega (arith, is.listed.least);
}
