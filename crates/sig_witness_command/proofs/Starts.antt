-- The origins of a request, added one after another; and what a request starts from is one.
use Rattle.std.proofs.Common.{◌≡◌, ◌<◌, ◌≤◌, ◌+◌, ◌∙◌, ℕ, List, [], ◌∷◌, ◌++◌, length, take, drop, get_or, inl, inr, Some, None, Ok, Err, ap, refl, subst, sym, Option}
use Rattle.std.proofs.lemmas.List.{append_assoc, take-append-drop, take_all, take_more}
use Rattle.sig_base.specs.ByText.{text_put}
use Rattle.sig_witness.proofs.StateReadings.{same-answers, same-key}
use Rattle.sig_witness.specs.KeptLogs.{new_log}
use Rattle.sig_witness.specs.StateCauses.{IsStateFault}
use Rattle.sig_witness.specs.StateText.{IsStateOf}
use Rattle.sig_witness.specs.declared.kept_log.KeptLog.{KeptLog}
use Rattle.sig_witness.specs.declared.state_error.StateError.{StateError}
use Rattle.sig_witness_command.specs.Start.{AreAdded, HasNoStart, HasUnaddable, IsAdded, IsStart, IsUnaddable, Logs}
use Rattle.sig_witness_command.specs.declared.request.OriginKey.{OriginKey}
use Rattle.sig_witness_command.specs.declared.request.WitnessRequest.{WitnessRequest}

-- ---- one after another

added-push : (logs mid after : Logs) (all : List OriginKey) (one : OriginKey) → AreAdded logs all mid
    → IsAdded mid one after → AreAdded logs (all ++ one ∷ []) after
added-push logs mid after [] one same is =
    (after, subst (λ (l : Logs). IsAdded l one after) same is, refl)
added-push logs mid after (first ∷ later) one (next, step, rest) is =
    (next, step, added-push next mid after later one rest is)

unaddable-after : (logs mid : Logs) (before : List OriginKey) (one : OriginKey) (rest : List OriginKey)
    → AreAdded logs before mid → IsUnaddable mid one → HasUnaddable logs (before ++ one ∷ rest)
unaddable-after logs mid [] one rest same is = inl (subst (λ (l : Logs). IsUnaddable l one) same is)
unaddable-after logs mid (first ∷ later) one rest (next, step, added) is =
    inr (next, step, unaddable-after next mid later one rest added is)

pub added-none : (logs : Logs) (all : List OriginKey) → AreAdded logs (take 0 all) logs
added-none logs all = refl

pub added-more : (logs mid after : Logs) (all : List OriginKey) (place : ℕ) (one : OriginKey) → place < length all
    → one ≡ get_or all place one → AreAdded logs (take place all) mid → IsAdded mid one after
    → AreAdded logs (take (place + 1) all) after
added-more logs mid after all place one below is so_far step =
    let more : take (place + 1) all ≡ take place all ++ one ∷ [] =
    take_more all place one below ∙ ap (λ o. take place all ++ o ∷ []) (sym is) in
    rw more (added-push logs mid after (take place all) one so_far step)

pub added-stop : (logs mid : Logs) (all : List OriginKey) (place : ℕ) (one : OriginKey) → place < length all
    → one ≡ get_or all place one → AreAdded logs (take place all) mid → IsUnaddable mid one → HasUnaddable logs all
added-stop logs mid all place one below is so_far stops =
    let more : take (place + 1) all ≡ take place all ++ one ∷ [] =
    take_more all place one below ∙ ap (λ o. take place all ++ o ∷ []) (sym is) in
    let whole : take place all ++ one ∷ drop (place + 1) all ≡ all =
    sym (append_assoc (take place all) (one ∷ []) (drop (place + 1) all))
    ∙ ap (λ front. front ++ drop (place + 1) all) (sym more) ∙ take-append-drop (place + 1) all in
    subst (HasUnaddable logs) whole (unaddable-after logs mid (take place all) one (drop (place + 1) all) so_far stops)

pub added-done : (logs after : Logs) (all : List OriginKey) (place : ℕ) → length all ≤ place
    → AreAdded logs (take place all) after → AreAdded logs all after
added-done logs after all place whole so_far = rw (take_all place all whole) at so_far

pub ruleset adding = (added-none, added-more, added-stop, added-done)

-- ---- one start

one_added : (logs a b : Logs) (one : OriginKey) → IsAdded logs one a → IsAdded logs one b → a ≡ b
one_added logs a b one is other =
    let same : is.key ≡ other.key =
    same-key is.key other.key (is.scheme ∙ sym other.scheme) (is.info ∙ sym other.info) in
    is.put ∙ ap (λ key. text_put one.origin (new_log key) logs) same ∙ sym other.put

same_added : (logs a b : Logs) (all : List OriginKey) → AreAdded logs all a → AreAdded logs all b → a ≡ b
same_added logs a b [] is other = is ∙ sym other
same_added logs a b (one ∷ later) (next, step, rest) (second, other, others) =
    same_added second a b later
    (subst (λ (l : Logs). AreAdded l later a) (one_added logs next second one step other) rest) others

not_unaddable : (logs after : Logs) (one : OriginKey) → IsAdded logs one after → IsUnaddable logs one → ⊥
not_unaddable logs after one is (inl no_line) = no_line is.line
not_unaddable logs after one is (inr (log, there)) =
    (let both : ◌≡◌ {A = Option KeptLog} None (Some log) = sym is.new ∙ there in cc)

never_added : (logs after : Logs) (all : List OriginKey) → AreAdded logs all after → HasUnaddable logs all → ⊥
never_added logs after [] is has = has
never_added logs after (one ∷ later) (next, step, rest) (inl stops) = not_unaddable logs next one step stops
never_added logs after (one ∷ later) (next, step, rest) (inr (second, other, has)) =
    never_added second after later
    (subst (λ (l : Logs). AreAdded l later after) (one_added logs next second one step other) rest) has

one_state : (text : List ℕ) (a b : Logs) → IsStateOf text a → IsStateOf text b → a ≡ b
one_state text a b is other = (let both = same-answers text (Ok a) (Ok b) is other in cc)

state_or_fault : (text : List ℕ) (a : Logs) (e : StateError) → IsStateOf text a → IsStateFault text e → ⊥
state_or_fault text a e is fault = (let both = same-answers text (Ok a) (Err e) is fault in cc)

pub one_start : (request : WitnessRequest) (a b : Logs) → IsStart request a → IsStart request b → a ≡ b
one_start request a b is other =
    let same = one_state request.state is.kept other.kept is.state other.state in
    same_added other.kept a b request.origins
    (subst (λ (l : Logs). AreAdded l request.origins a) same is.added) other.added

pub no_start : (request : WitnessRequest) (start : Logs) → IsStart request start → HasNoStart request → ⊥
no_start request start is (inl (e, fault)) = state_or_fault request.state is.kept e is.state fault
no_start request start is (inr (kept, state, has)) =
    let same = one_state request.state is.kept kept is.state state in
    never_added kept start request.origins
    (subst (λ (l : Logs). AreAdded l request.origins start) same is.added) has
