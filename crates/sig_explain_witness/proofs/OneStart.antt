-- A request of `witness` starts from one list of logs, or there is one reason why it starts from none.
use Rattle.std.proofs.Common.{◌≡◌, ◌∙◌, ℕ, zero, suc, List, [], ◌∷◌, Option, Some, None, Result, Ok, Err, inl, inr}
use Rattle.std.proofs.Common.{ap, refl, subst, sym, take}
use Rattle.sig_base.proofs.OptionSteps.{some_is}
use Rattle.sig_base.proofs.ResultSteps.{err_is, ok_is}
use Rattle.sig_base.specs.ByText.{text_put}
use Rattle.sig_explain_witness.specs.Start.{IsNoStart, StopsAt}
use Rattle.sig_explain_witness.specs.declared.start.NoStart.{NoStart}
use Rattle.sig_explain_witness.specs.declared.start.NoStart.TheVariants.{State, Origin}
use Rattle.sig_witness.proofs.StateReadings.{same-answers, same-key}
use Rattle.sig_witness.specs.KeptLogs.{new_log}
use Rattle.sig_witness.specs.StateCauses.{IsStateFault}
use Rattle.sig_witness.specs.StateText.{IsStateOf}
use Rattle.sig_witness.specs.declared.kept_log.KeptLog.{KeptLog}
use Rattle.sig_witness.specs.declared.state_error.StateError.{StateError}
use Rattle.sig_witness_command.specs.Start.{AreAdded, IsAdded, IsStart, IsUnaddable, Logs}
use Rattle.sig_witness_command.specs.declared.request.OriginKey.{OriginKey}
use Rattle.sig_witness_command.specs.declared.request.WitnessRequest.{WitnessRequest}

abbrev Answer : Type 0
Answer = Result Logs StateError

-- ---- the state

one_state : (text : List ℕ) (a b : Logs) → IsStateOf text a → IsStateOf text b → a ≡ b
one_state text a b p q = ok_is a b (same-answers text (Ok a) (Ok b) p q)

one_fault : (text : List ℕ) (e f : StateError) → IsStateFault text e → IsStateFault text f → e ≡ f
one_fault text e f p q = err_is e f (same-answers text (Err e) (Err f) p q)

not_both : (text : List ℕ) (logs : Logs) (e : StateError) → IsStateOf text logs → IsStateFault text e → ⊥
not_both text logs e p q =
    (let both : ◌≡◌ {A = Answer} (Ok logs) (Err e) = same-answers text (Ok logs) (Err e) p q in cc)

-- ---- the origins

one_added : (logs a b : Logs) (one : OriginKey) → IsAdded logs one a → IsAdded logs one b → a ≡ b
one_added logs a b one is was =
    let same = same-key is.key was.key (is.scheme ∙ sym was.scheme) (is.info ∙ sym was.info) in
    is.put ∙ ap (λ key. text_put one.origin (new_log key) logs) same ∙ sym was.put

not_added : (logs after : Logs) (one : OriginKey) → IsAdded logs one after → IsUnaddable logs one → ⊥
not_added logs after one is (inl no_line) = no_line is.line
not_added logs after one is (inr (log, there)) =
    (let both : ◌≡◌ {A = Option KeptLog} None (Some log) = sym is.new ∙ there in cc)

-- an origin that was added does not stop
stops_here : (logs after : Logs) (first : OriginKey) (later : List OriginKey) → IsAdded logs first after
    → StopsAt logs (first ∷ later) 0 → ⊥
stops_here logs after first later is stop =
    let same : first ≡ stop.one = some_is first stop.one stop.here in
    let stops = subst (λ (l : Logs). IsUnaddable l stop.one) stop.added stop.stops in
    not_added logs after stop.one (subst (λ (o : OriginKey). IsAdded logs o after) same is) stops

-- one that stops after the first stops among the later ones
stops_after : (logs after : Logs) (first : OriginKey) (later : List OriginKey) (place : ℕ) → IsAdded logs first after
    → StopsAt logs (first ∷ later) (suc place) → StopsAt after later place
stops_after logs after first later place is stop =
    let (mid, step, rest) = stop.added in
    let same = one_added logs mid after first step is in
    record {
      next = stop.next;
      added = subst (λ (l : Logs). AreAdded l (take place later) stop.next) same rest;
      one = stop.one;
      here = stop.here;
      stops = stop.stops;
    }

-- where all are added none stops
none_stops : (logs after : Logs) (all : List OriginKey) (place : ℕ) → AreAdded logs all after → StopsAt logs all place
    → ⊥
none_stops logs after [] place are stop = (let here = stop.here in cc)
none_stops logs after (first ∷ later) zero (next, step, rest) stop = stops_here logs next first later step stop
none_stops logs after (first ∷ later) (suc place) (next, step, rest) stop =
    none_stops next after later place rest (stops_after logs next first later place step stop)

one_stop : (logs : Logs) (all : List OriginKey) (p q : ℕ) → StopsAt logs all p → StopsAt logs all q → p ≡ q
one_stop logs [] p q stop other = absurd (let here = stop.here in cc)
one_stop logs (first ∷ later) zero zero stop other = refl
one_stop logs (first ∷ later) zero (suc q) stop other =
    let (next, step, rest) = other.added in absurd (stops_here logs next first later step stop)
one_stop logs (first ∷ later) (suc p) zero stop other =
    let (next, step, rest) = stop.added in absurd (stops_here logs next first later step other)
one_stop logs (first ∷ later) (suc p) (suc q) stop other =
    let (next, step, rest) = stop.added in
    ap suc
    (one_stop next later p q (stops_after logs next first later p step stop)
    (stops_after logs next first later q step other))

-- ---- both

module _ (request : WitnessRequest) where
  pub one_reason : (why other : NoStart) → IsNoStart request why → IsNoStart request other → why ≡ other
  one_reason (State e) (State f) p q = ap State (one_fault request.state e f p q)
  one_reason (State e) (Origin place) p q = absurd (not_both request.state q.kept e q.state p)
  one_reason (Origin place) (State e) p q = absurd (not_both request.state p.kept e p.state q)
  one_reason (Origin place) (Origin index) p q =
      let same = one_state request.state p.kept q.kept p.state q.state in
      let moved = subst (λ (l : Logs). StopsAt l request.origins place) same p.origin in
      ap Origin (one_stop q.kept request.origins place index moved q.origin)

  pub no_reason : (start : Logs) (why : NoStart) → IsStart request start → IsNoStart request why → ⊥
  no_reason start (State e) is stops = not_both request.state is.kept e is.state stops
  no_reason start (Origin place) is stops =
      let same = one_state request.state stops.kept is.kept stops.state is.state in
      none_stops is.kept start request.origins place is.added
      (subst (λ (l : Logs). StopsAt l request.origins place) same stops.origin)
