-- One key more, whose first trust anchor may be before the first so far.
use Rattle.std.proofs.Common.{ℕ, List, Option, take, sym, ap, ◌∙◌, arith}
use Rattle.std.specs.Prelude.{position}
use Rattle.std.proofs.lemmas.List.{take_all}
use Rattle.sig_x509.specs.KeyOrder.{has_key, has_some_key, lesser}
use Rattle.sig_x509.proofs.KeyOrders.{no_keys, one_more_key, some_there, taken_more}
use Rattle.sig_x509.proofs.by_key.first_of_keys.Goals as goal
use Rattle.sig_x509.proofs.by_key.first_of_keys.Goals.{in-Some, in_default}

pub keys-init : goal.keys-init
keys-init c = no_keys c.args.subject.now c.args.anchors.now

pub keys-preserved : goal.keys-preserved
keys-preserved c =
    elim c.match-get.branch [
      | in-Some w ↦
          w.first-is
          ∙ w.lesser-first.ensures
          ∙ ap (λ (o : Option ℕ). lesser o w.first_of_key-found.result.first) c.keys.invariant
          ∙ ap (lesser (position (has_some_key c.args.subject.now (take c.keys.index c.args.keys.now)) c.args.anchors.now))
          (w.first_of_key-found.ensures
          ∙ ap (λ (s : List ℕ). position (has_key s w.wanted-wanted.result.spki.now) c.args.anchors.now)
          w.wanted-wanted.ensures.subject
          ∙ ap (λ (k : List ℕ). position (has_key c.args.subject.now k) c.args.anchors.now) w.wanted-wanted.ensures.spki)
          ∙ one_more_key c.args.subject.now (take c.keys.index c.args.keys.now) w.in-Some.spki.now c.args.anchors.now
          ∙ ap (λ (ks : List (List ℕ)). position (has_some_key c.args.subject.now ks) c.args.anchors.now)
          (sym (taken_more c.args.keys.now c.keys.index w.in-Some.spki.now (sym w.in-Some.ensures)))
      | in_default w ↦
          absurd (some_there c.args.keys.now c.keys.index
          (omega (arith, c.keys-test.true, c.len-index-end.ensures))
          (sym w.in_default.ensures))
    ]

pub returns : goal.returns
returns c =
    c.keys.invariant
    ∙ ap (λ (ks : List (List ℕ)). position (has_some_key c.args.subject.now ks) c.args.anchors.now)
    (take_all c.keys.index c.args.keys.now (omega (arith, c.keys-test.false, c.len-index-end.ensures)))
