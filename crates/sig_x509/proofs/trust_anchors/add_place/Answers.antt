use Rattle.std.proofs.Common.{ℕ, List, [], ◌∷◌, ◌++◌, ap, ◌∙◌}
use Rattle.sig_x509.proofs.NamedAnchors.{place_added}
use Rattle.sig_x509.proofs.trust_anchors.add_place.Goals as goal

pub returns : goal.returns
returns c =
    place_added c.args.subject.now c.args.place c.args.by_name.now c.take_places-places.new.by_name c.insert.new.self
    c.in_ok-name.name c.push.new.self c.in_ok-name.ensures.items (c.in_ok-push.ensures.items ∙ ap (λ (ps : List ℕ). ps ++ c.args.place ∷ []) c.take_places-places.ensures.taken)
    c.take_places-places.ensures.kept c.in_ok-insert.ensures.updates
