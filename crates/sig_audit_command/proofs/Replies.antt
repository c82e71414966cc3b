-- One reply is meant: every link holds, or one is the first that fails.
use Rattle.std.proofs.Common.{◌≡◌, ◌<◌, ◌∙◌, ℕ, inl, inr, ap, arith, lit<, refl, subst, sym}
use Rattle.sig_reply.specs.declared.reply.Reply.{Reply}
use Rattle.sig_audit_command.specs.Link.{link_refusal}
use Rattle.sig_audit_command.specs.Reply.{IsDecided}
use Rattle.sig_audit_command.specs.declared.link.AuditLink.{AuditLink}
use Rattle.sig_audit_command.specs.declared.link.AuditLink.TheVariants.{Request, Checkpoint, NoteKey, Origin}
use Rattle.sig_audit_command.specs.declared.link.AuditLink.TheVariants.{Consistency, Inclusion}

-- a refusal has no status 0
refused-status : (link : AuditLink) → (link_refusal link).status ≡ 0 → ⊥
refused-status Request e = cc
refused-status (Checkpoint place) e = cc
refused-status (NoteKey place) e = cc
refused-status (Origin place) e = cc
refused-status (Consistency place) e = cc
refused-status (Inclusion place) e = cc

refused-small : (link : AuditLink) → (link_refusal link).status < 3
refused-small Request = lit< tt
refused-small (Checkpoint place) = lit< tt
refused-small (NoteKey place) = lit< tt
refused-small (Origin place) = lit< tt
refused-small (Consistency place) = lit< tt
refused-small (Inclusion place) = lit< tt

module _ (Every : Type 0) (First : AuditLink → Type 0) (Made : Reply → Type 0) where
  -- the status is small
  pub decided-small : (reply : Reply) → IsDecided Every First Made reply → reply.status < 3
  decided-small reply is =
      elim is.decided [
        | inl every ↦ let zero = is.succeeds.1 every in omega (arith, zero)
        | inr first ↦ let P : Reply → Type 0 = λ r. r.status < 3 in
            subst P (sym (is.refused first.0 first.1)) (refused-small first.0)
      ]

  -- the reply where every link holds
  pub every-reply : (reply : Reply) → reply.status ≡ 0 → Made reply → Every
      → ((link : AuditLink) → First link → ⊥) → IsDecided Every First Made reply
  every-reply reply zero made every none = record {
    decided = inl every;
    succeeds = (λ _. every, λ _. zero);
    vouched = λ _. made;
    refused = λ link first. absurd (none link first);
  }

  -- the reply where this link is the first that fails
  pub first-reply : (link : AuditLink) → First link → ((other : AuditLink) → First other → other ≡ link) → ¬ Every
      → (reply : Reply) → reply ≡ link_refusal link → IsDecided Every First Made reply
  first-reply link first one never reply same = record {
    decided = inr (link, first);
    succeeds = (
      λ zero. absurd (refused-status link (sym (ap (λ (r : Reply). r.status) same) ∙ zero)),
      λ every. absurd (never every),
    );
    vouched = λ every. absurd (never every);
    refused = λ other is. same ∙ ap link_refusal (sym (one other is));
  }

  -- the parts of a reply serve other links that hold, fail and are made alike
  pub decided-as : (Every2 : Type 0) (First2 : AuditLink → Type 0) (Made2 : Reply → Type 0) → (Every → Every2)
      → (Every2 → Every) → ((link : AuditLink) → First link → First2 link)
      → ((link : AuditLink) → First2 link → First link) → ((reply : Reply) → Made reply → Made2 reply)
      → (reply : Reply) → IsDecided Every First Made reply → IsDecided Every2 First2 Made2 reply
  decided-as Every2 First2 Made2 every back first first_back made reply is = record {
    decided = elim is.decided [
      | inl all ↦ inl (every all)
      | inr one ↦ inr (one.0, first one.0 one.1)
    ];
    succeeds = (λ zero. every (is.succeeds.0 zero), λ all. is.succeeds.1 (back all));
    vouched = λ all. made reply (is.vouched (back all));
    refused = λ link one. is.refused link (first_back link one);
  }
