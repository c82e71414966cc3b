-- The links that ask for signatures, in their order.
use Rattle.std.proofs.Common.{◌≡◌, List, [], ◌∷◌, ◌++◌, refl, sym, subst}
use Rattle.sig_verify.specs.declared.link.Link.{Link}
use Rattle.sig_verify.specs.declared.link.Link.TheVariants as link
use Rattle.sig_questions.specs.Order.{IsEarlier}
use Rattle.sig_questions.specs.Questions.{front_links, question_links}

abbrev after_note : List Link
after_note = link.NoteMatch ∷ link.Inclusion ∷ []

abbrev after_promise : List Link
after_promise = link.Proof ∷ link.Checkpoint ∷ link.NoteKey ∷ after_note

abbrev after_signature : List Link
after_signature = link.Subject ∷ link.Body ∷ link.Time ∷ link.LogKey ∷ link.Promise ∷ after_promise

abbrev after_sct : List Link
after_sct = link.Policy ∷ link.Key ∷ link.Signature ∷ after_signature

-- from one to the next
abbrev to_signature : List Link
to_signature = link.Policy ∷ link.Key ∷ []

abbrev to_promise : List Link
to_promise = link.Subject ∷ link.Body ∷ link.Time ∷ link.LogKey ∷ []

abbrev to_note : List Link
to_note = link.Proof ∷ link.Checkpoint ∷ []

abbrev before_signature : List Link
before_signature = question_links ++ link.Sct ∷ to_signature

abbrev before_promise : List Link
before_promise = before_signature ++ link.Signature ∷ to_promise

pub issuer_sct : IsEarlier link.Issuer link.Sct
issuer_sct = record { before = front_links; between = []; after = after_sct; split = refl }

pub issuer_signature : IsEarlier link.Issuer link.Signature
issuer_signature = record {
  before = front_links;
  between = link.Sct ∷ to_signature;
  after = after_signature;
  split = refl;
}

pub issuer_promise : IsEarlier link.Issuer link.Promise
issuer_promise = record {
  before = front_links;
  between = link.Sct ∷ to_signature ++ link.Signature ∷ to_promise;
  after = after_promise;
  split = refl;
}

pub issuer_note : IsEarlier link.Issuer link.NoteKey
issuer_note = record {
  before = front_links;
  between = link.Sct ∷ to_signature ++ link.Signature ∷ to_promise ++ link.Promise ∷ to_note;
  after = after_note;
  split = refl;
}

pub sct_signature : IsEarlier link.Sct link.Signature
sct_signature = record { before = question_links; between = to_signature; after = after_signature; split = refl }

pub sct_promise : IsEarlier link.Sct link.Promise
sct_promise = record {
  before = question_links;
  between = to_signature ++ link.Signature ∷ to_promise;
  after = after_promise;
  split = refl;
}

pub sct_note : IsEarlier link.Sct link.NoteKey
sct_note = record {
  before = question_links;
  between = to_signature ++ link.Signature ∷ to_promise ++ link.Promise ∷ to_note;
  after = after_note;
  split = refl;
}

pub signature_promise : IsEarlier link.Signature link.Promise
signature_promise = record { before = before_signature; between = to_promise; after = after_promise; split = refl }

pub signature_note : IsEarlier link.Signature link.NoteKey
signature_note = record {
  before = before_signature;
  between = to_promise ++ link.Promise ∷ to_note;
  after = after_note;
  split = refl;
}

pub promise_note : IsEarlier link.Promise link.NoteKey
promise_note = record { before = before_promise; between = to_note; after = after_note; split = refl }

pub earlier : (one other : Link) → IsEarlier one other → (a b : Link) → a ≡ one → b ≡ other → IsEarlier a b
earlier one other is a b first second =
    subst (λ (l : Link). IsEarlier l b) (sym first) (subst (λ (l : Link). IsEarlier one l) (sym second) is)
