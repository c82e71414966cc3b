-- The statement that is read of a payload, member by member.
use Rattle.std.proofs.Common.{◌≡◌, ℕ, List, [], ◌∷◌, map, Option, Some, None, Result, Ok, Err, refl, sym, ap, subst, ◌∙◌}
use Rattle.std.specs.Prelude.{codes}
use Rattle.std.specs.Result.{result_ok}
use Rattle.sig_base.proofs.OptionSteps.{bind_is, some_is}
use Rattle.sig_base.proofs.ResultSteps.{ok_from}
use Rattle.sig_base.specs.OptionSteps.{◌>>=◌}
use Rattle.sig_json.proofs.Records.{record_in-read, record_in-tree}
use Rattle.sig_json.specs.Data.{Data, null, string}
use Rattle.sig_json.specs.Document.{document_of}
use Rattle.sig_json.specs.Kinds.{text_map_of, text_of, texts_by_name}
use Rattle.sig_json.specs.List.{list_of}
use Rattle.sig_json.specs.Member.{each, list_each, optional, required, required_list, required_text}
use Rattle.sig_json.specs.Members.{members_of}
use Rattle.sig_json.specs.Record.{record_in}
use Rattle.sig_dsse.proofs.SaidMembers.{held_text, is_optional, is_required, is_text, object_there, optional_is}
use Rattle.sig_dsse.proofs.SaidMembers.{required_is, text_held, text_is}
use Rattle.sig_dsse.specs.SaidMembers.{HasMember}
use Rattle.sig_dsse.specs.Statement.{DigestTexts, Subject, Statement, statement_in, statement_of, subject_of}
use Rattle.sig_dsse.specs.StatementText.{AreSubjects, AreTexts, IsStatement, IsSubject, IsText, IsValue}

-- ---- the digests of a subject

abbrev Entry : Type 0
Entry = List ℕ × List ℕ

abbrev said : Entry → List ℕ × Data
said entry = (entry.0, string entry.1)

texts_are : (ms : List (List ℕ × Data)) (texts : DigestTexts) → texts_by_name ms ≡ Some texts → ms ≡ map said texts
texts_are [] texts e = let none : [] ≡ texts = some_is _ _ e in rw (← none) refl
texts_are (m ∷ ms) texts e =
    let text = bind_is (text_of m.1) _ texts e in
    let others = bind_is (texts_by_name ms) _ texts text.2 in
    let first : (m.0, m.1) ≡ (m.0, string text.0) =
    ap (λ (v : Data). (m.0, v)) (text_is m.1 text.0 text.1) in
    let rest = texts_are ms others.0 others.1 in
    let whole : (m.0, text.0) ∷ others.0 ≡ texts = some_is _ _ others.2 in
    rw (← whole) (ap (λ (n : List ℕ × Data). n ∷ ms) first ∙ ap (λ l. (m.0, string text.0) ∷ l) rest)

are_texts : (texts : DigestTexts) → texts_by_name (map said texts) ≡ Some texts
are_texts [] = refl
are_texts (t ∷ ts) = rw (is_text (string t.1) t.1 refl, are_texts ts) refl

map_are : (value : Data) (texts : DigestTexts) → text_map_of value ≡ Some texts → AreTexts value texts
unfolding text_map_of
map_are value texts e =
    let ms = bind_is (members_of value) texts_by_name texts e in
    ms.1 ∙ ap (λ l. Some l) (texts_are ms.0 texts ms.2)

are_map : (value : Data) (texts : DigestTexts) → AreTexts value texts → text_map_of value ≡ Some texts
unfolding text_map_of
are_map value texts is = rw is (are_texts texts)

no_texts : (texts : DigestTexts) → ¬ AreTexts null texts
no_texts texts is = absurd cc

-- ---- a subject

pub subject_says : (d : Data) (s : Subject) → subject_of d ≡ Some s → IsSubject d s
unfolding subject_of
subject_says d s e =
    let name = bind_is (optional text_of (codes "name") d) _ s e in
    let digest = bind_is (required text_map_of (codes "digest") d) _ s name.2 in
    let annotations = bind_is (optional Some (codes "annotations") d) _ s digest.2 in
    let held = required_is text_map_of (codes "digest") d digest.0 digest.1 in
    let is : record { name = name.0; digest = digest.0; annotations = annotations.0 } ≡ s =
    some_is _ _ annotations.2 in
    rw (← is) (record {
      digests = held.0;
      held = held.1.found;
      digest = map_are held.0 digest.0 held.2;
      name = optional_is text_of IsText (codes "name") d name.0 text_is name.1;
      annotations =
          optional_is Some IsValue (codes "annotations") d annotations.0 (λ value x same. some_is _ _ same)
          annotations.1;
    })

digests_there : (d : Data) (s : Subject) → (is : IsSubject d s) → HasMember (codes "digest") d is.digests
digests_there d s is =
    record { found = is.held; some = λ none. no_texts s.digest (subst (λ (v : Data). AreTexts v s.digest) none is.digest) }

pub said_subject : (d : Data) (s : Subject) → IsSubject d s → subject_of d ≡ Some s
unfolding subject_of
said_subject d s is =
    let digest = is_required text_map_of (codes "digest") d is.digests s.digest (digests_there d s is)
    (are_map is.digests s.digest is.digest) in
    let object = object_there (codes "digest") d is.digests is.held in
    rw (
      is_optional text_of IsText (codes "name") d object.0 s.name is_text object.1 is.name,
      digest,
      is_optional Some IsValue (codes "annotations") d object.0 s.annotations (λ value x same. ap (λ v. Some v) same)
          object.1 is.annotations,
    ) refl

-- ---- subjects

subjects_say : (ds : List Data) (ss : List Subject) → each subject_of ds ≡ Some ss → AreSubjects ds ss
subjects_say [] [] e = tt
subjects_say [] (s ∷ ss) e = absurd cc
subjects_say (d ∷ ds) ss e =
    let first = bind_is (subject_of d) _ ss e in
    let others = bind_is (each subject_of ds) _ ss first.2 in
    let whole : first.0 ∷ others.0 ≡ ss = some_is _ _ others.2 in
    rw (← whole) (subject_says d first.0 first.1, subjects_say ds others.0 others.1)

said_subjects : (ds : List Data) (ss : List Subject) → AreSubjects ds ss → each subject_of ds ≡ Some ss
said_subjects [] [] are = refl
said_subjects [] (s ∷ ss) are = absurd are
said_subjects (d ∷ ds) [] are = absurd are
said_subjects (d ∷ ds) (s ∷ ss) are = rw (said_subject d s are.0, said_subjects ds ss are.1) refl

-- ---- a statement

statement_says : (payload : List ℕ) (d : Data) (s : Statement) → document_of payload ≡ Ok d
    → statement_in d ≡ Some s → IsStatement payload s
unfolding statement_in list_each
statement_says payload d s document e =
    let type = bind_is (required_text (codes "_type") d) _ s e in
    let subject = bind_is (required_list subject_of (codes "subject") d) _ s type.2 in
    let kind = bind_is (required_text (codes "predicateType") d) _ s subject.2 in
    let predicate = bind_is (optional Some (codes "predicate") d) _ s kind.2 in
    let list = required_is (list_each subject_of) (codes "subject") d subject.0 subject.1 in
    let elements = bind_is (list_of list.0) (each subject_of) subject.0 list.2 in
    let is : record {
      statement_type = type.0;
      subject = subject.0;
      predicate_type = kind.0;
      predicate = predicate.0;
    } ≡ s = some_is _ _ predicate.2 in
    rw (← is) (record {
      tree = d;
      document = document;
      statement_type = text_held (codes "_type") d type.0 type.1;
      predicate_type = text_held (codes "predicateType") d kind.0 kind.1;
      list = list.0;
      held = list.1.found;
      elements = elements.0;
      listed = elements.1;
      subjects = subjects_say elements.0 subject.0 elements.2;
      predicate =
          optional_is Some IsValue (codes "predicate") d predicate.0 (λ value x same. some_is _ _ same) predicate.1;
    })

list_there : (payload : List ℕ) (s : Statement) → (is : IsStatement payload s)
    → HasMember (codes "subject") is.tree is.list
list_there payload s is =
    record { found = is.held; some = λ none. let no = ap list_of (sym none) ∙ is.listed in absurd cc }

said_statement : (payload : List ℕ) (s : Statement) → (is : IsStatement payload s) → statement_in is.tree ≡ Some s
unfolding statement_in list_each
said_statement payload s is =
    let object = object_there (codes "_type") is.tree (string s.statement_type) is.statement_type in
    let subjects : required_list subject_of (codes "subject") is.tree ≡ Some s.subject =
    is_required (list_each subject_of) (codes "subject") is.tree is.list s.subject (list_there payload s is)
    (rw is.listed (said_subjects is.elements s.subject is.subjects)) in
    rw (
      held_text (codes "_type") is.tree s.statement_type is.statement_type,
      subjects,
      held_text (codes "predicateType") is.tree s.predicate_type is.predicate_type,
      is_optional Some IsValue (codes "predicate") is.tree object.0 s.predicate
          (λ value x same. ap (λ v. Some v) same) object.1 is.predicate,
    ) refl

-- ---- a payload

pub payload_says : (payload : List ℕ) (s : Statement) → statement_of payload ≡ Some s → IsStatement payload s
unfolding statement_of
payload_says payload s e =
    let read = record_in-tree statement_in payload s (ok_from (record_in statement_in payload) s e) in
    statement_says payload read.0 s read.1 read.2

pub said_payload : (payload : List ℕ) (s : Statement) → IsStatement payload s → statement_of payload ≡ Some s
unfolding statement_of
said_payload payload s is =
    rw (record_in-read statement_in payload is.tree s is.document (said_statement payload s is)) refl
