-- No other row matters than the questions.
use Rattle.std.proofs.Common.{◌↔◌}
use Rattle.sig_base.specs.declared.checker.AcceptedRow.{AcceptedRow}
use Rattle.sig_checked_bundle.proofs.Certificates.{OneCertificate}
use Rattle.sig_verify.proofs.JudgedLaws.{Alike, alike_each, all_as, fails_as}
use Rattle.sig_verify.specs.Links.{HoldsOf, Inputs, Outside, chain_links}
use Rattle.sig_verify.specs.Verdict.{Checker, PolicyOf}
use Rattle.sig_verify.specs.declared.link.Link.{Link}
use Rattle.sig_verify.specs.declared.link.Link.TheVariants.{Request, RootJson, BundleJson, Fulcio, Anchor, Ctfe}
use Rattle.sig_verify.specs.declared.link.Link.TheVariants.{Material, Certificate, Leaf, RootInChain, Content}
use Rattle.sig_verify.specs.declared.link.Link.TheVariants.{Envelope, Entry, Profile}
use Rattle.sig_verify.specs.declared.link.Link.TheVariants.{Issuance, Issuer, Sct, Policy, Key, Signature, Subject}
use Rattle.sig_verify.specs.declared.link.Link.TheVariants.{Body, Time}
use Rattle.sig_verify.specs.declared.link.Link.TheVariants.{LogKey, Promise, Proof, Checkpoint, NoteKey, NoteMatch}
use Rattle.sig_verify.specs.declared.link.Link.TheVariants.{Inclusion, Consistency}
use Rattle.sig_questions.proofs.Agreement.{agree_back, agree_where, content_too, issuer_too, note_too, promise_too}
use Rattle.sig_questions.proofs.Agreement.{vouched_too}
use Rattle.sig_questions.specs.Asked.{IsAskedBy}
use Rattle.sig_questions.specs.Questions.{AgreeWhere, QuestionsSuffice, SameLinks, Suffices}

abbrev outside : Checker → PolicyOf → Outside
outside k policy = record { checker = k; policy = policy }

link_too : OneCertificate → (i : Inputs) (one other : Checker) (policy : PolicyOf)
    → AgreeWhere (IsAskedBy i) one other → (link : Link) → HoldsOf (outside one policy) i link
    → HoldsOf (outside other policy) i link
link_too one_certificate i one other policy agree Request h = h
link_too one_certificate i one other policy agree RootJson h = h
link_too one_certificate i one other policy agree BundleJson h = h
link_too one_certificate i one other policy agree Fulcio h = h
link_too one_certificate i one other policy agree Anchor h = h
link_too one_certificate i one other policy agree Ctfe h = h
link_too one_certificate i one other policy agree Material h = h
link_too one_certificate i one other policy agree Certificate h = h
link_too one_certificate i one other policy agree Leaf h = h
link_too one_certificate i one other policy agree RootInChain h = h
link_too one_certificate i one other policy agree Content h = h
link_too one_certificate i one other policy agree Envelope h = h
link_too one_certificate i one other policy agree Entry h = h
link_too one_certificate i one other policy agree Profile h = h
link_too one_certificate i one other policy agree Issuance h = h
link_too one_certificate i one other policy agree Issuer h = issuer_too one_certificate i one other agree h
link_too one_certificate i one other policy agree Sct h = (h.0, vouched_too one_certificate i one other agree h.0 h.1)
link_too one_certificate i one other policy agree Policy h = h
link_too one_certificate i one other policy agree Key h = h
link_too one_certificate i one other policy agree Signature h = content_too one_certificate i one other agree h
link_too one_certificate i one other policy agree Subject h = h
link_too one_certificate i one other policy agree Body h = h
link_too one_certificate i one other policy agree Time h = h
link_too one_certificate i one other policy agree LogKey h = h
link_too one_certificate i one other policy agree Promise h =
    (h.0, promise_too one_certificate i one other agree h.0 h.1)
link_too one_certificate i one other policy agree Proof h = h
link_too one_certificate i one other policy agree Checkpoint h = h
link_too one_certificate i one other policy agree NoteKey h = note_too one_certificate i one other agree h
link_too one_certificate i one other policy agree NoteMatch h = h
link_too one_certificate i one other policy agree Inclusion h = h
link_too one_certificate i one other policy agree Consistency h = h

pub same_links : {i : Inputs} (one other : Outside) → ((link : Link) → HoldsOf one i link ↔ HoldsOf other i link)
    → SameLinks i one other
same_links {i = i} one other each =
    let there : Alike (HoldsOf one i) (HoldsOf other i) chain_links =
    alike_each (HoldsOf one i) (HoldsOf other i) chain_links each in
    let back : Alike (HoldsOf other i) (HoldsOf one i) chain_links =
    alike_each (HoldsOf other i) (HoldsOf one i) chain_links (λ link. ((each link).1, (each link).0)) in
    record {
      each = each;
      first = λ link. (
        fails_as (HoldsOf one i) (HoldsOf other i) chain_links link there,
        fails_as (HoldsOf other i) (HoldsOf one i) chain_links link back,
      );
      all = (
        all_as (HoldsOf one i) (HoldsOf other i) chain_links there,
        all_as (HoldsOf other i) (HoldsOf one i) chain_links back,
      );
    }

pub questions_suffice : OneCertificate → QuestionsSuffice
questions_suffice one_certificate i one other policy agree =
    same_links (outside one policy) (outside other policy) (λ link. (
      link_too one_certificate i one other policy agree link,
      link_too one_certificate i other one policy (agree_back (IsAskedBy i) one other agree) link,
    ))

-- rows that are the questions suffice
pub rows_suffice : QuestionsSuffice → (i : Inputs) (Holds : AcceptedRow → Type 0)
    → ((row : AcceptedRow) → IsAskedBy i row → Holds row) → Suffices Holds i
rows_suffice law i Holds has one other policy agree =
    law i one other policy (agree_where has agree)
