-- SCT lists and SCTs: what is read is what the relations build, and what they build is read.
use Rattle.std.proofs.Common.{◌≡◌, ℕ, ◌^◌, ◌<◌, eqb, List, [], ◌∷◌, ◌++◌, length, Option, Some, refl, sym, ap, subst}
use Rattle.std.proofs.Common.{◌∙◌, arith}
use Rattle.std.specs.Int.{w64, from_be_bytes}
use Rattle.std.proofs.lemmas.Bool.{eqb-true}
use Rattle.std.proofs.lemmas.Nat.{be_bytes_8, from_be_bytes-to_be_bytes_8}
use Rattle.sig_base.proofs.OptionSteps.{bind_is, bind_of_some, when_is, some_is}
use Rattle.sig_der.specs.Element.{IsElement}
use Rattle.sig_der.specs.FrontReaders.{take_whole}
use Rattle.sig_timestamp.specs.Numbers.{v1}
use Rattle.sig_der.proofs.Bytes.{IsBytes, IsBytes-right, IsBytes-left, IsBytes-tail}
use Rattle.sig_der.proofs.Takings.{take_whole_takes, take_whole_again}
use Rattle.sig_der.proofs.KeyInfos.{content_fits}
use Rattle.sig_der.proofs.ElementLists.{many_at_takes, many_at_again}
use Rattle.sig_timestamp.specs.Vectors.{vector, uint16_bytes, IsShort, bytes_at, vector_at, whole_vector}
use Rattle.sig_timestamp.specs.SctList.{Sct, IsSct, IsSctList, eight_bytes, signed_at, after_version, sct_at, list_in}
use Rattle.sig_timestamp.specs.SctList.{sct_list_at}
use Rattle.sig_timestamp.proofs.VectorLaws.{bytes_at_takes, bytes_at_again, vector_at_takes, vector_at_again, vectors}
use Rattle.sig_timestamp.proofs.VectorLaws.{whole_vector_takes, whole_vector_again}

-- ---- the list

pub sct_list_at_takes : (value : List ℕ) → IsBytes value → (texts : List (List ℕ)) → sct_list_at value ≡ Some texts
    → IsSctList value texts
unfolding sct_list_at list_in
sct_list_at_takes value fits texts e =
    let l = bind_is (list_in value) _ texts e in
    let o = bind_is (take_whole 4 value) _ l.0 l.1 in
    let t = take_whole_takes 4 value fits o.0 o.1 in
    let inner = content_fits value 4 o.0.content t.0 fits in
    let v = whole_vector_takes o.0.content inner l.0 o.2 in
    let list_fits = IsBytes-right (uint16_bytes (length l.0)) l.0 (subst (λ (w : List ℕ). IsBytes w) v.1 inner) in
    record {
      list = l.0;
      is = subst (λ (w : List ℕ). IsElement value 4 w) v.1 t.0;
      short = v.0;
      joined = many_at_takes vector_at IsShort vector vectors l.0 list_fits texts l.2;
    }

pub sct_list_at_again : (value : List ℕ) (texts : List (List ℕ)) → IsSctList value texts
    → sct_list_at value ≡ Some texts
unfolding sct_list_at list_in
sct_list_at_again value texts is =
    bind_of_some (list_in value) _ is.list
    (bind_of_some (take_whole 4 value) _ _ (take_whole_again value 4 (vector is.list) is.is)
    ∙ whole_vector_again is.list is.short)
    ∙ many_at_again vector_at IsShort vector vectors is.list texts is.joined

-- ---- the end of an SCT

record IsSctEnd (bytes : List ℕ) (y : List ℕ × List ℕ) : Type 0 where
  algorithm : List ℕ
  extended : IsShort y.0
  two : length algorithm ≡ 2
  signed : IsShort y.1
  spelled : bytes ≡ vector y.0 ++ (algorithm ++ vector y.1)

signed_at_takes : (bytes : List ℕ) → IsBytes bytes → (y : List ℕ × List ℕ) → signed_at bytes ≡ Some y
    → IsSctEnd bytes y
unfolding signed_at
signed_at_takes bytes fits y e =
    let v = bind_is (vector_at bytes) _ y e in
    let a = bind_is (bytes_at 2 v.0.1) _ y v.2 in
    let s = bind_is (whole_vector a.0.1) _ y a.2 in
    let tv = vector_at_takes bytes fits v.0 v.1 in
    let rest = IsBytes-right (vector v.0.0) v.0.1 (subst (λ (w : List ℕ). IsBytes w) tv.1 fits) in
    let ta = bytes_at_takes 2 v.0.1 a.0 a.1 in
    let last = IsBytes-right a.0.0 a.0.1 (subst (λ (w : List ℕ). IsBytes w) ta.1 rest) in
    let ts = whole_vector_takes a.0.1 last s.0 s.1 in
    subst (λ (w : List ℕ × List ℕ). IsSctEnd bytes w) (some_is _ y s.2) (record {
      algorithm = a.0.0;
      extended = tv.0;
      two = ta.0;
      signed = ts.0;
      spelled = tv.1 ∙ ap (λ (w : List ℕ). vector v.0.0 ++ w) (ta.1 ∙ ap (λ (w : List ℕ). a.0.0 ++ w) ts.1);
    })

signed_at_again : (e a s : List ℕ) → IsShort e → length a ≡ 2 → IsShort s
    → signed_at (vector e ++ (a ++ vector s)) ≡ Some (e, s)
unfolding signed_at
signed_at_again e a s fe fa fs =
    bind_of_some (vector_at (vector e ++ (a ++ vector s))) _ (e, a ++ vector s) (vector_at_again e (a ++ vector s) fe)
    ∙ bind_of_some (bytes_at 2 (a ++ vector s)) _ (a, vector s) (bytes_at_again 2 a (vector s) fa)
    ∙ bind_of_some (whole_vector (vector s)) _ s (whole_vector_again s fs)

-- ---- an SCT

after_version_takes : (text rest : List ℕ) → after_version text ≡ Some rest → text ≡ v1 ∷ rest
unfolding after_version
after_version_takes [] rest e = absurd cc
after_version_takes (n ∷ bytes) rest e =
    let w = when_is (eqb n 0) (Some bytes) rest e in
    let zero : n ≡ 0 = eqb-true n 0 w.0 in
    let same : bytes ≡ rest = some_is bytes rest w.1 in
    rw (zero, same) refl

below_8 : (bytes : List ℕ) → IsBytes bytes → from_be_bytes w64 bytes < 2 ^ 64
below_8 bytes fits = omega (arith, fits 0, fits 1, fits 2, fits 3, fits 4, fits 5, fits 6, fits 7)

pub sct_at_takes : (text : List ℕ) → IsBytes text → (s : Sct) → sct_at text ≡ Some s → IsSct text s
unfolding sct_at
sct_at_takes text fits s e =
    let r = bind_is (after_version text) _ s e in
    let i = bind_is (bytes_at 32 r.0) _ s r.2 in
    let t = bind_is (bytes_at 8 i.0.1) _ s i.2 in
    let x = bind_is (signed_at t.0.1) _ s t.2 in
    let tr = after_version_takes text r.0 r.1 in
    let fits_r = IsBytes-tail 0 r.0 (subst (λ (w : List ℕ). IsBytes w) tr fits) in
    let ti = bytes_at_takes 32 r.0 i.0 i.1 in
    let fits_i = IsBytes-right i.0.0 i.0.1 (subst (λ (w : List ℕ). IsBytes w) ti.1 fits_r) in
    let tt8 = bytes_at_takes 8 i.0.1 t.0 t.1 in
    let fits_t = subst (λ (w : List ℕ). IsBytes w) tt8.1 fits_i in
    let time_fits = IsBytes-left t.0.0 t.0.1 fits_t in
    let tx = signed_at_takes t.0.1 (IsBytes-right t.0.0 t.0.1 fits_t) x.0 x.1 in
    let n = from_be_bytes w64 t.0.0 in
    let time : t.0.0 ≡ eight_bytes n = sym (be_bytes_8 t.0.0 n tt8.0 time_fits refl) in
    subst (λ (w : Sct). IsSct text w) (some_is _ s x.2) (record {
      algorithm = tx.algorithm;
      named = ti.0;
      timed = below_8 t.0.0 time_fits;
      extended = tx.extended;
      two = tx.two;
      signed = tx.signed;
      spelled = tr ∙ ap (λ (w : List ℕ). 0 ∷ w) (ti.1 ∙ ap (λ (w : List ℕ). i.0.0 ++ w) (tt8.1
          ∙ ap (λ (w : List ℕ). w ++ t.0.1) time ∙ ap (λ (w : List ℕ). eight_bytes n ++ w) tx.spelled));
    })

pub sct_at_again : (text : List ℕ) (s : Sct) → IsSct text s → sct_at text ≡ Some s
unfolding sct_at after_version
sct_at_again text s is =
    let last = vector s.extensions ++ (is.algorithm ++ vector s.signature) in
    let middle = eight_bytes s.timestamp ++ last in
    let eight : length (eight_bytes s.timestamp) ≡ 8 = refl in
    ap (λ (w : List ℕ). sct_at w) is.spelled
    ∙ bind_of_some (bytes_at 32 (s.log_id ++ middle)) _ (s.log_id, middle) (bytes_at_again 32 s.log_id middle is.named)
    ∙ bind_of_some (bytes_at 8 middle) _ (eight_bytes s.timestamp, last)
    (bytes_at_again 8 (eight_bytes s.timestamp) last eight)
    ∙ bind_of_some (signed_at last) _ (s.extensions, s.signature)
    (signed_at_again s.extensions is.algorithm s.signature is.extended is.two is.signed)
    ∙ ap (λ (n : ℕ). some_sct s.log_id n s.extensions s.signature) (from_be_bytes-to_be_bytes_8 s.timestamp is.timed)
  where
    some_sct : List ℕ → ℕ → List ℕ → List ℕ → Option Sct
    some_sct l n e g = Some (record { log_id = l; timestamp = n; extensions = e; signature = g })
