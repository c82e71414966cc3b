-- The links of a bundle, by two checkers that say the same of each signature that it asks for.
use Rattle.std.proofs.Common.{◌⊎◌, List, [], ◌∷◌, ◌++◌, inl, inr}
use Rattle.std.specs.List.{AllByRecursion}
use Rattle.sig_base.specs.Rules.{FailsFirst}
use Rattle.sig_gate.specs.BundleVerdict.{IsJudged}
use Rattle.sig_gate.specs.declared.verdict.BundleVerdict.{BundleVerdict}
use Rattle.sig_gate.specs.declared.verdict.BundleVerdict.TheVariants.{Verified, Refused}
use Rattle.sig_questions.proofs.Fronts.{after_issuer, front_alike, issuer_unasked}
use Rattle.sig_questions.specs.Questions.{HoldsUnasked, SameLinks, accepting, front_links, question_links}
use Rattle.sig_verify.proofs.JudgedLaws.{all_as, all_joined, fails_after, fails_as, fails_front}
use Rattle.sig_verify.specs.Links.{EveryChainLinkHolds, HoldsOf, Inputs, Outside, chain_links}
use Rattle.sig_verify.specs.declared.link.Link.{Link}
use Rattle.sig_verify.specs.declared.link.Link.TheVariants.{Issuer}

-- ---- a list of links in two parts

all-parts : (P : Link → Type 0) (xs ys : List Link) → AllByRecursion P (xs ++ ys)
    → AllByRecursion P xs × AllByRecursion P ys
all-parts P [] ys all = (tt, all)
all-parts P (x ∷ xs) ys all = let (front, after) = all-parts P xs ys all.1 in ((all.0, front), after)

fails-parts : (P : Link → Type 0) (xs ys : List Link) (link : Link) → FailsFirst P (xs ++ ys) link
    → FailsFirst P xs link ⊎ (AllByRecursion P xs × FailsFirst P ys link)
fails-parts P [] ys link fails = inr (tt, fails)
fails-parts P (x ∷ xs) ys link (inl now) = inl (inl now)
fails-parts P (x ∷ xs) ys link (inr (holds, later)) = elim (fails-parts P xs ys link later) [
  | inl front ↦ inl (inr (holds, front))
  | inr (all, after) ↦ inr ((holds, all), after)
]

-- ---- whatever is accepted

abbrev pub IsOpen : Inputs → Type 0
IsOpen i = AllByRecursion (HoldsUnasked i) question_links

opened : (o : Outside) (i : Inputs) → AllByRecursion (HoldsOf o i) front_links → HoldsOf o i Issuer → IsOpen i
opened o i front issuer =
    all_joined (HoldsUnasked i) front_links (Issuer ∷ [])
    (all_as (HoldsOf o i) (HoldsUnasked i) front_links (front_alike o accepting i) front)
    (issuer_unasked o i issuer, tt)

-- ---- two outsides of which the same links hold, if no link up to `issuer` fails whatever is accepted

module _ (o p : Outside) (i : Inputs) (agree : IsOpen i → SameLinks i o p) where
  every-same : EveryChainLinkHolds o i → EveryChainLinkHolds p i
  every-same all =
      let (front, (issuer, _)) = all-parts (HoldsOf o i) front_links (Issuer ∷ after_issuer) all in
      (agree (opened o i front issuer)).all.0 all

  first-same : (link : Link) → FailsFirst (HoldsOf o i) chain_links link → FailsFirst (HoldsOf p i) chain_links link
  first-same link fails = elim (fails-parts (HoldsOf o i) front_links (Issuer ∷ after_issuer) link fails) [
    | inl front ↦
        fails_front (HoldsOf p i) front_links (Issuer ∷ after_issuer) link
        (fails_as (HoldsOf o i) (HoldsOf p i) front_links link (front_alike o p i) front)
    | inr (all, after) ↦ by all after
  ]
    where
      by : AllByRecursion (HoldsOf o i) front_links → FailsFirst (HoldsOf o i) (Issuer ∷ after_issuer) link
          → FailsFirst (HoldsOf p i) chain_links link
      by all (inl (denied, is)) =
          let front = all_as (HoldsOf o i) (HoldsOf p i) front_links (front_alike o p i) all in
          fails_after (HoldsOf p i) front_links (Issuer ∷ after_issuer) link front
          (inl ((λ issuer. denied (((agree (opened p i front issuer)).each Issuer).1 issuer)), is))
      by all (inr (issuer, later)) = ((agree (opened o i all issuer)).first link).0 fails

  pub judged-same : (verdict : BundleVerdict) → IsJudged o i verdict → IsJudged p i verdict
  judged-same (Verified entry) (all, kept) = (every-same all, kept)
  judged-same (Refused link) fails = first-same link fails

pub every-link-same : (o p : Outside) (i : Inputs) → (IsOpen i → SameLinks i o p) → EveryChainLinkHolds o i
    → EveryChainLinkHolds p i
every-link-same o p i agree = every-same o p i agree
