-- What the second lines of `consistency` mean.
use Rattle.std.proofs.Common.{◌≡◌, ◌≤◌, ◌⊎◌, ◌∙◌, ℕ, inl, inr, List, [], length, take, arith, ap, sym, subst}
use Rattle.std.proofs.lemmas.List.{length-take-le, take-take}
use Rattle.sig_base.specs.Sha256.{sha256}
use Rattle.sig_merkle.proofs.RootLaws.{root-none}
use Rattle.sig_merkle.specs.Root.{root}
use Rattle.sig_program.proofs.FrontLines.{grown-sizes}
use Rattle.sig_program.proofs.SecondLines.{whole_list}
use Rattle.sig_program.specs.ConsistencyLink.{IsGrown}
use Rattle.sig_program.specs.Fronts.{FrontsAgree, TrivialFronts}
use Rattle.sig_program.specs.SecondLine.{AreOfNow, IsFront}
use Rattle.sig_request.specs.declared.consistency_request.ConsistencyRequest.{ConsistencyRequest}

-- the root of nothing
root-nothing : (entries : List (List ℕ)) (count : ℕ) → count ≡ 0 → root (take count entries) ≡ sha256 []
root-nothing entries count none =
    let P : ℕ → Type 0 = λ n. root (take n entries) ≡ sha256 [] in subst P (sym none) root-none

trivial-front : (request : ConsistencyRequest) (entries : List (List ℕ)) → IsGrown request → AreOfNow entries request
    → (request.old_size ≡ request.tree_size) ⊎ (request.old_size ≡ 0) → IsFront entries request
trivial-front request entries (inl same) of_now _ =
    same.1 ∙ sym of_now.1
    ∙ sym (whole_list entries request.old_size (omega (arith, same.0.0, of_now.0)))
trivial-front request entries (inr (inl empty)) of_now _ =
    empty.1 ∙ sym (root-nothing entries request.old_size empty.0.0)
trivial-front request entries (inr (inr led)) of_now (inl same) = absurd (omega (arith, same, led.0.1))
trivial-front request entries (inr (inr led)) of_now (inr none) = absurd (omega (arith, none, led.0.0))

pub trivial_fronts : TrivialFronts
trivial_fronts request entries line grown of_now (inl other) trivial = absurd (other.0 of_now)
trivial_fronts request entries line grown of_now (inr (inl front)) trivial = front.2
trivial_fronts request entries line grown of_now (inr (inr apart)) trivial =
    absurd (apart.1 (trivial-front request entries grown of_now trivial))

pub fronts_agree : FrontsAgree
fronts_agree older later entries older_line later_line grown fewer one (inl other) two later_is = absurd (other.0 one)
fronts_agree older later entries older_line later_line grown fewer one (inr (inr apart)) two later_is =
    inr (inl apart.2)
fronts_agree older later entries older_line later_line grown fewer one (inr (inl front)) two (inl other) =
    absurd (other.0 two)
fronts_agree older later entries older_line later_line grown fewer one (inr (inl front)) two (inr (inr apart)) =
    inr (inr apart.2)
fronts_agree older later entries older_line later_line grown fewer one (inr (inl front)) two (inr (inl longer)) =
    inl (
      take later.old_size entries,
      length-take-le later.old_size entries (omega (arith, grown-sizes later grown, two.0)),
      longer.1,
      front.1 ∙ sym (ap root (take-take older.old_size later.old_size entries fewer)),
    )
