-- Policies put into a map one after another.
use Rattle.std.proofs.Common.{◌≡◌, ℕ, List, [], ◌∷◌, Option, Some, None, refl, sym, ◌∙◌}
use Rattle.sig_base.specs.ByText.{text_put}
use Rattle.sig_base.specs.OptionSteps.{◌>>=◌}
use Rattle.sig_json.specs.Data.{Data}
use Rattle.sig_json.specs.Members.{members_of}
use Rattle.sig_policy.specs.declared.request.RequestPolicy.{RequestPolicy}
use Rattle.sig_request.specs.Policy.{request_policy_of}
use Rattle.sig_manifest.specs.Policies.{ByName, policies_beside, policies_of}

pub policies-none : (d : Data) → None ≡ members_of d → policies_of d ≡ None
unfolding policies_of
policies-none d none = rw (← none) refl

pub policies-start : (d : Data) (ms : List (List ℕ × Data)) (there : ByName) → Some ms ≡ members_of d → there ≡ []
    → policies_of d ≡ policies_beside there ms
unfolding policies_of
policies-start d ms there is none = rw (← is, none) refl

pub policies-next : (d : Data) (left after : List (List ℕ × Data)) (m : List ℕ × Data) (there more : ByName)
    (policy : RequestPolicy)
    → policies_of d ≡ policies_beside there left → left ≡ m ∷ after → request_policy_of m.1 ≡ Some policy
    → more ≡ text_put m.0 policy there → policies_of d ≡ policies_beside more after
policies-next d left after m there more policy so_far next read put = so_far ∙ rw (next, read, put) refl

pub policies-refused : (d : Data) (left after : List (List ℕ × Data)) (m : List ℕ × Data) (there : ByName)
    → policies_of d ≡ policies_beside there left → left ≡ m ∷ after → request_policy_of m.1 ≡ None
    → policies_of d ≡ None
policies-refused d left after m there so_far next refused = so_far ∙ rw (next, refused) refl

pub policies-end : (d : Data) (left : List (List ℕ × Data)) (there : ByName)
    → policies_of d ≡ policies_beside there left → left ≡ [] → policies_of d ≡ Some there
policies-end d left there so_far none = so_far ∙ rw none refl

pub ruleset putting = (policies-none, policies-start, policies-next, policies-refused, policies-end)
