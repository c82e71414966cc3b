-- *Policies*: an object from names to policies.
use Rattle.std.specs.Prelude.{ℕ, List, [], ◌∷◌, Option, Some}
use Rattle.sig_base.specs.ByText.{text_put}
use Rattle.sig_base.specs.OptionSteps.{◌>>=◌}
use Rattle.sig_json.specs.Data.{Data}
use Rattle.sig_json.specs.Members.{members_of}
use Rattle.sig_policy.specs.declared.request.RequestPolicy.{RequestPolicy}
use Rattle.sig_request.specs.Policy.{request_policy_of}

-- policies by their names
abbrev pub ByName : Type 0
ByName = List (List ℕ × RequestPolicy)

-- the policies that these members are, added to the present ones
abbrev pub policies_beside : ByName → List (List ℕ × Data) → Option ByName
policies_beside there [] = Some there
policies_beside there (m ∷ ms) =
    request_policy_of m.1 >>= λ policy. policies_beside (text_put m.0 policy there) ms

-- an object whose every member is a policy, in byte order of the names
unfoldable pub policies_of : Data → Option ByName
policies_of d = members_of d >>= policies_beside []
