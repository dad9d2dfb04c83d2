-- Identifiers that do not come round, and requests for ends that are new (Core 5.1, Volume 3 Part A, 4 and 4.6).
use Rattle.std.specs.Prelude.{ℕ, ◌≡◌, ◌≤◌, false, List, [], ◌∷◌, ◌++◌}
use Rattle.channel_laws.specs.capture.specs.Histories.{EachAfter}
use Rattle.channel_laws.specs.channel_model.specs.Policies.{Policy}
use Rattle.channel_laws.specs.Connections.{requests_for}
use Rattle.channel_laws.specs.Runs.{Occurrence, run_of}
use Rattle.disconnection_laws.specs.Met.{AsksOn}

-- the identifier that is given next never falls
abbrev pub NeverFalls : Policy → List Occurrence → Type 0
NeverFalls policy list = EachAfter (λ front one. (run_of policy front).value.identifier ≤ (run_of policy (front ++ one ∷ [])).value.identifier) [] list

-- Where a host offers no channel, and makes so few requests that its identifiers do not come round: whatever happens to it, its identifiers rise, and each request
-- for an end that waits did so before, or none did for that channel, and it has an identifier that was not given before.
abbrev pub EndsAreAskedAnew : Type 0
EndsAreAskedAnew = (policy : Policy) (list : List Occurrence) → ((psm : ℕ) → policy.offers psm ≡ false) → requests_for list ≤ 254 → EachAfter (λ front one. AsksOn (run_of policy front).value (run_of policy (front ++ one ∷ [])).value) [] list

-- Where its profile asks for no channel and for no features, and it grants at most 63 channels (of which the first has the endpoint 0x0040): its identifiers rise.
-- Of each it asks for the options three times at most, and for the end once.
abbrev pub GrantersNeverFall : Type 0
GrantersNeverFall = (policy : Policy) (list : List Occurrence) → requests_for list ≡ 0 → (run_of policy list).value.next ≤ 127 → NeverFalls policy list
