-- A host that offers nothing and asks for one channel (Core 5.1, Volume 3 Part A, 4.2 and 4.3).
use Rattle.std.specs.Prelude.{ℕ, ◌≡◌, false, List, ◌∷◌, ◌++◌, Some}
use Rattle.std.specs.List.{AllByRecursion}
use Rattle.own_channel_laws.specs.channel_model.specs.Policies.{Policy}
use Rattle.own_channel_laws.specs.channel_model.specs.Calls.{peer_mtu}
use Rattle.own_channel_laws.specs.Runs.{Occurrence, Connects, run_of}
use Rattle.channel_laws.specs.Singly.{NoneIsDue, AsksForNoChannel}

abbrev pub OffersNothing : Policy → Type 0
OffersNothing policy = (psm : ℕ) → policy.offers psm ≡ false

-- Where no channel is only asked for, none comes to be so while none is asked for.
abbrev pub NoneComesDue : Type 0
NoneComesDue = (policy : Policy) → OffersNothing policy → (list more : List Occurrence) → AllByRecursion AsksForNoChannel more → NoneIsDue (run_of policy list).value → NoneIsDue (run_of policy (list ++ more)).value

-- Where one was asked for, and one is open, none is only asked for.
abbrev pub OneOpens : Type 0
OneOpens = (policy : Policy) → OffersNothing policy → (psm : ℕ) (front more : List Occurrence) → AllByRecursion AsksForNoChannel front → AllByRecursion AsksForNoChannel more
    → (own mtu : ℕ) → peer_mtu own (run_of policy (front ++ Connects psm ∷ more)).value ≡ Some mtu → NoneIsDue (run_of policy (front ++ Connects psm ∷ more)).value
