-- That the tries of a client are spent on what its channel to the service records took (Core 5.1, Volume 3 Part B, 4.2; this project's own).
use Rattle.std.specs.Prelude.{ℕ, ◌≡◌, true, false, List, [], ◌∷◌, ◌++◌, length, Option, None}
use Rattle.std.specs.List.{AllByRecursion}
use Rattle.pair_laws.specs.bt_base.specs.Objects.{Contents}
use Rattle.pair_laws.specs.push_script.specs.declared.scenario.Scenario.{Scenario}
use Rattle.cause_laws.specs.bt_base.specs.declared.settings.Settings.{Settings}
use Rattle.cause_laws.specs.capture.specs.Entries.{Entry}
use Rattle.cause_laws.specs.channel_model.specs.Value.{Channels, no_channels}
use Rattle.cause_laws.specs.push_model.specs.Events.{is_search, search_psm}
use Rattle.cause_laws.specs.host_model.specs.Clients.{ClientProfile, client_profile}
use Rattle.cause_laws.specs.host_laws.specs.Asked.{BeginsNone, up_behind}
use Rattle.cause_laws.specs.host_laws.specs.Calls.{Asks, HostsAsk, values_after}
use Rattle.cause_laws.specs.host_laws.specs.Woven.{Strand, strand_list, strand_profile, Woven}
use Rattle.cause_laws.specs.scenario_laws.specs.Captures.{Ran}
use Rattle.pair_laws.specs.channel_laws.specs.Runs.{Occurrence}
use Rattle.pair_laws.specs.InTurn.{PairsInTurn}
use Rattle.request_laws.specs.Streams.{taken_at}
use Rattle.search_laws.specs.Searches.{IsSentAtMost, awaits_reply}

-- what the channels of a client to the service records took on a link, one thing after the other
abbrev pub searches_taken : (settings : Settings) → Asks (client_profile settings) → List Strand → Channels → ClientProfile → List (List ℕ)
searches_taken settings asks [] v p = []
searches_taken settings asks (strand ∷ weave) v p =
    let A = client_profile settings in taken_at search_psm strand v p ++ searches_taken settings asks weave (values_after A.policy v (strand_list A asks strand v p)) (strand_profile A strand v p)

-- as a link comes up for it a client has all its tries, no request of it was sent there, and no SDU waits
pub record IsBeforeSearch (p : ClientProfile) : Type 0 where
  pub whole : IsSentAtMost 0 p.client
  pub before : is_search p.client.stage ≡ false
  pub none : p.submitted ≡ None

-- A client to which this happened on a link, on which no push began: a request of it that awaits its reply was sent no more often than its channel took one.
abbrev pub SearchesAreTaken : Type 0
SearchesAreTaken = (settings : Settings) (asks : Asks (client_profile settings)) (list : List Occurrence) (first last : ClientProfile) (woven : Woven (client_profile settings) asks list first last) → AllByRecursion BeginsNone woven.weave → IsBeforeSearch first
    → awaits_reply last.client ≡ true → IsSentAtMost (length (searches_taken settings asks woven.weave no_channels first)) last.client

-- ---- the last link of a run

-- All that happened to its channels on a link is woven with what its profile went through, which began with all its tries.
pub record TakesOnLink (settings : Settings) (asks : Asks (client_profile settings)) (list : List Occurrence) (last : ClientProfile) : Type 0 where
  pub first : ClientProfile
  pub woven : Woven (client_profile settings) asks list first last
  pub begins : AllByRecursion BeginsNone woven.weave
  pub fresh : IsBeforeSearch first
  pub taken : awaits_reply last.client ≡ true → IsSentAtMost (length (searches_taken settings asks woven.weave no_channels first)) last.client

-- So it is of the client of each run, wherever it broke off, on the link that is up there.
abbrev pub LinksTakeRequests : Type 0
LinksTakeRequests = (asks : HostsAsk) (scenario : Scenario) (content : Option Contents) (capture : List Entry) (ran : Ran scenario content capture) (turns : PairsInTurn asks scenario content capture ran) → up_behind false turns.pairs.a.fed.so.lives.spans ≡ true
    → TakesOnLink scenario.settings (asks.clients scenario.settings) turns.pairs.a.fed.so.lives.now ran.world.a.upper.profile
