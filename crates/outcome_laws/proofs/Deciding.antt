-- Where the push of a client that hears a PDU is done or refused, or found no service, an SDU that the PDU made whole says so.
use Rattle.std.proofs.Common.{◌≡◌, ℕ, true, List, [], ◌∷◌, Option, Some, None, is_none, refl, sym, ap, subst, ◌∙◌}
use Rattle.cause_laws.specs.bt_base.specs.declared.settings.Settings.{Settings}
use Rattle.cause_laws.specs.push_terms.specs.declared.outcome.Outcome.{Outcome}
use Rattle.unit_laws.specs.scenario_laws.specs.acl_fragments.specs.Pieces.{channel_of}
use Rattle.cause_laws.specs.channel_model.specs.declared.event.ChannelEvent.{ChannelEvent}
use Rattle.cause_laws.specs.channel_model.specs.Carrying.{Up as Handed, Nothing, Received}
use Rattle.cause_laws.specs.channel_model.specs.Hearing.{hears, up}
use Rattle.cause_laws.specs.channel_model.specs.Value.{Channels}
use Rattle.cause_laws.specs.push_model.specs.Client.{Client}
use Rattle.cause_laws.specs.push_model.specs.Events as events
use Rattle.cause_laws.specs.push_model.specs.Laws.{Hears}
use Rattle.cause_laws.specs.push_model.specs.Shown.{sdu_shows}
use Rattle.cause_laws.specs.push_model.proofs.ShownLaws.{outcomes_are_shown}
use Rattle.cause_laws.specs.world_model.specs.Machines.{Heard}
use Rattle.cause_laws.specs.host_model.specs.Circumstances.{Circumstance}
use Rattle.cause_laws.specs.host_model.specs.Clients.{ClientProfile, client_profile}
use Rattle.cause_laws.specs.host_model.specs.Hosts.{Host, hear, ready, hears_pdu, handed, tells_each}
use Rattle.cause_laws.specs.host_laws.specs.Feeds.{Happens}
use Rattle.cause_laws.specs.host_laws.specs.Pushing.{event_pushed}
use Rattle.cause_laws.specs.Said.{Decision, decision_of}
use Rattle.cause_laws.proofs.Clients.{is_unsaid, any_unsaid, shelf_unsaid, Came, came_same, none_later}
use Rattle.cause_laws.proofs.Profiles.{any_more, event_within, came_fed}
use Rattle.outcome_laws.proofs.Telling.{hears_so}

-- what came otherwise than by an SDU was there
came_before : (shown : Option Outcome) (outcome : Outcome) (decision : Decision) → decision_of outcome ≡ Some decision → Came is_unsaid shown (Some outcome) → shown ≡ Some outcome
came_before None outcome decision said came = let never : is_none (Some decision) ≡ true = ap is_none (sym said) ∙ came in cc
came_before (Some earlier) outcome decision said came = sym came

module _ (settings : Settings) where
  each_unsaid : (old : Option Outcome) (v : Channels) (happened : List ChannelEvent) (p : ClientProfile) → Came is_unsaid old p.client.cause → Came is_unsaid old (tells_each (client_profile settings) happened v p).client.cause
  each_unsaid old v [] p came = came
  each_unsaid old v (event ∷ happened) p came =
      let now : Channels = record v { events = happened } in
      each_unsaid old now happened ((client_profile settings).happened event now p) (came_fed settings is_unsaid old p (Happens event now) (any_more is_unsaid any_unsaid (event_pushed event now) (event_within event now)) came)

  -- with a PDU: the SDU first, and then nothing that an SDU decides
  abbrev handed_with : List Circumstance → List ℕ → Host ClientProfile → ClientProfile
  handed_with gifts pdu host = handed (client_profile settings) (up (channel_of pdu) pdu host.channels) (ready (client_profile settings) gifts host).profile

  heard_unsaid : (gifts : List Circumstance) (pdu : List ℕ) (host : Host ClientProfile) → Came is_unsaid (handed_with gifts pdu host).client.cause (hear (client_profile settings) gifts (Heard pdu) host).profile.client.cause
  heard_unsaid gifts pdu host =
      let p = handed_with gifts pdu host in
      let v = hears (client_profile settings).policy (channel_of pdu) pdu host.channels in
      hears_so settings is_unsaid shelf_unsaid p.client.cause (hears_pdu (client_profile settings) pdu (ready (client_profile settings) gifts host)) refl refl (each_unsaid p.client.cause v v.events p (came_same is_unsaid p.client.cause))

  pub record Decides (pdu : List ℕ) (host : Host ClientProfile) (outcome : Outcome) : Type 0 where
    pub own : ℕ
    pub psm : ℕ
    pub sdu : List ℕ
    pub brought : up (channel_of pdu) pdu host.channels ≡ Received own psm sdu
    pub shows : sdu_shows host.profile.client.stage psm sdu host.profile.client ≡ Some outcome

  pub decides : (gifts : List Circumstance) (pdu : List ℕ) (host : Host ClientProfile) (outcome : Outcome) (decision : Decision) → host.profile.client.cause ≡ None → (hear (client_profile settings) gifts (Heard pdu) host).profile.client.cause ≡ Some outcome → decision_of outcome ≡ Some decision
      → Decides pdu host outcome
  decides gifts pdu host outcome decision none some said =
      by (up (channel_of pdu) pdu host.channels) refl (came_before (handed_with gifts pdu host).client.cause outcome decision said (subst (Came is_unsaid (handed_with gifts pdu host).client.cause) some (heard_unsaid gifts pdu host)))
    where
      client : Client
      client = host.profile.client

      by : (brought : Handed) → up (channel_of pdu) pdu host.channels ≡ brought → (handed (client_profile settings) brought (ready (client_profile settings) gifts host).profile).client.cause ≡ Some outcome → Decides pdu host outcome
      by Nothing is came = let never : None ≡ Some outcome = sym none ∙ came in absurd cc
      by (Received own psm sdu) is came = record {
        own = own;
        psm = psm;
        sdu = sdu;
        brought = is;
        shows = sym (outcomes_are_shown (Hears (events.Sdu psm sdu) ∷ []) client none ∙ none_later (sdu_shows client.stage psm sdu client)) ∙ came;
      }
