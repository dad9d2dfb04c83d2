-- A server uses up the answers of its inbox, and what holds of all that it was to give holds of those that are left.
use Rattle.std.proofs.Common.{true, ℕ, List, [], ◌∷◌, Option, Some, None, Ok, Err}
use Rattle.std.specs.List.{AllByRecursion}
use Rattle.pair_laws.specs.bt_base.specs.declared.settings.Settings.{Settings}
use Rattle.pair_laws.specs.channel_model.specs.declared.event.ChannelEvent.{ChannelEvent}
use Rattle.pair_laws.specs.channel_model.specs.declared.event.ChannelEvent.TheVariants.{Opened, Closed, Features, FeaturesLost, DisconnectLost}
use Rattle.pair_laws.specs.channel_model.specs.Calls.{sends}
use Rattle.pair_laws.specs.channel_model.specs.Value.{Channels}
use Rattle.pair_laws.specs.obex_session.specs.InboxCalls.{InboxCall, Answer, left_by}
use Rattle.pair_laws.specs.push_model.specs.Server.{Server, Lent, channel_down, lends, lent_sdu, stepped}
use Rattle.answer_laws.proofs.Using.{either, sdu_heard, channel_closed, link_gone}
use Rattle.pair_laws.specs.world_model.specs.Machines.{Up, Down, News, Linked, Failed, Heard, TimerFired, Cancelled, Opening}
use Rattle.pair_laws.specs.host_model.specs.Circumstances.{Circumstance}
use Rattle.pair_laws.specs.host_model.specs.Endpoints.{endpoint_of, takes_sdu}
use Rattle.pair_laws.specs.host_model.specs.Pdus.{sdu_of}
use Rattle.pair_laws.specs.host_model.specs.Profiles.{Stride}
use Rattle.pair_laws.specs.host_model.specs.Servers.{ServerProfile, told, happened, is_told, waiting, submits, takes}
use Rattle.inbox_laws.specs.Owned.{own_profile}
use Rattle.inbox_laws.proofs.Keeping.{KeepsSo}

-- ---- calls

-- what is so of each answer is so of those that are left
pub all_left : (P : Answer → Type 0) (calls : List InboxCall) (answers : List Answer) → AllByRecursion P answers → AllByRecursion P (left_by calls answers)
all_left P [] answers all = all
all_left P (call ∷ calls) [] all = tt
all_left P (call ∷ calls) (Ok done ∷ answers) all = all_left P calls answers all.1
all_left P (call ∷ calls) (Err fault ∷ answers) all = all.1

-- ---- what holds of answers whichever of them are used up

module _ (Q : List Answer → Type 0) (left : (calls : List InboxCall) (answers : List Answer) → Q answers → Q (left_by calls answers)) where
  abbrev Has : ServerProfile → Type 0
  Has serving = Q serving.inbox.answers

  told_kept : (circumstances : List Circumstance) (news : News) (serving : ServerProfile) → Has serving → Has (told circumstances news serving)
  told_kept circumstances (Linked Up) serving all = all
  told_kept circumstances (Linked (Down reason)) serving all = link_gone (λ failed. Q) (λ failed. left) serving.server serving.inbox all
  told_kept circumstances (Failed status) serving all = all
  told_kept circumstances (Heard pdu) serving all = all
  told_kept circumstances TimerFired serving all = all
  told_kept circumstances Cancelled serving all = all
  told_kept circumstances (Opening name) serving all = all

  happened_kept : (event : ChannelEvent) (v : Channels) (serving : ServerProfile) → Has serving → Has (happened event v serving)
  happened_kept (Opened own psm) v serving all = all
  happened_kept (Closed own psm reason) v serving all =
      let reacted = channel_down psm serving.server serving.inbox in
      let after : ServerProfile = record serving { server = reacted.server; inbox = reacted.gift } in
      either Has (is_told reason) after serving (channel_closed (λ failed. Q) (λ failed. left) psm serving.server serving.inbox all) all
  happened_kept (Features features) v serving all = all
  happened_kept FeaturesLost v serving all = all
  happened_kept (DisconnectLost own) v serving all = all

  submits_kept : (found : Option ℕ) (lent : Lent) (v : Channels) (server : Server) (serving : ServerProfile) → Has serving → Has (submits found lent v server serving).profile
  submits_kept None lent v server serving all = all
  submits_kept (Some own) lent v server serving all =
      let taken : Stride ServerProfile = record { channels = sends own (sdu_of lent.payload) v; profile = record serving { server = stepped server }; more = true } in
      either (λ (stride : Stride ServerProfile). Has stride.profile) (takes_sdu own (sdu_of lent.payload) v) taken (waiting v server serving) all all

  takes_kept : (lent : Option Lent) (v : Channels) (server : Server) (serving : ServerProfile) → Has serving → Has (takes lent v server serving).profile
  takes_kept None v server serving all = all
  takes_kept (Some lent) v server serving all = submits_kept (endpoint_of lent.psm serving.endpoints) lent v server serving all

  pub answers_kept : (settings : Settings) → KeepsSo (own_profile settings) Has
  answers_kept settings = record {
    given = λ circumstances serving all. all;
    told = told_kept;
    received = λ own psm sdu serving all. sdu_heard (λ failed. Q) (λ failed. left) psm sdu serving.server serving.inbox all;
    happened = happened_kept;
    sent = λ v serving all. all;
    steps = λ v serving all. let server = lends serving.server in takes_kept (lent_sdu server) v server serving all;
  }
