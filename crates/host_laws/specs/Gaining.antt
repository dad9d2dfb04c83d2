-- What the inbox of a server gains, read off its host's own talk: one object channel over L2CAP on each link (Object Push Profile 1.2, 4.3;
-- IrOBEX 1.5, 3.4.3).
use Rattle.std.specs.Prelude.{◌≡◌, true, List, [], ◌++◌, Option, Some, None}
use Rattle.std.specs.List.{AllByRecursion, flat_map}
use Rattle.shelf_model.specs.bt_base.specs.declared.settings.Settings.{Settings}
use Rattle.shelf_model.specs.bt_base.specs.declared.settings.Transport.TheVariants.{L2cap}
use Rattle.shelf_model.specs.bt_base.specs.Objects.{Object, Contents}
use Rattle.push_laws.specs.link_talk.specs.declared.channel.Channel.{Channel}
use Rattle.push_laws.specs.link_talk.specs.declared.party.Party.{Party}
use Rattle.push_laws.specs.link_talk.specs.ObjectsHeard.{objects}
use Rattle.push_laws.specs.link_talk.specs.Sdus.{sdus}
use Rattle.shelf_model.specs.capture.specs.declared.flow.Flow.TheVariants.{Into}
use Rattle.channel_laws.specs.channel_model.specs.declared.event.ChannelEvent.{ChannelEvent}
use Rattle.channel_laws.specs.channel_model.specs.declared.event.ChannelEvent.TheVariants as events
use Rattle.channel_laws.specs.channel_model.specs.Policies.{Policy, policy}
use Rattle.channel_laws.specs.channel_model.specs.Telling.{is_told_broken}
use Rattle.channel_laws.specs.Runs.{Occurrence, run_of}
use Rattle.channel_laws.specs.Sdus.{StatesFrame}
use Rattle.push_laws.specs.push_model.specs.Client.{own_maximum}
use Rattle.push_laws.specs.Occurrences as push
use Rattle.push_laws.specs.Premises.{AllMayCome}
use Rattle.push_laws.specs.Laws.{stored_in}
use Rattle.shelf_model.specs.world_model.specs.Machines.{LinkEvent, Up, Down}
use Rattle.shelf_model.specs.host_model.specs.Hosts.{Host}
use Rattle.shelf_model.specs.host_model.specs.Servers.{ServerProfile, server_profile}
use Rattle.host_laws.specs.Calls.{Asks}
use Rattle.host_laws.specs.Feeds.{Tiding, Brings, Tells, Turns}
use Rattle.host_laws.specs.Lives.{Mark, Span, Lives, on_links}
use Rattle.host_laws.specs.OneCarrier.{CarriesAlone}
use Rattle.host_laws.specs.Serving.{served}
use Rattle.host_laws.specs.Told.{events_told, sdus_told, told_on}

-- nothing comes or goes over RFCOMM
abbrev pub IsDirect : push.Occurrence → Type 0
IsDirect (push.Came psm sdu) = psm ≡ 0x0003 → ⊥
IsDirect (push.Went psm sdu) = psm ≡ 0x0003 → ⊥
IsDirect (push.Closed psm) = Unit {0}
IsDirect push.LinkDown = Unit {0}
IsDirect push.Asked = Unit {0}
IsDirect (push.Answering answers) = Unit {0}

-- the object channel alone is told to be closed on its PSM
abbrev pub ClosesItself : Channel → ChannelEvent → Type 0
ClosesItself channel (events.Opened own psm) = Unit {0}
ClosesItself channel (events.Closed own psm reason) = psm ≡ 0x1001 → own ≡ channel.own
ClosesItself channel (events.Features features) = Unit {0}
ClosesItself channel events.FeaturesLost = Unit {0}
ClosesItself channel (events.DisconnectLost own) = Unit {0}

-- all SDUs that its talk brings of a channel are handed up, also where its machine closed it: the PDU for which it did so brings none
abbrev pub HandsAllUp : Policy → List Occurrence → Channel → Type 0
HandsAllUp policy list channel = is_told_broken channel.own (events_told (told_on policy list)) ≡ true → (party : Party) → StatesFrame policy party → sdus party channel Into (run_of policy list).said ≡ sdus_told channel.own (told_on policy list)

-- on a link one channel alone carries packets, over L2CAP, and all that comes on it is handed up
pub record OneObjectChannel (policy : Policy) (list : List Occurrence) : Type 0 where
  pub channel : Channel
  pub psm_is : channel.psm ≡ 0x1001
  pub alone : CarriesAlone channel (run_of policy list).said
  pub whole : HandsAllUp policy list channel
  pub closings : AllByRecursion (ClosesItself channel) (events_told (told_on policy list))

abbrev pub IsNoSdu : Tiding → Type 0
IsNoSdu (Brings own psm sdu) = ⊥
IsNoSdu (Tells event) = Unit {0}
IsNoSdu (Turns event) = Unit {0}

-- no SDU comes before a link is there
abbrev pub StartsBare : Policy → LinkEvent → List Occurrence → Type 0
StartsBare policy Up list = AllByRecursion IsNoSdu (told_on policy list)
StartsBare policy (Down reason) list = Unit {0}

-- Then the inbox of a host gains exactly the objects that its own talk spells over all its links, in their order: where no call of the
-- inbox fails and no request is ignored.
abbrev pub HostsGainTalk : Type 0
HostsGainTalk = (settings : Settings) (before : List Object) (party : Party) →
    let content : Option Contents = Some (record { stored = before; pending = None }) in
    (asks : Asks (server_profile settings content)) (marks : List Mark) (host : Host ServerProfile) (lives : Lives (server_profile settings content) asks marks host)
    → StatesFrame (policy settings true) party → party.packet ≡ own_maximum L2cap settings
    → AllMayCome settings [] (push.begun settings content) (served settings content asks marks host lives)
    → AllByRecursion IsDirect (served settings content asks marks host lives)
    → AllByRecursion (OneObjectChannel (policy settings true)) (on_links (server_profile settings content) asks marks host lives)
    → AllByRecursion (λ (span : Span). StartsBare (policy settings true) span.event span.list) lives.spans
    → stored_in host.profile.inbox.content ≡ Some (before ++ flat_map (λ list. objects party (run_of (policy settings true) list).said) (on_links (server_profile settings content) asks marks host lives))
