-- What the inbox of a server gains over all links of a run of turns, read off what moved on each: one object channel over L2CAP on each link
-- (Object Push Profile 1.2, 4.3; IrOBEX 1.5, 3.4.3).
use Rattle.std.specs.Prelude.{◌≡◌, ◌⊎◌, true, List, [], ◌++◌, Option, Some, None}
use Rattle.std.specs.List.{AllByRecursion, flat_map}
use Rattle.shelf_model.specs.bt_base.specs.declared.settings.Settings.{Settings}
use Rattle.shelf_model.specs.bt_base.specs.declared.settings.Transport.TheVariants.{L2cap}
use Rattle.shelf_model.specs.bt_base.specs.Objects.{Object, Contents}
use Rattle.push_laws.specs.link_talk.specs.declared.party.Party.{Party}
use Rattle.push_laws.specs.link_talk.specs.ObjectsHeard.{objects}
use Rattle.channel_laws.specs.channel_model.specs.Policies.{Policy, policy}
use Rattle.channel_laws.specs.Runs.{Occurrence, Comes, Connects, AsksFeatures, Disconnects, Sends, Gives, Fires, Tells}
use Rattle.channel_laws.specs.Sdus.{StatesFrame}
use Rattle.push_laws.specs.push_model.specs.Client.{own_maximum}
use Rattle.push_laws.specs.Gains as gains
use Rattle.push_laws.specs.Occurrences as push
use Rattle.push_laws.specs.Premises.{AllMayCome}
use Rattle.push_laws.specs.Laws.{stored_in}
use Rattle.shelf_model.specs.world_model.specs.Machines.{LinkEvent, Up, Down}
use Rattle.shelf_model.specs.world_model.specs.Talks.{Talk}
use Rattle.shelf_model.specs.host_model.specs.Hosts.{Host}
use Rattle.shelf_model.specs.host_model.specs.Servers.{ServerProfile, server_profile}
use Rattle.host_laws.specs.Calls.{Asks}
use Rattle.host_laws.specs.Lives.{Span}
use Rattle.host_laws.specs.Gaining.{IsDirect, OneObjectChannel}
use Rattle.host_laws.specs.OverLinks.{parts, moved_in, talk_marks, TalksOverLinks}
use Rattle.host_laws.specs.Serving.{served}
use Rattle.host_laws.specs.Spoken.{IsServed}

-- no PDU comes in
abbrev pub IsNoPdu : Occurrence → Type 0
IsNoPdu (Comes pdu) = ⊥
IsNoPdu (Connects psm) = Unit {0}
IsNoPdu AsksFeatures = Unit {0}
IsNoPdu (Disconnects own) = Unit {0}
IsNoPdu (Sends own sdu) = Unit {0}
IsNoPdu (Gives pdu) = Unit {0}
IsNoPdu Fires = Unit {0}
IsNoPdu Tells = Unit {0}

-- on a link that goes down one channel alone carried packets; nothing is asked of the time before a link comes up
abbrev pub CarriedOne : Policy → LinkEvent → List Occurrence → Type 0
CarriedOne policy Up list = Unit {0}
CarriedOne policy (Down reason) list = OneObjectChannel policy list

-- the same on the link that there is now, if there is one
abbrev pub CarriesOne : Policy → List Occurrence → Type 0
CarriesOne policy list = AllByRecursion IsNoPdu list ⊎ OneObjectChannel policy list

-- What a server heard over its links spells what the PDUs spell that moved on them, link after link, whether or not it heeded all of it: where the host asks
-- for no channel and its peer gives each endpoint once.
abbrev pub HostsReadOverLinks : Type 0
HostsReadOverLinks = (settings : Settings) (content : Option Contents) (party : Party) (asks : Asks (server_profile settings content)) (talk : List Talk) (now : Host ServerProfile) (so : TalksOverLinks (server_profile settings content) asks talk now)
    → StatesFrame (policy settings true) party → party.packet ≡ own_maximum L2cap settings
    → AllByRecursion IsDirect (served settings content asks (flat_map talk_marks talk) now so.lives)
    → AllByRecursion (λ (span : Span). CarriedOne (policy settings true) span.event span.list) so.lives.spans → CarriesOne (policy settings true) so.lives.now
    → AllByRecursion (λ part. IsServed (moved_in part)) (parts talk)
    → gains.objects settings (served settings content asks (flat_map talk_marks talk) now so.lives) ≡ flat_map (λ part. objects party (moved_in part)) (parts talk)

-- At each moment of a run of turns the inbox of a host has gained exactly the objects that the PDUs spell which moved on its links, link after
-- link: where no call of the inbox fails, no request is ignored, the host asks for no channel and its peer gives each endpoint once.
abbrev pub HostsGainOverLinks : Type 0
HostsGainOverLinks = (settings : Settings) (before : List Object) (party : Party) →
    let content : Option Contents = Some (record { stored = before; pending = None }) in
    (asks : Asks (server_profile settings content)) (talk : List Talk) (now : Host ServerProfile) (so : TalksOverLinks (server_profile settings content) asks talk now)
    → StatesFrame (policy settings true) party → party.packet ≡ own_maximum L2cap settings
    → AllMayCome settings [] (push.begun settings content) (served settings content asks (flat_map talk_marks talk) now so.lives)
    → AllByRecursion IsDirect (served settings content asks (flat_map talk_marks talk) now so.lives)
    → AllByRecursion (λ (span : Span). CarriedOne (policy settings true) span.event span.list) so.lives.spans → CarriesOne (policy settings true) so.lives.now
    → AllByRecursion (λ part. IsServed (moved_in part)) (parts talk)
    → stored_in now.profile.inbox.content ≡ Some (before ++ flat_map (λ part. objects party (moved_in part)) (parts talk))
