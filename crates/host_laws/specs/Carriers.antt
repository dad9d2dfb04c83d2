-- What the inbox of a server gains over links of either transport: one channel alone carries packets on each, over L2CAP or over RFCOMM
-- (Object Push Profile 1.2, 4.3; IrOBEX 1.5, 2.2 and 3.4.3).
use Rattle.std.specs.Prelude.{ℕ, ◌≡◌, ◌==◌, true, List, [], ◌∷◌, ◌++◌, Option, Some, None, if◌then◌else◌}
use Rattle.std.specs.List.{AllByRecursion, AllZip, filter_map, flat_map}
use Rattle.shelf_model.specs.bt_base.specs.declared.settings.Settings.{Settings}
use Rattle.shelf_model.specs.bt_base.specs.declared.settings.Transport.{Transport}
use Rattle.shelf_model.specs.bt_base.specs.declared.settings.Transport.TheVariants.{L2cap, Rfcomm}
use Rattle.shelf_model.specs.bt_base.specs.Objects.{Object, Contents}
use Rattle.shelf_model.specs.capture.specs.declared.flow.Flow.TheVariants.{Out, Into}
use Rattle.shelf_model.specs.rfcomm_frames.specs.declared.connection.Role.TheVariants.{Responder}
use Rattle.push_laws.specs.link_talk.specs.declared.channel.Channel.{Channel}
use Rattle.push_laws.specs.link_talk.specs.declared.party.Party.{Party}
use Rattle.push_laws.specs.link_talk.specs.ObjectsHeard.{objects}
use Rattle.push_laws.specs.link_talk.specs.Sayings.{Saying}
use Rattle.push_laws.specs.link_talk.specs.Sdus.{Spoken, spoken_as, spoken, sdus}
use Rattle.push_laws.specs.push_model.specs.Client.{own_maximum}
use Rattle.push_laws.specs.push_model.specs.Server.{object_psm, rfcomm_psm}
use Rattle.push_laws.specs.push_model.specs.Sessions.{other_of}
use Rattle.push_laws.specs.Faults.{psm_of}
use Rattle.push_laws.specs.Laws.{stored_in}
use Rattle.push_laws.specs.Occurrences.{Occurrence, Came, Went, Closed, LinkDown, Asked, Answering, begun}
use Rattle.push_laws.specs.Premises.{AllMayCome}
use Rattle.push_laws.specs.Readings.{closes, came_on}
use Rattle.shelf_model.specs.host_model.specs.Hosts.{Host}
use Rattle.shelf_model.specs.host_model.specs.Servers.{ServerProfile, server_profile}
use Rattle.host_laws.specs.Calls.{Asks}
use Rattle.host_laws.specs.Lives.{Mark, Lives}
use Rattle.host_laws.specs.OneCarrier.{CarriesAlone}
use Rattle.host_laws.specs.OverLinks.{GoesOut}
use Rattle.host_laws.specs.Seen.{spoken_of}
use Rattle.host_laws.specs.Serving.{served}
use Rattle.host_laws.specs.Spoken.{IsServed}

-- ---- what happened to a server on each link

abbrev pub links_from : (now list : List Occurrence) → List (List Occurrence)
links_from now [] = now ∷ []
links_from now (Came psm sdu ∷ rest) = links_from (now ++ Came psm sdu ∷ []) rest
links_from now (Went psm sdu ∷ rest) = links_from (now ++ Went psm sdu ∷ []) rest
links_from now (Closed psm ∷ rest) = links_from (now ++ Closed psm ∷ []) rest
links_from now (LinkDown ∷ rest) = now ∷ links_from [] rest
links_from now (Asked ∷ rest) = links_from (now ++ Asked ∷ []) rest
links_from now (Answering answers ∷ rest) = links_from (now ++ Answering answers ∷ []) rest

-- up to each time that a link went down, and behind the last of them
abbrev pub links_of : List Occurrence → List (List Occurrence)
links_of list = links_from [] list

-- an SDU that came or went on a channel to a PSM
abbrev pub move_on : ℕ → Occurrence → Option Spoken
move_on psm (Came at sdu) = if at == psm then Some (spoken_as Into sdu) else None
move_on psm (Went at sdu) = if at == psm then Some (spoken_as Out sdu) else None
move_on psm (Closed at) = None
move_on psm LinkDown = None
move_on psm Asked = None
move_on psm (Answering answers) = None

-- none comes on such a channel
abbrev pub ComesAside : ℕ → Occurrence → Type 0
ComesAside psm (Came at sdu) = at ≡ psm → ⊥
ComesAside psm (Went at sdu) = Unit {0}
ComesAside psm (Closed at) = Unit {0}
ComesAside psm LinkDown = Unit {0}
ComesAside psm Asked = Unit {0}
ComesAside psm (Answering answers) = Unit {0}

-- nor behind the closing of one
abbrev pub ClosesLast : ℕ → List Occurrence → Type 0
ClosesLast psm [] = Unit {0}
ClosesLast psm (one ∷ rest) = (closes psm one ≡ true → AllByRecursion (ComesAside psm) rest) × ClosesLast psm rest

-- ---- how it is read off the talk

-- a server that reads with this longest part of an SDU: its multiplexer was opened by the client, and its user channel is 18
abbrev pub reader : Settings → (frame : ℕ) → Transport → Party
reader settings frame transport = record { frame = frame; packet = own_maximum transport settings; role = Responder; dlci = 18 }

-- The SDUs that came are those that the talk has on the channel; over RFCOMM with those that went, in their order.
abbrev pub HasSdus : Party → Transport → Channel → List Saying → List Occurrence → Type 0
HasSdus party L2cap channel said on = filter_map (came_on object_psm) on ≡ sdus party channel Into said
HasSdus party Rfcomm channel said on = filter_map (move_on rfcomm_psm) on ≡ spoken party channel said

-- a link: the transport of its packets, and what moved on it
pub record CarriedLink : Type 0 where
  pub transport : Transport
  pub moved : List Saying

-- one channel alone carries packets in the own talk of the link, and what happened to the server is read off it
pub record IsReadOn (settings : Settings) (frame : ℕ) (on : List Occurrence) (link : CarriedLink) : Type 0 where
  pub said : List Saying
  pub waits : List Saying
  pub talk_is : spoken_of said ≡ link.moved ++ waits
  pub go_out : AllByRecursion GoesOut waits
  pub is_served : IsServed link.moved
  pub channel : Channel
  pub psm_is : channel.psm ≡ psm_of link.transport
  pub alone : CarriesAlone channel said
  pub sdus_are : HasSdus (reader settings frame link.transport) link.transport channel said on
  pub aside : AllByRecursion (ComesAside (psm_of (other_of link.transport))) on
  pub last : ClosesLast (psm_of link.transport) on

-- what the PDUs spell that moved, link after link
abbrev pub objects_moved : Settings → (frame : ℕ) → List CarriedLink → List Object
objects_moved settings frame links = flat_map (λ (link : CarriedLink). objects (reader settings frame link.transport) link.moved) links

-- Then the inbox of a host gains exactly these objects, where no call of the inbox fails and no request is ignored.
abbrev pub HostsGainByCarriers : Type 0
HostsGainByCarriers = (settings : Settings) (before : List Object) (frame : ℕ) →
    let content : Option Contents = Some (record { stored = before; pending = None }) in
    (asks : Asks (server_profile settings content)) (marks : List Mark) (host : Host ServerProfile) (lives : Lives (server_profile settings content) asks marks host)
    → AllMayCome settings [] (begun settings content) (served settings content asks marks host lives)
    → (links : List CarriedLink) → AllZip (IsReadOn settings frame) (links_of (served settings content asks marks host lives)) links
    → stored_in host.profile.inbox.content ≡ Some (before ++ objects_moved settings frame links)
