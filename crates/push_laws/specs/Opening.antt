-- The channels that a client opens in one push, and whose they are (Object Push Profile 1.2, 5; Core 5.1, Volume 3 Part B,
-- 4.7; Generic Object Exchange Profile 2.1, 4.4: over L2CAP the peer is asked first what it supports).
use Rattle.std.specs.Prelude.{ℕ, ◌≡◌, ◌≤◌, ◌*◌, ◌==◌, ◌&&◌, true, Option, Some, None, List, [], ◌∷◌, ◌++◌, length, if◌then◌else◌}
use Rattle.std.specs.List.{filter_map, flat_map}
use Rattle.link_talk.specs.bt_base.specs.declared.settings.Transport.{Transport}
use Rattle.link_talk.specs.bt_base.specs.declared.settings.Transport.TheVariants.{L2cap, Rfcomm}
use Rattle.push_model.specs.sdp_elements.specs.declared.target.Target.{Target}
use Rattle.push_model.specs.sdp_client.specs.declared.reason.Found.{Found}
use Rattle.push_model.specs.sdp_client.specs.declared.reason.Found.TheVariants.{More, Service, NoService, Refused}
use Rattle.push_model.specs.sdp_client.specs.Hearing.{found_at}
use Rattle.push_model.specs.Client.{Client, with_object}
use Rattle.push_model.specs.Events.{News, LinkUp, LinkDown, LinkFailed, ChannelOpen, ChannelClosed, Sdu, FeaturesTold, FeaturesLost, Timer, is_search, search_psm, rfcomm_psm}
use Rattle.push_model.specs.Laws.{Deed, Hears, Asks, Finishes, Cancels, done, all_done}
use Rattle.push_model.specs.Responding.{is_object}
use Rattle.push_model.specs.Shown.{way_of}
use Rattle.push_model.specs.Steps.{Step, Wait, MakeLink, AskFeatures, OpenChannel, SendSdu, CloseChannel, BreakLink, Ended, NoMemory, steps}

-- ---- what the client asks for

-- the channels that it opens, and the features of the peer
abbrev pub way_in : Step → List Step
way_in Wait = []
way_in MakeLink = []
way_in AskFeatures = AskFeatures ∷ []
way_in (OpenChannel psm) = OpenChannel psm ∷ []
way_in (SendSdu psm payload) = []
way_in (CloseChannel psm) = []
way_in BreakLink = []
way_in (Ended outcome) = []
way_in NoMemory = []

abbrev pub way_by : Deed → Client → List Step
way_by (Hears news) client = []
way_by (Asks parts) client = way_in (steps client parts).step
way_by Finishes client = []
way_by Cancels client = []

abbrev pub way_taken : List Deed → Client → List Step
way_taken [] client = []
way_taken (deed ∷ deeds) client = way_by deed client ++ way_taken deeds (done deed client)

-- ---- what it heard of the service

-- the target of an answer that is whole with a reply
abbrev pub found_in : Found → List Target
found_in More = []
found_in (Service target) = target ∷ []
found_in NoService = []
found_in (Refused reason) = []

abbrev pub targets_told : News → Client → List Target
targets_told LinkUp client = []
targets_told (LinkDown reason) client = []
targets_told (LinkFailed status) client = []
targets_told (ChannelOpen psm mtu) client = []
targets_told (ChannelClosed psm cause) client = []
targets_told (Sdu psm octets) client = if is_search client.stage && (psm == search_psm) then found_in (found_at client.query octets) else []
targets_told FeaturesTold client = []
targets_told FeaturesLost client = []
targets_told Timer client = []

abbrev pub targets_by : Deed → Client → List Target
targets_by (Hears news) client = targets_told news client
targets_by (Asks parts) client = []
targets_by Finishes client = []
targets_by Cancels client = []

abbrev pub targets_heard : List Deed → Client → List Target
targets_heard [] client = []
targets_heard (deed ∷ deeds) client = targets_by deed client ++ targets_heard deeds (done deed client)

-- ---- the way to an object

-- Over L2CAP the channel is that of the PSM which the target names, and the features are asked for first; over RFCOMM it is that
-- of the multiplexer, which then opens the server channel.
abbrev pub way_to : Transport → ℕ → List Step
way_to L2cap psm = AskFeatures ∷ OpenChannel psm ∷ []
way_to Rfcomm channel = OpenChannel rfcomm_psm ∷ []

-- to the service records, and from there to the object where a target names a way to it
abbrev pub whole_way : Transport → List Target → List Step
whole_way transport targets = OpenChannel search_psm ∷ flat_map (way_to transport) (filter_map (way_of transport) targets)

-- From a begin to the next one a client hears at most one target, and what it asks for is a front of the way to that.
pub record TakesTheWay (transport : Transport) (targets : List Target) (taken : List Step) : Type 0 where
  pub one : length targets ≤ 1
  pub behind : List Step
  pub way : whole_way transport targets ≡ taken ++ behind

abbrev pub OpensTheTarget : Type 0
OpensTheTarget = (client : Client) (name : List ℕ) (size : ℕ) (deeds : List Deed) → let begun : Client = with_object name size client in TakesTheWay client.transport (targets_heard deeds begun) (way_taken deeds begun)

-- ---- over L2CAP

abbrev pub psm_opened : Step → Option ℕ
psm_opened Wait = None
psm_opened MakeLink = None
psm_opened AskFeatures = None
psm_opened (OpenChannel psm) = Some psm
psm_opened (SendSdu psm payload) = None
psm_opened (CloseChannel psm) = None
psm_opened BreakLink = None
psm_opened (Ended outcome) = None
psm_opened NoMemory = None

-- A front of two channels: that to the service records, and that of the object, which is neither that nor RFCOMM's.
pub record AreTwoAtMost (psms : List ℕ) : Type 0 where
  pub psm : ℕ
  pub behind : List ℕ
  pub all : search_psm ∷ psm ∷ [] ≡ psms ++ behind
  pub not_search : psm ≡ search_psm → ⊥
  pub not_rfcomm : psm ≡ rfcomm_psm → ⊥

-- Such are the channels that a client opens in one push over L2CAP.
abbrev pub OpensTwoAtMost : Type 0
OpensTwoAtMost = (client : Client) (name : List ℕ) (size : ℕ) (deeds : List Deed) → client.transport ≡ L2cap → AreTwoAtMost (filter_map psm_opened (way_taken deeds (with_object name size client)))

-- ---- the server channel

-- the only target that was heard names a server channel, and the multiplexer has its DLCI, which is twice the number (RFCOMM 1.2, 5.4)
pub record HasServerChannel (targets : List Target) (client : Client) : Type 0 where
  pub target : Target
  pub number : ℕ
  pub heard : targets ≡ target ∷ []
  pub named : way_of Rfcomm target ≡ Some number
  pub dlci : client.mux.dlci ≡ 2 * number

-- Over RFCOMM a client that is on the channel of its object opens there the server channel which the target names.
abbrev pub OpensTheServerChannel : Type 0
OpensTheServerChannel = (client : Client) (name : List ℕ) (size : ℕ) (deeds : List Deed) → let begun : Client = with_object name size client in
    client.transport ≡ Rfcomm → is_object (all_done deeds begun).stage ≡ true → HasServerChannel (targets_heard deeds begun) (all_done deeds begun)
