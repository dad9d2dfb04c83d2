-- What the channels of a PSM carry on a link, as both hosts go through it (this project's own).
use Rattle.std.specs.Prelude.{ℕ, ◌==◌, List, [], ◌∷◌, ◌++◌, if◌then◌else◌}
use Rattle.std.specs.List.{flat_map}
use Rattle.pair_laws.specs.channel_model.specs.Value.{Channels}
use Rattle.pair_laws.specs.push_model.specs.Events.{News, LinkUp, LinkFailed, ChannelOpen, ChannelClosed, Sdu, FeaturesTold, FeaturesLost, Timer}
use Rattle.pair_laws.specs.push_model.specs.Events as news
use Rattle.pair_laws.specs.push_model.specs.Laws.{Deed, Hears, Asks, Finishes, Cancels}
use Rattle.pair_laws.specs.push_model.specs.Steps.{Step, Wait, MakeLink, AskFeatures, OpenChannel, SendSdu, CloseChannel, BreakLink, Ended, NoMemory, steps}
use Rattle.pair_laws.specs.push_laws.specs.Occurrences.{Occurrence, Came, Went, Closed, LinkDown, Asked, Answering}
use Rattle.pair_laws.specs.push_laws.specs.Parties.{sdu_if, IsFrontOf}
use Rattle.pair_laws.specs.host_model.specs.Clients.{ClientProfile, fitted}
use Rattle.pair_laws.specs.host_model.specs.Endpoints.{Endpoint, endpoint_of}
use Rattle.pair_laws.specs.host_model.specs.Pdus.{sdu_of}
use Rattle.pair_laws.specs.host_laws.specs.Fed.{strand_feeds}
use Rattle.pair_laws.specs.host_laws.specs.Pushing.{pushed_from}
use Rattle.pair_laws.specs.host_laws.specs.Serving.{served_from}
use Rattle.pair_laws.specs.host_laws.specs.Woven.{Strand, Hearing, Giving, Firing, Telling, Gifting, Learning, Checking, Stepping}
use Rattle.request_laws.specs.Twists.{Twist, AtClient, AtServer, Both, Set, both_after, all_deeds, taken_on}

-- ---- SDUs of a PSM

-- an SDU that came to a server there, or went from it
abbrev pub come_on : ℕ → Occurrence → List (List ℕ)
come_on carrier (Came psm sdu) = sdu_if (psm == carrier) sdu
come_on carrier (Went psm sdu) = []
come_on carrier (Closed psm) = []
come_on carrier LinkDown = []
come_on carrier Asked = []
come_on carrier (Answering answers) = []

abbrev pub gone_on : ℕ → Occurrence → List (List ℕ)
gone_on carrier (Came psm sdu) = []
gone_on carrier (Went psm sdu) = sdu_if (psm == carrier) sdu
gone_on carrier (Closed psm) = []
gone_on carrier LinkDown = []
gone_on carrier Asked = []
gone_on carrier (Answering answers) = []

-- one that came to a client there
abbrev pub told_on : ℕ → News → List (List ℕ)
told_on carrier LinkUp = []
told_on carrier (news.LinkDown reason) = []
told_on carrier (LinkFailed status) = []
told_on carrier (ChannelOpen psm mtu) = []
told_on carrier (ChannelClosed psm cause) = []
told_on carrier (Sdu psm octets) = sdu_if (psm == carrier) octets
told_on carrier FeaturesTold = []
told_on carrier FeaturesLost = []
told_on carrier Timer = []

abbrev pub heard_on : ℕ → Deed → List (List ℕ)
heard_on carrier (Hears news) = told_on carrier news
heard_on carrier (Asks parts) = []
heard_on carrier Finishes = []
heard_on carrier Cancels = []

-- one that the channel of the client took there
abbrev pub taken_by : ℕ → Step → List Endpoint → Channels → List (List ℕ)
taken_by carrier Wait endpoints v = []
taken_by carrier MakeLink endpoints v = []
taken_by carrier AskFeatures endpoints v = []
taken_by carrier (OpenChannel psm) endpoints v = []
taken_by carrier (SendSdu psm payload) endpoints v = if psm == carrier then taken_on (endpoint_of psm endpoints) (sdu_of payload) v else []
taken_by carrier (CloseChannel psm) endpoints v = []
taken_by carrier BreakLink endpoints v = []
taken_by carrier (Ended outcome) endpoints v = []
taken_by carrier NoMemory endpoints v = []

abbrev pub taken_at : ℕ → Strand → Channels → ClientProfile → List (List ℕ)
taken_at carrier (Hearing pdu) v p = []
taken_at carrier (Giving pdu) v p = []
taken_at carrier Firing v p = []
taken_at carrier Telling v p = []
taken_at carrier (Gifting circumstances) v p = []
taken_at carrier (Learning circumstances heard) v p = []
taken_at carrier Checking v p = []
taken_at carrier Stepping v p = taken_by carrier (steps p.client (fitted p)).step p.endpoints v

-- ---- as both go through a link

-- what the client's channel took and what came of it, what went from the server and what came of that
pub record Streams : Type 0 where
  pub taken : List (List ℕ)
  pub come : List (List ℕ)
  pub gone : List (List ℕ)
  pub heard : List (List ℕ)

abbrev pub no_streams : Streams
no_streams = record { taken = []; come = []; gone = []; heard = [] }

abbrev pub streams_after : ℕ → Set → Twist → Both → Streams → Streams
streams_after carrier set (AtClient strand) both s = record s {
  taken = s.taken ++ taken_at carrier strand both.near both.client;
  heard = s.heard ++ flat_map (heard_on carrier) (all_deeds (pushed_from set.settings both.client (strand_feeds strand both.near)));
}
streams_after carrier set (AtServer strand) both s = record s {
  come = s.come ++ flat_map (come_on carrier) (served_from set.settings set.content both.server (strand_feeds strand both.far));
  gone = s.gone ++ flat_map (gone_on carrier) (served_from set.settings set.content both.server (strand_feeds strand both.far));
}

-- what came to the one is a front of what the other's channel took
pub record AreStreams (s : Streams) : Type 0 where
  pub forth : IsFrontOf s.come s.taken
  pub back : IsFrontOf s.heard s.gone

-- at each moment
abbrev pub AllStayStreams : ℕ → Set → List Twist → Both → Streams → Type 0
AllStayStreams carrier set [] both s = Unit {0}
AllStayStreams carrier set (twist ∷ twists) both s = let after = streams_after carrier set twist both s in AreStreams after × AllStayStreams carrier set twists (both_after set twist both) after
