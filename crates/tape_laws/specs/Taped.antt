-- A host that has what its ports will answer from a tape, whatever they give (this project's own).
use Rattle.std.specs.Prelude.{◌≡◌, List, [], ◌∷◌, ◌++◌}
use Rattle.std.specs.List.{flat_map}
use Rattle.inbox_laws.specs.world_model.specs.Talks.{Talk}
use Rattle.inbox_laws.specs.host_model.specs.Circumstances.{Circumstance}
use Rattle.inbox_laws.specs.host_model.specs.Hosts.{Host}
use Rattle.inbox_laws.specs.host_model.specs.Profiles.{Profile}
use Rattle.inbox_laws.specs.host_laws.specs.Calls.{Asks}
use Rattle.inbox_laws.specs.host_laws.specs.Fed.{TalksFed}
use Rattle.inbox_laws.specs.host_laws.specs.Feeds.{Feed, Gifts, Learns, Receives, Happens, Sent, Steps, fed}
use Rattle.inbox_laws.specs.host_laws.specs.Lives.{on_links}
use Rattle.inbox_laws.specs.host_laws.specs.OverLinks.{talk_marks}

-- A tape tells, by how far it ran and by what the profile is, what the profile is given; and with that it runs on.
pub record Tape (P T : Type 0) : Type 0 where
  pub first : T
  pub gives : T → P → List Circumstance
  pub runs_on : T → P → T

-- how far it ran, and all that the profile went through with it
pub record Taped (P T : Type 0) : Type 0 where
  pub profile : P
  pub at : T
  pub past : List Feed

abbrev pub taped : {P T : Type 0} → Profile P → Tape P T → Profile (Taped P T)
taped {P} {T} A tape = record {
  policy = A.policy;
  first = record { profile = A.first; at = tape.first; past = [] };
  given = λ circumstances now. record { profile = A.given (tape.gives now.at now.profile) now.profile; at = tape.runs_on now.at now.profile; past = now.past ++ Gifts circumstances ∷ [] };
  told = λ circumstances news now. record { profile = A.told circumstances news now.profile; at = now.at; past = now.past ++ Learns circumstances news ∷ [] };
  received = λ own psm sdu now. record { profile = A.received own psm sdu now.profile; at = now.at; past = now.past ++ Receives own psm sdu ∷ [] };
  happened = λ event v now. record { profile = A.happened event v now.profile; at = now.at; past = now.past ++ Happens event v ∷ [] };
  sent = λ v now. record { profile = A.sent v now.profile; at = now.at; past = now.past ++ Sent v ∷ [] };
  steps = λ v now. let stride = A.steps v now.profile in record { channels = stride.channels; profile = record { profile = stride.profile; at = now.at; past = now.past ++ Steps v ∷ [] }; more = stride.more };
  wants_link = λ now. A.wants_link now.profile;
  leaves_link = λ now. A.leaves_link now.profile;
  is_idle = λ now. A.is_idle now.profile;
  outcome = λ now. A.outcome now.profile;
  armed = λ now. A.armed now.profile;
  may_cancel = λ now. A.may_cancel now.profile;
}

-- it asks for the same
abbrev pub taped_asks : {P T : Type 0} (A : Profile P) (tape : Tape P T) → Asks A → Asks (taped A tape)
taped_asks A tape asks = record { call = λ v now. asks.call v now.profile; steps_are = λ v now. asks.steps_are v now.profile }

abbrev pub untaped_host : {P T : Type 0} → Host (Taped P T) → Host P
untaped_host host = record { channels = host.channels; profile = host.profile.profile; may_say = host.may_say }

-- ---- what it goes through, without the tape: it is given what the tape tells

abbrev pub untaped_feed : {P T : Type 0} → Tape P T → Taped P T → Feed → Feed
untaped_feed tape now (Gifts circumstances) = Gifts (tape.gives now.at now.profile)
untaped_feed tape now (Learns circumstances news) = Learns circumstances news
untaped_feed tape now (Receives own psm sdu) = Receives own psm sdu
untaped_feed tape now (Happens event v) = Happens event v
untaped_feed tape now (Sent v) = Sent v
untaped_feed tape now (Steps v) = Steps v

abbrev pub untaped : {P T : Type 0} (A : Profile P) (tape : Tape P T) → Taped P T → List Feed → List Feed
untaped A tape now [] = []
untaped A tape now (feed ∷ feeds) = untaped_feed tape now feed ∷ untaped A tape (fed (taped A tape) now feed) feeds

-- ---- the law

-- A host lives over the links of this talk as one with a tape does, and has the same happen to its channels on each of them; and it was given what the
-- tape told.
pub record IsUntaped {P T : Type 0} (A : Profile P) (tape : Tape P T) (asks : Asks A) (talk : List Talk) (now : Host (Taped P T)) (is : TalksFed (taped A tape) (taped_asks A tape asks) talk now) : Type 0 where
  pub fed : TalksFed A asks talk (untaped_host now)
  pub feeds_are : fed.so.lives.feeds ≡ untaped A tape (taped A tape).first is.so.lives.feeds
  pub lists_are : on_links A asks (flat_map talk_marks talk) (untaped_host now) fed.so.lives ≡ on_links (taped A tape) (taped_asks A tape asks) (flat_map talk_marks talk) now is.so.lives

abbrev pub TapedHostsTalkSo : {P T : Type 0} → Profile P → Tape P T → Type 0
TapedHostsTalkSo {P} {T} A tape = (asks : Asks A) (talk : List Talk) (now : Host (Taped P T)) (is : TalksFed (taped A tape) (taped_asks A tape asks) talk now) → IsUntaped A tape asks talk now is
