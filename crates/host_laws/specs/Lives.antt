-- A host from its first moment on, over all its links.
use Rattle.std.specs.Prelude.{◌≡◌, List, [], ◌∷◌, ◌++◌, map}
use Rattle.std.specs.List.{AllByRecursion, flat_map, filter_map}
use Rattle.channel_laws.specs.channel_model.specs.Value.{Channels, no_channels}
use Rattle.channel_laws.specs.channel_model.specs.Calls.{link_down}
use Rattle.channel_laws.specs.channel_model.specs.Policies.{Policy}
use Rattle.channel_laws.specs.Runs.{Occurrence, Comes, Gives, Fires, run_of}
use Rattle.shelf_model.specs.world_model.specs.Machines.{LinkEvent, Up, Down, News, Linked, Failed, Heard, TimerFired, Cancelled, Opening}
use Rattle.shelf_model.specs.host_model.specs.Circumstances.{Circumstance}
use Rattle.shelf_model.specs.host_model.specs.Profiles.{Profile}
use Rattle.shelf_model.specs.host_model.specs.Hosts.{Host, first_host}
use Rattle.shelf_model.specs.host_model.specs.Machines.{upper}
use Rattle.host_laws.specs.Acts.{Act, Hears, Says, Acting}
use Rattle.host_laws.specs.Calls.{Asks, values_after, asked, outer}
use Rattle.host_laws.specs.Feeds.{Feed, all_fed, asked_from, Tiding, Tells, Turns, tidings_of, tidings_from}

-- ---- what it heard and said

-- on a link, or that the link came up or went down
pub data Mark : Type 0 where
  Occurred : (one : Occurrence) → Mark
  Turned : (event : LinkEvent) → Mark

abbrev pub news_marks : News → List Mark
news_marks (Linked event) = Turned event ∷ []
news_marks (Failed status) = []
news_marks (Heard pdu) = Occurred (Comes pdu) ∷ []
news_marks TimerFired = Occurred Fires ∷ []
news_marks Cancelled = []
news_marks (Opening name) = []

abbrev pub act_marks : {G : Type 0} → Act G → List Mark
act_marks (Hears gifts news) = news_marks news
act_marks (Says pdu) = Occurred (Gives pdu) ∷ []

-- ---- its links

-- all that happened to its channels until the link came up or went down
pub record Span : Type 0 where
  pub list : List Occurrence
  pub event : LinkEvent

-- a link that goes down closes the channels that are left
abbrev pub end_tidings : LinkEvent → Channels → List Tiding
end_tidings Up v = Turns Up ∷ []
end_tidings (Down reason) v = map Tells (link_down v).events ++ Turns (Down reason) ∷ []

abbrev pub span_tidings : Policy → Span → List Tiding
span_tidings policy span = tidings_from policy no_channels span.list ++ end_tidings span.event (values_after policy no_channels span.list)

-- what is told over all links, and then on the one that there is
abbrev pub all_tidings : Policy → List Span → List Occurrence → List Tiding
all_tidings policy spans now = flat_map (span_tidings policy) spans ++ tidings_from policy no_channels now

abbrev pub marks_on : List Occurrence → List Mark
marks_on list = map Occurred (filter_map outer list)

abbrev pub span_marks : Span → List Mark
span_marks span = marks_on span.list ++ Turned span.event ∷ []

abbrev pub all_marks : List Span → List Occurrence → List Mark
all_marks spans now = flat_map span_marks spans ++ marks_on now

-- what its profile asked for
abbrev pub all_asked : List Span → List Occurrence → List Occurrence
all_asked spans now = flat_map (λ (span : Span). filter_map asked span.list) spans ++ filter_map asked now

-- A host after these marks: on each link its channels are those of a run, and its profile went through what they told.
pub record Lives {P : Type 0} (A : Profile P) (asks : Asks A) (marks : List Mark) (host : Host P) : Type 0 where
  pub spans : List Span
  pub now : List Occurrence
  pub feeds : List Feed
  pub channels_run : host.channels ≡ (run_of A.policy now).value
  -- no more is to be told, nor was where a link ended
  pub all_told : host.channels.events ≡ []
  pub spans_told : AllByRecursion (λ (span : Span). (run_of A.policy span.list).value.events ≡ []) spans
  pub profile_is : host.profile ≡ all_fed A A.first feeds
  pub tidings_are : tidings_of feeds ≡ all_tidings A.policy spans now
  pub asked_are : all_asked spans now ≡ asked_from A asks A.first feeds
  pub marks_are : all_marks spans now ≡ marks

-- what happened to its channels on each link, the last one behind the others
abbrev pub on_links : {P : Type 0} (A : Profile P) (asks : Asks A) (marks : List Mark) (host : Host P) → Lives A asks marks host → List (List Occurrence)
on_links A asks marks host lives = map (λ (span : Span). span.list) lives.spans ++ lives.now ∷ []

-- So it is of every host, whatever it hears and says.
abbrev pub HostsRun : {P : Type 0} → Profile P → Type 0
HostsRun {P} A = (asks : Asks A) (acts : List (Act Circumstance)) (host : Host P) → Acting (upper A) acts (first_host A) host → Lives A asks (flat_map act_marks acts) host
