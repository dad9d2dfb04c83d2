-- Which objects a host was told to push, as its talk has them.
use Rattle.std.proofs.Common.{◌≡◌, ℕ, List, [], ◌∷◌, ◌++◌, map, refl, sym, ap, ◌∙◌, append-nil}
use Rattle.std.specs.List.{AllByRecursion, flat_map}
use Rattle.std.proofs.lemmas.List.Concat.{flat_map-append}
use Rattle.channel_laws.specs.Runs.{Occurrence}
use Rattle.scenario_laws.specs.world_model.specs.Machines.{LinkEvent, News, Linked, Failed, Heard, TimerFired, Cancelled, Opening}
use Rattle.scenario_laws.specs.world_model.specs.Talks.{Talk, Told, Said, Unsent, Met, Done}
use Rattle.scenario_laws.specs.host_model.specs.Circumstances.{Circumstance}
use Rattle.scenario_laws.specs.host_model.specs.Hosts.{Host}
use Rattle.scenario_laws.specs.host_model.specs.Profiles.{Profile}
use Rattle.host_laws.specs.Asked.{BeginsNone}
use Rattle.host_laws.specs.Calls.{Asks}
use Rattle.host_laws.specs.Fed.{turned_feeds}
use Rattle.host_laws.specs.Feeds.{Feed, Gifts, Learns, Receives, Happens, Sent, Steps}
use Rattle.host_laws.specs.Gifts.{gifts_along}
use Rattle.host_laws.specs.Lives.{Mark}
use Rattle.host_laws.specs.Openings.{name_in, name_told, names_told}
use Rattle.host_laws.proofs.Living.{goes-on, turns-on}
use Rattle.host_laws.proofs.OverLinks.{Calmly, goes_calmly, turns_calmly}
use Rattle.host_laws.proofs.Steps.{Grows}
use Rattle.pair_laws.proofs.Given.{IsSilentNews, IsSilent, IsGift, turned_so, grown_served}

-- ---- talk

abbrev pub name_talked : Talk → List (List ℕ)
name_talked (Told news) = name_in news
name_talked (Said pdu) = []
name_talked (Unsent pdu) = []
name_talked (Met fate checked) = []
name_talked (Done outcome) = []

abbrev pub names_talked : List Talk → List (List ℕ)
names_talked talk = flat_map name_talked talk

-- something more that names none, and news
pub same_names : (talk : List Talk) (one : Talk) → name_talked one ≡ [] → names_talked talk ≡ names_talked (talk ++ one ∷ [])
same_names talk one none =
    sym (append-nil (names_talked talk)) ∙ (ap (λ (names : List (List ℕ)). names_talked talk ++ names) (sym (append-nil (name_talked one) ∙ none)) ∙ sym (flat_map-append name_talked talk (one ∷ [])))

pub news_names : (talk : List Talk) (news : News) (names : List (List ℕ)) → names ≡ name_in news → names_talked talk ++ names ≡ names_talked (talk ++ Told news ∷ [])
news_names talk news names is = ap (λ (ns : List (List ℕ)). names_talked talk ++ ns) (is ∙ sym (append-nil (name_in news))) ∙ sym (flat_map-append name_talked talk (Told news ∷ []))

pub no_names : (talk : List Talk) (names : List (List ℕ)) → names ≡ [] → names_talked talk ++ names ≡ names_talked talk
no_names talk names none = ap (λ (ns : List (List ℕ)). names_talked talk ++ ns) none ∙ append-nil (names_talked talk)

unsent_names : (pdus : List (List ℕ)) (news : News) → names_talked (map Unsent pdus ++ Told news ∷ []) ≡ name_in news
unsent_names [] news = append-nil (name_in news)
unsent_names (pdu ∷ pdus) news = unsent_names pdus news

-- it is told of its link
pub turned_names : (talk : List Talk) (pdus : List (List ℕ)) (event : LinkEvent) → names_talked talk ≡ names_talked (talk ++ (map Unsent pdus ++ Told (Linked event) ∷ []))
turned_names talk pdus event =
    sym (append-nil (names_talked talk)) ∙ (ap (λ (names : List (List ℕ)). names_talked talk ++ names) (sym (unsent_names pdus (Linked event))) ∙ sym (flat_map-append name_talked talk (map Unsent pdus ++ Told (Linked event) ∷ [])))

-- ---- what its profile goes through

abbrev NamesNone : Feed → Type 0
NamesNone feed = name_told feed ≡ []

silent_news : (news : News) → IsSilentNews news → name_in news ≡ []
silent_news (Linked event) silent = refl
silent_news (Failed status) silent = refl
silent_news (Heard pdu) silent = refl
silent_news TimerFired silent = refl
silent_news Cancelled silent = refl
silent_news (Opening name) silent = absurd silent

silent_names : (feed : Feed) → IsSilent feed → NamesNone feed
silent_names (Gifts circumstances) silent = refl
silent_names (Learns circumstances news) silent = silent_news news silent
silent_names (Receives own psm sdu) silent = refl
silent_names (Happens event v) silent = refl
silent_names (Sent v) silent = refl
silent_names (Steps v) silent = refl

none_told : (feeds : List Feed) → AllByRecursion NamesNone feeds → names_told feeds ≡ []
none_told [] all = refl
none_told (feed ∷ feeds) all = ap (λ (names : List (List ℕ)). names ++ names_told feeds) all.0 ∙ none_told feeds all.1

all_gifts : (gifts : List (List Circumstance)) → AllByRecursion (IsGift NamesNone silent_names) gifts
all_gifts [] = tt
all_gifts (gift ∷ gifts) = (refl, all_gifts gifts)

module _ {P : Type 0} (A : Profile P) (asks : Asks A) where
  pub grown_names : (acted : List Occurrence) (old new : Host P) (grows : Grows A asks (Unit {0}) acted old new) → AllByRecursion BeginsNone grows.weave → names_told grows.feeds ≡ []
  grown_names acted old new grows begins = none_told grows.feeds (grown_served A asks NamesNone silent_names acted old new grows begins (all_gifts (gifts_along grows.weave)))

  pub goes-names : (marks : List Mark) (acted : List Occurrence) (old new : Host P) (so : Calmly A asks marks old) (grows : Grows A asks (Unit {0}) acted old new) (told : new.channels.events ≡ [])
      → names_told (goes_calmly A asks marks acted old new so grows told).lives.feeds ≡ names_told so.lives.feeds ++ names_told grows.feeds
  unfolding goes_calmly goes-on
  goes-names marks acted old new so grows told = flat_map-append name_told so.lives.feeds grows.feeds

  pub still-names : (marks : List Mark) (acted : List Occurrence) (old new : Host P) (so : Calmly A asks marks old) (grows : Grows A asks (Unit {0}) acted old new) (told : new.channels.events ≡ []) → AllByRecursion BeginsNone grows.weave
      → names_told (goes_calmly A asks marks acted old new so grows told).lives.feeds ≡ names_told so.lives.feeds
  still-names marks acted old new so grows told begins =
      goes-names marks acted old new so grows told ∙ (ap (λ (names : List (List ℕ)). names_told so.lives.feeds ++ names) (grown_names acted old new grows begins) ∙ append-nil (names_told so.lives.feeds))

  pub turns-names : (marks : List Mark) (event : LinkEvent) (circumstances : List Circumstance) (host : Host P) (so : Calmly A asks marks host) → names_told (turns_calmly A asks marks event circumstances host so).lives.feeds ≡ names_told so.lives.feeds
  unfolding turns_calmly turns-on
  turns-names marks event circumstances host so =
      let news = turned_feeds circumstances event host.channels in
      flat_map-append name_told so.lives.feeds news
      ∙ (ap (λ (names : List (List ℕ)). names_told so.lives.feeds ++ names) (none_told news (turned_so NamesNone silent_names circumstances event host.channels)) ∙ append-nil (names_told so.lives.feeds))
