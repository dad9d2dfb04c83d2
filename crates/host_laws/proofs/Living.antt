-- A host over all its links.
use Rattle.std.proofs.Common.{◌≡◌, List, [], ◌∷◌, ◌++◌, map, refl, sym, ap, ap₂, subst, ◌∙◌, append_assoc, append-nil}
use Rattle.std.specs.List.{AllByRecursion, flat_map, filter_map}
use Rattle.std.proofs.lemmas.List.{map-append}
use Rattle.std.proofs.lemmas.List.Concat.{flat_map-append}
use Rattle.std.proofs.lemmas.List.Elements.{filter_map-append}
use Rattle.std.proofs.lemmas.List.Sums.{fold-append}
use Rattle.channel_laws.specs.channel_model.specs.Value.{Channels, no_channels}
use Rattle.channel_laws.specs.channel_model.specs.Calls.{link_down}
use Rattle.channel_laws.specs.channel_model.specs.Policies.{Policy}
use Rattle.channel_laws.specs.Runs.{Occurrence, new_link, run_of}
use Rattle.shelf_model.specs.world_model.specs.Machines.{LinkEvent, Up, Down, Linked, Failed, Heard, TimerFired, Cancelled, Opening}
use Rattle.shelf_model.specs.host_model.specs.Circumstances.{Circumstance}
use Rattle.shelf_model.specs.host_model.specs.Profiles.{Profile}
use Rattle.shelf_model.specs.host_model.specs.Hosts.{Host, first_host, told, ready, hears_news, driven, most_steps}
use Rattle.shelf_model.specs.host_model.specs.Machines.{upper}
use Rattle.host_laws.specs.Acts.{Act, Hears, Says, Does, Acting, from_act}
use Rattle.host_laws.specs.Calls.{Asks, values_after, asked, outer}
use Rattle.host_laws.specs.Feeds.{Feed, Learns, fed, all_fed, asked_from, Tiding, Turns, tidings_in, tidings_of, tidings_from}
use Rattle.host_laws.proofs.Steps.{Grows}
use Rattle.host_laws.specs.Lives.{Mark, Occurred, Turned, act_marks, Span, end_tidings, span_tidings, marks_on, span_marks, Lives, HostsRun}
use Rattle.host_laws.specs.Fed.{happenings, turned_feeds}
use Rattle.host_laws.proofs.Draining.{each_fed, each_told, each_asked}
use Rattle.host_laws.proofs.Growing.{tidings-append, asked-append, readies, drives_grow, act_grows}
use Rattle.host_laws.proofs.Links.{value_run, drives_told, act_told, linked_new}

pub tidings-both : (xs ys : List Feed) → tidings_of (xs ++ ys) ≡ tidings_of xs ++ tidings_of ys
tidings-both xs ys = flat_map-append tidings_in xs ys

pub more_marks : (xs ys : List Occurrence) → marks_on (xs ++ ys) ≡ marks_on xs ++ marks_on ys
more_marks xs ys = ap (map Occurred) (filter_map-append outer xs ys) ∙ map-append Occurred (filter_map outer xs) (filter_map outer ys)

abbrev asked_in : List Span → List Occurrence
asked_in spans = flat_map (λ (span : Span). filter_map asked span.list) spans

pub spans_more : (policy : Policy) (spans : List Span) (span : Span) → AllByRecursion (λ (one : Span). (run_of policy one.list).value.events ≡ []) spans → (run_of policy span.list).value.events ≡ []
    → AllByRecursion (λ (one : Span). (run_of policy one.list).value.events ≡ []) (spans ++ span ∷ [])
spans_more policy [] span all is = (is, tt)
spans_more policy (one ∷ spans) span all is = (all.0, spans_more policy spans span all.1 is)

module _ {P : Type 0} (A : Profile P) (asks : Asks A) where
  unfoldable pub first_lives : Lives A asks [] (first_host A)
  first_lives = record { spans = []; now = []; feeds = []; channels_run = refl; all_told = refl; spans_told = tt; profile_is = refl; tidings_are = refl; asked_are = refl; marks_are = refl }

  -- ---- on its link

  unfoldable pub goes-on : (marks : List Mark) (acted : List Occurrence) (old new : Host P) → Lives A asks marks old → Grows A asks ⊥ acted old new → new.channels.events ≡ [] → Lives A asks (marks ++ map Occurred acted) new
  goes-on marks acted old new lives grows told =
      let value : old.channels ≡ values_after A.policy no_channels lives.now = lives.channels_run ∙ value_run A.policy lives.now new_link in
      record {
        spans = lives.spans;
        now = lives.now ++ grows.list;
        feeds = lives.feeds ++ grows.feeds;
        channels_run = grows.channels_are
            ∙ (ap (λ (v : Channels). values_after A.policy v grows.list) value
            ∙ (sym (fold-append _ no_channels lives.now grows.list) ∙ sym (value_run A.policy (lives.now ++ grows.list) new_link)));
        all_told = told;
        spans_told = lives.spans_told;
        profile_is = grows.profile_is ∙ (ap (λ (p : P). all_fed A p grows.feeds) lives.profile_is ∙ sym (fold-append (fed A) A.first lives.feeds grows.feeds));
        tidings_are = tidings-both lives.feeds grows.feeds
            ∙ (ap₂ (λ (a b : List Tiding). a ++ b) lives.tidings_are (grows.tidings_are ∙ ap (λ (v : Channels). tidings_from A.policy v grows.list) value)
            ∙ (append_assoc (flat_map (span_tidings A.policy) lives.spans) (tidings_from A.policy no_channels lives.now) (tidings_from A.policy (values_after A.policy no_channels lives.now) grows.list)
            ∙ ap (λ (rest : List Tiding). flat_map (span_tidings A.policy) lives.spans ++ rest) (sym (tidings-append A.policy no_channels lives.now grows.list))));
        asked_are = ap (λ (rest : List Occurrence). asked_in lives.spans ++ rest) (filter_map-append asked lives.now grows.list)
            ∙ (sym (append_assoc (asked_in lives.spans) (filter_map asked lives.now) (filter_map asked grows.list))
            ∙ (ap₂ (λ (a b : List Occurrence). a ++ b) lives.asked_are (grows.asked_is ∙ ap (λ (p : P). asked_from A asks p grows.feeds) lives.profile_is) ∙ sym (asked-append A asks A.first lives.feeds grows.feeds)));
        marks_are = ap (λ (rest : List Mark). flat_map span_marks lives.spans ++ rest) (more_marks lives.now grows.list)
            ∙ (sym (append_assoc (flat_map span_marks lives.spans) (marks_on lives.now) (marks_on grows.list))
            ∙ ap₂ (λ (a b : List Mark). a ++ b) lives.marks_are (ap (map Occurred) grows.acted_is));
      }

  pub still : (marks : List Mark) (old new : Host P) → Lives A asks marks old → Grows A asks ⊥ [] old new → new.channels.events ≡ [] → Lives A asks marks new
  still marks old new lives grows told = subst (λ (m : List Mark). Lives A asks m new) (append-nil marks) (goes-on marks [] old new lives grows told)

  -- ---- its link comes up or goes down

  abbrev at_end : LinkEvent → Channels → List Circumstance → List Feed
  at_end event v circumstances = turned_feeds circumstances event v

  pub end_told : (event : LinkEvent) (v : Channels) (circumstances : List Circumstance) → tidings_of (at_end event v circumstances) ≡ end_tidings event v
  end_told Up v circumstances = refl
  end_told (Down reason) v circumstances =
      let news : List Feed = Learns circumstances (Linked (Down reason)) ∷ [] in
      tidings-both (happenings (link_down v) (link_down v).events) news ∙ ap (λ (told : List Tiding). told ++ Turns (Down reason) ∷ []) (each_told (link_down v) (link_down v).events)

  pub none_asked : (event : LinkEvent) (v : Channels) (circumstances : List Circumstance) (p : P) → asked_from A asks p (at_end event v circumstances) ≡ []
  none_asked Up v circumstances p = refl
  none_asked (Down reason) v circumstances p =
      let w = link_down v in
      let news : List Feed = Learns circumstances (Linked (Down reason)) ∷ [] in
      asked-append A asks p (happenings w w.events) news ∙ ap (λ (l : List Occurrence). l ++ []) (each_asked A asks w w.events p)

  pub end_fed : (event : LinkEvent) (circumstances : List Circumstance) (host : Host P) → (hears_news A circumstances (Linked event) host).profile ≡ all_fed A host.profile (at_end event host.channels circumstances)
  end_fed Up circumstances host = refl
  end_fed (Down reason) circumstances host =
      let v = link_down host.channels in
      let news : List Feed = Learns circumstances (Linked (Down reason)) ∷ [] in
      ap (A.told circumstances (Linked (Down reason))) (each_fed A v v.events host.profile) ∙ sym (fold-append (fed A) host.profile (happenings v v.events) news)

  unfoldable pub turns-on : (marks : List Mark) (event : LinkEvent) (circumstances : List Circumstance) (host : Host P) → Lives A asks marks host → Lives A asks (marks ++ Turned event ∷ []) (hears_news A circumstances (Linked event) host)
  turns-on marks event circumstances host lives =
      let fresh = linked_new A circumstances event host lives.all_told in
      let value : host.channels ≡ values_after A.policy no_channels lives.now = lives.channels_run ∙ value_run A.policy lives.now new_link in
      let span : Span = record { list = lives.now; event = event } in
      let news = at_end event host.channels circumstances in
      record {
        spans = lives.spans ++ span ∷ [];
        now = [];
        feeds = lives.feeds ++ news;
        channels_run = fresh;
        all_told = ap (λ (v : Channels). v.events) fresh;
        spans_told = spans_more A.policy lives.spans span lives.spans_told (ap (λ (v : Channels). v.events) (sym lives.channels_run) ∙ lives.all_told);
        profile_is = end_fed event circumstances host ∙ (ap (λ (p : P). all_fed A p news) lives.profile_is ∙ sym (fold-append (fed A) A.first lives.feeds news));
        tidings_are = tidings-both lives.feeds news
            ∙ (ap₂ (λ (a b : List Tiding). a ++ b) lives.tidings_are (end_told event host.channels circumstances ∙ ap (end_tidings event) value)
            ∙ (append_assoc (flat_map (span_tidings A.policy) lives.spans) (tidings_from A.policy no_channels lives.now) (end_tidings event (values_after A.policy no_channels lives.now))
            ∙ (ap (λ (rest : List Tiding). flat_map (span_tidings A.policy) lives.spans ++ rest) (sym (append-nil (span_tidings A.policy span)))
            ∙ (sym (flat_map-append (span_tidings A.policy) lives.spans (span ∷ [])) ∙ sym (append-nil (flat_map (span_tidings A.policy) (lives.spans ++ span ∷ [])))))));
        asked_are = append-nil (asked_in (lives.spans ++ span ∷ []))
            ∙ (flat_map-append (λ (one : Span). filter_map asked one.list) lives.spans (span ∷ [])
            ∙ (ap (λ (rest : List Occurrence). asked_in lives.spans ++ rest) (append-nil (filter_map asked lives.now))
            ∙ (lives.asked_are
            ∙ (sym (append-nil (asked_from A asks A.first lives.feeds))
            ∙ (ap (λ (rest : List Occurrence). asked_from A asks A.first lives.feeds ++ rest) (sym (none_asked event host.channels circumstances (all_fed A A.first lives.feeds)))
            ∙ sym (asked-append A asks A.first lives.feeds news))))));
        marks_are = append-nil (flat_map span_marks (lives.spans ++ span ∷ []))
            ∙ (flat_map-append span_marks lives.spans (span ∷ [])
            ∙ (ap (λ (rest : List Mark). flat_map span_marks lives.spans ++ rest) (append-nil (span_marks span))
            ∙ (sym (append_assoc (flat_map span_marks lives.spans) (marks_on lives.now) (Turned event ∷ [])) ∙ ap (λ (m : List Mark). m ++ Turned event ∷ []) lives.marks_are)));
      }

  -- what happened since the link came up
  pub since-up : (before : List Mark) (gifts : List Circumstance) (old now : Host P) (acted : List Occurrence) → Lives A asks before (ready A gifts old) → Grows A asks ⊥ acted (hears_news A gifts (Linked Up) (ready A gifts old)) now → now.channels.events ≡ []
      → Lives A asks ((before ++ Turned Up ∷ []) ++ map Occurred acted) now
  since-up before gifts old now acted lives grows told =
      goes-on (before ++ Turned Up ∷ []) acted (hears_news A gifts (Linked Up) (ready A gifts old)) now (turns-on before Up gifts (ready A gifts old) lives) grows told

  pub now-is : (before : List Mark) (gifts : List Circumstance) (old now : Host P) (acted : List Occurrence) (lives : Lives A asks before (ready A gifts old)) (grows : Grows A asks ⊥ acted (hears_news A gifts (Linked Up) (ready A gifts old)) now) (told : now.channels.events ≡ [])
      → (since-up before gifts old now acted lives grows told).now ≡ grows.list
  unfolding since-up goes-on turns-on
  now-is before gifts old now acted lives grows told = refl

  -- ---- one act

  abbrev Lives_on : List Mark → Act Circumstance → Host P → Type 0
  Lives_on marks act new = Lives A asks (marks ++ act_marks act) new

  act_lives : (marks : List Mark) (act : Act Circumstance) (old new : Host P) → Lives A asks marks old → Does (upper A) act old new → Lives_on marks act new
  act_lives marks (Hears circumstances (Linked event)) old new lives does =
      let mid = ready A circumstances old in
      let after = hears_news A circumstances (Linked event) mid in
      let readied = still marks old mid lives (readies A asks ⊥ circumstances old) lives.all_told in
      let turned = turns-on marks event circumstances mid readied in
      subst (λ (host : Host P). Lives A asks (marks ++ Turned event ∷ []) host) (sym does)
      (still (marks ++ Turned event ∷ []) after (driven A after) turned (drives_grow A asks ⊥ most_steps after) (drives_told A most_steps after turned.all_told))
  act_lives marks (Hears circumstances (Failed status)) old new lives does =
      goes-on marks [] old new lives (act_grows A asks ⊥ (Hears circumstances (Failed status)) old new tt (λ never. absurd never) does) (act_told A (Hears circumstances (Failed status)) old new does lives.all_told)
  act_lives marks (Hears circumstances (Heard pdu)) old new lives does =
      let act : Act Circumstance = Hears circumstances (Heard pdu) in goes-on marks (from_act act) old new lives (act_grows A asks ⊥ act old new tt (λ never. absurd never) does) (act_told A act old new does lives.all_told)
  act_lives marks (Hears circumstances TimerFired) old new lives does =
      let act : Act Circumstance = Hears circumstances TimerFired in goes-on marks (from_act act) old new lives (act_grows A asks ⊥ act old new tt (λ never. absurd never) does) (act_told A act old new does lives.all_told)
  act_lives marks (Hears circumstances Cancelled) old new lives does =
      let act : Act Circumstance = Hears circumstances Cancelled in goes-on marks (from_act act) old new lives (act_grows A asks ⊥ act old new tt (λ never. absurd never) does) (act_told A act old new does lives.all_told)
  act_lives marks (Hears circumstances (Opening name)) old new lives does =
      let act : Act Circumstance = Hears circumstances (Opening name) in goes-on marks (from_act act) old new lives (act_grows A asks ⊥ act old new tt (λ never. absurd never) does) (act_told A act old new does lives.all_told)
  act_lives marks (Says pdu) old new lives does =
      let act : Act Circumstance = Says pdu in goes-on marks (from_act act) old new lives (act_grows A asks ⊥ act old new tt (λ never. absurd never) does) (act_told A act old new does lives.all_told)

  all_live : (marks : List Mark) (acts : List (Act Circumstance)) (old new : Host P) → Lives A asks marks old → Acting (upper A) acts old new → Lives A asks (marks ++ flat_map act_marks acts) new
  all_live marks [] old new lives same = subst (λ (host : Host P). Lives A asks (marks ++ []) host) (sym same) (subst (λ (m : List Mark). Lives A asks m old) (sym (append-nil marks)) lives)
  all_live marks (act ∷ acts) old new lives (mid, does, rest) =
      subst (λ (m : List Mark). Lives A asks m new) (append_assoc marks (act_marks act) (flat_map act_marks acts)) (all_live (marks ++ act_marks act) acts mid new (act_lives marks act old mid lives does) rest)

  pub lives_from : (acts : List (Act Circumstance)) (host : Host P) → Acting (upper A) acts (first_host A) host → Lives A asks (flat_map act_marks acts) host
  lives_from acts host acting = all_live [] acts (first_host A) host first_lives acting

pub hosts_run : {P : Type 0} (A : Profile P) → HostsRun A
hosts_run A asks acts host acting = lives_from A asks acts host acting
