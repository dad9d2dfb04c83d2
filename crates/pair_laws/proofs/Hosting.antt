-- A host of a run, with what happened to its channels on each of its links, and what it does as turns of the pair that it is in.
use Rattle.std.proofs.Common.{◌≡◌, ◌⊎◌, inl, inr, ℕ, ◌≤◌, Bool, true, false, not, suc, ◌+◌, List, [], ◌∷◌, ◌++◌, map, length, Some, refl, sym, ap, ap₂, subst, ◌∙◌, append-nil, append_assoc, arith, length-append}
use Rattle.std.specs.List.{AllByRecursion, flat_map, filter_map, list_any}
use Rattle.std.proofs.lemmas.List.{map-append}
use Rattle.std.proofs.lemmas.List.Concat.{flat_map-append}
use Rattle.scenario_laws.specs.acl_fragments.specs.Pieces.{channel_of}
use Rattle.scenario_laws.specs.capture.specs.Histories.{EachAfter}
use Rattle.scenario_laws.specs.capture.proofs.HistoryLaws.{each_after-both}
use Rattle.recovered_laws.specs.Calm.{owes}
use Rattle.channel_laws.specs.channel_model.specs.Giving.{gives}
use Rattle.channel_laws.specs.channel_model.specs.Carrying.{Up as Handed, Nothing, Received}
use Rattle.channel_laws.specs.channel_model.specs.Changing.{is_answer, has_room}
use Rattle.channel_laws.specs.channel_model.specs.Hearing as channels
use Rattle.channel_laws.specs.channel_model.specs.Policies.{Policy}
use Rattle.channel_laws.specs.channel_model.specs.Value.{Channels, no_channels}
use Rattle.channel_laws.specs.Runs.{Occurrence, Comes, Connects, AsksFeatures, Disconnects, Sends, Gives, Fires, Tells, new_link, run_of}
use Rattle.channel_laws.specs.Tries.{one_if}
use Rattle.channel_laws.proofs.Lasting.{answers_of}
use Rattle.scenario_laws.specs.world_model.specs.Machines.{LinkEvent, News, Linked, Failed, Heard, TimerFired, Cancelled, Opening}
use Rattle.scenario_laws.specs.world_model.specs.Talks.{Talk, Told, Said, Unsent}
use Rattle.scenario_laws.specs.world_model.specs.Carriages.{is_told, landed, linked_by, told}
use Rattle.scenario_laws.specs.world_model.specs.Carriages as carriages
use Rattle.scenario_laws.specs.host_model.specs.Circumstances.{Circumstance}
use Rattle.scenario_laws.specs.host_model.specs.Hosts.{Host, ready, hears_news, driven, most_steps, handed, tells_events, hear}
use Rattle.scenario_laws.specs.host_model.specs.Profiles.{Profile}
use Rattle.scenario_laws.specs.host_model.specs.Machines.{upper}
use Rattle.host_laws.specs.Acts.{Act, Hears, Says}
use Rattle.host_laws.specs.Asked.{IsOfLink, BeginsNone, IsWantedAt, up_behind}
use Rattle.host_laws.specs.Calls.{Asks, values_after, outer}
use Rattle.host_laws.specs.Calm.{IsCalmNews, IsReadFrom}
use Rattle.host_laws.specs.Feeds.{Feed, Gifts, Learns, all_fed, asked_from, tidings_of, brought_by}
use Rattle.host_laws.specs.Lives.{Mark, Occurred, Turned, Span}
use Rattle.host_laws.specs.Openings.{name_in, name_told, names_told}
use Rattle.host_laws.specs.OverLinks.{talk_marks}
use Rattle.host_laws.specs.Seen.{IsQuiet, IsCalmAt, IsCalm}
use Rattle.host_laws.specs.Fed.{feeds_up}
use Rattle.host_laws.specs.Gifts.{gifts_by, gifts_along}
use Rattle.host_laws.specs.Woven.{Gifting, Hearing, Learning}
use Rattle.host_laws.proofs.Growing.{calm-both, grows_then, both-begin_none, tells_plain, drives_plain, readies_plain, act_plain}
use Rattle.host_laws.proofs.Links.{value_run, drives_told, act_told}
use Rattle.host_laws.proofs.Living.{goes-on, turns-on}
use Rattle.host_laws.proofs.OverLinks.{Calmly, goes_calmly, turns_calmly, IsAsked, goes-asked, turns-asked, up_turned}
use Rattle.host_laws.proofs.Steps.{Grows}
use Rattle.pair_laws.specs.Heard.{IsHeardSo, HearsSo}
use Rattle.pair_laws.proofs.Given.{IsSilent, IsGift, IsServedSo, all_both, goes-served, turns-served, grown_served}
use Rattle.pair_laws.proofs.Openings.{names_talked, same_names, news_names, no_names, turned_names, grown_names, goes-names, still-names, turns-names}
use Rattle.pair_laws.proofs.Facing.{View, most_of, with_most, PairFrom, GivesNone, SaysNone, MayFire, each_split, comes-in, fires-it}
use Rattle.pair_laws.proofs.Walking.{fired-list, AreMeant, calm-meant, ComesNot, gives_in, outer-gives, outer-comes_not, all_on}
use Rattle.pair_laws.proofs.Numbered.{ended, Links, DoesMore, does-more, turns-to, fires-over}
use Rattle.pair_laws.proofs.Emptied.{calm-empty}
use Rattle.pair_laws.proofs.Silence.{no-answer, silent-room, calm-silent, PassesNone, run-silent, outer-passes_none, fires-once, calm-gives_none, calm-owes_none, run-owes_none, calm-parts}

-- ---- marks

abbrev pub marks_of : List Talk → List Mark
marks_of talk = flat_map talk_marks talk

abbrev pub talk_of : {S : Type 0} → carriages.End S → List Talk
talk_of e = e.talk ++ map Unsent e.waiting

marks_more : (talk more : List Talk) → marks_of (talk ++ more) ≡ marks_of talk ++ marks_of more
marks_more talk more = flat_map-append talk_marks talk more

-- ---- a host

-- what happened on each of its links before something came in is so
abbrev pub AllHearSo : (List Occurrence → Type 0) → List Span → List Occurrence → Type 0
AllHearSo H spans now = AllByRecursion (λ (span : Span). HearsSo H span.list) spans × HearsSo H now

-- it lived calmly through what it was told and said, also of what waits; no push began on its links, each came up where its profile was
-- so, and all that it had of its ports is so; and so is what happened before something came in, or is coming in now. It was told to push
-- what its talk has.
pub record HostAt {P : Type 0} (A : Profile P) (asks : Asks A) (W : P → Type 0) (G : Feed → Type 0) (H : List Occurrence → Type 0) (e : carriages.End (Host P)) : Type 0 where
  pub marks : List Mark
  pub so : Calmly A asks marks e.upper
  pub marks_are : marks ≡ marks_of (talk_of e)
  pub asked : IsAsked A asks W marks e.upper so
  pub given : IsServedSo A asks G marks e.upper so
  pub up_is : up_behind false so.lives.spans ≡ e.linked
  pub heard : AllHearSo H so.lives.spans so.lives.now
  pub comes : (e.coming ≡ []) ⊎ (e.linked ≡ true → H so.lives.now)
  pub named : names_told so.lives.feeds ≡ names_talked e.talk

-- and is one end of a pair on each link; the other is on its link of number j
pub record Held {P T : Type 0} (side : View) (A : Profile P) (asks : Asks A) (W : P → Type 0) (G : Feed → Type 0) (H : List Occurrence → Type 0) (theirs : Policy) (number : ℕ) (e : carriages.End (Host P)) (other : ℕ → List Occurrence) (j : ℕ) (f : carriages.End T) : Type 0 where
  pub host : HostAt A asks W G H e
  pub level : length host.so.lives.spans + length e.owed ≡ number
  pub links : Links side A.policy theirs host.so.lives.spans host.so.lives.now e other j f

-- ---- what comes in

abbrev HearsNot : Occurrence → Type 0
HearsNot (Comes pdu) = ⊥
HearsNot (Connects psm) = Unit {0}
HearsNot AsksFeatures = Unit {0}
HearsNot (Disconnects own) = Unit {0}
HearsNot (Sends own sdu) = Unit {0}
HearsNot (Gives pdu) = Unit {0}
HearsNot Fires = Unit {0}
HearsNot Tells = Unit {0}

-- where nothing does, nothing is asked
still_heard : (H : List Occurrence → Type 0) (past list : List Occurrence) → AllByRecursion HearsNot (filter_map outer list) → EachAfter (IsHeardSo H) past list
still_heard H past [] not = tt
still_heard H past (Comes pdu ∷ list) not = absurd not.0
still_heard H past (Connects psm ∷ list) not = (tt, still_heard H (past ++ Connects psm ∷ []) list not)
still_heard H past (AsksFeatures ∷ list) not = (tt, still_heard H (past ++ AsksFeatures ∷ []) list not)
still_heard H past (Disconnects own ∷ list) not = (tt, still_heard H (past ++ Disconnects own ∷ []) list not)
still_heard H past (Sends own sdu ∷ list) not = (tt, still_heard H (past ++ Sends own sdu ∷ []) list not)
still_heard H past (Gives pdu ∷ list) not = (tt, still_heard H (past ++ Gives pdu ∷ []) list not.1)
still_heard H past (Fires ∷ list) not = (tt, still_heard H (past ++ Fires ∷ []) list not.1)
still_heard H past (Tells ∷ list) not = (tt, still_heard H (past ++ Tells ∷ []) list not)

-- a link ends
heard_turned : (H : List Occurrence → Type 0) (spans : List Span) (now later : List Occurrence) (event : LinkEvent) → AllHearSo H spans now → HearsSo H later → AllHearSo H (spans ++ ended now event ∷ []) later
heard_turned H [] now later event (before, here) behind = ((here, tt), behind)
heard_turned H (span ∷ spans) now later event (before, here) behind = let rest = heard_turned H spans now later event (before.1, here) behind in ((before.0, rest.0), rest.1)

-- ---- what a host does

module _ {P : Type 0} (A : Profile P) (asks : Asks A) (W : P → Type 0) (G : Feed → Type 0) (silent : (feed : Feed) → IsSilent feed → G feed) (H : List Occurrence → Type 0) where
  abbrev Calm : Type 0
  Calm = Unit {0}

  fed_up : (up : Handed) (p : P) → handed A up p ≡ all_fed A p (feeds_up up)
  fed_up Nothing p = refl
  fed_up (Received own psm sdu) p = refl

  told_up : (up : Handed) → tidings_of (feeds_up up) ≡ (brought_by up ++ []) ++ []
  told_up Nothing = refl
  told_up (Received own psm sdu) = refl

  asked_up : (up : Handed) (p : P) → asked_from A asks p (feeds_up up) ≡ []
  asked_up Nothing p = refl
  asked_up (Received own psm sdu) p = refl

  abbrev heard_by : List Circumstance → List ℕ → Host P → Host P
  heard_by gifts pdu host =
      let mid = ready A gifts host in record mid { channels = channels.hears A.policy (channel_of pdu) pdu host.channels; profile = handed A (channels.up (channel_of pdu) pdu host.channels) mid.profile }

  abbrev first_heard : (gifts : List Circumstance) (pdu : List ℕ) (host : Host P) → IsCalmAt A.policy (Comes pdu) host.channels → Grows A asks Calm (Comes pdu ∷ []) host (heard_by gifts pdu host)
  first_heard gifts pdu host calm =
      let up = channels.up (channel_of pdu) pdu host.channels in
      record {
        list = Comes pdu ∷ [];
        feeds = Gifts gifts ∷ feeds_up up;
        channels_are = refl;
        profile_is = fed_up up (A.given gifts host.profile);
        tidings_are = told_up up;
        asked_is = sym (asked_up up (A.given gifts host.profile));
        acted_is = refl;
        calm = λ c. (calm, tt);
        weave = Gifting gifts ∷ Hearing pdu ∷ [];
        woven_is = refl;
        last_is = refl;
        on_link = (tt, (tt, tt));
        feeds_are = ap (λ (l : List Feed). Gifts gifts ∷ l) (sym (append-nil (feeds_up up)));
      }

  abbrev then_heard : (gifts : List Circumstance) (pdu : List ℕ) (host : Host P) → Grows A asks Calm [] (heard_by gifts pdu host) (hear A gifts (Heard pdu) host)
  then_heard gifts pdu host = let mid = heard_by gifts pdu host in grows_then A asks Calm [] [] mid (tells_events A mid) (hear A gifts (Heard pdu) host) (tells_plain A asks Calm mid).grows (drives_plain A asks Calm most_steps (tells_events A mid)).grows

  -- a PDU comes in, and then it does what it does by itself
  abbrev all_heard : (gifts : List Circumstance) (pdu : List ℕ) (host : Host P) → IsCalmAt A.policy (Comes pdu) host.channels → Grows A asks Calm (Comes pdu ∷ []) host (hear A gifts (Heard pdu) host)
  all_heard gifts pdu host calm = grows_then A asks Calm (Comes pdu ∷ []) [] host (heard_by gifts pdu host) (hear A gifts (Heard pdu) host) (first_heard gifts pdu host calm) (then_heard gifts pdu host)

  heard_begins : (gifts : List Circumstance) (pdu : List ℕ) (host : Host P) (calm : IsCalmAt A.policy (Comes pdu) host.channels) → AllByRecursion BeginsNone (all_heard gifts pdu host calm).weave
  unfolding grows_then
  heard_begins gifts pdu host calm =
      let mid = heard_by gifts pdu host in
      let tells = tells_plain A asks Calm mid in
      let drives = drives_plain A asks Calm most_steps (tells_events A mid) in
      (tt, (tt, both-begin_none tells.grows.weave drives.grows.weave tells.begins drives.begins))

  heard_gifts : (gifts : List Circumstance) (pdu : List ℕ) (host : Host P) (calm : IsCalmAt A.policy (Comes pdu) host.channels) → gifts_along (all_heard gifts pdu host calm).weave ≡ gifts ∷ []
  unfolding grows_then
  heard_gifts gifts pdu host calm =
      let mid = heard_by gifts pdu host in
      let tells = tells_plain A asks Calm mid in
      let drives = drives_plain A asks Calm most_steps (tells_events A mid) in
      ap (λ (l : List (List Circumstance)). gifts ∷ l) (flat_map-append gifts_by tells.grows.weave drives.grows.weave ∙ ap₂ (λ (x y : List (List Circumstance)). x ++ y) tells.gifts_are drives.gifts_are)

  heard_list : (gifts : List Circumstance) (pdu : List ℕ) (host : Host P) (calm : IsCalmAt A.policy (Comes pdu) host.channels) → (all_heard gifts pdu host calm).list ≡ Comes pdu ∷ (then_heard gifts pdu host).list
  unfolding grows_then
  heard_list gifts pdu host calm = refl

  -- ---- what happens is meant

  grown_calm : (marks : List Mark) (acted : List Occurrence) (old new : Host P) (so : Calmly A asks marks old) (grows : Grows A asks Calm acted old new) → IsCalm A.policy no_channels (so.lives.now ++ grows.list)
  grown_calm marks acted old new so grows =
      let value : old.channels ≡ values_after A.policy no_channels so.lives.now = so.lives.channels_run ∙ value_run A.policy so.lives.now new_link in
      calm-both A.policy no_channels so.lives.now grows.list so.now_calm (subst (λ (v : Channels). IsCalm A.policy v grows.list) value (grows.calm tt))

  grown_meant : (marks : List Mark) (acted : List Occurrence) (old new : Host P) (so : Calmly A asks marks old) (grows : Grows A asks Calm acted old new) → AreMeant A.policy so.lives.now grows.list
  grown_meant marks acted old new so grows = (each_split _ [] so.lives.now grows.list (calm-meant A.policy (so.lives.now ++ grows.list) (grown_calm marks acted old new so grows))).1

  -- nothing comes in
  walks : (side : View) (theirs : Policy) (there : List Occurrence) (marks : List Mark) (acted : List Occurrence) (e e' : carriages.End (Host P)) (so : Calmly A asks marks e.upper) (grows : Grows A asks Calm acted e.upper e'.upper) → AllByRecursion ComesNot acted → e.coming ≡ [] → e'.coming ≡ []
      → ((far_rest : List (List ℕ)) → (e.owed ≡ [] → far_rest ≡ e.queue ++ e.waiting) → e'.owed ≡ [] → far_rest ++ gives_in acted ≡ e'.queue ++ e'.waiting) → DoesMore side A.policy theirs there so.lives.now (so.lives.now ++ grows.list) e e'
  walks side theirs there marks acted e e' so grows not before none put rest far_coming far_rest p =
      let given : gives_in grows.list ≡ gives_in acted = sym (outer-gives grows.list) ∙ ap gives_in grows.acted_is in
      let all = all_on side A.policy theirs there rest far_coming so.lives.now grows.list far_rest (outer-comes_not grows.list (subst (AllByRecursion ComesNot) (sym grows.acted_is) not)) (grown_meant marks acted e.upper e'.upper so grows)
      (subst (λ (c : List (List ℕ)). PairFrom side A.policy theirs so.lives.now there c rest far_coming far_rest) before p) in
      record {
        after = far_rest ++ gives_in grows.list;
        pair = subst (λ (c : List (List ℕ)). PairFrom side A.policy theirs (so.lives.now ++ grows.list) there c rest far_coming (far_rest ++ gives_in grows.list)) (sym none) all;
        put = λ was owed. ap (λ (l : List (List ℕ)). far_rest ++ l) given ∙ put far_rest was owed;
      }

  abbrev grown : (marks : List Mark) (acted : List Occurrence) (e e' : carriages.End (Host P)) → Calmly A asks marks e.upper → Grows A asks Calm acted e.upper e'.upper → e'.upper.channels.events ≡ [] → Calmly A asks (marks ++ map Occurred acted) e'.upper
  grown marks acted e e' so grows told = goes_calmly A asks marks acted e.upper e'.upper so grows told

  -- where no push begins, all is so where what it is given is
  gives_only : (acted : List Occurrence) (gifts : List (List Circumstance)) (old new : Host P) (grows : Grows A asks Calm acted old new) → AllByRecursion BeginsNone grows.weave → gifts_along grows.weave ≡ gifts → AllByRecursion (IsGift G silent) gifts
      → AllByRecursion G grows.feeds
  gives_only acted gifts old new grows begins same all = grown_served A asks G silent acted old new grows begins (subst (AllByRecursion (IsGift G silent)) (sym same) all)

  -- a push begins
  abbrev begun : (gifts : List Circumstance) (name : List ℕ) (host : Host P) → Grows A asks Calm [] host (hears_news A gifts (Opening name) host)
  begun gifts name host = record {
    list = [];
    feeds = Learns gifts (Opening name) ∷ [];
    channels_are = refl;
    profile_is = refl;
    tidings_are = refl;
    asked_is = refl;
    acted_is = refl;
    calm = λ c. tt;
    weave = Learning gifts (Opening name) ∷ [];
    woven_is = refl;
    last_is = refl;
    on_link = (refl, tt);
    feeds_are = refl;
  }

  abbrev all_begun : (gifts : List Circumstance) (name : List ℕ) (host : Host P) → Grows A asks Calm [] host (hear A gifts (Opening name) host)
  all_begun gifts name host =
      let mid = ready A gifts host in
      let opened = hears_news A gifts (Opening name) mid in
      grows_then A asks Calm [] [] host mid (driven A opened) (readies_plain A asks Calm gifts host).grows (grows_then A asks Calm [] [] mid opened (driven A opened) (begun gifts name mid) (drives_plain A asks Calm most_steps opened).grows)

  begun_so : (gifts : List Circumstance) (name : List ℕ) (host : Host P) → G (Gifts gifts) → G (Learns gifts (Opening name)) → AllByRecursion G (all_begun gifts name host).feeds
  unfolding grows_then
  begun_so gifts name host given learnt =
      let mid = ready A gifts host in
      let opened = hears_news A gifts (Opening name) mid in
      let one = readies_plain A asks Calm gifts host in
      let two = drives_plain A asks Calm most_steps opened in
      all_both G one.grows.feeds (Learns gifts (Opening name) ∷ two.grows.feeds) (gives_only [] (gifts ∷ []) host mid one.grows one.begins one.gifts_are (given, tt))
      (learnt, gives_only [] [] opened (driven A opened) two.grows two.begins two.gifts_are tt)

  begun_names : (gifts : List Circumstance) (name : List ℕ) (host : Host P) → names_told (all_begun gifts name host).feeds ≡ name ∷ []
  unfolding grows_then
  begun_names gifts name host =
      let mid = ready A gifts host in
      let opened = hears_news A gifts (Opening name) mid in
      let one = readies_plain A asks Calm gifts host in
      let two = drives_plain A asks Calm most_steps opened in
      flat_map-append name_told one.grows.feeds (Learns gifts (Opening name) ∷ two.grows.feeds)
      ∙ ap₂ (λ (a b : List (List ℕ)). a ++ name ∷ b) (grown_names A asks [] host mid one.grows one.begins) (grown_names A asks [] opened (driven A opened) two.grows two.begins)

  -- what happened where something comes in is what was asked
  grows_still : (now acted : List Occurrence) (old new : Host P) (grows : Grows A asks Calm acted old new) → AllByRecursion HearsNot acted → EachAfter (IsHeardSo H) now grows.list
  grows_still now acted old new grows not = still_heard H now grows.list (subst (AllByRecursion HearsNot) (sym grows.acted_is) not)

  -- what it comes to by more that happens on its link
  pub record Grown (e e' : carriages.End (Host P)) (host : HostAt A asks W G H e) (list : List Occurrence) : Type 0 where
    pub after : HostAt A asks W G H e'
    pub spans_is : after.so.lives.spans ≡ host.so.lives.spans
    pub now_is : after.so.lives.now ≡ host.so.lives.now ++ list

  host_grows : (e e' : carriages.End (Host P)) (acted : List Occurrence) (host : HostAt A asks W G H e) (grows : Grows A asks Calm acted e.upper e'.upper) → e'.upper.channels.events ≡ [] → (e.linked ≡ true → AllByRecursion BeginsNone grows.weave) → AllByRecursion G grows.feeds → e'.linked ≡ e.linked
      → host.marks ++ map Occurred acted ≡ marks_of (talk_of e') → names_talked e.talk ++ names_told grows.feeds ≡ names_talked e'.talk → EachAfter (IsHeardSo H) host.so.lives.now grows.list → e'.coming ≡ [] → Grown e e' host grows.list
  unfolding goes_calmly goes-on
  host_grows e e' acted host grows told begins gives linked marks names hears none =
      let so = host.so in
      record {
        after = record {
          marks = host.marks ++ map Occurred acted;
          so = goes_calmly A asks host.marks acted e.upper e'.upper so grows told;
          marks_are = marks;
          asked = goes-asked A asks W host.marks acted e.upper e'.upper so grows told (λ up. begins (sym host.up_is ∙ up)) host.asked;
          given = goes-served A asks G host.marks acted e.upper e'.upper so grows told gives host.given;
          up_is = host.up_is ∙ sym linked;
          heard = (host.heard.0, each_after-both (IsHeardSo H) [] so.lives.now grows.list host.heard.1 hears);
          comes = inl none;
          named = goes-names A asks host.marks acted e.upper e'.upper so grows told ∙ (ap (λ (ns : List (List ℕ)). ns ++ names_told grows.feeds) host.named ∙ names);
        };
        spans_is = refl;
        now_is = refl;
      }

  pub grown-links : {T : Type 0} (side : View) (theirs : Policy) (e e' : carriages.End (Host P)) (host : HostAt A asks W G H e) (list : List Occurrence) (g : Grown e e' host list) (other : ℕ → List Occurrence) (j : ℕ) (f : carriages.End T) → Links side A.policy theirs host.so.lives.spans (host.so.lives.now ++ list) e' other j f
      → Links side A.policy theirs g.after.so.lives.spans g.after.so.lives.now e' other j f
  grown-links side theirs e e' host list g other j f links =
      subst (λ (spans : List Span). Links side A.policy theirs spans g.after.so.lives.now e' other j f) (sym g.spans_is) (subst (λ (l : List Occurrence). Links side A.policy theirs host.so.lives.spans l e' other j f) (sym g.now_is) links)

  held_grown : {T : Type 0} (side after : View) (theirs : Policy) (number : ℕ) (e e' : carriages.End (Host P)) (other : ℕ → List Occurrence) (j : ℕ) (f : carriages.End T) (list : List Occurrence) (held : Held side A asks W G H theirs number e other j f) → Grown e e' held.host list → e'.owed ≡ e.owed
      → Links after A.policy theirs held.host.so.lives.spans (held.host.so.lives.now ++ list) e' other j f → Held after A asks W G H theirs number e' other j f
  held_grown side after theirs number e e' other j f list held g owed links = record {
    host = g.after;
    level = ap (λ (spans : List Span). length spans + length e'.owed) g.spans_is ∙ (ap (λ (l : List LinkEvent). length held.host.so.lives.spans + length l) owed ∙ held.level);
    links = grown-links after theirs e e' held.host list g other j f links;
  }

  -- something happens on its link
  grows_held : {T : Type 0} (side : View) (theirs : Policy) (number : ℕ) (e e' : carriages.End (Host P)) (other : ℕ → List Occurrence) (j : ℕ) (f : carriages.End T) (acted : List Occurrence) (held : Held side A asks W G H theirs number e other j f) (grows : Grows A asks Calm acted e.upper e'.upper)
      → e'.upper.channels.events ≡ [] → (e.linked ≡ true → AllByRecursion BeginsNone grows.weave) → AllByRecursion G grows.feeds → e'.linked ≡ e.linked → e'.owed ≡ e.owed → held.host.marks ++ map Occurred acted ≡ marks_of (talk_of e')
      → names_talked e.talk ++ names_told grows.feeds ≡ names_talked e'.talk → EachAfter (IsHeardSo H) held.host.so.lives.now grows.list → e'.coming ≡ [] → DoesMore side A.policy theirs (other (length held.host.so.lives.spans)) held.host.so.lives.now (held.host.so.lives.now ++ grows.list) e e' → Held side A asks W G H theirs number e' other j f
  grows_held side theirs number e e' other j f acted held grows told begins gives linked owed marks names hears none does =
      let so = held.host.so in
      held_grown side side theirs number e e' other j f grows.list held (host_grows e e' acted held.host grows told begins gives linked marks names hears none) owed (does-more side A.policy theirs so.lives.spans so.lives.now other j f (so.lives.now ++ grows.list) e e' does held.links)

  -- ---- it says a PDU, which waits; the first that waits moves

  said_marks : (talk : List Talk) (waiting : List (List ℕ)) (pdu : List ℕ) → marks_of (talk ++ map Unsent waiting) ++ Occurred (Gives pdu) ∷ [] ≡ marks_of (talk ++ map Unsent (waiting ++ pdu ∷ []))
  said_marks talk waiting pdu =
      sym (marks_more (talk ++ map Unsent waiting) (Unsent pdu ∷ []))
      ∙ (ap marks_of (append_assoc talk (map Unsent waiting) (Unsent pdu ∷ [])) ∙ ap (λ (l : List Talk). marks_of (talk ++ l)) (sym (map-append Unsent waiting (pdu ∷ []))))

  pub says-held : {T : Type 0} (side : View) (theirs : Policy) (number : ℕ) (e : carriages.End (Host P)) (other : ℕ → List Occurrence) (j : ℕ) (f : carriages.End T) (pdu : List ℕ) (after : Host P) → (upper A).next e.upper ≡ Some (pdu, after) → IsReadFrom pdu e.upper → e.coming ≡ []
      → Held side A asks W G H theirs number e other j f → Held side A asks W G H theirs number (record e { upper = after; waiting = e.waiting ++ pdu ∷ [] }) other j f
  says-held side theirs number e other j f pdu after next calm none held =
      let e' : carriages.End (Host P) = record e { upper = after; waiting = e.waiting ++ pdu ∷ [] } in
      let act : Act Circumstance = Says pdu in
      let so = held.host.so in
      let plain = act_plain A asks Calm act e.upper after tt (λ c. calm) next in
      let grows = plain.grows in
      grows_held side theirs number e e' other j f (Gives pdu ∷ []) held grows (act_told A act e.upper after next so.lives.all_told) (λ on. plain.begins) (gives_only (Gives pdu ∷ []) [] e.upper after grows plain.begins plain.gifts_are tt) refl refl
      (ap (λ (m : List Mark). m ++ Occurred (Gives pdu) ∷ []) held.host.marks_are ∙ said_marks e.talk e.waiting pdu)
      (no_names e.talk (names_told grows.feeds) (grown_names A asks (Gives pdu ∷ []) e.upper after grows plain.begins))
      (grows_still so.lives.now (Gives pdu ∷ []) e.upper after grows (tt, tt)) none
      (walks side theirs (other (length so.lives.spans)) held.host.marks (Gives pdu ∷ []) e e' so grows (tt, tt) none none
      (λ far_rest was owed. ap (λ (l : List (List ℕ)). l ++ pdu ∷ []) (was owed) ∙ append_assoc e.queue e.waiting (pdu ∷ [])))

  moved_marks : (talk : List Talk) (pdu : List ℕ) (left : List (List ℕ)) → marks_of (talk ++ map Unsent (pdu ∷ left)) ≡ marks_of ((talk ++ Said pdu ∷ []) ++ map Unsent left)
  moved_marks talk pdu left = marks_more talk (Unsent pdu ∷ map Unsent left) ∙ (sym (marks_more talk (Said pdu ∷ map Unsent left)) ∙ ap marks_of (sym (append_assoc talk (Said pdu ∷ []) (map Unsent left))))

  pub moves-held : {T : Type 0} (side : View) (theirs : Policy) (number : ℕ) (e : carriages.End (Host P)) (other : ℕ → List Occurrence) (j : ℕ) (f : carriages.End T) (pdu : List ℕ) (left : List (List ℕ)) → e.waiting ≡ pdu ∷ left
      → Held side A asks W G H theirs number e other j f → Held side A asks W G H theirs number (record e { waiting = left; queue = landed e.owed e.queue pdu; talk = e.talk ++ Said pdu ∷ [] }) other j f
  moves-held side theirs number e other j f pdu left first held =
      let e' : carriages.End (Host P) = record e { waiting = left; queue = landed e.owed e.queue pdu; talk = e.talk ++ Said pdu ∷ [] } in
      let so = held.host.so in
      record {
        host = record { marks = held.host.marks; so = so; marks_are = held.host.marks_are ∙ (ap (λ (w : List (List ℕ)). marks_of (e.talk ++ map Unsent w)) first ∙ moved_marks e.talk pdu left); asked = held.host.asked; given = held.host.given; up_is = held.host.up_is; heard = held.host.heard; comes = held.host.comes; named = held.host.named ∙ same_names e.talk (Said pdu) refl };
        level = held.level;
        links = does-more side A.policy theirs so.lives.spans so.lives.now other j f so.lives.now e e' (λ rest far_coming far_rest p. record {
          after = far_rest;
          pair = p;
          put = λ was owed. was owed ∙ (ap (λ (l : List (List ℕ)). e.queue ++ l) first ∙ (sym (append_assoc e.queue (pdu ∷ []) left) ∙ ap (λ (o : List LinkEvent). landed o e.queue pdu ++ left) (sym owed)));
        }) held.links;
      }

  -- ---- it is told something that is no PDU

  still_marks : (marks : List Mark) (talk : List Talk) (waiting : List (List ℕ)) (one : Talk) (more : List Mark) → waiting ≡ [] → talk_marks one ≡ more → marks ≡ marks_of (talk ++ map Unsent waiting) → marks ++ more ≡ marks_of ((talk ++ one ∷ []) ++ map Unsent waiting)
  still_marks marks talk waiting one more none is same =
      let here : marks ≡ marks_of talk = same ∙ (ap (λ (w : List (List ℕ)). marks_of (talk ++ map Unsent w)) none ∙ ap marks_of (append-nil talk)) in
      ap (λ (m : List Mark). m ++ more) here
      ∙ (ap (λ (m : List Mark). marks_of talk ++ m) (sym is ∙ sym (append-nil (talk_marks one)))
      ∙ (sym (marks_more talk (one ∷ [])) ∙ (ap marks_of (sym (append-nil (talk ++ one ∷ []))) ∙ ap (λ (w : List (List ℕ)). marks_of ((talk ++ one ∷ []) ++ map Unsent w)) (sym none))))

  news_held : {T : Type 0} (side : View) (theirs : Policy) (number : ℕ) (e : carriages.End (Host P)) (other : ℕ → List Occurrence) (j : ℕ) (f : carriages.End T) (gifts : List Circumstance) (news : News) (acted : List Occurrence) (grows : Grows A asks Calm acted e.upper (hear A gifts news e.upper)) → (e.linked ≡ true → AllByRecursion BeginsNone grows.weave) → AllByRecursion G grows.feeds
      → AllByRecursion ComesNot acted → AllByRecursion HearsNot acted → gives_in acted ≡ [] → talk_marks (Told news) ≡ map Occurred acted → names_told grows.feeds ≡ name_in news → e.waiting ≡ [] → e.coming ≡ [] → Held side A asks W G H theirs number e other j f → Held side A asks W G H theirs number (told (upper A) gifts news e) other j f
  news_held side theirs number e other j f gifts news acted grows begins gives not deaf none is names waits coming held =
      let e' = told (upper A) gifts news e in
      let so = held.host.so in
      let act : Act Circumstance = Hears gifts news in
      grows_held side theirs number e e' other j f acted held grows (act_told A act e.upper e'.upper refl so.lives.all_told) begins gives refl refl
      (still_marks held.host.marks e.talk e.waiting (Told news) (map Occurred acted) waits is held.host.marks_are) (news_names e.talk news (names_told grows.feeds) names)
      (grows_still so.lives.now acted e.upper e'.upper grows deaf) coming
      (walks side theirs (other (length so.lives.spans)) held.host.marks acted e e' so grows not coming coming
      (λ far_rest was owed. ap (λ (l : List (List ℕ)). far_rest ++ l) none ∙ (append-nil far_rest ∙ was owed)))

  -- a word that fires no timer, or that a push begins
  abbrev pub IsWord : News → Type 0
  IsWord Cancelled = Unit {0}
  IsWord (Opening name) = Unit {0}
  IsWord news = ⊥

  pub told-held : {T : Type 0} (side : View) (theirs : Policy) (number : ℕ) (e : carriages.End (Host P)) (other : ℕ → List Occurrence) (j : ℕ) (f : carriages.End T) (gifts : List Circumstance) (news : News) → IsWord news → (e.linked ≡ true → IsOfLink news) → IsCalmNews A.policy news e.upper.channels → G (Gifts gifts) → G (Learns gifts news) → e.waiting ≡ [] → e.coming ≡ []
      → Held side A asks W G H theirs number e other j f → Held side A asks W G H theirs number (told (upper A) gifts news e) other j f
  told-held side theirs number e other j f gifts Cancelled word of calm given learnt waits coming held =
      let plain = act_plain A asks Calm (Hears gifts Cancelled) e.upper (hear A gifts Cancelled e.upper) tt (λ c. calm) refl in
      news_held side theirs number e other j f gifts Cancelled [] plain.grows (λ on. plain.begins) (gives_only [] (gifts ∷ []) e.upper (hear A gifts Cancelled e.upper) plain.grows plain.begins plain.gifts_are (given, tt)) tt tt refl refl (grown_names A asks [] e.upper (hear A gifts Cancelled e.upper) plain.grows plain.begins) waits coming held
  told-held side theirs number e other j f gifts (Opening name) word of calm given learnt waits coming held =
      news_held side theirs number e other j f gifts (Opening name) [] (all_begun gifts name e.upper) (λ on. absurd (of on)) (begun_so gifts name e.upper given learnt) tt tt refl refl (begun_names gifts name e.upper) waits coming held
  told-held side theirs number e other j f gifts (Linked event) word of calm given learnt waits coming held = absurd word
  told-held side theirs number e other j f gifts (Failed status) word of calm given learnt waits coming held = absurd word
  told-held side theirs number e other j f gifts (Heard pdu) word of calm given learnt waits coming held = absurd word
  told-held side theirs number e other j f gifts TimerFired word of calm given learnt waits coming held = absurd word

  -- ---- its timer fires

  -- no answer waits, where it has nothing to give
  pub held-silent : (e : carriages.End (Host P)) → HostAt A asks W G H e → IsQuiet e.upper.channels → answers_of e.upper.channels.queue ≡ []
  held-silent e host quiet =
      let lives = host.so.lives in
      ap (λ (v : Channels). answers_of v.queue) lives.channels_run
      ∙ calm-silent A.policy lives.now host.so.now_calm (subst (λ (v : Channels). IsQuiet v) lives.channels_run quiet)

  -- nor has any channel of it anything to give, and it owes nothing
  pub held-quiet : (e : carriages.End (Host P)) (host : HostAt A asks W G H e) → IsQuiet e.upper.channels → SaysNone A.policy host.so.lives.now
  held-quiet e host quiet =
      let lives = host.so.lives in
      let here : IsQuiet (run_of A.policy lives.now).value = subst (λ (v : Channels). IsQuiet v) lives.channels_run quiet in
      record {
        silent = no-answer (run_of A.policy lives.now).value.queue (calm-silent A.policy lives.now host.so.now_calm here);
        gives_none = calm-gives_none A.policy lives.now host.so.now_calm here;
        clear = calm-owes_none A.policy lives.now host.so.now_calm here;
      }

  -- what else happens then moves nothing
  pub walks-still : (side : View) (theirs : Policy) (there now more : List Occurrence) (rest put : List (List ℕ)) → filter_map outer more ≡ [] → AreMeant A.policy now more → PairFrom side A.policy theirs now there [] rest [] put → PairFrom side A.policy theirs (now ++ more) there [] rest [] put
  walks-still side theirs there now more rest put none meant p =
      let given : gives_in more ≡ [] = sym (outer-gives more) ∙ ap gives_in none in
      subst (λ (l : List (List ℕ)). PairFrom side A.policy theirs (now ++ more) there [] rest [] l) (ap (λ (l : List (List ℕ)). put ++ l) given ∙ append-nil put)
      (all_on side A.policy theirs there rest [] now more put (outer-comes_not more (subst (AllByRecursion ComesNot) (sym none) tt)) meant p)

  -- What it comes to where its timer fires, with what else happens to its channels before that and behind it. When it fires the host has nothing to say, and owes nothing
  -- behind that either.
  pub record Firing (gifts : List Circumstance) (e : carriages.End (Host P)) (host : HostAt A asks W G H e) : Type 0 where
    pub front : List Occurrence
    pub behind : List Occurrence
    pub grown : Grown e (told (upper A) gifts TimerFired e) host (front ++ Fires ∷ behind)
    pub none_front : filter_map outer front ≡ []
    pub none_behind : filter_map outer behind ≡ []
    pub meant_front : AreMeant A.policy host.so.lives.now front
    pub meant_behind : AreMeant A.policy ((host.so.lives.now ++ front) ++ Fires ∷ []) behind
    pub may : MayFire A.policy (host.so.lives.now ++ front)
    pub no_answer : list_any is_answer (run_of A.policy (host.so.lives.now ++ front)).value.queue ≡ false
    pub clear : owes (run_of A.policy (host.so.lives.now ++ front)).value ≡ false
    pub still_no_answer : list_any is_answer (run_of A.policy ((host.so.lives.now ++ front) ++ Fires ∷ [])).value.queue ≡ false
    pub still_clear : owes (run_of A.policy ((host.so.lives.now ++ front) ++ Fires ∷ [])).value ≡ false

  pub fires-host : (gifts : List Circumstance) (e : carriages.End (Host P)) (host : HostAt A asks W G H e) → IsCalmNews A.policy TimerFired e.upper.channels → G (Gifts gifts) → e.waiting ≡ [] → e.coming ≡ [] → Firing gifts e host
  fires-host gifts e host calm allowed waits coming =
      let e' = told (upper A) gifts TimerFired e in
      let so = host.so in
      let now = so.lives.now in
      let act : Act Circumstance = Hears gifts TimerFired in
      let plain = act_plain A asks Calm act e.upper (hear A gifts TimerFired e.upper) tt (λ c. calm) refl in
      let grows = plain.grows in
      let once = fires-once grows.list grows.acted_is in
      let meant : AreMeant A.policy now (once.front ++ Fires ∷ once.behind) = subst (λ (l : List Occurrence). AreMeant A.policy now l) once.is (grown_meant host.marks (Fires ∷ []) e.upper e'.upper so grows) in
      let parts = each_split _ now once.front (Fires ∷ once.behind) meant in
      let front = now ++ once.front in
      let silent : answers_of (run_of A.policy front).value.queue ≡ [] = run-silent A.policy now once.front (outer-passes_none once.front (subst (AllByRecursion PassesNone) (sym once.none_front) tt))
      (ap (λ (v : Channels). answers_of v.queue) (sym so.lives.channels_run) ∙ held-silent e host calm.0) in
      let calm_all : IsCalm A.policy no_channels (front ++ Fires ∷ once.behind) =
      subst (λ (l : List Occurrence). IsCalm A.policy no_channels l) (ap (λ (l : List Occurrence). now ++ l) once.is ∙ sym (append_assoc now once.front (Fires ∷ once.behind))) (grown_calm host.marks (Fires ∷ []) e.upper e'.upper so grows) in
      let calm_here = calm-parts A.policy no_channels front Fires once.behind calm_all in
      let quiet_here : IsQuiet (run_of A.policy front).value = subst (λ (v : Channels). IsQuiet v) (sym (value_run A.policy front new_link)) calm_here.1.0 in
      let clear : owes (run_of A.policy front).value ≡ false = calm-owes_none A.policy front calm_here.0 quiet_here in
      record {
        front = once.front;
        behind = once.behind;
        grown = subst (Grown e e' host) once.is
            (host_grows e e' (Fires ∷ []) host grows (act_told A act e.upper e'.upper refl so.lives.all_told) (λ on. plain.begins) (gives_only (Fires ∷ []) (gifts ∷ []) e.upper e'.upper grows plain.begins plain.gifts_are (allowed, tt)) refl
            (still_marks host.marks e.talk e.waiting (Told TimerFired) (Occurred Fires ∷ []) waits refl host.marks_are) (news_names e.talk TimerFired (names_told grows.feeds) (grown_names A asks (Fires ∷ []) e.upper e'.upper grows plain.begins))
            (grows_still now (Fires ∷ []) e.upper e'.upper grows (tt, tt)) coming);
        none_front = once.none_front;
        none_behind = once.none_behind;
        meant_front = parts.0;
        meant_behind = parts.1.1;
        may = record { gives_none = calm-gives_none A.policy front calm_here.0 quiet_here; none_waits = calm-empty A.policy front calm_here.0 quiet_here };
        no_answer = no-answer (run_of A.policy front).value.queue silent;
        clear = clear;
        still_no_answer = no-answer (run_of A.policy (front ++ Fires ∷ [])).value.queue (run-silent A.policy front (Fires ∷ []) (tt, tt) silent);
        still_clear = run-owes_none A.policy front (Fires ∷ []) (tt, tt) clear;
      }

  pub fires-held : {T : Type 0} (side : View) (m : ℕ) (theirs : Policy) (number : ℕ) (e : carriages.End (Host P)) (other : ℕ → List Occurrence) (j : ℕ) (f : carriages.End T) (gifts : List Circumstance) (free : Bool) → IsCalmNews A.policy TimerFired e.upper.channels → G (Gifts gifts) → e.waiting ≡ [] → e.coming ≡ [] → e.owed ≡ [] → f.owed ≡ [] → f.coming ≡ []
      → one_if (not free) + most_of side ≤ m → (held : Held side A asks W G H theirs number e other j f) → length held.host.so.lives.spans ≡ j
      → (free ≡ true → (e.queue ≡ []) × (f.queue ++ f.waiting ≡ [])) → SaysNone theirs (other (length held.host.so.lives.spans)) → Held (with_most m side) A asks W G H theirs number (told (upper A) gifts TimerFired e) other j f
  fires-held side m theirs number e other j f gifts free calm allowed waits coming owed far_owed far_coming more held level still quiet =
      let e' = told (upper A) gifts TimerFired e in
      let spans = held.host.so.lives.spans in
      let now = held.host.so.lives.now in
      let there = other (length spans) in
      let rest = f.queue ++ f.waiting in
      let put = e.queue ++ e.waiting in
      let fire = fires-host gifts e held.host calm allowed waits coming in
      let list = fire.front ++ Fires ∷ fire.behind in
      let all_fires : PairFrom side A.policy theirs now there [] rest [] put → PairFrom (with_most m side) A.policy theirs (now ++ list) there [] rest [] put
      = λ p. subst (λ (l : List Occurrence). PairFrom (with_most m side) A.policy theirs l there [] rest [] put) (fired-list now fire.front fire.behind)
      (walks-still (with_most m side) theirs there ((now ++ fire.front) ++ Fires ∷ []) fire.behind rest put fire.none_behind fire.meant_behind
      (fires-it side A.policy theirs (now ++ fire.front) there [] put free m rest more
      (λ on. let so_still = still on in (so_still.1, refl, ap (λ (l : List (List ℕ)). l ++ e.waiting) so_still.0 ∙ waits, fire.no_answer, quiet.silent)) fire.may quiet.clear quiet.gives_none
      (walks-still side theirs there now fire.front rest put fire.none_front fire.meant_front p))) in
      let enough : most_of side ≤ m = omega (arith, more) in
      held_grown side (with_most m side) theirs number e e' other j f list held fire.grown refl
      (fires-over side m A.policy theirs spans now (now ++ list) other other j e e' f f level owed far_owed coming coming far_coming far_coming enough refl refl (λ k apart. refl) all_fires held.links)

  -- ---- a PDU comes in

  pub hears-held : {T : Type 0} (side : View) (theirs : Policy) (number : ℕ) (e : carriages.End (Host P)) (other : ℕ → List Occurrence) (j : ℕ) (f : carriages.End T) (gifts : List Circumstance) (pdu : List ℕ) → IsCalmNews A.policy (Heard pdu) e.upper.channels → G (Gifts gifts) → e.linked ≡ true → e.waiting ≡ [] → e.coming ≡ pdu ∷ []
      → (held : Held side A asks W G H theirs number e other j f) → GivesNone theirs (other (length held.host.so.lives.spans)) → Held side A asks W G H theirs number (record e { upper = (upper A).hear gifts (Heard pdu) e.upper; coming = []; talk = e.talk ++ Told (Heard pdu) ∷ [] }) other j f
  hears-held side theirs number e other j f gifts pdu calm allowed linked waits coming held far_none =
      let e' : carriages.End (Host P) = record e { upper = (upper A).hear gifts (Heard pdu) e.upper; coming = []; talk = e.talk ++ Told (Heard pdu) ∷ [] } in
      let so = held.host.so in
      let now = so.lives.now in
      let there = other (length so.lives.spans) in
      let act : Act Circumstance = Hears gifts (Heard pdu) in
      let grows = all_heard gifts pdu e.upper calm in
      let then' = then_heard gifts pdu e.upper in
      let list_is : grows.list ≡ Comes pdu ∷ then'.list = heard_list gifts pdu e.upper calm in
      let meant : AreMeant A.policy now (Comes pdu ∷ then'.list) = subst (λ (l : List Occurrence). AreMeant A.policy now l) list_is (grown_meant held.host.marks (Comes pdu ∷ []) e.upper e'.upper so grows) in
      let none : gives_in then'.list ≡ [] = sym (outer-gives then'.list) ∙ ap gives_in then'.acted_is in
      grows_held side theirs number e e' other j f (Comes pdu ∷ []) held grows (act_told A act e.upper e'.upper refl so.lives.all_told) (λ on. heard_begins gifts pdu e.upper calm) (gives_only (Comes pdu ∷ []) (gifts ∷ []) e.upper e'.upper grows (heard_begins gifts pdu e.upper calm) (heard_gifts gifts pdu e.upper calm) (allowed, tt)) refl refl
      (still_marks held.host.marks e.talk e.waiting (Told (Heard pdu)) (Occurred (Comes pdu) ∷ []) waits refl held.host.marks_are)
      (news_names e.talk (Heard pdu) (names_told grows.feeds) (grown_names A asks (Comes pdu ∷ []) e.upper e'.upper grows (heard_begins gifts pdu e.upper calm)))
      (subst (EachAfter (IsHeardSo H) now) (sym list_is) (so_far held.host.comes, still_heard H (now ++ Comes pdu ∷ []) then'.list (subst (AllByRecursion HearsNot) (sym then'.acted_is) tt))) refl
      (λ rest far_coming far_rest p.
      let room : has_room (run_of A.policy now).value ≡ true = silent-room (run_of A.policy now).value (ap (λ (v : Channels). answers_of v.queue) (sym so.lives.channels_run) ∙ held-silent e held.host calm.0) in
      let heard = comes-in side A.policy theirs now there far_coming far_rest pdu rest room (held-quiet e held.host calm.0).gives_none far_none (subst (λ (c : List (List ℕ)). PairFrom side A.policy theirs now there c rest far_coming far_rest) coming p) in
      let all = all_on side A.policy theirs there rest far_coming (now ++ Comes pdu ∷ []) then'.list far_rest (outer-comes_not then'.list (subst (AllByRecursion ComesNot) (sym then'.acted_is) tt)) meant.1 heard in
      record {
        after = far_rest ++ gives_in then'.list;
        pair = subst (λ (l : List Occurrence). PairFrom side A.policy theirs l there [] rest far_coming (far_rest ++ gives_in then'.list)) (append_assoc now (Comes pdu ∷ []) then'.list ∙ ap (λ (l : List Occurrence). now ++ l) (sym list_is)) all;
        put = λ was owed. ap (λ (l : List (List ℕ)). far_rest ++ l) none ∙ (append-nil far_rest ∙ was owed);
      })
    where
      so_far : (e.coming ≡ []) ⊎ (e.linked ≡ true → H held.host.so.lives.now) → H held.host.so.lives.now
      so_far (inl silent) = let never : pdu ∷ [] ≡ [] = sym coming ∙ silent in cc
      so_far (inr is) = is linked

  -- ---- it is told of its link

  turned_marks : (marks : List Mark) (talk : List Talk) (waiting : List (List ℕ)) (event : LinkEvent) → marks ≡ marks_of (talk ++ map Unsent waiting) → ((marks ++ []) ++ Turned event ∷ []) ++ [] ≡ marks_of ((talk ++ (map Unsent waiting ++ Told (Linked event) ∷ [])) ++ [])
  turned_marks marks talk waiting event same =
      append-nil ((marks ++ []) ++ Turned event ∷ [])
      ∙ (ap (λ (m : List Mark). m ++ Turned event ∷ []) (append-nil marks ∙ same)
      ∙ (sym (marks_more (talk ++ map Unsent waiting) (Told (Linked event) ∷ []))
      ∙ (ap marks_of (append_assoc talk (map Unsent waiting) (Told (Linked event) ∷ [])) ∙ ap marks_of (sym (append-nil (talk ++ (map Unsent waiting ++ Told (Linked event) ∷ [])))))))

  pub turns-held : {T : Type 0} (side : View) (theirs : Policy) (number : ℕ) (e : carriages.End (Host P)) (other : ℕ → List Occurrence) (j : ℕ) (f : carriages.End T) (gifts : List Circumstance) (event : LinkEvent) (more : List LinkEvent) → e.owed ≡ event ∷ more → IsWantedAt W event (A.given gifts e.upper.profile) → G (Gifts gifts) → e.coming ≡ [] → e.queue ≡ []
      → Held side A asks W G H theirs number e other j f → Held side A asks W G H theirs number (is_told (upper A) gifts event more e) other j f
  unfolding goes_calmly goes-on turns_calmly turns-on
  turns-held {T} side theirs number e other j f gifts event more owed wanted allowed coming queue held =
      let marks = held.host.marks in
      let so = held.host.so in
      let mid = ready A gifts e.upper in
      let after = hears_news A gifts (Linked event) mid in
      let one_plain = readies_plain A asks Calm gifts e.upper in
      let two_plain = drives_plain A asks Calm most_steps after in
      let one = one_plain.grows in
      let two = two_plain.grows in
      let readied = goes_calmly A asks marks [] e.upper mid so one so.lives.all_told in
      let turned = turns_calmly A asks (marks ++ []) event gifts mid readied in
      let last = goes_calmly A asks ((marks ++ []) ++ Turned event ∷ []) [] after (driven A after) turned two (drives_told A most_steps after turned.lives.all_told) in
      let e1 : carriages.End (Host P) = record e { upper = mid } in
      let e3 = is_told (upper A) gifts event more e in
      let e2 : carriages.End (Host P) = record e3 { upper = after } in
      let spans = so.lives.spans in
      let now = so.lives.now ++ one.list in
      let spans' = spans ++ ended now event ∷ [] in
      let ready_links : Links side A.policy theirs spans now e1 other j f =
      does-more side A.policy theirs spans so.lives.now other j f now e e1
      (walks side theirs (other (length spans)) marks [] e e1 so one tt coming coming (λ far_rest was owed. append-nil far_rest ∙ was owed)) held.links in
      let turned_links : Links side A.policy theirs spans' [] e2 other j f = turns-to side A.policy theirs spans now other j f event e1 e2 coming coming (ap (λ (l : List (List ℕ)). l ++ []) queue) ready_links in
      let last_links : Links side A.policy theirs spans' two.list e3 other j f =
      does-more side A.policy theirs spans' [] other j f two.list e2 e3
      (walks side theirs (other (length spans')) ((marks ++ []) ++ Turned event ∷ []) [] e2 e3 turned two tt coming coming (λ far_rest was owed. append-nil far_rest ∙ was owed)) turned_links in
      let longer : length spans' ≡ length spans + 1 = length-append spans (ended now event ∷ []) in
      let before : length spans + length e.owed ≡ number = held.level in
      let owes : length e.owed ≡ suc (length more) = ap length owed in
      record {
        host = record {
          marks = ((marks ++ []) ++ Turned event ∷ []) ++ [];
          so = last;
          marks_are = turned_marks marks e.talk e.waiting event held.host.marks_are;
          asked = goes-asked A asks W ((marks ++ []) ++ Turned event ∷ []) [] after (driven A after) turned two (drives_told A most_steps after turned.lives.all_told) (λ up. two_plain.begins)
              (turns-asked A asks W (marks ++ []) event gifts mid readied wanted (goes-asked A asks W marks [] e.upper mid so one so.lives.all_told (λ up. one_plain.begins) held.host.asked));
          given = goes-served A asks G ((marks ++ []) ++ Turned event ∷ []) [] after (driven A after) turned two (drives_told A most_steps after turned.lives.all_told) (gives_only [] [] after (driven A after) two two_plain.begins two_plain.gifts_are tt)
              (turns-served A asks G silent (marks ++ []) event gifts mid readied (goes-served A asks G marks [] e.upper mid so one so.lives.all_told (gives_only [] (gifts ∷ []) e.upper mid one one_plain.begins one_plain.gifts_are (allowed, tt)) held.host.given));
          up_is = up_turned false spans (ended now event);
          heard =
              let ahead : AllHearSo H spans now = (held.host.heard.0, each_after-both (IsHeardSo H) [] so.lives.now one.list held.host.heard.1 (grows_still so.lives.now [] e.upper mid one tt)) in
              heard_turned H spans now two.list event ahead (grows_still [] [] after (driven A after) two tt);
          comes = inl coming;
          named =
              still-names A asks ((marks ++ []) ++ Turned event ∷ []) [] after (driven A after) turned two (drives_told A most_steps after turned.lives.all_told) two_plain.begins
              ∙ (turns-names A asks (marks ++ []) event gifts mid readied ∙ (still-names A asks marks [] e.upper mid so one so.lives.all_told one_plain.begins ∙ (held.host.named ∙ turned_names e.talk e.waiting event)));
        };
        level = omega arith;
        links = last_links;
      }

  -- ---- nothing that it does

  abbrev pub besides : (e : carriages.End (Host P)) (talk : List Talk) (queue coming : List (List ℕ)) (owed : List LinkEvent) → marks_of (talk_of e) ≡ marks_of (talk ++ map Unsent e.waiting) → names_talked e.talk ≡ names_talked talk → (host : HostAt A asks W G H e) → (coming ≡ []) ⊎ (e.linked ≡ true → H host.so.lives.now) → HostAt A asks W G H (record e { talk = talk; queue = queue; coming = coming; owed = owed })
  besides e talk queue coming owed same names host comes = record { marks = host.marks; so = host.so; marks_are = host.marks_are ∙ same; asked = host.asked; given = host.given; up_is = host.up_is; heard = host.heard; comes = comes; named = host.named ∙ names }
