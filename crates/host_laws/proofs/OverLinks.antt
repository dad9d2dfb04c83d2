-- Over all links of a run of turns the own talk of a host falls to what was told and said on each.
use Rattle.std.proofs.Common.{◌≡◌, List, [], ◌∷◌, ◌++◌, map, filter_map, Bool, true, false, Option, Some, None, option_to_list, find, refl, sym, ap, ap₂, subst, ◌∙◌, append_assoc, append-nil}
use Rattle.std.specs.List.{AllByRecursion, AllZip, flat_map}
use Rattle.std.proofs.lemmas.List.Concat.{flat_map-append}
use Rattle.std.proofs.lemmas.List.Elements.{filter_map-append}
use Rattle.shelf_model.specs.capture.specs.Pdus.{Pdu}
use Rattle.shelf_model.specs.l2cap_signal.specs.Commands.{Command}
use Rattle.push_laws.specs.link_talk.specs.Sayings.{Saying, said_by}
use Rattle.channel_laws.specs.channel_model.specs.Value.{Queued, Answer, Ask, Channels, no_channels}
use Rattle.channel_laws.specs.channel_model.specs.Policies.{Policy}
use Rattle.channel_laws.specs.channel_model.specs.Giving.{Given, Signal, Whole, Framed, command_of, held_gives, gives}
use Rattle.channel_laws.specs.OwnTalk.{spoken}
use Rattle.channel_laws.specs.Runs.{Occurrence, Gives, new_link, run_of}
use Rattle.shelf_model.specs.world_model.specs.Machines.{LinkEvent, Up, Down, Linked, Failed, Heard, TimerFired, Cancelled, Opening, Upper}
use Rattle.shelf_model.specs.world_model.specs.Talks.{Talk, Told, Said, Unsent, Met, Done}
use Rattle.shelf_model.specs.world_model.specs.Carriages.{linked_by}
use Rattle.shelf_model.specs.host_model.specs.Circumstances.{Circumstance}
use Rattle.shelf_model.specs.host_model.specs.Profiles.{Profile}
use Rattle.shelf_model.specs.host_model.specs.Hosts.{Host, first_host, ready, driven, hears_news, most_steps}
use Rattle.shelf_model.specs.host_model.specs.Machines.{upper}
use Rattle.host_laws.specs.Acts.{Act, Hears, Says, Does, Acting, StaysOnLink, from_news, from_act}
use Rattle.host_laws.specs.Calls.{Asks, values_after, outer}
use Rattle.host_laws.specs.Lives.{Mark, Occurred, Turned, news_marks, act_marks, Span, marks_on, span_marks, all_marks, Lives}
use Rattle.host_laws.specs.Calm.{IsCalmAct, AreCalm, pdus_in}
use Rattle.host_laws.specs.OverLinks.{is_up_behind, IsTimely, AreInTurn, AreTimely, parts_from, parts, talk_marks, talk_outer, GoesOut, IsTalkOf, AreGentleUp, OverLinks, HostsTalkOverLinks}
use Rattle.host_laws.specs.Seen.{pdu_of, waiting_in, IsCalm}
use Rattle.host_laws.specs.Turning.{Deed, Learned, Spoke, deed_of, deeds_in}
use Rattle.host_laws.proofs.Steps.{Grows}
use Rattle.host_laws.proofs.Plain.{whole_said}
use Rattle.host_laws.specs.Woven.{woven_list, woven_profile, Woven, turned, AreWoven, HostsTalkWoven}
use Rattle.host_laws.specs.Feeds.{Feed}
use Rattle.host_laws.specs.Asked.{BeginsNone, BeginsNoneIf, IsWantedAt, up_behind, AreAsked}
use Rattle.host_laws.specs.Fed.{woven_feeds, WovenFed, turned_feeds, FedSpan, span_feeds, behind_span, AreFed, TalksFed, HostsTalkFed}
use Rattle.host_laws.proofs.Growing.{both-begin_none, calm-both, both-on_link, woven-both, woven-last, fed-both, drives_grow, readies, act_grows, without_calm}
use Rattle.host_laws.proofs.Links.{value_run, drives_told, act_told}
use Rattle.host_laws.proofs.Living.{first_lives, goes-on, turns-on}
use Rattle.host_laws.proofs.Moving.{pending, talk-waits}
use Rattle.host_laws.proofs.Calming.{outer-pdus}
use Rattle.host_laws.proofs.Talking.{act_calm}

-- ---- what waits goes out

both_out : (xs ys : List Saying) → AllByRecursion GoesOut xs → AllByRecursion GoesOut ys → AllByRecursion GoesOut (xs ++ ys)
both_out [] ys one two = two
both_out (x ∷ xs) ys one two = (one.0, both_out xs ys one.1 two)

waiting_out : (queue : List Queued) (v : Channels) → AllByRecursion GoesOut (waiting_in queue v)
waiting_out [] v = tt
waiting_out (Answer command ∷ queue) v = (tt, waiting_out queue v)
waiting_out (Ask errand ∷ queue) v = by (command_of errand v) (waiting_out queue v)
  where
    by : (command : Option Command) → AllByRecursion GoesOut (waiting_in queue v) → AllByRecursion GoesOut (map spoken (option_to_list command) ++ waiting_in queue v)
    by None rest = rest
    by (Some command) rest = (tt, rest)

whole_out : (given : Option Given) → AllByRecursion GoesOut (whole_said given)
whole_out None = tt
whole_out (Some (Signal command)) = tt
whole_out (Some (Whole peer sdu)) = (tt, tt)
whole_out (Some (Framed peer frame)) = tt

pending_out : (v : Channels) → AllByRecursion GoesOut (pending v)
pending_out v = both_out (waiting_in v.queue v) (whole_said (held_gives (find gives v.held))) (waiting_out v.queue v) (whole_out (held_gives (find gives v.held)))

-- ---- a host that is calm over all its links

pub all_with : {X : Type 0} (P : X → Type 0) (xs : List X) (x : X) → AllByRecursion P xs → P x → AllByRecursion P (xs ++ x ∷ [])
all_with P [] x all now = (now, tt)
all_with P (y ∷ xs) x all now = (all.0, all_with P xs x all.1 now)

module _ {P : Type 0} (A : Profile P) (asks : Asks A) where
  abbrev pub IsCalmSpan : Span → Type 0
  IsCalmSpan span = IsCalm A.policy no_channels span.list

  -- it lives, and was calm on each link
  pub record Calmly (marks : List Mark) (host : Host P) : Type 0 where
    pub lives : Lives A asks marks host
    pub now_calm : IsCalm A.policy no_channels lives.now
    pub spans_calm : AllByRecursion IsCalmSpan lives.spans
    pub fed : AreFed A asks lives.spans lives.now lives.feeds A.first host.profile

  pub woven_none : (p : P) → Woven A asks [] p p
  woven_none p = record { weave = []; list_is = refl; last_is = refl; on_link = tt }

  pub fed_none : (p : P) → WovenFed A asks [] [] p p
  unfolding woven_none
  fed_none p = record { woven = woven_none p; feeds_are = refl }

  -- something more happens on the link that there is
  pub fed_on : (spans : List Span) (now acted : List Occurrence) (feeds : List Feed) (old new : Host P) (first : P) → old.channels ≡ values_after A.policy no_channels now → (grows : Grows A asks (Unit {0}) acted old new) → AreFed A asks spans now feeds first old.profile
      → AreFed A asks spans (now ++ grows.list) (feeds ++ grows.feeds) first new.profile
  fed_on [] now acted feeds old new first value grows fed =
      let woven = fed.woven in
      let v_is : old.channels ≡ values_after A.policy no_channels (woven_list A asks woven.weave no_channels first) = value ∙ ap (values_after A.policy no_channels) woven.list_is in
      record {
        woven = record {
          weave = woven.weave ++ grows.weave;
          list_is = ap₂ (λ (a b : List Occurrence). a ++ b) woven.list_is (grows.woven_is ∙ ap₂ (λ (v : Channels) (p : P). woven_list A asks grows.weave v p) v_is woven.last_is) ∙ sym (woven-both A asks woven.weave grows.weave no_channels first);
          last_is = grows.last_is ∙ (ap₂ (λ (v : Channels) (p : P). woven_profile A asks grows.weave v p) v_is woven.last_is ∙ sym (woven-last A asks woven.weave grows.weave no_channels first));
          on_link = both-on_link woven.weave grows.weave woven.on_link grows.on_link;
        };
        feeds_are = ap₂ (λ (a b : List Feed). a ++ b) fed.feeds_are (grows.feeds_are ∙ ap₂ (λ (v : Channels) (p : P). woven_feeds A asks grows.weave v p) v_is woven.last_is) ∙ sym (fed-both A asks woven.weave grows.weave no_channels first);
      }
  fed_on (span ∷ spans) now acted feeds old new first value grows (here, later, is, rest) =
      let ahead = span_feeds A asks span first here in
      (here, later ++ grows.feeds, ap (λ (l : List Feed). l ++ grows.feeds) is ∙ append_assoc ahead later grows.feeds, fed_on spans now acted later old new (behind_span A asks span first here) value grows rest)

  -- the profile hears of its link
  hears_turned : (event : LinkEvent) (circumstances : List Circumstance) (host : Host P) → (hears_news A circumstances (Linked event) host).profile ≡ turned A circumstances event host.channels host.profile
  hears_turned Up circumstances host = refl
  hears_turned (Down reason) circumstances host = refl

  pub fed_turned : (spans : List Span) (now : List Occurrence) (feeds : List Feed) (event : LinkEvent) (circumstances : List Circumstance) (host : Host P) (first : P) → host.channels ≡ values_after A.policy no_channels now → AreFed A asks spans now feeds first host.profile
      → (let span : Span = record { list = now; event = event } in AreFed A asks (spans ++ span ∷ []) [] (feeds ++ turned_feeds circumstances event host.channels) first (hears_news A circumstances (Linked event) host).profile)
  fed_turned [] now feeds event circumstances host first value fed =
      let span : Span = record { list = now; event = event } in
      let after = turned A circumstances event (values_after A.policy no_channels now) host.profile in
      let here : FedSpan A asks span first = record { here = feeds; mid = host.profile; circumstances = circumstances; so = fed } in (
        here,
        [],
        ap (λ (v : Channels). feeds ++ turned_feeds circumstances event v) value ∙ sym (append-nil (span_feeds A asks span first here)),
        subst (λ (p : P). WovenFed A asks [] [] after p) (ap (λ (v : Channels). turned A circumstances event v host.profile) (sym value) ∙ sym (hears_turned event circumstances host)) (fed_none after),
      )
  fed_turned (span ∷ spans) now feeds event circumstances host first value (here, later, is, rest) =
      let ahead = span_feeds A asks span first here in
      let news = turned_feeds circumstances event host.channels in
      (here, later ++ news, ap (λ (l : List Feed). l ++ news) is ∙ append_assoc ahead later news, fed_turned spans now later event circumstances host (behind_span A asks span first here) value rest)

  unfoldable pub first_calmly : Calmly [] (first_host A)
  unfolding first_lives
  first_calmly = record { lives = first_lives A asks; now_calm = tt; spans_calm = tt; fed = fed_none A.first }

  unfoldable pub goes_calmly : (marks : List Mark) (acted : List Occurrence) (old new : Host P) → Calmly marks old → Grows A asks (Unit {0}) acted old new → new.channels.events ≡ [] → Calmly (marks ++ map Occurred acted) new
  unfolding goes-on
  goes_calmly marks acted old new so grows told =
      let value : old.channels ≡ values_after A.policy no_channels so.lives.now = so.lives.channels_run ∙ value_run A.policy so.lives.now new_link in
      record {
        lives = goes-on A asks marks acted old new so.lives (without_calm A asks acted old new grows) told;
        now_calm = calm-both A.policy no_channels so.lives.now grows.list so.now_calm (subst (λ (v : Channels). IsCalm A.policy v grows.list) value (grows.calm tt));
        spans_calm = so.spans_calm;
        fed = fed_on so.lives.spans so.lives.now acted so.lives.feeds old new A.first value grows so.fed;
      }

  still_calmly : (marks : List Mark) (old new : Host P) → Calmly marks old → Grows A asks (Unit {0}) [] old new → new.channels.events ≡ [] → Calmly marks new
  still_calmly marks old new so grows told = subst (λ (m : List Mark). Calmly m new) (append-nil marks) (goes_calmly marks [] old new so grows told)

  unfoldable pub turns_calmly : (marks : List Mark) (event : LinkEvent) (circumstances : List Circumstance) (host : Host P) → Calmly marks host → Calmly (marks ++ Turned event ∷ []) (hears_news A circumstances (Linked event) host)
  unfolding turns-on
  turns_calmly marks event circumstances host so =
      let span : Span = record { list = so.lives.now; event = event } in
      record { lives = turns-on A asks marks event circumstances host so.lives; now_calm = tt; spans_calm = all_with IsCalmSpan so.lives.spans span so.spans_calm so.now_calm; fed = fed_turned so.lives.spans so.lives.now so.lives.feeds event circumstances host A.first (so.lives.channels_run ∙ value_run A.policy so.lives.now new_link) so.fed }

  -- ---- one act

  on_link : (marks : List Mark) (act : Act Circumstance) (old new : Host P) → StaysOnLink act → Calmly marks old → IsCalmAct A act old → Does (upper A) act old new → Calmly (marks ++ map Occurred (from_act act)) new
  on_link marks act old new stays so calm does = goes_calmly marks (from_act act) old new so (act_grows A asks (Unit {0}) act old new stays (λ c. calm) does) (act_told A act old new does so.lives.all_told)

  act_calmly : (marks : List Mark) (act : Act Circumstance) (old new : Host P) → Calmly marks old → IsCalmAct A act old → Does (upper A) act old new → Calmly (marks ++ act_marks act) new
  act_calmly marks (Hears circumstances (Linked event)) old new so calm does =
      let mid = ready A circumstances old in
      let after = hears_news A circumstances (Linked event) mid in
      let readied = still_calmly marks old mid so (readies A asks (Unit {0}) circumstances old) so.lives.all_told in
      let turned = turns_calmly marks event circumstances mid readied in
      subst (λ (host : Host P). Calmly (marks ++ Turned event ∷ []) host) (sym does)
      (still_calmly (marks ++ Turned event ∷ []) after (driven A after) turned (drives_grow A asks (Unit {0}) most_steps after) (drives_told A most_steps after turned.lives.all_told))
  act_calmly marks (Hears circumstances (Failed status)) old new so calm does = on_link marks (Hears circumstances (Failed status)) old new tt so calm does
  act_calmly marks (Hears circumstances (Heard pdu)) old new so calm does = on_link marks (Hears circumstances (Heard pdu)) old new tt so calm does
  act_calmly marks (Hears circumstances TimerFired) old new so calm does = on_link marks (Hears circumstances TimerFired) old new tt so calm does
  act_calmly marks (Hears circumstances Cancelled) old new so calm does = on_link marks (Hears circumstances Cancelled) old new tt so calm does
  act_calmly marks (Hears circumstances (Opening name)) old new so calm does = on_link marks (Hears circumstances (Opening name)) old new tt so calm does
  act_calmly marks (Says pdu) old new so calm does = on_link marks (Says pdu) old new tt so calm does

  all_calmly : (marks : List Mark) (acts : List (Act Circumstance)) (old new : Host P) → Calmly marks old → AreCalm A acts old → Acting (upper A) acts old new → Calmly (marks ++ flat_map act_marks acts) new
  all_calmly marks [] old new so calm same = subst (λ (host : Host P). Calmly (marks ++ []) host) (sym same) (subst (λ (m : List Mark). Calmly m old) (sym (append-nil marks)) so)
  all_calmly marks (act ∷ acts) old new so calm (mid, does, rest) =
      subst (λ (m : List Mark). Calmly m new) (append_assoc marks (act_marks act) (flat_map act_marks acts))
      (all_calmly (marks ++ act_marks act) acts mid new (act_calmly marks act old mid so calm.0 does) (calm.1 mid does) rest)

  -- ---- gently, and so calmly

  calm_up : (up : Bool) (acts : List (Act Circumstance)) (host : Host P) → AreInTurn (upper A) up acts host → AreGentleUp A up acts host → AreCalm A acts host
  calm_up up [] host quiet gentle = tt
  calm_up true (act ∷ acts) host quiet gentle = (act_calm A act host (quiet.0.in_quiet refl, λ mid does. tt) gentle.0, λ mid does. calm_up (is_up_behind true act) acts mid (quiet.1 mid does) (gentle.1 mid does))
  calm_up false (act ∷ acts) host quiet gentle = (gentle.0, λ mid does. calm_up (is_up_behind false act) acts mid (quiet.1 mid does) (gentle.1 mid does))

-- ---- marks come in turn

timely_on : (up : Bool) (act : Act Circumstance) (marks : List Mark) → IsTimely up act → AreTimely (is_up_behind up act) marks → AreTimely up (act_marks act ++ marks)
timely_on up (Hears circumstances (Linked Up)) marks timely rest = (timely, rest)
timely_on up (Hears circumstances (Linked (Down reason))) marks timely rest = (timely, rest)
timely_on up (Hears circumstances (Failed status)) marks timely rest = rest
timely_on up (Hears circumstances (Heard pdu)) marks timely rest = (timely, rest)
timely_on up (Hears circumstances TimerFired) marks timely rest = rest
timely_on up (Hears circumstances Cancelled) marks timely rest = rest
timely_on up (Hears circumstances (Opening name)) marks timely rest = rest
timely_on up (Says pdu) marks timely rest = rest

pub acts_timely : {S : Type 0} (U : Upper S Circumstance) (up : Bool) (acts : List (Act Circumstance)) (old new : S) → AreInTurn U up acts old → Acting U acts old new → AreTimely up (flat_map act_marks acts)
acts_timely U up [] old new turn acting = tt
acts_timely U up (act ∷ acts) old new turn (mid, does, rest) = timely_on up act (flat_map act_marks acts) turn.0.timely (acts_timely U (is_up_behind up act) acts mid new (turn.1 mid does) rest)

-- ---- marks of acts and of talk

abbrev deed_marks : Deed → List Mark
deed_marks (Learned news) = news_marks news
deed_marks (Spoke pdu) = Occurred (Gives pdu) ∷ []

pub acts_marks : {G : Type 0} (acts : List (Act G)) → flat_map act_marks acts ≡ flat_map deed_marks (map deed_of acts)
acts_marks [] = refl
acts_marks (Hears gifts news ∷ acts) = ap (λ (rest : List Mark). news_marks news ++ rest) (acts_marks acts)
acts_marks (Says pdu ∷ acts) = ap (λ (rest : List Mark). Occurred (Gives pdu) ∷ rest) (acts_marks acts)

one_marks : (one : Talk) → flat_map deed_marks (deeds_in one) ≡ talk_marks one
one_marks (Told news) = append-nil (news_marks news)
one_marks (Said pdu) = refl
one_marks (Unsent pdu) = refl
one_marks (Met fate checked) = refl
one_marks (Done outcome) = refl

pub talks_marks : (talk : List Talk) → flat_map deed_marks (flat_map deeds_in talk) ≡ flat_map talk_marks talk
talks_marks [] = refl
talks_marks (one ∷ talk) = flat_map-append deed_marks (deeds_in one) (flat_map deeds_in talk) ∙ ap₂ (λ (a b : List Mark). a ++ b) (one_marks one) (talks_marks talk)

-- ---- marks fall to links

pub cut : (now : List Occurrence) → List Mark → List (List Occurrence)
cut now [] = now ∷ []
cut now (Occurred one ∷ marks) = cut (now ++ one ∷ []) marks
cut now (Turned event ∷ marks) = now ∷ cut [] marks

cut_on : (now list : List Occurrence) (marks : List Mark) → cut now (map Occurred list ++ marks) ≡ cut (now ++ list) marks
unfolding cut
cut_on now [] marks = ap (λ (l : List Occurrence). cut l marks) (sym (append-nil now))
cut_on now (one ∷ list) marks = cut_on (now ++ one ∷ []) list marks ∙ ap (λ (l : List Occurrence). cut l marks) (append_assoc now (one ∷ []) list)

abbrev outer_on : List Occurrence → List Occurrence
outer_on list = filter_map outer list

pub cut_spans : (spans : List Span) (now : List Occurrence) → cut [] (all_marks spans now) ≡ map outer_on (map (λ (span : Span). span.list) spans ++ now ∷ [])
unfolding cut
cut_spans [] now = ap (cut []) (sym (append-nil (marks_on now))) ∙ cut_on [] (outer_on now) []
cut_spans (span ∷ spans) now =
    ap (cut []) (append_assoc (span_marks span) (flat_map span_marks spans) (marks_on now) ∙ append_assoc (marks_on span.list) (Turned span.event ∷ []) (all_marks spans now))
    ∙ (cut_on [] (outer_on span.list) (Turned span.event ∷ all_marks spans now) ∙ ap (λ (rest : List (List Occurrence)). outer_on span.list ∷ rest) (cut_spans spans now))

abbrev pub part_outer : List Talk → List Occurrence
part_outer part = flat_map talk_outer part

grown_outer : (part : List Talk) (one : Talk) → part_outer (part ++ one ∷ []) ≡ part_outer part ++ talk_outer one
grown_outer part one = flat_map-append talk_outer part (one ∷ []) ∙ ap (λ (l : List Occurrence). part_outer part ++ l) (append-nil (talk_outer one))

abbrev CutsAs : (part talk : List Talk) → Type 0
CutsAs part talk = cut (part_outer part) (flat_map talk_marks talk) ≡ map part_outer (parts_from part talk)

-- something more that is no news of the link
cut_said : (part talk : List Talk) (here : Talk) (outers : List Occurrence) → talk_outer here ≡ outers → CutsAs (part ++ here ∷ []) talk → cut (part_outer part ++ outers) (flat_map talk_marks talk) ≡ map part_outer (parts_from (part ++ here ∷ []) talk)
cut_said part talk here outers is later = ap (λ (l : List Occurrence). cut (part_outer part ++ l) (flat_map talk_marks talk)) (sym is) ∙ (ap (λ (l : List Occurrence). cut l (flat_map talk_marks talk)) (sym (grown_outer part here)) ∙ later)

cut_aside : (part talk : List Talk) (here : Talk) → talk_outer here ≡ [] → CutsAs (part ++ here ∷ []) talk → cut (part_outer part) (flat_map talk_marks talk) ≡ map part_outer (parts_from (part ++ here ∷ []) talk)
cut_aside part talk here is later = ap (λ (l : List Occurrence). cut l (flat_map talk_marks talk)) (sym (append-nil (part_outer part))) ∙ cut_said part talk here [] is later

pub cut_talk : (part talk : List Talk) → CutsAs part talk
unfolding cut
cut_talk part [] = refl
cut_talk part (Told (Linked event) ∷ talk) = ap (λ (l : List (List Occurrence)). part_outer part ∷ l) (cut_talk [] talk)
cut_talk part (Told (Failed status) ∷ talk) = cut_aside part talk (Told (Failed status)) refl (cut_talk (part ++ Told (Failed status) ∷ []) talk)
cut_talk part (Told (Heard pdu) ∷ talk) = cut_said part talk (Told (Heard pdu)) (from_news (Heard pdu)) refl (cut_talk (part ++ Told (Heard pdu) ∷ []) talk)
cut_talk part (Told TimerFired ∷ talk) = cut_said part talk (Told TimerFired) (from_news TimerFired) refl (cut_talk (part ++ Told TimerFired ∷ []) talk)
cut_talk part (Told Cancelled ∷ talk) = cut_aside part talk (Told Cancelled) refl (cut_talk (part ++ Told Cancelled ∷ []) talk)
cut_talk part (Told (Opening name) ∷ talk) = cut_aside part talk (Told (Opening name)) refl (cut_talk (part ++ Told (Opening name) ∷ []) talk)
cut_talk part (Said pdu ∷ talk) = cut_said part talk (Said pdu) (Gives pdu ∷ []) refl (cut_talk (part ++ Said pdu ∷ []) talk)
cut_talk part (Unsent pdu ∷ talk) = cut_said part talk (Unsent pdu) (Gives pdu ∷ []) refl (cut_talk (part ++ Unsent pdu ∷ []) talk)
cut_talk part (Met fate checked ∷ talk) = cut_aside part talk (Met fate checked) refl (cut_talk (part ++ Met fate checked ∷ []) talk)
cut_talk part (Done outcome ∷ talk) = cut_aside part talk (Done outcome) refl (cut_talk (part ++ Done outcome ∷ []) talk)

-- ---- what moved there

one_pdus : (one : Talk) → filter_map pdu_of (talk_outer one) ≡ pdus_in one
one_pdus (Told (Linked event)) = refl
one_pdus (Told (Failed status)) = refl
one_pdus (Told (Heard pdu)) = refl
one_pdus (Told TimerFired) = refl
one_pdus (Told Cancelled) = refl
one_pdus (Told (Opening name)) = refl
one_pdus (Said pdu) = refl
one_pdus (Unsent pdu) = refl
one_pdus (Met fate checked) = refl
one_pdus (Done outcome) = refl

pub part_pdus : (part : List Talk) → filter_map pdu_of (part_outer part) ≡ flat_map pdus_in part
part_pdus [] = refl
part_pdus (one ∷ part) = filter_map-append pdu_of (talk_outer one) (part_outer part) ∙ ap₂ (λ (a b : List Pdu). a ++ b) (one_pdus one) (part_pdus part)

one_talk : (policy : Policy) (list : List Occurrence) (part : List Talk) → IsCalm policy no_channels list → outer_on list ≡ part_outer part → IsTalkOf policy list part
one_talk policy list part calm same =
    let value = (run_of policy list).value in
    record {
      outer_is = same;
      waits = pending value;
      talk_is = talk-waits policy list calm ∙ ap (λ (pdus : List Pdu). flat_map said_by pdus ++ pending value) (sym (outer-pdus list) ∙ (ap (filter_map pdu_of) same ∙ part_pdus part));
      go_out = pending_out value;
    }

pub all_talks : (policy : Policy) (lists : List (List Occurrence)) (talks : List (List Talk)) → AllByRecursion (IsCalm policy no_channels) lists → map outer_on lists ≡ map part_outer talks → AllZip (IsTalkOf policy) lists talks
all_talks policy [] [] calm same = tt
all_talks policy [] (part ∷ talks) calm same = cc
all_talks policy (list ∷ lists) [] calm same = cc
all_talks policy (list ∷ lists) (part ∷ talks) calm same = (one_talk policy list part calm.0 cc, all_talks policy lists talks calm.1 cc)

pub all_spans : (policy : Policy) (spans : List Span) (now : List Occurrence) → AllByRecursion (λ (span : Span). IsCalm policy no_channels span.list) spans → IsCalm policy no_channels now → AllByRecursion (IsCalm policy no_channels) (map (λ (span : Span). span.list) spans ++ now ∷ [])
all_spans policy [] now calm last = (last, tt)
all_spans policy (span ∷ spans) now calm last = (calm.0, all_spans policy spans now calm.1 last)

-- A host that lives calmly through what it was told and said talks so that its talk falls to its links, and what its profile went through
-- stands in one order with what happened on them.
unfoldable pub calmly_fed : {P : Type 0} (A : Profile P) (asks : Asks A) (talk : List Talk) (now : Host P) (over : OverLinks (upper A) talk now) (marks : List Mark) → Calmly A asks marks now → marks ≡ flat_map talk_marks talk → TalksFed A asks talk now
calmly_fed {P} A asks talk now over marks calmly same =
    let lives = calmly.lives in
    let acts_are : flat_map act_marks over.acts ≡ flat_map talk_marks talk = acts_marks over.acts ∙ (ap (flat_map deed_marks) over.deeds_are ∙ talks_marks talk) in
    record {
      so = record {
        lives = record {
          spans = lives.spans;
          now = lives.now;
          feeds = lives.feeds;
          channels_run = lives.channels_run;
          all_told = lives.all_told;
          spans_told = lives.spans_told;
          profile_is = lives.profile_is;
          tidings_are = lives.tidings_are;
          asked_are = lives.asked_are;
          marks_are = lives.marks_are ∙ same;
        };
        timely = subst (λ (m : List Mark). AreTimely false m) acts_are (acts_timely (upper A) false over.acts (first_host A) now over.in_turn over.acting);
        talks_are = all_talks A.policy (map (λ (span : Span). span.list) lives.spans ++ lives.now ∷ []) (parts talk) (all_spans A.policy lives.spans lives.now calmly.spans_calm calmly.now_calm)
            (sym (cut_spans lives.spans lives.now) ∙ (ap (cut []) (lives.marks_are ∙ same) ∙ cut_talk [] talk));
      };
      fed = calmly.fed;
    }

pub hosts_talk_fed : {P : Type 0} (A : Profile P) → HostsTalkFed A
hosts_talk_fed {P} A asks talk now over gentle =
    calmly_fed A asks talk now over (flat_map act_marks over.acts)
    (all_calmly A asks [] over.acts (first_host A) now (first_calmly A asks) (calm_up A asks false over.acts (first_host A) over.in_turn gentle) over.acting)
    (acts_marks over.acts ∙ (ap (flat_map deed_marks) over.deeds_are ∙ talks_marks talk))

pub fed_woven : {P : Type 0} (A : Profile P) (asks : Asks A) (spans : List Span) (now : List Occurrence) (feeds : List Feed) (first last : P) → AreFed A asks spans now feeds first last → AreWoven A asks spans now first last
fed_woven A asks [] now feeds first last fed = fed.woven
fed_woven A asks (span ∷ spans) now feeds first last (here, later, is, rest) = (here.mid, here.circumstances, here.so.woven, fed_woven A asks spans now later (behind_span A asks span first here) last rest)

pub hosts_talk_woven : {P : Type 0} (A : Profile P) → HostsTalkWoven A
hosts_talk_woven A asks talk now over gentle =
    let so = hosts_talk_fed A asks talk now over gentle in record { so = so.so; woven = fed_woven A asks so.so.lives.spans so.so.lives.now so.so.lives.feeds A.first now.profile so.fed }

pub hosts_talk_over_links : {P : Type 0} (A : Profile P) → HostsTalkOverLinks A
hosts_talk_over_links {P} A asks talk now over gentle = (hosts_talk_woven A asks talk now over gentle).so

-- ---- no push begins on its links, and they come up where its profile wants them

module _ {P : Type 0} (A : Profile P) (asks : Asks A) (W : P → Type 0) where
  asked_on : (up : Bool) (spans : List Span) (now acted : List Occurrence) (feeds : List Feed) (old new : Host P) (first : P) (value : old.channels ≡ values_after A.policy no_channels now) (grows : Grows A asks (Unit {0}) acted old new) (fed : AreFed A asks spans now feeds first old.profile)
      → (up_behind up spans ≡ true → AllByRecursion BeginsNone grows.weave) → AreAsked A asks W up spans now feeds first old.profile fed → AreAsked A asks W up spans (now ++ grows.list) (feeds ++ grows.feeds) first new.profile (fed_on A asks spans now acted feeds old new first value grows fed)
  unfolding fed_on
  asked_on true [] now acted feeds old new first value grows fed plain asked = both-begin_none fed.woven.weave grows.weave asked (plain refl)
  asked_on false [] now acted feeds old new first value grows fed plain asked = tt
  asked_on up (span ∷ spans) now acted feeds old new first value grows (here, later, is, rest) plain (one, two, more) =
      (one, two, asked_on (linked_by span.event) spans now acted later old new (behind_span A asks span first here) value grows rest plain more)

  -- nothing happened yet on a link that is new
  none_begun : (up : Bool) (first p q : P) (same : p ≡ q) (w : WovenFed A asks [] [] first p) → AllByRecursion BeginsNone w.woven.weave → BeginsNoneIf up (subst (λ (r : P). WovenFed A asks [] [] first r) same w).woven.weave
  none_begun true first p q same w none = (subst (λ (r : P). (fed : WovenFed A asks [] [] first r) × AllByRecursion BeginsNone fed.woven.weave) same (w, none)).1
  none_begun false first p q same w none = tt

  asked_turned : (up : Bool) (spans : List Span) (now : List Occurrence) (feeds : List Feed) (event : LinkEvent) (circumstances : List Circumstance) (host : Host P) (first : P) (value : host.channels ≡ values_after A.policy no_channels now) (fed : AreFed A asks spans now feeds first host.profile)
      → IsWantedAt W event host.profile → AreAsked A asks W up spans now feeds first host.profile fed
      → (let span : Span = record { list = now; event = event } in AreAsked A asks W up (spans ++ span ∷ []) [] (feeds ++ turned_feeds circumstances event host.channels) first (hears_news A circumstances (Linked event) host).profile (fed_turned A asks spans now feeds event circumstances host first value fed))
  unfolding fed_turned fed_none woven_none
  asked_turned up [] now feeds event circumstances host first value fed wanted asked =
      let after = turned A circumstances event (values_after A.policy no_channels now) host.profile in
      (asked, wanted, none_begun (linked_by event) after after (hears_news A circumstances (Linked event) host).profile (ap (λ (v : Channels). turned A circumstances event v host.profile) (sym value) ∙ sym (hears_turned A asks event circumstances host)) (fed_none A asks after) tt)
  asked_turned up (span ∷ spans) now feeds event circumstances host first value (here, later, is, rest) wanted (one, two, more) =
      (one, two, asked_turned (linked_by span.event) spans now later event circumstances host (behind_span A asks span first here) value rest wanted more)

  abbrev pub IsAsked : (marks : List Mark) (host : Host P) → Calmly A asks marks host → Type 0
  IsAsked marks host so = AreAsked A asks W false so.lives.spans so.lives.now so.lives.feeds A.first host.profile so.fed

  pub goes-asked : (marks : List Mark) (acted : List Occurrence) (old new : Host P) (so : Calmly A asks marks old) (grows : Grows A asks (Unit {0}) acted old new) (told : new.channels.events ≡ []) → (up_behind false so.lives.spans ≡ true → AllByRecursion BeginsNone grows.weave) → IsAsked marks old so
      → IsAsked (marks ++ map Occurred acted) new (goes_calmly A asks marks acted old new so grows told)
  unfolding goes_calmly goes-on
  goes-asked marks acted old new so grows told plain asked =
      let value : old.channels ≡ values_after A.policy no_channels so.lives.now = so.lives.channels_run ∙ value_run A.policy so.lives.now new_link in
      asked_on false so.lives.spans so.lives.now acted so.lives.feeds old new A.first value grows so.fed plain asked

  pub turns-asked : (marks : List Mark) (event : LinkEvent) (circumstances : List Circumstance) (host : Host P) (so : Calmly A asks marks host) → IsWantedAt W event host.profile → IsAsked marks host so → IsAsked (marks ++ Turned event ∷ []) (hears_news A circumstances (Linked event) host) (turns_calmly A asks marks event circumstances host so)
  unfolding turns_calmly turns-on
  turns-asked marks event circumstances host so wanted asked =
      asked_turned false so.lives.spans so.lives.now so.lives.feeds event circumstances host A.first (so.lives.channels_run ∙ value_run A.policy so.lives.now new_link) so.fed wanted asked

  pub first-asked : IsAsked [] (first_host A) (first_calmly A asks)
  unfolding first_calmly first_lives
  first-asked = tt

pub up_turned : (up : Bool) (spans : List Span) (span : Span) → up_behind up (spans ++ span ∷ []) ≡ linked_by span.event
up_turned up [] span = refl
up_turned up (one ∷ spans) span = up_turned (linked_by one.event) spans span
