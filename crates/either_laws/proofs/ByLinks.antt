-- Link after link the inbox of a server gains what its own units spell, over either transport.
use Rattle.std.proofs.Common.{◌≡◌, ◌⊎◌, inl, inr, ℕ, Bool, true, false, ◌||◌, ◌&&◌, eqb, not, List, [], ◌∷◌, ◌++◌, map, Option, Some, refl, sym, ap, ap₂, subst, ◌∙◌, append_assoc, append-nil, arith, if◌then◌else◌}
use Rattle.std.specs.List.{AllByRecursion, flat_map, list_any}
use Rattle.std.proofs.lemmas.Bool.{eqb-true, eq-eqb}
use Rattle.request_laws.specs.bt_base.specs.declared.settings.Settings.{Settings}
use Rattle.request_laws.specs.bt_base.specs.declared.settings.Transport.{Transport}
use Rattle.request_laws.specs.bt_base.specs.declared.settings.Transport.TheVariants.{L2cap, Rfcomm}
use Rattle.request_laws.specs.bt_base.specs.Objects.{Object, Contents}
use Rattle.request_laws.specs.push_terms.specs.declared.word.Side.TheVariants as sides
use Rattle.request_laws.specs.capture.specs.declared.flow.Flow.TheVariants.{Into}
use Rattle.request_laws.specs.capture.specs.Links.{Link, links}
use Rattle.request_laws.specs.capture.specs.Pdus.{Pdu, pdus}
use Rattle.request_laws.specs.link_talk.specs.declared.call.Call.{Call}
use Rattle.request_laws.specs.link_talk.specs.declared.call.Wanted.{Wanted}
use Rattle.request_laws.specs.link_talk.specs.Captures.{talks}
use Rattle.request_laws.specs.link_talk.specs.Sayings.{Saying, talk}
use Rattle.request_laws.specs.channel_model.specs.Policies.{policy}
use Rattle.request_laws.specs.channel_model.specs.Value.{Channels}
use Rattle.request_laws.specs.channel_laws.specs.Runs as channels
use Rattle.request_laws.specs.channel_laws.specs.Runs.{run_of}
use Rattle.request_laws.specs.channel_laws.specs.Singly.{calls_that_went, IsAgain, IsFresh, AreOneByOne, AsksForNoChannel}
use Rattle.request_laws.specs.push_model.specs.Server.{Reacted}
use Rattle.request_laws.specs.push_laws.specs.Gains.{objects as spelled}
use Rattle.request_laws.specs.push_laws.specs.Laws.{stored_in, new_over}
use Rattle.request_laws.specs.push_laws.specs.Occurrences.{Occurrence, Came, Went, Closed, LinkDown, Asked, Answering, done, all_done}
use Rattle.request_laws.specs.push_laws.specs.Parties.{sdu_if}
use Rattle.request_laws.specs.push_laws.specs.Premises.{AllMayCome}
use Rattle.request_laws.specs.world_model.specs.Machines.{Up, Down}
use Rattle.request_laws.specs.host_model.specs.Servers.{ServerProfile, server_profile}
use Rattle.request_laws.specs.host_laws.specs.Fed.{WovenFed, FedSpan, span_feeds, behind_span, AreFed}
use Rattle.request_laws.specs.host_laws.specs.Feeds.{Feed}
use Rattle.request_laws.specs.host_laws.specs.InOrder.{may_ask, AsksForOneObject}
use Rattle.request_laws.specs.host_laws.specs.Lives.{Mark, Occurred, Turned, Span, marks_on, span_marks, all_marks}
use Rattle.request_laws.specs.host_laws.specs.OverLinks.{AreTimely, parts, talk_marks}
use Rattle.request_laws.specs.host_laws.specs.Serving.{served_from, reacted}
use Rattle.request_laws.specs.host_laws.proofs.Asking.{hosts_ask}
use Rattle.request_laws.specs.host_laws.proofs.InOrder.{asks-nothing, links-ask_none, servers-ask_for_nothing}
use Rattle.request_laws.specs.host_laws.proofs.Keeping.{servers_lend}
use Rattle.orderly_laws.specs.unit_laws.specs.scenario_laws.specs.Gains.{holding, serving, asked_by}
use Rattle.orderly_laws.specs.unit_laws.specs.scenario_laws.specs.Parties.{party_of}
use Rattle.request_laws.specs.BothFed.{GrantsAll, IsDown}
use Rattle.request_laws.proofs.Between.{between_still}
use Rattle.request_laws.proofs.Feeding.{all_ahead, all_both}
use Rattle.request_laws.proofs.Paired.{lists_of}
use Rattle.request_laws.proofs.Silent.{IsStill}
use Rattle.request_laws.proofs.Timely.{HearsNothing, is_up, goes_down, is_deaf, is_deaf_now, is_down}
use Rattle.request_laws.proofs.Together.{all_granted}
use Rattle.orderly_laws.specs.Answered.{AreAnswered}
use Rattle.orderly_laws.specs.Carried.{AreInOrder}
use Rattle.orderly_laws.proofs.Falling.{on_links}
use Rattle.orderly_laws.proofs.Gaining.{on_each}
use Rattle.orderly_laws.proofs.Given.{nothing-given_up, parts_still, zip_still}
use Rattle.orderly_laws.proofs.Linking.{new_server, no_pdus, value_at}
use Rattle.behind_laws.specs.following_laws.specs.OneAtATime.{IsOneAtATime}
use Rattle.behind_laws.specs.InTurn.{AsksDirectly}
use Rattle.behind_laws.proofs.Gaining.{lived}
use Rattle.orderly_laws.specs.unit_laws.specs.Units.{units, lone_capture}
use Rattle.either_laws.specs.ByLinks.{wants_multiplexer, seeks_multiplexer, transport_shown, IsOrderlyOver, IsOrderlyLink, objects_shown, ServersGainByLinks, OrderlyInputsAreByLinks}
use Rattle.either_laws.proofs.Alone.{LinkOf, IsQuietList, quiet_gained, LinkGains, last_gains, link_feeds, after, link_fed, link_shape, downs, ended_gains}
use Rattle.either_laws.specs.Anew.{IsAsNew}
use Rattle.either_laws.proofs.Ending.{links_end_as_new}
use Rattle.either_laws.proofs.Falling.{gains, Fallen, fallen, moved_on, all_lived}
use Rattle.either_laws.proofs.Shown.{directly-shown}
use Rattle.either_laws.proofs.Lives.{BeginsAnew, life_done, lives_so, life_gains}
use Rattle.either_laws.proofs.LinkReads.{deaf_said}
use Rattle.either_laws.proofs.Pasts.{answers_aside}

-- ---- marks of one link

timely_front : (up : Bool) (xs ys : List Mark) → AreTimely up (xs ++ ys) → AreTimely up xs
timely_front up [] ys timely = tt
timely_front up (Occurred (channels.Comes pdu) ∷ xs) ys timely = (timely.0, timely_front up xs ys timely.1)
timely_front up (Occurred (channels.Connects psm) ∷ xs) ys timely = timely_front up xs ys timely
timely_front up (Occurred channels.AsksFeatures ∷ xs) ys timely = timely_front up xs ys timely
timely_front up (Occurred (channels.Disconnects own) ∷ xs) ys timely = timely_front up xs ys timely
timely_front up (Occurred (channels.Sends own sdu) ∷ xs) ys timely = timely_front up xs ys timely
timely_front up (Occurred (channels.Gives pdu) ∷ xs) ys timely = timely_front up xs ys timely
timely_front up (Occurred channels.Fires ∷ xs) ys timely = timely_front up xs ys timely
timely_front up (Occurred channels.Tells ∷ xs) ys timely = timely_front up xs ys timely
timely_front up (Turned Up ∷ xs) ys timely = (timely.0, timely_front true xs ys timely.1)
timely_front up (Turned (Down reason) ∷ xs) ys timely = (timely.0, timely_front false xs ys timely.1)

first_timely : (up down : Span) (spans : List Span) (now : List channels.Occurrence) → AreTimely false (all_marks (up ∷ down ∷ spans) now) → AreTimely false (all_marks (up ∷ down ∷ []) [])
first_timely up down spans now timely =
    let U = span_marks up in
    let D = span_marks down in
    let F = flat_map span_marks spans in
    let N = marks_on now in
    subst (AreTimely false) (sym (append-nil (U ++ (D ++ [])) ∙ ap (λ (l : List Mark). U ++ l) (append-nil D)))
    (timely_front false (U ++ D) (F ++ N) (subst (AreTimely false) (append_assoc U (D ++ F) N ∙ (ap (λ (l : List Mark). U ++ l) (append_assoc D F N) ∙ sym (append_assoc U D (F ++ N)))) timely))

-- ---- where nothing comes, goes or is closed the inbox stays

still_content : (list : List Occurrence) (at : Reacted) → AllByRecursion IsStill list → (all_done list at).gift.content ≡ at.gift.content
still_content [] at still = refl
still_content (Came psm sdu ∷ list) at still = let never : sdu ∷ [] ≡ [] = subst (λ (b : Bool). sdu_if b sdu ≡ []) (eq-eqb psm psm refl) (still.0.come psm) in absurd cc
still_content (Went psm sdu ∷ list) at still = still_content list (done (Went psm sdu) at) still.1
still_content (Closed psm ∷ list) at still = let never : true ≡ false = sym (eq-eqb psm psm refl) ∙ still.0.open_yet psm in absurd cc
still_content (LinkDown ∷ list) at still = let never : true ≡ false = still.0.open_yet 0 in absurd cc
still_content (Asked ∷ list) at still = still_content list (done Asked at) still.1
still_content (Answering answers ∷ list) at still = still_content list (done (Answering answers) at) still.1

-- ---- all links

-- behind a link a server begins anew, over an inbox that gained these
record NextLink (settings : Settings) (stored gained : List Object) (p : ServerProfile) : Type 0 where
  next : List Object
  begins : BeginsAnew settings next p
  same : next ≡ stored ++ gained

module _ (settings : Settings) (content : Option Contents) where
  abbrev AllFed : List Span → List channels.Occurrence → List Feed → (first last : ServerProfile) → Type 0
  AllFed spans now feeds first last = AreFed (server_profile settings content) (hosts_ask.servers settings content) spans now feeds first last

  -- before a link comes up nothing is said, so nothing is gained
  abbrev before_link : (list : List channels.Occurrence) (feeds : List Feed) (first last : ServerProfile) → WovenFed (server_profile settings content) (hosts_ask.servers settings content) list feeds first last → first.endpoints ≡ [] → AllByRecursion HearsNothing list → LinkOf settings list → IsQuietList settings list
  before_link list feeds first last so none deaf link = record { link = link; nothing = deaf_said settings content list feeds first last so none deaf; bare = no_pdus list deaf }

  module _ (up down : Span) (first : ServerProfile) (here : FedSpan (server_profile settings content) (hosts_ask.servers settings content) up first) (rises : up.event ≡ Up)
      (there : FedSpan (server_profile settings content) (hosts_ask.servers settings content) down (behind_span (server_profile settings content) (hosts_ask.servers settings content) up first here)) (drops : IsDown down.event) where
    abbrev on_link : List Feed
    on_link = link_feeds settings content up first here rises down there drops

    abbrev gone : ServerProfile
    gone = after settings content up first here rises down there drops

    -- all that happened to it there, and the end of the link behind that
    abbrev ahead : List Occurrence
    ahead = Answering first.inbox.answers
        ∷ (served_from settings content first here.here ++ (served_from settings content (behind_span (server_profile settings content) (hosts_ask.servers settings content) up first here) there.here ++ (downs settings content up first here rises down there drops).ahead))

    ahead_is : Answering first.inbox.answers ∷ served_from settings content first on_link ≡ ahead ++ LinkDown ∷ []
    ahead_is =
        let S = served_from settings content first here.here in
        let L = served_from settings content (behind_span (server_profile settings content) (hosts_ask.servers settings content) up first here) there.here in
        let rest = (downs settings content up first here rises down there drops).ahead in
        ap (λ (l : List Occurrence). Answering first.inbox.answers ∷ l)
        (link_shape settings content up first here rises down there drops ∙ (ap (λ (l : List Occurrence). S ++ l) (sym (append_assoc L rest (LinkDown ∷ []))) ∙ sym (append_assoc S (L ++ rest) (LinkDown ∷ []))))

    next_link : (stored gained : List Object) → BeginsAnew settings stored first → LinkGains settings content stored first on_link gained → NextLink settings stored gained gone
    next_link stored gained begins one =
        let next : List Object = stored ++ spelled settings (ahead ++ LinkDown ∷ []) in
        let lives = lives_so settings content stored (up ∷ down ∷ []) [] on_link first gone (link_fed settings content up first here rises down there drops) begins in
        let anew : IsAsNew settings next (reacted gone) =
        subst (IsAsNew settings next) (sym (lives ∙ ap (λ (l : List Occurrence). all_done l (new_over settings stored)) ahead_is)) (links_end_as_new settings stored ahead (subst (AllMayCome settings [] (new_over settings stored)) ahead_is one.comes)) in
        record {
          next = next;
          begins = record {
            is = ap₂ (λ s c. (let r : Reacted = record { server = s; gift = record { content = c; answers = gone.inbox.answers } } in r)) anew.server_is anew.content_is;
            granted = anew.granted;
            none = new_server settings content there.circumstances down.event (value_at settings content down) there.mid;
          };
          same = ap (λ (l : List Occurrence). stored ++ spelled settings l) (sym ahead_is) ∙ ap (λ (l : List Object). stored ++ l) (answers_aside settings first.inbox.answers (served_from settings content first on_link) ∙ one.reads);
        }

  pub all_gain : (spans : List Span) (now : List channels.Occurrence) (feeds : List Feed) (first last : ServerProfile) (stored : List Object) → AllFed spans now feeds first last → BeginsAnew settings stored first
      → AreTimely false (all_marks spans now) → AllByRecursion GrantsAll feeds → (links : AllByRecursion (LinkOf settings) (lists_of spans now)) → stored_in last.inbox.content ≡ Some (stored ++ gains settings (lists_of spans now) links)
  all_gain [] now feeds first last stored so begins timely grants links =
      let deaf = is_deaf_now now timely in
      let quiet = before_link now feeds first last so begins.none deaf links.0 in
      let still = between_still settings content (hosts_ask.servers settings content) now feeds first last so deaf in
      ap (λ (r : Reacted). stored_in r.gift.content) (life_done settings content [] now feeds first last so)
      ∙ (ap stored_in (still_content (served_from settings content first feeds) (reacted first) still)
      ∙ (ap (λ (r : Reacted). stored_in r.gift.content) begins.is
      ∙ ap (λ (l : List Object). Some l) (sym (ap (λ (l : List Object). stored ++ (l ++ [])) (quiet_gained settings content now quiet) ∙ append-nil stored))))
  all_gain (up ∷ []) now feeds first last stored (here, later, is, on) begins timely grants links =
      let rises = is_up up [] now timely in
      let deaf = is_deaf up [] now rises timely in
      let quiet = before_link up.list here.here first here.mid here.so begins.none deaf.deaf links.0 in
      let still = between_still settings content (hosts_ask.servers settings content) up.list here.here first here.mid here.so deaf.deaf in
      let new = new_server settings content here.circumstances up.event (value_at settings content up) here.mid in
      let link = links.1.0 in
      let one = last_gains settings content up first here rises stored now feeds later last is on new begins timely grants still quiet link in
      life_gains settings content stored (up ∷ []) now feeds first last (here, later, is, on) begins one.comes
      ∙ ap (λ (l : List Object). Some (stored ++ l)) (one.reads ∙ sym (ap₂ (λ (a b : List Object). a ++ b) (quiet_gained settings content up.list quiet) (append-nil link.gained)))
  all_gain (up ∷ down ∷ spans) now feeds first last stored (here, later, is, (there, rest, rest_is, so)) begins timely grants links =
      let B = server_profile settings content in
      let asks = hosts_ask.servers settings content in
      let rises = is_up up (down ∷ spans) now timely in
      let deaf = is_deaf up (down ∷ spans) now rises timely in
      let drops = goes_down down spans now deaf.rest in
      let quiet = before_link up.list here.here first here.mid here.so begins.none deaf.deaf links.0 in
      let still = between_still settings content asks up.list here.here first here.mid here.so deaf.deaf in
      let mid = behind_span B asks up first here in
      let new = new_server settings content here.circumstances up.event (value_at settings content up) here.mid in
      let link = links.1.0 in
      let U = span_feeds B asks up first here in
      let D = span_feeds B asks down mid there in
      let first_grants = all_ahead GrantsAll U later (subst (AllByRecursion GrantsAll) is grants) in
      let next_grants = all_ahead GrantsAll D rest (subst (AllByRecursion GrantsAll) rest_is first_grants.1) in
      let link_grants = all_both GrantsAll U (D ++ []) first_grants.0 (all_both GrantsAll D [] next_grants.0 tt) in
      let one = ended_gains settings content up first here rises down there drops stored new begins (first_timely up down spans now timely) link_grants still quiet link in
      let more = next_link up down first here rises there drops stored link.gained begins one in
      let G = gains settings (lists_of spans now) links.1.1 in
      all_gain spans now rest (behind_span B asks down mid there) last more.next so more.begins (is_down down spans now drops deaf.rest) next_grants.1 links.1.1
      ∙ (ap (λ (l : List Object). Some (l ++ G)) more.same
      ∙ ap (λ (l : List Object). Some l) (append_assoc stored link.gained G ∙ sym (ap (λ (l : List Object). stored ++ (l ++ (link.gained ++ G))) (quiet_gained settings content up.list quiet))))

-- ---- the law

links_shown : (settings : Settings) (list : List Link) → flat_map (λ (link : List Pdu). objects_shown settings (moved_on link)) (map pdus list) ≡ flat_map (objects_shown settings) (map talk list)
links_shown settings [] = refl
links_shown settings (link ∷ list) = ap (λ (l : List Object). objects_shown settings (talk link) ++ l) (links_shown settings list)

pub servers_gain_by_links : ServersGainByLinks
servers_gain_by_links settings before occasions now did granted input =
    let content : Option Contents = holding before in
    let A = serving settings before in
    let asks = asked_by hosts_ask settings before in
    let life = lived settings before occasions now did granted.granted input.commands in
    let said = life.came.talk in
    let so = life.lives.fed.so in
    let spans = so.lives.spans in
    let list = so.lives.now in
    let lists = lists_of spans list in
    let feeds = so.lives.feeds in
    let marks = flat_map talk_marks said in
    let nothing = asks-nothing settings content in
    let here = links sides.B (lone_capture sides.B (units occasions)) in
    let none = links-ask_none A asks marks now.upper so.lives nothing in
    let none_all = on_each (AllByRecursion AsksForNoChannel) spans list none.before none.last in
    let unfired = life.unfired granted.untimed in
    let unasked = servers-ask_for_nothing settings content asks marks now.upper so.lives (servers_lend settings content) in
    let plain = nothing-given_up (policy settings true) lists said so.talks_are unfired unasked in
    let untimed = zip_still (policy settings true) lists (parts said) so.talks_are (parts_still [] said tt unfired) in
    let last_told : (run_of (policy settings true) list).value.events ≡ [] = ap (λ (v : Channels). v.events) (sym so.lives.channels_run) ∙ so.lives.all_told in
    let told = on_each (λ (l : List channels.Occurrence). (run_of (policy settings true) l).value.events ≡ []) spans list so.lives.spans_told last_told in
    let falls : Fallen settings lists (map pdus here) =
    fallen settings lists (parts said) (map pdus here) so.talks_are life.came.fall (on_links (IsOrderlyLink settings) here input.links)
    (all_lived settings lists life.lives.calm life.lives.prompt unasked untimed plain none_all told) in
    let begins : BeginsAnew settings before A.first = record { is = refl; granted = tt; none = refl } in
    all_gain settings content spans list feeds A.first now.upper.profile before life.lives.fed.fed begins (subst (AreTimely false) (sym so.lives.marks_are) so.timely) (all_granted feeds life.lives.given) falls.links
    ∙ ap (λ (l : List Object). Some (before ++ l)) (falls.are ∙ links_shown settings here)

-- ---- input over one transport

-- one who asks for a channel over L2CAP asks for none of multiplexers
not_three : (psm : ℕ) (more : Bool) → (eqb psm 0x0001 || (not (eqb psm 0x0003) && more)) ≡ true → eqb psm 0x0003 ≡ false
not_three psm more fits = at (eqb psm 0x0003) refl (eqb psm 0x0001) refl fits
  where
    at : (three : Bool) → eqb psm 0x0003 ≡ three → (first : Bool) → eqb psm 0x0001 ≡ first → (first || (not three && more)) ≡ true → three ≡ false
    at false is first e fits' = refl
    at true is false e fits' = absurd (let never : false ≡ true = fits' in cc)
    at true is true e fits' = absurd (let a = eqb-true psm 0x0003 is in let b = eqb-true psm 0x0001 e in omega (arith, a, b))

or_twice : (a b : Bool) → (a || b) ≡ false → (a || (a || b)) ≡ false
or_twice true b is = is
or_twice false b is = is

again_none : (one : Call) (before : List Call) → IsAgain one before → list_any seeks_multiplexer before ≡ false → list_any seeks_multiplexer (one ∷ before) ≡ false
again_none one [] again none = absurd again
again_none one (last ∷ before) again none = subst (λ (c : Call). list_any seeks_multiplexer (c ∷ last ∷ before) ≡ false) (sym again) (or_twice (seeks_multiplexer last) (list_any seeks_multiplexer before) none)

next_none : (one : Call) (before : List Call) → IsAgain one before ⊎ IsFresh (may_ask L2cap) one before → list_any seeks_multiplexer before ≡ false → list_any seeks_multiplexer (one ∷ before) ≡ false
next_none one before (inl again) none = again_none one before again none
next_none one before (inr fresh) none =
    subst (λ (w : Option Wanted). (wants_multiplexer w || list_any seeks_multiplexer before) ≡ false) (sym fresh.wanted_is) (ap₂ (λ (a b : Bool). a || b) (not_three fresh.wanted.psm _ fresh.fits) none)

none_seeks : (calls : List Call) → AreOneByOne (may_ask L2cap) calls → list_any seeks_multiplexer calls ≡ false
none_seeks [] asks = refl
none_seeks (one ∷ before) asks = next_none one before asks.0 (none_seeks before asks.1)

direct_shown : (said : List Saying) → AsksForOneObject L2cap said → transport_shown said ≡ L2cap
direct_shown said asks = ap (λ (b : Bool). if b then Rfcomm else L2cap) (none_seeks (calls_that_went Into said) asks)

all_direct : (settings : Settings) (list : List (List Saying)) → AllByRecursion (AsksForOneObject L2cap) list → AllByRecursion (AreAnswered settings (party_of settings sides.B)) list → AllByRecursion (IsOrderlyLink settings) list
all_direct settings [] asks answered = tt
all_direct settings (said ∷ list) asks answered =
    let is = sym (direct_shown said asks.0) in
    (subst (λ (T : Transport). IsOrderlyOver settings T said) is (inl asks.0, answered.0), all_direct settings list asks.1 answered.1)

all_in_turn : (settings : Settings) (list : List (List Saying)) → AllByRecursion IsOneAtATime list → AllByRecursion (AllByRecursion AsksDirectly) list → AllByRecursion (AreAnswered settings (party_of settings sides.B)) list → AllByRecursion (IsOrderlyLink settings) list
all_in_turn settings [] single direct answered = tt
all_in_turn settings (said ∷ list) single direct answered =
    (subst (λ (T : Transport). IsOrderlyOver settings T said) (sym (directly-shown said direct.0)) (inr single.0, answered.0), all_in_turn settings list single.1 direct.1 answered.1)

all_carried : (settings : Settings) (list : List (List Saying)) → AllByRecursion (AsksForOneObject Rfcomm) list → AllByRecursion (AreInOrder settings) list → AllByRecursion (λ (said : List Saying). transport_shown said ≡ Rfcomm) list → AllByRecursion (IsOrderlyLink settings) list
all_carried settings [] asks order shown = tt
all_carried settings (said ∷ list) asks order shown =
    let is = sym shown.0 in
    (subst (λ (T : Transport). IsOrderlyOver settings T said) is (asks.0, order.0), all_carried settings list asks.1 order.1 shown.1)

pub orderly_inputs_are_by_links : OrderlyInputsAreByLinks
orderly_inputs_are_by_links = record {
  direct = λ settings capture input. record { commands = input.commands; links = all_direct settings (talks sides.B capture) input.one_channel input.answered };
  in_turn = λ settings capture input. let asked = input.asked in record { commands = asked.commands; links = all_in_turn settings (talks sides.B capture) asked.single asked.direct input.answered };
  carried = λ settings capture input shown. record { commands = input.asked.commands; links = all_carried settings (talks sides.B capture) input.asked.one_channel input.in_order shown };
}
