-- Where nothing is lost the inbox of a server gains what its own units say, channel after channel.
use Rattle.std.proofs.Common.{◌≡◌, ℕ, true, false, List, [], ◌∷◌, ◌++◌, map, take, Option, Some, None, inl, inr, refl, sym, ap, subst, ◌∙◌, arith}
use Rattle.std.specs.List.{AllByRecursion, flat_map}
use Rattle.std.proofs.lemmas.List.{take_all}
use Rattle.request_laws.specs.bt_base.specs.declared.settings.Settings.{Settings}
use Rattle.request_laws.specs.bt_base.specs.declared.settings.Transport.TheVariants.{L2cap}
use Rattle.request_laws.specs.bt_base.specs.Objects.{Object}
use Rattle.request_laws.specs.capture.specs.Histories.{EachAfter}
use Rattle.request_laws.specs.push_terms.specs.declared.word.Side.TheVariants as sides
use Rattle.request_laws.specs.host_link.specs.declared.role.Role.TheVariants.{Server}
use Rattle.request_laws.specs.capture.specs.Links.{links}
use Rattle.request_laws.specs.capture.specs.Pdus.{pdus}
use Rattle.request_laws.specs.link_talk.specs.declared.channel.Channel.{Channel}
use Rattle.request_laws.specs.link_talk.specs.Channels.{Entry, reading}
use Rattle.request_laws.specs.link_talk.specs.Sayings.{Saying}
use Rattle.request_laws.specs.channel_model.specs.Policies.{Policy, policy}
use Rattle.request_laws.specs.channel_model.specs.Value.{no_channels}
use Rattle.request_laws.specs.channel_laws.specs.Runs.{Occurrence, Comes, Connects, AsksFeatures, Disconnects, Sends, Gives, Fires, Tells, run_of}
use Rattle.request_laws.specs.channel_laws.specs.Views.{channel_by, read_at}
use Rattle.request_laws.specs.channel_laws.proofs.OneByOne.{none-is_called}
use Rattle.request_laws.specs.push_laws.specs.Occurrences.{begun}
use Rattle.request_laws.specs.push_laws.specs.Premises.{AllMayCome}
use Rattle.request_laws.specs.world_model.specs.Machines.{LinkEvent, Up, Down}
use Rattle.request_laws.specs.host_model.specs.Circumstances.{Circumstance}
use Rattle.request_laws.specs.host_model.specs.Hosts.{Host}
use Rattle.request_laws.specs.host_model.specs.Servers.{ServerProfile}
use Rattle.request_laws.specs.host_model.specs.Machines.{upper}
use Rattle.request_laws.specs.host_model.proofs.Orderly.{says_frames}
use Rattle.request_laws.specs.host_laws.specs.Acts.{Act}
use Rattle.request_laws.specs.host_laws.specs.Carriers.{reader}
use Rattle.request_laws.specs.host_laws.specs.Gifts.{gifts_with}
use Rattle.request_laws.specs.host_laws.specs.Gaining.{IsDirect}
use Rattle.request_laws.specs.host_laws.specs.GainingOver.{IsNoPdu}
use Rattle.request_laws.specs.host_laws.specs.InOrder.{IsWhole}
use Rattle.request_laws.specs.host_laws.specs.Keeping.{AsksForNothing, GivesNothingUp}
use Rattle.request_laws.specs.host_laws.specs.Lives.{Span, all_marks, on_links}
use Rattle.request_laws.specs.host_laws.specs.OverLinks.{AreTimely, parts, talk_marks}
use Rattle.request_laws.specs.host_laws.specs.Seen.{IsCalm}
use Rattle.request_laws.specs.host_laws.specs.Told.{told_on}
use Rattle.request_laws.specs.host_laws.proofs.Asking.{hosts_ask}
use Rattle.request_laws.specs.host_laws.proofs.Gaining.{found_in}
use Rattle.request_laws.specs.host_laws.proofs.InOrder.{servers-ask_for_nothing}
use Rattle.request_laws.specs.host_laws.proofs.Keeping.{servers_lend}
use Rattle.request_laws.specs.host_laws.proofs.Serving.{hosts_gain}
use Rattle.request_laws.specs.BothFed.{IsDown}
use Rattle.request_laws.proofs.Accepted.{Accepted}
use Rattle.request_laws.proofs.Timely.{is_up, goes_down, is_deaf, is_deaf_now, is_down}
use Rattle.request_laws.specs.pair_laws.specs.Granted.{granted}
use Rattle.unit_laws.specs.scenario_laws.specs.Coming.{CameOver}
use Rattle.unit_laws.specs.scenario_laws.specs.Gains.{holding, serving, asked_by, all_served}
use Rattle.unit_laws.specs.scenario_laws.proofs.Gaining.{link_talks}
use Rattle.unit_laws.specs.scenario_laws.proofs.Wishes.{states_frame}
use Rattle.unit_laws.specs.Calls.{gifts_in}
use Rattle.unit_laws.specs.Laws.{FiresNone, IsUnfired}
use Rattle.unit_laws.specs.Living.{Did, HaveCommands}
use Rattle.unit_laws.specs.Units.{Lined, Occasion, units, lone_capture}
use Rattle.unit_laws.proofs.Living.{servers-gently}
use Rattle.unit_laws.proofs.Running.{units_are_talk}
use Rattle.orderly_laws.specs.Orderly.{IsGrant}
use Rattle.orderly_laws.specs.Served.{GainsOver}
use Rattle.orderly_laws.proofs.Falling.{SaidOn, said_of, on_links as on_links_of, parted}
use Rattle.orderly_laws.proofs.Gaining.{all_same, acts_granted}
use Rattle.orderly_laws.proofs.Given.{FiresNot, parts_still, zip_still, nothing-given_up}
use Rattle.orderly_laws.proofs.Granting.{runs-same, frames-same, over-so, over-acts}
use Rattle.orderly_laws.proofs.Linking.{NoneMuxed, no_pdus, all-direct}
use Rattle.following_laws.specs.Following.{FollowsOthers, IsNotMuxed, IsWholeEntry, ObjectsFollow, ObjectsFollowed, ObjectsFollowNow}
use Rattle.following_laws.specs.OneAtATime.{AtMostOneLeft, IsOneAtATime, IsNoFiring}
use Rattle.following_laws.proofs.Links.{hosts_read_following}
use Rattle.following_laws.proofs.Singles.{no_channel, singles_follow}
use Rattle.behind_laws.specs.InTurn.{AsksDirectly, IsAskedInTurn, LosesNoneInTurn, ServersGainInTurn}
use Rattle.behind_laws.proofs.Direct.{entries-direct, out-directly}
use Rattle.behind_laws.proofs.Linking.{HandsObjectsUp, AllHandUp}
use Rattle.behind_laws.proofs.Moved.{MovedOn, moved_of, parts_spell}
use Rattle.behind_laws.proofs.Told.{IsPrompt, LivesTold, lives-told}

-- ---- of one link

pub record Of (settings : Settings) (list : List Occurrence) : Type 0 where
  pub calm : IsCalm (policy settings true) no_channels list
  pub prompt : IsPrompt (policy settings true) list
  pub nothing : AllByRecursion AsksForNothing list
  pub untimed : AllByRecursion FiresNot list
  pub gives : GivesNothingUp (policy settings true) list
  pub moved : MovedOn IsOneAtATime list
  pub said : SaidOn (AllByRecursion AsksDirectly) settings list

all_of : (settings : Settings) (lists : List (List Occurrence)) → AllByRecursion (IsCalm (policy settings true) no_channels) lists → AllByRecursion (IsPrompt (policy settings true)) lists → AllByRecursion (AllByRecursion AsksForNothing) lists → AllByRecursion (AllByRecursion FiresNot) lists
    → AllByRecursion (GivesNothingUp (policy settings true)) lists → AllByRecursion (MovedOn IsOneAtATime) lists → AllByRecursion (SaidOn (AllByRecursion AsksDirectly) settings) lists → AllByRecursion (Of settings) lists
all_of settings [] calm prompt nothing untimed gives moved said = tt
all_of settings (list ∷ lists) calm prompt nothing untimed gives moved said = (
  record { calm = calm.0; prompt = prompt.0; nothing = nothing.0; untimed = untimed.0; gives = gives.0; moved = moved.0; said = said.0 },
  all_of settings lists calm.1 prompt.1 nothing.1 untimed.1 gives.1 moved.1 said.1,
)

pub all-give : (settings : Settings) (lists : List (List Occurrence)) → AllByRecursion (Of settings) lists → AllByRecursion (GivesNothingUp (policy settings true)) lists
all-give settings [] all = tt
all-give settings (list ∷ lists) all = let one = all.0 in (one.gives, all-give settings lists all.1)

fires_never : (list : List Occurrence) → AllByRecursion FiresNot list → AllByRecursion IsNoFiring list
fires_never [] untimed = tt
fires_never (Comes pdu ∷ list) untimed = (tt, fires_never list untimed.1)
fires_never (Connects psm ∷ list) untimed = (tt, fires_never list untimed.1)
fires_never (AsksFeatures ∷ list) untimed = (tt, fires_never list untimed.1)
fires_never (Disconnects own ∷ list) untimed = (tt, fires_never list untimed.1)
fires_never (Sends own sdu ∷ list) untimed = (tt, fires_never list untimed.1)
fires_never (Gives pdu ∷ list) untimed = (tt, fires_never list untimed.1)
fires_never (Fires ∷ list) untimed = absurd untimed.0
fires_never (Tells ∷ list) untimed = (tt, fires_never list untimed.1)

all_both : {X : Type 0} (P : X → Type 0) (xs ys : List X) → AllByRecursion P xs → AllByRecursion P ys → AllByRecursion P (xs ++ ys)
all_both P [] ys one two = two
all_both P (x ∷ xs) ys one two = (one.0, all_both P xs ys one.1 two)

module _ (settings : Settings) (list : List Occurrence) (of : Of settings list) where
  abbrev rules : Policy
  rules = policy settings true

  abbrev entries : List Entry
  entries = (reading (run_of (policy settings true) list).said).entries

  plain : AllByRecursion IsNotMuxed entries
  plain =
      let said = of.said in
      entries-direct (run_of (policy settings true) list).said (none-is_called (policy settings true) list (no_channel list of.nothing))
      (subst (AllByRecursion AsksDirectly) (sym said.said_is) (all_both AsksDirectly said.talk said.outs said.holds (out-directly said.outs said.go_out)))

  pub behind-of : EachAfter FollowsOthers [] (told_on (policy settings true) list)
  behind-of =
      let moved = of.moved in
      singles_follow (policy settings true) list (record {
        calm = of.calm;
        nothing = of.nothing;
        untimed = fires_never list of.untimed;
        gives = of.gives;
        told = of.prompt of.nothing;
        moved = moved.moved;
        unsent = moved.unsent;
        pdus_are = moved.pdus_are;
        go_out = moved.go_out;
        single = moved.holds;
      })

  pub follow-of : HandsObjectsUp settings list → ObjectsFollow (policy settings true) list
  follow-of hands = record { direct = plain; whole = hands; behind = behind-of }

  pub none-muxed : NoneMuxed settings list
  none-muxed psm at (peer, is) muxed = by (read_at at entries) refl is
    where
      by : (found : Option Entry) → read_at at entries ≡ found → Accepted (channel_by psm at peer) found → ⊥
      by None there none = absurd none
      by (Some entry) there (same, set) = found_in at IsNotMuxed entries entry plain there (ap (λ (c : Channel). c.psm) same ∙ muxed)

-- ---- over all links

record AllFollow (settings : Settings) (spans : List Span) (now : List Occurrence) : Type 0 where
  followed : AllByRecursion (λ (span : Span). ObjectsFollowed (policy settings true) span.event span.list) spans
  follow : ObjectsFollowNow (policy settings true) now

followed_up : (settings : Settings) (event : LinkEvent) (list : List Occurrence) → event ≡ Up → AllByRecursion IsNoPdu list → ObjectsFollowed (policy settings true) event list
followed_up settings event list is bare = subst (λ (e : LinkEvent). ObjectsFollowed (policy settings true) e list) (sym is) bare

followed_down : (settings : Settings) (event : LinkEvent) (list : List Occurrence) → IsDown event → ObjectsFollow (policy settings true) list → ObjectsFollowed (policy settings true) event list
followed_down settings Up list down follow = absurd down
followed_down settings (Down reason) list down follow = follow

all_follow : (settings : Settings) (spans : List Span) (now : List Occurrence) → AllByRecursion (λ (span : Span). Of settings span.list) spans → Of settings now → AllHandUp settings spans now → AreTimely false (all_marks spans now) → AllFollow settings spans now
all_follow settings [] now all last hand timely = record { followed = tt; follow = inl (no_pdus now (is_deaf_now now timely)) }
all_follow settings (up ∷ []) now all last hand timely =
    let rises = is_up up [] now timely in
    record { followed = (followed_up settings up.event up.list rises (no_pdus up.list (is_deaf up [] now rises timely).deaf), tt); follow = inr (follow-of settings now last hand) }
all_follow settings (up ∷ down ∷ spans) now all last hand timely =
    let rises = is_up up (down ∷ spans) now timely in
    let deaf = is_deaf up (down ∷ spans) now rises timely in
    let drops = goes_down down spans now deaf.rest in
    let rest = all_follow settings spans now all.1.1 last hand.1 (is_down down spans now drops deaf.rest) in
    record { followed = (followed_up settings up.event up.list rises (no_pdus up.list deaf.deaf), (followed_down settings down.event down.list drops (follow-of settings down.list all.1.0 hand.0), rest.followed)); follow = rest.follow }

-- where all that comes on any channel is handed up
hands_all : (settings : Settings) (list : List Occurrence) → IsWhole (policy settings true) list → HandsObjectsUp settings list
hands_all settings list whole = each (reading (run_of (policy settings true) list).said).entries
  where
    each : (entries : List Entry) → AllByRecursion (IsWholeEntry (policy settings true) list) entries
    each [] = tt
    each (entry ∷ entries) = ((λ object. whole entry.channel), each entries)

all_hand : (settings : Settings) (spans : List Span) (now : List Occurrence) → AllByRecursion (λ (span : Span). IsWhole (policy settings true) span.list) spans → IsWhole (policy settings true) now → AllHandUp settings spans now
all_hand settings [] now whole last = tt
all_hand settings (up ∷ []) now whole last = hands_all settings now last
all_hand settings (up ∷ down ∷ spans) now whole last = (hands_all settings down.list whole.1.0, all_hand settings spans now whole.1.1 last)

all_unmuxed : (settings : Settings) (spans : List Span) → AllByRecursion (λ (span : Span). Of settings span.list) spans → AllByRecursion (λ (span : Span). NoneMuxed settings span.list) spans
all_unmuxed settings [] all = tt
all_unmuxed settings (span ∷ spans) all = (none-muxed settings span.list all.0, all_unmuxed settings spans all.1)

-- ---- it lived so, with an inbox that grants all

pub record Life (settings : Settings) (before : List Object) (occasions : List (Occasion Circumstance)) (now : Host ServerProfile) : Type 0 where
  pub came : CameOver (serving settings before) sides.B (lone_capture sides.B (units occasions)) now
  pub unfired : AllByRecursion FiresNone occasions → AllByRecursion IsUnfired came.talk
  pub lives : LivesTold (serving settings before) (asked_by hosts_ask settings before) IsGrant came.talk now

pub lived : (settings : Settings) (before : List Object) (occasions : List (Occasion Circumstance)) (now : Lined (Host ServerProfile)) → Did (serving settings before) Server occasions now → AllByRecursion IsGrant (gifts_in occasions) → HaveCommands sides.B (lone_capture sides.B (units occasions))
    → Life settings before occasions now.upper
lived settings before occasions now did grants have =
    let A = serving settings before in
    let U = upper A in
    let capture = lone_capture sides.B (units occasions) in
    let told = units_are_talk (record U { hear = λ gifts news. U.hear (map granted gifts) news }) sides.B _ occasions now (frames-same U (map granted) (says_frames A)) (runs-same U (map granted) occasions _ now (all_same (gifts_in occasions) grants) did) in
    let over = over-so U (map granted) told.talk now.upper told.over in
    let came : CameOver (serving settings before) sides.B (lone_capture sides.B (units occasions)) now.upper = record { talk = told.talk; over = over; fall = told.fall; last = told.up } in
    record {
      came = came;
      unfired = told.unfired;
      lives = lives-told A (asked_by hosts_ask settings before) IsGrant told.talk now.upper over (servers-gently settings (holding before) capture now.upper have came)
          (subst (AllByRecursion (λ (act : Act Circumstance). AllByRecursion IsGrant (gifts_with act))) (sym (over-acts U (map granted) told.talk now.upper told.over)) (acts_granted U told.over.acts));
    }

-- ---- the law

-- before anything moved there is none
pub none-at_first : IsOneAtATime []
none-at_first n = subst (λ (s : List Saying). AtMostOneLeft (reading s).entries) (sym none_taken) tt
  where
    none_taken : let nothing : List Saying = [] in take n nothing ≡ nothing
    none_taken = take_all n [] (omega arith)

-- each of its links
pub links-of : (settings : Settings) (before : List Object) (occasions : List (Occasion Circumstance)) (now : Host ServerProfile) (life : Life settings before occasions now) → AllByRecursion FiresNone occasions → IsAskedInTurn (lone_capture sides.B (units occasions))
    → AllByRecursion (Of settings) (on_links (serving settings before) (asked_by hosts_ask settings before) (flat_map talk_marks life.came.talk) now life.lives.fed.so.lives)
links-of settings before occasions now life untimed asked =
    let asks = asked_by hosts_ask settings before in
    let said = life.came.talk in
    let so = life.lives.fed.so in
    let lists = on_links (serving settings before) asks (flat_map talk_marks said) now so.lives in
    let here = links sides.B (lone_capture sides.B (units occasions)) in
    let nothing = servers-ask_for_nothing settings (holding before) asks (flat_map talk_marks said) now so.lives (servers_lend settings (holding before)) in
    let unfired = life.unfired untimed in
    let gives = nothing-given_up (policy settings true) lists said so.talks_are unfired nothing in
    let still = zip_still (policy settings true) lists (parts said) so.talks_are (parts_still [] said tt unfired) in
    let moved = moved_of IsOneAtATime none-at_first (policy settings true) lists (parts said) (map pdus here) so.talks_are life.came.fall (on_links_of IsOneAtATime here asked.single) in
    let talk_is = said_of (AllByRecursion AsksDirectly) tt settings lists (parts said) (map pdus here) so.talks_are life.came.fall (on_links_of (AllByRecursion AsksDirectly) here asked.direct) gives in
    all_of settings lists life.lives.calm life.lives.prompt nothing still gives moved talk_is

-- nothing comes or goes over RFCOMM
pub direct-of : (settings : Settings) (before : List Object) (occasions : List (Occasion Circumstance)) (now : Host ServerProfile) (life : Life settings before occasions now)
    → AllByRecursion (Of settings) (on_links (serving settings before) (asked_by hosts_ask settings before) (flat_map talk_marks life.came.talk) now life.lives.fed.so.lives) → AllByRecursion IsDirect (all_served hosts_ask settings before life.came.talk now life.lives.fed.so)
direct-of settings before occasions now life all =
    let so = life.lives.fed.so in
    let ofs = parted (Of settings) so.lives.spans so.lives.now all in
    all-direct settings (holding before) so.lives.spans so.lives.now so.lives.feeds (serving settings before).first now.profile life.lives.fed.fed refl (all_unmuxed settings so.lives.spans ofs.before) (none-muxed settings so.lives.now ofs.last)

-- where no request is ignored, and all that comes on its channels of objects is handed up
pub gains-handed : (settings : Settings) (before : List Object) (occasions : List (Occasion Circumstance)) (now : Host ServerProfile) (life : Life settings before occasions now)
    → AllByRecursion (Of settings) (on_links (serving settings before) (asked_by hosts_ask settings before) (flat_map talk_marks life.came.talk) now life.lives.fed.so.lives) → AllMayCome settings [] (begun settings (holding before)) (all_served hosts_ask settings before life.came.talk now life.lives.fed.so)
    → AllHandUp settings life.lives.fed.so.lives.spans life.lives.fed.so.lives.now → GainsOver settings before L2cap occasions now
gains-handed settings before occasions now life all come hand =
    let asks = asked_by hosts_ask settings before in
    let said = life.came.talk in
    let so = life.lives.fed.so in
    let spans = so.lives.spans in
    let list = so.lives.now in
    let lists = map (λ (span : Span). span.list) spans ++ list ∷ [] in
    let party = reader settings settings.mps L2cap in
    let here = links sides.B (lone_capture sides.B (units occasions)) in
    let ofs = parted (Of settings) spans list all in
    let follow = all_follow settings spans list ofs.before ofs.last hand (subst (AreTimely false) (sym so.lives.marks_are) so.timely) in
    hosts_gain settings before asks (flat_map talk_marks said) now so.lives come
    ∙ ap (λ (l : List Object). Some (before ++ l))
    (hosts_read_following settings (holding before) party asks said now so (states_frame settings true sides.B) refl (direct-of settings before occasions now life all) follow.followed follow.follow (all-give settings lists all)
    ∙ (parts_spell party (parts said) (map pdus here) life.came.fall ∙ link_talks party here))

gains_over : (settings : Settings) (before : List Object) (occasions : List (Occasion Circumstance)) (now : Host ServerProfile) (life : Life settings before occasions now) → AllByRecursion FiresNone occasions → IsAskedInTurn (lone_capture sides.B (units occasions))
    → LosesNoneInTurn hosts_ask settings before life.came.talk now life.lives.fed.so → GainsOver settings before L2cap occasions now
gains_over settings before occasions now life untimed asked loses =
    let so = life.lives.fed.so in
    let whole = parted (IsWhole (policy settings true)) so.lives.spans so.lives.now loses.whole in
    gains-handed settings before occasions now life (links-of settings before occasions now life untimed asked) loses.come (all_hand settings so.lives.spans so.lives.now whole.before whole.last)

pub servers_gain_in_turn : ServersGainInTurn
servers_gain_in_turn = record {
  asks = hosts_ask;
  gains = λ settings before occasions now did granted' asked.
      let life = lived settings before occasions now did granted'.granted asked.commands in
      record { came = life.came; so = life.lives.fed.so; granted = life.lives.given; gains = gains_over settings before occasions now.upper life granted'.untimed asked };
}
