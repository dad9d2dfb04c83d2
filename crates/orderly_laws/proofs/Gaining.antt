-- On orderly input the inbox of a server gains what its own units spell.
use Rattle.std.proofs.Common.{◌≡◌, true, false, List, [], ◌∷◌, ◌++◌, map, Option, Some, refl, sym, ap, ap₂, subst, ◌∙◌}
use Rattle.std.specs.List.{AllByRecursion, AllZip, flat_map}
use Rattle.request_laws.specs.bt_base.specs.declared.settings.Settings.{Settings}
use Rattle.request_laws.specs.bt_base.specs.declared.settings.Transport.{Transport}
use Rattle.request_laws.specs.bt_base.specs.declared.settings.Transport.TheVariants.{L2cap}
use Rattle.request_laws.specs.bt_base.specs.Objects.{Object, Contents}
use Rattle.request_laws.specs.push_terms.specs.declared.word.Side.TheVariants as sides
use Rattle.request_laws.specs.capture.specs.Links.{links}
use Rattle.request_laws.specs.capture.specs.Pdus.{pdus}
use Rattle.request_laws.specs.link_talk.specs.Captures.{talks}
use Rattle.request_laws.specs.channel_model.specs.Policies.{policy}
use Rattle.request_laws.specs.channel_model.specs.Value.{Channels}
use Rattle.request_laws.specs.channel_laws.specs.Frames.{AreUttered}
use Rattle.request_laws.specs.channel_laws.specs.Runs.{Occurrence, run_of}
use Rattle.request_laws.specs.channel_laws.specs.Singly.{AsksForNoChannel}
use Rattle.request_laws.specs.obex_session.specs.InboxCalls.{Answer}
use Rattle.request_laws.specs.push_model.specs.Client.{own_maximum}
use Rattle.request_laws.specs.push_model.specs.Server.{object_psm}
use Rattle.request_laws.specs.push_laws.specs.Premises.{AllGranted}
use Rattle.request_laws.specs.world_model.specs.Talks.{Talk}
use Rattle.request_laws.specs.world_model.specs.Machines.{Upper}
use Rattle.request_laws.specs.host_model.specs.Circumstances.{Circumstance, Size, Part, Stored, answers_in}
use Rattle.request_laws.specs.host_model.specs.Machines.{upper}
use Rattle.request_laws.specs.host_model.proofs.Orderly.{says_frames}
use Rattle.request_laws.specs.host_laws.specs.Acts.{Act, Hears, Says}
use Rattle.request_laws.specs.host_laws.specs.Calls.{Asks}
use Rattle.request_laws.specs.host_laws.specs.Gifts.{gifts_with}
use Rattle.request_laws.specs.host_laws.specs.InOrder.{AsksForOneObject}
use Rattle.request_laws.specs.host_laws.specs.Lives.{Span}
use Rattle.request_laws.specs.host_laws.specs.OneOnLinks.{CarriesOneOn}
use Rattle.request_laws.specs.host_laws.specs.OverLinks.{AreTimely, parts, moved_in, talk_marks, IsTalkOf}
use Rattle.request_laws.specs.host_laws.specs.Serving.{served_from}
use Rattle.request_laws.specs.host_laws.specs.Spoken.{IsServed}
use Rattle.request_laws.specs.host_laws.proofs.Asking.{hosts_ask}
use Rattle.request_laws.specs.host_laws.proofs.GainingOver.{hosts_read_over_links}
use Rattle.request_laws.specs.host_laws.proofs.InOrder.{asks-nothing, links-ask_none, servers-ask_for_nothing}
use Rattle.request_laws.specs.host_laws.proofs.Keeping.{servers_lend}
use Rattle.request_laws.specs.host_laws.proofs.OneOnLinks.{servers-carry_alone}
use Rattle.request_laws.specs.host_laws.proofs.Seeking.{is-served}
use Rattle.request_laws.specs.host_laws.proofs.Serving.{hosts_gain}
use Rattle.unit_laws.specs.scenario_laws.specs.Coming.{CameOver}
use Rattle.unit_laws.specs.scenario_laws.specs.Gains.{holding, serving}
use Rattle.unit_laws.specs.scenario_laws.specs.Parties.{party_of}
use Rattle.unit_laws.specs.scenario_laws.proofs.Gaining.{all_spell, link_talks}
use Rattle.unit_laws.specs.scenario_laws.proofs.Orderly.{parts_asked, asked_talks}
use Rattle.unit_laws.specs.scenario_laws.proofs.Wishes.{states_frame}
use Rattle.request_laws.specs.pair_laws.specs.Granted.{granted}
use Rattle.request_laws.proofs.Lending.{serve_all}
use Rattle.request_laws.proofs.Together.{all_granted}
use Rattle.unit_laws.specs.Calls.{gifts_in}
use Rattle.unit_laws.specs.Units.{units, lone_capture}
use Rattle.unit_laws.proofs.Living.{servers-gently}
use Rattle.unit_laws.proofs.Running.{units_are_talk}
use Rattle.orderly_laws.specs.Answered.{AreAnswered}
use Rattle.orderly_laws.specs.Orderly.{IsGrant, ServersGainAsked}
use Rattle.orderly_laws.proofs.Counting.{none-ignored}
use Rattle.orderly_laws.proofs.Falling.{SaidOn, on_links, said_of, parted}
use Rattle.orderly_laws.proofs.Given.{lives-given, nothing-given_up}
use Rattle.orderly_laws.proofs.Granting.{act_so, runs-same, frames-same, over-so, over-acts}
use Rattle.orderly_laws.proofs.Linking.{ReadLink, plain_at, all-plain, all-carry, all-direct, all-turns, all-follow}

-- ---- its links, as they are read

-- what is so of a list
record Of (settings : Settings) (list : List Occurrence) : Type 0 where
  uttered : AreUttered (policy settings true) list
  said : SaidOn (AreAnswered settings (party_of settings sides.B)) settings list
  only : CarriesOneOn object_psm (policy settings true) list
  none : AllByRecursion AsksForNoChannel list
  told : (run_of (policy settings true) list).value.events ≡ []

reads_of : (settings : Settings) (lists : List (List Occurrence)) → AllByRecursion (Of settings) lists → AllByRecursion (ReadLink settings) lists
reads_of settings [] all = tt
reads_of settings (list ∷ lists) all =
    let one = all.0 in
    let said = one.said in (
      record { talk = said.talk; outs = said.outs; said_is = said.said_is; go_out = said.go_out; uttered = one.uttered; answered = said.holds; only = one.only; none = one.none; told = one.told },
      reads_of settings lists all.1,
    )

-- those that ended, and the last one
lists_of : List Span → List Occurrence → List (List Occurrence)
lists_of spans now = map (λ (span : Span). span.list) spans ++ now ∷ []

all_of : (settings : Settings) (lists : List (List Occurrence)) → AllByRecursion (AreUttered (policy settings true)) lists → AllByRecursion (SaidOn (AreAnswered settings (party_of settings sides.B)) settings) lists → AllByRecursion (CarriesOneOn object_psm (policy settings true)) lists → AllByRecursion (AllByRecursion AsksForNoChannel) lists
    → AllByRecursion (λ (list : List Occurrence). (run_of (policy settings true) list).value.events ≡ []) lists → AllByRecursion (Of settings) lists
all_of settings [] utter said only none told = tt
all_of settings (list ∷ lists) utter said only none told =
    (record { uttered = utter.0; said = said.0; only = only.0; none = none.0; told = told.0 }, all_of settings lists utter.1 said.1 only.1 none.1 told.1)

pub on_each : (Q : List Occurrence → Type 0) (spans : List Span) (now : List Occurrence) → AllByRecursion (λ (span : Span). Q span.list) spans → Q now → AllByRecursion Q (map (λ (span : Span). span.list) spans ++ now ∷ [])
on_each Q [] now before last = (last, tt)
on_each Q (span ∷ spans) now before last = (before.0, on_each Q spans now before.1 last)

pub all_served : (transport : Transport) (settings : Settings) (lists : List (List Occurrence)) (talks : List (List Talk)) → AllZip (IsTalkOf (policy settings true)) lists talks → AllByRecursion (AllByRecursion AsksForNoChannel) lists → AllByRecursion (λ part. AsksForOneObject transport (moved_in part)) talks
    → AllByRecursion (λ part. IsServed (moved_in part)) talks
all_served transport settings [] [] are none sought = tt
all_served transport settings [] (part ∷ talks) are none sought = absurd are
all_served transport settings (list ∷ lists) [] are none sought = tt
all_served transport settings (list ∷ lists) (part ∷ talks) are none sought = (
  is-served transport (policy settings true) list (moved_in part) are.0.waits (record { none = none.0; talk_is = are.0.talk_is; go_out = are.0.go_out; sought = sought.0 }),
  all_served transport settings lists talks are.1 none.1 sought.1,
)

-- ---- what its ports gave it

grant_same : (gift : List Circumstance) → AllGranted (answers_in gift) → map granted gift ≡ gift
grant_same [] all = refl
grant_same (Size answer ∷ gift) all = ap (λ (l : List Circumstance). Size answer ∷ l) (grant_same gift all)
grant_same (Part excerpt ∷ gift) all = ap (λ (l : List Circumstance). Part excerpt ∷ l) (grant_same gift all)
grant_same (Stored answer ∷ gift) all = ap₂ (λ (a : Answer) (l : List Circumstance). Stored a ∷ l) (sym all.0) (grant_same gift all.1)

pub all_same : (gifts : List (List Circumstance)) → AllByRecursion IsGrant gifts → AllByRecursion (λ (gift : List Circumstance). map granted gift ≡ gift) gifts
all_same [] all = tt
all_same (gift ∷ gifts) all = (grant_same gift all.0, all_same gifts all.1)

granted_all : (gift : List Circumstance) → AllGranted (answers_in (map granted gift))
granted_all [] = tt
granted_all (Size answer ∷ gift) = granted_all gift
granted_all (Part excerpt ∷ gift) = granted_all gift
granted_all (Stored answer ∷ gift) = (refl, granted_all gift)

pub acts_granted : {S : Type 0} (U : Upper S Circumstance) (acts : List (Act Circumstance)) → AllByRecursion (λ (act : Act Circumstance). AllByRecursion IsGrant (gifts_with act)) (map (act_so U (map granted)) acts)
acts_granted U [] = tt
acts_granted U (Hears gifts news ∷ acts) = ((granted_all gifts, tt), acts_granted U acts)
acts_granted U (Says pdu ∷ acts) = (tt, acts_granted U acts)

-- ---- the law

pub servers_gain_asked : ServersGainAsked
servers_gain_asked settings before occasions now transport did granted' orderly =
    let content : Option Contents = holding before in
    let A = serving settings before in
    let asks : Asks (serving settings before) = hosts_ask.servers settings (holding before) in
    let U = upper A in
    let capture = lone_capture sides.B (units occasions) in
    let party = party_of settings sides.B in
    let told = units_are_talk (record U { hear = λ gifts news. U.hear (map granted gifts) news }) sides.B _ occasions now (frames-same U (map granted) (says_frames A)) (runs-same U (map granted) occasions _ now (all_same (gifts_in occasions) granted'.granted) did) in
    let over = over-so U (map granted) told.talk now.upper told.over in
    let came : CameOver (serving settings before) sides.B (lone_capture sides.B (units occasions)) now.upper = record { talk = told.talk; over = over; fall = told.fall; last = told.up } in
    let lives = lives-given A asks IsGrant told.talk now.upper over (servers-gently settings content capture now.upper orderly.commands came) (subst (AllByRecursion (λ (act : Act Circumstance). AllByRecursion IsGrant (gifts_with act))) (sym (over-acts U (map granted) told.talk now.upper told.over)) (acts_granted U told.over.acts)) in
    let so = lives.fed.so in
    let spans = so.lives.spans in
    let list = so.lives.now in
    let lists = map (λ (span : Span). span.list) spans ++ list ∷ [] in
    let marks = flat_map talk_marks told.talk in
    let sought = parts_asked L2cap (parts told.talk) (map pdus (links sides.B capture)) told.fall (asked_talks L2cap (links sides.B capture) orderly.one_channel) in
    let none = links-ask_none A asks marks now.upper so.lives (asks-nothing settings content) in
    let none_all = on_each (AllByRecursion AsksForNoChannel) spans list none.before none.last in
    let plain = nothing-given_up (policy settings true) lists told.talk so.talks_are (told.unfired granted'.untimed) (servers-ask_for_nothing settings content asks marks now.upper so.lives (servers_lend settings content)) in
    let only = servers-carry_alone L2cap settings content asks told.talk now.upper so (asks-nothing settings content) sought in
    let last_told : (run_of (policy settings true) list).value.events ≡ [] = ap (λ (v : Channels). v.events) (sym so.lives.channels_run) ∙ so.lives.all_told in
    let events = on_each (λ (l : List Occurrence). (run_of (policy settings true) l).value.events ≡ []) spans list so.lives.spans_told last_told in
    let here = links sides.B capture in
    let said = said_of (AreAnswered settings party) tt settings lists (parts told.talk) (map pdus here) so.talks_are told.fall (on_links (AreAnswered settings party) here orderly.answered) plain in
    let reads = parted (ReadLink settings) spans list (reads_of settings lists (all_of settings lists lives.uttered said only none_all events)) in
    let timely = subst (AreTimely false) (sym so.lives.marks_are) so.timely in
    let feeds = so.lives.feeds in
    let direct = all-direct settings content spans list feeds A.first now.upper.profile lives.fed.fed refl (all-plain settings spans reads.before) (plain_at settings list reads.last) in
    let turns = all-turns settings content spans list feeds A.first now.upper.profile lives.fed.fed refl timely reads.before reads.last 0 in
    let follow = all-follow settings content spans list feeds A.first now.upper.profile lives.fed.fed timely reads.before reads.last in
    let heard = none-ignored settings before (served_from settings content A.first feeds) (serve_all AllGranted settings content feeds A.first (all_granted feeds lives.given) direct) turns.0 follow in
    let carry = all-carry settings spans list reads.before reads.last timely (turns.1 heard.1) in
    let served = all_served L2cap settings lists (parts told.talk) so.talks_are none_all sought in
    let read = hosts_read_over_links settings content party asks told.talk now.upper so (states_frame settings true sides.B) (ap (λ (t : Transport). own_maximum t settings) transport) direct carry.carried carry.carries served in
    hosts_gain settings before asks marks now.upper so.lives heard.0
    ∙ ap (λ (l : List Object). Some (before ++ l)) (read ∙ (all_spell party (parts told.talk) (map pdus (links sides.B capture)) told.fall served ∙ link_talks party (links sides.B capture)))
