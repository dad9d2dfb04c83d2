-- A link comes up for a push that has just begun.
use Rattle.std.proofs.Common.{◌≡◌, ℕ, Bool, true, false, cond, ◌==◌, List, [], ◌∷◌, ◌++◌, map, Option, Some, None, Result, Ok, Err, refl, sym, ap, subst, ◌∙◌, append_assoc, append-nil}
use Rattle.std.proofs.lemmas.Bool.{cond-true, cond-false}
use Rattle.std.specs.List.{AllByRecursion}
use Rattle.std.proofs.lemmas.List.{map-append}
use Rattle.pair_laws.specs.bt_base.specs.declared.ports.PortFault.{PortFault}
use Rattle.pair_laws.specs.bt_base.specs.declared.ports.PortFault.TheVariants as fault
use Rattle.pair_laws.specs.bt_base.specs.declared.settings.Settings.{Settings}
use Rattle.pair_laws.specs.channel_model.specs.declared.event.ChannelEvent.{ChannelEvent}
use Rattle.pair_laws.specs.channel_model.specs.Value.{Channels, no_channels}
use Rattle.pair_laws.specs.channel_model.specs.Calls.{sends, waits}
use Rattle.pair_laws.specs.channel_laws.specs.Runs as channels
use Rattle.pair_laws.specs.push_terms.specs.declared.outcome.Outcome.{Outcome}
use Rattle.pair_laws.specs.push_terms.specs.declared.outcome.Outcome.TheVariants as outcomes
use Rattle.pair_laws.specs.push_model.specs.declared.course.Point.TheVariants.{Due, Asked}
use Rattle.pair_laws.specs.push_model.specs.declared.course.Stage.{Stage}
use Rattle.pair_laws.specs.push_model.specs.declared.course.Stage.TheVariants as stages
use Rattle.pair_laws.specs.push_model.specs.Client.{Client, begins, begun_by, with_object, may_cancel, ends, ends_by, in_order, at_once, stage_after}
use Rattle.pair_laws.specs.push_model.specs.Causes.{Ending, InOrder, AtOnce, ending_of}
use Rattle.pair_laws.specs.push_model.specs.Events as news
use Rattle.pair_laws.specs.push_model.specs.Events.{hears_news, is_linked, armed}
use Rattle.pair_laws.specs.push_model.specs.Laws as push
use Rattle.pair_laws.specs.push_model.specs.Laws.{Deed, Hears, Asks, Finishes, Cancels, all_done}
use Rattle.pair_laws.specs.push_model.specs.Responding.{is_object}
use Rattle.pair_laws.specs.push_model.specs.Server.{object_psm}
use Rattle.pair_laws.specs.push_model.specs.Steps.{Part, Step, Stepped, Wait, MakeLink, AskFeatures, OpenChannel, SendSdu, CloseChannel, BreakLink, Ended, NoMemory, steps, steps_at, tells_end}
use Rattle.pair_laws.specs.push_laws.specs.Carriage.{frames_of}
use Rattle.pair_laws.specs.push_laws.specs.Sending.{packets_through}
use Rattle.pair_laws.specs.world_model.specs.Machines.{LinkEvent, News, Linked, Up, Down, Failed, Heard, TimerFired, Cancelled, Opening}
use Rattle.pair_laws.specs.host_model.specs.Circumstances.{Circumstance}
use Rattle.pair_laws.specs.host_model.specs.Clients as profile
use Rattle.pair_laws.specs.host_model.specs.Clients.{ClientProfile, Bid, NoBid, Paging, is_paging, ended, after_end, after_call, client_profile, fitted}
use Rattle.pair_laws.specs.host_model.specs.Endpoints.{endpoint_of, takes_sdu}
use Rattle.pair_laws.specs.host_model.specs.Pdus.{sdu_of}
use Rattle.pair_laws.specs.host_model.specs.Shelves.{size_for, name_for, unused}
use Rattle.pair_laws.specs.host_laws.specs.Calls.{Asks as Asking, values_after}
use Rattle.pair_laws.specs.host_laws.specs.Fed.{next_happening, strand_feeds, woven_feeds, WovenFed}
use Rattle.pair_laws.specs.host_laws.specs.Feeds.{Feed, Gifts, Learns, Receives, Happens, Sent, Steps, tidings_by, fed, all_fed}
use Rattle.pair_laws.specs.host_laws.specs.Pushing.{Affair, Begins, Does, client_behind, end_asked, link_asked, then_ends, then_calls, pushed_with, pushed_from}
use Rattle.pair_laws.specs.host_laws.specs.Woven.{Strand, IsOnLink, Hearing, Giving, Firing, Telling, Gifting, Learning, Checking, Stepping, strand_list, strand_profile, woven_list, turned}
use Rattle.pair_laws.specs.host_laws.proofs.Pushing.{all_pushed}
use Rattle.request_laws.specs.Streams.{heard_on}
use Rattle.request_laws.specs.Twists.{all_deeds}
use Rattle.request_laws.proofs.Beginning.{client-both}
use Rattle.request_laws.proofs.Feeding.{all_both, all_ahead, Holds, FeedSo, feed_so}
use Rattle.request_laws.proofs.Timely.{HearsNothing}
use Rattle.request_laws.proofs.Silent.{IsSilent, AllSilent, BeginsPush}

-- ---- what a client does without a link

abbrev IsAside : Affair → Type 0
IsAside (Begins size name) = ⊥
IsAside (Does (Hears news.LinkUp)) = ⊥
IsAside (Does (Hears (news.Sdu psm octets))) = ⊥
IsAside (Does deed) = Unit {0}

aside_holds : Holds IsAside
aside_holds = record { asks = λ parts. tt; finishes = tt; cancels = tt; down = λ reason. tt; failed = λ status. tt; opened = λ psm mtu. tt; closed = λ psm cause. tt; told = tt; lost = tt; timer = tt }

abbrev Away : Stage → Type 0
Away stage = is_linked stage ≡ false

no_object : (stage : Stage) → Away stage → is_object stage ≡ false
no_object stages.Rest away = refl
no_object (stages.Link point) away = refl
no_object (stages.SearchChannel point) away = refl
no_object stages.Search away = refl
no_object (stages.SearchEnd point) away = refl
no_object (stages.Features point) away = refl
no_object (stages.ObjectChannel point) away = refl
no_object stages.Object away = away
no_object (stages.ObjectEnd point) away = refl
no_object (stages.LinkEnd point) away = refl
no_object stages.Over away = refl

not_away : {X : Type 0} → true ≡ false → X
not_away is = absurd (let f : true ≡ false = is in cc)

-- ---- it stays away

order_away : (stage : Stage) → Away stage → Away (in_order stage)
order_away stages.Rest away = refl
order_away (stages.Link Due) away = refl
order_away (stages.Link Asked) away = refl
order_away (stages.SearchChannel point) away = not_away away
order_away stages.Search away = not_away away
order_away (stages.SearchEnd point) away = not_away away
order_away (stages.Features point) away = not_away away
order_away (stages.ObjectChannel point) away = not_away away
order_away stages.Object away = not_away away
order_away (stages.ObjectEnd point) away = not_away away
order_away (stages.LinkEnd point) away = not_away away
order_away stages.Over away = refl

once_away : (stage : Stage) → Away stage → Away (at_once stage)
once_away stages.Rest away = refl
once_away (stages.Link Due) away = refl
once_away (stages.Link Asked) away = refl
once_away (stages.SearchChannel point) away = not_away away
once_away stages.Search away = not_away away
once_away (stages.SearchEnd point) away = not_away away
once_away (stages.Features point) away = not_away away
once_away (stages.ObjectChannel point) away = not_away away
once_away stages.Object away = not_away away
once_away (stages.ObjectEnd point) away = not_away away
once_away (stages.LinkEnd point) away = not_away away
once_away stages.Over away = refl

after_away : (ending : Ending) (stage : Stage) → Away stage → Away (stage_after ending stage)
after_away InOrder stage away = order_away stage away
after_away AtOnce stage away = once_away stage away

ends_away : (cause : Option Outcome) (o : Outcome) (client : Client) → Away client.stage → Away (ends_by cause o client).stage
ends_away None o client away = after_away (ending_of o) client.stage away
ends_away (Some earlier) o client away = once_away client.stage away

if_away : (test : Bool) (a b : Client) → Away a.stage → Away b.stage → Away (cond test a b).stage
if_away true a b x y = x
if_away false a b x y = y

over_away : (cause : Option Outcome) (o : Outcome) (client : Client) → Away (news.over_by cause o client).stage
over_away None o client = refl
over_away (Some earlier) o client = refl

opened_away : (stage : Stage) (psm mtu : ℕ) (client : Client) → Away stage → Away client.stage → Away (news.opened_at stage psm mtu client).stage
opened_away stages.Rest psm mtu client at away = away
opened_away (stages.Link point) psm mtu client at away = away
opened_away (stages.SearchChannel point) psm mtu client at away = not_away at
opened_away stages.Search psm mtu client at away = not_away at
opened_away (stages.SearchEnd point) psm mtu client at away = not_away at
opened_away (stages.Features point) psm mtu client at away = not_away at
opened_away (stages.ObjectChannel point) psm mtu client at away = not_away at
opened_away stages.Object psm mtu client at away = not_away at
opened_away (stages.ObjectEnd point) psm mtu client at away = not_away at
opened_away (stages.LinkEnd point) psm mtu client at away = not_away at
opened_away stages.Over psm mtu client at away = away

closed_away : (stage : Stage) (psm : ℕ) (cause : _) (client : Client) → Away stage → Away client.stage → Away (news.closed_at stage psm cause client).stage
closed_away stages.Rest psm cause client at away = away
closed_away (stages.Link point) psm cause client at away = away
closed_away (stages.SearchChannel point) psm cause client at away = not_away at
closed_away stages.Search psm cause client at away = not_away at
closed_away (stages.SearchEnd point) psm cause client at away = not_away at
closed_away (stages.Features point) psm cause client at away = not_away at
closed_away (stages.ObjectChannel point) psm cause client at away = not_away at
closed_away stages.Object psm cause client at away = not_away at
closed_away (stages.ObjectEnd point) psm cause client at away = not_away at
closed_away (stages.LinkEnd point) psm cause client at away = not_away at
closed_away stages.Over psm cause client at away = away

no_features : (stage : Stage) → Away stage → news.is_asking_features stage ≡ false
no_features stages.Rest away = refl
no_features (stages.Link point) away = refl
no_features (stages.SearchChannel point) away = refl
no_features stages.Search away = refl
no_features (stages.SearchEnd point) away = refl
no_features (stages.Features point) away = not_away away
no_features (stages.ObjectChannel point) away = refl
no_features stages.Object away = refl
no_features (stages.ObjectEnd point) away = refl
no_features (stages.LinkEnd point) away = refl
no_features stages.Over away = refl

stays_if : (test : Bool) (a b : Client) → test ≡ false → Away b.stage → Away (cond test a b).stage
stays_if test a b none away = subst (λ (c : Client). Away c.stage) (sym (cond-false test a b none)) away

news_away : (heard : news.News) (client : Client) → IsAside (Does (Hears heard)) → Away client.stage → Away (hears_news heard client).stage
news_away news.LinkUp client aside away = absurd aside
news_away (news.LinkDown reason) client aside away = if_away (is_linked client.stage) (news.over _ client) client (over_away client.cause _ client) away
news_away (news.LinkFailed status) client aside away = if_away (news.is_paging client.stage) (news.over _ client) client (over_away client.cause _ client) away
news_away (news.ChannelOpen psm mtu) client aside away = opened_away client.stage psm mtu client away away
news_away (news.ChannelClosed psm cause) client aside away = closed_away client.stage psm cause client away away
news_away (news.Sdu psm octets) client aside away = absurd aside
news_away news.FeaturesTold client aside away = stays_if (news.is_asking_features client.stage) (record client { stage = stages.ObjectChannel Due }) client (no_features client.stage away) away
news_away news.FeaturesLost client aside away = stays_if (news.is_asking_features client.stage) (ends outcomes.RetryLimit client) client (no_features client.stage away) away
news_away news.Timer client aside away =
    if_away _ _ client (if_away (client.left == 0) (ends outcomes.RetryLimit client) _ (ends_away client.cause outcomes.RetryLimit client away) away) away

steps_away : (stage : Stage) (client : Client) (parts : List Part) → Away stage → Away client.stage → Away (steps_at stage client parts).client.stage
steps_away stages.Rest client parts at away = away
steps_away (stages.Link Due) client parts at away = refl
steps_away (stages.Link Asked) client parts at away = away
steps_away (stages.SearchChannel point) client parts at away = not_away at
steps_away stages.Search client parts at away = not_away at
steps_away (stages.SearchEnd point) client parts at away = not_away at
steps_away (stages.Features point) client parts at away = not_away at
steps_away (stages.ObjectChannel point) client parts at away = not_away at
steps_away stages.Object client parts at away = not_away at
steps_away (stages.ObjectEnd point) client parts at away = not_away at
steps_away (stages.LinkEnd point) client parts at away = not_away at
steps_away stages.Over client parts at away = by client.cause
  where
    by : (cause : Option Outcome) → Away (tells_end cause client parts).client.stage
    by None = away
    by (Some outcome) = refl

either_step : (test : Bool) (a b : Stepped) → Away a.client.stage → Away b.client.stage → Away (cond test a b).client.stage
either_step true a b x y = x
either_step false a b x y = y

deed_away : (deed : Deed) (client : Client) → IsAside (Does deed) → Away client.stage → Away (push.done deed client).stage
deed_away (Hears heard) client aside away = news_away heard client aside away
deed_away (Asks parts) client aside away =
    either_step client.failed _ _ away (either_step client.given _ _ away (steps_away client.stage client parts away away))
deed_away Finishes client aside away = away
deed_away Cancels client aside away = if_away (may_cancel client) (ends outcomes.Cancelled client) client (ends_away client.cause outcomes.Cancelled client away) away

-- ---- and sends nothing

none_if : (psm : Bool) (sent : List (List ℕ)) → sent ≡ [] → cond psm sent [] ≡ []
none_if true sent none = none
none_if false sent none = refl

told_none : (carrier : ℕ) (heard : news.News) → IsAside (Does (Hears heard)) → heard_on carrier (Hears heard) ≡ []
told_none carrier news.LinkUp aside = absurd aside
told_none carrier (news.LinkDown reason) aside = refl
told_none carrier (news.LinkFailed status) aside = refl
told_none carrier (news.ChannelOpen psm mtu) aside = refl
told_none carrier (news.ChannelClosed psm cause) aside = refl
told_none carrier (news.Sdu psm octets) aside = absurd aside
told_none carrier news.FeaturesTold aside = refl
told_none carrier news.FeaturesLost aside = refl
told_none carrier news.Timer aside = refl

-- no frame is sent there
away_frames : (stage : Stage) (client : Client) (parts : List Part) → Away stage → frames_of (steps_at stage client parts).step ≡ []
away_frames stages.Rest client parts away = refl
away_frames (stages.Link Due) client parts away = refl
away_frames (stages.Link Asked) client parts away = refl
away_frames (stages.SearchChannel point) client parts away = cc
away_frames stages.Search client parts away = cc
away_frames (stages.SearchEnd point) client parts away = cc
away_frames (stages.Features point) client parts away = cc
away_frames (stages.ObjectChannel point) client parts away = cc
away_frames stages.Object client parts away = cc
away_frames (stages.ObjectEnd point) client parts away = cc
away_frames (stages.LinkEnd point) client parts away = cc
away_frames stages.Over client parts away = by client.cause
  where
    by : (cause : Option Outcome) → frames_of (tells_end cause client parts).step ≡ []
    by None = refl
    by (Some outcome) = refl

either_frames : (test : Bool) (a b : Stepped) → frames_of a.step ≡ [] → frames_of b.step ≡ [] → frames_of (cond test a b).step ≡ []
either_frames true a b x y = x
either_frames false a b x y = y

asks_frames : (client : Client) (parts : List Part) → Away client.stage → frames_of (steps client parts).step ≡ []
asks_frames client parts away = either_frames client.failed _ _ refl (either_frames client.given _ _ refl (away_frames client.stage client parts away))

deed_silent : (deed : Deed) (client : Client) → IsAside (Does deed) → Away client.stage → IsSilent deed client
deed_silent (Hears heard) client aside away = record { sent = none_if (client.psm == object_psm) [] refl; frames = refl; heard = λ carrier. told_none carrier heard aside }
deed_silent (Asks parts) client aside away = record {
  sent = none_if (client.psm == object_psm) _ (cond-false (is_object client.stage) (packets_through client.transport client parts) [] (no_object client.stage away));
  frames = asks_frames client parts away;
  heard = λ carrier. refl;
}
deed_silent Finishes client aside away = record { sent = none_if (client.psm == object_psm) [] refl; frames = refl; heard = λ carrier. refl }
deed_silent Cancels client aside away = record { sent = none_if (client.psm == object_psm) [] refl; frames = refl; heard = λ carrier. refl }

-- ---- all of that

record Aside (affairs : List Affair) (client : Client) : Type 0 where
  does : affairs ≡ map Does (all_deeds affairs)
  silent : AllSilent (all_deeds affairs) client
  away : Away (all_done (all_deeds affairs) client).stage

all_aside : (affairs : List Affair) (client : Client) → AllByRecursion IsAside affairs → Away client.stage → Aside affairs client
all_aside [] client aside away = record { does = refl; silent = tt; away = away }
all_aside (Begins size name ∷ affairs) client aside away = absurd aside.0
all_aside (Does deed ∷ affairs) client aside away =
    let rest = all_aside affairs (push.done deed client) aside.1 (deed_away deed client aside.0 away) in
    record { does = ap (λ (l : List Affair). Does deed ∷ l) rest.does; silent = (deed_silent deed client aside.0 away, rest.silent); away = rest.away }

silent_both : (xs ys : List Deed) (client : Client) → AllSilent xs client → AllSilent ys (all_done xs client) → AllSilent (xs ++ ys) client
silent_both [] ys client one two = two
silent_both (x ∷ xs) ys client one two = (one.0, silent_both xs ys (push.done x client) one.1 two)

done_both : (xs ys : List Deed) (client : Client) → all_done (xs ++ ys) client ≡ all_done ys (all_done xs client)
done_both [] ys client = refl
done_both (x ∷ xs) ys client = done_both xs ys (push.done x client)

-- ---- a push that begins and asks for a link

-- a push began, and the client has no link since
record Begun (affairs : List Affair) (first now : Client) : Type 0 where
  begins : BeginsPush affairs first
  now_is : now ≡ all_done begins.deeds (with_object begins.name begins.size (client_behind begins.earlier first))
  away : Away now.stage

goes_on : (affairs more : List Affair) (first now after : Client) → Begun affairs first now → AllByRecursion IsAside more → after ≡ client_behind more now → Begun (affairs ++ more) first after
goes_on affairs more first now after begun aside is =
    let b = begun.begins in
    let old = with_object b.name b.size (client_behind b.earlier first) in
    let rest = all_aside more now aside begun.away in
    let deeds = all_deeds more in
    let after_is : after ≡ all_done deeds now = is ∙ (ap (λ (l : List Affair). client_behind l now) rest.does ∙ does_all deeds now) in
    record {
      begins = record {
        earlier = b.earlier;
        size = b.size;
        name = b.name;
        deeds = b.deeds ++ deeds;
        affairs_are = ap (λ (l : List Affair). l ++ more) b.affairs_are
            ∙ (append_assoc b.earlier (Begins (Ok b.size) b.name ∷ map Does b.deeds) more
            ∙ ap (λ (l : List Affair). b.earlier ++ Begins (Ok b.size) b.name ∷ l) (ap (λ (l : List Affair). map Does b.deeds ++ l) rest.does ∙ sym (map-append Does b.deeds deeds)));
        able = b.able;
        silent = silent_both b.deeds deeds old b.silent (subst (AllSilent deeds) begun.now_is rest.silent);
      };
      now_is = after_is ∙ (ap (all_done deeds) begun.now_is ∙ sym (done_both b.deeds deeds old));
      away = subst (λ (c : Client). Away c.stage) (sym after_is) rest.away;
    }
  where
    does_all : (deeds : List Deed) (client : Client) → client_behind (map Does deeds) client ≡ all_done deeds client
    does_all [] client = refl
    does_all (deed ∷ deeds) client = does_all deeds (push.done deed client)

-- ---- what a step gives

failed_steps : (client : Client) (parts : List Part) → client.failed ≡ true → steps client parts ≡ (let after : Stepped = record { client = client; step = NoMemory; left = parts } in after)
failed_steps client parts is = cond-true client.failed _ _ is

free_steps : (client : Client) (parts : List Part) → client.failed ≡ false → client.given ≡ false → steps client parts ≡ steps_at client.stage client parts
free_steps client parts able free = cond-false client.failed _ _ able ∙ cond-false client.given _ _ free

-- whether a link is asked for
abbrev asks_link : Step → Bool
asks_link Wait = false
asks_link MakeLink = true
asks_link AskFeatures = false
asks_link (OpenChannel psm) = false
asks_link (SendSdu psm payload) = false
asks_link (CloseChannel psm) = false
asks_link BreakLink = false
asks_link (Ended outcome) = false
asks_link NoMemory = false

bid_of : (step : Step) (client : Client) (p : ClientProfile) → is_paging p.bid ≡ false → is_paging (after_call step client p).bid ≡ true → asks_link step ≡ true
bid_of Wait client p none is = absurd (let f : false ≡ true = sym none ∙ is in cc)
bid_of MakeLink client p none is = refl
bid_of AskFeatures client p none is = absurd (let f : false ≡ true = sym none ∙ is in cc)
bid_of (OpenChannel psm) client p none is = absurd (let f : false ≡ true = sym none ∙ is in cc)
bid_of (SendSdu psm payload) client p none is = absurd (let f : false ≡ true = sym none ∙ is in cc)
bid_of (CloseChannel psm) client p none is = absurd (let f : false ≡ true = sym none ∙ is in cc)
bid_of BreakLink client p none is = absurd (let f : false ≡ true = sym none ∙ is in cc)
bid_of (Ended outcome) client p none is = absurd (let f : false ≡ true = sym none ∙ is in cc)
bid_of NoMemory client p none is = absurd (let f : false ≡ true = sym none ∙ is in cc)

-- a client that asks for a link as a push begins has begun it
record Opens (size : Result ℕ PortFault) (name : List ℕ) (client : Client) : Type 0 where
  count : ℕ
  size_is : size ≡ Ok count
  able : client.failed ≡ false

never_asks : {X : Type 0} → false ≡ true → X
never_asks is = absurd (let f : false ≡ true = is in cc)

no_link : (client : Client) → client.failed ≡ true → asks_link (steps (ended client) []).step ≡ false
no_link client is =
    let same : ended client ≡ client = ap (λ (o : Stepped). after_end o.step o.client client) (failed_steps client [] is) in
    ap (λ (c : Client). asks_link (steps c []).step) same ∙ ap (λ (o : Stepped). asks_link o.step) (failed_steps client [] is)

opens_by : (failed : Bool) (size : Result ℕ PortFault) (name : List ℕ) (client : Client) → client.failed ≡ failed → asks_link (steps (ended (cond failed client (begun_by size name client))) []).step ≡ true → Opens size name client
opens_by true size name client is asks = never_asks (sym (no_link client is) ∙ asks)
opens_by false (Ok count) name client is asks = record { count = count; size_is = refl; able = is }
opens_by false (Err fault.NoMemory) name client is asks = never_asks asks
opens_by false (Err fault.Failed) name client is asks =
    let over : Client = begun_by (Err fault.Failed) name client in
    let rested : Client = record over { stage = stages.Rest } in
    let one : steps over [] ≡ (let after : Stepped = record { client = rested; step = Ended outcomes.ShelfFault; left = [] } in after) = free_steps over [] is refl in
    let same : ended over ≡ rested = ap (λ (o : Stepped). after_end o.step o.client over) one in
    never_asks (sym (ap (λ (c : Client). asks_link (steps c []).step) same ∙ ap (λ (o : Stepped). asks_link o.step) (free_steps rested [] is refl)) ∙ asks)

-- then all that it does at once is to ask for it
opening_aside : (count : ℕ) (name : List ℕ) (client : Client) → client.failed ≡ false → (let begun = with_object name count client in then_ends begun ++ then_calls (ended begun) ≡ Does (Asks []) ∷ Does Finishes ∷ [])
opening_aside count name client able =
    let begun = with_object name count client in
    let one = free_steps begun [] able refl in
    let same : ended begun ≡ begun = ap (λ (o : Stepped). after_end o.step o.client begun) one in
    ap (λ (l : List Affair). l ++ then_calls (ended begun)) (ap (λ (o : Stepped). end_asked o.step) one) ∙ (ap then_calls same ∙ ap (λ (o : Stepped). link_asked o.step) one)

-- ---- one thing that its profile goes through

abbrev pub IsBetween : Feed → Type 0
IsBetween (Gifts circumstances) = Unit {0}
IsBetween (Learns circumstances (Linked event)) = ⊥
IsBetween (Learns circumstances heard) = Unit {0}
IsBetween (Receives own psm sdu) = ⊥
IsBetween (Happens event v) = Unit {0}
IsBetween (Sent v) = Unit {0}
IsBetween (Steps v) = Unit {0}

abbrev MayBe : List Affair → Client → ClientProfile → Type 0
MayBe affairs first p = is_paging p.bid ≡ true → Begun affairs first p.client

module _ (settings : Settings) where
  now_of : (p : ClientProfile) (feed : Feed) → (fed (client_profile settings) p feed).client ≡ client_behind (pushed_with p feed) p.client
  now_of p feed = all_pushed settings (feed ∷ []) p ∙ client-both (pushed_with p feed) [] p.client

  -- where it is no push that begins
  aside_goes : (affairs : List Affair) (first : Client) (p : ClientProfile) (feed : Feed) → FeedSo IsAside feed → (is_paging (fed (client_profile settings) p feed).bid ≡ true → is_paging p.bid ≡ true) → MayBe affairs first p
      → MayBe (affairs ++ pushed_with p feed) first (fed (client_profile settings) p feed)
  aside_goes affairs first p feed aside bid may pages =
      let begun = may (bid pages) in
      goes_on affairs (pushed_with p feed) first p.client (fed (client_profile settings) p feed).client begun (feed_so IsAside aside_holds p feed aside) (now_of p feed)

  sent_bid : (own : Option ℕ) (v : Channels) (p : ClientProfile) → is_paging (profile.sent_on own v p).bid ≡ true → is_paging p.bid ≡ true
  sent_bid None v p is = is
  sent_bid (Some own) v p is = by (waits own v) is
    where
      by : (waiting : Bool) → is_paging (cond waiting p (profile.done (record p { submitted = None }))).bid ≡ true → is_paging p.bid ≡ true
      by true is = is
      by false is = is

  submits_bid : (own : Option ℕ) (payload : _) (v : Channels) (p : ClientProfile) → is_paging (profile.submits own payload v p).profile.bid ≡ true → is_paging p.bid ≡ true
  submits_bid None payload v p is = is
  submits_bid (Some own) payload v p is = by (takes_sdu own (sdu_of payload) v) is
    where
      by : (taken : Bool) → is_paging (cond taken (profile.waiting (sends own (sdu_of payload) v) (record p { submitted = Some own })) (profile.waiting v p)).profile.bid ≡ true → is_paging p.bid ≡ true
      by true is = is
      by false is = is

  steps_bid : (step : Step) (v : Channels) (after before : ClientProfile) → is_paging after.bid ≡ is_paging before.bid → is_paging (profile.takes step v after before).profile.bid ≡ true → is_paging before.bid ≡ true
  steps_bid Wait v after before same is = sym same ∙ is
  steps_bid MakeLink v after before same is = is
  steps_bid AskFeatures v after before same is = sym same ∙ is
  steps_bid (OpenChannel psm) v after before same is = sym same ∙ is
  steps_bid (SendSdu psm payload) v after before same is = sym same ∙ submits_bid (endpoint_of psm after.endpoints) payload v after is
  steps_bid (CloseChannel psm) v after before same is = sym same ∙ is
  steps_bid BreakLink v after before same is = never_asks is
  steps_bid (Ended outcome) v after before same is = sym same ∙ is
  steps_bid NoMemory v after before same is = sym same ∙ is

  -- a push begins
  opening_goes : (affairs : List Affair) (first : Client) (p : ClientProfile) (circumstances : List Circumstance) (name : List ℕ) → p.client ≡ client_behind affairs first
      → MayBe (affairs ++ pushed_with p (Learns circumstances (Opening name))) first (fed (client_profile settings) p (Learns circumstances (Opening name)))
  opening_goes affairs first p circumstances name is pages =
      let feed = Learns circumstances (Opening name) in
      let begun : Client = begins (size_for circumstances name) (name_for name) p.client in
      let quiet : ClientProfile = record p { client = ended begun; submitted = None; bid = NoBid } in
      let asks = bid_of (steps (ended begun) []).step (steps (ended begun) []).client quiet refl pages in
      let opens = opens_by p.client.failed (size_for circumstances name) (name_for name) p.client refl asks in
      by opens
    where
      by : Opens (size_for circumstances name) (name_for name) p.client → Begun (affairs ++ pushed_with p (Learns circumstances (Opening name))) first (fed (client_profile settings) p (Learns circumstances (Opening name))).client
      by opens =
          let called = name_for name in
          let count = opens.count in
          let old = p.client in
          let begun = with_object called count old in
          let begun_is : begins (size_for circumstances name) called old ≡ begun = cond-false old.failed old (begun_by (size_for circumstances name) called old) opens.able ∙ ap (λ (s : Result ℕ PortFault). begun_by s called old) opens.size_is in
          let behind = Does (Asks []) ∷ Does Finishes ∷ [] in
          let pushed_is : pushed_with p (Learns circumstances (Opening name)) ≡ Begins (Ok count) called ∷ behind =
          ap (λ (s : Result ℕ PortFault). Begins s called ∷ (then_ends (begins (size_for circumstances name) called old) ++ then_calls (ended (begins (size_for circumstances name) called old)))) opens.size_is
          ∙ (ap (λ (c : Client). Begins (Ok count) called ∷ (then_ends c ++ then_calls (ended c))) begun_is ∙ ap (λ (l : List Affair). Begins (Ok count) called ∷ l) (opening_aside count called old opens.able)) in
          let rest = all_aside behind begun (tt, (tt, tt)) refl in
          let able : (client_behind affairs first).failed ≡ false = subst (λ (c : Client). c.failed ≡ false) is opens.able in
          let now_is : (fed (client_profile settings) p (Learns circumstances (Opening name))).client ≡ all_done (Asks [] ∷ Finishes ∷ []) begun =
          now_of p (Learns circumstances (Opening name)) ∙ (ap (λ (l : List Affair). client_behind l old) pushed_is ∙ ap (λ (c : Client). client_behind behind c) (cond-false old.failed old begun opens.able)) in
          record {
            begins = record {
              earlier = affairs;
              size = count;
              name = called;
              deeds = Asks [] ∷ Finishes ∷ [];
              affairs_are = ap (λ (l : List Affair). affairs ++ l) pushed_is;
              able = able;
              silent = subst (λ (c : Client). AllSilent (Asks [] ∷ Finishes ∷ []) (with_object called count c)) is rest.silent;
            };
            now_is = now_is ∙ ap (λ (c : Client). all_done (Asks [] ∷ Finishes ∷ []) (with_object called count c)) is;
            away = subst (λ (c : Client). Away c.stage) (sym now_is) rest.away;
          }

  feed_goes : (affairs : List Affair) (first : Client) (p : ClientProfile) (feed : Feed) → IsBetween feed → p.client ≡ client_behind affairs first → MayBe affairs first p → MayBe (affairs ++ pushed_with p feed) first (fed (client_profile settings) p feed)
  feed_goes affairs first p (Gifts circumstances) so is may = aside_goes affairs first p (Gifts circumstances) tt (λ pages. pages) may
  feed_goes affairs first p (Learns circumstances (Linked event)) so is may = absurd so
  feed_goes affairs first p (Learns circumstances (Failed status)) so is may = λ pages. never_asks pages
  feed_goes affairs first p (Learns circumstances (Heard pdu)) so is may = aside_goes affairs first p (Learns circumstances (Heard pdu)) tt (λ pages. pages) may
  feed_goes affairs first p (Learns circumstances TimerFired) so is may = aside_goes affairs first p (Learns circumstances TimerFired) tt (λ pages. pages) may
  feed_goes affairs first p (Learns circumstances Cancelled) so is may = aside_goes affairs first p (Learns circumstances Cancelled) tt (λ pages. pages) may
  feed_goes affairs first p (Learns circumstances (Opening name)) so is may = opening_goes affairs first p circumstances name is
  feed_goes affairs first p (Receives own psm sdu) so is may = absurd so
  feed_goes affairs first p (Happens event v) so is may = aside_goes affairs first p (Happens event v) tt (λ pages. pages) may
  feed_goes affairs first p (Sent v) so is may = aside_goes affairs first p (Sent v) tt (sent_bid p.submitted v p) may
  feed_goes affairs first p (Steps v) so is may =
      let one = steps p.client (fitted p) in aside_goes affairs first p (Steps v) tt (steps_bid one.step v (record p { client = one.client; parts = unused one.left p.parts }) p refl) may

  feeds_go : (affairs : List Affair) (first : Client) (p : ClientProfile) (feeds : List Feed) → AllByRecursion IsBetween feeds → p.client ≡ client_behind affairs first → MayBe affairs first p
      → MayBe (affairs ++ pushed_from settings p feeds) first (all_fed (client_profile settings) p feeds)
  feeds_go affairs first p [] so is may = subst (λ (l : List Affair). MayBe l first p) (sym (append-nil affairs)) may
  feeds_go affairs first p (feed ∷ feeds) so is may =
      let q = fed (client_profile settings) p feed in
      let now : q.client ≡ client_behind (affairs ++ pushed_with p feed) first = now_of p feed ∙ (ap (client_behind (pushed_with p feed)) is ∙ sym (client-both affairs (pushed_with p feed) first)) in
      subst (λ (l : List Affair). MayBe l first (all_fed (client_profile settings) q feeds)) (append_assoc affairs (pushed_with p feed) (pushed_from settings q feeds))
      (feeds_go (affairs ++ pushed_with p feed) first q feeds so.1 now (feed_goes affairs first p feed so.0 is may))

  -- where no link is asked for at first, and one is at the end, a push began between
  pub begins_between : (p : ClientProfile) (feeds : List Feed) → AllByRecursion IsBetween feeds → is_paging p.bid ≡ false → is_paging (all_fed (client_profile settings) p feeds).bid ≡ true → BeginsPush (pushed_from settings p feeds) p.client
  begins_between p feeds so none pages = (feeds_go [] p.client p feeds so refl (λ is. never_asks (sym none ∙ is)) pages).begins

  -- ---- where nothing comes in

  learned_between : (heard : News) (circumstances : List Circumstance) → tidings_by heard ≡ [] → IsBetween (Learns circumstances heard)
  learned_between (Linked event) circumstances none = cc
  learned_between (Failed status) circumstances none = tt
  learned_between (Heard pdu) circumstances none = tt
  learned_between TimerFired circumstances none = tt
  learned_between Cancelled circumstances none = tt
  learned_between (Opening name) circumstances none = tt

  next_between : (events : List ChannelEvent) (v : Channels) → AllByRecursion IsBetween (next_happening events v)
  next_between [] v = tt
  next_between (event ∷ events) v = (tt, tt)

  strand_between : (asks : Asking (client_profile settings)) (strand : Strand) (v : Channels) (p : ClientProfile) → IsOnLink strand → AllByRecursion HearsNothing (strand_list (client_profile settings) asks strand v p) → AllByRecursion IsBetween (strand_feeds strand v)
  strand_between asks (Hearing pdu) v p on deaf = absurd deaf.0
  strand_between asks (Giving pdu) v p on deaf = tt
  strand_between asks Firing v p on deaf = tt
  strand_between asks Telling v p on deaf = next_between v.events v
  strand_between asks (Gifting circumstances) v p on deaf = (tt, tt)
  strand_between asks (Learning circumstances heard) v p on deaf = (learned_between heard circumstances on, tt)
  strand_between asks Checking v p on deaf = (tt, tt)
  strand_between asks Stepping v p on deaf = (tt, tt)

  weave_between : (asks : Asking (client_profile settings)) (weave : List Strand) (v : Channels) (p : ClientProfile) → AllByRecursion IsOnLink weave → AllByRecursion HearsNothing (woven_list (client_profile settings) asks weave v p)
      → AllByRecursion IsBetween (woven_feeds (client_profile settings) asks weave v p)
  weave_between asks [] v p on deaf = tt
  weave_between asks (strand ∷ weave) v p on deaf =
      let A = client_profile settings in
      let here = strand_list A asks strand v p in
      let w = values_after A.policy v here in
      let q = strand_profile A strand v p in
      let cut = all_ahead HearsNothing here (woven_list A asks weave w q) deaf in
      all_both IsBetween (strand_feeds strand v) (woven_feeds A asks weave w q) (strand_between asks strand v p on.0 cut.0) (weave_between asks weave w q on.1 cut.1)

  pub fed_between : (asks : Asking (client_profile settings)) (list : List channels.Occurrence) (feeds : List Feed) (first last : ClientProfile) → WovenFed (client_profile settings) asks list feeds first last → AllByRecursion HearsNothing list → AllByRecursion IsBetween feeds
  fed_between asks list feeds first last so deaf =
      subst (AllByRecursion IsBetween) (sym so.feeds_are) (weave_between asks so.woven.weave no_channels first so.woven.on_link (subst (AllByRecursion HearsNothing) so.woven.list_is deaf))

  -- behind a turn of its link it asks for none
  pub turned_free : (circumstances : List Circumstance) (event : LinkEvent) (v : Channels) (p : ClientProfile) → is_paging (turned (client_profile settings) circumstances event v p).bid ≡ false
  turned_free circumstances Up v p = refl
  turned_free circumstances (Down reason) v p = refl
