-- A host lives through what it was told and said with what its ports gave it, and where its timer never fires it gives nothing up.
use Rattle.std.proofs.Common.{ℕ, Bool, true, false, cond, eqb, List, [], ◌∷◌, ◌++◌, map, filter_map, drop, fold, Option, Some, None, refl, sym, subst, if◌then◌else◌}
use Rattle.std.specs.Prelude.{option_map, option_to_list}
use Rattle.std.specs.List.{AllByRecursion, AllZip, flat_map}
use Rattle.request_laws.specs.acl_fragments.specs.Pieces.{channel_of}
use Rattle.request_laws.specs.l2cap_signal.specs.Commands.{Command}
use Rattle.request_laws.specs.l2cap_signal.specs.Reading.{Answer as Read, answers}
use Rattle.request_laws.specs.link_talk.specs.Sayings as sayings
use Rattle.request_laws.specs.link_talk.specs.Sayings.{Saying, Carried}
use Rattle.request_laws.specs.capture.specs.declared.flow.Flow.TheVariants.{Into}
use Rattle.request_laws.specs.channel_model.specs.Carrying.{takes}
use Rattle.request_laws.specs.channel_model.specs.Giving.{Given as GivenPdu, Signal, Whole, Framed, next_given}
use Rattle.request_laws.specs.channel_model.specs.Hearing.{hears_command}
use Rattle.request_laws.specs.channel_model.specs.Following.{can_say}
use Rattle.request_laws.specs.channel_model.specs.Calls.{carrier_at}
use Rattle.request_laws.specs.channel_model.specs.Changing.{held_at}
use Rattle.request_laws.specs.channel_model.specs.Policies.{Policy}
use Rattle.request_laws.specs.channel_model.specs.Value.{Channels}
use Rattle.request_laws.specs.channel_laws.specs.Frames.{AreUttered}
use Rattle.request_laws.specs.channel_laws.specs.OwnTalk.{spoken, exchanged, reply_to, asked_between, said_with, said_with_all}
use Rattle.request_laws.specs.channel_laws.specs.Runs.{Occurrence, Comes, Connects, AsksFeatures, Disconnects, Sends, Gives, Fires, Tells, peer_at, said_as, said_in, Run, new_link, run_on, run_of}
use Rattle.request_laws.specs.world_model.specs.Machines.{News, Linked, Failed, Heard, TimerFired, Cancelled, Opening}
use Rattle.request_laws.specs.world_model.specs.Talks.{Talk, Told, Said, Unsent, Met, Done}
use Rattle.request_laws.specs.host_model.specs.Circumstances.{Circumstance}
use Rattle.request_laws.specs.host_model.specs.Hosts.{Host, first_host}
use Rattle.request_laws.specs.host_model.specs.Machines.{upper}
use Rattle.request_laws.specs.host_model.specs.Profiles.{Profile}
use Rattle.request_laws.specs.host_laws.specs.Acts.{from_news}
use Rattle.request_laws.specs.host_laws.specs.Calls.{Asks, outer}
use Rattle.request_laws.specs.host_laws.specs.Fed.{TalksFed}
use Rattle.request_laws.specs.host_laws.specs.Gifts.{gifts_of}
use Rattle.request_laws.specs.host_laws.specs.Keeping.{AsksForNothing, GivesNothingUp}
use Rattle.request_laws.specs.host_laws.specs.Lives.{on_links}
use Rattle.request_laws.specs.host_laws.specs.OverLinks.{turns_link, parts_from, parts, talk_marks, talk_outer, OverLinks, AreGentleUp, IsTalkOf}
use Rattle.request_laws.specs.host_laws.proofs.Forgoing.{AllSpoken, both_spoken, asked_spoken, carrier_spoken, all_passed}
use Rattle.request_laws.specs.pair_laws.proofs.Pairing.{all_utter}
use Rattle.unit_laws.specs.Laws.{IsUnfired}
use Rattle.unit_laws.proofs.Calming.{AreGiven, lives-calmly}

-- ---- with what its ports gave it

-- it lives through its talk, utters what it says, and what its profile was given is so
pub record LivesGiven {P : Type 0} (A : Profile P) (asks : Asks A) (G : List Circumstance → Type 0) (talk : List Talk) (now : Host P) : Type 0 where
  pub fed : TalksFed A asks talk now
  pub uttered : AllByRecursion (AreUttered A.policy) (on_links A asks (flat_map talk_marks talk) now fed.so.lives)
  pub given : AllByRecursion G (gifts_of fed.so.lives.feeds)

pub lives-given : {P : Type 0} (A : Profile P) (asks : Asks A) (G : List Circumstance → Type 0) (talk : List Talk) (now : Host P) (over : OverLinks (upper A) talk now) → AreGentleUp A false over.acts (first_host A) → AreGiven A asks G over.acts → LivesGiven A asks G talk now
lives-given A asks G talk now over gentle all =
    let lives = lives-calmly A asks G talk now over gentle all in
    record { fed = lives.fed; uttered = all_utter A.policy (on_links A asks (flat_map talk_marks talk) now lives.fed.so.lives) lives.calm; given = lives.given }

-- ---- a host whose timer never fires gives nothing up

abbrev pub FiresNot : Occurrence → Type 0
FiresNot (Comes pdu) = Unit {0}
FiresNot (Connects psm) = Unit {0}
FiresNot AsksFeatures = Unit {0}
FiresNot (Disconnects own) = Unit {0}
FiresNot (Sends own sdu) = Unit {0}
FiresNot (Gives pdu) = Unit {0}
FiresNot Fires = ⊥
FiresNot Tells = Unit {0}

command_spoken : (command : Option Command) → AllSpoken (map spoken (option_to_list command))
command_spoken None = tt
command_spoken (Some command) = (refl, tt)

if_spoken : (b : Bool) (xs ys : List Saying) → AllSpoken xs → AllSpoken ys → AllSpoken (cond b xs ys)
if_spoken true xs ys one other = one
if_spoken false xs ys one other = other

with_all_spoken : (policy : Policy) (list : List Read) (v : Channels) → AllSpoken (said_with_all policy list v)
with_all_spoken policy [] v = tt
with_all_spoken policy (one ∷ list) v =
    let w : Channels = hears_command policy one v in
    let reply = reply_to policy one v in
    both_spoken (said_with policy one v) (said_with_all policy list w)
    (both_spoken (exchanged one reply v) (asked_between v w) (if_spoken (can_say (option_map (λ (c : Command). c.content) reply) v) (sayings.Command Into one ∷ map spoken (option_to_list reply)) [] (refl, command_spoken reply) tt) (asked_spoken v w)) (with_all_spoken policy list w)

given_spoken : (given : Option GivenPdu) (pdu : List ℕ) → AllSpoken (said_as given pdu)
given_spoken None pdu = tt
given_spoken (Some (Signal command)) pdu = tt
given_spoken (Some (Whole peer sdu)) pdu = tt
given_spoken (Some (Framed peer frame)) pdu = (refl, tt)

one_spoken : (policy : Policy) (one : Occurrence) (v : Channels) → FiresNot one → AsksForNothing one → AllSpoken (said_in policy one v)
one_spoken policy (Comes pdu) v still asks =
    let w : Channels = takes (channel_of pdu) pdu v in
    if_spoken (eqb (channel_of pdu) 0x0001) (said_with_all policy (answers (drop 4 pdu)) v) (Carried Into pdu ∷ asked_between v w) (with_all_spoken policy (answers (drop 4 pdu)) v) (refl, asked_spoken v w)
one_spoken policy (Connects psm) v still asks = absurd asks
one_spoken policy AsksFeatures v still asks = absurd asks
one_spoken policy (Disconnects own) v still asks = absurd asks
one_spoken policy (Sends own sdu) v still asks = carrier_spoken (carrier_at own v) (peer_at (held_at own v)) sdu
one_spoken policy (Gives pdu) v still asks = given_spoken (next_given v) pdu
one_spoken policy Fires v still asks = absurd still
one_spoken policy Tells v still asks = tt

run_spoken : (policy : Policy) (list : List Occurrence) (run : Run) → AllByRecursion FiresNot list → AllByRecursion AsksForNothing list → AllSpoken run.said → AllSpoken (fold (run_on policy) run list).said
run_spoken policy [] run still asks before = before
run_spoken policy (one ∷ list) run still asks before =
    run_spoken policy list (run_on policy run one) still.1 asks.1 (both_spoken run.said (said_in policy one run.value) before (one_spoken policy one run.value still.0 asks.0))

pub nothing-up : (policy : Policy) (list : List Occurrence) → AllByRecursion FiresNot list → AllByRecursion AsksForNothing list → GivesNothingUp policy list
nothing-up policy list still asks = all_passed (run_of policy list).said (run_spoken policy list new_link still asks tt)

-- ---- as its talk says

outer_still : (list : List Occurrence) → AllByRecursion FiresNot (filter_map outer list) → AllByRecursion FiresNot list
outer_still [] still = tt
outer_still (Comes pdu ∷ list) still = (tt, outer_still list still.1)
outer_still (Connects psm ∷ list) still = (tt, outer_still list still)
outer_still (AsksFeatures ∷ list) still = (tt, outer_still list still)
outer_still (Disconnects own ∷ list) still = (tt, outer_still list still)
outer_still (Sends own sdu ∷ list) still = (tt, outer_still list still)
outer_still (Gives pdu ∷ list) still = (tt, outer_still list still.1)
outer_still (Fires ∷ list) still = absurd still.0
outer_still (Tells ∷ list) still = (tt, outer_still list still)

news_still : (news : News) → (IsUnfired (Told news)) → AllByRecursion FiresNot (from_news news)
news_still (Linked event) still = tt
news_still (Failed status) still = tt
news_still (Heard pdu) still = (tt, tt)
news_still TimerFired still = absurd still
news_still Cancelled still = tt
news_still (Opening name) still = tt

talk_still : (one : Talk) → IsUnfired one → AllByRecursion FiresNot (talk_outer one)
talk_still (Told news) still = news_still news still
talk_still (Said pdu) still = (tt, tt)
talk_still (Unsent pdu) still = (tt, tt)
talk_still (Met fate checked) still = tt
talk_still (Done outcome) still = tt

both_still : {X : Type 0} (Q : X → Type 0) (xs ys : List X) → AllByRecursion Q xs → AllByRecursion Q ys → AllByRecursion Q (xs ++ ys)
both_still Q [] ys one two = two
both_still Q (x ∷ xs) ys one two = (one.0, both_still Q xs ys one.1 two)

part_still : (part : List Talk) → AllByRecursion IsUnfired part → AllByRecursion FiresNot (flat_map talk_outer part)
part_still [] still = tt
part_still (one ∷ part) still = both_still FiresNot (talk_outer one) (flat_map talk_outer part) (talk_still one still.0) (part_still part still.1)

if_still : (turns : Bool) (xs ys : List (List Talk)) → AllByRecursion (AllByRecursion IsUnfired) xs → AllByRecursion (AllByRecursion IsUnfired) ys → AllByRecursion (AllByRecursion IsUnfired) (if turns then xs else ys)
if_still true xs ys one two = one
if_still false xs ys one two = two

pub parts_still : (part talk : List Talk) → AllByRecursion IsUnfired part → AllByRecursion IsUnfired talk → AllByRecursion (AllByRecursion IsUnfired) (parts_from part talk)
parts_still part [] before still = (before, tt)
parts_still part (one ∷ talk) before still =
    if_still (turns_link one) (part ∷ parts_from [] talk) (parts_from (part ++ one ∷ []) talk) (before, parts_still [] talk tt still.1) (parts_still (part ++ one ∷ []) talk (both_still IsUnfired part (one ∷ []) before (still.0, tt)) still.1)

pub zip_still : (policy : Policy) (lists : List (List Occurrence)) (talks : List (List Talk)) → AllZip (IsTalkOf policy) lists talks → AllByRecursion (AllByRecursion IsUnfired) talks → AllByRecursion (AllByRecursion FiresNot) lists
zip_still policy [] talks are still = tt
zip_still policy (list ∷ lists) [] are still = absurd are
zip_still policy (list ∷ lists) (part ∷ talks) are still = (outer_still list (subst (AllByRecursion FiresNot) (sym are.0.outer_is) (part_still part still.0)), zip_still policy lists talks are.1 still.1)

all_up : (policy : Policy) (lists : List (List Occurrence)) → AllByRecursion (AllByRecursion FiresNot) lists → AllByRecursion (AllByRecursion AsksForNothing) lists → AllByRecursion (GivesNothingUp policy) lists
all_up policy [] still asks = tt
all_up policy (list ∷ lists) still asks = (nothing-up policy list still.0 asks.0, all_up policy lists still.1 asks.1)

pub nothing-given_up : (policy : Policy) (lists : List (List Occurrence)) (talk : List Talk) → AllZip (IsTalkOf policy) lists (parts talk) → AllByRecursion IsUnfired talk → AllByRecursion (AllByRecursion AsksForNothing) lists → AllByRecursion (GivesNothingUp policy) lists
nothing-given_up policy lists talk are still asks = all_up policy lists (zip_still policy lists (parts talk) are (parts_still [] talk tt still)) asks
