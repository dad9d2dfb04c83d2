-- Where at most one channel of objects is there at a time they come one behind the other, as it is told.
use Rattle.std.proofs.Common.{◌≡◌, ◌≤◌, ℕ, Bool, true, false, cond, eqb, ◌&&◌, ◌||◌, List, [], ◌∷◌, ◌++◌, length, take, drop, map, filter_map, Option, Some, None, inl, inr, refl, sym, ap, ap₂, subst, ◌∙◌, append_assoc, append-nil, arith}
use Rattle.std.specs.Prelude.{◌⊎◌, option_to_list, slice_get}
use Rattle.std.specs.List.{AllByRecursion, cons_option, flat_map, list_any}
use Rattle.std.proofs.lemmas.Bool.{eqb-true, eq-eqb}
use Rattle.std.proofs.lemmas.List.{take_all, take-append-le}
use Rattle.std.proofs.lemmas.List.Concat.{flat_map-append}
use Rattle.std.proofs.lemmas.List.Elements.{filter_map-append}
use Rattle.std.proofs.lemmas.List.Folds.{list_any-append}
use Rattle.std.proofs.lemmas.List.Sums.{fold-append}
use Rattle.host_laws.specs.channel_laws.specs.acl_fragments.specs.Pieces.{channel_of}
use Rattle.host_laws.specs.shelf_model.specs.capture.proofs.HistoryLaws.{each_after-both}
use Rattle.host_laws.specs.shelf_model.specs.capture.specs.declared.flow.Flow.TheVariants.{Out, Into}
use Rattle.host_laws.specs.shelf_model.specs.capture.specs.Histories.{EachAfter}
use Rattle.host_laws.specs.shelf_model.specs.capture.specs.Pdus.{Pdu}
use Rattle.host_laws.specs.push_laws.specs.link_talk.specs.declared.channel.Channel.{Channel}
use Rattle.host_laws.specs.push_laws.specs.link_talk.specs.declared.life.Life.{Life}
use Rattle.host_laws.specs.push_laws.specs.link_talk.specs.declared.life.Life.TheVariants.{Alive, Leaving as IsLeaving, Crossed as HasCrossed, Over}
use Rattle.host_laws.specs.push_laws.specs.link_talk.specs.declared.call.Call.{Call}
use Rattle.host_laws.specs.push_laws.specs.link_talk.specs.Channels.{Entry, is_there, reading}
use Rattle.host_laws.specs.push_laws.specs.link_talk.specs.Requests.{is_call, last_run, call_wanted}
use Rattle.host_laws.specs.push_laws.specs.link_talk.specs.Sayings.{Saying, said_by}
use Rattle.host_laws.specs.channel_laws.specs.channel_model.specs.declared.event.CloseReason.{CloseReason}
use Rattle.host_laws.specs.channel_laws.specs.channel_model.specs.declared.event.CloseReason.TheVariants.{PeerClosed, Refused, NoAgreement, RetryLimit, Ertm, LinkDown, OwnClosed}
use Rattle.host_laws.specs.channel_laws.specs.channel_model.specs.declared.event.ChannelEvent.{ChannelEvent}
use Rattle.host_laws.specs.channel_laws.specs.channel_model.specs.declared.event.ChannelEvent.TheVariants as events
use Rattle.host_laws.specs.channel_laws.specs.channel_model.specs.Calls.{sends}
use Rattle.host_laws.specs.channel_laws.specs.channel_model.specs.Carrying.{Up as Handed, Nothing, Received, sdu_at, up_by, up_on, up_at}
use Rattle.host_laws.specs.channel_laws.specs.channel_model.specs.Changing.{held_at}
use Rattle.host_laws.specs.channel_laws.specs.channel_model.specs.Giving.{after_given}
use Rattle.host_laws.specs.channel_laws.specs.channel_model.specs.Policies.{Policy}
use Rattle.host_laws.specs.channel_laws.specs.channel_model.specs.Telling.{is_told_closed}
use Rattle.host_laws.specs.channel_laws.specs.channel_model.specs.Value.{Stage, Requested, Connected, Leaving, Closing, Crossed, Held, Channels, no_channels}
use Rattle.host_laws.specs.channel_laws.specs.channel_model.proofs.Walking.{found-own}
use Rattle.host_laws.specs.channel_laws.specs.Closings.{IsClosingRead}
use Rattle.host_laws.specs.channel_laws.specs.Endings.{HasEnded}
use Rattle.host_laws.specs.channel_laws.specs.Endpoints.{IsOf}
use Rattle.host_laws.specs.channel_laws.specs.Runs.{Occurrence, Comes, Connects, AsksFeatures, Disconnects, Sends, Gives, Fires, Tells, value_after, told_in, up_with, said_in, Run, new_link, run_on, run_of}
use Rattle.host_laws.specs.channel_laws.specs.Singly.{AsksForNoChannel}
use Rattle.host_laws.specs.channel_laws.specs.Views.{channel_by, IsRead, IsReadBy, peer_of, life_of, read_at}
use Rattle.host_laws.specs.channel_laws.proofs.Endings.{ends-are_told}
use Rattle.host_laws.specs.channel_laws.proofs.OneByOne.{none-is_called}
use Rattle.host_laws.specs.channel_laws.proofs.Running.{all-sound, channels-are_read}
use Rattle.host_laws.specs.channel_laws.proofs.Shutting.{closings-are_read}
use Rattle.host_laws.specs.channel_laws.proofs.Sound.{WantsAt, Wants}
use Rattle.host_laws.specs.push_laws.specs.push_model.specs.Server.{object_psm}
use Rattle.host_laws.specs.shelf_model.specs.host_model.specs.Servers.{is_told}
use Rattle.host_laws.specs.Calls.{values_after}
use Rattle.host_laws.specs.Feeds.{Tiding, Brings, Tells as TellsIt, Turns, brought_by, tidings_with, tidings_from}
use Rattle.host_laws.specs.Keeping.{AsksForNothing}
use Rattle.host_laws.specs.Seen.{is_spoken, spoken_of, pdu_of, moved, IsQuiet, IsCalmAt, IsCalm}
use Rattle.host_laws.specs.Told.{event_told, events_told, IsOfChannel, told_on}
use Rattle.host_laws.proofs.Growing.{tidings-append}
use Rattle.host_laws.proofs.Links.{value_run}
use Rattle.host_laws.proofs.Moving.{own_talk_moves}
use Rattle.host_laws.proofs.SearchingWeave.{each_split, all_split}
use Rattle.host_laws.proofs.Silence.{channels-are_named}
use Rattle.host_laws.proofs.Telling.{events_run}
use Rattle.refusal_laws.specs.Refused.{ClosesRightly, TellsRightly}
use Rattle.refusal_laws.proofs.Refused.{refusals_have_results}
use Rattle.following_laws.specs.Following.{object_told, object_sdus_told, ends_objects, is_object_over, OthersAreOver, ClosesBehind, FollowsOthers}
use Rattle.following_laws.specs.OneAtATime.{is_unended, is_object_left, AtMostOneLeft, IsToldBefore, IsNoFiring, HearsOneAtATime, SinglesFollow}
use Rattle.following_laws.proofs.Moments.{one_of}
use Rattle.following_laws.proofs.Shedding.{IsObjectHeld, OnObject, closes_object, comes-held, gives-tell_none, sends-tell_none}

-- ---- what is read

abbrev LeftAt : ℕ → List Entry → Type 0
LeftAt own entries = (entry : Entry) × (read_at own entries ≡ Some entry) × (is_object_left entry ≡ true)

any_left : (own : ℕ) (entries : List Entry) → LeftAt own entries → list_any is_object_left entries ≡ true
any_left own [] (entry, at, left) = cc
any_left own (first ∷ entries) (entry, at, left) = by (eqb first.channel.own own) at (is_object_left first) refl (λ found. any_left own entries (entry, found, left))
  where
    by : (here : Bool) → cond here (Some first) (read_at own entries) ≡ Some entry → (now : Bool) → is_object_left first ≡ now → (read_at own entries ≡ Some entry → list_any is_object_left entries ≡ true) → (now || list_any is_object_left entries) ≡ true
    by here found true is later = refl
    by true found false is later = let same : first ≡ entry = cc in let never : true ≡ false = sym left ∙ (ap is_object_left (sym same) ∙ is) in cc
    by false found false is later = later found

same_left : (one other : ℕ) (entries : List Entry) → AtMostOneLeft entries → LeftAt one entries → LeftAt other entries → one ≡ other
same_left one other [] single (entry, at, left) there = cc
same_left one other (first ∷ entries) single (entry, at, left) (last, found, also) =
    by (eqb first.channel.own one) (eqb first.channel.own other) refl refl at found (λ a b. same_left one other entries single.1 (entry, a, left) (last, b, also))
  where
    never : {X : Type 0} (n : ℕ) (e f : Entry) → first ≡ e → is_object_left e ≡ true → read_at n entries ≡ Some f → is_object_left f ≡ true → X
    never n e f same now later left' = let no' : true ≡ false = sym (any_left n entries (f, later, left')) ∙ single.0 (ap is_object_left same ∙ now) in cc

    by : (here there : Bool) → eqb first.channel.own one ≡ here → eqb first.channel.own other ≡ there → cond here (Some first) (read_at one entries) ≡ Some entry → cond there (Some first) (read_at other entries) ≡ Some last
        → (read_at one entries ≡ Some entry → read_at other entries ≡ Some last → one ≡ other) → one ≡ other
    by true true a b at' found' later = sym (eqb-true first.channel.own one a) ∙ eqb-true first.channel.own other b
    by true false a b at' found' later = let same : first ≡ entry = cc in never other entry last same left found' also
    by false true a b at' found' later = let same : first ≡ last = cc in never one last entry same also at' left
    by false false a b at' found' later = later at' found'

-- ---- lists

all_spoken : (said more : List Saying) → spoken_of (said ++ more) ≡ said ++ more → spoken_of said ≡ said
all_spoken [] more is = refl
all_spoken (s ∷ said) more is = by (is_spoken s) is (all_spoken said more)
  where
    few : (xs : List Saying) → length (spoken_of xs) ≤ length xs
    few [] = omega arith
    few (x ∷ xs) = at (is_spoken x) (few xs)
      where
        at : (b : Bool) → length (spoken_of xs) ≤ length xs → length (cond b (x ∷ spoken_of xs) (spoken_of xs)) ≤ length (x ∷ xs)
        at true rest = omega (arith, rest)
        at false rest = omega (arith, rest)

    by : (b : Bool) → cond b (s ∷ spoken_of (said ++ more)) (spoken_of (said ++ more)) ≡ s ∷ (said ++ more) → (spoken_of (said ++ more) ≡ said ++ more → spoken_of said ≡ said) → cond b (s ∷ spoken_of said) (spoken_of said) ≡ s ∷ said
    by true now later = ap (λ (l : List Saying). s ∷ l) (later cc)
    by false now later = let long = ap length now in let short = few (said ++ more) in absurd (omega (arith, long, short))

calm_split : (policy : Policy) (v : Channels) (xs ys : List Occurrence) → IsCalm policy v (xs ++ ys) → IsCalm policy v xs × IsCalm policy (values_after policy v xs) ys
calm_split policy v [] ys calm = (tt, calm)
calm_split policy v (x ∷ xs) ys calm = let rest = calm_split policy (value_after policy x v) xs ys calm.1 in ((calm.0, rest.0), rest.1)

pub no_channel : (list : List Occurrence) → AllByRecursion AsksForNothing list → AllByRecursion AsksForNoChannel list
no_channel [] none = tt
no_channel (Comes pdu ∷ list) none = (tt, no_channel list none.1)
no_channel (Connects psm ∷ list) none = absurd none.0
no_channel (AsksFeatures ∷ list) none = absurd none.0
no_channel (Disconnects own ∷ list) none = absurd none.0
no_channel (Sends own sdu ∷ list) none = (tt, no_channel list none.1)
no_channel (Gives pdu ∷ list) none = (tt, no_channel list none.1)
no_channel (Fires ∷ list) none = (tt, no_channel list none.1)
no_channel (Tells ∷ list) none = (tt, no_channel list none.1)

-- what a longer run has more
record Grown (policy : Policy) (front rest : List Occurrence) : Type 0 where
  said : List Saying
  said_is : (run_of policy (front ++ rest)).said ≡ (run_of policy front).said ++ said
  told : List ChannelEvent
  told_is : (run_of policy (front ++ rest)).told ≡ (run_of policy front).told ++ told

grown : (policy : Policy) (front rest : List Occurrence) → Grown policy front rest
grown policy front [] = record {
  said = [];
  said_is = ap (λ (l : List Occurrence). (run_of policy l).said) (append-nil front) ∙ sym (append-nil (run_of policy front).said);
  told = [];
  told_is = ap (λ (l : List Occurrence). (run_of policy l).told) (append-nil front) ∙ sym (append-nil (run_of policy front).told);
}
grown policy front (one ∷ rest) =
    let later = grown policy (front ++ one ∷ []) rest in
    let split = ap (run_of policy) (sym (append_assoc front (one ∷ []) rest)) in
    let next : run_of policy (front ++ one ∷ []) ≡ run_on policy (run_of policy front) one = fold-append (run_on policy) new_link front (one ∷ []) in
    let here = said_in policy one (run_of policy front).value in
    let tells = told_in one (run_of policy front).value in
    record {
      said = here ++ later.said;
      said_is = ap (λ (r : Run). r.said) split ∙ (later.said_is ∙ (ap (λ (r : Run). r.said ++ later.said) next ∙ append_assoc (run_of policy front).said here later.said));
      told = tells ++ later.told;
      told_is = ap (λ (r : Run). r.told) split ∙ (later.told_is ∙ (ap (λ (r : Run). r.told ++ later.told) next ∙ append_assoc (run_of policy front).told tells later.told));
    }

-- ---- what is held, and what comes up

up_object : (own psm : ℕ) (sdu : List ℕ) (v : Channels) (one : Occurrence) → up_with one v ≡ Received own psm sdu → psm ≡ object_psm → IsObjectHeld own v
up_object own psm sdu v one is object = by one is
  where
    carried : (n : ℕ) (held : Held) (octets : Option (List ℕ)) → held_at n v ≡ Some held → up_by octets held ≡ Received own psm sdu → IsObjectHeld own v
    carried n held None at up = cc
    carried n held (Some some) at up =
        let own_is : held.own ≡ own = cc in
        let psm_is : held.psm ≡ psm = cc in
        subst (λ m. IsObjectHeld m v) own_is (subst OnObject (sym (found-own n v held at)) (psm_is ∙ object))

    on : (n : ℕ) (pdu : List ℕ) (found : Option Held) → held_at n v ≡ found → up_on found pdu ≡ Received own psm sdu → IsObjectHeld own v
    on n pdu None at up = cc
    on n pdu (Some held) at up = carried n held (sdu_at held.stage pdu) at up

    signals : (pdu : List ℕ) (b : Bool) → cond b Nothing (up_at (channel_of pdu) pdu v) ≡ Received own psm sdu → IsObjectHeld own v
    signals pdu true up = cc
    signals pdu false up = on (channel_of pdu) pdu (held_at (channel_of pdu) v) refl up

    by : (o : Occurrence) → up_with o v ≡ Received own psm sdu → IsObjectHeld own v
    by (Comes pdu) up = signals pdu (eqb (channel_of pdu) 0x0001) up
    by (Connects n) up = cc
    by AsksFeatures up = cc
    by (Disconnects n) up = cc
    by (Sends n other) up = cc
    by (Gives pdu) up = cc
    by Fires up = cc
    by Tells up = cc

-- ---- a closing is one that ends it for a server

-- a server heeds each closing that is told while the link is up
abbrev IsHeeded : ChannelEvent → Type 0
IsHeeded (events.Opened own psm) = Unit {0}
IsHeeded (events.Closed own psm reason) = is_told reason ≡ true
IsHeeded (events.Features features) = Unit {0}
IsHeeded events.FeaturesLost = Unit {0}
IsHeeded (events.DisconnectLost own) = Unit {0}

reason_heeded : (reason : CloseReason) → ClosesRightly reason → is_told reason ≡ true
reason_heeded PeerClosed right = refl
reason_heeded (Refused result) right = refl
reason_heeded NoAgreement right = refl
reason_heeded RetryLimit right = refl
reason_heeded (Ertm reason) right = refl
reason_heeded LinkDown right = absurd right
reason_heeded OwnClosed right = refl

all_heeded : (told : List ChannelEvent) → AllByRecursion TellsRightly told → AllByRecursion IsHeeded told
all_heeded [] all = tt
all_heeded (events.Opened own psm ∷ told) all = (tt, all_heeded told all.1)
all_heeded (events.Closed own psm reason ∷ told) all = (reason_heeded reason all.0, all_heeded told all.1)
all_heeded (events.Features features ∷ told) all = (tt, all_heeded told all.1)
all_heeded (events.FeaturesLost ∷ told) all = (tt, all_heeded told all.1)
all_heeded (events.DisconnectLost own ∷ told) all = (tt, all_heeded told all.1)

run_heeded : (policy : Policy) (list : List Occurrence) → AllByRecursion IsHeeded (run_of policy list).told
run_heeded policy list = all_heeded (run_of policy list).told (all_split TellsRightly (run_of policy list).told (run_of policy list).value.events (refusals_have_results policy list)).0

over_of : (entries : List Entry) (own peer : ℕ) → IsOf (channel_by object_psm own peer) (read_at own entries) → (told : List ChannelEvent) → AllByRecursion (IsClosingRead entries) told → AllByRecursion IsHeeded told → is_told_closed own told ≡ true → list_any (ends_objects own) told ≡ true
over_of entries own peer of [] read heeds is = is
over_of entries own peer of (events.Opened other psm ∷ told) read heeds is = over_of entries own peer of told read.1 heeds.1 is
over_of entries own peer of (events.Closed other psm reason ∷ told) read heeds is = by (eqb other own) refl is (over_of entries own peer of told read.1 heeds.1)
  where
    by : (here : Bool) → eqb other own ≡ here → ((here && true) || is_told_closed own told) ≡ true → (is_told_closed own told ≡ true → list_any (ends_objects own) told ≡ true)
        → ((here && (eqb psm object_psm && is_told reason)) || list_any (ends_objects own) told) ≡ true
    by false at now later = later now
    by true at now later =
        let same = one_of (channel_by psm other read.0.0) (channel_by object_psm own peer) (read_at own entries) (subst (λ n. IsOf (channel_by psm other read.0.0) (read_at n entries)) (eqb-true other own at) read.0.1) of in
        ap₂ (λ (a b : Bool). (a && b) || list_any (ends_objects own) told) (eq-eqb psm object_psm (ap (λ (c : Channel). c.psm) same)) heeds.0
over_of entries own peer of (events.Features features ∷ told) read heeds is = over_of entries own peer of told read.1 heeds.1 is
over_of entries own peer of (events.FeaturesLost ∷ told) read heeds is = over_of entries own peer of told read.1 heeds.1 is
over_of entries own peer of (events.DisconnectLost other ∷ told) read heeds is = over_of entries own peer of told read.1 heeds.1 is

-- one that brought an SDU is read
brought_read : (entries : List Entry) (own : ℕ) (tidings : List Tiding) → AllByRecursion (IsOfChannel entries) tidings → (object_sdus_told own tidings ≡ []) ⊎ ((peer : ℕ) × IsOf (channel_by object_psm own peer) (read_at own entries))
brought_read entries own [] all = inl refl
brought_read entries own (Brings other psm sdu ∷ tidings) all = by (eqb other own) (eqb psm object_psm) refl refl (brought_read entries own tidings all.1)
  where
    by : (here object : Bool) → eqb other own ≡ here → eqb psm object_psm ≡ object → (object_sdus_told own tidings ≡ []) ⊎ ((peer : ℕ) × IsOf (channel_by object_psm own peer) (read_at own entries))
        → (cons_option (cond (here && object) (Some sdu) None) (object_sdus_told own tidings) ≡ []) ⊎ ((peer : ℕ) × IsOf (channel_by object_psm own peer) (read_at own entries))
    by false object at is later = later
    by true false at is later = later
    by true true at is later =
        inr (all.0.0, subst (λ (n : ℕ). IsOf (channel_by n own all.0.0) (read_at own entries)) (eqb-true psm object_psm is) (subst (λ (n : ℕ). IsOf (channel_by psm n all.0.0) (read_at n entries)) (eqb-true other own at) all.0.1))
brought_read entries own (TellsIt event ∷ tidings) all = brought_read entries own tidings all.1
brought_read entries own (Turns event ∷ tidings) all = brought_read entries own tidings all.1

some_left : (own : ℕ) (entries : List Entry) (peer : ℕ) → IsOf (channel_by object_psm own peer) (read_at own entries) → (HasEnded (read_at own entries) → ⊥) → LeftAt own entries
some_left own entries peer of lasts = by (read_at own entries) refl of lasts
  where
    lives : (life : Life) → (is_there life ≡ false → ⊥) → is_unended life ≡ true
    lives Alive there = refl
    lives IsLeaving there = refl
    lives HasCrossed there = refl
    lives Over there = absurd (there refl)

    by : (found : Option Entry) → read_at own entries ≡ found → IsOf (channel_by object_psm own peer) found → (HasEnded found → ⊥) → LeftAt own entries
    by None at is there = absurd is
    by (Some entry) at is there =
        (entry, at, ap₂ (λ (a b : Bool). a && b) (eq-eqb entry.channel.psm object_psm (ap (λ (c : Channel). c.psm) is)) (lives entry.life there))

-- ---- where a PDU comes in

module _ (policy : Policy) (front : List Occurrence) (nothing : AllByRecursion AsksForNoChannel front) (heeds : AllByRecursion IsHeeded (run_of policy front).told) (told_all : (run_of policy front).value.events ≡ []) (single : AtMostOneLeft (reading (run_of policy front).said).entries) where
  abbrev run : Run
  run = run_of policy front

  abbrev entries : List Entry
  entries = (reading run.said).entries

  -- a channel of objects that is held is left
  held_left : (own : ℕ) → IsObjectHeld own run.value → LeftAt own entries
  held_left own held = by (held_at own run.value) refl held
    where
      psm_left : (held' : Held) (entry : Entry) (peer : ℕ) (life : Life) → held'.psm ≡ object_psm → read_at own entries ≡ Some entry → entry.channel ≡ channel_by held'.psm held'.own peer → entry.life ≡ life → is_unended life ≡ true → LeftAt own entries
      psm_left held' entry peer life object at channel_is life_is left =
          (entry, at, ap₂ (λ (a b : Bool). a && b) (eq-eqb entry.channel.psm object_psm (ap (λ (c : Channel). c.psm) channel_is ∙ object)) (ap is_unended life_is ∙ left))

      there : (held' : Held) (peer : ℕ) (stage : Stage) → held'.psm ≡ object_psm → held'.stage ≡ stage → is_unended (life_of stage) ≡ true → (found : Option Entry) → read_at own entries ≡ found → IsReadBy policy held' (Some peer) found → LeftAt own entries
      there held' peer stage object is left None at read = absurd read
      there held' peer stage object is left (Some entry) at read = psm_left held' entry peer (life_of stage) object at read.0.channel_is (read.0.life_is ∙ ap life_of is) left

      wanted : (held' : Held) (stage : Stage) → held'.stage ≡ stage → held_at own run.value ≡ Some held' → WantsAt (reading run.said).requests held' stage
      wanted held' stage is at = subst (WantsAt (reading run.said).requests held') is (subst (Wants (reading run.said).requests) at ((all-sound policy front).kept.wants own))

      at_stage : (held' : Held) (stage : Stage) → held'.psm ≡ object_psm → held'.stage ≡ stage → held_at own run.value ≡ Some held' → IsReadBy policy held' (peer_of stage) (read_at own entries) → LeftAt own entries
      at_stage held' (Requested request) object is at read =
          let asks = wanted held' (Requested request) is at in
          let none = ap (λ (calls : List Call). call_wanted (last_run (is_call request.identifier held'.own) calls)) (none-is_called policy front nothing) in
          let never = sym none ∙ asks.0 in
          cc
      at_stage held' (Connected peer setup) object is at read = there held' peer (Connected peer setup) object is refl (read_at own entries) refl read
      at_stage held' (Leaving peer setup request) object is at read = there held' peer (Leaving peer setup request) object is refl (read_at own entries) refl read
      at_stage held' (Closing peer request checked) object is at read = there held' peer (Closing peer request checked) object is refl (read_at own entries) refl read
      at_stage held' (Crossed peer request) object is at read = there held' peer (Crossed peer request) object is refl (read_at own entries) refl read

      by : (found : Option Held) → held_at own run.value ≡ found → OnObject found → LeftAt own entries
      by None at is = absurd is
      by (Some held') at object =
          at_stage held' held'.stage object refl at (subst (λ (h : Option Held). IsRead policy h (read_at own entries)) at (channels-are_read policy front own))

  -- one that brought an SDU and is not over is left
  open_left : (own : ℕ) → is_object_over own (told_on policy front) ≡ false → (object_sdus_told own (told_on policy front) ≡ []) ⊎ LeftAt own entries
  open_left own open' = by (brought_read entries own (told_on policy front) (channels-are_named policy front))
    where
      told_is : run.told ≡ events_told (told_on policy front)
      told_is = events_run policy front

      lasts : (peer : ℕ) → IsOf (channel_by object_psm own peer) (read_at own entries) → HasEnded (read_at own entries) → ⊥
      lasts peer of ended =
          let closed : is_told_closed own run.told ≡ true = ap (is_told_closed own) (sym (ap (λ (l : List ChannelEvent). run.told ++ l) told_all ∙ append-nil run.told)) ∙ ends-are_told policy front own ended in
          let over = over_of entries own peer of run.told (closings-are_read policy front nothing) heeds closed in
          let never : true ≡ false = sym over ∙ (ap (list_any (ends_objects own)) told_is ∙ open') in
          cc

      by : (object_sdus_told own (told_on policy front) ≡ []) ⊎ ((peer : ℕ) × IsOf (channel_by object_psm own peer) (read_at own entries)) → (object_sdus_told own (told_on policy front) ≡ []) ⊎ LeftAt own entries
      by (inl none) = inl none
      by (inr (peer, of)) = inr (some_left own entries peer of (lasts peer of))

  -- so all others are over where one is left, also behind what this PDU brings
  others_over : (own : ℕ) → LeftAt own entries → OthersAreOver own (told_on policy front)
  others_over own left other apart = by (is_object_over other (told_on policy front)) refl
    where
      by : (over : Bool) → is_object_over other (told_on policy front) ≡ over → (object_sdus_told other (told_on policy front) ≡ []) ⊎ (is_object_over other (told_on policy front) ≡ true)
      by true is = inr is
      by false is = on (open_left other is)
        where
          on : (object_sdus_told other (told_on policy front) ≡ []) ⊎ LeftAt other entries → (object_sdus_told other (told_on policy front) ≡ []) ⊎ (is_object_over other (told_on policy front) ≡ true)
          on (inl none) = inl none
          on (inr also) = let never : true ≡ false = sym (eq-eqb other own (same_left other own entries single also left)) ∙ apart in cc

  module _ (one : Occurrence) where
    brings_behind : (own psm : ℕ) (sdu : List ℕ) → up_with one run.value ≡ Received own psm sdu → psm ≡ object_psm → OthersAreOver own (told_on policy front)
    brings_behind own psm sdu is object = others_over own (held_left own (up_object own psm sdu run.value one is object))

    all_behind : (up : Handed) → up_with one run.value ≡ up → EachAfter FollowsOthers (told_on policy front) (brought_by up)
    all_behind Nothing is = tt
    all_behind (Received own psm sdu) is = ((λ object. brings_behind own psm sdu is object), tt)

    more_over : (at psm : ℕ) (sdu : List ℕ) → up_with one run.value ≡ Received at psm sdu → (own : ℕ) → LeftAt own entries → OthersAreOver own (told_on policy front ++ Brings at psm sdu ∷ [])
    more_over at psm sdu is own left other apart = by (eqb at other) (eqb psm object_psm) refl refl
      where
        T : List Tiding
        T = told_on policy front

        told_now : (here object : Bool) → eqb at other ≡ here → eqb psm object_psm ≡ object → object_sdus_told other (T ++ Brings at psm sdu ∷ []) ≡ object_sdus_told other T ++ cons_option (cond (here && object) (Some sdu) None) []
        told_now here object a b = filter_map-append (object_told other) T (Brings at psm sdu ∷ []) ∙ ap₂ (λ (x y : Bool). object_sdus_told other T ++ cons_option (cond (x && y) (Some sdu) None) []) a b

        over_same : is_object_over other (T ++ Brings at psm sdu ∷ []) ≡ is_object_over other T
        over_same = ap (list_any (ends_objects other)) (filter_map-append event_told T (Brings at psm sdu ∷ []) ∙ append-nil (events_told T))

        old : (object_sdus_told other (T ++ Brings at psm sdu ∷ []) ≡ object_sdus_told other T) → (object_sdus_told other T ≡ []) ⊎ (is_object_over other T ≡ true) → (object_sdus_told other (T ++ Brings at psm sdu ∷ []) ≡ []) ⊎ (is_object_over other (T ++ Brings at psm sdu ∷ []) ≡ true)
        old same (inl none) = inl (same ∙ none)
        old same (inr over) = inr (over_same ∙ over)

        by : (here object : Bool) → eqb at other ≡ here → eqb psm object_psm ≡ object → (object_sdus_told other (T ++ Brings at psm sdu ∷ []) ≡ []) ⊎ (is_object_over other (T ++ Brings at psm sdu ∷ []) ≡ true)
        by false object a b = old (told_now false object a b ∙ append-nil (object_sdus_told other T)) (others_over own left other apart)
        by true false a b = old (told_now true false a b ∙ append-nil (object_sdus_told other T)) (others_over own left other apart)
        by true true a b =
            let also = held_left at (up_object at psm sdu run.value one is (eqb-true psm object_psm b)) in
            let never : true ≡ false = sym (eq-eqb other own (sym (eqb-true at other a) ∙ same_left at own entries single also left)) ∙ apart in
            cc

    with_brought : (up : Handed) → up_with one run.value ≡ up → (own : ℕ) → LeftAt own entries → OthersAreOver own (told_on policy front ++ brought_by up)
    with_brought Nothing is own left = subst (OthersAreOver own) (sym (append-nil (told_on policy front))) (others_over own left)
    with_brought (Received at psm sdu) is own left = more_over at psm sdu is own left

-- ---- what is told goes on

later_over : (own : ℕ) (past : List Tiding) (event : ChannelEvent) → OthersAreOver own past → OthersAreOver own (past ++ TellsIt event ∷ [])
later_over own past event over other apart = by (over other apart)
  where
    by : (object_sdus_told other past ≡ []) ⊎ (is_object_over other past ≡ true) → (object_sdus_told other (past ++ TellsIt event ∷ []) ≡ []) ⊎ (is_object_over other (past ++ TellsIt event ∷ []) ≡ true)
    by (inl none) = inl (filter_map-append (object_told other) past (TellsIt event ∷ []) ∙ (append-nil (object_sdus_told other past) ∙ none))
    by (inr so) =
        inr (ap (list_any (ends_objects other)) (filter_map-append event_told past (TellsIt event ∷ [])) ∙ (list_any-append (ends_objects other) (events_told past) (event ∷ []) ∙ ap (λ (b : Bool). b || list_any (ends_objects other) (event ∷ [])) so))

-- what waits to be told of closings comes when the others are over
abbrev ArePending : List ChannelEvent → List Tiding → Type 0
ArePending waits past = (own : ℕ) → list_any (closes_object own) waits ≡ true → OthersAreOver own past

event_behind : (past : List Tiding) (event : ChannelEvent) (waits : List ChannelEvent) → ArePending (event ∷ waits) past → ClosesBehind past event
event_behind past (events.Opened own psm) waits pending = tt
event_behind past (events.Closed own psm reason) waits pending =
    λ object. pending own (ap₂ (λ (a b : Bool). (a && b) || list_any (closes_object own) waits) (eq-eqb own own refl) (eq-eqb psm object_psm object))
event_behind past (events.Features features) waits pending = tt
event_behind past events.FeaturesLost waits pending = tt
event_behind past (events.DisconnectLost own) waits pending = tt

-- one thing more
record Steps (policy : Policy) (front : List Occurrence) (one : Occurrence) : Type 0 where
  each : EachAfter FollowsOthers (told_on policy front) (tidings_with one (run_of policy front).value)
  next : ArePending (value_after policy one (run_of policy front).value).events (told_on policy front ++ tidings_with one (run_of policy front).value)

still_steps : (policy : Policy) (front : List Occurrence) (w : Channels) → w.events ≡ (run_of policy front).value.events → ArePending (run_of policy front).value.events (told_on policy front) → ArePending w.events (told_on policy front ++ [])
still_steps policy front w same pending own is = subst (OthersAreOver own) (sym (append-nil (told_on policy front))) (pending own (ap (list_any (closes_object own)) (sym same) ∙ is))

tells_steps : (policy : Policy) (front : List Occurrence) → ArePending (run_of policy front).value.events (told_on policy front) → Steps policy front Tells
tells_steps policy front pending = record { each = (by (run_of policy front).value.events pending).0; next = (by (run_of policy front).value.events pending).1 }
  where
    T : List Tiding
    T = told_on policy front

    by : (waits : List ChannelEvent) → ArePending waits T → EachAfter FollowsOthers T (map TellsIt (option_to_list (slice_get waits 0))) × ArePending (drop 1 waits) (T ++ map TellsIt (option_to_list (slice_get waits 0)))
    by [] so = (tt, λ own is. cc)
    by (event ∷ waits) so = ((event_behind T event waits so, tt), λ own is. later_over own T event (so own (ap (λ (b : Bool). closes_object own event || b) is ∙ or_true (closes_object own event))))
      where
        or_true : (b : Bool) → (b || true) ≡ true
        or_true true = refl
        or_true false = refl

-- what came in moved, and all before it
front_moved : (front rest moved' unsent : List Pdu) (one : Pdu) → front ++ one ∷ rest ≡ moved' ++ unsent → one.flow ≡ Into → AllByRecursion (λ (pdu : Pdu). pdu.flow ≡ Out) unsent → (behind : List Pdu) × (moved' ≡ front ++ behind)
front_moved [] rest moved' unsent one is into out = (moved', refl)
front_moved (first ∷ front) rest [] unsent one is into out =
    let all = subst (AllByRecursion (λ (pdu : Pdu). pdu.flow ≡ Out)) (sym is) out in
    let never : Into ≡ Out = sym into ∙ (all_split (λ (pdu : Pdu). pdu.flow ≡ Out) front (one ∷ rest) all.1).1.0 in
    cc
front_moved (first ∷ front) rest (pdu ∷ moved') unsent one is into out =
    let same : first ≡ pdu = cc in
    let tails : front ++ one ∷ rest ≡ moved' ++ unsent = cc in
    let (behind, more) = front_moved front rest moved' unsent one tails into out in
    (behind, ap₂ (λ (p : Pdu) (l : List Pdu). p ∷ l) (sym same) more)

module _ (policy : Policy) (list : List Occurrence) (so : HearsOneAtATime policy list) where
  module _ (front : List Occurrence) (one : Occurrence) (rest : List Occurrence) (is : list ≡ front ++ one ∷ rest) where
    abbrev at : Run
    at = run_of policy front

    asks : AllByRecursion AsksForNoChannel front
    asks = no_channel front (all_split AsksForNothing front (one ∷ rest) (subst (AllByRecursion AsksForNothing) is so.nothing)).0

    calm : IsCalm policy no_channels front × IsCalm policy (values_after policy no_channels front) (one ∷ rest)
    calm = calm_split policy no_channels front (one ∷ rest) (subst (IsCalm policy no_channels) is so.calm)

    calm_one : IsCalmAt policy one (run_of policy front).value
    calm_one = subst (IsCalmAt policy one) (sym (value_run policy front new_link)) calm.1.0

    told_one : IsToldBefore one (run_of policy front).value
    told_one =
        let Told : List Occurrence → Occurrence → Type 0 = λ past more. IsToldBefore more (run_of policy past).value in
        (each_split Told [] front (one ∷ rest) (subst (EachAfter Told []) is so.told)).1.0

    single : (pdu : List ℕ) → one ≡ Comes pdu → IsQuiet (run_of policy front).value → AtMostOneLeft (reading (run_of policy front).said).entries
    single pdu comes quiet =
        let more = grown policy front (one ∷ rest) in
        let whole : (run_of policy list).said ≡ at.said ++ more.said = ap (λ (l : List Occurrence). (run_of policy l).said) is ∙ more.said_is in
        let spoken : spoken_of at.said ≡ at.said = all_spoken at.said more.said (ap spoken_of (sym whole) ∙ (so.gives ∙ whole)) in
        let said_is : at.said ≡ moved front = sym spoken ∙ own_talk_moves policy front calm.0 quiet in
        let into : Pdu = record { flow = Into; octets = pdu } in
        let pdus : filter_map pdu_of front ++ into ∷ filter_map pdu_of rest ≡ so.moved ++ so.unsent =
        sym (filter_map-append pdu_of front (one ∷ rest) ∙ ap (λ (o : Occurrence). filter_map pdu_of front ++ filter_map pdu_of (o ∷ rest)) comes) ∙ (ap (filter_map pdu_of) (sym is) ∙ so.pdus_are) in
        let (behind, moved_is) = front_moved (filter_map pdu_of front) (filter_map pdu_of rest) so.moved so.unsent into pdus refl so.go_out in
        let n = length (moved front) in
        let taken : take n (flat_map said_by so.moved) ≡ moved front =
        ap (λ (l : List Pdu). take n (flat_map said_by l)) moved_is
        ∙ (ap (take n) (flat_map-append said_by (filter_map pdu_of front) behind) ∙ (take-append-le n (moved front) (flat_map said_by behind) (omega arith) ∙ take_all n (moved front) (omega arith))) in
        subst (λ (said : List Saying). AtMostOneLeft (reading said).entries) (taken ∙ sym said_is) (so.single n)

  comes_steps : (front : List Occurrence) (pdu : List ℕ) (rest : List Occurrence) → list ≡ front ++ Comes pdu ∷ rest → Steps policy front (Comes pdu)
  comes_steps front pdu rest is =
      let v = (run_of policy front).value in
      let calm' = calm_one front (Comes pdu) rest is in
      let told = told_one front (Comes pdu) rest is in
      let none = asks front (Comes pdu) rest is in
      let heeded = run_heeded policy front in
      let left = single front (Comes pdu) rest is pdu refl calm'.0 in
      let up = up_with (Comes pdu) v in
      record {
        each = subst (EachAfter FollowsOthers (told_on policy front)) (sym (append-nil (brought_by up))) (all_behind policy front none heeded told left (Comes pdu) up refl);
        next = λ own closes.
            subst (λ (l : List Tiding). OthersAreOver own (told_on policy front ++ l)) (sym (append-nil (brought_by up)))
            (with_brought policy front none heeded told left (Comes pdu) up refl own (held_left policy front none heeded told left own (comes-held policy pdu v calm'.1 told own closes)));
      }

  one_steps : (front : List Occurrence) (one : Occurrence) (rest : List Occurrence) → list ≡ front ++ one ∷ rest → AsksForNothing one → IsNoFiring one → ArePending (run_of policy front).value.events (told_on policy front) → Steps policy front one
  one_steps front (Comes pdu) rest is nothing untimed pending = comes_steps front pdu rest is
  one_steps front (Connects psm) rest is nothing untimed pending = absurd nothing
  one_steps front AsksFeatures rest is nothing untimed pending = absurd nothing
  one_steps front (Disconnects own) rest is nothing untimed pending = absurd nothing
  one_steps front (Sends own sdu) rest is nothing untimed pending =
      let v = (run_of policy front).value in record { each = tt; next = still_steps policy front (sends own sdu v) (sends-tell_none own sdu v) pending }
  one_steps front (Gives pdu) rest is nothing untimed pending =
      let v = (run_of policy front).value in record { each = tt; next = still_steps policy front (after_given v) (gives-tell_none v) pending }
  one_steps front Fires rest is nothing untimed pending = absurd untimed
  one_steps front Tells rest is nothing untimed pending = tells_steps policy front pending

  told_more : (front : List Occurrence) (one : Occurrence) → told_on policy (front ++ one ∷ []) ≡ told_on policy front ++ tidings_with one (run_of policy front).value
  told_more front one =
      tidings-append policy no_channels front (one ∷ [])
      ∙ ap (λ (l : List Tiding). told_on policy front ++ l) (append-nil (tidings_with one (values_after policy no_channels front)) ∙ ap (tidings_with one) (sym (value_run policy front new_link)))

  behind_on : (front rest : List Occurrence) → list ≡ front ++ rest → ArePending (run_of policy front).value.events (told_on policy front) → EachAfter FollowsOthers (told_on policy front) (tidings_from policy (run_of policy front).value rest)
  behind_on front [] is pending = tt
  behind_on front (one ∷ rest) is pending =
      let v = (run_of policy front).value in
      let w = value_after policy one v in
      let next : (run_of policy (front ++ one ∷ [])).value ≡ w = ap (λ (r : Run). r.value) (fold-append (run_on policy) new_link front (one ∷ [])) in
      let steps =
      one_steps front one rest is (all_split AsksForNothing front (one ∷ rest) (subst (AllByRecursion AsksForNothing) is so.nothing)).1.0 (all_split IsNoFiring front (one ∷ rest) (subst (AllByRecursion IsNoFiring) is so.untimed)).1.0 pending in
      let later =
      behind_on (front ++ one ∷ []) rest (is ∙ sym (append_assoc front (one ∷ []) rest))
      (subst (λ (u : Channels). ArePending u.events (told_on policy (front ++ one ∷ []))) (sym next) (subst (ArePending w.events) (sym (told_more front one)) steps.next)) in
      each_after-both FollowsOthers (told_on policy front) (tidings_with one v) (tidings_from policy w rest) steps.each
      (subst (λ (l : List Tiding). EachAfter FollowsOthers l (tidings_from policy w rest)) (told_more front one) (subst (λ (u : Channels). EachAfter FollowsOthers (told_on policy (front ++ one ∷ [])) (tidings_from policy u rest)) next later))

pub singles_follow : SinglesFollow
singles_follow policy list so = behind_on policy list so [] list refl (λ own is. cc)
