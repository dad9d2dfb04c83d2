-- Of a host that asks for no channel each channel whose closing it was told is read.
use Rattle.std.proofs.Common.{◌≡◌, ℕ, ◌≤◌, List, [], ◌∷◌, ◌++◌, Bool, true, false, cond, eqb, ◌&&◌, Option, Some, None, Ok, refl, sym, ap, subst, ◌∙◌, arith}
use Rattle.std.specs.Prelude.{find, drop, slice_get, option_map, option_to_list}
use Rattle.std.specs.List.{AllByRecursion}
use Rattle.std.proofs.lemmas.Bool.{eqb-true}
use Rattle.std.proofs.lemmas.List.Sums.{fold-append}
use Rattle.own_channel_laws.specs.talk_laws.specs.acl_fragments.specs.Pieces.{channel_of}
use Rattle.own_channel_laws.specs.talk_laws.specs.capture.specs.declared.flow.Flow.TheVariants.{Out, Into}
use Rattle.own_channel_laws.specs.talk_laws.specs.l2cap_signal.specs.Commands.{Content, reject, connection_request, connection_response, configuration_request, configuration_response, disconnection_request, disconnection_response, echo_request, echo_response, information_request, information_response}
use Rattle.own_channel_laws.specs.talk_laws.specs.l2cap_signal.specs.Reading.{Answer as Read}
use Rattle.own_channel_laws.specs.talk_laws.specs.link_talk.specs.Sayings.{Saying, Carried}
use Rattle.own_channel_laws.specs.talk_laws.specs.link_talk.specs.Channels.{Entry, reading}
use Rattle.own_channel_laws.specs.talk_laws.proofs.Passes.{from_end}
use Rattle.own_channel_laws.specs.channel_model.specs.declared.event.ChannelEvent.{ChannelEvent}
use Rattle.own_channel_laws.specs.channel_model.specs.declared.event.ChannelEvent.TheVariants as events
use Rattle.own_channel_laws.specs.channel_model.specs.Value.{no_setup, Stage, Requested, Connected, Leaving, Closing, Crossed, Held, Channels}
use Rattle.own_channel_laws.specs.channel_model.specs.Policies.{Policy}
use Rattle.own_channel_laws.specs.channel_model.specs.Changing.{has_own, held_at}
use Rattle.own_channel_laws.specs.channel_model.specs.Answers.{connection_result}
use Rattle.own_channel_laws.specs.channel_model.specs.Following.{with_channel, follows}
use Rattle.own_channel_laws.specs.channel_model.specs.Hearing.{hears_content}
use Rattle.own_channel_laws.specs.channel_model.specs.Carrying.{takes}
use Rattle.own_channel_laws.specs.channel_model.specs.Telling.{any_reason, closes_for}
use Rattle.own_channel_laws.specs.channel_model.specs.Timing.{times_held, times_end, times_features}
use Rattle.own_channel_laws.specs.channel_model.proofs.Lookups.{own_of, eqb-same, found-has}
use Rattle.own_channel_laws.specs.channel_model.proofs.Going.{staged, IsClosingOf, Moves, Walks}
use Rattle.own_channel_laws.specs.channel_model.proofs.Walking.{follows-goes, command-goes}
use Rattle.own_channel_laws.specs.channel_model.proofs.Calling.{asks-features-goes, disconnected-goes, sends-goes, takes-goes, timed-held, ended-held, features-timed, given-goes}
use Rattle.own_channel_laws.specs.OwnTalk.{command_with, command_if, exchanged, asked_between}
use Rattle.own_channel_laws.specs.Runs.{Occurrence, Comes, Connects, AsksFeatures, Disconnects, Sends, Gives, Fires, Tells, said_on_firing, said_by_features, said_in, value_after, told_in, Run, new_link, run_on, run_of}
use Rattle.channel_laws.specs.Closings.{HasPsm, IsClosingRead, ClosingsAreRead}
use Rattle.own_channel_laws.specs.Endpoints.{IsOf}
use Rattle.channel_laws.specs.Singly.{calls_that_went, NoneIsDue, AsksForNoChannel}
use Rattle.own_channel_laws.specs.Views.{peer_of, channel_by, read_at}
use Rattle.own_channel_laws.proofs.Sound.{Reads, ReadsBy, Sound}
use Rattle.own_channel_laws.proofs.Converses.{IsAlike, is_single, ConversesWhile}
use Rattle.own_channel_laws.proofs.Conversing.{conversed-while}
use Rattle.channel_laws.proofs.Placing.{is_call, follows-next, responds-next, takes-next, times-next, timed-end-next, features-next, single-next}
use Rattle.channel_laws.proofs.Bestowing.{still_of}
use Rattle.own_channel_laws.proofs.Due.{Any}
use Rattle.channel_laws.proofs.OneByOne.{call_by, HeadIs, Holds, Allows, Never, one_by_one, first_holds, each_none, each_allowed, never-called}

all_both : {X : Type 0} (P : X → Type 0) (xs ys : List X) → AllByRecursion P xs → AllByRecursion P ys → AllByRecursion P (xs ++ ys)
all_both P [] ys one two = two
all_both P (x ∷ xs) ys one two = (one.0, all_both P xs ys one.1 two)

all_map : {X : Type 0} (P Q : X → Type 0) (xs : List X) → ((x : X) → P x → Q x) → AllByRecursion P xs → AllByRecursion Q xs
all_map P Q [] each all = tt
all_map P Q (x ∷ xs) each all = (each x all.0, all_map P Q xs each all.1)

-- ---- as something is read, channels and closings stay so

abbrev AllHeld : List Entry → Channels → Type 0
AllHeld entries v = (own : ℕ) (held : Held) → held_at own v ≡ Some held → HasPsm own held.psm entries

abbrev AllShut : List Entry → Channels → Type 0
AllShut entries v = AllByRecursion (IsClosingRead entries) v.events

record KeepsShut (entries : List Entry) (v w : Channels) : Type 0 where
  next_is : v.next ≤ w.next
  shut : w.next ≡ v.next → AllHeld entries v → AllShut entries v → AllHeld entries w × AllShut entries w

module _ (entries : List Entry) where
  still_shut : (v w : Channels) → w.held ≡ v.held → w.next ≡ v.next → w.events ≡ v.events → KeepsShut entries v w
  still_shut v w held_is next_is events_are = record {
    next_is = omega (arith, next_is);
    shut = λ same all shut. (λ own held found. all own held (ap (find (has_own own)) (sym held_is) ∙ found), subst (AllByRecursion (IsClosingRead entries)) (sym events_are) shut);
  }

  other_read : (event : ChannelEvent) → ((own : ℕ) → closes_for any_reason own event ≡ false) → IsClosingRead entries event
  other_read (events.Opened own psm) none = tt
  other_read (events.Closed own psm reason) none = let never : true ≡ false = sym (ap (λ b. b && true) (eqb-same own)) ∙ none own in absurd cc
  other_read (events.Features features) none = tt
  other_read events.FeaturesLost none = tt
  other_read (events.DisconnectLost own) none = tt

  tells_shut : (v w : Channels) (event : ChannelEvent) → w.held ≡ v.held → w.next ≡ v.next → w.events ≡ v.events ++ event ∷ [] → ((own : ℕ) → closes_for any_reason own event ≡ false) → KeepsShut entries v w
  tells_shut v w event held_is next_is events_are none = record {
    next_is = omega (arith, next_is);
    shut = λ same all shut. (
      λ own held found. all own held (ap (find (has_own own)) (sym held_is) ∙ found),
      subst (AllByRecursion (IsClosingRead entries)) (sym events_are) (all_both (IsClosingRead entries) v.events (event ∷ []) shut (other_read event none, tt)),
    );
  }

  closing_read : (held : Held) (event : ChannelEvent) → HasPsm held.own held.psm entries → IsClosingOf held event → IsClosingRead entries event
  closing_read held (events.Opened own psm) has is = tt
  closing_read held (events.Closed own psm reason) has is = subst (λ n. HasPsm n psm entries) (sym is.0) (subst (λ n. HasPsm held.own n entries) (sym is.1) has)
  closing_read held (events.Features features) has is = tt
  closing_read held events.FeaturesLost has is = tt
  closing_read held (events.DisconnectLost own) has is = tt

  moves_shut : (policy : Policy) (v w : Channels) (held : Held) (after : Option Stage) (more : List ChannelEvent) → Moves policy Any v w held after more → KeepsShut entries v w
  moves_shut policy v w held after more moves = record {
    next_is = let same = moves.next_is in omega (arith, same);
    shut = λ same all shut. (
      λ own other found. by own other (eqb held.own own) refl found all,
      subst (AllByRecursion (IsClosingRead entries)) (sym moves.events_are)
          (all_both (IsClosingRead entries) v.events more shut (all_map (IsClosingOf held) (IsClosingRead entries) more (λ event is. closing_read held event (all held.own held moves.found) is) moves.told.named)),
    );
  }
    where
      here : (s : Option Stage) (other : Held) → option_map (staged held) s ≡ Some other → held.psm ≡ other.psm
      here None other is = cc
      here (Some now) other is = let same : staged held now ≡ other = cc in ap (λ (h : Held). h.psm) same

      by : (own : ℕ) (other : Held) (same : Bool) → eqb held.own own ≡ same → held_at own w ≡ Some other → AllHeld entries v → HasPsm own other.psm entries
      by own other true is found all =
          let own_is : held.own ≡ own = eqb-true held.own own is in
          subst (λ n. HasPsm own n entries) (here after other (sym moves.becomes ∙ (ap (λ n. held_at n w) own_is ∙ found))) (subst (λ n. HasPsm n held.psm entries) own_is (all held.own held moves.found))
      by own other false is found all = all own other (sym (moves.others own is) ∙ found)

  both_shut : (v u w : Channels) → KeepsShut entries v u → KeepsShut entries u w → KeepsShut entries v w
  both_shut v u w first second =
      let one = first.next_is in
      let two = second.next_is in
      record {
        next_is = omega (arith, one, two);
        shut = λ same all shut.
            let mid : u.next ≡ v.next = omega (arith, one, two, same) in
            let end' : w.next ≡ u.next = omega (arith, one, two, same) in
            let (held, told) = first.shut mid all shut in second.shut end' held told;
      }

  walks : (policy : Policy) → Walks policy Any (KeepsShut entries)
  walks policy = record {
    same = λ carrier. tt;
    still = still_shut;
    tells = tells_shut;
    both = both_shut;
    made = λ v w psm stage first held_is next_is events_are. record { next_is = omega (arith, next_is); shut = λ same all shut. absurd (omega (arith, next_is, same)) };
    moves = λ v w held after more moves. moves_shut policy v w held after more moves;
  }

-- ---- what holds

abbrev Shuts : List Saying → Channels → Type 0
Shuts past v = Holds Never past v × AllShut (reading past).entries v

none_due : (past : List Saying) (v : Channels) → Holds Never past v → NoneIsDue v
none_due past v holds own held request found is = subst (HeadIs (call_by held request)) (never-called (calls_that_went Out past) holds.calls) (holds.head own held request found is)

-- so each channel that is held is read, now and later
held_read : (policy : Policy) (past said : List Saying) (v : Channels) → Sound policy (reading past) v → NoneIsDue v → AllHeld (reading (past ++ said)).entries v
held_read policy past said v sound none own held found = by held.stage refl (subst (λ h. Reads policy h (read_at own (reading past).entries)) found (sound.core.reads own))
  where
    own_is : held.own ≡ own
    own_is = found-has own_of own v.held held found

    at : (peer : ℕ) (entry : Option Entry) → read_at own (reading past).entries ≡ entry → ReadsBy policy held (Some peer) entry → HasPsm own held.psm (reading (past ++ said)).entries
    at peer None is reads = absurd reads
    at peer (Some entry) is (there, agrees) =
        let channel_is : entry.channel ≡ channel_by held.psm own peer = there.channel_is ∙ ap (λ n. channel_by held.psm n peer) own_is in
        (peer, still_of past said own (channel_by held.psm own peer) (subst (IsOf (channel_by held.psm own peer)) (sym is) channel_is))

    by : (stage : Stage) → held.stage ≡ stage → Reads policy (Some held) (read_at own (reading past).entries) → HasPsm own held.psm (reading (past ++ said)).entries
    by (Requested request) is reads = absurd (none own held request found is)
    by (Connected peer setup) is reads = at peer (read_at own (reading past).entries) refl (subst (λ p. ReadsBy policy held p (read_at own (reading past).entries)) (ap peer_of is) reads)
    by (Leaving peer setup request) is reads = at peer (read_at own (reading past).entries) refl (subst (λ p. ReadsBy policy held p (read_at own (reading past).entries)) (ap peer_of is) reads)
    by (Closing peer request checked) is reads = at peer (read_at own (reading past).entries) refl (subst (λ p. ReadsBy policy held p (read_at own (reading past).entries)) (ap peer_of is) reads)
    by (Crossed peer request) is reads = at peer (read_at own (reading past).entries) refl (subst (λ p. ReadsBy policy held p (read_at own (reading past).entries)) (ap peer_of is) reads)

later_read : (past said : List Saying) (event : ChannelEvent) → IsClosingRead (reading past).entries event → IsClosingRead (reading (past ++ said)).entries event
later_read past said (events.Opened own psm) is = tt
later_read past said (events.Closed own psm reason) (peer, is) = (peer, still_of past said own (channel_by psm own peer) is)
later_read past said (events.Features features) is = tt
later_read past said events.FeaturesLost is = tt
later_read past said (events.DisconnectLost own) is = tt

all_later : (past said : List Saying) (told : List ChannelEvent) → AllByRecursion (IsClosingRead (reading past).entries) told → AllByRecursion (IsClosingRead (reading (past ++ said)).entries) told
all_later past said told all = all_map (IsClosingRead (reading past).entries) (IsClosingRead (reading (past ++ said)).entries) told (λ event is. later_read past said event is) all

shut_step : (policy : Policy) (past said : List Saying) (v w : Channels) → KeepsShut (reading (past ++ said)).entries v w → w.next ≡ v.next → Sound policy (reading past) v → Shuts past v → AllShut (reading (past ++ said)).entries w
shut_step policy past said v w keeps same sound holds = (keeps.shut same (held_read policy past said v sound (none_due past v holds.0)) (all_later past said v.events holds.1)).1

-- a new channel tells nothing
asked_shut : (policy : Policy) (past said : List Saying) (v u : Channels) (content : Content) → IsAlike v u → Sound policy (reading past) v → Shuts past v → AllShut (reading (past ++ said)).entries (follows policy content u)
asked_shut policy past said v u content alike sound holds = by (is_call content) refl
  where
    all : List Entry
    all = (reading (past ++ said)).entries

    kept : AllShut all u
    kept = subst (AllByRecursion (IsClosingRead all)) (sym alike.events_are) (all_later past said v.events holds.1)

    made : (zero : Bool) (psm source : ℕ) → AllShut all (cond zero (with_channel psm (Connected source no_setup) u) u)
    made true psm source = kept
    made false psm source = kept

    called : (c : Content) → is_call c ≡ true → AllShut all (follows policy c u)
    called (reject reason rest) is = cc
    called (connection_request psm source) is = made (eqb (connection_result policy psm source u) 0) psm source
    called (connection_response destination source answer status) is = cc
    called (configuration_request destination flags options) is = cc
    called (configuration_response source flags answer options) is = cc
    called (disconnection_request destination source) is = cc
    called (disconnection_response destination source) is = cc
    called (echo_request octets) is = cc
    called (echo_response octets) is = cc
    called (information_request kind) is = cc
    called (information_response kind answer rest) is = cc

    by : (asks : Bool) → is_call content ≡ asks → AllShut all (follows policy content u)
    by true is = called content is
    by false is =
        shut_step policy past said v (follows policy content u)
        (both_shut all v u (follows policy content u) (still_shut all v u alike.held_is alike.next_is alike.events_are) (follows-goes policy Any (KeepsShut all) (walks all policy) content u))
        (follows-next policy content u is ∙ alike.next_is) sound holds

less_told : (entries : List Entry) (told : List ChannelEvent) → AllByRecursion (IsClosingRead entries) told → AllByRecursion (IsClosingRead entries) (drop 1 told)
less_told entries [] all = tt
less_told entries (event ∷ told) all = all.1

single_shut : (policy : Policy) (past : List Saying) (v : Channels) (more : Occurrence) → is_single more ≡ true → Allows Never past more v → Sound policy (reading past) v → Shuts past v → AllShut (reading (past ++ said_in policy more v)).entries (value_after policy more v)
single_shut policy past v more is allowed sound holds = by more is allowed
  where
    at : (one : Occurrence) → is_single one ≡ true → AsksForNoChannel one → KeepsShut (reading (past ++ said_in policy one v)).entries v (value_after policy one v) → AllShut (reading (past ++ said_in policy one v)).entries (value_after policy one v)
    at one is none keeps = shut_step policy past (said_in policy one v) v (value_after policy one v) keeps (single-next policy one v is none) sound holds

    by : (one : Occurrence) → is_single one ≡ true → Allows Never past one v → AllShut (reading (past ++ said_in policy one v)).entries (value_after policy one v)
    by (Comes pdu) is allowed = cc
    by (Connects psm) is allowed = let never = allowed.1 in cc
    by AsksFeatures is allowed = let all = (reading (past ++ said_in policy AsksFeatures v)).entries in at AsksFeatures refl tt (asks-features-goes policy Any (KeepsShut all) (walks all policy) v)
    by (Disconnects own) is allowed = let all = (reading (past ++ said_in policy (Disconnects own) v)).entries in at (Disconnects own) refl tt (disconnected-goes policy Any (KeepsShut all) (walks all policy) own v)
    by (Sends own sdu) is allowed = let all = (reading (past ++ said_in policy (Sends own sdu) v)).entries in at (Sends own sdu) refl tt (sends-goes policy Any (KeepsShut all) (walks all policy) own sdu v (λ machine. tt))
    by (Gives pdu) is allowed = let all = (reading (past ++ said_in policy (Gives pdu) v)).entries in at (Gives pdu) refl tt (given-goes policy Any (KeepsShut all) (walks all policy) v (λ carrier. tt) sound.core.lone)
    by Fires is allowed = cc
    by Tells is allowed = less_told (reading (past ++ [])).entries v.events (all_later past [] v.events holds.1)

-- ---- whatever happens

shutting : (policy : Policy) → ConversesWhile policy (Allows Never) (λ v. Unit {0}) Shuts
shutting policy =
    let asking = one_by_one Never policy in
    record {
      first = tt;
      kept = λ v more lone known. tt;
      asked = λ past v u one identifier response content is reply alike waits grants sound holds after.
          let said : List Saying = exchanged one (command_if identifier response) v ++ asked_between v (follows policy content u) in
          (asking.asked past v u one identifier response content is reply alike waits grants sound holds.0 after, asked_shut policy past said v u content alike sound holds);
      answered = λ past v identifier content is same sound holds after.
          let w : Channels = hears_content policy identifier content v in
          let one : Read = Ok (command_with identifier content) in
          let said : List Saying = exchanged one None v ++ asked_between v w in
          let all = (reading (past ++ said)).entries in
          (asking.answered past v identifier content is same sound holds.0 after, shut_step policy past said v w (command-goes policy Any (KeepsShut all) (walks all policy) one v) (responds-next policy identifier content v is) sound holds);
      taken = λ past v pdu known same sound holds after.
          let w : Channels = takes (channel_of pdu) pdu v in
          let said : List Saying = Carried Into pdu ∷ asked_between v w in
          let all = (reading (past ++ said)).entries in
          (asking.taken past v pdu known same sound holds.0 after, shut_step policy past said v w (takes-goes policy Any (KeepsShut all) (walks all policy) (channel_of pdu) pdu v (λ machine open'. tt)) (takes-next (channel_of pdu) pdu v) sound holds);
      waits = λ past v tries own same sound holds after.
          let w : Channels = times_held (held_at own v) tries v in
          let said : List Saying = said_on_firing own v w in
          let all = (reading (past ++ said)).entries in
          (asking.waits past v tries own same sound holds.0 after, shut_step policy past said v w (timed-held policy Any (KeepsShut all) (walks all policy) v tries own (held_at own v) (λ machine open'. tt) refl) (times-next (held_at own v) tries v) sound holds);
      ends = λ past v tries own same sound holds after.
          let w : Channels = times_end (held_at own v) tries v in
          let said : List Saying = said_on_firing own v w in
          let all = (reading (past ++ said)).entries in
          (asking.ends past v tries own same sound holds.0 after, shut_step policy past said v w (ended-held policy Any (KeepsShut all) (walks all policy) v tries own (held_at own v) refl) (timed-end-next (held_at own v) tries v) sound holds);
      loses = λ past v tries same sound holds after.
          let w : Channels = times_features v.features tries v in
          let said : List Saying = said_by_features tries v in
          let all = (reading (past ++ said)).entries in
          (asking.loses past v tries same sound holds.0 after, shut_step policy past said v w (features-timed policy Any (KeepsShut all) (walks all policy) tries v.features v) (features-next v.features tries v) sound holds);
      single = λ past v more is allowed known same sound holds after. (asking.single past v more is allowed known same sound holds.0 after, single_shut policy past v more is allowed sound holds);
    }

all_shut : (policy : Policy) (list : List Occurrence) → AllByRecursion AsksForNoChannel list → Shuts (run_of policy list).said (run_of policy list).value
all_shut policy list none =
    conversed-while policy (Allows Never) (λ v. Unit {0}) Shuts (shutting policy) (first_holds Never, tt) list (each_allowed policy Never [] list (each_none policy [] list none))

-- ---- what was told

told_shut : (policy : Policy) (entries : List Entry) (more : Occurrence) (v : Channels) → AllByRecursion (IsClosingRead entries) v.events → AllByRecursion (IsClosingRead entries) (told_in more v)
told_shut policy entries (Comes pdu) v all = tt
told_shut policy entries (Connects psm) v all = tt
told_shut policy entries AsksFeatures v all = tt
told_shut policy entries (Disconnects own) v all = tt
told_shut policy entries (Sends own sdu) v all = tt
told_shut policy entries (Gives pdu) v all = tt
told_shut policy entries Fires v all = tt
told_shut policy entries Tells v all = by v.events all
  where
    by : (told : List ChannelEvent) → AllByRecursion (IsClosingRead entries) told → AllByRecursion (IsClosingRead entries) (option_to_list (slice_get told 0))
    by [] all = tt
    by (event ∷ told) all = (all.0, tt)

before_last : (past : List Occurrence) (more : Occurrence) → AllByRecursion AsksForNoChannel (past ++ more ∷ []) → AllByRecursion AsksForNoChannel past
before_last [] more none = tt
before_last (one ∷ past) more none = (none.0, before_last past more none.1)

pub closings-are_read : ClosingsAreRead
closings-are_read policy = from_end (λ list. AllByRecursion AsksForNoChannel list → AllByRecursion (IsClosingRead (reading (run_of policy list).said).entries) (run_of policy list).told) (λ none. tt) step
  where
    step : (past : List Occurrence) (more : Occurrence) → (AllByRecursion AsksForNoChannel past → AllByRecursion (IsClosingRead (reading (run_of policy past).said).entries) (run_of policy past).told)
        → AllByRecursion AsksForNoChannel (past ++ more ∷ []) → AllByRecursion (IsClosingRead (reading (run_of policy (past ++ more ∷ [])).said).entries) (run_of policy (past ++ more ∷ [])).told
    step past more before none =
        let run = run_of policy past in
        let said = said_in policy more run.value in
        let earlier = before_last past more none in
        subst (λ (r : Run). AllByRecursion (IsClosingRead (reading r.said).entries) r.told) (sym (fold-append (run_on policy) new_link past (more ∷ [])))
        (all_later run.said said (run.told ++ told_in more run.value) (all_both (IsClosingRead (reading run.said).entries) run.told (told_in more run.value) (before earlier) (told_shut policy (reading run.said).entries more run.value (all_shut policy past earlier).1)))
