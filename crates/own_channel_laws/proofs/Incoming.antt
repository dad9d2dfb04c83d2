-- The SDUs that are handed up in a whole run.
use Rattle.std.proofs.Common.{◌≡◌, ℕ, ◌≤◌, List, [], ◌∷◌, ◌++◌, map, Bool, true, false, cond, ◌||◌, ◌&&◌, eqb, Option, Some, None, refl, sym, ap, subst, ◌∙◌, inl, inr, arith, append_assoc}
use Rattle.std.specs.Prelude.{find, drop, option_to_list, slice_get}
use Rattle.std.specs.List.{list_any}
use Rattle.std.proofs.lemmas.Bool.{eqb-true}
use Rattle.talk_laws.specs.acl_fragments.specs.Pieces.{channel_of}
use Rattle.talk_laws.specs.capture.specs.declared.flow.Flow.TheVariants.{Into}
use Rattle.talk_laws.specs.l2cap_signal.specs.Reading.{answers}
use Rattle.talk_laws.specs.ertm_frames.specs.Reading.{frames_in}
use Rattle.talk_laws.specs.link_talk.specs.declared.channel.Channel.{Channel}
use Rattle.talk_laws.specs.link_talk.specs.declared.party.Party.{Party}
use Rattle.talk_laws.specs.link_talk.specs.Sayings.{Saying, Carried}
use Rattle.talk_laws.specs.link_talk.specs.Setups.{is_set}
use Rattle.talk_laws.specs.link_talk.specs.Channels.{is_alive, Entry, reading}
use Rattle.talk_laws.specs.link_talk.specs.Carriages.{Carriage}
use Rattle.talk_laws.specs.link_talk.specs.GrowingLaws.{has_opened}
use Rattle.talk_laws.specs.link_talk.specs.Sdus.{sdus}
use Rattle.channel_model.specs.declared.event.ChannelEvent.{ChannelEvent}
use Rattle.channel_model.specs.Value.{Carrier, Plain, Retransmitting, Stage, Requested, Connected, Leaving, Closing, Crossed, Held, Channels}
use Rattle.channel_model.specs.Policies.{Policy}
use Rattle.channel_model.specs.Changing.{has_own, held_at, setup_of}
use Rattle.channel_model.specs.Hearing.{hears_commands, up}
use Rattle.channel_model.specs.Carrying.{takes, takes_on, takes_held, Up, Nothing, sdu_at, up_by, up_on, up_at}
use Rattle.channel_model.specs.Calls.{carrier_at, carrier_with, connected, asks_features, disconnected, sends, after_event}
use Rattle.channel_model.specs.Giving.{Given, Signal, Whole, Framed, carrier_given, next_given, after_given}
use Rattle.channel_model.specs.Timing.{timed_out}
use Rattle.channel_model.specs.Telling.{is_by_machine, closes_for, is_told_closed, is_told_broken}
use Rattle.channel_model.proofs.Lookups.{own_of, found-has, and_off}
use Rattle.channel_model.proofs.Going.{Walks}
use Rattle.channel_model.proofs.Walking.{append_none, found-own, commands-go}
use Rattle.channel_model.proofs.Calling.{connected-goes, asks-features-goes, disconnected-goes, sends-goes, takes-goes, timed-goes, given-goes}
use Rattle.own_channel_laws.specs.Views.{peer_of, life_of, standing, read_at}
use Rattle.own_channel_laws.specs.OwnTalk.{asked_between, said_with_all}
use Rattle.own_channel_laws.specs.Runs.{Occurrence, Comes, Connects, AsksFeatures, Disconnects, Sends, Gives, Fires, Tells, peer_at, said_by_carrier, said_as, said_in, Run, new_link, run_on, arisen, sdu_up, sdus_up}
use Rattle.own_channel_laws.specs.Sdus.{StatesFrame, IsHandedUp, SdusAreRead}
use Rattle.own_channel_laws.proofs.Sound.{AgreesIf, ReadsBy, Reads}
use Rattle.own_channel_laws.proofs.Telling.{StageTold, HeldTold, RunTold, one_told, nothing_told, Anything}
use Rattle.talk_laws.specs.link_talk.specs.Carriages.{is_heard}
use Rattle.own_channel_laws.proofs.Carriages.{into-here, into-else}
use Rattle.own_channel_laws.proofs.Signalling.{bare-asked, bare-left, bare-with_all, bare-fired, bare-comes}
use Rattle.own_channel_laws.proofs.Stretching.{heard_on, NoneComes, StaysHeard, opens, nothing-heard, one-heard, stays-heard}
use Rattle.own_channel_laws.proofs.Attending.{StageAttends, HeldAttends, AllAttend, AttendsOn, BesideCarrier, submits-aside, gives-aside, fires-aside, walks-attend}
use Rattle.own_channel_laws.proofs.Taking.{takes-others}
use Rattle.own_channel_laws.proofs.Receiving.{not-broken, up-nothing, Before, Behind, unchanged, connected_comes, left_setup}
use Rattle.own_channel_laws.proofs.Running.{IsSound, along}

-- ---- whatever the channel is

-- once broken, it stays so
abbrev Grows : (own : ℕ) (earlier : List ChannelEvent) (v w : Channels) → Type 0
Grows own earlier v w = is_told_broken own (earlier ++ v.events) ≡ true → is_told_broken own (earlier ++ w.events) ≡ true

still_handed : (broken broken' : Bool) (up up' said said' : List (List ℕ)) → (broken ≡ true → broken' ≡ true) → up' ≡ up → said' ≡ said → IsHandedUp broken up said → IsHandedUp broken' up' said'
still_handed broken broken' up up' said said' grows same also (inl is) = inl (also ∙ (is ∙ sym same))
still_handed broken broken' up up' said said' grows same also (inr (was, sdu, is)) = inr (grows was, sdu, also ∙ (is ∙ ap (λ u. u ++ sdu ∷ []) (sym same)))

stage_comes : (policy : Policy) (party : Party) (own : ℕ) (pdu : List ℕ) (earlier : List ChannelEvent) (ups : List Up) (pdus pdus' so_far now : List (List ℕ)) (v : Channels) (held : Held) (found : Option Entry) (closed : Bool) (stage : Stage)
    → held.own ≡ own → held.stage ≡ stage → find (has_own held.own) v.held ≡ Some held → ReadsBy policy held (peer_of stage) found → StageTold stage closed → closed ≡ is_told_closed own (earlier ++ v.events)
    → HeldAttends policy party.frame pdus (find (has_own own) v.held) → IsHandedUp (is_told_broken own (earlier ++ v.events)) (sdus_up own ups) so_far → Before policy party own pdu earlier ups pdus pdus' so_far now found
    → Grows own earlier v (takes_on (setup_of stage) pdu held v)
    → Behind policy party own earlier (sdus_up own (ups ++ up_by (sdu_at stage pdu) held ∷ [])) pdus' now (takes_on (setup_of stage) pdu held v)
stage_comes policy party own pdu earlier ups pdus pdus' so_far now v held None closed (Requested request) same is at reads told closed_is attends handed before grows =
    unchanged policy party own earlier (sdus_up own ups) _ pdus pdus' so_far now v attends handed (up-nothing own ups Nothing refl) (before.passes refl)
stage_comes policy party own pdu earlier ups pdus pdus' so_far now v held (Some entry) closed (Requested request) same is at reads told closed_is attends handed before grows = elim reads [ ]
stage_comes policy party own pdu earlier ups pdus pdus' so_far now v held None closed (Connected peer setup) same is at reads told closed_is attends handed before grows = elim reads [ ]
stage_comes policy party own pdu earlier ups pdus pdus' so_far now v held (Some entry) closed (Connected peer setup) same is at (there, agrees) (stated, shut) closed_is attends handed before grows =
    connected_comes policy party own pdu earlier ups pdus pdus' so_far now v held peer setup entry (record {
      own_is = same;
      stage_is = is;
      found = at;
      agrees = subst (λ s. AgreesIf (policy.wish held.psm) (standing s) entry.setup) is agrees;
      alive = ap is_alive (there.life_is ∙ ap life_of is);
      stated = stated;
      unbroken = not-broken own (earlier ++ v.events) (sym closed_is ∙ shut);
      attends = subst (StageAttends (policy.wish held.psm) party.frame pdus) is (subst (HeldAttends policy party.frame pdus) (ap (λ n. find (has_own n) v.held) (sym same) ∙ at) attends);
      attends_v = attends;
      handed = handed;
      before = before;
    })
stage_comes policy party own pdu earlier ups pdus pdus' so_far now v held None closed (Leaving peer setup request) same is at reads told closed_is attends handed before grows = elim reads [ ]
stage_comes policy party own pdu earlier ups pdus pdus' so_far now v held (Some entry) closed (Leaving peer setup request) same is at (there, agrees) told closed_is attends handed before grows =
    let passes = before.passes (ap (λ b. is_set entry.setup && b) (ap is_alive (there.life_is ∙ ap life_of is)) ∙ and_off (is_set entry.setup)) in (
      left_setup policy party.frame own pdu pdus' v held peer setup request same is at,
      still_handed _ _ (sdus_up own ups) _ so_far now grows (up-nothing own ups Nothing refl) passes.1 handed,
    )
stage_comes policy party own pdu earlier ups pdus pdus' so_far now v held found closed (Closing peer request checked) same is at reads told closed_is attends handed before grows =
    unchanged policy party own earlier (sdus_up own ups) _ pdus pdus' so_far now v attends handed (up-nothing own ups Nothing refl) (before.passes (over found reads))
  where
    over : (found : Option Entry) → ReadsBy policy held (Some peer) found → opens found ≡ false
    over None reads = refl
    over (Some entry) reads = ap (λ b. is_set entry.setup && b) (ap is_alive (reads.0.life_is ∙ ap life_of is)) ∙ and_off (is_set entry.setup)
stage_comes policy party own pdu earlier ups pdus pdus' so_far now v held found closed (Crossed peer request) same is at reads told closed_is attends handed before grows =
    unchanged policy party own earlier (sdus_up own ups) _ pdus pdus' so_far now v attends handed (up-nothing own ups Nothing refl) (before.passes (over found reads))
  where
    over : (found : Option Entry) → ReadsBy policy held (Some peer) found → opens found ≡ false
    over None reads = refl
    over (Some entry) reads = ap (λ b. is_set entry.setup && b) (ap is_alive (reads.0.life_is ∙ ap life_of is)) ∙ and_off (is_set entry.setup)

held_comes : (policy : Policy) (party : Party) (own : ℕ) (pdu : List ℕ) (earlier : List ChannelEvent) (ups : List Up) (pdus pdus' so_far now : List (List ℕ)) (v : Channels) (held : Option Held) (found : Option Entry)
    → find (has_own own) v.held ≡ held → Reads policy held found → HeldTold held (is_told_closed own (earlier ++ v.events)) → HeldAttends policy party.frame pdus (find (has_own own) v.held)
    → IsHandedUp (is_told_broken own (earlier ++ v.events)) (sdus_up own ups) so_far → Before policy party own pdu earlier ups pdus pdus' so_far now found → Grows own earlier v (takes_held held pdu v)
    → Behind policy party own earlier (sdus_up own (ups ++ up_on held pdu ∷ [])) pdus' now (takes_held held pdu v)
held_comes policy party own pdu earlier ups pdus pdus' so_far now v None None is reads told attends handed before grows =
    unchanged policy party own earlier (sdus_up own ups) _ pdus pdus' so_far now v attends handed (up-nothing own ups Nothing refl) (before.passes refl)
held_comes policy party own pdu earlier ups pdus pdus' so_far now v None (Some entry) is reads told attends handed before grows =
    unchanged policy party own earlier (sdus_up own ups) _ pdus pdus' so_far now v attends handed (up-nothing own ups Nothing refl)
    (before.passes (ap (λ b. is_set entry.setup && b) (ap is_alive reads) ∙ and_off (is_set entry.setup)))
held_comes policy party own pdu earlier ups pdus pdus' so_far now v (Some held) found is reads told attends handed before grows =
    stage_comes policy party own pdu earlier ups pdus pdus' so_far now v held found (is_told_closed own (earlier ++ v.events)) held.stage (found-has own_of own v.held held is) refl (found-own own v held is) reads told refl attends handed before grows

-- ---- what is said besides

none_carrier : (carrier : Option Carrier) (peer : ℕ) (sdu : List ℕ) → NoneComes (said_by_carrier carrier peer sdu)
none_carrier None peer sdu = refl
none_carrier (Some (Plain agreed None)) peer sdu = refl
none_carrier (Some (Plain agreed (Some waiting))) peer sdu = refl
none_carrier (Some (Retransmitting machine)) peer sdu = refl

none_given : (given : Option Given) (pdu : List ℕ) → NoneComes (said_as given pdu)
none_given None pdu = refl
none_given (Some (Signal command)) pdu = refl
none_given (Some (Whole peer sdu)) pdu = refl
none_given (Some (Framed peer frame)) pdu = refl

-- ---- events only come behind others

abbrev Gains : Channels → Channels → Type 0
Gains v w = (more : List ChannelEvent) × (w.events ≡ v.events ++ more)

walks_gain : (policy : Policy) → Walks policy Anything Gains
walks_gain policy = record {
  same = λ carrier. tt;
  still = λ v w held_is next_is events_are. ([], events_are ∙ append_none v.events);
  tells = λ v w event held_is next_is events_are other. (event ∷ [], events_are);
  both = λ v u w first second. (first.0 ++ second.0, second.1 ∙ (ap (λ es. es ++ second.0) first.1 ∙ append_assoc v.events first.0 second.0));
  made = λ v w psm stage is held_is next_is events_are. ([], events_are ∙ append_none v.events);
  moves = λ v w held after more moves. (more, moves.events_are);
}

any_front : (p : ChannelEvent → Bool) (xs ys : List ChannelEvent) → list_any p xs ≡ true → list_any p (xs ++ ys) ≡ true
any_front p [] ys is = cc
any_front p (x ∷ xs) ys is = by (p x) is (any_front p xs ys)
  where
    by : (now : Bool) → (now || list_any p xs) ≡ true → (list_any p xs ≡ true → list_any p (xs ++ ys) ≡ true) → (now || list_any p (xs ++ ys)) ≡ true
    by true all later = refl
    by false all later = later all

gains_grow : (own : ℕ) (earlier : List ChannelEvent) (v w : Channels) → Gains v w → Grows own earlier v w
gains_grow own earlier v w (more, is) was =
    ap (λ es. is_told_broken own (earlier ++ es)) is ∙ (ap (is_told_broken own) (sym (append_assoc earlier v.events more)) ∙ any_front (closes_for is_by_machine own) (earlier ++ v.events) more was)

-- ---- a run

abbrev pub channel_at : Channel → (own : ℕ) → Channel
channel_at channel own = record channel { own = own }

pub record RunUp (policy : Policy) (party : Party) (channel : Channel) (run : Run) : Type 0 where
  pub told : RunTold run
  pub attend : AllAttend policy party.frame (λ own. heard_on (channel_at channel own) run.said) run.value
  pub handed : (own : ℕ) → IsHandedUp (is_told_broken own (arisen run)) (sdus_up own run.up) (sdus party (channel_at channel own) Into run.said)

with_came : (policy : Policy) (frame : ℕ) (came came' : ℕ → List (List ℕ)) (v : Channels) → ((own : ℕ) → came' own ≡ came own) → AllAttend policy frame came v → AllAttend policy frame came' v
with_came policy frame came came' v same all = record {
  at = λ own. subst (λ p. HeldAttends policy frame p (find (has_own own) v.held)) (sym (same own)) (all.at own);
  fresh = λ own psm above. ap (frames_in frame) (same own) ∙ all.fresh own psm above;
  below = all.below;
}

-- nothing comes in on a channel
quiet_up : (policy : Policy) (party : Party) (channel : Channel) (run : Run) (said : List Saying) (told : List ChannelEvent) (w : Channels) → NoneComes said
    → AttendsOn policy party.frame (λ own. heard_on (channel_at channel own) run.said) run.value w
    → ((own : ℕ) → is_told_broken own (arisen run) ≡ true → is_told_broken own ((run.told ++ told) ++ w.events) ≡ true) → RunUp policy party channel run
    → (let after : Run = record { said = run.said ++ said; told = run.told ++ told; up = run.up ++ Nothing ∷ []; value = w } in RunTold after → RunUp policy party channel after)
quiet_up policy party channel run said told w none goes grows so_far now = record {
  told = now;
  attend = with_came policy party.frame (λ own. heard_on (channel_at channel own) run.said) (λ own. heard_on (channel_at channel own) (run.said ++ said)) w
      (λ own. (stays-heard party (channel_at channel own) said run.said none).heard_is) (goes so_far.attend);
  handed = λ own. still_handed _ _ (sdus_up own run.up) _ (sdus party (channel_at channel own) Into run.said) _ (grows own) (up-nothing own run.up Nothing refl)
      (stays-heard party (channel_at channel own) said run.said none).sdus_are (so_far.handed own);
}

-- what arises while nothing is told
gains_on : (run : Run) (w : Channels) → Gains run.value w → (own : ℕ) → is_told_broken own (arisen run) ≡ true → is_told_broken own ((run.told ++ []) ++ w.events) ≡ true
gains_on run w gains own was = ap (λ es. is_told_broken own (es ++ w.events)) (sym (append_none run.told)) ∙ gains_grow own run.told run.value w gains was

-- ---- a PDU comes in

abbrev comes_run : Policy → Run → List ℕ → Bool → Run
comes_run policy run pdu signals =
    record {
      said = run.said ++ cond signals (said_with_all policy (answers (drop 4 pdu)) run.value) (Carried Into pdu ∷ asked_between run.value (takes (channel_of pdu) pdu run.value));
      told = run.told ++ [];
      up = run.up ++ cond signals Nothing (up_at (channel_of pdu) pdu run.value) ∷ [];
      value = cond signals (hears_commands policy (answers (drop 4 pdu)) run.value) (takes (channel_of pdu) pdu run.value);
    }

up_apart : (own k : ℕ) (pdu : List ℕ) (v : Channels) (held : Option Held) → find (has_own k) v.held ≡ held → eqb k own ≡ false → sdu_up own (up_on held pdu) ≡ None
up_apart own k pdu v None is apart = refl
up_apart own k pdu v (Some held) is apart = by (sdu_at held.stage pdu)
  where
    by : (sdu : Option (List ℕ)) → sdu_up own (up_by sdu held) ≡ None
    by None = refl
    by (Some sdu) = ap (λ n. cond (eqb n own) (Some sdu) None) (found-has own_of k v.held held is) ∙ ap (λ t. cond t (Some sdu) None) apart

opened_set : (found : Option Entry) → opens found ≡ true → has_opened found ≡ true
opened_set None is = is
opened_set (Some entry) is = by (is_set entry.setup) is
  where
    by : (set : Bool) → (set && is_alive entry.life) ≡ true → set ≡ true
    by true all = refl
    by false all = all

-- what is carried of it
pub before_comes : (policy : Policy) (party : Party) (channel : Channel) (run : Run) (pdu : List ℕ) → IsSound policy run → eqb (channel_of pdu) channel.own ≡ true
    → (let more : List Saying = run.said ++ Carried Into pdu ∷ [] in
    Before policy party channel.own pdu run.told run.up (heard_on channel run.said) (heard_on channel more) (sdus party channel Into run.said) (sdus party channel Into more) (read_at channel.own (reading run.said).entries))
before_comes policy party channel run pdu sound same =
    let one : Carriage = record { flow = Into; pdu = pdu } in
    let now = into-here is_heard channel run.said pdu same in
    record {
      passes = λ shut.
          let stays : StaysHeard party channel run.said (run.said ++ Carried Into pdu ∷ []) = nothing-heard party channel run.said (Carried Into pdu) (now ∙ ap (λ t. cond t (one ∷ []) []) shut) in
          (stays.heard_is, stays.sdus_are);
      carries = λ opened. one-heard party channel run.said pdu (opened_set (read_at channel.own (reading run.said).entries) opened) (now ∙ ap (λ t. cond t (one ∷ []) []) opened);
      so_far = refl;
    }

-- at each endpoint
abbrev At : Policy → Party → Channel → (told : List ChannelEvent) (ups : List Up) (said : List Saying) (w : Channels) (own : ℕ) → Type 0
At policy party channel told ups said w own =
    HeldAttends policy party.frame (heard_on (channel_at channel own) said) (find (has_own own) w.held)
    × IsHandedUp (is_told_broken own (told ++ w.events)) (sdus_up own ups) (sdus party (channel_at channel own) Into said)

commands_behind : (policy : Policy) (party : Party) (channel : Channel) (told : List ChannelEvent) (ups : List Up) (said asked : List Saying) (w : Channels) (own : ℕ) → NoneComes asked → At policy party channel told ups said w own
    → At policy party channel told ups (said ++ asked) w own
commands_behind policy party channel told ups said asked w own none (attends, handed) =
    let stays = stays-heard party (channel_at channel own) asked said none in (
      subst (λ p. HeldAttends policy party.frame p (find (has_own own) w.held)) (sym stays.heard_is) attends,
      subst (IsHandedUp (is_told_broken own (told ++ w.events)) (sdus_up own ups)) (sym stays.sdus_are) handed,
    )

takes_at : (policy : Policy) (party : Party) (channel : Channel) (run : Run) (pdu : List ℕ) → IsSound policy run → RunUp policy party channel run → (own : ℕ)
    → At policy party channel run.told (run.up ++ up_at (channel_of pdu) pdu run.value ∷ []) (run.said ++ Carried Into pdu ∷ []) (takes (channel_of pdu) pdu run.value) own
takes_at policy party channel run pdu sound so_far own = by (eqb (channel_of pdu) own) refl
  where
    by : (same : Bool) → eqb (channel_of pdu) own ≡ same → At policy party channel run.told (run.up ++ up_at (channel_of pdu) pdu run.value ∷ []) (run.said ++ Carried Into pdu ∷ []) (takes (channel_of pdu) pdu run.value) own
    by true is =
        subst (λ n. At policy party channel run.told (run.up ++ up_at n pdu run.value ∷ []) (run.said ++ Carried Into pdu ∷ []) (takes n pdu run.value) own) (sym (eqb-true (channel_of pdu) own is))
        (held_comes policy party own pdu run.told run.up (heard_on (channel_at channel own) run.said) (heard_on (channel_at channel own) (run.said ++ Carried Into pdu ∷ []))
        (sdus party (channel_at channel own) Into run.said) (sdus party (channel_at channel own) Into (run.said ++ Carried Into pdu ∷ [])) run.value
        (held_at own run.value) (read_at own (reading run.said).entries) refl (sound.core.reads own) (so_far.told.at own) (so_far.attend.at own) (so_far.handed own)
        (before_comes policy party (channel_at channel own) run pdu sound is)
        (gains_grow own run.told run.value (takes own pdu run.value) (takes-goes policy Anything Gains (walks_gain policy) own pdu run.value (λ machine open'. tt))))
    by false is =
        let k : ℕ = channel_of pdu in
        let stays = nothing-heard party (channel_at channel own) run.said (Carried Into pdu) (into-else is_heard (channel_at channel own) run.said pdu is) in (
          subst (HeldAttends policy party.frame (heard_on (channel_at channel own) (run.said ++ Carried Into pdu ∷ []))) (sym ((takes-others k pdu run.value).others own is))
              (subst (λ p. HeldAttends policy party.frame p (find (has_own own) run.value.held)) (sym stays.heard_is) (so_far.attend.at own)),
          still_handed _ _ (sdus_up own run.up) _ (sdus party (channel_at channel own) Into run.said) _
              (gains_grow own run.told run.value (takes k pdu run.value) (takes-goes policy Anything Gains (walks_gain policy) k pdu run.value (λ machine open'. tt)))
              (up-nothing own run.up (up_at k pdu run.value) (up_apart own k pdu run.value (held_at k run.value) refl is)) stays.sdus_are (so_far.handed own),
        )

-- an endpoint that was not given yet hears nothing
fresh_heard : (policy : Policy) (party : Party) (channel : Channel) (run : Run) (pdu : List ℕ) → IsSound policy run → (own : ℕ) → read_at own (reading run.said).entries ≡ None
    → heard_on (channel_at channel own) (run.said ++ Carried Into pdu ∷ []) ≡ heard_on (channel_at channel own) run.said
fresh_heard policy party channel run pdu sound own none = by (eqb (channel_of pdu) own) refl
  where
    by : (same : Bool) → eqb (channel_of pdu) own ≡ same → heard_on (channel_at channel own) (run.said ++ Carried Into pdu ∷ []) ≡ heard_on (channel_at channel own) run.said
    by true is = ((before_comes policy party (channel_at channel own) run pdu sound is).passes (ap opens none)).0
    by false is = (nothing-heard party (channel_at channel own) run.said (Carried Into pdu) (into-else is_heard (channel_at channel own) run.said pdu is)).heard_is

pub fresh-held : (own k : ℕ) (pdu : List ℕ) (v : Channels) → find (has_own own) v.held ≡ None → find (has_own own) (takes k pdu v).held ≡ None
fresh-held own k pdu v none = by (eqb k own) refl
  where
    by : (same : Bool) → eqb k own ≡ same → find (has_own own) (takes k pdu v).held ≡ None
    by true is =
        let here : find (has_own k) v.held ≡ None = ap (λ n. find (has_own n) v.held) (eqb-true k own is) ∙ none in
        ap (λ h. find (has_own own) (takes_held h pdu v).held) here ∙ none
    by false is = (takes-others k pdu v).others own is ∙ none

carried_up : (policy : Policy) (party : Party) (channel : Channel) (run : Run) (pdu : List ℕ) → IsSound policy run → RunUp policy party channel run → RunTold (comes_run policy run pdu false) → RunUp policy party channel (comes_run policy run pdu false)
carried_up policy party channel run pdu sound so_far told =
    let k : ℕ = channel_of pdu in
    let w : Channels = takes k pdu run.value in
    let asked : List Saying = asked_between run.value w in
    let before : List Saying = run.said ++ Carried Into pdu ∷ [] in
    let whole : before ++ asked ≡ run.said ++ (Carried Into pdu ∷ asked) = append_assoc run.said (Carried Into pdu ∷ []) asked in
    let next_is : w.next ≡ run.value.next = (takes-others k pdu run.value).next_is in
    let at : (own : ℕ) → At policy party channel run.told (run.up ++ up_at k pdu run.value ∷ []) (run.said ++ (Carried Into pdu ∷ asked)) w own = λ own.
    subst (λ s. At policy party channel run.told (run.up ++ up_at k pdu run.value ∷ []) s w own) whole
    (commands_behind policy party channel run.told (run.up ++ up_at k pdu run.value ∷ []) before asked w own (bare-comes asked (bare-asked run.value w)) (takes_at policy party channel run pdu sound so_far own)) in
    record {
      told = told;
      attend = record {
        at = λ own. (at own).0;
        fresh = λ own psm above.
            let high : run.value.next ≤ own = omega (arith, next_is, above) in
            ap (λ s. frames_in party.frame (heard_on (channel_at channel own) s)) (sym whole)
            ∙ (ap (frames_in party.frame) ((stays-heard party (channel_at channel own) asked before (bare-comes asked (bare-asked run.value w))).heard_is
            ∙ fresh_heard policy party channel run pdu sound own (sound.core.read_below own high)) ∙ so_far.attend.fresh own psm high);
        below = λ own above. fresh-held own k pdu run.value (so_far.attend.below own (omega (arith, next_is, above)));
      };
      handed = λ own. subst (λ es. IsHandedUp (is_told_broken own (es ++ w.events)) (sdus_up own (run.up ++ up_at k pdu run.value ∷ [])) (sdus party (channel_at channel own) Into (run.said ++ (Carried Into pdu ∷ asked)))) (append_none run.told) (at own).1;
    }

-- ---- whatever happens

beside_given : (carrier : Carrier) → BesideCarrier carrier (carrier_given carrier)
beside_given (Plain agreed waiting) = tt
beside_given (Retransmitting machine) = inr (gives-aside machine)

beside_sent : (sdu : List ℕ) (carrier : Carrier) → BesideCarrier carrier (carrier_with carrier sdu)
beside_sent sdu (Plain agreed waiting) = tt
beside_sent sdu (Retransmitting machine) = inr (submits-aside sdu machine)

comes_up : (policy : Policy) (party : Party) (channel : Channel) (run : Run) (pdu : List ℕ) (signals : Bool) → StatesFrame policy party → IsSound policy run → RunUp policy party channel run → RunTold (comes_run policy run pdu signals)
    → RunUp policy party channel (comes_run policy run pdu signals)
comes_up policy party channel run pdu true states sound so_far told =
    quiet_up policy party channel run (said_with_all policy (answers (drop 4 pdu)) run.value) [] (hears_commands policy (answers (drop 4 pdu)) run.value) (bare-comes (said_with_all policy (answers (drop 4 pdu)) run.value) (bare-with_all policy (answers (drop 4 pdu)) run.value))
    (commands-go policy BesideCarrier (AttendsOn policy party.frame (λ own. heard_on (channel_at channel own) run.said)) (walks-attend policy party.frame (λ own. heard_on (channel_at channel own) run.said) states) (answers (drop 4 pdu)) run.value)
    (gains_on run (hears_commands policy (answers (drop 4 pdu)) run.value) (commands-go policy Anything Gains (walks_gain policy) (answers (drop 4 pdu)) run.value)) so_far told
comes_up policy party channel run pdu false states sound so_far told = carried_up policy party channel run pdu sound so_far told

tells_same : (told events : List ChannelEvent) → (told ++ option_to_list (slice_get events 0)) ++ drop 1 events ≡ told ++ events
tells_same told [] = append_assoc told [] []
tells_same told (event ∷ events) = append_assoc told (event ∷ []) events

one_up : (policy : Policy) (party : Party) (channel : Channel) (run : Run) (more : Occurrence) → StatesFrame policy party → IsSound policy run → RunUp policy party channel run → RunTold (run_on policy run more)
    → RunUp policy party channel (run_on policy run more)
one_up policy party channel run (Comes pdu) states sound so_far told = comes_up policy party channel run pdu (eqb (channel_of pdu) 0x0001) states sound so_far told
one_up policy party channel run (Connects psm) states sound so_far told =
    quiet_up policy party channel run (said_in policy (Connects psm) run.value) [] (connected psm run.value) (bare-comes (said_in policy (Connects psm) run.value) (bare-asked run.value (connected psm run.value)))
    (connected-goes policy BesideCarrier _ (walks-attend policy party.frame (λ own. heard_on (channel_at channel own) run.said) states) psm run.value) (gains_on run (connected psm run.value) (connected-goes policy Anything Gains (walks_gain policy) psm run.value)) so_far told
one_up policy party channel run AsksFeatures states sound so_far told =
    quiet_up policy party channel run (said_in policy AsksFeatures run.value) [] (asks_features run.value) (bare-comes (said_in policy AsksFeatures run.value) (bare-asked run.value (asks_features run.value)))
    (asks-features-goes policy BesideCarrier _ (walks-attend policy party.frame (λ own. heard_on (channel_at channel own) run.said) states) run.value) (gains_on run (asks_features run.value) (asks-features-goes policy Anything Gains (walks_gain policy) run.value)) so_far told
one_up policy party channel run (Disconnects own) states sound so_far told =
    let w : Channels = disconnected own run.value in
    quiet_up policy party channel run (said_in policy (Disconnects own) run.value) [] w (bare-comes (said_in policy (Disconnects own) run.value) (bare-left own run.value w))
    (disconnected-goes policy BesideCarrier _ (walks-attend policy party.frame (λ n. heard_on (channel_at channel n) run.said) states) own run.value) (gains_on run w (disconnected-goes policy Anything Gains (walks_gain policy) own run.value)) so_far told
one_up policy party channel run (Sends own sdu) states sound so_far told =
    quiet_up policy party channel run (said_in policy (Sends own sdu) run.value) [] (sends own sdu run.value) (none_carrier (carrier_at own run.value) (peer_at (held_at own run.value)) sdu)
    (sends-goes policy BesideCarrier _ (walks-attend policy party.frame (λ n. heard_on (channel_at channel n) run.said) states) own sdu run.value (beside_sent sdu))
    (gains_on run (sends own sdu run.value) (sends-goes policy Anything Gains (walks_gain policy) own sdu run.value (λ carrier. tt))) so_far told
one_up policy party channel run (Gives pdu) states sound so_far told =
    quiet_up policy party channel run (said_in policy (Gives pdu) run.value) [] (after_given run.value) (none_given (next_given run.value) pdu)
    (given-goes policy BesideCarrier _ (walks-attend policy party.frame (λ n. heard_on (channel_at channel n) run.said) states) run.value beside_given sound.core.lone)
    (gains_on run (after_given run.value) (given-goes policy Anything Gains (walks_gain policy) run.value (λ carrier. tt) sound.core.lone)) so_far told
one_up policy party channel run Fires states sound so_far told =
    quiet_up policy party channel run (said_in policy Fires run.value) [] (timed_out policy run.value) (bare-comes (said_in policy Fires run.value) (bare-fired policy.tries (map (λ held. held.own) run.value.held) run.value))
    (timed-goes policy BesideCarrier _ (walks-attend policy party.frame (λ n. heard_on (channel_at channel n) run.said) states) run.value (λ machine open'. inr (fires-aside machine open')))
    (gains_on run (timed_out policy run.value) (timed-goes policy Anything Gains (walks_gain policy) run.value (λ machine open'. tt))) so_far told
one_up policy party channel run Tells states sound so_far told =
    quiet_up policy party channel run [] (option_to_list (slice_get run.value.events 0)) (after_event run.value) refl
    (λ all. record { at = all.at; fresh = all.fresh; below = all.below })
    (λ own was. ap (is_told_broken own) (tells_same run.told run.value.events) ∙ was) so_far told

first_up : (policy : Policy) (party : Party) (channel : Channel) → RunUp policy party channel new_link
first_up policy party channel = record {
  told = nothing_told;
  attend = record { at = λ own. tt; fresh = λ own psm above. refl; below = λ own above. refl };
  handed = λ own. inl refl;
}

pub sdus-are_read : SdusAreRead
sdus-are_read policy party list channel states =
    let (sound, up) = along policy (RunUp policy party channel) (first_up policy party channel)
    (λ run more s so_far. one_up policy party channel run more states s so_far (one_told policy run more s.core.lone so_far.told)) list in
    up.handed channel.own
