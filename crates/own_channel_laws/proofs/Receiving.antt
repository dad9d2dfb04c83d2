-- A PDU comes in on a channel: what it hands up is what is read.
use Rattle.std.proofs.Common.{◌≡◌, ℕ, List, [], ◌∷◌, ◌++◌, Bool, true, false, cond, ◌||◌, ◌&&◌, eqb, Option, Some, None, Ok, Err, refl, sym, ap, subst, ◌∙◌, inl, inr, append-nil}
use Rattle.std.specs.Prelude.{find, drop, option_map, option_to_list, is_some}
use Rattle.std.specs.List.{list_any, filter_map, cons_option}
use Rattle.std.proofs.lemmas.List.Elements.{filter_map-append}
use Rattle.talk_laws.specs.ertm_frames.specs.Answers.{Answer}
use Rattle.talk_laws.specs.ertm_frames.specs.Reading.{frame_by, frame_in, frames_in}
use Rattle.channel_model.specs.ertm_model.specs.declared.reason.ErtmReason.{ErtmReason}
use Rattle.channel_model.specs.ertm_model.specs.declared.reason.ErtmReason.TheVariants as machines
use Rattle.channel_model.specs.ertm_model.specs.Value.{Ertm}
use Rattle.talk_laws.specs.l2cap_config.specs.declared.wish.Mode.{Mode}
use Rattle.talk_laws.specs.l2cap_config.specs.declared.wish.Mode.TheVariants.{Basic, Enhanced}
use Rattle.talk_laws.specs.l2cap_config.specs.declared.wish.Wish.{Wish}
use Rattle.talk_laws.specs.l2cap_config.specs.declared.wish.Agreed.{Agreed}
use Rattle.talk_laws.specs.link_talk.specs.declared.party.Party.{Party}
use Rattle.talk_laws.specs.link_talk.specs.Setups as read
use Rattle.talk_laws.specs.link_talk.specs.Setups.{is_set, is_enhanced, agreed_mode}
use Rattle.talk_laws.specs.link_talk.specs.Channels.{is_alive, Entry}
use Rattle.talk_laws.specs.link_talk.specs.Carriages.{entry_mode}
use Rattle.talk_laws.specs.link_talk.specs.Sdus.{sdus_by}
use Rattle.channel_model.specs.declared.event.ChannelEvent.{ChannelEvent}
use Rattle.channel_model.specs.declared.event.ChannelEvent.TheVariants.{Opened, Closed, Features, FeaturesLost, DisconnectLost}
use Rattle.channel_model.specs.Value.{Own, Unasked, Asking, Granted, Carrier, Plain, Retransmitting, Setup, Stage, Connected, Leaving, Closing, Held, Channels}
use Rattle.channel_model.specs.Policies.{Policy}
use Rattle.channel_model.specs.Changing.{has_own, is_stated, has_fcs_by, setup_of, stage_with, with_setup, is_open as is_set_up}
use Rattle.channel_model.specs.Configuring.{granted_setup}
use Rattle.channel_model.specs.Asking.{new_request}
use Rattle.channel_model.specs.Closing.{closes_at}
use Rattle.channel_model.specs.Carrying.{reason_of, settles_machine, machine_heard, machine_sdu, read_by, is_frame, is_taken_with, takes_on, Up, Nothing, Received, carried_sdu, sdu_with, up_by}
use Rattle.channel_model.specs.Telling.{any_reason, is_by_machine, closes_for, is_told_closed, is_told_broken}
use Rattle.channel_model.proofs.Lookups.{found-placed, eqb-same, and_off}
use Rattle.channel_model.proofs.Going.{IsStated, staged}
use Rattle.channel_model.proofs.Walking.{with-found}
use Rattle.talk_laws.proofs.Sdus.{sdus-more}
use Rattle.channel_model.specs.Value.{Request}
use Rattle.own_channel_laws.specs.Views.{carrier_mode}
use Rattle.own_channel_laws.specs.Runs.{sdu_up, sdus_up}
use Rattle.own_channel_laws.specs.Sdus.{IsHandedUp}
use Rattle.own_channel_laws.proofs.Sound.{Agrees, CarrierIs}
use Rattle.own_channel_laws.proofs.Stretching.{opens}
use Rattle.own_channel_laws.proofs.Attending.{Attends, CarrierAttends, StageAttends, HeldAttends}
use Rattle.own_channel_laws.proofs.HandedUp.{Hears, hears-pdu, closes-silent, broken-up, no-frame, same-sdus}
use Rattle.own_channel_laws.proofs.Taking.{Opens, takes-cases}
use Rattle.own_channel_laws.proofs.CheckWords.{stated_mode}

-- ---- what is told

or_right : (b : Bool) → (b || true) ≡ true
or_right true = refl
or_right false = refl

any_append : (p : ChannelEvent → Bool) (xs ys : List ChannelEvent) → list_any p ys ≡ true → list_any p (xs ++ ys) ≡ true
any_append p [] ys is = is
any_append p (x ∷ xs) ys is = ap (λ b. p x || b) (any_append p xs ys is) ∙ or_right (p x)

one_broken : (own : ℕ) (event : ChannelEvent) → closes_for any_reason own event ≡ false → closes_for is_by_machine own event ≡ false
one_broken own (Opened other psm) none = refl
one_broken own (Closed other psm reason) none = by (eqb other own) none
  where
    by : (same : Bool) → (same && true) ≡ false → (same && is_by_machine reason) ≡ false
    by true is = cc
    by false is = refl
one_broken own (Features features) none = refl
one_broken own FeaturesLost none = refl
one_broken own (DisconnectLost other) none = refl

pub not-broken : (own : ℕ) (events : List ChannelEvent) → is_told_closed own events ≡ false → is_told_broken own events ≡ false
not-broken own [] none = refl
not-broken own (event ∷ events) none = by (closes_for any_reason own event) refl none (λ rest. not-broken own events rest)
  where
    by : (now : Bool) → closes_for any_reason own event ≡ now → (now || list_any (closes_for any_reason own) events) ≡ false → (list_any (closes_for any_reason own) events ≡ false → list_any (closes_for is_by_machine own) events ≡ false)
        → (closes_for is_by_machine own event || list_any (closes_for is_by_machine own) events) ≡ false
    by true is all later = cc
    by false is all later = ap (λ b. b || list_any (closes_for is_by_machine own) events) (one_broken own event is) ∙ later all

by_machine : (reason : ErtmReason) → is_by_machine (reason_of reason) ≡ true
by_machine machines.BadReqSeq = refl
by_machine machines.Srej = refl
by_machine machines.BadSegment = refl
by_machine machines.RetryLimit = refl
by_machine machines.TooLongSdu = refl
by_machine machines.BadFrame = refl

broken_told : (own : ℕ) (held : Held) (reason : ErtmReason) (earlier : List ChannelEvent) (events : List ChannelEvent) → held.own ≡ own → is_told_broken own (earlier ++ (events ++ Closed held.own held.psm (reason_of reason) ∷ [])) ≡ true
broken_told own held reason earlier events same =
    any_append (closes_for is_by_machine own) earlier (events ++ Closed held.own held.psm (reason_of reason) ∷ [])
    (any_append (closes_for is_by_machine own) events (Closed held.own held.psm (reason_of reason) ∷ [])
    (ap (λ n. (eqb n own && is_by_machine (reason_of reason)) || false) same ∙ (ap (λ t. (t && is_by_machine (reason_of reason)) || false) (eqb-same own) ∙ ap (λ t. t || false) (by_machine reason))))

open_up : (broken : Bool) (up said : List (List ℕ)) → IsHandedUp broken up said → broken ≡ false → said ≡ up
open_up broken up said (inl same) shut = same
open_up broken up said (inr (is, one, rest)) shut = let never : true ≡ false = sym is ∙ shut in absurd cc

-- ---- what is handed up

up_more : (own : ℕ) (ups : List Up) (now : Up) → sdus_up own (ups ++ now ∷ []) ≡ sdus_up own ups ++ filter_map (sdu_up own) (now ∷ [])
up_more own ups now = filter_map-append (sdu_up own) ups (now ∷ [])

pub up-nothing : (own : ℕ) (ups : List Up) (now : Up) → sdu_up own now ≡ None → sdus_up own (ups ++ now ∷ []) ≡ sdus_up own ups
up-nothing own ups now none = up_more own ups now ∙ (ap (λ f. sdus_up own ups ++ cons_option f []) none ∙ append-nil (sdus_up own ups))

up_one : (own : ℕ) (ups : List Up) (held : Held) (sdu : Option (List ℕ)) → held.own ≡ own → sdus_up own (ups ++ up_by sdu held ∷ []) ≡ sdus_up own ups ++ option_to_list sdu
up_one own ups held None same = up_more own ups Nothing
up_one own ups held (Some sdu) same =
    up_more own ups (Received held.own held.psm sdu)
    ∙ (ap (λ n. sdus_up own ups ++ cons_option (cond (eqb n own) (Some sdu) None) []) same ∙ ap (λ t. sdus_up own ups ++ cons_option (cond t (Some sdu) None) []) (eqb-same own))

-- ---- a channel that is open in the talk

set_by : (wish : Wish) (setup : Setup) (said : read.Setup) (carrier : Carrier) → Agrees wish setup said → setup.carrier ≡ Some carrier → is_stated setup.own ≡ true → is_set said ≡ true
set_by wish setup said carrier agrees is stated =
    ap (λ (m : Option Mode). is_some m && is_some said.accepted) (agrees.set_up.asked_is ∙ stated_mode wish setup.own stated)
    ∙ ap (λ (m : Option Mode). is_some m) (agrees.set_up.accepted_is ∙ ap (option_map carrier_mode) is)

pub mode-by : (wish : Wish) (setup : Setup) (said : read.Setup) (carrier : Carrier) → Agrees wish setup said → setup.carrier ≡ Some carrier → is_stated setup.own ≡ true → agreed_mode said ≡ carrier_mode carrier
mode-by wish setup said carrier agrees is stated =
    ap (λ (m : Option Mode). cond (is_enhanced m && is_enhanced said.accepted) Enhanced Basic) (agrees.set_up.asked_is ∙ stated_mode wish setup.own stated)
    ∙ (ap (λ (m : Option Mode). cond (is_enhanced (Some wish.mode) && is_enhanced m) Enhanced Basic) (agrees.set_up.accepted_is ∙ ap (option_map carrier_mode) is)
    ∙ (ap (λ m. cond (is_enhanced (Some m) && is_enhanced (Some (carrier_mode carrier))) Enhanced Basic) (sym (subst (CarrierIs wish) is agrees.carrier_is)) ∙ both (carrier_mode carrier)))
  where
    both : (mode : Mode) → cond (is_enhanced (Some mode) && is_enhanced (Some mode)) Enhanced Basic ≡ mode
    both Basic = refl
    both Enhanced = refl

unset_by : (wish : Wish) (setup : Setup) (said : read.Setup) → Agrees wish setup said → setup.carrier ≡ None → is_set said ≡ false
unset_by wish setup said agrees is = ap (λ (m : Option Mode). is_some said.asked && is_some m) (agrees.set_up.accepted_is ∙ ap (option_map carrier_mode) is) ∙ and_off (is_some said.asked)

-- ---- the PDU

-- what came so far, on the channel of an own endpoint, and what comes now
pub record Before (policy : Policy) (party : Party) (own : ℕ) (pdu : List ℕ) (earlier : List ChannelEvent) (ups : List Up) (pdus pdus' sdus_so_far sdus_now : List (List ℕ)) (found : Option Entry) : Type 0 where
  -- it is carried, or it is not
  pub passes : opens found ≡ false → (pdus' ≡ pdus) × (sdus_now ≡ sdus_so_far)
  pub carries : opens found ≡ true → (pdus' ≡ pdus ++ pdu ∷ []) × (sdus_now ≡ sdus_by party.frame (entry_mode found) (pdus ++ pdu ∷ []))
  pub so_far : sdus_so_far ≡ sdus_by party.frame (entry_mode found) pdus

-- the channel behind it
abbrev pub Behind : Policy → Party → (own : ℕ) (earlier : List ChannelEvent) (up pdus' sdus_now : List (List ℕ)) → Channels → Type 0
Behind policy party own earlier up pdus' sdus_now w = HeldAttends policy party.frame pdus' (find (has_own own) w.held) × IsHandedUp (is_told_broken own (earlier ++ w.events)) up sdus_now

-- nothing is carried, and nothing changes
pub unchanged : (policy : Policy) (party : Party) (own : ℕ) (earlier : List ChannelEvent) (up up' pdus pdus' sdus_so_far sdus_now : List (List ℕ)) (v : Channels) → HeldAttends policy party.frame pdus (find (has_own own) v.held)
    → IsHandedUp (is_told_broken own (earlier ++ v.events)) up sdus_so_far → up' ≡ up → (pdus' ≡ pdus) × (sdus_now ≡ sdus_so_far) → Behind policy party own earlier up' pdus' sdus_now v
unchanged policy party own earlier up up' pdus pdus' sdus_so_far sdus_now v attends handed same (same_pdus, same_sdus) = (
  subst (λ p. HeldAttends policy party.frame p (find (has_own own) v.held)) (sym same_pdus) attends,
  subst (λ u. IsHandedUp (is_told_broken own (earlier ++ v.events)) u sdus_now) (sym same) (subst (IsHandedUp (is_told_broken own (earlier ++ v.events)) up) (sym same_sdus) handed),
)

-- ---- a channel on its way to its end

pub left_setup : (policy : Policy) (frame own : ℕ) (pdu : List ℕ) (pdus' : List (List ℕ)) (v : Channels) (held : Held) (peer : ℕ) (setup : Setup) (request : Request) → held.own ≡ own → held.stage ≡ Leaving peer setup request → find (has_own held.own) v.held ≡ Some held
    → HeldAttends policy frame pdus' (find (has_own own) (takes_on (Some setup) pdu held v).held)
left_setup policy frame own pdu pdus' v held peer setup request same is found =
    subst (λ n. HeldAttends policy frame pdus' (find (has_own n) (takes_on (Some setup) pdu held v).held)) same
    (takes-cases (λ w. HeldAttends policy frame pdus' (find (has_own held.own) w.held)) v pdu held setup (record {
      none = λ c. stays;
      ignored = λ carrier c t. stays;
      whole = λ u agreed waiting c t opens. at u (granted_setup setup) opens.here;
      framed = λ u machine c t opens. let after : Ertm = machine_heard (read_by machine pdu) machine in settled u after after.closed opens.here;
    }) found (ap setup_of is))
  where
    stays : HeldAttends policy frame pdus' (find (has_own held.own) v.held)
    stays = subst (HeldAttends policy frame pdus') (sym found) (subst (StageAttends (policy.wish held.psm) frame pdus') (sym is) tt)

    at : (u : Channels) (after : Setup) → find (has_own held.own) u.held ≡ Some (with_setup held after) → HeldAttends policy frame pdus' (find (has_own held.own) u.held)
    at u after here = subst (HeldAttends policy frame pdus') (sym here) (subst (λ s. StageAttends (policy.wish held.psm) frame pdus' (stage_with after s)) (sym is) tt)

    settled : (u : Channels) (machine : Ertm) (closed : Option ErtmReason) → find (has_own held.own) u.held ≡ Some (with_setup held (granted_setup setup))
        → HeldAttends policy frame pdus' (find (has_own held.own) (settles_machine closed machine (with_setup held (granted_setup setup)) (granted_setup setup) u).held)
    settled u machine None here =
        let base : Setup = granted_setup setup in
        let now : Setup = record base { carrier = Some (Retransmitting machine) } in
        subst (HeldAttends policy frame pdus') (sym (with-found u (with_setup held base) now here))
        (subst (λ s. StageAttends (policy.wish held.psm) frame pdus' (stage_with now (stage_with base s))) (sym is) tt)
    settled u machine (Some reason) here =
        let base : Setup = granted_setup setup in
        let at_end : Held = with_setup held base in
        subst (λ s. HeldAttends policy frame pdus' (find (has_own held.own) (closes_at (stage_with base s) (reason_of reason) at_end u).held)) (sym is)
        (subst (HeldAttends policy frame pdus') (sym (found-placed (staged at_end (Closing peer request (has_fcs_by base))) at_end u.held here)) tt)

-- ---- a channel that is there

attends_frames : (wish : Wish) (frame : ℕ) (pdus pdus' : List (List ℕ)) (opened : Bool) (carrier : Option Carrier) → frames_in frame pdus' ≡ frames_in frame pdus → CarrierAttends wish frame pdus opened carrier → CarrierAttends wish frame pdus' opened carrier
attends_frames wish frame pdus pdus' opened None same attends = same ∙ attends
attends_frames wish frame pdus pdus' opened (Some (Plain agreed waiting)) same attends = attends
attends_frames wish frame pdus pdus' opened (Some (Retransmitting machine)) same attends = record {
  agreed = attends.agreed;
  events = attends.events;
  machine_is = attends.machine_is;
  agreed_is = attends.agreed_is;
  came_is = attends.came_is ∙ sym same;
  small = attends.small;
  frame_is = attends.frame_is;
  open_is = attends.open_is;
  quiet = λ shut. same ∙ attends.quiet shut;
}

-- what is not taken is no frame
not_frame : (own : Own) (carrier : Carrier) (pdu : List ℕ) → is_stated own ≡ true → is_taken_with own carrier pdu ≡ false → (m : Ertm) × (carrier ≡ Retransmitting m) × (is_frame (read_by m pdu) ≡ false)
not_frame Unasked carrier pdu stated is = cc
not_frame (Asking request options) (Plain agreed waiting) pdu stated is = cc
not_frame (Asking request options) (Retransmitting m) pdu stated is = (m, refl, is)
not_frame Granted carrier pdu stated is = cc

frame_none : (found : Answer) → is_frame found ≡ false → frame_by found ≡ None
frame_none (Ok frame) is = cc
frame_none (Err refusal) is = refl

-- all that is known of a channel that hears
pub record Hearing (policy : Policy) (party : Party) (own : ℕ) (pdu : List ℕ) (earlier : List ChannelEvent) (ups : List Up) (pdus pdus' so_far now : List (List ℕ)) (v : Channels) (held : Held) (peer : ℕ) (setup : Setup) (entry : Entry) : Type 0 where
  pub own_is : held.own ≡ own
  pub stage_is : held.stage ≡ Connected peer setup
  pub found : find (has_own held.own) v.held ≡ Some held
  pub agrees : Agrees (policy.wish held.psm) setup entry.setup
  pub alive : is_alive entry.life ≡ true
  pub stated : IsStated setup
  pub unbroken : is_told_broken own (earlier ++ v.events) ≡ false
  pub attends : CarrierAttends (policy.wish held.psm) party.frame pdus (is_set_up setup) setup.carrier
  pub attends_v : HeldAttends policy party.frame pdus (find (has_own own) v.held)
  pub handed : IsHandedUp (is_told_broken own (earlier ++ v.events)) (sdus_up own ups) so_far
  pub before : Before policy party own pdu earlier ups pdus pdus' so_far now (Some entry)

abbrev up_now : (own : ℕ) (pdu : List ℕ) (ups : List Up) (held : Held) (setup : Setup) → List (List ℕ)
up_now own pdu ups held setup = sdus_up own (ups ++ up_by (sdu_with setup.carrier setup.own pdu) held ∷ [])

up_is : (own : ℕ) (pdu : List ℕ) (ups : List Up) (held : Held) (setup : Setup) (carrier : Carrier) (taken : Bool) → held.own ≡ own → setup.carrier ≡ Some carrier → is_taken_with setup.own carrier pdu ≡ taken
    → up_now own pdu ups held setup ≡ sdus_up own ups ++ option_to_list (cond taken (carried_sdu carrier pdu) None)
up_is own pdu ups held setup carrier taken same c t =
    ap (λ x. sdus_up own (ups ++ up_by (sdu_with x setup.own pdu) held ∷ [])) c
    ∙ (ap (λ b. sdus_up own (ups ++ up_by (cond b (carried_sdu carrier pdu) None) held ∷ [])) t ∙ up_one own ups held (cond taken (carried_sdu carrier pdu) None) same)

opens_is : (wish : Wish) (setup : Setup) (entry : Entry) (carrier : Carrier) → Agrees wish setup entry.setup → setup.carrier ≡ Some carrier → is_stated setup.own ≡ true → is_alive entry.life ≡ true → opens (Some entry) ≡ true
opens_is wish setup entry carrier agrees c stated alive = ap (λ b. b && is_alive entry.life) (set_by wish setup entry.setup carrier agrees c stated) ∙ alive

none_carried : (policy : Policy) (party : Party) (own : ℕ) (pdu : List ℕ) (earlier : List ChannelEvent) (ups : List Up) (pdus pdus' so_far now : List (List ℕ)) (v : Channels) (held : Held) (peer : ℕ) (setup : Setup) (entry : Entry)
    → Hearing policy party own pdu earlier ups pdus pdus' so_far now v held peer setup entry → setup.carrier ≡ None → Behind policy party own earlier (up_now own pdu ups held setup) pdus' now v
none_carried policy party own pdu earlier ups pdus pdus' so_far now v held peer setup entry h c =
    unchanged policy party own earlier (sdus_up own ups) (up_now own pdu ups held setup) pdus pdus' so_far now v h.attends_v h.handed
    (ap (λ x. sdus_up own (ups ++ up_by (sdu_with x setup.own pdu) held ∷ [])) c ∙ up-nothing own ups Nothing refl)
    (h.before.passes (ap (λ b. b && is_alive entry.life) (unset_by (policy.wish held.psm) setup entry.setup h.agrees c)))

ignored : (policy : Policy) (party : Party) (own : ℕ) (pdu : List ℕ) (earlier : List ChannelEvent) (ups : List Up) (pdus pdus' so_far now : List (List ℕ)) (v : Channels) (held : Held) (peer : ℕ) (setup : Setup) (entry : Entry)
    → Hearing policy party own pdu earlier ups pdus pdus' so_far now v held peer setup entry → (carrier : Carrier) → setup.carrier ≡ Some carrier → is_taken_with setup.own carrier pdu ≡ false
    → Behind policy party own earlier (up_now own pdu ups held setup) pdus' now v
ignored policy party own pdu earlier ups pdus pdus' so_far now v held peer setup entry h carrier c t =
    let wish : Wish = policy.wish held.psm in
    let stated : is_stated setup.own ≡ true = h.stated (ap is_some c) in
    let (m, carrier_is, none) = not_frame setup.own carrier pdu stated t in
    let attends : Attends party.frame pdus (is_set_up setup) m = subst (CarrierAttends wish party.frame pdus (is_set_up setup)) (c ∙ ap Some carrier_is) h.attends in
    let no : frame_in party.frame pdu ≡ None =
    ap (λ n. frame_in n pdu) (sym (ap (λ (a : Agreed). a.receive_mps) attends.agreed_is ∙ attends.frame_is)) ∙ frame_none (read_by m pdu) none in
    let carried = h.before.carries (opens_is wish setup entry carrier h.agrees c stated h.alive) in
    let frames : frames_in party.frame pdus' ≡ frames_in party.frame pdus = ap (frames_in party.frame) carried.0 ∙ no-frame party.frame pdus pdu no in
    let mode : agreed_mode entry.setup ≡ Enhanced = mode-by wish setup entry.setup carrier h.agrees c stated ∙ ap carrier_mode carrier_is in
    let same : now ≡ so_far =
    carried.1 ∙ (ap (λ x. sdus_by party.frame x (pdus ++ pdu ∷ [])) mode ∙ (same-sdus party.frame (pdus ++ pdu ∷ []) pdus (no-frame party.frame pdus pdu no)
    ∙ sym (h.before.so_far ∙ ap (λ x. sdus_by party.frame x pdus) mode))) in (
      subst (λ n. HeldAttends policy party.frame pdus' (find (has_own n) v.held)) h.own_is
          (subst (HeldAttends policy party.frame pdus') (sym h.found) (subst (StageAttends wish party.frame pdus') (sym h.stage_is) (attends_frames wish party.frame pdus pdus' (is_set_up setup) setup.carrier frames h.attends))),
      subst (λ u. IsHandedUp (is_told_broken own (earlier ++ v.events)) u now) (sym (up_is own pdu ups held setup carrier false h.own_is c t ∙ append-nil (sdus_up own ups)))
          (subst (IsHandedUp (is_told_broken own (earlier ++ v.events)) (sdus_up own ups)) (sym same) h.handed),
    )

taken_whole : (policy : Policy) (party : Party) (own : ℕ) (pdu : List ℕ) (earlier : List ChannelEvent) (ups : List Up) (pdus pdus' so_far now : List (List ℕ)) (v : Channels) (held : Held) (peer : ℕ) (setup : Setup) (entry : Entry)
    → Hearing policy party own pdu earlier ups pdus pdus' so_far now v held peer setup entry → (u : Channels) (agreed : Agreed) (waiting : Option (List ℕ)) → setup.carrier ≡ Some (Plain agreed waiting) → is_taken_with setup.own (Plain agreed waiting) pdu ≡ true
    → Opens v u held setup → Behind policy party own earlier (up_now own pdu ups held setup) pdus' now u
taken_whole policy party own pdu earlier ups pdus pdus' so_far now v held peer setup entry h u agreed waiting c t opens =
    let wish : Wish = policy.wish held.psm in
    let base : Setup = granted_setup setup in
    let stated : is_stated setup.own ≡ true = h.stated (ap is_some c) in
    let carried = h.before.carries (opens_is wish setup entry (Plain agreed waiting) h.agrees c stated h.alive) in
    let mode : agreed_mode entry.setup ≡ Basic = mode-by wish setup entry.setup (Plain agreed waiting) h.agrees c stated in
    let basic : CarrierAttends wish party.frame pdus' true setup.carrier = subst (CarrierAttends wish party.frame pdus' true) (sym c) (subst (CarrierAttends wish party.frame pdus (is_set_up setup)) c h.attends) in
    let so_far_up : so_far ≡ sdus_up own ups = open_up (is_told_broken own (earlier ++ v.events)) (sdus_up own ups) so_far h.handed h.unbroken in (
      subst (λ n. HeldAttends policy party.frame pdus' (find (has_own n) u.held)) h.own_is
          (subst (HeldAttends policy party.frame pdus') (sym opens.here)
          (subst (λ s. StageAttends wish party.frame pdus' (stage_with base s)) (sym h.stage_is) (subst (λ b. CarrierAttends wish party.frame pdus' b setup.carrier) (sym (ap (λ x. is_some x && true) c)) basic))),
      inl (carried.1 ∙ (ap (λ x. sdus_by party.frame x (pdus ++ pdu ∷ [])) mode ∙ (sdus-more party.frame Basic pdus pdu
          ∙ (ap (λ us. us ++ drop 4 pdu ∷ []) (sym (h.before.so_far ∙ ap (λ x. sdus_by party.frame x pdus) mode) ∙ so_far_up) ∙ sym (up_is own pdu ups held setup (Plain agreed waiting) true h.own_is c t))))),
    )

taken_framed : (policy : Policy) (party : Party) (own : ℕ) (pdu : List ℕ) (earlier : List ChannelEvent) (ups : List Up) (pdus pdus' so_far now : List (List ℕ)) (v : Channels) (held : Held) (peer : ℕ) (setup : Setup) (entry : Entry)
    → Hearing policy party own pdu earlier ups pdus pdus' so_far now v held peer setup entry → (u : Channels) (machine : Ertm) (closed : Option ErtmReason) → setup.carrier ≡ Some (Retransmitting machine)
    → is_taken_with setup.own (Retransmitting machine) pdu ≡ true → Opens v u held setup → (machine_heard (read_by machine pdu) machine).closed ≡ closed
    → Behind policy party own earlier (up_now own pdu ups held setup) pdus' now (settles_machine closed (machine_heard (read_by machine pdu) machine) (with_setup held (granted_setup setup)) (granted_setup setup) u)
taken_framed policy party own pdu earlier ups pdus pdus' so_far now v held peer setup entry h u machine None c t opens is =
    let wish : Wish = policy.wish held.psm in
    let base : Setup = granted_setup setup in
    let after : Ertm = machine_heard (read_by machine pdu) machine in
    let last : Setup = record base { carrier = Some (Retransmitting after) } in
    let stated : is_stated setup.own ≡ true = h.stated (ap is_some c) in
    let carried = h.before.carries (opens_is wish setup entry (Retransmitting machine) h.agrees c stated h.alive) in
    let mode : agreed_mode entry.setup ≡ Enhanced = mode-by wish setup entry.setup (Retransmitting machine) h.agrees c stated in
    let attends : Attends party.frame pdus (is_set_up setup) machine = subst (CarrierAttends wish party.frame pdus (is_set_up setup)) c h.attends in
    let hears : Hears party.frame pdus machine pdu = hears-pdu party.frame pdus (is_set_up setup) machine pdu attends is in
    let so_far_up : so_far ≡ sdus_up own ups = open_up (is_told_broken own (earlier ++ v.events)) (sdus_up own ups) so_far h.handed h.unbroken in (
      subst (λ n. HeldAttends policy party.frame pdus' (find (has_own n) (settles_machine None after (with_setup held base) base u).held)) h.own_is
          (subst (HeldAttends policy party.frame pdus') (sym (with-found u (with_setup held base) last opens.here))
          (subst (λ s. StageAttends wish party.frame pdus' (stage_with last (stage_with base s))) (sym h.stage_is) (subst (λ p. Attends party.frame p true after) (sym carried.0) hears.attends))),
      inl (carried.1 ∙ (ap (λ x. sdus_by party.frame x (pdus ++ pdu ∷ [])) mode ∙ (hears.sdus_are
          ∙ (ap (λ us. us ++ option_to_list (machine_sdu (read_by machine pdu) machine)) (sym (h.before.so_far ∙ ap (λ x. sdus_by party.frame x pdus) mode) ∙ so_far_up)
          ∙ sym (up_is own pdu ups held setup (Retransmitting machine) true h.own_is c t))))),
    )
taken_framed policy party own pdu earlier ups pdus pdus' so_far now v held peer setup entry h u machine (Some reason) c t opens is =
    let wish : Wish = policy.wish held.psm in
    let base : Setup = granted_setup setup in
    let at_end : Held = with_setup held base in
    let ending : Stage = Closing peer (new_request u) (has_fcs_by base) in
    let stated : is_stated setup.own ≡ true = h.stated (ap is_some c) in
    let carried = h.before.carries (opens_is wish setup entry (Retransmitting machine) h.agrees c stated h.alive) in
    let so_far_up : so_far ≡ sdus_up own ups = open_up (is_told_broken own (earlier ++ v.events)) (sdus_up own ups) so_far h.handed h.unbroken in
    subst (λ s. Behind policy party own earlier (up_now own pdu ups held setup) pdus' now (closes_at (stage_with base s) (reason_of reason) at_end u)) (sym h.stage_is) (
      subst (λ n. HeldAttends policy party.frame pdus' (find (has_own n) (closes_at (Connected peer base) (reason_of reason) at_end u).held)) h.own_is
          (subst (HeldAttends policy party.frame pdus') (sym (found-placed (staged at_end ending) at_end u.held opens.here)) tt),
      subst (λ x. IsHandedUp (is_told_broken own (earlier ++ (u.events ++ Closed held.own held.psm (reason_of reason) ∷ []))) x now)
          (sym (up_is own pdu ups held setup (Retransmitting machine) true h.own_is c t ∙ (ap (λ f. sdus_up own ups ++ option_to_list f) (closes-silent reason machine pdu is) ∙ append-nil (sdus_up own ups))))
          (subst (IsHandedUp (is_told_broken own (earlier ++ (u.events ++ Closed held.own held.psm (reason_of reason) ∷ []))) (sdus_up own ups)) (sym carried.1)
          (broken-up party.frame (agreed_mode entry.setup) pdus pdu (sdus_up own ups) (is_told_broken own (earlier ++ (u.events ++ Closed held.own held.psm (reason_of reason) ∷ [])))
          (broken_told own held reason earlier u.events h.own_is) (sym h.before.so_far ∙ so_far_up))),
    )

pub connected_comes : (policy : Policy) (party : Party) (own : ℕ) (pdu : List ℕ) (earlier : List ChannelEvent) (ups : List Up) (pdus pdus' so_far now : List (List ℕ)) (v : Channels) (held : Held) (peer : ℕ) (setup : Setup) (entry : Entry)
    → Hearing policy party own pdu earlier ups pdus pdus' so_far now v held peer setup entry → Behind policy party own earlier (up_now own pdu ups held setup) pdus' now (takes_on (Some setup) pdu held v)
connected_comes policy party own pdu earlier ups pdus pdus' so_far now v held peer setup entry h =
    takes-cases (Behind policy party own earlier (up_now own pdu ups held setup) pdus' now) v pdu held setup (record {
      none = λ c. none_carried policy party own pdu earlier ups pdus pdus' so_far now v held peer setup entry h c;
      ignored = λ carrier c t. ignored policy party own pdu earlier ups pdus pdus' so_far now v held peer setup entry h carrier c t;
      whole = λ u agreed waiting c t opens. taken_whole policy party own pdu earlier ups pdus pdus' so_far now v held peer setup entry h u agreed waiting c t opens;
      framed = λ u machine c t opens. taken_framed policy party own pdu earlier ups pdus pdus' so_far now v held peer setup entry h u machine (machine_heard (read_by machine pdu) machine).closed c t opens refl;
    }) h.found (ap setup_of h.stage_is)
