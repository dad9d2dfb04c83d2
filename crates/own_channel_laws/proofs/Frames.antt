-- A host holds the frames that its talk says that are not acknowledged, and awaits what it says.
use Rattle.std.proofs.Common.{◌≡◌, ℕ, List, [], ◌∷◌, ◌++◌, map, drop, Bool, true, false, cond, eqb, ◌&&◌, ◌||◌, Option, Some, None, refl, sym, ap, subst, ◌∙◌, inr, append_assoc, append-nil}
use Rattle.std.specs.Prelude.{option_map, is_some, nat_lt}
use Rattle.std.proofs.lemmas.List.Sums.{fold-append}
use Rattle.talk_laws.specs.acl_fragments.specs.Pieces.{channel_of}
use Rattle.talk_laws.specs.capture.specs.declared.flow.Flow.TheVariants.{Into}
use Rattle.talk_laws.specs.capture.specs.Histories.{EachAfter}
use Rattle.talk_laws.specs.l2cap_signal.specs.Reading.{answers}
use Rattle.talk_laws.specs.l2cap_config.specs.declared.wish.Mode.TheVariants.{Basic, Enhanced}
use Rattle.talk_laws.specs.ertm_frames.specs.Picking.{outs, ins, unacknowledged, poll_waits}
use Rattle.channel_model.specs.ertm_model.specs.Value.{Ertm, window_used as machine_window, armed as machine_armed}
use Rattle.talk_laws.specs.link_talk.specs.declared.channel.Channel.{Channel}
use Rattle.talk_laws.specs.link_talk.specs.declared.party.Party.{Party}
use Rattle.talk_laws.specs.link_talk.specs.Sayings.{Saying, Carried}
use Rattle.talk_laws.specs.link_talk.specs.Setups.{is_enhanced, agreed_mode}
use Rattle.talk_laws.specs.link_talk.specs.Channels.{reading}
use Rattle.talk_laws.specs.link_talk.specs.Carriages.{entry_mode, mode_of}
use Rattle.talk_laws.specs.link_talk.specs.Accounts.{frames_passed, waiting_frames, window_used}
use Rattle.talk_laws.specs.link_talk.specs.Waits.{frames_wait_in}
use Rattle.channel_model.specs.Value.{Own, Unasked, Asking, Granted, Carrier, Plain, Retransmitting, Setup, Held, Channels}
use Rattle.channel_model.specs.Policies.{Policy}
use Rattle.channel_model.specs.Changing.{is_stated, held_at, is_granted, is_open}
use Rattle.channel_model.specs.Hearing.{hears_commands}
use Rattle.channel_model.specs.Carrying.{takes}
use Rattle.channel_model.specs.Timing.{timed_out}
use Rattle.channel_model.specs.Calls.{setup_on, carrier_armed, carrier_window, connected, asks_features, disconnected, after_event}
use Rattle.channel_model.proofs.Lookups.{and_off}
use Rattle.channel_model.proofs.Walking.{commands-go}
use Rattle.channel_model.proofs.Calling.{connected-goes, asks-features-goes, disconnected-goes, timed-goes}
use Rattle.channel_model.proofs.Going.{Walks}
use Rattle.own_channel_laws.specs.OwnTalk.{asked_between, said_with_all}
use Rattle.own_channel_laws.specs.Runs.{Occurrence, Comes, Connects, AsksFeatures, Disconnects, Sends, Gives, Fires, Tells, given_up, said_by_channels, said_in, value_after, Run, new_link, run_on, run_of}
use Rattle.own_channel_laws.specs.Sdus.{StatesFrame}
use Rattle.own_channel_laws.specs.Frames.{IsUttered, AreUttered, HoldsFrames, FramesAreHeld}
use Rattle.own_channel_laws.specs.Views.{asked_mode, carrier_mode}
use Rattle.own_channel_laws.proofs.Sound.{CarrierIs, Sound}
use Rattle.own_channel_laws.proofs.CheckWords.{stated_mode}
use Rattle.own_channel_laws.proofs.Running.{all-sound, run-more}
use Rattle.own_channel_laws.proofs.Keeping.{KeepsOn, HeldKeeps, keep-also, walks-keep}
use Rattle.own_channel_laws.proofs.Signalling.{IsBare, bare-asked, bare-left, bare-with_all, bare-fired}
use Rattle.own_channel_laws.proofs.Incoming.{channel_at}
use Rattle.own_channel_laws.proofs.Passing.{Passing, CarrierPasses, Passed, Fired, keeps-passed, passing-used}
use Rattle.own_channel_laws.proofs.Passages.{bare-passes}
use Rattle.own_channel_laws.proofs.Holding.{frames_on, Pass, kept-setup, IsRead, is-read, comes-pass}
use Rattle.own_channel_laws.proofs.Outgoing.{pass-same, sends-pass, gives-pass}

-- ---- whatever happens

-- each of the steps but those that pass frames
walks : (policy : Policy) (party : Party) (channel : Channel) (past : List Saying) → StatesFrame policy party → Walks policy Fired (KeepsOn policy (λ own. Passed party.frame (frames_on party channel past own)))
walks policy party channel past states = walks-keep policy Fired (λ own. Passed party.frame (frames_on party channel past own)) (keeps-passed policy party.frame (λ own. frames_on party channel past own) states)

-- with what is said of signalling alone
bare_pass : (policy : Policy) (party : Party) (channel : Channel) (past said : List Saying) (w : Channels) → IsBare said → Pass policy party channel past w → Pass policy party channel (past ++ said) w
bare_pass policy party channel past said w bare all =
    keep-also policy (λ own. Passed party.frame (frames_on party channel past own)) (λ own. Passed party.frame (frames_on party channel (past ++ said) own)) w
    (λ own psm leaving opened carrier was. subst (λ fs. CarrierPasses party.frame fs (policy.wish psm) opened carrier) (sym (bare-passes party (channel_at channel own) said past bare)) was) all

comes_go : (policy : Policy) (party : Party) (channel : Channel) (past : List Saying) (v : Channels) (pdu : List ℕ) (signals : Bool) → StatesFrame policy party → Sound policy (reading past) v → Pass policy party channel past v
    → Pass policy party channel (past ++ cond signals (said_with_all policy (answers (drop 4 pdu)) v) (Carried Into pdu ∷ asked_between v (takes (channel_of pdu) pdu v))) (cond signals (hears_commands policy (answers (drop 4 pdu)) v) (takes (channel_of pdu) pdu v))
comes_go policy party channel past v pdu true states sound all =
    bare_pass policy party channel past (said_with_all policy (answers (drop 4 pdu)) v) (hears_commands policy (answers (drop 4 pdu)) v) (bare-with_all policy (answers (drop 4 pdu)) v)
    (commands-go policy Fired _ (walks policy party channel past states) (answers (drop 4 pdu)) v all)
comes_go policy party channel past v pdu false states sound all =
    let w : Channels = takes (channel_of pdu) pdu v in
    subst (λ said. Pass policy party channel said w) (append_assoc past (Carried Into pdu ∷ []) (asked_between v w))
    (bare_pass policy party channel (past ++ Carried Into pdu ∷ []) (asked_between v w) w (bare-asked v w) (comes-pass policy party channel past v pdu sound all))

occurs_go : (policy : Policy) (party : Party) (channel : Channel) (past : List Saying) (v : Channels) (more : Occurrence) → StatesFrame policy party → IsUttered more v → Sound policy (reading past) v → Pass policy party channel past v
    → Pass policy party channel (past ++ said_in policy more v) (value_after policy more v)
occurs_go policy party channel past v (Comes pdu) states uttered sound all = comes_go policy party channel past v pdu (eqb (channel_of pdu) 0x0001) states sound all
occurs_go policy party channel past v (Connects psm) states uttered sound all =
    let w : Channels = connected psm v in bare_pass policy party channel past (asked_between v w) w (bare-asked v w) (connected-goes policy Fired _ (walks policy party channel past states) psm v all)
occurs_go policy party channel past v AsksFeatures states uttered sound all =
    let w : Channels = asks_features v in bare_pass policy party channel past (asked_between v w) w (bare-asked v w) (asks-features-goes policy Fired _ (walks policy party channel past states) v all)
occurs_go policy party channel past v (Disconnects own) states uttered sound all =
    let w : Channels = disconnected own v in
    bare_pass policy party channel past (asked_between v w ++ given_up own v w) w (bare-left own v w)
    (disconnected-goes policy Fired _ (walks policy party channel past states) own v all)
occurs_go policy party channel past v (Sends own sdu) states uttered sound all = sends-pass policy party channel past v own sdu uttered sound all
occurs_go policy party channel past v (Gives pdu) states uttered sound all = gives-pass policy party channel past v pdu sound all uttered
occurs_go policy party channel past v Fires states uttered sound all =
    let owns : List ℕ = map (λ held. held.own) v.held in
    bare_pass policy party channel past (said_by_channels policy.tries owns v) (timed_out policy v) (bare-fired policy.tries owns v)
    (timed-goes policy Fired _ (walks policy party channel past states) v (λ machine open'. inr (refl, open')) all)
occurs_go policy party channel past v Tells states uttered sound all = pass-same policy party channel past (past ++ []) v (after_event v) refl refl (append-nil past) all

-- ---- a run

abbrev pub RunPasses : Policy → Party → Channel → Run → Type 0
RunPasses policy party channel run = Sound policy (reading run.said) run.value × Pass policy party channel run.said run.value

later_passes : (policy : Policy) (party : Party) (channel : Channel) (past later : List Occurrence) → StatesFrame policy party → EachAfter (λ front more. IsUttered more (run_of policy front).value) past later → RunPasses policy party channel (run_of policy past)
    → RunPasses policy party channel (run_of policy (past ++ later))
later_passes policy party channel past [] states uttered passes = subst (λ list. RunPasses policy party channel (run_of policy list)) (sym (append-nil past)) passes
later_passes policy party channel past (more ∷ later) states (now, uttered) (sound, all) =
    let run : Run = run_of policy past in
    let further : run_of policy (past ++ more ∷ []) ≡ run_on policy run more = fold-append (run_on policy) new_link past (more ∷ []) in
    subst (λ list. RunPasses policy party channel (run_of policy list)) (append_assoc past (more ∷ []) later)
    (later_passes policy party channel (past ++ more ∷ []) later states uttered (subst (RunPasses policy party channel) (sym further) (
      run-more policy run more sound,
      occurs_go policy party channel run.said run.value more states now sound all,
    )))

pub run-passes : (policy : Policy) (party : Party) (channel : Channel) (list : List Occurrence) → StatesFrame policy party → AreUttered policy list → RunPasses policy party channel (run_of policy list)
run-passes policy party channel list states uttered =
    later_passes policy party channel [] list states uttered (all-sound policy [], record { at = λ own. tt; fresh = λ own psm above. refl; below = λ own above. refl })

-- ---- what is read of it

basic_holds : (party : Party) (said : List Saying) (channel : Channel) (setup : Setup) → mode_of channel said ≡ Basic → carrier_window setup.carrier ≡ 0 → carrier_armed setup.carrier ≡ false → HoldsFrames party said channel setup
basic_holds party said channel setup mode window armed = record {
  window_is = window ∙ sym (ap (λ m. waiting_frames m (frames_passed party channel said)) mode);
  armed_is = armed ∙ sym (ap (λ m. frames_wait_in m party said channel) mode);
}

enhanced_holds : (party : Party) (said : List Saying) (channel : Channel) (setup : Setup) (machine : Ertm) (opened : Bool) → mode_of channel said ≡ Enhanced → setup.carrier ≡ Some (Retransmitting machine) → Passing party.frame (frames_passed party channel said) opened machine
    → HoldsFrames party said channel setup
enhanced_holds party said channel setup machine opened mode is passing =
    let (used, waits) = passing-used party.frame (frames_passed party channel said) opened machine passing in
    let window : window_used party said channel ≡ unacknowledged (outs (frames_passed party channel said)) (ins (frames_passed party channel said)) = ap (λ m. waiting_frames m (frames_passed party channel said)) mode in
    record {
      window_is = ap carrier_window is ∙ (used ∙ sym window);
      armed_is = ap carrier_armed is ∙ (waits ∙ (ap (λ n. nat_lt 0 n || poll_waits false (frames_passed party channel said)) (sym window) ∙ sym (ap (λ m. frames_wait_in m party said channel) mode)));
    }

carrier_holds : (policy : Policy) (party : Party) (said : List Saying) (channel : Channel) (held : Held) (setup : Setup) (r : IsRead policy said channel.own held setup) (carrier : Option Carrier) → setup.carrier ≡ carrier
    → CarrierPasses party.frame (frames_passed party channel said) (policy.wish held.psm) (is_open setup) carrier → HoldsFrames party said channel setup
carrier_holds policy party said channel held setup r carrier is passes = by carrier is passes
  where
    mode : mode_of channel said ≡ agreed_mode r.entry.setup
    mode = ap entry_mode r.found

    accepts : (carrier : Option Carrier) → setup.carrier ≡ carrier → agreed_mode r.entry.setup ≡ cond (is_enhanced r.entry.setup.asked && is_enhanced (option_map carrier_mode carrier)) Enhanced Basic
    accepts carrier is = ap (λ m. cond (is_enhanced r.entry.setup.asked && is_enhanced m) Enhanced Basic) (r.agrees.set_up.accepted_is ∙ ap (option_map carrier_mode) is)

    asks : (machine : Ertm) → setup.carrier ≡ Some (Retransmitting machine) → (own : Own) → setup.own ≡ own → is_stated own ≡ true → agreed_mode r.entry.setup ≡ Enhanced
    asks machine is own own_is stated =
        accepts (Some (Retransmitting machine)) is
        ∙ (ap (λ m. cond (is_enhanced m && true) Enhanced Basic) (r.agrees.set_up.asked_is ∙ stated_mode (policy.wish held.psm) setup.own (ap is_stated own_is ∙ stated))
        ∙ ap (λ m. cond (is_enhanced (Some m) && true) Enhanced Basic) (sym (subst (CarrierIs (policy.wish held.psm)) is r.agrees.carrier_is)))

    -- nothing passes before the host has asked for options
    machine_holds : (machine : Ertm) → setup.carrier ≡ Some (Retransmitting machine) → Passing party.frame (frames_passed party channel said) (is_open setup) machine → (own : Own) → setup.own ≡ own → HoldsFrames party said channel setup
    machine_holds machine is passing Unasked own_is =
        let shut : is_open setup ≡ false = ap (λ o. is_some setup.carrier && is_granted o) own_is ∙ and_off (is_some setup.carrier) in
        let new = (passing.quiet shut).1 in
        basic_holds party said channel setup (mode ∙ ap (λ m. cond (is_enhanced m && is_enhanced r.entry.setup.accepted) Enhanced Basic) (r.agrees.set_up.asked_is ∙ ap (asked_mode (policy.wish held.psm)) own_is))
        (ap carrier_window is ∙ ap machine_window new) (ap carrier_armed is ∙ ap machine_armed new)
    machine_holds machine is passing (Asking request options) own_is = enhanced_holds party said channel setup machine (is_open setup) (mode ∙ asks machine is (Asking request options) own_is refl) is passing
    machine_holds machine is passing Granted own_is = enhanced_holds party said channel setup machine (is_open setup) (mode ∙ asks machine is Granted own_is refl) is passing

    by : (carrier : Option Carrier) → setup.carrier ≡ carrier → CarrierPasses party.frame (frames_passed party channel said) (policy.wish held.psm) (is_open setup) carrier → HoldsFrames party said channel setup
    by None is passes = basic_holds party said channel setup (mode ∙ (accepts None is ∙ ap (λ b. cond b Enhanced Basic) (and_off (is_enhanced r.entry.setup.asked)))) (ap carrier_window is) (ap carrier_armed is)
    by (Some (Plain agreed waiting)) is passes =
        basic_holds party said channel setup (mode ∙ (accepts (Some (Plain agreed waiting)) is ∙ ap (λ b. cond b Enhanced Basic) (and_off (is_enhanced r.entry.setup.asked)))) (ap carrier_window is) (ap carrier_armed is)
    by (Some (Retransmitting machine)) is passes = machine_holds machine is passes setup.own refl

pub frames-are_held : FramesAreHeld
frames-are_held policy party list channel setup states uttered is = by (held_at channel.own run.value) refl is
  where
    run : Run
    run = run_of policy list

    by : (held : Option Held) → held_at channel.own run.value ≡ held → setup_on held ≡ Some setup → HoldsFrames party run.said channel setup
    by None at has = cc
    by (Some held) at has =
        let (sound, all) = run-passes policy party channel list states uttered in
        let kept = kept-setup party.frame (frames_passed party channel run.said) (policy.wish held.psm) held.stage setup has (subst (HeldKeeps policy (Passed party.frame (frames_passed party channel run.said))) at (all.at channel.own)) in
        carrier_holds policy party run.said channel held setup (is-read policy run.said run.value channel.own held setup at has sound) setup.carrier refl kept
