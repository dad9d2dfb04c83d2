-- All SDUs that the talk of a host brings are handed up, where no machine closes at a PDU that has a part of one.
use Rattle.std.proofs.Common.{◌≡◌, ℕ, List, [], ◌∷◌, ◌++◌, length, drop, map, Bool, true, false, cond, eqb, ◌&&◌, Option, Some, None, Ok, Err, refl, sym, ap, subst, ◌∙◌, ◌⊎◌, inl, inr, arith, append_assoc, append-nil, length-append}
use Rattle.std.specs.Prelude.{find, is_some}
use Rattle.std.specs.List.{filter_map}
use Rattle.std.proofs.lemmas.Bool.{eqb-true}
use Rattle.std.proofs.lemmas.List.Sums.{fold-append}
use Rattle.std.proofs.lemmas.List.Elements.{filter_map-append}
use Rattle.own_channel_laws.specs.talk_laws.specs.acl_fragments.specs.Pieces.{channel_of}
use Rattle.own_channel_laws.specs.talk_laws.specs.capture.specs.Histories.{EachAfter}
use Rattle.own_channel_laws.specs.talk_laws.specs.capture.specs.declared.flow.Flow.TheVariants.{Into}
use Rattle.own_channel_laws.specs.talk_laws.specs.l2cap_signal.specs.Reading.{answers}
use Rattle.own_channel_laws.specs.talk_laws.specs.l2cap_config.specs.declared.wish.Mode.TheVariants.{Enhanced}
use Rattle.own_channel_laws.specs.talk_laws.specs.l2cap_config.specs.declared.wish.Wish.{Wish}
use Rattle.own_channel_laws.specs.talk_laws.specs.ertm_frames.specs.Answers.{Answer}
use Rattle.own_channel_laws.specs.talk_laws.specs.ertm_frames.specs.Frames.{information, supervisory}
use Rattle.own_channel_laws.specs.talk_laws.specs.ertm_frames.specs.Reading.{answer_in, frame_by}
use Rattle.own_channel_laws.specs.talk_laws.specs.ertm_frames.specs.Joining.{ended}
use Rattle.own_channel_laws.specs.channel_model.specs.ertm_model.specs.declared.reason.ErtmReason.{ErtmReason}
use Rattle.own_channel_laws.specs.channel_model.specs.ertm_model.specs.Value.{Ertm}
use Rattle.own_channel_laws.specs.talk_laws.specs.link_talk.specs.declared.channel.Channel.{Channel}
use Rattle.own_channel_laws.specs.talk_laws.specs.link_talk.specs.declared.party.Party.{Party}
use Rattle.own_channel_laws.specs.talk_laws.specs.link_talk.specs.Sayings.{Saying, Carried}
use Rattle.own_channel_laws.specs.talk_laws.specs.link_talk.specs.Setups.{is_set}
use Rattle.own_channel_laws.specs.talk_laws.specs.link_talk.specs.Channels.{Entry, is_alive, reading}
use Rattle.own_channel_laws.specs.talk_laws.specs.link_talk.specs.Carriages.{is_heard, entry_mode}
use Rattle.own_channel_laws.specs.talk_laws.specs.link_talk.specs.Picks.{pick_in}
use Rattle.own_channel_laws.specs.talk_laws.specs.link_talk.specs.Sdus.{sdus_by, sdus}
use Rattle.own_channel_laws.specs.talk_laws.specs.Sdus.{heard_so_far}
use Rattle.own_channel_laws.specs.talk_laws.proofs.Sdus.{sdus-more}
use Rattle.own_channel_laws.specs.channel_model.specs.Value.{Carrier, Plain, Retransmitting, Setup, Stage, Requested, Connected, Leaving, Closing, Crossed, Held, Channels}
use Rattle.own_channel_laws.specs.channel_model.specs.Policies.{Policy}
use Rattle.own_channel_laws.specs.channel_model.specs.Changing.{has_own, held_at, setup_of, with_setup, stage_with}
use Rattle.own_channel_laws.specs.channel_model.specs.Configuring.{granted_setup}
use Rattle.own_channel_laws.specs.channel_model.specs.Hearing.{hears_commands}
use Rattle.own_channel_laws.specs.channel_model.specs.Carrying.{read_by, machine_heard, settles_machine, takes_on, takes_held, takes}
use Rattle.own_channel_laws.specs.channel_model.specs.Giving.{Given, Signal, Whole, Framed, next_given}
use Rattle.own_channel_laws.specs.channel_model.specs.Calls.{carrier_at, connected, asks_features, disconnected}
use Rattle.own_channel_laws.specs.channel_model.specs.Telling.{is_told_closed, is_told_broken}
use Rattle.own_channel_laws.specs.channel_model.proofs.Lookups.{own_of, found-has, and_off}
use Rattle.own_channel_laws.specs.channel_model.proofs.Walking.{found-own, with-found}
use Rattle.own_channel_laws.specs.OwnTalk.{asked_between, said_with_all}
use Rattle.own_channel_laws.specs.Runs.{Occurrence, Comes, Connects, AsksFeatures, Disconnects, Sends, Gives, Fires, Tells, peer_at, said_by_carrier, said_as, said_in, Run, new_link, run_on, run_of, up_with, arisen, sdu_up, sdus_up}
use Rattle.own_channel_laws.specs.Views.{peer_of, life_of, standing, read_at}
use Rattle.own_channel_laws.specs.Sdus.{StatesFrame, IsHandedUp}
use Rattle.channel_laws.specs.Whole.{BringsNone, ClosesOnNone, HandsAllUp, SdusAreHandedUp}
use Rattle.own_channel_laws.proofs.Sound.{Agrees, AgreesIf, ReadsBy, Reads}
use Rattle.own_channel_laws.proofs.Running.{IsSound, along, all-sound}
use Rattle.own_channel_laws.proofs.Keeping.{keeps-all}
use Rattle.own_channel_laws.proofs.Agreed.{AllStated, Stated, none-stated, keeps-stated, carries-stated, stated-at}
use Rattle.own_channel_laws.proofs.Carriages.{into-else}
use Rattle.own_channel_laws.proofs.Signalling.{bare-asked, bare-left, bare-with_all, bare-fired, bare-comes}
use Rattle.own_channel_laws.proofs.Stretching.{heard_on, NoneComes, opens, nothing-heard, stays-heard}
use Rattle.own_channel_laws.proofs.Taking.{takes-cases}
use Rattle.own_channel_laws.proofs.Telling.{StageTold, HeldTold, RunTold, one_told, nothing_told}
use Rattle.own_channel_laws.proofs.Receiving.{not-broken, mode-by, Before}
use Rattle.own_channel_laws.proofs.Incoming.{before_comes, sdus-are_read}

-- ---- what is known of a run

told_so : (policy : Policy) (list : List Occurrence) → RunTold (run_of policy list)
told_so policy list = (along policy RunTold nothing_told (λ run more s told. one_told policy run more s.core.lone told) list).1

stated_so : (policy : Policy) (list : List Occurrence) → AllStated policy (run_of policy list).value
stated_so policy list = (along policy (λ run. AllStated policy run.value) (none-stated policy) (λ run more s all. keeps-all policy _ (λ own. Stated) (keeps-stated policy) carries-stated more run.value s.core.lone all) list).1

-- ---- a PDU that brings nothing

no_segment : (n : ℕ) (found : Answer) → BringsNone found → pick_in n (frame_by found) ≡ []
no_segment n (Ok (information tx final req sar total octets)) none = elim none [ ]
no_segment n (Ok (supervisory kind poll final req)) none = refl
no_segment n (Err refusal) none = refl

none_brought : (frame : ℕ) (pdus : List (List ℕ)) (pdu : List ℕ) → BringsNone (answer_in frame pdu) → sdus_by frame Enhanced (pdus ++ pdu ∷ []) ≡ sdus_by frame Enhanced pdus
none_brought frame pdus pdu none =
    let ear = heard_so_far frame pdus in
    sdus-more frame Enhanced pdus pdu ∙ (ap (λ s. sdus_by frame Enhanced pdus ++ ended ear.joining s) (no_segment ear.next (answer_in frame pdu) none) ∙ append-nil (sdus_by frame Enhanced pdus))

-- ---- what becomes of the channel that it comes in for

-- it is there still, or its machine closed at the PDU
abbrev Outcome : (own : ℕ) → List ℕ → Setup → Channels → Type 0
Outcome own pdu setup w =
    ((held : Held) × (peer : ℕ) × (after : Setup) × (held_at own w ≡ Some held) × (held.stage ≡ Connected peer after))
    ⊎ ((machine : Ertm) × (reason : ErtmReason) × (setup.carrier ≡ Some (Retransmitting machine)) × ((machine_heard (read_by machine pdu) machine).closed ≡ Some reason))

settled_outcome : (own : ℕ) (pdu : List ℕ) (u : Channels) (held : Held) (setup : Setup) (peer : ℕ) (before : Setup) (machine : Ertm) (closed : Option ErtmReason) → held.own ≡ own → held.stage ≡ Connected peer before → setup.carrier ≡ Some (Retransmitting machine)
    → find (has_own held.own) u.held ≡ Some (with_setup held (granted_setup setup)) → (machine_heard (read_by machine pdu) machine).closed ≡ closed
    → Outcome own pdu setup (settles_machine closed (machine_heard (read_by machine pdu) machine) (with_setup held (granted_setup setup)) (granted_setup setup) u)
settled_outcome own pdu u held setup peer before machine (Some reason) same stage_is carrier here shut = inr (machine, reason, carrier, shut)
settled_outcome own pdu u held setup peer before machine None same stage_is carrier here shut =
    let base : Setup = granted_setup setup in
    let at_base : Held = with_setup held base in
    let after : Ertm = machine_heard (read_by machine pdu) machine in
    let last : Setup = record base { carrier = Some (Retransmitting after) } in
    let z : Channels = settles_machine None after at_base base u in
    inl (with_setup at_base last, peer, last, subst (λ n. held_at n z ≡ Some (with_setup at_base last)) same (with-found u at_base last here), ap (λ s. stage_with last (stage_with base s)) stage_is)

taken_outcome : (own : ℕ) (pdu : List ℕ) (v : Channels) (held : Held) (peer : ℕ) (setup : Setup) → held.own ≡ own → held.stage ≡ Connected peer setup → find (has_own held.own) v.held ≡ Some held → Outcome own pdu setup (takes_on (Some setup) pdu held v)
taken_outcome own pdu v held peer setup same stage_is found =
    takes-cases (Outcome own pdu setup) v pdu held setup (record {
      none = λ c. still;
      ignored = λ carrier c t. still;
      whole = λ u agreed waiting c t opened. inl (with_setup held (granted_setup setup), peer, granted_setup setup, subst (λ n. held_at n u ≡ Some (with_setup held (granted_setup setup))) same opened.here, ap (stage_with (granted_setup setup)) stage_is);
      framed = λ u machine c t opened. settled_outcome own pdu u held setup peer setup machine (machine_heard (read_by machine pdu) machine).closed same stage_is c opened.here refl;
    }) found (ap setup_of stage_is)
  where
    still : Outcome own pdu setup v
    still = inl (held, peer, setup, subst (λ n. held_at n v ≡ Some held) same found, stage_is)

-- ---- one PDU on a channel

module _ (policy : Policy) (party : Party) (channel : Channel) (list : List Occurrence) (states : StatesFrame policy party) where
  abbrev pub run : Run
  run = run_of policy list

  abbrev pub v : Channels
  v = run.value

  abbrev pub own : ℕ
  own = channel.own

  -- what the talk brings
  abbrev pub brought : List Saying → List (List ℕ)
  brought said = sdus party channel Into said

  -- where it is told that its machine closed the channel, the PDU brought nothing
  comes_for : (pdu : List ℕ) → eqb (channel_of pdu) own ≡ true → ClosesOnNone (Comes pdu) v → RunTold (run_on policy run (Comes pdu)) → is_told_broken own (arisen (run_on policy run (Comes pdu))) ≡ true → (run_on policy run (Comes pdu)).value ≡ takes (channel_of pdu) pdu v
      → brought (run.said ++ Carried Into pdu ∷ []) ≡ brought run.said
  comes_for pdu here silent told broken value_is = by (held_at own v) (read_at own (reading run.said).entries) refl refl (sound.core.reads own)
    where
      after : Run
      after = run_on policy run (Comes pdu)

      sound : IsSound policy run
      sound = all-sound policy list

      k_is : channel_of pdu ≡ own
      k_is = eqb-true (channel_of pdu) own here

      before : Before policy party own pdu run.told run.up (heard_on channel run.said) (heard_on channel (run.said ++ Carried Into pdu ∷ [])) (brought run.said) (brought (run.said ++ Carried Into pdu ∷ [])) (read_at own (reading run.said).entries)
      before = before_comes policy party channel run pdu sound here

      over : (entry : Entry) → read_at own (reading run.said).entries ≡ Some entry → is_alive entry.life ≡ false → brought (run.said ++ Carried Into pdu ∷ []) ≡ brought run.said
      over entry at dead = (before.passes (ap opens at ∙ (ap (λ b. is_set entry.setup && b) dead ∙ and_off (is_set entry.setup)))).1

      -- it is there still: nothing is told
      untold : (held : Held) (peer : ℕ) (setup : Setup) → held_at own after.value ≡ Some held → held.stage ≡ Connected peer setup → is_told_broken own (arisen after) ≡ false
      untold held peer setup at is = not-broken own (arisen after) (subst (λ s. StageTold s (is_told_closed own (arisen after))) is (subst (λ h. HeldTold h (is_told_closed own (arisen after))) at (told.at own))).1

      -- its machine closed
      shut : (held : Held) (peer : ℕ) (setup : Setup) (entry : Entry) (machine : Ertm) (reason : ErtmReason) → held_at own v ≡ Some held → held.stage ≡ Connected peer setup → read_at own (reading run.said).entries ≡ Some entry → Agrees (policy.wish held.psm) setup entry.setup
          → setup.carrier ≡ Some (Retransmitting machine) → (machine_heard (read_by machine pdu) machine).closed ≡ Some reason → (opened : Bool) → opens (read_at own (reading run.said).entries) ≡ opened → brought (run.said ++ Carried Into pdu ∷ []) ≡ brought run.said
      shut held peer setup entry machine reason at stage_is read agrees carrier closed false opened = (before.passes opened).1
      shut held peer setup entry machine reason at stage_is read agrees carrier closed true opened =
          let wish : Wish = policy.wish held.psm in
          let stated : StageTold (Connected peer setup) (is_told_closed own (arisen run)) =
          subst (λ s. StageTold s (is_told_closed own (arisen run))) stage_is (subst (λ h. HeldTold h (is_told_closed own (arisen run))) at ((told_so policy list).at own)) in
          let mode : entry_mode (read_at own (reading run.said).entries) ≡ Enhanced = ap entry_mode read ∙ mode-by wish setup entry.setup (Retransmitting machine) agrees carrier (stated.0 (ap is_some carrier)) in
          let frame : machine.agreed.receive_mps ≡ party.frame = stated-at policy v own held setup machine (stated_so policy list) at (ap setup_of stage_is) carrier ∙ states held.psm in
          let none : BringsNone (answer_in party.frame pdu) =
          subst (λ n. BringsNone (answer_in n pdu)) frame (silent held setup machine reason (ap (λ n. held_at n v) k_is ∙ at) (ap setup_of stage_is) carrier closed) in
          (before.carries opened).1 ∙ (ap (λ m. sdus_by party.frame m (heard_on channel run.said ++ pdu ∷ [])) mode
          ∙ (none_brought party.frame (heard_on channel run.said) pdu none
          ∙ sym (before.so_far ∙ ap (λ m. sdus_by party.frame m (heard_on channel run.said)) mode)))

      found_so : (held : Held) (peer : ℕ) (setup : Setup) (entry : Option Entry) → held_at own v ≡ Some held → held.stage ≡ Connected peer setup → read_at own (reading run.said).entries ≡ entry → ReadsBy policy held (Some peer) entry → Outcome own pdu setup after.value
          → brought (run.said ++ Carried Into pdu ∷ []) ≡ brought run.said
      found_so held peer setup None at is read reads outcome = elim reads [ ]
      found_so held peer setup (Some entry) at is read (there, agrees) (inl (later, endpoint, last, later_at, later_is)) = let never : true ≡ false = sym broken ∙ untold later endpoint last later_at later_is in absurd cc
      found_so held peer setup (Some entry) at is read (there, agrees) (inr (machine, reason, carrier, closed)) =
          shut held peer setup entry machine reason at is read (subst (λ s. AgreesIf (policy.wish held.psm) (standing s) entry.setup) is agrees) carrier closed (opens (read_at own (reading run.said).entries)) refl

      staged : (held : Held) (stage : Stage) (entry : Option Entry) → held_at own v ≡ Some held → held.stage ≡ stage → read_at own (reading run.said).entries ≡ entry → ReadsBy policy held (peer_of stage) entry → brought (run.said ++ Carried Into pdu ∷ []) ≡ brought run.said
      staged held (Requested request) None at is read reads = (before.passes (ap opens read)).1
      staged held (Requested request) (Some entry) at is read reads = elim reads [ ]
      staged held (Connected peer setup) entry at is read reads =
          let same : held.own ≡ own = found-has own_of own v.held held at in
          found_so held peer setup entry at is read reads (subst (Outcome own pdu setup) (sym (value_is ∙ (ap (λ n. takes n pdu v) k_is ∙ (ap (λ h. takes_held h pdu v) at ∙ ap (λ s. takes_on (setup_of s) pdu held v) is)))) (taken_outcome own pdu v held peer setup same is (found-own own v held at)))
      staged held (Leaving peer setup request) None at is read reads = elim reads [ ]
      staged held (Leaving peer setup request) (Some entry) at is read reads = over entry read (ap is_alive (reads.0.life_is ∙ ap life_of is))
      staged held (Closing peer request checked) None at is read reads = elim reads [ ]
      staged held (Closing peer request checked) (Some entry) at is read reads = over entry read (ap is_alive (reads.0.life_is ∙ ap life_of is))
      staged held (Crossed peer request) None at is read reads = elim reads [ ]
      staged held (Crossed peer request) (Some entry) at is read reads = over entry read (ap is_alive (reads.0.life_is ∙ ap life_of is))

      by : (held : Option Held) (entry : Option Entry) → held_at own v ≡ held → read_at own (reading run.said).entries ≡ entry → Reads policy held entry → brought (run.said ++ Carried Into pdu ∷ []) ≡ brought run.said
      by None None at read reads = (before.passes (ap opens read)).1
      by None (Some entry) at read reads = over entry read (ap is_alive reads)
      by (Some held) entry at read reads = staged held held.stage entry at refl read reads

  -- ---- whatever happens

  no_carrier : (carrier : Option Carrier) (peer : ℕ) (sdu : List ℕ) → NoneComes (said_by_carrier carrier peer sdu)
  no_carrier None peer sdu = refl
  no_carrier (Some (Plain agreed None)) peer sdu = refl
  no_carrier (Some (Plain agreed (Some waiting))) peer sdu = refl
  no_carrier (Some (Retransmitting machine)) peer sdu = refl

  no_given : (given : Option Given) (pdu : List ℕ) → NoneComes (said_as given pdu)
  no_given None pdu = refl
  no_given (Some (Signal command)) pdu = refl
  no_given (Some (Whole peer sdu)) pdu = refl
  no_given (Some (Framed peer frame)) pdu = refl

  quiet : (said : List Saying) → NoneComes said → brought (run.said ++ said) ≡ brought run.said
  quiet said none = (stays-heard party channel said run.said none).sdus_are

  -- a PDU comes in on some channel
  comes_on : (pdu : List ℕ) → ClosesOnNone (Comes pdu) v → RunTold (run_on policy run (Comes pdu)) → is_told_broken own (arisen (run_on policy run (Comes pdu))) ≡ true → (run_on policy run (Comes pdu)).value ≡ takes (channel_of pdu) pdu v → (here : Bool) → eqb (channel_of pdu) own ≡ here
      → brought (run.said ++ (Carried Into pdu ∷ asked_between v (takes (channel_of pdu) pdu v))) ≡ brought run.said
  comes_on pdu silent told broken value_is here is =
      let asked : List Saying = asked_between v (takes (channel_of pdu) pdu v) in
      ap brought (sym (append_assoc run.said (Carried Into pdu ∷ []) asked))
      ∙ ((stays-heard party channel asked (run.said ++ Carried Into pdu ∷ []) (bare-comes asked (bare-asked v (takes (channel_of pdu) pdu v)))).sdus_are ∙ by here is)
    where
      by : (here : Bool) → eqb (channel_of pdu) own ≡ here → brought (run.said ++ Carried Into pdu ∷ []) ≡ brought run.said
      by true is = comes_for pdu is silent told broken value_is
      by false is = (nothing-heard party channel run.said (Carried Into pdu) (into-else is_heard channel run.said pdu is)).sdus_are

  comes_so : (pdu : List ℕ) → ClosesOnNone (Comes pdu) v → RunTold (run_on policy run (Comes pdu)) → is_told_broken own (arisen (run_on policy run (Comes pdu))) ≡ true → brought (run_on policy run (Comes pdu)).said ≡ brought run.said
  comes_so pdu silent told broken = by (eqb (channel_of pdu) 0x0001) refl
    where
      by : (signals : Bool) → eqb (channel_of pdu) 0x0001 ≡ signals → brought (run.said ++ said_in policy (Comes pdu) v) ≡ brought run.said
      by true is =
          ap (λ b. brought (run.said ++ cond b (said_with_all policy (answers (drop 4 pdu)) v) (Carried Into pdu ∷ asked_between v (takes (channel_of pdu) pdu v)))) is
          ∙ quiet (said_with_all policy (answers (drop 4 pdu)) v) (bare-comes (said_with_all policy (answers (drop 4 pdu)) v) (bare-with_all policy (answers (drop 4 pdu)) v))
      by false is =
          ap (λ b. brought (run.said ++ cond b (said_with_all policy (answers (drop 4 pdu)) v) (Carried Into pdu ∷ asked_between v (takes (channel_of pdu) pdu v)))) is
          ∙ comes_on pdu silent told broken (ap (λ b. cond b (hears_commands policy (answers (drop 4 pdu)) v) (takes (channel_of pdu) pdu v)) is) (eqb (channel_of pdu) own) refl

  -- where it is told that a machine closed the channel, nothing more is brought
  none_more : (more : Occurrence) → ClosesOnNone more v → RunTold (run_on policy run more) → is_told_broken own (arisen (run_on policy run more)) ≡ true → brought (run_on policy run more).said ≡ brought run.said
  none_more (Comes pdu) silent told broken = comes_so pdu silent told broken
  none_more (Connects psm) silent told broken = quiet (said_in policy (Connects psm) v) (bare-comes (said_in policy (Connects psm) v) (bare-asked v (connected psm v)))
  none_more AsksFeatures silent told broken = quiet (said_in policy AsksFeatures v) (bare-comes (said_in policy AsksFeatures v) (bare-asked v (asks_features v)))
  none_more (Disconnects one) silent told broken = quiet (said_in policy (Disconnects one) v) (bare-comes (said_in policy (Disconnects one) v) (bare-left one v (disconnected one v)))
  none_more (Sends one sdu) silent told broken = quiet (said_in policy (Sends one sdu) v) (no_carrier (carrier_at one v) (peer_at (held_at one v)) sdu)
  none_more (Gives pdu) silent told broken = quiet (said_in policy (Gives pdu) v) (no_given (next_given v) pdu)
  none_more Fires silent told broken = quiet (said_in policy Fires v) (bare-comes (said_in policy Fires v) (bare-fired policy.tries (map (λ held. held.own) v.held) v))
  none_more Tells silent told broken = quiet [] refl

  -- an SDU more than what is handed up would be one more than before
  same_still : (broken : Bool) (up now read read' : List (List ℕ)) → IsHandedUp broken (up ++ now) read' → (broken ≡ true → read' ≡ read) → read ≡ up → read' ≡ up ++ now
  same_still broken up now read read' (inl is) stays same = is
  same_still broken up now read read' (inr (is, sdu, also)) stays same =
      let whole : up ≡ (up ++ now) ++ sdu ∷ [] = sym same ∙ (sym (stays is) ∙ also) in
      let long : length up ≡ length ((up ++ now) ++ sdu ∷ []) = ap length whole in
      absurd (omega (arith, long, length-append (up ++ now) (sdu ∷ []), length-append up now))

  pub one-handed : (more : Occurrence) → ClosesOnNone more v → sdus party channel Into run.said ≡ sdus_up channel.own run.up → sdus party channel Into (run_on policy run more).said ≡ sdus_up channel.own (run_on policy run more).up
  one-handed more silent same =
      same_still (is_told_broken own (arisen after)) (sdus_up own run.up) (filter_map (sdu_up own) (up_with more v ∷ [])) (brought run.said) (brought after.said)
      (subst (λ u. IsHandedUp (is_told_broken own (arisen after)) u (brought after.said)) grown (subst (λ (r : Run). IsHandedUp (is_told_broken own (arisen r)) (sdus_up own r.up) (brought r.said)) next (sdus-are_read policy party (list ++ more ∷ []) channel states)))
      (none_more more silent (one_told policy run more (all-sound policy list).core.lone (told_so policy list))) same
      ∙ sym grown
    where
      after : Run
      after = run_on policy run more

      next : run_of policy (list ++ more ∷ []) ≡ after
      next = fold-append (run_on policy) new_link list (more ∷ [])

      grown : sdus_up own after.up ≡ sdus_up own run.up ++ filter_map (sdu_up own) (up_with more v ∷ [])
      grown = filter_map-append (sdu_up own) run.up (up_with more v ∷ [])

-- ---- a run

all_handed : (policy : Policy) (party : Party) (channel : Channel) → StatesFrame policy party → (past list : List Occurrence) → EachAfter (λ front one. ClosesOnNone one (run_of policy front).value) past list
    → sdus party channel Into (run_of policy past).said ≡ sdus_up channel.own (run_of policy past).up → sdus party channel Into (run_of policy (past ++ list)).said ≡ sdus_up channel.own (run_of policy (past ++ list)).up
all_handed policy party channel states past [] silent same = subst (λ l. sdus party channel Into (run_of policy l).said ≡ sdus_up channel.own (run_of policy l).up) (sym (append-nil past)) same
all_handed policy party channel states past (more ∷ list) (now, silent) same =
    subst (λ l. sdus party channel Into (run_of policy l).said ≡ sdus_up channel.own (run_of policy l).up) (append_assoc past (more ∷ []) list)
    (all_handed policy party channel states (past ++ more ∷ []) list silent
    (subst (λ (r : Run). sdus party channel Into r.said ≡ sdus_up channel.own r.up) (sym (fold-append (run_on policy) new_link past (more ∷ []))) (one-handed policy party channel past states more now same)))

pub none-handed : (policy : Policy) → HandsAllUp policy new_link
none-handed policy party channel states = by
  where
    by : sdus party channel Into [] ≡ sdus_up channel.own []
    by = refl

pub sdus-are_handed_up : SdusAreHandedUp
sdus-are_handed_up policy list silent party channel states = all_handed policy party channel states [] list silent (none-handed policy party channel states)
