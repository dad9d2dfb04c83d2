-- A host holds its window in numbers that never wrap, whatever happens to it.
use Rattle.std.proofs.Common.{◌≡◌, ℕ, ◌≤◌, ◌<◌, List, [], ◌∷◌, ◌++◌, map, drop, Bool, true, false, cond, eqb, ◌&&◌, Option, Some, None, refl, sym, ap, subst, ◌∙◌, arith, append_assoc, append-nil}
use Rattle.std.specs.Prelude.{find, option_map, option_to_list, unwrap_or}
use Rattle.std.proofs.lemmas.Bool.{eqb-true}
use Rattle.std.proofs.lemmas.List.Sums.{fold-append}
use Rattle.own_channel_laws.specs.talk_laws.specs.bt_base.proofs.OctetLemmas.{le16-number}
use Rattle.own_channel_laws.specs.talk_laws.specs.acl_fragments.specs.Pieces.{channel_of}
use Rattle.own_channel_laws.specs.talk_laws.specs.capture.specs.Histories.{EachAfter, AtEach}
use Rattle.own_channel_laws.specs.talk_laws.specs.capture.proofs.HistoryLaws.{each_after-more, at_each-more, at_each-whole, at_each-none}
use Rattle.own_channel_laws.specs.talk_laws.specs.capture.specs.declared.flow.Flow.TheVariants.{Out, Into}
use Rattle.own_channel_laws.specs.talk_laws.specs.l2cap_signal.specs.Reading.{answers}
use Rattle.own_channel_laws.specs.talk_laws.specs.l2cap_config.specs.Agreement.{asked_mode, sent_window}
use Rattle.own_channel_laws.specs.talk_laws.specs.l2cap_config.specs.declared.options.ModeOption.{ModeOption}
use Rattle.own_channel_laws.specs.talk_laws.specs.l2cap_config.specs.declared.wish.Agreed.{Agreed}
use Rattle.own_channel_laws.specs.talk_laws.specs.l2cap_config.specs.declared.wish.Mode.{Mode}
use Rattle.own_channel_laws.specs.talk_laws.specs.l2cap_config.specs.declared.wish.Mode.TheVariants.{Basic, Enhanced}
use Rattle.own_channel_laws.specs.talk_laws.specs.ertm_frames.specs.Frames.{PlainFrame}
use Rattle.own_channel_laws.specs.talk_laws.specs.ertm_frames.specs.Picking.{Passage, Out as Gave, In}
use Rattle.own_channel_laws.specs.talk_laws.specs.ertm_frames.specs.Reading.{frame_in}
use Rattle.own_channel_laws.specs.channel_model.specs.ertm_model.specs.Giving.{next_frame, after_frame}
use Rattle.own_channel_laws.specs.channel_model.specs.ertm_model.specs.Runs.{Course, new_course, all_happen}
use Rattle.own_channel_laws.specs.channel_model.specs.ertm_model.specs.Value.{Ertm}
use Rattle.own_channel_laws.specs.talk_laws.specs.link_talk.specs.declared.channel.Channel.{Channel}
use Rattle.own_channel_laws.specs.talk_laws.specs.link_talk.specs.declared.party.Party.{Party}
use Rattle.own_channel_laws.specs.talk_laws.specs.link_talk.specs.Sayings.{Saying, Carried}
use Rattle.own_channel_laws.specs.talk_laws.specs.link_talk.specs.Setups.{is_enhanced}
use Rattle.own_channel_laws.specs.talk_laws.specs.link_talk.specs.Channels.{is_there, reading}
use Rattle.own_channel_laws.specs.talk_laws.specs.link_talk.specs.Carriages.{is_passed, entry_mode, mode_of}
use Rattle.own_channel_laws.specs.talk_laws.specs.link_talk.specs.Accounts.{frames_passed}
use Rattle.own_channel_laws.specs.talk_laws.specs.link_talk.specs.GrowingLaws.{has_opened, HasOpened}
use Rattle.own_channel_laws.specs.talk_laws.specs.link_talk.proofs.Growing.{mode-stands}
use Rattle.own_channel_laws.specs.channel_model.specs.Value.{Carrier, Plain, Retransmitting, Setup, Held, Channels}
use Rattle.own_channel_laws.specs.channel_model.specs.Policies.{Policy}
use Rattle.own_channel_laws.specs.channel_model.specs.Changing.{has_own, held_at, is_open, setup_of}
use Rattle.own_channel_laws.specs.channel_model.specs.Carrying.{takes}
use Rattle.own_channel_laws.specs.channel_model.specs.Giving.{Given, Signal, Whole, Framed, carrier_gives, next_given, headed}
use Rattle.own_channel_laws.specs.channel_model.specs.Calls.{setup_on, open_carrier, carrier_if, carrier_at, connected, asks_features, disconnected}
use Rattle.own_channel_laws.specs.channel_model.proofs.Walking.{found-own}
use Rattle.own_channel_laws.specs.Frames.{IsSpelled, IsUttered, AreUttered}
use Rattle.own_channel_laws.specs.OwnTalk.{asked_between, said_with_all}
use Rattle.own_channel_laws.specs.Runs.{Occurrence, Comes, Connects, AsksFeatures, Disconnects, Sends, Gives, Fires, Tells, peer_at, given_up, said_by_channels, said_by_carrier, said_as, said_in, Run, new_link, run_on, run_of}
use Rattle.own_channel_laws.specs.Sdus.{StatesFrame}
use Rattle.own_channel_laws.specs.Views.{carrier_mode, read_at}
use Rattle.own_channel_laws.proofs.Agreements.{agreements-are_on_heard}
use Rattle.own_channel_laws.proofs.Attending.{gives-aside}
use Rattle.own_channel_laws.proofs.Carriages.{counted_in}
use Rattle.own_channel_laws.proofs.Frames.{run-passes}
use Rattle.own_channel_laws.proofs.Holding.{frames_on, Pass, kept-setup, IsRead, is-read, set-is}
use Rattle.own_channel_laws.proofs.Keeping.{HeldKeeps}
use Rattle.own_channel_laws.proofs.Outgoing.{open-stated}
use Rattle.own_channel_laws.proofs.Passages.{GoesOut, bare-passes, into-other, into-own, out-other, out-own, spelled-frame}
use Rattle.own_channel_laws.proofs.Passing.{Passing, CarrierPasses, Passed, passing-gives}
use Rattle.own_channel_laws.proofs.Running.{all-sound}
use Rattle.own_channel_laws.proofs.Signalling.{IsBare, bare-asked, bare-left, bare-with_all, bare-fired}
use Rattle.own_channel_laws.proofs.Sound.{Sound}
use Rattle.channel_laws.proofs.Trusting.{Gives_out, queue-out}
use Rattle.pair_laws.proofs.Forgone.{unopened-passes}
use Rattle.window_laws.specs.Numbers.{HoldsAsTaken}
use Rattle.window_laws.specs.Machines.{IsNumbered}
use Rattle.window_laws.specs.Hosts.{HostsHoldAsTaken}
use Rattle.window_laws.proofs.Numbers.{holds-in, holds-none}
use Rattle.window_laws.proofs.Machines.{machines-are_numbered}

-- ---- a machine that is open

pub passing-holds : (mps window : ℕ) (frames : List Passage) (opened : Bool) (m : Ertm) → m.agreed.send_window ≤ window → Passing mps frames opened m → HoldsAsTaken window frames
passing-holds mps window frames opened m wide p = subst (HoldsAsTaken window) p.passages_are holds
  where
    course : Course
    course = all_happen p.events (new_course p.agreed)

    numbered : IsNumbered p.agreed.send_window course.machine course.passages
    numbered = machines-are_numbered p.agreed p.events p.small (ap (λ (x : Ertm). x.closed) p.machine_is ∙ p.open_is)

    holds : HoldsAsTaken window course.passages
    holds =
        let used = numbered.used in
        let within = numbered.within in
        let same = ap (λ (a : Agreed). a.send_window) p.agreed_is in
        record { gone = omega (arith, used); within = omega (arith, used, within, same, wide) }

-- what a host agreed on is no more than it states
sent_low : (mode : Mode) (asked : ModeOption) (own : ℕ) → sent_window mode asked own ≤ own
sent_low Basic asked own = omega arith
sent_low Enhanced asked own = omega arith

machine_low : (policy : Policy) (list : List Occurrence) (own window : ℕ) (machine : Ertm) → ((psm : ℕ) → (policy.wish psm).window ≤ window) → carrier_at own (run_of policy list).value ≡ Some (Retransmitting machine) → machine.agreed.send_window ≤ window
machine_low policy list own window machine wide is =
    let (channel, has, mode, heard) = agreements-are_on_heard policy list own (Retransmitting machine) is in
    let same = ap (λ (a : Agreed). a.send_window) heard.agreed_is in
    let low = sent_low (policy.wish channel.psm).mode (asked_mode heard.options) (policy.wish channel.psm).window in
    let high = wide channel.psm in
    omega (arith, same, low, high)

pub none-passed : (window : ℕ) (frames : List Passage) → frames ≡ [] → AtEach (HoldsAsTaken window) frames
none-passed window frames none = subst (AtEach (HoldsAsTaken window)) (sym none) (at_each-none (HoldsAsTaken window) (holds-none window))

-- ---- the mode of a channel that has opened

pub mode_later : (channel : Channel) (said behind : List Saying) → HasOpened channel said → mode_of channel (said ++ behind) ≡ mode_of channel said
mode_later channel said [] opened = ap (mode_of channel) (append-nil said)
mode_later channel said (one ∷ behind) opened =
    let now = mode-stands channel said one opened in
    ap (mode_of channel) (sym (append_assoc said (one ∷ []) behind)) ∙ (mode_later channel (said ++ one ∷ []) behind now.1 ∙ now.0)

-- ---- one thing more that happens

module _ (policy : Policy) (party : Party) (channel : Channel) (window : ℕ) (states : StatesFrame policy party) (wide : (psm : ℕ) → (policy.wish psm).window ≤ window) where
  abbrev Each : List Saying → Type 0
  Each said = AtEach (HoldsAsTaken window) (frames_passed party channel said)

  abbrev Kept : List Saying → Type 0
  Kept said = mode_of channel said ≡ Enhanced → Each said

  -- no frames passed while the channel had not opened
  was_kept : (past more : List Saying) → Kept past → mode_of channel (past ++ more) ≡ Enhanced → Each past
  was_kept past more kept mode = by (has_opened (read_at channel.own (reading past).entries)) refl
    where
      by : (opened : Bool) → has_opened (read_at channel.own (reading past).entries) ≡ opened → Each past
      by true is = kept (sym (mode_later channel past more is) ∙ mode)
      by false is = none-passed window (frames_passed party channel past) (unopened-passes party channel past is)

  still : (past more : List Saying) → frames_passed party channel (past ++ more) ≡ frames_passed party channel past → Kept past → Kept (past ++ more)
  still past more same kept = λ mode. subst (AtEach (HoldsAsTaken window)) (sym same) (was_kept past more kept mode)

  one_more : (past more : List Saying) (x : Passage) → frames_passed party channel (past ++ more) ≡ frames_passed party channel past ++ x ∷ [] → (HoldsAsTaken window (frames_passed party channel past) → HoldsAsTaken window (frames_passed party channel past ++ x ∷ []))
      → Kept past → Kept (past ++ more)
  one_more past more x same now kept = λ mode.
      let each = was_kept past more kept mode in
      subst (AtEach (HoldsAsTaken window)) (sym same) (at_each-more (HoldsAsTaken window) (frames_passed party channel past) x each (now (at_each-whole (HoldsAsTaken window) (frames_passed party channel past) each)))

  bare : (past said : List Saying) → IsBare said → Kept past → Kept (past ++ said)
  bare past said is kept = still past said (bare-passes party channel said past is) kept

  nothing : (past : List Saying) → Kept past → Kept (past ++ [])
  nothing past kept = subst Kept (sym (append-nil past)) kept

  -- a PDU comes in
  into_kept : (past : List Saying) (pdu : List ℕ) → Kept past → Kept (past ++ Carried Into pdu ∷ [])
  into_kept past pdu kept = by (eqb (channel_of pdu) channel.own) refl
    where
      frames : List Passage
      frames = frames_passed party channel past

      with_frame : (found : Option PlainFrame) → frame_in party.frame pdu ≡ found → frames_passed party channel (past ++ Carried Into pdu ∷ []) ≡ frames ++ option_to_list (option_map In (frame_in party.frame pdu)) → Kept (past ++ Carried Into pdu ∷ [])
      with_frame None is same = still past (Carried Into pdu ∷ []) (same ∙ (ap (λ f. frames ++ option_to_list (option_map In f)) is ∙ append-nil frames)) kept
      with_frame (Some frame) is same = one_more past (Carried Into pdu ∷ []) (In frame) (same ∙ ap (λ f. frames ++ option_to_list (option_map In f)) is) (holds-in window frames frame) kept

      on : (counted : Bool) → eqb (channel_of pdu) channel.own ≡ true → counted_in is_passed (read_at channel.own (reading past).entries) ≡ counted → Kept (past ++ Carried Into pdu ∷ [])
      on true here is = with_frame (frame_in party.frame pdu) refl (into-own party channel past pdu true here is)
      on false here is = still past (Carried Into pdu ∷ []) (into-own party channel past pdu false here is ∙ append-nil frames) kept

      by : (here : Bool) → eqb (channel_of pdu) channel.own ≡ here → Kept (past ++ Carried Into pdu ∷ [])
      by true is = on (counted_in is_passed (read_at channel.own (reading past).entries)) is refl
      by false away = still past (Carried Into pdu ∷ []) (into-other party channel past pdu away) kept

  comes_kept : (past : List Saying) (v : Channels) (pdu : List ℕ) (signals : Bool) → Kept past → Kept (past ++ cond signals (said_with_all policy (answers (drop 4 pdu)) v) (Carried Into pdu ∷ asked_between v (takes (channel_of pdu) pdu v)))
  comes_kept past v pdu true kept = bare past (said_with_all policy (answers (drop 4 pdu)) v) (bare-with_all policy (answers (drop 4 pdu)) v) kept
  comes_kept past v pdu false kept =
      let w : Channels = takes (channel_of pdu) pdu v in
      subst Kept (append_assoc past (Carried Into pdu ∷ []) (asked_between v w)) (bare (past ++ Carried Into pdu ∷ []) (asked_between v w) (bare-asked v w) (into_kept past pdu kept))

  -- a channel that something goes out on
  goes_out : (past : List Saying) (v : Channels) (held : Held) (setup : Setup) (r : IsRead policy past held.own held setup) (carrier : Carrier) → setup.carrier ≡ Some carrier → is_open setup ≡ true → Sound policy (reading past) v → GoesOut past held.own r.peer
  goes_out past v held setup r carrier is opened sound = record {
    entry = r.entry;
    found = r.found;
    peer_is = r.here;
    holds = ap (λ b. b && is_there r.entry.life) (set-is policy past held.own held setup r carrier is (open-stated setup opened)) ∙ r.there;
    only = λ other x found there to. sound.core.apart other held.own x r.entry found r.found there r.there (to ∙ sym r.here);
  }

  -- a channel of basic mode has not enhanced mode
  basic_kept : (past more : List Saying) (held : Held) (setup : Setup) (r : IsRead policy past held.own held setup) (agreed : Agreed) (waiting : Option (List ℕ)) → setup.carrier ≡ Some (Plain agreed waiting) → is_open setup ≡ true → held.own ≡ channel.own → Kept (past ++ more)
  basic_kept past more held setup r agreed waiting is opened mine = λ mode.
      let here : read_at channel.own (reading past).entries ≡ Some r.entry = ap (λ n. read_at n (reading past).entries) (sym mine) ∙ r.found in
      let set = set-is policy past held.own held setup r (Plain agreed waiting) is (open-stated setup opened) in
      let accepts = r.agrees.set_up.accepted_is ∙ ap (option_map carrier_mode) is in
      let basic : mode_of channel past ≡ Basic = ap entry_mode here ∙ (ap (λ m. cond (is_enhanced r.entry.setup.asked && is_enhanced m) Enhanced Basic) accepts ∙ never (is_enhanced r.entry.setup.asked)) in
      let other : Enhanced ≡ Basic = sym mode ∙ (mode_later channel past more (ap has_opened here ∙ set) ∙ basic) in
      absurd cc
    where
      never : (b : Bool) → cond (b && false) Enhanced Basic ≡ Basic
      never true = refl
      never false = refl

  -- an SDU is sent
  sends_kept : (past : List Saying) (v : Channels) (own : ℕ) (sdu : List ℕ) → peer_at (held_at own v) < 65536 → Sound policy (reading past) v → Kept past → Kept (past ++ said_by_carrier (carrier_at own v) (peer_at (held_at own v)) sdu)
  sends_kept past v own sdu fits sound kept = of (held_at own v) refl fits
    where
      carries : (held : Held) (setup : Setup) (carrier : Option Carrier) → find (has_own held.own) v.held ≡ Some held → setup_of held.stage ≡ Some setup → setup.carrier ≡ carrier → is_open setup ≡ true → peer_at (Some held) < 65536
          → Kept (past ++ said_by_carrier carrier (peer_at (Some held)) sdu)
      carries held setup None found has is opened low = nothing past kept
      carries held setup (Some (Retransmitting machine)) found has is opened low = nothing past kept
      carries held setup (Some (Plain agreed (Some waiting))) found has is opened low = nothing past kept
      carries held setup (Some (Plain agreed None)) found has is opened low = by (eqb held.own channel.own) refl
        where
          r : IsRead policy past held.own held setup
          r = is-read policy past v held.own held setup found has sound

          pdu : List ℕ
          pdu = headed (peer_at (Some held)) sdu

          by : (mine : Bool) → eqb held.own channel.own ≡ mine → Kept (past ++ Carried Out pdu ∷ [])
          by true mine = basic_kept past (Carried Out pdu ∷ []) held setup r agreed None is opened (eqb-true held.own channel.own mine)
          by false away =
              let to : peer_at (Some held) ≡ r.peer = ap (λ p. unwrap_or p 0) r.peer_is in
              still past (Carried Out pdu ∷ []) (out-other party channel past held.own r.peer pdu (goes_out past v held setup r (Plain agreed None) is opened sound) (le16-number (peer_at (Some held)) sdu low ∙ to) away) kept

      opens : (held : Held) (setup : Setup) (opened : Bool) → find (has_own held.own) v.held ≡ Some held → setup_of held.stage ≡ Some setup → is_open setup ≡ opened → peer_at (Some held) < 65536 → Kept (past ++ said_by_carrier (carrier_if opened setup) (peer_at (Some held)) sdu)
      opens held setup true found has opened low = carries held setup setup.carrier found has refl opened low
      opens held setup false found has opened low = nothing past kept

      on : (held : Held) (setup : Option Setup) → find (has_own held.own) v.held ≡ Some held → setup_of held.stage ≡ setup → peer_at (Some held) < 65536 → Kept (past ++ said_by_carrier (open_carrier setup) (peer_at (Some held)) sdu)
      on held None found has low = nothing past kept
      on held (Some setup) found has low = opens held setup (is_open setup) found has refl low

      of : (held : Option Held) → held_at own v ≡ held → peer_at held < 65536 → Kept (past ++ said_by_carrier (open_carrier (setup_on held)) (peer_at held) sdu)
      of None found low = nothing past kept
      of (Some held) found low = on held (setup_of held.stage) (found-own own v held found) refl low

  -- the next PDU is given
  gives_kept : (past : List Occurrence) (given : Option Given) (pdu : List ℕ) → AreUttered policy past → next_given (run_of policy past).value ≡ given → IsSpelled given pdu → Kept (run_of policy past).said → Kept ((run_of policy past).said ++ said_as given pdu)
  gives_kept past None pdu uttered is spelled kept = nothing (run_of policy past).said kept
  gives_kept past (Some (Signal command)) pdu uttered is spelled kept = nothing (run_of policy past).said kept
  gives_kept past (Some (Whole peer sdu)) pdu uttered is spelled kept = nothing (run_of policy past).said kept
  gives_kept past (Some (Framed peer frame)) pdu uttered is spelled kept = by g.carrier g.is g.gives_it
    where
      said : List Saying
      said = (run_of policy past).said

      v : Channels
      v = (run_of policy past).value

      sound : Sound policy (reading said) v
      sound = all-sound policy past

      passes : Pass policy party channel said v
      passes = (run-passes policy party channel past states uttered).1

      read : (frame_in 65535 pdu ≡ Some frame) × (channel_of pdu ≡ peer)
      read = spelled-frame peer frame pdu spelled.0 spelled.1

      g : Gives_out peer (Framed peer frame) v
      g = queue-out v v.queue peer (Framed peer frame) sound.core.lone is refl

      r : IsRead policy said g.held.own g.held g.setup
      r = is-read policy said v g.held.own g.held g.setup g.found g.has sound

      some_same : (a b : ℕ) → Some a ≡ Some b → a ≡ b
      some_same a b same = cc

      peer_is : r.peer ≡ peer
      peer_is = some_same r.peer peer (sym r.peer_is ∙ g.to)

      frames : List Passage
      frames = frames_on party channel said g.held.own

      by : (carrier : Carrier) → g.setup.carrier ≡ Some carrier → carrier_gives carrier peer ≡ Some (Framed peer frame) → Kept (said ++ Carried Out pdu ∷ [])
      by (Plain agreed None) carrier_is giving = cc
      by (Plain agreed (Some sdu)) carrier_is giving = cc
      by (Retransmitting machine) carrier_is giving = on (eqb g.held.own channel.own) refl
        where
          next : next_frame machine ≡ Some frame
          next = found (next_frame machine) giving
            where
              found : (f : Option PlainFrame) → option_map (Framed peer) f ≡ Some (Framed peer frame) → f ≡ Some frame
              found None is = cc
              found (Some other) is = cc

          gives : (is_open g.setup ≡ true) × Passing party.frame (frames ++ Gave frame ∷ []) true (after_frame machine)
          gives = passing-gives party.frame frames (is_open g.setup) machine frame next
              (subst (CarrierPasses party.frame frames (policy.wish g.held.psm) (is_open g.setup)) carrier_is
              (kept-setup party.frame frames (policy.wish g.held.psm) g.held.stage g.setup g.has (subst (HeldKeeps policy (Passed party.frame frames)) g.found (passes.at g.held.own))))

          goes : GoesOut said g.held.own r.peer
          goes = goes_out said v g.held g.setup r (Retransmitting machine) carrier_is gives.0 sound

          at : carrier_at g.held.own v ≡ Some (Retransmitting machine)
          at = ap (λ h. open_carrier (setup_on h)) g.found ∙ (ap open_carrier g.has ∙ (ap (λ b. carrier_if b g.setup) gives.0 ∙ carrier_is))

          low : (after_frame machine).agreed.send_window ≤ window
          low = let same = ap (λ (a : Agreed). a.send_window) (gives-aside machine).agreed_same in let few = machine_low policy past g.held.own window machine wide at in omega (arith, same, few)

          holds : HoldsAsTaken window (frames ++ Gave frame ∷ [])
          holds = passing-holds party.frame window (frames ++ Gave frame ∷ []) true (after_frame machine) low gives.1

          on : (mine : Bool) → eqb g.held.own channel.own ≡ mine → Kept (said ++ Carried Out pdu ∷ [])
          on true is =
              let mine = eqb-true g.held.own channel.own is in
              one_more said (Carried Out pdu ∷ []) (Gave frame) (out-own party channel said r.peer pdu frame (subst (λ n. GoesOut said n r.peer) mine goes) (read.1 ∙ sym peer_is) read.0)
              (λ before. subst (λ n. HoldsAsTaken window (frames_on party channel said n ++ Gave frame ∷ [])) mine holds) kept
          on false away = still said (Carried Out pdu ∷ []) (out-other party channel said g.held.own r.peer pdu goes (read.1 ∙ sym peer_is) away) kept

  step_kept : (past : List Occurrence) (more : Occurrence) → AreUttered policy past → IsUttered more (run_of policy past).value → Kept (run_of policy past).said → Kept ((run_of policy past).said ++ said_in policy more (run_of policy past).value)
  step_kept past more uttered now kept = by more now
    where
      said : List Saying
      said = (run_of policy past).said

      v : Channels
      v = (run_of policy past).value

      by : (more : Occurrence) → IsUttered more v → Kept (said ++ said_in policy more v)
      by (Comes pdu) now = comes_kept said v pdu (eqb (channel_of pdu) 0x0001) kept
      by (Connects psm) now = bare said (asked_between v (connected psm v)) (bare-asked v (connected psm v)) kept
      by AsksFeatures now = bare said (asked_between v (asks_features v)) (bare-asked v (asks_features v)) kept
      by (Disconnects own) now = let w : Channels = disconnected own v in bare said (asked_between v w ++ given_up own v w) (bare-left own v w) kept
      by (Sends own sdu) now = sends_kept said v own sdu now (all-sound policy past) kept
      by (Gives pdu) now = gives_kept past (next_given v) pdu uttered refl now kept
      by Fires now = let owns : List ℕ = map (λ (held : Held). held.own) v.held in bare said (said_by_channels policy.tries owns v) (bare-fired policy.tries owns v) kept
      by Tells now = nothing said kept

  -- ---- whatever happens

  later_kept : (past later : List Occurrence) → AreUttered policy past → EachAfter (λ front more. IsUttered more (run_of policy front).value) past later → Kept (run_of policy past).said → Kept (run_of policy (past ++ later)).said
  later_kept past [] before uttered kept = subst (λ (l : List Occurrence). Kept (run_of policy l).said) (sym (append-nil past)) kept
  later_kept past (one ∷ later) before (now, uttered) kept =
      let said : (run_of policy (past ++ one ∷ [])).said ≡ (run_of policy past).said ++ said_in policy one (run_of policy past).value = ap (λ (r : Run). r.said) (fold-append (run_on policy) new_link past (one ∷ [])) in
      subst (λ (l : List Occurrence). Kept (run_of policy l).said) (append_assoc past (one ∷ []) later)
      (later_kept (past ++ one ∷ []) later (each_after-more (λ front more. IsUttered more (run_of policy front).value) past one before now) uttered (subst Kept (sym said) (step_kept past one before now kept)))

pub hosts-hold_as_taken : HostsHoldAsTaken
hosts-hold_as_taken policy party list window states uttered wide = λ channel has. later_kept policy party channel window states wide [] list tt uttered (λ mode. none-passed window [] refl)
