-- A host holds the frames that its talk says.
use Rattle.std.proofs.Common.{◌≡◌, ℕ, ◌≤◌, List, [], ◌∷◌, ◌++◌, Bool, true, false, cond, eqb, ◌&&◌, Option, Some, None, Ok, Err, refl, sym, ap, subst, ◌∙◌, ◌⊎◌, inl, inr, arith, append-nil}
use Rattle.std.specs.Prelude.{find, option_map, option_to_list, is_some}
use Rattle.std.proofs.lemmas.Bool.{eqb-true}
use Rattle.talk_laws.specs.acl_fragments.specs.Pieces.{channel_of}
use Rattle.talk_laws.specs.capture.specs.declared.flow.Flow.TheVariants.{Into}
use Rattle.talk_laws.specs.l2cap_config.specs.declared.wish.Mode.{Mode}
use Rattle.talk_laws.specs.l2cap_config.specs.declared.wish.Agreed.{Agreed}
use Rattle.talk_laws.specs.l2cap_config.specs.declared.wish.Wish.{Wish}
use Rattle.talk_laws.specs.ertm_frames.specs.Answers.{Answer as FrameAnswer}
use Rattle.talk_laws.specs.ertm_frames.specs.Reading.{frame_by}
use Rattle.talk_laws.specs.ertm_frames.specs.Picking.{Passage, In}
use Rattle.channel_model.specs.ertm_model.specs.declared.reason.ErtmReason.{ErtmReason}
use Rattle.channel_model.specs.ertm_model.specs.Value.{Ertm}
use Rattle.talk_laws.specs.link_talk.specs.declared.channel.Channel.{Channel}
use Rattle.talk_laws.specs.link_talk.specs.declared.party.Party.{Party}
use Rattle.talk_laws.specs.link_talk.specs.Sayings.{Saying, Carried}
use Rattle.talk_laws.specs.link_talk.specs.Setups.{is_set}
use Rattle.talk_laws.specs.link_talk.specs.Channels.{Entry, is_there, reading}
use Rattle.talk_laws.specs.link_talk.specs.Carriages.{is_passed}
use Rattle.talk_laws.specs.link_talk.specs.Accounts.{frames_passed}
use Rattle.channel_model.specs.Value.{Own, Unasked, Asking, Granted, Carrier, Plain, Retransmitting, Setup, Stage, Requested, Connected, Leaving, Closing, Crossed, Held, Channels}
use Rattle.channel_model.specs.Policies.{Policy}
use Rattle.channel_model.specs.Changing.{has_own, has_fcs_by, is_open, is_stated, setup_of, stage_with, with_setup}
use Rattle.channel_model.specs.declared.event.CloseReason.{CloseReason}
use Rattle.channel_model.specs.Asking.{new_request}
use Rattle.channel_model.specs.Configuring.{granted_setup}
use Rattle.channel_model.specs.Closing.{closes_at}
use Rattle.channel_model.specs.Carrying.{reason_of, settles_machine, machine_heard, read_by as read, is_frame, is_taken_with, takes_on, takes_held, takes}
use Rattle.channel_model.proofs.Lookups.{own_of, found-has, found-placed, and_off}
use Rattle.channel_model.proofs.Going.{staged}
use Rattle.channel_model.proofs.Walking.{found-own, with-setup, with-found}
use Rattle.own_channel_laws.specs.Views.{peer_of, life_of, asked_mode, carrier_mode, read_at}
use Rattle.own_channel_laws.proofs.Both.{}
use Rattle.own_channel_laws.proofs.Sound.{Agrees, AgreesIf, standing-is, ReadsBy, Reads, Sound, requested-unread}
use Rattle.own_channel_laws.proofs.CheckWords.{stated_mode}
use Rattle.own_channel_laws.proofs.Keeping.{OfCarrier, StageKeeps, HeldKeeps, AllKeep}
use Rattle.own_channel_laws.proofs.Taking.{takes-cases, takes-others}
use Rattle.own_channel_laws.proofs.Incoming.{channel_at, fresh-held}
use Rattle.own_channel_laws.proofs.Carriages.{counted_in}
use Rattle.own_channel_laws.proofs.Passing.{Passing, CarrierPasses, Passed, heard_in, passing-hears}
use Rattle.own_channel_laws.proofs.Passages.{into-other, into-own}

-- the frames that passed on the channel of an own endpoint
abbrev pub frames_on : Party → Channel → List Saying → (own : ℕ) → List Passage
frames_on party channel past own = frames_passed party (channel_at channel own) past

-- each machine holds them
abbrev pub Pass : Policy → Party → Channel → List Saying → Channels → Type 0
Pass policy party channel past v = AllKeep policy (λ own. Passed party.frame (frames_on party channel past own)) v

-- ---- a channel that talks

pub kept-setup : (frame : ℕ) (frames : List Passage) (wish : Wish) (stage : Stage) (setup : Setup) → setup_of stage ≡ Some setup → StageKeeps (Passed frame frames) wish stage → CarrierPasses frame frames wish (is_open setup) setup.carrier
kept-setup frame frames wish (Requested request) setup is kept = cc
kept-setup frame frames wish (Connected peer s) setup is kept = let same : s ≡ setup = cc in subst (λ (x : Setup). CarrierPasses frame frames wish (is_open x) x.carrier) same kept
kept-setup frame frames wish (Leaving peer s request) setup is kept = let same : s ≡ setup = cc in subst (λ (x : Setup). CarrierPasses frame frames wish (is_open x) x.carrier) same kept
kept-setup frame frames wish (Closing peer request checked) setup is kept = cc
kept-setup frame frames wish (Crossed peer request) setup is kept = cc

pub keeps-setup : (frame : ℕ) (frames : List Passage) (wish : Wish) (stage : Stage) (setup : Setup) → setup_of stage ≡ Some setup → CarrierPasses frame frames wish (is_open setup) setup.carrier → StageKeeps (Passed frame frames) wish stage
keeps-setup frame frames wish (Requested request) setup is passes = cc
keeps-setup frame frames wish (Connected peer s) setup is passes = let same : s ≡ setup = cc in subst (λ (x : Setup). CarrierPasses frame frames wish (is_open x) x.carrier) (sym same) passes
keeps-setup frame frames wish (Leaving peer s request) setup is passes = let same : s ≡ setup = cc in subst (λ (x : Setup). CarrierPasses frame frames wish (is_open x) x.carrier) (sym same) passes
keeps-setup frame frames wish (Closing peer request checked) setup is passes = cc
keeps-setup frame frames wish (Crossed peer request) setup is passes = cc

-- what is read of it
pub record IsRead (policy : Policy) (past : List Saying) (own : ℕ) (held : Held) (setup : Setup) : Type 0 where
  pub peer : ℕ
  pub peer_is : peer_of held.stage ≡ Some peer
  pub entry : Entry
  pub found : read_at own (reading past).entries ≡ Some entry
  pub here : entry.channel.peer ≡ peer
  pub there : is_there entry.life ≡ true
  pub agrees : Agrees (policy.wish held.psm) setup entry.setup

read_by : (policy : Policy) (past : List Saying) (own : ℕ) (held : Held) (setup : Setup) (peer : ℕ) (found : Option Entry) → peer_of held.stage ≡ Some peer → is_there (life_of held.stage) ≡ true → setup_of held.stage ≡ Some setup
    → read_at own (reading past).entries ≡ found → ReadsBy policy held (Some peer) found → IsRead policy past own held setup
read_by policy past own held setup peer None peer_is lives has at reads = elim reads [ ]
read_by policy past own held setup peer (Some entry) peer_is lives has at (there, agrees) = record {
  peer = peer;
  peer_is = peer_is;
  entry = entry;
  found = at;
  here = ap (λ (c : Channel). c.peer) there.channel_is;
  there = ap is_there there.life_is ∙ lives;
  agrees = subst (λ s. AgreesIf (policy.wish held.psm) s entry.setup) (standing-is held.stage setup has) agrees;
}

talks_at : (stage : Stage) (setup : Setup) → setup_of stage ≡ Some setup → (peer : ℕ) × (peer_of stage ≡ Some peer) × (is_there (life_of stage) ≡ true)
talks_at (Requested request) setup is = cc
talks_at (Connected peer s) setup is = (peer, refl, refl)
talks_at (Leaving peer s request) setup is = (peer, refl, refl)
talks_at (Closing peer request checked) setup is = cc
talks_at (Crossed peer request) setup is = cc

pub is-read : (policy : Policy) (past : List Saying) (v : Channels) (own : ℕ) (held : Held) (setup : Setup) → find (has_own own) v.held ≡ Some held → setup_of held.stage ≡ Some setup → Sound policy (reading past) v → IsRead policy past own held setup
is-read policy past v own held setup found has sound =
    let (peer, peer_is, lives) = talks_at held.stage setup has in
    read_by policy past own held setup peer (read_at own (reading past).entries) peer_is lives has refl
    (subst (λ p. ReadsBy policy held p (read_at own (reading past).entries)) peer_is (subst (λ h. Reads policy h (read_at own (reading past).entries)) found (sound.core.reads own)))

-- whether it has opened in the talk
pub unset-is : (policy : Policy) (past : List Saying) (own : ℕ) (held : Held) (setup : Setup) (r : IsRead policy past own held setup) → (setup.carrier ≡ None) ⊎ (setup.own ≡ Unasked) → is_set r.entry.setup ≡ false
unset-is policy past own held setup r (inl none) = ap (λ (m : Option Mode). is_some r.entry.setup.asked && is_some m) (r.agrees.set_up.accepted_is ∙ ap (option_map carrier_mode) none) ∙ and_off (is_some r.entry.setup.asked)
unset-is policy past own held setup r (inr unasked) = ap (λ (m : Option Mode). is_some m && is_some r.entry.setup.accepted) (r.agrees.set_up.asked_is ∙ ap (asked_mode (policy.wish held.psm)) unasked)

pub set-is : (policy : Policy) (past : List Saying) (own : ℕ) (held : Held) (setup : Setup) (r : IsRead policy past own held setup) (carrier : Carrier) → setup.carrier ≡ Some carrier → is_stated setup.own ≡ true → is_set r.entry.setup ≡ true
set-is policy past own held setup r carrier is stated =
    ap (λ (m : Option Mode). is_some m && is_some r.entry.setup.accepted) (r.agrees.set_up.asked_is ∙ stated_mode (policy.wish held.psm) setup.own stated)
    ∙ ap (λ (m : Option Mode). is_some m) (r.agrees.set_up.accepted_is ∙ ap (option_map carrier_mode) is)

and_on : (b : Bool) → (b && true) ≡ b
and_on true = refl
and_on false = refl

held_is : (policy : Policy) (past : List Saying) (own : ℕ) (held : Held) (setup : Setup) (r : IsRead policy past own held setup) (b : Bool) → is_set r.entry.setup ≡ b → counted_in is_passed (read_at own (reading past).entries) ≡ b
held_is policy past own held setup r b is = ap (counted_in is_passed) r.found ∙ (ap (λ t. is_set r.entry.setup && t) r.there ∙ (and_on (is_set r.entry.setup) ∙ is))

-- ---- a PDU comes in

-- a channel that its machine closes is closed
closed_keeps : (policy : Policy) (P : OfCarrier) (u : Channels) (held : Held) (reason : CloseReason) (stage : Stage) (setup : Setup) → find (has_own held.own) u.held ≡ Some held → setup_of stage ≡ Some setup → HeldKeeps policy P (find (has_own held.own) (closes_at stage reason held u).held)
closed_keeps policy P u held reason (Requested request) setup found has = cc
closed_keeps policy P u held reason (Connected peer s) setup found has = subst (HeldKeeps policy P) (sym (found-placed (staged held (Closing peer (new_request u) (has_fcs_by s))) held u.held found)) tt
closed_keeps policy P u held reason (Leaving peer s request) setup found has = subst (HeldKeeps policy P) (sym (found-placed (staged held (Closing peer request (has_fcs_by s))) held u.held found)) tt
closed_keeps policy P u held reason (Closing peer request checked) setup found has = cc
closed_keeps policy P u held reason (Crossed peer request) setup found has = cc

-- the machine of a channel that takes it
heard_keeps : (policy : Policy) (party : Party) (frames : List Passage) (pdu : List ℕ) (u : Channels) (held : Held) (setup : Setup) (machine : Ertm) (opened : Bool) (closed : Option ErtmReason) → setup_of held.stage ≡ Some setup
    → find (has_own held.own) u.held ≡ Some (with_setup held (granted_setup setup)) → Passing party.frame frames opened machine → (machine_heard (read machine pdu) machine).closed ≡ closed
    → HeldKeeps policy (Passed party.frame (frames ++ heard_in party.frame pdu)) (find (has_own held.own) (settles_machine closed (machine_heard (read machine pdu) machine) (with_setup held (granted_setup setup)) (granted_setup setup) u).held)
heard_keeps policy party frames pdu u held setup machine opened None has here passing open' =
    let base : Setup = granted_setup setup in
    let after : Ertm = machine_heard (read machine pdu) machine in
    let last : Setup = record base { carrier = Some (Retransmitting after) } in
    let at_base : Held = with_setup held base in
    subst (HeldKeeps policy (Passed party.frame (frames ++ heard_in party.frame pdu))) (sym (with-found u at_base last here))
    (keeps-setup party.frame (frames ++ heard_in party.frame pdu) (policy.wish held.psm) (stage_with last at_base.stage) last (with-setup at_base.stage base last (with-setup held.stage setup base has)) (passing-hears party.frame frames opened machine pdu passing open'))
heard_keeps policy party frames pdu u held setup machine opened (Some reason) has here passing open' =
    let base : Setup = granted_setup setup in
    let at_base : Held = with_setup held base in
    closed_keeps policy (Passed party.frame (frames ++ heard_in party.frame pdu)) u at_base (reason_of reason) at_base.stage base here (with-setup held.stage setup base has)

heard_none : (party : Party) (frames : List Passage) (opened : Bool) (machine : Ertm) (pdu : List ℕ) → Passing party.frame frames opened machine → is_frame (read machine pdu) ≡ false → heard_in party.frame pdu ≡ []
heard_none party frames opened machine pdu passing none =
    ap (λ n. heard_in n pdu) (sym (ap (λ (a : Agreed). a.receive_mps) passing.agreed_is ∙ passing.frame_is)) ∙ by (read machine pdu) none
  where
    by : (found : FrameAnswer) → is_frame found ≡ false → option_to_list (option_map In (frame_by found)) ≡ []
    by (Ok frame) is = cc
    by (Err refusal) is = refl

-- a channel that does not take it, or that the talk has not opened
into_none : (party : Party) (channel : Channel) (past : List Saying) (pdu : List ℕ) (own : ℕ) (holds : Bool) → eqb (channel_of pdu) own ≡ true → counted_in is_passed (read_at own (reading past).entries) ≡ holds → (holds ≡ false) ⊎ (heard_in party.frame pdu ≡ [])
    → frames_on party channel (past ++ Carried Into pdu ∷ []) own ≡ frames_on party channel past own
into_none party channel past pdu own holds here is none = into-own party (channel_at channel own) past pdu holds here is ∙ (ap (λ fs. frames_on party channel past own ++ fs) (by holds none) ∙ append-nil (frames_on party channel past own))
  where
    by : (holds : Bool) → (holds ≡ false) ⊎ (heard_in party.frame pdu ≡ []) → cond holds (heard_in party.frame pdu) [] ≡ []
    by false none = refl
    by true (inl shut) = cc
    by true (inr nothing) = nothing

-- all of what may come of it
comes_on : (policy : Policy) (party : Party) (channel : Channel) (past : List Saying) (v : Channels) (pdu : List ℕ) (held : Held) (setup : Setup) → eqb (channel_of pdu) held.own ≡ true → find (has_own held.own) v.held ≡ Some held → setup_of held.stage ≡ Some setup
    → Sound policy (reading past) v → StageKeeps (Passed party.frame (frames_on party channel past held.own)) (policy.wish held.psm) held.stage
    → HeldKeeps policy (Passed party.frame (frames_on party channel (past ++ Carried Into pdu ∷ []) held.own)) (find (has_own held.own) (takes_on (Some setup) pdu held v).held)
comes_on policy party channel past v pdu held setup here found has sound kept =
    takes-cases (λ w. HeldKeeps policy (Passed party.frame after) (find (has_own held.own) w.held)) v pdu held setup (record {
      none = λ is. stays (same (inl (held_is policy past held.own held setup r false (unset-is policy past held.own held setup r (inl is)))));
      ignored = λ carrier is taken. stays (same (ignored setup.own refl carrier is taken));
      whole = λ u agreed waiting is taken opens.
          subst (HeldKeeps policy (Passed party.frame after)) (sym opens.here)
          (keeps-setup party.frame after (policy.wish held.psm) (stage_with (granted_setup setup) held.stage) (granted_setup setup) (with-setup held.stage setup (granted_setup setup) has)
          (subst (CarrierPasses party.frame after (policy.wish held.psm) (is_open (granted_setup setup))) (sym is) (subst (CarrierPasses party.frame before (policy.wish held.psm) (is_open setup)) is passes)));
      framed = λ u machine is taken opens.
          subst (λ fs. HeldKeeps policy (Passed party.frame fs) (find (has_own held.own) (settles_machine (machine_heard (read machine pdu) machine).closed (machine_heard (read machine pdu) machine) (with_setup held (granted_setup setup)) (granted_setup setup) u).held))
          (sym (into-own party (channel_at channel held.own) past pdu true here (held_is policy past held.own held setup r true (set-is policy past held.own held setup r (Retransmitting machine) is (stated setup.own (Retransmitting machine) taken)))))
          (heard_keeps policy party before pdu u held setup machine (is_open setup) (machine_heard (read machine pdu) machine).closed has opens.here (subst (CarrierPasses party.frame before (policy.wish held.psm) (is_open setup)) is passes) refl);
    }) found has
  where
    before : List Passage
    before = frames_on party channel past held.own

    after : List Passage
    after = frames_on party channel (past ++ Carried Into pdu ∷ []) held.own

    r : IsRead policy past held.own held setup
    r = is-read policy past v held.own held setup found has sound

    passes : CarrierPasses party.frame before (policy.wish held.psm) (is_open setup) setup.carrier
    passes = kept-setup party.frame before (policy.wish held.psm) held.stage setup has kept

    holds : Bool
    holds = counted_in is_passed (read_at held.own (reading past).entries)

    same : (holds ≡ false) ⊎ (heard_in party.frame pdu ≡ []) → after ≡ before
    same none = into_none party channel past pdu held.own holds here refl none

    stays : after ≡ before → HeldKeeps policy (Passed party.frame after) (find (has_own held.own) v.held)
    stays is = subst (HeldKeeps policy (Passed party.frame after)) (sym found) (subst (λ fs. StageKeeps (Passed party.frame fs) (policy.wish held.psm) held.stage) (sym is) kept)

    ignored : (own : Own) → setup.own ≡ own → (carrier : Carrier) → setup.carrier ≡ Some carrier → is_taken_with own carrier pdu ≡ false → (holds ≡ false) ⊎ (heard_in party.frame pdu ≡ [])
    ignored Unasked own_is carrier is taken = inl (held_is policy past held.own held setup r false (unset-is policy past held.own held setup r (inr own_is)))
    ignored (Asking request options) own_is (Plain agreed waiting) is taken = cc
    ignored (Asking request options) own_is (Retransmitting machine) is taken =
        inr (heard_none party before (is_open setup) machine pdu (subst (CarrierPasses party.frame before (policy.wish held.psm) (is_open setup)) is passes) taken)
    ignored Granted own_is carrier is taken = cc

    stated : (own : Own) (carrier : Carrier) → is_taken_with own carrier pdu ≡ true → is_stated own ≡ true
    stated Unasked carrier taken = cc
    stated (Asking request options) carrier taken = refl
    stated Granted carrier taken = refl

-- a channel of which there is nothing to carry
comes_none : (policy : Policy) (party : Party) (channel : Channel) (past : List Saying) (pdu : List ℕ) (held : Held) (stage : Stage) → held.stage ≡ stage → setup_of stage ≡ None → eqb (channel_of pdu) held.own ≡ true → Reads policy (Some held) (read_at held.own (reading past).entries)
    → StageKeeps (Passed party.frame (frames_on party channel past held.own)) (policy.wish held.psm) stage → StageKeeps (Passed party.frame (frames_on party channel (past ++ Carried Into pdu ∷ []) held.own)) (policy.wish held.psm) stage
comes_none policy party channel past pdu held (Requested request) is has here reads kept =
    into_none party channel past pdu held.own false here (ap (counted_in is_passed) (requested-unread policy held request (read_at held.own (reading past).entries) is reads)) (inl refl) ∙ kept
comes_none policy party channel past pdu held (Connected peer setup) is has here reads kept = cc
comes_none policy party channel past pdu held (Leaving peer setup request) is has here reads kept = cc
comes_none policy party channel past pdu held (Closing peer request checked) is has here reads kept = tt
comes_none policy party channel past pdu held (Crossed peer request) is has here reads kept = tt

comes_held : (policy : Policy) (party : Party) (channel : Channel) (past : List Saying) (v : Channels) (pdu : List ℕ) (held : Held) → eqb (channel_of pdu) held.own ≡ true → find (has_own held.own) v.held ≡ Some held → Sound policy (reading past) v
    → StageKeeps (Passed party.frame (frames_on party channel past held.own)) (policy.wish held.psm) held.stage
    → HeldKeeps policy (Passed party.frame (frames_on party channel (past ++ Carried Into pdu ∷ []) held.own)) (find (has_own held.own) (takes_on (setup_of held.stage) pdu held v).held)
comes_held policy party channel past v pdu held here found sound kept = by (setup_of held.stage) refl
  where
    by : (setup : Option Setup) → setup_of held.stage ≡ setup → HeldKeeps policy (Passed party.frame (frames_on party channel (past ++ Carried Into pdu ∷ []) held.own)) (find (has_own held.own) (takes_on setup pdu held v).held)
    by None has =
        subst (HeldKeeps policy (Passed party.frame (frames_on party channel (past ++ Carried Into pdu ∷ []) held.own))) (sym found)
        (comes_none policy party channel past pdu held held.stage refl has here (subst (λ h. Reads policy h (read_at held.own (reading past).entries)) found (sound.core.reads held.own)) kept)
    by (Some setup) has = comes_on policy party channel past v pdu held setup here found has sound kept

pub comes-pass : (policy : Policy) (party : Party) (channel : Channel) (past : List Saying) (v : Channels) (pdu : List ℕ) → Sound policy (reading past) v → Pass policy party channel past v → Pass policy party channel (past ++ Carried Into pdu ∷ []) (takes (channel_of pdu) pdu v)
comes-pass policy party channel past v pdu sound all = record {
  at = λ own. by own (eqb k own) refl;
  fresh = λ own psm above. fresh own (eqb k own) refl (above_v own above) ∙ all.fresh own psm (above_v own above);
  below = λ own above. fresh-held own k pdu v (all.below own (above_v own above));
}
  where
    k : ℕ
    k = channel_of pdu

    w : Channels
    w = takes k pdu v

    above_v : (own : ℕ) → w.next ≤ own → v.next ≤ own
    above_v own above = let same : w.next ≡ v.next = (takes-others k pdu v).next_is in omega (arith, same, above)

    fresh : (own : ℕ) (same : Bool) → eqb k own ≡ same → v.next ≤ own → frames_on party channel (past ++ Carried Into pdu ∷ []) own ≡ frames_on party channel past own
    fresh own true is above = into_none party channel past pdu own false is (ap (counted_in is_passed) (sound.core.read_below own above)) (inl refl)
    fresh own false away above = into-other party (channel_at channel own) past pdu away

    on : (own : ℕ) (held : Option Held) → find (has_own own) v.held ≡ held → eqb k own ≡ true → HeldKeeps policy (Passed party.frame (frames_on party channel past own)) held
        → HeldKeeps policy (Passed party.frame (frames_on party channel (past ++ Carried Into pdu ∷ []) own)) (find (has_own own) (takes_held held pdu v).held)
    on own None found is kept = subst (HeldKeeps policy (Passed party.frame (frames_on party channel (past ++ Carried Into pdu ∷ []) own))) (sym found) tt
    on own (Some held) found is kept =
        let same : held.own ≡ own = found-has own_of own v.held held found in
        subst (λ n. HeldKeeps policy (Passed party.frame (frames_on party channel (past ++ Carried Into pdu ∷ []) n)) (find (has_own n) (takes_on (setup_of held.stage) pdu held v).held)) same
        (comes_held policy party channel past v pdu held (ap (eqb k) same ∙ is) (found-own own v held found) sound (subst (λ n. StageKeeps (Passed party.frame (frames_on party channel past n)) (policy.wish held.psm) held.stage) (sym same) kept))

    by : (own : ℕ) (same : Bool) → eqb k own ≡ same → HeldKeeps policy (Passed party.frame (frames_on party channel (past ++ Carried Into pdu ∷ []) own)) (find (has_own own) w.held)
    by own true is =
        subst (λ n. HeldKeeps policy (Passed party.frame (frames_on party channel (past ++ Carried Into pdu ∷ []) own)) (find (has_own own) (takes n pdu v).held)) (sym (eqb-true k own is))
        (on own (find (has_own own) v.held) refl is (all.at own))
    by own false away =
        subst (HeldKeeps policy (Passed party.frame (frames_on party channel (past ++ Carried Into pdu ∷ []) own))) (sym ((takes-others k pdu v).others own away))
        (subst (λ fs. HeldKeeps policy (Passed party.frame fs) (find (has_own own) v.held)) (sym (into-other party (channel_at channel own) past pdu away)) (all.at own))
