-- A PDU on a channel shows that the request for its options was accepted.
use Rattle.std.proofs.Common.{◌≡◌, ℕ, List, [], ◌∷◌, ◌++◌, fold, Bool, true, false, cond, eqb, not, ◌&&◌, ◌||◌, Option, Some, None, Ok, Err, refl, sym, ap, subst, ◌∙◌, inl, inr}
use Rattle.std.specs.Prelude.{find, option_map, is_some}
use Rattle.std.proofs.lemmas.Bool.{eqb-true}
use Rattle.talk_laws.specs.acl_fragments.specs.Pieces.{channel_of}
use Rattle.talk_laws.specs.capture.specs.declared.flow.Flow.TheVariants.{Into}
use Rattle.talk_laws.specs.l2cap_config.specs.declared.wish.Mode.{Mode}
use Rattle.talk_laws.specs.ertm_frames.specs.Answers.{Answer}
use Rattle.talk_laws.specs.ertm_frames.specs.Reading.{frame_by, frame_in}
use Rattle.channel_model.specs.ertm_model.specs.Value.{Ertm}
use Rattle.talk_laws.specs.link_talk.specs.declared.channel.Channel.{Channel}
use Rattle.talk_laws.specs.link_talk.specs.declared.party.Party.{Party}
use Rattle.talk_laws.specs.link_talk.specs.Sayings.{Saying, Carried}
use Rattle.talk_laws.specs.link_talk.specs.Setups.{is_enhanced}
use Rattle.talk_laws.specs.link_talk.specs.Channels.{Entry, is_there, reading}
use Rattle.talk_laws.specs.link_talk.specs.Waits.{OptionsImplied, is_shown_by, demand_at, demanded}
use Rattle.channel_model.specs.Value.{Own, Unasked, Asking, Granted, Carrier, Plain, Retransmitting, Setup, Stage, Requested, Connected, Leaving, Closing, Crossed, Held, Channels}
use Rattle.channel_model.specs.Policies.{Policy}
use Rattle.channel_model.specs.Changing.{has_own, is_stated, held_at, setup_of, with_setup, stage_with}
use Rattle.channel_model.specs.Configuring.{granted_setup}
use Rattle.channel_model.specs.Carrying.{machine_heard, read_by, is_frame, shows, is_taken_with, takes_on, takes_held, takes}
use Rattle.channel_model.proofs.Lookups.{own_of, found-has, eqb-same, eqb-away}
use Rattle.channel_model.proofs.Walking.{found-own, with-setup}
use Rattle.own_channel_laws.specs.Sdus.{StatesFrame}
use Rattle.own_channel_laws.specs.Tries.{own_request}
use Rattle.own_channel_laws.specs.Views.{peer_of, carrier_mode, standing, read_at}
use Rattle.own_channel_laws.proofs.Entries.{read-own}
use Rattle.own_channel_laws.proofs.Sound.{Agrees, AgreesIf, standing-is, CarrierIs, ReadsBy, Reads, Sound}
use Rattle.own_channel_laws.proofs.CheckWords.{stated_mode}
use Rattle.own_channel_laws.proofs.Lasting.{asked_by}
use Rattle.own_channel_laws.proofs.Taking.{takes-cases, takes-others}
use Rattle.own_channel_laws.proofs.Demanding.{asked_at, asked_on, Stays, settles-rests}
use Rattle.own_channel_laws.proofs.Wishing.{waiting, waiting-more, sound-named}
use Rattle.own_channel_laws.proofs.Agreed.{AllStated, stated-at}
use Rattle.own_channel_laws.proofs.Heeding.{Heeds}
use Rattle.own_channel_laws.proofs.Answered.{setup-asks, setup-talks, no-setup_asks}

-- ---- a PDU on a channel

-- whether it shows that the request was accepted
shown_at : (party : Party) (channel : Channel) (past : List Saying) (pdu : List ℕ) (entry : Entry) → read_at channel.own (reading past).entries ≡ Some entry → is_there entry.life ≡ true
    → waiting party channel (past ++ Carried Into pdu ∷ []) ≡ cond (is_shown_by party pdu entry) None (waiting party channel past)
shown_at party channel past pdu entry found there =
    waiting-more party channel past (Carried Into pdu)
    ∙ (ap (λ e. fold demanded (waiting party channel past) (demand_at party (reading past) (Carried Into pdu) e)) found
    ∙ (ap (λ t. fold demanded (waiting party channel past) (cond t (cond (is_shown_by party pdu entry) (OptionsImplied ∷ []) []) [])) there ∙ by (is_shown_by party pdu entry)))
  where
    by : (b : Bool) → fold demanded (waiting party channel past) (cond b (OptionsImplied ∷ []) []) ≡ cond b None (waiting party channel past)
    by true = refl
    by false = refl

-- one for another endpoint shows nothing
shown_else : (party : Party) (channel : Channel) (past : List Saying) (pdu : List ℕ) (found : Option Entry) → read_at channel.own (reading past).entries ≡ found → eqb (channel_of pdu) channel.own ≡ false → waiting party channel (past ++ Carried Into pdu ∷ []) ≡ waiting party channel past
shown_else party channel past pdu found is away = waiting-more party channel past (Carried Into pdu) ∙ (ap (λ e. fold demanded (waiting party channel past) (demand_at party (reading past) (Carried Into pdu) e)) is ∙ by found is)
  where
    hidden : (a there b : Bool) → b ≡ false → (rest : Bool) → fold demanded (waiting party channel past) (cond there (cond ((a && b) && rest) (OptionsImplied ∷ []) []) []) ≡ waiting party channel past
    hidden true true b none rest = ap (λ t. fold demanded (waiting party channel past) (cond (t && rest) (OptionsImplied ∷ []) [])) none
    hidden false true b none rest = refl
    hidden a false b none rest = refl

    by : (found : Option Entry) → read_at channel.own (reading past).entries ≡ found → fold demanded (waiting party channel past) (demand_at party (reading past) (Carried Into pdu) found) ≡ waiting party channel past
    by None is = refl
    by (Some entry) is =
        hidden (is_some entry.setup.accepted) (is_there entry.life) (eqb entry.channel.own (channel_of pdu))
        (ap (λ n. eqb n (channel_of pdu)) (read-own channel.own (reading past).entries entry is) ∙ eqb-away (channel_of pdu) channel.own away)
        (not (is_enhanced entry.setup.asked) || is_some (frame_in party.frame pdu))

agrees_by : (policy : Policy) (held : Held) (peer : Option ℕ) (found : Option Entry) (entry : Entry) → found ≡ Some entry → ReadsBy policy held peer found → AgreesIf (policy.wish held.psm) (standing held.stage) entry.setup
agrees_by policy held None None entry is reads = cc
agrees_by policy held None (Some other) entry is reads = elim reads [ ]
agrees_by policy held (Some peer) None entry is reads = elim reads [ ]
agrees_by policy held (Some peer) (Some other) entry is reads = let same : other ≡ entry = cc in subst (λ (e : Entry). AgreesIf (policy.wish held.psm) (standing held.stage) e.setup) same reads.1

-- a channel of the host that a PDU comes in for
record Comes_for (policy : Policy) (party : Party) (channel : Channel) (past : List Saying) (v : Channels) (pdu : List ℕ) (held : Held) (setup : Setup) : Type 0 where
  entry : Entry
  named : eqb entry.channel.own (channel_of pdu) ≡ true
  agrees : Agrees (policy.wish held.psm) setup entry.setup
  waits : waiting party channel (past ++ Carried Into pdu ∷ []) ≡ cond (is_shown_by party pdu entry) None (waiting party channel past)
  asks : waiting party channel past ≡ asked_by (own_request setup.own)
  frames : (machine : Ertm) → setup.carrier ≡ Some (Retransmitting machine) → machine.agreed.receive_mps ≡ party.frame

comes_for : (policy : Policy) (party : Party) (channel : Channel) (past : List Saying) (v : Channels) (pdu : List ℕ) (held : Held) (setup : Setup) → held_at channel.own v ≡ Some held → setup_of held.stage ≡ Some setup → eqb (channel_of pdu) channel.own ≡ true
    → StatesFrame policy party → AllStated policy v → Sound policy (reading past) v → Heeds party channel past v → Comes_for policy party channel past v pdu held setup
comes_for policy party channel past v pdu held setup at has here states stated sound heeds =
    let (peer, talks) = setup-talks held.stage setup has in
    let named = (sound-named policy past v sound).named channel.own peer held at talks in
    record {
      entry = named.entry;
      named = ap (λ n. eqb n (channel_of pdu)) (read-own channel.own (reading past).entries named.entry named.found ∙ sym (eqb-true (channel_of pdu) channel.own here)) ∙ eqb-same (channel_of pdu);
      agrees = subst (λ s. AgreesIf (policy.wish held.psm) s named.entry.setup) (standing-is held.stage setup has)
          (agrees_by policy held (peer_of held.stage) (read_at channel.own (reading past).entries) named.entry named.found (subst (λ h. Reads policy h (read_at channel.own (reading past).entries)) at (sound.core.reads channel.own)));
      waits = shown_at party channel past pdu named.entry named.found named.there;
      asks = heeds (asked_by (own_request setup.own)) (ap asked_on at ∙ setup-asks held.stage setup has);
      frames = λ machine carrier. stated-at policy v channel.own held setup machine stated at has carrier ∙ states held.psm;
    }

-- behind it, by what is held of the channel then
abbrev Behind : Party → Channel → List Saying → List ℕ → Channels → Type 0
Behind party channel past pdu w = (m : Option ℕ) → asked_on (held_at channel.own w) ≡ Some m → waiting party channel (past ++ Carried Into pdu ∷ []) ≡ m

waits_still : (party : Party) (channel : Channel) (past : List Saying) (v : Channels) (pdu : List ℕ) (shown : Bool) → shown ≡ false → waiting party channel (past ++ Carried Into pdu ∷ []) ≡ cond shown None (waiting party channel past) → Heeds party channel past v
    → Behind party channel past pdu v
waits_still party channel past v pdu shown none is heeds m asked = is ∙ (ap (λ t. cond t None (waiting party channel past)) none ∙ heeds m asked)

both_none : (b : Bool) (waits : Option ℕ) → waits ≡ None → cond b None waits ≡ None
both_none true waits is = refl
both_none false waits is = is

-- of a machine no frame shows nothing
mode_is : (policy : Policy) (held : Held) (setup : Setup) (entry : Entry) (carrier : Carrier) → Agrees (policy.wish held.psm) setup entry.setup → setup.carrier ≡ Some carrier → is_stated setup.own ≡ true → is_enhanced entry.setup.asked ≡ is_enhanced (Some (carrier_mode carrier))
mode_is policy held setup entry carrier agrees c stated =
    ap is_enhanced (agrees.set_up.asked_is ∙ stated_mode (policy.wish held.psm) setup.own stated) ∙ ap (λ m. is_enhanced (Some m)) (sym (subst (CarrierIs (policy.wish held.psm)) c agrees.carrier_is))

accepted_is : (policy : Policy) (held : Held) (setup : Setup) (entry : Entry) (carrier : Option Carrier) → Agrees (policy.wish held.psm) setup entry.setup → setup.carrier ≡ carrier → is_some entry.setup.accepted ≡ is_some carrier
accepted_is policy held setup entry None agrees c = ap (λ (m : Option Mode). is_some m) (agrees.set_up.accepted_is ∙ ap (option_map carrier_mode) c)
accepted_is policy held setup entry (Some carrier) agrees c = ap (λ (m : Option Mode). is_some m) (agrees.set_up.accepted_is ∙ ap (option_map carrier_mode) c)

frame_some : (found : Answer) → is_some (frame_by found) ≡ is_frame found
frame_some (Ok frame) = refl
frame_some (Err refusal) = refl

-- where its request waits, a PDU shows in the talk what it shows to the host
shows_is : (policy : Policy) (party : Party) (channel : Channel) (past : List Saying) (v : Channels) (pdu : List ℕ) (held : Held) (setup : Setup) (c : Comes_for policy party channel past v pdu held setup) (carrier : Carrier) → setup.carrier ≡ Some carrier
    → is_stated setup.own ≡ true → is_shown_by party pdu c.entry ≡ shows carrier pdu
shows_is policy party channel past v pdu held setup c carrier is stated =
    ap (λ t. (t && eqb c.entry.channel.own (channel_of pdu)) && rest) (accepted_is policy held setup c.entry (Some carrier) c.agrees is)
    ∙ (ap (λ t. t && rest) c.named ∙ (ap (λ t. not t || is_some (frame_in party.frame pdu)) (mode_is policy held setup c.entry carrier c.agrees is stated) ∙ by carrier is))
  where
    rest : Bool
    rest = not (is_enhanced c.entry.setup.asked) || is_some (frame_in party.frame pdu)

    by : (carrier : Carrier) → setup.carrier ≡ Some carrier → (not (is_enhanced (Some (carrier_mode carrier))) || is_some (frame_in party.frame pdu)) ≡ shows carrier pdu
    by (Plain agreed waiting) is = refl
    by (Retransmitting machine) is = ap (λ n. is_some (frame_in n pdu)) (sym (c.frames machine is)) ∙ frame_some (read_by machine pdu)

-- it is not taken
ignored_so : (policy : Policy) (party : Party) (channel : Channel) (past : List Saying) (v : Channels) (pdu : List ℕ) (held : Held) (setup : Setup) (c : Comes_for policy party channel past v pdu held setup) → Heeds party channel past v
    → (own : Own) → setup.own ≡ own → (carrier : Carrier) → setup.carrier ≡ Some carrier → is_taken_with own carrier pdu ≡ false → Behind party channel past pdu v
ignored_so policy party channel past v pdu held setup c heeds Unasked own_is carrier is taken = λ m asked.
    let none : waiting party channel past ≡ None = c.asks ∙ ap (λ o. asked_by (own_request o)) own_is in
    c.waits ∙ (both_none (is_shown_by party pdu c.entry) (waiting party channel past) none ∙ (sym none ∙ heeds m asked))
ignored_so policy party channel past v pdu held setup c heeds (Asking request options) own_is carrier is taken =
    waits_still party channel past v pdu (is_shown_by party pdu c.entry) (shows_is policy party channel past v pdu held setup c carrier is (ap is_stated own_is) ∙ taken) c.waits heeds
ignored_so policy party channel past v pdu held setup c heeds Granted own_is carrier is taken = cc

-- it is taken, and no request waits any more
taken_so : (policy : Policy) (party : Party) (channel : Channel) (past : List Saying) (v : Channels) (pdu : List ℕ) (held : Held) (setup : Setup) (c : Comes_for policy party channel past v pdu held setup)
    → (own : Own) → setup.own ≡ own → (carrier : Carrier) → setup.carrier ≡ Some carrier → is_taken_with own carrier pdu ≡ true → waiting party channel (past ++ Carried Into pdu ∷ []) ≡ None
taken_so policy party channel past v pdu held setup c Unasked own_is carrier is taken = cc
taken_so policy party channel past v pdu held setup c (Asking request options) own_is carrier is taken =
    c.waits ∙ ap (λ t. cond t None (waiting party channel past)) (shows_is policy party channel past v pdu held setup c carrier is (ap is_stated own_is) ∙ taken)
taken_so policy party channel past v pdu held setup c Granted own_is carrier is taken =
    c.waits ∙ both_none (is_shown_by party pdu c.entry) (waiting party channel past) (c.asks ∙ ap (λ o. asked_by (own_request o)) own_is)

granted_asks : (setup : Setup) (stage : Stage) (m : Option ℕ) → asked_at (stage_with (granted_setup setup) stage) ≡ Some m → None ≡ m
granted_asks setup (Requested request) m is = cc
granted_asks setup (Connected peer s) m is = cc
granted_asks setup (Leaving peer s request) m is = cc
granted_asks setup (Closing peer request checked) m is = cc
granted_asks setup (Crossed peer request) m is = cc

taken_on : (policy : Policy) (party : Party) (channel : Channel) (past : List Saying) (v : Channels) (pdu : List ℕ) (held : Held) (setup : Setup) → held_at channel.own v ≡ Some held → setup_of held.stage ≡ Some setup → Heeds party channel past v
    → Comes_for policy party channel past v pdu held setup → Behind party channel past pdu (takes_on (Some setup) pdu held v)
taken_on policy party channel past v pdu held setup at has heeds c =
    takes-cases (Behind party channel past pdu) v pdu held setup (record {
      none = λ is. waits_still party channel past v pdu (is_shown_by party pdu c.entry) (unaccepted (accepted_is policy held setup c.entry None c.agrees is)) c.waits heeds;
      ignored = λ carrier is taken. ignored_so policy party channel past v pdu held setup c heeds setup.own refl carrier is taken;
      whole = λ u agreed waits is taken opens m asked. taken_so policy party channel past v pdu held setup c setup.own refl (Plain agreed waits) is taken ∙ granted_asks setup held.stage m (sym (ap asked_on (here u opens.here)) ∙ asked);
      framed = λ u machine is taken opens m asked.
          taken_so policy party channel past v pdu held setup c setup.own refl (Retransmitting machine) is taken
          ∙ settled_so u (here u opens.here) m _ asked (settles-rests u (machine_heard (read_by machine pdu) machine).closed (machine_heard (read_by machine pdu) machine) (with_setup held (granted_setup setup)) (granted_setup setup) opens.here (with-setup held.stage setup (granted_setup setup) has) channel.own);
    }) (found-own channel.own v held at) has
  where
    unaccepted : is_some c.entry.setup.accepted ≡ false → is_shown_by party pdu c.entry ≡ false
    unaccepted none = ap (λ t. (t && eqb c.entry.channel.own (channel_of pdu)) && (not (is_enhanced c.entry.setup.asked) || is_some (frame_in party.frame pdu))) none

    here : (u : Channels) → find (has_own held.own) u.held ≡ Some (with_setup held (granted_setup setup)) → held_at channel.own u ≡ Some (with_setup held (granted_setup setup))
    here u found = subst (λ n. find (has_own n) u.held ≡ Some (with_setup held (granted_setup setup))) (found-has own_of channel.own v.held held at) found

    settled_so : (u : Channels) → held_at channel.own u ≡ Some (with_setup held (granted_setup setup)) → (m : Option ℕ) (now : Option (Option ℕ)) → now ≡ Some m → Stays now (asked_on (held_at channel.own u)) → None ≡ m
    settled_so u found m now asked (inl none) = let never : None ≡ Some m = sym none ∙ asked in absurd cc
    settled_so u found m now asked (inr same) = granted_asks setup held.stage m (sym (ap asked_on found) ∙ (sym same ∙ asked))

taken_by : (policy : Policy) (party : Party) (channel : Channel) (past : List Saying) (v : Channels) (pdu : List ℕ) (held : Option Held) → held_at channel.own v ≡ held → eqb (channel_of pdu) channel.own ≡ true → StatesFrame policy party → AllStated policy v
    → Sound policy (reading past) v → Heeds party channel past v → Behind party channel past pdu (takes_held held pdu v)
taken_by policy party channel past v pdu None at here states stated sound heeds = λ m asked. let never : None ≡ Some m = sym (ap asked_on at) ∙ asked in absurd cc
taken_by policy party channel past v pdu (Some held) at here states stated sound heeds = by (setup_of held.stage) refl
  where
    by : (setup : Option Setup) → setup_of held.stage ≡ setup → Behind party channel past pdu (takes_on setup pdu held v)
    by None has = λ m asked. absurd (no-setup_asks held.stage m has (sym (ap asked_on at) ∙ asked))
    by (Some setup) has = taken_on policy party channel past v pdu held setup at has heeds (comes_for policy party channel past v pdu held setup at has here states stated sound heeds)

pub takes-so : (policy : Policy) (party : Party) (channel : Channel) (past : List Saying) (v : Channels) (pdu : List ℕ) → StatesFrame policy party → AllStated policy v → Sound policy (reading past) v → Heeds party channel past v
    → Behind party channel past pdu (takes (channel_of pdu) pdu v)
takes-so policy party channel past v pdu states stated sound heeds = by (eqb (channel_of pdu) channel.own) refl
  where
    by : (same : Bool) → eqb (channel_of pdu) channel.own ≡ same → Behind party channel past pdu (takes (channel_of pdu) pdu v)
    by true is = subst (λ n. Behind party channel past pdu (takes n pdu v)) (sym (eqb-true (channel_of pdu) channel.own is)) (taken_by policy party channel past v pdu (held_at channel.own v) refl is states stated sound heeds)
    by false away = λ m asked.
        shown_else party channel past pdu (read_at channel.own (reading past).entries) refl away ∙ heeds m (sym (ap asked_on ((takes-others (channel_of pdu) pdu v).others channel.own away)) ∙ asked)
