-- What is spoken on a basic channel is what it took and what was handed up of it.
use Rattle.std.proofs.Common.{◌≡◌, ℕ, ◌<◌, List, [], ◌∷◌, ◌++◌, length, map, drop, filter_map, Bool, true, false, cond, eqb, ◌&&◌, Option, Some, None, refl, sym, ap, subst, ◌∙◌, inl, inr, append_assoc, append-nil}
use Rattle.std.specs.Prelude.{unwrap_or}
use Rattle.std.proofs.lemmas.Bool.{eqb-true}
use Rattle.std.proofs.lemmas.List.{map-append}
use Rattle.std.proofs.lemmas.List.Elements.{filter_map-append}
use Rattle.std.proofs.lemmas.List.Sums.{fold-append}
use Rattle.std.proofs.Math.Seq.{drop-append_seam}
use Rattle.own_channel_laws.specs.talk_laws.specs.bt_base.proofs.OctetLemmas.{le16-number}
use Rattle.own_channel_laws.specs.talk_laws.specs.acl_fragments.specs.Pieces.{channel_of}
use Rattle.own_channel_laws.specs.talk_laws.specs.capture.specs.declared.flow.Flow.{Flow}
use Rattle.own_channel_laws.specs.talk_laws.specs.capture.specs.declared.flow.Flow.TheVariants.{Out, Into}
use Rattle.own_channel_laws.specs.talk_laws.specs.capture.specs.Histories.{each_after, given_by, EachAfter}
use Rattle.own_channel_laws.specs.talk_laws.specs.capture.specs.Pdus.{same_flow}
use Rattle.own_channel_laws.specs.talk_laws.specs.capture.proofs.HistoryLaws.{given_by-more}
use Rattle.own_channel_laws.specs.talk_laws.specs.l2cap_signal.specs.Reading.{answers}
use Rattle.own_channel_laws.specs.talk_laws.specs.l2cap_config.specs.declared.wish.Mode.TheVariants.{Basic, Enhanced}
use Rattle.own_channel_laws.specs.talk_laws.specs.link_talk.specs.declared.channel.Channel.{Channel}
use Rattle.own_channel_laws.specs.talk_laws.specs.link_talk.specs.declared.party.Party.{Party}
use Rattle.own_channel_laws.specs.talk_laws.specs.link_talk.specs.Sayings.{Saying, Command as Said, Carried, GaveUp}
use Rattle.own_channel_laws.specs.talk_laws.specs.link_talk.specs.Setups.{is_set}
use Rattle.own_channel_laws.specs.talk_laws.specs.link_talk.specs.Channels.{Entry, is_alive, is_there, reading}
use Rattle.own_channel_laws.specs.talk_laws.specs.link_talk.specs.Carriages.{Carriage, is_held, is_heard, takes as takes_on_it, carried, stretch, pdus_of, one_way, mode_of}
use Rattle.own_channel_laws.specs.talk_laws.specs.link_talk.specs.Gains.{gained}
use Rattle.own_channel_laws.specs.talk_laws.specs.link_talk.specs.GrowingLaws.{has_opened}
use Rattle.own_channel_laws.specs.talk_laws.specs.link_talk.specs.Sdus.{Spoken, spoken_as, sdus_of, spoken_with, spoken}
use Rattle.own_channel_laws.specs.talk_laws.specs.link_talk.proofs.Growing.{stretch-grows}
use Rattle.own_channel_laws.specs.channel_model.specs.Value.{Own, Unasked, Asking, Granted, Carrier, Plain, Retransmitting, Setup, Stage, Requested, Connected, Leaving, Closing, Crossed, Held, Channels}
use Rattle.own_channel_laws.specs.channel_model.specs.Policies.{Policy}
use Rattle.own_channel_laws.specs.channel_model.specs.Changing.{held_at, is_open, is_stated, setup_of}
use Rattle.own_channel_laws.specs.channel_model.specs.Carrying.{Nothing, sdu_with, sdu_at, up_by, up_on, up_at, takes}
use Rattle.own_channel_laws.specs.channel_model.specs.Giving.{Given, Signal, Whole, Framed, headed, carrier_gives, next_given}
use Rattle.own_channel_laws.specs.channel_model.specs.Calls.{setup_on, carrier_if, open_carrier, carrier_at, connected, asks_features, disconnected}
use Rattle.own_channel_laws.specs.channel_model.proofs.Lookups.{own_of, eqb-same, found-has, and_off}
use Rattle.own_channel_laws.specs.OwnTalk.{asked_between, said_with_all}
use Rattle.own_channel_laws.specs.Runs.{Occurrence, Comes, Connects, AsksFeatures, Disconnects, Sends, Gives, Fires, Tells, peer_at, said_by_carrier, said_as, said_in, Run, new_link, run_on, run_of}
use Rattle.own_channel_laws.specs.Views.{peer_of, life_of, read_at}
use Rattle.own_channel_laws.specs.Frames.{IsSpelled, IsUttered}
use Rattle.channel_laws.specs.Taken.{is_free}
use Rattle.channel_laws.specs.Exchanged.{heard_in, exchanged_in, exchanged_of, ExchangedIsSpoken}
use Rattle.own_channel_laws.proofs.Both.{and-left, and-right}
use Rattle.own_channel_laws.proofs.Carriages.{goes_over, carried-none, into-else, counted_in, into-here}
use Rattle.channel_laws.proofs.Ferrying.{IsBasic}
use Rattle.own_channel_laws.proofs.Holding.{IsRead, is-read, set-is, unset-is}
use Rattle.own_channel_laws.proofs.Outgoing.{open-stated}
use Rattle.own_channel_laws.proofs.Passages.{both-false, GoesOut, carried-own, spelled-frame}
use Rattle.channel_laws.proofs.PlainTaken.{basic_mode, wished_basic}
use Rattle.own_channel_laws.proofs.Running.{all-sound}
use Rattle.own_channel_laws.proofs.Signalling.{is_carried, IsBare, bare-asked, bare-left, bare-with_all, bare-fired}
use Rattle.own_channel_laws.proofs.Sound.{ReadsBy, Reads, Sound}
use Rattle.own_channel_laws.proofs.Stretching.{unopened-stretch}
use Rattle.channel_laws.proofs.Trusting.{Gives_out, queue-out}

-- ---- what its talk carries

abbrev pub sdu_of : Carriage → Spoken
sdu_of one = spoken_as one.flow (drop 4 one.pdu)

-- each PDU of its stretch brings its SDU
abbrev pub spoken_on : Channel → List Saying → List Spoken
spoken_on channel said = map sdu_of (stretch channel said)

flow_same : (flow : Flow) → same_flow flow flow ≡ true
flow_same Out = refl
flow_same Into = refl

brings_one : (party : Party) (past : List Carriage) (one : Carriage) → gained (sdus_of party Basic one.flow) past one ≡ drop 4 one.pdu ∷ []
brings_one party past one =
    let before : List (List ℕ) = sdus_of party Basic one.flow past in
    let last : pdus_of one.flow (one ∷ []) ≡ one.pdu ∷ [] = ap (λ b. filter_map (λ (x : Option (List ℕ)). x) (cond b (Some one.pdu) None ∷ [])) (flow_same one.flow) in
    ap (drop (length before))
    (ap (map (drop 4)) (filter_map-append (one_way one.flow) past (one ∷ []) ∙ ap (λ ps. pdus_of one.flow past ++ ps) last) ∙ map-append (drop 4) (pdus_of one.flow past) (one.pdu ∷ []))
    ∙ drop-append_seam before (drop 4 one.pdu ∷ [])

all_brought : (party : Party) (past rest : List Carriage) → each_after (spoken_with party Basic) past rest ≡ map sdu_of rest
all_brought party past [] = refl
all_brought party past (one ∷ rest) =
    ap (λ (sdus : List (List ℕ)). map (spoken_as one.flow) sdus ++ each_after (spoken_with party Basic) (past ++ one ∷ []) rest) (brings_one party past one)
    ∙ ap (λ l. sdu_of one ∷ l) (all_brought party (past ++ one ∷ []) rest)

-- nothing before it was read
pub unread-silent : (channel : Channel) (past : List Saying) → read_at channel.own (reading past).entries ≡ None → spoken_on channel past ≡ []
unread-silent channel past none = ap (map sdu_of) (unopened-stretch channel past (ap has_opened none))

-- ---- one saying more

more_on : (channel : Channel) (past : List Saying) (more : Saying) → spoken_on channel (past ++ more ∷ []) ≡ spoken_on channel past ++ map sdu_of (carried is_heard channel past more)
more_on channel past more = ap (map sdu_of) (stretch-grows channel past more) ∙ map-append sdu_of (stretch channel past) (carried is_heard channel past more)

none_on : (channel : Channel) (past : List Saying) (more : Saying) → carried is_heard channel past more ≡ [] → spoken_on channel (past ++ more ∷ []) ≡ spoken_on channel past
none_on channel past more none = more_on channel past more ∙ (ap (λ cs. spoken_on channel past ++ map sdu_of cs) none ∙ append-nil (spoken_on channel past))

bare_one : (channel : Channel) (past : List Saying) (more : Saying) → is_carried more ≡ false → spoken_on channel (past ++ more ∷ []) ≡ spoken_on channel past
bare_one channel past (Said flow answer) bare = none_on channel past (Said flow answer) refl
bare_one channel past (Carried flow pdu) bare = cc
bare_one channel past (GaveUp forgone) bare = none_on channel past (GaveUp forgone) refl

bare_on : (channel : Channel) (said past : List Saying) → IsBare said → spoken_on channel (past ++ said) ≡ spoken_on channel past
bare_on channel [] past bare = ap (spoken_on channel) (append-nil past)
bare_on channel (more ∷ said) past bare =
    let parts = both-false (is_carried more) _ bare in
    ap (spoken_on channel) (sym (append_assoc past (more ∷ []) said)) ∙ (bare_on channel said (past ++ more ∷ []) parts.1 ∙ bare_one channel past more parts.0)

-- ---- a PDU that goes out on another channel

elsewhere : (policy : Policy) (channel : Channel) (past : List Saying) (v : Channels) (own : ℕ) (held : Held) (setup : Setup) (pdu : List ℕ) → Sound policy (reading past) v → (r : IsRead policy past own held setup) → channel_of pdu ≡ r.peer → eqb own channel.own ≡ false
    → spoken_on channel (past ++ Carried Out pdu ∷ []) ≡ spoken_on channel past
elsewhere policy channel past v own held setup pdu sound r to away = none_on channel past (Carried Out pdu) (carried-none is_heard channel past Out pdu (by (read_at channel.own (reading past).entries) refl))
  where
    on : (x : Entry) → read_at channel.own (reading past).entries ≡ Some x → (b : Bool) → takes_on_it is_heard Out (channel_of pdu) x ≡ b → b ≡ false
    on x is false now = refl
    on x is true now =
        let there : is_there x.life ≡ true = and-right (is_set x.setup) (is_there x.life) (and-left (is_held x) (eqb x.channel.peer (channel_of pdu)) now) in
        let same : x.channel.peer ≡ r.entry.channel.peer = eqb-true x.channel.peer (channel_of pdu) (and-right (is_held x) (eqb x.channel.peer (channel_of pdu)) now) ∙ (to ∙ sym r.here) in
        let one : channel.own ≡ own = sound.core.apart channel.own own x r.entry is r.found there r.there same in
        let never : true ≡ false = sym (eqb-same own) ∙ (ap (eqb own) (sym one) ∙ away) in absurd cc

    by : (found : Option Entry) → read_at channel.own (reading past).entries ≡ found → goes_over is_heard Out pdu found ≡ false
    by None is = refl
    by (Some x) is = on x is (takes_on_it is_heard Out (channel_of pdu) x) refl

-- ---- what happens

module _ (policy : Policy) (channel : Channel) (past : List Saying) (v : Channels) (sound : Sound policy (reading past) v) (basic : IsBasic channel.own v) where
  abbrev Step : List Saying → List Spoken → Type 0
  Step said spoke = spoken_on channel (past ++ said) ≡ spoken_on channel past ++ spoke

  silent : Step [] []
  silent = ap (spoken_on channel) (append-nil past) ∙ sym (append-nil (spoken_on channel past))

  bare : (said : List Saying) → IsBare said → Step said []
  bare said is = bare_on channel said past is ∙ sym (append-nil (spoken_on channel past))

  -- ---- a PDU comes in

  abbrev came : List ℕ → Carriage
  came pdu = record { flow = Into; pdu = pdu }

  abbrev Heard : List ℕ → Option Entry → Option (List ℕ) → Held → Type 0
  Heard pdu entry sdu held = map sdu_of (cond (counted_in is_heard entry) (came pdu ∷ []) []) ≡ heard_in channel.own (up_by sdu held)

  -- a channel that is not open hands nothing up, and its talk counts nothing
  dead : (pdu : List ℕ) (entry : Entry) (held : Held) → is_alive entry.life ≡ false → Heard pdu (Some entry) None held
  dead pdu entry held over = ap (λ b. map sdu_of (cond (is_set entry.setup && b) (came pdu ∷ []) [])) over ∙ ap (λ b. map sdu_of (cond b (came pdu ∷ []) [])) (and_off (is_set entry.setup))

  and_on : (b : Bool) → (b && true) ≡ b
  and_on true = refl
  and_on false = refl

  opens : (pdu : List ℕ) (entry : Entry) (sdu : Option (List ℕ)) (held : Held) (opened : Bool) → is_alive entry.life ≡ true → is_set entry.setup ≡ opened → map sdu_of (cond opened (came pdu ∷ []) []) ≡ heard_in channel.own (up_by sdu held) → Heard pdu (Some entry) sdu held
  opens pdu entry sdu held opened alive is heard = ap (λ b. map sdu_of (cond b (came pdu ∷ []) [])) (ap (λ b. is_set entry.setup && b) alive ∙ (and_on (is_set entry.setup) ∙ is)) ∙ heard

  -- it is there, and its host has not closed it
  connected_heard : (pdu : List ℕ) (held : Held) (peer : ℕ) (setup : Setup) (entry : Entry) → held_at channel.own v ≡ Some held → held.stage ≡ Connected peer setup → read_at channel.own (reading past).entries ≡ Some entry → is_alive entry.life ≡ true
      → Heard pdu (Some entry) (sdu_with setup.carrier setup.own pdu) held
  connected_heard pdu held peer setup entry at is found alive = by setup.carrier refl setup.own refl
    where
      r : IsRead policy past channel.own held setup
      r = is-read policy past v channel.own held setup at (ap setup_of is) sound

      same : r.entry ≡ entry
      same = let both : Some r.entry ≡ Some entry = sym r.found ∙ found in cc

      mine : eqb held.own channel.own ≡ true
      mine = ap (λ n. eqb n channel.own) (found-has own_of channel.own v.held held at) ∙ eqb-same channel.own

      shut : (carrier : Option Carrier) (own : Own) → is_set r.entry.setup ≡ false → sdu_with carrier own pdu ≡ None → Heard pdu (Some entry) (sdu_with carrier own pdu) held
      shut carrier own not none = opens pdu entry (sdu_with carrier own pdu) held false alive (ap (λ (e : Entry). is_set e.setup) (sym same) ∙ not) (sym (ap (λ s. heard_in channel.own (up_by s held)) none))

      open' : (carrier : Option Carrier) (own : Own) → is_set r.entry.setup ≡ true → sdu_with carrier own pdu ≡ Some (drop 4 pdu) → Heard pdu (Some entry) (sdu_with carrier own pdu) held
      open' carrier own set some = opens pdu entry (sdu_with carrier own pdu) held true alive (ap (λ (e : Entry). is_set e.setup) (sym same) ∙ set)
          (sym (ap (λ s. heard_in channel.own (up_by s held)) some ∙ ap (λ b. cond b (spoken_as Into (drop 4 pdu) ∷ []) []) mine))

      by : (carrier : Option Carrier) → setup.carrier ≡ carrier → (own : Own) → setup.own ≡ own → Heard pdu (Some entry) (sdu_with carrier own pdu) held
      by None none own own_is = shut None own (unset-is policy past channel.own held setup r (inl none)) refl
      by (Some (Retransmitting machine)) carrier_is own own_is = let never : Enhanced ≡ Basic = basic held setup (Retransmitting machine) at (ap setup_of is) carrier_is in absurd cc
      by (Some (Plain agreed waiting)) carrier_is Unasked own_is = shut (Some (Plain agreed waiting)) Unasked (unset-is policy past channel.own held setup r (inr own_is)) refl
      by (Some (Plain agreed waiting)) carrier_is (Asking request options) own_is = open' (Some (Plain agreed waiting)) (Asking request options) (set-is policy past channel.own held setup r (Plain agreed waiting) carrier_is (ap is_stated own_is)) refl
      by (Some (Plain agreed waiting)) carrier_is Granted own_is = open' (Some (Plain agreed waiting)) Granted (set-is policy past channel.own held setup r (Plain agreed waiting) carrier_is (ap is_stated own_is)) refl

  stage_heard : (pdu : List ℕ) (held : Held) (stage : Stage) (entry : Option Entry) → held_at channel.own v ≡ Some held → held.stage ≡ stage → read_at channel.own (reading past).entries ≡ entry → ReadsBy policy held (peer_of stage) entry → Heard pdu entry (sdu_at stage pdu) held
  stage_heard pdu held (Requested request) None at is found reads = refl
  stage_heard pdu held (Requested request) (Some entry) at is found reads = elim reads [ ]
  stage_heard pdu held (Connected peer setup) None at is found reads = elim reads [ ]
  stage_heard pdu held (Connected peer setup) (Some entry) at is found (there, agrees) = connected_heard pdu held peer setup entry at is found (ap is_alive (there.life_is ∙ ap life_of is))
  stage_heard pdu held (Leaving peer setup request) None at is found reads = elim reads [ ]
  stage_heard pdu held (Leaving peer setup request) (Some entry) at is found (there, agrees) = dead pdu entry held (ap is_alive (there.life_is ∙ ap life_of is))
  stage_heard pdu held (Closing peer request checked) None at is found reads = elim reads [ ]
  stage_heard pdu held (Closing peer request checked) (Some entry) at is found (there, agrees) = dead pdu entry held (ap is_alive (there.life_is ∙ ap life_of is))
  stage_heard pdu held (Crossed peer request) None at is found reads = elim reads [ ]
  stage_heard pdu held (Crossed peer request) (Some entry) at is found (there, agrees) = dead pdu entry held (ap is_alive (there.life_is ∙ ap life_of is))

  held_heard : (pdu : List ℕ) (held : Option Held) (entry : Option Entry) → held_at channel.own v ≡ held → read_at channel.own (reading past).entries ≡ entry → Reads policy held entry
      → map sdu_of (cond (counted_in is_heard entry) (came pdu ∷ []) []) ≡ heard_in channel.own (up_on held pdu)
  held_heard pdu None None at found reads = refl
  held_heard pdu None (Some entry) at found reads = ap (λ b. map sdu_of (cond (is_set entry.setup && b) (came pdu ∷ []) [])) (ap is_alive reads) ∙ ap (λ b. map sdu_of (cond b (came pdu ∷ []) [])) (and_off (is_set entry.setup))
  held_heard pdu (Some held) entry at found reads = stage_heard pdu held held.stage entry at refl found reads

  -- another channel hands up none of it
  other_heard : (pdu : List ℕ) (k : ℕ) (held : Option Held) → held_at k v ≡ held → eqb k channel.own ≡ false → heard_in channel.own (up_on held pdu) ≡ []
  other_heard pdu k None at away = refl
  other_heard pdu k (Some held) at away = by (sdu_at held.stage pdu)
    where
      by : (sdu : Option (List ℕ)) → heard_in channel.own (up_by sdu held) ≡ []
      by None = refl
      by (Some sdu) = ap (λ b. cond b (spoken_as Into sdu ∷ []) []) (ap (λ n. eqb n channel.own) (found-has own_of k v.held held at) ∙ away)

  comes_here : (pdu : List ℕ) (here : Bool) → eqb (channel_of pdu) channel.own ≡ here → map sdu_of (carried is_heard channel past (Carried Into pdu)) ≡ heard_in channel.own (up_at (channel_of pdu) pdu v)
  comes_here pdu true here =
      ap (map sdu_of) (into-here is_heard channel past pdu here)
      ∙ (held_heard pdu (held_at channel.own v) (read_at channel.own (reading past).entries) refl refl (sound.core.reads channel.own)
      ∙ ap (λ n. heard_in channel.own (up_at n pdu v)) (sym (eqb-true (channel_of pdu) channel.own here)))
  comes_here pdu false away = ap (map sdu_of) (into-else is_heard channel past pdu away) ∙ sym (other_heard pdu (channel_of pdu) (held_at (channel_of pdu) v) refl away)

  comes_step : (pdu : List ℕ) (signals : Bool)
      → Step (cond signals (said_with_all policy (answers (drop 4 pdu)) v) (Carried Into pdu ∷ asked_between v (takes (channel_of pdu) pdu v))) (heard_in channel.own (cond signals Nothing (up_at (channel_of pdu) pdu v)) ++ [])
  comes_step pdu true = bare (said_with_all policy (answers (drop 4 pdu)) v) (bare-with_all policy (answers (drop 4 pdu)) v)
  comes_step pdu false =
      let asked = asked_between v (takes (channel_of pdu) pdu v) in
      ap (spoken_on channel) (sym (append_assoc past (Carried Into pdu ∷ []) asked))
      ∙ (bare_on channel asked (past ++ Carried Into pdu ∷ []) (bare-asked v (takes (channel_of pdu) pdu v))
      ∙ (more_on channel past (Carried Into pdu)
      ∙ ap (λ l. spoken_on channel past ++ l) (comes_here pdu (eqb (channel_of pdu) channel.own) refl ∙ sym (append-nil (heard_in channel.own (up_at (channel_of pdu) pdu v))))))

  -- ---- an SDU that its host has for a channel

  abbrev taken_as : Bool → Option Carrier → List ℕ → List Spoken
  taken_as here carrier sdu = map (spoken_as Out) (cond (here && is_free carrier) (sdu ∷ []) [])

  none_free : (here : Bool) (sdu : List ℕ) → Step [] (taken_as here None sdu)
  none_free true sdu = silent
  none_free false sdu = silent

  sends_by : (own : ℕ) (held : Held) (setup : Setup) (sdu : List ℕ) (here : Bool) → held_at own v ≡ Some held → setup_of held.stage ≡ Some setup → is_open setup ≡ true → peer_at (Some held) < 65536 → eqb own channel.own ≡ here → (carrier : Option Carrier) → setup.carrier ≡ carrier
      → Step (said_by_carrier carrier (peer_at (Some held)) sdu) (taken_as here carrier sdu)
  sends_by own held setup sdu here at has opened fits mine None is = none_free here sdu
  sends_by own held setup sdu true at has opened fits here (Some (Retransmitting machine)) is =
      let mine : own ≡ channel.own = eqb-true own channel.own here in
      let never : Enhanced ≡ Basic = basic held setup (Retransmitting machine) (ap (λ n. held_at n v) (sym mine) ∙ at) has is in absurd cc
  sends_by own held setup sdu false at has opened fits here (Some (Retransmitting machine)) is = silent
  sends_by own held setup sdu true at has opened fits here (Some (Plain agreed (Some waiting))) is = silent
  sends_by own held setup sdu false at has opened fits here (Some (Plain agreed (Some waiting))) is = silent
  sends_by own held setup sdu true at has opened fits here (Some (Plain agreed None)) is =
      let mine : own ≡ channel.own = eqb-true own channel.own here in
      let r : IsRead policy past own held setup = is-read policy past v own held setup at has sound in
      let pdu : List ℕ = headed (peer_at (Some held)) sdu in
      let to : channel_of pdu ≡ r.peer = le16-number (peer_at (Some held)) sdu fits ∙ ap (λ p. unwrap_or p 0) r.peer_is in
      let goes : GoesOut past own r.peer = record {
        entry = r.entry;
        found = r.found;
        peer_is = r.here;
        holds = ap (λ b. b && is_there r.entry.life) (set-is policy past own held setup r (Plain agreed None) is (open-stated setup opened)) ∙ r.there;
        only = λ other x found_x there same. sound.core.apart other own x r.entry found_x r.found there r.there (same ∙ sym r.here);
      } in
      more_on channel past (Carried Out pdu) ∙ ap (λ cs. spoken_on channel past ++ map sdu_of cs) (carried-own channel past r.peer pdu (subst (λ n. GoesOut past n r.peer) mine goes) to)
  sends_by own held setup sdu false at has opened fits here (Some (Plain agreed None)) is =
      let r : IsRead policy past own held setup = is-read policy past v own held setup at has sound in
      let to : channel_of (headed (peer_at (Some held)) sdu) ≡ r.peer = le16-number (peer_at (Some held)) sdu fits ∙ ap (λ p. unwrap_or p 0) r.peer_is in
      elsewhere policy channel past v own held setup (headed (peer_at (Some held)) sdu) sound r to here ∙ sym (append-nil (spoken_on channel past))

  sends_step : (own : ℕ) (sdu : List ℕ) → peer_at (held_at own v) < 65536 → Step (said_by_carrier (carrier_at own v) (peer_at (held_at own v)) sdu) (taken_as (eqb own channel.own) (carrier_at own v) sdu)
  sends_step own sdu fits = of (held_at own v) refl fits
    where
      here : Bool
      here = eqb own channel.own

      opens' : (held : Held) (setup : Setup) (opened : Bool) → held_at own v ≡ Some held → setup_of held.stage ≡ Some setup → is_open setup ≡ opened → peer_at (Some held) < 65536 → Step (said_by_carrier (carrier_if opened setup) (peer_at (Some held)) sdu) (taken_as here (carrier_if opened setup) sdu)
      opens' held setup true at has opened fits = sends_by own held setup sdu here at has opened fits refl setup.carrier refl
      opens' held setup false at has opened fits = none_free here sdu

      on : (held : Held) (setup : Option Setup) → held_at own v ≡ Some held → setup_of held.stage ≡ setup → peer_at (Some held) < 65536 → Step (said_by_carrier (open_carrier setup) (peer_at (Some held)) sdu) (taken_as here (open_carrier setup) sdu)
      on held None at has fits = none_free here sdu
      on held (Some setup) at has fits = opens' held setup (is_open setup) at has refl fits

      of : (held : Option Held) → held_at own v ≡ held → peer_at held < 65536 → Step (said_by_carrier (open_carrier (setup_on held)) (peer_at held) sdu) (taken_as here (open_carrier (setup_on held)) sdu)
      of None at fits = none_free here sdu
      of (Some held) at fits = on held (setup_of held.stage) at refl fits

  -- a frame is none of it
  gives_step : (given : Option Given) (pdu : List ℕ) → next_given v ≡ given → IsSpelled given pdu → Step (said_as given pdu) []
  gives_step None pdu is spelled = silent
  gives_step (Some (Signal command)) pdu is spelled = silent
  gives_step (Some (Whole peer sdu)) pdu is spelled = silent
  gives_step (Some (Framed peer frame)) pdu is spelled = by g.carrier g.is g.gives_it
    where
      to : channel_of pdu ≡ peer
      to = (spelled-frame peer frame pdu spelled.0 spelled.1).1

      g : Gives_out peer (Framed peer frame) v
      g = queue-out v v.queue peer (Framed peer frame) sound.core.lone is refl

      some_same : (a b : ℕ) → Some a ≡ Some b → a ≡ b
      some_same a b same = cc

      by : (carrier : Carrier) → g.setup.carrier ≡ Some carrier → carrier_gives carrier peer ≡ Some (Framed peer frame) → Step (Carried Out pdu ∷ []) []
      by (Plain agreed None) carrier_is giving = cc
      by (Plain agreed (Some sdu)) carrier_is giving = cc
      by (Retransmitting machine) carrier_is giving = on (eqb g.held.own channel.own) refl
        where
          on : (here : Bool) → eqb g.held.own channel.own ≡ here → Step (Carried Out pdu ∷ []) []
          on true here =
              let mine : held_at channel.own v ≡ Some g.held = ap (λ n. held_at n v) (sym (eqb-true g.held.own channel.own here)) ∙ g.found in
              let never : Enhanced ≡ Basic = basic g.held g.setup (Retransmitting machine) mine g.has carrier_is in absurd cc
          on false away =
              let r : IsRead policy past g.held.own g.held g.setup = is-read policy past v g.held.own g.held g.setup g.found g.has sound in
              elsewhere policy channel past v g.held.own g.held g.setup pdu sound r (to ∙ some_same peer r.peer (sym g.to ∙ r.peer_is)) away ∙ sym (append-nil (spoken_on channel past))

  pub occurs_spoken : (more : Occurrence) → IsUttered more v → Step (said_in policy more v) (exchanged_in channel.own more v)
  occurs_spoken (Comes pdu) uttered = comes_step pdu (eqb (channel_of pdu) 0x0001)
  occurs_spoken (Connects psm) uttered = bare (asked_between v (connected psm v)) (bare-asked v (connected psm v))
  occurs_spoken AsksFeatures uttered = bare (asked_between v (asks_features v)) (bare-asked v (asks_features v))
  occurs_spoken (Disconnects own) uttered = bare (said_in policy (Disconnects own) v) (bare-left own v (disconnected own v))
  occurs_spoken (Sends own sdu) uttered = sends_step own sdu uttered
  occurs_spoken (Gives pdu) uttered = gives_step (next_given v) pdu refl uttered
  occurs_spoken Fires uttered = bare (said_in policy Fires v) (bare-fired policy.tries (map (λ (held : Held). held.own) v.held) v)
  occurs_spoken Tells uttered = silent

-- ---- a run

all_exchanged : (policy : Policy) (channel : Channel) (all past rest : List Occurrence) → all ≡ past ++ rest → ((front behind : List Occurrence) → all ≡ front ++ behind → IsBasic channel.own (run_of policy front).value)
    → EachAfter (λ front more. IsUttered more (run_of policy front).value) past rest → spoken_on channel (run_of policy past).said ≡ exchanged_of policy channel.own past → spoken_on channel (run_of policy all).said ≡ exchanged_of policy channel.own all
all_exchanged policy channel all past [] is basic uttered same = subst (λ list. spoken_on channel (run_of policy list).said ≡ exchanged_of policy channel.own list) (sym (is ∙ append-nil past)) same
all_exchanged policy channel all past (more ∷ rest) is basic (now, uttered) same =
    all_exchanged policy channel all (past ++ more ∷ []) rest (is ∙ sym (append_assoc past (more ∷ []) rest)) basic uttered
    (ap (λ (r : Run). spoken_on channel r.said) (fold-append (run_on policy) new_link past (more ∷ []))
    ∙ (occurs_spoken policy channel run.said run.value (all-sound policy past) (basic past (more ∷ rest) is) more now
    ∙ (ap (λ l. l ++ exchanged_in channel.own more run.value) same ∙ sym (given_by-more (λ front x. exchanged_in channel.own x (run_of policy front).value) past more))))
  where
    run : Run
    run = run_of policy past

-- in basic mode
pub basic-spoken : (party : Party) (channel : Channel) (said : List Saying) → mode_of channel said ≡ Basic → spoken party channel said ≡ spoken_on channel said
basic-spoken party channel said basic = ap (λ m. given_by (spoken_with party m) (stretch channel said)) basic ∙ all_brought party [] (stretch channel said)

pub exchanged-is_spoken : ExchangedIsSpoken
exchanged-is_spoken policy party list channel uttered has mode =
    basic-spoken party channel (run_of policy list).said (basic_mode policy list channel has mode)
    ∙ all_exchanged policy channel list [] list refl (wished_basic policy list channel has mode) uttered refl
