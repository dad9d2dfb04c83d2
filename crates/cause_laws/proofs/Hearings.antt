-- An SDU that is handed up came in on a channel that was there, as the own talk of its host is read.
use Rattle.std.proofs.Common.{◌≡◌, ℕ, Bool, true, false, cond, eqb, List, [], ◌∷◌, ◌++◌, Option, Some, None, refl, sym, ap, subst, ◌∙◌, inl, inr, append_assoc}
use Rattle.std.specs.Prelude.{drop}
use Rattle.scenario_laws.specs.l2cap_signal.specs.Reading.{answers}
use Rattle.std.specs.List.{filter_map}
use Rattle.std.proofs.lemmas.Bool.{eq-eqb}
use Rattle.std.proofs.lemmas.List.Elements.{filter_map-append}
use Rattle.std.proofs.lemmas.List.Sums.{fold-append}
use Rattle.scenario_laws.specs.acl_fragments.specs.Pieces.{channel_of}
use Rattle.scenario_laws.specs.bt_base.specs.declared.settings.Settings.{Settings}
use Rattle.scenario_laws.specs.l2cap_config.specs.declared.wish.Mode.TheVariants.{Basic, Enhanced}
use Rattle.scenario_laws.specs.capture.specs.declared.flow.Flow.TheVariants.{Into}
use Rattle.scenario_laws.specs.link_talk.specs.declared.channel.Channel.{Channel}
use Rattle.scenario_laws.specs.link_talk.specs.declared.party.Party.{Party}
use Rattle.scenario_laws.specs.link_talk.specs.Channels.{Entry, reading}
use Rattle.scenario_laws.specs.link_talk.specs.Sayings.{Saying, Carried}
use Rattle.scenario_laws.specs.link_talk.specs.Sdus.{sdus}
use Rattle.scenario_laws.specs.channel_model.specs.Carrying.{Up, Nothing, Received, is_taken_with, sdu_with, sdu_at, up_by, up_on, up_at, takes}
use Rattle.scenario_laws.specs.channel_model.specs.Changing.{held_at, setup_of}
use Rattle.scenario_laws.specs.channel_model.specs.Hearing.{up}
use Rattle.scenario_laws.specs.channel_model.specs.Policies.{Policy, policy}
use Rattle.scenario_laws.specs.channel_model.specs.Telling.{is_told_broken}
use Rattle.scenario_laws.specs.channel_model.specs.Value.{Carrier, Plain, Retransmitting, Stage, Requested, Connected, Leaving, Closing, Crossed, Held, Setup, Channels}
use Rattle.scenario_laws.specs.channel_laws.specs.OwnTalk.{asked_between, said_with_all}
use Rattle.scenario_laws.specs.channel_laws.specs.Runs.{Occurrence, Comes, Run, new_link, run_on, run_of, arisen, sdu_up, sdus_up}
use Rattle.scenario_laws.specs.channel_laws.specs.Sdus.{StatesFrame, IsHandedUp}
use Rattle.scenario_laws.specs.channel_laws.specs.Views.{peer_of, channel_by, IsReadBy, IsRead, read_at}
use Rattle.scenario_laws.specs.channel_laws.proofs.Incoming.{sdus-are_read}
use Rattle.scenario_laws.specs.channel_laws.proofs.Holding.{IsRead as IsReadAt, is-read}
use Rattle.scenario_laws.specs.channel_laws.proofs.Running.{all-sound, channels-are_read}
use Rattle.scenario_laws.specs.channel_laws.proofs.Sound.{CarrierIs}
use Rattle.scenario_laws.specs.channel_laws.proofs.Signalling.{bare-asked, bare-comes}
use Rattle.scenario_laws.specs.channel_laws.proofs.Stretching.{stays-heard}

-- ---- the channel

-- a channel that is connected hands it up
record IsUp (v : Channels) (own psm : ℕ) (pdu sdu : List ℕ) : Type 0 where
  apart : eqb (channel_of pdu) 0x0001 ≡ false
  held : Held
  at : held_at (channel_of pdu) v ≡ Some held
  own_is : held.own ≡ own
  psm_is : held.psm ≡ psm
  peer : ℕ
  setup : Setup
  stage_is : held.stage ≡ Connected peer setup

held_up : (v : Channels) (own psm : ℕ) (pdu sdu : List ℕ) (held : Held) (stage : Stage) → eqb (channel_of pdu) 0x0001 ≡ false → held_at (channel_of pdu) v ≡ Some held → held.stage ≡ stage → up_by (sdu_at stage pdu) held ≡ Received own psm sdu → IsUp v own psm pdu sdu
held_up v own psm pdu sdu held (Requested request) apart at is brought = cc
held_up v own psm pdu sdu held (Connected peer setup) apart at is brought = by (sdu_at (Connected peer setup) pdu) brought
  where
    by : (octets : Option (List ℕ)) → up_by octets held ≡ Received own psm sdu → IsUp v own psm pdu sdu
    by None same = cc
    by (Some octets) same = record { apart = apart; held = held; at = at; own_is = cc; psm_is = cc; peer = peer; setup = setup; stage_is = is }
held_up v own psm pdu sdu held (Leaving peer setup request) apart at is brought = cc
held_up v own psm pdu sdu held (Closing peer request checked) apart at is brought = cc
held_up v own psm pdu sdu held (Crossed peer request) apart at is brought = cc

found_up : (v : Channels) (own psm : ℕ) (pdu sdu : List ℕ) → up (channel_of pdu) pdu v ≡ Received own psm sdu → IsUp v own psm pdu sdu
found_up v own psm pdu sdu is = by (eqb (channel_of pdu) 0x0001) refl is
  where
    on : (found : Option Held) → eqb (channel_of pdu) 0x0001 ≡ false → held_at (channel_of pdu) v ≡ found → up_on found pdu ≡ Received own psm sdu → IsUp v own psm pdu sdu
    on None apart at brought = cc
    on (Some held) apart at brought = held_up v own psm pdu sdu held held.stage apart at refl brought

    by : (signals : Bool) → eqb (channel_of pdu) 0x0001 ≡ signals → cond signals Nothing (up_at (channel_of pdu) pdu v) ≡ Received own psm sdu → IsUp v own psm pdu sdu
    by true signals brought = cc
    by false apart brought = on (held_at (channel_of pdu) v) apart refl brought

-- ---- on a basic channel

pub plain_sdu : (settings : Settings) (list : List Occurrence) (pdu : List ℕ) (own psm : ℕ) (sdu : List ℕ) → psm ≡ 0x0003 → up (channel_of pdu) pdu (run_of (policy settings false) list).value ≡ Received own psm sdu → sdu ≡ drop 4 pdu
plain_sdu settings list pdu own psm sdu muxed brought = by it.setup.carrier r.agrees.carrier_is handed
  where
    wanted : Policy
    wanted = policy settings false

    v : Channels
    v = (run_of wanted list).value

    it : IsUp v own psm pdu sdu
    it = found_up v own psm pdu sdu brought

    r : IsReadAt wanted (run_of wanted list).said (channel_of pdu) it.held it.setup
    r = is-read wanted (run_of wanted list).said v (channel_of pdu) it.held it.setup it.at (ap setup_of it.stage_is) (all-sound wanted list)

    mode : (wanted.wish it.held.psm).mode ≡ Basic
    mode = ap (λ (n : ℕ). ((policy settings false).wish n).mode) (it.psm_is ∙ muxed)

    handed : up_by (sdu_with it.setup.carrier it.setup.own pdu) it.held ≡ Received own psm sdu
    handed =
        ap (λ (stage : Stage). up_by (sdu_at stage pdu) it.held) (sym it.stage_is)
        ∙ (ap (λ (found : Option Held). up_on found pdu) (sym it.at) ∙ (ap (λ (b : Bool). cond b Nothing (up_at (channel_of pdu) pdu v)) (sym it.apart) ∙ brought))

    by : (carrier : Option Carrier) → CarrierIs (wanted.wish it.held.psm) carrier → up_by (sdu_with carrier it.setup.own pdu) it.held ≡ Received own psm sdu → sdu ≡ drop 4 pdu
    by None basic same = cc
    by (Some (Plain agreed waiting)) basic same = on (is_taken_with it.setup.own (Plain agreed waiting) pdu) same
      where
        on : (taken : Bool) → up_by (cond taken (Some (drop 4 pdu)) None) it.held ≡ Received own psm sdu → sdu ≡ drop 4 pdu
        on true is = let both : Received it.held.own it.held.psm (drop 4 pdu) ≡ Received own psm sdu = is in cc
        on false is = cc
    by (Some (Retransmitting machine)) basic same = let no : Enhanced ≡ Basic = basic ∙ mode in absurd cc

-- ---- as it is read

pub record IsReadUp (said : List Saying) (party : Party) (psm : ℕ) (pdu sdu : List ℕ) : Type 0 where
  pub entry : Entry
  pub found : read_at (channel_of pdu) (reading said).entries ≡ Some entry
  pub psm_is : entry.channel.psm ≡ psm
  pub earlier : List (List ℕ)
  pub later : List (List ℕ)
  pub sdus_are : sdus party entry.channel Into (said ++ Carried Into pdu ∷ []) ≡ earlier ++ sdu ∷ later

module _ (policy : Policy) (party : Party) (front : List Occurrence) (pdu : List ℕ) (own psm : ℕ) (sdu : List ℕ) (states : StatesFrame policy party) (brought : up (channel_of pdu) pdu (run_of policy front).value ≡ Received own psm sdu) where
  abbrev run : Run
  run = run_of policy front

  abbrev v : Channels
  v = run.value

  abbrev after : List Saying
  after = run.said ++ Carried Into pdu ∷ []

  it : IsUp v own psm pdu sdu
  it = found_up v own psm pdu sdu brought

  then_is : run_of policy (front ++ Comes pdu ∷ []) ≡ run_on policy run (Comes pdu)
  then_is = fold-append (run_on policy) new_link front (Comes pdu ∷ [])

  abbrev asked : List Saying
  asked = asked_between v (takes (channel_of pdu) pdu v)

  pub said_then : (run_on policy (run_of policy front) (Comes pdu)).said ≡ ((run_of policy front).said ++ Carried Into pdu ∷ []) ++ asked_between (run_of policy front).value (takes (channel_of pdu) pdu (run_of policy front).value)
  said_then =
      ap (λ (b : Bool). run.said ++ cond b (said_with_all policy (answers (drop 4 pdu)) v) (Carried Into pdu ∷ asked_between v (takes (channel_of pdu) pdu v))) it.apart
      ∙ sym (append_assoc run.said (Carried Into pdu ∷ []) asked)

  -- what is said besides brings no SDU
  said_is : (channel : Channel) → sdus party channel Into (run_on policy run (Comes pdu)).said ≡ sdus party channel Into after
  said_is channel = ap (sdus party channel Into) said_then ∙ (stays-heard party channel asked after (bare-comes asked (bare-asked v (takes (channel_of pdu) pdu v)))).sdus_are

  ups_are : sdus_up own (run_on policy run (Comes pdu)).up ≡ sdus_up own run.up ++ sdu ∷ []
  ups_are =
      filter_map-append (sdu_up own) run.up (up (channel_of pdu) pdu v ∷ [])
      ∙ ap (λ (l : List (List ℕ)). sdus_up own run.up ++ l) (ap (λ (u : Up). filter_map (sdu_up own) (u ∷ [])) brought ∙ ap (λ (b : Bool). filter_map (λ (o : Option (List ℕ)). o) (cond b (Some sdu) None ∷ [])) (eq-eqb own own refl))

  read_up : (entry : Entry) → read_at (channel_of pdu) (reading run.said).entries ≡ Some entry → entry.channel ≡ channel_by it.held.psm it.held.own it.peer → IsReadUp run.said party psm pdu sdu
  read_up entry found channel_is = on (sdus-are_read policy party (front ++ Comes pdu ∷ []) entry.channel states)
    where
      own_is : entry.channel.own ≡ own
      own_is = ap (λ (c : Channel). c.own) channel_is ∙ it.own_is

      ups : sdus_up entry.channel.own (run_of policy (front ++ Comes pdu ∷ [])).up ≡ sdus_up own run.up ++ sdu ∷ []
      ups = ap (λ (r : Run). sdus_up entry.channel.own r.up) then_is ∙ (ap (λ (n : ℕ). sdus_up n (run_on policy run (Comes pdu)).up) own_is ∙ ups_are)

      said : sdus party entry.channel Into (run_of policy (front ++ Comes pdu ∷ [])).said ≡ sdus party entry.channel Into after
      said = ap (λ (r : Run). sdus party entry.channel Into r.said) then_is ∙ said_is entry.channel

      on : IsHandedUp (is_told_broken entry.channel.own (arisen (run_of policy (front ++ Comes pdu ∷ [])))) (sdus_up entry.channel.own (run_of policy (front ++ Comes pdu ∷ [])).up) (sdus party entry.channel Into (run_of policy (front ++ Comes pdu ∷ [])).said) → IsReadUp run.said party psm pdu sdu
      on (inl same) = record { entry = entry; found = found; psm_is = ap (λ (c : Channel). c.psm) channel_is ∙ it.psm_is; earlier = sdus_up own run.up; later = []; sdus_are = sym said ∙ (same ∙ ups) }
      on (inr (shut, last, same)) = record {
        entry = entry;
        found = found;
        psm_is = ap (λ (c : Channel). c.psm) channel_is ∙ it.psm_is;
        earlier = sdus_up own run.up;
        later = last ∷ [];
        sdus_are = sym said ∙ (same ∙ (ap (λ (l : List (List ℕ)). l ++ last ∷ []) ups ∙ append_assoc (sdus_up own run.up) (sdu ∷ []) (last ∷ [])));
      }

  pub is_read_up : IsReadUp run.said party psm pdu sdu
  is_read_up = by (read_at (channel_of pdu) (reading run.said).entries) refl reads
    where
      reads : IsReadBy policy it.held (Some it.peer) (read_at (channel_of pdu) (reading run.said).entries)
      reads =
          subst (λ (p : Option ℕ). IsReadBy policy it.held p (read_at (channel_of pdu) (reading run.said).entries)) (ap peer_of it.stage_is)
          (subst (λ (h : Option Held). IsRead policy h (read_at (channel_of pdu) (reading run.said).entries)) it.at (channels-are_read policy front (channel_of pdu)))

      by : (found : Option Entry) → read_at (channel_of pdu) (reading run.said).entries ≡ found → IsReadBy policy it.held (Some it.peer) found → IsReadUp run.said party psm pdu sdu
      by None at there = absurd there
      by (Some entry) at there = read_up entry at there.0.channel_is
