-- On each link, while few words are adverse, a client ends no push since a limit was met, but by its own request.
use Rattle.std.proofs.Common.{◌≡◌, ℕ, List, [], ◌∷◌, ◌++◌, drop, Bool, true, false, cond, ◌&&◌, Option, Some, None, is_some, refl, sym, ap, subst, ◌∙◌, ◌⊎◌, inl, inr, append-nil}
use Rattle.std.specs.Prelude.{find, option_map}
use Rattle.std.specs.List.{AllByRecursion}
use Rattle.cause_laws.specs.bt_base.specs.declared.settings.Settings.{Settings}
use Rattle.cause_laws.specs.push_terms.specs.declared.outcome.Outcome.{Outcome}
use Rattle.cause_laws.specs.push_terms.specs.declared.outcome.Outcome.TheVariants.{RetryLimit}
use Rattle.limit_laws.specs.pair_laws.specs.l2cap_config.specs.declared.wish.Mode.TheVariants.{Basic, Enhanced}
use Rattle.limit_laws.specs.pair_laws.specs.ertm_model.specs.declared.reason.ErtmReason.TheVariants as machines
use Rattle.cause_laws.specs.channel_model.specs.declared.event.ChannelEvent.{ChannelEvent}
use Rattle.cause_laws.specs.channel_model.specs.declared.event.ChannelEvent.TheVariants.{Opened, Closed, Features as Told_features, FeaturesLost, DisconnectLost}
use Rattle.cause_laws.specs.channel_model.specs.declared.event.CloseReason.{CloseReason}
use Rattle.cause_laws.specs.channel_model.specs.declared.event.CloseReason.TheVariants as reasons
use Rattle.cause_laws.specs.channel_model.specs.Calls.{peer_mtu, carrier_mtu, open_carrier, carrier_if, setup_on}
use Rattle.cause_laws.specs.channel_model.specs.Changing.{has_own, held_at, is_granted, is_open, setup_of}
use Rattle.cause_laws.specs.channel_model.specs.Policies.{Policy, policy}
use Rattle.cause_laws.specs.channel_model.specs.Value.{Carrier, Plain, Retransmitting, Setup, Stage, Requested, Connected, Leaving, Closing, Crossed, Held, Channels}
use Rattle.cause_laws.specs.channel_model.proofs.Walking.{found-own}
use Rattle.cause_laws.specs.push_model.specs.declared.course.Stage.{Stage as Course}
use Rattle.cause_laws.specs.push_model.specs.declared.course.Stage.TheVariants as stages
use Rattle.cause_laws.specs.push_model.specs.declared.closing.CloseCause.{CloseCause}
use Rattle.cause_laws.specs.push_model.specs.Causes.{cause_of_close}
use Rattle.cause_laws.specs.push_model.specs.Client.{Client}
use Rattle.cause_laws.specs.push_model.specs.Events as events
use Rattle.cause_laws.specs.host_model.specs.Clients.{ClientProfile, client_profile, cause_of, closed_by, opened_by, event_heard, told}
use Rattle.cause_laws.specs.host_model.specs.Profiles.{Profile}
use Rattle.cause_laws.specs.host_laws.specs.Calls.{Asks}
use Rattle.cause_laws.specs.host_laws.specs.Leaving.{in_use, is_closing, is_off}
use Rattle.cause_laws.specs.host_laws.specs.Woven.{told_next}
use Rattle.cause_laws.specs.host_laws.proofs.Changes.{kind, Fine}
use Rattle.cause_laws.specs.host_laws.proofs.KeepingClients.{Stands, Off, Doomed, Well}
use Rattle.cause_laws.specs.host_laws.proofs.OneChannel.{notes, is_notable, notes_with, lives_by, IsLive, alone}
use Rattle.cause_laws.specs.host_laws.proofs.Refusing.{value-more}
use Rattle.cause_laws.specs.host_laws.proofs.StandingClients.{Uses, Lives, Ends, Idle, Waits, Told, Shut, Missed, shut_off}
use Rattle.limit_laws.specs.pair_laws.specs.channel_laws.specs.Awaited.{asks_for_end}
use Rattle.limit_laws.specs.pair_laws.specs.channel_laws.specs.Runs.{Occurrence, Tells, Run, run_of, value_after}
use Rattle.limit_laws.specs.pair_laws.specs.channel_laws.specs.Singly.{AsksForNoChannel}
use Rattle.limit_laws.specs.pair_laws.specs.channel_laws.proofs.Holding.{is-read}
use Rattle.limit_laws.specs.pair_laws.specs.channel_laws.proofs.Running.{all-sound}
use Rattle.limit_laws.specs.pair_laws.specs.channel_laws.proofs.Sound.{CarrierIs}
use Rattle.limit_laws.specs.staying_laws.specs.forgoing_laws.proofs.Asked.{asked-left}
use Rattle.limit_laws.specs.told_laws.specs.Told.{EndsMildly, IsMild}
use Rattle.limit_laws.specs.told_laws.specs.Limits.{IsLimitOf, MeetsNone, IsPlain, IsOpenPlain, IsSafe, LimitsNone}
use Rattle.parting_laws.proofs.Deeds.{is_past, is_searching, off_past, Opens, Spent, Harmless, Searches, Moves, still, not_limit, closes_moves, opens_moves, told_moves}
use Rattle.parting_laws.proofs.Plain.{IsPlainStage, AllPlain, plain_more}

-- ---- what is to be told

-- what comes first of what matters stays first, whatever a host hears and gives
module _ (event : ChannelEvent) where
  abbrev pub Headed : Channels → Type 0
  Headed v = (more : List ChannelEvent) × (notes v.events ≡ event ∷ more)

  grown : (v w : Channels) (more : List ChannelEvent) → w.events ≡ v.events ++ more → Headed v → Headed w
  grown v w more is (others, told) = (others ++ notes more, notes_with v w more (event ∷ others) is told)

  still_headed : (v w : Channels) → w.events ≡ v.events → Headed v → Headed w
  still_headed v w is headed = grown v w [] (is ∙ sym (append-nil v.events)) headed

  headed_fine : Fine Headed
  headed_fine = record {
    still = λ v w held_is question events_are k. still_headed v w events_are k;
    opens = λ v w own psm held_is question events_are k. grown v w (Opened own psm ∷ []) events_are k;
    stages = λ v w held stage at same held_is question events_are k. still_headed v w events_are k;
    joins = λ v w held request peer setup at is held_is question events_are k. still_headed v w events_are k;
    shuts = λ v w held reason at alive bad events_are k. grown v w (Closed held.own held.psm reason ∷ []) events_are k;
    ends = λ v w held at leaves held_is question events_are k. grown v w (Closed held.own held.psm reasons.OwnClosed ∷ []) events_are k;
    dies = λ v w held more at dead events_are k. grown v w more events_are k;
    answered = λ v w request features is held_is none events_are k. grown v w (Told_features features ∷ []) events_are k;
    misses = λ v w request is events_are k. grown v w (FeaturesLost ∷ []) events_are k;
  }

  -- something of all that waits is so of the first that matters
  first_so : (P : ChannelEvent → Type 0) (events more : List ChannelEvent) → AllByRecursion P events → notes events ≡ event ∷ more → P event
  first_so P [] more all is = cc
  first_so P (one ∷ events) more all is = by (is_notable one) (λ now. first_so P events more all.1 now) is
    where
      by : (b : Bool) → (notes events ≡ event ∷ more → P event) → cond b (one ∷ notes events) (notes events) ≡ event ∷ more → P event
      by true later now = let same : one ≡ event = cc in subst P same all.0
      by false later now = later now

-- a limit matters
none_met : (own : ℕ) (events : List ChannelEvent) → notes events ≡ [] → MeetsNone own events
none_met own [] none = tt
none_met own (Opened other psm ∷ events) none = (λ limit. limit, none_met own events none)
none_met own (Closed other psm reason ∷ events) none = cc
none_met own (Told_features features ∷ events) none = cc
none_met own (FeaturesLost ∷ events) none = cc
none_met own (DisconnectLost other ∷ events) none = cc

-- ---- stages

closing_so : (stage : Course) → is_closing stage ≡ true → (is_past stage ≡ true) ⊎ (is_searching stage ≡ true)
closing_so stages.Rest is = cc
closing_so (stages.Link point) is = cc
closing_so (stages.SearchChannel point) is = cc
closing_so stages.Search is = cc
closing_so (stages.SearchEnd point) is = inr refl
closing_so (stages.Features point) is = cc
closing_so (stages.ObjectChannel point) is = cc
closing_so stages.Object is = cc
closing_so (stages.ObjectEnd point) is = inl refl
closing_so (stages.LinkEnd point) is = cc
closing_so stages.Over is = cc

pub search_used : {X : Type 0} (stage : Course) (object : ℕ) → is_searching stage ≡ true → in_use stage object ≡ None → X
search_used stages.Rest object is none = cc
search_used (stages.Link point) object is none = cc
search_used (stages.SearchChannel point) object is none = cc
search_used stages.Search object is none = cc
search_used (stages.SearchEnd point) object is none = cc
search_used (stages.Features point) object is none = cc
search_used (stages.ObjectChannel point) object is none = cc
search_used stages.Object object is none = cc
search_used (stages.ObjectEnd point) object is none = cc
search_used (stages.LinkEnd point) object is none = cc
search_used stages.Over object is none = cc

pub off_searching : {X : Type 0} (stage : Course) → is_off stage ≡ true → is_searching stage ≡ true → X
off_searching stages.Rest off is = cc
off_searching (stages.Link point) off is = cc
off_searching (stages.SearchChannel point) off is = cc
off_searching stages.Search off is = cc
off_searching (stages.SearchEnd point) off is = cc
off_searching (stages.Features point) off is = cc
off_searching (stages.ObjectChannel point) off is = cc
off_searching stages.Object off is = cc
off_searching (stages.ObjectEnd point) off is = cc
off_searching (stages.LinkEnd point) off is = cc
off_searching stages.Over off is = cc

-- ---- reasons

-- what the end of a channel says
abbrev closing_outcome : Option CloseCause → Option Outcome
closing_outcome None = None
closing_outcome (Some cause) = cause_of_close cause

-- of a channel that was closed mildly a limit is the cause only where that is the reason
reason_limits : (These : ℕ → Type 0) (own : ℕ) (reason : CloseReason) (H : Type 0) → EndsMildly These own reason → (reason ≡ reasons.RetryLimit → H) → closing_outcome (cause_of reason) ≡ Some RetryLimit → H
reason_limits These own reasons.PeerClosed H mild so limit = absurd mild
reason_limits These own (reasons.Refused result) H mild so limit = not_limit (closing_outcome (cause_of (reasons.Refused result))) refl limit
reason_limits These own reasons.NoAgreement H mild so limit = not_limit (closing_outcome (cause_of reasons.NoAgreement)) refl limit
reason_limits These own reasons.RetryLimit H mild so limit = so refl
reason_limits These own (reasons.Ertm machines.BadReqSeq) H mild so limit = not_limit (closing_outcome (cause_of (reasons.Ertm machines.BadReqSeq))) refl limit
reason_limits These own (reasons.Ertm machines.Srej) H mild so limit = not_limit (closing_outcome (cause_of (reasons.Ertm machines.Srej))) refl limit
reason_limits These own (reasons.Ertm machines.BadSegment) H mild so limit = not_limit (closing_outcome (cause_of (reasons.Ertm machines.BadSegment))) refl limit
reason_limits These own (reasons.Ertm machines.RetryLimit) H mild so limit = absurd mild
reason_limits These own (reasons.Ertm machines.TooLongSdu) H mild so limit = not_limit (closing_outcome (cause_of (reasons.Ertm machines.TooLongSdu))) refl limit
reason_limits These own (reasons.Ertm machines.BadFrame) H mild so limit = not_limit (closing_outcome (cause_of (reasons.Ertm machines.BadFrame))) refl limit
reason_limits These own reasons.LinkDown H mild so limit = not_limit (closing_outcome (cause_of reasons.LinkDown)) tt limit
reason_limits These own reasons.OwnClosed H mild so limit = not_limit (closing_outcome (cause_of reasons.OwnClosed)) tt limit

-- ---- what is so of a client and its channels

-- the end of a channel is the first that it is to be told
abbrev pub Doom : Channels → Type 0
Doom v = (own : ℕ) × (psm : ℕ) × (reason : CloseReason) × Headed (Closed own psm reason) v

pub record Rests (v : Channels) (c : Client) : Type 0 where
  pub spent : Spent c
  pub first : (own psm : ℕ) → Headed (Closed own psm reasons.RetryLimit) v → Harmless c
  pub plain : Searches c → Doom v ⊎ AllPlain v

pub goes_on : (v : Channels) (c d : Client) → Moves ⊥ c d → Rests v c → Rests v d
goes_on v c d moves rests = record { spent = moves.spent rests.spent; first = λ own psm headed. moves.harmless (rests.first own psm headed); plain = λ searches. by (moves.searches searches) }
  where
    by : Searches c ⊎ ⊥ → Doom v ⊎ AllPlain v
    by (inl before) = rests.plain before
    by (inr none) = absurd none

-- ---- at a moment of a link

module _ (settings : Settings) (asks : Asks (client_profile settings)) where
  abbrev wanted : Policy
  wanted = policy settings false

  abbrev A : Profile ClientProfile
  A = client_profile settings

  abbrev run : List Occurrence → Run
  run front = run_of (policy settings false) front

  abbrev value : List Occurrence → Channels
  value front = (run_of (policy settings false) front).value

  -- ---- something happens to its channels that it did not ask for

  module _ (front : List Occurrence) (one : Occurrence) (c : Client) (goes : (K : Channels → Type 0) → Fine K → K (value front) → K (value_after wanted one (value front))) (limits : LimitsNone (run front) (run (front ++ one ∷ []))) (rests : Rests (value front) c) where
    abbrev v : Channels
    v = value front

    abbrev later : Channels
    later = value (front ++ one ∷ [])

    stays_headed : (event : ChannelEvent) → Headed event v → Headed event later
    stays_headed event headed = subst (Headed event) (sym (value-more wanted front one)) (goes (Headed event) (headed_fine event) headed)

    -- a limit that is first, where nothing mattered before, is of a channel that was not safe
    never : {X : Type 0} (own psm : ℕ) → Headed (Closed own psm reasons.RetryLimit) later → notes v.events ≡ [] → IsSafe own (run front) → X
    never own psm headed none safe =
        absurd (first_so (Closed own psm reasons.RetryLimit) (λ event. IsLimitOf own event → ⊥) later.events headed.0 (limits.adds own safe (none_met own v.events none)) headed.1 (refl, tt))

    other : {X : Type 0} (own psm : ℕ) (event : ChannelEvent) → Headed (Closed own psm reasons.RetryLimit) later → Headed event v → (event ≡ Closed own psm reasons.RetryLimit → X) → X
    other own psm event headed before so = let now = stays_headed event before in let both : event ∷ now.0 ≡ Closed own psm reasons.RetryLimit ∷ headed.0 = sym now.1 ∙ headed.1 in so cc

    unheld : {X : Type 0} (own psm : ℕ) → Headed (Closed own psm reasons.RetryLimit) later → v.held ≡ [] → notes v.events ≡ [] → X
    unheld own psm headed held_is none = never own psm headed none (inr (λ held found. let nothing : None ≡ Some held = ap (find (has_own own)) (sym held_is) ∙ found in cc))

    -- the one channel that it has
    live_so : (own psm psm' : ℕ) (asked leaving : Bool) → Headed (Closed own psm reasons.RetryLimit) later → Uses c psm' asked leaving → IsLive psm' asked leaving v → Harmless c
    live_so own psm psm' asked leaving headed uses live = by (held_at own v) refl
      where
        plainly : AllPlain v → Harmless c
        plainly all = never own psm headed live.none (inr (λ h at. open_so h.stage (all own h at) (kept h at)))
          where
            kept : (h : Held) → held_at own v ≡ Some h → lives_by asked leaving (kind h.stage) ≡ true
            kept h at = subst (λ (x : Held). lives_by asked leaving (kind x.stage) ≡ true) (alone v live.one h live.held_is (found-own own v h at)) live.stage_is

            open_so : (stage : Stage) → IsPlainStage stage → lives_by asked leaving (kind stage) ≡ true → IsOpenPlain stage
            open_so (Requested r) plain is = elim plain [ ]
            open_so (Connected p s) plain is = plain
            open_so (Leaving p s r) plain is = plain
            open_so (Closing p r b) plain is = cc
            open_so (Crossed p r) plain is = cc

        searching : is_searching c.stage ≡ true → (cause : Option Outcome) → c.cause ≡ cause → Harmless c
        searching is (Some o) cause_is = inr (ap is_some cause_is)
        searching is None cause_is = so (rests.plain (is, cause_is))
          where
            so : Doom v ⊎ AllPlain v → Harmless c
            so (inl (own', psm'', reason, (more, told))) = let no : [] ≡ Closed own' psm'' reason ∷ more = sym live.none ∙ told in cc
            so (inr all) = plainly all

        unasked : (held : Held) → held_at own v ≡ Some held → asks_for_end held.stage ≡ false → Harmless c
        unasked held found not = never own psm headed live.none (inl (λ peer asked'. let ends = asked-left wanted front own peer held asked' found in let no : true ≡ false = sym ends ∙ not in cc))

        leaves : leaving ≡ true → Harmless c
        leaves is = so (closing_so c.stage (uses.closes is))
          where
            so : (is_past c.stage ≡ true) ⊎ (is_searching c.stage ≡ true) → Harmless c
            so (inl past) = inl past
            so (inr search) = searching search c.cause refl

        staged : (held : Held) (stage : Stage) → held.stage ≡ stage → held_at own v ≡ Some held → lives_by asked leaving (kind stage) ≡ true → Harmless c
        staged held (Requested r) is found lives = unasked held found (ap asks_for_end is)
        staged held (Connected p s) is found lives = unasked held found (ap asks_for_end is)
        staged held (Leaving p s r) is found lives = leaves lives
        staged held (Closing p r b) is found lives = cc
        staged held (Crossed p r) is found lives = cc

        by : (found : Option Held) → held_at own v ≡ found → Harmless c
        by None at = never own psm headed live.none (inr (λ held found. let no : None ≡ Some held = sym at ∙ found in cc))
        by (Some held) at =
            staged held held.stage refl at (subst (λ (x : Held). lives_by asked leaving (kind x.stage) ≡ true) (alone v live.one held live.held_is (found-own own v held at)) live.stage_is)

    first_so_far : Stands settings asks c (run front) → (own psm : ℕ) → Headed (Closed own psm reasons.RetryLimit) later → Harmless c
    first_so_far (Off off) own psm headed = inl (off_past c.stage off)
    first_so_far (Doomed (Shut own' psm' reason more used why told)) own psm headed =
        other own psm (Closed own' psm' reason) headed (more, told) (λ same. rests.first own psm (more, told ∙ ap (λ (e : ChannelEvent). e ∷ more) same))
    first_so_far (Doomed (Missed asking (more, told))) own psm headed = absurd (first_so FeaturesLost (IsMild (λ n. ⊥)) v.events more limits.waits told)
    first_so_far (Well (Lives psm' asked leaving uses live) spoken) own psm headed = live_so own psm psm' asked leaving headed uses live
    first_so_far (Well (Ends psm' own' used closes bare) spoken) own psm headed = other own psm (Closed own' psm' reasons.OwnClosed) headed ([], bare.notes_are) (λ same. cc)
    first_so_far (Well (Idle bare) spoken) own psm headed = unheld own psm headed bare.held_is bare.notes_are
    first_so_far (Well (Waits asking waiting) spoken) own psm headed = unheld own psm headed waiting.held_is waiting.none
    first_so_far (Well (Told asking features bare) spoken) own psm headed = other own psm (Told_features features) headed ([], bare.notes_are) (λ same. cc)

    pub occurs : AsksForNoChannel one → Stands settings asks c (run front) → Rests (value (front ++ one ∷ [])) c
    occurs quiet stands = record { spent = rests.spent; first = first_so_far stands; plain = λ searches. by (rests.plain searches) }
      where
        by : Doom v ⊎ AllPlain v → Doom later ⊎ AllPlain later
        by (inl (own, psm, reason, headed)) = inl (own, psm, reason, stays_headed (Closed own psm reason) headed)
        by (inr all) = inr (plain_more settings front one quiet all)

  -- ---- it is told what happened

  -- the channel of its search, which opened, is in basic mode
  opened_plain : (front : List Occurrence) (c : Client) (own psm mtu : ℕ) → peer_mtu own (value front) ≡ Some mtu → Opens psm c → Stands settings asks c (run front) → Doom (value front) ⊎ AllPlain (value front)
  opened_plain front c own psm mtu open' opens (Off off) = let no : false ≡ true = sym (ap is_off opens.1) ∙ off in cc
  opened_plain front c own psm mtu open' opens (Doomed (Shut own' psm' reason more used why told)) = inl (own', psm', reason, (more, told))
  opened_plain front c own psm mtu open' opens (Doomed (Missed asking missed)) = let no : false ≡ true = sym (ap (λ s. events.is_asking_features s) opens.1) ∙ asking in cc
  opened_plain front c own psm mtu open' opens (Well (Ends psm' own' used closes bare) spoken) = let no : false ≡ true = sym (ap is_closing opens.1) ∙ closes in cc
  opened_plain front c own psm mtu open' opens (Well (Idle bare) spoken) = inr (λ n held found. let no : None ≡ Some held = ap (find (has_own n)) (sym bare.held_is) ∙ found in cc)
  opened_plain front c own psm mtu open' opens (Well (Waits asking waiting) spoken) = let no : false ≡ true = sym (ap (λ s. events.is_asking_features s) opens.1) ∙ asking in cc
  opened_plain front c own psm mtu open' opens (Well (Told asking features bare) spoken) = let no : false ≡ true = sym (ap (λ s. events.is_asking_features s) opens.1) ∙ asking in cc
  opened_plain front c own psm mtu open' opens (Well (Lives psm' asked leaving uses live) spoken) = inr plain
    where
      v : Channels
      v = value front

      search : live.one.psm ≡ 0x0001
      search = live.psm_is ∙ (let both : Some 0x0001 ≡ Some psm' = sym (ap (λ s. in_use s c.psm) opens.1) ∙ uses.used in cc)

      -- what is open of it carries SDUs as they are
      on : (held : Held) (setup : Setup) → held_at own v ≡ Some held → setup_of held.stage ≡ Some setup → is_open setup ≡ true → IsPlain setup.carrier
      on held setup found has opened' = by setup.carrier refl (is-read wanted (run front).said v own held setup found has (all-sound wanted front)).agrees.carrier_is
        where
          basic : (wanted.wish held.psm).mode ≡ Basic
          basic = ap (λ n. (wanted.wish n).mode) (ap (λ (h : Held). h.psm) (sym (alone v live.one held live.held_is (found-own own v held found))) ∙ search)

          by : (carrier : Option Carrier) → setup.carrier ≡ carrier → CarrierIs (wanted.wish held.psm) setup.carrier → IsPlain setup.carrier
          by None at fits = let no : false ≡ true = sym (ap (λ o. is_some o && is_granted setup.own) at) ∙ opened' in cc
          by (Some (Plain agreed waiting)) at fits = subst IsPlain (sym at) tt
          by (Some (Retransmitting machine)) at fits = let no : Enhanced ≡ Basic = subst (CarrierIs (wanted.wish held.psm)) at fits ∙ basic in cc

      is_one : (n : ℕ) (held : Held) → held_at n v ≡ Some held → live.one ≡ held
      is_one n held found = alone v live.one held live.held_is (found-own n v held found)

      staged : (stage : Stage) (setup : Setup) → setup_of stage ≡ Some setup → is_open setup ≡ true → IsPlain setup.carrier → IsPlainStage stage
      staged (Requested r) setup has is so = cc
      staged (Connected p s) setup has is so = let it : s ≡ setup = cc in subst (λ (x : Setup). (is_open x ≡ true) × IsPlain x.carrier) (sym it) (is, so)
      staged (Leaving p s r) setup has is so = let it : s ≡ setup = cc in subst (λ (x : Setup). (is_open x ≡ true) × IsPlain x.carrier) (sym it) (is, so)
      staged (Closing p r b) setup has is so = cc
      staged (Crossed p r) setup has is so = cc

      -- the channel that is told to be open is the one that there is
      there : (found : Option Held) → held_at own v ≡ found → option_map carrier_mtu (open_carrier (setup_on found)) ≡ Some mtu → IsPlainStage live.one.stage
      there None at is = cc
      there (Some held) at is = subst (λ (h : Held). IsPlainStage h.stage) (sym (is_one own held at)) (by (setup_of held.stage) refl is)
        where
          opened' : (setup : Setup) (b : Bool) → is_open setup ≡ b → option_map carrier_mtu (carrier_if b setup) ≡ Some mtu → is_open setup ≡ true
          opened' setup true same now = same
          opened' setup false same now = cc

          by : (set : Option Setup) → setup_of held.stage ≡ set → option_map carrier_mtu (open_carrier set) ≡ Some mtu → IsPlainStage held.stage
          by None has now = cc
          by (Some setup) has now = let is_so : is_open setup ≡ true = opened' setup (is_open setup) refl now in staged held.stage setup has is_so (on held setup at has is_so)

      plain : AllPlain v
      plain n held found = subst (λ (h : Held). IsPlainStage h.stage) (is_one n held found) (there (held_at own v) refl open')

  -- what matters first was told
  module _ (front : List Occurrence) (c : Client) (list : List ChannelEvent) (stands : Stands settings asks c (run front)) (rests : Rests (value front) c) where
    abbrev before : Channels
    before = value front

    abbrev rest : Channels
    rest = record (value front) { events = list }

    -- that a channel is open does not matter
    opened_rests : (own psm : ℕ) → before.events ≡ Opened own psm ∷ list → Rests rest (opened_by (peer_mtu own rest) psm c)
    opened_rests own psm is = by (peer_mtu own rest) refl
      where
        back : (event : ChannelEvent) → Headed event rest → Headed event before
        back event (more, told) = (more, ap notes is ∙ told)

        forth : Doom before ⊎ AllPlain before → Doom rest ⊎ AllPlain rest
        forth (inl (o, n, reason, (more, told))) = inl (o, n, reason, (more, sym (ap notes is) ∙ told))
        forth (inr all) = inr all

        by : (mtu : Option ℕ) → peer_mtu own rest ≡ mtu → Rests rest (opened_by mtu psm c)
        by None at = record { spent = rests.spent; first = λ o n headed. rests.first o n (back _ headed); plain = λ searches. forth (rests.plain searches) }
        by (Some mtu) at = let moves = opens_moves psm mtu c in record { spent = moves.spent rests.spent; first = λ o n headed. moves.harmless (rests.first o n (back _ headed)); plain = λ searches. on (moves.searches searches) }
          where
            on : Searches c ⊎ Opens psm c → Doom rest ⊎ AllPlain rest
            on (inl so) = forth (rests.plain so)
            on (inr opens) = forth (opened_plain front c own psm mtu at opens stands)

    -- the end of a channel leaves no push that uses one, or leaves no channel
    closed_case : {Y : Type 0} (own psm : ℕ) (reason : CloseReason) → before.events ≡ Closed own psm reason ∷ list → Stands settings asks c (run front) → (is_off c.stage ≡ true → Y) → (is_off (closed_by (cause_of reason) psm c).stage ≡ true → Y) → (before.held ≡ [] → notes list ≡ [] → Y) → Y
    closed_case own psm reason is (Off off) was now none = was off
    closed_case own psm reason is (Doomed (Shut own' psm' reason' more used why told)) was now none =
        let both : Closed own psm reason ∷ notes list ≡ Closed own' psm' reason' ∷ more = sym (ap notes is) ∙ told in
        let same_psm : psm' ≡ psm = cc in
        let same_reason : reason' ≡ reason = cc in
        now (subst (λ n. is_off (closed_by (cause_of reason) n c).stage ≡ true) same_psm (subst (λ r. is_off (closed_by (cause_of r) psm' c).stage ≡ true) same_reason (shut_off reason' c psm' why used)))
    closed_case own psm reason is (Doomed (Missed asking (more, told))) was now none = let no : Closed own psm reason ∷ notes list ≡ FeaturesLost ∷ more = sym (ap notes is) ∙ told in cc
    closed_case own psm reason is (Well (Lives psm' asked leaving uses live) spoken) was now none = let no : Closed own psm reason ∷ notes list ≡ [] = sym (ap notes is) ∙ live.none in cc
    closed_case own psm reason is (Well (Ends psm' own' used closes bare) spoken) was now none =
        let both : Closed own psm reason ∷ notes list ≡ Closed own' psm' reasons.OwnClosed ∷ [] = sym (ap notes is) ∙ bare.notes_are in none bare.held_is cc
    closed_case own psm reason is (Well (Idle bare) spoken) was now none = let no : Closed own psm reason ∷ notes list ≡ [] = sym (ap notes is) ∙ bare.notes_are in cc
    closed_case own psm reason is (Well (Waits asking waiting) spoken) was now none = let no : Closed own psm reason ∷ notes list ≡ [] = sym (ap notes is) ∙ waiting.none in cc
    closed_case own psm reason is (Well (Told asking features bare) spoken) was now none = let no : Closed own psm reason ∷ notes list ≡ Told_features features ∷ [] = sym (ap notes is) ∙ bare.notes_are in cc

    closed_rests : (own psm : ℕ) (reason : CloseReason) → before.events ≡ Closed own psm reason ∷ list → IsMild (λ n. ⊥) (Closed own psm reason) → Rests rest (closed_by (cause_of reason) psm c)
    closed_rests own psm reason is mild = record { spent = moves.spent rests.spent; first = first; plain = plain }
      where
        d : Client
        d = closed_by (cause_of reason) psm c

        moves : Moves ⊥ c (closed_by (cause_of reason) psm c)
        moves = by (cause_of reason) refl
          where
            by : (cause : Option CloseCause) → cause_of reason ≡ cause → Moves ⊥ c (closed_by cause psm c)
            by None at = still c
            by (Some cause) at =
                closes_moves psm cause c (λ limit. reason_limits (λ n. ⊥) own reason (Harmless c) mild (λ same. rests.first own psm (notes list, ap notes is ∙ ap (λ r. Closed own psm r ∷ notes list) same)) (ap closing_outcome at ∙ limit))

        first : (own' psm' : ℕ) → Headed (Closed own' psm' reasons.RetryLimit) rest → Harmless d
        first own' psm' (more, told') =
            closed_case own psm reason is stands (λ off. moves.harmless (inl (off_past c.stage off))) (λ off. inl (off_past d.stage off)) (λ held_is none. let no : [] ≡ Closed own' psm' reasons.RetryLimit ∷ more = sym none ∙ told' in cc)

        plain : Searches d → Doom rest ⊎ AllPlain rest
        plain searches =
            closed_case own psm reason is stands (λ off. was off (moves.searches searches)) (λ off. off_searching d.stage off searches.0) (λ held_is none. inr (λ n held found. let no : None ≡ Some held = ap (find (has_own n)) (sym held_is) ∙ found in cc))
          where
            was : is_off c.stage ≡ true → Searches c ⊎ ⊥ → Doom rest ⊎ AllPlain rest
            was off (inl so) = off_searching c.stage off so.0
            was off (inr none) = absurd none

    features_rests : (features : Option ℕ) → before.events ≡ Told_features features ∷ list → Rests rest (events.hears_news events.FeaturesTold c)
    features_rests features is = record { spent = moves.spent rests.spent; first = first stands; plain = λ searches. by (moves.searches searches) }
      where
        moves : Moves ⊥ c (events.hears_news events.FeaturesTold c)
        moves = told_moves c

        head : {Y : Type 0} (event : ChannelEvent) (more : List ChannelEvent) → notes before.events ≡ event ∷ more → (Told_features features ≡ event → Y) → Y
        head event more told so = let both : Told_features features ∷ notes list ≡ event ∷ more = sym (ap notes is) ∙ told in so cc

        first : Stands settings asks c (run front) → (own psm : ℕ) → Headed (Closed own psm reasons.RetryLimit) rest → Harmless (events.hears_news events.FeaturesTold c)
        first (Off off) own psm headed = moves.harmless (inl (off_past c.stage off))
        first (Doomed (Shut own' psm' reason' more used why told)) own psm headed = head (Closed own' psm' reason') more told (λ same. cc)
        first (Doomed (Missed asking (more, told))) own psm headed = head FeaturesLost more told (λ same. cc)
        first (Well (Lives psm' asked leaving uses live) spoken) own psm headed = let no : Told_features features ∷ notes list ≡ [] = sym (ap notes is) ∙ live.none in cc
        first (Well (Ends psm' own' used closes bare) spoken) own psm headed = head (Closed own' psm' reasons.OwnClosed) [] bare.notes_are (λ same. cc)
        first (Well (Idle bare) spoken) own psm headed = let no : Told_features features ∷ notes list ≡ [] = sym (ap notes is) ∙ bare.notes_are in cc
        first (Well (Waits asking waiting) spoken) own psm headed = let no : Told_features features ∷ notes list ≡ [] = sym (ap notes is) ∙ waiting.none in cc
        first (Well (Told asking other bare) spoken) own psm headed =
            let both : Told_features features ∷ notes list ≡ Told_features other ∷ [] = sym (ap notes is) ∙ bare.notes_are in let none : notes list ≡ [] = cc in let no : [] ≡ Closed own psm reasons.RetryLimit ∷ headed.0 = sym none ∙ headed.1 in cc

        by : Searches c ⊎ ⊥ → Doom rest ⊎ AllPlain rest
        by (inr none) = absurd none
        by (inl so) = on (rests.plain so)
          where
            on : Doom before ⊎ AllPlain before → Doom rest ⊎ AllPlain rest
            on (inl (o, n, reason, (more, told))) = head (Closed o n reason) more told (λ same. cc)
            on (inr all) = inr all

    event_rests : (event : ChannelEvent) → before.events ≡ event ∷ list → IsMild (λ n. ⊥) event → Rests rest (event_heard event rest c)
    event_rests (Opened own psm) is mild = opened_rests own psm is
    event_rests (Closed own psm reason) is mild = closed_rests own psm reason is mild
    event_rests (Told_features features) is mild = features_rests features is
    event_rests FeaturesLost is mild = absurd mild
    event_rests (DisconnectLost own) is mild = absurd mild

  pub telling : (front : List Occurrence) (p : ClientProfile) → AllByRecursion (IsMild (λ n. ⊥)) (value front).events → Stands settings asks p.client (run front) → Rests (value front) p.client → Rests (value (front ++ Tells ∷ [])) (told_next A (value front).events (value front) p).client
  telling front p mild stands rests = subst (λ (w : Channels). Rests w (told_next A (value front).events (value front) p).client) (sym (value-more wanted front Tells)) (by (value front).events refl mild)
    where
      v : Channels
      v = value front

      by : (found : List ChannelEvent) → v.events ≡ found → AllByRecursion (IsMild (λ n. ⊥)) found → (let w : Channels = record v { events = drop 1 v.events } in Rests w (told_next A found v p).client)
      by [] is all = subst (λ (l : List ChannelEvent). let w : Channels = record v { events = l } in Rests w p.client) (is ∙ sym (ap (drop 1) is)) rests
      by (event ∷ list) is all =
          subst (λ (l : List ChannelEvent). let w : Channels = record v { events = l } in let u : Channels = record v { events = list } in Rests w (event_heard event u p.client)) (sym (ap (drop 1) is)) (event_rests front p.client list stands rests event is all.0)
