-- How a client stands with the channels of its host while its link is up: it has one channel at a time, and where that is closed, or given up,
-- it soon has nothing left but its link.
use Rattle.std.proofs.Common.{◌≡◌, ℕ, List, [], ◌∷◌, ◌++◌, Bool, true, false, cond, eqb, Option, Some, None, refl, sym, ap, ◌∙◌, ◌⊎◌, inl, inr, append-nil}
use Rattle.std.specs.Prelude.{find, is_some, option_map}
use Rattle.std.proofs.lemmas.Bool.{eq-eqb}
use Rattle.shelf_model.specs.push_terms.specs.declared.outcome.Outcome.{Outcome}
use Rattle.shelf_model.specs.push_terms.specs.declared.outcome.Outcome.TheVariants as outcomes
use Rattle.channel_laws.specs.channel_model.specs.declared.event.ChannelEvent.{ChannelEvent}
use Rattle.channel_laws.specs.channel_model.specs.declared.event.ChannelEvent.TheVariants.{Opened, Closed, Features, FeaturesLost, DisconnectLost}
use Rattle.channel_laws.specs.channel_model.specs.declared.event.CloseReason.{CloseReason}
use Rattle.channel_laws.specs.channel_model.specs.declared.event.CloseReason.TheVariants.{PeerClosed, Refused, NoAgreement, RetryLimit, Ertm as Broken, LinkDown, OwnClosed}
use Rattle.channel_laws.specs.channel_model.specs.Value.{Stage, Requested, Connected, Leaving, Closing, Crossed, Channels}
use Rattle.channel_laws.specs.channel_model.specs.Changing.{has_own, setup_of}
use Rattle.channel_laws.specs.channel_model.specs.Calls.{open_carrier, setup_on, carrier_mtu, peer_mtu}
use Rattle.shelf_model.specs.ertm_model.specs.Reasons.{number_of}
use Rattle.push_laws.specs.push_model.specs.declared.closing.CloseCause.{CloseCause}
use Rattle.push_laws.specs.push_model.specs.declared.closing.CloseCause.TheVariants as causes
use Rattle.push_laws.specs.push_model.specs.declared.course.Point.TheVariants.{Due, Asked}
use Rattle.push_laws.specs.push_model.specs.declared.course.Stage.TheVariants as stages
use Rattle.push_laws.specs.push_model.specs.declared.course.Stage.{Stage as Course}
use Rattle.push_laws.specs.push_model.specs.Causes.{AtOnce, ending_of, small_channel, cause_of_close, cause_of_machine}
use Rattle.push_laws.specs.push_model.specs.Client.{Client, stage_after, ends_by, ends, ends_if}
use Rattle.push_laws.specs.push_model.specs.Events as events
use Rattle.push_laws.specs.push_model.specs.Events.{is_asking_features, object_opened, opened_at, search_left, search_closed, closed_at, hears_news}
use Rattle.shelf_model.specs.bt_base.specs.declared.settings.Transport.{Transport}
use Rattle.shelf_model.specs.bt_base.specs.declared.settings.Transport.TheVariants.{L2cap, Rfcomm}
use Rattle.shelf_model.specs.host_model.specs.Clients.{cause_of, closed_by, opened_by, event_heard}
use Rattle.host_laws.specs.Leaving.{in_use, is_closing, is_off}
use Rattle.host_laws.proofs.Changes.{IsBad, kind, Fine}
use Rattle.host_laws.proofs.Faces.{ends_link, may_ask, Keeps, off_at_once}
use Rattle.host_laws.proofs.Leaving.{clients_leave_at_losses}
use Rattle.host_laws.proofs.OneChannel.{notes, notes_with, lives_by, IsLive, IsBare, IsWaiting, IsMissed, LiveOn, live-fine, bare-fine, WaitOn, wait-fine}

-- ---- how it stands

-- it uses that channel, which may be only asked for, or have its end asked for
pub record Uses (c : Client) (psm : ℕ) (asked leaving : Bool) : Type 0 where
  pub used : in_use c.stage c.psm ≡ Some psm
  pub may : asked ≡ true → may_ask c.stage (is_some c.cause) ≡ true
  pub closes : leaving ≡ true → is_closing c.stage ≡ true

-- its channels are as it knows
pub data Clean (c : Client) (v : Channels) : Type 0 where
  Lives : (psm : ℕ) (asked leaving : Bool) → Uses c psm asked leaving → IsLive psm asked leaving v → Clean c v
  Ends : (psm own : ℕ) → in_use c.stage c.psm ≡ Some psm → is_closing c.stage ≡ true → IsBare (Closed own psm OwnClosed ∷ []) v → Clean c v
  Idle : IsBare [] v → Clean c v
  Waits : is_asking_features c.stage ≡ true → IsWaiting v → Clean c v
  Told : is_asking_features c.stage ≡ true → (features : Option ℕ) → IsBare (Features features ∷ []) v → Clean c v

-- it is to be told what leaves it nothing but its link
pub data Fatal (c : Client) (v : Channels) : Type 0 where
  Shut : (own psm : ℕ) (reason : CloseReason) (more : List ChannelEvent) → in_use c.stage c.psm ≡ Some psm → IsBad reason ⊎ ((ends_link c.stage (is_some c.cause) ≡ true) × (reason ≡ OwnClosed)) → notes v.events ≡ Closed own psm reason ∷ more → Fatal c v
  Missed : is_asking_features c.stage ≡ true → IsMissed v → Fatal c v

-- ---- it stands as before

-- but that its channel may no more be only asked for
pub record KeepsMost (c d : Client) : Type 0 where
  pub used : in_use d.stage d.psm ≡ in_use c.stage c.psm
  pub closes : is_closing c.stage ≡ true → is_closing d.stage ≡ true
  pub asks : is_asking_features c.stage ≡ true → is_asking_features d.stage ≡ true
  pub ends : ends_link c.stage (is_some c.cause) ≡ true → ends_link d.stage (is_some d.cause) ≡ true

pub most : (c d : Client) → Keeps c d → KeepsMost c d
most c d keeps = record { used = keeps.used; closes = keeps.closes; asks = keeps.asks; ends = keeps.ends }

pub clean_keeps : (c d : Client) (v : Channels) → Keeps c d → Clean c v → Clean d v
clean_keeps c d v keeps (Lives psm asked leaving uses live) = Lives psm asked leaving (record { used = keeps.used ∙ uses.used; may = λ is. keeps.may (uses.may is); closes = λ is. keeps.closes (uses.closes is) }) live
clean_keeps c d v keeps (Ends psm own used closes bare) = Ends psm own (keeps.used ∙ used) (keeps.closes closes) bare
clean_keeps c d v keeps (Idle bare) = Idle bare
clean_keeps c d v keeps (Waits asks waits) = Waits (keeps.asks asks) waits
clean_keeps c d v keeps (Told asks features bare) = Told (keeps.asks asks) features bare

pub fatal_keeps : (c d : Client) (v : Channels) → KeepsMost c d → Fatal c v → Fatal d v
fatal_keeps c d v keeps (Shut own psm reason more used (inl bad) told) = Shut own psm reason more (keeps.used ∙ used) (inl bad) told
fatal_keeps c d v keeps (Shut own psm reason more used (inr (ends', is)) told) = Shut own psm reason more (keeps.used ∙ used) (inr (keeps.ends ends', is)) told
fatal_keeps c d v keeps (Missed asks missed) = Missed (keeps.asks asks) missed

-- ---- more arises

pub fatal_more : (c : Client) (v w : Channels) (more : List ChannelEvent) → w.events ≡ v.events ++ more → Fatal c v → Fatal c w
fatal_more c v w more is (Shut own psm reason others used why told) = Shut own psm reason (others ++ notes more) used why (notes_with v w more (Closed own psm reason ∷ others) is told)
fatal_more c v w more is (Missed asks (others, told)) = Missed asks (others ++ notes more, notes_with v w more (FeaturesLost ∷ others) is told)

fatal_same : (c : Client) (v w : Channels) → w.events ≡ v.events → Fatal c v → Fatal c w
fatal_same c v w is fatal = fatal_more c v w [] (is ∙ sym (append-nil v.events)) fatal

pub fatal-fine : (c : Client) → Fine (Fatal c)
fatal-fine c = record {
  still = λ v w held_is question events_are fatal. fatal_same c v w events_are fatal;
  opens = λ v w own psm held_is question events_are fatal. fatal_more c v w (Opened own psm ∷ []) events_are fatal;
  stages = λ v w held stage at same held_is question events_are fatal. fatal_same c v w events_are fatal;
  joins = λ v w held request peer setup at is held_is question events_are fatal. fatal_same c v w events_are fatal;
  shuts = λ v w held reason at alive bad events_are fatal. fatal_more c v w (Closed held.own held.psm reason ∷ []) events_are fatal;
  ends = λ v w held at leaves held_is question events_are fatal. fatal_more c v w (Closed held.own held.psm OwnClosed ∷ []) events_are fatal;
  dies = λ v w held more at dead events_are fatal. fatal_more c v w more events_are fatal;
  answered = λ v w request features is held_is none events_are fatal. fatal_more c v w (Features features ∷ []) events_are fatal;
  misses = λ v w request is events_are fatal. fatal_more c v w (FeaturesLost ∷ []) events_are fatal;
}

-- ---- its channels change

pub fine_clean : (c : Client) (v w : Channels) → ((K : Channels → Type 0) → Fine K → K v → K w) → Clean c v → Clean c w ⊎ Fatal c w
fine_clean c v w goes (Lives psm asked leaving uses live) = by (goes (LiveOn psm asked leaving) (live-fine psm asked leaving) (inl live))
  where
    by : LiveOn psm asked leaving w → Clean c w ⊎ Fatal c w
    by (inl now) = inl (Lives psm asked leaving uses now)
    by (inr (inl ended')) = inl (Ends psm ended'.own uses.used (uses.closes ended'.leaves) ended'.bare)
    by (inr (inr lost)) = inr (Shut lost.own psm lost.reason lost.more uses.used (inl lost.bad) lost.notes_are)
fine_clean c v w goes (Ends psm own used closes' bare) = inl (Ends psm own used closes' (goes (IsBare (Closed own psm OwnClosed ∷ [])) (bare-fine (Closed own psm OwnClosed ∷ [])) bare))
fine_clean c v w goes (Idle bare) = inl (Idle (goes (IsBare []) (bare-fine []) bare))
fine_clean c v w goes (Waits asks waits') = by (goes WaitOn wait-fine (inl waits'))
  where
    by : WaitOn w → Clean c w ⊎ Fatal c w
    by (inl now) = inl (Waits asks now)
    by (inr (inl (features, bare))) = inl (Told asks features bare)
    by (inr (inr missed)) = inr (Missed asks missed)
fine_clean c v w goes (Told asks features bare) = inl (Told asks features (goes (IsBare (Features features ∷ [])) (bare-fine (Features features ∷ [])) bare))

-- ---- it is told the end of its channel

now_off : (outcome : Outcome) (c : Client) → ending_of outcome ≡ AtOnce → is_off (ends outcome c).stage ≡ true
now_off outcome c at_once' = by c.cause
  where
    by : (cause : Option Outcome) → is_off (ends_by cause outcome c).stage ≡ true
    by None = ap (λ ending. is_off (stage_after ending c.stage)) at_once' ∙ off_at_once c.stage
    by (Some earlier) = off_at_once c.stage

psm_off : (psm other : ℕ) (one two : Client) → Some other ≡ Some psm → is_off one.stage ≡ true → is_off (cond (eqb psm other) one two).stage ≡ true
psm_off psm other one two is off =
    let same : psm ≡ other = cc in
    ap (λ b. is_off (cond b one two).stage) (eq-eqb psm other same) ∙ off

-- a cause that ends it at once
bad_at : (stage : Course) (c : Client) (psm : ℕ) (cause : CloseCause) (outcome : Outcome) → in_use stage c.psm ≡ Some psm → cause_of_close cause ≡ Some outcome → ending_of outcome ≡ AtOnce → is_off (closed_at stage psm cause c).stage ≡ true
bad_at stages.Rest c psm cause outcome used is now = cc
bad_at (stages.Link point) c psm cause outcome used is now = cc
bad_at (stages.SearchChannel Due) c psm cause outcome used is now = cc
bad_at (stages.SearchChannel Asked) c psm cause outcome used is now = psm_off psm 0x0001 (ends_if (cause_of_close cause) c) c used (ap (λ o. is_off (ends_if o c).stage) is ∙ now_off outcome c now)
bad_at stages.Search c psm cause outcome used is now = psm_off psm 0x0001 (ends_if (cause_of_close cause) c) c used (ap (λ o. is_off (ends_if o c).stage) is ∙ now_off outcome c now)
bad_at (stages.SearchEnd point) c psm cause outcome used is now = psm_off psm 0x0001 (search_closed (cause_of_close cause) c) c used (ap (λ o. is_off (search_closed o c).stage) is ∙ now_off outcome c now)
bad_at (stages.Features point) c psm cause outcome used is now = cc
bad_at (stages.ObjectChannel Due) c psm cause outcome used is now = cc
bad_at (stages.ObjectChannel Asked) c psm cause outcome used is now = psm_off psm c.psm (ends_if (cause_of_close cause) c) c used (ap (λ o. is_off (ends_if o c).stage) is ∙ now_off outcome c now)
bad_at stages.Object c psm cause outcome used is now = psm_off psm c.psm (ends_if (cause_of_close cause) c) c used (ap (λ o. is_off (ends_if o c).stage) is ∙ now_off outcome c now)
bad_at (stages.ObjectEnd point) c psm cause outcome used is now = psm_off psm c.psm (record c { stage = stages.LinkEnd Due }) c used refl
bad_at (stages.LinkEnd point) c psm cause outcome used is now = cc
bad_at stages.Over c psm cause outcome used is now = cc

machine_now : (number : ℕ) → ending_of (cause_of_machine number) ≡ AtOnce
machine_now number = by (eqb number 5)
  where
    by : (b : Bool) → ending_of (cond b outcomes.RetryLimit (outcomes.PeerFault 2 number)) ≡ AtOnce
    by true = refl
    by false = refl

bad_off : (reason : CloseReason) (c : Client) (psm : ℕ) → IsBad reason → in_use c.stage c.psm ≡ Some psm → is_off (closed_by (cause_of reason) psm c).stage ≡ true
bad_off PeerClosed c psm bad used = bad_at c.stage c psm causes.Peer outcomes.PeerClosed used refl refl
bad_off (Refused answer) c psm bad used = bad_at c.stage c psm (causes.Refused answer) _ used refl refl
bad_off NoAgreement c psm bad used = bad_at c.stage c psm causes.NoAgreement _ used refl refl
bad_off RetryLimit c psm bad used = bad_at c.stage c psm causes.RetryLimit outcomes.RetryLimit used refl refl
bad_off (Broken reason) c psm bad used = bad_at c.stage c psm (causes.Broken (number_of reason)) (cause_of_machine (number_of reason)) used refl (machine_now (number_of reason))
bad_off LinkDown c psm bad used = absurd bad
bad_off OwnClosed c psm bad used = absurd bad

own_at : (stage : Course) (c : Client) (psm : ℕ) → in_use stage c.psm ≡ Some psm → ends_link stage (is_some c.cause) ≡ true → is_off (closed_at stage psm causes.Own c).stage ≡ true
own_at stages.Rest c psm used ends' = cc
own_at (stages.Link point) c psm used ends' = cc
own_at (stages.SearchChannel point) c psm used ends' = cc
own_at stages.Search c psm used ends' = cc
own_at (stages.SearchEnd point) c psm used ends' = psm_off psm 0x0001 (search_left c.cause c) c used (by c.cause ends')
  where
    by : (cause : Option Outcome) → is_some cause ≡ true → is_off (search_left cause c).stage ≡ true
    by None is = cc
    by (Some outcome) is = refl
own_at (stages.Features point) c psm used ends' = cc
own_at (stages.ObjectChannel point) c psm used ends' = cc
own_at stages.Object c psm used ends' = cc
own_at (stages.ObjectEnd point) c psm used ends' = psm_off psm c.psm (record c { stage = stages.LinkEnd Due }) c used refl
own_at (stages.LinkEnd point) c psm used ends' = cc
own_at stages.Over c psm used ends' = cc

pub shut_off : (reason : CloseReason) (c : Client) (psm : ℕ) → IsBad reason ⊎ ((ends_link c.stage (is_some c.cause) ≡ true) × (reason ≡ OwnClosed)) → in_use c.stage c.psm ≡ Some psm → is_off (closed_by (cause_of reason) psm c).stage ≡ true
shut_off reason c psm (inl bad) used = bad_off reason c psm bad used
shut_off reason c psm (inr (ends', is)) used = ap (λ r. is_off (closed_by (cause_of r) psm c).stage) is ∙ own_at c.stage c psm used ends'

pub missed_off : (c : Client) → is_asking_features c.stage ≡ true → is_off (hears_news events.FeaturesLost c).stage ≡ true
missed_off c asks = ap is_off (clients_leave_at_losses.featureless c asks)

-- ---- it is told that its channel is open

most_if : (b : Bool) (c d : Client) → (is_off d.stage ≡ true) ⊎ KeepsMost c d → (is_off (cond b d c).stage ≡ true) ⊎ KeepsMost c (cond b d c)
most_if true c d one = one
most_if false c d one = inr (record { used = refl; closes = λ is. is; asks = λ is. is; ends = λ is. is })

opens_most : (stage : Course) (psm mtu : ℕ) (c : Client) → c.stage ≡ stage → (is_off (opened_at stage psm mtu c).stage ≡ true) ⊎ KeepsMost c (opened_at stage psm mtu c)
opens_most (stages.SearchChannel Asked) psm mtu c at =
    most_if (eqb psm 0x0001) c (record c { stage = stages.Search }) (inr (record {
      used = sym (ap (λ stage. in_use stage c.psm) at);
      closes = λ is. let never : false ≡ true = sym (ap is_closing at) ∙ is in cc;
      asks = λ is. let never : false ≡ true = sym (ap is_asking_features at) ∙ is in cc;
      ends = λ is. let never : false ≡ true = sym (ap (λ stage. ends_link stage (is_some c.cause)) at) ∙ is in cc;
    }))
opens_most (stages.ObjectChannel Asked) psm mtu c at = most_if (eqb psm c.psm) c (object_opened c.transport mtu c) (by c.transport)
  where
    onto : (d : Client) → d.stage ≡ stages.Object → d.psm ≡ c.psm → KeepsMost c d
    onto d to same = record {
      used = ap (λ stage. in_use stage d.psm) to ∙ (ap Some same ∙ sym (ap (λ stage. in_use stage c.psm) at));
      closes = λ is. let never : false ≡ true = sym (ap is_closing at) ∙ is in cc;
      asks = λ is. let never : false ≡ true = sym (ap is_asking_features at) ∙ is in cc;
      ends = λ is. let never : false ≡ true = sym (ap (λ stage. ends_link stage (is_some c.cause)) at) ∙ is in cc;
    }

    direct : (b : Bool) (d : Client) → d.stage ≡ stages.Object → d.psm ≡ c.psm → (is_off (cond b (ends small_channel c) d).stage ≡ true) ⊎ KeepsMost c (cond b (ends small_channel c) d)
    direct true d to same = inl (now_off small_channel c refl)
    direct false d to same = inr (onto d to same)

    by : (transport : Transport) → (is_off (object_opened transport mtu c).stage ≡ true) ⊎ KeepsMost c (object_opened transport mtu c)
    by L2cap = direct _ _ refl refl
    by Rfcomm = inr (onto (object_opened Rfcomm mtu c) refl refl)
opens_most stages.Rest psm mtu c at = inr (record { used = refl; closes = λ is. is; asks = λ is. is; ends = λ is. is })
opens_most (stages.Link point) psm mtu c at = inr (record { used = refl; closes = λ is. is; asks = λ is. is; ends = λ is. is })
opens_most (stages.SearchChannel Due) psm mtu c at = inr (record { used = refl; closes = λ is. is; asks = λ is. is; ends = λ is. is })
opens_most stages.Search psm mtu c at = inr (record { used = refl; closes = λ is. is; asks = λ is. is; ends = λ is. is })
opens_most (stages.SearchEnd point) psm mtu c at = inr (record { used = refl; closes = λ is. is; asks = λ is. is; ends = λ is. is })
opens_most (stages.Features point) psm mtu c at = inr (record { used = refl; closes = λ is. is; asks = λ is. is; ends = λ is. is })
opens_most (stages.ObjectChannel Due) psm mtu c at = inr (record { used = refl; closes = λ is. is; asks = λ is. is; ends = λ is. is })
opens_most stages.Object psm mtu c at = inr (record { used = refl; closes = λ is. is; asks = λ is. is; ends = λ is. is })
opens_most (stages.ObjectEnd point) psm mtu c at = inr (record { used = refl; closes = λ is. is; asks = λ is. is; ends = λ is. is })
opens_most (stages.LinkEnd point) psm mtu c at = inr (record { used = refl; closes = λ is. is; asks = λ is. is; ends = λ is. is })
opens_most stages.Over psm mtu c at = inr (record { used = refl; closes = λ is. is; asks = λ is. is; ends = λ is. is })

pub opened_most : (mtu : Option ℕ) (psm : ℕ) (c : Client) → (is_off (opened_by mtu psm c).stage ≡ true) ⊎ KeepsMost c (opened_by mtu psm c)
opened_most None psm c = inr (record { used = refl; closes = λ is. is; asks = λ is. is; ends = λ is. is })
opened_most (Some mtu) psm c = opens_most c.stage psm mtu c refl

-- a channel that is open is more than asked for
pub open_lives : (own mtu psm : ℕ) (asked leaving : Bool) (v : Channels) (live : IsLive psm asked leaving v) → peer_mtu own v ≡ Some mtu → lives_by false leaving (kind live.one.stage) ≡ true
open_lives own mtu psm asked leaving v live is = by (has_own own live.one) (sym (ap (λ hs. option_map carrier_mtu (open_carrier (setup_on (find (has_own own) hs)))) live.held_is) ∙ is)
  where
    there : (stage : Stage) → lives_by asked leaving (kind stage) ≡ true → option_map carrier_mtu (open_carrier (setup_of stage)) ≡ Some mtu → lives_by false leaving (kind stage) ≡ true
    there (Requested request) lives found = cc
    there (Connected peer setup) lives found = refl
    there (Leaving peer setup request) lives found = lives
    there (Closing peer request checked) lives found = cc
    there (Crossed peer request) lives found = cc

    by : (b : Bool) → option_map carrier_mtu (open_carrier (setup_on (cond b (Some live.one) None))) ≡ Some mtu → lives_by false leaving (kind live.one.stage) ≡ true
    by true found = there live.one.stage live.stage_is found
    by false found = cc

-- ---- off, it stays off

closed_same : (stage : Course) (psm : ℕ) (cause : CloseCause) (c : Client) → is_off stage ≡ true → closed_at stage psm cause c ≡ c
closed_same stages.Rest psm cause c off = refl
closed_same (stages.Link point) psm cause c off = refl
closed_same (stages.LinkEnd point) psm cause c off = refl
closed_same stages.Over psm cause c off = refl
closed_same (stages.SearchChannel point) psm cause c off = cc
closed_same stages.Search psm cause c off = cc
closed_same (stages.SearchEnd point) psm cause c off = cc
closed_same (stages.Features point) psm cause c off = cc
closed_same (stages.ObjectChannel point) psm cause c off = cc
closed_same stages.Object psm cause c off = cc
closed_same (stages.ObjectEnd point) psm cause c off = cc

opened_same : (stage : Course) (psm mtu : ℕ) (c : Client) → is_off stage ≡ true → opened_at stage psm mtu c ≡ c
opened_same stages.Rest psm mtu c off = refl
opened_same (stages.Link point) psm mtu c off = refl
opened_same (stages.LinkEnd point) psm mtu c off = refl
opened_same stages.Over psm mtu c off = refl
opened_same (stages.SearchChannel point) psm mtu c off = cc
opened_same stages.Search psm mtu c off = cc
opened_same (stages.SearchEnd point) psm mtu c off = cc
opened_same (stages.Features point) psm mtu c off = cc
opened_same (stages.ObjectChannel point) psm mtu c off = cc
opened_same stages.Object psm mtu c off = cc
opened_same (stages.ObjectEnd point) psm mtu c off = cc

asks_off : (stage : Course) → is_off stage ≡ true → is_asking_features stage ≡ false
asks_off stages.Rest off = refl
asks_off (stages.Link point) off = refl
asks_off (stages.LinkEnd point) off = refl
asks_off stages.Over off = refl
asks_off (stages.SearchChannel point) off = cc
asks_off stages.Search off = cc
asks_off (stages.SearchEnd point) off = cc
asks_off (stages.Features point) off = cc
asks_off (stages.ObjectChannel point) off = cc
asks_off stages.Object off = cc
asks_off (stages.ObjectEnd point) off = cc

pub event_off : (event : ChannelEvent) (v : Channels) (c : Client) → is_off c.stage ≡ true → is_off (event_heard event v c).stage ≡ true
event_off (Opened own psm) v c off = by (peer_mtu own v)
  where
    by : (mtu : Option ℕ) → is_off (opened_by mtu psm c).stage ≡ true
    by None = off
    by (Some mtu) = ap (λ (d : Client). is_off d.stage) (opened_same c.stage psm mtu c off) ∙ off
event_off (Closed own psm reason) v c off = by (cause_of reason)
  where
    by : (cause : Option CloseCause) → is_off (closed_by cause psm c).stage ≡ true
    by None = off
    by (Some cause) = ap (λ (d : Client). is_off d.stage) (closed_same c.stage psm cause c off) ∙ off
event_off (Features features) v c off = ap (λ b. is_off (cond b (record c { stage = stages.ObjectChannel Due }) c).stage) (asks_off c.stage off) ∙ off
event_off FeaturesLost v c off = ap (λ b. is_off (cond b (ends outcomes.RetryLimit c) c).stage) (asks_off c.stage off) ∙ off
event_off (DisconnectLost own) v c off = off
