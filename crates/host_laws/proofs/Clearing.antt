-- What one channel does in a firing.
use Rattle.std.proofs.Common.{◌≡◌, ℕ, List, [], ◌∷◌, ◌++◌, map, filter, find, Bool, true, false, cond, not, ◌||◌, eqb, nat_le, Option, Some, None, is_some, refl, sym, ap, ap₂, subst, ◌∙◌, append_assoc, append-nil}
use Rattle.std.specs.List.{AllByRecursion, list_any}
use Rattle.shelf_model.specs.ertm_model.specs.declared.reason.ErtmReason.{ErtmReason}
use Rattle.shelf_model.specs.ertm_model.specs.Giving.{timed}
use Rattle.shelf_model.specs.l2cap_config.specs.declared.options.Options.{Options}
use Rattle.push_laws.specs.link_talk.specs.Sayings.{Saying}
use Rattle.channel_laws.specs.channel_model.specs.declared.errand.Errand.{Errand}
use Rattle.channel_laws.specs.channel_model.specs.declared.errand.Errand.TheVariants as errands
use Rattle.channel_laws.specs.channel_model.specs.declared.event.CloseReason.{CloseReason}
use Rattle.channel_laws.specs.channel_model.specs.declared.event.CloseReason.TheVariants.{RetryLimit}
use Rattle.channel_laws.specs.channel_model.specs.Value.{Request, Queued, Answer, Ask, Own, Unasked, Asking, Granted, Carrier, Plain, Retransmitting, Setup, Stage, Requested, Connected, Leaving, Closing, Crossed, Held, Channels}
use Rattle.channel_laws.specs.channel_model.specs.Changing.{has_own, has_fcs_by, held_at, in_place_of, to_setup, with_setup, setup_of, same_errand, is_copy, is_due, is_about, is_copy_about, queued}
use Rattle.channel_laws.specs.channel_model.specs.Asking.{new_request, StillDue, OnceMore, Spent}
use Rattle.channel_laws.specs.channel_model.specs.Closing.{closes, closes_at, ends, ends_at}
use Rattle.channel_laws.specs.channel_model.specs.Carrying.{reason_of, settles_machine}
use Rattle.channel_laws.specs.channel_model.specs.Timing.{fires, times, times_carrier, times_setup, times_stage, loses_end, times_end_at, times_end}
use Rattle.channel_laws.specs.channel_model.specs.Giving.{connection_at, configuration_by, configuration_at, disconnection_at, on_held, command_of}
use Rattle.channel_laws.specs.channel_model.specs.Calls.{own_waits}
use Rattle.channel_laws.specs.channel_model.proofs.Lookups.{own_of, Distinct, eqb-same, eqb-away, found-placed, find-placed, placed-distinct, find-others, distinct-filter}
use Rattle.channel_laws.specs.OwnTalk.{said_of}
use Rattle.channel_laws.specs.Runs.{said_on_firing}
use Rattle.channel_laws.proofs.Asking.{newest-last}
use Rattle.host_laws.specs.Seen.{spoken_of, waiting_in, AllDue}
use Rattle.host_laws.specs.Steady.{IsSteadyOwn}
use Rattle.host_laws.proofs.Moving.{spoken-both}
use Rattle.host_laws.proofs.Firing.{still-said, any-last, again-connection, again-configuration, again-disconnection, closed-said}

-- ---- no copy about a channel waits

abbrev pub Clear : ℕ → List Queued → Type 0
Clear own queue = AllByRecursion (λ one. is_copy_about own one ≡ false) queue

abbrev Apart : ℕ → Errand → Type 0
Apart own errand = (other : Errand) → is_about own other ≡ false → same_errand errand other ≡ false

connection_apart : (own : ℕ) → Apart own (errands.Connection own)
connection_apart own (errands.Connection other) is = eqb-away other own is
connection_apart own (errands.Configuration other) is = refl
connection_apart own (errands.Disconnection other) is = refl
connection_apart own errands.Features is = refl

configuration_apart : (own : ℕ) → Apart own (errands.Configuration own)
configuration_apart own (errands.Connection other) is = refl
configuration_apart own (errands.Configuration other) is = eqb-away other own is
configuration_apart own (errands.Disconnection other) is = refl
configuration_apart own errands.Features is = refl

disconnection_apart : (own : ℕ) → Apart own (errands.Disconnection own)
disconnection_apart own (errands.Connection other) is = refl
disconnection_apart own (errands.Configuration other) is = refl
disconnection_apart own (errands.Disconnection other) is = eqb-away other own is
disconnection_apart own errands.Features is = refl

clear_due : (own : ℕ) (errand : Errand) (queue : List Queued) → Apart own errand → Clear own queue → list_any (is_copy errand) queue ≡ false
clear_due own errand [] apart clear = refl
clear_due own errand (Answer command ∷ queue) apart clear = clear_due own errand queue apart clear.1
clear_due own errand (Ask other ∷ queue) apart clear = ap₂ (λ a b. a || b) (apart other clear.0) (clear_due own errand queue apart clear.1)

clear_copies : (own : ℕ) (errand : Errand) (queue : List Queued) → Apart own errand → Clear own queue → filter (λ waiting. not (is_copy errand waiting)) queue ≡ queue
clear_copies own errand [] apart clear = refl
clear_copies own errand (Answer command ∷ queue) apart clear = ap (λ (rest : List Queued). Answer command ∷ rest) (clear_copies own errand queue apart clear.1)
clear_copies own errand (Ask other ∷ queue) apart clear =
    ap₂ (λ (b : Bool) (rest : List Queued). cond (not b) (Ask other ∷ rest) rest) (apart other clear.0) (clear_copies own errand queue apart clear.1)

clear_gone : (own : ℕ) (queue : List Queued) → Clear own queue → filter (λ waiting. not (is_copy_about own waiting)) queue ≡ queue
clear_gone own [] clear = refl
clear_gone own (one ∷ queue) clear = ap₂ (λ (b : Bool) (rest : List Queued). cond (not b) (one ∷ rest) rest) clear.0 (clear_gone own queue clear.1)

-- ---- what a firing does to one channel

abbrev pub IsOwn : ℕ → Queued → Type 0
IsOwn own (Answer command) = ⊥
IsOwn own (Ask errand) = is_about own errand ≡ true

pub record Kept (own : ℕ) (u w : Channels) : Type 0 where
  pub others : (other : ℕ) → eqb own other ≡ false → held_at other w ≡ held_at other u
  pub features_is : w.features ≡ u.features
  pub lone : Distinct own_of w.held

pub record Half (own : ℕ) (u w : Channels) (said : List Saying) : Type 0 where
  pub asks : List Queued
  pub queue_is : w.queue ≡ u.queue ++ asks
  pub about : AllByRecursion (IsOwn own) asks
  pub told : spoken_of said ≡ waiting_in asks w
  pub due : AllDue asks w
  pub kept : Kept own u w

abbrev pub HalfTo : ℕ → (u w : Channels) → Type 0
HalfTo own u w = Half own u w (said_on_firing own u w)

-- what the channel waits for, up to a moment, and then its end
abbrev pub Whole : ℕ → ℕ → (u between : Channels) → Type 0
Whole own tries u between = Half own u (times_end (held_at own between) tries between) (said_on_firing own u between ++ said_on_firing own between (times_end (held_at own between) tries between))

pub half-still : (own : ℕ) (u w : Channels) → w.identifier ≡ u.identifier → w.queue ≡ u.queue → Kept own u w → HalfTo own u w
half-still own u w same queue_is kept = record { asks = []; queue_is = queue_is ∙ sym (append-nil u.queue); about = tt; told = still-said own u w same queue_is; due = tt; kept = kept }

-- a request is to be given once more
half_again : (own : ℕ) (u : Channels) (errand : Errand) → is_about own errand ≡ true → Distinct own_of u.held → is_some (command_of errand (queued (Ask errand) u)) ≡ true
    → spoken_of (said_on_firing own u (queued (Ask errand) u)) ≡ said_of (Some errand) (queued (Ask errand) u) → HalfTo own u (queued (Ask errand) u)
half_again own u errand is lone some told = record {
  asks = Ask errand ∷ [];
  queue_is = refl;
  about = (is, tt);
  told = told ∙ sym (append-nil (said_of (Some errand) (queued (Ask errand) u)));
  due = (some, tt);
  kept = record { others = λ other apart. refl; features_is = refl; lone = lone };
}

-- ---- a request that is not to be given already

pub not-due : (tries : ℕ) (errand : Errand) (request : Request) (spent : Channels → Channels) (u : Channels) → is_due errand u ≡ false
    → times tries errand request spent u ≡ cond (nat_le tries request.given) (spent u) (queued (Ask errand) u)
not-due tries errand request spent u is =
    ap (λ d. fires (cond d StillDue (cond (nat_le tries request.given) Spent OnceMore)) errand spent u) is ∙ by (nat_le tries request.given)
  where
    by : (over : Bool) → fires (cond over Spent OnceMore) errand spent u ≡ cond over (spent u) (queued (Ask errand) u)
    by true = refl
    by false = refl

still_due : (tries : ℕ) (errand : Errand) (request : Request) (spent : Channels → Channels) (u : Channels) → is_due errand u ≡ true → times tries errand request spent u ≡ u
still_due tries errand request spent u is = ap (λ d. fires (cond d StillDue (cond (nat_le tries request.given) Spent OnceMore)) errand spent u) is

if_half : (own : ℕ) (u one other : Channels) (b : Bool) → HalfTo own u one → HalfTo own u other → HalfTo own u (cond b one other)
if_half own u one other true this that = this
if_half own u one other false this that = that

module _ (tries : ℕ) (u : Channels) (held : Held) (found : held_at held.own u ≡ Some held) (lone : Distinct own_of u.held) (clear : Clear held.own u.queue) where
  own_due : (errand : Errand) → Apart held.own errand → is_due errand u ≡ false
  own_due errand apart = clear_due held.own errand u.queue apart clear

  gone_kept : (w : Channels) → w.held ≡ filter (λ other. not (eqb other.own held.own)) u.held → w.features ≡ u.features → Kept held.own u w
  gone_kept w held_is features_is = record {
    others = λ other apart. ap (find (has_own other)) held_is ∙ find-others own_of held.own other u.held apart;
    features_is = features_is;
    lone = subst (λ (hs : List Held). Distinct own_of hs) (sym held_is) (distinct-filter own_of (λ other. not (eqb other.own held.own)) u.held lone);
  }

  placed_kept : (w : Channels) (after : Held) → after.own ≡ held.own → w.held ≡ map (in_place_of after) u.held → w.features ≡ u.features → Kept held.own u w
  placed_kept w after own_is held_is features_is = record {
    others = λ other apart. ap (find (has_own other)) held_is ∙ find-placed after u.held other (ap (λ n. eqb n other) own_is ∙ apart);
    features_is = features_is;
    lone = subst (λ (hs : List Held). Distinct own_of hs) (sym held_is) (placed-distinct after u.held lone);
  }

  same_kept : Kept held.own u u
  same_kept = record { others = λ other apart. refl; features_is = refl; lone = lone }

  -- ---- the request for the end

  ends_half : (stage : Stage) → is_some (disconnection_at stage held) ≡ true → HalfTo held.own u (ends_at stage RetryLimit held u)
  ends_half (Requested request) some = half-still held.own u u refl refl same_kept
  ends_half (Connected peer setup) some = half-still held.own u u refl refl same_kept
  ends_half (Leaving peer setup request) some = let w = ends_at (Leaving peer setup request) RetryLimit held u in half-still held.own u w refl (clear_gone held.own u.queue clear) (gone_kept w refl refl)
  ends_half (Closing peer request checked) some = let w = ends_at (Closing peer request checked) RetryLimit held u in half-still held.own u w refl (clear_gone held.own u.queue clear) (gone_kept w refl refl)
  ends_half (Crossed peer request) some = let w = ends_at (Crossed peer request) RetryLimit held u in half-still held.own u w refl (clear_gone held.own u.queue clear) (gone_kept w refl refl)

  loses_half : (stage : Stage) → held.stage ≡ stage → is_some (disconnection_at stage held) ≡ true → HalfTo held.own u (loses_end held u)
  loses_half (Requested request) is some = cc
  loses_half (Connected peer setup) is some = cc
  loses_half (Leaving peer setup request) is some =
      let w = loses_end held u in
      half-still held.own u w (ap (λ s. (ends_at s RetryLimit held u).identifier) is) (ap (λ s. (ends_at s RetryLimit held u).queue) is ∙ clear_gone held.own u.queue clear)
      (gone_kept w (ap (λ s. (ends_at s RetryLimit held u).held) is) (ap (λ s. (ends_at s RetryLimit held u).features) is))
  loses_half (Closing peer request checked) is some =
      let w = loses_end held u in
      half-still held.own u w (ap (λ s. (ends_at s RetryLimit held u).identifier) is) (ap (λ s. (ends_at s RetryLimit held u).queue) is ∙ clear_gone held.own u.queue clear)
      (gone_kept w (ap (λ s. (ends_at s RetryLimit held u).held) is) (ap (λ s. (ends_at s RetryLimit held u).features) is))
  loses_half (Crossed peer request) is some =
      let w = loses_end held u in
      half-still held.own u w (ap (λ s. (ends_at s RetryLimit held u).identifier) is) (ap (λ s. (ends_at s RetryLimit held u).queue) is ∙ clear_gone held.own u.queue clear)
      (gone_kept w (ap (λ s. (ends_at s RetryLimit held u).held) is) (ap (λ s. (ends_at s RetryLimit held u).features) is))

  -- by how often it was given
  end_by : (request : Request) (spent : Channels → Channels) → is_some (disconnection_at held.stage held) ≡ true → HalfTo held.own u (spent u) → HalfTo held.own u (times tries (errands.Disconnection held.own) request spent u)
  end_by request spent some half =
      let errand = errands.Disconnection held.own in
      let was = own_due errand (disconnection_apart held.own) in
      subst (HalfTo held.own u) (sym (not-due tries errand request spent u was))
      (if_half held.own u (spent u) (queued (Ask errand) u) (nat_le tries request.given) half
      (half_again held.own u errand (eqb-same held.own) lone (ap (λ (h : Option Held). is_some (on_held (λ x. disconnection_at x.stage x) h)) found ∙ some) (again-disconnection held.own u was)))

  pub end-at : (stage : Stage) → held.stage ≡ stage → HalfTo held.own u (times_end_at stage tries held u)
  end-at (Requested request) is = half-still held.own u u refl refl same_kept
  end-at (Connected peer setup) is = half-still held.own u u refl refl same_kept
  end-at (Leaving peer setup request) is =
      let some = ap (λ s. is_some (disconnection_at s held)) is in
      end_by request (ends RetryLimit held) some (subst (λ s. HalfTo held.own u (ends_at s RetryLimit held u)) (sym is) (ends_half (Leaving peer setup request) refl))
  end-at (Closing peer request checked) is =
      let some = ap (λ s. is_some (disconnection_at s held)) is in end_by request (loses_end held) some (loses_half (Closing peer request checked) is refl)
  end-at (Crossed peer request) is =
      let some = ap (λ s. is_some (disconnection_at s held)) is in end_by request (loses_end held) some (loses_half (Crossed peer request) is refl)

  -- ---- what the channel waits for

  pub data Mid : Channels → Type 0 where
    Rests : (w : Channels) → w.identifier ≡ u.identifier → w.queue ≡ u.queue → Kept held.own u w → Mid w
    Goes : (w : Channels) → HalfTo held.own u w → times_end (held_at held.own w) tries w ≡ w → Mid w
    Both : (w : Channels) → Whole held.own tries u w → Mid w

  if_mid : (one other : Channels) (b : Bool) → Mid one → Mid other → Mid (cond b one other)
  if_mid one other true this that = this
  if_mid one other false this that = that

  stays_mid : Mid u
  stays_mid = Rests u refl refl same_kept

  close_mid : (reason : CloseReason) (stage : Stage) → is_some (setup_of stage) ≡ true → Mid (closes_at stage reason held u)
  close_mid reason (Requested request) some = cc
  close_mid reason (Connected peer setup) some =
      let errand = errands.Disconnection held.own in
      let w = closes_at (Connected peer setup) reason held u in
      let after : Held = record held { stage = Closing peer (new_request u) (has_fcs_by setup) } in
      let there = found-placed after held u.held found in
      let kept_queue = clear_copies held.own (errands.Configuration held.own) u.queue (configuration_apart held.own) clear in
      let asked = filter (λ waiting. not (is_copy errand waiting)) (filter (λ waiting. not (is_copy (errands.Configuration held.own) waiting)) u.queue) in
      let due_now : is_due errand w ≡ true = any-last errand errand asked ∙ (ap (λ b. list_any (is_copy errand) asked || b) (eqb-same held.own) ∙ or_on (list_any (is_copy errand) asked)) in
      Goes w (record {
        asks = Ask errand ∷ [];
        queue_is = ap (λ (queue : List Queued). filter (λ waiting. not (is_copy errand waiting)) queue ++ Ask errand ∷ []) kept_queue
            ∙ ap (λ (queue : List Queued). queue ++ Ask errand ∷ []) (clear_copies held.own errand u.queue (disconnection_apart held.own) clear);
        about = (eqb-same held.own, tt);
        told = closed-said held.own u w refl (newest-last asked errand) ∙ sym (append-nil (said_of (Some errand) w));
        due = (ap (λ (h : Option Held). is_some (on_held (λ x. disconnection_at x.stage x) h)) there, tt);
        kept = placed_kept w after refl refl refl;
      }) (ap (λ f. times_end f tries w) there ∙ still_due tries errand (new_request u) (loses_end after) w due_now)
    where
      or_on : (b : Bool) → (b || true) ≡ true
      or_on true = refl
      or_on false = refl
  close_mid reason (Leaving peer setup request) some =
      let w = closes_at (Leaving peer setup request) reason held u in
      let after : Held = record held { stage = Closing peer request (has_fcs_by setup) } in
      Rests w refl (clear_copies held.own (errands.Configuration held.own) u.queue (configuration_apart held.own) clear) (placed_kept w after refl refl refl)
  close_mid reason (Closing peer request checked) some = cc
  close_mid reason (Crossed peer request) some = cc

  carrier_mid : (setup : Setup) (carrier : Option Carrier) → is_some (setup_of held.stage) ≡ true → Mid (times_carrier carrier held setup u)
  carrier_mid setup None some = stays_mid
  carrier_mid setup (Some (Plain agreed waiting)) some = stays_mid
  carrier_mid setup (Some (Retransmitting machine)) some = by (timed machine).closed
    where
      by : (closed : Option ErtmReason) → Mid (settles_machine closed (timed machine) held setup u)
      by None = let after : Setup = record setup { carrier = Some (Retransmitting (timed machine)) } in Rests (to_setup held after u) refl refl (placed_kept (to_setup held after u) (with_setup held after) refl refl refl)
      by (Some reason) = close_mid (reason_of reason) held.stage some

  setup_mid : (setup : Setup) (own : Own) → setup.own ≡ own → is_some (setup_of held.stage) ≡ true → (own_waits own ≡ true → is_some (configuration_at held.stage) ≡ true) → (own_waits own ≡ true → (w : Channels) → w.held ≡ u.held → times_end (held_at held.own w) tries w ≡ w)
      → Mid (times_setup own tries held setup u)
  setup_mid setup Unasked own_is some asked ending = carrier_mid setup setup.carrier some
  setup_mid setup (Asking request options) own_is some asked ending =
      let errand = errands.Configuration held.own in
      let was = own_due errand (configuration_apart held.own) in
      let w = queued (Ask errand) u in
      subst Mid (sym (not-due tries errand request (closes RetryLimit held) u was))
      (if_mid (closes RetryLimit held u) w (nat_le tries request.given) (close_mid RetryLimit held.stage some)
      (Goes w (half_again held.own u errand (eqb-same held.own) lone (ap (λ (h : Option Held). is_some (on_held (λ x. configuration_at x.stage) h)) found ∙ asked refl) (again-configuration held.own u was)) (ending refl w refl)))
  setup_mid setup Granted own_is some asked ending = carrier_mid setup setup.carrier some

  -- the end of a channel that is there is not asked for
  no_end : (stage : Stage) → held.stage ≡ stage → disconnection_at stage held ≡ None → (w : Channels) → w.held ≡ u.held → times_end (held_at held.own w) tries w ≡ w
  no_end stage is none w same = ap (λ f. times_end f tries w) (ap (find (has_own held.own)) same ∙ found) ∙ (ap (λ s. times_end_at s tries held w) is ∙ by stage none)
    where
      by : (s : Stage) → disconnection_at s held ≡ None → times_end_at s tries held w ≡ w
      by (Requested request) nothing = refl
      by (Connected peer setup) nothing = refl
      by (Leaving peer setup request) nothing = cc
      by (Closing peer request checked) nothing = cc
      by (Crossed peer request) nothing = cc

  asked_at : (own : Own) (peer : ℕ) → own_waits own ≡ true → is_some (configuration_by own peer) ≡ true
  asked_at Unasked peer is = cc
  asked_at (Asking request options) peer is = refl
  asked_at Granted peer is = cc

  -- the options of a channel on its way out are asked for once more, and so is its end
  asks_both : (peer : ℕ) (setup : Setup) (end asked : Request) (options : Options) → held.stage ≡ Leaving peer setup end → setup.own ≡ Asking asked options → nat_le tries end.given ≡ false → Mid (queued (Ask (errands.Configuration held.own)) u)
  asks_both peer setup end asked options is own_is more =
      let first = errands.Configuration held.own in
      let last = errands.Disconnection held.own in
      let w = queued (Ask first) u in
      let x = queued (Ask last) w in
      let was = own_due first (configuration_apart held.own) in
      let then : is_due last w ≡ false = any-last last first u.queue ∙ ap (λ b. b || false) (own_due last (disconnection_apart held.own)) in
      let ends : times_end (held_at held.own w) tries w ≡ x =
      ap (λ (f : Option Held). times_end f tries w) found ∙ (ap (λ s. times_end_at s tries held w) is ∙ (not-due tries last end (ends RetryLimit held) w then ∙ ap (λ b. cond b (ends RetryLimit held w) x) more)) in
      let asks_first : is_some (command_of first x) ≡ true = ap (λ (h : Option Held). is_some (on_held (λ y. configuration_at y.stage) h)) found ∙ (ap (λ s. is_some (configuration_at s)) is ∙ ap (λ o. is_some (configuration_by o peer)) own_is) in
      let asks_last : is_some (command_of last x) ≡ true = ap (λ (h : Option Held). is_some (on_held (λ y. disconnection_at y.stage y) h)) found ∙ ap (λ s. is_some (disconnection_at s held)) is in
      let whole : Half held.own u x (said_on_firing held.own u w ++ said_on_firing held.own w x) = record {
        asks = Ask first ∷ Ask last ∷ [];
        queue_is = append_assoc u.queue (Ask first ∷ []) (Ask last ∷ []);
        about = (eqb-same held.own, (eqb-same held.own, tt));
        told = spoken-both (said_on_firing held.own u w) (said_on_firing held.own w x)
            ∙ ap₂ (λ (a b : List Saying). a ++ b) (again-configuration held.own u was) (again-disconnection held.own w then ∙ sym (append-nil (said_of (Some last) x)));
        due = (asks_first, (asks_last, tt));
        kept = record { others = λ other apart. refl; features_is = refl; lone = lone };
      } in
      Both w (subst (λ (y : Channels). Half held.own u y (said_on_firing held.own u w ++ said_on_firing held.own w y)) (sym ends) whole)

  leaving_mid : (peer : ℕ) (setup : Setup) (end : Request) (own : Own) → held.stage ≡ Leaving peer setup end → setup.own ≡ own → IsSteadyOwn tries end own → Mid (times_setup own tries held setup u)
  leaving_mid peer setup end Unasked is own_is steady = carrier_mid setup setup.carrier (ap (λ s. is_some (setup_of s)) is)
  leaving_mid peer setup end (Asking asked options) is own_is steady =
      let errand = errands.Configuration held.own in
      subst Mid (sym (not-due tries errand asked (closes RetryLimit held) u (own_due errand (configuration_apart held.own)))) (by (nat_le tries asked.given) refl)
    where
      may : nat_le tries asked.given ≡ false → nat_le tries end.given ≡ false
      may off = on (nat_le tries end.given) refl
        where
          on : (b : Bool) → nat_le tries end.given ≡ b → nat_le tries end.given ≡ false
          on true full = let never : true ≡ false = sym (steady full) ∙ off in absurd cc
          on false open' = open'

      by : (b : Bool) → nat_le tries asked.given ≡ b → Mid (cond b (closes RetryLimit held u) (queued (Ask (errands.Configuration held.own)) u))
      by true full = close_mid RetryLimit held.stage (ap (λ s. is_some (setup_of s)) is)
      by false more = asks_both peer setup end asked options is own_is (may more)
  leaving_mid peer setup end Granted is own_is steady = carrier_mid setup setup.carrier (ap (λ s. is_some (setup_of s)) is)

  pub stage-mid : (stage : Stage) → held.stage ≡ stage → ((peer : ℕ) (setup : Setup) (request : Request) → stage ≡ Leaving peer setup request → IsSteadyOwn tries request setup.own) → Mid (times_stage stage tries held u)
  stage-mid (Requested request) is steady =
      let errand = errands.Connection held.own in
      let was = own_due errand (connection_apart held.own) in
      let w = queued (Ask errand) u in
      let over = closes_at (Requested request) RetryLimit held u in
      subst Mid (sym (not-due tries errand request (closes RetryLimit held) u was))
      (if_mid (closes RetryLimit held u) w (nat_le tries request.given)
      (subst (λ s. Mid (closes_at s RetryLimit held u)) (sym is) (Rests over refl (clear_gone held.own u.queue clear) (gone_kept over refl refl)))
      (Goes w (half_again held.own u errand (eqb-same held.own) lone (ap (λ (h : Option Held). is_some (on_held (λ x. connection_at x.stage x) h)) found ∙ ap (λ s. is_some (connection_at s held)) is) (again-connection held.own u was))
      (no_end (Requested request) is refl w refl)))
  stage-mid (Connected peer setup) is steady =
      setup_mid setup setup.own refl (ap (λ s. is_some (setup_of s)) is) (λ waits. ap (λ s. is_some (configuration_at s)) is ∙ asked_at setup.own peer waits) (λ waits w same. no_end (Connected peer setup) is refl w same)
  stage-mid (Leaving peer setup request) is steady = leaving_mid peer setup request setup.own is refl (steady peer setup request refl)
  stage-mid (Closing peer request checked) is steady = stays_mid
  stage-mid (Crossed peer request) is steady = stays_mid
