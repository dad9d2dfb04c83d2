-- What the timer of a host makes of the machine of an open channel.
use Rattle.std.proofs.Common.{◌≡◌, ℕ, ◌≤◌, List, [], ◌∷◌, length, Bool, true, false, cond, eqb, ◌&&◌, Option, Some, None, is_some, refl, sym, ap, subst, ◌∙◌, ◌⊎◌, inl, inr, arith}
use Rattle.std.specs.Prelude.{find, map, nat_le}
use Rattle.std.proofs.lemmas.Bool.{eqb-true}
use Rattle.channel_laws.specs.ertm_model.specs.declared.reason.ErtmReason.{ErtmReason}
use Rattle.channel_laws.specs.ertm_model.specs.declared.reason.ErtmReason.TheVariants.{RetryLimit}
use Rattle.channel_laws.specs.ertm_model.specs.Value.{Kept, NoPoll, Waits, Ertm}
use Rattle.channel_laws.specs.ertm_model.specs.Giving.{giving, closing, polling, first_poll, poll_timed, open_timed, timed}
use Rattle.channel_laws.specs.ertm_model.proofs.Resting.{at_rest, silent}
use Rattle.channel_laws.specs.channel_model.specs.Value.{Own, Unasked, Asking, Granted, Carrier, Plain, Retransmitting, Setup, Stage, Requested, Connected, Leaving, Closing, Crossed, Held, Channels}
use Rattle.channel_laws.specs.channel_model.specs.Policies.{Policy}
use Rattle.channel_laws.specs.channel_model.specs.Changing.{has_own, held_at, is_granted, is_open, setup_of}
use Rattle.channel_laws.specs.channel_model.specs.Carrying.{settles_machine}
use Rattle.channel_laws.specs.channel_model.specs.Calls.{setup_on, carrier_at}
use Rattle.channel_laws.specs.channel_model.specs.Timing.{times_carrier, times_setup, times_stage, times_held, times_end, times_channel, times_channels, timed_out}
use Rattle.channel_laws.specs.channel_model.proofs.Calling.{Firing, timed-held, ended-held, features-timed}
use Rattle.channel_laws.specs.channel_model.proofs.Going.{Walks}
use Rattle.channel_laws.specs.channel_model.proofs.Lookups.{own_of, found-has}
use Rattle.channel_laws.specs.channel_model.proofs.Walking.{found-own}
use Rattle.channel_laws.specs.Runs.{run_of}
use Rattle.channel_laws.specs.Signals.{StandsIn}
use Rattle.channel_laws.proofs.Joining.{IsBelow, held-also}
use Rattle.channel_laws.proofs.Keeping.{StageKeeps, HeldKeeps, AllKeep, KeepsOn, walks-keep}
use Rattle.channel_laws.proofs.Partaking.{kept-on}
use Rattle.channel_laws.proofs.Running.{all-sound}
use Rattle.recovered_laws.proofs.Twins.{OfEnd, On, Here, here_at, Its, spread, Goes, Follows, walks-on, stays_open}
use Rattle.recovered_laws.proofs.Turning.{timed-twice}
use Rattle.recovered_laws.proofs.Doing.{placed, here-on, same_stage, closed_here}
use Rattle.recovered_laws.proofs.Settling.{OpenAt, open-at}
use Rattle.recovery_laws.specs.Number.{is_due}
use Rattle.passing_laws.specs.Words.{carrier_polls, setup_polls, polls_at}
use Rattle.passing_laws.specs.Timers.{TimersPoll}

module _ (policy : Policy) (own : ℕ) (m : Ertm) where
  -- it is as it was, or its timer fired
  abbrev Was : OfEnd
  Was opened carrier = (opened ≡ true) × ((carrier ≡ Some (Retransmitting m)) ⊎ (carrier ≡ Some (Retransmitting (timed m))))

  -- its timer fired, and left it open
  abbrev Is : OfEnd
  Is opened carrier = (opened ≡ true) × (carrier ≡ Some (Retransmitting (timed m))) × ((timed m).closed ≡ None)

  again : (k : Ertm) → k ≡ timed m → timed k ≡ timed m
  again k is = ap timed is ∙ timed-twice m

  was_goes : (before after : Carrier) → Goes true before after → (Some before ≡ Some (Retransmitting m)) ⊎ (Some before ≡ Some (Retransmitting (timed m))) → (Some after ≡ Some (Retransmitting m)) ⊎ (Some after ≡ Some (Retransmitting (timed m)))
  was_goes (Plain a waiting) after goes (inl is) = cc
  was_goes (Plain a waiting) after goes (inr is) = cc
  was_goes (Retransmitting k) (Plain b waiting) goes is = elim goes [ ]
  was_goes (Retransmitting k) (Retransmitting after) (inl same) (inl is) = inl (ap (λ (x : Ertm). Some (Retransmitting x)) same ∙ is)
  was_goes (Retransmitting k) (Retransmitting after) (inl same) (inr is) = inr (ap (λ (x : Ertm). Some (Retransmitting x)) same ∙ is)
  was_goes (Retransmitting k) (Retransmitting after) (inr (fired, now, open')) (inl is) = let one : k ≡ m = cc in inr (ap (λ (x : Ertm). Some (Retransmitting x)) (now ∙ ap timed one))
  was_goes (Retransmitting k) (Retransmitting after) (inr (fired, now, open')) (inr is) = let one : k ≡ timed m = cc in inr (ap (λ (x : Ertm). Some (Retransmitting x)) (now ∙ again k one))

  was_follows : Follows true (Was)
  was_follows wish opened after_opened None after shut goes (now, inl is) = cc
  was_follows wish opened after_opened None after shut goes (now, inr is) = cc
  was_follows wish opened after_opened (Some before) None shut goes h = elim goes [ ]
  was_follows wish opened after_opened (Some before) (Some after) shut (inl goes) (now, is) = (stays_open opened after_opened shut now, was_goes before after goes is)
  was_follows wish opened after_opened (Some before) (Some after) shut (inr (closed, accepted)) (now, is) = let never : true ≡ false = sym now ∙ closed in absurd cc

  is_goes : (before after : Carrier) → Goes true before after → Some before ≡ Some (Retransmitting (timed m)) → Some after ≡ Some (Retransmitting (timed m))
  is_goes (Plain a waiting) after goes is = cc
  is_goes (Retransmitting k) (Plain b waiting) goes is = elim goes [ ]
  is_goes (Retransmitting k) (Retransmitting after) (inl same) is = ap (λ (x : Ertm). Some (Retransmitting x)) same ∙ is
  is_goes (Retransmitting k) (Retransmitting after) (inr (fired, now, open')) is = let one : k ≡ timed m = cc in ap (λ (x : Ertm). Some (Retransmitting x)) (now ∙ again k one)

  is_follows : Follows true (Is)
  is_follows wish opened after_opened None after shut goes (now, is, open') = cc
  is_follows wish opened after_opened (Some before) None shut goes h = elim goes [ ]
  is_follows wish opened after_opened (Some before) (Some after) shut (inl goes) (now, is, open') = (stays_open opened after_opened shut now, is_goes before after goes is, open')
  is_follows wish opened after_opened (Some before) (Some after) shut (inr (closed, accepted)) (now, is, open') = let never : true ≡ false = sym now ∙ closed in absurd cc

  -- ---- over the steps of a firing

  abbrev All : OfEnd → Channels → Type 0
  All Q v = AllKeep policy (Its own Q) v

  all_of : (Q : OfEnd) (v : Channels) → IsBelow v → Here policy own Q v → All Q v
  all_of Q v below h = record {
    at = λ other. spread policy own Q other (held_at other v) (λ same. subst (λ k. HeldKeeps policy (On Q) (held_at k v)) (sym same) h.held);
    fresh = λ other psm above same. h.before (subst (λ k. v.next ≤ k) same above);
    below = below;
  }

  here_of : (Q : OfEnd) (v : Channels) → All Q v → Here policy own Q v
  here_of Q v all = record {
    held = held-also policy (Its own Q own) (On Q) (λ wish leaving opened carrier is. is refl) (held_at own v) (all.at own);
    before = λ above. all.fresh own 0 above refl;
  }

  walks : (Q : OfEnd) → Follows true Q → Walks policy (Goes true) (KeepsOn policy (Its own Q))
  walks Q follows = walks-keep policy (Goes true) (Its own Q) (walks-on policy own Q true follows)

  firing : Firing (Goes true)
  firing machine open' = inr (refl, refl, open')

  held_step : (Q : OfEnd) → Follows true Q → (tries n : ℕ) (v : Channels) → All Q v → All Q (times_held (held_at n v) tries v)
  held_step Q follows tries n v all = timed-held policy (Goes true) (KeepsOn policy (Its own Q)) (walks Q follows) v tries n (held_at n v) firing refl all

  end_step : (Q : OfEnd) → Follows true Q → (tries n : ℕ) (v : Channels) → All Q v → All Q (times_end (held_at n v) tries v)
  end_step Q follows tries n v all = ended-held policy (Goes true) (KeepsOn policy (Its own Q)) (walks Q follows) v tries n (held_at n v) refl all

  channel_step : (Q : OfEnd) → Follows true Q → (tries n : ℕ) (v : Channels) → All Q v → All Q (times_channel tries n v)
  channel_step Q follows tries n v all = end_step Q follows tries n (times_held (held_at n v) tries v) (held_step Q follows tries n v all)

  -- ---- its own turn

  granted : (some : Bool) (request : Own) → (some && is_granted request) ≡ true → request ≡ Granted
  granted true Unasked is = cc
  granted true (Asking request options) is = cc
  granted true Granted is = refl
  granted false request is = cc

  settled : (v : Channels) (held : Held) (setup : Setup) (k : Ertm) → IsBelow v → find (has_own held.own) v.held ≡ Some held → setup_of held.stage ≡ Some setup → setup.own ≡ Granted → timed k ≡ timed m → (closed : Option ErtmReason) → (timed k).closed ≡ closed
      → Here policy held.own (Is) (settles_machine closed (timed k) held setup v)
  settled v held setup k below found has own_is same None open' =
      placed policy (Is) v held setup (record setup { carrier = Some (Retransmitting (timed k)) }) below found has (ap is_granted own_is, ap (λ (x : Ertm). Some (Retransmitting x)) same, ap (λ (x : Ertm). x.closed) (sym same) ∙ open')
  settled v held setup k below found has own_is same (Some reason) shut =
      let (keeps, next_is) = closed_here policy (Is) v held _ held.stage setup found has in
      record { held = keeps; before = λ above. let none : held_at held.own v ≡ None = below held.own (omega (arith, above, next_is)) in let never : None ≡ Some held = sym none ∙ found in absurd cc }

  on_setup : (v : Channels) (tries : ℕ) (held : Held) (setup : Setup) → IsBelow v → find (has_own held.own) v.held ≡ Some held → setup_of held.stage ≡ Some setup → Was (is_open setup) setup.carrier → Here policy held.own (Is) (times_setup setup.own tries held setup v)
  on_setup v tries held setup below found has (now, is) =
      let own_is : setup.own ≡ Granted = granted (is_some setup.carrier) setup.own now in
      subst (λ o. Here policy held.own (Is) (times_setup o tries held setup v)) (sym own_is) (by own_is is)
    where
      by : setup.own ≡ Granted → (setup.carrier ≡ Some (Retransmitting m)) ⊎ (setup.carrier ≡ Some (Retransmitting (timed m))) → Here policy held.own (Is) (times_carrier setup.carrier held setup v)
      by own_is (inl is) = subst (λ c. Here policy held.own (Is) (times_carrier c held setup v)) (sym is) (settled v held setup m below found has own_is refl (timed m).closed refl)
      by own_is (inr is) = subst (λ c. Here policy held.own (Is) (times_carrier c held setup v)) (sym is) (settled v held setup (timed m) below found has own_is (timed-twice m) (timed (timed m)).closed refl)

  over : (v : Channels) (held : Held) (stage : Stage) → IsBelow v → find (has_own held.own) v.held ≡ Some held → held.stage ≡ stage → StageKeeps (On (Is)) (policy.wish held.psm) stage → Here policy held.own (Is) v
  over v held stage below found is so = record {
    held = subst (HeldKeeps policy (On (Is))) (sym found) (subst (StageKeeps (On (Is)) (policy.wish held.psm)) (sym is) so);
    before = λ above. let none : held_at held.own v ≡ None = below held.own above in let never : None ≡ Some held = sym none ∙ found in absurd cc;
  }

  on_stage : (v : Channels) (tries : ℕ) (held : Held) (stage : Stage) → held.stage ≡ stage → IsBelow v → find (has_own held.own) v.held ≡ Some held → Here policy held.own (Was) v → Here policy held.own (Is) (times_stage stage tries held v)
  on_stage v tries held (Requested request) is below found h = let (never, rest) = here_at policy held.own (Was) v held (Requested request) found is h in absurd cc
  on_stage v tries held (Connected peer setup) is below found h = on_setup v tries held setup below found (ap setup_of is) (here-on policy (Was) v held setup found (ap setup_of is) h)
  on_stage v tries held (Leaving peer setup request) is below found h = on_setup v tries held setup below found (ap setup_of is) (here-on policy (Was) v held setup found (ap setup_of is) h)
  on_stage v tries held (Closing peer request checked) is below found h = over v held (Closing peer request checked) below found is tt
  on_stage v tries held (Crossed peer request) is below found h = over v held (Crossed peer request) below found is tt

  its_turn : (v : Channels) (tries : ℕ) → IsBelow v → Here policy own (Was) v → Here policy own (Is) (times_held (held_at own v) tries v)
  its_turn v tries below h = by (held_at own v) refl
    where
      by : (held : Option Held) → held_at own v ≡ held → Here policy own (Is) (times_held held tries v)
      by None is = record { held = subst (HeldKeeps policy (On (Is))) (sym is) tt; before = λ above. let (never, rest) = h.before above in absurd cc }
      by (Some held) is =
          let same : held.own ≡ own = found-has own_of own v.held held is in
          subst (λ k. Here policy k (Is) (times_stage held.stage tries held v)) same (on_stage v tries held held.stage refl below (found-own own v held is) (subst (λ k. Here policy k (Was) v) (sym same) h))

  -- ---- all channels

  channels_step : (tries : ℕ) (owns : List ℕ) (v : Channels) → (StandsIn own owns × All (Was) v) ⊎ All (Is) v → All (Is) (times_channels tries owns v)
  channels_step tries [] v (inl (stands, all)) = elim stands [ ]
  channels_step tries [] v (inr all) = all
  channels_step tries (n ∷ owns) v (inr all) = channels_step tries owns (times_channel tries n v) (inr (channel_step (Is) (is_follows) tries n v all))
  channels_step tries (n ∷ owns) v (inl (inr later, all)) = channels_step tries owns (times_channel tries n v) (inl (later, channel_step (Was) (was_follows) tries n v all))
  channels_step tries (n ∷ owns) v (inl (inl same, all)) =
      let u : Channels = times_held (held_at own v) tries v in
      let turned : All (Is) u = all_of (Is) u (held_step (Was) (was_follows) tries own v all).below (its_turn v tries all.below (here_of (Was) v all)) in
      channels_step tries owns (times_channel tries n v) (inr (subst (λ k. All (Is) (times_channel tries k v)) (sym same) (end_step (Is) (is_follows) tries own u turned)))

  named : (hs : List Held) (held : Held) → find (has_own own) hs ≡ Some held → StandsIn own (map (λ (h : Held). h.own) hs)
  named [] held is = cc
  named (h ∷ hs) held is = by (eqb h.own own) refl is (λ found. named hs held found)
    where
      by : (b : Bool) → eqb h.own own ≡ b → cond b (Some h) (find (has_own own) hs) ≡ Some held → (find (has_own own) hs ≡ Some held → StandsIn own (map (λ (x : Held). x.own) hs)) → StandsIn own (h.own ∷ map (λ (x : Held). x.own) hs)
      by true same found behind = inl (eqb-true h.own own same)
      by false other found behind = inr (behind found)

  pub fired-is : (v : Channels) → IsBelow v → carrier_at own v ≡ Some (Retransmitting m) → Here policy own (Is) (timed_out policy v)
  fired-is v below carries =
      let o : OpenAt own v (Retransmitting m) = open-at own v (Retransmitting m) carries in
      let u : Channels = times_channels policy.tries (map (λ (held : Held). held.own) v.held) v in
      let was : Here policy own (Was) v = record {
        held = subst (HeldKeeps policy (On (Was))) (sym o.found) (same_stage (Was) (policy.wish o.held.psm) o.held.stage o.setup o.has (o.opened, inl o.is));
        before = λ above. let none : held_at own v ≡ None = below own above in let never : None ≡ Some o.held = sym none ∙ o.found in absurd cc;
      } in
      here_of (Is) (timed_out policy v)
      (features-timed policy (Goes true) (KeepsOn policy (Its own (Is))) (walks (Is) (is_follows)) policy.tries u.features u
      (channels_step policy.tries (map (λ (held : Held). held.own) v.held) v (inl (named v.held o.held o.found, all_of (Was) v below was))))

-- ---- a machine that waits, or has frames that are not acknowledged

open_before : (m : Ertm) (closed : Option ErtmReason) → m.closed ≡ closed → (timed m).closed ≡ None → m.closed ≡ None
open_before m None is open' = is
open_before m (Some reason) is open' = let never : Some reason ≡ None = sym is ∙ (sym (ap (λ s. (open_timed s m).closed) is) ∙ open') in cc

timed_due : (m : Ertm) → giving m ≡ None → (m.sender.poll ≡ Waits) ⊎ (1 ≤ length m.sender.unacked) → (timed m).closed ≡ None → is_due (timed m).sender.poll ≡ true
timed_due m none wants open' = elim (at_rest m was_open (silent m none)).rests [ inl waits ↦ late waits (nat_le m.agreed.tries m.sender.polls) refl | inr (no_poll, others) ↦ first no_poll m.sender.unacked refl wants ]
  where
    was_open : m.closed ≡ None
    was_open = open_before m m.closed refl open'

    late : m.sender.poll ≡ Waits → (spent : Bool) → nat_le m.agreed.tries m.sender.polls ≡ spent → is_due (timed m).sender.poll ≡ true
    late waits true spent =
        let now : timed m ≡ closing RetryLimit m = ap (λ s. open_timed s m) was_open ∙ (ap (λ q. poll_timed q m) waits ∙ ap (λ b. cond b (closing RetryLimit m) (polling m)) spent) in
        let never : None ≡ Some RetryLimit = sym open' ∙ ap (λ (x : Ertm). x.closed) now in absurd cc
    late waits false spent = ap (λ (x : Ertm). is_due x.sender.poll) (ap (λ s. open_timed s m) was_open ∙ (ap (λ q. poll_timed q m) waits ∙ ap (λ b. cond b (closing RetryLimit m) (polling m)) spent))

    first : m.sender.poll ≡ NoPoll → (unacked : List Kept) → m.sender.unacked ≡ unacked → (m.sender.poll ≡ Waits) ⊎ (1 ≤ length m.sender.unacked) → is_due (timed m).sender.poll ≡ true
    first no_poll unacked is (inl waits) = let never : NoPoll ≡ Waits = sym no_poll ∙ waits in absurd cc
    first no_poll [] is (inr some) = let long = ap length is in absurd (omega (arith, some, long))
    first no_poll (kept ∷ behind) is (inr some) = ap (λ (x : Ertm). is_due x.sender.poll) (ap (λ s. open_timed s m) was_open ∙ (ap (λ q. poll_timed q m) no_poll ∙ ap (λ u. first_poll u m) is))

pub there_polls : (policy : Policy) (own : ℕ) (m : Ertm) (w : Channels) (setup : Setup) → giving m ≡ None → (m.sender.poll ≡ Waits) ⊎ (1 ≤ length m.sender.unacked) → setup_on (held_at own w) ≡ Some setup → Here policy own (Is policy own m) w → polls_at own w ≡ true
there_polls policy own m w setup none wants has h = by (held_at own w) refl has h.held
  where
    by : (held : Option Held) → held_at own w ≡ held → setup_on held ≡ Some setup → HeldKeeps policy (On (Is policy own m)) held → polls_at own w ≡ true
    by None found has so = cc
    by (Some held) found has so =
        let (opened, is, open') = kept-on (On (Is policy own m)) (policy.wish held.psm) held.stage setup has so in
        ap (λ h. setup_polls (setup_on h)) found ∙ (ap setup_polls has ∙ (ap carrier_polls is ∙ timed_due m none wants open'))

pub timers-poll : TimersPoll
timers-poll policy list own m setup carries none wants has =
    there_polls policy own m (timed_out policy (run_of policy list).value) setup none wants has (fired-is policy own m (run_of policy list).value (all-sound policy list).core.held_below carries)
