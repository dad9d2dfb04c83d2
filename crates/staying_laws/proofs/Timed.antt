-- The timer leaves a channel of a host one that it did not close.
use Rattle.std.proofs.Common.{◌≡◌, ◌<◌, ℕ, List, [], ◌∷◌, Bool, true, false, cond, eqb, Option, Some, None, refl, sym, ap, subst, ◌∙◌, arith}
use Rattle.std.specs.Prelude.{nat_le}
use Rattle.std.specs.List.{AllByRecursion}
use Rattle.std.proofs.lemmas.Bool.{eqb-true, leb-true}
use Rattle.channel_laws.specs.ertm_model.specs.declared.reason.ErtmReason.{ErtmReason}
use Rattle.channel_laws.specs.ertm_model.specs.declared.reason.ErtmReason.TheVariants.{RetryLimit}
use Rattle.channel_laws.specs.ertm_model.specs.Giving.{closing, polling, first_poll, poll_timed, open_timed, timed}
use Rattle.channel_laws.specs.ertm_model.specs.Value.{Kept, Poll, NoPoll, Due, Waits, Ertm}
use Rattle.channel_laws.specs.channel_model.specs.declared.errand.Errand.{Errand}
use Rattle.channel_laws.specs.channel_model.specs.declared.errand.Errand.TheVariants as errands
use Rattle.channel_laws.specs.channel_model.specs.declared.event.CloseReason.TheVariants as reasons
use Rattle.channel_laws.specs.channel_model.specs.Asking.{StillDue, OnceMore, Spent}
use Rattle.channel_laws.specs.channel_model.specs.Calls.{setup_on}
use Rattle.channel_laws.specs.channel_model.specs.Carrying.{settles_machine}
use Rattle.channel_laws.specs.channel_model.specs.Changing.{has_own, held_at, is_due, setup_of, stage_with}
use Rattle.channel_laws.specs.channel_model.specs.Closing.{closes, closes_at, ends, ends_at}
use Rattle.channel_laws.specs.channel_model.specs.Timing.{fires, times, times_carrier, times_setup, times_stage, times_held, loses_end, times_end_at, times_end, loses_features, times_features, times_channels}
use Rattle.channel_laws.specs.channel_model.specs.Value.{Request, Own, Unasked, Asking, Granted, Carrier, Plain, Retransmitting, Setup, Stage, Requested, Connected, Leaving, Closing, Crossed, Held, Channels}
use Rattle.channel_laws.specs.channel_model.proofs.Going.{staged}
use Rattle.channel_laws.specs.channel_model.proofs.Lookups.{own_of, Distinct, eqb-same, found-has}
use Rattle.lasting_laws.specs.Lasting.{OutlastsTimer, IsUnspent}
use Rattle.lasting_laws.proofs.Kept.{all-placed, all-left, all-found}
use Rattle.lasting_laws.proofs.Timed.{StageLasts, each-found}
use Rattle.staying_laws.specs.Stays.{IsKept, KeptAt, AllKept}
use Rattle.staying_laws.proofs.Kept.{kept-with}

-- ---- a machine that outlasts the timer does so again

outlasts_again : (m : Ertm) → (timed m).closed ≡ None → (timed (timed m)).closed ≡ None
outlasts_again m out = by m.closed refl
  where
    -- as it is, or with a poll to give
    same : timed m ≡ m → (timed (timed m)).closed ≡ None
    same is = ap (λ (x : Ertm). (timed x).closed) is ∙ out

    polled : m.closed ≡ None → timed m ≡ polling m → (timed (timed m)).closed ≡ None
    polled open' is = ap (λ (x : Ertm). (timed x).closed) is ∙ (ap (λ s. (open_timed s (polling m)).closed) open' ∙ open')

    first : m.closed ≡ None → m.sender.poll ≡ NoPoll → (unacked : List Kept) → m.sender.unacked ≡ unacked → (timed (timed m)).closed ≡ None
    first open' poll [] none = same (ap (λ s. open_timed s m) open' ∙ (ap (λ q. poll_timed q m) poll ∙ ap (λ u. first_poll u m) none))
    first open' poll (kept ∷ behind) some = polled open' (ap (λ s. open_timed s m) open' ∙ (ap (λ q. poll_timed q m) poll ∙ ap (λ u. first_poll u m) some))

    late : m.closed ≡ None → m.sender.poll ≡ Waits → (spent : Bool) → nat_le m.agreed.tries m.sender.polls ≡ spent → (timed (timed m)).closed ≡ None
    late open' poll true spent =
        let now : timed m ≡ closing RetryLimit m = ap (λ s. open_timed s m) open' ∙ (ap (λ q. poll_timed q m) poll ∙ ap (λ b. cond b (closing RetryLimit m) (polling m)) spent) in
        let never : None ≡ Some RetryLimit = sym out ∙ ap (λ (x : Ertm). x.closed) now in absurd cc
    late open' poll false spent = polled open' (ap (λ s. open_timed s m) open' ∙ (ap (λ q. poll_timed q m) poll ∙ ap (λ b. cond b (closing RetryLimit m) (polling m)) spent))

    by_poll : m.closed ≡ None → (poll : Poll) → m.sender.poll ≡ poll → (timed (timed m)).closed ≡ None
    by_poll open' NoPoll is = first open' is m.sender.unacked refl
    by_poll open' Due is = same (ap (λ s. open_timed s m) open' ∙ ap (λ q. poll_timed q m) is)
    by_poll open' Waits is = late open' is (nat_le m.agreed.tries m.sender.polls) refl

    by : (shut : Option ErtmReason) → m.closed ≡ shut → (timed (timed m)).closed ≡ None
    by (Some reason) is = same (ap (λ s. open_timed s m) is)
    by None is = by_poll is m.sender.poll refl

-- ---- a channel of an endpoint

module _ (tries mine : ℕ) where
  abbrev pub LastsAt : Held → Type 0
  LastsAt held = held.own ≡ mine → IsKept held.stage × StageLasts tries held.stage

  abbrev pub AllLast : Channels → Type 0
  AllLast v = AllByRecursion LastsAt v.held

  kept_each : (hs : List Held) → AllByRecursion LastsAt hs → AllByRecursion (KeptAt mine) hs
  kept_each [] all = tt
  kept_each (h ∷ hs) all = ((λ same. (all.0 same).0), kept_each hs all.1)

  pub all-kept : (v : Channels) → AllLast v → AllKept mine v
  all-kept v all = kept_each v.held all

  pub all-last : (v : Channels) → Distinct own_of v.held → AllKept mine v → ((setup : Setup) → setup_on (held_at mine v) ≡ Some setup → IsUnspent tries setup.own setup.carrier) → AllLast v
  all-last v lone all unspent = each-found LastsAt v.held lone (λ own held found same. (all-found (KeptAt mine) (has_own own) v.held held all found same, at held held.stage refl (subst (λ n. held_at n v ≡ Some held) (sym (found-has own_of own v.held held found) ∙ same) found)))
    where
      at : (held : Held) (stage : Stage) → held.stage ≡ stage → held_at mine v ≡ Some held → StageLasts tries stage
      at held (Requested request) is found = tt
      at held (Connected peer setup) is found = unspent setup (ap setup_on found ∙ ap setup_of is)
      at held (Leaving peer setup request) is found = unspent setup (ap setup_on found ∙ ap setup_of is)
      at held (Closing peer request checked) is found = tt
      at held (Crossed peer request) is found = tt

  -- ---- another one

  closed_apart : (v : Channels) (held : Held) (stage : Stage) (reason : _) → (held.own ≡ mine → ⊥) → AllLast v → AllLast (closes_at stage reason held v)
  closed_apart v held (Requested request) reason apart all = all-left LastsAt _ v.held all
  closed_apart v held (Connected peer setup) reason apart all = all-placed LastsAt (staged held _) v.held (λ same. absurd (apart same)) all
  closed_apart v held (Leaving peer setup request) reason apart all = all-placed LastsAt (staged held _) v.held (λ same. absurd (apart same)) all
  closed_apart v held (Closing peer request checked) reason apart all = all
  closed_apart v held (Crossed peer request) reason apart all = all

  with_lasts : (stage : Stage) (setup : Setup) → IsUnspent tries setup.own setup.carrier → StageLasts tries (stage_with setup stage)
  with_lasts (Requested request) setup lasts = tt
  with_lasts (Connected peer s) setup lasts = lasts
  with_lasts (Leaving peer s request) setup lasts = lasts
  with_lasts (Closing peer request checked) setup lasts = tt
  with_lasts (Crossed peer request) setup lasts = tt

  -- its timer fired
  machine_timed : (v : Channels) (held : Held) (setup : Setup) (m : Ertm) → setup.carrier ≡ Some (Retransmitting m) → OutlastsTimer setup.carrier → ((request : Request) (options : _) → setup.own ≡ Asking request options → ⊥) → IsKept held.stage → AllLast v
      → AllLast (settles_machine (timed m).closed (timed m) held setup v)
  machine_timed v held setup m is outlasts unasked kept all =
      let after : Setup = record setup { carrier = Some (Retransmitting (timed m)) } in
      let open' : (timed m).closed ≡ None = outlasts m is in
      let later : OutlastsTimer (Some (Retransmitting (timed m))) = λ n same. subst (λ (x : Ertm). (timed x).closed ≡ None) (let one : timed m ≡ n = cc in one) (outlasts_again m open') in
      subst (λ (c : Option ErtmReason). AllLast (settles_machine c (timed m) held setup v)) (sym open')
      (all-placed (LastsAt) (staged held (stage_with after held.stage)) v.held (λ same. (kept-with after held.stage kept, with_lasts held.stage after (by setup.own refl later))) all)
    where
      by : (own : Own) → setup.own ≡ own → OutlastsTimer (Some (Retransmitting (timed m))) → IsUnspent tries setup.own (Some (Retransmitting (timed m)))
      by Unasked same later = subst (λ o. IsUnspent tries o (Some (Retransmitting (timed m)))) (sym same) later
      by (Asking request options) same later = absurd (unasked request options same)
      by Granted same later = subst (λ o. IsUnspent tries o (Some (Retransmitting (timed m)))) (sym same) later

  carrier_timed : (v : Channels) (held : Held) (setup : Setup) (carrier : Option Carrier) → setup.carrier ≡ carrier → OutlastsTimer setup.carrier → ((request : Request) (options : _) → setup.own ≡ Asking request options → ⊥) → IsKept held.stage → AllLast v → AllLast (times_carrier carrier held setup v)
  carrier_timed v held setup None is outlasts unasked kept all = all
  carrier_timed v held setup (Some (Plain agreed waiting)) is outlasts unasked kept all = all
  carrier_timed v held setup (Some (Retransmitting m)) is outlasts unasked kept all = machine_timed v held setup m is outlasts unasked kept all

  -- a request that is not spent waits on
  waits_on : (v : Channels) (errand : Errand) (request : Request) (spent : Channels → Channels) → request.given < tries → AllLast v → AllLast (times tries errand request spent v)
  waits_on v errand request spent less all = by (is_due errand v) (nat_le tries request.given) refl
    where
      by : (due most : Bool) → nat_le tries request.given ≡ most → AllLast (fires (cond due StillDue (cond most Spent OnceMore)) errand spent v)
      by true most is = all
      by false true is = let high = leb-true tries request.given is in absurd (omega (arith, high, less))
      by false false is = all

  -- or what becomes of it
  waits_or : (v : Channels) (errand : Errand) (request : Request) (spent : Channels → Channels) → AllLast (spent v) → AllLast v → AllLast (times tries errand request spent v)
  waits_or v errand request spent gone all = by (is_due errand v) (nat_le tries request.given)
    where
      by : (due most : Bool) → AllLast (fires (cond due StillDue (cond most Spent OnceMore)) errand spent v)
      by true most = all
      by false true = gone
      by false false = all

  setup_timed : (v : Channels) (held : Held) (setup : Setup) (own : Own) → setup.own ≡ own → IsUnspent tries own setup.carrier → IsKept held.stage → AllLast v → AllLast (times_setup own tries held setup v)
  setup_timed v held setup Unasked is lasts kept all = carrier_timed v held setup setup.carrier refl lasts (λ request options asks. let never : Unasked ≡ Asking request options = sym is ∙ asks in cc) kept all
  setup_timed v held setup (Asking request options) is lasts kept all = waits_on v (errands.Configuration held.own) request (closes reasons.RetryLimit held) lasts all
  setup_timed v held setup Granted is lasts kept all = carrier_timed v held setup setup.carrier refl lasts (λ request options asks. let never : Granted ≡ Asking request options = sym is ∙ asks in cc) kept all

  -- of another one the machine may close, and the request may be spent
  carrier_apart : (v : Channels) (held : Held) (setup : Setup) (carrier : Option Carrier) → (held.own ≡ mine → ⊥) → AllLast v → AllLast (times_carrier carrier held setup v)
  carrier_apart v held setup None apart all = all
  carrier_apart v held setup (Some (Plain agreed waiting)) apart all = all
  carrier_apart v held setup (Some (Retransmitting m)) apart all = by (timed m).closed
    where
      by : (shut : Option ErtmReason) → AllLast (settles_machine shut (timed m) held setup v)
      by None = all-placed LastsAt (staged held _) v.held (λ same. absurd (apart same)) all
      by (Some reason) = closed_apart v held held.stage _ apart all

  setup_apart : (v : Channels) (held : Held) (setup : Setup) (own : Own) → (held.own ≡ mine → ⊥) → AllLast v → AllLast (times_setup own tries held setup v)
  setup_apart v held setup Unasked apart all = carrier_apart v held setup setup.carrier apart all
  setup_apart v held setup (Asking request options) apart all = waits_or v (errands.Configuration held.own) request (closes reasons.RetryLimit held) (closed_apart v held held.stage _ apart all) all
  setup_apart v held setup Granted apart all = carrier_apart v held setup setup.carrier apart all

  stage_apart : (v : Channels) (held : Held) (stage : Stage) → (held.own ≡ mine → ⊥) → AllLast v → AllLast (times_stage stage tries held v)
  stage_apart v held (Requested request) apart all = waits_or v (errands.Connection held.own) request (closes reasons.RetryLimit held) (closed_apart v held held.stage _ apart all) all
  stage_apart v held (Connected peer setup) apart all = setup_apart v held setup setup.own apart all
  stage_apart v held (Leaving peer setup request) apart all = setup_apart v held setup setup.own apart all
  stage_apart v held (Closing peer request checked) apart all = all
  stage_apart v held (Crossed peer request) apart all = all

  pub held-timed : (own : ℕ) (v : Channels) → AllLast v → AllLast (times_held (held_at own v) tries v)
  held-timed own v all = by (held_at own v) refl
    where
      at : (held : Held) (stage : Stage) → held.stage ≡ stage → IsKept stage × StageLasts tries stage → AllLast (times_stage stage tries held v)
      at held (Requested request) is so = waits_or v (errands.Connection held.own) request (closes reasons.RetryLimit held) (subst (λ s. AllLast (closes_at s reasons.RetryLimit held v)) (sym is) (all-left LastsAt _ v.held all)) all
      at held (Connected peer setup) is so = setup_timed v held setup setup.own refl so.1 (subst IsKept (sym is) so.0) all
      at held (Leaving peer setup request) is so = setup_timed v held setup setup.own refl so.1 (subst IsKept (sym is) so.0) all
      at held (Closing peer request checked) is so = all
      at held (Crossed peer request) is so = all

      either : (held : Held) → LastsAt held → (here : Bool) → eqb held.own mine ≡ here → AllLast (times_stage held.stage tries held v)
      either held so true is = at held held.stage refl (so (eqb-true held.own mine is))
      either held so false is = stage_apart v held held.stage (λ same. let never : false ≡ true = sym is ∙ (ap (λ n. eqb n mine) same ∙ eqb-same mine) in cc) all

      by : (held : Option Held) → held_at own v ≡ held → AllLast (times_held held tries v)
      by None found = all
      by (Some held) found = either held (all-found LastsAt (has_own own) v.held held all found) (eqb held.own mine) refl

  pub end-timed : (own : ℕ) (v : Channels) → AllLast v → AllLast (times_end (held_at own v) tries v)
  end-timed own v all = by (held_at own v)
    where
      at : (held : Held) (stage : Stage) → held.stage ≡ stage → AllLast (times_end_at stage tries held v)
      at held (Requested request) is = all
      at held (Connected peer setup) is = all
      at held (Leaving peer setup request) is = waits_or v (errands.Disconnection held.own) request (ends reasons.RetryLimit held) (subst (λ s. AllLast (ends_at s reasons.RetryLimit held v)) (sym is) (all-left (LastsAt) _ v.held all)) all
      at held (Closing peer request checked) is = waits_or v (errands.Disconnection held.own) request (loses_end held) (subst (λ s. AllLast (ends_at s reasons.RetryLimit held v)) (sym is) (all-left (LastsAt) _ v.held all)) all
      at held (Crossed peer request) is = waits_or v (errands.Disconnection held.own) request (loses_end held) (subst (λ s. AllLast (ends_at s reasons.RetryLimit held v)) (sym is) (all-left (LastsAt) _ v.held all)) all

      by : (held : Option Held) → AllLast (times_end held tries v)
      by None = all
      by (Some held) = at held held.stage refl

  pub features-timed : (v : Channels) → AllLast v → AllLast (times_features v.features tries v)
  features-timed v all = by v.features
    where
      by : (features : Option Request) → AllLast (times_features features tries v)
      by None = all
      by (Some request) = waits_or v errands.Features request loses_features all all

  pub channels-timed : (owns : List ℕ) (v : Channels) → AllLast v → AllLast (times_channels tries owns v)
  channels-timed [] v all = all
  channels-timed (own ∷ owns) v all =
      let u : Channels = times_held (held_at own v) tries v in
      channels-timed owns (times_end (held_at own u) tries u) (end-timed own u (held-timed own v all))
