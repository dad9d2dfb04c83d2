-- What a host may be told stays so where its timer fires.
use Rattle.std.proofs.Common.{◌≡◌, ◌<◌, ◌≤◌, ℕ, List, [], ◌∷◌, map, Bool, true, false, cond, Option, Some, None, refl, sym, ap, subst, ◌∙◌, arith}
use Rattle.std.specs.Prelude.{nat_le}
use Rattle.std.specs.List.{AllByRecursion}
use Rattle.std.proofs.lemmas.Bool.{leb-true}
use Rattle.channel_laws.specs.ertm_model.specs.declared.reason.ErtmReason.{ErtmReason}
use Rattle.channel_laws.specs.ertm_model.specs.Giving.{timed}
use Rattle.channel_laws.specs.ertm_model.specs.Value.{Ertm}
use Rattle.channel_laws.specs.channel_model.specs.declared.errand.Errand.{Errand}
use Rattle.channel_laws.specs.channel_model.specs.declared.errand.Errand.TheVariants as errands
use Rattle.channel_laws.specs.channel_model.specs.declared.event.ChannelEvent.TheVariants.{FeaturesLost}
use Rattle.channel_laws.specs.channel_model.specs.declared.event.CloseReason.{CloseReason}
use Rattle.channel_laws.specs.channel_model.specs.declared.event.CloseReason.TheVariants as reasons
use Rattle.channel_laws.specs.channel_model.specs.Asking.{StillDue, OnceMore, Spent}
use Rattle.channel_laws.specs.channel_model.specs.Calls.{setup_on}
use Rattle.channel_laws.specs.channel_model.specs.Carrying.{reason_of, settles_machine}
use Rattle.channel_laws.specs.channel_model.specs.Changing.{has_own, held_at, is_due, stage_with, to_setup}
use Rattle.channel_laws.specs.channel_model.specs.Closing.{closes, closes_at, ends}
use Rattle.channel_laws.specs.channel_model.specs.Timing.{fires, times, times_carrier, times_setup, times_stage, times_held, loses_end, times_end_at, times_end, loses_features, times_features, times_channels}
use Rattle.channel_laws.specs.channel_model.specs.Value.{Request, Own, Unasked, Asking, Granted, Carrier, Plain, Retransmitting, Setup, Stage, Requested, Connected, Leaving, Closing, Crossed, Held, Channels}
use Rattle.channel_laws.specs.channel_model.proofs.Going.{staged}
use Rattle.channel_laws.specs.channel_model.proofs.Lookups.{own_of, Distinct, found-has}
use Rattle.channel_laws.specs.Tries.{request_of, request_at, for_channel, for_end}
use Rattle.staying_laws.specs.forgoing_laws.specs.lasting_laws.specs.Lasting.{OutlastsTimer, IsUnspent}
use Rattle.staying_laws.specs.forgoing_laws.specs.lasting_laws.proofs.Kept.{all-placed, all-left, all-found}
use Rattle.staying_laws.specs.forgoing_laws.specs.lasting_laws.proofs.Timed.{StageLasts, each-found}
use Rattle.staying_laws.specs.Stays.{AllKept}
use Rattle.staying_laws.proofs.Timed.{LastsAt, AllLast, all-last, held-timed, end-timed}
use Rattle.told_laws.proofs.Events.{Ends, AllMild, tells_mildly, closed_so, machine_mild}

-- a channel of one endpoint, where something is so; and a host that tries once at least
module _ (tries : ℕ) (some : 1 ≤ tries) (mine : ℕ) (So Guarded : Type 0) where
  abbrev pub This : ℕ → Type 0
  This own = (own ≡ mine) × So

  abbrev IsMildly : Channels → Type 0
  IsMildly v = AllMild This Guarded v

  -- no request for the end of a channel is spent, nor is that for this one
  abbrev StageUnspent : ℕ → Stage → Type 0
  StageUnspent own (Requested request) = This own → request.given < tries
  StageUnspent own (Connected peer setup) = Unit {0}
  StageUnspent own (Leaving peer setup request) = request.given < tries
  StageUnspent own (Closing peer request checked) = request.given < tries
  StageUnspent own (Crossed peer request) = request.given < tries

  abbrev UnspentAt : Held → Type 0
  UnspentAt held = StageUnspent held.own held.stage

  record Fine (v : Channels) : Type 0 where
    mild : IsMildly v
    unspent : AllByRecursion UnspentAt v.held
    features : Guarded → (request : Request) → v.features ≡ Some request → request.given < tries

  less_not : {n : ℕ} → n < tries → tries ≤ n → ⊥
  less_not less most = absurd (omega (arith, less, most))

  -- ---- a channel closes, or is set up anew

  fine_closed : (v : Channels) (held : Held) (stage : Stage) (reason : CloseReason) → StageUnspent held.own stage → Ends This Guarded held.own reason → Fine v → Fine (closes_at stage reason held v)
  fine_closed v held (Requested request) reason less so fine = record { mild = closed_so This Guarded v held (Requested request) reason so fine.mild; unspent = all-left UnspentAt _ v.held fine.unspent; features = fine.features }
  fine_closed v held (Connected peer setup) reason less so fine =
      record { mild = closed_so This Guarded v held (Connected peer setup) reason so fine.mild; unspent = all-placed UnspentAt (staged held _) v.held (omega (arith, some)) fine.unspent; features = fine.features }
  fine_closed v held (Leaving peer setup request) reason less so fine =
      record { mild = closed_so This Guarded v held (Leaving peer setup request) reason so fine.mild; unspent = all-placed UnspentAt (staged held _) v.held less fine.unspent; features = fine.features }
  fine_closed v held (Closing peer request checked) reason less so fine = fine
  fine_closed v held (Crossed peer request) reason less so fine = fine

  unspent_with : (own : ℕ) (setup : Setup) (stage : Stage) → StageUnspent own stage → StageUnspent own (stage_with setup stage)
  unspent_with own setup (Requested request) less = less
  unspent_with own setup (Connected peer before) less = tt
  unspent_with own setup (Leaving peer before request) less = less
  unspent_with own setup (Closing peer request checked) less = less
  unspent_with own setup (Crossed peer request) less = less

  fine_setup : (v : Channels) (held : Held) (setup : Setup) → UnspentAt held → Fine v → Fine (to_setup held setup v)
  fine_setup v held setup less fine =
      record { mild = fine.mild; unspent = all-placed UnspentAt (staged held (stage_with setup held.stage)) v.held (unspent_with held.own setup held.stage less) fine.unspent; features = fine.features }

  -- ---- what waits

  fine_times : (v : Channels) (errand : Errand) (request : Request) (spent : Channels → Channels) → (tries ≤ request.given → Fine (spent v)) → Fine v → Fine (times tries errand request spent v)
  fine_times v errand request spent gone_so fine = by (is_due errand v) (nat_le tries request.given) refl
    where
      by : (due most : Bool) → nat_le tries request.given ≡ most → Fine (fires (cond due StillDue (cond most Spent OnceMore)) errand spent v)
      by true most is = fine
      by false true is = gone_so (leb-true tries request.given is)
      by false false is = record { mild = fine.mild; unspent = fine.unspent; features = fine.features }

  fine_machine : (v : Channels) (held : Held) (setup : Setup) (m : Ertm) → (This held.own → (timed m).closed ≡ None) → UnspentAt held → Fine v → Fine (settles_machine (timed m).closed (timed m) held setup v)
  fine_machine v held setup m stands less fine = by (timed m).closed refl
    where
      by : (shut : Option ErtmReason) → (timed m).closed ≡ shut → Fine (settles_machine shut (timed m) held setup v)
      by None is = fine_setup v held (record setup { carrier = Some (Retransmitting (timed m)) }) less fine
      by (Some reason) is = fine_closed v held held.stage (reason_of reason) less (machine_mild This Guarded held.own reason (λ this. let never : None ≡ Some reason = sym (stands this) ∙ is in cc)) fine

  fine_carrier : (v : Channels) (held : Held) (setup : Setup) (carrier : Option Carrier) → (This held.own → OutlastsTimer carrier) → UnspentAt held → Fine v → Fine (times_carrier carrier held setup v)
  fine_carrier v held setup None outlasts less fine = fine
  fine_carrier v held setup (Some (Plain agreed waiting)) outlasts less fine = fine
  fine_carrier v held setup (Some (Retransmitting m)) outlasts less fine = fine_machine v held setup m (λ this. outlasts this m refl) less fine

  fine_waits : (v : Channels) (held : Held) (setup : Setup) (own : Own) → (This held.own → IsUnspent tries own setup.carrier) → UnspentAt held → Fine v → Fine (times_setup own tries held setup v)
  fine_waits v held setup Unasked lasts less fine = fine_carrier v held setup setup.carrier lasts less fine
  fine_waits v held setup (Asking request options) lasts less fine =
      fine_times v (errands.Configuration held.own) request (closes reasons.RetryLimit held) (λ most. fine_closed v held held.stage reasons.RetryLimit less (λ this. less_not (lasts this) most) fine) fine
  fine_waits v held setup Granted lasts less fine = fine_carrier v held setup setup.carrier lasts less fine

  -- ---- a channel

  fine_held : (own : ℕ) (v : Channels) → (So → AllLast tries mine v) → Fine v → Fine (times_held (held_at own v) tries v)
  fine_held own v last fine = by (held_at own v) refl
    where
      less_at : (held : Held) → held_at own v ≡ Some held → UnspentAt held
      less_at held found = all-found UnspentAt (has_own own) v.held held fine.unspent found

      lasts_at : (held : Held) (stage : Stage) → held.stage ≡ stage → held_at own v ≡ Some held → This held.own → StageLasts tries stage
      lasts_at held stage is found this = subst (StageLasts tries) is (all-found (LastsAt tries mine) (has_own own) v.held held (last this.1) found this.0).1

      at : (held : Held) (stage : Stage) → held.stage ≡ stage → held_at own v ≡ Some held → Fine (times_stage stage tries held v)
      at held (Requested request) is found =
          fine_times v (errands.Connection held.own) request (closes reasons.RetryLimit held)
          (λ most. fine_closed v held held.stage reasons.RetryLimit (less_at held found) (λ this. less_not (subst (StageUnspent held.own) is (less_at held found) this) most) fine) fine
      at held (Connected peer setup) is found = fine_waits v held setup setup.own (lasts_at held (Connected peer setup) is found) (less_at held found) fine
      at held (Leaving peer setup request) is found = fine_waits v held setup setup.own (lasts_at held (Leaving peer setup request) is found) (less_at held found) fine
      at held (Closing peer request checked) is found = fine
      at held (Crossed peer request) is found = fine

      by : (found : Option Held) → held_at own v ≡ found → Fine (times_held found tries v)
      by None found = fine
      by (Some held) found = at held held.stage refl found

  fine_end : (own : ℕ) (v : Channels) → Fine v → Fine (times_end (held_at own v) tries v)
  fine_end own v fine = by (held_at own v) refl
    where
      -- it is never given up
      unspent_end : (held : Held) (stage : Stage) (request : Request) (spent : Channels → Channels) → held_at own v ≡ Some held → held.stage ≡ stage → (StageUnspent held.own stage → request.given < tries) → Fine (times tries (errands.Disconnection held.own) request spent v)
      unspent_end held stage request spent found is less =
          fine_times v (errands.Disconnection held.own) request spent (λ most. absurd (less_not (less (subst (StageUnspent held.own) is (all-found UnspentAt (has_own own) v.held held fine.unspent found))) most)) fine

      at : (held : Held) (stage : Stage) → held.stage ≡ stage → held_at own v ≡ Some held → Fine (times_end_at stage tries held v)
      at held (Requested request) is found = fine
      at held (Connected peer setup) is found = fine
      at held (Leaving peer setup request) is found = unspent_end held (Leaving peer setup request) request (ends reasons.RetryLimit held) found is (λ less. less)
      at held (Closing peer request checked) is found = unspent_end held (Closing peer request checked) request (loses_end held) found is (λ less. less)
      at held (Crossed peer request) is found = unspent_end held (Crossed peer request) request (loses_end held) found is (λ less. less)

      by : (found : Option Held) → held_at own v ≡ found → Fine (times_end found tries v)
      by None found = fine
      by (Some held) found = at held held.stage refl found

  -- ---- all of a link

  fine_channels : (owns : List ℕ) (v : Channels) → (So → AllLast tries mine v) → Fine v → Fine (times_channels tries owns v)
  fine_channels [] v last fine = fine
  fine_channels (own ∷ owns) v last fine =
      let u : Channels = times_held (held_at own v) tries v in
      fine_channels owns (times_end (held_at own u) tries u) (λ so. end-timed tries mine own u (held-timed tries mine own v (last so))) (fine_end own u (fine_held own v last fine))

  features_mild : (v : Channels) → Fine v → IsMildly (times_features v.features tries v)
  features_mild v fine = by v.features refl
    where
      by : (asked : Option Request) → v.features ≡ asked → IsMildly (times_features asked tries v)
      by None is = fine.mild
      by (Some request) is = spends (is_due errands.Features v) (nat_le tries request.given) refl
        where
          spends : (due most : Bool) → nat_le tries request.given ≡ most → IsMildly (fires (cond due StillDue (cond most Spent OnceMore)) errands.Features loses_features v)
          spends true most known = fine.mild
          spends false true known = tells_mildly This Guarded FeaturesLost (record v { features = None }) fine.mild (λ guarded. less_not (fine.features guarded request is) (leb-true tries request.given known))
          spends false false known = fine.mild

  -- its requests for the ends of channels are given less often than it tries, as are that for this channel and the question for features; and neither its request for options nor its machine ends the channel
  pub times_mildly : (v : Channels) → Distinct own_of v.held → (So → AllKept mine v) → (So → (setup : Setup) → setup_on (held_at mine v) ≡ Some setup → IsUnspent tries setup.own setup.carrier)
      → (So → (request : Request) → request_of (errands.Connection mine) v ≡ Some request → request.given < tries) → ((own : ℕ) (request : Request) → request_of (errands.Disconnection own) v ≡ Some request → request.given < tries)
      → (Guarded → (request : Request) → request_of errands.Features v ≡ Some request → request.given < tries) → IsMildly v → (let after : Channels = times_channels tries (map (λ held. held.own) v.held) v in IsMildly (times_features after.features tries after))
  times_mildly v lone kept lasts called ended asked all =
      features_mild (times_channels tries (map (λ held. held.own) v.held) v) (fine_channels (map (λ held. held.own) v.held) v (λ so. all-last tries mine v lone (kept so) (lasts so)) (record { mild = all; unspent = each; features = asked }))
    where
      at : (own : ℕ) (held : Held) (stage : Stage) → held.own ≡ own → held.stage ≡ stage → held_at own v ≡ Some held → StageUnspent held.own stage
      at own held (Requested request) same is found = λ this. called this.1 request (ap (λ n. request_at for_channel (held_at n v)) (sym this.0 ∙ same) ∙ (ap (request_at for_channel) found ∙ ap for_channel is))
      at own held (Connected peer setup) same is found = tt
      at own held (Leaving peer setup request) same is found = ended own request (ap (request_at for_end) found ∙ ap for_end is)
      at own held (Closing peer request checked) same is found = ended own request (ap (request_at for_end) found ∙ ap for_end is)
      at own held (Crossed peer request) same is found = ended own request (ap (request_at for_end) found ∙ ap for_end is)

      each : AllByRecursion UnspentAt v.held
      each = each-found UnspentAt v.held lone (λ own held found. at own held held.stage (found-has own_of own v.held held found) refl found)
