-- Behind a firing a copy waits of the request for the end of a channel that a host leaves.
use Rattle.std.proofs.Common.{◌≡◌, ℕ, ◌+◌, ◌≤◌, List, [], ◌∷◌, ◌++◌, map, Bool, true, false, cond, ◌||◌, eqb, leb, Option, Some, None, refl, sym, ap, subst, ◌⊎◌, inl, inr, arith}
use Rattle.std.specs.Prelude.{find}
use Rattle.std.specs.List.{list_any}
use Rattle.std.proofs.lemmas.Bool.{eqb-true}
use Rattle.channel_laws.specs.ertm_model.specs.Giving.{timed}
use Rattle.channel_laws.specs.channel_model.specs.declared.errand.Errand.{Errand}
use Rattle.channel_laws.specs.channel_model.specs.declared.errand.Errand.TheVariants as errands
use Rattle.channel_laws.specs.channel_model.specs.declared.event.CloseReason.TheVariants.{RetryLimit}
use Rattle.channel_laws.specs.channel_model.specs.Asking.{StillDue, OnceMore, Spent}
use Rattle.channel_laws.specs.channel_model.specs.Changing.{has_own, held_at, is_copy, is_due, queued}
use Rattle.channel_laws.specs.channel_model.specs.Closing.{closes, ends, ends_at}
use Rattle.channel_laws.specs.channel_model.specs.Policies.{Policy}
use Rattle.channel_laws.specs.channel_model.specs.Timing.{fires, times, times_carrier, times_setup, times_stage, times_held, loses_end, times_end_at, times_end, times_channel, times_channels, loses_features, times_features, timed_out}
use Rattle.channel_laws.specs.channel_model.specs.Value.{Request, Queued, Ask, Own, Unasked, Asking, Granted, Carrier, Plain, Retransmitting, Setup, Stage, Requested, Connected, Leaving, Closing, Crossed, Held, Channels}
use Rattle.channel_laws.specs.channel_model.proofs.Lookups.{own_of, found-has, find-gone}
use Rattle.channel_laws.specs.channel_model.proofs.Walking.{found-own}
use Rattle.channel_laws.specs.Signals.{StandsIn}
use Rattle.channel_laws.specs.Tries.{copies, one_if}
use Rattle.channel_laws.proofs.Trying.{copies-append, same-self}
use Rattle.leaving_laws.proofs.Keeping as keeping

module _ (own : ℕ) where
  -- a copy of it waits
  abbrev pub Waits : Request → ℕ → Type 0
  Waits request n = 1 ≤ n

  pub grows : (request : Request) (m n : ℕ) → m ≤ n → Waits request m → Waits request n
  grows request m n less some = omega (arith, less, some)

  pub new : (request : Request) (n : ℕ) → 1 ≤ n → Waits request n
  new request n some = some

  abbrev the_end : Errand
  the_end = errands.Disconnection own

  -- while the host leaves the channel
  abbrev pub Due : Channels → Type 0
  Due v = keeping.K own Waits grows new v

  due_times : (tries : ℕ) (v : Channels) (errand : Errand) (request : Request) (spent : Channels → Channels) → Due (spent v) → Due v → Due (times tries errand request spent v)
  due_times tries v errand request spent closed k = by (is_due errand v) (leb tries request.given)
    where
      by : (due most : Bool) → Due (fires (cond due StillDue (cond most Spent OnceMore)) errand spent v)
      by true most = k
      by false true = closed
      by false false = keeping.still own Waits grows new v (queued (Ask errand) v) refl (keeping.more_waits own (Ask errand) v.queue) k

  due_carrier : (v : Channels) (carrier : Option Carrier) (held : Held) (setup : Setup) → find (has_own held.own) v.held ≡ Some held → Due v → Due (times_carrier carrier held setup v)
  due_carrier v None held setup found k = k
  due_carrier v (Some (Plain agreed waiting)) held setup found k = k
  due_carrier v (Some (Retransmitting machine)) held setup found k = keeping.settles_so own Waits grows new v (timed machine).closed (timed machine) held setup found k

  due_setup : (tries : ℕ) (v : Channels) (asks : Own) (held : Held) (setup : Setup) → find (has_own held.own) v.held ≡ Some held → Due v → Due (times_setup asks tries held setup v)
  due_setup tries v Unasked held setup found k = due_carrier v setup.carrier held setup found k
  due_setup tries v (Asking request options) held setup found k = due_times tries v (errands.Configuration held.own) request (closes RetryLimit held) (keeping.close own Waits grows new v held RetryLimit found k) k
  due_setup tries v Granted held setup found k = due_carrier v setup.carrier held setup found k

  due_stage : (tries : ℕ) (v : Channels) (held : Held) (stage : Stage) → find (has_own held.own) v.held ≡ Some held → Due v → Due (times_stage stage tries held v)
  due_stage tries v held (Requested request) found k = due_times tries v (errands.Connection held.own) request (closes RetryLimit held) (keeping.close own Waits grows new v held RetryLimit found k) k
  due_stage tries v held (Connected peer setup) found k = due_setup tries v setup.own held setup found k
  due_stage tries v held (Leaving peer setup request) found k = due_setup tries v setup.own held setup found k
  due_stage tries v held (Closing peer request checked) found k = k
  due_stage tries v held (Crossed peer request) found k = k

  due_held : (tries : ℕ) (v : Channels) (n : ℕ) → Due v → Due (times_held (held_at n v) tries v)
  due_held tries v n k = by (held_at n v) refl
    where
      by : (found : Option Held) → held_at n v ≡ found → Due (times_held found tries v)
      by None is = k
      by (Some held) is = due_stage tries v held held.stage (found-own n v held is) k

  loses_due : (v : Channels) (held : Held) → Due v → Due (loses_end held v)
  loses_due v held k = let u : Channels = ends RetryLimit held v in keeping.still own Waits grows new u (loses_end held v) refl (omega arith) (keeping.ends_so own Waits grows new v held RetryLimit held.stage k)

  due_end_at : (tries : ℕ) (v : Channels) (held : Held) (stage : Stage) → Due v → Due (times_end_at stage tries held v)
  due_end_at tries v held (Requested request) k = k
  due_end_at tries v held (Connected peer setup) k = k
  due_end_at tries v held (Leaving peer setup request) k = due_times tries v (errands.Disconnection held.own) request (ends RetryLimit held) (keeping.ends_so own Waits grows new v held RetryLimit held.stage k) k
  due_end_at tries v held (Closing peer request checked) k = due_times tries v (errands.Disconnection held.own) request (loses_end held) (loses_due v held k) k
  due_end_at tries v held (Crossed peer request) k = due_times tries v (errands.Disconnection held.own) request (loses_end held) (loses_due v held k) k

  due_end : (tries : ℕ) (v : Channels) (found : Option Held) → Due v → Due (times_end found tries v)
  due_end tries v None k = k
  due_end tries v (Some held) k = due_end_at tries v held held.stage k

  -- ---- its own turn

  any_copies : (e : Errand) (queue : List Queued) → list_any (is_copy e) queue ≡ true → 1 ≤ copies e queue
  any_copies e [] is = cc
  any_copies e (x ∷ queue) is = by (is_copy e x) refl is (λ some. any_copies e queue some)
    where
      by : (b : Bool) → is_copy e x ≡ b → (b || list_any (is_copy e) queue) ≡ true → (list_any (is_copy e) queue ≡ true → 1 ≤ copies e queue) → 1 ≤ one_if (is_copy e x) + copies e queue
      by true c some behind = let one : one_if (is_copy e x) ≡ 1 = ap one_if c in omega (arith, one)
      by false c some behind = let later = behind some in omega (arith, later)

  due_found : (v : Channels) (held : Held) → held_at own v ≡ Some held → keeping.StageSo own Waits grows new held.stage (copies the_end v.queue) → Due v
  due_found v held at so = subst (λ (h : Option Held). keeping.FoundSo own Waits grows new h (copies the_end v.queue)) (sym at) so

  -- one that does not leave is free
  free : (stage : Stage) (n : ℕ) → (some : 1 ≤ n) → keeping.StageSo own Waits grows new stage n
  free (Requested request) n some = tt
  free (Connected peer setup) n some = tt
  free (Leaving peer setup request) n some = some
  free (Closing peer request checked) n some = tt
  free (Crossed peer request) n some = tt

  none_due : (w : Channels) → held_at own w ≡ None → Due w
  none_due w none = subst (λ (h : Option Held). keeping.FoundSo own Waits grows new h (copies the_end w.queue)) (sym none) tt

  -- it is asked for once more, unless a copy waits or it was spent
  asked_now : (tries : ℕ) (v : Channels) (held : Held) (request : Request) (spent : Channels → Channels) → held.own ≡ own → held_at own v ≡ Some held → held_at own (spent v) ≡ None → Due (times tries (errands.Disconnection held.own) request spent v)
  asked_now tries v held request spent here at none = by (is_due (errands.Disconnection held.own) v) refl (leb tries request.given)
    where
      mine : (n : ℕ) → n ≡ own → (queue : List Queued) → list_any (is_copy (errands.Disconnection n)) queue ≡ true → 1 ≤ copies the_end queue
      mine n it queue is = subst (λ m. 1 ≤ copies (errands.Disconnection m) queue) it (any_copies (errands.Disconnection n) queue is)

      last : (n : ℕ) → n ≡ own → (queue : List Queued) → 1 ≤ copies the_end (queue ++ Ask (errands.Disconnection n) ∷ [])
      last n it queue =
          subst (λ m. 1 ≤ copies (errands.Disconnection m) (queue ++ Ask (errands.Disconnection n) ∷ [])) it
          (let whole = copies-append (errands.Disconnection n) queue (Ask (errands.Disconnection n)) in let one : one_if (is_copy (errands.Disconnection n) (Ask (errands.Disconnection n))) ≡ 1 = ap one_if (same-self (errands.Disconnection n)) in omega (arith, whole, one))

      by : (due : Bool) → is_due (errands.Disconnection held.own) v ≡ due → (most : Bool) → Due (fires (cond due StillDue (cond most Spent OnceMore)) (errands.Disconnection held.own) spent v)
      by true d most = due_found v held at (free held.stage (copies the_end v.queue) (mine held.own here v.queue d))
      by false d true = none_due (spent v) none
      by false d false = due_found (queued (Ask (errands.Disconnection held.own)) v) held at (free held.stage (copies the_end (v.queue ++ Ask (errands.Disconnection held.own) ∷ [])) (last held.own here v.queue))

  pub its-turn : (tries : ℕ) (v : Channels) → Due (times_end (held_at own v) tries v)
  its-turn tries v = by (held_at own v) refl
    where
      gone_so : (held : Held) (stage : Stage) → held.own ≡ own → held.stage ≡ stage → held_at held.own (ends_at stage RetryLimit held v) ≡ None → held_at own (ends RetryLimit held v) ≡ None
      gone_so held stage here is none = subst (λ n. held_at n (ends RetryLimit held v) ≡ None) here (subst (λ (s : Stage). held_at held.own (ends_at s RetryLimit held v) ≡ None) (sym is) none)

      staged_so : (held : Held) (stage : Stage) → held.own ≡ own → held.stage ≡ stage → held_at own v ≡ Some held → Due (times_end_at stage tries held v)
      staged_so held (Requested request) here is at = due_found v held at (subst (λ (s : Stage). keeping.StageSo own Waits grows new s (copies the_end v.queue)) (sym is) tt)
      staged_so held (Connected peer setup) here is at = due_found v held at (subst (λ (s : Stage). keeping.StageSo own Waits grows new s (copies the_end v.queue)) (sym is) tt)
      staged_so held (Leaving peer setup request) here is at = asked_now tries v held request (ends RetryLimit held) here at (gone_so held (Leaving peer setup request) here is (find-gone own_of held.own v.held))
      staged_so held (Closing peer request checked) here is at = asked_now tries v held request (loses_end held) here at (gone_so held (Closing peer request checked) here is (find-gone own_of held.own v.held))
      staged_so held (Crossed peer request) here is at = asked_now tries v held request (loses_end held) here at (gone_so held (Crossed peer request) here is (find-gone own_of held.own v.held))

      by : (found : Option Held) → held_at own v ≡ found → Due (times_end found tries v)
      by None at = none_due v at
      by (Some held) at = staged_so held held.stage (found-has own_of own v.held held at) refl at

  -- ---- all channels

  all_due : (tries : ℕ) (owns : List ℕ) (v : Channels) → StandsIn own owns ⊎ Due v → Due (times_channels tries owns v)
  all_due tries [] v (inl stands) = elim stands [ ]
  all_due tries [] v (inr k) = k
  all_due tries (n ∷ owns) v so = all_due tries owns (times_channel tries n v) (by so)
    where
      u : Channels
      u = times_held (held_at n v) tries v

      by : StandsIn own (n ∷ owns) ⊎ Due v → StandsIn own owns ⊎ Due (times_channel tries n v)
      by (inl (inl same)) = inr (subst (λ m. let w : Channels = times_held (held_at m v) tries v in Due (times_end (held_at m w) tries w)) (sym same) (its-turn tries (times_held (held_at own v) tries v)))
      by (inl (inr later)) = inl later
      by (inr k) = inr (due_end tries u (held_at n u) (due_held tries v n k))

  features_due : (tries : ℕ) (v : Channels) (features : Option Request) → Due v → Due (times_features features tries v)
  features_due tries v None k = k
  features_due tries v (Some request) k = due_times tries v errands.Features request loses_features (keeping.still own Waits grows new v (loses_features v) refl (omega arith) k) k

  named : (hs : List Held) (held : Held) → find (has_own own) hs ≡ Some held → StandsIn own (map (λ (h : Held). h.own) hs)
  named [] held is = cc
  named (h ∷ hs) held is = by (eqb h.own own) refl is (λ found. named hs held found)
    where
      by : (b : Bool) → eqb h.own own ≡ b → cond b (Some h) (find (has_own own) hs) ≡ Some held → (find (has_own own) hs ≡ Some held → StandsIn own (map (λ (x : Held). x.own) hs)) → StandsIn own (h.own ∷ map (λ (x : Held). x.own) hs)
      by true same found behind = inl (eqb-true h.own own same)
      by false other found behind = inr (behind found)

  -- behind a firing a copy waits
  pub fires-due : (policy : Policy) (v : Channels) → Due (timed_out policy v)
  fires-due policy v =
      let u : Channels = times_channels policy.tries (map (λ (held : Held). held.own) v.held) v in
      features_due policy.tries u u.features (all_due policy.tries (map (λ (held : Held). held.own) v.held) v (by (held_at own v) refl))
    where
      by : (found : Option Held) → held_at own v ≡ found → StandsIn own (map (λ (held : Held). held.own) v.held) ⊎ Due v
      by None at = inr (none_due v at)
      by (Some held) at = inl (named v.held held at)
