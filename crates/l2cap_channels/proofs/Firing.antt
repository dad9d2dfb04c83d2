-- What the timer makes of the channel at a place.
use Rattle.std.proofs.Common.{◌≡◌, ◌∙◌, ℕ, zero, suc, Bool, List, [], ◌∷◌, drop, sym, ap}
use Rattle.std.specs.Prelude.{Option, Some, None, option_map, slice_get}
use Rattle.std.specs.List.{fold}
use Rattle.channel_model.specs.declared.errand.Errand.TheVariants.{Connection, Configuration, Disconnection}
use Rattle.channel_model.specs.declared.event.CloseReason.TheVariants.{RetryLimit}
use Rattle.channel_model.specs.Value.{Request, Own, Unasked, Asking, Granted, Setup, Stage, Held, Channels}
use Rattle.channel_model.specs.Closing.{closes}
use Rattle.channel_model.specs.Timing.{times, times_setup, times_stage, times_held, times_end_at, times_end}
use Rattle.l2cap_channels.specs.Finding.{on_place, place_setup, IsStageAt}
use Rattle.l2cap_channels.specs.Parts.{request_value}
use Rattle.l2cap_channels.specs.Timers.{asked_by, asked_on, options_on, times_options, ends_lost, ends_lost_at}
use Rattle.l2cap_channels.specs.declared.request.Request.{Request as Kept}
use Rattle.l2cap_channels.specs.declared.stage.Stage.TheVariants.{Requested, Leaving, Closing, Crossed}

same_some : {X : Type 0} (x y : X) → Some x ≡ Some y → x ≡ y
same_some x y e = cc

by_own : (own : Own) (held : Held) (setup : Setup) (tries : ℕ) (request : Request) (v : Channels) → asked_by own ≡ Some request
    → times tries (Configuration held.own) request (closes RetryLimit held) v ≡ times_setup own tries held setup v
by_own Unasked held setup tries request v asked = cc
by_own (Asking r options) held setup tries request v asked =
    let e : request ≡ r = sym (same_some r request asked) in
    ap (λ (x : Request). times tries (Configuration held.own) x (closes RetryLimit held) v) e
by_own Granted held setup tries request v asked = cc

by_stage : (setup : Option Setup) (held : Held) (tries : ℕ) (request : Request) (v : Channels) → asked_on setup ≡ Some request
    → times tries (Configuration held.own) request (closes RetryLimit held) v ≡ options_on setup tries held v
by_stage None held tries request v asked = cc
by_stage (Some setup) held tries request v asked = by_own setup.own held setup tries request v asked

pub options_by : (o : Option Held) (own tries : ℕ) (request : Request) (v : Channels) → option_map (λ (h : Held). h.own) o ≡ Some own → asked_on (place_setup o) ≡ Some request
    → times tries (Configuration own) request (on_place (closes RetryLimit) o) v ≡ times_options o tries v
options_by None own tries request v own_is asked = cc
options_by (Some h) own tries request v own_is asked =
    ap (λ (n : ℕ). times tries (Configuration n) request (closes RetryLimit h) v) (sym (same_some h.own own own_is))
    ∙ by_stage (place_setup (Some h)) h tries request v asked

pub requested_by : (o : Option Held) (own tries : ℕ) (request : Kept) (v : Channels) → option_map (λ (h : Held). h.own) o ≡ Some own → IsStageAt o (Requested request)
    → times tries (Connection own) (request_value request) (on_place (closes RetryLimit) o) v ≡ times_held o tries v
requested_by None own tries request v own_is is = absurd is
requested_by (Some h) own tries request v own_is is =
    ap (λ (n : ℕ). times tries (Connection n) (request_value request) (closes RetryLimit h) v) (sym (same_some h.own own own_is))
    ∙ ap (λ (stage : Stage). times_stage stage tries h v) (sym is.1)

pub leaving_by : (o : Option Held) (own tries peer : ℕ) (request : Kept) (v : Channels) → option_map (λ (h : Held). h.own) o ≡ Some own → IsStageAt o (Leaving peer request)
    → times tries (Disconnection own) (request_value request) (ends_lost o) v ≡ times_end o tries v
leaving_by None own tries peer request v own_is is = absurd is
leaving_by (Some h) own tries peer request v own_is is =
    ap (λ (n : ℕ). times tries (Disconnection n) (request_value request) (ends_lost (Some h)) v) (sym (same_some h.own own own_is))
    ∙ ap (λ (stage : Stage). times tries (Disconnection h.own) (request_value request) (ends_lost_at stage h) v) is.1
    ∙ ap (λ (stage : Stage). times_end_at stage tries h v) (sym is.1)

pub closing_by : (o : Option Held) (own tries peer : ℕ) (request : Kept) (checked : Bool) (v : Channels) → option_map (λ (h : Held). h.own) o ≡ Some own → IsStageAt o (Closing peer request checked)
    → times tries (Disconnection own) (request_value request) (ends_lost o) v ≡ times_end o tries v
closing_by None own tries peer request checked v own_is is = absurd is
closing_by (Some h) own tries peer request checked v own_is is =
    ap (λ (n : ℕ). times tries (Disconnection n) (request_value request) (ends_lost (Some h)) v) (sym (same_some h.own own own_is))
    ∙ ap (λ (stage : Stage). times tries (Disconnection h.own) (request_value request) (ends_lost_at stage h) v) is.1
    ∙ ap (λ (stage : Stage). times_end_at stage tries h v) (sym is.1)

pub crossed_by : (o : Option Held) (own tries peer : ℕ) (request : Kept) (v : Channels) → option_map (λ (h : Held). h.own) o ≡ Some own → IsStageAt o (Crossed peer request)
    → times tries (Disconnection own) (request_value request) (ends_lost o) v ≡ times_end o tries v
crossed_by None own tries peer request v own_is is = absurd is
crossed_by (Some h) own tries peer request v own_is is =
    ap (λ (n : ℕ). times tries (Disconnection n) (request_value request) (ends_lost (Some h)) v) (sym (same_some h.own own own_is))
    ∙ ap (λ (stage : Stage). times tries (Disconnection h.own) (request_value request) (ends_lost_at stage h) v) is.1
    ∙ ap (λ (stage : Stage). times_end_at stage tries h v) (sym is.1)

-- one step over a list
pub fold_step : {A B : Type 0} (f : B → A → B) (v : B) (xs : List A) (k : ℕ) (x : A) → slice_get xs k ≡ Some x → fold f v (drop k xs) ≡ fold f (f v x) (drop (suc k) xs)
fold_step f v [] k x is = cc
fold_step f v (y ∷ xs) zero x is = let e : y ≡ x = cc in ap (λ z. fold f (f v z) xs) e
fold_step f v (y ∷ xs) (suc k) x is = fold_step f v xs k x is
