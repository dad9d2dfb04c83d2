-- What follows at the place of a channel.
use Rattle.std.proofs.Common.{◌≡◌, ◌∙◌, ℕ, zero, suc, ◌+◌, ◌≤◌, ◌<◌, Bool, true, false, List, [], ◌∷◌, map, refl, sym, ap, arith}
use Rattle.std.specs.Prelude.{◌==◌, nat_le, Option, Some, None, option_map, is_some}
use Rattle.std.proofs.lemmas.Bool.{le-leb, leb-true, leb-false, eqb-true, eq-eqb}
use Rattle.l2cap_config.specs.declared.options.Options.{Options}
use Rattle.l2cap_config.specs.declared.wish.Wish.{Wish}
use Rattle.l2cap_config.specs.Agreement.{agreed_on}
use Rattle.channel_model.specs.declared.errand.Errand.TheVariants.{Configuration, Disconnection}
use Rattle.channel_model.specs.declared.event.ChannelEvent.TheVariants.{Opened}
use Rattle.channel_model.specs.declared.event.CloseReason.{CloseReason}
use Rattle.channel_model.specs.declared.event.CloseReason.TheVariants.{NoAgreement}
use Rattle.channel_model.specs.Value.{Request, Own, Unasked, Asking, Granted, Setup, Stage, Requested, Connected, Leaving, Closing, Crossed, Held, Channels}
use Rattle.channel_model.specs.Changing.{in_place_of, to_stage, stage_with, setup_of, has_fcs_by, forgets, tells}
use Rattle.channel_model.specs.Asking.{new_request, asks, first_options}
use Rattle.channel_model.specs.Calls.{has_fcs_at}
use Rattle.channel_model.specs.Closing.{closes, closed_event}
use Rattle.channel_model.specs.Configuring.{accepts, accepts_with, accepted_setup, refuses, refused_setup, grants, granted_setup, new_carrier, opens_if}
use Rattle.channel_model.specs.Responses.{renews, renewed_setup}
use Rattle.l2cap_config.specs.Items.{no_options}
use Rattle.l2cap_channels.specs.Finding.{on_place, place_setup}
use Rattle.l2cap_channels.specs.Steps.{with_change, accepted, first_asked, asked_anew, refused_on, is_past_asking, is_past_asking_at, carries_on, acceptance_by, acceptance_on, with_setup_at}
use Rattle.l2cap_channels.specs.declared.progress.Acceptance.{Acceptance}
use Rattle.l2cap_channels.specs.declared.progress.Acceptance.TheVariants.{Asks, Waits, Opens}

same_some : {X : Type 0} (x y : X) → Some x ≡ Some y → x ≡ y
same_some x y e = cc

-- ---- options are accepted

abbrev after : Acceptance → Held → Channels → Channels
after Asks held v = asks (Configuration held.own) v
after Waits held v = v
after Opens held v = tells (Opened held.own held.psm) v

abbrev kept : Wish → Options → Held → Setup → Own → Channels → Channels
kept wish options held setup own v =
    to_stage held (stage_with (record setup { parts = no_options; carrier = Some (new_carrier (agreed_on wish options)); own = first_asked (new_request v) (first_options wish) own }) held.stage) v

by_own : (own : Own) (wish : Wish) (options : Options) (held : Held) (setup : Setup) (v : Channels) → setup.own ≡ own
    → after (acceptance_by own) held (kept wish options held setup own v) ≡ accepts_with own wish held (accepted_setup wish options setup) v
by_own Unasked wish options held setup v is = refl
by_own (Asking request asked) wish options held setup v is =
    ap (λ (k : Own). to_stage held (stage_with (record setup { parts = no_options; carrier = Some (new_carrier (agreed_on wish options)); own = k }) held.stage) v) (sym is)
by_own Granted wish options held setup v is =
    ap (λ (k : Own). tells (Opened held.own held.psm) (to_stage held (stage_with (record setup { parts = no_options; carrier = Some (new_carrier (agreed_on wish options)); own = k }) held.stage) v)) (sym is)

abbrev pub accepted_at : Wish → Options → Request → Held → Channels → Channels
accepted_at wish options request held v = to_stage held (with_change (accepted (agreed_on wish options) request (first_options wish)) held.stage) v

accepted_stage : (stage : Stage) (psm own : ℕ) (wish : Wish) (options : Options) (v : Channels) → is_some (setup_of stage) ≡ true
    → after (acceptance_on (setup_of stage)) (record { psm = psm; own = own; stage = stage }) (accepted_at wish options (new_request v) (record { psm = psm; own = own; stage = stage }) v)
    ≡ with_setup_at (accepts wish options) (record { psm = psm; own = own; stage = stage }) v
accepted_stage (Requested request) psm own wish options v there = cc
accepted_stage (Connected peer setup) psm own wish options v there = by_own setup.own wish options (record { psm = psm; own = own; stage = Connected peer setup }) setup v refl
accepted_stage (Leaving peer setup request) psm own wish options v there = by_own setup.own wish options (record { psm = psm; own = own; stage = Leaving peer setup request }) setup v refl
accepted_stage (Closing peer request checked) psm own wish options v there = cc
accepted_stage (Crossed peer request) psm own wish options v there = cc

pub asks_by : (o : Option Held) (wish : Wish) (options : Options) (own : ℕ) (v : Channels) → option_map (λ (h : Held). h.own) o ≡ Some own → acceptance_on (place_setup o) ≡ Asks → is_some (place_setup o) ≡ true
    → asks (Configuration own) (on_place (accepted_at wish options (new_request v)) o v) ≡ on_place (with_setup_at (accepts wish options)) o v
asks_by None wish options own v own_is is there = cc
asks_by (Some h) wish options own v own_is is there =
    ap (λ (n : ℕ). asks (Configuration n) (accepted_at wish options (new_request v) h v)) (sym (same_some h.own own own_is))
    ∙ ap (λ (a : Acceptance). after a h (accepted_at wish options (new_request v) h v)) (sym is)
    ∙ accepted_stage h.stage h.psm h.own wish options v there

pub waits_by : (o : Option Held) (wish : Wish) (options : Options) (v : Channels) → acceptance_on (place_setup o) ≡ Waits → is_some (place_setup o) ≡ true
    → on_place (accepted_at wish options (new_request v)) o v ≡ on_place (with_setup_at (accepts wish options)) o v
waits_by None wish options v is there = refl
waits_by (Some h) wish options v is there =
    ap (λ (a : Acceptance). after a h (accepted_at wish options (new_request v) h v)) (sym is)
    ∙ accepted_stage h.stage h.psm h.own wish options v there

pub opens_by : (o : Option Held) (wish : Wish) (options : Options) (own psm : ℕ) (v : Channels) → option_map (λ (h : Held). h.own) o ≡ Some own → option_map (λ (h : Held). h.psm) o ≡ Some psm
    → acceptance_on (place_setup o) ≡ Opens → is_some (place_setup o) ≡ true
    → tells (Opened own psm) (on_place (accepted_at wish options (new_request v)) o v) ≡ on_place (with_setup_at (accepts wish options)) o v
opens_by None wish options own psm v own_is psm_is is there = cc
opens_by (Some h) wish options own psm v own_is psm_is is there =
    ap (λ (n : ℕ). tells (Opened n psm) (accepted_at wish options (new_request v) h v)) (sym (same_some h.own own own_is))
    ∙ ap (λ (n : ℕ). tells (Opened h.own n) (accepted_at wish options (new_request v) h v)) (sym (same_some h.psm psm psm_is))
    ∙ ap (λ (a : Acceptance). after a h (accepted_at wish options (new_request v) h v)) (sym is)
    ∙ accepted_stage h.stage h.psm h.own wish options v there

-- ---- a channel that closes, once it was changed

twice_one : (x a b : Held) → a.own ≡ b.own → (hit : Bool) → (x.own == b.own) ≡ hit → in_place_of a (in_place_of b x) ≡ in_place_of a x
twice_one x a b same true is =
    let here : (x.own == a.own) ≡ true = eq-eqb x.own a.own (eqb-true x.own b.own is ∙ sym same) in
    let own : (b.own == a.own) ≡ true = eq-eqb b.own a.own (sym same) in
    rw is (rw here (rw own refl))
twice_one x a b same false is = rw is refl

pub twice : (xs : List Held) (a b : Held) → a.own ≡ b.own → map (in_place_of a) (map (in_place_of b) xs) ≡ map (in_place_of a) xs
twice [] a b same = refl
twice (x ∷ xs) a b same =
    ap (λ (y : Held). y ∷ map (in_place_of a) (map (in_place_of b) xs)) (twice_one x a b same (x.own == b.own) refl)
    ∙ ap (λ (ys : List Held). in_place_of a x ∷ ys) (twice xs a b same)

abbrev changed : Held → Setup → Held
changed held setup = record held { stage = stage_with setup held.stage }

closes_stage : (stage : Stage) (psm own : ℕ) (setup : Setup) (reason : CloseReason) (v : Channels) → is_some (setup_of stage) ≡ true → has_fcs_at (stage_with setup stage) ≡ has_fcs_at stage
    → closes reason (changed (record { psm = psm; own = own; stage = stage }) setup) (to_stage (record { psm = psm; own = own; stage = stage }) (stage_with setup stage) v)
    ≡ closes reason (record { psm = psm; own = own; stage = stage }) v
closes_stage (Requested request) psm own setup reason v there same = cc
closes_stage (Connected peer before) psm own setup reason v there same =
    let held : Held = record { psm = psm; own = own; stage = Connected peer before } in
    ap (λ (xs : List Held). closed_event reason held (asks (Disconnection own) (record (forgets (Configuration own) v) { held = xs })))
    (twice v.held (record held { stage = Closing peer (new_request v) (has_fcs_by setup) }) (record held { stage = Connected peer setup }) refl)
    ∙ ap (λ (checked : Bool). closed_event reason held (asks (Disconnection own) (to_stage held (Closing peer (new_request v) checked) (forgets (Configuration own) v)))) same
closes_stage (Leaving peer before request) psm own setup reason v there same =
    let held : Held = record { psm = psm; own = own; stage = Leaving peer before request } in
    ap (λ (xs : List Held). closed_event reason held (record (forgets (Configuration own) v) { held = xs }))
    (twice v.held (record held { stage = Closing peer request (has_fcs_by setup) }) (record held { stage = Leaving peer setup request }) refl)
    ∙ ap (λ (checked : Bool). closed_event reason held (to_stage held (Closing peer request checked) (forgets (Configuration own) v))) same
closes_stage (Closing peer request checked) psm own setup reason v there same = cc
closes_stage (Crossed peer request) psm own setup reason v there same = cc

-- ---- options are not acceptable

refused_stage : (stage : Stage) (psm own : ℕ) (v : Channels) → 2 ≤ refused_on (setup_of stage)
    → closes NoAgreement (record { psm = psm; own = own; stage = stage }) v ≡ with_setup_at (λ held setup. refuses held (refused_setup setup)) (record { psm = psm; own = own; stage = stage }) v
refused_stage (Requested request) psm own v many = absurd (omega (arith, many))
refused_stage (Connected peer setup) psm own v many =
    rw (le-leb 3 (setup.refused + 1) (omega (arith, many))) (sym (closes_stage (Connected peer setup) psm own (refused_setup setup) NoAgreement v refl refl))
refused_stage (Leaving peer setup request) psm own v many =
    rw (le-leb 3 (setup.refused + 1) (omega (arith, many))) (sym (closes_stage (Leaving peer setup request) psm own (refused_setup setup) NoAgreement v refl refl))
refused_stage (Closing peer request checked) psm own v many = absurd (omega (arith, many))
refused_stage (Crossed peer request) psm own v many = absurd (omega (arith, many))

pub refused_by : (o : Option Held) (v : Channels) → 2 ≤ refused_on (place_setup o) → on_place (closes NoAgreement) o v ≡ on_place (with_setup_at (λ held setup. refuses held (refused_setup setup))) o v
refused_by None v many = refl
refused_by (Some h) v many = refused_stage h.stage h.psm h.own v many

below : (n : ℕ) → n < 2 → nat_le 3 (n + 1) ≡ false
below zero few = refl
below (suc zero) few = refl
below (suc (suc n)) few = absurd (omega (arith, few))

refusing_stage : (stage : Stage) (psm own : ℕ) (v : Channels) → refused_on (setup_of stage) < 2 → is_some (setup_of stage) ≡ true
    → to_stage (record { psm = psm; own = own; stage = stage }) (with_change refused_setup stage) v ≡ with_setup_at (λ held setup. refuses held (refused_setup setup)) (record { psm = psm; own = own; stage = stage }) v
refusing_stage (Requested request) psm own v few there = cc
refusing_stage (Connected peer setup) psm own v few there = rw (below setup.refused few) refl
refusing_stage (Leaving peer setup request) psm own v few there = rw (below setup.refused few) refl
refusing_stage (Closing peer request checked) psm own v few there = cc
refusing_stage (Crossed peer request) psm own v few there = cc

pub refusing_by : (o : Option Held) (v : Channels) → refused_on (place_setup o) < 2 → is_some (place_setup o) ≡ true
    → on_place (λ held. to_stage held (with_change refused_setup held.stage)) o v ≡ on_place (with_setup_at (λ held setup. refuses held (refused_setup setup))) o v
refusing_by None v few there = refl
refusing_by (Some h) v few there = refusing_stage h.stage h.psm h.own v few there

-- ---- the own options are not acceptable

twice_leb : (n : ℕ) → nat_le 2 n ≡ true → nat_le 3 (n + 1) ≡ true
twice_leb n is = let many = leb-true 2 n is in le-leb 3 (n + 1) (omega (arith, many))

few_leb : (n : ℕ) → nat_le 2 n ≡ false → nat_le 3 (n + 1) ≡ false
few_leb n is = let few = leb-false 2 n is in below n (omega (arith, few))

renewed_stage : (stage : Stage) (psm own : ℕ) (options : Options) (v : Channels) → is_past_asking stage ≡ true
    → closes NoAgreement (record { psm = psm; own = own; stage = stage }) v ≡ with_setup_at (λ held setup. renews options held (renewed_setup setup)) (record { psm = psm; own = own; stage = stage }) v
renewed_stage (Requested request) psm own options v past = cc
renewed_stage (Connected peer setup) psm own options v past = rw (twice_leb setup.renewed past) (sym (closes_stage (Connected peer setup) psm own (renewed_setup setup) NoAgreement v refl refl))
renewed_stage (Leaving peer setup request) psm own options v past = sym (closes_stage (Leaving peer setup request) psm own (renewed_setup setup) NoAgreement v refl refl)
renewed_stage (Closing peer request checked) psm own options v past = cc
renewed_stage (Crossed peer request) psm own options v past = cc

pub renewed_by : (o : Option Held) (options : Options) (v : Channels) → is_past_asking_at o ≡ true
    → on_place (closes NoAgreement) o v ≡ on_place (with_setup_at (λ held setup. renews options held (renewed_setup setup))) o v
renewed_by None options v past = refl
renewed_by (Some h) options v past = renewed_stage h.stage h.psm h.own options v past

renewing_stage : (stage : Stage) (psm own : ℕ) (options : Options) (v : Channels) → is_past_asking stage ≡ false → is_some (setup_of stage) ≡ true
    → asks (Configuration own) (to_stage (record { psm = psm; own = own; stage = stage }) (with_change (asked_anew (new_request v) options) stage) v)
    ≡ with_setup_at (λ held setup. renews options held (renewed_setup setup)) (record { psm = psm; own = own; stage = stage }) v
renewing_stage (Requested request) psm own options v few there = cc
renewing_stage (Connected peer setup) psm own options v few there = rw (few_leb setup.renewed few) refl
renewing_stage (Leaving peer setup request) psm own options v few there = cc
renewing_stage (Closing peer request checked) psm own options v few there = cc
renewing_stage (Crossed peer request) psm own options v few there = cc

pub renewing_by : (o : Option Held) (own : ℕ) (options : Options) (v : Channels) → option_map (λ (h : Held). h.own) o ≡ Some own → is_past_asking_at o ≡ false → is_some (place_setup o) ≡ true
    → asks (Configuration own) (on_place (λ held. to_stage held (with_change (asked_anew (new_request v) options) held.stage)) o v) ≡ on_place (with_setup_at (λ held setup. renews options held (renewed_setup setup))) o v
renewing_by None own options v own_is few there = cc
renewing_by (Some h) own options v own_is few there =
    ap (λ (n : ℕ). asks (Configuration n) (to_stage h (with_change (asked_anew (new_request v) options) h.stage) v)) (sym (same_some h.own own own_is))
    ∙ renewing_stage h.stage h.psm h.own options v few there

-- ---- the own options are accepted

abbrev granted_at : Held → Channels → Channels
granted_at held v = to_stage held (with_change granted_setup held.stage) (forgets (Configuration held.own) v)

granted_stage : (stage : Stage) (psm own : ℕ) (v : Channels) → is_some (setup_of stage) ≡ true
    → opens_if (carries_on (setup_of stage)) (record { psm = psm; own = own; stage = stage }) (granted_at (record { psm = psm; own = own; stage = stage }) v) ≡ with_setup_at grants (record { psm = psm; own = own; stage = stage }) v
granted_stage (Requested request) psm own v there = cc
granted_stage (Connected peer setup) psm own v there = refl
granted_stage (Leaving peer setup request) psm own v there = refl
granted_stage (Closing peer request checked) psm own v there = cc
granted_stage (Crossed peer request) psm own v there = cc

pub granted_by : (o : Option Held) (own : ℕ) (v : Channels) → option_map (λ (h : Held). h.own) o ≡ Some own → carries_on (place_setup o) ≡ false → is_some (place_setup o) ≡ true
    → on_place (λ held. to_stage held (with_change granted_setup held.stage)) o (forgets (Configuration own) v) ≡ on_place (with_setup_at grants) o v
granted_by None own v own_is closed there = cc
granted_by (Some h) own v own_is closed there =
    ap (λ (n : ℕ). to_stage h (with_change granted_setup h.stage) (forgets (Configuration n) v)) (sym (same_some h.own own own_is))
    ∙ ap (λ (b : Bool). opens_if b h (granted_at h v)) (sym closed)
    ∙ granted_stage h.stage h.psm h.own v there

pub opened_by : (o : Option Held) (own psm : ℕ) (v : Channels) → option_map (λ (h : Held). h.own) o ≡ Some own → option_map (λ (h : Held). h.psm) o ≡ Some psm → carries_on (place_setup o) ≡ true → is_some (place_setup o) ≡ true
    → tells (Opened own psm) (on_place (λ held. to_stage held (with_change granted_setup held.stage)) o (forgets (Configuration own) v)) ≡ on_place (with_setup_at grants) o v
opened_by None own psm v own_is psm_is carries there = cc
opened_by (Some h) own psm v own_is psm_is carries there =
    ap (λ (n : ℕ). tells (Opened n psm) (to_stage h (with_change granted_setup h.stage) (forgets (Configuration n) v))) (sym (same_some h.own own own_is))
    ∙ ap (λ (n : ℕ). tells (Opened h.own n) (granted_at h v)) (sym (same_some h.psm psm psm_is))
    ∙ ap (λ (b : Bool). opens_if b h (granted_at h v)) (sym carries)
    ∙ granted_stage h.stage h.psm h.own v there
