-- What the half of a host above its line does, by what its channels and its end do.
use Rattle.std.proofs.Common.{◌≡◌, ◌∙◌, ◌⊎◌, ℕ, ◌-◌, ◌<◌, Bool, true, false, is_some, List, [], ◌∷◌, drop, refl, sym, ap, subst, if◌then◌else◌}
use Rattle.std.specs.Prelude.{Some, None, slice_get}
use Rattle.bt_base.specs.declared.settings.Settings.{Settings}
use Rattle.channel_model.specs.declared.event.ChannelEvent.{ChannelEvent}
use Rattle.channel_model.specs.Value.{Channels}
use Rattle.channel_model.specs.Calls.{next_event, after_event}
use Rattle.channel_model.specs.Giving.{next_given}
use Rattle.l2cap_channels.specs.Machine.{Machine, with_channels}
use Rattle.shelf_model.specs.host_model.specs.Circumstances.{Circumstance}
use Rattle.shelf_model.specs.host_model.specs.Profiles.{Profile}
use Rattle.shelf_model.specs.host_model.specs.Hosts.{tells_events, drives}
use Rattle.bt_host.specs.Calls.{Does, JoinAnswers}
use Rattle.bt_host.specs.Uppers.{Upward, asking, strode}
use Rattle.bt_host.proofs.Calling.{does_none}
use Rattle.bt_host.proofs.Telling.{host_at, none_told, tells_then, strides_then}
use Rattle.bt_host.proofs.Driving.{driven_now, driven_on}

first_is : {X : Type 0} (xs : List X) (x : X) → slice_get xs 0 ≡ Some x → xs ≡ x ∷ drop 1 xs
first_is [] x e = cc
first_is (y ∷ ys) x e = let same : y ≡ x = cc in ap (λ z. z ∷ ys) same

nothing_left : {X : Type 0} (xs : List X) → slice_get xs 0 ≡ None → xs ≡ []
nothing_left [] e = refl
nothing_left (y ∷ ys) e = cc

module _ {E S P : Type 0} (profile : Settings → Profile S) (Answers : P → List Circumstance → P → Type 0) (join : JoinAnswers Answers) (pushing : E → P → List Circumstance → S) where
  pub tell_none : (machine after : Machine) (end : E) (may_say : ℕ) (now : Upward E) (port : P) → record { machine = machine; end = end; may_say = may_say } ≡ now
      → next_event machine.channels ≡ None → after ≡ with_channels machine (after_event machine.channels)
      → Does Answers (λ rest. tells_events (profile now.machine.settings) (asking pushing port now rest)) (asking pushing port (record { machine = after; end = end; may_say = may_say })) port port
  tell_none machine after end may_say now port view none is =
      subst (λ (n : Upward E). Does Answers (λ rest. tells_events (profile n.machine.settings) (asking pushing port n rest)) (asking pushing port (record { machine = after; end = end; may_say = may_say })) port port) view
      (does_none Answers join _ _ port (λ rest.
      let empty = nothing_left machine.channels.events none in
      none_told (profile machine.settings) Answers join machine.channels may_say (λ left. pushing end port left) empty rest
      ∙ ap (λ (v : Channels). host_at v (λ left. pushing end port left) may_say rest) (ap (λ (es : List ChannelEvent). record (machine.channels) { events = drop 1 es }) (sym empty) ∙ ap (λ (m : Machine). m.channels) (sym is))))

  pub tell_more : (machine mid : Machine) (end mid_end : E) (may_say : ℕ) (now new : Upward E) (event : ChannelEvent) (first second last : P) → record { machine = machine; end = end; may_say = may_say } ≡ now
      → next_event machine.channels ≡ Some event → mid ≡ with_channels machine (after_event machine.channels)
      → ((settings : Settings) → Does Answers (λ rest. (profile settings).happened event mid.channels (pushing end first rest)) (pushing mid_end second) first second)
      → Does Answers (λ rest. tells_events (profile mid.settings) (asking pushing second (record { machine = mid; end = mid_end; may_say = may_say }) rest)) (asking pushing last new) second last
      → Does Answers (λ rest. tells_events (profile now.machine.settings) (asking pushing first now rest)) (asking pushing last new) first last
  tell_more machine mid end mid_end may_say now new event first second last view is mid_is happened told =
      subst (λ (n : Upward E). Does Answers (λ rest. tells_events (profile n.machine.settings) (asking pushing first n rest)) (asking pushing last new) first last) view
      (tells_then (profile machine.settings) Answers join machine.channels event (drop 1 machine.channels.events) may_say (λ rest. pushing end first rest) (λ rest. pushing mid_end second rest) (asking pushing last new) first second last
      (first_is machine.channels.events event is)
      (subst (λ (m : Machine). Does Answers (λ rest. (profile machine.settings).happened event m.channels (pushing end first rest)) (pushing mid_end second) first second) mid_is (happened machine.settings))
      (subst (λ (m : Machine). Does Answers (λ rest. tells_events (profile m.settings) (asking pushing second (record { machine = m; end = mid_end; may_say = may_say }) rest)) (asking pushing last new) second last) mid_is told))

  pub stride_on : (machine mid : Machine) (end mid_end : E) (may_say : ℕ) (more : Bool) (now new : Upward E) (first second last : P) → record { machine = machine; end = end; may_say = may_say } ≡ now
      → mid ≡ with_channels machine mid.channels
      → ((settings : Settings) → Does Answers (λ rest. (profile settings).steps machine.channels (pushing end first rest)) (λ rest. record { channels = mid.channels; profile = pushing mid_end second rest; more = more }) first second)
      → Does Answers (λ rest. tells_events (profile mid.settings) (asking pushing second (record { machine = mid; end = mid_end; may_say = may_say }) rest)) (asking pushing last new) second last
      → Does Answers (λ rest. strode (profile now.machine.settings) (asking pushing first now rest)) (λ rest. record { more = more; host = asking pushing last new rest }) first last
  stride_on machine mid end mid_end may_say more now new first second last view mid_is steps told =
      subst (λ (n : Upward E). Does Answers (λ rest. strode (profile n.machine.settings) (asking pushing first n rest)) (λ rest. record { more = more; host = asking pushing last new rest }) first last) view
      (strides_then (profile machine.settings) Answers join machine.channels mid.channels may_say more (λ rest. pushing end first rest) (λ rest. pushing mid_end second rest) (asking pushing last new) first second last
      (steps machine.settings)
      (subst (λ (s : Settings). Does Answers (λ rest. tells_events (profile s) (host_at mid.channels (λ left. pushing mid_end second left) may_say rest)) (asking pushing last new) second last) (ap (λ (m : Machine). m.settings) mid_is) told))

  pub drive_rests : (machine : Machine) (end mid_end : E) (may_say count : ℕ) (now : Upward E) (port : P) → record { machine = machine; end = end; may_say = may_say } ≡ now
      → (count ≡ 0) ⊎ (is_some (next_given machine.channels) ≡ true)
      → ((settings : Settings) (rest : List Circumstance) → (profile settings).sent machine.channels (pushing end port rest) ≡ pushing mid_end port rest)
      → Does Answers (λ rest. drives (profile now.machine.settings) count (asking pushing port now rest)) (asking pushing port (record { machine = machine; end = mid_end; may_say = may_say })) port port
  drive_rests machine end mid_end may_say count now port view still sent =
      subst (λ (n : Upward E). Does Answers (λ rest. drives (profile n.machine.settings) count (asking pushing port n rest)) (asking pushing port (record { machine = machine; end = mid_end; may_say = may_say })) port port) view
      (driven_now (profile machine.settings) Answers join count may_say machine.channels (λ rest. pushing end port rest) (λ rest. pushing mid_end port rest) port still (sent machine.settings))

  pub drive_once : (machine : Machine) (end mid_end : E) (may_say count : ℕ) (more : Bool) (now mid : Upward E) (first second : P) → record { machine = machine; end = end; may_say = may_say } ≡ now
      → 0 < count → is_some (next_given machine.channels) ≡ false → more ≡ false
      → ((settings : Settings) (rest : List Circumstance) → (profile settings).sent machine.channels (pushing end first rest) ≡ pushing mid_end first rest)
      → Does Answers (λ rest. strode (profile machine.settings) (asking pushing first (record { machine = machine; end = mid_end; may_say = may_say }) rest)) (λ rest. record { more = more; host = asking pushing second mid rest }) first second
      → Does Answers (λ rest. drives (profile now.machine.settings) count (asking pushing first now rest)) (asking pushing second mid) first second
  drive_once machine end mid_end may_say count more now mid first second view some none no_more sent stride =
      subst (λ (n : Upward E). Does Answers (λ rest. drives (profile n.machine.settings) count (asking pushing first n rest)) (asking pushing second mid) first second) view
      (driven_on (profile machine.settings) Answers join count may_say machine.channels (λ rest. pushing end first rest) (λ rest. pushing mid_end first rest) more (asking pushing second mid) (asking pushing second mid) first second second
      some none (sent machine.settings) stride
      (does_none Answers join _ _ second (λ rest. ap (λ (b : Bool). if b then drives (profile machine.settings) (count - 1) (asking pushing second mid rest) else asking pushing second mid rest) no_more)))

  pub drive_more : (machine : Machine) (end mid_end : E) (may_say count : ℕ) (more : Bool) (now mid new : Upward E) (first second last : P) → record { machine = machine; end = end; may_say = may_say } ≡ now
      → 0 < count → is_some (next_given machine.channels) ≡ false → more ≡ true → mid.machine ≡ with_channels machine mid.machine.channels
      → ((settings : Settings) (rest : List Circumstance) → (profile settings).sent machine.channels (pushing end first rest) ≡ pushing mid_end first rest)
      → Does Answers (λ rest. strode (profile machine.settings) (asking pushing first (record { machine = machine; end = mid_end; may_say = may_say }) rest)) (λ rest. record { more = more; host = asking pushing second mid rest }) first second
      → Does Answers (λ rest. drives (profile mid.machine.settings) (count - 1) (asking pushing second mid rest)) (asking pushing last new) second last
      → Does Answers (λ rest. drives (profile now.machine.settings) count (asking pushing first now rest)) (asking pushing last new) first last
  drive_more machine end mid_end may_say count more now mid new first second last view some none again mid_is sent stride rest =
      subst (λ (n : Upward E). Does Answers (λ left. drives (profile n.machine.settings) count (asking pushing first n left)) (asking pushing last new) first last) view
      (driven_on (profile machine.settings) Answers join count may_say machine.channels (λ left. pushing end first left) (λ left. pushing mid_end first left) more (asking pushing second mid) (asking pushing last new) first second last
      some none (sent machine.settings) stride
      (subst (λ (b : Bool). Does Answers (λ left. if b then drives (profile machine.settings) (count - 1) (asking pushing second mid left) else asking pushing second mid left) (asking pushing last new) second last) (sym again)
      (subst (λ (s : Settings). Does Answers (λ left. drives (profile s) (count - 1) (asking pushing second mid left)) (asking pushing last new) second last) (ap (λ (m : Machine). m.settings) mid_is) rest)))
