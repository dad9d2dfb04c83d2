-- Steps of a profile, until it waits.
use Rattle.std.proofs.Common.{◌≡◌, ◌∙◌, ◌⊎◌, inl, inr, ℕ, zero, suc, ◌-◌, ◌<◌, Bool, true, false, is_some, List, refl, sym, ap, true≢false, arith, if◌then◌else◌}
use Rattle.channel_model.specs.Value.{Channels}
use Rattle.channel_model.specs.Giving.{next_given}
use Rattle.shelf_model.specs.host_model.specs.Circumstances.{Circumstance}
use Rattle.shelf_model.specs.host_model.specs.Profiles.{Profile}
use Rattle.shelf_model.specs.host_model.specs.Hosts.{Host, settles, drives, goes_by}
use Rattle.bt_host.specs.Calls.{Does, JoinAnswers}
use Rattle.bt_host.specs.Uppers.{Strode, strode}
use Rattle.bt_host.proofs.Calling.{does_none, does_then, does_map, does_from}
use Rattle.bt_host.proofs.Telling.{host_at}

-- what comes of a stride that was taken
abbrev goes_with : {S : Type 0} → Profile S → ℕ → Strode S → Host S
goes_with A count taken = if taken.more then drives A count taken.host else taken.host

given_goes : {S : Type 0} (A : Profile S) (given test : Bool) (count : ℕ) (host : Host S) → given ≡ test → test ≡ false
    → (if given then host else goes_by A (λ next. drives A count next) (A.steps host.channels host.profile) host) ≡ goes_with A count (strode A host)
given_goes A true test count host is off = absurd (true≢false (is ∙ off))
given_goes A false test count host is off = refl

given_stays : {S : Type 0} (given : Bool) (host other : Host S) → given ≡ true → (if given then host else other) ≡ host
given_stays true host other is = refl
given_stays false host other is = absurd (true≢false (sym is))

module _ {S P : Type 0} (A : Profile S) (Answers : P → List Circumstance → P → Type 0) (join : JoinAnswers Answers) where
  stays : (count : ℕ) (host : Host S) → (count ≡ 0) ⊎ (is_some (next_given host.channels) ≡ true) → drives A count host ≡ settles A host
  unfolding drives
  stays zero host still = refl
  stays (suc count) host (inl none) = absurd (omega (arith, none))
  stays (suc count) host (inr given) = given_stays (is_some (next_given host.channels)) (settles A host) _ given

  goes_once : (count : ℕ) (host : Host S) → is_some (next_given host.channels) ≡ false → drives A (suc count) host ≡ goes_with A count (strode A (settles A host))
  unfolding drives
  goes_once count host none = given_goes A (is_some (next_given host.channels)) (is_some (next_given host.channels)) count (settles A host) refl none

  goes : (count : ℕ) (host : Host S) → 0 < count → is_some (next_given host.channels) ≡ false → drives A count host ≡ goes_with A (count - 1) (strode A (settles A host))
  goes count host some none =
      let one : count ≡ suc (count - 1) = omega (arith, some) in ap (λ (n : ℕ). drives A n host) one ∙ goes_once (count - 1) host none

  -- no step is taken
  pub driven_now : (count may_say : ℕ) (v : Channels) (old mid : List Circumstance → S) (port : P) → (count ≡ 0) ⊎ (is_some (next_given v) ≡ true) → ((rest : List Circumstance) → A.sent v (old rest) ≡ mid rest)
      → Does Answers (λ rest. drives A count (host_at v old may_say rest)) (host_at v mid may_say) port port
  driven_now count may_say v old mid port still sent =
      does_none Answers join _ _ port (λ rest. stays count (host_at v old may_say rest) still ∙ ap (λ (p : S). record { channels = v; profile = p; may_say = may_say }) (sent rest))

  -- the last one, and one more
  pub driven_on : (count may_say : ℕ) (v : Channels) (old mid : List Circumstance → S) (more : Bool) (after : List Circumstance → Host S) (last : List Circumstance → Host S) (first second third : P) → 0 < count
      → is_some (next_given v) ≡ false → ((rest : List Circumstance) → A.sent v (old rest) ≡ mid rest)
      → Does Answers (λ rest. strode A (host_at v mid may_say rest)) (λ rest. record { more = more; host = after rest }) first second
      → Does Answers (λ rest. if more then drives A (count - 1) (after rest) else after rest) last second third
      → Does Answers (λ rest. drives A count (host_at v old may_say rest)) last first third
  driven_on count may_say v old mid more after last first second third some none sent one two =
      does_from Answers _ (λ rest. goes_with A (count - 1) (strode A (host_at v mid may_say rest))) last first third
      (λ rest. goes count (host_at v old may_say rest) some none ∙ ap (λ (p : S). goes_with A (count - 1) (strode A (record { channels = v; profile = p; may_say = may_say }))) (sent rest))
      (does_then Answers join _ (λ rest. if more then drives A (count - 1) (after rest) else after rest) last first second third
      (does_map Answers (λ (taken : Strode S). goes_with A (count - 1) taken) _ _ first second one) two)
