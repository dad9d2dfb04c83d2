-- What the shelf of a client shows behind one thing that happens, exactly: the first step for which the client is asked shows it, or none does.
use Rattle.std.proofs.Common.{◌≡◌, ◌&&◌, ℕ, suc, Bool, true, false, not, List, [], ◌∷◌, Option, Some, None, is_some, refl, sym, ap, subst, ◌∙◌, if◌then◌else◌}
use Rattle.outcome_laws.specs.cause_laws.specs.bt_base.specs.declared.settings.Settings.{Settings}
use Rattle.outcome_laws.specs.cause_laws.specs.push_terms.specs.declared.outcome.Outcome.{Outcome}
use Rattle.outcome_laws.specs.cause_laws.specs.channel_model.specs.Giving.{next_given}
use Rattle.outcome_laws.specs.cause_laws.specs.push_model.specs.Client.{Client}
use Rattle.outcome_laws.specs.cause_laws.specs.push_model.specs.Laws.{Asks, done}
use Rattle.outcome_laws.specs.cause_laws.specs.push_model.specs.Responding.{is_object}
use Rattle.outcome_laws.specs.cause_laws.specs.push_model.specs.Shown.{first_of, steps_show, shows}
use Rattle.outcome_laws.specs.cause_laws.specs.push_model.specs.Steps.{Part, Step, Wait, MakeLink, AskFeatures, OpenChannel, SendSdu, CloseChannel, BreakLink, Ended, NoMemory, steps}
use Rattle.outcome_laws.specs.cause_laws.specs.push_model.proofs.ShownLaws.{outcomes_are_shown}
use Rattle.outcome_laws.specs.cause_laws.specs.host_model.specs.Clients.{ClientProfile, client_profile, fitted}
use Rattle.outcome_laws.specs.cause_laws.specs.host_model.specs.Hosts.{Host, settles, strides, drives}
use Rattle.outcome_laws.specs.cause_laws.specs.host_model.specs.Profiles.{Profile}
use Rattle.outcome_laws.specs.cause_laws.specs.host_model.proofs.Keeping.{Keeps, tells, drives_on}
use Rattle.outcome_laws.specs.cause_laws.specs.host_laws.specs.Feeds.{Steps}
use Rattle.outcome_laws.specs.cause_laws.specs.host_laws.specs.Pushing.{client_behind, step_pushed}
use Rattle.outcome_laws.specs.cause_laws.specs.host_laws.proofs.Pushing.{feed_so}
use Rattle.outcome_laws.specs.cause_laws.proofs.Clients.{is_shelf, is_heard, any_heard, sdu_shown, Within, Came, none_later}
use Rattle.outcome_laws.specs.cause_laws.proofs.Profiles.{keeps_came}
use Rattle.coming_laws.specs.Shelf.{asked_shows}
use Rattle.coming_laws.proofs.Calm.{is_unshelf, Calmly, steps_calmly, each_came, sent_same, stride_came, stride_calm, drives_calm}

-- ---- a step that shows it

step_shows : (step : Step) (parts : List Part) (c : Client) (outcome : Outcome) → (step ≡ MakeLink → ⊥) → (done (Asks parts) c).cause ≡ Some outcome → (client_behind (step_pushed step parts) c).cause ≡ Some outcome
step_shows MakeLink parts c outcome other is = absurd (other refl)
step_shows Wait parts c outcome other is = is
step_shows AskFeatures parts c outcome other is = is
step_shows (OpenChannel psm) parts c outcome other is = is
step_shows (SendSdu psm payload) parts c outcome other is = is
step_shows (CloseChannel psm) parts c outcome other is = is
step_shows BreakLink parts c outcome other is = is
step_shows (Ended one) parts c outcome other is = is
step_shows NoMemory parts c outcome other is = is

shown_of : (object a b : Bool) (shown : Option Outcome) (outcome : Outcome) → (if a && (b && object) then shown else None) ≡ Some outcome → object ≡ true
shown_of true a b shown outcome is = refl
shown_of false true true shown outcome is = cc
shown_of false true false shown outcome is = cc
shown_of false false b shown outcome is = cc

no_link : (c : Client) (parts : List Part) (outcome : Outcome) → steps_show c parts ≡ Some outcome → (steps c parts).step ≡ MakeLink → ⊥
no_link c parts outcome is at =
    let on : is_object c.stage ≡ true = shown_of (is_object c.stage) (not c.failed) (not c.given) _ outcome is in
    let off : is_object c.stage ≡ false = subst (λ (step : Step). Calmly c (record { client = (steps c parts).client; step = step; left = parts })) at (steps_calmly c parts) in
    let never : true ≡ false = sym on ∙ off in
    absurd cc

pub none_both : (now : Option Outcome) → Within is_shelf now → Within is_unshelf now → now ≡ None
none_both None one two = refl
none_both (Some outcome) one two = let never : not true ≡ true = subst (λ (b : Bool). not b ≡ true) one two in cc

module _ (settings : Settings) where
  abbrev C : Profile ClientProfile
  C = client_profile settings

  -- an outcome stays
  abbrev Has : Outcome → ClientProfile → Type 0
  Has outcome p = Came is_heard (Some outcome) p.client.cause

  keeps_has : (outcome : Outcome) → Keeps (client_profile settings) (λ (p : ClientProfile). Came is_heard (Some outcome) p.client.cause)
  keeps_has outcome = keeps_came settings is_heard any_heard sdu_shown (Some outcome)

  stride_shows : (now : Host ClientProfile) (outcome : Outcome) → now.profile.client.cause ≡ None → steps_show now.profile.client (fitted now.profile) ≡ Some outcome → ((client_profile settings).steps now.channels now.profile).profile.client.cause ≡ Some outcome
  stride_shows now outcome none is =
      let p = now.profile in
      let asks = Asks (fitted p) in
      let shown : (done asks p.client).cause ≡ Some outcome = outcomes_are_shown (asks ∷ []) p.client none ∙ (none_later (shows asks p.client) ∙ is) in
      ap (λ (c : Client). c.cause) (feed_so settings p (Steps now.channels)) ∙ step_shows (steps p.client (fitted p)).step (fitted p) p.client outcome (no_link p.client (fitted p) outcome is) shown

  -- ---- asked for its steps

  asked_of : Bool → Option Outcome → Option Outcome
  asked_of given shown = if given then None else shown

  given_none : {X : Type 0} (outcome : Outcome) → None ≡ Some outcome → X
  given_none outcome is = absurd cc

  -- what the first shows comes about
  drives_shows : (count : ℕ) (host : Host ClientProfile) (outcome : Outcome) → host.profile.client.cause ≡ None → asked_shows host ≡ Some outcome → (drives (client_profile settings) (suc count) host).profile.client.cause ≡ Some outcome
  unfolding drives
  drives_shows count host outcome none is =
      let now : Host ClientProfile = settles C host in
      let stride = C.steps now.channels now.profile in
      let on = strides C stride now in
      let same = sent_same settings host.profile.submitted host.channels host.profile in
      let has : steps_show now.profile.client (fitted now.profile) ≡ Some outcome → Came is_heard (Some outcome) stride.profile.client.cause = λ shown. stride_shows now outcome (same.1 ∙ none) shown in
      let told : steps_show now.profile.client (fitted now.profile) ≡ Some outcome → Came is_heard (Some outcome) on.profile.client.cause = λ shown. tells C (λ (p : ClientProfile). Came is_heard (Some outcome) p.client.cause) (keeps_has outcome) (record now { channels = stride.channels; profile = stride.profile }) (has shown) in
      by (is_some (next_given now.channels)) stride.more now (drives C count on) on (steps_show now.profile.client (fitted now.profile)) is
      (λ shown. drives_on C (λ (p : ClientProfile). Came is_heard (Some outcome) p.client.cause) (keeps_has outcome) count on (told shown)) told
    where
      by : (given again : Bool) (stay go on : Host ClientProfile) (shown : Option Outcome) → (if given then None else shown) ≡ Some outcome → (shown ≡ Some outcome → go.profile.client.cause ≡ Some outcome) → (shown ≡ Some outcome → on.profile.client.cause ≡ Some outcome)
          → (if given then stay else (if again then go else on)).profile.client.cause ≡ Some outcome
      by true again stay go on shown is goes stays = given_none outcome is
      by false true stay go on shown is goes stays = goes is
      by false false stay go on shown is goes stays = stays is

  -- and where it shows none, none does
  drives_none : (count : ℕ) (host : Host ClientProfile) → host.profile.client.cause ≡ None → asked_shows host ≡ None → Came is_unshelf None (drives (client_profile settings) (suc count) host).profile.client.cause
  unfolding drives
  drives_none count host none is =
      let now : Host ClientProfile = settles C host in
      let stride = C.steps now.channels now.profile in
      let on = strides C stride now in
      let same = sent_same settings host.profile.submitted host.channels host.profile in
      let settled : Came is_unshelf None now.profile.client.cause = subst (Came is_unshelf None) (sym (same.1 ∙ none)) tt in
      let told : steps_show now.profile.client (fitted now.profile) ≡ None → Came is_unshelf None on.profile.client.cause =
      λ shown. each_came settings None stride.channels.events stride.channels stride.profile (stride_came settings None now (subst (Within is_unshelf) (sym shown) tt) settled) in
      by (is_some (next_given now.channels)) stride.more now (drives C count on) on (steps_show now.profile.client (fitted now.profile)) is settled
      (λ more shown. drives_calm settings None count on (stride_calm settings now more) (told shown)) told
    where
      by : (given again : Bool) (stay go on : Host ClientProfile) (shown : Option Outcome) → (if given then None else shown) ≡ None → Came is_unshelf None stay.profile.client.cause → (again ≡ true → shown ≡ None → Came is_unshelf None go.profile.client.cause)
          → (shown ≡ None → Came is_unshelf None on.profile.client.cause) → Came is_unshelf None (if given then stay else (if again then go else on)).profile.client.cause
      by true again stay go on shown is settled goes stays = settled
      by false true stay go on shown is settled goes stays = goes refl is
      by false false stay go on shown is settled goes stays = stays is

  -- without a step
  pub settled_same : (host : Host ClientProfile) → (drives (client_profile settings) 0 host).profile.client.cause ≡ host.profile.client.cause
  unfolding drives
  settled_same host = (sent_same settings host.profile.submitted host.channels host.profile).1

  -- so it is this one, where nothing showed an outcome before
  pub drives_exactly : (count : ℕ) (host : Host ClientProfile) (now : Option Outcome) → now ≡ (drives (client_profile settings) (suc count) host).profile.client.cause → Came is_shelf host.profile.client.cause now → now ≡ first_of host.profile.client.cause (asked_shows host)
  drives_exactly count host now is came = by host.profile.client.cause (asked_shows host) refl refl came
    where
      by : (old shown : Option Outcome) → host.profile.client.cause ≡ old → asked_shows host ≡ shown → Came is_shelf old now → now ≡ first_of old shown
      by (Some outcome) shown here asked came' = came'
      by None None here asked came' = none_both now came' (subst (Within is_unshelf) (sym is) (drives_none count host here asked))
      by None (Some outcome) here asked came' = is ∙ drives_shows count host outcome here asked
