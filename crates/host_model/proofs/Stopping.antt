-- Steps behind the last one change nothing.
use Rattle.std.proofs.Common.{true≢false, ap, sym, ◌∙◌, ◌≡◌, ℕ, zero, suc, ◌+◌, Bool, true, false, is_some, refl, suc-add, if◌then◌else◌}
use Rattle.channel_model.specs.Giving.{next_given}
use Rattle.host_model.specs.Profiles.{Profile}
use Rattle.host_model.specs.Hosts.{Host, settles, strides, drives, goes_by}
use Rattle.host_model.specs.Waiting.{waits_within, waits_by}

module _ {P : Type 0} (A : Profile P) where
  strides_same : (test : Bool) (next : Host P) (f g : Host P → Host P) (w : Host P → Bool) → ((host : Host P) → w host ≡ true → f host ≡ g host)
      → (if test then w next else true) ≡ true → (if test then f next else next) ≡ (if test then g next else next)
  strides_same true next f g w same waits = same next waits
  strides_same false next f g w same waits = refl

  goes_same : (test : Bool) (host : Host P) (f g : Host P → Host P) (w : Host P → Bool) → ((next : Host P) → w next ≡ true → f next ≡ g next)
      → (if test then true else waits_by A w (A.steps host.channels host.profile) host) ≡ true
      → (if test then host else goes_by A f (A.steps host.channels host.profile) host) ≡ (if test then host else goes_by A g (A.steps host.channels host.profile) host)
  goes_same true host f g w same waits = refl
  goes_same false host f g w same waits = let stride = A.steps host.channels host.profile in strides_same stride.more (strides A stride host) f g w same waits

  pub more_is_same : (count more : ℕ) (host : Host P) → waits_within A count host ≡ true → drives A (count + more) host ≡ drives A count host
  unfolding drives waits_within
  more_is_same zero more host waits = absurd (true≢false (sym waits))
  more_is_same (suc count) more host waits =
      let now = settles A host in
      ap (λ (k : ℕ). drives A k host) (suc-add count more)
      ∙ goes_same (is_some (next_given now.channels)) now (λ next. drives A (count + more) next) (λ next. drives A count next) (λ next. waits_within A count next)
      (λ next still. more_is_same count more next still) waits
