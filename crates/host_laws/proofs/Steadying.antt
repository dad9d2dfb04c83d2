-- All channels of a link in a firing, one after the other, and then the features.
use Rattle.std.proofs.Common.{◌≡◌, ℕ, List, [], ◌∷◌, ◌++◌, map, find, Bool, true, false, cond, ◌||◌, eqb, nat_le, Option, Some, None, option_to_list, is_some, refl, sym, ap, ap₂, subst, ◌∙◌, append_assoc, append-nil}
use Rattle.std.specs.List.{AllByRecursion, list_any}
use Rattle.std.proofs.lemmas.Bool.{eqb-true}
use Rattle.shelf_model.specs.l2cap_signal.specs.Commands.{Command}
use Rattle.push_laws.specs.link_talk.specs.Sayings.{Saying}
use Rattle.channel_laws.specs.channel_model.specs.declared.errand.Errand.{Errand}
use Rattle.channel_laws.specs.channel_model.specs.declared.errand.Errand.TheVariants as errands
use Rattle.channel_laws.specs.channel_model.specs.Value.{Request, Queued, Answer, Ask, Setup, Stage, Leaving, Held, Channels}
use Rattle.channel_laws.specs.channel_model.specs.Changing.{has_own, held_at, is_copy, is_about, queued}
use Rattle.channel_laws.specs.channel_model.specs.Timing.{times_stage, times_held, times_end_at, times_end, loses_features, times_features, times_channels, timed_out}
use Rattle.channel_laws.specs.channel_model.specs.Giving.{connection_at, configuration_at, disconnection_at, on_held, command_of, features_command}
use Rattle.channel_laws.specs.channel_model.proofs.Lookups.{own_of, Distinct, eqb-away, found-has, not_found}
use Rattle.channel_laws.specs.channel_model.proofs.Walking.{found-own}
use Rattle.channel_laws.specs.OwnTalk.{spoken, said_of}
use Rattle.channel_laws.specs.Runs.{features_given_up, said_again, said_on_firing, said_by_channel, fired_channel, said_by_features, said_by_channels, run_of}
use Rattle.channel_laws.proofs.Running.{all-sound}
use Rattle.host_laws.specs.Seen.{spoken_of, queued_said, waiting_in, AllDue}
use Rattle.host_laws.specs.Steady.{IsSteadyOwn, IsSteadyStage, IsSteadyAt, IsSteady, SteadyFirePlainly}
use Rattle.host_laws.proofs.Moving.{spoken-both, commands-spoken}
use Rattle.host_laws.proofs.Firing.{still-said, same-due, now-due, self-due}
use Rattle.host_laws.proofs.Clearing.{Clear, IsOwn, Kept, Half, HalfTo, half-still, not-due, end-at, Mid, Rests, Goes, Both, Whole, stage-mid}

-- ---- one channel

second : (own tries : ℕ) (u : Channels) → Clear own u.queue → Distinct own_of u.held → HalfTo own u (times_end (held_at own u) tries u)
second own tries u clear lone = by (held_at own u) refl
  where
    by : (found : Option Held) → held_at own u ≡ found → HalfTo own u (times_end found tries u)
    by None is = half-still own u u refl refl (record { others = λ other apart. refl; features_is = refl; lone = lone })
    by (Some held) is =
        let same : held.own ≡ own = found-has own_of own u.held held is in
        subst (λ n. HalfTo n u (times_end_at held.stage tries held u)) same (end-at tries u held (found-own own u held is) lone (subst (λ n. Clear n u.queue) (sym same) clear) held.stage refl)

kept-both : (own : ℕ) (u between w : Channels) → Kept own u between → Kept own between w → Kept own u w
kept-both own u between w one two = record { others = λ other apart. two.others other apart ∙ one.others other apart; features_is = two.features_is ∙ one.features_is; lone = two.lone }

rests_whole : (own tries : ℕ) (u between : Channels) → Clear own u.queue → between.identifier ≡ u.identifier → between.queue ≡ u.queue → Kept own u between → Whole own tries u between
rests_whole own tries u between clear same queue_is kept =
    let w = times_end (held_at own between) tries between in
    let half = second own tries between (subst (λ (q : List Queued). Clear own q) (sym queue_is) clear) kept.lone in
    record {
      asks = half.asks;
      queue_is = half.queue_is ∙ ap (λ (q : List Queued). q ++ half.asks) queue_is;
      about = half.about;
      told = spoken-both (said_on_firing own u between) (said_on_firing own between w) ∙ ap₂ (λ (a b : List Saying). a ++ b) (still-said own u between same queue_is) half.told;
      due = half.due;
      kept = kept-both own u between w kept half.kept;
    }

goes_whole : (own tries : ℕ) (u between : Channels) → HalfTo own u between → times_end (held_at own between) tries between ≡ between → Whole own tries u between
goes_whole own tries u between half ends =
    subst (λ (w : Channels). Half own u w (said_on_firing own u between ++ said_on_firing own between w)) (sym ends) (record {
      asks = half.asks;
      queue_is = half.queue_is;
      about = half.about;
      told = spoken-both (said_on_firing own u between) (said_on_firing own between between)
          ∙ (ap₂ (λ (a b : List Saying). a ++ b) half.told (still-said own between between refl refl) ∙ append-nil (waiting_in half.asks between));
      due = half.due;
      kept = half.kept;
    })

steady_so : (tries : ℕ) (stage : Stage) → IsSteadyStage tries stage → (peer : ℕ) (setup : Setup) (request : Request) → stage ≡ Leaving peer setup request → IsSteadyOwn tries request setup.own
steady_so tries stage steady peer setup request is = subst (IsSteadyStage tries) is steady

channel_whole : (own tries : ℕ) (u : Channels) → Clear own u.queue → Distinct own_of u.held → IsSteadyAt tries (held_at own u) → Half own u (fired_channel tries own u) (said_by_channel tries own u)
channel_whole own tries u clear lone steady = by (held_at own u) refl steady
  where
    by : (found : Option Held) → held_at own u ≡ found → IsSteadyAt tries found → Whole own tries u (times_held found tries u)
    by None is calm = rests_whole own tries u u clear refl refl (record { others = λ other apart. refl; features_is = refl; lone = lone })
    by (Some held) is calm = on (stage-mid tries u held (found-own own u held is) lone (subst (λ n. Clear n u.queue) (sym same) clear) held.stage refl (steady_so tries held.stage calm))
      where
        same : held.own ≡ own
        same = found-has own_of own u.held held is

        on : Mid tries u held (found-own own u held is) lone (subst (λ n. Clear n u.queue) (sym same) clear) (times_stage held.stage tries held u) → Whole own tries u (times_stage held.stage tries held u)
        on (Rests w identifier_is queue_is kept) = rests_whole own tries u w clear identifier_is queue_is (subst (λ n. Kept n u w) same kept)
        on (Goes w half ends) = goes_whole own tries u w (subst (λ n. HalfTo n u w) same half) (subst (λ n. times_end (held_at n w) tries w ≡ w) same ends)
        on (Both w half) = subst (λ n. Whole n tries u w) same half

-- ---- what waits of a channel stays while others fire

own_command : (own : ℕ) (errand : Errand) (u w : Channels) → is_about own errand ≡ true → held_at own w ≡ held_at own u → command_of errand w ≡ command_of errand u
own_command own (errands.Connection other) u w is same = let at = eqb-true other own is in ap (λ n. on_held (λ h. connection_at h.stage h) (held_at n w)) at ∙ (ap (on_held (λ h. connection_at h.stage h)) same ∙ ap (λ n. on_held (λ h. connection_at h.stage h) (held_at n u)) (sym at))
own_command own (errands.Configuration other) u w is same = let at = eqb-true other own is in ap (λ n. on_held (λ h. configuration_at h.stage) (held_at n w)) at ∙ (ap (on_held (λ h. configuration_at h.stage)) same ∙ ap (λ n. on_held (λ h. configuration_at h.stage) (held_at n u)) (sym at))
own_command own (errands.Disconnection other) u w is same = let at = eqb-true other own is in ap (λ n. on_held (λ h. disconnection_at h.stage h) (held_at n w)) at ∙ (ap (on_held (λ h. disconnection_at h.stage h)) same ∙ ap (λ n. on_held (λ h. disconnection_at h.stage h) (held_at n u)) (sym at))
own_command own errands.Features u w is same = cc

own_waiting : (own : ℕ) (asks : List Queued) (u w : Channels) → AllByRecursion (IsOwn own) asks → held_at own w ≡ held_at own u → waiting_in asks w ≡ waiting_in asks u
own_waiting own [] u w about same = refl
own_waiting own (Answer command ∷ asks) u w about same = absurd about.0
own_waiting own (Ask errand ∷ asks) u w about same =
    ap (λ (c : Option Command). map spoken (option_to_list c) ++ waiting_in asks w) (own_command own errand u w about.0 same) ∙ ap (λ (rest : List Saying). said_of (Some errand) u ++ rest) (own_waiting own asks u w about.1 same)

own_due : (own : ℕ) (asks : List Queued) (u w : Channels) → AllByRecursion (IsOwn own) asks → held_at own w ≡ held_at own u → AllDue asks u → AllDue asks w
own_due own [] u w about same due = tt
own_due own (Answer command ∷ asks) u w about same due = absurd about.0
own_due own (Ask errand ∷ asks) u w about same due = (ap is_some (own_command own errand u w about.0 same) ∙ due.0, own_due own asks u w about.1 same due.1)

due_both : (xs ys : List Queued) (w : Channels) → AllDue xs w → AllDue ys w → AllDue (xs ++ ys) w
due_both [] ys w one two = two
due_both (x ∷ xs) ys w one two = (one.0, due_both xs ys w one.1 two)

waiting_both : (xs ys : List Queued) (w : Channels) → waiting_in (xs ++ ys) w ≡ waiting_in xs w ++ waiting_in ys w
waiting_both [] ys w = refl
waiting_both (x ∷ xs) ys w = ap (λ (rest : List Saying). queued_said x w ++ rest) (waiting_both xs ys w) ∙ sym (append_assoc (queued_said x w) (waiting_in xs w) (waiting_in ys w))

-- requests about one channel are about no other, nor the features
other_about : (own other : ℕ) (errand : Errand) → is_about own errand ≡ true → eqb own other ≡ false → is_about other errand ≡ false
other_about own other (errands.Connection n) is apart = ap (λ m. eqb m other) (eqb-true n own is) ∙ apart
other_about own other (errands.Configuration n) is apart = ap (λ m. eqb m other) (eqb-true n own is) ∙ apart
other_about own other (errands.Disconnection n) is apart = ap (λ m. eqb m other) (eqb-true n own is) ∙ apart
other_about own other errands.Features is apart = cc

clear_more : (own other : ℕ) (queue asks : List Queued) → Clear other queue → AllByRecursion (IsOwn own) asks → eqb own other ≡ false → Clear other (queue ++ asks)
clear_more own other [] [] clear about apart = tt
clear_more own other [] (Answer command ∷ asks) clear about apart = absurd about.0
clear_more own other [] (Ask errand ∷ asks) clear about apart = (other_about own other errand about.0 apart, clear_more own other [] asks clear about.1 apart)
clear_more own other (one ∷ queue) asks clear about apart = (clear.0, clear_more own other queue asks clear.1 about apart)

abbrev NoFeatures : List Queued → Type 0
NoFeatures queue = list_any (is_copy errands.Features) queue ≡ false

features_apart : (own : ℕ) (errand : Errand) → is_about own errand ≡ true → is_copy errands.Features (Ask errand) ≡ false
features_apart own (errands.Connection n) is = refl
features_apart own (errands.Configuration n) is = refl
features_apart own (errands.Disconnection n) is = refl
features_apart own errands.Features is = cc

features_more : (own : ℕ) (queue asks : List Queued) → NoFeatures queue → AllByRecursion (IsOwn own) asks → NoFeatures (queue ++ asks)
features_more own [] [] none about = refl
features_more own [] (Answer command ∷ asks) none about = absurd about.0
features_more own [] (Ask errand ∷ asks) none about = ap₂ (λ a b. a || b) (features_apart own errand about.0) (features_more own [] asks refl about.1)
features_more own (one ∷ queue) asks none about = by (is_copy errands.Features one) none (λ rest. features_more own queue asks rest about)
  where
    by : (b : Bool) → (b || list_any (is_copy errands.Features) queue) ≡ false → (NoFeatures queue → NoFeatures (queue ++ asks)) → (b || list_any (is_copy errands.Features) (queue ++ asks)) ≡ false
    by true is later = cc
    by false is later = later is

-- ---- all of them

record All (owns : List ℕ) (u w : Channels) (said : List Saying) : Type 0 where
  asks : List Queued
  queue_is : w.queue ≡ u.queue ++ asks
  told : spoken_of said ≡ waiting_in asks w
  due : AllDue asks w
  others : (other : ℕ) → AllByRecursion (λ own. eqb own other ≡ false) owns → held_at other w ≡ held_at other u

abbrev Differ : List ℕ → Type 0
Differ [] = Unit {0}
Differ (own ∷ owns) = AllByRecursion (λ other. eqb own other ≡ false) owns × Differ owns

gave_up : (before : Request) → spoken_of (features_given_up (Some before) None) ≡ []
gave_up before = refl

features_all : (tries : ℕ) (u : Channels) → NoFeatures u.queue → All [] u (times_features u.features tries u) (said_by_features tries u)
features_all tries u none = by u.features refl
  where
    by : (features : Option Request) → u.features ≡ features → (let w = times_features features tries u in All [] u w (said_again errands.Features u w ++ features_given_up features w.features))
    by None is = record {
      asks = [];
      queue_is = sym (append-nil u.queue);
      told = ap₂ (λ (a : List Saying) (f : Option Request). spoken_of (a ++ features_given_up None f)) (same-due errands.Features u u refl) is;
      due = tt;
      others = λ other apart. refl;
    }
    by (Some request) is =
        subst (λ (w : Channels). All [] u w (said_again errands.Features u w ++ features_given_up (Some request) w.features)) (sym (not-due tries errands.Features request loses_features u none)) (on (nat_le tries request.given))
      where
        on : (over : Bool) → (let w = cond over (loses_features u) (queued (Ask errands.Features) u) in All [] u w (said_again errands.Features u w ++ features_given_up (Some request) w.features))
        on true =
            let w = loses_features u in
            record { asks = []; queue_is = sym (append-nil u.queue); told = ap (λ (a : List Saying). spoken_of (a ++ features_given_up (Some request) None)) (same-due errands.Features u w refl); due = tt; others = λ other apart. refl }
        on false =
            let w = queued (Ask errands.Features) u in
            record {
              asks = Ask errands.Features ∷ [];
              queue_is = refl;
              told = ap₂ (λ (a : List Saying) (f : Option Request). spoken_of (a ++ features_given_up (Some request) f)) (now-due errands.Features u w refl (self-due errands.Features u refl) none) is
                  ∙ (ap spoken_of (append-nil (said_of (Some errands.Features) w)) ∙ (commands-spoken (command_of errands.Features w) ∙ sym (append-nil (said_of (Some errands.Features) w))));
              due = (ap (λ f. is_some (features_command f)) is, tt);
              others = λ other apart. refl;
            }

abbrev fired_all : ℕ → List ℕ → Channels → Channels
fired_all tries owns u = let after = times_channels tries owns u in times_features after.features tries after

clear_rest : (own : ℕ) (owns : List ℕ) (queue asks : List Queued) → AllByRecursion (λ n. Clear n queue) owns → AllByRecursion (IsOwn own) asks → AllByRecursion (λ other. eqb own other ≡ false) owns → AllByRecursion (λ n. Clear n (queue ++ asks)) owns
clear_rest own [] queue asks clear about apart = tt
clear_rest own (other ∷ owns) queue asks clear about apart = (clear_more own other queue asks clear.0 about apart.0, clear_rest own owns queue asks clear.1 about apart.1)

steady_rest : (tries own : ℕ) (owns : List ℕ) (u w : Channels) → Kept own u w → AllByRecursion (λ n. IsSteadyAt tries (held_at n u)) owns → AllByRecursion (λ other. eqb own other ≡ false) owns → AllByRecursion (λ n. IsSteadyAt tries (held_at n w)) owns
steady_rest tries own [] u w kept steady apart = tt
steady_rest tries own (other ∷ owns) u w kept steady apart = (subst (IsSteadyAt tries) (sym (kept.others other apart.0)) steady.0, steady_rest tries own owns u w kept steady.1 apart.1)

apart_all : (own : ℕ) (owns : List ℕ) → AllByRecursion (λ other. eqb own other ≡ false) owns → AllByRecursion (λ other. eqb other own ≡ false) owns
apart_all own [] apart = tt
apart_all own (other ∷ owns) apart = (eqb-away own other apart.0, apart_all own owns apart.1)

all_fire : (tries : ℕ) (owns : List ℕ) (u : Channels) → Differ owns → AllByRecursion (λ n. Clear n u.queue) owns → NoFeatures u.queue → AllByRecursion (λ n. IsSteadyAt tries (held_at n u)) owns → Distinct own_of u.held
    → All owns u (fired_all tries owns u) (said_by_channels tries owns u)
all_fire tries [] u differ clear none steady lone = features_all tries u none
all_fire tries (own ∷ owns) u (apart, differ) (clear, clears) none (steady, steadies) lone =
    let mid = fired_channel tries own u in
    let half = channel_whole own tries u clear lone steady in
    let rest = all_fire tries owns mid differ (subst (λ (q : List Queued). AllByRecursion (λ n. Clear n q) owns) (sym half.queue_is) (clear_rest own owns u.queue half.asks clears half.about apart))
    (subst NoFeatures (sym half.queue_is) (features_more own u.queue half.asks none half.about)) (steady_rest tries own owns u mid half.kept steadies apart) half.kept.lone in
    let w = fired_all tries owns mid in
    let still : held_at own w ≡ held_at own mid = rest.others own (apart_all own owns apart) in
    record {
      asks = half.asks ++ rest.asks;
      queue_is = rest.queue_is ∙ (ap (λ (q : List Queued). q ++ rest.asks) half.queue_is ∙ append_assoc u.queue half.asks rest.asks);
      told = spoken-both (said_by_channel tries own u) (said_by_channels tries owns mid)
          ∙ (ap₂ (λ (a b : List Saying). a ++ b) (half.told ∙ sym (own_waiting own half.asks mid w half.about still)) rest.told ∙ sym (waiting_both half.asks rest.asks w));
      due = due_both half.asks rest.asks w (own_due own half.asks mid w half.about still half.due) rest.due;
      others = λ other away. rest.others other away.1 ∙ half.kept.others other away.0;
    }

-- ---- from a queue that is empty

none_other : (n : ℕ) (hs : List Held) → find (has_own n) hs ≡ None → AllByRecursion (λ other. eqb n other ≡ false) (map own_of hs)
none_other n [] none = tt
none_other n (held ∷ hs) none = let apart = not_found (eqb held.own n) held (find (has_own n) hs) none in (eqb-away held.own n apart.0, none_other n hs apart.1)

owns_differ : (hs : List Held) → Distinct own_of hs → Differ (map own_of hs)
owns_differ [] lone = tt
owns_differ (held ∷ hs) (alone, lone) = (none_other held.own hs alone, owns_differ hs lone)

each_clear : (owns : List ℕ) (queue : List Queued) → queue ≡ [] → AllByRecursion (λ n. Clear n queue) owns
each_clear [] queue none = tt
each_clear (own ∷ owns) queue none = (subst (λ (q : List Queued). Clear own q) (sym none) tt, each_clear owns queue none)

each_steady : (tries : ℕ) (owns : List ℕ) (v : Channels) → IsSteady tries v → AllByRecursion (λ n. IsSteadyAt tries (held_at n v)) owns
each_steady tries [] v steady = tt
each_steady tries (own ∷ owns) v steady = (steady own, each_steady tries owns v steady)

pub steady_fire_plainly : SteadyFirePlainly
steady_fire_plainly policy list steady empty =
    let v = (run_of policy list).value in
    let lone = (all-sound policy list).core.lone in
    let owns = map own_of v.held in
    let w = timed_out policy v in
    let all = all_fire policy.tries owns v (owns_differ v.held lone) (each_clear owns v.queue empty) (subst NoFeatures (sym empty) refl) (each_steady policy.tries owns v steady) lone in
    let queue_is : w.queue ≡ all.asks = all.queue_is ∙ ap (λ (q : List Queued). q ++ all.asks) empty in
    record { waits = ap (λ (q : List Queued). waiting_in q w) queue_is ∙ sym all.told; due = subst (λ (q : List Queued). AllDue q w) (sym queue_is) all.due }
