-- The packets that stand in a server are those of the channel of objects that is not over.
use Rattle.std.proofs.Common.{◌≡◌, ℕ, Bool, true, false, cond, eqb, ◌&&◌, ◌||◌, List, [], ◌∷◌, ◌++◌, Some, None, inl, inr, refl, sym, ap, ap₂, subst, ◌∙◌, append_assoc, append-nil}
use Rattle.std.specs.Prelude.{◌⊎◌}
use Rattle.std.specs.List.{AllByRecursion, cons_option, list_any}
use Rattle.std.proofs.lemmas.Bool.{eqb-true, eq-eqb}
use Rattle.std.proofs.lemmas.List.Concat.{flat_map-append}
use Rattle.std.proofs.lemmas.List.Elements.{filter_map-append}
use Rattle.std.proofs.lemmas.List.Folds.{list_any-append}
use Rattle.std.proofs.lemmas.List.Sums.{fold-append}
use Rattle.host_laws.specs.shelf_model.specs.capture.specs.Histories.{EachAfter}
use Rattle.host_laws.specs.channel_laws.specs.channel_model.specs.declared.event.CloseReason.{CloseReason}
use Rattle.host_laws.specs.channel_laws.specs.channel_model.specs.declared.event.ChannelEvent.{ChannelEvent}
use Rattle.host_laws.specs.channel_laws.specs.channel_model.specs.declared.event.ChannelEvent.TheVariants as events
use Rattle.host_laws.specs.channel_laws.specs.talk_laws.proofs.Owning.{either_false, eqb_other}
use Rattle.host_laws.specs.push_laws.specs.push_model.specs.Server.{object_psm}
use Rattle.host_laws.specs.push_laws.specs.Occurrences as push
use Rattle.host_laws.specs.shelf_model.specs.host_model.specs.Servers.{is_told}
use Rattle.host_laws.specs.Feeds.{Tiding, Brings, Tells, Turns}
use Rattle.host_laws.specs.Serving.{event_served}
use Rattle.host_laws.specs.Told.{event_told, events_told}
use Rattle.host_laws.proofs.Gains.{state, states}
use Rattle.host_laws.proofs.Gaining.{served_by, all_served, NoTurn}
use Rattle.following_laws.specs.Following.{object_told, object_sdus_told, ends_objects, is_object_over, OthersAreOver, FollowsOthers}

-- ---- one tiding more

abbrev pub packets : List Tiding → List (List ℕ)
packets tidings = states [] (all_served tidings)

packets_more : (past : List Tiding) (one : Tiding) → packets (past ++ one ∷ []) ≡ states (packets past) (served_by one)
packets_more past one =
    ap (states []) (flat_map-append served_by past (one ∷ []) ∙ ap (λ (l : List push.Occurrence). all_served past ++ l) (append-nil (served_by one)))
    ∙ fold-append state [] (all_served past) (served_by one)

told_more : (own : ℕ) (past : List Tiding) (one : Tiding) → object_sdus_told own (past ++ one ∷ []) ≡ object_sdus_told own past ++ cons_option (object_told own one) []
told_more own past one = filter_map-append (object_told own) past (one ∷ [])

over_more : (own : ℕ) (past : List Tiding) (one : Tiding) → is_object_over own (past ++ one ∷ []) ≡ (is_object_over own past || list_any (ends_objects own) (events_told (one ∷ [])))
over_more own past one = ap (list_any (ends_objects own)) (filter_map-append event_told past (one ∷ [])) ∙ list_any-append (ends_objects own) (events_told past) (events_told (one ∷ []))

or_off : (b : Bool) → (b || false) ≡ b
or_off true = refl
or_off false = refl

-- ---- what stands there

abbrev pub IsCurrent : List Tiding → Type 0
IsCurrent past = (own : ℕ) → OthersAreOver own past → is_object_over own past ≡ false → packets past ≡ object_sdus_told own past

-- an SDU comes on a channel that is not over
abbrev pub BringsOpen : List Tiding → Tiding → Type 0
BringsOpen past (Brings own psm sdu) = is_object_over own past ≡ false
BringsOpen past (Tells event) = Unit {0}
BringsOpen past (Turns event) = Unit {0}

-- a tiding that brings and closes nothing of objects
record IsNothing (past : List Tiding) (one : Tiding) : Type 0 where
  packets_are : packets (past ++ one ∷ []) ≡ packets past
  told_are : (own : ℕ) → object_sdus_told own (past ++ one ∷ []) ≡ object_sdus_told own past
  over_are : (own : ℕ) → is_object_over own (past ++ one ∷ []) ≡ is_object_over own past

nothing_more : (past : List Tiding) (one : Tiding) → IsNothing past one → IsCurrent past → IsCurrent (past ++ one ∷ [])
nothing_more past one nothing current own others open' =
    nothing.packets_are ∙ (current own before (sym (nothing.over_are own) ∙ open') ∙ sym (nothing.told_are own))
  where
    before : OthersAreOver own past
    before other apart = by (others other apart)
      where
        by : (object_sdus_told other (past ++ one ∷ []) ≡ []) ⊎ (is_object_over other (past ++ one ∷ []) ≡ true) → (object_sdus_told other past ≡ []) ⊎ (is_object_over other past ≡ true)
        by (inl none) = inl (sym (nothing.told_are other) ∙ none)
        by (inr over) = inr (sym (nothing.over_are other) ∙ over)

-- ---- an SDU comes

module _ (past : List Tiding) (at psm : ℕ) (sdu : List ℕ) where
  abbrev brought : Tiding
  brought = Brings at psm sdu

  not_over : (own : ℕ) → is_object_over own (past ++ Brings at psm sdu ∷ []) ≡ is_object_over own past
  not_over own = over_more own past (Brings at psm sdu) ∙ or_off (is_object_over own past)

  aside_more : eqb psm object_psm ≡ false → IsNothing past (Brings at psm sdu)
  aside_more aside = record {
    packets_are = packets_more past (Brings at psm sdu) ∙ ap (λ (b : Bool). cond b (packets past ++ sdu ∷ []) (packets past)) aside;
    told_are = λ own. told_more own past (Brings at psm sdu) ∙ (ap (λ (b : Bool). object_sdus_told own past ++ cons_option (cond (eqb at own && b) (Some sdu) None) []) aside ∙ by own (eqb at own));
    over_are = not_over;
  }
    where
      by : (own : ℕ) (here : Bool) → object_sdus_told own past ++ cons_option (cond (here && false) (Some sdu) None) [] ≡ object_sdus_told own past
      by own true = append-nil (object_sdus_told own past)
      by own false = append-nil (object_sdus_told own past)

  told_now : (own : ℕ) (here : Bool) → eqb at own ≡ here → eqb psm object_psm ≡ true → object_sdus_told own (past ++ Brings at psm sdu ∷ []) ≡ object_sdus_told own past ++ cons_option (cond here (Some sdu) None) []
  told_now own true here is = told_more own past (Brings at psm sdu) ∙ ap₂ (λ (a b : Bool). object_sdus_told own past ++ cons_option (cond (a && b) (Some sdu) None) []) here is
  told_now own false here is = told_more own past (Brings at psm sdu) ∙ ap₂ (λ (a b : Bool). object_sdus_told own past ++ cons_option (cond (a && b) (Some sdu) None) []) here is

  object_more : eqb psm object_psm ≡ true → OthersAreOver at past → is_object_over at past ≡ false → IsCurrent past → IsCurrent (past ++ Brings at psm sdu ∷ [])
  object_more is behind open' current own others shut = by (eqb at own) refl
    where
      now : packets (past ++ Brings at psm sdu ∷ []) ≡ packets past ++ sdu ∷ []
      now = packets_more past (Brings at psm sdu) ∙ ap (λ (b : Bool). cond b (packets past ++ sdu ∷ []) (packets past)) is

      never : {X : Type 0} → (object_sdus_told at (past ++ Brings at psm sdu ∷ []) ≡ []) ⊎ (is_object_over at (past ++ Brings at psm sdu ∷ []) ≡ true) → X
      never (inl none) = none_more (object_sdus_told at past) (sym (told_now at true (eq-eqb at at refl) is) ∙ none)
        where
          none_more : {X : Type 0} (list : List (List ℕ)) → list ++ sdu ∷ [] ≡ [] → X
          none_more [] some = cc
          none_more (first ∷ list) some = cc
      never (inr over) = let never' : true ≡ false = sym over ∙ (not_over at ∙ open') in cc

      by : (here : Bool) → eqb at own ≡ here → packets (past ++ Brings at psm sdu ∷ []) ≡ object_sdus_told own (past ++ Brings at psm sdu ∷ [])
      by true here = now ∙ (ap (λ (l : List (List ℕ)). l ++ sdu ∷ []) (current at behind open') ∙ sym (ap (λ n. object_sdus_told n (past ++ Brings at psm sdu ∷ [])) (sym (eqb-true at own here)) ∙ told_now at true (eq-eqb at at refl) is))
      by false here = never (others at here)

-- ---- one is closed

module _ (past : List Tiding) (at psm : ℕ) (reason : CloseReason) where
  abbrev closing : Tiding
  closing = Tells (events.Closed at psm reason)

  told_same : (own : ℕ) → object_sdus_told own (past ++ Tells (events.Closed at psm reason) ∷ []) ≡ object_sdus_told own past
  told_same own = told_more own past (Tells (events.Closed at psm reason)) ∙ append-nil (object_sdus_told own past)

  over_now : (own : ℕ) (object told : Bool) → eqb psm object_psm ≡ object → is_told reason ≡ told → is_object_over own (past ++ Tells (events.Closed at psm reason) ∷ []) ≡ (is_object_over own past || ((eqb at own && (object && told)) || false))
  over_now own object told is heeds = over_more own past (Tells (events.Closed at psm reason)) ∙ ap₂ (λ (a b : Bool). is_object_over own past || ((eqb at own && (a && b)) || false)) is heeds

  packets_now : (object told : Bool) → eqb psm object_psm ≡ object → is_told reason ≡ told
      → packets (past ++ Tells (events.Closed at psm reason) ∷ []) ≡ cond told (cond object [] (packets past)) (packets past)
  packets_now object true is heeds =
      packets_more past (Tells (events.Closed at psm reason)) ∙ (ap (λ (b : Bool). states (packets past) (cond b (push.Closed psm ∷ []) [])) heeds ∙ ap (λ (b : Bool). cond b [] (packets past)) is)
  packets_now object false is heeds =
      packets_more past (Tells (events.Closed at psm reason)) ∙ ap (λ (b : Bool). states (packets past) (cond b (push.Closed psm ∷ []) [])) heeds

  unheeded : (object told : Bool) → eqb psm object_psm ≡ object → is_told reason ≡ told → (object && told) ≡ false → IsNothing past (Tells (events.Closed at psm reason))
  unheeded object told is heeds off = record {
    packets_are = packets_now object told is heeds ∙ by object told off;
    told_are = told_same;
    over_are = λ own. over_now own object told is heeds ∙ (ap (λ (b : Bool). is_object_over own past || ((eqb at own && b) || false)) off ∙ (ap (λ (b : Bool). is_object_over own past || (b || false)) (and_off (eqb at own)) ∙ or_off (is_object_over own past)));
  }
    where
      and_off : (b : Bool) → (b && false) ≡ false
      and_off true = refl
      and_off false = refl

      by : (a b : Bool) → (a && b) ≡ false → cond b (cond a [] (packets past)) (packets past) ≡ packets past
      by true true off' = cc
      by true false off' = refl
      by false true off' = refl
      by false false off' = refl

  closed_more : eqb psm object_psm ≡ true → is_told reason ≡ true → OthersAreOver at past → IsCurrent (past ++ Tells (events.Closed at psm reason) ∷ [])
  closed_more is heeds behind own others open' = packets_now true true is heeds ∙ sym (told_same own ∙ none)
    where
      shut : (is_object_over own past ≡ false) × (((eqb at own && true) || false) ≡ false)
      shut = either_false (is_object_over own past) ((eqb at own && true) || false) (sym (over_now own true true is heeds) ∙ open')

      apart_by : (b : Bool) → ((b && true) || false) ≡ false → b ≡ false
      apart_by true off = cc
      apart_by false off = refl

      by : (object_sdus_told own past ≡ []) ⊎ (is_object_over own past ≡ true) → object_sdus_told own past ≡ []
      by (inl nothing) = nothing
      by (inr over) = let never' : true ≡ false = sym over ∙ shut.0 in cc

      none : object_sdus_told own past ≡ []
      none = by (behind own (eqb_other at own (apart_by (eqb at own) shut.1)))

-- ---- all of it

event_nothing : (past : List Tiding) (event : ChannelEvent) → event_served event ≡ [] → ((own : ℕ) → ends_objects own event ≡ false) → IsNothing past (Tells event)
event_nothing past event silent ends = record {
  packets_are = packets_more past (Tells event) ∙ ap (states (packets past)) silent;
  told_are = λ own. told_more own past (Tells event) ∙ append-nil (object_sdus_told own past);
  over_are = λ own. over_more own past (Tells event) ∙ (ap (λ (b : Bool). is_object_over own past || (b || false)) (ends own) ∙ or_off (is_object_over own past));
}

current_one : (past : List Tiding) (one : Tiding) → FollowsOthers past one → BringsOpen past one → NoTurn one → IsCurrent past → IsCurrent (past ++ one ∷ [])
current_one past (Brings at psm sdu) behind open' still current = by (eqb psm object_psm) refl
  where
    by : (object : Bool) → eqb psm object_psm ≡ object → IsCurrent (past ++ Brings at psm sdu ∷ [])
    by true is = object_more past at psm sdu is (behind (eqb-true psm object_psm is)) open' current
    by false is = nothing_more past (Brings at psm sdu) (aside_more past at psm sdu is) current
current_one past (Tells (events.Closed at psm reason)) behind open' still current = by (eqb psm object_psm) (is_told reason) refl refl
  where
    by : (object told : Bool) → eqb psm object_psm ≡ object → is_told reason ≡ told → IsCurrent (past ++ Tells (events.Closed at psm reason) ∷ [])
    by true true is heeds = closed_more past at psm reason is heeds (behind (eqb-true psm object_psm is))
    by true false is heeds = nothing_more past (Tells (events.Closed at psm reason)) (unheeded past at psm reason true false is heeds refl) current
    by false told is heeds = nothing_more past (Tells (events.Closed at psm reason)) (unheeded past at psm reason false told is heeds refl) current
current_one past (Tells (events.Opened at psm)) behind open' still current = nothing_more past (Tells (events.Opened at psm)) (event_nothing past (events.Opened at psm) refl (λ own. refl)) current
current_one past (Tells (events.Features features)) behind open' still current = nothing_more past (Tells (events.Features features)) (event_nothing past (events.Features features) refl (λ own. refl)) current
current_one past (Tells events.FeaturesLost) behind open' still current = nothing_more past (Tells events.FeaturesLost) (event_nothing past events.FeaturesLost refl (λ own. refl)) current
current_one past (Tells (events.DisconnectLost at)) behind open' still current = nothing_more past (Tells (events.DisconnectLost at)) (event_nothing past (events.DisconnectLost at) refl (λ own. refl)) current
current_one past (Turns event) behind open' still current = absurd still

pub current-on : (past rest : List Tiding) → EachAfter FollowsOthers past rest → EachAfter BringsOpen past rest → AllByRecursion NoTurn rest → IsCurrent past → IsCurrent (past ++ rest)
current-on past [] behind open' still current = subst IsCurrent (sym (append-nil past)) current
current-on past (one ∷ rest) behind open' still current =
    subst IsCurrent (append_assoc past (one ∷ []) rest) (current-on (past ++ one ∷ []) rest behind.1 open'.1 still.1 (current_one past one behind.0 open'.0 still.0 current))

pub current-none : IsCurrent []
current-none own others open' = refl
