-- What a server was told of its channels of objects on a link: which of them stands alone, and how many responses were taken on each.
use Rattle.std.proofs.Common.{◌≡◌, ◌≤◌, ◌+◌, ℕ, Bool, true, false, cond, ◌&&◌, ◌||◌, eqb, List, [], ◌∷◌, ◌++◌, Some, None, inl, inr, refl, sym, ap, ap₂, subst, ◌∙◌, append_assoc, append-nil, arith}
use Rattle.std.specs.Prelude.{◌⊎◌}
use Rattle.std.specs.List.{AllByRecursion, cons_option, list_any}
use Rattle.std.proofs.lemmas.Bool.{eqb-true, eq-eqb}
use Rattle.std.proofs.lemmas.List.Concat.{flat_map-append}
use Rattle.std.proofs.lemmas.List.Elements.{filter_map-append}
use Rattle.std.proofs.lemmas.List.Folds.{list_any-append}
use Rattle.std.proofs.lemmas.List.Sums.{fold-append}
use Rattle.request_laws.specs.bt_base.specs.declared.settings.Settings.{Settings}
use Rattle.request_laws.specs.capture.specs.Histories.{EachAfter}
use Rattle.request_laws.specs.link_talk.specs.Channels.{Entry}
use Rattle.request_laws.specs.link_talk.specs.declared.channel.Channel.{Channel}
use Rattle.request_laws.specs.channel_model.specs.declared.event.ChannelEvent.TheVariants as events
use Rattle.request_laws.specs.channel_model.specs.declared.event.CloseReason.{CloseReason}
use Rattle.request_laws.specs.channel_laws.specs.Endpoints.{IsOf}
use Rattle.request_laws.specs.channel_laws.specs.Views.{channel_by, read_at}
use Rattle.request_laws.specs.channel_laws.specs.talk_laws.proofs.Owning.{eqb_other}
use Rattle.request_laws.specs.push_model.specs.Server.{object_psm}
use Rattle.request_laws.specs.host_model.specs.Endpoints.{Endpoint}
use Rattle.request_laws.specs.host_model.specs.Servers.{is_told}
use Rattle.request_laws.specs.host_laws.specs.Feeds.{Tiding, Brings, Tells, Turns}
use Rattle.request_laws.specs.host_laws.specs.Told.{event_told, events_told, sdus_told, IsOfChannel}
use Rattle.request_laws.specs.host_laws.proofs.Gains.{state, states}
use Rattle.request_laws.specs.host_laws.proofs.Gaining.{NoTurn, served_by, all_served}
use Rattle.orderly_laws.specs.Answered.{responses_due}
use Rattle.orderly_laws.proofs.Due.{due_front}
use Rattle.following_laws.specs.Following.{object_told, object_sdus_told, ends_objects, is_object_over, OthersAreOver, FollowsOthers}
use Rattle.following_laws.proofs.Current.{packets, IsCurrent}
use Rattle.following_laws.proofs.Moments.{one_of}

-- ---- more is told

pub packets-on : (past more : List Tiding) → packets (past ++ more) ≡ states (packets past) (all_served more)
packets-on past more = ap (states []) (flat_map-append served_by past more) ∙ fold-append state [] (all_served past) (all_served more)

pub sdus-on : (own : ℕ) (past more : List Tiding) → object_sdus_told own (past ++ more) ≡ object_sdus_told own past ++ object_sdus_told own more
sdus-on own past more = filter_map-append (object_told own) past more

pub over-on : (own : ℕ) (past more : List Tiding) → is_object_over own (past ++ more) ≡ (is_object_over own past || is_object_over own more)
over-on own past more = ap (list_any (ends_objects own)) (filter_map-append event_told past more) ∙ list_any-append (ends_objects own) (events_told past) (events_told more)

or_off : (b : Bool) → (b || false) ≡ b
or_off true = refl
or_off false = refl

-- what tells of no closing
over_same : (own : ℕ) (past more : List Tiding) → is_object_over own more ≡ false → is_object_over own (past ++ more) ≡ is_object_over own past
over_same own past more off = over-on own past more ∙ (ap (λ (b : Bool). is_object_over own past || b) off ∙ or_off (is_object_over own past))

over_stays : (own : ℕ) (past more : List Tiding) → is_object_over own past ≡ true → is_object_over own (past ++ more) ≡ true
over_stays own past more over = over-on own past more ∙ ap (λ (b : Bool). b || is_object_over own more) over

no_front : {X : Type 0} (xs ys : List X) → xs ++ ys ≡ [] → xs ≡ []
no_front [] ys none = refl
no_front (x ∷ xs) ys none = cc

-- ---- the SDUs of a channel of objects are those that were told of it

pub told-same : (entries : List Entry) (own peer : ℕ) → IsOf (channel_by object_psm own peer) (read_at own entries) → (tidings : List Tiding) → AllByRecursion (IsOfChannel entries) tidings → object_sdus_told own tidings ≡ sdus_told own tidings
told-same entries own peer is [] all = refl
told-same entries own peer is (Brings other psm sdu ∷ tidings) all = by (eqb other own) refl (told-same entries own peer is tidings all.1)
  where
    by : (here : Bool) → eqb other own ≡ here → object_sdus_told own tidings ≡ sdus_told own tidings
        → cons_option (cond (here && eqb psm object_psm) (Some sdu) None) (object_sdus_told own tidings) ≡ cons_option (cond here (Some sdu) None) (sdus_told own tidings)
    by false apart rest = rest
    by true here rest =
        let same = one_of (channel_by psm other all.0.0) (channel_by object_psm own peer) (read_at own entries) (subst (λ n. IsOf (channel_by psm other all.0.0) (read_at n entries)) (eqb-true other own here) all.0.1) is in
        ap₂ (λ (b : Bool) (l : List (List ℕ)). cons_option (cond b (Some sdu) None) l) (eq-eqb psm object_psm (ap (λ (c : Channel). c.psm) same)) rest
told-same entries own peer is (Tells event ∷ tidings) all = told-same entries own peer is tidings all.1
told-same entries own peer is (Turns event ∷ tidings) all = told-same entries own peer is tidings all.1

-- ---- one that brought something and is not over stands alone

abbrev pub IsAlone : List Tiding → ℕ → Type 0
IsAlone past own = (object_sdus_told own past ≡ []) ⊎ ((is_object_over own past ≡ true) ⊎ OthersAreOver own past)

others_stay : (own : ℕ) (past : List Tiding) (one : Tiding) → ((other : ℕ) → eqb other own ≡ false → object_sdus_told other (one ∷ []) ≡ []) → OthersAreOver own past → OthersAreOver own (past ++ one ∷ [])
others_stay own past one none others other apart = by (others other apart)
  where
    by : (object_sdus_told other past ≡ []) ⊎ (is_object_over other past ≡ true) → (object_sdus_told other (past ++ one ∷ []) ≡ []) ⊎ (is_object_over other (past ++ one ∷ []) ≡ true)
    by (inl nothing) = inl (sdus-on other past (one ∷ []) ∙ ap₂ (λ (a b : List (List ℕ)). a ++ b) nothing (none other apart))
    by (inr over) = inr (over_stays other past (one ∷ []) over)

alone_stays : (own : ℕ) (past : List Tiding) (one : Tiding) → ((other : ℕ) → object_sdus_told other (one ∷ []) ≡ []) → IsAlone past own → IsAlone (past ++ one ∷ []) own
alone_stays own past one none (inl nothing) = inl (sdus-on own past (one ∷ []) ∙ ap₂ (λ (a b : List (List ℕ)). a ++ b) nothing (none own))
alone_stays own past one none (inr (inl over)) = inr (inl (over_stays own past (one ∷ []) over))
alone_stays own past one none (inr (inr others)) = inr (inr (others_stay own past one (λ other apart. none other) others))

brings_alone : (own at psm : ℕ) (sdu : List ℕ) (past : List Tiding) → (psm ≡ object_psm → OthersAreOver at past) → IsAlone past own → IsAlone (past ++ Brings at psm sdu ∷ []) own
brings_alone own at psm sdu past follows was = by (eqb psm object_psm) (eqb own at) refl refl
  where
    none_by : (here object : Bool) (other : ℕ) → eqb at other ≡ here → eqb psm object_psm ≡ object → (here && object) ≡ false → object_sdus_told other (Brings at psm sdu ∷ []) ≡ []
    none_by here object other a b off = ap₂ (λ (x y : Bool). cons_option (cond (x && y) (Some sdu) None) []) a b ∙ ap (λ (x : Bool). cons_option (cond x (Some sdu) None) []) off

    and_off : (b : Bool) → (b && false) ≡ false
    and_off true = refl
    and_off false = refl

    aside : (other : ℕ) → eqb other at ≡ false → object_sdus_told other (Brings at psm sdu ∷ []) ≡ []
    aside other apart = none_by false (eqb psm object_psm) other (eqb_other other at apart) refl refl

    by : (object here : Bool) → eqb psm object_psm ≡ object → eqb own at ≡ here → IsAlone (past ++ Brings at psm sdu ∷ []) own
    by false here is same = alone_stays own past (Brings at psm sdu) (λ other. none_by (eqb at other) false other refl is (and_off (eqb at other))) was
    by true true is same = inr (inr (subst (λ n. OthersAreOver n (past ++ Brings at psm sdu ∷ [])) (sym (eqb-true own at same)) (others_stay at past (Brings at psm sdu) aside (follows (eqb-true psm object_psm is)))))
    by true false is same = on (follows (eqb-true psm object_psm is) own same)
      where
        on : (object_sdus_told own past ≡ []) ⊎ (is_object_over own past ≡ true) → IsAlone (past ++ Brings at psm sdu ∷ []) own
        on (inl nothing) = inl (sdus-on own past (Brings at psm sdu ∷ []) ∙ ap₂ (λ (a b : List (List ℕ)). a ++ b) nothing (aside own same))
        on (inr over) = inr (inl (over_stays own past (Brings at psm sdu ∷ []) over))

one_alone : (own : ℕ) (past : List Tiding) (one : Tiding) → FollowsOthers past one → NoTurn one → IsAlone past own → IsAlone (past ++ one ∷ []) own
one_alone own past (Brings at psm sdu) follows still was = brings_alone own at psm sdu past follows was
one_alone own past (Tells event) follows still was = alone_stays own past (Tells event) (λ other. refl) was
one_alone own past (Turns event) follows still was = absurd still

pub alone-on : (own : ℕ) (past more : List Tiding) → EachAfter FollowsOthers past more → AllByRecursion NoTurn more → IsAlone past own → IsAlone (past ++ more) own
alone-on own past [] follows still was = subst (λ (l : List Tiding). IsAlone l own) (sym (append-nil past)) was
alone-on own past (one ∷ more) follows still was = subst (λ (l : List Tiding). IsAlone l own) (append_assoc past (one ∷ []) more) (alone-on own (past ++ one ∷ []) more follows.1 still.1 (one_alone own past one follows.0 still.0 was))

-- ---- how many responses may have been taken at an endpoint of objects

-- none before it brought a request; as long as it is not over, no more than went since the last closing; and then no more than are due to its requests
abbrev pub most_by : Settings → (over : Bool) (requests : List (List ℕ)) (m : ℕ) → ℕ
most_by settings true requests m = responses_due settings requests
most_by settings false [] m = 0
most_by settings false (request ∷ requests) m = m

abbrev pub most_at : Settings → List Tiding → (m own : ℕ) → ℕ
most_at settings past m own = most_by settings (is_object_over own past) (object_sdus_told own past) m

none_least : (n : ℕ) → 0 ≤ n
none_least n = omega arith

pub most-few : (settings : Settings) (requests : List (List ℕ)) (m : ℕ) → most_by settings false requests m ≤ m
most-few settings [] m = none_least m
most-few settings (request ∷ requests) m = omega arith

pub most-more : (settings : Settings) (over : Bool) (requests : List (List ℕ)) (m more : ℕ) → most_by settings over requests m ≤ most_by settings over requests (m + more)
most-more settings true requests m more = by (responses_due settings requests)
  where
    by : (n : ℕ) → n ≤ n
    by n = omega arith
most-more settings false [] m more = none_least 0
most-more settings false (request ∷ requests) m more = omega arith

most_longer : (settings : Settings) (over : Bool) (xs ys : List (List ℕ)) (m : ℕ) → most_by settings over xs m ≤ most_by settings over (xs ++ ys) m
most_longer settings true xs ys m = due_front settings xs ys
most_longer settings false [] ys m = none_least (most_by settings false ys m)
most_longer settings false (x ∷ xs) ys m = omega arith

-- where no closing is told
pub most-on : (settings : Settings) (past more : List Tiding) (m own : ℕ) → is_object_over own more ≡ false → most_at settings past m own ≤ most_at settings (past ++ more) m own
most-on settings past more m own off =
    subst (λ (n : ℕ). most_at settings past m own ≤ n) (sym (ap₂ (λ (b : Bool) (l : List (List ℕ)). most_by settings b l m) (over_same own past more off) (sdus-on own past more)))
    (most_longer settings (is_object_over own past) (object_sdus_told own past) (object_sdus_told own more) m)

-- where one is closed, and no more went than are due
module _ (settings : Settings) (past : List Tiding) (at psm : ℕ) (reason : CloseReason) (m : ℕ) (object : eqb psm object_psm ≡ true) (heeds : is_told reason ≡ true) (few : m ≤ responses_due settings (packets past)) (current : IsCurrent past)
    (others : OthersAreOver at past) where
  abbrev after : List Tiding
  after = past ++ Tells (events.Closed at psm reason) ∷ []

  over_now : (own : ℕ) → is_object_over own after ≡ (is_object_over own past || (eqb at own || false))
  over_now own =
      over-on own past (Tells (events.Closed at psm reason) ∷ [])
      ∙ (ap₂ (λ (a b : Bool). is_object_over own past || ((eqb at own && (a && b)) || false)) object heeds ∙ ap (λ (b : Bool). is_object_over own past || (b || false)) (and_on (eqb at own)))
    where
      and_on : (b : Bool) → (b && true) ≡ b
      and_on true = refl
      and_on false = refl

  pub most-closed : (own : ℕ) → most_at settings past m own ≤ most_at settings (past ++ Tells (events.Closed at psm reason) ∷ []) 0 own
  most-closed own =
      subst (λ (n : ℕ). most_at settings past m own ≤ n)
      (sym (ap₂ (λ (b : Bool) (l : List (List ℕ)). most_by settings b l 0) (over_now own) (sdus-on own past (Tells (events.Closed at psm reason) ∷ []) ∙ append-nil (object_sdus_told own past))))
      (by (is_object_over own past) (eqb at own) refl refl)
    where
      sdus : List (List ℕ)
      sdus = object_sdus_told own past

      same_due : (n : ℕ) → n ≤ n
      same_due n = omega arith

      none_at : sdus ≡ [] → most_by settings false sdus m ≤ most_by settings false sdus 0
      none_at none = subst (λ (l : List (List ℕ)). most_by settings false l m ≤ most_by settings false l 0) (sym none) (none_least 0)

      by : (over here : Bool) → is_object_over own past ≡ over → eqb at own ≡ here → most_by settings over sdus m ≤ most_by settings (over || (here || false)) sdus 0
      by true here is at_is = same_due (responses_due settings sdus)
      by false true is at_is =
          let due = ap (responses_due settings) (current own (subst (λ n. OthersAreOver n past) (eqb-true at own at_is) others) is) in
          let less = most-few settings sdus m in
          omega (arith, few, due, less)
      by false false is at_is = on (others own (eqb_other at own at_is))
        where
          on : (object_sdus_told own past ≡ []) ⊎ (is_object_over own past ≡ true) → most_by settings false sdus m ≤ most_by settings false sdus 0
          on (inl none) = none_at none
          on (inr over) = let never : true ≡ false = sym over ∙ is in cc

-- at the end, where no more went than are due
pub most-due : (settings : Settings) (past : List Tiding) (m own : ℕ) → m ≤ responses_due settings (packets past) → IsCurrent past → IsAlone past own → most_at settings past m own ≤ responses_due settings (object_sdus_told own past)
most-due settings past m own few current alone = by (is_object_over own past) refl alone
  where
    sdus : List (List ℕ)
    sdus = object_sdus_told own past

    by : (over : Bool) → is_object_over own past ≡ over → IsAlone past own → most_by settings over sdus m ≤ responses_due settings sdus
    by true is one = same_due (responses_due settings sdus)
      where
        same_due : (n : ℕ) → n ≤ n
        same_due n = omega arith
    by false is (inl none) = subst (λ (l : List (List ℕ)). most_by settings false l m ≤ responses_due settings l) (sym none) (none_least 0)
    by false is (inr (inl over)) = let never : true ≡ false = sym over ∙ is in cc
    by false is (inr (inr others)) =
        let due = ap (responses_due settings) (current own others is) in
        let less = most-few settings sdus m in
        omega (arith, few, due, less)

-- ---- an endpoint for objects that a server keeps brought an SDU

abbrev pub HasBrought : List Tiding → Endpoint → Type 0
HasBrought past endpoint = endpoint.psm ≡ object_psm → object_sdus_told endpoint.own past ≡ [] → ⊥

pub brought-on : (past more : List Tiding) (endpoint : Endpoint) → HasBrought past endpoint → HasBrought (past ++ more) endpoint
brought-on past more endpoint brought object none = brought object (no_front (object_sdus_told endpoint.own past) (object_sdus_told endpoint.own more) (sym (sdus-on endpoint.own past more) ∙ none))

pub brought-now : (past : List Tiding) (at psm : ℕ) (sdu : List ℕ) → (let new : Endpoint = record { psm = psm; own = at } in HasBrought (past ++ Brings at psm sdu ∷ []) new)
brought-now past at psm sdu object none = no_end (object_sdus_told at past) (sym (sdus-on at past (Brings at psm sdu ∷ []) ∙ ap₂ (λ (a b : Bool). object_sdus_told at past ++ cons_option (cond (a && b) (Some sdu) None) []) (eq-eqb at at refl) (eq-eqb psm object_psm object)) ∙ none)
  where
    no_end : (list : List (List ℕ)) → list ++ sdu ∷ [] ≡ [] → ⊥
    no_end [] some = cc
    no_end (first ∷ list) some = cc
