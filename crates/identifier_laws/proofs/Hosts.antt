-- Of a host: its identifiers do not come round, and its requests for ends are new.
use Rattle.std.proofs.Common.{◌≡◌, ℕ, ◌+◌, ◌*◌, ◌≤◌, List, [], ◌∷◌, ◌++◌, Bool, true, false, cond, Option, Some, None, refl, sym, ap, subst, ◌∙◌, ◌⊎◌, inl, append_assoc, arith}
use Rattle.std.specs.Prelude.{is_some}
use Rattle.std.proofs.lemmas.List.Sums.{fold-append}
use Rattle.channel_laws.specs.capture.specs.Histories.{EachAfter}
use Rattle.channel_laws.specs.l2cap_signal.specs.Commands.{Command}
use Rattle.channel_laws.specs.talk_laws.proofs.Passes.{from_end}
use Rattle.channel_laws.specs.channel_model.specs.declared.errand.Errand.TheVariants as errands
use Rattle.channel_laws.specs.channel_model.specs.Asking.{new_request, asks}
use Rattle.channel_laws.specs.channel_model.specs.Calls.{can_connect}
use Rattle.channel_laws.specs.channel_model.specs.Changing.{held_at}
use Rattle.channel_laws.specs.channel_model.specs.Following.{with_channel}
use Rattle.channel_laws.specs.channel_model.specs.Giving.{disconnection_at, on_held, command_of}
use Rattle.channel_laws.specs.channel_model.specs.Policies.{Policy}
use Rattle.channel_laws.specs.channel_model.specs.Value.{Requested, Held, Channels}
use Rattle.channel_laws.specs.channel_model.proofs.Going.{new_held}
use Rattle.channel_laws.specs.Connections.{requests_by, requests_for}
use Rattle.channel_laws.specs.Runs.{Occurrence, Comes, Connects, AsksFeatures, Disconnects, Sends, Gives, Fires, Tells, value_after, Run, new_link, run_on, run_of}
use Rattle.channel_laws.proofs.Conversing.{conversed-on}
use Rattle.channel_laws.proofs.Identifiers.{TakesFew}
use Rattle.channel_laws.proofs.Identifying.{one-spends}
use Rattle.channel_laws.proofs.NamedApart.{requests-more}
use Rattle.channel_laws.proofs.Running.{all-sound}
use Rattle.disconnection_laws.specs.Met.{AsksOn}
use Rattle.identifier_laws.specs.Rising.{EndsAreAskedAnew, GrantersNeverFall}
use Rattle.identifier_laws.proofs.Ending.{was, Fits, end_of, AllFit, made-fits}
use Rattle.identifier_laws.proofs.Growing.{spent, AsksNothing, Since, since-goes}

run_more : (policy : Policy) (past : List Occurrence) (more : Occurrence) → run_of policy (past ++ more ∷ []) ≡ run_on policy (run_of policy past) more
run_more policy past more = fold-append (run_on policy) new_link past (more ∷ [])

-- ---- from one moment on

module _ (policy : Policy) where
  abbrev pub at : List Occurrence → Channels
  at past = (run_of policy past).value

  pub below : (past : List Occurrence) (own : ℕ) → (at past).next ≤ own → held_at own (at past) ≡ None
  below past = (all-sound policy past).core.held_below

  fits_was : (base : Channels) (own : ℕ) (found : Option Command) → was base own ≡ found → Fits base own found
  fits_was base own None is = is
  fits_was base own (Some command) is = inl is

  all_fit : (base : Channels) → AllFit base base
  all_fit base own held found = fits_was base own (end_of held) (ap (on_held (λ h. disconnection_at h.stage h)) found)

  -- since then, if nothing happened
  here : (past : List Occurrence) → Since policy (at past) (below past) (run_of policy past).said (at past)
  here past = record { next = omega arith; few = omega arith; rises = λ few. omega arith; fits = λ few. all_fit (at past); placed = λ own high low. absurd (omega (arith, high, low)); refuses = λ none. refl }

  pub since : (past list : List Occurrence) → EachAfter (λ front one. requests_by one ≡ 0) past list → Since policy (at past) (below past) (run_of policy (past ++ list)).said (at (past ++ list))
  since past list none = conversed-on policy AsksNothing (λ v. Unit {0}) (Since policy (at past) (below past)) (since-goes policy (at past) (below past)) past list tt (here past) none

  -- what waits now
  on_from : (past : List Occurrence) (w : Channels) → (at past).identifier ≤ w.identifier → AllFit (at past) w → AsksOn (at past) w
  on_from past w rises fits = record { rises = rises; anew = anew }
    where
      anew : (own : ℕ) (command : Command) → command_of (errands.Disconnection own) w ≡ Some command → (was (at past) own ≡ Some command) ⊎ ((was (at past) own ≡ None) × ((at past).identifier ≤ command.identifier))
      anew own command = by (held_at own w) refl
        where
          by : (found : Option Held) → held_at own w ≡ found → on_held (λ h. disconnection_at h.stage h) found ≡ Some command → (was (at past) own ≡ Some command) ⊎ ((was (at past) own ≡ None) × ((at past).identifier ≤ command.identifier))
          by None found is = cc
          by (Some held) found is = subst (Fits (at past) own) is (fits own held found)

-- ---- a host that offers no channel

module _ (policy : Policy) (none : (psm : ℕ) → policy.offers psm ≡ false) where
  takes : (past : List Occurrence) (more : Occurrence) → TakesFew (requests_by more) (at policy past) (value_after policy more (at policy past))
  takes past more = one-spends policy none more (at policy past) (below policy past (at policy past).next (omega arith)) (all-sound policy past).core.lone

  -- it asked for nothing
  quiet_on : (past : List Occurrence) (more : Occurrence) → requests_by more ≡ 0 → spent (at policy past) ≤ 255 → AsksOn (at policy past) (value_after policy more (at policy past))
  quiet_on past more quiet few = subst (λ (r : Run). AsksOn (at policy past) r.value) (run_more policy past more) (on_from policy past (at policy (past ++ more ∷ [])) (then.rises low) (then.fits low))
    where
      then : Since policy (at policy past) (below policy past) (run_of policy (past ++ more ∷ [])).said (at policy (past ++ more ∷ []))
      then = since policy past (more ∷ []) (quiet, tt)

      low : spent (at policy past) + 4 * (at policy (past ++ more ∷ [])).next ≤ 255 + 4 * (at policy past).next
      low = let same = then.refuses none in omega (arith, few, same)

  goes_on : (past : List Occurrence) (more : Occurrence) → requests_by more + spent (at policy past) ≤ 255 → AsksOn (at policy past) (value_after policy more (at policy past))
  goes_on past (Comes pdu) few = quiet_on past (Comes pdu) refl (omega (arith, few))
  goes_on past (Connects psm) few = on_from policy past (value_after policy (Connects psm) v) ((takes past (Connects psm)).rises few) (by (can_connect v))
    where
      v : Channels
      v = at policy past

      new : Held
      new = new_held psm v.next (Requested (new_request v))

      by : (can : Bool) → AllFit v (cond can (asks (errands.Connection v.next) (with_channel psm (Requested (new_request v)) v)) v)
      by true = made-fits v (below policy past) v (asks (errands.Connection v.next) (with_channel psm (Requested (new_request v)) v)) new refl refl (omega arith) (omega arith) (all_fit policy v)
      by false = all_fit policy v
  goes_on past AsksFeatures few = on_from policy past (value_after policy AsksFeatures v) ((takes past AsksFeatures).rises few) (by (is_some v.features))
    where
      v : Channels
      v = at policy past

      by : (there : Bool) → AllFit v (cond there v (asks errands.Features (record v { features = Some (new_request v) })))
      by true = all_fit policy v
      by false = all_fit policy v
  goes_on past (Disconnects own) few = quiet_on past (Disconnects own) refl (omega (arith, few))
  goes_on past (Sends own sdu) few = quiet_on past (Sends own sdu) refl (omega (arith, few))
  goes_on past (Gives pdu) few = quiet_on past (Gives pdu) refl (omega (arith, few))
  goes_on past Fires few = quiet_on past Fires refl (omega (arith, few))
  goes_on past Tells few = quiet_on past Tells refl (omega (arith, few))

  each_on : (past list : List Occurrence) → requests_for list + requests_for past ≤ 254 → spent (at policy past) ≤ 1 + requests_for past → EachAfter (λ front one. AsksOn (at policy front) (at policy (front ++ one ∷ []))) past list
  each_on past [] few within = tt
  each_on past (more ∷ list) few within =
      let whole = requests-more past more in
      let less = (takes past more).less in (
        subst (λ (r : Run). AsksOn (at policy past) r.value) (sym (run_more policy past more)) (goes_on past more (omega (arith, few, within))),
        each_on (past ++ more ∷ []) list (omega (arith, few, whole)) (subst (λ (r : Run). spent r.value ≤ 1 + requests_for (past ++ more ∷ [])) (sym (run_more policy past more)) (omega (arith, whole, less, within))),
      )

  -- how many endpoints it has given: one for each channel that it asked for
  next_more : (past : List Occurrence) (more : Occurrence) → 5 * (value_after policy more (at policy past)).next ≤ requests_by more + 5 * (at policy past).next
  next_more past more = by more
    where
      v : Channels
      v = at policy past

      quiet : (one : Occurrence) → requests_by one ≡ 0 → 5 * (value_after policy one v).next ≤ requests_by one + 5 * v.next
      quiet one is =
          let same : (value_after policy one v).next ≡ v.next = ap (λ (r : Run). r.value.next) (sym (run_more policy past one)) ∙ (since policy past (one ∷ []) (is, tt)).refuses none in
          omega (arith, same)

      called_next : (psm : ℕ) (can : Bool) → 5 * (cond can (asks (errands.Connection v.next) (with_channel psm (Requested (new_request v)) v)) v).next ≤ 5 + 5 * v.next
      called_next psm true = omega arith
      called_next psm false = omega arith

      asked_next : (there : Bool) → 5 * (cond there v (asks errands.Features (record v { features = Some (new_request v) }))).next ≤ 1 + 5 * v.next
      asked_next true = omega arith
      asked_next false = omega arith

      by : (one : Occurrence) → 5 * (value_after policy one v).next ≤ requests_by one + 5 * v.next
      by (Comes pdu) = quiet (Comes pdu) refl
      by (Connects psm) = called_next psm (can_connect v)
      by AsksFeatures = asked_next (is_some v.features)
      by (Disconnects own) = quiet (Disconnects own) refl
      by (Sends own sdu) = quiet (Sends own sdu) refl
      by (Gives pdu) = quiet (Gives pdu) refl
      by Fires = quiet Fires refl
      by Tells = quiet Tells refl

  pub next-few : (list : List Occurrence) → 5 * (at policy list).next ≤ 320 + requests_for list
  next-few = from_end (λ list. 5 * (at policy list).next ≤ 320 + requests_for list) (omega arith) more
    where
      more : (past : List Occurrence) (one : Occurrence) → 5 * (at policy past).next ≤ 320 + requests_for past → 5 * (at policy (past ++ one ∷ [])).next ≤ 320 + requests_for (past ++ one ∷ [])
      more past one few =
          let whole = requests-more past one in
          let now = next_more past one in
          subst (λ (r : Run). 5 * r.value.next ≤ 320 + requests_for (past ++ one ∷ [])) (sym (run_more policy past one)) (omega (arith, whole, now, few))

pub ends-are_asked_anew : EndsAreAskedAnew
ends-are_asked_anew policy list none few = each_on policy none [] list (omega (arith, few)) (omega arith)

-- ---- a host that asks for nothing

-- nor does it at each moment
pub each-nothing : (past list : List Occurrence) → requests_for list ≡ 0 → EachAfter (λ front one. requests_by one ≡ 0) past list
each-nothing past [] none = tt
each-nothing past (more ∷ list) none = (omega (arith, none), each-nothing (past ++ more ∷ []) list (omega (arith, none)))

module _ (policy : Policy) where
  -- from a moment on at which it has taken few
  never_from : (past list : List Occurrence) → requests_for list ≡ 0 → (at policy (past ++ list)).next ≤ 127 → spent (at policy past) + 256 ≤ 1 + 4 * (at policy past).next → EachAfter (λ front one. (at policy front).identifier ≤ (at policy (front ++ one ∷ [])).identifier) past list
  never_from past [] none low few = tt
  never_from past (more ∷ list) none low few =
      let now : Since policy (at policy past) (below policy past) (run_of policy (past ++ more ∷ [])).said (at policy (past ++ more ∷ [])) = since policy past (more ∷ []) (omega (arith, none), tt) in
      let rest : requests_for list ≡ 0 = omega (arith, none) in
      let under : (at policy ((past ++ more ∷ []) ++ list)).next ≤ 127 = subst (λ l. (at policy l).next ≤ 127) (sym (append_assoc past (more ∷ []) list)) low in
      let later = (since policy (past ++ more ∷ []) list (each-nothing (past ++ more ∷ []) list rest)).next in
      let grown = now.few in (
        now.rises (omega (arith, few, later, under)),
        never_from (past ++ more ∷ []) list rest under (omega (arith, few, grown)),
      )

pub granters-never_fall : GrantersNeverFall
granters-never_fall policy list none low = never_from policy [] list none low (omega arith)
