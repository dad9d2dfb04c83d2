-- A host that offers no channel, and asks for few, asks for no two with one identifier.
use Rattle.std.proofs.Common.{◌≡◌, ℕ, ◌+◌, ◌<◌, ◌≤◌, List, [], ◌∷◌, ◌++◌, length, Bool, true, false, cond, ◌&&◌, Some, refl, sym, ap, subst, ◌∙◌, ◌⊎◌, inl, inr, append_assoc, append-nil, arith, lt-ltb, length-append}
use Rattle.std.specs.Prelude.{nat_lt, find}
use Rattle.std.proofs.lemmas.Bool.{ltb-true}
use Rattle.std.proofs.lemmas.List.Sums.{fold-append}
use Rattle.own_channel_laws.specs.talk_laws.specs.capture.specs.Histories.{EachAfter}
use Rattle.own_channel_laws.specs.talk_laws.specs.capture.specs.declared.flow.Flow.TheVariants.{Out}
use Rattle.own_channel_laws.specs.talk_laws.specs.l2cap_signal.specs.Commands.{Command, connection_request}
use Rattle.own_channel_laws.specs.talk_laws.specs.link_talk.specs.declared.call.Call.{Call}
use Rattle.own_channel_laws.specs.talk_laws.specs.link_talk.specs.declared.call.Wanted.{Wanted}
use Rattle.own_channel_laws.specs.talk_laws.specs.link_talk.specs.Sayings.{Saying}
use Rattle.own_channel_laws.specs.channel_model.specs.declared.errand.Errand.{Errand}
use Rattle.own_channel_laws.specs.channel_model.specs.declared.errand.Errand.TheVariants as errands
use Rattle.own_channel_laws.specs.channel_model.specs.declared.errand.Errand.TheVariants.{Connection}
use Rattle.own_channel_laws.specs.channel_model.specs.Asking.{new_request, asks}
use Rattle.own_channel_laws.specs.channel_model.specs.Calls.{can_connect}
use Rattle.own_channel_laws.specs.channel_model.specs.Changing.{has_own}
use Rattle.own_channel_laws.specs.channel_model.specs.Following.{with_channel}
use Rattle.own_channel_laws.specs.channel_model.specs.Giving.{connection_at, on_held, command_of}
use Rattle.own_channel_laws.specs.channel_model.specs.Policies.{Policy}
use Rattle.own_channel_laws.specs.channel_model.specs.Value.{Requested, Held, Channels, no_channels}
use Rattle.channel_laws.specs.Belonging.{HasAsked}
use Rattle.channel_laws.specs.Connections.{NamesApart, requests_by, requests_for, NamesAreApart}
use Rattle.channel_laws.specs.Named.{HaveNames, RequestsHaveNames}
use Rattle.own_channel_laws.specs.OwnTalk.{spoken, command_with, asked_between}
use Rattle.own_channel_laws.specs.Runs.{Occurrence, Comes, Connects, AsksFeatures, Disconnects, Sends, Gives, Fires, Tells, said_in, value_after, Run, new_link, run_on, run_of}
use Rattle.own_channel_laws.specs.Signals.{StandsIn}
use Rattle.channel_laws.specs.Singly.{calls_that_went, IsAgain, IsFresh, AreOneByOne, AsksSo}
use Rattle.own_channel_laws.proofs.Asking.{newest-asks, asked-one}
use Rattle.own_channel_laws.proofs.Calling.{own_call}
use Rattle.own_channel_laws.proofs.Conversing.{conversed-on}
use Rattle.channel_laws.proofs.Identifiers.{all_left, TakesFew, next-more}
use Rattle.channel_laws.proofs.Identifying.{one-spends}
use Rattle.own_channel_laws.proofs.Inviting.{held_here}
use Rattle.channel_laws.proofs.OneByOne.{Holds, Allows, one_by_one, first_holds, each_allowed}
use Rattle.own_channel_laws.proofs.Questions.{asked-none}
use Rattle.own_channel_laws.proofs.Running.{IsSound, all-sound}
use Rattle.own_channel_laws.proofs.Saying.{stands-left, stands-right}
use Rattle.channel_laws.proofs.Singling.{calls-more}
use Rattle.own_channel_laws.proofs.Sound.{wanted_by}

-- ---- calls

-- no two of them have one identifier
abbrev CallsApart : List Call → Type 0
CallsApart calls = (one other : Call) → StandsIn one calls → StandsIn other calls → one.identifier ≡ other.identifier → one ≡ other

-- they were made before the identifier that is given next
abbrev CallsBelow : (next : ℕ) → List Call → Type 0
CallsBelow next calls = (one : Call) → StandsIn one calls → one.identifier < next

-- as before, where there are fewer than so many before
abbrev fits_below : (Fits : ℕ → List Call → Bool) (most : ℕ) → ℕ → List Call → Bool
fits_below Fits most psm before = Fits psm before && nat_lt (length before) most

one_by_one_below : (Fits : ℕ → List Call → Bool) (most : ℕ) (calls : List Call) → length calls ≤ most → AreOneByOne Fits calls → AreOneByOne (fits_below Fits most) calls
one_by_one_below Fits most [] few all = tt
one_by_one_below Fits most (one ∷ before) few (now, later) = (by now, one_by_one_below Fits most before (omega (arith, few)) later)
  where
    by : IsAgain one before ⊎ IsFresh Fits one before → IsAgain one before ⊎ IsFresh (fits_below Fits most) one before
    by (inl again) = inl again
    by (inr fresh) =
        let less : nat_lt (length before) most ≡ true = lt-ltb (length before) most (omega (arith, few)) in
        inr (record { wanted = fresh.wanted; wanted_is = fresh.wanted_is; fits = ap (λ (b : Bool). b && nat_lt (length before) most) fresh.fits ∙ less; unused = fresh.unused })

-- the last one again stands there
again_stands : (one : Call) (calls : List Call) → IsAgain one calls → StandsIn one calls
again_stands one [] none = none
again_stands one (last ∷ before) same = inl (sym same)

-- then none is new
none_fresh : (Fits : ℕ → List Call → Bool) (one : Call) (new old : List Call) → IsFresh (fits_below Fits (length old)) one (new ++ old) → ⊥
none_fresh Fits one new old fresh =
    let below : nat_lt (length (new ++ old)) (length old) ≡ true = second (Fits fresh.wanted.psm (new ++ old)) (nat_lt (length (new ++ old)) (length old)) fresh.fits in
    let less = ltb-true (length (new ++ old)) (length old) below in
    let whole = length-append new old in
    omega (arith, less, whole)
  where
    second : (a b : Bool) → (a && b) ≡ true → b ≡ true
    second true b is = is
    second false b is = cc

first_again : (Fits : ℕ → List Call → Bool) (first : Call) (new old : List Call) → IsAgain first (new ++ old) ⊎ IsFresh (fits_below Fits (length old)) first (new ++ old) → StandsIn first (new ++ old)
first_again Fits first new old (inl is) = again_stands first (new ++ old) is
first_again Fits first new old (inr fresh) = absurd (none_fresh Fits first new old fresh)

all_again : (Fits : ℕ → List Call → Bool) (new old : List Call) → AreOneByOne (fits_below Fits (length old)) (new ++ old) → (one : Call) → StandsIn one (new ++ old) → StandsIn one old
all_again Fits [] old all one stands = stands
all_again Fits (first ∷ new) old (now, later) one (inl same) = all_again Fits new old later one (subst (λ (c : Call). StandsIn c (new ++ old)) same (first_again Fits first new old now))
all_again Fits (first ∷ new) old (now, later) one (inr rest) = all_again Fits new old later one rest

-- one more with an identifier that none had
apart_more : (call : Call) (calls : List Call) → CallsBelow call.identifier calls → CallsApart calls → CallsApart (call ∷ calls)
apart_more call calls below apart one other (inl first) (inl second) same = sym first ∙ second
apart_more call calls below apart one other (inl first) (inr second) same = let less = below other second in absurd (omega (arith, less, same, ap (λ (c : Call). c.identifier) first))
apart_more call calls below apart one other (inr first) (inl second) same = let less = below one first in absurd (omega (arith, less, same, ap (λ (c : Call). c.identifier) second))
apart_more call calls below apart one other (inr first) (inr second) same = apart one other first second same

below_more : (call : Call) (calls : List Call) (next : ℕ) → call.identifier < next → CallsBelow call.identifier calls → CallsBelow next (call ∷ calls)
below_more call calls next now below one (inl first) = omega (arith, now, ap (λ (c : Call). c.identifier) first)
below_more call calls next now below one (inr later) = let less = below one later in omega (arith, less, now)

-- ---- what is said is called

asked_called : (identifier psm own : ℕ) (said : List Saying) → HasAsked identifier psm own said → StandsIn (own_call identifier psm own) (calls_that_went Out said)
asked_called identifier psm own [] stands = stands
asked_called identifier psm own (first ∷ rest) (inl same) =
    subst (StandsIn (own_call identifier psm own)) (sym (calls-more Out (first ∷ []) rest))
    (stands-right (own_call identifier psm own) (calls_that_went Out rest) (calls_that_went Out (first ∷ [])) (subst (λ (s : Saying). StandsIn (own_call identifier psm own) (calls_that_went Out (s ∷ []))) (sym same) (inl refl)))
asked_called identifier psm own (first ∷ rest) (inr later) =
    subst (StandsIn (own_call identifier psm own)) (sym (calls-more Out (first ∷ []) rest))
    (stands-left (own_call identifier psm own) (calls_that_went Out rest) (calls_that_went Out (first ∷ [])) (asked_called identifier psm own rest later))

some_is : {X : Type 0} (x y : X) → Some x ≡ Some y → x ≡ y
some_is x y is = cc

calls_apart : (said : List Saying) → CallsApart (calls_that_went Out said) → NamesApart said
calls_apart said apart identifier psm own other again first second =
    let same : own_call identifier psm own ≡ own_call identifier other again = apart (own_call identifier psm own) (own_call identifier other again) (asked_called identifier psm own said first) (asked_called identifier other again said second) refl in
    let wanted : Some (wanted_by psm own) ≡ Some (wanted_by other again) = ap (λ (c : Call). c.wanted) same in
    ap (λ (w : Wanted). w.source) (some_is (wanted_by psm own) (wanted_by other again) wanted)

-- ---- each occurrence

abbrev calls_of : Run → List Call
calls_of run = calls_that_went Out run.said

abbrev is_connecting : Occurrence → Bool
is_connecting (Comes pdu) = false
is_connecting (Connects psm) = true
is_connecting AsksFeatures = false
is_connecting (Disconnects own) = false
is_connecting (Sends own sdu) = false
is_connecting (Gives pdu) = false
is_connecting Fires = false
is_connecting Tells = false

run_more : (policy : Policy) (past : List Occurrence) (more : Occurrence) → run_of policy (past ++ more ∷ []) ≡ run_on policy (run_of policy past) more
run_more policy past more = fold-append (run_on policy) new_link past (more ∷ [])

pub requests-more : (past : List Occurrence) (more : Occurrence) → requests_for (past ++ more ∷ []) ≡ requests_by more + requests_for past
requests-more [] more = omega arith
requests-more (one ∷ past) more = let later = requests-more past more in omega (arith, later)

-- what holds of them while identifiers do not come round
record AreNamed (run : Run) : Type 0 where
  apart : CallsApart (calls_of run)
  below : CallsBelow run.value.identifier (calls_of run)

-- it is asked for a channel
connects_named : (policy : Policy) (past : List Occurrence) (psm : ℕ) → (run_of policy past).value.identifier ≤ 254 → AreNamed (run_of policy past) → AreNamed (run_on policy (run_of policy past) (Connects psm))
connects_named policy past psm low named = by (can_connect v) refl
  where
    run : Run
    run = run_of policy past

    v : Channels
    v = run.value

    w : Channels
    w = asks (Connection v.next) (with_channel psm (Requested (new_request v)) v)

    one : Call
    one = own_call v.identifier psm v.next

    new : Held
    new = record { psm = psm; own = v.next; stage = Requested (new_request v) }

    said : asked_between v w ≡ spoken (command_with v.identifier (connection_request psm v.next)) ∷ []
    said =
        let sound : IsSound policy run = all-sound policy past in
        let here : find (has_own v.next) w.held ≡ Some new = held_here v.held new (sound.core.held_below v.next (omega arith)) in
        asked-one v w (Connection v.next) (command_with v.identifier (connection_request psm v.next)) refl (newest-asks (Connection v.next) (with_channel psm (Requested (new_request v)) v)) (ap (on_held (λ h. connection_at h.stage h)) here)

    by : (can : Bool) → can_connect v ≡ can → AreNamed (run_on policy run (Connects psm))
    by false is =
        let value_is : value_after policy (Connects psm) v ≡ v = ap (λ (c : Bool). cond c w v) is in
        let calls_are : calls_of (run_on policy run (Connects psm)) ≡ calls_of run =
        calls-more Out run.said (said_in policy (Connects psm) v) ∙ ap (λ (said : List Saying). calls_that_went Out said ++ calls_of run) (ap (asked_between v) value_is ∙ asked-none v v refl) in
        record {
          apart = subst CallsApart (sym calls_are) named.apart;
          below = subst (λ (u : Channels). CallsBelow u.identifier (calls_of (run_on policy run (Connects psm)))) (sym value_is) (subst (CallsBelow v.identifier) (sym calls_are) named.below);
        }
    by true is =
        let value_is : value_after policy (Connects psm) v ≡ w = ap (λ (c : Bool). cond c w v) is in
        let calls_are : calls_of (run_on policy run (Connects psm)) ≡ one ∷ calls_of run =
        calls-more Out run.said (said_in policy (Connects psm) v) ∙ ap (λ (said : List Saying). calls_that_went Out said ++ calls_of run) (ap (asked_between v) value_is ∙ said) in
        let next : w.identifier ≡ v.identifier + 1 = next-more v.identifier low in
        record {
          apart = subst CallsApart (sym calls_are) (apart_more one (calls_of run) named.below named.apart);
          below =
              subst (λ (u : Channels). CallsBelow u.identifier (calls_of (run_on policy run (Connects psm)))) (sym value_is)
              (subst (CallsBelow w.identifier) (sym calls_are) (below_more one (calls_of run) w.identifier (omega (arith, next)) named.below));
        }

-- nothing else calls anew
still_named : (policy : Policy) (Fits : ℕ → List Call → Bool) (past : List Occurrence) (more : Occurrence) → is_connecting more ≡ false → Holds Fits (run_of policy past).said (run_of policy past).value
    → (run_of policy past).value.identifier ≤ (value_after policy more (run_of policy past).value).identifier → AreNamed (run_of policy past) → AreNamed (run_on policy (run_of policy past) more)
still_named policy Fits past more calm holds rises named = record {
  apart = λ one other first second same. named.apart one other (all one (subst (StandsIn one) whole first)) (all other (subst (StandsIn other) whole second)) same;
  below = λ one stands. let less = named.below one (all one (subst (StandsIn one) whole stands)) in omega (arith, less, rises);
}
  where
    run : Run
    run = run_of policy past

    old : List Call
    old = calls_of run

    new : List Call
    new = calls_that_went Out (said_in policy more run.value)

    whole : calls_of (run_on policy run more) ≡ new ++ old
    whole = calls-more Out run.said (said_in policy more run.value)

    allowed : (more : Occurrence) → is_connecting more ≡ false → Allows (fits_below Fits (length old)) run.said more run.value
    allowed (Comes pdu) none = tt
    allowed (Connects psm) none = let never : true ≡ false = none in absurd cc
    allowed AsksFeatures none = tt
    allowed (Disconnects own) none = tt
    allowed (Sends own sdu) none = tt
    allowed (Gives pdu) none = tt
    allowed Fires none = tt
    allowed Tells none = tt

    below : Holds (fits_below Fits (length old)) run.said run.value
    below = record { calls = one_by_one_below Fits (length old) old (omega arith) holds.calls; head = holds.head }

    after : Holds (fits_below Fits (length old)) (run_of policy (past ++ more ∷ [])).said (run_of policy (past ++ more ∷ [])).value
    after =
        conversed-on policy (Allows (fits_below Fits (length old))) (λ v. Unit {0}) (Holds (fits_below Fits (length old))) (one_by_one (fits_below Fits (length old)) policy) past (more ∷ []) tt below (allowed more calm, tt)

    all : (call : Call) → StandsIn call (new ++ old) → StandsIn call old
    all = all_again Fits new old (subst (AreOneByOne (fits_below Fits (length old))) (ap calls_of (run_more policy past more) ∙ whole) after.calls)

module _ (policy : Policy) (Fits : ℕ → List Call → Bool) (none : (psm : ℕ) → policy.offers psm ≡ false) where
  -- what is taken of identifiers
  abbrev IsWithin : List Occurrence → Type 0
  IsWithin past = (run_of policy past).value.identifier + all_left (run_of policy past).value.held ≤ 1 + requests_for past

  takes : (past : List Occurrence) (more : Occurrence) → TakesFew (requests_by more) (run_of policy past).value (value_after policy more (run_of policy past).value)
  takes past more =
      let sound : IsSound policy (run_of policy past) = all-sound policy past in
      one-spends policy none more (run_of policy past).value (sound.core.held_below (run_of policy past).value.next (omega arith)) sound.core.lone

  rises : (past : List Occurrence) (more : Occurrence) → IsWithin past → requests_by more + requests_for past ≤ 254 → (run_of policy past).value.identifier ≤ (value_after policy more (run_of policy past).value).identifier
  rises past more within few = (takes past more).rises (omega (arith, within, few))

  within_more : (past : List Occurrence) (more : Occurrence) → IsWithin past → IsWithin (past ++ more ∷ [])
  within_more past more within =
      let whole = requests-more past more in
      let less = (takes past more).less in
      subst (λ (run : Run). run.value.identifier + all_left run.value.held ≤ 1 + requests_for (past ++ more ∷ [])) (sym (run_more policy past more)) (omega (arith, whole, less, within))

  one_named : (past : List Occurrence) (more : Occurrence) → requests_by more + requests_for past ≤ 254 → Holds Fits (run_of policy past).said (run_of policy past).value → IsWithin past → AreNamed (run_of policy past) → AreNamed (run_on policy (run_of policy past) more)
  one_named past (Comes pdu) few holds within named = still_named policy Fits past (Comes pdu) refl holds (rises past (Comes pdu) within few) named
  one_named past (Connects psm) few holds within named = connects_named policy past psm (omega (arith, within, few)) named
  one_named past AsksFeatures few holds within named = still_named policy Fits past AsksFeatures refl holds (rises past AsksFeatures within few) named
  one_named past (Disconnects own) few holds within named = still_named policy Fits past (Disconnects own) refl holds (rises past (Disconnects own) within few) named
  one_named past (Sends own sdu) few holds within named = still_named policy Fits past (Sends own sdu) refl holds (rises past (Sends own sdu) within few) named
  one_named past (Gives pdu) few holds within named = still_named policy Fits past (Gives pdu) refl holds (rises past (Gives pdu) within few) named
  one_named past Fires few holds within named = still_named policy Fits past Fires refl holds (rises past Fires within few) named
  one_named past Tells few holds within named = still_named policy Fits past Tells refl holds (rises past Tells within few) named

  all_named : (past list : List Occurrence) → EachAfter (λ front one. AsksSo Fits one (run_of policy front)) past list → requests_for list + requests_for past ≤ 254
      → IsWithin past → Holds Fits (run_of policy past).said (run_of policy past).value → AreNamed (run_of policy past) → AreNamed (run_of policy (past ++ list))
  all_named past [] asks few within holds named = subst (λ (l : List Occurrence). AreNamed (run_of policy l)) (sym (append-nil past)) named
  all_named past (more ∷ list) (now, asks) few within holds named =
      let whole = requests-more past more in
      let after = conversed-on policy (Allows Fits) (λ v. Unit {0}) (Holds Fits) (one_by_one Fits policy) past (more ∷ []) tt holds (each_allowed policy Fits past (more ∷ []) (now, tt)) in
      subst (λ (l : List Occurrence). AreNamed (run_of policy l)) (append_assoc past (more ∷ []) list)
      (all_named (past ++ more ∷ []) list asks (omega (arith, few, whole)) (within_more past more within) after (subst AreNamed (sym (run_more policy past more)) (one_named past more (omega (arith, few)) holds within named)))

pub names-are_apart : NamesAreApart
names-are_apart policy Fits list none asks few =
    calls_apart (run_of policy list).said (all_named policy Fits none [] list asks (omega (arith, few)) (omega arith) (first_holds Fits) (record { apart = λ one other in_none. elim in_none [ ]; below = λ one in_none. elim in_none [ ] })).apart

-- ---- the requests that wait

none_waits : HaveNames no_channels
none_waits = record { below = λ errand command is. absurd (none errand command is); apart = λ one other first second is also equal. absurd (none one first is) }
  where
    none : (errand : Errand) (command : Command) → command_of errand no_channels ≡ Some command → ⊥
    none (errands.Connection own) command is = cc
    none (errands.Configuration own) command is = cc
    none (errands.Disconnection own) command is = cc
    none errands.Features command is = cc

all_have_names : (policy : Policy) (none : (psm : ℕ) → policy.offers psm ≡ false) (past list : List Occurrence) → requests_for list + requests_for past ≤ 254 → (run_of policy past).value.identifier + all_left (run_of policy past).value.held ≤ 1 + requests_for past
    → HaveNames (run_of policy past).value → HaveNames (run_of policy (past ++ list)).value
all_have_names policy none past [] few within names = subst (λ (l : List Occurrence). HaveNames (run_of policy l).value) (sym (append-nil past)) names
all_have_names policy none past (more ∷ list) few within names =
    let any : ℕ → List Call → Bool = λ psm calls. true in
    let whole = requests-more past more in
    subst (λ (l : List Occurrence). HaveNames (run_of policy l).value) (append_assoc past (more ∷ []) list)
    (all_have_names policy none (past ++ more ∷ []) list (omega (arith, few, whole)) (within_more policy any none past more within)
    (subst (λ (run : Run). HaveNames run.value) (sym (run_more policy past more)) ((takes policy any none past more).named (omega (arith, few, within)) names)))

pub requests-have_names : RequestsHaveNames
requests-have_names policy list none few = all_have_names policy none [] list (omega (arith, few)) (omega arith) none_waits
