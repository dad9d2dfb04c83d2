-- What is told of a channel is how it is held.
use Rattle.std.proofs.Common.{◌≡◌, ℕ, ◌+◌, ◌<◌, ◌≤◌, List, [], ◌∷◌, ◌++◌, Bool, true, false, cond, ◌||◌, eqb, Option, Some, None, refl, sym, ap, subst, ◌∙◌, arith, append_assoc}
use Rattle.std.specs.Prelude.{find, drop, nat_lt, option_map, option_to_list, is_some, slice_get}
use Rattle.std.specs.List.{list_any}
use Rattle.std.proofs.lemmas.Bool.{eqb-false, ltb-true, ltb-false}
use Rattle.talk_laws.specs.l2cap_config.specs.declared.wish.Wish.{Wish}
use Rattle.talk_laws.specs.acl_fragments.specs.Pieces.{channel_of}
use Rattle.talk_laws.specs.l2cap_signal.specs.Reading.{answers}
use Rattle.channel_model.specs.declared.event.ChannelEvent.{ChannelEvent}
use Rattle.channel_model.specs.Value.{Carrier, Stage, Requested, Connected, Leaving, Closing, Crossed, Held, Channels}
use Rattle.channel_model.specs.Policies.{Policy}
use Rattle.channel_model.specs.Changing.{has_own}
use Rattle.channel_model.specs.Hearing.{hears_commands}
use Rattle.channel_model.specs.Carrying.{takes}
use Rattle.channel_model.specs.Telling.{any_reason, closes_for, is_told_closed}
use Rattle.channel_model.proofs.Lookups.{own_of, Distinct, or_on}
use Rattle.channel_model.proofs.Going.{IsStated, StageGoes, staged, Moves, IsFirst, new_held, Walks}
use Rattle.channel_model.proofs.Walking.{append_none, commands-go}
use Rattle.channel_model.proofs.Calling.{connected-goes, asks-features-goes, disconnected-goes, sends-goes, takes-goes, timed-goes, given-goes}
use Rattle.own_channel_laws.specs.Runs.{Occurrence, Comes, Connects, AsksFeatures, Disconnects, Sends, Gives, Fires, Tells, Run, new_link, run_on, value_after}
use Rattle.own_channel_laws.proofs.Sound.{at_each}
use Rattle.own_channel_laws.proofs.Steps.{less-apart}
use Rattle.own_channel_laws.proofs.Keeping.{under}
use Rattle.own_channel_laws.proofs.Inviting.{held_others, held_here}

-- a channel, and whether anything arose that tells that it is closed
abbrev pub StageTold : Stage → (closed : Bool) → Type 0
StageTold (Requested request) closed = closed ≡ false
StageTold (Connected peer setup) closed = IsStated setup × (closed ≡ false)
StageTold (Leaving peer setup request) closed = IsStated setup × (closed ≡ false)
StageTold (Closing peer request checked) closed = closed ≡ true
StageTold (Crossed peer request) closed = closed ≡ true

abbrev pub HeldTold : Option Held → (closed : Bool) → Type 0
HeldTold None closed = Unit {0}
HeldTold (Some held) closed = StageTold held.stage closed

-- of a channel that is not held any more it is told that it was closed
abbrev pub IsEndTold : Option Held → (closed : Bool) → Type 0
IsEndTold None closed = closed ≡ true
IsEndTold (Some held) closed = Unit {0}

-- nothing is told of an endpoint before it is given
pub record Told (earlier : List ChannelEvent) (v : Channels) : Type 0 where
  pub at : (own : ℕ) → HeldTold (find (has_own own) v.held) (is_told_closed own (earlier ++ v.events))
  pub ended : (own : ℕ) → 0x0040 ≤ own → own < v.next → IsEndTold (find (has_own own) v.held) (is_told_closed own (earlier ++ v.events))
  pub fresh : (own : ℕ) → v.next ≤ own → is_told_closed own (earlier ++ v.events) ≡ false
  pub below : (own : ℕ) → v.next ≤ own → find (has_own own) v.held ≡ None

abbrev GoesOn : Channels → Channels → Type 0
GoesOn v w = (earlier : List ChannelEvent) → Told earlier v → Told earlier w

-- ---- events

any_append : (p : ChannelEvent → Bool) (xs ys : List ChannelEvent) → list_any p (xs ++ ys) ≡ (list_any p xs || list_any p ys)
any_append p [] ys = refl
any_append p (x ∷ xs) ys = ap (λ b. p x || b) (any_append p xs ys) ∙ assoc (p x) (list_any p xs) (list_any p ys)
  where
    assoc : (a b c : Bool) → (a || (b || c)) ≡ ((a || b) || c)
    assoc true b c = refl
    assoc false b c = refl

pub told-more : (own : ℕ) (earlier events more after : List ChannelEvent) → after ≡ events ++ more → is_told_closed own (earlier ++ after) ≡ (is_told_closed own (earlier ++ events) || is_told_closed own more)
told-more own earlier events more after is = ap (λ es. is_told_closed own (earlier ++ es)) is ∙ (ap (is_told_closed own) (sym (append_assoc earlier events more)) ∙ any_append (closes_for any_reason own) (earlier ++ events) more)

or_false : (b : Bool) → (b || false) ≡ b
or_false true = refl
or_false false = refl

none_more : (own : ℕ) (earlier events more after : List ChannelEvent) → after ≡ events ++ more → is_told_closed own more ≡ false → is_told_closed own (earlier ++ after) ≡ is_told_closed own (earlier ++ events)
none_more own earlier events more after is none = told-more own earlier events more after is ∙ (ap (λ b. is_told_closed own (earlier ++ events) || b) none ∙ or_false (is_told_closed own (earlier ++ events)))

-- ---- one step

goes_told : (wish : Wish) (C : Carrier → Carrier → Type 0) (before : Stage) (after : Option Stage) (held : Held) (was more : Bool) → StageTold before was → StageGoes wish C before after more → HeldTold (option_map (staged held) after) (was || more)
goes_told wish C before None held was more told goes = tt
goes_told wish C (Requested request) (Some (Requested again)) held was more told goes = ap (λ b. b || more) told ∙ goes
goes_told wish C (Requested request) (Some (Connected peer setup)) held was more told (none, silent) = (λ some. let never : true ≡ false = sym some ∙ ap is_some none in absurd cc, ap (λ b. b || more) told ∙ silent)
goes_told wish C (Requested request) (Some (Leaving peer setup other)) held was more told goes = elim goes [ ]
goes_told wish C (Requested request) (Some (Closing peer other checked)) held was more told goes = elim goes [ ]
goes_told wish C (Requested request) (Some (Crossed peer other)) held was more told goes = elim goes [ ]
goes_told wish C (Connected peer setup) (Some (Requested request)) held was more told goes = elim goes [ ]
goes_told wish C (Connected peer setup) (Some (Connected at after)) held was more (stated, told) (same, goes, silent) = (goes.stated stated, ap (λ b. b || more) told ∙ silent)
goes_told wish C (Connected peer setup) (Some (Leaving at after request)) held was more (stated, told) (same, still, silent) = (subst IsStated (sym still) stated, ap (λ b. b || more) told ∙ silent)
goes_told wish C (Connected peer setup) (Some (Closing at request checked)) held was more (stated, told) (same, closed) = ap (λ b. b || more) told ∙ closed
goes_told wish C (Connected peer setup) (Some (Crossed at request)) held was more told goes = elim goes [ ]
goes_told wish C (Leaving peer setup request) (Some (Requested other)) held was more told goes = elim goes [ ]
goes_told wish C (Leaving peer setup request) (Some (Connected at after)) held was more told goes = elim goes [ ]
goes_told wish C (Leaving peer setup request) (Some (Leaving at after other)) held was more (stated, told) (same, goes, silent) = (goes.stated stated, ap (λ b. b || more) told ∙ silent)
goes_told wish C (Leaving peer setup request) (Some (Closing at other checked)) held was more (stated, told) (same, closed) = ap (λ b. b || more) told ∙ closed
goes_told wish C (Leaving peer setup request) (Some (Crossed at other)) held was more (stated, told) (same, closed) = ap (λ b. b || more) told ∙ closed
goes_told wish C (Closing peer request checked) (Some (Requested other)) held was more told goes = elim goes [ ]
goes_told wish C (Closing peer request checked) (Some (Connected at after)) held was more told goes = elim goes [ ]
goes_told wish C (Closing peer request checked) (Some (Leaving at after other)) held was more told goes = elim goes [ ]
goes_told wish C (Closing peer request checked) (Some (Closing at other still)) held was more told goes = ap (λ b. b || more) told
goes_told wish C (Closing peer request checked) (Some (Crossed at other)) held was more told goes = ap (λ b. b || more) told
goes_told wish C (Crossed peer request) (Some (Requested other)) held was more told goes = elim goes [ ]
goes_told wish C (Crossed peer request) (Some (Connected at after)) held was more told goes = elim goes [ ]
goes_told wish C (Crossed peer request) (Some (Leaving at after other)) held was more told goes = elim goes [ ]
goes_told wish C (Crossed peer request) (Some (Closing at other checked)) held was more told goes = elim goes [ ]
goes_told wish C (Crossed peer request) (Some (Crossed at other)) held was more told goes = ap (λ b. b || more) told

ends_told : (wish : Wish) (C : Carrier → Carrier → Type 0) (before : Stage) (after : Option Stage) (held : Held) (was more : Bool) → StageTold before was → StageGoes wish C before after more → IsEndTold (option_map (staged held) after) (was || more)
ends_told wish C before (Some after) held was more told goes = tt
ends_told wish C (Requested request) None held was more told goes = ap (λ b. was || b) goes ∙ or_on was
ends_told wish C (Connected peer setup) None held was more told goes = ap (λ b. was || b) goes ∙ or_on was
ends_told wish C (Leaving peer setup request) None held was more told goes = ap (λ b. was || b) goes ∙ or_on was
ends_told wish C (Closing peer request checked) None held was more told goes = ap (λ b. b || more) told
ends_told wish C (Crossed peer request) None held was more told goes = ap (λ b. b || more) told

moves_told : (policy : Policy) (C : Carrier → Carrier → Type 0) (v w : Channels) (held : Held) (after : Option Stage) (more : List ChannelEvent) → Moves policy C v w held after more → GoesOn v w
moves_told policy C v w held after more moves earlier told =
    let here : HeldTold (Some held) (is_told_closed held.own (earlier ++ v.events)) = subst (λ h. HeldTold h (is_told_closed held.own (earlier ++ v.events))) moves.found (told.at held.own) in
    record {
      at = at_each (λ n. HeldTold (find (has_own n) v.held) (is_told_closed n (earlier ++ v.events))) (λ n. HeldTold (find (has_own n) w.held) (is_told_closed n (earlier ++ w.events))) held.own
          (λ n apart was. subst (λ h. HeldTold h (is_told_closed n (earlier ++ w.events))) (sym (moves.others n apart))
          (subst (HeldTold (find (has_own n) v.held)) (sym (none_more n earlier v.events more w.events moves.events_are (moves.told.only n apart))) was))
          (subst (λ h. HeldTold h (is_told_closed held.own (earlier ++ w.events))) (sym moves.becomes)
          (subst (HeldTold (option_map (staged held) after)) (sym (told-more held.own earlier v.events more w.events moves.events_are))
          (goes_told (policy.wish held.psm) C held.stage after held (is_told_closed held.own (earlier ++ v.events)) (is_told_closed held.own more) here moves.goes)))
          told.at;
      ended = at_each (λ n. 0x0040 ≤ n → n < v.next → IsEndTold (find (has_own n) v.held) (is_told_closed n (earlier ++ v.events))) (λ n. 0x0040 ≤ n → n < w.next → IsEndTold (find (has_own n) w.held) (is_told_closed n (earlier ++ w.events))) held.own
          (λ n apart was low high. subst (λ h. IsEndTold h (is_told_closed n (earlier ++ w.events))) (sym (moves.others n apart))
          (subst (IsEndTold (find (has_own n) v.held)) (sym (none_more n earlier v.events more w.events moves.events_are (moves.told.only n apart))) (was low (omega (arith, moves.next_is, high)))))
          (λ low high. subst (λ h. IsEndTold h (is_told_closed held.own (earlier ++ w.events))) (sym moves.becomes)
          (subst (IsEndTold (option_map (staged held) after)) (sym (told-more held.own earlier v.events more w.events moves.events_are))
          (ends_told (policy.wish held.psm) C held.stage after held (is_told_closed held.own (earlier ++ v.events)) (is_told_closed held.own more) here moves.goes)))
          told.ended;
      fresh = λ own above.
          let apart : eqb held.own own ≡ false = less-apart held.own own (under v held w.next own moves.next_is told.below moves.found above) in
          none_more own earlier v.events more w.events moves.events_are (moves.told.only own apart) ∙ told.fresh own (omega (arith, moves.next_is, above));
      below = λ own above. moves.others own (less-apart held.own own (under v held w.next own moves.next_is told.below moves.found above)) ∙ told.below own (omega (arith, moves.next_is, above));
    }

first_told : (stage : Stage) → IsFirst stage → StageTold stage false
first_told (Requested request) is = refl
first_told (Connected peer setup) is = (subst IsStated (sym is) (λ some. cc), refl)
first_told (Leaving peer setup request) is = elim is [ ]
first_told (Closing peer request checked) is = elim is [ ]
first_told (Crossed peer request) is = elim is [ ]

below_next : (next own after : ℕ) → after ≡ next + 1 → eqb next own ≡ false → own < after → own < next
below_next next own after is apart high = by (nat_lt own next) refl
  where
    by : (less : Bool) → nat_lt own next ≡ less → own < next
    by true is_less = ltb-true own next is_less
    by false is_most = absurd (eqb-false next own apart (omega (arith, is, high, ltb-false own next is_most)))

made_told : (v w : Channels) (psm : ℕ) (stage : Stage) → IsFirst stage → w.held ≡ v.held ++ new_held psm v.next stage ∷ [] → w.next ≡ v.next + 1 → w.events ≡ v.events → GoesOn v w
made_told v w psm stage is held_is next_is events_are earlier told =
    let new : Held = new_held psm v.next stage in
    let same : (own : ℕ) → is_told_closed own (earlier ++ w.events) ≡ is_told_closed own (earlier ++ v.events) = λ own. ap (λ es. is_told_closed own (earlier ++ es)) events_are in
    record {
      at = at_each (λ n. HeldTold (find (has_own n) v.held) (is_told_closed n (earlier ++ v.events))) (λ n. HeldTold (find (has_own n) w.held) (is_told_closed n (earlier ++ w.events))) v.next
          (λ n apart was. subst (λ h. HeldTold h (is_told_closed n (earlier ++ w.events))) (sym (ap (find (has_own n)) held_is ∙ held_others v.held new n apart)) (subst (HeldTold (find (has_own n) v.held)) (sym (same n)) was))
          (subst (λ h. HeldTold h (is_told_closed v.next (earlier ++ w.events))) (sym (ap (find (has_own v.next)) held_is ∙ held_here v.held new (told.below v.next (omega arith))))
          (subst (StageTold stage) (sym (same v.next ∙ told.fresh v.next (omega arith))) (first_told stage is)))
          told.at;
      ended = at_each (λ n. 0x0040 ≤ n → n < v.next → IsEndTold (find (has_own n) v.held) (is_told_closed n (earlier ++ v.events))) (λ n. 0x0040 ≤ n → n < w.next → IsEndTold (find (has_own n) w.held) (is_told_closed n (earlier ++ w.events))) v.next
          (λ n apart was low high. subst (λ h. IsEndTold h (is_told_closed n (earlier ++ w.events))) (sym (ap (find (has_own n)) held_is ∙ held_others v.held new n apart)) (subst (IsEndTold (find (has_own n) v.held)) (sym (same n)) (was low (below_next v.next n w.next next_is apart high))))
          (λ low high. subst (λ h. IsEndTold h (is_told_closed v.next (earlier ++ w.events))) (sym (ap (find (has_own v.next)) held_is ∙ held_here v.held new (told.below v.next (omega arith)))) tt)
          told.ended;
      fresh = λ own above. same own ∙ told.fresh own (omega (arith, next_is, above));
      below = λ own above. ap (find (has_own own)) held_is ∙ (held_others v.held new own (less-apart v.next own (omega (arith, next_is, above))) ∙ told.below own (omega (arith, next_is, above)));
    }

silent_told : (v w : Channels) (more : List ChannelEvent) → w.held ≡ v.held → w.next ≡ v.next → w.events ≡ v.events ++ more → ((own : ℕ) → is_told_closed own more ≡ false) → GoesOn v w
silent_told v w more held_is next_is events_are none earlier told = record {
  at = λ own. subst (λ h. HeldTold h (is_told_closed own (earlier ++ w.events))) (sym (ap (find (has_own own)) held_is))
      (subst (HeldTold (find (has_own own) v.held)) (sym (none_more own earlier v.events more w.events events_are (none own))) (told.at own));
  ended = λ own low high. subst (λ h. IsEndTold h (is_told_closed own (earlier ++ w.events))) (sym (ap (find (has_own own)) held_is))
      (subst (IsEndTold (find (has_own own) v.held)) (sym (none_more own earlier v.events more w.events events_are (none own))) (told.ended own low (omega (arith, next_is, high))));
  fresh = λ own above. none_more own earlier v.events more w.events events_are (none own) ∙ told.fresh own (omega (arith, next_is, above));
  below = λ own above. ap (find (has_own own)) held_is ∙ told.below own (omega (arith, next_is, above));
}

-- whatever carries
abbrev pub Anything : Carrier → Carrier → Type 0
Anything before after = Unit {0}

walks-told : (policy : Policy) → Walks policy Anything GoesOn
walks-told policy = record {
  same = λ carrier. tt;
  still = λ v w held_is next_is events_are. silent_told v w [] held_is next_is (events_are ∙ append_none v.events) (λ own. refl);
  tells = λ v w event held_is next_is events_are other. silent_told v w (event ∷ []) held_is next_is events_are (λ own. ap (λ b. b || false) (other own));
  both = λ v u w first second earlier told. second earlier (first earlier told);
  made = λ v w psm stage is held_is next_is events_are. made_told v w psm stage is held_is next_is events_are;
  moves = λ v w held after more moves. moves_told policy Anything v w held after more moves;
}

-- ---- a run

abbrev pub RunTold : Run → Type 0
RunTold run = Told run.told run.value

same_events : (told : List ChannelEvent) → told ≡ told ++ []
same_events told = append_none told

comes_told : (policy : Policy) (pdu : List ℕ) (v : Channels) (signals : Bool) → GoesOn v (cond signals (hears_commands policy (answers (drop 4 pdu)) v) (takes (channel_of pdu) pdu v))
comes_told policy pdu v true = commands-go policy Anything GoesOn (walks-told policy) (answers (drop 4 pdu)) v
comes_told policy pdu v false = takes-goes policy Anything GoesOn (walks-told policy) (channel_of pdu) pdu v (λ machine open'. tt)

-- the next event goes from the one list to the other
event_first : (events : List ChannelEvent) → option_to_list (slice_get events 0) ++ drop 1 events ≡ events
event_first [] = refl
event_first (event ∷ events) = refl

tells_told : (earlier : List ChannelEvent) (v : Channels) → Told earlier v → (let w : Channels = record v { events = drop 1 v.events } in Told (earlier ++ option_to_list (slice_get v.events 0)) w)
tells_told earlier v told =
    let same : (earlier ++ option_to_list (slice_get v.events 0)) ++ drop 1 v.events ≡ earlier ++ v.events = append_assoc earlier (option_to_list (slice_get v.events 0)) (drop 1 v.events) ∙ ap (λ es. earlier ++ es) (event_first v.events) in
    record {
      at = λ own. subst (λ es. HeldTold (find (has_own own) v.held) (is_told_closed own es)) (sym same) (told.at own);
      ended = λ own low high. subst (λ es. IsEndTold (find (has_own own) v.held) (is_told_closed own es)) (sym same) (told.ended own low high);
      fresh = λ own above. ap (is_told_closed own) same ∙ told.fresh own above;
      below = told.below;
    }

pub one_told : (policy : Policy) (run : Run) (more : Occurrence) → Distinct own_of run.value.held → RunTold run → RunTold (run_on policy run more)
one_told policy run (Comes pdu) lone told = on_same (comes_told policy pdu run.value (eqb (channel_of pdu) 0x0001))
  where
    on_same : GoesOn run.value (value_after policy (Comes pdu) run.value) → RunTold (run_on policy run (Comes pdu))
    on_same goes = subst (λ es. Told es (value_after policy (Comes pdu) run.value)) (same_events run.told) (goes run.told told)
one_told policy run (Connects psm) lone told = subst (λ es. Told es (value_after policy (Connects psm) run.value)) (same_events run.told) (connected-goes policy Anything GoesOn (walks-told policy) psm run.value run.told told)
one_told policy run AsksFeatures lone told = subst (λ es. Told es (value_after policy AsksFeatures run.value)) (same_events run.told) (asks-features-goes policy Anything GoesOn (walks-told policy) run.value run.told told)
one_told policy run (Disconnects own) lone told = subst (λ es. Told es (value_after policy (Disconnects own) run.value)) (same_events run.told) (disconnected-goes policy Anything GoesOn (walks-told policy) own run.value run.told told)
one_told policy run (Sends own sdu) lone told = subst (λ es. Told es (value_after policy (Sends own sdu) run.value)) (same_events run.told) (sends-goes policy Anything GoesOn (walks-told policy) own sdu run.value (λ carrier. tt) run.told told)
one_told policy run (Gives pdu) lone told = subst (λ es. Told es (value_after policy (Gives pdu) run.value)) (same_events run.told) (given-goes policy Anything GoesOn (walks-told policy) run.value (λ carrier. tt) lone run.told told)
one_told policy run Fires lone told = subst (λ es. Told es (value_after policy Fires run.value)) (same_events run.told) (timed-goes policy Anything GoesOn (walks-told policy) run.value (λ machine open'. tt) run.told told)
one_told policy run Tells lone told = tells_told run.told run.value told

pub nothing_told : RunTold new_link
nothing_told = record { at = λ own. tt; ended = λ own low high. absurd (omega (arith, low, high)); fresh = λ own above. refl; below = λ own above. refl }
