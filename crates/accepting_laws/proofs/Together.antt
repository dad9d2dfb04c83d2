-- Two hosts that wish the same answer all requests for options with success where each comes in time.
use Rattle.std.proofs.Common.{◌≡◌, ℕ, List, [], ◌∷◌, ◌++◌, drop, Bool, true, false, cond, eqb, Option, Some, None, Ok, refl, sym, ap, subst, ◌∙◌, inl, inr, append_assoc, append-nil, arith}
use Rattle.std.proofs.lemmas.List.Sums.{fold-append}
use Rattle.channel_laws.specs.acl_fragments.specs.Pieces.{channel_of}
use Rattle.channel_laws.specs.capture.specs.Histories.{EachAfter}
use Rattle.channel_laws.specs.l2cap_signal.specs.Commands.{configuration_request, configuration_response}
use Rattle.channel_laws.specs.l2cap_signal.specs.Reading.{answers}
use Rattle.channel_laws.specs.link_talk.specs.Channels.{reading}
use Rattle.channel_laws.specs.channel_model.specs.Answers.{answer_to, configuration_answer}
use Rattle.channel_laws.specs.channel_model.specs.Calls.{has_fcs}
use Rattle.channel_laws.specs.channel_model.specs.Changing.{held_at}
use Rattle.channel_laws.specs.channel_model.specs.Configuring.{verdict_on, judged_stage}
use Rattle.channel_laws.specs.channel_model.specs.Giving.{Given, next_given}
use Rattle.channel_laws.specs.channel_model.specs.Policies.{Policy}
use Rattle.channel_laws.specs.channel_model.specs.Value.{Stage, Requested, Connected, Leaving, Closing, Crossed, Held, Channels}
use Rattle.channel_laws.specs.Belonging.{AreRead, IsRead, said_at}
use Rattle.channel_laws.specs.Ends.{end_at}
use Rattle.channel_laws.specs.Modes.{policy_of}
use Rattle.channel_laws.specs.OwnTalk.{command_with}
use Rattle.channel_laws.specs.Pairs.{Pair, new_pair, Happening, Acts, Puts, Takes, Repeats, Loses, Damages, is_alone, occurs, with_near, puts, let_go, takes_first, repeats_first, loses_first, damages_first, happens_near, Side, Near, Far, turned, Turn, pair_after, pair_of, IsRunOf}
use Rattle.channel_laws.specs.Runs.{Occurrence, Comes, Connects, AsksFeatures, Disconnects, Sends, Gives, Fires, Tells, Run}
use Rattle.channel_laws.specs.Signals.{StandsIn}
use Rattle.channel_laws.specs.Views.{peer_of}
use Rattle.channel_laws.proofs.Belonging.{pledges-were_said}
use Rattle.channel_laws.proofs.Mating.{front-each}
use Rattle.channel_laws.proofs.Pairing.{each-end_runs, end-policy}
use Rattle.channel_laws.proofs.Running.{all-sound}
use Rattle.channel_laws.proofs.Sound.{Sound}
use Rattle.channel_laws.proofs.UnderWay.{AllPlainly, come-plainly}
use Rattle.accepting_laws.specs.Anew.{SucceedsIn}
use Rattle.accepting_laws.specs.First.{SuggestsNone}
use Rattle.accepting_laws.specs.InTime.{WishTheSame}
use Rattle.accepting_laws.specs.Together.{HasNoChannel, ComesInTime, IsInTime, AllInTimeSucceed}
use Rattle.accepting_laws.proofs.Answering.{Holds, step}
use Rattle.accepting_laws.proofs.Succeeding.{options-in_time_succeed}

-- ---- one turn

-- at the end where it happens
near_holds : (pair : Pair) (happening : Happening) → (let v : Channels = pair.near.run.value in Sound pair.near.policy (reading pair.near.run.said) v → IsRead happening pair.near
    → ((pdu : List ℕ) (rest : List (List ℕ)) → pair.near.coming ≡ pdu ∷ rest → ComesInTime (pdu ∷ rest) v → SucceedsIn pair.near.policy (Comes pdu) v) → IsInTime happening pair.near → Holds pair.near.run.said v
    → (let after : Pair = happens_near happening pair in Holds after.near.run.said after.near.run.value))
near_holds pair happening sound read first in_time holds = by happening read in_time
  where
    more : (one : Occurrence) → SucceedsIn pair.near.policy one pair.near.run.value → (let after = occurs one pair.near in Holds after.run.said after.run.value)
    more one so = step pair.near.policy pair.near.run.said pair.near.run.value one sound so holds

    alone : (one : Occurrence) → is_alone one ≡ true → SucceedsIn pair.near.policy one pair.near.run.value
    alone (Comes pdu) is = cc
    alone (Connects psm) is = tt
    alone AsksFeatures is = tt
    alone (Disconnects own) is = tt
    alone (Sends own sdu) is = tt
    alone (Gives pdu) is = tt
    alone Fires is = tt
    alone Tells is = tt

    acts : (one : Occurrence) (is : Bool) → is_alone one ≡ is → (let after : Pair = cond is (with_near (occurs one pair.near) pair) pair in Holds after.near.run.said after.near.run.value)
    acts one true is = more one (alone one is)
    acts one false is = holds

    gave : (pdu : List ℕ) (given : Option Given) → (let after : Pair = puts given pdu pair in Holds after.near.run.said after.near.run.value)
    gave pdu None = holds
    gave pdu (Some given) = more (Gives pdu) tt

    took : (coming : List (List ℕ)) → pair.near.coming ≡ coming → ComesInTime coming pair.near.run.value → (let after = takes_first coming pair.near in Holds after.run.said after.run.value)
    took [] is now = holds
    took (pdu ∷ rest) is now = more (Comes pdu) (first pdu rest is now)

    repeated : (coming : List (List ℕ)) → pair.near.coming ≡ coming → ComesInTime coming pair.near.run.value → (let after = repeats_first coming pair.near in Holds after.run.said after.run.value)
    repeated [] is now = holds
    repeated (pdu ∷ rest) is now = more (Comes pdu) (first pdu rest is now)

    lost : (coming : List (List ℕ)) → (let after = loses_first coming pair.near in Holds after.run.said after.run.value)
    lost [] = holds
    lost (pdu ∷ rest) = holds

    damaged : (other : List ℕ) → eqb (channel_of other) 0x0001 ≡ false → (coming : List (List ℕ)) → (let after = damages_first other coming pair.near in Holds after.run.said after.run.value)
    damaged other away [] = holds
    damaged other away (pdu ∷ rest) = at (has_fcs (channel_of pdu) pair.near.run.value)
      where
        at : (checked : Bool) → (let after = cond checked (occurs (Comes other) (let_go rest pair.near)) (let_go rest pair.near) in Holds after.run.said after.run.value)
        at true = more (Comes other) (λ signals. let never : true ≡ false = sym signals ∙ away in absurd cc)
        at false = holds

    by : (h : Happening) → IsRead h pair.near → IsInTime h pair.near → (let after : Pair = happens_near h pair in Holds after.near.run.said after.near.run.value)
    by (Acts one) reads now = acts one (is_alone one) refl
    by (Puts pdu) reads now = gave pdu (next_given pair.near.run.value)
    by Takes reads now = took pair.near.coming refl now
    by Repeats reads now = repeated pair.near.coming refl now
    by Loses reads now = lost pair.near.coming
    by (Damages other) reads now = damaged other reads pair.near.coming

-- the other says nothing
far_holds : (pair : Pair) (happening : Happening) → Holds pair.far.run.said pair.far.run.value → (let after : Pair = happens_near happening pair in Holds after.far.run.said after.far.run.value)
far_holds pair (Acts one) holds = by (is_alone one)
  where
    by : (is : Bool) → (let after : Pair = cond is (with_near (occurs one pair.near) pair) pair in Holds after.far.run.said after.far.run.value)
    by true = holds
    by false = holds
far_holds pair (Puts pdu) holds = by (next_given pair.near.run.value)
  where
    by : (given : Option Given) → (let after : Pair = puts given pdu pair in Holds after.far.run.said after.far.run.value)
    by None = holds
    by (Some given) = holds
far_holds pair Takes holds = holds
far_holds pair Repeats holds = holds
far_holds pair Loses holds = holds
far_holds pair (Damages other) holds = holds

-- where it has no channel it is rejected, which states no result
no_response : (policy : Policy) (own flags : ℕ) (options : List ℕ) (v : Channels) → HasNoChannel own v → (peer more result : ℕ) (given : List ℕ)
    → answer_to policy (configuration_request own flags options) v ≡ Some (configuration_response peer more result given) → result ≡ 0
no_response policy own flags options v none peer more result given said = by (held_at own v) refl
  where
    rejected : (found : Option Held) → held_at own v ≡ found → Some (configuration_answer (verdict_on found policy flags options) own) ≡ Some (configuration_response peer more result given)
    rejected found at = sym (ap (λ h. Some (configuration_answer (verdict_on h policy flags options) own)) at) ∙ said

    on : (held : Held) → held_at own v ≡ Some held → (stage : Stage) → held.stage ≡ stage → result ≡ 0
    on held at (Requested request) is =
        let never : Some (configuration_answer (judged_stage (Requested request) (policy.wish held.psm) flags options) own) ≡ Some (configuration_response peer more result given) =
        sym (ap (λ s. Some (configuration_answer (judged_stage s (policy.wish held.psm) flags options) own)) is) ∙ rejected (Some held) at in
        absurd cc
    on held at (Connected to setup) is = let never : Some to ≡ None = sym (ap peer_of is) ∙ none held at in absurd cc
    on held at (Leaving to setup request) is = let never : Some to ≡ None = sym (ap peer_of is) ∙ none held at in absurd cc
    on held at (Closing to request checked) is = let never : Some to ≡ None = sym (ap peer_of is) ∙ none held at in absurd cc
    on held at (Crossed to request) is = let never : Some to ≡ None = sym (ap peer_of is) ∙ none held at in absurd cc

    by : (found : Option Held) → held_at own v ≡ found → result ≡ 0
    by None at = let never = rejected None at in absurd cc
    by (Some held) at = on held at held.stage refl

one_result : (to peer more result : ℕ) (stated given : List ℕ) → Some (configuration_response to 0 0 stated) ≡ Some (configuration_response peer more result given) → result ≡ 0
one_result to peer more result stated given same = cc

-- ---- both

record BothHold (pair : Pair) : Type 0 where
  near : Holds pair.near.run.said pair.near.run.value
  far : Holds pair.far.run.said pair.far.run.value

sound_run : (policy : Policy) (run : Run) → IsRunOf policy run → Sound policy (reading run.said) run.value
sound_run policy run (list, is) = subst (λ (r : Run). Sound policy (reading r.said) r.value) (sym is) (all-sound policy list)

module _ (near far : Policy) (same : WishTheSame near far) where
  -- none of what one heard suggests, as the other said success alone
  suggests_none : (past : List Turn) → AreRead near far past → BothHold (pair_of near far past) → (side : Side) → SuggestsNone (said_at side (pair_of near far past))
  suggests_none past read both Near identifier own flags options stands =
      let never : 1 ≡ 0 = both.far.said identifier own flags 1 options (pledges-were_said near far past read Near (command_with identifier (configuration_response own flags 1 options)) refl stands) in absurd (omega (arith, never))
  suggests_none past read both Far identifier own flags options stands =
      let never : 1 ≡ 0 = both.near.said identifier own flags 1 options (pledges-were_said near far past read Far (command_with identifier (configuration_response own flags 1 options)) refl stands) in absurd (omega (arith, never))

  -- so what comes in in time succeeds
  first_succeeds : (past : List Turn) → AreRead near far past → BothHold (pair_of near far past) → (asker : Side) (policy : Policy) → policy ≡ policy_of asker far near → (let mine = end_at asker (turned (pair_of near far past)) in AllPlainly mine.coming
      → (pdu : List ℕ) (rest : List (List ℕ)) → mine.coming ≡ pdu ∷ rest → ComesInTime (pdu ∷ rest) mine.run.value → SucceedsIn policy (Comes pdu) mine.run.value)
  first_succeeds past read both asker policy is plain pdu rest comes now signals =
      let stands : StandsIn pdu (end_at asker (turned (pair_of near far past))).coming = subst (StandsIn pdu) (sym comes) (inl refl) in
      let (command, one, decisive) = plain pdu stands signals in
      record {
        command = command;
        is_one = one;
        success = λ own flags options asks anew peer more result given said.
            let it : answers (drop 4 pdu) ≡ Ok (command_with command.identifier (configuration_request own flags options)) ∷ [] = one ∙ ap (λ c. Ok (command_with command.identifier c) ∷ []) asks in
            let v : Channels = (end_at asker (turned (pair_of near far past))).run.value in
            let answered : answer_to policy (configuration_request own flags options) v ≡ Some (configuration_response peer more result given) = sym (ap (λ c. answer_to policy c v) asks) ∙ said in
            elim (now command.identifier own flags options signals it anew) [
              | inl gone ↦ no_response policy own flags options v gone peer more result given answered
              | inr (to, psm, awaits) ↦
                  let (stated, success) = options-in_time_succeed near far past read same asker (suggests_none past read both asker) pdu command.identifier own flags options stands signals it to psm awaits in
                  one_result to peer more result stated given (sym (ap (λ p. answer_to p (configuration_request own flags options) v) is ∙ success) ∙ answered)
            ];
      }

  one_turn : (past : List Turn) (at : Side) (happening : Happening) → AreRead near far past → IsRead happening (end_at at (pair_of near far past)) → IsInTime happening (end_at at (pair_of near far past)) → BothHold (pair_of near far past)
      → BothHold (pair_after (pair_of near far past) (record { side = at; happening = happening }))
  one_turn past Near happening read now in_time both =
      let pair : Pair = pair_of near far past in
      let mine : pair.near.policy ≡ near = end-policy near far past Near in
      record {
        near = near_holds pair happening (subst (λ p. Sound p (reading pair.near.run.said) pair.near.run.value) (sym mine) (sound_run near pair.near.run (each-end_runs near far past).0)) now
            (first_succeeds past read both Far pair.near.policy mine (come-plainly near far past read).near) in_time both.near;
        far = far_holds pair happening both.far;
      }
  one_turn past Far happening read now in_time both =
      let pair : Pair = pair_of near far past in
      let mine : pair.far.policy ≡ far = end-policy near far past Far in
      record {
        near = far_holds (turned pair) happening both.near;
        far = near_holds (turned pair) happening (subst (λ p. Sound p (reading pair.far.run.said) pair.far.run.value) (sym mine) (sound_run far pair.far.run (each-end_runs near far past).1)) now
            (first_succeeds past read both Near pair.far.policy mine (come-plainly near far past read).far) in_time both.far;
      }

  all_both : (past turns : List Turn) → AreRead near far (past ++ turns) → EachAfter (λ front turn. IsRead turn.happening (end_at turn.side (pair_of near far front))) past turns
      → EachAfter (λ front turn. IsInTime turn.happening (end_at turn.side (pair_of near far front))) past turns → BothHold (pair_of near far past) → BothHold (pair_of near far (past ++ turns))
  all_both past [] whole read in_time both = subst (λ list. BothHold (pair_of near far list)) (sym (append-nil past)) both
  all_both past (turn ∷ turns) whole (now, read) (timely, in_time) both =
      let next : List Turn = past ++ turn ∷ [] in
      let before : AreRead near far past = front-each (λ front t. IsRead t.happening (end_at t.side (pair_of near far front))) [] past (turn ∷ turns) whole in
      subst (λ list. BothHold (pair_of near far list)) (append_assoc past (turn ∷ []) turns)
      (all_both next turns (subst (AreRead near far) (sym (append_assoc past (turn ∷ []) turns)) whole) read in_time
      (subst BothHold (sym (fold-append pair_after (new_pair near far) past (turn ∷ []))) (one_turn past turn.side turn.happening before now timely both)))

pub all-in_time_succeed : AllInTimeSucceed
all-in_time_succeed near far turns read same in_time = (both.near.said, both.far.said)
  where
    none : BothHold (new_pair near far)
    none = record { near = record { said = λ i p f r o is. elim is [ ]; last = λ l is. let never : None ≡ Some l = is in cc }; far = record { said = λ i p f r o is. elim is [ ]; last = λ l is. let never : None ≡ Some l = is in cc } }

    both : BothHold (pair_of near far turns)
    both = all_both near far same [] turns read read in_time none
