-- How long the channels of a host last.
use Rattle.std.proofs.Common.{◌≡◌, ℕ, List, [], ◌∷◌, ◌++◌, fold, map, drop, Bool, true, false, cond, eqb, Option, Some, None, Ok, refl, sym, ap, subst, ◌∙◌, append_assoc, append-nil}
use Rattle.std.proofs.lemmas.List.Sums.{fold-append}
use Rattle.channel_laws.specs.acl_fragments.specs.Pieces.{channel_of}
use Rattle.channel_laws.specs.capture.specs.Histories.{EachAfter}
use Rattle.channel_laws.specs.capture.specs.declared.flow.Flow.TheVariants.{Into}
use Rattle.channel_laws.specs.l2cap_signal.specs.Commands.{Command}
use Rattle.channel_laws.specs.l2cap_signal.specs.Reading.{Answer as Read, answers}
use Rattle.channel_laws.specs.link_talk.specs.Sayings.{Saying, Carried}
use Rattle.channel_laws.specs.channel_model.specs.Calls.{setup_on, carrier_at, asks_features, connected}
use Rattle.channel_laws.specs.channel_model.specs.Carrying.{takes}
use Rattle.channel_laws.specs.channel_model.specs.Changing.{held_at}
use Rattle.channel_laws.specs.channel_model.specs.Giving.{Given, Signal, Whole, Framed, next_given}
use Rattle.channel_laws.specs.channel_model.specs.Hearing.{hears_commands}
use Rattle.channel_laws.specs.channel_model.specs.Policies.{Policy}
use Rattle.channel_laws.specs.channel_model.specs.Timing.{times_channels}
use Rattle.channel_laws.specs.channel_model.specs.Value.{Answer, Carrier, Plain, Retransmitting, Stage, Requested, Connected, Leaving, Closing, Crossed, Channels}
use Rattle.channel_laws.specs.Awaited.{asks_for_end}
use Rattle.channel_laws.specs.OwnTalk.{exchanged, reply_to, asked_between, said_with_all}
use Rattle.channel_laws.specs.Runs.{Occurrence, Comes, Connects, AsksFeatures, Disconnects, Sends, Gives, Fires, Tells, said_in, value_after, Run, new_link, run_on, run_of, said_by_carrier, peer_at, said_as}
use Rattle.channel_laws.specs.Signals.{StandsIn}
use Rattle.channel_laws.proofs.Replying.{is_response}
use Rattle.channel_laws.proofs.Running.{all-sound}
use Rattle.channel_laws.proofs.Saying.{stands-left, stands-right, answers-are_responses}
use Rattle.lasting_laws.specs.Lasting.{OptionsSucceed, AsksForNoEnd, IsSpared, Lasts, ChannelsLast}
use Rattle.lasting_laws.proofs.Kept.{IsKept, AllKept, found-kept, command-kept, taken-kept, calls-kept, features-kept, sends-kept, gives-kept}
use Rattle.lasting_laws.proofs.Timed.{AllLast, all-kept, all-last, channels-timed, features-timed}
use Rattle.lasting_laws.proofs.Unsaid.{none-both, nothing-said, none-more, unsaid-between, replies-say, channels-unsaid}

-- ---- something that happens

-- its channels stay, and it asks for no end with it
abbrev pub KeepsOn : Policy → Occurrence → Channels → Type 0
KeepsOn policy one v = AllKept (value_after policy one v) × AsksForNoEnd (said_in policy one v)

comes : (policy : Policy) (past : List Occurrence) (pdu : List ℕ) → (let v : Channels = (run_of policy past).value in AllKept v → IsSpared policy (Comes pdu) v → OptionsSucceed (said_in policy (Comes pdu) v) → KeepsOn policy (Comes pdu) v)
comes policy past pdu all (single, stands) succeed = by (eqb (channel_of pdu) 0x0001) refl succeed
  where
    v : Channels
    v = (run_of policy past).value

    waits : (command : Command) → StandsIn (Answer command) (value_after policy (Comes pdu) v).queue → is_response command.content ≡ true
    waits command is = answers-are_responses policy (past ++ Comes pdu ∷ []) command (subst (λ (r : Run). StandsIn (Answer command) r.value.queue) (sym (fold-append (run_on policy) new_link past (Comes pdu ∷ []))) is)

    read : (list : List Read) (command : Command) → list ≡ Ok command ∷ [] → ((c : Command) → StandsIn (Answer c) (hears_commands policy list v).queue → is_response c.content ≡ true) → OptionsSucceed (said_with_all policy list v)
        → AllKept (hears_commands policy list v) × AsksForNoEnd (said_with_all policy list v)
    read list command is answered so = subst (λ (l : List Read). AllKept (hears_commands policy l v) × AsksForNoEnd (said_with_all policy l v)) (sym is) (kept, none-both (exchange ++ asked_between v after) [] (none-both exchange (asked_between v after) said (unsaid-between v after kept)) nothing-said)
      where
        one : Read
        one = Ok command

        after : Channels
        after = hears_commands policy (one ∷ []) v

        exchange : List Saying
        exchange = exchanged one (reply_to policy one v) v

        exchange_succeeds : OptionsSucceed exchange
        exchange_succeeds flow i peer f r o stood =
            subst (λ (l : List Read). OptionsSucceed (said_with_all policy l v)) is so flow i peer f r o (stands-left _ (exchange ++ asked_between v after) [] (stands-left _ exchange (asked_between v after) stood))

        kept : AllKept after
        kept = command-kept policy command.identifier command.content v exchange_succeeds all

        said : AsksForNoEnd exchange
        said = replies-say policy command.identifier command.content v (λ c stood. answered c (subst (λ (l : List Read). StandsIn (Answer c) (hears_commands policy l v).queue) (sym is) stood))

    by : (signals : Bool) → eqb (channel_of pdu) 0x0001 ≡ signals → OptionsSucceed (cond (eqb (channel_of pdu) 0x0001) (said_with_all policy (answers (drop 4 pdu)) v) (Carried Into pdu ∷ asked_between v (takes (channel_of pdu) pdu v))) → KeepsOn policy (Comes pdu) v
    by true is so =
        let (command, read_is) = single is in
        let both = read (answers (drop 4 pdu)) command read_is
        (λ c stood. waits c (subst (λ b. StandsIn (Answer c) (cond b (hears_commands policy (answers (drop 4 pdu)) v) (takes (channel_of pdu) pdu v)).queue) (sym is) stood))
        (subst (λ b. OptionsSucceed (cond b (said_with_all policy (answers (drop 4 pdu)) v) (Carried Into pdu ∷ asked_between v (takes (channel_of pdu) pdu v)))) is so) in
        subst (λ b. AllKept (cond b (hears_commands policy (answers (drop 4 pdu)) v) (takes (channel_of pdu) pdu v)) × AsksForNoEnd (cond b (said_with_all policy (answers (drop 4 pdu)) v) (Carried Into pdu ∷ asked_between v (takes (channel_of pdu) pdu v)))) (sym is) both
    by false is so =
        let kept = taken-kept (channel_of pdu) pdu v (λ held setup found has m carrier taken. stands is setup m (ap setup_on found ∙ has) carrier taken) all in
        subst (λ b. AllKept (cond b (hears_commands policy (answers (drop 4 pdu)) v) (takes (channel_of pdu) pdu v)) × AsksForNoEnd (cond b (said_with_all policy (answers (drop 4 pdu)) v) (Carried Into pdu ∷ asked_between v (takes (channel_of pdu) pdu v)))) (sym is)
        (kept, none-more (Carried Into pdu) (asked_between v (takes (channel_of pdu) pdu v)) (λ command same. cc) (unsaid-between v (takes (channel_of pdu) pdu v) kept))

carried_unsaid : (carrier : Option Carrier) (peer : ℕ) (sdu : List ℕ) → AsksForNoEnd (said_by_carrier carrier peer sdu)
carried_unsaid None peer sdu = nothing-said
carried_unsaid (Some (Plain agreed None)) peer sdu = none-more _ [] (λ command same. cc) nothing-said
carried_unsaid (Some (Plain agreed (Some waiting))) peer sdu = nothing-said
carried_unsaid (Some (Retransmitting machine)) peer sdu = nothing-said

given_unsaid : (given : Option Given) (pdu : List ℕ) → AsksForNoEnd (said_as given pdu)
given_unsaid None pdu = nothing-said
given_unsaid (Some (Signal command)) pdu = nothing-said
given_unsaid (Some (Whole peer sdu)) pdu = nothing-said
given_unsaid (Some (Framed peer frame)) pdu = none-more _ [] (λ command same. cc) nothing-said

pub occurs : (policy : Policy) (past : List Occurrence) (one : Occurrence) → (let v : Channels = (run_of policy past).value in AllKept v → IsSpared policy one v → OptionsSucceed (said_in policy one v) → KeepsOn policy one v)
occurs policy past (Comes pdu) all spared succeed = comes policy past pdu all spared succeed
occurs policy past (Connects psm) all spared succeed = let kept = calls-kept psm (run_of policy past).value all in (kept, unsaid-between (run_of policy past).value (connected psm (run_of policy past).value) kept)
occurs policy past AsksFeatures all spared succeed = let kept = features-kept (run_of policy past).value all in (kept, unsaid-between (run_of policy past).value (asks_features (run_of policy past).value) kept)
occurs policy past (Disconnects own) all spared succeed = absurd spared
occurs policy past (Sends own sdu) all spared succeed = (sends-kept own sdu (run_of policy past).value all, carried_unsaid (carrier_at own (run_of policy past).value) (peer_at (held_at own (run_of policy past).value)) sdu)
occurs policy past (Gives pdu) all spared succeed = (gives-kept (run_of policy past).value all, given_unsaid (next_given (run_of policy past).value) pdu)
occurs policy past Fires all spared succeed =
    let v : Channels = (run_of policy past).value in
    let owns : List ℕ = map (λ held. held.own) v.held in
    let last : AllLast policy.tries v = all-last policy.tries v (all-sound policy past).core.lone all spared in
    let after : Channels = times_channels policy.tries owns v in
    (all-kept policy.tries _ (features-timed policy.tries after (channels-timed policy.tries owns v last)), channels-unsaid policy.tries owns v last)
occurs policy past Tells all spared succeed = (all, nothing-said)

-- ---- all that happens

run_more : (policy : Policy) (past : List Occurrence) (one : Occurrence) → run_of policy (past ++ one ∷ []) ≡ run_on policy (run_of policy past) one
run_more policy past one = fold-append (run_on policy) new_link past (one ∷ [])

-- what was said stands in what is said
grows : (policy : Policy) (list : List Occurrence) (run : Run) (s : Saying) → StandsIn s run.said → StandsIn s (fold (run_on policy) run list).said
grows policy [] run s is = is
grows policy (one ∷ list) run s is = grows policy list (run_on policy run one) s (stands-left s run.said (said_in policy one run.value) is)

pub less-succeed : (some all : List Saying) → ((s : Saying) → StandsIn s some → StandsIn s all) → OptionsSucceed all → OptionsSucceed some
less-succeed some all within succeed flow identifier peer flags result options stood = succeed flow identifier peer flags result options (within _ stood)

-- so far
abbrev SoFar : Policy → List Occurrence → Type 0
SoFar policy past = AllKept (run_of policy past).value × AsksForNoEnd (run_of policy past).said

all_last : (policy : Policy) (past rest : List Occurrence) → EachAfter (λ front one. IsSpared policy one (run_of policy front).value) past rest → OptionsSucceed (run_of policy (past ++ rest)).said → SoFar policy past → SoFar policy (past ++ rest)
all_last policy past [] spared succeed so = subst (SoFar policy) (sym (append-nil past)) so
all_last policy past (one ∷ rest) (now, spared) succeed so =
    let v : Channels = (run_of policy past).value in
    let whole : run_of policy (past ++ one ∷ rest) ≡ fold (run_on policy) (run_on policy (run_of policy past) one) rest = fold-append (run_on policy) new_link past (one ∷ rest) in
    let here : OptionsSucceed (said_in policy one v) = less-succeed (said_in policy one v) (run_of policy (past ++ one ∷ rest)).said
    (λ s stood. subst (λ (x : Run). StandsIn s x.said) (sym whole) (grows policy rest (run_on policy (run_of policy past) one) s (stands-right s (run_of policy past).said (said_in policy one v) stood))) succeed in
    let step = occurs policy past one so.0 now here in
    let next : SoFar policy (past ++ one ∷ []) = subst (λ (x : Run). AllKept x.value × AsksForNoEnd x.said) (sym (run_more policy past one)) (step.0, none-both (run_of policy past).said (said_in policy one v) so.1 step.1) in
    subst (SoFar policy) (append_assoc past (one ∷ []) rest)
    (all_last policy (past ++ one ∷ []) rest spared (subst (λ (l : List Occurrence). OptionsSucceed (run_of policy l).said) (sym (append_assoc past (one ∷ []) rest)) succeed) next)

waits_for_none : (stage : Stage) → IsKept stage → asks_for_end stage ≡ false
waits_for_none (Requested request) is = refl
waits_for_none (Connected peer setup) is = refl
waits_for_none (Leaving peer setup request) is = absurd is
waits_for_none (Closing peer request checked) is = absurd is
waits_for_none (Crossed peer request) is = absurd is

pub lasts-so : (run : Run) → AllKept run.value → AsksForNoEnd run.said → Lasts run
lasts-so run all none = record { no_end = none; there = λ own held found. waits_for_none held.stage (found-kept own run.value held all found) }

pub channels-last : ChannelsLast
channels-last policy list spared succeed = let so = all_last policy [] list spared succeed (tt, nothing-said) in lasts-so (run_of policy list) so.0 so.1
