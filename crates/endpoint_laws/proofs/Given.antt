-- Whatever happens to a host, each of its endpoints is given once.
use Rattle.std.proofs.Common.{◌≡◌, ℕ, ◌<◌, ◌≤◌, List, [], ◌∷◌, ◌++◌, true, Option, Some, None, Ok, refl, ◌⊎◌, inl, inr, arith}
use Rattle.channel_laws.specs.acl_fragments.specs.Pieces.{channel_of}
use Rattle.channel_laws.specs.capture.specs.Histories.{EachAfter}
use Rattle.channel_laws.specs.capture.specs.declared.flow.Flow.TheVariants.{Out, Into}
use Rattle.channel_laws.specs.l2cap_signal.specs.Commands.{Content}
use Rattle.channel_laws.specs.link_talk.specs.Sayings.{Saying, Carried}
use Rattle.channel_laws.specs.link_talk.specs.Sayings as sayings
use Rattle.channel_laws.specs.link_talk.specs.Channels.{reading}
use Rattle.channel_laws.specs.channel_model.specs.declared.errand.Errand.TheVariants as errands
use Rattle.channel_laws.specs.channel_model.specs.Value.{Request, Carrier, Plain, Retransmitting, Channels, no_channels}
use Rattle.channel_laws.specs.channel_model.specs.Policies.{Policy}
use Rattle.channel_laws.specs.channel_model.specs.Changing.{held_at}
use Rattle.channel_laws.specs.channel_model.specs.Following.{follows}
use Rattle.channel_laws.specs.channel_model.specs.Hearing.{hears_content}
use Rattle.channel_laws.specs.channel_model.specs.Carrying.{takes}
use Rattle.channel_laws.specs.channel_model.specs.Giving.{Given, Signal, Whole, Framed, next_given}
use Rattle.channel_laws.specs.channel_model.specs.Timing.{times_held, times_end, times_features}
use Rattle.channel_laws.specs.channel_model.specs.Calls.{carrier_at, connected, asks_features, disconnected}
use Rattle.channel_laws.specs.channel_model.proofs.Lookups.{own_of, Distinct}
use Rattle.channel_laws.specs.channel_model.proofs.Walking.{follows-goes, command-goes}
use Rattle.channel_laws.specs.channel_model.proofs.Calling.{connected-goes, asks-features-goes, disconnected-goes, sends-goes, takes-goes, timed-held, ended-held, features-timed, given-goes}
use Rattle.channel_laws.specs.OwnTalk.{command_with, exchanged, asked_between}
use Rattle.channel_laws.specs.Runs.{Occurrence, Comes, Connects, AsksFeatures, Disconnects, Sends, Gives, Fires, Tells, features_given_up, said_again, said_by_features, said_by_carrier, said_as, said_in, value_after, run_of}
use Rattle.channel_laws.specs.Signals.{StandsIn}
use Rattle.channel_laws.proofs.Bestowing.{Bestows, converses, first-bestows}
use Rattle.channel_laws.proofs.Converses.{is_single, ConversesKnowing, AnyOccurs}
use Rattle.channel_laws.proofs.Conversing.{conversed-knowing, conversed-on}
use Rattle.channel_laws.proofs.Due.{Any, KeepsDue, same-due, walks}
use Rattle.channel_laws.proofs.Protocols.{KeepsPsm, follows-psm, hears-psm, takes-psm, times-psm, ends-psm, features-psm, single-psm}
use Rattle.channel_laws.proofs.Saying.{stands-either}
use Rattle.channel_laws.proofs.Sound.{Sound}
use Rattle.channel_laws.proofs.Words.{words-asked, words-again, words-left, words-firing}
use Rattle.endpoint_laws.specs.Given.{gives_endpoint, EndpointsRise, GivenAreBelow, EndpointsAreGivenOnce, LaterAreGreater}
use Rattle.endpoint_laws.proofs.Named.{Calls, calls_none, calls_both, calls_other, call_words, Sources, call_sources, asked_sources, IsFresh, Once, Steps, steps, once_first, once_more}

-- ---- what happens alone

carrier_calls : (w : Channels) (carrier : Option Carrier) (peer : ℕ) (sdu : List ℕ) → Calls w (said_by_carrier carrier peer sdu)
carrier_calls w None peer sdu = calls_none w
carrier_calls w (Some (Plain agreed None)) peer sdu = calls_other w _ refl
carrier_calls w (Some (Plain agreed (Some waiting))) peer sdu = calls_none w
carrier_calls w (Some (Retransmitting machine)) peer sdu = calls_none w

given_calls : (w : Channels) (given : Option Given) (pdu : List ℕ) → Calls w (said_as given pdu)
given_calls w None pdu = calls_none w
given_calls w (Some (Signal command)) pdu = calls_none w
given_calls w (Some (Whole peer sdu)) pdu = calls_none w
given_calls w (Some (Framed peer frame)) pdu = calls_other w (Carried Out pdu) refl

features_calls : (w : Channels) (before after : Option Request) → Calls w (features_given_up before after)
features_calls w None after = calls_none w
features_calls w (Some request) None = calls_other w _ refl
features_calls w (Some request) (Some other) = calls_none w

single_calls : (policy : Policy) (v : Channels) (more : Occurrence) → is_single more ≡ true → Calls (value_after policy more v) (said_in policy more v)
single_calls policy v (Comes pdu) is = cc
single_calls policy v (Connects psm) is = let w : Channels = connected psm v in words-asked w (Calls w) (call_words w) v
single_calls policy v AsksFeatures is = let w : Channels = asks_features v in words-asked w (Calls w) (call_words w) v
single_calls policy v (Disconnects own) is = let w : Channels = disconnected own v in words-left w (Calls w) (call_words w) own v
single_calls policy v (Sends own sdu) is = carrier_calls (value_after policy (Sends own sdu) v) (carrier_at own v) _ sdu
single_calls policy v (Gives pdu) is = given_calls (value_after policy (Gives pdu) v) (next_given v) pdu
single_calls policy v Fires is = cc
single_calls policy v Tells is = calls_none (value_after policy Tells v)

single_due : (policy : Policy) (v : Channels) (more : Occurrence) → is_single more ≡ true → Distinct own_of v.held → KeepsDue v (value_after policy more v)
single_due policy v (Comes pdu) is lone = cc
single_due policy v (Connects psm) is lone = connected-goes policy Any KeepsDue (walks policy) psm v
single_due policy v AsksFeatures is lone = asks-features-goes policy Any KeepsDue (walks policy) v
single_due policy v (Disconnects own) is lone = disconnected-goes policy Any KeepsDue (walks policy) own v
single_due policy v (Sends own sdu) is lone = sends-goes policy Any KeepsDue (walks policy) own sdu v (λ machine. tt)
single_due policy v (Gives pdu) is lone = given-goes policy Any KeepsDue (walks policy) v (λ carrier. tt) lone
single_due policy v Fires is lone = cc
single_due policy v Tells is lone = same-due v (value_after policy Tells v) refl refl

-- ---- whatever happens

-- something that each step keeps which gives endpoints so
abbrev pub Kept : (Q : List Saying → Channels → Type 0) → Type 0
Kept Q = (past said : List Saying) (v w : Channels) → Steps past v said w → Q past v → Q (past ++ said) w

pub record All (Q : List Saying → Channels → Type 0) (past : List Saying) (v : Channels) : Type 0 where
  pub bestows : Bestows past v
  pub once : Once past v
  pub more : Q past v

module _ (policy : Policy) (Q : List Saying → Channels → Type 0) (kept : Kept Q) where
  stepped : (past said : List Saying) (v w : Channels) (identifier : ℕ) (response : Option Content) → Sources past v said w identifier response → KeepsPsm v w → KeepsDue v w → Bestows (past ++ said) w
      → Sound policy (reading past) v → Sound policy (reading (past ++ said)) w → All Q past v → All Q (past ++ said) w
  stepped past said v w identifier response sources psms dues bestows before after all =
      let step = steps policy past said v w identifier response sources psms dues before after all.once in
      record { bestows = bestows; once = once_more past said v w step all.once; more = kept past said v w step all.more }

  pub all-converse : ConversesKnowing policy (λ v. Unit {0}) (All Q)
  all-converse = record {
    first = tt;
    kept = λ v more lone known. tt;
    asked = λ past v u one identifier response content asking reply alike waits grants before all after.
        let w : Channels = follows policy content u in
        stepped past _ v w identifier response (asked_sources past v w one identifier response reply grants all.bestows (words-asked w (Calls w) (call_words w) v)) (follows-psm policy v u content alike)
        ((walks policy).both v u w (same-due v u alike.held_is alike.next_is) (follows-goes policy Any KeepsDue (walks policy) content u))
        ((converses policy).asked past v u one identifier response content asking reply alike waits grants before all.bestows after) before after all;
    answered = λ past v identifier content is same before all after.
        let w : Channels = hears_content policy identifier content v in
        stepped past _ v w 0 None (call_sources past v (exchanged (Ok (command_with identifier content)) None v ++ asked_between v w) w (calls_both w (exchanged (Ok (command_with identifier content)) None v) (asked_between v w) (calls_other w (sayings.Command Into (Ok (command_with identifier content))) refl) (words-asked w (Calls w) (call_words w) v)))
        (hears-psm policy identifier content v) (command-goes policy Any KeepsDue (walks policy) (Ok (command_with identifier content)) v)
        ((converses policy).answered past v identifier content is same before all.bestows after) before after all;
    taken = λ past v pdu known same before all after.
        let w : Channels = takes (channel_of pdu) pdu v in
        stepped past _ v w 0 None (call_sources past v (Carried Into pdu ∷ asked_between v w) w (calls_both w (Carried Into pdu ∷ []) (asked_between v w) (calls_other w (Carried Into pdu) refl) (words-asked w (Calls w) (call_words w) v)))
        (takes-psm policy (channel_of pdu) pdu v) (takes-goes policy Any KeepsDue (walks policy) (channel_of pdu) pdu v (λ machine open'. tt)) ((converses policy).taken past v pdu known same before all.bestows after) before after all;
    waits = λ past v tries own same before all after.
        let w : Channels = times_held (held_at own v) tries v in
        stepped past _ v w 0 None (call_sources past v _ w (words-firing w (Calls w) (call_words w) own v))
        (times-psm policy tries own v) (timed-held policy Any KeepsDue (walks policy) v tries own (held_at own v) (λ machine open'. tt) refl) ((converses policy).waits past v tries own same before all.bestows after) before after all;
    ends = λ past v tries own same before all after.
        let w : Channels = times_end (held_at own v) tries v in
        stepped past _ v w 0 None (call_sources past v _ w (words-firing w (Calls w) (call_words w) own v))
        (ends-psm policy tries own v) (ended-held policy Any KeepsDue (walks policy) v tries own (held_at own v) refl) ((converses policy).ends past v tries own same before all.bestows after) before after all;
    loses = λ past v tries same before all after.
        let w : Channels = times_features v.features tries v in
        stepped past _ v w 0 None (call_sources past v (said_by_features tries v) w (calls_both w (said_again errands.Features v w) (features_given_up v.features w.features) (words-again w (Calls w) (call_words w) errands.Features v) (features_calls w v.features w.features)))
        (features-psm policy tries v) (features-timed policy Any KeepsDue (walks policy) tries v.features v) ((converses policy).loses past v tries same before all.bestows after) before after all;
    single = λ past v more is any known same before all after.
        stepped past _ v (value_after policy more v) 0 None (call_sources past v _ (value_after policy more v) (single_calls policy v more is))
        (single-psm policy v more is before.core.lone) (single_due policy v more is before.core.lone) ((converses policy).single past v more is any known same before all.bestows after) before after all;
  }

abbrev Nothing : List Saying → Channels → Type 0
Nothing past v = Unit {0}

once : (policy : Policy) (list : List Occurrence) → All Nothing (run_of policy list).said (run_of policy list).value
once policy list = conversed-knowing policy (λ v. Unit {0}) (All Nothing) (all-converse policy Nothing (λ past said v w step more. tt)) (record { bestows = first-bestows; once = once_first no_channels; more = tt }) list

-- from some moment on: the next endpoint does not fall below what it was, and what is said and was not by then gives one from there on
record Since (front : List Saying) (next : ℕ) (past : List Saying) (v : Channels) : Type 0 where
  rises : next ≤ v.next
  later : (one : Saying) (own : ℕ) → StandsIn one past → gives_endpoint one ≡ Some own → StandsIn one front ⊎ (next ≤ own)

since_kept : (front : List Saying) (next : ℕ) → Kept (Since front next)
since_kept front next past said v w step since = record { rises = let first = since.rises in let second = step.rises in omega (arith, first, second); later = later }
  where
    later : (one : Saying) (own : ℕ) → StandsIn one (past ++ said) → gives_endpoint one ≡ Some own → StandsIn one front ⊎ (next ≤ own)
    later one own stands gives = by (stands-either one past said stands)
      where
        new : StandsIn one past ⊎ IsFresh v w said own one → StandsIn one front ⊎ (next ≤ own)
        new (inl old) = since.later one own old gives
        new (inr fresh) = let first = since.rises in let above = fresh.above in inr (omega (arith, first, above))

        by : StandsIn one past ⊎ StandsIn one said → StandsIn one front ⊎ (next ≤ own)
        by (inl old) = since.later one own old gives
        by (inr now) = new (step.each one own now gives)

any_occurs : (policy : Policy) (past list : List Occurrence) → EachAfter (λ front one. AnyOccurs (run_of policy front).said one (run_of policy front).value) past list
any_occurs policy past [] = tt
any_occurs policy past (more ∷ list) = (tt, any_occurs policy (past ++ more ∷ []) list)

since : (policy : Policy) (list later : List Occurrence) → Since (run_of policy list).said (run_of policy list).value.next (run_of policy (list ++ later)).said (run_of policy (list ++ later)).value
since policy list later = (conversed-on policy AnyOccurs (λ v. Unit {0}) (All Q) (all-converse policy Q (since_kept front next)) list later tt first (any_occurs policy list later)).more
  where
    front : List Saying
    front = (run_of policy list).said

    next : ℕ
    next = (run_of policy list).value.next

    Q : List Saying → Channels → Type 0
    Q = Since front next

    first : All Q (run_of policy list).said (run_of policy list).value
    first = let all = once policy list in record { bestows = all.bestows; once = all.once; more = record { rises = omega arith; later = λ one own stands gives. inl stands } }

pub endpoints-rise : EndpointsRise
endpoints-rise policy list later = (since policy list later).rises

pub given-are_below : GivenAreBelow
given-are_below policy list one own stands gives = (once policy list).once.below one own stands gives

pub endpoints-are_given_once : EndpointsAreGivenOnce
endpoints-are_given_once policy list one other own first second gives too = (once policy list).once.sole one other own first second gives too

pub later-are_greater : LaterAreGreater
later-are_greater policy list later earlier one before own first gives second too = by ((since policy list later).later one own second too)
  where
    by : StandsIn one (run_of policy list).said ⊎ ((run_of policy list).value.next ≤ own) → StandsIn one (run_of policy list).said ⊎ (before < own)
    by (inl old) = inl old
    by (inr above) = let less = (once policy list).once.below earlier before first gives in inr (omega (arith, less, above))
