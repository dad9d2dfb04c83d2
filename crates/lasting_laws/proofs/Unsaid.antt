-- A host whose channels are only asked for, or there, says no request for an end.
use Rattle.std.proofs.Common.{◌≡◌, ℕ, List, [], ◌∷◌, ◌++◌, map, Bool, true, false, cond, eqb, ◌&&◌, not, Option, Some, None, Ok, refl, sym, ap, ◌∙◌, ◌⊎◌, inl, inr}
use Rattle.std.specs.Prelude.{option_to_list}
use Rattle.channel_laws.specs.capture.specs.declared.flow.Flow.TheVariants.{Into}
use Rattle.channel_laws.specs.l2cap_signal.specs.Commands.{Content, Command, reject, connection_request, connection_response, configuration_request, configuration_response, disconnection_request, disconnection_response, echo_request, echo_response, information_request, information_response}
use Rattle.channel_laws.specs.l2cap_signal.specs.Reading.{Answer as Read}
use Rattle.channel_laws.specs.link_talk.specs.Sayings.{Saying, Carried, GaveUp}
use Rattle.channel_laws.specs.link_talk.specs.Sayings as sayings
use Rattle.channel_laws.specs.channel_model.specs.declared.errand.Errand.{Errand}
use Rattle.channel_laws.specs.channel_model.specs.declared.errand.Errand.TheVariants as errands
use Rattle.channel_laws.specs.channel_model.specs.declared.request_kind.RequestKind.{RequestKind}
use Rattle.channel_laws.specs.channel_model.specs.declared.request_kind.RequestKind.TheVariants as kinds
use Rattle.channel_laws.specs.channel_model.specs.Changing.{held_at, has_room, is_due}
use Rattle.channel_laws.specs.channel_model.specs.Following.{follows, can_say, says, hears_kind}
use Rattle.channel_laws.specs.channel_model.specs.Giving.{command_of, connection_at, configuration_by, configuration_at, disconnection_at, on_held, features_command}
use Rattle.channel_laws.specs.channel_model.specs.Hearing.{hears_content}
use Rattle.channel_laws.specs.channel_model.specs.Policies.{Policy}
use Rattle.channel_laws.specs.channel_model.specs.Timing.{times_held, times_end, times_features}
use Rattle.channel_laws.specs.channel_model.specs.Value.{Request, Answer, Own, Unasked, Asking, Granted, Stage, Requested, Connected, Leaving, Closing, Crossed, Held, Remembered, Channels}
use Rattle.channel_laws.specs.OwnTalk.{spoken, command_with, response_by, command_if, reply_to, exchanged, newest, said_of, asked_between}
use Rattle.channel_laws.specs.Runs.{forgone_at, forgone_between, given_up, features_given_up, said_again, said_on_firing, said_by_channels}
use Rattle.channel_laws.specs.Signals.{StandsIn}
use Rattle.channel_laws.proofs.Replying.{is_response, IsReply, answer-reply}
use Rattle.channel_laws.proofs.Saying.{stands-right, stands-either}
use Rattle.lasting_laws.specs.Lasting.{AsksForNoEnd}
use Rattle.lasting_laws.proofs.Kept.{IsKept, AllKept, found-kept}
use Rattle.lasting_laws.proofs.Timed.{AllLast, all-kept, held-timed, end-timed, features-timed}

-- ---- lists of what is said

pub none-both : (one other : List Saying) → AsksForNoEnd one → AsksForNoEnd other → AsksForNoEnd (one ++ other)
none-both one other first second identifier own peer stands = by (stands-either _ one other stands)
  where
    by : StandsIn (spoken (command_with identifier (disconnection_request peer own))) one ⊎ StandsIn (spoken (command_with identifier (disconnection_request peer own))) other → ⊥
    by (inl is) = first identifier own peer is
    by (inr is) = second identifier own peer is

pub nothing-said : AsksForNoEnd []
nothing-said identifier own peer stands = elim stands [ ]

-- what is no command out asks for nothing
pub none-more : (one : Saying) (said : List Saying) → ((command : Command) → one ≡ spoken command → ⊥) → AsksForNoEnd said → AsksForNoEnd (one ∷ said)
none-more one said other rest identifier own peer (inl is) = other _ is
none-more one said other rest identifier own peer (inr is) = rest identifier own peer is

some_is : {X : Type 0} (x y : X) → Some x ≡ Some y → x ≡ y
some_is x y is = cc

-- ---- own requests

call_apart : (held : Held) (stage : Stage) (command : Command) (peer own : ℕ) → connection_at stage held ≡ Some command → command.content ≡ disconnection_request peer own → ⊥
call_apart held (Requested request) command peer own is end = let never : connection_request held.psm held.own ≡ disconnection_request peer own = ap (λ (c : Command). c.content) (some_is _ command is) ∙ end in cc
call_apart held (Connected at setup) command peer own is end = cc
call_apart held (Leaving at setup request) command peer own is end = cc
call_apart held (Closing at request checked) command peer own is end = cc
call_apart held (Crossed at request) command peer own is end = cc

own_apart : (asked : Own) (at : ℕ) (command : Command) (peer own : ℕ) → configuration_by asked at ≡ Some command → command.content ≡ disconnection_request peer own → ⊥
own_apart Unasked at command peer own is end = cc
own_apart (Asking request options) at command peer own is end = let never : configuration_request at 0 _ ≡ disconnection_request peer own = ap (λ (c : Command). c.content) (some_is _ command is) ∙ end in cc
own_apart Granted at command peer own is end = cc

options_apart : (stage : Stage) (command : Command) (peer own : ℕ) → configuration_at stage ≡ Some command → command.content ≡ disconnection_request peer own → ⊥
options_apart (Requested request) command peer own is end = cc
options_apart (Connected at setup) command peer own is end = own_apart setup.own at command peer own is end
options_apart (Leaving at setup request) command peer own is end = own_apart setup.own at command peer own is end
options_apart (Closing at request checked) command peer own is end = cc
options_apart (Crossed at request) command peer own is end = cc

end_apart : (held : Held) (stage : Stage) (command : Command) → IsKept stage → disconnection_at stage held ≡ Some command → ⊥
end_apart held (Requested request) command kept is = cc
end_apart held (Connected at setup) command kept is = cc
end_apart held (Leaving at setup request) command kept is = kept
end_apart held (Closing at request checked) command kept is = kept
end_apart held (Crossed at request) command kept is = kept

features_apart : (features : Option Request) (command : Command) (peer own : ℕ) → features_command features ≡ Some command → command.content ≡ disconnection_request peer own → ⊥
features_apart None command peer own is end = cc
features_apart (Some request) command peer own is end = let never : information_request 2 ≡ disconnection_request peer own = ap (λ (c : Command). c.content) (some_is _ command is) ∙ end in cc

unasked : (errand : Errand) (w : Channels) (command : Command) (peer own : ℕ) → AllKept w → command_of errand w ≡ Some command → command.content ≡ disconnection_request peer own → ⊥
unasked (errands.Connection at) w command peer own all is end = by (held_at at w) is
  where
    by : (held : Option Held) → on_held (λ h. connection_at h.stage h) held ≡ Some command → ⊥
    by None is = cc
    by (Some held) is = call_apart held held.stage command peer own is end
unasked (errands.Configuration at) w command peer own all is end = by (held_at at w) is
  where
    by : (held : Option Held) → on_held (λ h. configuration_at h.stage) held ≡ Some command → ⊥
    by None is = cc
    by (Some held) is = options_apart held.stage command peer own is end
unasked (errands.Disconnection at) w command peer own all is end = by (held_at at w) refl is
  where
    by : (held : Option Held) → held_at at w ≡ held → on_held (λ h. disconnection_at h.stage h) held ≡ Some command → ⊥
    by None found is = cc
    by (Some held) found is = end_apart held held.stage command (found-kept at w held all found) is
unasked errands.Features w command peer own all is end = features_apart w.features command peer own is end

unsaid_of : (errand : Option Errand) (w : Channels) → AllKept w → AsksForNoEnd (said_of errand w)
unsaid_of None w all = nothing-said
unsaid_of (Some errand) w all = by (command_of errand w) refl
  where
    by : (found : Option Command) → command_of errand w ≡ found → AsksForNoEnd (map spoken (option_to_list found))
    by None is identifier own peer stands = elim stands [ ]
    by (Some command) is identifier own peer (inl same) =
        let one : command ≡ command_with identifier (disconnection_request peer own) = cc in unasked errand w command peer own all is (ap (λ (c : Command). c.content) one)
    by (Some command) is identifier own peer (inr none) = elim none [ ]

pub unsaid-between : (v w : Channels) → AllKept w → AsksForNoEnd (asked_between v w)
unsaid-between v w all = by (eqb w.identifier v.identifier)
  where
    by : (same : Bool) → AsksForNoEnd (cond same [] (said_of (newest w.queue) w))
    by true = nothing-said
    by false = unsaid_of (newest w.queue) w all

-- ---- answers

replies : (one : Read) (identifier : ℕ) (response : Option Content) (v : Channels) → (can_say response v ≡ true → IsReply response) → AsksForNoEnd (exchanged one (command_if identifier response) v)
replies one identifier None v reply = none-more (sayings.Command Into one) [] (λ command is. cc) nothing-said
replies one identifier (Some content) v reply = by (has_room v) refl
  where
    answered : is_response content ≡ true → AsksForNoEnd (spoken (command_with identifier content) ∷ [])
    answered response at own peer (inl same) =
        let it : command_with identifier content ≡ command_with at (disconnection_request peer own) = cc in
        let never : false ≡ true = sym (ap (λ (c : Command). is_response c.content) it) ∙ response in cc
    answered response at own peer (inr none) = elim none [ ]

    by : (room : Bool) → has_room v ≡ room → AsksForNoEnd (cond room (sayings.Command Into one ∷ spoken (command_with identifier content) ∷ []) [])
    by true is = none-more (sayings.Command Into one) (spoken (command_with identifier content) ∷ []) (λ command same. cc) (answered (reply is))
    by false is = nothing-said

-- one that is given again waits
asked_replies : (one : Read) (last : Option Remembered) (kind : RequestKind) (identifier : ℕ) (fresh : Option Content) (more : Channels → Channels) (v : Channels) → IsReply fresh
    → ((command : Command) → StandsIn (Answer command) (hears_kind last kind identifier fresh more v).queue → is_response command.content ≡ true) → AsksForNoEnd (exchanged one (command_if identifier (response_by last identifier fresh)) v)
asked_replies one None kind identifier fresh more v reply waits = replies one identifier fresh v (λ can. reply)
asked_replies one (Some last) kind identifier fresh more v reply waits = by (eqb last.identifier identifier) waits
  where
    again : (response : Option Content) → (can : Bool) → can_say response v ≡ can → ((command : Command) → StandsIn (Answer command) (cond can (says identifier response v) v).queue → is_response command.content ≡ true) → can ≡ true → IsReply response
    again None can is waits now = tt
    again (Some content) true is waits now = waits (command_with identifier content) (stands-right (Answer (command_with identifier content)) v.queue _ (inl refl))
    again (Some content) false is waits now = cc

    by : (same : Bool) → ((command : Command) → StandsIn (Answer command) (cond same (cond (can_say last.response v) (says identifier last.response v) v) (hears_kind None kind identifier fresh more v)).queue → is_response command.content ≡ true)
        → AsksForNoEnd (exchanged one (command_if identifier (cond same last.response fresh)) v)
    by true waits = replies one identifier last.response v (again last.response (can_say last.response v) refl waits)
    by false waits = replies one identifier fresh v (λ can. reply)

pub replies-say : (policy : Policy) (identifier : ℕ) (content : Content) (v : Channels) → ((command : Command) → StandsIn (Answer command) (hears_content policy identifier content v).queue → is_response command.content ≡ true)
    → (let one : Command = command_with identifier content in AsksForNoEnd (exchanged (Ok one) (reply_to policy (Ok one) v) v))
replies-say policy identifier (reject reason rest) v waits = replies _ identifier None v (λ can. tt)
replies-say policy identifier (connection_request psm source) v waits = asked_replies _ v.memory.connection kinds.Connection identifier _ (follows policy (connection_request psm source)) v (answer-reply policy (connection_request psm source) v) waits
replies-say policy identifier (connection_response destination source answer status) v waits = replies _ identifier None v (λ can. tt)
replies-say policy identifier (configuration_request destination flags options) v waits =
    asked_replies _ v.memory.configuration kinds.Configuration identifier _ (follows policy (configuration_request destination flags options)) v (answer-reply policy (configuration_request destination flags options) v) waits
replies-say policy identifier (configuration_response source flags answer options) v waits = replies _ identifier None v (λ can. tt)
replies-say policy identifier (disconnection_request destination source) v waits =
    asked_replies _ v.memory.disconnection kinds.Disconnection identifier _ (follows policy (disconnection_request destination source)) v (answer-reply policy (disconnection_request destination source) v) waits
replies-say policy identifier (disconnection_response destination source) v waits = replies _ identifier None v (λ can. tt)
replies-say policy identifier (echo_request octets) v waits = asked_replies _ v.memory.echo kinds.Echo identifier _ (follows policy (echo_request octets)) v (answer-reply policy (echo_request octets) v) waits
replies-say policy identifier (echo_response octets) v waits = replies _ identifier None v (λ can. tt)
replies-say policy identifier (information_request kind) v waits = asked_replies _ v.memory.information kinds.Information identifier _ (follows policy (information_request kind)) v (answer-reply policy (information_request kind) v) waits
replies-say policy identifier (information_response kind answer rest) v waits = replies _ identifier None v (λ can. tt)

-- ---- the timer

unsaid_again : (errand : Errand) (v w : Channels) → AllKept w → AsksForNoEnd (said_again errand v w)
unsaid_again errand v w all = by (eqb w.identifier v.identifier && (is_due errand w && not (is_due errand v)))
  where
    by : (now : Bool) → AsksForNoEnd (cond now (said_of (Some errand) w) [])
    by true = unsaid_of (Some errand) w all
    by false = nothing-said

gave_up : (held : Held) (stage : Stage) → AsksForNoEnd (forgone_at stage held.own)
gave_up held (Requested request) = none-more _ [] (λ command is. cc) nothing-said
gave_up held (Connected peer setup) = nothing-said
gave_up held (Leaving peer setup request) = none-more _ [] (λ command is. cc) nothing-said
gave_up held (Closing peer request checked) = none-more _ [] (λ command is. cc) nothing-said
gave_up held (Crossed peer request) = none-more _ [] (λ command is. cc) nothing-said

pub given-up : (own : ℕ) (v w : Channels) → AsksForNoEnd (given_up own v w)
given-up own v w = by (held_at own v) (held_at own w)
  where
    by : (before after : Option Held) → AsksForNoEnd (forgone_between before after)
    by None after = nothing-said
    by (Some held) None = gave_up held held.stage
    by (Some held) (Some other) = nothing-said

firing_unsaid : (own : ℕ) (v w : Channels) → AllKept w → AsksForNoEnd (said_on_firing own v w)
firing_unsaid own v w all =
    none-both (said_again (errands.Connection own) v w) _ (unsaid_again (errands.Connection own) v w all)
    (none-both (said_again (errands.Configuration own) v w) _ (unsaid_again (errands.Configuration own) v w all)
    (none-both (said_again (errands.Disconnection own) v w) _ (unsaid_again (errands.Disconnection own) v w all)
    (none-both (asked_between v w) (given_up own v w) (unsaid-between v w all) (given-up own v w))))

features_forgone : (before after : Option Request) → AsksForNoEnd (features_given_up before after)
features_forgone None after = nothing-said
features_forgone (Some request) None = none-more _ [] (λ command is. cc) nothing-said
features_forgone (Some request) (Some other) = nothing-said

pub channels-unsaid : (tries : ℕ) (owns : List ℕ) (v : Channels) → AllLast tries v → AsksForNoEnd (said_by_channels tries owns v)
channels-unsaid tries [] v all =
    let w : Channels = times_features v.features tries v in
    none-both (said_again errands.Features v w) (features_given_up v.features w.features) (unsaid_again errands.Features v w (all-kept tries w.held (features-timed tries v all))) (features_forgone v.features w.features)
channels-unsaid tries (own ∷ owns) v all =
    let u : Channels = times_held (held_at own v) tries v in
    let w : Channels = times_end (held_at own u) tries u in
    let between = held-timed tries own v all in
    let after = end-timed tries own u between in
    none-both (said_on_firing own v u ++ said_on_firing own u w) (said_by_channels tries owns w)
    (none-both (said_on_firing own v u) (said_on_firing own u w) (firing_unsaid own v u (all-kept tries u.held between)) (firing_unsaid own u w (all-kept tries w.held after)))
    (channels-unsaid tries owns w after)
