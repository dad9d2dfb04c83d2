-- A host that offers nothing and asks for one channel: where one is open, none is only asked for.
use Rattle.std.proofs.Common.{◌≡◌, ℕ, ◌≤◌, List, [], ◌∷◌, ◌++◌, Bool, true, false, cond, not, length, Option, Some, None, Ok, refl, sym, ap, subst, ◌∙◌, arith, append_assoc}
use Rattle.std.specs.Prelude.{nat_lt, nat_le, option_map, if◌then◌else◌}
use Rattle.std.proofs.lemmas.Bool.{ltb-false, ltb-true}
use Rattle.std.proofs.lemmas.List.Sums.{fold-append}
use Rattle.own_channel_laws.specs.channel_model.specs.Calls.{can_connect, connected, peer_mtu, carrier_mtu, open_carrier, setup_on}
use Rattle.own_channel_laws.specs.channel_model.specs.Changing.{setup_of, has_peer}
use Rattle.own_channel_laws.specs.channel_model.specs.Changing.{held_at}
use Rattle.own_channel_laws.specs.channel_model.specs.Following.{with_channel, follows_connection, follows}
use Rattle.channel_laws.specs.Singly.{AsksForNoChannel}
use Rattle.channel_laws.specs.Pending.{OffersNothing, NoneComesDue, OneOpens}
use Rattle.own_channel_laws.specs.Runs.{new_link, run_on, Run}
use Rattle.own_channel_laws.proofs.Running.{all-sound}
use Rattle.own_channel_laws.proofs.Due.{KeepsDue, Any, walks, AllWereDue, all-due}
use Rattle.own_channel_laws.proofs.Conversing.{conversed-on}
use Rattle.channel_laws.proofs.OneByOne.{asked-due, single-due}
use Rattle.std.specs.List.{AllByRecursion, list_any}
use Rattle.own_channel_laws.specs.talk_laws.specs.acl_fragments.specs.Pieces.{channel_of}
use Rattle.own_channel_laws.specs.talk_laws.specs.capture.specs.Histories.{EachAfter}
use Rattle.own_channel_laws.specs.talk_laws.specs.capture.specs.declared.flow.Flow.TheVariants.{Into}
use Rattle.own_channel_laws.specs.talk_laws.specs.l2cap_signal.specs.Commands.{Content, reject, connection_request, connection_response, configuration_request, configuration_response, disconnection_request, disconnection_response, echo_request, echo_response, information_request, information_response}
use Rattle.own_channel_laws.specs.talk_laws.specs.l2cap_signal.specs.Reading.{Answer as Read}
use Rattle.own_channel_laws.specs.talk_laws.specs.link_talk.specs.Sayings.{Saying, Carried}
use Rattle.own_channel_laws.specs.talk_laws.specs.link_talk.specs.Channels.{reading}
use Rattle.own_channel_laws.specs.channel_model.specs.declared.errand.Errand.TheVariants as errands
use Rattle.own_channel_laws.specs.channel_model.specs.Value.{Stage, Requested, Held, Channels}
use Rattle.own_channel_laws.specs.channel_model.specs.Policies.{Policy}
use Rattle.own_channel_laws.specs.channel_model.specs.Asking.{new_request, asks}
use Rattle.own_channel_laws.specs.channel_model.specs.Hearing.{hears_content}
use Rattle.own_channel_laws.specs.channel_model.specs.Carrying.{takes}
use Rattle.own_channel_laws.specs.channel_model.specs.Timing.{times_held, times_end, times_features}
use Rattle.own_channel_laws.specs.channel_model.proofs.Walking.{command-goes}
use Rattle.own_channel_laws.specs.channel_model.proofs.Calling.{takes-goes, timed-held, ended-held, features-timed}
use Rattle.own_channel_laws.specs.OwnTalk.{command_with, command_if, exchanged, asked_between}
use Rattle.own_channel_laws.specs.Runs.{Occurrence, Connects, said_on_firing, said_by_features, said_in, value_after, run_of}
use Rattle.own_channel_laws.proofs.Sound.{Sound}
use Rattle.own_channel_laws.proofs.Converses.{ConversesWhile}
use Rattle.channel_laws.proofs.Placing.{follows-next, responds-next, takes-next, times-next, timed-end-next, features-next, single-next}

-- ---- nothing is granted

follows_same : (policy : Policy) → OffersNothing policy → (content : Content) (v : Channels) → (follows policy content v).next ≡ v.next
follows_same policy nothing (reject reason rest) v = follows-next policy (reject reason rest) v refl
follows_same policy nothing (connection_request psm source) v =
    ap (λ (offers : Bool). (follows_connection (if not offers then 2 else if nat_le 4 (length v.held) then 4 else if nat_lt 0xFFFF v.next then 4 else if nat_lt source 0x0040 then 6 else if list_any (has_peer source) v.held then 7 else 0) psm source v).next) (nothing psm)
follows_same policy nothing (connection_response destination source answer status) v = follows-next policy (connection_response destination source answer status) v refl
follows_same policy nothing (configuration_request destination flags options) v = follows-next policy (configuration_request destination flags options) v refl
follows_same policy nothing (configuration_response source flags answer options) v = follows-next policy (configuration_response source flags answer options) v refl
follows_same policy nothing (disconnection_request destination source) v = follows-next policy (disconnection_request destination source) v refl
follows_same policy nothing (disconnection_response destination source) v = follows-next policy (disconnection_response destination source) v refl
follows_same policy nothing (echo_request octets) v = follows-next policy (echo_request octets) v refl
follows_same policy nothing (echo_response octets) v = follows-next policy (echo_response octets) v refl
follows_same policy nothing (information_request kind) v = follows-next policy (information_request kind) v refl
follows_same policy nothing (information_response kind answer rest) v = follows-next policy (information_response kind answer rest) v refl

-- ---- while none is asked for

-- the endpoint that is given next stays, and what is only asked for was so before
abbrev Stays : Channels → List Saying → Channels → Type 0
Stays first past v = (v.next ≡ first.next) × AllWereDue first v

on : (first v w : Channels) (past after : List Saying) → w.next ≡ v.next → AllWereDue v w → Stays first past v → Stays first after w
on first v w past after same due (next_is, before) = (same ∙ next_is, λ own now. before own (due own now))

stays : (policy : Policy) → OffersNothing policy → (first : Channels) → ConversesWhile policy (λ past one v. AsksForNoChannel one) (λ v. Unit {0}) (Stays first)
stays policy nothing first = record {
  first = tt;
  kept = λ v more lone known. tt;
  asked = λ past v u one identifier response content asking reply alike waits grants sound holds after.
      let w : Channels = follows policy content u in
      let all = past ++ (exchanged one (command_if identifier response) v ++ asked_between v w) in
      on first v w past all (follows_same policy nothing content u ∙ alike.next_is) (asked-due policy past v u content alike sound all after) holds;
  answered = λ past v identifier content is same sound holds after.
      let w : Channels = hears_content policy identifier content v in
      let one : Read = Ok (command_with identifier content) in
      let all = past ++ (exchanged one None v ++ asked_between v w) in
      let next_is = responds-next policy identifier content v is in
      on first v w past all next_is (all-due policy all v w after (command-goes policy Any KeepsDue (walks policy) one v) next_is) holds;
  taken = λ past v pdu known same sound holds after.
      let w : Channels = takes (channel_of pdu) pdu v in
      let all = past ++ (Carried Into pdu ∷ asked_between v w) in
      let next_is = takes-next (channel_of pdu) pdu v in
      on first v w past all next_is (all-due policy all v w after (takes-goes policy Any KeepsDue (walks policy) (channel_of pdu) pdu v (λ machine open'. tt)) next_is) holds;
  waits = λ past v tries own same sound holds after.
      let w : Channels = times_held (held_at own v) tries v in
      let all = past ++ said_on_firing own v w in
      let next_is = times-next (held_at own v) tries v in
      on first v w past all next_is (all-due policy all v w after (timed-held policy Any KeepsDue (walks policy) v tries own (held_at own v) (λ machine open'. tt) refl) next_is) holds;
  ends = λ past v tries own same sound holds after.
      let w : Channels = times_end (held_at own v) tries v in
      let all = past ++ said_on_firing own v w in
      let next_is = timed-end-next (held_at own v) tries v in
      on first v w past all next_is (all-due policy all v w after (ended-held policy Any KeepsDue (walks policy) v tries own (held_at own v) refl) next_is) holds;
  loses = λ past v tries same sound holds after.
      let w : Channels = times_features v.features tries v in
      let all = past ++ said_by_features tries v in
      let next_is = features-next v.features tries v in
      on first v w past all next_is (all-due policy all v w after (features-timed policy Any KeepsDue (walks policy) tries v.features v) next_is) holds;
  single = λ past v more is allowed known same sound holds after.
      let w : Channels = value_after policy more v in
      let all = past ++ said_in policy more v in
      let next_is = single-next policy more v is allowed in
      on first v w past all next_is (all-due policy all v w after (single-due policy v more is allowed sound.core.lone) next_is) holds;
}

each_quiet : (policy : Policy) (past list : List Occurrence) → AllByRecursion AsksForNoChannel list → EachAfter (λ front one. AsksForNoChannel one) past list
each_quiet policy past [] none = tt
each_quiet policy past (more ∷ list) (now, later) = (now, each_quiet policy (past ++ more ∷ []) list later)

stays_so : (policy : Policy) → OffersNothing policy → (list more : List Occurrence) → AllByRecursion AsksForNoChannel more → Stays (run_of policy list).value (run_of policy (list ++ more)).said (run_of policy (list ++ more)).value
stays_so policy nothing list more none =
    conversed-on policy (λ past one v. AsksForNoChannel one) (λ v. Unit {0}) (Stays (run_of policy list).value) (stays policy nothing (run_of policy list).value) list more tt (refl, λ own due. due) (each_quiet policy list more none)

pub none-comes_due : NoneComesDue
none-comes_due policy nothing list more none before own held request at is =
    let (earlier, asked, found, was) = (stays_so policy nothing list more none).1 own (held, request, at, is) in before own earlier asked found was

-- ---- one is asked for

-- of the endpoints from the first on, there is one alone
only_one : (policy : Policy) (list : List Occurrence) (own : ℕ) (held : Held) → (run_of policy list).value.next ≤ 0x0041 → held_at own (run_of policy list).value ≡ Some held → own ≡ 0x0040
only_one policy list own held few at = low (nat_lt own 0x0040) refl (nat_lt own v.next) refl
  where
    v : Channels
    v = (run_of policy list).value

    sound : Sound policy (reading (run_of policy list).said) v
    sound = all-sound policy list

    low : (b : Bool) → nat_lt own 0x0040 ≡ b → (c : Bool) → nat_lt own v.next ≡ c → own ≡ 0x0040
    low true less c is = let none : held_at own v ≡ None = sound.core.held_low own (ltb-true own 0x0040 less) in let never : None ≡ Some held = sym none ∙ at in absurd cc
    low false less true is = let least = ltb-false own 0x0040 less in let most = ltb-true own v.next is in omega (arith, few, least, most)
    low false less false is = let none : held_at own v ≡ None = sound.core.held_below own (ltb-false own v.next is) in let never : None ≡ Some held = sym none ∙ at in absurd cc

connected_next : (psm : ℕ) (v : Channels) → v.next ≡ 0x0040 → (connected psm v).next ≤ 0x0041
connected_next psm v is = by (can_connect v)
  where
    by : (can : Bool) → (cond can (let w : Channels = asks (errands.Connection v.next) (with_channel psm (Requested (new_request v)) v) in w) v).next ≤ 0x0041
    by true = omega (arith, is)
    by false = omega (arith, is)

pub one-opens : OneOpens
one-opens policy nothing psm front more none later own mtu open' other held request at is = let stop : None ≡ Some mtu = never in cc
  where
    asks_one : List Occurrence
    asks_one = front ++ Connects psm ∷ []

    v : Channels
    v = (run_of policy (front ++ Connects psm ∷ more)).value

    first : (run_of policy front).value.next ≡ 0x0040
    first = (stays_so policy nothing [] front none).0

    asked_is : (run_of policy asks_one).value ≡ connected psm (run_of policy front).value
    asked_is = ap (λ (run : Run). run.value) (fold-append (run_on policy) new_link front (Connects psm ∷ []))

    few : v.next ≤ 0x0041
    few =
        let stay : (run_of policy (asks_one ++ more)).value.next ≡ (run_of policy asks_one).value.next = (stays_so policy nothing asks_one more later).0 in
        let now : v.next ≡ (connected psm (run_of policy front).value).next = ap (λ (l : List Occurrence). (run_of policy l).value.next) (sym (append_assoc front (Connects psm ∷ []) more)) ∙ (stay ∙ ap (λ (w : Channels). w.next) asked_is) in
        subst (λ n. n ≤ 0x0041) (sym now) (connected_next psm (run_of policy front).value first)

    closed : (found : Option Held) → held_at own v ≡ found → (there : Held) × (held_at own v ≡ Some there)
    closed None none_at = let never : None ≡ Some mtu = sym (ap (λ (f : Option Held). option_map carrier_mtu (open_carrier (setup_on f))) none_at) ∙ open' in absurd cc
    closed (Some there) there_at = (there, there_at)

    never : None ≡ Some mtu
    never =
        let (there, there_at) = closed (held_at own v) refl in
        let same : own ≡ other = only_one policy (front ++ Connects psm ∷ more) own there few there_at ∙ sym (only_one policy (front ++ Connects psm ∷ more) other held few at) in
        sym (ap (λ n. peer_mtu n v) same ∙ (ap (λ (f : Option Held). option_map carrier_mtu (open_carrier (setup_on f))) at ∙ ap (λ (s : Stage). option_map carrier_mtu (open_carrier (setup_of s))) is)) ∙ open'
