-- A host that offers no service: no endpoint is given to a new channel but to one that it asks for.
use Rattle.std.proofs.Common.{◌≡◌, ℕ, ◌+◌, ◌<◌, ◌≤◌, List, [], ◌∷◌, ◌++◌, map, Bool, true, false, cond, eqb, not, Option, Some, None, Ok, Err, refl, sym, ap, ◌∙◌, arith}
use Rattle.std.specs.Prelude.{drop, find, nat_lt}
use Rattle.std.proofs.lemmas.Bool.{eqb-true, ltb-false, ltb-true}
use Rattle.std.proofs.lemmas.List.Sums.{fold-append}
use Rattle.shelf_model.specs.acl_fragments.specs.Pieces.{channel_of}
use Rattle.shelf_model.specs.l2cap_signal.specs.Commands.{Content, reject, connection_request, connection_response, configuration_request, configuration_response, disconnection_request, disconnection_response, echo_request, echo_response, information_request, information_response}
use Rattle.shelf_model.specs.l2cap_signal.specs.Reading.{Answer, answers}
use Rattle.shelf_model.specs.l2cap_signal.specs.declared.refusal.SignalRefusal.{SignalRefusal}
use Rattle.shelf_model.specs.l2cap_signal.specs.declared.refusal.SignalRefusal.TheVariants.{ZeroIdentifier, BadLength, UnknownCode, AboveMtu}
use Rattle.channel_laws.specs.channel_model.specs.declared.event.ChannelEvent.{ChannelEvent}
use Rattle.channel_laws.specs.channel_model.specs.declared.request_kind.RequestKind.{RequestKind}
use Rattle.channel_laws.specs.channel_model.specs.declared.request_kind.RequestKind.TheVariants.{Connection, Configuration, Disconnection, Echo, Information}
use Rattle.channel_laws.specs.channel_model.specs.Value.{Stage, Held, Remembered, Channels}
use Rattle.channel_laws.specs.channel_model.specs.Policies.{Policy}
use Rattle.channel_laws.specs.channel_model.specs.Changing.{has_own, held_at}
use Rattle.channel_laws.specs.channel_model.specs.Answers.{remembered, not_understood, kind_of_code, too_long, answer_to}
use Rattle.channel_laws.specs.channel_model.specs.Following.{says, remembers, can_say, hears_new, hears_again, hears_kind, hears_question, follows_connection, follows}
use Rattle.channel_laws.specs.channel_model.specs.Hearing.{hears_content, hears_malformed, is_response_code, is_kind, hears_unread, hears_refused, hears_command, hears_commands}
use Rattle.channel_laws.specs.channel_model.specs.Carrying.{takes}
use Rattle.channel_laws.specs.channel_model.specs.Timing.{times_held, times_end, times_channels}
use Rattle.channel_laws.specs.channel_model.proofs.Lookups.{own_of, Distinct}
use Rattle.channel_laws.specs.channel_model.proofs.Going.{Moves, new_held, Walks}
use Rattle.channel_laws.specs.channel_model.proofs.Walking.{commands-go}
use Rattle.channel_laws.specs.channel_model.proofs.Calling.{connected-goes, asks-features-goes, disconnected-goes, sends-goes, takes-goes, timed-goes, given-goes}
use Rattle.channel_laws.specs.Runs.{Occurrence, Comes, Connects, AsksFeatures, Disconnects, Sends, Gives, Fires, Tells, new_link, run_on, run_of, value_after}
use Rattle.channel_laws.specs.Singly.{NoneIsDue, AsksForNoChannel}
use Rattle.channel_laws.proofs.Due.{IsDue, KeepsDue, same-due, apart, all-due, Any}
use Rattle.channel_laws.proofs.Due as dues
use Rattle.channel_laws.proofs.Inviting.{held_others}
use Rattle.channel_laws.proofs.Placing.{follows-next, responds-next, takes-next, times-next, timed-end-next, features-next, single-next}
use Rattle.channel_laws.proofs.Running.{IsSound, run-more, all-sound}

-- ---- the endpoint that is given next

abbrev pub OffersNone : Policy → Type 0
OffersNone policy = (psm : ℕ) → policy.offers psm ≡ false

either : (b : Bool) (v x y : Channels) → x.next ≡ v.next → y.next ≡ v.next → (cond b x y).next ≡ v.next
either true v x y one other = one
either false v x y one other = other

says_next : (identifier : ℕ) (response : Option Content) (v : Channels) → (says identifier response v).next ≡ v.next
says_next identifier None v = refl
says_next identifier (Some response) v = refl

again_next : (identifier : ℕ) (response : Option Content) (v : Channels) → (hears_again identifier response v).next ≡ v.next
again_next identifier response v = either (can_say response v) v (says identifier response v) v (says_next identifier response v) refl

abbrev Stays : (Channels → Channels) → Type 0
Stays more = (u : Channels) → (more u).next ≡ u.next

new_next : (kind : RequestKind) (identifier : ℕ) (response : Option Content) (more : Channels → Channels) (v : Channels) → Stays more → (hears_new kind identifier response more v).next ≡ v.next
new_next kind identifier response more v stays =
    let u = remembers kind identifier response v in
    either (can_say response v) v (more (says identifier response u)) v (stays (says identifier response u) ∙ says_next identifier response u) refl

kind_next : (last : Option Remembered) (kind : RequestKind) (identifier : ℕ) (response : Option Content) (more : Channels → Channels) (v : Channels) → Stays more → (hears_kind last kind identifier response more v).next ≡ v.next
kind_next None kind identifier response more v stays = new_next kind identifier response more v stays
kind_next (Some last) kind identifier response more v stays =
    either (eqb last.identifier identifier) v (hears_again identifier last.response v) (hears_new kind identifier response more v) (again_next identifier last.response v) (new_next kind identifier response more v stays)

malformed_next : (kind : Option RequestKind) (identifier : ℕ) (v : Channels) → (hears_malformed kind identifier v).next ≡ v.next
malformed_next None identifier v = refl
malformed_next (Some kind) identifier v = kind_next (remembered kind v.memory) kind identifier (Some not_understood) (λ w. w) v (λ u. refl)

unread_next : (code identifier : ℕ) (v : Channels) → (hears_unread code identifier v).next ≡ v.next
unread_next code identifier v =
    let malformed = hears_malformed (kind_of_code code) identifier v in
    let again = hears_again identifier (Some not_understood) v in
    let known = cond (is_kind (kind_of_code code)) malformed again in
    either (eqb identifier 0) v v (cond (is_response_code code) v known) refl
    (either (is_response_code code) v v known refl (either (is_kind (kind_of_code code)) v malformed again (malformed_next (kind_of_code code) identifier v) (again_next identifier (Some not_understood) v)))

refused_next : (refusal : SignalRefusal) (v : Channels) → (hears_refused refusal v).next ≡ v.next
refused_next (ZeroIdentifier code identifier) v = refl
refused_next (BadLength code None) v = refl
refused_next (BadLength code (Some identifier)) v = unread_next code identifier v
refused_next (UnknownCode code None) v = refl
refused_next (UnknownCode code (Some identifier)) v = unread_next code identifier v
refused_next (AboveMtu code None) v = refl
refused_next (AboveMtu code (Some identifier)) v = either (eqb identifier 0) v v (hears_again identifier (Some too_long) v) refl (again_next identifier (Some too_long) v)

-- a channel that is asked for of such a host is refused
called_next : (policy : Policy) → OffersNone policy → (psm source : ℕ) → Stays (follows policy (connection_request psm source))
called_next policy none psm source u = by (policy.offers psm) _ (none psm)
  where
    by : (offers : Bool) (other : ℕ) → offers ≡ false → (follows_connection (cond (not offers) 2 other) psm source u).next ≡ u.next
    by true other is = cc
    by false other is = refl

asked_next : (policy : Policy) (kind : RequestKind) (identifier : ℕ) (content : Content) (v : Channels) → Stays (follows policy content) → (hears_question policy kind identifier content v).next ≡ v.next
asked_next policy kind identifier content v stays = kind_next (remembered kind v.memory) kind identifier (answer_to policy content v) (follows policy content) v stays

content_next : (policy : Policy) → OffersNone policy → (identifier : ℕ) (content : Content) (v : Channels) → (hears_content policy identifier content v).next ≡ v.next
content_next policy none identifier (reject reason rest) v = responds-next policy identifier (reject reason rest) v refl
content_next policy none identifier (connection_request psm source) v = asked_next policy Connection identifier (connection_request psm source) v (called_next policy none psm source)
content_next policy none identifier (connection_response destination source answer status) v = responds-next policy identifier (connection_response destination source answer status) v refl
content_next policy none identifier (configuration_request destination flags options) v =
    asked_next policy Configuration identifier (configuration_request destination flags options) v (λ u. follows-next policy (configuration_request destination flags options) u refl)
content_next policy none identifier (configuration_response source flags answer options) v = responds-next policy identifier (configuration_response source flags answer options) v refl
content_next policy none identifier (disconnection_request destination source) v =
    asked_next policy Disconnection identifier (disconnection_request destination source) v (λ u. follows-next policy (disconnection_request destination source) u refl)
content_next policy none identifier (disconnection_response destination source) v = responds-next policy identifier (disconnection_response destination source) v refl
content_next policy none identifier (echo_request octets) v = asked_next policy Echo identifier (echo_request octets) v (λ u. refl)
content_next policy none identifier (echo_response octets) v = responds-next policy identifier (echo_response octets) v refl
content_next policy none identifier (information_request kind) v = asked_next policy Information identifier (information_request kind) v (λ u. refl)
content_next policy none identifier (information_response kind answer rest) v = responds-next policy identifier (information_response kind answer rest) v refl

command_next : (policy : Policy) → OffersNone policy → (one : Answer) (v : Channels) → (hears_command policy one v).next ≡ v.next
command_next policy none (Ok command) v = content_next policy none command.identifier command.content v
command_next policy none (Err refusal) v = refused_next refusal v

commands_next : (policy : Policy) → OffersNone policy → (given : List Answer) (v : Channels) → (hears_commands policy given v).next ≡ v.next
commands_next policy none [] v = refl
commands_next policy none (one ∷ given) v = commands_next policy none given (hears_command policy one v) ∙ command_next policy none one v

channels_next : (tries : ℕ) (owns : List ℕ) (v : Channels) → (times_channels tries owns v).next ≡ v.next
channels_next tries [] v = refl
channels_next tries (own ∷ owns) v =
    let u = times_held (held_at own v) tries v in
    channels_next tries owns (times_end (held_at own u) tries u) ∙ (timed-end-next (held_at own u) tries u ∙ times-next (held_at own v) tries v)

-- whatever happens, unless the host asks for a channel
same_next : (policy : Policy) → OffersNone policy → (more : Occurrence) (v : Channels) → AsksForNoChannel more → (value_after policy more v).next ≡ v.next
same_next policy none (Comes pdu) v quiet =
    either (eqb (channel_of pdu) 0x0001) v (hears_commands policy (answers (drop 4 pdu)) v) (takes (channel_of pdu) pdu v) (commands_next policy none (answers (drop 4 pdu)) v) (takes-next (channel_of pdu) pdu v)
same_next policy none (Connects psm) v quiet = absurd quiet
same_next policy none AsksFeatures v quiet = single-next policy AsksFeatures v refl tt
same_next policy none (Disconnects own) v quiet = single-next policy (Disconnects own) v refl tt
same_next policy none (Sends own sdu) v quiet = single-next policy (Sends own sdu) v refl tt
same_next policy none (Gives pdu) v quiet = single-next policy (Gives pdu) v refl tt
same_next policy none Fires v quiet =
    let u = times_channels policy.tries (map (λ held. held.own) v.held) v in features-next u.features policy.tries u ∙ channels_next policy.tries (map (λ held. held.own) v.held) v
same_next policy none Tells v quiet = refl

-- ---- endpoints that hold no channel

-- of the endpoints that were given, one that holds none holds none later
record KeepsFree (v w : Channels) : Type 0 where
  next_is : v.next ≤ w.next
  free : (own : ℕ) → own < v.next → held_at own v ≡ None → held_at own w ≡ None

same_free : (v w : Channels) → w.held ≡ v.held → w.next ≡ v.next → KeepsFree v w
same_free v w held_is next_is = record { next_is = omega (arith, next_is); free = λ own under none. ap (find (has_own own)) held_is ∙ none }

made_free : (v w : Channels) (psm : ℕ) (stage : Stage) → w.held ≡ v.held ++ new_held psm v.next stage ∷ [] → w.next ≡ v.next + 1 → KeepsFree v w
made_free v w psm stage held_is next_is = record {
  next_is = omega (arith, next_is);
  free = λ own under none. ap (find (has_own own)) held_is ∙ (held_others v.held (new_held psm v.next stage) own (apart own v.next under) ∙ none);
}

moves_free : (policy : Policy) (v w : Channels) (held : Held) (stage : Option Stage) (more : List ChannelEvent) → Moves policy Any v w held stage more → KeepsFree v w
moves_free policy v w held stage more moves = record { next_is = omega (arith, moves.next_is); free = λ own under none. by own none (eqb held.own own) refl }
  where
    by : (own : ℕ) → held_at own v ≡ None → (same : Bool) → eqb held.own own ≡ same → held_at own w ≡ None
    by own none true is = let never : None ≡ Some held = sym none ∙ (ap (λ n. held_at n v) (sym (eqb-true held.own own is)) ∙ moves.found) in absurd cc
    by own none false is = moves.others own is ∙ none

walks_free : (policy : Policy) → Walks policy Any KeepsFree
walks_free policy = record {
  same = λ carrier. tt;
  still = λ v w held_is next_is events_are. same_free v w held_is next_is;
  tells = λ v w event held_is next_is events_are other. same_free v w held_is next_is;
  both = λ v u w first second. record {
    next_is = let one = first.next_is in let two = second.next_is in omega (arith, one, two);
    free = λ own under none. second.free own (let one = first.next_is in omega (arith, under, one)) (first.free own under none);
  };
  made = λ v w psm stage first held_is next_is events_are. made_free v w psm stage held_is next_is;
  moves = λ v w held after more moves. moves_free policy v w held after more moves;
}

-- ---- whatever happens

-- what each of its steps keeps, all that happens keeps
goes : (policy : Policy) (R : Channels → Channels → Type 0) → Walks policy Any R → ((v w : Channels) → w.held ≡ v.held → w.next ≡ v.next → R v w) → (more : Occurrence) (v : Channels) → Distinct own_of v.held → R v (value_after policy more v)
goes policy R walks same (Comes pdu) v lone = by (eqb (channel_of pdu) 0x0001)
  where
    by : (signals : Bool) → R v (cond signals (hears_commands policy (answers (drop 4 pdu)) v) (takes (channel_of pdu) pdu v))
    by true = commands-go policy Any R walks (answers (drop 4 pdu)) v
    by false = takes-goes policy Any R walks (channel_of pdu) pdu v (λ machine open'. tt)
goes policy R walks same (Connects psm) v lone = connected-goes policy Any R walks psm v
goes policy R walks same AsksFeatures v lone = asks-features-goes policy Any R walks v
goes policy R walks same (Disconnects own) v lone = disconnected-goes policy Any R walks own v
goes policy R walks same (Sends own sdu) v lone = sends-goes policy Any R walks own sdu v (λ machine. tt)
goes policy R walks same (Gives pdu) v lone = given-goes policy Any R walks v (λ carrier. tt) lone
goes policy R walks same Fires v lone = timed-goes policy Any R walks v (λ machine open'. tt)
goes policy R walks same Tells v lone = same v (value_after policy Tells v) refl refl

-- ---- in a run

abbrev pub value_of : Policy → List Occurrence → Channels
value_of policy front = (run_of policy front).value

pub value-more : (policy : Policy) (front : List Occurrence) (more : Occurrence) → value_of policy (front ++ more ∷ []) ≡ value_after policy more (value_of policy front)
value-more policy front more = ap (λ run. run.value) (fold-append (run_on policy) new_link front (more ∷ []))

module _ (policy : Policy) (none : OffersNone policy) (front : List Occurrence) (more : Occurrence) (quiet : AsksForNoChannel more) where
  sound : IsSound policy (run_of policy front)
  sound = all-sound policy front

  after : IsSound policy (run_on policy (run_of policy front) more)
  after = run-more policy (run_of policy front) more sound

  -- an endpoint that holds no channel holds none later
  pub stays-free : (own : ℕ) → held_at own (value_of policy front) ≡ None → held_at own (value_of policy (front ++ more ∷ [])) ≡ None
  stays-free own free = ap (held_at own) (value-more policy front more) ∙ by (nat_lt own (value_of policy front).next) refl
    where
      by : (b : Bool) → nat_lt own (value_of policy front).next ≡ b → held_at own (value_after policy more (value_of policy front)) ≡ None
      by true less = (goes policy KeepsFree (walks_free policy) same_free more (value_of policy front) sound.core.lone).free own (ltb-true own (value_of policy front).next less) free
      by false less = after.core.held_below own (let next_is = same_next policy none more (value_of policy front) quiet in let least = ltb-false own (value_of policy front).next less in omega (arith, next_is, least))

  -- and where no channel is only asked for, none is later
  pub stays-none : NoneIsDue (value_of policy front) → NoneIsDue (value_of policy (front ++ more ∷ []))
  stays-none lone own held request found is =
      let v = value_of policy front in
      let keeps = goes policy KeepsDue (dues.walks policy) same-due more v sound.core.lone in
      let (was, asked, there, due) = all-due policy (run_on policy (run_of policy front) more).said v (value_after policy more v) after keeps (same_next policy none more v quiet) own (held, request, ap (held_at own) (sym (value-more policy front more)) ∙ found, is) in
      lone own was asked there due
