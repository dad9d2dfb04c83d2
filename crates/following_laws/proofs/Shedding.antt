-- What is told to be closed with a PDU are channels that are held: a command makes a channel, or tells something.
use Rattle.std.proofs.Common.{◌≡◌, ◌≤◌, ◌<◌, ◌+◌, ℕ, Bool, true, false, cond, eqb, ◌&&◌, ◌||◌, List, [], ◌∷◌, ◌++◌, drop, find, length, Option, Some, None, Ok, Err, inl, inr, refl, sym, ap, subst, ◌∙◌, append_assoc, append-nil, arith}
use Rattle.std.specs.Prelude.{◌⊎◌, option_map}
use Rattle.std.specs.List.{AllByRecursion, list_any}
use Rattle.std.proofs.lemmas.Bool.{eqb-true, eq-eqb}
use Rattle.std.proofs.lemmas.List.Folds.{list_any-append}
use Rattle.host_laws.specs.channel_laws.specs.acl_fragments.specs.Pieces.{channel_of}
use Rattle.host_laws.specs.channel_laws.specs.l2cap_signal.specs.Commands.{Content, reject, connection_request, connection_response, configuration_request, configuration_response, disconnection_request, disconnection_response, echo_request, echo_response, information_request, information_response}
use Rattle.host_laws.specs.channel_laws.specs.l2cap_signal.specs.Reading.{Answer as Read, answers}
use Rattle.host_laws.specs.channel_laws.specs.l2cap_signal.specs.declared.refusal.SignalRefusal.{SignalRefusal}
use Rattle.host_laws.specs.channel_laws.specs.l2cap_signal.specs.declared.refusal.SignalRefusal.TheVariants.{ZeroIdentifier, BadLength, UnknownCode, AboveMtu}
use Rattle.host_laws.specs.channel_laws.specs.channel_model.specs.declared.errand.Errand.{Errand}
use Rattle.host_laws.specs.channel_laws.specs.channel_model.specs.declared.errand.Errand.TheVariants as errands
use Rattle.host_laws.specs.channel_laws.specs.channel_model.specs.declared.event.ChannelEvent.{ChannelEvent}
use Rattle.host_laws.specs.channel_laws.specs.channel_model.specs.declared.event.ChannelEvent.TheVariants.{Opened, Closed, Features, FeaturesLost, DisconnectLost}
use Rattle.host_laws.specs.channel_laws.specs.channel_model.specs.declared.request_kind.RequestKind.{RequestKind}
use Rattle.host_laws.specs.channel_laws.specs.channel_model.specs.declared.request_kind.RequestKind.TheVariants as kinds
use Rattle.host_laws.specs.channel_laws.specs.channel_model.specs.Answers.{connection_result, kind_of_code, not_understood, too_long, remembered, answer_to}
use Rattle.host_laws.specs.channel_laws.specs.channel_model.specs.Calls.{sends, sends_on, sends_held}
use Rattle.host_laws.specs.channel_laws.specs.channel_model.specs.Carrying.{takes}
use Rattle.host_laws.specs.channel_laws.specs.channel_model.specs.Changing.{held_at, has_own, setup_of}
use Rattle.host_laws.specs.channel_laws.specs.channel_model.specs.Following.{with_channel, follows, remembers, says, can_say, hears_new, hears_again, hears_kind, hears_question}
use Rattle.host_laws.specs.channel_laws.specs.channel_model.specs.Giving.{gives, connection_given, configuration_given, disconnection_given, stage_given, counted, carrier_spent, held_given, queue_given, after_given}
use Rattle.host_laws.specs.channel_laws.specs.channel_model.specs.Hearing.{hears_content, hears_malformed, is_response_code, is_kind, hears_unread, hears_refused, hears_command, hears_commands, hears}
use Rattle.host_laws.specs.channel_laws.specs.channel_model.specs.Policies.{Policy}
use Rattle.host_laws.specs.channel_laws.specs.channel_model.specs.Value.{Queued, Answer, Ask, Setup, no_setup, Stage, Connected, Held, Remembered, Channels}
use Rattle.host_laws.specs.channel_laws.specs.channel_model.proofs.Calling.{takes-goes}
use Rattle.host_laws.specs.channel_laws.specs.channel_model.proofs.Going.{staged, IsClosingOf, IsOther, new_held, Moves, Walks}
use Rattle.host_laws.specs.channel_laws.specs.channel_model.proofs.Walking.{commands-go}
use Rattle.host_laws.specs.channel_laws.proofs.Due.{Any}
use Rattle.host_laws.specs.channel_laws.proofs.Inviting.{held_others}
use Rattle.host_laws.specs.channel_laws.proofs.Placing.{is_call, follows-next, responds-next, takes-next}
use Rattle.host_laws.specs.push_laws.specs.push_model.specs.Server.{object_psm}
use Rattle.host_laws.specs.Seen.{IsOneCommand}

-- ---- a channel of objects is held, or told to be closed

abbrev pub OnObject : Option Held → Type 0
OnObject None = ⊥
OnObject (Some held) = held.psm ≡ object_psm

abbrev pub IsObjectHeld : ℕ → Channels → Type 0
IsObjectHeld own v = OnObject (held_at own v)

abbrev pub closes_object : ℕ → ChannelEvent → Bool
closes_object own (Opened other psm) = false
closes_object own (Closed other psm reason) = eqb other own && eqb psm object_psm
closes_object own (Features features) = false
closes_object own FeaturesLost = false
closes_object own (DisconnectLost other) = false

-- ---- what a step sheds

-- it has come to be with the step
abbrev pub IsNew : (v w : Channels) → ℕ → Type 0
IsNew v w own = (v.next ≤ own) × (own < w.next)

-- what is told to be closed was held, or is new
pub record Sheds (v w : Channels) : Type 0 where
  pub next_is : v.next ≤ w.next
  pub more : List ChannelEvent
  pub events_are : w.events ≡ v.events ++ more
  pub held : (own : ℕ) → IsObjectHeld own w → IsObjectHeld own v ⊎ IsNew v w own
  pub closes : (own : ℕ) → list_any (closes_object own) more ≡ true → IsObjectHeld own v ⊎ IsNew v w own

same_held : (v w : Channels) → w.held ≡ v.held → (own : ℕ) → IsObjectHeld own w → IsObjectHeld own v ⊎ IsNew v w own
same_held v w held_is own held = inl (subst OnObject (ap (find (has_own own)) held_is) held)

still_sheds : (v w : Channels) → w.held ≡ v.held → w.next ≡ v.next → w.events ≡ v.events → Sheds v w
still_sheds v w held_is next_is events_are = record { next_is = omega (arith, next_is); more = []; events_are = events_are ∙ sym (append-nil v.events); held = same_held v w held_is; closes = λ own is. cc }

other_none : (own : ℕ) (event : ChannelEvent) → IsOther event → closes_object own event ≡ false
other_none own (Opened other psm) none = refl
other_none own (Closed other psm reason) none = let never : true ≡ false = sym (ap (λ b. b && true) (eq-eqb other other refl)) ∙ none other in cc
other_none own (Features features) none = refl
other_none own FeaturesLost none = refl
other_none own (DisconnectLost other) none = refl

tells_sheds : (v w : Channels) (event : ChannelEvent) → w.held ≡ v.held → w.next ≡ v.next → w.events ≡ v.events ++ event ∷ [] → IsOther event → Sheds v w
tells_sheds v w event held_is next_is events_are none = record {
  next_is = omega (arith, next_is);
  more = event ∷ [];
  events_are = events_are;
  held = same_held v w held_is;
  closes = λ own is. let never : true ≡ false = sym is ∙ ap (λ b. b || false) (other_none own event none) in cc;
}

either_true : (a b : Bool) → (a || b) ≡ true → (a ≡ true) ⊎ (b ≡ true)
either_true true b is = inl refl
either_true false b is = inr is

both_sheds : (v u w : Channels) → Sheds v u → Sheds u w → Sheds v w
both_sheds v u w one two =
    let first = one.next_is in
    let second = two.next_is in
    record {
      next_is = omega (arith, first, second);
      more = one.more ++ two.more;
      events_are = two.events_are ∙ (ap (λ (l : List ChannelEvent). l ++ two.more) one.events_are ∙ append_assoc v.events one.more two.more);
      held = λ own held. back own (two.held own held);
      closes = λ own is. on own (either_true (list_any (closes_object own) one.more) (list_any (closes_object own) two.more) (sym (list_any-append (closes_object own) one.more two.more) ∙ is));
    }
  where
    long : (own : ℕ) → IsObjectHeld own v ⊎ IsNew v u own → IsObjectHeld own v ⊎ IsNew v w own
    long own (inl held) = inl held
    long own (inr (low, high)) = let second = two.next_is in inr (low, omega (arith, second, high))

    back : (own : ℕ) → IsObjectHeld own u ⊎ IsNew u w own → IsObjectHeld own v ⊎ IsNew v w own
    back own (inl held) = long own (one.held own held)
    back own (inr (low, high)) = let first = one.next_is in inr (omega (arith, first, low), high)

    on : (own : ℕ) → (list_any (closes_object own) one.more ≡ true) ⊎ (list_any (closes_object own) two.more ≡ true) → IsObjectHeld own v ⊎ IsNew v w own
    on own (inl is) = long own (one.closes own is)
    on own (inr is) = back own (two.closes own is)

made_sheds : (v w : Channels) (psm : ℕ) (stage : Stage) → w.held ≡ v.held ++ new_held psm v.next stage ∷ [] → w.next ≡ v.next + 1 → w.events ≡ v.events → Sheds v w
made_sheds v w psm stage held_is next_is events_are = record {
  next_is = omega (arith, next_is);
  more = [];
  events_are = events_are ∙ sym (append-nil v.events);
  held = λ own held. by own (eqb v.next own) refl held;
  closes = λ own is. cc;
}
  where
    by : (own : ℕ) (new : Bool) → eqb v.next own ≡ new → IsObjectHeld own w → IsObjectHeld own v ⊎ IsNew v w own
    by own true is held = let same = eqb-true v.next own is in inr (omega (arith, same), omega (arith, same, next_is))
    by own false is held = inl (subst OnObject (ap (find (has_own own)) held_is ∙ held_others v.held (new_held psm v.next stage) own is) held)

named_object : (own : ℕ) (held : Held) (more : List ChannelEvent) → AllByRecursion (IsClosingOf held) more → list_any (closes_object own) more ≡ true → (own ≡ held.own) × (held.psm ≡ object_psm)
named_object own held [] named is = cc
named_object own held (event ∷ more) named is = by event named.0 is (named_object own held more named.1)
  where
    both_true : (a b : Bool) → (a && b) ≡ true → (a ≡ true) × (b ≡ true)
    both_true true b is' = (refl, is')
    both_true false b is' = cc

    found : (other psm : ℕ) → (other ≡ held.own) × (psm ≡ held.psm) → (here : Bool) → (eqb other own && eqb psm object_psm) ≡ here → (here || list_any (closes_object own) more) ≡ true
        → (list_any (closes_object own) more ≡ true → (own ≡ held.own) × (held.psm ≡ object_psm)) → (own ≡ held.own) × (held.psm ≡ object_psm)
    found other psm of true at now later = let parts = both_true (eqb other own) (eqb psm object_psm) at in (sym (eqb-true other own parts.0) ∙ of.0, sym of.1 ∙ eqb-true psm object_psm parts.1)
    found other psm of false at now later = later now

    by : (one : ChannelEvent) → IsClosingOf held one → (closes_object own one || list_any (closes_object own) more) ≡ true → (list_any (closes_object own) more ≡ true → (own ≡ held.own) × (held.psm ≡ object_psm)) → (own ≡ held.own) × (held.psm ≡ object_psm)
    by (Opened other psm) of now later = later now
    by (Closed other psm reason) of now later = found other psm of (eqb other own && eqb psm object_psm) refl now later
    by (Features features) of now later = later now
    by FeaturesLost of now later = later now
    by (DisconnectLost other) of now later = later now

moves_sheds : (policy : Policy) (v w : Channels) (held : Held) (after : Option Stage) (more : List ChannelEvent) → Moves policy Any v w held after more → Sheds v w
moves_sheds policy v w held after more moves = record {
  next_is = let same = moves.next_is in omega (arith, same);
  more = more;
  events_are = moves.events_are;
  held = λ own there. inl (by own (eqb held.own own) refl there);
  closes = λ own is. inl (shut own (named_object own held more moves.told.named is));
}
  where
    here : (s : Option Stage) → OnObject (option_map (staged held) s) → held.psm ≡ object_psm
    here None none = absurd none
    here (Some now) is = is

    by : (own : ℕ) (same : Bool) → eqb held.own own ≡ same → IsObjectHeld own w → IsObjectHeld own v
    by own true is there =
        let own_is = eqb-true held.own own is in
        subst (λ n. IsObjectHeld n v) own_is (subst OnObject (sym moves.found) (here after (subst OnObject moves.becomes (subst (λ n. IsObjectHeld n w) (sym own_is) there))))
    by own false is there = subst OnObject (moves.others own is) there

    shut : (own : ℕ) → (own ≡ held.own) × (held.psm ≡ object_psm) → IsObjectHeld own v
    shut own (own_is, object) = subst (λ n. IsObjectHeld n v) (sym own_is) (subst OnObject (sym moves.found) object)

walks : (policy : Policy) → Walks policy Any Sheds
walks policy = record {
  same = λ carrier. tt;
  still = still_sheds;
  tells = tells_sheds;
  both = both_sheds;
  made = λ v w psm stage first held_is next_is events_are. made_sheds v w psm stage held_is next_is events_are;
  moves = λ v w held after more moves. moves_sheds policy v w held after more moves;
}

signals-shed : (policy : Policy) (given : List Read) (v : Channels) → Sheds v (hears_commands policy given v)
signals-shed policy given v = commands-go policy Any Sheds (walks policy) given v

takes-shed : (policy : Policy) (own : ℕ) (pdu : List ℕ) (v : Channels) → Sheds v (takes own pdu v)
takes-shed policy own pdu v = takes-goes policy Any Sheds (walks policy) own pdu v (λ machine open'. tt)

-- ---- one command makes a channel, or tells something

module _ (Q : List ChannelEvent → ℕ → Type 0) where
  abbrev Keeps : Channels → Type 0
  Keeps v = Q v.events v.next

  either : (b : Bool) (v w : Channels) → Keeps v → Keeps w → Keeps (cond b v w)
  either true v w one two = one
  either false v w one two = two

  says_so : (identifier : ℕ) (response : Option Content) (v : Channels) → Keeps v → Keeps (says identifier response v)
  says_so identifier None v so = so
  says_so identifier (Some content) v so = so

  again_so : (identifier : ℕ) (response : Option Content) (v : Channels) → Keeps v → Keeps (hears_again identifier response v)
  again_so identifier response v so = either (can_say response v) (says identifier response v) v (says_so identifier response v so) so

  new_so : (kind : RequestKind) (identifier : ℕ) (response : Option Content) (then : Channels → Channels) (v : Channels) → ((u : Channels) → Keeps u → Keeps (then u)) → Keeps v → Keeps (hears_new kind identifier response then v)
  new_so kind identifier response then v goes so =
      let u = says identifier response (remembers kind identifier response v) in
      either (can_say response v) (then u) v (goes u (says_so identifier response (remembers kind identifier response v) so)) so

  kind_so : (last : Option Remembered) (kind : RequestKind) (identifier : ℕ) (response : Option Content) (then : Channels → Channels) (v : Channels) → ((u : Channels) → Keeps u → Keeps (then u)) → Keeps v → Keeps (hears_kind last kind identifier response then v)
  kind_so None kind identifier response then v goes so = new_so kind identifier response then v goes so
  kind_so (Some last) kind identifier response then v goes so =
      either (eqb last.identifier identifier) (hears_again identifier last.response v) (hears_new kind identifier response then v) (again_so identifier last.response v so) (new_so kind identifier response then v goes so)

  malformed_so : (kind : Option RequestKind) (identifier : ℕ) (v : Channels) → Keeps v → Keeps (hears_malformed kind identifier v)
  malformed_so None identifier v so = so
  malformed_so (Some kind) identifier v so = kind_so (remembered kind v.memory) kind identifier (Some not_understood) (λ w. w) v (λ u now. now) so

  unread_so : (code identifier : ℕ) (v : Channels) → Keeps v → Keeps (hears_unread code identifier v)
  unread_so code identifier v so =
      either (eqb identifier 0) v _ so
      (either (is_response_code code) v _ so
      (either (is_kind (kind_of_code code)) (hears_malformed (kind_of_code code) identifier v) (hears_again identifier (Some not_understood) v) (malformed_so (kind_of_code code) identifier v so) (again_so identifier (Some not_understood) v so)))

  refused_so : (refusal : SignalRefusal) (v : Channels) → Keeps v → Keeps (hears_refused refusal v)
  refused_so (ZeroIdentifier code identifier) v so = so
  refused_so (BadLength code None) v so = so
  refused_so (BadLength code (Some identifier)) v so = unread_so code identifier v so
  refused_so (UnknownCode code None) v so = so
  refused_so (UnknownCode code (Some identifier)) v so = unread_so code identifier v so
  refused_so (AboveMtu code None) v so = so
  refused_so (AboveMtu code (Some identifier)) v so = either (eqb identifier 0) v (hears_again identifier (Some too_long) v) so (again_so identifier (Some too_long) v so)

-- no channel comes to be with it, or nothing is told
abbrev IsPure : (v w : Channels) → Type 0
IsPure v w = (w.next ≡ v.next) ⊎ (w.events ≡ v.events)

question_next : (policy : Policy) (kind : RequestKind) (identifier : ℕ) (content : Content) (v : Channels) → is_call content ≡ false → (hears_question policy kind identifier content v).next ≡ v.next
question_next policy kind identifier content v is =
    kind_so (λ told next. next ≡ v.next) (remembered kind v.memory) kind identifier (answer_to policy content v) (follows policy content) v (λ u now. follows-next policy content u is ∙ now) refl

content_pure : (policy : Policy) (identifier : ℕ) (content : Content) (v : Channels) → IsPure v (hears_content policy identifier content v)
content_pure policy identifier (connection_request psm source) v =
    inr (kind_so (λ told next. told ≡ v.events) (remembered kinds.Connection v.memory) kinds.Connection identifier (answer_to policy (connection_request psm source) v) (follows policy (connection_request psm source)) v
    (λ u now. either (λ told next. told ≡ v.events) (eqb (connection_result policy psm source u) 0) (with_channel psm (Connected source no_setup) u) u now now) refl)
content_pure policy identifier (configuration_request destination flags options) v = inl (question_next policy kinds.Configuration identifier (configuration_request destination flags options) v refl)
content_pure policy identifier (disconnection_request destination source) v = inl (question_next policy kinds.Disconnection identifier (disconnection_request destination source) v refl)
content_pure policy identifier (echo_request octets) v = inl (question_next policy kinds.Echo identifier (echo_request octets) v refl)
content_pure policy identifier (information_request kind) v = inl (question_next policy kinds.Information identifier (information_request kind) v refl)
content_pure policy identifier (reject reason rest) v = inl (responds-next policy identifier (reject reason rest) v refl)
content_pure policy identifier (connection_response destination source answer status) v = inl (responds-next policy identifier (connection_response destination source answer status) v refl)
content_pure policy identifier (configuration_response source flags answer options) v = inl (responds-next policy identifier (configuration_response source flags answer options) v refl)
content_pure policy identifier (disconnection_response destination source) v = inl (responds-next policy identifier (disconnection_response destination source) v refl)
content_pure policy identifier (echo_response octets) v = inl (responds-next policy identifier (echo_response octets) v refl)
content_pure policy identifier (information_response kind answer rest) v = inl (responds-next policy identifier (information_response kind answer rest) v refl)

command_pure : (policy : Policy) (one : Read) (v : Channels) → IsPure v (hears_command policy one v)
command_pure policy (Ok command) v = content_pure policy command.identifier command.content v
command_pure policy (Err refusal) v = inl (refused_so (λ told next. next ≡ v.next) refusal v refl)

commands_pure : (policy : Policy) (given : List Read) (v : Channels) → length given ≤ 1 → IsPure v (hears_commands policy given v)
commands_pure policy [] v few = inl refl
commands_pure policy (one ∷ []) v few = command_pure policy one v
commands_pure policy (one ∷ other ∷ given) v few = absurd (omega (arith, few))

-- ---- so what is told with a PDU is of a channel that is held

none_beyond : (v w : Channels) (own : ℕ) → w.next ≡ v.next → IsObjectHeld own v ⊎ IsNew v w own → IsObjectHeld own v
none_beyond v w own same (inl held) = held
none_beyond v w own same (inr (low, high)) = absurd (omega (arith, same, low, high))

shed_held : (v w : Channels) → v.events ≡ [] → Sheds v w → IsPure v w → (own : ℕ) → list_any (closes_object own) w.events ≡ true → IsObjectHeld own v
shed_held v w none sheds pure own is = by pure
  where
    by : IsPure v w → IsObjectHeld own v
    by (inl same) = none_beyond v w own same (sheds.closes own (sym (ap (list_any (closes_object own)) (sheds.events_are ∙ ap (λ (l : List ChannelEvent). l ++ sheds.more) none)) ∙ is))
    by (inr same) = let never : false ≡ true = sym (ap (list_any (closes_object own)) (same ∙ none)) ∙ is in cc

pub comes-held : (policy : Policy) (pdu : List ℕ) (v : Channels) → IsOneCommand pdu → v.events ≡ [] → (own : ℕ) → list_any (closes_object own) (hears policy (channel_of pdu) pdu v).events ≡ true → IsObjectHeld own v
comes-held policy pdu v single none own is = by (eqb (channel_of pdu) 0x0001) refl is
  where
    by : (signals : Bool) → eqb (channel_of pdu) 0x0001 ≡ signals → list_any (closes_object own) (cond signals (hears_commands policy (answers (drop 4 pdu)) v) (takes (channel_of pdu) pdu v)).events ≡ true → IsObjectHeld own v
    by true at now =
        shed_held v (hears_commands policy (answers (drop 4 pdu)) v) none (signals-shed policy (answers (drop 4 pdu)) v) (commands_pure policy (answers (drop 4 pdu)) v (single (eqb-true (channel_of pdu) 0x0001 at)).1) own now
    by false at now = shed_held v (takes (channel_of pdu) pdu v) none (takes-shed policy (channel_of pdu) pdu v) (inl (takes-next (channel_of pdu) pdu v)) own now

-- ---- a PDU that is given, or an SDU that is sent, tells nothing

pub gives-tell_none : (v : Channels) → (after_given v).events ≡ v.events
gives-tell_none v = by v.queue
  where
    staged_none : (f : Stage → Stage) (found : Option Held) (u : Channels) → (stage_given f found u).events ≡ u.events
    staged_none f None u = refl
    staged_none f (Some held) u = refl

    counted_none : (errand : Errand) (u : Channels) → (counted errand u).events ≡ u.events
    counted_none (errands.Connection own) u = staged_none connection_given (held_at own u) u
    counted_none (errands.Configuration own) u = staged_none configuration_given (held_at own u) u
    counted_none (errands.Disconnection own) u = staged_none disconnection_given (held_at own u) u
    counted_none errands.Features u = refl

    spent : (setup : Option Setup) (held : Held) → (carrier_spent setup held v).events ≡ v.events
    spent None held = refl
    spent (Some setup) held = refl

    first : (found : Option Held) → (held_given found v).events ≡ v.events
    first None = refl
    first (Some held) = spent (setup_of held.stage) held

    by : (queue : List Queued) → (queue_given queue v).events ≡ v.events
    by [] = first (find gives v.held)
    by (Answer command ∷ behind) = refl
    by (Ask errand ∷ behind) = counted_none errand (record v { queue = behind })

pub sends-tell_none : (own : ℕ) (sdu : List ℕ) (v : Channels) → (sends own sdu v).events ≡ v.events
sends-tell_none own sdu v = by (held_at own v)
  where
    on : (setup : Option Setup) (held : Held) → (sends_on setup sdu held v).events ≡ v.events
    on None held = refl
    on (Some setup) held = refl

    by : (found : Option Held) → (sends_held found sdu v).events ≡ v.events
    by None = refl
    by (Some held) = on (setup_of held.stage) held
