-- A channel of a host that asked for no end has ended because the host answered the peer's request for it.
use Rattle.std.proofs.Common.{◌≡◌, ℕ, List, [], ◌∷◌, ◌++◌, fold, map, Bool, true, false, cond, eqb, not, ◌&&◌, Option, Some, None, Ok, Err, refl, sym, ap, subst, ◌∙◌, ◌⊎◌, inl, inr}
use Rattle.std.specs.Prelude.{nat_le, option_to_list}
use Rattle.std.specs.Option.{option_or}
use Rattle.std.specs.List.{list_any}
use Rattle.std.proofs.lemmas.Bool.{eqb-true}
use Rattle.channel_laws.specs.capture.specs.declared.flow.Flow.{Flow}
use Rattle.channel_laws.specs.capture.specs.declared.flow.Flow.TheVariants.{Into, Out}
use Rattle.channel_laws.specs.l2cap_signal.specs.Commands.{Content, reject, connection_request, connection_response, configuration_request, configuration_response, disconnection_request, disconnection_response, echo_request, echo_response, information_request, information_response}
use Rattle.channel_laws.specs.l2cap_signal.specs.declared.refusal.SignalRefusal.TheVariants.{ZeroIdentifier, BadLength, UnknownCode, AboveMtu}
use Rattle.channel_laws.specs.l2cap_config.specs.Reading.{options_read}
use Rattle.channel_laws.specs.link_talk.specs.declared.call.Wanted.{Wanted}
use Rattle.channel_laws.specs.link_talk.specs.declared.channel.Channel.{Channel}
use Rattle.channel_laws.specs.link_talk.specs.declared.life.Life.{Life}
use Rattle.channel_laws.specs.link_talk.specs.declared.life.Life.TheVariants as lives
use Rattle.channel_laws.specs.link_talk.specs.declared.word.Word.TheVariants as words
use Rattle.channel_laws.specs.link_talk.specs.Channels.{Entry, fresh, is_owner, life_after, word, entry_after, with_fresh, made_by, entries_after, Reading, reading}
use Rattle.channel_laws.specs.link_talk.specs.Meanings.{Meaning, Nothing, Settles, Parts, granted, made, answered, is_read, meant}
use Rattle.channel_laws.specs.link_talk.specs.Requests.{Terms, Requests, answered_call, answered_query, has_failed}
use Rattle.channel_laws.specs.link_talk.specs.Senses.{Asks, Quiet, Unread, sense}
use Rattle.channel_laws.specs.link_talk.specs.Sayings.{Saying, Carried, GaveUp, Connection, Disconnection, Information}
use Rattle.channel_laws.specs.link_talk.specs.Sayings as sayings
use Rattle.channel_laws.specs.talk_laws.proofs.Passes.{from_end}
use Rattle.channel_laws.specs.channel_model.proofs.Lookups.{find-map}
use Rattle.channel_laws.specs.OwnTalk.{spoken, command_with}
use Rattle.channel_laws.specs.Signals.{StandsIn}
use Rattle.channel_laws.specs.Views.{read_at}
use Rattle.channel_laws.proofs.Conversing.{reading-on}
use Rattle.channel_laws.proofs.Entries.{own_read, read-append}
use Rattle.channel_laws.proofs.Saying.{stands-left, stands-right}
use Rattle.channel_laws.proofs.Sound.{some-of_map}
use Rattle.disconnection_laws.specs.Ended.{HasAnsweredEnd}

-- ---- one saying

-- what it is for a channel that is alive: nothing, the answer to the peer's request for its end, or a request for its end
pub data Turns (s : Saying) (channel : Channel) (life : Life) : Type 0 where
  Stays : life ≡ lives.Alive → Turns s channel life
  IsAnswer : (identifier : ℕ) → s ≡ spoken (command_with identifier (disconnection_response channel.own channel.peer)) → Turns s channel life
  IsRequest : (identifier : ℕ) → s ≡ spoken (command_with identifier (disconnection_request channel.peer channel.own)) → Turns s channel life

abbrev pub alive_after : Channel → Meaning → Life
alive_after channel m = life_after lives.Alive (word channel m)

pub granted_stays : (channel : Channel) (own peer : ℕ) (wanted : Option Wanted) → alive_after channel (granted own peer wanted) ≡ lives.Alive
granted_stays channel own peer None = refl
granted_stays channel own peer (Some wanted) = refl

pub made_stays : (channel : Channel) (asked : Requests) (flow : Flow) (identifier destination source : ℕ) → alive_after channel (made asked flow identifier destination source) ≡ lives.Alive
made_stays channel asked Out identifier destination source = granted_stays channel destination source (answered_call asked Into identifier source)
made_stays channel asked Into identifier destination source = by (has_failed asked identifier source)
  where
    by : (b : Bool) → alive_after channel (cond b Nothing (granted source destination (answered_call asked Out identifier source))) ≡ lives.Alive
    by true = refl
    by false = granted_stays channel source destination (answered_call asked Out identifier source)

pub response_stays : (channel : Channel) (asked : Requests) (flow : Flow) (identifier destination source : ℕ) (b : Bool) → alive_after channel (cond b (made asked flow identifier destination source) Nothing) ≡ lives.Alive
response_stays channel asked flow identifier destination source true = made_stays channel asked flow identifier destination source
response_stays channel asked flow identifier destination source false = refl

pub answered_stays : (channel : Channel) (peer flags answer : ℕ) (terms : Option Terms) → alive_after channel (answered peer flags answer terms) ≡ lives.Alive
answered_stays channel peer flags answer None = refl
answered_stays channel peer flags answer (Some terms) = refl

pub settled_stays : (channel : Channel) (identifier own : ℕ) (b : Bool) → alive_after channel (cond b (Settles identifier own) Nothing) ≡ lives.Alive
settled_stays channel identifier own true = refl
settled_stays channel identifier own false = refl

pub unread_stays : (channel : Channel) (asked : Requests) (flow : Flow) (code identifier : ℕ) (zero : Bool) → alive_after channel (meant asked (cond zero Quiet (Asks flow identifier (Unread code)))) ≡ lives.Alive
unread_stays channel asked flow code identifier true = refl
unread_stays channel asked Out code identifier false = refl
unread_stays channel asked Into code identifier false = refl

-- the word names both endpoints of the channel, or it is nothing to it
pub named_ends : (s : Saying) (channel : Channel) (said : _) (own peer : ℕ) → ((one other : Bool) → eqb own channel.own ≡ one → eqb peer channel.peer ≡ other → Turns s channel (life_after lives.Alive (cond (one && other) (Some said) None))) → Turns s channel (alive_after channel (Parts said own peer))
named_ends s channel said own peer by = by (eqb own channel.own) (eqb peer channel.peer) refl refl

pub turns_by : (asked : Requests) (s : Saying) (channel : Channel) → Turns s channel (alive_after channel (meant asked (sense s)))
turns_by asked (sayings.Command flow (Ok command)) channel = by flow command.content refl
  where
    it : Flow → Content → Saying
    it f content = sayings.Command f (Ok (command_with command.identifier content))

    by : (f : Flow) (content : Content) → command.content ≡ content → Turns (sayings.Command f (Ok command)) channel (alive_after channel (meant asked (sense (it f content))))
    by Out (disconnection_request destination source) is = named_ends _ channel words.AsksEnd source destination at
      where
        at : (one other : Bool) → eqb source channel.own ≡ one → eqb destination channel.peer ≡ other → Turns (sayings.Command Out (Ok command)) channel (life_after lives.Alive (cond (one && other) (Some words.AsksEnd) None))
        at true true first second = IsRequest command.identifier (ap (it Out) (is ∙ (ap (λ n. disconnection_request n source) (eqb-true destination channel.peer second) ∙ ap (disconnection_request channel.peer) (eqb-true source channel.own first))))
        at true false first second = Stays refl
        at false other first second = Stays refl
    by Out (disconnection_response destination source) is = named_ends _ channel words.AnswersEnd destination source at
      where
        at : (one other : Bool) → eqb destination channel.own ≡ one → eqb source channel.peer ≡ other → Turns (sayings.Command Out (Ok command)) channel (life_after lives.Alive (cond (one && other) (Some words.AnswersEnd) None))
        at true true first second = IsAnswer command.identifier (ap (it Out) (is ∙ (ap (λ n. disconnection_response n source) (eqb-true destination channel.own first) ∙ ap (disconnection_response channel.own) (eqb-true source channel.peer second))))
        at true false first second = Stays refl
        at false other first second = Stays refl
    by Into (disconnection_response destination source) is = named_ends _ channel words.EndAnswered source destination at
      where
        at : (one other : Bool) → eqb source channel.own ≡ one → eqb destination channel.peer ≡ other → Turns (sayings.Command Into (Ok command)) channel (life_after lives.Alive (cond (one && other) (Some words.EndAnswered) None))
        at true true first second = Stays refl
        at true false first second = Stays refl
        at false other first second = Stays refl
    by Into (disconnection_request destination source) is = Stays refl
    by Out (reject reason rest) is = Stays refl
    by Into (reject reason rest) is = Stays refl
    by Out (connection_request psm source) is = Stays refl
    by Into (connection_request psm source) is = Stays refl
    by Out (connection_response destination source answer status) is = Stays (response_stays channel asked Out command.identifier destination source (eqb answer 0 && nat_le 0x0040 destination))
    by Into (connection_response destination source answer status) is = Stays (response_stays channel asked Into command.identifier destination source (eqb answer 0 && nat_le 0x0040 destination))
    by Out (configuration_request destination flags options) is = Stays refl
    by Into (configuration_request destination flags options) is = Stays refl
    by Out (configuration_response source flags answer options) is = Stays (answered_stays channel source flags answer (answered_query asked command.identifier))
    by Into (configuration_response source flags answer options) is = Stays (settled_stays channel command.identifier source (is_read (options_read options) && not (eqb answer 4)))
    by Out (echo_request octets) is = Stays refl
    by Into (echo_request octets) is = Stays refl
    by Out (echo_response octets) is = Stays refl
    by Into (echo_response octets) is = Stays refl
    by Out (information_request kind) is = Stays refl
    by Into (information_request kind) is = Stays refl
    by Out (information_response kind answer rest) is = Stays refl
    by Into (information_response kind answer rest) is = Stays refl
turns_by asked (sayings.Command flow (Err (ZeroIdentifier code identifier))) channel = Stays refl
turns_by asked (sayings.Command flow (Err (BadLength code None))) channel = Stays refl
turns_by asked (sayings.Command flow (Err (BadLength code (Some identifier)))) channel = Stays (unread_stays channel asked flow code identifier (eqb identifier 0))
turns_by asked (sayings.Command flow (Err (UnknownCode code identifier))) channel = Stays refl
turns_by asked (sayings.Command flow (Err (AboveMtu code identifier))) channel = Stays refl
turns_by asked (Carried flow pdu) channel = Stays refl
turns_by asked (GaveUp (Connection identifier own)) channel = Stays refl
turns_by asked (GaveUp (Disconnection own peer)) channel = named_ends _ channel words.EndForgone own peer at
  where
    at : (one other : Bool) → eqb own channel.own ≡ one → eqb peer channel.peer ≡ other → Turns (GaveUp (Disconnection own peer)) channel (life_after lives.Alive (cond (one && other) (Some words.EndForgone) None))
    at true true first second = Stays refl
    at true false first second = Stays refl
    at false other first second = Stays refl
turns_by asked (GaveUp (Information identifier)) channel = Stays refl

-- ---- what is read at an endpoint behind it

-- what was read there goes on, or a channel comes to be
pub after_by : (own : ℕ) (entries : List Entry) (m : Meaning) (after : Entry) → read_at own (entries_after entries m) ≡ Some after → ((entry : Entry) × (read_at own entries ≡ Some entry) × (entry_after m entry ≡ after)) ⊎ (after.life ≡ lives.Alive)
after_by own entries m after = by (made_by m) refl
  where
    mapped : List Entry
    mapped = map (entry_after m) entries

    still : read_at own mapped ≡ Some after → ((entry : Entry) × (read_at own entries ≡ Some entry) × (entry_after m entry ≡ after)) ⊎ (after.life ≡ lives.Alive)
    still is = inl (some-of_map (entry_after m) (read_at own entries) after (sym (find-map own_read (entry_after m) (λ e. refl) own entries) ∙ is))

    made_so : (new : Channel) (b : Bool) → cond b (Some (fresh new)) None ≡ Some after → after.life ≡ lives.Alive
    made_so new true is = let same : fresh new ≡ after = cc in ap (λ (e : Entry). e.life) (sym same)
    made_so new false is = cc

    either : (new : Channel) (found : Option Entry) → read_at own mapped ≡ found → option_or found (cond (eqb new.own own) (Some (fresh new)) None) ≡ Some after → ((entry : Entry) × (read_at own entries ≡ Some entry) × (entry_after m entry ≡ after)) ⊎ (after.life ≡ lives.Alive)
    either new None at is = inr (made_so new (eqb new.own own) is)
    either new (Some entry) at is = still (at ∙ is)

    owned : (new : Channel) (b : Bool) → read_at own (cond b mapped (mapped ++ fresh new ∷ [])) ≡ Some after → ((entry : Entry) × (read_at own entries ≡ Some entry) × (entry_after m entry ≡ after)) ⊎ (after.life ≡ lives.Alive)
    owned new true is = still is
    owned new false is = either new (read_at own mapped) refl (sym (read-append own mapped new) ∙ is)

    by : (new : Option Channel) → made_by m ≡ new → read_at own (entries_after entries m) ≡ Some after → ((entry : Entry) × (read_at own entries ≡ Some entry) × (entry_after m entry ≡ after)) ⊎ (after.life ≡ lives.Alive)
    by None none is = still (sym (ap (λ (n : Option Channel). read_at own (fold with_fresh mapped (option_to_list n))) none) ∙ is)
    by (Some new) some is = owned new (list_any (is_owner new) mapped) (sym (ap (λ (n : Option Channel). read_at own (fold with_fresh mapped (option_to_list n))) some) ∙ is)

-- ---- all that was said

-- it has no request for an end
abbrev pub AsksForNoEnd : List Saying → Type 0
AsksForNoEnd said = (identifier own peer : ℕ) → StandsIn (spoken (command_with identifier (disconnection_request peer own))) said → ⊥

abbrev pub IsAlive : List Saying → (own : ℕ) → Entry → Type 0
IsAlive said own entry = (entry.life ≡ lives.Alive) ⊎ ((identifier : ℕ) × HasAnsweredEnd identifier entry.channel.own entry.channel.peer said)

abbrev pub AllAlive : List Saying → Type 0
AllAlive said = AsksForNoEnd said → (own : ℕ) (entry : Entry) → read_at own (reading said).entries ≡ Some entry → IsAlive said own entry

pub all-alive : (said : List Saying) → AllAlive said
all-alive = from_end AllAlive (λ none own entry is. cc) step
  where
    step : (said : List Saying) (s : Saying) → AllAlive said → AllAlive (said ++ s ∷ [])
    step said s before none own after is = by (after_by own (reading said).entries m after (ap (λ (r : Reading). read_at own r.entries) (sym (reading-on said (s ∷ []))) ∙ is))
      where
        m : Meaning
        m = meant (reading said).requests (sense s)

        less : AsksForNoEnd said
        less identifier o p stands = none identifier o p (stands-left _ said (s ∷ []) stands)

        turned : (entry : Entry) → entry_after m entry ≡ after → entry.life ≡ lives.Alive → Turns s entry.channel (alive_after entry.channel m) → IsAlive (said ++ s ∷ []) own after
        turned entry goes alive (Stays same) = inl (sym (ap (λ (e : Entry). e.life) goes) ∙ (ap (λ (l : Life). life_after l (word entry.channel m)) alive ∙ same))
        turned entry goes alive (IsAnswer identifier same) =
            inr (identifier, subst (λ (c : Channel). HasAnsweredEnd identifier c.own c.peer (said ++ s ∷ [])) (ap (λ (e : Entry). e.channel) goes) (stands-right _ said (s ∷ []) (inl same)))
        turned entry goes alive (IsRequest identifier same) = absurd (none identifier entry.channel.own entry.channel.peer (stands-right _ said (s ∷ []) (inl same)))

        one : (entry : Entry) → entry_after m entry ≡ after → IsAlive said own entry → IsAlive (said ++ s ∷ []) own after
        one entry goes (inl alive) = turned entry goes alive (turns_by (reading said).requests s entry.channel)
        one entry goes (inr (identifier, answered)) =
            inr (identifier, subst (λ (c : Channel). HasAnsweredEnd identifier c.own c.peer (said ++ s ∷ [])) (ap (λ (e : Entry). e.channel) goes) (stands-left _ said (s ∷ []) answered))

        by : ((entry : Entry) × (read_at own (reading said).entries ≡ Some entry) × (entry_after m entry ≡ after)) ⊎ (after.life ≡ lives.Alive) → IsAlive (said ++ s ∷ []) own after
        by (inl (entry, found, goes)) = one entry goes (before less own entry found)
        by (inr alive) = inl alive
