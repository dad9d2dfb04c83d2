-- What a host said success to, and of what it says no success.
use Rattle.std.proofs.Common.{◌≡◌, ℕ, List, [], ◌∷◌, ◌++◌, Bool, true, false, cond, eqb, Option, Some, None, refl, sym, ap, subst, ◌∙◌, ◌⊎◌, inl, inr, append_assoc, append-nil}
use Rattle.std.specs.Prelude.{option_map, is_some, unwrap_or}
use Rattle.std.specs.Option.{option_or}
use Rattle.std.specs.List.{list_any}
use Rattle.own_channel_laws.specs.talk_laws.specs.capture.specs.declared.flow.Flow.TheVariants.{Out, Into}
use Rattle.own_channel_laws.specs.talk_laws.specs.l2cap_signal.specs.Commands.{Command, Content, reject, connection_request, connection_response, configuration_request, configuration_response, disconnection_request, disconnection_response, echo_request, echo_response, information_request, information_response}
use Rattle.own_channel_laws.specs.talk_laws.specs.l2cap_signal.specs.Reading.{Answer as Read}
use Rattle.own_channel_laws.specs.talk_laws.specs.l2cap_config.specs.declared.wish.Mode.{Mode}
use Rattle.own_channel_laws.specs.talk_laws.specs.l2cap_config.specs.declared.wish.Mode.TheVariants.{Basic}
use Rattle.own_channel_laws.specs.talk_laws.specs.l2cap_config.specs.Writing.{written}
use Rattle.own_channel_laws.specs.talk_laws.specs.link_talk.specs.declared.channel.Channel.{Channel}
use Rattle.own_channel_laws.specs.talk_laws.specs.link_talk.specs.Sayings.{Saying, Carried, GaveUp}
use Rattle.own_channel_laws.specs.talk_laws.specs.link_talk.specs.Sayings as sayings
use Rattle.own_channel_laws.specs.talk_laws.specs.link_talk.specs.Senses.{sense}
use Rattle.own_channel_laws.specs.talk_laws.specs.link_talk.specs.Meanings.{Meaning, Part, meant}
use Rattle.own_channel_laws.specs.talk_laws.specs.link_talk.specs.Setups.{mode_in, is_set, with_term, setup_after, Term, Wished, Answered, term}
use Rattle.own_channel_laws.specs.talk_laws.specs.link_talk.specs.Channels.{Entry, fresh, entry_after, entries_after, is_owner, is_there, made_by, Reading, reading}
use Rattle.own_channel_laws.specs.channel_model.specs.declared.errand.Errand.TheVariants as errands
use Rattle.own_channel_laws.specs.channel_model.specs.Value.{Request, Carrier, Plain, Retransmitting, Setup, Held, Remembered, Channels}
use Rattle.own_channel_laws.specs.channel_model.specs.Policies.{Policy}
use Rattle.own_channel_laws.specs.channel_model.specs.Changing.{held_at, setup_of}
use Rattle.own_channel_laws.specs.channel_model.specs.Timing.{times_held, times_features, times_channels}
use Rattle.own_channel_laws.specs.channel_model.specs.Giving.{Given, Signal, Whole, Framed}
use Rattle.own_channel_laws.specs.OwnTalk.{spoken, command_with, asked_between}
use Rattle.own_channel_laws.specs.Runs.{features_given_up, said_again, said_on_firing, said_by_channel, said_by_channels, fired_channel, said_by_carrier, said_as}
use Rattle.own_channel_laws.specs.Views.{peer_of, carrier_mode, read_at}
use Rattle.own_channel_laws.specs.Signals.{StandsIn}
use Rattle.channel_laws.specs.Consent.{HasAccepted, HasPart}
use Rattle.own_channel_laws.proofs.Conversing.{reading-on}
use Rattle.own_channel_laws.proofs.Entries.{makes-fresh, read-after, read-append, read-own}
use Rattle.own_channel_laws.proofs.Holding.{IsRead, is-read}
use Rattle.own_channel_laws.proofs.Lasting.{times-last, ends-last}
use Rattle.own_channel_laws.proofs.Mild.{is_about_options}
use Rattle.own_channel_laws.proofs.Origins.{makes-it}
use Rattle.own_channel_laws.proofs.Saying.{stands-left, stands-either}
use Rattle.own_channel_laws.proofs.Sound.{Sound}
use Rattle.own_channel_laws.proofs.Words.{Words, words-asked, words-again, words-firing}

-- ---- what was accepted stays so

stays_accepted : (x : Entry) (m : Meaning) → is_some x.setup.accepted ≡ true → is_some (entry_after m x).setup.accepted ≡ true
stays_accepted x m was = by (is_there x.life) (term x.channel m)
  where
    answer : (part : Part) (accepted more : Bool)
        → is_some (cond accepted (cond more (record x.setup { parts = x.setup.parts ++ part.options }) (record x.setup { parts = []; accepted = Some (unwrap_or (mode_in (x.setup.parts ++ part.options)) Basic) })) (record x.setup { parts = [] })).accepted ≡ true
    answer part false more = was
    answer part true true = was
    answer part true false = refl

    with : (t : Term) → is_some (with_term x.setup t).accepted ≡ true
    with (Wished options) = was
    with (Answered part) = answer part part.accepted part.more

    set : (b : Bool) (t : Term) → is_some (cond b x.setup (with_term x.setup t)).accepted ≡ true
    set true t = was
    set false t = with t

    by : (there : Bool) (t : Option Term) → is_some (cond there (setup_after x.setup t) x.setup).accepted ≡ true
    by false t = was
    by true None = was
    by true (Some t) = set (is_set x.setup) t

-- the talk has this channel, of which its host accepted options
pub record Took (channel : Channel) (said : List Saying) : Type 0 where
  pub entry : Entry
  pub found : read_at channel.own (reading said).entries ≡ Some entry
  pub channel_is : entry.channel ≡ channel
  pub accepted : is_some entry.setup.accepted ≡ true

one_more : (channel : Channel) (past : List Saying) (s : Saying) → Took channel past → Took channel (past ++ s ∷ [])
one_more channel past s took = by (made_by m) refl
  where
    m : Meaning
    m = meant (reading past).requests (sense s)

    entries : List Entry
    entries = (reading past).entries

    as_it_was : read_at channel.own (entries_after entries m) ≡ Some took.entry → Took channel (past ++ s ∷ [])
    as_it_was found = record { entry = took.entry; found = ap (λ (r : Reading). read_at channel.own r.entries) (reading-on past (s ∷ [])) ∙ found; channel_is = took.channel_is; accepted = took.accepted }

    owned : (other : Channel) (taken : Bool) → read_at channel.own (cond taken entries (entries ++ fresh other ∷ [])) ≡ Some took.entry
    owned other true = took.found
    owned other false = read-append channel.own entries other ∙ ap (λ o. option_or o (cond (eqb other.own channel.own) (Some (fresh other)) None)) took.found

    by : (found : Option Channel) → made_by m ≡ found → Took channel (past ++ s ∷ [])
    by None none = record {
      entry = entry_after m took.entry;
      found = ap (λ (r : Reading). read_at channel.own r.entries) (reading-on past (s ∷ [])) ∙ (read-after m entries channel.own none ∙ ap (option_map (entry_after m)) took.found);
      channel_is = took.channel_is;
      accepted = stays_accepted took.entry m took.accepted;
    }
    by (Some other) makes = as_it_was (ap (read_at channel.own) (ap (entries_after entries) (makes-it m other makes) ∙ makes-fresh other entries) ∙ owned other (list_any (is_owner other) entries))

pub took-more : (channel : Channel) (past said : List Saying) → Took channel past → Took channel (past ++ said)
took-more channel past [] took = subst (Took channel) (sym (append-nil past)) took
took-more channel past (s ∷ said) took = subst (Took channel) (append_assoc past (s ∷ []) said) (took-more channel (past ++ s ∷ []) said (one_more channel past s took))

pub accepted-more : (peer : ℕ) (past said : List Saying) → HasAccepted peer past → HasAccepted peer (past ++ said)
accepted-more peer past said has =
    let after : Took has.entry.channel (past ++ said) = took-more has.entry.channel past said (record { entry = has.entry; found = has.found; channel_is = refl; accepted = has.accepted }) in
    record {
      entry = after.entry;
      found = ap (λ (c : Channel). read_at c.own (reading (past ++ said)).entries) after.channel_is ∙ after.found;
      peer_is = ap (λ (c : Channel). c.peer) after.channel_is ∙ has.peer_is;
      accepted = after.accepted;
    }

-- ---- a channel that is held, for an endpoint of the peer, with what carries its SDUs

pub record IsCarried (peer : ℕ) (v : Channels) : Type 0 where
  pub held : Held
  pub setup : Setup
  pub found : held_at held.own v ≡ Some held
  pub has : setup_of held.stage ≡ Some setup
  pub to : peer_of held.stage ≡ Some peer
  pub carries : is_some setup.carrier ≡ true

-- is read as one of which options were accepted
pub carried-accepted : (policy : Policy) (said : List Saying) (v : Channels) (peer : ℕ) → Sound policy (reading said) v → IsCarried peer v → HasAccepted peer said
carried-accepted policy said v peer sound c = record {
  entry = r.entry;
  found = ap (λ n. read_at n (reading said).entries) (read-own c.held.own (reading said).entries r.entry r.found) ∙ r.found;
  peer_is = r.here ∙ some_same r.peer peer (sym r.peer_is ∙ c.to);
  accepted = ap (λ (m : Option Mode). is_some m) r.agrees.set_up.accepted_is ∙ (some_mode c.setup.carrier ∙ c.carries);
}
  where
    r : IsRead policy said c.held.own c.held c.setup
    r = is-read policy said v c.held.own c.held c.setup c.found c.has sound

    some_same : (a b : ℕ) → Some a ≡ Some b → a ≡ b
    some_same a b is = cc

    some_mode : (carrier : Option Carrier) → is_some (option_map carrier_mode carrier) ≡ is_some carrier
    some_mode None = refl
    some_mode (Some carrier) = refl

-- ---- success

-- the endpoint of the peer that a response says success to
abbrev pub success_to : Content → Option ℕ
success_to (reject reason rest) = None
success_to (connection_request psm source) = None
success_to (connection_response destination source answer status) = None
success_to (configuration_request destination flags options) = None
success_to (configuration_response source flags answer options) = cond (eqb answer 0) (Some source) None
success_to (disconnection_request destination source) = None
success_to (disconnection_response destination source) = None
success_to (echo_request octets) = None
success_to (echo_response octets) = None
success_to (information_request kind) = None
success_to (information_response kind answer rest) = None

pub plain_none : (content : Content) → is_about_options content ≡ false → success_to content ≡ None
plain_none (reject reason rest) is = refl
plain_none (connection_request psm source) is = refl
plain_none (connection_response destination source answer status) is = refl
plain_none (configuration_request destination flags options) is = refl
plain_none (configuration_response source flags answer options) is = cc
plain_none (disconnection_request destination source) is = refl
plain_none (disconnection_response destination source) is = refl
plain_none (echo_request octets) is = refl
plain_none (echo_response octets) is = refl
plain_none (information_request kind) is = refl
plain_none (information_response kind answer rest) is = refl

abbrev pub Backs : ℕ → List Saying → Type 0
Backs peer said = HasAccepted peer said ⊎ HasPart said

pub backs_more : (peer : ℕ) (past said : List Saying) → Backs peer past → Backs peer (past ++ said)
backs_more peer past said (inl accepted) = inl (accepted-more peer past said accepted)
backs_more peer past said (inr (identifier, own, flags, options, odd, stands)) = inr (identifier, own, flags, options, odd, stands-left _ past said stands)

-- each that was said, and that of the last request for options, was said to a channel whose options were accepted
pub record Assents (past : List Saying) (v : Channels) : Type 0 where
  pub said : (c : Command) (peer : ℕ) → StandsIn (spoken c) past → success_to c.content ≡ Some peer → Backs peer past
  pub kept : (last : Remembered) (content : Content) (peer : ℕ) → v.memory.configuration ≡ Some last → last.response ≡ Some content → success_to content ≡ Some peer → Backs peer past

-- ---- what a host says of its own accord

abbrev pub IsSilent : List Saying → Type 0
IsSilent said = (c : Command) (peer : ℕ) → StandsIn (spoken c) said → success_to c.content ≡ Some peer → ⊥

pub both_silent : (xs ys : List Saying) → IsSilent xs → IsSilent ys → IsSilent (xs ++ ys)
both_silent xs ys one other c peer stands success = by (stands-either (spoken c) xs ys stands)
  where
    by : StandsIn (spoken c) xs ⊎ StandsIn (spoken c) ys → ⊥
    by (inl left) = one c peer left success
    by (inr right) = other c peer right success

said_silent : (d : Command) → success_to d.content ≡ None → IsSilent (spoken d ∷ [])
said_silent d none c peer (inl same) success = let whole : d ≡ c = cc in let never : None ≡ Some peer = sym none ∙ (ap (λ (x : Command). success_to x.content) whole ∙ success) in cc
said_silent d none c peer (inr nothing) success = nothing

heard_silent : (one : Read) → IsSilent (sayings.Command Into one ∷ [])
heard_silent one c peer (inl same) success = cc
heard_silent one c peer (inr nothing) success = nothing

pub carried_silent : (flow : _) (pdu : List ℕ) → IsSilent (Carried flow pdu ∷ [])
carried_silent flow pdu c peer (inl same) success = cc
carried_silent flow pdu c peer (inr nothing) success = nothing

left_silent : (forgone : _) → IsSilent (GaveUp forgone ∷ [])
left_silent forgone c peer (inl same) success = cc
left_silent forgone c peer (inr nothing) success = nothing

pub own_words : (w : Channels) → Words w IsSilent
own_words w = record {
  none = λ c peer stands success. stands;
  both = both_silent;
  calls = λ own held request at is. said_silent (command_with request.identifier (connection_request held.psm held.own)) refl;
  wishes = λ own peer held setup request options at has to is. said_silent (command_with request.identifier (configuration_request peer 0 (written options))) refl;
  ends = λ identifier peer own. said_silent (command_with identifier (disconnection_request peer own)) refl;
  asks = λ request is. said_silent (command_with request.identifier (information_request 2)) refl;
  lets_call = λ identifier own. left_silent (sayings.Connection identifier own);
  lets_end = λ own peer. left_silent (sayings.Disconnection own peer);
}

pub asked_silent : (v w : Channels) → IsSilent (asked_between v w)
asked_silent v w = words-asked w IsSilent (own_words w) v

features_silent : (before after : Option Request) → IsSilent (features_given_up before after)
features_silent None after = λ c peer stands success. stands
features_silent (Some request) None = left_silent (sayings.Information request.identifier)
features_silent (Some request) (Some other) = λ c peer stands success. stands

pub carrier_silent : (carrier : Option Carrier) (peer : ℕ) (sdu : List ℕ) → IsSilent (said_by_carrier carrier peer sdu)
carrier_silent None peer sdu = λ c other stands success. stands
carrier_silent (Some (Plain agreed None)) peer sdu = carried_silent Out _
carrier_silent (Some (Plain agreed (Some waiting))) peer sdu = λ c other stands success. stands
carrier_silent (Some (Retransmitting machine)) peer sdu = λ c other stands success. stands

pub given_silent : (given : Option Given) (pdu : List ℕ) → IsSilent (said_as given pdu)
given_silent None pdu = λ c peer stands success. stands
given_silent (Some (Signal command)) pdu = λ c peer stands success. stands
given_silent (Some (Whole other sdu)) pdu = λ c peer stands success. stands
given_silent (Some (Framed other frame)) pdu = carried_silent Out pdu

pub fired_silent : (tries : ℕ) (owns : List ℕ) (v : Channels) → IsSilent (said_by_channels tries owns v)
fired_silent tries [] v =
    let w : Channels = times_features v.features tries v in
    both_silent (said_again errands.Features v w) (features_given_up v.features w.features) (words-again w IsSilent (own_words w) errands.Features v) (features_silent v.features w.features)
fired_silent tries (own ∷ owns) v =
    let between : Channels = times_held (held_at own v) tries v in
    let next : Channels = fired_channel tries own v in
    both_silent (said_by_channel tries own v) (said_by_channels tries owns next)
    (both_silent (said_on_firing own v between) (said_on_firing own between next) (words-firing between IsSilent (own_words between) own v) (words-firing next IsSilent (own_words next) own between)) (fired_silent tries owns next)

pub fired_memory : (tries : ℕ) (owns : List ℕ) (v : Channels) → (times_channels tries owns v).memory ≡ v.memory
fired_memory tries [] v = refl
fired_memory tries (own ∷ owns) v =
    let between : Channels = times_held (held_at own v) tries v in
    fired_memory tries owns (fired_channel tries own v) ∙ ((ends-last tries own between).1 ∙ (times-last tries own v).1)

-- so nothing changes
pub silent_assents : (past said : List Saying) (v w : Channels) → IsSilent said → w.memory.configuration ≡ v.memory.configuration → Assents past v → Assents (past ++ said) w
silent_assents past said v w silent same a = record { said = by; kept = λ last content peer at is success. backs_more peer past said (a.kept last content peer (sym same ∙ at) is success) }
  where
    by : (c : Command) (peer : ℕ) → StandsIn (spoken c) (past ++ said) → success_to c.content ≡ Some peer → Backs peer (past ++ said)
    by c peer stands success = of (stands-either (spoken c) past said stands)
      where
        of : StandsIn (spoken c) past ⊎ StandsIn (spoken c) said → Backs peer (past ++ said)
        of (inl old) = backs_more peer past said (a.said c peer old success)
        of (inr new) = absurd (silent c peer new success)
