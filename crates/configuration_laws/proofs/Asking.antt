-- The requests for options of a host that wait, and those that it gives.
use Rattle.std.proofs.Common.{◌≡◌, ℕ, ◌+◌, ◌<◌, ◌≤◌, arith, List, [], ◌∷◌, ◌++◌, drop, Bool, true, false, cond, eqb, Option, Some, None, Ok, refl, sym, ap, subst, ◌∙◌, ◌⊎◌, inl, inr}
use Rattle.std.specs.Prelude.{find, option_map}
use Rattle.std.proofs.lemmas.Bool.{eqb-true}
use Rattle.channel_laws.specs.acl_fragments.specs.Pieces.{channel_of}
use Rattle.channel_laws.specs.l2cap_signal.specs.Commands.{Content, Command, connection_request, configuration_request, disconnection_request, information_request}
use Rattle.channel_laws.specs.l2cap_signal.specs.Reading.{answers}
use Rattle.channel_laws.specs.l2cap_config.specs.declared.options.Options.{Options}
use Rattle.channel_laws.specs.l2cap_config.specs.Writing.{written}
use Rattle.channel_laws.specs.link_talk.specs.declared.channel.Channel.{Channel}
use Rattle.channel_laws.specs.link_talk.specs.Channels.{Entry, waits_for_end, reading}
use Rattle.channel_laws.specs.link_talk.specs.Sayings.{Saying}
use Rattle.channel_laws.specs.channel_model.specs.declared.errand.Errand.{Errand}
use Rattle.channel_laws.specs.channel_model.specs.declared.errand.Errand.TheVariants as errands
use Rattle.channel_laws.specs.channel_model.specs.Asking.{next_identifier}
use Rattle.channel_laws.specs.channel_model.specs.Changing.{held_at}
use Rattle.channel_laws.specs.channel_model.specs.Giving.{Given, Signal, Whole, Framed, command_of, connection_at, configuration_by, configuration_at, disconnection_at, on_held, features_command, gives, held_gives, stage_gives, some_carrier_gives, queue_gives, next_given}
use Rattle.channel_laws.specs.channel_model.specs.Policies.{Policy}
use Rattle.channel_laws.specs.channel_model.specs.Value.{Request, Queued, Answer, Ask, Own, Unasked, Asking, Granted, Carrier, Plain, Retransmitting, Stage, Requested, Connected, Leaving, Closing, Crossed, Held, Channels}
use Rattle.channel_laws.specs.channel_model.proofs.Lookups.{own_of, found-has}
use Rattle.channel_laws.specs.ertm_model.specs.Giving.{next_frame}
use Rattle.channel_laws.specs.Belonging.{IsReadAs}
use Rattle.channel_laws.specs.Granted.{IsFor}
use Rattle.channel_laws.specs.OwnTalk.{command_with}
use Rattle.channel_laws.specs.Signals.{StandsIn}
use Rattle.channel_laws.specs.Tries.{own_request, for_options, request_at, request_of}
use Rattle.channel_laws.specs.Views.{peer_of, life_of, read_at}
use Rattle.channel_laws.proofs.Demanding.{asked_at, asked_on}
use Rattle.channel_laws.proofs.Lasting.{asked_by}
use Rattle.channel_laws.proofs.Mild.{is_about_options}
use Rattle.channel_laws.proofs.Sound.{ReadsBy, Reads, Sound}
use Rattle.disconnection_laws.proofs.Staying.{more-for}
use Rattle.configuration_laws.proofs.Readable.{IsRead, written-read}
use Rattle.configuration_laws.proofs.Concluding.{CanRead}
use Rattle.configuration_laws.proofs.Going.{Goes}

-- ---- what is asked

some_is : {X : Type 0} (x y : X) → Some x ≡ Some y → x ≡ y
some_is x y is = cc

call_content : (held : Held) (stage : Stage) (command : Command) → connection_at stage held ≡ Some command → command.content ≡ connection_request held.psm held.own
call_content held (Requested request) command is = sym (ap (λ (c : Command). c.content) (some_is _ command is))
call_content held (Connected peer setup) command is = cc
call_content held (Leaving peer setup request) command is = cc
call_content held (Closing peer request checked) command is = cc
call_content held (Crossed peer request) command is = cc

-- a channel whose end was asked for
pub record IsLeft (own peer : ℕ) (v : Channels) : Type 0 where
  pub held : Held
  pub found : held_at own v ≡ Some held
  pub to : peer_of held.stage ≡ Some peer
  pub left : waits_for_end (life_of held.stage) ≡ true

end_left : (own : ℕ) (v : Channels) (held : Held) (stage : Stage) (command : Command) → held_at own v ≡ Some held → held.stage ≡ stage → disconnection_at stage held ≡ Some command → (peer : ℕ) × (command.content ≡ disconnection_request peer own) × IsLeft own peer v
end_left own v held stage command found = by stage
  where
    it : (peer : ℕ) (request : Request) → command_with request.identifier (disconnection_request peer held.own) ≡ command → command.content ≡ disconnection_request peer own
    it peer request is = sym (ap (λ (c : Command). c.content) is) ∙ ap (disconnection_request peer) (found-has own_of own v.held held found)

    at : (peer : ℕ) (s : Stage) → held.stage ≡ s → peer_of s ≡ Some peer → waits_for_end (life_of s) ≡ true → IsLeft own peer v
    at peer s is to left = record { held = held; found = found; to = ap peer_of is ∙ to; left = ap (λ x. waits_for_end (life_of x)) is ∙ left }

    by : (s : Stage) → held.stage ≡ s → disconnection_at s held ≡ Some command → (peer : ℕ) × (command.content ≡ disconnection_request peer own) × IsLeft own peer v
    by (Requested request) is asks = cc
    by (Connected peer setup) is asks = cc
    by (Leaving peer setup request) is asks = (peer, it peer request (some_is _ command asks), at peer (Leaving peer setup request) is refl refl)
    by (Closing peer request checked) is asks = (peer, it peer request (some_is _ command asks), at peer (Closing peer request checked) is refl refl)
    by (Crossed peer request) is asks = (peer, it peer request (some_is _ command asks), at peer (Crossed peer request) is refl refl)

features_content : (features : Option Request) (command : Command) → features_command features ≡ Some command → command.content ≡ information_request 2
features_content None command is = cc
features_content (Some request) command is = sym (ap (λ (c : Command). c.content) (some_is _ command is))

-- a request for options of a channel that waits: with the endpoint of the peer, and options that the host writes
pub record IsAsking (held : Held) (command : Command) : Type 0 where
  pub peer : ℕ
  pub options : Options
  pub to : peer_of held.stage ≡ Some peer
  pub content_is : command.content ≡ configuration_request peer 0 (written options)
  pub asked : asked_at held.stage ≡ Some (Some command.identifier)

own_asking : (own : Own) (peer : ℕ) (command : Command) → configuration_by own peer ≡ Some command → (options : Options) × (command.content ≡ configuration_request peer 0 (written options)) × (asked_by (own_request own) ≡ Some command.identifier)
own_asking Unasked peer command is = cc
own_asking (Asking request options) peer command is = (options, sym (ap (λ (c : Command). c.content) (some_is _ command is)), ap (λ (c : Command). Some c.identifier) (some_is _ command is))
own_asking Granted peer command is = cc

held_asking : (held : Held) (stage : Stage) (command : Command) → held.stage ≡ stage → configuration_at stage ≡ Some command → IsAsking held command
held_asking held (Requested request) command stage_is is = cc
held_asking held (Connected peer setup) command stage_is is =
    let (options, content, asked) = own_asking setup.own peer command is in record { peer = peer; options = options; to = ap peer_of stage_is; content_is = content; asked = ap asked_at stage_is ∙ ap Some asked }
held_asking held (Leaving peer setup request) command stage_is is =
    let (options, content, asked) = own_asking setup.own peer command is in record { peer = peer; options = options; to = ap peer_of stage_is; content_is = content; asked = ap asked_at stage_is ∙ ap Some asked }
held_asking held (Closing peer request checked) command stage_is is = cc
held_asking held (Crossed peer request) command stage_is is = cc

pub record Asks (own : ℕ) (v : Channels) (command : Command) : Type 0 where
  pub held : Held
  pub found : held_at own v ≡ Some held
  pub asking : IsAsking held command

asks_options : (own : ℕ) (v : Channels) (command : Command) → command_of (errands.Configuration own) v ≡ Some command → Asks own v command
asks_options own v command = by (held_at own v) refl
  where
    by : (held : Option Held) → held_at own v ≡ held → on_held (λ h. configuration_at h.stage) held ≡ Some command → Asks own v command
    by None at is = cc
    by (Some held) at is = record { held = held; found = at; asking = held_asking held held.stage command refl is }

-- ---- which request it is

abbrev pub IsWish : Command → Type 0
IsWish command = (destination : ℕ) × (flags : ℕ) × (options : List ℕ) × (command.content ≡ configuration_request destination flags options)

-- It is no response to a request for options. If it is such a request, it is that of a channel; and if it is one for an end, that of a channel that is left.
pub record IsAsked (v : Channels) (command : Command) : Type 0 where
  pub plain : is_about_options command.content ≡ false
  pub wish : IsWish command → (own : ℕ) × Asks own v command
  pub leaves : (destination source : ℕ) → command.content ≡ disconnection_request destination source → IsLeft source destination v

of_other : (v : Channels) (command : Command) (content : Content) → command.content ≡ content → is_about_options content ≡ false → ((destination flags : ℕ) (options : List ℕ) → content ≡ configuration_request destination flags options → ⊥)
    → ((destination source : ℕ) → content ≡ disconnection_request destination source → IsLeft source destination v) → IsAsked v command
of_other v command content is plain apart leaves = record {
  plain = ap is_about_options is ∙ plain;
  wish = λ wish. absurd (apart wish.0 wish.1 wish.2 (sym is ∙ wish.3));
  leaves = λ destination source same. leaves destination source (sym is ∙ same);
}

asked_is : (errand : Errand) (v : Channels) (command : Command) → command_of errand v ≡ Some command → IsAsked v command
asked_is (errands.Connection own) v command is = by (held_at own v) is
  where
    by : (held : Option Held) → on_held (λ h. connection_at h.stage h) held ≡ Some command → IsAsked v command
    by None is = cc
    by (Some held) is = of_other v command (connection_request held.psm held.own) (call_content held held.stage command is) refl (λ destination flags options same. cc) (λ destination source same. cc)
asked_is (errands.Configuration own) v command is =
    let it = asks_options own v command is in record {
      plain = ap is_about_options it.asking.content_is;
      wish = λ wish. (own, it);
      leaves = λ destination source same. let never : configuration_request it.asking.peer 0 (written it.asking.options) ≡ disconnection_request destination source = sym it.asking.content_is ∙ same in cc;
    }
asked_is (errands.Disconnection own) v command is = by (held_at own v) refl is
  where
    by : (held : Option Held) → held_at own v ≡ held → on_held (λ h. disconnection_at h.stage h) held ≡ Some command → IsAsked v command
    by None at is = cc
    by (Some held) at is =
        let (peer, content, left) = end_left own v held held.stage command at refl is in
        of_other v command (disconnection_request peer own) content refl (λ destination flags options same. cc)
        (λ destination source same. let one : peer ≡ destination = cc in let two : own ≡ source = cc in subst (λ n. IsLeft n destination v) two (subst (λ n. IsLeft own n v) one left))
asked_is errands.Features v command is = of_other v command (information_request 2) (features_content v.features command is) refl (λ destination flags options same. cc) (λ destination source same. cc)

-- ---- what is given

-- what a channel gives is no command
no_signal : (held : Option Held) (command : Command) → held_gives held ≡ Some (Signal command) → ⊥
no_signal None command is = cc
no_signal (Some held) command is = by held.stage is
  where
    framed : (peer : ℕ) (found : _) → option_map (Framed peer) found ≡ Some (Signal command) → ⊥
    framed peer None is = cc
    framed peer (Some frame) is = cc

    carried : (carrier : Option Carrier) (peer : ℕ) → some_carrier_gives carrier peer ≡ Some (Signal command) → ⊥
    carried None peer is = cc
    carried (Some (Plain agreed None)) peer is = cc
    carried (Some (Plain agreed (Some sdu))) peer is = cc
    carried (Some (Retransmitting machine)) peer is = framed peer (next_frame machine) is

    by : (stage : Stage) → stage_gives stage ≡ Some (Signal command) → ⊥
    by (Requested request) is = cc
    by (Connected peer setup) is = carried setup.carrier peer is
    by (Leaving peer setup request) is = carried setup.carrier peer is
    by (Closing peer request checked) is = cc
    by (Crossed peer request) is = cc

-- a command that is given is an answer that waited, or a request
signal_is : (v : Channels) (command : Command) → next_given v ≡ Some (Signal command) → StandsIn (Answer command) v.queue ⊎ IsAsked v command
signal_is v command is = by v.queue refl is
  where
    asked : (errand : Errand) (found : Option Command) → command_of errand v ≡ found → option_map Signal found ≡ Some (Signal command) → StandsIn (Answer command) v.queue ⊎ IsAsked v command
    asked errand None at gave = cc
    asked errand (Some one) at gave = let it : one ≡ command = cc in inr (asked_is errand v command (at ∙ ap Some it))

    by : (queue : List Queued) → v.queue ≡ queue → queue_gives queue v ≡ Some (Signal command) → StandsIn (Answer command) v.queue ⊎ IsAsked v command
    by [] at gave = absurd (no_signal (find gives v.held) command gave)
    by (Answer one ∷ behind) at gave = let it : one ≡ command = cc in inl (subst (StandsIn (Answer command)) (sym at) (inl (ap Answer it)))
    by (Ask errand ∷ behind) at gave = asked errand (command_of errand v) refl gave

-- the octets of a PDU are one command, on the signalling channel
abbrev pub Brings : List ℕ → Command → Type 0
Brings pdu command = (eqb (channel_of pdu) 0x0001 ≡ true) × (answers (drop 4 pdu) ≡ Ok command ∷ [])

-- and so of one that is given
pub given-is : (v : Channels) (given : Given) (pdu : List ℕ) → next_given v ≡ Some given → IsReadAs (Some given) pdu → (command : Command) → Brings pdu command → StandsIn (Answer command) v.queue ⊎ IsAsked v command
given-is v (Whole peer sdu) pdu given read command (signals, is) = let never : true ≡ false = sym signals ∙ read in absurd cc
given-is v (Framed peer frame) pdu given read command (signals, is) = let never : true ≡ false = sym signals ∙ read in absurd cc
given-is v (Signal other) pdu given read command (signals, is) =
    let both : Ok other ∷ [] ≡ Ok command ∷ [] = sym read ∙ is in
    let same : other ≡ command = cc in
    signal_is v command (given ∙ ap (λ c. Some (Signal c)) same)

-- what is given on the signalling channel is one command
pub given-plain : (given : Given) (pdu : List ℕ) → IsReadAs (Some given) pdu → eqb (channel_of pdu) 0x0001 ≡ true → (command : Command) × (answers (drop 4 pdu) ≡ Ok command ∷ [])
given-plain (Signal command) pdu read signals = (command, read)
given-plain (Whole peer sdu) pdu read signals = let never : true ≡ false = sym signals ∙ read in absurd cc
given-plain (Framed peer frame) pdu read signals = let never : true ≡ false = sym signals ∙ read in absurd cc

-- ---- a request that waits

-- so it is asked, with its identifier
pub waits-asked : (own : ℕ) (v : Channels) (request : Request) → request_of (errands.Configuration own) v ≡ Some request → asked_on (held_at own v) ≡ Some (Some request.identifier)
waits-asked own v request = by (held_at own v)
  where
    staged : (stage : Stage) → for_options stage ≡ Some request → asked_at stage ≡ Some (Some request.identifier)
    staged (Requested other) is = cc
    staged (Connected peer setup) is = ap (λ o. Some (asked_by o)) is
    staged (Leaving peer setup other) is = ap (λ o. Some (asked_by o)) is
    staged (Closing peer other checked) is = cc
    staged (Crossed peer other) is = cc

    by : (held : Option Held) → request_at for_options held ≡ Some request → asked_on held ≡ Some (Some request.identifier)
    by None is = cc
    by (Some held) is = staged held.stage is

-- the identifiers of the requests for options that wait were given before, and are apart
pub record HaveNames (v : Channels) : Type 0 where
  pub below : (own n : ℕ) → asked_on (held_at own v) ≡ Some (Some n) → n < v.identifier
  pub apart : (own other n : ℕ) → asked_on (held_at own v) ≡ Some (Some n) → asked_on (held_at other v) ≡ Some (Some n) → own ≡ other

-- from one moment to the next: each waited before, or it has an identifier that was not given before
pub record AsksOn (v w : Channels) : Type 0 where
  pub rises : v.identifier ≤ w.identifier
  pub anew : (own n : ℕ) → asked_on (held_at own w) ≡ Some (Some n) → (asked_on (held_at own v) ≡ Some (Some n)) ⊎ (v.identifier ≤ n)

rising : (n : ℕ) → n ≤ next_identifier n → next_identifier n ≡ n + 1
rising n = by (eqb n 255) refl
  where
    by : (last : Bool) → eqb n 255 ≡ last → n ≤ cond last 1 (n + 1) → cond last 1 (n + 1) ≡ n + 1
    by true is rises = let same = eqb-true n 255 is in absurd (omega (arith, same, rises))
    by false is rises = refl

pub goes-on : (v w : Channels) → Goes v w → v.identifier ≤ w.identifier → AsksOn v w
goes-on v w goes rises = record { rises = rises; anew = by goes }
  where
    by : Goes v w → (own n : ℕ) → asked_on (held_at own w) ≡ Some (Some n) → (asked_on (held_at own v) ≡ Some (Some n)) ⊎ (v.identifier ≤ n)
    by (inl less) own n is = inl (less own n is)
    by (inr (asked, new)) own n is = at (new.others own n is)
      where
        at : (asked_on (held_at own v) ≡ Some (Some n)) ⊎ ((own ≡ asked) × (n ≡ v.identifier)) → (asked_on (held_at own v) ≡ Some (Some n)) ⊎ (v.identifier ≤ n)
        at (inl was) = inl was
        at (inr (it, now)) = inr (omega (arith, now))

pub goes-names : (v w : Channels) → Goes v w → v.identifier ≤ w.identifier → HaveNames v → HaveNames w
goes-names v w (inl less) rises names = record {
  below = λ own n is. let under = names.below own n (less own n is) in omega (arith, under, rises);
  apart = λ own other n is also. names.apart own other n (less own n is) (less other n also);
}
goes-names v w (inr (asked, new)) rises names = record {
  below = λ own n is. under own n (new.others own n is);
  apart = λ own other n is also. by own other n (new.others own n is) (new.others other n also);
}
  where
    more : w.identifier ≡ v.identifier + 1
    more = new.next ∙ rising v.identifier (subst (λ n. v.identifier ≤ n) new.next rises)

    under : (own n : ℕ) → (asked_on (held_at own v) ≡ Some (Some n)) ⊎ ((own ≡ asked) × (n ≡ v.identifier)) → n < w.identifier
    under own n (inl was) = let less = names.below own n was in omega (arith, less, rises)
    under own n (inr (it, now)) = omega (arith, now, more)

    by : (own other n : ℕ) → (asked_on (held_at own v) ≡ Some (Some n)) ⊎ ((own ≡ asked) × (n ≡ v.identifier)) → (asked_on (held_at other v) ≡ Some (Some n)) ⊎ ((other ≡ asked) × (n ≡ v.identifier)) → own ≡ other
    by own other n (inl was) (inl also) = names.apart own other n was also
    by own other n (inl was) (inr (it, now)) = let less = names.below own n was in absurd (omega (arith, less, now))
    by own other n (inr (it, now)) (inl also) = let less = names.below other n also in absurd (omega (arith, less, now))
    by own other n (inr (one, now)) (inr (two, then)) = one ∙ sym two

-- Of a request for options that was given: it can be read, its identifier was given before, and where the one of this channel that waits has that identifier,
-- it goes to the channel's endpoint of the peer.
pub record Good (own : ℕ) (said : List Saying) (v : Channels) (command : Command) : Type 0 where
  pub read : CanRead command.content
  pub below : command.identifier < v.identifier
  pub same : asked_on (held_at own v) ≡ Some (Some command.identifier) → (destination flags : ℕ) (options : List ℕ) → command.content ≡ configuration_request destination flags options → IsFor destination (read_at own (reading said).entries)

-- the channel is read with the endpoint of the peer that it has
reads_for : (policy : Policy) (said : List Saying) (v : Channels) (own peer : ℕ) (held : Held) → Sound policy (reading said) v → held_at own v ≡ Some held → peer_of held.stage ≡ Some peer → IsFor peer (read_at own (reading said).entries)
reads_for policy said v own peer held sound found to = by (read_at own (reading said).entries) (subst (λ (p : Option ℕ). ReadsBy policy held p (read_at own (reading said).entries)) to (subst (λ (h : Option Held). Reads policy h (read_at own (reading said).entries)) found (sound.core.reads own)))
  where
    by : (entry : Option Entry) → ReadsBy policy held (Some peer) entry → IsFor peer entry
    by None reads = elim reads [ ]
    by (Some entry) (there, agrees) = ap (λ (c : Channel). c.peer) there.channel_is

pub waiting-good : (policy : Policy) (said : List Saying) (own other : ℕ) (v : Channels) (command : Command) → Sound policy (reading said) v → HaveNames v → Asks other v command → Good own said v command
waiting-good policy said own other v command sound names asks = record {
  read = λ destination flags octets content. subst IsRead (options_same destination flags octets content) (written-read asks.asking.options);
  below = names.below other command.identifier waits;
  same = λ asked destination flags octets content.
      subst (λ n. IsFor destination (read_at n (reading said).entries)) (sym (names.apart own other command.identifier asked waits))
      (subst (λ n. IsFor n (read_at other (reading said).entries)) (peer_same destination flags octets content) (reads_for policy said v other asks.asking.peer asks.held sound asks.found asks.asking.to));
}
  where
    waits : asked_on (held_at other v) ≡ Some (Some command.identifier)
    waits = ap asked_on asks.found ∙ asks.asking.asked

    whole : (destination flags : ℕ) (octets : List ℕ) → command.content ≡ configuration_request destination flags octets → configuration_request asks.asking.peer 0 (written asks.asking.options) ≡ configuration_request destination flags octets
    whole destination flags octets content = sym asks.asking.content_is ∙ content

    options_same : (destination flags : ℕ) (octets : List ℕ) → command.content ≡ configuration_request destination flags octets → written asks.asking.options ≡ octets
    options_same destination flags octets content = let same = whole destination flags octets content in cc

    peer_same : (destination flags : ℕ) (octets : List ℕ) → command.content ≡ configuration_request destination flags octets → asks.asking.peer ≡ destination
    peer_same destination flags octets content = let same = whole destination flags octets content in cc

pub good-on : (own : ℕ) (said more : List Saying) (v w : Channels) (command : Command) → AsksOn v w → Good own said v command → Good own (said ++ more) w command
good-on own said more v w command on good = record {
  read = good.read;
  below = let rises = on.rises in let under = good.below in omega (arith, rises, under);
  same = λ asked destination flags octets content. more-for destination own said more (by (on.anew own command.identifier asked) destination flags octets content);
}
  where
    by : (asked_on (held_at own v) ≡ Some (Some command.identifier)) ⊎ (v.identifier ≤ command.identifier) → (destination flags : ℕ) (octets : List ℕ) → command.content ≡ configuration_request destination flags octets → IsFor destination (read_at own (reading said).entries)
    by (inl was) = good.same was
    by (inr high) = let under = good.below in absurd (omega (arith, high, under))
