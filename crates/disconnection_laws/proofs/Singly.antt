-- What is under way of requests for ends, and what is remembered of them, where one waits at a time.
use Rattle.std.proofs.Common.{◌≡◌, ◌<◌, ◌≤◌, arith, ℕ, List, [], ◌∷◌, ◌++◌, drop, true, false, eqb, Option, Some, None, Ok, refl, sym, ap, subst, ◌∙◌, ◌⊎◌, inl, inr}
use Rattle.std.specs.Prelude.{find, option_map}
use Rattle.channel_laws.specs.acl_fragments.specs.Pieces.{channel_of}
use Rattle.channel_laws.specs.l2cap_signal.specs.Commands.{Command, connection_request, configuration_request, disconnection_request, disconnection_response, information_request}
use Rattle.channel_laws.specs.l2cap_signal.specs.Reading.{answers}
use Rattle.channel_laws.specs.link_talk.specs.declared.life.Life.{Life}
use Rattle.channel_laws.specs.link_talk.specs.declared.life.Life.TheVariants as lives
use Rattle.channel_laws.specs.link_talk.specs.declared.word.Word.{Word}
use Rattle.channel_laws.specs.link_talk.specs.declared.word.Word.TheVariants as words
use Rattle.channel_laws.specs.link_talk.specs.Channels.{Entry, waits_for_end, life_after, word, reading}
use Rattle.channel_laws.specs.link_talk.specs.Sayings.{Saying}
use Rattle.channel_laws.specs.channel_model.specs.declared.errand.Errand.{Errand}
use Rattle.channel_laws.specs.channel_model.specs.declared.errand.Errand.TheVariants as errands
use Rattle.channel_laws.specs.channel_model.specs.Changing.{has_own, held_at}
use Rattle.channel_laws.specs.channel_model.specs.Giving.{Given, Signal, Whole, Framed, command_of, connection_at, configuration_by, configuration_at, disconnection_at, on_held, features_command, gives, held_gives, stage_gives, some_carrier_gives, queue_gives, next_given}
use Rattle.channel_laws.specs.channel_model.specs.Value.{Request, Queued, Answer, Ask, Own, Unasked, Asking, Granted, Carrier, Plain, Retransmitting, Stage, Requested, Connected, Leaving, Closing, Crossed, Held, Remembered, Channels}
use Rattle.channel_laws.specs.channel_model.proofs.Lookups.{own_of, found-has}
use Rattle.channel_laws.specs.ertm_model.specs.Giving.{next_frame}
use Rattle.channel_laws.specs.Awaited.{asks_for_end, is_at, end_waits}
use Rattle.channel_laws.specs.Belonging.{IsReadAs}
use Rattle.channel_laws.specs.OwnTalk.{spoken, command_with}
use Rattle.channel_laws.specs.Responding.{Recalls}
use Rattle.channel_laws.specs.Signals.{StandsIn}
use Rattle.channel_laws.specs.Views.{peer_of, read_at}
use Rattle.channel_laws.proofs.Replying.{is_response}
use Rattle.channel_laws.proofs.Saying.{stands-either}
use Rattle.disconnection_laws.specs.Ended.{HasAnsweredEnd}
use Rattle.disconnection_laws.specs.Met.{AsksSingly, AsksOn}
use Rattle.disconnection_laws.proofs.Ending.{Silent}
use Rattle.disconnection_laws.proofs.Staying.{HoldsAt, more-holds}

-- ---- requests for ends

abbrev pub wants : ℕ → Channels → Option Command
wants own v = command_of (errands.Disconnection own) v

-- of the channel of this endpoint of the side that asks
abbrev pub IsEndOf : Command → (source : ℕ) → Type 0
IsEndOf command source = (destination : ℕ) × (command.content ≡ disconnection_request destination source)

abbrev pub end_request : (identifier destination source : ℕ) → Command
end_request identifier destination source = command_with identifier (disconnection_request destination source)

abbrev pub Brings : List ℕ → Command → Type 0
Brings pdu command = (eqb (channel_of pdu) 0x0001 ≡ true) × (answers (drop 4 pdu) ≡ Ok command ∷ [])

pub some_is : {X : Type 0} (x y : X) → Some x ≡ Some y → x ≡ y
some_is x y is = cc

-- one that waits is about a channel that is there
pub record Wanting (own : ℕ) (v : Channels) (command : Command) : Type 0 where
  pub held : Held
  pub peer : ℕ
  pub found : find (has_own own) v.held ≡ Some held
  pub to : peer_of held.stage ≡ Some peer
  pub content_is : command.content ≡ disconnection_request peer own

pub wanting : (own : ℕ) (v : Channels) (command : Command) → wants own v ≡ Some command → Wanting own v command
wanting own v command = by (held_at own v) refl
  where
    staged : (held : Held) (stage : Stage) → find (has_own own) v.held ≡ Some held → held.stage ≡ stage → disconnection_at stage held ≡ Some command → Wanting own v command
    staged held (Requested request) found is asks = cc
    staged held (Connected peer setup) found is asks = cc
    staged held (Leaving peer setup request) found is asks = record { held = held; peer = peer; found = found; to = ap peer_of is; content_is = sym (ap (λ (c : Command). c.content) (some_is _ command asks)) ∙ ap (disconnection_request peer) (found-has own_of own v.held held found) }
    staged held (Closing peer request checked) found is asks = record { held = held; peer = peer; found = found; to = ap peer_of is; content_is = sym (ap (λ (c : Command). c.content) (some_is _ command asks)) ∙ ap (disconnection_request peer) (found-has own_of own v.held held found) }
    staged held (Crossed peer request) found is asks = record { held = held; peer = peer; found = found; to = ap peer_of is; content_is = sym (ap (λ (c : Command). c.content) (some_is _ command asks)) ∙ ap (disconnection_request peer) (found-has own_of own v.held held found) }

    by : (held : Option Held) → held_at own v ≡ held → on_held (λ h. disconnection_at h.stage h) held ≡ Some command → Wanting own v command
    by None at asks = cc
    by (Some held) at asks = staged held held.stage at refl asks

pub source_is : (command : Command) (peer own source : ℕ) → command.content ≡ disconnection_request peer own → IsEndOf command source → own ≡ source
source_is command peer own source is (destination, also) = let same : disconnection_request peer own ≡ disconnection_request destination source = sym is ∙ also in cc

pub want_asks : (own : ℕ) (v : Channels) (command : Command) → wants own v ≡ Some command → is_at asks_for_end (held_at own v) ≡ true
want_asks own v command = by (held_at own v)
  where
    staged : (held : Held) (stage : Stage) → disconnection_at stage held ≡ Some command → asks_for_end stage ≡ true
    staged held (Requested request) asks = cc
    staged held (Connected peer setup) asks = cc
    staged held (Leaving peer setup request) asks = refl
    staged held (Closing peer request checked) asks = refl
    staged held (Crossed peer request) asks = refl

    by : (held : Option Held) → on_held (λ h. disconnection_at h.stage h) held ≡ Some command → is_at asks_for_end held ≡ true
    by None asks = cc
    by (Some held) asks = staged held held.stage asks

pub none_asks : (own : ℕ) (v : Channels) → wants own v ≡ None → is_at asks_for_end (held_at own v) ≡ false
none_asks own v = by (held_at own v)
  where
    staged : (held : Held) (stage : Stage) → disconnection_at stage held ≡ None → asks_for_end stage ≡ false
    staged held (Requested request) asks = refl
    staged held (Connected peer setup) asks = refl
    staged held (Leaving peer setup request) asks = cc
    staged held (Closing peer request checked) asks = cc
    staged held (Crossed peer request) asks = cc

    by : (held : Option Held) → on_held (λ h. disconnection_at h.stage h) held ≡ None → is_at asks_for_end held ≡ false
    by None asks = refl
    by (Some held) asks = staged held held.stage asks

-- ---- what is given

-- what a channel gives is no command
pub no_signal : (held : Option Held) (command : Command) → held_gives held ≡ Some (Signal command) → ⊥
no_signal None command is = cc
no_signal (Some held) command is = by held.stage is
  where
    framed : (peer : ℕ) (found : _) → option_map (Framed peer) found ≡ Some (Signal command) → ⊥
    framed peer None is = cc
    framed peer (Some frame) is = cc

    carried : (carrier : Option Carrier) (peer : ℕ) → some_carrier_gives carrier peer ≡ Some (Signal command) → ⊥
    carried None peer is = cc
    carried (Some (Plain agreed None)) peer is = cc
    carried (Some (Plain agreed (Some sdu))) peer is = cc
    carried (Some (Retransmitting machine)) peer is = framed peer (next_frame machine) is

    by : (stage : Stage) → stage_gives stage ≡ Some (Signal command) → ⊥
    by (Requested request) is = cc
    by (Connected peer setup) is = carried setup.carrier peer is
    by (Leaving peer setup request) is = carried setup.carrier peer is
    by (Closing peer request checked) is = cc
    by (Crossed peer request) is = cc

-- no other request is one for an end
pub call_apart : (held : Held) (stage : Stage) (command : Command) (source : ℕ) → connection_at stage held ≡ Some command → IsEndOf command source → ⊥
call_apart held (Requested request) command source is (destination, end) = let never : connection_request held.psm held.own ≡ disconnection_request destination source = ap (λ (c : Command). c.content) (some_is _ command is) ∙ end in cc
call_apart held (Connected peer setup) command source is end = cc
call_apart held (Leaving peer setup request) command source is end = cc
call_apart held (Closing peer request checked) command source is end = cc
call_apart held (Crossed peer request) command source is end = cc

pub own_apart : (own : Own) (peer : ℕ) (command : Command) (source : ℕ) → configuration_by own peer ≡ Some command → IsEndOf command source → ⊥
own_apart Unasked peer command source is end = cc
own_apart (Asking request options) peer command source is (destination, end) = let never : configuration_request peer 0 _ ≡ disconnection_request destination source = ap (λ (c : Command). c.content) (some_is _ command is) ∙ end in cc
own_apart Granted peer command source is end = cc

pub options_apart : (stage : Stage) (command : Command) (source : ℕ) → configuration_at stage ≡ Some command → IsEndOf command source → ⊥
options_apart (Requested request) command source is end = cc
options_apart (Connected peer setup) command source is end = own_apart setup.own peer command source is end
options_apart (Leaving peer setup request) command source is end = own_apart setup.own peer command source is end
options_apart (Closing peer request checked) command source is end = cc
options_apart (Crossed peer request) command source is end = cc

pub features_apart : (features : Option Request) (command : Command) (source : ℕ) → features_command features ≡ Some command → IsEndOf command source → ⊥
features_apart None command source is end = cc
features_apart (Some request) command source is (destination, end) = let never : information_request 2 ≡ disconnection_request destination source = ap (λ (c : Command). c.content) (some_is _ command is) ∙ end in cc

pub asked_wants : (errand : Errand) (v : Channels) (command : Command) (source : ℕ) → command_of errand v ≡ Some command → IsEndOf command source → (own : ℕ) × (wants own v ≡ Some command)
asked_wants (errands.Connection own) v command source is end = absurd (by (held_at own v) is)
  where
    by : (held : Option Held) → on_held (λ h. connection_at h.stage h) held ≡ Some command → ⊥
    by None is = cc
    by (Some held) is = call_apart held held.stage command source is end
asked_wants (errands.Configuration own) v command source is end = absurd (by (held_at own v) is)
  where
    by : (held : Option Held) → on_held (λ h. configuration_at h.stage) held ≡ Some command → ⊥
    by None is = cc
    by (Some held) is = options_apart held.stage command source is end
asked_wants (errands.Disconnection own) v command source is end = (own, is)
asked_wants errands.Features v command source is end = absurd (features_apart v.features command source is end)

-- a request for an end that is given waits
pub given-wants : (v : Channels) → ((command : Command) → StandsIn (Answer command) v.queue → is_response command.content ≡ true) → (given : Given) (pdu : List ℕ) → next_given v ≡ Some given → IsReadAs (Some given) pdu
    → (command : Command) (source : ℕ) → Brings pdu command → IsEndOf command source → (own : ℕ) × (wants own v ≡ Some command)
given-wants v responses (Whole peer sdu) pdu given_is read command source (signals, is) end = let never : true ≡ false = sym signals ∙ read in absurd cc
given-wants v responses (Framed peer frame) pdu given_is read command source (signals, is) end = let never : true ≡ false = sym signals ∙ read in absurd cc
given-wants v responses (Signal other) pdu given_is read command source (signals, is) end = by v.queue refl (given_is ∙ ap (λ c. Some (Signal c)) same)
  where
    same : other ≡ command
    same = let both : Ok other ∷ [] ≡ Ok command ∷ [] = sym read ∙ is in cc

    asked : (errand : Errand) (found : Option Command) → command_of errand v ≡ found → option_map Signal found ≡ Some (Signal command) → (own : ℕ) × (wants own v ≡ Some command)
    asked errand None at gave = cc
    asked errand (Some one) at gave = let it : one ≡ command = cc in asked_wants errand v command source (at ∙ ap Some it) end

    answer : (one : Command) → one ≡ command → is_response one.content ≡ true → ⊥
    answer one it response = let never : false ≡ true = sym (ap is_response (ap (λ (c : Command). c.content) it ∙ end.1)) ∙ response in cc

    by : (queue : List Queued) → v.queue ≡ queue → queue_gives queue v ≡ Some (Signal command) → (own : ℕ) × (wants own v ≡ Some command)
    by [] at gave = absurd (no_signal (find gives v.held) command gave)
    by (Answer one ∷ behind) at gave = let it : one ≡ command = cc in absurd (answer one it (responses one (subst (StandsIn (Answer one)) (sym at) (inl refl))))
    by (Ask errand ∷ behind) at gave = asked errand (command_of errand v) refl gave

-- ---- a channel whose end was asked for

abbrev pub LeftEntry : Entry → Type 0
LeftEntry entry = entry.life ≡ lives.Alive → ⊥

abbrev pub OverEntry : Entry → Type 0
OverEntry entry = entry.life ≡ lives.Over

pub left_after : (life : Life) (said : Option Word) → (life ≡ lives.Alive → ⊥) → life_after life said ≡ lives.Alive → ⊥
left_after life None left is = left is
left_after lives.Alive (Some said) left is = left refl
left_after lives.Leaving (Some words.AsksEnd) left is = cc
left_after lives.Leaving (Some words.AnswersEnd) left is = cc
left_after lives.Leaving (Some words.EndAnswered) left is = cc
left_after lives.Leaving (Some words.EndForgone) left is = cc
left_after lives.Crossed (Some words.AsksEnd) left is = cc
left_after lives.Crossed (Some words.AnswersEnd) left is = cc
left_after lives.Crossed (Some words.EndAnswered) left is = cc
left_after lives.Crossed (Some words.EndForgone) left is = cc
left_after lives.Over (Some said) left is = cc

pub over_after : (life : Life) (said : Option Word) → life ≡ lives.Over → life_after life said ≡ lives.Over
over_after life None is = is
over_after lives.Alive (Some said) is = cc
over_after lives.Leaving (Some said) is = cc
over_after lives.Crossed (Some said) is = cc
over_after lives.Over (Some said) is = refl

pub left_by : (found : Option Entry) → end_waits found ≡ true → HoldsAt LeftEntry found
left_by None is = cc
left_by (Some entry) is = λ alive. let never : false ≡ true = sym (ap waits_for_end alive) ∙ is in absurd cc

pub over_by : (found : Option Entry) → HoldsAt LeftEntry found → end_waits found ≡ false → HoldsAt OverEntry found
over_by None left none = left
over_by (Some entry) left none = by entry.life refl
  where
    by : (life : Life) → entry.life ≡ life → entry.life ≡ lives.Over
    by lives.Alive is = absurd (left is)
    by lives.Leaving is = let never : true ≡ false = sym (ap waits_for_end is) ∙ none in absurd cc
    by lives.Crossed is = let never : true ≡ false = sym (ap waits_for_end is) ∙ none in absurd cc
    by lives.Over is = is

pub never_over : (found : Option Entry) → HoldsAt OverEntry found → end_waits found ≡ true → ⊥
never_over None over is = over
never_over (Some entry) over is = let never : false ≡ true = sym (ap waits_for_end over) ∙ is in cc

-- ---- one that is under way, or was answered

-- the channel is left by the side that asked; the identifier was given; no other request that waits has it or an earlier one; and the request of that channel is
-- this one, if it waits
pub record Good (said : List Saying) (v : Channels) (command : Command) (source : ℕ) : Type 0 where
  pub left : HoldsAt LeftEntry (read_at source (reading said).entries)
  pub below : command.identifier < v.identifier
  pub same : (own : ℕ) (other : Command) → wants own v ≡ Some other → other.identifier ≡ command.identifier → other ≡ command
  pub least : (own : ℕ) (other : Command) → wants own v ≡ Some other → command.identifier ≤ other.identifier
  pub its : (other : Command) → wants source v ≡ Some other → other ≡ command

-- what is read of the end of a channel is what waits
abbrev pub ReadsEnds : List Saying → Channels → Type 0
ReadsEnds said v = (own : ℕ) → end_waits (read_at own (reading said).entries) ≡ is_at asks_for_end (held_at own v)

-- so is one that waits
pub waiting-good : (said : List Saying) (v : Channels) (own source : ℕ) (command : Command) → ReadsEnds said v → AsksSingly v → wants own v ≡ Some command → IsEndOf command source → Good said v command source
waiting-good said v own source command reads singly is end = record {
  left = subst (λ n. HoldsAt LeftEntry (read_at n (reading said).entries)) here (left_by (read_at own (reading said).entries) (reads own ∙ want_asks own v command is));
  below = singly.names.below (errands.Disconnection own) command is;
  same = λ other one waits named. one_of other one waits (own_is (singly.names.apart (errands.Disconnection other) (errands.Disconnection own) one command waits is named));
  least = λ other one waits. let same = one_of other one waits (singly.single other own one command waits is) in omega (arith, ap (λ (c : Command). c.identifier) same);
  its = λ one waits. one_of source one waits (sym here);
}
  where
    here : own ≡ source
    here = let it = wanting own v command is in source_is command it.peer own source it.content_is end

    own_is : {a b : ℕ} → errands.Disconnection a ≡ errands.Disconnection b → a ≡ b
    own_is same = cc

    one_of : (other : ℕ) (one : Command) → wants other v ≡ Some one → other ≡ own → one ≡ command
    one_of other one waits same = some_is one command (sym waits ∙ (ap (λ n. wants n v) same ∙ is))

-- from one moment of the side that asks to the next
module _ (said more : List Saying) (v w : Channels) (before : ReadsEnds said v) (after : ReadsEnds (said ++ more) w) (on : AsksOn v w) where
  good_on : (command : Command) (source : ℕ) → Good said v command source → Good (said ++ more) w command source
  good_on command source good = record {
    left = more-holds LeftEntry (λ m entry left is. left_after entry.life (word entry.channel m) left is) source said more good.left;
    below = let rises = on.rises in let under = good.below in omega (arith, rises, under);
    same = λ own other waits named. same_by own other named (on.anew own other waits);
    least = λ own other waits. least_by own other (on.anew own other waits);
    its = λ other waits. its_by other waits (on.anew source other waits);
  }
    where
      same_by : (own : ℕ) (other : Command) → other.identifier ≡ command.identifier → (wants own v ≡ Some other) ⊎ ((wants own v ≡ None) × (v.identifier ≤ other.identifier)) → other ≡ command
      same_by own other named (inl was) = good.same own other was named
      same_by own other named (inr (none, high)) = let under = good.below in absurd (omega (arith, named, high, under))

      least_by : (own : ℕ) (other : Command) → (wants own v ≡ Some other) ⊎ ((wants own v ≡ None) × (v.identifier ≤ other.identifier)) → command.identifier ≤ other.identifier
      least_by own other (inl was) = good.least own other was
      least_by own other (inr (none, high)) = let under = good.below in omega (arith, high, under)

      its_by : (other : Command) → wants source w ≡ Some other → (wants source v ≡ Some other) ⊎ ((wants source v ≡ None) × (v.identifier ≤ other.identifier)) → other ≡ command
      its_by other waits (inl was) = good.its other was
      its_by other waits (inr (none, high)) =
          let over = over_by (read_at source (reading said).entries) good.left (before source ∙ none_asks source v none) in
          absurd (never_over (read_at source (reading (said ++ more)).entries) (more-holds OverEntry (λ m entry is. over_after entry.life (word entry.channel m) is) source said more over) (after source ∙ want_asks source w other waits))

-- ---- all of them

-- they are under way in the order of their identifiers
abbrev pub Ordered : List (List ℕ) → Type 0
Ordered [] = Unit {0}
Ordered (pdu ∷ coming) = ((one other : Command) (s t : ℕ) → Brings pdu one → IsEndOf one s → (next : List ℕ) → StandsIn next coming → Brings next other → IsEndOf other t → one.identifier ≤ other.identifier) × Ordered coming

pub ordered_more : (coming : List (List ℕ)) (pdu : List ℕ) → ((one other : Command) (s t : ℕ) (before : List ℕ) → StandsIn before coming → Brings before one → IsEndOf one s → Brings pdu other → IsEndOf other t → one.identifier ≤ other.identifier) → Ordered coming → Ordered (coming ++ pdu ∷ [])
ordered_more [] pdu last ordered = ((λ one other s t brings end next none. elim none [ ]), tt)
ordered_more (first ∷ coming) pdu last (now, later) = (
  (λ one other s t brings end next stands brought also. by one other s t brings end next brought also (stands-either next coming (pdu ∷ []) stands)),
  ordered_more coming pdu (λ one other s t before stands. last one other s t before (inr stands)) later,
)
  where
    by : (one other : Command) (s t : ℕ) → Brings first one → IsEndOf one s → (next : List ℕ) → Brings next other → IsEndOf other t → StandsIn next coming ⊎ StandsIn next (pdu ∷ []) → one.identifier ≤ other.identifier
    by one other s t brings end next brought also (inl old) = now one other s t brings end next old brought also
    by one other s t brings end next brought also (inr (inl same)) = last one other s t first (inl refl) brings end (subst (λ p. Brings p other) (sym same) brought) also
    by one other s t brings end next brought also (inr (inr none)) = elim none [ ]

pub record Inv (said : List Saying) (v : Channels) (theirs : List Saying) (memory : Option Remembered) (coming : List (List ℕ)) : Type 0 where
  pub plain : (pdu : List ℕ) → StandsIn pdu coming → eqb (channel_of pdu) 0x0001 ≡ true → (command : Command) × (answers (drop 4 pdu) ≡ Ok command ∷ [])
  pub good : (pdu : List ℕ) → StandsIn pdu coming → (command : Command) (source : ℕ) → Brings pdu command → IsEndOf command source → Good said v command source
  pub ordered : Ordered coming
  pub behind : (last : Remembered) → memory ≡ Some last → (pdu : List ℕ) → StandsIn pdu coming → (command : Command) (source : ℕ) → Brings pdu command → IsEndOf command source → last.identifier ≤ command.identifier
  pub answered : (identifier destination source : ℕ) → HasAnsweredEnd identifier destination source theirs → Good said v (end_request identifier destination source) source
  pub latest : (identifier destination source : ℕ) → HasAnsweredEnd identifier destination source theirs → (last : Remembered) × (memory ≡ Some last) × (identifier ≤ last.identifier)
  pub below : (last : Remembered) → memory ≡ Some last → last.identifier < v.identifier
  pub least : (last : Remembered) → memory ≡ Some last → (own : ℕ) (command : Command) → wants own v ≡ Some command → last.identifier ≤ command.identifier
  pub kept : (own : ℕ) (command : Command) → wants own v ≡ Some command → (last : Remembered) → memory ≡ Some last → last.identifier ≡ command.identifier → Recalls (errands.Disconnection own) last.response
  pub replied : (last : Remembered) (destination source : ℕ) → memory ≡ Some last → last.response ≡ Some (disconnection_response destination source) → Good said v (end_request last.identifier destination source) source

-- the side that asks goes on
pub owner-on : (said more : List Saying) (v w : Channels) (theirs : List Saying) (memory : Option Remembered) (coming : List (List ℕ)) → ReadsEnds said v → ReadsEnds (said ++ more) w → AsksOn v w → Inv said v theirs memory coming → Inv (said ++ more) w theirs memory coming
owner-on said more v w theirs memory coming before after on inv = record {
  plain = inv.plain;
  good = λ pdu stands command source brings end. good_on said more v w before after on command source (inv.good pdu stands command source brings end);
  ordered = inv.ordered;
  behind = inv.behind;
  answered = λ i d s is. good_on said more v w before after on (end_request i d s) s (inv.answered i d s is);
  latest = inv.latest;
  below = λ last at. let under = inv.below last at in let rises = on.rises in omega (arith, under, rises);
  least = λ last at own command waits. least last at own command (on.anew own command waits);
  kept = λ own command waits last at named. kept own command last at named (on.anew own command waits);
  replied = λ last d s at is. good_on said more v w before after on (end_request last.identifier d s) s (inv.replied last d s at is);
}
  where
    least : (last : Remembered) → memory ≡ Some last → (own : ℕ) (command : Command) → (wants own v ≡ Some command) ⊎ ((wants own v ≡ None) × (v.identifier ≤ command.identifier)) → last.identifier ≤ command.identifier
    least last at own command (inl was) = inv.least last at own command was
    least last at own command (inr (none, high)) = let under = inv.below last at in omega (arith, under, high)

    kept : (own : ℕ) (command : Command) (last : Remembered) → memory ≡ Some last → last.identifier ≡ command.identifier → (wants own v ≡ Some command) ⊎ ((wants own v ≡ None) × (v.identifier ≤ command.identifier)) → Recalls (errands.Disconnection own) last.response
    kept own command last at named (inl was) = inv.kept own command was last at named
    kept own command last at named (inr (none, high)) = let under = inv.below last at in absurd (omega (arith, named, high, under))

-- one more is under way
pub more-coming : (said : List Saying) (v : Channels) (theirs : List Saying) (memory : Option Remembered) (coming : List (List ℕ)) (pdu : List ℕ) → ReadsEnds said v → AsksSingly v
    → (eqb (channel_of pdu) 0x0001 ≡ true → (command : Command) × (answers (drop 4 pdu) ≡ Ok command ∷ [])) → ((command : Command) (source : ℕ) → Brings pdu command → IsEndOf command source → (own : ℕ) × (wants own v ≡ Some command))
    → Inv said v theirs memory coming → Inv said v theirs memory (coming ++ pdu ∷ [])
more-coming said v theirs memory coming pdu reads singly plain asks inv = record {
  plain = λ other stands. plain_by other (stands-either other coming (pdu ∷ []) stands);
  good = λ other stands command source brings end. good_by other command source brings end (stands-either other coming (pdu ∷ []) stands);
  ordered = ordered_more coming pdu (λ one other s t before stands brings end brought also. let (own, waits) = asks other t brought also in (inv.good before stands one s brings end).least own other waits) inv.ordered;
  behind = λ last at other stands command source brings end. behind_by last at other command source brings end (stands-either other coming (pdu ∷ []) stands);
  answered = inv.answered;
  latest = inv.latest;
  below = inv.below;
  least = inv.least;
  kept = inv.kept;
  replied = inv.replied;
}
  where
    plain_by : (other : List ℕ) → StandsIn other coming ⊎ StandsIn other (pdu ∷ []) → eqb (channel_of other) 0x0001 ≡ true → (command : Command) × (answers (drop 4 other) ≡ Ok command ∷ [])
    plain_by other (inl old) signals = inv.plain other old signals
    plain_by other (inr (inl same)) signals = subst (λ (p : List ℕ). eqb (channel_of p) 0x0001 ≡ true → (command : Command) × (answers (drop 4 p) ≡ Ok command ∷ [])) same plain signals
    plain_by other (inr (inr none)) signals = elim none [ ]

    good_by : (other : List ℕ) (command : Command) (source : ℕ) → Brings other command → IsEndOf command source → StandsIn other coming ⊎ StandsIn other (pdu ∷ []) → Good said v command source
    good_by other command source brings end (inl old) = inv.good other old command source brings end
    good_by other command source brings end (inr (inl same)) = let (own, waits) = asks command source (subst (λ p. Brings p command) (sym same) brings) end in waiting-good said v own source command reads singly waits end
    good_by other command source brings end (inr (inr none)) = elim none [ ]

    behind_by : (last : Remembered) → memory ≡ Some last → (other : List ℕ) (command : Command) (source : ℕ) → Brings other command → IsEndOf command source → StandsIn other coming ⊎ StandsIn other (pdu ∷ []) → last.identifier ≤ command.identifier
    behind_by last at other command source brings end (inl old) = inv.behind last at other old command source brings end
    behind_by last at other command source brings end (inr (inl same)) = let (own, waits) = asks command source (subst (λ p. Brings p command) (sym same) brings) end in inv.least last at own command waits
    behind_by last at other command source brings end (inr (inr none)) = elim none [ ]

-- the first is under way no more
pub fewer-come : (said : List Saying) (v : Channels) (theirs : List Saying) (memory : Option Remembered) (pdu : List ℕ) (coming : List (List ℕ)) → Inv said v theirs memory (pdu ∷ coming) → Inv said v theirs memory coming
fewer-come said v theirs memory pdu coming inv = record {
  plain = λ other stands. inv.plain other (inr stands);
  good = λ other stands. inv.good other (inr stands);
  ordered = inv.ordered.1;
  behind = λ last at other stands. inv.behind last at other (inr stands);
  answered = inv.answered;
  latest = inv.latest;
  below = inv.below;
  least = inv.least;
  kept = inv.kept;
  replied = inv.replied;
}

-- the other side goes on, and answers no end
pub quiet-on : (said : List Saying) (v : Channels) (theirs more : List Saying) (memory after : Option Remembered) (coming : List (List ℕ)) → after ≡ memory → Silent more → Inv said v theirs memory coming → Inv said v (theirs ++ more) after coming
quiet-on said v theirs more memory after coming same silent inv = subst (λ (m : Option Remembered). Inv said v (theirs ++ more) m coming) (sym same) (record {
  plain = inv.plain;
  good = inv.good;
  ordered = inv.ordered;
  behind = inv.behind;
  answered = λ i d s is. inv.answered i d s (before i d s (stands-either (spoken (command_with i (disconnection_response d s))) theirs more is));
  latest = λ i d s is. inv.latest i d s (before i d s (stands-either (spoken (command_with i (disconnection_response d s))) theirs more is));
  below = inv.below;
  least = inv.least;
  kept = inv.kept;
  replied = inv.replied;
})
  where
    before : (i d s : ℕ) → HasAnsweredEnd i d s theirs ⊎ HasAnsweredEnd i d s more → HasAnsweredEnd i d s theirs
    before i d s (inl old) = old
    before i d s (inr new) = absurd (silent i d s new)
