-- Each copy of a request for the end of a channel is responded to, where one waits at a time.
use Rattle.std.proofs.Common.{◌≡◌, ◌≤◌, arith, ℕ, List, [], ◌∷◌, ◌++◌, drop, Bool, true, false, cond, eqb, Option, Some, None, Ok, refl, sym, ap, subst, ◌∙◌, ◌⊎◌, inl, inr, append_assoc}
use Rattle.std.proofs.lemmas.Bool.{eqb-true}
use Rattle.std.proofs.lemmas.List.Sums.{fold-append}
use Rattle.channel_laws.specs.acl_fragments.specs.Pieces.{channel_of}
use Rattle.channel_laws.specs.capture.specs.Histories.{EachAfter}
use Rattle.channel_laws.specs.capture.proofs.HistoryLaws.{each_after-more}
use Rattle.channel_laws.specs.capture.specs.declared.flow.Flow.TheVariants.{Into}
use Rattle.channel_laws.specs.l2cap_signal.specs.Commands.{Content, Command, reject, connection_request, connection_response, configuration_request, configuration_response, disconnection_request, disconnection_response, echo_request, echo_response, information_request, information_response}
use Rattle.channel_laws.specs.l2cap_signal.specs.Reading.{answers}
use Rattle.channel_laws.specs.link_talk.specs.declared.channel.Channel.{Channel}
use Rattle.channel_laws.specs.link_talk.specs.declared.life.Life.TheVariants as lives
use Rattle.channel_laws.specs.link_talk.specs.Channels.{Entry, reading}
use Rattle.channel_laws.specs.link_talk.specs.Sayings.{Saying, Carried}
use Rattle.channel_laws.specs.channel_model.specs.declared.errand.Errand.TheVariants as errands
use Rattle.channel_laws.specs.channel_model.specs.Calls.{has_fcs}
use Rattle.channel_laws.specs.channel_model.specs.Carrying.{takes}
use Rattle.channel_laws.specs.channel_model.specs.Changing.{held_at, is_peer, has_room}
use Rattle.channel_laws.specs.channel_model.specs.Giving.{Given, Signal, Whole, Framed, disconnection_at, on_held, next_given}
use Rattle.channel_laws.specs.channel_model.specs.Hearing.{hears_command, hears_commands}
use Rattle.channel_laws.specs.channel_model.specs.Policies.{Policy}
use Rattle.channel_laws.specs.channel_model.specs.Value.{Request, Answer, Stage, Requested, Connected, Leaving, Closing, Crossed, Held, Remembered, Memory, Channels, no_channels}
use Rattle.channel_laws.specs.channel_model.proofs.Lookups.{eqb-same}
use Rattle.channel_laws.specs.Adverse.{asks_with, asks_for, IsRoomy}
use Rattle.channel_laws.specs.Awaited.{is_at, asks_for_end, end_waits}
use Rattle.channel_laws.specs.Belonging.{IsReadAs, IsRead, AreRead, said_at, HasAsked, HasGranted, Belongs}
use Rattle.channel_laws.specs.Ends.{end_at}
use Rattle.channel_laws.specs.Granted.{IsFor}
use Rattle.channel_laws.specs.Heeded.{IsResponse, RespondsTo, IsMetBy}
use Rattle.channel_laws.specs.Modes.{policy_of}
use Rattle.channel_laws.specs.OwnTalk.{spoken, command_with, reply_to, asked_between, said_with_all}
use Rattle.channel_laws.specs.Pairs.{End, Pair, new_pair, Happening, Acts, Puts, Takes, Repeats, Loses, Damages, is_alone, occurs, with_near, put, puts, let_go, takes_first, repeats_first, loses_first, damages_first, happens_near, Side, Near, Far, turned, Turn, pair_after, pair_of, IsRunOf}
use Rattle.channel_laws.specs.Responding.{Recalls, RecalledOr, IsRecalledOr, HasPeer, CanRespond, CopiesHaveResponses}
use Rattle.channel_laws.specs.Runs.{Occurrence, Comes, Connects, AsksFeatures, Disconnects, Sends, Gives, Fires, Tells, said_in, value_after, Run}
use Rattle.channel_laws.specs.Signals.{StandsIn}
use Rattle.channel_laws.specs.Tries.{for_end, request_at, request_of}
use Rattle.channel_laws.specs.Views.{IsRead as IsReadAt, IsReadBy, peer_of, read_at}
use Rattle.channel_laws.proofs.Awaiting.{requests-are_awaited}
use Rattle.channel_laws.proofs.Belonging.{channels-belong}
use Rattle.channel_laws.proofs.Bestowing.{endpoints-are_granted_once}
use Rattle.channel_laws.proofs.Both.{and-left, and-right}
use Rattle.channel_laws.proofs.Pairing.{each-end_runs, end-policy}
use Rattle.channel_laws.proofs.Replying.{is_response}
use Rattle.channel_laws.proofs.Running.{all-sound, channels-are_read}
use Rattle.channel_laws.proofs.Saying.{stands-left, answers-are_responses}
use Rattle.channel_laws.proofs.Sharing.{said-grows, near_grows}
use Rattle.channel_laws.proofs.Sound.{Sound}
use Rattle.disconnection_laws.specs.Ended.{HasAnsweredEnd}
use Rattle.disconnection_laws.specs.Met.{AskedForNothing, AsksSingly, AsksOn, EndsAreMet}
use Rattle.disconnection_laws.specs.Waits.{IsAnsweredBy, EndsAreAnswered}
use Rattle.disconnection_laws.proofs.Ending.{BringsNone, silent-occurs}
use Rattle.disconnection_laws.proofs.Parting.{all-alive}
use Rattle.disconnection_laws.proofs.Singly.{wants, IsEndOf, end_request, Brings, Wanting, wanting, given-wants, ReadsEnds, Inv, owner-on, more-coming, fewer-come, quiet-on}
use Rattle.disconnection_laws.proofs.Waiting.{Read, own-of_read, their-run, read-here}
use Rattle.disconnection_laws.proofs.Remembering.{Theres, First, hears-on}

-- ---- each turn

abbrev pub InvOf : Pair → Type 0
InvOf pair = Inv pair.near.run.said pair.near.run.value pair.far.run.said pair.far.run.value.memory.disconnection pair.far.coming

pub reads_ends : (policy : Policy) (run : Run) → IsRunOf policy run → ReadsEnds run.said run.value
reads_ends policy run (list, is) own = subst (λ (r : Run). end_waits (read_at own (reading r.said).entries) ≡ is_at asks_for_end (held_at own r.value)) (sym is) (requests-are_awaited policy list own).end_is

-- what is known of the side that asks, and of what happens there
pub record Owner (policy : Policy) (before after : Pair) : Type 0 where
  pub was : IsRunOf policy before.near.run
  pub is : IsRunOf policy after.near.run
  pub singly : AsksSingly before.near.run.value
  pub on : AsksOn before.near.run.value after.near.run.value
  pub more : List Saying
  pub grown : after.near.run.said ≡ before.near.run.said ++ more

pub goes_on : (policy : Policy) (before after : Pair) (coming : List (List ℕ)) → Owner policy before after
    → Inv before.near.run.said before.near.run.value before.far.run.said before.far.run.value.memory.disconnection coming → Inv after.near.run.said after.near.run.value before.far.run.said before.far.run.value.memory.disconnection coming
goes_on policy before after coming owner inv =
    let now : ReadsEnds (before.near.run.said ++ owner.more) after.near.run.value = subst (λ (s : List Saying). ReadsEnds s after.near.run.value) owner.grown (reads_ends policy after.near.run owner.is) in
    subst (λ (s : List Saying). Inv s after.near.run.value before.far.run.said before.far.run.value.memory.disconnection coming) (sym owner.grown)
    (owner-on before.near.run.said owner.more before.near.run.value after.near.run.value before.far.run.said before.far.run.value.memory.disconnection coming (reads_ends policy before.near.run owner.was) now owner.on inv)

pub still_far : (policy : Policy) (before after : Pair) → after.far ≡ before.far → Owner policy before after → InvOf before → InvOf after
still_far policy before after same owner inv =
    subst (λ (e : End). Inv after.near.run.said after.near.run.value e.run.said e.run.value.memory.disconnection e.coming) (sym same) (goes_on policy before after before.far.coming owner inv)

-- the octets of what is given are read so
pub plain_given : (given : Given) (pdu : List ℕ) → IsReadAs (Some given) pdu → eqb (channel_of pdu) 0x0001 ≡ true → (command : Command) × (answers (drop 4 pdu) ≡ Ok command ∷ [])
plain_given (Signal command) pdu read signals = (command, read)
plain_given (Whole peer sdu) pdu read signals = let never : true ≡ false = sym signals ∙ read in absurd cc
plain_given (Framed peer frame) pdu read signals = let never : true ≡ false = sym signals ∙ read in absurd cc

pub owner_turn : (policy : Policy) (pair : Pair) (happening : Happening) → IsRead happening pair.near → Owner policy pair (happens_near happening pair) → InvOf pair → InvOf (happens_near happening pair)
owner_turn policy pair (Acts more) read owner inv = by (is_alone more) owner
  where
    by : (alone : Bool) → (let after : Pair = cond alone (with_near (occurs more pair.near) pair) pair in Owner policy pair after → InvOf after)
    by true owner = still_far policy pair (with_near (occurs more pair.near) pair) refl owner inv
    by false owner = inv
owner_turn policy pair (Puts pdu) read owner inv = by (next_given pair.near.run.value) refl read owner
  where
    responses : IsRunOf policy pair.near.run → (command : Command) → StandsIn (Answer command) pair.near.run.value.queue → is_response command.content ≡ true
    responses (list, is) command stands = answers-are_responses policy list command (subst (λ (r : Run). StandsIn (Answer command) r.value.queue) is stands)

    by : (given : Option Given) → next_given pair.near.run.value ≡ given → IsReadAs given pdu → Owner policy pair (puts given pdu pair) → InvOf (puts given pdu pair)
    by None is read owner = inv
    by (Some given) is read owner =
        goes_on policy pair (put pdu pair) (pair.far.coming ++ pdu ∷ []) owner
        (more-coming pair.near.run.said pair.near.run.value pair.far.run.said pair.far.run.value.memory.disconnection pair.far.coming pdu (reads_ends policy pair.near.run owner.was) owner.singly (plain_given given pdu read)
        (given-wants pair.near.run.value (responses owner.was) given pdu is read) inv)
owner_turn policy pair Takes read owner inv = still_far policy pair (happens_near Takes pair) refl owner inv
owner_turn policy pair Repeats read owner inv = still_far policy pair (happens_near Repeats pair) refl owner inv
owner_turn policy pair Loses read owner inv = still_far policy pair (happens_near Loses pair) refl owner inv
owner_turn policy pair (Damages other) read owner inv = still_far policy pair (happens_near (Damages other) pair) refl owner inv

-- at the side that responds
pub alone_brings : (more : Occurrence) → is_alone more ≡ true → BringsNone more
alone_brings (Comes pdu) alone = cc
alone_brings (Connects psm) alone = tt
alone_brings AsksFeatures alone = tt
alone_brings (Disconnects own) alone = tt
alone_brings (Sends own sdu) alone = tt
alone_brings (Gives pdu) alone = cc
alone_brings Fires alone = tt
alone_brings Tells alone = tt

-- at the side that responds, with what is under way to it
abbrev pub InvWith : List Saying → Channels → End → List (List ℕ) → Type 0
InvWith said v e coming = Inv said v e.run.said e.run.value.memory.disconnection coming

module _ (said : List Saying) (v : Channels) (end' : End) (sound : Sound end'.policy (reading end'.run.said) end'.run.value) (there : Theres v end'.run.value.memory.disconnection end'.run.value) where
  quietly : (coming : List (List ℕ)) (more : Occurrence) → BringsNone more → InvWith said v end' coming → InvWith said v (occurs more end') coming
  quietly coming more none inv = let so = silent-occurs end'.policy more end'.run.value none in quiet-on said v end'.run.said (said_in end'.policy more end'.run.value) end'.run.value.memory.disconnection (value_after end'.policy more end'.run.value).memory.disconnection coming (ap (λ (m : Memory). m.disconnection) so.0) so.1 inv

  -- a PDU that was under way comes in
  comes : (rest : List (List ℕ)) (pdu : List ℕ) → (eqb (channel_of pdu) 0x0001 ≡ true → (command : Command) × (answers (drop 4 pdu) ≡ Ok command ∷ [])) → ((command : Command) → Brings pdu command → First said v end'.run.value.memory.disconnection rest command)
      → InvWith said v end' rest → InvWith said v (occurs (Comes pdu) end') rest
  comes rest pdu plain first inv = by (eqb (channel_of pdu) 0x0001) refl
    where
      u : Channels
      u = end'.run.value

      by : (signals : Bool) → eqb (channel_of pdu) 0x0001 ≡ signals → InvWith said v (occurs (Comes pdu) end') rest
      by false is = quietly rest (Comes pdu) is inv
      by true is =
          let (command, read) = plain is in
          let said_is : said_in end'.policy (Comes pdu) u ≡ said_with_all end'.policy (Ok command ∷ []) u =
          ap (λ (b : Bool). cond b (said_with_all end'.policy (answers (drop 4 pdu)) u) (Carried Into pdu ∷ asked_between u (takes (channel_of pdu) pdu u))) is ∙ ap (λ list. said_with_all end'.policy list u) read in
          let value_is : value_after end'.policy (Comes pdu) u ≡ hears_command end'.policy (Ok command) u =
          ap (λ (b : Bool). cond b (hears_commands end'.policy (answers (drop 4 pdu)) u) (takes (channel_of pdu) pdu u)) is ∙ ap (λ list. hears_commands end'.policy list u) read in
          subst (λ (s : List Saying). Inv said v (end'.run.said ++ s) (value_after end'.policy (Comes pdu) u).memory.disconnection rest) (sym said_is)
          (subst (λ (x : Channels). Inv said v (end'.run.said ++ said_with_all end'.policy (Ok command ∷ []) u) x.memory.disconnection rest) (sym value_is)
          (hears-on end'.policy said v end'.run.said u rest command sound (first command (is, read)) there inv))

  -- of the first of what is under way
  first_of : (pdu : List ℕ) (rest : List (List ℕ)) → InvWith said v end' (pdu ∷ rest) → (command : Command) → Brings pdu command → First said v end'.run.value.memory.disconnection rest command
  first_of pdu rest inv command brings = record {
    good = λ source end. inv.good pdu (inl refl) command source brings end;
    front = λ source end next stands other t brought also. inv.ordered.0 command other source t brings end next stands brought also;
    behind = λ last at source end. inv.behind last at pdu (inl refl) command source brings end;
  }

  -- and where it stays
  first_stays : (pdu : List ℕ) (rest : List (List ℕ)) → InvWith said v end' (pdu ∷ rest) → (command : Command) → Brings pdu command → First said v end'.run.value.memory.disconnection (pdu ∷ rest) command
  first_stays pdu rest inv command brings = record { good = now.good; front = λ source end next stands other t brought also. front source end next stands other t brought also; behind = now.behind }
    where
      now : First said v end'.run.value.memory.disconnection rest command
      now = first_of pdu rest inv command brings

      front : (source : ℕ) → IsEndOf command source → (next : List ℕ) → StandsIn next (pdu ∷ rest) → (other : Command) (t : ℕ) → Brings next other → IsEndOf other t → command.identifier ≤ other.identifier
      front source end next (inl same) other t brought also =
          let read : answers (drop 4 pdu) ≡ Ok other ∷ [] = subst (λ (p : List ℕ). answers (drop 4 p) ≡ Ok other ∷ []) (sym same) brought.1 in
          let both : Ok command ∷ [] ≡ Ok other ∷ [] = sym brings.1 ∙ read in
          let it : command ≡ other = cc in
          omega (arith, ap (λ (c : Command). c.identifier) it)
      front source end next (inr later) other t brought also = now.front source end next later other t brought also

pub peer_turn : (said : List Saying) (v : Channels) (pair : Pair) (happening : Happening) → IsRead happening pair.near → Sound pair.near.policy (reading pair.near.run.said) pair.near.run.value → Theres v pair.near.run.value.memory.disconnection pair.near.run.value
    → InvWith said v pair.near pair.near.coming → (let after : Pair = happens_near happening pair in InvWith said v after.near after.near.coming)
peer_turn said v pair (Acts more) read sound there inv = by (is_alone more) refl
  where
    by : (alone : Bool) → is_alone more ≡ alone → (let after : Pair = cond alone (with_near (occurs more pair.near) pair) pair in InvWith said v after.near after.near.coming)
    by true alone = quietly said v pair.near sound there pair.near.coming more (alone_brings more alone) inv
    by false alone = inv
peer_turn said v pair (Puts pdu) read sound there inv = by (next_given pair.near.run.value)
  where
    by : (given : Option Given) → (let after : Pair = puts given pdu pair in InvWith said v after.near after.near.coming)
    by None = inv
    by (Some given) = quietly said v pair.near sound there pair.near.coming (Gives pdu) tt inv
peer_turn said v pair Takes read sound there inv = by pair.near.coming refl
  where
    by : (coming : List (List ℕ)) → pair.near.coming ≡ coming → InvWith said v (takes_first coming pair.near) (takes_first coming pair.near).coming
    by [] is = inv
    by (pdu ∷ rest) is =
        let here : InvWith said v pair.near (pdu ∷ rest) = subst (InvWith said v pair.near) is inv in
        comes said v (let_go rest pair.near) sound there rest pdu (here.plain pdu (inl refl)) (first_of said v pair.near sound there pdu rest here) (fewer-come said v pair.near.run.said pair.near.run.value.memory.disconnection pdu rest here)
peer_turn said v pair Repeats read sound there inv = by pair.near.coming refl
  where
    by : (coming : List (List ℕ)) → pair.near.coming ≡ coming → InvWith said v (repeats_first coming pair.near) (repeats_first coming pair.near).coming
    by [] is = inv
    by (pdu ∷ rest) is =
        let here : InvWith said v pair.near (pdu ∷ rest) = subst (InvWith said v pair.near) is inv in
        subst (InvWith said v (occurs (Comes pdu) pair.near)) (sym is) (comes said v pair.near sound there (pdu ∷ rest) pdu (here.plain pdu (inl refl)) (first_stays said v pair.near sound there pdu rest here) here)
peer_turn said v pair Loses read sound there inv = by pair.near.coming refl
  where
    by : (coming : List (List ℕ)) → pair.near.coming ≡ coming → InvWith said v (loses_first coming pair.near) (loses_first coming pair.near).coming
    by [] is = inv
    by (pdu ∷ rest) is = fewer-come said v pair.near.run.said pair.near.run.value.memory.disconnection pdu rest (subst (InvWith said v pair.near) is inv)
peer_turn said v pair (Damages other) read sound there inv = by pair.near.coming refl
  where
    by : (coming : List (List ℕ)) → pair.near.coming ≡ coming → InvWith said v (damages_first other coming pair.near) (damages_first other coming pair.near).coming
    by [] is = inv
    by (pdu ∷ rest) is = at (has_fcs (channel_of pdu) pair.near.run.value)
      where
        left : InvWith said v (let_go rest pair.near) rest
        left = fewer-come said v pair.near.run.said pair.near.run.value.memory.disconnection pdu rest (subst (InvWith said v pair.near) is inv)

        at : (checked : Bool) → (let e : End = cond checked (occurs (Comes other) (let_go rest pair.near)) (let_go rest pair.near) in InvWith said v e e.coming)
        at true = quietly said v (let_go rest pair.near) sound there rest (Comes other) read left
        at false = left

-- ---- the channel is there

module _ (near far : Policy) (past : List Turn) (read : AreRead near far past) (side : Side) where
  abbrev pair : Pair
  pair = pair_of near far past

  abbrev me : End
  me = end_at side pair

  abbrev they : End
  they = end_at side (turned pair)

  abbrev InvAt : Type 0
  InvAt = Inv me.run.said me.run.value they.run.said they.run.value.memory.disconnection they.coming

  -- what is granted to an endpoint of this side is read at the other
  granted_there : (identifier status own peer : ℕ) → HasGranted identifier status peer own they.run.said → IsFor own (read_at peer (reading they.run.said).entries)
  granted_there identifier status own peer granted =
      let (list, is) = their-run near far past read side in
      subst (λ (run : Run). IsFor own (read_at peer (reading run.said).entries)) (sym is) (endpoints-are_granted_once (policy_of side far near) list identifier status peer own (subst (λ (run : Run). HasGranted identifier status peer own run.said) is granted)).0

  read_there : (peer : ℕ) → IsReadAt (policy_of side far near) (held_at peer they.run.value) (read_at peer (reading they.run.said).entries)
  read_there peer =
      let (list, is) = their-run near far past read side in
      subst (λ (run : Run). IsReadAt (policy_of side far near) (held_at peer run.value) (read_at peer (reading run.said).entries)) (sym is) (channels-are_read (policy_of side far near) list peer)

  there : AskedForNothing they.run.said → InvAt → Theres me.run.value they.run.value.memory.disconnection they.run.value
  there nothing inv own other waits apart destination content_is = by (held_at destination they.run.value) refl (read_at destination (reading they.run.said).entries) refl (read_there destination) for_me
    where
      request : Wanting own me.run.value other
      request = wanting own me.run.value other waits

      same : request.peer ≡ destination
      same = let both : disconnection_request request.peer own ≡ disconnection_request destination own = sym request.content_is ∙ content_is in cc

      one : Read own destination (read_at own (reading me.run.said).entries)
      one = read-here near far past read side own destination request.held request.found (request.to ∙ ap Some same)

      for_me : IsFor own (read_at destination (reading they.run.said).entries)
      for_me = belongs (channels-belong near far past read side own one.entry one.is)
        where
          belongs : Belongs me.run.said they.run.said one.entry.channel → IsFor own (read_at destination (reading they.run.said).entries)
          belongs (i, s, inl (granted, asked)) = absurd (nothing.no_channel i one.entry.channel.psm one.entry.channel.peer asked)
          belongs (i, s, inr (asked, granted)) = granted_there i s own destination (subst (λ n. HasGranted i s n own they.run.said) one.peer_is (subst (λ n. HasGranted i s one.entry.channel.peer n they.run.said) one.own_is granted))

      named : (held : Held) (stage : Stage) (peer : ℕ) → peer_of stage ≡ Some peer → peer ≡ own → is_peer own stage ≡ true
      named held (Requested waiting) peer to mine = cc
      named held (Connected endpoint setup) peer to mine = let it : endpoint ≡ own = let e : endpoint ≡ peer = cc in e ∙ mine in ap (eqb own) it ∙ eqb-same own
      named held (Leaving endpoint setup waiting) peer to mine = let it : endpoint ≡ own = let e : endpoint ≡ peer = cc in e ∙ mine in ap (eqb own) it ∙ eqb-same own
      named held (Closing endpoint waiting checked) peer to mine = let it : endpoint ≡ own = let e : endpoint ≡ peer = cc in e ∙ mine in ap (eqb own) it ∙ eqb-same own
      named held (Crossed endpoint waiting) peer to mine = let it : endpoint ≡ own = let e : endpoint ≡ peer = cc in e ∙ mine in ap (eqb own) it ∙ eqb-same own

      staged : (held : Held) (entry : Entry) (peer : Option ℕ) → peer_of held.stage ≡ peer → IsReadBy (policy_of side far near) held peer (Some entry) → entry.channel.peer ≡ own → is_peer own held.stage ≡ true
      staged held entry None to reads mine = elim reads [ ]
      staged held entry (Some peer) to reads mine = named held held.stage peer to (sym (ap (λ (c : Channel). c.peer) reads.0.channel_is) ∙ mine)

      -- it has not ended, since the answer to that would be the last one that is remembered
      ended : (entry : Entry) → read_at destination (reading they.run.said).entries ≡ Some entry → entry.channel.peer ≡ own → entry.life ≡ lives.Over → ⊥
      ended entry found mine over = alive (all-alive they.run.said nothing.no_end destination entry found)
        where
          alive : (entry.life ≡ lives.Alive) ⊎ ((identifier : ℕ) × HasAnsweredEnd identifier entry.channel.own entry.channel.peer they.run.said) → ⊥
          alive (inl is) = let never : lives.Alive ≡ lives.Over = sym is ∙ over in cc
          alive (inr (identifier, is)) =
              let answered : HasAnsweredEnd identifier destination own they.run.said = subst (λ n. HasAnsweredEnd identifier n own they.run.said) (own-of_read destination (reading they.run.said).entries entry found) (subst (λ n. HasAnsweredEnd identifier entry.channel.own n they.run.said) mine is) in
              let it : other ≡ end_request identifier destination own = (inv.answered identifier destination own answered).its other waits in
              let (last, at, few) = inv.latest identifier destination own answered in
              let most = inv.least last at own other waits in
              apart last at (omega (arith, ap (λ (c : Command). c.identifier) it, few, most))

      by : (held : Option Held) → held_at destination they.run.value ≡ held → (found : Option Entry) → read_at destination (reading they.run.said).entries ≡ found → IsReadAt (policy_of side far near) held found → IsFor own found → HasPeer own held
      by held at None is reads mine = elim mine [ ]
      by None at (Some entry) is reads mine = absurd (ended entry is mine reads)
      by (Some held) at (Some entry) is reads mine = staged held entry (peer_of held.stage) refl reads mine

-- ---- a copy that comes in

-- the command of a request that waits
pub wants_request : (own : ℕ) (v : Channels) (request : Request) → request_of (errands.Disconnection own) v ≡ Some request → (command : Command) × (wants own v ≡ Some command) × (command.identifier ≡ request.identifier)
wants_request own v request = by (held_at own v)
  where
    some_is : (one : Request) → Some one ≡ Some request → one ≡ request
    some_is one is = cc

    staged : (held : Held) (stage : Stage) → for_end stage ≡ Some request → (command : Command) × (disconnection_at stage held ≡ Some command) × (command.identifier ≡ request.identifier)
    staged held (Requested one) is = cc
    staged held (Connected peer setup) is = cc
    staged held (Leaving peer setup one) is = (command_with one.identifier (disconnection_request peer held.own), refl, ap (λ (r : Request). r.identifier) (some_is one is))
    staged held (Closing peer one checked) is = (command_with one.identifier (disconnection_request peer held.own), refl, ap (λ (r : Request). r.identifier) (some_is one is))
    staged held (Crossed peer one) is = (command_with one.identifier (disconnection_request peer held.own), refl, ap (λ (r : Request). r.identifier) (some_is one is))

    by : (held : Option Held) → request_at for_end held ≡ Some request → (command : Command) × (on_held (λ h. disconnection_at h.stage h) held ≡ Some command) × (command.identifier ≡ request.identifier)
    by None is = cc
    by (Some held) is = staged held held.stage is

module _ (responses : CopiesHaveResponses) where
  responds : (own : ℕ) (pair : Pair) (coming : List (List ℕ)) → Inv pair.near.run.said pair.near.run.value pair.far.run.said pair.far.run.value.memory.disconnection coming → Theres pair.near.run.value pair.far.run.value.memory.disconnection pair.far.run.value
      → has_room pair.far.run.value ≡ true → RespondsTo (errands.Disconnection own) coming pair
  responds own pair [] inv there room = tt
  responds own pair (pdu ∷ coming) inv there room = λ command request signals is_read waits asks. responds_to command request signals is_read waits asks
    where
      u : Channels
      u = pair.far.run.value

      responds_to : (command : Command) (request : Request) → eqb (channel_of pdu) 0x0001 ≡ true → answers (drop 4 pdu) ≡ Ok command ∷ [] → request_of (errands.Disconnection own) pair.near.run.value ≡ Some request → asks_for (errands.Disconnection own) request.identifier command ≡ true
          → IsResponse (errands.Disconnection own) request.identifier (reply_to pair.far.policy (Ok command) u) u
      responds_to command request signals is_read waits asks = responses pair.far.policy u (errands.Disconnection own) request.identifier command asks (can command.content refl (and-right (eqb command.identifier request.identifier) (asks_with (errands.Disconnection own) command.content) asks)) room
        where
          named : command.identifier ≡ request.identifier
          named = eqb-true command.identifier request.identifier (and-left (eqb command.identifier request.identifier) (asks_with (errands.Disconnection own) command.content) asks)

          recalls : (destination : ℕ) → command.content ≡ disconnection_request destination own → (last : Option Remembered) → u.memory.disconnection ≡ last → IsRecalledOr (errands.Disconnection own) last command.identifier (HasPeer own (held_at destination u))
          recalls destination is last at = by last at
            where
              wanted : (one : Command) × (wants own pair.near.run.value ≡ Some one) × (one.identifier ≡ request.identifier)
              wanted = wants_request own pair.near.run.value request waits

              it : wanted.0 ≡ command
              it = (inv.good pdu (inl refl) command own (signals, is_read) (destination, is)).same own wanted.0 wanted.1 (wanted.2 ∙ sym named)

              has : ((last : Remembered) → u.memory.disconnection ≡ Some last → last.identifier ≡ command.identifier → ⊥) → HasPeer own (held_at destination u)
              has apart = there own wanted.0 wanted.1 (λ last there same. apart last there (same ∙ ap (λ (c : Command). c.identifier) it)) destination (ap (λ (c : Command). c.content) it ∙ is)

              by : (last : Option Remembered) → u.memory.disconnection ≡ last → IsRecalledOr (errands.Disconnection own) last command.identifier (HasPeer own (held_at destination u))
              by None at = has (λ last there same. let never : None ≡ Some last = sym at ∙ there in cc)
              by (Some last) at = either (eqb last.identifier command.identifier) refl
                where
                  either : (same : Bool) → eqb last.identifier command.identifier ≡ same → RecalledOr same (Recalls (errands.Disconnection own) last.response) (HasPeer own (held_at destination u))
                  either true same = inv.kept own wanted.0 wanted.1 last at (eqb-true last.identifier command.identifier same ∙ sym (ap (λ (c : Command). c.identifier) it))
                  either false not = has (λ other there same.
                      let both : Some last ≡ Some other = sym at ∙ there in
                      let one : last ≡ other = cc in
                      let never : true ≡ false = sym (eqb-same command.identifier) ∙ (ap (λ n. eqb n command.identifier) (sym (ap (λ (l : Remembered). l.identifier) one ∙ same)) ∙ not) in cc)

          can : (content : Content) → command.content ≡ content → asks_with (errands.Disconnection own) content ≡ true → CanRespond (errands.Disconnection own) command.identifier content u
          can (disconnection_request destination source) is so =
              let mine : source ≡ own = eqb-true source own so in recalls destination (is ∙ ap (disconnection_request destination) mine) u.memory.disconnection refl
          can (reject reason rest) is so = tt
          can (connection_request psm source) is so = tt
          can (connection_response destination source answer status) is so = tt
          can (configuration_request destination flags options) is so = tt
          can (configuration_response source flags answer options) is so = tt
          can (disconnection_response destination source) is so = tt
          can (echo_request octets) is so = tt
          can (echo_response octets) is so = tt
          can (information_request kind) is so = tt
          can (information_response kind answer rest) is so = tt

-- ---- all turns

-- each copy that comes first to the other side is responded to
abbrev pub RespondsFirst : (own : ℕ) (owner at : Side) → Pair → Type 0
RespondsFirst own Near Near pair = Unit {0}
RespondsFirst own Near Far pair = RespondsTo (errands.Disconnection own) pair.far.coming pair
RespondsFirst own Far Near pair = RespondsTo (errands.Disconnection own) pair.near.coming (turned pair)
RespondsFirst own Far Far pair = Unit {0}

abbrev pub RespondsAt : (own : ℕ) (owner at : Side) → Happening → Pair → Type 0
RespondsAt own owner at (Acts more) pair = Unit {0}
RespondsAt own owner at (Puts pdu) pair = Unit {0}
RespondsAt own owner at Takes pair = RespondsFirst own owner at pair
RespondsAt own owner at Repeats pair = Unit {0}
RespondsAt own owner at Loses pair = Unit {0}
RespondsAt own owner at (Damages other) pair = Unit {0}

pub both_met : (own : ℕ) (owner at : Side) (happening : Happening) (pair : Pair) → RespondsAt own owner at happening pair → IsAnsweredBy (errands.Disconnection own) owner at happening pair → IsMetBy (errands.Disconnection own) owner at happening pair
both_met own owner at (Acts more) pair copy response = tt
both_met own owner at (Puts pdu) pair copy response = tt
both_met own Near Near Takes pair copy response = response
both_met own Near Far Takes pair copy response = copy
both_met own Far Near Takes pair copy response = copy
both_met own Far Far Takes pair copy response = response
both_met own owner at Repeats pair copy response = tt
both_met own owner at Loses pair copy response = tt
both_met own owner at (Damages pdu) pair copy response = tt

abbrev pub ReadBehind : (near far : Policy) → List Turn → Turn → Type 0
ReadBehind near far front turn = IsRead turn.happening (end_at turn.side (pair_of near far front))

abbrev pub AskBehind : Side → (near far : Policy) → List Turn → Turn → Type 0
AskBehind side near far front turn = AsksSingly (end_at side (pair_of near far front)).run.value × AsksOn (end_at side (pair_of near far front)).run.value (end_at side (pair_after (pair_of near far front) turn)).run.value

abbrev pub RoomyBehind : (near far : Policy) → List Turn → Turn → Type 0
RoomyBehind near far front turn = IsRoomy turn.happening (end_at turn.side (pair_of near far front))

abbrev pub InvSeen : Side → Pair → Type 0
InvSeen Near pair = InvOf pair
InvSeen Far pair = InvOf (turned pair)

-- what was so far of the talk of the other side
abbrev pub Kept : Side → Pair → Type 0
Kept side pair = AskedForNothing (said_at side (turned pair))

pub fewer_asked : (said more all : List Saying) → all ≡ said ++ more → AskedForNothing all → AskedForNothing said
fewer_asked said more all grown nothing = record {
  no_channel = λ i psm own asked. nothing.no_channel i psm own (subst (HasAsked i psm own) (sym grown) (stands-left _ said more asked));
  no_end = λ i own peer asked. nothing.no_end i own peer (subst (StandsIn (spoken (command_with i (disconnection_request peer own)))) (sym grown) (stands-left _ said more asked));
}

pub kept_before : (near far : Policy) (side : Side) (past rest : List Turn) → Kept side (pair_of near far (past ++ rest)) → Kept side (pair_of near far past)
kept_before near far Near past rest nothing = let (more, grown) = said-grows near far Far past rest in fewer_asked _ more _ grown nothing
kept_before near far Far past rest nothing = let (more, grown) = said-grows near far Near past rest in fewer_asked _ more _ grown nothing

pub sound_at : (near far : Policy) (past : List Turn) (at : Side) → (let e : End = end_at at (pair_of near far past) in Sound e.policy (reading e.run.said) e.run.value)
sound_at near far past Near =
    let (list, is) = (each-end_runs near far past).0 in
    subst (λ (p : Policy). Sound p (reading (pair_of near far past).near.run.said) (pair_of near far past).near.run.value) (sym (end-policy near far past Near))
    (subst (λ (r : Run). Sound near (reading r.said) r.value) (sym is) (all-sound near list))
sound_at near far past Far =
    let (list, is) = (each-end_runs near far past).1 in
    subst (λ (p : Policy). Sound p (reading (pair_of near far past).far.run.said) (pair_of near far past).far.run.value) (sym (end-policy near far past Far))
    (subst (λ (r : Run). Sound far (reading r.said) r.value) (sym is) (all-sound far list))

pub nothing_yet : Inv [] no_channels [] None []
nothing_yet = record {
  plain = λ pdu none. elim none [ ];
  good = λ pdu none. elim none [ ];
  ordered = tt;
  behind = λ last at. cc;
  answered = λ i d s is. elim is [ ];
  latest = λ i d s is. elim is [ ];
  below = λ last at. cc;
  least = λ last at own command waits. cc;
  kept = λ own command waits last at named. cc;
  replied = λ last d s at is. cc;
}

module _ (responses : CopiesHaveResponses) (near far : Policy) (own : ℕ) where
  -- what is known of the side that asks, from one moment to the next
  owner_near : (past : List Turn) (turn : Turn) → AskBehind Near near far past turn → Owner near (pair_of near far past) (pair_after (pair_of near far past) turn)
  owner_near past turn asks =
      let next_is : pair_of near far (past ++ turn ∷ []) ≡ pair_after (pair_of near far past) turn = fold-append pair_after (new_pair near far) past (turn ∷ []) in
      let (more, grown) = said-grows near far Near past (turn ∷ []) in
      record {
        was = (each-end_runs near far past).0;
        is = subst (λ (p : Pair). IsRunOf near p.near.run) next_is (each-end_runs near far (past ++ turn ∷ [])).0;
        singly = asks.0;
        on = asks.1;
        more = more;
        grown = subst (λ (p : Pair). p.near.run.said ≡ (pair_of near far past).near.run.said ++ more) next_is grown;
      }

  owner_far : (past : List Turn) (turn : Turn) → AskBehind Far near far past turn → Owner far (turned (pair_of near far past)) (turned (pair_after (pair_of near far past) turn))
  owner_far past turn asks =
      let next_is : pair_of near far (past ++ turn ∷ []) ≡ pair_after (pair_of near far past) turn = fold-append pair_after (new_pair near far) past (turn ∷ []) in
      let (more, grown) = said-grows near far Far past (turn ∷ []) in
      record {
        was = (each-end_runs near far past).1;
        is = subst (λ (p : Pair). IsRunOf far p.far.run) next_is (each-end_runs near far (past ++ turn ∷ [])).1;
        singly = asks.0;
        on = asks.1;
        more = more;
        grown = subst (λ (p : Pair). p.far.run.said ≡ (pair_of near far past).far.run.said ++ more) next_is grown;
      }

  -- one turn more
  one_turn : (side : Side) (past : List Turn) → AreRead near far past → (at : Side) (happening : Happening) → (let turn : Turn = record { side = at; happening = happening } in ReadBehind near far past turn → AskBehind side near far past turn → Kept side (pair_of near far past)
      → InvSeen side (pair_of near far past) → InvSeen side (pair_after (pair_of near far past) turn))
  one_turn Near past read Near happening is asks kept inv = owner_turn near (pair_of near far past) happening is (owner_near past (record { side = Near; happening = happening }) asks) inv
  one_turn Near past read Far happening is asks kept inv =
      let p : Pair = pair_of near far past in
      let after : Pair = happens_near happening (turned p) in
      subst (λ (run : Run). Inv run.said run.value after.near.run.said after.near.run.value.memory.disconnection after.near.coming) (sym (near_grows happening (turned p)).1)
      (peer_turn p.near.run.said p.near.run.value (turned p) happening is (sound_at near far past Far) (there near far past read Near kept inv) inv)
  one_turn Far past read Near happening is asks kept inv =
      let p : Pair = pair_of near far past in
      let after : Pair = happens_near happening p in
      subst (λ (run : Run). Inv run.said run.value after.near.run.said after.near.run.value.memory.disconnection after.near.coming) (sym (near_grows happening p).1)
      (peer_turn p.far.run.said p.far.run.value p happening is (sound_at near far past Near) (there near far past read Far kept inv) inv)
  one_turn Far past read Far happening is asks kept inv = owner_turn far (turned (pair_of near far past)) happening is (owner_far past (record { side = Far; happening = happening }) asks) inv

  -- a copy that comes in now is responded to
  responds_now : (side : Side) (past : List Turn) → AreRead near far past → (at : Side) (happening : Happening) → IsRoomy happening (end_at at (pair_of near far past)) → Kept side (pair_of near far past) → InvSeen side (pair_of near far past) → RespondsAt own side at happening (pair_of near far past)
  responds_now Near past read Far Takes room kept inv = let p : Pair = pair_of near far past in responds responses own p p.far.coming inv (there near far past read Near kept inv) room
  responds_now Far past read Near Takes room kept inv = let p : Pair = pair_of near far past in responds responses own (turned p) p.near.coming inv (there near far past read Far kept inv) room
  responds_now Near past read Near Takes room kept inv = tt
  responds_now Far past read Far Takes room kept inv = tt
  responds_now side past read at (Acts more) room kept inv = tt
  responds_now side past read at (Puts pdu) room kept inv = tt
  responds_now side past read at Repeats room kept inv = tt
  responds_now side past read at Loses room kept inv = tt
  responds_now side past read at (Damages other) room kept inv = tt

  all_met : (side : Side) (past turns : List Turn) → AreRead near far past → EachAfter (ReadBehind near far) past turns → EachAfter (RoomyBehind near far) past turns → EachAfter (AskBehind side near far) past turns → Kept side (pair_of near far (past ++ turns))
      → EachAfter (λ front turn. IsAnsweredBy (errands.Disconnection own) side turn.side turn.happening (pair_of near far front)) past turns → InvSeen side (pair_of near far past)
      → EachAfter (λ front turn. IsMetBy (errands.Disconnection own) side turn.side turn.happening (pair_of near far front)) past turns
  all_met side past [] before read room asks kept answered inv = tt
  all_met side past (turn ∷ turns) before (is, read) (has, room) (ask, asks) kept (answer, answered) inv =
      let now = kept_before near far side past (turn ∷ turns) kept in
      let next_is : pair_of near far (past ++ turn ∷ []) ≡ pair_after (pair_of near far past) turn = fold-append pair_after (new_pair near far) past (turn ∷ []) in (
        both_met own side turn.side turn.happening (pair_of near far past) (responds_now side past before turn.side turn.happening has now inv) answer,
        all_met side (past ++ turn ∷ []) turns (each_after-more (ReadBehind near far) past turn before is) read room asks
            (subst (λ (list : List Turn). Kept side (pair_of near far list)) (sym (append_assoc past (turn ∷ []) turns)) kept) answered
            (subst (InvSeen side) (sym next_is) (one_turn side past before turn.side turn.happening is ask now inv)),
      )

  first_inv : (side : Side) → InvSeen side (new_pair near far)
  first_inv Near = nothing_yet
  first_inv Far = nothing_yet

pub ends-are_met : CopiesHaveResponses → EndsAreAnswered → EndsAreMet
ends-are_met responses answered near far turns read roomy side asks apart nothing own =
    all_met responses near far own side [] turns tt read roomy asks nothing (answered near far turns read side apart own) (first_inv responses near far own side)
