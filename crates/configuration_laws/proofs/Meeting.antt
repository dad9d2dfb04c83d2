-- Each copy of a request for options is responded to, and each response ends its wait.
use Rattle.std.proofs.Common.{◌≡◌, ◌<◌, ◌≤◌, arith, ℕ, List, [], ◌∷◌, ◌++◌, drop, Bool, true, false, cond, eqb, ◌&&◌, Option, Some, None, Ok, refl, sym, ap, subst, ◌∙◌, ◌⊎◌, inl, inr, append_assoc}
use Rattle.std.specs.List.{AllByRecursion}
use Rattle.std.proofs.lemmas.Bool.{eqb-true}
use Rattle.std.proofs.lemmas.List.Sums.{fold-append}
use Rattle.channel_laws.specs.acl_fragments.specs.Pieces.{channel_of}
use Rattle.channel_laws.specs.capture.specs.Histories.{EachAfter}
use Rattle.channel_laws.specs.capture.proofs.HistoryLaws.{each_after-more}
use Rattle.channel_laws.specs.l2cap_signal.specs.Commands.{Content, Command, reject, connection_request, connection_response, configuration_request, configuration_response, disconnection_request, disconnection_response, echo_request, echo_response, information_request, information_response}
use Rattle.channel_laws.specs.l2cap_signal.specs.Reading.{answers}
use Rattle.channel_laws.specs.l2cap_config.specs.declared.options.Options.{Options}
use Rattle.channel_laws.specs.l2cap_config.specs.declared.wish.Wish.{Wish}
use Rattle.channel_laws.specs.l2cap_config.specs.Agreement.{requested, keeps_mode, settled}
use Rattle.channel_laws.specs.l2cap_config.specs.declared.agreement.Settled.TheVariants.{Accepted, Again, Wait, Never}
use Rattle.channel_laws.specs.l2cap_config.specs.Reading.{options_read}
use Rattle.channel_laws.specs.link_talk.specs.Channels.{reading}
use Rattle.channel_laws.specs.link_talk.specs.Sayings.{Saying, GaveUp, Disconnection}
use Rattle.channel_laws.specs.channel_model.specs.declared.errand.Errand.TheVariants as errands
use Rattle.channel_laws.specs.channel_model.specs.Calls.{has_fcs}
use Rattle.channel_laws.specs.channel_model.specs.Carrying.{takes}
use Rattle.channel_laws.specs.channel_model.specs.Changing.{held_at, has_room}
use Rattle.channel_laws.specs.channel_model.specs.Giving.{Given, next_given}
use Rattle.channel_laws.specs.channel_model.specs.Hearing.{hears_command, hears_commands}
use Rattle.channel_laws.specs.channel_model.specs.Policies.{Policy}
use Rattle.channel_laws.specs.channel_model.specs.Value.{Request, Queued, Answer, Ask, Held, Remembered, Channels, no_channels}
use Rattle.channel_laws.specs.Adverse.{asks_with, asks_for, responds_with, seen_from, DisturbancesAreCounted, IsRoomy}
use Rattle.channel_laws.specs.Belonging.{IsReadAs, IsRead, AreRead, said_at}
use Rattle.channel_laws.specs.Ends.{end_at}
use Rattle.channel_laws.specs.Final.{IsDecided, IsDecidedBy, OnHeld, IsFinal, FinalResponsesEndWaits}
use Rattle.channel_laws.specs.Heeded.{RespondsTo, EndsWait, IsMetBy, MetIsHeeded}
use Rattle.channel_laws.specs.Pairs.{End, Pair, new_pair, Happening, Acts, Puts, Takes, Repeats, Loses, Damages, is_alone, occurs, with_near, puts, let_go, takes_first, repeats_first, loses_first, damages_first, happens_near, Side, Near, Far, turned, Turn, pair_after, pair_of}
use Rattle.channel_laws.specs.Responding.{Recalls, RecalledOr, IsRecalledOr, HasPeer, CanRespond, CopiesHaveResponses}
use Rattle.channel_laws.specs.Runs.{Occurrence, Comes, Connects, AsksFeatures, Disconnects, Sends, Gives, Fires, Tells, said_in, value_after, Run, run_on}
use Rattle.channel_laws.specs.Signals.{StandsIn}
use Rattle.channel_laws.specs.Tries.{request_of}
use Rattle.channel_laws.proofs.Both.{and-left, and-right}
use Rattle.channel_laws.proofs.Demanding.{asked_on}
use Rattle.channel_laws.proofs.Lasting.{answers_of}
use Rattle.channel_laws.proofs.Pairing.{each-end_runs}
use Rattle.channel_laws.proofs.Replying.{is_response}
use Rattle.channel_laws.proofs.Running.{IsSound, run-more}
use Rattle.channel_laws.proofs.Saying.{stands-left}
use Rattle.channel_laws.proofs.Sharing.{said-grows}
use Rattle.channel_laws.proofs.Sound.{Sound}
use Rattle.channel_laws.proofs.Trusting.{both-sound}
use Rattle.disconnection_laws.specs.Ended.{HasAnsweredEnd}
use Rattle.configuration_laws.specs.Asked.{EndsAreAskedFor}
use Rattle.configuration_laws.specs.Met.{Remains, StayingRemains, OptionsAreMet, OptionsAreCounted}
use Rattle.configuration_laws.proofs.Readable.{IsRead as CanBeRead}
use Rattle.configuration_laws.proofs.Concluding.{IsConclusive, other-concludes, Concluded}
use Rattle.configuration_laws.proofs.Occurring.{BringsNone, occurs-concluded}
use Rattle.configuration_laws.proofs.Going.{ComesPlainly, occurs-goes}
use Rattle.configuration_laws.proofs.Asking.{IsWish, IsAsked, Brings, given-is, given-plain, waits-asked, Good, waiting-good}
use Rattle.configuration_laws.proofs.Keeping.{HasIt, Inv, owner-on, more-asked, more-responses, fewer-come, peer-on, hears-on}
use Rattle.configuration_laws.proofs.Leaving.{answers-respond}
use Rattle.configuration_laws.proofs.Reaching.{has-it}

module _ (own : ℕ) where
  -- the near end asks
  abbrev InvOf : Pair → Type 0
  InvOf pair = Inv own pair.near.run.said pair.near.run.value pair.far.run.value pair.far.coming pair.near.coming

  none_less : (list : List (List ℕ)) (pdu : List ℕ) → StandsIn pdu list → StandsIn pdu list
  none_less list pdu stands = stands

  rest_less : (pdu : List ℕ) (rest list : List (List ℕ)) → list ≡ pdu ∷ rest → (other : List ℕ) → StandsIn other rest → StandsIn other list
  rest_less pdu rest list is other stands = subst (StandsIn other) (sym is) (inr stands)

  first_stands : (pdu : List ℕ) (rest list : List (List ℕ)) → list ≡ pdu ∷ rest → StandsIn pdu list
  first_stands pdu rest list is = subst (StandsIn pdu) (sym is) (inl refl)

  alone_plainly : (more : Occurrence) → is_alone more ≡ true → ComesPlainly more
  alone_plainly (Comes pdu) alone = cc
  alone_plainly (Connects psm) alone = tt
  alone_plainly AsksFeatures alone = tt
  alone_plainly (Disconnects own) alone = tt
  alone_plainly (Sends own sdu) alone = tt
  alone_plainly (Gives pdu) alone = cc
  alone_plainly Fires alone = tt
  alone_plainly Tells alone = tt

  -- ---- at the end that asks

  wish_responds : (command : Command) → IsWish command → is_response command.content ≡ true → ⊥
  wish_responds command wish is = let never : false ≡ true = sym (ap is_response wish.3) ∙ is in cc

  module _ (pair : Pair) (sound : IsSound pair.near.policy pair.near.run) (responses : (command : Command) → StandsIn (Answer command) pair.near.run.value.queue → is_response command.content ≡ true) where
    abbrev mine : Channels
    mine = pair.near.run.value

    -- its identifiers do not come round
    abbrev Rises : End → Type 0
    Rises end' = mine.identifier ≤ end'.run.value.identifier

    -- something occurs to it, with what is under way to its peer then
    goes_by : (more : Occurrence) (to_peer : List (List ℕ)) → ComesPlainly more → Rises (occurs more pair.near) → Inv own pair.near.run.said mine pair.far.run.value to_peer pair.near.coming
        → (let run : Run = run_on pair.near.policy pair.near.run more in Inv own run.said run.value pair.far.run.value to_peer pair.near.coming)
    goes_by more to_peer plain rises inv =
        owner-on pair.near.policy own pair.near.run.said (said_in pair.near.policy more mine) mine (value_after pair.near.policy more mine) pair.far.run.value to_peer pair.near.coming (occurs-goes pair.near.policy more mine plain sound.core.lone) rises sound
        (run-more pair.near.policy pair.near.run more sound) inv

    -- and so much is under way to it
    occurs_to : (more : Occurrence) (end' : End) → end'.run ≡ run_on pair.near.policy pair.near.run more → ComesPlainly more → ((pdu : List ℕ) → StandsIn pdu end'.coming → StandsIn pdu pair.near.coming) → Rises end' → InvOf pair → InvOf (with_near end' pair)
    occurs_to more end' run_is plain less rises inv =
        subst (λ (run : Run). Inv own run.said run.value pair.far.run.value pair.far.coming end'.coming) (sym run_is)
        (fewer-come own (pair.near.run.said ++ said_in pair.near.policy more mine) (value_after pair.near.policy more mine) pair.far.run.value pair.far.coming pair.near.coming pair.far.coming end'.coming (none_less pair.far.coming) less
        (goes_by more pair.far.coming plain (subst (λ (run : Run). mine.identifier ≤ run.value.identifier) run_is rises) inv))

    let_to : (coming : List (List ℕ)) → ((pdu : List ℕ) → StandsIn pdu coming → StandsIn pdu pair.near.coming) → InvOf pair → InvOf (with_near (let_go coming pair.near) pair)
    let_to coming less inv = fewer-come own pair.near.run.said mine pair.far.run.value pair.far.coming pair.near.coming pair.far.coming coming (none_less pair.far.coming) less inv

    owner_turn : (happening : Happening) → IsRead happening pair.near → Rises (happens_near happening pair).near → InvOf pair → InvOf (happens_near happening pair)
    owner_turn (Acts more) read rises inv = by (is_alone more) refl rises
      where
        by : (alone : Bool) → is_alone more ≡ alone → Rises (cond alone (with_near (occurs more pair.near) pair) pair).near → InvOf (cond alone (with_near (occurs more pair.near) pair) pair)
        by true alone rises = occurs_to more (occurs more pair.near) refl (alone_plainly more alone) (none_less pair.near.coming) rises inv
        by false alone rises = inv
    owner_turn (Puts pdu) read rises inv = by (next_given mine) refl read rises
      where
        good : (given : Given) → next_given mine ≡ Some given → IsReadAs (Some given) pdu → (command : Command) → Brings pdu command → IsWish command → Good own pair.near.run.said mine command
        good given is read command brings wish = either (given-is mine given pdu is read command brings)
          where
            either : StandsIn (Answer command) mine.queue ⊎ IsAsked mine command → Good own pair.near.run.said mine command
            either (inl answer) = absurd (wish_responds command wish (responses command answer))
            either (inr asked) = let (other, asks) = asked.wish wish in waiting-good pair.near.policy pair.near.run.said own other mine command sound inv.names asks

        by : (given : Option Given) → next_given mine ≡ given → IsReadAs given pdu → Rises (puts given pdu pair).near → InvOf (puts given pdu pair)
        by None is read rises = inv
        by (Some given) is read rises =
            goes_by (Gives pdu) (pair.far.coming ++ pdu ∷ []) tt rises
            (more-asked own pair.near.run.said mine pair.far.run.value pair.far.coming pair.near.coming pdu (given-plain given pdu read) (good given is read) inv)
    owner_turn Takes read rises inv = by pair.near.coming refl rises
      where
        by : (coming : List (List ℕ)) → pair.near.coming ≡ coming → Rises (takes_first coming pair.near) → InvOf (with_near (takes_first coming pair.near) pair)
        by [] is rises = inv
        by (pdu ∷ coming) is rises = occurs_to (Comes pdu) (occurs (Comes pdu) (let_go coming pair.near)) refl (inv.told pdu (first_stands pdu coming pair.near.coming is)) (rest_less pdu coming pair.near.coming is) rises inv
    owner_turn Repeats read rises inv = by pair.near.coming refl rises
      where
        by : (coming : List (List ℕ)) → pair.near.coming ≡ coming → Rises (repeats_first coming pair.near) → InvOf (with_near (repeats_first coming pair.near) pair)
        by [] is rises = inv
        by (pdu ∷ coming) is rises = occurs_to (Comes pdu) (occurs (Comes pdu) pair.near) refl (inv.told pdu (first_stands pdu coming pair.near.coming is)) (none_less pair.near.coming) rises inv
    owner_turn Loses read rises inv = by pair.near.coming refl
      where
        by : (coming : List (List ℕ)) → pair.near.coming ≡ coming → InvOf (with_near (loses_first coming pair.near) pair)
        by [] is = inv
        by (pdu ∷ coming) is = let_to coming (rest_less pdu coming pair.near.coming is) inv
    owner_turn (Damages other) read rises inv = by pair.near.coming refl rises
      where
        by : (coming : List (List ℕ)) → pair.near.coming ≡ coming → Rises (damages_first other coming pair.near) → InvOf (with_near (damages_first other coming pair.near) pair)
        by [] is rises = inv
        by (pdu ∷ coming) is rises = at (has_fcs (channel_of pdu) mine) rises
          where
            plain : ComesPlainly (Comes other)
            plain signals = let never : true ≡ false = sym signals ∙ read in absurd cc

            at : (checked : Bool) → Rises (cond checked (occurs (Comes other) (let_go coming pair.near)) (let_go coming pair.near)) → InvOf (with_near (cond checked (occurs (Comes other) (let_go coming pair.near)) (let_go coming pair.near)) pair)
            at true rises = occurs_to (Comes other) (occurs (Comes other) (let_go coming pair.near)) refl plain (rest_less pdu coming pair.near.coming is) rises inv
            at false rises = let_to coming (rest_less pdu coming pair.near.coming is) inv

  -- ---- at its peer

  -- the far end asks
  abbrev PeerInv : Pair → Type 0
  PeerInv pair = InvOf (turned pair)

  module _ (pair : Pair) (sound : Sound pair.near.policy (reading pair.near.run.said) pair.near.run.value) (has : HasIt own pair.far.run.said pair.far.run.value pair.near.run.value) where
    abbrev v : Channels
    v = pair.far.run.value

    abbrev said : List Saying
    said = pair.far.run.said

    abbrev u : Channels
    u = pair.near.run.value

    -- what is under way to it
    abbrev With : End → List (List ℕ) → Type 0
    With end' coming = Inv own said v end'.run.value coming pair.far.coming

    quietly : (more : Occurrence) (coming : List (List ℕ)) → BringsNone more → With pair.near coming → With (occurs more pair.near) coming
    quietly more coming none inv =
        let after = occurs-concluded pair.near.policy more u none inv.concluded in
        peer-on own said v u (value_after pair.near.policy more u) coming pair.far.coming (ap (λ m. m.configuration) after.0) after.1 inv

    -- a PDU comes in, behind which so much is under way
    comes : (pdu : List ℕ) (coming rest : List (List ℕ)) → StandsIn pdu coming → ((other : List ℕ) → StandsIn other rest → StandsIn other coming) → With pair.near coming → With (occurs (Comes pdu) pair.near) rest
    comes pdu coming rest stands fewer inv = by (eqb (channel_of pdu) 0x0001) refl
      where
        left : With pair.near rest
        left = fewer-come own said v u coming pair.far.coming rest pair.far.coming fewer (none_less pair.far.coming) inv

        by : (signals : Bool) → eqb (channel_of pdu) 0x0001 ≡ signals → With (occurs (Comes pdu) pair.near) rest
        by false is = quietly (Comes pdu) rest is left
        by true is =
            let (command, read) = inv.plain pdu stands is in
            let value_is : value_after pair.near.policy (Comes pdu) u ≡ hears_command pair.near.policy (Ok command) u =
            ap (λ (b : Bool). cond b (hears_commands pair.near.policy (answers (drop 4 pdu)) u) (takes (channel_of pdu) pdu u)) is ∙ ap (λ list. hears_commands pair.near.policy list u) read in
            subst (λ (w : Channels). Inv own said v w rest pair.far.coming) (sym value_is)
            (hears-on pair.near.policy (reading pair.near.run.said) own said v u rest pair.far.coming command sound (inv.good pdu stands command (is, read)) has left)

    alone_brings : (more : Occurrence) → is_alone more ≡ true → BringsNone more
    alone_brings (Comes pdu) alone = cc
    alone_brings (Connects psm) alone = tt
    alone_brings AsksFeatures alone = tt
    alone_brings (Disconnects own) alone = tt
    alone_brings (Sends own sdu) alone = tt
    alone_brings (Gives pdu) alone = cc
    alone_brings Fires alone = tt
    alone_brings Tells alone = tt

    answer_concludes : (queue : List Queued) (command : Command) → StandsIn (Answer command) queue → AllByRecursion (λ (c : Command). IsConclusive c.content) (answers_of queue) → IsConclusive command.content
    answer_concludes [] command stands all = elim stands [ ]
    answer_concludes (Answer other ∷ queue) command (inl same) all = let it : other ≡ command = cc in subst (λ (c : Command). IsConclusive c.content) it all.0
    answer_concludes (Answer other ∷ queue) command (inr later) all = answer_concludes queue command later all.1
    answer_concludes (Ask errand ∷ queue) command (inl same) all = cc
    answer_concludes (Ask errand ∷ queue) command (inr later) all = answer_concludes queue command later all

    given_concludes : (given : Given) (pdu : List ℕ) → next_given u ≡ Some given → IsReadAs (Some given) pdu → Concluded u → (command : Command) → Brings pdu command → IsConclusive command.content
    given_concludes given pdu is read concluded command brings = either (given-is u given pdu is read command brings)
      where
        either : StandsIn (Answer command) u.queue ⊎ IsAsked u command → IsConclusive command.content
        either (inl answer) = answer_concludes u.queue command answer concluded.answers
        either (inr asked) = other-concludes command.content asked.plain

    peer_turn : (happening : Happening) → IsRead happening pair.near → PeerInv pair → PeerInv (happens_near happening pair)
    peer_turn (Acts more) read inv = by (is_alone more) refl
      where
        by : (alone : Bool) → is_alone more ≡ alone → PeerInv (cond alone (with_near (occurs more pair.near) pair) pair)
        by true alone = quietly more pair.near.coming (alone_brings more alone) inv
        by false alone = inv
    peer_turn (Puts pdu) read inv = by (next_given u) refl read
      where
        by : (given : Option Given) → next_given u ≡ given → IsReadAs given pdu → PeerInv (puts given pdu pair)
        by None is read = inv
        by (Some given) is read =
            more-responses own said v (value_after pair.near.policy (Gives pdu) u) pair.near.coming pair.far.coming pdu (given-plain given pdu read) (given_concludes given pdu is read inv.concluded) (quietly (Gives pdu) pair.near.coming tt inv)
    peer_turn Takes read inv = by pair.near.coming refl
      where
        by : (coming : List (List ℕ)) → pair.near.coming ≡ coming → PeerInv (with_near (takes_first coming pair.near) pair)
        by [] is = inv
        by (pdu ∷ coming) is = comes pdu pair.near.coming coming (first_stands pdu coming pair.near.coming is) (rest_less pdu coming pair.near.coming is) inv
    peer_turn Repeats read inv = by pair.near.coming refl
      where
        by : (coming : List (List ℕ)) → pair.near.coming ≡ coming → PeerInv (with_near (repeats_first coming pair.near) pair)
        by [] is = inv
        by (pdu ∷ coming) is = comes pdu pair.near.coming pair.near.coming (first_stands pdu coming pair.near.coming is) (none_less pair.near.coming) inv
    peer_turn Loses read inv = by pair.near.coming refl
      where
        by : (coming : List (List ℕ)) → pair.near.coming ≡ coming → PeerInv (with_near (loses_first coming pair.near) pair)
        by [] is = inv
        by (pdu ∷ coming) is = fewer-come own said v u pair.near.coming pair.far.coming coming pair.far.coming (rest_less pdu coming pair.near.coming is) (none_less pair.far.coming) inv
    peer_turn (Damages other) read inv = by pair.near.coming refl
      where
        by : (coming : List (List ℕ)) → pair.near.coming ≡ coming → PeerInv (with_near (damages_first other coming pair.near) pair)
        by [] is = inv
        by (pdu ∷ coming) is = at (has_fcs (channel_of pdu) pair.near.run.value)
          where
            left : With pair.near coming
            left = fewer-come own said v u pair.near.coming pair.far.coming coming pair.far.coming (rest_less pdu coming pair.near.coming is) (none_less pair.far.coming) inv

            at : (checked : Bool) → PeerInv (with_near (cond checked (occurs (Comes other) (let_go coming pair.near)) (let_go coming pair.near)) pair)
            at true = quietly (Comes other) coming read left
            at false = left

  -- ---- what comes in now

  -- it is responded to
  responds : CopiesHaveResponses → (pair : Pair) (coming : List (List ℕ)) → pair.far.coming ≡ coming → HasIt own pair.near.run.said pair.near.run.value pair.far.run.value → has_room pair.far.run.value ≡ true → InvOf pair → RespondsTo (errands.Configuration own) coming pair
  responds copies pair [] is has room inv = tt
  responds copies pair (pdu ∷ coming) is has room inv = λ command request signals read waits asks.
      copies pair.far.policy u (errands.Configuration own) request.identifier command asks (can command request signals read waits asks command.content refl) room
    where
      u : Channels
      u = pair.far.run.value

      stands : StandsIn pdu pair.far.coming
      stands = subst (StandsIn pdu) (sym is) (inl refl)

      can : (command : Command) (request : Request) → eqb (channel_of pdu) 0x0001 ≡ true → answers (drop 4 pdu) ≡ Ok command ∷ [] → request_of (errands.Configuration own) pair.near.run.value ≡ Some request → asks_for (errands.Configuration own) request.identifier command ≡ true
          → (content : Content) → command.content ≡ content → CanRespond (errands.Configuration own) command.identifier content u
      can command request signals read waits asks (configuration_request destination flags options) content = recalled u.memory.configuration refl
        where
          named : command.identifier ≡ request.identifier
          named = eqb-true command.identifier request.identifier (and-left (eqb command.identifier request.identifier) (asks_with (errands.Configuration own) command.content) asks)

          asked : asked_on (held_at own pair.near.run.value) ≡ Some (Some command.identifier)
          asked = subst (λ n. asked_on (held_at own pair.near.run.value) ≡ Some (Some n)) (sym named) (waits-asked own pair.near.run.value request waits)

          there : HasPeer own (held_at destination u)
          there = has command.identifier destination asked ((inv.good pdu stands command (signals, read) (destination, flags, options, content)).same asked destination flags options content)

          recalled : (last : Option Remembered) → u.memory.configuration ≡ last → IsRecalledOr (errands.Configuration own) last command.identifier (HasPeer own (held_at destination u))
          recalled None at = there
          recalled (Some last) at = either (eqb last.identifier command.identifier) refl
            where
              either : (now : Bool) → eqb last.identifier command.identifier ≡ now → RecalledOr now (Recalls (errands.Configuration own) last.response) (HasPeer own (held_at destination u))
              either true now = inv.kept last at (subst (λ n. asked_on (held_at own pair.near.run.value) ≡ Some (Some n)) (sym (eqb-true last.identifier command.identifier now)) asked)
              either false now = there
      can command request signals read waits asks (reject reason rest) content = tt
      can command request signals read waits asks (connection_request psm source) content = tt
      can command request signals read waits asks (connection_response destination source answer status) content = tt
      can command request signals read waits asks (configuration_response source flags answer options) content = tt
      can command request signals read waits asks (disconnection_request destination source) content = tt
      can command request signals read waits asks (disconnection_response destination source) content = tt
      can command request signals read waits asks (echo_request octets) content = tt
      can command request signals read waits asks (echo_response octets) content = tt
      can command request signals read waits asks (information_request kind) content = tt
      can command request signals read waits asks (information_response kind answer rest) content = tt

  -- a response that concludes is final
  decided : (wish : Wish) (answer identifier next : ℕ) (options : Options) → eqb answer 4 ≡ false → identifier < next → IsDecided (settled wish answer options) identifier next
  decided wish answer identifier next options none under = by (eqb answer 0) (eqb answer 4) none (eqb answer 1 && keeps_mode wish options)
    where
      apart : (same : Bool) → eqb next identifier ≡ same → same ≡ false
      apart true same = let named = eqb-true next identifier same in absurd (omega (arith, named, under))
      apart false same = refl

      by : (zero four : Bool) → four ≡ false → (again : Bool) → IsDecided (cond zero Accepted (cond four Wait (cond again (Again (requested wish options)) Never))) identifier next
      by true four is again = tt
      by false true is again = cc
      by false false is true = apart (eqb next identifier) refl
      by false false is false = tt

  ends_wait : FinalResponsesEndWaits → (pair : Pair) (coming : List (List ℕ)) → pair.near.coming ≡ coming → InvOf pair → EndsWait (errands.Configuration own) coming pair
  ends_wait final_ends pair [] is inv = tt
  ends_wait final_ends pair (pdu ∷ coming) is inv = λ command request signals read waits responds.
      final_ends pair.near.policy v (errands.Configuration own) request command waits responds
      (final command request waits (inv.responses pdu (subst (StandsIn pdu) (sym is) (inl refl)) command (signals, read)) command.content refl (and-right (eqb command.identifier request.identifier) (responds_with (errands.Configuration own) command.content) responds))
    where
      v : Channels
      v = pair.near.run.value

      final : (command : Command) (request : Request) → request_of (errands.Configuration own) v ≡ Some request → IsConclusive command.content → (content : Content) → command.content ≡ content → responds_with (errands.Configuration own) content ≡ true → IsFinal pair.near.policy request.identifier content v
      final command request waits concludes (configuration_response source flags answer options) content so = by (held_at source v)
        where
          can : (eqb answer 4 ≡ false) × CanBeRead options
          can = subst IsConclusive content concludes

          under : request.identifier < v.identifier
          under = inv.names.below own request.identifier (waits-asked own v request waits)

          by : (found : Option Held) → OnHeld (IsDecidedBy (options_read options) pair.near.policy answer request.identifier v.identifier) found
          by None = tt
          by (Some held) =
              subst (λ read. IsDecidedBy read pair.near.policy answer request.identifier v.identifier held) (sym can.1.read_is)
              (decided (pair.near.policy.wish held.psm) answer request.identifier v.identifier can.1.options can.0 under)
      final command request waits concludes (reject reason rest) content so = cc
      final command request waits concludes (connection_request psm source) content so = cc
      final command request waits concludes (connection_response destination source answer status) content so = cc
      final command request waits concludes (configuration_request destination flags options) content so = cc
      final command request waits concludes (disconnection_request destination source) content so = cc
      final command request waits concludes (disconnection_response destination source) content so = cc
      final command request waits concludes (echo_request octets) content so = cc
      final command request waits concludes (echo_response octets) content so = cc
      final command request waits concludes (information_request kind) content so = cc
      final command request waits concludes (information_response kind answer rest) content so = cc

-- ---- all turns

abbrev ReadBehind : (near far : Policy) → List Turn → Turn → Type 0
ReadBehind near far front turn = IsRead turn.happening (end_at turn.side (pair_of near far front))

abbrev RiseBehind : Side → (near far : Policy) → List Turn → Turn → Type 0
RiseBehind side near far front turn = (end_at side (pair_of near far front)).run.value.identifier ≤ (end_at side (pair_after (pair_of near far front) turn)).run.value.identifier

abbrev RoomyBehind : (near far : Policy) → List Turn → Turn → Type 0
RoomyBehind near far front turn = IsRoomy turn.happening (end_at turn.side (pair_of near far front))

-- so it was of the talk so far
stays_less : (own : ℕ) (said more all : List Saying) → all ≡ said ++ more → Remains own all → Remains own said
stays_less own said more all grown stays = record {
  unanswered = λ identifier destination answered. stays.unanswered identifier destination (subst (HasAnsweredEnd identifier destination own) (sym grown) (stands-left _ said more answered));
  not_forgone = λ destination gave. stays.not_forgone destination (subst (StandsIn (GaveUp (Disconnection destination own))) (sym grown) (stands-left _ said more gave));
}

stays_before : (near far : Policy) (own : ℕ) (side : Side) (past rest : List Turn) → Remains own (said_at side (turned (pair_of near far (past ++ rest)))) → Remains own (said_at side (turned (pair_of near far past)))
stays_before near far own Near past rest stays = let (more, grown) = said-grows near far Far past rest in stays_less own _ more _ grown stays
stays_before near far own Far past rest stays = let (more, grown) = said-grows near far Near past rest in stays_less own _ more _ grown stays

module _ (copies : CopiesHaveResponses) (final_ends : FinalResponsesEndWaits) (near far : Policy) (own : ℕ) where
  -- the peer has the channel
  has_now : (side : Side) (past : List Turn) → AreRead near far past → Remains own (said_at side (turned (pair_of near far past))) → (let pair : Pair = seen_from side (pair_of near far past) in InvOf own pair → HasIt own pair.near.run.said pair.near.run.value pair.far.run.value)
  has_now Near past read stays inv = has-it near far past read Near own inv.behind stays
  has_now Far past read stays inv = has-it near far past read Far own inv.behind stays

  one_turn : (side : Side) (past : List Turn) (at : Side) (happening : Happening) → AreRead near far past → Remains own (said_at side (turned (pair_of near far past)))
      → (let turn : Turn = record { side = at; happening = happening } in ReadBehind near far past turn → RiseBehind side near far past turn → InvOf own (seen_from side (pair_of near far past)) → InvOf own (seen_from side (pair_after (pair_of near far past) turn)))
  one_turn Near past Near happening before stays read rises inv = let pair : Pair = pair_of near far past in owner_turn own pair (both-sound near far past).0 (answers-respond near pair.near.run (each-end_runs near far past).0) happening read rises inv
  one_turn Near past Far happening before stays read rises inv = peer_turn own (turned (pair_of near far past)) (both-sound near far past).1 (has_now Near past before stays inv) happening read inv
  one_turn Far past Near happening before stays read rises inv = peer_turn own (pair_of near far past) (both-sound near far past).0 (has_now Far past before stays inv) happening read inv
  one_turn Far past Far happening before stays read rises inv =
      let pair : Pair = turned (pair_of near far past) in owner_turn own pair (both-sound near far past).1 (answers-respond far pair.near.run (each-end_runs near far past).1) happening read rises inv

  met_now : (side : Side) (past : List Turn) (at : Side) (happening : Happening) → AreRead near far past → Remains own (said_at side (turned (pair_of near far past))) → IsRoomy happening (end_at at (pair_of near far past)) → InvOf own (seen_from side (pair_of near far past))
      → IsMetBy (errands.Configuration own) side at happening (pair_of near far past)
  met_now side past at (Acts more) before stays room inv = tt
  met_now side past at (Puts pdu) before stays room inv = tt
  met_now Near past Near Takes before stays room inv = let pair : Pair = pair_of near far past in ends_wait own final_ends pair pair.near.coming refl inv
  met_now Near past Far Takes before stays room inv = let pair : Pair = pair_of near far past in responds own copies pair pair.far.coming refl (has_now Near past before stays inv) room inv
  met_now Far past Near Takes before stays room inv = let pair : Pair = turned (pair_of near far past) in responds own copies pair pair.far.coming refl (has_now Far past before stays inv) room inv
  met_now Far past Far Takes before stays room inv = let pair : Pair = turned (pair_of near far past) in ends_wait own final_ends pair pair.near.coming refl inv
  met_now side past at Repeats before stays room inv = tt
  met_now side past at Loses before stays room inv = tt
  met_now side past at (Damages other) before stays room inv = tt

  all_met : (side : Side) (past turns : List Turn) → AreRead near far past → EachAfter (ReadBehind near far) past turns → EachAfter (RoomyBehind near far) past turns → EachAfter (RiseBehind side near far) past turns
      → Remains own (said_at side (turned (pair_of near far (past ++ turns)))) → InvOf own (seen_from side (pair_of near far past)) → EachAfter (λ front turn. IsMetBy (errands.Configuration own) side turn.side turn.happening (pair_of near far front)) past turns
  all_met side past [] before read room rise stays inv = tt
  all_met side past (turn ∷ turns) before (is, read) (has, room) (rises, rise) stays inv =
      let now = stays_before near far own side past (turn ∷ turns) stays in
      let next_is : pair_of near far (past ++ turn ∷ []) ≡ pair_after (pair_of near far past) turn = fold-append pair_after (new_pair near far) past (turn ∷ []) in (
        met_now side past turn.side turn.happening before now has inv,
        all_met side (past ++ turn ∷ []) turns (each_after-more (ReadBehind near far) past turn before is) read room rise
            (subst (λ (list : List Turn). Remains own (said_at side (turned (pair_of near far list)))) (sym (append_assoc past (turn ∷ []) turns)) stays)
            (subst (λ (p : Pair). InvOf own (seen_from side p)) (sym next_is) (one_turn side past turn.side turn.happening before now is rises inv)),
      )

nothing_yet : (own : ℕ) → Inv own [] no_channels no_channels [] []
nothing_yet own = record {
  plain = λ pdu none. elim none [ ];
  told = λ pdu none. elim none [ ];
  good = λ pdu none. elim none [ ];
  concluded = record { answers = tt; last = tt; known = tt };
  responses = λ pdu none. elim none [ ];
  below = λ last at. cc;
  kept = λ last at. cc;
  names = record { below = λ other n asks. cc; apart = λ one other n asks. cc };
  behind = λ n asks. cc;
}

pub options-are_met : CopiesHaveResponses → FinalResponsesEndWaits → OptionsAreMet
options-are_met copies final_ends near far turns read roomy side rise own stays = all_met copies final_ends near far own side [] turns tt read roomy rise stays (first side)
  where
    first : (which : Side) → InvOf own (seen_from which (new_pair near far))
    first Near = nothing_yet own
    first Far = nothing_yet own

-- who asked for no end is answered none
pub staying-remains : EndsAreAskedFor → StayingRemains
staying-remains asked near far turns read Near own stays = record { unanswered = λ identifier peer answered. stays.not_asked peer (asked near far turns read Far identifier peer own answered); not_forgone = stays.not_forgone }
staying-remains asked near far turns read Far own stays = record { unanswered = λ identifier peer answered. stays.not_asked peer (asked near far turns read Near identifier peer own answered); not_forgone = stays.not_forgone }

pub options-are_counted : DisturbancesAreCounted → MetIsHeeded → OptionsAreMet → OptionsAreCounted
options-are_counted counted heeded met near far turns fair read roomy Near rise own stays request waits =
    counted near far turns fair read Near (errands.Configuration own) request (heeded near far turns read Near (errands.Configuration own) (met near far turns read roomy Near rise own stays)) waits
options-are_counted counted heeded met near far turns fair read roomy Far rise own stays request waits =
    counted near far turns fair read Far (errands.Configuration own) request (heeded near far turns read Far (errands.Configuration own) (met near far turns read roomy Far rise own stays)) waits
