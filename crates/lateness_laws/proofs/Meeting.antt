-- No request for options comes behind a later one, nor anew where the channel is open.
use Rattle.std.proofs.Common.{◌≡◌, ◌≤◌, arith, ℕ, List, [], ◌∷◌, ◌++◌, drop, Bool, true, false, cond, eqb, Option, Some, None, Ok, refl, sym, ap, subst, ◌∙◌, ◌⊎◌, inl, inr, append_assoc, append-nil}
use Rattle.std.specs.Prelude.{is_some, option_map}
use Rattle.std.proofs.lemmas.List.Sums.{fold-append}
use Rattle.channel_laws.specs.acl_fragments.specs.Pieces.{channel_of}
use Rattle.channel_laws.specs.capture.specs.Histories.{EachAfter}
use Rattle.channel_laws.specs.l2cap_signal.specs.Commands.{Command}
use Rattle.channel_laws.specs.l2cap_signal.specs.Reading.{answers}
use Rattle.channel_laws.specs.l2cap_config.specs.declared.wish.Mode.{Mode}
use Rattle.channel_laws.specs.capture.specs.declared.flow.Flow.TheVariants.{Into}
use Rattle.channel_laws.specs.link_talk.specs.Sayings.{Saying, Carried}
use Rattle.channel_laws.specs.channel_model.specs.Calls.{has_fcs}
use Rattle.channel_laws.specs.channel_model.specs.Carrying.{takes}
use Rattle.channel_laws.specs.channel_model.specs.Changing.{held_at, setup_of, is_granted, is_open}
use Rattle.channel_laws.specs.channel_model.specs.Giving.{Given, next_given}
use Rattle.channel_laws.specs.channel_model.specs.Hearing.{hears_command, hears_commands}
use Rattle.channel_laws.specs.channel_model.specs.Policies.{Policy}
use Rattle.channel_laws.specs.channel_model.specs.Value.{Answer, Carrier, Setup, Held, Remembered, Channels, no_channels}
use Rattle.channel_laws.specs.Adverse.{seen_from}
use Rattle.channel_laws.specs.Belonging.{IsReadAs, IsRead}
use Rattle.channel_laws.specs.Ends.{end_at}
use Rattle.channel_laws.specs.OwnTalk.{asked_between, said_with_all}
use Rattle.channel_laws.specs.Pairs.{End, Pair, new_pair, Happening, Acts, Puts, Takes, Repeats, Loses, Damages, is_alone, occurs, with_near, puts, let_go, takes_first, repeats_first, loses_first, damages_first, happens_near, Side, Near, Far, turned, Turn, pair_after, pair_of}
use Rattle.channel_laws.specs.Runs.{Occurrence, Comes, Connects, AsksFeatures, Disconnects, Sends, Gives, Fires, Tells, said_in, value_after, Run, run_on}
use Rattle.channel_laws.specs.Signals.{StandsIn}
use Rattle.channel_laws.specs.Views.{carrier_mode}
use Rattle.channel_laws.proofs.Both.{and-left}
use Rattle.channel_laws.proofs.Holding.{is-read}
use Rattle.channel_laws.proofs.Pairing.{each-end_runs}
use Rattle.channel_laws.proofs.Petitions.{IsPetitioned, accepted-petitioned}
use Rattle.channel_laws.proofs.Replying.{is_response}
use Rattle.channel_laws.proofs.Running.{IsSound}
use Rattle.channel_laws.proofs.Trusting.{both-sound}
use Rattle.disconnection_laws.proofs.Ending.{BringsNone}
use Rattle.disconnection_laws.proofs.Meeting.{alone_brings}
use Rattle.configuration_laws.proofs.Going.{ComesPlainly, occurs-goes}
use Rattle.configuration_laws.proofs.Asking.{IsWish, IsAsked, Brings, given-is, given-plain, Asks}
use Rattle.configuration_laws.proofs.Keeping.{IsPlain}
use Rattle.configuration_laws.proofs.Leaving.{answers-respond}
use Rattle.lateness_laws.specs.Late.{AsksOptionsOnce, HasHeardOptions, AreUnderWay, IsLast, IsNotOpen, IsAskedOnce, IsInOrder, HeardOptionsAreLast, NoOptionsComeLate}
use Rattle.lateness_laws.proofs.Hearing.{deaf-occurs}
use Rattle.lateness_laws.proofs.Keeping.{Inv, owner-on, more-asked, more-told, fewer-come, fewer-told, quiet-on, First, hears-on}

-- the near end asks
abbrev InvOf : Pair → Type 0
InvOf pair = Inv pair.near.run.value pair.far.run.said pair.far.run.value.memory.configuration pair.far.coming pair.near.coming

none_less : (list : List (List ℕ)) (pdu : List ℕ) → StandsIn pdu list → StandsIn pdu list
none_less list pdu stands = stands

rest_less : (pdu : List ℕ) (rest list : List (List ℕ)) → list ≡ pdu ∷ rest → (other : List ℕ) → StandsIn other rest → StandsIn other list
rest_less pdu rest list is other stands = subst (StandsIn other) (sym is) (inr stands)

first_stands : (pdu : List ℕ) (rest list : List (List ℕ)) → list ≡ pdu ∷ rest → StandsIn pdu list
first_stands pdu rest list is = subst (StandsIn pdu) (sym is) (inl refl)

alone_plainly : (more : Occurrence) → is_alone more ≡ true → ComesPlainly more
alone_plainly (Comes pdu) alone = cc
alone_plainly (Connects psm) alone = tt
alone_plainly AsksFeatures alone = tt
alone_plainly (Disconnects own) alone = tt
alone_plainly (Sends own sdu) alone = tt
alone_plainly (Gives pdu) alone = cc
alone_plainly Fires alone = tt
alone_plainly Tells alone = tt

-- ---- at the end that asks

wish_responds : (command : Command) → IsWish command → is_response command.content ≡ true → ⊥
wish_responds command wish is = let never : false ≡ true = sym (ap is_response wish.3) ∙ is in cc

module _ (pair : Pair) (sound : IsSound pair.near.policy pair.near.run) (responses : (command : Command) → StandsIn (Answer command) pair.near.run.value.queue → is_response command.content ≡ true) (single : AsksOptionsOnce pair.near.run.value) where
  abbrev mine : Channels
  mine = pair.near.run.value

  -- its identifiers do not come round
  abbrev Rises : End → Type 0
  Rises end' = mine.identifier ≤ end'.run.value.identifier

  -- something occurs to it, and so much is under way to it
  occurs_to : (more : Occurrence) (end' : End) (to_peer : List (List ℕ)) → end'.run ≡ run_on pair.near.policy pair.near.run more → ComesPlainly more → ((pdu : List ℕ) → StandsIn pdu end'.coming → StandsIn pdu pair.near.coming) → Rises end'
      → Inv mine pair.far.run.said pair.far.run.value.memory.configuration to_peer pair.near.coming → Inv end'.run.value pair.far.run.said pair.far.run.value.memory.configuration to_peer end'.coming
  occurs_to more end' to_peer run_is plain less rises inv =
      subst (λ (run : Run). Inv run.value pair.far.run.said pair.far.run.value.memory.configuration to_peer end'.coming) (sym run_is)
      (fewer-told (value_after pair.near.policy more mine) pair.far.run.said pair.far.run.value.memory.configuration to_peer pair.near.coming end'.coming less
      (owner-on mine (value_after pair.near.policy more mine) pair.far.run.said pair.far.run.value.memory.configuration to_peer pair.near.coming (occurs-goes pair.near.policy more mine plain sound.core.lone)
      (subst (λ (run : Run). mine.identifier ≤ run.value.identifier) run_is rises) inv))

  let_to : (coming : List (List ℕ)) → ((pdu : List ℕ) → StandsIn pdu coming → StandsIn pdu pair.near.coming) → InvOf pair → InvOf (with_near (let_go coming pair.near) pair)
  let_to coming less inv = fewer-told mine pair.far.run.said pair.far.run.value.memory.configuration pair.far.coming pair.near.coming coming less inv

  owner_turn : (happening : Happening) → IsRead happening pair.near → Rises (happens_near happening pair).near → InvOf pair → InvOf (happens_near happening pair)
  owner_turn (Acts more) read rises inv = by (is_alone more) refl rises
    where
      by : (alone : Bool) → is_alone more ≡ alone → Rises (cond alone (with_near (occurs more pair.near) pair) pair).near → InvOf (cond alone (with_near (occurs more pair.near) pair) pair)
      by true alone rises = occurs_to more (occurs more pair.near) pair.far.coming refl (alone_plainly more alone) (none_less pair.near.coming) rises inv
      by false alone rises = inv
  owner_turn (Puts pdu) read rises inv = by (next_given mine) refl read rises
    where
      asks : (given : Given) → next_given mine ≡ Some given → IsReadAs (Some given) pdu → (command : Command) → Brings pdu command → IsWish command → (other : ℕ) × Asks other mine command
      asks given is read command brings wish = either (given-is mine given pdu is read command brings)
        where
          either : StandsIn (Answer command) mine.queue ⊎ IsAsked mine command → (other : ℕ) × Asks other mine command
          either (inl answer) = absurd (wish_responds command wish (responses command answer))
          either (inr asked) = asked.wish wish

      by : (given : Option Given) → next_given mine ≡ given → IsReadAs given pdu → Rises (puts given pdu pair).near → InvOf (puts given pdu pair)
      by None is read rises = inv
      by (Some given) is read rises =
          occurs_to (Gives pdu) (occurs (Gives pdu) pair.near) (pair.far.coming ++ pdu ∷ []) refl tt (none_less pair.near.coming) rises
          (more-asked mine pair.far.run.said pair.far.run.value.memory.configuration pair.far.coming pair.near.coming pdu single (given-plain given pdu read) (asks given is read) inv)
  owner_turn Takes read rises inv = by pair.near.coming refl rises
    where
      by : (coming : List (List ℕ)) → pair.near.coming ≡ coming → Rises (takes_first coming pair.near) → InvOf (with_near (takes_first coming pair.near) pair)
      by [] is rises = inv
      by (pdu ∷ coming) is rises = occurs_to (Comes pdu) (occurs (Comes pdu) (let_go coming pair.near)) pair.far.coming refl (inv.told pdu (first_stands pdu coming pair.near.coming is)) (rest_less pdu coming pair.near.coming is) rises inv
  owner_turn Repeats read rises inv = by pair.near.coming refl rises
    where
      by : (coming : List (List ℕ)) → pair.near.coming ≡ coming → Rises (repeats_first coming pair.near) → InvOf (with_near (repeats_first coming pair.near) pair)
      by [] is rises = inv
      by (pdu ∷ coming) is rises = occurs_to (Comes pdu) (occurs (Comes pdu) pair.near) pair.far.coming refl (inv.told pdu (first_stands pdu coming pair.near.coming is)) (none_less pair.near.coming) rises inv
  owner_turn Loses read rises inv = by pair.near.coming refl
    where
      by : (coming : List (List ℕ)) → pair.near.coming ≡ coming → InvOf (with_near (loses_first coming pair.near) pair)
      by [] is = inv
      by (pdu ∷ coming) is = let_to coming (rest_less pdu coming pair.near.coming is) inv
  owner_turn (Damages other) read rises inv = by pair.near.coming refl rises
    where
      by : (coming : List (List ℕ)) → pair.near.coming ≡ coming → Rises (damages_first other coming pair.near) → InvOf (with_near (damages_first other coming pair.near) pair)
      by [] is rises = inv
      by (pdu ∷ coming) is rises = at (has_fcs (channel_of pdu) mine) rises
        where
          plain : ComesPlainly (Comes other)
          plain signals = let never : true ≡ false = sym signals ∙ read in absurd cc

          at : (checked : Bool) → Rises (cond checked (occurs (Comes other) (let_go coming pair.near)) (let_go coming pair.near)) → InvOf (with_near (cond checked (occurs (Comes other) (let_go coming pair.near)) (let_go coming pair.near)) pair)
          at true rises = occurs_to (Comes other) (occurs (Comes other) (let_go coming pair.near)) pair.far.coming refl plain (rest_less pdu coming pair.near.coming is) rises inv
          at false rises = let_to coming (rest_less pdu coming pair.near.coming is) inv

-- ---- at its peer

-- the far end asks
abbrev PeerInv : Pair → Type 0
PeerInv pair = InvOf (turned pair)

module _ (pair : Pair) (sound : IsSound pair.near.policy pair.near.run) where
  abbrev v : Channels
  v = pair.far.run.value

  abbrev u : Channels
  u = pair.near.run.value

  -- what is under way to it
  abbrev With : End → List (List ℕ) → Type 0
  With end' coming = Inv v end'.run.said end'.run.value.memory.configuration coming pair.far.coming

  quietly : (more : Occurrence) (coming : List (List ℕ)) → BringsNone more → With pair.near coming → With (occurs more pair.near) coming
  quietly more coming none inv =
      let after = deaf-occurs pair.near.policy more u none in
      quiet-on v pair.near.run.said (said_in pair.near.policy more u) u.memory.configuration (value_after pair.near.policy more u).memory.configuration coming pair.far.coming after.0 after.1 inv

  -- a PDU comes in, behind which so much is under way
  comes : (pdu : List ℕ) (rest : List (List ℕ)) → IsPlain pdu → ((command : Command) → Brings pdu command → First v u.memory.configuration rest command) → With pair.near rest → With (occurs (Comes pdu) pair.near) rest
  comes pdu rest plain first inv = by (eqb (channel_of pdu) 0x0001) refl
    where
      by : (signals : Bool) → eqb (channel_of pdu) 0x0001 ≡ signals → With (occurs (Comes pdu) pair.near) rest
      by false is = quietly (Comes pdu) rest is inv
      by true is =
          let (command, read) = plain is in
          let said_is : said_in pair.near.policy (Comes pdu) u ≡ said_with_all pair.near.policy (Ok command ∷ []) u =
          ap (λ (b : Bool). cond b (said_with_all pair.near.policy (answers (drop 4 pdu)) u) (Carried Into pdu ∷ asked_between u (takes (channel_of pdu) pdu u))) is ∙ ap (λ list. said_with_all pair.near.policy list u) read in
          let value_is : value_after pair.near.policy (Comes pdu) u ≡ hears_command pair.near.policy (Ok command) u =
          ap (λ (b : Bool). cond b (hears_commands pair.near.policy (answers (drop 4 pdu)) u) (takes (channel_of pdu) pdu u)) is ∙ ap (λ list. hears_commands pair.near.policy list u) read in
          subst (λ (s : List Saying). Inv v (pair.near.run.said ++ s) (value_after pair.near.policy (Comes pdu) u).memory.configuration rest pair.far.coming) (sym said_is)
          (subst (λ (x : Channels). Inv v (pair.near.run.said ++ said_with_all pair.near.policy (Ok command ∷ []) u) x.memory.configuration rest pair.far.coming) (sym value_is)
          (hears-on pair.near.policy v pair.near.run.said u rest pair.far.coming command sound (first command (is, read)) inv))

  -- of the first of what is under way
  first_of : (pdu : List ℕ) (rest : List (List ℕ)) → With pair.near (pdu ∷ rest) → (command : Command) → Brings pdu command → First v u.memory.configuration rest command
  first_of pdu rest inv command brings = record {
    low = λ wish. inv.low pdu (inl refl) command brings wish;
    front = λ wish next stands other brought also. inv.ordered.0 command other brings wish next stands brought also;
    behind = λ last at wish. inv.behind last at pdu (inl refl) command brings wish;
  }

  -- and where it stays
  first_stays : (pdu : List ℕ) (rest : List (List ℕ)) → With pair.near (pdu ∷ rest) → (command : Command) → Brings pdu command → First v u.memory.configuration (pdu ∷ rest) command
  first_stays pdu rest inv command brings = record { low = now.low; front = front; behind = now.behind }
    where
      now : First v u.memory.configuration rest command
      now = first_of pdu rest inv command brings

      front : IsWish command → (next : List ℕ) → StandsIn next (pdu ∷ rest) → (other : Command) → Brings next other → IsWish other → command.identifier ≤ other.identifier
      front wish next (inl same) other brought also =
          let read : answers (drop 4 pdu) ≡ Ok other ∷ [] = subst (λ (p : List ℕ). answers (drop 4 p) ≡ Ok other ∷ []) (sym same) brought.1 in
          let both : Ok command ∷ [] ≡ Ok other ∷ [] = sym brings.1 ∙ read in
          let it : command ≡ other = cc in
          omega (arith, ap (λ (c : Command). c.identifier) it)
      front wish next (inr later) other brought also = now.front wish next later other brought also

  peer_turn : (happening : Happening) → IsRead happening pair.near → PeerInv pair → PeerInv (happens_near happening pair)
  peer_turn (Acts more) read inv = by (is_alone more) refl
    where
      by : (alone : Bool) → is_alone more ≡ alone → PeerInv (cond alone (with_near (occurs more pair.near) pair) pair)
      by true alone = quietly more pair.near.coming (alone_brings more alone) inv
      by false alone = inv
  peer_turn (Puts pdu) read inv = by (next_given u) refl read
    where
      by : (given : Option Given) → next_given u ≡ given → IsReadAs given pdu → PeerInv (puts given pdu pair)
      by None is read = inv
      by (Some given) is read =
          let e : End = occurs (Gives pdu) pair.near in
          more-told v e.run.said e.run.value.memory.configuration pair.near.coming pair.far.coming pdu (given-plain given pdu read) (quietly (Gives pdu) pair.near.coming tt inv)
  peer_turn Takes read inv = by pair.near.coming refl
    where
      by : (coming : List (List ℕ)) → pair.near.coming ≡ coming → PeerInv (with_near (takes_first coming pair.near) pair)
      by [] is = inv
      by (pdu ∷ rest) is =
          let here : With pair.near (pdu ∷ rest) = subst (With pair.near) is inv in
          comes pdu rest (here.plain pdu (inl refl)) (first_of pdu rest here) (fewer-come v pair.near.run.said u.memory.configuration pdu rest pair.far.coming here)
  peer_turn Repeats read inv = by pair.near.coming refl
    where
      by : (coming : List (List ℕ)) → pair.near.coming ≡ coming → PeerInv (with_near (repeats_first coming pair.near) pair)
      by [] is = inv
      by (pdu ∷ rest) is =
          let here : With pair.near (pdu ∷ rest) = subst (With pair.near) is inv in
          subst (With (occurs (Comes pdu) pair.near)) (sym is) (comes pdu (pdu ∷ rest) (here.plain pdu (inl refl)) (first_stays pdu rest here) here)
  peer_turn Loses read inv = by pair.near.coming refl
    where
      by : (coming : List (List ℕ)) → pair.near.coming ≡ coming → PeerInv (with_near (loses_first coming pair.near) pair)
      by [] is = inv
      by (pdu ∷ rest) is = fewer-come v pair.near.run.said u.memory.configuration pdu rest pair.far.coming (subst (With pair.near) is inv)
  peer_turn (Damages other) read inv = by pair.near.coming refl
    where
      by : (coming : List (List ℕ)) → pair.near.coming ≡ coming → PeerInv (with_near (damages_first other coming pair.near) pair)
      by [] is = inv
      by (pdu ∷ rest) is = at (has_fcs (channel_of pdu) u)
        where
          left : With pair.near rest
          left = fewer-come v pair.near.run.said u.memory.configuration pdu rest pair.far.coming (subst (With pair.near) is inv)

          at : (checked : Bool) → PeerInv (with_near (cond checked (occurs (Comes other) (let_go rest pair.near)) (let_go rest pair.near)) pair)
          at true = quietly (Comes other) rest read left
          at false = left

-- ---- all turns

abbrev ReadBehind : (near far : Policy) → List Turn → Turn → Type 0
ReadBehind near far front turn = IsRead turn.happening (end_at turn.side (pair_of near far front))

abbrev RiseBehind : Side → (near far : Policy) → List Turn → Turn → Type 0
RiseBehind side near far front turn = (end_at side (pair_of near far front)).run.value.identifier ≤ (end_at side (pair_after (pair_of near far front) turn)).run.value.identifier

abbrev SingleBehind : Side → (near far : Policy) → List Turn → Turn → Type 0
SingleBehind side near far front turn = AsksOptionsOnce (end_at side (pair_of near far front)).run.value

one_turn : (near far : Policy) (side : Side) (past : List Turn) (at : Side) (happening : Happening) → (let turn : Turn = record { side = at; happening = happening } in ReadBehind near far past turn → RiseBehind side near far past turn → SingleBehind side near far past turn
    → InvOf (seen_from side (pair_of near far past)) → InvOf (seen_from side (pair_after (pair_of near far past) turn)))
one_turn near far Near past Near happening read rises single inv = let pair : Pair = pair_of near far past in owner_turn pair (both-sound near far past).0 (answers-respond near pair.near.run (each-end_runs near far past).0) single happening read rises inv
one_turn near far Near past Far happening read rises single inv = peer_turn (turned (pair_of near far past)) (both-sound near far past).1 happening read inv
one_turn near far Far past Near happening read rises single inv = peer_turn (pair_of near far past) (both-sound near far past).0 happening read inv
one_turn near far Far past Far happening read rises single inv =
    let pair : Pair = turned (pair_of near far past) in owner_turn pair (both-sound near far past).1 (answers-respond far pair.near.run (each-end_runs near far past).1) single happening read rises inv

all_kept : (near far : Policy) (side : Side) (past turns : List Turn) → EachAfter (ReadBehind near far) past turns → EachAfter (RiseBehind side near far) past turns → EachAfter (SingleBehind side near far) past turns → InvOf (seen_from side (pair_of near far past))
    → InvOf (seen_from side (pair_of near far (past ++ turns)))
all_kept near far side past [] read rise single inv = subst (λ (list : List Turn). InvOf (seen_from side (pair_of near far list))) (sym (append-nil past)) inv
all_kept near far side past (turn ∷ turns) (is, read) (rises, rise) (one, single) inv =
    let next_is : pair_of near far (past ++ turn ∷ []) ≡ pair_after (pair_of near far past) turn = fold-append pair_after (new_pair near far) past (turn ∷ []) in
    subst (λ (list : List Turn). InvOf (seen_from side (pair_of near far list))) (append_assoc past (turn ∷ []) turns)
    (all_kept near far side (past ++ turn ∷ []) turns read rise single (subst (λ (p : Pair). InvOf (seen_from side p)) (sym next_is) (one_turn near far side past turn.side turn.happening is rises one inv)))

nothing_yet : Inv no_channels [] None [] []
nothing_yet = record {
  plain = λ pdu none. elim none [ ];
  told = λ pdu none. elim none [ ];
  names = record { below = λ other n asks. cc; apart = λ one other n asks. cc };
  low = λ pdu none. elim none [ ];
  ordered = tt;
  behind = λ last at. cc;
  last_low = λ last at. cc;
  latest = λ i o f p is. elim is [ ];
}

kept : (near far : Policy) (turns : List Turn) (side : Side) → EachAfter (ReadBehind near far) [] turns → EachAfter (RiseBehind side near far) [] turns → EachAfter (SingleBehind side near far) [] turns → InvOf (seen_from side (pair_of near far turns))
kept near far turns side read rise single = all_kept near far side [] turns read rise single (first side)
  where
    first : (which : Side) → InvOf (seen_from which (new_pair near far))
    first Near = nothing_yet
    first Far = nothing_yet

-- ---- what is under way now

in_order : (pair : Pair) (identifier own : ℕ) → InvOf pair → AreUnderWay identifier own pair.far.coming → IsInOrder identifier pair.far
in_order pair identifier own inv (pdu, flags, options, stands, signals, read) = record { latest = latest; again = again }
  where
    behind : (last : Remembered) → pair.far.run.value.memory.configuration ≡ Some last → last.identifier ≤ identifier
    behind last at = inv.behind last at pdu stands _ (signals, read) (own, flags, options, refl)

    latest : (earlier other : ℕ) → HasHeardOptions earlier other pair.far.run.said → earlier ≤ identifier
    latest earlier other (f, p, heard) =
        let (last, at, few) = inv.latest earlier other f p heard in
        let less = behind last at in omega (arith, few, less)

    again : (other : ℕ) → HasHeardOptions identifier other pair.far.run.said → IsLast identifier pair.far.run.value
    again other (f, p, heard) =
        let (last, at, few) = inv.latest identifier other f p heard in
        let less = behind last at in (last, at, omega (arith, few, less))

pub heard-options_are_last : HeardOptionsAreLast
heard-options_are_last near far turns read Near rise single identifier own is = in_order (pair_of near far turns) identifier own (kept near far turns Near read rise single) is
heard-options_are_last near far turns read Far rise single identifier own is = in_order (turned (pair_of near far turns)) identifier own (kept near far turns Far read rise single) is

-- ---- a channel that is open

some_mode : (carrier : Option Carrier) → is_some (option_map carrier_mode carrier) ≡ is_some carrier
some_mode None = refl
some_mode (Some carrier) = refl

-- a request for its options was heard
open_heard : (policy : Policy) (run : Run) → IsSound policy run → (own : ℕ) (held : Held) (setup : Setup) → held_at own run.value ≡ Some held → setup_of held.stage ≡ Some setup → is_open setup ≡ true → IsPetitioned own run.said
open_heard policy run sound own held setup found has opened =
    let r = is-read policy run.said run.value own held setup found has sound in
    accepted-petitioned run.said own r.entry r.found (ap (λ (m : Option Mode). is_some m) r.agrees.set_up.accepted_is ∙ (some_mode setup.carrier ∙ and-left (is_some setup.carrier) (is_granted setup.own) opened))

-- it is not open, or one was heard
either_open : (policy : Policy) (run : Run) → IsSound policy run → (own : ℕ) → IsNotOpen own run.value ⊎ IsPetitioned own run.said
either_open policy run sound own = by (held_at own run.value) refl
  where
    opens : (held : Held) (setup : Setup) → held_at own run.value ≡ Some held → setup_of held.stage ≡ Some setup → (opened : Bool) → is_open setup ≡ opened → IsNotOpen own run.value ⊎ IsPetitioned own run.said
    opens held setup found has true is = inr (open_heard policy run sound own held setup found has is)
    opens held setup found has false is = inl (λ other also there had.
        let same : held ≡ other = let both : Some held ≡ Some other = sym found ∙ there in cc in
        let one : setup ≡ also = let both : Some setup ≡ Some also = sym has ∙ (ap (λ (h : Held). setup_of h.stage) same ∙ had) in cc in ap is_open (sym one) ∙ is)

    staged : (held : Held) → held_at own run.value ≡ Some held → (setup : Option Setup) → setup_of held.stage ≡ setup → IsNotOpen own run.value ⊎ IsPetitioned own run.said
    staged held found (Some setup) has = opens held setup found has (is_open setup) refl
    staged held found None has = inl (λ other also there had.
        let same : held ≡ other = let both : Some held ≡ Some other = sym found ∙ there in cc in
        let never : None ≡ Some also = sym has ∙ (ap (λ (h : Held). setup_of h.stage) same ∙ had) in absurd cc)

    by : (held : Option Held) → held_at own run.value ≡ held → IsNotOpen own run.value ⊎ IsPetitioned own run.said
    by (Some held) found = staged held found (setup_of held.stage) refl
    by None found = inl (λ other also there had. let never : None ≡ Some other = sym found ∙ there in absurd cc)

in_time : (end' : End) → IsSound end'.policy end'.run → (identifier own : ℕ) → IsAskedOnce own end' → AreUnderWay identifier own end'.coming → IsInOrder identifier end' → IsNotOpen own end'.run.value ⊎ IsLast identifier end'.run.value
in_time end' sound identifier own once under order = by (either_open end'.policy end'.run sound own)
  where
    by : IsNotOpen own end'.run.value ⊎ IsPetitioned own end'.run.said → IsNotOpen own end'.run.value ⊎ IsLast identifier end'.run.value
    by (inl not) = inl not
    by (inr (options, (earlier, flags, heard))) =
        let same : earlier ≡ identifier = once earlier identifier (flags, options, heard) under in
        inr (order.again own (subst (λ n. HasHeardOptions n own end'.run.said) same (flags, options, heard)))

pub no-options_come_late : HeardOptionsAreLast → NoOptionsComeLate
no-options_come_late ordered near far turns read Near rise single identifier own once under = in_time (pair_of near far turns).far (both-sound near far turns).1 identifier own once under (ordered near far turns read Near rise single identifier own under)
no-options_come_late ordered near far turns read Far rise single identifier own once under = in_time (pair_of near far turns).near (both-sound near far turns).0 identifier own once under (ordered near far turns read Far rise single identifier own under)
