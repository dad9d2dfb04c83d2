-- A turn, as a host and what was sent to its peer see it.
use Rattle.std.proofs.Common.{◌≡◌, ℕ, List, [], ◌∷◌, ◌++◌, drop, Bool, true, false, cond, eqb, Option, Some, None, Ok, refl, sym, ap, subst, ◌∙◌, ◌⊎◌, inl, inr, append_assoc, append-nil}
use Rattle.std.proofs.lemmas.List.Sums.{fold-append}
use Rattle.channel_laws.specs.acl_fragments.specs.Pieces.{channel_of}
use Rattle.channel_laws.specs.capture.specs.Histories.{EachAfter}
use Rattle.channel_laws.specs.capture.specs.declared.flow.Flow.TheVariants.{Into}
use Rattle.channel_laws.specs.l2cap_signal.specs.Commands.{Command}
use Rattle.channel_laws.specs.l2cap_signal.specs.Reading.{answers}
use Rattle.channel_laws.specs.link_talk.specs.Sayings.{Carried}
use Rattle.channel_laws.specs.channel_model.specs.Calls.{has_fcs}
use Rattle.channel_laws.specs.channel_model.specs.Carrying.{takes}
use Rattle.channel_laws.specs.channel_model.specs.Giving.{Given, next_given}
use Rattle.channel_laws.specs.channel_model.specs.Policies.{Policy}
use Rattle.channel_laws.specs.Belonging.{IsReadAs, IsRead, AreRead}
use Rattle.channel_laws.specs.Ends.{end_at}
use Rattle.channel_laws.specs.Modes.{policy_of}
use Rattle.channel_laws.specs.OwnTalk.{asked_between, said_with_all}
use Rattle.channel_laws.specs.Pairs.{End, Pair, new_end, new_pair, Happening, Acts, Puts, Takes, Repeats, Loses, Damages, is_alone, occurs, with_near, puts, let_go, takes_first, repeats_first, loses_first, damages_first, happens_near, Side, Near, Far, turned, Turn, pair_after, pair_of}
use Rattle.channel_laws.specs.Runs.{Occurrence, Comes, Gives, said_in, Run, new_link, run_on, run_of}
use Rattle.channel_laws.specs.Signals.{StandsIn}
use Rattle.channel_laws.proofs.Pairing.{each-end_runs, end-policy}
use Rattle.channel_laws.proofs.Saying.{stands-either}
use Rattle.channel_laws.proofs.Sharing.{near_grows}
use Rattle.disconnection_laws.proofs.Ending.{BringsNone}
use Rattle.disconnection_laws.proofs.Meeting.{alone_brings}
use Rattle.configuration_laws.proofs.Asking.{Brings, given-plain}
use Rattle.configuration_laws.proofs.Keeping.{IsPlain, one-more}
use Rattle.accepting_laws.proofs.Hearing.{heard, hears-none, heard-is}

-- a command was sent to an end: its host heard it, or a PDU that brings it is under way to it
abbrev pub Sent : End → Command → Type 0
Sent end' command = StandsIn (heard command) end'.run.said ⊎ ((pdu : List ℕ) × StandsIn pdu end'.coming × Brings pdu command)

-- no more was sent to an end, and no more is under way to it
pub record IsLess (before after : End) : Type 0 where
  pub sent : (command : Command) → Sent after command → Sent before command
  pub coming : (pdu : List ℕ) → StandsIn pdu after.coming → StandsIn pdu before.coming

abbrev ArePlain : List (List ℕ) → Type 0
ArePlain coming = (pdu : List ℕ) → StandsIn pdu coming → IsPlain pdu

-- ---- at the end to which it was sent

module _ (pair : Pair) (plain : ArePlain pair.near.coming) where
  abbrev e : End
  e = pair.near

  same_end : IsLess e e
  same_end = record { sent = λ command sent. sent; coming = λ pdu stands. stands }

  less_brought : (rest : List (List ℕ)) (command : Command) → ((pdu : List ℕ) → StandsIn pdu rest → StandsIn pdu e.coming) → (pdu : List ℕ) × StandsIn pdu rest × Brings pdu command → Sent e command
  less_brought rest command less (pdu, stands, brings) = inr (pdu, less pdu stands, brings)

  let_less : (rest : List (List ℕ)) → ((pdu : List ℕ) → StandsIn pdu rest → StandsIn pdu e.coming) → IsLess e (let_go rest e)
  let_less rest less = record { sent = sent; coming = less }
    where
      sent : (command : Command) → Sent (let_go rest e) command → Sent e command
      sent command (inl old) = inl old
      sent command (inr brought) = less_brought rest command less brought

  -- it hears nothing
  quietly : (more : Occurrence) (rest : List (List ℕ)) → BringsNone more → ((pdu : List ℕ) → StandsIn pdu rest → StandsIn pdu e.coming) → IsLess e (occurs more (let_go rest e))
  quietly more rest none less = record { sent = sent; coming = less }
    where
      sent : (command : Command) → Sent (occurs more (let_go rest e)) command → Sent e command
      sent command (inr brought) = less_brought rest command less brought
      sent command (inl hears) = by (stands-either (heard command) e.run.said (said_in e.policy more e.run.value) hears)
        where
          by : StandsIn (heard command) e.run.said ⊎ StandsIn (heard command) (said_in e.policy more e.run.value) → Sent e command
          by (inl old) = inl old
          by (inr new) = absurd (hears-none e.policy more e.run.value none command new)

  -- the first of what is under way comes in
  comes : (pdu : List ℕ) (coming rest : List (List ℕ)) → e.coming ≡ pdu ∷ coming → ((other : List ℕ) → StandsIn other rest → StandsIn other e.coming) → IsLess e (occurs (Comes pdu) (let_go rest e))
  comes pdu coming rest is less = by (eqb (channel_of pdu) 0x0001) refl
    where
      stands : StandsIn pdu e.coming
      stands = subst (StandsIn pdu) (sym is) (inl refl)

      by : (signals : Bool) → eqb (channel_of pdu) 0x0001 ≡ signals → IsLess e (occurs (Comes pdu) (let_go rest e))
      by false apart = quietly (Comes pdu) rest apart less
      by true signals = record { sent = sent; coming = less }
        where
          brought : (command : Command) × (answers (drop 4 pdu) ≡ Ok command ∷ [])
          brought = plain pdu stands signals

          said_is : said_in e.policy (Comes pdu) e.run.value ≡ said_with_all e.policy (Ok brought.0 ∷ []) e.run.value
          said_is =
              ap (λ (b : Bool). cond b (said_with_all e.policy (answers (drop 4 pdu)) e.run.value) (Carried Into pdu ∷ asked_between e.run.value (takes (channel_of pdu) pdu e.run.value))) signals
              ∙ ap (λ list. said_with_all e.policy list e.run.value) brought.1

          sent : (command : Command) → Sent (occurs (Comes pdu) (let_go rest e)) command → Sent e command
          sent command (inr more) = less_brought rest command less more
          sent command (inl hears) = at (stands-either (heard command) e.run.said (said_in e.policy (Comes pdu) e.run.value) hears)
            where
              at : StandsIn (heard command) e.run.said ⊎ StandsIn (heard command) (said_in e.policy (Comes pdu) e.run.value) → Sent e command
              at (inl old) = inl old
              at (inr new) = let it = heard-is e.policy brought.0 command e.run.value (subst (StandsIn (heard command)) said_is new) in inr (pdu, stands, (signals, brought.1 ∙ ap (λ (c : Command). Ok c ∷ []) it.0))

  pub near-less : (happening : Happening) → IsRead happening e → IsLess e (happens_near happening pair).near
  near-less (Acts more) read = by (is_alone more) refl
    where
      by : (alone : Bool) → is_alone more ≡ alone → IsLess e (cond alone (with_near (occurs more e) pair) pair).near
      by true alone = quietly more e.coming (alone_brings more alone) (λ pdu stands. stands)
      by false alone = same_end
  near-less (Puts pdu) read = by (next_given e.run.value)
    where
      by : (given : Option Given) → IsLess e (puts given pdu pair).near
      by None = same_end
      by (Some given) = quietly (Gives pdu) e.coming tt (λ other stands. stands)
  near-less Takes read = by e.coming refl
    where
      by : (coming : List (List ℕ)) → e.coming ≡ coming → IsLess e (takes_first coming e)
      by [] is = same_end
      by (pdu ∷ coming) is = comes pdu coming coming is (λ other stands. subst (StandsIn other) (sym is) (inr stands))
  near-less Repeats read = by e.coming refl
    where
      by : (coming : List (List ℕ)) → e.coming ≡ coming → IsLess e (repeats_first coming e)
      by [] is = same_end
      by (pdu ∷ coming) is = comes pdu coming e.coming is (λ other stands. stands)
  near-less Loses read = by e.coming refl
    where
      by : (coming : List (List ℕ)) → e.coming ≡ coming → IsLess e (loses_first coming e)
      by [] is = same_end
      by (pdu ∷ coming) is = let_less coming (λ other stands. subst (StandsIn other) (sym is) (inr stands))
  near-less (Damages other) read = by e.coming refl
    where
      by : (coming : List (List ℕ)) → e.coming ≡ coming → IsLess e (damages_first other coming e)
      by [] is = same_end
      by (pdu ∷ coming) is = at (has_fcs (channel_of pdu) e.run.value)
        where
          less : (one : List ℕ) → StandsIn one coming → StandsIn one e.coming
          less one stands = subst (StandsIn one) (sym is) (inr stands)

          at : (checked : Bool) → IsLess e (cond checked (occurs (Comes other) (let_go coming e)) (let_go coming e))
          at true = quietly (Comes other) coming read less
          at false = let_less coming less

-- ---- something of what happened to a host, and of its peer, to which it sends

abbrev pub OfSender : Type 1
OfSender = Run → End → Type 0

-- it stays as something occurs to the host, as it gives a PDU, and as no more is sent
pub record Sends (policy : Policy) (I : OfSender) : Type 0 where
  pub occurs : (list : List Occurrence) (one : Occurrence) (peer : End) → I (run_of policy list) peer → I (run_of policy (list ++ one ∷ [])) peer
  pub gives : (list : List Occurrence) (peer : End) (given : Given) (pdu : List ℕ) → next_given (run_of policy list).value ≡ Some given → IsReadAs (Some given) pdu → I (run_of policy list) peer → I (run_of policy list) (record peer { coming = peer.coming ++ pdu ∷ [] })
  pub less : (list : List Occurrence) (before after : End) → IsLess before after → I (run_of policy list) before → I (run_of policy list) after

-- and each PDU that is under way is one command
record Way (I : OfSender) (run : Run) (peer : End) : Type 0 where
  plain : ArePlain peer.coming
  is : I run peer

module _ (policy : Policy) (I : OfSender) (sends : Sends policy I) where
  -- at the host
  module _ (pair : Pair) (policy_is : pair.near.policy ≡ policy) (list : List Occurrence) (run_is : pair.near.run ≡ run_of policy list) where
    abbrev Holds : Pair → Type 0
    Holds after = Way I after.near.run after.far

    occurs_to : (more : Occurrence) (peer : End) → I pair.near.run peer → I (run_on pair.near.policy pair.near.run more) peer
    occurs_to more peer is = subst (λ (run : Run). I run peer) (sym after_is) (sends.occurs list more peer (subst (λ (run : Run). I run peer) run_is is))
      where
        after_is : run_on pair.near.policy pair.near.run more ≡ run_of policy (list ++ more ∷ [])
        after_is =
            ap (λ (p : Policy). run_on p pair.near.run more) policy_is
            ∙ (ap (λ (r : Run). run_on policy r more) run_is ∙ sym (fold-append (run_on policy) new_link list (more ∷ [])))

    moves : (more : Occurrence) (coming : List (List ℕ)) → Holds pair → Holds (with_near (occurs more (let_go coming pair.near)) pair)
    moves more coming way = record { plain = way.plain; is = occurs_to more pair.far way.is }

    puts_one : (pdu : List ℕ) (given : Given) → next_given pair.near.run.value ≡ Some given → IsReadAs (Some given) pdu → Holds pair → Holds (puts (Some given) pdu pair)
    puts_one pdu given is read way = record {
      plain = one-more IsPlain pair.far.coming pdu (given-plain given pdu read) way.plain;
      is =
          occurs_to (Gives pdu) (record pair.far { coming = pair.far.coming ++ pdu ∷ [] })
          (subst (λ (run : Run). I run (record pair.far { coming = pair.far.coming ++ pdu ∷ [] })) (sym run_is)
          (sends.gives list pair.far given pdu (sym (ap (λ (run : Run). next_given run.value) run_is) ∙ is) read (subst (λ (run : Run). I run pair.far) run_is way.is)));
    }

    owner_turn : (happening : Happening) → IsRead happening pair.near → Holds pair → Holds (happens_near happening pair)
    owner_turn (Acts more) read way = by (is_alone more)
      where
        by : (alone : Bool) → Holds (cond alone (with_near (occurs more pair.near) pair) pair)
        by true = moves more pair.near.coming way
        by false = way
    owner_turn (Puts pdu) read way = by (next_given pair.near.run.value) refl read
      where
        by : (given : Option Given) → next_given pair.near.run.value ≡ given → IsReadAs given pdu → Holds (puts given pdu pair)
        by None is read = way
        by (Some given) is read = puts_one pdu given is read way
    owner_turn Takes read way = by pair.near.coming
      where
        by : (coming : List (List ℕ)) → Holds (with_near (takes_first coming pair.near) pair)
        by [] = way
        by (pdu ∷ coming) = moves (Comes pdu) coming way
    owner_turn Repeats read way = by pair.near.coming
      where
        by : (coming : List (List ℕ)) → Holds (with_near (repeats_first coming pair.near) pair)
        by [] = way
        by (pdu ∷ coming) = moves (Comes pdu) pair.near.coming way
    owner_turn Loses read way = by pair.near.coming
      where
        by : (coming : List (List ℕ)) → Holds (with_near (loses_first coming pair.near) pair)
        by [] = way
        by (pdu ∷ coming) = record { plain = way.plain; is = way.is }
    owner_turn (Damages other) read way = by pair.near.coming
      where
        at : (coming : List (List ℕ)) (checked : Bool) → Holds (with_near (cond checked (occurs (Comes other) (let_go coming pair.near)) (let_go coming pair.near)) pair)
        at coming true = moves (Comes other) coming way
        at coming false = record { plain = way.plain; is = way.is }

        by : (coming : List (List ℕ)) → Holds (with_near (damages_first other coming pair.near) pair)
        by [] = way
        by (pdu ∷ coming) = at coming (has_fcs (channel_of pdu) pair.near.run.value)

  -- at its peer, which is the near end here
  peer_turn : (pair : Pair) (list : List Occurrence) → pair.far.run ≡ run_of policy list → (happening : Happening) → IsRead happening pair.near → Way I pair.far.run pair.near → (let after : Pair = happens_near happening pair in Way I after.far.run after.near)
  peer_turn pair list run_is happening read way = subst (λ (run : Run). Way I run (happens_near happening pair).near) (sym (near_grows happening pair).1) (record {
    plain = λ pdu stands. way.plain pdu (less.coming pdu stands);
    is =
        subst (λ (run : Run). I run (happens_near happening pair).near) (sym run_is)
        (sends.less list pair.near (happens_near happening pair).near less (subst (λ (run : Run). I run pair.near) run_is way.is));
  })
    where
      less : IsLess pair.near (happens_near happening pair).near
      less = near-less pair way.plain happening read

-- ---- all turns

module _ (I : Policy → OfSender) (sends : (policy : Policy) → Sends policy (I policy)) (begins : (policy other : Policy) → I policy new_link (new_end other)) (near far : Policy) where
  abbrev WayAt : Side → Pair → Type 0
  WayAt side pair = Way (I (policy_of side near far)) (end_at side pair).run (end_at side (turned pair))

  abbrev ReadBehind : List Turn → Turn → Type 0
  ReadBehind front turn = IsRead turn.happening (end_at turn.side (pair_of near far front))

  one_turn : (side : Side) (past : List Turn) (at : Side) (happening : Happening) → (let turn : Turn = record { side = at; happening = happening } in ReadBehind past turn → WayAt side (pair_of near far past) → WayAt side (pair_after (pair_of near far past) turn))
  one_turn Near past Near happening read way =
      let (list, is) = (each-end_runs near far past).0 in owner_turn near (I near) (sends near) (pair_of near far past) (end-policy near far past Near) list is happening read way
  one_turn Near past Far happening read way = let (list, is) = (each-end_runs near far past).0 in peer_turn near (I near) (sends near) (turned (pair_of near far past)) list is happening read way
  one_turn Far past Near happening read way = let (list, is) = (each-end_runs near far past).1 in peer_turn far (I far) (sends far) (pair_of near far past) list is happening read way
  one_turn Far past Far happening read way =
      let (list, is) = (each-end_runs near far past).1 in owner_turn far (I far) (sends far) (turned (pair_of near far past)) (end-policy near far past Far) list is happening read way

  all_turns : (side : Side) (past turns : List Turn) → EachAfter ReadBehind past turns → WayAt side (pair_of near far past) → WayAt side (pair_of near far (past ++ turns))
  all_turns side past [] read way = subst (λ (list : List Turn). WayAt side (pair_of near far list)) (sym (append-nil past)) way
  all_turns side past (turn ∷ turns) (now, read) way =
      subst (λ (list : List Turn). WayAt side (pair_of near far list)) (append_assoc past (turn ∷ []) turns)
      (all_turns side (past ++ turn ∷ []) turns read (subst (WayAt side) (sym (fold-append pair_after (new_pair near far) past (turn ∷ []))) (one_turn side past turn.side turn.happening now way)))

  first : (side : Side) → WayAt side (new_pair near far)
  first Near = record { plain = λ pdu none. elim none [ ]; is = begins near far }
  first Far = record { plain = λ pdu none. elim none [ ]; is = begins far near }

  -- at each moment of a link
  pub turns-send : (turns : List Turn) → AreRead near far turns → (side : Side) → I (policy_of side near far) (end_at side (pair_of near far turns)).run (end_at side (turned (pair_of near far turns)))
  turns-send turns read side = (all_turns side [] turns read (first side)).is
