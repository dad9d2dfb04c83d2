-- What is under way to each end: a PDU on the signalling channel is one command, which its giver meant; and no response says that another
-- one follows.
use Rattle.std.proofs.Common.{◌≡◌, ℕ, List, [], ◌∷◌, ◌++◌, drop, Bool, true, false, cond, eqb, Option, Some, None, Ok, refl, sym, ap, subst, ◌∙◌, ◌⊎◌, inl, inr, append_assoc, append-nil}
use Rattle.std.specs.Prelude.{option_map, find}
use Rattle.std.proofs.lemmas.List.Sums.{fold-append}
use Rattle.own_channel_laws.specs.talk_laws.specs.acl_fragments.specs.Pieces.{channel_of}
use Rattle.own_channel_laws.specs.talk_laws.specs.capture.specs.Histories.{EachAfter}
use Rattle.own_channel_laws.specs.talk_laws.specs.l2cap_signal.specs.Commands.{Command}
use Rattle.own_channel_laws.specs.talk_laws.specs.l2cap_signal.specs.Reading.{answers}
use Rattle.own_channel_laws.specs.channel_model.specs.declared.errand.Errand.{Errand}
use Rattle.own_channel_laws.specs.channel_model.specs.declared.errand.Errand.TheVariants as errands
use Rattle.own_channel_laws.specs.channel_model.specs.Calls.{has_fcs}
use Rattle.own_channel_laws.specs.channel_model.specs.Changing.{held_at}
use Rattle.own_channel_laws.specs.channel_model.specs.Giving.{Given, Signal, Whole, Framed, command_of, connection_at, configuration_by, configuration_at, disconnection_at, on_held, features_command, gives, held_gives, stage_gives, some_carrier_gives, queue_gives, next_given}
use Rattle.own_channel_laws.specs.channel_model.specs.Policies.{Policy}
use Rattle.own_channel_laws.specs.channel_model.specs.Value.{Request, Queued, Answer, Ask, Own, Unasked, Asking, Granted, Carrier, Plain, Retransmitting, Stage, Requested, Connected, Leaving, Closing, Crossed, Held, Channels}
use Rattle.own_channel_laws.specs.channel_model.specs.ertm_model.specs.Giving.{next_frame}
use Rattle.channel_laws.specs.Belonging.{IsReadAs, IsRead}
use Rattle.own_channel_laws.specs.Decisive.{IsDecisive}
use Rattle.channel_laws.specs.Ends.{end_at}
use Rattle.channel_laws.specs.Pairs.{End, Pair, new_pair, Happening, Acts, Puts, Takes, Repeats, Loses, Damages, is_alone, occurs, with_near, puts, let_go, takes_first, repeats_first, loses_first, damages_first, happens_near, Side, Near, Far, turned, Turn, happens_at, pair_after, pair_of}
use Rattle.own_channel_laws.specs.Runs.{Occurrence, Comes, Run, run_of}
use Rattle.own_channel_laws.specs.Signals.{StandsIn}
use Rattle.own_channel_laws.proofs.Deciding.{answers-are_decisive}
use Rattle.channel_laws.proofs.Pairing.{each-end_runs}
use Rattle.own_channel_laws.proofs.Saying.{stands-either}

-- ---- one PDU

-- on the signalling channel it is one command, which is decisive
abbrev pub IsPlainly : List ℕ → Type 0
IsPlainly pdu = eqb (channel_of pdu) 0x0001 ≡ true → (command : Command) × (answers (drop 4 pdu) ≡ Ok command ∷ []) × IsDecisive command.content

abbrev pub AllPlainly : List (List ℕ) → Type 0
AllPlainly coming = (pdu : List ℕ) → StandsIn pdu coming → IsPlainly pdu

pub record BothPlainly (pair : Pair) : Type 0 where
  pub near : AllPlainly pair.near.coming
  pub far : AllPlainly pair.far.coming

-- ---- what is given

pub some_is : {X : Type 0} (x y : X) → Some x ≡ Some y → x ≡ y
some_is x y is = cc

-- an own request is decisive
pub own_decisive : (own : Own) (peer : ℕ) (command : Command) → configuration_by own peer ≡ Some command → IsDecisive command.content
own_decisive Unasked peer command is = cc
own_decisive (Asking request options) peer command is = subst (λ (c : Command). IsDecisive c.content) (some_is _ command is) tt
own_decisive Granted peer command is = cc

pub call_decisive : (held : Held) (stage : Stage) (command : Command) → connection_at stage held ≡ Some command → IsDecisive command.content
call_decisive held (Requested request) command is = subst (λ (c : Command). IsDecisive c.content) (some_is _ command is) tt
call_decisive held (Connected peer setup) command is = cc
call_decisive held (Leaving peer setup request) command is = cc
call_decisive held (Closing peer request checked) command is = cc
call_decisive held (Crossed peer request) command is = cc

pub options_decisive : (stage : Stage) (command : Command) → configuration_at stage ≡ Some command → IsDecisive command.content
options_decisive (Requested request) command is = cc
options_decisive (Connected peer setup) command is = own_decisive setup.own peer command is
options_decisive (Leaving peer setup request) command is = own_decisive setup.own peer command is
options_decisive (Closing peer request checked) command is = cc
options_decisive (Crossed peer request) command is = cc

pub end_decisive : (held : Held) (stage : Stage) (command : Command) → disconnection_at stage held ≡ Some command → IsDecisive command.content
end_decisive held (Requested request) command is = cc
end_decisive held (Connected peer setup) command is = cc
end_decisive held (Leaving peer setup request) command is = subst (λ (c : Command). IsDecisive c.content) (some_is _ command is) tt
end_decisive held (Closing peer request checked) command is = subst (λ (c : Command). IsDecisive c.content) (some_is _ command is) tt
end_decisive held (Crossed peer request) command is = subst (λ (c : Command). IsDecisive c.content) (some_is _ command is) tt

pub features_decisive : (features : Option Request) (command : Command) → features_command features ≡ Some command → IsDecisive command.content
features_decisive None command is = cc
features_decisive (Some request) command is = subst (λ (c : Command). IsDecisive c.content) (some_is _ command is) tt

pub asked_decisive : (errand : Errand) (v : Channels) (command : Command) → command_of errand v ≡ Some command → IsDecisive command.content
asked_decisive (errands.Connection own) v command is = by (held_at own v) is
  where
    by : (held : Option Held) → on_held (λ held. connection_at held.stage held) held ≡ Some command → IsDecisive command.content
    by None at = cc
    by (Some held) at = call_decisive held held.stage command at
asked_decisive (errands.Configuration own) v command is = by (held_at own v) is
  where
    by : (held : Option Held) → on_held (λ held. configuration_at held.stage) held ≡ Some command → IsDecisive command.content
    by None at = cc
    by (Some held) at = options_decisive held.stage command at
asked_decisive (errands.Disconnection own) v command is = by (held_at own v) is
  where
    by : (held : Option Held) → on_held (λ held. disconnection_at held.stage held) held ≡ Some command → IsDecisive command.content
    by None at = cc
    by (Some held) at = end_decisive held held.stage command at
asked_decisive errands.Features v command is = features_decisive v.features command is

-- what a channel gives is no command
pub no_signal : (held : Option Held) (command : Command) → held_gives held ≡ Some (Signal command) → ⊥
no_signal None command is = cc
no_signal (Some held) command is = by held.stage is
  where
    carried : (carrier : Option Carrier) (peer : ℕ) → some_carrier_gives carrier peer ≡ Some (Signal command) → ⊥
    carried None peer is = cc
    carried (Some (Plain agreed None)) peer is = cc
    carried (Some (Plain agreed (Some sdu))) peer is = cc
    carried (Some (Retransmitting machine)) peer is = framed (next_frame machine) is
      where
        framed : (found : _) → option_map (Framed peer) found ≡ Some (Signal command) → ⊥
        framed None is = cc
        framed (Some frame) is = cc

    by : (stage : Stage) → stage_gives stage ≡ Some (Signal command) → ⊥
    by (Requested request) is = cc
    by (Connected peer setup) is = carried setup.carrier peer is
    by (Leaving peer setup request) is = carried setup.carrier peer is
    by (Closing peer request checked) is = cc
    by (Crossed peer request) is = cc

pub signal_decisive : (policy : Policy) (list : List Occurrence) (command : Command) → next_given (run_of policy list).value ≡ Some (Signal command) → IsDecisive command.content
signal_decisive policy list command given = by v.queue refl given
  where
    v : Channels
    v = (run_of policy list).value

    own : (errand : Errand) (found : Option Command) → command_of errand v ≡ found → option_map Signal found ≡ Some (Signal command) → IsDecisive command.content
    own errand None at is = cc
    own errand (Some other) at is = let same : other ≡ command = cc in asked_decisive errand v command (at ∙ ap Some same)

    by : (queue : List Queued) → v.queue ≡ queue → queue_gives queue v ≡ Some (Signal command) → IsDecisive command.content
    by [] at is = absurd (no_signal (find gives v.held) command is)
    by (Answer other ∷ behind) at is =
        let same : other ≡ command = cc in
        answers-are_decisive policy list command (subst (StandsIn (Answer command)) (sym at) (inl (ap Answer same)))
    by (Ask errand ∷ behind) at is = own errand (command_of errand v) refl is

pub given_plainly : (policy : Policy) (list : List Occurrence) (v : Channels) (given : Given) (pdu : List ℕ) → v ≡ (run_of policy list).value → next_given v ≡ Some given → IsReadAs (Some given) pdu → IsPlainly pdu
given_plainly policy list v (Signal command) pdu v_is is read signals = (command, read, signal_decisive policy list command (sym (ap next_given v_is) ∙ is))
given_plainly policy list v (Whole peer sdu) pdu v_is is read signals = let never : true ≡ false = sym signals ∙ read in absurd cc
given_plainly policy list v (Framed peer frame) pdu v_is is read signals = let never : true ≡ false = sym signals ∙ read in absurd cc

-- ---- each turn

pub more_plainly : (coming : List (List ℕ)) (pdu : List ℕ) → IsPlainly pdu → AllPlainly coming → AllPlainly (coming ++ pdu ∷ [])
more_plainly coming pdu one all other stands = by (stands-either other coming (pdu ∷ []) stands)
  where
    by : StandsIn other coming ⊎ StandsIn other (pdu ∷ []) → IsPlainly other
    by (inl old) = all other old
    by (inr (inl same)) = subst IsPlainly same one
    by (inr (inr none)) = elim none [ ]

pub fewer_plainly : (pdu : List ℕ) (coming rest : List (List ℕ)) → coming ≡ pdu ∷ rest → AllPlainly coming → AllPlainly rest
fewer_plainly pdu coming rest is all other stands = all other (subst (StandsIn other) (sym is) (inr stands))

pub near_plainly : (pair : Pair) (end' : End) → AllPlainly end'.coming → BothPlainly pair → BothPlainly (with_near end' pair)
near_plainly pair end' all both = record { near = all; far = both.far }

pub puts_plainly : (policy : Policy) (list : List Occurrence) (given : Option Given) (pdu : List ℕ) (pair : Pair) → pair.near.run ≡ run_of policy list → next_given pair.near.run.value ≡ given → IsReadAs given pdu → BothPlainly pair → BothPlainly (puts given pdu pair)
puts_plainly policy list None pdu pair run_is is read both = both
puts_plainly policy list (Some given) pdu pair run_is is read both =
    record { near = both.near; far = more_plainly pair.far.coming pdu (given_plainly policy list pair.near.run.value given pdu (ap (λ (run : Run). run.value) run_is) is read) both.far }

pub turn_plainly : (policy : Policy) (list : List Occurrence) (happening : Happening) (pair : Pair) → pair.near.run ≡ run_of policy list → IsRead happening pair.near → BothPlainly pair → BothPlainly (happens_near happening pair)
turn_plainly policy list (Acts more) pair run_is read both = by (is_alone more)
  where
    by : (alone : Bool) → BothPlainly (cond alone (with_near (occurs more pair.near) pair) pair)
    by true = near_plainly pair (occurs more pair.near) both.near both
    by false = both
turn_plainly policy list (Puts pdu) pair run_is read both = puts_plainly policy list (next_given pair.near.run.value) pdu pair run_is refl read both
turn_plainly policy list Takes pair run_is read both = by pair.near.coming refl
  where
    by : (coming : List (List ℕ)) → pair.near.coming ≡ coming → BothPlainly (with_near (takes_first coming pair.near) pair)
    by [] is = near_plainly pair pair.near both.near both
    by (pdu ∷ coming) is = near_plainly pair (occurs (Comes pdu) (let_go coming pair.near)) (fewer_plainly pdu pair.near.coming coming is both.near) both
turn_plainly policy list Repeats pair run_is read both = by pair.near.coming
  where
    by : (coming : List (List ℕ)) → BothPlainly (with_near (repeats_first coming pair.near) pair)
    by [] = near_plainly pair pair.near both.near both
    by (pdu ∷ coming) = near_plainly pair (occurs (Comes pdu) pair.near) both.near both
turn_plainly policy list Loses pair run_is read both = by pair.near.coming refl
  where
    by : (coming : List (List ℕ)) → pair.near.coming ≡ coming → BothPlainly (with_near (loses_first coming pair.near) pair)
    by [] is = near_plainly pair pair.near both.near both
    by (pdu ∷ coming) is = near_plainly pair (let_go coming pair.near) (fewer_plainly pdu pair.near.coming coming is both.near) both
turn_plainly policy list (Damages other) pair run_is read both = by pair.near.coming refl
  where
    by : (coming : List (List ℕ)) → pair.near.coming ≡ coming → BothPlainly (with_near (damages_first other coming pair.near) pair)
    by [] is = near_plainly pair pair.near both.near both
    by (pdu ∷ coming) is = at (has_fcs (channel_of pdu) pair.near.run.value)
      where
        at : (checked : Bool) → BothPlainly (with_near (cond checked (occurs (Comes other) (let_go coming pair.near)) (let_go coming pair.near)) pair)
        at true = near_plainly pair (occurs (Comes other) (let_go coming pair.near)) (fewer_plainly pdu pair.near.coming coming is both.near) both
        at false = near_plainly pair (let_go coming pair.near) (fewer_plainly pdu pair.near.coming coming is both.near) both

pub turned_plainly : (pair : Pair) → BothPlainly pair → BothPlainly (turned pair)
turned_plainly pair both = record { near = both.far; far = both.near }

pub all_plainly : (near far : Policy) (past turns : List Turn) → EachAfter (λ front turn. IsRead turn.happening (end_at turn.side (pair_of near far front))) past turns → BothPlainly (pair_of near far past) → BothPlainly (pair_of near far (past ++ turns))
all_plainly near far past [] read both = subst (λ (list : List Turn). BothPlainly (pair_of near far list)) (sym (append-nil past)) both
all_plainly near far past (turn ∷ turns) (now, read) both =
    subst (λ (list : List Turn). BothPlainly (pair_of near far list)) (append_assoc past (turn ∷ []) turns)
    (all_plainly near far (past ++ turn ∷ []) turns read
    (subst BothPlainly (sym (fold-append pair_after (new_pair near far) past (turn ∷ []))) (at turn.side turn.happening now)))
  where
    pair : Pair
    pair = pair_of near far past

    at : (side : Side) (happening : Happening) → IsRead happening (end_at side pair) → BothPlainly (happens_at side happening pair)
    at Near happening fair = let (list, is) = (each-end_runs near far past).0 in turn_plainly near list happening pair is fair both
    at Far happening fair =
        let (list, is) = (each-end_runs near far past).1 in
        turned_plainly (happens_near happening (turned pair)) (turn_plainly far list happening (turned pair) is fair (turned_plainly pair both))

-- whatever the link loses, repeats and damages
pub come-plainly : (near far : Policy) (turns : List Turn) → EachAfter (λ front turn. IsRead turn.happening (end_at turn.side (pair_of near far front))) [] turns → BothPlainly (pair_of near far turns)
come-plainly near far turns read = all_plainly near far [] turns read (record { near = λ pdu none. elim none [ ]; far = λ pdu none. elim none [ ] })
