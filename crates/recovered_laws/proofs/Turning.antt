-- A channel that two hosts have in common, with one turn of one of them: its machines do nothing, or one turn of two ends.
use Rattle.std.proofs.Common.{◌≡◌, ℕ, ◌≤◌, List, [], ◌∷◌, ◌++◌, drop, length, Bool, true, false, cond, eqb, Option, Some, None, Ok, Err, refl, sym, ap, subst, ◌∙◌, ◌⊎◌, inl, inr, arith}
use Rattle.std.specs.Prelude.{find, option_map, is_some, nat_le}
use Rattle.std.proofs.lemmas.Bool.{eqb-true}
use Rattle.channel_laws.specs.bt_base.proofs.OctetLemmas.{le16-number}
use Rattle.channel_laws.specs.acl_fragments.specs.Pieces.{channel_of}
use Rattle.channel_laws.specs.l2cap_signal.specs.Commands.{Command, spelling}
use Rattle.channel_laws.specs.l2cap_signal.specs.Reading.{answers}
use Rattle.channel_laws.specs.l2cap_config.specs.declared.wish.Agreed.{Agreed}
use Rattle.channel_laws.specs.ertm_frames.specs.declared.refusal.FrameRefusal.{FrameRefusal}
use Rattle.channel_laws.specs.ertm_frames.specs.declared.refusal.FrameRefusal.TheVariants.{Short, BadFcs}
use Rattle.channel_laws.specs.ertm_frames.specs.Frames.{PlainFrame}
use Rattle.channel_laws.specs.ertm_frames.specs.Reading.{answer_in}
use Rattle.channel_laws.specs.ertm_frames.proofs.Spelled.{written-read}
use Rattle.channel_laws.specs.ertm_frames.proofs.WorkedOut.{answer-is_worked_out}
use Rattle.channel_laws.specs.ertm_model.specs.declared.reason.ErtmReason.{ErtmReason}
use Rattle.channel_laws.specs.ertm_model.specs.declared.reason.ErtmReason.TheVariants.{RetryLimit}
use Rattle.channel_laws.specs.ertm_model.specs.Value.{Kept, Poll, NoPoll, Due, Waits, Ertm}
use Rattle.channel_laws.specs.ertm_model.specs.Submitting.{submitted}
use Rattle.channel_laws.specs.ertm_model.specs.Giving.{Giving, giving, next_frame, after_by, after_frame, closing, polling, first_poll, poll_timed, open_timed, timed}
use Rattle.channel_laws.specs.ertm_model.specs.Hearing.{refusal_fault, closed_by}
use Rattle.channel_laws.specs.ertm_model.specs.Pair.{End as MachineEnd, Give, Fire, Submit, Pass, Lose, Repeat, gave, behind_front, Pair as Machines, Turn as MachineTurn, ByA, ByB, turned as machines_turned, MayTurn}
use Rattle.channel_laws.specs.ertm_model.specs.Order.{StandsBoth}
use Rattle.channel_laws.specs.link_talk.specs.declared.channel.Channel.{Channel}
use Rattle.channel_laws.specs.channel_model.specs.Value.{Queued, Answer, Ask, Own, Unasked, Asking, Granted, Carrier, Plain, Retransmitting, Setup, Stage, Requested, Connected, Leaving, Closing, Crossed, Held, Channels}
use Rattle.channel_laws.specs.channel_model.specs.Policies.{Policy}
use Rattle.channel_laws.specs.channel_model.specs.Changing.{has_own, held_at, is_open, is_stated, setup_of}
use Rattle.channel_laws.specs.channel_model.specs.Carrying.{read_by, machine_heard, is_frame, shows, is_taken_with, takes}
use Rattle.channel_laws.specs.channel_model.specs.Giving.{Given, Signal, Whole, Framed, some_carrier_gives, stage_gives, gives, carrier_spent, held_gives, held_given, queue_gives, queue_given, next_given, command_of, counted}
use Rattle.channel_laws.specs.channel_model.specs.Hearing.{hears_commands, hears}
use Rattle.channel_laws.specs.channel_model.specs.Calls.{open_carrier, carrier_if, carrier_mtu, setup_on, peer_mtu, has_fcs, connected, asks_features, disconnected, sends, after_event}
use Rattle.channel_laws.specs.channel_model.specs.Timing.{timed_out}
use Rattle.channel_laws.specs.channel_model.proofs.Lookups.{own_of, eqb-same, found-distinct, find-placed}
use Rattle.channel_laws.specs.channel_model.proofs.Going.{IsStated, Walks}
use Rattle.channel_laws.specs.channel_model.proofs.Walking.{commands-go}
use Rattle.channel_laws.specs.channel_model.proofs.Calling.{connected-goes, asks-features-goes, disconnected-goes, timed-goes}
use Rattle.channel_laws.specs.Runs.{Occurrence, Comes, Connects, AsksFeatures, Disconnects, Sends, Gives, Fires, Tells}
use Rattle.channel_laws.specs.Views.{peer_of}
use Rattle.channel_laws.specs.Tries.{is_firing}
use Rattle.channel_laws.specs.Frames.{IsSpelled, IsUttered}
use Rattle.channel_laws.specs.Pairs.{End, Pair, Happening, Acts, Puts, Takes, Repeats, Loses, Damages, is_alone, occurs, with_near, puts, let_go, takes_first, repeats_first, loses_first, damages_first, happens_near}
use Rattle.channel_laws.specs.Ends.{DoesSo}
use Rattle.channel_laws.specs.Pipes.{IsTakeable, IsAddressed, IsSeen, IsCarried, Suits}
use Rattle.channel_laws.proofs.Attending.{submits-aside, gives-aside}
use Rattle.channel_laws.proofs.Running.{IsSound}
use Rattle.channel_laws.proofs.Keeping.{walks-keep}
use Rattle.channel_laws.proofs.Conveying.{under-else, under-here, low-apart, counted-held, peers-apart}
use Rattle.channel_laws.proofs.Joining.{Reads, Terms, Holds, IsBelow, next-ends_none}
use Rattle.channel_laws.proofs.Partaking.{IsMate, Agrees, IsShort, SendsShort, settle}
use Rattle.channel_laws.proofs.Passages.{spelled-frame}
use Rattle.channel_laws.proofs.Piped.{under_way, sends-others}
use Rattle.channel_laws.proofs.Piping.{took-machine}
use Rattle.channel_laws.proofs.Taking.{takes-others}
use Rattle.recovered_laws.proofs.Moving.{same_queue, submitted_queue, ends-submits, ends-gives, ends-front, front-machine, ends-passes, ends-repeats, ends-loses, gone-holds}
use Rattle.recovered_laws.proofs.Twins.{OfEnd, On, Here, here-also, here-both, here-same, here-walks, WalksOn, Goes, walks-on, Twins, twins-also, FiresOn, Both, both-follow}
use Rattle.recovered_laws.proofs.Doing.{HearsSo, MaySkip, here-takes, SubmitsSo, here-sends, GivesSo, here-gives}

-- ---- what the ends may do then

abbrev pub Move : MachineTurn → (K L : Machines → Type 0) → Type 0
Move turn K L = (p : Machines) → StandsBoth p → MayTurn turn p → K p → L (machines_turned turn p)

abbrev pub Moves : Happening → (K L : Machines → Type 0) → Type 0
Moves (Acts occurrence) K L = (is_firing occurrence ≡ true → Move (ByA Fire) K L) × ((sdu : List ℕ) → Move (ByA (Submit sdu)) K L)
Moves (Puts pdu) K L = Move (ByA Give) K L
Moves Takes K L = Move (ByB Pass) K L
Moves Repeats K L = Move (ByB Repeat) K L
Moves Loses K L = Move (ByB Lose) K L
Moves (Damages pdu) K L = Move (ByB Lose) K L

-- the machines of the channel at both hosts, where both have it
abbrev pub Joint : Terms → Channel → (Machines → Type 0) → Pair → Type 0
Joint t channel K pair = Here pair.near.policy channel.own (Both t (under_way channel.own pair.near.coming) (under_way channel.peer pair.far.coming) K pair.far.policy channel.peer pair.far.run.value) pair.near.run.value

-- ---- a timer that fires again does nothing

pub timed-twice : (m : Ertm) → timed (timed m) ≡ timed m
timed-twice m = by m.closed refl
  where
    polled : m.closed ≡ None → timed (polling m) ≡ polling m
    polled open' = ap (λ s. open_timed s (polling m)) open'

    first : (unacked : List Kept) → m.sender.unacked ≡ unacked → m.closed ≡ None → m.sender.poll ≡ NoPoll → timed (first_poll unacked m) ≡ first_poll unacked m
    first [] is open' poll = ap (λ s. open_timed s m) open' ∙ (ap (λ q. poll_timed q m) poll ∙ ap (λ u. first_poll u m) is)
    first (kept ∷ rest) is open' poll = polled open'

    late : (spent : Bool) → m.closed ≡ None → timed (cond spent (closing RetryLimit m) (polling m)) ≡ cond spent (closing RetryLimit m) (polling m)
    late true open' = refl
    late false open' = polled open'

    poll_by : (poll : Poll) → m.sender.poll ≡ poll → m.closed ≡ None → timed (poll_timed poll m) ≡ poll_timed poll m
    poll_by NoPoll is open' = first m.sender.unacked refl open' is
    poll_by Due is open' = ap (λ s. open_timed s m) open' ∙ ap (λ q. poll_timed q m) is
    poll_by Waits is open' = late (nat_le m.agreed.tries m.sender.polls) open'

    by : (shut : Option ErtmReason) → m.closed ≡ shut → timed (open_timed shut m) ≡ open_timed shut m
    by (Some reason) is = ap (λ s. open_timed s m) is
    by None is = poll_by m.sender.poll refl is

-- the ends as they were, or with the near one's timer fired
abbrev pub Woken : (Machines → Type 0) → Machines → Type 0
Woken K p = K p ⊎ ((q : Machines) × StandsBoth q × K q × (p ≡ machines_turned (ByA Fire) q))

pub woken_again : (K : Machines → Type 0) → FiresOn true (Woken K)
woken_again K on p stands (inl k) = inr (p, stands, k, refl)
woken_again K on p stands (inr (q, before, k, is)) =
    inr (q, before, k, ap (machines_turned (ByA Fire)) is ∙ ap (λ m. let a : MachineEnd = record q.a { machine = m } in let now : Machines = record { a = a; b = q.b } in now) (timed-twice q.a.machine))

pub gave_machine : (given : Option Giving) (e : MachineEnd) → (gave given e).machine ≡ after_by given e.machine
gave_machine None e = refl
gave_machine (Some g) e = refl

-- ---- what a host gives

pub record GivesAt (stage : Stage) (given : Given) : Type 0 where
  pub setup : Setup
  pub peer : ℕ
  pub has : setup_of stage ≡ Some setup
  pub to : peer_of stage ≡ Some peer
  pub it : some_carrier_gives setup.carrier peer ≡ Some given

pub gives_at : (stage : Stage) (given : Given) → stage_gives stage ≡ Some given → GivesAt stage given
gives_at (Requested request) given is = cc
gives_at (Connected peer setup) given is = record { setup = setup; peer = peer; has = refl; to = refl; it = is }
gives_at (Leaving peer setup request) given is = record { setup = setup; peer = peer; has = refl; to = refl; it = is }
gives_at (Closing peer request checked) given is = cc
gives_at (Crossed peer request) given is = cc

-- ---- one turn

abbrev pub IsSome : OfEnd
IsSome opened carrier = carrier ≡ None → ⊥

-- The near host made its own request where it accepted one, whose frames are as long as agreed; and the other host has accepted one where the channel is open.
pub record Prepared (t : Terms) (channel : Channel) (pair : Pair) : Type 0 where
  pub stated : (held : Held) (setup : Setup) → held_at channel.own pair.near.run.value ≡ Some held → setup_of held.stage ≡ Some setup → IsStated setup
  pub frames : (held : Held) (setup : Setup) (machine : Ertm) → held_at channel.own pair.near.run.value ≡ Some held → setup_of held.stage ≡ Some setup → setup.carrier ≡ Some (Retransmitting machine) → machine.agreed.receive_mps ≡ t.mine.receive_mps
  pub accepted : (held : Held) (setup : Setup) → held_at channel.own pair.near.run.value ≡ Some held → setup_of held.stage ≡ Some setup → is_open setup ≡ true → Here pair.far.policy channel.peer IsSome pair.far.run.value

pub record Fair (t : Terms) (channel : Channel) (pair : Pair) : Type 0 where
  pub own_high : 0x0040 ≤ channel.own
  pub peer_high : 0x0040 ≤ channel.peer
  pub suits : Suits t.mine t.other
  pub sound : IsSound pair.near.policy pair.near.run
  pub mate : IsMate t.mine channel.own channel.peer pair.near.run.value
  pub prepared : Prepared t channel pair

module _ (t : Terms) (channel : Channel) (pair : Pair) (K L : Machines → Type 0) (fair : Fair t channel pair) (stays : (p : Machines) → K p → L p) where
  abbrev policy : Policy
  policy = pair.near.policy

  abbrev own : ℕ
  own = channel.own

  abbrev v : Channels
  v = pair.near.run.value

  abbrev far : Policy
  far = pair.far.policy

  abbrev w : Channels
  w = pair.far.run.value

  below : IsBelow v
  below = fair.sound.core.held_below

  abbrev n : List (List ℕ)
  n = under_way own pair.near.coming

  abbrev f : List (List ℕ)
  f = under_way channel.peer pair.far.coming

  -- of the near end, with these under way to both
  abbrev B : (to_near to_far : List (List ℕ)) → (Machines → Type 0) → OfEnd
  B to_near to_far M = Both t to_near to_far M far channel.peer w

  also : (to_near to_far : List (List ℕ)) (M N : Machines → Type 0) → ((p : Machines) → M p → N p) → (opened : Bool) (carrier : Option Carrier) → B to_near to_far M opened carrier → B to_near to_far N opened carrier
  also to_near to_far M N so opened carrier h = here-also far channel.peer (Twins t to_near to_far M opened carrier) (Twins t to_near to_far N opened carrier) w (λ far_opened far_carrier. twins-also t to_near to_far M N opened carrier far_opened far_carrier so) h

  still : (to_near to_far : List (List ℕ)) (x : Channels) → Here policy own (B to_near to_far K) x → Here policy own (B to_near to_far L) x
  still to_near to_far x h = here-also policy own (B to_near to_far K) (B to_near to_far L) x (also to_near to_far K L stays) h

  -- what is for no frame of the channel
  walks_by : (to_near to_far : List (List ℕ)) (fires : Bool) (M : Machines → Type 0) → FiresOn fires M → Walks policy (Goes fires) (WalksOn policy own (B to_near to_far M))
  walks_by to_near to_far fires M on = walks-keep policy (Goes fires) _ (walks-on policy own (B to_near to_far M) fires (both-follow t to_near to_far M fires on far channel.peer w))

  walked : (to_near to_far : List (List ℕ)) (x : Channels) → WalksOn policy own (B to_near to_far K) v x → Here policy own (B to_near to_far K) v → Here policy own (B to_near to_far L) x
  walked to_near to_far x keeps h = still to_near to_far x (here-walks policy own (B to_near to_far K) v x below keeps h)

  agrees : Agrees t.mine own v
  agrees held setup carrier found has is = fair.mate.enhanced held setup carrier found has is

  takeable : (sdu : List ℕ) → ((most : ℕ) → peer_mtu own v ≡ Some most → length sdu ≤ most) → SendsShort sdu own v
  takeable sdu short held setup carrier found has opened is = by carrier (ap (option_map carrier_mtu) (ap (λ h. open_carrier (setup_on h)) found ∙ (ap open_carrier has ∙ (ap (λ b. carrier_if b setup) opened ∙ is))))
    where
      by : (c : Carrier) → peer_mtu own v ≡ Some (carrier_mtu c) → IsShort sdu c
      by (Plain agreed waiting) mtu = tt
      by (Retransmitting machine) mtu = short machine.agreed.send_mtu mtu

  -- ---- it does something alone

  submits_so : (sdu : List ℕ) → Move (ByA (Submit sdu)) K L → SubmitsSo t.mine sdu (B n f K) (B n f L)
  submits_so sdu move machine alike short h = here-also far channel.peer (Twins t n f K true (Some (Retransmitting machine))) (Twins t n f L true (Some (Retransmitting (submitted sdu machine)))) w by h
    where
      by : (far_opened : Bool) (far_carrier : Option Carrier) → Twins t n f K true (Some (Retransmitting machine)) far_opened far_carrier → Twins t n f L true (Some (Retransmitting (submitted sdu machine))) far_opened far_carrier
      by far_opened far_carrier x =
          let (same, was_open) = settle t.mine x.pair.a true machine alike x.near_holds in
          let few = subst (λ (m : Ertm). length sdu ≤ m.agreed.send_mtu) same short in
          record {
            pair = machines_turned (ByA (Submit sdu)) x.pair;
            ends = ends-submits t n f x.pair sdu fair.suits few x.ends;
            near_holds = inr (ap (submitted sdu) same ∙ sym (took-machine sdu x.pair.a), refl, (submits-aside sdu machine).open_still was_open);
            far_holds = x.far_holds;
            near_first = λ never. cc;
            far_first = λ none. submitted_queue sdu x.pair.a ∙ x.far_first none;
            kept = move x.pair x.ends.joins.stands few x.kept;
          }

  sends_it : (other : ℕ) (sdu : List ℕ) → ((most : ℕ) → peer_mtu other v ≡ Some most → length sdu ≤ most) → Move (ByA (Submit sdu)) K L → Here policy own (B n f K) v → Here policy own (B n f L) (sends other sdu v)
  sends_it other sdu short move h = by (eqb other own) refl
    where
      by : (here : Bool) → eqb other own ≡ here → Here policy own (B n f L) (sends other sdu v)
      by true is =
          let same : other ≡ own = eqb-true other own is in
          subst (λ k. Here policy own (B n f L) (sends k sdu v)) (sym same)
          (here-sends policy t.mine own (B n f K) (B n f L) v sdu below agrees (takeable sdu (subst (λ k. (most : ℕ) → peer_mtu k v ≡ Some most → length sdu ≤ most) same short)) (submits_so sdu move) (also n f K L stays) h)
      by false away = let others = sends-others other own sdu v away in here-same policy own (B n f L) v (sends other sdu v) others.0 others.1 (still n f v h)

  fires_it : Move (ByA Fire) K L → Here policy own (B n f K) v → Here policy own (B n f L) (timed_out policy v)
  fires_it move h =
      here-also policy own (B n f (Woken K)) (B n f L) (timed_out policy v) (also n f (Woken K) L done)
      (here-walks policy own (B n f (Woken K)) v (timed_out policy v) below
      (timed-goes policy (Goes true) _ (walks_by n f true (Woken K) (woken_again K)) v (λ machine open'. inr (refl, refl, open')))
      (here-also policy own (B n f K) (B n f (Woken K)) v (also n f K (Woken K) (λ p k. inl k)) h))
    where
      done : (p : Machines) → Woken K p → L p
      done p (inl k) = stays p k
      done p (inr (q, stands, k, is)) = subst L (sym is) (move q stands tt k)

  acts_so : (more : Occurrence) → is_alone more ≡ true → IsTakeable more v → Moves (Acts more) K L → Joint t channel K pair → Joint t channel L (with_near (occurs more pair.near) pair)
  acts_so (Comes pdu) alone short moves h = cc
  acts_so (Connects psm) alone short moves h = walked n f (connected psm v) (connected-goes policy (Goes false) _ (walks_by n f false K (λ never. cc)) psm v) h
  acts_so AsksFeatures alone short moves h = walked n f (asks_features v) (asks-features-goes policy (Goes false) _ (walks_by n f false K (λ never. cc)) v) h
  acts_so (Disconnects other) alone short moves h = walked n f (disconnected other v) (disconnected-goes policy (Goes false) _ (walks_by n f false K (λ never. cc)) other v) h
  acts_so (Sends other sdu) alone short moves h = sends_it other sdu short (moves.1 sdu) h
  acts_so (Gives pdu) alone short moves h = cc
  acts_so Fires alone short moves h = fires_it (moves.0 refl) h
  acts_so Tells alone short moves h = here-same policy own (B n f L) v (after_event v) refl refl (still n f v h)

  -- ---- it gives its next PDU

  abbrev Behind : List ℕ → Channels → Type 0
  Behind pdu x = Here policy own (B n (under_way channel.peer (pair.far.coming ++ pdu ∷ [])) L) x

  -- which is for no frame of the channel
  elsewhere : (pdu : List ℕ) (x : Channels) → eqb (channel_of pdu) channel.peer ≡ false → Here policy own (B n f K) x → Behind pdu x
  elsewhere pdu x away h = subst (λ c. Here policy own (B n c L) x) (sym (under-else channel.peer pair.far.coming pdu away)) (still n f x h)

  gives_so : (pdu : List ℕ) (frame : PlainFrame) → Reads pdu frame → Move (ByA Give) K L → (opened : Bool) → (opened ≡ true → Here far channel.peer IsSome w) → GivesSo opened frame (B n f K) (B n (f ++ pdu ∷ []) L)
  gives_so pdu frame reads move true accepted machine next h =
      here-also far channel.peer (λ far_opened far_carrier. Twins t n f K true (Some (Retransmitting machine)) far_opened far_carrier × IsSome far_opened far_carrier) (Twins t n (f ++ pdu ∷ []) L true (Some (Retransmitting (after_frame machine)))) w
      (λ far_opened far_carrier (x, some). by far_opened far_carrier x some x.near_holds) (here-both far channel.peer (Twins t n f K true (Some (Retransmitting machine))) IsSome w h (accepted refl))
    where
      by : (far_opened : Bool) (far_carrier : Option Carrier) → (x : Twins t n f K true (Some (Retransmitting machine)) far_opened far_carrier) → IsSome far_opened far_carrier → Holds t.mine x.pair.a true (Some (Retransmitting machine))
          → Twins t n (f ++ pdu ∷ []) L true (Some (Retransmitting (after_frame machine))) far_opened far_carrier
      by far_opened far_carrier x some (inl (other, is, new)) = let never : None ≡ Some frame = sym (ap next_frame is) ∙ next in absurd cc
      by far_opened far_carrier x some (inr (same, now, was_open)) = record {
        pair = machines_turned (ByA Give) x.pair;
        ends = ends-gives t n f x.pair pdu frame (ap next_frame (sym same) ∙ next) reads x.ends;
        near_holds = inr (ap after_frame same ∙ sym (gave_machine (giving x.pair.a.machine) x.pair.a), now, (gives-aside machine).open_still was_open);
        far_holds = x.far_holds;
        near_first = λ never. cc;
        far_first = λ none. absurd (some none);
        kept = move x.pair x.ends.joins.stands tt x.kept;
      }
  -- a machine that is not open is new
  gives_so pdu frame reads move false accepted machine next h =
      here-also far channel.peer (Twins t n f K false (Some (Retransmitting machine))) (Twins t n (f ++ pdu ∷ []) L false (Some (Retransmitting (after_frame machine)))) w (λ far_opened far_carrier x. absurd (by x.near_holds)) h
    where
      by : {e : MachineEnd} → Holds t.mine e false (Some (Retransmitting machine)) → ⊥
      by (inl (other, is, new)) = let never : None ≡ Some frame = sym (ap next_frame is) ∙ next in cc
      by (inr (same, now, was_open)) = cc

  -- a channel has it
  module _ (pdu : List ℕ) (move : Move (ByA Give) K L) (h : Here policy own (B n f K) v) where
    other_spent : (held : Held) (setup : Setup) → eqb held.own own ≡ false → Here policy own (B n f K) (carrier_spent (Some setup) held v)
    other_spent held setup away = here-same policy own (B n f K) v (carrier_spent (Some setup) held v) (find-placed _ v.held own away) refl h

    framed : (held : Held) (setup : Setup) (machine : Ertm) (peer : ℕ) (frame : PlainFrame) → find (has_own held.own) v.held ≡ Some held → setup_of held.stage ≡ Some setup → peer_of held.stage ≡ Some peer → setup.carrier ≡ Some (Retransmitting machine) → next_frame machine ≡ Some frame
        → IsSpelled (Some (Framed peer frame)) pdu → Behind pdu (carrier_spent (Some setup) held v)
    framed held setup machine peer frame found has to is next (spells, octets) = by (eqb held.own own) refl
      where
        goes : channel_of pdu ≡ peer
        goes = (spelled-frame peer frame pdu spells octets).1

        by : (here : Bool) → eqb held.own own ≡ here → Behind pdu (carrier_spent (Some setup) held v)
        by false away =
            elsewhere pdu (carrier_spent (Some setup) held v) (ap (λ k. eqb k channel.peer) goes ∙ peers-apart own channel.peer v held setup (Retransmitting machine) peer fair.mate.sole found has is to away) (other_spent held setup away)
        by true here =
            let same : held.own ≡ own = eqb-true held.own own here in
            let at : held_at own v ≡ Some held = ap (λ k. find (has_own k) v.held) (sym same) ∙ found in
            let peer_is : peer ≡ channel.peer = fair.mate.sole.for held peer at to in
            subst (λ c. Here policy own (B n c L) (carrier_spent (Some setup) held v)) (sym (under-here channel.peer pair.far.coming pdu (ap (λ k. eqb k channel.peer) (goes ∙ peer_is) ∙ eqb-same channel.peer)))
            (subst (λ k. Here policy k (B n (f ++ pdu ∷ []) L) (carrier_spent (Some setup) held v)) same
            (here-gives policy (B n f K) (B n (f ++ pdu ∷ []) L) v held setup machine frame below found has is next
            (gives_so pdu frame (next-ends_none machine frame next, λ most within. written-read peer most frame pdu (answer_in most pdu) spells within (answer-is_worked_out most pdu octets)) move (is_open setup) (fair.prepared.accepted held setup at has))
            (subst (λ k. Here policy k (B n f K) v) (sym same) h)))

    carried : (held : Held) (setup : Setup) (peer : ℕ) (carrier : Option Carrier) (given : Given) → find (has_own held.own) v.held ≡ Some held → setup_of held.stage ≡ Some setup → peer_of held.stage ≡ Some peer → setup.carrier ≡ carrier → some_carrier_gives carrier peer ≡ Some given
        → IsSpelled (Some given) pdu → IsAddressed (Some given) pdu → Behind pdu (carrier_spent (Some setup) held v)
    carried held setup peer None given found has to is gives spelled addressed = cc
    carried held setup peer (Some (Plain agreed None)) given found has to is gives spelled addressed = cc
    carried held setup peer (Some (Plain agreed (Some sdu))) given found has to is gives spelled addressed =
        let whole : Whole peer sdu ≡ given = cc in
        elsewhere pdu (carrier_spent (Some setup) held v)
        (ap (λ k. eqb k channel.peer) (subst (λ g. IsAddressed (Some g) pdu) (sym whole) addressed) ∙ peers-apart own channel.peer v held setup (Plain agreed (Some sdu)) peer fair.mate.sole found has is to (apart (eqb held.own own) refl))
        (other_spent held setup (apart (eqb held.own own) refl))
      where
        apart : (b : Bool) → eqb held.own own ≡ b → eqb held.own own ≡ false
        apart false b_is = b_is
        apart true b_is = absurd (agrees held setup (Plain agreed (Some sdu)) (ap (λ k. find (has_own k) v.held) (sym (eqb-true held.own own b_is)) ∙ found) has is)
    carried held setup peer (Some (Retransmitting machine)) given found has to is gives spelled addressed = by (next_frame machine) refl gives
      where
        by : (frame : Option PlainFrame) → next_frame machine ≡ frame → option_map (Framed peer) frame ≡ Some given → Behind pdu (carrier_spent (Some setup) held v)
        by None next gives = cc
        by (Some frame) next gives = let one : Framed peer frame ≡ given = cc in framed held setup machine peer frame found has to is next (subst (λ g. IsSpelled (Some g) pdu) (sym one) spelled)

    held_behind : (held : Option Held) → find gives v.held ≡ held → (given : Given) → held_gives held ≡ Some given → IsSpelled (Some given) pdu → IsAddressed (Some given) pdu → Behind pdu (held_given held v)
    held_behind None is given giving spelled addressed = cc
    held_behind (Some held) is given giving spelled addressed =
        let g = gives_at held.stage given giving in
        subst (λ s. Behind pdu (carrier_spent s held v)) (sym g.has) (carried held g.setup g.peer g.setup.carrier given (found-distinct own_of gives v.held held fair.sound.core.lone is) g.has g.to refl g.it spelled addressed)

    signal : (command : Command) (x : Channels) → IsSpelled (Some (Signal command)) pdu → Here policy own (B n f K) x → Behind pdu x
    signal command x (is, octets) so = elsewhere pdu x (ap (λ k. eqb k channel.peer) (ap channel_of is ∙ le16-number 0x0001 (spelling command) (omega arith)) ∙ low-apart channel.peer fair.peer_high) so

    queue_behind : (queue : List Queued) → (given : Given) → queue_gives queue v ≡ Some given → IsSpelled (Some given) pdu → IsAddressed (Some given) pdu → Behind pdu (queue_given queue v)
    queue_behind [] given giving spelled addressed = held_behind (find gives v.held) refl given giving spelled addressed
    queue_behind (Answer command ∷ rest) given giving spelled addressed =
        let one : Signal command ≡ given = cc in
        signal command (queue_given (Answer command ∷ rest) v) (subst (λ g. IsSpelled (Some g) pdu) (sym one) spelled) (here-same policy own (B n f K) v (queue_given (Answer command ∷ rest) v) refl refl h)
    queue_behind (Ask errand ∷ rest) given giving spelled addressed = by (command_of errand v) giving
      where
        u : Channels
        u = record v { queue = rest }

        counts : Here policy own (B n f K) (counted errand u)
        counts = let (kept, next_is) = counted-held policy (On (B n f K)) own u errand h.held in record { held = kept; before = λ above. h.before (omega (arith, next_is, above)) }

        by : (found : Option Command) → option_map Signal found ≡ Some given → Behind pdu (counted errand u)
        by None is = cc
        by (Some command) is = let one : Signal command ≡ given = cc in signal command (counted errand u) (subst (λ g. IsSpelled (Some g) pdu) (sym one) spelled) counts

  puts_so : (pdu : List ℕ) (given : Given) → next_given v ≡ Some given → IsSpelled (Some given) pdu → IsAddressed (Some given) pdu → Move (ByA Give) K L → Here policy own (B n f K) v → Behind pdu (queue_given v.queue v)
  puts_so pdu given is spelled addressed move h = queue_behind pdu move h v.queue given is spelled addressed

  -- ---- a PDU comes in

  -- which is the first of those under way to the channel, and goes or stays
  passes_so : (pdu : List ℕ) (rest : List (List ℕ)) → Move (ByB Pass) K L → HearsSo t.mine pdu (B (pdu ∷ rest) f K) (B rest f L)
  passes_so pdu rest move opened machine alike open' h =
      here-also far channel.peer (Twins t (pdu ∷ rest) f K opened (Some (Retransmitting machine))) (Twins t rest f L true (let after : Ertm = machine_heard (read_by machine pdu) machine in Some (Retransmitting after))) w by h
    where
      by : (far_opened : Bool) (far_carrier : Option Carrier) → Twins t (pdu ∷ rest) f K opened (Some (Retransmitting machine)) far_opened far_carrier → (let after : Ertm = machine_heard (read_by machine pdu) machine in Twins t rest f L true (Some (Retransmitting after)) far_opened far_carrier)
      by far_opened far_carrier x =
          let (same, was_open) = settle t.mine x.pair.a opened machine alike x.near_holds in
          let front = ends-front t f x.pair pdu rest x.ends in
          let read : read_by machine pdu ≡ answer_in t.mine.receive_mps pdu = ap (λ (a : Agreed). answer_in a.receive_mps pdu) alike in
          record {
            pair = machines_turned (ByB Pass) x.pair;
            ends = ends-passes t f x.pair pdu rest front x.ends;
            near_holds = inr (ap (λ m. machine_heard (read_by machine pdu) m) same ∙ (ap (λ a. machine_heard a x.pair.a.machine) read ∙ sym (front-machine t x.pair pdu rest front)), refl, open');
            far_holds = gone-holds t x.pair pdu rest front far_opened far_carrier x.far_holds;
            near_first = λ never. cc;
            far_first = λ none. same_queue x.pair.b.queue x.pair.a ∙ x.far_first none;
            kept = move x.pair x.ends.joins.stands tt x.kept;
          }

  repeats_so : (pdu : List ℕ) (rest : List (List ℕ)) → Move (ByB Repeat) K L → HearsSo t.mine pdu (B (pdu ∷ rest) f K) (B (pdu ∷ rest) f L)
  repeats_so pdu rest move opened machine alike open' h =
      here-also far channel.peer (Twins t (pdu ∷ rest) f K opened (Some (Retransmitting machine))) (Twins t (pdu ∷ rest) f L true (let after : Ertm = machine_heard (read_by machine pdu) machine in Some (Retransmitting after))) w by h
    where
      by : (far_opened : Bool) (far_carrier : Option Carrier) → Twins t (pdu ∷ rest) f K opened (Some (Retransmitting machine)) far_opened far_carrier → (let after : Ertm = machine_heard (read_by machine pdu) machine in Twins t (pdu ∷ rest) f L true (Some (Retransmitting after)) far_opened far_carrier)
      by far_opened far_carrier x =
          let (same, was_open) = settle t.mine x.pair.a opened machine alike x.near_holds in
          let front = ends-front t f x.pair pdu rest x.ends in
          let read : read_by machine pdu ≡ answer_in t.mine.receive_mps pdu = ap (λ (a : Agreed). answer_in a.receive_mps pdu) alike in
          record {
            pair = machines_turned (ByB Repeat) x.pair;
            ends = ends-repeats t f x.pair pdu rest front x.ends;
            near_holds = inr (ap (λ m. machine_heard (read_by machine pdu) m) same ∙ (ap (λ a. machine_heard a x.pair.a.machine) read ∙ sym (front-machine t x.pair pdu rest front)), refl, open');
            far_holds = x.far_holds;
            near_first = λ never. cc;
            far_first = λ none. same_queue x.pair.b.queue x.pair.a ∙ x.far_first none;
            kept = move x.pair x.ends.joins.stands tt x.kept;
          }

  -- it is lost, whatever the channel is
  loses_so : (pdu : List ℕ) (rest : List (List ℕ)) → Move (ByB Lose) K L → (opened : Bool) (carrier : Option Carrier) → B (pdu ∷ rest) f K opened carrier → B rest f L opened carrier
  loses_so pdu rest move opened carrier h = here-also far channel.peer (Twins t (pdu ∷ rest) f K opened carrier) (Twins t rest f L opened carrier) w by h
    where
      by : (far_opened : Bool) (far_carrier : Option Carrier) → Twins t (pdu ∷ rest) f K opened carrier far_opened far_carrier → Twins t rest f L opened carrier far_opened far_carrier
      by far_opened far_carrier x =
          let front = ends-front t f x.pair pdu rest x.ends in
          record {
            pair = machines_turned (ByB Lose) x.pair;
            ends = ends-loses t f x.pair pdu rest front x.ends;
            near_holds = x.near_holds;
            far_holds = gone-holds t x.pair pdu rest front far_opened far_carrier x.far_holds;
            near_first = λ none. ap behind_front (x.near_first none);
            far_first = x.far_first;
            kept = move x.pair x.ends.joins.stands tt x.kept;
          }

  -- what comes in its place is heard as nothing
  damage_so : (pdu other : List ℕ) (rest : List (List ℕ)) (refusal : FrameRefusal) → answer_in t.mine.receive_mps other ≡ Err refusal → refusal_fault refusal ≡ None → Move (ByB Lose) K L → HearsSo t.mine other (B (pdu ∷ rest) f K) (B rest f L)
  damage_so pdu other rest refusal broken none move opened machine alike open' h =
      here-also far channel.peer (Twins t (pdu ∷ rest) f K opened (Some (Retransmitting machine))) (Twins t rest f L true (let after : Ertm = machine_heard (read_by machine other) machine in Some (Retransmitting after))) w by h
    where
      by : (far_opened : Bool) (far_carrier : Option Carrier) → Twins t (pdu ∷ rest) f K opened (Some (Retransmitting machine)) far_opened far_carrier → (let after : Ertm = machine_heard (read_by machine other) machine in Twins t rest f L true (Some (Retransmitting after)) far_opened far_carrier)
      by far_opened far_carrier x =
          let (same, was_open) = settle t.mine x.pair.a opened machine alike x.near_holds in
          let front = ends-front t f x.pair pdu rest x.ends in
          let read : read_by machine other ≡ Err refusal = ap (λ (a : Agreed). answer_in a.receive_mps other) alike ∙ broken in
          let stays_it : machine_heard (read_by machine other) machine ≡ machine = ap (λ a. machine_heard a machine) read ∙ (ap (λ c. closed_by c (refusal_fault refusal) machine) was_open ∙ ap (λ c. closed_by None c machine) none) in
          record {
            pair = machines_turned (ByB Lose) x.pair;
            ends = ends-loses t f x.pair pdu rest front x.ends;
            near_holds = inr (stays_it ∙ same, refl, open');
            far_holds = gone-holds t x.pair pdu rest front far_opened far_carrier x.far_holds;
            near_first = λ never. cc;
            far_first = x.far_first;
            kept = move x.pair x.ends.joins.stands tt x.kept;
          }

  -- a PDU comes in, behind which these are under way
  comes_so : (pdu : List ℕ) (before after : List (List ℕ)) → (eqb (channel_of pdu) own ≡ false → after ≡ before) → (eqb (channel_of pdu) own ≡ true → HearsSo t.mine pdu (B before f K) (B after f L) × MaySkip own pdu (B before f K) (B after f L) v)
      → IsMate t.mine own channel.peer (hears policy (channel_of pdu) pdu v) → Here policy own (B before f K) v → Here policy own (B after f L) (hears policy (channel_of pdu) pdu v)
  comes_so pdu before after away its mate h = by (eqb (channel_of pdu) 0x0001) refl mate
    where
      same_under : eqb (channel_of pdu) own ≡ false → (x : Channels) → Here policy own (B before f L) x → Here policy own (B after f L) x
      same_under apart x so = subst (λ c. Here policy own (B c f L) x) (sym (away apart)) so

      on_channel : (here : Bool) → eqb (channel_of pdu) own ≡ here → IsMate t.mine own channel.peer (takes (channel_of pdu) pdu v) → Here policy own (B after f L) (takes (channel_of pdu) pdu v)
      on_channel true here mate =
          let same : channel_of pdu ≡ own = eqb-true (channel_of pdu) own here in
          let (hear, skip) = its here in
          subst (λ k. Here policy own (B after f L) (takes k pdu v)) (sym same)
          (here-takes policy t.mine own (B before f K) (B after f L) v pdu below hear skip agrees (subst (λ k. Agrees t.mine own (takes k pdu v)) same (λ held setup carrier found has is. mate.enhanced held setup carrier found has is)) h)
      on_channel false apart mate =
          let others = takes-others (channel_of pdu) pdu v in
          same_under apart (takes (channel_of pdu) pdu v) (here-same policy own (B before f L) v (takes (channel_of pdu) pdu v) (others.others own apart) others.next_is (still before f v h))

      by : (signal : Bool) → eqb (channel_of pdu) 0x0001 ≡ signal → IsMate t.mine own channel.peer (cond signal (hears_commands policy (answers (drop 4 pdu)) v) (takes (channel_of pdu) pdu v)) → Here policy own (B after f L) (cond signal (hears_commands policy (answers (drop 4 pdu)) v) (takes (channel_of pdu) pdu v))
      by true is mate =
          let apart : eqb (channel_of pdu) own ≡ false = ap (λ k. eqb k own) (eqb-true (channel_of pdu) 0x0001 is) ∙ low-apart own fair.own_high in
          same_under apart (hears_commands policy (answers (drop 4 pdu)) v)
          (still before f (hears_commands policy (answers (drop 4 pdu)) v)
          (here-walks policy own (B before f K) v (hears_commands policy (answers (drop 4 pdu)) v) below (commands-go policy (Goes false) _ (walks_by before f false K (λ never. cc)) (answers (drop 4 pdu)) v) h))
      by false is mate = on_channel (eqb (channel_of pdu) own) refl mate

  -- it is the first of what is under way to the host
  under_first : (pdu : List ℕ) (coming : List (List ℕ)) → eqb (channel_of pdu) own ≡ true → under_way own (pdu ∷ coming) ≡ pdu ∷ under_way own coming
  under_first pdu coming here = ap (λ b. cond b (pdu ∷ under_way own coming) (under_way own coming)) here

  under_other : (pdu : List ℕ) (coming : List (List ℕ)) → eqb (channel_of pdu) own ≡ false → under_way own coming ≡ under_way own (pdu ∷ coming)
  under_other pdu coming away = sym (ap (λ b. cond b (pdu ∷ under_way own coming) (under_way own coming)) away)

  -- a frame that comes first is taken
  none_under : (pdu : List ℕ) (rest : List (List ℕ)) (R : OfEnd) (opened : Bool) → B (pdu ∷ rest) f K opened None → Here far channel.peer (λ far_opened far_carrier. ⊥) w
  none_under pdu rest R opened h = here-also far channel.peer (Twins t (pdu ∷ rest) f K opened None) (λ far_opened far_carrier. ⊥) w by h
    where
      by : (far_opened : Bool) (far_carrier : Option Carrier) → Twins t (pdu ∷ rest) f K opened None far_opened far_carrier → ⊥
      by far_opened far_carrier x =
          let front = ends-front t f x.pair pdu rest x.ends in
          let never : [] ≡ front.sent ∷ front.queue = sym (x.near_first refl) ∙ front.first in cc

  shows_it : (own_request : Own) (carrier : Carrier) (pdu : List ℕ) → is_stated own_request ≡ true → shows carrier pdu ≡ true → is_taken_with own_request carrier pdu ≡ true
  shows_it Unasked carrier pdu stated shown = cc
  shows_it (Asking request options) carrier pdu stated shown = shown
  shows_it Granted carrier pdu stated shown = refl

  taken_under : (pdu : List ℕ) (rest : List (List ℕ)) (held : Held) (setup : Setup) (carrier : Carrier) → held_at own v ≡ Some held → setup_of held.stage ≡ Some setup → setup.carrier ≡ Some carrier → is_taken_with setup.own carrier pdu ≡ false → (opened : Bool) → B (pdu ∷ rest) f K opened (Some carrier)
      → Here far channel.peer (λ far_opened far_carrier. ⊥) w
  taken_under pdu rest held setup (Plain agreed waiting) found has is not opened h = absurd (agrees held setup (Plain agreed waiting) found has is)
  taken_under pdu rest held setup (Retransmitting machine) found has is not opened h = here-also far channel.peer (Twins t (pdu ∷ rest) f K opened (Some (Retransmitting machine))) (λ far_opened far_carrier. ⊥) w by h
    where
      by : (far_opened : Bool) (far_carrier : Option Carrier) → Twins t (pdu ∷ rest) f K opened (Some (Retransmitting machine)) far_opened far_carrier → ⊥
      by far_opened far_carrier x =
          let front = ends-front t f x.pair pdu rest x.ends in
          let read : read_by machine pdu ≡ Ok front.sent.frame = ap (λ k. answer_in k pdu) (fair.prepared.frames held setup machine found has is) ∙ front.read in
          let taken = shows_it setup.own (Retransmitting machine) pdu (fair.prepared.stated held setup found has (ap is_some is)) (ap is_frame read) in
          let never : false ≡ true = sym not ∙ taken in cc

  is_taken : (pdu : List ℕ) (rest to_near to_far : List (List ℕ)) → MaySkip own pdu (B (pdu ∷ rest) f K) (B to_near to_far L) v
  is_taken pdu rest to_near to_far = record {
    none = λ opened h. here-also far channel.peer (λ far_opened far_carrier. ⊥) (Twins t to_near to_far L opened None) w (λ far_opened far_carrier never. absurd never) (none_under pdu rest (B to_near to_far L) opened h);
    ignored = λ held setup carrier found has is not opened h.
        here-also far channel.peer (λ far_opened far_carrier. ⊥) (Twins t to_near to_far L opened (Some carrier)) w (λ far_opened far_carrier never. absurd never) (taken_under pdu rest held setup carrier found has is not opened h);
  }

  first_goes : (pdu : List ℕ) (coming : List (List ℕ)) → Move (ByB Pass) K L → IsMate t.mine own channel.peer (hears policy (channel_of pdu) pdu v) → Here policy own (B (under_way own (pdu ∷ coming)) f K) v
      → Here policy own (B (under_way own coming) f L) (hears policy (channel_of pdu) pdu v)
  first_goes pdu coming move mate h =
      comes_so pdu (under_way own (pdu ∷ coming)) (under_way own coming) (under_other pdu coming) (λ here. (
        subst (λ c. HearsSo t.mine pdu (B c f K) (B (under_way own coming) f L)) (sym (under_first pdu coming here)) (passes_so pdu (under_way own coming) move),
        subst (λ c. MaySkip own pdu (B c f K) (B (under_way own coming) f L) v) (sym (under_first pdu coming here)) (is_taken pdu (under_way own coming) (under_way own coming) f),
      )) mate h

  first_stays : (pdu : List ℕ) (coming : List (List ℕ)) → Move (ByB Repeat) K L → IsMate t.mine own channel.peer (hears policy (channel_of pdu) pdu v) → Here policy own (B (under_way own (pdu ∷ coming)) f K) v
      → Here policy own (B (under_way own (pdu ∷ coming)) f L) (hears policy (channel_of pdu) pdu v)
  first_stays pdu coming move mate h =
      comes_so pdu (under_way own (pdu ∷ coming)) (under_way own (pdu ∷ coming)) (λ away. refl) (λ here. (
        subst (λ c. HearsSo t.mine pdu (B c f K) (B c f L)) (sym (under_first pdu coming here)) (repeats_so pdu (under_way own coming) move),
        subst (λ c. MaySkip own pdu (B c f K) (B c f L) v) (sym (under_first pdu coming here)) (is_taken pdu (under_way own coming) (pdu ∷ under_way own coming) f),
      )) mate h

  first_lost : (pdu : List ℕ) (coming : List (List ℕ)) → Move (ByB Lose) K L → Here policy own (B (under_way own (pdu ∷ coming)) f K) v → Here policy own (B (under_way own coming) f L) v
  first_lost pdu coming move h = by (eqb (channel_of pdu) own) refl
    where
      by : (here : Bool) → eqb (channel_of pdu) own ≡ here → Here policy own (B (under_way own coming) f L) v
      by true here =
          here-also policy own (B (pdu ∷ under_way own coming) f K) (B (under_way own coming) f L) v (loses_so pdu (under_way own coming) move) (subst (λ c. Here policy own (B c f K) v) (under_first pdu coming here) h)
      by false away = subst (λ c. Here policy own (B c f L) v) (sym (under_other pdu coming away)) (still (under_way own (pdu ∷ coming)) f v h)

  first_damaged : (pdu other : List ℕ) (coming : List (List ℕ)) → IsSeen (pdu ∷ coming) other → Move (ByB Lose) K L → IsMate t.mine own channel.peer (hears policy (channel_of other) other v) → Here policy own (B (under_way own (pdu ∷ coming)) f K) v
      → Here policy own (B (under_way own coming) f L) (hears policy (channel_of other) other v)
  first_damaged pdu other coming (same, broken) move mate h =
      comes_so other (under_way own (pdu ∷ coming)) (under_way own coming) (λ away. under_other pdu coming (ap (λ k. eqb k own) (sym same) ∙ away)) (λ here.
      let first = under_first pdu coming (ap (λ k. eqb k own) (sym same) ∙ here) in (
        subst (λ c. HearsSo t.mine other (B c f K) (B (under_way own coming) f L)) (sym first) (by (broken t.mine.receive_mps)),
        record {
          none = λ opened so. loses_so pdu (under_way own coming) move opened None (subst (λ c. B c f K opened None) first so);
          ignored = λ held setup carrier found has is not opened so. loses_so pdu (under_way own coming) move opened (Some carrier) (subst (λ c. B c f K opened (Some carrier)) first so);
        },
      )) mate h
    where
      by : (answer_in t.mine.receive_mps other ≡ Err Short) ⊎ (answer_in t.mine.receive_mps other ≡ Err BadFcs) → HearsSo t.mine other (B (pdu ∷ under_way own coming) f K) (B (under_way own coming) f L)
      by (inl short) = damage_so pdu other (under_way own coming) Short short refl move
      by (inr bad) = damage_so pdu other (under_way own coming) BadFcs bad refl move

-- with what comes first
pub under : (t : Terms) (channel : Channel) (pair : Pair) (K : Machines → Type 0) {coming : List (List ℕ)} → pair.near.coming ≡ coming → Joint t channel K pair
    → Here pair.near.policy channel.own (Both t (under_way channel.own coming) (under_way channel.peer pair.far.coming) K pair.far.policy channel.peer pair.far.run.value) pair.near.run.value
under t channel pair K {coming} is h = subst (λ c. Here pair.near.policy channel.own (Both t (under_way channel.own c) (under_way channel.peer pair.far.coming) K pair.far.policy channel.peer pair.far.run.value) pair.near.run.value) is h

-- ---- whatever happens at the near end

pub near-turns : (t : Terms) (channel : Channel) (pair : Pair) (K L : Machines → Type 0) (happening : Happening) → Fair t channel pair → ((p : Machines) → K p → L p) → Moves happening K L → IsMate t.mine channel.own channel.peer (happens_near happening pair).near.run.value
    → DoesSo IsUttered happening pair.near → IsCarried happening pair.near → Joint t channel K pair → Joint t channel L (happens_near happening pair)
near-turns t channel pair K L (Acts occurrence) fair stays moves mate uttered passes h = by (is_alone occurrence) refl
  where
    by : (alone : Bool) → is_alone occurrence ≡ alone → Joint t channel L (cond alone (with_near (occurs occurrence pair.near) pair) pair)
    by true alone = acts_so t channel pair K L fair stays occurrence alone passes moves h
    by false alone = still t channel pair K L fair stays _ _ pair.near.run.value h
near-turns t channel pair K L (Puts pdu) fair stays moves mate uttered passes h = by (next_given pair.near.run.value) refl uttered passes
  where
    by : (given : Option Given) → next_given pair.near.run.value ≡ given → IsSpelled given pdu → IsAddressed given pdu → Joint t channel L (puts given pdu pair)
    by None is spelled addressed = still t channel pair K L fair stays _ _ pair.near.run.value h
    by (Some given) is spelled addressed = puts_so t channel pair K L fair stays pdu given is spelled addressed moves h
near-turns t channel pair K L Takes fair stays moves mate uttered passes h = by pair.near.coming refl mate
  where
    by : (coming : List (List ℕ)) → pair.near.coming ≡ coming → IsMate t.mine channel.own channel.peer (takes_first coming pair.near).run.value → Joint t channel L (with_near (takes_first coming pair.near) pair)
    by [] is mate = still t channel pair K L fair stays _ _ pair.near.run.value h
    by (pdu ∷ coming) is mate = first_goes t channel pair K L fair stays pdu coming moves mate (under t channel pair K is h)
near-turns t channel pair K L Repeats fair stays moves mate uttered passes h = by pair.near.coming refl mate
  where
    by : (coming : List (List ℕ)) → pair.near.coming ≡ coming → IsMate t.mine channel.own channel.peer (repeats_first coming pair.near).run.value → Joint t channel L (with_near (repeats_first coming pair.near) pair)
    by [] is mate = still t channel pair K L fair stays _ _ pair.near.run.value h
    by (pdu ∷ coming) is mate =
        let now : End = occurs (Comes pdu) pair.near in
        subst (λ c. Here pair.near.policy channel.own (Both t (under_way channel.own c) (under_way channel.peer pair.far.coming) L pair.far.policy channel.peer pair.far.run.value) now.run.value) (sym is)
        (first_stays t channel pair K L fair stays pdu coming moves mate (under t channel pair K is h))
near-turns t channel pair K L Loses fair stays moves mate uttered passes h = by pair.near.coming refl
  where
    by : (coming : List (List ℕ)) → pair.near.coming ≡ coming → Joint t channel L (with_near (loses_first coming pair.near) pair)
    by [] is = still t channel pair K L fair stays _ _ pair.near.run.value h
    by (pdu ∷ coming) is = first_lost t channel pair K L fair stays pdu coming moves (under t channel pair K is h)
near-turns t channel pair K L (Damages other) fair stays moves mate uttered passes h = by pair.near.coming refl mate passes
  where
    on : (pdu : List ℕ) (coming : List (List ℕ)) (checked : Bool) → pair.near.coming ≡ pdu ∷ coming → IsSeen (pdu ∷ coming) other → IsMate t.mine channel.own channel.peer (cond checked (occurs (Comes other) (let_go coming pair.near)) (let_go coming pair.near)).run.value
        → Joint t channel L (with_near (cond checked (occurs (Comes other) (let_go coming pair.near)) (let_go coming pair.near)) pair)
    on pdu coming true is seen mate = first_damaged t channel pair K L fair stays pdu other coming seen moves mate (under t channel pair K is h)
    on pdu coming false is seen mate = first_lost t channel pair K L fair stays pdu coming moves (under t channel pair K is h)

    by : (coming : List (List ℕ)) → pair.near.coming ≡ coming → IsMate t.mine channel.own channel.peer (damages_first other coming pair.near).run.value → IsSeen coming other → Joint t channel L (with_near (damages_first other coming pair.near) pair)
    by [] is mate seen = still t channel pair K L fair stays _ _ pair.near.run.value h
    by (pdu ∷ coming) is mate seen = on pdu coming (has_fcs (channel_of pdu) pair.near.run.value) is seen mate
