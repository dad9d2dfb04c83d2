-- A server in code that is fed a stream, turn after turn: the run of the server that it is, from its first moment on; and why it holds nothing back where it
-- hears a packet.
use Rattle.std.proofs.Common.{◌≡◌, ◌∙◌, ◌&&◌, ◌≤◌, ℕ, not, nat_lt, Bool, true, false, List, [], ◌∷◌, ◌++◌, map, length, Option, Some, None, is_some, inr, refl, sym, ap, subst, true≢false, append_assoc, append-nil, arith, tests}
use Rattle.std.specs.Prelude.{option_to_list}
use Rattle.std.specs.List.{AllByRecursion}
use Rattle.receiving.specs.bt_base.specs.declared.settings.Settings.{Settings}
use Rattle.receiving.specs.bt_base.specs.Objects.{Object, Contents}
use Rattle.receiving.specs.capture.specs.Moves.{Move}
use Rattle.receiving.specs.h4_framing.specs.Packets.{Packet, IsPacket}
use Rattle.receiving.specs.host_link.specs.declared.role.Role.TheVariants.{Server}
use Rattle.receiving.specs.host_link.specs.Lines.{fresh}
use Rattle.receiving.specs.host_link.specs.Stands.{into, out_of}
use Rattle.noting_laws.specs.world_model.specs.Machines.{Upper}
use Rattle.receiving.specs.host_model.specs.Circumstances.{Circumstance, answers_in}
use Rattle.receiving.specs.host_model.specs.Hosts.{Host, first_host}
use Rattle.receiving.specs.host_model.specs.Machines.{upper}
use Rattle.receiving.specs.host_model.specs.Profiles.{Profile}
use Rattle.receiving.specs.host_model.specs.Servers.{ServerProfile}
use Rattle.noting_laws.specs.scenario_laws.specs.Gains.{holding, serving}
use Rattle.receiving.specs.bt_host.specs.Noting.{Noted}
use Rattle.receiving.specs.bt_host.specs.NotedHosts.{noted_server}
use Rattle.receiving.specs.bt_host.specs.Refusals.{acl_limit}
use Rattle.receiving.specs.bt_host.specs.Stacks.{Standing}
use Rattle.orderly_laws.specs.unit_laws.specs.Units.{units, ComesInTurn}
use Rattle.orderly_laws.specs.unit_laws.proofs.Doing.{calls_are_runs}
use Rattle.orderly_laws.specs.unit_laws.proofs.Taking.{first_read}
use Rattle.receiving.specs.Receiving.{new_server_host}
use Rattle.receiving.specs.Turns.{Stand, Posture, Turn, HearsIn, HasTurn, HasTurns, emptied, is_full, packets_in, answers_of, answers_along}
use Rattle.receive_laws.specs.InTurn.{TakesInTurn, AreInTurn, AreFree}
use Rattle.receive_laws.specs.Moving.{ArePackets, opening, MovesWith, MoveInTurns, MoveFromStart}
use Rattle.receive_laws.specs.Streams.{new_server, FreeBuffersSuffice}
use Rattle.receive_laws.proofs.Alike.{IsAlike}
use Rattle.receive_laws.proofs.Buffers.{HoldsNone, takes_free}
use Rattle.receive_laws.proofs.Bursts.{went_since, went_since-append, went_out, few_used, runs_since, packets_short}
use Rattle.receive_laws.proofs.Deeds.{calls_at}
use Rattle.receive_laws.proofs.Following.{RunsTo, taken_behind, joined_runs, other_moves, turn_runs, split_all}
use Rattle.receive_laws.proofs.Ledgers.{AreLow, turn_low}

-- ---- what moves turn after turn

pub one_more : (ahead : List Turn) (turn : Turn) (xs ys : List Move) → MoveInTurns ahead xs → MovesWith turn ys → MoveInTurns (ahead ++ turn ∷ []) (xs ++ ys)
one_more [] turn xs ys none moves = (ys, [], moves, refl, ap (λ (l : List Move). l ++ ys) none ∙ sym (append-nil ys))
one_more (other ∷ ahead) turn xs ys (one, rest, is, more, all) moves = (one, rest ++ ys, is, one_more ahead turn rest ys more moves, ap (λ (l : List Move). l ++ ys) all ∙ append_assoc one rest ys)

-- the last turn's are the last
last_turn : (ahead : List Turn) (turn : Turn) (moves : List Move) → MoveInTurns (ahead ++ turn ∷ []) moves → (xs ys : List Move) × MoveInTurns ahead xs × MovesWith turn ys × (moves ≡ xs ++ ys)
last_turn [] turn moves (ys, rest, moves_with, none, all) = ([], ys, refl, moves_with, all ∙ (ap (λ (l : List Move). ys ++ l) none ∙ append-nil ys))
last_turn (other ∷ ahead) turn moves (one, rest, first, more, all) =
    let parts = last_turn ahead turn rest more in
    (one ++ parts.0, parts.1, (one, parts.0, first, parts.2, refl), parts.3, all ∙ (ap (λ (l : List Move). one ++ l) parts.4 ∙ sym (append_assoc one parts.0 parts.1)))

not_few : (n : ℕ) → not (nat_lt n 65536) ≡ true → 65536 ≤ n
not_few n full = grind (arith, tests, full)

some_none : {X : Type 0} (x : X) → Some x ≡ None → ⊥
some_none x is = absurd cc

-- ---- the beginning

module _ (settings : Settings) (before : List Object) where
  abbrev content : Option Contents
  content = holding before

  abbrev U : Upper (Host ServerProfile) Circumstance
  U = upper (serving settings before)

  abbrev N : Profile (Noted ServerProfile)
  N = noted_server settings

  abbrev said : List ℕ
  said = (new_server settings before).said

  abbrev pub first_there : Host ServerProfile
  first_there = first_host (serving settings before)

  abbrev begins_at : List Circumstance → Standing (Noted ServerProfile)
  begins_at rest = new_server_host settings content rest

  new_alike : (rest : List Circumstance) → IsAlike settings content (begins_at rest).host first_there
  new_alike rest = inr (record { there_is = refl; answers = answers_in rest; host_is = refl })

  -- before its first command went out
  abbrev pub fresh_at : List Circumstance → Standing (Noted ServerProfile)
  fresh_at rest = record (begins_at rest) { line = fresh Server }

  pub opens : (rest : List Circumstance) → RunsTo settings content (MovesWith (opening (new_server settings before).said)) (fresh_at rest) first_there (emptied (begins_at rest))
  opens rest =
      taken_behind settings content (opening (new_server settings before).said) [] (fresh_at rest) first_there (begins_at rest)
      (record { there = first_there; alike = new_alike rest; goes = (calls_at settings content (fresh Server) first_there ((calls_are_runs U).fresh Server)).commands })
      (λ all. (tt, all)) refl refl

  -- ---- how it came to where it is; its inbox gave the answers `used`, and gives those that are left

  abbrev pub Reached : (ahead : List Turn) (used rest : List Circumstance) → Stand (Noted ServerProfile) → Type 0
  Reached ahead used rest stands = RunsTo settings content (MoveFromStart said ahead) (fresh_at (used ++ rest)) first_there (stands rest)

  then_reached : (ahead : List Turn) (used rest : List Circumstance) (turn : Turn) (old new : Posture (Noted ServerProfile)) (one : HasTurn N turn old new) → Reached ahead used (answers_of N turn old new one ++ rest) old.stands → HoldsNone turn.packet old
      → TakesInTurn turn.packet (old.stands (answers_of N turn old new one ++ rest)) → AllByRecursion (IsPacket acl_limit) (option_to_list turn.packet) → Reached (ahead ++ turn ∷ []) (used ++ answers_of N turn old new one) rest new.stands
  then_reached ahead used rest turn old new one reached off takes each =
      let here = answers_of N turn old new one in
      let from = turn_runs settings content turn old new one off each rest takes in
      subst (λ (all : List Circumstance). RunsTo settings content (MoveFromStart said (ahead ++ turn ∷ [])) (fresh_at all) first_there (new.stands rest)) (sym (append_assoc used here rest))
      (joined_runs settings content (MoveFromStart said ahead) (MovesWith turn) (MoveFromStart said (ahead ++ turn ∷ [])) (λ xs ys moves more. one_more (opening said ∷ ahead) turn xs ys moves more) (fresh_at (used ++ (here ++ rest))) first_there (old.stands (here ++ rest)) (new.stands rest)
      reached (from reached.after reached.alike reached.writable reached.taken))

  -- ---- it holds nothing back where it hears a packet

  -- where it may hold something back it heard a packet last, and at least 64 packets went out behind that
  pub record IsFilled (ahead : List Turn) (now : Posture (Noted ServerProfile)) : Type 0 where
    pub heard : now.heard ≡ true
    pub many : (moved : List Move) → MoveFromStart said ahead moved → 64 ≤ went_since 0 moved

  abbrev pub FillsOnce : List Turn → Posture (Noted ServerProfile) → Type 0
  FillsOnce ahead now = now.full ≡ true → IsFilled ahead now

  -- what fills it is 64 packets at least
  fills : (octets : List ℕ) (packets : List Packet) → ArePackets octets packets → is_full octets ≡ true → 64 ≤ length packets
  fills octets packets are full =
      let much = not_few (length octets) full in
      let long = ap (λ (xs : List ℕ). length xs) are.octets_are in
      let short = packets_short packets are.each in
      omega (arith, much, long, short)

  -- until it hears a packet it puts out 65 at most
  few_since : (ahead : List Turn) (used rest : List Circumstance) (stands : Stand (Noted ServerProfile)) → Reached ahead used rest stands → AreLow N stands → (moved : List Move) × MoveFromStart said ahead moved × (went_since 0 moved ≤ 65)
  few_since ahead used rest stands reached low =
      let since = runs_since U (ComesInTurn U) [] reached.occasions _ _ 0 reached.runs (first_read Server) (omega arith) in
      let few = few_used (stands rest).line 64 (let one = low rest in omega (arith, one.few, one.within)) in
      (units reached.occasions, reached.moves, omega (arith, since, few))

  fills_heard : (ahead : List Turn) (turn : Turn) (packet : Packet) (new : Posture (Noted ServerProfile)) → turn.packet ≡ Some packet → new.heard ≡ is_some turn.packet → new.full ≡ is_full turn.said → FillsOnce (ahead ++ turn ∷ []) new
  fills_heard ahead turn packet new is heard_is full_is full = record {
    heard = heard_is ∙ ap is_some is;
    many = λ moved moves.
        let parts = last_turn (opening said ∷ ahead) turn moved moves in
        let with = parts.3 in
        let came = with.moves_are ∙ ap (λ (p : Option Packet). map into (option_to_list p) ++ map out_of with.went) is in
        let count = ap (went_since 0) parts.4 ∙ (went_since-append 0 parts.0 parts.1 ∙ (ap (went_since (went_since 0 parts.0)) came ∙ went_out 0 with.went)) in
        let enough = fills turn.said with.went with.said (sym full_is ∙ full) in
        omega (arith, count, enough);
  }

  -- what it held back does not fill it again
  empties : (ahead : List Turn) (used rest : List Circumstance) (turn : Turn) (old new : Posture (Noted ServerProfile)) → turn.packet ≡ None → old.full ≡ true → new.full ≡ is_full turn.said → FillsOnce ahead old → Reached (ahead ++ turn ∷ []) used rest new.stands → AreLow N new.stands → new.full ≡ true → ⊥
  empties ahead used rest turn old new is was full_is filled reached low full =
      let few = few_since (ahead ++ turn ∷ []) used rest new.stands reached low in
      let parts = last_turn (opening said ∷ ahead) turn few.0 few.1 in
      let with = parts.3 in
      let went = with.moves_are ∙ ap (λ (p : Option Packet). map into (option_to_list p) ++ map out_of with.went) is in
      let count = ap (went_since 0) parts.4 ∙ (went_since-append 0 parts.0 parts.1 ∙ (ap (went_since (went_since 0 parts.0)) went ∙ went_out (went_since 0 parts.0) with.went)) in
      let enough = fills turn.said with.went with.said (sym full_is ∙ full) in
      let before_it = (filled was).many parts.0 parts.2 in
      omega (arith, count, enough, before_it, few.2)

  fills_then : (ahead : List Turn) (used rest : List Circumstance) (turn : Turn) (packet : Option Packet) (old new : Posture (Noted ServerProfile)) (between after : Stand (Noted ServerProfile)) → turn.packet ≡ packet → HearsIn N packet old.full between after → new.heard ≡ is_some turn.packet → new.full ≡ is_full turn.said → FillsOnce ahead old
      → Reached (ahead ++ turn ∷ []) used rest new.stands → AreLow N new.stands → FillsOnce (ahead ++ turn ∷ []) new
  fills_then ahead used rest turn None old new between after is hears heard_is full_is filled reached low = λ full. absurd (empties ahead used rest turn old new is hears.0 full_is filled reached low full)
  fills_then ahead used rest turn (Some packet) old new between after is hears heard_is full_is filled reached low = fills_heard ahead turn packet new is heard_is full_is

  off_by : (ahead : List Turn) (turn : Turn) (packet : Option Packet) (old : Posture (Noted ServerProfile)) → turn.packet ≡ packet → ((old.full && old.heard) ≡ true → turn.packet ≡ None) → FillsOnce ahead old → HoldsNone packet old
  off_by ahead turn None old is pauses filled = tt
  off_by ahead turn (Some packet) old is pauses filled = by old.full refl
    where
      by : (full : Bool) → old.full ≡ full → full ≡ false
      by false was = refl
      by true was =
          let never : Some packet ≡ None = sym is ∙ pauses (ap (λ (b : Bool). b && old.heard) was ∙ (filled was).heard) in
          absurd (some_none packet never)

  -- ---- all of it

  pub record StandsAt (ahead : List Turn) (used rest : List Circumstance) (now : Posture (Noted ServerProfile)) : Type 0 where
    pub reached : Reached ahead used rest now.stands
    pub low : AreLow N now.stands
    pub filled : FillsOnce ahead now
    pub taken : (all : List Circumstance) → (now.stands all).line.out ≡ []

  pub stands_first : (rest : List Circumstance) → StandsAt [] [] rest (new_server settings before).posture
  stands_first rest = record {
    reached = other_moves settings content (MovesWith (opening said)) (MoveFromStart said []) (λ xs moves. (xs, [], moves, refl, sym (append-nil xs))) (fresh_at rest) first_there (emptied (begins_at rest)) (opens rest);
    low = λ all. record { few = omega arith; within = omega arith };
    filled = λ full. absurd (true≢false (sym full));
    taken = λ all. refl;
  }

  -- where it hears a packet it holds nothing back
  pub none_held : (ahead : List Turn) (used rest : List Circumstance) (turn : Turn) (old new : Posture (Noted ServerProfile)) → HasTurn N turn old new → StandsAt ahead used rest old → HoldsNone turn.packet old
  none_held ahead used rest turn old new one at = off_by ahead turn turn.packet old refl one.pauses at.filled

  pub stands_then : (ahead : List Turn) (used rest : List Circumstance) (turn : Turn) (old new : Posture (Noted ServerProfile)) (one : HasTurn N turn old new) → StandsAt ahead used (answers_of N turn old new one ++ rest) old → TakesInTurn turn.packet (old.stands (answers_of N turn old new one ++ rest))
      → AllByRecursion (IsPacket acl_limit) (option_to_list turn.packet) → StandsAt (ahead ++ turn ∷ []) (used ++ answers_of N turn old new one) rest new
  stands_then ahead used rest turn old new one at takes each =
      let here = answers_of N turn old new one in
      let behind = then_reached ahead used rest turn old new one at.reached (none_held ahead used (here ++ rest) turn old new one at) takes each in
      let low = turn_low N turn old new one at.low in
      record {
        reached = behind;
        low = low;
        filled = fills_then ahead (used ++ here) rest turn turn.packet old new one.between one.after refl one.hears one.heard one.full at.filled behind low;
        taken = λ all. ap (λ (s : Stand (Noted ServerProfile)). (s all).line.out) one.stands;
      }

  -- one turn after the other
  pub stands_behind : (ahead turns : List Turn) (used : List Circumstance) (old new : Posture (Noted ServerProfile)) (runs : HasTurns N turns old new) → StandsAt ahead used (answers_along N turns old new runs) old → AllByRecursion (IsPacket acl_limit) (packets_in turns) → AreInTurn N turns old new runs
      → StandsAt (ahead ++ turns) (used ++ answers_along N turns old new runs) [] new
  stands_behind ahead [] used old new runs at each in_turn =
      subst (λ (l : List Turn). StandsAt l (used ++ []) [] new) (sym (append-nil ahead))
      (subst (λ (answers : List Circumstance). StandsAt ahead answers [] new) (sym (append-nil used)) (subst (StandsAt ahead used []) (sym runs) at))
  stands_behind ahead (turn ∷ turns) used old new (mid, one, more) at each (takes, behind) =
      let parts = split_all (IsPacket acl_limit) turn.packet (packets_in turns) each in
      let here = answers_of N turn old mid one in
      let later = answers_along N turns mid new more in
      subst (λ (l : List Turn). StandsAt l (used ++ (here ++ later)) [] new) (append_assoc ahead (turn ∷ []) turns)
      (subst (λ (answers : List Circumstance). StandsAt ((ahead ++ turn ∷ []) ++ turns) answers [] new) (append_assoc used here later)
      (stands_behind (ahead ++ turn ∷ []) turns (used ++ here) mid new more (stands_then ahead used later turn old mid one at takes parts.0) parts.1 behind))

  -- where buffers are free each packet comes in turn
  turns_free : (ahead turns : List Turn) (used : List Circumstance) (old new : Posture (Noted ServerProfile)) (runs : HasTurns N turns old new) → StandsAt ahead used (answers_along N turns old new runs) old → AllByRecursion (IsPacket acl_limit) (packets_in turns) → AreFree N turns old new runs
      → AreInTurn N turns old new runs
  turns_free ahead [] used old new runs at each free = tt
  turns_free ahead (turn ∷ turns) used old new (mid, one, more) at each (free, behind) =
      let parts = split_all (IsPacket acl_limit) turn.packet (packets_in turns) each in
      let here = answers_of N turn old mid one in
      let later = answers_along N turns mid new more in
      let takes = takes_free N turn.packet old one.between one.after one.none_back one.hears (none_held ahead used (here ++ later) turn old mid one at) (here ++ later) (at.taken (here ++ later)) free in
      (takes, turns_free (ahead ++ turn ∷ []) turns (used ++ here) mid new more (stands_then ahead used later turn old mid one at takes parts.0) parts.1 behind)

pub free_buffers_suffice : FreeBuffersSuffice
free_buffers_suffice settings before turns last runs each free =
    turns_free settings before [] turns [] (new_server settings before).posture last runs (stands_first settings before (answers_along (noted_server settings) turns (new_server settings before).posture last runs)) each free
