-- Call after call a host in code that is told all freely is where a run over its units leads, and rests.
use Rattle.std.proofs.Common.{◌≡◌, ◌<◌, ℕ, nat_lt, true, is_some, List, [], ◌∷◌, ◌++◌, map, length, drop, Option, Some, None, Ok, refl, sym, ap, subst, ◌∙◌, append_assoc, length-append, arith, tests}
use Rattle.std.specs.Option.{option_map}
use Rattle.std.specs.Prelude.{option_to_list}
use Rattle.std.specs.List.{AllByRecursion}
use Rattle.std.proofs.lemmas.List.{append-nil, map-append, append_cancel_left}
use Rattle.std.proofs.lemmas.List.Concat.{flat_map-append}
use Rattle.call_laws.specs.bt_host.specs.bt_base.specs.declared.settings.Settings.{Settings}
use Rattle.call_laws.specs.unit_laws.specs.scenario_laws.specs.h4_framing.specs.Packets.{Packet, spelling, spellings, IsPacket}
use Rattle.call_laws.specs.unit_laws.specs.scenario_laws.specs.h4_framing.specs.Stream.{IsUnfinished}
use Rattle.call_laws.specs.unit_laws.specs.scenario_laws.specs.h4_framing.proofs.ReadingLemmas.{unfinished_none, same_split}
use Rattle.call_laws.specs.unit_laws.specs.scenario_laws.specs.h4_framing.proofs.ExtentLemmas.{packet_long}
use Rattle.call_laws.specs.bt_host.specs.capture.specs.Links.{Link, linking}
use Rattle.call_laws.specs.bt_host.specs.capture.specs.Moves.{Move}
use Rattle.call_laws.specs.bt_host.specs.channel_model.specs.Value.{no_channels}
use Rattle.call_laws.specs.bt_host.specs.host_link.specs.Hearing.{news_of}
use Rattle.call_laws.specs.bt_host.specs.host_link.specs.Lines.{Line}
use Rattle.call_laws.specs.bt_host.specs.host_link.specs.PuttingOut.{started, has_room}
use Rattle.call_laws.specs.bt_host.specs.host_link.specs.Stands.{JoinsOn, into, out_of}
use Rattle.call_laws.specs.bt_host.specs.host_link.specs.declared.role.Role.{Role}
use Rattle.call_laws.specs.unit_laws.specs.scenario_laws.specs.world_model.specs.Machines.{News, TimerFired, Cancelled, Opening, Upper}
use Rattle.call_laws.specs.bt_host.specs.host_model.specs.Circumstances.{Circumstance}
use Rattle.call_laws.specs.bt_host.specs.host_model.specs.Hosts.{Host}
use Rattle.call_laws.specs.bt_host.specs.host_model.specs.Profiles.{Profile}
use Rattle.call_laws.specs.bt_host.specs.Refusals.{acl_limit}
use Rattle.call_laws.specs.bt_host.specs.Shells.{Shelled, settings_of, moment_of, FeedsOn, ComesToRest}
use Rattle.call_laws.specs.bt_host.specs.Stacks.{Stacked, Standing, Moment, GoesOn, HearsNews, HearsAll, Rests, IsResting, standing}
use Rattle.call_laws.specs.bt_host.specs.Stacks as stacks
use Rattle.call_laws.specs.unit_laws.specs.Calls.{IsWritable}
use Rattle.call_laws.specs.unit_laws.specs.Laws.{IsUntimed, FiresNone}
use Rattle.call_laws.specs.unit_laws.specs.Units.{Lined, starting, Occasion, Learns as Hits, units_of, units, Runs, ComesInTurn}
use Rattle.call_laws.specs.unit_laws.proofs.Doing.{runs_then}
use Rattle.call_laws.specs.unit_laws.proofs.Taking.{ReadAt, takes_so, first_read, runs_read}
use Rattle.receiving.specs.Turns.{Turn}
use Rattle.receiving.proofs.Still.{moves_still}
use Rattle.receive_laws.specs.Freely.{IsFreeOn, ComesFree}
use Rattle.receive_laws.specs.Moving.{opening, MovesWith, MoveFromStart}
use Rattle.receive_laws.proofs.Freely.{packet_tells, brings_none}
use Rattle.receive_laws.proofs.Reaching.{one_more}
use Rattle.call_laws.specs.HostCalls.{HostCall, Feed, OnTimer, Push, Cancel, PutOut, Taken, PageDevice, piece_of, Calls}
use Rattle.call_laws.specs.Impulses.{Impulse, Hears, Learns, Gives, Pages, IsDevice, Happens, heard_of, left_of}
use Rattle.call_laws.specs.Impulses as impulses
use Rattle.call_laws.proofs.Calling.{fed_by}
use Rattle.lending_laws.specs.Comings.{heard_whole, comings_with}
use Rattle.lending_laws.specs.Freely.{IsBufferFree, TellsFreely, AreTold, FiresNever}
use Rattle.lending_laws.specs.InTurn.{AllIsSaid, IsToldQuietly, ComesQuietly, LeavesPort, FiresNot}
use Rattle.call_laws.specs.unit_laws.specs.Timed.{Tick, Moves, news_ticks, ticks_of, ticks}
use Rattle.lending_laws.specs.Steps.{Step, turns_of, left_by, KeepsPort, Takes, HasSteps, call_ticks, TicksWith, TickInSteps, TickFromStart}
use Rattle.lending_laws.proofs.Following.{Follows, both_untimed, impulse_comings, none_timed, untimed_with, used_of, impulse_ticks, impulse_led, starts}
use Rattle.lending_laws.proofs.Happening.{HappenFromStart, happen_behind}
use Rattle.lending_laws.proofs.Quietly.{said_on, said_off, told_on, told_off, rests_taken, rests_paging}

-- ---- lists of octets

-- octets that make no packet whole
none_whole : (held held' : List ℕ) (packet : Option Packet) → held ++ [] ≡ spellings (option_to_list packet) ++ held' → held' ≡ held → packet ≡ None
none_whole held held' None whole same = refl
none_whole held held' (Some packet) whole same =
    let long = packet_long packet in
    let all : held ++ [] ≡ (spelling packet ++ []) ++ held' = whole in
    let as_long : length held ≡ length ((spelling packet ++ []) ++ held') = ap (λ (xs : List ℕ). length xs) (sym (append-nil held) ∙ all) in
    let both = length-append (spelling packet ++ []) held' in
    let one : length (spelling packet ++ []) ≡ length (spelling packet) = ap (λ (xs : List ℕ). length xs) (append-nil (spelling packet)) in
    let kept : length held' ≡ length held = ap (λ (xs : List ℕ). length xs) same in
    absurd (omega (arith, long, as_long, both, one, kept))

gained_none : (old new said : List ℕ) → new ≡ old ++ said → new ≡ old → said ≡ []
gained_none old new said is same = append_cancel_left old said [] (sym is ∙ (same ∙ sym (append-nil old)))

front_never : (ahead : List Step) (step : Step) → AllByRecursion FiresNever (ahead ++ step ∷ []) → AllByRecursion FiresNever ahead × FiresNever step
front_never [] step all = (tt, all.0)
front_never (one ∷ ahead) step all = let more = front_never ahead step all.1 in ((all.0, more.0), more.1)

-- one step more
more_ticks : (ahead : List Step) (step : Step) (xs ys : List Tick) → TickInSteps ahead xs → TicksWith step ys → TickInSteps (ahead ++ step ∷ []) (xs ++ ys)
more_ticks [] step xs ys none one = (ys, [], one, refl, ap (λ (l : List Tick). l ++ ys) none ∙ sym (append-nil ys))
more_ticks (other ∷ ahead) step xs ys (first, rest, is, more, all) one = (first, rest ++ ys, is, more_ticks ahead step rest ys more one, ap (λ (l : List Tick). l ++ ys) all ∙ append_assoc first rest ys)

module _ {E S T P : Type 0} (profile : Settings → Profile S) (settings : Settings) (Answers : P → List Circumstance → P → Type 0) (Lacked : P → P → Type 0) (pushing : E → P → List Circumstance → S) (U : Upper T Circumstance) (IsAs : Host S → T → Type 0) (follows : Follows (profile settings) U IsAs) (role : Role)
    (off : (occasions : List (Occasion Circumstance)) (now : Lined T) (host : Host S) → Runs U (ComesInTurn U) occasions (starting U role) now → IsAs host now.upper → now.line.link ≡ None → host.channels ≡ no_channels) where
  abbrev A : Profile S
  A = profile settings

  abbrev said : List ℕ
  said = (started role).out

  abbrev at : P → Stacked E → List Circumstance → Standing S
  at port stack rest = standing pushing port stack rest

  abbrev there_at : Line → T → Lined T
  there_at line there = record { line = line; upper = there }

  -- a run led there behind these calls
  pub record ReachedAt (ahead : List Step) (now : Standing S) : Type 0 where
    pub occasions : List (Occasion Circumstance)
    pub there : T
    pub runs : Runs U (ComesInTurn U) occasions (starting U role) (there_at now.line there)
    pub alike : IsAs now.host there
    pub moves : MoveFromStart said (turns_of ahead) (units occasions)
    pub untimed : AllByRecursion FiresNever ahead → AllByRecursion FiresNone occasions
    pub writable : IsWritable now.line
    pub device : IsDevice now.paged
    pub tick : TickFromStart said ahead (ticks occasions)
    pub happen : HappenFromStart said ahead occasions

  -- whatever its port answers later
  abbrev Reached : List Step → Stacked E → P → Type 0
  Reached ahead stack port = (rest : List Circumstance) → ReachedAt ahead (at port stack rest)

  -- and it rests, with room for more
  pub record At (ahead : List Step) (now : Shelled E) (port : P) : Type 0 where
    pub reached : Reached ahead now.stack port
    pub rests : IsResting A pushing (moment_of now port)
    pub room : has_room now.stack.line ≡ true
    pub settings_are : settings_of now ≡ settings

  -- ---- it has said all

  read : (ahead : List Step) (now : Standing S) (reached : ReachedAt ahead now) → ReadAt (units reached.occasions) now.line
  read ahead now reached = runs_read U (ComesInTurn U) [] reached.occasions (starting U role) (there_at now.line reached.there) reached.runs (first_read role)

  off_said : (ahead : List Step) (stack : Stacked E) (port : P) → ReachedAt ahead (at port stack []) → stack.line.link ≡ None → AllIsSaid stack
  off_said ahead stack port reached none = said_off stack reached.writable none (off reached.occasions (there_at stack.line reached.there) (at port stack []).host reached.runs reached.alike none)

  pub free_said : (ahead : List Step) (stack : Stacked E) (port : P) (reached : ReachedAt ahead (at port stack [])) → Rests A (at port stack []) → has_room stack.line ≡ true → IsBufferFree (units reached.occasions) → AllIsSaid stack
  free_said ahead stack port reached rests room free = by (linking past).up refl
    where
      past : List Move
      past = units reached.occasions

      reads : ReadAt past stack.line
      reads = read ahead (at port stack []) reached

      by : (up : Option Link) → (linking past).up ≡ up → AllIsSaid stack
      by None is = off_said ahead stack port reached (sym reads.at.stands.link ∙ ap (option_map (λ (l : Link). l.handle)) is)
      by (Some link) is =
          let on : stack.line.link ≡ Some link.handle = sym reads.at.stands.link ∙ ap (option_map (λ (l : Link). l.handle)) is in
          said_on A pushing port stack [] rests room (ap is_some on) (takes_so past stack.line reads ∙ free (ap is_some is))

  packet_quiet : (ahead : List Step) (stack : Stacked E) (port : P) (packet : Packet) (reached : ReachedAt ahead (at port stack [])) → Rests A (at port stack []) → has_room stack.line ≡ true → ComesFree (units reached.occasions) (Some packet) → IsToldQuietly (news_of packet stack.line) stack
  packet_quiet ahead stack port packet reached rests room free = by (linking past).up refl
    where
      past : List Move
      past = units reached.occasions

      reads : ReadAt past stack.line
      reads = read ahead (at port stack []) reached

      by : (up : Option Link) → (linking past).up ≡ up → IsToldQuietly (news_of packet stack.line) stack
      by None is =
          let none : stack.line.link ≡ None = sym reads.at.stands.link ∙ ap (option_map (λ (l : Link). l.handle)) is in
          told_off (news_of packet stack.line) stack (brings_none packet stack.line none) (off_said ahead stack port reached none)
      by (Some link) is =
          let on : stack.line.link ≡ Some link.handle = sym reads.at.stands.link ∙ ap (option_map (λ (l : Link). l.handle)) is in
          let joins : JoinsOn (Some link) stack.line.joining = subst (λ (u : Option Link). JoinsOn u stack.line.joining) is reads.at.stands.joining in
          let takes : IsFreeOn (Some link) past packet = subst (λ (u : Option Link). IsFreeOn u past packet) is free in
          told_on link packet (news_of packet stack.line) stack (packet_tells link packet stack.line on joins) (λ tells. said_on A pushing port stack [] rests room (ap is_some on) (takes_so past stack.line reads ∙ takes tells))

  -- ---- it goes on and does nothing

  still : (old mid : Moment E P) → (goes : GoesOn A Answers pushing old mid) → IsResting A pushing old → (rest : List Circumstance) → at mid.port mid.stack rest ≡ at old.port old.stack (goes.used ++ rest)
  still old mid goes rests rest = moves_still A (standing pushing old.port old.stack) (standing pushing mid.port mid.stack) rests (record { used = goes.used; deeds = goes.deeds; does = goes.reacts; exactly = goes.exactly }) rest

  still_reached : (ahead : List Step) (old mid : Moment E P) → GoesOn A Answers pushing old mid → IsResting A pushing old → Reached ahead old.stack old.port → Reached ahead mid.stack mid.port
  still_reached ahead old mid goes rests reached = λ rest. subst (ReachedAt ahead) (sym (still old mid goes rests rest)) (reached (goes.used ++ rest))

  still_rests : (old mid : Moment E P) → GoesOn A Answers pushing old mid → IsResting A pushing old → IsResting A pushing mid
  still_rests old mid goes rests = λ rest. subst (Rests A) (sym (still old mid goes rests rest)) (rests (goes.used ++ rest))

  still_line : (old mid : Moment E P) → GoesOn A Answers pushing old mid → IsResting A pushing old → mid.stack.line ≡ old.stack.line
  still_line old mid goes rests = ap (λ (s : Standing S). s.line) (still old mid goes rests [])

  -- ---- behind one call more

  behind : (ahead : List Step) (step : Step) (xs ys : List Move) → MoveFromStart said (turns_of ahead) xs → MovesWith step.turn ys → MoveFromStart said (turns_of (ahead ++ step ∷ [])) (xs ++ ys)
  behind ahead step xs ys moved moves =
      subst (λ (turns : List Turn). MoveFromStart said turns (xs ++ ys)) (sym (map-append (λ (s : Step). s.turn) ahead (step ∷ []))) (one_more (opening said ∷ turns_of ahead) step.turn xs ys moved moves)

  ticks_behind : (ahead : List Step) (step : Step) (xs ys : List Tick) → TickFromStart said ahead xs → TicksWith step ys → TickFromStart said (ahead ++ step ∷ []) (xs ++ ys)
  ticks_behind ahead step xs ys (first, rest, moves, more, all) one = (first, rest ++ ys, moves, more_ticks ahead step rest ys more one, ap (λ (l : List Tick). l ++ ys) all ∙ append_assoc (map Moves first) rest ys)

  -- nothing moved
  idle : (ahead : List Step) (step : Step) (stack : Stacked E) (port : P) → call_ticks step.call ≡ [] → comings_with step.call step.turn.packet ≡ [] → step.turn.packet ≡ None → step.turn.said ≡ [] → Reached ahead stack port → Reached (ahead ++ step ∷ []) stack port
  idle ahead step stack port calm aside none silent reached = λ rest.
      let from = reached rest in
      let moves : MovesWith step.turn [] = record { went = []; said = record { each = tt; octets_are = silent }; moves_are = ap (λ (p : Option Packet). map into (option_to_list p) ++ []) (sym none) } in
      record {
        occasions = from.occasions;
        there = from.there;
        runs = from.runs;
        alike = from.alike;
        moves = subst (MoveFromStart said (turns_of (ahead ++ step ∷ []))) (append-nil (units from.occasions))
            (behind ahead step (units from.occasions) [] from.moves moves);
        untimed = λ all. from.untimed (front_never ahead step all).0;
        writable = from.writable;
        device = from.device;
        tick = subst (TickFromStart said (ahead ++ step ∷ [])) (append-nil (ticks from.occasions))
            (ticks_behind ahead step (ticks from.occasions) [] from.tick (record { moves = []; move = moves; ticks_are = ap (λ (l : List Tick). l ++ []) (sym calm) }));
        happen = subst (HappenFromStart said (ahead ++ step ∷ [])) (append-nil from.occasions)
            (happen_behind said ahead step from.occasions [] from.happen (record { comings_are = sym aside; move = moves }));
      }

  moves_as : (impulse : Impulse) (turn : Turn) (old new : Stacked E) (ys : List Move) → heard_of impulse ≡ option_to_list turn.packet → new.line.out ≡ left_of impulse old.line.out ++ turn.said → impulses.MovesWith impulse old new ys → MovesWith turn ys
  moves_as impulse turn old new ys heard out moves = record {
    went = moves.went;
    said = record { each = moves.spelled.each; octets_are = append_cancel_left (left_of impulse old.line.out) turn.said moves.gained (sym out ∙ moves.out) ∙ moves.spelled.octets_are };
    moves_are = moves.moves_are ∙ ap (λ (packets : List Packet). map into packets ++ map out_of moves.went) heard;
  }

  -- an impulse came
  led : (impulse : Impulse) (ahead : List Step) (step : Step) (old new : Stacked E) (before after : P) (one : Happens A Answers pushing impulse (record { stack = old; port = before }) (record { stack = new; port = after })) → ComesQuietly impulse old → LeavesPort impulse before after → heard_of impulse ≡ option_to_list step.turn.packet
      → impulse_ticks impulse ≡ call_ticks step.call → impulse_comings impulse ≡ comings_with step.call step.turn.packet → (FiresNever step → FiresNot impulse) → new.line.out ≡ left_of impulse old.line.out ++ step.turn.said → Reached ahead old before → Reached (ahead ++ step ∷ []) new after
  led impulse ahead step old new before after one quiet leaves heard ticked comes calm out reached = λ rest.
      let from = reached (used_of A U IsAs follows Answers pushing impulse (record { stack = old; port = before }) (record { stack = new; port = after }) one ++ rest) in
      let more = impulse_led A U IsAs follows Answers pushing impulse old new before after one rest from.there quiet leaves from.alike from.writable from.device in
      let moves = moves_as impulse step.turn old new (units more.occasions) heard out more.move in
      record {
        occasions = from.occasions ++ more.occasions;
        there = more.after;
        runs = runs_then U (ComesInTurn U) from.occasions more.occasions (starting U role) (there_at old.line from.there) (there_at new.line more.after) from.runs more.runs;
        alike = more.alike;
        moves = subst (MoveFromStart said (turns_of (ahead ++ step ∷ []))) (sym (flat_map-append units_of from.occasions more.occasions))
            (behind ahead step (units from.occasions) (units more.occasions) from.moves moves);
        untimed = λ all. let both = front_never ahead step all in both_untimed from.occasions more.occasions (from.untimed both.0) (untimed_with impulse more.occasions more.comings_are (calm both.1));
        writable = more.writable;
        device = more.device;
        tick = subst (TickFromStart said (ahead ++ step ∷ [])) (sym (flat_map-append ticks_of from.occasions more.occasions))
            (ticks_behind ahead step (ticks from.occasions) (ticks more.occasions) from.tick (record { moves = units more.occasions; move = moves; ticks_are = more.ticks_are ∙ ap (λ (l : List Tick). l ++ map Moves (units more.occasions)) ticked }));
        happen = happen_behind said ahead step from.occasions more.occasions from.happen (record { comings_are = more.comings_are ∙ comes; move = moves });
      }

  -- ---- a piece is fed

  abbrev Told : List Step → Step → Type 0
  Told ahead step = (moved : List Move) → MoveFromStart said (turns_of ahead) moved → TellsFreely step.call step.turn.packet moved

  hears : (packet : Option Packet) (ahead : List Step) (step : Step) (mid new : Moment E P) → call_ticks step.call ≡ [] → comings_with step.call step.turn.packet ≡ heard_whole step.turn.packet → step.turn.packet ≡ packet → AllByRecursion (IsPacket acl_limit) (option_to_list packet) → HearsAll A Answers pushing (option_to_list packet) mid new → new.stack.line.out ≡ mid.stack.line.out ++ step.turn.said
      → Reached ahead mid.stack mid.port → IsResting A pushing mid → has_room mid.stack.line ≡ true → ((moved : List Move) → MoveFromStart said (turns_of ahead) moved → ComesFree moved packet) → Reached (ahead ++ step ∷ []) new.stack new.port
  hears None ahead step mid new calm comes is each heard out reached rests room told =
      subst (λ (m : Moment E P). Reached (ahead ++ step ∷ []) m.stack m.port) (sym heard)
      (idle ahead step mid.stack mid.port calm (comes ∙ ap heard_whole is) is (gained_none mid.stack.line.out new.stack.line.out step.turn.said out (ap (λ (m : Moment E P). m.stack.line.out) heard)) reached)
  hears (Some packet) ahead step mid new calm comes is each (next, one, same) out reached rests room told =
      let here : stacks.Hears A Answers pushing packet mid new = subst (λ (m : Moment E P). stacks.Hears A Answers pushing packet mid m) (sym same) one in
      let from = reached [] in
      led (Hears packet) ahead step mid.stack new.stack mid.port new.port (each.0, here) (packet_quiet ahead mid.stack mid.port packet from (rests []) room (told (units from.occasions) from.moves)) tt (ap option_to_list (sym is)) (sym calm) (sym (comes ∙ ap heard_whole is)) (λ fires. tt) out reached

  feeds : (piece : List ℕ) (ahead : List Step) (step : Step) (old new : Shelled E) (port port' : P) → call_ticks step.call ≡ [] → comings_with step.call step.turn.packet ≡ heard_whole step.turn.packet → At ahead old port → FeedsOn A Answers Lacked pushing piece old.framing new.framing (moment_of old port) (moment_of new port') (Ok tt) → AllByRecursion (IsPacket acl_limit) (option_to_list step.turn.packet)
      → old.framing.held ++ piece ≡ spellings (option_to_list step.turn.packet) ++ new.framing.held → new.stack.line.out ≡ old.stack.line.out ++ step.turn.said → ((moved : List Move) → MoveFromStart said (turns_of ahead) moved → ComesFree moved step.turn.packet) → Reached (ahead ++ step ∷ []) new.stack port'
  feeds piece ahead step old new port port' calm comes now (mid, goes, takes) each whole out told =
      let held_is : new.framing.held ≡ takes.taken.rest = ap (λ f. f.held) takes.taken.framing_is in
      let none = unfinished_none acl_limit takes.taken.rest takes.taken.unfinished in
      let also = unfinished_none acl_limit new.framing.held (subst (IsUnfinished acl_limit) (sym held_is) takes.taken.unfinished) in
      let same = (same_split acl_limit takes.packets (option_to_list step.turn.packet) takes.taken.rest new.framing.held takes.taken.read.each each none also (sym takes.taken.read.octets ∙ whole)).0 in
      let old_moment = moment_of old port in
      let line = still_line old_moment mid goes now.rests in
      hears step.turn.packet ahead step mid (moment_of new port') calm comes refl each (subst (λ (packets : List Packet). HearsAll A Answers pushing packets mid (moment_of new port')) same takes.hears) (out ∙ ap (λ (l : Line). l.out ++ step.turn.said) (sym line))
      (still_reached ahead old_moment mid goes now.rests now.reached) (still_rests old_moment mid goes now.rests) (ap has_room line ∙ now.room) told

  -- ---- any call

  -- news come
  learns : (news : News) (ahead : List Step) (step : Step) (old new : Shelled E) (port port' : P) → At ahead old port → Happens A Answers pushing (Learns news) (moment_of old port) (moment_of new port') → step.turn.packet ≡ None → new.stack.line.out ≡ old.stack.line.out ++ step.turn.said
      → news_ticks news ≡ call_ticks step.call → Hits [] news ∷ [] ≡ comings_with step.call step.turn.packet → (FiresNever step → IsUntimed news) → ((moved : List Move) → MoveFromStart said (turns_of ahead) moved → IsBufferFree moved) → Reached (ahead ++ step ∷ []) new.stack port'
  learns news ahead step old new port port' now one none out ticked comes calm told =
      let from = now.reached [] in
      led (Learns news) ahead step old.stack new.stack port port' one (free_said ahead old.stack port from (now.rests []) now.room (told (units from.occasions) from.moves)) tt (ap option_to_list (sym none)) ticked comes calm out now.reached

  tells : (news : News) (old new : Shelled E) (port port' : P) → settings_of old ≡ settings → HearsNews (profile (settings_of old)) Answers pushing news (moment_of old port) (moment_of new port') → HearsNews A Answers pushing news (moment_of old port) (moment_of new port')
  tells news old new port port' same one = subst (λ (s : Settings). HearsNews (profile s) Answers pushing news (moment_of old port) (moment_of new port')) same one

  -- where it comes to rest, with room for more
  rested : (ahead later : List Step) (old new : Shelled E) (port port' : P) → At ahead old port → Reached later new.stack port' → ComesToRest profile pushing old new port' → length new.stack.line.out < 65536 → At later new port'
  rested ahead later old new port port' now reached comes few = record {
    reached = reached;
    rests = subst (λ (s : Settings). IsResting (profile s) pushing (moment_of new port')) now.settings_are comes.rests;
    room = let less : nat_lt (length new.stack.line.out) 65536 ≡ true = grind (arith, tests, few) in less;
    settings_are = comes.settings ∙ now.settings_are;
  }

  called : (call : HostCall) (turn : Turn) (ahead : List Step) (old new : Shelled E) (port port' : P) → At ahead old port → Calls profile Answers Lacked pushing call old new port port' → AllByRecursion (IsPacket acl_limit) (option_to_list turn.packet)
      → old.framing.held ++ piece_of call ≡ spellings (option_to_list turn.packet) ++ new.framing.held → new.stack.line.out ≡ left_by call old.stack.line.out ++ turn.said → length new.stack.line.out < 65536 → KeepsPort call port port' → Told ahead (record { call = call; turn = turn })
      → At (ahead ++ record { call = call; turn = turn } ∷ []) new port'
  called (Feed piece) turn ahead old new port port' now (fed, comes) each whole out few keeps told =
      let step : Step = record { call = Feed piece; turn = turn } in
      let goes = (fed_by profile Answers Lacked pushing _ (new ≡ old) (port' ≡ port) old.refusal fed).0 in
      let on = subst (λ (s : Settings). FeedsOn (profile s) Answers Lacked pushing piece old.framing new.framing (moment_of old port) (moment_of new port') (Ok tt)) now.settings_are goes in
      rested ahead (ahead ++ step ∷ []) old new port port' now (feeds piece ahead step old new port port' refl refl now on each whole out told) comes few
  called OnTimer turn ahead old new port port' now (hears, (comes, stays)) each whole out few keeps told =
      let step : Step = record { call = OnTimer; turn = turn } in
      let none = none_whole old.framing.held new.framing.held turn.packet whole (ap (λ (h : Shelled E). h.framing.held) stays) in
      rested ahead (ahead ++ step ∷ []) old new port port' now (learns TimerFired ahead step old new port port' now (tt, tells TimerFired old new port port' now.settings_are hears) none out refl refl (λ fires. fires refl) told) comes few
  called (Push name) turn ahead old new port port' now (hears, (comes, stays)) each whole out few keeps told =
      let step : Step = record { call = Push name; turn = turn } in
      let none = none_whole old.framing.held new.framing.held turn.packet whole (ap (λ (h : Shelled E). h.framing.held) stays) in
      rested ahead (ahead ++ step ∷ []) old new port port' now (learns (Opening name) ahead step old new port port' now (tt, tells (Opening name) old new port port' now.settings_are hears) none out refl refl (λ fires. tt) told) comes few
  called Cancel turn ahead old new port port' now (hears, (comes, stays)) each whole out few keeps told =
      let step : Step = record { call = Cancel; turn = turn } in
      let none = none_whole old.framing.held new.framing.held turn.packet whole (ap (λ (h : Shelled E). h.framing.held) stays) in
      rested ahead (ahead ++ step ∷ []) old new port port' now (learns Cancelled ahead step old new port port' now (tt, tells Cancelled old new port port' now.settings_are hears) none out refl refl (λ fires. tt) told) comes few
  called PutOut turn ahead old new port port' now (goes, (comes, stays)) each whole out few keeps told =
      let step : Step = record { call = PutOut; turn = turn } in
      let none = none_whole old.framing.held new.framing.held turn.packet whole (ap (λ (h : Shelled E). h.framing.held) stays) in
      let on = subst (λ (s : Settings). GoesOn (profile s) Answers pushing (moment_of old port) (moment_of new port')) now.settings_are goes in
      let silent = gained_none old.stack.line.out new.stack.line.out turn.said out (ap (λ (l : Line). l.out) (still_line (moment_of old port) (moment_of new port') on now.rests)) in
      rested ahead (ahead ++ step ∷ []) old new port port' now (idle ahead step new.stack port' refl refl none silent (still_reached ahead (moment_of old port) (moment_of new port') on now.rests now.reached)) comes few
  called (Taken count) turn ahead old new port port' now (within, is) each whole out few keeps told =
      let step : Step = record { call = Taken count; turn = turn } in
      let none = none_whole old.framing.held new.framing.held turn.packet whole (ap (λ (h : Shelled E). h.framing.held) is) in
      let left = drop count old.stack.line.out in
      let stack_is = ap (λ (h : Shelled E). h.stack) is in
      let less : nat_lt (length new.stack.line.out) 65536 ≡ true = grind (arith, tests, few) in
      let still_less = ap (λ (s : Stacked E). nat_lt (length s.line.out) 65536) (sym stack_is) ∙ less in
      record {
        reached = led (Gives count) ahead step old.stack new.stack port port' stack_is tt keeps (ap option_to_list (sym none)) refl refl (λ fires. tt) out now.reached;
        rests = λ rest.
            subst (λ (s : Stacked E). Rests A (at port' s rest)) (sym stack_is)
            (subst (λ (p : P). Rests A (at p (record old.stack { line = record old.stack.line { out = left } }) rest)) (sym keeps) (rests_taken A (at port old.stack rest) left (now.rests rest) now.room still_less));
        room = less;
        settings_are = ap (λ (h : Shelled E). settings_of h) is ∙ now.settings_are;
      }
  called (PageDevice address) turn ahead old new port port' now (device, is) each whole out few keeps told =
      let step : Step = record { call = PageDevice address; turn = turn } in
      let none = none_whole old.framing.held new.framing.held turn.packet whole (ap (λ (h : Shelled E). h.framing.held) is) in
      let stack_is = ap (λ (h : Shelled E). h.stack) is in
      record {
        reached = led (Pages address) ahead step old.stack new.stack port port' (device, stack_is) tt keeps (ap option_to_list (sym none)) refl refl (λ fires. tt) out now.reached;
        rests = λ rest.
            subst (λ (s : Stacked E). Rests A (at port' s rest)) (sym stack_is)
            (subst (λ (p : P). Rests A (at p (record old.stack { paged = address }) rest)) (sym keeps) (rests_paging A (at port old.stack rest) address (now.rests rest)));
        room = ap (λ (s : Stacked E). has_room s.line) stack_is ∙ now.room;
        settings_are = ap (λ (h : Shelled E). settings_of h) is ∙ now.settings_are;
      }

  -- ---- one after the other

  next_at : (ahead : List Step) (step : Step) (old new : Shelled E) (port port' : P) → At ahead old port → Takes profile Answers Lacked pushing step old new port port' → Told ahead step → At (ahead ++ step ∷ []) new port'
  next_at ahead step old new port port' now takes told = called step.call step.turn ahead old new port port' now takes.calls takes.each takes.whole takes.out takes.room takes.keeps told

  all_at : (ahead steps : List Step) (old last : Shelled E) (port port' : P) → At ahead old port → HasSteps profile Answers Lacked pushing steps old last port port'
      → ((more : List Step) (step : Step) (later : List Step) → steps ≡ more ++ step ∷ later → Told (ahead ++ more) step) → At (ahead ++ steps) last port'
  all_at ahead [] old last port port' now (same, kept) told =
      subst (λ (l : List Step). At l last port') (sym (append-nil ahead)) (subst (λ (h : Shelled E). At ahead h port') (sym same) (subst (λ (p : P). At ahead old p) (sym kept) now))
  all_at ahead (step ∷ steps) old last port port' now (mid, next, one, more) told =
      let here = next_at ahead step old mid port next now one (λ moved moves. told [] step steps refl moved (subst (λ (l : List Step). MoveFromStart said (turns_of l) moved) (sym (append-nil ahead)) moves)) in
      subst (λ (l : List Step). At l last port') (append_assoc ahead (step ∷ []) steps)
      (all_at (ahead ++ step ∷ []) steps mid last next port' here more
      (λ others one later is moved moves. told (step ∷ others) one later (ap (λ (l : List Step). step ∷ l) is) moved (subst (λ (l : List Step). MoveFromStart said (turns_of l) moved) (append_assoc ahead (step ∷ []) others) moves)))

  -- ---- from the first moment on

  pub first_at : (first : Shelled E) (port : P) → first.stack.line ≡ started role → has_room (started role) ≡ true → IsDevice first.stack.paged → settings_of first ≡ settings → IsResting A pushing (moment_of first port) → ((rest : List Circumstance) → IsAs (at port first.stack rest).host U.first) → At [] first port
  first_at first port is room device same rests alike =
      let start = starts A U IsAs follows role in
      let moves : MovesWith (opening said) (units start.occasions) = record { went = start.went; said = record { each = start.each; octets_are = start.out }; moves_are = start.units_are } in
      record {
        reached = λ rest. record {
          occasions = start.occasions;
          there = U.first;
          runs = subst (λ (l : Line). Runs U (ComesInTurn U) start.occasions (starting U role) (there_at l U.first)) (sym is) start.runs;
          alike = alike rest;
          moves = (units start.occasions, [], moves, refl, sym (append-nil (units start.occasions)));
          untimed = λ all. none_timed start.occasions start.comings_are;
          writable = subst IsWritable (sym is) start.writable;
          device = device;
          tick = (units start.occasions, [], moves, refl, start.ticks_are ∙ sym (append-nil (map Moves (units start.occasions))));
          happen = (start.occasions, [], record { none_come = start.comings_are; move = moves }, refl, sym (append-nil start.occasions));
        };
        rests = rests;
        room = ap has_room is ∙ room;
        settings_are = same;
      }

  pub steps_run : (steps : List Step) (first last : Shelled E) (port port' : P) → At [] first port → HasSteps profile Answers Lacked pushing steps first last port port' → AreTold said steps → At steps last port'
  steps_run steps first last port port' now has told = all_at [] steps first last port port' now has told
