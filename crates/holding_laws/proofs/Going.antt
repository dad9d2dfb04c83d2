-- Impulse after impulse the channels of a host in code are those of what its units and its timer say.
use Rattle.std.proofs.Common.{◌≡◌, ◌≢◌, ℕ, Bool, true, is_some, Option, Some, List, [], ◌∷◌, ◌++◌, map, drop, fold, None, refl, sym, ap, ap₂, subst, ◌∙◌, append_assoc}
use Rattle.std.specs.List.{AllByRecursion}
use Rattle.std.specs.Option.{option_map}
use Rattle.std.proofs.lemmas.List.{append-nil, map-append}
use Rattle.std.proofs.lemmas.List.Concat.{flat_map-append}
use Rattle.std.proofs.lemmas.List.Sums.{fold-append}
use Rattle.call_laws.specs.bt_host.specs.capture.specs.Links.{Link, linking}
use Rattle.call_laws.specs.bt_host.specs.capture.specs.Moves.{Move}
use Rattle.call_laws.specs.bt_host.specs.host_link.specs.Hearing.{PlainNews, Nothing, LinkUp, LinkFailed, LinkDown, Pdu, fault_of, news_of, heard}
use Rattle.call_laws.specs.bt_host.specs.host_link.specs.Lines.{Line, fresh}
use Rattle.call_laws.specs.bt_host.specs.host_link.specs.PuttingOut.{has_room, has_buffer, put_pieces, started}
use Rattle.call_laws.specs.bt_host.specs.host_link.specs.Stands.{into, out_of}
use Rattle.call_laws.specs.bt_host.specs.host_link.specs.declared.role.Role.{Role}
use Rattle.call_laws.specs.bt_host.specs.host_model.specs.Circumstances.{Circumstance}
use Rattle.call_laws.specs.bt_host.specs.host_model.specs.Hosts.{Host, first_host, hear}
use Rattle.call_laws.specs.bt_host.specs.host_model.specs.Machines.{upper}
use Rattle.call_laws.specs.bt_host.specs.host_model.specs.Profiles.{Profile}
use Rattle.call_laws.specs.bt_host.specs.host_model.proofs.Orderly.{says_octets}
use Rattle.call_laws.specs.bt_host.specs.channel_model.specs.Value.{Channels, no_channels}
use Rattle.call_laws.specs.bt_host.specs.Refusals.{acl_limit}
use Rattle.call_laws.specs.bt_host.specs.Stacks.{Stacked, Standing, Deed, Putting, Saying, Ending, Paging, Commanding, DoesDeed, DoesAll, goes_out, standing, after_packet, with_host}
use Rattle.call_laws.specs.bt_host.specs.Uppers.{asking, told_of, hears_told}
use Rattle.call_laws.specs.unit_laws.specs.scenario_laws.specs.channel_laws.specs.Runs.{Occurrence, Comes as Enters}
use Rattle.call_laws.specs.unit_laws.specs.scenario_laws.specs.h4_framing.specs.Packets.{Packet, spellings, IsPacket}
use Rattle.call_laws.specs.unit_laws.specs.scenario_laws.specs.h4_framing.proofs.FaultLemmas.{spellings_append}
use Rattle.call_laws.specs.unit_laws.specs.scenario_laws.specs.h4_framing.proofs.ReadingLemmas.{all_append}
use Rattle.call_laws.specs.unit_laws.specs.scenario_laws.specs.host_laws.specs.Calls.{Asks, from_call}
use Rattle.call_laws.specs.unit_laws.specs.scenario_laws.specs.world_model.specs.Machines.{Upper, News, Linked, Failed, Heard, TimerFired, Cancelled, Opening}
use Rattle.call_laws.specs.unit_laws.specs.scenario_laws.specs.world_model.specs.PerLink.{with_moved}
use Rattle.call_laws.specs.bt_host.specs.capture.specs.declared.flow.Flow.TheVariants.{Into}
use Rattle.call_laws.specs.unit_laws.specs.Calls.{IsWritable, GoesBy, CallsGo}
use Rattle.call_laws.specs.unit_laws.specs.Laws.{FiresNone}
use Rattle.call_laws.specs.unit_laws.specs.Capacity.{takes_more}
use Rattle.call_laws.specs.unit_laws.specs.Timed.{Tick, Timed, Moves, Fires, news_ticks, ticks_of, ticks, timed_after, timed_on, pdus_up, timed}
use Rattle.call_laws.specs.unit_laws.specs.Units.{Lined, Occasion, Comes, Learns as Hits, Says, Puts, Commands, Waits, units_of, units, hears_line, IsOwnNews, IsToldInTurn, ComesInTurn, Runs}
use Rattle.call_laws.specs.unit_laws.proofs.Doing.{runs_then, goes_none, calls_are_runs}
use Rattle.call_laws.specs.unit_laws.proofs.Hearing.{ShownBy, heard_shown}
use Rattle.call_laws.specs.unit_laws.proofs.Lining.{IsFit, LineAs, heard_line}
use Rattle.call_laws.specs.unit_laws.proofs.Running.{LineAt, first_line}
use Rattle.call_laws.specs.unit_laws.proofs.Shown.{shown}
use Rattle.call_laws.specs.unit_laws.proofs.Taking.{ReadAt, takes_so, first_read, runs_read}
use Rattle.call_laws.specs.unit_laws.proofs.Timing.{occasion_timed, some_shown, timed_moved}
use Rattle.call_laws.specs.unit_laws.proofs.Written.{heard_writes}
use Rattle.call_laws.specs.Impulses.{Impulse, Hears, Learns, GoesOn, Gives, Pages, IsDevice, Happens, HasImpulses, heard_of, left_of, MovesWith}
use Rattle.call_laws.proofs.Going.{writable_taken}
use Rattle.holding_laws.specs.InOrder.{LetsOut, IsToldOpenly, AreToldOpenly, AreToldFromStart}
use Rattle.holding_laws.specs.Ticking.{moves_among, firing_of, TicksAlong, TicksFromStart, room_after, room_along}
use Rattle.call_laws.specs.unit_laws.specs.scenario_laws.proofs.Unlinked.{Keeps}
use Rattle.holding_laws.proofs.Unlinked.{runs_off}
use Rattle.holding_laws.proofs.Held.{HeldAt, first_held, none_under_way, adds_so, Finds, seen_after, IsToldIdle, IsIdleAt, IdleSo, runs_held}
use Rattle.holding_laws.proofs.Spent.{IsSpent, out_spent}

-- ---- ticks

-- where no timer fires units alone tick
untimed_one : (occasion : Occasion Circumstance) → FiresNone occasion → ticks_of occasion ≡ map Moves (units_of occasion)
untimed_one (Comes gifts unit) calm = refl
untimed_one (Hits gifts (Linked event)) calm = refl
untimed_one (Hits gifts (Failed status)) calm = refl
untimed_one (Hits gifts (Heard pdu)) calm = refl
untimed_one (Hits gifts TimerFired) calm = absurd calm
untimed_one (Hits gifts Cancelled) calm = refl
untimed_one (Hits gifts (Opening name)) calm = refl
untimed_one (Says pdu) calm = refl
untimed_one (Puts handle piece) calm = refl
untimed_one (Commands command) calm = refl
untimed_one Waits calm = refl

untimed_ticks : (occasions : List (Occasion Circumstance)) → AllByRecursion FiresNone occasions → ticks occasions ≡ map Moves (units occasions)
untimed_ticks [] calm = refl
untimed_ticks (occasion ∷ occasions) calm = ap₂ (λ (x y : List Tick). x ++ y) (untimed_one occasion calm.0) (untimed_ticks occasions calm.1) ∙ sym (map-append Moves (units_of occasion) (units occasions))

ticks_then : (begun : List Tick) (one two : List (Occasion Circumstance)) → ticks one ≡ begun ++ map Moves (units one) → ticks two ≡ map Moves (units two) → ticks (one ++ two) ≡ begun ++ map Moves (units (one ++ two))
ticks_then begun one two first second =
    flat_map-append ticks_of one two
    ∙ (ap₂ (λ (x y : List Tick). x ++ y) first second
    ∙ (append_assoc begun (map Moves (units one)) (map Moves (units two))
    ∙ ap (λ (more : List Tick). begun ++ more) (sym (map-append Moves (units one) (units two)) ∙ ap (λ (moves : List Move). map Moves moves) (sym (flat_map-append units_of one two)))))

-- behind what ticked stand the units of it
ticks_timed : (old : Timed) (occasions : List (Occasion Circumstance)) → (fold timed_after old (ticks occasions)).moved ≡ old.moved ++ units occasions
ticks_timed old [] = sym (append-nil old.moved)
ticks_timed old (occasion ∷ occasions) =
    let next = fold timed_after old (ticks_of occasion) in
    ap (λ (t : Timed). t.moved) (fold-append timed_after old (ticks_of occasion) (ticks occasions))
    ∙ (ticks_timed next occasions ∙ (ap (λ (t : Timed). t.moved ++ units occasions) (occasion_timed old occasion) ∙ append_assoc old.moved (units_of occasion) (units occasions)))

-- and they are those that ticked
pub moved_are : (old : Timed) (list : List Tick) → (fold timed_after old list).moved ≡ old.moved ++ moves_among list
moved_are old [] = sym (append-nil old.moved)
moved_are old (Moves move ∷ list) = moved_are (timed_after old (Moves move)) list ∙ append_assoc old.moved (move ∷ []) (moves_among list)
moved_are old (Fires ∷ list) = moved_are (timed_after old Fires) list

module _ {S : Type 0} (A : Profile S) (asks : Asks A) (May : Occurrence → Type 0) (may : (v : Channels) (p : S) → AllByRecursion May (from_call (asks.call v p))) (F : Type 0) where
  abbrev U : Upper (Host S) Circumstance
  U = upper A

  abbrev lined : Line → Host S → Lined (Host S)
  lined line host = record { line = line; upper = host }

  -- ---- runs

  -- these packets came in, and behind them packets went out, whose octets `out` gained; and what ticked before they moved
  record Went (begun : List Tick) (came : List Packet) (old new : Lined (Host S)) : Type 0 where
    occasions : List (Occasion Circumstance)
    runs : Runs U (IdleSo A asks May may F) occasions old new
    went : List Packet
    each : AllByRecursion (IsPacket 1021) went
    units_are : units occasions ≡ map into came ++ map out_of went
    ticks_are : ticks occasions ≡ begun ++ map Moves (units occasions)
    out : new.line.out ≡ old.line.out ++ spellings went
    writable : IsWritable new.line

  -- what comes in turn finds no piece that waits
  turn_idle : (occasion : Occasion Circumstance) (now : Lined (Host S)) → ComesInTurn U occasion now → IsIdleAt A asks May may F occasion now
  turn_idle (Comes gifts unit) now turn = by (news_of unit now.line) turn
    where
      by : (news : PlainNews) → IsToldInTurn U now news → IsToldIdle A asks May may F news now.line
      by Nothing told = tt
      by LinkUp told = tt
      by (LinkFailed status) told = tt
      by (LinkDown reason) told = tt
      by (Pdu channel octets) told = told.pieces
  turn_idle (Hits gifts news) now turn = by news
    where
      by : (n : News) → Finds n (now.line.pieces ≡ [])
      by (Linked event) = tt
      by (Failed status) = tt
      by (Heard pdu) = turn.pieces
      by TimerFired = turn.pieces
      by Cancelled = tt
      by (Opening name) = tt
  turn_idle (Says pdu) now turn = tt
  turn_idle (Puts handle piece) now turn = tt
  turn_idle (Commands command) now turn = tt
  turn_idle Waits now turn = tt

  runs_idle : (occasions : List (Occasion Circumstance)) (old new : Lined (Host S)) → Runs U (ComesInTurn U) occasions old new → Runs U (IdleSo A asks May may F) occasions old new
  runs_idle [] old new is = is
  runs_idle (occasion ∷ occasions) old new (mid, turn, happens, rest) = (mid, (λ so. turn_idle occasion old turn), happens, runs_idle occasions mid new rest)

  went_alone : (old new : Lined (Host S)) → GoesBy U [] [] old new → Went [] [] old new
  went_alone old new goes = record {
    occasions = goes.occasions;
    runs = runs_idle goes.occasions old new goes.runs;
    went = goes.went;
    each = goes.each;
    units_are = goes.units_are;
    ticks_are = untimed_ticks goes.occasions goes.untimed;
    out = goes.out;
    writable = goes.writable;
  }

  went_then : (begun : List Tick) (came : List Packet) (old mid new : Lined (Host S)) → Went begun came old mid → Went [] [] mid new → Went begun came old new
  went_then begun came old mid new first second = record {
    occasions = first.occasions ++ second.occasions;
    runs = runs_then U (IdleSo A asks May may F) first.occasions second.occasions old mid new first.runs second.runs;
    went = first.went ++ second.went;
    each = all_append (IsPacket 1021) first.went second.went first.each second.each;
    units_are = flat_map-append units_of first.occasions second.occasions
        ∙ (ap₂ (λ (x y : List Move). x ++ y) first.units_are second.units_are
        ∙ (append_assoc (map into came) (map out_of first.went) (map out_of second.went) ∙ ap (λ (more : List Move). map into came ++ more) (sym (map-append out_of first.went second.went))));
    ticks_are = ticks_then begun first.occasions second.occasions first.ticks_are second.ticks_are;
    out = second.out
        ∙ (ap (λ (out : List ℕ). out ++ spellings second.went) first.out
        ∙ (append_assoc old.line.out (spellings first.went) (spellings second.went) ∙ ap (λ (more : List ℕ). old.line.out ++ more) (sym (spellings_append first.went second.went))));
    writable = second.writable;
  }

  calls_at : (line : Line) (host : Host S) → IsWritable line → CallsGo U (lined line host)
  calls_at line host writable = (calls_are_runs U).calls (lined line host) (λ s pdu after is. says_octets A s pdu after is) writable

  -- ---- what it does by itself

  abbrev Moved : (old new : Standing S) → Type 0
  Moved old new = Went [] [] (lined old.line old.host) (lined new.line new.host) × (new.paged ≡ old.paged)

  moved_by : (old : Standing S) (line : Line) → GoesBy U [] [] (lined old.line old.host) (lined line old.host) → Moved old (record old { line = line })
  moved_by old line goes = (went_alone (lined old.line old.host) (lined line old.host) goes, refl)

  deed_moves : (deed : Deed) (old new : Standing S) → DoesDeed A deed old new → IsWritable old.line → IsDevice old.paged → Moved old new
  deed_moves Putting old new does writable device = subst (λ (s : Standing S). Moved old s) (sym does) (moved_by old _ (calls_at old.line old.host writable).puts)
  deed_moves (Saying pdu) old new does writable device = (
    subst (λ (l : Line). Went [] [] (lined old.line old.host) (lined l new.host)) (sym does.line) (went_alone (lined old.line old.host) _ ((calls_at old.line old.host writable).says pdu new.host does.may does.next)),
    does.paged,
  )
  deed_moves Ending old new does writable device = subst (λ (s : Standing S). Moved old s) (sym does.1) (moved_by old _ (calls_at old.line old.host writable).ends)
  deed_moves Paging old new does writable device = subst (λ (s : Standing S). Moved old s) (sym does.1) (moved_by old _ ((calls_at old.line old.host writable).pages old.paged device.six device.octets))
  deed_moves Commanding old new does writable device = subst (λ (s : Standing S). Moved old s) (sym does) (moved_by old _ (calls_at old.line old.host writable).commands)

  all_move : (deeds : List Deed) (old new : Standing S) → DoesAll A deeds old new → IsWritable old.line → IsDevice old.paged → Moved old new
  all_move [] old new does writable device = subst (λ (s : Standing S). Moved old s) (sym does) (moved_by old old.line (goes_none U (lined old.line old.host) writable))
  all_move (deed ∷ deeds) old new (mid, one, more) writable device =
      let first = deed_moves deed old mid one writable device in
      let behind = all_move deeds mid new more first.0.writable (subst IsDevice (sym first.1) device) in
      (went_then [] [] (lined old.line old.host) (lined mid.line mid.host) (lined new.line new.host) first.0 behind.0, behind.1 ∙ first.1)

  -- ---- what comes to it

  told_same : (news : PlainNews) (answers : List Circumstance) (host : Host S) → hears_line U answers news host ≡ hears_told A answers (told_of news) host
  told_same Nothing answers host = refl
  told_same LinkUp answers host = refl
  told_same (LinkFailed status) answers host = refl
  told_same (LinkDown reason) answers host = refl
  told_same (Pdu channel octets) answers host = refl

  packet_went : (packet : Packet) (answers : List Circumstance) (old : Standing S) → IsPacket acl_limit packet → fault_of packet old.line ≡ None → IsWritable old.line → (F → IsToldIdle A asks May may F (news_of packet old.line) old.line)
      → (let after = after_packet A packet answers old in Went [] (packet ∷ []) (lined old.line old.host) (lined after.line after.host))
  packet_went packet answers old is fault writable idle =
      let writes = heard_writes acl_limit packet old.line is fault writable in
      let line = heard packet old.line in
      subst (λ (host : Host S). Went [] (packet ∷ []) (lined old.line old.host) (lined line host)) (told_same (news_of packet old.line) answers old.host)
      (record {
        occasions = Comes answers packet ∷ [];
        runs = (lined line (hears_line U answers (news_of packet old.line) old.host), idle, (fault, refl), refl);
        went = [];
        each = tt;
        units_are = refl;
        ticks_are = refl;
        out = writes.out_is ∙ sym (append-nil old.line.out);
        writable = writes.writable;
      })

  module _ {E P : Type 0} (Answers : P → List Circumstance → P → Type 0) (pushing : E → P → List Circumstance → S) (Q : S → Type 0) (keeps : Keeps A Q) (any_port : (end : E) (p p' : P) (r r' : List Circumstance) → Q (pushing end p r) → Q (pushing end p' r')) where
    abbrev at : P → Stacked E → List Circumstance → Standing S
    at port stack rest = standing pushing port stack rest

    -- where its link is down it has no channels, whatever its port is
    abbrev IsDown : Stacked E → Type 0
    IsDown stack = stack.line.link ≡ None → (stack.upper.machine.channels ≡ no_channels) × ((port : P) (rest : List Circumstance) → Q (pushing stack.upper.end port rest))

    -- where it can put out more no piece waits
    abbrev IsOut : Line → Type 0
    IsOut line = is_some line.link ≡ true → has_buffer line ≡ true → line.pieces ≡ []

    -- where it goes on
    went_out : (before after : Standing S) → goes_out A before ≡ after → has_room after.line ≡ true → IsOut after.line
    went_out before after is room on buffer = (subst (IsSpent A) is (out_spent A before) on buffer room).pieces

    none_left : (link : Option ℕ) (line : Line) → line.link ≡ link → IsFit line → IsOut line → has_buffer line ≡ true → line.pieces ≡ []
    none_left None line is fit out buffer = fit.off is
    none_left (Some handle) line is fit out buffer = out (ap is_some is) buffer

    -- with an impulse units move, and its channels are those of what so happened
    record Goes (impulse : Impulse) (old new : Stacked E) : Type 0 where
      moves : List Move
      move : MovesWith impulse old new moves
      writable : IsWritable new.line
      device : IsDevice new.paged
      held : (past : List Move) (seen : List Occurrence) → HeldAt May F A.policy past seen old.line old.upper.machine.channels → HeldAt May F A.policy (past ++ moves) (seen_after A asks May may F past seen (firing_of impulse ++ map Moves moves)) new.line new.upper.machine.channels
      off : (past : List Move) → LineAt past old.line → IsDown old → IsDown new
      read : (past : List Move) → ReadAt past old.line → ReadAt (past ++ moves) new.line
      out : (room : Bool) → (room ≡ true → IsOut old.line) → room_after impulse room new.line ≡ true → IsOut new.line
      moved : (before : Timed) → (fold timed_after before (firing_of impulse ++ map Moves moves)).moved ≡ before.moved ++ moves

    goes_by : (impulse : Impulse) (old new : Stacked E) (before after : P) (all : List Circumstance) (occasions : List (Occasion Circumstance)) → Runs U (IdleSo A asks May may F) occasions (lined old.line (at before old all).host) (lined new.line (at after new []).host)
        → MovesWith impulse old new (units occasions) → ticks occasions ≡ firing_of impulse ++ map Moves (units occasions) → IsWritable new.line → IsDevice new.paged
        → ((room : Bool) → (room ≡ true → IsOut old.line) → room_after impulse room new.line ≡ true → IsOut new.line) → Goes impulse old new
    goes_by impulse old new before after all occasions runs move ticks_are writable device out =
        let from = lined old.line (at before old all).host in
        let to = lined new.line (at after new []).host in
        record {
          moves = units occasions;
          move = move;
          writable = writable;
          device = device;
          held = λ past seen held.
              subst (λ (list : List Tick). HeldAt May F A.policy (past ++ units occasions) (seen_after A asks May may F past seen list) new.line new.upper.machine.channels) ticks_are (runs_held A asks May may F past seen occasions from to runs held);
          off = λ past line down none.
              let there = runs_off A Q keeps (IdleSo A asks May may F) past occasions from to runs line (λ link. record { channels_are = (down link).0; profile_is = (down link).1 before all }) none in
              (there.channels_are, λ port rest. any_port new.upper.end after port [] rest there.profile_is);
          read = λ past read. runs_read U (IdleSo A asks May may F) past occasions from to runs read;
          out = out;
          moved = λ old. ap (λ (list : List Tick). (fold timed_after old list).moved) (sym ticks_are) ∙ ticks_timed old occasions;
        }

    went_by : (impulse : Impulse) (old new : Stacked E) (before after : P) (all : List Circumstance) → left_of impulse old.line.out ≡ old.line.out → Went (firing_of impulse) (heard_of impulse) (lined old.line (at before old all).host) (lined new.line (at after new []).host) → IsDevice new.paged
        → ((room : Bool) → (room ≡ true → IsOut old.line) → room_after impulse room new.line ≡ true → IsOut new.line) → Goes impulse old new
    went_by impulse old new before after all none went device out =
        goes_by impulse old new before after all went.occasions went.runs
        (record { gained = spellings went.went; out = went.out ∙ ap (λ (out : List ℕ). out ++ spellings went.went) (sym none); went = went.went; spelled = record { each = went.each; octets_are = refl }; moves_are = went.units_are })
        went.ticks_are went.writable device out

    -- no piece waits where an impulse brings a PDU, or the timer fires
    abbrev IsIdleFor : Impulse → Line → Type 0
    IsIdleFor (Hears packet) line = IsToldIdle A asks May may F (news_of packet line) line
    IsIdleFor (Learns news) line = Finds news (line.pieces ≡ [])
    IsIdleFor GoesOn line = Unit {0}
    IsIdleFor (Gives count) line = Unit {0}
    IsIdleFor (Pages address) line = Unit {0}

    goes : (impulse : Impulse) (old new : Stacked E) (before after : P) → Happens A Answers pushing impulse (record { stack = old; port = before }) (record { stack = new; port = after }) → IsWritable old.line → IsDevice old.paged → (F → IsIdleFor impulse old.line) → Goes impulse old new
    goes (Hears packet) old new before after (is, hears) writable device idle =
        let all = hears.reacts.used ++ [] in
        let mid = after_packet A packet all (at before old all) in
        let first = packet_went packet all (at before old all) is hears.fault writable idle in
        let behind = all_move hears.reacts.deeds mid (at after new []) (hears.reacts.reacts []) first.writable device in
        went_by (Hears packet) old new before after all refl (went_then [] (packet ∷ []) (lined old.line (at before old all).host) (lined mid.line mid.host) (lined new.line (at after new []).host) first behind.0) (subst IsDevice (sym behind.1) device)
        (λ room before_out on. went_out mid (at after new []) (hears.reacts.exactly []) on)
    goes (Learns news) old new before after (own, hears) writable device idle =
        let all = hears.used ++ [] in
        let host = hear A all news (asking pushing before old.upper all) in
        let mid = with_host host (at before old all) in
        let first : Went (news_ticks news) [] (lined old.line (at before old all).host) (lined old.line host) = record {
          occasions = Hits all news ∷ [];
          runs = (lined old.line host, idle, (own, refl), refl);
          went = [];
          each = tt;
          units_are = refl;
          ticks_are = refl;
          out = sym (append-nil old.line.out);
          writable = writable;
        } in
        let behind = all_move hears.deeds mid (at after new []) (hears.reacts []) writable device in
        went_by (Learns news) old new before after all refl (went_then (news_ticks news) [] (lined old.line (at before old all).host) (lined mid.line mid.host) (lined new.line (at after new []).host) first behind.0) (subst IsDevice (sym behind.1) device)
        (λ room before_out on. went_out mid (at after new []) (hears.exactly []) on)
    goes GoesOn old new before after goes_on writable device idle =
        let all = goes_on.used ++ [] in
        let moved = all_move goes_on.deeds (at before old all) (at after new []) (goes_on.reacts []) writable device in
        went_by GoesOn old new before after all refl moved.0 (subst IsDevice (sym moved.1) device) (λ room before_out on. went_out (at before old all) (at after new []) (goes_on.exactly []) on)
    goes (Gives count) old new before after is writable device idle =
        let out = drop count old.line.out in
        let host = (at before old []).host in
        let line : Line = record old.line { out = out } in
        subst (λ (s : Stacked E). Goes (Gives count) old s) (sym is)
        (goes_by (Gives count) old (record old { line = line }) before before [] (Waits ∷ []) (lined line host, (λ so. tt), record { upper_is = refl; line_is = refl; awaited_is = refl }, refl)
        (record { gained = []; out = sym (append-nil out); went = []; spelled = record { each = tt; octets_are = refl }; moves_are = refl }) refl (writable_taken old.line out writable) device (λ room before_out on. before_out on))
    goes (Pages address) old new before after (paged, is) writable device idle =
        subst (λ (s : Stacked E). Goes (Pages address) old s) (sym is)
        (goes_by (Pages address) old (record old { paged = address }) before before [] [] refl
        (record { gained = []; out = sym (append-nil old.line.out); went = []; spelled = record { each = tt; octets_are = refl }; moves_are = refl }) refl writable paged (λ room before_out on. before_out on))

    -- ---- where it is told openly no piece waits

    up_on : (up : Option Link) (handle : ℕ) → option_map (λ (link : Link). link.handle) up ≡ Some handle → is_some up ≡ true
    up_on None handle is = cc
    up_on (Some link) handle is = refl

    lets_out : (past : List Move) (room : Bool) (line : Line) (handle : ℕ) → ReadAt past line → (room ≡ true → IsOut line) → line.link ≡ Some handle → LetsOut past room → line.pieces ≡ []
    lets_out past room line handle read out on lets = out lets.room_is (ap is_some on) (takes_so past line read ∙ lets.takes)

    fired_idle : (past : List Move) (room : Bool) (line : Line) (link : Option ℕ) → line.link ≡ link → ReadAt past line → (room ≡ true → IsOut line) → (is_some (linking past).up ≡ true → LetsOut past room) → line.pieces ≡ []
    fired_idle past room line None is read out free = read.at.fit.off is
    fired_idle past room line (Some handle) is read out free = lets_out past room line handle read out is (free (up_on (linking past).up handle (read.at.stands.link ∙ is)))

    learns_idle : (news : News) (past : List Move) (room : Bool) (line : Line) → ReadAt past line → (room ≡ true → IsOut line) → ((news_ticks news ≢ []) → is_some (linking past).up ≡ true → LetsOut past room) → IsOwnNews news → Finds news (line.pieces ≡ [])
    learns_idle (Linked event) past room line read out free own = tt
    learns_idle (Failed status) past room line read out free own = tt
    learns_idle (Heard pdu) past room line read out free own = absurd own
    learns_idle TimerFired past room line read out free own = fired_idle past room line line.link refl read out (free (λ never. cc))
    learns_idle Cancelled past room line read out free own = tt
    learns_idle (Opening name) past room line read out free own = tt

    hears_idle : (news : PlainNews) (packet : Packet) (past : List Move) (room : Bool) (line after : Line) → ShownBy news (linking past) (linking (past ++ into packet ∷ [])) → LineAs news line after → ReadAt past line → (room ≡ true → IsOut line)
        → ((timed_on (pdus_up past) (pdus_up (past ++ into packet ∷ [])) [] ≢ []) → LetsOut past room) → IsToldIdle A asks May may F news line
    hears_idle Nothing packet past room line after by shape read out free = tt
    hears_idle LinkUp packet past room line after by shape read out free = tt
    hears_idle (LinkFailed status) packet past room line after by shape read out free = tt
    hears_idle (LinkDown reason) packet past room line after by shape read out free = tt
    hears_idle (Pdu channel octets) packet past room line after by shape read out free =
        let past' = past ++ into packet ∷ [] in
        let on = some_shown (linking past).up shape.link.handle (read.at.stands.link ∙ shape.link.on) in
        let adds : timed_on (pdus_up past) (pdus_up past') [] ≡ Enters octets ∷ [] =
        adds_so past past' [] (with_moved Into (octets ∷ []) (shown (linking past))) by.adds ∙ timed_moved Into (octets ∷ []) (shown (linking past)) [] on in
        lets_out past room line shape.link.handle read out shape.link.on (free (λ empty. let never = sym adds ∙ empty in cc))

    told_idle : (impulse : Impulse) (old new : Stacked E) (before after : P) → Happens A Answers pushing impulse (record { stack = old; port = before }) (record { stack = new; port = after }) → (past : List Move) (room : Bool) → ReadAt past old.line → (room ≡ true → IsOut old.line)
        → IsToldOpenly impulse past room → IsIdleFor impulse old.line
    told_idle (Hears packet) old new before after (is, hears) past room read out free =
        hears_idle (news_of packet old.line) packet past room old.line (heard packet old.line) (heard_shown past old.line packet read.at.stands) (heard_line packet old.line hears.fault read.at.fit) read out free
    told_idle (Learns news) old new before after (own, hears) past room read out free = learns_idle news past room old.line read out free own
    told_idle GoesOn old new before after one past room read out free = tt
    told_idle (Gives count) old new before after one past room read out free = tt
    told_idle (Pages address) old new before after one past room read out free = tt

    -- ---- one after the other

    record GoesAlong (impulses : List Impulse) (old new : Stacked E) (has : HasImpulses A Answers pushing impulses old new) : Type 0 where
      list : List Tick
      moves : List Move
      along : TicksAlong A Answers pushing impulses old new has list
      held : (past : List Move) (seen : List Occurrence) → HeldAt May F A.policy past seen old.line old.upper.machine.channels → HeldAt May F A.policy (past ++ moves) (seen_after A asks May may F past seen list) new.line new.upper.machine.channels
      off : (past : List Move) (seen : List Occurrence) → HeldAt May F A.policy past seen old.line old.upper.machine.channels → IsDown old → IsDown new
      read : (past : List Move) → ReadAt past old.line → ReadAt (past ++ moves) new.line
      out : (room : Bool) → (room ≡ true → IsOut old.line) → room_along A Answers pushing impulses old new has room ≡ true → IsOut new.line
      moved : (before : Timed) → (fold timed_after before list).moved ≡ before.moved ++ moves

    goes_along : (impulses : List Impulse) (old new : Stacked E) (has : HasImpulses A Answers pushing impulses old new) (past : List Move) (room : Bool) → IsWritable old.line → IsDevice old.paged → ReadAt past old.line → (room ≡ true → IsOut old.line) → (F → AreToldOpenly A Answers pushing impulses old new has past room)
        → GoesAlong impulses old new has
    goes_along [] old new has here room writable device read_here out_here free = record {
      list = [];
      moves = [];
      along = refl;
      held = λ past seen held.
          subst (λ (moves : List Move). HeldAt May F A.policy moves seen new.line new.upper.machine.channels) (sym (append-nil past)) (subst (λ (s : Stacked E). HeldAt May F A.policy past seen s.line s.upper.machine.channels) (sym has) held);
      off = λ past seen held down. subst IsDown (sym has) down;
      read = λ past read. subst (λ (moves : List Move). ReadAt moves new.line) (sym (append-nil past)) (subst (λ (s : Stacked E). ReadAt past s.line) (sym has) read);
      out = λ room before_out on. subst (λ (s : Stacked E). IsOut s.line) (sym has) (before_out on);
      moved = λ before. sym (append-nil before.moved);
    }
    goes_along (impulse ∷ impulses) old new (mid, before, after, one, more) here room writable device read_here out_here free =
        let first = goes impulse old mid before after one writable device (λ so. told_idle impulse old mid before after one here room read_here out_here (free so).0) in
        let behind =
        goes_along impulses mid new more (here ++ first.moves) (room_after impulse room mid.line) first.writable first.device (first.read here read_here) (first.out room out_here) (λ so. (free so).1 first.moves first.move) in
        let list = firing_of impulse ++ map Moves first.moves in
        record {
          list = list ++ behind.list;
          moves = first.moves ++ behind.moves;
          along = (list, behind.list, record { moves = first.moves; move = first.move; list_is = refl }, behind.along, refl);
          held = λ past seen held.
              let start : Timed = record { moved = past; list = seen } in
              let there = behind.held (past ++ first.moves) (seen_after A asks May may F past seen list) (first.held past seen held) in
              let same : seen_after A asks May may F past seen (list ++ behind.list) ≡ seen_after A asks May may F (past ++ first.moves) (seen_after A asks May may F past seen list) behind.list =
              ap (λ (t : Timed). t.list) (fold-append timed_after start list behind.list)
              ∙ ap (λ (moves : List Move). (fold timed_after (let t : Timed = record { moved = moves; list = seen_after A asks May may F past seen list } in t) behind.list).list) (first.moved start) in
              subst (λ (moves : List Move). HeldAt May F A.policy moves (seen_after A asks May may F past seen (list ++ behind.list)) new.line new.upper.machine.channels) (append_assoc past first.moves behind.moves)
              (subst (λ (l : List Occurrence). HeldAt May F A.policy ((past ++ first.moves) ++ behind.moves) l new.line new.upper.machine.channels) (sym same) there);
          off = λ past seen held down. behind.off (past ++ first.moves) (seen_after A asks May may F past seen list) (first.held past seen held) (first.off past held.line down);
          read = λ past read. subst (λ (moves : List Move). ReadAt moves new.line) (append_assoc past first.moves behind.moves) (behind.read (past ++ first.moves) (first.read past read));
          out = λ room before_out on. behind.out (room_after impulse room mid.line) (first.out room before_out) on;
          moved = λ start.
              ap (λ (t : Timed). t.moved) (fold-append timed_after start list behind.list)
              ∙ (behind.moved (fold timed_after start list) ∙ (ap (λ (moves : List Move). moves ++ behind.moves) (first.moved start) ∙ append_assoc start.moved first.moves behind.moves));
        }

    -- ---- from the first moment on

    starts : (role : Role) → Went [] [] (lined (fresh role) (first_host A)) (lined (started role) (first_host A))
    starts role =
        let host = first_host A in
        let first = went_alone (lined (fresh role) host) _ (calls_at (fresh role) host ((calls_are_runs U).fresh role)).puts in
        let mid = put_pieces (fresh role) in
        went_then [] [] (lined (fresh role) host) (lined mid host) (lined (started role) host) first (went_alone (lined mid host) _ (calls_at mid host first.writable).commands)

    pub record HoldsFromStart (role : Role) (impulses : List Impulse) (old new : Stacked E) (has : HasImpulses A Answers pushing impulses old new) : Type 0 where
      pub list : List Tick
      pub tick : TicksFromStart A Answers pushing role impulses old new has list
      pub moves : List Move
      pub held : HeldAt May F A.policy moves (timed list) new.line new.upper.machine.channels
      pub off : (linking (moves_among list)).up ≡ None → new.upper.machine.channels ≡ no_channels
      pub read : ReadAt (moves_among list) new.line
      pub none_waits : room_along A Answers pushing impulses old new has true ≡ true → takes_more (moves_among list) ≡ true → held.under_way ≡ []

    pub holds_from_start : (role : Role) (impulses : List Impulse) (old new : Stacked E) (has : HasImpulses A Answers pushing impulses old new) → old.line ≡ started role → IsDevice old.paged → old.upper.machine.channels ≡ no_channels → ((port : P) (rest : List Circumstance) → Q (pushing old.upper.end port rest)) → old.line.pieces ≡ [] → (F → AreToldFromStart A Answers pushing role impulses old new has) → HoldsFromStart role impulses old new has
    holds_from_start role impulses old new has is device none quiet nothing_waits free =
        let start = starts role in
        let begun : ReadAt (units start.occasions) old.line = subst (ReadAt (units start.occasions)) (sym is) (runs_read U (IdleSo A asks May may F) [] start.occasions (lined (fresh role) (first_host A)) (lined (started role) (first_host A)) start.runs (first_read role)) in
        let told : F → AreToldOpenly A Answers pushing impulses old new has (units start.occasions) true =
        λ so. subst (λ (ms : List Move). AreToldOpenly A Answers pushing impulses old new has ms true) (sym start.units_are) (free so start.went (record { each = start.each; octets_are = start.out })) in
        let along = goes_along impulses old new has (units start.occasions) true (subst IsWritable (sym is) start.writable) device begun (λ on up buffer. nothing_waits) told in
        let first = map Moves (map out_of start.went) in
        let ticked : ticks start.occasions ≡ first = start.ticks_are ∙ ap (λ (moves : List Move). map Moves moves) start.units_are in
        let began = runs_held A asks May may F [] [] start.occasions (lined (fresh role) (first_host A)) (lined (started role) (first_host A)) start.runs (first_held May F A.policy role (first_line role)) in
        let moves = units start.occasions in
        let there : HeldAt May F A.policy moves (timed first) old.line old.upper.machine.channels =
        subst (λ (l : Line). HeldAt May F A.policy moves (timed first) l old.upper.machine.channels) (sym is) (subst (λ (v : Channels). HeldAt May F A.policy moves (timed first) (started role) v) (sym none) (subst (λ (list : List Tick). HeldAt May F A.policy moves (timed list) (started role) no_channels) ticked began)) in
        let nothing : Timed = record { moved = []; list = [] } in
        let moved : (fold timed_after nothing first).moved ≡ moves = ap (λ (list : List Tick). (fold timed_after nothing list).moved) (sym ticked) ∙ ticks_timed nothing start.occasions in
        let same : timed (first ++ along.list) ≡ seen_after A asks May may F moves (timed first) along.list =
        ap (λ (t : Timed). t.list) (fold-append timed_after nothing first along.list) ∙ ap (λ (ms : List Move). (fold timed_after (let t : Timed = record { moved = ms; list = timed first } in t) along.list).list) moved in
        let list = first ++ along.list in
        let down : IsDown old = λ link. (none, quiet) in
        let ended = along.held moves (timed first) there in
        let all : moves ++ along.moves ≡ moves_among list =
        sym (ap (λ (t : Timed). t.moved) (fold-append timed_after nothing first along.list) ∙ (along.moved (fold timed_after nothing first) ∙ ap (λ (ms : List Move). ms ++ along.moves) moved)) ∙ moved_are nothing list in
        let held = subst (λ (l : List Occurrence). HeldAt May F A.policy (moves ++ along.moves) l new.line new.upper.machine.channels) (sym same) ended in
        let read : ReadAt (moves_among list) new.line = subst (λ (ms : List Move). ReadAt ms new.line) all (along.read moves begun) in
        record {
          list = list;
          tick = record { first = start.went; spelled = record { each = start.each; octets_are = start.out }; rest = along.list; along = along.along; list_is = refl };
          moves = moves ++ along.moves;
          held = held;
          off = λ up.
              let link : new.line.link ≡ None = sym ended.line.stands.link ∙ ap (option_map (λ (l : Link). l.handle)) (ap (λ (ms : List Move). (linking ms).up) all ∙ up) in
              (along.off moves (timed first) there down link).0;
          read = read;
          none_waits = λ room takes.
              none_under_way May F A.policy (moves ++ along.moves) (timed list) new.line new.upper.machine.channels held
              (none_left new.line.link new.line refl ended.line.fit (along.out true (λ on up buffer. nothing_waits) room) (takes_so (moves_among list) new.line read ∙ takes));
        }
