-- A host is fed one octet more.
use Rattle.std.proofs.Common.{◌≡◌, ◌≢◌, ◌∙◌, ◌⊎◌, inl, inr, ℕ, ◌<◌, ◌≤◌, ◌&&◌, Bool, true, false, not, nat_lt, is_some, List, [], ◌∷◌, ◌++◌, length, refl, sym, ap, subst, true≢false, append_assoc, length-append, arith}
use Rattle.std.specs.Prelude.{Option, Some, None, Ok, Err, option_to_list}
use Rattle.std.specs.List.{AllByRecursion}
use Rattle.std.proofs.lemmas.List.{append-nil}
use mathlib.Core.Path.{fun_ext}
use Rattle.bt_base.specs.Streams.{gained, GainedFront}
use Rattle.bt_base.proofs.PortLaws.{gained-gained, front_whole, front_then}
use Rattle.h4_framing.specs.declared.refusal.H4Refusal.TheVariants as h4
use Rattle.h4_framing.specs.Packets.{Packet, Command, Acl, Sync, Event, spelling, spellings, IsPacket}
use Rattle.h4_framing.specs.Framing.{Framing}
use Rattle.h4_framing.proofs.ReadingLemmas.{no_wrong_nothing}
use Rattle.bt_host.specs.hci_packets.specs.Events.{PlainEvent, CommandComplete, CommandStatus}
use Rattle.bt_host.specs.host_link.specs.declared.news.ControllerFault.{ControllerFault}
use Rattle.bt_host.specs.host_link.specs.declared.news.ControllerFault.TheVariants as controller
use Rattle.bt_host.specs.host_link.specs.EventReading.{event_in}
use Rattle.bt_host.specs.host_link.specs.Hearing.{fault_of, event_fault}
use Rattle.bt_host.specs.host_link.specs.Lines.{Line}
use Rattle.bt_host.specs.obex_session.specs.Counting as counting
use Rattle.bt_host.specs.host_model.specs.Circumstances.{Circumstance, answers_in}
use Rattle.bt_host.specs.host_model.specs.Profiles.{Profile}
use Rattle.bt_host.specs.declared.feed_refusal.FeedRefusal.{FeedRefusal}
use Rattle.bt_host.specs.declared.feed_refusal.FeedRefusal.TheVariants as fed
use Rattle.bt_host.specs.Refusals.{acl_limit, refusal_by, BeginsRefused, IsRefused}
use Rattle.bt_host.specs.Pieces.{IsStopped, place_behind}
use Rattle.bt_host.specs.Stacks.{Standing, Rests}
use Rattle.receiving.specs.declared.fault.StreamRefusal.{StreamRefusal}
use Rattle.receiving.specs.declared.fault.StreamRefusal.TheVariants as refusals
use Rattle.receiving.specs.declared.fault.ListenFault.{ListenFault}
use Rattle.receiving.specs.declared.fault.ListenFault.TheVariants.{Refused, ReadFault, WriteFault, NoMemory}
use Rattle.receiving.specs.Turns.{Stand, Posture, HasRest, Begun, Turn, HasTurn, HasTurns, answers_of, answers_along, packets_in, said_in, is_full, emptied}
use Rattle.receiving.specs.Feeding.{Listens, IsFed}
use Rattle.receiving.specs.Coming.{input_limit, BeginsFaulty, Ends, Beside, Halts}
use Rattle.receiving.specs.Faring.{Fares, told_by, IsOfSink}
use Rattle.receiving.proofs.Answering.{Gave, gave_then, gave_none, answers_to, answers_snoc, hears_to}
use Rattle.receiving.proofs.Lists.{none_before, one_at_most, none_alone, some_spelled}
use Rattle.receiving.proofs.Still.{rests_emptied, emptied_same, moves_still}
use Rattle.receiving.proofs.Turning.{packets_snoc, said_snoc, Framed, whole_more, framed_more}

never_both : (b : Bool) → (b && false) ≡ false
never_both true = refl
never_both false = refl

not_not : (b : Bool) → not b ≡ false → b ≡ true
not_not true is = refl
not_not false is = absurd (true≢false is)

-- ---- the turns that an octet more makes

-- the turns of before, and perhaps one more; the octets are their packets and a rest
pub record Turned {S : Type 0} (A : Profile S) (first : Begun S) (before : List ℕ) (packets : List Packet) (rest : List ℕ) (heard now : Stand S) (said : List ℕ) (counts counts' : counting.Counts) : Type 0 where
  pub turns : List Turn
  pub full : Bool
  pub by_packet : Bool
  pub runs : HasTurns A turns first.posture (record { stands = now; full = full; heard = by_packet })
  pub packets_are : packets_in turns ≡ packets
  pub said_is : said_in turns ≡ before ++ said
  pub answered : Gave (answers_along A turns first.posture (record { stands = now; full = full; heard = by_packet }) runs) counts counts'
  pub rests : HasRest A heard → full ≡ false → HasRest A now
  pub paused : (full && by_packet) ≡ true → rest ≡ []

-- what was said of a host, and that it was taken
pub record Said {S : Type 0} (heard now : Stand S) (said : List ℕ) : Type 0 where
  pub says : (rest : List Circumstance) → (heard rest).line.out ≡ said
  pub now_is : now ≡ (λ rest. emptied (heard rest))

-- ---- a refusal of the host is one of the stream

abbrev free : Line → Line
free line = record line { out = [] }

event_free : (event : Option PlainEvent) (line : Line) → event_fault event (free line) ≡ event_fault event line
event_free (Some (CommandComplete number opcode returned)) line = refl
event_free (Some (CommandStatus status number opcode)) line = refl
event_free _ line = refl

fault_free : (packet : Packet) (line : Line) → fault_of packet (free line) ≡ fault_of packet line
fault_free (Event code params) line = event_free (event_in code params) line
fault_free (Command opcode params) line = refl
fault_free (Acl word octets) line = refl
fault_free (Sync word octets) line = refl

faulty : (line : Line) (rest : List ℕ) (packet : Packet) (more : List ℕ) (fault : ControllerFault) → rest ≡ spelling packet ++ more → IsPacket acl_limit packet → fault_of packet line ≡ Some fault → BeginsFaulty (free line) rest fault
faulty line rest packet more fault octets whole at_fault = record { packet = packet; more = more; octets_are = octets; whole = whole; at_fault = fault_free packet line ∙ at_fault }

failed_at : (line : Line) (from : ℕ) (rest : List ℕ) (opcode status at : ℕ) (begins : BeginsRefused line from rest (fed.CommandFailed opcode status at)) (fault : ControllerFault) → fed.CommandFailed opcode status at ≡ refusal_by fault from
    → fault_of begins.packet line ≡ Some fault → (at ≡ from) × ((opcode status : ℕ) × BeginsFaulty (free line) rest (controller.CommandFailed opcode status))
failed_at line from rest opcode status at begins (controller.CommandFailed o s) is at_fault = (cc, (o, s, faulty line rest begins.packet begins.more (controller.CommandFailed o s) begins.octets_are begins.whole at_fault))
failed_at line from rest opcode status at begins (controller.BadBuffers size count) is at_fault = absurd cc

short_at : (line : Line) (from : ℕ) (rest : List ℕ) (size count at : ℕ) (begins : BeginsRefused line from rest (fed.BadBuffers size count at)) (fault : ControllerFault) → fed.BadBuffers size count at ≡ refusal_by fault from
    → fault_of begins.packet line ≡ Some fault → (at ≡ from) × ((size count : ℕ) × BeginsFaulty (free line) rest (controller.BadBuffers size count))
short_at line from rest size count at begins (controller.CommandFailed o s) is at_fault = absurd cc
short_at line from rest size count at begins (controller.BadBuffers m n) is at_fault = (cc, (m, n, faulty line rest begins.packet begins.more (controller.BadBuffers m n) begins.octets_are begins.whole at_fault))

refused_at : (line : Line) (from : ℕ) (rest behind : List ℕ) (left : Option (List ℕ)) (why : FeedRefusal) → from ≤ input_limit → IsRefused line from rest why → Ends (free line) from rest behind left (Err (told_by why))
refused_at line from rest behind left (fed.Transport h4.BadIndicator at) small (n, wrong, is) = (n, wrong, is ∙ omega (arith, small, wrong.4))
refused_at line from rest behind left (fed.Transport h4.AclTooLong at) small (n, wrong, is) = (n, wrong, is ∙ omega (arith, small, wrong.6))
refused_at line from rest behind left (fed.Transport h4.Truncated at) small (n, wrong, is) = absurd wrong
refused_at line from rest behind left (fed.CommandFailed opcode status at) small begins = failed_at line from rest opcode status at begins begins.refused.fault begins.refused.is begins.refused.at_fault
refused_at line from rest behind left (fed.BadBuffers size count at) small begins = short_at line from rest size count at begins begins.refused.fault begins.refused.is begins.refused.at_fault
refused_at line from rest behind left fed.NoMemory small refused = absurd refused

nothing_refused : (line : Line) (from : ℕ) (why : FeedRefusal) → IsRefused line from [] why → ⊥
nothing_refused line from (fed.Transport refusal at) refused = no_wrong_nothing acl_limit refusal refused.0 refused.1
nothing_refused line from (fed.CommandFailed opcode status at) refused = some_spelled refused.packet refused.more (sym refused.octets_are)
nothing_refused line from (fed.BadBuffers size count at) refused = some_spelled refused.packet refused.more (sym refused.octets_are)
nothing_refused line from fed.NoMemory refused = refused

is_some_refused : (line : Line) (from : ℕ) (rest : List ℕ) (why : FeedRefusal) → IsRefused line from rest why → rest ≢ []
is_some_refused line from rest why refused none = nothing_refused line from why (subst (λ (xs : List ℕ). IsRefused line from xs why) none refused)

-- what a stop tells, where it is no want of memory
abbrev pub StopsFor : {S : Type 0} → Profile S → (framing framing' : Framing) → ℕ → (old new : Stand S) → (counts counts' : counting.Counts) → FeedRefusal → Type 0
StopsFor A framing framing' o old new counts counts' why = (packets : List Packet) × IsStopped framing framing' (o ∷ []) packets (new []).line why × Listens A packets old new counts counts'

stops_for : {S : Type 0} (A : Profile S) (framing framing' : Framing) (o : ℕ) (old new : Stand S) (counts counts' : counting.Counts) (why : FeedRefusal) → (why ≡ fed.NoMemory → ⊥) → IsFed A (o ∷ []) framing framing' old new counts counts' (Err why)
    → StopsFor A framing framing' o old new counts counts' why
stops_for A framing framing' o old new counts counts' (fed.Transport refusal at) some is = is
stops_for A framing framing' o old new counts counts' (fed.CommandFailed opcode status at) some is = is
stops_for A framing framing' o old new counts counts' (fed.BadBuffers size count at) some is = is
stops_for A framing framing' o old new counts counts' fed.NoMemory some is = absurd (some refl)

no_read : (why : FeedRefusal) → (why ≡ fed.NoMemory → ⊥) → (refusal : StreamRefusal) × (place : ℕ) × (told_by why ≡ Refused refusal place)
no_read (fed.Transport h4.BadIndicator at) some = (refusals.BadIndicator, at, refl)
no_read (fed.Transport h4.AclTooLong at) some = (refusals.AclTooLong, at, refl)
no_read (fed.Transport h4.Truncated at) some = (refusals.Truncated, at, refl)
no_read (fed.CommandFailed opcode status at) some = (refusals.CommandFailed, at, refl)
no_read (fed.BadBuffers size count at) some = (refusals.BadBuffers, at, refl)
no_read fed.NoMemory some = absurd (some refl)

module _ {S : Type 0} (A : Profile S) (first : Begun S) (octets : List ℕ) (o : ℕ) (framing : Framing) (old heard now : Stand S) (before mid : Beside) (counts : counting.Counts) (said : List ℕ)
    (F : Fares A first octets framing old before mid) (told : Said heard now said) where
  framed : Framed octets (packets_in F.turns) framing
  framed = record { each = F.each; whole = F.whole; place = F.place; limit = F.limit; sound = F.sound; unfinished = F.unfinished }

  now_at : (rest : List Circumstance) → now rest ≡ emptied (heard rest)
  now_at rest = ap (λ (f : Stand S). f rest) told.now_is

  empty_now : (rest : List Circumstance) → (now rest).line.out ≡ []
  empty_now rest = ap (λ (f : Stand S). (f rest).line.out) told.now_is

  -- where there was room for all, the host had done all that it can
  rests_now : HasRest A heard → is_full said ≡ false → HasRest A now
  rests_now rests room rest =
      subst (λ (s : Standing S). Rests A s) (sym (now_at rest))
      (rests_emptied A (heard rest) (rests rest) (ap (λ (xs : List ℕ). nat_lt (length xs) 65536) (told.says rest) ∙ not_not (nat_lt (length said) 65536) room))

  was_still : (packets : List Packet) (listens : Listens A packets old heard mid.counts counts) → F.full ≡ false → (listens.between ≡ old) × (answers_in listens.back.used ≡ [])
  was_still packets listens off = listens.still (moves_still A old listens.between (F.rests off) listens.back)

  between_is : (packets : List Packet) (listens : Listens A packets old heard mid.counts counts) → F.full ≡ false → listens.between ≡ old
  between_is packets listens off = (was_still packets listens off).0

  -- it did nothing
  same_now : heard ≡ old → now ≡ old
  same_now is =
      let taken : Stand S → Stand S = λ stands rest. emptied (stands rest) in
      told.now_is ∙ ap taken is ∙ fun_ext (λ rest. emptied_same (old rest) (F.empty rest))

  none_said : heard ≡ old → said ≡ []
  none_said is = sym (told.says []) ∙ ap (λ (f : Stand S). (f []).line.out) is ∙ F.empty []

  abbrev at : Stand S → (full by_packet : Bool) → Posture S
  at stands full by_packet = record { stands = stands; full = full; heard = by_packet }

  abbrev so_far : List Circumstance
  so_far = answers_along A F.turns first.posture (at old F.full F.heard) F.runs

  no_turn : (rest : List ℕ) → F.full ≡ false → heard ≡ old → (more : List Circumstance) → answers_in more ≡ [] → Gave more mid.counts counts → Turned A first (said_in F.turns) (packets_in F.turns) rest heard now said before.counts counts
  no_turn rest off is more none gave =
      let ran = answers_to A F.turns first.posture (at old F.full F.heard) (at now F.full F.heard) so_far (ap (λ (s : Stand S). at s F.full F.heard) (sym (same_now is))) (F.runs, refl) in
      record {
        turns = F.turns;
        full = F.full;
        by_packet = F.heard;
        runs = ran.0;
        packets_are = refl;
        said_is = sym (append-nil (said_in F.turns)) ∙ ap (λ (xs : List ℕ). said_in F.turns ++ xs) (sym (none_said is));
        answered = subst (λ (used : List Circumstance). Gave used before.counts counts) (sym ran.1) (gave_none so_far more before.counts mid.counts counts none F.answered gave);
        rests = λ rests off. rests_now rests (ap is_full (none_said is));
        paused = λ both. absurd (true≢false (sym both ∙ ap (λ (b : Bool). b && F.heard) off));
      }

  abbrev turn_with : Option Packet → Turn
  turn_with packet = record { packet = packet; said = said }

  abbrev behind_turn : Option Packet → Posture S
  behind_turn packet = at now (is_full said) (is_some packet)

  one_turn : (rest : List ℕ) (packet : Option Packet) (one : HasTurn A (turn_with packet) (at old F.full F.heard) (behind_turn packet)) → Gave (answers_of A (turn_with packet) (at old F.full F.heard) (behind_turn packet) one) mid.counts counts
      → ((is_full said && is_some packet) ≡ true → rest ≡ []) → Turned A first (said_in F.turns) (packets_in F.turns ++ option_to_list packet) rest heard now said before.counts counts
  one_turn rest packet one gave paused =
      let used = answers_of A (turn_with packet) (at old F.full F.heard) (behind_turn packet) one in
      let ran = answers_snoc A F.turns (turn_with packet) first.posture (at old F.full F.heard) (behind_turn packet) F.runs one in
      record {
        turns = F.turns ++ turn_with packet ∷ [];
        full = is_full said;
        by_packet = is_some packet;
        runs = ran.0;
        packets_are = packets_snoc F.turns (turn_with packet);
        said_is = said_snoc F.turns (turn_with packet);
        answered = subst (λ (list : List Circumstance). Gave list before.counts counts) (sym ran.1) (gave_then so_far used before.counts mid.counts counts F.answered gave);
        rests = rests_now;
        paused = paused;
      }

  -- no packet was heard
  quiet_by : (rest : List ℕ) (full : Bool) → F.full ≡ full → (listens : Listens A [] old heard mid.counts counts) → Turned A first (said_in F.turns) (packets_in F.turns) rest heard now said before.counts counts
  quiet_by rest false is listens = no_turn rest is (listens.hears ∙ between_is [] listens is) (listens.back.used ++ []) (ap answers_in (append-nil listens.back.used) ∙ (was_still [] listens is).1) listens.answered
  quiet_by rest true is listens =
      let one = one_turn rest None (record {
        between = listens.between;
        back = listens.back;
        none_back = between_is [] listens;
        after = heard;
        hears = (is, listens.hears);
        says = told.says;
        stands = told.now_is;
        full = refl;
        heard = refl;
        pauses = λ both. refl;
      }) listens.answered (λ both. absurd (true≢false (sym both ∙ never_both (is_full said)))) in
      subst (λ (ps : List Packet). Turned A first (said_in F.turns) ps rest heard now said before.counts counts) (append-nil (packets_in F.turns)) one

  quiet : (rest : List ℕ) → Listens A [] old heard mid.counts counts → Turned A first (said_in F.turns) (packets_in F.turns) rest heard now said before.counts counts
  quiet rest listens = quiet_by rest F.full refl listens

  -- the octet was taken
  taken_turn : (packets : List Packet) (rest : List ℕ) → framing.held ++ o ∷ [] ≡ spellings packets ++ rest → (packets ≡ []) ⊎ ((p : Packet) × (packets ≡ p ∷ []) × (rest ≡ [])) → Listens A packets old heard mid.counts counts → HasRest A heard
      → Turned A first (said_in F.turns) (packets_in F.turns ++ packets) rest heard now said before.counts counts
  taken_turn packets rest split (inl none) listens rests =
      subst (λ (ps : List Packet). Turned A first (said_in F.turns) ps rest heard now said before.counts counts) (sym (append-nil (packets_in F.turns)) ∙ ap (λ (ps : List Packet). packets_in F.turns ++ ps) (sym none))
      (quiet rest (subst (λ (ps : List Packet). Listens A ps old heard mid.counts counts) none listens))
  taken_turn packets rest split (inr (p, one, ends)) listens rests =
      let one_heard = subst (λ (ps : List Packet). Listens A ps old heard mid.counts counts) one listens in
      let hearing = hears_to A p one_heard.between one_heard.hears.0 heard (sym one_heard.hears.2) one_heard.hears.1 in
      let whole : framing.held ++ o ∷ [] ≡ spelling p ++ ([] ++ rest) = split ∙ ap (λ (ps : List Packet). spellings ps ++ rest) one ∙ append_assoc (spelling p) [] rest in
      subst (λ (ps : List Packet). Turned A first (said_in F.turns) ps rest heard now said before.counts counts) (ap (λ (ps : List Packet). packets_in F.turns ++ ps) (sym one))
      (one_turn rest (Some p) (record {
        between = one_heard.between;
        back = one_heard.back;
        none_back = between_is (p ∷ []) one_heard;
        after = heard;
        hears = (hearing.0, rests, λ off. subst (HasRest A) (sym (between_is (p ∷ []) one_heard off)) (F.rests off));
        says = told.says;
        stands = told.now_is;
        full = refl;
        heard = refl;
        pauses = λ both. absurd (none_alone o p rest (ap (λ (held : List ℕ). held ++ o ∷ []) (sym (F.paused both)) ∙ whole));
      })
      (subst (λ (used : List Circumstance). Gave (one_heard.back.used ++ used) mid.counts counts) (append-nil one_heard.hears.1.moves.used ∙ sym hearing.1) one_heard.answered) (λ both. ends))

  abbrev beside_then : Option (List ℕ) → Beside
  beside_then sink' = record { sink = sink'; counts = counts }

  -- and it goes on
  pub fares_on : (framing' : Framing) (sink' : Option (List ℕ)) → IsFed A (o ∷ []) framing framing' old heard mid.counts counts (Ok tt) → HasRest A heard → length octets < input_limit → sink' ≡ gained mid.sink said → Fares A first (octets ++ o ∷ []) framing' now before (beside_then sink')
  fares_on framing' sink' (packets, taken, listens) rests small wrote =
      let turn = taken_turn packets taken.rest taken.read.octets (one_at_most acl_limit framing.held o packets taken.rest F.unfinished taken.read.each taken.read.octets) listens rests in
      let behind = framed_more octets o (packets_in F.turns) packets framing framing' framed taken small in
      record {
        turns = turn.turns;
        full = turn.full;
        heard = turn.by_packet;
        runs = turn.runs;
        each = subst (λ (ps : List Packet). AllByRecursion (IsPacket acl_limit) ps) (sym turn.packets_are) behind.each;
        whole = behind.whole ∙ ap (λ (ps : List Packet). spellings ps ++ framing'.held) (sym turn.packets_are);
        place = behind.place ∙ ap (λ (ps : List Packet). length (spellings ps)) (sym turn.packets_are);
        limit = behind.limit;
        sound = behind.sound;
        unfinished = behind.unfinished;
        wrote = all_said turn sink' wrote;
        answered = turn.answered;
        empty = empty_now;
        rests = turn.rests rests;
        paused = λ both. ap (λ (f : Framing). f.held) taken.framing_is ∙ turn.paused both;
      }
    where
      all_said : (turn : Turned A first (said_in F.turns) (packets_in F.turns ++ packets) taken.rest heard now said before.counts counts) (sink' : Option (List ℕ)) → sink' ≡ gained mid.sink said → sink' ≡ gained before.sink (first.said ++ said_in turn.turns)
      all_said turn sink' wrote =
          wrote ∙ ap (λ (k : Option (List ℕ)). gained k said) F.wrote ∙ gained-gained before.sink (first.said ++ said_in F.turns) said
          ∙ ap (gained before.sink) (append_assoc first.said (said_in F.turns) said ∙ ap (λ (xs : List ℕ). first.said ++ xs) (sym turn.said_is))

  -- ---- it stops

  said_front : (packets : List Packet) (rest : List ℕ) (turn : Turned A first (said_in F.turns) packets rest heard now said before.counts counts) (sink' : Option (List ℕ)) → GainedFront mid.sink sink' said → GainedFront before.sink sink' (first.said ++ said_in turn.turns)
  said_front packets rest turn sink' front =
      subst (λ (xs : List ℕ). GainedFront before.sink sink' xs) (append_assoc first.said (said_in F.turns) said ∙ ap (λ (xs : List ℕ). first.said ++ xs) (sym turn.said_is))
      (front_then before.sink mid.sink sink' (first.said ++ said_in F.turns) said F.wrote front)

  -- since the sink failed, or wanted memory
  sink_halts : (packets : List Packet) (rest : List ℕ) (turn : Turned A first (said_in F.turns) packets rest heard now said before.counts counts) (sink' : Option (List ℕ)) → AllByRecursion (IsPacket acl_limit) packets → octets ++ o ∷ [] ≡ spellings packets ++ rest
      → GainedFront mid.sink sink' said → (why : ListenFault) → IsOfSink why → (behind : List ℕ) (left : Option (List ℕ)) → Halts A first (octets ++ o ∷ []) behind left now before (beside_then sink') (Err why)
  sink_halts packets rest turn sink' each whole front (Refused refusal place) of behind left = absurd of
  sink_halts packets rest turn sink' each whole front ReadFault of behind left = absurd of
  sink_halts packets rest turn sink' each whole front WriteFault of behind left = record {
    turns = turn.turns;
    last = record { stands = now; full = turn.full; heard = turn.by_packet };
    runs = turn.runs;
    each = subst (λ (ps : List Packet). AllByRecursion (IsPacket acl_limit) ps) (sym turn.packets_are) each;
    rest = rest;
    whole = whole ∙ ap (λ (ps : List Packet). spellings ps ++ rest) (sym turn.packets_are);
    ends = tt;
    wrote = said_front packets rest turn sink' front;
    there = refl;
    answered = turn.answered;
  }
  sink_halts packets rest turn sink' each whole front NoMemory of behind left = record {
    turns = turn.turns;
    last = record { stands = now; full = turn.full; heard = turn.by_packet };
    runs = turn.runs;
    each = subst (λ (ps : List Packet). AllByRecursion (IsPacket acl_limit) ps) (sym turn.packets_are) each;
    rest = rest;
    whole = whole ∙ ap (λ (ps : List Packet). spellings ps ++ rest) (sym turn.packets_are);
    ends = tt;
    wrote = said_front packets rest turn sink' front;
    there = tt;
    answered = tt;
  }

  pub taken_halts : (framing' : Framing) (sink' : Option (List ℕ)) → IsFed A (o ∷ []) framing framing' old heard mid.counts counts (Ok tt) → HasRest A heard → length octets < input_limit → GainedFront mid.sink sink' said → (why : ListenFault) → IsOfSink why
      → (behind : List ℕ) (left : Option (List ℕ)) → Halts A first (octets ++ o ∷ []) behind left now before (beside_then sink') (Err why)
  taken_halts framing' sink' (packets, taken, listens) rests small front why of =
      let turn = taken_turn packets taken.rest taken.read.octets (one_at_most acl_limit framing.held o packets taken.rest F.unfinished taken.read.each taken.read.octets) listens rests in
      let behind = framed_more octets o (packets_in F.turns) packets framing framing' framed taken small in
      sink_halts (packets_in F.turns ++ packets) framing'.held (subst (λ (rest : List ℕ). Turned A first (said_in F.turns) (packets_in F.turns ++ packets) rest heard now said before.counts counts) (sym (ap (λ (f : Framing). f.held) taken.framing_is)) turn) sink' behind.each behind.whole front why of

  -- no packet was heard with the octet at which it stops
  none_heard : (framing' : Framing) (why : FeedRefusal) (stops : StopsFor A framing framing' o old heard mid.counts counts why) → stops.0 ≡ []
  none_heard framing' why (packets, stopped, listens) =
      none_before acl_limit framing.held o packets stopped.rest F.unfinished stopped.read.each stopped.read.octets (is_some_refused (heard []).line (place_behind framing packets) stopped.rest why stopped.refused)

  stopped_turn : (framing' : Framing) (why : FeedRefusal) (stops : StopsFor A framing framing' o old heard mid.counts counts why) → Turned A first (said_in F.turns) (packets_in F.turns) stops.1.rest heard now said before.counts counts
  stopped_turn framing' why stops = quiet stops.1.rest (subst (λ (ps : List Packet). Listens A ps old heard mid.counts counts) (none_heard framing' why stops) stops.2)

  stopped_whole : (framing' : Framing) (why : FeedRefusal) (stops : StopsFor A framing framing' o old heard mid.counts counts why) → octets ++ o ∷ [] ≡ spellings (packets_in F.turns) ++ stops.1.rest
  stopped_whole framing' why stops =
      whole_more octets o (packets_in F.turns) [] framing.held stops.1.rest F.whole (stops.1.read.octets ∙ ap (λ (ps : List Packet). spellings ps ++ stops.1.rest) (none_heard framing' why stops))
      ∙ ap (λ (ps : List Packet). spellings ps ++ stops.1.rest) (append-nil (packets_in F.turns))

  pub stopped_halts : (framing' : Framing) (sink' : Option (List ℕ)) (refused : FeedRefusal) → (refused ≡ fed.NoMemory → ⊥) → IsFed A (o ∷ []) framing framing' old heard mid.counts counts (Err refused) → GainedFront mid.sink sink' said → (why : ListenFault) → IsOfSink why
      → (behind : List ℕ) (left : Option (List ℕ)) → Halts A first (octets ++ o ∷ []) behind left now before (beside_then sink') (Err why)
  stopped_halts framing' sink' refused some is front why of =
      let stops = stops_for A framing framing' o old heard mid.counts counts refused some is in
      sink_halts (packets_in F.turns) stops.1.rest (stopped_turn framing' refused stops) sink' F.each (stopped_whole framing' refused stops) front why of

  -- since it refuses what it is heard
  pub refused_halts : (framing' : Framing) (sink' : Option (List ℕ)) (refused : FeedRefusal) → (refused ≡ fed.NoMemory → ⊥) → IsFed A (o ∷ []) framing framing' old heard mid.counts counts (Err refused) → length octets < input_limit → sink' ≡ gained mid.sink said
      → (behind : List ℕ) (left : Option (List ℕ)) → Halts A first (octets ++ o ∷ []) behind left now before (beside_then sink') (Err (told_by refused))
  refused_halts framing' sink' refused some is small wrote behind left =
      let stops = stops_for A framing framing' o old heard mid.counts counts refused some is in
      let turn = stopped_turn framing' refused stops in
      let rest = stops.1.rest in
      let from = length (spellings (packets_in F.turns)) in
      let long = ap (λ (xs : List ℕ). length xs) F.whole ∙ length-append (spellings (packets_in F.turns)) framing.held in
      let place : place_behind framing stops.0 ≡ from = ap (place_behind framing) (none_heard framing' refused stops) ∙ F.place in
      let ends = refused_at (heard []).line from rest behind left refused (omega (arith, long, small)) (subst (λ (n : ℕ). IsRefused (heard []).line n rest refused) place stops.1.refused) in
      let named = no_read refused some in
      subst (λ (w : ListenFault). Halts A first (octets ++ o ∷ []) behind left now before (beside_then sink') (Err w)) (sym named.2)
      (record {
        turns = turn.turns;
        last = record { stands = now; full = turn.full; heard = turn.by_packet };
        runs = turn.runs;
        each = subst (λ (ps : List Packet). AllByRecursion (IsPacket acl_limit) ps) (sym turn.packets_are) F.each;
        rest = rest;
        whole = stopped_whole framing' refused stops ∙ ap (λ (ps : List Packet). spellings ps ++ rest) (sym turn.packets_are);
        ends =
            subst (λ (l : Line). Ends l (length (spellings (packets_in turn.turns))) rest behind left (Err (Refused named.0 named.1))) (sym (ap (λ (f : Stand S). (f []).line) told.now_is))
            (subst (λ (ps : List Packet). Ends (free (heard []).line) (length (spellings ps)) rest behind left (Err (Refused named.0 named.1))) (sym turn.packets_are)
            (subst (λ (w : ListenFault). Ends (free (heard []).line) from rest behind left (Err w)) named.2 ends));
        wrote =
            wrote ∙ ap (λ (k : Option (List ℕ)). gained k said) F.wrote ∙ gained-gained before.sink (first.said ++ said_in F.turns) said
            ∙ ap (gained before.sink) (append_assoc first.said (said_in F.turns) said ∙ ap (λ (xs : List ℕ). first.said ++ xs) (sym turn.said_is));
        there = refl;
        answered = turn.answered;
      })

-- its port found no memory, and it said no more
pub short_halts : {S : Type 0} (A : Profile S) (first : Begun S) (octets : List ℕ) (o : ℕ) (framing : Framing) (old now : Stand S) (before mid : Beside) (counts : counting.Counts) → Fares A first octets framing old before mid
    → (behind : List ℕ) (left : Option (List ℕ)) → Halts A first (octets ++ o ∷ []) behind left now before (record { sink = mid.sink; counts = counts }) (Err NoMemory)
short_halts A first octets o framing old now before mid counts F behind left = record {
  turns = F.turns;
  last = record { stands = old; full = F.full; heard = F.heard };
  runs = F.runs;
  each = F.each;
  rest = framing.held ++ o ∷ [];
  whole = ap (λ (t : List ℕ). t ++ o ∷ []) F.whole ∙ append_assoc (spellings (packets_in F.turns)) framing.held (o ∷ []);
  ends = tt;
  wrote = front_whole before.sink mid.sink (first.said ++ said_in F.turns) F.wrote;
  there = tt;
  answered = tt;
}
