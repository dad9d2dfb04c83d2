-- Where by the packets that move nothing waits at each PDU that a controller brings, as where it has a buffer free then, each packet of a stream comes in turn.
use Rattle.std.proofs.Common.{◌≡◌, ◌≢◌, ◌⊎◌, ◌&&◌, ◌==◌, ℕ, nat_lt, Bool, true, false, cond, eqb, List, [], ◌∷◌, ◌++◌, Option, Some, None, is_some, is_none, refl, sym, ap, subst, ◌∙◌, append_assoc, append-nil, inl, inr}
use Rattle.std.specs.Option.{option_map}
use Rattle.std.specs.List.{AllByRecursion}
use Rattle.std.proofs.lemmas.Bool.{eqb-true}
use Rattle.receiving.specs.acl_fragments.specs.Pieces.{Piece, starts}
use Rattle.receiving.specs.acl_fragments.specs.Answers.{Answer, Pdu as Whole, More, Dropped, answer, open_after}
use Rattle.receiving.specs.bt_base.specs.declared.settings.Settings.{Settings}
use Rattle.receiving.specs.bt_base.specs.Objects.{Object}
use Rattle.receiving.specs.capture.specs.declared.flow.Flow.TheVariants.{Into}
use Rattle.receiving.specs.capture.specs.Links.{Link, linking}
use Rattle.receiving.specs.capture.specs.Moves.{Move}
use Rattle.receiving.specs.capture.specs.Pdus.{piece_of, pieces, whole_of, completed_by, completed}
use Rattle.receiving.specs.h4_framing.specs.Packets.{Packet, Command, Acl, Sync, Event, IsPacket}
use Rattle.noting_laws.specs.host_laws.specs.hci_packets.specs.Events.{PlainEvent, ConnectionComplete, Other, event_refusal}
use Rattle.receiving.specs.host_link.specs.EventReading.{event_in}
use Rattle.receiving.specs.host_link.specs.Hearing.{PlainNews, Nothing, LinkUp, LinkFailed, LinkDown, Pdu, connection_news, disconnection_news, ends_link, joined_news, piece_on, piece_news, event_news, news_of}
use Rattle.receiving.specs.host_link.specs.Lines.{Line, longest_pdu}
use Rattle.receiving.specs.host_link.specs.declared.role.Role.TheVariants.{Server}
use Rattle.receiving.specs.host_link.specs.Stands.{JoinsOn, into}
use Rattle.receiving.specs.channel_model.specs.Giving.{next_given}
use Rattle.receiving.specs.channel_model.specs.Value.{Channels, no_channels}
use Rattle.noting_laws.specs.push_laws.specs.Premises.{AllGranted}
use Rattle.receiving.specs.host_model.specs.Circumstances.{Circumstance, answers_in}
use Rattle.receiving.specs.host_model.specs.Hosts.{Host, has_more}
use Rattle.receiving.specs.host_model.specs.Machines.{upper}
use Rattle.receiving.specs.host_model.specs.Profiles.{Profile}
use Rattle.receiving.specs.host_model.specs.Servers.{ServerProfile}
use Rattle.receiving.specs.host_model.proofs.Orderly.{says_frames}
use Rattle.noting_laws.specs.scenario_laws.specs.Gains.{holding, serving}
use Rattle.noting_laws.specs.scenario_laws.proofs.Acting.{Acted}
use Rattle.noting_laws.specs.scenario_laws.proofs.Unlinked.{acts_off}
use Rattle.noting_laws.specs.scenario_laws.proofs.UnlinkedServers.{KnowsNone, servers_keep}
use Rattle.noting_laws.specs.world_model.specs.Talks.{Talk}
use Rattle.receiving.specs.bt_host.specs.Noting.{Noted}
use Rattle.receiving.specs.bt_host.specs.NotedHosts.{noted_server}
use Rattle.receiving.specs.bt_host.specs.Refusals.{acl_limit}
use Rattle.receiving.specs.bt_host.specs.Stacks.{Standing}
use Rattle.orderly_laws.specs.unit_laws.specs.Capacity.{takes_more}
use Rattle.orderly_laws.specs.unit_laws.specs.Laws.{FiresNone}
use Rattle.orderly_laws.specs.unit_laws.specs.Timed.{ticks, timed}
use Rattle.orderly_laws.specs.unit_laws.specs.Units.{units, ComesInTurn}
use Rattle.orderly_laws.specs.unit_laws.proofs.Running.{TalksAt, all_talks}
use Rattle.orderly_laws.specs.unit_laws.proofs.Taking.{ReadAt, takes_so, first_read, runs_read}
use Rattle.receiving.specs.Turns.{Stand, Posture, Turn, HearsIn, HasRest, HasTurns, packets_in, answers_of, answers_along}
use Rattle.receive_laws.specs.Freely.{TellsOn, IsFreeOn, ComesFree}
use Rattle.receive_laws.specs.InTurn.{SaidAll, IsToldAtRest, TakesInTurn, AreInTurn}
use Rattle.receive_laws.specs.Moving.{MoveFromStart}
use Rattle.receive_laws.specs.Quietly.{FallsQuiet, IsQuietOn, ComesQuietly}
use Rattle.receive_laws.specs.Streams.{new_server, QuietStreamsComeInTurn, FreeStreamsAreQuiet, FreeStreamsComeInTurn}
use Rattle.receive_laws.proofs.Alike.{IsAlike}
use Rattle.receive_laws.proofs.Buffers.{lets_say, rests_there, HoldsNone}
use Rattle.receive_laws.proofs.Deeds.{lined}
use Rattle.receive_laws.proofs.Following.{split_all}
use Rattle.receive_laws.proofs.Reaching.{Reached, StandsAt, stands_first, none_held, stands_then}

-- ---- what a packet tells, on a link that is up and on none

abbrev pub TellsSo : Link → Packet → PlainNews → Type 0
TellsSo link packet Nothing = Unit {0}
TellsSo link packet LinkUp = Unit {0}
TellsSo link packet (LinkFailed status) = TellsOn link packet
TellsSo link packet (LinkDown reason) = Unit {0}
TellsSo link packet (Pdu channel octets) = TellsOn link packet

abbrev pub BringsNone : PlainNews → Type 0
BringsNone Nothing = Unit {0}
BringsNone LinkUp = Unit {0}
BringsNone (LinkFailed status) = Unit {0}
BringsNone (LinkDown reason) = Unit {0}
BringsNone (Pdu channel octets) = ⊥

-- ---- a piece

piece_tells : (link : Link) (packet : Packet) (line : Line) (found : Option Piece) → piece_of link.handle packet ≡ found → line.joining ≡ open_after longest_pdu (pieces Into link.handle link.moves) → (Q : PlainNews → Type 0)
    → Q Nothing → ((channel : ℕ) (octets : List ℕ) → (completed link.handle link.moves (into packet) ≢ []) → Q (Pdu channel octets)) → Q (piece_news found line)
piece_tells link packet line None is joins Q none brings = none
piece_tells link packet line (Some piece) is joins Q none brings = by (answer longest_pdu line.joining (starts piece.boundary) piece.octets) refl
  where
    completes : (judged : Answer) → answer longest_pdu line.joining (starts piece.boundary) piece.octets ≡ judged → completed link.handle link.moves (into packet) ≡ whole_of Into judged
    completes judged at =
        ap (completed_by Into (pieces Into link.handle link.moves)) is
        ∙ (ap (λ (held : List ℕ). whole_of Into (answer longest_pdu held (starts piece.boundary) piece.octets)) (sym joins) ∙ ap (whole_of Into) at)

    by : (judged : Answer) → answer longest_pdu line.joining (starts piece.boundary) piece.octets ≡ judged → Q (joined_news judged)
    by (Whole channel octets) at = brings channel octets (λ empty. let never = sym (completes (Whole channel octets) at) ∙ empty in cc)
    by More at = none
    by (Dropped reason) at = none

-- ---- an event

connection_tells : (link : Link) (code : ℕ) (params : List ℕ) (news : PlainNews) → code ≡ 0x03 → TellsSo link (Event code params) news
connection_tells link code params Nothing is = tt
connection_tells link code params LinkUp is = tt
connection_tells link code params (LinkFailed status) is = is
connection_tells link code params (LinkDown reason) is = tt
connection_tells link code params (Pdu channel octets) is = is

ended_tells : (status handle reason : ℕ) (line : Line) (Q : PlainNews → Type 0) → Q Nothing → ((reason : ℕ) → Q (LinkDown reason)) → Q (disconnection_news status handle reason line)
ended_tells status handle reason line Q none down = by (ends_link status handle line)
  where
    by : (b : Bool) → Q (cond b (LinkDown reason) Nothing)
    by true = down reason
    by false = none

-- but for a Connection Complete
other_tells : (a b c d : Bool) (code : ℕ) (params : List ℕ) (line : Line) (request ended complete status given : PlainEvent) (Q : PlainNews → Type 0) → Q (event_news (Some request) line) → Q (event_news (Some ended) line) → Q (event_news (Some complete) line) → Q (event_news (Some status) line) → Q (event_news (Some given) line) → Q Nothing
    → (e : Bool) → Q (event_news (Some (cond a request (cond b ended (cond c complete (cond d status (cond e given (Other code params))))))) line)
other_tells true b c d code params line request ended complete status given Q one two three four five none e = one
other_tells false true c d code params line request ended complete status given Q one two three four five none e = two
other_tells false false true d code params line request ended complete status given Q one two three four five none e = three
other_tells false false false true code params line request ended complete status given Q one two three four five none e = four
other_tells false false false false code params line request ended complete status given Q one two three four five none true = five
other_tells false false false false code params line request ended complete status given Q one two three four five none false = none

event_by : (fine own : Bool) (status handle : ℕ) (address : List ℕ) (kind encryption : ℕ) (rest : PlainEvent) (line : Line) (Q : PlainNews → Type 0) → Q Nothing → (own ≡ true → Q (connection_news status line)) → Q (event_news (Some rest) line)
    → Q (event_news (cond fine (Some (cond own (ConnectionComplete status handle address kind encryption) rest)) None) line)
event_by false own status handle address kind encryption rest line Q none made other = none
event_by true true status handle address kind encryption rest line Q none made other = made refl
event_by true false status handle address kind encryption rest line Q none made other = other

event_tells : (code : ℕ) (params : List ℕ) (line : Line) (Q : PlainNews → Type 0) → Q Nothing → ((reason : ℕ) → Q (LinkDown reason)) → (code ≡ 0x03 → (status : ℕ) → Q (connection_news status line)) → Q (event_news (event_in code params) line)
event_tells code params line Q none down made =
    event_by (is_none (event_refusal code params)) (eqb code 0x03) _ _ _ _ _ _ line Q none (λ is. made (eqb-true code 0x03 is) _)
    (other_tells (eqb code 0x04) (eqb code 0x05) (eqb code 0x0E) (eqb code 0x0F) code params line _ _ _ _ _ Q none (ended_tells _ _ _ line Q none down) none none none none (eqb code 0x13))

-- ---- any packet

pub packet_tells : (link : Link) (packet : Packet) (line : Line) → line.link ≡ Some link.handle → line.joining ≡ open_after longest_pdu (pieces Into link.handle link.moves) → TellsSo link packet (news_of packet line)
packet_tells link (Command opcode params) line on joins = subst (λ (l : Option ℕ). TellsSo link (Command opcode params) (piece_news (piece_on l (Command opcode params)) line)) (sym on) tt
packet_tells link (Acl word octets) line on joins =
    subst (λ (l : Option ℕ). TellsSo link (Acl word octets) (piece_news (piece_on l (Acl word octets)) line)) (sym on)
    (piece_tells link (Acl word octets) line (piece_of link.handle (Acl word octets)) refl joins (TellsSo link (Acl word octets)) tt (λ channel whole more. more))
packet_tells link (Sync word octets) line on joins = subst (λ (l : Option ℕ). TellsSo link (Sync word octets) (piece_news (piece_on l (Sync word octets)) line)) (sym on) tt
packet_tells link (Event code params) line on joins = event_tells code params line (TellsSo link (Event code params)) tt (λ reason. tt) (λ is status. connection_tells link code params (connection_news status line) is)

made_none : (status : ℕ) (line : Line) → BringsNone (connection_news status line)
made_none status line = by line.asked (status == 0) (is_none line.link)
  where
    by : (asked success free : Bool) → BringsNone (cond asked (cond success (cond free LinkUp Nothing) (LinkFailed status)) Nothing)
    by false success free = tt
    by true false free = tt
    by true true true = tt
    by true true false = tt

pub brings_none : (packet : Packet) (line : Line) → line.link ≡ None → BringsNone (news_of packet line)
brings_none (Command opcode params) line off = subst (λ (l : Option ℕ). BringsNone (piece_news (piece_on l (Command opcode params)) line)) (sym off) tt
brings_none (Acl word octets) line off = subst (λ (l : Option ℕ). BringsNone (piece_news (piece_on l (Acl word octets)) line)) (sym off) tt
brings_none (Sync word octets) line off = subst (λ (l : Option ℕ). BringsNone (piece_news (piece_on l (Sync word octets)) line)) (sym off) tt
brings_none (Event code params) line off = event_tells code params line BringsNone tt (λ reason. tt) (λ is status. made_none status line)

-- ---- a host that has said all is told at rest

told_on : {S : Type 0} (link : Link) (packet : Packet) (news : PlainNews) (now : Standing S) → TellsSo link packet news → (TellsOn link packet → SaidAll now) → IsToldAtRest news now
told_on link packet Nothing now tells all = tt
told_on link packet LinkUp now tells all = tt
told_on link packet (LinkFailed status) now tells all = all tells
told_on link packet (LinkDown reason) now tells all = tt
told_on link packet (Pdu channel octets) now tells all = all tells

told_off : {S : Type 0} (news : PlainNews) (now : Standing S) → BringsNone news → SaidAll now → IsToldAtRest news now
told_off Nothing now none all = tt
told_off LinkUp now none all = tt
told_off (LinkFailed status) now none all = all
told_off (LinkDown reason) now none all = tt
told_off (Pdu channel octets) now none all = absurd none

module _ (settings : Settings) (before : List Object) where
  abbrev A : Profile ServerProfile
  A = serving settings before

  abbrev N : Profile (Noted ServerProfile)
  N = noted_server settings

  abbrev said : List ℕ
  said = (new_server settings before).said

  -- ---- where no link is up it has nothing to say

  off_at : (now : Host ServerProfile) (waiting : List (List ℕ)) (talk : List Talk) → waiting ≡ [] → Acted (upper A) false now waiting talk → now.channels ≡ no_channels
  off_at now waiting talk none acted =
      let kept : Acted (upper A) false now [] talk = subst (λ (w : List (List ℕ)). Acted (upper A) false now w talk) none acted in
      let over = kept.went.went.over in
      let keeps = servers_keep settings (holding before) in
      let there = acts_off A KnowsNone keeps over.acts false (upper A).first kept.mid over.acting over.in_turn (λ down. record { channels_are = refl; profile_is = keeps.first }) kept.went.went.up_is in
      subst (λ (host : Host ServerProfile). host.channels ≡ no_channels) (sym kept.says) there.channels_are

  alike_channels : (host : Host (Noted ServerProfile)) (there : Host ServerProfile) → IsAlike settings (holding before) host there → there.channels ≡ no_channels → host.channels ≡ no_channels
  alike_channels host there (inl same) none = ap (λ (h : Host ServerProfile). h.channels) (sym same) ∙ none
  alike_channels host there (inr new) none = ap (λ (h : Host ServerProfile). h.channels) new.host_is

  quiet : (host : Host (Noted ServerProfile)) → host.channels ≡ no_channels → has_more host ≡ false
  quiet host none = subst (λ (v : Channels). (nat_lt 0 host.may_say && is_some (next_given v)) ≡ false) (sym none) (by (nat_lt 0 host.may_say))
    where
      by : (b : Bool) → (b && false) ≡ false
      by true = refl
      by false = refl

  -- ---- where the server has said all, the host in code has

  said_alike : (host : Host (Noted ServerProfile)) (there : Host ServerProfile) → IsAlike settings (holding before) host there → has_more there ≡ false → has_more host ≡ false
  said_alike host there (inl same) none = sym (ap has_more same) ∙ none
  said_alike host there (inr new) none = quiet host (ap (λ (h : Host ServerProfile). h.channels) new.host_is)

  -- ---- a packet comes in turn

  -- where a packet tells something on a link that is up a buffer is free, or all was said before and the inbox granted all
  abbrev FindsQuiet : (all : List Circumstance) → Option Link → List Move → Packet → Type 0
  FindsQuiet all None moved packet = Unit {0}
  FindsQuiet all (Some link) moved packet = TellsOn link packet → (takes_more moved ≡ true) ⊎ (FallsQuiet settings before moved × AllGranted (answers_in all))

  abbrev CameQuietly : (all : List Circumstance) → List Move → Option Packet → Type 0
  CameQuietly all moved None = Unit {0}
  CameQuietly all moved (Some packet) = FindsQuiet all (linking moved).up moved packet

  hears_quietly : (ahead : List Turn) (used rest : List Circumstance) (packet : Packet) (stands : Stand (Noted ServerProfile)) → Reached settings before ahead used rest stands → HasRest N stands → (stands rest).line.out ≡ []
      → ((moved : List Move) → MoveFromStart said ahead moved → CameQuietly (used ++ rest) moved (Some packet)) → TakesInTurn (Some packet) (stands rest)
  hears_quietly ahead used rest packet stands run rests none comes = by (linking past).up refl
    where
      past : List Move
      past = units run.occasions

      read : ReadAt past (stands rest).line
      read = runs_read (upper A) (ComesInTurn (upper A)) [] run.occasions _ _ run.runs (first_read Server)

      talks : TalksAt (upper A) (AllByRecursion FiresNone run.occasions) past (timed (ticks run.occasions)) (lined (stands rest).line run.after)
      talks = all_talks (upper A) (AllByRecursion FiresNone run.occasions) (says_frames A) Server run.occasions _ (λ still. still) run.runs

      silent : (stands rest).line.link ≡ None → SaidAll (stands rest)
      silent off =
          let acted = subst (λ (l : Option ℕ). Acted (upper A) (is_some l) run.after talks.waiting talks.talk) off talks.acted in
          record { pieces = run.writable.off off; none_more = quiet (stands rest).host (alike_channels (stands rest).host run.after run.alike (off_at run.after talks.waiting talks.talk (acted.down refl) acted)) }

      all_said : FallsQuiet settings before past → AllGranted (answers_in (used ++ rest)) → SaidAll (stands rest)
      all_said falls granted =
          let all = falls run.occasions (lined (stands rest).line run.after) run.runs (record { untimed = run.untimed; granted = (run.granting granted).0 }) refl in
          record { pieces = all.pieces; none_more = said_alike (stands rest).host run.after run.alike all.none_more }

      by : (up : Option Link) → (linking past).up ≡ up → IsToldAtRest (news_of packet (stands rest).line) (stands rest)
      by None is =
          let off : (stands rest).line.link ≡ None = sym read.at.stands.link ∙ ap (option_map (λ (l : Link). l.handle)) is in
          told_off (news_of packet (stands rest).line) (stands rest) (brings_none packet (stands rest).line off) (silent off)
      by (Some link) is =
          let on : (stands rest).line.link ≡ Some link.handle = sym read.at.stands.link ∙ ap (option_map (λ (l : Link). l.handle)) is in
          let joins : JoinsOn (Some link) (stands rest).line.joining = subst (λ (u : Option Link). JoinsOn u (stands rest).line.joining) is read.at.stands.joining in
          let finds : FindsQuiet (used ++ rest) (Some link) past packet = subst (λ (u : Option Link). FindsQuiet (used ++ rest) u past packet) is (comes past run.moves) in
          told_on link packet (news_of packet (stands rest).line) (stands rest) (packet_tells link packet (stands rest).line on joins)
          (λ tells. elim (finds tells) [
            | inl more ↦ lets_say N (stands rest) (rests rest) none (record { link = ap is_some on; buffer = takes_so past (stands rest).line read ∙ more })
            | inr falls ↦ all_said falls.0 falls.1
          ])

  -- ---- turn by turn

  takes_quietly : (ahead : List Turn) (used rest : List Circumstance) (turn : Turn) (packet : Option Packet) (old : Posture (Noted ServerProfile)) (between after : Stand (Noted ServerProfile)) → turn.packet ≡ packet → (old.full ≡ false → between ≡ old.stands) → HearsIn N packet old.full between after
      → HoldsNone turn.packet old → StandsAt settings before ahead used rest old → ((moved : List Move) → MoveFromStart said ahead moved → CameQuietly (used ++ rest) moved packet) → TakesInTurn packet (old.stands rest)
  takes_quietly ahead used rest turn None old between after is still hears off at comes = tt
  takes_quietly ahead used rest turn (Some packet) old between after is still hears off at comes =
      let none = subst (λ (p : Option Packet). HoldsNone p old) is off in
      hears_quietly ahead used rest packet old.stands at.reached (rests_there N packet old between after still hears none) (at.taken rest) comes

  turns_quiet : (ahead turns : List Turn) (used : List Circumstance) (old new : Posture (Noted ServerProfile)) (runs : HasTurns N turns old new) → StandsAt settings before ahead used (answers_along N turns old new runs) old → AllByRecursion (IsPacket acl_limit) (packets_in turns)
      → ((more : List Turn) (turn : Turn) (behind : List Turn) → turns ≡ more ++ turn ∷ behind → (moved : List Move) → MoveFromStart said (ahead ++ more) moved → CameQuietly (used ++ answers_along N turns old new runs) moved turn.packet) → AreInTurn N turns old new runs
  turns_quiet ahead [] used old new runs at each comes = tt
  turns_quiet ahead (turn ∷ turns) used old new (mid, one, more) at each comes =
      let parts = split_all (IsPacket acl_limit) turn.packet (packets_in turns) each in
      let here = answers_of N turn old mid one in
      let later = answers_along N turns mid new more in
      let off = none_held settings before ahead used (here ++ later) turn old mid one at in
      let takes = takes_quietly ahead used (here ++ later) turn turn.packet old one.between one.after refl one.none_back one.hears off at (λ moved moves. comes [] turn turns refl moved (subst (λ (l : List Turn). MoveFromStart said l moved) (sym (append-nil ahead)) moves)) in (
        takes,
        turns_quiet (ahead ++ turn ∷ []) turns (used ++ here) mid new more (stands_then settings before ahead used later turn old mid one at takes parts.0) parts.1
            (λ others next behind is moved moves. subst (λ (all : List Circumstance). CameQuietly all moved next.packet) (sym (append_assoc used here later))
            (comes (turn ∷ others) next behind (ap (λ (l : List Turn). turn ∷ l) is) moved (subst (λ (l : List Turn). MoveFromStart said l moved) (append_assoc ahead (turn ∷ []) others) moves))),
      )

  -- from the beginning on
  all_quiet : (turns : List Turn) (last : Posture (Noted ServerProfile)) (runs : HasTurns N turns (new_server settings before).posture last) → AllByRecursion (IsPacket acl_limit) (packets_in turns)
      → ((ahead : List Turn) (turn : Turn) (behind : List Turn) → turns ≡ ahead ++ turn ∷ behind → (moved : List Move) → MoveFromStart said ahead moved → CameQuietly (answers_along N turns (new_server settings before).posture last runs) moved turn.packet) → AreInTurn N turns (new_server settings before).posture last runs
  all_quiet turns last runs each comes = turns_quiet [] turns [] (new_server settings before).posture last runs (stands_first settings before (answers_along N turns (new_server settings before).posture last runs)) each comes

  finds_quiet : (all : List Circumstance) → AllGranted (answers_in all) → (up : Option Link) (moved : List Move) (packet : Packet) → IsQuietOn settings before up moved packet → FindsQuiet all up moved packet
  finds_quiet all granted None moved packet quietly = tt
  finds_quiet all granted (Some link) moved packet quietly = λ tells. elim (quietly tells) [ inl more ↦ inl more | inr falls ↦ inr (falls, granted) ]

  came_quietly : (all : List Circumstance) → AllGranted (answers_in all) → (moved : List Move) (packet : Option Packet) → ComesQuietly settings before moved packet → CameQuietly all moved packet
  came_quietly all granted moved None comes = tt
  came_quietly all granted moved (Some packet) comes = finds_quiet all granted (linking moved).up moved packet comes

  -- ---- where buffers are free

  finds_free : (all : List Circumstance) (up : Option Link) (moved : List Move) (packet : Packet) → IsFreeOn up moved packet → FindsQuiet all up moved packet
  finds_free all None moved packet free = tt
  finds_free all (Some link) moved packet free = λ tells. inl (free tells)

  came_free : (all : List Circumstance) (moved : List Move) (packet : Option Packet) → ComesFree moved packet → CameQuietly all moved packet
  came_free all moved None free = tt
  came_free all moved (Some packet) free = finds_free all (linking moved).up moved packet free

  quiet_on : (up : Option Link) (moved : List Move) (packet : Packet) → IsFreeOn up moved packet → IsQuietOn settings before up moved packet
  quiet_on None moved packet free = tt
  quiet_on (Some link) moved packet free = λ tells. inl (free tells)

  comes_quietly : (moved : List Move) (packet : Option Packet) → ComesFree moved packet → ComesQuietly settings before moved packet
  comes_quietly moved None free = tt
  comes_quietly moved (Some packet) free = quiet_on (linking moved).up moved packet free

pub quiet_streams_come_in_turn : QuietStreamsComeInTurn
quiet_streams_come_in_turn settings before turns last runs each granted quietly =
    let all = answers_along (noted_server settings) turns (new_server settings before).posture last runs in
    all_quiet settings before turns last runs each (λ ahead turn behind is moved moves. came_quietly settings before all granted moved turn.packet (quietly ahead turn behind is moved moves))

pub free_streams_are_quiet : FreeStreamsAreQuiet
free_streams_are_quiet settings before turns free = λ ahead turn behind is moved moves. comes_quietly settings before moved turn.packet (free ahead turn behind is moved moves)

pub free_streams_come_in_turn : FreeStreamsComeInTurn
free_streams_come_in_turn settings before turns last runs each free =
    let all = answers_along (noted_server settings) turns (new_server settings before).posture last runs in
    all_quiet settings before turns last runs each (λ ahead turn behind is moved moves. came_free settings before all moved turn.packet (free ahead turn behind is moved moves))
