-- What a host was told and said is what its units have of its links.
use Rattle.std.proofs.Common.{◌≡◌, ◌≢◌, ℕ, ◌+◌, ◌*◌, ◌==◌, ◌||◌, ◌&&◌, Bool, true, false, cond, List, [], ◌∷◌, ◌++◌, map, length, fold, Option, Some, None, is_some, is_none, if◌then◌else◌, refl, sym, ap, ap₂, subst, ◌∙◌, append_assoc, length-append, arith}
use Rattle.std.specs.List.{AllByRecursion, flat_map}
use Rattle.std.specs.Option.{option_map}
use Rattle.std.proofs.lemmas.Bool.{eq-eqb}
use Rattle.std.proofs.lemmas.List.{append-nil, append_cancel_left}
use Rattle.std.proofs.lemmas.List.Sums.{fold-append}
use Rattle.scenario_laws.specs.bt_base.specs.Numbers.{IsHandle}
use Rattle.scenario_laws.specs.h4_framing.specs.Packets.{Packet, Acl, spelling, spellings, IsPacket}
use Rattle.scenario_laws.specs.h4_framing.proofs.ExtentLemmas.{packet_long}
use Rattle.scenario_laws.specs.h4_framing.proofs.SpellingLemmas.{one_spelling}
use Rattle.scenario_laws.specs.hci_packets.specs.AclWords.{flag_of, acl_word_of}
use Rattle.scenario_laws.specs.hci_packets.specs.Commands.{command_refusal, opcode_of, command_params}
use Rattle.scenario_laws.specs.hci_packets.specs.declared.acl.Boundary.{Boundary}
use Rattle.scenario_laws.specs.hci_packets.specs.declared.acl.Boundary.TheVariants.{First, Continuing, FirstFromController}
use Rattle.scenario_laws.specs.acl_fragments.specs.Pieces.{Piece, starts}
use Rattle.scenario_laws.specs.acl_fragments.specs.Answers.{Answer, Pdu as Whole, More, Dropped, answer}
use Rattle.scenario_laws.specs.push_terms.specs.declared.word.Side.{Side}
use Rattle.scenario_laws.specs.push_terms.specs.declared.word.Side.TheVariants as sides
use Rattle.scenario_laws.specs.capture.specs.declared.flow.Flow.TheVariants.{Out, Into}
use Rattle.scenario_laws.specs.capture.specs.Moves.{Move, moves}
use Rattle.scenario_laws.specs.capture.specs.Links.{links, link_up, Link, Linking, Asked, NoNews, longer, gone_on, after_news, after_move, linking}
use Rattle.scenario_laws.specs.capture.specs.Pdus.{pdu_limit, piece_of, pdus}
use Rattle.scenario_laws.specs.capture.proofs.MoreLaws.{links-more}
use Rattle.scenario_laws.specs.host_link.specs.declared.role.Role.{Role}
use Rattle.scenario_laws.specs.host_link.specs.declared.host_command.HostCommand.{HostCommand}
use Rattle.scenario_laws.specs.host_link.specs.Hearing.{PlainNews, Nothing, LinkUp, LinkFailed, LinkDown, Pdu, news_of, heard}
use Rattle.scenario_laws.specs.host_link.specs.HostCommands.{command_of, command_packet}
use Rattle.scenario_laws.specs.host_link.specs.Lines.{Line, fresh}
use Rattle.scenario_laws.specs.host_link.specs.PuttingOut.{piece_packet, with_piece, with_next, with_pdu}
use Rattle.scenario_laws.specs.host_link.specs.Stands.{Stands, into, out_of, Says as Says_units}
use Rattle.scenario_laws.specs.host_link.proofs.HeardPackets.{heard_stands}
use Rattle.scenario_laws.specs.host_link.proofs.Saying.{command_says, piece_says}
use Rattle.scenario_laws.specs.host_link.proofs.Standing.{stands_alike}
use Rattle.scenario_laws.specs.world_model.specs.Machines.{Upper, News, LinkEvent, Up, Down, Linked, Failed, Heard, TimerFired, Cancelled, Opening}
use Rattle.scenario_laws.specs.world_model.specs.Talks.{Talk, Told, Said, Unsent}
use Rattle.scenario_laws.specs.world_model.specs.Carriages.{linked_by}
use Rattle.scenario_laws.specs.world_model.specs.PerLink.{Linkage, with_moved, link_begins, link_ends, linkage_after, linkage, captured}
use Rattle.scenario_laws.specs.world_model.specs.Stations.{whole_in, gives, holds}
use Rattle.scenario_laws.specs.turn_laws.proofs.Joining.{completions, cut_comes}
use Rattle.scenario_laws.specs.turn_laws.proofs.Linkages.{linkage_one, linkage_ended, moved_none}
use Rattle.scenario_laws.specs.turn_laws.proofs.Showing.{piece_packet_is}
use Rattle.scenario_laws.specs.turn_laws.specs.Premises.{SaysFrames}
use Rattle.scenario_laws.specs.host_laws.specs.Acts.{Act, Hears, from_news}
use Rattle.scenario_laws.specs.host_laws.specs.Calm.{pdus_in}
use Rattle.scenario_laws.specs.channel_laws.specs.Runs.{Occurrence, Gives}
use Rattle.scenario_laws.specs.host_laws.specs.OverLinks.{IsTimely, parts, turns_link, talk_outer}
use Rattle.scenario_laws.specs.host_laws.specs.Turning.{IsHeardInQuiet}
use Rattle.scenario_laws.specs.host_laws.proofs.Turning.{up_behind}
use Rattle.scenario_laws.specs.Coming.{FallTo, LastIsUp}
use Rattle.scenario_laws.proofs.Acting.{Anyhow, Acted, IsAside, IsNewsSo, first_acted, went_all, hears_acted, moves_acted, says_acted, tells_acted}
use Rattle.scenario_laws.proofs.Coming.{captured_links, up_last}
use Rattle.scenario_laws.proofs.Parting.{past_from, now_from, parts_are, Parted, all_links, all_fall}
use Rattle.unit_laws.specs.Units.{Lined, Occasion, Comes, Learns, Says, Puts, Commands, Waits, units_of, units, lone_capture, hears_line, IsOwnNews, SaysNext, PutsPiece, PutsCommand, OnlyWaits, Happens, Runs, Whatever, starting, HasSaidAll, IsToldInTurn, ComesInTurn}
use Rattle.unit_laws.specs.Laws.{LinesAreRead, IsUntimed, IsUnfired, FiresNone, TalksAs, UnitsAreTalk}
use Rattle.unit_laws.specs.Timed.{Tick, Timed, news_ticks, ticks_of, ticks, passed, timed_on, pdus_up, timed_after, timed}
use Rattle.unit_laws.proofs.Timing.{timed_talk, timed_told, timed_turned, timed_unsent, now_timed, timed_same, timed_moved, timed_down, timed_up, none_shown, some_shown, occasion_timed}
use Rattle.unit_laws.proofs.Shown.{shown, begun_on, OnUp, always_up, Completes, completes_none, completes_one, goes_on, begun_stays, begun_more}
use Rattle.unit_laws.proofs.Hearing.{ShownBy, heard_shown}
use Rattle.unit_laws.proofs.Lining.{IsFit, LineAs, heard_line}

-- ---- what a line holds

-- where its units led, with a handle that is none of the reserved ones
pub record LineAt (past : List Move) (line : Line) : Type 0 where
  pub stands : Stands past line
  pub fit : IsFit line
  pub low : (handle : ℕ) → line.link ≡ Some handle → IsHandle handle

low_link : (handle other : ℕ) (link : Option ℕ) → IsHandle handle → link ≡ Some handle → link ≡ Some other → IsHandle other
low_link handle other link low is also = let same : Some handle ≡ Some other = sym is ∙ also in let one : handle ≡ other = cc in omega (arith, one, low)

pub low_news : (news : PlainNews) (old new : Line) → LineAs news old new → ((handle : ℕ) → old.link ≡ Some handle → IsHandle handle) → (handle : ℕ) → new.link ≡ Some handle → IsHandle handle
low_news Nothing old new shape low handle is = low handle (sym shape.link.link ∙ is)
low_news LinkUp old new shape low handle is = low_link shape.link.handle handle new.link shape.link.low shape.link.link is
low_news (LinkFailed status) old new shape low handle is = low handle (sym shape.link.link ∙ is)
low_news (LinkDown reason) old new shape low handle is = let never : None ≡ Some handle = sym shape.link.link ∙ is in absurd cc
low_news (Pdu channel octets) old new shape low handle is = low handle (sym shape.link.stays.link ∙ is)

pub fit_news : (news : PlainNews) (old new : Line) → LineAs news old new → IsFit old → IsFit new
fit_news Nothing old new shape fit = record { long = shape.long; off = λ none. shape.link.pieces ∙ fit.off (sym shape.link.link ∙ none) }
fit_news LinkUp old new shape fit = record { long = shape.long; off = λ none. shape.link.pieces ∙ fit.off shape.link.off }
fit_news (LinkFailed status) old new shape fit = record { long = shape.long; off = λ none. shape.link.pieces ∙ fit.off (sym shape.link.link ∙ none) }
fit_news (LinkDown reason) old new shape fit = record { long = shape.long; off = λ none. shape.link.pieces }
fit_news (Pdu channel octets) old new shape fit = record { long = shape.long; off = λ none. shape.link.stays.pieces ∙ fit.off (sym shape.link.stays.link ∙ none) }

comes_line : {S G : Type 0} (U : Upper S G) (past : List Move) (gifts : List G) (unit : Packet) (old new : Lined S) → Happens U (Comes gifts unit) old new → LineAt past old.line → LineAt (past ++ into unit ∷ []) new.line
comes_line {S} U past gifts unit old new (fault, is) at =
    let shape = heard_line unit old.line fault at.fit in
    subst (λ (s : Lined S). LineAt (past ++ into unit ∷ []) s.line) (sym is) (record {
      stands = heard_stands past unit old.line at.stands;
      fit = fit_news (news_of unit old.line) old.line (heard unit old.line) shape at.fit;
      low = low_news (news_of unit old.line) old.line (heard unit old.line) shape at.low;
    })

-- a line that puts one packet out says that one
said_one : (said : List Packet) (packet : Packet) (out : List ℕ) → AllByRecursion (IsPacket 1021) said → IsPacket 1021 packet → out ++ spelling packet ≡ out ++ spellings said → said ≡ packet ∷ []
said_one said packet out each is both = by said each (append_cancel_left out (spelling packet) (spellings said) both)
  where
    by : (list : List Packet) → AllByRecursion (IsPacket 1021) list → spelling packet ≡ spellings list → list ≡ packet ∷ []
    by [] each same = absurd (let long = packet_long packet in let none = ap length same in omega (arith, long, none))
    by (one ∷ list) each same =
        let both = one_spelling 1021 packet one [] (spellings list) is each.0 (append-nil (spelling packet) ∙ same) in
        ap₂ (λ (x : Packet) (l : List Packet). x ∷ l) (sym both.0) (none_left list (sym both.1))
      where
        none_left : (rest : List Packet) → spellings rest ≡ [] → rest ≡ []
        none_left [] none = refl
        none_left (next ∷ rest) none = absurd (let long = packet_long next in let size = length-append (spelling next) (spellings rest) in let zero_is = ap length none in omega (arith, long, size, zero_is))

stands_one : (past : List Move) (packet : Packet) (old new : Line) → Says_units old new → new.out ≡ old.out ++ spelling packet → IsPacket 1021 packet → Stands past old → Stands (past ++ out_of packet ∷ []) new
stands_one past packet old new says out is stands =
    subst (λ (said : List Packet). Stands (past ++ map out_of said) new) (said_one says.said packet old.out says.each is (sym out ∙ says.out)) (says.history past stands)

puts_line : {S : Type 0} (past : List Move) (handle : ℕ) (piece : Piece) (old new : Lined S) → PutsPiece handle piece old new → LineAt past old.line → LineAt (past ++ out_of (piece_packet handle piece) ∷ []) new.line
puts_line past handle piece old new puts at =
    let line = with_piece handle piece puts.rest old.line in
    subst (LineAt (past ++ out_of (piece_packet handle piece) ∷ [])) (sym puts.line_is) (record {
      stands = stands_one past (piece_packet handle piece) old.line line (piece_says old.line line handle piece puts.link (at.low handle puts.link) refl refl refl refl refl puts.packet) refl puts.packet at.stands;
      fit = record { long = at.fit.long; off = λ none. let never : None ≡ Some handle = sym none ∙ puts.link in absurd cc };
      low = at.low;
    })

commands_line : {S : Type 0} (past : List Move) (command : HostCommand) (old new : Lined S) → PutsCommand command old new → LineAt past old.line → LineAt (past ++ out_of (command_packet command) ∷ []) new.line
commands_line past command old new puts at =
    let line = with_next (Some command) old.line in
    subst (LineAt (past ++ out_of (command_packet command) ∷ [])) (sym puts.line_is) (record {
      stands = stands_one past (command_packet command) old.line line (command_says old.line line command (refl, refl, refl, refl) refl puts.packet puts.whole) refl puts.packet at.stands;
      fit = record { long = at.fit.long; off = at.fit.off };
      low = at.low;
    })

alike_line : (past : List Move) (old new : Line) → new ≡ record old { commands = new.commands; ending = new.ending; out = new.out } → LineAt past old → LineAt past new
alike_line past old new is at =
    subst (LineAt past) (sym is) (record {
      stands = stands_alike past old (record old { commands = new.commands; ending = new.ending; out = new.out }) (record { asked = refl; link = refl; ledger = λ handle. refl; joining = refl }) at.stands;
      fit = record { long = at.fit.long; off = at.fit.off };
      low = at.low;
    })

says_line : {S G : Type 0} (U : Upper S G) (past : List Move) (pdu : List ℕ) (old new : Lined S) → SaysNext U pdu old new → LineAt past old.line → LineAt past new.line
says_line U past pdu old new says at =
    subst (LineAt past) (sym says.line_is) (record {
      stands = stands_alike past old.line (with_pdu pdu old.line) (record { asked = refl; link = refl; ledger = λ handle. refl; joining = refl }) at.stands;
      fit = record { long = at.fit.long; off = λ none. let never : None ≡ Some says.handle = sym none ∙ says.link in absurd cc };
      low = at.low;
    })

still_line : (past : List Move) (line : Line) → LineAt past line → LineAt (past ++ []) line
still_line past line at = subst (λ (l : List Move). LineAt l line) (sym (append-nil past)) at

-- whatever happens
pub happens_line : {S G : Type 0} (U : Upper S G) (past : List Move) (occasion : Occasion G) (old new : Lined S) → Happens U occasion old new → LineAt past old.line → LineAt (past ++ units_of occasion) new.line
happens_line U past (Comes gifts unit) old new happens at = comes_line U past gifts unit old new happens at
happens_line {S} U past (Learns gifts news) old new (own, is) at = still_line past new.line (subst (λ (s : Lined S). LineAt past s.line) (sym is) at)
happens_line U past (Says pdu) old new says at = still_line past new.line (says_line U past pdu old new says at)
happens_line U past (Puts handle piece) old new puts at = puts_line past handle piece old new puts at
happens_line U past (Commands command) old new puts at = commands_line past command old new puts at
happens_line U past Waits old new waits at = still_line past new.line (alike_line past old.line new.line waits.line_is at)

pub first_line : (role : Role) → LineAt [] (fresh role)
first_line role = record { stands = record { asked = refl; link = refl; ledger = λ handle. refl; joining = tt }; fit = record { long = omega arith; off = λ none. refl }; low = λ handle is. cc }

run_lines : {S G : Type 0} (U : Upper S G) (P : Occasion G → Lined S → Type 0) (past : List Move) (occasions : List (Occasion G)) (old new : Lined S) → Runs U P occasions old new → LineAt past old.line → LineAt (past ++ units occasions) new.line
run_lines {S} U P past [] old new is at = still_line past new.line (subst (λ (s : Lined S). LineAt past s.line) (sym is) at)
run_lines U P past (occasion ∷ occasions) old new (mid, so, happens, rest) at =
    subst (λ (l : List Move). LineAt l new.line) (append_assoc past (units_of occasion) (units occasions))
    (run_lines U P (past ++ units_of occasion) occasions mid new rest (happens_line U past occasion old mid happens at))

pub lines_are_read : {S G : Type 0} (U : Upper S G) → LinesAreRead U
lines_are_read U role occasions now runs = (run_lines U Whatever [] occasions (starting U role) now runs (first_line role)).stands

-- ---- what it was told and said

-- by its units; what it said and has not put out waits in pieces
pub record TalksAt {S G : Type 0} (U : Upper S G) (F : Type 0) (past : List Move) (list : List Occurrence) (now : Lined S) : Type 0 where
  pub line : LineAt past now.line
  pub waiting : List (List ℕ)
  pub talk : List Talk
  pub acted : Acted U (is_some now.line.link) now.upper waiting talk
  pub known : linkage talk ≡ shown (linking past)
  pub under_way : completions (pdu_limit Out) (begun_on (linking past).up) now.line.pieces ≡ waiting
  -- where no timer fired, none is told
  pub unfired : F → AllByRecursion IsUnfired talk
  -- and this happened on its last link
  pub timed : timed_talk talk ≡ list

-- where no piece waits, nothing does
none_waits : (begun : List ℕ) (pieces : List Piece) (waiting : List (List ℕ)) → pieces ≡ [] → completions (pdu_limit Out) begun pieces ≡ waiting → waiting ≡ []
none_waits begun pieces waiting none is = sym is ∙ ap (completions (pdu_limit Out) begun) none

quiet_acted : {S G : Type 0} (U : Upper S G) (F : Type 0) (past : List Move) (list : List Occurrence) (now : Lined S) (at : TalksAt U F past list now) → now.line.pieces ≡ [] → Acted U (is_some now.line.link) now.upper [] at.talk
quiet_acted U F past list now at none = subst (λ (w : List (List ℕ)). Acted U (is_some now.line.link) now.upper w at.talk) (none_waits (begun_on (linking past).up) now.line.pieces at.waiting none at.under_way) at.acted

so_anyhow : {S : Type 0} (news : News) (now : S) → IsNewsSo Anyhow news now
so_anyhow (Linked event) now = tt
so_anyhow (Failed status) now = tt
so_anyhow (Heard pdu) now = tt
so_anyhow TimerFired now = tt
so_anyhow Cancelled now = tt
so_anyhow (Opening name) now = tt

-- talk in which no timer fired
both_unfired : (one two : List Talk) → AllByRecursion IsUnfired one → AllByRecursion IsUnfired two → AllByRecursion IsUnfired (one ++ two)
both_unfired [] two first second = second
both_unfired (told ∷ one) two first second = (first.0, both_unfired one two first.1 second)

none_sent : (waiting : List (List ℕ)) → AllByRecursion IsUnfired (map Unsent waiting)
none_sent [] = tt
none_sent (pdu ∷ waiting) = (tt, none_sent waiting)

untimed_told : (news : News) → IsUntimed news → IsUnfired (Told news)
untimed_told news untimed = untimed

abbrev act_of : {G : Type 0} → List G → News → Act G
act_of gifts news = Hears gifts news

-- what comes with no PDU under way
nothing_begun : (begun : List ℕ) (pieces : List Piece) → pieces ≡ [] → completions (pdu_limit Out) begun pieces ≡ []
nothing_begun begun pieces none = ap (completions (pdu_limit Out) begun) none

module _ {S G : Type 0} (U : Upper S G) (F : Type 0) where
  -- it hears something but of its link, where no piece waits
  hears_at : (past past' : List Move) (list : List Occurrence) (line : Line) (gifts : List G) (news : News) (old : Lined S) → turns_link (Told news) ≡ false → TalksAt U F past list old → LineAt past' line → line.link ≡ old.line.link → line.pieces ≡ old.line.pieces → old.line.pieces ≡ []
      → IsAside news → (F → IsUntimed news) → IsTimely (is_some old.line.link) (act_of gifts news) → (is_some old.line.link ≡ true → IsHeardInQuiet U news old.upper)
      → linkage_after (shown (linking past)) (Told news) ≡ shown (linking past')
      → TalksAt U F past' (list ++ from_news news) (record old { line = line; upper = U.hear gifts news old.upper })
  hears_at past past' list line gifts news old keeps at line_at link pieces none aside untimed timely quiet adds = record {
    line = line_at;
    waiting = [];
    talk = at.talk ++ Told news ∷ [];
    acted = subst (λ (l : Option ℕ). Acted U (is_some l) (U.hear gifts news old.upper) [] (at.talk ++ Told news ∷ [])) (sym link)
        (hears_acted U Anyhow (is_some old.line.link) gifts news old.upper at.talk aside timely quiet (λ on. so_anyhow news old.upper) (quiet_acted U F past list old at none));
    known = linkage_one at.talk (Told news) ∙ (ap (λ (l : Linkage). linkage_after l (Told news)) at.known ∙ adds);
    under_way = nothing_begun (begun_on (linking past').up) line.pieces (pieces ∙ none);
    unfired = λ still. both_unfired at.talk (Told news ∷ []) (at.unfired still) (untimed_told news (untimed still), tt);
    timed = timed_told at.talk (Told news) list keeps at.timed;
  }

  -- its link comes up or goes down
  turns_at : (past past' : List Move) (list : List Occurrence) (line : Line) (gifts : List G) (event : LinkEvent) (old : Lined S) → TalksAt U F past list old → LineAt past' line → is_some line.link ≡ linked_by event → line.pieces ≡ []
      → (event ≡ Up → is_some old.line.link ≡ false) → (event ≢ Up → is_some old.line.link ≡ true) → linkage_after (shown (linking past)) (Told (Linked event)) ≡ shown (linking past')
      → TalksAt U F past' [] (record old { line = line; upper = U.hear gifts (Linked event) old.upper })
  turns_at past past' list line gifts event old at line_at link none fresh held adds = record {
    line = line_at;
    waiting = [];
    talk = at.talk ++ (map Unsent at.waiting ++ Told (Linked event) ∷ []);
    acted = subst (λ (b : Bool). Acted U b (U.hear gifts (Linked event) old.upper) [] (at.talk ++ (map Unsent at.waiting ++ Told (Linked event) ∷ []))) (sym link)
        (tells_acted U Anyhow (is_some old.line.link) gifts event old.upper at.waiting at.talk fresh held at.acted);
    known = linkage_ended at.talk at.waiting (Told (Linked event)) ∙ (ap (λ (l : Linkage). linkage_after l (Told (Linked event))) at.known ∙ adds);
    under_way = nothing_begun (begun_on (linking past').up) line.pieces none;
    unfired = λ still. both_unfired at.talk (map Unsent at.waiting ++ Told (Linked event) ∷ []) (at.unfired still) (both_unfired (map Unsent at.waiting) (Told (Linked event) ∷ []) (none_sent at.waiting) (tt, tt));
    timed = timed_turned at.talk at.waiting event;
  }

  -- a unit says nothing
  silent_at : (past past' : List Move) (list : List Occurrence) (line : Line) (old : Lined S) → TalksAt U F past list old → LineAt past' line → line.link ≡ old.line.link → line.pieces ≡ old.line.pieces → shown (linking past') ≡ shown (linking past)
      → begun_on (linking past').up ≡ begun_on (linking past).up → TalksAt U F past' list (record old { line = line })
  silent_at past past' list line old at line_at link pieces adds begun = record {
    line = line_at;
    waiting = at.waiting;
    talk = at.talk;
    acted = subst (λ (l : Option ℕ). Acted U (is_some l) old.upper at.waiting at.talk) (sym link) at.acted;
    known = at.known ∙ sym adds;
    under_way = ap₂ (λ (b : List ℕ) (ps : List Piece). completions (pdu_limit Out) b ps) begun pieces ∙ at.under_way;
    unfired = at.unfired;
    timed = at.timed;
  }

  -- what a unit adds to what happened
  abbrev with_unit : (past past' : List Move) → List Occurrence → List Occurrence
  with_unit past past' list = timed_on (pdus_up past) (pdus_up past') list

  adds_so : (past past' : List Move) (list : List Occurrence) (l : Linkage) → shown (linking past') ≡ l → with_unit past past' list ≡ timed_on (pdus_up past) l.up list
  adds_so past past' list l is = ap (λ (m : Linkage). timed_on (pdus_up past) m.up list) is

  comes_by : (news : PlainNews) (past past' : List Move) (list : List Occurrence) (line : Line) (gifts : List G) (old : Lined S) → ShownBy news (linking past) (linking past') → LineAs news old.line line → LineAt past' line → IsToldInTurn U old news → TalksAt U F past list old
      → TalksAt U F past' (timed_on (pdus_up past) (pdus_up past') list) (record old { line = line; upper = hears_line U gifts news old.upper })
  comes_by Nothing past past' list line gifts old by shape line_at turn at =
      subst (λ (l : List Occurrence). TalksAt U F past' l (record old { line = line })) (sym (adds_so past past' list (shown (linking past)) by.adds ∙ timed_same (pdus_up past) list))
      (silent_at past past' list line old at line_at shape.link.link shape.link.pieces by.adds (by.begun tt))
  comes_by LinkUp past past' list line gifts old by shape line_at turn at =
      let none = none_shown (linking past).up (at.line.stands.link ∙ shape.link.off) in
      subst (λ (l : List Occurrence). TalksAt U F past' l (record old { line = line; upper = U.hear gifts (Linked Up) old.upper })) (sym (adds_so past past' list (link_begins (shown (linking past))) by.adds ∙ timed_up (pdus_up past) list none))
      (turns_at past past' list line gifts Up old at line_at (ap is_some shape.link.link) (shape.link.pieces ∙ at.line.fit.off shape.link.off) (λ up. ap is_some shape.link.off) (λ not. absurd (not refl)) (sym by.adds))
  comes_by (LinkFailed status) past past' list line gifts old by shape line_at turn at =
      subst (λ (l : List Occurrence). TalksAt U F past' l (record old { line = line; upper = U.hear gifts (Failed status) old.upper })) (append-nil list ∙ sym (adds_so past past' list (shown (linking past)) by.adds ∙ timed_same (pdus_up past) list))
      (hears_at past past' list line gifts (Failed status) old refl at line_at shape.link.link shape.link.pieces turn.pieces tt (λ still. tt) tt (λ on. tt) (sym by.adds))
  comes_by (LinkDown reason) past past' list line gifts old by shape line_at turn at =
      let on = some_shown (linking past).up shape.link.handle (at.line.stands.link ∙ shape.link.on) in
      subst (λ (l : List Occurrence). TalksAt U F past' l (record old { line = line; upper = U.hear gifts (Linked (Down reason)) old.upper })) (sym (adds_so past past' list (link_ends (shown (linking past))) by.adds ∙ timed_down (pdus_up past) list on))
      (turns_at past past' list line gifts (Down reason) old at line_at (ap is_some shape.link.link) shape.link.pieces (λ up. cc) (λ not. ap is_some shape.link.on) (sym by.adds))
  comes_by (Pdu channel octets) past past' list line gifts old by shape line_at turn at =
      let on = some_shown (linking past).up shape.link.handle (at.line.stands.link ∙ shape.link.on) in
      subst (λ (l : List Occurrence). TalksAt U F past' l (record old { line = line; upper = U.hear gifts (Heard octets) old.upper }))
      (sym (adds_so past past' list (with_moved Into (octets ∷ []) (shown (linking past))) by.adds ∙ timed_moved Into (octets ∷ []) (shown (linking past)) list on))
      (hears_at past past' list line gifts (Heard octets) old refl at line_at shape.link.stays.link shape.link.stays.pieces turn.pieces tt (λ still. tt) (ap is_some shape.link.on) (λ on. turn.none_next) (sym by.adds))

  comes_talk : (past : List Move) (list : List Occurrence) (gifts : List G) (unit : Packet) (old new : Lined S) → ComesInTurn U (Comes gifts unit) old → Happens U (Comes gifts unit) old new → TalksAt U F past list old
      → TalksAt U F (past ++ into unit ∷ []) (timed_on (pdus_up past) (pdus_up (past ++ into unit ∷ [])) list) new
  comes_talk past list gifts unit old new turn happens at =
      let line_at = comes_line U past gifts unit old new happens at.line in
      subst (λ (s : Lined S). TalksAt U F (past ++ into unit ∷ []) (with_unit past (past ++ into unit ∷ []) list) s) (sym happens.1)
      (comes_by (news_of unit old.line) past (past ++ into unit ∷ []) list (heard unit old.line) gifts old (heard_shown past old.line unit at.line.stands) (heard_line unit old.line happens.0 at.line.fit)
      (subst (λ (s : Lined S). LineAt (past ++ into unit ∷ []) s.line) happens.1 line_at) turn at)

  abbrev with_news : (past : List Move) → News → List Occurrence → List Occurrence
  with_news past news list = (fold timed_after (let old : Timed = record { moved = past; list = list } in old) (news_ticks news)).list

  learns_by : (past : List Move) (list : List Occurrence) (gifts : List G) (news : News) (old : Lined S) → IsOwnNews news → (F → IsUntimed news) → HasSaidAll U old → TalksAt U F past list old → TalksAt U F past (with_news past news list) (record old { upper = U.hear gifts news old.upper })
  learns_by past list gifts (Linked event) old own untimed turn at = absurd own
  learns_by past list gifts (Failed status) old own untimed turn at = absurd own
  learns_by past list gifts (Heard pdu) old own untimed turn at = absurd own
  learns_by past list gifts TimerFired old own untimed turn at = hears_at past past list old.line gifts TimerFired old refl at at.line refl refl turn.pieces tt untimed tt (λ on. turn.none_next) refl
  learns_by past list gifts Cancelled old own untimed turn at =
      subst (λ (l : List Occurrence). TalksAt U F past l (record old { upper = U.hear gifts Cancelled old.upper })) (append-nil list) (hears_at past past list old.line gifts Cancelled old refl at at.line refl refl turn.pieces tt untimed tt (λ on. tt) refl)
  learns_by past list gifts (Opening name) old own untimed turn at =
      subst (λ (l : List Occurrence). TalksAt U F past l (record old { upper = U.hear gifts (Opening name) old.upper })) (append-nil list) (hears_at past past list old.line gifts (Opening name) old refl at at.line refl refl turn.pieces tt untimed tt (λ on. tt) refl)

  -- ---- it goes on by itself

  says_talk : SaysFrames U → (past : List Move) (list : List Occurrence) (pdu : List ℕ) (old new : Lined S) → SaysNext U pdu old new → TalksAt U F past list old → TalksAt U F past list new
  says_talk frames past list pdu old new says at =
      let frame = frames old.upper pdu new.upper says.next_is in
      let on : is_some old.line.link ≡ true = ap is_some says.link in
      let acted = says_acted U Anyhow old.upper new.upper pdu [] at.talk says.next_is (subst (λ (b : Bool). Acted U b old.upper [] at.talk) on (quiet_acted U F past list old at says.none_waits)) in
      let linked : is_some new.line.link ≡ true = ap (λ (l : Line). is_some l.link) says.line_is ∙ on in
      record {
        line = says_line U past pdu old new says at.line;
        waiting = pdu ∷ [];
        talk = at.talk;
        acted = subst (λ (b : Bool). Acted U b new.upper (pdu ∷ []) at.talk) (sym linked) acted;
        known = at.known;
        under_way = ap (λ (l : Line). completions (pdu_limit Out) (begun_on (linking past).up) l.pieces) says.line_is
            ∙ (cut_comes (pdu_limit Out) old.line.size First (begun_on (linking past).up) pdu at.line.fit.long refl frame.pdu (omega (arith, frame.short))).completes;
        unfired = at.unfired;
        timed = at.timed;
      }

  -- the word of a piece's packet
  word_is : (handle : ℕ) (boundary : Boundary) → acl_word_of (record { handle = handle; boundary = boundary; broadcast = 0 }) ≡ handle + 0x1000 * flag_of boundary
  word_is handle First = omega arith
  word_is handle Continuing = omega arith
  word_is handle FirstFromController = omega arith

  found : (told handle : ℕ) (piece : Piece) → IsHandle handle → told ≡ handle → piece_of told (piece_packet handle piece) ≡ Some piece
  found told handle piece low here =
      ap (λ (word : ℕ). piece_of told (Acl word piece.octets)) (word_is handle piece.boundary)
      ∙ (piece_packet_is told handle piece low ∙ ap (λ (b : Bool). if b then Some piece else None) (eq-eqb handle told (sym here)))

  -- a piece adds to the link the PDU that it completes
  record PieceShown (past : List Move) (handle : ℕ) (piece : Piece) : Type 0 where
    adds : shown (linking (past ++ out_of (piece_packet handle piece) ∷ [])) ≡ with_moved Out (gives (pdu_limit Out) (begun_on (linking past).up) piece) (shown (linking past))
    begun : begun_on (linking (past ++ out_of (piece_packet handle piece) ∷ [])).up ≡ holds (pdu_limit Out) (begun_on (linking past).up) piece

  piece_shown : (past : List Move) (handle : ℕ) (piece : Piece) (up : Option Link) → (linking past).up ≡ up → option_map (λ (link : Link). link.handle) up ≡ Some handle → IsHandle handle → PieceShown past handle piece
  piece_shown past handle piece None is none low = cc
  piece_shown past handle piece (Some link) is whose low =
      let move = out_of (piece_packet handle piece) in
      let here : link.handle ≡ handle = cc in
      let one = found link.handle handle piece low here in
      let next : linking (past ++ move ∷ []) ≡ gone_on move (linking past) = links-more past move in
      record {
        adds = ap shown next ∙ goes_on (linking past) move (gives (pdu_limit Out) (begun_on (linking past).up) piece)
            (subst (λ (u : Option Link). OnUp u (λ (l : Link). Completes l move (gives (pdu_limit Out) (begun_on u) piece))) (sym is) (completes_one link move piece (begun_on (Some link)) one refl));
        begun = ap (λ (known : Linking). begun_on known.up) next ∙ (ap (λ (u : Option Link). begun_on (option_map (longer move) u)) is ∙ (begun_more link move piece one ∙ ap (λ (u : Option Link). holds (pdu_limit Out) (begun_on u) piece) (sym is)));
      }

  -- its PDU moves with its last piece
  moves_by : (past past' : List Move) (list list' : List Occurrence) (new : Lined S) (judged : Answer) (left : List (List ℕ)) (waiting : List (List ℕ)) (talk : List Talk) → LineAt past' new.line → Acted U (is_some new.line.link) new.upper waiting talk → is_some new.line.link ≡ true → linkage talk ≡ shown (linking past)
      → whole_in judged ++ left ≡ waiting → shown (linking past') ≡ with_moved Out (whole_in judged) (shown (linking past)) → completions (pdu_limit Out) (begun_on (linking past').up) new.line.pieces ≡ left → (F → AllByRecursion IsUnfired talk) → timed_talk talk ≡ list → list' ≡ list ++ map (passed Out) (whole_in judged) → TalksAt U F past' list' new
  moves_by past past' list list' new (Whole channel octets) left waiting talk line acted on known is adds under unfired timed more = record {
    line = line;
    waiting = left;
    talk = talk ++ Said octets ∷ [];
    acted = subst (λ (b : Bool). Acted U b new.upper left (talk ++ Said octets ∷ [])) (sym on)
        (moves_acted U Anyhow new.upper octets left talk (subst (λ (b : Bool). Acted U b new.upper (octets ∷ left) talk) on (subst (λ (w : List (List ℕ)). Acted U (is_some new.line.link) new.upper w talk) (sym is) acted)));
    known = linkage_one talk (Said octets) ∙ (ap (λ (l : Linkage). linkage_after l (Said octets)) known ∙ sym adds);
    under_way = under;
    unfired = λ still. both_unfired talk (Said octets ∷ []) (unfired still) (tt, tt);
    timed = timed_told talk (Said octets) list refl timed ∙ sym more;
  }
  moves_by past past' list list' new More left waiting talk line acted on known is adds under unfired timed more = record {
    line = line;
    waiting = left;
    talk = talk;
    acted = subst (λ (w : List (List ℕ)). Acted U (is_some new.line.link) new.upper w talk) (sym is) acted;
    known = known ∙ sym (adds ∙ moved_none Out (shown (linking past)));
    under_way = under;
    unfired = unfired;
    timed = timed ∙ (sym (append-nil list) ∙ sym more);
  }
  moves_by past past' list list' new (Dropped reason) left waiting talk line acted on known is adds under unfired timed more = record {
    line = line;
    waiting = left;
    talk = talk;
    acted = subst (λ (w : List (List ℕ)). Acted U (is_some new.line.link) new.upper w talk) (sym is) acted;
    known = known ∙ sym (adds ∙ moved_none Out (shown (linking past)));
    under_way = under;
    unfired = unfired;
    timed = timed ∙ (sym (append-nil list) ∙ sym more);
  }

  puts_talk : (past : List Move) (list : List Occurrence) (handle : ℕ) (piece : Piece) (old new : Lined S) → PutsPiece handle piece old new → TalksAt U F past list old
      → TalksAt U F (past ++ out_of (piece_packet handle piece) ∷ []) (timed_on (pdus_up past) (pdus_up (past ++ out_of (piece_packet handle piece) ∷ [])) list) new
  puts_talk past list handle piece old new puts at =
      let past' = past ++ out_of (piece_packet handle piece) ∷ [] in
      let begun = begun_on (linking past).up in
      let judged = answer (pdu_limit Out) begun (starts piece.boundary) piece.octets in
      let left = completions (pdu_limit Out) (holds (pdu_limit Out) begun piece) puts.rest in
      let by = piece_shown past handle piece (linking past).up refl (at.line.stands.link ∙ puts.link) (at.line.low handle puts.link) in
      let link : new.line.link ≡ old.line.link = ap (λ (l : Line). l.link) puts.line_is in
      let on = some_shown (linking past).up handle (at.line.stands.link ∙ puts.link) in
      moves_by past past' list (with_unit past past' list) new judged left at.waiting at.talk (puts_line past handle piece old new puts at.line)
      (subst (λ (h : S). Acted U (is_some new.line.link) h at.waiting at.talk) (sym puts.upper_is) (subst (λ (l : Option ℕ). Acted U (is_some l) old.upper at.waiting at.talk) (sym link) at.acted))
      (ap is_some (link ∙ puts.link)) at.known (sym (ap (completions (pdu_limit Out) begun) puts.first) ∙ at.under_way) by.adds
      (ap₂ (λ (b : List ℕ) (ps : List Piece). completions (pdu_limit Out) b ps) by.begun (ap (λ (l : Line). l.pieces) puts.line_is)) at.unfired at.timed
      (adds_so past past' list (with_moved Out (whole_in judged) (shown (linking past))) by.adds ∙ timed_moved Out (whole_in judged) (shown (linking past)) list on)

  -- what stands above stays as it was
  same_upper : (past : List Move) (list : List Occurrence) (old new : Lined S) → new.upper ≡ old.upper → TalksAt U F past list (record old { line = new.line }) → TalksAt U F past list new
  same_upper past list old new is at = record {
    line = at.line;
    waiting = at.waiting;
    talk = at.talk;
    acted = subst (λ (h : S). Acted U (is_some new.line.link) h at.waiting at.talk) (sym is) at.acted;
    known = at.known;
    under_way = at.under_way;
    unfired = at.unfired;
    timed = at.timed;
  }

  -- a command says nothing
  either_news : (b : Bool) (move : Move) (known : Linking) → (shown (after_news move known (cond b Asked NoNews)) ≡ shown (gone_on move known)) × (begun_on (after_news move known (cond b Asked NoNews)).up ≡ begun_on (gone_on move known).up)
  either_news true move known = (refl, refl)
  either_news false move known = (refl, refl)

  commands_talk : (past : List Move) (list : List Occurrence) (command : HostCommand) (old new : Lined S) → PutsCommand command old new → TalksAt U F past list old
      → TalksAt U F (past ++ out_of (command_packet command) ∷ []) (timed_on (pdus_up past) (pdus_up (past ++ out_of (command_packet command) ∷ [])) list) new
  commands_talk past list command old new puts at =
      let move = out_of (command_packet command) in
      let known = linking past in
      let opcode = opcode_of (command_of command) in
      let news = either_news ((opcode == 0x0405 || opcode == 0x0409) && is_none (command_refusal opcode (command_params (command_of command)))) move known in
      let next : linking (past ++ move ∷ []) ≡ after_move known move = links-more past move in
      let adds : shown (linking (past ++ move ∷ [])) ≡ shown known = ap shown next ∙ (news.0 ∙ (goes_on known move [] (always_up (λ (l : Link). Completes l move []) known.up (λ link. completes_none link move refl)) ∙ moved_none Out (shown known))) in
      let begun : begun_on (linking (past ++ move ∷ [])).up ≡ begun_on known.up = ap (λ (k : Linking). begun_on k.up) next ∙ (news.1 ∙ begun_stays known.up move (λ handle. refl)) in
      subst (λ (l : List Occurrence). TalksAt U F (past ++ move ∷ []) l new) (sym (adds_so past (past ++ move ∷ []) list (shown known) adds ∙ timed_same (pdus_up past) list))
      (same_upper (past ++ move ∷ []) list old new puts.upper_is (silent_at past (past ++ move ∷ []) list new.line old at (commands_line past command old new puts at.line) (ap (λ (l : Line). l.link) puts.line_is) (ap (λ (l : Line). l.pieces) puts.line_is) adds begun))

  waits_talk : (past : List Move) (list : List Occurrence) (old new : Lined S) → OnlyWaits old new → TalksAt U F past list old → TalksAt U F past list new
  waits_talk past list old new waits at =
      same_upper past list old new waits.upper_is (silent_at past past list new.line old at (alike_line past old.line new.line waits.line_is at.line) (ap (λ (l : Line). l.link) waits.line_is) (ap (λ (l : Line). l.pieces) waits.line_is) refl refl)

  -- ---- all of it

  still_talk : (past : List Move) (list : List Occurrence) (now : Lined S) → TalksAt U F past list now → TalksAt U F (past ++ []) list now
  still_talk past list now at = subst (λ (l : List Move). TalksAt U F l list now) (sym (append-nil past)) at

  abbrev happened : (past : List Move) (list : List Occurrence) → List Tick → List Occurrence
  happened past list more = (fold timed_after (let old : Timed = record { moved = past; list = list } in old) more).list

  happens_talk : SaysFrames U → (past : List Move) (list : List Occurrence) (occasion : Occasion G) (old new : Lined S) → (F → FiresNone occasion) → ComesInTurn U occasion old → Happens U occasion old new → TalksAt U F past list old → TalksAt U F (past ++ units_of occasion) (happened past list (ticks_of occasion)) new
  happens_talk frames past list (Comes gifts unit) old new untimed turn happens at = comes_talk past list gifts unit old new turn happens at
  happens_talk frames past list (Learns gifts news) old new untimed turn (own, is) at = still_talk past (with_news past news list) new (subst (TalksAt U F past (with_news past news list)) (sym is) (learns_by past list gifts news old own untimed turn at))
  happens_talk frames past list (Says pdu) old new untimed turn says at = still_talk past list new (says_talk frames past list pdu old new says at)
  happens_talk frames past list (Puts handle piece) old new untimed turn puts at = puts_talk past list handle piece old new puts at
  happens_talk frames past list (Commands command) old new untimed turn puts at = commands_talk past list command old new puts at
  happens_talk frames past list Waits old new untimed turn waits at = still_talk past list new (waits_talk past list old new waits at)

  run_talks : SaysFrames U → (past : List Move) (list : List Occurrence) (occasions : List (Occasion G)) (old new : Lined S) → (F → AllByRecursion FiresNone occasions) → Runs U (ComesInTurn U) occasions old new → TalksAt U F past list old
      → TalksAt U F (past ++ units occasions) (happened past list (ticks occasions)) new
  run_talks frames past list [] old new untimed is at = still_talk past list new (subst (TalksAt U F past list) (sym is) at)
  run_talks frames past list (occasion ∷ occasions) old new untimed (mid, turn, happens, rest) at =
      let first : Timed = record { moved = past; list = list } in
      let next : Timed = record { moved = past ++ units_of occasion; list = happened past list (ticks_of occasion) } in
      let behind = run_talks frames (past ++ units_of occasion) (happened past list (ticks_of occasion)) occasions mid new (λ still. (untimed still).1) rest (happens_talk frames past list occasion old mid (λ still. (untimed still).0) turn happens at) in
      let same : happened past list (ticks (occasion ∷ occasions)) ≡ happened (past ++ units_of occasion) (happened past list (ticks_of occasion)) (ticks occasions) =
      ap (λ (t : Timed). t.list) (fold-append timed_after first (ticks_of occasion) (ticks occasions)) ∙ ap (λ (t : Timed). (fold timed_after t (ticks occasions)).list) (occasion_timed first occasion) in
      subst (λ (l : List Move). TalksAt U F l (happened past list (ticks (occasion ∷ occasions))) new) (append_assoc past (units_of occasion) (units occasions))
      (subst (λ (l : List Occurrence). TalksAt U F ((past ++ units_of occasion) ++ units occasions) l new) (sym same) behind)

  pub first_talk : (role : Role) → TalksAt U F [] [] (starting U role)
  first_talk role = record { line = first_line role; waiting = []; talk = []; acted = first_acted U Anyhow; known = refl; under_way = refl; unfired = λ still. tt; timed = refl }

  pub all_talks : SaysFrames U → (role : Role) (occasions : List (Occasion G)) (now : Lined S) → (F → AllByRecursion FiresNone occasions) → Runs U (ComesInTurn U) occasions (starting U role) now → TalksAt U F (units occasions) (timed (ticks occasions)) now
  all_talks frames role occasions now untimed runs = run_talks frames [] [] occasions (starting U role) now untimed runs (first_talk role)

-- ---- as a capture of this host alone

pub lone_moves : (side : Side) (list : List Move) → moves side (lone_capture side list) ≡ list
lone_moves sides.A [] = refl
lone_moves sides.A (move ∷ list) = ap (λ (l : List Move). move ∷ l) (lone_moves sides.A list)
lone_moves sides.B [] = refl
lone_moves sides.B (move ∷ list) = ap (λ (l : List Move). move ∷ l) (lone_moves sides.B list)

pub lone_captured : (side : Side) (list : List Move) → shown (linking list) ≡ captured side (lone_capture side list)
lone_captured side list = ap (λ (l : List Move). shown (linking l)) (sym (lone_moves side list))

-- where a link is up, the last part has what moved on it alone
abbrev pub LastIsWhole : (parts : List (List Talk)) → Option Link → Type 0
LastIsWhole parts None = Unit {0}
LastIsWhole parts (Some link) = (before : List (List Talk)) × (part : List Talk) × (parts ≡ before ++ part ∷ []) × (flat_map pdus_in part ≡ pdus link)

last_whole : (linked : Bool) (talk : List Talk) (up : Option Link) → Parted linked talk → (linkage talk).up ≡ option_map pdus up → LastIsWhole (parts talk) up
last_whole linked talk None parted is = tt
last_whole false talk (Some link) parted is = let never : None ≡ Some (pdus link) = sym (parted.down refl).1 ∙ is in absurd cc
last_whole true talk (Some link) parted is =
    let same : Some (flat_map pdus_in (now_from [] talk)) ≡ Some (pdus link) = sym (parted.up refl) ∙ is in (past_from [] talk, now_from [] talk, parts_are [] talk, cc)

-- and where no piece waits it has; and where no link is up none was by what it did
pub record TalkedSo {S G : Type 0} (U : Upper S G) (side : Side) (occasions : List (Occasion G)) (now : Lined S) : Type 0 where
  pub so : TalksAs U side occasions now.upper
  pub whole : now.line.pieces ≡ [] → LastIsWhole (parts so.talk) (link_up side (lone_capture side (units occasions)))
  pub off : link_up side (lone_capture side (units occasions)) ≡ None → up_behind false so.over.acts ≡ false
  -- on its last link it was told and said what its ticks have, and behind that what it did not put out
  pub unsent : List (List ℕ)
  pub timed_is : flat_map talk_outer (now_from [] so.talk) ≡ timed (ticks occasions) ++ map Gives unsent
  pub sent : now.line.pieces ≡ [] → unsent ≡ []

pub talked_so : {S G : Type 0} (U : Upper S G) (side : Side) (role : Role) (occasions : List (Occasion G)) (now : Lined S) → SaysFrames U → Runs U (ComesInTurn U) occasions (starting U role) now → TalkedSo U side occasions now
talked_so U side role occasions now frames runs =
    let at = all_talks U (AllByRecursion FiresNone occasions) frames role occasions now (λ still. still) runs in
    let capture = lone_capture side (units occasions) in
    let gone = at.talk ++ map Unsent at.waiting in
    let known = at.known ∙ lone_captured side (units occasions) in
    let links_are : all_links (linkage at.talk) ≡ map pdus (links side capture) = ap all_links known ∙ captured_links side capture in
    let all = went_all U Anyhow (is_some now.line.link) now.upper at.waiting at.talk at.acted in
    let up_is : link_up side capture ≡ (linking (units occasions)).up = ap (λ (list : List Move). (linking list).up) (lone_moves side (units occasions)) in
    let whole_is = last_whole (is_some now.line.link) at.talk (linking (units occasions)).up at.acted.parted (ap (λ (l : Linkage). l.up) at.known) in
    record {
      so = record {
        talk = gone;
        over = all.went.over;
        fall = subst (FallTo (parts gone)) links_are (all_fall (is_some now.line.link) at.talk at.waiting at.acted.down at.acted.parted);
        up = subst (LastIsUp (parts gone)) (sym up_is) (up_last (is_some now.line.link) at.talk at.waiting (linking (units occasions)).up at.acted.parted (ap (λ (l : Linkage). l.up) at.known));
        unfired = λ still. both_unfired at.talk (map Unsent at.waiting) (at.unfired still) (none_sent at.waiting);
      };
      whole = λ none.
          let silent = none_waits (begun_on (linking (units occasions)).up) now.line.pieces at.waiting none at.under_way in
          let same : at.talk ≡ gone = sym (append-nil at.talk) ∙ ap (λ (w : List (List ℕ)). at.talk ++ map Unsent w) (sym silent) in
          subst (LastIsWhole (parts gone)) (sym up_is) (subst (λ (t : List Talk). LastIsWhole (parts t) (linking (units occasions)).up) same whole_is);
      unsent = at.waiting;
      timed_is = now_timed [] gone ∙ (timed_unsent at.talk at.waiting ∙ ap (λ (l : List Occurrence). l ++ map Gives at.waiting) at.timed);
      sent = λ none. none_waits (begun_on (linking (units occasions)).up) now.line.pieces at.waiting none at.under_way;
      off = λ none. all.went.up_is ∙ ap is_some (sym at.line.stands.link ∙ ap (option_map (λ (l : Link). l.handle)) (sym up_is ∙ none));
    }

pub units_are_talk : {S G : Type 0} (U : Upper S G) → UnitsAreTalk U
units_are_talk U side role occasions now frames runs = (talked_so U side role occasions now frames runs).so
