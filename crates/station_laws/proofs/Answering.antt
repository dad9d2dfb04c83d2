-- Each answer of a controller does to a host in code what it does to its station.
use Rattle.std.proofs.Common.{◌≡◌, ℕ, ◌-◌, ◌<◌, ◌≤◌, ◌^◌, min, not, ◌&&◌, ◌==◌, nat_le, ltb, leb, Bool, true, false, List, [], ◌∷◌, ◌++◌, length, drop, map, fold, Option, Some, None, is_none, if◌then◌else◌, inl, inr, refl, sym, ap, ap₂, ◌∙◌, subst, arith, eqb}
use Rattle.std.specs.List.{list_any, AllByRecursion}
use Rattle.std.proofs.lemmas.Bool.{cases_Bool, le-ltb, le-leb, ne_eqb, eq-eqb}
use Rattle.byteorder.specs.Endian.{little_number}
use Rattle.turn_laws.specs.acl_fragments.specs.Pieces.{Piece}
use Rattle.turn_laws.specs.bt_base.specs.Octets.{le16}
use Rattle.turn_laws.specs.bt_base.specs.Numbers.{IsHandle}
use Rattle.turn_laws.specs.bt_base.proofs.OctetLemmas.{le16-number}
use Rattle.turn_laws.specs.hci_packets.specs.Events.{PlainEvent, code_of, event_params, entries_of, FitsEvent, AllowsEvent}
use Rattle.turn_laws.specs.acl_credits.specs.Ledgers.{Account, packets_of, without}
use Rattle.turn_laws.specs.push_terms.specs.declared.word.Side.{Side}
use Rattle.turn_laws.specs.push_terms.specs.declared.word.Side.TheVariants.{A, B}
use Rattle.turn_laws.specs.radio_model.specs.Controllers.{Answer, Returned, Stated, Called, LinkMade, LinkGone, GivenBack, address, other_side, event_of, answer_packet}
use Rattle.host_link.specs.declared.role.Role.{Role}
use Rattle.host_link.specs.declared.host_command.HostCommand.TheVariants.{AcceptConnection}
use Rattle.host_link.specs.declared.news.ControllerFault.{ControllerFault}
use Rattle.host_link.specs.EventReading.{event_in}
use Rattle.host_link.specs.Returning.{returned_by, completes, returned_fault}
use Rattle.host_link.specs.declared.returned.Returned as code_returned
use Rattle.host_link.specs.declared.returned.Returned.TheVariants.{Status, Buffers}
use Rattle.host_link.specs.CommandFlows.{Flow, is_number}
use Rattle.host_link.specs.CommandFlows as flows
use Rattle.host_link.specs.HostCommands as commands
use Rattle.host_link.specs.Lines.{Line}
use Rattle.host_link.specs.Hearing.{Nothing, LinkUp, LinkDown, fault_of, news_of, heard, unless_fault, event_fault, event_news, after_event, given_back}
use Rattle.host_link.specs.Hearing as code
use Rattle.host_link.proofs.Reading.{event_read}
use Rattle.host_link.proofs.Accounts.{given_shrinks}
use Rattle.turn_laws.specs.world_model.specs.Machines.{Up, Down, Linked, Upper}
use Rattle.turn_laws.specs.world_model.specs.Stations.{Order, Accept, Station, asks, is_handle, hears_answer}
use Rattle.turn_laws.specs.world_model.specs.Stations as stations
use Rattle.station_laws.specs.Seen.{order_of, AreFew, IsHostOf, Offers, station_of, IsStation}
use Rattle.station_laws.specs.Coming.{IsReturned, MayCome, news_of_link}
use Rattle.station_laws.specs.Laws.{HearsAnswer, AnswersAreHeard}
use Rattle.station_laws.proofs.Waiting.{one_asks, waits, map_one, all_more, same_accepts}
use Rattle.station_laws.proofs.Counting.{on_handle, at_most, none_off, none_left, total_same, given}

-- ---- the event is read

allowed_entry : (handle count : ℕ) → handle ≤ 0x0EFF → count < 2 ^ 16 → entries_of (le16 handle ++ le16 count) ≡ (handle, count) ∷ []
allowed_entry handle count is fits =
    let first : little_number 2 (le16 handle) ≡ handle = le16-number handle [] (omega (arith, is)) in
    let second : little_number 2 (le16 count) ≡ count = le16-number count [] fits in
    rw (first, second) refl

address_length : (side : Side) → length (address side) ≡ 6
address_length A = refl
address_length B = refl

read : (side : Side) (answer : Answer) → FitsEvent (event_of side answer) → AllowsEvent (event_of side answer)
    → Some (event_of side answer) ≡ event_in (code_of (event_of side answer)) (event_params (event_of side answer))
read side answer fits allowed =
    event_read (event_of side answer) (code_of (event_of side answer)) (event_params (event_of side answer))
    (record { number = refl; octets = refl; fits = fits; allowed = allowed })

-- so it is enough to know what the host makes of the event
hears_by : {S G : Type 0} (U : Upper S G) (side : Side) (gone : ℕ) (answer : Answer) (line : Line) (station : Station S)
    → FitsEvent (event_of side answer) → AllowsEvent (event_of side answer)
    → event_fault (Some (event_of side answer)) line ≡ None
    → event_news (Some (event_of side answer)) line ≡ news_of_link (stations.event_in answer station)
    → ((answers : List G) → IsStation side gone (after_event (Some (event_of side answer)) line) (hears_answer U answers side answer station))
    → HearsAnswer U side gone answer line station
hears_by U side gone answer line station fits allowed fault news stands =
    let known = read side answer fits allowed in
    let code : ℕ = code_of (event_of side answer) in
    let params : List ℕ = event_params (event_of side answer) in
    let fine : event_fault (event_in code params) line ≡ None = ap (λ (e : Option PlainEvent). event_fault e line) (sym known) ∙ fault in
    let same : heard (answer_packet side answer) line ≡ after_event (Some (event_of side answer)) line =
    ap (λ (f : Option ControllerFault). unless_fault f (after_event (event_in code params) line) line) fine ∙ ap (λ (e : Option PlainEvent). after_event e line) (sym known) in
    record {
      fault = fine;
      news = ap (λ (e : Option PlainEvent). event_news e line) (sym known) ∙ news;
      is_station = λ answers. subst (λ (new : Line). IsStation side gone new (hears_answer U answers side answer station)) (sym same) (stands answers);
    }

-- ---- a link is made

none_is : (link : Option ℕ) (other : ℕ) → is_none link ≡ true → link ≡ Some other → ⊥
none_is None other free up = cc
none_is (Some handle) other free up = cc

pub off_is : (link : Option ℕ) → is_none link ≡ true → link ≡ None
off_is None free = refl
off_is (Some handle) free = cc

made_news : (asked free : Bool) → (if asked then (if free then LinkUp else Nothing) else Nothing) ≡ news_of_link (if asked && free then Some Up else None)
made_news true true = refl
made_news true false = refl
made_news false free = refl

made_at : {S G : Type 0} (U : Upper S G) (answers : List G) (side : Side) (gone handle : ℕ) (upper : S) (out : List Order) (line : Line)
    → IsHostOf side line → Offers side gone out line.out
    → IsStation side gone (code.after_connection 0 handle line) (hears_answer U answers side (LinkMade handle) (station_of upper out line))
made_at U answers side gone handle upper out line host offers =
    elim (cases_Bool line.asked) [
      | inl asked ↦
          elim (cases_Bool (is_none line.link)) [
            | inl free ↦
                rw (asked, free) (record {
                  host = record {
                    role = host.role;
                    commands = host.commands;
                    few = host.few;
                    number = host.number;
                    alone = λ other some. absurd (none_is line.link other free (host.alone other some));
                    off = λ off. cc;
                  };
                  offers = offers;
                  seen = refl;
                })
            | inr busy ↦
                rw (asked, busy) (record {
                  host = record { role = host.role; commands = host.commands; few = host.few; number = host.number; alone = host.alone; off = host.off };
                  offers = offers;
                  seen = refl;
                })
          ]
      | inr unasked ↦
          rw unasked (record {
            host = record { role = host.role; commands = host.commands; few = host.few; number = host.number; alone = host.alone; off = host.off };
            offers = offers;
            seen = refl;
          })
    ]

-- ---- a link ends

gone_news : (ends : Bool) (reason : ℕ) → (if ends then LinkDown reason else Nothing) ≡ news_of_link (if ends then Some (Down reason) else None)
gone_news true reason = refl
gone_news false reason = refl

gone_at : {S G : Type 0} (U : Upper S G) (answers : List G) (side : Side) (gone handle reason : ℕ) (upper : S) (out : List Order) (line : Line)
    → IsHostOf side line → Offers side gone out line.out
    → IsStation side gone (code.after_disconnection 0 handle line) (hears_answer U answers side (LinkGone handle reason) (station_of upper out line))
gone_at U answers side gone handle reason upper out line host offers =
    elim (cases_Bool (is_handle handle line.link)) [
      | inl on ↦
          let none : packets_of (without handle line.ledger.held) ≡ 0 = none_left line.ledger.held line.link handle host.alone (on_handle handle line.link on) in
          rw on (record {
            host = record {
              role = host.role;
              commands = host.commands;
              few = host.few;
              number = host.number;
              alone = λ other some. let most = at_most (without handle line.ledger.held) other in absurd (omega arith);
              off = λ off. refl;
            };
            offers = offers;
            seen = ap (λ (n : ℕ). record (station_of (U.hear answers (Linked (Down reason)) upper) out line) { outstanding = n; link = None; ending = false; joining = []; pieces = [] }) (sym none);
          })
      | inr off ↦ rw off (record { host = host; offers = offers; seen = refl })
    ]

-- ---- packets are given back

one_field : {S : Type 0} (is : Bool) (n : ℕ) (station : Station S) → (if is then record station { outstanding = n } else station) ≡ record station { outstanding = if is then n else station.outstanding }
one_field true n station = refl
one_field false n station = refl

given_at : {S G : Type 0} (U : Upper S G) (answers : List G) (side : Side) (gone handle count : ℕ) (upper : S) (out : List Order) (line : Line)
    → IsHostOf side line → Offers side gone out line.out
    → IsStation side gone (record line { ledger = given_back line.ledger (handle, count) }) (hears_answer U answers side (GivenBack handle count) (station_of upper out line))
given_at {S} U answers side gone handle count upper out line host offers =
    let account : Account = given_back line.ledger (handle, count) in
    let shrinks = given_shrinks ((handle, count) ∷ []) line.ledger in
    let station : Station S = station_of upper out line in
    let back : Bool = is_handle handle line.link && nat_le count (packets_of line.ledger.held) in
    subst (λ (new : Station S). IsStation side gone (record line { ledger = account }) new)
    (sym (ap (λ (new : Station S). record new { upper = upper }) (one_field back (packets_of line.ledger.held - count) station)))
    (record {
      host = record {
        role = host.role;
        commands = host.commands;
        few = host.few;
        number = host.number;
        alone = λ other some. host.alone other (omega (arith, shrinks.on other));
        off = host.off;
      };
      offers = offers;
      seen = ap (λ (n : ℕ). record station { outstanding = n }) (sym (given line.ledger line.link handle count host.alone))
          ∙ ap (λ (n : ℕ). record station { total = n; outstanding = packets_of account.held }) (sym (total_same line.ledger (handle, count)));
    })

-- ---- a connection is requested

and_same : (a b c : Bool) → (a && b && c) ≡ (a && (b && c))
and_same true b c = refl
and_same false b c = refl

none_asks : (a b c : Bool) → (a && (b && not c)) ≡ true → c ≡ false
none_asks true true true may = cc
none_asks true true false may = refl
none_asks true false c may = cc
none_asks false b c may = cc

may_b : {S : Type 0} (upper : S) (out : List Order) (line : Line) → IsHostOf B line → code.may_accept 1 line ≡ stations.may_accept B (station_of upper out line)
may_b upper out line host =
    ap (λ (role : Role). code.is_server role && true && is_none line.link && not line.asked && not (list_any commands.accepts line.commands.waiting)) host.role
    ∙ and_same (is_none line.link) (not line.asked) (not (list_any commands.accepts line.commands.waiting))
    ∙ ap (λ (any : Bool). is_none line.link && (not line.asked && not any)) (same_accepts line.commands.waiting host.commands)

called_at : {S G : Type 0} (U : Upper S G) (answers : List G) (side : Side) (gone : ℕ) (upper : S) (out : List Order) (line : Line)
    → IsHostOf side line → Offers side gone out line.out
    → IsStation side gone (code.after_request (address (other_side side)) 1 line) (hears_answer U answers side Called (station_of upper out line))
called_at U answers A gone upper out line host offers =
    let never : code.may_accept 1 line ≡ false =
    ap (λ (role : Role). code.is_server role && true && is_none line.link && not line.asked && not (list_any commands.accepts line.commands.waiting)) host.role in
    rw never (record { host = host; offers = offers; seen = refl })
called_at {S} U answers B gone upper out line host offers =
    let same = may_b upper out line host in
    let station : Station S = station_of upper out line in
    elim (cases_Bool (stations.may_accept B station)) [
      | inl may ↦
          let none = none_asks (is_none line.link) (not line.asked) (list_any asks (map order_of line.commands.waiting)) may in
          let more = map_one line.commands.waiting (AcceptConnection (address A)) in
          rw (may, same ∙ may)
          (subst (λ (flow : Flow). IsStation B gone (code.with_flow flow line) (record station { waiting = station.waiting ++ Accept ∷ [] }))
          (sym (waits (AcceptConnection (address A)) line.commands host.few))
          (record {
            host = record {
              role = host.role;
              commands = all_more B line.commands.waiting (AcceptConnection (address A)) host.commands refl;
              few = subst AreFew (sym more) (one_asks Accept (map order_of line.commands.waiting) refl none host.few);
              number = host.number;
              alone = host.alone;
              off = host.off;
            };
            offers = offers;
            seen = ap (λ (waiting : List Order). record station { waiting = waiting }) (sym more);
          }))
      | inr may_not ↦ rw (may_not, same ∙ may_not) (record { host = host; offers = offers; seen = refl })
    ]

-- ---- commands are answered

-- the host after the command that was awaited
abbrev after : Line → Line
after line = code.with_flow (flows.answered 1 line.commands) line

after_host : (side : Side) (line : Line) → IsHostOf side line → IsHostOf side (after line)
after_host side line host = record { role = host.role; commands = host.commands; few = host.few; number = refl; alone = host.alone; off = host.off }

stated_host : (side : Side) (line : Line) → IsHostOf side line → IsHostOf side (code.with_flow (flows.stated 1 line.commands) line)
stated_host side line host = record { role = host.role; commands = host.commands; few = host.few; number = refl; alone = host.alone; off = host.off }

answered_it : (opcode : ℕ) (awaited : Option ℕ) → is_number opcode awaited ≡ true → stations.answered opcode awaited ≡ None
answered_it opcode None is = cc
answered_it opcode (Some number) is = rw is refl

answered_other : (opcode : ℕ) (awaited : Option ℕ) → is_number opcode awaited ≡ false → stations.answered opcode awaited ≡ awaited
answered_other opcode None is = refl
answered_other opcode (Some number) is = rw is refl

none_either : (is : Bool) → ◌≡◌ {A = Option ControllerFault} (if is then None else None) None
none_either true = refl
none_either false = refl

stated_at : {S G : Type 0} (U : Upper S G) (answers : List G) (side : Side) (gone opcode : ℕ) (upper : S) (out : List Order) (line : Line)
    → completes opcode ≡ false → IsHostOf side line → Offers side gone out line.out
    → IsStation side gone (code.after_status 1 opcode line) (hears_answer U answers side (Stated opcode) (station_of upper out line))
stated_at {S} U answers side gone opcode upper out line none host offers =
    let station : Station S = station_of upper out line in
    elim (cases_Bool (is_number opcode line.commands.awaited)) [
      | inl is ↦
          rw (is, none) (record {
            host = after_host side line host;
            offers = offers;
            seen = ap (λ (awaited : Option ℕ). record station { awaited = awaited }) (answered_it opcode line.commands.awaited is);
          })
      | inr other ↦
          rw other (record {
            host = stated_host side line host;
            offers = offers;
            seen = ap (λ (awaited : Option ℕ). record station { awaited = awaited }) (answered_other opcode line.commands.awaited other);
          })
    ]

stated_heard : {S G : Type 0} (U : Upper S G) (side : Side) (gone opcode : ℕ) (upper : S) (out : List Order) (line : Line)
    → opcode < 2 ^ 16 → completes opcode ≡ false → IsHostOf side line → Offers side gone out line.out
    → HearsAnswer U side gone (Stated opcode) line (station_of upper out line)
stated_heard U side gone opcode upper out line fits none host offers =
    hears_by U side gone (Stated opcode) line (station_of upper out line) fits tt (none_either (is_number opcode line.commands.awaited)) refl
    (λ answers. stated_at U answers side gone opcode upper out line none host offers)

-- what Reset and Write Scan Enable return, and Read BD_ADDR
address_read : (to : List ℕ) → length to ≡ 6 → returned_by 0x1009 (0 ∷ to) ≡ Status 0
address_read to long = rw long refl

success_at : {S G : Type 0} (U : Upper S G) (answers : List G) (side : Side) (gone opcode : ℕ) (params : List ℕ) (upper : S) (out : List Order) (line : Line)
    → (opcode == 0x1005) ≡ false → line.commands.awaited ≡ Some opcode → returned_by opcode params ≡ Status 0 → IsHostOf side line → Offers side gone out line.out
    → IsStation side gone (code.after_complete 1 opcode (returned_by opcode params) line) (hears_answer U answers side (Returned opcode params) (station_of upper out line))
success_at {S} U answers side gone opcode params upper out line other awaited is host offers =
    let station : Station S = station_of upper out line in
    let here : is_number opcode line.commands.awaited ≡ true = ap (λ (found : Option ℕ). is_number opcode found) awaited ∙ eq-eqb opcode opcode refl in
    rw (is, here, other) (record {
      host = after_host side line host;
      offers = offers;
      seen = ap (λ (found : Option ℕ). record station { awaited = found }) (answered_it opcode line.commands.awaited here);
    })

no_fault : (opcode : ℕ) (line : Line) (returned : code_returned.Returned) → line.commands.awaited ≡ Some opcode → returned_fault opcode returned ≡ None → code.complete_fault opcode returned line ≡ None
no_fault opcode line returned awaited fine =
    let here : is_number opcode line.commands.awaited ≡ true = ap (λ (found : Option ℕ). is_number opcode found) awaited ∙ eq-eqb opcode opcode refl in
    rw (here, fine) refl

success_heard : {S G : Type 0} (U : Upper S G) (side : Side) (gone opcode : ℕ) (params : List ℕ) (upper : S) (out : List Order) (line : Line)
    → opcode < 2 ^ 16 → (opcode == 0x1005) ≡ false → line.commands.awaited ≡ Some opcode → returned_by opcode params ≡ Status 0 → IsHostOf side line → Offers side gone out line.out
    → HearsAnswer U side gone (Returned opcode params) line (station_of upper out line)
success_heard U side gone opcode params upper out line fits other awaited is host offers =
    hears_by U side gone (Returned opcode params) line (station_of upper out line) fits tt
    (no_fault opcode line (returned_by opcode params) awaited (ap (λ returned. returned_fault opcode returned) is)) refl
    (λ answers. success_at U answers side gone opcode params upper out line other awaited is host offers)

-- what Read Buffer Size returns
abbrev buffers : (size count : ℕ) → List ℕ
buffers size count = 0 ∷ (le16 size ++ (0 ∷ (le16 count ++ le16 0)))

size_read : (size count : ℕ) → size < 2 ^ 16 → little_number 2 (drop 1 (buffers size count)) ≡ size
size_read size count fits = le16-number size (0 ∷ (le16 count ++ le16 0)) fits

count_read : (size count : ℕ) → count < 2 ^ 16 → little_number 2 (drop 4 (buffers size count)) ≡ count
count_read size count fits = le16-number count (le16 0) fits

buffers_read : (size count : ℕ) → size < 2 ^ 16 → count < 2 ^ 16 → returned_by 0x1005 (buffers size count) ≡ Buffers 0 size count
buffers_read size count size_fits count_fits =
    ap₂ (λ (one two : ℕ). Buffers 0 one two) (size_read size count size_fits) (count_read size count count_fits)

buffers_fine : (size count : ℕ) → 27 ≤ size → 1 ≤ count → returned_fault 0x1005 (Buffers 0 size count) ≡ None
buffers_fine size count long some =
    let is_long : ltb size 27 ≡ false = le-ltb size 27 long in
    let is_some : eqb count 0 ≡ false = ne_eqb count 0 (λ none. omega arith) in
    rw (is_long, is_some) refl

-- the station that learns them
learnt : {S : Type 0} (size count : ℕ) (station : Station S) → 27 ≤ size → size < 2 ^ 16 → count < 2 ^ 16
    → stations.learns (buffers size count) station ≡ (if is_none station.link then record station { size = min size 1021; total = min count 64 } else station)
learnt {S} size count station long size_fits count_fits =
    let long_enough : leb 27 size ≡ true = le-leb 27 size long in
    let free : Bool = is_none station.link in
    ap₂ (λ (one two : ℕ). if free && leb 27 one then record station { size = min one 1021; total = min two 64 } else station) (size_read size count size_fits) (count_read size count count_fits)
    ∙ ap (λ (b : Bool). if free && b then record station { size = min size 1021; total = min count 64 } else station) long_enough
    ∙ ap (λ (b : Bool). if b then record station { size = min size 1021; total = min count 64 } else station) (and_true free)
  where
    and_true : (b : Bool) → (b && true) ≡ b
    and_true true = refl
    and_true false = refl

learn_at : {S : Type 0} (side : Side) (gone size count : ℕ) (upper : S) (out : List Order) (line : Line) (station : Station S)
    → station ≡ station_of upper out line → IsHostOf side line → Offers side gone out line.out
    → IsStation side gone (code.learn size count line) (if is_none station.link then record station { size = min size 1021; total = min count 64 } else station)
learn_at {S} side gone size count upper out line station is host offers =
    subst (λ (s : Station S). IsStation side gone (code.learn size count line) (if is_none s.link then record s { size = min size 1021; total = min count 64 } else s)) (sym is)
    (elim (cases_Bool (is_none line.link)) [
      | inl free ↦
          let off = off_is line.link free in
          let one : Station S = record (station_of upper out line) { size = min size 1021; total = min count 64 } in
          rw free (record {
            host = record {
              role = host.role;
              commands = host.commands;
              few = host.few;
              number = host.number;
              alone = λ other some. absurd (omega arith);
              off = λ none. refl;
            };
            offers = offers;
            seen = ap₂ (λ (n : ℕ) (pieces : List Piece). record one { outstanding = n; pieces = pieces }) (none_off line.ledger.held line.link host.alone off) (host.off off);
          })
      | inr busy ↦ rw busy (record { host = host; offers = offers; seen = refl })
    ])

buffers_heard : {S G : Type 0} (U : Upper S G) (side : Side) (gone size count : ℕ) (upper : S) (out : List Order) (line : Line)
    → 27 ≤ size → 1 ≤ count → size < 2 ^ 16 → count < 2 ^ 16 → line.commands.awaited ≡ Some 0x1005 → IsHostOf side line → Offers side gone out line.out
    → HearsAnswer U side gone (Returned 0x1005 (buffers size count)) line (station_of upper out line)
buffers_heard {S} U side gone size count upper out line long some size_fits count_fits awaited host offers =
    let station : Station S = station_of upper out line in
    let params : List ℕ = buffers size count in
    let known = buffers_read size count size_fits count_fits in
    let here : is_number 0x1005 line.commands.awaited ≡ true = ap (λ (found : Option ℕ). is_number 0x1005 found) awaited in
    let answered : Station S = record station { awaited = None } in
    let one : stations.answered 0x1005 line.commands.awaited ≡ None = answered_it 0x1005 line.commands.awaited here in
    hears_by U side gone (Returned 0x1005 params) line station (omega arith) tt
    (no_fault 0x1005 line (returned_by 0x1005 params) awaited (ap (λ returned. returned_fault 0x1005 returned) known ∙ buffers_fine size count long some)) refl
    (λ answers.
    subst (λ (new : Line). IsStation side gone new (hears_answer U answers side (Returned 0x1005 params) station))
    (sym (ap (λ returned. code.after_complete 1 0x1005 returned line) known ∙ ap (λ (b : Bool). if b then code.learn size count (after line) else code.with_flow (flows.stated 1 line.commands) line) here))
    (subst (λ (new : Station S). IsStation side gone (code.learn size count (after line)) (record new { upper = upper }))
    (sym (ap (λ (found : Option ℕ). stations.learns params (record station { awaited = found })) one ∙ learnt size count answered long size_fits count_fits))
    (upper_same side gone upper (code.learn size count (after line)) (if is_none line.link then record answered { size = min size 1021; total = min count 64 } else answered) (kept_upper (is_none line.link) (min size 1021) (min count 64) answered)
    (learn_at side gone size count upper out (after line) answered refl (after_host side line host) offers))))
  where
    kept_upper : {S : Type 0} (free : Bool) (size count : ℕ) (station : Station S) → (if free then record station { size = size; total = count } else station).upper ≡ station.upper
    kept_upper true size count station = refl
    kept_upper false size count station = refl

    upper_same : {S : Type 0} (side : Side) (gone : ℕ) (upper : S) (line : Line) (station : Station S) → station.upper ≡ upper → IsStation side gone line station → IsStation side gone line (record station { upper = upper })
    upper_same {S} side gone upper line station is stands = subst (λ (s : S). IsStation side gone line (record station { upper = s })) is stands

-- ---- all of them

returned_heard : {S G : Type 0} (U : Upper S G) (side : Side) (gone opcode : ℕ) (params : List ℕ) (upper : S) (out : List Order) (line : Line)
    → IsReturned opcode params → line.commands.awaited ≡ Some opcode → IsHostOf side line → Offers side gone out line.out
    → HearsAnswer U side gone (Returned opcode params) line (station_of upper out line)
returned_heard {S} U side gone opcode params upper out line is awaited host offers =
    elim is [
      | inl reset ↦
          success_heard U side gone opcode params upper out line (omega (arith, reset.0)) (ap (λ (n : ℕ). n == 0x1005) reset.0) awaited (ap₂ returned_by reset.0 reset.1) host offers
      | inr more ↦
          elim more [
            | inl scan ↦
                success_heard U side gone opcode params upper out line (omega (arith, scan.0)) (ap (λ (n : ℕ). n == 0x1005) scan.0) awaited (ap₂ returned_by scan.0 scan.1) host offers
            | inr others ↦
                elim others [
                  | inl named ↦
                      success_heard U side gone opcode params upper out line (omega (arith, named.0)) (ap (λ (n : ℕ). n == 0x1005) named.0) awaited
                      (ap₂ returned_by named.0 named.3 ∙ address_read named.1 named.2) host offers
                  | inr known ↦
                      let station : Station S = station_of upper out line in
                      let they = known.1 in
                      subst (λ (n : ℕ). line.commands.awaited ≡ Some n → HearsAnswer U side gone (Returned n params) line station) (sym known.0)
                      (λ awaits. subst (λ (octets : List ℕ). HearsAnswer U side gone (Returned 0x1005 octets) line station) (sym they.are)
                      (buffers_heard U side gone they.size they.count upper out line they.long they.some they.size_fits they.count_fits awaits host offers)) awaited
                ]
          ]
    ]

hears_of : {S G : Type 0} (U : Upper S G) (side : Side) (gone : ℕ) (answer : Answer) (upper : S) (out : List Order) (line : Line)
    → MayCome line.commands.awaited answer → IsHostOf side line → Offers side gone out line.out
    → HearsAnswer U side gone answer line (station_of upper out line)
hears_of U side gone (Returned opcode params) upper out line may host offers = returned_heard U side gone opcode params upper out line may.0 may.1 host offers
hears_of U side gone (Stated opcode) upper out line may host offers =
    elim may [
      | inl page ↦ stated_heard U side gone opcode upper out line (omega (arith, page)) (ap completes page) host offers
      | inr more ↦
          elim more [
            | inl end ↦ stated_heard U side gone opcode upper out line (omega (arith, end)) (ap completes end) host offers
            | inr accept ↦ stated_heard U side gone opcode upper out line (omega (arith, accept)) (ap completes accept) host offers
          ]
    ]
hears_of U side gone Called upper out line may host offers =
    hears_by U side gone Called line (station_of upper out line) (address_length (other_side side)) (omega arith) refl refl
    (λ answers. called_at U answers side gone upper out line host offers)
hears_of U side gone (LinkMade handle) upper out line may host offers =
    hears_by U side gone (LinkMade handle) line (station_of upper out line) (omega arith, address_length (other_side side)) (λ success. may) refl
    (made_news line.asked (is_none line.link))
    (λ answers. made_at U answers side gone handle upper out line host offers)
hears_of U side gone (LinkGone handle reason) upper out line may host offers =
    hears_by U side gone (LinkGone handle reason) line (station_of upper out line) may tt refl
    (gone_news (is_handle handle line.link) reason)
    (λ answers. gone_at U answers side gone handle reason upper out line host offers)
hears_of U side gone (GivenBack handle count) upper out line may host offers =
    let entries = allowed_entry handle count may.0 may.1 in
    hears_by U side gone (GivenBack handle count) line (station_of upper out line) tt
    (refl, subst (λ (all : List (ℕ × ℕ)). AllByRecursion (λ entry. IsHandle entry.0) all) (sym entries) (may.0, tt)) refl refl
    (λ answers.
    subst (λ (all : List (ℕ × ℕ)). IsStation side gone (record line { ledger = fold given_back line.ledger all }) (hears_answer U answers side (GivenBack handle count) (station_of upper out line)))
    (sym entries) (given_at U answers side gone handle count upper out line host offers))

pub answers_are_heard : {S G : Type 0} (U : Upper S G) → AnswersAreHeard U
answers_are_heard {S} U side gone answer line station stands may =
    subst (λ (s : Station S). MayCome s.awaited answer → HearsAnswer U side gone answer line s) (sym stands.seen)
    (λ can. hears_of U side gone answer station.upper station.out line can stands.host stands.offers) may
