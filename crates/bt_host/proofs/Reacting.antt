-- What a host does, one thing after the other.
use Rattle.std.proofs.Common.{◌≡◌, ◌∙◌, ◌+◌, ◌==◌, not, nat_lt, ℕ, Bool, true, false, is_some, is_none, List, [], ◌∷◌, ◌++◌, length, take, drop, refl, sym, ap, subst, true≢false, append_assoc, arith, tests, if◌then◌else◌}
use Rattle.std.specs.Prelude.{Option, Some, None}
use Rattle.shelf_model.specs.acl_fragments.specs.Pieces.{Piece, pdu_length, starts}
use Rattle.shelf_model.specs.acl_fragments.specs.Answers as joined
use Rattle.h4_framing.specs.Packets.{Packet, Command, Acl, Sync, Event}
use Rattle.shelf_model.specs.hci_packets.specs.Events.{PlainEvent, ConnectionComplete, ConnectionRequest, DisconnectionComplete, CommandComplete, CommandStatus, CompletedPackets, Other}
use Rattle.host_link.specs.Calling.{may_end}
use Rattle.host_link.specs.EventReading.{event_in}
use Rattle.host_link.specs.Lines.{Line, longest_pdu}
use Rattle.host_link.specs.PuttingOut.{can_take_pdu, take_pdu, put_pieces, put_command, connecting, leaving, is_waiting}
use Rattle.host_link.specs.Hearing.{PlainNews, news_of, heard, piece_on, piece_news, joined_news, event_news, ends_link}
use Rattle.shelf_model.specs.host_model.specs.Circumstances.{Circumstance}
use Rattle.shelf_model.specs.host_model.specs.Profiles.{Profile}
use Rattle.shelf_model.specs.world_model.specs.Machines.{News}
use Rattle.shelf_model.specs.host_model.specs.Hosts.{Host, hear}
use Rattle.bt_base.specs.declared.settings.Settings.{Settings}
use Rattle.bt_host.specs.Calls.{Does, JoinAnswers}
use Rattle.bt_host.specs.Uppers.{Upward, asking, says, SaysInto, IsTitled, told_of, hears_told}
use Rattle.bt_host.specs.Stacks.{Stacked, Standing, standing, Deed, Putting, Saying, Ending, Paging, Commanding, DoesDeed, DoesAll, says_one, leaves, pages, with_line, goes_out, Leads, Reacts, Moment, IsResting, is_asking, with_host, after_packet}
use Rattle.bt_host.proofs.Calling.{does_map}
use Rattle.bt_host.proofs.Sayings.{front_is}
use Rattle.bt_host.proofs.Stepping.{said_one, left_now, paged_now}

does_all_then : {S : Type 0} (A : Profile S) (xs ys : List Deed) (a b c : Standing S) → DoesAll A xs a b → DoesAll A ys b c → DoesAll A (xs ++ ys) a c
does_all_then A [] ys a b c first second = subst (λ (s : Standing _). DoesAll A ys s c) first second
does_all_then A (deed ∷ xs) ys a b c (mid, one, more) second = (mid, one, does_all_then A xs ys mid b c more second)

module _ {S P : Type 0} (A : Profile S) (Answers : P → List Circumstance → P → Type 0) (join : JoinAnswers Answers) where
  -- a step that changes nothing
  pub reacts_none : (step : Profile S → Standing S → Standing S) (at : List Circumstance → Standing S) (port : P) → ((rest : List Circumstance) → step A (at rest) ≡ at rest) → Leads A Answers step at at port port
  reacts_none step at port still = record { used = []; answered = join.none port; deeds = []; reacts = λ rest. refl; exactly = still }

  -- one deed that asks no port
  pub reacts_deed : (step : Profile S → Standing S → Standing S) (deed : Deed) (before after : List Circumstance → Standing S) (port : P) → ((rest : List Circumstance) → DoesDeed A deed (before rest) (after rest))
      → ((rest : List Circumstance) → step A (before rest) ≡ after rest) → Leads A Answers step before after port port
  reacts_deed step deed before after port does exactly = record { used = []; answered = join.none port; deeds = deed ∷ []; reacts = λ rest. (after rest, does rest, refl); exactly = exactly }

  -- one step behind the other
  pub reacts_then : (one two : Profile S → Standing S → Standing S) (before mid after : List Circumstance → Standing S) (first second third : P) → Leads A Answers one before mid first second → Leads A Answers two mid after second third
      → Leads A Answers (λ B now. two B (one B now)) before after first third
  reacts_then one two before mid after first second third x y = record {
    used = x.used ++ y.used;
    answered = join.then first second third x.used y.used x.answered y.answered;
    deeds = x.deeds ++ y.deeds;
    reacts = λ rest.
        does_all_then A x.deeds y.deeds (before ((x.used ++ y.used) ++ rest)) (mid (y.used ++ rest)) (after rest)
        (subst (λ xs. DoesAll A x.deeds (before xs) (mid (y.used ++ rest))) (sym (append_assoc x.used y.used rest)) (x.reacts (y.used ++ rest))) (y.reacts rest);
    exactly = λ rest. ap (λ xs. two A (one A (before xs))) (append_assoc x.used y.used rest) ∙ ap (two A) (x.exactly (y.used ++ rest)) ∙ y.exactly rest;
  }

  -- a change comes first
  pub reacts_after : (step : Profile S → Standing S → Standing S) (before mid after : List Circumstance → Standing S) (first second third : P) → Does Answers before mid first second → Leads A Answers step mid after second third → Leads A Answers step before after first third
  reacts_after step before mid after first second third x y = record {
    used = x.used ++ y.used;
    answered = join.then first second third x.used y.used x.answered y.answered;
    deeds = y.deeds;
    reacts = λ rest.
        subst (λ (s : Standing S). DoesAll A y.deeds s (after rest)) (sym (ap before (append_assoc x.used y.used rest) ∙ x.does (y.used ++ rest))) (y.reacts rest);
    exactly = λ rest. ap (step A) (ap before (append_assoc x.used y.used rest) ∙ x.does (y.used ++ rest)) ∙ y.exactly rest;
  }

  -- steps that lead to the same place
  pub reacts_as : (one two : Profile S → Standing S → Standing S) (before after : List Circumstance → Standing S) (first last : P) → ((now : Standing S) → two A now ≡ one A now) → Leads A Answers one before after first last → Leads A Answers two before after first last
  reacts_as one two before after first last same x = record {
    used = x.used;
    answered = x.answered;
    deeds = x.deeds;
    reacts = x.reacts;
    exactly = λ rest. same (before (x.used ++ rest)) ∙ x.exactly rest;
  }

-- ---- a PDU is said

pub said_reacts : {E S P : Type 0} (A : Profile S) (Answers : P → List Circumstance → P → Type 0) (pushing : E → P → List Circumstance → S) (paged : List ℕ) (line line' : Line) (upper upper' : Upward E) (into into' : List ℕ) (size : ℕ) (first last : P)
    → SaysInto A Answers (asking pushing first upper) (asking pushing last upper') first last into size into' → can_take_pdu line ≡ true → line' ≡ take_pdu (take size into') line
    → Leads A Answers says_one (standing pushing first (record { line = line; upper = upper; paged = paged })) (standing pushing last (record { line = line'; upper = upper'; paged = paged })) first last
said_reacts {E} {S} {P} A Answers pushing paged line line' upper upper' into into' size first last s may is =
    let taken : line' ≡ take_pdu s.pdu line = is ∙ ap (λ xs. take_pdu xs line) (ap (take size) s.written ∙ front_is s.pdu (drop size into) size s.size_is) in
    record {
      used = s.says.used;
      answered = s.says.answered;
      deeds = Saying s.pdu ∷ [];
      reacts = λ rest. (record { line = line'; host = asking pushing last upper' rest; paged = paged }, record { may = may; next = s.says.does rest; line = taken; paged = refl }, refl);
      exactly = λ rest.
          said_one A (record { line = line; host = asking pushing first upper (s.says.used ++ rest); paged = paged }) (asking pushing last upper' rest) s.pdu may (s.says.does rest)
          ∙ ap (λ (l : Line). record { line = l; host = asking pushing last upper' rest; paged = paged }) (sym taken);
    }

-- ---- all is said

none_left : (pieces : List Piece) → not (length pieces == 0) ≡ false → pieces ≡ []
none_left [] off = refl
none_left (piece ∷ pieces) off = absurd (let some : (length (piece ∷ pieces) == 0) ≡ false = grind (arith, tests) in true≢false (sym (ap not some) ∙ off))

no_link : (link : Option ℕ) → is_some link ≡ false → link ≡ None
no_link None off = refl
no_link (Some handle) off = absurd (true≢false off)

module _ {E S P : Type 0} (A : Profile S) (Answers : P → List Circumstance → P → Type 0) (join : JoinAnswers Answers) (pushing : E → P → List Circumstance → S) where
  -- one deed that changes the line alone
  line_reacts : (step : Profile S → Standing S → Standing S) (deed : Deed) (line line' : Line) (upper : Upward E) (paged : List ℕ) (now : Stacked E) (port : P) → record { line = line; upper = upper; paged = paged } ≡ now
      → ((rest : List Circumstance) → DoesDeed A deed (standing pushing port (record { line = line; upper = upper; paged = paged }) rest) (record { line = line'; host = asking pushing port upper rest; paged = paged }))
      → ((rest : List Circumstance) → step A (standing pushing port (record { line = line; upper = upper; paged = paged }) rest) ≡ record { line = line'; host = asking pushing port upper rest; paged = paged })
      → Leads A Answers step (standing pushing port now) (standing pushing port (record { line = line'; upper = upper; paged = paged })) port port
  line_reacts step deed line line' upper paged now port view does exactly =
      subst (λ (n : Stacked E). Leads A Answers step (standing pushing port n) (standing pushing port (record { line = line'; upper = upper; paged = paged })) port port) view
      (reacts_deed A Answers join step deed _ _ port does exactly)

  -- the end of the link waits to be put out
  pub left_reacts : (line line' : Line) (upper : Upward E) (paged : List ℕ) (now : Stacked E) (port : P) → record { line = line; upper = upper; paged = paged } ≡ now
      → may_end line ≡ true → is_waiting line ≡ false → says upper ≡ false → ((rest : List Circumstance) → A.leaves_link (pushing upper.end port rest) ≡ true) → line' ≡ leaving line.link line
      → Leads A Answers leaves (standing pushing port now) (standing pushing port (record { line = line'; upper = upper; paged = paged })) port port
  left_reacts line line' upper paged now port view may none_waits none leaves_it is =
      line_reacts leaves Ending line line' upper paged now port view
      (λ rest. (record { none_waits = none_left line.pieces none_waits; all_said = none; leaves = leaves_it rest; may = may }, ap (λ (l : Line). record { line = l; host = asking pushing port upper rest; paged = paged }) is))
      (λ rest. left_now A (standing pushing port (record { line = line; upper = upper; paged = paged }) rest) may none_waits none (leaves_it rest) ∙ ap (λ (l : Line). record { line = l; host = asking pushing port upper rest; paged = paged }) (sym is))

  -- a link is asked for
  pub paged_reacts : (line line' : Line) (upper : Upward E) (paged : List ℕ) (now : Stacked E) (port : P) → record { line = line; upper = upper; paged = paged } ≡ now
      → is_some line.link ≡ false → is_asking line ≡ false → ((rest : List Circumstance) → A.wants_link (pushing upper.end port rest) ≡ true) → line' ≡ connecting paged line
      → Leads A Answers pages (standing pushing port now) (standing pushing port (record { line = line'; upper = upper; paged = paged })) port port
  paged_reacts line line' upper paged now port view off unasked wants is =
      line_reacts pages Paging line line' upper paged now port view
      (λ rest. (record { off = no_link line.link off; unasked = unasked; wants = wants rest }, ap (λ (l : Line). record { line = l; host = asking pushing port upper rest; paged = paged }) is))
      (λ rest. paged_now A (standing pushing port (record { line = line; upper = upper; paged = paged }) rest) off unasked (wants rest) ∙ ap (λ (l : Line). record { line = l; host = asking pushing port upper rest; paged = paged }) (sym is))

  -- pieces are put out, and a command
  pub pieces_react : (line line' : Line) (upper : Upward E) (paged : List ℕ) (now : Stacked E) (port : P) → record { line = line; upper = upper; paged = paged } ≡ now → line' ≡ put_pieces line
      → Leads A Answers (λ B. with_line put_pieces) (standing pushing port now) (standing pushing port (record { line = line'; upper = upper; paged = paged })) port port
  pieces_react line line' upper paged now port view is =
      line_reacts (λ B. with_line put_pieces) Putting line line' upper paged now port view (λ rest. ap (λ (l : Line). record { line = l; host = asking pushing port upper rest; paged = paged }) is)
      (λ rest. ap (λ (l : Line). record { line = l; host = asking pushing port upper rest; paged = paged }) (sym is))

  pub command_reacts : (line line' : Line) (upper : Upward E) (paged : List ℕ) (now : Stacked E) (port : P) → record { line = line; upper = upper; paged = paged } ≡ now → line' ≡ put_command line
      → Leads A Answers (λ B. with_line put_command) (standing pushing port now) (standing pushing port (record { line = line'; upper = upper; paged = paged })) port port
  command_reacts line line' upper paged now port view is =
      line_reacts (λ B. with_line put_command) Commanding line line' upper paged now port view (λ rest. ap (λ (l : Line). record { line = l; host = asking pushing port upper rest; paged = paged }) is)
      (λ rest. ap (λ (l : Line). record { line = l; host = asking pushing port upper rest; paged = paged }) (sym is))

-- ---- a PDU is told with its own channel

titled_if : (test : Bool) (a b : PlainNews) → IsTitled a → IsTitled b → IsTitled (if test then a else b)
titled_if true a b first second = first
titled_if false a b first second = second

titled_or : (test : Bool) (a b : joined.Answer) → IsTitled (joined_news a) → IsTitled (joined_news b) → IsTitled (joined_news (if test then a else b))
titled_or true a b first second = first
titled_or false a b first second = second

titled_start : (limit : ℕ) (piece : List ℕ) → IsTitled (joined_news (joined.start_answer limit piece))
titled_start limit piece =
    titled_or (nat_lt (length piece) 4) _ _ tt (titled_or (nat_lt (pdu_length piece) (length piece)) _ _ tt (titled_or (nat_lt limit (pdu_length piece)) _ _ tt (titled_or (pdu_length piece == length piece) _ _ refl tt)))

titled_next : (held piece : List ℕ) → IsTitled (joined_news (joined.next_answer held piece))
titled_next held piece =
    titled_or (length held == 0) _ _ tt (titled_or (nat_lt (pdu_length held) (length held + length piece)) _ _ tt (titled_or (pdu_length held == length held + length piece) _ _ refl tt))

titled_piece : (piece : Option Piece) (line : Line) → IsTitled (piece_news piece line)
titled_piece None line = tt
titled_piece (Some piece) line = titled_or (starts piece.boundary) _ _ (titled_start longest_pdu piece.octets) (titled_next line.joining piece.octets)

titled_event : (event : Option PlainEvent) (line : Line) → IsTitled (event_news event line)
titled_event None line = tt
titled_event (Some (ConnectionComplete status handle address kind encryption)) line =
    titled_if line.asked _ _ (titled_if (status == 0) _ _ (titled_if (is_none line.link) _ _ tt tt) tt) tt
titled_event (Some (ConnectionRequest address class kind)) line = tt
titled_event (Some (DisconnectionComplete status handle reason)) line = titled_if (ends_link status handle line) _ _ tt tt
titled_event (Some (CommandComplete number opcode returned)) line = tt
titled_event (Some (CommandStatus status number opcode)) line = tt
titled_event (Some (CompletedPackets count entries)) line = tt
titled_event (Some (Other code params)) line = tt

-- whatever comes in
pub titled : (packet : Packet) (line : Line) → IsTitled (news_of packet line)
titled (Event code params) line = titled_event (event_in code params) line
titled (Command opcode params) line = titled_piece (piece_on line.link (Command opcode params)) line
titled (Acl word octets) line = titled_piece (piece_on line.link (Acl word octets)) line
titled (Sync word octets) line = titled_piece (piece_on line.link (Sync word octets)) line

-- ---- what comes in

-- a change of what stands above comes first
pub told_reacts : {E S P : Type 0} (A : Profile S) (Answers : P → List Circumstance → P → Type 0) (join : JoinAnswers Answers) (pushing : E → P → List Circumstance → S) (change : List Circumstance → Host S → Host S) (line : Line) (upper upper' : Upward E)
    (paged : List ℕ) (now : Stacked E) (after : List Circumstance → Standing S) (first second third : P) → record { line = line; upper = upper; paged = paged } ≡ now
    → Does Answers (λ rest. change rest (asking pushing first upper rest)) (asking pushing second upper') first second
    → Reacts A Answers (standing pushing second (record { line = line; upper = upper'; paged = paged })) after second third
    → Reacts A Answers (λ rest. with_host (change rest (asking pushing first now.upper rest)) (standing pushing first now rest)) after first third
told_reacts A Answers join pushing change line upper upper' paged now after first second third view does reacts =
    subst (λ (n : Stacked _). Reacts A Answers (λ rest. with_host (change rest (asking pushing first n.upper rest)) (standing pushing first n rest)) after first third) view
    (reacts_after A Answers join goes_out _ (standing pushing second (record { line = line; upper = upper'; paged = paged })) after first second third
    (does_map Answers (λ (h : Host _). record { line = line; host = h; paged = paged }) _ _ first second does) reacts)

-- a packet comes first
pub packet_reacts : {E S P : Type 0} (A : Profile S) (Answers : P → List Circumstance → P → Type 0) (join : JoinAnswers Answers) (pushing : E → P → List Circumstance → S) (packet : Packet) (news : PlainNews) (line line' : Line) (upper upper' : Upward E)
    (paged : List ℕ) (now : Stacked E) (after : List Circumstance → Standing S) (first second third : P) → record { line = line; upper = upper; paged = paged } ≡ now → line' ≡ heard packet line → news ≡ news_of packet line
    → Does Answers (λ rest. hears_told A rest (told_of news) (asking pushing first upper rest)) (asking pushing second upper') first second
    → Reacts A Answers (standing pushing second (record { line = line'; upper = upper'; paged = paged })) after second third
    → Reacts A Answers (λ rest. after_packet A packet rest (standing pushing first now rest)) after first third
packet_reacts A Answers join pushing packet news line line' upper upper' paged now after first second third view line_is news_is does reacts =
    subst (λ (n : Stacked _). Reacts A Answers (λ rest. after_packet A packet rest (standing pushing first n rest)) after first third) view
    (subst (λ (l : Line). Reacts A Answers (λ rest. record { line = l; host = hears_told A rest (told_of (news_of packet line)) (asking pushing first upper rest); paged = paged }) after first third) line_is
    (subst (λ (k : PlainNews). Reacts A Answers (λ rest. record { line = line'; host = hears_told A rest (told_of k) (asking pushing first upper rest); paged = paged }) after first third) news_is
    (reacts_after A Answers join goes_out _ (standing pushing second (record { line = line'; upper = upper'; paged = paged })) after first second third
    (does_map Answers (λ (h : Host _). record { line = line'; host = h; paged = paged }) _ _ first second does) reacts)))

pub reacts_by : {S P : Type 0} (profile : Settings → Profile S) (Answers : P → List Circumstance → P → Type 0) (step : Profile S → Standing S → Standing S) (s s' : Settings) (before after : List Circumstance → Standing S) (port port' : P) → s ≡ s'
    → Leads (profile s) Answers step before after port port' → Leads (profile s') Answers step before after port port'
reacts_by profile Answers step s s' before after port port' same x = subst (λ (k : Settings). Leads (profile k) Answers step before after port port') same x

pub does_by : {S P : Type 0} (profile : Settings → Profile S) (Answers : P → List Circumstance → P → Type 0) (s s' : Settings) (news : News) (host after : List Circumstance → Host S) (port port' : P) → s ≡ s'
    → Does Answers (λ rest. hear (profile s) rest news (host rest)) after port port' → Does Answers (λ rest. hear (profile s') rest news (host rest)) after port port'
does_by profile Answers s s' news host after port port' same x = subst (λ (k : Settings). Does Answers (λ rest. hear (profile k) rest news (host rest)) after port port') same x

pub resting_by : {E S P : Type 0} (profile : Settings → Profile S) (pushing : E → P → List Circumstance → S) (s s' : Settings) (now : Moment E P) → s ≡ s' → IsResting (profile s) pushing now → IsResting (profile s') pushing now
resting_by profile pushing s s' now same x = subst (λ (k : Settings). IsResting (profile k) pushing now) same x

pub viewed_reacts : {E S P : Type 0} (profile : Settings → Profile S) (Answers : P → List Circumstance → P → Type 0) (pushing : E → P → List Circumstance → S) (step : Profile S → Standing S → Standing S) (line : Line) (upper : Upward E) (paged : List ℕ) (now : Stacked E)
    (after : List Circumstance → Standing S) (port port' : P) → record { line = line; upper = upper; paged = paged } ≡ now
    → Leads (profile upper.machine.settings) Answers step (standing pushing port (record { line = line; upper = upper; paged = paged })) after port port'
    → Leads (profile now.upper.machine.settings) Answers step (standing pushing port now) after port port'
viewed_reacts profile Answers pushing step line upper paged now after port port' view x = subst (λ (n : Stacked _). Leads (profile n.upper.machine.settings) Answers step (standing pushing port n) after port port') view x

pub packet_heard : {E S P : Type 0} (profile : Settings → Profile S) (Answers : P → List Circumstance → P → Type 0) (join : JoinAnswers Answers) (pushing : E → P → List Circumstance → S) (packet : Packet) (news : PlainNews) (line line' : Line) (upper upper' : Upward E)
    (paged : List ℕ) (now : Stacked E) (after : List Circumstance → Standing S) (first second third : P) → record { line = line; upper = upper; paged = paged } ≡ now → line' ≡ heard packet line → news ≡ news_of packet line → upper'.machine.settings ≡ upper.machine.settings
    → Does Answers (λ rest. hears_told (profile upper.machine.settings) rest (told_of news) (asking pushing first upper rest)) (asking pushing second upper') first second
    → Reacts (profile upper'.machine.settings) Answers (standing pushing second (record { line = line'; upper = upper'; paged = paged })) after second third
    → Reacts (profile now.upper.machine.settings) Answers (λ rest. after_packet (profile now.upper.machine.settings) packet rest (standing pushing first now rest)) after first third
packet_heard profile Answers join pushing packet news line line' upper upper' paged now after first second third view line_is news_is same does reacts =
    subst (λ (n : Stacked _). Reacts (profile n.upper.machine.settings) Answers (λ rest. after_packet (profile n.upper.machine.settings) packet rest (standing pushing first n rest)) after first third) view
    (packet_reacts (profile upper.machine.settings) Answers join pushing packet news line line' upper upper' paged (record { line = line; upper = upper; paged = paged }) after first second third refl line_is news_is does
    (reacts_by profile Answers goes_out upper'.machine.settings upper.machine.settings _ after second third same reacts))
