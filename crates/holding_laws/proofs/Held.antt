-- Whatever happens to a host, its channels are those of a run to which happened what its units say, each PDU of its own given before it is out.
use Rattle.std.proofs.Common.{◌≡◌, ℕ, ◌+◌, ◌*◌, ◌==◌, ◌||◌, ◌&&◌, ◌≤◌, Bool, true, false, cond, List, [], ◌∷◌, ◌++◌, map, length, fold, Option, Some, None, is_none, if◌then◌else◌, refl, sym, ap, ap₂, subst, ◌∙◌, append_assoc, arith}
use Rattle.std.specs.List.{AllByRecursion, filter_map, flat_map}
use Rattle.std.specs.Option.{option_map}
use Rattle.std.proofs.lemmas.Bool.{eq-eqb}
use Rattle.std.proofs.lemmas.List.{append-nil}
use Rattle.std.proofs.lemmas.List.Concat.{flat_map-append}
use Rattle.std.proofs.lemmas.List.Elements.{filter_map-append}
use Rattle.std.proofs.lemmas.List.Sums.{fold-append}
use Rattle.call_laws.specs.bt_host.specs.capture.specs.declared.flow.Flow.TheVariants.{Out, Into}
use Rattle.call_laws.specs.bt_host.specs.capture.specs.Links.{Link, Linking, Asked, NoNews, longer, gone_on, after_news, after_move, linking}
use Rattle.call_laws.specs.bt_host.specs.capture.specs.Moves.{Move}
use Rattle.call_laws.specs.bt_host.specs.capture.specs.Pdus.{pdu_limit, piece_of}
use Rattle.call_laws.specs.bt_host.specs.channel_model.specs.Policies.{Policy}
use Rattle.call_laws.specs.bt_host.specs.channel_model.specs.Value.{Channels, no_channels}
use Rattle.call_laws.specs.bt_host.specs.host_link.specs.Hearing.{PlainNews, Nothing, LinkUp, LinkFailed, LinkDown, Pdu, news_of, heard}
use Rattle.call_laws.specs.bt_host.specs.host_link.specs.HostCommands.{command_of, command_packet}
use Rattle.call_laws.specs.bt_host.specs.host_link.specs.Lines.{Line, fresh}
use Rattle.call_laws.specs.bt_host.specs.host_link.specs.PuttingOut.{piece_packet}
use Rattle.call_laws.specs.bt_host.specs.host_link.specs.Stands.{into, out_of}
use Rattle.call_laws.specs.bt_host.specs.host_link.specs.declared.host_command.HostCommand.{HostCommand}
use Rattle.call_laws.specs.bt_host.specs.host_link.specs.declared.role.Role.{Role}
use Rattle.call_laws.specs.bt_host.specs.host_model.specs.Circumstances.{Circumstance}
use Rattle.call_laws.specs.bt_host.specs.host_model.specs.Hosts.{Host}
use Rattle.call_laws.specs.bt_host.specs.host_model.specs.Machines.{upper}
use Rattle.call_laws.specs.bt_host.specs.host_model.specs.Profiles.{Profile}
use Rattle.call_laws.specs.bt_host.specs.host_model.proofs.Orderly.{says_frames}
use Rattle.call_laws.specs.unit_laws.specs.scenario_laws.specs.acl_fragments.specs.Answers.{Answer, Pdu as Whole, More, Dropped, answer}
use Rattle.call_laws.specs.unit_laws.specs.scenario_laws.specs.acl_fragments.specs.Pieces.{Piece, starts}
use Rattle.call_laws.specs.unit_laws.specs.scenario_laws.specs.bt_base.specs.Numbers.{IsHandle}
use Rattle.call_laws.specs.unit_laws.specs.scenario_laws.specs.capture.proofs.MoreLaws.{links-more}
use Rattle.call_laws.specs.unit_laws.specs.scenario_laws.specs.channel_laws.specs.Runs.{Occurrence, Comes as Enters, Gives, Fires}
use Rattle.call_laws.specs.unit_laws.specs.scenario_laws.specs.h4_framing.specs.Packets.{Packet, Acl}
use Rattle.call_laws.specs.unit_laws.specs.scenario_laws.specs.hci_packets.specs.AclWords.{flag_of, acl_word_of}
use Rattle.call_laws.specs.unit_laws.specs.scenario_laws.specs.hci_packets.specs.Commands.{command_refusal, opcode_of, command_params}
use Rattle.call_laws.specs.unit_laws.specs.scenario_laws.specs.hci_packets.specs.declared.acl.Boundary.{Boundary}
use Rattle.call_laws.specs.unit_laws.specs.scenario_laws.specs.hci_packets.specs.declared.acl.Boundary.TheVariants.{First, Continuing, FirstFromController}
use Rattle.call_laws.specs.unit_laws.specs.scenario_laws.specs.host_laws.specs.Acts.{from_news}
use Rattle.call_laws.specs.unit_laws.specs.scenario_laws.specs.host_laws.specs.Calls.{Asks, from_call, outer}
use Rattle.call_laws.specs.unit_laws.specs.scenario_laws.specs.turn_laws.proofs.Joining.{completions, cut_comes}
use Rattle.call_laws.specs.unit_laws.specs.scenario_laws.specs.turn_laws.proofs.Linkages.{moved_none}
use Rattle.call_laws.specs.unit_laws.specs.scenario_laws.specs.turn_laws.proofs.Showing.{piece_packet_is}
use Rattle.call_laws.specs.unit_laws.specs.scenario_laws.specs.world_model.specs.Machines.{Upper, News, LinkEvent, Up, Down, Linked, Failed, Heard, TimerFired, Cancelled, Opening}
use Rattle.call_laws.specs.unit_laws.specs.scenario_laws.specs.world_model.specs.PerLink.{Linkage, with_moved, link_begins, link_ends}
use Rattle.call_laws.specs.unit_laws.specs.scenario_laws.specs.world_model.specs.Stations.{whole_in, gives, holds}
use Rattle.call_laws.specs.unit_laws.specs.Timed.{Tick, Timed, news_ticks, ticks_of, ticks, passed, timed_on, pdus_up, timed_after}
use Rattle.call_laws.specs.unit_laws.specs.Units.{Lined, Occasion, Comes, Learns, Says, Puts, Commands, Waits, units_of, units, hears_line, IsOwnNews, SaysNext, PutsPiece, PutsCommand, Happens, Runs}
use Rattle.call_laws.specs.unit_laws.proofs.Hearing.{ShownBy, heard_shown}
use Rattle.call_laws.specs.unit_laws.proofs.Lining.{LineAs, heard_line}
use Rattle.call_laws.specs.unit_laws.proofs.Running.{LineAt, happens_line}
use Rattle.call_laws.specs.unit_laws.proofs.Shown.{shown, begun_on, OnUp, always_up, Completes, completes_none, completes_one, goes_on, begun_stays, begun_more}
use Rattle.call_laws.specs.unit_laws.proofs.Timing.{timed_same, timed_moved, timed_down, timed_up, none_shown, some_shown, occasion_timed}
use Rattle.holding_laws.specs.Incidents.{Incident, CameWhole, WasFired, WasGiven, WasSent, in_channels, in_units, GoOneByOne}
use Rattle.holding_laws.proofs.Becoming.{Becomes, IsRunTo, comes_none, comes_on, hears_becomes, turns_become, says_becomes}

-- ---- one PDU under way

one_by_one-append : (before mid after : List (List ℕ)) (xs ys : List Incident) → GoOneByOne before xs mid → GoOneByOne mid ys after → GoOneByOne before (xs ++ ys) after
one_by_one-append before mid after [] ys first second = subst (λ (w : List (List ℕ)). GoOneByOne w ys after) first second
one_by_one-append before mid after (CameWhole pdu ∷ xs) ys first second = one_by_one-append before mid after xs ys first second
one_by_one-append before mid after (WasFired ∷ xs) ys first second = one_by_one-append before mid after xs ys first second
one_by_one-append before mid after (WasGiven pdu ∷ xs) ys first second = (first.0, one_by_one-append (pdu ∷ []) mid after xs ys first.1 second)
one_by_one-append before mid after (WasSent pdu ∷ xs) ys first second = (first.0, one_by_one-append [] mid after xs ys first.1 second)

-- What happened on the link: of each thing there is what it is to the channels, and what it is by the units. Where `F` holds it came when no PDU was under
-- way, so both are in one order.
pub record InStep (F : Type 0) (seen acted : List Occurrence) (under_way : List (List ℕ)) : Type 0 where
  pub incidents : List Incident
  pub seen_is : seen ≡ flat_map in_units incidents
  pub acted_is : acted ≡ flat_map in_channels incidents
  pub one_by_one : GoOneByOne [] incidents under_way
  pub few : length under_way ≤ 1
  pub in_order : F → acted ≡ seen ++ map Gives under_way

none_yet : (F : Type 0) → InStep F [] [] []
none_yet F = record { incidents = []; seen_is = refl; acted_is = refl; one_by_one = refl; few = omega arith; in_order = λ so. refl }

-- more happens
steps_on : (F : Type 0) (seen acted : List Occurrence) (under_way left : List (List ℕ)) (more : List Incident) → (step : InStep F seen acted under_way) → GoOneByOne under_way more left → length left ≤ 1
    → (F → acted ++ flat_map in_channels more ≡ (seen ++ flat_map in_units more) ++ map Gives left) → InStep F (seen ++ flat_map in_units more) (acted ++ flat_map in_channels more) left
steps_on F seen acted under_way left more step goes few order = record {
  incidents = step.incidents ++ more;
  seen_is = ap (λ (l : List Occurrence). l ++ flat_map in_units more) step.seen_is ∙ sym (flat_map-append in_units step.incidents more);
  acted_is = ap (λ (l : List Occurrence). l ++ flat_map in_channels more) step.acted_is ∙ sym (flat_map-append in_channels step.incidents more);
  one_by_one = one_by_one-append [] under_way left step.incidents more step.one_by_one goes;
  few = few;
  in_order = order;
}

-- nothing more
same_so : (seen acted : List Occurrence) (under_way : List (List ℕ)) → acted ≡ seen ++ map Gives under_way → acted ++ [] ≡ (seen ++ []) ++ map Gives under_way
same_so seen acted under_way is = append-nil acted ∙ (is ∙ ap (λ (l : List Occurrence). l ++ map Gives under_way) (sym (append-nil seen)))

none_behind : (seen acted : List Occurrence) (under_way : List (List ℕ)) → acted ≡ seen ++ map Gives under_way → under_way ≡ [] → acted ≡ seen
none_behind seen acted under_way is none = is ∙ (ap (λ (w : List (List ℕ)). seen ++ map Gives w) none ∙ append-nil seen)

-- both are the same, where nothing is under way
both_so : (seen acted : List Occurrence) (under_way : List (List ℕ)) (one : Occurrence) → acted ≡ seen ++ map Gives under_way → under_way ≡ [] → acted ++ one ∷ [] ≡ (seen ++ one ∷ []) ++ map Gives under_way
both_so seen acted under_way one is none =
    ap (λ (l : List Occurrence). l ++ one ∷ []) (none_behind seen acted under_way is none)
    ∙ (sym (append-nil (seen ++ one ∷ [])) ∙ ap (λ (w : List (List ℕ)). (seen ++ one ∷ []) ++ map Gives w) (sym none))

-- news for which nothing may be under way
abbrev pub Finds : News → Type 0 → Type 0
Finds (Linked event) Q = Unit {0}
Finds (Failed status) Q = Unit {0}
Finds (Heard pdu) Q = Q
Finds TimerFired Q = Q
Finds Cancelled Q = Unit {0}
Finds (Opening name) Q = Unit {0}

finds_so : (news : News) (Q R : Type 0) → (Q → R) → Finds news Q → Finds news R
finds_so (Linked event) Q R so finds = finds
finds_so (Failed status) Q R so finds = finds
finds_so (Heard pdu) Q R so finds = so finds
finds_so TimerFired Q R so finds = so finds
finds_so Cancelled Q R so finds = finds
finds_so (Opening name) Q R so finds = finds

hears_step : (F : Type 0) (seen acted : List Occurrence) (under_way : List (List ℕ)) (news : News) → (F → Finds news (under_way ≡ [])) → InStep F seen acted under_way → InStep F (seen ++ from_news news) (acted ++ from_news news) under_way
hears_step F seen acted under_way (Linked event) none step = steps_on F seen acted under_way under_way [] step refl step.few (λ so. same_so seen acted under_way (step.in_order so))
hears_step F seen acted under_way (Failed status) none step = steps_on F seen acted under_way under_way [] step refl step.few (λ so. same_so seen acted under_way (step.in_order so))
hears_step F seen acted under_way (Heard pdu) none step = steps_on F seen acted under_way under_way (CameWhole pdu ∷ []) step refl step.few (λ so. both_so seen acted under_way (Enters pdu) (step.in_order so) (none so))
hears_step F seen acted under_way TimerFired none step = steps_on F seen acted under_way under_way (WasFired ∷ []) step refl step.few (λ so. both_so seen acted under_way Fires (step.in_order so) (none so))
hears_step F seen acted under_way Cancelled none step = steps_on F seen acted under_way under_way [] step refl step.few (λ so. same_so seen acted under_way (step.in_order so))
hears_step F seen acted under_way (Opening name) none step = steps_on F seen acted under_way under_way [] step refl step.few (λ so. same_so seen acted under_way (step.in_order so))

says_step : (F : Type 0) (seen acted : List Occurrence) (under_way : List (List ℕ)) (pdu : List ℕ) → under_way ≡ [] → InStep F seen acted under_way → InStep F seen (acted ++ Gives pdu ∷ []) (pdu ∷ [])
says_step F seen acted under_way pdu none step =
    subst (λ (l : List Occurrence). InStep F l (acted ++ Gives pdu ∷ []) (pdu ∷ [])) (append-nil seen)
    (steps_on F seen acted under_way (pdu ∷ []) (WasGiven pdu ∷ []) step (none, refl) (omega arith)
    (λ so. ap (λ (l : List Occurrence). l ++ Gives pdu ∷ []) (none_behind seen acted under_way (step.in_order so) none ∙ sym (append-nil seen))))

alone : (pdu : List ℕ) (left : List (List ℕ)) → length (pdu ∷ left) ≤ 1 → left ≡ []
alone pdu [] few = refl
alone pdu (one ∷ left) few = absurd (omega (arith, few))

-- a piece goes out, with which a PDU is out, or none is
moves_step : (F : Type 0) (seen acted : List Occurrence) (under_way left : List (List ℕ)) (judged : Answer) → whole_in judged ++ left ≡ under_way → InStep F seen acted under_way → InStep F (seen ++ map (passed Out) (whole_in judged)) acted left
moves_step F seen acted under_way left (Whole channel pdu) is step =
    let none = alone pdu left (subst (λ (w : List (List ℕ)). length w ≤ 1) (sym is) step.few) in
    let under : under_way ≡ pdu ∷ [] = sym is ∙ ap (λ (l : List (List ℕ)). pdu ∷ l) none in
    subst (λ (l : List Occurrence). InStep F (seen ++ Gives pdu ∷ []) l left) (append-nil acted)
    (steps_on F seen acted under_way left (WasSent pdu ∷ []) step (under, none) (subst (λ (l : List (List ℕ)). length l ≤ 1) (sym none) (omega arith))
    (λ so.
    append-nil acted
    ∙ (step.in_order so
    ∙ (ap (λ (w : List (List ℕ)). seen ++ map Gives w) under
    ∙ (sym (append-nil (seen ++ Gives pdu ∷ [])) ∙ ap (λ (w : List (List ℕ)). (seen ++ Gives pdu ∷ []) ++ map Gives w) (sym none))))))
moves_step F seen acted under_way left More is step = subst (λ (l : List Occurrence). InStep F l acted left) (sym (append-nil seen)) (subst (InStep F seen acted) (sym is) step)
moves_step F seen acted under_way left (Dropped reason) is step = subst (λ (l : List Occurrence). InStep F l acted left) (sym (append-nil seen)) (subst (InStep F seen acted) (sym is) step)

-- ---- a host

-- Its line is where its units led, its channels are those of a run, and both go in step.
pub record HeldAt (May : Occurrence → Type 0) (F : Type 0) (policy : Policy) (past : List Move) (seen : List Occurrence) (now : Line) (v : Channels) : Type 0 where
  pub line : LineAt past now
  pub list : List Occurrence
  pub runs : IsRunTo May policy list v
  pub under_way : List (List ℕ)
  pub in_step : InStep F seen (filter_map outer list) under_way
  pub pieces_are : completions (pdu_limit Out) (begun_on (linking past).up) now.pieces ≡ under_way

pub first_held : (May : Occurrence → Type 0) (F : Type 0) (policy : Policy) (role : Role) → LineAt [] (fresh role) → HeldAt May F policy [] [] (fresh role) no_channels
first_held May F policy role at = record { line = at; list = []; runs = comes_none May policy; under_way = []; in_step = none_yet F; pieces_are = refl }

-- where no piece waits none is under way
pub none_under_way : (May : Occurrence → Type 0) (F : Type 0) (policy : Policy) (past : List Move) (seen : List Occurrence) (line : Line) (v : Channels) (held : HeldAt May F policy past seen line v) → line.pieces ≡ [] → held.under_way ≡ []
none_under_way May F policy past seen line v held none = sym held.pieces_are ∙ ap (completions (pdu_limit Out) (begun_on (linking past).up)) none

-- a unit says nothing
silent_held : (May : Occurrence → Type 0) (F : Type 0) (policy : Policy) (past past' : List Move) (seen : List Occurrence) (old new : Line) (v : Channels) → HeldAt May F policy past seen old v → LineAt past' new → new.pieces ≡ old.pieces → begun_on (linking past').up ≡ begun_on (linking past).up → HeldAt May F policy past' seen new v
silent_held May F policy past past' seen old new v held at pieces begun = record {
  line = at;
  list = held.list;
  runs = held.runs;
  under_way = held.under_way;
  in_step = held.in_step;
  pieces_are = ap₂ (λ (b : List ℕ) (ps : List Piece). completions (pdu_limit Out) b ps) begun pieces ∙ held.pieces_are;
}

-- what a unit adds to what happened
pub adds_so : (past past' : List Move) (list : List Occurrence) (l : Linkage) → shown (linking past') ≡ l → timed_on (pdus_up past) (pdus_up past') list ≡ timed_on (pdus_up past) l.up list
adds_so past past' list l is = ap (λ (m : Linkage). timed_on (pdus_up past) m.up list) is

module _ {P : Type 0} (A : Profile P) (asks : Asks A) (May : Occurrence → Type 0) (may : (v : Channels) (p : P) → AllByRecursion May (from_call (asks.call v p))) (F : Type 0) where
  abbrev U : Upper (Host P) Circumstance
  U = upper A

  -- what happened behind these units and ticks
  abbrev pub seen_after : (past : List Move) (seen : List Occurrence) → List Tick → List Occurrence
  seen_after past seen more = (fold timed_after (let old : Timed = record { moved = past; list = seen } in old) more).list

  -- ---- it hears

  -- something but of its link
  hears_held : (past past' : List Move) (seen : List Occurrence) (line : Line) (gifts : List Circumstance) (news : News) (old : Lined (Host P)) → ((told : old.upper.channels.events ≡ []) → Becomes May A.policy (from_news news) old.upper.channels (U.hear gifts news old.upper).channels)
      → (F → Finds news (old.line.pieces ≡ [])) → HeldAt May F A.policy past seen old.line old.upper.channels → LineAt past' line → line.pieces ≡ old.line.pieces → begun_on (linking past').up ≡ begun_on (linking past).up
      → HeldAt May F A.policy past' (seen ++ from_news news) line (U.hear gifts news old.upper).channels
  hears_held past past' seen line gifts news old becomes idle held at pieces begun =
      let more = becomes held.runs.told in
      record {
        line = at;
        list = held.list ++ more.list;
        runs = comes_on May A.policy held.list (from_news news) old.upper.channels (U.hear gifts news old.upper).channels held.runs more;
        under_way = held.under_way;
        in_step = subst (λ (l : List Occurrence). InStep F (seen ++ from_news news) l held.under_way) (sym (filter_map-append outer held.list more.list ∙ ap (λ (l : List Occurrence). filter_map outer held.list ++ l) more.outer_is))
            (hears_step F seen (filter_map outer held.list) held.under_way news (λ so. finds_so news (old.line.pieces ≡ []) (held.under_way ≡ []) (none_under_way May F A.policy past seen old.line old.upper.channels held) (idle so)) held.in_step);
        pieces_are = ap₂ (λ (b : List ℕ) (ps : List Piece). completions (pdu_limit Out) b ps) begun pieces ∙ held.pieces_are;
      }

  -- its link comes up or goes down
  turns_held : (past past' : List Move) (seen : List Occurrence) (line : Line) (gifts : List Circumstance) (event : LinkEvent) (old : Lined (Host P)) → HeldAt May F A.policy past seen old.line old.upper.channels → LineAt past' line → line.pieces ≡ []
      → HeldAt May F A.policy past' [] line (U.hear gifts (Linked event) old.upper).channels
  turns_held past past' seen line gifts event old held at none =
      let anew = turns_become A asks May may gifts event old.upper held.runs.told in
      record {
        line = at;
        list = anew.list;
        runs = comes_on May A.policy [] [] no_channels (U.hear gifts (Linked event) old.upper).channels (comes_none May A.policy) anew;
        under_way = [];
        in_step = subst (λ (l : List Occurrence). InStep F [] l []) (sym anew.outer_is) (none_yet F);
        pieces_are = ap (completions (pdu_limit Out) (begun_on (linking past').up)) none;
      }

  -- where the line tells of a PDU no piece waits
  abbrev pub IsToldIdle : PlainNews → Line → Type 0
  IsToldIdle Nothing line = Unit {0}
  IsToldIdle LinkUp line = Unit {0}
  IsToldIdle (LinkFailed status) line = Unit {0}
  IsToldIdle (LinkDown reason) line = Unit {0}
  IsToldIdle (Pdu channel octets) line = line.pieces ≡ []

  -- nor where the timer fires
  abbrev pub IsIdleAt : Occasion Circumstance → Lined (Host P) → Type 0
  IsIdleAt (Comes gifts unit) now = IsToldIdle (news_of unit now.line) now.line
  IsIdleAt (Learns gifts news) now = Finds news (now.line.pieces ≡ [])
  IsIdleAt (Says pdu) now = Unit {0}
  IsIdleAt (Puts handle piece) now = Unit {0}
  IsIdleAt (Commands command) now = Unit {0}
  IsIdleAt Waits now = Unit {0}

  -- so it is where `F` holds
  abbrev pub IdleSo : Occasion Circumstance → Lined (Host P) → Type 0
  IdleSo occasion now = F → IsIdleAt occasion now

  comes_by : (news : PlainNews) (past past' : List Move) (seen : List Occurrence) (line : Line) (gifts : List Circumstance) (old : Lined (Host P)) → ShownBy news (linking past) (linking past') → LineAs news old.line line → LineAt past' line → (F → IsToldIdle news old.line) → HeldAt May F A.policy past seen old.line old.upper.channels
      → HeldAt May F A.policy past' (timed_on (pdus_up past) (pdus_up past') seen) line (hears_line U gifts news old.upper).channels
  comes_by Nothing past past' seen line gifts old by shape at idle held =
      subst (λ (l : List Occurrence). HeldAt May F A.policy past' l line old.upper.channels) (sym (adds_so past past' seen (shown (linking past)) by.adds ∙ timed_same (pdus_up past) seen))
      (silent_held May F A.policy past past' seen old.line line old.upper.channels held at shape.link.pieces (by.begun tt))
  comes_by LinkUp past past' seen line gifts old by shape at idle held =
      let none = none_shown (linking past).up (held.line.stands.link ∙ shape.link.off) in
      subst (λ (l : List Occurrence). HeldAt May F A.policy past' l line (U.hear gifts (Linked Up) old.upper).channels) (sym (adds_so past past' seen (link_begins (shown (linking past))) by.adds ∙ timed_up (pdus_up past) seen none))
      (turns_held past past' seen line gifts Up old held at (shape.link.pieces ∙ held.line.fit.off shape.link.off))
  comes_by (LinkFailed status) past past' seen line gifts old by shape at idle held =
      subst (λ (l : List Occurrence). HeldAt May F A.policy past' l line (U.hear gifts (Failed status) old.upper).channels) (append-nil seen ∙ sym (adds_so past past' seen (shown (linking past)) by.adds ∙ timed_same (pdus_up past) seen))
      (hears_held past past' seen line gifts (Failed status) old (hears_becomes A asks May may gifts (Failed status) old.upper tt) (λ so. tt) held at shape.link.pieces (by.begun tt))
  comes_by (LinkDown reason) past past' seen line gifts old by shape at idle held =
      let on = some_shown (linking past).up shape.link.handle (held.line.stands.link ∙ shape.link.on) in
      subst (λ (l : List Occurrence). HeldAt May F A.policy past' l line (U.hear gifts (Linked (Down reason)) old.upper).channels) (sym (adds_so past past' seen (link_ends (shown (linking past))) by.adds ∙ timed_down (pdus_up past) seen on))
      (turns_held past past' seen line gifts (Down reason) old held at shape.link.pieces)
  comes_by (Pdu channel octets) past past' seen line gifts old by shape at idle held =
      let on = some_shown (linking past).up shape.link.handle (held.line.stands.link ∙ shape.link.on) in
      subst (λ (l : List Occurrence). HeldAt May F A.policy past' l line (U.hear gifts (Heard octets) old.upper).channels) (sym (adds_so past past' seen (with_moved Into (octets ∷ []) (shown (linking past))) by.adds ∙ timed_moved Into (octets ∷ []) (shown (linking past)) seen on))
      (hears_held past past' seen line gifts (Heard octets) old (hears_becomes A asks May may gifts (Heard octets) old.upper tt) idle held at shape.link.stays.pieces (by.begun tt))

  comes_held : (past : List Move) (seen : List Occurrence) (gifts : List Circumstance) (unit : Packet) (old new : Lined (Host P)) → IdleSo (Comes gifts unit) old → Happens U (Comes gifts unit) old new → HeldAt May F A.policy past seen old.line old.upper.channels
      → HeldAt May F A.policy (past ++ into unit ∷ []) (timed_on (pdus_up past) (pdus_up (past ++ into unit ∷ [])) seen) new.line new.upper.channels
  comes_held past seen gifts unit old new idle happens held =
      let past' = past ++ into unit ∷ [] in
      let at = happens_line U past (Comes gifts unit) old new happens held.line in
      subst (λ (s : Lined (Host P)). HeldAt May F A.policy past' (timed_on (pdus_up past) (pdus_up past') seen) s.line s.upper.channels) (sym happens.1)
      (comes_by (news_of unit old.line) past past' seen (heard unit old.line) gifts old (heard_shown past old.line unit held.line.stands) (heard_line unit old.line happens.0 held.line.fit)
      (subst (λ (s : Lined (Host P)). LineAt past' s.line) happens.1 at) idle held)

  learns_by : (past : List Move) (seen : List Occurrence) (gifts : List Circumstance) (news : News) (old : Lined (Host P)) → IsOwnNews news → (F → Finds news (old.line.pieces ≡ [])) → HeldAt May F A.policy past seen old.line old.upper.channels → HeldAt May F A.policy past (seen_after past seen (news_ticks news)) old.line (U.hear gifts news old.upper).channels
  learns_by past seen gifts (Linked event) old own idle held = absurd own
  learns_by past seen gifts (Failed status) old own idle held = absurd own
  learns_by past seen gifts (Heard pdu) old own idle held = absurd own
  learns_by past seen gifts TimerFired old own idle held = hears_held past past seen old.line gifts TimerFired old (hears_becomes A asks May may gifts TimerFired old.upper tt) idle held held.line refl refl
  learns_by past seen gifts Cancelled old own idle held =
      subst (λ (l : List Occurrence). HeldAt May F A.policy past l old.line (U.hear gifts Cancelled old.upper).channels) (append-nil seen) (hears_held past past seen old.line gifts Cancelled old (hears_becomes A asks May may gifts Cancelled old.upper tt) idle held held.line refl refl)
  learns_by past seen gifts (Opening name) old own idle held =
      subst (λ (l : List Occurrence). HeldAt May F A.policy past l old.line (U.hear gifts (Opening name) old.upper).channels) (append-nil seen) (hears_held past past seen old.line gifts (Opening name) old (hears_becomes A asks May may gifts (Opening name) old.upper tt) idle held held.line refl refl)

  -- ---- it goes on by itself

  says_held : (past : List Move) (seen : List Occurrence) (pdu : List ℕ) (old new : Lined (Host P)) → SaysNext U pdu old new → LineAt past new.line → HeldAt May F A.policy past seen old.line old.upper.channels → HeldAt May F A.policy past seen new.line new.upper.channels
  says_held past seen pdu old new says at held =
      let frame = says_frames A old.upper pdu new.upper says.next_is in
      let more = says_becomes A asks May may pdu old.upper new.upper says.next_is held.runs.told in
      record {
        line = at;
        list = held.list ++ more.list;
        runs = comes_on May A.policy held.list (Gives pdu ∷ []) old.upper.channels new.upper.channels held.runs more;
        under_way = pdu ∷ [];
        in_step = subst (λ (l : List Occurrence). InStep F seen l (pdu ∷ [])) (sym (filter_map-append outer held.list more.list ∙ ap (λ (l : List Occurrence). filter_map outer held.list ++ l) more.outer_is))
            (says_step F seen (filter_map outer held.list) held.under_way pdu (none_under_way May F A.policy past seen old.line old.upper.channels held says.none_waits) held.in_step);
        pieces_are = ap (λ (l : Line). completions (pdu_limit Out) (begun_on (linking past).up) l.pieces) says.line_is
            ∙ (cut_comes (pdu_limit Out) old.line.size First (begun_on (linking past).up) pdu held.line.fit.long refl frame.pdu (omega (arith, frame.short))).completes;
      }

  -- the word of a piece's packet
  word_is : (handle : ℕ) (boundary : Boundary) → acl_word_of (record { handle = handle; boundary = boundary; broadcast = 0 }) ≡ handle + 0x1000 * flag_of boundary
  word_is handle First = omega arith
  word_is handle Continuing = omega arith
  word_is handle FirstFromController = omega arith

  found : (told handle : ℕ) (piece : Piece) → IsHandle handle → told ≡ handle → piece_of told (piece_packet handle piece) ≡ Some piece
  found told handle piece low here =
      ap (λ (word : ℕ). piece_of told (Acl word piece.octets)) (word_is handle piece.boundary)
      ∙ (piece_packet_is told handle piece low ∙ ap (λ (b : Bool). if b then Some piece else None) (eq-eqb handle told (sym here)))

  -- a piece adds to the link the PDU that it completes
  record PieceShown (past : List Move) (handle : ℕ) (piece : Piece) : Type 0 where
    adds : shown (linking (past ++ out_of (piece_packet handle piece) ∷ [])) ≡ with_moved Out (gives (pdu_limit Out) (begun_on (linking past).up) piece) (shown (linking past))
    begun : begun_on (linking (past ++ out_of (piece_packet handle piece) ∷ [])).up ≡ holds (pdu_limit Out) (begun_on (linking past).up) piece

  piece_shown : (past : List Move) (handle : ℕ) (piece : Piece) (up : Option Link) → (linking past).up ≡ up → option_map (λ (link : Link). link.handle) up ≡ Some handle → IsHandle handle → PieceShown past handle piece
  piece_shown past handle piece None is none low = cc
  piece_shown past handle piece (Some link) is whose low =
      let move = out_of (piece_packet handle piece) in
      let here : link.handle ≡ handle = cc in
      let one = found link.handle handle piece low here in
      let next : linking (past ++ move ∷ []) ≡ gone_on move (linking past) = links-more past move in
      record {
        adds = ap shown next ∙ goes_on (linking past) move (gives (pdu_limit Out) (begun_on (linking past).up) piece)
            (subst (λ (u : Option Link). OnUp u (λ (l : Link). Completes l move (gives (pdu_limit Out) (begun_on u) piece))) (sym is) (completes_one link move piece (begun_on (Some link)) one refl));
        begun = ap (λ (known : Linking). begun_on known.up) next ∙ (ap (λ (u : Option Link). begun_on (option_map (longer move) u)) is ∙ (begun_more link move piece one ∙ ap (λ (u : Option Link). holds (pdu_limit Out) (begun_on u) piece) (sym is)));
      }

  puts_held : (past : List Move) (seen : List Occurrence) (handle : ℕ) (piece : Piece) (old new : Lined (Host P)) → PutsPiece handle piece old new → LineAt (past ++ out_of (piece_packet handle piece) ∷ []) new.line → HeldAt May F A.policy past seen old.line old.upper.channels
      → HeldAt May F A.policy (past ++ out_of (piece_packet handle piece) ∷ []) (timed_on (pdus_up past) (pdus_up (past ++ out_of (piece_packet handle piece) ∷ [])) seen) new.line new.upper.channels
  puts_held past seen handle piece old new puts at held =
      let past' = past ++ out_of (piece_packet handle piece) ∷ [] in
      let begun = begun_on (linking past).up in
      let judged = answer (pdu_limit Out) begun (starts piece.boundary) piece.octets in
      let left = completions (pdu_limit Out) (holds (pdu_limit Out) begun piece) puts.rest in
      let by = piece_shown past handle piece (linking past).up refl (held.line.stands.link ∙ puts.link) (held.line.low handle puts.link) in
      let on = some_shown (linking past).up handle (held.line.stands.link ∙ puts.link) in
      let is : whole_in judged ++ left ≡ held.under_way = sym (ap (completions (pdu_limit Out) begun) puts.first) ∙ held.pieces_are in
      let more = adds_so past past' seen (with_moved Out (whole_in judged) (shown (linking past))) by.adds ∙ timed_moved Out (whole_in judged) (shown (linking past)) seen on in
      record {
        line = at;
        list = held.list;
        runs = subst (λ (host : Host P). IsRunTo May A.policy held.list host.channels) (sym puts.upper_is) held.runs;
        under_way = left;
        in_step = subst (λ (l : List Occurrence). InStep F l (filter_map outer held.list) left) (sym more) (moves_step F seen (filter_map outer held.list) held.under_way left judged is held.in_step);
        pieces_are = ap₂ (λ (b : List ℕ) (ps : List Piece). completions (pdu_limit Out) b ps) by.begun (ap (λ (l : Line). l.pieces) puts.line_is);
      }

  -- a command says nothing
  either_news : (b : Bool) (move : Move) (known : Linking) → (shown (after_news move known (cond b Asked NoNews)) ≡ shown (gone_on move known)) × (begun_on (after_news move known (cond b Asked NoNews)).up ≡ begun_on (gone_on move known).up)
  either_news true move known = (refl, refl)
  either_news false move known = (refl, refl)

  same_host : (past : List Move) (seen : List Occurrence) (line : Line) (old new : Host P) → new ≡ old → HeldAt May F A.policy past seen line old.channels → HeldAt May F A.policy past seen line new.channels
  same_host past seen line old new is held = subst (λ (host : Host P). HeldAt May F A.policy past seen line host.channels) (sym is) held

  commands_held : (past : List Move) (seen : List Occurrence) (command : HostCommand) (old new : Lined (Host P)) → PutsCommand command old new → LineAt (past ++ out_of (command_packet command) ∷ []) new.line → HeldAt May F A.policy past seen old.line old.upper.channels
      → HeldAt May F A.policy (past ++ out_of (command_packet command) ∷ []) (timed_on (pdus_up past) (pdus_up (past ++ out_of (command_packet command) ∷ [])) seen) new.line new.upper.channels
  commands_held past seen command old new puts at held =
      let move = out_of (command_packet command) in
      let past' = past ++ move ∷ [] in
      let known = linking past in
      let opcode = opcode_of (command_of command) in
      let news = either_news ((opcode == 0x0405 || opcode == 0x0409) && is_none (command_refusal opcode (command_params (command_of command)))) move known in
      let next : linking past' ≡ after_move known move = links-more past move in
      let adds : shown (linking past') ≡ shown known = ap shown next ∙ (news.0 ∙ (goes_on known move [] (always_up (λ (l : Link). Completes l move []) known.up (λ link. completes_none link move refl)) ∙ moved_none Out (shown known))) in
      let begun : begun_on (linking past').up ≡ begun_on known.up = ap (λ (k : Linking). begun_on k.up) next ∙ (news.1 ∙ begun_stays known.up move (λ handle. refl)) in
      subst (λ (l : List Occurrence). HeldAt May F A.policy past' l new.line new.upper.channels) (sym (adds_so past past' seen (shown known) adds ∙ timed_same (pdus_up past) seen))
      (same_host past' seen new.line old.upper new.upper puts.upper_is (silent_held May F A.policy past past' seen old.line new.line old.upper.channels held at (ap (λ (l : Line). l.pieces) puts.line_is) begun))

  -- ---- all of it

  still_held : (past : List Move) (seen : List Occurrence) (line : Line) (v : Channels) → HeldAt May F A.policy past seen line v → HeldAt May F A.policy (past ++ []) seen line v
  still_held past seen line v held = subst (λ (l : List Move). HeldAt May F A.policy l seen line v) (sym (append-nil past)) held

  happens_held : (past : List Move) (seen : List Occurrence) (occasion : Occasion Circumstance) (old new : Lined (Host P)) → IdleSo occasion old → Happens U occasion old new → HeldAt May F A.policy past seen old.line old.upper.channels
      → HeldAt May F A.policy (past ++ units_of occasion) (seen_after past seen (ticks_of occasion)) new.line new.upper.channels
  happens_held past seen (Comes gifts unit) old new idle happens held = comes_held past seen gifts unit old new idle happens held
  happens_held past seen (Learns gifts news) old new idle (own, is) held =
      still_held past (seen_after past seen (news_ticks news)) new.line new.upper.channels (subst (λ (s : Lined (Host P)). HeldAt May F A.policy past (seen_after past seen (news_ticks news)) s.line s.upper.channels) (sym is) (learns_by past seen gifts news old own idle held))
  happens_held past seen (Says pdu) old new idle says held =
      let at = subst (λ (l : List Move). LineAt l new.line) (append-nil past) (happens_line U past (Says pdu) old new says held.line) in
      still_held past seen new.line new.upper.channels (says_held past seen pdu old new says at held)
  happens_held past seen (Puts handle piece) old new idle puts held = puts_held past seen handle piece old new puts (happens_line U past (Puts handle piece) old new puts held.line) held
  happens_held past seen (Commands command) old new idle puts held = commands_held past seen command old new puts (happens_line U past (Commands command) old new puts held.line) held
  happens_held past seen Waits old new idle waits held =
      same_host (past ++ []) seen new.line old.upper new.upper waits.upper_is
      (silent_held May F A.policy past (past ++ []) seen old.line new.line old.upper.channels held (happens_line U past Waits old new waits held.line) (ap (λ (l : Line). l.pieces) waits.line_is) (ap (λ (l : List Move). begun_on (linking l).up) (append-nil past)))

  pub runs_held : (past : List Move) (seen : List Occurrence) (occasions : List (Occasion Circumstance)) (old new : Lined (Host P)) → Runs U IdleSo occasions old new → HeldAt May F A.policy past seen old.line old.upper.channels
      → HeldAt May F A.policy (past ++ units occasions) (seen_after past seen (ticks occasions)) new.line new.upper.channels
  runs_held past seen [] old new is held = still_held past seen new.line new.upper.channels (subst (λ (s : Lined (Host P)). HeldAt May F A.policy past seen s.line s.upper.channels) (sym is) held)
  runs_held past seen (occasion ∷ occasions) old new (mid, so, happens, rest) held =
      let first : Timed = record { moved = past; list = seen } in
      let next = seen_after past seen (ticks_of occasion) in
      let behind = runs_held (past ++ units_of occasion) next occasions mid new rest (happens_held past seen occasion old mid so happens held) in
      let same : seen_after past seen (ticks (occasion ∷ occasions)) ≡ seen_after (past ++ units_of occasion) next (ticks occasions) =
      ap (λ (t : Timed). t.list) (fold-append timed_after first (ticks_of occasion) (ticks occasions)) ∙ ap (λ (t : Timed). (fold timed_after t (ticks occasions)).list) (occasion_timed first occasion) in
      subst (λ (l : List Move). HeldAt May F A.policy l (seen_after past seen (ticks (occasion ∷ occasions))) new.line new.upper.channels) (append_assoc past (units_of occasion) (units occasions))
      (subst (λ (l : List Occurrence). HeldAt May F A.policy ((past ++ units_of occasion) ++ units occasions) l new.line new.upper.channels) (sym same) behind)
