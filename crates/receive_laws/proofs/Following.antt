-- Turns of a server in code are a run of the server that it is.
use Rattle.std.proofs.Common.{◌≡◌, ℕ, Bool, false, List, [], ◌∷◌, ◌++◌, Option, Some, None, refl, sym, ap, subst, ◌∙◌, append_assoc}
use Rattle.std.specs.Prelude.{option_to_list}
use Rattle.std.specs.List.{AllByRecursion}
use Rattle.std.proofs.lemmas.List.{append-nil}
use Rattle.std.proofs.lemmas.List.Concat.{flat_map-append}
use Rattle.receiving.specs.bt_base.specs.declared.settings.Settings.{Settings}
use Rattle.receiving.specs.bt_base.specs.Objects.{Contents}
use Rattle.receiving.specs.h4_framing.specs.Packets.{Packet, spellings, IsPacket}
use Rattle.receiving.specs.capture.specs.Moves.{Move}
use Rattle.receiving.specs.host_link.specs.Lines.{Line}
use Rattle.noting_laws.specs.world_model.specs.Machines.{Upper}
use Rattle.noting_laws.specs.push_laws.specs.Premises.{AllGranted}
use Rattle.receiving.specs.host_model.specs.Circumstances.{Circumstance, answers_in}
use Rattle.receiving.specs.host_model.specs.Hosts.{Host}
use Rattle.receiving.specs.host_model.specs.Machines.{upper}
use Rattle.receiving.specs.host_model.specs.Profiles.{Profile}
use Rattle.receiving.specs.host_model.specs.Servers.{ServerProfile, server_profile}
use Rattle.receiving.specs.bt_host.specs.Noting.{Noted}
use Rattle.receiving.specs.bt_host.specs.NotedHosts.{noted_server}
use Rattle.receiving.specs.bt_host.specs.Refusals.{acl_limit}
use Rattle.receiving.specs.bt_host.specs.Stacks.{Standing}
use Rattle.orderly_laws.specs.unit_laws.specs.Calls.{gifts_of, gifts_in, IsWritable}
use Rattle.orderly_laws.specs.unit_laws.specs.Laws.{FiresNone}
use Rattle.orderly_laws.specs.unit_laws.specs.Units.{Occasion, Waits, units_of, units, Runs, ComesInTurn}
use Rattle.orderly_laws.specs.unit_laws.proofs.Doing.{runs_then}
use Rattle.receiving.specs.Turns.{Stand, Moves, Posture, Turn, HearsIn, HasTurn, emptied, answers_heard, answers_of}
use Rattle.receiving.proofs.Still.{moves_still}
use Rattle.receiving.proofs.Turning.{all_append}
use Rattle.receive_laws.specs.InTurn.{TakesInTurn}
use Rattle.receive_laws.specs.Moving.{MovesWith}
use Rattle.receive_laws.proofs.Alike.{IsAlike, IsGranting, left, left_granted}
use Rattle.receive_laws.proofs.Buffers.{rests_there, HoldsNone}
use Rattle.receive_laws.proofs.Deeds.{lined, Goes, all_go, packet_goes, all_granting, packet_granting}

-- its controller took all octets
pub writable_emptied : (line : Line) → IsWritable line → IsWritable (record line { out = [] })
writable_emptied line writable =
    record { long = writable.long; off = writable.off; low = writable.low; size = writable.size; pieces = writable.pieces; commands = writable.commands }

pub split_all : {X : Type 0} (P : X → Type 0) (first : Option X) (rest : List X) → AllByRecursion P (option_to_list first ++ rest) → AllByRecursion P (option_to_list first) × AllByRecursion P rest
split_all P None rest all = (tt, all)
split_all P (Some x) rest all = ((all.0, tt), all.1)

module _ (settings : Settings) (content : Option Contents) where
  abbrev U : Upper (Host ServerProfile) Circumstance
  U = upper (server_profile settings content)

  abbrev N : Profile (Noted ServerProfile)
  N = noted_server settings

  abbrev pub IsGrant : List Circumstance → Type 0
  IsGrant gift = AllGranted (answers_in gift)

  -- where its inbox grants all that it is still asked it is given grants alone, and the inbox does so behind that
  abbrev pub StaysGranting : List (List Circumstance) → (old new : Host (Noted ServerProfile)) → Type 0
  StaysGranting gifts old new = IsGranting settings content old → AllByRecursion IsGrant gifts × IsGranting settings content new

  -- the server that it is ran to where it is, and these are the moves
  pub record RunsTo (IsMoves : List Move → Type 0) (old : Standing (Noted ServerProfile)) (there : Host ServerProfile) (new : Standing (Noted ServerProfile)) : Type 0 where
    pub occasions : List (Occasion Circumstance)
    pub after : Host ServerProfile
    pub alike : IsAlike settings content new.host after
    pub runs : Runs U (ComesInTurn U) occasions (lined old.line there) (lined new.line after)
    pub moves : IsMoves (units occasions)
    pub granting : StaysGranting (gifts_in occasions) old.host new.host
    pub untimed : AllByRecursion FiresNone occasions
    pub writable : IsWritable new.line
    pub taken : new.line.out ≡ []

  units_waiting : (occasions : List (Occasion Circumstance)) → units (occasions ++ Waits ∷ []) ≡ units occasions
  units_waiting occasions = flat_map-append units_of occasions (Waits ∷ []) ∙ append-nil (units occasions)

  gifts_waiting : (occasions : List (Occasion Circumstance)) → gifts_in (occasions ++ Waits ∷ []) ≡ gifts_in occasions
  gifts_waiting occasions = flat_map-append gifts_of occasions (Waits ∷ []) ∙ append-nil (gifts_in occasions)

  -- where it went, and its octets were taken
  pub taken_behind : (turn : Turn) (gifts : List (List Circumstance)) (old : Standing (Noted ServerProfile)) (there : Host ServerProfile) (new : Standing (Noted ServerProfile)) → Goes settings content gifts (option_to_list turn.packet) (lined old.line there) new
      → StaysGranting gifts old.host new.host → old.line.out ≡ [] → new.line.out ≡ turn.said → RunsTo (MovesWith turn) old there (emptied new)
  taken_behind turn gifts old there new goes granting none said =
      let by = goes.goes in
      record {
        occasions = by.occasions ++ Waits ∷ [];
        after = goes.there;
        alike = goes.alike;
        runs = runs_then U (ComesInTurn U) by.occasions (Waits ∷ []) (lined old.line there) (lined new.line goes.there) (lined (emptied new).line goes.there) by.runs
            (lined (emptied new).line goes.there, tt, record { upper_is = refl; line_is = refl; awaited_is = refl }, refl);
        moves = record {
          went = by.went;
          said = record { each = by.each; octets_are = sym said ∙ (by.out ∙ ap (λ (out : List ℕ). out ++ spellings by.went) none) };
          moves_are = units_waiting by.occasions ∙ by.units_are;
        };
        granting = λ all. let both = granting all in (subst (AllByRecursion IsGrant) (sym (gifts_waiting by.occasions ∙ by.given)) both.0, both.1);
        untimed = all_append FiresNone by.occasions (Waits ∷ []) by.untimed (tt, tt);
        writable = writable_emptied new.line by.writable;
        taken = refl;
      }

  abbrev pub From : (List Move → Type 0) → (old new : Standing (Noted ServerProfile)) → Type 0
  From IsMoves old new = (there : Host ServerProfile) → IsAlike settings content old.host there → IsWritable old.line → old.line.out ≡ [] → RunsTo IsMoves old there new

  -- ---- a turn

  -- where it holds nothing back it hears a packet
  heard_by : (turn : Turn) (packet : Packet) (full : Bool) (before after : Stand (Noted ServerProfile)) → turn.packet ≡ Some packet → (hears : HearsIn N (Some packet) full before after) → IsPacket acl_limit packet → (rest : List Circumstance) → TakesInTurn (Some packet) (before (hears.0.moves.used ++ rest))
      → (after rest).line.out ≡ turn.said → From (MovesWith turn) (before (hears.0.moves.used ++ rest)) (emptied (after rest))
  heard_by turn packet full before after is hears packet_is rest takes said there alike writable none =
      let all = hears.0.moves.used ++ rest in
      let gifts = left settings content (before all).host ∷ [] in
      let goes = packet_goes settings content packet before after hears.0 rest there all refl packet_is takes alike writable in
      taken_behind turn gifts (before all) there (after rest) (subst (λ (p : Option Packet). Goes settings content gifts (option_to_list p) (lined (before all).line there) (after rest)) (sym is) goes)
      (λ granting. ((left_granted settings content (before all).host granting, tt), packet_granting settings content packet before after hears.0 rest granting)) none said

  -- what it held back goes out
  back_by : (turn : Turn) (before after : Stand (Noted ServerProfile)) → turn.packet ≡ None → (back : Moves N before after) (rest : List Circumstance) → (after rest).line.out ≡ turn.said → From (MovesWith turn) (before (back.used ++ rest)) (emptied (after rest))
  back_by turn before after is back rest said there alike writable none =
      let old = before (back.used ++ rest) in
      let goes = all_go settings content back.deeds old (after rest) there (back.does rest) alike writable in
      taken_behind turn [] old there (after rest) (subst (λ (p : Option Packet). Goes settings content [] (option_to_list p) (lined old.line there) (after rest)) (sym is) goes)
      (λ granting. (tt, all_granting settings content back.deeds old (after rest) (back.does rest) granting)) none said

  turned_by : (turn : Turn) (packet : Option Packet) (old : Posture (Noted ServerProfile)) (between after : Stand (Noted ServerProfile)) → turn.packet ≡ packet → (back : Moves N old.stands between) → (old.full ≡ false → between ≡ old.stands) → (hears : HearsIn N packet old.full between after)
      → HoldsNone packet old → AllByRecursion (IsPacket acl_limit) (option_to_list packet) → (rest : List Circumstance) → TakesInTurn packet (old.stands (back.used ++ (answers_heard N packet old.full between after hears ++ rest))) → (after rest).line.out ≡ turn.said
      → From (MovesWith turn) (old.stands (back.used ++ (answers_heard N packet old.full between after hears ++ rest))) (emptied (after rest))
  turned_by turn None old between after is back still hears off each rest takes said =
      subst (λ (s : Stand (Noted ServerProfile)). From (MovesWith turn) (old.stands (back.used ++ rest)) (emptied (s rest))) (sym hears.1)
      (back_by turn old.stands between is back rest (ap (λ (s : Stand (Noted ServerProfile)). (s rest).line.out) (sym hears.1) ∙ said))
  turned_by turn (Some packet) old between after is back still hears off each rest takes said =
      let all = hears.0.moves.used ++ rest in
      let same : between all ≡ old.stands (back.used ++ all) = moves_still N old.stands between (rests_there N packet old between after still hears off) back all in
      subst (λ (s : Standing (Noted ServerProfile)). From (MovesWith turn) s (emptied (after rest))) same
      (heard_by turn packet old.full between after is hears each.0 rest (subst (TakesInTurn (Some packet)) (sym same) takes) said)

  pub turn_runs : (turn : Turn) (old new : Posture (Noted ServerProfile)) (one : HasTurn N turn old new) → HoldsNone turn.packet old → AllByRecursion (IsPacket acl_limit) (option_to_list turn.packet) → (rest : List Circumstance) → TakesInTurn turn.packet (old.stands (answers_of N turn old new one ++ rest))
      → From (MovesWith turn) (old.stands (answers_of N turn old new one ++ rest)) (new.stands rest)
  turn_runs turn old new one off each rest takes =
      let here = answers_heard N turn.packet old.full one.between one.after one.hears in
      let from = turned_by turn turn.packet old one.between one.after refl one.back one.none_back one.hears off each rest (subst (λ (all : List Circumstance). TakesInTurn turn.packet (old.stands all)) (append_assoc one.back.used here rest) takes) (one.says rest) in
      subst (λ (s : Stand (Noted ServerProfile)). From (MovesWith turn) (old.stands (answers_of N turn old new one ++ rest)) (s rest)) (sym one.stands)
      (subst (λ (all : List Circumstance). From (MovesWith turn) (old.stands all) (emptied (one.after rest))) (sym (append_assoc one.back.used here rest)) from)

  -- ---- one after the other

  pub joined_runs : (First Second Both : List Move → Type 0) → ((xs ys : List Move) → First xs → Second ys → Both (xs ++ ys)) → (old : Standing (Noted ServerProfile)) (there : Host ServerProfile) (mid new : Standing (Noted ServerProfile)) (first : RunsTo First old there mid) → RunsTo Second mid first.after new
      → RunsTo Both old there new
  joined_runs First Second Both joins old there mid new first second = record {
    occasions = first.occasions ++ second.occasions;
    after = second.after;
    alike = second.alike;
    runs = runs_then U (ComesInTurn U) first.occasions second.occasions (lined old.line there) (lined mid.line first.after) (lined new.line second.after) first.runs second.runs;
    moves = subst Both (sym (flat_map-append units_of first.occasions second.occasions)) (joins (units first.occasions) (units second.occasions) first.moves second.moves);
    granting = λ all.
        let one = first.granting all in
        let two = second.granting one.1 in
        (subst (AllByRecursion IsGrant) (sym (flat_map-append gifts_of first.occasions second.occasions)) (all_append IsGrant (gifts_in first.occasions) (gifts_in second.occasions) one.0 two.0), two.1);
    untimed = all_append FiresNone first.occasions second.occasions first.untimed second.untimed;
    writable = second.writable;
    taken = second.taken;
  }

  -- its moves are told otherwise
  pub other_moves : (First Second : List Move → Type 0) → ((xs : List Move) → First xs → Second xs) → (old : Standing (Noted ServerProfile)) (there : Host ServerProfile) (new : Standing (Noted ServerProfile)) → RunsTo First old there new → RunsTo Second old there new
  other_moves First Second so old there new run = record {
    occasions = run.occasions;
    after = run.after;
    alike = run.alike;
    runs = run.runs;
    moves = so (units run.occasions) run.moves;
    granting = run.granting;
    untimed = run.untimed;
    writable = run.writable;
    taken = run.taken;
  }
