-- Impulse after impulse a host in code stands where the units lead that move.
use Rattle.std.proofs.Common.{◌≡◌, ℕ, List, [], ◌∷◌, ◌++◌, map, drop, refl, sym, ap, subst, ◌∙◌, append_assoc}
use Rattle.std.proofs.lemmas.List.{append-nil}
use Rattle.unit_laws.specs.scenario_laws.specs.h4_framing.specs.Packets.{spellings}
use Rattle.bt_host.specs.capture.specs.Moves.{Move}
use Rattle.bt_host.specs.host_link.specs.Hearing.{heard}
use Rattle.bt_host.specs.host_link.specs.Lines.{Line}
use Rattle.bt_host.specs.host_link.specs.PuttingOut.{started}
use Rattle.bt_host.specs.host_link.specs.Stands.{into, out_of}
use Rattle.bt_host.specs.host_link.specs.declared.role.Role.{Role}
use Rattle.bt_host.specs.host_model.specs.Circumstances.{Circumstance}
use Rattle.bt_host.specs.host_model.specs.Profiles.{Profile}
use Rattle.bt_host.specs.Stacks.{Stacked, Moment, Standing, Reacts, standing, after_packet, with_host}
use Rattle.bt_host.specs.Uppers.{asking}
use Rattle.bt_host.specs.host_model.specs.Hosts.{hear}
use Rattle.unit_laws.specs.Calls.{IsWritable}
use Rattle.unit_laws.proofs.Taking.{ReadAt, takes_so, first_read}
use Rattle.call_laws.specs.Impulses.{Impulse, Hears, Learns, GoesOn, Gives, Pages, IsDevice, Happens, HasImpulses, heard_of, left_of, MovesWith, MovesAlong, MovesFromStart}
use Rattle.call_laws.specs.Laws.{IsRead}
use Rattle.call_laws.proofs.Going.{Goes, goes_then, all_go, packet_goes, taken_read, starts, writable_taken}

-- where a host goes, and what moves
record Went {E : Type 0} (impulse : Impulse) (old new : Stacked E) : Type 0 where
  moves : List Move
  move : MovesWith impulse old new moves
  writable : IsWritable new.line
  device : IsDevice new.paged
  read : (past : List Move) → ReadAt past old.line → ReadAt (past ++ moves) new.line

went_by : {E : Type 0} (impulse : Impulse) (old new : Stacked E) → left_of impulse old.line.out ≡ old.line.out → Goes (heard_of impulse) old.line new.line → IsDevice new.paged → Went impulse old new
went_by impulse old new none goes device = record {
  moves = map into (heard_of impulse) ++ map out_of goes.went;
  move = record { gained = spellings goes.went; out = goes.out ∙ ap (λ (out : List ℕ). out ++ spellings goes.went) (sym none); went = goes.went; spelled = record { each = goes.each; octets_are = refl }; moves_are = refl };
  writable = goes.writable;
  device = device;
  read = goes.read;
}

module _ {E S P : Type 0} (A : Profile S) (Answers : P → List Circumstance → P → Type 0) (pushing : E → P → List Circumstance → S) where
  -- it goes on behind a change that leaves its line as it was
  reacts_go : (old new : Moment E P) (before : List Circumstance → Standing S) → ((rest : List Circumstance) → (before rest).line ≡ old.stack.line) → ((rest : List Circumstance) → (before rest).paged ≡ old.stack.paged)
      → Reacts A Answers before (standing pushing new.port new.stack) old.port new.port → IsWritable old.stack.line → IsDevice old.stack.paged → Goes [] old.stack.line new.stack.line × IsDevice new.stack.paged
  reacts_go old new before line paged reacts writable device =
      let all = reacts.used ++ [] in
      let moved = all_go A reacts.deeds (before all) (standing pushing new.port new.stack []) (reacts.reacts []) (subst IsWritable (sym (line all)) writable) (subst IsDevice (sym (paged all)) device) in
      (subst (λ (l : Line). Goes [] l new.stack.line) (line all) moved.0, subst IsDevice (sym (moved.1 ∙ paged all)) device)

  went : (impulse : Impulse) (old new : Moment E P) → Happens A Answers pushing impulse old new → IsWritable old.stack.line → IsDevice old.stack.paged → Went impulse old.stack new.stack
  went (Hears packet) old new (is, hears) writable device =
      let all = hears.reacts.used ++ [] in
      let before = standing pushing old.port old.stack all in
      let first = packet_goes A packet old.stack.line before.host is hears.fault writable in
      let moved = all_go A hears.reacts.deeds (after_packet A packet all before) (standing pushing new.port new.stack []) (hears.reacts.reacts []) first.writable device in
      went_by (Hears packet) old.stack new.stack refl (goes_then (packet ∷ []) old.stack.line (heard packet old.stack.line) new.stack.line first moved.0) (subst IsDevice (sym moved.1) device)
  went (Learns news) old new (own, hears) writable device =
      let goes = reacts_go old new (λ rest. with_host (hear A rest news (asking pushing old.port old.stack.upper rest)) (standing pushing old.port old.stack rest)) (λ rest. refl) (λ rest. refl) hears writable device in
      went_by (Learns news) old.stack new.stack refl goes.0 goes.1
  went GoesOn old new goes_on writable device =
      let goes = reacts_go old new (standing pushing old.port old.stack) (λ rest. refl) (λ rest. refl) goes_on writable device in
      went_by GoesOn old.stack new.stack refl goes.0 goes.1
  went (Gives count) old new is writable device =
      let out = drop count old.stack.line.out in
      subst (λ (s : Stacked E). Went (Gives count) old.stack s) (sym is)
      (record {
        moves = [];
        move = record { gained = []; out = sym (append-nil out); went = []; spelled = record { each = tt; octets_are = refl }; moves_are = refl };
        writable = writable_taken old.stack.line out writable;
        device = device;
        read = λ past read. taken_read A old.stack.line (standing pushing old.port old.stack []).host out past read;
      })
  went (Pages address) old new (paged, is) writable device =
      subst (λ (s : Stacked E). Went (Pages address) old.stack s) (sym is)
      (record {
        moves = [];
        move = record { gained = []; out = sym (append-nil old.stack.line.out); went = []; spelled = record { each = tt; octets_are = refl }; moves_are = refl };
        writable = writable;
        device = paged;
        read = λ past read. subst (λ (moves : List Move). ReadAt moves old.stack.line) (sym (append-nil past)) read;
      })

  -- ---- one after the other

  record WentAlong (impulses : List Impulse) (old new : Stacked E) (has : HasImpulses A Answers pushing impulses old new) : Type 0 where
    moves : List Move
    along : MovesAlong A Answers pushing impulses old new has moves
    read : (past : List Move) → ReadAt past old.line → ReadAt (past ++ moves) new.line

  went_along : (impulses : List Impulse) (old new : Stacked E) (has : HasImpulses A Answers pushing impulses old new) → IsWritable old.line → IsDevice old.paged → WentAlong impulses old new has
  went_along [] old new has writable device = record {
    moves = [];
    along = refl;
    read = λ past read. subst (λ (moves : List Move). ReadAt moves new.line) (sym (append-nil past)) (subst (λ (s : Stacked E). ReadAt past s.line) (sym has) read);
  }
  went_along (impulse ∷ impulses) old new (mid, port, port', one, more) writable device =
      let first = went impulse (record { stack = old; port = port }) (record { stack = mid; port = port' }) one writable device in
      let behind = went_along impulses mid new more first.writable first.device in
      record {
        moves = first.moves ++ behind.moves;
        along = (first.moves, behind.moves, first.move, behind.along, refl);
        read = λ past read. subst (λ (moves : List Move). ReadAt moves new.line) (append_assoc past first.moves behind.moves) (behind.read (past ++ first.moves) (first.read past read));
      }

  pub record LineIsRead (role : Role) (impulses : List Impulse) (old new : Stacked E) (has : HasImpulses A Answers pushing impulses old new) : Type 0 where
    pub moves : List Move
    pub move : MovesFromStart A Answers pushing role impulses old new has moves
    pub read : IsRead moves new.line

  pub line_is_read : (role : Role) (impulses : List Impulse) (old new : Stacked E) (has : HasImpulses A Answers pushing impulses old new) → old.line ≡ started role → IsDevice old.paged → LineIsRead role impulses old new has
  line_is_read role impulses old new has is device =
      let start = starts A role in
      let along = went_along impulses old new has (subst IsWritable (sym is) start.writable) device in
      let moves = map out_of start.went ++ along.moves in
      let read : ReadAt moves new.line = along.read (map out_of start.went) (subst (ReadAt (map out_of start.went)) (sym is) (start.read [] (first_read role))) in
      record {
        moves = moves;
        move = record { first = start.went; spelled = record { each = start.each; octets_are = start.out }; rest = along.moves; along = along.along; moves_are = refl };
        read = record { outstanding = read.at.stands.ledger; free = takes_so moves new.line read };
      }
