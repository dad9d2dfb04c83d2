-- All that comes to a host in code, and all that it does with it, leaves its line where the units lead that move.
use Rattle.std.proofs.Common.{◌≡◌, ℕ, List, [], ◌∷◌, ◌++◌, map, None, refl, sym, ap, subst, ◌∙◌, append_assoc}
use Rattle.std.specs.List.{AllByRecursion}
use Rattle.std.proofs.lemmas.List.{append-nil, map-append}
use Rattle.unit_laws.specs.scenario_laws.specs.h4_framing.specs.Packets.{Packet, spellings, IsPacket}
use Rattle.unit_laws.specs.scenario_laws.specs.h4_framing.proofs.FaultLemmas.{spellings_append}
use Rattle.unit_laws.specs.scenario_laws.specs.h4_framing.proofs.ReadingLemmas.{all_append}
use Rattle.bt_host.specs.capture.specs.Moves.{Move}
use Rattle.bt_host.specs.host_link.specs.Hearing.{fault_of, heard}
use Rattle.bt_host.specs.host_link.specs.Lines.{Line, fresh}
use Rattle.bt_host.specs.host_link.specs.PuttingOut.{put_pieces, started}
use Rattle.bt_host.specs.host_link.specs.Stands.{into, out_of}
use Rattle.bt_host.specs.host_link.specs.declared.role.Role.{Role}
use Rattle.unit_laws.specs.scenario_laws.specs.world_model.specs.Machines.{Upper}
use Rattle.bt_host.specs.host_model.specs.Circumstances.{Circumstance}
use Rattle.bt_host.specs.host_model.specs.Hosts.{Host, first_host}
use Rattle.bt_host.specs.host_model.specs.Machines.{upper}
use Rattle.bt_host.specs.host_model.specs.Profiles.{Profile}
use Rattle.bt_host.specs.host_model.proofs.Orderly.{says_octets}
use Rattle.bt_host.specs.Refusals.{acl_limit}
use Rattle.bt_host.specs.Stacks.{Standing, Deed, Putting, Saying, Ending, Paging, Commanding, DoesDeed, DoesAll}
use Rattle.unit_laws.specs.Units.{Lined, Comes, Waits, after_unit, Whatever, ComesInTurn}
use Rattle.unit_laws.specs.Calls.{IsWritable, GoesBy, CallsGo}
use Rattle.unit_laws.proofs.Doing.{goes_none, calls_are_runs}
use Rattle.unit_laws.proofs.Taking.{ReadAt, runs_read}
use Rattle.unit_laws.proofs.Written.{heard_writes}
use Rattle.call_laws.specs.Impulses.{IsDevice}

-- these packets came in, and behind them packets went out, whose octets `out` gained
pub record Goes (came : List Packet) (old new : Line) : Type 0 where
  pub went : List Packet
  pub each : AllByRecursion (IsPacket 1021) went
  pub out : new.out ≡ old.out ++ spellings went
  pub writable : IsWritable new
  pub read : (past : List Move) → ReadAt past old → ReadAt (past ++ (map into came ++ map out_of went)) new

pub goes_then : (came : List Packet) (old mid new : Line) → Goes came old mid → Goes [] mid new → Goes came old new
goes_then came old mid new first second = record {
  went = first.went ++ second.went;
  each = all_append (IsPacket 1021) first.went second.went first.each second.each;
  out = second.out
      ∙ (ap (λ (out : List ℕ). out ++ spellings second.went) first.out
      ∙ (append_assoc old.out (spellings first.went) (spellings second.went) ∙ ap (λ (more : List ℕ). old.out ++ more) (sym (spellings_append first.went second.went))));
  writable = second.writable;
  read = λ past read.
      let ahead = map into came ++ map out_of first.went in
      subst (λ (moves : List Move). ReadAt moves new)
      (append_assoc past ahead (map out_of second.went)
      ∙ ap (λ (moves : List Move). past ++ moves)
      (append_assoc (map into came) (map out_of first.went) (map out_of second.went) ∙ ap (λ (more : List Move). map into came ++ more) (sym (map-append out_of first.went second.went))))
      (second.read (past ++ ahead) (first.read past read));
}

module _ {S : Type 0} (A : Profile S) where
  abbrev U : Upper (Host S) Circumstance
  U = upper A

  abbrev lined : Line → Host S → Lined (Host S)
  lined line host = record { line = line; upper = host }

  by_run : (gifts : List (List Circumstance)) (came : List Packet) (old new : Lined (Host S)) → GoesBy U gifts came old new → Goes came old.line new.line
  by_run gifts came old new goes = record {
    went = goes.went;
    each = goes.each;
    out = goes.out;
    writable = goes.writable;
    read = λ past read. subst (λ (moves : List Move). ReadAt (past ++ moves) new.line) goes.units_are (runs_read U (ComesInTurn U) past goes.occasions old new goes.runs read);
  }

  calls_at : (line : Line) (host : Host S) → IsWritable line → CallsGo U (lined line host)
  calls_at line host writable = (calls_are_runs U).calls (lined line host) (λ s pdu after is. says_octets A s pdu after is) writable

  -- ---- what it does by itself

  -- it still pages the same device
  abbrev Moved : (old new : Standing S) → Type 0
  Moved old new = Goes [] old.line new.line × (new.paged ≡ old.paged)

  deed_goes : (deed : Deed) (old new : Standing S) → DoesDeed A deed old new → IsWritable old.line → IsDevice old.paged → Moved old new
  deed_goes Putting old new does writable device = subst (λ (s : Standing S). Moved old s) (sym does) (by_run [] [] (lined old.line old.host) _ (calls_at old.line old.host writable).puts, refl)
  deed_goes (Saying pdu) old new does writable device = (
    subst (λ (l : Line). Goes [] old.line l) (sym does.line) (by_run [] [] (lined old.line old.host) _ ((calls_at old.line old.host writable).says pdu new.host does.may does.next)),
    does.paged,
  )
  deed_goes Ending old new does writable device = subst (λ (s : Standing S). Moved old s) (sym does.1) (by_run [] [] (lined old.line old.host) _ (calls_at old.line old.host writable).ends, refl)
  deed_goes Paging old new does writable device =
      subst (λ (s : Standing S). Moved old s) (sym does.1) (by_run [] [] (lined old.line old.host) _ ((calls_at old.line old.host writable).pages old.paged device.six device.octets), refl)
  deed_goes Commanding old new does writable device = subst (λ (s : Standing S). Moved old s) (sym does) (by_run [] [] (lined old.line old.host) _ (calls_at old.line old.host writable).commands, refl)

  pub all_go : (deeds : List Deed) (old new : Standing S) → DoesAll A deeds old new → IsWritable old.line → IsDevice old.paged → Moved old new
  all_go [] old new does writable device = subst (λ (s : Standing S). Moved old s) (sym does) (by_run [] [] (lined old.line old.host) _ (goes_none U (lined old.line old.host) writable), refl)
  all_go (deed ∷ deeds) old new (mid, one, more) writable device =
      let first = deed_goes deed old mid one writable device in
      let behind = all_go deeds mid new more first.0.writable (subst IsDevice (sym first.1) device) in
      (goes_then [] old.line mid.line new.line first.0 behind.0, behind.1 ∙ first.1)

  -- ---- what comes to it

  pub packet_goes : (packet : Packet) (line : Line) (host : Host S) → IsPacket acl_limit packet → fault_of packet line ≡ None → IsWritable line → Goes (packet ∷ []) line (heard packet line)
  packet_goes packet line host is none writable =
      let writes = heard_writes acl_limit packet line is none writable in
      let now = lined line host in
      record {
        went = [];
        each = tt;
        out = writes.out_is ∙ sym (append-nil line.out);
        writable = writes.writable;
        read = λ past read. runs_read U Whatever past (Comes [] packet ∷ []) now (after_unit U [] packet now) (after_unit U [] packet now, tt, (none, refl), refl) read;
      }

  -- its controller took octets
  pub taken_read : (line : Line) (host : Host S) (out : List ℕ) (past : List Move) → ReadAt past line → ReadAt (past ++ []) (record line { out = out })
  taken_read line host out past read =
      let after = lined (record line { out = out }) host in
      runs_read U Whatever past (Waits ∷ []) (lined line host) after (after, tt, record { upper_is = refl; line_is = refl; awaited_is = refl }, refl) read

  -- ---- the beginning

  pub starts : (role : Role) → Goes [] (fresh role) (started role)
  starts role =
      let host = first_host A in
      let writable = (calls_are_runs U).fresh role in
      let first = by_run [] [] (lined (fresh role) host) _ (calls_at (fresh role) host writable).puts in
      let mid = put_pieces (fresh role) in
      goes_then [] (fresh role) mid (started role) first (by_run [] [] (lined mid host) _ (calls_at mid host first.writable).commands)

pub writable_taken : (line : Line) (out : List ℕ) → IsWritable line → IsWritable (record line { out = out })
writable_taken line out writable =
    record { long = writable.long; off = writable.off; low = writable.low; size = writable.size; pieces = writable.pieces; commands = writable.commands }
