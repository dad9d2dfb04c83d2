-- What a tiny host does by itself are efforts of its station.
use Rattle.std.proofs.Common.{◌≡◌, ℕ, ◌||◌, ◌&&◌, not, Bool, true, false, List, [], ◌∷◌, ◌++◌, map, replicate, Option, Some, None, is_some, refl, sym, ap, ap₂, ◌∙◌, subst}
use Rattle.std.specs.List.{list_any}
use Rattle.push_terms.specs.declared.word.Side.{Side}
use Rattle.push_terms.specs.declared.word.Side.TheVariants.{A, B}
use Rattle.radio_world.specs.radio_model.specs.Controllers.{address}
use Rattle.host_link.specs.declared.host_command.HostCommand.{HostCommand}
use Rattle.host_link.specs.HostCommands as code
use Rattle.host_link.specs.Lines.{Line}
use Rattle.host_link.specs.PuttingOut.{can_take_pdu, take_pdu, put_pieces, put_command, connecting, leaving}
use Rattle.host_link.specs.Calling.{may_end}
use Rattle.line_laws.specs.world_model.specs.Machines.{Upper}
use Rattle.line_laws.specs.world_model.specs.Stations.{Order, Page, Station, Effort, Taking, Putting, Asking, Leaving, Commanding, asks}
use Rattle.line_laws.specs.station_laws.specs.Seen.{order_of}
use Rattle.line_laws.specs.station_laws.proofs.Striving.{pieces_go, pdus_go, commands_go}
use Rattle.radio_world.specs.Hosts.{MakesEfforts}
use Rattle.line_laws.specs.Laws.{GoesAsSeen}
use Rattle.line_laws.specs.Seeing.{seen, SaysOctets, is_asking, IsSeen, IsSpent}
use Rattle.line_laws.proofs.Seeing.{seen_station, strives_are_seen}
use Rattle.line_laws.proofs.Linking.{same_asking, calls_are_seen, ends_are_seen}
use Rattle.tiny_hosts.specs.Minds.{Unasked}
use Rattle.tiny_hosts.specs.Hosting.{GoesOn, WaitsMore, IsStuck, IsReady}
use Rattle.tiny_hosts.proofs.Lines.{pieces_stay, command_stays}

makes_then : {M : Type 0} (U : Upper M Unasked) (side : Side) (xs ys : List Effort) (old mid new : Station M) → MakesEfforts U side xs old mid → MakesEfforts U side ys mid new → MakesEfforts U side (xs ++ ys) old new
makes_then {M} U side [] ys old mid new first second = subst (λ (s : Station M). MakesEfforts U side ys s new) first second
makes_then U side (x ∷ xs) ys old mid new first second = (first.0, first.1, makes_then U side xs ys first.0 mid new first.2 second)

pub goes_none : {M : Type 0} (U : Upper M Unasked) (side : Side) (mind : M) (line : Line) → IsSeen side mind line → GoesOn U side mind mind line line
goes_none U side mind line is = record { is_seen = is; efforts = []; makes = refl }

pub goes_then : {M : Type 0} (U : Upper M Unasked) (side : Side) (m m' m'' : M) (l l' l'' : Line) → GoesOn U side m m' l l' → GoesOn U side m' m'' l' l'' → GoesOn U side m m'' l l''
goes_then U side m m' m'' l l' l'' one two = record {
  is_seen = two.is_seen;
  efforts = one.efforts ++ two.efforts;
  makes = makes_then U side one.efforts two.efforts (seen m l) (seen m' l') (seen m'' l'') one.makes two.makes;
}

goes_as : {M : Type 0} (U : Upper M Unasked) (side : Side) (m m' : M) (l l' : Line) (efforts : List Effort) → GoesAsSeen U side efforts (seen m l) m' l' → GoesOn U side m m' l l'
goes_as U side m m' l l' efforts goes = record { is_seen = goes.is_seen; efforts = efforts; makes = goes.makes }

-- ---- pieces, PDUs and a command

pub puts_pieces : {M : Type 0} (U : Upper M Unasked) (side : Side) (mind : M) (line : Line) → SaysOctets U → IsSeen side mind line → GoesOn U side mind mind line (put_pieces line)
puts_pieces U side mind line octets is =
    let went = pieces_go U side 0 line (seen mind line) (seen_station side mind line is) in
    goes_as U side mind mind line (put_pieces line) (replicate went.0 Putting) (strives_are_seen U side (replicate went.0 Putting) mind mind line (put_pieces line) octets is went.1)

pub takes_pdu : {M : Type 0} (U : Upper M Unasked) (side : Side) (mind after : M) (pdu : List ℕ) (line : Line) → SaysOctets U → IsSeen side mind line → can_take_pdu line ≡ true → U.next mind ≡ Some (pdu, after) → GoesOn U side mind after line (take_pdu pdu line)
takes_pdu U side mind after pdu line octets is may next =
    let went = pdus_go U side 0 line (seen mind line) pdu after (seen_station side mind line is) may next in
    goes_as U side mind after line (take_pdu pdu line) (Taking ∷ replicate went.0 Putting) (strives_are_seen U side (Taking ∷ replicate went.0 Putting) mind after line (take_pdu pdu line) octets is went.1)

pub puts_command : {M : Type 0} (U : Upper M Unasked) (side : Side) (mind : M) (line : Line) → SaysOctets U → IsSeen side mind line → GoesOn U side mind mind line (put_command line)
puts_command U side mind line octets is =
    let went = commands_go U side 0 line (seen mind line) (seen_station side mind line is) in
    goes_as U side mind mind line (put_command line) (replicate went.0 Commanding) (strives_are_seen U side (replicate went.0 Commanding) mind mind line (put_command line) octets is went.2)

-- ---- links

calls_by : {M : Type 0} (U : Upper M Unasked) (side : Side) (mind : M) (line : Line) → (side ≡ B → (m : M) → U.wants_link m ≡ false) → SaysOctets U → IsSeen side mind line → U.wants_link mind ≡ true → line.link ≡ None → is_asking line ≡ false
    → (side ≡ A) × GoesAsSeen U side (Asking ∷ []) (seen mind line) mind (connecting (address B) line)
calls_by U A mind line called octets is wants off free = (refl, calls_are_seen U mind line octets is wants off free)
calls_by U B mind line called octets is wants off free = let none = called refl mind in let both : true ≡ false = sym wants ∙ none in cc

any_more : (xs : List Order) → list_any asks (xs ++ Page ∷ []) ≡ true
any_more [] = refl
any_more (x ∷ xs) = or_true (asks x) (list_any asks (xs ++ Page ∷ [])) (any_more xs)
  where
    or_true : (a b : Bool) → b ≡ true → (a || b) ≡ true
    or_true true b is = refl
    or_true false b is = is

or_behind : (a b : Bool) → b ≡ true → (a || b) ≡ true
or_behind true b is = refl
or_behind false b is = is

asked_by : {M : Type 0} (U : Upper M Unasked) (side : Side) (mind : M) (line line' : Line) → side ≡ A → MakesEfforts U side (Asking ∷ []) (seen mind line) (seen mind line') → is_asking line' ≡ true
asked_by {M} U A mind line line' is makes =
    let does = makes.1 in
    let page : seen mind line' ≡ record (seen mind line) { waiting = (seen mind line).waiting ++ Page ∷ [] } = makes.2 ∙ does.new_is in
    let waits : list_any asks (map order_of line'.commands.waiting) ≡ true = ap (λ (s : Station M). list_any asks s.waiting) page ∙ any_more (map order_of line.commands.waiting) in
    or_behind line'.asked _ (sym (same_asking line'.commands.waiting) ∙ waits)
asked_by U B mind line line' is makes = cc

-- it asks for a link
pub record Called {M : Type 0} (U : Upper M Unasked) (side : Side) (mind : M) (line line' : Line) : Type 0 where
  pub goes : GoesOn U side mind mind line line'
  pub asks : is_asking line' ≡ true

pub calls : {M : Type 0} (U : Upper M Unasked) (side : Side) (mind : M) (line : Line) → (side ≡ B → (m : M) → U.wants_link m ≡ false) → SaysOctets U → IsSeen side mind line → U.wants_link mind ≡ true → line.link ≡ None → is_asking line ≡ false
    → Called U side mind line (connecting (address B) line)
calls U side mind line called octets is wants off free =
    let went = calls_by U side mind line called octets is wants off free in
    record {
      goes = goes_as U side mind mind line (connecting (address B) line) (Asking ∷ []) went.1;
      asks = asked_by U side mind line (connecting (address B) line) went.0 went.1.makes;
    }

pub ends : {M : Type 0} (U : Upper M Unasked) (side : Side) (mind : M) (line : Line) → SaysOctets U → IsSeen side mind line → line.pieces ≡ [] → U.next mind ≡ None → U.leaves_link mind ≡ true → may_end line ≡ true
    → GoesOn U side mind mind line (leaving line.link line)
ends U side mind line octets is none silent leaves may = goes_as U side mind mind line (leaving line.link line) (Leaving ∷ []) (ends_are_seen U side mind line octets is none silent leaves may)

-- ---- all of it

-- nothing that takes part in pieces changed
stuck_as : (line line' : Line) → WaitsMore line line' → IsStuck line → IsStuck line'
stuck_as line line' same stuck = subst IsStuck (sym same) stuck

takes_as : (line line' : Line) → WaitsMore line line' → can_take_pdu line' ≡ can_take_pdu line
takes_as line line' same = ap can_take_pdu same

pub ready : {M : Type 0} (U : Upper M Unasked) (side : Side) (mind : M) (said called left : Line) → IsSeen side mind (put_command left) → WaitsMore said called → WaitsMore called left → IsStuck said
    → (can_take_pdu said ≡ true → U.next mind ≡ None)
    → (U.wants_link mind ≡ true → called.link ≡ None → is_asking called ≡ true) → (is_asking called ≡ true → is_asking left ≡ true)
    → (left.pieces ≡ [] → U.next mind ≡ None → U.leaves_link mind ≡ true → may_end left ≡ false)
    → IsReady U side mind (put_command left)
ready U side mind said called left is first second stuck silent asked keeps ended = record {
  is_seen = is;
  spent = λ none.
      let same : put_command left ≡ left = command_stays left none in
      let stuck' : IsStuck left = stuck_as called left second (stuck_as said called first stuck) in
      subst (λ (l : Line). IsSpent U side mind l) (sym same) (record {
        pieces = pieces_stay left stuck';
        command = same;
        none_next = λ may. silent (sym (takes_as said called first) ∙ (sym (takes_as called left second) ∙ may));
        ends = ended;
        calls = λ wants off. keeps (asked wants (ap (λ (l : Line). l.link) (sym second) ∙ off));
      });
}
