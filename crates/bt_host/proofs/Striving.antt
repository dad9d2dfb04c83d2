-- What a host does by itself, as efforts of its station.
use Rattle.std.proofs.Common.{◌≡◌, ◌∙◌, ℕ, zero, suc, ◌+◌, ◌-◌, ◌&&◌, not, Bool, true, false, List, [], ◌∷◌, ◌++◌, length, replicate, Option, Some, None, refl, sym, ap, subst, arith, true≢false}
use Rattle.std.proofs.lemmas.List.{length-map}
use Rattle.shelf_model.specs.acl_fragments.specs.Cuts.{cut}
use Rattle.shelf_model.specs.hci_packets.specs.declared.acl.Boundary.TheVariants.{First}
use Rattle.bt_base.specs.declared.settings.Settings.{Settings}
use Rattle.push_terms.specs.declared.word.Side.{Side}
use Rattle.push_terms.specs.declared.word.Side.TheVariants.{A, B}
use Rattle.radio_world.specs.radio_model.specs.Controllers.{address}
use Rattle.host_link.specs.Lines.{Line}
use Rattle.host_link.specs.PuttingOut.{put_pieces, put_command, take_pdu, connecting, leaving}
use Rattle.shelf_model.specs.world_model.specs.Machines.{Upper}
use Rattle.shelf_model.specs.world_model.specs.Stations.{Station, Effort}
use Rattle.shelf_model.specs.world_model.specs.Stations as station
use Rattle.shelf_model.specs.station_laws.specs.Seen.{order_of}
use Rattle.shelf_model.specs.station_laws.specs.Striving.{Makes, Strives}
use Rattle.shelf_model.specs.station_laws.proofs.Striving.{pieces_go, pdus_go, commands_go}
use Rattle.shelf_model.specs.host_model.specs.Circumstances.{Circumstance}
use Rattle.shelf_model.specs.host_model.specs.Profiles.{Profile}
use Rattle.shelf_model.specs.host_model.specs.Hosts.{has_more}
use Rattle.shelf_model.specs.host_model.specs.Settings.{SetHost, set_to, said_with, with_settings}
use Rattle.shelf_model.specs.host_model.proofs.Setting.{hosts_say_octets}
use Rattle.radio_world.specs.Hosts.{MakesEfforts}
use Rattle.line_laws.specs.Seeing.{seen, IsSeen}
use Rattle.line_laws.specs.Laws.{GoesAsSeen}
use Rattle.line_laws.proofs.Seeing.{seen_station, strives_are_seen}
use Rattle.line_laws.proofs.Linking.{calls_are_seen, ends_are_seen}
use Rattle.bt_host.specs.Stopping.{none_next}
use Rattle.bt_host.specs.Stacks.{Standing, Deed, Putting, Saying, Ending, Paging, Commanding, DoesDeed, DoesAll, MayPage}

-- ---- how many pieces and commands are put out

pieces_put : {S G : Type 0} (U : Upper S G) (side : Side) (count : ℕ) (old new : Station S) → Makes U side (replicate count station.Putting) old new → length old.pieces ≡ count + length new.pieces
pieces_put U side zero old new made = let same = ap (λ s. length s.pieces) made in omega (arith, same)
pieces_put U side (suc count) old new (mid, puts, made) =
    let rest = pieces_put U side count mid new made in
    let one = ap length puts.first in
    let left = ap (λ s. length s.pieces) puts.new_is in
    omega (arith, rest, one, left)

commands_put : {S G : Type 0} (U : Upper S G) (side : Side) (count : ℕ) (old new : Station S) → Makes U side (replicate count station.Commanding) old new → length old.waiting ≡ count + length new.waiting
commands_put U side zero old new made = let same = ap (λ s. length s.waiting) made in omega (arith, same)
commands_put U side (suc count) old new (mid, puts, made) =
    let rest = commands_put U side count mid new made in
    let one = ap length puts.first in
    let left = ap (λ s. length s.waiting) puts.new_is in
    omega (arith, rest, one, left)

as_many : (count a b c : ℕ) → a ≡ count + b → b ≡ c → count ≡ a - c
as_many count a b c whole same = omega (arith, whole, same)

abbrev pdu_in : {X : Type 0} → List ℕ → Option (List ℕ × X) → List ℕ
pdu_in other None = other
pdu_in other (Some one) = one.0

-- one PDU is said next
same_pdu : {X : Type 0} (said : Option (List ℕ × X)) (p q : List ℕ) (x y : X) → said ≡ Some (p, x) → said ≡ Some (q, y) → p ≡ q
same_pdu said p q x y first second = ap (pdu_in q) (sym first ∙ second)

-- ---- the efforts of a deed

abbrev pub efforts_of : Deed → Line → List Effort
efforts_of Putting line = replicate (length line.pieces - length (put_pieces line).pieces) station.Putting
efforts_of (Saying pdu) line = station.Taking ∷ replicate (length (cut line.size First pdu) - length (take_pdu pdu line).pieces) station.Putting
efforts_of Ending line = station.Leaving ∷ []
efforts_of Paging line = station.Asking ∷ []
efforts_of Commanding line = replicate (length line.commands.waiting - length (put_command line).commands.waiting) station.Commanding

abbrev pub line_after : List ℕ → Deed → Line → Line
line_after paged Putting line = put_pieces line
line_after paged (Saying pdu) line = take_pdu pdu line
line_after paged Ending line = leaving line.link line
line_after paged Paging line = connecting paged line
line_after paged Commanding line = put_command line

line_is : {S : Type 0} (P : Profile S) (deed : Deed) (old new : Standing S) → DoesDeed P deed old new → (new.line ≡ line_after old.paged deed old.line) × (new.paged ≡ old.paged)
line_is P Putting old new does = (ap (λ s. s.line) does, ap (λ s. s.paged) does)
line_is P (Saying pdu) old new does = (does.line, does.paged)
line_is P Ending old new does = (ap (λ s. s.line) does.1, ap (λ s. s.paged) does.1)
line_is P Paging old new does = (ap (λ s. s.line) does.1, ap (λ s. s.paged) does.1)
line_is P Commanding old new does = (ap (λ s. s.line) does, ap (λ s. s.paged) does)

abbrev pub all_efforts : List ℕ → List Deed → Line → List Effort
all_efforts paged [] line = []
all_efforts paged (deed ∷ deeds) line = efforts_of deed line ++ all_efforts paged deeds (line_after paged deed line)

both_are : (more leaves : Bool) → more ≡ false → leaves ≡ true → (not more && leaves) ≡ true
both_are true leaves off on = absurd (true≢false off)
both_are false leaves off on = on

makes_then : {S G : Type 0} (U : Upper S G) (side : Side) (xs ys : List Effort) (a b c : Station S) → MakesEfforts U side xs a b → MakesEfforts U side ys b c → MakesEfforts U side (xs ++ ys) a c
makes_then U side [] ys a b c first second = subst (λ (s : Station _). MakesEfforts U side ys s c) first second
makes_then U side (x ∷ xs) ys a b c (mid, one, more) second = (mid, one, makes_then U side xs ys mid b c more second)

-- a host that pages is host a, and pages device b
abbrev pub Pages : {S : Type 0} → (Settings → Profile S) → Side → List ℕ → Type 0
Pages {S} profile side paged = (settings : Settings) (old : Standing S) → MayPage (profile settings) old → (side ≡ A) × (paged ≡ address B)

module _ {S : Type 0} (profile : Settings → Profile S) (side : Side) (paged : List ℕ) (pages : Pages profile side paged) where
  abbrev U : Upper (SetHost S) Circumstance
  U = with_settings profile

  -- a host with its line goes as the station that its octets tell of
  abbrev pub Goes : List Effort → (settings : Settings) → Standing S → Standing S → Type 0
  Goes efforts settings old new = GoesAsSeen U side efforts (seen (set_to settings old.host) old.line) (set_to settings new.host) new.line

  -- efforts of the station, which are no other than those
  strove : (efforts efforts' : List Effort) (settings : Settings) (old : Standing S) (upper : SetHost S) (line : Line) → efforts ≡ efforts' → IsSeen side (set_to settings old.host) old.line
      → Strives U side 0 efforts (seen (set_to settings old.host) old.line) upper line → GoesAsSeen U side efforts' (seen (set_to settings old.host) old.line) upper line
  strove efforts efforts' settings old upper line same is strives =
      subst (λ (es : List Effort). GoesAsSeen U side es (seen (set_to settings old.host) old.line) upper line) same
      (strives_are_seen U side efforts (set_to settings old.host) upper old.line line (hosts_say_octets profile) is strives)

  called : (side' : Side) (paged' : List ℕ) (settings : Settings) (old : Standing S) → side' ≡ A → paged' ≡ address B → old.paged ≡ paged' → MayPage (profile settings) old → IsSeen side' (set_to settings old.host) old.line
      → GoesAsSeen U side' (station.Asking ∷ []) (seen (set_to settings old.host) old.line) (set_to settings old.host) (connecting old.paged old.line)
  called A paged' settings old first b to may is =
      subst (λ (p : List ℕ). GoesAsSeen U A (station.Asking ∷ []) (seen (set_to settings old.host) old.line) (set_to settings old.host) (connecting p old.line)) (sym (to ∙ b))
      (calls_are_seen U (set_to settings old.host) old.line (hosts_say_octets profile) is may.wants may.off may.unasked)
  called B paged' settings old first b to may is = absurd cc

  deed_goes : (deed : Deed) (settings : Settings) (old new : Standing S) → old.paged ≡ paged → DoesDeed (profile settings) deed old new → IsSeen side (set_to settings old.host) old.line → Goes (efforts_of deed old.line) settings old new
  deed_goes Putting settings old new to does is =
      let upper = set_to settings old.host in
      let (count, strives) = pieces_go U side 0 old.line (seen upper old.line) (seen_station side upper old.line is) in
      let whole = pieces_put U side count (seen upper old.line) strives.after strives.makes in
      let left = ap (λ s. length s.pieces) strives.is_station.seen in
      let same = as_many count (length old.line.pieces) (length strives.after.pieces) (length (put_pieces old.line).pieces) whole left in
      subst (λ (s : Standing S). Goes (efforts_of Putting old.line) settings old s) (sym does)
      (strove (replicate count station.Putting) (efforts_of Putting old.line) settings old upper (put_pieces old.line) (ap (λ n. replicate n station.Putting) same) is strives)
  deed_goes (Saying pdu) settings old new to does is =
      let upper = set_to settings old.host in
      let after = set_to settings new.host in
      let (count, strives) = pdus_go U side 0 old.line (seen upper old.line) pdu after (seen_station side upper old.line is) does.may (ap (said_with settings) does.next) in
      let (mid, takes, puts) = strives.makes in
      let whole = pieces_put U side count mid strives.after puts in
      let spoken = same_pdu (U.next upper) takes.pdu pdu takes.after after takes.next (ap (said_with settings) does.next) in
      let all = ap (λ s. length s.pieces) takes.new_is ∙ ap (λ xs. length (cut old.line.size First xs)) spoken in
      let left = ap (λ s. length s.pieces) strives.is_station.seen in
      let same = as_many count (length (cut old.line.size First pdu)) (length strives.after.pieces) (length (take_pdu pdu old.line).pieces) (sym all ∙ whole) left in
      subst (λ (l : Line). GoesAsSeen U side (efforts_of (Saying pdu) old.line) (seen upper old.line) after l) (sym does.line)
      (strove (station.Taking ∷ replicate count station.Putting) (efforts_of (Saying pdu) old.line) settings old after (take_pdu pdu old.line) (ap (λ n. station.Taking ∷ replicate n station.Putting) same) is strives)
  deed_goes Ending settings old new to (may, does) is =
      subst (λ (s : Standing S). Goes (efforts_of Ending old.line) settings old s) (sym does)
      (ends_are_seen U side (set_to settings old.host) old.line (hosts_say_octets profile) is may.none_waits (ap (said_with settings) (none_next (profile settings) old.host may.all_said))
      (both_are (has_more old.host) ((profile settings).leaves_link old.host.profile) may.all_said may.leaves) may.may)
  deed_goes Paging settings old new to (may, does) is =
      let pages_b = pages settings old may in
      subst (λ (s : Standing S). Goes (efforts_of Paging old.line) settings old s) (sym does)
      (called side paged settings old pages_b.0 pages_b.1 to may is)
  deed_goes Commanding settings old new to does is =
      let upper = set_to settings old.host in
      let (count, few, strives) = commands_go U side 0 old.line (seen upper old.line) (seen_station side upper old.line is) in
      let whole = commands_put U side count (seen upper old.line) strives.after strives.makes in
      let left = ap (λ s. length s.waiting) strives.is_station.seen in
      let first = length-map old.line.commands.waiting order_of in
      let last = length-map (put_command old.line).commands.waiting order_of in
      let same = as_many count (length old.line.commands.waiting) (length strives.after.waiting) (length (put_command old.line).commands.waiting) (sym first ∙ whole) (left ∙ last) in
      subst (λ (s : Standing S). Goes (efforts_of Commanding old.line) settings old s) (sym does)
      (strove (replicate count station.Commanding) (efforts_of Commanding old.line) settings old upper (put_command old.line) (ap (λ n. replicate n station.Commanding) same) is strives)

  -- one after the other
  pub all_go : (deeds : List Deed) (settings : Settings) (old new : Standing S) → old.paged ≡ paged → DoesAll (profile settings) deeds old new → IsSeen side (set_to settings old.host) old.line → Goes (all_efforts paged deeds old.line) settings old new
  all_go [] settings old new to does is =
      subst (λ (s : Standing S). Goes [] settings old s) (sym does) (record { is_seen = is; makes = refl })
  all_go (deed ∷ deeds) settings old new to (mid, one, more) is =
      let first = deed_goes deed settings old mid to one is in
      let there = line_is (profile settings) deed old mid one in
      let there_line : mid.line ≡ line_after paged deed old.line = there.0 ∙ ap (λ (p : List ℕ). line_after p deed old.line) to in
      let second = subst (λ (l : Line). Goes (all_efforts paged deeds l) settings mid new) there_line (all_go deeds settings mid new (there.1 ∙ to) more first.is_seen) in
      record {
        is_seen = second.is_seen;
        makes = makes_then U side (efforts_of deed old.line) (all_efforts paged deeds (line_after paged deed old.line)) (seen (set_to settings old.host) old.line) (seen (set_to settings mid.host) mid.line) (seen (set_to settings new.host) new.line) first.makes second.makes;
      }
