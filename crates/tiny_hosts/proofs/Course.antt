-- The world of the counter and the echo from its beginning to its end.
use Rattle.std.proofs.Common.{◌≡◌, ℕ, ◌≤◌, List, [], ◌∷◌, ◌++◌, length, Option, refl, sym, ap, ap₂, ◌∙◌, subst, append_assoc}
use Rattle.std.proofs.lemmas.Grind.{flat_map-append}
use Rattle.bt_base.specs.Streams.{gained}
use Rattle.push_terms.specs.declared.word.Side.TheVariants.{A, B}
use Rattle.push_terms.specs.declared.word.Word.{Word}
use Rattle.bt_base.proofs.PortLaws.{gained-gained}
use Rattle.radio_world.specs.capture.specs.Entries.{Entry, capture_octets}
use Rattle.radio_world.specs.capture.proofs.MoreLaws.{octets-in_parts}
use Rattle.host_link.specs.declared.role.Role.TheVariants.{Client, Server}
use Rattle.host_link.specs.Lines.{Line}
use Rattle.host_link.specs.PuttingOut.{started}
use Rattle.radio_world.specs.radio_model.specs.Queues.{IsSize}
use Rattle.line_laws.specs.world_model.specs.Machines.{Upper}
use Rattle.line_laws.specs.world_model.specs.Stations.{Station, Commanding, first_station}
use Rattle.line_laws.specs.world_model.specs.Worlds.{Happening, Tries, IsSettled, entries_of, words_in, all_entries, all_words}
use Rattle.radio_world.specs.Hosts.{Asking, answering}
use Rattle.radio_world.specs.Both.{Both}
use Rattle.radio_world.specs.Scenes.{Scene, first_scene, Moment, moment, world_at, Plays, Stage, stage, Advances}
use Rattle.radio_world.specs.Standing.{IsCount, first_moment, IsReached, Stands, last_ended, last_entries, all_outcomes}
use Rattle.line_laws.specs.Seeing.{seen}
use Rattle.line_laws.proofs.Seeing.{stations_are_seen}
use Rattle.tiny_hosts.specs.declared.counter.Counter.{Counter}
use Rattle.tiny_hosts.specs.declared.echo.Echo.{Echo}
use Rattle.tiny_hosts.specs.Minds.{Unasked}
use Rattle.tiny_hosts.specs.Counting.{counter, first_counter}
use Rattle.tiny_hosts.specs.CounterLaws.{counter_octets}
use Rattle.tiny_hosts.specs.Echoing.{echo, first_echo}
use Rattle.tiny_hosts.specs.EchoLaws.{echo_octets}
use Rattle.tiny_hosts.specs.Hosting.{Tiny, asking, IsReady, Unaltered}
use Rattle.tiny_hosts.specs.Playing.{IsPlayed}

plays_then : {S T G H : Type 0} (U : Upper S G) (V : Upper T H) (xs ys : List Happening) (old mid new : Moment S T) → Plays U V xs old mid → Plays U V ys mid new → Plays U V (xs ++ ys) old new
plays_then {S} {T} U V [] ys old mid new first second = subst (λ (m : Moment S T). Plays U V ys m new) first second
plays_then U V (x ∷ xs) ys old mid new first second = (first.0, first.1, plays_then U V xs ys first.0 mid new first.2 second)

written_then : (trace trace' trace'' : Option (List ℕ)) (xs ys : List Entry) → trace' ≡ gained trace (capture_octets xs) → trace'' ≡ gained trace' (capture_octets ys) → trace'' ≡ gained trace (capture_octets (xs ++ ys))
written_then trace trace' trace'' xs ys first second =
    second ∙ ap (λ t. gained t (capture_octets ys)) first ∙ gained-gained trace (capture_octets xs) (capture_octets ys) ∙ ap (gained trace) (sym (octets-in_parts xs ys))

-- ---- the beginning

-- both put their first command out
abbrev beginning : List Happening
beginning = Tries A Commanding ∷ Tries B Commanding ∷ []

abbrev begun : Scene → Moment Counter Echo
begun scene = moment scene (seen first_counter (started Client)) (seen first_echo (started Server))

begins : (size count : ℕ) (names : List (List ℕ)) → Plays counter echo beginning (first_moment counter echo size count names) (begun (first_scene size count names))
begins size count names =
    let scene = first_scene size count names in
    let one = (stations_are_seen counter A counter_octets).makes in
    let two = (stations_are_seen echo B echo_octets).makes in (
      moment scene one.0 (first_station echo B),
      record { does = (one.0, one.1, refl); notes = refl },
      (
        moment scene one.0 two.0,
        record { does = (two.0, two.1, refl); notes = refl },
        ap₂ (λ (a : Station Counter) (b : Station Echo). moment scene a b) one.2 two.2,
      ),
    )

-- a world that is made
abbrev pub first_world : (size count : ℕ) → List (List ℕ) → Both (Tiny Counter) (Tiny Echo)
first_world size count names = record { a = record { mind = first_counter; line = started Client; held = [] }; b = record { mind = first_echo; line = started Server; held = [] }; scene = first_scene size count names }

-- ---- the whole

-- what both are between two calls
abbrev pub standing : Scene → Tiny Counter → Tiny Echo → Option (List ℕ) → Stage Counter Echo Unasked Unasked (Unit {0}) (Unit {0})
standing scene a b trace = stage scene (asking a.mind a.line) (asking b.mind b.line) tt tt trace

abbrev at_rest : Scene → Tiny Counter → Tiny Echo → Moment Counter Echo
at_rest scene a b = moment scene (seen a.mind a.line) (seen b.mind b.line)

plays_on : (words : List Word) (old new : Scene) (a a' : Tiny Counter) (b b' : Tiny Echo) (trace trace' : Option (List ℕ)) (advances : Advances counter echo Unaltered Unaltered words (standing old a b trace) (standing new a' b' trace'))
    → Plays counter echo advances.happenings (at_rest old a b) (at_rest new a' b')
plays_on words old new a a' b b' trace trace' advances = advances.plays [] []

pub played :
    (size count : ℕ) (names : List (List ℕ)) (words : List Word) (first mid last end : Scene) (a a' a'' : Tiny Counter) (b b' b'' : Tiny Echo) (trace trace' trace'' trace''' : Option (List ℕ))
    → record { a = a; b = b; scene = first } ≡ first_world size count names
    → Advances counter echo Unaltered Unaltered [] (standing first a b trace) (standing mid a' b' trace') → Advances counter echo Unaltered Unaltered words (standing mid a' b' trace') (standing last a'' b'' trace'')
    → IsSettled counter echo (world_at (at_rest last a'' b''))
    → end.medium ≡ last.medium → end.pushes.outcomes ≡ all_outcomes (last_ended (counter.outcome a''.mind) last.pushes)
    → trace''' ≡ gained trace'' (capture_octets (last_entries (counter.outcome a''.mind) last.pushes))
    → IsPlayed size count names words trace trace''' (record { a = a''; b = b''; scene = end })
played size count names words first mid last end a a' a'' b b' b'' trace trace' trace'' trace''' fresh one two settled medium outcomes written = record {
  happenings = beginning ++ (one.happenings ++ two.happenings);
  at = at_rest last a'' b'';
  plays = plays_then counter echo beginning (one.happenings ++ two.happenings) _ (at_rest first a b) _ (subst (λ (w : Both (Tiny Counter) (Tiny Echo)). Plays counter echo beginning (first_moment counter echo size count names) (at_rest w.scene w.a w.b)) (sym fresh) (begins size count names))
      (plays_then counter echo one.happenings two.happenings (at_rest first a b) (at_rest mid a' b') (at_rest last a'' b'') (plays_on [] first mid a a' b b' trace trace' one) (plays_on words mid last a' a'' b' b'' trace' trace'' two));
  words_are = flat_map-append words_in one.happenings two.happenings ∙ (ap (λ (w : List Word). w ++ all_words two.happenings) one.words_are ∙ two.words_are);
  settled = settled;
  host_a = refl;
  host_b = refl;
  medium = medium;
  outcomes = outcomes;
  written =
      let both = written_then trace trace' trace'' (all_entries one.happenings) (all_entries two.happenings) one.written two.written in
      let all : trace'' ≡ gained trace (capture_octets (all_entries (one.happenings ++ two.happenings))) = both ∙ ap (λ es. gained trace (capture_octets es)) (sym (flat_map-append entries_of one.happenings two.happenings)) in
      written_then trace trace'' trace''' (all_entries (one.happenings ++ two.happenings)) (last_entries (counter.outcome a''.mind) last.pushes) all written;
}
