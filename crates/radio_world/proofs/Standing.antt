-- Where a world stands, and words that find nothing there.
use Rattle.std.proofs.Common.{◌≡◌, ℕ, zero, suc, ◌+◌, ◌≤◌, true, false, List, [], ◌∷◌, ◌++◌, length, replicate, Option, refl, sym, ap, subst, ◌∙◌, arith}
use Rattle.bt_base.specs.Streams.{gained}
use Rattle.bt_base.proofs.PortLaws.{gained-nil}
use Rattle.push_terms.specs.declared.word.Side.TheVariants.{A, B}
use Rattle.push_terms.specs.declared.word.Word.{Word}
use Rattle.capture.specs.Entries.{capture_octets}
use Rattle.radio_model.specs.Queues.{IsSize}
use Rattle.radio_model.specs.Radio.{found, is_idle, is_quiet}
use Rattle.room_laws.specs.world_model.specs.Machines.{Upper}
use Rattle.room_laws.specs.world_model.specs.Stations.{Station, first_station}
use Rattle.room_laws.specs.world_model.specs.Turns.{FindsNothing}
use Rattle.room_laws.specs.world_model.specs.Worlds.{Happening, Misses, Runs, IsSettled, IsAtRest, all_entries, all_words}
use Rattle.run_laws.specs.station_laws.specs.WorldLaws.{AreSizes}
use Rattle.room_laws.specs.rest_laws.specs.Premises.{AreOrderly}
use Rattle.room_laws.specs.rest_laws.proofs.Resting.{settled_rests}
use Rattle.radio_world.specs.Hosts.{Asking, answering, JoinAnswers}
use Rattle.radio_world.specs.Scenes.{Scene, first_scene, Moment, moment, world_at, Plays, Stage, stage, moment_of, Advances}
use Rattle.radio_world.specs.Standing.{IsCount, starting, first_moment, IsReached, Stands}
use Rattle.radio_world.proofs.Starting.{orderly_from, runs_from, settled_from, rest_from}
use Rattle.radio_world.specs.Turning.{can_be_done}
use Rattle.radio_world.proofs.Advancing.{plays_then}
use Rattle.radio_world.proofs.Settling.{and_both, idle_of}
use Rattle.radio_world.proofs.Turned.{nothing_found}
use Rattle.radio_world.proofs.Spelled.{each_of_same}

pub reached_then :
    {S T G H P Q : Type 0} (U : Upper S G) (V : Upper T H) (RA : P → List G → P → Type 0) (RB : Q → List H → Q → Type 0) (words : List Word) (old new : Stage S T G H P Q)
    → Advances U V RA RB words old new → ((rest_a : List G) (rest_b : List H) → IsReached U V (moment_of old rest_a rest_b))
    → (rest_a : List G) (rest_b : List H) → IsReached U V (moment_of new rest_a rest_b)
reached_then U V RA RB words old new advances reached rest_a rest_b =
    let before = reached (advances.used_a ++ rest_a) (advances.used_b ++ rest_b) in
    record {
      size = before.size;
      count = before.count;
      names = before.names;
      sized = before.sized;
      counted = before.counted;
      few = before.few;
      first_a = before.first_a;
      first_b = before.first_b;
      idle = before.idle;
      happenings = before.happenings ++ advances.happenings;
      plays = plays_then U V before.happenings advances.happenings _ (moment_of old (advances.used_a ++ rest_a) (advances.used_b ++ rest_b)) (moment_of new rest_a rest_b) before.plays (advances.plays rest_a rest_b);
    }

-- where nothing has happened to either host
pub first_reached :
    {S T G H : Type 0} (U : Upper S G) (V : Upper T H) (s : S) (t : T) (size count : ℕ) (names : List (List ℕ)) (a : Asking S G) (b : Asking T H) → U.is_idle s ≡ true
    → IsSize size → IsCount count → length names ≤ 64
    → ((rest : List G) → answering rest a ≡ first_station (starting s U) A) → ((rest : List H) → answering rest b ≡ first_station (starting t V) B)
    → (rest_a : List G) (rest_b : List H) → IsReached U V (moment (first_scene size count names) (answering rest_a a) (answering rest_b b))
first_reached {S} {T} U V s t size count names a b idle sized counted few fresh_a fresh_b rest_a rest_b = record {
  size = size;
  count = count;
  names = names;
  sized = sized;
  counted = counted;
  few = few;
  first_a = s;
  first_b = t;
  idle = idle;
  happenings = [];
  plays = ap (λ (one : Station S). moment (first_scene size count names) one (answering rest_b b)) (fresh_a rest_a)
      ∙ ap (λ (one : Station T). moment (first_scene size count names) (first_station (starting s U) A) one) (fresh_b rest_b);
}

pub stands_then :
    {S T G H P Q : Type 0} (U : Upper S G) (V : Upper T H) (RA : P → List G → P → Type 0) (RB : Q → List H → Q → Type 0) (words : List Word)
    (old new : Scene) (a a' : Asking S G) (b b' : Asking T H) (shelf shelf' : P) (inbox inbox' : Q) (trace trace' : Option (List ℕ))
    → Advances U V RA RB words (stage old a b shelf inbox trace) (stage new a' b' shelf' inbox' trace')
    → ((rest_a : List G) (rest_b : List H) → IsReached U V (moment old (answering rest_a a) (answering rest_b b)))
    → ((rest_a : List G) (rest_b : List H) → IsSettled U V (world_at (moment new (answering rest_a a') (answering rest_b b')))) → Stands U V new a' b'
stands_then U V RA RB words old new a a' b b' shelf shelf' inbox inbox' trace trace' advances reached settled = record {
  reached = reached_then U V RA RB words (stage old a b shelf inbox trace) (stage new a' b' shelf' inbox' trace') advances reached;
  settled = settled;
}

-- what is noted aside, it is a run of the pure world
pub runs_of : {S T G H : Type 0} (U : Upper S G) (V : Upper T H) (happenings : List Happening) (old new : Moment S T) → Plays U V happenings old new → Runs U V happenings (world_at old) (world_at new)
runs_of U V [] old new same = ap world_at same
runs_of U V (happening ∷ happenings) old new (mid, happens, plays) = (world_at mid, happens.does, runs_of U V happenings mid new plays)

pub sizes_of : (size count : ℕ) → IsSize size → IsCount count → AreSizes size count
sizes_of size count (long, short) (some, few) = record { long = long; some = some; size_fits = omega arith; count_fits = omega arith }

pub at_rest :
    {S T G H : Type 0} (U : Upper S G) (V : Upper T H) (scene : Scene) (a : Asking S G) (b : Asking T H) → AreOrderly U V → Stands U V scene a b
    → (rest_a : List G) (rest_b : List H) → IsAtRest U V (world_at (moment scene (answering rest_a a) (answering rest_b b)))
at_rest U V scene a b orderly stands rest_a rest_b =
    let reached = stands.reached rest_a rest_b in
    let few = reached.few in
    let s = reached.first_a in
    let t = reached.first_b in
    let first = first_moment (starting s U) (starting t V) reached.size reached.count reached.names in
    let now = moment scene (answering rest_a a) (answering rest_b b) in
    rest_from U V s t (world_at now)
    (settled_rests (starting s U) (starting t V) reached.size reached.count reached.names reached.happenings (world_at now) (orderly_from U V s t reached.idle orderly)
    (sizes_of reached.size reached.count reached.sized reached.counted) (omega arith)
    (runs_from U V s t reached.happenings (world_at first) (world_at now) (runs_of U V reached.happenings first now reached.plays)) (settled_from U V s t (world_at now) (stands.settled rest_a rest_b)))

-- nothing is on its way to a host
pub stands_quiet : {S T G H : Type 0} (U : Upper S G) (V : Upper T H) (scene : Scene) (a : Asking S G) (b : Asking T H) → Stands U V scene a b → is_quiet scene.medium.radio ≡ true
stands_quiet U V scene a b stands =
    let settled = stands.settled [] [] in
    and_both (is_idle scene.medium.radio.a) (is_idle scene.medium.radio.b) (idle_of scene.medium.radio.a settled.still_a) (idle_of scene.medium.radio.b settled.still_b)

-- ---- words that find nothing

abbrev pub turned_to : Scene → ℕ → Scene
turned_to scene n = record scene { turned = n }

-- how many words were turned is nothing to what rests
still_at_rest :
    {S T G H : Type 0} (U : Upper S G) (V : Upper T H) (scene : Scene) (a : Station S) (b : Station T) (n : ℕ) → IsAtRest U V (world_at (moment scene a b)) → IsAtRest U V (world_at (moment (turned_to scene n) a b))
still_at_rest U V scene a b n rest = record { still_a = rest.still_a; still_b = rest.still_b; paged = rest.paged; calm = rest.calm }

still_settled : {S T G H : Type 0} (U : Upper S G) (V : Upper T H) (scene : Scene) (a : Station S) (b : Station T) (n : ℕ) → IsSettled U V (world_at (moment scene a b)) → IsSettled U V (world_at (moment (turned_to scene n) a b))
still_settled U V scene a b n settled = record {
  out_a = settled.out_a;
  out_b = settled.out_b;
  stopped_a = settled.stopped_a;
  stopped_b = settled.stopped_b;
  still_a = settled.still_a;
  still_b = settled.still_b;
  returned_a = settled.returned_a;
  returned_b = settled.returned_b;
  no_begin = settled.no_begin;
  no_end = settled.no_end;
}

misses_play :
    {S T G H : Type 0} (U : Upper S G) (V : Upper T H) (word : Word) (scene : Scene) (a : Station S) (b : Station T) → IsAtRest U V (world_at (moment scene a b))
    → FindsNothing U V (found word scene.medium.radio) scene.pushes a.upper b.upper → (count n m : ℕ) → m ≡ n + count
    → Plays U V (replicate count (Misses word)) (moment (turned_to scene n) a b) (moment (turned_to scene m) a b)
misses_play U V word scene a b rest none zero n m is =
    let same : m ≡ n = omega (arith, is) in
    ap (λ (k : ℕ). moment (turned_to scene k) a b) same
misses_play U V word scene a b rest none (suc count) n m is =
    let next : m ≡ (n + 1) + count = omega (arith, is) in (
      moment (turned_to scene (n + 1)) a b,
      record { does = (still_at_rest U V scene a b n rest, none, refl); notes = refl },
      misses_play U V word scene a b rest none count (n + 1) m next,
    )

miss_words : (word : Word) (count : ℕ) → all_words (replicate count (Misses word)) ≡ replicate count word
miss_words word zero = refl
miss_words word (suc count) = ap (λ ws. word ∷ ws) (miss_words word count)

miss_entries : (word : Word) (count : ℕ) → all_entries (replicate count (Misses word)) ≡ []
miss_entries word zero = refl
miss_entries word (suc count) = miss_entries word count

-- a word that finds nothing finds nothing any more, however often it is turned
pub misses_advance :
    {S T G H P Q : Type 0} (U : Upper S G) (V : Upper T H) (RA : P → List G → P → Type 0) (RB : Q → List H → Q → Type 0) (word : Word) (count : ℕ)
    (scene new : Scene) (a : Asking S G) (b : Asking T H) (shelf : P) (inbox : Q) (trace : Option (List ℕ)) → JoinAnswers RA → JoinAnswers RB
    → new ≡ turned_to scene (scene.turned + count)
    → ((rest_a : List G) (rest_b : List H) → IsAtRest U V (world_at (moment scene (answering rest_a a) (answering rest_b b))))
    → ((rest_a : List G) (rest_b : List H) → can_be_done U V (found word scene.medium.radio) scene.pushes (a.upper rest_a) (b.upper rest_b) ≡ false)
    → Advances U V RA RB (replicate count word) (stage scene a b shelf inbox trace) (stage new a b shelf inbox trace)
misses_advance {S} {T} U V RA RB word count scene new a b shelf inbox trace joins_a joins_b is rests none = record {
  happenings = replicate count (Misses word);
  words_are = miss_words word count;
  used_a = [];
  used_b = [];
  answered_a = joins_a.none shelf;
  answered_b = joins_b.none inbox;
  plays = λ rest_a rest_b.
      subst (λ (s : Scene). Plays U V (replicate count (Misses word)) (moment scene (answering rest_a a) (answering rest_b b)) (moment s (answering rest_a a) (answering rest_b b))) (sym is)
      (misses_play U V word scene (answering rest_a a) (answering rest_b b) (rests rest_a rest_b)
      (nothing_found U V (found word scene.medium.radio) scene.pushes (a.upper rest_a) (b.upper rest_b) (none rest_a rest_b)) count scene.turned (scene.turned + count) refl);
  written = sym (ap (λ es. gained trace (capture_octets es)) (miss_entries word count) ∙ gained-nil trace);
  each = each_of_same _ [] (miss_entries word count) tt;
}

-- and what stands, stands
pub misses_stand :
    {S T G H : Type 0} (U : Upper S G) (V : Upper T H) (scene new : Scene) (a : Asking S G) (b : Asking T H) (n : ℕ) → new ≡ turned_to scene n
    → ((rest_a : List G) (rest_b : List H) → IsReached U V (moment new (answering rest_a a) (answering rest_b b))) → Stands U V scene a b → Stands U V new a b
misses_stand U V scene new a b n is reached stands = record {
  reached = reached;
  settled = λ rest_a rest_b.
      subst (λ (s : Scene). IsSettled U V (world_at (moment s (answering rest_a a) (answering rest_b b)))) (sym is)
      (still_settled U V scene (answering rest_a a) (answering rest_b b) n (stands.settled rest_a rest_b));
}
