-- What is so of each run on the way is so at each moment of the capture of the run.
use Rattle.std.proofs.Common.{◌≡◌, false, List, [], ◌∷◌, ◌++◌, Option, refl, sym, ap, subst, ◌∙◌, append_assoc, append-nil}
use Rattle.std.proofs.lemmas.List.Concat.{flat_map-append}
use Rattle.inbox_laws.specs.bt_base.specs.Objects.{Contents}
use Rattle.inbox_laws.specs.push_script.specs.declared.scenario.Scenario.{Scenario}
use Rattle.inbox_laws.specs.push_script.specs.Runs.{is_lossy}
use Rattle.inbox_laws.specs.push_terms.specs.declared.outcome.Outcome.{Outcome}
use Rattle.inbox_laws.specs.push_terms.specs.declared.word.Side.{Side}
use Rattle.inbox_laws.specs.push_terms.specs.declared.word.Word.{Word}
use Rattle.inbox_laws.specs.capture.specs.Entries.{Entry, Ended}
use Rattle.inbox_laws.specs.capture.specs.Histories.{AtEach}
use Rattle.inbox_laws.specs.capture.specs.Links.{Linking}
use Rattle.inbox_laws.specs.capture.proofs.HistoryLaws.{at_each-more, at_each-none, at_each-whole}
use Rattle.std.specs.Prelude.{ℕ, pos, map, option_to_list}
use Rattle.inbox_laws.specs.link_talk.specs.Accounts.{credits}
use Rattle.inbox_laws.specs.link_talk.specs.Captures.{last_talk}
use Rattle.inbox_laws.specs.link_talk.specs.Sayings.{talk}
use Rattle.inbox_laws.specs.world_model.specs.Machines.{News, Upper}
use Rattle.inbox_laws.specs.host_model.specs.Circumstances.{Circumstance}
use Rattle.inbox_laws.specs.world_model.specs.Worlds.{World, Happening, Tries, Departure, GivingBack, Piecemeal, Answering, Turns, Misses, Opens, Closes, Runs, entries_of, all_entries, words_in, all_words}
use Rattle.inbox_laws.specs.scenario_laws.specs.Captures.{client_of, server_of, BothHosts, beginning, Ran}
use Rattle.inbox_laws.specs.scenario_laws.specs.Parties.{party_of}
use Rattle.inbox_laws.specs.scenario_laws.proofs.Fronts.{ended_links, with_ends}
use Rattle.inbox_laws.specs.pair_laws.specs.Granted.{answered_by}
use Rattle.inbox_laws.specs.pair_laws.specs.Keeping.{LosesNothing}
use Rattle.inbox_laws.specs.pair_laws.proofs.Answered.{runs-so}
use Rattle.request_laws.proofs.Feeding.{all_ahead}
use Rattle.credit_laws.specs.Fronts.{HappenedWith, IsGentle, CreditsAreKept}
use Rattle.credit_laws.specs.Kept.{IsSolvent, StaysSolvent}

-- ---- happenings

abbrev IsShort : List Entry → Type 0
IsShort [] = Unit {0}
IsShort (entry ∷ []) = Unit {0}
IsShort (entry ∷ next ∷ more) = ⊥

one_at_most : (happening : Happening) → IsShort (entries_of happening)
one_at_most (Tries side effort) = tt
one_at_most (Departure side order) = tt
one_at_most (GivingBack side) = tt
one_at_most (Piecemeal side handle piece) = tt
one_at_most (Answering side answer) = tt
one_at_most (Turns ordinal word) = tt
one_at_most (Misses word) = tt
one_at_most (Opens push name) = tt
one_at_most (Closes push outcome) = tt

module _ (P : List Entry → Type 0) where
  short_more : (past more : List Entry) → IsShort more → AtEach P past → P (past ++ more) → AtEach P (past ++ more)
  short_more past [] short each now = subst (AtEach P) (sym (append-nil past)) each
  short_more past (entry ∷ []) short each now = at_each-more P past entry each now
  short_more past (entry ∷ next ∷ more) short each now = absurd short

  each_on : (happenings front later : List Happening) → front ++ later ≡ happenings → AtEach P (all_entries front) → ((one rest : List Happening) → one ++ rest ≡ happenings → P (all_entries one)) → AtEach P (all_entries happenings)
  each_on happenings front [] is each holds = subst (λ (hs : List Happening). AtEach P (all_entries hs)) (sym (append-nil front) ∙ is) each
  each_on happenings front (next ∷ later) is each holds =
      let on = front ++ next ∷ [] in
      let is_on : on ++ later ≡ happenings = append_assoc front (next ∷ []) later ∙ is in
      let grown : all_entries on ≡ all_entries front ++ entries_of next = flat_map-append entries_of front (next ∷ []) ∙ ap (λ (es : List Entry). all_entries front ++ es) (append-nil (entries_of next)) in
      each_on happenings on later is_on (subst (AtEach P) (sym grown) (short_more (all_entries front) (entries_of next) (one_at_most next) each (subst P grown (holds on later is_on)))) holds

  at_each-front : (happenings : List Happening) → P [] → ((front later : List Happening) → front ++ later ≡ happenings → P (all_entries front)) → AtEach P (all_entries happenings)
  at_each-front happenings none holds = each_on happenings [] happenings refl (at_each-none P none) holds

runs_front : {S T G H : Type 0} (U : Upper S G) (V : Upper T H) (front later : List Happening) (old new : World S T) → Runs U V (front ++ later) old new → (mid : World S T) × Runs U V front old mid
runs_front U V [] later old new runs = (old, refl)
runs_front U V (happening ∷ front) later old new (next, does, runs) = let (mid, there) = runs_front U V front later next new runs in (mid, (next, does, there))

-- ---- the end of a push

-- the credits of what a side knows of its links
abbrev HeldBy : Scenario → Side → Linking → Type 0
HeldBy scenario side known = (left : ℕ) × (credits (party_of scenario.settings side) (last_talk (map talk (known.past ++ option_to_list known.up))) ≡ pos left)

ended_holds : (scenario : Scenario) (side : Side) (past : List Entry) (push : ℕ) (outcome : Outcome) → StaysSolvent scenario.settings side past → StaysSolvent scenario.settings side (past ++ Ended push outcome ∷ [])
ended_holds scenario side past push outcome kept =
    let P = IsSolvent scenario.settings side in
    at_each-more P past (Ended push outcome) kept (subst (HeldBy scenario side) (sym (ended_links side past push outcome)) (at_each-whole P past kept))

-- ---- a run

-- what a run is whose ports answer so
module _ (scenario : Scenario) (to_a to_b : News → List Circumstance → List Circumstance) (content : Option Contents) where
  front_with : (happenings front later : List Happening) (world : BothHosts) → front ++ later ≡ happenings → HappenedWith scenario to_a to_b content happenings world → (mid : BothHosts) × HappenedWith scenario to_a to_b content front mid
  front_with happenings front later world is so =
      runs_front (answered_by to_a (client_of scenario)) (answered_by to_b (server_of scenario content)) front later (beginning scenario content) world
      (subst (λ (hs : List Happening). HappenedWith scenario to_a to_b content hs world) (sym is) so)

  front_gentle : (happenings front later : List Happening) → front ++ later ≡ happenings → IsGentle scenario happenings → IsGentle scenario front
  front_gentle happenings front later is gentle muxed =
      (all_ahead (λ (word : Word). is_lossy word ≡ false) (all_words front) (all_words later)
      (subst LosesNothing (ap all_words (sym is) ∙ flat_map-append words_in front later) (gentle muxed))).0

  run_of_front : (front : List Happening) (mid : BothHosts) → HappenedWith scenario to_a to_b content front mid → Ran scenario content (all_entries front)
  run_of_front front mid so = record {
    happenings = front;
    world = mid;
    happened = runs-so (client_of scenario) (server_of scenario content) to_a to_b front (beginning scenario content) mid so;
    ends = [];
    last = tt;
    capture_is = sym (append-nil (all_entries front));
  }

pub credits-are_kept : CreditsAreKept
unfolding run_of_front
credits-are_kept scenario to_a to_b content capture side ran so gentle holds =
    let settings = scenario.settings in
    let happenings = ran.happenings in
    let each = at_each-front (IsSolvent settings side) happenings (0, refl)
    (λ front later is.
    let (mid, there) = front_with scenario to_a to_b content happenings front later ran.world is so in
    let run = run_of_front scenario to_a to_b content front mid there in
    holds (all_entries front) run there (front_gentle scenario to_a to_b content happenings front later is gentle)) in
    subst (StaysSolvent settings side) (sym ran.capture_is)
    (with_ends (StaysSolvent settings side) ran.world.pushes (all_entries happenings) ran.ends (λ push outcome kept. ended_holds scenario side (all_entries happenings) push outcome kept) ran.last each)
