-- Each run of the world, at each moment of it, is one in which PDUs move one at a time, by the same words.
use Rattle.std.proofs.Common.{◌≡◌, ℕ, Bool, true, false, List, Option, Some, None, refl, ap, sym}
use Rattle.std.specs.Option.{option_map}
use Rattle.scenario_laws.specs.push_terms.specs.declared.word.Side.{Side}
use Rattle.scenario_laws.specs.push_terms.specs.declared.word.Side.TheVariants.{A, B}
use Rattle.scenario_laws.specs.capture.specs.Links.{Link, linking}
use Rattle.scenario_laws.specs.capture.specs.Moves.{moves}
use Rattle.scenario_laws.specs.capture.specs.Entries.{Entry}
use Rattle.scenario_laws.specs.capture.specs.Pdus.{Pdu, pdus}
use Rattle.scenario_laws.specs.world_model.specs.Machines.{Upper}
use Rattle.scenario_laws.specs.world_model.specs.PerLink.{Linkage, linkage, captured}
use Rattle.scenario_laws.specs.world_model.specs.Carriages.{Carriage, all_words as words_carried}
use Rattle.scenario_laws.specs.world_model.specs.Worlds.{World, Happening, Runs, all_entries, all_words, first_world}
use Rattle.scenario_laws.specs.turn_laws.specs.WorldLaws.{Fits}
use Rattle.scenario_laws.specs.turn_laws.proofs.Capturing.{View, ShownAt}
use Rattle.scenario_laws.specs.turn_laws.proofs.Recounting.{HoldsAtRests, played_so}
use Rattle.scenario_laws.specs.turn_laws.proofs.Showing.{ShownUp}
use Rattle.scenario_laws.specs.turn_laws.proofs.Wording.{rests_alike}
use Rattle.scenario_laws.proofs.Carrying.{CarriedSo}

shown_now : (up : Bool) (told : ℕ) (begun joining : List ℕ) (now : Option (List Pdu)) (known : Option Link) → ShownUp up told begun joining now known → option_map pdus known ≡ now
shown_now true told begun joining (Some now) (Some link) shown = ap (λ (p : List Pdu). Some p) shown.pdus_are
shown_now true told begun joining (Some now) None shown = absurd shown
shown_now true told begun joining None known shown = absurd shown
shown_now false told begun joining None None shown = refl
shown_now false told begun joining None (Some link) shown = absurd shown
shown_now false told begun joining (Some now) known shown = absurd shown

links_are : (side : Side) (v : View) (past : List Entry) (l : Linkage) → ShownAt v (linking (moves side past)) l → l ≡ captured side past
links_are side v past l shown =
    let now = shown_now v.up v.told v.begun v.joining l.up (linking (moves side past)).up shown.now in
    λ i. record { past = sym shown.past i; up = sym now i }

pub record Worded {S T G H : Type 0} (U : Upper S G) (V : Upper T H) (P : Carriage S T → Type 0) (size : ℕ) (names : List (List ℕ)) (happenings : List Happening) (w : World S T) : Type 0 where
  pub carried : CarriedSo U V P size names happenings w
  pub words_are : words_carried carried.doings ≡ all_words happenings

pub carried_worded : {S T G H : Type 0} (U : Upper S G) (V : Upper T H) (P : Carriage S T → Type 0) (size count : ℕ) (names : List (List ℕ)) (happenings : List Happening) (w : World S T) → Fits U V size → Runs U V happenings (first_world U V size count names) w
    → HoldsAtRests U V P happenings (first_world U V size count names) → Worded U V P size names happenings w
carried_worded U V P size count names happenings w fits runs holds =
    let all = played_so U V P size count names happenings w fits runs holds in
    record {
      carried = record {
        doings = all.doings;
        talk_a = all.talk_a';
        talk_b = all.talk_b';
        carries = all.carries;
        of_script = all.of_script;
        so = all.so;
        rests = λ rest. rests_alike U V w all.talk_a' all.talk_b' rest all.kept;
        links_a = links_are A _ (all_entries happenings) (linkage all.talk_a') all.shows.a;
        links_b = links_are B _ (all_entries happenings) (linkage all.talk_b') all.shows.b;
      };
      words_are = all.words_are;
    }
