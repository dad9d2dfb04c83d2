-- Each run of the world, at each moment of it, is one in which PDUs move one at a time.
use Rattle.std.proofs.Common.{◌≡◌, ℕ, Bool, true, false, List, Option, Some, None, refl, ap, sym}
use Rattle.std.specs.List.{AllByRecursion}
use Rattle.std.specs.Option.{option_map}
use Rattle.radio_world.specs.push_terms.specs.declared.word.Side.{Side}
use Rattle.radio_world.specs.push_terms.specs.declared.word.Side.TheVariants.{A, B}
use Rattle.radio_world.specs.capture.specs.Entries.{Entry}
use Rattle.radio_world.specs.capture.specs.Links.{Link, linking}
use Rattle.radio_world.specs.capture.specs.Moves.{moves}
use Rattle.radio_world.specs.capture.specs.Pdus.{Pdu, pdus}
use Rattle.host_laws.specs.world_model.specs.Machines.{Upper}
use Rattle.host_laws.specs.world_model.specs.Talks.{Talk}
use Rattle.host_laws.specs.world_model.specs.PerLink.{Linkage, linkage, captured}
use Rattle.host_laws.specs.world_model.specs.Carriages.{Carriage, Doing, Carries, first_carriage}
use Rattle.host_laws.specs.world_model.specs.Carriages as carriages
use Rattle.host_laws.specs.world_model.specs.Worlds.{World, Happening, IsAtRest, Runs, all_entries, first_world}
use Rattle.host_laws.specs.turn_laws.specs.WorldLaws.{Fits}
use Rattle.host_laws.specs.turn_laws.proofs.Capturing.{View, ShownAt}
use Rattle.host_laws.specs.turn_laws.proofs.Ordering.{at}
use Rattle.host_laws.specs.turn_laws.proofs.Recounting.{IsOfScript, CarriesSo, HoldsAtRests, played_so}
use Rattle.host_laws.specs.turn_laws.proofs.Showing.{ShownUp}
use Rattle.host_laws.specs.turn_laws.proofs.Wording.{rests_alike}
use Rattle.scenario_laws.proofs.Acting.{Anyhow}
use Rattle.scenario_laws.proofs.Both.{AreReady}

-- with what each host was told and said so far, link by link as the capture has it
pub record CarriedSo {S T G H : Type 0} (U : Upper S G) (V : Upper T H) (P : Carriage S T → Type 0) (size : ℕ) (names : List (List ℕ)) (happenings : List Happening) (w : World S T) : Type 0 where
  pub doings : List Doing
  pub talk_a : List Talk
  pub talk_b : List Talk
  pub carries : Carries U V doings (first_carriage U V size names) (at w talk_a talk_b)
  pub of_script : AllByRecursion IsOfScript doings
  pub so : CarriesSo U V P doings (first_carriage U V size names) (at w talk_a talk_b)
  pub rests : IsAtRest U V w → carriages.IsAtRest U V (at w talk_a talk_b)
  pub links_a : linkage talk_a ≡ captured A (all_entries happenings)
  pub links_b : linkage talk_b ≡ captured B (all_entries happenings)

shown_now : (up : Bool) (told : ℕ) (begun joining : List ℕ) (now : Option (List Pdu)) (known : Option Link) → ShownUp up told begun joining now known → option_map pdus known ≡ now
shown_now true told begun joining (Some now) (Some link) shown = ap (λ (p : List Pdu). Some p) shown.pdus_are
shown_now true told begun joining (Some now) None shown = absurd shown
shown_now true told begun joining None known shown = absurd shown
shown_now false told begun joining None None shown = refl
shown_now false told begun joining None (Some link) shown = absurd shown
shown_now false told begun joining (Some now) known shown = absurd shown

links_are : (side : Side) (v : View) (past : List Entry) (l : Linkage) → ShownAt v (linking (moves side past)) l → l ≡ captured side past
links_are side v past l shown =
    let now = shown_now v.up v.told v.begun v.joining l.up (linking (moves side past)).up shown.now in
    λ i. record { past = sym shown.past i; up = sym now i }

-- with what is so wherever it was at rest before
pub carried_so : {S T G H : Type 0} (U : Upper S G) (V : Upper T H) (P : Carriage S T → Type 0) (size count : ℕ) (names : List (List ℕ)) (happenings : List Happening) (w : World S T) → Fits U V size → Runs U V happenings (first_world U V size count names) w
    → HoldsAtRests U V P happenings (first_world U V size count names) → CarriedSo U V P size names happenings w
carried_so U V P size count names happenings w fits runs holds =
    let all = played_so U V P size count names happenings w fits runs holds in
    record {
      doings = all.doings;
      talk_a = all.talk_a';
      talk_b = all.talk_b';
      carries = all.carries;
      of_script = all.of_script;
      so = all.so;
      rests = λ rest. rests_alike U V w all.talk_a' all.talk_b' rest all.kept;
      links_a = links_are A _ (all_entries happenings) (linkage all.talk_a') all.shows.a;
      links_b = links_are B _ (all_entries happenings) (linkage all.talk_b') all.shows.b;
    }

-- where nothing is asked
abbrev pub Carried : {S T G H : Type 0} → Upper S G → Upper T H → (size : ℕ) → (names : List (List ℕ)) → List Happening → World S T → Type 0
Carried U V size names happenings w = CarriedSo U V (AreReady U V Anyhow Anyhow) size names happenings w

pub carried : {S T G H : Type 0} (U : Upper S G) (V : Upper T H) (size count : ℕ) (names : List (List ℕ)) (happenings : List Happening) (w : World S T) → Fits U V size → Runs U V happenings (first_world U V size count names) w
    → Carried U V size names happenings w
carried U V size count names happenings w fits runs =
    carried_so U V (AreReady U V Anyhow Anyhow) size count names happenings w fits runs (λ front mid talk_a talk_b is there rest. (λ on. (tt, λ armed. tt), λ on. (tt, λ armed. tt)))
