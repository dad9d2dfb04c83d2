-- One host and its controller: what happens to them is what happens in the world, whichever host it is.
use Rattle.std.proofs.Common.{◌≡◌, ℕ, ◌&&◌, ◌==◌, Bool, true, false, List, [], ◌∷◌, ◌++◌, Option, Some, None, if◌then◌else◌, refl, sym, ap, ap₂, subst, ◌∙◌}
use Rattle.std.proofs.lemmas.Bool.{eq-eqb}
use Rattle.std.proofs.lemmas.Grind.{flat_map-append}
use Rattle.station_laws.specs.acl_fragments.specs.Pieces.{Piece}
use Rattle.station_laws.specs.push_terms.specs.declared.word.Side.{Side}
use Rattle.station_laws.specs.push_terms.specs.declared.word.Side.TheVariants.{A, B}
use Rattle.station_laws.specs.push_terms.specs.declared.word.Word.{Word}
use Rattle.station_laws.specs.radio_model.specs.Controllers.{Answer, Controller, after_giving_back, after_handing}
use Rattle.station_laws.specs.radio_model.specs.Radio.{with_controller, knows_link, is_together, with_piece, after_taking}
use Rattle.station_laws.specs.world_model.specs.Machines.{Upper}
use Rattle.station_laws.specs.world_model.specs.Stations.{Order, Data, Station, Effort, MakesEffort, hears_piece, hears_answer}
use Rattle.station_laws.specs.world_model.specs.Worlds.{World, Happening, Tries, Departure, GivingBack, Piecemeal, Answering, Does, Runs, piece_on, words_in, all_words}

pub record Own (S : Type 0) : Type 0 where
  pub one : Controller
  pub station : Station S

abbrev pub own : {S : Type 0} → Controller → Station S → Own S
own one station = record { one = one; station = station }

pub data Motion : Type 0 where
  Trying : (effort : Effort) → Motion
  Sending : (piece : Piece) → Motion
  Returning : Motion
  Piecing : (piece : Piece) → Motion
  Hearing : (answer : Answer) → Motion

-- on the link of that number, which is up or not
abbrev pub OwnDoes : {S G : Type 0} → Upper S G → Side → (together : Bool) → (number : ℕ) → Motion → Own S → Own S → Type 0
OwnDoes {S} U side together number (Trying effort) old new = (station : Station S) × MakesEffort U side effort old.station station × (new ≡ own old.one station)
OwnDoes U side together number (Sending piece) old new =
    (together ≡ true) × (old.one.up ≡ true) × (old.one.told ≡ number) × (rest : List Order) × (old.station.out ≡ Data number piece ∷ rest)
    × (new ≡ own (after_taking number (with_piece true (Some piece) old.one)) (record (old.station) { out = rest }))
OwnDoes U side together number Returning old new = new ≡ own (after_giving_back old.one) old.station
OwnDoes {S} {G} U side together number (Piecing piece) old new =
    (rest : List Piece) × (old.one.coming ≡ piece ∷ rest) × (g : List G) × (new ≡ own (after_handing old.one) (hears_piece U g number piece old.station))
OwnDoes {S} {G} U side together number (Hearing answer) old new =
    (rest : List Answer) × (old.one.coming ≡ []) × (old.one.owed ≡ answer ∷ rest) × (g : List G) × (new ≡ own (after_handing old.one) (hears_answer U g side answer old.station))

abbrev pub OwnRuns : {S G : Type 0} → Upper S G → Side → Bool → ℕ → List Motion → Own S → Own S → Type 0
OwnRuns U side together number [] old new = new ≡ old
OwnRuns {S} U side together number (motion ∷ motions) old new = (mid : Own S) × OwnDoes U side together number motion old mid × OwnRuns U side together number motions mid new

pub own_then :
    {S G : Type 0} (U : Upper S G) (side : Side) (together : Bool) (number : ℕ) (xs ys : List Motion) (old mid new : Own S) → OwnRuns U side together number xs old mid → OwnRuns U side together number ys mid new
    → OwnRuns U side together number (xs ++ ys) old new
own_then {S} U side together number [] ys old mid new first second = subst (λ (o : Own S). OwnRuns U side together number ys o new) first second
own_then U side together number (x ∷ xs) ys old mid new first second = (first.0, first.1, own_then U side together number xs ys first.0 mid new first.2 second)

-- where it comes to
pub record Comes {S G : Type 0} (U : Upper S G) (side : Side) (together : Bool) (number : ℕ) (old new : Own S) : Type 0 where
  pub motions : List Motion
  pub runs : OwnRuns U side together number motions old new

pub stays : {S G : Type 0} (U : Upper S G) (side : Side) (together : Bool) (number : ℕ) (old : Own S) → Comes U side together number old old
stays U side together number old = record { motions = []; runs = refl }

pub comes_then : {S G : Type 0} (U : Upper S G) (side : Side) (together : Bool) (number : ℕ) (old mid new : Own S) → Comes U side together number old mid → Comes U side together number mid new → Comes U side together number old new
comes_then U side together number old mid new one two =
    record { motions = one.motions ++ two.motions; runs = own_then U side together number one.motions two.motions old mid new one.runs two.runs }

-- ---- in the world

abbrev pub happening_by : Side → ℕ → Motion → Happening
happening_by side number (Trying effort) = Tries side effort
happening_by side number (Sending piece) = Departure side (Data number piece)
happening_by side number Returning = GivingBack side
happening_by side number (Piecing piece) = Piecemeal side number piece
happening_by side number (Hearing answer) = Answering side answer

abbrev pub happenings_by : Side → ℕ → List Motion → List Happening
happenings_by side number [] = []
happenings_by side number (motion ∷ motions) = happening_by side number motion ∷ happenings_by side number motions

pub no_words : (side : Side) (number : ℕ) (motions : List Motion) → all_words (happenings_by side number motions) ≡ []
no_words side number [] = refl
no_words side number (Trying effort ∷ motions) = no_words side number motions
no_words side number (Sending piece ∷ motions) = no_words side number motions
no_words side number (Returning ∷ motions) = no_words side number motions
no_words side number (Piecing piece ∷ motions) = no_words side number motions
no_words side number (Hearing answer ∷ motions) = no_words side number motions

abbrev pub with_a : {S T : Type 0} → World S T → Own S → World S T
with_a w o = record w { radio = with_controller A o.one w.radio; a = o.station }

abbrev pub with_b : {S T : Type 0} → World S T → Own T → World S T
with_b w o = record w { radio = with_controller B o.one w.radio; b = o.station }

all_three : (a b c : Bool) → a ≡ true → b ≡ true → c ≡ true → (a && (b && c)) ≡ true
all_three a b c one two three = ap₂ (λ (x y : Bool). x && y) one (ap₂ (λ (x y : Bool). x && y) two three)

found_piece : (up same : Bool) (piece : Piece) → up ≡ true → same ≡ true → (if up && same then Some piece else None) ≡ Some piece
found_piece true true piece one two = refl
found_piece true false piece one two = cc
found_piece false same piece one two = cc

does_a :
    {S T G H : Type 0} (U : Upper S G) (V : Upper T H) (w : World S T) (motion : Motion) (old new : Own S) → OwnDoes U A (is_together w.radio.phase) w.radio.number motion old new
    → Does U V (happening_by A w.radio.number motion) (with_a w old) (with_a w new)
does_a U V w (Trying effort) old new (station, made, is) = (station, made, ap (λ o. with_a w o) is)
does_a {S} U V w (Sending piece) old new (on, up, told, rest, first, is) =
    let flies : knows_link A (with_controller A old.one w.radio) ≡ true = all_three (is_together w.radio.phase) old.one.up (old.one.told == w.radio.number) on up (eq-eqb old.one.told w.radio.number told) in
    let found : piece_on old.one w.radio.number piece ≡ Some piece = found_piece old.one.up (w.radio.number == old.one.told) piece up (eq-eqb w.radio.number old.one.told (sym told)) in (
      rest,
      first,
      ap (λ (o : Own S). with_a w o) is
          ∙ ap₂ (λ (fly : Bool) (some : Option Piece). with_a w (own (after_taking w.radio.number (with_piece fly some old.one)) (record (old.station) { out = rest }))) (sym flies) (sym found),
    )
does_a {S} U V w Returning old new is = ap (λ (o : Own S). with_a w o) is
does_a {S} U V w (Piecing piece) old new (rest, coming, g, is) = (rest, coming, refl, g, ap (λ (o : Own S). with_a w o) is)
does_a {S} U V w (Hearing answer) old new (rest, none, owed, g, is) = (rest, none, owed, g, ap (λ (o : Own S). with_a w o) is)

does_b :
    {S T G H : Type 0} (U : Upper S G) (V : Upper T H) (w : World S T) (motion : Motion) (old new : Own T) → OwnDoes V B (is_together w.radio.phase) w.radio.number motion old new
    → Does U V (happening_by B w.radio.number motion) (with_b w old) (with_b w new)
does_b {T = T} U V w (Trying effort) old new (station, made, is) = (station, made, ap (λ (o : Own T). with_b w o) is)
does_b {T = T} U V w (Sending piece) old new (on, up, told, rest, first, is) =
    let flies : knows_link B (with_controller B old.one w.radio) ≡ true = all_three (is_together w.radio.phase) old.one.up (old.one.told == w.radio.number) on up (eq-eqb old.one.told w.radio.number told) in
    let found : piece_on old.one w.radio.number piece ≡ Some piece = found_piece old.one.up (w.radio.number == old.one.told) piece up (eq-eqb w.radio.number old.one.told (sym told)) in (
      rest,
      first,
      ap (λ (o : Own T). with_b w o) is
          ∙ ap₂ (λ (fly : Bool) (some : Option Piece). with_b w (own (after_taking w.radio.number (with_piece fly some old.one)) (record (old.station) { out = rest }))) (sym flies) (sym found),
    )
does_b {T = T} U V w Returning old new is = ap (λ (o : Own T). with_b w o) is
does_b {T = T} U V w (Piecing piece) old new (rest, coming, g, is) = (rest, coming, refl, g, ap (λ (o : Own T). with_b w o) is)
does_b {T = T} U V w (Hearing answer) old new (rest, none, owed, g, is) = (rest, none, owed, g, ap (λ (o : Own T). with_b w o) is)

runs_a :
    {S T G H : Type 0} (U : Upper S G) (V : Upper T H) (w : World S T) (motions : List Motion) (old new : Own S) → OwnRuns U A (is_together w.radio.phase) w.radio.number motions old new
    → Runs U V (happenings_by A w.radio.number motions) (with_a w old) (with_a w new)
runs_a {S} U V w [] old new is = ap (λ (o : Own S). with_a w o) is
runs_a U V w (motion ∷ motions) old new (mid, does, runs) = (with_a w mid, does_a U V w motion old mid does, runs_a U V w motions mid new runs)

runs_b :
    {S T G H : Type 0} (U : Upper S G) (V : Upper T H) (w : World S T) (motions : List Motion) (old new : Own T) → OwnRuns V B (is_together w.radio.phase) w.radio.number motions old new
    → Runs U V (happenings_by B w.radio.number motions) (with_b w old) (with_b w new)
runs_b {T = T} U V w [] old new is = ap (λ (o : Own T). with_b w o) is
runs_b U V w (motion ∷ motions) old new (mid, does, runs) = (with_b w mid, does_b U V w motion old mid does, runs_b U V w motions mid new runs)

-- ---- where the world comes to, with these words

pub record Goes {S T G H : Type 0} (U : Upper S G) (V : Upper T H) (words : List Word) (old new : World S T) : Type 0 where
  pub happenings : List Happening
  pub runs : Runs U V happenings old new
  pub words_are : all_words happenings ≡ words

runs_then : {S T G H : Type 0} (U : Upper S G) (V : Upper T H) (xs ys : List Happening) (old mid new : World S T) → Runs U V xs old mid → Runs U V ys mid new → Runs U V (xs ++ ys) old new
runs_then {S} {T} U V [] ys old mid new first second = subst (λ (w : World S T). Runs U V ys w new) first second
runs_then U V (x ∷ xs) ys old mid new first second = (first.0, first.1, runs_then U V xs ys first.0 mid new first.2 second)

pub goes_none : {S T G H : Type 0} (U : Upper S G) (V : Upper T H) (w : World S T) → Goes U V [] w w
goes_none U V w = record { happenings = []; runs = refl; words_are = refl }

pub goes_then : {S T G H : Type 0} (U : Upper S G) (V : Upper T H) (ws vs : List Word) (old mid new : World S T) → Goes U V ws old mid → Goes U V vs mid new → Goes U V (ws ++ vs) old new
goes_then U V ws vs old mid new one two = record {
  happenings = one.happenings ++ two.happenings;
  runs = runs_then U V one.happenings two.happenings old mid new one.runs two.runs;
  words_are = flat_map-append words_in one.happenings two.happenings ∙ ap₂ (λ (x y : List Word). x ++ y) one.words_are two.words_are;
}

-- one thing happens first
pub goes_on : {S T G H : Type 0} (U : Upper S G) (V : Upper T H) (words : List Word) (happening : Happening) (old mid new : World S T) → words_in happening ≡ [] → Does U V happening old mid → Goes U V words mid new → Goes U V words old new
goes_on U V words happening old mid new none does goes = record {
  happenings = happening ∷ goes.happenings;
  runs = (mid, does, goes.runs);
  words_are = ap₂ (λ (x y : List Word). x ++ y) none goes.words_are;
}

pub goes_a : {S T G H : Type 0} (U : Upper S G) (V : Upper T H) (w : World S T) (old new : Own S) → Comes U A (is_together w.radio.phase) w.radio.number old new → Goes U V [] (with_a w old) (with_a w new)
goes_a U V w old new comes = record { happenings = happenings_by A w.radio.number comes.motions; runs = runs_a U V w comes.motions old new comes.runs; words_are = no_words A w.radio.number comes.motions }

pub goes_b : {S T G H : Type 0} (U : Upper S G) (V : Upper T H) (w : World S T) (old new : Own T) → Comes V B (is_together w.radio.phase) w.radio.number old new → Goes U V [] (with_b w old) (with_b w new)
goes_b U V w old new comes = record { happenings = happenings_by B w.radio.number comes.motions; runs = runs_b U V w comes.motions old new comes.runs; words_are = no_words B w.radio.number comes.motions }
