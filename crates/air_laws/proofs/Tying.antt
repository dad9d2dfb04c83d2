-- The air as the capture has it, and the radio: they hold the same frames, and have the same link.
use Rattle.std.proofs.Common.{◌≡◌, ℕ, ◌+◌, ◌≤◌, ◌<◌, Bool, true, false, List, [], ◌∷◌, ◌++◌, Option, refl, sym, ap, ◌∙◌, subst, arith}
use Rattle.std.proofs.lemmas.List.{append-nil}
use Rattle.turn_laws.specs.acl_fragments.specs.Pieces.{Piece}
use Rattle.turn_laws.specs.push_terms.specs.declared.word.Side.{Side}
use Rattle.turn_laws.specs.push_terms.specs.declared.word.Side.TheVariants.{A, B}
use Rattle.turn_laws.specs.push_terms.specs.declared.word.Way.{Way}
use Rattle.turn_laws.specs.push_terms.specs.declared.word.Way.TheVariants.{Ab, Ba}
use Rattle.turn_laws.specs.capture.specs.Frames.{Direction, empty, waiting, with_frames, emptied}
use Rattle.turn_laws.specs.capture.specs.Air.{Air, no_air, renewed, broken_off, due, put_from}
use Rattle.turn_laws.specs.radio_model.specs.declared.fate.Fate.{Fate}
use Rattle.turn_laws.specs.radio_model.specs.Fates.{meets}
use Rattle.turn_laws.specs.radio_model.specs.Words.{served_by}
use Rattle.turn_laws.specs.radio_model.specs.Air.{with_meeting}
use Rattle.turn_laws.specs.radio_model.specs.Controllers.{Controller}
use Rattle.turn_laws.specs.radio_model.specs.Radio.{Radio, new_radio, is_together, controller, with_controller, parted, hands, frames}
use Rattle.air_laws.proofs.Waiting.{Waits, waits_as, waits_none, waits_more, waits_emptied, waits_met}

-- one host, and the direction that it speaks in; `link` is the number of the link that the air carries
pub record Half (number link : ℕ) (together : Bool) (one : Controller) (way : Direction) (due : List Piece) : Type 0 where
  pub waits : Waits way one.waiting
  pub due_is : due ≡ one.coming
  pub low : one.told ≤ link
  -- it was told of all links, or of all but the one that there is
  pub near : together ≡ true → number ≤ one.told + 1
  pub here : together ≡ true → one.up ≡ true → one.told ≡ number

-- the air has no link
pub record Empty (radio : Radio) (air : Air) : Type 0 where
  pub broken : air.broken ≡ true
  pub none_a : radio.a.waiting ≡ []
  pub none_b : radio.b.waiting ≡ []

pub record Tie (size : ℕ) (radio : Radio) (air : Air) : Type 0 where
  pub size_is : radio.size ≡ size
  pub served_is : air.served ≡ radio.served
  pub a : Half radio.number air.link (is_together radio.phase) radio.a air.ab air.due_a
  pub b : Half radio.number air.link (is_together radio.phase) radio.b air.ba air.due_b
  pub most : air.link ≤ radio.number
  pub apart : is_together radio.phase ≡ false → (air.link ≡ radio.number) × Empty radio air
  pub together : is_together radio.phase ≡ true → air.link ≡ radio.number → air.broken ≡ false
  -- neither host was told of the link that there is
  pub untold : air.link < radio.number → Empty radio air

pub first_tie : (size count : ℕ) → Tie size (new_radio size count) no_air
first_tie size count =
    let half : Half 0 0 false (new_radio size count).a empty [] = record { waits = waits_none; due_is = refl; low = omega arith; near = λ yes. cc; here = λ yes on. cc } in
    record {
      size_is = refl;
      served_is = refl;
      a = half;
      b = half;
      most = omega arith;
      apart = λ off. (refl, record { broken = refl; none_a = refl; none_b = refl });
      together = λ yes. cc;
      untold = λ below. absurd (omega arith);
    }

-- ---- one host changes

-- what its half asks of it is the same
pub record SameHalf (one one' : Controller) : Type 0 where
  pub told : one'.told ≡ one.told
  pub up : one'.up ≡ one.up
  pub waiting : one'.waiting ≡ one.waiting
  pub coming : one'.coming ≡ one.coming

pub half_same : (number link : ℕ) (together : Bool) (one one' : Controller) (way : Direction) (due : List Piece) → SameHalf one one' → Half number link together one way due → Half number link together one' way due
half_same number link together one one' way due same half =
    let told = same.told in
    let low = half.low in
    record {
      waits = waits_as way one.waiting one'.waiting (sym same.waiting) half.waits;
      due_is = half.due_is ∙ sym same.coming;
      low = omega arith;
      near = λ yes. let near = half.near yes in omega arith;
      here = λ yes on. told ∙ half.here yes (sym same.up ∙ on);
    }

-- a radio in which nothing changed that the air asks of it
pub record SameAir (radio radio' : Radio) : Type 0 where
  pub size_is : radio'.size ≡ radio.size
  pub served_is : radio'.served ≡ radio.served
  pub number_is : radio'.number ≡ radio.number
  pub phase_is : is_together radio'.phase ≡ is_together radio.phase
  pub a : SameHalf radio.a radio'.a
  pub b : SameHalf radio.b radio'.b

same_empty : (radio radio' : Radio) (air : Air) → SameAir radio radio' → Empty radio air → Empty radio' air
same_empty radio radio' air same none = record { broken = none.broken; none_a = same.a.waiting ∙ none.none_a; none_b = same.b.waiting ∙ none.none_b }

half_as : (number number' link : ℕ) (together together' : Bool) (one : Controller) (way : Direction) (due : List Piece) → number' ≡ number → together' ≡ together → Half number link together one way due → Half number' link together' one way due
half_as number number' link together together' one way due same phase half =
    subst (λ (n : ℕ). Half n link together' one way due) (sym same) (subst (λ (t : Bool). Half number link t one way due) (sym phase) half)

pub tie_same : (size : ℕ) (radio radio' : Radio) (air : Air) → SameAir radio radio' → Tie size radio air → Tie size radio' air
tie_same size radio radio' air same tie =
    let number = same.number_is in
    let most = tie.most in
    record {
      size_is = same.size_is ∙ tie.size_is;
      served_is = tie.served_is ∙ sym same.served_is;
      a = half_as radio.number radio'.number air.link (is_together radio.phase) (is_together radio'.phase) radio'.a air.ab air.due_a number same.phase_is (half_same radio.number air.link (is_together radio.phase) radio.a radio'.a air.ab air.due_a same.a tie.a);
      b = half_as radio.number radio'.number air.link (is_together radio.phase) (is_together radio'.phase) radio'.b air.ba air.due_b number same.phase_is (half_same radio.number air.link (is_together radio.phase) radio.b radio'.b air.ba air.due_b same.b tie.b);
      most = omega arith;
      apart = λ off. let before = tie.apart (sym same.phase_is ∙ off) in (before.0 ∙ sym number, same_empty radio radio' air same before.1);
      together = λ yes is. tie.together (sym same.phase_is ∙ yes) (is ∙ number);
      untold = λ below. same_empty radio radio' air same (tie.untold (omega arith));
    }

-- ---- the half of a side

abbrev pub half_of : Side → Air → Direction
half_of A air = air.ab
half_of B air = air.ba

abbrev pub with_half : Side → Direction → List Piece → Air → Air
with_half A way due air = record air { ab = way; due_a = due }
with_half B way due air = record air { ba = way; due_b = due }

pub tie_half : (side : Side) (size : ℕ) (radio : Radio) (air : Air) → Tie size radio air → Half radio.number air.link (is_together radio.phase) (controller side radio) (half_of side air) (due side air)
tie_half A size radio air tie = tie.a
tie_half B size radio air tie = tie.b

-- a host changes with its half; while the air has no link it waits no more than before
pub tie_with : (side : Side) (size : ℕ) (radio : Radio) (air : Air) (one : Controller) (way : Direction) (due : List Piece) → Half radio.number air.link (is_together radio.phase) one way due
    → (air.broken ≡ true → (controller side radio).waiting ≡ [] → one.waiting ≡ []) → Tie size radio air → Tie size (with_controller side one radio) (with_half side way due air)
tie_with A size radio air one way due half still tie = record {
  size_is = tie.size_is;
  served_is = tie.served_is;
  a = half;
  b = tie.b;
  most = tie.most;
  apart = λ off. let before = tie.apart off in (before.0, record { broken = before.1.broken; none_a = still before.1.broken before.1.none_a; none_b = before.1.none_b });
  together = tie.together;
  untold = λ below. let before = tie.untold below in record { broken = before.broken; none_a = still before.broken before.none_a; none_b = before.none_b };
}
tie_with B size radio air one way due half still tie = record {
  size_is = tie.size_is;
  served_is = tie.served_is;
  a = tie.a;
  b = half;
  most = tie.most;
  apart = λ off. let before = tie.apart off in (before.0, record { broken = before.1.broken; none_a = before.1.none_a; none_b = still before.1.broken before.1.none_b });
  together = tie.together;
  untold = λ below. let before = tie.untold below in record { broken = before.broken; none_a = before.none_a; none_b = still before.broken before.none_b };
}

-- nothing is put in
pub tie_put_none : (side : Side) (size : ℕ) (radio : Radio) (air : Air) → Tie size radio air → Tie size radio (put_from side [] air)
tie_put_none A size radio air tie =
    tie_with A size radio air radio.a (with_frames [] air.ab) air.due_a
    (record { waits = waits_as (with_frames [] air.ab) (radio.a.waiting ++ []) radio.a.waiting (append-nil radio.a.waiting) (waits_more air.ab radio.a.waiting [] tie.a.waits); due_is = tie.a.due_is; low = tie.a.low; near = tie.a.near; here = tie.a.here })
    (λ broken none. none) tie
tie_put_none B size radio air tie =
    tie_with B size radio air radio.b (with_frames [] air.ba) air.due_b
    (record { waits = waits_as (with_frames [] air.ba) (radio.b.waiting ++ []) radio.b.waiting (append-nil radio.b.waiting) (waits_more air.ba radio.b.waiting [] tie.b.waits); due_is = tie.b.due_is; low = tie.b.low; near = tie.b.near; here = tie.b.here })
    (λ broken none. none) tie

-- ---- a link ends

half_ends : (number link : ℕ) (together : Bool) (one one' : Controller) (way : Direction) (due : List Piece) → one'.waiting ≡ [] → one'.coming ≡ one.coming → one'.told ≡ one.told → Half number link together one way due → Half number link false one' (emptied way) due
half_ends number link together one one' way due none coming told half =
    let low = half.low in
    record {
      waits = waits_as (emptied way) [] one'.waiting (sym none) (waits_emptied way);
      due_is = half.due_is ∙ sym coming;
      low = omega arith;
      near = λ yes. cc;
      here = λ yes on. cc;
    }

pub tie_parted : (size for_a for_b : ℕ) (radio : Radio) (air : Air) → air.link ≡ radio.number → Tie size radio air → Tie size (parted for_a for_b radio) (broken_off air)
tie_parted size for_a for_b radio air is tie = record {
  size_is = tie.size_is;
  served_is = tie.served_is;
  a = half_ends radio.number air.link (is_together radio.phase) radio.a (parted for_a for_b radio).a air.ab air.due_a refl refl refl tie.a;
  b = half_ends radio.number air.link (is_together radio.phase) radio.b (parted for_a for_b radio).b air.ba air.due_b refl refl refl tie.b;
  most = tie.most;
  apart = λ off. (is, record { broken = refl; none_a = refl; none_b = refl });
  together = λ yes. cc;
  untold = λ below. record { broken = refl; none_a = refl; none_b = refl };
}

-- one that ended before
half_again : (number link : ℕ) (one : Controller) (way : Direction) (due : List Piece) → one.waiting ≡ [] → Half number link false one way due → Half number link false one (emptied way) due
half_again number link one way due none half = half_ends number link false one one way due none refl refl half

pub tie_broken : (size : ℕ) (radio : Radio) (air : Air) → is_together radio.phase ≡ false → Tie size radio air → Tie size radio (broken_off air)
tie_broken size radio air off tie =
    let before = tie.apart off in
    record {
      size_is = tie.size_is;
      served_is = tie.served_is;
      a = subst (λ (t : Bool). Half radio.number air.link t radio.a (emptied air.ab) air.due_a) (sym off) (half_ends radio.number air.link (is_together radio.phase) radio.a radio.a air.ab air.due_a before.1.none_a refl refl tie.a);
      b = subst (λ (t : Bool). Half radio.number air.link t radio.b (emptied air.ba) air.due_b) (sym off) (half_ends radio.number air.link (is_together radio.phase) radio.b radio.b air.ba air.due_b before.1.none_b refl refl tie.b);
      most = tie.most;
      apart = λ again. (before.0, record { broken = refl; none_a = before.1.none_a; none_b = before.1.none_b });
      together = λ yes. cc;
      untold = λ below. record { broken = refl; none_a = before.1.none_a; none_b = before.1.none_b };
    }

-- ---- a link comes

-- one more than before, of which no host was told
pub tie_joined : (size : ℕ) (radio radio' : Radio) (air : Air) → is_together radio.phase ≡ false → radio'.size ≡ radio.size → radio'.served ≡ radio.served → radio'.number ≡ radio.number + 1 → is_together radio'.phase ≡ true
    → SameHalf radio.a radio'.a → SameHalf radio.b radio'.b → radio.a.up ≡ false → radio.b.up ≡ false → radio.a.told ≡ radio.number → radio.b.told ≡ radio.number → Tie size radio air → Tie size radio' air
tie_joined size radio radio' air off size_is served_is number_is now same_a same_b off_a off_b told_a told_b tie =
    let before = tie.apart off in
    let link = before.0 in
    let a = same_a.told in
    let b = same_b.told in
    let none : Empty radio' air = record { broken = before.1.broken; none_a = same_a.waiting ∙ before.1.none_a; none_b = same_b.waiting ∙ before.1.none_b } in
    record {
      size_is = size_is ∙ tie.size_is;
      served_is = tie.served_is ∙ sym served_is;
      a = record { waits = waits_as air.ab radio.a.waiting radio'.a.waiting (sym same_a.waiting) tie.a.waits; due_is = tie.a.due_is ∙ sym same_a.coming; low = omega arith; near = λ yes. omega arith; here = λ yes on. absurd (let up = same_a.up in cc) };
      b = record { waits = waits_as air.ba radio.b.waiting radio'.b.waiting (sym same_b.waiting) tie.b.waits; due_is = tie.b.due_is ∙ sym same_b.coming; low = omega arith; near = λ yes. omega arith; here = λ yes on. absurd (let up = same_b.up in cc) };
      most = omega arith;
      apart = λ again. absurd cc;
      together = λ yes is. absurd (omega arith);
      untold = λ below. none;
    }

-- ---- a host is told of the link that there is

untold_together : (together : Bool) (link number : ℕ) → (together ≡ false → link ≡ number) → link < number → together ≡ true
untold_together true link number off below = refl
untold_together false link number off below = let same = off refl in absurd (omega arith)

-- the first of the two
pub tie_renewed : (side : Side) (size handle : ℕ) (radio : Radio) (air : Air) (one : Controller) → one.told ≡ handle → one.up ≡ true → one.coming ≡ (controller side radio).coming → one.waiting ≡ (controller side radio).waiting
    → (controller side radio).told + 1 ≡ handle → handle ≤ radio.number → air.link < handle → Tie size radio air → Tie size (with_controller side one radio) (renewed handle air)
tie_renewed A size handle radio air one told up coming waiting next low below tie =
    let none = tie.untold (omega arith) in
    let other = tie.b.low in
    let yes : is_together radio.phase ≡ true = untold_together (is_together radio.phase) air.link radio.number (λ off. (tie.apart off).0) (omega arith) in
    let near = tie.a.near yes in
    let same : handle ≡ radio.number = omega arith in
    record {
      size_is = tie.size_is;
      served_is = tie.served_is;
      a = record { waits = waits_as empty [] one.waiting (sym (waiting ∙ none.none_a)) waits_none; due_is = tie.a.due_is ∙ sym coming; low = omega arith; near = λ yes. omega arith; here = λ yes on. told ∙ same };
      b = record { waits = waits_as empty [] radio.b.waiting (sym none.none_b) waits_none; due_is = tie.b.due_is; low = omega arith; near = tie.b.near; here = tie.b.here };
      most = low;
      apart = λ off. absurd cc;
      together = λ yes is. refl;
      untold = λ less. absurd (omega arith);
    }
tie_renewed B size handle radio air one told up coming waiting next low below tie =
    let none = tie.untold (omega arith) in
    let other = tie.a.low in
    let yes : is_together radio.phase ≡ true = untold_together (is_together radio.phase) air.link radio.number (λ off. (tie.apart off).0) (omega arith) in
    let near = tie.b.near yes in
    let same : handle ≡ radio.number = omega arith in
    record {
      size_is = tie.size_is;
      served_is = tie.served_is;
      a = record { waits = waits_as empty [] radio.a.waiting (sym none.none_a) waits_none; due_is = tie.a.due_is; low = omega arith; near = tie.a.near; here = tie.a.here };
      b = record { waits = waits_as empty [] one.waiting (sym (waiting ∙ none.none_b)) waits_none; due_is = tie.b.due_is ∙ sym coming; low = omega arith; near = λ yes. omega arith; here = λ yes on. told ∙ same };
      most = low;
      apart = λ off. absurd cc;
      together = λ yes is. refl;
      untold = λ less. absurd (omega arith);
    }

-- ---- a frame meets its fate

pub tie_met : (way : Way) (fate : Fate) (checked : Bool) (frame : List ℕ) (rest : List (List ℕ)) (n size : ℕ) (radio : Radio) (air : Air) → frames way radio ≡ frame ∷ rest → Tie size radio air
    → Tie size (record (hands way (meets n fate checked frame) rest radio) { served = served_by way fate radio.served }) (record (with_meeting way (meets n fate checked frame) air) { served = served_by way fate air.served })
tie_met Ab fate checked frame rest n size radio air first tie =
    let some : radio.a.waiting ≡ frame ∷ rest = first in
    record {
      size_is = tie.size_is;
      served_is = ap (λ (s : Option Way). served_by Ab fate s) tie.served_is;
      a = record { waits = waits_met n fate checked air.ab frame rest (waits_as air.ab radio.a.waiting (frame ∷ rest) first tie.a.waits); due_is = tie.a.due_is; low = tie.a.low; near = tie.a.near; here = tie.a.here };
      b = record { waits = tie.b.waits; due_is = ap (λ (l : List Piece). l ++ (meets n fate checked frame).pieces) tie.b.due_is; low = tie.b.low; near = tie.b.near; here = tie.b.here };
      most = tie.most;
      apart = λ off. let none = (tie.apart off).1.none_a in absurd cc;
      together = tie.together;
      untold = λ below. let none = (tie.untold below).none_a in absurd cc;
    }
tie_met Ba fate checked frame rest n size radio air first tie =
    let some : radio.b.waiting ≡ frame ∷ rest = first in
    record {
      size_is = tie.size_is;
      served_is = ap (λ (s : Option Way). served_by Ba fate s) tie.served_is;
      a = record { waits = tie.a.waits; due_is = ap (λ (l : List Piece). l ++ (meets n fate checked frame).pieces) tie.a.due_is; low = tie.a.low; near = tie.a.near; here = tie.a.here };
      b = record { waits = waits_met n fate checked air.ba frame rest (waits_as air.ba radio.b.waiting (frame ∷ rest) first tie.b.waits); due_is = tie.b.due_is; low = tie.b.low; near = tie.b.near; here = tie.b.here };
      most = tie.most;
      apart = λ off. let none = (tie.apart off).1.none_b in absurd cc;
      together = tie.together;
      untold = λ below. let none = (tie.untold below).none_b in absurd cc;
    }
