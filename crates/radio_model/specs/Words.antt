-- What the words of a radio script do to the air (this project's own).
use Rattle.std.specs.Prelude.{ℕ, Bool, List, length, Option, Some, None, if◌then◌else◌}
use Rattle.capture.specs.Frames.{way_served}
use Rattle.push_terms.specs.declared.word.Side.{Side}
use Rattle.push_terms.specs.declared.word.Side.TheVariants as sides
use Rattle.push_terms.specs.declared.word.Way.{Way}
use Rattle.push_terms.specs.declared.word.Way.TheVariants.{Ab, Ba}
use Rattle.push_terms.specs.declared.word.Word.{Word}
use Rattle.push_terms.specs.declared.word.Word.TheVariants.{Pass, Lose, Repeat, Damage, Cut, Timer, Drop, Cancel}
use Rattle.radio_model.specs.declared.fate.Fate.{Fate}
use Rattle.radio_model.specs.declared.fate.Fate.TheVariants.{Delivered, Lost, Repeated, CutOff, Changed}
use Rattle.radio_model.specs.declared.deed.Deed.{Deed}
use Rattle.radio_model.specs.declared.deed.Deed.TheVariants.{Nothing, Meets, Fires, FiresBoth, Breaks, Cancels}
use Rattle.radio_model.specs.Fates.{first_can_meet}

-- the host that a direction leads from, and the one that it leads to
abbrev pub sender : Way → Side
sender Ab = sides.A
sender Ba = sides.B

abbrev pub receiver : Way → Side
receiver Ab = sides.B
receiver Ba = sides.A

-- the first frame of those that wait in a direction meets its fate, if it can
abbrev pub first_meets : Way → Fate → (frames others : List (List ℕ)) → Deed
first_meets way fate frames others = if first_can_meet fate frames (length others) then Meets way fate else Nothing

-- the same, where these frames wait from a to b and those from b to a
abbrev pub meets_on : Way → Fate → (ab ba : List (List ℕ)) → Deed
meets_on Ab fate ab ba = first_meets Ab fate ab ba
meets_on Ba fate ab ba = first_meets Ba fate ba ab

-- a `pass` delivers a frame, and fires both timers where none waits
abbrev pub passing : Option Way → (ab ba : List (List ℕ)) → Deed
passing None ab ba = FiresBoth
passing (Some way) ab ba = meets_on way Delivered ab ba

-- What a word does, given the direction that a `pass` served last, the frames that wait from a to b and from b to a, and
-- whether there is a link.
abbrev pub deed_of : Word → Option Way → (ab ba : List (List ℕ)) → (linked : Bool) → Deed
deed_of Pass served ab ba linked = passing (way_served served ab ba) ab ba
deed_of (Lose way) served ab ba linked = meets_on way Lost ab ba
deed_of (Repeat way) served ab ba linked = meets_on way Repeated ab ba
deed_of (Damage way at mask) served ab ba linked = meets_on way (Changed at mask) ab ba
deed_of (Cut way packets) served ab ba linked = meets_on way (CutOff packets) ab ba
deed_of (Timer side) served ab ba linked = Fires side
deed_of Drop served ab ba linked = if linked then Breaks else Nothing
deed_of Cancel served ab ba linked = Cancels

-- only a `pass` hands a frame over unchanged and takes it away: it served that direction
abbrev pub served_by : Way → Fate → Option Way → Option Way
served_by way Delivered served = Some way
served_by way fate served = served
