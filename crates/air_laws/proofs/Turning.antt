-- What a word does to the air as the capture has it, and where it finds nothing.
use Rattle.std.proofs.Common.{◌≡◌, ◌⊎◌, ℕ, ◌≤◌, ◌||◌, not, Bool, true, false, List, [], ◌∷◌, length, Option, Some, None, if◌then◌else◌, refl, sym, ap, ◌∙◌, inl, inr, subst, arith, le-ltb}
use Rattle.std.specs.Prelude.{is_some, unwrap_or}
use Rattle.turn_laws.specs.acl_fragments.specs.Pieces.{channel_of}
use Rattle.turn_laws.specs.push_terms.specs.declared.word.Side.{Side}
use Rattle.turn_laws.specs.push_terms.specs.declared.word.Side.TheVariants.{A, B}
use Rattle.turn_laws.specs.push_terms.specs.declared.word.Way.{Way}
use Rattle.turn_laws.specs.push_terms.specs.declared.word.Way.TheVariants.{Ab, Ba}
use Rattle.turn_laws.specs.push_terms.specs.declared.word.Word.{Word}
use Rattle.turn_laws.specs.push_terms.specs.declared.word.Word.TheVariants.{Pass, Lose, Repeat, Damage, Cut, Timer, Drop, Cancel}
use Rattle.turn_laws.specs.capture.specs.Entries.{Entry}
use Rattle.turn_laws.specs.capture.specs.Frames.{waiting, way_served}
use Rattle.turn_laws.specs.capture.specs.Air.{Air}
use Rattle.turn_laws.specs.radio_model.specs.declared.fate.Fate.{Fate}
use Rattle.turn_laws.specs.radio_model.specs.declared.fate.Fate.TheVariants.{Delivered, Lost, Repeated, CutOff, Changed}
use Rattle.turn_laws.specs.radio_model.specs.declared.deed.Deed.{Deed}
use Rattle.turn_laws.specs.radio_model.specs.declared.deed.Deed.TheVariants.{Nothing, Meets, Fires, FiresBoth, Breaks, Cancels}
use Rattle.turn_laws.specs.radio_model.specs.Words.{deed_of, passing, meets_on}
use Rattle.turn_laws.specs.radio_model.specs.Fates.{first_can_meet}
use Rattle.turn_laws.specs.radio_model.specs.Air.{Hosts, checks_channel, is_checked, after_meeting, after_deed, acted, found, FindsNothing}
use Rattle.turn_laws.specs.radio_model.specs.Radio.{Radio, is_together, controller, first_channel}
use Rattle.turn_laws.specs.radio_model.specs.Radio as radio_rules
use Rattle.turn_laws.specs.world_model.specs.Machines.{Upper}
use Rattle.turn_laws.specs.world_model.specs.Turns as turns
use Rattle.turn_laws.specs.world_model.specs.Stations.{Station}
use Rattle.turn_laws.specs.world_model.specs.Worlds.{World, checks, Acts}
use Rattle.turn_laws.specs.Premises.{IsFrame}
use Rattle.turn_laws.proofs.Wiring.{AllFrames}
use Rattle.air_laws.specs.AirLaws.{Agrees}
use Rattle.air_laws.proofs.Tying.{Tie, tie_parted, tie_met}

-- ---- an air that has settled

pub record Settled (radio : Radio) (air : Air) : Type 0 where
  pub link : air.link ≡ radio.number
  pub unbroken : not air.broken ≡ is_together radio.phase

unbroken_by : (together broken : Bool) → (together ≡ false → broken ≡ true) → (together ≡ true → broken ≡ false) → not broken ≡ together
unbroken_by true broken off on = ap (λ (b : Bool). not b) (on refl)
unbroken_by false broken off on = ap (λ (b : Bool). not b) (off refl)

-- one host knows of all links
pub settled_air : (size told : ℕ) (radio : Radio) (air : Air) → told ≡ radio.number → told ≤ air.link → Tie size radio air → Settled radio air
settled_air size told radio air all low tie =
    let most = tie.most in
    let link : air.link ≡ radio.number = omega arith in
    record { link = link; unbroken = unbroken_by (is_together radio.phase) air.broken (λ off. (tie.apart off).1.broken) (λ on. tie.together on link) }

-- a word finds in the air what it finds in the radio
pub found_alike : (size : ℕ) (word : Word) (radio : Radio) (air : Air) → Settled radio air → Tie size radio air → found word air ≡ radio_rules.found word radio
found_alike size word radio air settled tie = λ i. deed_of word (tie.served_is i) (tie.a.waits.are i) (tie.b.waits.are i) (settled.unbroken i)

-- ---- a frame that meets its fate

tie_meeting : (way : Way) (fate : Fate) (checked : Bool) (queue : List (List ℕ)) (size : ℕ) (radio : Radio) (air : Air) → radio_rules.frames way radio ≡ queue → Tie size radio air
    → Tie size (radio_rules.after_meeting way fate checked queue radio) (after_meeting size way fate checked queue air)
tie_meeting way fate checked [] size radio air is tie = tie
tie_meeting way fate checked (frame ∷ rest) size radio air is tie =
    subst (λ (n : ℕ). Tie size (radio_rules.after_meeting way fate checked (frame ∷ rest) radio) (after_meeting n way fate checked (frame ∷ rest) air)) tie.size_is
    (tie_met way fate checked frame rest radio.size size radio air is tie)

-- its receiver is asked for the check word of its channel
channel_by : (frame : List ℕ) (rest : List (List ℕ)) → IsFrame frame → first_channel (frame ∷ rest) ≡ Some (channel_of frame)
channel_by frame rest is = ap (λ (b : Bool). if b then None else Some (channel_of frame)) (le-ltb (length frame) 4 is.pdu.0)

checked_by : {S G : Type 0} (U : Upper S G) (hosts : Hosts) (side : Side) (past : List Entry) (station : Station S) (queue : List (List ℕ)) → AllFrames queue → ((channel : ℕ) → hosts.checks side past channel ≡ U.has_check station.upper channel)
    → checks_channel hosts side past (first_channel queue) ≡ checks U station queue
checked_by U hosts side past station [] all agrees = refl
checked_by U hosts side past station (frame ∷ rest) all agrees =
    ap (λ (c : Option ℕ). checks_channel hosts side past c) (channel_by frame rest all.0) ∙ agrees (channel_of frame)

-- ---- what a word does

pub record DoesAir (size : ℕ) (radio : Radio) (air : Air) (next : Option Air) : Type 0 where
  pub finds : is_some next ≡ true
  pub tie : Tie size radio (unwrap_or next air)

does_as : (size : ℕ) (radio : Radio) (air : Air) (one two : Option Air) → one ≡ two → DoesAir size radio air two → DoesAir size radio air one
does_as size radio air one two same does = subst (λ (o : Option Air). DoesAir size radio air o) (sym same) does

or_same : (a b c d : Bool) → a ≡ c → b ≡ d → (a || b) ≡ (c || d)
or_same a b c d one two = λ i. one i || two i

pub acts_alike :
    {S T G H : Type 0} (U : Upper S G) (V : Upper T H) (hosts : Hosts) (size : ℕ) (past : List Entry) (deed : Deed) (old new : World S T) (air : Air) → AllFrames old.radio.a.waiting → AllFrames old.radio.b.waiting → Agrees U V hosts past old → Settled old.radio air
    → Tie size old.radio air → Acts U V deed old new → DoesAir size new.radio air (after_deed hosts size past air deed)
acts_alike U V hosts size past Nothing old new air frames_a frames_b agrees settled tie acts = absurd acts
acts_alike U V hosts size past (Meets Ab fate) old new air frames_a frames_b agrees settled tie acts =
    let queue : waiting air.ab ≡ old.radio.a.waiting = tie.a.waits.are in
    let checked : is_checked hosts past air Ab ≡ checks V old.b old.radio.a.waiting = ap (λ (q : List (List ℕ)). checks_channel hosts B past (first_channel q)) queue ∙ checked_by V hosts B past old.b old.radio.a.waiting frames_a agrees.checks_b in
    rw acts (record {
      finds = refl;
      tie = subst (λ (q : List (List ℕ)). Tie size (radio_rules.after_meeting Ab fate (checks V old.b old.radio.a.waiting) old.radio.a.waiting old.radio) (after_meeting size Ab fate (is_checked hosts past air Ab) q air)) (sym queue)
          (subst (λ (c : Bool). Tie size (radio_rules.after_meeting Ab fate (checks V old.b old.radio.a.waiting) old.radio.a.waiting old.radio) (after_meeting size Ab fate c old.radio.a.waiting air)) (sym checked)
          (tie_meeting Ab fate (checks V old.b old.radio.a.waiting) old.radio.a.waiting size old.radio air refl tie));
    })
acts_alike U V hosts size past (Meets Ba fate) old new air frames_a frames_b agrees settled tie acts =
    let queue : waiting air.ba ≡ old.radio.b.waiting = tie.b.waits.are in
    let checked : is_checked hosts past air Ba ≡ checks U old.a old.radio.b.waiting = ap (λ (q : List (List ℕ)). checks_channel hosts A past (first_channel q)) queue ∙ checked_by U hosts A past old.a old.radio.b.waiting frames_b agrees.checks_a in
    rw acts (record {
      finds = refl;
      tie = subst (λ (q : List (List ℕ)). Tie size (radio_rules.after_meeting Ba fate (checks U old.a old.radio.b.waiting) old.radio.b.waiting old.radio) (after_meeting size Ba fate (is_checked hosts past air Ba) q air)) (sym queue)
          (subst (λ (c : Bool). Tie size (radio_rules.after_meeting Ba fate (checks U old.a old.radio.b.waiting) old.radio.b.waiting old.radio) (after_meeting size Ba fate c old.radio.b.waiting air)) (sym checked)
          (tie_meeting Ba fate (checks U old.a old.radio.b.waiting) old.radio.b.waiting size old.radio air refl tie));
    })
acts_alike U V hosts size past (Fires A) old new air frames_a frames_b agrees settled tie (armed, g, same) =
    rw same (does_as size old.radio air _ (Some air) (ap (λ (b : Bool). if b then Some air else None) (agrees.armed_a ∙ armed)) (record { finds = refl; tie = tie }))
acts_alike U V hosts size past (Fires B) old new air frames_a frames_b agrees settled tie (armed, h, same) =
    rw same (does_as size old.radio air _ (Some air) (ap (λ (b : Bool). if b then Some air else None) (agrees.armed_b ∙ armed)) (record { finds = refl; tie = tie }))
acts_alike U V hosts size past FiresBoth old new air frames_a frames_b agrees settled tie (armed, g, h, same) =
    rw same (does_as size old.radio air _ (Some air) (ap (λ (b : Bool). if b then Some air else None) (or_same (hosts.armed A past) (hosts.armed B past) (U.armed old.a.upper) (V.armed old.b.upper) agrees.armed_a agrees.armed_b ∙ armed)) (record { finds = refl; tie = tie }))
acts_alike U V hosts size past Breaks old new air frames_a frames_b agrees settled tie acts =
    rw acts (record { finds = refl; tie = tie_parted size 0x08 0x08 old.radio air settled.link tie })
acts_alike U V hosts size past Cancels old new air frames_a frames_b agrees settled tie (may, g, same) = rw same (record { finds = refl; tie = tie })

pub acts_turned : {S T G H : Type 0} (U : Upper S G) (V : Upper T H) (deed : Deed) (old new : World S T) → Acts U V deed old new → new.turned ≡ old.turned
acts_turned U V Nothing old new acts = absurd acts
acts_turned U V (Meets Ab fate) old new acts = rw acts refl
acts_turned U V (Meets Ba fate) old new acts = rw acts refl
acts_turned U V (Fires A) old new (armed, g, same) = rw same refl
acts_turned U V (Fires B) old new (armed, h, same) = rw same refl
acts_turned U V FiresBoth old new (armed, g, h, same) = rw same refl
acts_turned U V Breaks old new acts = rw acts refl
acts_turned U V Cancels old new (may, g, same) = rw same refl

pub acts_pushes : {S T G H : Type 0} (U : Upper S G) (V : Upper T H) (deed : Deed) (old new : World S T) → Acts U V deed old new → new.pushes ≡ old.pushes
acts_pushes U V Nothing old new acts = absurd acts
acts_pushes U V (Meets Ab fate) old new acts = rw acts refl
acts_pushes U V (Meets Ba fate) old new acts = rw acts refl
acts_pushes U V (Fires A) old new (armed, g, same) = rw same refl
acts_pushes U V (Fires B) old new (armed, h, same) = rw same refl
acts_pushes U V FiresBoth old new (armed, g, h, same) = rw same refl
acts_pushes U V Breaks old new acts = rw acts refl
acts_pushes U V Cancels old new (may, g, same) = rw same refl

-- ---- what finds nothing

pub nothing_alike : {S T G H : Type 0} (U : Upper S G) (V : Upper T H) (hosts : Hosts) (size : ℕ) (past : List Entry) (deed : Deed) (w : World S T) (air : Air) → Agrees U V hosts past w → turns.FindsNothing U V deed w.pushes w.a.upper w.b.upper
    → (deed ≡ Cancels) ⊎ (after_deed hosts size past air deed ≡ None)
nothing_alike U V hosts size past Nothing w air agrees nothing = inr refl
nothing_alike U V hosts size past (Meets way fate) w air agrees nothing = absurd nothing
nothing_alike U V hosts size past (Fires A) w air agrees nothing = inr (ap (λ (b : Bool). if b then Some air else None) (agrees.armed_a ∙ nothing))
nothing_alike U V hosts size past (Fires B) w air agrees nothing = inr (ap (λ (b : Bool). if b then Some air else None) (agrees.armed_b ∙ nothing))
nothing_alike U V hosts size past FiresBoth w air agrees nothing =
    inr (ap (λ (b : Bool). if b then Some air else None) (or_same (hosts.armed A past) (hosts.armed B past) (U.armed w.a.upper) (V.armed w.b.upper) agrees.armed_a agrees.armed_b ∙ nothing))
nothing_alike U V hosts size past Breaks w air agrees nothing = absurd nothing
nothing_alike U V hosts size past Cancels w air agrees nothing = inl refl

meets_never : (some : Bool) (way : Way) (fate : Fate) → ◌≡◌ {A = Deed} (if some then Meets way fate else Nothing) Cancels → ⊥
meets_never true way fate is = cc
meets_never false way fate is = cc

on_never : (way : Way) (fate : Fate) (ab ba : List (List ℕ)) → meets_on way fate ab ba ≡ Cancels → ⊥
on_never Ab fate ab ba is = meets_never (first_can_meet fate ab (length ba)) Ab fate is
on_never Ba fate ab ba is = meets_never (first_can_meet fate ba (length ab)) Ba fate is

pass_never : (served : Option Way) (ab ba : List (List ℕ)) → passing served ab ba ≡ Cancels → ⊥
pass_never None ab ba is = cc
pass_never (Some way) ab ba is = on_never way Delivered ab ba is

drop_never : (linked : Bool) → ◌≡◌ {A = Deed} (if linked then Breaks else Nothing) Cancels → ⊥
drop_never true is = cc
drop_never false is = cc

none_of : (x : Option Air) (P : Type 0) → (P → ⊥) → P ⊎ (x ≡ None) → x ≡ None
none_of x P never either = elim either [ inl is ↦ absurd (never is) | inr none ↦ none ]

-- only `cancel` cancels
pub finds_none : (hosts : Hosts) (size : ℕ) (past : List Entry) (air : Air) (word : Word) → (found word air ≡ Cancels) ⊎ (acted hosts size past air word ≡ None) → FindsNothing hosts size past air word
finds_none hosts size past air Cancel either = tt
finds_none hosts size past air Pass either = none_of (acted hosts size past air Pass) _ (pass_never (way_served air.served (waiting air.ab) (waiting air.ba)) (waiting air.ab) (waiting air.ba)) either
finds_none hosts size past air (Lose way) either = none_of (acted hosts size past air (Lose way)) _ (on_never way Lost (waiting air.ab) (waiting air.ba)) either
finds_none hosts size past air (Repeat way) either = none_of (acted hosts size past air (Repeat way)) _ (on_never way Repeated (waiting air.ab) (waiting air.ba)) either
finds_none hosts size past air (Damage way at mask) either = none_of (acted hosts size past air (Damage way at mask)) _ (on_never way (Changed at mask) (waiting air.ab) (waiting air.ba)) either
finds_none hosts size past air (Cut way packets) either = none_of (acted hosts size past air (Cut way packets)) _ (on_never way (CutOff packets) (waiting air.ab) (waiting air.ba)) either
finds_none hosts size past air (Timer side) either = none_of (acted hosts size past air (Timer side)) _ (λ is. cc) either
finds_none hosts size past air Drop either = none_of (acted hosts size past air Drop) _ (drop_never (not air.broken)) either

-- the same after other entries
pub finds_as : (hosts : Hosts) (size : ℕ) (one two : List Entry) (air : Air) (word : Word) → acted hosts size two air word ≡ acted hosts size one air word → FindsNothing hosts size one air word → FindsNothing hosts size two air word
finds_as hosts size one two air Cancel same nothing = tt
finds_as hosts size one two air Pass same nothing = same ∙ nothing
finds_as hosts size one two air (Lose way) same nothing = same ∙ nothing
finds_as hosts size one two air (Repeat way) same nothing = same ∙ nothing
finds_as hosts size one two air (Damage way at mask) same nothing = same ∙ nothing
finds_as hosts size one two air (Cut way packets) same nothing = same ∙ nothing
finds_as hosts size one two air (Timer side) same nothing = same ∙ nothing
finds_as hosts size one two air Drop same nothing = same ∙ nothing
