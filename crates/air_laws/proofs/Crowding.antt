-- The frames that wait in the radio, and those that the capture has.
use Rattle.std.proofs.Common.{◌≡◌, ℕ, ◌||◌, Bool, true, false, List, refl, ap, ◌∙◌}
use Rattle.turn_laws.specs.push_terms.specs.declared.word.Way.{Way}
use Rattle.turn_laws.specs.push_terms.specs.declared.word.Way.TheVariants.{Ab, Ba}
use Rattle.turn_laws.specs.radio_model.specs.Air.{Hosts, air_after}
use Rattle.turn_laws.specs.radio_model.specs.Queues.{is_crowded}
use Rattle.turn_laws.specs.radio_model.specs.Radio.{Radio}
use Rattle.turn_laws.specs.capture.specs.Entries.{Entry}
use Rattle.turn_laws.specs.world_model.specs.Machines.{Upper}
use Rattle.turn_laws.specs.world_model.specs.Worlds.{all_entries}
use Rattle.air_laws.specs.Crowded.{frames_after, IsCrowded, FramesAreTold, CrowdsAreTold}
use Rattle.air_laws.proofs.Obeying.{obeyed}

pub frames_are_told : {S T G H : Type 0} (U : Upper S G) (V : Upper T H) → FramesAreTold U V
frames_are_told U V hosts size count names happenings w Ab fits runs tells = (obeyed U V hosts size count names happenings w fits runs tells).now.tie.a.waits.are
frames_are_told U V hosts size count names happenings w Ba fits runs tells = (obeyed U V hosts size count names happenings w fits runs tells).now.tie.b.waits.are

crowded_by : (hosts : Hosts) (size : ℕ) (past : List Entry) (radio : Radio) (one two : Bool) → frames_after hosts size Ab past ≡ radio.a.waiting → frames_after hosts size Ba past ≡ radio.b.waiting
    → is_crowded radio.a.waiting ≡ one → is_crowded radio.b.waiting ≡ two → (one || two) ≡ true → IsCrowded hosts size past
crowded_by hosts size past radio true two ab ba first second some = (Ab, ap is_crowded ab ∙ first)
crowded_by hosts size past radio false true ab ba first second some = (Ba, ap is_crowded ba ∙ second)
crowded_by hosts size past radio false false ab ba first second some = cc

pub crowds_are_told : {S T G H : Type 0} (U : Upper S G) (V : Upper T H) → CrowdsAreTold U V
crowds_are_told U V hosts size count names happenings w fits runs tells some =
    crowded_by hosts size (all_entries happenings) w.radio (is_crowded w.radio.a.waiting) (is_crowded w.radio.b.waiting) (frames_are_told U V hosts size count names happenings w Ab fits runs tells)
    (frames_are_told U V hosts size count names happenings w Ba fits runs tells) refl refl some
