-- The SDUs on a channel in one pass (Core 5.1, Volume 3 Part A, 3.1, 3.3, 7.3 and 8.4).
use Rattle.std.specs.Prelude.{ℕ, ◌≡◌, ◌+◌, List, [], ◌∷◌, ◌++◌, length, map, fold, drop, None}
use Rattle.link_talk.specs.capture.specs.declared.flow.Flow.{Flow}
use Rattle.link_talk.specs.capture.specs.declared.flow.Flow.TheVariants.{Out, Into}
use Rattle.link_talk.specs.capture.specs.Histories.{given_by}
use Rattle.link_talk.specs.ertm_frames.specs.Reading.{frame_in, frames_in}
use Rattle.link_talk.specs.ertm_frames.specs.Segments.{Segment}
use Rattle.link_talk.specs.ertm_frames.specs.Picking.{picked}
use Rattle.link_talk.specs.ertm_frames.specs.Joining.{Joining, At, joined, ended}
use Rattle.link_talk.specs.l2cap_config.specs.declared.wish.Mode.{Mode}
use Rattle.link_talk.specs.l2cap_config.specs.declared.wish.Mode.TheVariants.{Basic, Enhanced}
use Rattle.link_talk.specs.declared.party.Party.{Party}
use Rattle.link_talk.specs.Carriages.{Carriage, pdus_of}
use Rattle.link_talk.specs.Picks.{pick_in}
use Rattle.link_talk.specs.Sdus.{longest, sdus_by, Spoken, spoken_as, spoken_with}

-- ---- one way

-- how many I-frames were picked, and how far their segments are joined
pub record Ear : Type 0 where
  pub next : ℕ
  pub joining : Joining

abbrev pub nothing_heard : Ear
nothing_heard = record { next = 0; joining = At None }

-- the segment of a PDU that is picked, if it is the next
abbrev pub segment_of : ℕ → Ear → List ℕ → List Segment
segment_of most ear pdu = pick_in ear.next (frame_in most pdu)

abbrev pub ear_after : ℕ → Ear → List ℕ → Ear
ear_after most ear pdu = record { next = ear.next + length (segment_of most ear pdu); joining = joined ear.joining (segment_of most ear pdu) }

abbrev pub heard_so_far : ℕ → List (List ℕ) → Ear
heard_so_far most pdus = fold (ear_after most) nothing_heard pdus

-- the SDUs that are whole with one PDU
abbrev pub sdus_with : ℕ → Mode → Ear → List ℕ → List (List ℕ)
sdus_with most Basic ear pdu = drop 4 pdu ∷ []
sdus_with most Enhanced ear pdu = ended ear.joining (segment_of most ear pdu)

-- ---- both ways

pub record Ears : Type 0 where
  pub out_ : Ear
  pub into : Ear

abbrev pub no_ears : Ears
no_ears = record { out_ = nothing_heard; into = nothing_heard }

abbrev pub ear_of : Flow → Ears → Ear
ear_of Out ears = ears.out_
ear_of Into ears = ears.into

abbrev pub with_ear : Flow → Ears → Ear → Ears
with_ear Out ears ear = record ears { out_ = ear }
with_ear Into ears ear = record ears { into = ear }

abbrev pub ears_after : Party → Ears → Carriage → Ears
ears_after party ears carriage = with_ear carriage.flow ears (ear_after (longest party carriage.flow) (ear_of carriage.flow ears) carriage.pdu)

abbrev pub ears_so_far : Party → List Carriage → Ears
ears_so_far party carriages = fold (ears_after party) no_ears carriages

abbrev pub spoken_now : Party → Mode → Ears → Carriage → List Spoken
spoken_now party mode ears carriage =
    map (spoken_as carriage.flow) (sdus_with (longest party carriage.flow) mode (ear_of carriage.flow ears) carriage.pdu)

abbrev pub spoken_from : Party → Mode → Ears → List Carriage → List Spoken
spoken_from party mode ears [] = []
spoken_from party mode ears (carriage ∷ carriages) = spoken_now party mode ears carriage ++ spoken_from party mode (ears_after party ears carriage) carriages

-- ---- the laws

-- what one pass holds is how far the frames are picked and joined, and what it hands up are the SDUs
pub record SdusLookBack : Type 0 where
  pub held : (most : ℕ) (pdus : List (List ℕ))
      → heard_so_far most pdus ≡ record { next = length (picked 0 (frames_in most pdus)); joining = joined (At None) (picked 0 (frames_in most pdus)) }
  pub ways : (party : Party) (flow : Flow) (carriages : List Carriage) → ear_of flow (ears_so_far party carriages) ≡ heard_so_far (longest party flow) (pdus_of flow carriages)
  pub spoken : (party : Party) (mode : Mode) (carriages : List Carriage) → given_by (spoken_with party mode) carriages ≡ spoken_from party mode no_ears carriages

-- one PDU more
pub record SdusGrow : Type 0 where
  pub one_way : (most : ℕ) (mode : Mode) (pdus : List (List ℕ)) (pdu : List ℕ) → sdus_by most mode (pdus ++ pdu ∷ []) ≡ sdus_by most mode pdus ++ sdus_with most mode (heard_so_far most pdus) pdu
  pub both_ways : (party : Party) (mode : Mode) (carriages : List Carriage) (more : Carriage)
      → given_by (spoken_with party mode) (carriages ++ more ∷ []) ≡ given_by (spoken_with party mode) carriages ++ spoken_now party mode (ears_so_far party carriages) more
