-- The SDUs on a channel with one PDU more.
use Rattle.std.proofs.Common.{◌≡◌, ℕ, ◌+◌, List, [], ◌∷◌, ◌++◌, length, drop, map, Option, Some, None, refl, sym, ap, ◌∙◌, append-nil, arith, length-append}
use Rattle.std.specs.List.{cons_option}
use Rattle.std.proofs.lemmas.List.{map-append}
use Rattle.std.proofs.lemmas.List.Elements.{filter_map-append}
use Rattle.std.proofs.lemmas.List.Sums.{fold-append}
use Rattle.link_talk.specs.capture.specs.declared.flow.Flow.{Flow}
use Rattle.link_talk.specs.capture.specs.declared.flow.Flow.TheVariants.{Out, Into}
use Rattle.link_talk.specs.capture.specs.Histories.{each_after, given_by}
use Rattle.link_talk.specs.capture.proofs.HistoryLaws.{given_by-more}
use Rattle.link_talk.specs.ertm_frames.specs.Frames.{PlainFrame}
use Rattle.link_talk.specs.ertm_frames.specs.Reading.{frame_in, frames_in}
use Rattle.link_talk.specs.ertm_frames.specs.Segments.{Segment}
use Rattle.link_talk.specs.ertm_frames.specs.Picking.{picked}
use Rattle.link_talk.specs.ertm_frames.specs.Joining.{At, joined, ended}
use Rattle.link_talk.specs.ertm_frames.proofs.Longest.{joined-append, ended-append}
use Rattle.link_talk.specs.ertm_frames.proofs.Telling.{picked-more, frames-more}
use Rattle.link_talk.specs.l2cap_config.specs.declared.wish.Mode.{Mode}
use Rattle.link_talk.specs.l2cap_config.specs.declared.wish.Mode.TheVariants.{Basic, Enhanced}
use Rattle.link_talk.specs.declared.party.Party.{Party}
use Rattle.link_talk.specs.Carriages.{Carriage, one_way, pdus_of}
use Rattle.link_talk.specs.Gains.{beyond}
use Rattle.link_talk.specs.Picks.{pick, pick_in}
use Rattle.link_talk.specs.Sdus.{longest, sdus_by, spoken_as, spoken_with}
use Rattle.talk_laws.specs.Sdus.{Ear, nothing_heard, ear_after, heard_so_far, sdus_with, Ears, no_ears, ear_of, ears_after, ears_so_far, spoken_now, spoken_from, SdusLookBack, SdusGrow}
use Rattle.talk_laws.proofs.Passes.{from_end, drop_front}

-- ---- one way

abbrev segments : ℕ → List (List ℕ) → List Segment
segments most pdus = picked 0 (frames_in most pdus)

picked_option : (frames : List PlainFrame) (frame : Option PlainFrame) → picked 0 (frames ++ cons_option frame []) ≡ picked 0 frames ++ pick_in (length (picked 0 frames)) frame
picked_option frames None = ap (picked 0) (append-nil frames) ∙ sym (append-nil (picked 0 frames))
picked_option frames (Some frame) =
    let none : 0 + length (picked 0 frames) ≡ length (picked 0 frames) = omega arith in
    picked-more 0 frames frame ∙ ap (λ n. picked 0 frames ++ pick n frame) none

segments_more : (most : ℕ) (pdus : List (List ℕ)) (pdu : List ℕ) → segments most (pdus ++ pdu ∷ []) ≡ segments most pdus ++ pick_in (length (segments most pdus)) (frame_in most pdu)
segments_more most pdus pdu = ap (picked 0) (frames-more most pdus pdu) ∙ picked_option (frames_in most pdus) (frame_in most pdu)

abbrev ear_by : List Segment → Ear
ear_by found = record { next = length found; joining = joined (At None) found }

ear_more : (found more : List Segment) → ear_by (found ++ more) ≡ record { next = length found + length more; joining = joined (joined (At None) found) more }
ear_more found more =
    ap (λ n. let e : Ear = record { next = n; joining = joined (At None) (found ++ more) } in e) (length-append found more)
    ∙ ap (λ j. let e : Ear = record { next = length found + length more; joining = j } in e) (joined-append (At None) found more)

abbrev Held : ℕ → List (List ℕ) → Type 0
Held most pdus = heard_so_far most pdus ≡ ear_by (segments most pdus)

held_more : (most : ℕ) (pdus : List (List ℕ)) (pdu : List ℕ) → Held most pdus → Held most (pdus ++ pdu ∷ [])
held_more most pdus pdu held =
    fold-append (ear_after most) nothing_heard pdus (pdu ∷ [])
    ∙ (ap (λ e. ear_after most e pdu) held
    ∙ (sym (ear_more (segments most pdus) (pick_in (length (segments most pdus)) (frame_in most pdu)))
    ∙ ap ear_by (sym (segments_more most pdus pdu))))

pub ear-is : (most : ℕ) (pdus : List (List ℕ)) → heard_so_far most pdus ≡ ear_by (segments most pdus)
ear-is most pdus = from_end (Held most) refl (held_more most) pdus

pub sdus-more : (most : ℕ) (mode : Mode) (pdus : List (List ℕ)) (pdu : List ℕ) → sdus_by most mode (pdus ++ pdu ∷ []) ≡ sdus_by most mode pdus ++ sdus_with most mode (heard_so_far most pdus) pdu
sdus-more most Basic pdus pdu = map-append (drop 4) pdus (pdu ∷ [])
sdus-more most Enhanced pdus pdu =
    ap (ended (At None)) (segments_more most pdus pdu)
    ∙ (ended-append (At None) (segments most pdus) (pick_in (length (segments most pdus)) (frame_in most pdu))
    ∙ ap (λ e. ended (At None) (segments most pdus) ++ sdus_with most Enhanced e pdu) (sym (ear-is most pdus)))

-- ---- both ways

abbrev carriage : Flow → List ℕ → Carriage
carriage flow pdu = record { flow = flow; pdu = pdu }

pdus_more : (flow : Flow) (past : List Carriage) (more : Carriage) → pdus_of flow (past ++ more ∷ []) ≡ pdus_of flow past ++ cons_option (one_way flow more) []
pdus_more flow past more = filter_map-append (one_way flow) past (more ∷ [])

abbrev Ways : Party → Flow → List Carriage → Type 0
Ways party flow past = ear_of flow (ears_so_far party past) ≡ heard_so_far (longest party flow) (pdus_of flow past)

ear_kept : (party : Party) (flow way : Flow) (ears : Ears) (past : List Carriage) (pdu : List ℕ) → ear_of flow ears ≡ heard_so_far (longest party flow) (pdus_of flow past)
    → ear_of flow (ears_after party ears (carriage way pdu)) ≡ heard_so_far (longest party flow) (pdus_of flow past ++ cons_option (one_way flow (carriage way pdu)) [])
ear_kept party Out Out ears past pdu held = ap (λ e. ear_after (longest party Out) e pdu) held ∙ sym (fold-append (ear_after (longest party Out)) nothing_heard (pdus_of Out past) (pdu ∷ []))
ear_kept party Into Into ears past pdu held = ap (λ e. ear_after (longest party Into) e pdu) held ∙ sym (fold-append (ear_after (longest party Into)) nothing_heard (pdus_of Into past) (pdu ∷ []))
ear_kept party Out Into ears past pdu held = held ∙ ap (heard_so_far (longest party Out)) (sym (append-nil (pdus_of Out past)))
ear_kept party Into Out ears past pdu held = held ∙ ap (heard_so_far (longest party Into)) (sym (append-nil (pdus_of Into past)))

ways_more : (party : Party) (flow : Flow) (past : List Carriage) (more : Carriage) → Ways party flow past → Ways party flow (past ++ more ∷ [])
ways_more party flow past more held =
    ap (ear_of flow) (fold-append (ears_after party) no_ears past (more ∷ []))
    ∙ (ear_kept party flow more.flow (ears_so_far party past) past more.pdu held
    ∙ ap (heard_so_far (longest party flow)) (sym (pdus_more flow past more)))

pub ways-are : (party : Party) (flow : Flow) (carriages : List Carriage) → ear_of flow (ears_so_far party carriages) ≡ heard_so_far (longest party flow) (pdus_of flow carriages)
ways-are party flow carriages = from_end (Ways party flow) (none flow) (ways_more party flow) carriages
  where
    none : (way : Flow) → ear_of way no_ears ≡ nothing_heard
    none Out = refl
    none Into = refl

same_way : (flow : Flow) (pdu : List ℕ) → one_way flow (carriage flow pdu) ≡ Some pdu
same_way Out pdu = refl
same_way Into pdu = refl

pub spoken-now : (party : Party) (mode : Mode) (past : List Carriage) (more : Carriage) → spoken_with party mode past more ≡ spoken_now party mode (ears_so_far party past) more
spoken-now party mode past more =
    let flow = more.flow in
    let before = sdus_by (longest party flow) mode (pdus_of flow past) in
    ap (λ pdus. map (spoken_as flow) (beyond before (sdus_by (longest party flow) mode pdus))) (pdus_more flow past more ∙ ap (λ o. pdus_of flow past ++ cons_option o []) (same_way flow more.pdu))
    ∙ (ap (λ now. map (spoken_as flow) (beyond before now)) (sdus-more (longest party flow) mode (pdus_of flow past) more.pdu)
    ∙ (ap (map (spoken_as flow)) (drop_front before (sdus_with (longest party flow) mode (heard_so_far (longest party flow) (pdus_of flow past)) more.pdu))
    ∙ ap (λ e. map (spoken_as flow) (sdus_with (longest party flow) mode e more.pdu)) (sym (ways-are party flow past))))

pub spoken-behind : (party : Party) (mode : Mode) (past rest : List Carriage) → each_after (spoken_with party mode) past rest ≡ spoken_from party mode (ears_so_far party past) rest
spoken-behind party mode past [] = refl
spoken-behind party mode past (more ∷ rest) =
    ap (λ now. now ++ each_after (spoken_with party mode) (past ++ more ∷ []) rest) (spoken-now party mode past more)
    ∙ (ap (λ later. spoken_now party mode (ears_so_far party past) more ++ later) (spoken-behind party mode (past ++ more ∷ []) rest)
    ∙ ap (λ ears. spoken_now party mode (ears_so_far party past) more ++ spoken_from party mode ears rest) (fold-append (ears_after party) no_ears past (more ∷ [])))

pub sdus-look_back : SdusLookBack
sdus-look_back = record { held = ear-is; ways = ways-are; spoken = λ party mode carriages. spoken-behind party mode [] carriages }

pub sdus-grow : SdusGrow
sdus-grow = record {
  one_way = sdus-more;
  both_ways = λ party mode carriages more. given_by-more (spoken_with party mode) carriages more ∙ ap (λ now. given_by (spoken_with party mode) carriages ++ now) (spoken-now party mode carriages more);
}
