-- Pushes are in turn in the capture of each run, and links lie within them.
use Rattle.std.proofs.Common.{◌≡◌, ℕ, ◌+◌, Bool, true, false, List, [], ◌∷◌, ◌++◌, length, Option, Some, None, if◌then◌else◌, refl, sym, ap, ◌∙◌, subst, arith, length-append}
use Rattle.std.specs.Prelude.{slice_get}
use Rattle.std.specs.List.{flat_map}
use Rattle.std.proofs.lemmas.List.{append-nil}
use Rattle.std.proofs.lemmas.List.Concat.{flat_map-append}
use Rattle.turn_laws.specs.push_terms.specs.declared.word.Side.TheVariants.{A, B}
use Rattle.turn_laws.specs.push_terms.specs.declared.word.Word.{Word}
use Rattle.turn_laws.specs.push_terms.specs.declared.outcome.Outcome.{Outcome}
use Rattle.turn_laws.specs.capture.specs.declared.flow.Flow.TheVariants.{Out, Into}
use Rattle.turn_laws.specs.capture.specs.Entries.{Entry, Moved, Acted, Begun, Ended}
use Rattle.turn_laws.specs.capture.specs.Histories.{EachAfter, last_of}
use Rattle.turn_laws.specs.capture.specs.Pushes.{under_way, NoLinkOutside, LinksWithin, NoLinkAtEnd}
use Rattle.turn_laws.specs.capture.proofs.HistoryLaws.{each_after-more, last_of-append}
use Rattle.turn_laws.specs.capture.proofs.FurtherLaws.{under_way-more}
use Rattle.turn_laws.specs.radio_model.specs.Controllers.{Controller, answer_packet, piece_packet}
use Rattle.turn_laws.specs.radio_model.specs.Radio.{is_together, found}
use Rattle.turn_laws.specs.radio_model.specs.Course.{push_begun, pushes_begun, KeepsTurn, PushesInTurn}
use Rattle.turn_laws.specs.world_model.specs.Machines.{Upper}
use Rattle.turn_laws.specs.world_model.specs.Pushes.{Pushes, one_begun, one_ended}
use Rattle.turn_laws.specs.world_model.specs.Stations.{order_packet}
use Rattle.turn_laws.specs.world_model.specs.Worlds.{World, Happening, Tries, Departure, GivingBack, Piecemeal, Answering, Turns, Misses, Opens, Closes, all_entries, all_words, first_world}
use Rattle.turn_laws.proofs.Leading.{Tiding, tidings, Led}
use Rattle.air_laws.specs.AirLaws.{IsLastEnd, PushesAreMarked}
use Rattle.air_laws.proofs.Following.{Reached, known_a, known_b, Keeps, reached_first, along}
use Rattle.air_laws.proofs.Turning.{acts_pushes}
use Rattle.air_laws.proofs.Resting.{next_going}

-- the push that goes on
abbrev going_push : Pushes → Option ℕ
going_push pushes = if pushes.going then Some pushes.begun else None

record Marked (past : List Entry) (pushes : Pushes) : Type 0 where
  under : under_way past ≡ going_push pushes
  begun : pushes_begun past ≡ pushes.begun
  each : EachAfter KeepsTurn [] past
  within : EachAfter LinksWithin [] past

-- ---- where no push goes on

not_going : (going : Bool) (begun : ℕ) → (if going then Some begun else None) ≡ None → going ≡ false
not_going true begun is = absurd cc
not_going false begun is = refl

off_of : (one : Controller) (number : ℕ) (together : Bool) → tidings one.owed ≡ [] → together ≡ false → Led one.told one.up (tidings one.owed) number together → one.up ≡ false
off_of one number together none separate led =
    let now : Led one.told one.up [] number together = subst (λ (l : List Tiding). Led one.told one.up l number together) none led in
    now.1 ∙ separate

-- there is no link
outside : {S T G H : Type 0} (U : Upper S G) (V : Upper T H) (happenings : List Happening) (first : World S T) (ahead : List Happening) (past : List Entry) (words : List Word) (w : World S T) → Reached U V happenings first ahead past words w → Marked past w.pushes → NoLinkOutside past
outside U V happenings first ahead past words w reached marked none =
    let still = not_going w.pushes.going w.pushes.begun (sym marked.under ∙ none) in
    let rests = reached.kept.rests still in (
      (known_a U V happenings first ahead past words w reached).off (off_of w.radio.a w.radio.number (is_together w.radio.phase) rests.none_a rests.separate reached.kept.one.led),
      (known_b U V happenings first ahead past words w reached).off (off_of w.radio.b w.radio.number (is_together w.radio.phase) rests.none_b rests.separate reached.kept.other.led),
    )

-- ---- one entry more

abbrev IsUnmarked : Entry → Type 0
IsUnmarked (Begun push) = ⊥
IsUnmarked (Ended push outcome) = ⊥
IsUnmarked entry = Unit {0}

begun_more : (past : List Entry) (entry : Entry) → pushes_begun (past ++ entry ∷ []) ≡ pushes_begun past + length (push_begun entry)
begun_more past entry =
    ap (λ (l : List ℕ). length l) (flat_map-append push_begun past (entry ∷ []) ∙ ap (λ (l : List ℕ). flat_map push_begun past ++ l) (append-nil (push_begun entry)))
    ∙ length-append (flat_map push_begun past) (push_begun entry)

marked_plain : (entry : Entry) (past : List Entry) (pushes : Pushes) → IsUnmarked entry → NoLinkOutside past → Marked past pushes → Marked (past ++ entry ∷ []) pushes
marked_plain (Moved side flow packet) past pushes plain outside marked = record {
  under = under_way-more past (Moved side flow packet) ∙ marked.under;
  begun = begun_more past (Moved side flow packet) ∙ (let is = marked.begun in omega arith);
  each = each_after-more KeepsTurn past (Moved side flow packet) marked.each tt;
  within = each_after-more LinksWithin past (Moved side flow packet) marked.within outside;
}
marked_plain (Acted ordinal word) past pushes plain outside marked = record {
  under = under_way-more past (Acted ordinal word) ∙ marked.under;
  begun = begun_more past (Acted ordinal word) ∙ (let is = marked.begun in omega arith);
  each = each_after-more KeepsTurn past (Acted ordinal word) marked.each tt;
  within = each_after-more LinksWithin past (Acted ordinal word) marked.within outside;
}
marked_plain (Begun push) past pushes plain outside marked = absurd plain
marked_plain (Ended push outcome) past pushes plain outside marked = absurd plain

still_none : (pushes : Pushes) → pushes.going ≡ false → going_push pushes ≡ None
still_none pushes still = ap (λ (b : Bool). if b then Some pushes.begun else None) still

on_some : (pushes : Pushes) → pushes.going ≡ true → going_push pushes ≡ Some pushes.begun
on_some pushes on = ap (λ (b : Bool). if b then Some pushes.begun else None) on

marked_begun : (past : List Entry) (push : ℕ) (pushes : Pushes) → pushes.going ≡ false → push ≡ pushes.begun + 1 → NoLinkOutside past → Marked past pushes → Marked (past ++ Begun push ∷ []) (one_begun pushes)
marked_begun past push pushes still is outside marked =
    let begun = marked.begun in
    record {
      under = under_way-more past (Begun push) ∙ ap (λ (n : ℕ). Some n) is;
      begun = begun_more past (Begun push) ∙ omega arith;
      each = each_after-more KeepsTurn past (Begun push) marked.each (marked.under ∙ still_none pushes still, omega arith);
      within = each_after-more LinksWithin past (Begun push) marked.within outside;
    }

marked_ended : (past : List Entry) (push : ℕ) (outcome : Outcome) (pushes : Pushes) → pushes.going ≡ true → push ≡ pushes.begun → Marked past pushes → Marked (past ++ Ended push outcome ∷ []) (one_ended outcome pushes)
marked_ended past push outcome pushes on is marked =
    let begun = marked.begun in
    record {
      under = under_way-more past (Ended push outcome);
      begun = begun_more past (Ended push outcome) ∙ omega arith;
      each = each_after-more KeepsTurn past (Ended push outcome) marked.each (marked.under ∙ on_some pushes on ∙ ap (λ (n : ℕ). Some n) (sym is));
      within = each_after-more LinksWithin past (Ended push outcome) marked.within tt;
    }

-- ---- whatever happens

marked_at : {S T : Type 0} (past : List Entry) (new to : World S T) → new ≡ to → Marked past to.pushes → Marked past new.pushes
marked_at {S} {T} past new to same marked = subst (λ (w : World S T). Marked past w.pushes) (sym same) marked

marked_none : {S T : Type 0} (past : List Entry) (new to : World S T) → new ≡ to → Marked past to.pushes → Marked (past ++ []) new.pushes
marked_none past new to same marked = subst (λ (p : List Entry). Marked p new.pushes) (sym (append-nil past)) (marked_at past new to same marked)

marks : {S T G H : Type 0} (U : Upper S G) (V : Upper T H) (happenings : List Happening) (first : World S T) → Keeps U V happenings first (λ past words w. Marked past w.pushes)
marks U V happenings first (Tries A effort) ahead past words old new reached (station, makes, same) next marked = marked_none past new _ same marked
marks U V happenings first (Tries B effort) ahead past words old new reached (station, makes, same) next marked = marked_none past new _ same marked
marks U V happenings first (Departure A order) ahead past words old new reached (rest, is, same) next marked =
    marked_at (past ++ Moved A Out (order_packet A order) ∷ []) new _ same (marked_plain (Moved A Out (order_packet A order)) past old.pushes tt (outside U V happenings first _ past words old reached marked) marked)
marks U V happenings first (Departure B order) ahead past words old new reached (rest, is, same) next marked =
    marked_at (past ++ Moved B Out (order_packet B order) ∷ []) new _ same (marked_plain (Moved B Out (order_packet B order)) past old.pushes tt (outside U V happenings first _ past words old reached marked) marked)
marks U V happenings first (GivingBack side) ahead past words old new reached same next marked = marked_none past new _ same marked
marks U V happenings first (Piecemeal A handle piece) ahead past words old new reached (rest, is, here, g, same) next marked =
    marked_at (past ++ Moved A Into (piece_packet handle piece) ∷ []) new _ same (marked_plain (Moved A Into (piece_packet handle piece)) past old.pushes tt (outside U V happenings first _ past words old reached marked) marked)
marks U V happenings first (Piecemeal B handle piece) ahead past words old new reached (rest, is, here, h, same) next marked =
    marked_at (past ++ Moved B Into (piece_packet handle piece) ∷ []) new _ same (marked_plain (Moved B Into (piece_packet handle piece)) past old.pushes tt (outside U V happenings first _ past words old reached marked) marked)
marks U V happenings first (Answering A answer) ahead past words old new reached (rest, none, is, g, same) next marked =
    marked_at (past ++ Moved A Into (answer_packet A answer) ∷ []) new _ same (marked_plain (Moved A Into (answer_packet A answer)) past old.pushes tt (outside U V happenings first _ past words old reached marked) marked)
marks U V happenings first (Answering B answer) ahead past words old new reached (rest, none, is, h, same) next marked =
    marked_at (past ++ Moved B Into (answer_packet B answer) ∷ []) new _ same (marked_plain (Moved B Into (answer_packet B answer)) past old.pushes tt (outside U V happenings first _ past words old reached marked) marked)
marks {S} {T} U V happenings first (Turns ordinal word) ahead past words old new reached (rest, is_word, ordinal_is, mid, acts, same) next marked =
    let now = marked_plain (Acted ordinal word) past old.pushes tt (outside U V happenings first _ past words old reached marked) marked in
    marked_at (past ++ Acted ordinal word ∷ []) new _ same (subst (λ (p : Pushes). Marked (past ++ Acted ordinal word ∷ []) p) (sym (acts_pushes U V (found word old.radio) old mid acts)) now)
marks U V happenings first (Misses word) ahead past words old new reached (rest, nothing, same) next marked = marked_none past new _ same marked
marks U V happenings first (Opens push name) ahead past words old new reached (idle, next_is, push_is, g, same) next marked =
    marked_at (past ++ Begun push ∷ []) new _ same
    (marked_begun past push old.pushes (next_going old.pushes.going (slice_get old.pushes.names old.pushes.begun) name next_is) push_is (outside U V happenings first _ past words old reached marked) marked)
marks U V happenings first (Closes push outcome) ahead past words old new reached (going, push_is, idle, is, apart, none_a, none_b, quiet_a, quiet_b, same) next marked =
    marked_at (past ++ Ended push outcome ∷ []) new _ same (marked_ended past push outcome old.pushes going push_is marked)

-- ---- the whole capture

finishes : (entries : List Entry) (last : Option Entry) → NoLinkOutside entries → NoLinkAtEnd entries last
finishes entries None outside = outside
finishes entries (Some (Ended push outcome)) outside = tt
finishes entries (Some (Moved side flow packet)) outside = outside
finishes entries (Some (Acted ordinal word)) outside = outside
finishes entries (Some (Begun push)) outside = outside

last_end : (past : List Entry) (push : ℕ) (outcome : Outcome) → NoLinkAtEnd (past ++ Ended push outcome ∷ []) (last_of (past ++ Ended push outcome ∷ []))
last_end past push outcome = subst (λ (e : Option Entry). NoLinkAtEnd (past ++ Ended push outcome ∷ []) e) (sym (last_of-append past (Ended push outcome ∷ []))) tt

in_turn : (pushes : Pushes) (past ends : List Entry) → IsLastEnd pushes ends → NoLinkOutside past → Marked past pushes → PushesInTurn (past ++ ends)
in_turn pushes past [] last outside marked =
    subst PushesInTurn (sym (append-nil past)) (record { each = marked.each; within = marked.within; finish = finishes past (last_of past) outside })
in_turn pushes past (Ended push outcome ∷ []) last outside marked =
    let now = marked_ended past push outcome pushes last.0 last.1 marked in
    record { each = now.each; within = now.within; finish = last_end past push outcome }
in_turn pushes past (Ended push outcome ∷ entry ∷ ends) last outside marked = absurd last
in_turn pushes past (Moved side flow packet ∷ ends) last outside marked = absurd last
in_turn pushes past (Acted ordinal word ∷ ends) last outside marked = absurd last
in_turn pushes past (Begun push ∷ ends) last outside marked = absurd last

pub pushes_are_marked : {S T G H : Type 0} (U : Upper S G) (V : Upper T H) → PushesAreMarked U V
pushes_are_marked U V size count names happenings w ends fits runs last =
    let first = first_world U V size count names in
    let all = along U V happenings first (λ past words w. Marked past w.pushes) happenings [] [] first w fits.frames_a fits.frames_b fits.idles (marks U V happenings first) runs
    (reached_first U V size count names happenings fits) (record { under = refl; begun = refl; each = tt; within = tt }) in
    in_turn w.pushes (all_entries happenings) ends last (outside U V happenings first [] (all_entries happenings) (all_words happenings) w all.reached all.now) all.now
