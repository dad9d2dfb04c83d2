-- A push in which a PDU came into host a had a link, also for host b.
use Rattle.std.proofs.Common.{arith, ◌≡◌, ◌≤◌, ◌+◌, ◌⊎◌, inl, inr, ℕ, Bool, false, List, [], ◌∷◌, ◌++◌, Option, Some, None, refl, sym, ap, subst, ◌∙◌, append-nil}
use Rattle.std.specs.Prelude.{slice_get}
use Rattle.std.specs.List.{AllByRecursion}
use Rattle.std.proofs.lemmas.Bool.{cases_lt}
use Rattle.cause_laws.specs.FirstCauses.{since_begun, is_piece, IsNoBegin}
use Rattle.cause_laws.proofs.Runs.{since_then}
use Rattle.tape_laws.specs.bt_base.specs.Objects.{Contents}
use Rattle.tape_laws.specs.push_script.specs.declared.scenario.Scenario.{Scenario}
use Rattle.tape_laws.specs.push_terms.specs.declared.word.Side.{Side}
use Rattle.tape_laws.specs.push_terms.specs.declared.word.Side.TheVariants.{A, B}
use Rattle.tape_laws.specs.capture.specs.declared.flow.Flow.TheVariants.{Out, Into}
use Rattle.tape_laws.specs.capture.specs.Entries.{Entry, Moved, Acted, Begun, Ended}
use Rattle.tape_laws.specs.capture.specs.Links.{link_up}
use Rattle.tape_laws.specs.capture.proofs.HistoryLaws.{led_by-append, at_each-whole}
use Rattle.tape_laws.specs.world_model.specs.radio_model.specs.Controllers.{Answer, LinkMade, Controller, answer_packet, piece_packet}
use Rattle.tape_laws.specs.world_model.specs.radio_model.specs.Radio.{is_together}
use Rattle.tape_laws.specs.world_model.specs.Machines.{Upper}
use Rattle.tape_laws.specs.world_model.specs.Stations.{order_packet}
use Rattle.tape_laws.specs.world_model.specs.Worlds.{World, Happening, Tries, Departure, GivingBack, Piecemeal, Answering, Turns, Misses, Opens, Closes, all_entries, first_world}
use Rattle.cause_laws.specs.turn_laws.proofs.Leading.{Tiding, tidings, Led}
use Rattle.cause_laws.specs.turn_laws.proofs.Wiring.{IsListening}
use Rattle.tape_laws.specs.air_laws.proofs.Following.{known_a, known_b, Keeps, reached_first, along}
use Rattle.tape_laws.specs.air_laws.proofs.Resting.{next_going}
use Rattle.tape_laws.specs.scenario_laws.specs.Captures.{client_of, server_of, BothHosts, Happened, Ran}
use Rattle.tape_laws.specs.scenario_laws.specs.OneLink.{links_told, begun_with, links_at_begin, HasOneLink}
use Rattle.tape_laws.specs.scenario_laws.proofs.Fronts.{fits}
use Rattle.tape_laws.specs.scenario_laws.proofs.OneLink.{pushes_have_one_link}
use Rattle.done_laws.specs.Storing.{ahead_of_push, before_begun}
use Rattle.done_laws.proofs.Growing.{entry_grows, begun_up}

-- ---- no piece of a PDU came into host a

abbrev pub NoPieceCame : List Entry → Type 0
NoPieceCame entries = AllByRecursion (λ (entry : Entry). is_piece entry ≡ false) entries

one_less : (entries : List Entry) (entry : Entry) → NoPieceCame entries → is_piece entry ≡ false → NoPieceCame (entries ++ entry ∷ [])
one_less [] entry none is = (is, tt)
one_less (first ∷ entries) entry none is = (none.0, one_less entries entry none.1 is)

-- so it is since a push was begun while host a was told of no link; host b had none as it was begun
record Since (past : List Entry) : Type 0 where
  low : links_at_begin A past ≤ links_told A past
  same : links_at_begin B past ≡ links_at_begin A past
  down : link_up B (before_begun past) ≡ None
  still : links_told A past ≤ links_at_begin A past → (link_up A past ≡ None) × NoPieceCame (since_begun past)

-- ---- one entry more

-- it is no piece, or a link is up
abbrev IsPlain : List Entry → Entry → Type 0
IsPlain past entry = (is_piece entry ≡ false) ⊎ (link_up A past ≡ None → ⊥)

at_begin : (side : Side) (past : List Entry) (entry : Entry) → IsNoBegin entry → links_at_begin side (past ++ entry ∷ []) ≡ links_at_begin side past
at_begin side past (Begun push) none = absurd none
at_begin side past (Moved by flow packet) none = led_by-append (begun_with side) [] 0 past (Moved by flow packet ∷ [])
at_begin side past (Acted ordinal word) none = led_by-append (begun_with side) [] 0 past (Acted ordinal word ∷ [])
at_begin side past (Ended push outcome) none = led_by-append (begun_with side) [] 0 past (Ended push outcome ∷ [])

ahead_same : (past : List Entry) (entry : Entry) → IsNoBegin entry → before_begun (past ++ entry ∷ []) ≡ before_begun past
ahead_same past (Begun push) none = absurd none
ahead_same past (Moved by flow packet) none = led_by-append ahead_of_push [] [] past (Moved by flow packet ∷ [])
ahead_same past (Acted ordinal word) none = led_by-append ahead_of_push [] [] past (Acted ordinal word ∷ [])
ahead_same past (Ended push outcome) none = led_by-append ahead_of_push [] [] past (Ended push outcome ∷ [])

since_same : (past : List Entry) (entry : Entry) → IsNoBegin entry → since_begun (past ++ entry ∷ []) ≡ since_begun past ++ entry ∷ []
since_same past (Begun push) none = absurd none
since_same past (Moved by flow packet) none = since_then past (Moved by flow packet)
since_same past (Acted ordinal word) none = since_then past (Acted ordinal word)
since_same past (Ended push outcome) none = since_then past (Ended push outcome)

entry_since : (past : List Entry) (entry : Entry) → IsNoBegin entry → IsPlain past entry → Since past → Since (past ++ entry ∷ [])
entry_since past entry none plain since =
    let grows = entry_grows A past entry in
    let more : links_told A past ≤ links_told A (past ++ entry ∷ []) = grows.no_less in
    let begun = at_begin A past entry none in
    let low = since.low in
    record {
      low = omega (arith, more, begun, low);
      same = at_begin B past entry none ∙ (since.same ∙ sym (at_begin A past entry none));
      down = ap (link_up B) (ahead_same past entry none) ∙ since.down;
      still = λ few.
          let so = since.still (omega (arith, few, more, begun)) in
          let fewer : links_told A (past ++ entry ∷ []) ≤ links_told A past = omega (arith, few, begun, low) in (
            grows.stays_down so.0 fewer,
            subst NoPieceCame (sym (since_same past entry none)) (one_less (since_begun past) entry so.1 (elim plain [ inl is ↦ is | inr up ↦ absurd (up so.0) ])),
          );
    }

nothing_since : (past : List Entry) → Since past → Since (past ++ [])
nothing_since past since = subst Since (sym (append-nil past)) since

-- an answer of a controller is no piece
answer_plain : (answer : Answer) → is_piece (Moved A Into (answer_packet A answer)) ≡ false
answer_plain (LinkMade handle) = refl
answer_plain answer = refl

module _ {S T G H : Type 0} (U : Upper S G) (V : Upper T H) where
  -- where nothing is owed to a host it was told of all links
  all_told : (one : Controller) (number : ℕ) (together : Bool) → tidings one.owed ≡ [] → Led one.told one.up (tidings one.owed) number together → (one.told ≡ number) × (one.up ≡ together)
  all_told one number together none led = subst (λ (l : List Tiding). Led one.told one.up l number together) none led

  keeps : (happenings : List Happening) (first : World S T) → Keeps U V happenings first (λ past words w. Since past)
  keeps happenings first (Tries side effort) ahead past words old new reached does next since = nothing_since past since
  keeps happenings first (Departure A order) ahead past words old new reached does next since = entry_since past (Moved A Out (order_packet A order)) tt (inl refl) since
  keeps happenings first (Departure B order) ahead past words old new reached does next since = entry_since past (Moved B Out (order_packet B order)) tt (inl refl) since
  keeps happenings first (GivingBack side) ahead past words old new reached does next since = nothing_since past since
  keeps happenings first (Piecemeal A handle piece) ahead past words old new reached (rest, comes, here, g, same) next since =
      entry_since past (Moved A Into (piece_packet handle piece)) tt (inr (λ down. listens down reached.kept.one.incoming.listens)) since
    where
      listens : link_up A past ≡ None → (old.radio.a.coming ≡ []) ⊎ IsListening U old.radio.a.up old.radio.a.told old.radio.number old.a.upper old.a.pieces → ⊥
      listens down (inl none) = let never : piece ∷ rest ≡ [] = sym comes ∙ none in cc
      listens down (inr on) = let link = (known_a U V happenings first (Piecemeal A handle piece ∷ ahead) past words old reached).on on.on in (let never : None ≡ Some link.link = sym down ∙ link.is in cc)
  keeps happenings first (Piecemeal B handle piece) ahead past words old new reached does next since = entry_since past (Moved B Into (piece_packet handle piece)) tt (inl refl) since
  keeps happenings first (Answering A answer) ahead past words old new reached does next since = entry_since past (Moved A Into (answer_packet A answer)) tt (inl (answer_plain answer)) since
  keeps happenings first (Answering B answer) ahead past words old new reached does next since = entry_since past (Moved B Into (answer_packet B answer)) tt (inl refl) since
  keeps happenings first (Turns ordinal word) ahead past words old new reached does next since = entry_since past (Acted ordinal word) tt (inl refl) since
  keeps happenings first (Misses word) ahead past words old new reached does next since = nothing_since past since
  keeps happenings first (Opens push name) ahead past words old new reached (idle, next_is, push_is, g, same) next since =
      let rests = reached.kept.rests (next_going old.pushes.going (slice_get old.pushes.names old.pushes.begun) name next_is) in
      let a = all_told old.radio.a old.radio.number (is_together old.radio.phase) rests.none_a reached.kept.one.led in
      let b = all_told old.radio.b old.radio.number (is_together old.radio.phase) rests.none_b reached.kept.other.led in
      let known_near = known_a U V happenings first (Opens push name ∷ ahead) past words old reached in
      let known_far = known_b U V happenings first (Opens push name ∷ ahead) past words old reached in
      let near = known_near.count in
      let far = known_far.count in
      let told_a = a.0 in
      let told_b = b.0 in
      let at_a = led_by-append (begun_with A) [] 0 past (Begun push ∷ []) in
      let at_b = led_by-append (begun_with B) [] 0 past (Begun push ∷ []) in
      let more : links_told A past ≤ links_told A (past ++ Begun push ∷ []) = (entry_grows A past (Begun push)).no_less in
      record {
        low = omega (arith, at_a, more);
        same = at_b ∙ (far ∙ (told_b ∙ (sym told_a ∙ (sym near ∙ sym at_a))));
        down = ap (link_up B) (led_by-append ahead_of_push [] [] past (Begun push ∷ [])) ∙ known_far.off (b.1 ∙ rests.separate);
        still = λ few. (begun_up push past ∙ known_near.off (a.1 ∙ rests.separate), subst NoPieceCame (sym (since_then past (Begun push))) tt);
      }
  keeps happenings first (Closes push outcome) ahead past words old new reached does next since = entry_since past (Ended push outcome) tt (inl refl) since

-- ---- a run

module _ (scenario : Scenario) (content : Option Contents) (happenings : List Happening) (w : BothHosts) (happened : Happened scenario content happenings w) (none_a : w.radio.a.owed ≡ []) (none_b : w.radio.b.owed ≡ []) where
  -- Host b had no link as the push was begun that was begun last, and both hosts were told of as many since then, of one at most.
  record Lately : Type 0 where
    since : Since (all_entries happenings)
    level : links_told A (all_entries happenings) ≡ links_told B (all_entries happenings)
    most : HasOneLink B (all_entries happenings)

  lately : Lately
  lately =
      let U = client_of scenario in
      let V = server_of scenario content in
      let first = first_world U V scenario.acl_length scenario.acl_count scenario.names in
      let fit = fits scenario content in
      let past = all_entries happenings in
      let first_since : Since [] = record { low = omega arith; same = refl; down = refl; still = λ few. (refl, tt) } in
      let all = along U V happenings first (λ past words w. Since past) happenings [] [] first w fit.frames_a fit.frames_b fit.idles (keeps U V happenings first) happened (reached_first U V scenario.acl_length scenario.acl_count scenario.names happenings fit) first_since in
      let kept = all.reached.kept in
      let a = all_told U V w.radio.a w.radio.number (is_together w.radio.phase) (ap tidings none_a) kept.one.led in
      let b = all_told U V w.radio.b w.radio.number (is_together w.radio.phase) (ap tidings none_b) kept.other.led in
      let near = (known_a U V happenings first [] past _ w all.reached).count in
      let far = (known_b U V happenings first [] past _ w all.reached).count in
      let told_a = a.0 in
      let told_b = b.0 in
      let ran : Ran scenario content past = record { happenings = happenings; world = w; happened = happened; ends = []; last = tt; capture_is = sym (append-nil past) } in
      record { since = all.now; level = omega (arith, near, far, told_a, told_b); most = at_each-whole (HasOneLink B) past (pushes_have_one_link scenario content past B ran) }

  -- host b had no link as the push was begun that was begun last, and has had none since then or one
  pub record HadLinks : Type 0 where
    pub down : link_up B (before_begun (all_entries happenings)) ≡ None
    pub links : (links_told B (all_entries happenings) ≤ links_at_begin B (all_entries happenings)) ⊎ (links_told B (all_entries happenings) ≡ links_at_begin B (all_entries happenings) + 1)

  pub had_links : HadLinks
  had_links =
      let past = all_entries happenings in
      let so = lately in
      let most = so.most in
      record { down = so.since.down; links = elim (cases_lt (links_at_begin B past) (links_told B past)) [ inl more ↦ inr (omega (arith, more, most)) | inr few ↦ inl few ] }

-- host b had no link as the push was begun that was begun last, and one since then
pub record HadOneLink (past : List Entry) : Type 0 where
  pub down : link_up B (before_begun past) ≡ None
  pub one : links_told B past ≡ links_at_begin B past + 1

pub one_since : (scenario : Scenario) (content : Option Contents) (happenings : List Happening) (w : BothHosts) → Happened scenario content happenings w → w.radio.a.owed ≡ [] → w.radio.b.owed ≡ [] → (NoPieceCame (since_begun (all_entries happenings)) → ⊥) → HadOneLink (all_entries happenings)
one_since scenario content happenings w happened none_a none_b some =
    let past = all_entries happenings in
    let so = lately scenario content happenings w happened none_a none_b in
    let level = so.level in
    let most = so.most in
    let same = so.since.same in
    record {
      down = so.since.down;
      one = elim (cases_lt (links_at_begin A past) (links_told A past)) [
        | inl more ↦ omega (arith, more, level, most, same)
        | inr few ↦ absurd (some (so.since.still few).1)
      ];
    }
