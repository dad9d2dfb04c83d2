-- The greatest numbers of outstanding packets, as they are noted, are those of the capture.
use Rattle.std.proofs.Common.{◌≡◌, ℕ, ◌+◌, ◌≤◌, ◌-◌, ◌==◌, ◌&&◌, ◌⊎◌, Bool, true, false, List, [], ◌∷◌, ◌++◌, map, fold, Option, Some, None, is_none, nat_le, if◌then◌else◌, inl, inr, refl, sym, ap, subst, ◌∙◌, append_assoc, arith}
use Rattle.std.specs.Option.{option_map, option_or}
use Rattle.std.proofs.lemmas.Bool.{eq-eqb}
use Rattle.std.proofs.lemmas.List.{append-nil}
use Rattle.std.proofs.lemmas.Grind.{flat_map-append}
use Rattle.h4_framing.specs.Packets.{Packet, Command, Acl, Sync, Event}
use Rattle.room_laws.specs.hci_packets.specs.Events.{event_refusal}
use Rattle.room_laws.specs.hci_packets.specs.Events.{entries_of as returned_in}
use Rattle.room_laws.specs.acl_credits.specs.Histories.{Completed, outstanding_after}
use Rattle.push_terms.specs.declared.word.Side.{Side}
use Rattle.push_terms.specs.declared.word.Side.TheVariants.{A, B}
use Rattle.capture.specs.declared.flow.Flow.TheVariants.{Out, Into}
use Rattle.capture.specs.Entries.{Entry, Moved}
use Rattle.capture.specs.Moves.{Move, move_of, moves}
use Rattle.capture.specs.Links.{Link, Linking, LinkNews, Asked, Answered, LinkEnded, NoNews, longer, after_news, after_move, ends_with, link_news, linking}
use Rattle.capture.specs.Buffers.{buffer_events, outstanding_on_link, outstanding_of, all_outstanding}
use Rattle.capture.specs.Laws.{led_on}
use Rattle.capture.specs.Peaks.{buffers_peak}
use Rattle.capture.proofs.MoreLaws.{outstanding-more}
use Rattle.capture.proofs.FurtherLaws.{entry_links-more, peak-more}
use Rattle.radio_model.specs.Controllers.{Controller}
use Rattle.radio_model.specs.Owed.{back, outstanding_at}
use Rattle.radio_model.specs.Radio.{Radio}
use Rattle.room_laws.specs.world_model.specs.Machines.{Upper}
use Rattle.room_laws.specs.world_model.specs.Stations.{Order, order_packet}
use Rattle.room_laws.specs.world_model.specs.Worlds.{World, Happening, Tries, Departure, GivingBack, Piecemeal, Answering, Turns, Misses, Opens, Closes, Runs, all_entries, entries_of, first_world}
use Rattle.room_laws.specs.turn_laws.specs.WorldLaws.{Fits}
use Rattle.room_laws.specs.air_laws.proofs.Accounting.{Account, account_within}
use Rattle.room_laws.specs.air_laws.proofs.Balancing.{booked_all}
use Rattle.room_laws.specs.air_laws.proofs.Following.{runs_then}
use Rattle.room_laws.specs.air_laws.proofs.Owing.{keeps_of}
use Rattle.radio_world.specs.BufferPeaks.{BufferPeaksAreSeen}
use Rattle.radio_world.specs.Leaving.{Medium, in_radio, noted}
use Rattle.radio_world.specs.Scenes.{Moment, world_at, Plays, noted_of}
use Rattle.radio_world.specs.Standing.{IsCount, starting, first_moment}
use Rattle.radio_world.proofs.Starting.{orderly_from, runs_from}

-- ---- what is outstanding

held_here : (one : Controller) → keeps_of one.told one ≡ one.taken + back one.told one.owed
held_here one = by (one.told == one.told) (eq-eqb one.told one.told refl)
  where
    by : (here : Bool) → here ≡ true → back one.told one.owed + (if here then one.taken else 0) ≡ one.taken + back one.told one.owed
    by true is = omega arith
    by false is = absurd cc

-- a controller counts what the capture counts
outstanding_is : (limit : ℕ) (side : Side) (past : List Entry) (one : Controller) (out : List Order) (outstanding total : ℕ) → Account limit side past one out outstanding total → all_outstanding side past ≡ outstanding_at one
outstanding_is limit side past one out outstanding total account = by one.up account.on account.off
  where
    by : (up : Bool) → (up ≡ true → all_outstanding side past ≡ keeps_of one.told one) → (up ≡ false → (outstanding ≡ 0) × (all_outstanding side past ≡ 0)) → all_outstanding side past ≡ (if up then one.taken + back one.told one.owed else 0)
    by true on off = on refl ∙ held_here one
    by false on off = (off refl).1

-- ---- what no packet out of a host raises

back_less : (handle n : ℕ) (entries : List (ℕ × ℕ)) → fold (outstanding_after handle) n (map (λ entry. Completed entry.0 entry.1) entries) ≤ n
back_less handle n [] = omega arith
back_less handle n ((other, back) ∷ entries) =
    let first = by (other == handle) (nat_le back n) in
    let rest = back_less handle (outstanding_after handle n (Completed other back)) entries in
    omega arith
  where
    by : (here few : Bool) → (if here then (if few then n - back else n) else n) ≤ n
    by true true = omega arith
    by true false = omega arith
    by false few = omega arith

come_less : (handle n : ℕ) (packet : Packet) → fold (outstanding_after handle) n (buffer_events (record { flow = Into; packet = packet })) ≤ n
come_less handle n (Command opcode params) = omega arith
come_less handle n (Acl word octets) = omega arith
come_less handle n (Sync word octets) = omega arith
come_less handle n (Event code params) = by (code == 0x13) (is_none (event_refusal code params)) (returned_in _)
  where
    by : (is fits : Bool) (entries : List (ℕ × ℕ)) → fold (outstanding_after handle) n (if is then (if fits then map (λ entry. Completed entry.0 entry.1) entries else []) else []) ≤ n
    by true true entries = back_less handle n entries
    by true false entries = omega arith
    by false fits entries = omega arith

module _ (packet : Packet) where
  abbrev come : Move
  come = record { flow = Into; packet = packet }

  goes_on : (up : Option Link) → outstanding_of (option_map (longer come) up) ≤ outstanding_of up
  goes_on None = omega arith
  goes_on (Some link) = let more = outstanding-more link come in let less = come_less link.handle (outstanding_on_link link) packet in omega arith

  made_less : (up : Option Link) (some : Bool) (handle : ℕ) → outstanding_of (option_or (if some then Some (record { handle = handle; moves = [] }) else None) (option_map (longer come) up)) ≤ outstanding_of up
  made_less up true handle = omega arith
  made_less up false handle = goes_on up

  ended_less : (handle : ℕ) (linked : Linking) (up : Option Link) → outstanding_of (ends_with handle come linked up).up ≤ outstanding_of linked.up
  ended_less handle linked None = omega arith
  ended_less handle linked (Some link) = by (link.handle == handle)
    where
      by : (here : Bool) → outstanding_of (if here then record linked { past = linked.past ++ link ∷ []; up = None } else record linked { up = option_map (longer come) linked.up }).up ≤ outstanding_of linked.up
      by true = omega arith
      by false = goes_on linked.up

  after_less : (linked : Linking) (told : LinkNews) → outstanding_of (after_news come linked told).up ≤ outstanding_of linked.up
  after_less linked Asked = goes_on linked.up
  after_less linked (Answered status handle) = made_less linked.up ((linked.asked && (status == 0)) && is_none linked.up) handle
  after_less linked (LinkEnded handle) = ended_less handle linked linked.up
  after_less linked NoNews = goes_on linked.up

-- an entry that is no packet out of that host
abbrev pub IsNoSending : Side → Entry → Type 0
IsNoSending side entry = (move_of side entry ≡ None) ⊎ ((packet : Packet) × (move_of side entry ≡ Some (record { flow = Into; packet = packet })))

no_more : (side : Side) (past : List Entry) (entry : Entry) → IsNoSending side entry → all_outstanding side (past ++ entry ∷ []) ≤ all_outstanding side past
no_more side past entry (inl none) =
    let same : all_outstanding side (past ++ entry ∷ []) ≡ all_outstanding side past = ap (λ (l : Linking). outstanding_of l.up) (entry_links-more side past entry ∙ ap (λ (m : Option Move). led_on m (linking (moves side past))) none) in
    omega arith
no_more side past entry (inr (packet, is)) =
    let same : all_outstanding side (past ++ entry ∷ []) ≡ outstanding_of (after_move (linking (moves side past)) (come packet)).up =
    ap (λ (l : Linking). outstanding_of l.up) (entry_links-more side past entry ∙ ap (λ (m : Option Move). led_on m (linking (moves side past))) is) in
    let less = after_less packet (linking (moves side past)) (link_news (come packet)) in
    omega arith

-- the last moment is no greater than the greatest
covered : (side : Side) (entries : List Entry) → all_outstanding side entries ≤ buffers_peak side entries
covered side entries = reversed [] entries (omega arith)
  where
    reversed : (past more : List Entry) → all_outstanding side past ≤ buffers_peak side past → all_outstanding side (past ++ more) ≤ buffers_peak side (past ++ more)
    reversed past [] now = subst (λ (es : List Entry). all_outstanding side es ≤ buffers_peak side es) (sym (append-nil past)) now
    reversed past (entry ∷ more) now =
        let next = peak-more side past entry in
        subst (λ (es : List Entry). all_outstanding side es ≤ buffers_peak side es) (append_assoc past (entry ∷ []) more) (reversed (past ++ entry ∷ []) more (omega arith))

-- so such an entry leaves the greatest as it is
pub same_peak : (side : Side) (past : List Entry) (entry : Entry) → IsNoSending side entry → buffers_peak side (past ++ entry ∷ []) ≡ buffers_peak side past
same_peak side past entry none =
    let more = peak-more side past entry in
    let less = no_more side past entry none in
    let now = covered side past in
    omega arith

-- ---- what is noted

pub record Seen (past : List Entry) (medium : Medium) : Type 0 where
  pub a : medium.peak_a ≡ buffers_peak A past
  pub b : medium.peak_b ≡ buffers_peak B past

seen_none : (past : List Entry) (medium : Medium) (radio : Radio) → Seen past medium → Seen (past ++ []) (in_radio radio medium)
seen_none past medium radio seen = subst (λ (es : List Entry). Seen es (in_radio radio medium)) (sym (append-nil past)) (record { a = seen.a; b = seen.b })

seen_entry : (past : List Entry) (entry : Entry) (medium : Medium) (radio : Radio) → IsNoSending A entry → IsNoSending B entry → Seen past medium → Seen (past ++ entry ∷ []) (in_radio radio medium)
seen_entry past entry medium radio none_a none_b seen = record { a = seen.a ∙ sym (same_peak A past entry none_a); b = seen.b ∙ sym (same_peak B past entry none_b) }

-- how many are outstanding in a world, as its capture has it
record Counts {S T : Type 0} (past : List Entry) (w : World S T) : Type 0 where
  a : all_outstanding A past ≡ outstanding_at w.radio.a
  b : all_outstanding B past ≡ outstanding_at w.radio.b
  few_a : all_outstanding A past ≤ 64
  few_b : all_outstanding B past ≤ 64

module _ {S T G H : Type 0} (U : Upper S G) (V : Upper T H) (s : S) (t : T) (size count : ℕ) (names : List (List ℕ)) (fits : Fits (starting s U) (starting t V) size) (counted : IsCount count) where
  abbrev first : World S T
  first = first_world (starting s U) (starting t V) size count names

  counts : (done : List Happening) (w : World S T) → Runs U V done first w → Counts (all_entries done) w
  counts done w runs =
      let books = (booked_all (starting s U) (starting t V) size count names done w fits (runs_from U V s t done first w runs)).books in
      let within_a = account_within count A (all_entries done) w.radio.a w.a.out w.a.outstanding w.a.total books.a in
      let within_b = account_within count B (all_entries done) w.radio.b w.b.out w.b.outstanding w.b.total books.b in
      record {
        a = outstanding_is count A (all_entries done) w.radio.a w.a.out w.a.outstanding w.a.total books.a;
        b = outstanding_is count B (all_entries done) w.radio.b w.b.out w.b.outstanding w.b.total books.b;
        few_a = omega arith;
        few_b = omega arith;
      }

  leaves_a : (past : List Entry) (order : Order) (old : Medium) (w : World S T) → Counts (past ++ Moved A Out (order_packet A order) ∷ []) w → Seen past old → Seen (past ++ Moved A Out (order_packet A order) ∷ []) (noted A (in_radio w.radio old))
  leaves_a past order old w now seen =
      let more = peak-more A past (Moved A Out (order_packet A order)) in
      let held = now.a in
      let few = now.few_a in
      let before = seen.a in
      record { a = omega arith; b = seen.b ∙ sym (same_peak B past (Moved A Out (order_packet A order)) (inl refl)) }

  leaves_b : (past : List Entry) (order : Order) (old : Medium) (w : World S T) → Counts (past ++ Moved B Out (order_packet B order) ∷ []) w → Seen past old → Seen (past ++ Moved B Out (order_packet B order) ∷ []) (noted B (in_radio w.radio old))
  leaves_b past order old w now seen =
      let more = peak-more B past (Moved B Out (order_packet B order)) in
      let held = now.b in
      let few = now.few_b in
      let before = seen.b in
      record { a = seen.a ∙ sym (same_peak A past (Moved B Out (order_packet B order)) (inl refl)); b = omega arith }

  one_more : (happening : Happening) (past : List Entry) (old : Medium) (w : World S T) → Counts (past ++ entries_of happening) w → Seen past old → Seen (past ++ entries_of happening) (noted_of happening (in_radio w.radio old))
  one_more (Tries side effort) past old w now seen = seen_none past old w.radio seen
  one_more (Departure A order) past old w now seen = leaves_a past order old w now seen
  one_more (Departure B order) past old w now seen = leaves_b past order old w now seen
  one_more (GivingBack side) past old w now seen = seen_none past old w.radio seen
  one_more (Piecemeal A handle piece) past old w now seen = seen_entry past _ old w.radio (inr (_, refl)) (inl refl) seen
  one_more (Piecemeal B handle piece) past old w now seen = seen_entry past _ old w.radio (inl refl) (inr (_, refl)) seen
  one_more (Answering A answer) past old w now seen = seen_entry past _ old w.radio (inr (_, refl)) (inl refl) seen
  one_more (Answering B answer) past old w now seen = seen_entry past _ old w.radio (inl refl) (inr (_, refl)) seen
  one_more (Turns ordinal word) past old w now seen = seen_entry past _ old w.radio (inl refl) (inl refl) seen
  one_more (Misses word) past old w now seen = seen_none past old w.radio seen
  one_more (Opens push name) past old w now seen = seen_entry past _ old w.radio (inl refl) (inl refl) seen
  one_more (Closes push outcome) past old w now seen = seen_entry past _ old w.radio (inl refl) (inl refl) seen

  seen_all : (done rest : List Happening) (old new : Moment S T) → Runs U V done first (world_at old) → Seen (all_entries done) old.scene.medium → Plays U V rest old new → Seen (all_entries (done ++ rest)) new.scene.medium
  seen_all done [] old new runs seen same =
      subst (λ (m : Moment S T). Seen (all_entries (done ++ [])) m.scene.medium) (sym same) (subst (λ (hs : List Happening). Seen (all_entries hs) old.scene.medium) (sym (append-nil done)) seen)
  seen_all done (happening ∷ rest) old new runs seen (mid, happens, plays) =
      let on : Runs U V (done ++ happening ∷ []) first (world_at mid) = runs_then U V done happening first (world_at old) (world_at mid) runs happens.does in
      let entries : all_entries (done ++ happening ∷ []) ≡ all_entries done ++ entries_of happening = flat_map-append entries_of done (happening ∷ []) ∙ ap (λ (es : List Entry). all_entries done ++ es) (append-nil (entries_of happening)) in
      let now : Counts (all_entries done ++ entries_of happening) (world_at mid) = subst (λ (es : List Entry). Counts es (world_at mid)) entries (counts (done ++ happening ∷ []) (world_at mid) on) in
      let next : Seen (all_entries (done ++ happening ∷ [])) mid.scene.medium =
      subst (λ (es : List Entry). Seen es mid.scene.medium) (sym entries) (subst (λ (m : Medium). Seen (all_entries done ++ entries_of happening) m) (sym happens.notes) (one_more happening (all_entries done) old.scene.medium (world_at mid) now seen)) in
      subst (λ (hs : List Happening). Seen (all_entries hs) new.scene.medium) (append_assoc done (happening ∷ []) rest) (seen_all (done ++ happening ∷ []) rest mid new on next plays)

pub buffer_peaks_are_seen : {S T G H : Type 0} (U : Upper S G) (V : Upper T H) → BufferPeaksAreSeen U V
buffer_peaks_are_seen U V s t size count names happenings at orderly idle long counted plays =
    let both = orderly_from U V s t idle orderly in
    let fits : Fits (starting s U) (starting t V) size = record { long = long; frames_a = both.frames_a; frames_b = both.frames_b; idles = both.idles } in
    let seen = seen_all U V s t size count names fits counted [] happenings (first_moment (starting s U) (starting t V) size count names) at refl (record { a = refl; b = refl }) plays in
    (seen.a, seen.b)
