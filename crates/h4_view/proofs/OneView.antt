-- An input has one view.
use Rattle.std.proofs.Common.{◌≡◌, ◌≢◌, ℕ, zero, suc, ◌+◌, ◌-◌, ◌<◌, ◌≤◌, List, [], ◌∷◌, ◌++◌, length, take, drop, min, Option, Some, None, Result, Ok, Err, refl, sym, ap, subst, ◌∙◌, append_assoc, arith, inl, inr, length-append}
use Rattle.std.proofs.lemmas.Bool.{cases_lt}
use Rattle.std.proofs.lemmas.List.{append-nil, length-take, length-drop, take-append-drop, take_all, take_at, drop_at}
use Rattle.std.proofs.Math.Seq.{take-append-add, take-nil}
use Rattle.std.specs.List.{AllByRecursion}
use Rattle.bt_base.specs.Octets.{IsOctets}
use Rattle.bt_base.specs.Streams.{gained, GainedFront}
use Rattle.bt_base.proofs.PortLaws.{front_longer, front_whole}
use Rattle.h4_framing.specs.declared.refusal.H4Refusal.TheVariants as h4
use Rattle.h4_framing.specs.Packets.{Packet, spellings, IsPacket}
use Rattle.h4_framing.specs.Stream.{IsUnfinished, Ending, Whole, Cut, Fault, Ends, Reads}
use Rattle.h4_framing.proofs.OctetLists.{IsOctets-take}
use Rattle.h4_framing.proofs.ExtentLemmas.{unfinished_right, some_long}
use Rattle.h4_framing.proofs.LengthLemmas.{front_short, least_length}
use Rattle.h4_framing.proofs.TakingLemmas.{nothing_unfinished}
use Rattle.h4_framing.proofs.ReadingLemmas.{NoPacket, unfinished_none, wrong_none, nothing_none, no_wrong_nothing, front_packets, same_split, each_read}
use Rattle.h4_view.specs.declared.refusal.ViewRefusal.{ViewRefusal}
use Rattle.h4_view.specs.declared.refusal.ViewRefusal.TheVariants.{BadIndicator, Truncated, TooLong}
use Rattle.h4_view.specs.declared.refusal.ViewFault.{ViewFault}
use Rattle.h4_view.specs.declared.refusal.ViewFault.TheVariants.{Refused, ReadFault, WriteFault, NoMemory}
use Rattle.h4_view.specs.View.{acl_limit, input_limit, HasBadIndicator, MayEndWithin, GoesPast, Stops, BeginsWith, IsView, FrontWritten, OfLines, OfAll, ShowsRead, Views, verdict_text, view_text}
use Rattle.h4_view.specs.Lines.{lines}
use Rattle.h4_view.proofs.Stands.{packets_begin, lines_then}

-- what is read of what is left at that offset: whoever reads stops at the greatest length
abbrev read_of : ℕ → List ℕ → List ℕ
read_of from rest = take (input_limit - from) rest

-- a bad first octet is read, below the greatest length
bad_read : (n : ℕ) (rest : List ℕ) → 0 < n → HasBadIndicator rest → HasBadIndicator (take n rest)
bad_read zero rest lt bad = absurd (omega arith)
bad_read (suc n) rest lt (first, more, is, wrong, at) = (first, take n more, ap (take (suc n)) is, wrong, at)

-- what may end within the greatest length is unfinished, and all of it is read
within_unfinished : (from : ℕ) (rest : List ℕ) → MayEndWithin from rest → IsUnfinished acl_limit rest
within_unfinished from rest (p, f, le) = (p, f)

within_read : (from : ℕ) (rest : List ℕ) → MayEndWithin from rest → read_of from rest ≡ rest
within_read from rest (p, f, le) = take_all (input_limit - from) rest (omega (arith, front_short acl_limit rest p f))

-- no whole packet is in what is read behind the packets that are shown
stops_none : (from : ℕ) (rest : List ℕ) (v : Option (ViewRefusal × ℕ)) → Stops from rest v → NoPacket acl_limit (read_of from rest)
stops_none from rest None h = subst (NoPacket acl_limit) (sym (ap (take (input_limit - from)) h ∙ take-nil (input_limit - from))) (nothing_none acl_limit)
stops_none from rest (Some (BadIndicator, place)) h = wrong_none acl_limit (read_of from rest) h4.BadIndicator 0 (bad_read (input_limit - from) rest (omega (arith, h.1)) h.2)
stops_none from rest (Some (Truncated, place)) h = subst (NoPacket acl_limit) (sym (within_read from rest h.2)) (unfinished_none acl_limit rest (within_unfinished from rest h.2))
stops_none from rest (Some (TooLong, place)) h = unfinished_none acl_limit (read_of from rest) h.2.0
stops_none from rest (Some (_, place)) h = absurd h

-- no two reasons to stop
none_bad : (rest : List ℕ) → rest ≡ [] → HasBadIndicator rest → ⊥
none_bad rest none bad = no_wrong_nothing acl_limit h4.BadIndicator 0 (subst HasBadIndicator none bad)

bad_cut : (from : ℕ) (rest : List ℕ) → HasBadIndicator rest → MayEndWithin from rest → ⊥
bad_cut from rest bad cut = unfinished_right acl_limit rest h4.BadIndicator 0 (within_unfinished from rest cut) bad

bad_past : (from : ℕ) (rest : List ℕ) → from < input_limit → HasBadIndicator rest → GoesPast from (read_of from rest) → ⊥
bad_past from rest lt bad past = unfinished_right acl_limit (read_of from rest) h4.BadIndicator 0 past.0 (bad_read (input_limit - from) rest (omega arith) bad)

cut_past : (from : ℕ) (rest : List ℕ) → MayEndWithin from rest → GoesPast from (read_of from rest) → ⊥
cut_past from rest cut past =
    let past' : GoesPast from rest = subst (λ (t : List ℕ). GoesPast from t) (within_read from rest cut) past in
    omega (arith, past'.1 cut.0 cut.1, cut.2)

stops_same : (from : ℕ) (rest : List ℕ) (v w : Option (ViewRefusal × ℕ)) → Stops from rest v → Stops from rest w → v ≡ w
stops_same from rest None None h k = refl
stops_same from rest None (Some (BadIndicator, q)) h k = absurd (none_bad rest h k.2)
stops_same from rest None (Some (Truncated, q)) h k = absurd (k.1 h)
stops_same from rest None (Some (TooLong, q)) h k = absurd (k.1 h)
stops_same from rest (Some (BadIndicator, p)) None h k = absurd (none_bad rest k h.2)
stops_same from rest (Some (BadIndicator, p)) (Some (BadIndicator, q)) h k = ap (λ (n : ℕ). Some (BadIndicator, n)) (h.0 ∙ sym k.0)
stops_same from rest (Some (BadIndicator, p)) (Some (Truncated, q)) h k = absurd (bad_cut from rest h.2 k.2)
stops_same from rest (Some (BadIndicator, p)) (Some (TooLong, q)) h k = absurd (bad_past from rest h.1 h.2 k.2)
stops_same from rest (Some (Truncated, p)) None h k = absurd (h.1 k)
stops_same from rest (Some (Truncated, p)) (Some (BadIndicator, q)) h k = absurd (bad_cut from rest k.2 h.2)
stops_same from rest (Some (Truncated, p)) (Some (Truncated, q)) h k = ap (λ (n : ℕ). Some (Truncated, n)) (h.0 ∙ sym k.0)
stops_same from rest (Some (Truncated, p)) (Some (TooLong, q)) h k = absurd (cut_past from rest h.2 k.2)
stops_same from rest (Some (TooLong, p)) None h k = absurd (h.1 k)
stops_same from rest (Some (TooLong, p)) (Some (BadIndicator, q)) h k = absurd (bad_past from rest k.1 k.2 h.2)
stops_same from rest (Some (TooLong, p)) (Some (Truncated, q)) h k = absurd (cut_past from rest k.2 h.2)
stops_same from rest (Some (TooLong, p)) (Some (TooLong, q)) h k = ap (λ (n : ℕ). Some (TooLong, n)) (h.0 ∙ sym k.0)
stops_same from rest None (Some (_, q)) h k = absurd k
stops_same from rest (Some (BadIndicator, p)) (Some (_, q)) h k = absurd k
stops_same from rest (Some (Truncated, p)) (Some (_, q)) h k = absurd k
stops_same from rest (Some (TooLong, p)) (Some (_, q)) h k = absurd k
stops_same from rest (Some (_, p)) w h k = absurd h

-- what is read of the input is the packets and what is read behind them
begins_read : (input : List ℕ) (ps : List Packet) (h : BeginsWith input ps) → take input_limit input ≡ spellings ps ++ read_of (length (spellings ps)) h.rest
begins_read input ps h =
    let from : ℕ = length (spellings ps) in
    let limit : input_limit ≡ from + (input_limit - from) = omega (arith, h.within) in
    ap (take input_limit) h.whole ∙ ap (λ (n : ℕ). take n (spellings ps ++ h.rest)) limit ∙ take-append-add (spellings ps) h.rest (input_limit - from)

pub one_view : (input : List ℕ) (ps qs : List Packet) (v w : Option (ViewRefusal × ℕ)) → IsView input ps v → IsView input qs w → (ps ≡ qs) × (v ≡ w)
one_view input ps qs v w h k =
    let from : ℕ = length (spellings ps) in
    let same = same_split acl_limit ps qs (read_of from h.begins.rest) (read_of (length (spellings qs)) k.begins.rest) h.begins.each k.begins.each (stops_none from h.begins.rest v h.stops) (stops_none (length (spellings qs)) k.begins.rest w k.stops)
    (sym (begins_read input ps h.begins) ∙ begins_read input qs k.begins) in
    let split : spellings ps ++ h.begins.rest ≡ spellings ps ++ k.begins.rest = sym h.begins.whole ∙ k.begins.whole ∙ ap (λ (ks : List Packet). spellings ks ++ k.begins.rest) (sym same.0) in
    let rest : h.begins.rest ≡ k.begins.rest = sym (drop_at (spellings ps) h.begins.rest from refl) ∙ ap (drop from) split ∙ drop_at (spellings ps) k.begins.rest from refl in
    let stops : Stops from h.begins.rest w =
    subst (λ (t : List ℕ). Stops from t w) (sym rest) (subst (λ (ks : List Packet). Stops (length (spellings ks)) k.begins.rest w) (sym same.0) k.stops) in
    (same.0, stops_same from h.begins.rest v w h.stops stops)

-- ---- each input has a view

none_after : (after : List ℕ) → (0 < length after → ⊥) → after ≡ []
none_after [] none = refl
none_after (x ∷ after) none = absurd (none (omega arith))

-- nothing stands behind what is read, unless it goes up to the greatest length
read_front : (from : ℕ) (front after : List ℕ) → from + length front ≤ input_limit → (0 < length after → from + length front ≡ input_limit) → read_of from (front ++ after) ≡ front
read_front from front [] within full = ap (take (input_limit - from)) (append-nil front) ∙ take_all (input_limit - from) front (omega arith)
read_front from front (x ∷ after) within full = take_at front (x ∷ after) (input_limit - from) (omega (arith, full (omega arith)))

-- the octets up to the greatest length end with the packets, or within one
unfinished_viewed : (input : List ℕ) (ps : List Packet) (front after : List ℕ) → AllByRecursion (IsPacket acl_limit) ps → input ≡ spellings ps ++ (front ++ after) → length (spellings ps) + length front ≤ input_limit
    → (0 < length after → length (spellings ps) + length front ≡ input_limit) → 0 < length (front ++ after) → IsUnfinished acl_limit front → (v : Option (ViewRefusal × ℕ)) × IsView input ps v
unfinished_viewed input ps front after each whole within full some u =
    let from : ℕ = length (spellings ps) in
    let least = least_length acl_limit front (omega arith) u in
    let left : front ++ after ≢ [] = λ none. omega (arith, ap length none) in
    elim (cases_lt input_limit (from + least.0)) [
      | inl past ↦
          let read : read_of from (front ++ after) ≡ front = read_front from front after within full in
          let goes : GoesPast from front = (u, λ p f. omega (arith, least.1.none_shorter p f)) in
          (Some (TooLong, input_limit), record { begins = record { each = each; within = omega arith; rest = front ++ after; whole = whole }; stops = (refl, left, subst (λ (t : List ℕ). GoesPast from t) (sym read) goes) })
      | inr le ↦
          let short = front_short acl_limit front least.1.some.0 least.1.some.1 in
          let none : after ≡ [] = none_after after (λ lt. omega (arith, full lt, short, least.1.some.2)) in
          let rest : front ++ after ≡ front = ap (λ (t : List ℕ). front ++ t) none ∙ append-nil front in
          let cut : MayEndWithin from front = (least.1.some.0, least.1.some.1, omega (arith, least.1.some.2)) in
          (Some (Truncated, from), record { begins = record { each = each; within = omega arith; rest = front ++ after; whole = whole }; stops = (refl, left, subst (λ (t : List ℕ). MayEndWithin from t) (sym rest) cut) })
    ]

-- the reading of the octets up to the greatest length
split_input : (input : List ℕ) (ps : List Packet) (front : List ℕ) → take input_limit input ≡ spellings ps ++ front → input ≡ spellings ps ++ (front ++ drop input_limit input)
split_input input ps front is = sym (take-append-drop input_limit input) ∙ ap (λ (t : List ℕ). t ++ drop input_limit input) is ∙ append_assoc (spellings ps) front (drop input_limit input)

front_size : (input : List ℕ) (ps : List Packet) (front : List ℕ) → take input_limit input ≡ spellings ps ++ front → length (spellings ps) + length front ≡ min input_limit (length input)
front_size input ps front is = sym (length-append (spellings ps) front) ∙ ap length (sym is) ∙ length-take input_limit input

read_viewed : (e : Ending) (input : List ℕ) (ps : List Packet) (front after : List ℕ) → AllByRecursion (IsPacket acl_limit) ps → input ≡ spellings ps ++ (front ++ after) → length (spellings ps) + length front ≤ input_limit
    → (0 < length after → length (spellings ps) + length front ≡ input_limit) → Ends acl_limit front (length (spellings ps)) e → (v : Option (ViewRefusal × ℕ)) × IsView input ps v
read_viewed Whole input ps front [] each whole within full ends = (None, record { begins = record { each = each; within = omega arith; rest = front ++ []; whole = whole }; stops = ap (λ (t : List ℕ). t ++ []) ends })
read_viewed Whole input ps front (x ∷ after) each whole within full ends =
    unfinished_viewed input ps front (x ∷ after) each whole within full (omega (arith, length-append front (x ∷ after))) (subst (IsUnfinished acl_limit) (sym ends) (nothing_unfinished acl_limit))
read_viewed Cut input ps front after each whole within full ends =
    unfinished_viewed input ps front after each whole within full (omega (arith, some_long front ends.0, length-append front after)) ends.1
read_viewed (Fault h4.BadIndicator place) input ps front after each whole within full (n, (first, more, is, wrong, at), there) =
    let some : 0 < length front = omega (arith, ap length is) in
    let bad : HasBadIndicator (front ++ after) = (first, more ++ after, ap (λ (t : List ℕ). t ++ after) is, wrong, refl) in
    (Some (BadIndicator, length (spellings ps)), record { begins = record { each = each; within = omega arith; rest = front ++ after; whole = whole }; stops = (refl, omega arith, bad) })
read_viewed (Fault h4.AclTooLong place) input ps front after each whole within full (n, (word, size, more, is, fits, above, at), there) = absurd (omega arith)
read_viewed (Fault h4.Truncated place) input ps front after each whole within full (n, wrong, there) = absurd wrong

reading_viewed : (input : List ℕ) (ps : List Packet) (e : Ending) → Reads acl_limit (take input_limit input) ps e → (v : Option (ViewRefusal × ℕ)) × IsView input ps v
reading_viewed input ps e h =
    let size = front_size input ps h.rest h.whole in
    read_viewed e input ps h.rest (drop input_limit input) h.each (split_input input ps h.rest h.whole) (omega (arith, size)) (λ lt. omega (arith, size, length-drop input_limit input)) h.ends

pub each_viewed : (input : List ℕ) → IsOctets input → (packets : List Packet) × (verdict : Option (ViewRefusal × ℕ)) × IsView input packets verdict
each_viewed input fits =
    let read = each_read acl_limit (take input_limit input) (omega arith) (IsOctets-take input_limit input fits) in
    let view = reading_viewed input read.0 read.1 read.2 in
    (read.0, view.0, view.1)

-- ---- a front of the view

-- the packets that an input begins with are the first of its view
first_of_view : (input : List ℕ) (ps qs : List Packet) (v : Option (ViewRefusal × ℕ)) → BeginsWith input ps → IsView input qs v → (others : List Packet) × (qs ≡ ps ++ others)
first_of_view input ps qs v begins view =
    let from : ℕ = length (spellings qs) in
    let split = sym (begins_read input ps begins) ∙ begins_read input qs view.begins in
    let first = front_packets acl_limit ps qs (read_of (length (spellings ps)) begins.rest) (read_of from view.begins.rest) begins.each view.begins.each (stops_none from view.begins.rest v view.stops) split in
    (first.others, first.split)

front_written : (input : List ℕ) (old new : Option (List ℕ)) (packets : List Packet) (verdict : Option (ViewRefusal × ℕ)) → FrontWritten old new input → IsView input packets verdict → GainedFront old new (view_text packets verdict)
front_written input old new packets verdict (OfLines ps begins front) view =
    let first = first_of_view input ps packets verdict begins view in
    let rest : List ℕ = lines ps (length (spellings ps)) first.0 in
    let split : lines [] 0 packets ≡ lines [] 0 ps ++ rest = ap (lines [] 0) first.1 ∙ lines_then (length (spellings ps)) ps first.0 refl in
    let text : view_text packets verdict ≡ lines [] 0 ps ++ (rest ++ verdict_text verdict) = ap (λ (t : List ℕ). t ++ verdict_text verdict) split ∙ append_assoc (lines [] 0 ps) rest (verdict_text verdict) in
    subst (λ (t : List ℕ). GainedFront old new t) (sym text) (front_longer old new (lines [] 0 ps) (rest ++ verdict_text verdict) front)
front_written input old new packets verdict (OfAll ps v earlier front) view =
    let same = one_view input ps packets v verdict earlier view in
    subst (λ (w : Option (ViewRefusal × ℕ)). GainedFront old new (view_text packets w)) same.1 (subst (λ (qs : List Packet). GainedFront old new (view_text qs v)) same.0 front)

-- the whole text of a view is a front of itself
whole_written : (input : List ℕ) (old new : Option (List ℕ)) (ps packets : List Packet) (v verdict : Option (ViewRefusal × ℕ)) → IsView input ps v → new ≡ gained old (view_text ps v) → IsView input packets verdict → GainedFront old new (view_text packets verdict)
whole_written input old new ps packets v verdict earlier wrote view = front_written input old new packets verdict (OfAll ps v earlier (front_whole old new (view_text ps v) wrote)) view

-- the lines of all that was read are a front
read_written : (input : List ℕ) (left old new : Option (List ℕ)) → ShowsRead input left old new → FrontWritten old new input
read_written input left old new shows =
    OfLines shows.packets
    (packets_begin shows.octets shows.took.0 input shows.rest shows.packets shows.each shows.whole shows.within shows.took.1)
    (front_whole old new (lines [] 0 shows.packets) shows.wrote)

pub front_of_view : (input : List ℕ) (left old new : Option (List ℕ)) (result : Result (Unit {0}) ViewFault) (packets : List Packet) (verdict : Option (ViewRefusal × ℕ)) → Views input left old new result → IsView input packets verdict → GainedFront old new (view_text packets verdict)
front_of_view input left old new (Ok done) packets verdict (ps, earlier, wrote) view = whole_written input old new ps packets None verdict earlier wrote view
front_of_view input left old new (Err (Refused refusal place)) packets verdict (ps, earlier, wrote) view = whole_written input old new ps packets (Some (refusal, place)) verdict earlier wrote view
front_of_view input left old new (Err ReadFault) packets verdict shows view = front_written input old new packets verdict (read_written input left old new shows) view
front_of_view input left old new (Err WriteFault) packets verdict front view = front_written input old new packets verdict front view
front_of_view input left old new (Err NoMemory) packets verdict front view = front_written input old new packets verdict front view
