-- How much happens, one thing after the other.
use Rattle.std.proofs.Common.{◌≡◌, ℕ, ◌+◌, ◌≤◌, ◌||◌, Bool, true, false, List, [], ◌∷◌, ◌++◌, Option, refl, ap, ◌∙◌, arith, length, length-append}
use Rattle.std.proofs.lemmas.List.{map-append}
use Rattle.std.proofs.lemmas.List.Concat.{flat_map-append}
use Rattle.bt_base.specs.Streams.{gained}
use Rattle.capture.specs.Entries.{Entry, Moved, entry_octets, capture_octets}
use Rattle.capture.specs.declared.flow.Flow.TheVariants.{Into}
use Rattle.h4_framing.specs.Packets.{Packet, IsPacket}
use Rattle.push_terms.specs.declared.word.Side.{Side}
use Rattle.push_terms.specs.declared.word.Word.{Word}
use Rattle.radio_model.specs.Radio.{after_answer}
use Rattle.room_laws.specs.world_model.specs.Machines.{Upper}
use Rattle.room_laws.specs.world_model.specs.Stations.{Order, Effort}
use Rattle.room_laws.specs.world_model.specs.Worlds.{Happening, entries_of, all_entries}
use Rattle.radio_world.specs.Hosts.{Asking, Coming, coming_packet, hears_coming, Reacts, JoinAnswers, AreSent, acl_limit}
use Rattle.radio_world.specs.Leaving.{Medium, in_radio, after_all, leaving_entries}
use Rattle.radio_world.specs.Halves.{Motion, happening_of, happenings_of, ComesFirst, Goes}
use Rattle.radio_world.specs.Scenes.{Stage}
use Rattle.radio_world.specs.Counting.{one_if, GoesBy, AdvancesBy}
use Rattle.radio_world.proofs.Entering.{tryings, entered, goes_in}
use Rattle.radio_world.proofs.Moving.{leavings, goes_then, goes_out}
use Rattle.radio_world.proofs.Advancing.{advances_then}

pub either_one : (a b : Bool) → one_if (a || b) ≤ one_if a + one_if b
either_one true b = omega arith
either_one false b = omega arith

count_both : (xs ys : List Happening) → length (all_entries (xs ++ ys)) ≡ length (all_entries xs) + length (all_entries ys)
count_both xs ys = ap (λ (l : List Entry). length l) (flat_map-append entries_of xs ys) ∙ length-append (all_entries xs) (all_entries ys)

halves_both : (side : Side) (xs ys : List Motion) → length (all_entries (happenings_of side (xs ++ ys))) ≡ length (all_entries (happenings_of side xs)) + length (all_entries (happenings_of side ys))
halves_both side xs ys = ap (λ (l : List Happening). length (all_entries l)) (map-append (happening_of side) xs ys) ∙ count_both (happenings_of side xs) (happenings_of side ys)

-- ---- between a host and the radio

pub goes_by_any :
    {S G P : Type 0} (U : Upper S G) (side : Side) (Answers : P → List G → P → Type 0) (medium medium' : Medium) (host host' : Asking S G) (port port' : P) (trace trace' : Option (List ℕ))
    → Goes U side Answers medium medium' host host' port port' trace trace' → GoesBy 0 U side Answers medium medium' host host' port port' trace trace'
goes_by_any U side Answers medium medium' host host' port port' trace trace' goes = record { goes = goes; many = omega arith }

pub goes_by_then :
    {S G P : Type 0} (n m k : ℕ) (U : Upper S G) (side : Side) (Answers : P → List G → P → Type 0) (first mid last : Medium) (host host' host'' : Asking S G) (port port' port'' : P) (trace trace' trace'' : Option (List ℕ))
    → JoinAnswers Answers → k ≤ n + m → GoesBy n U side Answers first mid host host' port port' trace trace' → GoesBy m U side Answers mid last host' host'' port' port'' trace' trace''
    → GoesBy k U side Answers first last host host'' port port'' trace trace''
unfolding goes_then
goes_by_then n m k U side Answers first mid last host host' host'' port port' port'' trace trace' trace'' joins few one two =
    let both = halves_both side one.goes.motions two.goes.motions in
    let one_many = one.many in
    let two_many = two.many in
    record { goes = goes_then U side Answers first mid last host host' host'' port port' port'' trace trace' trace'' joins one.goes two.goes; many = omega arith }

pub goes_in_by :
    {S G P : Type 0} (U : Upper S G) (side : Side) (Answers : P → List G → P → Type 0) (coming : Coming) (p : Packet) (medium medium' : Medium) (host host' : Asking S G) (port port' : P) (trace trace' : Option (List ℕ))
    → ComesFirst side coming medium.radio → medium' ≡ in_radio (after_answer side medium.radio) medium → p ≡ coming_packet side coming
    → Reacts U side Answers (hears_coming U side coming) host host' port port' → trace' ≡ gained trace (entry_octets (Moved side Into p))
    → IsPacket acl_limit (coming_packet side coming) → GoesBy 1 U side Answers medium medium' host host' port port' trace trace'
unfolding goes_in
goes_in_by U side Answers coming p medium medium' host host' port port' trace trace' comes after same reaction written is =
    let one = ap (λ (l : List Entry). length l) (entered side coming reaction.efforts) in
    record { goes = goes_in U side Answers coming p medium medium' host host' port port' trace trace' comes after same reaction written is; many = omega arith }

some_leave : (side : Side) (orders : List Order) (efforts : List Effort) → (orders ≡ [] → ⊥) → 1 ≤ length (all_entries (happenings_of side (leavings orders ++ tryings efforts)))
some_leave side [] efforts some = absurd (some refl)
some_leave side (order ∷ orders) efforts some = omega arith

pub goes_out_by :
    {S G P : Type 0} (U : Upper S G) (side : Side) (Answers : P → List G → P → Type 0) (medium medium' : Medium) (host host' : Asking S G) (port port' : P) (trace trace' : Option (List ℕ))
    → medium' ≡ after_all side host.out medium → Reacts U side Answers (λ used station. station) (record host { out = [] }) host' port port' → trace' ≡ gained trace (capture_octets (leaving_entries side host.out))
    → AreSent side host.out → (host.out ≡ [] → ⊥) → GoesBy 1 U side Answers medium medium' host host' port port' trace trace'
unfolding goes_out
goes_out_by U side Answers medium medium' host host' port port' trace trace' moved taken written sent some =
    record { goes = goes_out U side Answers medium medium' host host' port port' trace trace' moved taken written sent; many = some_leave side host.out taken.efforts some }

-- ---- in the world

pub advances_by_then :
    {S T G H P Q : Type 0} (n m k : ℕ) (U : Upper S G) (V : Upper T H) (RA : P → List G → P → Type 0) (RB : Q → List H → Q → Type 0) (ws vs : List Word) (old mid new : Stage S T G H P Q)
    → JoinAnswers RA → JoinAnswers RB → k ≤ n + m → AdvancesBy n U V RA RB ws old mid → AdvancesBy m U V RA RB vs mid new → AdvancesBy k U V RA RB (ws ++ vs) old new
unfolding advances_then
advances_by_then n m k U V RA RB ws vs old mid new joins_a joins_b few one two =
    let both = count_both one.advances.happenings two.advances.happenings in
    let one_many = one.many in
    let two_many = two.many in
    record { advances = advances_then U V RA RB ws vs old mid new joins_a joins_b one.advances two.advances; many = omega arith }
