-- What is given next.
use Rattle.std.proofs.Common.{◌≡◌, ◌∙◌, ℕ, zero, suc, ◌<◌, true, List, [], ◌∷◌, length, take, drop, refl, sym, ap, subst}
use Rattle.std.specs.Prelude.{Option, Some, None, is_some, option_map, IfNone, slice_get, slice_set, slice_index_or}
use Rattle.std.specs.List.{find}
use Rattle.std.specs.Vec.{with_item}
use Rattle.std.proofs.lemmas.Option.{slice_get_read}
use Rattle.ertm_frames.specs.Frames.{PlainFrame}
use Rattle.ertm_model.specs.Value.{Ertm}
use Rattle.ertm_model.specs.Giving.{Giving, giving, frame_by, after_by}
use Rattle.channel_model.specs.declared.errand.Errand.{Errand}
use Rattle.channel_model.specs.declared.errand.Errand.TheVariants.{Connection, Configuration, Disconnection, Features}
use Rattle.channel_model.specs.Value.{Carrier, Plain, Retransmitting, Stage, Requested, Connected, Leaving, Closing, Crossed, Held, Queued, Channels}
use Rattle.channel_model.specs.Changing.{to_stage}
use Rattle.channel_model.specs.Giving as model
use Rattle.channel_model.specs.Giving.{gives, stage_gives, some_carrier_gives, carrier_given, held_gives, held_given, command_of, counted}
use Rattle.l2cap_channels.specs.Machine.{Machine}
use Rattle.l2cap_channels.specs.Finding.{on_place}
use Rattle.l2cap_channels.specs.Given.{WritesNext, spent, place_gives}
use Rattle.l2cap_channels.specs.Whole.{machine_of, channels_of}
use Rattle.l2cap_channels.specs.declared.channels.Channels.TheInside.{Inside}
use Rattle.l2cap_channels.proofs.Finding.{found_at, passed, fails_at}

-- ---- where nothing is given nothing changes

by_none : (given : Option Giving) (m : Ertm) → frame_by given m ≡ None → after_by given m ≡ m
by_none None m none = refl
by_none (Some given) m none = cc

unmapped : (peer : ℕ) (o : Option PlainFrame) → option_map (model.Framed peer) o ≡ None → o ≡ None
unmapped peer None e = refl
unmapped peer (Some x) e = cc

carrier_same : (carrier : Option Carrier) (peer : ℕ) → some_carrier_gives carrier peer ≡ None → option_map carrier_given carrier ≡ carrier
carrier_same None peer none = refl
carrier_same (Some (Plain agreed None)) peer none = refl
carrier_same (Some (Plain agreed (Some sdu))) peer none = cc
carrier_same (Some (Retransmitting machine)) peer none = ap (λ (m : Ertm). Some (Retransmitting m)) (by_none (giving machine) machine (unmapped peer (frame_by (giving machine) machine) none))

spent_same : (stage : Stage) → stage_gives stage ≡ None → spent stage ≡ stage
spent_same (Requested request) none = refl
spent_same (Connected peer setup) none = ap (λ (k : Option Carrier). Connected peer (record setup { carrier = k })) (carrier_same setup.carrier peer none)
spent_same (Leaving peer setup request) none = ap (λ (k : Option Carrier). Leaving peer (record setup { carrier = k }) request) (carrier_same setup.carrier peer none)
spent_same (Closing peer request checked) none = refl
spent_same (Crossed peer request) none = refl

set_get : (held : List Held) (at : ℕ) (h : Held) → slice_get held at ≡ Some h → slice_set held at h ≡ held
set_get [] at h is = refl
set_get (x ∷ held) zero h is = let e : x ≡ h = cc in ap (λ (k : Held). k ∷ held) (sym e)
set_get (x ∷ held) (suc at) h is = ap (λ xs. x ∷ xs) (set_get held at h is)

nothing : (o : Option model.Given) (old new : List ℕ) → WritesNext o old None new → (o ≡ None) × (new ≡ old)
nothing None old new w = (refl, w.1)
nothing (Some given) old new w = let e : None ≡ Some (length w.0) = w.2 in cc

pub gives_same : (c : Inside) (m : Machine) (at : ℕ) (h after : Held) (old new : List ℕ) (result : Option ℕ) → machine_of c ≡ m → at < length m.channels.held → h ≡ slice_index_or c.places.items at h
    → after ≡ record h { stage = spent h.stage } → WritesNext (stage_gives h.stage) old result new → IfNone result ((machine_of (record c { places = with_item c.places at after }) ≡ m) × (new ≡ old))
gives_same c m at h after old new (Some n) view within is change written = tt
gives_same c m at h after old new None view within is change written =
    let none = nothing (stage_gives h.stage) old new written in
    let within' : at < length c.places.items = subst (λ (x : Machine). at < length x.channels.held) (sym view) within in
    let read : slice_get c.places.items at ≡ Some h = slice_get_read c.places.items (length c.places.items) at h refl within' is in
    let same : after ≡ h = change ∙ ap (λ (stage : Stage). record h { stage = stage }) (spent_same h.stage none.0) in (
      ap (λ (k : Held). machine_of (record c { places = with_item c.places at k })) same
          ∙ ap (λ (xs : List Held). record (machine_of c) { channels = record (channels_of c) { held = xs } }) (set_get c.places.items at h read)
          ∙ view,
      none.1,
    )

-- ---- the first channel that has something to give

some_given : (o : Option model.Given) (old new : List ℕ) (n : ℕ) → WritesNext o old (Some n) new → is_some o ≡ true
some_given None old new n w = let e : Some n ≡ None = w.0 in cc
some_given (Some given) old new n w = refl

pub first_gives : (held : List Held) (at : ℕ) (o : Option Held) (old new : List ℕ) (n : ℕ) → slice_get held at ≡ o → find gives (take at held) ≡ None → WritesNext (place_gives o) old (Some n) new → find gives held ≡ o
first_gives held at None old new n is none w = let e : Some n ≡ None = w.0 in cc
first_gives held at (Some h) old new n is none w = found_at gives held at h none is (some_given (stage_gives h.stage) old new n w)

spent_stage : (stage : Stage) (psm own : ℕ) (v : Channels) → is_some (stage_gives stage) ≡ true
    → to_stage (record { psm = psm; own = own; stage = stage }) (spent stage) v ≡ held_given (Some (record { psm = psm; own = own; stage = stage })) v
spent_stage (Requested request) psm own v some = cc
spent_stage (Connected peer setup) psm own v some = refl
spent_stage (Leaving peer setup request) psm own v some = refl
spent_stage (Closing peer request checked) psm own v some = cc
spent_stage (Crossed peer request) psm own v some = cc

pub spent_is : (o : Option Held) (v : Channels) (old new : List ℕ) (n : ℕ) → WritesNext (place_gives o) old (Some n) new
    → on_place (λ held. to_stage held (spent held.stage)) o v ≡ held_given o v
spent_is None v old new n w = refl
spent_is (Some h) v old new n w = spent_stage h.stage h.psm h.own v (some_given (stage_gives h.stage) old new n w)

pub place_is : (o : Option Held) → place_gives o ≡ held_gives o
place_is None = refl
place_is (Some h) = refl

pub none_next : (held : List Held) (at : ℕ) (old new : List ℕ) → find gives (take at held) ≡ None → WritesNext (place_gives (slice_get held at)) old None new → find gives (take (suc at) held) ≡ None
none_next [] at old new none w = refl
none_next (x ∷ held) zero old new none w = passed gives x None (ap is_some (nothing (stage_gives x.stage) old new w).0)
none_next (x ∷ held) (suc at) old new none w =
    let first = fails_at gives x (find gives (take at held)) none in
    passed gives x (find gives (take (suc at) held)) first ∙ none_next held at old new (sym (passed gives x (find gives (take at held)) first) ∙ none) w

pub place_read : (c : Inside) (m : Machine) (at : ℕ) (h : Held) → machine_of c ≡ m → at < length m.channels.held → h ≡ slice_index_or c.places.items at h → slice_get m.channels.held at ≡ Some h
place_read c m at h view within is =
    let within' : at < length c.places.items = subst (λ (x : Machine). at < length x.channels.held) (sym view) within in
    subst (λ (x : Machine). slice_get x.channels.held at ≡ Some h) view (slice_get_read c.places.items (length c.places.items) at h refl within' is)

-- ---- what waits longest

pub first_of : (q : List Queued) (x : Queued) → slice_get q 0 ≡ Some x → q ≡ x ∷ drop 1 q
first_of [] x is = cc
first_of (y ∷ q) x is = let e : y ≡ x = cc in ap (λ (k : Queued). k ∷ q) e

pub none_of : (q : List Queued) → slice_get q 0 ≡ None → q ≡ []
none_of [] is = refl
none_of (y ∷ q) is = cc

pub command_same : (e : Errand) (v : Channels) (q : List Queued) → command_of e (record v { queue = q }) ≡ command_of e v
command_same (Connection own) v q = refl
command_same (Configuration own) v q = refl
command_same (Disconnection own) v q = refl
command_same Features v q = refl

pub no_events : {X : Type 0} (events : List X) → slice_get events 0 ≡ None → drop 1 events ≡ []
no_events [] none = refl
no_events (x ∷ events) none = cc
