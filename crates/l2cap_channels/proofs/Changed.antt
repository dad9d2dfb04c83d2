-- A channel that is changed at its place.
use Rattle.std.proofs.Common.{◌≡◌, ◌∙◌, ℕ, zero, suc, ◌+◌, ◌<◌, List, [], ◌∷◌, map, length, refl, sym, ap, subst, length-set}
use Rattle.std.specs.Prelude.{filter, not, ◌==◌, slice_get, slice_set, slice_index_or, Option, Some, option_map}
use Rattle.std.specs.List.{remove}
use Rattle.std.specs.Vec.{with_item}
use Rattle.std.proofs.lemmas.Option.{slice_get_read}
use Rattle.channel_model.specs.Value.{Held, Stage, Queued}
use Rattle.channel_model.specs.Value as value
use Rattle.channel_model.specs.Changing.{in_place_of, to_stage, gone, is_copy_about}
use Rattle.l2cap_channels.specs.Machine.{Machine, with_channels}
use Rattle.l2cap_channels.specs.Finding.{on_place}
use Rattle.l2cap_channels.specs.Sound.{owns, AreGiven, IsQueue}
use Rattle.l2cap_channels.specs.Whole.{channels_of, machine_of, IsSound}
use Rattle.l2cap_channels.specs.declared.channels.Channels.TheInside.{Inside}
use Rattle.l2cap_channels.proofs.Mapping.{map-filter}
use Rattle.l2cap_channels.proofs.Sounding.{owns_set, set_is, removed_is}

pub sound_set : (c : Inside) (at : ℕ) (h after : Held) → IsSound c → at < length c.places.items → h ≡ slice_index_or c.places.items at h → after.own ≡ h.own
    → IsSound (record c { places = with_item c.places at after })
sound_set c at h after s within is same =
    let read : slice_get c.places.items at ≡ Some h = slice_get_read c.places.items (length c.places.items) at h refl within is in
    let owned : owns (slice_set c.places.items at after) ≡ owns c.places.items = owns_set c.places.items at h after read same in
    record {
      four = ap (λ n. n + length c.free.items) (length-set c.places.items at after) ∙ s.four;
      places_room = s.places_room;
      free_room = s.free_room;
      events_room = s.events_room;
      given = subst (λ (os : List ℕ). AreGiven os c.next) (sym owned) s.given;
      queue = subst (λ (os : List ℕ). IsQueue os c.queue) (sym owned) s.queue;
    }

set_channels : (v : value.Channels) (at : ℕ) (h : Held) (f : Held → Stage) → slice_get v.held at ≡ Some h → slice_set v.held at (record h { stage = f h }) ≡ map (in_place_of (record h { stage = f h })) v.held
    → record v { held = slice_set v.held at (record h { stage = f h }) } ≡ on_place (λ held. to_stage held (f held)) (slice_get v.held at) v
set_channels v at h f read is =
    ap (λ (items : List Held). record v { held = items }) is ∙ ap (λ (o : Option Held). on_place (λ held. to_stage held (f held)) o v) (sym read)

pub set_machine : (c : Inside) (m : Machine) (at : ℕ) (h after : Held) (f : Held → Stage) → machine_of c ≡ m → IsSound c → at < length m.channels.held → h ≡ slice_index_or c.places.items at h
    → after ≡ record h { stage = f h } → machine_of (record c { places = with_item c.places at after }) ≡ with_channels m (on_place (λ held. to_stage held (f held)) (slice_get m.channels.held at) m.channels)
set_machine c m at h after f view s within is change =
    let within' : at < length c.places.items = subst (λ (x : Machine). at < length x.channels.held) (sym view) within in
    let read : slice_get c.places.items at ≡ Some h = slice_get_read c.places.items (length c.places.items) at h refl within' is in
    let set : slice_set c.places.items at (record h { stage = f h }) ≡ map (in_place_of (record h { stage = f h })) c.places.items = set_is c.places.items at 0x003F h (record h { stage = f h }) s.given.rising read refl in
    ap (λ (k : Held). machine_of (record c { places = with_item c.places at k })) change
    ∙ ap (λ (v : value.Channels). record (machine_of c) { channels = v }) (set_channels (channels_of c) at h f read set)
    ∙ ap (λ (x : Machine). with_channels x (on_place (λ held. to_stage held (f held)) (slice_get x.channels.held at) x.channels)) view

pub gone_machine : (c : Inside) (m : Machine) (at : ℕ) (h : Held) (items : List Held) (q : List Queued) → machine_of c ≡ m → IsSound c → at < length m.channels.held → h ≡ slice_index_or c.places.items at h
    → items ≡ remove c.places.items at → q ≡ filter (λ w. not (is_copy_about h.own w)) c.queue
    → record (machine_of c) { channels = record (channels_of c) { held = items; queue = q } } ≡ with_channels m (on_place gone (slice_get m.channels.held at) m.channels)
gone_machine c m at h items q view s within is removed forgotten =
    let within' : at < length c.places.items = subst (λ (x : Machine). at < length x.channels.held) (sym view) within in
    let read : slice_get c.places.items at ≡ Some h = slice_get_read c.places.items (length c.places.items) at h refl within' is in
    ap (λ (xs : List Held). record (machine_of c) { channels = record (channels_of c) { held = xs; queue = q } }) (removed ∙ removed_is c.places.items at 0x003F h s.given.rising read)
    ∙ ap (λ (x : List Queued). record (machine_of c) { channels = record (channels_of c) { held = filter (λ (k : Held). not (k.own == h.own)) c.places.items; queue = x } }) forgotten
    ∙ ap (λ (o : Option Held). with_channels (machine_of c) (on_place gone o (channels_of c))) (sym read)
    ∙ ap (λ (x : Machine). with_channels x (on_place gone (slice_get x.channels.held at) x.channels)) view

pub gone_owns : (c : Inside) (at : ℕ) (h : Held) (items : List Held) → IsSound c → at < length c.places.items → h ≡ slice_index_or c.places.items at h → items ≡ remove c.places.items at
    → owns items ≡ filter (λ (o : ℕ). not (o == h.own)) (owns c.places.items)
gone_owns c at h items s within is removed =
    let read : slice_get c.places.items at ≡ Some h = slice_get_read c.places.items (length c.places.items) at h refl within is in
    ap owns (removed ∙ removed_is c.places.items at 0x003F h s.given.rising read) ∙ map-filter (λ (k : Held). k.own) (λ (o : ℕ). not (o == h.own)) c.places.items

-- ---- the channel at the place

set_there : (items : List Held) (at : ℕ) (h after : Held) → slice_get items at ≡ Some h → slice_get (slice_set items at after) at ≡ Some after
set_there [] at h after is = cc
set_there (x ∷ items) zero h after is = refl
set_there (x ∷ items) (suc at) h after is = set_there items at h after is

set_same : (items : List Held) (at : ℕ) (h : Held) → slice_get items at ≡ Some h → slice_set items at h ≡ items
set_same [] at h is = refl
set_same (x ∷ items) zero h is = let e : x ≡ h = cc in ap (λ (k : Held). k ∷ items) (sym e)
set_same (x ∷ items) (suc at) h is = ap (λ (xs : List Held). x ∷ xs) (set_same items at h is)

-- it is what it was changed to
pub changed_there : (c : Inside) (m : Machine) (at : ℕ) (h after : Held) (f : Held → Held) → machine_of c ≡ m → at < length m.channels.held → h ≡ slice_index_or c.places.items at h → after ≡ f h
    → slice_get (with_item c.places at after).items at ≡ option_map f (slice_get m.channels.held at)
changed_there c m at h after f view within is change =
    let within' : at < length c.places.items = subst (λ (x : Machine). at < length x.channels.held) (sym view) within in
    let read : slice_get c.places.items at ≡ Some h = slice_get_read c.places.items (length c.places.items) at h refl within' is in
    set_there c.places.items at h after read ∙ ap (λ (k : Held). Some k) change ∙ ap (option_map f) (sym read) ∙ ap (λ (x : Machine). option_map f (slice_get x.channels.held at)) view

-- to go on to the stage at which it is changes nothing
pub same_at : (c : Inside) (m : Machine) (at : ℕ) (h : Held) → machine_of c ≡ m → IsSound c → at < length m.channels.held → h ≡ slice_index_or c.places.items at h
    → on_place (λ held. to_stage held held.stage) (slice_get m.channels.held at) m.channels ≡ m.channels
same_at c m at h view s within is =
    let within' : at < length c.places.items = subst (λ (x : Machine). at < length x.channels.held) (sym view) within in
    let read : slice_get c.places.items at ≡ Some h = slice_get_read c.places.items (length c.places.items) at h refl within' is in
    let set : slice_set c.places.items at h ≡ map (in_place_of h) c.places.items = set_is c.places.items at 0x003F h h s.given.rising read refl in
    subst (λ (x : Machine). on_place (λ held. to_stage held held.stage) (slice_get x.channels.held at) x.channels ≡ x.channels) view
    (ap (λ (o : Option Held). on_place (λ held. to_stage held held.stage) o (channels_of c)) read
    ∙ ap (λ (items : List Held). record (channels_of c) { held = items }) (sym set ∙ set_same c.places.items at h read))
