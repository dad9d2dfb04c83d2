-- Draws one after the other, and objects put on a shelf one after the other.
use Rattle.std.proofs.Common.{◌≡◌, ℕ, zero, suc, ◌+◌, ◌<◌, ◌≤◌, Bool, true, List, [], ◌∷◌, ◌++◌, length, get_or, take, drop, map, refl, sym, ap, ◌∙◌, arith, drop-cons, add-one, append-nil}
use Rattle.std.specs.Prelude.{nat_lt, not, ◌&&◌}
use Rattle.std.specs.List.{sum_by, list_all, list_any}
use Rattle.std.proofs.lemmas.List.{map_push, length-map, drop_all, take-append-drop}
use Rattle.ready_ports.specs.Memory.{MemoryShelved}
use Rattle.bt_base.specs.Objects.{Object}
use Rattle.push_script.specs.Names.{IsName, ends_name, utf16_length}
use Rattle.script_words.proofs.Splitting.{is_printable}
use Rattle.push_script.proofs.Splitting.{printable_line}
use Rattle.std.proofs.lemmas.Bool.{and_parts, ltb-true, not-true}
use Rattle.std.proofs.lemmas.Str.{is_utf8-from_IsUtf8}
use Rattle.push_script.specs.Turns.{turns}
use Rattle.push_script.specs.Made.{next_state, drawn, state_after, draws, octet_of_draw, made_octets, objects_from, made_names, made_objects, made_transport, made_runs, made_script, is_even, first_state, stated_only, lengths_from, object_need, put_first, shelved, IsPartlyShelved}
use Rattle.push_script.specs.Reading.{Script, with_defaults}
use Rattle.push_terms.specs.declared.word.Word.{Word}
use Rattle.bt_base.specs.declared.settings.Transport.{Transport}

-- the octets of a name are printable, few enough and none of those that end it
abbrev is_plain : List ℕ → Bool
is_plain name = list_all is_printable name && (nat_lt 0 (utf16_length name) && (nat_lt (utf16_length name) 101 && not (list_any ends_name name)))

pub plain_name : (name : List ℕ) → is_plain name ≡ true → IsName name
plain_name name plain =
    let text = and_parts _ _ plain in
    let some = and_parts _ _ text.1 in
    let few = and_parts _ _ some.1 in
    let below : utf16_length name < 101 = ltb-true _ _ few.0 in
    record {
      text = is_utf8-from_IsUtf8 name (printable_line name text.0).text;
      some = ltb-true _ _ some.0;
      few = omega arith;
      line = not-true _ few.1;
    }

draws_more : (i state : ℕ) → draws (i + 1) state ≡ draws i state ++ drawn (next_state (state_after i state)) ∷ []
unfolding draws state_after
draws_more zero state = refl
draws_more (suc i) state =
    let e : suc i + 1 ≡ suc (i + 1) = omega arith in
    rw e (ap (λ (t : List ℕ). drawn (next_state state) ∷ t) (draws_more i (next_state state)))

state_more : (i state : ℕ) → state_after (i + 1) state ≡ next_state (state_after i state)
unfolding state_after
state_more zero state = refl
state_more (suc i) state =
    let e : suc i + 1 ≡ suc (i + 1) = omega arith in
    rw e (state_more i (next_state state))

octets_more : (i state : ℕ) → made_octets (i + 1) state ≡ made_octets i state ++ octet_of_draw (drawn (next_state (state_after i state))) ∷ []
octets_more i state = ap (map octet_of_draw) (draws_more i state) ∙ map_push octet_of_draw (draws i state) (drawn (next_state (state_after i state)))

-- one octet more was drawn
pub octets_next : (i state now later draw : ℕ) (octets longer : List ℕ) → octets ≡ made_octets i state → now ≡ state_after i state → draw ≡ drawn (next_state now) → later ≡ next_state now → longer ≡ octets ++ octet_of_draw draw ∷ []
    → (longer ≡ made_octets (i + 1) state) × (later ≡ state_after (i + 1) state)
octets_next i state now later draw octets longer eo en ed el e = (rw (e, eo, ed, en) (sym (octets_more i state)), rw (el, en) (sym (state_more i state)))

pub no_octets : (state : ℕ) → made_octets 0 state ≡ []
unfolding draws
no_octets state = refl

pub no_steps : (state : ℕ) → state_after 0 state ≡ state
unfolding state_after
no_steps state = refl

length-draws : (n state : ℕ) → length (draws n state) ≡ n
unfolding draws
length-draws zero state = refl
length-draws (suc n) state = ap (λ (k : ℕ). suc k) (length-draws n (next_state state))

pub length-octets : (n state : ℕ) → length (made_octets n state) ≡ n
length-octets n state = length-map (draws n state) octet_of_draw ∙ length-draws n state

-- the next object of a list
next_of : (i : ℕ) (all rest : List Object) (object : Object) → object ∷ rest ≡ drop i all → (take (i + 1) all ≡ take i all ++ object ∷ []) × (rest ≡ drop (i + 1) all)
next_of zero all rest object e = (rw (← e) refl, rw (← e) refl)
next_of (suc i) [] rest object e = absurd cc
next_of (suc i) (first ∷ all) rest object e =
    let more : suc i + 1 ≡ suc (i + 1) = omega arith in
    let ih = next_of i all rest object e in
    rw more (ap (λ (t : List Object). first ∷ t) ih.0, ih.1)

put_more : (objects shelf : List Object) (object : Object) → put_first (objects ++ object ∷ []) shelf ≡ object ∷ put_first objects shelf
put_more [] shelf object = refl
put_more (first ∷ objects) shelf object = put_more objects (first ∷ shelf) object

-- The first `i` objects lie on the shelf, and the generator stands before the octets of the next.
pub record HasShelved (old new : MemoryShelved) (before state i : ℕ) (names : List (List ℕ)) (lengths : List ℕ) : Type 0 where
  pub shelf : new ≡ shelved (take i (objects_from names lengths before)) old
  pub rest : objects_from (drop i names) (drop i lengths) state ≡ drop i (objects_from names lengths before)

pub shelved_none : (shelf : MemoryShelved) (state : ℕ) (names : List (List ℕ)) (lengths : List ℕ) → HasShelved shelf shelf state state 0 names lengths
shelved_none shelf state names lengths = record { shelf = refl; rest = refl }

next_rest : (i state : ℕ) (names : List (List ℕ)) (lengths : List ℕ) (name : List ℕ) → i < length names → i < length lengths
    → objects_from (drop i names) (drop i lengths) state ≡ record { name = get_or names i name; octets = made_octets (get_or lengths i 0) state } ∷ objects_from (drop (i + 1) names) (drop (i + 1) lengths) (state_after (get_or lengths i 0) state)
next_rest i state names lengths name n l = rw (drop-cons names i name n, drop-cons lengths i 0 l, add-one i) refl

abbrev record_of : List ℕ → List ℕ → Object
record_of name octets = record { name = name; octets = octets }

pub shelved_next : (old mid new : MemoryShelved) (before state after i : ℕ) (names : List (List ℕ)) (lengths : List ℕ) (name text octets : List ℕ) → i < length names → i < length lengths → text ≡ get_or names i name → octets ≡ made_octets (get_or lengths i 0) state → after ≡ state_after (get_or lengths i 0) state
    → new ≡ record mid { objects = record { name = text; octets = octets } ∷ mid.objects } → HasShelved old mid before state i names lengths → HasShelved old new before after (i + 1) names lengths
shelved_next old mid new before state after i names lengths name text octets n l et eo ea en so_far =
    let all : List Object = objects_from names lengths before in
    let object : Object = record { name = get_or names i name; octets = made_octets (get_or lengths i 0) state } in
    let rest : List Object = objects_from (drop (i + 1) names) (drop (i + 1) lengths) (state_after (get_or lengths i 0) state) in
    let front = next_of i all rest object (sym (next_rest i state names lengths name n l) ∙ so_far.rest) in
    let same : record_of text octets ≡ object = rw (et, eo) refl in
    let longer : object ∷ put_first (take i all) old.objects ≡ put_first (take (i + 1) all) old.objects = sym (put_more (take i all) old.objects object) ∙ ap (λ (objects : List Object). put_first objects old.objects) (sym front.0) in
    record {
      shelf = en ∙ ap (λ (m : MemoryShelved). record m { objects = record_of text octets ∷ m.objects }) so_far.shelf
          ∙ ap (λ (first : Object). record old { objects = first ∷ put_first (take i all) old.objects }) same ∙ ap (λ (objects : List Object). record old { objects = objects }) longer;
      rest = rw ea front.1;
    }

pub shelved_all : (old new : MemoryShelved) (before state i : ℕ) (names : List (List ℕ)) (lengths : List ℕ) → length names ≤ i → HasShelved old new before state i names lengths → new ≡ shelved (objects_from names lengths before) old
shelved_all old new before state i names lengths le so_far =
    let all : List Object = objects_from names lengths before in
    let none : drop i names ≡ [] = drop_all i names le in
    let ended : [] ≡ drop i all = rw none at so_far.rest in
    let whole : take i all ≡ all = sym (append-nil (take i all)) ∙ ap (λ (t : List Object). take i all ++ t) ended ∙ take-append-drop i all in
    so_far.shelf ∙ ap (λ (objects : List Object). shelved objects old) whole

pub partly : (old new : MemoryShelved) (before state i : ℕ) (names : List (List ℕ)) (lengths : List ℕ) → HasShelved old new before state i names lengths → IsPartlyShelved (objects_from names lengths before) old new
partly old new before state i names lengths so_far = (i, so_far.shelf)

-- eight objects with these lengths need so many words
turns_of_eight : (a b c d e f g h state : ℕ) → turns (objects_from made_names (a ∷ b ∷ c ∷ d ∷ e ∷ f ∷ g ∷ h ∷ []) state) made_names ≡ 1000 + sum_by object_need (a ∷ b ∷ c ∷ d ∷ e ∷ f ∷ g ∷ h ∷ [])
turns_of_eight a b c d e f g h state = simp length-octets (omega arith)

turns_made : (state after : ℕ) → turns (objects_from made_names (lengths_from state) after) made_names ≡ 1000 + sum_by object_need (lengths_from state)
unfolding draws
turns_made state after = turns_of_eight _ _ _ _ _ _ _ _ after

-- the scenario of a number, from its parts
pub made_from : (number enough : ℕ) (script : Script) (transport : Transport) (names : List (List ℕ)) (runs : List (ℕ × Word)) (lengths : List ℕ) → script ≡ with_defaults transport (stated_only transport names runs) → transport ≡ made_transport (is_even number) → names ≡ made_names → runs ≡ made_runs (is_even number) enough
    → enough ≡ 1000 + sum_by object_need lengths → lengths ≡ lengths_from (first_state number) → script ≡ made_script number
made_from number enough script transport names runs lengths e et en er ee el =
    let needed : enough ≡ turns (made_objects number) made_names = ee ∙ ap (λ (ls : List ℕ). 1000 + sum_by object_need ls) el ∙ sym (turns_made (first_state number) (state_after 8 (first_state number))) in
    rw (e, et, en, er, needed) refl
