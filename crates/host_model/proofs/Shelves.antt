-- What a client makes of the answers of its shelf.
use Rattle.std.proofs.Common.{ℕ, ◌≡◌, ◌-◌, ◌==◌, ◌&&◌, ◌≤◌, Bool, true, false, List, [], ◌∷◌, map, length, drop, Result, Ok, Err, refl, sym, ap, subst, arith}
use Rattle.std.proofs.lemmas.Bool.{le-leb, leb-true, and_from, eq-eqb, cond-true}
use Rattle.std.proofs.lemmas.Slice.Eq.{bytes_eq-Decides}
use Rattle.std.proofs.lemmas.Str.{chars-nil}
use Rattle.std.specs.Char.Escape.{encode_utf16}
use Rattle.std.specs.List.{flat_map}
use Rattle.std.specs.Str.{bytes_eq}
use Rattle.rest_laws.specs.bt_base.specs.declared.ports.PortFault.{PortFault}
use Rattle.rest_laws.specs.bt_base.specs.declared.ports.PortFault.TheVariants.{Failed}
use Rattle.push_model.specs.obex_session.specs.PutPackets.{units_in, place_of}
use Rattle.push_model.specs.Client.{Client}
use Rattle.push_model.specs.Steps.{Part, put_count}
use Rattle.host_model.specs.Circumstances.{Circumstance, Excerpt, size_in}
use Rattle.host_model.specs.Shelves.{is_short, size_if, name_if, size_for, name_for, measured, part_for, bare_part, fitting, unused}

-- ---- a name

no_units : length (units_in []) ≤ 100
no_units = subst (λ (cs : List ℕ). length (flat_map encode_utf16 cs) ≤ 100) (sym chars-nil) (omega arith)

short_if : (test : Bool) (name : List ℕ) → (test ≡ true → length (units_in name) ≤ 100) → length (units_in (name_if test name)) ≤ 100
short_if true name is = is refl
short_if false name is = no_units

pub names_are_short : (name : List ℕ) → length (units_in (name_for name)) ≤ 100
names_are_short name = short_if (is_short name) name (λ test. leb-true (length (units_in name)) 100 test)

pub name_stays : (name : List ℕ) → length (units_in name) ≤ 100 → name_for name ≡ name
name_stays name few = ap (λ (test : Bool). name_if test name) (le-leb (length (units_in name)) 100 few)

-- ---- a size

size_at : (test : Bool) (size : Result ℕ PortFault) (count : ℕ) → size_if test size ≡ Ok count → size ≡ Ok count
size_at true size count is = is
size_at false size count is = cc

-- it is what the shelf told
pub size_told : (circumstances : List Circumstance) (name : List ℕ) (count : ℕ) → size_for circumstances name ≡ Ok count → size_in circumstances ≡ Ok count
size_told circumstances name count is = size_at (is_short name) (size_in circumstances) count is

pub size_stays : (size : Result ℕ PortFault) (name : List ℕ) → length (units_in name) ≤ 100 → size_if (is_short name) size ≡ size
size_stays size name few = ap (λ (test : Bool). size_if test size) (le-leb (length (units_in name)) 100 few)

-- ---- answers that are left

answers_length : (excerpts : List Excerpt) → length (map bare_part excerpts) ≡ length excerpts
answers_length [] = refl
answers_length (excerpt ∷ excerpts) = let more = answers_length excerpts in omega (arith, more)

-- behind a step that used none, and behind one that used one
pub unused_none : (client : Client) (excerpts : List Excerpt) → unused (fitting client excerpts) excerpts ≡ excerpts
unused_none client [] = refl
unused_none client (excerpt ∷ excerpts) =
    let same = answers_length excerpts in
    let none : length (excerpt ∷ excerpts) - length (fitting client (excerpt ∷ excerpts)) ≡ 0 = omega (arith, same) in
    ap (λ (n : ℕ). drop n (excerpt ∷ excerpts)) none

pub unused_one : (excerpt : Excerpt) (excerpts : List Excerpt) → unused (map bare_part excerpts) (excerpt ∷ excerpts) ≡ excerpts
unused_one excerpt excerpts =
    let same = answers_length excerpts in
    let one : length (excerpt ∷ excerpts) - length (map bare_part excerpts) ≡ 1 = omega (arith, same) in
    ap (λ (n : ℕ). drop n (excerpt ∷ excerpts)) one

-- ---- an answer that is asked for

-- an excerpt that is the next one
pub next_part : (client : Client) (answer : Part) → (let excerpt : Excerpt = record { name = client.name; at = place_of client.session.put; answer = answer } in part_for client excerpt ≡ measured (put_count client) answer)
next_part client answer =
    let place = place_of client.session.put in
    let same = and_from (bytes_eq client.name client.name) (place == place) ((bytes_eq-Decides client.name client.name).1 refl) (eq-eqb place place refl) in
    cond-true (bytes_eq client.name client.name && place == place) (measured (put_count client) answer) (Err Failed) same
