-- An order that moves from a host to its controller leaves it so.
use Rattle.std.proofs.Common.{◌≡◌, ◌⊎◌, ℕ, ◌+◌, ◌≤◌, ◌==◌, ◌&&◌, not, nat_lt, nat_le, Bool, true, false, List, [], ◌∷◌, ◌++◌, Option, Some, None, if◌then◌else◌, inl, inr, refl, sym, ap, ◌∙◌, subst, arith}
use Rattle.std.proofs.lemmas.Bool.{cases_Bool, eq-eqb, eqb-true, lt-ltb}
use Rattle.station_laws.specs.bt_base.specs.Octets.{le16}
use Rattle.station_laws.specs.acl_fragments.specs.Pieces.{Piece}
use Rattle.station_laws.specs.push_terms.specs.declared.word.Side.TheVariants.{A, B}
use Rattle.station_laws.specs.radio_model.specs.Controllers.{Answer, Returned, Stated, Called, address, Controller, owing, after_giving_back, is_empty}
use Rattle.station_laws.specs.radio_model.specs.Radio.{Radio, Phase, Apart, Paging, Requested, Together, is_apart, is_paging, is_requested, is_together, owes, may_page, after_reaching, joined, parted, knows_link, with_piece, after_taking}
use Rattle.station_laws.specs.world_model.specs.Machines.{Upper}
use Rattle.station_laws.specs.world_model.specs.Pushes.{Pushes}
use Rattle.station_laws.specs.world_model.specs.Stations.{Order, Reset, ReadBuffers, ReadAddress, Scan, Page, Accept, End, Data, Station}
use Rattle.station_laws.specs.world_model.specs.Worlds.{piece_on, after_order}
use Rattle.station_laws.specs.turn_laws.specs.Premises.{Idles}
use Rattle.station_laws.specs.turn_laws.proofs.Leading.{Tiding, tiding_in, tidings, plain_tidings, Led, knows}
use Rattle.station_laws.specs.turn_laws.proofs.Wiring.{end_at, asking, count}
use Rattle.station_laws.specs.turn_laws.proofs.Departing.{gives_back_tidings}
use Rattle.station_laws.specs.turn_laws.proofs.Keeping.{calling, Rests, Kept}
use Rattle.rest_laws.proofs.Living.{lives_as, lives_pops, own_first}
use Rattle.rest_laws.proofs.Calling.{scanning_by, called_by, called-append, called_same, called_back, requesting, requested_is}
use Rattle.rest_laws.proofs.Lively.{IsFresh, Lively, Alike, alike_refl, lively_alike, lively_pops_a, lively_pops_b, lively_parted, lively_joined, some_gone, fresh_of}

-- ---- one that is answered alone

more_owed : (one : Controller) (answer : Answer) → tiding_in answer ≡ [] → called_by answer ≡ 0 → Alike one (owing (answer ∷ []) one)
more_owed one answer plain none = record { told = refl; up = refl; scan = refl; rest = plain_tidings one.owed answer plain; calls = called_same one.owed answer none }

owed_a : {S T G : Type 0} (U : Upper S G) (radio : Radio) (a : Station S) (b : Station T) (pushes : Pushes) (answer : Answer) → tiding_in answer ≡ [] → called_by answer ≡ 0 → Lively U radio a b pushes → Lively U (owes A (answer ∷ []) radio) a b pushes
owed_a U radio a b pushes answer plain none is = lively_alike U radio (owes A (answer ∷ []) radio) a b pushes (more_owed radio.a answer plain none) (alike_refl radio.b) refl refl is

owed_b : {S T G : Type 0} (U : Upper S G) (radio : Radio) (a : Station S) (b : Station T) (pushes : Pushes) (answer : Answer) → tiding_in answer ≡ [] → called_by answer ≡ 0 → Lively U radio a b pushes → Lively U (owes B (answer ∷ []) radio) a b pushes
owed_b U radio a b pushes answer plain none is = lively_alike U radio (owes B (answer ∷ []) radio) a b pushes (alike_refl radio.a) (more_owed radio.b answer plain none) refl refl is

plain_a : {S T G : Type 0} (U : Upper S G) (radio : Radio) (a : Station S) (b : Station T) (pushes : Pushes) (order : Order) (rest : List Order) (answer : Answer) → a.out ≡ order ∷ rest → asking order ≡ 0 → end_at radio.a.told order ≡ false
    → tiding_in answer ≡ [] → called_by answer ≡ 0 → Lively U radio a b pushes → Lively U (owes A (answer ∷ []) radio) (record a { out = rest }) b pushes
plain_a U radio a b pushes order rest answer first unasked stays plain none is =
    owed_a U radio (record a { out = rest }) b pushes answer plain none (lively_pops_a U radio a b pushes order rest first unasked (λ on here. absurd cc) is)

plain_b : {S T G : Type 0} (U : Upper S G) (radio : Radio) (a : Station S) (b : Station T) (pushes : Pushes) (order : Order) (rest : List Order) (answer : Answer) → b.out ≡ order ∷ rest → asking order ≡ 0 → scanning_by order ≡ 0 → end_at radio.b.told order ≡ false
    → tiding_in answer ≡ [] → called_by answer ≡ 0 → Lively U radio a b pushes → Lively U (owes B (answer ∷ []) radio) a (record b { out = rest }) pushes
plain_b U radio a b pushes order rest answer first unasked still stays plain none is =
    owed_b U radio a (record b { out = rest }) pushes answer plain none (lively_pops_b U radio a b pushes order rest first unasked still (λ on here. absurd cc) is)

-- ---- a page

pub apart_is : (phase : Phase) → calling phase ≡ 0 → is_together phase ≡ false → phase ≡ Apart
apart_is Apart none separate = refl
apart_is Paging none separate = absurd (omega arith)
apart_is Requested none separate = absurd (omega arith)
apart_is Together none separate = absurd cc

both_true : (a b : Bool) → a ≡ true → b ≡ true → (a && b) ≡ true
both_true true b one two = two
both_true false b one two = absurd cc

pub fresh_pages : (radio : Radio) (pushes : Pushes) → IsFresh radio pushes → radio.phase ≡ Apart → radio.number + 1 ≤ 0x0EFF → may_page radio ≡ true
fresh_pages radio pushes fresh apart low =
    let parts = fresh.parts in
    both_true (is_apart radio.phase) _ (ap is_apart apart)
    (both_true (not radio.a.up) _ (ap not parts.off_a)
    (both_true (not radio.b.up) _ (ap not parts.off_b)
    (both_true (radio.a.told == radio.number) _ (eq-eqb radio.a.told radio.number parts.told_a)
    (both_true (radio.b.told == radio.number) (nat_lt radio.number 0x0EFF) (eq-eqb radio.b.told radio.number parts.told_b) (lt-ltb radio.number 0x0EFF (omega arith))))))

reach_by : {S T G : Type 0} (U : Upper S G) (radio : Radio) (a : Station S) (b : Station T) (pushes : Pushes) (rest : List Order) (scans_now : Bool) → nat_le 2 radio.b.scan ≡ scans_now → IsFresh radio pushes → radio.phase ≡ Apart → a.out ≡ Page ∷ rest
    → Lively U radio a b pushes
    → Lively U (if scans_now then record radio { b = owing (Called ∷ []) radio.b; phase = Requested } else record radio { phase = Paging }) (record a { out = rest }) b pushes
reach_by U radio a b pushes rest true scan fresh apart first is =
    let none : calling radio.phase ≡ 0 = ap calling apart in
    let unrequested : requesting radio.phase ≡ 0 = ap requesting apart in
    let requests = is.calls.requests in
    let more = called-append radio.b.owed (Called ∷ []) in
    let parts = fresh.parts in
    record {
      a = lives_pops A (calling radio.phase) 1 radio.a.told radio.a.up (tidings radio.a.owed) (tidings radio.a.owed) a Page rest first (omega arith) (λ some. some) (λ on here. absurd cc) is.a;
      b = lives_as B 0 0 radio.b.told radio.b.told radio.b.up radio.b.up (tidings radio.b.owed) (tidings (radio.b.owed ++ Called ∷ [])) b refl refl refl (plain_tidings radio.b.owed Called refl) is.b;
      calls = record { requests = omega arith; scanned = is.calls.scanned; paging = λ on. absurd cc };
      link = inl (record { parts = record { off_a = parts.off_a; off_b = parts.off_b; told_a = parts.told_a; told_b = parts.told_b }; separate = refl; room = fresh.room });
      number_few = is.number_few;
      begun_few = is.begun_few;
      names_few = is.names_few;
    }
reach_by U radio a b pushes rest false scan fresh apart first is =
    let none : calling radio.phase ≡ 0 = ap calling apart in
    let unrequested : requesting radio.phase ≡ 0 = ap requesting apart in
    let requests = is.calls.requests in
    let parts = fresh.parts in
    record {
      a = lives_pops A (calling radio.phase) 1 radio.a.told radio.a.up (tidings radio.a.owed) (tidings radio.a.owed) a Page rest first (omega arith) (λ some. some) (λ on here. absurd cc) is.a;
      b = is.b;
      calls = record { requests = omega arith; scanned = is.calls.scanned; paging = λ on. scan };
      link = inl (record { parts = record { off_a = parts.off_a; off_b = parts.off_b; told_a = parts.told_a; told_b = parts.told_b }; separate = refl; room = fresh.room });
      number_few = is.number_few;
      begun_few = is.begun_few;
      names_few = is.names_few;
    }

pub going_of : {S G : Type 0} (U : Upper S G) (upper : S) (radio : Radio) (going : Bool) → Idles U → U.wants_link upper ≡ true → (going ≡ false → Rests U upper radio) → going ≡ true
going_of U upper radio true idles wants rests = refl
going_of U upper radio false idles wants rests = let none = idles.wants_none upper (rests refl).idle in absurd cc

pages : {S T G : Type 0} (U : Upper S G) (radio : Radio) (a : Station S) (b : Station T) (pushes : Pushes) (rest : List Order) → IsFresh radio pushes → pushes.going ≡ true → calling radio.phase ≡ 0 → a.out ≡ Page ∷ rest → Lively U radio a b pushes
    → Lively U (if may_page radio then after_reaching (record radio { phase = Paging }) else radio) (record a { out = rest }) b pushes
pages U radio a b pushes rest fresh going none first is =
    let apart = apart_is radio.phase none fresh.separate in
    let room = fresh.room going in
    let begun = is.begun_few in
    let names = is.names_few in
    let may : may_page radio ≡ true = fresh_pages radio pushes fresh apart (omega arith) in
    subst (λ (b' : Bool). Lively U (if b' then after_reaching (record radio { phase = Paging }) else radio) (record a { out = rest }) b pushes) (sym may)
    (reach_by U radio a b pushes rest (nat_le 2 radio.b.scan) refl fresh apart first is)

page_departs : {S T G H : Type 0} (U : Upper S G) (V : Upper T H) (radio : Radio) (a : Station S) (b : Station T) (pushes : Pushes) (rest : List Order) → Idles U → a.out ≡ Page ∷ rest → Kept U V radio a b pushes.going → Lively U radio a b pushes
    → Lively U (after_order A Page radio) (record a { out = rest }) b pushes
page_departs U V radio a b pushes rest idles first kept is =
    let counted : count a.out ≡ 1 + count rest = ap count first in
    let few = kept.one.awaits.few in
    let wants = (kept.calls (omega arith)).wants in
    let fresh = fresh_of U radio pushes a.upper wants (omega arith) is.link in
    let parts = fresh.parts in
    pages U (owes A (Stated 0x0405 ∷ []) radio) a b pushes rest
    (record { parts = record { off_a = parts.off_a; off_b = parts.off_b; told_a = parts.told_a; told_b = parts.told_b }; separate = fresh.separate; room = fresh.room })
    (going_of U a.upper radio pushes.going idles wants kept.rests) (omega arith) first (owed_a U radio a b pushes (Stated 0x0405) refl refl is)

-- ---- host b scans

pub and_true : (b : Bool) → (b && true) ≡ b
and_true true = refl
and_true false = refl

pub paging_is : (phase : Phase) → is_paging phase ≡ true → phase ≡ Paging
paging_is Apart is = absurd cc
paging_is Paging is = refl
paging_is Requested is = absurd cc
paging_is Together is = absurd cc

scan_by : {S T G : Type 0} (U : Upper S G) (radio : Radio) (a : Station S) (b : Station T) (pushes : Pushes) (rest : List Order) (paged : Bool) → is_paging radio.phase ≡ paged → b.out ≡ Scan ∷ rest → Lively U radio a b pushes
    → Lively U (if paged then record radio { b = owing (Called ∷ []) (owing (Returned 0x0C1A (0 ∷ []) ∷ []) (record radio.b { scan = 0x03 })); phase = Requested }
    else record radio { b = owing (Returned 0x0C1A (0 ∷ []) ∷ []) (record radio.b { scan = 0x03 }) }) a (record b { out = rest }) pushes
scan_by U radio a b pushes rest true paged first is =
    let phase = paging_is radio.phase paged in
    let called_is : calling radio.phase ≡ 1 = ap calling phase in
    let unrequested : requesting radio.phase ≡ 0 = ap requesting phase in
    let separate : is_together radio.phase ≡ false = ap is_together phase in
    let requests = is.calls.requests in
    let answer : Answer = Returned 0x0C1A (0 ∷ []) in
    let same = called_same radio.b.owed answer refl in
    let more = called-append (radio.b.owed ++ answer ∷ []) (Called ∷ []) in
    let counted : count b.out ≡ 0 + count rest = ap count first in
    let told : tidings ((radio.b.owed ++ answer ∷ []) ++ Called ∷ []) ≡ tidings radio.b.owed = plain_tidings (radio.b.owed ++ answer ∷ []) Called refl ∙ plain_tidings radio.b.owed answer refl in
    record {
      a = lives_as A (calling radio.phase) 1 radio.a.told radio.a.told radio.a.up radio.a.up (tidings radio.a.owed) (tidings radio.a.owed) a (sym called_is) refl refl refl is.a;
      b = lives_as B 0 0 radio.b.told radio.b.told radio.b.up radio.b.up (tidings radio.b.owed) (tidings ((radio.b.owed ++ answer ∷ []) ++ Called ∷ [])) (record b { out = rest }) refl refl refl told
          (lives_pops B 0 0 radio.b.told radio.b.up (tidings radio.b.owed) (tidings radio.b.owed) b Scan rest first (omega arith) (λ some. some) (λ on here. absurd cc) is.b);
      calls = record { requests = omega arith; scanned = λ unheard. absurd cc; paging = λ on. absurd cc };
      link = elim is.link [
        | inl fresh ↦ let parts = fresh.parts in inl (record { parts = record { off_a = parts.off_a; off_b = parts.off_b; told_a = parts.told_a; told_b = parts.told_b }; separate = refl; room = fresh.room })
        | inr later ↦ inr later
      ];
      number_few = is.number_few;
      begun_few = is.begun_few;
      names_few = is.names_few;
    }
scan_by U radio a b pushes rest false paged first is =
    let answer : Answer = Returned 0x0C1A (0 ∷ []) in
    let same = called_same radio.b.owed answer refl in
    let requests = is.calls.requests in
    let counted : count b.out ≡ 0 + count rest = ap count first in
    record {
      a = is.a;
      b = lives_as B 0 0 radio.b.told radio.b.told radio.b.up radio.b.up (tidings radio.b.owed) (tidings (radio.b.owed ++ answer ∷ [])) (record b { out = rest }) refl refl refl (plain_tidings radio.b.owed answer refl)
          (lives_pops B 0 0 radio.b.told radio.b.up (tidings radio.b.owed) (tidings radio.b.owed) b Scan rest first (omega arith) (λ some. some) (λ on here. absurd cc) is.b);
      calls = record { requests = omega arith; scanned = λ unheard. absurd cc; paging = λ on. absurd cc };
      link = elim is.link [
        | inl fresh ↦ let parts = fresh.parts in inl (record { parts = record { off_a = parts.off_a; off_b = parts.off_b; told_a = parts.told_a; told_b = parts.told_b }; separate = fresh.separate; room = fresh.room })
        | inr later ↦ inr later
      ];
      number_few = is.number_few;
      begun_few = is.begun_few;
      names_few = is.names_few;
    }

-- ---- host b accepts

accept_departs : {S T G H : Type 0} (U : Upper S G) (V : Upper T H) (radio : Radio) (a : Station S) (b : Station T) (pushes : Pushes) (rest : List Order) → Idles U → b.out ≡ Accept ∷ rest → Kept U V radio a b pushes.going → Lively U radio a b pushes
    → Lively U (after_order B Accept radio) a (record b { out = rest }) pushes
accept_departs U V radio a b pushes rest idles first kept is =
    let counted : count b.out ≡ 1 + count rest = ap count first in
    let requests = is.calls.requests in
    let phase = requested_is radio.phase (omega arith) in
    let called_is : calling radio.phase ≡ 1 = ap calling phase in
    let few = kept.one.awaits.few in
    let wants = (kept.calls (omega arith)).wants in
    let fresh = fresh_of U radio pushes a.upper wants (omega arith) is.link in
    let going = going_of U a.upper radio pushes.going idles wants kept.rests in
    let owed : Radio = owes B (Stated 0x0409 ∷ []) radio in
    subst (λ (b' : Bool). Lively U (if b' then joined owed else owed) a (record b { out = rest }) pushes) (sym (ap is_requested phase))
    (lively_joined U owed a b pushes rest phase first (fresh.room going) (owed_b U radio a b pushes (Stated 0x0409) refl refl is))

-- ---- a host ends its link

-- the link is there, or what became of it is owed already
ends_known : (told number handle : ℕ) (up together : Bool) (rest : List Tiding) → Led told up rest number together → up ≡ true → (handle == told) ≡ true
    → (not (is_empty rest) ≡ true) ⊎ (((together && (up && (told == number))) && (handle == number)) ≡ true)
ends_known told number handle up together rest led on here =
    let known = knows told rest number together (subst (λ (b : Bool). Led told b rest number together) on led) in
    let same : (handle == number) ≡ (told == number) = ap (λ (n : ℕ). n == number) (eqb-true handle told here) in
    elim (cases_Bool (is_empty rest)) [
      | inl none ↦
          let all : (together && (told == number)) ≡ true = sym known ∙ none in
          let now : (told == number) ≡ true = second together (told == number) all in
          inr (both_true (together && (up && (told == number))) (handle == number) (ap (λ (b : Bool). together && (b && (told == number))) on ∙ all) (same ∙ now))
      | inr some ↦ inl (ap not some)
    ]
  where
    second : (a b : Bool) → (a && b) ≡ true → b ≡ true
    second true b is = is
    second false b is = absurd cc

end_by_a : {S T G : Type 0} (U : Upper S G) (radio : Radio) (a : Station S) (b : Station T) (pushes : Pushes) (handle : ℕ) (rest : List Order) (ends : Bool) → (ends ≡ true → is_together radio.phase ≡ true)
    → (radio.a.up ≡ true → (handle == radio.a.told) ≡ true → (not (is_empty (tidings radio.a.owed)) ≡ true) ⊎ (ends ≡ true)) → a.out ≡ End handle ∷ rest → Lively U radio a b pushes
    → Lively U (if ends then parted 0x16 0x13 radio else radio) (record a { out = rest }) b pushes
end_by_a U radio a b pushes handle rest true together gone first is =
    lively_pops_a U (parted 0x16 0x13 radio) a b pushes (End handle) rest first refl (λ on here. some_gone radio.a.owed radio.number 0x16) (lively_parted U radio a b pushes 0x16 0x13 (together refl) is)
end_by_a U radio a b pushes handle rest false together gone first is =
    lively_pops_a U radio a b pushes (End handle) rest first refl (λ on here. elim (gone on here) [ inl some ↦ some | inr ends ↦ absurd cc ]) is

end_by_b : {S T G : Type 0} (U : Upper S G) (radio : Radio) (a : Station S) (b : Station T) (pushes : Pushes) (handle : ℕ) (rest : List Order) (ends : Bool) → (ends ≡ true → is_together radio.phase ≡ true)
    → (radio.b.up ≡ true → (handle == radio.b.told) ≡ true → (not (is_empty (tidings radio.b.owed)) ≡ true) ⊎ (ends ≡ true)) → b.out ≡ End handle ∷ rest → Lively U radio a b pushes
    → Lively U (if ends then parted 0x13 0x16 radio else radio) a (record b { out = rest }) pushes
end_by_b U radio a b pushes handle rest true together gone first is =
    lively_pops_b U (parted 0x13 0x16 radio) a b pushes (End handle) rest first refl refl (λ on here. some_gone radio.b.owed radio.number 0x16) (lively_parted U radio a b pushes 0x13 0x16 (together refl) is)
end_by_b U radio a b pushes handle rest false together gone first is =
    lively_pops_b U radio a b pushes (End handle) rest first refl refl (λ on here. elim (gone on here) [ inl some ↦ some | inr ends ↦ absurd cc ]) is

first_true : (a b c : Bool) → ((a && b) && c) ≡ true → a ≡ true
first_true true b c is = refl
first_true false b c is = absurd cc

stated_led : (one : Controller) (opcode number : ℕ) (together : Bool) → Led one.told one.up (tidings one.owed) number together → Led one.told one.up (tidings (one.owed ++ Stated opcode ∷ [])) number together
stated_led one opcode number together led = subst (λ (l : List Tiding). Led one.told one.up l number together) (sym (plain_tidings one.owed (Stated opcode) refl)) led

-- ---- a packet of data

alike_then : (one two three : Controller) → Alike one two → Alike two three → Alike one three
alike_then one two three first next = record { told = next.told ∙ first.told; up = next.up ∙ first.up; scan = next.scan ∙ first.scan; rest = next.rest ∙ first.rest; calls = next.calls ∙ first.calls }

alike_piece : (flies : Bool) (piece : Option Piece) (one : Controller) → Alike one (with_piece flies piece one)
alike_piece flies None one = alike_refl one
alike_piece flies (Some piece) one = record { told = refl; up = refl; scan = refl; rest = refl; calls = refl }

pub alike_back : (one : Controller) → Alike one (after_giving_back one)
alike_back one = record { told = refl; up = refl; scan = refl; rest = gives_back_tidings one.told one.taken one.owed; calls = called_back one.told one.taken one.owed }

alike_by : (one : Controller) (ours full : Bool) → Alike one (if ours then (if full then record (after_giving_back one) { taken = 1 } else record one { taken = one.taken + 1 }) else one)
alike_by one true true = let back = alike_back one in record { told = back.told; up = back.up; scan = back.scan; rest = back.rest; calls = back.calls }
alike_by one true false = record { told = refl; up = refl; scan = refl; rest = refl; calls = refl }
alike_by one false full = alike_refl one

alike_data : (flies : Bool) (handle : ℕ) (piece : Option Piece) (one : Controller) → Alike one (after_taking handle (with_piece flies piece one))
alike_data flies handle piece one =
    let put : Controller = with_piece flies piece one in
    alike_then one put (after_taking handle put) (alike_piece flies piece one) (alike_by put ((handle == put.told) && nat_le 1 put.told) (put.taken == 65535))

-- ---- whatever moves

pub departs_a : {S T G H : Type 0} (U : Upper S G) (V : Upper T H) (radio : Radio) (a : Station S) (b : Station T) (pushes : Pushes) (order : Order) (rest : List Order) → Idles U → a.out ≡ order ∷ rest → Kept U V radio a b pushes.going → Lively U radio a b pushes
    → Lively U (after_order A order radio) (record a { out = rest }) b pushes
departs_a U V radio a b pushes Reset rest idles first kept is = plain_a U radio a b pushes Reset rest (Returned 0x0C03 (0 ∷ [])) first refl refl refl refl is
departs_a U V radio a b pushes ReadBuffers rest idles first kept is = plain_a U radio a b pushes ReadBuffers rest (Returned 0x1005 (0 ∷ (le16 radio.size ++ (0 ∷ (le16 radio.count ++ le16 0))))) first refl refl refl refl is
departs_a U V radio a b pushes ReadAddress rest idles first kept is = plain_a U radio a b pushes ReadAddress rest (Returned 0x1009 (0 ∷ address A)) first refl refl refl refl is
departs_a U V radio a b pushes Scan rest idles first kept is = absurd (own_first A Scan a.out rest first is.a.own_out)
departs_a U V radio a b pushes Page rest idles first kept is = page_departs U V radio a b pushes rest idles first kept is
departs_a U V radio a b pushes Accept rest idles first kept is = absurd (own_first A Accept a.out rest first is.a.own_out)
departs_a U V radio a b pushes (End handle) rest idles first kept is =
    let owed : Radio = owes A (Stated 0x0406 ∷ []) radio in
    end_by_a U owed a b pushes handle rest (knows_link A owed && (handle == owed.number)) (λ ends. first_true (is_together radio.phase) (radio.a.up && (radio.a.told == radio.number)) (handle == radio.number) ends)
    (λ on here. ends_known radio.a.told radio.number handle radio.a.up (is_together radio.phase) (tidings owed.a.owed) (stated_led radio.a 0x0406 radio.number (is_together radio.phase) kept.one.led) on here) first
    (owed_a U radio a b pushes (Stated 0x0406) refl refl is)
departs_a U V radio a b pushes (Data handle piece) rest idles first kept is =
    lively_alike U radio _ (record a { out = rest }) b pushes (alike_data (knows_link A radio) handle (piece_on radio.a handle piece) radio.a) (alike_refl radio.b) refl refl
    (lively_pops_a U radio a b pushes (Data handle piece) rest first refl (λ on here. absurd cc) is)

pub departs_b : {S T G H : Type 0} (U : Upper S G) (V : Upper T H) (radio : Radio) (a : Station S) (b : Station T) (pushes : Pushes) (order : Order) (rest : List Order) → Idles U → b.out ≡ order ∷ rest → Kept U V radio a b pushes.going → Lively U radio a b pushes
    → Lively U (after_order B order radio) a (record b { out = rest }) pushes
departs_b U V radio a b pushes Reset rest idles first kept is = plain_b U radio a b pushes Reset rest (Returned 0x0C03 (0 ∷ [])) first refl refl refl refl refl is
departs_b U V radio a b pushes ReadBuffers rest idles first kept is = plain_b U radio a b pushes ReadBuffers rest (Returned 0x1005 (0 ∷ (le16 radio.size ++ (0 ∷ (le16 radio.count ++ le16 0))))) first refl refl refl refl refl is
departs_b U V radio a b pushes ReadAddress rest idles first kept is = plain_b U radio a b pushes ReadAddress rest (Returned 0x1009 (0 ∷ address B)) first refl refl refl refl refl is
departs_b {S} {T} U V radio a b pushes Scan rest idles first kept is =
    let to : Controller = owing (Returned 0x0C1A (0 ∷ []) ∷ []) (record radio.b { scan = 0x03 }) in
    subst (λ (paged : Bool). Lively U (if paged then record radio { b = owing (Called ∷ []) to; phase = Requested } else record radio { b = to }) a (record b { out = rest }) pushes) (sym (and_true (is_paging radio.phase)))
    (scan_by U radio a b pushes rest (is_paging radio.phase) refl first is)
departs_b U V radio a b pushes Page rest idles first kept is = absurd (own_first B Page b.out rest first is.b.own_out)
departs_b U V radio a b pushes Accept rest idles first kept is = accept_departs U V radio a b pushes rest idles first kept is
departs_b U V radio a b pushes (End handle) rest idles first kept is =
    let owed : Radio = owes B (Stated 0x0406 ∷ []) radio in
    end_by_b U owed a b pushes handle rest (knows_link B owed && (handle == owed.number)) (λ ends. first_true (is_together radio.phase) (radio.b.up && (radio.b.told == radio.number)) (handle == radio.number) ends)
    (λ on here. ends_known radio.b.told radio.number handle radio.b.up (is_together radio.phase) (tidings owed.b.owed) (stated_led radio.b 0x0406 radio.number (is_together radio.phase) kept.other.led) on here) first
    (owed_b U radio a b pushes (Stated 0x0406) refl refl is)
departs_b U V radio a b pushes (Data handle piece) rest idles first kept is =
    lively_alike U radio _ a (record b { out = rest }) pushes (alike_refl radio.a) (alike_data (knows_link B radio) handle (piece_on radio.b handle piece) radio.b) refl refl
    (lively_pops_b U radio a b pushes (Data handle piece) rest first refl refl (λ on here. absurd cc) is)
