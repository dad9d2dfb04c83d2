-- What is true of both hosts and the radio between them; orders and links keep it.
use Rattle.std.proofs.Common.{◌≡◌, ℕ, ◌+◌, ◌≤◌, ◌==◌, ◌&&◌, not, nat_lt, nat_le, Bool, true, false, List, [], ◌∷◌, ◌++◌, if◌then◌else◌, refl, sym, ap, ◌∙◌, arith, subst}
use Rattle.std.proofs.lemmas.Bool.{eqb-true}
use Rattle.world_model.specs.acl_fragments.specs.Pieces.{Piece}
use Rattle.world_model.specs.radio_model.specs.Controllers.{Answer, Called, Controller, owing as owes_more}
use Rattle.world_model.specs.radio_model.specs.Radio.{Radio, Phase, Apart, Paging, Requested, Together, is_apart, is_paging, is_requested, is_together, is_reached, after_reaching, may_page, joined, parted}
use Rattle.world_model.specs.Machines.{Up, Down, Upper}
use Rattle.world_model.specs.Pushes.{Pushes}
use Rattle.world_model.specs.Talks.{Talk}
use Rattle.world_model.specs.Carriages.{End, Carriage, IsIdle, with_events}
use Rattle.world_model.specs.Stations.{Order, Station, longest_pdu}
use Rattle.turn_laws.specs.Premises.{Idles}
use Rattle.turn_laws.proofs.Joining.{completions}
use Rattle.turn_laws.proofs.Leading.{tidings, plain_tidings, events, made, Led, led_off}
use Rattle.turn_laws.proofs.Wiring.{piece_at, asking, count}
use Rattle.turn_laws.proofs.Stationing.{Steady, end_of}
use Rattle.turn_laws.proofs.Departing.{aside, aside_steady, aside_same, pops_steady, pops_same}
use Rattle.turn_laws.proofs.Changing.{quiet_off, comes_steady, comes_owing, goes_steady, goes_owing, paged_steady}

-- a page goes on
abbrev pub calling : Phase → ℕ
calling Apart = 0
calling Paging = 1
calling Requested = 1
calling Together = 0

-- host a wants the link that it asks for, and knows of none
pub record Wants {S G : Type 0} (U : Upper S G) (upper : S) (up : Bool) : Type 0 where
  pub wants : U.wants_link upper ≡ true
  pub off : up ≡ false

-- while a page goes on, both hosts know of all links, and of none that is up
pub record Parts (radio : Radio) : Type 0 where
  pub off_a : radio.a.up ≡ false
  pub off_b : radio.b.up ≡ false
  pub told_a : radio.a.told ≡ radio.number
  pub told_b : radio.b.told ≡ radio.number

-- while no push goes on, there is no link
pub record Rests {S G : Type 0} (U : Upper S G) (upper : S) (radio : Radio) : Type 0 where
  pub idle : U.is_idle upper ≡ true
  pub uncalled : calling radio.phase ≡ 0
  pub separate : is_together radio.phase ≡ false
  pub none_a : tidings radio.a.owed ≡ []
  pub none_b : tidings radio.b.owed ≡ []

pub record Kept {S T G H : Type 0} (U : Upper S G) (V : Upper T H) (radio : Radio) (a : Station S) (b : Station T) (going : Bool) : Type 0 where
  pub long : 27 ≤ radio.size
  pub one : Steady U radio.number (is_together radio.phase) (calling radio.phase) radio.a a
  pub other : Steady V radio.number (is_together radio.phase) 0 radio.b b
  pub calls : 1 ≤ count a.waiting + (count a.out + calling radio.phase) → Wants U a.upper radio.a.up
  pub parts : calling radio.phase ≡ 1 → Parts radio
  pub rests : going ≡ false → Rests U a.upper radio

-- what it is when PDUs move one at a time
abbrev pub carried : {S T : Type 0} → Radio → Pushes → Station S → Station T → (talk_a talk_b : List Talk) → Carriage S T
carried radio pushes a b talk_a talk_b = record {
  size = radio.size;
  link = is_together radio.phase;
  served = radio.served;
  pushes = pushes;
  a = end_of radio.a a talk_a;
  b = end_of radio.b b talk_b;
}

-- ---- an order that carries no piece of its link moves, and is answered

pub plain_a :
    {S T G H : Type 0} (U : Upper S G) (V : Upper T H) (radio : Radio) (a : Station S) (b : Station T) (going : Bool) (order : Order) (rest : List Order) (scan taken : ℕ) (owed : List Answer)
    → a.out ≡ order ∷ rest → piece_at radio.a.told order ≡ [] → tidings owed ≡ tidings radio.a.owed → Kept U V radio a b going
    → Kept U V (record radio { a = aside scan taken owed radio.a }) (record a { out = rest }) b going
plain_a {S} U V radio a b going order rest scan taken owed first none same kept =
    let counted : count a.out ≡ asking order + count rest = ap (λ (l : List Order). count l) first in
    let popped = pops_steady U radio.number (is_together radio.phase) (calling radio.phase) (calling radio.phase) radio.a a order rest first none (omega arith) kept.one in
    record {
      long = kept.long;
      one = aside_steady U radio.number (is_together radio.phase) (calling radio.phase) radio.a (record a { out = rest }) scan taken owed same popped;
      other = kept.other;
      calls = λ some. kept.calls (omega arith);
      parts = λ is. let parts = kept.parts is in record { off_a = parts.off_a; off_b = parts.off_b; told_a = parts.told_a; told_b = parts.told_b };
      rests = λ is. let rests = kept.rests is in record { idle = rests.idle; uncalled = rests.uncalled; separate = rests.separate; none_a = same ∙ rests.none_a; none_b = rests.none_b };
    }

pub plain_same_a :
    {S T : Type 0} (radio : Radio) (pushes : Pushes) (a : Station S) (b : Station T) (talk_a talk_b : List Talk) (order : Order) (rest : List Order) (scan taken : ℕ) (owed : List Answer)
    → a.out ≡ order ∷ rest → piece_at radio.a.told order ≡ [] → tidings owed ≡ tidings radio.a.owed
    → carried (record radio { a = aside scan taken owed radio.a }) pushes (record a { out = rest }) b talk_a talk_b ≡ carried radio pushes a b talk_a talk_b
plain_same_a {S} radio pushes a b talk_a talk_b order rest scan taken owed first none same =
    let e = aside_same radio.a (record a { out = rest }) talk_a scan taken owed same ∙ pops_same radio.a a talk_a order rest first none in
    ap (λ (x : End S). record (carried radio pushes a b talk_a talk_b) { a = x }) e

pub plain_b :
    {S T G H : Type 0} (U : Upper S G) (V : Upper T H) (radio : Radio) (a : Station S) (b : Station T) (going : Bool) (order : Order) (rest : List Order) (scan taken : ℕ) (owed : List Answer)
    → b.out ≡ order ∷ rest → piece_at radio.b.told order ≡ [] → tidings owed ≡ tidings radio.b.owed → Kept U V radio a b going
    → Kept U V (record radio { b = aside scan taken owed radio.b }) a (record b { out = rest }) going
plain_b {T = T} U V radio a b going order rest scan taken owed first none same kept =
    let popped = pops_steady V radio.number (is_together radio.phase) 0 0 radio.b b order rest first none (omega arith) kept.other in
    record {
      long = kept.long;
      one = kept.one;
      other = aside_steady V radio.number (is_together radio.phase) 0 radio.b (record b { out = rest }) scan taken owed same popped;
      calls = kept.calls;
      parts = λ is. let parts = kept.parts is in record { off_a = parts.off_a; off_b = parts.off_b; told_a = parts.told_a; told_b = parts.told_b };
      rests = λ is. let rests = kept.rests is in record { idle = rests.idle; uncalled = rests.uncalled; separate = rests.separate; none_a = rests.none_a; none_b = same ∙ rests.none_b };
    }

pub plain_same_b :
    {S T : Type 0} (radio : Radio) (pushes : Pushes) (a : Station S) (b : Station T) (talk_a talk_b : List Talk) (order : Order) (rest : List Order) (scan taken : ℕ) (owed : List Answer)
    → b.out ≡ order ∷ rest → piece_at radio.b.told order ≡ [] → tidings owed ≡ tidings radio.b.owed
    → carried (record radio { b = aside scan taken owed radio.b }) pushes a (record b { out = rest }) talk_a talk_b ≡ carried radio pushes a b talk_a talk_b
plain_same_b {T = T} radio pushes a b talk_a talk_b order rest scan taken owed first none same =
    let e = aside_same radio.b (record b { out = rest }) talk_b scan taken owed same ∙ pops_same radio.b b talk_b order rest first none in
    ap (λ (x : End T). record (carried radio pushes a b talk_a talk_b) { b = x }) e

-- ---- a device is reached

paging_is : (phase : Phase) → is_paging phase ≡ true → phase ≡ Paging
paging_is Apart is = cc
paging_is Paging is = refl
paging_is Requested is = cc
paging_is Together is = cc

and_first : (a b : Bool) → (a && b) ≡ true → a ≡ true
and_first true b is = refl
and_first false b is = cc

pub and_second : (a b : Bool) → (a && b) ≡ true → b ≡ true
and_second true b is = is
and_second false b is = cc

abbrev reached : Radio → Radio
reached radio = record radio { b = owes_more (Called ∷ []) radio.b; phase = Requested }

reached_kept : {S T G H : Type 0} (U : Upper S G) (V : Upper T H) (radio : Radio) (a : Station S) (b : Station T) (going : Bool) → radio.phase ≡ Paging → Kept U V radio a b going → Kept U V (reached radio) a b going
reached_kept U V radio a b going is kept =
    let called : calling radio.phase ≡ 1 = ap calling is in
    let separate : is_together radio.phase ≡ false = ap is_together is in
    let same = plain_tidings radio.b.owed Called refl in
    let one = subst (λ (n : ℕ). Steady U radio.number false n radio.a a) called (subst (λ (l : Bool). Steady U radio.number l (calling radio.phase) radio.a a) separate kept.one) in
    let other = subst (λ (l : Bool). Steady V radio.number l 0 radio.b b) separate kept.other in
    record {
      long = kept.long;
      one = one;
      other = aside_steady V radio.number false 0 radio.b b radio.b.scan radio.b.taken (radio.b.owed ++ Called ∷ []) same other;
      calls = λ some. kept.calls (omega arith);
      parts = λ again. let parts = kept.parts called in record { off_a = parts.off_a; off_b = parts.off_b; told_a = parts.told_a; told_b = parts.told_b };
      rests = λ still. let rests = kept.rests still in let uncalled = rests.uncalled in absurd (omega arith);
    }

reached_same : {S T : Type 0} (radio : Radio) (pushes : Pushes) (a : Station S) (b : Station T) (talk_a talk_b : List Talk) → radio.phase ≡ Paging → carried (reached radio) pushes a b talk_a talk_b ≡ carried radio pushes a b talk_a talk_b
reached_same radio pushes a b talk_a talk_b is =
    let separate : false ≡ is_together radio.phase = sym (ap is_together is) in
    let e = aside_same radio.b b talk_b radio.b.scan radio.b.taken (radio.b.owed ++ Called ∷ []) (plain_tidings radio.b.owed Called refl) in
    λ i. record (carried radio pushes a b talk_a talk_b) { link = separate i; b = e i }

reaches_by : {S T G H : Type 0} (U : Upper S G) (V : Upper T H) (radio : Radio) (a : Station S) (b : Station T) (going some : Bool) → (some ≡ true → radio.phase ≡ Paging) → Kept U V radio a b going → Kept U V (if some then reached radio else radio) a b going
reaches_by U V radio a b going true is kept = reached_kept U V radio a b going (is refl) kept
reaches_by U V radio a b going false is kept = kept

reaches_same_by : {S T : Type 0} (radio : Radio) (pushes : Pushes) (a : Station S) (b : Station T) (talk_a talk_b : List Talk) (some : Bool) → (some ≡ true → radio.phase ≡ Paging)
    → carried (if some then reached radio else radio) pushes a b talk_a talk_b ≡ carried radio pushes a b talk_a talk_b
reaches_same_by radio pushes a b talk_a talk_b true is = reached_same radio pushes a b talk_a talk_b (is refl)
reaches_same_by radio pushes a b talk_a talk_b false is = refl

reached_paging : (radio : Radio) → is_reached radio ≡ true → radio.phase ≡ Paging
reached_paging radio is = paging_is radio.phase (and_first (is_paging radio.phase) (nat_le 2 radio.b.scan) is)

pub reaches : {S T G H : Type 0} (U : Upper S G) (V : Upper T H) (radio : Radio) (a : Station S) (b : Station T) (going : Bool) → Kept U V radio a b going → Kept U V (after_reaching radio) a b going
reaches U V radio a b going kept = reaches_by U V radio a b going (is_reached radio) (reached_paging radio) kept

pub reaches_same : {S T : Type 0} (radio : Radio) (pushes : Pushes) (a : Station S) (b : Station T) (talk_a talk_b : List Talk) → carried (after_reaching radio) pushes a b talk_a talk_b ≡ carried radio pushes a b talk_a talk_b
reaches_same radio pushes a b talk_a talk_b = reaches_same_by radio pushes a b talk_a talk_b (is_reached radio) (reached_paging radio)

-- ---- a page begins

pub record MayPage (radio : Radio) : Type 0 where
  pub apart : is_together radio.phase ≡ false
  pub parts : Parts radio

apart_is : (phase : Phase) → is_apart phase ≡ true → is_together phase ≡ false
apart_is Apart is = refl
apart_is Paging is = cc
apart_is Requested is = cc
apart_is Together is = cc

not_true : (b : Bool) → not b ≡ true → b ≡ false
not_true true is = cc
not_true false is = refl

pub page_parts : (radio : Radio) → may_page radio ≡ true → MayPage radio
page_parts radio may =
    let one = and_second (is_apart radio.phase) (not radio.a.up && (not radio.b.up && ((radio.a.told == radio.number) && ((radio.b.told == radio.number) && nat_lt radio.number 0x0EFF)))) may in
    let two = and_second (not radio.a.up) (not radio.b.up && ((radio.a.told == radio.number) && ((radio.b.told == radio.number) && nat_lt radio.number 0x0EFF))) one in
    let three = and_second (not radio.b.up) ((radio.a.told == radio.number) && ((radio.b.told == radio.number) && nat_lt radio.number 0x0EFF)) two in
    let four = and_second (radio.a.told == radio.number) ((radio.b.told == radio.number) && nat_lt radio.number 0x0EFF) three in
    record {
      apart = apart_is radio.phase (and_first (is_apart radio.phase) _ may);
      parts = record {
        off_a = not_true radio.a.up (and_first (not radio.a.up) _ one);
        off_b = not_true radio.b.up (and_first (not radio.b.up) _ two);
        told_a = eqb-true radio.a.told radio.number (and_first (radio.a.told == radio.number) _ three);
        told_b = eqb-true radio.b.told radio.number (and_first (radio.b.told == radio.number) _ four);
      };
    }

pub pages_kept :
    {S T G H : Type 0} (U : Upper S G) (V : Upper T H) (radio : Radio) (a : Station S) (b : Station T) (going : Bool) → Idles U → MayPage radio
    → count a.waiting + (count a.out + (1 + made (tidings radio.a.owed))) ≤ 1 → a.asked ≡ true → U.wants_link a.upper ≡ true → Kept U V radio a b going → Kept U V (record radio { phase = Paging }) a b going
pages_kept U V radio a b going idles may few asked wants kept =
    let one = subst (λ (l : Bool). Steady U radio.number l (calling radio.phase) radio.a a) may.apart kept.one in
    record {
      long = kept.long;
      one = paged_steady U radio.number false (calling radio.phase) 1 radio.a a few (λ some. asked) one;
      other = subst (λ (l : Bool). Steady V radio.number l 0 radio.b b) may.apart kept.other;
      calls = λ some. record { wants = wants; off = may.parts.off_a };
      parts = λ is. record { off_a = may.parts.off_a; off_b = may.parts.off_b; told_a = may.parts.told_a; told_b = may.parts.told_b };
      rests = λ is. let rests = kept.rests is in let none = idles.wants_none a.upper rests.idle in absurd cc;
    }

pub pages_same : {S T : Type 0} (radio : Radio) (pushes : Pushes) (a : Station S) (b : Station T) (talk_a talk_b : List Talk) → MayPage radio
    → carried (record radio { phase = Paging }) pushes a b talk_a talk_b ≡ carried radio pushes a b talk_a talk_b
pages_same radio pushes a b talk_a talk_b may = λ i. record (carried radio pushes a b talk_a talk_b) { link = sym may.apart i }

-- ---- a link comes

requested_is : (phase : Phase) → is_requested phase ≡ true → phase ≡ Requested
requested_is Apart is = cc
requested_is Paging is = cc
requested_is Requested is = refl
requested_is Together is = cc

-- what a host that knows of no link and is owed nothing is
pub off_idle : {S G : Type 0} (U : Upper S G) (number extra : ℕ) (one : Controller) (station : Station S) (talk : List Talk) → one.up ≡ false → one.told ≡ number → Steady U number false extra one station → IsIdle U (end_of one station talk)
off_idle U number extra one station talk off told steady =
    let led : Led one.told false (tidings one.owed) number false = subst (λ (b : Bool). Led one.told b (tidings one.owed) number false) off steady.led in
    record {
      none_owed = ap events (led_off one.told (tidings one.owed) number told led);
      none_comes = ap (λ (l : List Piece). completions longest_pdu station.joining l) (quiet_off U one.up one.told number station.upper station.pieces one.coming off steady.incoming.listens);
      said_all = λ on. cc;
    }

pub record Joins {S T G H : Type 0} (U : Upper S G) (V : Upper T H) (radio : Radio) (pushes : Pushes) (a : Station S) (b : Station T) (talk_a talk_b : List Talk) : Type 0 where
  pub kept : Kept U V (joined radio) a b pushes.going
  pub down : is_together radio.phase ≡ false
  pub idle : IsIdle U (end_of radio.a a talk_a)
  pub going : pushes.going ≡ true
  pub wants : U.wants_link a.upper ≡ true
  pub new_is : carried (joined radio) pushes a b talk_a talk_b ≡ with_events true Up Up (carried radio pushes a b talk_a talk_b)

going_by : {S G : Type 0} (U : Upper S G) (upper : S) (radio : Radio) (going : Bool) → calling radio.phase ≡ 1 → (going ≡ false → Rests U upper radio) → going ≡ true
going_by U upper radio true called rests = refl
going_by U upper radio false called rests = let uncalled = (rests refl).uncalled in absurd (omega arith)

pub joins :
    {S T G H : Type 0} (U : Upper S G) (V : Upper T H) (radio : Radio) (pushes : Pushes) (a : Station S) (b : Station T) (talk_a talk_b : List Talk) → is_requested radio.phase ≡ true
    → count b.waiting + (count b.out + (made (tidings radio.b.owed) + 1)) ≤ 1 → b.asked ≡ true → Kept U V radio a b pushes.going → Joins U V radio pushes a b talk_a talk_b
joins U V radio pushes a b talk_a talk_b is few asked kept =
    let phase = requested_is radio.phase is in
    let called : calling radio.phase ≡ 1 = ap calling phase in
    let separate : is_together radio.phase ≡ false = ap is_together phase in
    let parts = kept.parts called in
    let one = subst (λ (n : ℕ). Steady U radio.number false n radio.a a) called (subst (λ (l : Bool). Steady U radio.number l (calling radio.phase) radio.a a) separate kept.one) in
    let other = subst (λ (l : Bool). Steady V radio.number l 0 radio.b b) separate kept.other in
    let few_a = one.awaits.few in
    let wants = kept.calls (omega arith) in
    record {
      kept = record {
        long = kept.long;
        one = comes_steady U radio.number 1 0 radio.a a parts.off_a (one.awaits.awaited (omega arith)) (omega arith) one;
        other = comes_steady V radio.number 0 0 radio.b b parts.off_b asked (omega arith) other;
        calls = λ some. absurd (omega arith);
        parts = λ again. absurd (omega arith);
        rests = λ still. let uncalled = (kept.rests still).uncalled in absurd (omega arith);
      };
      down = separate;
      idle = off_idle U radio.number 1 radio.a a talk_a parts.off_a parts.told_a one;
      going = going_by U a.upper radio pushes.going called kept.rests;
      wants = wants.wants;
      new_is = λ i. record { size = radio.size; link = true; served = radio.served; pushes = pushes; a = comes_owing radio.number radio.a a talk_a i; b = comes_owing radio.number radio.b b talk_b i };
    }

-- ---- a link goes

together_is : (phase : Phase) → is_together phase ≡ true → calling phase ≡ 0
together_is Apart is = cc
together_is Paging is = cc
together_is Requested is = cc
together_is Together is = refl

pub record Partings {S T G H : Type 0} (U : Upper S G) (V : Upper T H) (radio : Radio) (pushes : Pushes) (a : Station S) (b : Station T) (talk_a talk_b : List Talk) (for_a for_b : ℕ) : Type 0 where
  pub kept : Kept U V (parted for_a for_b radio) a b pushes.going
  pub new_is : carried (parted for_a for_b radio) pushes a b talk_a talk_b ≡ with_events false (Down for_a) (Down for_b) (carried radio pushes a b talk_a talk_b)

pub partings :
    {S T G H : Type 0} (U : Upper S G) (V : Upper T H) (radio : Radio) (pushes : Pushes) (a : Station S) (b : Station T) (talk_a talk_b : List Talk) (for_a for_b : ℕ) → is_together radio.phase ≡ true
    → Kept U V radio a b pushes.going → Partings U V radio pushes a b talk_a talk_b for_a for_b
partings U V radio pushes a b talk_a talk_b for_a for_b up kept =
    let uncalled = together_is radio.phase up in
    let one = subst (λ (n : ℕ). Steady U radio.number true n radio.a a) uncalled (subst (λ (l : Bool). Steady U radio.number l (calling radio.phase) radio.a a) up kept.one) in
    let other = subst (λ (l : Bool). Steady V radio.number l 0 radio.b b) up kept.other in
    record {
      kept = record {
        long = kept.long;
        one = goes_steady U radio.number for_a 0 radio.a a one;
        other = goes_steady V radio.number for_b 0 radio.b b other;
        calls = λ some. let wants = kept.calls (omega arith) in record { wants = wants.wants; off = wants.off };
        parts = λ again. absurd (omega arith);
        rests = λ still. let separate = (kept.rests still).separate in absurd cc;
      };
      new_is = λ i. record { size = radio.size; link = false; served = radio.served; pushes = pushes; a = goes_owing radio.number for_a radio.a a talk_a i; b = goes_owing radio.number for_b radio.b b talk_b i };
    }
