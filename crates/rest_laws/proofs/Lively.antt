-- What is true of both hosts at each moment, so that the world comes to rest: each push has one link, and nothing of an earlier one is
-- left where it is asked for.
use Rattle.std.proofs.Common.{◌≡◌, ◌⊎◌, ℕ, ◌+◌, ◌≤◌, not, Bool, true, false, List, [], ◌∷◌, ◌++◌, length, inl, inr, refl, sym, ap, ◌∙◌, subst, arith}
use Rattle.station_laws.specs.push_terms.specs.declared.word.Side.TheVariants.{A, B}
use Rattle.station_laws.specs.radio_model.specs.Controllers.{Answer, LinkMade, LinkGone, Controller, is_empty}
use Rattle.station_laws.specs.radio_model.specs.Radio.{Radio, Phase, Apart, Paging, Requested, Together, is_together, joined, parted}
use Rattle.station_laws.specs.world_model.specs.Machines.{Upper}
use Rattle.station_laws.specs.world_model.specs.Pushes.{Pushes}
use Rattle.station_laws.specs.world_model.specs.Stations.{Order, Accept, Station}
use Rattle.station_laws.specs.turn_laws.proofs.Leading.{Tiding, Came, Went, tiding_in, tidings, made, Led, led_off}
use Rattle.station_laws.specs.turn_laws.proofs.Wiring.{end_at, asking, count}
use Rattle.station_laws.specs.turn_laws.proofs.Keeping.{calling, Parts}
use Rattle.std.proofs.lemmas.List.Concat.{flat_map-append}
use Rattle.rest_laws.proofs.Living.{LivesAt, LivesOf, lives_as, lives_rests, lives_pops}
use Rattle.rest_laws.proofs.Calling.{scanning_by, scans, called, called_same, requesting, Calls, calls_as, calls_move}

-- no link was made in the push that goes on, and both hosts know of all that there were
pub record IsFresh (radio : Radio) (pushes : Pushes) : Type 0 where
  pub parts : Parts radio
  pub separate : is_together radio.phase ≡ false
  -- a link more is within the pushes
  pub room : pushes.going ≡ true → radio.number + 1 ≤ pushes.begun

-- else host a is still to be told of its link, or it wants none
abbrev pub HasLink : {S G : Type 0} → Upper S G → Radio → Pushes → S → Type 0
HasLink U radio pushes upper = IsFresh radio pushes ⊎ ((1 ≤ made (tidings radio.a.owed)) ⊎ (U.wants_link upper ≡ false))

pub record Lively {S T G : Type 0} (U : Upper S G) (radio : Radio) (one : Station S) (other : Station T) (pushes : Pushes) : Type 0 where
  pub a : LivesOf A (calling radio.phase) radio.a one
  pub b : LivesOf B 0 radio.b other
  pub calls : Calls radio.phase radio.b.scan (called radio.b.owed) other.waiting other.out
  pub link : HasLink U radio pushes one.upper
  pub number_few : radio.number ≤ pushes.begun
  pub begun_few : pushes.begun ≤ length pushes.names
  pub names_few : length pushes.names ≤ 0x0EFF

-- ---- one host changes

pub link_upper : {S G : Type 0} (U : Upper S G) (radio : Radio) (pushes : Pushes) (s t : S) → (U.wants_link s ≡ false → U.wants_link t ≡ false) → HasLink U radio pushes s → HasLink U radio pushes t
link_upper U radio pushes s t keeps link = elim link [
  | inl fresh ↦ inl fresh
  | inr later ↦ elim later [ inl coming ↦ inr (inl coming) | inr had ↦ inr (inr (keeps had)) ]
]

pub lively_a : {S T G : Type 0} (U : Upper S G) (radio : Radio) (old new : Station S) (b : Station T) (pushes : Pushes) → LivesOf A (calling radio.phase) radio.a new → (U.wants_link old.upper ≡ false → U.wants_link new.upper ≡ false)
    → Lively U radio old b pushes → Lively U radio new b pushes
lively_a U radio old new b pushes lives keeps is = record {
  a = lives;
  b = is.b;
  calls = is.calls;
  link = link_upper U radio pushes old.upper new.upper keeps is.link;
  number_few = is.number_few;
  begun_few = is.begun_few;
  names_few = is.names_few;
}

pub lively_b : {S T G : Type 0} (U : Upper S G) (radio : Radio) (a : Station S) (old new : Station T) (pushes : Pushes) → LivesOf B 0 radio.b new → Calls radio.phase radio.b.scan (called radio.b.owed) new.waiting new.out
    → Lively U radio a old pushes → Lively U radio a new pushes
lively_b U radio a old new pushes lives calls is = record {
  a = is.a;
  b = lives;
  calls = calls;
  link = is.link;
  number_few = is.number_few;
  begun_few = is.begun_few;
  names_few = is.names_few;
}

-- ---- the radio changes in what is nothing to this

pub record Alike (one one' : Controller) : Type 0 where
  pub told : one'.told ≡ one.told
  pub up : one'.up ≡ one.up
  pub scan : one'.scan ≡ one.scan
  pub rest : tidings one'.owed ≡ tidings one.owed
  pub calls : called one'.owed ≡ called one.owed

pub alike_refl : (one : Controller) → Alike one one
alike_refl one = record { told = refl; up = refl; scan = refl; rest = refl; calls = refl }

fresh_alike : (radio radio' : Radio) (pushes : Pushes) → Alike radio.a radio'.a → Alike radio.b radio'.b → radio'.phase ≡ radio.phase → radio'.number ≡ radio.number → IsFresh radio pushes → IsFresh radio' pushes
fresh_alike radio radio' pushes a b phase number fresh =
    let parts = fresh.parts in
    record {
      parts = record { off_a = a.up ∙ parts.off_a; off_b = b.up ∙ parts.off_b; told_a = a.told ∙ parts.told_a ∙ sym number; told_b = b.told ∙ parts.told_b ∙ sym number };
      separate = ap is_together phase ∙ fresh.separate;
      room = λ going. let room = fresh.room going in omega arith;
    }

pub lively_alike : {S T G : Type 0} (U : Upper S G) (radio radio' : Radio) (a : Station S) (b : Station T) (pushes : Pushes) → Alike radio.a radio'.a → Alike radio.b radio'.b → radio'.phase ≡ radio.phase → radio'.number ≡ radio.number
    → Lively U radio a b pushes → Lively U radio' a b pushes
lively_alike U radio radio' a b pushes one two phase number is =
    let owed : made (tidings radio'.a.owed) ≡ made (tidings radio.a.owed) = ap made one.rest in
    let few = is.number_few in
    record {
      a = lives_as A (calling radio.phase) (calling radio'.phase) radio.a.told radio'.a.told radio.a.up radio'.a.up (tidings radio.a.owed) (tidings radio'.a.owed) a (ap calling phase) one.told one.up one.rest is.a;
      b = lives_as B 0 0 radio.b.told radio'.b.told radio.b.up radio'.b.up (tidings radio.b.owed) (tidings radio'.b.owed) b refl two.told two.up two.rest is.b;
      calls = calls_as radio.phase radio'.phase radio.b.scan radio'.b.scan (called radio.b.owed) (called radio'.b.owed) b.waiting b.out phase two.scan two.calls is.calls;
      link = elim is.link [
        | inl fresh ↦ inl (fresh_alike radio radio' pushes one two phase number fresh)
        | inr later ↦ elim later [ inl coming ↦ inr (inl (omega arith)) | inr had ↦ inr (inr had) ]
      ];
      number_few = omega arith;
      begun_few = is.begun_few;
      names_few = is.names_few;
    }

-- ---- an order that is nothing to this moves

pub lively_pops_a : {S T G : Type 0} (U : Upper S G) (radio : Radio) (a : Station S) (b : Station T) (pushes : Pushes) (order : Order) (out : List Order) → a.out ≡ order ∷ out → asking order ≡ 0
    → (radio.a.up ≡ true → end_at radio.a.told order ≡ true → not (is_empty (tidings radio.a.owed)) ≡ true) → Lively U radio a b pushes → Lively U radio (record a { out = out }) b pushes
lively_pops_a U radio a b pushes order out first plain gone is = record {
  a = lives_pops A (calling radio.phase) (calling radio.phase) radio.a.told radio.a.up (tidings radio.a.owed) (tidings radio.a.owed) a order out first (omega arith) (λ some. some) gone is.a;
  b = is.b;
  calls = is.calls;
  link = is.link;
  number_few = is.number_few;
  begun_few = is.begun_few;
  names_few = is.names_few;
}

pub lively_pops_b : {S T G : Type 0} (U : Upper S G) (radio : Radio) (a : Station S) (b : Station T) (pushes : Pushes) (order : Order) (out : List Order) → b.out ≡ order ∷ out → asking order ≡ 0 → scanning_by order ≡ 0
    → (radio.b.up ≡ true → end_at radio.b.told order ≡ true → not (is_empty (tidings radio.b.owed)) ≡ true) → Lively U radio a b pushes → Lively U radio a (record b { out = out }) pushes
lively_pops_b U radio a b pushes order out first plain still gone is =
    let counted : count b.out ≡ asking order + count out = ap count first in
    let scanned : scans b.out ≡ scanning_by order + scans out = ap scans first in
    record {
      a = is.a;
      b = lives_pops B 0 0 radio.b.told radio.b.up (tidings radio.b.owed) (tidings radio.b.owed) b order out first (omega arith) (λ some. some) gone is.b;
      calls = calls_move radio.phase radio.b.scan (called radio.b.owed) (called radio.b.owed) b.waiting b.waiting b.out out (omega arith) (omega arith) is.calls;
      link = is.link;
      number_few = is.number_few;
      begun_few = is.begun_few;
      names_few = is.names_few;
    }

-- ---- a link goes, and a link comes

made-append : (one two : List Tiding) → made (one ++ two) ≡ made one + made two
made-append [] two = omega arith
made-append (Came handle ∷ one) two = let same = made-append one two in omega arith
made-append (Went handle reason ∷ one) two = let same = made-append one two in omega arith

some_more : (one : List Tiding) (tiding : Tiding) → not (is_empty (one ++ tiding ∷ [])) ≡ true
some_more [] tiding = refl
some_more (first ∷ one) tiding = refl

gone_tidings : (owed : List Answer) (handle reason : ℕ) → tidings (owed ++ LinkGone handle reason ∷ []) ≡ tidings owed ++ Went handle reason ∷ []
gone_tidings owed handle reason = flat_map-append tiding_in owed (LinkGone handle reason ∷ [])

made_tidings : (owed : List Answer) (handle : ℕ) → tidings (owed ++ LinkMade handle ∷ []) ≡ tidings owed ++ Came handle ∷ []
made_tidings owed handle = flat_map-append tiding_in owed (LinkMade handle ∷ [])

pub some_gone : (owed : List Answer) (handle reason : ℕ) → not (is_empty (tidings (owed ++ LinkGone handle reason ∷ []))) ≡ true
some_gone owed handle reason = ap (λ (l : List Tiding). not (is_empty l)) (gone_tidings owed handle reason) ∙ some_more (tidings owed) (Went handle reason)

pub together_is : (phase : Phase) → is_together phase ≡ true → phase ≡ Together
together_is Apart is = cc
together_is Paging is = cc
together_is Requested is = cc
together_is Together is = refl

pub lively_parted : {S T G : Type 0} (U : Upper S G) (radio : Radio) (a : Station S) (b : Station T) (pushes : Pushes) (for_a for_b : ℕ) → is_together radio.phase ≡ true → Lively U radio a b pushes → Lively U (parted for_a for_b radio) a b pushes
lively_parted {S} {T} U radio a b pushes for_a for_b up is =
    let phase = together_is radio.phase up in
    let uncalled : calling radio.phase ≡ 0 = ap calling phase in
    let unrequested : requesting radio.phase ≡ 0 = ap requesting phase in
    let requests = is.calls.requests in
    let same = called_same radio.b.owed (LinkGone radio.number for_b) refl in
    let many_a = made-append (tidings radio.a.owed) (Went radio.number for_a ∷ []) in
    let many_b = made-append (tidings radio.b.owed) (Went radio.number for_b ∷ []) in
    let owed_a : made (tidings (radio.a.owed ++ LinkGone radio.number for_a ∷ [])) ≡ made (tidings radio.a.owed ++ Went radio.number for_a ∷ []) = ap made (gone_tidings radio.a.owed radio.number for_a) in
    record {
      a = subst (λ (rest : List Tiding). LivesAt A 0 radio.a.told radio.a.up rest a) (sym (gone_tidings radio.a.owed radio.number for_a))
          (lives_rests A (calling radio.phase) 0 radio.a.told radio.a.up (tidings radio.a.owed) (tidings radio.a.owed ++ Went radio.number for_a ∷ []) a (omega arith) (λ some. some_more (tidings radio.a.owed) (Went radio.number for_a)) is.a);
      b = subst (λ (rest : List Tiding). LivesAt B 0 radio.b.told radio.b.up rest b) (sym (gone_tidings radio.b.owed radio.number for_b))
          (lives_rests B 0 0 radio.b.told radio.b.up (tidings radio.b.owed) (tidings radio.b.owed ++ Went radio.number for_b ∷ []) b (omega arith) (λ some. some_more (tidings radio.b.owed) (Went radio.number for_b)) is.b);
      calls = record { requests = omega arith; scanned = is.calls.scanned; paging = λ on. absurd cc };
      link = elim is.link [
        | inl fresh ↦ let separate = fresh.separate in absurd cc
        | inr later ↦ elim later [ inl coming ↦ inr (inl (omega arith)) | inr had ↦ inr (inr had) ]
      ];
      number_few = is.number_few;
      begun_few = is.begun_few;
      names_few = is.names_few;
    }

pub lively_joined : {S T G : Type 0} (U : Upper S G) (radio : Radio) (a : Station S) (b : Station T) (pushes : Pushes) (out : List Order) → radio.phase ≡ Requested → b.out ≡ Accept ∷ out → radio.number + 1 ≤ pushes.begun → Lively U radio a b pushes
    → Lively U (joined radio) a (record b { out = out }) pushes
lively_joined {S} {T} U radio a b pushes out phase first room is =
    let next : ℕ = radio.number + 1 in
    let called_is : calling radio.phase ≡ 1 = ap calling phase in
    let requested : requesting radio.phase ≡ 1 = ap requesting phase in
    let requests = is.calls.requests in
    let same = called_same radio.b.owed (LinkMade next) refl in
    let counted : count b.out ≡ 1 + count out = ap count first in
    let scanned : scans b.out ≡ 0 + scans out = ap scans first in
    let many_a = made-append (tidings radio.a.owed) (Came next ∷ []) in
    let many_b = made-append (tidings radio.b.owed) (Came next ∷ []) in
    let owed_a : made (tidings (radio.a.owed ++ LinkMade next ∷ [])) ≡ made (tidings radio.a.owed ++ Came next ∷ []) = ap made (made_tidings radio.a.owed next) in
    record {
      a = subst (λ (rest : List Tiding). LivesAt A 0 radio.a.told radio.a.up rest a) (sym (made_tidings radio.a.owed next))
          (lives_rests A (calling radio.phase) 0 radio.a.told radio.a.up (tidings radio.a.owed) (tidings radio.a.owed ++ Came next ∷ []) a (omega arith) (λ some. some_more (tidings radio.a.owed) (Came next)) is.a);
      b = subst (λ (rest : List Tiding). LivesAt B 0 radio.b.told radio.b.up rest (record b { out = out })) (sym (made_tidings radio.b.owed next))
          (lives_pops B 0 0 radio.b.told radio.b.up (tidings radio.b.owed) (tidings radio.b.owed ++ Came next ∷ []) b Accept out first (omega arith) (λ some. some_more (tidings radio.b.owed) (Came next)) (λ on here. some_more (tidings radio.b.owed) (Came next)) is.b);
      calls = record { requests = omega arith; scanned = λ unheard. let some = is.calls.scanned unheard in omega arith; paging = λ on. absurd cc };
      link = inr (inl (omega arith));
      number_few = room;
      begun_few = is.begun_few;
      names_few = is.names_few;
    }

-- ---- host a asks for a link where there is none of its push yet

pub fresh_of : {S G : Type 0} (U : Upper S G) (radio : Radio) (pushes : Pushes) (upper : S) → U.wants_link upper ≡ true → made (tidings radio.a.owed) ≡ 0 → HasLink U radio pushes upper → IsFresh radio pushes
fresh_of U radio pushes upper wants none link = elim link [
  | inl fresh ↦ fresh
  | inr later ↦ elim later [ inl coming ↦ absurd (omega arith) | inr had ↦ absurd cc ]
]

-- a host that knows of all links, and of none that is up, is told nothing of one
pub parts_none : (told : ℕ) (up : Bool) (rest : List Tiding) (number : ℕ) (together : Bool) → up ≡ false → told ≡ number → together ≡ false → Led told up rest number together → rest ≡ []
parts_none told up rest number together off known separate led =
    led_off told rest number known (subst (λ (b : Bool). Led told b rest number false) off (subst (λ (b : Bool). Led told up rest number b) separate led))
