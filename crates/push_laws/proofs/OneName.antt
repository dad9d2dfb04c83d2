-- Where one packet alone has a Name, packets that count as refused leave the object that is spelled, or nothing.
use Rattle.std.proofs.Common.{inl, inr, ◌⊎◌, Bool, true, false, cond, ◌≡◌, ◌==◌, ◌≤◌, ℕ, ◌&&◌, ◌||◌, arith, List, [], ◌∷◌, ◌++◌, length, map, Option, Some, None, refl, sym, ap, ap₂, subst, ◌∙◌}
use Rattle.std.specs.List.{AllByRecursion}
use Rattle.std.proofs.lemmas.List.{map-append}
use Rattle.std.proofs.lemmas.List.Elements.{filter_map-append}
use Rattle.std.proofs.lemmas.Grind.{flat_map-append}
use Rattle.link_talk.specs.bt_base.specs.Objects.{Object}
use Rattle.push_model.specs.obex_headers.specs.Packets.{PlainHeader, PlainPacket, units_of}
use Rattle.push_model.specs.obex_headers.specs.Runs.{is_final, name_text, names, bodies, run_headers, breaks, lacks, object_of, objects_from}
use Rattle.push_model.specs.obex_session.specs.Past.{Heard, puts_heard}
use Rattle.link_talk.specs.ObjectsHeard.{put_within}
use Rattle.push_laws.specs.OneName.{Unnamed, NoNames, HasOneName}
use Rattle.push_laws.proofs.Listening.{octets_of}

-- ---- packets without a Name

names_more : (a b : List PlainHeader) → names (a ++ b) ≡ names a ++ names b
names_more a b = ap (map units_of) (filter_map-append name_text a b) ∙ map-append units_of _ _

pub headers_more : (run : List PlainPacket) (put : PlainPacket) → run_headers (run ++ put ∷ []) ≡ run_headers run ++ put.headers
headers_more run put = flat_map-append (λ (p : PlainPacket). p.headers) run (put ∷ []) ∙ ap (λ (hs : List PlainHeader). run_headers run ++ hs) (append-none put.headers)
  where
    append-none : (hs : List PlainHeader) → hs ++ [] ≡ hs
    append-none [] = refl
    append-none (h ∷ hs) = ap (λ (xs : List PlainHeader). h ∷ xs) (append-none hs)

lacks_name : (headers : List PlainHeader) → names headers ≡ [] → lacks headers ≡ true
lacks_name headers none = ap (λ (ns : List (List ℕ)). (length ns == 0) || (length (bodies headers) == 0)) none

-- it ends its run without an object, or goes on
no_object : (b f l : Bool) (ended : List Object) (object : Object) (open_ : List Object) → l ≡ true → ended ≡ [] → open_ ≡ [] → cond (b || (f && l)) ended (cond f (object ∷ ended) open_) ≡ []
no_object true f l ended object open_ lacks e o = e
no_object false true true ended object open_ lacks e o = e
no_object false true false ended object open_ lacks e o = absurd (let f : false ≡ true = lacks in cc)
no_object false false l ended object open_ lacks e o = o

-- they spell nothing
pub unnamed_none : (run : List PlainPacket) (puts : List (Option PlainPacket)) → names (run_headers run) ≡ [] → AllByRecursion Unnamed puts → objects_from run puts ≡ []
unnamed_none run [] none all = refl
unnamed_none run (None ∷ puts) none all = unnamed_none [] puts refl all.1
unnamed_none run (Some put ∷ puts) none all =
    let hs : List PlainHeader = run_headers (run ++ put ∷ []) in
    let nameless : names hs ≡ [] = ap names (headers_more run put) ∙ names_more (run_headers run) put.headers ∙ ap₂ (λ (a b : List (List ℕ)). a ++ b) none all.0 in
    no_object (breaks hs) (is_final put) (lacks hs) (objects_from [] puts) (object_of hs) (objects_from (run ++ put ∷ []) puts) (lacks_name hs nameless) (unnamed_none [] puts refl all.1) (unnamed_none (run ++ put ∷ []) puts nameless all.1)

-- ---- packets that count as refused, or do not

-- what is spelled, or nothing
abbrev pub Either : List Object → List Object → Type 0
Either stored spelled = (stored ≡ []) ⊎ (stored ≡ spelled)

both_ways : (ends final : Bool) (a a' : List Object) (object : Object) (c c' : List Object) → a ≡ a' → Either c c' → Either (cond ends a (cond final (object ∷ a) c)) (cond ends a' (cond final (object ∷ a') c'))
both_ways true final a a' object c c' same goes = inr same
both_ways false true a a' object c c' same goes = inr (ap (λ (os : List Object). object ∷ os) same)
both_ways false false a a' object c c' same goes = goes

few_ways : (ends final : Bool) (a : List Object) (object : Object) (c : List Object) → a ≡ [] → length c ≤ 1 → length (cond ends a (cond final (object ∷ a) c)) ≤ 1
few_ways true final a object c none few = subst (λ (os : List Object). length os ≤ 1) (sym none) (omega arith)
few_ways false true a object c none few = subst (λ (os : List Object). length (object ∷ os) ≤ 1) (sym none) (omega arith)
few_ways false false a object c none few = few

module _ (most : ℕ) where
  -- without marks
  abbrev pub bare : List (List ℕ) → List (Option PlainPacket)
  bare packets = map (put_within most) packets

  kept_unnamed : (heard : List Heard) → NoNames most (map octets_of heard) → AllByRecursion Unnamed (puts_heard most heard)
  kept_unnamed [] all = tt
  kept_unnamed ((octets, true) ∷ heard) all = (tt, kept_unnamed heard all.1)
  kept_unnamed ((octets, false) ∷ heard) all = (all.0, kept_unnamed heard all.1)

  pub bare_unnamed : (packets : List (List ℕ)) → NoNames most packets → AllByRecursion Unnamed (bare packets)
  bare_unnamed [] all = tt
  bare_unnamed (packet ∷ packets) all = (all.0, bare_unnamed packets all.1)

  -- one packet that may have a Name, ahead of others that have none
  behind_one : (run : List PlainPacket) (put : Option PlainPacket) (heard : List Heard) → NoNames most (map octets_of heard) → ((later : List PlainPacket) → Either (objects_from later (puts_heard most heard)) (objects_from later (bare (map octets_of heard))))
      → Either (objects_from run (put ∷ puts_heard most heard)) (objects_from run (put ∷ bare (map octets_of heard)))
  behind_one run None heard none goes = inr (unnamed_none [] (puts_heard most heard) refl (kept_unnamed heard none) ∙ sym (unnamed_none [] (bare (map octets_of heard)) refl (bare_unnamed (map octets_of heard) none)))
  behind_one run (Some put) heard none goes =
      let hs : List PlainHeader = run_headers (run ++ put ∷ []) in
      both_ways (breaks hs || (is_final put && lacks hs)) (is_final put) (objects_from [] (puts_heard most heard)) (objects_from [] (bare (map octets_of heard))) (object_of hs)
      (objects_from (run ++ put ∷ []) (puts_heard most heard)) (objects_from (run ++ put ∷ []) (bare (map octets_of heard)))
      (unnamed_none [] (puts_heard most heard) refl (kept_unnamed heard none) ∙ sym (unnamed_none [] (bare (map octets_of heard)) refl (bare_unnamed (map octets_of heard) none))) (goes (run ++ put ∷ []))

  behind_name : (run : List PlainPacket) (heard : List Heard) → NoNames most (map octets_of heard) → Either (objects_from run (puts_heard most heard)) (objects_from run (bare (map octets_of heard)))
  behind_name run [] none = inr refl
  behind_name run ((octets, true) ∷ heard) none = inl (unnamed_none [] (puts_heard most heard) refl (kept_unnamed heard none.1))
  behind_name run ((octets, false) ∷ heard) none = behind_one run (put_within most octets) heard none.1 (λ later. behind_name later heard none.1)

  one_named : (one : Heard) (heard : List Heard) → NoNames most (map octets_of heard) → Either (objects_from [] (puts_heard most (one ∷ heard))) (objects_from [] (bare (map octets_of (one ∷ heard))))
  one_named (octets, true) heard none = inl (unnamed_none [] (puts_heard most heard) refl (kept_unnamed heard none))
  one_named (octets, false) heard none = behind_one [] (put_within most octets) heard none (λ later. behind_name later heard none)

  passes_kept : (one : Heard) (heard : List Heard) → put_within most one.0 ≡ None → objects_from [] (puts_heard most (one ∷ heard)) ≡ objects_from [] (puts_heard most heard)
  passes_kept (octets, true) heard none = refl
  passes_kept (octets, false) heard none = ap (λ (p : Option PlainPacket). objects_from [] (p ∷ puts_heard most heard)) none

  pub one_name_leaves : (heard : List Heard) → HasOneName most (map octets_of heard) → Either (objects_from [] (puts_heard most heard)) (objects_from [] (bare (map octets_of heard)))
  one_name_leaves [] one = inr refl
  one_name_leaves (first ∷ heard) (inl none) =
      subst (λ (os : List Object). Either os (objects_from [] (bare (map octets_of (first ∷ heard))))) (sym (passes_kept first heard none.0))
      (subst (λ (os : List Object). Either (objects_from [] (puts_heard most heard)) os) (sym (ap (λ (p : Option PlainPacket). objects_from [] (p ∷ bare (map octets_of heard))) none.0)) (one_name_leaves heard none.1))
  one_name_leaves (first ∷ heard) (inr nameless) = one_named first heard nameless

  -- ---- what is left out stays out

  lost_ways : (ends final : Bool) (kept kept' spelt : List Object) (object : Object) (open_ open' opens : List Object) → kept' ≡ [] → spelt ≡ [] → cond ends kept (cond final (object ∷ kept) open_) ≡ []
      → (cond ends spelt (cond final (object ∷ spelt) opens) ≡ [] → ⊥) → (open_ ≡ [] → (opens ≡ [] → ⊥) → open' ≡ []) → cond ends kept' (cond final (object ∷ kept') open') ≡ []
  lost_ways true final kept kept' spelt object open_ open' opens none nothing stored some goes = none
  lost_ways false true kept kept' spelt object open_ open' opens none nothing stored some goes = absurd (let never : object ∷ kept ≡ [] = stored in cc)
  lost_ways false false kept kept' spelt object open_ open' opens none nothing stored some goes = goes stored some

  abbrev IsLost : List PlainPacket → List Heard → List Heard → Type 0
  IsLost run heard more = objects_from run (puts_heard most heard) ≡ [] → (objects_from run (bare (map octets_of heard)) ≡ [] → ⊥) → objects_from run (puts_heard most (heard ++ more)) ≡ []

  none_behind : (heard : List Heard) → NoNames most (map octets_of heard) → objects_from [] (puts_heard most heard) ≡ []
  none_behind heard none = unnamed_none [] (puts_heard most heard) refl (kept_unnamed heard none)

  front_unnamed : (heard more : List Heard) → NoNames most (map octets_of (heard ++ more)) → NoNames most (map octets_of heard)
  front_unnamed [] more none = tt
  front_unnamed (one ∷ heard) more none = (none.0, front_unnamed heard more none.1)

  lost_put : (run : List PlainPacket) (put : Option PlainPacket) (heard more : List Heard) → NoNames most (map octets_of (heard ++ more)) → ((later : List PlainPacket) → IsLost later heard more)
      → objects_from run (put ∷ puts_heard most heard) ≡ [] → (objects_from run (put ∷ bare (map octets_of heard)) ≡ [] → ⊥) → objects_from run (put ∷ puts_heard most (heard ++ more)) ≡ []
  lost_put run None heard more none goes stored some = none_behind (heard ++ more) none
  lost_put run (Some put) heard more none goes stored some =
      let hs : List PlainHeader = run_headers (run ++ put ∷ []) in
      let spelt : objects_from [] (bare (map octets_of heard)) ≡ [] = unnamed_none [] (bare (map octets_of heard)) refl (bare_unnamed (map octets_of heard) (front_unnamed heard more none)) in
      lost_ways (breaks hs || (is_final put && lacks hs)) (is_final put) (objects_from [] (puts_heard most heard)) (objects_from [] (puts_heard most (heard ++ more))) (objects_from [] (bare (map octets_of heard))) (object_of hs)
      (objects_from (run ++ put ∷ []) (puts_heard most heard)) (objects_from (run ++ put ∷ []) (puts_heard most (heard ++ more))) (objects_from (run ++ put ∷ []) (bare (map octets_of heard)))
      (none_behind (heard ++ more) none) spelt stored some (goes (run ++ put ∷ []))

  lost_first : (run : List PlainPacket) (one : Heard) (heard more : List Heard) → NoNames most (map octets_of (heard ++ more)) → ((later : List PlainPacket) → IsLost later heard more) → IsLost run (one ∷ heard) more
  lost_first run (octets, true) heard more none goes stored some = none_behind (heard ++ more) none
  lost_first run (octets, false) heard more none goes stored some = lost_put run (put_within most octets) heard more none goes stored some

  lost_behind : (run : List PlainPacket) (heard more : List Heard) → NoNames most (map octets_of (heard ++ more)) → IsLost run heard more
  lost_behind run [] more none stored some = absurd (some refl)
  lost_behind run (one ∷ heard) more none stored some = lost_first run one heard more none.1 (λ later. lost_behind later heard more none.1) stored some

  pub one_name_lost : (heard more : List Heard) → HasOneName most (map octets_of (heard ++ more)) → IsLost [] heard more
  one_name_lost [] more once stored some = absurd (some refl)
  one_name_lost (first ∷ heard) more (inl none) stored some =
      passes_kept first (heard ++ more) none.0
      ∙ one_name_lost heard more none.1 (sym (passes_kept first heard none.0) ∙ stored) (λ e. some (ap (λ (p : Option PlainPacket). objects_from [] (p ∷ bare (map octets_of heard))) none.0 ∙ e))
  one_name_lost (first ∷ heard) more (inr nameless) stored some = lost_first [] first heard more nameless (λ later. lost_behind later heard more nameless) stored some

  -- ---- one object

  -- they spell one object at most
  few_behind : (run : List PlainPacket) (put : Option PlainPacket) (packets : List (List ℕ)) → NoNames most packets → ((later : List PlainPacket) → length (objects_from later (bare packets)) ≤ 1) → length (objects_from run (put ∷ bare packets)) ≤ 1
  few_behind run None packets none few = few []
  few_behind run (Some put) packets none few =
      let hs : List PlainHeader = run_headers (run ++ put ∷ []) in
      few_ways (breaks hs || (is_final put && lacks hs)) (is_final put) (objects_from [] (bare packets)) (object_of hs) (objects_from (run ++ put ∷ []) (bare packets)) (unnamed_none [] (bare packets) refl (bare_unnamed packets none)) (few (run ++ put ∷ []))

  few_named : (run : List PlainPacket) (packets : List (List ℕ)) → NoNames most packets → length (objects_from run (bare packets)) ≤ 1
  few_named run [] none = omega arith
  few_named run (packet ∷ packets) none = few_behind run (put_within most packet) packets none.1 (λ later. few_named later packets none.1)

  pub one_name_few : (packets : List (List ℕ)) → HasOneName most packets → length (objects_from [] (bare packets)) ≤ 1
  one_name_few [] one = omega arith
  one_name_few (packet ∷ packets) (inl none) = subst (λ (os : List Object). length os ≤ 1) (sym (ap (λ (p : Option PlainPacket). objects_from [] (p ∷ bare packets)) none.0)) (one_name_few packets none.1)
  one_name_few (packet ∷ packets) (inr nameless) = few_behind [] (put_within most packet) packets nameless (λ later. few_named later packets nameless)

  -- ---- fronts

  no_names_front : (front behind : List (List ℕ)) → NoNames most (front ++ behind) → NoNames most front
  no_names_front [] behind all = tt
  no_names_front (packet ∷ front) behind all = (all.0, no_names_front front behind all.1)

  pub no_names_join : (a b : List (List ℕ)) → NoNames most a → NoNames most b → NoNames most (a ++ b)
  no_names_join [] b x y = y
  no_names_join (packet ∷ a) b x y = (x.0, no_names_join a b x.1 y)

  pub one_name_front : (front behind : List (List ℕ)) → HasOneName most (front ++ behind) → HasOneName most front
  one_name_front [] behind one = tt
  one_name_front (packet ∷ front) behind (inl none) = inl (none.0, one_name_front front behind none.1)
  one_name_front (packet ∷ front) behind (inr nameless) = inr (no_names_front front behind nameless)

  -- none counts as refused
  pub uncounted_same : (heard : List Heard) → AllByRecursion (λ (one : Heard). one.1 ≡ false) heard → puts_heard most heard ≡ bare (map octets_of heard)
  uncounted_same [] all = refl
  uncounted_same ((octets, true) ∷ heard) all = absurd (let f : true ≡ false = all.0 in cc)
  uncounted_same ((octets, false) ∷ heard) all = ap (λ (ps : List (Option PlainPacket)). put_within most octets ∷ ps) (uncounted_same heard all.1)
