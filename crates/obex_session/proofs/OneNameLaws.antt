-- Where the first PUT alone may have a Name, the packets that a server heard store the object that they spell, or nothing.
use Rattle.std.proofs.Common.{Bool, true, false, cond, ◌≡◌, ℕ, ◌+◌, ◌<◌, ◌≤◌, ◌^◌, ◌&&◌, ◌||◌, ◌⊎◌, inl, inr, eqb, get_or, List, [], ◌∷◌, ◌++◌, length, map, Option, Some, None, Err, refl, sym, ap, ap₂, subst, ◌∙◌, arith}
use Rattle.std.specs.List.{AllByRecursion}
use Rattle.std.proofs.lemmas.Bool.{cases_lt, le-ltb, lt-ltb}
use Rattle.std.proofs.lemmas.List.{map-append}
use Rattle.std.proofs.lemmas.List.Elements.{filter_map-append}
use Rattle.bt_base.specs.Objects.{Object}
use Rattle.obex_headers.specs.declared.fault.ObexRefusal.TheVariants.{AboveMaximum}
use Rattle.obex_headers.specs.declared.packet.Phase.TheVariants.{Request}
use Rattle.obex_headers.specs.Packets.{PlainHeader, PlainPacket, is_connect, fields_len, units_of}
use Rattle.obex_headers.specs.Reading.{packet_in, front_at}
use Rattle.obex_headers.specs.Runs.{is_final, name_text, names, bodies, run_headers, breaks, lacks, object_of, objects_from, put_of, put_in, heard, spelled}
use Rattle.obex_session.specs.Past.{Heard, put_heard, puts_heard, stored_by}
use Rattle.obex_session.specs.Pairs.{past_packets}
use Rattle.obex_session.proofs.ListLaws.{within_maximum}
use Rattle.obex_session.proofs.PastLaws.{headers-more}

-- ---- PUTs without a Name

abbrev pub Unnamed : Option PlainPacket → Type 0
Unnamed None = Unit {0}
Unnamed (Some put) = names put.headers ≡ []

names_more : (a b : List PlainHeader) → names (a ++ b) ≡ names a ++ names b
names_more a b = ap (map units_of) (filter_map-append name_text a b) ∙ map-append units_of _ _

lacks_name : (headers : List PlainHeader) → names headers ≡ [] → lacks headers ≡ true
lacks_name headers none = ap (λ (ns : List (List ℕ)). eqb (length ns) 0 || eqb (length (bodies headers)) 0) none

-- one ends its run without an object, or goes on
no_object : (broken final lacking : Bool) (ended : List Object) (object : Object) (going : List Object) → lacking ≡ true → ended ≡ [] → going ≡ [] → cond (broken || (final && lacking)) ended (cond final (object ∷ ended) going) ≡ []
no_object true final lacking ended object going l e g = e
no_object false true true ended object going l e g = e
no_object false true false ended object going l e g = absurd cc
no_object false false lacking ended object going l e g = g

-- they spell nothing
unnamed_none : (run : List PlainPacket) (puts : List (Option PlainPacket)) → names (run_headers run) ≡ [] → AllByRecursion Unnamed puts → objects_from run puts ≡ []
unnamed_none run [] none all = refl
unnamed_none run (None ∷ puts) none all = unnamed_none [] puts refl all.1
unnamed_none run (Some put ∷ puts) none all =
    let hs : List PlainHeader = run_headers (run ++ put ∷ []) in
    let nameless : names hs ≡ [] = ap names (headers-more run put) ∙ names_more (run_headers run) put.headers ∙ ap₂ (λ (a b : List (List ℕ)). a ++ b) none all.0 in
    no_object (breaks hs) (is_final put) (lacks hs) (objects_from [] puts) (object_of hs) (objects_from (run ++ put ∷ []) puts) (lacks_name hs nameless) (unnamed_none [] puts refl all.1) (unnamed_none (run ++ put ∷ []) puts nameless all.1)

-- ---- packets that count as refused, or do not

few_fields : (code : ℕ) → fields_len Request code ≤ 4
few_fields code = by_kind (is_connect Request code) _
  where
    by_kind : (connects sets : Bool) → cond connects 4 (cond sets 2 0) ≤ 4
    by_kind true sets = omega arith
    by_kind false true = omega arith
    by_kind false false = omega arith

too_long : (maximum : ℕ) (octets : List ℕ) → 255 ≤ maximum → maximum < length octets → packet_in Request maximum octets ≡ Err AboveMaximum
unfolding packet_in front_at
too_long maximum octets least more =
    let few = few_fields (get_or octets 0 0) in
    rw (le-ltb (length octets) (3 + fields_len Request (get_or octets 0 0)) (omega (arith, few, least, more))) (rw (lt-ltb maximum (length octets) more) refl)

abbrev IsKept : Option PlainPacket → Option PlainPacket → Type 0
IsKept kept put = (kept ≡ None) ⊎ (kept ≡ put)

is_kept : (maximum : ℕ) (octets : List ℕ) (failed : Bool) → 255 ≤ maximum → maximum < 2 ^ 16 → IsKept (put_heard maximum (octets, failed)) (put_in octets)
is_kept maximum octets true least most = inl refl
is_kept maximum octets false least most = elim (cases_lt maximum (length octets)) [
  | inl more ↦ inl (ap put_of (too_long maximum octets least more))
  | inr fits ↦ inr (ap put_of (within_maximum maximum 65535 octets fits (omega (arith, fits, most))))
]

-- what is spelled, or nothing
abbrev pub Either : List Object → List Object → Type 0
Either stored spelling = (stored ≡ []) ⊎ (stored ≡ spelling)

both_ways : (ends final : Bool) (a a' : List Object) (object : Object) (c c' : List Object) → a ≡ a' → Either c c' → Either (cond ends a (cond final (object ∷ a) c)) (cond ends a' (cond final (object ∷ a') c'))
both_ways true final a a' object c c' same goes = inr same
both_ways false true a a' object c c' same goes = inr (ap (λ (os : List Object). object ∷ os) same)
both_ways false false a a' object c c' same goes = goes

unnamed_kept : (kept put : Option PlainPacket) → IsKept kept put → Unnamed put → Unnamed kept
unnamed_kept kept put (inl none) unnamed = subst Unnamed (sym none) tt
unnamed_kept kept put (inr same) unnamed = subst Unnamed (sym same) unnamed

all_kept : (maximum : ℕ) (past : List Heard) → 255 ≤ maximum → maximum < 2 ^ 16 → AllByRecursion Unnamed (heard (past_packets past)) → AllByRecursion Unnamed (puts_heard maximum past)
all_kept maximum [] least most all = tt
all_kept maximum ((octets, failed) ∷ past) least most all = (unnamed_kept (put_heard maximum (octets, failed)) (put_in octets) (is_kept maximum octets failed least most) all.0, all_kept maximum past least most all.1)

-- one PUT ahead of others that have no Name
behind_put : (run : List PlainPacket) (put : Option PlainPacket) (kept spelling : List (Option PlainPacket)) → objects_from [] kept ≡ [] → objects_from [] spelling ≡ [] → ((later : List PlainPacket) → Either (objects_from later kept) (objects_from later spelling))
    → Either (objects_from run (put ∷ kept)) (objects_from run (put ∷ spelling))
behind_put run None kept spelling none none' goes = inr (none ∙ sym none')
behind_put run (Some put) kept spelling none none' goes =
    let hs : List PlainHeader = run_headers (run ++ put ∷ []) in
    both_ways (breaks hs || (is_final put && lacks hs)) (is_final put) (objects_from [] kept) (objects_from [] spelling) (object_of hs) (objects_from (run ++ put ∷ []) kept) (objects_from (run ++ put ∷ []) spelling) (none ∙ sym none') (goes (run ++ put ∷ []))

first_kept : (run : List PlainPacket) (first put : Option PlainPacket) (kept spelling : List (Option PlainPacket)) → IsKept first put → objects_from [] kept ≡ [] → objects_from [] spelling ≡ [] → ((later : List PlainPacket) → Either (objects_from later kept) (objects_from later spelling))
    → Either (objects_from run (first ∷ kept)) (objects_from run (put ∷ spelling))
first_kept run first put kept spelling (inl none) ends ends' goes = inl (ap (λ (p : Option PlainPacket). objects_from run (p ∷ kept)) none ∙ ends)
first_kept run first put kept spelling (inr same) ends ends' goes =
    subst (λ (p : Option PlainPacket). Either (objects_from run (p ∷ kept)) (objects_from run (put ∷ spelling))) (sym same) (behind_put run put kept spelling ends ends' goes)

module _ (maximum : ℕ) (least : 255 ≤ maximum) (most : maximum < 2 ^ 16) where
  one_either : (one : Heard) (past : List Heard) (run : List PlainPacket) → AllByRecursion Unnamed (heard (past_packets past)) → ((later : List PlainPacket) → Either (objects_from later (puts_heard maximum past)) (objects_from later (heard (past_packets past))))
      → Either (objects_from run (puts_heard maximum (one ∷ past))) (objects_from run (heard (past_packets (one ∷ past))))
  one_either (octets, failed) past run all goes =
      first_kept run (put_heard maximum (octets, failed)) (put_in octets) (puts_heard maximum past) (heard (past_packets past)) (is_kept maximum octets failed least most)
      (unnamed_none [] (puts_heard maximum past) refl (all_kept maximum past least most all)) (unnamed_none [] (heard (past_packets past)) refl all) goes

  unnamed_either : (past : List Heard) (run : List PlainPacket) → AllByRecursion Unnamed (heard (past_packets past)) → Either (objects_from run (puts_heard maximum past)) (objects_from run (heard (past_packets past)))
  unnamed_either [] run all = inr refl
  unnamed_either (one ∷ past) run all = one_either one past run all.1 (λ later. unnamed_either past later all.1)

-- packets that are no PUT, one PUT that may have a Name, and others that have none; or a front of these
abbrev pub OneName : List (Option PlainPacket) → Type 0
OneName [] = Unit {0}
OneName (put ∷ puts) = ((put ≡ None) × OneName puts) ⊎ AllByRecursion Unnamed puts

pub stores_or_not : (maximum : ℕ) (past : List Heard) → 255 ≤ maximum → maximum < 2 ^ 16 → OneName (heard (past_packets past)) → Either (stored_by maximum past) (spelled (past_packets past))
stores_or_not maximum [] least most once = inr refl
stores_or_not maximum (one ∷ past) least most (inr unnamed) = one_either maximum least most one past [] unnamed (λ later. unnamed_either maximum least most past later unnamed)
stores_or_not maximum ((octets, failed) ∷ past) least most (inl once) =
    let none : put_heard maximum (octets, failed) ≡ None = by_kept (is_kept maximum octets failed least most) in
    subst (λ (p : Option PlainPacket). Either (objects_from [] (p ∷ puts_heard maximum past)) (spelled (octets ∷ past_packets past))) (sym none)
    (subst (λ (p : Option PlainPacket). Either (stored_by maximum past) (objects_from [] (p ∷ heard (past_packets past)))) (sym once.0) (stores_or_not maximum past least most once.1))
  where
    by_kept : IsKept (put_heard maximum (octets, failed)) (put_in octets) → put_heard maximum (octets, failed) ≡ None
    by_kept (inl none) = none
    by_kept (inr same) = same ∙ once.0

-- a front of such packets is such
unnamed_front : (a b : List (Option PlainPacket)) → AllByRecursion Unnamed (a ++ b) → AllByRecursion Unnamed a
unnamed_front [] b all = tt
unnamed_front (put ∷ a) b all = (all.0, unnamed_front a b all.1)

pub one_front : (a b : List (Option PlainPacket)) → OneName (a ++ b) → OneName a
one_front [] b once = tt
one_front (put ∷ a) b (inl once) = inl (once.0, one_front a b once.1)
one_front (put ∷ a) b (inr unnamed) = inr (unnamed_front a b unnamed)
