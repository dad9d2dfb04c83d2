-- Orders that move: each is nothing where PDUs move one at a time, or moves one, or makes or ends a link.
use Rattle.std.proofs.Common.{◌≡◌, ◌⊎◌, ℕ, ◌+◌, ◌==◌, ◌&&◌, ◌||◌, Bool, true, false, List, [], ◌∷◌, ◌++◌, map, Some, None, if◌then◌else◌, refl, sym, ap, ◌∙◌, inl, inr, arith, subst}
use Rattle.std.proofs.lemmas.Bool.{eqb-true, eq-eqb}
use Rattle.world_model.specs.acl_fragments.specs.Pieces.{Piece}
use Rattle.world_model.specs.push_terms.specs.declared.word.Side.{Side}
use Rattle.world_model.specs.push_terms.specs.declared.word.Side.TheVariants.{A, B}
use Rattle.world_model.specs.push_terms.specs.declared.word.Word.{Word}
use Rattle.world_model.specs.radio_model.specs.Controllers.{Answer, Stated, Controller}
use Rattle.world_model.specs.radio_model.specs.Radio.{frame_limit, Radio, Paging, is_requested, is_together, after_reaching, joined, parted, knows_link, with_piece, after_taking}
use Rattle.world_model.specs.Machines.{Up, Down, Upper}
use Rattle.world_model.specs.Talks.{Talk}
use Rattle.world_model.specs.Carriages.{End, Carriage, Motion, Doing, Moved, Rises, Falls, IsIdle, Carries, all_words, with_events}
use Rattle.world_model.specs.Stations.{Order, Page, Accept, End as Ending, Data, Station, longest_pdu, gives, holds}
use Rattle.world_model.specs.Worlds.{World, piece_on}
use Rattle.world_model.specs.PerLink.{Linkage, linkage}
use Rattle.turn_laws.specs.Premises.{Idles}
use Rattle.turn_laws.proofs.Joining.{completions}
use Rattle.turn_laws.proofs.Leading.{tidings, plain_tidings, events, made, Led, led_on}
use Rattle.turn_laws.proofs.Linkages.{as_was, said_more, said_by}
use Rattle.turn_laws.proofs.Wiring.{piece_at, sent, flowing, end_at, has_end, or_true, EndsLast, count}
use Rattle.turn_laws.proofs.Stationing.{Steady, end_of, Goes, Proceeds}
use Rattle.turn_laws.proofs.Departing.{aside, aside_steady, aside_same, stale_steady, stale_same, takes_packet, with_piece_is, with_none_is, lands, taken_by, piece_departs}
use Rattle.turn_laws.proofs.Keeping.{calling, Kept, carried, plain_a, plain_same_a, plain_b, plain_same_b, reaches, reaches_same, MayPage, pages_kept, pages_same, joins, partings, and_second}

abbrev pub at : {S T : Type 0} → World S T → (talk_a talk_b : List Talk) → Carriage S T
at w talk_a talk_b = carried w.radio w.pushes w.a w.b talk_a talk_b

pub record Carried {S T G H : Type 0} (U : Upper S G) (V : Upper T H) (by_a by_b : Linkage → Linkage) (old new : World S T) (talk_a talk_b : List Talk) (words : List Word) : Type 0 where
  pub kept : Kept U V new.radio new.a new.b new.pushes.going
  pub doings : List Doing
  pub talk_a' : List Talk
  pub talk_b' : List Talk
  pub carries : Carries U V doings (at old talk_a talk_b) (at new talk_a' talk_b')
  pub words_are : all_words doings ≡ words
  pub links_a : linkage talk_a' ≡ by_a (linkage talk_a)
  pub links_b : linkage talk_b' ≡ by_b (linkage talk_b)

pub silent : {S T G H : Type 0} (U : Upper S G) (V : Upper T H) (old new : World S T) (talk_a talk_b : List Talk) → Kept U V new.radio new.a new.b new.pushes.going → at new talk_a talk_b ≡ at old talk_a talk_b → Carried U V as_was as_was old new talk_a talk_b []
silent U V old new talk_a talk_b kept same = record { kept = kept; doings = []; talk_a' = talk_a; talk_b' = talk_b; carries = same; words_are = refl; links_a = refl; links_b = refl }

-- ---- motions of one host

pub along_a : {S T G H : Type 0} (U : Upper S G) (V : Upper T H) (motions : List Motion) (e e' : End S) (c : Carriage S T) → Goes U motions e e' → Carries U V (map (Moved A) motions) (record c { a = e }) (record c { a = e' })
along_a {S} {T} U V [] e e' c same = ap (λ (x : End S). record c { a = x }) same
along_a U V (motion ∷ motions) e e' c (mid, does, goes) = (record c { a = mid }, (mid, does, refl), along_a U V motions mid e' c goes)

pub along_b : {S T G H : Type 0} (U : Upper S G) (V : Upper T H) (motions : List Motion) (e e' : End T) (c : Carriage S T) → Goes V motions e e' → Carries U V (map (Moved B) motions) (record c { b = e }) (record c { b = e' })
along_b {S} {T} U V [] e e' c same = ap (λ (x : End T). record c { b = x }) same
along_b U V (motion ∷ motions) e e' c (mid, does, goes) = (record c { b = mid }, (mid, does, refl), along_b U V motions mid e' c goes)

pub no_words : (side : Side) (motions : List Motion) → all_words (map (Moved side) motions) ≡ []
no_words side [] = refl
no_words side (motion ∷ motions) = no_words side motions

-- ---- host a

abbrev pub departed_a : {S T : Type 0} → Radio → List Order → World S T → World S T
departed_a radio rest w = record w { radio = radio; a = record w.a { out = rest } }

abbrev pub departed_b : {S T : Type 0} → Radio → List Order → World S T → World S T
departed_b radio rest w = record w { radio = radio; b = record w.b { out = rest } }

-- it is answered, and nothing else comes of it
abbrev answers_a : (scan : ℕ) → List Answer → Radio → Radio
answers_a scan more radio = record radio { a = aside scan radio.a.taken (radio.a.owed ++ more) radio.a }

abbrev answers_b : (scan : ℕ) → List Answer → Radio → Radio
answers_b scan more radio = record radio { b = aside scan radio.b.taken (radio.b.owed ++ more) radio.b }

pub plain_departs_a : {S T G H : Type 0} (U : Upper S G) (V : Upper T H) (w : World S T) (talk_a talk_b : List Talk) (order : Order) (rest : List Order) (scan : ℕ) (more : List Answer)
    → w.a.out ≡ order ∷ rest → piece_at w.radio.a.told order ≡ [] → tidings (w.radio.a.owed ++ more) ≡ tidings w.radio.a.owed → Kept U V w.radio w.a w.b w.pushes.going
    → Carried U V as_was as_was w (departed_a (answers_a scan more w.radio) rest w) talk_a talk_b []
plain_departs_a U V w talk_a talk_b order rest scan more first none same kept =
    silent U V w (departed_a (answers_a scan more w.radio) rest w) talk_a talk_b
    (plain_a U V w.radio w.a w.b w.pushes.going order rest scan w.radio.a.taken (w.radio.a.owed ++ more) first none same kept)
    (plain_same_a w.radio w.pushes w.a w.b talk_a talk_b order rest scan w.radio.a.taken (w.radio.a.owed ++ more) first none same)

-- it is answered, and a device may be reached
pub reach_departs_a : {S T G H : Type 0} (U : Upper S G) (V : Upper T H) (w : World S T) (talk_a talk_b : List Talk) (order : Order) (rest : List Order) (scan : ℕ) (more : List Answer)
    → w.a.out ≡ order ∷ rest → piece_at w.radio.a.told order ≡ [] → tidings (w.radio.a.owed ++ more) ≡ tidings w.radio.a.owed → Kept U V w.radio w.a w.b w.pushes.going
    → Carried U V as_was as_was w (departed_a (after_reaching (answers_a scan more w.radio)) rest w) talk_a talk_b []
reach_departs_a U V w talk_a talk_b order rest scan more first none same kept =
    let radio = answers_a scan more w.radio in
    let plain = plain_a U V w.radio w.a w.b w.pushes.going order rest scan w.radio.a.taken (w.radio.a.owed ++ more) first none same kept in
    silent U V w (departed_a (after_reaching radio) rest w) talk_a talk_b
    (reaches U V radio (record w.a { out = rest }) w.b w.pushes.going plain)
    (reaches_same radio w.pushes (record w.a { out = rest }) w.b talk_a talk_b
    ∙ plain_same_a w.radio w.pushes w.a w.b talk_a talk_b order rest scan w.radio.a.taken (w.radio.a.owed ++ more) first none same)

pub plain_departs_b : {S T G H : Type 0} (U : Upper S G) (V : Upper T H) (w : World S T) (talk_a talk_b : List Talk) (order : Order) (rest : List Order) (scan : ℕ) (more : List Answer)
    → w.b.out ≡ order ∷ rest → piece_at w.radio.b.told order ≡ [] → tidings (w.radio.b.owed ++ more) ≡ tidings w.radio.b.owed → Kept U V w.radio w.a w.b w.pushes.going
    → Carried U V as_was as_was w (departed_b (answers_b scan more w.radio) rest w) talk_a talk_b []
plain_departs_b U V w talk_a talk_b order rest scan more first none same kept =
    silent U V w (departed_b (answers_b scan more w.radio) rest w) talk_a talk_b
    (plain_b U V w.radio w.a w.b w.pushes.going order rest scan w.radio.b.taken (w.radio.b.owed ++ more) first none same kept)
    (plain_same_b w.radio w.pushes w.a w.b talk_a talk_b order rest scan w.radio.b.taken (w.radio.b.owed ++ more) first none same)

pub reach_departs_b : {S T G H : Type 0} (U : Upper S G) (V : Upper T H) (w : World S T) (talk_a talk_b : List Talk) (order : Order) (rest : List Order) (scan : ℕ) (more : List Answer)
    → w.b.out ≡ order ∷ rest → piece_at w.radio.b.told order ≡ [] → tidings (w.radio.b.owed ++ more) ≡ tidings w.radio.b.owed → Kept U V w.radio w.a w.b w.pushes.going
    → Carried U V as_was as_was w (departed_b (after_reaching (answers_b scan more w.radio)) rest w) talk_a talk_b []
reach_departs_b U V w talk_a talk_b order rest scan more first none same kept =
    let radio = answers_b scan more w.radio in
    let plain = plain_b U V w.radio w.a w.b w.pushes.going order rest scan w.radio.b.taken (w.radio.b.owed ++ more) first none same kept in
    silent U V w (departed_b (after_reaching radio) rest w) talk_a talk_b
    (reaches U V radio w.a (record w.b { out = rest }) w.pushes.going plain)
    (reaches_same radio w.pushes w.a (record w.b { out = rest }) talk_a talk_b
    ∙ plain_same_b w.radio w.pushes w.a w.b talk_a talk_b order rest scan w.radio.b.taken (w.radio.b.owed ++ more) first none same)

pub page_departs_by : {S T G H : Type 0} (U : Upper S G) (V : Upper T H) (w : World S T) (talk_a talk_b : List Talk) (rest : List Order) (may : Bool) → Idles U → (may ≡ true → MayPage (answers_a w.radio.a.scan (Stated 0x0405 ∷ []) w.radio))
    → w.a.out ≡ Page ∷ rest → Kept U V w.radio w.a w.b w.pushes.going
    → Carried U V as_was as_was w (departed_a (if may then after_reaching (record (answers_a w.radio.a.scan (Stated 0x0405 ∷ []) w.radio) { phase = Paging }) else answers_a w.radio.a.scan (Stated 0x0405 ∷ []) w.radio) rest w) talk_a talk_b []
page_departs_by U V w talk_a talk_b rest false idles paged first kept =
    plain_departs_a U V w talk_a talk_b Page rest w.radio.a.scan (Stated 0x0405 ∷ []) first refl (plain_tidings w.radio.a.owed (Stated 0x0405) refl) kept
page_departs_by U V w talk_a talk_b rest true idles paged first kept =
    let may = paged refl in
    let same = plain_tidings w.radio.a.owed (Stated 0x0405) refl in
    let radio = answers_a w.radio.a.scan (Stated 0x0405 ∷ []) w.radio in
    let plain = plain_a U V w.radio w.a w.b w.pushes.going Page rest w.radio.a.scan w.radio.a.taken (w.radio.a.owed ++ Stated 0x0405 ∷ []) first refl same kept in
    let counted : count w.a.out ≡ 1 + count rest = ap (λ (l : List Order). count l) first in
    let few = kept.one.awaits.few in
    let made_same : made (tidings radio.a.owed) ≡ made (tidings w.radio.a.owed) = ap made same in
    let wants = kept.calls (omega arith) in
    let pages = pages_kept U V radio (record w.a { out = rest }) w.b w.pushes.going idles may (omega arith) (kept.one.awaits.awaited (omega arith)) wants.wants plain in
    silent U V w (departed_a (after_reaching (record radio { phase = Paging })) rest w) talk_a talk_b
    (reaches U V (record radio { phase = Paging }) (record w.a { out = rest }) w.b w.pushes.going pages)
    (reaches_same (record radio { phase = Paging }) w.pushes (record w.a { out = rest }) w.b talk_a talk_b
    ∙ pages_same radio w.pushes (record w.a { out = rest }) w.b talk_a talk_b may
    ∙ plain_same_a w.radio w.pushes w.a w.b talk_a talk_b Page rest w.radio.a.scan w.radio.a.taken (w.radio.a.owed ++ Stated 0x0405 ∷ []) first refl same)

-- ---- a host ends its link

pub flowing_none : (up : Bool) (begun : List ℕ) → flowing up begun [] ≡ []
flowing_none true begun = refl
flowing_none false begun = refl

-- one that ends the link that there is
pub ends_idle : {S G : Type 0} (U : Upper S G) (number extra : ℕ) (one : Controller) (station : Station S) (talk : List Talk) (rest : List Order) → station.out ≡ Ending number ∷ rest → one.up ≡ true → one.told ≡ number
    → Steady U number true extra one station → IsIdle U (end_of one station talk) × (U.leaves_link station.upper ≡ true)
ends_idle U number extra one station talk rest first up told steady =
    let here : end_at one.told (Ending number) ≡ true = eq-eqb number one.told (sym told) in
    let has : (has_end one.told station.waiting || has_end one.told station.out) ≡ true =
    ap (λ (l : List Order). has_end one.told station.waiting || has_end one.told l) first ∙ ap (λ (b : Bool). has_end one.told station.waiting || (b || has_end one.told rest)) here ∙ or_true (has_end one.told station.waiting) in
    let leaving = steady.ends.leaving up has in
    let last : EndsLast one.told (Ending number ∷ rest) = subst (λ (l : List Order). EndsLast one.told l) first steady.ends.last in
    let led : Led one.told true (tidings one.owed) number true = subst (λ (b : Bool). Led one.told b (tidings one.owed) number true) up steady.led in
    let coming : one.coming ≡ [] = elim steady.incoming.listens [ inl none ↦ none | inr listens ↦ (let stays = listens.stays in let leaves = leaving.leaves in cc) ] in
    let flow : sent one.told station.out ++ station.pieces ≡ [] =
    ap (λ (l : List Piece). sent one.told station.out ++ l) leaving.none_goes ∙ ap (λ (l : List Order). sent one.told l ++ []) first ∙ ap (λ (l : List Piece). l ++ []) (last.0 here) in (
      record {
        none_owed = ap events (led_on one.told (tidings one.owed) number told led);
        none_comes = ap (λ (l : List Piece). completions longest_pdu station.joining l) coming;
        said_all = λ on. record { none_waits = ap (λ (l : List Piece). flowing one.up one.begun l) flow ∙ flowing_none one.up one.begun; none_next = leaving.none_next };
      },
      leaving.leaves,
    )

and_first : (a b : Bool) → (a && b) ≡ true → a ≡ true
and_first true b is = refl
and_first false b is = cc

pub end_departs_a_by : {S T G H : Type 0} (U : Upper S G) (V : Upper T H) (w : World S T) (talk_a talk_b : List Talk) (handle : ℕ) (rest : List Order) (ends : Bool)
    → (ends ≡ true → (is_together w.radio.phase ≡ true) × (w.radio.a.up ≡ true) × (w.radio.a.told ≡ w.radio.number) × (handle ≡ w.radio.number))
    → w.a.out ≡ Ending handle ∷ rest → Kept U V w.radio w.a w.b w.pushes.going
    → Carried U V as_was as_was w (departed_a (if ends then parted 0x16 0x13 (answers_a w.radio.a.scan (Stated 0x0406 ∷ []) w.radio) else answers_a w.radio.a.scan (Stated 0x0406 ∷ []) w.radio) rest w) talk_a talk_b []
end_departs_a_by U V w talk_a talk_b handle rest false facts first kept =
    plain_departs_a U V w talk_a talk_b (Ending handle) rest w.radio.a.scan (Stated 0x0406 ∷ []) first refl (plain_tidings w.radio.a.owed (Stated 0x0406) refl) kept
end_departs_a_by {S} {T} U V w talk_a talk_b handle rest true facts first kept =
    let (link, up, told, here) = facts refl in
    let same = plain_tidings w.radio.a.owed (Stated 0x0406) refl in
    let radio = answers_a w.radio.a.scan (Stated 0x0406 ∷ []) w.radio in
    let plain = plain_a U V w.radio w.a w.b w.pushes.going (Ending handle) rest w.radio.a.scan w.radio.a.taken (w.radio.a.owed ++ Stated 0x0406 ∷ []) first refl same kept in
    let before = plain_same_a w.radio w.pushes w.a w.b talk_a talk_b (Ending handle) rest w.radio.a.scan w.radio.a.taken (w.radio.a.owed ++ Stated 0x0406 ∷ []) first refl same in
    let parting = partings U V radio w.pushes (record w.a { out = rest }) w.b talk_a talk_b 0x16 0x13 link plain in
    let steady = subst (λ (l : Bool). Steady U w.radio.number l (calling w.radio.phase) w.radio.a w.a) link kept.one in
    let first_is : w.a.out ≡ Ending w.radio.number ∷ rest = first ∙ ap (λ (n : ℕ). Ending n ∷ rest) here in
    let idle = ends_idle U w.radio.number (calling w.radio.phase) w.radio.a w.a talk_a rest first_is up told steady in
    let c : Carriage S T = at w talk_a talk_b in
    record {
      kept = parting.kept;
      doings = Falls A ∷ [];
      talk_a' = talk_a;
      talk_b' = talk_b;
      carries = (with_events false (Down 0x16) (Down 0x13) c, (link, idle.0, idle.1, refl), parting.new_is ∙ ap (λ (x : Carriage S T). with_events false (Down 0x16) (Down 0x13) x) before);
      words_are = refl;
      links_a = refl;
      links_b = refl;
    }

pub end_departs_b_by : {S T G H : Type 0} (U : Upper S G) (V : Upper T H) (w : World S T) (talk_a talk_b : List Talk) (handle : ℕ) (rest : List Order) (ends : Bool)
    → (ends ≡ true → (is_together w.radio.phase ≡ true) × (w.radio.b.up ≡ true) × (w.radio.b.told ≡ w.radio.number) × (handle ≡ w.radio.number))
    → w.b.out ≡ Ending handle ∷ rest → Kept U V w.radio w.a w.b w.pushes.going
    → Carried U V as_was as_was w (departed_b (if ends then parted 0x13 0x16 (answers_b w.radio.b.scan (Stated 0x0406 ∷ []) w.radio) else answers_b w.radio.b.scan (Stated 0x0406 ∷ []) w.radio) rest w) talk_a talk_b []
end_departs_b_by U V w talk_a talk_b handle rest false facts first kept =
    let same = plain_tidings w.radio.b.owed (Stated 0x0406) refl in
    silent U V w (departed_b (answers_b w.radio.b.scan (Stated 0x0406 ∷ []) w.radio) rest w) talk_a talk_b
    (plain_b U V w.radio w.a w.b w.pushes.going (Ending handle) rest w.radio.b.scan w.radio.b.taken (w.radio.b.owed ++ Stated 0x0406 ∷ []) first refl same kept)
    (plain_same_b w.radio w.pushes w.a w.b talk_a talk_b (Ending handle) rest w.radio.b.scan w.radio.b.taken (w.radio.b.owed ++ Stated 0x0406 ∷ []) first refl same)
end_departs_b_by {S} {T} U V w talk_a talk_b handle rest true facts first kept =
    let (link, up, told, here) = facts refl in
    let same = plain_tidings w.radio.b.owed (Stated 0x0406) refl in
    let radio = answers_b w.radio.b.scan (Stated 0x0406 ∷ []) w.radio in
    let plain = plain_b U V w.radio w.a w.b w.pushes.going (Ending handle) rest w.radio.b.scan w.radio.b.taken (w.radio.b.owed ++ Stated 0x0406 ∷ []) first refl same kept in
    let before = plain_same_b w.radio w.pushes w.a w.b talk_a talk_b (Ending handle) rest w.radio.b.scan w.radio.b.taken (w.radio.b.owed ++ Stated 0x0406 ∷ []) first refl same in
    let parting = partings U V radio w.pushes w.a (record w.b { out = rest }) talk_a talk_b 0x13 0x16 link plain in
    let steady = subst (λ (l : Bool). Steady V w.radio.number l 0 w.radio.b w.b) link kept.other in
    let first_is : w.b.out ≡ Ending w.radio.number ∷ rest = first ∙ ap (λ (n : ℕ). Ending n ∷ rest) here in
    let idle = ends_idle V w.radio.number 0 w.radio.b w.b talk_b rest first_is up told steady in
    let c : Carriage S T = at w talk_a talk_b in
    record {
      kept = parting.kept;
      doings = Falls B ∷ [];
      talk_a' = talk_a;
      talk_b' = talk_b;
      carries = (with_events false (Down 0x13) (Down 0x16) c, (link, idle.0, idle.1, refl), parting.new_is ∙ ap (λ (x : Carriage S T). with_events false (Down 0x13) (Down 0x16) x) before);
      words_are = refl;
      links_a = refl;
      links_b = refl;
    }

pub known : (together up : Bool) (told number handle : ℕ) → ((together && (up && (told == number))) && (handle == number)) ≡ true → (together ≡ true) × (up ≡ true) × (told ≡ number) × (handle ≡ number)
known together up told number handle is =
    let link = and_first (together && (up && (told == number))) (handle == number) is in
    let here = and_second (together && (up && (told == number))) (handle == number) is in
    let rest = and_second together (up && (told == number)) link in
    (and_first together (up && (told == number)) link, and_first up (told == number) rest, eqb-true told number (and_second up (told == number) rest), eqb-true handle number here)

-- ---- host b accepts

pub accept_departs_by : {S T G H : Type 0} (U : Upper S G) (V : Upper T H) (w : World S T) (talk_a talk_b : List Talk) (rest : List Order) (asked : Bool) → asked ≡ is_requested w.radio.phase
    → w.b.out ≡ Accept ∷ rest → Kept U V w.radio w.a w.b w.pushes.going
    → Carried U V as_was as_was w (departed_b (if asked then joined (answers_b w.radio.b.scan (Stated 0x0409 ∷ []) w.radio) else answers_b w.radio.b.scan (Stated 0x0409 ∷ []) w.radio) rest w) talk_a talk_b []
accept_departs_by U V w talk_a talk_b rest false is first kept =
    let same = plain_tidings w.radio.b.owed (Stated 0x0409) refl in
    silent U V w (departed_b (answers_b w.radio.b.scan (Stated 0x0409 ∷ []) w.radio) rest w) talk_a talk_b
    (plain_b U V w.radio w.a w.b w.pushes.going Accept rest w.radio.b.scan w.radio.b.taken (w.radio.b.owed ++ Stated 0x0409 ∷ []) first refl same kept)
    (plain_same_b w.radio w.pushes w.a w.b talk_a talk_b Accept rest w.radio.b.scan w.radio.b.taken (w.radio.b.owed ++ Stated 0x0409 ∷ []) first refl same)
accept_departs_by {S} {T} U V w talk_a talk_b rest true is first kept =
    let same = plain_tidings w.radio.b.owed (Stated 0x0409) refl in
    let radio = answers_b w.radio.b.scan (Stated 0x0409 ∷ []) w.radio in
    let plain = plain_b U V w.radio w.a w.b w.pushes.going Accept rest w.radio.b.scan w.radio.b.taken (w.radio.b.owed ++ Stated 0x0409 ∷ []) first refl same kept in
    let before = plain_same_b w.radio w.pushes w.a w.b talk_a talk_b Accept rest w.radio.b.scan w.radio.b.taken (w.radio.b.owed ++ Stated 0x0409 ∷ []) first refl same in
    let counted : count w.b.out ≡ 1 + count rest = ap (λ (l : List Order). count l) first in
    let few = kept.other.awaits.few in
    let made_same : made (tidings radio.b.owed) ≡ made (tidings w.radio.b.owed) = ap made same in
    let join = joins U V radio w.pushes w.a (record w.b { out = rest }) talk_a talk_b (sym is) (omega arith) (kept.other.awaits.awaited (omega arith)) plain in
    let c : Carriage S T = at w talk_a talk_b in
    record {
      kept = join.kept;
      doings = Rises ∷ [];
      talk_a' = talk_a;
      talk_b' = talk_b;
      carries = (with_events true Up Up c, (join.down, join.idle, join.going, join.wants, refl), join.new_is ∙ ap (λ (x : Carriage S T). with_events true Up Up x) before);
      words_are = refl;
      links_a = refl;
      links_b = refl;
    }

-- ---- a piece moves

pub proceeds_a : {S T G H : Type 0} (U : Upper S G) (V : Upper T H) (by : Linkage → Linkage) (w : World S T) (talk_a talk_b : List Talk) (one : Controller) (station : Station S)
    → (proceeds : Proceeds U by w.radio.number (is_together w.radio.phase) (calling w.radio.phase) w.radio.a w.a talk_a one station) → Kept U V (record w.radio { a = one }) station w.b w.pushes.going
    → Carried U V by as_was w (record w { radio = record w.radio { a = one }; a = station }) talk_a talk_b []
proceeds_a U V by w talk_a talk_b one station proceeds kept = record {
  kept = kept;
  doings = map (Moved A) proceeds.motions;
  talk_a' = proceeds.talk';
  talk_b' = talk_b;
  carries = along_a U V proceeds.motions (end_of w.radio.a w.a talk_a) (end_of one station proceeds.talk') (at w talk_a talk_b) proceeds.goes;
  words_are = no_words A proceeds.motions;
  links_a = proceeds.links;
  links_b = refl;
}

pub proceeds_b : {S T G H : Type 0} (U : Upper S G) (V : Upper T H) (by : Linkage → Linkage) (w : World S T) (talk_a talk_b : List Talk) (one : Controller) (station : Station T)
    → (proceeds : Proceeds V by w.radio.number (is_together w.radio.phase) 0 w.radio.b w.b talk_b one station) → Kept U V (record w.radio { b = one }) w.a station w.pushes.going
    → Carried U V as_was by w (record w { radio = record w.radio { b = one }; b = station }) talk_a talk_b []
proceeds_b U V by w talk_a talk_b one station proceeds kept = record {
  kept = kept;
  doings = map (Moved B) proceeds.motions;
  talk_a' = talk_a;
  talk_b' = proceeds.talk';
  carries = along_b U V proceeds.motions (end_of w.radio.b w.b talk_b) (end_of one station proceeds.talk') (at w talk_a talk_b) proceeds.goes;
  words_are = no_words B proceeds.motions;
  links_a = refl;
  links_b = proceeds.links;
}

-- a piece that is on the link that its host knows of, or not
on_by : (flies ours : Bool) (handle : ℕ) (one : Controller) (piece : Piece) → (one.up && (handle == one.told)) ≡ ours → with_piece flies (piece_on one handle piece) one ≡ with_piece flies (if ours then Some piece else None) one
on_by flies ours handle one piece is = ap (λ (b : Bool). with_piece flies (if b then Some piece else None) one) is

stale_or : (up : Bool) (handle told : ℕ) (piece : Piece) → (up && (handle == told)) ≡ false → (up ≡ false) ⊎ (piece_at told (Data handle piece) ≡ [])
stale_or true handle told piece is = inr (ap (λ (b : Bool). if b then piece ∷ [] else []) is)
stale_or false handle told piece is = inl refl

abbrev controller_after : Bool → ℕ → Piece → Controller → Controller
controller_after flies handle piece one = after_taking handle (with_piece flies (piece_on one handle piece) one)

pub data_departs_a : {S T G H : Type 0} (U : Upper S G) (V : Upper T H) (w : World S T) (talk_a talk_b : List Talk) (handle : ℕ) (piece : Piece) (rest : List Order) (ours : Bool) → (w.radio.a.up && (handle == w.radio.a.told)) ≡ ours
    → w.a.out ≡ Data handle piece ∷ rest → Kept U V w.radio w.a w.b w.pushes.going
    → Carried U V (said_by ours (gives frame_limit w.radio.a.begun piece)) as_was w (departed_a (record w.radio { a = controller_after (knows_link A w.radio) handle piece w.radio.a }) rest w) talk_a talk_b []
data_departs_a {S} {T} U V w talk_a talk_b handle piece rest true is first kept =
    let flies = knows_link A w.radio in
    let up = and_first w.radio.a.up (handle == w.radio.a.told) is in
    let here : handle ≡ w.radio.a.told = eqb-true handle w.radio.a.told (and_second w.radio.a.up (handle == w.radio.a.told) is) in
    let with : Controller = record w.radio.a { begun = holds _ w.radio.a.begun piece; waiting = lands flies w.radio.a.waiting (gives _ w.radio.a.begun piece) } in
    let took = takes_packet handle with in
    let after : taken_by flies w.radio.a piece took.taken took.owed ≡ controller_after flies handle piece w.radio.a =
    sym (ap (λ (c : Controller). after_taking handle c) (on_by flies true handle w.radio.a piece is ∙ with_piece_is flies w.radio.a piece) ∙ took.is) in
    let proceeds = piece_departs U w.radio.number (is_together w.radio.phase) (calling w.radio.phase) flies w.radio.a w.a talk_a piece rest took.taken took.owed up refl (first ∙ ap (λ (n : ℕ). Data n piece ∷ rest) here) took.same kept.one in
    let counted : count w.a.out ≡ 0 + count rest = ap (λ (l : List Order). count l) first in
    subst (λ (c : Controller). Carried U V (said_more (gives frame_limit w.radio.a.begun piece)) as_was w (departed_a (record w.radio { a = c }) rest w) talk_a talk_b []) after
    (proceeds_a U V (said_more (gives frame_limit w.radio.a.begun piece)) w talk_a talk_b (taken_by flies w.radio.a piece took.taken took.owed) (record w.a { out = rest }) proceeds (record {
      long = kept.long;
      one = proceeds.steady;
      other = kept.other;
      calls = λ some. kept.calls (omega arith);
      parts = λ called. let parts = kept.parts called in record { off_a = parts.off_a; off_b = parts.off_b; told_a = parts.told_a; told_b = parts.told_b };
      rests = λ still. let rests = kept.rests still in record { idle = rests.idle; uncalled = rests.uncalled; separate = rests.separate; none_a = took.same ∙ rests.none_a; none_b = rests.none_b };
    }))
data_departs_a {S} {T} U V w talk_a talk_b handle piece rest false is first kept =
    let flies = knows_link A w.radio in
    let took = takes_packet handle w.radio.a in
    let after : aside w.radio.a.scan took.taken took.owed w.radio.a ≡ controller_after flies handle piece w.radio.a =
    sym (ap (λ (c : Controller). after_taking handle c) (on_by flies false handle w.radio.a piece is ∙ with_none_is flies w.radio.a) ∙ took.is) in
    let counted : count w.a.out ≡ 0 + count rest = ap (λ (l : List Order). count l) first in
    subst (λ (c : Controller). Carried U V as_was as_was w (departed_a (record w.radio { a = c }) rest w) talk_a talk_b []) after
    (elim (stale_or w.radio.a.up handle w.radio.a.told piece is) [
      | inl off ↦
          silent U V w (departed_a (record w.radio { a = aside w.radio.a.scan took.taken took.owed w.radio.a }) rest w) talk_a talk_b
          (record {
            long = kept.long;
            one = aside_steady U w.radio.number (is_together w.radio.phase) (calling w.radio.phase) w.radio.a (record w.a { out = rest }) w.radio.a.scan took.taken took.owed took.same
                (stale_steady U w.radio.number (is_together w.radio.phase) (calling w.radio.phase) w.radio.a w.a handle piece rest first off kept.one);
            other = kept.other;
            calls = λ some. kept.calls (omega arith);
            parts = λ called. let parts = kept.parts called in record { off_a = parts.off_a; off_b = parts.off_b; told_a = parts.told_a; told_b = parts.told_b };
            rests = λ still. let rests = kept.rests still in record { idle = rests.idle; uncalled = rests.uncalled; separate = rests.separate; none_a = took.same ∙ rests.none_a; none_b = rests.none_b };
          })
          (ap (λ (x : End S). record (at w talk_a talk_b) { a = x }) (aside_same w.radio.a (record w.a { out = rest }) talk_a w.radio.a.scan took.taken took.owed took.same ∙ stale_same w.radio.a w.a talk_a rest off))
      | inr none ↦
          silent U V w (departed_a (record w.radio { a = aside w.radio.a.scan took.taken took.owed w.radio.a }) rest w) talk_a talk_b
          (plain_a U V w.radio w.a w.b w.pushes.going (Data handle piece) rest w.radio.a.scan took.taken took.owed first none took.same kept)
          (plain_same_a w.radio w.pushes w.a w.b talk_a talk_b (Data handle piece) rest w.radio.a.scan took.taken took.owed first none took.same)
    ])

pub data_departs_b : {S T G H : Type 0} (U : Upper S G) (V : Upper T H) (w : World S T) (talk_a talk_b : List Talk) (handle : ℕ) (piece : Piece) (rest : List Order) (ours : Bool) → (w.radio.b.up && (handle == w.radio.b.told)) ≡ ours
    → w.b.out ≡ Data handle piece ∷ rest → Kept U V w.radio w.a w.b w.pushes.going
    → Carried U V as_was (said_by ours (gives frame_limit w.radio.b.begun piece)) w (departed_b (record w.radio { b = controller_after (knows_link B w.radio) handle piece w.radio.b }) rest w) talk_a talk_b []
data_departs_b {S} {T} U V w talk_a talk_b handle piece rest true is first kept =
    let flies = knows_link B w.radio in
    let up = and_first w.radio.b.up (handle == w.radio.b.told) is in
    let here : handle ≡ w.radio.b.told = eqb-true handle w.radio.b.told (and_second w.radio.b.up (handle == w.radio.b.told) is) in
    let with : Controller = record w.radio.b { begun = holds _ w.radio.b.begun piece; waiting = lands flies w.radio.b.waiting (gives _ w.radio.b.begun piece) } in
    let took = takes_packet handle with in
    let after : taken_by flies w.radio.b piece took.taken took.owed ≡ controller_after flies handle piece w.radio.b =
    sym (ap (λ (c : Controller). after_taking handle c) (on_by flies true handle w.radio.b piece is ∙ with_piece_is flies w.radio.b piece) ∙ took.is) in
    let proceeds = piece_departs V w.radio.number (is_together w.radio.phase) 0 flies w.radio.b w.b talk_b piece rest took.taken took.owed up refl (first ∙ ap (λ (n : ℕ). Data n piece ∷ rest) here) took.same kept.other in
    subst (λ (c : Controller). Carried U V as_was (said_more (gives frame_limit w.radio.b.begun piece)) w (departed_b (record w.radio { b = c }) rest w) talk_a talk_b []) after
    (proceeds_b U V (said_more (gives frame_limit w.radio.b.begun piece)) w talk_a talk_b (taken_by flies w.radio.b piece took.taken took.owed) (record w.b { out = rest }) proceeds (record {
      long = kept.long;
      one = kept.one;
      other = proceeds.steady;
      calls = kept.calls;
      parts = λ called. let parts = kept.parts called in record { off_a = parts.off_a; off_b = parts.off_b; told_a = parts.told_a; told_b = parts.told_b };
      rests = λ still. let rests = kept.rests still in record { idle = rests.idle; uncalled = rests.uncalled; separate = rests.separate; none_a = rests.none_a; none_b = took.same ∙ rests.none_b };
    }))
data_departs_b {S} {T} U V w talk_a talk_b handle piece rest false is first kept =
    let flies = knows_link B w.radio in
    let took = takes_packet handle w.radio.b in
    let after : aside w.radio.b.scan took.taken took.owed w.radio.b ≡ controller_after flies handle piece w.radio.b =
    sym (ap (λ (c : Controller). after_taking handle c) (on_by flies false handle w.radio.b piece is ∙ with_none_is flies w.radio.b) ∙ took.is) in
    subst (λ (c : Controller). Carried U V as_was as_was w (departed_b (record w.radio { b = c }) rest w) talk_a talk_b []) after
    (elim (stale_or w.radio.b.up handle w.radio.b.told piece is) [
      | inl off ↦
          silent U V w (departed_b (record w.radio { b = aside w.radio.b.scan took.taken took.owed w.radio.b }) rest w) talk_a talk_b
          (record {
            long = kept.long;
            one = kept.one;
            other = aside_steady V w.radio.number (is_together w.radio.phase) 0 w.radio.b (record w.b { out = rest }) w.radio.b.scan took.taken took.owed took.same
                (stale_steady V w.radio.number (is_together w.radio.phase) 0 w.radio.b w.b handle piece rest first off kept.other);
            calls = kept.calls;
            parts = λ called. let parts = kept.parts called in record { off_a = parts.off_a; off_b = parts.off_b; told_a = parts.told_a; told_b = parts.told_b };
            rests = λ still. let rests = kept.rests still in record { idle = rests.idle; uncalled = rests.uncalled; separate = rests.separate; none_a = rests.none_a; none_b = took.same ∙ rests.none_b };
          })
          (ap (λ (x : End T). record (at w talk_a talk_b) { b = x }) (aside_same w.radio.b (record w.b { out = rest }) talk_b w.radio.b.scan took.taken took.owed took.same ∙ stale_same w.radio.b w.b talk_b rest off))
      | inr none ↦
          silent U V w (departed_b (record w.radio { b = aside w.radio.b.scan took.taken took.owed w.radio.b }) rest w) talk_a talk_b
          (plain_b U V w.radio w.a w.b w.pushes.going (Data handle piece) rest w.radio.b.scan took.taken took.owed first none took.same kept)
          (plain_same_b w.radio w.pushes w.a w.b talk_a talk_b (Data handle piece) rest w.radio.b.scan took.taken took.owed first none took.same)
    ])
