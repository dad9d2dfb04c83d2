-- In each run of turns a host hears and says PDUs only while it has a link; so the capture has on each link what was heard of it.
use Rattle.std.proofs.Common.{◌≡◌, ℕ, Bool, true, false, List, [], ◌∷◌, ◌++◌, map, take, drop, Option, Some, None, if◌then◌else◌, refl, sym, ap, ◌∙◌, subst}
use Rattle.std.specs.Prelude.{option_to_list}
use Rattle.std.specs.Option.{option_map}
use Rattle.std.proofs.lemmas.List.{map-append}
use Rattle.turn_laws.specs.push_terms.specs.declared.word.Side.{Side}
use Rattle.turn_laws.specs.push_terms.specs.declared.word.Side.TheVariants.{A, B}
use Rattle.turn_laws.specs.push_terms.specs.declared.word.Way.TheVariants.{Ab, Ba}
use Rattle.turn_laws.specs.push_terms.specs.declared.outcome.Outcome.{Outcome}
use Rattle.turn_laws.specs.capture.specs.Entries.{Entry}
use Rattle.turn_laws.specs.capture.specs.Links.{Link, linking}
use Rattle.turn_laws.specs.capture.specs.Moves.{moves}
use Rattle.turn_laws.specs.capture.specs.Pdus.{Pdu, pdus}
use Rattle.turn_laws.specs.radio_model.specs.declared.fate.Fate.{Fate}
use Rattle.turn_laws.specs.radio_model.specs.declared.deed.Deed.{Deed}
use Rattle.turn_laws.specs.radio_model.specs.declared.deed.Deed.TheVariants.{Nothing, Meets, Fires, FiresBoth, Breaks, Cancels}
use Rattle.turn_laws.specs.radio_model.specs.Fates.{comes_of}
use Rattle.turn_laws.specs.world_model.specs.Machines.{Up, Down, News, Linked, Failed, Heard, TimerFired, Cancelled, Opening, Upper, drain, all_said, Breath, Whole, Short, Reaction}
use Rattle.turn_laws.specs.world_model.specs.Talks.{Talk, Told, Said, Unsent, Met, Done}
use Rattle.turn_laws.specs.world_model.specs.Turns.{Party, Pair, speaks_on, hears, notes, receives, event_heard, with_talk, Step, Turn, Idle, Rise, Fall, Began, Ended, Hands, Acts, Moves, found, Passes, first_pair}
use Rattle.turn_laws.specs.world_model.specs.PerLink.{PerLink, none_yet, Linkage, no_linkage, linkage, captured, heard_in, flown_in}
use Rattle.turn_laws.specs.world_model.specs.Worlds.{all_entries}
use Rattle.turn_laws.proofs.Advancing.{breaks_linked}
use Rattle.turn_laws.proofs.Linking.{hears_what_was_said}
use Rattle.turn_laws.proofs.Recounting.{world_is_turned}
use Rattle.air_laws.specs.Heard.{EachComes, all_pdus, LinksAreHeard}
use Rattle.air_laws.proofs.Hearkening.{Leads, flies_all, Hears, hears_all, list_of, each_link}

-- ---- talk that goes on

leads_append : (one two : List Talk) (up mid after : Bool) → Leads up one mid → Leads mid two after → Leads up (one ++ two) after
leads_append [] two up mid after leads more = subst (λ (b : Bool). Leads b two after) leads more
leads_append (Told (Linked Up) ∷ one) two up mid after leads more = (leads.0, leads_append one two true mid after leads.1 more)
leads_append (Told (Linked (Down reason)) ∷ one) two up mid after leads more = (leads.0, leads_append one two false mid after leads.1 more)
leads_append (Told (Heard pdu) ∷ one) two up mid after leads more = (leads.0, leads_append one two up mid after leads.1 more)
leads_append (Said pdu ∷ one) two up mid after leads more = (leads.0, leads_append one two up mid after leads.1 more)
leads_append (Met fate checked ∷ one) two up mid after leads more = leads_append one two up mid after leads more
leads_append (Told (Failed status) ∷ one) two up mid after leads more = leads_append one two up mid after leads more
leads_append (Told TimerFired ∷ one) two up mid after leads more = leads_append one two up mid after leads more
leads_append (Told Cancelled ∷ one) two up mid after leads more = leads_append one two up mid after leads more
leads_append (Told (Opening name) ∷ one) two up mid after leads more = leads_append one two up mid after leads more
leads_append (Unsent pdu ∷ one) two up mid after leads more = leads_append one two up mid after leads more
leads_append (Done outcome ∷ one) two up mid after leads more = leads_append one two up mid after leads more

leads_said : (pdus : List (List ℕ)) → Leads true (map Said pdus) true
leads_said [] = refl
leads_said (pdu ∷ pdus) = (refl, leads_said pdus)

leads_unsent : (pdus : List (List ℕ)) → Leads true (map Unsent pdus) true
leads_unsent [] = refl
leads_unsent (pdu ∷ pdus) = leads_unsent pdus

-- ---- one host

-- its talk keeps to its links, and nothing of it is in the air while there is none
record Keeps {S : Type 0} (link : Bool) (p : Party S) : Type 0 where
  leads : Leads false p.talk link
  quiet : link ≡ false → p.queue ≡ []

speaks_kept : {S G : Type 0} (U : Upper S G) (link : Bool) (breath : Breath) (p : Party S) → Keeps link p → Keeps link (speaks_on U link breath [] p)
speaks_kept U true Whole p keeps = record { leads = leads_append p.talk (map Said (all_said U p.upper).said) false true true keeps.leads (leads_said (all_said U p.upper).said); quiet = λ off. absurd cc }
speaks_kept U true (Short moved asked) p keeps =
    let out : List (List ℕ) = take moved (drain U asked p.upper).said in
    let left : List (List ℕ) = drop moved (drain U asked p.upper).said in
    record {
      leads = leads_append p.talk (map Said out ++ map Unsent left) false true true keeps.leads (leads_append (map Said out) (map Unsent left) true true true (leads_said out) (leads_unsent left));
      quiet = λ off. absurd cc;
    }
speaks_kept U false breath p keeps = keeps

-- what is told of no link, or a PDU while there is one
abbrev IsFit : Bool → News → Type 0
IsFit link (Linked event) = ⊥
IsFit link (Heard pdu) = link ≡ true
IsFit link news = Unit {0}

fit_leads : (link : Bool) (news : News) → IsFit link news → Leads link (Told news ∷ []) link
fit_leads link (Linked event) fit = absurd fit
fit_leads link (Heard pdu) fit = (fit, refl)
fit_leads link (Failed status) fit = refl
fit_leads link TimerFired fit = refl
fit_leads link Cancelled fit = refl
fit_leads link (Opening name) fit = refl

notes_kept : {S G : Type 0} (U : Upper S G) (link : Bool) (answers : List G) (news : News) (p : Party S) → IsFit link news → Keeps link p → Keeps link (notes U answers news p)
notes_kept U link answers news p fit keeps = record { leads = leads_append p.talk (Told news ∷ []) false link link keeps.leads (fit_leads link news fit); quiet = keeps.quiet }

hears_kept : {S G : Type 0} (U : Upper S G) (link : Bool) (reaction : Reaction G) (news : News) (p : Party S) → IsFit link news → Keeps link p → Keeps link (hears U link reaction news p)
hears_kept U link reaction news p fit keeps = speaks_kept U link reaction.breath (notes U reaction.answers news p) (notes_kept U link reaction.answers news p fit keeps)

receives_kept : {S G : Type 0} (U : Upper S G) (link : Bool) (reaction : Reaction G) (pdus : List (List ℕ)) (p : Party S) → link ≡ true → Keeps link p → Keeps link (receives U link reaction pdus p)
receives_kept U link reaction [] p on keeps = keeps
receives_kept U link reaction (pdu ∷ more) p on keeps = hears_kept U link reaction (Heard pdu) p on keeps

up_kept : {S G : Type 0} (U : Upper S G) (reaction : Reaction G) (p : Party S) → Keeps false p → Keeps true (event_heard U Up reaction p)
up_kept U reaction p keeps =
    speaks_kept U true reaction.breath (notes U reaction.answers (Linked Up) p) (record { leads = leads_append p.talk (Told (Linked Up) ∷ []) false false true keeps.leads (refl, refl); quiet = λ off. absurd cc })

down_kept : {S G : Type 0} (U : Upper S G) (reason : ℕ) (reaction : Reaction G) (p : Party S) → Keeps true p → Keeps false (event_heard U (Down reason) reaction p)
down_kept U reason reaction p keeps = record { leads = leads_append p.talk (Told (Linked (Down reason)) ∷ []) false true false keeps.leads (refl, refl); quiet = λ off. refl }

fires_by : {S G : Type 0} (U : Upper S G) (link armed : Bool) (reaction : Reaction G) (p : Party S) → Keeps link p → Keeps link (if armed then hears U link reaction TimerFired p else p)
fires_by U link true reaction p keeps = hears_kept U link reaction TimerFired p tt keeps
fires_by U link false reaction p keeps = keeps

done_kept : {S : Type 0} (link : Bool) (outcome : Outcome) (p : Party S) → Keeps link p → Keeps link (with_talk (Done outcome) p)
done_kept link outcome p keeps = record { leads = leads_append p.talk (Done outcome ∷ []) false link link keeps.leads refl; quiet = keeps.quiet }

-- ---- both hosts

record BothKeep {S T : Type 0} (pair : Pair S T) : Type 0 where
  a : Keeps pair.link pair.a
  b : Keeps pair.link pair.b

frame_linked : {S : Type 0} (link : Bool) (p : Party S) (frame : List ℕ) (rest : List (List ℕ)) → p.queue ≡ frame ∷ rest → Keeps link p → link ≡ true
frame_linked true p frame rest is keeps = refl
frame_linked false p frame rest is keeps = let none = keeps.quiet refl in absurd cc

never_off : (link : Bool) (P : Type 0) → link ≡ true → link ≡ false → P
never_off true P on off = absurd cc
never_off false P on off = absurd cc

record HandsKept {S T : Type 0} (link : Bool) (p : Party S) (q : Party T) : Type 0 where
  one : Keeps link p
  other : Keeps link q

hands_kept : {S T H : Type 0} (V : Upper T H) (size : ℕ) (link : Bool) (fate : Fate) (p : Party S) (q : Party T) (p' : Party S) (q' : Party T) → Hands V size link fate p q p' q' → Keeps link p → Keeps link q → HandsKept link p' q'
hands_kept V size link fate p q p' q' hands one other =
    let on = frame_linked link p hands.frame hands.rest hands.is one in
    rw (hands.one_is, hands.other_is) (record {
      one = record { leads = leads_append p.talk (Met fate hands.checked ∷ []) false link link one.leads refl; quiet = λ off. never_off link _ on off };
      other = receives_kept V link hands.reaction (comes_of size fate hands.checked hands.frame) q on other;
    })

on_keeps : {S : Type 0} (link : Bool) (p : Party S) → link ≡ true → Keeps link p → Keeps true p
on_keeps {S} link p on keeps = subst (λ (b : Bool). Keeps b p) on keeps

off_keeps : {S : Type 0} (link : Bool) (p : Party S) → link ≡ false → Keeps link p → Keeps false p
off_keeps {S} link p off keeps = subst (λ (b : Bool). Keeps b p) off keeps

acts_keep : {S T G H : Type 0} (U : Upper S G) (V : Upper T H) (deed : Deed) (old new : Pair S T) → (deed ≡ Breaks → old.link ≡ true) → Acts U V deed old new → BothKeep old → BothKeep new
acts_keep U V Nothing old new linked acts keeps = absurd acts
acts_keep U V (Meets Ab fate) old new linked (p, q, hands, same) keeps = let kept = hands_kept V old.size old.link fate old.a old.b p q hands keeps.a keeps.b in rw same (record { a = kept.one; b = kept.other })
acts_keep U V (Meets Ba fate) old new linked (p, q, hands, same) keeps = let kept = hands_kept U old.size old.link fate old.b old.a q p hands keeps.b keeps.a in rw same (record { a = kept.other; b = kept.one })
acts_keep U V (Fires A) old new linked (armed, r, same) keeps = rw same (record { a = hears_kept U old.link r TimerFired old.a tt keeps.a; b = keeps.b })
acts_keep U V (Fires B) old new linked (armed, s, same) keeps = rw same (record { a = keeps.a; b = hears_kept V old.link s TimerFired old.b tt keeps.b })
acts_keep U V FiresBoth old new linked (armed, r, s, same) keeps = rw same (record { a = fires_by U old.link (U.armed old.a.upper) r old.a keeps.a; b = fires_by V old.link (V.armed old.b.upper) s old.b keeps.b })
acts_keep U V Breaks old new linked (r, s, same) keeps =
    rw same (record { a = down_kept U 0x08 r old.a (on_keeps old.link old.a (linked refl) keeps.a); b = down_kept V 0x08 s old.b (on_keeps old.link old.b (linked refl) keeps.b) })
acts_keep U V Cancels old new linked (may, r, same) keeps = rw same (record { a = hears_kept U old.link r Cancelled old.a tt keeps.a; b = keeps.b })

moves_keep : {S T G H : Type 0} (U : Upper S G) (V : Upper T H) (step : Step) (old new : Pair S T) → Moves U V step old new → BothKeep old → BothKeep new
moves_keep U V (Turn word) old new (calm, acts) keeps = acts_keep U V (found word old) old new (breaks_linked word old.served old.a.queue old.b.queue old.link) acts keeps
moves_keep U V (Idle word) old new (calm, nothing, same) keeps = rw same keeps
moves_keep U V Rise old new (off, going, wants, r, s, same) keeps = rw same (record { a = up_kept U r old.a (off_keeps old.link old.a off keeps.a); b = up_kept V s old.b (off_keeps old.link old.b off keeps.b) })
moves_keep U V (Fall A) old new (on, leaves, whole, r, s, same) keeps = rw same (record { a = down_kept U 0x16 r old.a (on_keeps old.link old.a on keeps.a); b = down_kept V 0x13 s old.b (on_keeps old.link old.b on keeps.b) })
moves_keep U V (Fall B) old new (on, leaves, whole, r, s, same) keeps = rw same (record { a = down_kept U 0x13 r old.a (on_keeps old.link old.a on keeps.a); b = down_kept V 0x16 s old.b (on_keeps old.link old.b on keeps.b) })
moves_keep U V (Began name) old new (off, idle, next, r, same) keeps = rw same (record { a = notes_kept U old.link r.answers (Opening name) old.a tt keeps.a; b = keeps.b })
moves_keep U V (Ended outcome) old new (off, going, idle, is, same) keeps = rw same (record { a = done_kept old.link outcome old.a keeps.a; b = keeps.b })

passes_keep : {S T G H : Type 0} (U : Upper S G) (V : Upper T H) (steps : List Step) (old new : Pair S T) → Passes U V steps old new → BothKeep old → BothKeep new
passes_keep U V [] old new same keeps = rw same keeps
passes_keep U V (step ∷ steps) old new (mid, moves, passes) keeps = passes_keep U V steps mid new passes (moves_keep U V step old mid moves keeps)

-- ---- the capture

list_by : (past : List Link) (up : Option Link) → map pdus past ++ option_to_list (option_map pdus up) ≡ map pdus (past ++ option_to_list up)
list_by past None = sym (map-append pdus past [])
list_by past (Some link) = sym (map-append pdus past (link ∷ []))

captured_list : (side : Side) (entries : List Entry) (l : Linkage) → l ≡ captured side entries → list_of l ≡ all_pdus side entries
captured_list side entries l is = ap list_of is ∙ list_by (linking (moves side entries)).past (linking (moves side entries)).up

one_way : (size : ℕ) (link : Bool) (said told : List Talk) → Leads false said link → Leads false told link → heard_in told ≡ (flown_in size said).over → EachComes size (list_of (linkage said)) (list_of (linkage told))
one_way size link said told leads other same =
    let flies = flies_all size said false link (record { air = []; over = none_yet }) no_linkage leads (record { all = []; none = refl; is = refl; each = tt }) in
    let hears = hears_all told false link none_yet no_linkage other refl in
    each_link size link (flown_in size said) (linkage said).past (linkage told).past (linkage said).up (linkage told).up flies (subst (λ (p : PerLink). Hears link p (linkage told).past (linkage told).up) same hears)

both_as : (size : ℕ) (one two said told : List (List Pdu)) → one ≡ said → two ≡ told → EachComes size one two → EachComes size said told
both_as size one two said told first second each = subst (λ (l : List (List Pdu)). EachComes size l told) first (subst (λ (l : List (List Pdu)). EachComes size one l) second each)

pub links_are_heard : {S T G H : Type 0} (U : Upper S G) (V : Upper T H) → LinksAreHeard U V
links_are_heard U V size count names happenings w fits runs rest =
    let turned = world_is_turned U V size count names happenings w fits runs rest in
    let keeps = passes_keep U V turned.steps (first_pair U V size names) turned.pair turned.passes (record { a = record { leads = refl; quiet = λ off. refl }; b = record { leads = refl; quiet = λ off. refl } }) in
    let hears = hears_what_was_said U V size names turned.steps turned.pair turned.passes in
    let a = captured_list A (all_entries happenings) (linkage turned.pair.a.talk) turned.links_a in
    let b = captured_list B (all_entries happenings) (linkage turned.pair.b.talk) turned.links_b in (
      both_as size _ _ _ _ a b (one_way size turned.pair.link turned.pair.a.talk turned.pair.b.talk keeps.a.leads keeps.b.leads hears.0),
      both_as size _ _ _ _ b a (one_way size turned.pair.link turned.pair.b.talk turned.pair.a.talk keeps.b.leads keeps.a.leads hears.1),
    )
