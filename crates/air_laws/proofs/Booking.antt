-- What happens in the world keeps the accounts of both hosts.
use Rattle.std.proofs.Common.{◌≡◌, ℕ, ◌+◌, ◌-◌, ◌≤◌, ◌==◌, ◌&&◌, nat_le, min, Bool, true, false, List, [], ◌∷◌, ◌++◌, length, drop, Option, Some, None, is_none, if◌then◌else◌, refl, sym, ap, ◌∙◌, subst, arith}
use Rattle.std.specs.Prelude.{sum_by}
use Rattle.std.proofs.lemmas.Bool.{eq-eqb, eqb-true, le-leb, leb-true}
use Rattle.byteorder.specs.Endian.{little_number}
use Rattle.turn_laws.specs.h4_framing.specs.Packets.{Packet}
use Rattle.turn_laws.specs.hci_packets.specs.Events.{event_refusal, event_params}
use Rattle.turn_laws.specs.acl_credits.specs.Histories.{BufferEvent, Completed}
use Rattle.turn_laws.specs.push_terms.specs.declared.word.Side.{Side}
use Rattle.turn_laws.specs.capture.specs.declared.flow.Flow.TheVariants.{Into}
use Rattle.turn_laws.specs.capture.specs.Entries.{Entry}
use Rattle.turn_laws.specs.capture.specs.Links.{Link, NoNews, link_up}
use Rattle.turn_laws.specs.capture.specs.Buffers.{events, outstanding_on_link, outstanding_of, all_outstanding}
use Rattle.turn_laws.specs.radio_model.specs.Controllers.{Answer, Returned, Stated, Called, LinkMade, LinkGone, GivenBack, Controller, event_of, answer_packet, after_telling}
use Rattle.turn_laws.specs.radio_model.specs.Owed.{back_by, back}
use Rattle.turn_laws.specs.radio_model.specs.Honest.{sent_on, completed_on, all_sent, all_completed}
use Rattle.turn_laws.specs.world_model.specs.Machines.{Upper}
use Rattle.turn_laws.specs.world_model.specs.Stations.{Accept, Station, learns, is_handle, may_accept, hears_answer}
use Rattle.turn_laws.proofs.Showing.{no-news, made-news}
use Rattle.turn_laws.proofs.Wiring.{sent, sent_above, Within}
use Rattle.turn_laws.proofs.Leading.{Came, Went, tidings, Led, led_low}
use Rattle.turn_laws.proofs.Stationing.{linked_handle, Steady, off_link}
use Rattle.turn_laws.proofs.Hearing.{with_owed, handle_is}
use Rattle.turn_laws.proofs.Coming.{owed_first}
use Rattle.air_laws.proofs.Knowing.{OnLink, Known, IsNextLink}
use Rattle.air_laws.proofs.Counting.{own, sent_more, completed_more, back_events, held_with, plain_held, ended_held, made_held}
use Rattle.air_laws.proofs.Owing.{AllFit, all_more, back_above, keeps_of, zero_held, Else}
use Rattle.air_laws.proofs.Accounting.{Account, books_plain, account_same}

abbrev pub AccountOf : {S : Type 0} → ℕ → Side → List Entry → Controller → Station S → Type 0
AccountOf limit side past one station = Account limit side past one station.out station.outstanding station.total

-- ---- an answer that tells of no link and gives nothing back

answer_else : (limit : ℕ) (one : Controller) (answer : Answer) (rest : List Answer) → one.owed ≡ answer ∷ rest → ((handle : ℕ) → back_by handle answer ≡ 0) → Else limit one (with_owed rest one)
answer_else limit one answer rest first none = record {
  told = refl;
  up = refl;
  taken = refl;
  fits = λ all. let both : AllFit limit one.told (answer ∷ rest) = subst (λ (l : List Answer). AllFit limit one.told l) first all in both.1;
  keeps = λ handle. let zero_is = none handle in let all = ap (λ (l : List Answer). back handle l) first in omega arith;
}

-- one that learns its buffers while no link is up
learn_by : {S : Type 0} (limit : ℕ) (side : Side) (past : List Entry) (one : Controller) (station : Station S) (buffers some : Bool) (size total : ℕ) → (buffers ≡ true → some ≡ true → (one.up ≡ false) × (total ≤ limit)) → AccountOf limit side past one station
    → AccountOf limit side past one (if buffers then (if some then record station { size = min size 1021; total = min total 64 } else station) else station)
learn_by limit side past one station true true size total learns account =
    let may = learns refl refl in
    let low = may.1 in
    let none = (account.off may.0).0 in
    record {
      honest = account.honest;
      few = account.few;
      fits = account.fits;
      on = account.on;
      holds = account.holds;
      off = account.off;
      within = omega arith;
      total_is = omega arith;
    }
learn_by limit side past one station true false size total learns account = account
learn_by limit side past one station false some size total learns account = account

none_is : (link : Option ℕ) → is_none link ≡ true → link ≡ None
none_is None is = refl
none_is (Some handle) is = absurd cc

and_first : (a b : Bool) → (a && b) ≡ true → a ≡ true
and_first true b is = refl
and_first false b is = absurd cc

account_upper : {S : Type 0} (limit : ℕ) (side : Side) (past : List Entry) (one : Controller) (station : Station S) (upper : S) → AccountOf limit side past one station → AccountOf limit side past one (record station { upper = upper })
account_upper limit side past one station upper account = account

pub if_account : {S : Type 0} (limit : ℕ) (side : Side) (past : List Entry) (one : Controller) (some : Bool) (first second : Station S) → AccountOf limit side past one first → AccountOf limit side past one second → AccountOf limit side past one (if some then first else second)
if_account limit side past one true first second one_is two_is = one_is
if_account limit side past one false first second one_is two_is = two_is

-- ---- packets are given back

pub record GivesBack {S : Type 0} (handle n : ℕ) (one : Controller) (old : Station S) (some : Bool) : Type 0 where
  pub ours : one.up ≡ true → (handle == one.told) ≡ true → n ≤ old.outstanding → some ≡ true
  pub only : some ≡ true → (one.up ≡ true) × ((handle == one.told) ≡ true) × (n ≤ old.outstanding)

completed_by : (handle n other : ℕ) → sum_by (completed_on other) (Completed handle n ∷ []) ≡ (if handle == other then n else 0)
completed_by handle n other = omega arith

held_back : (handle n : ℕ) (one : Controller) (known : Option Link) → OnLink one known → held_with (Completed handle n ∷ []) known ≡ (if handle == one.told then (if nat_le n (outstanding_of known) then outstanding_of known - n else outstanding_of known) else outstanding_of known)
held_back handle n one known on =
    ap (λ (k : Option Link). held_with (Completed handle n ∷ []) k) on.is
    ∙ ap (λ (h : ℕ). if handle == h then (if nat_le n (outstanding_on_link on.link) then outstanding_on_link on.link - n else outstanding_on_link on.link) else outstanding_on_link on.link) on.handle_is
    ∙ ap (λ (k : Option Link). if handle == one.told then (if nat_le n (outstanding_of k) then outstanding_of k - n else outstanding_of k) else outstanding_of k) (sym on.is)

record BackFacts {S : Type 0} (limit : ℕ) (side : Side) (past next : List Entry) (one : Controller) (old : Station S) (handle n : ℕ) (rest : List Answer) : Type 0 where
  honest : (other : ℕ) → all_completed side other next + keeps_of other (with_owed rest one) ≤ all_sent side other next
  fits : AllFit limit one.told rest
  keeps : keeps_of one.told one ≡ (if handle == one.told then n else 0) + keeps_of one.told (with_owed rest one)
  held : one.up ≡ true → all_outstanding side next ≡ (if handle == one.told then (if nat_le n (all_outstanding side past) then all_outstanding side past - n else all_outstanding side past) else all_outstanding side past)
  off : one.up ≡ false → all_outstanding side next ≡ 0

back_facts : {S : Type 0} (limit : ℕ) (side : Side) (past : List Entry) (one : Controller) (old : Station S) (handle n : ℕ) (rest : List Answer) → handle ≤ 0x0EFF → one.owed ≡ GivenBack handle n ∷ rest → Known side past one → AccountOf limit side past one old
    → BackFacts limit side past (past ++ own side Into (answer_packet side (GivenBack handle n)) ∷ []) one old handle n rest
back_facts {S} limit side past one old handle n rest low first known account =
    let packet : Packet = answer_packet side (GivenBack handle n) in
    let all : AllFit limit one.told (GivenBack handle n ∷ rest) = subst (λ (l : List Answer). AllFit limit one.told l) first account.fits in
    let is : events Into packet ≡ Completed handle n ∷ [] = back_events side handle n low (all.0).1 in
    let news = no-news (is_none (event_refusal 0x13 (event_params (event_of side (GivenBack handle n))))) in
    let keeps : (other : ℕ) → keeps_of other one ≡ (if handle == other then n else 0) + keeps_of other (with_owed rest one) = λ other. let sum = ap (λ (l : List Answer). back other l) first in omega arith in
    record {
      honest = λ other.
          let before = account.honest other in
          let done = completed_more side past Into packet other ∙ ap (λ (l : List BufferEvent). all_completed side other past + sum_by (completed_on other) l) is in
          let went = sent_more side past Into packet other ∙ ap (λ (l : List BufferEvent). all_sent side other past + sum_by (sent_on other) l) is in
          let one_is = completed_by handle n other in
          let sum = keeps other in
          omega arith;
      fits = all.1;
      keeps = keeps one.told;
      held = λ up. plain_held side past Into packet NoNews news tt ∙ ap (λ (l : List BufferEvent). held_with l (link_up side past)) is ∙ held_back handle n one (link_up side past) (known.on up);
      off = λ down. plain_held side past Into packet NoNews news tt ∙ ap (λ (k : Option Link). held_with (events Into packet) k) (known.off down);
    }

back_sum : (n h h' all left o s : ℕ) → h ≡ all → all ≡ n + left → h' ≡ (if nat_le n h then h - n else h) → o ≡ h + s → (h' ≡ left) × (n ≤ o) × (o - n ≡ h' + s)
back_sum n h h' all left o s is sum now holds =
    let least : n ≤ h = omega arith in
    let low : h' ≡ h - n = now ∙ ap (λ (b : Bool). if b then h - n else h) (le-leb n h least) in
    (omega arith, omega arith, omega arith)

-- on the link that is up, or not
back_on : {S : Type 0} (limit : ℕ) (side : Side) (past next : List Entry) (one : Controller) (old : Station S) (handle n : ℕ) (rest : List Answer) → one.up ≡ true → (handle == one.told) ≡ true → BackFacts limit side past next one old handle n rest → AccountOf limit side past one old
    → (all_outstanding side next ≡ keeps_of one.told (with_owed rest one)) × (n ≤ old.outstanding) × (old.outstanding - n ≡ all_outstanding side next + length (sent one.told old.out))
back_on limit side past next one old handle n rest up same facts account =
    back_sum n (all_outstanding side past) (all_outstanding side next) (keeps_of one.told one) (keeps_of one.told (with_owed rest one)) old.outstanding (length (sent one.told old.out))
    (account.on up) (facts.keeps ∙ ap (λ (b : Bool). (if b then n else 0) + keeps_of one.told (with_owed rest one)) same)
    (facts.held up ∙ ap (λ (b : Bool). if b then (if nat_le n (all_outstanding side past) then all_outstanding side past - n else all_outstanding side past) else all_outstanding side past) same) (account.holds up)

back_other : {S : Type 0} (limit : ℕ) (side : Side) (past next : List Entry) (one : Controller) (old : Station S) (handle n : ℕ) (rest : List Answer) → one.up ≡ true → (handle == one.told) ≡ false → BackFacts limit side past next one old handle n rest → AccountOf limit side past one old
    → (all_outstanding side next ≡ keeps_of one.told (with_owed rest one)) × (old.outstanding ≡ all_outstanding side next + length (sent one.told old.out))
back_other limit side past next one old handle n rest up other facts account =
    let held = facts.held up ∙ ap (λ (b : Bool). if b then (if nat_le n (all_outstanding side past) then all_outstanding side past - n else all_outstanding side past) else all_outstanding side past) other in
    let keeps = facts.keeps ∙ ap (λ (b : Bool). (if b then n else 0) + keeps_of one.told (with_owed rest one)) other in
    let before = account.on up in
    let holds = account.holds up in
    (omega arith, omega arith)

back_account : {S : Type 0} (limit : ℕ) (side : Side) (past next : List Entry) (one : Controller) (old : Station S) (handle n : ℕ) (rest : List Answer) (same some : Bool) → (handle == one.told) ≡ same → GivesBack handle n one old some → BackFacts limit side past next one old handle n rest
    → AccountOf limit side past one old → AccountOf limit side next (with_owed rest one) (if some then record old { outstanding = old.outstanding - n } else old)
back_account limit side past next one old handle n rest true true same gives facts account =
    let up = (gives.only refl).0 in
    let now = back_on limit side past next one old handle n rest up same facts account in
    record {
      honest = facts.honest;
      few = account.few;
      fits = facts.fits;
      on = λ on. now.0;
      holds = λ on. now.2;
      off = λ off. absurd cc;
      within = let within = account.within in omega arith;
      total_is = account.total_is;
    }
back_account limit side past next one old handle n rest false true same gives facts account = let yes = (gives.only refl).1 in absurd cc
back_account limit side past next one old handle n rest true false same gives facts account = record {
  honest = facts.honest;
  few = account.few;
  fits = facts.fits;
  on = λ up. let yes = gives.ours up same (back_on limit side past next one old handle n rest up same facts account).1 in absurd cc;
  holds = λ up. let yes = gives.ours up same (back_on limit side past next one old handle n rest up same facts account).1 in absurd cc;
  off = λ off. ((account.off off).0, facts.off off);
  within = account.within;
  total_is = account.total_is;
}
back_account limit side past next one old handle n rest false false same gives facts account = record {
  honest = facts.honest;
  few = account.few;
  fits = facts.fits;
  on = λ up. (back_other limit side past next one old handle n rest up same facts account).0;
  holds = λ up. (back_other limit side past next one old handle n rest up same facts account).1;
  off = λ off. ((account.off off).0, facts.off off);
  within = account.within;
  total_is = account.total_is;
}

gives_true : (a b : Bool) → a ≡ true → b ≡ true → (a && b) ≡ true
gives_true true true one two = refl
gives_true true false one two = absurd cc
gives_true false b one two = absurd cc

and_second : (a b : Bool) → (a && b) ≡ true → b ≡ true
and_second true b is = is
and_second false b is = absurd cc

link_is : (up : Bool) (told handle : ℕ) (link : Option ℕ) → link ≡ linked_handle up told → is_handle handle link ≡ true → (up ≡ true) × (told ≡ handle)
link_is true told handle link is here = (refl, eqb-true told handle (ap (λ (l : Option ℕ). is_handle handle l) (sym is) ∙ here))
link_is false told handle link is here = let none = ap (λ (l : Option ℕ). is_handle handle l) (sym is) ∙ here in absurd cc

-- a host takes them back where they are of its link
gives_of : {S : Type 0} (handle n : ℕ) (one : Controller) (old : Station S) → old.link ≡ linked_handle one.up one.told → GivesBack handle n one old (is_handle handle old.link && nat_le n old.outstanding)
gives_of handle n one old link = record {
  ours = λ up same few. gives_true (is_handle handle old.link) (nat_le n old.outstanding) (handle_is one.up one.told handle old.link up (sym (eqb-true handle one.told same)) link) (le-leb n old.outstanding few);
  only = λ some.
      let here = and_first (is_handle handle old.link) (nat_le n old.outstanding) some in
      let known = link_is one.up one.told handle old.link link here in
      (known.0, eq-eqb handle one.told (sym known.1), leb-true n old.outstanding (and_second (is_handle handle old.link) (nat_le n old.outstanding) some));
}

-- ---- a link comes or goes

made_fields : {S : Type 0} (limit : ℕ) (side : Side) (past : List Entry) (one : Controller) (old : Station S) (handle : ℕ) (asked off : Bool) → AccountOf limit side past one old
    → AccountOf limit side past one (if asked then (if off then record old { asked = false; link = Some handle; ending = false; joining = [] } else record old { asked = false }) else old)
made_fields limit side past one old handle true true account = account
made_fields limit side past one old handle true false account = account
made_fields limit side past one old handle false off account = account

made_account : {S : Type 0} (limit : ℕ) (side : Side) (past : List Entry) (one : Controller) (old : Station S) (handle : ℕ) (rest : List Answer) → handle ≤ 0x0EFF → one.up ≡ false → handle ≡ one.told + 1 → one.owed ≡ LinkMade handle ∷ rest → Known side past one → Within one.told old.out
    → AccountOf limit side past one old → AccountOf limit side (past ++ own side Into (answer_packet side (LinkMade handle)) ∷ []) (after_telling (LinkMade handle) (with_owed rest one)) old
made_account limit side past one old handle rest low off here first known within account =
    let packet : Packet = answer_packet side (LinkMade handle) in
    let all : AllFit limit one.told (LinkMade handle ∷ rest) = subst (λ (l : List Answer). AllFit limit one.told l) first account.fits in
    let none : all_outstanding side (past ++ own side Into packet ∷ []) ≡ 0 = made_held side past packet handle (made-news side handle low) (known.off off) in
    record {
      honest = λ other.
          let before = account.honest other in
          let done = completed_more side past Into packet other in
          let went = sent_more side past Into packet other in
          let sum = ap (λ (l : List Answer). back other l) first in
          let held = zero_held (handle == other) in
          omega arith;
      few = omega arith;
      fits = all_more limit one.told handle rest (omega arith) all.1;
      on = λ on. let above = back_above limit one.told handle rest (omega arith) all.1 in let held = zero_held (handle == handle) in omega arith;
      holds = λ on.
          let zero_is = (account.off off).0 in
          let nothing = ap (λ (l : List _). length l) (sent_above one.told handle old.out (omega arith) within) in
          omega arith;
      off = λ down. absurd cc;
      within = account.within;
      total_is = account.total_is;
    }

gone_account : {S : Type 0} (limit : ℕ) (side : Side) (past : List Entry) (one : Controller) (old : Station S) (handle reason : ℕ) (rest : List Answer) (here : Bool) → here ≡ true → one.owed ≡ LinkGone handle reason ∷ rest
    → Known side (past ++ own side Into (answer_packet side (LinkGone handle reason)) ∷ []) (after_telling (LinkGone handle reason) (with_owed rest one)) → AccountOf limit side past one old
    → AccountOf limit side (past ++ own side Into (answer_packet side (LinkGone handle reason)) ∷ []) (after_telling (LinkGone handle reason) (with_owed rest one))
    (if here then record old { outstanding = 0; link = None; ending = false; joining = []; pieces = [] } else old)
gone_account limit side past one old handle reason rest false is first known account = absurd cc
gone_account limit side past one old handle reason rest true is first known account =
    let packet : Packet = answer_packet side (LinkGone handle reason) in
    let all : AllFit limit one.told (LinkGone handle reason ∷ rest) = subst (λ (l : List Answer). AllFit limit one.told l) first account.fits in
    record {
      honest = λ other.
          let before = account.honest other in
          let done = completed_more side past Into packet other in
          let went = sent_more side past Into packet other in
          let sum = ap (λ (l : List Answer). back other l) first in
          omega arith;
      few = account.few;
      fits = all.1;
      on = λ on. absurd cc;
      holds = λ on. absurd cc;
      off = λ off. (refl, ended_held side past (own side Into packet) (known.off refl));
      within = omega arith;
      total_is = account.total_is;
    }

made_low : {S G : Type 0} (U : Upper S G) (number : ℕ) (together : Bool) (extra : ℕ) (one : Controller) (old : Station S) (handle : ℕ) (rest : List Answer) → number ≤ 0x0EFF → one.owed ≡ LinkMade handle ∷ rest → Steady U number together extra one old → handle ≤ 0x0EFF
made_low U number together extra one old handle rest low first steady =
    let led : Led one.told one.up (Came handle ∷ tidings rest) number together = subst (λ (l : List _). Led one.told one.up l number together) (owed_first one.owed rest (LinkMade handle) (Came handle) first refl) steady.led in
    let most = led_low handle true (tidings rest) number together led.2 in
    omega arith

-- ---- whatever its controller answers

pub account_answer :
    {S G : Type 0} (U : Upper S G) (side : Side) (limit number : ℕ) (together : Bool) (extra : ℕ) (past : List Entry) (one : Controller) (old : Station S) (answers : List G) (answer : Answer) (rest : List Answer) → number ≤ 0x0EFF → one.owed ≡ answer ∷ rest
    → Steady U number together extra one old → Known side past one → IsNextLink answer one → Known side (past ++ own side Into (answer_packet side answer) ∷ []) (after_telling answer (with_owed rest one)) → AccountOf limit side past one old
    → AccountOf limit side (past ++ own side Into (answer_packet side answer) ∷ []) (after_telling answer (with_owed rest one)) (hears_answer U answers side answer old)
account_answer {S} U side limit number together extra past one old answers (Returned code params) rest low first steady known next after account =
    let packet : Packet = answer_packet side (Returned code params) in
    let same = account_same limit side past (past ++ own side Into packet ∷ []) one (with_owed rest one) old.out old.out old.outstanding old.total
    (books_plain side past Into packet NoNews (no-news (is_none (event_refusal 0x0E (event_params (event_of side (Returned code params)))))) tt refl) (answer_else limit one (Returned code params) rest first (λ handle. refl)) refl account in
    let all : AllFit limit one.told (Returned code params ∷ rest) = subst (λ (l : List Answer). AllFit limit one.told l) first account.fits in
    let awaits : Station S = record old { awaited = _ } in
    learn_by limit side (past ++ own side Into packet ∷ []) (with_owed rest one) awaits (code == 0x1005) (is_none old.link && nat_le 27 (little_number 2 (drop 1 params))) (little_number 2 (drop 1 params)) (little_number 2 (drop 4 params))
    (λ buffers some. (off_link one.up one.told old.link steady.link (none_is old.link (and_first (is_none old.link) (nat_le 27 (little_number 2 (drop 1 params))) some)), all.0 (eqb-true code 0x1005 buffers))) same
account_answer U side limit number together extra past one old answers (Stated code) rest low first steady known next after account =
    account_same limit side past _ one (with_owed rest one) old.out old.out old.outstanding old.total
    (books_plain side past Into (answer_packet side (Stated code)) NoNews (no-news (is_none (event_refusal 0x0F (event_params (event_of side (Stated code)))))) tt refl) (answer_else limit one (Stated code) rest first (λ handle. refl)) refl account
account_answer U side limit number together extra past one old answers Called rest low first steady known next after account =
    let same = account_same limit side past _ one (with_owed rest one) old.out old.out old.outstanding old.total
    (books_plain side past Into (answer_packet side Called) NoNews (no-news (is_none (event_refusal 0x04 (event_params (event_of side Called))))) tt refl) (answer_else limit one Called rest first (λ handle. refl)) refl account in
    if_account limit side _ (with_owed rest one) (may_accept side old) (record old { waiting = old.waiting ++ Accept ∷ [] }) old same same
account_answer U side limit number together extra past one old answers (GivenBack handle n) rest low first steady known next after account =
    let all : AllFit limit one.told (GivenBack handle n ∷ rest) = subst (λ (l : List Answer). AllFit limit one.told l) first account.fits in
    let most = led_low one.told one.up _ number together steady.led in
    let below = (all.0).0 in
    back_account limit side past _ one old handle n rest (handle == one.told) (is_handle handle old.link && nat_le n old.outstanding) refl (gives_of handle n one old steady.link) (back_facts limit side past one old handle n rest (omega arith) first known account) account
account_answer U side limit number together extra past one old answers (LinkMade handle) rest low first steady known next after account =
    made_fields limit side _ (after_telling (LinkMade handle) (with_owed rest one)) old handle old.asked (is_none old.link)
    (made_account limit side past one old handle rest (made_low U number together extra one old handle rest low first steady) next.0 next.1 first known steady.ends.within_out account)
account_answer U side limit number together extra past one old answers (LinkGone handle reason) rest low first steady known next after account =
    let led : Led one.told one.up (Went handle reason ∷ tidings rest) number together = subst (λ (l : List _). Led one.told one.up l number together) (owed_first one.owed rest (LinkGone handle reason) (Went handle reason) first refl) steady.led in
    gone_account limit side past one old handle reason rest (is_handle handle old.link) (handle_is one.up one.told handle old.link led.0 (sym led.1) steady.link) first after account
