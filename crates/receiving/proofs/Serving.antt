-- A server in code is a host that is fed.
use Rattle.std.proofs.Common.{◌≡◌, ◌∙◌, ℕ, ◌≤◌, List, [], ◌∷◌, ◌++◌, length, drop, refl, sym, ap, subst, arith}
use Rattle.std.specs.Prelude.{Option, None, Result, Ok, Err, MatchOption, IsErrOf, OnOk}
use Rattle.std.proofs.lemmas.List.{drop_all}
use Rattle.std.proofs.lemmas.List.Concat.{flat_map-append}
use mathlib.Core.Path.{fun_ext}
use Rattle.bt_base.specs.Counts.{HasRisen}
use Rattle.bt_base.specs.Objects.{Contents}
use Rattle.h4_framing.specs.Packets.{Packet}
use Rattle.h4_framing.specs.Framing.{Framing}
use Rattle.bt_host.specs.obex_session.specs.Counting as counting
use Rattle.bt_host.specs.obex_session.specs.InboxCalls.{Answer}
use Rattle.bt_host.specs.obex_session.proofs.CountingLaws.{counted_none}
use Rattle.bt_host.specs.host_model.specs.Circumstances.{Circumstance, answer_of, answers_in}
use Rattle.bt_host.specs.host_model.specs.Profiles.{Profile}
use Rattle.bt_host.specs.host_model.specs.Servers.{ServerProfile}
use Rattle.bt_host.specs.declared.feed_refusal.FeedRefusal.{FeedRefusal}
use Rattle.bt_host.specs.declared.feed_refusal.FeedRefusal.TheVariants.{Transport, CommandFailed, BadBuffers, NoMemory}
use Rattle.bt_host.specs.Noting.{Noted, with_end}
use Rattle.bt_host.specs.NotedHosts.{server_noting}
use Rattle.bt_host.specs.Refusals.{refusal_in}
use Rattle.bt_host.specs.Serving.{Served, Asks, Lacks}
use Rattle.bt_host.specs.Stacks.{Standing, standing, Reacts, Moment, GoesOn, HearsAll}
use Rattle.bt_host.specs.Shells.{Shelled, FeedsOn, Feeds}
use Rattle.receiving.specs.Turns.{Stand, Moves, emptied}
use Rattle.receiving.specs.Feeding.{HearsEach, answers_each, Listens, IsFed}
use Rattle.receiving.proofs.Answering.{Gave, gave_then}

abbrev at : {E S P : Type 0} → (E → P → List Circumstance → S) → Moment E P → Stand S
at pushing now = standing pushing now.port now.stack

module _ {E S P : Type 0} (A : Profile S) (Answers : P → List Circumstance → P → Type 0) (pushing : E → P → List Circumstance → S) where
  moves_of : (before after : Stand S) (port port' : P) → Reacts A Answers before after port port' → Moves A before after
  moves_of before after port port' reacts = record { used = reacts.used; deeds = reacts.deeds; does = reacts.reacts; exactly = reacts.exactly }

  hears_each : (packets : List Packet) (old new : Moment E P) → HearsAll A Answers pushing packets old new → HearsEach A packets (at pushing old) (at pushing new)
  hears_each [] old new is = ap (λ (m : Moment E P). at pushing m) is
  hears_each (p ∷ packets) old new (mid, one, more) =
      (at pushing mid, record { fault = λ rest. one.fault; moves = moves_of _ (at pushing mid) old.port mid.port one.reacts }, hears_each packets mid new more)

  -- a host that is the same used no answers up
  abbrev pub StaysSame : Type 0
  StaysSame = (old new : Moment E P) (used : List Circumstance) → ((rest : List Circumstance) → at pushing new rest ≡ at pushing old (used ++ rest)) → (at pushing new ≡ at pushing old) × (answers_in used ≡ [])

module _ {E S P : Type 0} (A : Profile S) (faults shortages : P → ℕ) (pushing : E → P → List Circumstance → S) where
  abbrev counts : P → counting.Counts
  counts port = counting.counts_of faults shortages port

  abbrev Gives : P → List Circumstance → P → Type 0
  Gives = Asks faults shortages

  gave_each : (packets : List Packet) (old new : Moment E P) (hears : HearsAll A Gives pushing packets old new)
      → Gave (answers_each A packets (at pushing old) (at pushing new) (hears_each A Gives pushing packets old new hears)) (counts old.port) (counts new.port)
  unfolding hears_each moves_of
  gave_each [] old new is = subst (λ (m : Moment E P). Gave [] (counts old.port) (counts m.port)) (sym is) (counted_none (counts old.port))
  gave_each (p ∷ packets) old new (mid, one, more) =
      gave_then one.reacts.used (answers_each A packets (at pushing mid) (at pushing new) (hears_each A Gives pushing packets mid new more)) (counts old.port) (counts mid.port) (counts new.port) one.reacts.answered.counted (gave_each packets mid new more)

  listens_of : StaysSame A Gives pushing → (packets : List Packet) (old mid new : Moment E P) → GoesOn A Gives pushing old mid → HearsAll A Gives pushing packets mid new → Listens A packets (at pushing old) (at pushing new) (counts old.port) (counts new.port)
  unfolding moves_of
  listens_of stays packets old mid new goes hears =
      let each = hears_each A Gives pushing packets mid new hears in
      record {
        between = at pushing mid;
        back = moves_of A Gives pushing (at pushing old) (at pushing mid) old.port mid.port goes;
        still = stays old mid goes.used;
        hears = each;
        answered = gave_then goes.used (answers_each A packets (at pushing mid) (at pushing new) each) (counts old.port) (counts mid.port) (counts new.port) goes.answered.counted (gave_each packets mid new hears);
      }

  pub fed_of : StaysSame A Gives pushing → (Lacked : P → P → Type 0) (piece : List ℕ) (framing framing' : Framing) (old new : Moment E P) (result : Result (Unit {0}) FeedRefusal) → FeedsOn A Gives Lacked pushing piece framing framing' old new result
      → IsFed A piece framing framing' (at pushing old) (at pushing new) (counts old.port) (counts new.port) result
  fed_of stays Lacked piece framing framing' old new (Ok done) (mid, goes, takes) = (takes.packets, takes.taken, listens_of stays takes.packets old mid new goes takes.hears)
  fed_of stays Lacked piece framing framing' old new (Err NoMemory) lacked = tt
  fed_of stays Lacked piece framing framing' old new (Err (Transport why place)) (mid, goes, stops) = (stops.packets, stops.stopped, listens_of stays stops.packets old mid new goes stops.hears)
  fed_of stays Lacked piece framing framing' old new (Err (CommandFailed opcode status place)) (mid, goes, stops) = (stops.packets, stops.stopped, listens_of stays stops.packets old mid new goes stops.hears)
  fed_of stays Lacked piece framing framing' old new (Err (BadBuffers size count place)) (mid, goes, stops) = (stops.packets, stops.stopped, listens_of stays stops.packets old mid new goes stops.hears)

-- ---- a server

abbrev with_answers : {P : Type 0} → (P → Option Contents) → Moment (Noted Served) P → List Answer → Standing (Noted ServerProfile)
with_answers content now answers = record {
  line = now.stack.line;
  host = record {
    channels = now.stack.upper.machine.channels;
    profile = with_end (record { server = now.stack.upper.end.end.server; inbox = record { content = content now.port; answers = answers }; endpoints = now.stack.upper.end.end.endpoints; breaks = now.stack.upper.end.end.breaks }) now.stack.upper.end;
    may_say = now.stack.upper.may_say;
  };
  paged = now.stack.paged;
}

answers_left : {P : Type 0} (content : P → Option Contents) (now : Moment (Noted Served) P) (rest : List Circumstance) → at (server_noting content) now rest ≡ with_answers content now (answers_in rest)
answers_left content now rest = refl

nothing_first : {X : Type 0} (xs : List X) → [] ≡ xs ++ [] → xs ≡ []
nothing_first [] is = refl
nothing_first (x ∷ xs) is = absurd cc

pub server_stays : {P : Type 0} (content : P → Option Contents) (old new : Moment (Noted Served) P) (used : List Circumstance)
    → ((rest : List Circumstance) → at (server_noting content) new rest ≡ at (server_noting content) old (used ++ rest)) → (at (server_noting content) new ≡ at (server_noting content) old) × (answers_in used ≡ [])
server_stays content old new used same =
    let split : (rest : List Circumstance) → answers_in (used ++ rest) ≡ answers_in used ++ answers_in rest = λ rest. flat_map-append answer_of used rest in
    let none : answers_in used ≡ [] = nothing_first (answers_in used) (ap (λ (s : Standing (Noted ServerProfile)). s.host.profile.end.inbox.answers) (same []) ∙ split []) in
    (fun_ext (λ rest. same rest ∙ ap (with_answers content old) (split rest ∙ ap (λ (xs : List Answer). xs ++ answers_in rest) none)), none)

-- ---- what its inbox says of memory

module _ {E S P : Type 0} (A : Profile S) (faults shortages : P → ℕ) (pushing : E → P → List Circumstance → S) where
  hears_stay : (packets : List Packet) (old new : Moment E P) → HearsAll A (Asks faults shortages) pushing packets old new → shortages old.port ≤ shortages new.port
  hears_stay [] old new is = subst (λ (m : Moment E P). shortages old.port ≤ shortages m.port) (sym is) (omega arith)
  hears_stay (p ∷ packets) old new (mid, one, more) = let first = one.reacts.answered.counted.shortages_stay in let then = hears_stay packets mid new more in omega (arith, first, then)

  pub feed_stays : (piece : List ℕ) (framing framing' : Framing) (old new : Moment E P) (result : Result (Unit {0}) FeedRefusal) → FeedsOn A (Asks faults shortages) (Lacks shortages) pushing piece framing framing' old new result → shortages old.port ≤ shortages new.port
  feed_stays piece framing framing' old new (Ok done) (mid, goes, takes) = let first = goes.answered.counted.shortages_stay in let then = hears_stay takes.packets mid new takes.hears in omega (arith, first, then)
  feed_stays piece framing framing' old new (Err NoMemory) lacked = lacked.1
  feed_stays piece framing framing' old new (Err (Transport why place)) (mid, goes, stops) = let first = goes.answered.counted.shortages_stay in let then = hears_stay stops.packets mid new stops.hears in omega (arith, first, then)
  feed_stays piece framing framing' old new (Err (CommandFailed opcode status place)) (mid, goes, stops) = let first = goes.answered.counted.shortages_stay in let then = hears_stay stops.packets mid new stops.hears in omega (arith, first, then)
  feed_stays piece framing framing' old new (Err (BadBuffers size count place)) (mid, goes, stops) = let first = goes.answered.counted.shortages_stay in let then = hears_stay stops.packets mid new stops.hears in omega (arith, first, then)

  pub feed_lacks : (piece : List ℕ) (framing framing' : Framing) (old new : Moment E P) (result : Result (Unit {0}) FeedRefusal) → FeedsOn A (Asks faults shortages) (Lacks shortages) pushing piece framing framing' old new result → IsErrOf result NoMemory
      → HasRisen (shortages old.port) (shortages new.port)
  feed_lacks piece framing framing' old new (Ok done) feeds is = absurd cc
  feed_lacks piece framing framing' old new (Err NoMemory) lacked is = lacked.0
  feed_lacks piece framing framing' old new (Err (Transport why place)) feeds is = absurd cc
  feed_lacks piece framing framing' old new (Err (CommandFailed opcode status place)) feeds is = absurd cc
  feed_lacks piece framing framing' old new (Err (BadBuffers size count place)) feeds is = absurd cc

-- ---- a host that refused nothing is fed

pub feeds_on : {E S P : Type 0} (A : Profile S) (Answers : P → List Circumstance → P → Type 0) (Lacked : P → P → Type 0) (pushing : E → P → List Circumstance → S) (piece : List ℕ) (old new : Shelled E) (port port' : P) (result : Result (Unit {0}) FeedRefusal)
    → old.refusal ≡ None → Feeds A Answers Lacked pushing piece old new port port' result
    → FeedsOn A Answers Lacked pushing piece old.framing new.framing (record { stack = old.stack; port = port }) (record { stack = new.stack; port = port' }) result × (new.refusal ≡ refusal_in result)
feeds_on A Answers Lacked pushing piece old new port port' result none feeds =
    subst (λ (r : Option FeedRefusal). MatchOption r
    (FeedsOn A Answers Lacked pushing piece old.framing new.framing (record { stack = old.stack; port = port }) (record { stack = new.stack; port = port' }) result × (new.refusal ≡ refusal_in result))
    (λ refusal. (result ≡ Err refusal) × (new ≡ old) × (port' ≡ port))) none feeds

pub refuses_none : {E : Type 0} (new : Shelled E) (result : Result (Unit {0}) FeedRefusal) → new.refusal ≡ refusal_in result → OnOk result (new.refusal ≡ None)
refuses_none new (Ok done) is = is
refuses_none new (Err why) is = tt

-- all that it put out was taken
pub taken_stands : {E S P : Type 0} (pushing : E → P → List Circumstance → S) (old new : Shelled E) (port : P) (n : ℕ) → n ≡ length old.stack.line.out → new ≡ record old { stack = record old.stack { line = record old.stack.line { out = drop n old.stack.line.out } } }
    → standing pushing port new.stack ≡ (λ rest. emptied (standing pushing port old.stack rest))
taken_stands pushing old new port n all is =
    let none : drop n old.stack.line.out ≡ [] = drop_all n old.stack.line.out (omega (arith, all)) in
    fun_ext (λ rest. ap (λ (h : Shelled _). standing pushing port h.stack rest) is ∙ ap (λ (xs : List ℕ). record (standing pushing port old.stack rest) { line = record old.stack.line { out = xs } }) none)
