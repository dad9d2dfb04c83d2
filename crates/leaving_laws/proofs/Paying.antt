-- The options of a channel that a host leaves are paid beside its request for the end.
use Rattle.std.proofs.Common.{◌≡◌, ℕ, zero, suc, ◌+◌, ◌≤◌, List, [], ◌∷◌, ◌++◌, Bool, true, false, cond, not, Option, Some, None, refl, sym, ap, subst, ◌∙◌, ◌⊎◌, inl, inr, arith, append_assoc, append-nil}
use Rattle.std.specs.Prelude.{find, option_map}
use Rattle.std.proofs.lemmas.List.Sums.{fold-append}
use Rattle.channel_laws.specs.acl_fragments.specs.Pieces.{channel_of}
use Rattle.channel_laws.specs.capture.specs.Histories.{EachAfter}
use Rattle.channel_laws.specs.l2cap_signal.specs.Commands.{Command}
use Rattle.channel_laws.specs.channel_model.specs.declared.errand.Errand.{Errand}
use Rattle.channel_laws.specs.channel_model.specs.declared.errand.Errand.TheVariants as errands
use Rattle.channel_laws.specs.channel_model.specs.Calls.{has_fcs}
use Rattle.channel_laws.specs.channel_model.specs.Changing.{has_own, held_at, same_errand}
use Rattle.channel_laws.specs.channel_model.specs.Giving.{Given, Signal, IsPdu, command_of, gives, held_given, counted, queue_gives, queue_given, next_given}
use Rattle.channel_laws.specs.channel_model.specs.Policies.{Policy}
use Rattle.channel_laws.specs.channel_model.specs.Value.{Request, Queued, Answer, Ask, Stage, Requested, Connected, Leaving, Closing, Crossed, Held, Channels}
use Rattle.channel_laws.specs.channel_model.proofs.Lookups.{own_of, Distinct}
use Rattle.channel_laws.specs.Adverse.{asks_for, brings, under_way, is_quiet, adverse_by, disturbs, disturbances}
use Rattle.channel_laws.specs.Belonging.{IsReadAs, IsRead}
use Rattle.channel_laws.specs.Ends.{DoesSo, end_at}
use Rattle.channel_laws.specs.Frames.{IsSpelled, IsUttered}
use Rattle.channel_laws.specs.Heeded.{IsMetBy, MetIsHeeded}
use Rattle.channel_laws.specs.Pairs.{End, Pair, new_pair, Happening, Acts, Puts, Takes, Repeats, Loses, Damages, is_alone, occurs, with_near, put, puts, let_go, takes_first, repeats_first, loses_first, damages_first, happens_near, Side, Near, Far, turned, Turn, happens_at, pair_after, pair_of}
use Rattle.channel_laws.specs.Runs.{Occurrence, Comes, Connects, AsksFeatures, Disconnects, Sends, Gives, Fires, Tells, Run}
use Rattle.channel_laws.specs.Tries.{request_of, request_at, for_options, for_end, one_if, copies, is_firing}
use Rattle.channel_laws.proofs.Costing.{Pays, Known, known-at, some_is, brings_given, asks_so, quiet_none, tame_at, none_given, one_turn, first_pays, heeded_cost}
use Rattle.channel_laws.proofs.Counting.{many-last}
use Rattle.channel_laws.proofs.Dispatching.{Gave, counted_gave, gives-pass}
use Rattle.channel_laws.proofs.Pairing.{each-end_runs}
use Rattle.channel_laws.proofs.Running.{all-sound}
use Rattle.channel_laws.proofs.Meeting.{meets_one, BothRead, one_reads}
use Rattle.channel_laws.proofs.Saying.{given-counted, given-held}
use Rattle.channel_laws.proofs.Spending.{Kept, kept-tame, kept-less, pass-less, same-is, timed-so, is_giving}
use Rattle.channel_laws.proofs.Trying.{By, Tame, same-tame}
use Rattle.leaving_laws.proofs.Falling.{falls_near, falls_far}
use Rattle.leaving_laws.proofs.Firing as firing
use Rattle.leaving_laws.proofs.Giving as giving
use Rattle.leaving_laws.proofs.Keeping as keeping
use Rattle.leaving_laws.proofs.Staying.{never-back}
use Rattle.leaving_laws.specs.Left.{OptionsOfLeftAreCounted}

-- none, or some
none_or : (n : ℕ) → (n ≡ 0) ⊎ (1 ≤ n)
none_or zero = inl refl
none_or (suc n) = inr (omega arith)

module _ (own : ℕ) where
  abbrev wish : Errand
  wish = errands.Configuration own

  abbrev leave : Errand
  leave = errands.Disconnection own

  -- ---- what is kept

  -- a copy of the request for the end waits, or that for options is paid by what is under way for it
  abbrev LeftSo : (adverse : ℕ) → Pair → (end r : Request) → Type 0
  LeftSo adverse pair end r = (1 ≤ copies leave pair.near.run.value.queue) ⊎ (copies wish pair.near.run.value.queue + r.given ≤ adverse + under_way leave end.identifier pair)

  -- Its requests for options are paid, with the copies that wait. While it did not ask for the end each was given no more often than turns disturbed and something is under way for it; and once it did,
  -- unless a copy of that request waits, it was so with its own copies by what is under way for the request for the end.
  record PaysOut (adverse : ℕ) (pair : Pair) : Type 0 where
    most : Kept wish (1 + adverse) pair.near.run.value
    alone : request_of leave pair.near.run.value ≡ None → (r : Request) → request_of wish pair.near.run.value ≡ Some r → r.given ≤ adverse + under_way wish r.identifier pair
    left : (end r : Request) → request_of leave pair.near.run.value ≡ Some end → request_of wish pair.near.run.value ≡ Some r → LeftSo adverse pair end r
    alive : giving.Alive own pair.near.run.value
    ends : Pays leave adverse pair

  -- a channel whose options and whose end wait is one that its host leaves
  alive_at : (v : Channels) → giving.Alive own v → (end r : Request) → request_of leave v ≡ Some end → request_of wish v ≡ Some r → 1 ≤ copies leave v.queue + end.given
  alive_at v k end r = by (held_at own v) k
    where
      staged_so : (stage : Stage) → giving.Fine own stage (copies leave v.queue) → for_end stage ≡ Some end → for_options stage ≡ Some r → 1 ≤ copies leave v.queue + end.given
      staged_so (Requested request) so has waits = cc
      staged_so (Connected peer setup) so has waits = cc
      staged_so (Leaving peer setup request) so has waits = subst (λ (x : Request). 1 ≤ copies leave v.queue + x.given) (some_is request end has) so
      staged_so (Closing peer request checked) so has waits = cc
      staged_so (Crossed peer request) so has waits = cc

      by : (found : Option Held) → keeping.FoundSo own (giving.Lives own) (giving.grows own) (giving.new own) found (copies leave v.queue) → request_at for_end found ≡ Some end → request_at for_options found ≡ Some r → 1 ≤ copies leave v.queue + end.given
      by None so has waits = cc
      by (Some held) so has waits = staged_so held.stage so has waits

  -- ---- what becomes of its host

  -- it was asked for before, with no more copies, or one waits
  abbrev Still : Channels → Request → ℕ → Type 0
  Still v end n = ((request_of leave v ≡ Some end) × (copies leave v.queue ≤ n)) ⊎ (1 ≤ n)

  still_grows : (v : Channels) (end : Request) (m n : ℕ) → m ≤ n → Still v end m → Still v end n
  still_grows v end m n less (inl (was, fewer)) = inl (was, omega (arith, less, fewer))
  still_grows v end m n less (inr some) = inr (omega (arith, less, some))

  still_new : (v : Channels) (end : Request) (n : ℕ) → 1 ≤ n → Still v end n
  still_new v end n some = inr some

  abbrev Stays : Channels → Channels → Type 0
  Stays v w = keeping.K own (Still v) (still_grows v) (still_new v) w

  stays_first : (v : Channels) → Stays v v
  stays_first v = by (held_at own v) refl
    where
      staged_so : (held : Held) (stage : Stage) → held.stage ≡ stage → held_at own v ≡ Some held → keeping.StageSo own (Still v) (still_grows v) (still_new v) stage (copies leave v.queue)
      staged_so held (Requested request) is at = tt
      staged_so held (Connected peer setup) is at = tt
      staged_so held (Leaving peer setup request) is at = inl (ap (request_at for_end) at ∙ ap for_end is, omega arith)
      staged_so held (Closing peer request checked) is at = tt
      staged_so held (Crossed peer request) is at = tt

      by : (found : Option Held) → held_at own v ≡ found → keeping.FoundSo own (Still v) (still_grows v) (still_new v) found (copies leave v.queue)
      by None at = tt
      by (Some held) at = staged_so held held.stage refl at

  stays_at : (v w : Channels) → Stays v w → (end r : Request) → request_of leave w ≡ Some end → request_of wish w ≡ Some r → Still v end (copies leave w.queue)
  stays_at v w k end r = by (held_at own w) k
    where
      staged_so : (stage : Stage) → keeping.StageSo own (Still v) (still_grows v) (still_new v) stage (copies leave w.queue) → for_end stage ≡ Some end → for_options stage ≡ Some r → Still v end (copies leave w.queue)
      staged_so (Requested request) so has waits = cc
      staged_so (Connected peer setup) so has waits = cc
      staged_so (Leaving peer setup request) so has waits = subst (λ x. Still v x (copies leave w.queue)) (some_is request end has) so
      staged_so (Closing peer request checked) so has waits = cc
      staged_so (Crossed peer request) so has waits = cc

      by : (found : Option Held) → keeping.FoundSo own (Still v) (still_grows v) (still_new v) found (copies leave w.queue) → request_at for_end found ≡ Some end → request_at for_options found ≡ Some r → Still v end (copies leave w.queue)
      by None so has waits = cc
      by (Some held) so has waits = staged_so held.stage so has waits

  record Changed (v w : Channels) : Type 0 where
    tame : Tame v w
    back : (end r : Request) → request_of leave v ≡ Some end → request_of wish w ≡ Some r → request_of leave w ≡ None → ⊥
    stays : Stays v w
    alive : giving.Alive own v → giving.Alive own w

  unchanged : (v : Channels) → Changed v v
  unchanged v = record { tame = same-tame v; back = λ end r was is none. let never : None ≡ Some end = sym none ∙ was in cc; stays = stays_first v; alive = λ k. k }

  abbrev pub Lone : Channels → Type 0
  Lone v = Distinct own_of v.held × ((n : ℕ) → v.next ≤ n → find (has_own n) v.held ≡ None)

  occurs_changed : (more : Occurrence) (end' : End) → Known end' → Lone end'.run.value → is_firing more ≡ false → is_giving more ≡ false → Changed end'.run.value (occurs more end').run.value
  occurs_changed more end' known lone fires gives = record {
    tame = tame_at end' more known fires gives;
    back = λ end r was is none. never-back own end'.policy more end'.run.value lone.0 lone.1 end r was is none;
    stays = keeping.single-so own (Still end'.run.value) (still_grows end'.run.value) (still_new end'.run.value) end'.policy more end'.run.value fires gives (stays_first end'.run.value);
    alive = keeping.single-so own (giving.Lives own) (giving.grows own) (giving.new own) end'.policy more end'.run.value fires gives;
  }

  -- ---- one turn but a firing, where the host gives nothing

  out_on : (cost adverse : ℕ) (before after : Pair) → Changed before.near.run.value after.near.run.value
      → ((end : Request) → request_of leave before.near.run.value ≡ Some end → request_of leave after.near.run.value ≡ Some end → under_way leave end.identifier before ≤ cost + under_way leave end.identifier after)
      → (request_of leave before.near.run.value ≡ None → Pays wish (cost + adverse) after) → Pays leave (cost + adverse) after → PaysOut adverse before → PaysOut (cost + adverse) after
  out_on cost adverse before after changed falls single ends pays = record {
    most = kept-tame wish (1 + (cost + adverse)) v w (omega arith) changed.tame (λ r is. let few = pays.most r is in omega (arith, few));
    alone = λ none r is. alone_by (request_of leave v) refl none r is;
    left = λ end r has is. left_by end r has is (stays_at v w changed.stays end r has is) (changed.tame wish r is);
    alive = changed.alive pays.alive;
    ends = ends;
  }
    where
      v : Channels
      v = before.near.run.value

      w : Channels
      w = after.near.run.value

      alone_by : (found : Option Request) → request_of leave v ≡ found → request_of leave w ≡ None → (r : Request) → request_of wish w ≡ Some r → r.given ≤ (cost + adverse) + under_way wish r.identifier after
      alone_by None was none r is = (single was).way r is
      alone_by (Some end) was none r is = absurd (changed.back end r was is none)

      fresh : (end r : Request) → request_of leave w ≡ Some end → request_of wish w ≡ Some r → r.given ≡ 0 → copies wish w.queue ≤ 1 → (n : ℕ) → copies leave w.queue ≡ n → (n ≡ 0) ⊎ (1 ≤ n)
          → (1 ≤ copies leave w.queue) ⊎ (copies wish w.queue + r.given ≤ (cost + adverse) + under_way leave end.identifier after)
      fresh end r has is none few n copies_are (inr some) = inl (omega (arith, copies_are, some))
      fresh end r has is none few n copies_are (inl empty) =
          let one = alive_at w (changed.alive pays.alive) end r has is in let paid = ends.way end has in inr (omega (arith, one, paid, none, few, copies_are, empty))

      left_by : (end r : Request) → request_of leave w ≡ Some end → request_of wish w ≡ Some r → Still v end (copies leave w.queue) → By (copies wish w.queue) (copies wish v.queue) (request_of wish v) r
          → (1 ≤ copies leave w.queue) ⊎ (copies wish w.queue + r.given ≤ (cost + adverse) + under_way leave end.identifier after)
      left_by end r has is (inr some) by = inl some
      left_by end r has is (inl (same, less)) (inl (none, few)) = fresh end r has is none few (copies leave w.queue) refl (none_or (copies leave w.queue))
      left_by end r has is (inl (same, less)) (inr (was, fewer)) = either (pays.left end r same was)
        where
          either : (1 ≤ copies leave v.queue) ⊎ (copies wish v.queue + r.given ≤ adverse + under_way leave end.identifier before) → (1 ≤ copies leave w.queue) ⊎ (copies wish w.queue + r.given ≤ (cost + adverse) + under_way leave end.identifier after)
          either (inl some) = inl (omega (arith, some, less))
          either (inr bound) = let more = falls end same has in inr (omega (arith, bound, more, fewer))

  -- ---- a firing

  due_at : (w : Channels) → firing.Due own w → (end r : Request) → request_of leave w ≡ Some end → request_of wish w ≡ Some r → 1 ≤ copies leave w.queue
  due_at w k end r = by (held_at own w) k
    where
      staged_so : (stage : Stage) → keeping.StageSo own (firing.Waits own) (firing.grows own) (firing.new own) stage (copies leave w.queue) → for_end stage ≡ Some end → for_options stage ≡ Some r → 1 ≤ copies leave w.queue
      staged_so (Requested request) so has waits = cc
      staged_so (Connected peer setup) so has waits = cc
      staged_so (Leaving peer setup request) so has waits = so
      staged_so (Closing peer request checked) so has waits = cc
      staged_so (Crossed peer request) so has waits = cc

      by : (found : Option Held) → keeping.FoundSo own (firing.Waits own) (firing.grows own) (firing.new own) found (copies leave w.queue) → request_at for_end found ≡ Some end → request_at for_options found ≡ Some r → 1 ≤ copies leave w.queue
      by None so has waits = cc
      by (Some held) so has waits = staged_so held.stage so has waits

  due_alive : (w : Channels) → firing.Due own w → giving.Alive own w
  due_alive w k = by (held_at own w) k
    where
      staged_so : (stage : Stage) → keeping.StageSo own (firing.Waits own) (firing.grows own) (firing.new own) stage (copies leave w.queue) → giving.Fine own stage (copies leave w.queue)
      staged_so (Requested request) so = tt
      staged_so (Connected peer setup) so = tt
      staged_so (Leaving peer setup request) so = omega (arith, so)
      staged_so (Closing peer request checked) so = tt
      staged_so (Crossed peer request) so = tt

      by : (found : Option Held) → keeping.FoundSo own (firing.Waits own) (firing.grows own) (firing.new own) found (copies leave w.queue) → keeping.FoundSo own (giving.Lives own) (giving.grows own) (giving.new own) found (copies leave w.queue)
      by None so = tt
      by (Some held) so = staged_so held.stage so

  fires_out : (adverse : ℕ) (pair : Pair) → Lone pair.near.run.value → (is_quiet pair ≡ true → copies leave pair.near.run.value.queue ≡ 0) → (let cost : ℕ = one_if (not (is_quiet pair)) in let after : Pair = with_near (occurs Fires pair.near) pair in
      (request_of leave pair.near.run.value ≡ None → Pays wish (cost + adverse) after) → Pays leave (cost + adverse) after → PaysOut adverse pair → PaysOut (cost + adverse) after)
  fires_out adverse pair lone silent single ends pays = record {
    most = most_by (request_of leave v) refl;
    alone = λ none r is. alone_by (request_of leave v) refl none r is;
    left = λ end r has is. inl (due_at w (firing.fires-due own pair.near.policy v) end r has is);
    alive = due_alive w (firing.fires-due own pair.near.policy v);
    ends = ends;
  }
    where
      v : Channels
      v = pair.near.run.value

      w : Channels
      w = (occurs Fires pair.near).run.value

      cost : ℕ
      cost = one_if (not (is_quiet pair))

      after : Pair
      after = with_near (occurs Fires pair.near) pair

      alone_by : (found : Option Request) → request_of leave v ≡ found → request_of leave w ≡ None → (r : Request) → request_of wish w ≡ Some r → r.given ≤ (cost + adverse) + under_way wish r.identifier after
      alone_by None was none r is = (single was).way r is
      alone_by (Some end) was none r is = absurd (never-back own pair.near.policy Fires v lone.0 lone.1 end r was is none)

      spared : (quiet : Bool) → is_quiet pair ≡ quiet → (end : Request) → request_of leave v ≡ Some end → Kept wish (1 + (one_if (not quiet) + adverse)) w
      spared true quiet end was r is = whole (timed-so pair.near.policy wish adverse v pays.most (λ x at. either x (pays.left end x was at)) r is).0
        where
          whole : copies wish w.queue + r.given ≤ 1 + adverse → copies wish w.queue + r.given ≤ 1 + (0 + adverse)
          whole few = omega (arith, few)

          either : (x : Request) → (1 ≤ copies leave v.queue) ⊎ (copies wish v.queue + x.given ≤ adverse + under_way leave end.identifier pair) → x.given ≤ adverse
          either x (inl some) = let none = silent quiet in absurd (omega (arith, some, none))
          either x (inr bound) = let none = quiet_none leave end.identifier pair quiet in omega (arith, bound, none)
      spared false quiet end was r is =
          (timed-so pair.near.policy wish (1 + adverse) v (λ x at. let few = pays.most x at in omega (arith, few)) (λ x at. let few = pays.most x at in omega (arith, few)) r is).0

      most_by : (found : Option Request) → request_of leave v ≡ found → Kept wish (1 + (cost + adverse)) w
      most_by None was = (single was).most
      most_by (Some end) was = spared (is_quiet pair) refl end was

  -- ---- its host gives a PDU

  -- the request for the end that waits was there before, and a copy less waits of it where one was given
  record EndGiven (v w : Channels) (pdu : List ℕ) (end : Request) : Type 0 where
    was : Request
    was_is : request_of leave v ≡ Some was
    same : end.identifier ≡ was.identifier
    goes : copies leave v.queue ≤ one_if (brings (asks_for leave was.identifier) pdu) + copies leave w.queue

  end_given : (v : Channels) (queue : List Queued) (given : Given) (pdu : List ℕ) (end r : Request) → v.queue ≡ queue → queue_gives queue v ≡ Some given → IsPdu given pdu → IsReadAs (Some given) pdu → Distinct own_of v.held
      → request_of leave (queue_given queue v) ≡ Some end → request_of wish (queue_given queue v) ≡ Some r → EndGiven v (queue_given queue v) pdu end
  end_given v [] given pdu end r queue_is gives_it octets read lone has is = either (stays_at v w (keeping.spent-so own (Still v) (still_grows v) (still_new v) v (find gives v.held) lone refl (stays_first v)) end r has is)
    where
      w : Channels
      w = held_given (find gives v.held) v

      none : copies leave w.queue ≡ 0
      none = ap (copies leave) (given-held v (find gives v.held) ∙ queue_is)

      either : Still v end (copies leave w.queue) → EndGiven v w pdu end
      either (inl (at, less)) = record { was = end; was_is = at; same = refl; goes = omega (arith, less) }
      either (inr some) = absurd (omega (arith, some, none))
  end_given v (Answer command ∷ behind) given pdu end r queue_is gives_it octets read lone has is =
      let fewer : copies leave v.queue ≡ copies leave (Answer command ∷ behind) = ap (copies leave) queue_is in record { was = end; was_is = has; same = refl; goes = omega (arith, fewer) }
  end_given v (Ask errand ∷ behind) given pdu end r queue_is gives_it octets read lone has is = by (counted_gave v errand behind leave end has)
    where
      u : Channels
      u = record v { queue = behind }

      after : copies leave (counted errand u).queue ≡ copies leave behind
      after = ap (copies leave) (given-counted u errand)

      before : copies leave v.queue ≡ one_if (same_errand leave errand) + copies leave behind
      before = ap (copies leave) queue_is

      brought : (was : Request) → request_of leave v ≡ Some was → (b : Bool) → same_errand leave errand ≡ b → (command : Option Command) → command_of errand v ≡ command → option_map Signal command ≡ Some given → one_if (same_errand leave errand) ≤ one_if (brings (asks_for leave was.identifier) pdu)
      brought was at false same command is_command goes = let none : one_if (same_errand leave errand) ≡ 0 = ap one_if same in omega (arith, none)
      brought was at true same None is_command goes = cc
      brought was at true same (Some c) is_command goes =
          let it : leave ≡ errand = same-is leave errand same in
          let given_is : Signal c ≡ given = some_is (Signal c) given goes in
          let so : asks_for leave was.identifier c ≡ true = asks_so leave v was c at (ap (λ x. command_of x v) it ∙ is_command) in
          let there : brings (asks_for leave was.identifier) pdu ≡ true = brings_given (asks_for leave was.identifier) c pdu (subst (λ g. IsPdu g pdu) (sym given_is) octets) (subst (λ g. IsReadAs (Some g) pdu) (sym given_is) read) so in
          let one : one_if (same_errand leave errand) ≡ 1 = ap one_if same in
          let two : one_if (brings (asks_for leave was.identifier) pdu) ≡ 1 = ap one_if there in
          omega (arith, one, two)

      by : Gave (copies leave (counted errand u).queue) (copies leave (Ask errand ∷ behind)) (request_of leave v) end → EndGiven v (counted errand u) pdu end
      by (was, at, same, less) =
          let brings_it = brought was at (same_errand leave errand) refl (command_of errand v) refl gives_it in
          record { was = was; was_is = at; same = same; goes = omega (arith, after, before, brings_it) }

  puts_out : (adverse : ℕ) (pair : Pair) (pdu : List ℕ) (given : Option Given) → next_given pair.near.run.value ≡ given → IsUttered (Gives pdu) pair.near.run.value → IsReadAs given pdu → Known pair.near → Lone pair.near.run.value
      → (request_of leave pair.near.run.value ≡ None → Pays wish (0 + adverse) (puts given pdu pair)) → Pays leave (0 + adverse) (puts given pdu pair) → PaysOut adverse pair → PaysOut (0 + adverse) (puts given pdu pair)
  puts_out adverse pair pdu None is uttered read known lone single ends pays = out_on 0 adverse pair pair (unchanged pair.near.run.value) (λ end was has. omega arith) single ends pays
  puts_out adverse pair pdu (Some given) is uttered read known lone single ends pays = record {
    most = λ r at. let few = kept-less wish (1 + adverse) v w (omega arith) (λ x r' at'. pass-less (copies x w.queue) (copies x v.queue) (request_of x v) r' (gives-pass v v.queue refl known.lone x r' at')) pays.most r at in omega (arith, few);
    alone = λ none r at. alone_by (request_of leave v) refl none r at;
    left = λ end r has at. left_by end r has at (end_given v v.queue given pdu end r refl is octets read known.lone has at) (gives-pass v v.queue refl known.lone wish r at);
    alive = giving.gives-alive own v v.queue refl known.lone pays.alive;
    ends = ends;
  }
    where
      v : Channels
      v = pair.near.run.value

      w : Channels
      w = queue_given v.queue v

      octets : IsPdu given pdu
      octets = (subst (λ g. IsSpelled g pdu) is uttered).0

      way_more : (identifier : ℕ) → under_way leave identifier (put pdu pair) ≡ under_way leave identifier pair + one_if (brings (asks_for leave identifier) pdu)
      way_more identifier = let whole = many-last (brings (asks_for leave identifier)) pair.far.coming pdu in omega (arith, whole)

      alone_by : (found : Option Request) → request_of leave v ≡ found → request_of leave w ≡ None → (r : Request) → request_of wish w ≡ Some r → r.given ≤ (0 + adverse) + under_way wish r.identifier (put pdu pair)
      alone_by None was none r at = (single was).way r at
      alone_by (Some end) was none r at = absurd (never-back own pair.near.policy (Gives pdu) v lone.0 lone.1 end r was at none)

      -- where no copy waits now, and one did, it is under way
      went : (end r : Request) → EndGiven v w pdu end → 1 ≤ copies leave v.queue → copies wish w.queue + r.given ≤ 1 + adverse → (copies leave w.queue ≡ 0) ⊎ (1 ≤ copies leave w.queue) → LeftSo (0 + adverse) (put pdu pair) end r
      went end r eg some few (inr waits) = inl waits
      went end r eg some few (inl none) =
          let goes = eg.goes in
          let more = way_more eg.was.identifier in
          inr (subst (λ n. copies wish w.queue + r.given ≤ (0 + adverse) + under_way leave n (put pdu pair)) (sym eg.same) (omega (arith, goes, more, none, some, few)))

      fresh : (end r : Request) → EndGiven v w pdu end → request_of leave w ≡ Some end → request_of wish w ≡ Some r → copies wish w.queue + r.given ≤ 1 → (copies leave w.queue ≡ 0) ⊎ (1 ≤ copies leave w.queue) → LeftSo (0 + adverse) (put pdu pair) end r
      fresh end r eg has at few (inr some) = inl some
      fresh end r eg has at few (inl none) = let one = alive_at w (giving.gives-alive own v v.queue refl known.lone pays.alive) end r has at in let paid = ends.way end has in inr (omega (arith, one, paid, few, none))

      kept : (end r r' : Request) → EndGiven v w pdu end → request_of wish v ≡ Some r' → copies wish w.queue + r.given ≤ copies wish v.queue + r'.given → LeftSo (0 + adverse) (put pdu pair) end r
      kept end r r' eg was less = either (pays.left eg.was r' eg.was_is was)
        where
          either : (1 ≤ copies leave v.queue) ⊎ (copies wish v.queue + r'.given ≤ adverse + under_way leave eg.was.identifier pair) → LeftSo (0 + adverse) (put pdu pair) end r
          either (inl some) = let few = pays.most r' was in went end r eg some (omega (arith, less, few)) (none_or (copies leave w.queue))
          either (inr bound) = let more = way_more eg.was.identifier in inr (subst (λ n. copies wish w.queue + r.given ≤ (0 + adverse) + under_way leave n (put pdu pair)) (sym eg.same) (omega (arith, bound, less, more)))

      left_by : (end r : Request) → request_of leave w ≡ Some end → request_of wish w ≡ Some r → EndGiven v w pdu end → By (copies wish w.queue) (copies wish v.queue) (request_of wish v) r ⊎ Gave (copies wish w.queue) (copies wish v.queue) (request_of wish v) r → LeftSo (0 + adverse) (put pdu pair) end r
      left_by end r has at eg (inl (inl (none, few))) = fresh end r eg has at (omega (arith, none, few)) (none_or (copies leave w.queue))
      left_by end r has at eg (inl (inr (was, less))) = kept end r r eg was (omega (arith, less))
      left_by end r has at eg (inr (r', was, same, less)) = kept end r r' eg was less

  -- ---- each turn

  still_far : (happening : Happening) (pair : Pair) → (happens_near happening pair).far.run ≡ pair.far.run
  still_far (Acts more) pair = by (is_alone more)
    where
      by : (alone : Bool) → (cond alone (with_near (occurs more pair.near) pair) pair).far.run ≡ pair.far.run
      by true = refl
      by false = refl
  still_far (Puts pdu) pair = by (next_given pair.near.run.value)
    where
      by : (given : Option Given) → (puts given pdu pair).far.run ≡ pair.far.run
      by None = refl
      by (Some given) = refl
  still_far Takes pair = refl
  still_far Repeats pair = refl
  still_far Loses pair = refl
  still_far (Damages pdu) pair = refl

  -- what comes in of one of the first
  took_changed : (pair : Pair) → Known pair.near → Lone pair.near.run.value → (pdu : List ℕ) → Changed pair.near.run.value (occurs (Comes pdu) pair.near).run.value
  took_changed pair known lone pdu = occurs_changed (Comes pdu) pair.near known lone refl refl

  -- no more is under way less for the request for the end than the turn costs
  abbrev Falls : Pair → Happening → Type 0
  Falls pair h = (end : Request) → request_of leave pair.near.run.value ≡ Some end → request_of leave (happens_near h pair).near.run.value ≡ Some end → under_way leave end.identifier pair ≤ adverse_by leave h pair (happens_near h pair) + under_way leave end.identifier (happens_near h pair)

  near_turn : (adverse : ℕ) (happening : Happening) (pair : Pair) → Known pair.near → Lone pair.near.run.value → DoesSo IsUttered happening pair.near → IsRead happening pair.near → (happening ≡ Acts Fires → is_quiet pair ≡ true → copies leave pair.near.run.value.queue ≡ 0)
      → adverse_by leave happening pair (happens_near happening pair) ≡ disturbs happening pair → (request_of leave pair.near.run.value ≡ None → Pays wish (disturbs happening pair + adverse) (happens_near happening pair))
      → Pays leave (disturbs happening pair + adverse) (happens_near happening pair) → PaysOut adverse pair → PaysOut (disturbs happening pair + adverse) (happens_near happening pair)
  near_turn adverse happening pair known lone uttered read silent cost single ends pays = by happening uttered read silent cost single ends (falls_near own happening pair)
    where
      v : Channels
      v = pair.near.run.value

      plain : (h : Happening) → Changed v (happens_near h pair).near.run.value → adverse_by leave h pair (happens_near h pair) ≡ disturbs h pair → (request_of leave v ≡ None → Pays wish (disturbs h pair + adverse) (happens_near h pair))
          → Pays leave (disturbs h pair + adverse) (happens_near h pair) → Falls pair h → PaysOut (disturbs h pair + adverse) (happens_near h pair)
      plain h changed costs one other falls = out_on (disturbs h pair) adverse pair (happens_near h pair) changed (λ end was has. let less = falls end was has in omega (arith, less, costs)) one other pays

      took : (coming : List (List ℕ)) → Changed v (takes_first coming pair.near).run.value
      took [] = unchanged v
      took (pdu ∷ coming) = took_changed pair known lone pdu

      repeated : (coming : List (List ℕ)) → Changed v (repeats_first coming pair.near).run.value
      repeated [] = unchanged v
      repeated (pdu ∷ coming) = took_changed pair known lone pdu

      lost : (coming : List (List ℕ)) → Changed v (loses_first coming pair.near).run.value
      lost [] = unchanged v
      lost (pdu ∷ coming) = unchanged v

      damaged : (other : List ℕ) (coming : List (List ℕ)) → Changed v (damages_first other coming pair.near).run.value
      damaged other [] = unchanged v
      damaged other (pdu ∷ coming) = at (has_fcs (channel_of pdu) v)
        where
          at : (checked : Bool) → Changed v (cond checked (occurs (Comes other) (let_go coming pair.near)) (let_go coming pair.near)).run.value
          at true = took_changed pair known lone other
          at false = unchanged v

      acts : (more : Occurrence) (alone : Bool) → is_alone more ≡ alone → is_firing more ≡ false → Changed v (cond alone (with_near (occurs more pair.near) pair) pair).near.run.value
      acts more true alone fires = occurs_changed more pair.near known lone fires (none_given more alone)
      acts more false alone fires = unchanged v

      by : (h : Happening) → DoesSo IsUttered h pair.near → IsRead h pair.near → (h ≡ Acts Fires → is_quiet pair ≡ true → copies leave v.queue ≡ 0) → adverse_by leave h pair (happens_near h pair) ≡ disturbs h pair
          → (request_of leave v ≡ None → Pays wish (disturbs h pair + adverse) (happens_near h pair)) → Pays leave (disturbs h pair + adverse) (happens_near h pair) → Falls pair h → PaysOut (disturbs h pair + adverse) (happens_near h pair)
      by (Acts Fires) says reads quiet costs one other falls = fires_out adverse pair lone (quiet refl) one other pays
      by (Acts (Comes pdu)) says reads quiet costs one other falls = plain (Acts (Comes pdu)) (acts (Comes pdu) (is_alone (Comes pdu)) refl refl) costs one other falls
      by (Acts (Connects psm)) says reads quiet costs one other falls = plain (Acts (Connects psm)) (acts (Connects psm) (is_alone (Connects psm)) refl refl) costs one other falls
      by (Acts AsksFeatures) says reads quiet costs one other falls = plain (Acts AsksFeatures) (acts AsksFeatures (is_alone AsksFeatures) refl refl) costs one other falls
      by (Acts (Disconnects n)) says reads quiet costs one other falls = plain (Acts (Disconnects n)) (acts (Disconnects n) (is_alone (Disconnects n)) refl refl) costs one other falls
      by (Acts (Sends n sdu)) says reads quiet costs one other falls = plain (Acts (Sends n sdu)) (acts (Sends n sdu) (is_alone (Sends n sdu)) refl refl) costs one other falls
      by (Acts (Gives pdu)) says reads quiet costs one other falls = plain (Acts (Gives pdu)) (acts (Gives pdu) (is_alone (Gives pdu)) refl refl) costs one other falls
      by (Acts Tells) says reads quiet costs one other falls = plain (Acts Tells) (acts Tells (is_alone Tells) refl refl) costs one other falls
      by (Puts pdu) says reads quiet costs one other falls = puts_out adverse pair pdu (next_given v) refl says reads known lone one other pays
      by Takes says reads quiet costs one other falls = plain Takes (took pair.near.coming) costs one other falls
      by Repeats says reads quiet costs one other falls = plain Repeats (repeated pair.near.coming) costs one other falls
      by Loses says reads quiet costs one other falls = plain Loses (lost pair.near.coming) costs one other falls
      by (Damages pdu) says reads quiet costs one other falls = plain (Damages pdu) (damaged pdu pair.near.coming) costs one other falls

  far_turn : (adverse : ℕ) (happening : Happening) (pair : Pair) → Known pair.near → DoesSo IsUttered happening pair.near → IsRead happening pair.near → adverse_by leave happening (turned pair) (turned (happens_near happening pair)) ≡ disturbs happening (turned pair)
      → (request_of leave pair.far.run.value ≡ None → Pays wish (disturbs happening (turned pair) + adverse) (turned (happens_near happening pair))) → Pays leave (disturbs happening (turned pair) + adverse) (turned (happens_near happening pair))
      → PaysOut adverse (turned pair) → PaysOut (disturbs happening (turned pair) + adverse) (turned (happens_near happening pair))
  far_turn adverse happening pair known uttered read cost single ends pays =
      out_on (disturbs happening (turned pair)) adverse (turned pair) (turned (happens_near happening pair)) (subst (λ (r : Run). Changed pair.far.run.value r.value) (sym (still_far happening pair)) (unchanged pair.far.run.value))
      (λ end was has. let less = falls_far own happening pair end known uttered read was in omega (arith, less, cost)) single ends pays

  -- ---- all turns

  lone_at : (near far : Policy) (turns : List Turn) → Lone (pair_of near far turns).near.run.value
  lone_at near far turns =
      let (list, is) = (each-end_runs near far turns).0 in
      let sound = all-sound near list in
      subst (λ (r : Run). Lone r.value) (sym is) (sound.core.lone, sound.core.held_below)

  module _ (near far : Policy) (heeded : MetIsHeeded) where
    one_out : (adverse : ℕ) (past : List Turn) (at : Side) (happening : Happening) → (let pair : Pair = pair_of near far past in let after : Pair = happens_at at happening pair in
        BothRead pair → DoesSo IsUttered happening (end_at at pair) → IsRead happening (end_at at pair) → IsMetBy leave Near at happening pair → (request_of leave pair.near.run.value ≡ None → IsMetBy wish Near at happening pair)
        → (at ≡ Near → happening ≡ Acts Fires → is_quiet pair ≡ true → copies leave pair.near.run.value.queue ≡ 0) → PaysOut adverse pair → PaysOut (disturbs happening pair + adverse) after)
    one_out adverse past at happening reads says read met_end met_wish silent pays = by at says read silent refl
      where
        pair : Pair
        pair = pair_of near far past

        turn : Turn
        turn = record { side = at; happening = happening }

        costs : (e : Errand) → IsMetBy e Near at happening pair → adverse_by e happening pair (happens_at at happening pair) ≡ disturbs happening pair
        costs e met = heeded_cost e Near happening pair (happens_at at happening pair) (meets_one e Near at happening pair (known-at near far past at) reads met)

        paid : (e : Errand) → IsMetBy e Near at happening pair → Pays e adverse pair → Pays e (disturbs happening pair + adverse) (happens_at at happening pair)
        paid e met so_far = subst (λ n. Pays e (n + adverse) (happens_at at happening pair)) (costs e met) (one_turn e Near adverse pair turn (known-at near far past at) says read so_far)

        ends_now : Pays leave (disturbs happening pair + adverse) (happens_at at happening pair)
        ends_now = paid leave met_end pays.ends

        single_now : request_of leave pair.near.run.value ≡ None → Pays wish (disturbs happening pair + adverse) (happens_at at happening pair)
        single_now none = paid wish (met_wish none) (record { most = pays.most; way = pays.alone none })

        quiet_same : disturbs happening (turned (turned pair)) ≡ disturbs happening pair
        quiet_same = refl

        by : (which : Side) → DoesSo IsUttered happening (end_at which pair) → IsRead happening (end_at which pair) → (which ≡ Near → happening ≡ Acts Fires → is_quiet pair ≡ true → copies leave pair.near.run.value.queue ≡ 0) → at ≡ which → PaysOut (disturbs happening pair + adverse) (happens_at at happening pair)
        by Near says_it reads_it quiet is =
            subst (λ s. PaysOut (disturbs happening pair + adverse) (happens_at s happening pair)) (sym is)
            (near_turn adverse happening pair (known-at near far past Near) (lone_at near far past) says_it reads_it (quiet refl) (subst (λ s. adverse_by leave happening pair (happens_at s happening pair) ≡ disturbs happening pair) is (costs leave met_end))
            (λ none. subst (λ s. Pays wish (disturbs happening pair + adverse) (happens_at s happening pair)) is (single_now none)) (subst (λ s. Pays leave (disturbs happening pair + adverse) (happens_at s happening pair)) is ends_now) pays)
        by Far says_it reads_it quiet is =
            subst (λ s. PaysOut (disturbs happening pair + adverse) (happens_at s happening pair)) (sym is)
            (far_turn adverse happening (turned pair) (known-at near far past Far) says_it reads_it (subst (λ s. adverse_by leave happening pair (happens_at s happening pair) ≡ disturbs happening pair) is (costs leave met_end))
            (λ none. subst (λ s. Pays wish (disturbs happening pair + adverse) (happens_at s happening pair)) is (single_now none)) (subst (λ s. Pays leave (disturbs happening pair + adverse) (happens_at s happening pair)) is ends_now) pays)

    all_out : (adverse : ℕ) (past turns : List Turn) → BothRead (pair_of near far past) → EachAfter (λ front turn. DoesSo IsUttered turn.happening (end_at turn.side (pair_of near far front))) past turns
        → EachAfter (λ front turn. IsRead turn.happening (end_at turn.side (pair_of near far front))) past turns → EachAfter (λ front turn. IsMetBy leave Near turn.side turn.happening (pair_of near far front)) past turns
        → EachAfter (λ front turn. request_of leave (pair_of near far front).near.run.value ≡ None → IsMetBy wish Near turn.side turn.happening (pair_of near far front)) past turns
        → EachAfter (λ front turn. turn.side ≡ Near → turn.happening ≡ Acts Fires → is_quiet (pair_of near far front) ≡ true → copies leave (pair_of near far front).near.run.value.queue ≡ 0) past turns
        → PaysOut adverse (pair_of near far past) → PaysOut (disturbances (pair_of near far past) turns + adverse) (pair_of near far (past ++ turns))
    all_out adverse past [] reads says read met_end met_wish silent pays = subst (λ (l : List Turn). PaysOut (0 + adverse) (pair_of near far l)) (sym (append-nil past)) (subst (λ n. PaysOut n (pair_of near far past)) (same_sum adverse) pays)
      where
        same_sum : (n : ℕ) → n ≡ 0 + n
        same_sum n = omega arith
    all_out adverse past (turn ∷ turns) reads (says, saying) (read, reading) (met_end, ends) (met_wish, wishes) (silent, silences) pays =
        let next : pair_of near far (past ++ turn ∷ []) ≡ pair_after (pair_of near far past) turn = fold-append pair_after (new_pair near far) past (turn ∷ []) in
        subst (λ (l : List Turn). PaysOut (disturbances (pair_of near far past) (turn ∷ turns) + adverse) (pair_of near far l)) (append_assoc past (turn ∷ []) turns)
        (subst (λ n. PaysOut n (pair_of near far ((past ++ turn ∷ []) ++ turns))) (whole next)
        (all_out (disturbs turn.happening (pair_of near far past) + adverse) (past ++ turn ∷ []) turns (subst BothRead (sym next) (one_reads (pair_of near far past) turn read reads)) saying reading ends wishes silences
        (subst (PaysOut (disturbs turn.happening (pair_of near far past) + adverse)) (sym next) (one_out adverse past turn.side turn.happening reads says read met_end met_wish silent pays))))
      where
        whole : pair_of near far (past ++ turn ∷ []) ≡ pair_after (pair_of near far past) turn
            → disturbances (pair_of near far (past ++ turn ∷ [])) turns + (disturbs turn.happening (pair_of near far past) + adverse) ≡ disturbances (pair_of near far past) (turn ∷ turns) + adverse
        whole next = let same : disturbances (pair_of near far (past ++ turn ∷ [])) turns ≡ disturbances (pair_after (pair_of near far past) turn) turns = ap (λ p. disturbances p turns) next in omega (arith, same)

    first_out : PaysOut 0 (new_pair near far)
    first_out = record {
      most = λ r is. cc;
      alone = λ none r is. cc;
      left = λ end r has is. cc;
      alive = tt;
      ends = first_pays leave Near near far;
    }

pub options-of_left_are_counted : MetIsHeeded → OptionsOfLeftAreCounted
options-of_left_are_counted heeded near far turns fair read own ends wishes silent request is =
    let paid = all_out own near far heeded 0 [] turns (record { near = λ pdu none. elim none [ ]; far = λ pdu none. elim none [ ] }) fair read ends wishes silent (first_out own near far heeded) in
    let most = paid.most request is in omega (arith, most)
