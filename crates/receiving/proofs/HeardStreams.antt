-- The laws of a host that is fed a stream.
use Rattle.std.proofs.Common.{◌≡◌, ◌≢◌, ◌∙◌, inl, inr, ℕ, ◌+◌, ◌≤◌, Bool, true, false, not, nat_lt, List, [], ◌∷◌, ◌++◌, length, refl, sym, ap, subst, true≢false, append_assoc, length-append, arith}
use Rattle.std.specs.Prelude.{Option, Some, None, IfSome, Result, Ok, Err}
use Rattle.std.specs.List.{AllByRecursion}
use Rattle.std.proofs.lemmas.List.{append-nil}
use Rattle.h4_framing.specs.declared.refusal.H4Refusal.{H4Refusal}
use Rattle.h4_framing.specs.declared.refusal.H4Refusal.TheVariants as h4
use Rattle.h4_framing.specs.Packets.{Packet, spellings, IsPacket}
use Rattle.h4_framing.specs.Stream.{Ending, Whole, Cut, Fault, Reads, GoesWrong, IsUnfinished}
use Rattle.h4_framing.proofs.ExtentLemmas.{wrong_more}
use Rattle.h4_framing.proofs.ReadingLemmas.{one_reading}
use Rattle.bt_host.specs.Refusals.{acl_limit}
use Rattle.receiving.specs.declared.fault.StreamRefusal.TheVariants as refusals
use Rattle.receiving.specs.declared.fault.ListenFault.{ListenFault}
use Rattle.receiving.specs.declared.fault.ListenFault.TheVariants.{Refused, ReadFault, WriteFault, NoMemory}
use Rattle.receiving.specs.Turns.{emptied, packets_in}
use Rattle.receiving.specs.Coming.{input_limit, Ends}
use Rattle.receiving.specs.Laws.{NothingIsHeldBack, IsHeard, StreamsAreHeard}
use Rattle.receiving.proofs.Still.{rests_emptied, moves_still}

not_not : (b : Bool) → not b ≡ false → b ≡ true
not_not true is = refl
not_not false is = absurd (true≢false is)

pub nothing_is_held_back : {S : Type 0} → NothingIsHeldBack S
nothing_is_held_back A now after rests room moves rest =
    moves_still A (λ rest. emptied (now rest)) after (λ rest. rests_emptied A (now rest) (rests rest) (not_not (nat_lt (length (now rest).line.out) 65536) (room rest))) moves rest

-- ---- streams

abbrev never_whole : Ending → Type 0
never_whole Whole = ⊥
never_whole Cut = Unit {0}
never_whole (Fault refusal place) = Unit {0}

other_end : (all : List ℕ) (packets heard : List Packet) (ending : Ending) → Reads acl_limit all packets Whole → Reads acl_limit all heard ending → never_whole ending → ⊥
other_end all packets heard ending reads others never = subst never_whole (sym (one_reading acl_limit all packets heard Whole ending reads others).1) never

reads_wrong : (all rest more : List ℕ) (packets heard : List Packet) (refusal : H4Refusal) (n : ℕ) → Reads acl_limit all packets Whole → AllByRecursion (IsPacket acl_limit) heard → all ≡ spellings heard ++ (rest ++ more) → GoesWrong acl_limit rest refusal n → ⊥
reads_wrong all rest more packets heard refusal n reads each is wrong =
    other_end all packets heard (Fault refusal (length (spellings heard) + n)) reads
    (record { each = each; rest = rest ++ more; whole = is; ends = (n, wrong_more acl_limit rest more refusal n wrong, refl) }) tt

reads_cut : (all rest : List ℕ) (packets heard : List Packet) → Reads acl_limit all packets Whole → AllByRecursion (IsPacket acl_limit) heard → all ≡ spellings heard ++ rest → rest ≢ [] → IsUnfinished acl_limit rest → ⊥
reads_cut all rest packets heard reads each is some unfinished = other_end all packets heard Cut reads (record { each = each; rest = rest; whole = is; ends = (some, unfinished) }) tt

none_behind : (xs ys : List ℕ) → ys ≡ [] → xs ++ ys ≡ xs
none_behind xs ys none = ap (λ (t : List ℕ). xs ++ t) none ∙ append-nil xs

left_none : (left : Option (List ℕ)) (rest : List ℕ) → left ≡ Some rest → IfSome left (λ octets. octets ≡ []) → rest ≡ []
left_none None rest is none = absurd cc
left_none (Some octets) rest is none = let same : octets ≡ rest = cc in sym same ∙ none

module _ (all : List ℕ) (packets heard : List Packet) (octets rest behind more : List ℕ) (left : Option (List ℕ)) (reads : Reads acl_limit all packets Whole) (each : AllByRecursion (IsPacket acl_limit) heard)
    (short : length all ≤ input_limit) (parts : all ≡ (octets ++ behind) ++ more) (whole : octets ≡ spellings heard ++ rest) (left_is : left ≡ Some more) where
  all_parts : all ≡ spellings heard ++ (rest ++ (behind ++ more))
  all_parts =
      parts ∙ append_assoc octets behind more ∙ ap (λ (t : List ℕ). t ++ (behind ++ more)) whole ∙ append_assoc (spellings heard) rest (behind ++ more)

  at_end : behind ≡ [] → IfSome left (λ octets. octets ≡ []) → all ≡ spellings heard ++ rest
  at_end none end = all_parts ∙ ap (λ (t : List ℕ). spellings heard ++ t) (none_behind rest (behind ++ more) (none_behind behind more (left_none left more left_is end) ∙ none))

  long : length all ≡ length (spellings heard) + (length rest + (length behind + length more))
  long =
      ap (λ (t : List ℕ). length t) all_parts ∙ length-append (spellings heard) (rest ++ (behind ++ more)) ∙ ap (λ (n : ℕ). length (spellings heard) + n) (length-append rest (behind ++ more))
      ∙ ap (λ (n : ℕ). length (spellings heard) + (length rest + n)) (length-append behind more)

  none_of : (xs : List ℕ) → length xs ≡ 0 → xs ≡ []
  none_of [] is = refl
  none_of (x ∷ xs) is = absurd (omega arith)

  pub is_heard : (line : _) (result : Result (Unit {0}) ListenFault) → Ends line (length (spellings heard)) rest behind left result → IsHeard packets heard result
  is_heard line (Ok done) (none, nothing, end) =
      sym (one_reading acl_limit all packets heard Whole Whole reads (record { each = each; rest = rest; whole = at_end nothing end; ends = none })).0
  is_heard line (Err (Refused refusals.BadIndicator place)) (n, wrong, is) = reads_wrong all rest (behind ++ more) packets heard h4.BadIndicator n reads each all_parts wrong
  is_heard line (Err (Refused refusals.AclTooLong place)) (n, wrong, is) = reads_wrong all rest (behind ++ more) packets heard h4.AclTooLong n reads each all_parts wrong
  is_heard line (Err (Refused refusals.Truncated place)) (is, some, none, end, (n, least, fits)) = reads_cut all rest packets heard reads each (at_end none end) some (least.some.0, least.some.1)
  is_heard line (Err (Refused refusals.CommandFailed place)) ends = tt
  is_heard line (Err (Refused refusals.BadBuffers place)) ends = tt
  is_heard line (Err (Refused refusals.TooLong place)) (is, inl (some, none, end, (n, least, past))) = reads_cut all rest packets heard reads each (at_end none end) some (least.some.0, least.some.1)
  is_heard line (Err (Refused refusals.TooLong place)) (is, inr (unfinished, full, inl some)) =
      let nothing : behind ≡ [] = none_of behind (omega (arith, long, full, short)) in
      let end : more ≡ [] = none_of more (omega (arith, long, full, short)) in
      reads_cut all rest packets heard reads each (all_parts ∙ ap (λ (t : List ℕ). spellings heard ++ t) (none_behind rest (behind ++ more) (none_behind behind more end ∙ nothing))) some unfinished
  is_heard line (Err (Refused refusals.TooLong place)) (is, inr (unfinished, full, inr some)) = absurd (some (none_of behind (omega (arith, long, full, short))))
  is_heard line (Err ReadFault) ends = tt
  is_heard line (Err WriteFault) ends = tt
  is_heard line (Err NoMemory) ends = tt

pub streams_are_heard : {S : Type 0} → StreamsAreHeard S
streams_are_heard A first all packets left before after stands result reads short comes =
    let (more, parts, is) = comes.took in
    is_heard all packets (packets_in comes.halts.turns) comes.octets comes.halts.rest comes.behind more left reads comes.halts.each short parts comes.halts.whole is (comes.halts.last.stands []).line result comes.halts.ends
