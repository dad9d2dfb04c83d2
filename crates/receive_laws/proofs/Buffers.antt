-- A host that has done all that it can has said all, where a buffer of its controller is free: so what it hears comes in turn.
use Rattle.std.proofs.Common.{◌≡◌, ◌&&◌, ◌==◌, not, nat_lt, Bool, true, false, ℕ, List, [], ◌∷◌, length, Option, Some, None, is_some, refl, sym, ap, subst, ◌∙◌, true≢false, arith}
use Rattle.std.proofs.lemmas.Bool.{eqb-true}
use Rattle.receiving.specs.acl_fragments.specs.Pieces.{Piece}
use Rattle.receiving.specs.h4_framing.specs.Packets.{Packet}
use Rattle.receiving.specs.host_link.specs.Hearing.{PlainNews, Nothing, LinkUp, LinkFailed, LinkDown, Pdu, news_of}
use Rattle.receiving.specs.host_link.specs.PuttingOut.{has_room, has_buffer, is_waiting}
use Rattle.receiving.specs.host_model.specs.Circumstances.{Circumstance}
use Rattle.receiving.specs.host_model.specs.Profiles.{Profile}
use Rattle.receiving.specs.bt_host.specs.Stacks.{Standing, Rests, can_put_piece}
use Rattle.receiving.specs.bt_host.proofs.Resting.{none_goes}
use Rattle.receiving.specs.Turns.{Stand, Posture, HasRest, HearsIn}
use Rattle.receive_laws.specs.InTurn.{SaidAll, IsToldAtRest, TakesInTurn, IsFree, IsToldFree, TakesFree}

nothing : (pieces : List Piece) → length pieces ≡ 0 → pieces ≡ []
nothing [] none = refl
nothing (piece ∷ pieces) none = absurd (omega (arith, none))

so_it_is : (b : Bool) → not b ≡ false → b ≡ true
so_it_is true off = refl
so_it_is false off = absurd (true≢false off)

none_waits : (pieces : List Piece) → not (length pieces == 0) ≡ false → pieces ≡ []
none_waits pieces off = nothing pieces (eqb-true (length pieces) 0 (so_it_is (length pieces == 0) off))

idle_by : (link room buffer waiting : Bool) → link ≡ true → room ≡ true → buffer ≡ true → (link && ((room && buffer) && waiting)) ≡ false → waiting ≡ false
idle_by true true true waiting on has free off = off
idle_by false room buffer waiting on has free off = absurd (true≢false (sym on))
idle_by true false buffer waiting on has free off = absurd (true≢false (sym has))
idle_by true true false waiting on has free off = absurd (true≢false (sym free))

may_by : (link room buffer waiting : Bool) → link ≡ true → room ≡ true → buffer ≡ true → waiting ≡ false → (link && (not waiting && (buffer && room))) ≡ true
may_by true true true false on has free off = refl
may_by false room buffer waiting on has free off = absurd (true≢false (sym on))
may_by true false buffer waiting on has free off = absurd (true≢false (sym has))
may_by true true false waiting on has free off = absurd (true≢false (sym free))
may_by true true true true on has free off = absurd (true≢false off)

pub lets_say : {S : Type 0} (A : Profile S) (now : Standing S) → Rests A now → now.line.out ≡ [] → IsFree now → SaidAll now
lets_say A now rests none free =
    let line = now.line in
    let room : has_room line ≡ true = ap (λ (out : List ℕ). nat_lt (length out) 65536) none in
    let idle = idle_by (is_some line.link) (has_room line) (has_buffer line) (is_waiting line) free.link room free.buffer (sym (ap can_put_piece rests.pieces) ∙ none_goes line) in
    record {
      pieces = none_waits line.pieces idle;
      none_more = rests.said (may_by (is_some line.link) (has_room line) (has_buffer line) (is_waiting line) free.link room free.buffer idle);
    }

told_free : {S : Type 0} (A : Profile S) (news : PlainNews) (now : Standing S) → Rests A now → now.line.out ≡ [] → IsToldFree news now → IsToldAtRest news now
told_free A Nothing now rests none free = tt
told_free A LinkUp now rests none free = tt
told_free A (LinkFailed status) now rests none free = free
told_free A (LinkDown reason) now rests none free = tt
told_free A (Pdu channel octets) now rests none free = lets_say A now rests none free

-- where nothing is held back a host that hears a packet has done all that it can
pub rests_there : {S : Type 0} (A : Profile S) (packet : Packet) (old : Posture S) (between after : Stand S) → (old.full ≡ false → between ≡ old.stands) → HearsIn A (Some packet) old.full between after → old.full ≡ false → HasRest A old.stands
rests_there A packet old between after still hears off = subst (HasRest A) (still off) (hears.2 off)

-- where a host hears a packet it holds nothing back
abbrev pub HoldsNone : {S : Type 0} → Option Packet → Posture S → Type 0
HoldsNone None now = Unit {0}
HoldsNone (Some packet) now = now.full ≡ false

pub takes_free : {S : Type 0} (A : Profile S) (packet : Option Packet) (old : Posture S) (between after : Stand S) → (old.full ≡ false → between ≡ old.stands) → HearsIn A packet old.full between after → HoldsNone packet old → (all : List Circumstance) → (old.stands all).line.out ≡ []
    → TakesFree packet (old.stands all) → TakesInTurn packet (old.stands all)
takes_free A None old between after still hears off all none free = tt
takes_free A (Some packet) old between after still hears off all none free = told_free A (news_of packet (old.stands all).line) (old.stands all) (rests_there A packet old between after still hears off all) none free
