-- Where two hosts have a channel, their machines are two ends; and such are those of each channel on either of whose endpoints nothing is held.
use Rattle.std.proofs.Common.{◌≡◌, ℕ, ◌≤◌, List, [], Bool, true, false, Option, Some, None, refl, sym, ap, subst, ◌∙◌, ◌⊎◌, inl, inr, arith}
use Rattle.channel_laws.specs.l2cap_config.specs.declared.wish.Agreed.{Agreed}
use Rattle.channel_laws.specs.l2cap_config.specs.declared.wish.Mode.TheVariants.{Basic}
use Rattle.channel_laws.specs.l2cap_config.specs.declared.wish.Wish.{Wish}
use Rattle.channel_laws.specs.ertm_model.specs.Value.{Ertm}
use Rattle.channel_laws.specs.ertm_model.specs.Giving.{timed}
use Rattle.channel_laws.specs.ertm_model.specs.Pair.{End, Fire, new_end, Pair, ByA, turned}
use Rattle.channel_laws.specs.ertm_model.specs.Order.{StandsBoth}
use Rattle.channel_laws.specs.channel_model.specs.Value.{Carrier, Plain, Retransmitting, Stage, Requested, Connected, Leaving, Closing, Crossed, Held, Channels}
use Rattle.channel_laws.specs.channel_model.specs.Policies.{Policy}
use Rattle.channel_laws.specs.channel_model.specs.Changing.{held_at}
use Rattle.channel_laws.specs.channel_model.proofs.Going.{IsAccepted, CarrierGoes}
use Rattle.channel_laws.proofs.Attending.{IsNew, new-carrier}
use Rattle.channel_laws.proofs.Joining.{Terms, Holds, other_terms, IsBelow, held-also}
use Rattle.channel_laws.proofs.Keeping.{OfCarrier, StageKeeps, HeldKeeps, AllKeep, KeepsOn, Keeps}
use Rattle.recovered_laws.proofs.Moving.{Ends, ends-fires, swap, ends-swapped}

-- ---- what is so of one end, where it has the channel

abbrev pub OfEnd : Type 1
OfEnd = (opened : Bool) → Option Carrier → Type 0

abbrev pub On : OfEnd → OfCarrier
On Q wish leaving opened carrier = Q opened carrier

-- also before it is there
pub record Here (policy : Policy) (own : ℕ) (Q : OfEnd) (v : Channels) : Type 0 where
  pub held : HeldKeeps policy (On Q) (held_at own v)
  pub before : v.next ≤ own → Q false None

pub here-also : (policy : Policy) (own : ℕ) (Q R : OfEnd) (v : Channels) → ((opened : Bool) (carrier : Option Carrier) → Q opened carrier → R opened carrier) → Here policy own Q v → Here policy own R v
here-also policy own Q R v also h = record {
  held = held-also policy (On Q) (On R) (λ wish leaving opened carrier. also opened carrier) (held_at own v) h.held;
  before = λ above. also false None (h.before above);
}

pub here-both : (policy : Policy) (own : ℕ) (Q R : OfEnd) (v : Channels) → Here policy own Q v → Here policy own R v → Here policy own (λ opened carrier. Q opened carrier × R opened carrier) v
here-both policy own Q R v h g = record { held = of (held_at own v) h.held g.held; before = λ above. (h.before above, g.before above) }
  where
    at : (wish : Wish) (stage : Stage) → StageKeeps (On Q) wish stage → StageKeeps (On R) wish stage → StageKeeps (On (λ opened carrier. Q opened carrier × R opened carrier)) wish stage
    at wish (Requested request) one other = (one, other)
    at wish (Connected peer setup) one other = (one, other)
    at wish (Leaving peer setup request) one other = (one, other)
    at wish (Closing peer request checked) one other = tt
    at wish (Crossed peer request) one other = tt

    of : (held : Option Held) → HeldKeeps policy (On Q) held → HeldKeeps policy (On R) held → HeldKeeps policy (On (λ opened carrier. Q opened carrier × R opened carrier)) held
    of None one other = tt
    of (Some held) one other = at (policy.wish held.psm) held.stage one other

-- it stays as it is
pub here-same : (policy : Policy) (own : ℕ) (Q : OfEnd) (v w : Channels) → held_at own w ≡ held_at own v → w.next ≡ v.next → Here policy own Q v → Here policy own Q w
here-same policy own Q v w held_is next_is h = record { held = subst (HeldKeeps policy (On Q)) (sym held_is) h.held; before = λ above. h.before (omega (arith, next_is, above)) }

-- ---- what it does by itself

-- where it is the one
abbrev pub Its : (own : ℕ) → OfEnd → ℕ → OfCarrier
Its own Q other wish leaving opened carrier = other ≡ own → Q opened carrier

pub spread : (policy : Policy) (own : ℕ) (Q : OfEnd) (other : ℕ) (held : Option Held) → (other ≡ own → HeldKeeps policy (On Q) held) → HeldKeeps policy (Its own Q other) held
spread policy own Q other None was = tt
spread policy own Q other (Some held) was = by held.stage was
  where
    by : (stage : Stage) → (other ≡ own → StageKeeps (On Q) (policy.wish held.psm) stage) → StageKeeps (Its own Q other) (policy.wish held.psm) stage
    by (Requested request) was = was
    by (Connected peer setup) was = was
    by (Leaving peer setup request) was = was
    by (Closing peer request checked) was = tt
    by (Crossed peer request) was = tt

-- what a walk keeps
abbrev pub WalksOn : Policy → (own : ℕ) → OfEnd → Channels → Channels → Type 0
WalksOn policy own Q v w = KeepsOn policy (Its own Q) v w

pub here-walks : (policy : Policy) (own : ℕ) (Q : OfEnd) (v w : Channels) → IsBelow v → WalksOn policy own Q v w → Here policy own Q v → Here policy own Q w
here-walks policy own Q v w below keeps h = record {
  held = held-also policy (Its own Q own) (On Q) (λ wish leaving opened carrier is. is refl) (held_at own w) (all.at own);
  before = λ above. all.fresh own 0 above refl;
}
  where
    all : AllKeep policy (Its own Q) w
    all = keeps (record {
      at = λ other. spread policy own Q other (held_at other v) (λ same. subst (λ k. HeldKeeps policy (On Q) (held_at k v)) (sym same) h.held);
      fresh = λ other psm above same. h.before (subst (λ k. v.next ≤ k) same above);
      below = below;
    })

-- a machine stays, or its timer fires
abbrev pub Goes : (fires : Bool) → Carrier → Carrier → Type 0
Goes fires (Plain agreed waiting) (Plain agreed' waiting') = Unit {0}
Goes fires (Plain agreed waiting) (Retransmitting machine) = ⊥
Goes fires (Retransmitting machine) (Plain agreed waiting) = ⊥
Goes fires (Retransmitting machine) (Retransmitting after) = (after ≡ machine) ⊎ ((fires ≡ true) × (after ≡ timed machine) × ((timed machine).closed ≡ None))

pub goes-same : (fires : Bool) (carrier : Carrier) → Goes fires carrier carrier
goes-same fires (Plain agreed waiting) = tt
goes-same fires (Retransmitting machine) = inl refl

-- of a carrier in place of another, or where there was none
abbrev pub Follows : (fires : Bool) → OfEnd → Type 0
Follows fires Q = (wish : Wish) (opened after_opened : Bool) (before after : Option Carrier) → (after_opened ≡ false → opened ≡ false) → CarrierGoes wish (Goes fires) opened before after → Q opened before → Q after_opened after

pub walks-on : (policy : Policy) (own : ℕ) (Q : OfEnd) (fires : Bool) → Follows fires Q → Keeps policy (Goes fires) (Its own Q)
walks-on policy own Q fires follows = record {
  same = goes-same fires;
  goes = λ other psm leaving opened after_opened before after shut goes was same. follows (policy.wish psm) opened after_opened before after shut goes (was same);
  leaves = λ other psm opened carrier was. was;
}

-- ---- two ends

-- The machines are those of two ends, of which something more is so. Nothing is under way to a host that has not accepted options.
pub record Twins (t : Terms) (to_near to_far : List (List ℕ)) (K : Pair → Type 0) (opened : Bool) (carrier : Option Carrier) (far_opened : Bool) (far_carrier : Option Carrier) : Type 0 where
  pub pair : Pair
  pub ends : Ends t to_near to_far pair
  pub near_holds : Holds t.mine pair.a opened carrier
  pub far_holds : Holds t.other pair.b far_opened far_carrier
  pub near_first : carrier ≡ None → pair.b.queue ≡ []
  pub far_first : far_carrier ≡ None → pair.a.queue ≡ []
  pub kept : K pair

pub twins-also : (t : Terms) (n f : List (List ℕ)) (K L : Pair → Type 0) (opened : Bool) (carrier : Option Carrier) (far_opened : Bool) (far_carrier : Option Carrier) → ((p : Pair) → K p → L p) → Twins t n f K opened carrier far_opened far_carrier → Twins t n f L opened carrier far_opened far_carrier
twins-also t n f K L opened carrier far_opened far_carrier also h = record { pair = h.pair; ends = h.ends; near_holds = h.near_holds; far_holds = h.far_holds; near_first = h.near_first; far_first = h.far_first; kept = also h.pair h.kept }

pub twins-swapped : (t : Terms) (n f : List (List ℕ)) (K L : Pair → Type 0) (opened : Bool) (carrier : Option Carrier) (far_opened : Bool) (far_carrier : Option Carrier) → ((p : Pair) → K p → L (swap p)) → Twins t n f K opened carrier far_opened far_carrier → Twins (other_terms t) f n L far_opened far_carrier opened carrier
twins-swapped t n f K L opened carrier far_opened far_carrier also h = record { pair = swap h.pair; ends = ends-swapped t n f h.pair h.ends; near_holds = h.far_holds; far_holds = h.near_holds; near_first = h.far_first; far_first = h.near_first; kept = also h.pair h.kept }

-- of the near end, with what the far one has
abbrev pub Far : Policy → (other : ℕ) → Channels → (Bool → Option Carrier → OfEnd) → OfEnd
Far policy other w R opened carrier = Here policy other (R opened carrier) w

-- what is so of two ends is so whichever comes first
pub here_at : (policy : Policy) (own : ℕ) (Q : OfEnd) (v : Channels) (held : Held) (stage : Stage) → held_at own v ≡ Some held → held.stage ≡ stage → Here policy own Q v → StageKeeps (On Q) (policy.wish held.psm) stage
here_at policy own Q v held stage found is h = subst (StageKeeps (On Q) (policy.wish held.psm)) is (subst (HeldKeeps policy (On Q)) found h.held)

pub here-turned : (near far : Policy) (own other : ℕ) (v w : Channels) (R : Bool → Option Carrier → OfEnd) → Here near own (Far far other w R) v
    → Here far other (λ far_opened far_carrier. Here near own (λ opened carrier. R opened carrier far_opened far_carrier) v) w
here-turned near far own other v w R h = record { held = of (held_at other w) refl; before = λ above. here-also near own (Far far other w R) _ v (λ opened carrier here. here.before above) h }
  where
    at : (held : Held) → held_at other w ≡ Some held → (stage : Stage) → held.stage ≡ stage → StageKeeps (On (λ far_opened far_carrier. Here near own (λ opened carrier. R opened carrier far_opened far_carrier) v)) (far.wish held.psm) stage
    at held found (Requested request) is = here-also near own (Far far other w R) _ v (λ opened carrier here. here_at far other (R opened carrier) w held (Requested request) found is here) h
    at held found (Connected peer setup) is = here-also near own (Far far other w R) _ v (λ opened carrier here. here_at far other (R opened carrier) w held (Connected peer setup) found is here) h
    at held found (Leaving peer setup request) is = here-also near own (Far far other w R) _ v (λ opened carrier here. here_at far other (R opened carrier) w held (Leaving peer setup request) found is here) h
    at held found (Closing peer request checked) is = tt
    at held found (Crossed peer request) is = tt

    of : (held : Option Held) → held_at other w ≡ held → HeldKeeps far (On (λ far_opened far_carrier. Here near own (λ opened carrier. R opened carrier far_opened far_carrier) v)) held
    of None found = tt
    of (Some held) found = at held found held.stage refl

-- ---- they go on

pub new_holds : (wish : Wish) (agreed : Agreed) (e : End) (opened : Bool) (carrier : Carrier) → IsAccepted wish carrier → e ≡ new_end agreed → Holds agreed e opened (Some carrier)
new_holds wish agreed e opened carrier accepted new = by (new-carrier wish carrier accepted)
  where
    by : ((a : Agreed) × (carrier ≡ Plain a None) × (wish.mode ≡ Basic)) ⊎ ((a : Agreed) × IsNew wish a carrier) → Holds agreed e opened (Some carrier)
    by (inl (a, is, basic)) = subst (λ c. Holds agreed e opened (Some c)) (sym is) new
    by (inr (a, made)) = subst (λ c. Holds agreed e opened (Some c)) (sym made.is) (inl (a, refl, new))

pub still_new : (agreed : Agreed) (e : End) (opened : Bool) (carrier : Carrier) → opened ≡ false → Holds agreed e opened (Some carrier) → e ≡ new_end agreed
still_new agreed e opened (Plain a waiting) shut holds = holds
still_new agreed e opened (Retransmitting machine) shut (inl (a, is, new)) = new
still_new agreed e opened (Retransmitting machine) shut (inr (is, now, open')) = let never : true ≡ false = sym now ∙ shut in absurd cc

pub stays_open : (before after : Bool) → (after ≡ false → before ≡ false) → before ≡ true → after ≡ true
stays_open before true shut now = refl
stays_open before false shut now = let never : true ≡ false = sym now ∙ shut refl in absurd cc

-- the timer may fire any number of times
abbrev pub FiresOn : (fires : Bool) → (Pair → Type 0) → Type 0
FiresOn fires K = fires ≡ true → (p : Pair) → StandsBoth p → K p → K (turned (ByA Fire) p)

module _ (t : Terms) (n f : List (List ℕ)) (K : Pair → Type 0) (fires : Bool) (on : FiresOn fires K) (far_opened : Bool) (far_carrier : Option Carrier) where
  abbrev pub Now : OfEnd
  Now opened carrier = Twins t n f K opened carrier far_opened far_carrier

  held_so : (opened after_opened : Bool) (carrier : Option Carrier) (after : Carrier) → (h : Now opened carrier) → Holds t.mine h.pair.a after_opened (Some after) → Now after_opened (Some after)
  held_so opened after_opened carrier after h holds = record { pair = h.pair; ends = h.ends; near_holds = holds; far_holds = h.far_holds; near_first = λ never. cc; far_first = h.far_first; kept = h.kept }

  by_itself : (opened after_opened : Bool) (before after : Carrier) → (after_opened ≡ false → opened ≡ false) → Goes fires before after → (h : Now opened (Some before)) → Holds t.mine h.pair.a opened (Some before) → Now after_opened (Some after)
  by_itself opened after_opened (Plain a waiting) (Plain b waiting') shut goes h holds = held_so opened after_opened _ _ h holds
  by_itself opened after_opened (Plain a waiting) (Retransmitting m) shut goes h holds = elim goes [ ]
  by_itself opened after_opened (Retransmitting m) (Plain b waiting) shut goes h holds = elim goes [ ]
  by_itself opened after_opened (Retransmitting m) (Retransmitting after) shut (inl same) h (inl (a, is, new)) = held_so opened after_opened _ _ h (inl (a, same ∙ is, new))
  by_itself opened after_opened (Retransmitting m) (Retransmitting after) shut (inl same) h (inr (is, now, open')) = held_so opened after_opened _ _ h (inr (same ∙ is, stays_open opened after_opened shut now, ap (λ (x : Ertm). x.closed) same ∙ open'))
  by_itself opened after_opened (Retransmitting m) (Retransmitting after) shut (inr (fired, again, still)) h (inl (a, is, new)) = held_so opened after_opened _ _ h (inl (a, again ∙ ap timed is, new))
  by_itself opened after_opened (Retransmitting m) (Retransmitting after) shut (inr (fired, again, still)) h (inr (is, now, open')) = record {
    pair = turned (ByA Fire) h.pair;
    ends = ends-fires t n f h.pair (subst (λ (x : Ertm). (timed x).closed ≡ None) is still) h.ends;
    near_holds = inr (again ∙ ap timed is, stays_open opened after_opened shut now, ap (λ (x : Ertm). x.closed) again ∙ still);
    far_holds = h.far_holds;
    near_first = λ never. cc;
    far_first = h.far_first;
    kept = on fired h.pair h.ends.joins.stands h.kept;
  }

  pub twins-follow : Follows fires Now
  twins-follow wish opened after_opened None None shut goes h = record { pair = h.pair; ends = h.ends; near_holds = h.near_holds; far_holds = h.far_holds; near_first = h.near_first; far_first = h.far_first; kept = h.kept }
  twins-follow wish opened after_opened None (Some after) shut goes h = held_so opened after_opened None after h (new_holds wish t.mine h.pair.a after_opened after goes h.near_holds)
  twins-follow wish opened after_opened (Some before) None shut goes h = elim goes [ ]
  twins-follow wish opened after_opened (Some before) (Some after) shut (inl goes) h = by_itself opened after_opened before after shut goes h h.near_holds
  twins-follow wish opened after_opened (Some before) (Some after) shut (inr (closed, accepted)) h = held_so opened after_opened (Some before) after h (new_holds wish t.mine h.pair.a after_opened after accepted (still_new t.mine h.pair.a opened before closed h.near_holds))

-- so do both of them
abbrev pub Both : Terms → (to_near to_far : List (List ℕ)) → (Pair → Type 0) → Policy → (other : ℕ) → Channels → OfEnd
Both t n f K far other w = Far far other w (Twins t n f K)

pub both-follow : (t : Terms) (n f : List (List ℕ)) (K : Pair → Type 0) (fires : Bool) → FiresOn fires K → (far : Policy) (other : ℕ) (w : Channels) → Follows fires (Both t n f K far other w)
both-follow t n f K fires on far other w wish opened after_opened before after shut goes h =
    here-also far other (Twins t n f K opened before) (Twins t n f K after_opened after) w (λ far_opened far_carrier here. twins-follow t n f K fires on far_opened far_carrier wish opened after_opened before after shut goes here) h
