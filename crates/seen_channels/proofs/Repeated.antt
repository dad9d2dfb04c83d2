-- What is said twice.
use Rattle.std.proofs.Common.{◌≡◌, ℕ, List, [], ◌∷◌, Bool, true, false, cond, eqb, ◌&&◌, Option, Some, None, refl, ap, inl, inr}
use Rattle.std.proofs.lemmas.Bool.Decides.{eqb_tells}
use Rattle.seen_channels.specs.declared.direction.Direction.{Direction}
use Rattle.seen_channels.specs.declared.direction.Direction.TheVariants.{Out, In}
use Rattle.seen_channels.specs.declared.channel.Channel.{Channel}
use Rattle.seen_channels.specs.declared.channel.Request.{Request}
use Rattle.seen_channels.specs.Tellings.{number, find, is_same, is_found, is_known, with_channel, channel_of, granted, with_channels, in_mode, with_mode, request_of}
use Rattle.seen_channels.specs.Laws.{SameResponseAgain, LaterModeCounts}

eqb_same : (a : ℕ) → eqb a a ≡ true
eqb_same a = elim (eqb_tells a a) [ inl same ↦ same.0 | inr other ↦ absurd (other.1 refl) ]

same_self : (c : Channel) → is_same c c ≡ true
same_self c = rw (eqb_same c.identifier, eqb_same c.psm, eqb_same c.far, eqb_same c.near) refl

found_self : (here : Bool) (c : Channel) (earlier : Option Channel) → here ≡ true → is_found c (cond here (Some c) earlier) ≡ true
found_self true c earlier is = same_self c
found_self false c earlier is = absurd cc

both : (a b : Bool) → a ≡ true → b ≡ true → (a && b) ≡ true
both true b first second = second
both false b first second = absurd cc

known_first : (c : Channel) (cs : List Channel) → is_known c (c ∷ cs) ≡ true
known_first c cs =
    both (is_found c (cond (eqb c.far c.far) (Some c) (find Out c.far cs))) (is_found c (cond (eqb c.near c.near) (Some c) (find In c.near cs)))
    (found_self (eqb c.far c.far) c (find Out c.far cs) (eqb_same c.far)) (found_self (eqb c.near c.near) c (find In c.near cs) (eqb_same c.near))

again_by : (known : Bool) (c : Channel) (cs : List Channel) → is_known c cs ≡ known → with_channel c (cond known cs (c ∷ cs)) ≡ cond known cs (c ∷ cs)
again_by true c cs is = rw is refl
again_by false c cs is = rw (known_first c cs) refl

channel_again : (c : Channel) (cs : List Channel) → with_channel c (with_channel c cs) ≡ with_channel c cs
channel_again c cs = again_by (is_known c cs) c cs refl

granted_again : (direction : Direction) (identifier destination : ℕ) (request : Option Request) (cs : List Channel) → granted direction identifier destination request (granted direction identifier destination request cs) ≡ granted direction identifier destination request cs
granted_again direction identifier destination None cs = refl
granted_again direction identifier destination (Some request) cs = channel_again (channel_of direction identifier request destination) cs

pub response_again : SameResponseAgain
response_again Out identifier destination source source' status status' learnt = ap (with_channels learnt) (granted_again Out identifier destination (request_of identifier learnt.asked_in) learnt.channels)
response_again In identifier destination source source' status status' learnt = ap (with_channels learnt) (granted_again In identifier destination (request_of identifier learnt.asked_out) learnt.channels)

number_kept : (d : Direction) (c : Channel) (mode : Bool) → number d (in_mode c mode) ≡ number d c
number_kept Out c mode = refl
number_kept In c mode = refl

mode_by : (here : Bool) (d : Direction) (cid : ℕ) (first second : Bool) (c : Channel) (cs : List Channel) → eqb (number d c) cid ≡ here → with_mode d cid second (with_mode d cid first cs) ≡ with_mode d cid second cs
    → with_mode d cid second (cond here (in_mode c first ∷ cs) (c ∷ with_mode d cid first cs)) ≡ cond here (in_mode c second ∷ cs) (c ∷ with_mode d cid second cs)
mode_by true d cid first second c cs is ih = rw (number_kept d c first, is) refl
mode_by false d cid first second c cs is ih = rw is (ap (λ (l : List Channel). c ∷ l) ih)

pub later_mode : LaterModeCounts
later_mode d cid first second [] = refl
later_mode d cid first second (c ∷ cs) = mode_by (eqb (number d c) cid) d cid first second c cs refl (later_mode d cid first second cs)
