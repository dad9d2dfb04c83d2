-- What a firing says waits to be given behind it, where no channel is on its way out while its own options are asked for.
use Rattle.std.proofs.Common.{◌≡◌, ℕ, List, [], ◌∷◌, ◌++◌, Bool, true, false, cond, not, ◌&&◌, ◌||◌, eqb, Some, refl, sym, ap, ap₂, ◌∙◌, append_assoc, append-nil}
use Rattle.std.specs.List.{list_any}
use Rattle.push_laws.specs.link_talk.specs.Sayings.{Saying}
use Rattle.channel_laws.specs.channel_model.specs.declared.errand.Errand.{Errand}
use Rattle.channel_laws.specs.channel_model.specs.declared.errand.Errand.TheVariants as errands
use Rattle.channel_laws.specs.channel_model.specs.Value.{Queued, Ask, Channels}
use Rattle.channel_laws.specs.channel_model.specs.Changing.{held_at, same_errand, is_copy, is_due, queued}
use Rattle.channel_laws.specs.channel_model.specs.Asking.{next_identifier}
use Rattle.channel_laws.specs.channel_model.specs.Giving.{command_of}
use Rattle.channel_laws.specs.channel_model.proofs.Lookups.{eqb-same}
use Rattle.channel_laws.specs.OwnTalk.{said_of, asked_between, newest}
use Rattle.channel_laws.specs.Runs.{given_up, said_again, said_on_firing}
use Rattle.channel_laws.proofs.Asking.{next-apart}
use Rattle.host_laws.specs.Seen.{spoken_of}
use Rattle.host_laws.proofs.Moving.{spoken-both, commands-spoken, given-up_none}
use Rattle.host_laws.proofs.Replying.{asked-stays, asked-one}

-- ---- what is said between two moments of a firing

and_not : (a b : Bool) → (a && (b && not b)) ≡ false
and_not true true = refl
and_not true false = refl
and_not false b = refl

and_off : (a : Bool) → (a && false) ≡ false
and_off true = refl
and_off false = refl

abbrev again_by : Bool → Errand → Channels → List Saying
again_by test errand after = cond test (said_of (Some errand) after) []

pub same-due : (errand : Errand) (before after : Channels) → is_due errand after ≡ is_due errand before → said_again errand before after ≡ []
same-due errand before after same =
    ap (λ b. again_by (eqb after.identifier before.identifier && (b && not (is_due errand before))) errand after) same ∙ ap (λ t. again_by t errand after) (and_not (eqb after.identifier before.identifier) (is_due errand before))

other_identifier : (errand : Errand) (before after : Channels) → after.identifier ≡ next_identifier before.identifier → said_again errand before after ≡ []
other_identifier errand before after next =
    ap (λ n. again_by (eqb n before.identifier && (is_due errand after && not (is_due errand before))) errand after) next
    ∙ ap (λ b. again_by (b && (is_due errand after && not (is_due errand before))) errand after) (next-apart before.identifier)

-- it is due now and was not before
pub now-due : (errand : Errand) (before after : Channels) → after.identifier ≡ before.identifier → is_due errand after ≡ true → is_due errand before ≡ false → said_again errand before after ≡ said_of (Some errand) after
now-due errand before after same now was =
    ap (λ n. again_by (eqb n before.identifier && (is_due errand after && not (is_due errand before))) errand after) same
    ∙ (ap (λ b. again_by (b && (is_due errand after && not (is_due errand before))) errand after) (eqb-same before.identifier)
    ∙ ap₂ (λ a b. again_by (a && not b) errand after) now was)

-- the parts of what is said
parts : (own : ℕ) (before after : Channels) (one two three four : List Saying) → said_again (errands.Connection own) before after ≡ one → said_again (errands.Configuration own) before after ≡ two → said_again (errands.Disconnection own) before after ≡ three
    → asked_between before after ≡ four → spoken_of (said_on_firing own before after) ≡ spoken_of (one ++ (two ++ (three ++ four)))
parts own before after one two three four is_one is_two is_three is_four =
    let gave = given_up own before after in
    ap₂ (λ (a b : List Saying). spoken_of (a ++ b)) is_one (ap₂ (λ (a b : List Saying). a ++ b) is_two (ap₂ (λ (a b : List Saying). a ++ (b ++ gave)) is_three is_four))
    ∙ (ap spoken_of (ap (λ (rest : List Saying). one ++ rest) (ap (λ (rest : List Saying). two ++ rest) (sym (append_assoc three four gave)) ∙ sym (append_assoc two (three ++ four) gave)) ∙ sym (append_assoc one (two ++ (three ++ four)) gave))
    ∙ (spoken-both (one ++ (two ++ (three ++ four))) gave
    ∙ (ap (λ (rest : List Saying). spoken_of (one ++ (two ++ (three ++ four))) ++ rest) (given-up_none (held_at own before) (held_at own after)) ∙ append-nil (spoken_of (one ++ (two ++ (three ++ four)))))))

pub still-said : (own : ℕ) (before after : Channels) → after.identifier ≡ before.identifier → after.queue ≡ before.queue → spoken_of (said_on_firing own before after) ≡ []
still-said own before after same queue_is =
    parts own before after [] [] [] [] (same-due (errands.Connection own) before after (ap (list_any (is_copy (errands.Connection own))) queue_is)) (same-due (errands.Configuration own) before after (ap (list_any (is_copy (errands.Configuration own))) queue_is))
    (same-due (errands.Disconnection own) before after (ap (list_any (is_copy (errands.Disconnection own))) queue_is)) (asked-stays before after same)

pub any-last : (errand other : Errand) (queue : List Queued) → list_any (is_copy errand) (queue ++ Ask other ∷ []) ≡ (list_any (is_copy errand) queue || same_errand errand other)
any-last errand other [] = or_off (same_errand errand other)
  where
    or_off : (b : Bool) → (b || false) ≡ b
    or_off true = refl
    or_off false = refl
any-last errand other (one ∷ queue) = ap (λ b. is_copy errand one || b) (any-last errand other queue) ∙ assoc (is_copy errand one) (list_any (is_copy errand) queue) (same_errand errand other)
  where
    assoc : (a b c : Bool) → (a || (b || c)) ≡ ((a || b) || c)
    assoc true b c = refl
    assoc false b c = refl

or_off : (b : Bool) → (b || false) ≡ b
or_off true = refl
or_off false = refl

other_due : (errand other : Errand) (before : Channels) → same_errand errand other ≡ false → is_due errand (queued (Ask other) before) ≡ is_due errand before
other_due errand other before apart = any-last errand other before.queue ∙ (ap (λ b. is_due errand before || b) apart ∙ or_off (is_due errand before))

pub self-due : (errand : Errand) (before : Channels) → same_errand errand errand ≡ true → is_due errand (queued (Ask errand) before) ≡ true
self-due errand before same = any-last errand errand before.queue ∙ (ap (λ b. is_due errand before || b) same ∙ or_on (is_due errand before))
  where
    or_on : (b : Bool) → (b || true) ≡ true
    or_on true = refl
    or_on false = refl

-- one that is asked for again
pub again-connection : (own : ℕ) (u : Channels) → is_due (errands.Connection own) u ≡ false → (let w = queued (Ask (errands.Connection own)) u in spoken_of (said_on_firing own u w) ≡ said_of (Some (errands.Connection own)) w)
again-connection own u was =
    let w = queued (Ask (errands.Connection own)) u in
    parts own u w (said_of (Some (errands.Connection own)) w) [] [] [] (now-due (errands.Connection own) u w refl (self-due (errands.Connection own) u (eqb-same own)) was)
    (same-due (errands.Configuration own) u w (other_due (errands.Configuration own) (errands.Connection own) u refl)) (same-due (errands.Disconnection own) u w (other_due (errands.Disconnection own) (errands.Connection own) u refl)) (asked-stays u w refl)
    ∙ (ap spoken_of (append-nil (said_of (Some (errands.Connection own)) w)) ∙ commands-spoken (command_of (errands.Connection own) w))

pub again-configuration : (own : ℕ) (u : Channels) → is_due (errands.Configuration own) u ≡ false → (let w = queued (Ask (errands.Configuration own)) u in spoken_of (said_on_firing own u w) ≡ said_of (Some (errands.Configuration own)) w)
again-configuration own u was =
    let w = queued (Ask (errands.Configuration own)) u in
    parts own u w [] (said_of (Some (errands.Configuration own)) w) [] [] (same-due (errands.Connection own) u w (other_due (errands.Connection own) (errands.Configuration own) u refl))
    (now-due (errands.Configuration own) u w refl (self-due (errands.Configuration own) u (eqb-same own)) was) (same-due (errands.Disconnection own) u w (other_due (errands.Disconnection own) (errands.Configuration own) u refl)) (asked-stays u w refl)
    ∙ (ap spoken_of (append-nil (said_of (Some (errands.Configuration own)) w)) ∙ commands-spoken (command_of (errands.Configuration own) w))

pub again-disconnection : (own : ℕ) (u : Channels) → is_due (errands.Disconnection own) u ≡ false → (let w = queued (Ask (errands.Disconnection own)) u in spoken_of (said_on_firing own u w) ≡ said_of (Some (errands.Disconnection own)) w)
again-disconnection own u was =
    let w = queued (Ask (errands.Disconnection own)) u in
    parts own u w [] [] (said_of (Some (errands.Disconnection own)) w) [] (same-due (errands.Connection own) u w (other_due (errands.Connection own) (errands.Disconnection own) u refl))
    (same-due (errands.Configuration own) u w (other_due (errands.Configuration own) (errands.Disconnection own) u refl)) (now-due (errands.Disconnection own) u w refl (self-due (errands.Disconnection own) u (eqb-same own)) was) (asked-stays u w refl)
    ∙ (ap spoken_of (append-nil (said_of (Some (errands.Disconnection own)) w)) ∙ commands-spoken (command_of (errands.Disconnection own) w))

-- the end is asked for
pub closed-said : (own : ℕ) (u w : Channels) → w.identifier ≡ next_identifier u.identifier → newest w.queue ≡ Some (errands.Disconnection own) → spoken_of (said_on_firing own u w) ≡ said_of (Some (errands.Disconnection own)) w
closed-said own u w next last =
    parts own u w [] [] [] (said_of (Some (errands.Disconnection own)) w) (other_identifier (errands.Connection own) u w next) (other_identifier (errands.Configuration own) u w next) (other_identifier (errands.Disconnection own) u w next)
    (asked-one u w (errands.Disconnection own) next last)
    ∙ commands-spoken (command_of (errands.Disconnection own) w)
