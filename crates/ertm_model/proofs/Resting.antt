-- Timers that fire where both ends are at rest are free; and all that happens is paid.
use Rattle.std.proofs.Common.{ℕ, ◌≡◌, ◌+◌, ◌-◌, ◌≤◌, ◌⊎◌, inl, inr, Bool, true, false, cond, List, [], ◌∷◌, length, Option, Some, None, refl, ap, sym, ◌∙◌, subst, arith}
use Rattle.std.specs.Prelude.{nat_le}
use Rattle.std.proofs.lemmas.Bool.Decides.{leb_tells}
use Rattle.l2cap_config.specs.declared.wish.Agreed.{Agreed}
use Rattle.ertm_model.specs.declared.reason.ErtmReason.{ErtmReason}
use Rattle.ertm_model.specs.declared.reason.ErtmReason.TheVariants.{RetryLimit}
use Rattle.ertm_model.specs.Value.{Kept, Poll, NoPoll, Due, Waits, Reply, NoReply, Ertm}
use Rattle.ertm_model.specs.Giving.{Giving, giving, closing, polling, first_poll, poll_timed, open_timed, timed}
use Rattle.ertm_model.specs.Pair.{Sent, End, Fire, Pair, ByA, ByB, turned, new_end, new_pair}
use Rattle.ertm_model.specs.Order.{Stands, StandsBoth}
use Rattle.ertm_model.specs.Recovery.{IsAtRest, Happening, Usual, Rest, happened, all_happened, MayHappen, AllMayHappen, cost, all_costs, Affords, AlwaysAffords}
use Rattle.ertm_model.proofs.Lists.{get-none}
use Rattle.ertm_model.proofs.Inverting.{IsQuiet, IsSpent, IsSilent, Gives, gives}
use Rattle.ertm_model.proofs.Sending.{put-length}
use Rattle.ertm_model.proofs.Standing.{turns-stand, new-stands, swapped}
use Rattle.ertm_model.proofs.Accounts.{Back, rejs, rej_due, poll_due}
use Rattle.ertm_model.proofs.Paying.{Owes, Final, Comes, Moves, Pays}
use Rattle.ertm_model.proofs.Affording.{PaysOf, Account, Accounts, account_open, same_account, shut_account, turned_accounts}

-- ---- both timers fire where both ends are at rest

-- an end that waits, or whose frames are not acknowledged, has something to blame
blames : (gap spare a next c : ℕ) (polled : Bool) (reply : Reply) → polled ≡ false → reply ≡ NoReply → (a + next ≤ c → a ≡ c → ⊥)
    → (Back c (a + next) [] ⊎ (1 ≤ gap + spare + rej_due reply + rejs [])) × (Owes a c polled reply [] ⊎ (1 ≤ spare)) → 1 ≤ gap + spare
blames gap spare a next c polled reply unpolled unreplied never (inr some, other) = let none : rej_due reply ≡ 0 = rw unreplied refl in omega arith
blames gap spare a next c polled reply unpolled unreplied never (inl low, inl (inl same)) = absurd (never low same)
blames gap spare a next c polled reply unpolled unreplied never (inl low, inl (inr (inl e))) = let f : true ≡ false = sym e ∙ unpolled in cc
blames gap spare a next c polled reply unpolled unreplied never (inl low, inl (inr (inr e))) = absurd (e unreplied)
blames gap spare a next c polled reply unpolled unreplied never (inl low, inr some) = omega arith

waits_blame : (gap spare a next c : ℕ) (polled : Bool) (reply : Reply) → polled ≡ false → Final a c spare polled reply [] × (Comes [] polled [] ⊎ (1 ≤ spare)) → 1 ≤ gap + spare
waits_blame gap spare a next c polled reply unpolled (final, inl (inl e)) = cc
waits_blame gap spare a next c polled reply unpolled (final, inl (inr (inl e))) = let f : true ≡ false = sym e ∙ unpolled in cc
waits_blame gap spare a next c polled reply unpolled (final, inl (inr (inr e))) = cc
waits_blame gap spare a next c polled reply unpolled (final, inr some) = omega arith

-- so the poll is paid already
rest_pays :
    {wrong a next : ℕ} {unacked : List Kept} {poll : Poll} {polls : ℕ} {shut : Option ErtmReason} {rejecting polled : Bool} {reply : Reply} {c : ℕ} → poll_due poll ≡ 0 → a ≤ c
    → (h : Pays wrong a next unacked poll polls [] shut rejecting polled reply c []) → 1 ≤ h.gap + h.spare
    → Pays wrong a next unacked Due polls [] shut rejecting polled reply c []
rest_pays {wrong} {a} {next} {unacked} {poll} {polls} {shut} {rejecting} {polled} {reply} {c} none low h some = record {
  gap = 0;
  spare = h.gap + h.spare - 1;
  paid = h.paid;
  enough = let e = h.enough in omega arith;
  within = h.within;
  given = h.given;
  some = λ e. cc;
  live = λ e. record { from = c; chains = omega arith; no_gap = λ f g. omega arith; moves = λ f. cc };
}

quiet_at : (m : Ertm) → m.closed ≡ None → IsSilent m → IsQuiet m
quiet_at m open_ (inl shut) = absurd (shut open_)
quiet_at m open_ (inr (quiet, rest)) = quiet

-- both queues are empty
rest_of : (wrong : ℕ) (x y : End) → IsAtRest x y → (k : PaysOf wrong x y)
    → Pays wrong k.a x.machine.sender.next x.machine.sender.unacked x.machine.sender.poll x.machine.sender.polls [] y.machine.closed y.machine.receiver.rejecting y.machine.receiver.polled y.machine.receiver.reply (length y.got) []
rest_of wrong x y rest k =
    subst (λ (l : List Sent). Pays wrong k.a x.machine.sender.next x.machine.sender.unacked x.machine.sender.poll x.machine.sender.polls l y.machine.closed y.machine.receiver.rejecting y.machine.receiver.polled y.machine.receiver.reply (length y.got) []) rest.none_x
    (subst (λ (l : List Sent). Pays wrong k.a x.machine.sender.next x.machine.sender.unacked x.machine.sender.poll x.machine.sender.polls x.queue y.machine.closed y.machine.receiver.rejecting y.machine.receiver.polled y.machine.receiver.reply (length y.got) l) rest.none_y k.pays)

rest_polling : (wrong : ℕ) (x y : End) → Stands x y → IsAtRest x y → x.machine.sender.busy ≡ false → poll_due x.machine.sender.poll ≡ 0 → (k : PaysOf wrong x y)
    → ((h : Pays wrong k.a x.machine.sender.next x.machine.sender.unacked x.machine.sender.poll x.machine.sender.polls [] y.machine.closed y.machine.receiver.rejecting y.machine.receiver.polled y.machine.receiver.reply (length y.got) []) → 1 ≤ h.gap + h.spare)
    → Account wrong (record x { machine = polling x.machine }) y
rest_polling wrong x y s rest ready none k some =
    let h = rest_of wrong x y rest k in
    let long = put-length s.there.sends in
    let a_c = s.there.a_c in
    let a_is = k.a_is in
    account_open wrong (record x { machine = polling x.machine }) y ready rest.open_x (record {
      a = k.a;
      a_is = k.a_is;
      pays = rw (rest.none_x, rest.none_y) (rest_pays none (omega arith) h (some h));
    })

-- an end at rest, by its poll
pub record AtRest (m : Ertm) : Type 0 where
  pub quiet : IsQuiet m
  pub rests : (m.sender.poll ≡ Waits) ⊎ ((m.sender.poll ≡ NoPoll) × ((m.sender.busy ≡ true) ⊎ ((m.sender.busy ≡ false) × IsSpent m)))

pub at_rest : (m : Ertm) → m.closed ≡ None → IsSilent m → AtRest m
at_rest m open_ (inl shut) = absurd (shut open_)
at_rest m open_ (inr (quiet, rests)) = record { quiet = quiet; rests = rests }

pub silent : (m : Ertm) → giving m ≡ None → IsSilent m
silent m is = subst (λ (g : Option Giving). Gives m g) is (gives m)

idle_account : (wrong : ℕ) (x y : End) (unacked : List Kept) → x.machine.sender.unacked ≡ unacked → Stands x y → IsAtRest x y → x.machine.sender.poll ≡ NoPoll → IsSpent x.machine → IsQuiet y.machine
    → Account wrong x y → Account wrong (record x { machine = first_poll unacked x.machine }) y
idle_account wrong x y [] is s rest no_poll spent quiet h = h
idle_account wrong x y (kept ∷ behind) is s rest no_poll spent quiet h =
    let k = h.pays rest.open_x in
    let due : poll_due x.machine.sender.poll ≡ 0 = rw no_poll refl in
    let end = get-none x.machine.sender.unacked x.machine.sender.next spent.at_end in
    let some = ap length is in
    rest_polling wrong x y s rest h.ready due k (λ p.
    let l = p.live rest.open_y in
    let moves = subst (λ (q : Poll). Moves q k.a x.machine.sender.next (length y.got) p.gap p.spare [] y.machine.receiver.polled y.machine.receiver.reply []) no_poll l.moves in
    let c_n = s.there.c_n in
    let long = put-length s.there.sends in
    let a_is = k.a_is in
    blames p.gap p.spare k.a x.machine.sender.next (length y.got) y.machine.receiver.polled y.machine.receiver.reply quiet.unpolled quiet.unreplied (λ low same. omega arith) moves)

late_at_rest : (wrong : ℕ) (x y : End) (late : Bool) → nat_le x.machine.agreed.tries x.machine.sender.polls ≡ late → Stands x y → IsAtRest x y → x.machine.sender.poll ≡ Waits → IsQuiet y.machine
    → Account wrong x y → Account wrong (record x { machine = cond late (closing RetryLimit x.machine) (polling x.machine) }) y
late_at_rest wrong x y true is s rest waits quiet h =
    let polled = h.affords.polled in
    let few : x.machine.agreed.tries ≤ x.machine.sender.polls = elim (leb_tells x.machine.agreed.tries x.machine.sender.polls) [ inl (e, le) ↦ le | inr (e, lt) ↦ (let f : true ≡ false = sym is ∙ e in cc) ] in
    record { affords = record { given = h.affords.given; polled = h.affords.polled; limit = λ e. omega arith }; ready = h.ready; pays = λ e. cc }
late_at_rest wrong x y false is s rest waits quiet h =
    let due : poll_due x.machine.sender.poll ≡ 0 = rw waits refl in
    let k = h.pays rest.open_x in
    rest_polling wrong x y s rest h.ready due k (λ p.
    let l = p.live rest.open_y in
    let moves = subst (λ (q : Poll). Moves q k.a x.machine.sender.next (length y.got) p.gap p.spare [] y.machine.receiver.polled y.machine.receiver.reply []) waits l.moves in
    waits_blame p.gap p.spare k.a x.machine.sender.next (length y.got) y.machine.receiver.polled y.machine.receiver.reply quiet.unpolled moves)

rest_by : (wrong : ℕ) (x y : End) → Stands x y → IsAtRest x y → AtRest x.machine → IsQuiet y.machine → Account wrong x y → Account wrong (record x { machine = poll_timed x.machine.sender.poll x.machine }) y
rest_by wrong x y s rest at_ quiet h = elim at_.rests [
  | inl waits ↦ subst (λ (q : Poll). Account wrong (record x { machine = poll_timed q x.machine }) y) (sym waits) (late_at_rest wrong x y (nat_le x.machine.agreed.tries x.machine.sender.polls) refl s rest waits quiet h)
  | inr (no_poll, inl busy) ↦ (let e : true ≡ false = sym busy ∙ h.ready in cc)
  | inr (no_poll, inr (ready, spent)) ↦ subst (λ (q : Poll). Account wrong (record x { machine = poll_timed q x.machine }) y) (sym no_poll) (idle_account wrong x y x.machine.sender.unacked refl s rest no_poll spent quiet h)
]

rest_account : (wrong : ℕ) (x y : End) → Stands x y → IsAtRest x y → Account wrong x y → Account wrong (record x { machine = timed x.machine }) y
rest_account wrong x y s rest h =
    subst (λ (o : Option ErtmReason). Account wrong (record x { machine = open_timed o x.machine }) y) (sym rest.open_x)
    (rest_by wrong x y s rest (at_rest x.machine rest.open_x (silent x.machine rest.silent_x)) (quiet_at y.machine rest.open_y (silent y.machine rest.silent_y)) h)

-- the other end's timer changes nothing in an account
first_same : (wrong : ℕ) (x y : End) (unacked : List Kept) → Account wrong x y → Account wrong x (record y { machine = first_poll unacked y.machine })
first_same wrong x y [] h = h
first_same wrong x y (kept ∷ behind) h = same_account wrong y x (polling y.machine) refl refl refl refl h

late_same : (wrong : ℕ) (x y : End) (late : Bool) → Account wrong x y → Account wrong x (record y { machine = cond late (closing RetryLimit y.machine) (polling y.machine) })
late_same wrong x y true h = shut_account wrong y x RetryLimit (closing RetryLimit y.machine) refl refl refl refl h
late_same wrong x y false h = same_account wrong y x (polling y.machine) refl refl refl refl h

poll_same : (wrong : ℕ) (x y : End) (poll : Poll) → Account wrong x y → Account wrong x (record y { machine = poll_timed poll y.machine })
poll_same wrong x y NoPoll h = first_same wrong x y y.machine.sender.unacked h
poll_same wrong x y Due h = h
poll_same wrong x y Waits h = late_same wrong x y (nat_le y.machine.agreed.tries y.machine.sender.polls) h

timed_same : (wrong : ℕ) (x y : End) (shut : Option ErtmReason) → Account wrong x y → Account wrong x (record y { machine = open_timed shut y.machine })
timed_same wrong x y (Some reason) h = h
timed_same wrong x y None h = poll_same wrong x y y.machine.sender.poll h

pub turned_rest : {x y : End} → IsAtRest x y → IsAtRest y x
turned_rest h = record { open_x = h.open_y; open_y = h.open_x; none_x = h.none_y; none_y = h.none_x; silent_x = h.silent_y; silent_y = h.silent_x }

rests_accounts : (wrong : ℕ) (p : Pair) → StandsBoth p → IsAtRest p.a p.b → Accounts wrong p.a p.b → Accounts wrong (happened Rest p).a (happened Rest p).b
rests_accounts wrong p s rest h = record {
  there = timed_same wrong (record p.a { machine = timed p.a.machine }) p.b p.b.machine.closed (rest_account wrong p.a p.b s rest h.there);
  back = timed_same wrong (record p.b { machine = timed p.b.machine }) p.a p.a.machine.closed (rest_account wrong p.b p.a (swapped s) (turned_rest rest) h.back);
}

-- ---- all that happens

pub happened_stands : (happening : Happening) (p : Pair) → MayHappen happening p → StandsBoth p → StandsBoth (happened happening p)
happened_stands (Usual turn) p may s = turns-stand turn p may s
happened_stands Rest p may s = turns-stand (ByB Fire) (turned (ByA Fire) p) tt (turns-stand (ByA Fire) p tt s)

happened_accounts : (wrong : ℕ) (happening : Happening) (p : Pair) → MayHappen happening p → StandsBoth p → Accounts wrong p.a p.b → Accounts (cost happening + wrong) (happened happening p).a (happened happening p).b
happened_accounts wrong (Usual turn) p may s h = turned_accounts wrong turn p may s h
happened_accounts wrong Rest p may s h = let e : 0 + wrong ≡ wrong = omega arith in rw e (rests_accounts wrong p s may h)

pub all_accounts : (wrong : ℕ) (happenings : List Happening) (p : Pair) → AllMayHappen happenings p → StandsBoth p → Accounts wrong p.a p.b
    → Accounts (wrong + all_costs happenings) (all_happened happenings p).a (all_happened happenings p).b
all_accounts wrong [] p may s h = let e : wrong + 0 ≡ wrong = omega arith in rw e h
all_accounts wrong (happening ∷ happenings) p may s h =
    let e : wrong + (cost happening + all_costs happenings) ≡ cost happening + wrong + all_costs happenings = omega arith in
    rw e (all_accounts (cost happening + wrong) happenings (happened happening p) may.1 (happened_stands happening p may.0 s) (happened_accounts wrong happening p may.0 s h))

pub new_account : (a b : Agreed) → Account 0 (new_end a) (new_end b)
new_account a b = record {
  affords = record { given = tt; polled = omega arith; limit = λ e. cc };
  ready = refl;
  pays = λ e. record {
    a = 0;
    a_is = refl;
    pays = record {
      gap = 0;
      spare = 0;
      paid = 0;
      enough = omega arith;
      within = omega arith;
      given = tt;
      some = λ f. cc;
      live = λ f. record { from = 0; chains = omega arith; no_gap = λ g k. omega arith; moves = (inl (omega arith), inl (inl refl)) };
    };
  };
}

pub always-affords : AlwaysAffords
always-affords a b happenings meets met may =
    let h = all_accounts 0 happenings (new_pair a b) may (new-stands a b meets met) (record { there = new_account a b; back = new_account b a }) in
    let e : 0 + all_costs happenings ≡ all_costs happenings = omega arith in
    (subst (λ (n : ℕ). Affords n (all_happened happenings (new_pair a b)).a) e h.there.affords, subst (λ (n : ℕ). Affords n (all_happened happenings (new_pair a b)).b) e h.back.affords)
