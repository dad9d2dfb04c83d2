-- PDU after PDU leads where it is reckoned that it leads.
use Rattle.std.proofs.Common.{◌≡◌, ◌∙◌, ℕ, zero, suc, Bool, true, false, List, [], ◌∷◌, map, refl, sym, ap, subst, true≢false}
use Rattle.std.specs.Prelude.{Option, Some, None}
use Rattle.bt_host.specs.channel_model.specs.Giving.{Given, next_given}
use Rattle.bt_host.specs.host_link.specs.PuttingOut.{can_take_pdu, take_pdu, put_pieces, put_command}
use Rattle.bt_host.specs.host_model.specs.Profiles.{Profile}
use Rattle.bt_host.specs.host_model.specs.Hosts.{Host, next, says}
use Rattle.bt_host.specs.Stacks.{Standing, Saying, Says, DoesAll, with_line, says_all, leaves, pages}
use Rattle.bt_host.proofs.Stepping.{said_one, one_and_all, none_taken, none_is_next, says_one_less}
use Rattle.saying_laws.specs.Speaking.{MaySayNone, SaysUntilNone}
use Rattle.saying_laws.specs.Laws.{PdusAreSaidUntilNone, ItGoesUntilNone}

-- a host that may say no PDU has none
silent : {S : Type 0} (A : Profile S) (given : Option Given) (host : Host S) → says A given 0 host ≡ None
silent A None host = refl
silent A (Some given) host = refl

apart : {X : Type 0} (found : Option X) (one : X) → found ≡ None → found ≡ Some one → ⊥
apart found one none some = let both = sym none ∙ some in cc

module _ {S : Type 0} (A : Profile S) where
  -- ---- one PDU

  says_so : (pdu : List ℕ) (old new : Standing S) → Says A pdu old new → new ≡ record old { line = take_pdu pdu old.line; host = new.host }
  says_so pdu old new said =
      ap (λ line. record { line = line; host = new.host; paged = new.paged }) said.line ∙ ap (λ paged. record { line = take_pdu pdu old.line; host = new.host; paged = paged }) said.paged

  behind_one : (pdu : List ℕ) (old new : Standing S) → Says A pdu old new → says_all A old ≡ says_all A new
  behind_one pdu old new said = one_and_all A old ∙ ap (says_all A) (said_one A old new.host pdu said.may said.next ∙ sym (says_so pdu old new said))

  -- ---- it leads nowhere else

  behind_each : (pdus : List (List ℕ)) (old new : Standing S) → DoesAll A (map Saying pdus) old new → says_all A old ≡ says_all A new
  behind_each [] old new is = ap (says_all A) (sym is)
  behind_each (pdu ∷ pdus) old new (mid, one, more) = behind_one pdu old mid one ∙ behind_each pdus mid new more

  one_more : (now : Standing S) (pdu : List ℕ) (host : Host S) → can_take_pdu now.line ≡ true → next A now.host ≡ Some (pdu, host) → Says A pdu now (record now { line = take_pdu pdu now.line; host = host })
  one_more now pdu host may is = record { may = may; next = is; line = refl; paged = refl }

  stays_by : (can : Bool) (said : Option (List ℕ × Host S)) (now : Standing S) → can_take_pdu now.line ≡ can → next A now.host ≡ said → MaySayNone A now → says_all A now ≡ now
  stays_by false said now can_is said_is none = none_taken A now can_is
  stays_by true None now can_is said_is none = none_is_next A now said_is
  stays_by true (Some (pdu, host)) now can_is said_is none = absurd (none pdu _ (one_more now pdu host can_is said_is))

  leads_there : (old new : Standing S) → SaysUntilNone A old new → new ≡ says_all A old
  leads_there old new saying = sym (behind_each saying.pdus old new saying.said ∙ stays_by (can_take_pdu new.line) (next A new.host) new refl refl saying.none_left)

  -- ---- and it leads there

  stops_here : (now : Standing S) → MaySayNone A now → says_all A now ≡ now → SaysUntilNone A now (says_all A now)
  stops_here now none stays = subst (λ (s : Standing S). SaysUntilNone A now s) (sym stays) (record { pdus = []; said = refl; none_left = none })

  cannot : (now : Standing S) → can_take_pdu now.line ≡ false → MaySayNone A now
  cannot now off pdu next said = true≢false (sym said.may ∙ off)

  has_none : (now : Standing S) → next A now.host ≡ None → MaySayNone A now
  has_none now none pdu behind said = apart (next A now.host) (pdu, behind.host) none said.next

  spoken_by : (count : ℕ) (can : Bool) (said : Option (List ℕ × Host S)) (now : Standing S) → ((mid : Standing S) → mid.host.may_say ≡ count → SaysUntilNone A mid (says_all A mid)) → now.host.may_say ≡ suc count
      → can_take_pdu now.line ≡ can → next A now.host ≡ said → SaysUntilNone A now (says_all A now)
  spoken_by count false said now fewer is can_is said_is = stops_here now (cannot now can_is) (none_taken A now can_is)
  spoken_by count true None now fewer is can_is said_is = stops_here now (has_none now said_is) (none_is_next A now said_is)
  spoken_by count true (Some (pdu, host)) now fewer is can_is said_is =
      let mid : Standing S = record now { line = take_pdu pdu now.line; host = host } in
      let one = one_more now pdu host can_is said_is in
      let more = fewer mid (says_one_less A now host pdu count is said_is) in
      subst (λ (s : Standing S). SaysUntilNone A now s) (sym (behind_one pdu now mid one)) (record { pdus = pdu ∷ more.pdus; said = (mid, one, more.said); none_left = more.none_left })

  spoken : (count : ℕ) (now : Standing S) → now.host.may_say ≡ count → SaysUntilNone A now (says_all A now)
  spoken zero now is =
      let none : next A now.host ≡ None = ap (λ n. says A (next_given now.host.channels) n now.host) is ∙ silent A (next_given now.host.channels) now.host in
      stops_here now (has_none now none) (none_is_next A now none)
  spoken (suc count) now is = spoken_by count (can_take_pdu now.line) (next A now.host) now (λ mid mid_is. spoken count mid mid_is) is refl refl

pub said_until_none : {S : Type 0} → PdusAreSaidUntilNone S
said_until_none A old new = (leads_there A old new, λ is. subst (λ (s : Standing _). SaysUntilNone A old s) (sym is) (spoken A old.host.may_say old refl))

pub goes_until_none : {S : Type 0} → ItGoesUntilNone S
goes_until_none A old new = (
  λ goes. goes.behind ∙ ap (λ (s : Standing _). with_line put_command (pages A (leaves A (with_line put_command s)))) (leads_there A (with_line put_pieces old) goes.mid goes.says),
  λ is. record { mid = says_all A (with_line put_pieces old); says = spoken A old.host.may_say (with_line put_pieces old) refl; behind = is },
)
