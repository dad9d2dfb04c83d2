-- Rounds end where the one order does: as long as no command can go out, each says the PDU that comes next in that, or takes a step that comes before it.
use Rattle.std.proofs.Common.{◌≡◌, ◌∙◌, ◌⊎◌, ℕ, zero, suc, Bool, true, false, is_some, List, refl, sym, ap, subst, inl, inr, true≢false, arith, if◌then◌else◌}
use Rattle.std.specs.Prelude.{Option, Some, None}
use Rattle.bt_host.specs.channel_model.specs.Giving.{Given, next_given, after_given}
use Rattle.bt_host.specs.host_link.specs.Lines.{Line}
use Rattle.bt_host.specs.host_link.specs.PuttingOut.{can_take_pdu, take_pdu, put_pieces, put_command}
use Rattle.bt_host.specs.host_model.specs.Hosts.{Host, with_channels, settles, strides, goes_on, drives, steps_behind, after_said, says, next}
use Rattle.bt_host.specs.host_model.specs.Pdus.{pdu_of, is_frame}
use Rattle.bt_host.specs.host_model.specs.Profiles.{Stride, Profile}
use Rattle.bt_host.specs.Stacks.{Standing, with_line, with_host, said_then, says_up_to, says_all, leaves, pages, goes_out}
use Rattle.order_laws.specs.Rounds.{Midway, on_line, given_alone, with_given, says_given, takes_step, steps_on, goes_round, goes_rounds, EndsInRounds}
use Rattle.order_laws.proofs.Lines.{NoCommand, none_put, none_behind, none_taken_behind, pieces_again, taken_again}

pub on_if : {X : Type 0} (test : Bool) (a b : X) → test ≡ true → (if test then a else b) ≡ a
on_if true a b on = refl
on_if false a b on = absurd (true≢false (sym on))

off_if : {X : Type 0} (test : Bool) (a b : X) → test ≡ false → (if test then a else b) ≡ b
off_if true a b off = absurd (true≢false off)
off_if false a b off = refl

module _ {S : Type 0} (A : Profile S) where
  -- ---- the steps that are left of a host

  pub asked : ℕ → Host S → Host S
  asked zero host = host
  asked (suc left) host = goes_on A (λ next. drives A left next) host

  pub drives_asked : (steps : ℕ) (host : Host S) → drives A steps host ≡ asked steps (settles A host)
  unfolding drives asked
  drives_asked zero host = refl
  drives_asked (suc left) host = refl

  may_by : (count left : ℕ) (has more : Bool) (host stride : Host S) → record (drives A left stride) { may_say = count } ≡ drives A left (record stride { may_say = count })
      → record (if has then host else (if more then drives A left stride else stride)) { may_say = count } ≡ (if has then record host { may_say = count } else (if more then drives A left (record stride { may_say = count }) else record stride { may_say = count }))
  may_by count left true more host stride same = refl
  may_by count left false true host stride same = same
  may_by count left false false host stride same = refl

  drives_may : (count steps : ℕ) (host : Host S) → record (drives A steps host) { may_say = count } ≡ drives A steps (record host { may_say = count })
  unfolding drives
  drives_may count zero host = refl
  drives_may count (suc left) host =
      let now = settles A host in
      let stride = A.steps now.channels now.profile in
      may_by count left (is_some (next_given now.channels)) stride.more now (strides A stride now) (drives_may count left (strides A stride now))

  pub has_pdu : (steps : ℕ) (host : Host S) → is_some (next_given host.channels) ≡ true → asked steps host ≡ host
  unfolding asked
  has_pdu zero host has = refl
  has_pdu (suc left) host has = on_if (is_some (next_given host.channels)) host _ has

  asked_may_by : (has more : Bool) (left : ℕ) (host stride : Host S) → (drives A left stride).may_say ≡ host.may_say → stride.may_say ≡ host.may_say → (if has then host else (if more then drives A left stride else stride)).may_say ≡ host.may_say
  asked_may_by true more left host stride goes same = refl
  asked_may_by false true left host stride goes same = goes
  asked_may_by false false left host stride goes same = same

  pub asked_may : (steps : ℕ) (host : Host S) → (asked steps host).may_say ≡ host.may_say
  unfolding asked
  asked_may zero host = refl
  asked_may (suc left) host =
      let stride = A.steps host.channels host.profile in
      asked_may_by (is_some (next_given host.channels)) stride.more left host (strides A stride host) (sym (ap (λ (h : Host S). h.may_say) (drives_may host.may_say left (strides A stride host)))) refl

  -- ---- where the steps that are left lead

  abbrev pub led : Midway S → Standing S
  led midway = with_host (asked midway.steps midway.now.host) midway.now

  strode_by : (has more : Bool) (left : ℕ) (now : Standing S) (stride : Host S) → drives A left stride ≡ asked left (settles A stride)
      → led (if has then record { now = now; steps = suc left } else (if more then record { now = with_host (settles A stride) now; steps = left } else record { now = with_host stride now; steps = 0 }))
      ≡ with_host (if has then asked (suc left) now.host else (if more then drives A left stride else stride)) now
  unfolding asked
  strode_by true more left now stride goes = refl
  strode_by false true left now stride goes = ap (λ (h : Host S). with_host h now) (sym goes)
  strode_by false false left now stride goes = refl

  same_either : {X : Type 0} (has : Bool) (a b : X) → (if has then (if has then a else b) else b) ≡ (if has then a else b)
  same_either true a b = refl
  same_either false a b = refl

  pub step_leads : (steps : ℕ) (now : Standing S) → led (takes_step A steps now) ≡ with_host (asked steps now.host) now
  unfolding asked
  step_leads zero now = refl
  step_leads (suc left) now =
      let stride = A.steps now.host.channels now.host.profile in
      let has = is_some (next_given now.host.channels) in
      strode_by has stride.more left now (strides A stride now.host) (drives_asked left (strides A stride now.host))
      ∙ ap (λ (h : Host S). with_host h now) (same_either has now.host (if stride.more then drives A left (strides A stride now.host) else strides A stride now.host))

  -- a step changes neither the line nor how many PDUs it may say
  pub record Alike (old new : Standing S) : Type 0 where
    pub line : new.line ≡ old.line
    pub may : new.host.may_say ≡ old.host.may_say

  alike_by : (has more : Bool) (left : ℕ) (now : Standing S) (stride : Stride S) → Alike now (let after : Midway S = if has then record { now = now; steps = suc left } else (if more then record { now = with_host (settles A (strides A stride now.host)) now; steps = left } else record { now = with_host (strides A stride now.host) now; steps = 0 }) in after.now)
  alike_by true more left now stride = record { line = refl; may = refl }
  alike_by false true left now stride = record { line = refl; may = refl }
  alike_by false false left now stride = record { line = refl; may = refl }

  pub step_alike : (steps : ℕ) (now : Standing S) → Alike now (takes_step A steps now).now
  step_alike zero now = record { line = refl; may = refl }
  step_alike (suc left) now = let stride = A.steps now.host.channels now.host.profile in alike_by (is_some (next_given now.host.channels)) stride.more left now stride

  -- ---- a PDU that the channels have

  -- with its steps behind it, the PDU is that of the one order
  pub record SaysSo (found : Option Given) (count : ℕ) (host : Host S) (pdu : List ℕ) (after : Host S) : Type 0 where
    pub has : is_some found ≡ true
    pub next_is : says A found count host ≡ Some (pdu, asked (steps_behind after.may_say) after)
    pub may : count ≡ suc after.may_say

  abbrev pdu_in : Option (List ℕ × Host S) → List ℕ → List ℕ
  pdu_in None other = other
  pdu_in (Some (pdu, host)) other = pdu

  abbrev host_in : Option (List ℕ × Host S) → Host S → Host S
  host_in None other = other
  host_in (Some (pdu, host)) other = host

  abbrev told_if : Bool → List ℕ → Host S → Option (List ℕ × Host S)
  told_if test octets host = let one : List ℕ × Host S = (octets, host) in if test then Some one else None

  framed_so : (test : Bool) (octets pdu : List ℕ) (whole alone after : Host S) (count : ℕ) → whole ≡ asked (steps_behind count) alone → alone.may_say ≡ count → told_if test octets alone ≡ Some (pdu, after)
      → (told_if test octets whole ≡ Some (pdu, asked (steps_behind after.may_say) after)) × (count ≡ after.may_say)
  framed_so false octets pdu whole alone after count goes may is = absurd cc
  framed_so true octets pdu whole alone after count goes may is =
      let same_pdu : octets ≡ pdu = ap (λ (said : Option (List ℕ × Host S)). pdu_in said octets) is in
      let same_host : alone ≡ after = ap (λ (said : Option (List ℕ × Host S)). host_in said alone) is in
      let same_count : count ≡ after.may_say = sym may ∙ ap (λ (h : Host S). h.may_say) same_host in
      (ap (λ (o : List ℕ). Some (o, whole)) same_pdu ∙ ap (λ (h : Host S). Some (pdu, h)) (goes ∙ ap (λ (n : ℕ). asked (steps_behind n) alone) same_count ∙ ap (asked (steps_behind after.may_say)) same_host), same_count)

  pub given_so : (found : Option Given) (count : ℕ) (host after : Host S) (pdu : List ℕ) → given_alone A found count host ≡ Some (pdu, after) → SaysSo found count host pdu after
  given_so None count host after pdu is = absurd cc
  given_so (Some given) zero host after pdu is = absurd cc
  given_so (Some given) (suc count) host after pdu is =
      let bare = with_channels (after_given host.channels) host in
      let goes = drives_may count (steps_behind count) bare ∙ drives_asked (steps_behind count) (record bare { may_say = count }) in
      let so = framed_so (is_frame (pdu_of given)) (pdu_of given) pdu (after_said A count host) (record (settles A bare) { may_say = count }) after count goes refl is in
      record { has = refl; next_is = so.0; may = ap suc so.1 }

  none_framed : (test : Bool) (one other : List ℕ × Host S) → (if test then Some one else None) ≡ None → (if test then Some other else None) ≡ None
  none_framed true one other is = absurd cc
  none_framed false one other is = refl

  none_so : (found : Option Given) (count : ℕ) (host : Host S) → given_alone A found count host ≡ None → says A found count host ≡ None
  none_so None count host is = refl
  none_so (Some given) zero host is = refl
  none_so (Some given) (suc count) host is = none_framed (is_frame (pdu_of given)) _ _ is

  -- ---- the one order

  stuck_at : (count : ℕ) (now : Standing S) → can_take_pdu now.line ≡ false → says_up_to A count now ≡ now
  unfolding says_up_to
  stuck_at zero now off = refl
  stuck_at (suc count) now off = off_if (can_take_pdu now.line) _ now off

  silent_at : (count : ℕ) (now : Standing S) → next A now.host ≡ None → says_up_to A count now ≡ now
  unfolding says_up_to
  silent_at zero now none = refl
  silent_at (suc count) now none = ap (λ said. if can_take_pdu now.line then said_then (λ mid. says_up_to A count mid) now said else now) none ∙ same_if (can_take_pdu now.line)
    where
      same_if : (test : Bool) → (if test then now else now) ≡ now
      same_if true = refl
      same_if false = refl

  pub says_one_more : (count : ℕ) (now : Standing S) (host : Host S) (pdu : List ℕ) → can_take_pdu now.line ≡ true → next A now.host ≡ Some (pdu, host) → says_up_to A (suc count) now ≡ says_up_to A count (record now { line = take_pdu pdu now.line; host = host })
  unfolding says_up_to
  says_one_more count now host pdu can is = on_if (can_take_pdu now.line) (said_then (λ mid. says_up_to A count mid) now (next A now.host)) now can ∙ ap (said_then (λ mid. says_up_to A count mid) now) is

  -- ---- rounds in which no command can go out

  record EndsAt (midway : Midway S) (said : Standing S) : Type 0 where
    count : ℕ
    last : Midway S
    rounds : goes_rounds A count midway ≡ last
    still : goes_round A last ≡ last
    free : NoCommand last.now.line
    said_is : said ≡ last.now

  abbrev AllEnd : ℕ → Type 0
  AllEnd may = (steps : ℕ) (midway : Midway S) → midway.now.host.may_say ≡ may → midway.steps ≡ steps → NoCommand midway.now.line → put_pieces midway.now.line ≡ midway.now.line → EndsAt midway (says_up_to A may (led midway))

  -- one round more
  round_first : (midway after : Midway S) (said : Standing S) → goes_round A midway ≡ after → EndsAt after said → EndsAt midway said
  unfolding goes_rounds
  round_first midway after said is ends = record {
    count = suc ends.count;
    last = ends.last;
    rounds = ap (goes_rounds A ends.count) is ∙ ends.rounds;
    still = ends.still;
    free = ends.free;
    said_is = ends.said_is;
  }

  no_round : (midway : Midway S) (said : Standing S) → goes_round A midway ≡ midway → NoCommand midway.now.line → said ≡ midway.now → EndsAt midway said
  unfolding goes_rounds
  no_round midway said still free is = record { count = 0; last = midway; rounds = refl; still = still; free = free; said_is = is }

  -- without pieces a round begins with the PDU; and no command comes behind it
  round_is : (midway mid : Midway S) → put_pieces midway.now.line ≡ midway.now.line → says_given A midway ≡ mid → NoCommand mid.now.line → goes_round A midway ≡ steps_on A mid
  round_is midway mid none is free =
      ap (λ (line : Line). steps_on A (on_line put_command (says_given A (on_line (λ l. line) midway)))) none
      ∙ (ap (λ (m : Midway S). steps_on A (on_line put_command m)) is ∙ ap (λ (line : Line). steps_on A (on_line (λ l. line) mid)) (none_put mid.now.line free))

  -- a PDU is said
  says_then : (may : ℕ) (below : (less : ℕ) → may ≡ suc less → AllEnd less) (midway : Midway S) (pdu : List ℕ) (after : Host S) → midway.now.host.may_say ≡ may → NoCommand midway.now.line → put_pieces midway.now.line ≡ midway.now.line
      → can_take_pdu midway.now.line ≡ true → given_alone A (next_given midway.now.host.channels) midway.now.host.may_say midway.now.host ≡ Some (pdu, after) → EndsAt midway (says_up_to A may (led midway))
  says_then may below midway pdu after may_is free none can gave =
      let host = midway.now.host in
      let so = given_so (next_given host.channels) host.may_say host after pdu gave in
      let less : may ≡ suc after.may_say = sym may_is ∙ so.may in
      let mid : Midway S = record { now = record midway.now { line = take_pdu pdu midway.now.line; host = after }; steps = steps_behind after.may_say } in
      let said : says_given A midway ≡ mid = on_if (can_take_pdu midway.now.line) _ midway can ∙ ap (λ (s : Option (List ℕ × Host S)). with_given s midway) gave in
      let mid_free = none_taken_behind pdu midway.now.line can free in
      let behind = steps_on A mid in
      let same = step_alike mid.steps mid.now in
      let here : led midway ≡ midway.now = ap (λ (h : Host S). with_host h midway.now) (has_pdu midway.steps host so.has) in
      let order = ap (says_up_to A may) here ∙ ap (λ (n : ℕ). says_up_to A n midway.now) less ∙ says_one_more after.may_say midway.now (asked (steps_behind after.may_say) after) pdu can so.next_is ∙ ap (says_up_to A after.may_say) (sym (step_leads mid.steps mid.now)) in
      subst (EndsAt midway) (sym order)
      (round_first midway behind _ (round_is midway mid none said mid_free)
      (below after.may_say less behind.steps behind same.may refl
      (subst NoCommand (sym same.line) mid_free)
      (subst (λ (line : Line). put_pieces line ≡ line) (sym same.line) (taken_again pdu midway.now.line))))

  -- none is said
  record SaysNone (midway : Midway S) : Type 0 where
    same : says_given A midway ≡ midway
    order : (count : ℕ) → asked midway.steps midway.now.host ≡ midway.now.host → says_up_to A count (led midway) ≡ midway.now

  none_takes : (midway : Midway S) → can_take_pdu midway.now.line ≡ false → SaysNone midway
  none_takes midway off = record {
    same = off_if (can_take_pdu midway.now.line) _ midway off;
    order = λ count here. ap (λ (h : Host S). says_up_to A count (with_host h midway.now)) here ∙ stuck_at count midway.now off;
  }

  none_gives : (midway : Midway S) → given_alone A (next_given midway.now.host.channels) midway.now.host.may_say midway.now.host ≡ None → SaysNone midway
  none_gives midway none = record {
    same = ap (λ (s : Option (List ℕ × Host S)). if can_take_pdu midway.now.line then with_given s midway else midway) none ∙ same_if (can_take_pdu midway.now.line);
    order = λ count here. ap (λ (h : Host S). says_up_to A count (with_host h midway.now)) here ∙ silent_at count midway.now (none_so (next_given midway.now.host.channels) midway.now.host.may_say midway.now.host none);
  }
    where
      same_if : (test : Bool) → (if test then midway else midway) ≡ midway
      same_if true = refl
      same_if false = refl

  rests_then : (may : ℕ) (midway : Midway S) → SaysNone midway → NoCommand midway.now.line → put_pieces midway.now.line ≡ midway.now.line → steps_on A midway ≡ midway → asked midway.steps midway.now.host ≡ midway.now.host → EndsAt midway (says_up_to A may (led midway))
  rests_then may midway says free none still here = no_round midway _ (round_is midway midway none says.same free ∙ still) free (says.order may here)

  abbrev Below : ℕ → Type 0
  Below may = (less : ℕ) → may ≡ suc less → AllEnd less

  -- with so many steps left
  abbrev EndWith : (may steps : ℕ) → Type 0
  EndWith may steps = (midway : Midway S) → midway.now.host.may_say ≡ may → midway.steps ≡ steps → NoCommand midway.now.line → put_pieces midway.now.line ≡ midway.now.line → EndsAt midway (says_up_to A may (led midway))

  either_way : (may : ℕ) → Below may → (midway : Midway S) → midway.now.host.may_say ≡ may → NoCommand midway.now.line → put_pieces midway.now.line ≡ midway.now.line → (SaysNone midway → EndsAt midway (says_up_to A may (led midway))) → EndsAt midway (says_up_to A may (led midway))
  either_way may below midway may_is free none silent = by (can_take_pdu midway.now.line) (given_alone A (next_given midway.now.host.channels) midway.now.host.may_say midway.now.host) refl refl
    where
      by : (can : Bool) (gave : Option (List ℕ × Host S)) → can_take_pdu midway.now.line ≡ can → given_alone A (next_given midway.now.host.channels) midway.now.host.may_say midway.now.host ≡ gave → EndsAt midway (says_up_to A may (led midway))
      by false gave can_is gave_is = silent (none_takes midway can_is)
      by true None can_is gave_is = silent (none_gives midway gave_is)
      by true (Some (pdu, after)) can_is gave_is = says_then may below midway pdu after may_is free none can_is gave_is

  end_waiting : (may : ℕ) → Below may → EndWith may zero
  unfolding asked
  end_waiting may below midway may_is steps_is free none =
      let still : steps_on A midway ≡ midway = ap (λ (n : ℕ). takes_step A n midway.now) steps_is ∙ sym (ap (λ (n : ℕ). record { now = midway.now; steps = n }) steps_is) in
      let here : asked midway.steps midway.now.host ≡ midway.now.host = ap (λ (n : ℕ). asked n midway.now.host) steps_is in
      either_way may below midway may_is free none (λ says. rests_then may midway says free none still here)

  -- a step that was taken leaves one step less, or none
  left_by : (has more : Bool) (left : ℕ) (now : Standing S) (stride : Stride S) → has ≡ false → (let after : Midway S = if has then record { now = now; steps = suc left } else (if more then record { now = with_host (settles A (strides A stride now.host)) now; steps = left } else record { now = with_host (strides A stride now.host) now; steps = 0 }) in (after.steps ≡ left) ⊎ (after.steps ≡ 0))
  left_by true more left now stride off = absurd (true≢false off)
  left_by false true left now stride off = inl refl
  left_by false false left now stride off = inr refl

  end_stepping : (may left : ℕ) → Below may → EndWith may left → EndWith may (suc left)
  end_stepping may left below fewer midway may_is steps_is free none = either_way may below midway may_is free none (λ says. by says (is_some (next_given midway.now.host.channels)) refl)
    where
      at_step : steps_on A midway ≡ takes_step A (suc left) midway.now
      at_step = ap (λ (n : ℕ). takes_step A n midway.now) steps_is

      by : SaysNone midway → (has : Bool) → is_some (next_given midway.now.host.channels) ≡ has → EndsAt midway (says_up_to A may (led midway))
      by says true has_is =
          let still : steps_on A midway ≡ midway = at_step ∙ (on_if (is_some (next_given midway.now.host.channels)) _ _ has_is ∙ sym (ap (λ (n : ℕ). record { now = midway.now; steps = n }) steps_is)) in
          rests_then may midway says free none still (has_pdu midway.steps midway.now.host has_is)
      by says false has_is =
          let behind : Midway S = steps_on A midway in
          let same = step_alike midway.steps midway.now in
          let stride = A.steps midway.now.host.channels midway.now.host.profile in
          let fewer_left = left_by (is_some (next_given midway.now.host.channels)) stride.more left midway.now stride has_is in
          let still_free = subst NoCommand (sym same.line) free in
          let still_none = subst (λ (line : Line). put_pieces line ≡ line) (sym same.line) none in
          let ends : EndsAt behind (says_up_to A may (led behind)) = elim fewer_left [
            | inl less ↦ fewer behind (same.may ∙ may_is) (ap (λ (m : Midway S). m.steps) at_step ∙ less) still_free still_none
            | inr waits ↦ end_waiting may below behind (same.may ∙ may_is) (ap (λ (m : Midway S). m.steps) at_step ∙ waits) still_free still_none
          ] in
          round_first midway behind _ (round_is midway midway none says.same free) (subst (EndsAt behind) (ap (says_up_to A may) (step_leads midway.steps midway.now)) ends)

  end_with : (may : ℕ) → Below may → (steps : ℕ) → EndWith may steps
  end_with may below zero = end_waiting may below
  end_with may below (suc left) = end_stepping may left below (end_with may below left)

  all_end : (may : ℕ) → AllEnd may
  all_end zero = end_with zero (λ less is. absurd (omega (arith, is)))
  all_end (suc may) = end_with (suc may) (λ less is. let same : may ≡ less = omega (arith, is) in subst AllEnd same (all_end may))

  pub led_waiting : (now : Standing S) → led (record { now = now; steps = 0 }) ≡ now
  unfolding asked
  led_waiting now = refl

  -- ---- all of it

  last_round : (count : ℕ) (midway : Midway S) → goes_rounds A (suc count) midway ≡ goes_round A (goes_rounds A count midway)
  unfolding goes_rounds
  last_round zero midway = refl
  last_round (suc count) midway = last_round count (goes_round A midway)

  pub first_round : (count : ℕ) (midway : Midway S) → goes_rounds A (suc count) midway ≡ goes_rounds A count (goes_round A midway)
  unfolding goes_rounds
  first_round count midway = refl

  pub rounds_end : (midway : Midway S) → NoCommand midway.now.line → EndsInRounds A midway (goes_out A (led midway))
  rounds_end midway free =
      let first = on_line put_pieces midway in
      let ends = all_end first.now.host.may_say first.steps first refl refl (none_behind midway.now.line free) (pieces_again midway.now.line) in
      let begun : goes_round A midway ≡ goes_round A first = ap (λ (line : Line). steps_on A (on_line put_command (says_given A (on_line (λ l. line) midway)))) (sym (pieces_again midway.now.line)) in
      let said : says_all A (led first) ≡ ends.last.now = ap (λ (n : ℕ). says_up_to A n (led first)) (asked_may first.steps first.now.host) ∙ ends.said_is in
      record {
        count = suc ends.count;
        last = ends.last;
        rounds = first_round ends.count midway ∙ (ap (goes_rounds A ends.count) begun ∙ (sym (first_round ends.count first) ∙ (last_round ends.count first ∙ (ap (goes_round A) ends.rounds ∙ ends.still))));
        still = ends.still;
        behind =
            ap (λ (now : Standing S). with_line put_command (pages A (leaves A (with_line put_command now)))) said
            ∙ ap (λ (line : Line). with_line put_command (pages A (leaves A (record ends.last.now { line = line })))) (none_put ends.last.now.line ends.free);
      }
