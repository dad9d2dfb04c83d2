-- The packets that are outstanding, on the one link of a host.
use Rattle.std.proofs.Common.{◌≡◌, ℕ, ◌-◌, ◌<◌, ◌≤◌, true, false, eqb, ◌&&◌, nat_le, nat_lt, Option, Some, None, if◌then◌else◌, inl, inr, refl, sym, ap, ◌∙◌, arith}
use Rattle.std.proofs.lemmas.Bool.{cases_Bool, cases_lt, eqb-true, eqb-false, eq-eqb, lt-ltb, le-ltb, le-leb, lt-leb}
use Rattle.turn_laws.specs.acl_credits.specs.Ledgers.{Account, packets_of, packets_on, outstanding_on, less, without}
use Rattle.host_link.specs.Hearing.{given_back}
use Rattle.host_link.specs.CommandFlows.{is_number}
use Rattle.turn_laws.specs.world_model.specs.Stations.{is_handle}

-- packets are outstanding on the link that is up alone
abbrev pub IsAlone : Option (ℕ × ℕ) → Option ℕ → Type 0
IsAlone held link = (handle : ℕ) → 0 < packets_on held handle → link ≡ Some handle

pub same_handle : (handle : ℕ) (link : Option ℕ) → is_number handle link ≡ is_handle handle link
same_handle handle None = refl
same_handle handle (Some other) = refl

pub on_handle : (handle : ℕ) (link : Option ℕ) → is_handle handle link ≡ true → link ≡ Some handle
on_handle handle None is = cc
on_handle handle (Some other) is = ap (λ (n : ℕ). Some n) (eqb-true other handle is)

pub off_handle : (handle : ℕ) (link : Option ℕ) → is_handle handle link ≡ false → link ≡ Some handle → ⊥
off_handle handle None not_it is = cc
off_handle handle (Some other) not_it is = let same : other ≡ handle = cc in absurd (eqb-false other handle not_it same)

own : (holder count : ℕ) → packets_on (Some (holder, count)) holder ≡ count
own holder count = rw (eq-eqb holder holder refl) refl

pub at_most : (held : Option (ℕ × ℕ)) (handle : ℕ) → packets_on held handle ≤ packets_of held
at_most None handle = omega arith
at_most (Some held) handle = elim (cases_Bool (eqb held.0 handle)) [ inl is ↦ rw is (omega arith) | inr other ↦ rw other (omega arith) ]

some_other : (link : Option ℕ) (one two : ℕ) → link ≡ Some one → link ≡ Some two → one ≡ two
some_other link one two first second = let both : Some one ≡ Some two = sym first ∙ second in cc

-- on the link that is up there are all
pub on_own : (held : Option (ℕ × ℕ)) (link : Option ℕ) (handle : ℕ) → IsAlone held link → link ≡ Some handle → packets_on held handle ≡ packets_of held
on_own None link handle alone is = refl
on_own (Some held) link handle alone is =
    elim (cases_Bool (eqb held.0 handle)) [
      | inl same ↦ rw same refl
      | inr other ↦
          elim (cases_lt 0 held.1) [
            | inl some ↦
                let busy : 0 < packets_on (Some held) held.0 = omega (arith, own held.0 held.1) in
                absurd (eqb-false held.0 handle other (some_other link held.0 handle (alone held.0 busy) is))
            | inr none ↦ rw other (omega arith)
          ]
    ]

-- without a link there are none
pub none_off : (held : Option (ℕ × ℕ)) (link : Option ℕ) → IsAlone held link → link ≡ None → packets_of held ≡ 0
none_off None link alone off = refl
none_off (Some held) link alone off =
    elim (cases_lt 0 held.1) [
      | inl some ↦
          let busy : 0 < packets_on (Some held) held.0 = omega (arith, own held.0 held.1) in
          let up : link ≡ Some held.0 = alone held.0 busy in
          cc
      | inr none ↦ omega arith
    ]

-- off the link there are none
none_on_other : (held : Option (ℕ × ℕ)) (link : Option ℕ) (handle : ℕ) → IsAlone held link → is_handle handle link ≡ false → packets_on held handle ≡ 0
none_on_other held link handle alone other =
    elim (cases_lt 0 (packets_on held handle)) [
      | inl some ↦ absurd (off_handle handle link other (alone handle some))
      | inr none ↦ omega arith
    ]

-- when the link ends there are none
pub none_left : (held : Option (ℕ × ℕ)) (link : Option ℕ) (handle : ℕ) → IsAlone held link → link ≡ Some handle → packets_of (without handle held) ≡ 0
none_left None link handle alone is = refl
none_left (Some held) link handle alone is =
    elim (cases_Bool (eqb held.0 handle)) [
      | inl same ↦ rw same refl
      | inr other ↦ rw other (sym (on_own (Some held) link handle alone is) ∙ rw other refl)
    ]

-- ---- packets that are given back

fewer : (count : ℕ) (held : Option (ℕ × ℕ)) → packets_of (less count held) ≡ packets_of held - count
fewer count None = omega arith
fewer count (Some held) = refl

pub total_same : (account : Account) (entry : ℕ × ℕ) → (given_back account entry).total ≡ account.total
total_same account entry = elim (cases_Bool (nat_lt (outstanding_on account entry.0) entry.1)) [ inl lacks ↦ rw lacks refl | inr has ↦ rw has refl ]

given_if : (account : Account) (entry : ℕ × ℕ) (n : ℕ) → outstanding_on account entry.0 ≡ n
    → packets_of (given_back account entry).held ≡ (if nat_lt n entry.1 then packets_of account.held else packets_of account.held - entry.1)
given_if account entry n is =
    elim (cases_Bool (nat_lt n entry.1)) [
      | inl lacks ↦ rw (is, lacks) refl
      | inr has ↦ rw (is, has) (fewer entry.1 account.held)
    ]

either_way : (n count : ℕ) → (if nat_lt n count then n else n - count) ≡ (if true && nat_le count n then n - count else n)
either_way n count =
    elim (cases_lt n count) [
      | inl lacks ↦ rw (lt-ltb n count lacks, lt-leb count n lacks) refl
      | inr has ↦ rw (le-ltb n count has, le-leb count n has) refl
    ]

none_way : (n count : ℕ) → (if nat_lt 0 count then n else n - count) ≡ n
none_way n count =
    elim (cases_lt 0 count) [
      | inl some ↦ rw (lt-ltb 0 count some) refl
      | inr none ↦ rw (le-ltb 0 count none) (omega arith)
    ]

pub given : (account : Account) (link : Option ℕ) (handle count : ℕ) → IsAlone account.held link
    → packets_of (given_back account (handle, count)).held
    ≡ (if is_handle handle link && nat_le count (packets_of account.held) then packets_of account.held - count else packets_of account.held)
given account link handle count alone =
    let n : ℕ = packets_of account.held in
    elim (cases_Bool (is_handle handle link)) [
      | inl on ↦
          rw on (given_if account (handle, count) n (on_own account.held link handle alone (on_handle handle link on)) ∙ either_way n count)
      | inr off ↦
          rw off (given_if account (handle, count) 0 (none_on_other account.held link handle alone off) ∙ none_way n count)
    ]
