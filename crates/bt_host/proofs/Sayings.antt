-- What the half of a host above its line says.
use Rattle.std.proofs.Common.{◌≡◌, ◌∙◌, ◌≤◌, ◌-◌, ◌&&◌, nat_lt, ℕ, suc, Bool, true, false, List, [], ◌∷◌, ◌++◌, length, refl, sym, ap, subst, true≢false, arith, tests, if◌then◌else◌}
use Rattle.std.specs.Prelude.{Option, Some, None, take, drop}
use Rattle.bt_base.specs.Octets.{IsOctets}
use Rattle.bt_base.specs.declared.settings.Settings.{Settings}
use Rattle.channel_model.specs.Giving.{Given, IsPdu, next_given, after_given}
use Rattle.l2cap_channels.specs.Machine.{Machine}
use Rattle.shelf_model.specs.host_model.specs.Circumstances.{Circumstance}
use Rattle.shelf_model.specs.host_model.specs.Pdus.{is_frame}
use Rattle.shelf_model.specs.host_model.specs.Profiles.{Profile}
use Rattle.shelf_model.specs.host_model.specs.Hosts.{Host, drives, steps_behind, with_channels as on_channels, says_frame, after_said, says as say_given}
use Rattle.shelf_model.specs.host_model.proofs.Single.{only_pdu, pdu_is_frame}
use Rattle.bt_host.specs.Calls.{Does}
use Rattle.bt_host.specs.Uppers.{Upward, asking, says, GivesInto, SaysInto}
use Rattle.bt_host.proofs.Calling.{does_map, does_from}

first_of : (a b : Bool) → (a && b) ≡ true → a ≡ true
first_of true b both = refl
first_of false b both = absurd (true≢false (sym both))

-- a host that has a PDU to say may say one less then
pub one_less : {E : Type 0} (upper : Upward E) → says upper ≡ true → upper.may_say ≡ suc (upper.may_say - 1)
one_less upper holds = let some = first_of (nat_lt 0 upper.may_say) _ holds in grind (arith, tests, some)

pub front_is : (pdu room : List ℕ) (size : ℕ) → size ≡ length pdu → take size (pdu ++ room) ≡ pdu
front_is [] room size is = ap (λ n. take n room) is
front_is (x ∷ pdu) room size is = ap (λ n. take n (x ∷ (pdu ++ room))) is ∙ ap (λ xs. x ∷ xs) (front_is pdu room (length pdu) refl)

framed_so : {X : Type 0} (test : Bool) (x : X) → test ≡ true → (if test then Some x else None) ≡ Some x
framed_so true x holds = refl
framed_so false x holds = absurd (true≢false (sym holds))

module _ {E S P : Type 0} (profile : Settings → Profile S) (Answers : P → List Circumstance → P → Type 0) (pushing : E → P → List Circumstance → S) where
  one_said : (A : Profile S) (given : Given) (pdu : List ℕ) (count : ℕ) (host : Host S) → IsPdu given pdu → IsOctets pdu → length pdu ≤ 32775 → say_given A (Some given) (suc count) host ≡ Some (pdu, after_said A count host)
  one_said A given pdu count host is octets short =
      ap (λ xs. says_frame xs (after_said A count host)) (sym (only_pdu given pdu is)) ∙ framed_so (is_frame pdu) (pdu, after_said A count host) (pdu_is_frame given pdu is octets short)

  -- the next PDU of the channels is said, and the profile goes on
  pub says_into : (now mid after : Upward E) (machine : Machine) (end : E) (may_say count steps : ℕ) (first last : P) (into into' : List ℕ) (size : ℕ) → record { machine = machine; end = end; may_say = may_say } ≡ after
      → now.may_say ≡ suc count → steps ≡ steps_behind count → size ≤ 32775 → IsOctets (take size into') → GivesInto now into size mid into'
      → Does Answers (λ rest. drives (profile mid.machine.settings) steps (asking pushing first mid rest)) (asking pushing last after) first last
      → SaysInto (profile now.machine.settings) Answers (asking pushing first now) (asking pushing last (record { machine = machine; end = end; may_say = count })) first last into size into'
  says_into now mid after machine end may_say count steps first last into into' size view one same short octets gives goes_on =
      let A = profile now.machine.settings in
      let v = now.machine.channels in
      let fits : length gives.pdu ≤ 32775 = let same = gives.size_is in omega (arith, same, short) in
      let goes : Does Answers (λ rest. drives A (steps_behind count) (on_channels (after_given v) (asking pushing first now rest))) (asking pushing last (record { machine = machine; end = end; may_say = may_say })) first last =
      subst (λ (u : Upward E). Does Answers (λ rest. drives A (steps_behind count) (on_channels (after_given v) (asking pushing first now rest))) (asking pushing last u) first last) (sym view)
      (subst (λ (u : Upward E). Does Answers (λ rest. drives (profile u.machine.settings) (steps_behind count) (asking pushing first u rest)) (asking pushing last after) first last) gives.after
      (subst (λ (n : ℕ). Does Answers (λ rest. drives (profile mid.machine.settings) n (asking pushing first mid rest)) (asking pushing last after) first last) same goes_on)) in
      record {
        pdu = gives.pdu;
        says = does_from Answers _ (λ rest. Some (gives.pdu, record (drives A (steps_behind count) (on_channels (after_given v) (asking pushing first now rest))) { may_say = count })) _ first last
            (λ rest. ap (λ (n : ℕ). say_given A (next_given v) n (asking pushing first now rest)) one ∙ ap (λ (g : Option Given). say_given A g (suc count) (asking pushing first now rest)) gives.next
            ∙ one_said A gives.given gives.pdu count (asking pushing first now rest) gives.is_pdu (subst IsOctets (ap (take size) gives.written ∙ front_is gives.pdu (drop size into) size gives.size_is) octets) fits)
            (does_map Answers (λ (h : Host S). Some (gives.pdu, record h { may_say = count })) _ _ first last goes);
        size_is = gives.size_is;
        written = gives.written;
      }
