-- Over L2CAP a client opens two channels in one push at most.
use Rattle.std.proofs.Common.{◌≡◌, ℕ, ◌≤◌, ◌++◌, ◌&&◌, not, length, eqb, bit_and, Bool, true, false, List, [], ◌∷◌, Option, Some, None, refl, sym, ap, ◌∙◌, arith, append_assoc, if◌then◌else◌}
use Rattle.std.specs.List.{filter_map, flat_map, cons_option}
use Rattle.std.proofs.lemmas.Bool.{and_parts, eq-eqb}
use Rattle.std.proofs.lemmas.List.Elements.{filter_map-append}
use Rattle.link_talk.specs.bt_base.specs.declared.settings.Transport.{Transport}
use Rattle.link_talk.specs.bt_base.specs.declared.settings.Transport.TheVariants.{L2cap}
use Rattle.push_model.specs.sdp_elements.specs.declared.target.Target.{Target}
use Rattle.push_model.specs.sdp_elements.specs.Targets.{is_service_psm}
use Rattle.push_model.specs.Client.{Client, with_object}
use Rattle.push_model.specs.Events as events
use Rattle.push_model.specs.Events.{search_psm, rfcomm_psm}
use Rattle.push_model.specs.Steps.{Step, AskFeatures, OpenChannel}
use Rattle.push_laws.specs.Opening.{way_taken, targets_heard, way_to, whole_way, psm_opened, AreTwoAtMost, OpensTwoAtMost}
use Rattle.push_laws.proofs.Opening.{opens-the_target}

not_both : (a b : ℕ) → (eqb a b ≡ true → ⊥) → a ≡ b → ⊥
not_both a b differ same = differ (eq-eqb a b same)

off_of : (x : Bool) → not x ≡ true → x ≡ true → ⊥
off_of true e f = let g : false ≡ true = e in absurd cc
off_of false e f = let g : false ≡ true = f in absurd cc

-- what the record names is neither of the two
pub record IsOther (psm : ℕ) : Type 0 where
  pub not_search : psm ≡ search_psm → ⊥
  pub not_rfcomm : psm ≡ rfcomm_psm → ⊥

pub other_psm : (psm : ℕ) → is_service_psm psm ≡ true → IsOther psm
other_psm psm is =
    let both = and_parts (eqb (bit_and psm 0x0101) 0x0001) (not (eqb psm 0x0001) && not (eqb psm 0x0003)) is in
    let parts = and_parts (not (eqb psm 0x0001)) (not (eqb psm 0x0003)) both.1 in
    record { not_search = not_both psm 0x0001 (off_of (eqb psm 0x0001) parts.0); not_rfcomm = not_both psm 0x0003 (off_of (eqb psm 0x0003) parts.1) }

-- any other one stands for a channel that is not opened
abbrev some_psm : ℕ
some_psm = 0x1001

other_known : IsOther 0x1001
other_known = record { not_search = λ e. absurd cc; not_rfcomm = λ e. absurd cc }

first_alone : (taken behind : List Step) → OpenChannel search_psm ∷ [] ≡ taken ++ behind → AreTwoAtMost (filter_map psm_opened taken)
first_alone taken behind way =
    let psms = ap (filter_map psm_opened) way ∙ filter_map-append psm_opened taken behind in
    record {
      psm = some_psm;
      behind = filter_map psm_opened behind ++ some_psm ∷ [];
      all = ap (λ (ps : List ℕ). ps ++ some_psm ∷ []) psms ∙ append_assoc (filter_map psm_opened taken) (filter_map psm_opened behind) (some_psm ∷ []);
      not_search = other_known.not_search;
      not_rfcomm = other_known.not_rfcomm;
    }

two_opened : (psm : ℕ) (taken behind : List Step) → IsOther psm → OpenChannel search_psm ∷ AskFeatures ∷ OpenChannel psm ∷ [] ≡ taken ++ behind → AreTwoAtMost (filter_map psm_opened taken)
two_opened psm taken behind other way =
    record { psm = psm; behind = filter_map psm_opened behind; all = ap (filter_map psm_opened) way ∙ filter_map-append psm_opened taken behind; not_search = other.not_search; not_rfcomm = other.not_rfcomm }

named_service : (found : Option ℕ) (taken behind : List Step) → OpenChannel search_psm ∷ flat_map (way_to L2cap) (cons_option (events.kept_of is_service_psm found) []) ≡ taken ++ behind → AreTwoAtMost (filter_map psm_opened taken)
named_service None taken behind way = first_alone taken behind way
named_service (Some psm) taken behind way = by (is_service_psm psm) refl way
  where
    by : (is : Bool) → is_service_psm psm ≡ is → OpenChannel search_psm ∷ flat_map (way_to L2cap) (cons_option (if is then Some psm else None) []) ≡ taken ++ behind → AreTwoAtMost (filter_map psm_opened taken)
    by true is way = two_opened psm taken behind (other_psm psm is) way
    by false is way = first_alone taken behind way

two_by : (targets : List Target) (taken behind : List Step) → length targets ≤ 1 → whole_way L2cap targets ≡ taken ++ behind → AreTwoAtMost (filter_map psm_opened taken)
two_by [] taken behind one way = first_alone taken behind way
two_by (target ∷ []) taken behind one way = named_service target.l2cap taken behind way
two_by (target ∷ next ∷ targets) taken behind one way = absurd (omega (arith, one))

pub opens-two_at_most : OpensTwoAtMost
opens-two_at_most client name size deeds direct =
    let begun : Client = with_object name size client in
    let way = opens-the_target client name size deeds in
    two_by (targets_heard deeds begun) (way_taken deeds begun) way.behind way.one (ap (λ (t : Transport). whole_way t (targets_heard deeds begun)) (sym direct) ∙ way.way)
