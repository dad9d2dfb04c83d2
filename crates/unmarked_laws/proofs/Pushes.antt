-- Push after push the packets spell so many objects more, and none of one that was not sent.
use Rattle.std.proofs.Common.{◌≡◌, ℕ, List, [], ◌∷◌, ◌++◌, refl, sym, ap, ap₂, subst, ◌∙◌, append_assoc}
use Rattle.std.specs.List.{AllByRecursion, flat_map}
use Rattle.std.proofs.lemmas.List.Sums.{fold-append}
use Rattle.tape_laws.specs.bt_base.specs.declared.settings.Settings.{Settings}
use Rattle.tape_laws.specs.bt_base.specs.declared.settings.Transport.TheVariants.{L2cap}
use Rattle.tape_laws.specs.bt_base.specs.Objects.{Object}
use Rattle.tape_laws.specs.push_model.specs.Client.{own_maximum}
use Rattle.tape_laws.specs.push_laws.specs.Gains.{objects}
use Rattle.tape_laws.specs.push_laws.specs.Occurrences.{Occurrence}
use Rattle.tape_laws.specs.push_laws.specs.Parties.{server_side, Push, IsOffered, ended_with, over_pushes}
use Rattle.tape_laws.specs.host_laws.specs.Gaining.{IsDirect}
use Rattle.tape_laws.specs.host_laws.proofs.Gains.{state, states, gain, gain-both, objects-are_gained}
use Rattle.tape_laws.specs.request_laws.proofs.Feeding.{all_ahead, all_both}
use Rattle.done_laws.proofs.Linked.{ended}
use Rattle.unmarked_laws.specs.Unspelled.{AllSpellSo, WithheldSpellNone}
use Rattle.unmarked_laws.proofs.Open.{withheld_gains_none}

module _ (settings : Settings) where
  abbrev most : ℕ
  most = own_maximum L2cap settings

  -- behind the end of a link, or ahead of all, nothing is left
  abbrev IsClear : List Occurrence → Type 0
  IsClear past = states [] past ≡ []

  more_spelled : (past more : List Occurrence) → IsClear past → AllByRecursion IsDirect past → AllByRecursion IsDirect more → objects settings (past ++ more) ≡ objects settings past ++ gain (own_maximum L2cap settings) [] more
  more_spelled past more clear direct more_direct =
      objects-are_gained settings (past ++ more) (all_both IsDirect past more direct more_direct)
      ∙ (gain-both most [] past more
      ∙ ap₂ (λ (old new : List Object). old ++ new) (sym (objects-are_gained settings past direct)) (ap (λ (packets : List (List ℕ)). gain most packets more) clear))

  clear_more : (past : List Occurrence) (push : Push) → IsClear (past ++ ended_with push)
  clear_more past push = fold-append state [] past (ended_with push) ∙ ended push (states [] past)

  all_spell : (past : List Occurrence) (pushes : List Push) (last : Push) → IsClear past → AllByRecursion IsDirect past → AllByRecursion IsOffered pushes → IsOffered last → AllByRecursion IsDirect (over_pushes pushes last) → AllSpellSo settings past pushes last
  all_spell past [] last clear direct offered over more = record {
    here = gain most [] (server_side last.moves);
    spelled = more_spelled past (server_side last.moves) clear direct more;
    none = λ withheld. (withheld_gains_none most last over withheld).0;
  }
  all_spell past (push ∷ pushes) last clear direct offered over more =
      let one = ended_with push in
      let parts = all_ahead IsDirect one (over_pushes pushes last) (subst (AllByRecursion IsDirect) (append_assoc one (flat_map ended_with pushes) (server_side last.moves)) more) in (
        record { here = gain most [] one; spelled = more_spelled past one clear direct parts.0; none = λ withheld. (withheld_gains_none most push offered.0 withheld).1 },
        all_spell (past ++ one) pushes last (clear_more past push) (all_both IsDirect past one direct parts.0) offered.1 over parts.1,
      )

pub withheld_spell_none : WithheldSpellNone
withheld_spell_none settings pushes last offered over direct = all_spell settings [] pushes last refl tt offered over direct
