-- Of which pushes the packets spell no object, whatever the inbox answers (IrOBEX 1.5, 3.4.3 and 3.4.5; Object Push Profile 1.2, 4.3).
use Rattle.std.specs.Prelude.{◌≡◌, Bool, true, false, List, [], ◌∷◌, ◌++◌, Some}
use Rattle.std.specs.List.{AllByRecursion}
use Rattle.tape_laws.specs.bt_base.specs.declared.settings.Settings.{Settings}
use Rattle.tape_laws.specs.bt_base.specs.Objects.{Object}
use Rattle.tape_laws.specs.push_terms.specs.declared.outcome.Outcome.{Outcome}
use Rattle.tape_laws.specs.push_terms.specs.declared.outcome.Outcome.TheVariants.{NoService, ShelfFault, Cancelled}
use Rattle.tape_laws.specs.push_laws.specs.Gains.{objects}
use Rattle.tape_laws.specs.push_laws.specs.Occurrences.{Occurrence}
use Rattle.tape_laws.specs.push_laws.specs.Parties.{server_side, Push, IsOffered, ended_with, over_pushes}
use Rattle.tape_laws.specs.host_laws.specs.Gaining.{IsDirect}
use Rattle.done_laws.specs.Kept.{client_of}

-- ---- a push

-- the outcomes with which the last packet of the object was not sent: it was given up, or no channel for it was found
abbrev pub is_withheld : Outcome → Bool
is_withheld NoService = true
is_withheld ShelfFault = true
is_withheld Cancelled = true
is_withheld outcome = false

-- it came to one of these
pub record IsWithheld (push : Push) : Type 0 where
  pub outcome : Outcome
  pub cause : (client_of push).cause ≡ Some outcome
  pub withheld : is_withheld outcome ≡ true

-- ---- push after push

-- By what happened to the server in a push the packets spell so many objects more: none, where its object was not sent.
pub record SpellsSo (settings : Settings) (past now : List Occurrence) (push : Push) : Type 0 where
  pub here : List Object
  pub spelled : objects settings now ≡ objects settings past ++ here
  pub none : IsWithheld push → here ≡ []

abbrev pub AllSpellSo : Settings → (past : List Occurrence) → (pushes : List Push) → (last : Push) → Type 0
AllSpellSo settings past [] last = SpellsSo settings past (past ++ server_side last.moves) last
AllSpellSo settings past (push ∷ pushes) last = SpellsSo settings past (past ++ ended_with push) push × AllSpellSo settings (past ++ ended_with push) pushes last

-- So it is of each of them over L2CAP, whatever becomes of the others and whatever the inbox answers.
abbrev pub WithheldSpellNone : Type 0
WithheldSpellNone = (settings : Settings) (pushes : List Push) (last : Push) → AllByRecursion IsOffered pushes → IsOffered last → AllByRecursion IsDirect (over_pushes pushes last) → AllSpellSo settings [] pushes last
