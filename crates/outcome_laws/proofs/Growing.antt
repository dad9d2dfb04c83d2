-- The PDUs of the links of fewer units are among those of more: so they have one command each too.
use Rattle.std.proofs.Common.{◌≡◌, ℕ, Bool, true, false, ◌&&◌, ◌==◌, List, [], ◌∷◌, ◌++◌, Option, Some, None, is_none, refl, sym, subst, append_assoc, append-nil, if◌then◌else◌}
use Rattle.std.specs.Prelude.{option_to_list}
use Rattle.std.specs.Option.{option_map, option_or}
use Rattle.std.specs.List.{AllByRecursion}
use Rattle.unit_laws.specs.scenario_laws.specs.push_terms.specs.declared.word.Side.TheVariants.{A}
use Rattle.unit_laws.specs.scenario_laws.specs.capture.specs.Links.{Link, Linking, LinkNews, Asked, Answered, LinkEnded, NoNews, link_news, longer, ends_with, after_news, linking}
use Rattle.unit_laws.specs.scenario_laws.specs.capture.specs.Moves.{Move}
use Rattle.unit_laws.specs.scenario_laws.specs.capture.specs.Pdus.{completed, pdus}
use Rattle.unit_laws.specs.scenario_laws.specs.capture.proofs.MoreLaws.{links-more, pdus-more}
use Rattle.unit_laws.specs.Living.{HasCommand, HaveCommands}
use Rattle.unit_laws.specs.Units.{lone_capture}
use Rattle.unit_laws.proofs.Running.{lone_moves}

all_front : {X : Type 0} (P : X → Type 0) (one two : List X) → AllByRecursion P (one ++ two) → AllByRecursion P one
all_front P [] two all = tt
all_front P (x ∷ one) two all = (all.0, all_front P one two all.1)

abbrev Tame : Link → Type 0
Tame link = AllByRecursion HasCommand (pdus link)

abbrev AreTame : Linking → Type 0
AreTame known = AllByRecursion Tame (known.past ++ option_to_list known.up)

-- ---- one unit less

shorter : (link : Link) (move : Move) → Tame (longer move link) → Tame link
shorter link move tame = all_front HasCommand (pdus link) (completed link.handle link.moves move) (subst (AllByRecursion HasCommand) (pdus-more link move) tame)

past_shorter : (past : List Link) (link : Link) (move : Move) → AllByRecursion Tame (past ++ longer move link ∷ []) → AllByRecursion Tame (past ++ link ∷ [])
past_shorter [] link move all = (shorter link move all.0, tt)
past_shorter (one ∷ past) link move all = (all.0, past_shorter past link move all.1)

up_shorter : (past : List Link) (up : Option Link) (move : Move) → AllByRecursion Tame (past ++ option_to_list (option_map (longer move) up)) → AllByRecursion Tame (past ++ option_to_list up)
up_shorter past None move all = all
up_shorter past (Some link) move all = past_shorter past link move all

made_shorter : (asked ok : Bool) (past : List Link) (handle : ℕ) (up : Option Link) (move : Move)
    → AllByRecursion Tame (past ++ option_to_list (option_or (if asked && ok && is_none up then Some (record { handle = handle; moves = [] }) else None) (option_map (longer move) up))) → AllByRecursion Tame (past ++ option_to_list up)
made_shorter asked ok past handle None move all = subst (AllByRecursion Tame) (sym (append-nil past)) (all_front Tame past _ all)
made_shorter true true past handle (Some link) move all = past_shorter past link move all
made_shorter true false past handle (Some link) move all = past_shorter past link move all
made_shorter false ok past handle (Some link) move all = past_shorter past link move all

ended_shorter : (handle : ℕ) (move : Move) (known : Linking) (up : Option Link) → known.up ≡ up → AreTame (ends_with handle move known up) → AreTame known
ended_shorter handle move known None is all = all
ended_shorter handle move known (Some link) is all = by (link.handle == handle) all
  where
    by : (here : Bool) → AreTame (if here then record known { past = known.past ++ link ∷ []; up = None } else record known { up = option_map (longer move) known.up }) → AreTame known
    by true ended = subst (λ (u : Option Link). AllByRecursion Tame (known.past ++ option_to_list u)) (sym is) (subst (AllByRecursion Tame) (append-nil (known.past ++ link ∷ [])) ended)
    by false on = up_shorter known.past known.up move on

news_shorter : (move : Move) (known : Linking) (news : LinkNews) → AreTame (after_news move known news) → AreTame known
news_shorter move known Asked all = up_shorter known.past known.up move all
news_shorter move known (Answered status handle) all = made_shorter known.asked (status == 0) known.past handle known.up move all
news_shorter move known (LinkEnded handle) all = ended_shorter handle move known known.up refl all
news_shorter move known NoNews all = up_shorter known.past known.up move all

-- ---- of a list

moved_shorter : (moved more : List Move) → AreTame (linking (moved ++ more)) → AreTame (linking moved)
moved_shorter moved [] all = subst (λ (l : List Move). AreTame (linking l)) (append-nil moved) all
moved_shorter moved (move ∷ more) all =
    let first = moved_shorter (moved ++ move ∷ []) more (subst (λ (l : List Move). AreTame (linking l)) (sym (append_assoc moved (move ∷ []) more)) all) in
    news_shorter move (linking moved) (link_news move) (subst AreTame (links-more moved move) first)

pub have_before : (moved more : List Move) → HaveCommands A (lone_capture A (moved ++ more)) → HaveCommands A (lone_capture A moved)
have_before moved more have =
    subst (λ (l : List Move). AreTame (linking l)) (sym (lone_moves A moved)) (moved_shorter moved more (subst (λ (l : List Move). AreTame (linking l)) (lone_moves A (moved ++ more)) have))
